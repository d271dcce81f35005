-- The plan's forms of selects and bindings: how long they are, and a slot's by its kind.
use mathlib.Core.Path.{◌≡◌, sym, ap, ◌∙◌}
use mathlib.Core.List.{List, ◌∷◌, ◌++◌}
use Prim.Native.Nat.{ℕ, ◌+◌}
use native.Mathlib.Omega.{arith}
use lib.ListN.{length, length-append}
use Rattle.rules.specs.File as File
use Rattle.rules.specs.Plan as Plan
use Rattle.state.specs.State.{noted}
use Rattle.records.specs.Records.{put}
use Rattle.slots.specs.Slots.{slot_with, slot_of}
use Rattle.slots.specs.declared.SlotKind.{SlotKind}
use Rattle.slots.specs.declared.Slot.{Slot}

-- where a record ends, from how long its path or slot is
pub select-end : (at n a d : ℕ) (p : File.FieldPath) → n ≡ length (Plan.path p) → at + n + 6 ≡ at + length (Plan.select (record { address = a; path = p; disc = d }))
unfolding Plan.select Plan.u16 Plan.u32
select-end at n a d p e = omega (arith, length-append (Plan.path p) (Plan.u32 d))

pub binding-end : (at n x : ℕ) (s : File.Slot) → n ≡ length (Plan.slot s) → at + 2 + n ≡ at + length (Plan.binding (record { name = x; slot = s }))
unfolding Plan.binding Plan.u16
binding-end at n x s e = omega arith

-- a record noted as the memory has its number and its place
pub noted-after : (w w' v : List ℕ) (x n at m from : ℕ) → w' ≡ noted x n at w → w ≡ v → n ≡ m → at ≡ from → w' ≡ noted x m from v
noted-after w w' v x n at m from h e f g = h ∙ λ i. noted x (f i) (g i) (e i)

pub field-size : (a n t : ℕ) (p : File.FieldPath) → n ≡ length (Plan.path p) → 5 + n ≡ length (Plan.slot (File.Slot.Field a p t))
unfolding Plan.slot Plan.u16
field-size a n t p e = omega (arith, length-append (Plan.path p) (Plan.u16 t))

-- a slot whose kind is known
module _ (s : Slot) (k : SlotKind) (e : s.kind ≡ k) where
  pub slot-size : (n : ℕ) → n ≡ length (Plan.slot (slot_with k s.path)) → n ≡ length (Plan.slot (slot_of s))
  slot-size n h = h ∙ ap (λ (j : SlotKind). length (Plan.slot (slot_with j s.path))) (sym e)

  pub slot-put : (w w' : List ℕ) (at : ℕ) (bytes : List ℕ) → w' ≡ put w at bytes → bytes ≡ Plan.slot (slot_with k s.path) → w' ≡ put w at (Plan.slot (slot_of s))
  slot-put w w' at bytes h g = h ∙ ap (put w at) (g ∙ ap (λ (j : SlotKind). Plan.slot (slot_with j s.path)) (sym e))

-- the same numbers after a kind
pub two_is : (k m n b : ℕ) → m ≡ n → k ∷ Plan.u16 m ++ Plan.u16 b ≡ k ∷ Plan.u16 n ++ Plan.u16 b
two_is k m n b e = ap (λ (j : ℕ). k ∷ Plan.u16 j ++ Plan.u16 b) e

pub one-is : (w w' : List ℕ) (at k m n : ℕ) → w' ≡ put w at (k ∷ Plan.u16 m) → m ≡ n → w' ≡ put w at (k ∷ Plan.u16 n)
one-is w w' at k m n h e = h ∙ ap (λ (j : ℕ). put w at (k ∷ Plan.u16 j)) e
