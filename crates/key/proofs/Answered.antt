-- A read's answer, with its lists put back into the walk: what goes on from it in a whole key.
use Prim.Native.Nat.{ℕ, ◌<◌}
use mathlib.Core.Path.{◌≡◌, sym, ap, ◌∙◌}
use mathlib.Core.List.{List}
use Rattle.std.specs.Prelude.{None, Some, Option}
use native.Mathlib.Omega.{arith}
use lib.ListN.{length}
use Rattle.rules.specs.File as File
use Rattle.rules.specs.File.{Tables, FieldTy}
use Rattle.rules.specs.Resolve as ResolveRules
use Rattle.rules.specs.Resolve.{Resolver, resolve, field_slot}
use Rattle.rules.specs.Walk.{whole_node, matched, field, whole_fields, whole_read}
use Rattle.state.specs.State.{State}
use Rattle.state.specs.Ops.{ops, skip}
use Rattle.slots.specs.Slots.{slot_of, slot_option}
use Rattle.slots.specs.declared.Slot.{Slot}
use Rattle.lists.specs.declared.Lists.{Lists}
use Rattle.resolve.specs.Resolved.{Answers}
use Rattle.resolve.specs.declared.Answer.{Answer}
use Rattle.walk.specs.Walk.{walk_state, lists_of, with_lists}
use Rattle.walk.specs.declared.Walk.{Walk}
use Rattle.field_cases.proofs.Reading.{answer-is}
use Rattle.key.specs.Cycle.{Gives, whole_field}

-- building falls where there is no slot
abbrev go_on : (File.Slot → State → State) → ResolveRules.Answer State → State
go_on found x = elim x.slot [ None ↦ skip x.walk | Some slot ↦ found slot x.walk ]

-- r is the walk w with the lists of an answer
module _ (T : Tables) (w r : Walk) (ans : Answer) (work work' plan : List ℕ) (l : Lists) (el : l ≡ lists_of w) (er : r ≡ with_lists w ans.lists) (s : State) where
  module _ (found : File.Slot → State → State) (g : Resolver State) (k : Answers g l work ans work') where
    answered : (o : Option Slot) → ans.slot ≡ o → go_on found (record { slot = slot_option o; walk = walk_state T r work' plan }) ≡ go_on found (g (walk_state T w work plan))
    answered o e =
        ap (λ (x : Option Slot). go_on found (record { slot = slot_option x; walk = walk_state T r work' plan })) (sym e)
        ∙ ap (go_on found) (answer-is T w r l ans work work' plan el er g k)

  module _ (a n : ℕ) (fs : List FieldTy) (k : Answers (resolve (ops T) T n) l work ans work') where
    pub read_none : ans.slot ≡ None → s ≡ skip (walk_state T r work' plan) → s ≡ whole_read (ops T) T a n fs (walk_state T w work plan)
    unfolding whole_read
    read_none e q = q ∙ answered (λ slot x. whole_fields (ops T) T a n slot 0 fs x) (resolve (ops T) T n) k None e

    pub read_some : {found : Slot} → ans.slot ≡ Some found → s ≡ whole_fields (ops T) T a n (slot_of found) 0 fs (walk_state T r work' plan) → s ≡ whole_read (ops T) T a n fs (walk_state T w work plan)
    unfolding whole_read
    read_some {found} e q = q ∙ answered (λ slot x. whole_fields (ops T) T a n slot 0 fs x) (resolve (ops T) T n) k (Some found) e

  module _ (a n : ℕ) (slot : File.Slot) (name t : ℕ) (path : File.FieldPath) (k : Answers (field_slot (ops T) T n slot name) l work ans work') where
    pub field-none : ans.slot ≡ None → s ≡ skip (walk_state T r work' plan) → s ≡ whole_field T a n slot name t path (walk_state T w work plan)
    unfolding whole_field
    field-none e q = q ∙ answered (λ found x. matched (ops T) T a (field (ops T) T a) (whole_node n found) found t path x) (field_slot (ops T) T n slot name) k None e

    pub field-some : {given : Slot} → ans.slot ≡ Some given → t < length T.types → (m : ℕ) → m ≡ whole_node n (slot_of given) → Gives T a t (λ below. matched (ops T) T a below m (slot_of given) t path (walk_state T r work' plan)) s → s ≡ whole_field T a n slot name t path (walk_state T w work plan)
    unfolding whole_field field
    field-some {given} e h m em q =
        q.is (length T.types) (omega arith)
        ∙ ap (λ (x : ℕ). matched (ops T) T a (field (ops T) T a) x (slot_of given) t path (walk_state T r work' plan)) em
        ∙ answered (λ found x. matched (ops T) T a (field (ops T) T a) (whole_node n found) found t path x) (field_slot (ops T) T n slot name) k (Some given) e
