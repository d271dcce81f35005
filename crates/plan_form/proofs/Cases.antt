-- The readings of a plan's items by cases, each with its condition as an order of numbers, so that `omega` shows it where it is used.
use Prim.Native.Nat.{ℕ, zero, suc, ◌+◌, ◌*◌, ◌≤◌, ◌<◌}
use mathlib.Core.Path.{◌≡◌, refl, sym, ap, ◌∙◌}
use mathlib.Core.Bool.{Bool, true, false}
use mathlib.Core.List.{List, [], ◌∷◌}
use mathlib.Core.Logic.{⊎_elim}
use native.Mathlib.Omega.{arith}
use borrow.Author.Tests.{le-leb, lt-leb}
use lib.ListN.{length, get_or}
use Rattle.rules.specs.Limits.{step_limit}
use Rattle.rules.specs.File.{Slot, FieldPath}
use Rattle.rules.specs.Events.{Code, Narrowing}
use Rattle.rules.specs.Placement.{SeekKeyPart, RangeEdge, Guide}
use Rattle.rules.specs.Read.{Read, Reader, follow, ◌>>=◌, pure, refuse, u8, u16, u32, many, kind, anchor, fuzzy_node, row_slot, key_slot, derived_slot, value_slot, const_slot}
use Rattle.rules.specs.Read.Read.{got, refused}
use Rattle.rules.specs.Read as Read
use Rattle.rules.specs.Reader as Reader
use Rattle.file.specs.Steps.{word, read_at, step_at, skim}
use Rattle.file.proofs.Readers.{lt-or-le, then-got, then-refused, byte-in, step-refused, step_same, Fixed, fixed-as, fixed-pure, fixed-many, fixed-u8, fixed-u16, fixed-u32, fixed-bytes, fixed_in, fixed_then, needs-fixed, needs-first, needs-bind, needs-kind, cut_short, SameSteps, alike_refl, alike-step, alike-value, alike-pure, alike-map, alike-fixed}
use Rattle.file.proofs.Suffix.{Suffix, ended, faulted}
use Rattle.file.proofs.Leaves.{slot_readers, kinded, kind-cut, kind-bad, kind-fixed}
use Rattle.file.proofs.Sections.{word-then}
use Rattle.plan_form.specs.Pieces.{then_at}
use Rattle.plan_form.proofs.Forward.{suffix-path, suffix-register_part, suffix-key, suffix-op, suffix-fuzzy_node}
use Rattle.std.specs.Prelude.{Result, Ok, Err, Option, None}

-- one reading after another
module _ {A B C : Type 0} (f : List ℕ) (p : ℕ) (r : Reader A) (k : A → Reader B) where
  pub seq-next : (s : Reader C) (q : ℕ) → Suffix r → ((a : A) → SameSteps (k a) s) → p ≤ length f → step_at f r p ≡ Ok q → step_at f (r >>= k) p ≡ step_at f s q
  seq-next s q x y h e =
      let w = ended f r p q x h e in
      step_same f _ _ _ _ (then-got f r k p w.value q w.is) ∙ alike-step f (y w.value) q

pub seq-fault : {A B : Type 0} (f : List ℕ) (p : ℕ) (r : Reader A) (k : A → Reader B) (x : ℕ) → step_at f r p ≡ Err x → step_at f (r >>= k) p ≡ Err x
seq-fault f p r k x e = step-refused f _ p x (then-refused f r k p x (faulted f r p x e))

-- the same by how the first one ended
module _ {A B C : Type 0} (f : List ℕ) (p : ℕ) (r : Reader A) (k : A → Reader B) (s : Reader C) (x : Suffix r) (y : (a : A) → SameSteps (k a) s) (h : p ≤ length f) where
  pub seq-step : step_at f (r >>= k) p ≡ then_at f s (step_at f r p)
  unfolding then_at
  seq-step = go (step_at f r p) refl
    where
      go : (z : Result ℕ ℕ) → step_at f r p ≡ z → step_at f (r >>= k) p ≡ then_at f s z
      go (Ok q) e = seq-next f p r k s q x y h e
      go (Err n) e = seq-fault f p r k n e

pub within : {A : Type 0} (f : List ℕ) {r : Reader A} → Suffix r → (p q : ℕ) → p ≤ length f → step_at f r p ≡ Ok q → q ≤ length f
within f {r} x p q h e = (ended f r p q x h e).within

pub then-fault : {A : Type 0} (f : List ℕ) (r : Reader A) (z : Result ℕ ℕ) (n : ℕ) → z ≡ Err n → Err n ≡ then_at f r z
unfolding then_at
then-fault f r z n e = ap (then_at f r) (sym e)

pub then_next : {A : Type 0} (f : List ℕ) (r : Reader A) (z : Result ℕ ℕ) (q : ℕ) → z ≡ Ok q → step_at f r q ≡ then_at f r z
unfolding then_at
then_next f r z q e = ap (then_at f r) (sym e)

pub alike_same : {A : Type 0} (r s : Reader A) → ((l : List ℕ) → r l ≡ s l) → SameSteps r s
unfolding skim ◌>>=◌
alike_same {A} r s e = record { ends = λ l. ap (λ (x : Read A). follow x (λ a. pure tt)) (e l) }

pub alike-trans : {A B C : Type 0} {r : Reader A} {s : Reader B} {t : Reader C} → SameSteps r s → SameSteps s t → SameSteps r t
alike-trans x y = record { ends = λ l. x.ends l ∙ y.ends l }

-- two bytes that are a number, and what is made of it
pub alike-number : {B : Type 0} (g : ℕ → B) → SameSteps (u16 >>= λ n. pure (g n)) (many 2 u8)
alike-number g = alike-map g (alike-fixed 2 fixed-u16 (fixed-bytes 2))

-- readings in a row, of which the last is s, as one item and s behind it
alike_then : {A B C D : Type 0} (r : Reader A) (k : A → Reader B) {j : A → Reader C} (s : Reader D) → ((a : A) → SameSteps (j a) (k a >>= λ b. s))
    → SameSteps (r >>= j) ((r >>= k) >>= λ b. s)
unfolding ◌>>=◌ follow
alike_then {A} r k s y = alike-trans (alike-value r y) (alike_same _ _ (λ l. go (r l)))
  where
    go : (u : Read A) → follow u (λ a. k a >>= λ b. s) ≡ follow (follow u k) (λ b. s)
    go (got a m) = refl
    go (refused n) = refl

alike-made : {B C D : Type 0} (b : B) {j : Reader C} (s : Reader D) → SameSteps j s → SameSteps j (pure b >>= λ x. s)
unfolding ◌>>=◌ follow pure
alike-made b s y = alike-trans y (alike_same _ _ (λ l. refl))

bytes-alike : {A : Type 0} (f : List ℕ) (n : ℕ) {r : Reader A} → Fixed n r → (p : ℕ) → step_at f r p ≡ step_at f (many n u8) p
bytes-alike f n x p = alike-step f (alike-fixed n x (fixed-bytes n)) p

-- a count, then as many
module _ {A : Type 0} (f : List ℕ) (r : Reader A) (p : ℕ) where
  pub counted-cut : p ≤ length f → length f < p + 2 → step_at f (Reader.counted r) p ≡ Err 3
  unfolding Reader.counted
  counted-cut h g = cut_short f 2 p (needs-first 2 _ (needs-fixed 2 fixed-u16)) h g

  pub counted-in : (n : ℕ) → p + 2 ≤ length f → n ≡ word f p → step_at f (Reader.counted r) p ≡ step_at f (many n r) (p + 2)
  unfolding Reader.counted
  counted-in n h e = step_same f _ _ _ _ (word-then f p _ h) ∙ ap (λ (j : ℕ). step_at f (many j r) (p + 2)) (sym e)

  -- both cases at once, as `counted_end` has them
  pub counted-ends : (z : Result ℕ ℕ) → p ≤ length f → (length f < p + 2 → z ≡ Err 3) → (p + 2 ≤ length f → z ≡ step_at f (many (word f p) r) (p + 2))
      → z ≡ step_at f (Reader.counted r) p
  counted-ends z h x y =
      ⊎_elim (λ (g : length f < p + 2). x g ∙ sym (counted-cut h g))
      (λ (g : p + 2 ≤ length f). y g ∙ sym (counted-in (word f p) g refl)) (lt-or-le (length f) (p + 2))

module _ (f : List ℕ) (p : ℕ) where
  words-fixed : (n : ℕ) → Fixed (2 * n) (many n u16)
  words-fixed n = fixed-as (n * 2) (2 * n) (omega arith) (fixed-many 2 fixed-u16 n)

  pub numbers-in : (n : ℕ) → p + 2 * n ≤ length f → step_at f (many n u16) p ≡ Ok (p + 2 * n)
  numbers-in n g = fixed_in f (2 * n) p (words-fixed n) g

  pub numbers-short : (n : ℕ) → p ≤ length f → length f < p + 2 * n → step_at f (many n u16) p ≡ Err 3
  numbers-short n h g = cut_short f (2 * n) p (needs-fixed (2 * n) (words-fixed n)) h g

  -- a path: its count of steps is judged first
  steps-fixed : (n : ℕ) → Fixed (4 * n) (many n u32)
  steps-fixed n = fixed-as (n * 4) (4 * n) (omega arith) (fixed-many 4 fixed-u32 n)

  steps-in : (n : ℕ) → n ≤ step_limit → Reader.steps n ≡ many n u32
  unfolding Reader.steps
  steps-in n h = ap (λ (b : Bool). elim b as (λ _. Reader (List ℕ)) [ true ↦ many n u32 | false ↦ refuse 5 ]) (le-leb _ _ h)

  steps-over : (n : ℕ) → step_limit < n → Reader.steps n ≡ refuse 5
  unfolding Reader.steps
  steps-over n h = ap (λ (b : Bool). elim b as (λ _. Reader (List ℕ)) [ true ↦ many n u32 | false ↦ refuse 5 ]) (lt-leb _ _ h)

  pub path-cut : p ≤ length f → length f < p + 3 → step_at f Reader.path p ≡ Err 3
  unfolding Reader.path
  path-cut h g = cut_short f 3 p (needs-bind 2 1 fixed-u16 (λ a. needs-first 1 _ (needs-fixed 1 fixed-u8))) h g

  path-steps : (n : ℕ) → p + 3 ≤ length f → n ≡ get_or f (p + 2) 0 → step_at f Reader.path p ≡ step_at f (Reader.steps n) (p + 3)
  unfolding Reader.path
  path-steps n h e =
      let g : p + 2 + 1 ≡ p + 3 = omega arith in
      step_same f _ _ _ _ (fixed_then f 2 p fixed-u16 _ (omega arith) ∙ byte-in f (p + 2) _ (omega arith))
      ∙ alike-step f (alike-map _ (alike_refl (Reader.steps (get_or f (p + 2) 0)))) (p + 2 + 1)
      ∙ ap (λ (j : ℕ). step_at f (Reader.steps j) (p + 2 + 1)) (sym e)
      ∙ ap (λ (j : ℕ). step_at f (Reader.steps n) j) g

  pub path-over : (n : ℕ) → p + 3 ≤ length f → n ≡ get_or f (p + 2) 0 → step_limit < n → step_at f Reader.path p ≡ Err 5
  unfolding refuse read_at
  path-over n h e g = path-steps n h e ∙ ap (λ (r : Reader (List ℕ)). step_at f r (p + 3)) (steps-over n g) ∙ step-refused f (refuse 5) (p + 3) 5 refl

  pub path-in : (n : ℕ) → p + 3 ≤ length f → n ≡ get_or f (p + 2) 0 → n ≤ step_limit → step_at f Reader.path p ≡ step_at f (many (4 * n) u8) (p + 3)
  path-in n h e g = path-steps n h e ∙ ap (λ (r : Reader (List ℕ)). step_at f r (p + 3)) (steps-in n g) ∙ bytes-alike f (4 * n) (steps-fixed n) (p + 3)

  -- what begins with a number
  word_first : {B C : Type 0} (k : ℕ → Reader B) (r : Reader C) → ((a : ℕ) → SameSteps (k a) r) → p + 2 ≤ length f → step_at f (u16 >>= k) p ≡ step_at f r (p + 2)
  word_first k r x h = step_same f _ _ _ _ (fixed_then f 2 p fixed-u16 k h) ∙ alike-step f (x _) (p + 2)

  word_cut : {B : Type 0} (k : ℕ → Reader B) → p ≤ length f → length f < p + 2 → step_at f (u16 >>= k) p ≡ Err 3
  word_cut k h g = cut_short f 2 p (needs-first 2 k (needs-fixed 2 fixed-u16)) h g

  pub register-cut : p ≤ length f → length f < p + 2 → step_at f Reader.register_part p ≡ Err 3
  unfolding Reader.register_part
  register-cut h g = word_cut _ h g

  pub register-in : p + 2 ≤ length f → step_at f Reader.register_part p ≡ step_at f Reader.path (p + 2)
  unfolding Reader.register_part
  register-in h = word_first _ _ (λ a. alike-map _ (alike_refl Reader.path)) h

  pub binding-cut : p ≤ length f → length f < p + 2 → step_at f Reader.binding p ≡ Err 3
  unfolding Reader.binding
  binding-cut h g = word_cut _ h g

  pub binding-in : p + 2 ≤ length f → step_at f Reader.binding p ≡ step_at f Reader.slot (p + 2)
  unfolding Reader.binding
  binding-in h = word_first _ _ (λ a. alike-map _ (alike_refl Reader.slot)) h

-- what begins with an address and a path
alike-register : {B C : Type 0} (k : ℕ → FieldPath → Reader B) (s : Reader C) → ((a : ℕ) (q : FieldPath) → SameSteps (k a q) s)
    → SameSteps (u16 >>= λ a. Reader.path >>= λ q. k a q) (Reader.register_part >>= λ x. s)
unfolding Reader.register_part
alike-register k s y = alike_then u16 _ s (λ a. alike_then Reader.path _ s (λ q. alike-made _ s (y a q)))

module _ (f : List ℕ) (p : ℕ) (h : p ≤ length f) where
  register-then : {B : Type 0} (n : ℕ) (r : Reader B) → SameSteps r (Reader.register_part >>= λ x. many n u8) → step_at f r p ≡ then_at f (many n u8) (step_at f Reader.register_part p)
  register-then n r x = alike-step f x p ∙ seq-step f p Reader.register_part _ (many n u8) suffix-register_part (λ a. alike_refl _) h

  pub field_slot-is : step_at f Reader.field_slot p ≡ then_at f (many 2 u8) (step_at f Reader.register_part p)
  unfolding Reader.field_slot
  field_slot-is = register-then 2 Reader.field_slot (alike-register _ _ (λ a q. alike-number _))

  pub select-is : step_at f Reader.select p ≡ then_at f (many 4 u8) (step_at f Reader.register_part p)
  unfolding Reader.select
  select-is = register-then 4 Reader.select (alike-register _ _ (λ a q. alike-map _ (alike-fixed 4 fixed-u32 (fixed-bytes 4))))

  pub part-is : step_at f Reader.part p ≡ then_at f (many 2 u8) (step_at f Reader.part_key p)
  unfolding Reader.part
  part-is = seq-step f p Reader.part_key _ (many 2 u8) suffix-key (λ k. alike-number _) h

-- the lists of readers of the kinds
abbrev plan_slots : List (Reader Slot)
plan_slots = row_slot ∷ key_slot ∷ derived_slot ∷ Reader.field_slot ∷ value_slot ∷ const_slot ∷ []

abbrev code_readers : List (Reader Code)
code_readers =
    refuse 5 ∷ pure Code.NyiDisjunction ∷ pure Code.NyiFactField ∷ pure Code.NyiNever ∷ pure Code.NyiRepeatedVariable ∷ pure Code.NyiValueField ∷
    pure Code.NyiValueMatch ∷ pure Code.NyiWholeKey ∷ pure Code.RejectTypeMismatch ∷ pure Code.RejectUnionArity ∷ pure Code.RejectUnknownAlternative ∷
    pure Code.RejectUnresolvedAccess ∷ []

abbrev key_readers : List (Reader SeekKeyPart)
key_readers = Reader.bytes_part ∷ Reader.register_part ∷ Reader.fact_part ∷ []

abbrev edge_readers : List (Reader (Option RangeEdge))
edge_readers = pure None ∷ Reader.edge_that false ∷ Reader.edge_that true ∷ []

abbrev guide_readers : List (Reader (Option Guide))
guide_readers = pure None ∷ Reader.guide_that ∷ []

abbrev op_readers : List (Reader Narrowing)
op_readers = Reader.bytes_op ∷ Reader.prefix_op ∷ Reader.register_op ∷ Reader.fact_op ∷ Reader.tag_op ∷ Reader.fuzzy_op ∷ Reader.own_op ∷ []

slots_same : (k : ℕ) → (k ≡ 3 → ⊥) → get_or plan_slots k (refuse 5) ≡ get_or slot_readers k (refuse 5)
slots_same zero n = refl
slots_same (suc zero) n = refl
slots_same (suc (suc zero)) n = refl
slots_same (suc (suc (suc zero))) n = absurd (n refl)
slots_same (suc (suc (suc (suc zero)))) n = refl
slots_same (suc (suc (suc (suc (suc zero))))) n = refl
slots_same (suc (suc (suc (suc (suc (suc k)))))) n = refl

code_fixed : (k : ℕ) → 0 < k → k < 12 → Fixed 0 (get_or code_readers k (refuse 5))
code_fixed zero h g = absurd (omega arith)
code_fixed (suc zero) h g = fixed-pure _
code_fixed (suc (suc zero)) h g = fixed-pure _
code_fixed (suc (suc (suc zero))) h g = fixed-pure _
code_fixed (suc (suc (suc (suc zero)))) h g = fixed-pure _
code_fixed (suc (suc (suc (suc (suc zero))))) h g = fixed-pure _
code_fixed (suc (suc (suc (suc (suc (suc zero)))))) h g = fixed-pure _
code_fixed (suc (suc (suc (suc (suc (suc (suc zero))))))) h g = fixed-pure _
code_fixed (suc (suc (suc (suc (suc (suc (suc (suc zero)))))))) h g = fixed-pure _
code_fixed (suc (suc (suc (suc (suc (suc (suc (suc (suc zero))))))))) h g = fixed-pure _
code_fixed (suc (suc (suc (suc (suc (suc (suc (suc (suc (suc zero)))))))))) h g = fixed-pure _
code_fixed (suc (suc (suc (suc (suc (suc (suc (suc (suc (suc (suc zero))))))))))) h g = fixed-pure _
code_fixed (suc (suc (suc (suc (suc (suc (suc (suc (suc (suc (suc (suc k)))))))))))) h g = absurd (omega arith)

pub alike-fuzzy : SameSteps Reader.fuzzy_op fuzzy_node
unfolding Reader.fuzzy_op fuzzy_node
alike-fuzzy = alike-value u16 (λ x. alike-value u8 (λ d. alike-value anchor (λ a. alike-pure _ _)))

-- what begins with a kind
module _ (f : List ℕ) (p : ℕ) where
  pub slot-cut : length f ≤ p → step_at f Reader.slot p ≡ Err 3
  unfolding Reader.slot
  slot-cut h = kind-cut f p plan_slots h

  pub key-cut : length f ≤ p → step_at f Reader.part_key p ≡ Err 3
  unfolding Reader.part_key
  key-cut h = kind-cut f p key_readers h

  pub edge-cut : length f ≤ p → step_at f Reader.edge p ≡ Err 3
  unfolding Reader.edge
  edge-cut h = kind-cut f p edge_readers h

  pub guide-cut : length f ≤ p → step_at f Reader.guide p ≡ Err 3
  unfolding Reader.guide
  guide-cut h = kind-cut f p guide_readers h

  pub op-cut : length f ≤ p → step_at f Reader.op p ≡ Err 3
  unfolding Reader.op
  op-cut h = kind-cut f p op_readers h

  -- a kind that holds nothing further
  plain : {A : Type 0} (rs : List (Reader A)) (k : ℕ) → p < length f → k ≡ get_or f p 0 → Fixed 0 (get_or rs k (refuse 5)) → step_at f (kind rs) p ≡ Ok (p + 1)
  plain rs k h e x =
      let g : p + 1 + 0 ≡ p + 1 = omega arith in
      kind-fixed f p rs k 0 h e x ∙ fixed_in f 0 (p + 1) (fixed-bytes 0) (omega arith) ∙ ap Ok g

  -- one that holds what another reader reads
  holds : {A B : Type 0} (rs : List (Reader A)) (k : ℕ) {s : Reader B} → p < length f → k ≡ get_or f p 0 → SameSteps (get_or rs k (refuse 5)) s
      → step_at f (kind rs) p ≡ step_at f s (p + 1)
  holds rs k h e x = kinded f p rs k h e ∙ alike-step f x (p + 1)

  module _ (h : p < length f) where
    pub slot-field : get_or f p 0 ≡ 3 → step_at f Reader.slot p ≡ step_at f Reader.field_slot (p + 1)
    unfolding Reader.slot
    slot-field e = kinded f p plan_slots 3 h (sym e)

    pub slot-other : (get_or f p 0 ≡ 3 → ⊥) → step_at f Reader.slot p ≡ step_at f Read.slot p
    unfolding Reader.slot Read.slot
    slot-other n =
        kinded f p plan_slots (get_or f p 0) h refl
        ∙ ap (λ (r : Reader Slot). step_at f r (p + 1)) (slots_same (get_or f p 0) n)
        ∙ sym (kinded f p slot_readers (get_or f p 0) h refl)

    pub key-bytes : get_or f p 0 ≡ 0 → step_at f Reader.part_key p ≡ step_at f Reader.text (p + 1)
    unfolding Reader.part_key Reader.bytes_part
    key-bytes e = holds key_readers 0 h (sym e) (alike-map _ (alike_refl Reader.text))

    pub key-register : get_or f p 0 ≡ 1 → step_at f Reader.part_key p ≡ step_at f Reader.register_part (p + 1)
    unfolding Reader.part_key
    key-register e = holds key_readers 1 h (sym e) (alike_refl Reader.register_part)

    pub key-fact : get_or f p 0 ≡ 2 → step_at f Reader.part_key p ≡ step_at f (many 2 u8) (p + 1)
    unfolding Reader.part_key Reader.fact_part
    key-fact e = holds key_readers 2 h (sym e) (alike-map _ (alike-fixed 2 fixed-u16 (fixed-bytes 2)))

    pub key-bad : 2 < get_or f p 0 → step_at f Reader.part_key p ≡ Err 5
    unfolding Reader.part_key
    key-bad g = kind-bad f p key_readers (get_or f p 0) h refl g

    pub edge_none : get_or f p 0 ≡ 0 → step_at f Reader.edge p ≡ Ok (p + 1)
    unfolding Reader.edge
    edge_none e = plain edge_readers 0 h (sym e) (fixed-pure None)

    edge-exclusive : get_or f p 0 ≡ 1 → step_at f Reader.edge p ≡ step_at f Reader.text (p + 1)
    unfolding Reader.edge Reader.edge_that
    edge-exclusive e = holds edge_readers 1 h (sym e) (alike-map _ (alike_refl Reader.text))

    edge-inclusive : get_or f p 0 ≡ 2 → step_at f Reader.edge p ≡ step_at f Reader.text (p + 1)
    unfolding Reader.edge Reader.edge_that
    edge-inclusive e = holds edge_readers 2 h (sym e) (alike-map _ (alike_refl Reader.text))

    pub edge-some : 0 < get_or f p 0 → get_or f p 0 ≤ 2 → step_at f Reader.edge p ≡ step_at f Reader.text (p + 1)
    edge-some a b = ⊎_elim (λ g. edge-exclusive (omega arith)) (λ g. edge-inclusive (omega arith)) (lt-or-le (get_or f p 0) 2)

    pub edge-bad : 2 < get_or f p 0 → step_at f Reader.edge p ≡ Err 5
    unfolding Reader.edge
    edge-bad g = kind-bad f p edge_readers (get_or f p 0) h refl g

    pub guide-none : get_or f p 0 ≡ 0 → step_at f Reader.guide p ≡ Ok (p + 1)
    unfolding Reader.guide
    guide-none e = plain guide_readers 0 h (sym e) (fixed-pure None)

    pub guide-some : get_or f p 0 ≡ 1 → step_at f Reader.guide p ≡ step_at f Reader.guide_that (p + 1)
    unfolding Reader.guide
    guide-some e = holds guide_readers 1 h (sym e) (alike_refl Reader.guide_that)

    pub guide-bad : 1 < get_or f p 0 → step_at f Reader.guide p ≡ Err 5
    unfolding Reader.guide
    guide-bad g = kind-bad f p guide_readers (get_or f p 0) h refl g

    op_bytes : get_or f p 0 ≡ 0 → step_at f Reader.op p ≡ step_at f Reader.text (p + 1)
    unfolding Reader.op Reader.bytes_op
    op_bytes e = holds op_readers 0 h (sym e) (alike-map _ (alike_refl Reader.text))

    op-prefix : get_or f p 0 ≡ 1 → step_at f Reader.op p ≡ step_at f Reader.text (p + 1)
    unfolding Reader.op Reader.prefix_op
    op-prefix e = holds op_readers 1 h (sym e) (alike-map _ (alike_refl Reader.text))

    pub op-text : get_or f p 0 ≤ 1 → step_at f Reader.op p ≡ step_at f Reader.text (p + 1)
    op-text a = ⊎_elim (λ g. op_bytes (omega arith)) (λ g. op-prefix (omega arith)) (lt-or-le (get_or f p 0) 1)

    pub op-register : get_or f p 0 ≡ 2 → step_at f Reader.op p ≡ step_at f Reader.register_part (p + 1)
    unfolding Reader.op Reader.register_op Reader.register_part
    op-register e = holds op_readers 2 h (sym e) (alike-value u16 (λ a. alike-value Reader.path (λ q. alike-pure _ _)))

    pub op-fact : get_or f p 0 ≡ 3 → step_at f Reader.op p ≡ step_at f (many 2 u8) (p + 1)
    unfolding Reader.op Reader.fact_op
    op-fact e = holds op_readers 3 h (sym e) (alike-map _ (alike-fixed 2 fixed-u16 (fixed-bytes 2)))

    pub op-tag : get_or f p 0 ≡ 4 → step_at f Reader.op p ≡ step_at f (many 4 u8) (p + 1)
    unfolding Reader.op Reader.tag_op
    op-tag e = holds op_readers 4 h (sym e) (alike-map _ (alike-fixed 4 fixed-u32 (fixed-bytes 4)))

    pub op-fuzzy : get_or f p 0 ≡ 5 → step_at f Reader.op p ≡ step_at f fuzzy_node (p + 1)
    unfolding Reader.op
    op-fuzzy e = holds op_readers 5 h (sym e) alike-fuzzy

    pub op-own : get_or f p 0 ≡ 6 → step_at f Reader.op p ≡ step_at f Reader.path (p + 1)
    unfolding Reader.op Reader.own_op
    op-own e = holds op_readers 6 h (sym e) (alike-map _ (alike_refl Reader.path))

    pub op-bad : 6 < get_or f p 0 → step_at f Reader.op p ≡ Err 5
    unfolding Reader.op
    op-bad g = kind-bad f p op_readers (get_or f p 0) h refl g

-- diagnostics
module _ (f : List ℕ) (p : ℕ) where
  pub diagnostic-cut : p ≤ length f → length f < p + 3 → step_at f Reader.diagnostic p ≡ Err 3
  unfolding Reader.diagnostic Reader.code
  diagnostic-cut h g = cut_short f 3 p (needs-bind 2 1 fixed-u16 (λ n. needs-first 1 _ (needs-kind code_readers))) h g

  module _ (h : p + 3 ≤ length f) where
    diagnostic-code : step_at f Reader.diagnostic p ≡ step_at f Reader.code (p + 2)
    unfolding Reader.diagnostic
    diagnostic-code = step_same f _ _ _ _ (fixed_then f 2 p fixed-u16 _ (omega arith)) ∙ alike-step f (alike-map _ (alike_refl Reader.code)) (p + 2)

    pub diagnostic-zero : get_or f (p + 2) 0 ≡ 0 → step_at f Reader.diagnostic p ≡ Err 5
    unfolding Reader.code refuse read_at
    diagnostic-zero e = diagnostic-code ∙ kinded f (p + 2) code_readers 0 (omega arith) (sym e) ∙ step-refused f (refuse 5) (p + 2 + 1) 5 refl

    pub diagnostic-bad : 11 < get_or f (p + 2) 0 → step_at f Reader.diagnostic p ≡ Err 5
    unfolding Reader.code
    diagnostic-bad g = diagnostic-code ∙ kind-bad f (p + 2) code_readers (get_or f (p + 2) 0) (omega arith) refl g

    pub diagnostic-off : (0 < get_or f (p + 2) 0 → 11 < get_or f (p + 2) 0) → step_at f Reader.diagnostic p ≡ Err 5
    diagnostic-off k = ⊎_elim (λ g. diagnostic-zero (omega arith)) (λ g. diagnostic-bad (k (omega arith))) (lt-or-le (get_or f (p + 2) 0) 1)

    pub diagnostic-in : 0 < get_or f (p + 2) 0 → get_or f (p + 2) 0 ≤ 11 → step_at f Reader.diagnostic p ≡ Ok (p + 3)
    unfolding Reader.code
    diagnostic-in a b =
        let g : p + 2 + 1 ≡ p + 3 = omega arith in
        diagnostic-code ∙ plain f (p + 2) code_readers (get_or f (p + 2) 0) (omega arith) refl (code_fixed (get_or f (p + 2) 0) a (omega arith)) ∙ ap Ok g

-- what begins with a path and ends in a node
module _ (f : List ℕ) (p : ℕ) where
  pub guide_that-next : (q : ℕ) → p ≤ length f → step_at f Reader.path p ≡ Ok q → step_at f Reader.guide_that p ≡ then_at f (many 2 u8) (step_at f fuzzy_node q)
  unfolding Reader.guide_that fuzzy_node
  guide_that-next q h e =
      seq-next f p Reader.path _ (fuzzy_node >>= λ n. many 2 u8) q suffix-path
      (λ t. alike_then u16 _ _ (λ x. alike_then u8 _ _ (λ d. alike_then anchor _ _ (λ a. alike-made _ _ (alike-number _))))) h e
      ∙ seq-step f q fuzzy_node _ (many 2 u8) suffix-fuzzy_node (λ n. alike_refl _) (within f suffix-path p q h e)

  pub guide_that-fault : (x : ℕ) → step_at f Reader.path p ≡ Err x → step_at f Reader.guide_that p ≡ Err x
  unfolding Reader.guide_that
  guide_that-fault x e = seq-fault f p Reader.path _ x e

  pub residual-next : (q : ℕ) → p ≤ length f → step_at f Reader.path p ≡ Ok q → step_at f Reader.residual p ≡ then_at f (many 2 u8) (step_at f Reader.op q)
  unfolding Reader.residual
  residual-next q h e =
      seq-next f p Reader.path _ (Reader.op >>= λ o. many 2 u8) q suffix-path (λ t. alike-value Reader.op (λ o. alike-number _)) h e
      ∙ seq-step f q Reader.op _ (many 2 u8) suffix-op (λ o. alike_refl _) (within f suffix-path p q h e)

  pub residual-fault : (x : ℕ) → step_at f Reader.path p ≡ Err x → step_at f Reader.residual p ≡ Err x
  unfolding Reader.residual
  residual-fault x e = seq-fault f p Reader.path _ x e
