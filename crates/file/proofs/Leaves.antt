-- The readings of single records by cases, each with its condition as an order of numbers, so that `omega` shows it where it is used.
use Prim.Native.Nat.{ℕ, zero, suc, ◌+◌, ◌*◌, ◌-◌, ◌≤◌, ◌<◌}
use mathlib.Core.Path.{◌≡◌, refl, sym, ap, ◌∙◌, subst}
use mathlib.Core.Bool.{Bool, true, false}
use mathlib.Core.List.{List, [], ◌∷◌, ◌++◌, map}
use native.Mathlib.Omega.{arith}
use native.Mathlib.Nat.{mul-le-mul}
use borrow.Author.Tests.{leb-true}
use lib.Dec.{leb}
use lib.ListN.{length, get_or, take, drop, length-drop, take-append-drop, get_or-eq_default}
use lib.Seq.{drop-drop, length-take-le}
use Rattle.rules.specs.Utf8.{UTF8-octets}
use Rattle.rules.proofs.Utf8.{bytes_whole}
use Rattle.rules.specs.Base.{all}
use Rattle.rules.specs.File.{Ty, Node, Slot, Anchor, CompareOp, compare_ops, op_of_number}
use Rattle.rules.specs.Read.{Reader, ◌>>=◌, pure, refuse, u8, u16, many, several, kind, well_formed, name, field_ty, alternative, fact_ty, record_ty, union_ty, type, predicate, anchor, field_pattern, one, two, int_node, bytes_node, fuzzy_node, record_node, node, path, row_slot, key_slot, derived_slot, field_slot, value_slot, const_slot, slot, binding, hoisted, fetched, constraint, op, comparison, level}
use Rattle.rules.specs.Read.Read.{got}
use Rattle.file.specs.Steps.{read_at, step_at, skim, record_of}
use Rattle.file.specs.Sections.{number_of}
use Rattle.file.specs.declared.Section.{Section}
use Rattle.file.proofs.Readers.{then-got, then-refused, kind-in, kind-out, several-in, several-out, step-got, step-refused, step_same, step-skim, Fixed, fixed-pure, fixed-bind, fixed-many, fixed-u8, fixed-u16, fixed-u32, fixed-optional, fixed-bytes, fixed_in, fixed_then, needs-fixed, needs-bind, needs-first, needs-kind, cut_short, SameSteps, alike_refl, alike-step, alike-value, alike-pure, alike-several, alike-map, alike-fixed}
use Rattle.file.proofs.Suffix.{ended, faulted, suffix-path}
use Rattle.std.specs.Prelude.{Ok, Err}

pub times : (w n : ℕ) → w ≤ 8 → n < 256 → n * w ≤ 2040
times w n h g =
    let g' : n ≤ 255 = omega arith in
    mul-le-mul {n₂ = 255} {m₂ = 8} g' h

-- readers of a number of bytes that does not vary
pub fixed-field_ty : Fixed 4 field_ty
unfolding field_ty
fixed-field_ty = fixed-bind 2 2 fixed-u16 (λ n. fixed-bind 2 0 fixed-u16 (λ t. fixed-pure _))

pub fixed-alternative : Fixed 8 alternative
unfolding alternative
fixed-alternative = fixed-bind 2 6 fixed-u16 (λ n. fixed-bind 4 2 fixed-u32 (λ d. fixed-bind 2 0 fixed-u16 (λ t. fixed-pure _)))

pub fixed-field_pattern : Fixed 4 field_pattern
unfolding field_pattern
fixed-field_pattern = fixed-bind 2 2 fixed-u16 (λ n. fixed-bind 2 0 fixed-u16 (λ t. fixed-pure _))

pub fixed-predicate : Fixed 4 predicate
unfolding predicate
fixed-predicate = fixed-bind 2 2 fixed-u16 (λ k. fixed-bind 2 0 fixed-optional (λ v. fixed-pure _))

pub fixed-hoisted : Fixed 4 hoisted
unfolding hoisted
fixed-hoisted = fixed-bind 2 2 fixed-u16 (λ n. fixed-bind 2 0 fixed-u16 (λ x. fixed-pure _))

pub fixed-constraint : Fixed 4 constraint
unfolding constraint
fixed-constraint = fixed-bind 2 2 fixed-u16 (λ n. fixed-bind 2 0 fixed-u16 (λ x. fixed-pure _))

pub fixed-level : Fixed 6 level
unfolding level
fixed-level = fixed-bind 2 4 fixed-u16 (λ p. fixed-bind 2 2 fixed-u16 (λ n. fixed-bind 2 0 fixed-u16 (λ a. fixed-pure _)))

fixed-one : (make : ℕ → Node) → Fixed 2 (one make)
unfolding one
fixed-one make = fixed-bind 2 0 fixed-u16 (λ a. fixed-pure _)

fixed-two : (make : ℕ → ℕ → Node) → Fixed 4 (two make)
unfolding two
fixed-two make = fixed-bind 2 2 fixed-u16 (λ a. fixed-bind 2 0 fixed-u16 (λ b. fixed-pure _))

-- the lists of readers of the kinds
abbrev pub type_readers : List (Reader Ty)
type_readers = pure Ty.Int ∷ pure Ty.Str ∷ pure Ty.Bytes ∷ fact_ty ∷ record_ty ∷ union_ty ∷ []

abbrev pub node_readers : List (Reader Node)
node_readers =
    int_node ∷ one Node.Str ∷ bytes_node ∷ one Node.Var ∷ pure Node.Wildcard ∷ pure Node.Never ∷ one Node.Prefix ∷ fuzzy_node ∷ record_node ∷ two Node.Access ∷
    one Node.Value ∷ two Node.Select ∷ pure Node.Disjunction ∷ pure Node.Subquery ∷ two Node.Fact ∷ pure Node.Arith ∷ pure Node.Error ∷ []

abbrev pub slot_readers : List (Reader Slot)
slot_readers = row_slot ∷ key_slot ∷ derived_slot ∷ field_slot ∷ value_slot ∷ const_slot ∷ []

-- the bytes of a record, and those after a kind, where their number is fixed
abbrev pub record_sizes : List ℕ
record_sizes = 0 ∷ 0 ∷ 4 ∷ 0 ∷ 0 ∷ 4 ∷ 0 ∷ 4 ∷ 0 ∷ 6 ∷ []

abbrev pub type_sizes : List ℕ
type_sizes = 0 ∷ 0 ∷ 0 ∷ 2 ∷ []

abbrev pub node_sizes : List ℕ
node_sizes = 8 ∷ 2 ∷ 0 ∷ 2 ∷ 0 ∷ 0 ∷ 2 ∷ 0 ∷ 0 ∷ 4 ∷ 2 ∷ 4 ∷ 0 ∷ 0 ∷ 4 ∷ 0 ∷ 0 ∷ []

abbrev pub slot_sizes : List ℕ
slot_sizes = 4 ∷ 4 ∷ 2 ∷ 0 ∷ 4 ∷ 2 ∷ []

pub type-fixed : (k : ℕ) → k < 4 → Fixed (get_or type_sizes k 0) (get_or type_readers k (refuse 5))
unfolding fact_ty
type-fixed zero h = fixed-pure _
type-fixed (suc zero) h = fixed-pure _
type-fixed (suc (suc zero)) h = fixed-pure _
type-fixed (suc (suc (suc zero))) h = fixed-bind 2 0 fixed-u16 (λ a. fixed-pure _)
type-fixed (suc (suc (suc (suc k)))) h = absurd (omega arith)

pub slot-fixed : (k : ℕ) → k < 6 → (k ≡ 3 → ⊥) → Fixed (get_or slot_sizes k 0) (get_or slot_readers k (refuse 5))
unfolding row_slot key_slot derived_slot value_slot const_slot
slot-fixed zero h n = fixed-bind 2 2 fixed-u16 (λ a. fixed-bind 2 0 fixed-optional (λ b. fixed-pure _))
slot-fixed (suc zero) h n = fixed-bind 2 2 fixed-u16 (λ a. fixed-bind 2 0 fixed-u16 (λ b. fixed-pure _))
slot-fixed (suc (suc zero)) h n = fixed-bind 2 0 fixed-u16 (λ a. fixed-pure _)
slot-fixed (suc (suc (suc zero))) h n = absurd (n refl)
slot-fixed (suc (suc (suc (suc zero)))) h n = fixed-bind 2 2 fixed-u16 (λ a. fixed-bind 2 0 fixed-u16 (λ b. fixed-pure _))
slot-fixed (suc (suc (suc (suc (suc zero))))) h n = fixed-bind 2 0 fixed-u16 (λ a. fixed-pure _)
slot-fixed (suc (suc (suc (suc (suc (suc k)))))) h n = absurd (omega arith)

pub node-fixed : (k : ℕ) → k < 17 → (k ≡ 2 → ⊥) → (k ≡ 7 → ⊥) → (k ≡ 8 → ⊥) → Fixed (get_or node_sizes k 0) (get_or node_readers k (refuse 5))
unfolding int_node
node-fixed zero h a b c = fixed-bind 8 0 (fixed-bytes 8) (λ a. fixed-pure _)
node-fixed (suc zero) h a b c = fixed-one _
node-fixed (suc (suc zero)) h a b c = absurd (a refl)
node-fixed (suc (suc (suc zero))) h a b c = fixed-one _
node-fixed (suc (suc (suc (suc zero)))) h a b c = fixed-pure _
node-fixed (suc (suc (suc (suc (suc zero))))) h a b c = fixed-pure _
node-fixed (suc (suc (suc (suc (suc (suc zero)))))) h a b c = fixed-one _
node-fixed (suc (suc (suc (suc (suc (suc (suc zero))))))) h a b c = absurd (b refl)
node-fixed (suc (suc (suc (suc (suc (suc (suc (suc zero)))))))) h a b c = absurd (c refl)
node-fixed (suc (suc (suc (suc (suc (suc (suc (suc (suc zero))))))))) h a b c = fixed-two _
node-fixed (suc (suc (suc (suc (suc (suc (suc (suc (suc (suc zero)))))))))) h a b c = fixed-one _
node-fixed (suc (suc (suc (suc (suc (suc (suc (suc (suc (suc (suc zero))))))))))) h a b c = fixed-two _
node-fixed (suc (suc (suc (suc (suc (suc (suc (suc (suc (suc (suc (suc zero)))))))))))) h a b c = fixed-pure _
node-fixed (suc (suc (suc (suc (suc (suc (suc (suc (suc (suc (suc (suc (suc zero))))))))))))) h a b c = fixed-pure _
node-fixed (suc (suc (suc (suc (suc (suc (suc (suc (suc (suc (suc (suc (suc (suc zero)))))))))))))) h a b c = fixed-two _
node-fixed (suc (suc (suc (suc (suc (suc (suc (suc (suc (suc (suc (suc (suc (suc (suc zero))))))))))))))) h a b c = fixed-pure _
node-fixed (suc (suc (suc (suc (suc (suc (suc (suc (suc (suc (suc (suc (suc (suc (suc (suc zero)))))))))))))))) h a b c = fixed-pure _
node-fixed (suc (suc (suc (suc (suc (suc (suc (suc (suc (suc (suc (suc (suc (suc (suc (suc (suc k))))))))))))))))) h a b c = absurd (omega arith)

bytes-alike : {A : Type 0} (f : List ℕ) (n : ℕ) {r : Reader A} → Fixed n r → (p : ℕ) → step_at f r p ≡ step_at f (many n u8) p
bytes-alike f n x p = alike-step f (alike-fixed n x (fixed-bytes n)) p

abbrev pub op_readers : List (Reader CompareOp)
op_readers = map pure compare_ops

pub op-known : (k : ℕ) → k < 4 → get_or op_readers k (refuse 5) ≡ pure (op_of_number k)
unfolding op_of_number
op-known zero h = refl
op-known (suc zero) h = refl
op-known (suc (suc zero)) h = refl
op-known (suc (suc (suc zero))) h = refl
op-known (suc (suc (suc (suc k)))) h = absurd (omega arith)

-- each size is small
small_all : (l : List ℕ) (b : ℕ) → all (λ x. leb x b) l ≡ true → (k : ℕ) → get_or l k 0 ≤ b
unfolding all
small_all [] b h k = omega arith
small_all (x ∷ l) b h k = go (leb x b) refl h k (λ g. small_all l b g)
  where
    go : (t : Bool) → leb x b ≡ t → elim t as (λ _. Bool) [ true ↦ all (λ y. leb y b) l | false ↦ false ] ≡ true → (k : ℕ) → (all (λ y. leb y b) l ≡ true → (k : ℕ) → get_or l k 0 ≤ b) → get_or (x ∷ l) k 0 ≤ b
    go true e g zero rec = leb-true x b e
    go true e g (suc k) rec = rec g k
    go false e g k rec = let z : ◌≡◌ {A = ℕ} 0 1 = cc in absurd (omega arith)

pub type-small : (k : ℕ) → get_or type_sizes k 0 ≤ 8
unfolding all
type-small = small_all type_sizes 8 refl

pub node-small : (k : ℕ) → get_or node_sizes k 0 ≤ 8
unfolding all
node-small = small_all node_sizes 8 refl

pub slot_small : (k : ℕ) → get_or slot_sizes k 0 ≤ 8
unfolding all
slot_small = small_all slot_sizes 8 refl

-- bytes that are there, as they stand
bytes-got : (f : List ℕ) (p n : ℕ) → p + n ≤ length f → read_at f (many n u8) p ≡ got (take n (drop p f)) (drop (p + n) f)
unfolding read_at
bytes-got f p n h =
    let room : n ≤ length (drop p f) = omega (arith, length-drop p f) in
    let k : n ≡ length (take n (drop p f)) = omega (arith, length-take-le n (drop p f) room) in
    ap (λ (l : List ℕ). many n u8 l) (sym (take-append-drop n (drop p f)))
    ∙ ap (λ (j : ℕ). many j u8 (take n (drop p f) ++ drop n (drop p f))) k
    ∙ bytes_whole (take n (drop p f)) (drop n (drop p f))
    ∙ ap (got (take n (drop p f))) (drop-drop n p f)

-- where a text that was read ends
module _ (f bytes : List ℕ) (q : ℕ) where
  pub text-good : true ≡ UTF8-octets bytes → q ≤ length f → step_at f (well_formed bytes) q ≡ Ok q
  unfolding well_formed read_at pure
  text-good e h = step-got f (well_formed bytes) q bytes q h (ap (λ (t : Bool). (elim t as (λ _. Reader (List ℕ)) [ true ↦ pure bytes | false ↦ refuse 6 ]) (drop q f)) (sym e))

  pub text-bad : false ≡ UTF8-octets bytes → step_at f (well_formed bytes) q ≡ Err 6
  unfolding well_formed read_at refuse
  text-bad e = step-refused f (well_formed bytes) q 6 (ap (λ (t : Bool). (elim t as (λ _. Reader (List ℕ)) [ true ↦ pure bytes | false ↦ refuse 6 ]) (drop q f)) (sym e))

module _ (f : List ℕ) (p : ℕ) where
  -- a kind's own byte
  module _ {A : Type 0} (rs : List (Reader A)) where
    pub kinded : (k : ℕ) → p < length f → k ≡ get_or f p 0 → step_at f (kind rs) p ≡ step_at f (get_or rs k (refuse 5)) (p + 1)
    kinded k h e = step_same f _ _ _ _ (kind-in f p rs h) ∙ ap (λ (j : ℕ). step_at f (get_or rs j (refuse 5)) (p + 1)) (sym e)

    pub kind-cut : length f ≤ p → step_at f (kind rs) p ≡ Err 3
    kind-cut h = step-refused f _ p 3 (kind-out f p rs h)

    pub kind-bad : (k : ℕ) → p < length f → k ≡ get_or f p 0 → length rs ≤ k → step_at f (kind rs) p ≡ Err 5
    unfolding refuse read_at
    kind-bad k h e g =
        kinded k h e ∙ ap (λ (r : Reader A). step_at f r (p + 1)) (get_or-eq_default rs (refuse 5) g) ∙ step-refused f (refuse 5) (p + 1) 5 refl

    pub kind-fixed : (k n : ℕ) → p < length f → k ≡ get_or f p 0 → Fixed n (get_or rs k (refuse 5)) → step_at f (kind rs) p ≡ step_at f (many n u8) (p + 1)
    kind-fixed k n h e x = kinded k h e ∙ bytes-alike f n x (p + 1)

  -- a count byte and as many records of w bytes
  pub several-cut : {A : Type 0} (r : Reader A) → length f ≤ p → step_at f (several r) p ≡ Err 3
  several-cut r h = step-refused f _ p 3 (several-out f p r h)

  pub several-fixed : {A : Type 0} {r : Reader A} (w n : ℕ) → Fixed w r → p < length f → n ≡ get_or f p 0 → step_at f (several r) p ≡ step_at f (many (n * w) u8) (p + 1)
  several-fixed {A} {r} w n x h e =
      step_same f _ _ _ _ (several-in f p r h) ∙ ap (λ (j : ℕ). step_at f (many j r) (p + 1)) (sym e) ∙ bytes-alike f (n * w) (fixed-many w x n) (p + 1)

  -- a name: read whole, then judged
  pub name-cut : length f ≤ p → step_at f name p ≡ Err 3
  unfolding name
  name-cut h = step-refused f _ p 3 (then-refused f (several u8) well_formed p 3 (several-out f p u8 h))

  module _ (n : ℕ) (h : p < length f) (e : n ≡ get_or f p 0) where
    bytes_of : read_at f (several u8) p ≡ read_at f (many n u8) (p + 1)
    bytes_of = several-in f p u8 h ∙ ap (λ (j : ℕ). read_at f (many j u8) (p + 1)) (sym e)

    pub name-short : length f < p + 1 + n → step_at f name p ≡ Err 3
    unfolding name
    name-short g =
        let few : step_at f (many n u8) (p + 1) ≡ Err 3 = cut_short f n (p + 1) (needs-fixed n (fixed-bytes n)) (omega arith) g in
        step-refused f _ p 3 (then-refused f (several u8) well_formed p 3 (bytes_of ∙ faulted f (many n u8) (p + 1) 3 few))

    pub name-whole : (q : ℕ) → q ≡ p + 1 + n → q ≤ length f → step_at f name p ≡ step_at f (well_formed (take (q - (p + 1)) (drop (p + 1) f))) q
    unfolding name
    name-whole q k g =
        let m : n ≡ q - (p + 1) = omega arith in
        let l : p + 1 + n ≤ length f = omega arith in
        step_same f _ _ _ _ (then-got f (several u8) well_formed p _ (p + 1 + n) (bytes_of ∙ bytes-got f (p + 1) n l))
        ∙ ap (λ (j : ℕ). step_at f (well_formed (take n (drop (p + 1) f))) j) (sym k)
        ∙ ap (λ (j : ℕ). step_at f (well_formed (take j (drop (p + 1) f))) q) m

  -- types by their kind
  module _ (k : ℕ) (h : p < length f) (e : k ≡ get_or f p 0) where
    pub type-plain : k < 4 → step_at f type p ≡ step_at f (many (get_or type_sizes k 0) u8) (p + 1)
    unfolding type
    type-plain g = kind-fixed type_readers k (get_or type_sizes k 0) h e (type-fixed k g)

    pub type-record : k ≡ 4 → step_at f type p ≡ step_at f (several (many 4 u8)) (p + 1)
    unfolding type record_ty
    type-record g = kinded type_readers 4 h (sym g ∙ e) ∙ alike-step f (alike-map Ty.Record (alike-several (alike-fixed 4 fixed-field_ty (fixed-bytes 4)))) (p + 1)

    pub type-union : k ≡ 5 → step_at f type p ≡ step_at f (several (many 8 u8)) (p + 1)
    unfolding type union_ty
    type-union g = kinded type_readers 5 h (sym g ∙ e) ∙ alike-step f (alike-map Ty.Union (alike-several (alike-fixed 8 fixed-alternative (fixed-bytes 8)))) (p + 1)

    pub type-bad : 5 < k → step_at f type p ≡ Err 5
    unfolding type
    type-bad g = kind-bad type_readers k h e g

    -- nodes by their kind
    pub node-plain : k < 17 → (k ≡ 2 → ⊥) → (k ≡ 7 → ⊥) → (k ≡ 8 → ⊥) → step_at f node p ≡ step_at f (many (get_or node_sizes k 0) u8) (p + 1)
    unfolding node
    node-plain g a b c = kind-fixed node_readers k (get_or node_sizes k 0) h e (node-fixed k g a b c)

    pub node-bytes : k ≡ 2 → step_at f node p ≡ step_at f (several (many 1 u8)) (p + 1)
    unfolding node bytes_node
    node-bytes g = kinded node_readers 2 h (sym g ∙ e) ∙ alike-step f (alike-map Node.Bytes (alike-several (alike-fixed 1 fixed-u8 (fixed-bytes 1)))) (p + 1)

    pub node-fuzzy : k ≡ 7 → step_at f node p ≡ step_at f fuzzy_node (p + 1)
    unfolding node
    node-fuzzy g = kinded node_readers 7 h (sym g ∙ e)

    pub node-record : k ≡ 8 → step_at f node p ≡ step_at f (several (many 4 u8)) (p + 1)
    unfolding node record_node
    node-record g = kinded node_readers 8 h (sym g ∙ e) ∙ alike-step f (alike-map Node.Record (alike-several (alike-fixed 4 fixed-field_pattern (fixed-bytes 4)))) (p + 1)

    pub node-bad : 16 < k → step_at f node p ≡ Err 5
    unfolding node
    node-bad g = kind-bad node_readers k h e g

    -- slots by their kind
    pub slot-plain : k < 6 → (k ≡ 3 → ⊥) → step_at f slot p ≡ step_at f (many (get_or slot_sizes k 0) u8) (p + 1)
    unfolding slot
    slot-plain g a = kind-fixed slot_readers k (get_or slot_sizes k 0) h e (slot-fixed k g a)

    pub slot-field : k ≡ 3 → step_at f slot p ≡ step_at f fetched (p + 1)
    unfolding slot field_slot fetched
    slot-field g = kinded slot_readers 3 h (sym g ∙ e) ∙ alike-step f (alike-value u16 (λ a. alike-value path (λ q. alike-value u16 (λ t. alike-pure _ _)))) (p + 1)

    pub slot-bad : 5 < k → step_at f slot p ≡ Err 5
    unfolding slot
    slot-bad g = kind-bad slot_readers k h e g

    -- comparisons by their op
    pub comparison-bad : 3 < k → step_at f comparison p ≡ Err 5
    unfolding comparison op
    comparison-bad g = step-refused f comparison p 5 (then-refused f op _ p 5 (faulted f op p 5 op-bad))
      where
        op-bad : step_at f op p ≡ Err 5
        op-bad = kind-bad op_readers k h e g

    pub comparison-in : k < 4 → step_at f comparison p ≡ step_at f (many 4 u8) (p + 1)
    unfolding comparison op read_at pure
    comparison-in g =
        step_same f _ _ _ _ (then-got f op _ p (op_of_number k) (p + 1) (kind-in f p op_readers h ∙ ap (λ (j : ℕ). get_or op_readers j (refuse 5) (drop (p + 1) f)) (sym e) ∙ ap (λ (r : Reader CompareOp). r (drop (p + 1) f)) (op-known k g)))
        ∙ bytes-alike f 4 (fixed-bind 2 2 fixed-u16 (λ l. fixed-bind 2 0 fixed-u16 (λ r. fixed-pure _))) (p + 1)

  pub type-cut : length f ≤ p → step_at f type p ≡ Err 3
  unfolding type
  type-cut h = kind-cut type_readers h

  pub node-cut : length f ≤ p → step_at f node p ≡ Err 3
  unfolding node
  node-cut h = kind-cut node_readers h

  pub slot-cut : length f ≤ p → step_at f slot p ≡ Err 3
  unfolding slot
  slot-cut h = kind-cut slot_readers h

  pub comparison-cut : length f ≤ p → step_at f comparison p ≡ Err 3
  unfolding comparison op
  comparison-cut h = step-refused f comparison p 3 (then-refused f op _ p 3 (kind-out f p op_readers h))

abbrev anchor_readers : List (Reader Anchor)
anchor_readers = pure Anchor.Prefix ∷ pure Anchor.Whole ∷ []

anchor-known : (k : ℕ) → k < 2 → (a : Anchor) × (get_or anchor_readers k (refuse 5) ≡ pure a)
anchor-known zero h = (Anchor.Prefix, refl)
anchor-known (suc zero) h = (Anchor.Whole, refl)
anchor-known (suc (suc k)) h = absurd (omega arith)

fixed-known : {A : Type 0} {r : Reader A} → (a : A) × (r ≡ pure a) → Fixed 0 r
fixed-known x = subst (λ r. Fixed 0 r) (sym x.1) (fixed-pure x.0)

-- records whose parts follow one another
module _ (f : List ℕ) (p : ℕ) where
  -- what follows a first number
  word-then : {B C : Type 0} (k : ℕ → Reader B) (r : Reader C) → ((a : ℕ) → SameSteps (k a) r) → p + 2 ≤ length f → step_at f (u16 >>= k) p ≡ step_at f r (p + 2)
  word-then k r x h = step_same f _ _ _ _ (fixed_then f 2 p fixed-u16 k h) ∙ alike-step f (x _) (p + 2)

  word_cut : {B : Type 0} (k : ℕ → Reader B) → p ≤ length f → length f < p + 2 → step_at f (u16 >>= k) p ≡ Err 3
  word_cut k h g = cut_short f 2 p (needs-first 2 k (needs-fixed 2 fixed-u16)) h g

  pub fuzzy-cut : p ≤ length f → length f < p + 4 → step_at f fuzzy_node p ≡ Err 3
  unfolding fuzzy_node anchor
  fuzzy-cut h g = cut_short f 4 p (needs-bind 2 2 fixed-u16 (λ x. needs-bind 1 1 fixed-u8 (λ d. needs-first 1 _ (needs-kind anchor_readers)))) h g

  fuzzy-anchor : p + 4 ≤ length f → step_at f fuzzy_node p ≡ step_at f anchor (p + 3)
  unfolding fuzzy_node
  fuzzy-anchor h =
      let e : p + 2 + 1 ≡ p + 3 = omega arith in
      step_same f _ _ _ _ (fixed_then f 2 p fixed-u16 _ (omega arith) ∙ fixed_then f 1 (p + 2) fixed-u8 _ (omega arith))
      ∙ alike-step f (alike-map _ (alike_refl anchor)) (p + 2 + 1)
      ∙ ap (λ (j : ℕ). step_at f anchor j) e

  pub fuzzy-bad : p + 4 ≤ length f → 1 < get_or f (p + 3) 0 → step_at f fuzzy_node p ≡ Err 5
  unfolding anchor
  fuzzy-bad h g = fuzzy-anchor h ∙ kind-bad f (p + 3) anchor_readers (get_or f (p + 3) 0) (omega arith) refl g

  pub fuzzy-in : p + 4 ≤ length f → get_or f (p + 3) 0 < 2 → step_at f fuzzy_node p ≡ Ok (p + 4)
  unfolding anchor
  fuzzy-in h g =
      let e : p + 3 + 1 ≡ p + 4 = omega arith in
      let n : p + 3 + 1 + 0 ≡ p + 3 + 1 = omega arith in
      fuzzy-anchor h ∙ kind-fixed f (p + 3) anchor_readers (get_or f (p + 3) 0) 0 (omega arith) refl (fixed-known (anchor-known (get_or f (p + 3) 0) g))
      ∙ fixed_in f 0 (p + 3 + 1) (fixed-bytes 0) (omega arith) ∙ ap Ok (n ∙ e)

  pub path-cut : p ≤ length f → length f < p + 2 → step_at f path p ≡ Err 3
  unfolding path
  path-cut h g = word_cut _ h g

  pub path-in : p + 2 ≤ length f → step_at f path p ≡ step_at f (several (many 4 u8)) (p + 2)
  unfolding path
  path-in h = word-then _ _ (λ a. alike-map _ (alike-several (alike-fixed 4 fixed-u32 (fixed-bytes 4)))) h

  pub fetched-cut : p ≤ length f → length f < p + 2 → step_at f fetched p ≡ Err 3
  unfolding fetched
  fetched-cut h g = word_cut _ h g

  pub fetched-fault : (x : ℕ) → p + 2 ≤ length f → step_at f path (p + 2) ≡ Err x → step_at f fetched p ≡ Err x
  unfolding fetched
  fetched-fault x h e = step-refused f fetched p x (fixed_then f 2 p fixed-u16 _ h ∙ then-refused f path _ (p + 2) x (faulted f path (p + 2) x e))

  pub fetched-in : (q : ℕ) → p + 2 ≤ length f → step_at f path (p + 2) ≡ Ok q → step_at f fetched p ≡ step_at f (many 2 u8) q
  unfolding fetched
  fetched-in q h e =
      let w = ended f path (p + 2) q suffix-path h e in
      step_same f _ _ _ _ (fixed_then f 2 p fixed-u16 _ h ∙ then-got f path _ (p + 2) w.value q w.is) ∙ alike-step f (alike-map _ (alike-fixed 2 fixed-u16 (fixed-bytes 2))) q

  pub binding-cut : p ≤ length f → length f < p + 2 → step_at f binding p ≡ Err 3
  unfolding binding
  binding-cut h g = word_cut _ h g

  pub binding-in : p + 2 ≤ length f → step_at f binding p ≡ step_at f slot (p + 2)
  unfolding binding
  binding-in h = word-then _ _ (λ a. alike-map _ (alike_refl slot)) h

pub path-within : (f : List ℕ) (p q : ℕ) → p ≤ length f → step_at f path p ≡ Ok q → q ≤ length f
path-within f p q h e = (ended f path p q suffix-path h e).within

-- a record of section s
module _ (f : List ℕ) (p : ℕ) where
  section-is : {A : Type 0} (s k : ℕ) (r : Reader A) → record_of k ≡ skim r → s ≡ k → step_at f (record_of s) p ≡ step_at f r p
  section-is s k r g e = ap (λ (j : ℕ). step_at f (record_of j) p) e ∙ ap (λ (t : Reader (Unit {0})). step_at f t p) g ∙ step-skim f r p

  module _ (s : ℕ) where
    pub record-name : s ≡ 0 → step_at f (record_of s) p ≡ step_at f name p
    unfolding record_of
    record-name e = section-is s 0 name refl e

    pub record-type : s ≡ 1 → step_at f (record_of s) p ≡ step_at f type p
    unfolding record_of
    record-type e = section-is s 1 type refl e

    pub record-node : s ≡ 3 → step_at f (record_of s) p ≡ step_at f node p
    unfolding record_of
    record-node e = section-is s 3 node refl e

    pub record-binding : s ≡ 4 → step_at f (record_of s) p ≡ step_at f binding p
    unfolding record_of
    record-binding e = section-is s 4 binding refl e

    pub record-fetched : s ≡ 6 → step_at f (record_of s) p ≡ step_at f fetched p
    unfolding record_of
    record-fetched e = section-is s 6 fetched refl e

    pub record-comparison : s ≡ 8 → step_at f (record_of s) p ≡ step_at f comparison p
    unfolding record_of
    record-comparison e = section-is s 8 comparison refl e

  pub record-fixed : (s : Section)
      → (s ≡ Section.Names → ⊥) → (s ≡ Section.Types → ⊥) → (s ≡ Section.Nodes → ⊥)
      → (s ≡ Section.Bindings → ⊥) → (s ≡ Section.Fetched → ⊥) → (s ≡ Section.Comparisons → ⊥)
      → step_at f (record_of (number_of s)) p ≡ step_at f (many (get_or record_sizes (number_of s) 0) u8) p
  unfolding record_of
  record-fixed Section.Names n t m b g c = absurd (n refl)
  record-fixed Section.Types n t m b g c = absurd (t refl)
  record-fixed Section.Predicates n t m b g c = section-is 2 2 predicate refl refl ∙ bytes-alike f 4 fixed-predicate p
  record-fixed Section.Nodes n t m b g c = absurd (m refl)
  record-fixed Section.Bindings n t m b g c = absurd (b refl)
  record-fixed Section.Hoisted n t m b g c = section-is 5 5 hoisted refl refl ∙ bytes-alike f 4 fixed-hoisted p
  record-fixed Section.Fetched n t m b g c = absurd (g refl)
  record-fixed Section.Constraints n t m b g c = section-is 7 7 constraint refl refl ∙ bytes-alike f 4 fixed-constraint p
  record-fixed Section.Comparisons n t m b g c = absurd (c refl)
  record-fixed Section.Levels n t m b g c = section-is 9 9 level refl refl ∙ bytes-alike f 6 fixed-level p
