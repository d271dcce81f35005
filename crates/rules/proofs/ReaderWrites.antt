-- What a plan's reader reads is written back to the bytes it was read from, so one plan has one form; and it refuses by 16 or 17 and by nothing else.
use mathlib.Core.Bool.{true, false}
use mathlib.Core.List.{List, [], ◌∷◌, ◌++◌, append_assoc, append-nil}
use Rattle.std.specs.Prelude.{Option, None, Some, unwrap_or}
use mathlib.Core.Path.{◌≡◌, refl, sym, ap, ◌∙◌, subst}
use Prim.Native.Nat.{ℕ, zero, suc, ◌+◌, ◌*◌, ◌/◌, ◌%◌, ◌≤◌, ◌<◌}
use native.Mathlib.Omega.{arith}
use lib.Dec.{eqb, leb}
use lib.ListN.{length, get_or}
use Rattle.rules.specs.Base.{Each, more, concat_map}
use Rattle.rules.specs.Limits.{step_limit}
use Rattle.rules.specs.Read.{Read, got, refused, Reader, follow, ◌>>=◌, pure, refuse, many, kind, end}
use Rattle.rules.specs.Read
use Rattle.rules.specs.Events.{code_number}
use Rattle.rules.specs.Plan
use Rattle.rules.specs.Plan.{Plan, plan_bytes}
use Rattle.rules.specs.Reader
use Rattle.rules.specs.Demand1.{Byte}
use Rattle.rules.proofs.Cases.{by-test, leb-le, eqb-eq}
use Rattle.rules.proofs.Each.{Any}
use Rattle.rules.proofs.ReaderReads.{singles}

-- The logic. `before` was read already, `bytes` is what is left: a reader refuses by 3 to 7, or all that was read then is `taken`, Q holds of it and of what was
-- made of it, and L holds of the bytes after it.
data Answer {A : Type 0} (Q : List ℕ → A → Type 0) (L : List ℕ → Type 0) (before bytes : List ℕ) : Read A → Type 0 where
  gives : {a : A} {rest : List ℕ} (taken : List ℕ) → before ++ bytes ≡ taken ++ rest → Q taken a → L rest → Answer Q L before bytes (got a rest)
  refuses : {n : ℕ} → 3 ≤ n → n ≤ 7 → Answer Q L before bytes (refused n)

record After {A : Type 0} (before : List ℕ) (Q : List ℕ → A → Type 0) (L : List ℕ → Type 0) (r : Reader A) : Type 0 where
  answer : (bytes : List ℕ) → Each Byte bytes → Answer Q L before bytes (r bytes)

-- what is read has the property P and is written as the bytes that were read
abbrev Written : {A : Type 0} → (A → List ℕ) → (A → Type 0) → List ℕ → A → Type 0
Written encode P taken a = (taken ≡ encode a) × P a

abbrev Item : {A : Type 0} → Reader A → (A → List ℕ) → (A → Type 0) → Type 0
Item r encode P = After [] (Written encode P) (Each Byte) r

made : {A : Type 0} {Q : List ℕ → A → Type 0} {before : List ℕ} (a : A) → Q before a → After before Q (Each Byte) (pure a)
unfolding pure
made {before = before} a q = record { answer = λ bytes h. gives before refl q h }

refusing : {A : Type 0} {Q : List ℕ → A → Type 0} {before : List ℕ} → After before Q (Each Byte) (refuse 5)
unfolding refuse
refusing = record { answer = λ bytes h. refuses {n = 5} (omega arith) (omega arith) }

-- no byte is left
IsEmpty : List ℕ → Type 0
IsEmpty rest = rest ≡ []

ended : {A : Type 0} {Q : List ℕ → A → Type 0} {before : List ℕ} (a : A) → Q before a → After before Q IsEmpty (end a)
unfolding end IsEmpty
ended {A} {Q} {before} a q = record { answer = go }
  where
    go : (bytes : List ℕ) → Each Byte bytes → Answer Q IsEmpty before bytes (end a bytes)
    go [] h = gives before refl q refl
    go (b ∷ bytes) h = refuses {n = 7} (omega arith) (omega arith)

-- what was read before, and then the bytes of an item
joins : {B : Type 0} {Q : List ℕ → B → Type 0} {L : List ℕ → Type 0} (before item : List ℕ) {bytes rest : List ℕ} {x : Read B}
    → bytes ≡ item ++ rest → Answer Q L (before ++ item) rest x → Answer Q L before bytes x
joins before item {rest} e (gives taken t q h) = gives taken (ap (λ b. before ++ b) e ∙ sym (append_assoc before item rest) ∙ t) q h
joins before item e (refuses l m) = refuses l m

module _ {A B : Type 0} {encode : A → List ℕ} {P : A → Type 0} {Q : List ℕ → B → Type 0} {L : List ℕ → Type 0} {f : A → Reader B} {before : List ℕ} where
  -- an item, then what goes on with what it was
  goes_on : {bytes : List ℕ} {x : Read A} → Answer (Written encode P) (Each Byte) [] bytes x → ((a : A) → P a → After (before ++ encode a) Q L (f a))
      → Answer Q L before bytes (follow x f)
  unfolding follow
  goes_on (gives {a} {rest} taken e q h) k = joins before (encode a) (e ∙ ap (λ t. t ++ rest) q.0) ((k a q.1).answer rest h)
  goes_on (refuses l m) k = refuses l m

  item : {r : Reader A} → Item r encode P → ((a : A) → P a → After (before ++ encode a) Q L (f a)) → After before Q L (r >>= f)
  unfolding ◌>>=◌
  item h k = record { answer = λ bytes b. goes_on (h.answer bytes b) k }

module _ {A : Type 0} {encode : A → List ℕ} {P : A → Type 0} {Q : List ℕ → A → Type 0} {before : List ℕ} where
  -- an item that ends what is read
  last-answer : {bytes : List ℕ} {x : Read A} → Answer (Written encode P) (Each Byte) [] bytes x → ((a : A) → P a → Q (before ++ encode a) a)
      → Answer Q (Each Byte) before bytes x
  last-answer (gives {a} {rest} taken e q h) k = joins before (encode a) (e ∙ ap (λ t. t ++ rest) q.0) (gives (before ++ encode a) refl (k a q.1) h)
  last-answer (refuses l m) k = refuses l m

  last : {r : Reader A} → Item r encode P → ((a : A) → P a → Q (before ++ encode a) a) → After before Q (Each Byte) r
  last h k = record { answer = λ bytes b. last-answer (h.answer bytes b) k }

-- Numbers.
item-u8 : Item Read.u8 (λ b. b ∷ []) Byte
unfolding Read.u8
item-u8 = record { answer = go }
  where
    go : (bytes : List ℕ) → Each Byte bytes → Answer (Written (λ b. b ∷ []) Byte) (Each Byte) [] bytes (Read.u8 bytes)
    go [] h = refuses {n = 3} (omega arith) (omega arith)
    go (b ∷ bytes) (more p ps) = gives (b ∷ []) refl (refl, p) ps

-- a digit above the last does not count modulo 256
digit : (m x y : ℕ) → m ≡ x + 256 * y → x % 256 ≡ m % 256
digit m x y e = sym (ap (λ n. n % 256) e ∙ go x y)
  where
    go : (a b : ℕ) → (a + 256 * b) % 256 ≡ a % 256
    go a b = omega arith

small : (x : ℕ) → x < 256 → x ≡ x % 256
small x h = omega arith

low-high : (lo hi : ℕ) → lo < 256 → hi < 256 → lo ∷ hi ∷ [] ≡ Plan.u16 (lo + 256 * hi)
unfolding Plan.u16
low-high lo hi l h =
    let first : lo ≡ (lo + 256 * hi) % 256 = omega arith in
    let high : (lo + 256 * hi) / 256 ≡ hi = omega arith in
    let second : hi ≡ (lo + 256 * hi) / 256 % 256 = small hi h ∙ digit _ hi 0 (omega arith) in
    λ i. first i ∷ second i ∷ []

item-u16 : Item Read.u16 Plan.u16 (λ n. n < 65536)
unfolding Read.u16
item-u16 = item item-u8 λ lo l. item item-u8 λ hi h. made (lo + 256 * hi) (low-high lo hi l h, omega arith)

halves : (lo hi : ℕ) → lo < 65536 → hi < 65536 → Plan.u16 lo ++ Plan.u16 hi ≡ Plan.u32 (lo + 65536 * hi)
unfolding Plan.u16 Plan.u32
halves lo hi l h =
    let n = lo + 65536 * hi in
    let a : lo % 256 ≡ n % 256 = omega arith in
    let next : n / 256 ≡ lo / 256 + 256 * hi = omega arith in
    let b : lo / 256 % 256 ≡ n / 256 % 256 = digit _ (lo / 256) hi next in
    let high : n / 65536 ≡ hi = omega arith in
    let last : n / 16777216 ≡ hi / 256 = omega arith in
    let c : hi % 256 ≡ n / 65536 % 256 = digit _ hi 0 (omega arith) in
    let d : hi / 256 % 256 ≡ n / 16777216 % 256 = digit _ (hi / 256) 0 (omega arith) in
    λ i. a i ∷ b i ∷ c i ∷ d i ∷ []

item-u32 : Item Read.u32 Plan.u32 (λ n. n < 4294967296)
unfolding Read.u32
item-u32 = item item-u16 λ lo l. item item-u16 λ hi h. made (lo + 65536 * hi) (halves lo hi l h, omega arith)

none_or_lem : (n : ℕ) → n ≡ unwrap_or (elim (eqb n 65535) as (λ _. Option ℕ) [ true ↦ None | false ↦ Some n ]) 65535
none_or_lem n = by-test (λ (o : Option ℕ). n ≡ unwrap_or o 65535) (eqb n 65535) (λ e. eqb-eq n 65535 e) (λ e. refl)

item-optional : Item Read.optional Plan.optional Any
unfolding Read.optional Plan.optional
item-optional = item item-u16 λ n h. made _ (ap Plan.u16 (none_or_lem n), tt)

-- Lists.
module _ {A : Type 0} {r : Reader A} {encode : A → List ℕ} {P : A → Type 0} (h : Item r encode P) where
  item-many : (n : ℕ) → Item (many n r) (concat_map encode) (λ xs. length xs ≡ n)
  unfolding many concat_map
  item-many zero = made [] (refl, refl)
  item-many (suc n) = item h λ x _. item (item-many n) λ xs e. made (x ∷ xs) (refl, ap suc e)

  item-counted : Item (Reader.counted r) (Plan.counted encode) Any
  unfolding Reader.counted Plan.counted
  item-counted = item item-u16 λ n _. last (item-many n) λ xs e. (ap (λ k. Plan.u16 k ++ concat_map encode xs) (sym e), tt)

item-text : Item Reader.text Plan.text Any
unfolding Reader.text Plan.text Plan.counted
item-text = last (item-counted item-u8) λ bytes _. (ap (λ bs. Plan.u16 (length bytes) ++ bs) (singles bytes), tt)

item-steps : (n : ℕ) → Item (Reader.steps n) (concat_map Plan.u32) (λ ss. (length ss ≡ n) × (n ≤ step_limit))
unfolding Reader.steps
item-steps n = by-test (λ r. Item r (concat_map Plan.u32) (λ ss. (length ss ≡ n) × (n ≤ step_limit))) (leb n step_limit) (λ e. last (item-many item-u32 n) λ ss l. (refl, (l, leb-le _ _ e))) (λ e. refusing)

counts : (n m : ℕ) → m ≡ n → n ≤ step_limit → n ≡ m % 256
counts n m e h = omega arith

item-path : Item Reader.path Plan.path Any
unfolding Reader.path Plan.path Plan.u16
item-path =
    item item-u16 λ f _.
    item item-u8 λ n _.
    item (item-steps n) λ ss e.
    made _ (ap (λ k. Plan.u16 f ++ (k ∷ concat_map Plan.u32 ss)) (counts n (length ss) e.0 e.1), tt)

-- A kind's byte, then what its number has; k is the first one's number.
data Arms {A : Type 0} (Q : List ℕ → A → Type 0) : ℕ → List (Reader A) → Type 0 where
  none_left : {k : ℕ} → Arms Q k []
  ◌or◌ : {k : ℕ} {r : Reader A} {rs : List (Reader A)} → After (k ∷ []) Q (Each Byte) r → Arms Q (k + 1) rs → Arms Q k (r ∷ rs)

infixr 5 ◌or◌
arm : {A : Type 0} {Q : List ℕ → A → Type 0} (k : ℕ) {rs : List (Reader A)} → Arms Q k rs → (i : ℕ) → After ((k + i) ∷ []) Q (Each Byte) (get_or rs i (refuse 5))
arm k none_left i = refusing
arm {Q} k (◌or◌ {r} h hs) zero = subst (λ n. After (n ∷ []) Q (Each Byte) r) (omega arith) h
arm {Q} k (◌or◌ {rs} h hs) (suc i) = subst (λ n. After (n ∷ []) Q (Each Byte) (get_or rs i (refuse 5))) (omega arith) (arm (k + 1) hs i)

item-kind : {A : Type 0} {Q : List ℕ → A → Type 0} {rs : List (Reader A)} → Arms Q 0 rs → After [] Q (Each Byte) (kind rs)
unfolding kind
item-kind {Q} {rs} h = item item-u8 λ k _. subst (λ n. After (n ∷ []) Q (Each Byte) (get_or rs k (refuse 5))) (omega arith) (arm 0 h k)

item-anchor : Item Read.anchor (λ a. Plan.anchor a ∷ []) Any
unfolding Read.anchor Plan.anchor
item-anchor = item-kind (made _ (refl, tt) or made _ (refl, tt) or none_left)

-- The four lists.
item-slot : Item Reader.slot Plan.slot Any
unfolding Reader.slot Plan.slot Read.row_slot Read.key_slot Read.derived_slot Reader.field_slot Read.value_slot Read.const_slot
item-slot =
    item-kind
    ((item item-u16 λ a _. item item-optional λ p _. made _ (refl, tt))
    or (item item-u16 λ a _. item item-u16 λ t _. made _ (refl, tt))
    or (item item-u16 λ a _. made _ (refl, tt))
    or (item item-u16 λ a _. item item-path λ p _. item item-u16 λ t _. made _ (refl, tt))
    or (item item-u16 λ a _. item item-u16 λ t _. made _ (refl, tt))
    or (item item-u16 λ n _. made _ (refl, tt))
    or none_left)

item-binding : Item Reader.binding Plan.binding Any
unfolding Reader.binding Plan.binding
item-binding = item item-u16 λ x _. item item-slot λ s _. made _ (refl, tt)

item-select : Item Reader.select Plan.select Any
unfolding Reader.select Plan.select
item-select = item item-u16 λ a _. item item-path λ p _. item item-u32 λ d _. made _ (refl, tt)

item-code : Item Reader.code (λ c. code_number c ∷ []) Any
unfolding Reader.code code_number
item-code =
    item-kind
    (refusing or made _ (refl, tt) or made _ (refl, tt) or made _ (refl, tt) or made _ (refl, tt) or made _ (refl, tt) or made _ (refl, tt) or made _ (refl, tt)
    or made _ (refl, tt) or made _ (refl, tt) or made _ (refl, tt) or made _ (refl, tt) or none_left)

item-diagnostic : Item Reader.diagnostic Plan.diagnostic Any
unfolding Reader.diagnostic Plan.diagnostic
item-diagnostic = item item-u16 λ n _. item item-code λ c _. made _ (refl, tt)

-- A level.
item-key : Item Reader.part_key Plan.part_key Any
unfolding Reader.part_key Plan.part_key Reader.bytes_part Reader.register_part Reader.fact_part
item-key =
    item-kind
    ((item item-text λ bytes _. made _ (refl, tt))
    or (item item-u16 λ a _. item item-path λ p _. made _ (refl, tt))
    or (item item-u16 λ a _. made _ (refl, tt))
    or none_left)

item-part : Item Reader.part Plan.part Any
unfolding Reader.part Plan.part
item-part = item item-key λ k _. item item-u16 λ n _. made _ (refl, tt)

item-edge : Item Reader.edge Plan.edge Any
unfolding Reader.edge Plan.edge Reader.edge_that Plan.inclusive
item-edge = item-kind (made _ (refl, tt) or (item item-text λ value _. made _ (refl, tt)) or (item item-text λ value _. made _ (refl, tt)) or none_left)

item-seek : (n : ℕ) → Item (Reader.seek n) Plan.seek Any
unfolding Reader.seek Plan.seek Reader.prefix_seek Reader.composite_seek Reader.range_seek Reader.bounded_seek
item-seek n =
    item-kind
    ((item item-text λ bytes _. item (item-many item-u16 n) λ nodes _. made _ (refl, tt))
    or (item (item-many item-part n) λ parts _. made _ (refl, tt))
    or (item (item-many item-part n) λ parts _. item item-text λ prefix _. item item-path λ p _. item item-u16 λ node _. made _ (refl, tt))
    or (item (item-many item-part n) λ parts _. item item-edge λ lo _. item item-edge λ hi _. made _ (refl, tt))
    or none_left)

item-guide : Item Reader.guide Plan.guide Any
unfolding Reader.guide Plan.guide Reader.guide_that Plan.fuzzy Plan.u16
item-guide =
    item-kind
    (made _ (refl, tt)
    or (item item-path λ p _. item item-u16 λ x _. item item-u8 λ distance _. item item-anchor λ a _. item item-u16 λ n _. made _ (simp append_assoc, tt))
    or none_left)

item-op : Item Reader.op Plan.op Any
unfolding Reader.op Plan.op Reader.bytes_op Reader.prefix_op Reader.register_op Reader.fact_op Reader.tag_op Reader.fuzzy_op Reader.own_op Plan.fuzzy Plan.u16
item-op =
    item-kind
    ((item item-text λ bytes _. made _ (refl, tt))
    or (item item-text λ bytes _. made _ (refl, tt))
    or (item item-u16 λ a _. item item-path λ p _. made _ (refl, tt))
    or (item item-u16 λ a _. made _ (refl, tt))
    or (item item-u32 λ d _. made _ (refl, tt))
    or (item item-u16 λ x _. item item-u8 λ distance _. item item-anchor λ a _. made _ (refl, tt))
    or (item item-path λ p _. made _ (refl, tt))
    or none_left)

item-residual : Item Reader.residual Plan.residual Any
unfolding Reader.residual Plan.residual
item-residual = item item-path λ p _. item item-op λ o _. item item-u16 λ n _. made _ (refl, tt)

item-level : Item Reader.level Plan.level_bytes Any
unfolding Reader.level Plan.level_bytes
item-level =
    item item-u16 λ ns _.
    item item-u16 λ cs _.
    item item-u16 λ ps _.
    item (item-seek ps) λ s _.
    item item-guide λ g _.
    item (item-counted item-residual) λ rs _.
    item (item-counted item-u16) λ fs _.
    made _ (refl, tt)

whole-plan : After [] (λ taken p. taken ≡ plan_bytes p) IsEmpty Reader.plan
unfolding Reader.plan Plan.plan_bytes
whole-plan =
    item (item-counted item-level) λ ls _.
    item (item-counted item-binding) λ bs _.
    item (item-counted item-u16) λ ks _.
    item (item-counted item-select) λ ss _.
    item (item-counted item-diagnostic) λ ds _.
    ended _ refl

-- What reading a plan comes to: the plan whose bytes were read, all of them, or 16 or 17
pub data Reading (bytes : List ℕ) : Read Plan → Type 0 where
  whole : {p : Plan} → plan_bytes p ≡ bytes → Reading bytes (got p [])
  ends-or-unknown : {n : ℕ} → 16 ≤ n → n ≤ 17 → Reading bytes (refused n)

reading-of : {bytes : List ℕ} {x : Read Plan} → Answer (λ taken p. taken ≡ plan_bytes p) IsEmpty [] bytes x → Reading bytes (Reader.numbered x)
unfolding Reader.numbered IsEmpty
reading-of {bytes} (gives {a} {rest} taken t q e) =
    subst (λ (r : List ℕ). Reading bytes (got a r)) (sym e) (whole (sym (t ∙ ap (λ r. taken ++ r) e ∙ append-nil taken ∙ q)))
reading-of {bytes} (refuses {n} l m) =
    by-test (Reading bytes) (eqb n 3) (λ e. ends-or-unknown (omega arith) (omega arith)) (λ e. ends-or-unknown (omega arith) (omega arith))

pub reading : (bytes : List ℕ) → Each Byte bytes → Reading bytes (Reader.read bytes)
unfolding Reader.read
reading bytes h = reading-of (whole-plan.answer bytes h)
