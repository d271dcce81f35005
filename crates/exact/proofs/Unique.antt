-- One value: where the bytes of a value begin with those of another, and it has no zero byte in its texts, the two have the same bytes.
use mathlib.Core.Bool.{Bool, true, false}
use mathlib.Core.List.{List, [], ◌∷◌, ◌++◌, append_assoc, reverse}
use mathlib.Core.Path.{◌≡◌, refl, sym, ap, ap₂, ◌∙◌, subst}
use Prim.Native.Nat.{ℕ, suc}
use lib.ListN.{length, take, drop, length-reverse}
use lib.Seq.{take-append_seam, drop-append_seam}
use lib.Dec.{eqb}
use borrow.Author.Tests.{eq-eqb}
use Rattle.rules.specs.Base.{both, all}
use Rattle.rules.specs.Constant.{big_endian32, encode_int, escape, term, encode_prefix, encode_str, encode_bytes, encode_record, union_tag, encode_union}
use Rattle.rules.proofs.Cases.{ways, true≢false, both_left, both_right, both_true}
use Rattle.exact.specs.Values.{Value, Values, ◌and◌, big_endian64, encode_fact, encode, encode_all, no_zero, zero_free, all_zero_free}
use Rattle.exact.specs.Keys.{begins}
use Rattle.exact.proofs.Ends.{Apart, Whole, WholeAll, apart-all, flip-length}

-- lists by their first elements
head_or : ℕ → List ℕ → ℕ
head_or d [] = d
head_or d (a ∷ x) = a

tail_of : List ℕ → List ℕ
tail_of [] = []
tail_of (a ∷ x) = x

pub heads : (a b : ℕ) (x y : List ℕ) → a ∷ x ≡ b ∷ y → a ≡ b
unfolding head_or
heads a b x y e = ap (head_or a) e

pub tails : (a b : ℕ) (x y : List ℕ) → a ∷ x ≡ b ∷ y → x ≡ y
unfolding tail_of
tails a b x y e = ap tail_of e

pub differ : (a b : ℕ) (x y : List ℕ) → eqb a b ≡ false → a ∷ x ≡ b ∷ y → ⊥
differ a b x y f e = true≢false (sym (eq-eqb a b (heads a b x y e)) ∙ f)

-- two beginnings of one length
pub record Split (a b x y : List ℕ) : Type 0 where
  pub front : a ≡ b
  pub back : x ≡ y

pub split : (a b x y : List ℕ) → length a ≡ length b → a ++ x ≡ b ++ y → Split a b x y
split a b x y l e =
    record {
      front = sym (take-append_seam a x) ∙ ap (take (length a)) e ∙ ap (λ n. take n (b ++ y)) l ∙ take-append_seam b y;
      back = sym (drop-append_seam a x) ∙ ap (drop (length a)) e ∙ ap (λ n. drop n (b ++ y)) l ∙ drop-append_seam b y;
    }

pub cancel : (a x y : List ℕ) → a ++ x ≡ a ++ y → x ≡ y
cancel a x y e = (split a a x y refl e).back

-- Texts. The first has no zero byte, and after it comes no FF.
zero-not : (b : ℕ) (s : List ℕ) → no_zero (b ∷ s) ≡ true → (eqb b 0 ≡ false) × (no_zero s ≡ true)
unfolding no_zero all
zero-not b s h = go (eqb b 0) refl h
  where
    go : (t : Bool) → eqb b 0 ≡ t → elim (elim t as (λ _. Bool) [ true ↦ false | false ↦ true ]) as (λ _. Bool) [ true ↦ no_zero s | false ↦ false ] ≡ true → (eqb b 0 ≡ false) × (no_zero s ≡ true)
    go true q k = absurd (true≢false (sym k))
    go false q k = (q, k)

escape-more : (b : ℕ) (s : List ℕ) → eqb b 0 ≡ false → escape (b ∷ s) ≡ b ∷ escape s
unfolding escape
escape-more b s e = ap (λ (t : Bool). elim t as (λ _. List ℕ) [ true ↦ 0 ∷ 255 ∷ escape s | false ↦ b ∷ escape s ]) e

escape-zero : (b : ℕ) (s : List ℕ) → eqb b 0 ≡ true → escape (b ∷ s) ≡ 0 ∷ 255 ∷ escape s
unfolding escape
escape-zero b s e = ap (λ (t : Bool). elim t as (λ _. List ℕ) [ true ↦ 0 ∷ 255 ∷ escape s | false ↦ b ∷ escape s ]) e

apart-not : (r y : List ℕ) → Apart r → r ≡ 255 ∷ y → ⊥
apart-not [] y a e = subst NotNil e tt
  where
    NotNil : List ℕ → Type 0
    NotNil [] = Unit {0}
    NotNil (b ∷ bs) = ⊥
apart-not (b ∷ bs) y a e = differ b 255 bs y a e

pub text_same : (s w r y : List ℕ) → no_zero s ≡ true → Apart r → (escape s ++ term) ++ r ≡ (escape w ++ term) ++ y → Split s w r y
unfolding escape
text_same [] [] r y h a e = record { front = refl; back = tails 0 0 r y e }
text_same [] (c ∷ w) r y h a e =
    ways (eqb c 0) (Split [] (c ∷ w) r y)
    (λ q. absurd (apart-not r ((escape w ++ term) ++ y) a (tails 0 0 r (255 ∷ ((escape w ++ term) ++ y)) (e ∙ ap (λ (l : List ℕ). (l ++ term) ++ y) (escape-zero c w q)))))
    (λ q. absurd (true≢false (sym (eq-eqb c 0 (sym (heads 0 c r ((escape w ++ term) ++ y) (e ∙ ap (λ (l : List ℕ). (l ++ term) ++ y) (escape-more c w q))))) ∙ q)))
text_same (b ∷ s) [] r y h a e =
    let z = zero-not b s h in
    absurd (true≢false (sym (eq-eqb b 0 (heads b 0 ((escape s ++ term) ++ r) y (sym (ap (λ (l : List ℕ). (l ++ term) ++ r) (escape-more b s z.0)) ∙ e))) ∙ z.0))
text_same (b ∷ s) (c ∷ w) r y h a e =
    let z = zero-not b s h in
    let e' = sym (ap (λ (l : List ℕ). (l ++ term) ++ r) (escape-more b s z.0)) ∙ e in
    ways (eqb c 0) (Split (b ∷ s) (c ∷ w) r y)
    (λ q. absurd (true≢false (sym (eq-eqb b 0 (heads b 0 ((escape s ++ term) ++ r) (255 ∷ ((escape w ++ term) ++ y)) (e' ∙ ap (λ (l : List ℕ). (l ++ term) ++ y) (escape-zero c w q)))) ∙ z.0)))
    (λ q.
    let e'' = e' ∙ ap (λ (l : List ℕ). (l ++ term) ++ y) (escape-more c w q) in
    let k = text_same s w r y z.1 a (tails b c ((escape s ++ term) ++ r) ((escape w ++ term) ++ y) e'') in
    record { front = λ i. heads b c ((escape s ++ term) ++ r) ((escape w ++ term) ++ y) e'' i ∷ k.front i; back = k.back })

-- a prefix of a text without zero bytes
pub prefix-of : (x s r y : List ℕ) → no_zero s ≡ true → Apart r → (escape s ++ term) ++ r ≡ escape x ++ y → begins x s ≡ true
unfolding escape begins
prefix-of [] s r y h a e = refl
prefix-of (c ∷ x) [] r y h a e =
    ways (eqb c 0) (begins (c ∷ x) [] ≡ true)
    (λ q. absurd (apart-not r (escape x ++ y) a (tails 0 0 r (255 ∷ (escape x ++ y)) (e ∙ ap (λ (l : List ℕ). l ++ y) (escape-zero c x q)))))
    (λ q. absurd (true≢false (sym (eq-eqb c 0 (sym (heads 0 c r (escape x ++ y) (e ∙ ap (λ (l : List ℕ). l ++ y) (escape-more c x q))))) ∙ q)))
prefix-of (c ∷ x) (b ∷ s) r y h a e =
    let z = zero-not b s h in
    let e' = sym (ap (λ (l : List ℕ). (l ++ term) ++ r) (escape-more b s z.0)) ∙ e in
    ways (eqb c 0) (both (eqb c b) (begins x s) ≡ true)
    (λ q. absurd (true≢false (sym (eq-eqb b 0 (heads b 0 ((escape s ++ term) ++ r) (255 ∷ (escape x ++ y)) (e' ∙ ap (λ (l : List ℕ). l ++ y) (escape-zero c x q)))) ∙ z.0)))
    (λ q.
    let e'' = e' ∙ ap (λ (l : List ℕ). l ++ y) (escape-more c x q) in
    both_true (eqb c b) (begins x s) (eq-eqb c b (sym (heads b c ((escape s ++ term) ++ r) (escape x ++ y) e''))) (prefix-of x s r y z.1 a (tails b c ((escape s ++ term) ++ r) (escape x ++ y) e'')))

int-length : (bytes : List ℕ) → length bytes ≡ 8 → length (encode_int bytes) ≡ 9
unfolding encode_int
int-length bytes h = ap suc (flip-length (reverse bytes) ∙ length-reverse bytes ∙ h)

pub ints-same : (bytes own r y : List ℕ) → length bytes ≡ 8 → length own ≡ 8 → encode_int bytes ++ r ≡ encode_int own ++ y → Split (encode_int bytes) (encode_int own) r y
ints-same bytes own r y h k e = split (encode_int bytes) (encode_int own) r y (int-length bytes h ∙ sym (int-length own k)) e

pub facts-same : (id own : ℕ) (r y : List ℕ) → encode_fact id ++ r ≡ encode_fact own ++ y → Split (encode_fact id) (encode_fact own) r y
facts-same id own r y e = split (encode_fact id) (encode_fact own) r y (nine id ∙ sym (nine own)) e
  where
    nine : (n : ℕ) → length (encode_fact n) ≡ 9
    nine n = unfold encode_fact big_endian64 in refl

pub tags-same : (d c : ℕ) (r y : List ℕ) → union_tag d ++ r ≡ union_tag c ++ y → Split (union_tag d) (union_tag c) r y
tags-same d c r y e = split (union_tag d) (union_tag c) r y (five d ∙ sym (five c)) e
  where
    five : (n : ℕ) → length (union_tag n) ≡ 5
    five n = unfold union_tag big_endian32 in refl

-- each kind, of what stands in it
strs-same : (s w r y : List ℕ) → no_zero s ≡ true → Apart r → encode_str s ++ r ≡ encode_str w ++ y → Split (encode_str s) (encode_str w) r y
unfolding encode_str encode_prefix
strs-same s w r y h a e = let k = text_same s w r y h a (tails 3 3 _ _ e) in record { front = ap (λ (l : List ℕ). (3 ∷ escape l) ++ term) k.front; back = k.back }

bytes_same : (s w r y : List ℕ) → no_zero s ≡ true → Apart r → encode_bytes s ++ r ≡ encode_bytes w ++ y → Split (encode_bytes s) (encode_bytes w) r y
unfolding encode_bytes
bytes_same s w r y h a e = let k = text_same s w r y h a (tails 4 4 _ _ e) in record { front = ap (λ (l : List ℕ). (4 ∷ escape l) ++ term) k.front; back = k.back }

recs-same : (s w r y : List ℕ) → (s ++ (0 ∷ r) ≡ w ++ (0 ∷ y) → Split s w (0 ∷ r) (0 ∷ y)) → encode_record s ++ r ≡ encode_record w ++ y → Split (encode_record s) (encode_record w) r y
unfolding encode_record
recs-same s w r y h e =
    let k = h (sym (append_assoc s term r) ∙ tails 6 6 _ _ e ∙ append_assoc w term y) in
    record { front = ap (λ (l : List ℕ). 6 ∷ (l ++ term)) k.front; back = tails 0 0 r y k.back }

unis-same : (d c : ℕ) (s w r y : List ℕ) → (s ++ (0 ∷ r) ≡ w ++ (0 ∷ y) → Split s w (0 ∷ r) (0 ∷ y)) → encode_union d s ++ r ≡ encode_union c w ++ y → Split (encode_union d s) (encode_union c w) r y
unfolding encode_union
unis-same d c s w r y h e =
    let t = tags-same d c (s ++ (0 ∷ r)) (w ++ (0 ∷ y))
    (sym (append_assoc (union_tag d ++ s) term r ∙ append_assoc (union_tag d) s (0 ∷ r)) ∙ e ∙ append_assoc (union_tag c ++ w) term y ∙ append_assoc (union_tag c) w (0 ∷ y)) in
    let k = h t.back in
    record { front = ap₂ (λ (a b : List ℕ). (a ++ b) ++ term) t.front k.front; back = tails 0 0 r y k.back }

alls-same : (a b s w r y : List ℕ) → (a ++ (s ++ r) ≡ b ++ (w ++ y) → Split a b (s ++ r) (w ++ y)) → (s ++ r ≡ w ++ y → Split s w r y) → (a ++ s) ++ r ≡ (b ++ w) ++ y → Split (a ++ s) (b ++ w) r y
alls-same a b s w r y h k e =
    let p = h (sym (append_assoc a s r) ∙ e ∙ append_assoc b w y) in
    let q = k p.back in
    record { front = ap₂ (λ (x z : List ℕ). x ++ z) p.front q.front; back = q.back }

-- a value's mark is not 00
marked-value : (v : Value) (x r : List ℕ) → 0 ∷ x ≡ encode v ++ r → ⊥
unfolding encode encode_int encode_str encode_prefix encode_bytes encode_fact encode_record encode_union union_tag
marked-value (Value.Int bytes) x r e = differ 0 2 x _ refl e
marked-value (Value.Str text) x r e = differ 0 3 x _ refl e
marked-value (Value.Bytes bytes) x r e = differ 0 4 x _ refl e
marked-value (Value.Fact id) x r e = differ 0 1 x _ refl e
marked-value (Value.Rec fields) x r e = differ 0 6 x _ refl e
marked-value (Value.Uni disc v) x r e = differ 0 5 x _ refl e

mutual
  unfolding encode zero_free encode_int encode_str encode_prefix encode_bytes encode_fact encode_record encode_union union_tag

  pub value_same : (v w : Value) (r y : List ℕ) → Whole v → Whole w → zero_free v ≡ true → Apart r → encode v ++ r ≡ encode w ++ y → Split (encode v) (encode w) r y
  value_same (Value.Int bytes) (Value.Int bytes') r y h k z a e = ints-same bytes bytes' r y h k e
  value_same (Value.Int bytes) (Value.Str text') r y h k z a e = absurd (differ 2 3 _ _ refl e)
  value_same (Value.Int bytes) (Value.Bytes bytes') r y h k z a e = absurd (differ 2 4 _ _ refl e)
  value_same (Value.Int bytes) (Value.Fact id') r y h k z a e = absurd (differ 2 1 _ _ refl e)
  value_same (Value.Int bytes) (Value.Rec fields') r y h k z a e = absurd (differ 2 6 _ _ refl e)
  value_same (Value.Int bytes) (Value.Uni disc' v') r y h k z a e = absurd (differ 2 5 _ _ refl e)
  value_same (Value.Str text) (Value.Int bytes') r y h k z a e = absurd (differ 3 2 _ _ refl e)
  value_same (Value.Str text) (Value.Str text') r y h k z a e = strs-same text text' r y z a e
  value_same (Value.Str text) (Value.Bytes bytes') r y h k z a e = absurd (differ 3 4 _ _ refl e)
  value_same (Value.Str text) (Value.Fact id') r y h k z a e = absurd (differ 3 1 _ _ refl e)
  value_same (Value.Str text) (Value.Rec fields') r y h k z a e = absurd (differ 3 6 _ _ refl e)
  value_same (Value.Str text) (Value.Uni disc' v') r y h k z a e = absurd (differ 3 5 _ _ refl e)
  value_same (Value.Bytes bytes) (Value.Int bytes') r y h k z a e = absurd (differ 4 2 _ _ refl e)
  value_same (Value.Bytes bytes) (Value.Str text') r y h k z a e = absurd (differ 4 3 _ _ refl e)
  value_same (Value.Bytes bytes) (Value.Bytes bytes') r y h k z a e = bytes_same bytes bytes' r y z a e
  value_same (Value.Bytes bytes) (Value.Fact id') r y h k z a e = absurd (differ 4 1 _ _ refl e)
  value_same (Value.Bytes bytes) (Value.Rec fields') r y h k z a e = absurd (differ 4 6 _ _ refl e)
  value_same (Value.Bytes bytes) (Value.Uni disc' v') r y h k z a e = absurd (differ 4 5 _ _ refl e)
  value_same (Value.Fact id) (Value.Int bytes') r y h k z a e = absurd (differ 1 2 _ _ refl e)
  value_same (Value.Fact id) (Value.Str text') r y h k z a e = absurd (differ 1 3 _ _ refl e)
  value_same (Value.Fact id) (Value.Bytes bytes') r y h k z a e = absurd (differ 1 4 _ _ refl e)
  value_same (Value.Fact id) (Value.Fact id') r y h k z a e = facts-same id id' r y e
  value_same (Value.Fact id) (Value.Rec fields') r y h k z a e = absurd (differ 1 6 _ _ refl e)
  value_same (Value.Fact id) (Value.Uni disc' v') r y h k z a e = absurd (differ 1 5 _ _ refl e)
  value_same (Value.Rec fields) (Value.Int bytes') r y h k z a e = absurd (differ 6 2 _ _ refl e)
  value_same (Value.Rec fields) (Value.Str text') r y h k z a e = absurd (differ 6 3 _ _ refl e)
  value_same (Value.Rec fields) (Value.Bytes bytes') r y h k z a e = absurd (differ 6 4 _ _ refl e)
  value_same (Value.Rec fields) (Value.Fact id') r y h k z a e = absurd (differ 6 1 _ _ refl e)
  value_same (Value.Rec fields) (Value.Rec fields') r y h k z a e = recs-same (encode_all fields) (encode_all fields') r y (λ q. values_same fields fields' r y h k z q) e
  value_same (Value.Rec fields) (Value.Uni disc' v') r y h k z a e = absurd (differ 6 5 _ _ refl e)
  value_same (Value.Uni disc v) (Value.Int bytes') r y h k z a e = absurd (differ 5 2 _ _ refl e)
  value_same (Value.Uni disc v) (Value.Str text') r y h k z a e = absurd (differ 5 3 _ _ refl e)
  value_same (Value.Uni disc v) (Value.Bytes bytes') r y h k z a e = absurd (differ 5 4 _ _ refl e)
  value_same (Value.Uni disc v) (Value.Fact id') r y h k z a e = absurd (differ 5 1 _ _ refl e)
  value_same (Value.Uni disc v) (Value.Rec fields') r y h k z a e = absurd (differ 5 6 _ _ refl e)
  value_same (Value.Uni disc v) (Value.Uni disc' v') r y h k z a e = unis-same disc disc' (encode v) (encode v') r y (λ q. value_same v v' (0 ∷ r) (0 ∷ y) h k z refl q) e

  values_same : (vs ws : Values) (r y : List ℕ) → WholeAll vs → WholeAll ws → all_zero_free vs ≡ true → encode_all vs ++ (0 ∷ r) ≡ encode_all ws ++ (0 ∷ y) → Split (encode_all vs) (encode_all ws) (0 ∷ r) (0 ∷ y)
  values_same Values.no_more Values.no_more r y h k z e = record { front = refl; back = e }
  values_same Values.no_more (w and ws) r y h k z e = absurd (marked-value w r (encode_all ws ++ (0 ∷ y)) (e ∙ append_assoc (encode w) (encode_all ws) (0 ∷ y)))
  values_same (v and vs) Values.no_more r y h k z e = absurd (marked-value v y (encode_all vs ++ (0 ∷ r)) (sym e ∙ append_assoc (encode v) (encode_all vs) (0 ∷ r)))
  values_same (v and vs) (w and ws) r y h k z e =
      alls-same (encode v) (encode w) (encode_all vs) (encode_all ws) (0 ∷ r) (0 ∷ y)
      (λ q. value_same v w (encode_all vs ++ (0 ∷ r)) (encode_all ws ++ (0 ∷ y)) h.0 k.0 (both_left (zero_free v) (all_zero_free vs) z) (apart-all vs (0 ∷ r) refl) q)
      (λ q. values_same vs ws r y h.1 k.1 (both_right (zero_free v) (all_zero_free vs) z) q) e
