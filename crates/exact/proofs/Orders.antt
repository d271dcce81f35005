-- Byte order is the order of Ints as numbers, and of texts and byte strings by their own bytes.
use mathlib.Core.Bool.{Bool, true, false}
use mathlib.Core.List.{List, [], ◌∷◌, ◌++◌, reverse}
use mathlib.Core.Path.{◌≡◌, refl, sym, ap, ◌∙◌}
use Prim.Native.Nat.{ℕ, ◌+◌, ◌*◌, ◌%◌, ◌<◌}
use native.Mathlib.Omega.{arith}
use borrow.Author.Tests.{lt-ltb, le-ltb, ltb-true, ltb-false, eq-eqb}
use lib.ListN.{length, length-reverse}
use lib.Dec.{eqb, ltb}
use Rattle.rules.specs.Base.{Each, more, both}
use Rattle.rules.specs.Constant.{flip_sign, encode_int, escape, term, encode_prefix, encode_str, encode_bytes}
use Rattle.rules.specs.Demand1.{Byte}
use Rattle.rules.proofs.Cases.{ways, true≢false, eqb-eq}
use Rattle.exact.specs.Keys.{less}
use Rattle.exact.specs.Orders.{from_highest, from_lowest_int}
use Rattle.exact.proofs.Ends.{flip-length}
use Rattle.exact.proofs.Typed.{each-reverse}

-- one step of the order
less-here : (a b : ℕ) (x y : List ℕ) → a < b → less (a ∷ x) (b ∷ y) ≡ true
unfolding less
less-here a b x y h = ap (λ (t : Bool). elim t as (λ _. Bool) [ true ↦ true | false ↦ both (eqb a b) (less x y) ]) (lt-ltb a b h)

less-later : (a b : ℕ) (x y : List ℕ) → a ≡ b → less (a ∷ x) (b ∷ y) ≡ less x y
unfolding less
less-later a b x y e =
    ap (λ (t : Bool). elim t as (λ _. Bool) [ true ↦ true | false ↦ both (eqb a b) (less x y) ]) (le-ltb a b (omega (arith, e)))
    ∙ ap (λ (t : Bool). both t (less x y)) (eq-eqb a b e)

less-never : (a b : ℕ) (x y : List ℕ) → b < a → less (a ∷ x) (b ∷ y) ≡ false
unfolding less
less-never a b x y h =
    ap (λ (t : Bool). elim t as (λ _. Bool) [ true ↦ true | false ↦ both (eqb a b) (less x y) ]) (le-ltb a b (omega (arith, h)))
    ∙ ap (λ (t : Bool). both t (less x y)) (ways (eqb a b) (eqb a b ≡ false) (λ t. absurd (omega (arith, h, eqb-eq a b t))) (λ t. t))

-- a number that is higher so far stays higher
higher : (m n : ℕ) (x y : List ℕ) → Each Byte x → Each Byte y → length x ≡ length y → m < n → from_highest m x < from_highest n y
unfolding from_highest
higher m n [] [] h k l e = e
higher m n [] (b ∷ y) h k l e = absurd (omega (arith, l))
higher m n (a ∷ x) [] h k l e = absurd (omega (arith, l))
higher m n (a ∷ x) (b ∷ y) (more p h) (more q k) l e = higher (m * 256 + a) (n * 256 + b) x y h k (omega (arith, l)) (omega (arith, e, p, q))

in_order : (n : ℕ) (x y : List ℕ) → Each Byte x → Each Byte y → length x ≡ length y → less x y ≡ ltb (from_highest n x) (from_highest n y)
in_order n [] [] h k l = unfold less from_highest in sym (le-ltb n n (omega arith))
in_order n [] (b ∷ y) h k l = absurd (omega (arith, l))
in_order n (a ∷ x) [] h k l = absurd (omega (arith, l))
in_order n (a ∷ x) (b ∷ y) (more p h) (more q k) l =
    ways (ltb a b) (less (a ∷ x) (b ∷ y) ≡ ltb (from_highest n (a ∷ x)) (from_highest n (b ∷ y)))
    (λ t. less-here a b x y (ltb-true a b t) ∙ sym (lt-ltb (from_highest n (a ∷ x)) (from_highest n (b ∷ y)) (over n a b x y (ltb-true a b t) h k (omega (arith, l)))))
    (λ t. ways (ltb b a) (less (a ∷ x) (b ∷ y) ≡ ltb (from_highest n (a ∷ x)) (from_highest n (b ∷ y)))
    (λ s. less-never a b x y (ltb-true b a s) ∙ sym (le-ltb (from_highest n (a ∷ x)) (from_highest n (b ∷ y)) (omega (arith, over n b a y x (ltb-true b a s) k h (omega (arith, l))))))
    (λ s. let same : a ≡ b = omega (arith, ltb-false a b t, ltb-false b a s) in
    less-later a b x y same ∙ rest (n * 256 + a) same (in_order (n * 256 + a) x y h k (omega (arith, l)))))
  where
    over : (m c d : ℕ) (u v : List ℕ) → c < d → Each Byte u → Each Byte v → length u ≡ length v → from_highest m (c ∷ u) < from_highest m (d ∷ v)
    over m c d u v e hu hv lu = unfold from_highest in higher (m * 256 + c) (m * 256 + d) u v hu hv lu (omega (arith, e))

    rest : (m : ℕ) → a ≡ b → less x y ≡ ltb (from_highest (n * 256 + a) x) (from_highest (n * 256 + a) y) → less x y ≡ ltb (from_highest n (a ∷ x)) (from_highest n (b ∷ y))
    rest m e r = unfold from_highest in r ∙ ap (λ (c : ℕ). ltb (from_highest (n * 256 + a) x) (from_highest (n * 256 + c) y)) e

flip-byte : (bytes : List ℕ) → Each Byte bytes → Each Byte (flip_sign bytes)
unfolding flip_sign
flip-byte [] h = h
flip-byte (b ∷ bs) (more p h) = more {x = (b + 128) % 256} {xs = bs} (omega arith) h

-- Ints: the order of their bytes is the order of the numbers
pub ints-in-order : (a b : List ℕ) → Each Byte a → Each Byte b → length a ≡ length b → less (encode_int a) (encode_int b) ≡ ltb (from_lowest_int a) (from_lowest_int b)
unfolding encode_int from_lowest_int
ints-in-order a b h k l =
    less-later 2 2 (flip_sign (reverse a)) (flip_sign (reverse b)) refl
    ∙ in_order 0 (flip_sign (reverse a)) (flip_sign (reverse b)) (flip-byte (reverse a) (each-reverse a h)) (flip-byte (reverse b) (each-reverse b k))
    (flip-length (reverse a) ∙ length-reverse a ∙ l ∙ sym (length-reverse b) ∙ sym (flip-length (reverse b)))

-- Texts and byte strings: escaping a zero byte keeps the order.
zero_is : (b : ℕ) (s : List ℕ) → eqb b 0 ≡ true → escape (b ∷ s) ≡ 0 ∷ 255 ∷ escape s
unfolding escape
zero_is b s e = ap (λ (t : Bool). elim t as (λ _. List ℕ) [ true ↦ 0 ∷ 255 ∷ escape s | false ↦ b ∷ escape s ]) e

other-is : (b : ℕ) (s : List ℕ) → eqb b 0 ≡ false → escape (b ∷ s) ≡ b ∷ escape s
unfolding escape
other-is b s e = ap (λ (t : Bool). elim t as (λ _. List ℕ) [ true ↦ 0 ∷ 255 ∷ escape s | false ↦ b ∷ escape s ]) e

positive : (b : ℕ) → eqb b 0 ≡ false → 0 < b
positive b e = ways (ltb 0 b) (0 < b) (λ t. ltb-true 0 b t) (λ t. absurd (true≢false (sym (eq-eqb b 0 (omega (arith, ltb-false 0 b t))) ∙ e)))

-- both texts by their first bytes
firsts : (a b : ℕ) (s t u v : List ℕ) → less u v ≡ less s t → less (a ∷ u) (b ∷ v) ≡ less (a ∷ s) (b ∷ t)
firsts a b s t u v ih =
    ways (ltb a b) (less (a ∷ u) (b ∷ v) ≡ less (a ∷ s) (b ∷ t))
    (λ p. less-here a b u v (ltb-true a b p) ∙ sym (less-here a b s t (ltb-true a b p)))
    (λ p. ways (ltb b a) (less (a ∷ u) (b ∷ v) ≡ less (a ∷ s) (b ∷ t))
    (λ q. less-never a b u v (ltb-true b a q) ∙ sym (less-never a b s t (ltb-true b a q)))
    (λ q. let same : a ≡ b = omega (arith, ltb-false a b p, ltb-false b a q) in
    less-later a b u v same ∙ ih ∙ sym (less-later a b s t same)))

texts-order : (s t : List ℕ) → less (escape s ++ term) (escape t ++ term) ≡ less s t
texts-order [] [] = unfold escape in less-later 0 0 [] [] refl
texts-order [] (b ∷ t) =
    ways (eqb b 0) (less (escape [] ++ term) (escape (b ∷ t) ++ term) ≡ less [] (b ∷ t))
    (λ e. ap (λ (l : List ℕ). less (escape [] ++ term) (l ++ term)) (zero_is b t e) ∙ unfold escape less in less-later 0 0 [] (255 ∷ (escape t ++ term)) refl)
    (λ e. ap (λ (l : List ℕ). less (escape [] ++ term) (l ++ term)) (other-is b t e) ∙ unfold escape less in less-here 0 b [] (escape t ++ term) (positive b e))
texts-order (a ∷ s) [] =
    ways (eqb a 0) (less (escape (a ∷ s) ++ term) (escape [] ++ term) ≡ less (a ∷ s) [])
    (λ e. ap (λ (l : List ℕ). less (l ++ term) (escape [] ++ term)) (zero_is a s e) ∙ unfold escape less in less-later 0 0 (255 ∷ (escape s ++ term)) [] refl)
    (λ e. ap (λ (l : List ℕ). less (l ++ term) (escape [] ++ term)) (other-is a s e) ∙ unfold escape less in less-never a 0 (escape s ++ term) [] (positive a e))
texts-order (a ∷ s) (b ∷ t) =
    both_ways (eqb a 0) refl (eqb b 0) refl (texts-order s t)
  where
    both_ways : (p : Bool) → eqb a 0 ≡ p → (q : Bool) → eqb b 0 ≡ q → less (escape s ++ term) (escape t ++ term) ≡ less s t → less (escape (a ∷ s) ++ term) (escape (b ∷ t) ++ term) ≡ less (a ∷ s) (b ∷ t)
    both_ways true e true f ih =
        ap (λ (l : List ℕ). less (l ++ term) (escape (b ∷ t) ++ term)) (zero_is a s e) ∙ ap (λ (l : List ℕ). less (0 ∷ 255 ∷ (escape s ++ term)) (l ++ term)) (zero_is b t f)
        ∙ less-later 0 0 (255 ∷ (escape s ++ term)) (255 ∷ (escape t ++ term)) refl ∙ less-later 255 255 (escape s ++ term) (escape t ++ term) refl ∙ ih
        ∙ sym (less-later a b s t (eqb-eq a 0 e ∙ sym (eqb-eq b 0 f)))
    both_ways true e false f ih =
        ap (λ (l : List ℕ). less (l ++ term) (escape (b ∷ t) ++ term)) (zero_is a s e) ∙ ap (λ (l : List ℕ). less (0 ∷ 255 ∷ (escape s ++ term)) (l ++ term)) (other-is b t f)
        ∙ less-here 0 b (255 ∷ (escape s ++ term)) (escape t ++ term) (positive b f) ∙ sym (less-here a b s t (omega (arith, eqb-eq a 0 e, positive b f)))
    both_ways false e true f ih =
        ap (λ (l : List ℕ). less (l ++ term) (escape (b ∷ t) ++ term)) (other-is a s e) ∙ ap (λ (l : List ℕ). less (a ∷ (escape s ++ term)) (l ++ term)) (zero_is b t f)
        ∙ less-never a 0 (escape s ++ term) (255 ∷ (escape t ++ term)) (positive a e) ∙ sym (less-never a b s t (omega (arith, eqb-eq b 0 f, positive a e)))
    both_ways false e false f ih =
        ap (λ (l : List ℕ). less (l ++ term) (escape (b ∷ t) ++ term)) (other-is a s e) ∙ ap (λ (l : List ℕ). less (a ∷ (escape s ++ term)) (l ++ term)) (other-is b t f)
        ∙ firsts a b s t (escape s ++ term) (escape t ++ term) ih

-- the order of the encodings is the order of the texts
pub texts-in-order : (s t : List ℕ) → less (encode_str s) (encode_str t) ≡ less s t
unfolding encode_str encode_prefix
texts-in-order s t = less-later 3 3 (escape s ++ term) (escape t ++ term) refl ∙ texts-order s t

pub bytes-in-order : (s t : List ℕ) → less (encode_bytes s) (encode_bytes t) ≡ less s t
unfolding encode_bytes
bytes-in-order s t = less-later 4 4 (escape s ++ term) (escape t ++ term) refl ∙ texts-order s t
