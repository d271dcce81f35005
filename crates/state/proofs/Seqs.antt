-- Laws of lists that runs and plans need: what is written at a place, what other places keep, and what entries one after another come to.
use mathlib.Core.List.{List, [], ◌∷◌, ◌++◌, append-nil, append_assoc}
use mathlib.Core.Path.{◌≡◌, refl, sym, ap, ◌∙◌}
use Prim.Native.Nat.{ℕ, zero, suc, ◌+◌, ◌*◌, ◌≤◌, ◌<◌}
use native.Mathlib.Nat.{add-zero, zero-add, add-suc, suc-add, mul-zero, mul-suc}
use native.Mathlib.Omega.{arith}
use lib.ListN.{length, take, drop, set, length-append}
use lib.Seq.{sets, slice, set_comm, sets-eq, take-set-le, take-set-lt, drop-set-lt, length-take-le, take_at, drop-append-le, drop-append_seam, take-nil, take-take}
use Rattle.rules.specs.Base.{Each, done, more, concat_map}

module _ {A : Type 0} where
  pub sets-append : (l : List A) (i : ℕ) (xs ys : List A) → sets l i (xs ++ ys) ≡ sets (sets l i xs) (i + length xs) ys
  sets-append l i [] ys = ap (λ (k : ℕ). sets l k ys) (sym (add-zero i))
  sets-append l i (x ∷ xs) ys =
      sets-append (set l i x) (suc i) xs ys ∙ ap (λ (k : ℕ). sets (sets (set l i x) (suc i) xs) k ys) (suc-add i (length xs) ∙ sym (add-suc i (length xs)))

  -- a run right after another
  pub sets_then : (l : List A) (at : ℕ) (a b : List A) (k : ℕ) → k ≡ at + length a → sets (sets l at a) k b ≡ sets l at (a ++ b)
  sets_then l at a b k e = ap (λ (j : ℕ). sets (sets l at a) j b) e ∙ sym (sets-append l at a b)

  -- Writes at places that do not meet may change places.
  set-sets : (l : List A) (i : ℕ) (x : A) (j : ℕ) (ys : List A) → i < j → sets (set l i x) j ys ≡ set (sets l j ys) i x
  set-sets l i x j [] h = refl
  set-sets l i x j (y ∷ ys) h = ap (λ (k : List A). sets k (suc j) ys) (set_comm l i j x y (omega arith)) ∙ set-sets (set l j y) i x (suc j) ys (omega arith)

  pub sets-comm : (l : List A) (i : ℕ) (xs : List A) (j : ℕ) (ys : List A) → i + length xs ≤ j → sets (sets l i xs) j ys ≡ sets (sets l j ys) i xs
  sets-comm l i [] j ys h = refl
  sets-comm l i (x ∷ xs) j ys h = sets-comm (set l i x) (suc i) xs j ys (omega arith) ∙ ap (λ (k : List A). sets k (suc i) xs) (set-sets l i x j ys (omega arith))

  -- the second of two neighbours written first
  pub sets-before : (l : List A) (at : ℕ) (a b : List A) → sets (sets l (at + length a) b) at a ≡ sets l at (a ++ b)
  sets-before l at a b = sym (sets-comm l at a (at + length a) b (omega arith)) ∙ sym (sets-append l at a b)

  -- a part in the middle, and a place that lies past it or before it
  slice-set-past : (f t : ℕ) (l : List A) (i : ℕ) (a : A) → t ≤ i → slice f t (set l i a) ≡ slice f t l
  slice-set-past f t l i a h = ap (drop f) (take-set-le t l i a h)

  slice-set-before : (f t : ℕ) (l : List A) (i : ℕ) (a : A) → f ≤ t → i < f → slice f t (set l i a) ≡ slice f t l
  slice-set-before f t l i a h k = ap (drop f) (take-set-lt t l i a (omega arith)) ∙ drop-set-lt f (take t l) i a k

  pub slice-sets-past : (f t : ℕ) (l : List A) (i : ℕ) (vs : List A) → t ≤ i → slice f t (sets l i vs) ≡ slice f t l
  slice-sets-past f t l i [] h = refl
  slice-sets-past f t l i (v ∷ vs) h = slice-sets-past f t (set l i v) (suc i) vs (omega arith) ∙ slice-set-past f t l i v h

  pub slice-sets-before : (f t : ℕ) (l : List A) (i : ℕ) (vs : List A) → f ≤ t → i + length vs ≤ f → slice f t (sets l i vs) ≡ slice f t l
  slice-sets-before f t l i [] h k = refl
  slice-sets-before f t l i (v ∷ vs) h k = slice-sets-before f t (set l i v) (suc i) vs h (omega arith) ∙ slice-set-before f t l i v h (omega arith)

  -- the front of a part in the middle
  drop-take : (f n : ℕ) (l : List A) → drop f (take (f + n) l) ≡ take n (drop f l)
  drop-take zero n l = ap (λ (k : ℕ). take k l) (zero-add n)
  drop-take (suc f) n [] = ap (drop (suc f)) (take-nil (suc f + n)) ∙ sym (take-nil n)
  drop-take (suc f) n (x ∷ l) = ap (λ (k : ℕ). drop (suc f) (take k (x ∷ l))) (suc-add f n) ∙ drop-take f n l

  pub slice_front : (f n t : ℕ) (l : List A) → f + n ≤ t → slice f (f + n) l ≡ take n (slice f t l)
  slice_front f n t l h = ap (drop f) (sym (take-take (f + n) t l h)) ∙ drop-take f n (take t l)

  -- a part that stands between two others
  pub slice-middle : (a x b : List A) (f t : ℕ) → f ≡ length a → t ≡ length a + length x → slice f t (a ++ (x ++ b)) ≡ x
  slice-middle a x b f t ef et =
      (λ i. drop (ef i) (take (et i) (a ++ (x ++ b))))
      ∙ drop-take (length a) (length x) (a ++ (x ++ b))
      ∙ ap (take (length x)) (drop-append_seam a (x ++ b))
      ∙ take_at x b (length x) refl

  -- a part that grows at its end
  pub slice-sets-at : (f t : ℕ) (l vs : List A) → f ≤ t → t + length vs ≤ length l → slice f (t + length vs) (sets l t vs) ≡ slice f t l ++ vs
  slice-sets-at f t l vs h k =
      let front : length (take t l) ≡ t = length-take-le t l (omega arith) in
      ap (λ r. drop f (take (t + length vs) r)) (sets-eq vs l t k)
      ∙ ap (drop f) (take_at (take t l ++ vs) (drop (t + length vs) l) (t + length vs) (length-append (take t l) vs ∙ ap (λ (n : ℕ). n + length vs) front))
      ∙ drop-append-le f (take t l) vs (omega arith)

module _ {A B : Type 0} (f : A → List B) where
  pub concat_map-append : (xs ys : List A) → concat_map f (xs ++ ys) ≡ concat_map f xs ++ concat_map f ys
  unfolding concat_map
  concat_map-append [] ys = refl
  concat_map-append (x ∷ xs) ys = ap (λ r. f x ++ r) (concat_map-append xs ys) ∙ sym (append_assoc (f x) (concat_map f xs) (concat_map f ys))

  -- one entry more at the end
  pub concat_map-snoc : (xs : List A) (x : A) → concat_map f (xs ++ (x ∷ [])) ≡ concat_map f xs ++ f x
  unfolding concat_map
  concat_map-snoc xs x = concat_map-append xs (x ∷ []) ∙ ap (λ r. concat_map f xs ++ r) (append-nil (f x))

  pub length-snoc : (xs : List A) (x : A) → length (concat_map f (xs ++ (x ∷ []))) ≡ length (concat_map f xs) + length (f x)
  length-snoc xs x = ap length (concat_map-snoc xs x) ∙ length-append (concat_map f xs) (f x)

  -- entries that are all as long
  pub length-stride : (n : ℕ) → ((x : A) → length (f x) ≡ n) → (xs : List A) → length (concat_map f xs) ≡ n * length xs
  unfolding concat_map
  length-stride n h [] = sym (mul-zero n)
  length-stride n h (x ∷ xs) = omega (arith, length-append (f x) (concat_map f xs), h x, length-stride n h xs, mul-suc n (length xs))

  -- entries that are at least n long
  pub length-least : (n : ℕ) {xs : List A} → Each (λ x. n ≤ length (f x)) xs → n * length xs ≤ length (concat_map f xs)
  unfolding concat_map
  length-least n done = omega (arith, mul-zero n)
  length-least n (more {x} {xs} h hs) = omega (arith, length-append (f x) (concat_map f xs), length-least n hs, mul-suc n (length xs))

  -- what is left after the first n entries is no longer than with more at the end
  pub length-drop-append : (n : ℕ) (xs ys : List A) → length (concat_map f (drop n xs)) ≤ length (concat_map f (drop n (xs ++ ys)))
  unfolding concat_map
  length-drop-append zero xs ys = omega (arith, ap length (concat_map-append xs ys), length-append (concat_map f xs) (concat_map f ys))
  length-drop-append (suc n) [] ys = omega arith
  length-drop-append (suc n) (x ∷ xs) ys = length-drop-append n xs ys
