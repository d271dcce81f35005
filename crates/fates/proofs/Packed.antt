-- Digits packed to a word and read back; words written one after the other.
use Prim.Native.Nat.{ℕ, zero, suc, ◌+◌, ◌-◌, ◌*◌, ◌/◌, ◌%◌, ◌≤◌, ◌<◌}
use mathlib.Core.List.{List}
use mathlib.Core.Path.{◌≡◌, refl, sym, ap, ◌∙◌}
use native.Mathlib.Omega.{arith}
use native.Mathlib.Numerals.{add-one}
use lib.ListN.{length, get_or, set}
use lib.Seq.{sets}
use Rattle.accepted_file.specs.Fates.{digit}
use Rattle.fates.specs.Rows.{packed, words}

module _ (digits : ℕ → ℕ) (small : (i : ℕ) → digits i < 4) where
  -- a digit is read back
  pub digit-packed : (i j n : ℕ) → i < n → digit i (packed digits j n) ≡ digits (j + i)
  unfolding digit packed
  digit-packed i j zero h = absurd (omega arith)
  digit-packed zero j (suc n) h =
      let e : j ≡ j + 0 = omega arith in
      let d = small j in
      let r : (digits j + 4 * packed digits (j + 1) n) % 4 ≡ digits j = omega arith in
      r ∙ ap digits e
  digit-packed (suc i) j (suc n) h =
      let d = small j in
      let q : (digits j + 4 * packed digits (j + 1) n) / 4 ≡ packed digits (j + 1) n = omega arith in
      let e : j + 1 + i ≡ j + suc i = omega arith in
      ap (digit i) q ∙ digit-packed i (j + 1) n (omega arith) ∙ ap digits e

  -- one digit more in front, as the loop adds it
  pub packed_more : (j n w : ℕ) → w ≡ packed digits (j + 1) n → 4 * w + digits j ≡ packed digits j (n + 1)
  unfolding packed
  packed_more j n w e = let r : 4 * w + digits j ≡ digits j + 4 * w = omega arith in r ∙ ap (λ (x : ℕ). digits j + 4 * x) e ∙ sym (ap (packed digits j) (add-one n))

  bounded : (j n k : ℕ) → packed digits (j + 1) n < k → packed digits j (suc n) < 4 * k
  unfolding packed
  bounded j n k h = let d = small j in omega arith

  pub packed-small : (j n : ℕ) → n ≤ 8 → packed digits j n < 65536
  unfolding packed
  packed-small j n h = go n h
    where
      all : (j : ℕ) → packed digits j 8 < 65536
      all i =
          bounded i 7 16384 (bounded (i + 1) 6 4096 (bounded (i + 1 + 1) 5 1024 (bounded (i + 1 + 1 + 1) 4 256 (bounded (i + 1 + 1 + 1 + 1) 3 64 (bounded (i + 1 + 1 + 1 + 1 + 1) 2 16 (bounded (i + 1 + 1 + 1 + 1 + 1 + 1) 1 4 (bounded (i + 1 + 1 + 1 + 1 + 1 + 1 + 1) 0 1 (omega arith))))))))

      grows : (i m : ℕ) → packed digits i m ≤ packed digits i (suc m)
      grows i zero = omega arith
      grows i (suc m) = let g = grows (i + 1) m in omega arith

      reaches : (k m : ℕ) → m + k ≡ 8 → packed digits j m ≤ packed digits j 8
      reaches zero m e = let q : m ≡ 8 = omega arith in subst-le q
        where
          subst-le : m ≡ 8 → packed digits j m ≤ packed digits j 8
          subst-le q = let r = ap (packed digits j) q in omega arith
      reaches (suc k) m e = let g = grows j m in let r = reaches k (suc m) (omega arith) in omega arith

      go : (m : ℕ) → m ≤ 8 → packed digits j m < 65536
      go m l = let r = reaches (8 - m) m (omega arith) in let a = all j in omega arith

-- a row's words
module _ (word : ℕ → ℕ) where
  pub word_at : (q k i : ℕ) → i < k → get_or (words word q k) i 0 ≡ word (q + i)
  unfolding words
  word_at q zero i h = absurd (omega arith)
  word_at q (suc k) zero h = let e : q ≡ q + 0 = omega arith in ap word e
  word_at q (suc k) (suc i) h = let e : q + 1 + i ≡ q + suc i = omega arith in word_at (q + 1) k i (omega arith) ∙ ap word e

  pub words-length : (q k : ℕ) → length (words word q k) ≡ k
  unfolding words
  words-length q zero = refl
  words-length q (suc k) = ap suc (words-length (q + 1) k)

  -- one word written, as the loop does
  pub words_more : (ix : List ℕ) (at q k w : ℕ) → w ≡ word q → sets ix at (words word q (k + 1)) ≡ sets (set ix at w) (at + 1) (words word (q + 1) k)
  unfolding words sets
  words_more ix at q k w e =
      ap (λ (n : ℕ). sets ix at (words word q n)) (add-one k)
      ∙ ap (λ (x : ℕ). sets (set ix at x) (suc at) (words word (q + 1) k)) (sym e)
      ∙ ap (λ (i : ℕ). sets (set ix at w) i (words word (q + 1) k)) (sym (add-one at))

-- the loop over a word's digits, from the last to the first
module _ (digits : ℕ → ℕ) (small : (i : ℕ) → digits i < 4) where
  pub digits-none : (j n : ℕ) → n ≡ 0 → 0 ≡ packed digits j n
  unfolding packed
  digits-none j zero e = refl
  digits-none j (suc n) e = absurd (omega arith)

  pub digits_more : (q j w v : ℕ) → 0 < j → j ≤ 8 → w ≡ packed digits (8 * q + j) (8 - j) → v ≡ digits (8 * q + (j - 1)) → 4 * w + v ≡ packed digits (8 * q + (j - 1)) (8 - (j - 1))
  digits_more q j w v h l e d =
      let a : 8 * q + j ≡ 8 * q + (j - 1) + 1 = omega arith in
      let b : 8 - j + 1 ≡ 8 - (j - 1) = omega arith in
      ap (λ (x : ℕ). 4 * w + x) d
      ∙ packed_more digits small (8 * q + (j - 1)) (8 - j) w (e ∙ ap (λ (i : ℕ). packed digits i (8 - j)) a)
      ∙ ap (packed digits (8 * q + (j - 1))) b

  pub digits-all : (q j w : ℕ) → j ≡ 0 → w ≡ packed digits (8 * q + j) (8 - j) → w ≡ packed digits (8 * q) 8
  digits-all q j w z e =
      let a : 8 * q + j ≡ 8 * q = omega arith in
      let b : 8 - j ≡ 8 = omega arith in
      e ∙ ap (λ (i : ℕ). packed digits i (8 - j)) a ∙ ap (packed digits (8 * q)) b

  pub digits-small : (q j w : ℕ) → w ≡ packed digits (8 * q + j) (8 - j) → w < 65536
  digits-small q j w e = let s = packed-small digits small (8 * q + j) (8 - j) (omega arith) in omega arith

-- the loop over a row's words
module _ (word : ℕ → ℕ) (ix : List ℕ) (at : ℕ) where
  pub row_more : (jx : List ℕ) (q w : ℕ) → q < 64 → w ≡ word q → sets ix at (words word 0 64) ≡ sets jx (at + q) (words word q (64 - q)) → sets ix at (words word 0 64) ≡ sets (set jx (at + q) w) (at + (q + 1)) (words word (q + 1) (64 - (q + 1)))
  row_more jx q w h e s =
      let a : 64 - q ≡ 64 - (q + 1) + 1 = omega arith in
      let b : at + q + 1 ≡ at + (q + 1) = omega arith in
      s ∙ ap (λ (n : ℕ). sets jx (at + q) (words word q n)) a
      ∙ words_more word jx (at + q) q (64 - (q + 1)) w e
      ∙ ap (λ (i : ℕ). sets (set jx (at + q) w) i (words word (q + 1) (64 - (q + 1)))) b

  pub row-none : (q : ℕ) → q ≡ 0 → sets ix at (words word 0 64) ≡ sets ix (at + q) (words word q (64 - q))
  row-none q e =
      let a : at ≡ at + q = omega arith in
      let b : 64 ≡ 64 - q = omega arith in
      ap (λ (i : ℕ). sets ix i (words word 0 64)) a ∙ ap (λ (n : ℕ). sets ix (at + q) (words word 0 n)) b ∙ ap (λ (i : ℕ). sets ix (at + q) (words word i (64 - q))) (sym e)

  pub row-all : (jx : List ℕ) (q : ℕ) → 64 ≤ q → sets ix at (words word 0 64) ≡ sets jx (at + q) (words word q (64 - q)) → jx ≡ sets ix at (words word 0 64)
  unfolding words sets
  row-all jx q h s = let a : 64 - q ≡ 0 = omega arith in sym (s ∙ ap (λ (n : ℕ). sets jx (at + q) (words word q n)) a)
