-- A list that grew down, read back: its records one after another, what a change above or below it leaves, and how long it is.
use mathlib.Core.List.{List, [], ◌∷◌, ◌++◌, append_assoc, append-nil}
use mathlib.Core.Path.{◌≡◌, refl, sym, ap, ap₂, ◌∙◌}
use Prim.Native.Nat.{ℕ, zero, suc, ◌+◌, ◌-◌, ◌*◌, ◌≤◌, min}
use native.Mathlib.Nat.{zero-add, suc-add, mul-zero, mul-suc}
use native.Mathlib.Omega.{arith}
use lib.ListN.{length, take, length-append, length-take, length-drop}
use lib.Seq.{sets, slice}
use Rattle.state.specs.State.{backwards}
use Rattle.state.proofs.Seqs.{slice-sets-past, slice-sets-before}

-- Two records of two bytes that grew down from 6: the first, which stands at the top, comes first.
first-first : backwards 2 2 6 (9 ∷ 9 ∷ 3 ∷ 4 ∷ 1 ∷ 2 ∷ []) ≡ 1 ∷ 2 ∷ 3 ∷ 4 ∷ []
unfolding backwards
first-first = refl

-- two stretches side by side, as far as there are bytes
side_by_side : (t s u n : ℕ) → s ≤ t → u ≤ s → min t n - s + (min s n - u) ≡ min t n - u
side_by_side t s u n h k = omega arith

module _ (width : ℕ) where
  -- m records, then n more
  pub backwards-append : (m n top : ℕ) (w : List ℕ) → backwards width (m + n) top w ≡ backwards width m top w ++ backwards width n (top - width * m) w
  unfolding backwards
  backwards-append zero n top w =
      let k : top ≡ top - width * 0 = omega (arith, mul-zero width) in
      ap (λ (j : ℕ). backwards width j top w) (zero-add n) ∙ ap (λ (j : ℕ). backwards width n j w) k
  backwards-append (suc m) n top w =
      let k : top - width - width * m ≡ top - width * suc m = omega (arith, mul-suc width m) in
      ap (λ (j : ℕ). backwards width j top w) (suc-add m n)
      ∙ ap (λ (r : List ℕ). slice (top - width) top w ++ r) (backwards-append m n (top - width) w)
      ∙ sym (append_assoc (slice (top - width) top w) (backwards width m (top - width) w) (backwards width n (top - width - width * m) w))
      ∙ ap (λ (j : ℕ). slice (top - width) top w ++ backwards width m (top - width) w ++ backwards width n j w) k

  -- one record
  pub backwards-one : (top : ℕ) (w : List ℕ) → backwards width 1 top w ≡ slice (top - width) top w
  unfolding backwards
  backwards-one top w = append-nil (slice (top - width) top w)

  -- a change below its newest record, and one above it
  pub backwards-below : (n top : ℕ) (w : List ℕ) (at : ℕ) (bytes : List ℕ) → at + length bytes + width * n ≤ top → backwards width n top (sets w at bytes) ≡ backwards width n top w
  unfolding backwards
  backwards-below zero top w at bytes h = refl
  backwards-below (suc n) top w at bytes h =
      ap₂ ◌++◌ (slice-sets-before (top - width) top w at bytes (omega arith) (omega (arith, h, mul-suc width n)))
      (backwards-below n (top - width) w at bytes (omega (arith, h, mul-suc width n)))

  pub backwards-above : (n top : ℕ) (w : List ℕ) (at : ℕ) (bytes : List ℕ) → top ≤ at → backwards width n top (sets w at bytes) ≡ backwards width n top w
  unfolding backwards
  backwards-above zero top w at bytes h = refl
  backwards-above (suc n) top w at bytes h = ap₂ ◌++◌ (slice-sets-past (top - width) top w at bytes h) (backwards-above n (top - width) w at bytes (omega (arith, h)))

  -- the bytes between its newest record's begin and its top, as far as there are any
  pub backwards-length : (n top : ℕ) (w : List ℕ) → length (backwards width n top w) ≡ min top (length w) - (top - width * n)
  unfolding backwards
  backwards-length zero top w = omega (arith, mul-zero width)
  backwards-length (suc n) top w =
      let low : top - width - width * n ≡ top - width * suc n = omega (arith, mul-suc width n) in
      length-append (slice (top - width) top w) (backwards width n (top - width) w)
      ∙ ap₂ ◌+◌ (length-drop (top - width) (take top w) ∙ ap (λ (k : ℕ). k - (top - width)) (length-take top w)) (backwards-length n (top - width) w)
      ∙ side_by_side top (top - width) (top - width - width * n) (length w) (omega arith) (omega arith)
      ∙ ap (λ (k : ℕ). min top (length w) - k) low
