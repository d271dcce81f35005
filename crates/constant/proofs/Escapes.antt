-- Escaped bytes, one after another.
use Prim.Native.Nat.{ℕ, ◌+◌, ◌*◌, ◌-◌, ◌≤◌, ◌<◌}
use mathlib.Core.Path.{◌≡◌, refl, sym, ap, ◌∙◌}
use mathlib.Core.Bool.{Bool, true, false}
use mathlib.Core.List.{List, [], ◌∷◌, ◌++◌}
use native.Mathlib.Nat.{sub-zero, add-zero}
use native.Mathlib.Omega.{arith}
use lib.Dec.{eqb}
use lib.ListN.{length, get_or, length-append}
use borrow.Author.Tests.{eq-eqb, ne_eqb}
use Rattle.rules.specs.Constant.{escape}
use Rattle.rules.proofs.Cases.{by-test}
use Rattle.views.specs.Views.{run, byte_at}
use Rattle.views.proofs.Runs.{run_none, run_more}

pub escape-cons : (b : ℕ) (bs : List ℕ) → escape (b ∷ bs) ≡ escape (b ∷ []) ++ escape bs
unfolding escape
escape-cons b bs =
    elim (eqb b 0) as (λ (t : Bool). ◌≡◌ {A = List ℕ} (elim t [ true ↦ 0x00 ∷ 0xff ∷ escape bs | false ↦ b ∷ escape bs ]) ((elim t [ true ↦ 0x00 ∷ 0xff ∷ [] | false ↦ b ∷ [] ]) ++ escape bs)) [
      | true ↦ refl
      | false ↦ refl
    ]

pub escape-zero : (b : ℕ) → b ≡ 0 → escape (b ∷ []) ≡ 0x00 ∷ 0xff ∷ []
unfolding escape
escape-zero b e = ap (λ (t : Bool). elim t [ true ↦ 0x00 ∷ 0xff ∷ [] | false ↦ b ∷ [] ]) (eq-eqb b 0 e)

pub escape-other : (b : ℕ) → (b ≡ 0 → ⊥) → escape (b ∷ []) ≡ b ∷ []
unfolding escape
escape-other b d = ap (λ (t : Bool). elim t [ true ↦ 0x00 ∷ 0xff ∷ [] | false ↦ b ∷ [] ]) (ne_eqb b 0 d)

pub width-most : (b : ℕ) → length (escape (b ∷ [])) ≤ 2
unfolding escape
width-most b = by-test (λ (l : List ℕ). length l ≤ 2) (eqb b 0) (λ e. omega arith) (λ e. omega arith)

pub width-at : (b w : ℕ) → w ≡ length (escape (b ∷ [])) → w ≤ 2
width-at b w e = omega (arith, width-most b)

-- n bytes of f from at on, of which i are done
module _ (f : List ℕ) (n at : ℕ) where
  unfoldable pub bytes_from : ℕ → List ℕ
  bytes_from i = run (byte_at f) 1 (n - i) (at + i)

  pub bytes-start : run (byte_at f) 1 n at ≡ bytes_from 0
  unfolding bytes_from
  bytes-start = ap (λ (k : ℕ). run (byte_at f) 1 k at) (sym (sub-zero n)) ∙ ap (run (byte_at f) 1 (n - 0)) (sym (add-zero at))

  pub bytes-more : (i : ℕ) → i < n → bytes_from i ≡ get_or f (at + i) 0 ∷ bytes_from (i + 1)
  unfolding bytes_from byte_at
  bytes-more i h =
      let a : at + i + 1 ≡ at + (i + 1) = omega arith in
      run_more (byte_at f) 1 (n - i) (n - (i + 1)) (at + i) (omega arith) ∙ ap (λ (k : ℕ). get_or f (at + i) 0 ∷ run (byte_at f) 1 (n - (i + 1)) k) a

  pub bytes-end : (i : ℕ) → n ≤ i → bytes_from i ≡ []
  unfolding bytes_from
  bytes-end i h = run_none (byte_at f) 1 (n - i) (at + i) (omega arith)

  unfoldable pub escaped_from : ℕ → List ℕ
  escaped_from i = escape (bytes_from i)

  pub escaped-start : escape (run (byte_at f) 1 n at) ≡ escaped_from 0
  unfolding escaped_from
  escaped-start = ap escape bytes-start

  pub escaped-more : (i : ℕ) → i < n → escaped_from i ≡ escape (get_or f (at + i) 0 ∷ []) ++ escaped_from (i + 1)
  unfolding escaped_from
  escaped-more i h = ap escape (bytes-more i h) ∙ escape-cons (get_or f (at + i) 0) (bytes_from (i + 1))

  pub escaped-end : (i : ℕ) → n ≤ i → escaped_from i ≡ []
  unfolding escaped_from escape
  escaped-end i h = ap escape (bytes-end i h)

  -- a count of their lengths
  pub record Counted (len i : ℕ) : Type 0 where
    pub within : i ≤ n
    pub most : len ≤ 2 * i
    pub same : length (escape (run (byte_at f) 1 n at)) ≡ len + length (escaped_from i)

  pub count-start : Counted 0 0
  count-start = record { within = omega arith; most = omega arith; same = ap length escaped-start ∙ omega arith }

  pub count-more : (len i w : ℕ) → Counted len i → i < n → w ≡ length (escape (get_or f (at + i) 0 ∷ [])) → Counted (len + w) (i + 1)
  count-more len i w k h e =
      let l : length (escaped_from i) ≡ length (escape (get_or f (at + i) 0 ∷ [])) + length (escaped_from (i + 1)) = ap length (escaped-more i h) ∙ length-append (escape (get_or f (at + i) 0 ∷ [])) (escaped_from (i + 1)) in
      record { within = omega arith; most = omega (arith, width-most (get_or f (at + i) 0), k.most); same = omega (arith, k.same) }

  pub count-end : (len i : ℕ) → Counted len i → n ≤ i → (len ≡ length (escape (run (byte_at f) 1 n at))) × (len ≤ 2 * n)
  count-end len i k h = let l : length (escaped_from i) ≡ 0 = ap length (escaped-end i h) in (omega (arith, k.same), omega (arith, k.most, k.within))
