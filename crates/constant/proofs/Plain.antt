-- The least of a run of bytes, and bytes that are their own escaped form.
use Prim.Native.Nat.{ℕ, ◌+◌, ◌*◌, ◌≤◌, ◌<◌, min}
use mathlib.Core.Path.{◌≡◌, refl, sym, ap, ◌∙◌}
use mathlib.Core.Bool.{Bool, true}
use mathlib.Core.List.{List, [], ◌∷◌, ◌++◌}
use native.Mathlib.Omega.{arith}
use lib.Dec.{ltb}
use lib.ListN.{length, get_or}
use borrow.Author.Tests.{ltb-true, ltb-false, lt-ltb, le-ltb}
use Rattle.rules.specs.Base.{all}
use Rattle.rules.specs.Constant.{escape}
use Rattle.rules.proofs.Cases.{by-test, ways, true≢false}
use Rattle.views.specs.Views.{run, byte_at}
use Rattle.views.proofs.Runs.{length_run}
use Rattle.constant.specs.Plain.{least_byte, plain}
use Rattle.constant.proofs.Escapes.{escape-cons, escape-other, bytes_from, bytes-start, bytes-more, bytes-end}

-- the lesser of two is above zero where both are
min-above : (a b : ℕ) → 0 < a → ltb 0 (min a b) ≡ ltb 0 b
min-above a b h = ways (ltb 0 b) _ (λ e. lt-ltb 0 (min a b) (omega (arith, ltb-true 0 b e)) ∙ sym e) (λ e. le-ltb 0 (min a b) (omega (arith, ltb-false 0 b e)) ∙ sym e)

pub plain-least : (bytes : List ℕ) → ltb 0 (least_byte bytes) ≡ plain bytes
unfolding least_byte plain all
plain-least [] = refl
plain-least (b ∷ bs) =
    by-test (λ (t : Bool). ltb 0 (min b (least_byte bs)) ≡ t) (ltb 0 b) (λ e. min-above b (least_byte bs) (ltb-true 0 b e) ∙ plain-least bs)
    (λ e. le-ltb 0 (min b (least_byte bs)) (omega (arith, ltb-false 0 b e)))

pub plain-same : (bytes : List ℕ) → plain bytes ≡ true → escape bytes ≡ bytes
unfolding plain all escape
plain-same [] = λ e. refl
plain-same (b ∷ bs) =
    by-test (λ (t : Bool). t ≡ true → escape (b ∷ bs) ≡ b ∷ bs) (ltb 0 b)
    (λ h e. escape-cons b bs ∙ ap (λ (l : List ℕ). l ++ escape bs) (escape-other b (λ z. omega (arith, ltb-true 0 b h))) ∙ ap (λ (l : List ℕ). b ∷ l) (plain-same bs e))
    (λ h e. absurd (true≢false (sym e)))

-- the number of plain bytes is that of their escaped form
pub plain-length : (f : List ℕ) (n at : ℕ) → plain (run (byte_at f) 1 n at) ≡ true → (n ≡ length (escape (run (byte_at f) 1 n at))) × (n ≤ 2 * n)
plain-length f n at e = (sym (ap length (plain-same (run (byte_at f) 1 n at) e) ∙ length_run (byte_at f) 1 n at), omega arith)

least-most : (bytes : List ℕ) → least_byte bytes ≤ 255
unfolding least_byte
least-most [] = omega arith
least-most (b ∷ bs) = omega (arith, least-most bs)

-- n bytes of f from at on, of which i are done: the least of those is low
module _ (f : List ℕ) (n at : ℕ) where
  pub record Least (low i : ℕ) : Type 0 where
    pub within : i ≤ n
    pub most : low ≤ 255
    pub same : least_byte (run (byte_at f) 1 n at) ≡ min low (least_byte (bytes_from f n at i))

  pub least_start : Least 255 0
  least_start = record { within = omega arith; most = omega arith; same = ap least_byte (bytes-start f n at) ∙ omega (arith, least-most (bytes_from f n at 0)) }

  pub least_more : (low i l : ℕ) → Least low i → i < n → l ≡ min low (get_or f (at + i) 0) → Least l (i + 1)
  unfolding least_byte
  least_more low i l k h e =
      let m : least_byte (bytes_from f n at i) ≡ min (get_or f (at + i) 0) (least_byte (bytes_from f n at (i + 1))) = ap least_byte (bytes-more f n at i h) in
      record { within = omega arith; most = omega (arith, k.most); same = omega (arith, k.same) }

  pub least-end : (low i : ℕ) → Least low i → n ≤ i → low ≡ least_byte (run (byte_at f) 1 n at)
  unfolding least_byte
  least-end low i k h =
      let m : least_byte (bytes_from f n at i) ≡ 255 = ap least_byte (bytes-end f n at i h) in
      omega (arith, k.same, k.most)
