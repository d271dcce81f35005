-- A pair compared.
use mathlib.Core.Bool.{Bool, true, false}
use mathlib.Core.List.{List}
use mathlib.Core.Path.{◌≡◌, sym, ap, ap₂, ◌∙◌}
use Prim.Native.Nat.{ℕ, ◌+◌, ◌-◌, ◌*◌, ◌/◌, ◌≤◌, ◌<◌}
use native.Mathlib.Omega.{arith}
use borrow.Author.Tests.{le-leb, lt-leb}
use lib.Dec.{leb}
use lib.ListN.{length, take, drop, replicate, length-replicate}
use lib.Seq.{sets, take-length, length-take-le}
use Rattle.rules.specs.Limits.{plan_limit, work_limit}
use Rattle.rules.specs.Compile.{outcome}
use Rattle.rules.proofs.Cases.{pick}
use Rattle.tally.specs.Bytes.{index_of, slice}
use Rattle.lines.specs.Lines.{line, unhex}
use Rattle.lines.proofs.Fronts.{front, read_back_lem}
use Rattle.tally.specs.Tallies.{same}
use Rattle.tally.proofs.Counts.{same-is, to_end}
use Rattle.replay.specs.Pairs.{agrees_at, agrees}

-- the first space
pub at-space : (pair : List ℕ) (e : ℕ) → e ≡ 0 + index_of 32 (slice 0 (length pair) pair) → agrees pair ≡ agrees_at e pair
unfolding agrees slice
at-space pair e h = ap (λ (k : ℕ). agrees_at k pair) (ap (index_of 32) (sym (take-length pair)) ∙ omega (arith, h))

module _ (pair : List ℕ) (e : ℕ) where
  pub agrees-short : length pair < e + 3 → agrees_at e pair ≡ false
  unfolding agrees_at
  agrees-short h = pick (leb (e + 3) (length pair)) false _ _ (lt-leb (e + 3) (length pair) h)

  agrees-room : e + 3 ≤ length pair → agrees_at e pair ≡ elim (leb e 65538) [ true ↦ same (line (outcome (unhex (take e pair)) plan_limit work_limit)) (drop (e + 3) pair) | false ↦ false ]
  unfolding agrees_at
  agrees-room h = pick (leb (e + 3) (length pair)) true _ _ (le-leb (e + 3) (length pair) h)

  pub agrees-long : e + 3 ≤ length pair → 65538 < e → agrees_at e pair ≡ false
  agrees-long h l = agrees-room h ∙ pick (leb e 65538) false _ _ (lt-leb e 65538 l)

  agrees-here : e + 3 ≤ length pair → e ≤ 65538 → agrees_at e pair ≡ same (line (outcome (unhex (take e pair)) plan_limit work_limit)) (drop (e + 3) pair)
  agrees-here h l = agrees-room h ∙ pick (leb e 65538) true _ _ (le-leb e 65538 l)

  module _ (h : e + 3 ≤ length pair) (l : e ≤ 65538) where
    pub compared : (f f' o o' : List ℕ) (m : ℕ) (b : Bool) → length f ≡ 32769 → f' ≡ sets f 0 (unhex (take e pair)) → length o ≡ 32768 → m ≡ length (line (outcome (take (e / 2) f') plan_limit work_limit)) → o' ≡ sets o 0 (line (outcome (take (e / 2) f') plan_limit work_limit)) → m ≤ 32768 → (b ≡ true → take m o' ≡ take (length pair - (e + 3)) (drop (e + 3) pair)) → (take m o' ≡ take (length pair - (e + 3)) (drop (e + 3) pair) → b ≡ true) → b ≡ agrees_at e pair
    compared f f' o o' m b lf q lo r s k to from =
        let n : length (take e pair) ≡ e = length-take-le e pair (omega arith) in
        let file : take (e / 2) f' ≡ unhex (take e pair) = ap (λ (i : ℕ). take (i / 2) f') (sym n) ∙ read_back_lem (take e pair) f f' (omega (arith, n, lf)) q in
        same-is (take m o') (take (length pair - (e + 3)) (drop (e + 3) pair)) b to from
        ∙ ap (λ (x : List ℕ). same x (take (length pair - (e + 3)) (drop (e + 3) pair))) (ap (take m) s ∙ front o (line (outcome (take (e / 2) f') plan_limit work_limit)) m r (omega (arith, r, lo)))
        ∙ ap₂ (λ (x y : List ℕ). same (line (outcome x plan_limit work_limit)) y) file (to_end pair (e + 3))
        ∙ sym (agrees-here h l)

-- the buffers as they are lent
pub file-length : length (replicate {A = ℕ} 32769 0) ≡ 32769
file-length = length-replicate {A = ℕ} 32769 0

pub line-length : length (replicate {A = ℕ} 32768 0) ≡ 32768
line-length = length-replicate {A = ℕ} 32768 0

pub file-room : (pair f : List ℕ) (e : ℕ) → e ≤ length pair → e ≤ 65538 → length f ≡ 32769 → length (take e pair) ≤ length f * 2
file-room pair f e h l lf = omega (arith, length-take-le e pair h, lf)
