-- From what an exported call answered and left to its line.
use mathlib.Core.Bool.{Bool, true, false}
use mathlib.Core.List.{List, ◌++◌}
use mathlib.Core.Path.{◌≡◌, sym, ap, ◌∙◌}
use Prim.Native.Nat.{ℕ, ◌-◌, ◌*◌, ◌/◌, ◌%◌, ◌≤◌, ◌<◌}
use native.Mathlib.Omega.{arith}
use borrow.Author.Tests.{eq-eqb, ne_eqb}
use lib.Dec.{eqb}
use lib.ListN.{length, take, replicate, length-append}
use lib.Seq.{sets, take_at, length-take-le}
use Rattle.rules.specs.Limits.{plan_limit}
use Rattle.rules.specs.Compile.{Outcome, returned, buffer}
use Rattle.lines.specs.Lines.{line, line_of, hex, refusal, Printable}
use Rattle.lines.proofs.Fronts.{length-hex, length-refusal}

module _ (a : ℕ) (output : List ℕ) where
  choose : (b : Bool) → eqb (a / 65536) 0 ≡ b → line_of a output ≡ elim b [ true ↦ hex (take (a % 65536) output) | false ↦ refusal (a / 65536) ]
  unfolding line_of
  choose b e = ap (λ (t : Bool). elim t as (λ _. List ℕ) [ true ↦ hex (take (a % 65536) output) | false ↦ refusal (a / 65536) ]) e

  line-planned : a / 65536 ≡ 0 → line_of a output ≡ hex (take (a % 65536) output)
  line-planned e = choose true (eq-eqb _ _ e)

  line_refused : (a / 65536 ≡ 0 → ⊥) → line_of a output ≡ refusal (a / 65536)
  line_refused h = choose false (ne_eqb _ _ h)

  pub hex-fits : (out : List ℕ) → Printable a output out → length (take (a % 65536) output) * 2 ≤ length out
  hex-fits out h = omega (arith, length-take-le (a % 65536) output h.inside, h.fits)

  -- the two ways to write it
  pub put-planned : (out out' : List ℕ) → Printable a output out → a / 65536 ≡ 0 → out' ≡ sets out 0 (hex (take (a % 65536) output)) → (a % 65536 * 2 ≡ length (line_of a output)) × (out' ≡ sets out 0 (line_of a output))
  put-planned out out' h e q =
      let l = line-planned e in
      let n = length-hex (take (a % 65536) output) ∙ ap (λ (k : ℕ). k * 2) (length-take-le _ output h.inside) in
      (sym (ap length l ∙ n), q ∙ ap (sets out 0) (sym l))

  pub put_refused : (r : ℕ) (out out' : List ℕ) → (a / 65536 ≡ 0 → ⊥) → r ≡ length (refusal (a / 65536)) → out' ≡ sets out 0 (refusal (a / 65536)) → (r ≡ length (line_of a output)) × (out' ≡ sets out 0 (line_of a output))
  put_refused r out out' e s q = let l = line_refused e in (s ∙ ap length (sym l), q ∙ ap (sets out 0) (sym l))

-- an outcome's line, from what a call returned and left by it
pub record Said (a : ℕ) (output : List ℕ) (o : Outcome) : Type 0 where
  pub number : a / 65536 < 100
  pub short : a % 65536 ≤ plan_limit
  pub inside : a % 65536 ≤ length output
  pub line-is : line_of a output ≡ line o
  pub long : length (line o) ≤ 2 * plan_limit

module _ (room : ℕ) where
  pub said-planned : (bytes : List ℕ) → length bytes ≤ plan_limit → length bytes ≤ room → Said (returned (Outcome.planned bytes)) (buffer room (Outcome.planned bytes)) (Outcome.planned bytes)
  unfolding line returned buffer
  said-planned bytes short fits =
      let rest = replicate {A = ℕ} (room - length bytes) 0 in
      let n : length bytes ≡ length bytes % 65536 = omega arith in
      record {
        number = omega arith;
        short = omega arith;
        inside = omega (arith, length-append bytes rest);
        line-is = line-planned (length bytes) (bytes ++ rest) (omega arith) ∙ ap hex (take_at bytes rest (length bytes % 65536) n);
        long = omega (arith, length-hex bytes);
      }

  pub said-refused : (n : ℕ) → 1 ≤ n → n < 100 → Said (returned (Outcome.refused n)) (buffer room (Outcome.refused n)) (Outcome.refused n)
  unfolding line returned buffer
  said-refused n l m =
      let k : n * 65536 / 65536 ≡ n = omega arith in
      record {
        number = omega arith;
        short = omega arith;
        inside = omega arith;
        line-is = line_refused (n * 65536) (replicate room 0) (λ e. omega (arith, e, k)) ∙ ap refusal k;
        long = omega (arith, length-refusal n);
      }

pub printable : (a : ℕ) (output out : List ℕ) (o : Outcome) → Said a output o → 2 * plan_limit ≤ length out → Printable a output out
printable a output out o s h = record { number = s.number; inside = s.inside; fits = omega (arith, s.short); refusal-fits = omega arith }

-- what is written for an answer is the outcome's line
pub written : (a : ℕ) (output : List ℕ) (o : Outcome) → Said a output o → (r : ℕ) (out out' : List ℕ) → r ≡ length (line_of a output) → out' ≡ sets out 0 (line_of a output) → (r ≡ length (line o)) × ((out' ≡ sets out 0 (line o)) × (r ≤ 2 * plan_limit))
written a output o s r out out' e q =
    let l : r ≡ length (line o) = e ∙ ap length s.line-is in
    (l, (q ∙ ap (sets out 0) s.line-is, omega (arith, l, s.long)))
