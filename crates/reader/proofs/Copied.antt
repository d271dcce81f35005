-- The lengths, and an accepted plan at the front of the output.
use mathlib.Core.Bool.{Bool, true, false}
use mathlib.Core.List.{List, ◌++◌}
use mathlib.Core.Path.{◌≡◌, sym, ap, ◌∙◌}
use Prim.Native.Nat.{ℕ, ◌+◌, ◌≤◌, ◌<◌, min}
use native.Mathlib.Omega.{arith}
use borrow.Author.Tests.{le-leb}
use lib.ListN.{length, take, drop, length-append}
use lib.Seq.{sets, sets-eq, take_at, length-take-le}
use Rattle.rules.specs.Limits.{plan_limit}
use Rattle.rules.specs.Compile.{Outcome}
use Rattle.rules.specs.Reader as Reader
use Rattle.rules.proofs.ReaderRules.{too_long}
use Rattle.endings.specs.Endings.{ending_outcome, Within}
use Rattle.std.specs.Prelude.{Result, Ok, Err}
use Rattle.std.specs.Result.{IsErrAnd}
use Rattle.file.specs.Refusals.{number, numbered}
use Rattle.file.specs.declared.Refusal.{Refusal}
use Rattle.file.specs.declared.Refusal.TheVariants as Refusals
use Rattle.reader.specs.Copies.{bytes_of}

-- what `decide` says of how it ends
abbrev pub Decided : List ℕ → List ℕ → Result ℕ Refusal → List ℕ → Type 0
Decided f out e out' =
    let o = Reader.outcome f (length out) in
    (ending_outcome (numbered e) out' ≡ o) × (Within (numbered e) out' × (out' ≡ sets out 0 (bytes_of o)))

-- 15
pub refused-15 : (f out : List ℕ) → min plan_limit (length out) < length f → Decided f out (Err Refusals.PlanTooLong) out
unfolding ending_outcome
refused-15 f out h =
    let q = too_long f (length out) h in
    (sym q, (tt, sym (ap (λ (o : Outcome). sets out 0 (bytes_of o)) q)))

in-time : (f : List ℕ) (room : ℕ) → length f ≤ plan_limit → length f ≤ room → Reader.outcome f room ≡ Reader.finished (Reader.read f)
unfolding Reader.outcome
in-time f room l m =
    ap (λ (t : Bool). elim t as (λ _. Outcome) [ true ↦ Reader.finished (Reader.read f) | false ↦ Outcome.refused 15 ]) (le-leb (length f) (min plan_limit room) (omega arith))

module _ (f out : List ℕ) (l : length f ≤ plan_limit) (m : length f ≤ length out) where
  -- 16 to 18
  pub refused-by : (r : Result ℕ Refusal) (x : Refusal) → IsErrAnd r (λ y. y ≡ x) → ending_outcome (numbered (Err x)) f ≡ Reader.finished (Reader.read f) → Decided f out r out
  unfolding ending_outcome
  refused-by (Ok n) x h is = absurd h
  refused-by (Err y) x h is =
      let q = ap (λ (z : Refusal). Outcome.refused (number z)) h ∙ is ∙ sym (in-time f (length out) l m) in
      (q, (tt, ap (λ (o : Outcome). sets out 0 (bytes_of o)) q))

  -- a plan's first n bytes copied
  pub copied : (n : ℕ) (out' : List ℕ) → ending_outcome (Ok n) f ≡ Reader.finished (Reader.read f) → n ≤ length f → out' ≡ take n f ++ drop n out → Decided f out (Ok n) out'
  unfolding ending_outcome
  copied n out' is h q =
      let o = is ∙ sym (in-time f (length out) l m) in
      let k : length (take n f) ≡ n = length-take-le n f h in
      let i : n ≡ 0 + length (take n f) = omega (arith, k) in
      let s : sets out 0 (take n f) ≡ take n f ++ drop (0 + length (take n f)) out = sets-eq (take n f) out 0 (omega (arith, k)) in (
        ap Outcome.planned (ap (take n) q ∙ take_at (take n f) (drop n out) n k) ∙ o,
        (
          omega (arith, ap length q, length-append (take n f) (drop n out), k),
          q ∙ ap (λ (m : ℕ). take n f ++ drop m out) i ∙ sym s ∙ ap (λ (x : Outcome). sets out 0 (bytes_of x)) o,
        ),
      )
