-- From where the walk over a plan's bytes stopped to what the written rules say of them.
use mathlib.Core.Bool.{Bool, true, false}
use mathlib.Core.List.{List, []}
use mathlib.Core.Path.{◌≡◌, refl, sym, ap, ◌∙◌}
use Prim.Native.Nat.{ℕ, ◌≤◌}
use native.Mathlib.Omega.{arith}
use borrow.Author.Tests.{eq-eqb, ne_eqb}
use lib.Dec.{eqb}
use lib.ListN.{length, take}
use lib.Seq.{take-length}
use Rattle.rules.specs.Base.{Each, all}
use Rattle.rules.specs.Read.{Read}
use Rattle.rules.specs.Read.Read.{got, refused}
use Rattle.rules.specs.Plan.{Plan, plan_bytes}
use Rattle.rules.specs.Compile.{Outcome}
use Rattle.rules.specs.Demand1.{Byte}
use Rattle.rules.specs.Reader as Reader
use Rattle.rules.specs.Reader.{level_rules}
use Rattle.rules.proofs.ReaderWrites.{Reading, whole, ends-or-unknown, reading}
use Rattle.file.specs.Steps.{step_of, read_at, step_at}
use Rattle.std.specs.Prelude.{Result, Ok, Err}
use Rattle.file.specs.Refusals.{number, numbered}
use Rattle.file.specs.declared.Refusal.{Refusal}
use Rattle.file.specs.declared.Refusal.TheVariants as Refusals
use Rattle.file.proofs.Readers.{refused-got, refused-next}
use Rattle.plan_form.specs.Places.{got_plan, plan_of, Opened}
use Rattle.endings.specs.Endings.{ending_outcome}
use Rattle.reader.specs.Copies.{number_of}

got-injective : {A : Type 0} {a b : A} {l m : List ℕ} → got a l ≡ got b m → (a ≡ b) × (l ≡ m)
got-injective e = (cc, cc)

next-injective : {m n : ℕ} → ◌≡◌ {A = Result ℕ ℕ} (Ok m) (Ok n) → m ≡ n
next-injective e = cc

-- nothing is left of a plan that was read, and it is written as its bytes
read_whole : {f : List ℕ} {x : Read Plan} → Reading f x → (p : Plan) (rest : List ℕ) → x ≡ got p rest → (rest ≡ []) × (plan_bytes p ≡ f)
read_whole (whole {p = q} w) p rest e = let i = got-injective e in (sym i.1, ap plan_bytes (sym i.0) ∙ w)
read_whole (ends-or-unknown {n} l m) p rest e = absurd (refused-got e)

module _ (f : List ℕ) (h : Each Byte f) where
  -- what a walk to the end says
  record Walked (n : ℕ) : Type 0 where
    reads : Reader.plan f ≡ got (plan_of f) []
    long : n ≡ length f
    same : plan_bytes (plan_of f) ≡ f

  walked_by : (n : ℕ) (x : Read Plan) → Reader.plan f ≡ x → Ok n ≡ step_of f x → Walked n
  unfolding plan_of step_of Reader.read Reader.numbered
  walked_by n (got p rest) e q =
      let w = read_whole (reading f h) p rest (ap Reader.numbered e) in
      let is : plan_of f ≡ p = ap (λ (x : Read Plan). got_plan x) e in
      record {
        reads = e ∙ ap (λ (l : List ℕ). got p l) w.0 ∙ ap (λ (k : Plan). got k []) (sym is);
        long = omega (arith, next-injective q, ap (λ (l : List ℕ). length l) w.0);
        same = ap plan_bytes is ∙ w.1;
      }
  walked_by n (refused m) e q = absurd (refused-next (sym q))

  walked : (n : ℕ) → Ok n ≡ step_at f Reader.plan 0 → Walked n
  unfolding step_at read_at
  walked n q = walked_by n (Reader.plan f) refl q

  pub opened : (n : ℕ) → Ok n ≡ step_at f Reader.plan 0 → Opened f
  unfolding Opened
  opened n q = (walked n q).reads

  pub within : (n : ℕ) → Ok n ≡ step_at f Reader.plan 0 → n ≤ length f
  within n q = omega (arith, (walked n q).long)

  judged-as : (n : ℕ) → Ok n ≡ step_at f Reader.plan 0 → Reader.finished (Reader.read f) ≡ Reader.judged (plan_of f)
  unfolding Reader.finished Reader.read Reader.numbered
  judged-as n q = ap (λ (x : Read Plan). Reader.finished (Reader.numbered x)) (walked n q).reads

  judged-by : (b : Bool) → b ≡ all level_rules (plan_of f).levels → Reader.judged (plan_of f) ≡ elim b [ true ↦ Outcome.planned (plan_bytes (plan_of f)) | false ↦ Outcome.refused 18 ]
  unfolding Reader.judged
  judged-by b e = ap (λ (t : Bool). elim t as (λ _. Outcome) [ true ↦ Outcome.planned (plan_bytes (plan_of f)) | false ↦ Outcome.refused 18 ]) (sym e)

  pub keeps : (n : ℕ) → Ok n ≡ step_at f Reader.plan 0 → true ≡ all level_rules (plan_of f).levels → ending_outcome (Ok n) f ≡ Reader.finished (Reader.read f)
  unfolding ending_outcome
  keeps n q b =
      let w = walked n q in
      ap Outcome.planned (ap (λ (k : ℕ). take k f) w.long ∙ take-length f ∙ sym w.same) ∙ sym (judged-as n q ∙ judged-by true b)

  pub breaks : (n : ℕ) → Ok n ≡ step_at f Reader.plan 0 → false ≡ all level_rules (plan_of f).levels → ending_outcome (numbered (Err Refusals.PlanRule)) f ≡ Reader.finished (Reader.read f)
  unfolding ending_outcome
  breaks n q b = sym (judged-as n q ∙ judged-by false b)

-- 16 or 17
pub ends-early : (n : ℕ) → n ≡ 3 → 16 ≡ number_of n
unfolding number_of
ends-early n e = sym (ap (λ (t : Bool). elim t as (λ _. ℕ) [ true ↦ 16 | false ↦ 17 ]) (eq-eqb n 3 e))

pub other-fault : (n : ℕ) → (n ≡ 3 → ⊥) → 17 ≡ number_of n
unfolding number_of
other-fault n h = sym (ap (λ (t : Bool). elim t as (λ _. ℕ) [ true ↦ 16 | false ↦ 17 ]) (ne_eqb n 3 h))

numbered-by : (b : Bool) → Outcome.refused (elim b [ true ↦ 16 | false ↦ 17 ]) ≡ Reader.finished (elim b [ true ↦ refused 16 | false ↦ refused 17 ])
unfolding Reader.finished
numbered-by true = refl
numbered-by false = refl

refused-by : (f : List ℕ) (n : ℕ) (x : Read Plan) → Err n ≡ step_of f x → Outcome.refused (number_of n) ≡ Reader.finished (Reader.numbered x)
unfolding step_of Reader.numbered number_of
refused-by f n (got p rest) e = absurd (refused-next e)
refused-by f n (refused m) e =
    let is : n ≡ m = cc in
    ap (λ (k : ℕ). Outcome.refused (number_of k)) is ∙ numbered-by (eqb m 3)

pub refuses : (f : List ℕ) (n : ℕ) (m : Refusal) → Err n ≡ step_at f Reader.plan 0 → number m ≡ number_of n → (ending_outcome (numbered (Err m)) f ≡ Reader.finished (Reader.read f)) × Unit {0}
unfolding step_at read_at Reader.read ending_outcome
refuses f n m e q = (ap Outcome.refused q ∙ refused-by f n (Reader.plan f) e, tt)

-- 3 is the number of one refusal alone
only-ends : (r : Refusal) → number r ≡ 3 → r ≡ Refusals.Ends
only-ends Refusals.FileTooLong e = absurd (omega (arith, e))
only-ends Refusals.WorkTooShort e = absurd (omega (arith, e))
only-ends Refusals.Ends e = refl
only-ends Refusals.Count e = absurd (omega (arith, e))
only-ends Refusals.Kind e = absurd (omega (arith, e))
only-ends Refusals.NameByte e = absurd (omega (arith, e))
only-ends Refusals.Follows e = absurd (omega (arith, e))
only-ends Refusals.Number e = absurd (omega (arith, e))
only-ends Refusals.Child e = absurd (omega (arith, e))
only-ends Refusals.Repeat e = absurd (omega (arith, e))
only-ends Refusals.Depth e = absurd (omega (arith, e))
only-ends Refusals.Shared e = absurd (omega (arith, e))
only-ends Refusals.NotConstant e = absurd (omega (arith, e))
only-ends Refusals.Path e = absurd (omega (arith, e))
only-ends Refusals.PlanTooLong e = absurd (omega (arith, e))
only-ends Refusals.PlanEnds e = absurd (omega (arith, e))
only-ends Refusals.PlanByte e = absurd (omega (arith, e))
only-ends Refusals.PlanRule e = absurd (omega (arith, e))
only-ends Refusals.Literal e = absurd (omega (arith, e))

pub not-ends : (r : Refusal) → (r ≡ Refusals.Ends → ⊥) → 17 ≡ number_of (number r)
not-ends r h = other-fault (number r) (λ e. h (only-ends r e))
