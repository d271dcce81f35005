-- From the lent memory and the verdict on a file to the written rules' outcome.
use mathlib.Core.Bool.{Bool, true, false}
use mathlib.Core.List.{List, []}
use mathlib.Core.Path.{◌≡◌, refl, sym, ap, ◌∙◌}
use Prim.Native.Nat.{ℕ, ◌+◌, ◌≤◌, ◌<◌, min}
use native.Mathlib.Omega.{arith}
use borrow.Author.Tests.{le-leb, lt-leb, leb-true}
use lib.Dec.{leb}
use lib.ListN.{length, take, replicate, length-replicate}
use lib.Seq.{sets, length-sets}
use Rattle.rules.specs.Base.{Each}
use Rattle.rules.specs.Limits.{file_limit, work_limit, plan_limit}
use Rattle.rules.specs.File.{Tables, is_constant}
use Rattle.rules.specs.Read as Read
use Rattle.rules.specs.Checks.{checks, fault}
use Rattle.rules.specs.Compile as CompileRules
use Rattle.rules.specs.Compile.{Outcome, outcome}
use Rattle.rules.specs.Demand1.{Byte}
use Rattle.rules.proofs.Cases.{by-test, true≢false, pick}
use Rattle.rules.proofs.Choices.{by-test₂}
use Rattle.state.specs.State.{state, stop}
use Rattle.state.specs.Levels as StateLevels
use Rattle.state.specs.Levels.{written_to, finished, unpaged, compiled, lists}
use Rattle.state.proofs.Whole.{exact-file, mistyped-file}
use Rattle.rules.specs.Literals.{levels_meet}
use Rattle.rules.proofs.Literals.{levels-meet}
use Rattle.accepted_file.proofs.Given.{sound-tables}
use Rattle.file.specs.Steps.{index_length}
use Rattle.file.specs.Tables.{tables_of}
use Rattle.accepted_file.specs.AcceptedFile.{AcceptedFile, flag}
use Rattle.checks.specs.Checked.{bit_of, Checked, verdict_of, all_fault, read_verdict, file_verdict}
use Rattle.std.specs.Prelude.{Result, Ok, Err, Option, None, Some}
use Rattle.std.specs.Result.{IsErrAnd}
use Rattle.file.specs.Refusals.{number, numbered}
use Rattle.file.specs.declared.Refusal.{Refusal}
use Rattle.file.specs.declared.Refusal.TheVariants as Refusals
use Rattle.endings.specs.Endings.{ending_outcome, Within}
use Rattle.compile.specs.Memories.{call_verdict, accepted_outcome, Memory, memory, accepted_memory, memory_by}
use Rattle.fates.proofs.Right.{short-recalls}
use Rattle.levels.specs.Written.{unleveled, between_levels, written_of}
use Rattle.levels.specs.declared.Written.{Written}

-- 1 and 2
module _ (f : List ℕ) (area : ℕ) where
  pub long-file : file_limit < length f → call_verdict f area ≡ Err 1
  unfolding call_verdict
  long-file h = pick (leb (length f) file_limit) false _ _ (lt-leb (length f) file_limit h)

  short-file : length f ≤ file_limit → call_verdict f area ≡ elim (leb work_limit area) [ true ↦ file_verdict f | false ↦ Err 2 ]
  unfolding call_verdict
  short-file h = pick (leb (length f) file_limit) true _ _ (le-leb (length f) file_limit h)

  pub small-area : length f ≤ file_limit → area < work_limit → call_verdict f area ≡ Err 2
  small-area h l = short-file h ∙ pick (leb work_limit area) false _ _ (lt-leb work_limit area l)

  pub file-decides : length f ≤ file_limit → work_limit ≤ area → call_verdict f area ≡ file_verdict f
  file-decides h l = short-file h ∙ pick (leb work_limit area) true _ _ (le-leb work_limit area l)

-- 3 to 14
refused-number : (m n : ℕ) → ◌≡◌ {A = Result (Unit {0}) ℕ} (Err m) (Err n) → m ≡ n
refused-number m n e = cc

accepted≢refused : (n : ℕ) → ◌≡◌ {A = Result (Unit {0}) ℕ} (Ok tt) (Err n) → ⊥
accepted≢refused n e = let z : ◌≡◌ {A = ℕ} 0 1 = cc in omega arith

fault-refused : (room : ℕ) (T : Tables) (o : Option ℕ) (n : ℕ) → verdict_of o ≡ Err n → CompileRules.checked room T o ≡ Outcome.refused n
unfolding CompileRules.checked
fault-refused room T None n e = absurd (accepted≢refused n e)
fault-refused room T (Some m) n e = ap Outcome.refused (refused-number m n e)

read-refused : (room : ℕ) (r : Read.Read Tables) (n : ℕ) → read_verdict r ≡ Err n → CompileRules.reading room r ≡ Outcome.refused n
unfolding CompileRules.reading read_verdict all_fault
read-refused room (Read.got T rest) n e = fault-refused room T (fault checks T) n e
read-refused room (Read.refused m) n e = ap Outcome.refused (refused-number m n e)

refused-by : (f : List ℕ) (room area n : ℕ) → call_verdict f area ≡ Err n → Outcome.refused n ≡ outcome f room area
unfolding call_verdict file_verdict outcome
refused-by f room area n =
    by-test₂ (λ (v : Result (Unit {0}) ℕ) (o : Outcome). v ≡ Err n → Outcome.refused n ≡ o) (leb (length f) file_limit)
    (λ q. by-test₂ (λ (v : Result (Unit {0}) ℕ) (o : Outcome). v ≡ Err n → Outcome.refused n ≡ o) (leb work_limit area)
    (λ p e. sym (read-refused room (Read.file f) n e))
    (λ p e. ap Outcome.refused (refused-number n 2 (sym e))))
    (λ q e. ap Outcome.refused (refused-number n 1 (sym e)))

pub refused-outcome : (f p : List ℕ) (room area : ℕ) (x : Refusal) → call_verdict f area ≡ Err (number x) → ending_outcome (numbered (Err x)) p ≡ outcome f room area
unfolding ending_outcome
refused-outcome f p room area x e = refused-by f room area (number x) e

-- what the exit of a `?` returns
pub passed-on : (f p : List ℕ) (room area : ℕ) (r : Result ℕ Refusal) (x : Refusal) → IsErrAnd r (λ y. y ≡ x) → call_verdict f area ≡ Err (number x)
    → (ending_outcome (numbered r) p ≡ outcome f room area) × Within (numbered r) p
passed-on f p room area (Ok n) x h e = absurd h
passed-on f p room area (Err y) x h e = (refused-outcome f p room area y (e ∙ ap (λ (z : Refusal). Err (number z)) (sym h)), tt)

-- the index of the call's own frame keeps its length
pub own-length : (ix zx : List ℕ) → length ix ≡ length zx → zx ≡ replicate index_length 0 → length ix ≡ index_length
own-length ix zx l e = l ∙ ap length e ∙ length-replicate {A = ℕ} index_length 0

-- an accepted file is ready
no-fault : (o : Option ℕ) → verdict_of o ≡ Ok tt → o ≡ None
no-fault None e = refl
no-fault (Some n) e = absurd (accepted≢refused n (sym e))

bit-flag : (b : Bool) → bit_of b ≡ flag b
bit-flag true = refl
bit-flag false = refl

pub ready : (f ix : List ℕ) → length ix ≡ index_length → Ok tt ≡ file_verdict f → Checked f ix → AcceptedFile f ix
unfolding file_verdict read_verdict all_fault
ready f ix short e k =
    let filled = k.numbered.filled in
    record {
      indexed = filled.indexed;
      accepted = no-fault (fault checks (tables_of f)) (sym (ap read_verdict filled.indexed.accepted) ∙ sym e);
      depths = filled.depth-at;
      constants = λ n h. filled.constant-at n h ∙ bit-flag (is_constant (tables_of f) n);
      last-bindings = filled.last-at;
      remembered = λ n t d h l r. short-recalls (tables_of f) ix short n t d r;
    }

-- what the tables say of the levels is what their walks note
pub accepted-outcome : (f ix : List ℕ) → Each Byte f → AcceptedFile f ix → (work plan : List ℕ) → length f ≤ file_limit → work_limit ≤ length work → accepted_outcome (tables_of f) work plan ≡ outcome f (length plan) (length work)
unfolding accepted_outcome
accepted-outcome f ix b k work plan short large =
    let T = tables_of f in
    let same = levels-meet T (sound-tables f ix k) in
    by-test (λ (o : Outcome). o ≡ outcome f (length plan) (length work)) (levels_meet T T.levels)
    (λ m. mistyped-file f T [] k.indexed.accepted k.accepted (length plan) (length work) short large (same ∙ m))
    (λ m. exact-file f b T [] k.indexed.accepted k.accepted work plan short large (same ∙ m))

-- 19
module _ (T : Tables) (work plan : List ℕ) (m : levels_meet T T.levels ≡ true) where
  pub met-outcome : (p : List ℕ) → ending_outcome (numbered (Err Refusals.Literal)) p ≡ accepted_outcome T work plan
  unfolding ending_outcome accepted_outcome
  met-outcome p = sym (pick (levels_meet T T.levels) true (Outcome.refused 19) _ m)

  pub met-memory : memory work plan ≡ accepted_memory T work plan
  unfolding accepted_memory
  met-memory = sym (pick (levels_meet T T.levels) true (memory work plan) _ m)

-- a plan that is not too long lies within its buffer
finished-within : (k : StateLevels.Written) → (finished k).state.over ≡ false → (finished k).at ≤ length (finished k).state.plan
unfolding finished stop
finished-within k =
    by-test (λ (r : StateLevels.Written). r.state.over ≡ false → r.at ≤ length r.state.plan) k.state.over (λ q e. absurd (true≢false (sym q ∙ e)))
    (λ q. by-test (λ (r : StateLevels.Written). r.state.over ≡ false → r.at ≤ length r.state.plan) (leb (k.at + length (lists k.state)) (min plan_limit (length k.state.plan)))
    {x = written_to (k.at + length (lists k.state)) (state false k.state.ends k.state.level k.state.target k.state.work (sets k.state.plan k.at (lists k.state))) k.page}
    (λ t e. omega (arith, leb-true (k.at + length (lists k.state)) (min plan_limit (length k.state.plan)) t, length-sets k.state.plan k.at (lists k.state)))
    (λ t e. absurd (true≢false e)))

-- what a verdict leaves
pub left_by_lem : (u v : Result (Unit {0}) ℕ) (T : Tables) (work plan : List ℕ) (m : Memory) → m ≡ memory_by u T work plan → u ≡ v → m ≡ memory_by v T work plan
left_by_lem u v T work plan m h e = h ∙ ap (λ (x : Result (Unit {0}) ℕ). memory_by x T work plan) e

pub accepted-memory : (v : Result (Unit {0}) ℕ) (T : Tables) (work plan : List ℕ) (m : Memory) → m ≡ accepted_memory T work plan → Ok tt ≡ v → m ≡ memory_by v T work plan
unfolding memory_by
accepted-memory v T work plan m h e = left_by_lem (Ok tt) v T work plan m h e

pub refused-memory : (v : Result (Unit {0}) ℕ) (n : ℕ) (T : Tables) (work plan : List ℕ) → v ≡ Err n → memory work plan ≡ memory_by v T work plan
unfolding memory_by
refused-memory v n T work plan e = left_by_lem (Err n) v T work plan (memory work plan) refl (sym e)

module _ (T : Tables) (work plan work' plan' : List ℕ) (w : Written) (m : levels_meet T T.levels ≡ false) (e : written_of w work' plan' [] ≡ between_levels (compiled T work plan)) where
  same : StateLevels.written_outcome (written_of w work' plan' []) ≡ accepted_outcome T work plan
  unfolding between_levels unleveled StateLevels.written_outcome accepted_outcome
  same = ap StateLevels.written_outcome e ∙ sym (pick (levels_meet T T.levels) false (Outcome.refused 19) (StateLevels.written_outcome (compiled T work plan)) m)

  pub kept_memory : memory work' plan' ≡ accepted_memory T work plan
  unfolding written_of between_levels unleveled accepted_memory
  kept_memory =
      ap (λ (k : StateLevels.Written). memory k.state.work k.state.plan) e
      ∙ sym (pick (levels_meet T T.levels) false (memory work plan) (memory (compiled T work plan).state.work (compiled T work plan).state.plan) m)

  pub too_long : w.lists.over ≡ true → ending_outcome (numbered (Err Refusals.PlanTooLong)) plan' ≡ accepted_outcome T work plan
  unfolding ending_outcome StateLevels.written_outcome written_of
  too_long o = ap (λ (b : Bool). elim b [ true ↦ Outcome.refused 15 | false ↦ Outcome.planned (take w.at plan') ]) (sym o) ∙ same

  pub short-enough : w.lists.over ≡ false → (ending_outcome (Ok w.at) plan' ≡ accepted_outcome T work plan) × (w.at ≤ length plan')
  unfolding ending_outcome StateLevels.written_outcome written_of between_levels unleveled compiled unpaged
  short-enough o = (
    ap (λ (b : Bool). elim b [ true ↦ Outcome.refused 15 | false ↦ Outcome.planned (take w.at plan') ]) (sym o) ∙ same,
    omega (arith, ap (λ k. k.at) e, ap (λ k. length k.state.plan) e, finished-within _ (ap (λ k. k.state.over) (sym e) ∙ o)),
  )
