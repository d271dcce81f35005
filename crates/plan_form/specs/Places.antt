-- Request [1]: what stands in a plan, and where. A plan has no index: an item is found by its position, which the one before it hands out.
use Rattle.std.specs.Prelude.{ℕ, zero, suc, ◌≡◌, List, [], Ok, Err}
use Rattle.rules.specs.Plan.{Plan}
use Rattle.rules.specs.Read.{Read, Reader}
use Rattle.rules.specs.Read.Read.{got, refused}
use Rattle.rules.specs.Reader as Reader
use Rattle.file.specs.Steps.{read_at, step_at}

abbrev pub no_plan : Plan
no_plan = record { levels = []; bindings = []; constrained = []; selects = []; diagnostics = [] }

abbrev pub got_plan : Read Plan → Plan
got_plan (got p rest) = p
got_plan (refused n) = no_plan

-- what the written rules read in plan f
unfoldable pub plan_of : List ℕ → Plan
plan_of f = got_plan (Reader.plan f)

-- f has a plan's form: 16 and 17 don't refuse it
unfoldable pub Opened : List ℕ → Type 0
Opened f = Reader.plan f ≡ got (plan_of f) []

-- reader r finds something at position p of f
pub record Found {A : Type 0} (f : List ℕ) (r : Reader A) (p : ℕ) : Type 0 where
  pub item : A
  pub rest : List ℕ
  pub reads : read_at f r p ≡ got item rest

-- where item k begins of those that reader r reads one after another from p on
unfoldable pub place_of : {A : Type 0} → List ℕ → Reader A → ℕ → ℕ → ℕ
place_of f r p zero = p
place_of f r p (suc k) = elim (step_at f r p) [ Ok q ↦ place_of f r q k | Err x ↦ p ]
