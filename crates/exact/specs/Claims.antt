-- Request [10]: what is claimed of every accepted file.
use Rattle.std.specs.Prelude.{true, List, ◌≡◌, ℕ, Some}
use Rattle.rules.specs.File.{Tables, Ty, Binding, LevelEntry}
use Rattle.rules.specs.Levels.{levels}
use Rattle.rules.specs.Plan.{PlanLevel, plan_level}
use Rattle.rules.specs.Demand3.{entry_at, level_at, start_of}
use Rattle.exact.specs.Values.{Value}
use Rattle.exact.specs.Keys.{Engine}
use Rattle.exact.specs.Passes.{passes}
use Rattle.exact.specs.Matcher.{key_type, matches}
use Rattle.exact.specs.Placings.{level_by, placement}

-- level k as the plan has it: its walk's events, placed one by one
unfoldable pub planned : Tables → ℕ → PlanLevel
planned T k = plan_level (level_by placement T (level_at T (levels T) k))

-- the type of its keys, and the bindings that the levels before it left
unfoldable pub key_type_of : Tables → ℕ → Ty
key_type_of T k = key_type T (entry_at T k)

unfoldable pub bound_before : Tables → ℕ → List Binding
bound_before T k = (start_of T (levels T) k).bindings

-- What is claimed of a level of a plan, with its entry in the file, the bindings that the levels before it left, whatever the engine holds,
-- and a key: the matcher is asked with the comparisons that the level folded.
module _ (T : Tables) (entry : LevelEntry) (bound : List Binding) (l : PlanLevel) (engine : Engine) (key : Value) where
  abbrev pub Matches : List Binding → Type 0
  Matches after = matches T engine entry l.folded bound key ≡ Some after

  abbrev pub Passes : Type 0
  Passes = passes engine (key_type T entry) l key ≡ true

  -- "no fact is skipped": a key that the matcher accepts passes. Zero bytes in the key do not matter here.
  pub record NoFactSkipped : Type 0 where
    pub kept : (after : List Binding) → Matches after → Passes

  -- "a key with no zero byte in its texts and byte strings passes .. exactly when the matcher accepts it"
  pub record KeepsExactly : Type 0 where
    pub no-fact-skipped : (after : List Binding) → Matches after → Passes
    pub no-fact-added : Passes → (after : List Binding) × Matches after

unfoldable pub open_claims : Unit {0}
unfolding planned key_type_of bound_before
open_claims = tt
