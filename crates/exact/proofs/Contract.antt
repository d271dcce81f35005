-- From the exported function's contract: of a call that wrote a plan, every level of that plan.
use mathlib.Core.Bool.{true, false}
use mathlib.Core.List.{List, [], ◌∷◌, map}
use Rattle.std.specs.Prelude.{None}
use mathlib.Core.Path.{◌≡◌, refl, sym, ap, ◌∙◌, subst}
use Prim.Native.Nat.{ℕ, zero, suc, ◌<◌}
use native.Mathlib.Nat.{not-suc-le-zero, le_of_suc-le-suc}
use native.Mathlib.Omega.{arith}
use lib.ListN.{length, get_or, take}
use Rattle.rules.specs.Base.{Each}
use Rattle.rules.specs.File.{Tables, Binding, LevelEntry}
use Rattle.rules.specs.Events.{Event, Lists}
use Rattle.rules.specs.Walk.{walk_level}
use Rattle.rules.specs.Placement.{SeekBuilder, SeekKey, new, place, place_all}
use Rattle.rules.specs.Levels.{Level, starting, level_of, level, levels_from, levels, left_by, any_mistyped}
use Rattle.rules.specs.Plan.{PlanLevel, plan_level, plan_of, plan}
use Rattle.rules.specs.Demand1.{Byte}
use Rattle.rules.specs.Demand3.{entry_at, level_at, start_of, Demand3}
use Rattle.rules.specs.Compile.{compile}
use Rattle.rules.proofs.Sound.{sound, passed-all}
use Rattle.rules.proofs.Demand3.{demand3}
use Rattle.rules.proofs.Consts.{levels-now}
use Rattle.exact.specs.Values.{Value, zero_free, OfType}
use Rattle.exact.specs.Keys.{Engine}
use Rattle.exact.specs.Conditions.{HoldsValues, Plain, PlainPlan, plan_level_at}
use Rattle.exact.specs.Placings.{placed_by, level_by, placement}
use Rattle.exact.specs.Claims.{planned, key_type_of, bound_before, NoFactSkipped, KeepsExactly}
use Rattle.exact.proofs.NoFactSkipped.{no-fact-skipped}
use Rattle.exact.proofs.Exact.{keeps-exactly}

get-map : {A B : Type 0} (f : A → B) (xs : List A) (k : ℕ) (d : A) (e : B) → k < length xs → get_or (map f xs) k e ≡ f (get_or xs k d)
get-map f [] k d e h = absurd (not-suc-le-zero h)
get-map f (x ∷ xs) zero d e h = refl
get-map f (x ∷ xs) (suc k) d e h = get-map f xs k d e (le_of_suc-le-suc h)

-- what the last level leaves is what a level after it would begin from
left_is : (T : Tables) (start : Lists) (ls : List Level) → left_by start ls ≡ (elim ls as (λ _. Lists) [ [] ↦ start | l ∷ rest ↦ (level_at T ls (length rest)).left ])
unfolding left_by level_at
left_is T start [] = refl
left_is T start (l ∷ ls) = left_is T l.left ls ∙ go ls
  where
    go : (rest : List Level) → (elim rest as (λ _. Lists) [ [] ↦ l.left | m ∷ more ↦ (level_at T rest (length more)).left ]) ≡ (level_at T (l ∷ rest) (length rest)).left
    go [] = refl
    go (m ∷ more) = refl

start_is : (T : Tables) (ls : List Level) → (elim ls as (λ _. Lists) [ [] ↦ starting T | l ∷ rest ↦ (level_at T ls (length rest)).left ]) ≡ start_of T ls (length ls)
unfolding start_of
start_is T [] = refl
start_is T (l ∷ ls) = refl

-- The claims' placement is the rules', and so their level is the level of the rules' list.
placed-is : (T : Tables) (es : List Event) (b : SeekBuilder) → placed_by placement T es b ≡ place_all T es b
unfolding placed_by placement place_all
placed-is T [] b = refl
placed-is T (e ∷ es) b = placed-is T es (place T e b)

level-by-is : (T : Tables) (start : Lists) (entries : List LevelEntry) (k : ℕ) → level_by placement T (level_at T (levels_from T start entries) k) ≡ level_at T (levels_from T start entries) k
unfolding level_by level_at levels_from level level_of placed_by
level-by-is T start [] k = refl
level-by-is T start (l ∷ ls) zero =
    let w = walk_level T l start in
    ap (λ (b : SeekBuilder). record { start = start; left = w.lists; events = w.events; built = b; mistyped = w.mistyped }) (placed-is T w.events new)
level-by-is T start (l ∷ ls) (suc k) = level-by-is T (level T l start).left ls k

pub planned-is : (T : Tables) (k : ℕ) → planned T k ≡ plan_level (level_at T (levels T) k)
unfolding planned levels
planned-is T k = ap plan_level (level-by-is T (starting T) T.levels k)

module _ (bytes out : List ℕ) (d : Demand3 bytes out) where
  abbrev T : Tables
  T = d.tables

  same-levels : d.levels ≡ levels T
  same-levels = d.as-they-stand ∙ levels-now T (sound T (passed-all T d.accepted))

  plain : PlainPlan bytes out d → Plain T
  unfolding plan plan_of
  plain p =
      let left : left_by (starting T) (levels T) ≡ start_of T d.levels (length d.levels) =
      left_is T (starting T) (levels T) ∙ start_is T (levels T) ∙ ap (λ (ls : List Level). start_of T ls (length ls)) (sym same-levels) in
      record {
        accepted = d.accepted;
        typed = ap any_mistyped (sym same-levels) ∙ d.none-mistyped;
        no-diagnostics = ap (λ (l : Lists). l.diagnostics) left ∙ sym d.holds.diagnostics ∙ p.no-diagnostics;
        texts = p.texts;
        own = p.own;
      }

  -- a level of the plan is the rules' level
  level-is : (k : ℕ) → k < length T.levels → plan_level_at d.plan k ≡ planned T k
  unfolding plan_level_at level_at
  level-is k h =
      let past : PlanLevel = record { narrowings = 0; closers = 0; parts = 0; seek = SeekKey.Prefix [] []; guide = None; residuals = []; folded = [] } in
      ap (λ (ls : List PlanLevel). get_or ls k past) d.holds.levels
      ∙ get-map plan_level d.levels k (record { start = starting T; left = starting T; events = []; built = new; mistyped = false }) past (omega (arith, h, d.every-level))
      ∙ ap (λ (ls : List Level). plan_level (level_at T ls k)) same-levels ∙ sym (planned-is T k)

  bound-is : (k : ℕ) → (start_of T d.levels k).bindings ≡ bound_before T k
  unfolding bound_before
  bound-is k = ap (λ (ls : List Level). (start_of T ls k).bindings) same-levels

  -- no fact is skipped
  pub contract-skips-none : PlainPlan bytes out d → (k : ℕ) → k < length T.levels → (engine : Engine) (key' : Value) → OfType T key' (key_type_of T k)
      → NoFactSkipped T (entry_at T k) (start_of T d.levels k).bindings (plan_level_at d.plan k) engine key'
  contract-skips-none p k h engine key' of =
      subst (λ (l : PlanLevel). NoFactSkipped T (entry_at T k) (start_of T d.levels k).bindings l engine key') (sym (level-is k h))
      (subst (λ (b : List Binding). NoFactSkipped T (entry_at T k) b (planned T k) engine key') (sym (bound-is k)) (no-fact-skipped T (plain p) k h engine key' of))

  -- the level keeps exactly the keys that match
  pub contract-keeps-exactly : Each Byte bytes → PlainPlan bytes out d → (k : ℕ) → k < length T.levels → (engine : Engine) → HoldsValues T engine (plan_level_at d.plan k).seek
      → (key' : Value) → OfType T key' (key_type_of T k) → zero_free key' ≡ true → KeepsExactly T (entry_at T k) (start_of T d.levels k).bindings (plan_level_at d.plan k) engine key'
  contract-keeps-exactly b p k h engine held key' of z =
      subst (λ (l : PlanLevel). KeepsExactly T (entry_at T k) (start_of T d.levels k).bindings l engine key') (sym (level-is k h))
      (subst (λ (x : List Binding). KeepsExactly T (entry_at T k) x (planned T k) engine key') (sym (bound-is k))
      (keeps-exactly bytes b T d.reads (plain p) k h engine (subst (λ (l : PlanLevel). HoldsValues T engine l.seek) (level-is k h) held) key' of z))

-- The call itself: where it returned a length, of the plan that stands in the buffer's front.
module _ (bytes buffer work : List ℕ) (h : (compile bytes buffer work).result < 65536) where
  abbrev wrote : Demand3 bytes (take (compile bytes buffer work).result (compile bytes buffer work).plan)
  wrote = demand3 bytes buffer work h

  pub call-skips-none : PlainPlan bytes _ wrote → (k : ℕ) → k < length wrote.tables.levels → (engine : Engine) (key' : Value) → OfType wrote.tables key' (key_type_of wrote.tables k)
      → NoFactSkipped wrote.tables (entry_at wrote.tables k) (start_of wrote.tables wrote.levels k).bindings (plan_level_at wrote.plan k) engine key'
  call-skips-none = contract-skips-none bytes _ wrote

  pub call-keeps-exactly : Each Byte bytes → PlainPlan bytes _ wrote → (k : ℕ) → k < length wrote.tables.levels → (engine : Engine) → HoldsValues wrote.tables engine (plan_level_at wrote.plan k).seek
      → (key' : Value) → OfType wrote.tables key' (key_type_of wrote.tables k) → zero_free key' ≡ true
      → KeepsExactly wrote.tables (entry_at wrote.tables k) (start_of wrote.tables wrote.levels k).bindings (plan_level_at wrote.plan k) engine key'
  call-keeps-exactly = contract-keeps-exactly bytes _ wrote
