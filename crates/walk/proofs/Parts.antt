-- A walk with another level, or with other lists: what that is of the state.
use mathlib.Core.Path.{◌≡◌, refl, ap, ◌∙◌}
use mathlib.Core.List.{List}
use Prim.Native.Nat.{ℕ}
use Rattle.rules.specs.File.{Tables}
use Rattle.state.specs.State.{Level, Target, State}
use Rattle.seek.specs.Seek.{state_of, level_of, target_of, guide_of, range_of, edges_of}
use Rattle.seek.specs.declared.SeekBuilder.{SeekBuilder}
use Rattle.lists.specs.Lists.{ends_of, state_with}
use Rattle.lists.specs.declared.Ends.{Ends}
use Rattle.lists.specs.declared.Lists.{Lists}
use Rattle.walk.specs.Walk.{walk_state, lists_of, with_lists}
use Rattle.walk.specs.declared.Walk.{Walk}

-- another level
pub placed-is : (T : Tables) (r : Walk) (e : Ends) (l : SeekBuilder) (work plan : List ℕ) → r ≡ record { ends = e; level = l } → walk_state T r work plan ≡ state_of T l (ends_of e) work plan
unfolding walk_state
placed-is T r e l work plan q = ap (λ (x : Walk). state_of T x.level (ends_of x.ends) work plan) q

module _ (T : Tables) (w : Walk) where
  -- the level as it is
  pub level-of : (work plan : List ℕ) → state_of T w.level (ends_of w.ends) work plan ≡ walk_state T w work plan
  unfolding walk_state
  level-of work plan = refl

  -- the lists as they are
  pub lists-of : (l : Lists) (work plan : List ℕ) → l ≡ lists_of w → state_with l (level_of T w.level) (target_of w.level.target) work plan ≡ walk_state T w work plan
  unfolding walk_state state_of
  lists-of l work plan e = ap (λ (x : Lists). state_with x (level_of T w.level) (target_of w.level.target) work plan) e

  -- other lists
  pub lists-are : (r : Walk) (l : Lists) (work plan : List ℕ) → r ≡ with_lists w l → walk_state T r work plan ≡ state_with l (level_of T w.level) (target_of w.level.target) work plan
  unfolding walk_state state_of level_of guide_of range_of edges_of
  lists-are r l work plan e = ap (λ (x : Walk). walk_state T x work plan) e

  -- what is done to the lists is done to the walk
  pub listed-is : (r : Walk) (l l' : Lists) (work work' plan : List ℕ) (op : State → State) → l ≡ lists_of w → r ≡ with_lists w l' → ((level : Level) (target : Target) (p : List ℕ) → state_with l' level target work' p ≡ op (state_with l level target work p)) → walk_state T r work' plan ≡ op (walk_state T w work plan)
  listed-is r l l' work work' plan op el er h = lists-are r l' work' plan er ∙ h _ _ plan ∙ ap op (lists-of l work plan el)
