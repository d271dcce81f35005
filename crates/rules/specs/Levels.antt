-- "A file's list of levels": each level from exactly what the one before left.
use Rattle.std.specs.Prelude.{Bool, false, List, [], ◌∷◌, ℕ, suc}
use Rattle.rules.specs.Base.{either}
use Rattle.rules.specs.File.{Tables, LevelEntry}
use Rattle.rules.specs.Events.{Event, Lists, Walk}
use Rattle.rules.specs.Walk.{walk_level}
use Rattle.rules.specs.Placement.{SeekBuilder, new, place_all}

-- The lists that the level begins from, the lists that it leaves, its events, and what placement makes of them; mistyped: its walk has
-- brought a constant to a type that gives it no bytes (request [7]).
pub record Level : Type 0 where
  pub start : Lists
  pub left : Lists
  pub events : List Event
  pub built : SeekBuilder
  pub mistyped : Bool

-- "Before the first level the bindings are the file's, in file order, and the other three are empty."
unfoldable pub starting : Tables → Lists
starting T = record { bindings = T.bindings; constrained = []; selects = []; diagnostics = [] }

unfoldable pub level_of : Tables → Lists → Walk → Level
level_of T start w =
    record { start = start; left = w.lists; events = w.events; built = place_all T w.events new; mistyped = w.mistyped }

unfoldable pub level : Tables → LevelEntry → Lists → Level
level T entry start = level_of T start (walk_level T entry start)

-- "the four lists as the walk of the level before left them"
unfoldable pub levels_from : Tables → Lists → List LevelEntry → List Level
levels_from T start [] = []
levels_from T start (entry ∷ entries) =
    let l = level T entry start in
    l ∷ levels_from T l.left entries

unfoldable pub levels : Tables → List Level
levels T = levels_from T (starting T) T.levels

-- what the last level leaves; the start where there is none
unfoldable pub left_by : Lists → List Level → Lists
left_by start [] = start
left_by start (l ∷ ls) = left_by l.left ls

-- "Narrowings are the level's narrowing events", counted on the walk alone
unfoldable pub narrowings : List Event → ℕ
narrowings [] = 0
narrowings (Event.narrow n path x ∷ es) = suc (narrowings es)
narrowings (Event.skip ∷ es) = narrowings es
narrowings (Event.closer n ∷ es) = narrowings es
narrowings (Event.bound x t ∷ es) = narrowings es

-- request [7]: any level whose walk has met one
unfoldable pub any_mistyped : List Level → Bool
any_mistyped [] = false
any_mistyped (l ∷ ls) = either l.mistyped (any_mistyped ls)

unfoldable pub open_levels : Unit {0}
unfolding starting level_of level levels_from levels left_by narrowings any_mistyped
open_levels = tt
