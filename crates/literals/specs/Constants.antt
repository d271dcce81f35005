-- Whether a file has a constant at all.
use Rattle.std.specs.Prelude.{Bool, false, List, [], ◌∷◌}
use Rattle.rules.specs.Base.{either}
use Rattle.rules.specs.File.{Tables, constants}

unfoldable pub any_of : List Bool → Bool
any_of [] = false
any_of (b ∷ bs) = either b (any_of bs)

unfoldable pub has_constant : Tables → Bool
has_constant T = any_of (constants T)
