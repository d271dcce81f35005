use Rattle.rules.specs.File.{field_path}
use Rattle.paths.specs.Paths.{path_of, path_for}
use mathlib.Core.Path.{refl}
use Rattle.paths.proofs.FieldPath.field.Goals as goal

pub returns : goal.returns
unfolding field_path path_of path_for
returns c = record { holds = record { is = refl; count = refl }; whole = refl }
