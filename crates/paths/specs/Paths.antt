-- What a path of the code stands for in the written rules.
use Rattle.std.specs.Prelude.{◌≡◌, ℕ, ◌+◌, length, set, take, replicate}
use Rattle.std.proofs.lemmas.List.Edits.{sets}
use Rattle.rules.specs.Limits.{step_limit}
use Rattle.rules.specs.File as File
use Rattle.paths.specs.declared.FieldPath.{FieldPath}

unfoldable pub path_of : FieldPath → File.FieldPath
path_of p = record { field = p.field; steps = take p.count p.steps }

-- the path by value, with zeros past its steps
unfoldable pub path_for : File.FieldPath → FieldPath
path_for q = record { steps = sets (replicate step_limit 0) 0 q.steps; count = length q.steps; field = q.field }

-- a path with one step more: what stood past the steps stays
unfoldable pub stepped : FieldPath → ℕ → FieldPath
stepped p step = record { steps = set p.steps p.count step; count = p.count + 1; field = p.field }

-- the path, and that each counted step has its place
pub record Holds (p : FieldPath) (q : File.FieldPath) : Type 0 where
  pub is : path_of p ≡ q
  pub count : p.count ≡ length q.steps
