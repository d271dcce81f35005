use Rattle.rules.specs.File as File
use Rattle.paths.specs.Paths.{path_of, stepped}
use mathlib.Core.List.{List}
use mathlib.Core.Path.{refl, ap}
use Prim.Native.Nat.{ℕ}
use Rattle.paths.proofs.Laws.{then-steps, then-count}
use borrow.Author.Rules.{rules}
use Rattle.paths.proofs.FieldPath.then.Goals as goal

pub returns : goal.returns
unfolding File.then path_of stepped
returns c =
    let a = c.args.self in
    record { holds = record { is = ap (λ (s : List ℕ). record { field = a.field; steps = s }) (then-steps a.steps a.count c.args.idx (search rules)); count = then-count a.steps a.count c.args.idx (search rules) }; whole = refl }
