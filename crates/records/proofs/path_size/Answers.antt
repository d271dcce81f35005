use native.Mathlib.Omega.{arith}
use mathlib.Core.Path.{ap, ◌∙◌}
use lib.ListN.{length}
use Rattle.rules.specs.Plan as Plan
use Rattle.records.proofs.Forms.{path-size}
use borrow.Author.Rules.{rules}
use Rattle.records.proofs.path_size.Goals as goal

pub returns : goal.returns
returns c = (path-size c.within-q.result (search rules) c.within-q.ensures.1 ∙ ap (λ q. length (Plan.path q)) c.within-q.ensures.0, omega (arith, c.within-q.ensures.1))
