use native.Mathlib.Omega.{arith}
use mathlib.Core.Path.{◌∙◌}
use Rattle.std.proofs.Common.{rules}
use Rattle.plan_form.proofs.Cases.{within}
use Rattle.plan_form.proofs.Lists.{run-many}
use Rattle.plan_form.proofs.Forward.{suffix-item}
use Rattle.plan_form.proofs.items_end.Goals as goal

pub run_end-requires-clause-within : goal.run_end-requires-clause-within
run_end-requires-clause-within c = λ p q h e. within c.args.plan.now (suffix-item c.args.kind) p q h (search rules)

pub returns : goal.returns
returns c = c.run_end.ensures _ (λ p x h e. search rules) ∙ run-many _ (suffix-item c.args.kind) _ _ (omega arith)
