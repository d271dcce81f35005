use mathlib.Core.Path.{refl}
use Rattle.rules.specs.Events.{Narrowing}
use Rattle.rules.specs.Placement.{SeekKeyPart}
use Rattle.state.specs.Ops.{narrowing}
use Rattle.paths.specs.Paths.{path_of}
use Rattle.seek.proofs.Narrows.{still, as-part, as-rest}
use Rattle.seek.proofs.SeekBuilder.register_field.Goals as goal

pub returns-then-self : goal.returns-then-self
returns-then-self c = λ T e w. still c.args.self T e w _ _ _ _ c.if-self.true

pub returns-then-self-2 : goal.returns-then-self-2
unfolding narrowing
returns-then-self-2 c =
    let args = c.args in
    λ T e w. as-part args.self T e w _ args.node (path_of args.path) (SeekKeyPart.RegisterField args.address.0 (path_of args.at)) (Narrowing.RegisterField args.address.0 (path_of args.at)) _ (λ s. refl) c.if-self.false c.if-self-2.true (c.register_part.ensures T e w)

pub returns-else-self-2 : goal.returns-else-self-2
unfolding narrowing
returns-else-self-2 c =
    let args = c.args in
    λ T e w. as-rest args.self T e w _ args.node (path_of args.path) (SeekKeyPart.RegisterField args.address.0 (path_of args.at)) (Narrowing.RegisterField args.address.0 (path_of args.at)) _ (λ s. refl) c.if-self.false c.if-self-2.false (c.register_residual.ensures T e w)
