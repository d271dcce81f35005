use mathlib.Core.Path.{refl}
use Rattle.file.specs.Tables.{tables_of}
use Rattle.rules.specs.Events.{Narrowing}
use Rattle.rules.specs.Placement.{SeekKeyPart}
use Rattle.state.specs.Ops.{narrowing}
use Rattle.paths.specs.Paths.{path_of}
use Rattle.seek.specs.Seek.{constant_bytes}
use Rattle.seek.proofs.Narrows.{still, as-part, as-rest}
use Rattle.seek.proofs.SeekBuilder.bytes.Goals as goal

pub returns-then-self : goal.returns-then-self
returns-then-self c = λ e w. still c.args.self _ e w _ _ _ _ c.if-self.true

pub returns-then-self-2 : goal.returns-then-self-2
unfolding narrowing
returns-then-self-2 c =
    λ e w.
    let a = c.args in
    let T = tables_of a.file.now.tables.bytes.now in
    let x = constant_bytes T a.value a.ty in
    as-part a.self T e w _ a.node (path_of a.path) (SeekKeyPart.Bytes x) (Narrowing.Bytes x) _ (λ s. refl) c.if-self.false c.if-self-2.true (c.bytes_part.ensures e w)

pub returns-else-self-2 : goal.returns-else-self-2
unfolding narrowing
returns-else-self-2 c =
    λ e w.
    let a = c.args in
    let T = tables_of a.file.now.tables.bytes.now in
    let x = constant_bytes T a.value a.ty in
    as-rest a.self T e w _ a.node (path_of a.path) (SeekKeyPart.Bytes x) (Narrowing.Bytes x) _ (λ s. refl) c.if-self.false c.if-self-2.false (c.bytes_residual.ensures e w)
