use Rattle.std.proofs.Common.{◌≡◌, refl}
use denote.Enum.Declared.{tag_of}
use Rattle.rules.specs.Plan.{anchor}
use Rattle.views.specs.Views.{anchor_of}
use Rattle.views.specs.declared.Anchor.{Anchor}
use Rattle.views.specs.declared.Anchor.TheVariants as Anchors
use Rattle.views.specs.contracts.Anchor.{the_type}
use Rattle.records.proofs.anchor_byte.Goals as goal

anchor-byte : (a : Anchor) → tag_of the_type a ≡ anchor (anchor_of a)
unfolding anchor
anchor-byte Anchors.Prefix = refl
anchor-byte Anchors.Whole = refl

pub returns : goal.returns
returns c = anchor-byte c.args.anchor
