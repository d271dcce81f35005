use native.Mathlib.Omega.{arith}
use mathlib.Core.Path.{refl, ◌∙◌}
use borrow.Author.Rules.{rules}
use Rattle.rules.proofs.Sound.{sound, passed-all}
use Rattle.resolve.proofs.Chains.{up_first, up_more, up-end}
use Rattle.resolve.proofs.ascend.Goals as goal

pub loop-k-init : goal.loop-k-init
loop-k-init c = (up_first _ _ _ _ _ c.requires.given_slot_room c.requires.end_value, refl)

pub read_up-below-requires : goal.read_up-below-requires
read_up-below-requires c = record { given_slot_room = search rules; below_value = search rules }

pub loop-k-preserved : goal.loop-k-preserved
loop-k-preserved c =
    let l = c.loop-k in
    (up_more _ l.invariant.0 (sound _ (passed-all _ c.args.file.now.accepted.accepted)) (omega (arith, c.loop-k-test.true)) (omega (arith, l.invariant.0.within, c.requires.passed_in_bounds, c.loop-k-test.true)) c.from.ensures c.read_up-below.ensures, c.read_up-below.auto.work ∙ l.invariant.1)

pub returns : goal.returns
returns c = up-end _ c.loop-k.invariant.0 (omega arith)
