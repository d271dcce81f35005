use Rattle.std.proofs.Common.{rules, arith, ◌<◌}
use borrow.Author.Tests.{tests}
use Rattle.tally.specs.Tallies.{count_limit}
use Rattle.tally.proofs.Splits.{lines-most, lines-yielded, fold_in_room, fold_kept}
use Rattle.tally.proofs.tally_of.Goals as goal

pub returns : goal.returns
returns g c =
    λ h k.
    fold_kept h c.args.text.now (lines-yielded _ c.args.text.now (cc) (cc) (λ x b q k. search (rules, tests)))
    _ _ c.fold.ensures.ran (λ t l u q e. search rules)

pub fold-requires-clause-callable : goal.fold-requires-clause-callable
fold-requires-clause-callable g c =
    fold_in_room (lines-yielded _ c.args.text.now (cc) (cc) (λ x b q k. search (rules, tests)))
    (λ t l q k. search rules)
    (λ t l m n.
    let most = lines-most c.args.text.now in
    let a : t.compared < count_limit = omega (arith, m, most) in
    let b : t.different < count_limit = omega (arith, n, most) in search rules)
