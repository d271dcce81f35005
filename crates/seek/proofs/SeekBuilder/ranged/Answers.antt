use mathlib.Core.Path.{refl, sym, ap, ◌∙◌}
use Rattle.state.specs.Ops.{with_range}
use Rattle.seek.specs.Seek.{level_of, fell, ranged_at, ranged_by}
use Rattle.seek.proofs.Fits.{fits_below}
use Rattle.seek.proofs.Falls.{made-yes, made-no, ranges, stops}
use Rattle.seek.proofs.SeekBuilder.ranged.Goals as goal

pub counts-k-requires : goal.counts-k-requires
counts-k-requires c = fits_below _ _ (sym c.fits.ensures ∙ c.if-fits.true)

pub returns-then-fits : goal.returns-then-fits
unfolding ranged_by
returns-then-fits c =
    let es = c.with_narrowing-s.ensures.0 in
    let e0 = c.sums.ensures.0 in
    let h = sym c.fits.ensures ∙ c.if-fits.true in record { places = λ T e w p. ranges c.args.self _ _ _ T e w p c.fallen-l.ensures es e0 _ _ _ _ c.counts-k.ensures h c.requires; whole = ap (λ b. ranged_at b c.counts-k.result c.args.path c.args.name c.args.node) c.fallen-l.ensures ∙ made-yes c.args.self _ _ es e0 (λ k. ranged_at (fell c.args.self) k c.args.path c.args.name c.args.node) _ c.counts-k.ensures h }

pub returns-else-fits : goal.returns-else-fits
unfolding with_range level_of ranged_by
returns-else-fits c =
    let b = c.args.self in
    let es = c.with_narrowing-s.ensures.0 in
    let e0 = c.sums.ensures.0 in
    let h = sym c.fits.ensures ∙ c.if-fits.false in record { places = λ T e w p. stops b _ _ _ T e w p refl es e0 _ _ refl refl c.stopped.ensures h; whole = made-no b _ _ es e0 _ _ c.stopped.ensures h }
