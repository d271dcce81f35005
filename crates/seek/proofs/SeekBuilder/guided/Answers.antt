use mathlib.Core.Path.{refl, sym, ap, ◌∙◌}
use Rattle.state.specs.Ops.{with_guide}
use Rattle.seek.specs.Seek.{level_of, fell, guided_at, guided_by}
use Rattle.seek.proofs.Fits.{fits_below}
use Rattle.seek.proofs.Falls.{made-yes, made-no, guides, stops}
use Rattle.seek.proofs.SeekBuilder.guided.Goals as goal

pub counts-k-requires : goal.counts-k-requires
counts-k-requires c = fits_below _ _ (sym c.fits.ensures ∙ c.if-fits.true)

pub returns-then-fits : goal.returns-then-fits
unfolding guided_by
returns-then-fits c =
    let es = c.with_narrowing-s.ensures.0 in
    let e0 = c.sums.ensures.0 in
    let h = sym c.fits.ensures ∙ c.if-fits.true in record { places = λ T e w p. guides c.args.self _ _ _ T e w p c.fallen-l.ensures es e0 _ _ _ _ _ _ c.counts-k.ensures h (c.requires T); whole = ap (λ b. guided_at b c.counts-k.result c.args.path c.args.name c.args.distance c.args.anchor c.args.node) c.fallen-l.ensures ∙ made-yes c.args.self _ _ es e0 (λ k. guided_at (fell c.args.self) k c.args.path c.args.name c.args.distance c.args.anchor c.args.node) _ c.counts-k.ensures h }

pub returns-else-fits : goal.returns-else-fits
unfolding with_guide level_of guided_by
returns-else-fits c =
    let b = c.args.self in
    let es = c.with_narrowing-s.ensures.0 in
    let e0 = c.sums.ensures.0 in
    let h = sym c.fits.ensures ∙ c.if-fits.false in record { places = λ T e w p. stops b _ _ _ T e w p refl es e0 _ _ refl refl c.stopped.ensures h; whole = made-no b _ _ es e0 _ _ c.stopped.ensures h }
