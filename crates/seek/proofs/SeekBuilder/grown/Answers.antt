use mathlib.Core.Path.{sym, ◌∙◌}
use Rattle.seek.proofs.Fits.{fits_below}
use Rattle.seek.specs.Seek.{recounted}
use Rattle.seek.proofs.Grows.{grown-fit, grown-over}
use Rattle.seek.proofs.SeekBuilder.grown.Goals as goal

pub counts-c-requires : goal.counts-c-requires
counts-c-requires c = fits_below _ _ (sym c.fits.ensures ∙ c.if-fits.true)

pub returns-then-fits : goal.returns-then-fits
unfolding recounted
returns-then-fits c = grown-fit c.args.self _ _ _ _ c.counts-c.ensures (sym c.fits.ensures ∙ c.if-fits.true)

pub returns-else-fits : goal.returns-else-fits
returns-else-fits c = grown-over c.args.self _ _ _ _ c.stopped.ensures (sym c.fits.ensures ∙ c.if-fits.false)
