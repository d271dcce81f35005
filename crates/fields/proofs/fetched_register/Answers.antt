use native.Mathlib.Omega.{arith}
use mathlib.Core.Path.{sym, ◌∙◌}
use Rattle.fields.proofs.Searches.{fetched-start, fetched-more, fetched-here, fetched-end}
use Rattle.fields.proofs.fetched_register.Goals as goal

pub count_of-n-requires : goal.count_of-n-requires
count_of-n-requires c = omega arith

pub loop-i-init : goal.loop-i-init
loop-i-init c = (c.count_of-n.ensures, omega arith, fetched-start _ _ _ 0)

pub fetched_at-f-requires : goal.fetched_at-f-requires
fetched_at-f-requires c = omega arith

pub fetches-requires : goal.fetches-requires
fetches-requires c = record { path_inside = c.fetched_at-f.ensures.shows.inside; count_le_step_limit = c.requires }

pub returns-then-fetches : goal.returns-then-fetches
returns-then-fetches c = sym (c.loop-i.invariant.2 ∙ fetched-here _ _ _ _ _ c.fetched_at-f.ensures.shows.is (omega arith) (sym c.fetches.ensures ∙ c.if-fetches.true))

pub loop-i-preserved : goal.loop-i-preserved
loop-i-preserved c = (c.loop-i.invariant.0, omega arith, c.loop-i.invariant.2 ∙ fetched-more _ _ _ _ _ c.fetched_at-f.ensures.shows.is (omega arith) (sym c.fetches.ensures ∙ c.if-fetches.false))

pub returns : goal.returns
returns c = sym (c.loop-i.invariant.2 ∙ fetched-end _ _ _ _ (omega arith))
