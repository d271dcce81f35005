use mathlib.Core.Path.{sym, ◌∙◌}
use Rattle.state.specs.State.{number_at, place_at}
use Rattle.lists.proofs.Scans.{place-past, place_here, place_none}
use Rattle.lists.proofs.made_place.Goals as goal

named : {A B : Type 0} → A × B → record { shows : A; place : B }
named p = record { shows = p.0; place = p.1 }

pub returns-then-n-count : goal.returns-then-n-count
unfolding number_at
returns-then-n-count c = named (place-past _ _ _ _ c.word_in-n.ensures.0 c.if-n-count.true)

pub returns-then-named_at : goal.returns-then-named_at
unfolding number_at place_at
returns-then-named_at c = named (place_here _ _ _ _ c.word_in-n.ensures.0 _ c.word_in-p.ensures.0 c.if-n-count.false (sym c.named_at.ensures ∙ c.if-named_at.true))

pub returns : goal.returns
unfolding number_at place_at
returns c = named (place_none _ _ _ _ c.word_in-n.ensures.0 _ c.word_in-p.ensures.0 c.if-n-count.false (sym c.named_at.ensures ∙ c.if-named_at.false))
