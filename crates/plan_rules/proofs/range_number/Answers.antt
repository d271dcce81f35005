use borrow.Author.Rules.{rules}
use mathlib.Core.Path.{ap, sym, ◌∙◌}
use mir.Val.{bool_byte}
use Rattle.rules.specs.Demand3.{number, seek_range}
use Rattle.plan_items.specs.declared.SeekView.{SeekView}
use Rattle.plan_items.specs.Items.{seek_of}
use Rattle.plan_rules.proofs.Rules.{range-none}
use Rattle.plan_rules.proofs.range_number.Goals as goal
use Rattle.plan_rules.proofs.range_number.Goals.{in-PrefixRange, in_default}

pub returns-clause-is : goal.returns-clause-is
unfolding number seek_range
returns-clause-is c =
    λ f n. elim c.match-matches.branch [
      | in-PrefixRange w ↦
          ap bool_byte w.matches-is ∙ ap (λ (v : SeekView). number (seek_range (seek_of f n v))) (sym w.in-PrefixRange.is)
      | in_default w ↦ ap bool_byte w.matches-is ∙ range-none f n c.args.seek (search rules)
    ]
