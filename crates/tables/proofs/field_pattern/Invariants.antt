use Rattle.views.specs.Views.{pattern_at}
use Rattle.tables.proofs.Searches.{named}
use Rattle.tables.proofs.Pairs.{Seeking}
use Rattle.tables.proofs.field_pattern.Given as goal

abbrev pub invariant-loop-k : goal.invariant-loop-k
invariant-loop-k l = Seeking (named l.name) (pattern_at l.file) 4 l.n l.at l.k
