use mathlib.Core.Path.{ap, ◌∙◌}
use native.Mathlib.Omega.{arith}
use Rattle.file.specs.Steps.{word}
use Rattle.views.proofs.Slots.{fetched-here, seen-fetched, shown-fetched}
use Rattle.views.proofs.indexed.IndexedFile.fetched_at.Goals as goal

pub start_of-p-requires : goal.start_of-p-requires
start_of-p-requires c = omega (arith, c.args.self.now.indexed.long, c.args.self.now.indexed.fetched.under)

pub half_at-requires : goal.half_at-requires
half_at-requires c = (fetched-here _ _ c.args.self.now.indexed _ _ c.requires c.start_of-p.ensures).first

pub overflow_add-p : goal.overflow_add-p
overflow_add-p c = omega (arith, (fetched-here _ _ c.args.self.now.indexed _ _ c.requires c.start_of-p.ensures).first)

pub past_path-requires : goal.past_path-requires
past_path-requires c = (fetched-here _ _ c.args.self.now.indexed _ _ c.requires c.start_of-p.ensures).path

pub half_at-requires-2 : goal.half_at-requires-2
half_at-requires-2 c = omega (arith, (fetched-here _ _ c.args.self.now.indexed _ _ c.requires c.start_of-p.ensures).last)

pub overflow_add-result : goal.overflow_add-result
overflow_add-result c = omega (arith, (fetched-here _ _ c.args.self.now.indexed _ _ c.requires c.start_of-p.ensures).first)

pub returns : goal.returns
returns c = let last = c.half_at-2.ensures ∙ ap (word c.args.self.now.bytes.now) c.past_path.ensures in record { shows = seen-fetched _ _ _ _ _ (fetched-here _ _ c.args.self.now.indexed _ _ c.requires c.start_of-p.ensures) c.half_at.ensures last; view = shown-fetched _ _ _ _ _ c.start_of-p.ensures c.half_at.ensures last }
