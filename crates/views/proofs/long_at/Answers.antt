use mathlib.Core.Path.{ap, ◌≡◌}
use lib.ListN.{get_or}
use Rattle.std.proofs.Common.{arith, ◌+◌}
use Rattle.file.specs.Steps.{word}
use Rattle.views.specs.Views.{long}
use Rattle.views.proofs.long_at.Goals as goal

pub returns : goal.returns
unfolding long word
returns c =
    let third : get_or c.args.file.now (c.args.p + 2 + 1) 0 ≡ get_or c.args.file.now (c.args.p + 3) 0 =
    ap (λ i. get_or c.args.file.now i 0) (omega arith) in
    omega (arith, c.from_le_bytes.ensures, third)
