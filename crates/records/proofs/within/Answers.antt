use Rattle.std.proofs.Common.{rules, arith}
use Rattle.records.proofs.Forms.{cut_path, is_cut}
use Rattle.records.proofs.within.Goals as goal

pub returns : goal.returns
returns c = (cut_path c.args.p _ c.min.ensures (search rules), omega arith, is_cut c.args.p _ c.min.ensures)
