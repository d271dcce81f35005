use Rattle.std.proofs.Common.{sym, ap, ◌∙◌, ◌+◌, ◌/◌, ◌%◌, length, arith, slice_set}
use lib.Seq.{sets}
use Rattle.lines.proofs.Hexes.{refusal-one, refusal-two, word-front}
use Rattle.lines.proofs.put_refusal.Goals as goal

pub returns-then-n-lt10 : goal.returns-then-n-lt10
returns-then-n-lt10 c =
    let w = word-front c.args.out.now _ c.copy_from_slice.ensures.after (omega arith) in
    let r = refusal-one c.args.n c.if-n-lt10.true in record {
      gives = sym (ap length r);
      leaves = ap (λ out. slice_set out 8 (48 + c.args.n)) w ∙ sym (ap (sets _ 0) r);
    }

pub returns : goal.returns
returns c =
    let w = word-front c.args.out.now _ c.copy_from_slice.ensures.after (omega arith) in
    let r = refusal-two c.args.n c.if-n-lt10.false in record {
      gives = sym (ap length r);
      leaves = ap (λ out. slice_set (slice_set out 8 (48 + c.args.n / 10)) 9 (48 + c.args.n % 10)) w ∙ sym (ap (sets _ 0) r);
    }
