use Rattle.seek.proofs.Fits.{too_long, too-parted, too-narrowed, too_many, last-test}
use Rattle.seek.proofs.Sums.fits.Goals as goal

pub returns-then-bytes-self-gt16384 : goal.returns-then-bytes-self-gt16384
returns-then-bytes-self-gt16384 c = too_long _ c.args.self _ c.bytes.ensures.0 c.if-bytes-self-gt16384.true

pub returns-then-self-gt65536 : goal.returns-then-self-gt65536
returns-then-self-gt65536 c = too-parted _ c.args.self _ c.bytes.ensures.0 c.if-bytes-self-gt16384.false c.if-self-gt65536.true

pub returns-then-self-gt65535 : goal.returns-then-self-gt65535
returns-then-self-gt65535 c = too-narrowed _ c.args.self _ c.bytes.ensures.0 c.if-bytes-self-gt16384.false c.if-self-gt65536.false c.if-self-gt65535.true

pub returns-then-self-gt65535-2 : goal.returns-then-self-gt65535-2
returns-then-self-gt65535-2 c = too_many _ c.args.self _ c.bytes.ensures.0 c.if-bytes-self-gt16384.false c.if-self-gt65536.false c.if-self-gt65535.false c.if-self-gt65535-2.true

pub returns : goal.returns
returns c = last-test _ c.args.self _ c.bytes.ensures.0 c.if-bytes-self-gt16384.false c.if-self-gt65536.false c.if-self-gt65535.false c.if-self-gt65535-2.false
