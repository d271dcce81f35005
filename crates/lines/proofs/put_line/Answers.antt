use mathlib.Core.Path.{sym}
use lib.Seq.{length-take-le}
use Rattle.lines.proofs.Calls.{hex-fits, put-planned, put_refused}
use Rattle.lines.proofs.put_line.Goals as goal

named : {A B : Type 0} → A × B → record { gives : A; leaves : B }
named p = record { gives = p.0; leaves = p.1 }

pub slice_bounds-put_hex-end : goal.slice_bounds-put_hex-end
slice_bounds-put_hex-end c = sym (length-take-le _ _ c.requires.inside)

pub put_hex-requires : goal.put_hex-requires
put_hex-requires c = hex-fits _ _ _ c.requires

pub returns-then-number-eq0 : goal.returns-then-number-eq0
returns-then-number-eq0 c = named (put-planned _ _ _ _ c.requires c.if-number-eq0.true c.put_hex.ensures)

pub returns : goal.returns
returns c =
    named (
    let e = c.put_refusal.ensures in
    put_refused _ _ _ _ _ c.if-number-eq0.false e.gives e.leaves)
