use native.Mathlib.Omega.{arith}
use Rattle.records.proofs.Places.{head-joined, place-joined, head-framed, place-framed}
use Rattle.records.proofs.put_head.Goals as goal

pub returns-then-place : goal.returns-then-place
returns-then-place c =
    let a = c.args in
    (head-joined a.place a.len _ c.if-place.true, place-joined a.place a.len c.if-place.true, omega arith)

pub returns : goal.returns
returns c =
    let a = c.args in
    let t = c.put_text_at.ensures in
    let framed = c.if-place.false in
    (head-framed a.place a.len _ _ framed t.0, place-framed a.place a.len _ framed t.1, t.2)
