use mathlib.Core.Path.{ap}
use Prim.Native.Nat.{ℕ, ◌+◌}
use native.Mathlib.Omega.{arith}
use borrow.Author.Tests.{not-true, not-false}
use Rattle.records.proofs.Places.{off, on, behind-is}
use Rattle.records.proofs.put_path_at.Goals as goal

pub returns-then-not-place : goal.returns-then-not-place
returns-then-not-place c =
    let p = c.args.place in
    let no = not-true _ c.if-not-place.true in
    (off _ _ _ no, behind-is p _ _ _ no (ap (λ (n : ℕ). p.at + n) c.path_size.ensures.0), omega (arith, c.path_size.ensures.1))

pub returns : goal.returns
returns c =
    let yes = not-false _ c.if-not-place.false in
    let t = c.put_path-at.ensures in
    (on _ _ _ _ yes t.2, behind-is c.args.place _ _ _ yes t.0, t.1)
