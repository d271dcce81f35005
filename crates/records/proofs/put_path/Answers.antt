use Rattle.paths.specs.Paths.{path_of}
use borrow.Author.Rules.{rules}
use native.Mathlib.Omega.{arith}
use mathlib.Core.Path.{◌≡◌, refl, ap, ◌∙◌}
use lib.ListN.{length}
use Prim.Native.Nat.{◌+◌, ◌*◌}
use Rattle.rules.specs.Plan as Plan
use Rattle.records.proofs.Forms.{path-size, steps_first, steps-more, path-put}
use Rattle.records.proofs.put_path.Goals as goal

pub overflow_cast-n-2 : goal.overflow_cast-n-2
overflow_cast-n-2 c = omega (arith, c.within-q.ensures.1)

pub loop-i-init : goal.loop-i-init
loop-i-init c = (refl, steps_first _ _ _ _)

pub loop-i-preserved : goal.loop-i-preserved
loop-i-preserved c = (
  c.put32.auto.buf ∙ c.loop-i.invariant.0,
  c.loop-i.invariant.1 ∙ steps-more _ _ _ _ _ _ (search rules) c.within-q.ensures.1 c.loop-i-test.true c.put32.ensures,
)

pub returns : goal.returns
returns c =
    let q = c.within-q in
    let at = c.args.at in
    let s : 3 + 4 * q.result.count ≡ length (Plan.path (path_of c.args.p)) = path-size q.result (search rules) q.ensures.1 ∙ ap (λ p. length (Plan.path p)) q.ensures.0 in (
      omega arith,
      omega (arith, q.ensures.1),
      path-put q.result _ at _ _ _ _ _ _ (search rules) q.ensures.1 q.ensures.0 c.from.ensures c.put16.ensures c.put8.ensures c.loop-i-test.false c.loop-i.invariant.1,
    )
