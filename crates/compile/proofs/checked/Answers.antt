use mathlib.Core.Path.{refl, sym, ◌∙◌}
use Rattle.endings.proofs.Ends.{bytes}
use Rattle.compile.proofs.Verdicts.{own-length, ready, accepted-outcome, passed-on, file-decides, accepted-memory, refused-memory}
use Rattle.compile.proofs.checked.Goals as goal

pub walked-requires : goal.walked-requires
walked-requires c = own-length c.verify.new.index _ c.verify.auto.index refl

pub invariant_of-walked : goal.invariant_of-walked
invariant_of-walked c =
    let v = c.verify in
    let a = ready _ _ (own-length v.new.index _ v.auto.index refl) c.in_ok-verify.ensures.gives c.in_ok-verify.ensures.finds in
    record { accepted = a }

pub returns-in_err-verify : goal.returns-in_err-verify
returns-in_err-verify c =
    let q = sym c.in_err-verify.ensures.gives in
    let w = passed-on _ _ _ _ _ _ c.from_residual.ensures.1 (file-decides _ _ c.requires.0 c.requires.1 ∙ q) in
    record { outcome = w.0; within = w.1; memory = refused-memory _ _ _ _ _ q }

pub returns : goal.returns
returns c =
    let v = c.verify in
    let e = c.in_ok-verify.ensures in
    let k = ready _ _ (own-length v.new.index _ v.auto.index refl) e.gives e.finds in
    record {
      outcome = c.walked.ensures.outcome ∙ accepted-outcome _ _ (bytes _ (λ i. (c.type_inv.file i).fits)) k _ _ c.requires.0 c.requires.1;
      within = c.walked.ensures.within;
      memory = accepted-memory _ _ _ _ _ c.walked.ensures.memory e.gives;
    }
