use mathlib.Core.Path.{ap}
use native.Mathlib.Omega.{arith}
use Rattle.field_cases.specs.declared.Places.{Places}
use Rattle.field_cases.proofs.Opens.{no_pairs, run_inside, no_fields, opened_both, opened-none}
use Rattle.field_cases.proofs.pieces.Goals as goal

pub returns-in_default : goal.returns-in_default
returns-in_default c = record { opens = opened-none _ _ _ _ _ c.closed.ensures (no_pairs _ _ _ _ _ c.pairs_of.ensures.shows c.in_default.is); bounded = omega (arith, ap (λ (x : Places). x.count) c.closed.ensures) }

pub returns-in-Some-record_ty : goal.returns-in-Some-record_ty
returns-in-Some-record_ty c = record { opens = opened_both _ _ _ _ _ c.pairs_of.ensures.shows _ c.record_ty.ensures.shows _ _ _ _ c.in-Some.is c.in-Some-record_ty.is; bounded = omega (arith, run_inside _ _ _ _ _ c.record_ty.ensures.shows _ _ c.in-Some-record_ty.is, c.args.file.now.accepted.indexed.small) }

pub returns-in_default-record_ty : goal.returns-in_default-record_ty
returns-in_default-record_ty c = record { opens = opened-none _ _ _ _ _ c.closed-in_default-record_ty.ensures (no_fields _ _ _ _ _ c.pairs_of.ensures.shows _ c.record_ty.ensures.shows c.in_default-record_ty.is); bounded = omega (arith, ap (λ (x : Places). x.count) c.closed-in_default-record_ty.ensures) }
