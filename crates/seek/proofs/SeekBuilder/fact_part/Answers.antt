use Rattle.seek.proofs.Parts.{part-is}
use Rattle.records.proofs.Places.{apart-written}
use mathlib.Core.Bool.{false}
use mathlib.Core.Path.{refl}
use Rattle.rules.specs.Plan as Plan
use Rattle.rules.specs.Placement.{SeekKeyPart}
use Rattle.state.specs.Ops.{is_bytes, part_text}
use Rattle.records.specs.Records.{form_of}
use Rattle.seek.proofs.SeekBuilder.fact_part.Goals as goal

pub returns : goal.returns
unfolding form_of is_bytes part_text Plan.part_key Plan.u16
returns c =
    λ T e w.
    let p = c.part-p in
    let x : SeekKeyPart = SeekKeyPart.RegisterFactId c.args.address.0 in
    part-is c.args.self T e w _ _ false false 0 3 x p.result _ _ p.ensures.grows.0 p.ensures.writes refl refl refl
    (apart-written p.result.place _ (Plan.part_key x) _ _ c.apart.ensures.0 c.put_fact.ensures)
