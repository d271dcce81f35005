-- Bytes at a place of a buffer; what lies past the buffer's end is lost.
use Rattle.std.specs.Prelude.{Bool, true, false, List, [], ◌∷◌, ℕ, ◌+◌, ◌*◌, min}
use Rattle.std.proofs.lemmas.List.Edits.{sets}
use Rattle.rules.specs.Limits.{step_limit}
use Rattle.rules.specs.Placement.{SeekKeyPart}
use Rattle.rules.specs.Plan as Plan
use Rattle.state.specs.Ops.{part_text}
use Rattle.paths.specs.declared.FieldPath.{FieldPath}
use Rattle.records.specs.declared.Place.{Place}

unfoldable pub put : List ℕ → ℕ → List ℕ → List ℕ
put w at bytes = sets w at bytes

-- How far a place may lie, so that a sum of a place and a size never wraps.
abbrev pub reach : ℕ
reach = 1152921504606846976

-- A path of as many steps as it holds, in the plan: its field, their count, and four bytes for each
abbrev pub longest_path : ℕ
longest_path = 3 + 4 * step_limit

-- bytes at a place of the plan, if they are to be written
unfoldable pub written_at : Place → List ℕ → List ℕ → List ℕ
written_at place bytes plan = elim place.write [ true ↦ put plan place.at bytes | false ↦ plan ]

-- a part as its place takes it, without its node
unfoldable pub form_of : Bool → SeekKeyPart → List ℕ
form_of joined part = elim joined [ true ↦ part_text part | false ↦ Plan.part_key part ]

-- the place n bytes further on
unfoldable pub behind : ℕ → Place → Place
behind n place = record { write = place.write; joined = place.joined; at = place.at + n }

-- another place, written to where this one is
abbrev pub moved_to : ℕ → Place → Place
moved_to at place = record { write = place.write; joined = place.joined; at = at }

-- what stands before a part's bytes: nothing where they are joined
unfoldable pub head_of : Bool → ℕ → List ℕ
head_of joined len = elim joined [ true ↦ [] | false ↦ 0 ∷ Plan.u16 len ]

-- the place of a part that is no bytes: nothing is written where it is joined
unfoldable pub apart_of : Place → Place
apart_of place = elim place.joined [ true ↦ record { write = false; joined = true; at = place.at } | false ↦ place ]

-- the same path, its count no more than its steps
unfoldable pub cut : FieldPath → FieldPath
cut p = record { steps = p.steps; count = min step_limit p.count; field = p.field }
