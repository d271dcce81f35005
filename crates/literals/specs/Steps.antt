-- The pass of specs/Literals.antt (crate rules) in steps: what a pattern comes to at a type, and how it goes on from there.
use Rattle.std.specs.Prelude.{ℕ, ◌≤◌, ◌<◌, Bool, false, List, ◌≡◌, length, Option, None, Some}
use Rattle.rules.specs.File.{Tables, FieldTy, Alternative, Ty, FieldPattern, type_at, node_at, is_constant, record_fields, record_ty}
use Rattle.rules.specs.Constant.{alternative_of, only_field, constant}
use Rattle.rules.specs.Literals.{folded, any_field, lacks_bytes, meets_below}
use Rattle.field_cases.specs.Pieces.{patterns_of, fields_for}
use Rattle.literals.specs.declared.Step.{Step}
use Rattle.literals.specs.declared.Step.TheVariants.{Known, Fields, Payload}

-- a constant that is brought to a type
unfoldable pub brought_by : Tables → ℕ → ℕ → Option (List FieldPattern) → Option (List FieldTy) → Step
brought_by T c t None fs = Known (lacks_bytes (constant T c t))
brought_by T c t (Some fields) None = Known (lacks_bytes (constant T c t))
brought_by T c t (Some fields) (Some fs) = Fields c

unfoldable pub brought_step : Tables → ℕ → ℕ → Step
brought_step T c t = brought_by T c t (record_fields (node_at T c)) (record_ty (type_at T t))

-- a Record written at a Union
unfoldable pub chosen_step : FieldPattern → Option Alternative → Step
chosen_step f None = Known false
chosen_step f (Some alt) = Payload f.node alt.type

unfoldable pub payload_step : List FieldPattern → List Alternative → Step
payload_step fields alts = elim (only_field fields) [ None ↦ Known false | Some f ↦ chosen_step f (alternative_of alts f.name) ]

-- a Record written at a type
unfoldable pub record_step : Tables → ℕ → List FieldPattern → Ty → Step
record_step T n fields Ty.Int = Known (is_constant T n)
record_step T n fields Ty.Str = Known (is_constant T n)
record_step T n fields Ty.Bytes = Known (is_constant T n)
record_step T n fields (Ty.Fact p) = Known (is_constant T n)
record_step T n fields (Ty.Record fs) = Fields n
record_step T n fields (Ty.Union alts) = payload_step fields alts

-- a pattern that stands for a constant, or for none
unfoldable pub standing_step : Tables → ℕ → Option ℕ → Step
standing_step T t None = Known false
standing_step T t (Some c) = brought_step T c t

unfoldable pub field_step : Tables → ℕ → ℕ → Step
field_step T n t =
    elim (record_fields (node_at T n)) [ Some fields ↦ record_step T n fields (type_at T t) | None ↦ standing_step T t (folded T n) ]

-- what a step at type t comes to, the types below by `below`
unfoldable pub went : Tables → (ℕ → ℕ → Bool) → ℕ → Step → Bool
went T below t (Known met) = met
went T below t (Fields n) = any_field below (patterns_of T n) (fields_for T n t)
went T below t (Payload n u) = below n u

-- a payload's type is lower than the union's
abbrev pub StepIn : Tables → ℕ → Step → Type 0
StepIn T t (Known met) = Unit {0}
StepIn T t (Fields n) = Unit {0}
StepIn T t (Payload n u) = (u < t) × (u < length T.types)

-- r is what g gives at every limit above the types below t
pub record Met (T : Tables) (t : ℕ) (g : (ℕ → ℕ → Bool) → Bool) (r : Bool) : Type 0 where
  pub is : (limit : ℕ) → t ≤ limit → r ≡ g (meets_below T limit)
