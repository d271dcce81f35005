-- What the code's lists stand for in the state that the compiler keeps (crate state).
use Rattle.std.specs.Prelude.{ℕ, ◌+◌, ◌≤◌, ◌≡◌, Bool, true, false, List, [], ◌∷◌, eqb, ltb, get_or, Result, Ok, Err, Option, None, Some}
use Rattle.rules.specs.Base.{◌when_some◌}
use Rattle.rules.specs.Limits.{step_limit}
use Rattle.rules.specs.File.{Tables, Slot, Binding}
use Rattle.state.specs.Ops.{roomy}
use Rattle.rules.specs.Events as Events
use Rattle.rules.specs.Read as Read
use Rattle.rules.specs.Read.Read.{got, refused}
use Rattle.file.specs.Steps.{read_at}
use Rattle.state.specs.State as InState
use Rattle.state.specs.State.{Level, Target, State, state, ends, number_at, place_at, word_in}
use Rattle.views.specs.Views.{slot_view, slot_viewed, SlotInside}
use Rattle.views.specs.declared.SlotView.{SlotView}
use Rattle.views.specs.declared.SlotView.TheVariants as Sv
use Rattle.lists.specs.declared.Ends.{Ends}
use Rattle.lists.specs.declared.Lists.{Lists}
use Rattle.lists.specs.declared.Code.{Code}
use Rattle.lists.specs.declared.Code.TheVariants as Co

abbrev pub ends_of : Ends → InState.Ends
ends_of e = ends e.bindings e.binding_count e.constrained e.selects e.select_count e.diagnostics

abbrev pub state_with : Lists → Level → Target → List ℕ → List ℕ → State
state_with l level target work plan = state l.over (ends_of l.ends) level target work plan

-- the lists where the plan is too long
abbrev pub overrun : Lists → Lists
overrun l = record { over = true; ends = l.ends }

abbrev pub code_of : Code → Events.Code
code_of Co.NyiDisjunction = Events.Code.NyiDisjunction
code_of Co.NyiFactField = Events.Code.NyiFactField
code_of Co.NyiNever = Events.Code.NyiNever
code_of Co.NyiRepeatedVariable = Events.Code.NyiRepeatedVariable
code_of Co.NyiValueField = Events.Code.NyiValueField
code_of Co.NyiValueMatch = Events.Code.NyiValueMatch
code_of Co.NyiWholeKey = Events.Code.NyiWholeKey
code_of Co.RejectTypeMismatch = Events.Code.RejectTypeMismatch
code_of Co.RejectUnionArity = Events.Code.RejectUnionArity
code_of Co.RejectUnknownAlternative = Events.Code.RejectUnknownAlternative
code_of Co.RejectUnresolvedAccess = Events.Code.RejectUnresolvedAccess

-- the binding that is read at a place of the bytes, if one is
abbrev pub binding_read : Read.Read Binding → Option Binding
binding_read (got b rest) = Some b
binding_read (refused n) = None

unfoldable pub binding_at : List ℕ → Option ℕ → Option Binding
binding_at f None = None
binding_at f (Some p) = binding_read (read_at f Read.binding p)

unfoldable pub slot_at : List ℕ → Option ℕ → Option Slot
slot_at f r = binding_at f r when_some λ b. Some b.slot

-- the slot of the binding that is read at p
abbrev pub slot_from : List ℕ → ℕ → Option Slot
slot_from f p = slot_at f (Some p)

-- the bytes after the kind of a slot that is no field
abbrev pub plain_sizes : List ℕ
plain_sizes = 4 ∷ 4 ∷ 2 ∷ 4 ∷ 4 ∷ 2 ∷ []

-- where a reading ended, or 0 for a refusal
unfoldable pub end_of : Result ℕ ℕ → ℕ
end_of (Ok q) = q
end_of (Err n) = 0

-- whether a binding of the name was read
unfoldable pub is_named : ℕ → Read.Read Binding → Bool
is_named x (got b rest) = eqb b.name x
is_named x (refused n) = false

unfoldable pub named_at : List ℕ → ℕ → ℕ → Bool
named_at f p x = is_named x (read_at f Read.binding p)

-- where the tables lead for a name, if a binding of the name stands there
unfoldable pub made_place : List ℕ → ℕ → ℕ → Option ℕ
made_place work count x =
    let n = word_in work (number_at x) in
    let p = word_in work (place_at n) in
    elim (ltb n count) [
      | true ↦ elim (named_at work p x) [ true ↦ Some p | false ↦ None ]
      | false ↦ None
    ]

-- the slot of the binding at a place: it follows the name's two bytes
unfoldable pub view_at : List ℕ → Option ℕ → Option SlotView
view_at f None = None
view_at f (Some p) = Some (slot_view f (p + 2))

-- a binding is read at p
pub record Readable (f : List ℕ) (p : ℕ) : Type 0 where
  pub value : Binding
  pub rest : List ℕ
  pub reads : read_at f Read.binding p ≡ got value rest

abbrev pub FoundReads : List ℕ → Option ℕ → Type 0
FoundReads f None = Unit {0}
FoundReads f (Some p) = Readable f p

-- a place is that of the slot o, or there is none
pub record SeenAt (f : List ℕ) (o : Option Slot) (r : Option ℕ) : Type 0 where
  pub is : slot_at f r ≡ o
  pub reads : FoundReads f r

-- a view is the slot o
pub record SeenView (f : List ℕ) (o : Option Slot) (v : SlotView) : Type 0 where
  pub is : Some (slot_viewed f v) ≡ o
  pub inside : SlotInside f v

-- a slot's numbers are the tables', and its path has room
abbrev pub fits_tables : Tables → Slot → Bool
fits_tables T slot = roomy T slot

-- a path of no more steps than a path by value has
abbrev pub ShortSlot : List ℕ → SlotView → Type 0
ShortSlot f (Sv.Row a p) = Unit {0}
ShortSlot f (Sv.Key a t) = Unit {0}
ShortSlot f (Sv.Derived a) = Unit {0}
ShortSlot f (Sv.Field a at t) = get_or f (at + 2) 0 ≤ step_limit
ShortSlot f (Sv.Value a t) = Unit {0}
ShortSlot f (Sv.Const n) = Unit {0}
