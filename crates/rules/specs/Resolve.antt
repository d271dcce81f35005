-- "Walk", `resolve`: where a pattern's value lives, its slot.
use Rattle.std.specs.Prelude.{true, false, ℕ, zero, suc, length, Option, None, Some}
use Rattle.rules.specs.File.{Tables, Alternative, Node, FieldPath, Slot, type_at, node_at, is_constant, fact_ty, union_ty, field_path, then}
use Rattle.rules.specs.File.{payload}
use Rattle.rules.specs.Constant.{alternative_of}
use Rattle.rules.specs.Lookup.{hoisted_slot, fetched_register, field_of, slot_at, row_field, row_value, folded_slot}
use Rattle.rules.specs.Events.{Code, Ops}

-- the slot that a read gives, if any, and the walk with what the read added
pub record Answer (S : Type 0) : Type 0 where
  pub slot : Option Slot
  pub walk : S

abbrev pub Resolver : Type 0 → Type 0
Resolver S = S → Answer S

unfoldable pub follow : {S : Type 0} → Answer S → (Slot → Resolver S) → Answer S
follow a f = elim a.slot [ None ↦ record { slot = None; walk = a.walk } | Some s ↦ f s a.walk ]

-- a read that goes on from the slot that another gives
infixl 1 ◌when_found◌
unfoldable pub ◌when_found◌ : {S : Type 0} → Resolver S → (Slot → Resolver S) → Resolver S
◌when_found◌ r f = λ w. follow (r w) f

unfoldable pub give : {S : Type 0} → Option Slot → Resolver S
give s = λ w. record { slot = s; walk = w }

module _ {S : Type 0} (o : Ops S) (T : Tables) where
  open o use {lookup, select, report}

  unfoldable pub declined : ℕ → Code → Resolver S
  declined n code = λ w. record { slot = None; walk = report n code w }

  -- a reference that was followed, as the row it names
  unfoldable pub fetched_row : ℕ → ℕ → Option ℕ → Resolver S
  fetched_row n p None = declined n Code.NyiFactField
  fetched_row n p (Some register) = give (Some (Slot.Row register (Some p)))

  -- Rust `dereference`
  unfoldable pub dereference : ℕ → Slot → Resolver S
  dereference n (Slot.Row a p) = give (Some (Slot.Row a p))
  dereference n (Slot.Key a t) = give (Some (Slot.Key a t))
  dereference n (Slot.Derived a) = give (Some (Slot.Derived a))
  dereference n (Slot.Field a path t) =
      elim (fact_ty (type_at T t)) [
        | None ↦ give (Some (Slot.Field a path t))
        | Some p ↦ fetched_row n p (fetched_register T a path)
      ]
  dereference n (Slot.Value a t) =
      elim (fact_ty (type_at T t)) [ None ↦ give (Some (Slot.Value a t)) | Some p ↦ declined n Code.NyiFactField ]
  dereference n (Slot.Const c) = give (Some (Slot.Const c))

  -- Rust `field_slot`, past a reference: only a row is left
  unfoldable pub field_of_row : ℕ → Slot → Resolver S
  field_of_row x (Slot.Row a p) = give (row_field T a p x)
  field_of_row x (Slot.Key a t) = give None
  field_of_row x (Slot.Derived a) = give None
  field_of_row x (Slot.Field a path t) = give None
  field_of_row x (Slot.Value a t) = give None
  field_of_row x (Slot.Const c) = give None

  -- Rust `field_slot`
  unfoldable pub field_slot : ℕ → Slot → ℕ → Resolver S
  field_slot n (Slot.Row a p) x = give (row_field T a p x)
  field_slot n (Slot.Key a t) x = give (slot_at a field_path (field_of (type_at T t) x))
  field_slot n (Slot.Derived a) x = give None
  field_slot n (Slot.Field a path t) x =
      elim (fact_ty (type_at T t)) [
        | None ↦ give (slot_at a (then path) (field_of (type_at T t) x))
        | Some p ↦ dereference n (Slot.Field a path t) when_found field_of_row x
      ]
  field_slot n (Slot.Value a t) x = declined n Code.NyiValueField
  field_slot n (Slot.Const c) x = give (folded_slot T c x)

  -- the value side of a row, and of nothing else
  unfoldable pub value_slot : Slot → Resolver S
  value_slot (Slot.Row a p) = give (row_value T a p)
  value_slot (Slot.Key a t) = give None
  value_slot (Slot.Derived a) = give None
  value_slot (Slot.Field a path t) = give None
  value_slot (Slot.Value a t) = give None
  value_slot (Slot.Const c) = give None

  -- a select's payload; the select records the union's own path
  unfoldable pub selected : ℕ → FieldPath → Option Alternative → Resolver S
  selected address path None = give None
  selected address path (Some alt) = λ w.
      record {
        slot = Some (Slot.Field address (payload path alt.disc) alt.type);
        walk = select address path alt.disc w;
      }

  unfoldable pub select_slot : ℕ → Slot → ℕ → Resolver S
  select_slot n (Slot.Row a p) x = declined n Code.NyiFactField
  select_slot n (Slot.Key a t) x = declined n Code.NyiFactField
  select_slot n (Slot.Derived a) x = declined n Code.NyiFactField
  select_slot n (Slot.Field a path t) x =
      elim (union_ty (type_at T t)) [
        | None ↦ declined n Code.NyiFactField
        | Some alts ↦ selected a path (alternative_of alts x)
      ]
  select_slot n (Slot.Value a t) x = declined n Code.NyiFactField
  select_slot n (Slot.Const c) x = declined n Code.NyiFactField

  -- Rust `resolve`, its match on the pattern; `below` is `resolve` at the nodes below
  unfoldable pub resolve_node : (ℕ → Resolver S) → ℕ → Node → Resolver S
  resolve_node below n (Node.Int bytes) = give None
  resolve_node below n (Node.Str x) = give None
  resolve_node below n (Node.Bytes bytes) = give None
  resolve_node below n (Node.Var x) = λ w. record { slot = lookup w x; walk = w }
  resolve_node below n Node.Wildcard = give None
  resolve_node below n Node.Never = give None
  resolve_node below n (Node.Prefix x) = give None
  resolve_node below n (Node.Fuzzy x d a) = give None
  resolve_node below n (Node.Record fs) = give None
  resolve_node below n (Node.Access x base) =
      below base when_found λ slot. dereference n slot when_found λ place. field_slot n place x
  resolve_node below n (Node.Value base) =
      below base when_found λ slot. dereference n slot when_found λ row. value_slot row
  resolve_node below n (Node.Select x base) =
      below base when_found λ slot. dereference n slot when_found λ place. select_slot n place x
  resolve_node below n Node.Disjunction = give None
  resolve_node below n Node.Subquery = give None
  resolve_node below n (Node.Fact p key) = λ w. record { slot = hoisted_slot T (lookup w) n; walk = w }
  resolve_node below n Node.Arith = give None
  resolve_node below n Node.Error = give None

  -- `resolve` at the nodes below a number: a base is lower than its access (refusal 9)
  unfoldable pub resolve_below : ℕ → ℕ → Resolver S
  resolve_below zero n = give None
  resolve_below (suc limit) n =
      elim (is_constant T n) [ true ↦ give (Some (Slot.Const n)) | false ↦ resolve_node (resolve_below limit) n (node_at T n) ]

  unfoldable pub resolve : ℕ → Resolver S
  resolve n = resolve_below (length T.nodes) n

unfoldable pub open_resolve : Unit {0}
unfolding follow ◌when_found◌ give declined fetched_row dereference field_of_row field_slot value_slot selected select_slot resolve_node resolve_below
    resolve
open_resolve = tt
