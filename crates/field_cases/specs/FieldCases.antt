-- What `field`, `matched` and `inject` come to before they go on into their cycle.
use Rattle.std.specs.Prelude.{ℕ, Bool, true, false, List, Option, None, Some}
use Rattle.rules.specs.Base.{◌when_some◌}
use Rattle.rules.specs.File as File
use Rattle.rules.specs.File.{Tables, Node, FieldPattern, Alternative, type_at, node_at, is_constant, record_fields, union_ty}
use Rattle.rules.specs.Constant.{constant, only_field, alternative_of}
use Rattle.rules.specs.Events.{Code}
use Rattle.rules.specs.Walk.{FieldWalk, narrow_by, matched, inject_only}
use Rattle.state.specs.State.{State}
use Rattle.state.specs.Ops.{ops, report, skip}
use Rattle.lists.specs.declared.Code.TheVariants as Co
use Rattle.field_cases.specs.declared.Way.{Way}
use Rattle.field_cases.specs.declared.Way.TheVariants as Wy
use Rattle.field_cases.specs.declared.Choice as Code-choice
use Rattle.field_cases.specs.declared.Chosen.{Chosen}

-- a Record against a Union
unfoldable pub is_injection : Option (List FieldPattern) → Option (List Alternative) → Bool
is_injection None alts = false
is_injection (Some fields) None = false
is_injection (Some fields) (Some alts) = true

-- a walk of the types below that does nothing, for what goes no deeper
abbrev pub still : FieldWalk State
still n t path s = s

-- a constant is its own location, and anything else is read
unfoldable pub literal_way : Bool → Way
literal_way constant = elim constant [ true ↦ Wy.Constant | false ↦ Wy.Read ]

-- Rust `field`, its match on the pattern; of the kinds that are read, by whether the pattern is a constant
unfoldable pub node_way : Bool → Node → Way
node_way constant (Node.Int bytes) = literal_way constant
node_way constant (Node.Str x) = literal_way constant
node_way constant (Node.Bytes bytes) = literal_way constant
node_way constant (Node.Var x) = Wy.Variable x
node_way constant Node.Wildcard = Wy.Skip
node_way constant Node.Never = Wy.Report Co.NyiNever
node_way constant (Node.Prefix x) = Wy.Range
node_way constant (Node.Fuzzy x d a) = Wy.Range
node_way constant (Node.Record fs) = literal_way constant
node_way constant (Node.Access x base) = literal_way constant
node_way constant (Node.Value base) = literal_way constant
node_way constant (Node.Select x base) = literal_way constant
node_way constant Node.Disjunction = Wy.Report Co.NyiDisjunction
node_way constant Node.Subquery = literal_way constant
node_way constant (Node.Fact p key) = literal_way constant
node_way constant Node.Arith = literal_way constant
node_way constant Node.Error = literal_way constant

unfoldable pub way_at : Tables → ℕ → ℕ → Way
way_at T n t =
    elim (is_injection (record_fields (node_at T n)) (union_ty (type_at T t))) [
      | true ↦ Wy.Union
      | false ↦ node_way (is_constant T n) (node_at T n)
    ]

-- the pattern of a record key's field that is walked into: a Wildcard skips, as a field does that no pattern names
abbrev pub is_skip : Way → Bool
is_skip Wy.Union = false
is_skip Wy.Skip = true
is_skip (Wy.Report code) = false
is_skip Wy.Range = false
is_skip Wy.Constant = false
is_skip (Wy.Variable x) = false
is_skip Wy.Read = false

unfoldable pub walked_pattern : Tables → ℕ → Option ℕ → Option ℕ
walked_pattern T t pattern = pattern when_some λ n. elim (is_skip (way_at T n t)) [ true ↦ None | false ↦ Some n ]

-- `matched` of a slot that is no constant; a constant changes nothing here
unfoldable pub meeting : Tables → ℕ → ℕ → File.Slot → ℕ → File.FieldPath → State → State
meeting T address n (File.Slot.Row from p) t path s = matched (ops T) T address still n (File.Slot.Row from p) t path s
meeting T address n (File.Slot.Key from u) t path s = matched (ops T) T address still n (File.Slot.Key from u) t path s
meeting T address n (File.Slot.Derived from) t path s = matched (ops T) T address still n (File.Slot.Derived from) t path s
meeting T address n (File.Slot.Field from at u) t path s = matched (ops T) T address still n (File.Slot.Field from at u) t path s
meeting T address n (File.Slot.Value from u) t path s = matched (ops T) T address still n (File.Slot.Value from u) t path s
meeting T address n (File.Slot.Const folded) t path s = s

-- an alternative's disc, with its payload's pattern and type
pub record Payload : Type 0 where
  pub disc : ℕ
  pub node : ℕ
  pub type : ℕ

-- what `inject` comes to: the payload that is still to be walked, if any, and the state
pub record Choosing : Type 0 where
  pub payload : Option Payload
  pub state : State

abbrev pub unchosen : State → Choosing
unchosen s = record { payload = None; state = s }

abbrev pub payload_of : Option Code-choice.Choice → Option Payload
payload_of None = None
payload_of (Some c) = Some (record { disc = c.disc; node = c.node; type = c.ty })

abbrev pub choosing_of : Chosen → State → Choosing
choosing_of r s = record { payload = payload_of r.choice; state = s }

-- a union value's one pair names its alternative
unfoldable pub named_choice : FieldPattern → Option Alternative → ℕ → State → Choosing
named_choice f None n s = unchosen (report n Code.RejectUnknownAlternative (skip s))
named_choice f (Some alt) n s = record { payload = Some (record { disc = alt.disc; node = f.node; type = alt.type }); state = s }

unfoldable pub only_choice : Option FieldPattern → List Alternative → ℕ → State → Choosing
only_choice None alts n s = unchosen (report n Code.RejectUnionArity (skip s))
only_choice (Some f) alts n s = named_choice f (alternative_of alts f.name) n s

unfoldable pub alternative_choice : Option (List FieldPattern) → Option (List Alternative) → ℕ → State → Choosing
alternative_choice None alts n s = unchosen s
alternative_choice (Some fields) None n s = unchosen s
alternative_choice (Some fields) (Some alts) n s = only_choice (only_field fields) alts n s

-- `inject`: the whole union's constant, or else the alternative that is walked
unfoldable pub choosing : Tables → ℕ → ℕ → File.FieldPath → State → Choosing
choosing T n t path s =
    elim (constant T n t) [
      | Some c ↦ unchosen (narrow_by (ops T) T n c path s)
      | None ↦ alternative_choice (record_fields (node_at T n)) (union_ty (type_at T t)) n s
    ]

module _ (T : Tables) (address : ℕ) (below : FieldWalk State) where
  -- `inject` of the written rules where the node is a Record and the type a Union; of anything else, nothing
  unfoldable pub inject_fields : Option (List FieldPattern) → Option (List Alternative) → ℕ → File.FieldPath → State → State
  inject_fields None alts n path s = s
  inject_fields (Some fields) None n path s = s
  inject_fields (Some fields) (Some alts) n path s = inject_only (ops T) T address below n (only_field fields) alts path s

  unfoldable pub inject_at : FieldWalk State
  inject_at n t path s =
      elim (constant T n t) [
        | Some c ↦ narrow_by (ops T) T n c path s
        | None ↦ inject_fields (record_fields (node_at T n)) (union_ty (type_at T t)) n path s
      ]
