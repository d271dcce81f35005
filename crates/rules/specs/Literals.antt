-- Request [7]: what a level's walk brings to a type that gives it no bytes, told by node and type alone. A Const is only ever a starting
-- binding, so none of the walk's lists is needed, and a file can be refused by 19 before any level is walked. That a walk notes exactly
-- this is proofs/Literals.antt, `level-meets`.
use Rattle.std.specs.Prelude.{Bool, true, false, List, [], ◌∷◌, ℕ, zero, suc, length, eqb, Option, None, Some}
use Rattle.rules.specs.Base.{◌when_some◌ as ◌>>=◌, either, first}
use Rattle.rules.specs.File.{Tables, FieldTy, Alternative, Ty, FieldPattern, Node, LevelEntry, type_at, predicate_at, node_at}
use Rattle.rules.specs.File.{is_constant, record_fields, record_ty}
use Rattle.rules.specs.Constant.{Const, const_bound, field_pattern, alternative_of, only_field, constant}
use Rattle.rules.specs.Lookup.{folded_field}

-- the Const that a hoisted node's name is bound to
unfoldable pub hoisted_const : Tables → ℕ → Option ℕ
hoisted_const T n = do
  h ← first (λ h. eqb h.node n) T.hoisted
  const_bound T.bindings h.name

-- Rust `resolve`, as far as it gives a Const; `below` is the same at the nodes below
unfoldable pub folded_node : Tables → (ℕ → Option ℕ) → ℕ → Node → Option ℕ
folded_node T below n (Node.Int bytes) = None
folded_node T below n (Node.Str x) = None
folded_node T below n (Node.Bytes bytes) = None
folded_node T below n (Node.Var x) = const_bound T.bindings x
folded_node T below n Node.Wildcard = None
folded_node T below n Node.Never = None
folded_node T below n (Node.Prefix x) = None
folded_node T below n (Node.Fuzzy x d a) = None
folded_node T below n (Node.Record fs) = None
folded_node T below n (Node.Access x base) = do
  c ← below base
  folded_field T c x
folded_node T below n (Node.Value base) = None
folded_node T below n (Node.Select x base) = None
folded_node T below n Node.Disjunction = None
folded_node T below n Node.Subquery = None
folded_node T below n (Node.Fact p key) = hoisted_const T n
folded_node T below n Node.Arith = None
folded_node T below n Node.Error = None

unfoldable pub folded_below : Tables → ℕ → ℕ → Option ℕ
folded_below T zero n = None
folded_below T (suc limit) n = elim (is_constant T n) [ true ↦ Some n | false ↦ folded_node T (folded_below T limit) n (node_at T n) ]

-- the constant that a pattern stands for: itself, or the Const of a Var, a hoisted Fact or an Access
unfoldable pub folded : Tables → ℕ → Option ℕ
folded T n = folded_below T (length T.nodes) n

-- any of a record's fields, each with the first pattern of its name
unfoldable pub any_field : (ℕ → ℕ → Bool) → List FieldPattern → List FieldTy → Bool
any_field below fields [] = false
any_field below fields (f ∷ fs) =
    either (elim (field_pattern fields f.name) [ None ↦ false | Some pattern ↦ below pattern f.type ]) (any_field below fields fs)

unfoldable pub lacks_bytes : Option Const → Bool
lacks_bytes None = true
lacks_bytes (Some c) = false

-- `below` is `field` at the types below
module _ (T : Tables) (below : ℕ → ℕ → Bool) where
  -- Rust `matched` with a Const slot: a Record at a Record is opened. Where all of its fields have bytes none of them is met, so `constant`
  -- is not asked for it.
  unfoldable pub brought_by : ℕ → ℕ → Option (List FieldPattern) → Option (List FieldTy) → Bool
  brought_by c t None fs = lacks_bytes (constant T c t)
  brought_by c t (Some fields) None = lacks_bytes (constant T c t)
  brought_by c t (Some fields) (Some fs) = any_field below fields fs

  unfoldable pub brought_meets : ℕ → ℕ → Bool
  brought_meets c t = brought_by c t (record_fields (node_at T c)) (record_ty (type_at T t))

  -- Rust `inject`: a Record at a Union is never met itself, its payload may be
  unfoldable pub payload_meets : List FieldPattern → List Alternative → Bool
  payload_meets fields alts =
      elim (only_field fields) [
        | None ↦ false
        | Some f ↦ elim (alternative_of alts f.name) [ None ↦ false | Some alt ↦ below f.node alt.type ]
      ]

  -- a Record that is written at a type
  unfoldable pub record_meets : ℕ → List FieldPattern → Ty → Bool
  record_meets n fields Ty.Int = is_constant T n
  record_meets n fields Ty.Str = is_constant T n
  record_meets n fields Ty.Bytes = is_constant T n
  record_meets n fields (Ty.Fact p) = is_constant T n
  record_meets n fields (Ty.Record fs) = any_field below fields fs
  record_meets n fields (Ty.Union alts) = payload_meets fields alts

  -- Rust `field`: a Record, or what the pattern stands for
  unfoldable pub field_meets : ℕ → ℕ → Bool
  field_meets n t =
      elim (record_fields (node_at T n)) [
        | Some fields ↦ record_meets n fields (type_at T t)
        | None ↦ elim (folded T n) [ None ↦ false | Some c ↦ brought_meets c t ]
      ]

-- at the types below a number
unfoldable pub meets_below : Tables → ℕ → ℕ → ℕ → Bool
meets_below T zero n t = false
meets_below T (suc limit) n t = field_meets T (meets_below T limit) n t

unfoldable pub meets : Tables → ℕ → ℕ → Bool
meets T n t = meets_below T (length T.types) n t

-- Rust `whole_key` with the constant that the pattern stands for: each of its fields is brought to the key's
unfoldable pub whole_meets : Tables → Option ℕ → List FieldTy → Bool
whole_meets T None fs = false
whole_meets T (Some c) fs =
    elim (record_fields (node_at T c)) [ None ↦ true | Some fields ↦ any_field (brought_meets T (meets T)) fields fs ]

-- Rust `key`
unfoldable pub key_meets : Tables → ℕ → ℕ → Bool
key_meets T n t =
    elim (record_ty (type_at T t)) [
      | None ↦ meets T n t
      | Some fs ↦ elim (record_fields (node_at T n)) [ Some fields ↦ any_field (meets T) fields fs | None ↦ whole_meets T (folded T n) fs ]
    ]

-- one level
unfoldable pub level_meets : Tables → LevelEntry → Bool
level_meets T l = key_meets T l.node (predicate_at T l.predicate).key

-- any level of a list
unfoldable pub levels_meet : Tables → List LevelEntry → Bool
levels_meet T [] = false
levels_meet T (l ∷ ls) = either (level_meets T l) (levels_meet T ls)

unfoldable pub open_literals : Unit {0}
unfolding hoisted_const folded_node folded_below folded any_field lacks_bytes brought_by brought_meets payload_meets record_meets field_meets meets_below
    meets whole_meets key_meets level_meets levels_meet
open_literals = tt
