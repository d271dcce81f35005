-- "Walk", what a level's walk gives: the level's events, and what it adds to the four lists.
use Rattle.std.specs.Prelude.{Bool, true, false, List, [], ◌∷◌, ◌++◌, ℕ, length, Option, None, Some}
use Rattle.rules.specs.Base.{either}
use Rattle.rules.specs.File.{Tables, FieldTy, Ty, Anchor, FieldPattern, FieldPath, Slot, Binding, node_at, record_fields, record_ty}
use Rattle.rules.specs.Constant.{Const, lookup, constant}

-- "Plan": the diagnostics' codes. Request [8]: NyiRepeatedVariable is made nowhere any more (proofs/Repeats.antt); it keeps its number.
pub data Code : Type 0 where
  NyiDisjunction NyiFactField NyiNever NyiRepeatedVariable NyiValueField NyiValueMatch NyiWholeKey : Code
  RejectTypeMismatch RejectUnionArity RejectUnknownAlternative RejectUnresolvedAccess : Code

unfoldable pub code_number : Code → ℕ
code_number Code.NyiDisjunction = 1
code_number Code.NyiFactField = 2
code_number Code.NyiNever = 3
code_number Code.NyiRepeatedVariable = 4
code_number Code.NyiValueField = 5
code_number Code.NyiValueMatch = 6
code_number Code.NyiWholeKey = 7
code_number Code.RejectTypeMismatch = 8
code_number Code.RejectUnionArity = 9
code_number Code.RejectUnknownAlternative = 10
code_number Code.RejectUnresolvedAccess = 11

pub record Select : Type 0 where
  pub address : ℕ
  pub path : FieldPath
  pub disc : ℕ

pub record Diagnostic : Type 0 where
  pub node : ℕ
  pub code : Code

-- "A narrowing has a path and is bytes, tag (disc), register field, fact id, prefix or fuzzy." Request [8]: or a field of the level's own
-- row, which "asks for equal bytes at both paths"; it has the other path.
pub data Narrowing : Type 0 where
  Bytes : List ℕ → Narrowing
  Tag : ℕ → Narrowing
  RegisterField : ℕ → FieldPath → Narrowing
  FactId : ℕ → Narrowing
  Prefix : List ℕ → Narrowing
  Fuzzy : ℕ → ℕ → Anchor → Narrowing
  OwnField : FieldPath → Narrowing

-- "the level's events in the order met, each a narrowing, a skip, a closer or a bound"; a bound has its Var's name and type. Request [2]: a
-- narrowing has the number of the node that made it, a closer that of its union's record.
pub data Event : Type 0 where
  narrow : ℕ → FieldPath → Narrowing → Event
  skip : Event
  closer : ℕ → Event
  bound : ℕ → ℕ → Event

-- "Four lists go from level to level: bindings, constrained names, selects and diagnostics."
pub record Lists : Type 0 where
  pub bindings : List Binding
  pub constrained : List ℕ
  pub selects : List Select
  pub diagnostics : List Diagnostic

-- mistyped: request [7], whether the walk has brought a constant to a type that gives it no bytes
pub record Walk : Type 0 where
  pub lists : Lists
  pub events : List Event
  pub mistyped : Bool

-- "What it adds to a list stands at that list's end, in the order met." Each of these adds one entry.
unfoldable pub bind : ℕ → Slot → Walk → Walk
bind x slot w =
    record {
      lists = record {
        bindings = w.lists.bindings ++ (record { name = x; slot = slot } ∷ []);
        constrained = w.lists.constrained;
        selects = w.lists.selects;
        diagnostics = w.lists.diagnostics;
      };
      events = w.events;
      mistyped = w.mistyped;
    }

unfoldable pub constrained : ℕ → Walk → Walk
constrained x w =
    record {
      lists = record {
        bindings = w.lists.bindings;
        constrained = w.lists.constrained ++ (x ∷ []);
        selects = w.lists.selects;
        diagnostics = w.lists.diagnostics;
      };
      events = w.events;
      mistyped = w.mistyped;
    }

unfoldable pub select : ℕ → FieldPath → ℕ → Walk → Walk
select address path disc w =
    record {
      lists = record {
        bindings = w.lists.bindings;
        constrained = w.lists.constrained;
        selects = w.lists.selects ++ (record { address = address; path = path; disc = disc } ∷ []);
        diagnostics = w.lists.diagnostics;
      };
      events = w.events;
      mistyped = w.mistyped;
    }

unfoldable pub report : ℕ → Code → Walk → Walk
report n code w =
    record {
      lists = record {
        bindings = w.lists.bindings;
        constrained = w.lists.constrained;
        selects = w.lists.selects;
        diagnostics = w.lists.diagnostics ++ (record { node = n; code = code } ∷ []);
      };
      events = w.events;
      mistyped = w.mistyped;
    }

unfoldable pub emit : Event → Walk → Walk
emit e w = record { lists = w.lists; events = w.events ++ (e ∷ []); mistyped = w.mistyped }

-- Request [7], refusal 19: ".. a constant, or a pattern whose slot is a Const .., unless both are records"
unfoldable pub unless_records : Option (List FieldPattern) → Option (List FieldTy) → Bool
unless_records None fs = true
unless_records (Some fields) None = true
unless_records (Some fields) (Some fs) = false

unfoldable pub is_mistyped : Tables → Slot → Ty → Bool
is_mistyped T (Slot.Row a p) ty = false
is_mistyped T (Slot.Key a t) ty = false
is_mistyped T (Slot.Derived a) ty = false
is_mistyped T (Slot.Field a path t) ty = false
is_mistyped T (Slot.Value a t) ty = false
is_mistyped T (Slot.Const n) ty = unless_records (record_fields (node_at T n)) (record_ty ty)

-- a slot that is brought to a type which gives it no bytes
unfoldable pub brings : Tables → Slot → Ty → Walk → Walk
brings T slot ty w = record { lists = w.lists; events = w.events; mistyped = either w.mistyped (is_mistyped T slot ty) }

-- What the walk asks of whatever keeps its lists and takes its events. The walk is told over any such S, so that it can be read once for
-- these lists and once for a program's memory. `constant` is asked of the state too, since the Rust's reads the bindings as they stand.
-- `narrow` and `closer` are given the node first. `brings` is told of each slot that is brought to a type which gives it no bytes.
pub record Ops (S : Type 0) : Type 0 where
  pub lookup : S → ℕ → Option Slot
  pub constant : S → ℕ → ℕ → Option Const
  pub reported : S → ℕ
  pub bind : ℕ → Slot → S → S
  pub constrained : ℕ → S → S
  pub select : ℕ → FieldPath → ℕ → S → S
  pub report : ℕ → Code → S → S
  pub narrow : ℕ → FieldPath → Narrowing → S → S
  pub skip : S → S
  pub closer : ℕ → S → S
  pub bound : ℕ → ℕ → S → S
  pub brings : Slot → Ty → S → S

-- the lists and events of this document; `constant` reads the file's bindings
abbrev pub walk_ops : Tables → Ops Walk
walk_ops T =
    record {
      lookup = λ w x. lookup w.lists.bindings x;
      constant = λ w n t. constant T n t;
      reported = λ w. length w.lists.diagnostics;
      bind = bind;
      constrained = constrained;
      select = select;
      report = report;
      narrow = λ n path x w. emit (Event.narrow n path x) w;
      skip = λ w. emit Event.skip w;
      closer = λ n w. emit (Event.closer n) w;
      bound = λ x t w. emit (Event.bound x t) w;
      brings = brings T;
    }

unfoldable pub open_events : Unit {0}
unfolding code_number bind constrained select report emit unless_records is_mistyped brings
open_events = tt
