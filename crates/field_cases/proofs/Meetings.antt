-- `matched` of a slot that is no constant, by the slot's kind.
use Prim.Native.Nat.{ℕ}
use mathlib.Core.Path.{◌≡◌, sym, ap, ◌∙◌}
use mathlib.Core.Bool.{Bool, true, false}
use mathlib.Core.List.{List}
use Rattle.std.specs.Prelude.{Option, Some, None}
use lib.Dec.{eqb}
use borrow.Author.Tests.{eq-eqb, ne_eqb}
use Rattle.rules.specs.File as File
use Rattle.rules.specs.File.{Tables, type_at, fact_ty}
use Rattle.rules.specs.Events.{Code, Narrowing}
use Rattle.rules.specs.Walk.{FieldWalk, refers_to, matched}
use Rattle.state.specs.State.{State}
use Rattle.state.specs.Ops.{ops, narrow, report, skip}
use Rattle.views.specs.Views.{predicate_option}
use Rattle.paths.specs.declared.PredicateId.{PredicateId}
use Rattle.paths.specs.declared.Address.{Address}
use Rattle.paths.specs.Paths.{path_of}
use Rattle.slots.specs.Slots.{slot_of, slot_with}
use Rattle.slots.specs.declared.Slot.{Slot}
use Rattle.slots.specs.declared.SlotKind.{SlotKind}
use Rattle.slots.specs.declared.SlotKind.TheVariants as Sk
use Rattle.walk.specs.Walk.{walk_state}
use Rattle.walk.specs.declared.Walk.{Walk}
use Rattle.field_cases.specs.FieldCases.{still, meeting}

-- a row's predicate
pub refers-none : (p : Option PredicateId) (q : Option ℕ) → p ≡ None → false ≡ refers_to (predicate_option p) q
unfolding refers_to
refers-none p q e = ap (λ x. refers_to (predicate_option x) q) (sym e)

module _ (p q : Option PredicateId) (a : PredicateId) (e : p ≡ Some a) where
  pub refers-nothing : q ≡ None → false ≡ refers_to (predicate_option p) (predicate_option q)
  unfolding refers_to
  refers-nothing g = ap (λ x. refers_to (Some a.0) (predicate_option x)) (sym g) ∙ ap (λ x. refers_to (predicate_option x) (predicate_option q)) (sym e)

  pub refers-both : (b : PredicateId) → q ≡ Some b → eqb a.0 b.0 ≡ refers_to (predicate_option p) (predicate_option q)
  unfolding refers_to
  refers-both b g = ap (λ x. refers_to (Some a.0) (predicate_option x)) (sym g) ∙ ap (λ x. refers_to (predicate_option x) (predicate_option q)) (sym e)

module _ (T : Tables) (a : ℕ) (below : FieldWalk State) (n from t : ℕ) (path : File.FieldPath) (s₀ : State) where
  module _ (p : Option ℕ) (b : Bool) (q : Option ℕ) (eb : b ≡ refers_to p q) (eq : q ≡ fact_ty (type_at T t)) where
    abbrev refers : Bool → State
    refers x = elim x [ true ↦ narrow n path (Narrowing.FactId from) s₀ | false ↦ report n Code.RejectTypeMismatch s₀ ]

    row_is : (x : Bool) → b ≡ x → refers x ≡ matched (ops T) T a below n (File.Slot.Row from p) t path s₀
    unfolding matched
    row_is x e = ap refers (sym e ∙ eb ∙ ap (refers_to p) eq)

    pub row-refers : b ≡ true → (s : State) → s ≡ narrow n path (Narrowing.FactId from) s₀ → s ≡ matched (ops T) T a below n (File.Slot.Row from p) t path s₀
    row-refers e s g = g ∙ row_is true e

    pub row_other : b ≡ false → (s : State) → s ≡ report n Code.RejectTypeMismatch s₀ → s ≡ matched (ops T) T a below n (File.Slot.Row from p) t path s₀
    row_other e s g = g ∙ row_is false e

  module _ (at : File.FieldPath) (u : ℕ) where
    abbrev own : Bool → State
    own x = elim x [ true ↦ narrow n path (Narrowing.OwnField at) s₀ | false ↦ narrow n path (Narrowing.RegisterField from at) s₀ ]

    pub field-own : from ≡ a → (s : State) → s ≡ narrow n path (Narrowing.OwnField at) s₀ → s ≡ matched (ops T) T a below n (File.Slot.Field from at u) t path s₀
    unfolding matched
    field-own e s g = g ∙ ap own (sym (eq-eqb _ _ e))

    pub field-other : (from ≡ a → ⊥) → (s : State) → s ≡ narrow n path (Narrowing.RegisterField from at) s₀ → s ≡ matched (ops T) T a below n (File.Slot.Field from at u) t path s₀
    unfolding matched
    field-other e s g = g ∙ ap own (sym (ne_eqb _ _ e))

module _ (T : Tables) (a n t : ℕ) (path : File.FieldPath) (s₀ : State) where
  -- the slot by its kind
  module _ (slot : Slot) where
    abbrev whole : State
    whole = meeting T a n (slot_of slot) t path s₀

    by_kind : (kind : SlotKind) → slot.kind ≡ kind → meeting T a n (slot_with kind slot.path) t path s₀ ≡ whole
    by_kind kind e = ap (λ (x : SlotKind). meeting T a n (slot_with x slot.path) t path s₀) (sym e)

    pub of_row : (from : Address) (p : Option PredicateId) → slot.kind ≡ Sk.Row from p → (s : State) → ((b : ℕ) (below : FieldWalk State) → s ≡ matched (ops T) T b below n (File.Slot.Row from.0 (predicate_option p)) t path s₀) → s ≡ whole
    unfolding meeting
    of_row from p e s g = g a still ∙ by_kind (Sk.Row from p) e

    pub of-key : (from : Address) (u : ℕ) → slot.kind ≡ Sk.Key from u → (s : State) → s ≡ report n Code.NyiWholeKey (skip s₀) → s ≡ whole
    unfolding meeting matched
    of-key from u e s g = g ∙ by_kind (Sk.Key from u) e

    pub of-derived : (from : Address) → slot.kind ≡ Sk.Derived from → (s : State) → s ≡ report n Code.NyiValueMatch (skip s₀) → s ≡ whole
    unfolding meeting matched
    of-derived from e s g = g ∙ by_kind (Sk.Derived from) e

    pub of_field : (from : Address) (u : ℕ) → slot.kind ≡ Sk.Field from u → (s : State) → ((below : FieldWalk State) (i j : ℕ) → s ≡ matched (ops T) T a below n (File.Slot.Field from.0 (path_of slot.path) i) j path s₀) → s ≡ whole
    unfolding meeting
    of_field from u e s g = g still u t ∙ by_kind (Sk.Field from u) e

    pub of-value : (from : Address) (u : ℕ) → slot.kind ≡ Sk.Value from u → (s : State) → s ≡ report n Code.NyiValueMatch s₀ → s ≡ whole
    unfolding meeting matched
    of-value from u e s g = g ∙ by_kind (Sk.Value from u) e

    pub of-const : (folded : ℕ) → slot.kind ≡ Sk.Const folded → s₀ ≡ whole
    unfolding meeting
    of-const folded e = by_kind (Sk.Const folded) e

-- the same of walks: w comes to r
module _ (T : Tables) (a n t : ℕ) (path : File.FieldPath) (w r : Walk) where
  -- by a narrowing, which leaves the work area as it is
  module _ (work plan plan' : List ℕ) where
    abbrev narrows : Narrowing → Type 0
    narrows o = (U : Tables) (x : List ℕ) → walk_state U r x plan' ≡ narrow n path o (walk_state U w x plan)

    abbrev met : Slot → Type 0
    met slot = walk_state T r work plan' ≡ meeting T a n (slot_of slot) t path (walk_state T w work plan)

    pub meets-row : (from : Address) → narrows (Narrowing.FactId from.0) → (slot : Slot) (p : Option PredicateId) → slot.kind ≡ Sk.Row from p → (b : Bool) (q : Option ℕ) → b ≡ refers_to (predicate_option p) q → q ≡ fact_ty (type_at T t) → b ≡ true → met slot
    meets-row from o slot p e b q eb eq h =
        of_row T a n t path (walk_state T w work plan) slot from p e (walk_state T r work plan')
        (λ i below. row-refers T i below n from.0 t path (walk_state T w work plan) (predicate_option p) b q eb eq h (walk_state T r work plan') (o T work))

    module _ (slot : Slot) (from : Address) (u : ℕ) (e : slot.kind ≡ Sk.Field from u) where
      pub meets-own : narrows (Narrowing.OwnField (path_of slot.path)) → from.0 ≡ a → met slot
      meets-own o h =
          of_field T a n t path (walk_state T w work plan) slot from u e (walk_state T r work plan')
          (λ below i j. field-own T a below n from.0 j path (walk_state T w work plan) (path_of slot.path) i h (walk_state T r work plan') (o T work))

      pub meets-register : narrows (Narrowing.RegisterField from.0 (path_of slot.path)) → (from.0 ≡ a → ⊥) → met slot
      meets-register o h =
          of_field T a n t path (walk_state T w work plan) slot from u e (walk_state T r work plan')
          (λ below i j. field-other T a below n from.0 j path (walk_state T w work plan) (path_of slot.path) i h (walk_state T r work plan') (o T work))

  -- by a diagnostic, which leaves the plan as it is
  module _ (work work' plan : List ℕ) where
    abbrev reports : Code → (State → State) → Type 0
    reports code falls = (U : Tables) (p : List ℕ) → walk_state U r work' p ≡ report n code (falls (walk_state U w work p))

    abbrev told : Slot → Type 0
    told slot = walk_state T r work' plan ≡ meeting T a n (slot_of slot) t path (walk_state T w work plan)

    pub meets-mistyped : reports Code.RejectTypeMismatch (λ s. s) → (slot : Slot) (from : Address) (p : Option PredicateId) → slot.kind ≡ Sk.Row from p → (b : Bool) (q : Option ℕ) → b ≡ refers_to (predicate_option p) q → q ≡ fact_ty (type_at T t) → b ≡ false → told slot
    meets-mistyped o slot from p e b q eb eq h =
        of_row T a n t path (walk_state T w work plan) slot from p e (walk_state T r work' plan)
        (λ i below. row_other T i below n from.0 t path (walk_state T w work plan) (predicate_option p) b q eb eq h (walk_state T r work' plan) (o T plan))

    pub meets-key : reports Code.NyiWholeKey skip → (slot : Slot) (from : Address) (u : ℕ) → slot.kind ≡ Sk.Key from u → told slot
    meets-key o slot from u e = of-key T a n t path (walk_state T w work plan) slot from u e (walk_state T r work' plan) (o T plan)

    pub meets-derived : reports Code.NyiValueMatch skip → (slot : Slot) (from : Address) → slot.kind ≡ Sk.Derived from → told slot
    meets-derived o slot from e = of-derived T a n t path (walk_state T w work plan) slot from e (walk_state T r work' plan) (o T plan)

    pub meets-value : reports Code.NyiValueMatch (λ s. s) → (slot : Slot) (from : Address) (u : ℕ) → slot.kind ≡ Sk.Value from u → told slot
    meets-value o slot from u e = of-value T a n t path (walk_state T w work plan) slot from u e (walk_state T r work' plan) (o T plan)
