-- How `field` goes on, by the pattern's kind.
use Rattle.slots.specs.declared.Slot.{Slot}
use Prim.Native.Nat.{ℕ}
use mathlib.Core.Path.{◌≡◌, refl, sym, ap, ◌∙◌, subst}
use mathlib.Core.Bool.{Bool, true, false}
use mathlib.Core.List.{List, [], ◌∷◌}
use Rattle.std.specs.Prelude.{Option, None, Some}
use types.Run.{OneOf, miss}
use denote.Enum.Declared.{tag_of}
use Rattle.rules.specs.Base.{◌when_some◌}
use Rattle.rules.specs.File as File
use Rattle.rules.specs.File.{Tables, FieldPattern, Alternative, type_at, node_at, is_constant, record_fields, union_ty}
use Rattle.state.specs.State.{Level, Target, State}
use Rattle.rules.specs.Walk.{constrain}
use Rattle.state.specs.Ops.{bind, ops}
use Rattle.views.specs.Views.{run, node_of, alternative_at, pattern_at, SeenNode}
use Rattle.views.specs.declared.NodeView.{NodeView}
use Rattle.views.specs.declared.NodeView.TheVariants as Nv
use Rattle.views.specs.declared.Anchor.{Anchor}
use Rattle.views.specs.contracts.NodeView as NodeViews
use Rattle.slots.specs.Slots.{slot_option, IsSlot}
use Rattle.tables.specs.Tables.{SeenRun}
use Rattle.lists.specs.Lists.{state_with}
use Rattle.lists.specs.declared.Lists.{Lists}
use Rattle.walk.specs.Walk.{walk_state, lists_of}
use Rattle.walk.specs.declared.Walk.{Walk}
use Rattle.walk.proofs.Parts.{lists-of}
use Rattle.lists.specs.declared.Code.TheVariants as Co
use Rattle.field_cases.specs.FieldCases.{is_injection, literal_way, node_way, way_at, is_skip, walked_pattern}
use Rattle.field_cases.specs.declared.Way.{Way}
use Rattle.field_cases.specs.declared.Way.TheVariants as Wy

-- a name looked up, whatever the level
pub looked-up : (T : Tables) (x : ℕ) (m : Option Slot) (w : Walk) (l : Lists) (work plan : List ℕ) → l ≡ lists_of w → ((level : Level) (g : Target) (p : List ℕ) → IsSlot ((ops T).lookup (state_with l level g work p) x) m) → slot_option m ≡ (ops T).lookup (walk_state T w work plan) x
looked-up T x m w l work plan e k = (k _ _ plan).is ∙ ap (λ (s : State). (ops T).lookup s x) (lists-of T w l work plan e)

-- a new variable, bound and constrained
pub captured-is : (T : Tables) (a x t : ℕ) (path : File.FieldPath) (s₀ : State) (slot : File.Slot) (s₁ s₂ : State) → slot ≡ File.Slot.Field a path t → s₁ ≡ bind x slot s₀ → s₂ ≡ constrain (ops T) T x t path s₁ → s₂ ≡ constrain (ops T) T x t path (bind x (File.Slot.Field a path t) s₀)
captured-is T a x t path s₀ slot s₁ s₂ es e₁ e₂ = e₂ ∙ ap (constrain (ops T) T x t path) (e₁ ∙ ap (λ (y : File.Slot). bind x y s₀) es)

-- a Record against a Union, as the code reads them
module _ (f : List ℕ) (o : Option (List FieldPattern)) (u : Option (List Alternative)) (r : Option (ℕ × ℕ)) (k : SeenRun f (pattern_at f) 4 o r) where
  pub no_record_lem : r ≡ None → false ≡ is_injection o u
  unfolding is_injection
  no_record_lem e = ap (λ (p : Option (List FieldPattern)). is_injection p u) (subst (SeenRun f (pattern_at f) 4 o) e k).is

  module _ (i at : ℕ) (e : r ≡ Some (i, at)) (q : Option (ℕ × ℕ)) (l : SeenRun f (alternative_at f) 8 u q) where
    as_some : is_injection (Some (run (pattern_at f) 4 i at)) u ≡ is_injection o u
    as_some = ap (λ (p : Option (List FieldPattern)). is_injection p u) (subst (SeenRun f (pattern_at f) 4 o) e k).is

    pub no-union : q ≡ None → false ≡ is_injection o u
    unfolding is_injection
    no-union g = ap (is_injection (Some (run (pattern_at f) 4 i at))) (subst (SeenRun f (alternative_at f) 8 u) g l).is ∙ as_some

    pub record-and-union : (j from : ℕ) → q ≡ Some (j, from) → true ≡ is_injection o u
    unfolding is_injection
    record-and-union j from g = ap (is_injection (Some (run (pattern_at f) 4 i at))) (subst (SeenRun f (alternative_at f) 8 u) g l).is ∙ as_some

-- the kinds that are read, or are constants
literal-as : (f : List ℕ) (c : Bool) (v : NodeView) → OneOf (0 ∷ 1 ∷ 2 ∷ 8 ∷ 9 ∷ 10 ∷ 11 ∷ 13 ∷ 14 ∷ 15 ∷ 16 ∷ []) (tag_of NodeViews.the_type v) → literal_way c ≡ node_way c (node_of f v)
unfolding node_way
literal-as f c (Nv.Int at) w = refl
literal-as f c (Nv.Str x) w = refl
literal-as f c (Nv.Bytes i at) w = refl
literal-as f c (Nv.Var x) w = absurd (miss (0 ∷ 1 ∷ 2 ∷ 8 ∷ 9 ∷ 10 ∷ 11 ∷ 13 ∷ 14 ∷ 15 ∷ 16 ∷ []) 3 tt w)
literal-as f c Nv.Wildcard w = absurd (miss (0 ∷ 1 ∷ 2 ∷ 8 ∷ 9 ∷ 10 ∷ 11 ∷ 13 ∷ 14 ∷ 15 ∷ 16 ∷ []) 4 tt w)
literal-as f c Nv.Never w = absurd (miss (0 ∷ 1 ∷ 2 ∷ 8 ∷ 9 ∷ 10 ∷ 11 ∷ 13 ∷ 14 ∷ 15 ∷ 16 ∷ []) 5 tt w)
literal-as f c (Nv.Prefix x) w = absurd (miss (0 ∷ 1 ∷ 2 ∷ 8 ∷ 9 ∷ 10 ∷ 11 ∷ 13 ∷ 14 ∷ 15 ∷ 16 ∷ []) 6 tt w)
literal-as f c (Nv.Fuzzy x d y) w = absurd (miss (0 ∷ 1 ∷ 2 ∷ 8 ∷ 9 ∷ 10 ∷ 11 ∷ 13 ∷ 14 ∷ 15 ∷ 16 ∷ []) 7 tt w)
literal-as f c (Nv.Record i at) w = refl
literal-as f c (Nv.Access x i) w = refl
literal-as f c (Nv.Value i) w = refl
literal-as f c (Nv.Select x i) w = refl
literal-as f c Nv.Disjunction w = absurd (miss (0 ∷ 1 ∷ 2 ∷ 8 ∷ 9 ∷ 10 ∷ 11 ∷ 13 ∷ 14 ∷ 15 ∷ 16 ∷ []) 12 tt w)
literal-as f c Nv.Subquery w = refl
literal-as f c (Nv.Fact p i) w = refl
literal-as f c Nv.Arith w = refl
literal-as f c Nv.Error w = refl

-- the way of a pattern, by its kind
module _ (T : Tables) (n t : ℕ) (b : Bool) (kb : b ≡ is_injection (record_fields (node_at T n)) (union_ty (type_at T t))) where
  abbrev told-by : Bool → Way
  told-by x = elim x [ true ↦ Wy.Union | false ↦ node_way (is_constant T n) (node_at T n) ]

  told : (x : Bool) → b ≡ x → told-by x ≡ way_at T n t
  unfolding way_at
  told x e = ap told-by (sym e ∙ kb)

  pub as-union : b ≡ true → Wy.Union ≡ way_at T n t
  as-union e = told true e

  module _ (no : b ≡ false) (f : List ℕ) (v : NodeView) (k : SeenNode f (node_at T n) v) where
    seen_as : (u : NodeView) → v ≡ u → node_way (is_constant T n) (node_of f u) ≡ way_at T n t
    seen_as u e = ap (node_way (is_constant T n)) (ap (node_of f) (sym e) ∙ k.is) ∙ told false no

    pub as-var : (x : ℕ) → v ≡ Nv.Var x → Wy.Variable x ≡ way_at T n t
    unfolding node_way
    as-var x e = seen_as (Nv.Var x) e

    pub as-wildcard : v ≡ Nv.Wildcard → Wy.Skip ≡ way_at T n t
    unfolding node_way
    as-wildcard e = seen_as Nv.Wildcard e

    pub as-never : v ≡ Nv.Never → Wy.Report Co.NyiNever ≡ way_at T n t
    unfolding node_way
    as-never e = seen_as Nv.Never e

    pub as-prefix : (x : ℕ) → v ≡ Nv.Prefix x → Wy.Range ≡ way_at T n t
    unfolding node_way
    as-prefix x e = seen_as (Nv.Prefix x) e

    pub as-fuzzy : (x d : ℕ) (y : Anchor) → v ≡ Nv.Fuzzy x d y → Wy.Range ≡ way_at T n t
    unfolding node_way
    as-fuzzy x d y e = seen_as (Nv.Fuzzy x d y) e

    pub as-disjunction : v ≡ Nv.Disjunction → Wy.Report Co.NyiDisjunction ≡ way_at T n t
    unfolding node_way
    as-disjunction e = seen_as Nv.Disjunction e

    pub as-literal : OneOf (0 ∷ 1 ∷ 2 ∷ 8 ∷ 9 ∷ 10 ∷ 11 ∷ 13 ∷ 14 ∷ 15 ∷ 16 ∷ []) (tag_of NodeViews.the_type v) → (r : Way) → r ≡ literal_way (is_constant T n) → r ≡ way_at T n t
    as-literal w r q = q ∙ literal-as f (is_constant T n) v w ∙ seen_as v refl

-- the pattern that a record key walks into
module _ (T : Tables) (t : ℕ) (p : Option ℕ) where
  pub none-walked : p ≡ None → None ≡ walked_pattern T t (p)
  unfolding walked_pattern ◌when_some◌
  none-walked e = ap (λ (x : Option ℕ). walked_pattern T t (x)) (sym e)

  module _ (n : ℕ) (e : p ≡ Some n) (way : Way) (k : way ≡ way_at T n t) (b : Bool) (kb : b ≡ is_skip way) where
    abbrev walked_by : Bool → Option ℕ
    walked_by x = elim x [ true ↦ None | false ↦ Some n ]

    walked-is : (x : Bool) → b ≡ x → walked_by x ≡ walked_pattern T t (p)
    unfolding walked_pattern ◌when_some◌
    walked-is x d = ap walked_by (sym d ∙ kb ∙ ap is_skip k) ∙ ap (λ (y : Option ℕ). walked_pattern T t (y)) (sym e)

    pub skip-walked : b ≡ true → None ≡ walked_pattern T t (p)
    skip-walked d = walked-is true d

    pub other-walked : b ≡ false → Some n ≡ walked_pattern T t (p)
    other-walked d = walked-is false d
