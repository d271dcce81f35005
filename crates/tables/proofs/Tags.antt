-- A view that is not of the form asked for: what the rules then find is nothing. The numbers are the variants', in their order, but the one asked for.
use Prim.Native.Nat.{ℕ}
use mathlib.Core.Path.{◌≡◌, refl, sym, ap, ◌∙◌, subst}
use mathlib.Core.List.{List, [], ◌∷◌}
use Rattle.std.specs.Prelude.{None, Some}
use types.Run.{OneOf, miss}
use denote.Enum.Declared.{tag_of}
use Rattle.rules.specs.File.{Ty, Node, var_name, record_fields, record_ty, union_ty}
use Rattle.rules.specs.Constant.{const_node}
use Rattle.views.specs.Views.{node_of, type_of, slot_viewed, field_at, alternative_at, pattern_at, SeenType, SeenNode}
use Rattle.tables.specs.Tables.{fields_in, alternatives_in, pairs_in, SeenRun}
use Rattle.views.specs.declared.NodeView.{NodeView}
use Rattle.views.specs.contracts.NodeView as NodeViews
use Rattle.views.specs.declared.NodeView.TheVariants as Nv
use Rattle.views.specs.declared.TypeView.{TypeView}
use Rattle.views.specs.contracts.TypeView as TypeViews
use Rattle.views.specs.declared.TypeView.TheVariants as Tv
use Rattle.views.specs.declared.SlotView.{SlotView}
use Rattle.views.specs.contracts.SlotView as SlotViews
use Rattle.views.specs.declared.SlotView.TheVariants as Sv

no-var : (f : List ℕ) (v : NodeView) → OneOf (0 ∷ 1 ∷ 2 ∷ 4 ∷ 5 ∷ 6 ∷ 7 ∷ 8 ∷ 9 ∷ 10 ∷ 11 ∷ 12 ∷ 13 ∷ 14 ∷ 15 ∷ 16 ∷ []) (tag_of NodeViews.the_type v) → var_name (node_of f v) ≡ None
unfolding var_name
no-var f (Nv.Int at) w = refl
no-var f (Nv.Str x) w = refl
no-var f (Nv.Bytes n at) w = refl
no-var f (Nv.Var x) w = absurd (miss (0 ∷ 1 ∷ 2 ∷ 4 ∷ 5 ∷ 6 ∷ 7 ∷ 8 ∷ 9 ∷ 10 ∷ 11 ∷ 12 ∷ 13 ∷ 14 ∷ 15 ∷ 16 ∷ []) 3 tt w)
no-var f Nv.Wildcard w = refl
no-var f Nv.Never w = refl
no-var f (Nv.Prefix x) w = refl
no-var f (Nv.Fuzzy x d a) w = refl
no-var f (Nv.Record n at) w = refl
no-var f (Nv.Access x n) w = refl
no-var f (Nv.Value n) w = refl
no-var f (Nv.Select x n) w = refl
no-var f Nv.Disjunction w = refl
no-var f Nv.Subquery w = refl
no-var f (Nv.Fact p n) w = refl
no-var f Nv.Arith w = refl
no-var f Nv.Error w = refl

no_record_lem : (f : List ℕ) (v : NodeView) → OneOf (0 ∷ 1 ∷ 2 ∷ 3 ∷ 4 ∷ 5 ∷ 6 ∷ 7 ∷ 9 ∷ 10 ∷ 11 ∷ 12 ∷ 13 ∷ 14 ∷ 15 ∷ 16 ∷ []) (tag_of NodeViews.the_type v) → record_fields (node_of f v) ≡ None
unfolding record_fields
no_record_lem f (Nv.Int at) w = refl
no_record_lem f (Nv.Str x) w = refl
no_record_lem f (Nv.Bytes n at) w = refl
no_record_lem f (Nv.Var x) w = refl
no_record_lem f Nv.Wildcard w = refl
no_record_lem f Nv.Never w = refl
no_record_lem f (Nv.Prefix x) w = refl
no_record_lem f (Nv.Fuzzy x d a) w = refl
no_record_lem f (Nv.Record n at) w = absurd (miss (0 ∷ 1 ∷ 2 ∷ 3 ∷ 4 ∷ 5 ∷ 6 ∷ 7 ∷ 9 ∷ 10 ∷ 11 ∷ 12 ∷ 13 ∷ 14 ∷ 15 ∷ 16 ∷ []) 8 tt w)
no_record_lem f (Nv.Access x n) w = refl
no_record_lem f (Nv.Value n) w = refl
no_record_lem f (Nv.Select x n) w = refl
no_record_lem f Nv.Disjunction w = refl
no_record_lem f Nv.Subquery w = refl
no_record_lem f (Nv.Fact p n) w = refl
no_record_lem f Nv.Arith w = refl
no_record_lem f Nv.Error w = refl

no_fields : (f : List ℕ) (v : TypeView) → OneOf (0 ∷ 1 ∷ 2 ∷ 3 ∷ 5 ∷ []) (tag_of TypeViews.the_type v) → record_ty (type_of f v) ≡ None
unfolding record_ty
no_fields f Tv.Int w = refl
no_fields f Tv.Str w = refl
no_fields f Tv.Bytes w = refl
no_fields f (Tv.Fact p) w = refl
no_fields f (Tv.Record n at) w = absurd (miss (0 ∷ 1 ∷ 2 ∷ 3 ∷ 5 ∷ []) 4 tt w)
no_fields f (Tv.Union n at) w = refl

no-alternatives : (f : List ℕ) (v : TypeView) → OneOf (0 ∷ 1 ∷ 2 ∷ 3 ∷ 4 ∷ []) (tag_of TypeViews.the_type v) → union_ty (type_of f v) ≡ None
unfolding union_ty
no-alternatives f Tv.Int w = refl
no-alternatives f Tv.Str w = refl
no-alternatives f Tv.Bytes w = refl
no-alternatives f (Tv.Fact p) w = refl
no-alternatives f (Tv.Record n at) w = refl
no-alternatives f (Tv.Union n at) w = absurd (miss (0 ∷ 1 ∷ 2 ∷ 3 ∷ 4 ∷ []) 5 tt w)

-- and the view has no such run
no-fields-in : (v : TypeView) → OneOf (0 ∷ 1 ∷ 2 ∷ 3 ∷ 5 ∷ []) (tag_of TypeViews.the_type v) → None ≡ fields_in v
no-fields-in Tv.Int w = refl
no-fields-in Tv.Str w = refl
no-fields-in Tv.Bytes w = refl
no-fields-in (Tv.Fact p) w = refl
no-fields-in (Tv.Record n at) w = absurd (miss (0 ∷ 1 ∷ 2 ∷ 3 ∷ 5 ∷ []) 4 tt w)
no-fields-in (Tv.Union n at) w = refl

no-alternatives-in : (v : TypeView) → OneOf (0 ∷ 1 ∷ 2 ∷ 3 ∷ 4 ∷ []) (tag_of TypeViews.the_type v) → None ≡ alternatives_in v
no-alternatives-in Tv.Int w = refl
no-alternatives-in Tv.Str w = refl
no-alternatives-in Tv.Bytes w = refl
no-alternatives-in (Tv.Fact p) w = refl
no-alternatives-in (Tv.Record n at) w = refl
no-alternatives-in (Tv.Union n at) w = absurd (miss (0 ∷ 1 ∷ 2 ∷ 3 ∷ 4 ∷ []) 5 tt w)

no-pairs-in : (v : NodeView) → OneOf (0 ∷ 1 ∷ 2 ∷ 3 ∷ 4 ∷ 5 ∷ 6 ∷ 7 ∷ 9 ∷ 10 ∷ 11 ∷ 12 ∷ 13 ∷ 14 ∷ 15 ∷ 16 ∷ []) (tag_of NodeViews.the_type v) → None ≡ pairs_in v
no-pairs-in (Nv.Int at) w = refl
no-pairs-in (Nv.Str x) w = refl
no-pairs-in (Nv.Bytes n at) w = refl
no-pairs-in (Nv.Var x) w = refl
no-pairs-in Nv.Wildcard w = refl
no-pairs-in Nv.Never w = refl
no-pairs-in (Nv.Prefix x) w = refl
no-pairs-in (Nv.Fuzzy x d a) w = refl
no-pairs-in (Nv.Record n at) w = absurd (miss (0 ∷ 1 ∷ 2 ∷ 3 ∷ 4 ∷ 5 ∷ 6 ∷ 7 ∷ 9 ∷ 10 ∷ 11 ∷ 12 ∷ 13 ∷ 14 ∷ 15 ∷ 16 ∷ []) 8 tt w)
no-pairs-in (Nv.Access x n) w = refl
no-pairs-in (Nv.Value n) w = refl
no-pairs-in (Nv.Select x n) w = refl
no-pairs-in Nv.Disjunction w = refl
no-pairs-in Nv.Subquery w = refl
no-pairs-in (Nv.Fact p n) w = refl
no-pairs-in Nv.Arith w = refl
no-pairs-in Nv.Error w = refl

pub no_const : (f : List ℕ) (v : SlotView) → OneOf (0 ∷ 1 ∷ 2 ∷ 3 ∷ 4 ∷ []) (tag_of SlotViews.the_type v) → const_node (slot_viewed f v) ≡ None
unfolding const_node
no_const f (Sv.Row a p) w = refl
no_const f (Sv.Key a t) w = refl
no_const f (Sv.Derived a) w = refl
no_const f (Sv.Field a at t) w = refl
no_const f (Sv.Value a t) w = refl
no_const f (Sv.Const n) w = absurd (miss (0 ∷ 1 ∷ 2 ∷ 3 ∷ 4 ∷ []) 5 tt w)

-- a view of the form asked for, or of another
module _ (f : List ℕ) (node : Node) (v : NodeView) (s : SeenNode f node v) where
  pub var-is : (x : ℕ) → v ≡ Nv.Var x → Some x ≡ var_name node
  unfolding var_name
  var-is x e = ap var_name (subst (SeenNode f node) e s).is

  pub var-not : OneOf (0 ∷ 1 ∷ 2 ∷ 4 ∷ 5 ∷ 6 ∷ 7 ∷ 8 ∷ 9 ∷ 10 ∷ 11 ∷ 12 ∷ 13 ∷ 14 ∷ 15 ∷ 16 ∷ []) (tag_of NodeViews.the_type v) → None ≡ var_name node
  var-not w = sym (no-var f v w) ∙ ap var_name s.is

  pub record_is : (w : NodeView) → v ≡ w → (n at : ℕ) → v ≡ Nv.Record n at → SeenRun f (pattern_at f) 4 (record_fields node) (Some (n, at)) × (Some (n, at) ≡ pairs_in w)
  unfolding record_fields
  record_is w g n at e =
      let r = subst (SeenNode f node) e s in
      (record { is = ap record_fields r.is; inside = r.inside }, ap pairs_in (sym e ∙ g))

  pub record-not : (w : NodeView) → v ≡ w → OneOf (0 ∷ 1 ∷ 2 ∷ 3 ∷ 4 ∷ 5 ∷ 6 ∷ 7 ∷ 9 ∷ 10 ∷ 11 ∷ 12 ∷ 13 ∷ 14 ∷ 15 ∷ 16 ∷ []) (tag_of NodeViews.the_type v) → SeenRun f (pattern_at f) 4 (record_fields node) None × (None ≡ pairs_in w)
  record-not w g k = (record { is = sym (no_record_lem f v k) ∙ ap record_fields s.is; inside = tt }, no-pairs-in v k ∙ ap pairs_in g)

module _ (f : List ℕ) (ty : Ty) (v : TypeView) (s : SeenType f ty v) where
  pub fields-are : (w : TypeView) → v ≡ w → (n at : ℕ) → v ≡ Tv.Record n at → SeenRun f (field_at f) 4 (record_ty ty) (Some (n, at)) × (Some (n, at) ≡ fields_in w)
  unfolding record_ty
  fields-are w g n at e =
      let r = subst (SeenType f ty) e s in
      (record { is = ap record_ty r.is; inside = r.inside }, ap fields_in (sym e ∙ g))

  pub fields-not : (w : TypeView) → v ≡ w → OneOf (0 ∷ 1 ∷ 2 ∷ 3 ∷ 5 ∷ []) (tag_of TypeViews.the_type v) → SeenRun f (field_at f) 4 (record_ty ty) None × (None ≡ fields_in w)
  fields-not w g k = (record { is = sym (no_fields f v k) ∙ ap record_ty s.is; inside = tt }, no-fields-in v k ∙ ap fields_in g)

  pub alternatives-are : (w : TypeView) → v ≡ w → (n at : ℕ) → v ≡ Tv.Union n at → SeenRun f (alternative_at f) 8 (union_ty ty) (Some (n, at)) × (Some (n, at) ≡ alternatives_in w)
  unfolding union_ty
  alternatives-are w g n at e =
      let r = subst (SeenType f ty) e s in
      (record { is = ap union_ty r.is; inside = r.inside }, ap alternatives_in (sym e ∙ g))

  pub alternatives-not : (w : TypeView) → v ≡ w → OneOf (0 ∷ 1 ∷ 2 ∷ 3 ∷ 4 ∷ []) (tag_of TypeViews.the_type v) → SeenRun f (alternative_at f) 8 (union_ty ty) None × (None ≡ alternatives_in w)
  alternatives-not w g k = (record { is = sym (no-alternatives f v k) ∙ ap union_ty s.is; inside = tt }, no-alternatives-in v k ∙ ap alternatives_in g)
