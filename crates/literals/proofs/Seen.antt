-- From what the code sees of a node or a type to the constant that a pattern stands for, and to the step that it takes.
use Prim.Native.Nat.{ℕ, zero, suc, ◌+◌, ◌*◌, ◌≤◌, ◌<◌}
use mathlib.Core.Path.{◌≡◌, refl, sym, ap, ap₂, ◌∙◌, subst}
use mathlib.Core.Bool.{Bool, true, false}
use mathlib.Core.List.{List, [], ◌∷◌}
use Rattle.std.specs.Prelude.{Option, None, Some, unwrap_or}
use native.Mathlib.Omega.{arith}
use types.Run.{OneOf, hit, miss}
use denote.Enum.Declared.{tag_of}
use lib.Dec.{eqb}
use lib.ListN.{length, get_or}
use Rattle.rules.specs.Base.{first, ◌when_some◌}
use Rattle.rules.specs.File as File
use Rattle.rules.specs.File.{Tables, Hoisted, Ty, Node, FieldTy, type_at, node_at, predicate_at, is_constant, record_fields, record_ty}
use Rattle.rules.specs.Constant as ConstantRules
use Rattle.rules.specs.Constant.{const_bound, field_pattern, only_field}
use Rattle.rules.specs.Lookup.{folded_field}
use Rattle.rules.specs.Literals.{hoisted_const, folded_node, folded, any_field, lacks_bytes, brought_meets, meets, whole_meets, key_meets, level_meets}
use Rattle.rules.proofs.Cases.{some≢none}
use Rattle.rules.proofs.Each.{each_at}
use Rattle.rules.proofs.Sound.{Passed, Sound}
use Rattle.views.specs.Views as Views
use Rattle.views.specs.Views.{run, node_of, type_of, pattern_of, pattern_at, field_at, level_entry_at, predicate_of, SeenNode, SeenType}
use Rattle.views.specs.declared.LevelEntry.{LevelEntry}
use Rattle.views.specs.declared.Predicate.{Predicate}
use Rattle.views.specs.declared.NodeView.{NodeView}
use Rattle.views.specs.declared.NodeView.TheVariants as Nv
use Rattle.views.specs.contracts.NodeView as NodeViews
use Rattle.views.specs.contracts.TypeView as TypeViews
use Rattle.views.specs.declared.TypeView.{TypeView}
use Rattle.views.specs.declared.TypeView.TheVariants as Tv
use Rattle.views.specs.declared.FieldPattern.{FieldPattern}
use Rattle.views.specs.declared.Alternative.{Alternative}
use Rattle.fields.specs.Found.{hoisted_name}
use Rattle.tables.specs.Tables.{alternative_option, SeenRun}
use Rattle.tables.proofs.Tags.{record_is, record-not}
use Rattle.field_cases.specs.Pieces.{patterns_of, open_fields, fields_for, no_field, Pieced}
use Rattle.field_cases.specs.declared.Piece.{Piece}
use Rattle.field_cases.proofs.Opens.{run_inside}
use Rattle.resolve.proofs.Steps.{Lower}
use Rattle.literals.specs.Chains.{up_by, const_up, leaf_const}
use Rattle.literals.specs.Steps.{brought_by, brought_step, chosen_step, payload_step, record_step, standing_step, field_step, Met}
use Rattle.literals.specs.declared.Step.{Step}
use Rattle.literals.specs.declared.Step.TheVariants as St
use Rattle.literals.proofs.Chains.{leaf-other, other-is, pattern-constant}

-- the Const of a hoisted node, by the name that was found
pub hoisted_by : (T : Tables) (n : ℕ) (o : Option ℕ) → o ≡ hoisted_name T n → (o when_some const_bound T.bindings) ≡ hoisted_const T n
unfolding hoisted_name hoisted_const ◌when_some◌
hoisted_by T n o e = ap (λ (o : Option ℕ). o when_some const_bound T.bindings) e ∙ go (first (λ h. eqb h.node n) T.hoisted)
  where
    go : (x : Option Hoisted) → ((x when_some λ h. Some h.name) when_some const_bound T.bindings) ≡ (x when_some λ h. const_bound T.bindings h.name)
    go None = refl
    go (Some h) = refl

-- a leaf, by its form
no-leaf : (T : Tables) (n : ℕ) (f : List ℕ) (v : NodeView) → OneOf (0 ∷ 1 ∷ 2 ∷ 4 ∷ 5 ∷ 6 ∷ 7 ∷ 8 ∷ 9 ∷ 10 ∷ 11 ∷ 12 ∷ 13 ∷ 15 ∷ 16 ∷ []) (tag_of NodeViews.the_type v) → None ≡ folded_node T (λ base. None) n (node_of f v)
unfolding folded_node ◌when_some◌
no-leaf T n f (Nv.Int at) w = refl
no-leaf T n f (Nv.Str x) w = refl
no-leaf T n f (Nv.Bytes k at) w = refl
no-leaf T n f (Nv.Var x) w = absurd (miss (0 ∷ 1 ∷ 2 ∷ 4 ∷ 5 ∷ 6 ∷ 7 ∷ 8 ∷ 9 ∷ 10 ∷ 11 ∷ 12 ∷ 13 ∷ 15 ∷ 16 ∷ []) 3 tt w)
no-leaf T n f Nv.Wildcard w = refl
no-leaf T n f Nv.Never w = refl
no-leaf T n f (Nv.Prefix x) w = refl
no-leaf T n f (Nv.Fuzzy x d a) w = refl
no-leaf T n f (Nv.Record k at) w = refl
no-leaf T n f (Nv.Access x b) w = refl
no-leaf T n f (Nv.Value b) w = refl
no-leaf T n f (Nv.Select x b) w = refl
no-leaf T n f Nv.Disjunction w = refl
no-leaf T n f Nv.Subquery w = refl
no-leaf T n f (Nv.Fact p b) w = absurd (miss (0 ∷ 1 ∷ 2 ∷ 4 ∷ 5 ∷ 6 ∷ 7 ∷ 8 ∷ 9 ∷ 10 ∷ 11 ∷ 12 ∷ 13 ∷ 15 ∷ 16 ∷ []) 14 tt w)
no-leaf T n f Nv.Arith w = refl
no-leaf T n f Nv.Error w = refl

no_access_lem : (T : Tables) (c : ℕ) (f : List ℕ) (v : NodeView) → OneOf (0 ∷ 1 ∷ 2 ∷ 3 ∷ 4 ∷ 5 ∷ 6 ∷ 7 ∷ 8 ∷ 10 ∷ 11 ∷ 12 ∷ 13 ∷ 14 ∷ 15 ∷ 16 ∷ []) (tag_of NodeViews.the_type v) → None ≡ up_by T c (node_of f v)
unfolding up_by
no_access_lem T c f (Nv.Int at) w = refl
no_access_lem T c f (Nv.Str x) w = refl
no_access_lem T c f (Nv.Bytes k at) w = refl
no_access_lem T c f (Nv.Var x) w = refl
no_access_lem T c f Nv.Wildcard w = refl
no_access_lem T c f Nv.Never w = refl
no_access_lem T c f (Nv.Prefix x) w = refl
no_access_lem T c f (Nv.Fuzzy x d a) w = refl
no_access_lem T c f (Nv.Record k at) w = refl
no_access_lem T c f (Nv.Access x b) w = absurd (miss (0 ∷ 1 ∷ 2 ∷ 3 ∷ 4 ∷ 5 ∷ 6 ∷ 7 ∷ 8 ∷ 10 ∷ 11 ∷ 12 ∷ 13 ∷ 14 ∷ 15 ∷ 16 ∷ []) 9 tt w)
no_access_lem T c f (Nv.Value b) w = refl
no_access_lem T c f (Nv.Select x b) w = refl
no_access_lem T c f Nv.Disjunction w = refl
no_access_lem T c f Nv.Subquery w = refl
no_access_lem T c f (Nv.Fact p b) w = refl
no_access_lem T c f Nv.Arith w = refl
no_access_lem T c f Nv.Error w = refl

-- only an Access has the constant of another node
no_read : (T : Tables) (n : ℕ) (f : List ℕ) (g : ℕ → Option ℕ) (v : NodeView) → OneOf (0 ∷ 1 ∷ 2 ∷ 3 ∷ 4 ∷ 5 ∷ 6 ∷ 7 ∷ 8 ∷ 10 ∷ 11 ∷ 12 ∷ 13 ∷ 14 ∷ 15 ∷ 16 ∷ []) (tag_of NodeViews.the_type v) → folded_node T (λ base. None) n (node_of f v) ≡ folded_node T g n (node_of f v)
unfolding folded_node
no_read T n f g (Nv.Int at) w = refl
no_read T n f g (Nv.Str x) w = refl
no_read T n f g (Nv.Bytes k at) w = refl
no_read T n f g (Nv.Var x) w = refl
no_read T n f g Nv.Wildcard w = refl
no_read T n f g Nv.Never w = refl
no_read T n f g (Nv.Prefix x) w = refl
no_read T n f g (Nv.Fuzzy x d a) w = refl
no_read T n f g (Nv.Record k at) w = refl
no_read T n f g (Nv.Access x b) w = absurd (miss (0 ∷ 1 ∷ 2 ∷ 3 ∷ 4 ∷ 5 ∷ 6 ∷ 7 ∷ 8 ∷ 10 ∷ 11 ∷ 12 ∷ 13 ∷ 14 ∷ 15 ∷ 16 ∷ []) 9 tt w)
no_read T n f g (Nv.Value b) w = refl
no_read T n f g (Nv.Select x b) w = refl
no_read T n f g Nv.Disjunction w = refl
no_read T n f g Nv.Subquery w = refl
no_read T n f g (Nv.Fact p b) w = refl
no_read T n f g Nv.Arith w = refl
no_read T n f g Nv.Error w = refl

module _ (f : List ℕ) (T : Tables) (n : ℕ) (v : NodeView) (s : SeenNode f (node_at T n) v) where
  pub leaf-var : is_constant T n ≡ false → (x : ℕ) → v ≡ Nv.Var x → (r : Option ℕ) → r ≡ const_bound T.bindings x → r ≡ leaf_const T n
  unfolding folded_node
  leaf-var c x e r q = leaf-other T n c r (Node.Var x) (ap (node_of f) (sym e) ∙ s.is) q

  pub leaf-fact : is_constant T n ≡ false → (w : NodeView) → v ≡ w → (r : Option ℕ) → r ≡ folded_node T (λ base. None) n (node_of f w) → r ≡ leaf_const T n
  leaf-fact c w e r q = leaf-other T n c r (node_of f w) (ap (node_of f) (sym e) ∙ s.is) q

  pub leaf-none : is_constant T n ≡ false → OneOf (0 ∷ 1 ∷ 2 ∷ 4 ∷ 5 ∷ 6 ∷ 7 ∷ 8 ∷ 9 ∷ 10 ∷ 11 ∷ 12 ∷ 13 ∷ 15 ∷ 16 ∷ []) (tag_of NodeViews.the_type v) → None ≡ leaf_const T n
  leaf-none c w = leaf-other T n c None (node_of f v) s.is (no-leaf T n f v w)

  pub up-access : (c x b : ℕ) → v ≡ Nv.Access x b → (r : Option ℕ) → r ≡ folded_field T c x → r ≡ const_up T n c
  unfolding const_up up_by
  up-access c x b e r q = q ∙ ap (up_by T c) (ap (node_of f) (sym e) ∙ s.is)

  pub up-other : (c : ℕ) → OneOf (0 ∷ 1 ∷ 2 ∷ 3 ∷ 4 ∷ 5 ∷ 6 ∷ 7 ∷ 8 ∷ 10 ∷ 11 ∷ 12 ∷ 13 ∷ 14 ∷ 15 ∷ 16 ∷ []) (tag_of NodeViews.the_type v) → None ≡ const_up T n c
  unfolding const_up
  up-other c w = no_access_lem T c f v w ∙ ap (up_by T c) s.is

  pub folded-other : Lower T → OneOf (0 ∷ 1 ∷ 2 ∷ 3 ∷ 4 ∷ 5 ∷ 6 ∷ 7 ∷ 8 ∷ 10 ∷ 11 ∷ 12 ∷ 13 ∷ 14 ∷ 15 ∷ 16 ∷ []) (tag_of NodeViews.the_type v) → (r : Option ℕ) → r ≡ leaf_const T n → r ≡ folded T n
  folded-other low w r e = e ∙ other-is T low n (λ g. subst (λ (x : Node). folded_node T (λ base. None) n x ≡ folded_node T g n x) s.is (no_read T n f g v w))

-- a constant that is brought to a type
module _ (f : List ℕ) (T : Tables) (c t : ℕ) (a : Option (ℕ × ℕ)) (pairs : SeenRun f (pattern_at f) 4 (record_fields (node_at T c)) a) where
  pub brought-plain : a ≡ None → (r : Bool) → r ≡ lacks_bytes (ConstantRules.constant T c t) → St.Known r ≡ brought_step T c t
  unfolding brought_step brought_by
  brought-plain e r q =
      ap St.Known q ∙ ap (λ (o : Option (List File.FieldPattern)). brought_by T c t o (record_ty (type_at T t))) (subst (SeenRun f (pattern_at f) 4 (record_fields (node_at T c))) e pairs).is

  module _ (n at : ℕ) (ea : a ≡ Some (n, at)) (b : Option (ℕ × ℕ)) (fields : SeenRun f (field_at f) 4 (record_ty (type_at T t)) b) where
    both-seen : (r : Option (ℕ × ℕ)) → b ≡ r → (o : Option (List FieldTy)) → o ≡ record_ty (type_at T t) → brought_by T c t (Some (run (pattern_at f) 4 n at)) o ≡ brought_step T c t
    unfolding brought_step
    both-seen r e o q = ap₂ (brought_by T c t) (subst (SeenRun f (pattern_at f) 4 (record_fields (node_at T c))) ea pairs).is q

    pub brought-lacks : b ≡ None → (r : Bool) → r ≡ lacks_bytes (ConstantRules.constant T c t) → St.Known r ≡ brought_step T c t
    unfolding brought_by
    brought-lacks e r q = ap St.Known q ∙ both-seen None e None (subst (SeenRun f (field_at f) 4 (record_ty (type_at T t))) e fields).is

    pub brought-opens : (k from : ℕ) → b ≡ Some (k, from) → St.Fields c ≡ brought_step T c t
    unfolding brought_by
    brought-opens k from e = both-seen (Some (k, from)) e (Some (run (field_at f) 4 k from)) (subst (SeenRun f (field_at f) 4 (record_ty (type_at T t))) e fields).is

-- a Record at a Union
only-other : (f : List ℕ) (at n : ℕ) → (n ≡ 1 → ⊥) → only_field (run (pattern_at f) 4 n at) ≡ None
unfolding run only_field
only-other f at zero d = refl
only-other f at (suc zero) d = absurd (d refl)
only-other f at (suc (suc m)) d = refl

module _ (f : List ℕ) (n at : ℕ) (alts : List File.Alternative) where
  abbrev only_step : Option File.FieldPattern → Step
  only_step o = elim o [ None ↦ St.Known false | Some g ↦ chosen_step g (ConstantRules.alternative_of alts g.name) ]

  pub payload-many : (n ≡ 1 → ⊥) → St.Known false ≡ payload_step (run (pattern_at f) 4 n at) alts
  unfolding payload_step
  payload-many d = ap only_step (sym (only-other f at n d))

  module _ (one : n ≡ 1) (v : FieldPattern) (e : pattern_of v ≡ pattern_at f (at + 4 * 0)) (r : Option Alternative) (q : alternative_option r ≡ ConstantRules.alternative_of alts v.name) where
    payload-by : (o : Option Alternative) → r ≡ o → chosen_step (pattern_of v) (alternative_option o) ≡ payload_step (run (pattern_at f) 4 n at) alts
    unfolding payload_step run only_field
    payload-by o d =
        let a : at + 4 * 0 ≡ at = omega arith in
        ap (λ (o : Option Alternative). chosen_step (pattern_of v) (alternative_option o)) (sym d) ∙ ap (chosen_step (pattern_of v)) q
        ∙ ap only_step (ap Some (e ∙ ap (pattern_at f) a)) ∙ ap (λ (m : ℕ). only_step (only_field (run (pattern_at f) 4 m at))) (sym one)

    pub payload-none : r ≡ None → St.Known false ≡ payload_step (run (pattern_at f) 4 n at) alts
    unfolding chosen_step
    payload-none d = payload-by None d

    pub payload-some : (a : Alternative) → r ≡ Some a → St.Payload v.node a.ty ≡ payload_step (run (pattern_at f) 4 n at) alts
    unfolding chosen_step
    payload-some a d = payload-by (Some a) d

-- a Record at a type
bytes-step : (f : List ℕ) (T : Tables) (n : ℕ) (fields : List File.FieldPattern) (v : TypeView) → OneOf (0 ∷ 1 ∷ 2 ∷ 3 ∷ []) (tag_of TypeViews.the_type v) → St.Known (is_constant T n) ≡ record_step T n fields (type_of f v)
unfolding record_step
bytes-step f T n fields Tv.Int w = refl
bytes-step f T n fields Tv.Str w = refl
bytes-step f T n fields Tv.Bytes w = refl
bytes-step f T n fields (Tv.Fact p) w = refl
bytes-step f T n fields (Tv.Record k at) w = absurd (miss (0 ∷ 1 ∷ 2 ∷ 3 ∷ []) 4 tt w)
bytes-step f T n fields (Tv.Union k at) w = absurd (miss (0 ∷ 1 ∷ 2 ∷ 3 ∷ []) 5 tt w)

module _ (f : List ℕ) (T : Tables) (n : ℕ) (fields : List File.FieldPattern) (ty : Ty) (v : TypeView) (s : SeenType f ty v) where
  pub at-type : (w : TypeView) → v ≡ w → (r : Step) → r ≡ record_step T n fields (type_of f w) → r ≡ record_step T n fields ty
  at-type w e r q = q ∙ ap (λ (w : TypeView). record_step T n fields (type_of f w)) (sym e) ∙ ap (record_step T n fields) s.is

  pub at-bytes : OneOf (0 ∷ 1 ∷ 2 ∷ 3 ∷ []) (tag_of TypeViews.the_type v) → (r : Step) → r ≡ St.Known (is_constant T n) → r ≡ record_step T n fields ty
  at-bytes w r q = q ∙ bytes-step f T n fields v w ∙ ap (record_step T n fields) s.is

-- what a pattern stands for
pub standing-none : (T : Tables) (t : ℕ) (o : Option ℕ) (r : Option ℕ) → r ≡ o → r ≡ None → St.Known false ≡ standing_step T t o
unfolding standing_step
standing-none T t o r e q = ap (standing_step T t) (sym (q) ∙ e)

pub standing-some : (T : Tables) (t : ℕ) (o : Option ℕ) (r : Option ℕ) (c : ℕ) (s : Step) → r ≡ o → r ≡ Some c → s ≡ brought_step T c t → s ≡ standing_step T t o
unfolding standing_step
standing-some T t o r c s e q h = h ∙ ap (standing_step T t) (sym (q) ∙ e)

-- a pattern at a type
module _ (f : List ℕ) (T : Tables) (n t : ℕ) (a : Option (ℕ × ℕ)) (pairs : SeenRun f (pattern_at f) 4 (record_fields (node_at T n)) a) where
  abbrev step_by : Option (List File.FieldPattern) → Step
  step_by o = elim o [ Some fields ↦ record_step T n fields (type_at T t) | None ↦ standing_step T t (folded T n) ]

  pub step-standing : a ≡ None → (r : Step) → r ≡ standing_step T t (folded T n) → r ≡ field_step T n t
  unfolding field_step
  step-standing e r q = q ∙ ap step_by (subst (SeenRun f (pattern_at f) 4 (record_fields (node_at T n))) e pairs).is

  pub step-written : (k at : ℕ) → a ≡ Some (k, at) → (r : Step) → r ≡ record_step T n (run (pattern_at f) 4 k at) (type_at T t) → r ≡ field_step T n t
  unfolding field_step
  step-written k at e r q = q ∙ ap step_by (subst (SeenRun f (pattern_at f) 4 (record_fields (node_at T n))) e pairs).is

-- the kinds but for Record, but for Access, and but for both
abbrev no_record : List ℕ
no_record = 0 ∷ 1 ∷ 2 ∷ 3 ∷ 4 ∷ 5 ∷ 6 ∷ 7 ∷ 9 ∷ 10 ∷ 11 ∷ 12 ∷ 13 ∷ 14 ∷ 15 ∷ 16 ∷ []

abbrev no_access : List ℕ
no_access = 0 ∷ 1 ∷ 2 ∷ 3 ∷ 4 ∷ 5 ∷ 6 ∷ 7 ∷ 8 ∷ 10 ∷ 11 ∷ 12 ∷ 13 ∷ 14 ∷ 15 ∷ 16 ∷ []

abbrev neither : List ℕ
neither = 0 ∷ 1 ∷ 2 ∷ 3 ∷ 4 ∷ 5 ∷ 6 ∷ 7 ∷ 10 ∷ 11 ∷ 12 ∷ 13 ∷ 14 ∷ 15 ∷ 16 ∷ []

neither-is : (v : NodeView) → OneOf neither (tag_of NodeViews.the_type v) → OneOf no_record (tag_of NodeViews.the_type v) × OneOf no_access (tag_of NodeViews.the_type v)
neither-is (Nv.Int at) w = (hit no_record 0 tt, hit no_access 0 tt)
neither-is (Nv.Str x) w = (hit no_record 1 tt, hit no_access 1 tt)
neither-is (Nv.Bytes k at) w = (hit no_record 2 tt, hit no_access 2 tt)
neither-is (Nv.Var x) w = (hit no_record 3 tt, hit no_access 3 tt)
neither-is Nv.Wildcard w = (hit no_record 4 tt, hit no_access 4 tt)
neither-is Nv.Never w = (hit no_record 5 tt, hit no_access 5 tt)
neither-is (Nv.Prefix x) w = (hit no_record 6 tt, hit no_access 6 tt)
neither-is (Nv.Fuzzy x d a) w = (hit no_record 7 tt, hit no_access 7 tt)
neither-is (Nv.Record k at) w = absurd (miss neither 8 tt w)
neither-is (Nv.Access x b) w = absurd (miss neither 9 tt w)
neither-is (Nv.Value b) w = (hit no_record 10 tt, hit no_access 10 tt)
neither-is (Nv.Select x b) w = (hit no_record 11 tt, hit no_access 11 tt)
neither-is Nv.Disjunction w = (hit no_record 12 tt, hit no_access 12 tt)
neither-is Nv.Subquery w = (hit no_record 13 tt, hit no_access 13 tt)
neither-is (Nv.Fact p b) w = (hit no_record 14 tt, hit no_access 14 tt)
neither-is Nv.Arith w = (hit no_record 15 tt, hit no_access 15 tt)
neither-is Nv.Error w = (hit no_record 16 tt, hit no_access 16 tt)

-- a pattern at a type, by its view
module _ (f : List ℕ) (T : Tables) (n t : ℕ) (v : NodeView) (s : SeenNode f (node_at T n) v) where
  pub seen-inside : (k at : ℕ) → v ≡ Nv.Record k at → at + 4 * k ≤ length f
  seen-inside k at e = run_inside f (pattern_at f) 4 _ _ (record_is f _ v s v refl k at e).0 k at refl

  pub seen-written : (k at : ℕ) → v ≡ Nv.Record k at → (r : Step) → r ≡ record_step T n (run (pattern_at f) 4 k at) (type_at T t) → r ≡ field_step T n t
  seen-written k at e r q = step-written f T n t (Some (k, at)) (record_is f _ v s v refl k at e).0 k at refl r q

  by-constant : OneOf no_record (tag_of NodeViews.the_type v) → (o : Option ℕ) → o ≡ folded T n → (r : Step) → r ≡ standing_step T t o → r ≡ field_step T n t
  by-constant w o e r q = step-standing f T n t None (record-not f _ v s v refl w).0 refl r (q ∙ ap (standing_step T t) e)

  pub seen-access : (x b : ℕ) → v ≡ Nv.Access x b → (o : Option ℕ) → o ≡ folded T n → (r : Step) → r ≡ standing_step T t o → r ≡ field_step T n t
  seen-access x b e = by-constant (subst (λ (v : NodeView). OneOf no_record (tag_of NodeViews.the_type v)) (sym e) (hit no_record 9 tt))

  module _ (low : Lower T) (w : OneOf neither (tag_of NodeViews.the_type v)) where
    pub seen-constant : (o : Option ℕ) → o ≡ leaf_const T n → o ≡ folded T n
    seen-constant o e = folded-other f T n v s low (neither-is v w).1 o e

    pub seen_other : (o : Option ℕ) → o ≡ leaf_const T n → (r : Step) → r ≡ standing_step T t o → r ≡ field_step T n t
    seen_other o e = by-constant (neither-is v w).0 o (seen-constant o e)

-- no pattern has the name
nothing-there : (x : ℕ) → field_pattern [] x ≡ None
unfolding field_pattern first ◌when_some◌
nothing-there x = refl

-- the pattern of a constant Record's field is constant
pub piece-constant : (T : Tables) (n t i : ℕ) (r : Piece) → Passed T → is_constant T n ≡ true → Pieced T n t i r → (j : ℕ) → r.pattern ≡ Some j → is_constant T j ≡ true
unfolding patterns_of
piece-constant T n t i r k c p j e = go (record_fields (node_at T n)) refl (sym p.found ∙ e)
  where
    none-there : (x : ℕ) → field_pattern [] x ≡ Some j → ⊥
    none-there x q = some≢none j (sym q ∙ nothing-there x)

    go : (ps : Option (List File.FieldPattern)) → record_fields (node_at T n) ≡ ps → field_pattern (unwrap_or (record_fields (node_at T n)) []) (get_or (fields_for T n t) i no_field).name ≡ Some j → is_constant T j ≡ true
    go None q h = absurd (none-there _ (ap (λ (o : Option (List File.FieldPattern)). field_pattern (unwrap_or o []) (get_or (fields_for T n t) i no_field).name) (sym q) ∙ h))
    go (Some fields) q h = pattern-constant T k n fields _ j c q (ap (λ (o : Option (List File.FieldPattern)). field_pattern (unwrap_or o []) (get_or (fields_for T n t) i no_field).name) (sym q) ∙ h)

-- A level's key.
module _ (f : List ℕ) (T : Tables) (t : ℕ) where
  open-same : (ps : List File.FieldPattern) (fs : Option (List FieldTy)) → open_fields (Some ps) fs ≡ unwrap_or fs []
  unfolding open_fields
  open-same ps None = refl
  open-same ps (Some fs) = refl

  abbrev key_fields : List FieldTy
  key_fields = unwrap_or (record_ty (type_at T t)) []

  -- the fields of a Record at the key's type
  any_at : (below : ℕ → ℕ → Bool) (c : ℕ) (ps : List File.FieldPattern) → record_fields (node_at T c) ≡ Some ps → any_field below (patterns_of T c) (fields_for T c t) ≡ any_field below ps key_fields
  unfolding patterns_of fields_for
  any_at below c ps e =
      ap (λ (o : Option (List File.FieldPattern)). any_field below (unwrap_or o []) (open_fields o (record_ty (type_at T t)))) e ∙ ap (any_field below ps) (open-same ps (record_ty (type_at T t)))

  pub whole-none : (o : Option ℕ) (r : Option ℕ) → r ≡ o → r ≡ None → false ≡ whole_meets T o key_fields
  unfolding whole_meets
  whole-none o r e q = ap (λ (o : Option ℕ). whole_meets T o key_fields) (sym (q) ∙ e)

  module _ (o : Option ℕ) (r : Option ℕ) (c : ℕ) (e : r ≡ o) (q : r ≡ Some c) (a : Option (ℕ × ℕ)) (pairs : SeenRun f (pattern_at f) 4 (record_fields (node_at T c)) a) where
    whole_by : (ps : Option (List File.FieldPattern)) → ps ≡ record_fields (node_at T c) → ◌≡◌ {A = Bool} (elim ps [ None ↦ true | Some fields ↦ any_field (brought_meets T (meets T)) fields key_fields ]) (whole_meets T o key_fields)
    unfolding whole_meets
    whole_by ps h =
        ap {B = Bool} (λ (x : Option (List File.FieldPattern)). elim x [ None ↦ true | Some fields ↦ any_field (brought_meets T (meets T)) fields key_fields ]) h
        ∙ ap (λ (o : Option ℕ). whole_meets T o key_fields) (sym (q) ∙ e)

    pub whole_plain : a ≡ None → true ≡ whole_meets T o key_fields
    whole_plain h = whole_by None (subst (SeenRun f (pattern_at f) 4 (record_fields (node_at T c))) h pairs).is

    pub whole-record : (n at : ℕ) → a ≡ Some (n, at) → (b : Bool) → b ≡ any_field (brought_meets T (meets T)) (patterns_of T c) (fields_for T c t) → b ≡ whole_meets T o key_fields
    whole-record n at h b k =
        let p = (subst (SeenRun f (pattern_at f) 4 (record_fields (node_at T c))) h pairs).is in
        k ∙ any_at (brought_meets T (meets T)) c (run (pattern_at f) 4 n at) (sym p) ∙ whole_by (Some (run (pattern_at f) 4 n at)) p

  module _ (n : ℕ) (y : Option (ℕ × ℕ)) (typed : SeenRun f (field_at f) 4 (record_ty (type_at T t)) y) where
    abbrev pattern_by : Option (List File.FieldPattern) → List FieldTy → Bool
    pattern_by ps fs = elim ps [ Some fields ↦ any_field (meets T) fields fs | None ↦ whole_meets T (folded T n) fs ]

    abbrev type_by : Option (List FieldTy) → Bool
    type_by o = elim o [ None ↦ meets T n t | Some fs ↦ pattern_by (record_fields (node_at T n)) fs ]

    pub key-scalar : y ≡ None → (r : Bool) → r ≡ meets T n t → r ≡ key_meets T n t
    unfolding key_meets
    key-scalar h r e = e ∙ ap type_by (subst (SeenRun f (field_at f) 4 (record_ty (type_at T t))) h typed).is

    module _ (k from : ℕ) (h : y ≡ Some (k, from)) (a : Option (ℕ × ℕ)) (pairs : SeenRun f (pattern_at f) 4 (record_fields (node_at T n)) a) where
      fields-known : Some (run (field_at f) 4 k from) ≡ record_ty (type_at T t)
      fields-known = (subst (SeenRun f (field_at f) 4 (record_ty (type_at T t))) h typed).is

      key-by : (ps : Option (List File.FieldPattern)) → ps ≡ record_fields (node_at T n) → pattern_by ps key_fields ≡ key_meets T n t
      unfolding key_meets
      key-by ps e =
          ap (λ (x : Option (List File.FieldPattern)). pattern_by x key_fields) e
          ∙ ap (λ (o : Option (List FieldTy)). pattern_by (record_fields (node_at T n)) (unwrap_or o [])) (sym fields-known)
          ∙ ap type_by fields-known

      pub key-record : (m at : ℕ) → a ≡ Some (m, at) → (r : Bool) → Met T t (λ below. any_field below (patterns_of T n) (fields_for T n t)) r → t < length T.types → r ≡ key_meets T n t
      unfolding meets
      key-record m at e r q l =
          let p = (subst (SeenRun f (pattern_at f) 4 (record_fields (node_at T n))) e pairs).is in
          q.is (length T.types) (omega arith) ∙ any_at (meets T) n (run (pattern_at f) 4 m at) (sym p) ∙ key-by (Some (run (pattern_at f) 4 m at)) p

      pub key-whole : a ≡ None → (r : Bool) → r ≡ whole_meets T (folded T n) key_fields → r ≡ key_meets T n t
      key-whole e r q = q ∙ key-by None (subst (SeenRun f (pattern_at f) 4 (record_fields (node_at T n))) e pairs).is

-- A level by its entry.
module _ (T : Tables) (v : LevelEntry) (l : File.LevelEntry) (p : Predicate) (el : Views.level_of v ≡ l) (ep : predicate_of p ≡ predicate_at T v.predicate.0) where
  key-is : p.key ≡ (predicate_at T l.predicate).key
  key-is = ap (λ (q : File.Predicate). q.key) ep ∙ ap (λ (m : File.LevelEntry). (predicate_at T m.predicate).key) el

  pub level-is : (r : Bool) → r ≡ key_meets T v.node p.key → r ≡ level_meets T l
  unfolding level_meets
  level-is r e =
      e ∙ ap (key_meets T v.node) key-is ∙ ap (λ (m : File.LevelEntry). key_meets T m.node (predicate_at T l.predicate).key) el

  pub key_in : (predicate_at T l.predicate).key < length T.types → p.key < length T.types
  key_in h = subst (λ (k : ℕ). k < length T.types) (sym key-is) h

-- the key type of a level's predicate is the file's
pub key-sound : (T : Tables) → Sound T → (k : ℕ) → k < length T.levels → (predicate_at T (level_entry_at T k).predicate).key < length T.types
unfolding level_entry_at
key-sound T s k h = s.keys _ (each_at s.levels k _ h)
