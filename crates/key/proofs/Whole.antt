-- The whole key in one pattern: what each of its forms gives, and its fields in turn.
use Prim.Native.Nat.{ℕ, suc, ◌+◌, ◌*◌, ◌≤◌, ◌<◌}
use mathlib.Core.Path.{◌≡◌, refl, sym, ap, ◌∙◌, subst}
use mathlib.Core.List.{List, [], ◌∷◌}
use Rattle.std.specs.Prelude.{Option, None, Some, unwrap_or}
use types.Run.{OneOf, miss}
use denote.Enum.Declared.{tag_of}
use native.Mathlib.Numerals.{add-one}
use native.Mathlib.Omega.{arith}
use lib.ListN.{length, get_or, drop, length-drop}
use lib.Seq.{drop-cons}
use Rattle.rules.specs.File as File
use Rattle.rules.specs.File.{Tables, type_at, node_at, record_ty, field_path}
use Rattle.rules.specs.Walk.{whole_node, whole_fields, whole_read, whole_variable, whole_key}
use Rattle.rules.proofs.Each.{each_at}
use Rattle.rules.proofs.Keeps.{record-children}
use Rattle.rules.proofs.Sound.{Sound, Child}
use Rattle.state.specs.State.{Level, Target, State}
use Rattle.state.specs.Ops.{ops, bind, skip}
use Rattle.paths.specs.Paths.{path_of, Holds}
use Rattle.paths.specs.declared.FieldPath.{FieldPath}
use Rattle.views.specs.Views.{run, field_at, field_of, node_of, SeenNode}
use Rattle.views.specs.declared.FieldTy.{FieldTy}
use Rattle.views.specs.declared.NodeView.{NodeView}
use Rattle.views.specs.declared.NodeView.TheVariants as Nv
use Rattle.views.specs.contracts.NodeView as NodeViews
use Rattle.views.proofs.Runs.{run_at, length_run}
use Rattle.slots.specs.Slots.{slot_with, slot_of, slot_option, IsSlot}
use Rattle.slots.specs.declared.Slot.{Slot}
use Rattle.slots.specs.declared.SlotKind.{SlotKind}
use Rattle.slots.specs.declared.SlotKind.TheVariants as Sk
use Rattle.slots.specs.contracts.SlotKind as SlotKinds
use Rattle.tables.specs.Tables.{SeenRun}
use Rattle.lists.specs.Lists.{state_with}
use Rattle.lists.specs.declared.Lists.{Lists}
use Rattle.walk.specs.Walk.{walk_state, lists_of}
use Rattle.walk.specs.declared.Walk.{Walk}
use Rattle.field_cases.specs.Pieces.{no_field}
use Rattle.field_cases.proofs.Starts.{looked-up}
use Rattle.key.specs.Cycle.{fields_of, whole_field}
use Rattle.key.proofs.Fields.{none_left}

-- the fields in turn, of which i are matched
pub record Matching (T : Tables) (a n t : ℕ) (slot : File.Slot) (i : ℕ) (s₀ s : State) (w₀ p₀ w p : List ℕ) : Type 0 where
  pub low : i ≤ length (fields_of T t)
  pub work-long : length w ≡ length w₀
  pub plan-long : length p ≡ length p₀
  pub is : whole_fields (ops T) T a n slot 0 (fields_of T t) s₀ ≡ whole_fields (ops T) T a n slot i (drop i (fields_of T t)) s

module _ (T : Tables) (a n t : ℕ) (slot : File.Slot) where
  pub matching-first : (s : State) (w p : List ℕ) → Matching T a n t slot 0 s s w p w p
  matching-first s w p = record { low = omega arith; work-long = refl; plan-long = refl; is = refl }

  module _ (i : ℕ) (s₀ s : State) (w₀ p₀ w p : List ℕ) (v : Matching T a n t slot i s₀ s w₀ p₀ w p) where
    matching-more : i < length (fields_of T t) → (f : File.FieldTy) → get_or (fields_of T t) i no_field ≡ f → (path : File.FieldPath) → path ≡ field_path i → (s' : State) (w' p' : List ℕ) → s' ≡ whole_field T a n slot f.name f.type path s → length w' ≡ length w → length p' ≡ length p → Matching T a n t slot (i + 1) s₀ s' w₀ p₀ w' p'
    unfolding whole_fields whole_field
    matching-more h f ef path ep s' w' p' q lw lp =
        record {
          low = omega arith;
          work-long = lw ∙ v.work-long;
          plan-long = lp ∙ v.plan-long;
          is =
              v.is
              ∙ ap (λ l. whole_fields (ops T) T a n slot i l s) (drop-cons (fields_of T t) i no_field h)
              ∙ ap (λ (x : File.FieldTy). whole_fields (ops T) T a n slot (suc i) (drop (suc i) (fields_of T t)) (whole_field T a n slot x.name x.type (field_path i) s)) ef
              ∙ ap (λ (x : File.FieldPath). whole_fields (ops T) T a n slot (suc i) (drop (suc i) (fields_of T t)) (whole_field T a n slot f.name f.type x s)) (sym ep)
              ∙ ap (whole_fields (ops T) T a n slot (suc i) (drop (suc i) (fields_of T t))) (sym q)
              ∙ ap (λ (j : ℕ). whole_fields (ops T) T a n slot j (drop j (fields_of T t)) s') (sym (add-one i));
        }

    pub matching-end : length (fields_of T t) ≤ i → s ≡ whole_fields (ops T) T a n slot 0 (fields_of T t) s₀
    unfolding whole_fields
    matching-end h = sym (v.is ∙ ap (λ l. whole_fields (ops T) T a n slot i l s) (none_left (drop i (fields_of T t)) (omega (arith, length-drop i (fields_of T t)))))

-- a Record type's fields, as the code reads them
module _ (f : List ℕ) (T : Tables) (t : ℕ) (r : Option (ℕ × ℕ)) (k : SeenRun f (field_at f) 4 (record_ty (type_at T t)) r) where
  pub matching-none : r ≡ None → (a n : ℕ) (slot : File.Slot) (s : State) → s ≡ whole_fields (ops T) T a n slot 0 (fields_of T t) s
  unfolding fields_of whole_fields
  matching-none e a n slot s = ap (λ o. whole_fields (ops T) T a n slot 0 (unwrap_or o []) s) (subst (SeenRun f (field_at f) 4 (record_ty (type_at T t))) e k).is

  module _ (m at : ℕ) (e : r ≡ Some (m, at)) where
    pub fields-inside : at + 4 * m ≤ length f
    fields-inside = (subst (SeenRun f (field_at f) 4 (record_ty (type_at T t))) e k).inside

    type-is : record_ty (type_at T t) ≡ Some (run (field_at f) 4 m at)
    type-is = sym (subst (SeenRun f (field_at f) 4 (record_ty (type_at T t))) e k).is

    fields-are : fields_of T t ≡ run (field_at f) 4 m at
    unfolding fields_of
    fields-are = ap (λ o. unwrap_or o []) type-is

    pub fields-count : m ≡ length (fields_of T t)
    fields-count = sym (ap length fields-are ∙ length_run (field_at f) 4 m at)

    module _ (i : ℕ) (h : i < m) (v : FieldTy) (ev : field_of v ≡ field_at f (at + 4 * i)) where
      field_is : get_or (fields_of T t) i no_field ≡ field_of v
      field_is = ap (λ fs. get_or fs i no_field) fields-are ∙ run_at (field_at f) 4 m at i no_field h ∙ sym ev

      pub field-known : Sound T → t < length T.types → v.ty < length T.types
      field-known S g =
          let c = each_at (record-children (Child T t) (type_at T t) (run (field_at f) 4 m at) (S.children t g) type-is) i no_field (omega (arith, length_run (field_at f) 4 m at)) in
          subst (λ (x : File.FieldTy). x.type < length T.types) (ap (λ fs. get_or fs i no_field) (sym fields-are) ∙ field_is) c.in-types

      pub matching-turn : (a n : ℕ) (slot : File.Slot) (s₀ s : State) (w₀ p₀ w p : List ℕ) → Matching T a n t slot i s₀ s w₀ p₀ w p → (q : FieldPath) → Holds q (field_path i) → (s' : State) (w' p' : List ℕ) → s' ≡ whole_field T a n slot v.name v.ty (path_of q) s → length w' ≡ length w → length p' ≡ length p → Matching T a n t slot (i + 1) s₀ s' w₀ p₀ w' p'
      matching-turn a n slot s₀ s w₀ p₀ w p g q k = matching-more T a n t slot i s₀ s w₀ p₀ w p g (omega (arith, fields-count)) (field_of v) field_is (path_of q) k.is

-- the node of a whole key's field, by the kind of its slot
node-of-kind : (n : ℕ) (kind : SlotKind) (path : FieldPath) → OneOf (0 ∷ 1 ∷ 2 ∷ 3 ∷ 4 ∷ []) (tag_of SlotKinds.the_type kind) → n ≡ whole_node n (slot_with kind path)
unfolding whole_node
node-of-kind n (Sk.Row a p) path w = refl
node-of-kind n (Sk.Key a t) path w = refl
node-of-kind n (Sk.Derived a) path w = refl
node-of-kind n (Sk.Field a t) path w = refl
node-of-kind n (Sk.Value a t) path w = refl
node-of-kind n (Sk.Const m) path w = absurd (miss (0 ∷ 1 ∷ 2 ∷ 3 ∷ 4 ∷ []) 5 tt w)

module _ (n : ℕ) (slot : Slot) where
  pub node-const : (m : ℕ) → slot.kind ≡ Sk.Const m → m ≡ whole_node n (slot_of slot)
  unfolding whole_node
  node-const m e = ap (λ (k : SlotKind). whole_node n (slot_with k slot.path)) (sym e)

  pub node-other : OneOf (0 ∷ 1 ∷ 2 ∷ 3 ∷ 4 ∷ []) (tag_of SlotKinds.the_type slot.kind) → n ≡ whole_node n (slot_of slot)
  node-other w = node-of-kind n slot.kind slot.path w

-- a variable, by whether its name is bound
module _ (T : Tables) (a x n t : ℕ) (fs : List File.FieldTy) (s₀ : State) (m : Option Slot) (k : slot_option m ≡ (ops T).lookup s₀ x) (s : State) where
  abbrev asks : Option File.Slot → State
  asks o = elim o [ None ↦ bind x (File.Slot.Key a t) (skip s₀) | Some slot ↦ whole_read (ops T) T a n fs s₀ ]

  pub whole-bound : {slot : Slot} → m ≡ Some slot → s ≡ whole_read (ops T) T a n fs s₀ → s ≡ whole_variable (ops T) T a x n t fs s₀
  unfolding whole_variable
  whole-bound e q = q ∙ ap asks (ap slot_option (sym e) ∙ k)

  pub whole-new : m ≡ None → (slot : File.Slot) (s₁ : State) → slot ≡ File.Slot.Key a t → s₁ ≡ skip s₀ → s ≡ bind x slot s₁ → s ≡ whole_variable (ops T) T a x n t fs s₀
  unfolding whole_variable
  whole-new e slot s₁ es e₁ q = q ∙ ap (bind x slot) e₁ ∙ ap (λ (y : File.Slot). bind x y (skip s₀)) es ∙ ap asks (ap slot_option (sym e) ∙ k)

-- the same of walks: l are the lists of the walk w
module _ (T : Tables) (a x n t : ℕ) (fs : List File.FieldTy) (w : Walk) (work plan : List ℕ) where
  abbrev walk-asks : Option File.Slot → State
  walk-asks o = elim o [ None ↦ bind x (File.Slot.Key a t) (skip (walk_state T w work plan)) | Some slot ↦ whole_read (ops T) T a n fs (walk_state T w work plan) ]

  asked : (m : Option Slot) (l : Lists) → l ≡ lists_of w → ((level : Level) (g : Target) (p : List ℕ) → IsSlot ((ops T).lookup (state_with l level g work p) x) m) → (o : Option Slot) → m ≡ o → walk-asks (slot_option o) ≡ whole_variable (ops T) T a x n t fs (walk_state T w work plan)
  unfolding whole_variable
  asked m l el f o e = ap walk-asks (ap slot_option (sym e) ∙ looked-up T x m w l work plan el f)

  pub bound-walks : (s : State) → s ≡ whole_read (ops T) T a n fs (walk_state T w work plan) → (m : Option Slot) (l : Lists) → l ≡ lists_of w → ((level : Level) (g : Target) (p : List ℕ) → IsSlot ((ops T).lookup (state_with l level g work p) x) m) → {slot : Slot} → m ≡ Some slot → s ≡ whole_variable (ops T) T a x n t fs (walk_state T w work plan)
  bound-walks s q m l el f {slot} e = q ∙ asked m l el f (Some slot) e

  pub new-walks : (slot : File.Slot) (w₁ w₂ : Walk) (work₂ : List ℕ) → ((U : Tables) (p : List ℕ) → walk_state U w₂ work₂ p ≡ bind x slot (walk_state U w₁ work p)) → ((U : Tables) (y p : List ℕ) → walk_state U w₁ y p ≡ skip (walk_state U w y p)) → slot ≡ File.Slot.Key a t → (m : Option Slot) (l : Lists) → l ≡ lists_of w → ((level : Level) (g : Target) (p : List ℕ) → IsSlot ((ops T).lookup (state_with l level g work p) x) m) → m ≡ None → walk_state T w₂ work₂ plan ≡ whole_variable (ops T) T a x n t fs (walk_state T w work plan)
  new-walks slot w₁ w₂ work₂ q e₁ es m l el f e = q T plan ∙ ap (bind x slot) (e₁ T work plan) ∙ ap (λ (y : File.Slot). bind x y (skip (walk_state T w work plan))) es ∙ asked m l el f None e

-- the kinds that are read
reads_as : (T : Tables) (a : ℕ) (f : List ℕ) (v : NodeView) (n t : ℕ) (fs : List File.FieldTy) (s : State) → OneOf (0 ∷ 1 ∷ 2 ∷ 5 ∷ 6 ∷ 7 ∷ 8 ∷ 9 ∷ 10 ∷ 11 ∷ 12 ∷ 13 ∷ 14 ∷ 15 ∷ 16 ∷ []) (tag_of NodeViews.the_type v) → whole_read (ops T) T a n fs s ≡ whole_key (ops T) T a (node_of f v) n t fs s
unfolding whole_key
reads_as T a f (Nv.Int at) n t fs s w = refl
reads_as T a f (Nv.Str x) n t fs s w = refl
reads_as T a f (Nv.Bytes i at) n t fs s w = refl
reads_as T a f (Nv.Var x) n t fs s w = absurd (miss (0 ∷ 1 ∷ 2 ∷ 5 ∷ 6 ∷ 7 ∷ 8 ∷ 9 ∷ 10 ∷ 11 ∷ 12 ∷ 13 ∷ 14 ∷ 15 ∷ 16 ∷ []) 3 tt w)
reads_as T a f Nv.Wildcard n t fs s w = absurd (miss (0 ∷ 1 ∷ 2 ∷ 5 ∷ 6 ∷ 7 ∷ 8 ∷ 9 ∷ 10 ∷ 11 ∷ 12 ∷ 13 ∷ 14 ∷ 15 ∷ 16 ∷ []) 4 tt w)
reads_as T a f Nv.Never n t fs s w = refl
reads_as T a f (Nv.Prefix x) n t fs s w = refl
reads_as T a f (Nv.Fuzzy x d y) n t fs s w = refl
reads_as T a f (Nv.Record i at) n t fs s w = refl
reads_as T a f (Nv.Access x i) n t fs s w = refl
reads_as T a f (Nv.Value i) n t fs s w = refl
reads_as T a f (Nv.Select x i) n t fs s w = refl
reads_as T a f Nv.Disjunction n t fs s w = refl
reads_as T a f Nv.Subquery n t fs s w = refl
reads_as T a f (Nv.Fact p i) n t fs s w = refl
reads_as T a f Nv.Arith n t fs s w = refl
reads_as T a f Nv.Error n t fs s w = refl

module _ (f : List ℕ) (T : Tables) (a n t : ℕ) (fs : List File.FieldTy) (s₀ : State) (v : NodeView) (k : SeenNode f (node_at T n) v) (s : State) where
  seen_as : (w : NodeView) → v ≡ w → whole_key (ops T) T a (node_of f w) n t fs s₀ ≡ whole_key (ops T) T a (node_at T n) n t fs s₀
  seen_as w e = ap (λ x. whole_key (ops T) T a x n t fs s₀) (ap (node_of f) (sym e) ∙ k.is)

  pub whole-var : (x : ℕ) → v ≡ Nv.Var x → s ≡ whole_variable (ops T) T a x n t fs s₀ → s ≡ whole_key (ops T) T a (node_at T n) n t fs s₀
  unfolding whole_key
  whole-var x e q = q ∙ seen_as (Nv.Var x) e

  pub whole-wildcard : v ≡ Nv.Wildcard → s ≡ skip s₀ → s ≡ whole_key (ops T) T a (node_at T n) n t fs s₀
  unfolding whole_key
  whole-wildcard e q = q ∙ seen_as Nv.Wildcard e

  pub whole-other : OneOf (0 ∷ 1 ∷ 2 ∷ 5 ∷ 6 ∷ 7 ∷ 8 ∷ 9 ∷ 10 ∷ 11 ∷ 12 ∷ 13 ∷ 14 ∷ 15 ∷ 16 ∷ []) (tag_of NodeViews.the_type v) → s ≡ whole_read (ops T) T a n fs s₀ → s ≡ whole_key (ops T) T a (node_at T n) n t fs s₀
  whole-other w q = q ∙ reads_as T a f v n t fs s₀ w ∙ seen_as v refl
