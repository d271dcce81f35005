-- An answer of the code is what the written rules give: for each form of a read, from what its parts give.
use Prim.Native.Nat.{ℕ, ◌≤◌, ◌<◌}
use mathlib.Core.Path.{◌≡◌, refl, sym, ap, ◌∙◌, subst}
use mathlib.Core.Bool.{Bool, true, false}
use mathlib.Core.List.{List, [], ◌∷◌}
use Rattle.std.proofs.lemmas.Option.{some_pair_parts}
use Rattle.std.specs.Prelude.{Option, None, Some}
use native.Mathlib.Omega.{arith}
use mathlib.Core.Logic.{⊎_elim}
use lib.Dec.{eqb}
use types.Run.{OneOf, miss}
use denote.Enum.Declared.{tag_of}
use lib.ListN.{length, get_or-eq_default}
use Rattle.rules.specs.Limits.{step_limit}
use Rattle.rules.specs.Base.{Each, more, first, ◌when_some◌}
use Rattle.rules.specs.File as File
use Rattle.rules.specs.File.{Tables, Ty, Node, Alternative, Hoisted, type_at, node_at, child_nodes, constants, is_constant, fact_ty, union_ty, then, payload}
use Rattle.rules.specs.Constant.{alternative_of}
use Rattle.rules.proofs.Cases.{some≢none}
use Rattle.rules.specs.Lookup.{field_of, slot_at, row_field, fetched_register, hoisted_slot}
use Rattle.rules.specs.Events.{Code}
use Rattle.rules.specs.Resolve as ResolveRules
use Rattle.rules.specs.Resolve.{Resolver, follow, ◌when_found◌, give, declined, fetched_row, dereference, field_of_row, field_slot, value_slot, selected, select_slot, resolve_node, resolve}
use Rattle.state.specs.State.{Level, Target, State, new_level, no_target}
use Rattle.state.specs.Ops as Ops
use Rattle.state.specs.Ops.{ops}
use Rattle.slots.specs.Slots.{slot_with, slot_of, slot_option, cleared, field_slot as slot_of_field, tidied, IsSlot, SlotRoom}
use Rattle.slots.proofs.Tidy.{no-slot, field_is, slot-as}
use Rattle.slots.specs.declared.Slot.{Slot}
use Rattle.slots.specs.declared.SlotKind.{SlotKind}
use Rattle.slots.specs.declared.SlotKind.TheVariants as Sk
use Rattle.slots.specs.contracts.SlotKind as SlotKinds
use Rattle.paths.specs.Paths.{path_of}
use Rattle.paths.specs.declared.Address.{Address}
use Rattle.paths.specs.declared.FieldPath.{FieldPath}
use Rattle.file.proofs.Readers.{lt-or-le}
use Rattle.views.specs.Views.{node_of, SeenNode}
use Rattle.views.specs.declared.NodeView.{NodeView}
use Rattle.views.specs.declared.NodeView.TheVariants as Nv
use Rattle.views.specs.contracts.NodeView as NodeViews
use Rattle.fields.specs.Found.{hoisted_name}
use Rattle.tables.specs.Tables.{SeenRun}
use Rattle.fields.proofs.Slots.{counts}
use Rattle.lists.specs.Lists.{state_with}
use Rattle.lists.specs.declared.Lists.{Lists}
use Rattle.resolve.specs.Resolved.{given, found, answer_with, answer_of, Answers, Follows, GivenSlotRoom, base_of, read_slot, read_past, field_past, leaf_slot, leaf_at}
use Rattle.resolve.specs.declared.Answer.{Answer}
use Rattle.resolve.specs.declared.Read.{Read}
use Rattle.resolve.specs.declared.Read.TheVariants.{Key, Select}
use Rattle.resolve.proofs.Steps.{Lower, constants-length, resolve-step}

pub seen-run : {A : Type 0} {f : List ℕ} {at : ℕ → A} {w : ℕ} {o : Option (List A)} {r r' : Option (ℕ × ℕ)} → r ≡ r' → SeenRun f at w o r → SeenRun f at w o r'
seen-run {A} {f} {at} {w} {o} {r} {r'} e s = subst (SeenRun f at w o) e s

-- a path that counts fewer steps than it may
pub count-below : (q p : FieldPath) → path_of q ≡ path_of p → q.count ≤ step_limit → length q.steps ≡ step_limit → length (path_of p).steps < step_limit → q.count < step_limit
count-below q p e h l g = omega (arith, counts step_limit q h l, ap (λ (p : File.FieldPath). length p.steps) e, g)

-- what the rules choose by a reference's predicate, by a union's alternatives, and by a node's constancy
abbrev below : Tables → ℕ → ℕ → File.FieldPath → ℕ → ℕ → Option ℕ → Resolver State
below T n a p t x o =
    elim o [
      | None ↦ give (slot_at a (then p) (field_of (type_at T t) x))
      | Some q ↦ dereference (ops T) T n (File.Slot.Field a p t) when_found λ row. field_of_row (ops T) T x row
    ]

abbrev reference : Tables → ℕ → ℕ → File.FieldPath → ℕ → Option ℕ → Resolver State
reference T n a p t o = elim o [ None ↦ give (Some (File.Slot.Field a p t)) | Some q ↦ fetched_row (ops T) T n q (fetched_register T a p) ]

abbrev value_reference : Tables → ℕ → ℕ → ℕ → Option ℕ → Resolver State
value_reference T n a t o = elim o [ None ↦ give (Some (File.Slot.Value a t)) | Some q ↦ declined (ops T) T n Code.NyiFactField ]

abbrev alternative : Tables → ℕ → ℕ → File.FieldPath → ℕ → Option (List Alternative) → Resolver State
alternative T n a p x o = elim o [ None ↦ declined (ops T) T n Code.NyiFactField | Some alts ↦ selected (ops T) T a p (alternative_of alts x) ]

abbrev chosen : Tables → ℕ → Bool → Resolver State
chosen T n b = elim b [ true ↦ give (Some (File.Slot.Const n)) | false ↦ resolve_node (ops T) T (resolve (ops T) T) n (node_at T n) ]

fact-no-union : (ty : Ty) (q : ℕ) → fact_ty ty ≡ Some q → union_ty ty ≡ None
unfolding fact_ty union_ty
fact-no-union Ty.Int q e = refl
fact-no-union Ty.Str q e = refl
fact-no-union Ty.Bytes q e = refl
fact-no-union (Ty.Fact p) q e = refl
fact-no-union (Ty.Record fs) q e = refl
fact-no-union (Ty.Union alts) q e = absurd (some≢none q (sym e))

-- a slot that was found, with the lists as they were
pub gives-is : {l : Lists} {w : List ℕ} {r : Answer} {f : Option Slot} {x : Option File.Slot} → r ≡ answer_with f l → IsSlot x f → Answers (give x) l w r w
unfolding give
gives-is {l} {w} {r} {f} {x} e h =
    record {
      is = λ level target plan.
          ap (λ (a : Answer). answer_of a level target w plan) e ∙ ap (λ (o : Option File.Slot). record { slot = o; walk = state_with l level target w plan }) h.is;
      tidy = ap found e ∙ h.tidy ∙ ap (λ (a : Answer). tidied (found a)) (sym e);
    }

module _ {l : Lists} {w : List ℕ} {r : Answer} {w' : List ℕ} where
  -- nothing, and a diagnostic
  pub declined-is : (T : Tables) (n : ℕ) (code : Code) {f : Option Slot} {m : Lists}
      → ((level : Level) (target : Target) (plan : List ℕ) → state_with m level target w' plan ≡ Ops.report n code (state_with l level target w plan)) → f ≡ None → r ≡ answer_with f m → Answers (declined (ops T) T n code) l w r w'
  unfolding declined give
  declined-is T n code e f h =
      let a = gives-is {w = w'} h (no-slot f) in
      record { is = λ level target plan. a.is level target plan ∙ ap (λ (s : State). record { slot = None; walk = s }) (e level target plan); tidy = a.tidy }

  -- a select, and its payload
  pub selected-is : (T : Tables) (a : Address) (p : File.FieldPath) (q : FieldPath) (alt : Alternative) {o : Option Alternative} {f : Option Slot} {s : Slot} {m : Lists}
      → ((level : Level) (target : Target) (plan : List ℕ) → state_with m level target w' plan ≡ Ops.select a.0 p alt.disc (state_with l level target w plan)) → f ≡ Some s → s ≡ slot_of_field a q alt.type → path_of q ≡ payload p alt.disc → q ≡ cleared q
      → o ≡ Some alt → r ≡ answer_with f m → Answers (selected (ops T) T a.0 p o) l w r w'
  unfolding selected give
  selected-is T a p q alt {o} {f} {s} {m} e u v x k y h =
      let b = gives-is {w = w'} h (slot-as (field_is s a q alt.type u v k) (ap (λ (q : File.FieldPath). Some (File.Slot.Field a.0 q alt.type)) x)) in
      subst (λ (o : Option Alternative). Answers (selected (ops T) T a.0 p o) l w r w') (sym y)
      (record {
        is = λ level target plan.
            b.is level target plan
            ∙ ap (λ (t : State). record { slot = Some (File.Slot.Field a.0 (payload p alt.disc) alt.type); walk = t }) (e level target plan);
        tidy = b.tidy;
      })

  pub none-selected : (T : Tables) (a : ℕ) (p : File.FieldPath) {o : Option Alternative} → o ≡ None → Answers (give None) l w r w' → Answers (selected (ops T) T a p o) l w r w'
  unfolding selected
  none-selected T a p e h = subst (λ (o : Option Alternative). Answers (selected (ops T) T a p o) l w r w') (sym e) h

  pub fetched-at : (T : Tables) (n p : ℕ) {x y : Option ℕ} → x ≡ y → Answers (fetched_row (ops T) T n p y) l w r w' → Answers (fetched_row (ops T) T n p x) l w r w'
  fetched-at T n p e h = subst (λ (x : Option ℕ). Answers (fetched_row (ops T) T n p x) l w r w') (sym e) h

  -- a field of a row that a reference names
  module _ (T : Tables) (n p x : ℕ) {g : Option ℕ} where
    pub row_at : {o : Option ℕ} → g ≡ o → Answers (fetched_row (ops T) T n p o when_found field_of_row (ops T) T x) l w r w' → Answers (fetched_row (ops T) T n p g when_found field_of_row (ops T) T x) l w r w'
    row_at e h = subst (λ (g : Option ℕ). Answers (fetched_row (ops T) T n p g when_found field_of_row (ops T) T x) l w r w') (sym e) h

    pub no-row-field : g ≡ None → Answers (declined (ops T) T n Code.NyiFactField) l w r w' → Answers (fetched_row (ops T) T n p g when_found field_of_row (ops T) T x) l w r w'
    unfolding fetched_row ◌when_found◌ follow declined
    no-row-field e h = row_at {o = None} e h

    pub row_field_lem : (a : ℕ) → g ≡ Some a → Answers (give (row_field T a (Some p) x)) l w r w' → Answers (fetched_row (ops T) T n p g when_found field_of_row (ops T) T x) l w r w'
    unfolding fetched_row ◌when_found◌ follow give field_of_row
    row_field_lem a e h = row_at {o = Some a} e h

  module _ (T : Tables) (n : ℕ) where
    -- a read of a slot whose kind is known
    pub dereference-at : {x y : File.Slot} → x ≡ y → Answers (dereference (ops T) T n y) l w r w' → Answers (dereference (ops T) T n x) l w r w'
    dereference-at e h = subst (λ (x : File.Slot). Answers (dereference (ops T) T n x) l w r w') (sym e) h

    pub field_at : (name : ℕ) {x y : File.Slot} → x ≡ y → Answers (field_slot (ops T) T n y name) l w r w' → Answers (field_slot (ops T) T n x name) l w r w'
    field_at name e h = subst (λ (x : File.Slot). Answers (field_slot (ops T) T n x name) l w r w') (sym e) h

    pub select-at : (name : ℕ) {x y : File.Slot} → x ≡ y → Answers (select_slot (ops T) T n y name) l w r w' → Answers (select_slot (ops T) T n x name) l w r w'
    select-at name e h = subst (λ (x : File.Slot). Answers (select_slot (ops T) T n x name) l w r w') (sym e) h

    -- a Field or a Value of a type that is a reference or none
    pub plain-field : (a : ℕ) (p : File.FieldPath) (t : ℕ) → fact_ty (type_at T t) ≡ None → Answers (give (Some (File.Slot.Field a p t))) l w r w' → Answers (dereference (ops T) T n (File.Slot.Field a p t)) l w r w'
    unfolding dereference
    plain-field a p t e h =
        subst (λ (o : Option ℕ). Answers (reference T n a p t o) l w r w') (sym e) h

    pub fact-field : (a : ℕ) (p : File.FieldPath) (t q : ℕ) → fact_ty (type_at T t) ≡ Some q → Answers (fetched_row (ops T) T n q (fetched_register T a p)) l w r w' → Answers (dereference (ops T) T n (File.Slot.Field a p t)) l w r w'
    unfolding dereference
    fact-field a p t q e h =
        subst (λ (o : Option ℕ). Answers (reference T n a p t o) l w r w') (sym e) h

    pub plain_value : (a t : ℕ) → fact_ty (type_at T t) ≡ None → Answers (give (Some (File.Slot.Value a t))) l w r w' → Answers (dereference (ops T) T n (File.Slot.Value a t)) l w r w'
    unfolding dereference
    plain_value a t e h =
        subst (λ (o : Option ℕ). Answers (value_reference T n a t o) l w r w') (sym e) h

    pub fact-value : (a t q : ℕ) → fact_ty (type_at T t) ≡ Some q → Answers (declined (ops T) T n Code.NyiFactField) l w r w' → Answers (dereference (ops T) T n (File.Slot.Value a t)) l w r w'
    unfolding dereference
    fact-value a t q e h =
        subst (λ (o : Option ℕ). Answers (value_reference T n a t o) l w r w') (sym e) h

    pub plain-below : (a : ℕ) (p : File.FieldPath) (t x : ℕ) → fact_ty (type_at T t) ≡ None → Answers (give (slot_at a (then p) (field_of (type_at T t) x))) l w r w' → Answers (field_slot (ops T) T n (File.Slot.Field a p t) x) l w r w'
    unfolding field_slot
    plain-below a p t x e h = subst (λ (o : Option ℕ). Answers (below T n a p t x o) l w r w') (sym e) h

    pub fact-below : (a : ℕ) (p : File.FieldPath) (t x q : ℕ) → fact_ty (type_at T t) ≡ Some q → Answers (fetched_row (ops T) T n q (fetched_register T a p) when_found field_of_row (ops T) T x) l w r w' → Answers (field_slot (ops T) T n (File.Slot.Field a p t) x) l w r w'
    unfolding field_slot dereference
    fact-below a p t x q e h =
        subst (λ (o : Option ℕ). Answers (below T n a p t x o) l w r w') (sym e)
        (subst (λ (o : Option ℕ). Answers (reference T n a p t o when_found field_of_row (ops T) T x) l w r w') (sym e) h)

    pub no-union : (a : ℕ) (p : File.FieldPath) (t x : ℕ) → None ≡ union_ty (type_at T t) → Answers (declined (ops T) T n Code.NyiFactField) l w r w' → Answers (select_slot (ops T) T n (File.Slot.Field a p t) x) l w r w'
    unfolding select_slot
    no-union a p t x e h = subst (λ (o : Option (List Alternative)). Answers (alternative T n a p x o) l w r w') e h

    pub of-union : (a : ℕ) (p : File.FieldPath) (t x : ℕ) (alts : List Alternative) {o : Option Alternative} → Some alts ≡ union_ty (type_at T t) → o ≡ alternative_of alts x → Answers (selected (ops T) T a p o) l w r w'
        → Answers (select_slot (ops T) T n (File.Slot.Field a p t) x) l w r w'
    unfolding select_slot
    of-union a p t x alts e g h =
        subst (λ (o : Option (List Alternative)). Answers (alternative T n a p x o) l w r w') e (subst (λ (o : Option Alternative). Answers (selected (ops T) T a p o) l w r w') g h)

  pub value-at : (T : Tables) {x y : File.Slot} → x ≡ y → Answers (value_slot (ops T) T y) l w r w' → Answers (value_slot (ops T) T x) l w r w'
  value-at T e h = subst (λ (x : File.Slot). Answers (value_slot (ops T) T x) l w r w') (sym e) h

  -- one read after another
  pub next-is : {g : Resolver State} {h : File.Slot → Resolver State} (a : Answer) {v : List ℕ} → Answers g l w a v → Follows h a v r w' → Answers (g when_found h) l w r w'
  unfolding ◌when_found◌
  next-is {g} {h} a e k = record { is = λ level target plan. k.is level target plan ∙ ap (λ (a : ResolveRules.Answer State). follow a h) (e.is level target plan); tidy = k.tidy }

  -- a field of a row's value side, past a reference
  module _ (T : Tables) (n a t x : ℕ) where
    pub plain-value-field : fact_ty (type_at T t) ≡ None → Answers (declined (ops T) T n Code.NyiValueField) l w r w' → Answers (field_past T n x (File.Slot.Value a t)) l w r w'
    unfolding dereference ◌when_found◌ follow give field_slot
    plain-value-field e h = subst (λ (o : Option ℕ). Answers (value_reference T n a t o when_found read_slot T n (Key x)) l w r w') (sym e) h

    pub fact-value-field : (q : ℕ) → fact_ty (type_at T t) ≡ Some q → Answers (declined (ops T) T n Code.NyiFactField) l w r w' → Answers (field_past T n x (File.Slot.Value a t)) l w r w'
    unfolding dereference ◌when_found◌ follow declined
    fact-value-field q e h = subst (λ (o : Option ℕ). Answers (value_reference T n a t o when_found read_slot T n (Key x)) l w r w') (sym e) h

-- a node that reads of no other
pub leaf-is : {l : Lists} {w : List ℕ} {r : Answer} (T : Tables) (n : ℕ) (node : Node) {f : Option Slot} → ((level : Level) (target : Target) (plan : List ℕ) → IsSlot (leaf_slot T ((ops T).lookup (state_with l level target w plan)) n node) f) → r ≡ answer_with f l
    → Answers (λ s. record { slot = leaf_slot T ((ops T).lookup s) n node; walk = s }) l w r w
unfolding give
leaf-is {l} {w} {r} T n node e h =
    record { is = λ level target plan. (gives-is {w = w} h (e level target plan)).is level target plan; tidy = (gives-is {w = w} h (e new_level no_target [])).tidy }

-- a read that goes on from an answer
module _ {g : File.Slot → Resolver State} {a : Answer} {w : List ℕ} where
  pub follows-none : {r : Answer} {f : Option Slot} → a.slot ≡ None → f ≡ None → r ≡ answer_with f a.lists → Follows g a w r w
  unfolding follow give
  follows-none {r} {f} e u h =
      let b = gives-is {w = w} h (no-slot u) in
      record {
        is = λ level target plan.
            b.is level target plan
            ∙ ap (λ (o : Option Slot). follow (record { slot = slot_option o; walk = state_with a.lists level target w plan }) g) (sym e);
        tidy = b.tidy;
      }

  pub follows-some : {r : Answer} {w' : List ℕ} {s : Slot} → a.slot ≡ Some s → Answers (g (slot_of s)) a.lists w r w' → Follows g a w r w'
  unfolding follow
  follows-some {r} {w'} {s} e h =
      record {
        is = λ level target plan.
            h.is level target plan
            ∙ ap (λ (o : Option Slot). follow (record { slot = slot_option o; walk = state_with a.lists level target w plan }) g) (sym e);
        tidy = h.tidy;
      }

-- what an answer gave fits
pub rooms-of : (T : Tables) (a : Answer) {s : Slot} → a.slot ≡ Some s → GivenSlotRoom T (given a) → SlotRoom T (slot_of s)
rooms-of T a {s} e h = h (slot_of s) (ap slot_option e)

-- a node by what it reads of
abbrev pub step_by : Tables → (ℕ → Resolver State) → ℕ → Node → Option (Read × ℕ) → Resolver State
step_by T f n node None = λ s. record { slot = leaf_slot T ((ops T).lookup s) n node; walk = s }
step_by T f n node (Some (read, b)) = f b when_found read_past T n read

by-base : (T : Tables) (f : ℕ → Resolver State) (n : ℕ) (node : Node) (s : State) → step_by T f n node (base_of node) s ≡ resolve_node (ops T) T f n node s
unfolding base_of leaf_slot resolve_node give ◌when_found◌
by-base T f n (Node.Int bytes) s = refl
by-base T f n (Node.Str x) s = refl
by-base T f n (Node.Bytes bytes) s = refl
by-base T f n (Node.Var x) s = refl
by-base T f n Node.Wildcard s = refl
by-base T f n Node.Never s = refl
by-base T f n (Node.Prefix x) s = refl
by-base T f n (Node.Fuzzy x d a) s = refl
by-base T f n (Node.Record fs) s = refl
by-base T f n (Node.Access x b) s = refl
by-base T f n (Node.Value b) s = refl
by-base T f n (Node.Select x b) s = refl
by-base T f n Node.Disjunction s = refl
by-base T f n Node.Subquery s = refl
by-base T f n (Node.Fact p b) s = refl
by-base T f n Node.Arith s = refl
by-base T f n Node.Error s = refl

-- `resolve` of a node by its constancy
module _ (T : Tables) (lower : Lower T) (n : ℕ) (s : State) where
  pub resolve-constant : is_constant T n ≡ true → resolve (ops T) T n s ≡ give (Some (File.Slot.Const n)) s
  resolve-constant e = resolve-step (ops T) T lower n s ∙ ap (λ (b : Bool). chosen T n b s) e

  pub resolve-other : is_constant T n ≡ false → resolve (ops T) T n s ≡ step_by T (resolve (ops T) T) n (node_at T n) (base_of (node_at T n)) s
  resolve-other e = resolve-step (ops T) T lower n s ∙ ap (λ (b : Bool). chosen T n b s) e ∙ sym (by-base T (resolve (ops T) T) n (node_at T n) s)

-- the kinds of node that read of no other, and those that have no slot by themselves
abbrev readless : List ℕ
readless = 0 ∷ 1 ∷ 2 ∷ 3 ∷ 4 ∷ 5 ∷ 6 ∷ 7 ∷ 8 ∷ 12 ∷ 13 ∷ 14 ∷ 15 ∷ 16 ∷ []

abbrev slotless : List ℕ
slotless = 0 ∷ 1 ∷ 2 ∷ 4 ∷ 5 ∷ 6 ∷ 7 ∷ 8 ∷ 9 ∷ 10 ∷ 11 ∷ 12 ∷ 13 ∷ 15 ∷ 16 ∷ []

no_base_in : (f : List ℕ) (v : NodeView) → OneOf readless (tag_of NodeViews.the_type v) → None ≡ base_of (node_of f v)
unfolding base_of
no_base_in f (Nv.Int at) w = refl
no_base_in f (Nv.Str x) w = refl
no_base_in f (Nv.Bytes n at) w = refl
no_base_in f (Nv.Var x) w = refl
no_base_in f Nv.Wildcard w = refl
no_base_in f Nv.Never w = refl
no_base_in f (Nv.Prefix x) w = refl
no_base_in f (Nv.Fuzzy x d a) w = refl
no_base_in f (Nv.Record n at) w = refl
no_base_in f (Nv.Access x b) w = absurd (miss readless 9 tt w)
no_base_in f (Nv.Value b) w = absurd (miss readless 10 tt w)
no_base_in f (Nv.Select x b) w = absurd (miss readless 11 tt w)
no_base_in f Nv.Disjunction w = refl
no_base_in f Nv.Subquery w = refl
no_base_in f (Nv.Fact p b) w = refl
no_base_in f Nv.Arith w = refl
no_base_in f Nv.Error w = refl

no_slot_in : (T : Tables) (lookup : ℕ → Option File.Slot) (n : ℕ) (f : List ℕ) (v : NodeView) → OneOf slotless (tag_of NodeViews.the_type v) → None ≡ leaf_slot T lookup n (node_of f v)
unfolding leaf_slot
no_slot_in T lookup n f (Nv.Int at) w = refl
no_slot_in T lookup n f (Nv.Str x) w = refl
no_slot_in T lookup n f (Nv.Bytes m at) w = refl
no_slot_in T lookup n f (Nv.Var x) w = absurd (miss slotless 3 tt w)
no_slot_in T lookup n f Nv.Wildcard w = refl
no_slot_in T lookup n f Nv.Never w = refl
no_slot_in T lookup n f (Nv.Prefix x) w = refl
no_slot_in T lookup n f (Nv.Fuzzy x d a) w = refl
no_slot_in T lookup n f (Nv.Record m at) w = refl
no_slot_in T lookup n f (Nv.Access x b) w = refl
no_slot_in T lookup n f (Nv.Value b) w = refl
no_slot_in T lookup n f (Nv.Select x b) w = refl
no_slot_in T lookup n f Nv.Disjunction w = refl
no_slot_in T lookup n f Nv.Subquery w = refl
no_slot_in T lookup n f (Nv.Fact p b) w = absurd (miss slotless 14 tt w)
no_slot_in T lookup n f Nv.Arith w = refl
no_slot_in T lookup n f Nv.Error w = refl

-- a node that was seen as a view
module _ {f : List ℕ} {node : Node} {v : NodeView} (w : NodeView) where
  pub base-seen : SeenNode f node v → v ≡ w → base_of (node_of f w) ≡ base_of node
  base-seen s e = ap (λ (w : NodeView). base_of (node_of f w)) (sym e) ∙ ap base_of s.is

  pub leaf-seen : (T : Tables) (lookup : ℕ → Option File.Slot) (n : ℕ) → SeenNode f node v → v ≡ w → leaf_slot T lookup n (node_of f w) ≡ leaf_slot T lookup n node
  leaf-seen T lookup n s e = ap (λ (w : NodeView). leaf_slot T lookup n (node_of f w)) (sym e) ∙ ap (leaf_slot T lookup n) s.is

module _ {f : List ℕ} {node : Node} {v : NodeView} (s : SeenNode f node v) where
  pub base-none : OneOf readless (tag_of NodeViews.the_type v) → None ≡ base_of node
  base-none w = no_base_in f v w ∙ ap base_of s.is

  pub leaf-none : (T : Tables) (lookup : ℕ → Option File.Slot) (n : ℕ) → OneOf slotless (tag_of NodeViews.the_type v) → None ≡ leaf_slot T lookup n node
  leaf-none T lookup n w = no_slot_in T lookup n f v w ∙ ap (leaf_slot T lookup n) s.is

-- a slot that has no value side, and one that is no union held in a key field
module _ (T : Tables) {w : List ℕ} {l : Lists} {r : Answer} {w' : List ℕ} (path : FieldPath) where
  pub value-none : (kind : SlotKind) → OneOf (1 ∷ 2 ∷ 3 ∷ 4 ∷ 5 ∷ []) (tag_of SlotKinds.the_type kind) → Answers (give None) l w r w' → Answers (value_slot (ops T) T (slot_with kind path)) l w r w'
  unfolding value_slot
  value-none (Sk.Row a p) o h = absurd (miss (1 ∷ 2 ∷ 3 ∷ 4 ∷ 5 ∷ []) 0 tt o)
  value-none (Sk.Key a t) o h = h
  value-none (Sk.Derived a) o h = h
  value-none (Sk.Field a t) o h = h
  value-none (Sk.Value a t) o h = h
  value-none (Sk.Const n) o h = h

  pub select-none : (n x : ℕ) (kind : SlotKind) → OneOf (0 ∷ 1 ∷ 2 ∷ 4 ∷ 5 ∷ []) (tag_of SlotKinds.the_type kind) → Answers (declined (ops T) T n Code.NyiFactField) l w r w'
      → Answers (select_slot (ops T) T n (slot_with kind path) x) l w r w'
  unfolding select_slot
  select-none n x (Sk.Row a p) o h = h
  select-none n x (Sk.Key a t) o h = h
  select-none n x (Sk.Derived a) o h = h
  select-none n x (Sk.Field a t) o h = absurd (miss (0 ∷ 1 ∷ 2 ∷ 4 ∷ 5 ∷ []) 3 tt o)
  select-none n x (Sk.Value a t) o h = h
  select-none n x (Sk.Const c) o h = h

-- the row of a hoisted node, by the name that was found
pub hoisted_by : (T : Tables) (lookup : ℕ → Option File.Slot) (n : ℕ) (o : Option ℕ) → o ≡ hoisted_name T n → (o when_some lookup) ≡ hoisted_slot T lookup n
unfolding hoisted_name hoisted_slot ◌when_some◌
hoisted_by T lookup n o e = ap (λ (o : Option ℕ). o when_some lookup) e ∙ go (first (λ h. eqb h.node n) T.hoisted)
  where
    go : (x : Option Hoisted) → ((x when_some λ h. Some h.name) when_some lookup) ≡ (x when_some λ h. lookup h.name)
    go None = refl
    go (Some h) = refl

pub past-constant : (T : Tables) (n : ℕ) → length T.nodes ≤ n → false ≡ is_constant T n
unfolding is_constant
past-constant T n h = let g : length (constants T) ≤ n = omega (arith, constants-length T) in sym (get_or-eq_default (constants T) false g)

-- a read of a known form, and of a slot whose kind is known
module _ (T : Tables) (n : ℕ) {l : Lists} {w : List ℕ} {r : Answer} {w' : List ℕ} where
  pub read_at_lem : (s : File.Slot) {x y : Read} → x ≡ y → Answers (read_past T n y s) l w r w' → Answers (read_past T n x s) l w r w'
  read_at_lem s e h = subst (λ (x : Read). Answers (read_past T n x s) l w r w') (sym e) h

  pub past-at : (x : ℕ) {s t : File.Slot} → s ≡ t → Answers (field_past T n x t) l w r w' → Answers (field_past T n x s) l w r w'
  past-at x e h = subst (λ (s : File.Slot). Answers (field_past T n x s) l w r w') (sym e) h

-- a field of any slot but a Value looks past a reference itself, and a select of a reference is declined either way
module _ (T : Tables) (n x : ℕ) (s : State) where
  same_row : (q : ℕ) (g : Option ℕ) → (fetched_row (ops T) T n q g when_found field_of_row (ops T) T x) s ≡ (fetched_row (ops T) T n q g when_found read_slot T n (Key x)) s
  unfolding fetched_row ◌when_found◌ follow give declined field_of_row field_slot
  same_row q None = refl
  same_row q (Some r) = refl

  no_row : (q : ℕ) (g : Option ℕ) → declined (ops T) T n Code.NyiFactField s ≡ (fetched_row (ops T) T n q g when_found read_slot T n (Select x)) s
  unfolding fetched_row ◌when_found◌ follow give declined select_slot
  no_row q None = refl
  no_row q (Some r) = refl

  module _ (a : ℕ) (p : File.FieldPath) (t : ℕ) where
    through : (read : Read) (o : Option ℕ) → fact_ty (type_at T t) ≡ o → (reference T n a p t o when_found read_slot T n read) s ≡ read_past T n read (File.Slot.Field a p t) s
    unfolding dereference
    through read o e = ap (λ (o : Option ℕ). (reference T n a p t o when_found read_slot T n read) s) (sym e)

    field-through : (o : Option ℕ) → fact_ty (type_at T t) ≡ o → field_slot (ops T) T n (File.Slot.Field a p t) x s ≡ (reference T n a p t o when_found read_slot T n (Key x)) s
    unfolding field_slot dereference ◌when_found◌ follow give
    field-through None e = refl
    field-through (Some q) e =
        ap (λ (o : Option ℕ). below T n a p t x o s) e ∙ ap (λ (o : Option ℕ). (reference T n a p t o when_found field_of_row (ops T) T x) s) e
        ∙ same_row q (fetched_register T a p)

    select-through : (o : Option ℕ) → fact_ty (type_at T t) ≡ o → select_slot (ops T) T n (File.Slot.Field a p t) x s ≡ (reference T n a p t o when_found read_slot T n (Select x)) s
    unfolding select_slot ◌when_found◌ follow give
    select-through None e = refl
    select-through (Some q) e = ap (λ (o : Option (List Alternative)). alternative T n a p x o s) (fact-no-union (type_at T t) q e) ∙ no_row q (fetched_register T a p)

  value-select : (a t : ℕ) (o : Option ℕ) → declined (ops T) T n Code.NyiFactField s ≡ (value_reference T n a t o when_found read_slot T n (Select x)) s
  unfolding ◌when_found◌ follow give declined select_slot
  value-select a t None = refl
  value-select a t (Some q) = refl

  pub field-as-past : (k : SlotKind) (p : FieldPath) → OneOf (0 ∷ 1 ∷ 2 ∷ 3 ∷ 5 ∷ []) (tag_of SlotKinds.the_type k) → field_slot (ops T) T n (slot_with k p) x s ≡ field_past T n x (slot_with k p) s
  unfolding dereference ◌when_found◌ follow give
  field-as-past (Sk.Row a q) p h = refl
  field-as-past (Sk.Key a t) p h = refl
  field-as-past (Sk.Derived a) p h = refl
  field-as-past (Sk.Field a t) p h = field-through a.0 (path_of p) t (fact_ty (type_at T t)) refl ∙ through a.0 (path_of p) t (Key x) (fact_ty (type_at T t)) refl
  field-as-past (Sk.Value a t) p h = absurd (miss (0 ∷ 1 ∷ 2 ∷ 3 ∷ 5 ∷ []) 4 tt h)
  field-as-past (Sk.Const c) p h = refl

  pub select-as-past : (slot : File.Slot) → select_slot (ops T) T n slot x s ≡ read_past T n (Select x) slot s
  unfolding dereference ◌when_found◌ follow give select_slot
  select-as-past (File.Slot.Row a q) = refl
  select-as-past (File.Slot.Key a t) = refl
  select-as-past (File.Slot.Derived a) = refl
  select-as-past (File.Slot.Field a p t) = select-through a p t (fact_ty (type_at T t)) refl ∙ through a p t (Select x) (fact_ty (type_at T t)) refl
  select-as-past (File.Slot.Value a t) = value-select a t (fact_ty (type_at T t))
  select-as-past (File.Slot.Const c) = refl

-- what is shown of every slot that the rules give is shown of an answer's
pub rooms-from : (T : Tables) {g : Resolver State} {l : Lists} {w : List ℕ} {r : Answer} {w' : List ℕ} → Answers g l w r w' → ((s : State) → GivenSlotRoom T (g s).slot) → GivenSlotRoom T (given r)
rooms-from T {g} {l} {w} {r} {w'} h k s e = k (state_with l new_level no_target w []) s (sym (ap (λ (a : ResolveRules.Answer State). a.slot) (h.is new_level no_target [])) ∙ e)

pub no-base : {read : Read} {b : ℕ} → ◌≡◌ {A = Option (Read × ℕ)} (Some (read, b)) None → ⊥
no-base e = let z : ◌≡◌ {A = ℕ} 0 1 = cc in omega arith

same_base : {read read' : Read} {b c : ℕ} → ◌≡◌ {A = Option (Read × ℕ)} (Some (read, b)) (Some (read', c)) → b ≡ c
same_base {read} {read'} {b} {c} e = (some_pair_parts read read' b c e).1

-- a base is lower than its access
lower-base : (n : ℕ) (node : Node) (read : Read) (b : ℕ) → Each (λ c. c < n) (child_nodes node) → Some (read, b) ≡ base_of node → b < n
unfolding base_of child_nodes
lower-base n (Node.Int bytes) read b h e = absurd (no-base e)
lower-base n (Node.Str x) read b h e = absurd (no-base e)
lower-base n (Node.Bytes bytes) read b h e = absurd (no-base e)
lower-base n (Node.Var x) read b h e = absurd (no-base e)
lower-base n Node.Wildcard read b h e = absurd (no-base e)
lower-base n Node.Never read b h e = absurd (no-base e)
lower-base n (Node.Prefix x) read b h e = absurd (no-base e)
lower-base n (Node.Fuzzy x d a) read b h e = absurd (no-base e)
lower-base n (Node.Record fs) read b h e = absurd (no-base e)
lower-base n (Node.Access x c) read b (more l h) e = rw (same_base e) l
lower-base n (Node.Value c) read b (more l h) e = rw (same_base e) l
lower-base n (Node.Select x c) read b (more l h) e = rw (same_base e) l
lower-base n Node.Disjunction read b h e = absurd (no-base e)
lower-base n Node.Subquery read b h e = absurd (no-base e)
lower-base n (Node.Fact p c) read b h e = absurd (no-base e)
lower-base n Node.Arith read b h e = absurd (no-base e)
lower-base n Node.Error read b h e = absurd (no-base e)

pub base-lower : (T : Tables) → Lower T → (n : ℕ) (read : Read) (b : ℕ) → Some (read, b) ≡ base_of (node_at T n) → b < n
unfolding node_at base_of
base-lower T lower n read b e =
    ⊎_elim (λ h. lower-base n (node_at T n) read b (lower n h) e)
    (λ h. absurd (no-base (e ∙ ap base_of (get_or-eq_default T.nodes Node.Error h)))) (lt-or-le n (length T.nodes))

pub answers-as : {g h : Resolver State} {l : Lists} {w : List ℕ} {r : Answer} {w' : List ℕ} → ((s : State) → g s ≡ h s) → Answers g l w r w' → Answers h l w r w'
answers-as {g} {h} {l} {w} k a = record { is = λ level target plan. a.is level target plan ∙ k (state_with l level target w plan); tidy = a.tidy }

-- a leaf by its constancy
module _ (T : Tables) (n : ℕ) where
  leaf_by : Bool → State → ResolveRules.Answer State
  leaf_by b s = record { slot = elim b [ true ↦ Some (File.Slot.Const n) | false ↦ leaf_slot T ((ops T).lookup s) n (node_at T n) ]; walk = s }

  pub constant-leaf : is_constant T n ≡ true → (s : State) → leaf_at T n s ≡ give (Some (File.Slot.Const n)) s
  unfolding leaf_at leaf_by give
  constant-leaf e s = ap (λ (b : Bool). leaf_by b s) e

  pub other-leaf : is_constant T n ≡ false → (s : State) → leaf_at T n s ≡ record { slot = leaf_slot T ((ops T).lookup s) n (node_at T n); walk = s }
  unfolding leaf_at leaf_by
  other-leaf e s = ap (λ (b : Bool). leaf_by b s) e
