-- A Const slot that a pattern stands for is a constant of the file.
use mathlib.Core.Bool.{Bool, true, false}
use mathlib.Core.List.{List, []}
use Rattle.std.specs.Prelude.{Option, None, Some}
use mathlib.Core.Path.{◌≡◌, refl, sym, ap, ◌∙◌, subst}
use Prim.Native.Nat.{ℕ, zero, suc, ◌<◌}
use native.Mathlib.Nat.{zero-add}
use native.Mathlib.Omega.{arith}
use lib.ListN.{length, get_or, take, length-take, get_or-eq_default}
use lib.Seq.{get_or-take}
use lib.Dec.{eqb}
use Rattle.rules.specs.Base.{first, ◌when_some◌}
use Rattle.rules.specs.File.{Tables, Alternative, FieldPattern, Node, FieldPath, Slot, Binding, type_at, node_at, fact_ty, union_ty, record_fields, var_name, constant_of, constants, is_constant}
use Rattle.rules.specs.Constant.{alternative_of, field_pattern, lookup, const_node}
use Rattle.rules.specs.Lookup.{FieldAt, fetched_register, slot_at, row_field, row_value, folded_field, folded_slot, hoisted_slot}
use Rattle.rules.specs.Resolve.{Answer, Resolver, follow, ◌when_found◌, give, declined, fetched_row, dereference, field_of_row, field_slot, value_slot, selected, select_slot, resolve_node, resolve_below, resolve}
use Rattle.rules.proofs.BottomUp.{extends, at_place}
use Rattle.rules.proofs.Cases.{by-test, by-option, by_order, true≢false, some≢none, some-injective, bind-some}
use Rattle.rules.proofs.Each.{each-passes, each_first}
use Rattle.rules.specs.Constant.{const_bound}
use Rattle.exact.specs.Matcher.{quiet, slot_of}
use Rattle.exact.proofs.Constants.{const-lookup, not-constant}
use Rattle.exact.proofs.Accepts.{Facts}
use Rattle.exact.proofs.Pieces.{record-node}

-- by the kind of a constant node
constant-kind : (T : Tables) (n : ℕ) → is_constant T n ≡ true → n < length T.nodes
unfolding is_constant constants
constant-kind T n h =
    by_order n (length T.nodes) (λ l. l)
    (λ l. let r = extends constant_of [] T.nodes in
    absurd (true≢false (sym h ∙ get_or-eq_default (constants T) false (omega (arith, l, r.2, ap length r.1)))))

constant-of-node : (T : Tables) (n : ℕ) → is_constant T n ≡ true → constant_of (take n (constants T)) (node_at T n) ≡ true
unfolding is_constant constants node_at
constant-of-node T n h = sym (rw (zero-add n) at (at_place constant_of [] T.nodes n false Node.Error (constant-kind T n h))) ∙ h

get_take : (n k : ℕ) (cs : List Bool) → get_or (take n cs) k false ≡ true → get_or cs k false ≡ true
get_take n k cs h =
    by_order k n (λ l. sym (get_or-take n cs k false l) ∙ h)
    (λ l. absurd (true≢false (sym h ∙ get_or-eq_default (take n cs) false (omega (arith, l, length-take n cs)))))

-- a field of a constant record is constant
pub constant-field : (T : Tables) (n : ℕ) (fields : List FieldPattern) (x m : ℕ) → is_constant T n ≡ true → node_at T n ≡ Node.Record fields → field_pattern fields x ≡ Some m → is_constant T m ≡ true
unfolding constant_of field_pattern is_constant
constant-field T n fields x m h q e =
    let a = ap (constant_of (take n (constants T))) (sym q) ∙ constant-of-node T n h in
    let f = bind-some (first (λ (g : FieldPattern). eqb g.name x) fields) _ m e in
    get_take n m (constants T)
    (subst (λ (k : ℕ). get_or (take n (constants T)) k false ≡ true) (some-injective _ m f.2)
    (each_first (λ (g : FieldPattern). eqb g.name x) (each-passes (λ (g : FieldPattern). get_or (take n (constants T)) g.node false) fields a) f.0 f.1))

abbrev ConstOk : Tables → Slot → Type 0
ConstOk T (Slot.Row a p) = Unit {0}
ConstOk T (Slot.Key a t) = Unit {0}
ConstOk T (Slot.Derived a) = Unit {0}
ConstOk T (Slot.Field a p t) = Unit {0}
ConstOk T (Slot.Value a t) = Unit {0}
ConstOk T (Slot.Const c) = is_constant T c ≡ true

module _ (T : Tables) (facts : Facts T) (bound : List Binding) (consts : (x : ℕ) → const_bound bound x ≡ const_bound T.bindings x) where
  -- an answer whose slot is fine, and which keeps the bindings
  record Fine (a : Answer (List Binding)) : Type 0 where
    same : a.walk ≡ bound
    ok : (s : Slot) → a.slot ≡ Some s → ConstOk T s

  fine-give : (o : Option Slot) → ((s : Slot) → o ≡ Some s → ConstOk T s) → Fine (give o bound)
  unfolding give
  fine-give o h = record { same = refl; ok = h }

  fine-none : Fine (give None bound)
  fine-none = fine-give None (λ s e. absurd (some≢none s (sym e)))

  fine-some : (s : Slot) → ConstOk T s → Fine (give (Some s) bound)
  fine-some s h = fine-give (Some s) (λ s' e. subst (ConstOk T) (some-injective s s' e) h)

  fine-declined : (n : ℕ) (code : _) → Fine (declined quiet T n code bound)
  unfolding declined
  fine-declined n code = record { same = refl; ok = λ s e. absurd (some≢none s (sym e)) }

  fine-next : (r : Resolver (List Binding)) (g : Slot → Resolver (List Binding)) → Fine (r bound) → ((s : Slot) → ConstOk T s → Fine (g s bound)) → Fine ((r when_found g) bound)
  unfolding ◌when_found◌ follow
  fine-next r g h k = go (r bound).slot refl
    where
      go : (o : Option Slot) → (r bound).slot ≡ o → Fine (elim o [ None ↦ record { slot = None; walk = (r bound).walk } | Some s ↦ g s (r bound).walk ])
      go None e = record { same = h.same; ok = λ s q. absurd (some≢none s (sym q)) }
      go (Some s) e = subst (λ (b : List Binding). Fine (g s b)) (sym h.same) (k s (h.ok s e))

  slot-at-ok : (a : ℕ) (place : ℕ → FieldPath) (found : Option FieldAt) (s : Slot) → slot_at a place found ≡ Some s → ConstOk T s
  unfolding slot_at ◌when_some◌
  slot-at-ok a place None s e = absurd (some≢none s (sym e))
  slot-at-ok a place (Some f) s e = subst (ConstOk T) (some-injective _ s e) tt

  row-field-ok : (a : ℕ) (p : Option ℕ) (x : ℕ) (s : Slot) → row_field T a p x ≡ Some s → ConstOk T s
  unfolding row_field
  row-field-ok a p x s e = let r = bind-some p _ s e in slot-at-ok a _ _ s r.2

  row-value-ok : (a : ℕ) (p : Option ℕ) (s : Slot) → row_value T a p ≡ Some s → ConstOk T s
  unfolding row_value
  row-value-ok a p s e =
      let r = bind-some p _ s e in
      let q = bind-some _ _ s r.2 in
      subst (ConstOk T) (some-injective _ s q.2) tt

  folded-ok : (n x : ℕ) → is_constant T n ≡ true → (s : Slot) → folded_slot T n x ≡ Some s → ConstOk T s
  unfolding folded_slot folded_field
  folded-ok n x h s e =
      let r = bind-some (folded_field T n x) _ s e in
      let f = bind-some (record_fields (node_at T n)) _ r.0 r.1 in
      subst (ConstOk T) (some-injective _ s r.2) (constant-field T n f.0 x r.0 h (record-node (node_at T n) f.0 f.1) f.2)

  lookup-fine : (x : ℕ) (s : Slot) → lookup bound x ≡ Some s → ConstOk T s
  lookup-fine x (Slot.Row a p) e = tt
  lookup-fine x (Slot.Key a t) e = tt
  lookup-fine x (Slot.Derived a) e = tt
  lookup-fine x (Slot.Field a p t) e = tt
  lookup-fine x (Slot.Value a t) e = tt
  lookup-fine x (Slot.Const c) e = facts.consts x c (const-lookup T.bindings x c (sym (consts x) ∙ found tt))
    where
      found : Unit {0} → const_bound bound x ≡ Some c
      found _ = unfold ◌when_some◌ const_node in ap (λ (o : Option Slot). o when_some const_node) e

  hoisted-fine : (n : ℕ) (s : Slot) → hoisted_slot T (lookup bound) n ≡ Some s → ConstOk T s
  unfolding hoisted_slot
  hoisted-fine n s e = let r = bind-some _ _ s e in lookup-fine _ s r.2

  fine-fetched : (n p : ℕ) (register : Option ℕ) → Fine (fetched_row quiet T n p register bound)
  unfolding fetched_row
  fine-fetched n p None = fine-declined n _
  fine-fetched n p (Some r) = fine-some (Slot.Row r (Some p)) tt

  fine-dereference : (n : ℕ) (s : Slot) → ConstOk T s → Fine (dereference quiet T n s bound)
  unfolding dereference
  fine-dereference n (Slot.Row x p) h = fine-some (Slot.Row x p) tt
  fine-dereference n (Slot.Key x t) h = fine-some (Slot.Key x t) tt
  fine-dereference n (Slot.Derived x) h = fine-some (Slot.Derived x) tt
  fine-dereference n (Slot.Field x path t) h =
      by-option (λ (r : Resolver (List Binding)). Fine (r bound)) (fact_ty (type_at T t)) (λ e. fine-some (Slot.Field x path t) tt) (λ p e. fine-fetched n p (fetched_register T x path))
  fine-dereference n (Slot.Value x t) h =
      by-option (λ (r : Resolver (List Binding)). Fine (r bound)) (fact_ty (type_at T t)) (λ e. fine-some (Slot.Value x t) tt) (λ p e. fine-declined n _)
  fine-dereference n (Slot.Const c) h = fine-some (Slot.Const c) h

  fine-row : (x : ℕ) (s : Slot) → ConstOk T s → Fine (field_of_row quiet T x s bound)
  unfolding field_of_row
  fine-row x (Slot.Row a p) h = fine-give _ (row-field-ok a p x)
  fine-row x (Slot.Key a t) h = fine-none
  fine-row x (Slot.Derived a) h = fine-none
  fine-row x (Slot.Field a p t) h = fine-none
  fine-row x (Slot.Value a t) h = fine-none
  fine-row x (Slot.Const c) h = fine-none

  fine-field : (n : ℕ) (s : Slot) (x : ℕ) → ConstOk T s → Fine (field_slot quiet T n s x bound)
  unfolding field_slot
  fine-field n (Slot.Row a p) x h = fine-give _ (row-field-ok a p x)
  fine-field n (Slot.Key a t) x h = fine-give _ (slot-at-ok a _ _)
  fine-field n (Slot.Derived a) x h = fine-none
  fine-field n (Slot.Field a path t) x h =
      by-option (λ (r : Resolver (List Binding)). Fine (r bound)) (fact_ty (type_at T t)) (λ e. fine-give _ (slot-at-ok a _ _))
      (λ p e. fine-next (dereference quiet T n (Slot.Field a path t)) (field_of_row quiet T x) (fine-dereference n (Slot.Field a path t) tt) (fine-row x))
  fine-field n (Slot.Value a t) x h = fine-declined n _
  fine-field n (Slot.Const c) x h = fine-give _ (folded-ok c x h)

  fine-value : (s : Slot) → ConstOk T s → Fine (value_slot quiet T s bound)
  unfolding value_slot
  fine-value (Slot.Row a p) h = fine-give _ (row-value-ok a p)
  fine-value (Slot.Key a t) h = fine-none
  fine-value (Slot.Derived a) h = fine-none
  fine-value (Slot.Field a p t) h = fine-none
  fine-value (Slot.Value a t) h = fine-none
  fine-value (Slot.Const c) h = fine-none

  fine-selected : (a : ℕ) (path : FieldPath) (alt : Option Alternative) → Fine (selected quiet T a path alt bound)
  unfolding selected
  fine-selected a path None = fine-none
  fine-selected a path (Some alt) = record { same = refl; ok = λ s e. subst (ConstOk T) (some-injective _ s e) tt }

  fine-select : (n : ℕ) (s : Slot) (x : ℕ) → ConstOk T s → Fine (select_slot quiet T n s x bound)
  unfolding select_slot
  fine-select n (Slot.Row a p) x h = fine-declined n _
  fine-select n (Slot.Key a t) x h = fine-declined n _
  fine-select n (Slot.Derived a) x h = fine-declined n _
  fine-select n (Slot.Field a path t) x h =
      by-option (λ (r : Resolver (List Binding)). Fine (r bound)) (union_ty (type_at T t)) (λ e. fine-declined n _) (λ alts e. fine-selected a path (alternative_of alts x))
  fine-select n (Slot.Value a t) x h = fine-declined n _
  fine-select n (Slot.Const c) x h = fine-declined n _

  fine-base : (below : ℕ → Resolver (List Binding)) (n base : ℕ) (g : Slot → Resolver (List Binding)) → Fine (below base bound) → ((s : Slot) → ConstOk T s → Fine (g s bound))
      → Fine ((below base when_found λ slot. (dereference quiet T n slot when_found g)) bound)
  fine-base below n base g h k = fine-next (below base) _ h (λ s ok. fine-next (dereference quiet T n s) g (fine-dereference n s ok) k)

  fine-node : (below : ℕ → Resolver (List Binding)) → ((m : ℕ) → Fine (below m bound)) → (n : ℕ) (node : Node) → Fine (resolve_node quiet T below n node bound)
  unfolding resolve_node
  fine-node below h n (Node.Int bytes) = fine-none
  fine-node below h n (Node.Str x) = fine-none
  fine-node below h n (Node.Bytes bytes) = fine-none
  fine-node below h n (Node.Var x) = record { same = refl; ok = lookup-fine x }
  fine-node below h n Node.Wildcard = fine-none
  fine-node below h n Node.Never = fine-none
  fine-node below h n (Node.Prefix x) = fine-none
  fine-node below h n (Node.Fuzzy x d a) = fine-none
  fine-node below h n (Node.Record fs) = fine-none
  fine-node below h n (Node.Access x base) = fine-base below n base (λ place. field_slot quiet T n place x) (h base) (λ s. fine-field n s x)
  fine-node below h n (Node.Value base) = fine-base below n base (value_slot quiet T) (h base) fine-value
  fine-node below h n (Node.Select x base) = fine-base below n base (λ place. select_slot quiet T n place x) (h base) (λ s. fine-select n s x)
  fine-node below h n Node.Disjunction = fine-none
  fine-node below h n Node.Subquery = fine-none
  fine-node below h n (Node.Fact p key) = record { same = refl; ok = hoisted-fine n }
  fine-node below h n Node.Arith = fine-none
  fine-node below h n Node.Error = fine-none

  fine-below : (limit n : ℕ) → Fine (resolve_below quiet T limit n bound)
  unfolding resolve_below
  fine-below zero n = fine-none
  fine-below (suc limit) n =
      by-test (λ (r : Resolver (List Binding)). Fine (r bound)) (is_constant T n) (λ e. fine-some (Slot.Const n) e) (λ e. fine-node (resolve_below quiet T limit) (fine-below limit) n (node_at T n))

  pub slot-constant : (n c : ℕ) → slot_of T n bound ≡ Some (Slot.Const c) → is_constant T c ≡ true
  unfolding slot_of resolve
  slot-constant n c e = (fine-below (length T.nodes) n).ok (Slot.Const c) e

-- no name is constant
pub constant-no-var : (T : Tables) (c : ℕ) → is_constant T c ≡ true → var_name (node_at T c) ≡ None
unfolding var_name constant_of
constant-no-var T c h = go (node_at T c) refl
  where
    go : (node : Node) → node_at T c ≡ node → var_name node ≡ None
    go (Node.Int bytes) q = refl
    go (Node.Str x) q = refl
    go (Node.Bytes bytes) q = refl
    go (Node.Var x) q = absurd (true≢false (sym h ∙ not-constant T (Node.Var x) c q (λ cs. refl)))
    go Node.Wildcard q = refl
    go Node.Never q = refl
    go (Node.Prefix x) q = refl
    go (Node.Fuzzy x d a) q = refl
    go (Node.Record fs) q = refl
    go (Node.Access x n) q = refl
    go (Node.Value n) q = refl
    go (Node.Select x n) q = refl
    go Node.Disjunction q = refl
    go Node.Subquery q = refl
    go (Node.Fact p n) q = refl
    go Node.Arith q = refl
    go Node.Error q = refl
