-- A read's slot hangs on the bindings alone, and a read adds selects and diagnostics and nothing else.
use mathlib.Core.Bool.{false}
use mathlib.Core.List.{List, [], ◌∷◌}
use Rattle.std.specs.Prelude.{Option, None, Some}
use mathlib.Core.Path.{◌≡◌, refl, sym, ◌∙◌, subst}
use Prim.Native.Nat.{ℕ, zero, suc}
use lib.ListN.{length}
use Rattle.rules.specs.File.{Tables, Alternative, Node, FieldPath, Slot, Binding, type_at, node_at, fact_ty, union_ty, is_constant}
use Rattle.rules.specs.Constant.{alternative_of}
use Rattle.rules.specs.Lookup.{fetched_register}
use Rattle.rules.specs.Events.{Code, Walk, walk_ops, select, report}
use Rattle.rules.specs.Resolve.{Answer, Resolver, follow, ◌when_found◌, give, declined, fetched_row, dereference, field_of_row, field_slot, value_slot, selected, select_slot, resolve_node, resolve_below, resolve}
use Rattle.rules.proofs.Choices.{by-test₂, by-option₂}
use Rattle.rules.proofs.Lists.{Onwards, onwards-same, onwards-next, onwards-one}
use Rattle.exact.specs.Matcher.{quiet, slot_of}

-- no diagnostics, and no constant was brought to a type that gives it no bytes
pub record Clean (w : Walk) : Type 0 where
  pub diagnostics : w.lists.diagnostics ≡ []
  pub typed : w.mistyped ≡ false

abbrev IsNil : {A : Type 0} → List A → Type 0
IsNil [] = Unit {0}
IsNil (x ∷ xs) = ⊥

pub onwards-nil : {A : Type 0} (xs ys : List A) → Onwards xs ys → ys ≡ [] → xs ≡ []
onwards-nil [] ys o e = refl
onwards-nil (x ∷ xs) ys o e = absurd (subst IsNil (sym (sym o.1 ∙ e)) tt)

-- a read by the walk beside a read by the bindings alone
record Beside (w : Walk) (a : Answer Walk) (c : Answer (List Binding)) : Type 0 where
  slot : c.slot ≡ a.slot
  kept : c.walk ≡ w.lists.bindings
  bindings : a.walk.lists.bindings ≡ w.lists.bindings
  events : a.walk.events ≡ w.events
  mistyped : a.walk.mistyped ≡ w.mistyped
  diagnostics : Onwards w.lists.diagnostics a.walk.lists.diagnostics

abbrev Reads : Resolver Walk → Resolver (List Binding) → Type 0
Reads r r' = (w : Walk) → Beside w (r w) (r' w.lists.bindings)

reads-give : (s : Option Slot) → Reads (give s) (give s)
unfolding give
reads-give s w =
    record { slot = refl; kept = refl; bindings = refl; events = refl; mistyped = refl; diagnostics = onwards-same w.lists.diagnostics }

beside-next : (u : Walk) (a b : Answer Walk) (c d : Answer (List Binding)) → Beside u a c → Beside a.walk b d → Beside u b d
beside-next u a b c d g h =
    record {
      slot = h.slot;
      kept = h.kept ∙ g.bindings;
      bindings = h.bindings ∙ g.bindings;
      events = h.events ∙ g.events;
      mistyped = h.mistyped ∙ g.mistyped;
      diagnostics = onwards-next u.lists.diagnostics a.walk.lists.diagnostics b.walk.lists.diagnostics g.diagnostics h.diagnostics;
    }

reads-next : (r : Resolver Walk) (r' : Resolver (List Binding)) (g : Slot → Resolver Walk) (g' : Slot → Resolver (List Binding)) → Reads r r' → ((s : Slot) → Reads (g s) (g' s)) → Reads (r when_found g) (r' when_found g')
unfolding ◌when_found◌ follow give
reads-next r r' g g' h k w =
    let p = h w in
    let a : Answer Walk = r w in
    let c : Answer (List Binding) = r' w.lists.bindings in
    beside-next w a _ c _ p
    (subst (λ (o : Option Slot). Beside a.walk (elim a.slot [ None ↦ record { slot = None; walk = a.walk } | Some s ↦ g s a.walk ]) (elim o [ None ↦ record { slot = None; walk = c.walk } | Some s ↦ g' s c.walk ])) (sym p.slot)
    (subst (λ (B : List Binding). Beside a.walk (elim a.slot [ None ↦ record { slot = None; walk = a.walk } | Some s ↦ g s a.walk ]) (elim a.slot [ None ↦ record { slot = None; walk = B } | Some s ↦ g' s B ])) (sym (p.kept ∙ sym p.bindings))
    (by-option₂ (Beside a.walk) a.slot (λ e. reads-give None a.walk) (λ s e. k s a.walk))))

module _ (T : Tables) where
  reads-declined : (n : ℕ) (code : Code) → Reads (declined (walk_ops T) T n code) (declined quiet T n code)
  unfolding declined report
  reads-declined n code w =
      record { slot = refl; kept = refl; bindings = refl; events = refl; mistyped = refl; diagnostics = onwards-one w.lists.diagnostics (record { node = n; code = code }) }

  reads_fetched : (n p : ℕ) (register : Option ℕ) → Reads (fetched_row (walk_ops T) T n p register) (fetched_row quiet T n p register)
  unfolding fetched_row
  reads_fetched n p None = reads-declined n Code.NyiFactField
  reads_fetched n p (Some r) = reads-give _

  reads-dereference : (n : ℕ) (s : Slot) → Reads (dereference (walk_ops T) T n s) (dereference quiet T n s)
  unfolding dereference
  reads-dereference n (Slot.Row x p) = reads-give _
  reads-dereference n (Slot.Key x t) = reads-give _
  reads-dereference n (Slot.Derived x) = reads-give _
  reads-dereference n (Slot.Field x path t) = by-option₂ Reads (fact_ty (type_at T t)) (λ e. reads-give _) (λ p e. reads_fetched n p (fetched_register T x path))
  reads-dereference n (Slot.Value x t) = by-option₂ Reads (fact_ty (type_at T t)) (λ e. reads-give _) (λ p e. reads-declined n Code.NyiFactField)
  reads-dereference n (Slot.Const x) = reads-give _

  reads-row : (x : ℕ) (s : Slot) → Reads (field_of_row (walk_ops T) T x s) (field_of_row quiet T x s)
  unfolding field_of_row
  reads-row x (Slot.Row n p) = reads-give _
  reads-row x (Slot.Key n t) = reads-give _
  reads-row x (Slot.Derived n) = reads-give _
  reads-row x (Slot.Field n path t) = reads-give _
  reads-row x (Slot.Value n t) = reads-give _
  reads-row x (Slot.Const n) = reads-give _

  reads-field : (n : ℕ) (s : Slot) (x : ℕ) → Reads (field_slot (walk_ops T) T n s x) (field_slot quiet T n s x)
  unfolding field_slot
  reads-field n (Slot.Row m p) x = reads-give _
  reads-field n (Slot.Key m t) x = reads-give _
  reads-field n (Slot.Derived m) x = reads-give _
  reads-field n (Slot.Field m path t) x =
      by-option₂ Reads (fact_ty (type_at T t)) (λ e. reads-give _)
      (λ p e. reads-next (dereference (walk_ops T) T n (Slot.Field m path t)) (dereference quiet T n (Slot.Field m path t)) (field_of_row (walk_ops T) T x) (field_of_row quiet T x) (reads-dereference n (Slot.Field m path t)) (reads-row x))
  reads-field n (Slot.Value m t) x = reads-declined n Code.NyiValueField
  reads-field n (Slot.Const m) x = reads-give _

  reads-value : (s : Slot) → Reads (value_slot (walk_ops T) T s) (value_slot quiet T s)
  unfolding value_slot
  reads-value (Slot.Row n p) = reads-give _
  reads-value (Slot.Key n t) = reads-give _
  reads-value (Slot.Derived n) = reads-give _
  reads-value (Slot.Field n path t) = reads-give _
  reads-value (Slot.Value n t) = reads-give _
  reads-value (Slot.Const n) = reads-give _

  reads-selected : (n : ℕ) (path : FieldPath) (alt : Option Alternative) → Reads (selected (walk_ops T) T n path alt) (selected quiet T n path alt)
  unfolding selected select
  reads-selected n path None = reads-give None
  reads-selected n path (Some alt) = λ w.
      record { slot = refl; kept = refl; bindings = refl; events = refl; mistyped = refl; diagnostics = onwards-same w.lists.diagnostics }

  reads-select : (n : ℕ) (s : Slot) (x : ℕ) → Reads (select_slot (walk_ops T) T n s x) (select_slot quiet T n s x)
  unfolding select_slot
  reads-select n (Slot.Row m p) x = reads-declined n Code.NyiFactField
  reads-select n (Slot.Key m t) x = reads-declined n Code.NyiFactField
  reads-select n (Slot.Derived m) x = reads-declined n Code.NyiFactField
  reads-select n (Slot.Field m path t) x =
      by-option₂ Reads (union_ty (type_at T t)) (λ e. reads-declined n Code.NyiFactField) (λ alts e. reads-selected m path (alternative_of alts x))
  reads-select n (Slot.Value m t) x = reads-declined n Code.NyiFactField
  reads-select n (Slot.Const m) x = reads-declined n Code.NyiFactField

  reads-base : (below : ℕ → Resolver Walk) (below' : ℕ → Resolver (List Binding)) → ((m : ℕ) → Reads (below m) (below' m)) → (n base : ℕ) (g : Slot → Resolver Walk) (g' : Slot → Resolver (List Binding)) → ((s : Slot) → Reads (g s) (g' s))
      → Reads (below base when_found λ slot. (dereference (walk_ops T) T n slot when_found g)) (below' base when_found λ slot. (dereference quiet T n slot when_found g'))
  reads-base below below' h n base g g' k =
      reads-next (below base) (below' base) _ _ (h base) (λ s. reads-next (dereference (walk_ops T) T n s) (dereference quiet T n s) g g' (reads-dereference n s) k)

  reads-node : (below : ℕ → Resolver Walk) (below' : ℕ → Resolver (List Binding)) → ((m : ℕ) → Reads (below m) (below' m)) → (n : ℕ) (node : Node) → Reads (resolve_node (walk_ops T) T below n node) (resolve_node quiet T below' n node)
  unfolding resolve_node
  reads-node below below' h n (Node.Int bytes) = reads-give None
  reads-node below below' h n (Node.Str x) = reads-give None
  reads-node below below' h n (Node.Bytes bytes) = reads-give None
  reads-node below below' h n (Node.Var x) = λ w. record { slot = refl; kept = refl; bindings = refl; events = refl; mistyped = refl; diagnostics = onwards-same w.lists.diagnostics }
  reads-node below below' h n Node.Wildcard = reads-give None
  reads-node below below' h n Node.Never = reads-give None
  reads-node below below' h n (Node.Prefix x) = reads-give None
  reads-node below below' h n (Node.Fuzzy x d k) = reads-give None
  reads-node below below' h n (Node.Record fs) = reads-give None
  reads-node below below' h n (Node.Access x base) = reads-base below below' h n base (λ place. field_slot (walk_ops T) T n place x) (λ place. field_slot quiet T n place x) (λ s. reads-field n s x)
  reads-node below below' h n (Node.Value base) = reads-base below below' h n base (value_slot (walk_ops T) T) (value_slot quiet T) reads-value
  reads-node below below' h n (Node.Select x base) = reads-base below below' h n base (λ place. select_slot (walk_ops T) T n place x) (λ place. select_slot quiet T n place x) (λ s. reads-select n s x)
  reads-node below below' h n Node.Disjunction = reads-give None
  reads-node below below' h n Node.Subquery = reads-give None
  reads-node below below' h n (Node.Fact p key') = λ w. record { slot = refl; kept = refl; bindings = refl; events = refl; mistyped = refl; diagnostics = onwards-same w.lists.diagnostics }
  reads-node below below' h n Node.Arith = reads-give None
  reads-node below below' h n Node.Error = reads-give None

  reads-below : (limit n : ℕ) → Reads (resolve_below (walk_ops T) T limit n) (resolve_below quiet T limit n)
  unfolding resolve_below
  reads-below zero n = reads-give None
  reads-below (suc limit) n =
      by-test₂ Reads (is_constant T n) (λ e. reads-give _) (λ e. reads-node (resolve_below (walk_ops T) T limit) (resolve_below quiet T limit) (reads-below limit) n (node_at T n))

  -- the walk that a read leaves: lists that go on, and nothing else
  pub record Read (n : ℕ) (w : Walk) : Type 0 where
    pub slot : (resolve (walk_ops T) T n w).slot ≡ slot_of T n w.lists.bindings
    pub bindings : (resolve (walk_ops T) T n w).walk.lists.bindings ≡ w.lists.bindings
    pub events : (resolve (walk_ops T) T n w).walk.events ≡ w.events
    pub clean : Clean (resolve (walk_ops T) T n w).walk → Clean w
    pub reported : Clean (resolve (walk_ops T) T n w).walk → (resolve (walk_ops T) T n w).walk.lists.diagnostics ≡ w.lists.diagnostics

  pub read_is : (n : ℕ) (w : Walk) → Read n w
  unfolding resolve slot_of
  read_is n w =
      let p = reads-below (length T.nodes) n w in
      let a : Walk = (resolve (walk_ops T) T n w).walk in
      let d : Clean a → w.lists.diagnostics ≡ [] = λ k. onwards-nil w.lists.diagnostics a.lists.diagnostics p.diagnostics k.diagnostics in
      record {
        slot = sym p.slot;
        bindings = p.bindings;
        events = p.events;
        clean = λ k. record { diagnostics = d k; typed = sym p.mistyped ∙ k.typed };
        reported = λ k. k.diagnostics ∙ sym (d k);
      }
