-- Two runs of the walk side by side: the written rules' lists and events, and any other keeper of them that may stop. What each pair of operations keeps,
-- the two walks keep. While the other run goes on, both take the same branches; once it has stopped it stays as it is, and what it knew of the first run is kept
-- as that run goes on alone.
use mathlib.Core.Bool.{Bool, true, false}
use mathlib.Core.List.{List, [], ◌∷◌}
use Rattle.std.specs.Prelude.{Option, None, Some}
use mathlib.Core.Path.{◌≡◌, refl, sym, ap, ◌∙◌, subst, fun_ext}
use Prim.Native.Nat.{ℕ, zero, suc, ◌+◌, ◌<◌}
use native.Mathlib.Omega.{arith}
use lib.Dec.{eqb}
use lib.ListN.{length}
use Rattle.rules.specs.Base.{Each, done, more}
use Rattle.rules.specs.File.{Tables, FieldTy, Alternative, Ty, FieldPattern, Node, FieldPath, Slot, Constraint, type_at, node_at, fact_ty, record_ty, union_ty, record_fields, field_path, then, payload, is_constant}
use Rattle.rules.specs.Constant.{Const, constant, field_pattern, alternative_of, only_field, lookup, const_node}
use Rattle.rules.specs.Lookup.{field_of, hoisted_slot, fetched_register}
use Rattle.rules.specs.Events.{Code, Narrowing, Event, Walk, Ops, walk_ops, bind, constrained, select, report, emit, brings}
use Rattle.rules.specs.Resolve.{Answer, Resolver, follow, ◌when_found◌, give, declined, fetched_row, dereference, field_of_row, field_slot, value_slot, selected, select_slot, resolve_node, resolve_below, resolve}
use Rattle.rules.specs.Walk.{narrowing, whole_node, narrow_by, FieldWalk, each_field, constrain_each, constrain_by, constrain, ranked, refers_to, deferred, unresolved, partial_fields, partial, matched, inject_alternative, inject_only, inject, read_answer, read, ranged, variable, field_node, field_below, field, whole_fields, whole_read, whole_variable, whole_key, record_key, key}
use Rattle.rules.proofs.Cases.{by-test, true≢false, some≢none, some-injective}
use Rattle.rules.proofs.Choices.{by-test₂, by-option₂}
use Rattle.rules.proofs.Each.{each-imply, each_append, each_first}
use Rattle.rules.proofs.Sound.{Fits, Child, SlotOk, BindingOk, Sound}
use Rattle.rules.proofs.Keeps.{Keeps, Short, Reported, narrow, skip, record-children, union-children, field-child, fits-short, fits-field, fits-then, slot-at, row_field_lem, row-value, folded-slot, lookup-ok, hoisted-ok}
use Rattle.rules.proofs.Idle.{Idle, Rests, Stays, idle-next, idle-dereference, idle-row, idle-field_slot, idle-value, idle-select_slot, idle-matched, idle-read_answer, idle-variable, idle-field_below, idle-field, idle-whole_fields, idle-whole_variable}

-- What is known of the walk's own paths and of the names that it binds: P and N, however the tables give them.
pub record Numbers (T : Tables) (P : FieldPath → Type 0) (N : ℕ → Type 0) : Type 0 where
  pub scalar : P (field_path 0)
  pub first : (t i : ℕ) (fs : List FieldTy) → record_ty (type_at T t) ≡ Some fs → i < length fs → P (field_path i)
  pub next : (p : FieldPath) (t i : ℕ) (fs : List FieldTy) → P p → record_ty (type_at T t) ≡ Some fs → i < length fs → P (then p i)
  pub tag : (p : FieldPath) (t : ℕ) (alts : List Alternative) → P p → union_ty (type_at T t) ≡ Some alts → Each (λ a. P (payload p a.disc)) alts
  pub names : (n x : ℕ) → node_at T n ≡ Node.Var x → N x

-- a path of the walk, at a type
pub record Stands (T : Tables) (P : FieldPath → Type 0) (path : FieldPath) (t : ℕ) : Type 0 where
  pub fits : Fits T path t
  pub within : P path

-- What has to be shown of a relation R between the two runs for each pair of operations; M is what the first run keeps by itself.
pub record Sim (T : Tables) (P : FieldPath → Type 0) (N : ℕ → Type 0) {C : Type 0} (o : Ops C) (stopped : C → Bool) (address : ℕ) (M : Walk → Walk → Type 0) (R : Walk → C → Type 0) : Type 0 where
  pub idle : (c : C) → stopped c ≡ true → Idle o c
  pub stays : (a a' : Walk) (c : C) → stopped c ≡ true → M a a' → R a c → R a' c
  pub lookups : (a : Walk) (c : C) → Each (BindingOk T) a.lists.bindings → stopped c ≡ false → R a c → (x : ℕ) → o.lookup c x ≡ lookup a.lists.bindings x
  pub reported : (a b : Walk) (c d : C) → stopped c ≡ false → stopped d ≡ false → R a c → R b d → eqb (o.reported c) (o.reported d) ≡ eqb (length a.lists.diagnostics) (length b.lists.diagnostics)
  pub constant-is : (a : Walk) (c : C) → R a c → (n t : ℕ) → o.constant c n t ≡ constant T n t
  pub fields : (x t : ℕ) (p : FieldPath) (a : Walk) (c : C) → lookup a.lists.bindings x ≡ None → N x → Stands T P p t → R a c → R (bind x (Slot.Field address p t) a) (o.bind x (Slot.Field address p t) c)
  pub keys : (x t : ℕ) (a : Walk) (c : C) → lookup a.lists.bindings x ≡ None → N x → t < length T.types → R a c → R (bind x (Slot.Key address t) a) (o.bind x (Slot.Key address t) c)
  pub constrains : (x : ℕ) (a : Walk) (c : C) → R a c → R (constrained x a) (o.constrained x c)
  pub selects : (n : ℕ) (p : FieldPath) (d : ℕ) (a : Walk) (c : C) → Short p → R a c → R (select n p d a) (o.select n p d c)
  pub reports : (n : ℕ) (code : Code) (a : Walk) (c : C) → R a c → R (report n code a) (o.report n code c)
  pub skips : (a : Walk) (c : C) → R a c → R (skip a) (o.skip c)
  pub bounds : (x t : ℕ) (a : Walk) (c : C) → R a c → R (skip (emit (Event.bound x t) a)) (o.skip (o.bound x t c))
  pub constants : (m n t : ℕ) (k : Const) (p : FieldPath) (a : Walk) (c : C) → constant T n t ≡ Some k → Short p → R a c → R (narrow m p (narrowing k) a) (o.narrow m p (narrowing k) c)
  pub registers : (m n : ℕ) (at p : FieldPath) (a : Walk) (c : C) → Short at → Short p → R a c → R (narrow m p (Narrowing.RegisterField n at) a) (o.narrow m p (Narrowing.RegisterField n at) c)
  pub facts : (m n : ℕ) (p : FieldPath) (a : Walk) (c : C) → Short p → R a c → R (narrow m p (Narrowing.FactId n) a) (o.narrow m p (Narrowing.FactId n) c)
  pub own-fields : (m : ℕ) (at p : FieldPath) (a : Walk) (c : C) → Short at → Short p → R a c → R (narrow m p (Narrowing.OwnField at) a) (o.narrow m p (Narrowing.OwnField at) c)
  pub tags : (m d : ℕ) (p : FieldPath) (a : Walk) (c : C) → Short p → R a c → R (narrow m p (Narrowing.Tag d) a) (o.narrow m p (Narrowing.Tag d) c)
  pub closers : (m : ℕ) (a : Walk) (c : C) → R a c → R (emit (Event.closer m) a) (o.closer m c)
  pub brought : (slot : Slot) (ty : Ty) (a : Walk) (c : C) → R a c → R (brings T slot ty a) (o.brings slot ty c)

module _ (T : Tables) (S : Sound T) (P : FieldPath → Type 0) (N : ℕ → Type 0) (numbers : Numbers T P N) {C : Type 0} (o : Ops C) (stopped : C → Bool) (address : ℕ) (M : Walk → Walk → Type 0) (R : Walk → C → Type 0) (K : Keeps T M) (sim : Sim T P N o stopped address M R) where
  abbrev Fit : Walk → Type 0
  Fit a = Each (BindingOk T) a.lists.bindings

  -- from one pair to another
  pub record Both (a a' : Walk) (c c' : C) : Type 0 where
    pub grew : M a a'
    pub fit : Fit a'
    pub rel : R a' c'
    pub still : stopped c ≡ true → stopped c' ≡ true

  abbrev pub Goes : Walk → Walk → C → C → Type 0
  Goes a a' c c' = Fit a → R a c → Both a a' c c'

  -- where the other run goes on, it went on before
  went_on : {c d : C} → (stopped c ≡ true → stopped d ≡ true) → stopped d ≡ false → stopped c ≡ false
  went_on {c} {d} h e = go (stopped c) refl
    where
      go : (b : Bool) → stopped c ≡ b → b ≡ false
      go true q = absurd (true≢false (sym (h q) ∙ e))
      go false q = refl

  goes_same : (a : Walk) (c : C) → Goes a a c c
  goes_same a c f r = record { grew = K.same a; fit = f; rel = r; still = λ h. h }

  infixl 60 ◌and◌
  ◌and◌ : {a b d : Walk} {c e g : C} → Goes a b c e → Goes b d e g → Goes a d c g
  ◌and◌ {a} {b} {d} h k f r =
      let p = h f r in
      let q = k p.fit p.rel in
      record { grew = K.next a b d p.grew q.grew; fit = q.fit; rel = q.rel; still = λ s. q.still (p.still s) }

  -- One operation each.
  goes-report : (n : ℕ) (code : Code) → Reported code → (a : Walk) (c : C) → Goes a (report n code a) c (o.report n code c)
  unfolding report
  goes-report n code h a c f r = record { grew = K.reports n code h a; fit = f; rel = sim.reports n code a c r; still = λ e. ap stopped ((sim.idle c e).report n code) ∙ e }

  goes-skip : (a : Walk) (c : C) → Goes a (skip a) c (o.skip c)
  unfolding emit
  goes-skip a c f r = record { grew = K.skips a; fit = f; rel = sim.skips a c r; still = λ h. ap stopped (sim.idle c h).skip ∙ h }

  goes-brings : (slot : Slot) (ty : Ty) (a : Walk) (c : C) → Goes a (brings T slot ty a) c (o.brings slot ty c)
  unfolding brings
  goes-brings slot ty a c f r = record { grew = K.brought slot ty a; fit = f; rel = sim.brought slot ty a c r; still = λ h. ap stopped ((sim.idle c h).brings slot ty) ∙ h }

  goes-bound : (x t : ℕ) (a : Walk) (c : C) → Goes a (skip (emit (Event.bound x t) a)) c (o.skip (o.bound x t c))
  unfolding emit
  goes-bound x t a c f r =
      record { grew = K.bounds x t a; fit = f; rel = sim.bounds x t a c r; still = λ h. ap stopped (ap o.skip ((sim.idle c h).bound x t) ∙ (sim.idle c h).skip) ∙ h }

  goes-constrained : (x : ℕ) (a : Walk) (c : C) → Goes a (constrained x a) c (o.constrained x c)
  unfolding constrained
  goes-constrained x a c f r = record { grew = K.constrains x a; fit = f; rel = sim.constrains x a c r; still = λ h. ap stopped ((sim.idle c h).constrained x) ∙ h }

  goes_select : (n : ℕ) (p : FieldPath) (d : ℕ) (a : Walk) (c : C) → Short p → Goes a (select n p d a) c (o.select n p d c)
  unfolding select
  goes_select n p d a c s f r = record { grew = K.selects n p d a s; fit = f; rel = sim.selects n p d a c s r; still = λ h. ap stopped ((sim.idle c h).select n p d) ∙ h }

  goes-bind-field : (x t : ℕ) (p : FieldPath) (a : Walk) (c : C) → lookup a.lists.bindings x ≡ None → N x → Stands T P p t → Goes a (bind x (Slot.Field address p t) a) c (o.bind x (Slot.Field address p t) c)
  unfolding bind const_node
  goes-bind-field x t p a c e n s f r =
      record { grew = K.binds x (Slot.Field address p t) a e s.fits refl; fit = each_append f (more s.fits done); rel = sim.fields x t p a c e n s r; still = λ h. ap stopped ((sim.idle c h).bind x (Slot.Field address p t)) ∙ h }

  goes-bind-key : (x t : ℕ) (a : Walk) (c : C) → lookup a.lists.bindings x ≡ None → N x → t < length T.types → Goes a (bind x (Slot.Key address t) a) c (o.bind x (Slot.Key address t) c)
  unfolding bind const_node
  goes-bind-key x t a c e n l f r =
      record { grew = K.binds x (Slot.Key address t) a e l refl; fit = each_append f (more l done); rel = sim.keys x t a c e n l r; still = λ h. ap stopped ((sim.idle c h).bind x (Slot.Key address t)) ∙ h }

  goes-constant : (m n t : ℕ) (k : Const) (p : FieldPath) (a : Walk) (c : C) → constant T n t ≡ Some k → Short p → Goes a (narrow m p (narrowing k) a) c (o.narrow m p (narrowing k) c)
  unfolding emit
  goes-constant m n t k p a c e s f r = record { grew = K.constants m n t k p a e s; fit = f; rel = sim.constants m n t k p a c e s r; still = λ h. ap stopped ((sim.idle c h).narrow m p (narrowing k)) ∙ h }

  -- a constant, or what stands in its place where there is none: both runs find the same
  goes-constant-or : (m n t : ℕ) (p : FieldPath) (a x : Walk) (c y : C) → Short p → Goes a x c y → Goes a (elim (constant T n t) [ None ↦ x | Some k ↦ narrow m p (narrowing k) a ]) c (elim (o.constant c n t) [ None ↦ y | Some k ↦ o.narrow m p (narrowing k) c ])
  goes-constant-or m n t p a x c y s g f r =
      subst (λ (found : Option Const). Both a (elim (constant T n t) [ None ↦ x | Some k ↦ narrow m p (narrowing k) a ]) c (elim found [ None ↦ y | Some k ↦ o.narrow m p (narrowing k) c ])) (sym (sim.constant-is a c r n t))
      (by-option₂ (λ a' c'. Goes a a' c c') (constant T n t) (λ e. g) (λ k e. goes-constant m n t k p a c e s) f r)

  goes-register : (m n : ℕ) (at p : FieldPath) (a : Walk) (c : C) → Short at → Short p → Goes a (narrow m p (Narrowing.RegisterField n at) a) c (o.narrow m p (Narrowing.RegisterField n at) c)
  unfolding emit
  goes-register m n at p a c s s' f r = record { grew = K.registers m n at p a s s'; fit = f; rel = sim.registers m n at p a c s s' r; still = λ h. ap stopped ((sim.idle c h).narrow m p (Narrowing.RegisterField n at)) ∙ h }

  goes-fact : (m n : ℕ) (p : FieldPath) (a : Walk) (c : C) → Short p → Goes a (narrow m p (Narrowing.FactId n) a) c (o.narrow m p (Narrowing.FactId n) c)
  unfolding emit
  goes-fact m n p a c s f r = record { grew = K.facts m n p a s; fit = f; rel = sim.facts m n p a c s r; still = λ h. ap stopped ((sim.idle c h).narrow m p (Narrowing.FactId n)) ∙ h }

  goes-own : (m : ℕ) (at p : FieldPath) (a : Walk) (c : C) → Short at → Short p → Goes a (narrow m p (Narrowing.OwnField at) a) c (o.narrow m p (Narrowing.OwnField at) c)
  unfolding emit
  goes-own m at p a c s s' f r = record { grew = K.own-fields m at p a s s'; fit = f; rel = sim.own-fields m at p a c s s' r; still = λ h. ap stopped ((sim.idle c h).narrow m p (Narrowing.OwnField at)) ∙ h }

  -- a tag, its payload, its closer
  goes-union : (m d : ℕ) (p : FieldPath) (a a' : Walk) (c c' : C) → Short p → Goes (narrow m p (Narrowing.Tag d) a) a' (o.narrow m p (Narrowing.Tag d) c) c' → Goes a (emit (Event.closer m) a') c (o.closer m c')
  unfolding emit
  goes-union m d p a a' c c' s g f r =
      let b = g f (sim.tags m d p a c s r) in
      let on : stopped c ≡ true → stopped c' ≡ true = λ h. b.still (ap stopped ((sim.idle c h).narrow m p (Narrowing.Tag d)) ∙ h) in
      record { grew = K.unions m d p a a' s b.grew; fit = b.fit; rel = sim.closers m a' c' b.rel; still = λ h. ap stopped ((sim.idle c' (on h)).closer m) ∙ on h }

  -- A branch on what each run finds by itself: l here and m there. It suffices to follow both on the first run's branch.
  sync : {L : Type 0} (a : Walk) (c : C) (l m : L) (x : Walk) (g : L → C) → (Fit a → stopped c ≡ false → R a c → m ≡ l) → Goes a x c (g l) → (stopped c ≡ true → g m ≡ c) → Goes a x c (g m)
  sync a c l m x g same h rests f r = go (stopped c) refl
    where
      go : (b : Bool) → stopped c ≡ b → Both a x c (g m)
      go true e =
          let p = h f r in
          record { grew = p.grew; fit = p.fit; rel = subst (R x) (sym (rests e)) (sim.stays a x c e p.grew r); still = λ q. ap stopped (rests e) ∙ q }
      go false e = subst (λ k. Both a x c (g k)) (sym (same f e r)) (h f r)

  -- Reads: the slot that is found fits, and both find the same while the other run goes on.
  pub record Found (a : Walk) (x : Answer Walk) (c : C) (y : Answer C) : Type 0 where
    pub grew : M a x.walk
    pub fit : Fit x.walk
    pub rel : R x.walk y.walk
    pub still : stopped c ≡ true → stopped y.walk ≡ true
    pub ok : (s : Slot) → x.slot ≡ Some s → SlotOk T s
    pub same : stopped y.walk ≡ false → y.slot ≡ x.slot

  abbrev Reads : Walk → Answer Walk → C → Answer C → Type 0
  Reads a x c y = Fit a → R a c → Found a x c y

  reads-walk : {a : Walk} {x : Answer Walk} {c : C} {y : Answer C} → Found a x c y → Both a x.walk c y.walk
  reads-walk h = record { grew = h.grew; fit = h.fit; rel = h.rel; still = h.still }

  reads-give : (s : Option Slot) (a : Walk) (c : C) → ((s' : Slot) → s ≡ Some s' → SlotOk T s') → Reads a (give s a) c (give s c)
  unfolding give
  reads-give s a c ok f r = record { grew = K.same a; fit = f; rel = r; still = λ h. h; ok = ok; same = λ h. refl }

  reads_none : (a : Walk) (c : C) → Reads a (give None a) c (give None c)
  reads_none a c = reads-give None a c (λ s e. absurd (some≢none s (sym e)))

  reads-some : (s : Slot) (a : Walk) (c : C) → SlotOk T s → Reads a (give (Some s) a) c (give (Some s) c)
  reads-some s a c ok = reads-give (Some s) a c (λ s' e. subst (SlotOk T) (some-injective s s' e) ok)

  reads-declined : (n : ℕ) (code : Code) → Reported code → (a : Walk) (c : C) → Reads a (declined (walk_ops T) T n code a) c (declined o T n code c)
  unfolding declined
  reads-declined n code h a c f r =
      let g = goes-report n code h a c f r in
      record { grew = g.grew; fit = g.fit; rel = g.rel; still = g.still; ok = λ s e. absurd (some≢none s (sym e)); same = λ q. refl }

  sync-reads : {L : Type 0} (a : Walk) (c : C) (l m : L) (x : Answer Walk) (g : L → Answer C) → (stopped c ≡ false → R a c → m ≡ l) → Reads a x c (g l) → (stopped c ≡ true → (g m).walk ≡ c) → Reads a x c (g m)
  sync-reads a c l m x g same h rests f r = go (stopped c) refl
    where
      go : (b : Bool) → stopped c ≡ b → Found a x c (g m)
      go true e =
          let p = h f r in
          record { grew = p.grew; fit = p.fit; rel = subst (R x.walk) (sym (rests e)) (sim.stays a x.walk c e p.grew r); still = λ q. ap stopped (rests e) ∙ q; ok = p.ok; same = λ q. absurd (true≢false (sym (ap stopped (rests e) ∙ e) ∙ q)) }
      go false e = subst (λ k. Found a x c (g k)) (sym (same e r)) (h f r)

  found-next : {a : Walk} {x y : Answer Walk} {c : C} {x' y' : Answer C} → Found a x c x' → Found x.walk y x'.walk y' → Found a y c y'
  found-next {a} {x} {y} p q = record { grew = K.next a x.walk y.walk p.grew q.grew; fit = q.fit; rel = q.rel; still = λ h. q.still (p.still h); ok = q.ok; same = q.same }

  -- what a read goes on with
  reads-next : (a : Walk) (c : C) (r : Resolver Walk) (r' : Resolver C) (g : Slot → Resolver Walk) (g' : Slot → Resolver C) → Reads a (r a) c (r' c) → ((s : Slot) (b : Walk) (d : C) → SlotOk T s → Reads b (g s b) d (g' s d)) → ((s : Slot) (d : C) (h : stopped d ≡ true) → Rests o T d (sim.idle d h) (g' s)) → Reads a ((r when_found g) a) c ((r' when_found g') c)
  unfolding ◌when_found◌ follow give
  reads-next a c r r' g g' h k rests f rel =
      let p = h f rel in
      found-next p
      (sync-reads (r a).walk (r' c).walk (r a).slot (r' c).slot (follow (r a) g)
      (λ (s : Option Slot). elim s [ None ↦ record { slot = None; walk = (r' c).walk } | Some x ↦ g' x (r' c).walk ])
      (λ e _. p.same e)
      (by-option₂ (λ x y. Reads (r a).walk x (r' c).walk y) (r a).slot (λ e. reads_none (r a).walk (r' c).walk) (λ s e. k s (r a).walk (r' c).walk (p.ok s e)))
      (λ e. stays_by e (r' c).slot) p.fit p.rel)
    where
      stays_by : stopped (r' c).walk ≡ true → (s : Option Slot) → (elim s as (λ _. Answer C) [ None ↦ record { slot = None; walk = (r' c).walk } | Some x ↦ g' x (r' c).walk ]).walk ≡ (r' c).walk
      stays_by e None = refl
      stays_by e (Some x) = rests x (r' c).walk e

  reads_fetched : (n p : ℕ) (register : Option ℕ) (a : Walk) (c : C) → p < length T.predicates → Reads a (fetched_row (walk_ops T) T n p register a) c (fetched_row o T n p register c)
  unfolding fetched_row
  reads_fetched n p None a c h = reads-declined n Code.NyiFactField tt a c
  reads_fetched n p (Some r) a c h = reads-some (Slot.Row r (Some p)) a c (λ q e. subst (λ x. x < length T.predicates) (some-injective p q e) h)

  reads-dereference : (n : ℕ) (s : Slot) (a : Walk) (c : C) → SlotOk T s → Reads a (dereference (walk_ops T) T n s a) c (dereference o T n s c)
  unfolding dereference
  reads-dereference n (Slot.Row x p) a c ok = reads-some (Slot.Row x p) a c ok
  reads-dereference n (Slot.Key x t) a c ok = reads-some (Slot.Key x t) a c ok
  reads-dereference n (Slot.Derived x) a c ok = reads-some (Slot.Derived x) a c ok
  reads-dereference n (Slot.Field x path t) a c ok =
      by-option₂ (λ (r : Resolver Walk) (r' : Resolver C). Reads a (r a) c (r' c)) (fact_ty (type_at T t))
      (λ e. reads-some (Slot.Field x path t) a c ok)
      (λ p e. reads_fetched n p (fetched_register T x path) a c (S.facts t p ok.in-types e))
  reads-dereference n (Slot.Value x t) a c ok =
      by-option₂ (λ (r : Resolver Walk) (r' : Resolver C). Reads a (r a) c (r' c)) (fact_ty (type_at T t))
      (λ e. reads-some (Slot.Value x t) a c ok)
      (λ p e. reads-declined n Code.NyiFactField tt a c)
  reads-dereference n (Slot.Const x) a c ok = reads-some (Slot.Const x) a c ok

  reads-row : (x : ℕ) (s : Slot) (a : Walk) (c : C) → SlotOk T s → Reads a (field_of_row (walk_ops T) T x s a) c (field_of_row o T x s c)
  unfolding field_of_row
  reads-row x (Slot.Row n p) a c ok = reads-give _ a c (row_field_lem T S n p x ok)
  reads-row x (Slot.Key n t) a c ok = reads_none a c
  reads-row x (Slot.Derived n) a c ok = reads_none a c
  reads-row x (Slot.Field n path t) a c ok = reads_none a c
  reads-row x (Slot.Value n t) a c ok = reads_none a c
  reads-row x (Slot.Const n) a c ok = reads_none a c

  reads-field : (n : ℕ) (s : Slot) (x : ℕ) (a : Walk) (c : C) → SlotOk T s → Reads a (field_slot (walk_ops T) T n s x a) c (field_slot o T n s x c)
  unfolding field_slot
  reads-field n (Slot.Row m p) x a c ok = reads-give _ a c (row_field_lem T S m p x ok)
  reads-field n (Slot.Key m t) x a c ok =
      reads-give _ a c (slot-at T S m field_path (field_of (type_at T t) x) (λ f q. fits-field T S f.index t f.type (field-child (Child T t) (type_at T t) x f (S.children t ok) q)))
  reads-field n (Slot.Derived m) x a c ok = reads_none a c
  reads-field n (Slot.Field m path t) x a c ok =
      by-option₂ (λ (r : Resolver Walk) (r' : Resolver C). Reads a (r a) c (r' c)) (fact_ty (type_at T t))
      (λ e. reads-give _ a c (slot-at T S m (then path) (field_of (type_at T t) x) (λ f q. fits-then T S path f.index t f.type ok (field-child (Child T t) (type_at T t) x f (S.children t ok.in-types) q))))
      (λ p e. reads-next a c (dereference (walk_ops T) T n (Slot.Field m path t)) (dereference o T n (Slot.Field m path t)) (field_of_row (walk_ops T) T x) (field_of_row o T x)
      (reads-dereference n (Slot.Field m path t) a c ok) (reads-row x) (λ s d h. idle-row o T d (sim.idle d h) x s))
  reads-field n (Slot.Value m t) x a c ok = reads-declined n Code.NyiValueField tt a c
  reads-field n (Slot.Const m) x a c ok = reads-give _ a c (folded-slot T S m x)

  reads-value : (s : Slot) (a : Walk) (c : C) → SlotOk T s → Reads a (value_slot (walk_ops T) T s a) c (value_slot o T s c)
  unfolding value_slot
  reads-value (Slot.Row n p) a c ok = reads-give _ a c (row-value T S n p)
  reads-value (Slot.Key n t) a c ok = reads_none a c
  reads-value (Slot.Derived n) a c ok = reads_none a c
  reads-value (Slot.Field n path t) a c ok = reads_none a c
  reads-value (Slot.Value n t) a c ok = reads_none a c
  reads-value (Slot.Const n) a c ok = reads_none a c

  reads-selected : (n : ℕ) (path : FieldPath) (t : ℕ) (alt : Option Alternative) (a : Walk) (c : C) → Fits T path t → ((b : Alternative) → alt ≡ Some b → Child T t b.type) → Reads a (selected (walk_ops T) T n path alt a) c (selected o T n path alt c)
  unfolding selected payload
  reads-selected n path t None a c ok child = reads_none a c
  reads-selected n path t (Some alt) a c ok child = λ f r.
      let g = goes_select n path alt.disc a c (fits-short T S path t ok) f r in
      record { grew = g.grew; fit = g.fit; rel = g.rel; still = g.still; ok = λ s e. subst (SlotOk T) (some-injective _ s e) (fits-then T S path alt.disc t alt.type ok (child alt refl)); same = λ h. refl }

  reads-select : (n : ℕ) (s : Slot) (x : ℕ) (a : Walk) (c : C) → SlotOk T s → Reads a (select_slot (walk_ops T) T n s x a) c (select_slot o T n s x c)
  unfolding select_slot alternative_of
  reads-select n (Slot.Row m p) x a c ok = reads-declined n Code.NyiFactField tt a c
  reads-select n (Slot.Key m t) x a c ok = reads-declined n Code.NyiFactField tt a c
  reads-select n (Slot.Derived m) x a c ok = reads-declined n Code.NyiFactField tt a c
  reads-select n (Slot.Field m path t) x a c ok =
      by-option₂ (λ (r : Resolver Walk) (r' : Resolver C). Reads a (r a) c (r' c)) (union_ty (type_at T t))
      (λ e. reads-declined n Code.NyiFactField tt a c)
      (λ alts e. reads-selected m path t _ a c ok (λ b q. each_first _ (union-children (Child T t) (type_at T t) alts (S.children t ok.in-types) e) b q))
  reads-select n (Slot.Value m t) x a c ok = reads-declined n Code.NyiFactField tt a c
  reads-select n (Slot.Const m) x a c ok = reads-declined n Code.NyiFactField tt a c

  -- a base read and dereferenced
  reads-base : (below : ℕ → Resolver Walk) (below' : ℕ → Resolver C) → ((m : ℕ) (a : Walk) (c : C) → Reads a (below m a) c (below' m c)) → (n base : ℕ) (g : Slot → Resolver Walk) (g' : Slot → Resolver C) → ((s : Slot) (a : Walk) (c : C) → SlotOk T s → Reads a (g s a) c (g' s c)) → ((s : Slot) (d : C) (h : stopped d ≡ true) → Rests o T d (sim.idle d h) (g' s)) → (a : Walk) (c : C) → Reads a ((below base when_found λ slot. (dereference (walk_ops T) T n slot when_found g)) a) c ((below' base when_found λ slot. (dereference o T n slot when_found g')) c)
  reads-base below below' h n base g g' k rests a c =
      reads-next a c (below base) (below' base) (λ slot. (dereference (walk_ops T) T n slot when_found g)) (λ slot. (dereference o T n slot when_found g')) (h base a c)
      (λ s b d ok. reads-next b d (dereference (walk_ops T) T n s) (dereference o T n s) g g' (reads-dereference n s b d ok) k rests)
      (λ s d e. idle-next o T d (sim.idle d e) (dereference o T n s) g' (idle-dereference o T d (sim.idle d e) n s) (λ x. rests x d e))

  reads-node : (below : ℕ → Resolver Walk) (below' : ℕ → Resolver C) → ((m : ℕ) (a : Walk) (c : C) → Reads a (below m a) c (below' m c)) → (n : ℕ) (node : Node) (a : Walk) (c : C) → Reads a (resolve_node (walk_ops T) T below n node a) c (resolve_node o T below' n node c)
  unfolding resolve_node
  reads-node below below' h n (Node.Int bytes) a c = reads_none a c
  reads-node below below' h n (Node.Str x) a c = reads_none a c
  reads-node below below' h n (Node.Bytes bytes) a c = reads_none a c
  reads-node below below' h n (Node.Var x) a c = λ f r. record { grew = K.same a; fit = f; rel = r; still = λ e. e; ok = λ s e. lookup-ok T S a.lists.bindings x s f e; same = λ e. sim.lookups a c f e r x }
  reads-node below below' h n Node.Wildcard a c = reads_none a c
  reads-node below below' h n Node.Never a c = reads_none a c
  reads-node below below' h n (Node.Prefix x) a c = reads_none a c
  reads-node below below' h n (Node.Fuzzy x d k) a c = reads_none a c
  reads-node below below' h n (Node.Record fs) a c = reads_none a c
  reads-node below below' h n (Node.Access x base) a c =
      reads-base below below' h n base (λ place. field_slot (walk_ops T) T n place x) (λ place. field_slot o T n place x) (λ s b d ok. reads-field n s x b d ok) (λ s d e. idle-field_slot o T d (sim.idle d e) n s x) a c
  reads-node below below' h n (Node.Value base) a c = reads-base below below' h n base (value_slot (walk_ops T) T) (value_slot o T) reads-value (λ s d e. idle-value o T d (sim.idle d e) s) a c
  reads-node below below' h n (Node.Select x base) a c =
      reads-base below below' h n base (λ place. select_slot (walk_ops T) T n place x) (λ place. select_slot o T n place x) (λ s b d ok. reads-select n s x b d ok) (λ s d e. idle-select_slot o T d (sim.idle d e) n s x) a c
  reads-node below below' h n Node.Disjunction a c = reads_none a c
  reads-node below below' h n Node.Subquery a c = reads_none a c
  reads-node below below' h n (Node.Fact p key') a c = λ f r.
      record { grew = K.same a; fit = f; rel = r; still = λ e. e; ok = λ s e. hoisted-ok T S a.lists.bindings n s f e; same = λ e. ap (λ (g : ℕ → Option Slot). hoisted_slot T g n) (fun_ext (sim.lookups a c f e r)) }
  reads-node below below' h n Node.Arith a c = reads_none a c
  reads-node below below' h n Node.Error a c = reads_none a c

  reads-below : (limit n : ℕ) (a : Walk) (c : C) → Reads a (resolve_below (walk_ops T) T limit n a) c (resolve_below o T limit n c)
  unfolding resolve_below
  reads-below zero n a c = reads_none a c
  reads-below (suc limit) n a c =
      by-test₂ (λ (r : Resolver Walk) (r' : Resolver C). Reads a (r a) c (r' c)) (is_constant T n)
      (λ e. reads-some (Slot.Const n) a c tt)
      (λ e. reads-node (resolve_below (walk_ops T) T limit) (resolve_below o T limit) (reads-below limit) n (node_at T n) a c)

  reads-resolve : (n : ℕ) (a : Walk) (c : C) → Reads a (resolve (walk_ops T) T n a) c (resolve o T n c)
  unfolding resolve
  reads-resolve n a c = reads-below (length T.nodes) n a c

  -- The walk. A walk of one pattern at a type and a path that stands there; of the other run also that it rests once stopped.
  abbrev pub Walks : FieldWalk Walk → FieldWalk C → Type 0
  Walks g g' = (n t : ℕ) (path : FieldPath) (a : Walk) (c : C) → Stands T P path t → Goes a (g n t path a) c (g' n t path c)

  abbrev RestsWhole : FieldWalk C → Type 0
  RestsWhole g' = (c : C) (h : stopped c ≡ true) → Stays o T c (sim.idle c h) g'

  stands-short : (path : FieldPath) (t : ℕ) → Stands T P path t → Short path
  stands-short path t s = fits-short T S path t s.fits

  goes-each : (g : FieldWalk Walk) (g' : FieldWalk C) (missing : Walk → Walk) (missing' : C → C) (place : ℕ → FieldPath) (fields : List FieldPattern) → Walks g g' → ((a : Walk) (c : C) → Goes a (missing a) c (missing' c)) → (i : ℕ) {fs : List FieldTy} → Each (λ f. (k : ℕ) → Fits T (place k) f.type) fs → ((k : ℕ) → k < i + length fs → P (place k)) → (a : Walk) (c : C) → Goes a (each_field g missing place fields i fs a) c (each_field g' missing' place fields i fs c)
  unfolding each_field
  goes-each g g' missing missing' place fields h m i done within a c = goes_same a c
  goes-each g g' missing missing' place fields h m i (more {x = f} {xs = fs} fits rest) within a c =
      by-option₂ (λ a' c'. Goes a a' c c') (field_pattern fields f.name) (λ e. m a c) (λ pattern e. h pattern f.type (place i) a c (record { fits = fits i; within = within i (omega arith) }))
      and goes-each g g' missing missing' place fields h m (suc i) rest (λ k l. within k (omega arith)) _ _

  goes-constraints : (ks : List Constraint) (t : ℕ) (path : FieldPath) (a : Walk) (c : C) → Short path → Goes a (constrain_each (walk_ops T) T ks t path a) c (constrain_each o T ks t path c)
  unfolding constrain_each narrow_by
  goes-constraints [] t path a c s = goes_same a c
  goes-constraints (k ∷ ks) t path a c s =
      goes-constant-or k.node k.node t path a _ c _ s (goes-skip a c and goes-report k.node Code.RejectTypeMismatch tt (skip a) (o.skip c))
      and goes-constraints ks t path _ _ s

  goes-constrain-by : (ks : List Constraint) (x t : ℕ) (path : FieldPath) (a : Walk) (c : C) → Short path → Goes a (constrain_by (walk_ops T) T ks x t path a) c (constrain_by o T ks x t path c)
  unfolding constrain_by
  goes-constrain-by [] x t path a c s = goes-bound x t a c
  goes-constrain-by (k ∷ ks) x t path a c s = goes-constrained x a c and goes-constraints (k ∷ ks) t path (constrained x a) (o.constrained x c) s

  goes-constrain : (x t : ℕ) (path : FieldPath) (a : Walk) (c : C) → Short path → Goes a (constrain (walk_ops T) T x t path a) c (constrain o T x t path c)
  unfolding constrain
  goes-constrain x t path a c s = goes-constrain-by (ranked T x) x t path a c s

  goes-unresolved : (n : ℕ) (a₀ a : Walk) (c₀ c : C) → R a₀ c₀ → (stopped c ≡ false → stopped c₀ ≡ false) → Goes a (unresolved (walk_ops T) T n a₀ a) c (unresolved o T n c₀ c)
  unfolding unresolved
  goes-unresolved n a₀ a c₀ c r₀ on =
      by-test₂ (λ a' c'. Goes a a' c c') (deferred (node_at T n))
      (λ e. goes-skip a c)
      (λ e. sync a c (eqb (length a.lists.diagnostics) (length a₀.lists.diagnostics)) (eqb (o.reported c) (o.reported c₀)) _
      (λ (b : Bool). elim b [ true ↦ o.report n Code.RejectUnresolvedAccess (o.skip c) | false ↦ o.skip c ])
      (λ _ q r. sim.reported a a₀ c c₀ q (on q) r r₀)
      (by-test₂ (λ a' c'. Goes a a' c c') (eqb (length a.lists.diagnostics) (length a₀.lists.diagnostics))
      (λ q. goes-skip a c and goes-report n Code.RejectUnresolvedAccess tt (skip a) (o.skip c))
      (λ q. goes-skip a c))
      (λ q. by-test (λ w. w ≡ c) (eqb (o.reported c) (o.reported c₀)) (λ _. ap (o.report n Code.RejectUnresolvedAccess) (sim.idle c q).skip ∙ (sim.idle c q).report n _) (λ _. (sim.idle c q).skip)))

  module _ (below : FieldWalk Walk) (below' : FieldWalk C) (B : Walks below below') (D : RestsWhole below') where
    goes-partial-fields : (fields : Option (List FieldPattern)) (t : ℕ) (fs : Option (List FieldTy)) (path : FieldPath) (a : Walk) (c : C) → Stands T P path t → fs ≡ record_ty (type_at T t) → Goes a (partial_fields (walk_ops T) T address below fields fs path a) c (partial_fields o T address below' fields fs path c)
    unfolding partial_fields
    goes-partial-fields None t fs path a c s e = goes_same a c
    goes-partial-fields (Some fields) t None path a c s e = goes_same a c
    goes-partial-fields (Some fields) t (Some fs) path a c s e =
        goes-each below below' (λ w. w) (λ w. w) (then path) fields B goes_same 0
        (each-imply (λ g h k. fits-then T S path k t g.type s.fits h) (record-children (Child T t) (type_at T t) fs (S.children t s.fits.in-types) (sym e)))
        (λ k l. numbers.next path t k fs s.within (sym e) (omega arith)) a c

    goes-partial : Walks (partial (walk_ops T) T address below) (partial o T address below')
    unfolding partial
    goes-partial n t path a c s = goes-skip a c and goes-partial-fields (record_fields (node_at T n)) t (record_ty (type_at T t)) path (skip a) (o.skip c) s refl

    goes-matched : (n : ℕ) (slot : Slot) (t : ℕ) (path : FieldPath) (a : Walk) (c : C) → SlotOk T slot → Stands T P path t → Goes a (matched (walk_ops T) T address below n slot t path a) c (matched o T address below' n slot t path c)
    unfolding matched narrow_by
    goes-matched n (Slot.Row from p) t path a c ok s =
        by-test₂ (λ a' c'. Goes a a' c c') (refers_to p (fact_ty (type_at T t))) (λ e. goes-fact n from path a c (stands-short path t s)) (λ e. goes-report n Code.RejectTypeMismatch tt a c)
    goes-matched n (Slot.Key from ty) t path a c ok s = goes-skip a c and goes-report n Code.NyiWholeKey tt (skip a) (o.skip c)
    goes-matched n (Slot.Derived from) t path a c ok s = goes-skip a c and goes-report n Code.NyiValueMatch tt (skip a) (o.skip c)
    goes-matched n (Slot.Field from at ty) t path a c ok s =
        let short = fits-short T S at ty ok in
        by-test₂ (λ a' c'. Goes a a' c c') (eqb from address) (λ e. goes-own n at path a c short (stands-short path t s)) (λ e. goes-register n from at path a c short (stands-short path t s))
    goes-matched n (Slot.Value from ty) t path a c ok s = goes-report n Code.NyiValueMatch tt a c
    goes-matched n (Slot.Const folded) t path a c ok s =
        goes-constant-or n folded t path a _ c _ (stands-short path t s)
        (goes-brings (Slot.Const folded) (type_at T t) a c and goes-partial folded t path _ _ s)

    goes-alternative : (n : ℕ) (g : FieldPattern) (alt : Option Alternative) (t : ℕ) (path : FieldPath) (a : Walk) (c : C) → Stands T P path t → ((b : Alternative) → alt ≡ Some b → Child T t b.type) → ((b : Alternative) → alt ≡ Some b → P (payload path b.disc)) → Goes a (inject_alternative (walk_ops T) T address below n g alt path a) c (inject_alternative o T address below' n g alt path c)
    unfolding inject_alternative payload
    goes-alternative n g None t path a c s child within = goes-skip a c and goes-report n Code.RejectUnknownAlternative tt (skip a) (o.skip c)
    goes-alternative n g (Some alt) t path a c s child within =
        goes-union n alt.disc path a _ c _ (stands-short path t s)
        (B g.node alt.type (then path alt.disc) (narrow n path (Narrowing.Tag alt.disc) a) (o.narrow n path (Narrowing.Tag alt.disc) c)
        (record { fits = fits-then T S path alt.disc t alt.type s.fits (child alt refl); within = within alt refl }))

    goes-only : (n : ℕ) (g : Option FieldPattern) (alts : List Alternative) (t : ℕ) (path : FieldPath) (a : Walk) (c : C) → Stands T P path t → union_ty (type_at T t) ≡ Some alts → Goes a (inject_only (walk_ops T) T address below n g alts path a) c (inject_only o T address below' n g alts path c)
    unfolding inject_only alternative_of
    goes-only n None alts t path a c s e = goes-skip a c and goes-report n Code.RejectUnionArity tt (skip a) (o.skip c)
    goes-only n (Some g) alts t path a c s e =
        goes-alternative n g _ t path a c s
        (λ b q. each_first _ (union-children (Child T t) (type_at T t) alts (S.children t s.fits.in-types) e) b q)
        (λ b q. each_first _ (numbers.tag path t alts s.within e) b q)

    goes-inject : (fields : List FieldPattern) (alts : List Alternative) (n t : ℕ) (path : FieldPath) (a : Walk) (c : C) → Stands T P path t → union_ty (type_at T t) ≡ Some alts → Goes a (inject (walk_ops T) T address below fields alts n t path a) c (inject o T address below' fields alts n t path c)
    unfolding inject narrow_by
    goes-inject fields alts n t path a c s e =
        goes-constant-or n n t path a _ c _ (stands-short path t s) (goes-only n (only_field fields) alts t path a c s e)

    goes-answer : (n : ℕ) (slot : Option Slot) (t : ℕ) (path : FieldPath) (a₀ a : Walk) (c₀ c : C) → ((s' : Slot) → slot ≡ Some s' → SlotOk T s') → R a₀ c₀ → (stopped c ≡ false → stopped c₀ ≡ false) → Stands T P path t → Goes a (read_answer (walk_ops T) T address below n slot t path a₀ a) c (read_answer o T address below' n slot t path c₀ c)
    unfolding read_answer
    goes-answer n (Some slot) t path a₀ a c₀ c ok r₀ on s = goes-matched n slot t path a c (ok slot refl) s
    goes-answer n None t path a₀ a c₀ c ok r₀ on s =
        by-option₂ (λ a' c'. Goes a a' c c') (record_fields (node_at T n)) (λ e. goes-unresolved n a₀ a c₀ c r₀ on) (λ fields e. goes-partial n t path a c s)

    goes-read : Walks (read (walk_ops T) T address below) (read o T address below')
    unfolding read
    goes-read n t path a c s f r =
        let x = reads-resolve n a c f r in
        ((λ _ _. reads-walk x)
        and sync (resolve (walk_ops T) T n a).walk (resolve o T n c).walk (resolve (walk_ops T) T n a).slot (resolve o T n c).slot _
        (λ (slot : Option Slot). read_answer o T address below' n slot t path c (resolve o T n c).walk)
        (λ _ e _. x.same e)
        (goes-answer n (resolve (walk_ops T) T n a).slot t path a (resolve (walk_ops T) T n a).walk c (resolve o T n c).walk x.ok r (went_on x.still) s)
        (λ e. idle-read_answer o T (resolve o T n c).walk (sim.idle _ e) address below' (D _ e) n (resolve o T n c).slot t path c)) f r

    goes-ranged : Walks (ranged (walk_ops T) T address below) (ranged o T address below')
    unfolding ranged narrow_by
    goes-ranged n t path a c s =
        goes-constant-or n n t path a _ c _ (stands-short path t s) (goes-report n Code.RejectTypeMismatch tt a c)

    goes-variable : (x : ℕ) → N x → Walks (variable (walk_ops T) T address below x) (variable o T address below' x)
    unfolding variable
    goes-variable x nx n t path a c s =
        sync a c (lookup a.lists.bindings x) (o.lookup c x) _
        (λ (found : Option Slot). elim found [ None ↦ constrain o T x t path (o.bind x (Slot.Field address path t) c) | Some slot ↦ read o T address below' n t path c ])
        (λ f e r. sim.lookups a c f e r x)
        (by-option₂ (λ a' c'. Goes a a' c c') (lookup a.lists.bindings x)
        (λ e. goes-bind-field x t path a c e nx s and goes-constrain x t path (bind x (Slot.Field address path t) a) (o.bind x (Slot.Field address path t) c) (stands-short path t s))
        (λ slot e. goes-read n t path a c s))
        (λ e. idle-variable o T c (sim.idle c e) address below' (D c e) x n t path)

    goes-node : (node : Node) (n t : ℕ) (path : FieldPath) (a : Walk) (c : C) → node_at T n ≡ node → Stands T P path t → Goes a (field_node (walk_ops T) T address below node n t path a) c (field_node o T address below' node n t path c)
    unfolding field_node
    goes-node (Node.Int bytes) n t path a c e s = goes-read n t path a c s
    goes-node (Node.Str x) n t path a c e s = goes-read n t path a c s
    goes-node (Node.Bytes bytes) n t path a c e s = goes-read n t path a c s
    goes-node (Node.Var x) n t path a c e s = goes-variable x (numbers.names n x e) n t path a c s
    goes-node Node.Wildcard n t path a c e s = goes-skip a c
    goes-node Node.Never n t path a c e s = goes-skip a c and goes-report n Code.NyiNever tt (skip a) (o.skip c)
    goes-node (Node.Prefix x) n t path a c e s = goes-ranged n t path a c s
    goes-node (Node.Fuzzy x d k) n t path a c e s = goes-ranged n t path a c s
    goes-node (Node.Record fs) n t path a c e s =
        by-option₂ (λ a' c'. Goes a a' c c') (union_ty (type_at T t)) (λ q. goes-read n t path a c s) (λ alts q. goes-inject fs alts n t path a c s q)
    goes-node (Node.Access x base) n t path a c e s = goes-read n t path a c s
    goes-node (Node.Value base) n t path a c e s = goes-read n t path a c s
    goes-node (Node.Select x base) n t path a c e s = goes-read n t path a c s
    goes-node Node.Disjunction n t path a c e s = goes-skip a c and goes-report n Code.NyiDisjunction tt (skip a) (o.skip c)
    goes-node Node.Subquery n t path a c e s = goes-read n t path a c s
    goes-node (Node.Fact p key') n t path a c e s = goes-read n t path a c s
    goes-node Node.Arith n t path a c e s = goes-read n t path a c s
    goes-node Node.Error n t path a c e s = goes-read n t path a c s

  goes-below : (limit : ℕ) → Walks (field_below (walk_ops T) T address limit) (field_below o T address limit)
  unfolding field_below
  goes-below zero n t path a c s = goes_same a c
  goes-below (suc limit) n t path a c s =
      goes-node (field_below (walk_ops T) T address limit) (field_below o T address limit) (goes-below limit) (λ d e. idle-field_below o T d (sim.idle d e) address limit) (node_at T n) n t path a c refl s

  goes-field : Walks (field (walk_ops T) T address) (field o T address)
  unfolding field
  goes-field n t path a c s = goes-below (length T.types) n t path a c s

  rests-field : RestsWhole (field o T address)
  rests-field d e = idle-field o T d (sim.idle d e) address

  -- the fields of a key type, at their own paths; i is the first one's index
  record KeyFields (i : ℕ) (fs : List FieldTy) : Type 0 where
    fits : Each (λ f. (k : ℕ) → Fits T (field_path k) f.type) fs
    within : (k : ℕ) → k < i + length fs → P (field_path k)

  goes-whole-fields : (n : ℕ) (slot : Slot) → SlotOk T slot → (i : ℕ) {fs : List FieldTy} → Each (λ f. (k : ℕ) → Fits T (field_path k) f.type) fs → ((k : ℕ) → k < i + length fs → P (field_path k)) → (a : Walk) (c : C) → Goes a (whole_fields (walk_ops T) T address n slot i fs a) c (whole_fields o T address n slot i fs c)
  unfolding whole_fields
  goes-whole-fields n slot ok i done within a c = goes_same a c
  goes-whole-fields n slot ok i (more {x = f} {xs = fs} fits rest) within a c = λ fit r.
      let x = reads-field n slot f.name a c ok fit r in
      let a' = (field_slot (walk_ops T) T n slot f.name a).walk in
      let c' = (field_slot o T n slot f.name c).walk in
      ((λ _ _. reads-walk x)
      and sync a' c' (field_slot (walk_ops T) T n slot f.name a).slot (field_slot o T n slot f.name c).slot _
      (λ (found : Option Slot). elim found [ None ↦ o.skip c' | Some s ↦ matched o T address (field o T address) (whole_node n s) s f.type (field_path i) c' ])
      (λ _ e _. x.same e)
      (by-option₂ (λ b d. Goes a' b c' d) (field_slot (walk_ops T) T n slot f.name a).slot
      (λ e. goes-skip a' c')
      (λ s e. goes-matched (field (walk_ops T) T address) (field o T address) goes-field rests-field (whole_node n s) s f.type (field_path i) a' c' (x.ok s e) (record { fits = fits i; within = within i (omega arith) })))
      (λ e. rests-at (field_slot o T n slot f.name c).slot e)
      and goes-whole-fields n slot ok (suc i) rest (λ k l. within k (omega arith)) _ _) fit r
    where
      rests-at : (found : Option Slot) (e : stopped (field_slot o T n slot f.name c).walk ≡ true) → (elim found as (λ _. C) [ None ↦ o.skip (field_slot o T n slot f.name c).walk | Some s ↦ matched o T address (field o T address) (whole_node n s) s f.type (field_path i) (field_slot o T n slot f.name c).walk ]) ≡ (field_slot o T n slot f.name c).walk
      rests-at None e = (sim.idle _ e).skip
      rests-at (Some s) e = idle-matched o T _ (sim.idle _ e) address (field o T address) (rests-field _ e) (whole_node n s) s f.type (field_path i)

  goes-whole-read : (n : ℕ) {fs : List FieldTy} → KeyFields 0 fs → (a : Walk) (c : C) → Goes a (whole_read (walk_ops T) T address n fs a) c (whole_read o T address n fs c)
  unfolding whole_read
  goes-whole-read n {fs} k a c = λ fit r.
      let x = reads-resolve n a c fit r in
      ((λ _ _. reads-walk x)
      and sync (resolve (walk_ops T) T n a).walk (resolve o T n c).walk (resolve (walk_ops T) T n a).slot (resolve o T n c).slot _
      (λ (found : Option Slot). elim found [ None ↦ o.skip (resolve o T n c).walk | Some s ↦ whole_fields o T address n s 0 fs (o.brings s (Ty.Record fs) (resolve o T n c).walk) ])
      (λ _ e _. x.same e)
      (by-option₂ (λ b d. Goes (resolve (walk_ops T) T n a).walk b (resolve o T n c).walk d) (resolve (walk_ops T) T n a).slot
      (λ e. goes-skip _ _)
      (λ s e. goes-brings s (Ty.Record fs) _ _ and goes-whole-fields n s (x.ok s e) 0 k.fits k.within _ _))
      (λ e. rests-at (resolve o T n c).slot e)) fit r
    where
      rests-at : (found : Option Slot) (e : stopped (resolve o T n c).walk ≡ true) → (elim found as (λ _. C) [ None ↦ o.skip (resolve o T n c).walk | Some s ↦ whole_fields o T address n s 0 fs (o.brings s (Ty.Record fs) (resolve o T n c).walk) ]) ≡ (resolve o T n c).walk
      rests-at None e = (sim.idle _ e).skip
      rests-at (Some s) e = ap (whole_fields o T address n s 0 fs) ((sim.idle _ e).brings s (Ty.Record fs)) ∙ idle-whole_fields o T _ (sim.idle _ e) address n s 0 fs

  goes-whole-variable : (x n t : ℕ) {fs : List FieldTy} → N x → t < length T.types → KeyFields 0 fs → (a : Walk) (c : C) → Goes a (whole_variable (walk_ops T) T address x n t fs a) c (whole_variable o T address x n t fs c)
  unfolding whole_variable emit
  goes-whole-variable x n t {fs} nx l k a c =
      sync a c (lookup a.lists.bindings x) (o.lookup c x) _
      (λ (found : Option Slot). elim found [ None ↦ o.bind x (Slot.Key address t) (o.skip c) | Some slot ↦ whole_read o T address n fs c ])
      (λ f e r. sim.lookups a c f e r x)
      (by-option₂ (λ b d. Goes a b c d) (lookup a.lists.bindings x)
      (λ e. goes-skip a c and goes-bind-key x t (skip a) (o.skip c) e nx l)
      (λ slot e. goes-whole-read n k a c))
      (λ e. idle-whole_variable o T c (sim.idle c e) address x n t fs)

  goes-whole : (node : Node) (n t : ℕ) {fs : List FieldTy} → node_at T n ≡ node → t < length T.types → KeyFields 0 fs → (a : Walk) (c : C) → Goes a (whole_key (walk_ops T) T address node n t fs a) c (whole_key o T address node n t fs c)
  unfolding whole_key
  goes-whole (Node.Int bytes) n t e l k a c = goes-whole-read n k a c
  goes-whole (Node.Str x) n t e l k a c = goes-whole-read n k a c
  goes-whole (Node.Bytes bytes) n t e l k a c = goes-whole-read n k a c
  goes-whole (Node.Var x) n t e l k a c = goes-whole-variable x n t (numbers.names n x e) l k a c
  goes-whole Node.Wildcard n t e l k a c = goes-skip a c
  goes-whole Node.Never n t e l k a c = goes-whole-read n k a c
  goes-whole (Node.Prefix x) n t e l k a c = goes-whole-read n k a c
  goes-whole (Node.Fuzzy x d y) n t e l k a c = goes-whole-read n k a c
  goes-whole (Node.Record fs) n t e l k a c = goes-whole-read n k a c
  goes-whole (Node.Access x base) n t e l k a c = goes-whole-read n k a c
  goes-whole (Node.Value base) n t e l k a c = goes-whole-read n k a c
  goes-whole (Node.Select x base) n t e l k a c = goes-whole-read n k a c
  goes-whole Node.Disjunction n t e l k a c = goes-whole-read n k a c
  goes-whole Node.Subquery n t e l k a c = goes-whole-read n k a c
  goes-whole (Node.Fact p key') n t e l k a c = goes-whole-read n k a c
  goes-whole Node.Arith n t e l k a c = goes-whole-read n k a c
  goes-whole Node.Error n t e l k a c = goes-whole-read n k a c

  goes-record : (fields : Option (List FieldPattern)) (n t : ℕ) {fs : List FieldTy} → t < length T.types → KeyFields 0 fs → (a : Walk) (c : C) → Goes a (record_key (walk_ops T) T address fields n t fs a) c (record_key o T address fields n t fs c)
  unfolding record_key
  goes-record (Some fields) n t l k a c = goes-each (field (walk_ops T) T address) (field o T address) skip o.skip field_path fields goes-field goes-skip 0 k.fits k.within a c
  goes-record None n t l k a c = goes-whole (node_at T n) n t refl l k a c

  -- the walk of a level's key
  pub goes-key : (n t : ℕ) (a : Walk) (c : C) → t < length T.types → Goes a (key (walk_ops T) T address n t a) c (key o T address n t c)
  unfolding key field_path
  goes-key n t a c h =
      by-option₂ (λ b d. Goes a b c d) (record_ty (type_at T t))
      (λ e. goes-field n t (field_path 0) a c (record { fits = record { in-types = h; short = omega (arith, S.shallow t h) }; within = numbers.scalar }))
      (λ fs e. goes-record (record_fields (node_at T n)) n t h
      (record {
        fits = each-imply (λ g k i. fits-field T S i t g.type k) (record-children (Child T t) (type_at T t) fs (S.children t h) e);
        within = λ k l. numbers.first t k fs e (omega arith);
      }) a c)
