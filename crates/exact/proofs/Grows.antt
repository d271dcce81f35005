-- What every piece of a walk does, whatever the key: it adds to the lists, binds no Const, and places its events.
use mathlib.Core.Bool.{Bool, true, false}
use mathlib.Core.List.{List, [], ◌∷◌, ◌++◌}
use Rattle.std.specs.Prelude.{Option, None, Some}
use mathlib.Core.Path.{◌≡◌, refl, sym, ap, ◌∙◌, subst}
use Prim.Native.Nat.{ℕ}
use native.Mathlib.Omega.{arith}
use borrow.Author.Tests.{eq-eqb}
use lib.Dec.{eqb}
use Rattle.rules.specs.Base.{either, last_or, ◌when_some◌}
use Rattle.rules.specs.File.{Tables, Ty, FieldPath, Slot, Binding}
use Rattle.rules.specs.Constant.{lookup, const_node}
use Rattle.rules.specs.Events.{Code, Narrowing, Event, Walk, bind, constrained, report, emit, is_mistyped, brings, walk_ops}
use Rattle.rules.specs.Resolve.{resolve}
use Rattle.rules.specs.Placement.{SeekKeyPart, Edges, SeekBuilder, new, with_part, with_residual, with_guide, with_range, with_edges, with_closer, fall, place_part, place_prefix, attachable, place_fuzzy, place_own, place_closer, Sided, sided, place_bound}
use Rattle.rules.proofs.Cases.{by-test}
use Rattle.rules.specs.Constant.{const_bound}
use Rattle.rules.proofs.Consts.{SameConsts, const-snoc}
use Rattle.exact.specs.Values.{Value}
use Rattle.exact.specs.Keys.{Engine}
use Rattle.exact.specs.Placings.{placed_by, placement, open_placings}
use Rattle.exact.proofs.Steps.{Steps, steps-same, steps_next, steps-skip, steps-narrowing, steps-closer, steps-bound}
use Rattle.exact.proofs.Folding.{Has}
use Rattle.exact.proofs.Unplaced.{Or, left, right}
use Rattle.exact.proofs.Folded.{comparison_at, fold-of}
use Rattle.exact.proofs.Quiet.{Clean, read_is}

-- what a walk has placed
abbrev pub built : Tables → Walk → SeekBuilder
built T w = placed_by placement T w.events new

pub built-emit : (T : Tables) (e : Event) (w : Walk) → built T (emit e w) ≡ placement T e (built T w)
unfolding emit placed_by
built-emit T e w = go w.events new
  where
    go : (es : List Event) (b : SeekBuilder) → placed_by placement T (es ++ (e ∷ [])) b ≡ placement T e (placed_by placement T es b)
    go [] b = refl
    go (d ∷ es) b = go es (placement T d b)

abbrev IsNil : {A : Type 0} → List A → Type 0
IsNil [] = Unit {0}
IsNil (x ∷ xs) = ⊥

snoc-nil : {A : Type 0} (xs : List A) (x : A) → xs ++ (x ∷ []) ≡ [] → ⊥
snoc-nil [] x e = subst IsNil (sym e) tt
snoc-nil (y ∷ xs) x e = subst IsNil (sym e) tt

-- a diagnostic was made
pub dirty : (n : ℕ) (code : Code) (w : Walk) → Clean (report n code w) → ⊥
unfolding report
dirty n code w c = snoc-nil w.lists.diagnostics (record { node = n; code = code }) c.diagnostics

-- a name that is bound stays bound
last_more : (found : Option Binding) (p : Binding → Bool) (bs : List Binding) (b : Binding) → last_or found p (bs ++ (b ∷ [])) ≡ elim (p b) as (λ _. Option Binding) [ true ↦ Some b | false ↦ last_or found p bs ]
unfolding last_or
last_more found p [] b = refl
last_more found p (c ∷ bs) b =
    by-test (λ (o : Option Binding). last_or found p ((c ∷ bs) ++ (b ∷ [])) ≡ elim (p b) as (λ _. Option Binding) [ true ↦ Some b | false ↦ o ]) (p c)
    (λ t. ap (λ (x : Bool). elim x as (λ _. Option Binding) [ true ↦ last_or (Some c) p (bs ++ (b ∷ [])) | false ↦ last_or found p (bs ++ (b ∷ [])) ]) t ∙ last_more (Some c) p bs b)
    (λ t. ap (λ (x : Bool). elim x as (λ _. Option Binding) [ true ↦ last_or (Some c) p (bs ++ (b ∷ [])) | false ↦ last_or found p (bs ++ (b ∷ [])) ]) t ∙ last_more found p bs b)

pub lookup-more : (bs : List Binding) (b : Binding) (x : ℕ) (slot : Slot) → lookup bs x ≡ Some slot → (slot' : Slot) × (lookup (bs ++ (b ∷ [])) x ≡ Some slot')
unfolding lookup ◌when_some◌
lookup-more bs b x slot e = go (eqb b.name x) refl
  where
    go : (t : Bool) → eqb b.name x ≡ t → (slot' : Slot) × (lookup (bs ++ (b ∷ [])) x ≡ Some slot')
    go true q = (b.slot, ap (λ (o : Option Binding). o when_some λ c. Some c.slot) (last_more None (λ c. eqb c.name x) bs b ∙ ap (λ (t : Bool). elim t as (λ _. Option Binding) [ true ↦ Some b | false ↦ last_or None (λ c. eqb c.name x) bs ]) q))
    go false q = (slot, ap (λ (o : Option Binding). o when_some λ c. Some c.slot) (last_more None (λ c. eqb c.name x) bs b ∙ ap (λ (t : Bool). elim t as (λ _. Option Binding) [ true ↦ Some b | false ↦ last_or None (λ c. eqb c.name x) bs ]) q) ∙ e)

pub lookup-last : (bs : List Binding) (x : ℕ) (slot : Slot) → lookup (bs ++ (record { name = x; slot = slot } ∷ [])) x ≡ Some slot
unfolding lookup ◌when_some◌
lookup-last bs x slot =
    ap (λ (o : Option Binding). o when_some λ c. Some c.slot)
    (last_more None (λ c. eqb c.name x) bs (record { name = x; slot = slot }) ∙ ap (λ (t : Bool). elim t as (λ _. Option Binding) [ true ↦ Some (record { name = x; slot = slot }) | false ↦ last_or None (λ c. eqb c.name x) bs ]) (eq-eqb x x refl))

pub either_left : (a b : Bool) → either a b ≡ false → a ≡ false
either_left true b e = e
either_left false b e = refl

pub either-right : (a b : Bool) → either a b ≡ false → b ≡ false
either-right true b e = absurd (subst IsFalse e tt)
  where
    IsFalse : Bool → Type 0
    IsFalse true = Unit {0}
    IsFalse false = ⊥
either-right false b e = e

-- Edges are set by a bound alone.
edges-part : (n : ℕ) (part : SeekKeyPart) (path : FieldPath) (op : Narrowing) (b : SeekBuilder) → (place_part n part path op b).edges ≡ b.edges
unfolding place_part with_part with_residual
edges-part n part path op b = by-test (λ (b' : SeekBuilder). b'.edges ≡ b.edges) b.building (λ e. refl) (λ e. refl)

pub edges-skip : (T : Tables) (b : SeekBuilder) → (placement T Event.skip b).edges ≡ b.edges
unfolding open_placings fall
edges-skip T b = refl

pub edges-narrowing : (T : Tables) (n : ℕ) (path : FieldPath) (x : Narrowing) (b : SeekBuilder) → (placement T (Event.narrow n path x) b).edges ≡ b.edges
unfolding open_placings place_prefix place_fuzzy place_own with_range with_guide with_residual fall
edges-narrowing T n path (Narrowing.Bytes bytes) b = edges-part n _ path _ b
edges-narrowing T n path (Narrowing.Tag disc) b = edges-part n _ path _ b
edges-narrowing T n path (Narrowing.RegisterField a at) b = edges-part n _ path _ b
edges-narrowing T n path (Narrowing.FactId a) b = edges-part n _ path _ b
edges-narrowing T n path (Narrowing.Prefix prefix) b = by-test (λ (b' : SeekBuilder). b'.edges ≡ b.edges) b.building (λ e. refl) (λ e. refl)
edges-narrowing T n path (Narrowing.Fuzzy x d a) b = by-test (λ (b' : SeekBuilder). b'.edges ≡ b.edges) (attachable b path) (λ e. refl) (λ e. refl)
edges-narrowing T n path (Narrowing.OwnField at) b = refl

edges-closer : (T : Tables) (n : ℕ) (b : SeekBuilder) → (placement T (Event.closer n) b).edges ≡ b.edges
unfolding open_placings place_closer with_closer with_part
edges-closer T n b = by-test (λ (b' : SeekBuilder). b'.edges ≡ b.edges) b.building (λ e. refl) (λ e. refl)

-- each comparison that the level has folded has a name on one side that is bound, and a constant on the other
abbrev pub Known : Tables → Walk → Type 0
Known T w =
    (i : ℕ) → Has i (built T w).edges.folded → (x : ℕ) × (u : ℕ) × (s : Sided) × (slot : Slot) × (sided T x u (comparison_at T i) ≡ Some s) × (lookup w.lists.bindings x ≡ Some slot)

module _ (T : Tables) (engine : Engine) (ty : Ty) (key : Value) where
  pub record Grows (w w' : Walk) : Type 0 where
    pub clean : Clean w' → Clean w
    pub steps : Steps engine ty key (built T w) (built T w')
    pub consts : SameConsts w w'
    pub known : Known T w → Known T w'

  pub grows_same : (w : Walk) → Grows w w
  grows_same w = record { clean = λ c. c; steps = steps-same engine ty key (built T w); consts = λ x. refl; known = λ k. k }

  pub grows-next : (u v w : Walk) → Grows u v → Grows v w → Grows u w
  grows-next u v w g h =
      record { clean = λ c. g.clean (h.clean c); steps = steps_next engine ty key (built T u) (built T v) (built T w) g.steps h.steps; consts = λ x. h.consts x ∙ g.consts x; known = λ k. h.known (g.known k) }

  grows-emit : (e : Event) (w : Walk) → Steps engine ty key (built T w) (placement T e (built T w)) → (placement T e (built T w)).edges ≡ (built T w).edges → Grows w (emit e w)
  grows-emit e w s d = record { clean = cleaned; steps = subst (Steps engine ty key (built T w)) (sym (built-emit T e w)) s; consts = same; known = knows }
    where
      cleaned : Clean (emit e w) → Clean w
      cleaned c = unfold emit in record { diagnostics = c.diagnostics; typed = c.typed }

      same : SameConsts w (emit e w)
      same x = unfold emit in refl

      folds : (built T (emit e w)).edges.folded ≡ (built T w).edges.folded
      folds = ap (λ (b : SeekBuilder). b.edges.folded) (built-emit T e w) ∙ ap (λ (z : Edges). z.folded) d

      stays : (x : ℕ) (slot : Slot) → lookup w.lists.bindings x ≡ Some slot → lookup (emit e w).lists.bindings x ≡ Some slot
      stays x slot h = unfold emit in h

      knows : Known T w → Known T (emit e w)
      knows k i h =
          let p = k i (subst (Has i) folds h) in
          (p.0, p.1, p.2, p.3, p.4, stays p.0 p.3 p.5)

  pub grows-narrow : (n : ℕ) (path : FieldPath) (x : Narrowing) (w : Walk) → Grows w (emit (Event.narrow n path x) w)
  grows-narrow n path x w = grows-emit (Event.narrow n path x) w (steps-narrowing engine ty key T n path x (built T w)) (edges-narrowing T n path x (built T w))

  pub grows-skip : (w : Walk) → Grows w (emit Event.skip w)
  grows-skip w = grows-emit Event.skip w (steps-skip engine ty key T (built T w)) (edges-skip T (built T w))

  pub grows-closer : (n : ℕ) (w : Walk) → Grows w (emit (Event.closer n) w)
  grows-closer n w = grows-emit (Event.closer n) w (steps-closer engine ty key T n (built T w)) (edges-closer T n (built T w))

  pub built-bound : (x t : ℕ) (w : Walk) → built T (emit Event.skip (emit (Event.bound x t) w)) ≡ placement T Event.skip (placement T (Event.bound x t) (built T w))
  built-bound x t w = built-emit T Event.skip (emit (Event.bound x t) w) ∙ ap (placement T Event.skip) (built-emit T (Event.bound x t) w)

  -- what a bound folds is its name's
  known-bound : (x t : ℕ) (w : Walk) (slot : Slot) → lookup w.lists.bindings x ≡ Some slot → Known T w → (i : ℕ) → Has i (placement T Event.skip (placement T (Event.bound x t) (built T w))).edges.folded
      → (y : ℕ) × (u : ℕ) × (s : Sided) × (slot' : Slot) × (sided T y u (comparison_at T i) ≡ Some s) × (lookup w.lists.bindings y ≡ Some slot')
  unfolding open_placings place_bound with_edges fall comparison_at
  known-bound x t w slot e k i =
      by-test (λ (b : SeekBuilder). Has i b.edges.folded → (y : ℕ) × (u : ℕ) × (s : Sided) × (slot' : Slot) × (sided T y u (comparison_at T i) ≡ Some s) × (lookup w.lists.bindings y ≡ Some slot')) (built T w).building
      (λ on h. from (fold-of T x t 0 T.comparisons (built T w).edges (λ l m. ap (comparison_at T) (omega arith)) i h))
      (λ off h. k i h)
    where
      from : Or (Has i (built T w).edges.folded) ((s : Sided) × (sided T x t (comparison_at T i) ≡ Some s)) → (y : ℕ) × (u : ℕ) × (s : Sided) × (slot' : Slot) × (sided T y u (comparison_at T i) ≡ Some s) × (lookup w.lists.bindings y ≡ Some slot')
      from (left h) = k i h
      from (right h) = (x, t, h.0, slot, h.1, e)

  pub grows-bound : (x t : ℕ) (w : Walk) (slot : Slot) → lookup w.lists.bindings x ≡ Some slot → Grows w (emit Event.skip (emit (Event.bound x t) w))
  unfolding emit
  grows-bound x t w slot e =
      record {
        clean = λ c. record { diagnostics = c.diagnostics; typed = c.typed };
        steps = subst (Steps engine ty key (built T w)) (sym (built-bound x t w)) (steps-bound engine ty key T x t (built T w));
        consts = λ y. refl;
        known = λ k i h. known-bound x t w slot e k i (subst (λ (b : SeekBuilder). Has i b.edges.folded) (built-bound x t w) h);
      }

  pub grows-report : (n : ℕ) (code : Code) (w : Walk) → Grows w (report n code w)
  unfolding report
  grows-report n code w =
      record {
        clean = λ c. absurd (dirty n code w c);
        steps = steps-same engine ty key (built T w);
        consts = λ x. refl;
        known = λ k. k;
      }

  pub grows-constrained : (x : ℕ) (w : Walk) → Grows w (constrained x w)
  unfolding constrained
  grows-constrained x w =
      record {
        clean = λ c. record { diagnostics = c.diagnostics; typed = c.typed };
        steps = steps-same engine ty key (built T w);
        consts = λ y. refl;
        known = λ k. k;
      }

  pub grows-bind : (x : ℕ) (slot : Slot) (w : Walk) → lookup w.lists.bindings x ≡ None → const_node slot ≡ None → Grows w (bind x slot w)
  unfolding bind
  grows-bind x slot w e k =
      record {
        clean = λ c. record { diagnostics = c.diagnostics; typed = c.typed };
        steps = steps-same engine ty key (built T w);
        consts = λ y. const-snoc w.lists.bindings (record { name = x; slot = slot }) y e k;
        known = λ h i p.
            let f = h i p in
            let l = lookup-more w.lists.bindings (record { name = x; slot = slot }) f.0 f.3 f.5 in
            (f.0, f.1, f.2, l.0, f.4, l.1);
      }

  pub grows-brings : (slot : Slot) (u : Ty) (w : Walk) → Grows w (brings T slot u w)
  unfolding brings
  grows-brings slot u w =
      record {
        clean = λ c. record { diagnostics = c.diagnostics; typed = either_left w.mistyped (is_mistyped T slot u) c.typed };
        steps = steps-same engine ty key (built T w);
        consts = λ x. refl;
        known = λ k. k;
      }

  -- a read
  pub grows-read : (n : ℕ) (w : Walk) → Grows w (resolve (walk_ops T) T n w).walk
  grows-read n w =
      let r = read_is T n w in
      record {
        clean = r.clean;
        steps = subst (Steps engine ty key (built T w)) (ap (λ es. placed_by placement T es new) (sym r.events)) (steps-same engine ty key (built T w));
        consts = λ x. ap (λ bs. const_bound bs x) r.bindings;
        known = λ h i p.
            let f = h i (subst (λ es. Has i (placed_by placement T es new).edges.folded) r.events p) in
            (f.0, f.1, f.2, f.3, f.4, ap (λ bs. lookup bs f.0) r.bindings ∙ f.5);
      }
