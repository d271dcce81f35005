-- Placement of events whose bounds a skip follows: what demand 3 says of one level.
use mathlib.Core.Bool.{true, false}
use mathlib.Core.List.{List, [], ◌∷◌, ◌++◌, append-nil, append_assoc}
use Rattle.std.specs.Prelude.{Option, None, Some}
use mathlib.Core.Path.{◌≡◌, refl, sym, ap, ◌∙◌, subst}
use Prim.Native.Nat.{ℕ, suc, ◌+◌, ◌-◌, ◌≤◌, ◌<◌}
use native.Mathlib.Omega.{arith}
use lib.Dec.{eqb}
use lib.ListN.{length, take, drop, length-append}
use lib.Seq.{take-add}
use Rattle.rules.specs.Base.{concat_map}
use Rattle.rules.specs.File.{Tables, FieldPath, Anchor, CompareOp, Comparison}
use Rattle.rules.specs.Constant.{term}
use Rattle.rules.specs.Lookup.{same_steps, same_path}
use Rattle.rules.specs.Events.{Narrowing, Event}
use Rattle.rules.specs.Placement.{SeekKeyPart, Part, Residual, Guide, Range, RangeEdge, Edges, SeekBuilder, new, with_part, with_residual, with_guide, with_range, with_edges, with_closer, fall, place_part, place_prefix, range_at, attachable, place_fuzzy, place_own, place_narrowing, place_closer, take_hi, take_lo, take_edge, sided, fold_from, place_bound, place, place_all}
use Rattle.rules.specs.Levels.{narrowings}
use Rattle.rules.specs.Demand3.{building_after, before_fall, made_by, parts_of, closers_of, closers_in, number, edges, Kept}
use Rattle.rules.proofs.Cases.{by-test, ways, by-option, true≢false, some≢none, some-injective, eqb-eq, both_left, both_right}
use Rattle.rules.proofs.Sentences.{closer-building, closer-fallen}
use Rattle.rules.proofs.Skipped.{Skipped}

-- equal paths, by the test
same-steps : (a b : List ℕ) → same_steps a b ≡ true → a ≡ b
unfolding same_steps
same-steps [] [] e = refl
same-steps [] (y ∷ b) e = absurd (true≢false (sym e))
same-steps (x ∷ a) [] e = absurd (true≢false (sym e))
same-steps (x ∷ a) (y ∷ b) e = λ i. eqb-eq x y (both_left (eqb x y) _ e) i ∷ same-steps a b (both_right (eqb x y) _ e) i

pub same-path : (p q : FieldPath) → same_path p q ≡ true → p ≡ q
unfolding same_path
same-path p q e =
    λ i. record {
      field = eqb-eq p.field q.field (both_left (eqb p.field q.field) _ e) i;
      steps = same-steps p.steps q.steps (both_right (eqb p.field q.field) _ e) i;
    }

-- lo and hi, once set
abbrev edges_set : Edges → ℕ
edges_set e = number e.lo + number e.hi

-- what stands while building holds
pub record Building (range : Option Range) (guide : Option Guide) (e : Edges) : Type 0 where
  pub no-range : range ≡ None
  pub no-guide : guide ≡ None
  pub no_edge : edges_set e ≡ 0

-- what stands always of range, guide and edges
pub record Ranged (range : Option Range) (guide : Option Guide) (e : Edges) : Type 0 where
  pub edge-excludes : 0 < edges_set e → (range ≡ None) × (guide ≡ None)
  pub guide-path : (g : Guide) (r : Range) → guide ≡ Some g → range ≡ Some r → g.path ≡ r.path
  pub edges-folded : edges_set e ≡ length e.folded

-- what stands after any number of a walk's steps
pub record Steady (b : SeekBuilder) : Type 0 where
  pub on : b.building ≡ true → Building b.range b.guide b.edges
  pub ranged : Ranged b.range b.guide b.edges
  pub closers-most : b.closers ≤ length b.parts

steady-new : Steady new
unfolding new edges number
steady-new =
    record {
      on = λ e. record { no-range = refl; no-guide = refl; no_edge = refl };
      ranged = record { edge-excludes = λ h. (refl, refl); guide-path = λ g r e f. absurd (some≢none g (sym e)); edges-folded = refl };
      closers-most = omega arith;
    }

module _ (b : SeekBuilder) (s : Steady b) where
  steady-part : (part : Part) → Steady (with_part part b)
  unfolding with_part edges
  steady-part part =
      record {
        on = s.on;
        ranged = s.ranged;
        closers-most = omega (arith, s.closers-most, length-append b.parts (part ∷ []));
      }

  steady-closer : (part : Part) → Steady (with_closer (with_part part b))
  unfolding with_closer with_part edges
  steady-closer part =
      record {
        on = s.on;
        ranged = s.ranged;
        closers-most = omega (arith, s.closers-most, length-append b.parts (part ∷ []));
      }

  steady-residual : (residual : Residual) → Steady (with_residual residual b)
  unfolding with_residual edges
  steady-residual residual =
      record {
        on = s.on;
        ranged = s.ranged;
        closers-most = s.closers-most;
      }

  steady-fall : Steady (fall b)
  unfolding fall edges
  steady-fall =
      record {
        on = λ q. absurd (true≢false (sym q));
        ranged = s.ranged;
        closers-most = s.closers-most;
      }

  steady-range : (range : Range) → b.building ≡ true → Steady (fall (with_range range b))
  unfolding fall with_range edges
  steady-range range e =
      record {
        on = λ q. absurd (true≢false (sym q));
        ranged = record {
          edge-excludes = λ h. absurd (omega (arith, h, (s.on e).no_edge));
          guide-path = λ g r q f. absurd (some≢none g (sym q ∙ (s.on e).no-guide));
          edges-folded = s.ranged.edges-folded;
        };
        closers-most = s.closers-most;
      }

-- where a guide may be set
attach : (b : SeekBuilder) (path : FieldPath) → attachable b path ≡ true → (b.guide ≡ None) × (b.building ≡ false → range_at b.range path ≡ true)
unfolding attachable
attach b path =
    by-option (λ r. r ≡ true → (b.guide ≡ None) × (b.building ≡ false → range_at b.range path ≡ true)) _
    (λ e r. (e, by-test (λ q. q ≡ true → b.building ≡ false → range_at b.range path ≡ true) b.building (λ t q f. absurd (true≢false (sym t ∙ f))) (λ t q f. q) r))
    (λ g e r. absurd (true≢false (sym r)))

range_at_lem : (o : Option Range) (path : FieldPath) → range_at o path ≡ true → (r : Range) × (o ≡ Some r) × (r.path ≡ path)
unfolding range_at
range_at_lem None path e = absurd (true≢false (sym e))
range_at_lem (Some r) path e = (r, refl, same-path r.path path e)

steady-guide : (b : SeekBuilder) (s : Steady b) (g : Guide) → attachable b g.path ≡ true → Steady (fall (with_guide g b))
unfolding fall with_guide edges
steady-guide b s g e =
    let a = attach b g.path e in
    record {
      on = λ q. absurd (true≢false (sym q));
      ranged = record {
        edge-excludes = λ h. ways b.building _ (λ q. absurd (omega (arith, h, (s.on q).no_edge))) (λ q. let r = range_at_lem b.range g.path (a.1 q) in absurd (some≢none r.0 (sym r.1 ∙ (s.ranged.edge-excludes h).0)));
        guide-path = λ g' r' q f. ways b.building _ (λ t. absurd (some≢none r' (sym f ∙ (s.on t).no-range)))
            (λ t. let r = range_at_lem b.range g.path (a.1 t) in ap (λ (k : Guide). k.path) (sym (some-injective g g' q)) ∙ sym r.2 ∙ ap (λ (k : Range). k.path) (some-injective r.0 r' (sym r.1 ∙ f)));
        edges-folded = s.ranged.edges-folded;
      };
      closers-most = s.closers-most;
    }

-- edges and folded comparisons keep step
abbrev Paired : Edges → Type 0
Paired e = edges_set e ≡ length e.folded

paired-hi : (i : ℕ) (edge : RangeEdge) (e : Edges) → Paired e → Paired (take_hi i edge e)
unfolding take_hi number
paired-hi i edge e h = by-option Paired e.hi (λ q. omega (arith, h, ap number q, length-append e.folded (i ∷ []))) (λ hi q. h)

paired-lo : (i : ℕ) (edge : RangeEdge) (e : Edges) → Paired e → Paired (take_lo i edge e)
unfolding take_lo number
paired-lo i edge e h = by-option Paired e.lo (λ q. omega (arith, h, ap number q, length-append e.folded (i ∷ []))) (λ lo q. h)

paired-edge : (i : ℕ) (op : CompareOp) (value : List ℕ) (e : Edges) → Paired e → Paired (take_edge i op value e)
unfolding take_edge
paired-edge i CompareOp.Lt value e h = paired-hi i _ e h
paired-edge i CompareOp.Le value e h = paired-hi i _ e h
paired-edge i CompareOp.Gt value e h = paired-lo i _ e h
paired-edge i CompareOp.Ge value e h = paired-lo i _ e h

paired-fold : (T : Tables) (x t i : ℕ) (cs : List Comparison) (e : Edges) → Paired e → Paired (fold_from T x t i cs e)
unfolding fold_from
paired-fold T x t i [] e h = h
paired-fold T x t i (c ∷ cs) e h =
    paired-fold T x t (suc i) cs _ (by-option Paired (sided T x t c) (λ q. h) (λ s q. paired-edge i s.op s.value e h))

-- a bound and the skip after it
steady-folded : (T : Tables) (x t : ℕ) (b : SeekBuilder) → Steady b → b.building ≡ true → Steady (fall (with_edges (fold_from T x t 0 T.comparisons b.edges) b))
unfolding fall with_edges edges
steady-folded T x t b s e =
    record {
      on = λ q. absurd (true≢false (sym q));
      ranged = record {
        edge-excludes = λ h. ((s.on e).no-range, (s.on e).no-guide);
        guide-path = s.ranged.guide-path;
        edges-folded = paired-fold T x t 0 T.comparisons b.edges s.ranged.edges-folded;
      };
      closers-most = s.closers-most;
    }

steady-bound : (T : Tables) (x t : ℕ) (b : SeekBuilder) → Steady b → Steady (fall (place_bound T x t b))
unfolding place_bound
steady-bound T x t b s = by-test (λ b'. Steady (fall b')) b.building (λ e. steady-folded T x t b s e) (λ e. steady-fall b s)

steady-part-or : (made : ℕ) (b : SeekBuilder) → Steady b → (part : SeekKeyPart) (path : FieldPath) (op : Narrowing) → Steady (place_part made part path op b)
unfolding place_part
steady-part-or made b s part path op = by-test Steady b.building (λ e. steady-part b s _) (λ e. steady-residual b s _)

steady-narrowing : (made : ℕ) (b : SeekBuilder) → Steady b → (path : FieldPath) (x : Narrowing) → Steady (place_narrowing made path x b)
unfolding place_narrowing place_prefix place_fuzzy place_own
steady-narrowing made b s path (Narrowing.Bytes bytes) = steady-part-or made b s _ path _
steady-narrowing made b s path (Narrowing.Tag disc) = steady-part-or made b s _ path _
steady-narrowing made b s path (Narrowing.RegisterField a at) = steady-part-or made b s _ path _
steady-narrowing made b s path (Narrowing.FactId a) = steady-part-or made b s _ path _
steady-narrowing made b s path (Narrowing.Prefix bytes) = by-test Steady b.building (λ e. steady-range b s _ e) (λ e. steady-residual b s _)
steady-narrowing made b s path (Narrowing.Fuzzy x d a) = by-test Steady (attachable b path) (λ e. steady-guide b s _ e) (λ e. steady-residual b s _)
steady-narrowing made b s path (Narrowing.OwnField at) = steady-fall _ (steady-residual b s _)

-- What a level has placed, counted.
pub filled : SeekBuilder → ℕ
filled b = length b.parts + length b.residuals + number b.range + number b.guide

abbrev pub Counts : ℕ → SeekBuilder → SeekBuilder → Type 0
Counts k b b' = filled b' + b.closers ≡ filled b + k + b'.closers

counts-part : (made : ℕ) (part : SeekKeyPart) (path : FieldPath) (op : Narrowing) (b : SeekBuilder) → Counts 1 b (place_part made part path op b)
unfolding place_part with_part with_residual filled
counts-part made part path op b =
    by-test (Counts 1 b) b.building
    (λ e. omega (arith, length-append b.parts (record { key = part; node = made } ∷ [])))
    (λ e. omega (arith, length-append b.residuals (record { path = path; op = op; node = made } ∷ [])))

counts-prefix : (made : ℕ) (b : SeekBuilder) (s : Steady b) (path : FieldPath) (prefix : List ℕ) → Counts 1 b (place_prefix made path prefix b)
unfolding place_prefix with_range with_residual fall filled number
counts-prefix made b s path prefix =
    by-test (Counts 1 b) b.building
    (λ e. omega (arith, ap number (s.on e).no-range))
    (λ e. omega (arith, length-append b.residuals (record { path = path; op = Narrowing.Prefix prefix; node = made } ∷ [])))

counts-fuzzy : (made : ℕ) (b : SeekBuilder) (path : FieldPath) (x distance : ℕ) (anchor : Anchor) → Counts 1 b (place_fuzzy made path x distance anchor b)
unfolding place_fuzzy with_guide with_residual fall filled number
counts-fuzzy made b path x distance anchor =
    by-test (Counts 1 b) (attachable b path)
    (λ e. omega (arith, ap number (attach b path e).0))
    (λ e. omega (arith, length-append b.residuals (record { path = path; op = Narrowing.Fuzzy x distance anchor; node = made } ∷ [])))

counts-own : (made : ℕ) (b : SeekBuilder) (path at : FieldPath) → Counts 1 b (place_own made path at b)
unfolding place_own with_residual fall filled
counts-own made b path at = omega (arith, length-append b.residuals (record { path = path; op = Narrowing.OwnField at; node = made } ∷ []))

counts-narrowing : (made : ℕ) (b : SeekBuilder) (s : Steady b) (path : FieldPath) (x : Narrowing) → Counts 1 b (place_narrowing made path x b)
unfolding place_narrowing
counts-narrowing made b s path (Narrowing.Bytes bytes) = counts-part made _ path _ b
counts-narrowing made b s path (Narrowing.Tag disc) = counts-part made _ path _ b
counts-narrowing made b s path (Narrowing.RegisterField a at) = counts-part made _ path _ b
counts-narrowing made b s path (Narrowing.FactId a) = counts-part made _ path _ b
counts-narrowing made b s path (Narrowing.Prefix bytes) = counts-prefix made b s path bytes
counts-narrowing made b s path (Narrowing.Fuzzy x d a) = counts-fuzzy made b path x d a
counts-narrowing made b s path (Narrowing.OwnField at) = counts-own made b path at

steady-close : (made : ℕ) (b : SeekBuilder) → Steady b → Steady (place_closer made b)
unfolding place_closer
steady-close made b s = by-test Steady b.building (λ e. steady-closer b s _) (λ e. s)

counts-close : (made : ℕ) (b : SeekBuilder) → Counts 0 b (place_closer made b)
unfolding place_closer with_closer with_part filled
counts-close made b = by-test (Counts 0 b) b.building (λ e. omega (arith, length-append b.parts (record { key = SeekKeyPart.Bytes term; node = made } ∷ []))) (λ e. omega arith)

counts-fall : (b : SeekBuilder) → Counts 0 b (fall b)
unfolding fall filled
counts-fall b = omega arith

counts-bound : (T : Tables) (x t : ℕ) (b : SeekBuilder) → Counts 0 b (fall (place_bound T x t b))
unfolding place_bound with_edges fall filled
counts-bound T x t b = by-test (λ b'. Counts 0 b (fall b')) b.building (λ e. omega arith) (λ e. omega arith)

-- all the events of a level
pub record Placed (es : List Event) (b b' : SeekBuilder) : Type 0 where
  pub steady : Steady b'
  pub counts : Counts (narrowings es) b b'

placed_same : (b : SeekBuilder) → Steady b → Placed [] b b
unfolding narrowings
placed_same b s = record { steady = s; counts = omega arith }

counts-next : (k l : ℕ) (a b c : SeekBuilder) → Counts k a b → Counts l b c → Counts (k + l) a c
counts-next k l a b c g h = omega (arith, g, h)

placed-all : (T : Tables) (es : List Event) (b : SeekBuilder) → Steady b → Skipped es → Placed es b (place_all T es b)
unfolding place_all place narrowings
placed-all T [] b s h = placed_same b s
placed-all T (Event.narrow made path x ∷ es) b s h =
    let r = placed-all T es (place_narrowing made path x b) (steady-narrowing made b s path x) h in
    record { steady = r.steady; counts = omega (arith, counts-narrowing made b s path x, r.counts) }
placed-all T (Event.skip ∷ es) b s h =
    let r = placed-all T es (fall b) (steady-fall b s) h in
    record { steady = r.steady; counts = omega (arith, counts-fall b, r.counts) }
placed-all T (Event.closer made ∷ es) b s h =
    let r = placed-all T es (place_closer made b) (steady-close made b s) h in
    record { steady = r.steady; counts = omega (arith, counts-close made b, r.counts) }
placed-all T (Event.bound x t ∷ []) b s h = absurd h
placed-all T (Event.bound x t ∷ Event.skip ∷ es) b s h =
    let r = placed-all T es (fall (place_bound T x t b)) (steady-bound T x t b s) h in
    record { steady = r.steady; counts = omega (arith, counts-bound T x t b, r.counts) }
placed-all T (Event.bound x t ∷ Event.narrow made p y ∷ es) b s h = absurd h
placed-all T (Event.bound x t ∷ Event.closer made ∷ es) b s h = absurd h
placed-all T (Event.bound x t ∷ Event.bound y u ∷ es) b s h = absurd h

-- Building never returns, and without building no part is made and no closer taken: of any event.
pub record Fallen (b b' : SeekBuilder) : Type 0 where
  pub building : b'.building ≡ false
  pub parts : b'.parts ≡ b.parts
  pub closers : b'.closers ≡ b.closers

fallen-part : (made : ℕ) (part : SeekKeyPart) (path : FieldPath) (op : Narrowing) (b : SeekBuilder) → b.building ≡ false → Fallen b (place_part made part path op b)
unfolding place_part with_part with_residual
fallen-part made part path op b h = by-test (Fallen b) b.building (λ e. absurd (true≢false (sym e ∙ h))) (λ e. record { building = h; parts = refl; closers = refl })

fallen-narrowing : (made : ℕ) (path : FieldPath) (x : Narrowing) (b : SeekBuilder) → b.building ≡ false → Fallen b (place_narrowing made path x b)
unfolding place_narrowing place_prefix place_fuzzy place_own with_residual with_guide fall
fallen-narrowing made path (Narrowing.Bytes bytes) b h = fallen-part made _ path _ b h
fallen-narrowing made path (Narrowing.Tag disc) b h = fallen-part made _ path _ b h
fallen-narrowing made path (Narrowing.RegisterField a at) b h = fallen-part made _ path _ b h
fallen-narrowing made path (Narrowing.FactId a) b h = fallen-part made _ path _ b h
fallen-narrowing made path (Narrowing.Prefix bytes) b h = by-test (Fallen b) _ (λ e. absurd (true≢false (sym e ∙ h))) (λ e. record { building = h; parts = refl; closers = refl })
fallen-narrowing made path (Narrowing.Fuzzy x d a) b h = by-test (Fallen b) (attachable b path) (λ e. record { building = refl; parts = refl; closers = refl }) (λ e. record { building = h; parts = refl; closers = refl })
fallen-narrowing made path (Narrowing.OwnField at) b h = record { building = refl; parts = refl; closers = refl }

fallen-closer : (made : ℕ) (b : SeekBuilder) → b.building ≡ false → Fallen b (place_closer made b)
fallen-closer made b h = subst (Fallen b) (sym (closer-fallen made b h)) (record { building = h; parts = refl; closers = refl })

fallen : (T : Tables) (e : Event) (b : SeekBuilder) → b.building ≡ false → Fallen b (place T e b)
unfolding place place_bound fall
fallen T (Event.narrow made path x) b h = fallen-narrowing made path x b h
fallen T Event.skip b h = record { building = refl; parts = refl; closers = refl }
fallen T (Event.closer made) b h = fallen-closer made b h
fallen T (Event.bound x t) b h = by-test (Fallen b) b.building (λ e. absurd (true≢false (sym e ∙ h))) (λ e. record { building = h; parts = refl; closers = refl })

pub fallen-all : (T : Tables) (es : List Event) (b : SeekBuilder) → b.building ≡ false → Fallen b (place_all T es b)
unfolding place_all
fallen-all T [] b h = record { building = h; parts = refl; closers = refl }
fallen-all T (e ∷ es) b h =
    let a = fallen T e b h in
    let r = fallen-all T es (place T e b) a.building in
    record { building = r.building; parts = r.parts ∙ a.parts; closers = r.closers ∙ a.closers }

pub place_all-append : (T : Tables) (es fs : List Event) (b : SeekBuilder) → place_all T (es ++ fs) b ≡ place_all T fs (place_all T es b)
unfolding place_all
place_all-append T [] fs b = refl
place_all-append T (e ∷ es) fs b = place_all-append T es fs (place T e b)

never-returns : (T : Tables) (es : List Event) (i k : ℕ) → building_after T es i ≡ false → building_after T es (i + k) ≡ false
unfolding building_after
never-returns T es i k h =
    ap (λ (l : List Event). (place_all T l new).building) (take-add i k es)
    ∙ ap (λ (b : SeekBuilder). b.building) (place_all-append T (take i es) (take k (drop i es)) new)
    ∙ (fallen-all T (take k (drop i es)) (place_all T (take i es) new) h).building

-- While building holds each event makes its part and counts as what it is, or building falls and it makes none.
record Makes (parts : List Part) (closers : ℕ) (b b' : SeekBuilder) : Type 0 where
  on : b'.building ≡ true → b'.parts ≡ b.parts ++ parts
  fell : b'.building ≡ false → b'.parts ≡ b.parts
  on-closers : b'.building ≡ true → b'.closers ≡ b.closers + closers
  fell-closers : b'.building ≡ false → b'.closers ≡ b.closers

makes-part : (made : ℕ) (b : SeekBuilder) → b.building ≡ true → (part : SeekKeyPart) (path : FieldPath) (op : Narrowing) → Makes (made_by made part) 0 b (place_part made part path op b)
unfolding place_part with_part
makes-part made b h part path op =
    by-test (Makes (made_by made part) 0 b) b.building
    (λ e. record { on = λ q. refl; fell = λ q. absurd (true≢false (sym h ∙ q)); on-closers = λ q. omega arith; fell-closers = λ q. refl })
    (λ e. absurd (true≢false (sym h ∙ e)))

makes_none : (b b' : SeekBuilder) → b'.parts ≡ b.parts → b'.closers ≡ b.closers → Makes [] 0 b b'
makes_none b b' e c = record { on = λ q. e ∙ sym (append-nil b.parts); fell = λ q. e; on-closers = λ q. omega (arith, c); fell-closers = λ q. c }

makes-narrowing : (made : ℕ) (b : SeekBuilder) → b.building ≡ true → (path : FieldPath) (x : Narrowing) → Makes (parts_of (Event.narrow made path x)) (closers_of (Event.narrow made path x)) b (place_narrowing made path x b)
unfolding parts_of closers_of place_narrowing place_prefix place_fuzzy place_own with_residual with_range with_guide fall
makes-narrowing made b h path (Narrowing.Bytes bytes) = makes-part made b h _ path _
makes-narrowing made b h path (Narrowing.Tag disc) = makes-part made b h _ path _
makes-narrowing made b h path (Narrowing.RegisterField a at) = makes-part made b h _ path _
makes-narrowing made b h path (Narrowing.FactId a) = makes-part made b h _ path _
makes-narrowing made b h path (Narrowing.Prefix bytes) = by-test (Makes [] 0 b) b.building (λ e. makes_none b _ refl refl) (λ e. makes_none b _ refl refl)
makes-narrowing made b h path (Narrowing.Fuzzy x d a) = by-test (Makes [] 0 b) (attachable b path) (λ e. makes_none b _ refl refl) (λ e. makes_none b _ refl refl)
makes-narrowing made b h path (Narrowing.OwnField at) = makes_none b _ refl refl

makes-skip : (b : SeekBuilder) → Makes (parts_of Event.skip) (closers_of Event.skip) b (fall b)
unfolding parts_of closers_of fall
makes-skip b = makes_none b _ refl refl

makes-closer : (made : ℕ) (b : SeekBuilder) → b.building ≡ true → Makes (parts_of (Event.closer made)) (closers_of (Event.closer made)) b (place_closer made b)
unfolding parts_of closers_of with_closer with_part
makes-closer made b h =
    subst (Makes (made_by made (SeekKeyPart.Bytes term)) 1 b) (sym (closer-building made b h))
    (record { on = λ t. refl; fell = λ t. absurd (true≢false (sym h ∙ t)); on-closers = λ t. refl; fell-closers = λ t. absurd (true≢false (sym h ∙ t)) })

makes-bound : (b : SeekBuilder) (T : Tables) (x t : ℕ) → Makes (parts_of (Event.bound x t)) (closers_of (Event.bound x t)) b (place_bound T x t b)
unfolding parts_of closers_of place_bound with_edges
makes-bound b T x t = by-test (Makes [] 0 b) b.building (λ e. makes_none b _ refl refl) (λ e. makes_none b _ refl refl)

-- what events before the fall make
record Made (es : List Event) (b b' : SeekBuilder) : Type 0 where
  parts : b'.parts ≡ b.parts ++ concat_map parts_of es
  closers : b'.closers ≡ b.closers + closers_in es

made_none : (b b' : SeekBuilder) → b'.parts ≡ b.parts → b'.closers ≡ b.closers → Made [] b b'
unfolding concat_map closers_in
made_none b b' e c = record { parts = e ∙ sym (append-nil b.parts); closers = omega (arith, c) }

-- what the rest of a level makes, after one event
made-step : (T : Tables) (e : Event) (es : List Event) (b : SeekBuilder) → Makes (parts_of e) (closers_of e) b (place T e b)
    → ((place T e b).building ≡ true → Made (before_fall T (place T e b) es) (place T e b) (place_all T es (place T e b)))
    → Made (before_fall T b (e ∷ es)) b (place_all T (e ∷ es) b)
unfolding place_all before_fall concat_map closers_in
made-step T e es b m ih =
    by-test (λ fs. Made fs b (place_all T es (place T e b))) (place T e b).building
    (λ q. record {
      parts = (ih q).parts ∙ ap (λ (l : List Part). l ++ concat_map parts_of (before_fall T (place T e b) es)) (m.on q) ∙ append_assoc b.parts (parts_of e) (concat_map parts_of (before_fall T (place T e b) es));
      closers = omega (arith, (ih q).closers, m.on-closers q);
    })
    (λ q. let f = fallen-all T es (place T e b) q in made_none b _ (f.parts ∙ m.fell q) (f.closers ∙ m.fell-closers q))

made_all : (T : Tables) (es : List Event) (b : SeekBuilder) → b.building ≡ true → Made (before_fall T b es) b (place_all T es b)
unfolding place_all place before_fall
made_all T [] b on = made_none b b refl refl
made_all T (Event.narrow made path x ∷ es) b on =
    made-step T (Event.narrow made path x) es b (makes-narrowing made b on path x) (λ q. made_all T es (place_narrowing made path x b) q)
made_all T (Event.skip ∷ es) b on = made-step T Event.skip es b (makes-skip b) (λ q. made_all T es (fall b) q)
made_all T (Event.closer made ∷ es) b on = made-step T (Event.closer made) es b (makes-closer made b on) (λ q. made_all T es (place_closer made b) q)
made_all T (Event.bound x t ∷ es) b on = made-step T (Event.bound x t) es b (makes-bound b T x t) (λ q. made_all T es (place_bound T x t b) q)

-- lo and hi are two
pub most-one : {A : Type 0} (o : Option A) → number o ≤ 1
unfolding number
most-one None = omega arith
most-one (Some a) = omega arith

edges-two : (b : SeekBuilder) → edges b ≤ 2
unfolding edges
edges-two b = omega (arith, most-one b.edges.lo, most-one b.edges.hi)

-- the sum, of what stands after all events
sum_of : (k : ℕ) (b : SeekBuilder) → Counts k new b → b.closers ≤ length b.parts → k ≡ length b.parts - b.closers + length b.residuals + number b.range + number b.guide
unfolding new filled number
sum_of k b h c = omega (arith, h, c)

-- what demand 3 says of one level
pub kept : (T : Tables) (es : List Event) → Skipped es → Kept T es (place_all T es new)
unfolding new edges
kept T es h =
    let r = placed-all T es new steady-new h in
    let made = made_all T es new refl in
    record {
      never-returns = never-returns T es;
      parts = made.parts;
      closers = omega (arith, made.closers);
      edge-excludes = r.steady.ranged.edge-excludes;
      guide-path = r.steady.ranged.guide-path;
      edges-folded = r.steady.ranged.edges-folded;
      edges_most = edges-two (place_all T es new);
      closers-most = r.steady.closers-most;
      sum = sum_of (narrowings es) (place_all T es new) r.counts r.steady.closers-most;
    }
