-- What the claims' placement does, whatever the key: building never returns, what is folded after the fall stays, and a key that the level keeps after an event was kept
-- before it.
use mathlib.Core.Bool.{true, false}
use mathlib.Core.List.{List, [], ◌∷◌, ◌++◌}
use Rattle.std.specs.Prelude.{None, Some}
use mathlib.Core.Path.{◌≡◌, refl, sym, ◌∙◌, subst}
use Prim.Native.Nat.{ℕ}
use Rattle.rules.specs.Base.{Each, done, more}
use Rattle.rules.specs.File.{Ty, Tables, FieldPath, Anchor}
use Rattle.rules.specs.Events.{Narrowing, Event}
use Rattle.rules.specs.Placement.{SeekKeyPart, Part, Residual, Range, SeekBuilder, with_part, with_residual, with_guide, with_range, with_edges, with_closer, fall, place_part, place_prefix, attachable, place_fuzzy, place_own, place_closer, place_bound}
use Rattle.rules.proofs.Cases.{by-test, by-option, true≢false, some≢none}
use Rattle.rules.proofs.Lists.{Onwards, onwards-same, onwards-next, onwards-one}
use Rattle.exact.specs.Values.{Value}
use Rattle.exact.specs.Keys.{Engine, stored}
use Rattle.exact.specs.Passes.{part_bytes, parts_bytes}
use Rattle.exact.specs.Placings.{placement, open_placings}
use Rattle.exact.proofs.Bytes.{Starts, starts-less}
use Rattle.exact.proofs.Placing.{Open, edged-none, parts-snoc, Passing}

-- while building holds nothing stands but parts
abbrev pub Alone : SeekBuilder → Type 0
Alone b = b.building ≡ true → Open b.range b.guide b.edges

-- a range excludes edges
abbrev pub Excludes : SeekBuilder → Type 0
Excludes b = (r : Range) → b.range ≡ Some r → (b.edges.lo ≡ None) × (b.edges.hi ≡ None)

each-init : {A : Type 0} {P : A → Type 0} (xs : List A) (x : A) → Each P (xs ++ (x ∷ [])) → Each P xs
each-init [] x h = done
each-init (y ∷ xs) x (more p h) = more p (each-init xs x h)

-- after a skip building does not hold
pub skip-falls : (T : Tables) (b : SeekBuilder) → (placement T Event.skip b).building ≡ false
unfolding open_placings fall
skip-falls T b = refl

module _ (engine : Engine) (ty : Ty) (key : Value) where
  pub record Steps (b b' : SeekBuilder) : Type 0 where
    pub fell : b.building ≡ false → b'.building ≡ false
    pub folded : b.building ≡ false → b'.edges.folded ≡ b.edges.folded
    pub parts : Onwards b.parts b'.parts
    pub alone : Alone b → Alone b'
    pub excludes : Alone b → Excludes b → Excludes b'
    pub back : Alone b → Passing engine ty key b' → Passing engine ty key b

  pub steps-same : (b : SeekBuilder) → Steps b b
  steps-same b = record { fell = λ q. q; folded = λ q. refl; parts = onwards-same b.parts; alone = λ a. a; excludes = λ a x. x; back = λ a p. p }

  pub steps_next : (a b c : SeekBuilder) → Steps a b → Steps b c → Steps a c
  steps_next a b c g h =
      record {
        fell = λ q. h.fell (g.fell q);
        folded = λ q. h.folded (g.fell q) ∙ g.folded q;
        parts = onwards-next a.parts b.parts c.parts g.parts h.parts;
        alone = λ q. h.alone (g.alone q);
        excludes = λ q x. h.excludes (g.alone q) (g.excludes q x);
        back = λ q p. g.back q (h.back (g.alone q) p);
      }

  steps-fall : (b : SeekBuilder) → Steps b (fall b)
  unfolding fall
  steps-fall b =
      record {
        fell = λ q. refl;
        folded = λ q. refl;
        parts = onwards-same b.parts;
        alone = λ a q. absurd (true≢false (sym q));
        excludes = λ a x. x;
        back = λ a p. record { starts = p.starts; range = p.range; edges = p.edges; guide = p.guide; residuals = p.residuals };
      }

  pub steps-skip : (T : Tables) (b : SeekBuilder) → Steps b (placement T Event.skip b)
  unfolding open_placings
  steps-skip T b = steps-fall b

  steps-residual : (b : SeekBuilder) (residual : Residual) → Steps b (with_residual residual b)
  unfolding with_residual
  steps-residual b residual =
      record {
        fell = λ q. q;
        folded = λ q. refl;
        parts = onwards-same b.parts;
        alone = λ a q. a q;
        excludes = λ a x. x;
        back = λ a p. record { starts = p.starts; range = p.range; edges = p.edges; guide = p.guide; residuals = each-init b.residuals residual p.residuals };
      }

  steps-with-part : (b : SeekBuilder) (part : Part) → b.building ≡ true → Steps b (with_part part b)
  unfolding with_part
  steps-with-part b part on =
      record {
        fell = λ q. absurd (true≢false (sym on ∙ q));
        folded = λ q. refl;
        parts = onwards-one b.parts part;
        alone = λ a q. a q;
        excludes = λ a x. x;
        back = λ a p.
            record {
              starts = starts-less (parts_bytes engine b.parts) (part_bytes engine part.key) (stored ty key) (subst (λ l. Starts l (stored ty key)) (parts-snoc engine b.parts part) p.starts);
              range = λ r q. absurd (some≢none r (sym q ∙ (a on).no-range));
              edges = edged-none b.edges.lo b.edges.hi _ (a on).no-lo (a on).no-hi;
              guide = p.guide;
              residuals = p.residuals;
            };
      }

  steps-part : (n : ℕ) (part : SeekKeyPart) (path : FieldPath) (op : Narrowing) (b : SeekBuilder) → Steps b (place_part n part path op b)
  unfolding place_part
  steps-part n part path op b =
      by-test (Steps b) b.building (λ on. steps-with-part b (record { key = part; node = n }) on) (λ off. steps-residual b (record { path = path; op = op; node = n }))

  steps-prefix : (n : ℕ) (path : FieldPath) (prefix : List ℕ) (b : SeekBuilder) → Steps b (place_prefix n path prefix b)
  unfolding place_prefix fall with_range
  steps-prefix n path prefix b =
      by-test (Steps b) b.building
      (λ on. record {
        fell = λ q. refl;
        folded = λ q. refl;
        parts = onwards-same b.parts;
        alone = λ a q. absurd (true≢false (sym q));
        excludes = λ a x r e. ((a on).no-lo, (a on).no-hi);
        back = λ a p. record { starts = p.starts; range = λ r q. absurd (some≢none r (sym q ∙ (a on).no-range)); edges = p.edges; guide = p.guide; residuals = p.residuals };
      })
      (λ off. steps-residual b (record { path = path; op = Narrowing.Prefix prefix; node = n }))

  -- a guide is set once
  attach-none : (b : SeekBuilder) (path : FieldPath) → attachable b path ≡ true → b.guide ≡ None
  unfolding attachable
  attach-none b path = by-option (λ r. r ≡ true → b.guide ≡ None) b.guide (λ e r. e) (λ g e r. absurd (true≢false (sym r)))

  steps-fuzzy : (n : ℕ) (path : FieldPath) (x distance : ℕ) (anchor : Anchor) (b : SeekBuilder) → Steps b (place_fuzzy n path x distance anchor b)
  unfolding place_fuzzy fall with_guide
  steps-fuzzy n path x distance anchor b =
      by-test (Steps b) (attachable b path)
      (λ on. record {
        fell = λ q. refl;
        folded = λ q. refl;
        parts = onwards-same b.parts;
        alone = λ a q. absurd (true≢false (sym q));
        excludes = λ a x. x;
        back = λ a p. record { starts = p.starts; range = p.range; edges = p.edges; guide = λ g q. absurd (some≢none g (sym q ∙ attach-none b path on)); residuals = p.residuals };
      })
      (λ off. steps-residual b (record { path = path; op = Narrowing.Fuzzy x distance anchor; node = n }))

  pub steps-narrowing : (T : Tables) (n : ℕ) (path : FieldPath) (x : Narrowing) (b : SeekBuilder) → Steps b (placement T (Event.narrow n path x) b)
  unfolding open_placings place_own
  steps-narrowing T n path (Narrowing.Bytes bytes) b = steps-part n _ path _ b
  steps-narrowing T n path (Narrowing.Tag disc) b = steps-part n _ path _ b
  steps-narrowing T n path (Narrowing.RegisterField a at) b = steps-part n _ path _ b
  steps-narrowing T n path (Narrowing.FactId a) b = steps-part n _ path _ b
  steps-narrowing T n path (Narrowing.Prefix prefix) b = steps-prefix n path prefix b
  steps-narrowing T n path (Narrowing.Fuzzy x d a) b = steps-fuzzy n path x d a b
  steps-narrowing T n path (Narrowing.OwnField at) b = steps_next b _ _ (steps-residual b _) (steps-fall _)

  steps-counted : (b b' : SeekBuilder) → Steps b b' → Steps b (with_closer b')
  unfolding with_closer
  steps-counted b b' s =
      record {
        fell = s.fell;
        folded = s.folded;
        parts = s.parts;
        alone = s.alone;
        excludes = s.excludes;
        back = λ a p. s.back a (record { starts = p.starts; range = p.range; edges = p.edges; guide = p.guide; residuals = p.residuals });
      }

  pub steps-closer : (T : Tables) (n : ℕ) (b : SeekBuilder) → Steps b (placement T (Event.closer n) b)
  unfolding open_placings place_closer
  steps-closer T n b = by-test (Steps b) b.building (λ on. steps-counted b _ (steps-with-part b _ on)) (λ off. steps-same b)

  -- a bound and the skip after it
  pub steps-bound : (T : Tables) (x t : ℕ) (b : SeekBuilder) → Steps b (placement T Event.skip (placement T (Event.bound x t) b))
  unfolding open_placings place_bound fall with_edges
  steps-bound T x t b =
      by-test (λ b'. Steps b (fall b')) b.building
      (λ on. record {
        fell = λ q. refl;
        folded = λ q. absurd (true≢false (sym on ∙ q));
        parts = onwards-same b.parts;
        alone = λ a q. absurd (true≢false (sym q));
        excludes = λ a x r e. absurd (some≢none r (sym e ∙ (a on).no-range));
        back = λ a p. record { starts = p.starts; range = p.range; edges = edged-none b.edges.lo b.edges.hi _ (a on).no-lo (a on).no-hi; guide = p.guide; residuals = p.residuals };
      })
      (λ off. steps-fall b)
