-- What a level that was built asks of a key is what the plan's level asks.
use mathlib.Core.Bool.{Bool, true}
use mathlib.Core.List.{List, [], ◌∷◌, ◌++◌}
use Rattle.std.specs.Prelude.{Option, None, Some}
use mathlib.Core.Path.{◌≡◌, refl, sym, ap₂, ◌∙◌, subst}
use Prim.Native.Nat.{ℕ}
use lib.ListN.{length, drop}
use Rattle.rules.specs.Base.{Each, done, more, all, concat_map}
use Rattle.rules.specs.File.{Tables, Ty}
use Rattle.rules.specs.Events.{Narrowing}
use Rattle.rules.specs.Placement.{SeekKeyPart, Part, Residual, Guide, Range, RangeEdge, SeekKey, as_bytes, joined, nodes_of, unranged, seek, seek_key}
use Rattle.rules.specs.Levels.{Level}
use Rattle.rules.specs.Plan.{plan_level}
use Rattle.rules.proofs.Cases.{by-test, true≢false, some≢none, some-injective, bind-some, both_true, both_left, both_right}
use Rattle.rules.proofs.Each.{each-passes}
use Rattle.exact.specs.Values.{Value}
use Rattle.exact.specs.Keys.{Engine, stored, begins, holds}
use Rattle.exact.specs.Passes.{part_bytes, parts_bytes, first_value, seeks, guides, passes}
use Rattle.exact.proofs.Bytes.{Starts, begins-starts, starts-begins, starts-less}
use Rattle.exact.specs.Conditions.{HoldsValue, HoldsValues}
use Rattle.exact.proofs.Placing.{Edged, Passing}
use Rattle.exact.proofs.Steps.{Excludes}

-- parts of bytes alone, joined
part-joined : (engine : Engine) (p : SeekKeyPart) (bytes : List ℕ) → as_bytes p ≡ Some bytes → part_bytes engine p ≡ bytes
unfolding as_bytes part_bytes
part-joined engine (SeekKeyPart.Bytes own) bytes e = some-injective own bytes e
part-joined engine (SeekKeyPart.RegisterField a p) bytes e = absurd (some≢none bytes (sym e))
part-joined engine (SeekKeyPart.RegisterFactId a) bytes e = absurd (some≢none bytes (sym e))

parts-joined : (engine : Engine) (parts : List Part) (bytes : List ℕ) → joined parts ≡ Some bytes → parts_bytes engine parts ≡ bytes
unfolding joined parts_bytes concat_map
parts-joined engine [] bytes e = some-injective [] bytes e
parts-joined engine (p ∷ parts) bytes e =
    let a = bind-some (as_bytes p.key) _ bytes e in
    let b = bind-some (joined parts) _ bytes a.2 in
    ap₂ (λ (x y : List ℕ). x ++ y) (part-joined engine p.key a.0 a.1) (parts-joined engine parts b.0 b.1) ∙ some-injective (a.0 ++ b.0) bytes b.2

pub all_true : {A : Type 0} (p : A → Bool) {xs : List A} → Each (λ x. p x ≡ true) xs → all p xs ≡ true
unfolding all
all_true p done = refl
all_true p (more {x} {xs} h hs) = by-test (λ r. r ≡ true) (p x) (λ e. all_true p hs) (λ e. absurd (true≢false (sym h ∙ e)))

-- parts of bytes alone hold what they hold
parts-of-bytes : (T : Tables) (engine : Engine) (parts : List Part) (bytes : List ℕ) → joined parts ≡ Some bytes → Each (λ (p : Part). HoldsValue T engine p.key) parts
unfolding joined
parts-of-bytes T engine [] bytes e = done
parts-of-bytes T engine (p ∷ parts) bytes e =
    let a = bind-some (as_bytes p.key) _ bytes e in
    let b = bind-some (joined parts) _ bytes a.2 in
    more (of-bytes p.key a.0 a.1) (parts-of-bytes T engine parts b.0 b.1)
  where
    of-bytes : (k : SeekKeyPart) (own : List ℕ) → as_bytes k ≡ Some own → HoldsValue T engine k
    of-bytes (SeekKeyPart.Bytes x) own q = tt
    of-bytes (SeekKeyPart.RegisterField a p') own q = absurd (register own q)
      where
        register : (own : List ℕ) → as_bytes (SeekKeyPart.RegisterField a p') ≡ Some own → ⊥
        register own q = unfold as_bytes in some≢none own (sym q)
    of-bytes (SeekKeyPart.RegisterFactId a) own q = tt

pub held-parts : (T : Tables) (engine : Engine) (parts : List Part) (range : Option Range) (lo hi : Option RangeEdge) → HoldsValues T engine (seek parts range lo hi) → Each (λ (p : Part). HoldsValue T engine p.key) parts
unfolding seek unranged
held-parts T engine parts range (Some lo) hi h = h
held-parts T engine parts range None (Some hi) h = h
held-parts T engine parts (Some range) None None h = h
held-parts T engine parts None None None h = go (joined parts) refl h
  where
    go : (o : Option (List ℕ)) → joined parts ≡ o → HoldsValues T engine (elim o [ Some bytes ↦ SeekKey.Prefix bytes (nodes_of parts) | None ↦ SeekKey.Composite parts ]) → Each (λ (p : Part). HoldsValue T engine p.key) parts
    go None q k = k
    go (Some bytes) q k = parts-of-bytes T engine parts bytes q

module _ (engine : Engine) (ty : Ty) (key : Value) where
  -- the seek of parts, a range and edges
  seek-passes : (parts : List Part) (range : Option Range) (lo hi : Option RangeEdge) → Starts (parts_bytes engine parts) (stored ty key)
      → ((r : Range) → range ≡ Some r → Starts (parts_bytes engine parts ++ r.prefix) (stored ty key))
      → Edged lo hi (first_value (drop (length (parts_bytes engine parts)) (stored ty key))) → seeks engine (seek parts range lo hi) (stored ty key) ≡ true
  unfolding seek seeks unranged
  seek-passes parts range (Some lo) hi s r e = both_true _ _ (starts-begins _ _ s) e
  seek-passes parts range None (Some hi) s r e = both_true _ _ (starts-begins _ _ s) e
  seek-passes parts (Some range) None None s r e = starts-begins _ _ (r range refl)
  seek-passes parts None None None s r e = go (joined parts) refl
    where
      go : (o : Option (List ℕ)) → joined parts ≡ o → seeks engine (elim o [ Some bytes ↦ SeekKey.Prefix bytes (nodes_of parts) | None ↦ SeekKey.Composite parts ]) (stored ty key) ≡ true
      go None q = starts-begins _ _ s
      go (Some bytes) q = subst (λ b. begins b (stored ty key) ≡ true) (parts-joined engine parts bytes q) (starts-begins _ _ s)

  guide-passes : (guide : Option Guide) → ((g : Guide) → guide ≡ Some g → holds engine ty key g.path (Narrowing.Fuzzy g.term g.distance g.anchor) ≡ true) → guides engine ty key guide ≡ true
  unfolding guides
  guide-passes None h = refl
  guide-passes (Some g) h = h g refl

  pub level-passes : (l : Level) → Passing engine ty key l.built → passes engine ty (plan_level l) key ≡ true
  unfolding passes plan_level seek_key
  level-passes l p =
      both_true (seeks engine (seek_key l.built) (stored ty key)) _ (seek-passes l.built.parts l.built.range l.built.edges.lo l.built.edges.hi p.starts p.range p.edges)
      (both_true (guides engine ty key l.built.guide) _ (guide-passes l.built.guide p.guide) (all_true (λ (r : Residual). holds engine ty key r.path r.op) p.residuals))

  -- the other way
  record Sought (parts : List Part) (range : Option Range) (lo hi : Option RangeEdge) : Type 0 where
    starts : Starts (parts_bytes engine parts) (stored ty key)
    ranges : (r : Range) → range ≡ Some r → Starts (parts_bytes engine parts ++ r.prefix) (stored ty key)
    edged : Edged lo hi (first_value (drop (length (parts_bytes engine parts)) (stored ty key)))

  seek-passed : (parts : List Part) (range : Option Range) (lo hi : Option RangeEdge) → ((r : Range) → range ≡ Some r → (lo ≡ None) × (hi ≡ None)) → seeks engine (seek parts range lo hi) (stored ty key) ≡ true → Sought parts range lo hi
  unfolding seek seeks unranged
  seek-passed parts range (Some lo) hi x e =
      record {
        starts = begins-starts _ _ (both_left (begins (parts_bytes engine parts) (stored ty key)) _ e);
        ranges = λ r q. absurd (some≢none lo (x r q).0);
        edged = both_right (begins (parts_bytes engine parts) (stored ty key)) _ e;
      }
  seek-passed parts range None (Some hi) x e =
      record {
        starts = begins-starts _ _ (both_left (begins (parts_bytes engine parts) (stored ty key)) _ e);
        ranges = λ r q. absurd (some≢none hi (x r q).1);
        edged = both_right (begins (parts_bytes engine parts) (stored ty key)) _ e;
      }
  seek-passed parts (Some range) None None x e =
      let s = begins-starts (parts_bytes engine parts ++ range.prefix) (stored ty key) e in
      record {
        starts = starts-less (parts_bytes engine parts) range.prefix (stored ty key) s;
        ranges = λ r q. subst (λ (y : Range). Starts (parts_bytes engine parts ++ y.prefix) (stored ty key)) (some-injective range r q) s;
        edged = tt;
      }
  seek-passed parts None None None x e = record { starts = begins-starts (parts_bytes engine parts) (stored ty key) (go (joined parts) refl e); ranges = λ r q. absurd (some≢none r (sym q)); edged = tt }
    where
      go : (o : Option (List ℕ)) → joined parts ≡ o → seeks engine (elim o [ Some bytes ↦ SeekKey.Prefix bytes (nodes_of parts) | None ↦ SeekKey.Composite parts ]) (stored ty key) ≡ true → begins (parts_bytes engine parts) (stored ty key) ≡ true
      go None q k = k
      go (Some bytes) q k = subst (λ b. begins b (stored ty key) ≡ true) (sym (parts-joined engine parts bytes q)) k

  guide-passed : (guide : Option Guide) → guides engine ty key guide ≡ true → (g : Guide) → guide ≡ Some g → holds engine ty key g.path (Narrowing.Fuzzy g.term g.distance g.anchor) ≡ true
  unfolding guides
  guide-passed None e g q = absurd (some≢none g (sym q))
  guide-passed (Some h) e g q = subst (λ (y : Guide). holds engine ty key y.path (Narrowing.Fuzzy y.term y.distance y.anchor) ≡ true) (some-injective h g q) e

  pub level-passed : (l : Level) → Excludes l.built → passes engine ty (plan_level l) key ≡ true → Passing engine ty key l.built
  unfolding passes plan_level seek_key
  level-passed l x e =
      let s = seek-passed l.built.parts l.built.range l.built.edges.lo l.built.edges.hi x (both_left (seeks engine (seek_key l.built) (stored ty key)) _ e) in
      let rest = both_right (seeks engine (seek_key l.built) (stored ty key)) _ e in
      record {
        starts = s.starts;
        range = s.ranges;
        edges = s.edged;
        guide = guide-passed l.built.guide (both_left (guides engine ty key l.built.guide) _ rest);
        residuals = each-passes (λ (r : Residual). holds engine ty key r.path r.op) l.built.residuals (both_right (guides engine ty key l.built.guide) _ rest);
      }
