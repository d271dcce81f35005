-- What a level that is being built asks of a key, and what the claims' placement does to it: where the event that is placed holds, the key still passes.
use mathlib.Core.Bool.{true, false}
use mathlib.Core.List.{List, [], ◌∷◌, ◌++◌, append-nil, append_assoc}
use Rattle.std.specs.Prelude.{Option, None, Some}
use mathlib.Core.Path.{◌≡◌, refl, sym, ap, ◌∙◌, subst}
use Prim.Native.Nat.{ℕ}
use lib.ListN.{length, drop}
use Rattle.rules.specs.Base.{Each, done, concat_map}
use Rattle.rules.specs.File.{Tables, Ty, FieldPath, Anchor}
use Rattle.rules.specs.Constant.{union_tag, term}
use Rattle.rules.specs.Events.{Narrowing, Event}
use Rattle.rules.specs.Placement.{SeekKeyPart, Part, Residual, Guide, Range, RangeEdge, Edges, SeekBuilder, new, with_part, with_residual, with_guide, with_range, with_closer, fall, place_part, place_prefix, attachable, place_fuzzy, place_own, place_closer}
use Rattle.rules.proofs.Cases.{by-test, by-option, ways, true≢false, some≢none, some-injective}
use Rattle.rules.proofs.Each.{each_snoc}
use Rattle.exact.specs.Values.{Value}
use Rattle.exact.specs.Keys.{Engine, stored, holds}
use Rattle.exact.specs.Passes.{part_bytes, parts_bytes, first_value, within}
use Rattle.exact.specs.Placings.{placement, open_placings}
use Rattle.exact.proofs.Bytes.{Starts}

-- "The first four": a byte, tag, register or fact narrowing, and the part that it can become
pub data Becomes : Narrowing → SeekKeyPart → Type 0 where
  bytes : (own : List ℕ) → Becomes (Narrowing.Bytes own) (SeekKeyPart.Bytes own)
  tag : (disc : ℕ) → Becomes (Narrowing.Tag disc) (SeekKeyPart.Bytes (union_tag disc))
  register : (address : ℕ) (at : FieldPath) → Becomes (Narrowing.RegisterField address at) (SeekKeyPart.RegisterField address at)
  fact : (address : ℕ) → Becomes (Narrowing.FactId address) (SeekKeyPart.RegisterFactId address)

-- what stands while building holds: nothing but parts
pub record Open (range : Option Range) (guide : Option Guide) (e : Edges) : Type 0 where
  pub no-range : range ≡ None
  pub no-guide : guide ≡ None
  pub no-lo : e.lo ≡ None
  pub no-hi : e.hi ≡ None
  pub no-folded : e.folded ≡ []

-- the edges, where there is one
abbrev pub Edged : Option RangeEdge → Option RangeEdge → Option (List ℕ) → Type 0
Edged None None value = Unit {0}
Edged None (Some hi) value = within None (Some hi) value ≡ true
Edged (Some lo) hi value = within (Some lo) hi value ≡ true

pub edged-none : (lo hi : Option RangeEdge) (value : Option (List ℕ)) → lo ≡ None → hi ≡ None → Edged lo hi value
edged-none None None value e f = tt
edged-none None (Some hi) value e f = absurd (some≢none hi f)
edged-none (Some lo) hi value e f = absurd (some≢none lo e)

pub parts-snoc : (engine : Engine) (parts : List Part) (p : Part) → parts_bytes engine (parts ++ (p ∷ [])) ≡ parts_bytes engine parts ++ part_bytes engine p.key
unfolding parts_bytes concat_map
parts-snoc engine [] p = append-nil (part_bytes engine p.key)
parts-snoc engine (q ∷ parts) p =
    ap (λ (l : List ℕ). part_bytes engine q.key ++ l) (parts-snoc engine parts p) ∙ sym (append_assoc (part_bytes engine q.key) (parts_bytes engine parts) (part_bytes engine p.key))

module _ (engine : Engine) (ty : Ty) (key : Value) where
  -- what the level asks of the key so far
  pub record Passing (b : SeekBuilder) : Type 0 where
    pub starts : Starts (parts_bytes engine b.parts) (stored ty key)
    pub range : (r : Range) → b.range ≡ Some r → Starts (parts_bytes engine b.parts ++ r.prefix) (stored ty key)
    pub edges : Edged b.edges.lo b.edges.hi (first_value (drop (length (parts_bytes engine b.parts)) (stored ty key)))
    pub guide : (g : Guide) → b.guide ≡ Some g → holds engine ty key g.path (Narrowing.Fuzzy g.term g.distance g.anchor) ≡ true
    pub residuals : Each (λ r. holds engine ty key r.path r.op ≡ true) b.residuals

  -- the key passes so far, and while building holds the bytes that the parts have not reached yet are `rest`
  pub record Ready (b : SeekBuilder) (rest : List ℕ) : Type 0 where
    pub alone : b.building ≡ true → Open b.range b.guide b.edges
    pub passing : Passing b
    pub ahead : b.building ≡ true → stored ty key ≡ parts_bytes engine b.parts ++ rest

  -- a level before its first event
  pub ready-new : Ready new (stored ty key)
  unfolding new parts_bytes concat_map
  ready-new =
      record {
        alone = λ q. record { no-range = refl; no-guide = refl; no-lo = refl; no-hi = refl; no-folded = refl };
        passing = record { starts = (stored ty key, refl); range = λ r e. absurd (some≢none r (sym e)); edges = tt; guide = λ g e. absurd (some≢none g (sym e)); residuals = done };
        ahead = λ q. refl;
      }

  -- after the fall nothing is said of what is ahead
  pub ready-fallen : (b : SeekBuilder) (x y : List ℕ) → Ready b x → b.building ≡ false → Ready b y
  ready-fallen b x y r f = record { alone = r.alone; passing = r.passing; ahead = λ q. absurd (true≢false (sym q ∙ f)) }

  pub ready-fall : (b : SeekBuilder) (x y : List ℕ) → Ready b x → Ready (fall b) y
  unfolding fall
  ready-fall b x y r =
      record {
        alone = λ q. absurd (true≢false (sym q));
        passing = record { starts = r.passing.starts; range = r.passing.range; edges = r.passing.edges; guide = r.passing.guide; residuals = r.passing.residuals };
        ahead = λ q. absurd (true≢false (sym q));
      }

  -- a skip: building falls
  pub ready-skip : (T : Tables) (b : SeekBuilder) (x y : List ℕ) → Ready b x → Ready (placement T Event.skip b) y
  unfolding open_placings
  ready-skip T b x y r = ready-fall b x y r

  ready-residual : (b : SeekBuilder) (x y : List ℕ) (residual : Residual) → Ready b x → b.building ≡ false → holds engine ty key residual.path residual.op ≡ true → Ready (with_residual residual b) y
  unfolding with_residual
  ready-residual b x y residual r f h =
      record {
        alone = λ q. absurd (true≢false (sym q ∙ f));
        passing = record { starts = r.passing.starts; range = r.passing.range; edges = r.passing.edges; guide = r.passing.guide; residuals = each_snoc r.passing.residuals h };
        ahead = λ q. absurd (true≢false (sym q ∙ f));
      }

  ready-with-part : (b : SeekBuilder) (x rest : List ℕ) (part : Part) → Ready b (x ++ rest) → b.building ≡ true → part_bytes engine part.key ≡ x → Ready (with_part part b) rest
  unfolding with_part
  ready-with-part b x rest part r t e =
      let o = r.alone t in
      let on : stored ty key ≡ parts_bytes engine (b.parts ++ (part ∷ [])) ++ rest =
      r.ahead t ∙ sym (append_assoc (parts_bytes engine b.parts) x rest)
      ∙ ap (λ (l : List ℕ). l ++ rest) (ap (λ (l : List ℕ). parts_bytes engine b.parts ++ l) (sym e) ∙ sym (parts-snoc engine b.parts part)) in
      record {
        alone = λ q. record { no-range = o.no-range; no-guide = o.no-guide; no-lo = o.no-lo; no-hi = o.no-hi; no-folded = o.no-folded };
        passing = record {
          starts = (rest, on);
          range = λ g q. absurd (some≢none g (sym q ∙ o.no-range));
          edges = edged-none b.edges.lo b.edges.hi _ o.no-lo o.no-hi;
          guide = r.passing.guide;
          residuals = r.passing.residuals;
        };
        ahead = λ q. on;
      }

  ready-place-part : (n : ℕ) (part : SeekKeyPart) (path : FieldPath) (op : Narrowing) (b : SeekBuilder) (x rest : List ℕ)
      → part_bytes engine part ≡ x → holds engine ty key path op ≡ true → Ready b (x ++ rest) → Ready (place_part n part path op b) rest
  unfolding place_part
  ready-place-part n part path op b x rest e h r =
      by-test (λ b'. Ready b' rest) b.building
      (λ t. ready-with-part b x rest (record { key = part; node = n }) r t e)
      (λ f. ready-residual b (x ++ rest) rest (record { path = path; op = op; node = n }) r f h)

  -- a byte, tag, register or fact narrowing: its bytes are next
  pub ready-part : (T : Tables) {op : Narrowing} {part : SeekKeyPart} → Becomes op part → (n : ℕ) (path : FieldPath) (b : SeekBuilder) (x rest : List ℕ)
      → part_bytes engine part ≡ x → holds engine ty key path op ≡ true → Ready b (x ++ rest) → Ready (placement T (Event.narrow n path op) b) rest
  unfolding open_placings
  ready-part T (Becomes.bytes own) n path b x rest e h r = ready-place-part n (SeekKeyPart.Bytes own) path (Narrowing.Bytes own) b x rest e h r
  ready-part T (Becomes.tag disc) n path b x rest e h r = ready-place-part n (SeekKeyPart.Bytes (union_tag disc)) path (Narrowing.Tag disc) b x rest e h r
  ready-part T (Becomes.register a at) n path b x rest e h r = ready-place-part n (SeekKeyPart.RegisterField a at) path (Narrowing.RegisterField a at) b x rest e h r
  ready-part T (Becomes.fact a) n path b x rest e h r = ready-place-part n (SeekKeyPart.RegisterFactId a) path (Narrowing.FactId a) b x rest e h r

  ready-range : (b : SeekBuilder) (x y : List ℕ) (range : Range) → Ready b x → b.building ≡ true → Starts range.prefix x → Ready (fall (with_range range b)) y
  unfolding fall with_range
  ready-range b x y range r t s =
      let o = r.alone t in
      record {
        alone = λ q. absurd (true≢false (sym q));
        passing = record {
          starts = r.passing.starts;
          range = λ g q. subst (λ (k : Range). Starts (parts_bytes engine b.parts ++ k.prefix) (stored ty key)) (some-injective range g q)
              (s.0, r.ahead t ∙ ap (λ (l : List ℕ). parts_bytes engine b.parts ++ l) s.1 ∙ sym (append_assoc (parts_bytes engine b.parts) range.prefix s.0));
          edges = r.passing.edges;
          guide = r.passing.guide;
          residuals = r.passing.residuals;
        };
        ahead = λ q. absurd (true≢false (sym q));
      }

  -- a prefix: building falls, or has fallen
  pub ready-prefix : (T : Tables) (n : ℕ) (path : FieldPath) (prefix : List ℕ) (b : SeekBuilder) (x y : List ℕ)
      → Starts prefix x → holds engine ty key path (Narrowing.Prefix prefix) ≡ true → Ready b x → Ready (placement T (Event.narrow n path (Narrowing.Prefix prefix)) b) y
  unfolding open_placings place_prefix
  ready-prefix T n path prefix b x y s h r =
      by-test (λ b'. Ready b' y) b.building
      (λ t. ready-range b x y (record { path = path; prefix = prefix; node = n }) r t s)
      (λ f. ready-residual b x y (record { path = path; op = Narrowing.Prefix prefix; node = n }) r f h)

  ready-guide : (b : SeekBuilder) (x y : List ℕ) (guide : Guide) → Ready b x → holds engine ty key guide.path (Narrowing.Fuzzy guide.term guide.distance guide.anchor) ≡ true
      → Ready (fall (with_guide guide b)) y
  unfolding fall with_guide
  ready-guide b x y guide r h =
      record {
        alone = λ q. absurd (true≢false (sym q));
        passing = record {
          starts = r.passing.starts;
          range = r.passing.range;
          edges = r.passing.edges;
          guide = λ g q. subst (λ (k : Guide). holds engine ty key k.path (Narrowing.Fuzzy k.term k.distance k.anchor) ≡ true) (some-injective guide g q) h;
          residuals = r.passing.residuals;
        };
        ahead = λ q. absurd (true≢false (sym q));
      }

  -- while building holds a guide can be set
  pub attaches : (b : SeekBuilder) (path : FieldPath) → attachable b path ≡ false → (b.building ≡ true → b.guide ≡ None) → b.building ≡ false
  unfolding attachable
  attaches b path =
      by-option (λ r. r ≡ false → (b.building ≡ true → b.guide ≡ None) → b.building ≡ false) b.guide
      (λ e q h. by-test (λ r. r ≡ false → b.building ≡ false) b.building (λ t r. absurd (true≢false r)) (λ f r. f) q)
      (λ g e q h. ways b.building (b.building ≡ false) (λ t. absurd (some≢none g (sym e ∙ h t))) (λ f. f))

  pub ready-fuzzy : (T : Tables) (n : ℕ) (path : FieldPath) (x distance : ℕ) (anchor : Anchor) (b : SeekBuilder) (rest y : List ℕ)
      → holds engine ty key path (Narrowing.Fuzzy x distance anchor) ≡ true → Ready b rest → Ready (placement T (Event.narrow n path (Narrowing.Fuzzy x distance anchor)) b) y
  unfolding open_placings place_fuzzy
  ready-fuzzy T n path x distance anchor b rest y h r =
      by-test (λ b'. Ready b' y) (attachable b path)
      (λ t. ready-guide b rest y (record { path = path; term = x; distance = distance; anchor = anchor; node = n }) r h)
      (λ f. ready-residual b rest y (record { path = path; op = Narrowing.Fuzzy x distance anchor; node = n }) r (attaches b path f (λ t. (r.alone t).no-guide)) h)

  -- a field of the level's own row: always a residual, and building falls
  pub ready-own : (T : Tables) (n : ℕ) (path at : FieldPath) (b : SeekBuilder) (x y : List ℕ) → holds engine ty key path (Narrowing.OwnField at) ≡ true → Ready b x → Ready (placement T (Event.narrow n path (Narrowing.OwnField at)) b) y
  unfolding open_placings place_own fall with_residual
  ready-own T n path at b x y h r =
      record {
        alone = λ q. absurd (true≢false (sym q));
        passing = record { starts = r.passing.starts; range = r.passing.range; edges = r.passing.edges; guide = r.passing.guide; residuals = each_snoc r.passing.residuals h };
        ahead = λ q. absurd (true≢false (sym q));
      }

  -- a closer: the byte 00 is next
  pub ready-closer : (T : Tables) (n : ℕ) (b : SeekBuilder) (rest : List ℕ) → Ready b (0 ∷ rest) → Ready (placement T (Event.closer n) b) rest
  unfolding open_placings place_closer with_closer with_part part_bytes
  ready-closer T n b rest r =
      by-test (λ b'. Ready b' rest) b.building
      (λ t. let p = ready-with-part b term rest (record { key = SeekKeyPart.Bytes term; node = n }) r t refl in
      record {
        alone = p.alone;
        passing = record { starts = p.passing.starts; range = p.passing.range; edges = p.passing.edges; guide = p.passing.guide; residuals = p.passing.residuals };
        ahead = p.ahead;
      })
      (λ f. ready-fallen b (0 ∷ rest) rest r f)
