-- The rules of a level by what its view says, and of all levels one after another.
use Prim.Native.Nat.{ℕ, ◌+◌, ◌-◌, ◌≤◌, ◌<◌}
use mathlib.Core.Path.{◌≡◌, refl, sym, ap, ap₂, ◌∙◌, subst}
use mathlib.Core.Bool.{Bool, true, false}
use mathlib.Core.List.{List, [], ◌∷◌, ◌++◌}
use mir.Val.{bool_byte}
use Rattle.std.specs.Prelude.{Option, None, Some, is_some, not, ◌&&◌, ◌||◌}
use native.Mathlib.Omega.{arith}
use borrow.Author.Tests.{leb-true}
use types.Run.{OneOf, miss}
use denote.Enum.Declared.{tag_of}
use lib.Dec.{eqb, leb}
use lib.ListN.{length, drop}
use Rattle.rules.specs.Base.{both, all, ◌when_some◌}
use Rattle.rules.specs.Read.{u16, many}
use Rattle.rules.specs.Read.Read.{got}
use Rattle.rules.specs.Lookup.{same_path}
use Rattle.rules.specs.File as File
use Rattle.rules.specs.Placement.{as_bytes, SeekKeyPart, Part, Guide, Range, SeekKey, joined}
use Rattle.rules.specs.Plan.{PlanLevel}
use Rattle.rules.specs.Demand3.{number, seek_range, seek_edges}
use Rattle.rules.specs.Reader as Reader
use Rattle.rules.specs.Reader.{closers_among_parts, narrowings_sum, edges_folded, seek_keeps, level_rules}
use Rattle.file.specs.Steps.{word, read_at}
use Rattle.views.specs.Views.{path_at, text_of}
use Rattle.views.specs.declared.TextView.{TextView}
use Rattle.views.proofs.Runs.{value_of}
use Rattle.plan_form.specs.Places.{plan_of, Opened, Found}
use Rattle.plan_items.specs.Items.{items_at, edge_of, guide_of, seek_of, level_of, GuideInside, SeekInside, LevelInside}
use Rattle.plan_items.specs.declared.EdgeView.{EdgeView}
use Rattle.plan_items.specs.declared.EdgeView.TheVariants as Ev
use Rattle.plan_items.specs.contracts.SeekView as SeekViews
use Rattle.plan_items.specs.declared.SeekView.{SeekView}
use Rattle.plan_items.specs.declared.SeekView.TheVariants as Kv
use Rattle.plan_items.specs.declared.GuideView.{GuideView}
use Rattle.plan_items.specs.declared.LevelView.{LevelView}
use Rattle.plan_items.proofs.Founds.{found-one, found-more, items_more, items-length}
use Rattle.plan_items.proofs.Leaves.{path-reads}
use Rattle.plan_items.proofs.Plans.{levels-found, opened-levels}
use Rattle.plan_rules.specs.Parts.{is_bytes}

-- the counts of a level that was read
module _ (f : List ℕ) (v : LevelView) (x : LevelInside f v) where
  pub sum_is : (n g r : ℕ) → v.closers ≤ v.parts → g ≡ number (guide_of f v.guide) → r ≡ number (seek_range (seek_of f v.parts v.seek))
      → n ≡ v.parts - v.closers + v.residuals.count + r + g → eqb v.narrowings n ≡ narrowings_sum (level_of f v)
  unfolding narrowings_sum
  sum_is n g r h a b e =
      let k : length (items_at f Reader.residual v.residuals.count v.residuals.at) ≡ v.residuals.count = items-length f Reader.residual _ _ x.residuals.found in
      ap (eqb v.narrowings) (e ∙ omega arith)

  pub folded-is : (n : ℕ) → n ≡ seek_edges (seek_of f v.parts v.seek) → eqb n v.folded.count ≡ edges_folded (level_of f v)
  unfolding edges_folded
  folded-is n e = ap (λ (j : ℕ). eqb j v.folded.count) e ∙ ap (eqb (seek_edges (seek_of f v.parts v.seek))) (sym (items-length f u16 _ _ x.folded.found))

-- Composite: the parts one by one
abbrev pub Asks : List Part → Option Guide → Bool
Asks parts g = seek_keeps (SeekKey.Composite parts) g

composite-more : (a : Part) (xs : List Part) (g : Option Guide) → is_bytes a.key ≡ true → Asks (a ∷ xs) g ≡ Asks xs g
unfolding seek_keeps joined as_bytes ◌when_some◌
composite-more a xs g e = key a.key e
  where
    chain : List ℕ → Option (List ℕ) → Option (List ℕ)
    chain bytes o = o when_some λ rest. Some (bytes ++ rest)

    go : (bytes : List ℕ) (o : Option (List ℕ)) → ◌≡◌ {A = Bool} (elim (chain bytes o) as (λ _. Bool) [ None ↦ true | Some b ↦ false ]) (elim o as (λ _. Bool) [ None ↦ true | Some b ↦ false ])
    go bytes None = refl
    go bytes (Some b) = refl

    key : (k : SeekKeyPart) → is_bytes k ≡ true → ◌≡◌ {A = Bool} (elim (as_bytes k when_some λ bytes. chain bytes (joined xs)) as (λ _. Bool) [ None ↦ true | Some b ↦ false ]) (Asks xs g)
    key (SeekKeyPart.Bytes bytes) e = go bytes (joined xs)
    key (SeekKeyPart.RegisterField b p) e = let z : ◌≡◌ {A = ℕ} 0 1 = cc in absurd (omega arith)
    key (SeekKeyPart.RegisterFactId b) e = let z : ◌≡◌ {A = ℕ} 0 1 = cc in absurd (omega arith)

composite-met : (a : Part) (xs : List Part) (g : Option Guide) → is_bytes a.key ≡ false → Asks (a ∷ xs) g ≡ true
unfolding seek_keeps joined as_bytes ◌when_some◌
composite-met a xs g e = key a.key e
  where
    key : (k : SeekKeyPart) → is_bytes k ≡ false → ◌≡◌ {A = Bool} (elim (as_bytes k when_some λ bytes. joined xs when_some λ rest. Some (bytes ++ rest)) as (λ _. Bool) [ None ↦ true | Some b ↦ false ]) true
    key (SeekKeyPart.Bytes bytes) e = let z : ◌≡◌ {A = ℕ} 0 1 = cc in absurd (omega arith)
    key (SeekKeyPart.RegisterField b p) e = refl
    key (SeekKeyPart.RegisterFactId b) e = refl

-- the n parts from p on, of which those before q are bytes
pub record Bytes (f : List ℕ) (n p left q : ℕ) : Type 0 where
  pub found : Found f (many left Reader.part) q
  pub same : (g : Option Guide) → Asks (items_at f Reader.part left q) g ≡ Asks (items_at f Reader.part n p) g

pub bytes-all : (f : List ℕ) (n p : ℕ) → Found f (many n Reader.part) p → Bytes f n p n p
bytes-all f n p x = record { found = x; same = λ g. refl }

module _ (f : List ℕ) (n p left q : ℕ) (x : Bytes f n p left q) where
  pub bytes_next : 0 < left → Found f Reader.part q
  bytes_next h = found-one f Reader.part left q h x.found

  pub bytes-more : (a : Part) (e : ℕ) → 0 < left → read_at f Reader.part q ≡ got a (drop e f) → is_bytes a.key ≡ true → Bytes f n p (left - 1) e
  bytes-more a e h r b =
      record {
        found = found-more f Reader.part left q h x.found a e r;
        same = λ g. sym (composite-more a _ g b) ∙ ap (λ (l : List Part). Asks l g) (sym (items_more f Reader.part left q h x.found a e r)) ∙ x.same g;
      }

  pub bytes-met : (a : Part) (e : ℕ) → 0 < left → read_at f Reader.part q ≡ got a (drop e f) → is_bytes a.key ≡ false → (g : Option Guide) → true ≡ Asks (items_at f Reader.part n p) g
  bytes-met a e h r b g = sym (composite-met a _ g b) ∙ ap (λ (l : List Part). Asks l g) (sym (items_more f Reader.part left q h x.found a e r)) ∙ x.same g

  pub bytes-only : left ≡ 0 → (g : Option Guide) → false ≡ Asks (items_at f Reader.part n p) g
  unfolding seek_keeps joined
  bytes-only h g = ap (λ (l : List Part). Asks l g) (sym (no_items h)) ∙ x.same g
    where
      no_items : left ≡ 0 → items_at f Reader.part left q ≡ []
      no_items h = empty (items_at f Reader.part left q) (items-length f Reader.part left q x.found ∙ h)
        where
          empty : (l : List Part) → length l ≡ 0 → l ≡ []
          empty [] e = refl
          empty (a ∷ l) e = absurd (omega arith)

-- the same by how many parts were passed
pub bytes-first : (f : List ℕ) (n p : ℕ) → Found f (many n Reader.part) p → Bytes f n p (n - 0) p
bytes-first f n p x = let e : n ≡ n - 0 = omega arith in subst (λ (k : ℕ). Bytes f n p k p) e (bytes-all f n p x)

module _ (f : List ℕ) (n p i q : ℕ) (x : Bytes f n p (n - i) q) (h : i < n) where
  pub bytes-step : (a : Part) (e : ℕ) → read_at f Reader.part q ≡ got a (drop e f) → is_bytes a.key ≡ true → Bytes f n p (n - (i + 1)) e
  bytes-step a e r b =
      let z : n - i - 1 ≡ n - (i + 1) = omega arith in
      subst (λ (k : ℕ). Bytes f n p k e) z (bytes-more f n p (n - i) q x a e (omega arith) r b)

-- PrefixRange: the guide's path beside the range's
module _ (f : List ℕ) (p : ℕ) (guide : Option GuideView) (parts : List Part) (prefix : List ℕ) (node : ℕ) where
  abbrev beside : Option Guide → Bool
  beside g = seek_keeps (SeekKey.PrefixRange parts (record { path = path_at f p; prefix = prefix; node = node })) g

  pub range-alone : guide ≡ None → true ≡ beside (guide_of f guide)
  unfolding seek_keeps
  range-alone e = ap (λ (v : Option GuideView). beside (guide_of f v)) (sym e)

  pub range-beside : (g : GuideView) (u v : File.FieldPath) (l o : List ℕ) → guide ≡ Some g → Found f Reader.path g.path → Found f Reader.path p
      → read_at f Reader.path g.path ≡ got u l → read_at f Reader.path p ≡ got v o → same_path u v ≡ beside (guide_of f guide)
  unfolding seek_keeps
  range-beside w u v l o k s n e g =
      ap (λ (t : File.FieldPath). same_path t v) (value_of e (path-reads f w.path s)) ∙ ap (same_path (path_at f w.path)) (value_of g (path-reads f p n))
      ∙ ap (λ (w : Option GuideView). beside (guide_of f w)) (sym k)

pub guide-as : (f : List ℕ) (v w : Option GuideView) → v ≡ w → GuideInside f v → GuideInside f w
guide-as f v w e x = subst (GuideInside f) e x

-- an edge or a guide by number
pub edge-number : (f : List ℕ) (v : Option EdgeView) → bool_byte (is_some v) ≡ number (edge_of f v)
unfolding number
edge-number f None = refl
edge-number f (Some (Ev.Exclusive t)) = refl
edge-number f (Some (Ev.Inclusive t)) = refl

pub guide-number : (f : List ℕ) (v : Option GuideView) → bool_byte (is_some v) ≡ number (guide_of f v)
unfolding number
guide-number f None = refl
guide-number f (Some v) = refl

-- Bounded: an edge, and no guide
by_flags : (a b g : Bool) → (a || b) && not g ≡ both (leb 1 (bool_byte a + bool_byte b)) (eqb (bool_byte g) 0)
by_flags true true true = refl
by_flags true true false = refl
by_flags true false true = refl
by_flags true false false = refl
by_flags false true true = refl
by_flags false true false = refl
by_flags false false true = refl
by_flags false false false = refl

module _ (f : List ℕ) (parts : List Part) (lo hi : Option EdgeView) (guide : Option GuideView) where
  pub bounded_is : (is_some lo || is_some hi) && not (is_some guide) ≡ seek_keeps (SeekKey.Bounded parts (edge_of f lo) (edge_of f hi)) (guide_of f guide)
  unfolding seek_keeps
  bounded_is =
      by_flags (is_some lo) (is_some hi) (is_some guide)
      ∙ ap₂ (λ (m n : ℕ). both (leb 1 (m + n)) (eqb (bool_byte (is_some guide)) 0)) (edge-number f lo) (edge-number f hi)
      ∙ ap (λ (n : ℕ). both (leb 1 (number (edge_of f lo) + number (edge_of f hi))) (eqb n 0)) (guide-number f guide)

-- a seek's edges
pub edges_are : (f : List ℕ) (n parts : ℕ) (lo hi : Option EdgeView) (seek : SeekView) (a b : ℕ) → seek ≡ Kv.Bounded parts lo hi → a ≡ number (edge_of f lo) → b ≡ number (edge_of f hi) → a + b ≡ seek_edges (seek_of f n seek)
unfolding seek_edges
edges_are f n parts lo hi seek a b e u v =
    ap (λ (j : ℕ). j + b) u ∙ ap (λ (j : ℕ). number (edge_of f lo) + j) v ∙ ap (λ (w : SeekView). seek_edges (seek_of f n w)) (sym e)

-- the seek of a level that was read, by its kind
module _ (f : List ℕ) (v : LevelView) (x : LevelInside f v) where
  abbrev Kept : SeekView → Bool
  Kept s = seek_keeps (seek_of f v.parts s) (guide_of f v.guide)

  pub prefix-keeps : (t : TextView) (nodes : ℕ) → v.seek ≡ Kv.Prefix t nodes → true ≡ Kept v.seek
  unfolding seek_keeps
  prefix-keeps t nodes e = ap Kept (sym e)

  pub composite-parts : (parts : ℕ) → v.seek ≡ Kv.Composite parts → Found f (many v.parts Reader.part) parts
  composite-parts parts e = subst (SeekInside f v.parts) e x.seek

  pub composite-keeps : (parts : ℕ) (r : Bool) → v.seek ≡ Kv.Composite parts → ((g : Option Guide) → r ≡ seek_keeps (SeekKey.Composite (items_at f Reader.part v.parts parts)) g) → r ≡ Kept v.seek
  composite-keeps parts r e k = k (guide_of f v.guide) ∙ ap Kept (sym e)

  pub range-path : (parts : ℕ) (t : TextView) (path node : ℕ) → v.seek ≡ Kv.PrefixRange parts t path node → Found f Reader.path path
  range-path parts t path node e = let inside : SeekInside f v.parts (Kv.PrefixRange parts t path node) = subst (SeekInside f v.parts) e x.seek in inside.2

  pub range-keeps : (parts : ℕ) (t : TextView) (path node : ℕ) (r : Bool) → v.seek ≡ Kv.PrefixRange parts t path node
      → ((ps : List Part) (prefix : List ℕ) (m : ℕ) → let range : Range = record { path = path_at f path; prefix = prefix; node = m } in r ≡ seek_keeps (SeekKey.PrefixRange ps range) (guide_of f v.guide))
      → r ≡ Kept v.seek
  range-keeps parts t path node r e k = k (items_at f Reader.part v.parts parts) (text_of f t) node ∙ ap Kept (sym e)

  pub bounded-keeps : (parts : ℕ) (lo hi : Option EdgeView) (r : Bool) → v.seek ≡ Kv.Bounded parts lo hi
      → ((g : List ℕ) (ps : List Part) → r ≡ seek_keeps (SeekKey.Bounded ps (edge_of g lo) (edge_of g hi)) (guide_of g v.guide)) → r ≡ Kept v.seek
  bounded-keeps parts lo hi r e k = k f (items_at f Reader.part v.parts parts) ∙ ap Kept (sym e)

-- a level's rules in their order
module _ (l : PlanLevel) where
  pub closers-break : closers_among_parts l ≡ false → false ≡ level_rules l
  unfolding level_rules
  closers-break a = ap (λ (t : Bool). both t (both (narrowings_sum l) (both (edges_folded l) (seek_keeps l.seek l.guide)))) (sym a)

  pub sum-breaks : closers_among_parts l ≡ true → narrowings_sum l ≡ false → false ≡ level_rules l
  unfolding level_rules
  sum-breaks a b = sym (ap (λ (t : Bool). both t (both (narrowings_sum l) (both (edges_folded l) (seek_keeps l.seek l.guide)))) a ∙ ap (λ (t : Bool). both t (both (edges_folded l) (seek_keeps l.seek l.guide))) b)

  pub edges-break : closers_among_parts l ≡ true → narrowings_sum l ≡ true → edges_folded l ≡ false → false ≡ level_rules l
  unfolding level_rules
  edges-break a b d =
      sym (ap (λ (t : Bool). both t (both (narrowings_sum l) (both (edges_folded l) (seek_keeps l.seek l.guide)))) a ∙ ap (λ (t : Bool). both t (both (edges_folded l) (seek_keeps l.seek l.guide))) b ∙ ap (λ (t : Bool). both t (seek_keeps l.seek l.guide)) d)

  pub seek-decides : closers_among_parts l ≡ true → narrowings_sum l ≡ true → edges_folded l ≡ true → seek_keeps l.seek l.guide ≡ level_rules l
  unfolding level_rules
  seek-decides a b d =
      sym (ap (λ (t : Bool). both t (both (narrowings_sum l) (both (edges_folded l) (seek_keeps l.seek l.guide)))) a ∙ ap (λ (t : Bool). both t (both (edges_folded l) (seek_keeps l.seek l.guide))) b ∙ ap (λ (t : Bool). both t (seek_keeps l.seek l.guide)) d)

-- the same of a level that was read, by what the code found
module _ (f : List ℕ) (v : LevelView) (x : LevelInside f v) (r : Bool) (k : (g : List ℕ) → r ≡ closers_among_parts (level_of g v)) where
  pub closers-most : r ≡ true → v.closers ≤ v.parts
  unfolding closers_among_parts
  closers-most a = leb-true _ _ (sym (k f) ∙ a)

  pub broken-closers : r ≡ false → false ≡ level_rules (level_of f v)
  broken-closers a = closers-break (level_of f v) (sym (k f) ∙ a)

  module _ (a : r ≡ true) (s : Bool) (m : (g : List ℕ) → LevelInside g v → s ≡ narrowings_sum (level_of g v)) where
    pub broken-sum : s ≡ false → false ≡ level_rules (level_of f v)
    broken-sum b = sum-breaks (level_of f v) (sym (k f) ∙ a) (sym (m f x) ∙ b)

    module _ (b : s ≡ true) (t : Bool) (n : (g : List ℕ) → LevelInside g v → t ≡ edges_folded (level_of g v)) where
      pub broken-edges : t ≡ false → false ≡ level_rules (level_of f v)
      broken-edges d = edges-break (level_of f v) (sym (k f) ∙ a) (sym (m f x) ∙ b) (sym (n f x) ∙ d)

      pub kept-by-seek : (u : Bool) → t ≡ true → u ≡ seek_keeps (seek_of f v.parts v.seek) (guide_of f v.guide) → u ≡ level_rules (level_of f v)
      kept-by-seek u d e = e ∙ seek-decides (level_of f v) (sym (k f) ∙ a) (sym (m f x) ∙ b) (sym (n f x) ∙ d)

-- all levels, of which those from q on are left
pub record Going (f : List ℕ) (left q : ℕ) : Type 0 where
  pub found : Found f (many left Reader.level) q
  pub same : all level_rules (items_at f Reader.level left q) ≡ all level_rules (plan_of f).levels

pub going-first : (f : List ℕ) → Opened f → (n : ℕ) → n ≡ word f 0 → Going f n 2
going-first f x n e = record { found = levels-found f x n e; same = ap (all level_rules) (opened-levels f x n e) }

module _ (f : List ℕ) (left q : ℕ) (x : Going f left q) (h : 0 < left) where
  pub going_next : Found f Reader.level q
  going_next = found-one f Reader.level left q h x.found

  module _ (l : PlanLevel) (e : ℕ) (r : read_at f Reader.level q ≡ got l (drop e f)) where
    first : (t : Bool) → level_rules l ≡ t → all level_rules (l ∷ items_at f Reader.level (left - 1) e) ≡ elim t as (λ _. Bool) [ true ↦ all level_rules (items_at f Reader.level (left - 1) e) | false ↦ false ]
    unfolding all
    first t k = ap (λ (t : Bool). elim t as (λ _. Bool) [ true ↦ all level_rules (items_at f Reader.level (left - 1) e) | false ↦ false ]) k

    here : all level_rules (l ∷ items_at f Reader.level (left - 1) e) ≡ all level_rules (plan_of f).levels
    here = ap (all level_rules) (sym (items_more f Reader.level left q h x.found l e r)) ∙ x.same

    pub going_more : level_rules l ≡ true → Going f (left - 1) e
    going_more k = record { found = found-more f Reader.level left q h x.found l e r; same = sym (first true k) ∙ here }

    pub going-broken : level_rules l ≡ false → false ≡ all level_rules (plan_of f).levels
    going-broken k = sym (first false k) ∙ here

pub going_end : (f : List ℕ) (left q : ℕ) → Going f left q → left ≡ 0 → true ≡ all level_rules (plan_of f).levels
unfolding all
going_end f left q x h = ap (all level_rules) (sym (empty (items_at f Reader.level left q) (items-length f Reader.level left q x.found ∙ h))) ∙ x.same
  where
    empty : (l : List PlanLevel) → length l ≡ 0 → l ≡ []
    empty [] e = refl
    empty (a ∷ l) e = absurd (omega arith)

-- the same by how many levels were passed
pub going-start : (f : List ℕ) → Opened f → (n : ℕ) → n ≡ word f 0 → Going f (n - 0) 2
going-start f x n e = let z : n ≡ n - 0 = omega arith in subst (λ (k : ℕ). Going f k 2) z (going-first f x n e)

pub going-step : (f : List ℕ) (n i q : ℕ) → Going f (n - i) q → i < n → (l : PlanLevel) (e : ℕ) → read_at f Reader.level q ≡ got l (drop e f) → level_rules l ≡ true → Going f (n - (i + 1)) e
going-step f n i q x h l e r k =
    let z : n - i - 1 ≡ n - (i + 1) = omega arith in
    subst (λ (j : ℕ). Going f j e) z (going_more f (n - i) q x (omega arith) l e r k)

-- the seeks that have no range or no edges
pub range-none : (f : List ℕ) (n : ℕ) (v : SeekView) → OneOf (0 ∷ 1 ∷ 3 ∷ []) (tag_of SeekViews.the_type v) → 0 ≡ number (seek_range (seek_of f n v))
unfolding number seek_range
range-none f n (Kv.Prefix t m) w = refl
range-none f n (Kv.Composite p) w = refl
range-none f n (Kv.PrefixRange p t q m) w = absurd (miss (0 ∷ 1 ∷ 3 ∷ []) 2 tt w)
range-none f n (Kv.Bounded p lo hi) w = refl

pub edges-none : (f : List ℕ) (n : ℕ) (v : SeekView) → OneOf (0 ∷ 1 ∷ 2 ∷ []) (tag_of SeekViews.the_type v) → 0 ≡ seek_edges (seek_of f n v)
unfolding seek_edges
edges-none f n (Kv.Prefix t m) w = refl
edges-none f n (Kv.Composite p) w = refl
edges-none f n (Kv.PrefixRange p t q m) w = refl
edges-none f n (Kv.Bounded p lo hi) w = absurd (miss (0 ∷ 1 ∷ 2 ∷ []) 3 tt w)
