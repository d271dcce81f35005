-- A walk of the written rules only grows: its lists and its level never come to fewer bytes, and its level stays sane.
use mathlib.Core.Bool.{Bool, true, false}
use mathlib.Core.List.{List, [], ◌∷◌, ◌++◌}
use Rattle.std.specs.Prelude.{None}
use mathlib.Core.Path.{◌≡◌, refl, sym, ap, ◌∙◌, subst, subst₂}
use Prim.Native.Nat.{ℕ, suc, ◌+◌, ◌≤◌}
use native.Mathlib.Nat.{suc-add, zero-add, add-zero}
use native.Mathlib.Omega.{arith}
use lib.ListN.{length, drop, length-append}
use Rattle.rules.specs.Base.{concat_map}
use Rattle.rules.specs.File.{Tables, Ty, FieldPath, Slot, Anchor}
use Rattle.rules.specs.Constant.{Const, term}
use Rattle.rules.specs.Events.{Code, Narrowing, Event, Lists, Walk, bind, constrained, select, report, emit, brings}
use Rattle.rules.specs.Walk.{narrowing}
use Rattle.rules.specs.Placement.{SeekKeyPart, Part, Residual, Guide, Range, Edges, SeekBuilder, new, with_part, with_residual, with_guide, with_range, with_edges, with_closer, fall, place_part, place_prefix, attachable, place_fuzzy, place_own, place_narrowing, place_closer, place_bound, place, place_all}
use Rattle.rules.specs.Levels.{narrowings}
use Rattle.rules.specs.Plan as Plan
use Rattle.rules.specs.Demand3.{number}
use Rattle.rules.proofs.Cases.{by-test, by-option, true≢false, some≢none}
use Rattle.rules.proofs.Keeps.{Keeps, narrow, skip}
use Rattle.rules.proofs.Kept.{place_all-append}
use Rattle.state.proofs.Seqs.{length-snoc, length-drop-append}
use Rattle.state.proofs.Sizes.{weight, part_size-snoc, Sane}

-- One change each.
weight-part : (p : Part) (b : SeekBuilder) → weight b ≤ weight (with_part p b)
unfolding weight with_part
weight-part p b = omega (arith, part_size-snoc b.parts p)

weight-residual : (r : Residual) (b : SeekBuilder) → weight b ≤ weight (with_residual r b)
unfolding weight with_residual
weight-residual r b = omega (arith, length-snoc Plan.residual b.residuals r)

sane-part : (n m : ℕ) (p : Part) (b : SeekBuilder) → m ≤ n + 1 → Sane n b → Sane m (with_part p b)
unfolding with_part
sane-part n m p b l s = record { clean = s.clean; no-range = s.no-range; no-guide = s.no-guide; counted = omega (arith, s.counted, length-append b.parts (p ∷ [])) }

sane-residual : (n : ℕ) (r : Residual) (b : SeekBuilder) → b.building ≡ false → Sane n b → Sane (n + 1) (with_residual r b)
unfolding with_residual
sane-residual n r b e s =
    record {
      clean = λ q. absurd (true≢false (sym q ∙ e));
      no-range = s.no-range;
      no-guide = s.no-guide;
      counted = omega (arith, s.counted, length-append b.residuals (r ∷ []));
    }

sane-closer : (n : ℕ) (b : SeekBuilder) → Sane n b → Sane n (with_closer b)
unfolding with_closer
sane-closer n b s = record { clean = s.clean; no-range = s.no-range; no-guide = s.no-guide; counted = s.counted }

sane-edges : (n : ℕ) (edges : Edges) (b : SeekBuilder) → Sane n b → Sane n (with_edges edges b)
unfolding with_edges
sane-edges n edges b s = record { clean = s.clean; no-range = s.no-range; no-guide = s.no-guide; counted = s.counted }

-- a level that has fallen
fallen : (m : ℕ) (b : SeekBuilder) → b.building ≡ false → m ≤ length b.parts + length b.residuals + number b.range + number b.guide → Sane m b
fallen m b e c =
    record {
      clean = λ q. absurd (true≢false (sym q ∙ e));
      no-range = λ q. absurd (true≢false (sym q ∙ e));
      no-guide = λ q. absurd (true≢false (sym q ∙ e));
      counted = c;
    }

sane-fall : (n : ℕ) (b : SeekBuilder) → Sane n b → Sane n (fall b)
unfolding fall
sane-fall n b s = fallen n (fall b) refl s.counted

sane-range : (n : ℕ) (range : Range) (b : SeekBuilder) → b.building ≡ true → Sane n b → Sane (n + 1) (fall (with_range range b))
unfolding fall with_range number
sane-range n range b e s = fallen (n + 1) (fall (with_range range b)) refl (omega (arith, s.counted, ap number (s.no-range e)))

sane-guide : (n : ℕ) (guide : Guide) (b : SeekBuilder) → b.guide ≡ None → Sane n b → Sane (n + 1) (fall (with_guide guide b))
unfolding fall with_guide number
sane-guide n guide b e s = fallen (n + 1) (fall (with_guide guide b)) refl (omega (arith, s.counted, ap number e))

-- One event: n narrowings and what they made, before and after.
pub record Step (n : ℕ) (b : SeekBuilder) (m : ℕ) (b' : SeekBuilder) : Type 0 where
  pub sane : Sane n b → Sane m b'
  pub weight : weight b ≤ weight b'

step-residual : (n : ℕ) (r : Residual) (b : SeekBuilder) → (Sane n b → b.building ≡ false) → Step n b (n + 1) (with_residual r b)
unfolding with_residual
step-residual n r b e = record { sane = λ s. sane-residual n r b (e s) s; weight = weight-residual r b }

step_part : (n node : ℕ) (key : SeekKeyPart) (path : FieldPath) (op : Narrowing) (b : SeekBuilder) → Step n b (n + 1) (place_part node key path op b)
unfolding place_part with_part
step_part n node key path op b =
    let p : Part = record { key = key; node = node } in
    by-test (Step n b (n + 1)) b.building
    (λ e. record { sane = sane-part n (n + 1) p b (omega arith); weight = weight-part p b })
    (λ e. step-residual n (record { path = path; op = op; node = node }) b (λ s. e))

step-prefix : (n node : ℕ) (path : FieldPath) (prefix : List ℕ) (b : SeekBuilder) → Step n b (n + 1) (place_prefix node path prefix b)
unfolding place_prefix fall with_range weight
step-prefix n node path prefix b =
    by-test (Step n b (n + 1)) b.building
    (λ e. record { sane = sane-range n (record { path = path; prefix = prefix; node = node }) b e; weight = omega arith })
    (λ e. step-residual n (record { path = path; op = Narrowing.Prefix prefix; node = node }) b (λ s. e))

-- a guide is attached only where none is, and always while building holds
attaches : (b : SeekBuilder) (path : FieldPath) → attachable b path ≡ true → b.guide ≡ None
unfolding attachable
attaches b path = by-option (λ r. r ≡ true → b.guide ≡ None) b.guide (λ e q. e) (λ g e q. absurd (true≢false (sym q)))

not-true : (t : Bool) → (t ≡ true → ⊥) → t ≡ false
not-true true h = absurd (h refl)
not-true false h = refl

refuses-guide : (n : ℕ) (b : SeekBuilder) (path : FieldPath) → attachable b path ≡ false → Sane n b → b.building ≡ false
unfolding attachable
refuses-guide n b path f s =
    by-option (λ r. r ≡ false → b.building ≡ false) b.guide
    (λ e. by-test (λ r. r ≡ false → b.building ≡ false) b.building (λ q r. absurd (true≢false r)) (λ q r. q))
    (λ g e q. not-true b.building (λ t. some≢none g (sym e ∙ s.no-guide t))) f

step-fuzzy : (n node : ℕ) (path : FieldPath) (x d : ℕ) (a : Anchor) (b : SeekBuilder) → Step n b (n + 1) (place_fuzzy node path x d a b)
unfolding place_fuzzy fall with_guide weight
step-fuzzy n node path x d a b =
    by-test (Step n b (n + 1)) (attachable b path)
    (λ e. record { sane = sane-guide n (record { path = path; term = x; distance = d; anchor = a; node = node }) b (attaches b path e); weight = omega arith })
    (λ e. step-residual n (record { path = path; op = Narrowing.Fuzzy x d a; node = node }) b (refuses-guide n b path e))

-- building falls with it, so it need not have fallen before
sane-own : (n : ℕ) (r : Residual) (b : SeekBuilder) → Sane n b → Sane (n + 1) (fall (with_residual r b))
unfolding fall with_residual
sane-own n r b s = sane-residual n r (fall b) refl (sane-fall n b s)

step-own : (n node : ℕ) (path at : FieldPath) (b : SeekBuilder) → Step n b (n + 1) (place_own node path at b)
unfolding place_own fall weight
step-own n node path at b =
    let r : Residual = record { path = path; op = Narrowing.OwnField at; node = node } in
    record { sane = sane-own n r b; weight = weight-residual r b }

step-constant : (n node : ℕ) (path : FieldPath) (c : Const) (b : SeekBuilder) → Step n b (n + 1) (place_narrowing node path (narrowing c) b)
unfolding place_narrowing narrowing
step-constant n node path (Const.Bytes bytes) b = step_part n node _ path _ b
step-constant n node path (Const.Prefix bytes) b = step-prefix n node path bytes b
step-constant n node path (Const.Fuzzy x d a) b = step-fuzzy n node path x d a b

step-fall : (n : ℕ) (b : SeekBuilder) → Step n b n (fall b)
unfolding fall weight
step-fall n b = record { sane = sane-fall n b; weight = omega arith }

step-bound : (T : Tables) (x t n : ℕ) (b : SeekBuilder) → Step n b n (place_bound T x t b)
unfolding place_bound with_edges weight
step-bound T x t n b =
    by-test (Step n b n) b.building
    (λ e. record { sane = sane-edges n _ b; weight = omega arith })
    (λ e. record { sane = λ s. s; weight = omega arith })

step-closer : (n node : ℕ) (b : SeekBuilder) → Step n b n (place_closer node b)
unfolding place_closer with_closer with_part weight
step-closer n node b =
    let p : Part = record { key = SeekKeyPart.Bytes term; node = node } in
    by-test (Step n b n) b.building
    (λ e. record { sane = λ s. sane-closer n _ (sane-part n n p b (omega arith) s); weight = weight-part p b })
    (λ e. record { sane = λ s. s; weight = omega arith })

-- A walk's level: what placement makes of its events, and how many of them narrow.
abbrev pub built : Tables → Walk → SeekBuilder
built T w = place_all T w.events new

abbrev pub met : Walk → ℕ
met w = narrowings w.events

narrowings-append : (es fs : List Event) → narrowings (es ++ fs) ≡ narrowings es + narrowings fs
unfolding narrowings
narrowings-append [] fs = sym (zero-add (narrowings fs))
narrowings-append (Event.narrow n path x ∷ es) fs = ap suc (narrowings-append es fs) ∙ sym (suc-add (narrowings es) (narrowings fs))
narrowings-append (Event.skip ∷ es) fs = narrowings-append es fs
narrowings-append (Event.closer n ∷ es) fs = narrowings-append es fs
narrowings-append (Event.bound x t ∷ es) fs = narrowings-append es fs

pub built-emit : (T : Tables) (e : Event) (w : Walk) → built T (emit e w) ≡ place T e (built T w)
unfolding emit place_all
built-emit T e w = place_all-append T w.events (e ∷ []) new

pub met-emit : (e : Event) (w : Walk) → met (emit e w) ≡ met w + narrowings (e ∷ [])
unfolding emit
met-emit e w = narrowings-append w.events (e ∷ [])

-- the bytes of the four lists, beyond the file's own bindings, and with them the level's
unfoldable pub list_size : Tables → Lists → ℕ
list_size T l =
    length (concat_map Plan.binding (drop (length T.bindings) l.bindings)) + length (concat_map Plan.u16 l.constrained) + length (concat_map Plan.select l.selects)
    + length (concat_map Plan.diagnostic l.diagnostics)

unfoldable pub size : Tables → Walk → ℕ
size T w = list_size T w.lists + weight (built T w)

pub record Grew (T : Tables) (w w' : Walk) : Type 0 where
  pub sane : Sane (met w) (built T w) → Sane (met w') (built T w')
  pub size : size T w ≤ size T w'

-- one event more
grew-emit : (T : Tables) (e : Event) (w : Walk) → Step (met w) (built T w) (met w + narrowings (e ∷ [])) (place T e (built T w)) → Grew T w (emit e w)
unfolding emit size
grew-emit T e w s =
    let same = built-emit T e w in
    record { sane = λ k. subst₂ Sane (sym (met-emit e w)) (sym same) (s.sane k); size = omega (arith, s.weight, ap weight same) }

-- one entry more in one of the lists
grew-lists : (T : Tables) (w w' : Walk) → w'.events ≡ w.events → list_size T w.lists ≤ list_size T w'.lists → Grew T w w'
unfolding size
grew-lists T w w' e h =
    record {
      sane = subst (λ (es : List Event). Sane (narrowings es) (place_all T es new)) (sym e);
      size = omega (arith, h, ap (λ (es : List Event). weight (place_all T es new)) e);
    }

grew_same : (T : Tables) (w : Walk) → Grew T w w
grew_same T w = record { sane = λ s. s; size = omega arith }

grew-next : (T : Tables) (u v w : Walk) → Grew T u v → Grew T v w → Grew T u w
grew-next T u v w g h = record { sane = λ s. h.sane (g.sane s); size = omega (arith, g.size, h.size) }

pub grew-bind : (T : Tables) (x : ℕ) (slot : Slot) (w : Walk) → Grew T w (bind x slot w)
unfolding bind list_size
grew-bind T x slot w = grew-lists T w (bind x slot w) refl (omega (arith, length-drop-append Plan.binding (length T.bindings) w.lists.bindings (record { name = x; slot = slot } ∷ [])))

pub grew-constrained : (T : Tables) (x : ℕ) (w : Walk) → Grew T w (constrained x w)
unfolding constrained list_size
grew-constrained T x w = grew-lists T w (constrained x w) refl (omega (arith, length-snoc Plan.u16 w.lists.constrained x))

pub grew-select : (T : Tables) (a : ℕ) (p : FieldPath) (d : ℕ) (w : Walk) → Grew T w (select a p d w)
unfolding select list_size
grew-select T a p d w = grew-lists T w (select a p d w) refl (omega (arith, length-snoc Plan.select w.lists.selects (record { address = a; path = p; disc = d })))

pub grew-report : (T : Tables) (n : ℕ) (c : Code) (w : Walk) → Grew T w (report n c w)
unfolding report list_size
grew-report T n c w = grew-lists T w (report n c w) refl (omega (arith, length-snoc Plan.diagnostic w.lists.diagnostics (record { node = n; code = c })))

pub grew-brings : (T : Tables) (slot : Slot) (ty : Ty) (w : Walk) → Grew T w (brings T slot ty w)
unfolding brings
grew-brings T slot ty w = grew-lists T w (brings T slot ty w) refl (omega arith)

pub grew-skip : (T : Tables) (w : Walk) → Grew T w (skip w)
unfolding place narrowings
grew-skip T w = grew-emit T Event.skip w (rw add-zero (step-fall (met w) (built T w)))

pub grew-bound : (T : Tables) (x t : ℕ) (w : Walk) → Grew T w (emit (Event.bound x t) w)
unfolding place narrowings
grew-bound T x t w = grew-emit T (Event.bound x t) w (rw add-zero (step-bound T x t (met w) (built T w)))

grew-narrow : (T : Tables) (m : ℕ) (path : FieldPath) (x : Narrowing) (w : Walk) → Step (met w) (built T w) (met w + 1) (place_narrowing m path x (built T w)) → Grew T w (narrow m path x w)
unfolding place narrowings
grew-narrow T m path x w s = grew-emit T (Event.narrow m path x) w s

pub grew-constant : (T : Tables) (m : ℕ) (c : Const) (path : FieldPath) (w : Walk) → Grew T w (narrow m path (narrowing c) w)
grew-constant T m c path w = grew-narrow T m path (narrowing c) w (step-constant (met w) m path c (built T w))

pub grew-register : (T : Tables) (m a : ℕ) (at path : FieldPath) (w : Walk) → Grew T w (narrow m path (Narrowing.RegisterField a at) w)
unfolding place_narrowing
grew-register T m a at path w = grew-narrow T m path (Narrowing.RegisterField a at) w (step_part (met w) m _ path _ (built T w))

pub grew-fact : (T : Tables) (m a : ℕ) (path : FieldPath) (w : Walk) → Grew T w (narrow m path (Narrowing.FactId a) w)
unfolding place_narrowing
grew-fact T m a path w = grew-narrow T m path (Narrowing.FactId a) w (step_part (met w) m _ path _ (built T w))

pub grew-own : (T : Tables) (m : ℕ) (at path : FieldPath) (w : Walk) → Grew T w (narrow m path (Narrowing.OwnField at) w)
unfolding place_narrowing
grew-own T m at path w = grew-narrow T m path (Narrowing.OwnField at) w (step-own (met w) m path at (built T w))

pub grew-tag : (T : Tables) (m d : ℕ) (path : FieldPath) (w : Walk) → Grew T w (narrow m path (Narrowing.Tag d) w)
unfolding place_narrowing
grew-tag T m d path w = grew-narrow T m path (Narrowing.Tag d) w (step_part (met w) m _ path _ (built T w))

pub grew-closer : (T : Tables) (m : ℕ) (w : Walk) → Grew T w (emit (Event.closer m) w)
unfolding place narrowings
grew-closer T m w = grew-emit T (Event.closer m) w (rw add-zero (step-closer (met w) m (built T w)))

pub grew-keeps : (T : Tables) → Keeps T (Grew T)
grew-keeps T =
    record {
      same = grew_same T;
      next = grew-next T;
      binds = λ x slot w e ok c. grew-bind T x slot w;
      constrains = grew-constrained T;
      selects = λ a p d w s. grew-select T a p d w;
      reports = λ n c h w. grew-report T n c w;
      skips = grew-skip T;
      bounds = λ x t w. grew-next T w _ _ (grew-bound T x t w) (grew-skip T (emit (Event.bound x t) w));
      constants = λ m n t c p w e s. grew-constant T m c p w;
      registers = λ m a at p w s s'. grew-register T m a at p w;
      facts = λ m a p w s. grew-fact T m a p w;
      own-fields = λ m at p w s s'. grew-own T m at p w;
      brought = grew-brings T;
      unions = λ m d p w w' s g. grew-next T w _ _ (grew-tag T m d p w) (grew-next T _ _ _ g (grew-closer T m w'));
    }
