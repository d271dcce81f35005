-- Seeks, lists and levels, made up of what they hold.
use Prim.Native.Nat.{ℕ, ◌+◌, ◌*◌, ◌≤◌, ◌<◌}
use mathlib.Core.Path.{◌≡◌, sym, ap, ◌∙◌, subst}
use mathlib.Core.List.{List, [], ◌∷◌}
use Rattle.std.specs.Prelude.{Option}
use native.Mathlib.Omega.{arith}
use lib.ListN.{length, get_or, drop}
use Rattle.rules.specs.Read.{Reader, ◌>>=◌, pure, u16, many}
use Rattle.rules.specs.Read.Read.{got}
use Rattle.rules.specs.File.{FieldPath}
use Rattle.rules.specs.Reader as Reader
use Rattle.rules.specs.Placement.{Part, Residual, Guide, RangeEdge, SeekKey}
use Rattle.rules.specs.Plan.{PlanLevel}
use Rattle.file.specs.Steps.{word, read_at}
use Rattle.file.proofs.Readers.{then-got, needs-fixed, fixed-many, fixed-u16}
use Rattle.file.proofs.Sections.{word_in, word-then}
use Rattle.views.specs.Views.{run, path_at}
use Rattle.views.proofs.Runs.{run_at, needs-room, Finds, many-run}
use Rattle.plan_form.specs.Places.{Found}
use Rattle.plan_items.specs.Items.{items_at}
use Rattle.plan_items.proofs.Founds.{found_first, found-then, word-inside, word-found, kind-inside, kind-known, kind-then, kind-reads, fixed-room, found-one, items-are, items-read}
use Rattle.plan_items.proofs.Leaves.{node-reads}

-- two-byte numbers, one after another
pub numbers-inside : (f : List ℕ) (n p : ℕ) → 0 < n → Found f (many n u16) p → p ≤ length f
numbers-inside f n p h x = omega (arith, needs-room f 2 p (omega arith) (needs-fixed 2 fixed-u16) (found-one f u16 n p h x).reads)

module _ (f : List ℕ) (n p : ℕ) (h : p ≤ length f) (x : Found f (many n u16) p) where
  finds-word : Finds f u16 2 (word f)
  finds-word = record { whole = λ q h. word_in f q h }

  pub numbers-room : p + 2 * n ≤ length f
  numbers-room = omega (arith, fixed-room f (n * 2) p (many n u16) (fixed-many 2 fixed-u16 n) h x)

  numbers-run : read_at f (many n u16) p ≡ got (run (word f) 2 n p) (drop (p + 2 * n) f)
  numbers-run = many-run f 2 finds-word n p numbers-room

  pub numbers-read : read_at f (many n u16) p ≡ got (items_at f u16 n p) (drop (p + 2 * n) f)
  numbers-read = items-read f u16 n p _ (p + 2 * n) numbers-run

  pub number_of : (k : ℕ) → k < n → word f (p + 2 * k) ≡ get_or (items_at f u16 n p) k 0
  number_of k g = sym (ap (λ (l : List ℕ). get_or l k 0) (items-are f u16 n p _ _ numbers-run) ∙ run_at (word f) 2 n p k 0 g)

-- a seek of each kind
module _ (f : List ℕ) (n p : ℕ) (x : Found f (Reader.prefix_seek n) p) where
  pub prefix-text : Found f Reader.text p
  unfolding Reader.prefix_seek
  prefix-text = found_first f Reader.text _ p x

  module _ (t : List ℕ) (q : ℕ) (g : read_at f Reader.text p ≡ got t (drop q f)) where
    pub prefix-nodes : Found f (many n u16) q
    unfolding Reader.prefix_seek
    prefix-nodes = found_first f (many n u16) _ q (found-then f Reader.text _ p x t q g)

    pub prefix-reads : q ≤ length f → read_at f (Reader.prefix_seek n) p ≡ got (SeekKey.Prefix t (items_at f u16 n q)) (drop (q + 2 * n) f)
    unfolding Reader.prefix_seek read_at pure
    prefix-reads h = then-got f Reader.text _ p t q g ∙ then-got f (many n u16) _ q _ (q + 2 * n) (numbers-read f n q h prefix-nodes)

abbrev range_made : List Part → List ℕ → FieldPath → ℕ → SeekKey
range_made parts t path m = SeekKey.PrefixRange parts (record { path = path; prefix = t; node = m })

module _ (f : List ℕ) (n p : ℕ) where
  pub composite-parts : Found f (Reader.composite_seek n) p → Found f (many n Reader.part) p
  unfolding Reader.composite_seek
  composite-parts x = found_first f (many n Reader.part) _ p x

  pub range-parts : Found f (Reader.range_seek n) p → Found f (many n Reader.part) p
  unfolding Reader.range_seek
  range-parts x = found_first f (many n Reader.part) _ p x

  pub bounded-parts : Found f (Reader.bounded_seek n) p → Found f (many n Reader.part) p
  unfolding Reader.bounded_seek
  bounded-parts x = found_first f (many n Reader.part) _ p x

  module _ (parts : List Part) (q : ℕ) (g : read_at f (many n Reader.part) p ≡ got parts (drop q f)) where
    pub composite-reads : read_at f (Reader.composite_seek n) p ≡ got (SeekKey.Composite parts) (drop q f)
    unfolding Reader.composite_seek read_at pure
    composite-reads = then-got f (many n Reader.part) _ p parts q g

    pub range-text : Found f (Reader.range_seek n) p → Found f Reader.text q
    unfolding Reader.range_seek
    range-text x = found_first f Reader.text _ q (found-then f (many n Reader.part) _ p x parts q g)

    module _ (t : List ℕ) (o : ℕ) (h : read_at f Reader.text q ≡ got t (drop o f)) where
      path-left : Found f (Reader.range_seek n) p → Found f (Reader.path >>= λ w. u16 >>= λ m. pure (range_made parts t w m)) o
      unfolding Reader.range_seek
      path-left x = found-then f Reader.text _ q (found-then f (many n Reader.part) _ p x parts q g) t o h

      pub range-path : Found f (Reader.range_seek n) p → Found f Reader.path o
      range-path x = found_first f Reader.path _ o (path-left x)

      module _ (x : Found f (Reader.range_seek n) p) (e : ℕ) (k : read_at f Reader.path o ≡ got (path_at f o) (drop e f)) where
        range-node : Found f (u16 >>= λ m. pure (range_made parts t (path_at f o) m)) e
        range-node = found-then f Reader.path _ o (path-left x) (path_at f o) e k

        pub range-room : e + 2 ≤ length f
        range-room = word-inside f _ e range-node

        pub range-reads : (m : ℕ) → m ≡ word f e → read_at f (Reader.range_seek n) p ≡ got (SeekKey.PrefixRange parts (record { path = path_at f o; prefix = t; node = m })) (drop (e + 2) f)
        unfolding Reader.range_seek
        range-reads m u =
            then-got f (many n Reader.part) _ p parts q g ∙ then-got f Reader.text _ q t o h ∙ then-got f Reader.path _ o (path_at f o) e k
            ∙ node-reads f (range_made parts t (path_at f o)) e m range-node u

    pub bounded-lo : Found f (Reader.bounded_seek n) p → Found f Reader.edge q
    unfolding Reader.bounded_seek
    bounded-lo x = found_first f Reader.edge _ q (found-then f (many n Reader.part) _ p x parts q g)

    pub bounded-hi : Found f (Reader.bounded_seek n) p → (lo : Option RangeEdge) (o : ℕ) → read_at f Reader.edge q ≡ got lo (drop o f) → Found f Reader.edge o
    unfolding Reader.bounded_seek
    bounded-hi x lo o h = found_first f Reader.edge _ o (found-then f Reader.edge _ q (found-then f (many n Reader.part) _ p x parts q g) lo o h)

    pub bounded-reads : (lo hi : Option RangeEdge) (o e : ℕ) → read_at f Reader.edge q ≡ got lo (drop o f) → read_at f Reader.edge o ≡ got hi (drop e f)
        → read_at f (Reader.bounded_seek n) p ≡ got (SeekKey.Bounded parts lo hi) (drop e f)
    unfolding Reader.bounded_seek read_at pure
    bounded-reads lo hi o e h k = then-got f (many n Reader.part) _ p parts q g ∙ then-got f Reader.edge _ q lo o h ∙ then-got f Reader.edge _ o hi e k

-- and by its kind
abbrev seek_readers : ℕ → List (Reader SeekKey)
seek_readers n = Reader.prefix_seek n ∷ Reader.composite_seek n ∷ Reader.range_seek n ∷ Reader.bounded_seek n ∷ []

module _ (f : List ℕ) (n p : ℕ) (x : Found f (Reader.seek n) p) where
  pub seek-inside : p < length f
  unfolding Reader.seek
  seek-inside = kind-inside f (seek_readers n) p x

  pub seek-known : get_or f p 0 < 4
  unfolding Reader.seek
  seek-known = kind-known f (seek_readers n) p x

  pub prefix-found : get_or f p 0 ≡ 0 → Found f (Reader.prefix_seek n) (p + 1)
  unfolding Reader.seek
  prefix-found e = kind-then f (seek_readers n) p x 0 e

  pub composite-found : get_or f p 0 ≡ 1 → Found f (Reader.composite_seek n) (p + 1)
  unfolding Reader.seek
  composite-found e = kind-then f (seek_readers n) p x 1 e

  pub range-found : get_or f p 0 ≡ 2 → Found f (Reader.range_seek n) (p + 1)
  unfolding Reader.seek
  range-found e = kind-then f (seek_readers n) p x 2 e

  pub bounded-found : get_or f p 0 ≡ 3 → Found f (Reader.bounded_seek n) (p + 1)
  unfolding Reader.seek
  bounded-found e = kind-then f (seek_readers n) p x 3 e

  module _ (s : SeekKey) (q : ℕ) where
    pub seek-prefix : get_or f p 0 ≡ 0 → read_at f (Reader.prefix_seek n) (p + 1) ≡ got s (drop q f) → read_at f (Reader.seek n) p ≡ got s (drop q f)
    unfolding Reader.seek
    seek-prefix e g = kind-reads f (seek_readers n) p x 0 e s q g

    pub seek-composite : get_or f p 0 ≡ 1 → read_at f (Reader.composite_seek n) (p + 1) ≡ got s (drop q f) → read_at f (Reader.seek n) p ≡ got s (drop q f)
    unfolding Reader.seek
    seek-composite e g = kind-reads f (seek_readers n) p x 1 e s q g

    pub seek-range : get_or f p 0 ≡ 2 → read_at f (Reader.range_seek n) (p + 1) ≡ got s (drop q f) → read_at f (Reader.seek n) p ≡ got s (drop q f)
    unfolding Reader.seek
    seek-range e g = kind-reads f (seek_readers n) p x 2 e s q g

    pub seek-bounded : get_or f p 0 ≡ 3 → read_at f (Reader.bounded_seek n) (p + 1) ≡ got s (drop q f) → read_at f (Reader.seek n) p ≡ got s (drop q f)
    unfolding Reader.seek
    seek-bounded e g = kind-reads f (seek_readers n) p x 3 e s q g

-- a count, then as many
module _ {A : Type 0} (f : List ℕ) (r : Reader A) (p : ℕ) (x : Found f (Reader.counted r) p) where
  pub counted-inside : p + 2 ≤ length f
  unfolding Reader.counted
  counted-inside = word-inside f _ p x

  pub counted-found : (n : ℕ) → n ≡ word f p → Found f (many n r) (p + 2)
  unfolding Reader.counted
  counted-found n e = rw e (word-found f _ p x)

  pub counted-reads : (n q : ℕ) → n ≡ word f p → read_at f (many n r) (p + 2) ≡ got (items_at f r n (p + 2)) (drop q f) → read_at f (Reader.counted r) p ≡ got (items_at f r n (p + 2)) (drop q f)
  unfolding Reader.counted
  counted-reads n q e g = word-then f p _ counted-inside ∙ ap (λ (j : ℕ). read_at f (many j r) (p + 2)) (sym e) ∙ g

-- of two-byte numbers
module _ (f : List ℕ) (p : ℕ) (x : Found f (Reader.counted u16) p) (n : ℕ) (e : n ≡ word f p) where
  pub words-room : p + 2 + 2 * n ≤ length f
  words-room = numbers-room f n (p + 2) (counted-inside f u16 p x) (counted-found f u16 p x n e)

  pub words-read : read_at f (Reader.counted u16) p ≡ got (items_at f u16 n (p + 2)) (drop (p + 2 + 2 * n) f)
  words-read = counted-reads f u16 p x n (p + 2 + 2 * n) e (numbers-read f n (p + 2) (counted-inside f u16 p x) (counted-found f u16 p x n e))

-- what is left of a level after its counts, its seek, its guide and its residuals
abbrev after_residuals : ℕ → ℕ → ℕ → SeekKey → Option Guide → List Residual → Reader PlanLevel
after_residuals ns cs ps s g rs =
    Reader.counted u16 >>= λ fs. pure (record { narrowings = ns; closers = cs; parts = ps; seek = s; guide = g; residuals = rs; folded = fs })

abbrev after_guide : ℕ → ℕ → ℕ → SeekKey → Option Guide → Reader PlanLevel
after_guide ns cs ps s g = Reader.counted Reader.residual >>= λ rs. after_residuals ns cs ps s g rs

abbrev after_seek : ℕ → ℕ → ℕ → SeekKey → Reader PlanLevel
after_seek ns cs ps s = Reader.guide >>= λ g. after_guide ns cs ps s g

abbrev after_counts : ℕ → ℕ → ℕ → Reader PlanLevel
after_counts ns cs ps = Reader.seek ps >>= λ s. after_seek ns cs ps s

module _ (f : List ℕ) (p : ℕ) (x : Found f Reader.level p) where
  second : Found f (u16 >>= λ cs. u16 >>= λ ps. after_counts (word f p) cs ps) (p + 2)
  unfolding Reader.level
  second = word-found f _ p x

  third : Found f (u16 >>= λ ps. after_counts (word f p) (word f (p + 2)) ps) (p + 2 + 2)
  third = word-found f _ (p + 2) second

  pub counts-inside : p + 6 ≤ length f
  counts-inside = omega (arith, word-inside f _ (p + 2 + 2) third)

  pub counts-found : (ps : ℕ) → ps ≡ word f (p + 4) → Found f (after_counts (word f p) (word f (p + 2)) ps) (p + 6)
  counts-found ps e =
      let a : p + 2 + 2 ≡ p + 4 = omega arith in
      let b : p + 4 + 2 ≡ p + 6 = omega arith in
      rw e (subst (λ (j : ℕ). Found f (after_counts (word f p) (word f (p + 2)) (word f (p + 4))) j) b
      (subst (λ (j : ℕ). Found f (after_counts (word f p) (word f (p + 2)) (word f j)) (j + 2)) a (word-found f _ (p + 2 + 2) third)))

  counts-read : read_at f Reader.level p ≡ read_at f (after_counts (word f p) (word f (p + 2)) (word f (p + 4))) (p + 6)
  unfolding Reader.level
  counts-read =
      let a : p + 2 + 2 ≡ p + 4 = omega arith in
      let b : p + 4 + 2 ≡ p + 6 = omega arith in
      word-then f p _ (omega (arith, counts-inside)) ∙ word-then f (p + 2) _ (omega (arith, counts-inside)) ∙ word-then f (p + 2 + 2) _ (omega (arith, counts-inside))
      ∙ ap (λ (j : ℕ). read_at f (after_counts (word f p) (word f (p + 2)) (word f j)) (j + 2)) a
      ∙ ap (λ (j : ℕ). read_at f (after_counts (word f p) (word f (p + 2)) (word f (p + 4))) j) b

  module _ (ps : ℕ) (e : ps ≡ word f (p + 4)) where
    pub level-seek : Found f (Reader.seek ps) (p + 6)
    level-seek = found_first f (Reader.seek ps) _ (p + 6) (counts-found ps e)

    module _ (s : SeekKey) (a : ℕ) (sg : read_at f (Reader.seek ps) (p + 6) ≡ got s (drop a f)) where
      seek-left : Found f (after_seek (word f p) (word f (p + 2)) ps s) a
      seek-left = found-then f (Reader.seek ps) _ (p + 6) (counts-found ps e) s a sg

      pub level-guide : Found f Reader.guide a
      level-guide = found_first f Reader.guide _ a seek-left

      module _ (g : Option Guide) (b : ℕ) (gg : read_at f Reader.guide a ≡ got g (drop b f)) where
        guide-left : Found f (after_guide (word f p) (word f (p + 2)) ps s g) b
        guide-left = found-then f Reader.guide _ a seek-left g b gg

        pub level-residuals : Found f (Reader.counted Reader.residual) b
        level-residuals = found_first f (Reader.counted Reader.residual) _ b guide-left

        module _ (rs : List Residual) (c : ℕ) (rg : read_at f (Reader.counted Reader.residual) b ≡ got rs (drop c f)) where
          pub level-folded : Found f (Reader.counted u16) c
          level-folded = found_first f (Reader.counted u16) _ c (found-then f (Reader.counted Reader.residual) _ b guide-left rs c rg)

          pub level-reads : (ns cs : ℕ) (fs : List ℕ) (d : ℕ) → ns ≡ word f p → cs ≡ word f (p + 2) → read_at f (Reader.counted u16) c ≡ got fs (drop d f)
              → read_at f Reader.level p ≡ got (record { narrowings = ns; closers = cs; parts = ps; seek = s; guide = g; residuals = rs; folded = fs }) (drop d f)
          unfolding read_at pure
          level-reads ns cs fs d u v fg =
              counts-read ∙ ap (λ (j : ℕ). read_at f (after_counts (word f p) (word f (p + 2)) j) (p + 6)) (sym e)
              ∙ ap (λ (j : ℕ). read_at f (after_counts j (word f (p + 2)) ps) (p + 6)) (sym u) ∙ ap (λ (j : ℕ). read_at f (after_counts ns j ps) (p + 6)) (sym v)
              ∙ then-got f (Reader.seek ps) _ (p + 6) s a sg ∙ then-got f Reader.guide _ a g b gg ∙ then-got f (Reader.counted Reader.residual) _ b rs c rg
              ∙ then-got f (Reader.counted u16) _ c fs d fg
