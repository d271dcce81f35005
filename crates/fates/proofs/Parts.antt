-- The parts of what has a row, turn by turn.
use Prim.Native.Nat.{ℕ, suc, ◌+◌, ◌-◌, ◌*◌, ◌≤◌, ◌<◌}
use mathlib.Core.Bool.{Bool, true, false}
use mathlib.Core.List.{List, [], ◌∷◌}
use Rattle.std.specs.Prelude.{Option, None, Some, unwrap_or}
use mathlib.Core.Path.{◌≡◌, refl, sym, ap, ap₂, ◌∙◌, subst}
use native.Mathlib.Omega.{arith}
use native.Mathlib.Numerals.{add-one}
use borrow.Author.Tests.{lt-ltb, le-ltb, eq-eqb, ne_eqb}
use lib.Dec.{ltb}
use lib.ListN.{length, get_or, set, drop, length-set, length-drop}
use lib.Seq.{sets, length-sets, drop-cons}
use Rattle.rules.specs.Base.{both}
use Rattle.rules.specs.File.{Tables, FieldPattern, node_at, is_constant, record_fields}
use Rattle.rules.proofs.Cases.{pick, true≢false, both_left}
use Rattle.views.specs.Views.{pattern_at, pattern_of, run}
use Rattle.views.specs.declared.FieldPattern.{FieldPattern as FieldPatternView}
use Rattle.views.proofs.Runs.{run_at, length_run}
use Rattle.tables.specs.Tables.{SeenRun}
use Rattle.accepted_file.specs.Fates.{rows_base, fates_base, row_words, long_length}
use Rattle.field_cases.specs.Pieces.{patterns_of}
use Rattle.fates.specs.Rows.{row_limit, row_of, with_row, with_bindings, Kept, kept, is_parent, rowless, with_part, with_parts, with_held, with_nodes, remembering}

none_left : {A : Type 0} (l : List A) → length l ≤ 0 → l ≡ []
none_left [] h = refl
none_left (x ∷ l) h = absurd (omega arith)

-- what is a parent
module _ (T : Tables) (n : ℕ) where
  abbrev by-fields : Bool → Option (List FieldPattern) → Bool
  by-fields c o = elim o [ None ↦ false | Some fields ↦ both c (ltb 0 (length fields)) ]

  parent_by : (o : Option (List FieldPattern)) → by-fields (is_constant T n) o ≡ true → is_constant T n ≡ true
  parent_by None e = absurd (true≢false (sym e))
  parent_by (Some fields) e = both_left (is_constant T n) _ e

  pub parent-constant : is_parent T n ≡ true → is_constant T n ≡ true
  unfolding is_parent
  parent-constant e = parent_by (record_fields (node_at T n)) e

  module _ (f : List ℕ) (r : Option (ℕ × ℕ)) (p : SeenRun f (pattern_at f) 4 (record_fields (node_at T n)) r) where
    pub no-parent : r ≡ None → false ≡ is_parent T n
    unfolding is_parent
    no-parent q = ap (by-fields (is_constant T n)) (subst (SeenRun f (pattern_at f) 4 (record_fields (node_at T n))) q p).is

    module _ (k at : ℕ) (q : r ≡ Some (k, at)) where
      pub fields-are : Some (run (pattern_at f) 4 k at) ≡ record_fields (node_at T n)
      fields-are = (subst (SeenRun f (pattern_at f) 4 (record_fields (node_at T n))) q p).is

      pub parent-if : length (run (pattern_at f) 4 k at) ≡ k → (b : Bool) → b ≡ ltb 0 k → is_constant T n ≡ true → b ≡ is_parent T n
      unfolding is_parent
      parent-if l b e c =
          e ∙ ap (ltb 0) (sym l) ∙ ap (λ (x : Bool). both x (ltb 0 (length (run (pattern_at f) 4 k at)))) (sym c) ∙ ap (by-fields (is_constant T n)) fields-are

      pub parent-not : is_constant T n ≡ false → false ≡ is_parent T n
      unfolding is_parent
      parent-not c = ap (λ (x : Bool). both x (ltb 0 (length (run (pattern_at f) 4 k at)))) (sym c) ∙ ap (by-fields (is_constant T n)) fields-are

      pub patterns-are : patterns_of T n ≡ run (pattern_at f) 4 k at
      unfolding patterns_of
      patterns-are = ap (λ (o : Option (List FieldPattern)). unwrap_or o []) (sym fields-are)

      pub patterns-count : length (patterns_of T n) ≡ k
      patterns-count = ap length patterns-are ∙ length_run (pattern_at f) 4 k at

      -- the code's pattern i is pattern i
      pub pattern-node : (i : ℕ) (d : FieldPattern) (v : FieldPatternView) → i < k → pattern_of v ≡ pattern_at f (at + 4 * i) → v.node ≡ (get_or (patterns_of T n) i d).node
      pattern-node i d v h e =
          ap (λ (x : FieldPattern). x.node) (e ∙ sym (run_at (pattern_at f) 4 k at i d h) ∙ ap (λ (l : List FieldPattern). get_or l i d) (sym patterns-are))

    pub no-patterns : r ≡ None → patterns_of T n ≡ []
    unfolding patterns_of
    no-patterns q = ap (λ (o : Option (List FieldPattern)). unwrap_or o []) (sym (subst (SeenRun f (pattern_at f) 4 (record_fields (node_at T n))) q p).is)

-- one part
module _ (T : Tables) (n k : ℕ) (lx : List ℕ) where
  abbrev by-test : Bool → Kept
  by-test b = elim b [ true ↦ kept (k + 1) (with_row T n k lx) | false ↦ kept k lx ]

  both-no : (a b : Bool) → b ≡ false → both a b ≡ false
  both-no true b e = e
  both-no false b e = refl

  pub part-full : row_limit ≤ k → kept k lx ≡ with_part T n (kept k lx)
  unfolding with_part
  part-full h = sym (ap by-test (ap (λ (a : Bool). both a (both (is_parent T n) (rowless n (kept k lx)))) (le-ltb k row_limit h)))

  pub part_no : is_parent T n ≡ false → kept k lx ≡ with_part T n (kept k lx)
  unfolding with_part
  part_no e = sym (ap by-test (both-no (ltb k row_limit) (both (is_parent T n) (rowless n (kept k lx))) (ap (λ (a : Bool). both a (rowless n (kept k lx))) e)))

  pub part-has : (get_or lx (rows_base + n) 0 ≡ 0 → ⊥) → kept k lx ≡ with_part T n (kept k lx)
  unfolding with_part rowless
  part-has e = sym (ap by-test (both-no (ltb k row_limit) (both (is_parent T n) (rowless n (kept k lx))) (both-no (is_parent T n) (rowless n (kept k lx)) (ne_eqb _ _ e))))

  pub part-row : k < row_limit → is_parent T n ≡ true → get_or lx (rows_base + n) 0 ≡ 0 → (rx : List ℕ) → rx ≡ sets lx (fates_base + row_words * k) (row_of T n) → kept (k + 1) (set rx (rows_base + n) (k + 1)) ≡ with_part T n (kept k lx)
  unfolding with_part with_row rowless
  part-row h e z rx q =
      ap (λ (r : List ℕ). kept (k + 1) (set r (rows_base + n) (k + 1))) q
      ∙ sym (ap by-test (ap₂ both (lt-ltb k row_limit h) (ap₂ both e (eq-eqb _ _ z))))

abbrev pub index_size : Kept → ℕ
index_size s = length s.index

pub part_length : (T : Tables) (n : ℕ) (s : Kept) → length (with_part T n s).index ≡ length s.index
unfolding with_part with_row
part_length T n s = go (both (ltb s.next row_limit) (both (is_parent T n) (rowless n s)))
  where
    go : (b : Bool) → index_size (elim b [ true ↦ kept (s.next + 1) (with_row T n s.next s.index) | false ↦ s ]) ≡ length s.index
    go true = length-set (sets s.index (fates_base + row_words * s.next) (row_of T n)) (rows_base + n) (s.next + 1) ∙ length-sets s.index (fates_base + row_words * s.next) (row_of T n)
    go false = refl

-- a node's parts, the first i of them done
pub record Parted (T : Tables) (fs : List FieldPattern) (s₀ s : Kept) (i : ℕ) : Type 0 where
  pub low : i ≤ length fs
  pub long : length s.index ≡ long_length
  pub is : with_parts T fs s₀ ≡ with_parts T (drop i fs) s

module _ (T : Tables) (fs : List FieldPattern) (s₀ : Kept) where
  pub parted-none : length s₀.index ≡ long_length → Parted T fs s₀ s₀ 0
  parted-none l = record { low = omega arith; long = l; is = refl }

  module _ (s : Kept) (i : ℕ) (P : Parted T fs s₀ s i) where
    pub parted-more : i < length fs → (d : FieldPattern) (n : ℕ) → n ≡ (get_or fs i d).node → (r : Kept) → r ≡ with_part T n s → Parted T fs s₀ r (i + 1)
    unfolding with_parts
    parted-more h d n e r q =
        record {
          low = omega arith;
          long = ap (λ (x : Kept). length x.index) q ∙ part_length T n s ∙ P.long;
          is =
              P.is ∙ ap (λ (l : List FieldPattern). with_parts T l s) (drop-cons fs i d h)
              ∙ ap (λ (m : ℕ). with_parts T (drop (suc i) fs) (with_part T m s)) (sym e)
              ∙ ap (λ (x : Kept). with_parts T (drop (suc i) fs) x) (sym q)
              ∙ ap (λ (k : ℕ). with_parts T (drop k fs) r) (sym (add-one i));
        }

    pub parted-all : length fs ≤ i → s ≡ with_parts T fs s₀
    unfolding with_parts
    parted-all h = sym (P.is ∙ ap (λ (l : List FieldPattern). with_parts T l s) (none_left (drop i fs) (omega (arith, length-drop i fs))))

pub parts_none : (T : Tables) (fs : List FieldPattern) (s : Kept) → fs ≡ [] → s ≡ with_parts T fs s
unfolding with_parts
parts_none T fs s e = sym (ap (λ (l : List FieldPattern). with_parts T l s) e)

-- one node
module _ (T : Tables) (n : ℕ) (s : Kept) where
  pub held_none : get_or s.index (rows_base + n) 0 ≡ 0 → s ≡ with_held T n s
  unfolding with_held rowless
  held_none e = sym (pick (rowless n s) true s (with_parts T (patterns_of T n) s) (eq-eqb _ _ e))

  pub held-parts : (get_or s.index (rows_base + n) 0 ≡ 0 → ⊥) → with_parts T (patterns_of T n) s ≡ with_held T n s
  unfolding with_held rowless
  held-parts e = sym (pick (rowless n s) false s (with_parts T (patterns_of T n) s) (ne_eqb _ _ e))

parts-length : (T : Tables) (fs : List FieldPattern) (s : Kept) → length (with_parts T fs s).index ≡ length s.index
unfolding with_parts
parts-length T [] s = refl
parts-length T (f ∷ fs) s = parts-length T fs (with_part T f.node s) ∙ part_length T f.node s

held-length : (T : Tables) (n : ℕ) (s : Kept) → length (with_held T n s).index ≡ length s.index
unfolding with_held
held-length T n s = go (rowless n s)
  where
    go : (b : Bool) → index_size (elim b [ true ↦ s | false ↦ with_parts T (patterns_of T n) s ]) ≡ length s.index
    go true = refl
    go false = parts-length T (patterns_of T n) s

-- all nodes, those from n on done, from s₀ on
pub record Held (T : Tables) (s₀ : Kept) (lx : List ℕ) (k n : ℕ) : Type 0 where
  pub low : n ≤ length T.nodes
  pub long : length lx ≡ long_length
  pub is : with_nodes T (length T.nodes) s₀ ≡ with_nodes T n (kept k lx)

module _ (T : Tables) where
  pub held_first : (k n : ℕ) (sx : List ℕ) → length sx ≡ long_length → n ≡ length T.nodes → Held T (kept k sx) sx k n
  held_first k n sx l q =
      record {
        low = omega arith;
        long = l;
        is = ap (λ (m : ℕ). with_nodes T m (kept k sx)) (sym q);
      }

  module _ (s₀ : Kept) (lx : List ℕ) (k n : ℕ) (H : Held T s₀ lx k n) where
    pub held_more : 0 < n → (r : ℕ) (jx : List ℕ) → kept r jx ≡ with_held T (n - 1) (kept k lx) → Held T s₀ jx r (n - 1)
    unfolding with_nodes
    held_more h r jx e =
        let m : n ≡ suc (n - 1) = omega arith in
        record {
          low = omega (arith, H.low);
          long = ap (λ (x : Kept). length x.index) e ∙ held-length T (n - 1) (kept k lx) ∙ H.long;
          is = H.is ∙ ap (λ (i : ℕ). with_nodes T i (kept k lx)) m ∙ ap (with_nodes T (n - 1)) (sym e);
        }

    pub held_all : n ≡ 0 → (ix long fx : List ℕ) → fx ≡ sets long 0 ix → s₀ ≡ with_bindings T T.bindings (kept 0 fx) → lx ≡ remembering T ix long
    unfolding with_nodes remembering
    held_all z ix long fx q e =
        sym (ap (λ (x : Kept). x.index) (H.is ∙ ap (λ (i : ℕ). with_nodes T i (kept k lx)) z))
        ∙ ap (λ (x : Kept). (with_nodes T (length T.nodes) x).index) (e ∙ ap (λ (l : List ℕ). with_bindings T T.bindings (kept 0 l)) q)
