-- An index that remembers keeps what it had, and what it remembers is so.
use Prim.Native.Nat.{ℕ, zero, suc, ◌+◌, ◌*◌, ◌/◌, ◌%◌, ◌≤◌, ◌<◌}
use mathlib.Core.Bool.{Bool, true, false}
use mathlib.Core.List.{List, [], ◌∷◌}
use Rattle.std.specs.Prelude.{Option, None, Some}
use mathlib.Core.Path.{◌≡◌, refl, sym, ap, ◌∙◌, subst}
use native.Mathlib.Omega.{arith}
use native.Mathlib.Nat.{zero-add}
use native.Mathlib.Numerals.{add-one}
use borrow.Author.Tests.{lt-ltb, eqb-true, eqb-false}
use lib.Dec.{eqb, ltb}
use lib.ListN.{length, get_or, set, replicate, length-set, length-replicate, get_or-eq_default}
use lib.Seq.{sets, length-sets, get_or-set_same, get_or-set_other}
use Rattle.rules.specs.Limits.{type_limit, node_limit, binding_limit}
use Rattle.rules.specs.File.{Tables, Binding, FieldPattern}
use Rattle.rules.proofs.Cases.{pick, some≢none, some-injective}
use Rattle.file.specs.Steps.{base_of, limit_of, depths_base, constants_base, last_bindings_base, index_length}
use Rattle.rules.specs.Read.{Reader}
use Rattle.file.specs.Tables.{Stands, Section, Indexed, tables_of}
use Rattle.file.proofs.Accepted.{sets_below, sets-in}
use Rattle.accepted_file.specs.Fates.{fate_by, fate, digit, in_row, recalled, rows_base, fates_base, row_words, long_length}
use Rattle.accepted_file.specs.AcceptedFile.{AcceptedFile}
use Rattle.accepted_file.proofs.Given.{few-names, few-types, few-nodes}
use Rattle.rules.specs.Base.{both}
use Rattle.rules.proofs.Cases.{both_left, both_right, ltb-lt}
use Rattle.rules.proofs.Literals.{constant-in}
use Rattle.field_cases.specs.Pieces.{patterns_of}
use Rattle.fates.specs.Rows.{fate_or, word_of, row_of, with_row, const_record, with_binding, with_bindings, remembering}
use Rattle.fates.specs.Rows.{row_limit, Kept, kept, is_parent, rowless, with_part, with_parts, with_held, with_nodes}
use Rattle.fates.proofs.Parts.{parent-constant}
use Rattle.fates.proofs.Packed.{digit-packed, word_at, words-length}

pub sets-past : (vs l : List ℕ) (b j d : ℕ) → b + length vs ≤ j → get_or (sets l b vs) j d ≡ get_or l j d
unfolding sets
sets-past [] l b j d h = refl
sets-past (v ∷ vs) l b j d h = sets-past vs (set l b v) (suc b) j d (omega arith) ∙ get_or-set_other l b j v d (λ e. omega arith)

-- a fate takes two bits
by-small : (a b c : Bool) → fate_by a b c < 4
unfolding fate_by
by-small false b c = omega arith
by-small true true c = omega arith
by-small true false true = omega arith
by-small true false false = omega arith

fate-small : (T : Tables) (n t : ℕ) → fate T n t < 4
unfolding fate
fate-small T n t = by-small _ _ _

pub or-small : (T : Tables) (n t : ℕ) → fate_or T n t < 4
unfolding fate_or
or-small T n t = go (ltb t (length T.types))
  where
    go : (b : Bool) → elim b [ true ↦ fate T n t | false ↦ 0 ] < 4
    go true = fate-small T n t
    go false = omega arith

-- lx has index ix in front; its rows are numbered below k, and what it remembers is so
pub record Right (T : Tables) (ix lx : List ℕ) (k : ℕ) : Type 0 where
  pub long : length lx ≡ long_length
  pub front : (i : ℕ) → i < index_length → get_or lx i 0 ≡ get_or ix i 0
  pub rows : (n : ℕ) → n < node_limit → get_or lx (rows_base + n) 0 ≤ k
  pub right : (n t d : ℕ) → n < length T.nodes → t < length T.types → recalled lx n t ≡ Some d → d ≡ fate T n t

module _ (T : Tables) (ix : List ℕ) (few-t : length T.types ≤ type_limit) (few-n : length T.nodes ≤ node_limit) where
  -- at first it remembers nothing
  pub right-none : (zeros : List ℕ) → length ix ≡ index_length → length zeros ≡ long_length → ((i : ℕ) → get_or zeros i 0 ≡ 0) → Right T ix (sets zeros 0 ix) 0
  unfolding recalled in_row
  right-none zeros l z h =
      let past : (n : ℕ) → get_or (sets zeros 0 ix) (rows_base + n) 0 ≡ 0 = λ n. sets-past ix zeros 0 (rows_base + n) 0 (omega arith) ∙ h (rows_base + n) in
      record {
        long = length-sets zeros 0 ix ∙ z;
        front = λ i g. rw (zero-add i) at (sets-in ix zeros 0 i 0 (omega arith) (omega arith));
        rows = λ n g. let e = past n in omega arith;
        right = λ n t d g u e. absurd (some≢none d (sym e ∙ ap (λ (r : ℕ). in_row (sets zeros 0 ix) r t) (past n)));
      }

  module _ (lx : List ℕ) (k : ℕ) (R : Right T ix lx k) where
    module _ (m : ℕ) (in-nodes : m < length T.nodes) (few-k : k < binding_limit) where
      abbrev base : ℕ
      base = fates_base + row_words * k

      abbrev rx : List ℕ
      rx = sets lx base (row_of T m)

      row-long : length (row_of T m) ≡ row_words
      unfolding row_of
      row-long = words-length (word_of T m) 0 row_words

      rx-long : length rx ≡ long_length
      rx-long = length-sets lx base (row_of T m) ∙ R.long

      -- the row's own words
      own-word : (t : ℕ) → t < length T.types → get_or rx (base + t / 8) 0 ≡ word_of T m (t / 8)
      unfolding row_of
      own-word t u =
          sets-in (row_of T m) lx base (t / 8) 0 (omega (arith, row-long)) (omega (arith, R.long))
          ∙ word_at (word_of T m) 0 row_words (t / 8) (omega arith) ∙ ap (word_of T m) (zero-add (t / 8))

      own-fate : (t : ℕ) → t < length T.types → digit (t % 8) (word_of T m (t / 8)) ≡ fate T m t
      unfolding word_of fate_or
      own-fate t u =
          let e : 8 * (t / 8) + t % 8 ≡ t = omega arith in
          digit-packed (fate_or T m) (or-small T m) (t % 8) (8 * (t / 8)) 8 (omega arith)
          ∙ ap (fate_or T m) e
          ∙ pick (ltb t (length T.types)) true _ _ (lt-ltb t (length T.types) u)

      abbrev jx : List ℕ
      jx = with_row T m k lx

      -- a place that is not the node's own row number
      jx-other : (j : ℕ) → (j ≡ rows_base + m → ⊥) → get_or jx j 0 ≡ get_or rx j 0
      unfolding with_row
      jx-other j ne = get_or-set_other rx (rows_base + m) j (k + 1) 0 ne

      jx-own : get_or jx (rows_base + m) 0 ≡ k + 1
      unfolding with_row
      jx-own = get_or-set_same rx (rows_base + m) (k + 1) 0 (omega (arith, rx-long))

      low_same : (j : ℕ) → j < base → (j ≡ rows_base + m → ⊥) → get_or jx j 0 ≡ get_or lx j 0
      low_same j h ne = jx-other j ne ∙ sets_below (row_of T m) lx base j 0 h

      own-right : (t d : ℕ) → t < length T.types → recalled jx m t ≡ Some d → d ≡ fate T m t
      unfolding recalled in_row
      own-right t d u e =
          let w = jx-other (base + t / 8) (λ q. omega arith) ∙ own-word t u in
          let r : in_row jx (get_or jx (rows_base + m) 0) t ≡ Some (digit (t % 8) (get_or jx (base + t / 8) 0)) = ap (λ (i : ℕ). in_row jx i t) (jx-own ∙ add-one k) in
          some-injective d _ (sym e ∙ r) ∙ ap (digit (t % 8)) w ∙ own-fate t u

      other_row : (i t : ℕ) → i ≤ k → t < length T.types → in_row jx i t ≡ in_row lx i t
      unfolding in_row
      other_row zero t h u = refl
      other_row (suc i) t h u = ap (λ (w : ℕ). Some (digit (t % 8) w)) (low_same (fates_base + row_words * i + t / 8) (omega arith) (λ q. omega arith))

      other-right : (n t d : ℕ) → (n ≡ m → ⊥) → n < length T.nodes → t < length T.types → recalled jx n t ≡ Some d → d ≡ fate T n t
      unfolding recalled
      other-right n t d ne h u e =
          let number = low_same (rows_base + n) (omega arith) (λ q. ne (omega arith)) in
          R.right n t d h u (sym (other_row (get_or lx (rows_base + n) 0) t (R.rows n (omega arith)) u) ∙ sym (ap (λ (i : ℕ). in_row jx i t) number) ∙ e)

      number-low : (n : ℕ) (b : Bool) → eqb n m ≡ b → n < node_limit → get_or jx (rows_base + n) 0 ≤ k + 1
      number-low n true q h = let e = ap (λ (i : ℕ). get_or jx (rows_base + i) 0) (eqb-true n m q) ∙ jx-own in omega arith
      number-low n false q h =
          let ne = eqb-false n m q in
          let e = low_same (rows_base + n) (omega arith) (λ g. ne (omega arith)) in
          let r = R.rows n h in
          omega arith

      by-node : (n t d : ℕ) (b : Bool) → eqb n m ≡ b → n < length T.nodes → t < length T.types → recalled jx n t ≡ Some d → d ≡ fate T n t
      by-node n t d true q h u e =
          let s = eqb-true n m q in
          own-right t d u (ap (λ (i : ℕ). recalled jx i t) (sym s) ∙ e) ∙ ap (λ (i : ℕ). fate T i t) (sym s)
      by-node n t d false q h u e = other-right n t d (eqb-false n m q) h u e

      jx-long : length jx ≡ long_length
      unfolding with_row
      jx-long = length-set rx (rows_base + m) (k + 1) ∙ rx-long

      pub right-row : Right T ix (with_row T m k lx) (k + 1)
      right-row =
          record {
            long = jx-long;
            front = λ i g. low_same i (omega arith) (λ q. omega arith) ∙ R.front i g;
            rows = λ n g. number-low n (eqb n m) refl g;
            right = λ n t d h u e. by-node n t d (eqb n m) refl h u e;
          }

-- the parts of what has a row
abbrev RightKept : Tables → List ℕ → Kept → Type 0
RightKept T ix s = Right T ix s.index s.next

module _ (T : Tables) (ix : List ℕ) (few-t : length T.types ≤ type_limit) (few-n : length T.nodes ≤ node_limit) where
  right-part : (n : ℕ) (s : Kept) → RightKept T ix s → RightKept T ix (with_part T n s)
  unfolding with_part
  right-part n s R = go (both (ltb s.next row_limit) (both (is_parent T n) (rowless n s))) refl
    where
      go : (b : Bool) → both (ltb s.next row_limit) (both (is_parent T n) (rowless n s)) ≡ b → RightKept T ix (elim b [ true ↦ kept (s.next + 1) (with_row T n s.next s.index) | false ↦ s ])
      go true e =
          right-row T ix few-t few-n s.index s.next R n (constant-in T n (parent-constant T n (both_left (is_parent T n) (rowless n s) (both_right (ltb s.next row_limit) _ e))))
          (ltb-lt s.next row_limit (both_left (ltb s.next row_limit) _ e))
      go false e = R

  right-parts : (fs : List FieldPattern) (s : Kept) → RightKept T ix s → RightKept T ix (with_parts T fs s)
  unfolding with_parts
  right-parts [] s R = R
  right-parts (f ∷ fs) s R = right-parts fs (with_part T f.node s) (right-part f.node s R)

  right-held : (n : ℕ) (s : Kept) → RightKept T ix s → RightKept T ix (with_held T n s)
  unfolding with_held
  right-held n s R = go (rowless n s)
    where
      go : (b : Bool) → RightKept T ix (elim b [ true ↦ s | false ↦ with_parts T (patterns_of T n) s ])
      go true = R
      go false = right-parts (patterns_of T n) s R

  right_binding : (b : Binding) (s : Kept) → RightKept T ix s → RightKept T ix (with_binding T b s)
  unfolding with_binding
  right_binding b s R = go (const_record T b)
    where
      go : (o : Option ℕ) → RightKept T ix (elim o [ None ↦ s | Some n ↦ with_part T n s ])
      go None = R
      go (Some n) = right-part n s R

  right-bindings : (bs : List Binding) (s : Kept) → RightKept T ix s → RightKept T ix (with_bindings T bs s)
  unfolding with_bindings
  right-bindings [] s R = R
  right-bindings (b ∷ bs) s R = right-bindings bs (with_binding T b s) (right_binding b s R)

  right-nodes : (n : ℕ) (s : Kept) → RightKept T ix s → RightKept T ix (with_nodes T n s)
  unfolding with_nodes
  right-nodes zero s R = R
  right-nodes (suc n) s R = right-nodes n (with_held T n s) (right-held n s R)

-- the index's own areas stand where they stood
module _ {A : Type 0} (f ix lx : List ℕ) (same : (i : ℕ) → i < index_length → get_or lx i 0 ≡ get_or ix i 0) (s : ℕ) (r : Reader A) (xs : List A) (few : base_of s + 1 + limit_of s ≤ index_length) where
  section-same : Section f ix s r xs → Section f lx s r xs
  section-same x =
      record {
        count = same (base_of s) (omega arith) ∙ x.count;
        under = x.under;
        record-at = λ t d k.
            let e = same (base_of s + 1 + t) (omega (arith, x.under)) in
            subst (λ (p : ℕ). Stands f r p (get_or xs t d)) (sym e) (x.record-at t d k);
      }

module _ (f ix zeros : List ℕ) (a : AcceptedFile f ix) (short : length ix ≡ index_length) (long : length zeros ≡ long_length) (none-set : (i : ℕ) → get_or zeros i 0 ≡ 0) where
  abbrev T : Tables
  T = tables_of f

  abbrev lx : List ℕ
  lx = remembering T ix zeros

  abbrev bound : Kept
  bound = with_bindings T T.bindings (kept 0 (sets zeros 0 ix))

  all_right : Right T ix lx (with_nodes T (length T.nodes) bound).next
  unfolding remembering
  all_right =
      let t = few-types f ix a.indexed in
      let n = few-nodes f ix a.indexed in
      right-nodes T ix t n (length T.nodes) bound (right-bindings T ix t n T.bindings (kept 0 (sets zeros 0 ix)) (right-none T ix t n zeros short long none-set))

  long-indexed : Indexed f lx
  unfolding base_of limit_of
  long-indexed =
      let x = a.indexed in
      let R = all_right in
      record {
        small = x.small;
        long = omega (arith, R.long);
        accepted = x.accepted;
        names = section-same f ix lx R.front _ _ _ (omega arith) x.names;
        types = section-same f ix lx R.front _ _ _ (omega arith) x.types;
        predicates = section-same f ix lx R.front _ _ _ (omega arith) x.predicates;
        nodes = section-same f ix lx R.front _ _ _ (omega arith) x.nodes;
        bindings = section-same f ix lx R.front _ _ _ (omega arith) x.bindings;
        hoisted = section-same f ix lx R.front _ _ _ (omega arith) x.hoisted;
        fetched = section-same f ix lx R.front _ _ _ (omega arith) x.fetched;
        constraints = section-same f ix lx R.front _ _ _ (omega arith) x.constraints;
        comparisons = section-same f ix lx R.front _ _ _ (omega arith) x.comparisons;
        levels = section-same f ix lx R.front _ _ _ (omega arith) x.levels;
      }

  -- an index that remembers serves as the index does
  pub long-accepted : AcceptedFile f lx
  long-accepted =
      let R = all_right in
      let i = a.indexed in
      record {
        indexed = long-indexed;
        accepted = a.accepted;
        depths = λ t h. R.front (depths_base + t) (omega (arith, few-types f ix i)) ∙ a.depths t h;
        constants = λ n h. R.front (constants_base + n) (omega (arith, few-nodes f ix i)) ∙ a.constants n h;
        last-bindings = λ x h. R.front (last_bindings_base + x) (omega (arith, few-names f ix i)) ∙ a.last-bindings x h;
        remembered = R.right;
      }

-- an index that is no longer than its own areas remembers nothing
pub short-recalls : (T : Tables) (ix : List ℕ) → length ix ≡ index_length → (n t d : ℕ) → recalled ix n t ≡ Some d → d ≡ fate T n t
unfolding recalled in_row
short-recalls T ix l n t d e = absurd (some≢none d (sym e ∙ ap (λ (r : ℕ). in_row ix r t) (get_or-eq_default ix 0 {n = rows_base + n} (omega arith))))

zero-at : (n i : ℕ) → ◌≡◌ {A = ℕ} (get_or (replicate n 0) i 0) 0
zero-at zero i = refl
zero-at (suc n) zero = refl
zero-at (suc n) (suc i) = zero-at n i

-- what `remember` makes of zeros is an index
pub remembered-accepted : (f ix lx : List ℕ) → AcceptedFile f ix → length ix ≡ index_length → lx ≡ remembering (tables_of f) ix (replicate long_length 0) → AcceptedFile f lx
remembered-accepted f ix lx a short e =
    subst (AcceptedFile f) (sym e) (long-accepted f ix (replicate long_length 0) a short (length-replicate {A = ℕ} long_length 0) (zero-at long_length))
