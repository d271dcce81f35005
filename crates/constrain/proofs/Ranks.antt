-- The constraints of a variable: those of one rank in file order, the ranks one after another.
use Prim.Native.Nat.{ℕ, zero, suc, ◌+◌, ◌-◌, ◌≤◌, ◌<◌}
use mathlib.Core.Path.{◌≡◌, refl, sym, ap, ◌∙◌}
use mathlib.Core.Bool.{Bool, true, false}
use mathlib.Core.List.{List, [], ◌∷◌, ◌++◌}
use native.Mathlib.Numerals.{add-one}
use native.Mathlib.Omega.{arith}
use types.Run.{OneOf, miss}
use denote.Enum.Declared.{tag_of}
use lib.Dec.{eqb}
use lib.ListN.{length, drop, drop_of_length-le}
use lib.Seq.{drop-cons}
use borrow.Author.Tests.{eq-eqb, ne_eqb}
use Rattle.std.specs.Prelude.{◌||◌, Option, None, Some}
use Rattle.std.specs.List.{list_any, range_with_len}
use Rattle.rules.proofs.Cases.{true≢false, some≢none}
use Rattle.rules.specs.Base.{first, filter}
use Rattle.rules.specs.File as File
use Rattle.rules.specs.File.{Tables, Constraint, Node, node_at}
use Rattle.rules.specs.Walk.{anchor_rank, rank, constraints_of, ranked, constrain_each, constrain_by, constrain}
use Rattle.state.specs.State.{State}
use Rattle.state.specs.Ops.{ops, bound, constrained, skip}
use Rattle.views.specs.Views.{anchor_of, node_of, constraint_of, constraint_at, SeenNode}
use Rattle.views.specs.declared.Anchor.{Anchor}
use Rattle.views.specs.declared.Anchor.TheVariants as An
use Rattle.views.specs.declared.Constraint as CodeConstraint
use Rattle.views.specs.declared.NodeView.{NodeView}
use Rattle.views.specs.declared.NodeView.TheVariants as Nv
use Rattle.views.specs.contracts.NodeView as NodeViews
use Rattle.walk.specs.Walk.{walk_state}
use Rattle.walk.specs.declared.Walk.{Walk}
use Rattle.constrain.specs.Constrain.{narrow_or, pattern_for, is_constrained}

-- A node's rank.
pub prefix-last : (a : Anchor) → a ≡ An.Prefix → 3 ≡ anchor_rank (anchor_of a)
unfolding anchor_rank
prefix-last a e = ap (λ x. anchor_rank (anchor_of x)) (sym e)

pub whole-first : (a : Anchor) → a ≡ An.Whole → 2 ≡ anchor_rank (anchor_of a)
unfolding anchor_rank
whole-first a e = ap (λ x. anchor_rank (anchor_of x)) (sym e)

other-rank : (f : List ℕ) (v : NodeView) → OneOf (0 ∷ 1 ∷ 2 ∷ 3 ∷ 4 ∷ 5 ∷ 8 ∷ 9 ∷ 10 ∷ 11 ∷ 12 ∷ 13 ∷ 14 ∷ 15 ∷ 16 ∷ []) (tag_of NodeViews.the_type v) → rank (node_of f v) ≡ 0
unfolding rank
other-rank f (Nv.Int at) w = refl
other-rank f (Nv.Str x) w = refl
other-rank f (Nv.Bytes n at) w = refl
other-rank f (Nv.Var x) w = refl
other-rank f Nv.Wildcard w = refl
other-rank f Nv.Never w = refl
other-rank f (Nv.Prefix x) w = absurd (miss (0 ∷ 1 ∷ 2 ∷ 3 ∷ 4 ∷ 5 ∷ 8 ∷ 9 ∷ 10 ∷ 11 ∷ 12 ∷ 13 ∷ 14 ∷ 15 ∷ 16 ∷ []) 6 tt w)
other-rank f (Nv.Fuzzy x d a) w = absurd (miss (0 ∷ 1 ∷ 2 ∷ 3 ∷ 4 ∷ 5 ∷ 8 ∷ 9 ∷ 10 ∷ 11 ∷ 12 ∷ 13 ∷ 14 ∷ 15 ∷ 16 ∷ []) 7 tt w)
other-rank f (Nv.Record n at) w = refl
other-rank f (Nv.Access x n) w = refl
other-rank f (Nv.Value n) w = refl
other-rank f (Nv.Select x n) w = refl
other-rank f Nv.Disjunction w = refl
other-rank f Nv.Subquery w = refl
other-rank f (Nv.Fact p n) w = refl
other-rank f Nv.Arith w = refl
other-rank f Nv.Error w = refl

module _ (f : List ℕ) (node : Node) (v : NodeView) (s : SeenNode f node v) where
  pub rank-prefix : (x : ℕ) → v ≡ Nv.Prefix x → 1 ≡ rank node
  unfolding rank
  rank-prefix x e = ap (λ w. rank (node_of f w)) (sym e) ∙ ap rank s.is

  pub rank-fuzzy : (x d : ℕ) (a : Anchor) (r : ℕ) → v ≡ Nv.Fuzzy x d a → r ≡ anchor_rank (anchor_of a) → r ≡ rank node
  unfolding rank
  rank-fuzzy x d a r e q = q ∙ ap (λ w. rank (node_of f w)) (sym e) ∙ ap rank s.is

  pub rank-other : OneOf (0 ∷ 1 ∷ 2 ∷ 3 ∷ 4 ∷ 5 ∷ 8 ∷ 9 ∷ 10 ∷ 11 ∷ 12 ∷ 13 ∷ 14 ∷ 15 ∷ 16 ∷ []) (tag_of NodeViews.the_type v) → 0 ≡ rank node
  rank-other w = sym (other-rank f v w) ∙ ap rank s.is

-- One constraint, by name and rank.
module _ (T : Tables) (x r : ℕ) (k : Constraint) (v : CodeConstraint.Constraint) (e : constraint_of v ≡ k) where
  pub not_named : (v.name ≡ x → ⊥) → None ≡ pattern_for T x r k
  unfolding pattern_for
  not_named d = sym (ap (pattern_for T x r) (sym e) ∙ ap (λ (b : Bool). elim b [ true ↦ elim (eqb (rank (node_at T v.node)) r) [ true ↦ Some v.node | false ↦ None ] | false ↦ None ]) (ne_eqb _ _ d))

  module _ (d : v.name ≡ x) (j : ℕ) (ej : j ≡ rank (node_at T v.node)) where
    ranked-as : pattern_for T x r k ≡ elim (eqb j r) [ true ↦ Some v.node | false ↦ None ]
    unfolding pattern_for
    ranked-as =
        ap (pattern_for T x r) (sym e)
        ∙ ap (λ (b : Bool). elim b [ true ↦ elim (eqb (rank (node_at T v.node)) r) [ true ↦ Some v.node | false ↦ None ] | false ↦ None ]) (eq-eqb _ _ d)
        ∙ ap (λ (i : ℕ). elim (eqb i r) [ true ↦ Some v.node | false ↦ None ]) (sym ej)

    pub of-rank : j ≡ r → Some v.node ≡ pattern_for T x r k
    of-rank h = sym (ranked-as ∙ ap (λ (b : Bool). elim b [ true ↦ Some v.node | false ↦ None ]) (eq-eqb _ _ h))

    pub not-of-rank : (j ≡ r → ⊥) → None ≡ pattern_for T x r k
    not-of-rank h = sym (ranked-as ∙ ap (λ (b : Bool). elim b [ true ↦ Some v.node | false ↦ None ]) (ne_eqb _ _ h))

-- Those of one rank, of which the first i are done.
abbrev picked : Tables → ℕ → ℕ → List Constraint → List Constraint
picked T x r ks = filter (λ k. eqb (rank (node_at T k.node)) r) (filter (λ k. eqb k.name x) ks)

abbrev no_constraint : Constraint
no_constraint = record { name = 0; node = 0 }

module _ (T : Tables) (x r t : ℕ) (path : File.FieldPath) where
  unfoldable pub from : List Constraint → State → State
  from ks s = constrain_each (ops T) T (picked T x r ks) t path s

  -- what is done with a pattern that may be found
  unfoldable pub by : Option ℕ → State → State
  by None s = s
  by (Some p) s = narrow_or T p t path true s

  by_rank : (k : Constraint) (ks : List Constraint) (s : State) (b : Bool) → constrain_each (ops T) T (elim b [ true ↦ k ∷ picked T x r ks | false ↦ picked T x r ks ]) t path s ≡ constrain_each (ops T) T (picked T x r ks) t path (by (elim b [ true ↦ Some k.node | false ↦ None ]) s)
  unfolding constrain_each by narrow_or
  by_rank k ks s true = refl
  by_rank k ks s false = refl

  by_name : (k : Constraint) (ks : List Constraint) (s : State) (b : Bool) → constrain_each (ops T) T (filter (λ k. eqb (rank (node_at T k.node)) r) (elim b [ true ↦ k ∷ filter (λ k. eqb k.name x) ks | false ↦ filter (λ k. eqb k.name x) ks ])) t path s ≡ constrain_each (ops T) T (picked T x r ks) t path (by (elim b [ true ↦ elim (eqb (rank (node_at T k.node)) r) [ true ↦ Some k.node | false ↦ None ] | false ↦ None ]) s)
  unfolding filter by
  by_name k ks s true = by_rank k ks s (eqb (rank (node_at T k.node)) r)
  by_name k ks s false = refl

  from_cons : (k : Constraint) (ks : List Constraint) (s : State) → from (k ∷ ks) s ≡ from ks (by (pattern_for T x r k) s)
  unfolding from filter pattern_for
  from_cons k ks s = by_name k ks s (eqb k.name x)

  pub record Going (i : ℕ) (s₀ s : State) (w₀ p₀ w p : List ℕ) : Type 0 where
    pub low : i ≤ length T.constraints
    pub work-long : length w ≡ length w₀
    pub plan-long : length p ≡ length p₀
    pub is : from T.constraints s₀ ≡ from (drop i T.constraints) s

  pub going-first : (s : State) (w p : List ℕ) → Going 0 s s w p w p
  going-first s w p = record { low = omega arith; work-long = refl; plan-long = refl; is = refl }

  module _ (i : ℕ) (s₀ s : State) (w₀ p₀ w p : List ℕ) (v : Going i s₀ s w₀ p₀ w p) where
    module _ (h : i < length T.constraints) (q : Option ℕ) (e : q ≡ pattern_for T x r (constraint_at T i)) where
      next : from T.constraints s₀ ≡ from (drop (i + 1) T.constraints) (by (q) s)
      unfolding constraint_at
      next =
          v.is
          ∙ ap (λ ks. from ks s) (drop-cons T.constraints i no_constraint h)
          ∙ from_cons (constraint_at T i) (drop (suc i) T.constraints) s
          ∙ ap (λ (o : Option ℕ). from (drop (suc i) T.constraints) (by o s)) (sym e)
          ∙ ap (λ (j : ℕ). from (drop j T.constraints) (by (q) s)) (sym (add-one i))

      pub going-not : q ≡ None → Going (i + 1) s₀ s w₀ p₀ w p
      unfolding by
      going-not d =
          record {
            low = omega arith;
            work-long = v.work-long;
            plan-long = v.plan-long;
            is = next ∙ ap (λ (y : Option ℕ). from (drop (i + 1) T.constraints) (by (y) s)) d;
          }

      pub going-one : (n : ℕ) → q ≡ Some n → (s' : State) → s' ≡ narrow_or T n t path true s → (w' p' : List ℕ) → length w' ≡ length w → length p' ≡ length p → Going (i + 1) s₀ s' w₀ p₀ w' p'
      unfolding by
      going-one n d s' g w' p' ew ep =
          record {
            low = omega arith;
            work-long = ew ∙ v.work-long;
            plan-long = ep ∙ v.plan-long;
            is =
                next
                ∙ ap (λ (y : Option ℕ). from (drop (i + 1) T.constraints) (by (y) s)) d
                ∙ ap (from (drop (i + 1) T.constraints)) (sym g);
          }

    pub going_end : length T.constraints ≤ i → s ≡ constrain_each (ops T) T (constraints_of T x r) t path s₀
    unfolding from constraints_of filter constrain_each
    going_end h = sym (v.is ∙ ap (λ ks. from ks s) (drop_of_length-le T.constraints h))

-- Whether any constraint has the name, as an iterator's `any` has it.
module _ (T : Tables) (x : ℕ) where
  abbrev named : Constraint → Bool
  named k = eqb k.name x

  abbrev told : Option Constraint → Bool
  told o = elim o [ None ↦ false | Some k ↦ true ]

  or-told : (b : Bool) (k : Constraint) (o : Option Constraint) → (b || told o) ≡ told (elim b [ true ↦ Some k | false ↦ o ])
  or-told true k o = refl
  or-told false k o = refl

  any-from : (n i : ℕ) → length T.constraints ≡ i + n → list_any (λ k. eqb (constraint_at T k).name x) (range_with_len i n) ≡ told (first named (drop i T.constraints))
  unfolding first constraint_at
  any-from zero i e = sym (ap (λ ks. told (first named ks)) (drop_of_length-le T.constraints {i = i} (omega arith)))
  any-from (suc n) i e =
      ap (λ (b : Bool). named (constraint_at T i) || b)
      (ap (λ (j : ℕ). list_any (λ k. eqb (constraint_at T k).name x) (range_with_len j n)) (add-one i) ∙ any-from n (suc i) (omega arith))
      ∙ or-told (named (constraint_at T i)) (constraint_at T i) (first named (drop (suc i) T.constraints))
      ∙ sym (ap (λ ks. told (first named ks)) (drop-cons T.constraints i no_constraint (omega arith)))

  pub any-constrained : (n : ℕ) → n ≡ length T.constraints → list_any (λ k. eqb (constraint_at T k).name x) (range_with_len 0 (n - 0)) ≡ is_constrained T x
  unfolding is_constrained
  any-constrained n e = any-from (n - 0) 0 (omega arith)

-- The ranks one after another: there are four, so that a name has a constraint exactly where one of them does.
anchor-small : (a : File.Anchor) → anchor_rank a < 4
unfolding anchor_rank
anchor-small File.Anchor.Whole = omega arith
anchor-small File.Anchor.Prefix = omega arith

rank-small : (node : Node) → rank node < 4
unfolding rank
rank-small (Node.Int bytes) = omega arith
rank-small (Node.Str x) = omega arith
rank-small (Node.Bytes bytes) = omega arith
rank-small (Node.Var x) = omega arith
rank-small Node.Wildcard = omega arith
rank-small Node.Never = omega arith
rank-small (Node.Prefix x) = omega arith
rank-small (Node.Fuzzy x d a) = anchor-small a
rank-small (Node.Record fs) = omega arith
rank-small (Node.Access x n) = omega arith
rank-small (Node.Value n) = omega arith
rank-small (Node.Select x n) = omega arith
rank-small Node.Disjunction = omega arith
rank-small Node.Subquery = omega arith
rank-small (Node.Fact p n) = omega arith
rank-small Node.Arith = omega arith
rank-small Node.Error = omega arith

four : (P : ℕ → Type 0) → P 0 → P 1 → P 2 → P 3 → (n : ℕ) → n < 4 → P n
four P a b c d zero h = a
four P a b c d (suc zero) h = b
four P a b c d (suc (suc zero)) h = c
four P a b c d (suc (suc (suc zero))) h = d
four P a b c d (suc (suc (suc (suc n)))) h = absurd (omega arith)

abbrev filled : List Constraint → Bool
filled [] = false
filled (k ∷ ks) = true

filled-left : (a b : List Constraint) → filled a ≡ true → filled (a ++ b) ≡ true
filled-left [] b h = absurd (true≢false cc)
filled-left (k ∷ a) b h = refl

filled-right : (a b : List Constraint) → filled b ≡ true → filled (a ++ b) ≡ true
filled-right [] b h = h
filled-right (k ∷ a) b h = refl

filter_none : (p : Constraint → Bool) (ks : List Constraint) → first p ks ≡ None → filter p ks ≡ []
unfolding first filter
filter_none p [] h = refl
filter_none p (k ∷ ks) h = go (p k) h (filter_none p ks)
  where
    go : (b : Bool) → ◌≡◌ {A = Option Constraint} (elim b [ true ↦ Some k | false ↦ first p ks ]) None → (first p ks ≡ None → filter p ks ≡ []) → ◌≡◌ {A = List Constraint} (elim b [ true ↦ k ∷ filter p ks | false ↦ filter p ks ]) []
    go true e rest = absurd (some≢none k e)
    go false e rest = rest e

filter-some : (p : Constraint → Bool) (ks : List Constraint) (c : Constraint) → first p ks ≡ Some c → filled (filter p ks) ≡ true
unfolding first filter
filter-some p [] c h = absurd (some≢none c (sym h))
filter-some p (k ∷ ks) c h = go (p k) h (filter-some p ks c)
  where
    go : (b : Bool) → ◌≡◌ {A = Option Constraint} (elim b [ true ↦ Some k | false ↦ first p ks ]) (Some c) → (first p ks ≡ Some c → filled (filter p ks) ≡ true) → filled (elim b [ true ↦ k ∷ filter p ks | false ↦ filter p ks ]) ≡ true
    go true e rest = refl
    go false e rest = rest e

module _ (T : Tables) (x : ℕ) where
  abbrev of_rank : ℕ → List Constraint → List Constraint
  of_rank r ks = filter (λ k. eqb (rank (node_at T k.node)) r) ks

  abbrev in_turn : List Constraint → List Constraint
  in_turn ks = of_rank 0 ks ++ of_rank 1 ks ++ of_rank 2 ks ++ of_rank 3 ks

  has-own : (k : Constraint) (ks : List Constraint) (r : ℕ) → rank (node_at T k.node) ≡ r → filled (of_rank r (k ∷ ks)) ≡ true
  unfolding filter
  has-own k ks r e = ap (λ (b : Bool). filled (elim b [ true ↦ k ∷ of_rank r ks | false ↦ of_rank r ks ])) (eq-eqb _ _ e)

  in-turn-filled : (ks : List Constraint) → filled ks ≡ true → filled (in_turn ks) ≡ true
  in-turn-filled [] h = absurd (true≢false cc)
  in-turn-filled (k ∷ ks) h =
      let o : ℕ → List Constraint = λ r. of_rank r (k ∷ ks) in
      four (λ (r : ℕ). rank (node_at T k.node) ≡ r → filled (in_turn (k ∷ ks)) ≡ true)
      (λ e. filled-left (o 0 ++ o 1 ++ o 2) (o 3) (filled-left (o 0 ++ o 1) (o 2) (filled-left (o 0) (o 1) (has-own k ks 0 e))))
      (λ e. filled-left (o 0 ++ o 1 ++ o 2) (o 3) (filled-left (o 0 ++ o 1) (o 2) (filled-right (o 0) (o 1) (has-own k ks 1 e))))
      (λ e. filled-left (o 0 ++ o 1 ++ o 2) (o 3) (filled-right (o 0 ++ o 1) (o 2) (has-own k ks 2 e)))
      (λ e. filled-right (o 0 ++ o 1 ++ o 2) (o 3) (has-own k ks 3 e))
      (rank (node_at T k.node)) (rank-small (node_at T k.node)) refl

  ranked-filled : is_constrained T x ≡ true → filled (ranked T x) ≡ true
  unfolding is_constrained ranked constraints_of
  ranked-filled h = go (first (named T x) T.constraints) refl h
    where
      go : (o : Option Constraint) → first (named T x) T.constraints ≡ o → told T x o ≡ true → filled (in_turn (filter (named T x) T.constraints)) ≡ true
      go None e q = absurd (true≢false cc)
      go (Some k) e q = in-turn-filled (filter (named T x) T.constraints) (filter-some (named T x) T.constraints k e)

  ranked-none : is_constrained T x ≡ false → ranked T x ≡ []
  unfolding is_constrained ranked constraints_of filter
  ranked-none h = go (first (named T x) T.constraints) refl h
    where
      go : (o : Option Constraint) → first (named T x) T.constraints ≡ o → told T x o ≡ false → in_turn (filter (named T x) T.constraints) ≡ []
      go None e q = ap in_turn (filter_none (named T x) T.constraints e)
      go (Some k) e q = absurd (true≢false cc)

  module _ (t : ℕ) (path : File.FieldPath) where
    each_append : (ks ls : List Constraint) (s : State) → constrain_each (ops T) T (ks ++ ls) t path s ≡ constrain_each (ops T) T ls t path (constrain_each (ops T) T ks t path s)
    unfolding constrain_each
    each_append [] ls s = refl
    each_append (k ∷ ks) ls s = each_append ks ls _

    by-filled : (ks : List Constraint) (s : State) → filled ks ≡ true → constrain_by (ops T) T ks x t path s ≡ constrain_each (ops T) T ks t path (constrained x s)
    unfolding constrain_by
    by-filled [] s h = absurd (true≢false cc)
    by-filled (k ∷ ks) s h = refl

    pub constrain-none : is_constrained T x ≡ false → (s s' : State) → s' ≡ skip (bound T x t s) → s' ≡ constrain (ops T) T x t path s
    unfolding constrain constrain_by
    constrain-none h s s' e = e ∙ sym (ap (λ ks. constrain_by (ops T) T ks x t path s) (ranked-none h))

    abbrev each : ℕ → State → State
    each r s = constrain_each (ops T) T (constraints_of T x r) t path s

    pub constrain-some : is_constrained T x ≡ true → (s a b c d s' : State) → a ≡ constrained x s → b ≡ each 0 a → c ≡ each 1 b → d ≡ each 2 c → s' ≡ each 3 d → s' ≡ constrain (ops T) T x t path s
    unfolding constrain ranked
    constrain-some h s a b c d s' ea eb ec ed es =
        es ∙ ap (each 3) (ed ∙ ap (each 2) (ec ∙ ap (each 1) (eb ∙ ap (each 0) ea)))
        ∙ sym
        (by-filled (ranked T x) s (ranked-filled h)
        ∙ each_append (constraints_of T x 0 ++ constraints_of T x 1 ++ constraints_of T x 2) (constraints_of T x 3) (constrained x s)
        ∙ ap (each 3)
        (each_append (constraints_of T x 0 ++ constraints_of T x 1) (constraints_of T x 2) (constrained x s)
        ∙ ap (each 2) (each_append (constraints_of T x 0) (constraints_of T x 1) (constrained x s))))

    -- the same of the walks: a has the name, and b, c, d and r each one rank more
    pub constrain-ranked : is_constrained T x ≡ true → (w a b c d r : Walk) (w₀ wa wb wc wd wr p₀ pb pc pd pr : List ℕ) → ((U : Tables) (p : List ℕ) → walk_state U a wa p ≡ constrained x (walk_state U w w₀ p)) → walk_state T b wb pb ≡ each 0 (walk_state T a wa p₀) → walk_state T c wc pc ≡ each 1 (walk_state T b wb pb) → walk_state T d wd pd ≡ each 2 (walk_state T c wc pc) → walk_state T r wr pr ≡ each 3 (walk_state T d wd pd) → walk_state T r wr pr ≡ constrain (ops T) T x t path (walk_state T w w₀ p₀)
    constrain-ranked h w a b c d r w₀ wa wb wc wd wr p₀ pb pc pd pr ea =
        constrain-some h (walk_state T w w₀ p₀) (walk_state T a wa p₀) (walk_state T b wb pb) (walk_state T c wc pc) (walk_state T d wd pd) (walk_state T r wr pr) (ea T p₀)
