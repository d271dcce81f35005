-- The comparisons, one by one, over a level's edges.
use mathlib.Core.Path.{◌≡◌, refl, sym, ap, ◌∙◌}
use mathlib.Core.Bool.{true, false}
use mathlib.Core.List.{List, []}
use Rattle.std.specs.Prelude.{Option, None, Some, unwrap_or}
use Prim.Native.Nat.{ℕ, ◌+◌, ◌≤◌, ◌<◌}
use native.Mathlib.Numerals.{add-one}
use lib.ListN.{length, drop, drop_of_length-le}
use lib.Seq.{drop-cons}
use Rattle.rules.specs.Base.{◌when_some◌}
use Rattle.rules.specs.File.{Tables, CompareOp, Comparison}
use Rattle.rules.specs.Constant as ConstantRules
use Rattle.rules.specs.Constant.{bytes_only}
use Rattle.rules.specs.Checks.{is_node, comparison_in}
use Rattle.rules.specs.Placement.{Edges, Compared, Sided, is_var, flipped, compared, sided, take_edge, fold_from}
use Rattle.rules.proofs.Cases.{both_left, both_right, ltb-lt, pick, true≢false}
use Rattle.rules.proofs.Each.{each_at}
use Rattle.rules.proofs.Sound.{numbers-in}
use Rattle.state.specs.State.{Ends, State, state}
use Rattle.state.specs.Ops.{relevel, with_edges, bound_level, bound}
use Rattle.file.specs.Tables.{tables_of}
use Rattle.views.specs.Views.{comparison_at}
use Rattle.accepted_file.specs.AcceptedFile.{AcceptedFile}
use Rattle.accepted_file.proofs.Given.{passed}
use Rattle.seek.specs.Seek.{constant_bytes, level_of, state_of}
use Rattle.seek.specs.declared.SeekBuilder.{SeekBuilder}
use Rattle.seek.proofs.Narrows.{stays, goes}
use Rattle.encode.specs.Written.{bytes_of}
use Rattle.seek.specs.Bounds.{edge_by, fold_one}
use Rattle.constant.specs.Has.{has_bytes}
use Rattle.seek.proofs.Consts.{Known}

-- other edges
unfoldable pub edged : (Edges → Edges) → State → State
edged f s = relevel (λ l. with_edges (f l.edges) l) s

module _ (f g : Edges → Edges) (s r : State) where
  pub edges-same : r ≡ relevel (λ l. with_edges (f l.edges) l) s → ((e : Edges) → f e ≡ g e) → r ≡ relevel (λ l. with_edges (g l.edges) l) s
  unfolding relevel with_edges
  edges-same h e = h ∙ ap (λ x. state s.over s.ends (with_edges x s.level) s.target s.work s.plan) (e s.level.edges)

pub edges-stay : (f : Edges → Edges) (s : State) → ((e : Edges) → f e ≡ e) → s ≡ relevel (λ l. with_edges (f l.edges) l) s
unfolding relevel with_edges
edges-stay f s e = ap (λ x. state s.over s.ends (with_edges x s.level) s.target s.work s.plan) (sym (e s.level.edges))

-- one edge, by whether the constant is bytes
module _ (T : Tables) (i : ℕ) (op : CompareOp) (n t : ℕ) (e : Edges) where
  abbrev by_value : Option (List ℕ) → Edges
  by_value o = elim o [ None ↦ e | Some value ↦ take_edge i op value e ]

  lacking : (o : Option ConstantRules.Const) → has_bytes o ≡ false → by_value (o when_some bytes_only) ≡ e
  unfolding has_bytes ◌when_some◌ bytes_only
  lacking None h = refl
  lacking (Some (ConstantRules.Const.Bytes bs)) h = absurd (true≢false h)
  lacking (Some (ConstantRules.Const.Prefix bs)) h = refl
  lacking (Some (ConstantRules.Const.Fuzzy y d a)) h = refl

  having : (o : Option ConstantRules.Const) → has_bytes o ≡ true → take_edge i op (unwrap_or (o when_some bytes_only) []) e ≡ by_value (o when_some bytes_only)
  unfolding has_bytes ◌when_some◌ bytes_only
  having None h = absurd (true≢false (sym h))
  having (Some (ConstantRules.Const.Bytes bs)) h = refl
  having (Some (ConstantRules.Const.Prefix bs)) h = absurd (true≢false (sym h))
  having (Some (ConstantRules.Const.Fuzzy y d a)) h = absurd (true≢false (sym h))

  pub edge_none : (ConstantRules.constant T n t when_some bytes_only) ≡ None → edge_by T i op n t e ≡ e
  unfolding edge_by
  edge_none h = ap (λ o. elim o [ None ↦ e | Some value ↦ take_edge i op value e ]) h

  pub edge-bytes : (len : ℕ) → Known T n t len → take_edge i op (constant_bytes T n t) e ≡ edge_by T i op n t e
  unfolding edge_by bytes_of
  edge-bytes len k = sym (ap (λ o. elim o [ None ↦ e | Some value ↦ take_edge i op value e ]) k.bytes)

  pub edge-lacking : has_bytes (ConstantRules.constant T n t) ≡ false → edge_by T i op n t e ≡ e
  unfolding edge_by
  edge-lacking h = lacking (ConstantRules.constant T n t) h

  pub edge-having : has_bytes (ConstantRules.constant T n t) ≡ true → take_edge i op (constant_bytes T n t) e ≡ edge_by T i op n t e
  unfolding edge_by bytes_of constant_bytes
  edge-having h = having (ConstantRules.constant T n t) h

-- one comparison, by the side on which the variable stands
module _ (T : Tables) (x t i : ℕ) (c : Comparison) (e : Edges) where
  abbrev taken : Option Sided → Edges
  taken o = elim o [ None ↦ e | Some s ↦ take_edge i s.op s.value e ]

  one_side : (op : CompareOp) (n : ℕ) (o : Option ConstantRules.Const) → ConstantRules.constant T n t ≡ o
      → taken (o when_some λ k. bytes_only k when_some λ value. Some (record { op = op; value = value })) ≡ (elim (o when_some bytes_only) [ None ↦ e | Some value ↦ take_edge i op value e ])
  unfolding ◌when_some◌ bytes_only
  one_side op n None h = refl
  one_side op n (Some (ConstantRules.Const.Bytes bs)) h = refl
  one_side op n (Some (ConstantRules.Const.Prefix bs)) h = refl
  one_side op n (Some (ConstantRules.Const.Fuzzy y d a)) h = refl

  told : (op : CompareOp) (n : ℕ) → compared T x c ≡ Some (record { op = op; node = n }) → edge_by T i op n t e ≡ fold_one T x t i c e
  unfolding edge_by fold_one sided ◌when_some◌
  told op n h =
      sym (ap (λ (o : Option Compared). taken (o when_some λ other. ConstantRules.constant T other.node t when_some λ k. bytes_only k when_some λ value. Some (record { op = other.op; value = value }))) h
      ∙ one_side op n (ConstantRules.constant T n t) refl)

  pub fold-left : is_var T x c.left ≡ true → edge_by T i c.op c.right t e ≡ fold_one T x t i c e
  unfolding compared
  fold-left h = told c.op c.right (pick (is_var T x c.left) true _ _ h)

  pub fold-right : is_var T x c.left ≡ false → is_var T x c.right ≡ true → edge_by T i (flipped c.op) c.left t e ≡ fold_one T x t i c e
  unfolding compared
  fold-right h g = told (flipped c.op) c.left (pick (is_var T x c.left) false _ _ h ∙ pick (is_var T x c.right) true _ _ g)

  pub fold-none : is_var T x c.left ≡ false → is_var T x c.right ≡ false → fold_one T x t i c e ≡ e
  unfolding fold_one sided compared ◌when_some◌
  fold-none h g =
      ap (λ (o : Option Compared). taken (o when_some λ other. ConstantRules.constant T other.node t when_some λ k. bytes_only k when_some λ value. Some (record { op = other.op; value = value })))
      (pick (is_var T x c.left) false _ _ h ∙ pick (is_var T x c.right) false _ _ g)

-- both sides are nodes
module _ (f ix : List ℕ) (r : AcceptedFile f ix) (k : ℕ) (h : k < length (tables_of f).comparisons) where
  compares : comparison_in (tables_of f) (comparison_at (tables_of f) k) ≡ true
  unfolding comparison_at
  compares = each_at (numbers-in (tables_of f) (passed f ix r)).comparisons k _ h

  pub left_in : (comparison_at (tables_of f) k).left < length (tables_of f).nodes
  unfolding comparison_in is_node
  left_in = ltb-lt _ _ (both_left (is_node (tables_of f) (comparison_at (tables_of f) k).left) (is_node (tables_of f) (comparison_at (tables_of f) k).right) compares)

  pub right-in : (comparison_at (tables_of f) k).right < length (tables_of f).nodes
  unfolding comparison_in is_node
  right-in = ltb-lt _ _ (both_right (is_node (tables_of f) (comparison_at (tables_of f) k).left) (is_node (tables_of f) (comparison_at (tables_of f) k).right) compares)

-- the comparisons from i on
module _ (T : Tables) (x t : ℕ) where
  unfoldable pub folding : ℕ → Edges → Edges
  folding i e = fold_from T x t i (drop i T.comparisons) e

  fold_more : (i : ℕ) (e : Edges) → i < length T.comparisons → folding i e ≡ folding (i + 1) (fold_one T x t i (comparison_at T i) e)
  unfolding folding fold_from fold_one comparison_at
  fold_more i e h =
      ap (λ (l : List Comparison). fold_from T x t i l e) (drop-cons T.comparisons i _ h)
      ∙ ap (λ (j : ℕ). fold_from T x t j (drop j T.comparisons) (fold_one T x t i (comparison_at T i) e)) (sym (add-one i))

  fold_end : (i : ℕ) (e : Edges) → length T.comparisons ≤ i → folding i e ≡ e
  unfolding folding fold_from
  fold_end i e h = ap (λ (l : List Comparison). fold_from T x t i l e) (drop_of_length-le T.comparisons h)

  pub turn : (i : ℕ) (s r : State) → i < length T.comparisons → r ≡ relevel (λ l. with_edges (fold_one T x t i (comparison_at T i) l.edges) l) s → edged (folding i) s ≡ edged (folding (i + 1)) r
  unfolding edged relevel with_edges
  turn i s r h e =
      ap (λ y. state s.over s.ends (with_edges y s.level) s.target s.work s.plan) (fold_more i s.level.edges h) ∙ ap (edged (folding (i + 1))) (sym e)

  pub ends : (i : ℕ) (s : State) → length T.comparisons ≤ i → edged (folding i) s ≡ s
  unfolding edged relevel with_edges
  ends i s h = ap (λ y. state s.over s.ends (with_edges y s.level) s.target s.work s.plan) (fold_end i s.level.edges h)

  module _ (b : SeekBuilder) (e : Ends) (w p : List ℕ) where
    pub bound-over : b.over ≡ true → state_of T b e w p ≡ bound T x t (state_of T b e w p)
    unfolding bound
    bound-over h = stays b T e w p (relevel (bound_level T x t)) h

    pub bound-fallen : b.over ≡ false → b.building ≡ false → state_of T b e w p ≡ bound T x t (state_of T b e w p)
    unfolding bound relevel bound_level state_of level_of
    bound-fallen h g =
        ap (λ l. state b.over e l (state_of T b e w p).target w p) (sym (pick b.building false (with_edges (fold_from T x t 0 T.comparisons (level_of T b).edges) (level_of T b)) (level_of T b) g))
        ∙ goes b T e w p (relevel (bound_level T x t)) h

    pub bound-folds : (r : State) → b.over ≡ false → b.building ≡ true → edged (folding 0) (state_of T b e w p) ≡ r → r ≡ bound T x t (state_of T b e w p)
    unfolding bound relevel bound_level state_of level_of edged folding
    bound-folds r h g q =
        sym q
        ∙ ap (λ l. state b.over e l (state_of T b e w p).target w p) (sym (pick b.building true (with_edges (fold_from T x t 0 T.comparisons (level_of T b).edges) (level_of T b)) (level_of T b) g))
        ∙ goes b T e w p (relevel (bound_level T x t)) h
