-- What a seek holds past its parts, and the places of a level.
use mathlib.Core.Bool.{Bool, true, false}
use mathlib.Core.List.{List, [], ◌++◌}
use mathlib.Core.Path.{◌≡◌, refl, sym, ap, ◌∙◌}
use Prim.Native.Nat.{ℕ, ◌+◌, ◌≤◌, min}
use native.Mathlib.Omega.{arith}
use lib.ListN.{length, length-append}
use Rattle.std.specs.Prelude.{None, ◌||◌, Option}
use Rattle.rules.specs.Limits.{plan_limit}
use Rattle.rules.specs.File.{Tables, name_at}
use Rattle.rules.specs.Constant.{encode_prefix}
use Rattle.rules.specs.Placement.{Range, RangeEdge}
use Rattle.rules.specs.Plan as Plan
use Rattle.rules.specs.Plan.{u16}
use Rattle.rules.proofs.Cases.{by-test, true≢false}
use Rattle.state.specs.State.{joined_bytes}
use Rattle.state.specs.Levels as StateLevels
use Rattle.state.specs.Levels.{joining, head, range_or_edges, middle, tail, parts_at, nodes_at, middle_at, tail_at}
use Rattle.paths.specs.Paths.{path_of}
use Rattle.constant.specs.Sizes.{cap}
use Rattle.encode.specs.Written.{Wrote}
use Rattle.encode.proofs.Puts.{wrote_then, wrote_as}
use Rattle.records.specs.Records.{put}
use Rattle.records.proofs.Stores.{put-none}
use Rattle.seek.specs.Seek.{sums_of, counts_of, kept, guide_of, range_of, edge_of, edges_of, level_of}
use Rattle.seek.specs.declared.SeekBuilder.{SeekBuilder}
use Rattle.level_frame.specs.LevelFrame.{between_of, parts_len, frame_of}
use Rattle.level_frame.specs.declared.Frame.{Frame}
use Rattle.level_frame.proofs.Seeks.{held, set-held, range_in}
use Rattle.level_frame.proofs.Places as Places
use Rattle.level_frame.proofs.Places.{tail-is}

module _ (r : Option Range) (e f : RangeEdge) where
  edged : (lo hi : Bool) → (lo || hi) ≡ true
      → Plan.edge (held lo e) ++ Plan.edge (held hi f) ≡ range_or_edges r (held lo e) (held hi f)
  unfolding range_or_edges
  edged true hi h = refl
  edged false true h = refl
  edged false false h = absurd (true≢false (sym h))

  edgeless : (lo hi : Bool) → (lo || hi) ≡ false → range_or_edges r None None ≡ range_or_edges r (held lo e) (held hi f)
  edgeless true hi h = absurd (true≢false h)
  edgeless false true h = absurd (true≢false h)
  edgeless false false h = refl

module _ (T : Tables) (l : SeekBuilder) where
  -- the two edges
  module _ (h : (l.lo.set || l.hi.set) ≡ true) where
    with-edges : Plan.edge (edge_of T l.lo) ++ Plan.edge (edge_of T l.hi) ≡ between_of (level_of T l)
    unfolding level_of edges_of edge_of
    with-edges = edged (range_of T l) _ _ l.lo.set l.hi.set h

    pub edges-size : (a b r : ℕ) → a ≡ min cap (length (Plan.edge (edge_of T l.lo))) → b ≡ min cap (length (Plan.edge (edge_of T l.hi)))
        → r ≡ min cap (a + b) → r ≡ min cap (length (between_of (level_of T l)))
    edges-size a b r ea eb er = omega (arith, ea, eb, er, length-append (Plan.edge (edge_of T l.lo)) (Plan.edge (edge_of T l.hi)), ap length with-edges)

    pub edges-small : length (between_of (level_of T l)) ≤ cap → (length (Plan.edge (edge_of T l.lo)) ≤ cap) × (length (Plan.edge (edge_of T l.hi)) ≤ cap)
    edges-small b = omega (arith, b, length-append (Plan.edge (edge_of T l.lo)) (Plan.edge (edge_of T l.hi)), ap length with-edges)

    pub put-edges : (at p r : ℕ) (w w1 w2 : List ℕ) → Wrote (Plan.edge (edge_of T l.lo)) at w p w1 → Wrote (Plan.edge (edge_of T l.hi)) p w1 r w2
        → Wrote (between_of (level_of T l)) at w r w2
    put-edges at p r w w1 w2 a b =
        wrote_as (Plan.edge (edge_of T l.lo) ++ Plan.edge (edge_of T l.hi)) (between_of (level_of T l)) at r w w2 (wrote_then a b) with-edges

  module _ (h : (l.lo.set || l.hi.set) ≡ false) where
    without-edges : range_or_edges (range_of T l) None None ≡ between_of (level_of T l)
    unfolding level_of edges_of edge_of
    without-edges = edgeless (range_of T l) _ _ l.lo.set l.hi.set h

    module _ (k : Bool) (ek : k ≡ kept l.building l.range.set) where
      abbrev ranged : Bool → List ℕ
      ranged b = range_or_edges (held b (range_in T l)) None None

      by-range : ranged k ≡ between_of (level_of T l)
      unfolding range_of
      by-range =
          ap ranged ek ∙ sym (ap (λ (o : Option Range). range_or_edges o None None) (set-held l.building l.range.set (range_in T l))) ∙ without-edges

      -- the range
      module _ (on : k ≡ true) where
        prefix : List ℕ
        prefix = encode_prefix (name_at T l.range.name)

        with-range : Plan.text prefix ++ Plan.path (path_of l.path) ++ u16 l.range.node ≡ between_of (level_of T l)
        unfolding range_or_edges prefix
        with-range = ap ranged (sym on) ∙ by-range

        pub range_size : (a b n : ℕ) → a ≡ length (Plan.text (encode_prefix (name_at T l.range.name))) → b ≡ length (Plan.path (path_of l.path))
            → n ≡ min cap (a + (b + 2)) → n ≡ min cap (length (between_of (level_of T l)))
        unfolding prefix u16
        range_size a b n ea eb en =
            omega (
              arith,
              ea,
              eb,
              en,
              ap length with-range,
              length-append (Plan.text prefix) (Plan.path (path_of l.path)),
              length-append (Plan.text prefix ++ Plan.path (path_of l.path)) (u16 l.range.node),
            )

        pub range_small : length (between_of (level_of T l)) ≤ cap → length (Plan.text (encode_prefix (name_at T l.range.name))) ≤ cap
        unfolding prefix
        range_small b =
            omega (
              arith,
              b,
              ap length with-range,
              length-append (Plan.text prefix) (Plan.path (path_of l.path)),
              length-append (Plan.text prefix ++ Plan.path (path_of l.path)) (u16 l.range.node),
            )

        pub put-range : (at p q : ℕ) (w w1 w2 w3 : List ℕ) → Wrote (Plan.text (encode_prefix (name_at T l.range.name))) at w p w1
            → q ≡ p + length (Plan.path (path_of l.path)) → w2 ≡ put w1 p (Plan.path (path_of l.path))
            → w3 ≡ put w2 q (u16 l.range.node) → Wrote (between_of (level_of T l)) at w (q + 2) w3
        unfolding prefix u16
        put-range at p q w w1 w2 w3 a eq e f =
            wrote_as (Plan.text prefix ++ Plan.path (path_of l.path) ++ u16 l.range.node) (between_of (level_of T l)) at (q + 2) w w3
            (wrote_then (wrote_then a (record { place = eq; is = e })) (record { place = refl; is = f })) with-range

      -- neither
      module _ (off : k ≡ false) where
        with_none : [] ≡ between_of (level_of T l)
        unfolding range_or_edges
        with_none = ap ranged (sym off) ∙ by-range

        pub none-size : 0 ≡ min cap (length (between_of (level_of T l)))
        none-size = let e : 0 ≡ length (between_of (level_of T l)) = ap length with_none in omega arith

        pub put-bare : (at : ℕ) (w : List ℕ) → Wrote (between_of (level_of T l)) at w at w
        put-bare at w = wrote_as [] (between_of (level_of T l)) at at w w (record { place = omega arith; is = sym (put-none w at) }) with_none

-- the middle
module _ (T : Tables) (l : SeekBuilder) where
  middle-is : between_of (level_of T l) ++ Plan.guide (guide_of l) ++ u16 l.counts.residuals ≡ middle (level_of T l)
  unfolding middle level_of counts_of sums_of
  middle-is = refl

  middle-length : length (middle (level_of T l)) ≡ length (between_of (level_of T l)) + length (Plan.guide (guide_of l)) + 2
  unfolding u16
  middle-length =
      sym (ap length middle-is) ∙ length-append (between_of (level_of T l) ++ Plan.guide (guide_of l)) (u16 l.counts.residuals)
      ∙ ap (λ (k : ℕ). k + 2) (length-append (between_of (level_of T l)) (Plan.guide (guide_of l)))

  pub middle-size : (b g r : ℕ) → b ≡ min cap (length (between_of (level_of T l))) → g ≡ length (Plan.guide (guide_of l)) → r ≡ min cap (b + (g + 2)) → r ≡ min cap (length (middle (level_of T l)))
  middle-size b g r eb eg er = omega (arith, eb, eg, er, middle-length)

  pub between-small : length (middle (level_of T l)) ≤ cap → length (between_of (level_of T l)) ≤ cap
  between-small h = omega (arith, h, middle-length)

  pub guide-near : (at p : ℕ) (w w1 : List ℕ) → at ≤ plan_limit → length (middle (level_of T l)) ≤ cap → Wrote (between_of (level_of T l)) at w p w1 → p ≤ 1048576
  guide-near at p w w1 a h b = omega (arith, a, h, middle-length, b.place)

  pub count-near : (at p q : ℕ) (w w1 w2 : List ℕ) → at ≤ plan_limit → length (middle (level_of T l)) ≤ cap → Wrote (between_of (level_of T l)) at w p w1 → Wrote (Plan.guide (guide_of l)) p w1 q w2 → q ≤ 1048576
  count-near at p q w w1 w2 a h b g = omega (arith, a, h, middle-length, b.place, g.place)

  pub put-middle : (at p q n : ℕ) (w w1 w2 w3 : List ℕ) → Wrote (between_of (level_of T l)) at w p w1 → Wrote (Plan.guide (guide_of l)) p w1 q w2 → n ≡ l.counts.residuals → w3 ≡ put w2 q (u16 n) → w3 ≡ put w at (middle (level_of T l))
  put-middle at p q n w w1 w2 w3 b g en e =
      let a : Wrote (u16 l.counts.residuals) q w2 (q + length (u16 l.counts.residuals)) w3 = record { place = refl; is = e ∙ ap (λ (k : ℕ). put w2 q (u16 k)) en } in
      (wrote_then (wrote_then b g) a).is ∙ ap (put w at) middle-is

  -- the places
  pub framed : (at h p j m r t : ℕ) → h ≡ length (head (level_of T l)) → p ≡ parts_len (level_of T l) → j ≡ l.counts.joined
      → m ≡ min cap (length (middle (level_of T l))) → r ≡ l.counts.rest → t ≡ length (tail (level_of T l))
      → record { parts = at + h; nodes = at + h + j; middle = at + h + p; rest = at + h + p + m; tail = at + h + p + m + r; end = at + h + p + m + r + t } ≡ frame_of at (level_of T l)
  unfolding frame_of parts_at nodes_at middle_at level_of counts_of sums_of
  framed at h p j m r t eh ep ej em er et = λ i.
      record { parts = at + eh i; nodes = at + eh i + ej i; middle = at + eh i + ep i; rest = at + eh i + ep i + em i; tail = at + eh i + ep i + em i + er i; end = at + eh i + ep i + em i + er i + et i }

  -- the nodes of joined parts begin before the middle
  joined-before : l.counts.joined ≤ parts_len (level_of T l)
  unfolding level_of counts_of sums_of joined_bytes
  joined-before = by-test (λ (n : ℕ). l.counts.joined ≤ n) (joining (level_of T l)) (λ _. omega arith) (λ _. omega arith)

  pub nodes-near : (at : ℕ) (f : Frame) → f ≡ frame_of at (level_of T l) → f.end ≤ plan_limit → f.nodes ≤ plan_limit
  unfolding nodes_at middle_at level_of counts_of sums_of
  nodes-near at f ef h = omega (arith, Places.nodes-is at (level_of T l) f ef, Places.middle-is at (level_of T l) f ef, Places.middle-near at (level_of T l) f ef h, joined-before)

  pub put-frame : (at : ℕ) (f : Frame) → f ≡ frame_of at (level_of T l) → f.end ≤ plan_limit → (w w1 w2 w3 : List ℕ) → w1 ≡ put w at (head (level_of T l))
      → w2 ≡ put w1 f.middle (middle (level_of T l)) → w3 ≡ put w2 f.tail (tail (level_of T l)) → w3 ≡ StateLevels.frame at (level_of T l) w
  unfolding StateLevels.frame put
  put-frame at f ef h w w1 w2 w3 e1 e2 e3 =
      e3 ∙ ap (λ (k : ℕ). put w2 k (tail (level_of T l))) (tail-is at (level_of T l) f ef h)
      ∙ ap (λ (x : List ℕ). put x (tail_at at (level_of T l)) (tail (level_of T l)))
      (e2 ∙ ap (λ (k : ℕ). put w1 k (middle (level_of T l))) (Places.middle-is at (level_of T l) f ef) ∙ ap (λ (x : List ℕ). put x (middle_at at (level_of T l)) (middle (level_of T l))) e1)
