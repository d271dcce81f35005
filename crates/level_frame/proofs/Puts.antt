-- The bytes before the parts, the guide, and the bytes after the residuals, put piece by piece.
use mathlib.Core.Bool.{Bool, true, false}
use mathlib.Core.List.{List, [], ◌∷◌, ◌++◌}
use mathlib.Core.Path.{◌≡◌, refl, sym, ap, ap₂, ◌∙◌}
use Prim.Native.Nat.{ℕ, ◌+◌, ◌*◌, ◌≤◌}
use mir.Val.{bool_byte}
use native.Mathlib.Omega.{arith}
use lib.ListN.{length, take, length-append}
use Rattle.rules.specs.Base.{concat_map}
use Rattle.rules.specs.File.{Tables}
use Rattle.rules.specs.Plan as Plan
use Rattle.rules.specs.Plan.{u16}
use Rattle.state.specs.State.{joined_bytes}
use Rattle.state.specs.Levels.{seek_of, joining, head, tail}
use Rattle.state.proofs.Seqs.{length-stride}
use Rattle.paths.specs.Paths.{path_of}
use Rattle.encode.specs.Written.{Wrote}
use Rattle.views.specs.Views.{anchor_of}
use Rattle.records.specs.Records.{put}
use Rattle.records.proofs.Stores.{next}
use Rattle.seek.specs.Seek.{sums_of, counts_of, kept, guide_of, folded_of, edges_of, level_of}
use Rattle.seek.specs.declared.SeekBuilder.{SeekBuilder}
use Rattle.level_frame.specs.LevelFrame.{parts_len}
use Rattle.level_frame.proofs.Seeks.{held, set-held}

module _ (l : SeekBuilder) (T : Tables) where
  -- the head's counts and seek
  counted : ℕ → List ℕ → List ℕ
  counted s rest = u16 l.counts.narrowings ++ u16 l.counts.closers ++ u16 (l.counts.closers + l.counts.others) ++ (s ∷ rest)

  head-is : (s : ℕ) → s ≡ seek_of (level_of T l) → (b : Bool) → joining (level_of T l) ≡ b
      → head (level_of T l) ≡ counted s (elim b [ true ↦ u16 l.counts.joined | false ↦ [] ])
  unfolding head level_of counts_of sums_of counted
  head-is s e b q =
      ap (λ (j : Bool). counted (seek_of (level_of T l)) (elim j [ true ↦ u16 l.counts.joined | false ↦ [] ])) q
      ∙ ap (λ (x : ℕ). counted x (elim b [ true ↦ u16 l.counts.joined | false ↦ [] ])) (sym e)

  pub head-joined : joining (level_of T l) ≡ true → 9 ≡ length (head (level_of T l))
  unfolding counted u16
  head-joined q = ap length (sym (head-is _ refl true q))

  pub head-other : joining (level_of T l) ≡ false → 7 ≡ length (head (level_of T l))
  unfolding counted u16
  head-other q = ap length (sym (head-is _ refl false q))

  module _ (at n c p s : ℕ) (w w1 w2 w3 w4 : List ℕ) (en : n ≡ l.counts.narrowings) (ec : c ≡ l.counts.closers) (ep : p ≡ l.counts.closers + l.counts.others)
      (e1 : w1 ≡ put w at (u16 n)) (e2 : w2 ≡ put w1 (at + 2) (u16 c)) (e3 : w3 ≡ put w2 (at + 4) (u16 p)) (e4 : w4 ≡ put w3 (at + 6) (s ∷ [])) where
    seven : w4 ≡ put w at (counted s [])
    unfolding counted u16
    seven =
        next w w3 w4 at (at + 6) (u16 l.counts.narrowings ++ u16 l.counts.closers ++ u16 (l.counts.closers + l.counts.others)) (s ∷ [])
        (next w w2 w3 at (at + 4) (u16 l.counts.narrowings ++ u16 l.counts.closers) (u16 (l.counts.closers + l.counts.others))
        (next w w1 w2 at (at + 2) (u16 l.counts.narrowings) (u16 l.counts.closers) (e1 ∙ ap (λ (x : ℕ). put w at (u16 x)) en) (e2 ∙ ap (λ (x : ℕ). put w1 (at + 2) (u16 x)) ec) refl)
        (e3 ∙ ap (λ (x : ℕ). put w2 (at + 4) (u16 x)) ep) refl)
        e4 refl

    pub put_other : s ≡ seek_of (level_of T l) → joining (level_of T l) ≡ false → w4 ≡ put w at (head (level_of T l))
    put_other e q = seven ∙ ap (put w at) (sym (head-is s e false q))

    nine : (j : ℕ) (w5 : List ℕ) → j ≡ l.counts.joined → w5 ≡ put w4 (at + 7) (u16 j) → w5 ≡ put w at (counted s (u16 l.counts.joined))
    unfolding counted u16
    nine j w5 ej e5 = next w w4 w5 at (at + 7) (counted s []) (u16 l.counts.joined) seven (e5 ∙ ap (λ (x : ℕ). put w4 (at + 7) (u16 x)) ej) refl

    pub put-joined : (j : ℕ) (w5 : List ℕ) → j ≡ l.counts.joined → w5 ≡ put w4 (at + 7) (u16 j) → s ≡ seek_of (level_of T l) → joining (level_of T l) ≡ true
        → w5 ≡ put w at (head (level_of T l))
    put-joined j w5 ej e5 e q = nine j w5 ej e5 ∙ ap (put w at) (sym (head-is s e true q))

  -- the parts' bytes, joined with a node for each or in the plan's form
  abbrev parts-by : Bool → ℕ
  parts-by b = elim b [ true ↦ l.counts.joined + 2 * (l.counts.closers + l.counts.others) | false ↦ l.counts.joined + l.counts.framed ]

  pub parts-joined : (j : ℕ) → joining (level_of T l) ≡ true → j ≡ l.counts.joined + 2 * (l.counts.closers + l.counts.others) → j ≡ parts_len (level_of T l)
  unfolding level_of counts_of sums_of joined_bytes
  parts-joined j q ej = ej ∙ ap parts-by (sym q)

  pub parts-other : (j : ℕ) → joining (level_of T l) ≡ false → j ≡ l.counts.joined + l.counts.framed → j ≡ parts_len (level_of T l)
  unfolding level_of counts_of sums_of joined_bytes
  parts-other j q ej = ej ∙ ap parts-by (sym q)

-- the guide, by whether it is kept
module _ (l : SeekBuilder) (k : Bool) (ek : k ≡ kept l.building l.guide.set) where
  abbrev guided : Bool → List ℕ
  guided b =
      Plan.guide
      (held b (record { path = path_of l.path; term = l.guide.term; distance = l.guide.distance; anchor = anchor_of l.guide.anchor; node = l.guide.node }))

  by-guide : guided k ≡ Plan.guide (guide_of l)
  unfolding guide_of
  by-guide = ap guided ek ∙ sym (ap Plan.guide (set-held l.building l.guide.set _))

  module _ (off : k ≡ false) where
    no-guide : 0 ∷ [] ≡ Plan.guide (guide_of l)
    unfolding Plan.guide
    no-guide = ap guided (sym off) ∙ by-guide

    pub none-size : 1 ≡ length (Plan.guide (guide_of l))
    none-size = ap length no-guide

    pub put-unset : (at : ℕ) (w w1 : List ℕ) → w1 ≡ put w at (0 ∷ []) → Wrote (Plan.guide (guide_of l)) at w (at + 1) w1
    put-unset at w w1 e = record { place = ap (λ (x : List ℕ). at + length x) no-guide; is = e ∙ ap (put w at) no-guide }

  module _ (on : k ≡ true) where
    guide-front : List ℕ
    guide-front = 1 ∷ Plan.path (path_of l.path) ++ Plan.fuzzy l.guide.term l.guide.distance (anchor_of l.guide.anchor)

    some-guide : guide-front ++ u16 l.guide.node ≡ Plan.guide (guide_of l)
    unfolding Plan.guide guide-front
    some-guide = ap guided (sym on) ∙ by-guide

    pub guide-size : (n : ℕ) → n ≡ length (Plan.path (path_of l.path)) → n + 7 ≡ length (Plan.guide (guide_of l))
    unfolding Plan.fuzzy u16 guide-front
    guide-size n h =
        omega (
          arith,
          ap length some-guide,
          length-append guide-front (u16 l.guide.node),
          length-append (1 ∷ Plan.path (path_of l.path)) (Plan.fuzzy l.guide.term l.guide.distance (anchor_of l.guide.anchor)),
        )

    pub put-set : (at p a : ℕ) (w w1 w2 w3 w4 w5 w6 : List ℕ) → w1 ≡ put w at (1 ∷ []) → p ≡ at + 1 + length (Plan.path (path_of l.path))
        → w2 ≡ put w1 (at + 1) (Plan.path (path_of l.path)) → w3 ≡ put w2 p (u16 l.guide.term) → w4 ≡ put w3 (p + 2) (l.guide.distance ∷ [])
        → a ≡ Plan.anchor (anchor_of l.guide.anchor)
        → w5 ≡ put w4 (p + 3) (a ∷ []) → w6 ≡ put w5 (p + 4) (u16 l.guide.node) → Wrote (Plan.guide (guide_of l)) at w (p + 6) w6
    unfolding Plan.fuzzy u16 guide-front
    put-set at p a w w1 w2 w3 w4 w5 w6 e1 ep e2 e3 e4 ea e5 e6 =
        let path = Plan.path (path_of l.path) in
        let term = u16 l.guide.term in
        let two : w2 ≡ put w at (1 ∷ path) = next w w1 w2 at (at + 1) (1 ∷ []) path e1 e2 refl in
        let four : w4 ≡ put w2 p (term ++ (l.guide.distance ∷ [])) = next w2 w3 w4 p (p + 2) term (l.guide.distance ∷ []) e3 e4 refl in
        let five : w5 ≡ put w2 p (term ++ (l.guide.distance ∷ a ∷ [])) = next w2 w4 w5 p (p + 3) (term ++ (l.guide.distance ∷ [])) (a ∷ []) four e5 refl in
        let all : w5 ≡ put w at ((1 ∷ path) ++ (term ++ (l.guide.distance ∷ a ∷ []))) =
        next w w2 w5 at p (1 ∷ path) (term ++ (l.guide.distance ∷ a ∷ [])) two five (omega arith) in
        let front : w5 ≡ put w at guide-front = all ∙ ap (λ (x : ℕ). put w at ((1 ∷ path) ++ (term ++ (l.guide.distance ∷ x ∷ [])))) ea in
        let size = length-append (1 ∷ path) (term ++ (l.guide.distance ∷ Plan.anchor (anchor_of l.guide.anchor) ∷ [])) in
        record {
          place = omega (arith, ap length some-guide, size, length-append guide-front (u16 l.guide.node));
          is = next w w5 w6 at (p + 4) guide-front (u16 l.guide.node) front e6 (omega (arith, size)) ∙ ap (put w at) some-guide;
        }

-- the folded comparisons
taken : (a b : Bool) (i j n : ℕ) → n ≡ length (folded_of a b i j) → folded_of a b i j ≡ take n (i ∷ j ∷ [])
unfolding folded_of
taken true true i j n e = sym (ap (λ (k : ℕ). take k (i ∷ j ∷ [])) e)
taken true false i j n e = sym (ap (λ (k : ℕ). take k (i ∷ j ∷ [])) e)
taken false true i j n e = sym (ap (λ (k : ℕ). take k (i ∷ j ∷ [])) e)
taken false false i j n e = sym (ap (λ (k : ℕ). take k (i ∷ j ∷ [])) e)

module _ (l : SeekBuilder) where
  folded-count : (a b : Bool) → (bool_byte a + bool_byte b ≡ length (folded_of a b l.folded.first l.folded.second)) × (bool_byte a + bool_byte b ≤ 2)
  unfolding folded_of
  folded-count true true = (refl, omega arith)
  folded-count true false = (refl, omega arith)
  folded-count false true = (refl, omega arith)
  folded-count false false = (refl, omega arith)

  pub folds : (a b : Bool) → a ≡ l.lo.set → b ≡ l.hi.set
      → ((T : Tables) → bool_byte a + bool_byte b ≡ length (level_of T l).edges.folded) × (bool_byte a + bool_byte b ≤ 2)
  unfolding level_of edges_of
  folds a b ea eb = (
    λ T.
        (folded-count a b).0
        ∙ ap₂ (λ (x y : Bool). length (folded_of x y l.folded.first l.folded.second)) ea eb,
    (folded-count a b).1,
  )

  -- of how many there are, which they are
  firsts : ℕ → List ℕ
  firsts n = take n (l.folded.first ∷ l.folded.second ∷ [])

  tail-is : (T : Tables) (n : ℕ) → n ≡ length (level_of T l).edges.folded → tail (level_of T l) ≡ u16 n ++ concat_map u16 (firsts n)
  unfolding tail Plan.counted level_of edges_of firsts
  tail-is T n e =
      let xs = (level_of T l).edges.folded in
      ap (λ (k : ℕ). u16 k ++ concat_map u16 xs) (sym e)
      ∙ ap (λ (k : List ℕ). u16 n ++ concat_map u16 k) (taken l.lo.set l.hi.set l.folded.first l.folded.second n e)

  module _ (T : Tables) (at n : ℕ) (w w1 : List ℕ) (e : n ≡ length (level_of T l).edges.folded) (e1 : w1 ≡ put w at (u16 n)) where
    tailed : (m : ℕ) → n ≡ m → tail (level_of T l) ≡ u16 n ++ concat_map u16 (firsts m)
    tailed m q = tail-is T n e ∙ ap (λ (k : ℕ). u16 n ++ concat_map u16 (firsts k)) q

    pub tail_none : n ≡ 0 → w1 ≡ put w at (tail (level_of T l))
    unfolding firsts concat_map u16
    tail_none z = e1 ∙ ap (put w at) (sym (tailed 0 z))

    module _ (w2 : List ℕ) (e2 : w2 ≡ put w1 (at + 2) (u16 l.folded.first)) where
      one : w2 ≡ put w at (u16 n ++ u16 l.folded.first)
      unfolding u16
      one = next w w1 w2 at (at + 2) (u16 n) (u16 l.folded.first) e1 e2 refl

      pub tail-one : n ≡ 1 → w2 ≡ put w at (tail (level_of T l))
      unfolding firsts concat_map u16
      tail-one z = one ∙ ap (put w at) (sym (tailed 1 z))

      pub tail-two : (w3 : List ℕ) → w3 ≡ put w2 (at + 4) (u16 l.folded.second) → n ≡ 2 → w3 ≡ put w at (tail (level_of T l))
      unfolding firsts concat_map u16
      tail-two w3 e3 z = next w w2 w3 at (at + 4) (u16 n ++ u16 l.folded.first) (u16 l.folded.second) one e3 refl ∙ ap (put w at) (sym (tailed 2 z))

  pub tail-size : (T : Tables) (n : ℕ) → n ≡ length (level_of T l).edges.folded → 2 + 2 * n ≡ length (tail (level_of T l))
  unfolding tail Plan.counted u16
  tail-size T n e = omega (arith, length-append (u16 (length (level_of T l).edges.folded)) (concat_map u16 (level_of T l).edges.folded), length-stride u16 2 (λ x. refl) (level_of T l).edges.folded)
