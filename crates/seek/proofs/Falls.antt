-- Building falls: what a level keeps of range and guide, and what it gains.
use mathlib.Core.Path.{◌≡◌, refl, sym, ap, ◌∙◌}
use mathlib.Core.Bool.{Bool, true, false}
use mathlib.Core.List.{List, [], ◌∷◌}
use Rattle.std.specs.Prelude.{Option, None, Some}
use Prim.Native.Nat.{ℕ}
use lib.Dec.{eqb}
use Rattle.rules.specs.File as File
use Rattle.rules.specs.File.{Tables, name_at}
use Rattle.rules.specs.Constant.{encode_prefix}
use Rattle.rules.specs.Lookup.{same_path, same_steps}
use Rattle.rules.specs.Events.{Narrowing}
use Rattle.rules.specs.Placement.{Guide, Range, range_at}
use Rattle.rules.proofs.Cases.{both_left, both_right, eqb-eq, true≢false}
use Rattle.state.specs.State as InState
use Rattle.state.specs.State.{Ends, Level, State, state}
use Rattle.state.specs.Ops.{grow, fall, relevel, skip, narrowed, put_residual, attachable, with_guide, with_range, narrow_own, narrowing, narrow}
use Rattle.paths.specs.Paths.{path_of}
use Rattle.paths.specs.declared.FieldPath.{FieldPath}
use Rattle.views.specs.Views.{anchor_of}
use Rattle.views.specs.declared.Anchor.{Anchor}
use Rattle.seek.specs.Seek.{sums_of, summed, counted, overrun, counts_of, set_in, guide_of, range_of, edges_of, level_of, target_of, state_of, counts_fit, narrow_sums, kept, fell, guided_at, ranged_at, narrowed_to}
use Rattle.seek.specs.declared.Counts.{Counts}
use Rattle.seek.specs.declared.Sums.{Sums}
use Rattle.seek.specs.declared.SeekBuilder.{SeekBuilder}
use Rattle.seek.proofs.Grows.{grow-yes, grow-no, overruns}
use Rattle.seek.proofs.Narrows.{goes}

-- a level that grows by nothing written
grow-bare : (l : Level) (s : State) → counts_fit l.plain l.counts ≡ true → state s.over s.ends l s.target s.work s.plan ≡ grow l (λ plan. plan) s
grow-bare l s h = sym (grow-yes l (λ plan. plan) s h)

module _ {A : Type 0} where
  set-kept : (building set : Bool) (x : A) → set_in false (kept building set) x ≡ set_in building set x
  unfolding set_in kept
  set-kept true set x = refl
  set-kept false set x = refl

  not-kept : (building set set' : Bool) (x y : A) → building ≡ true → set_in false (kept building set) x ≡ set_in building set' y
  unfolding set_in kept
  not-kept true set set' x y e = refl
  not-kept false set set' x y e = absurd (true≢false (sym e))

pub falls : (T : Tables) (b : SeekBuilder) → level_of T (fell b) ≡ fall (level_of T b)
unfolding level_of fell guide_of range_of edges_of fall
falls T b =
    let made : Option Guide → Option Range → Level = λ g r. record { building = false; plain = b.plain; counts = counts_of b.counts; guide = g; range = r; edges = edges_of T b } in
    ap (λ g. made g (range_of T (fell b))) (set-kept b.building b.guide.set _) ∙ ap (made (guide_of b)) (set-kept b.building b.range.set _)

releveled : (b r : SeekBuilder) (T : Tables) (e : Ends) (w p : List ℕ) → r ≡ fell b → state_of T r e w p ≡ relevel fall (state_of T b e w p)
unfolding state_of relevel fell
releveled b r T e w p er = ap (λ x. state_of T x e w p) er ∙ ap (λ l. state b.over e l (target_of b.target) w p) (falls T b)

pub skips : (b r : SeekBuilder) (T : Tables) (e : Ends) (w p : List ℕ) → b.over ≡ false → r ≡ fell b → state_of T r e w p ≡ skip (state_of T b e w p)
unfolding skip
skips b r T e w p h er = releveled b r T e w p er ∙ goes b T e w p (relevel fall) h

-- a field of the level's own row: a residual of the level that fell
pub as_own : (b r : SeekBuilder) (T : Tables) (e : Ends) (w p : List ℕ) (n : ℕ) (path at : File.FieldPath) (s : State) → b.over ≡ false → r ≡ fell b
    → s ≡ put_residual n path (Narrowing.OwnField at) (state_of T r e w p) → s ≡ narrow n path (Narrowing.OwnField at) (state_of T b e w p)
unfolding narrow narrowing narrow_own
as_own b r T e w p n path at s h er g =
    g ∙ ap (put_residual n path (Narrowing.OwnField at)) (releveled b r T e w p er) ∙ goes b T e w p (narrowing n path (Narrowing.OwnField at)) h

-- equal paths are the same
same-steps : (xs ys : List ℕ) → same_steps xs ys ≡ true → xs ≡ ys
unfolding same_steps
same-steps [] [] h = refl
same-steps [] (y ∷ ys) h = absurd (true≢false (sym h))
same-steps (x ∷ xs) [] h = absurd (true≢false (sym h))
same-steps (x ∷ xs) (y ∷ ys) h =
    let e : x ≡ y = eqb-eq x y (both_left (eqb x y) (same_steps xs ys) h) in
    let f : xs ≡ ys = same-steps xs ys (both_right (eqb x y) (same_steps xs ys) h) in
    cc

same-path : (p q : File.FieldPath) → same_path p q ≡ true → p ≡ q
unfolding same_path
same-path p q h =
    let e : p.field ≡ q.field = eqb-eq _ _ (both_left (eqb p.field q.field) (same_steps p.steps q.steps) h) in
    let f : p.steps ≡ q.steps = same-steps _ _ (both_right (eqb p.field q.field) (same_steps p.steps q.steps) h) in
    ap (λ (n : ℕ). record { field = n; steps = p.steps }) e ∙ ap (λ (l : List ℕ). record { field = q.field; steps = l }) f

-- who may attach, by what is set
abbrev attaches : Option Guide → Bool → Option Range → File.FieldPath → Bool
attaches guide building range path = elim guide [ Some g ↦ false | None ↦ elim building [ true ↦ true | false ↦ range_at range path ] ]

module _ (b : SeekBuilder) (path : FieldPath) (T : Tables) where
  abbrev told : Bool → Bool → Bool → Bool
  told building guided ranged =
      attaches (set_in building guided (record { path = path_of b.path; term = b.guide.term; distance = b.guide.distance; anchor = anchor_of b.guide.anchor; node = b.guide.node })) building
      (set_in building ranged (record { path = path_of b.path; prefix = encode_prefix (name_at T b.range.name); node = b.range.node })) (path_of path)

  pub attach-builds : b.building ≡ true → true ≡ attachable (level_of T b) (path_of path)
  unfolding attachable level_of guide_of range_of set_in
  attach-builds h = ap (λ t. told t b.guide.set b.range.set) (sym h)

  pub attach-guided : b.building ≡ false → b.guide.set ≡ true → false ≡ attachable (level_of T b) (path_of path)
  unfolding attachable level_of guide_of range_of set_in
  attach-guided h g = ap (λ t. told false t b.range.set) (sym g) ∙ ap (λ t. told t b.guide.set b.range.set) (sym h)

  pub attach-bare : b.building ≡ false → b.guide.set ≡ false → b.range.set ≡ false → false ≡ attachable (level_of T b) (path_of path)
  unfolding attachable level_of guide_of range_of set_in range_at
  attach-bare h g r = ap (told false false) (sym r) ∙ ap (λ t. told false t b.range.set) (sym g) ∙ ap (λ t. told t b.guide.set b.range.set) (sym h)

  pub attach-ranged : (x : Bool) (p q : FieldPath) → b.building ≡ false → b.guide.set ≡ false → b.range.set ≡ true → x ≡ same_path (path_of p) (path_of q) → path_of p ≡ path_of b.path → path_of q ≡ path_of path
      → x ≡ attachable (level_of T b) (path_of path)
  unfolding attachable level_of guide_of range_of set_in range_at
  attach-ranged x p q h g r e ep eq =
      e ∙ ap (λ t. same_path t (path_of q)) ep ∙ ap (same_path (path_of b.path)) eq
      ∙ ap (told false false) (sym r) ∙ ap (λ t. told false t b.range.set) (sym g) ∙ ap (λ t. told t b.guide.set b.range.set) (sym h)

range-stays : (building guided ranged : Bool) (g : Guide) (path at : File.FieldPath) (prefix : List ℕ) (node : ℕ)
    → attaches (set_in building guided g) building (set_in building ranged (record { path = at; prefix = prefix; node = node })) path ≡ true
    → set_in {A = Range} false (kept building ranged) (record { path = path; prefix = prefix; node = node }) ≡ set_in building ranged (record { path = at; prefix = prefix; node = node })
unfolding set_in kept range_at
range-stays true guided ranged g path at prefix node h = refl
range-stays false true ranged g path at prefix node h = absurd (true≢false (sym h))
range-stays false false false g path at prefix node h = refl
range-stays false false true g path at prefix node h = ap (λ q. Some (record { path = q; prefix = prefix; node = node })) (sym (same-path at path h))

-- the level itself, by whether the counts fit
module _ (b : SeekBuilder) (s s0 : Sums) (es : s ≡ narrow_sums s0) (e0 : s0 ≡ summed b.counts) (make : Counts → SeekBuilder) where
  abbrev taken : Bool → SeekBuilder
  taken t = elim t [ true ↦ make (counted (narrow_sums (summed b.counts))) | false ↦ overrun b ]

  fitting : (t : Bool) → counts_fit b.plain (sums_of s) ≡ t → taken t ≡ narrowed_to make b
  unfolding narrowed_to
  fitting t h = ap taken (sym h ∙ ap (λ (x : Sums). counts_fit b.plain (sums_of x)) (es ∙ ap narrow_sums e0))

  pub made-yes : (k : Counts) → k ≡ counted s → counts_fit b.plain (sums_of s) ≡ true → make k ≡ narrowed_to make b
  made-yes k ek h = ap make (ek ∙ ap counted (es ∙ ap narrow_sums e0)) ∙ fitting true h

  pub made-no : (r : SeekBuilder) → r ≡ overrun b → counts_fit b.plain (sums_of s) ≡ false → r ≡ narrowed_to make b
  made-no r er h = er ∙ fitting false h

module _ (b l : SeekBuilder) (s s0 : Sums) (T : Tables) (e : Ends) (w p : List ℕ) (el : l ≡ fell b) (es : s ≡ narrow_sums s0) (e0 : s0 ≡ summed b.counts) where
  counts-narrowed : sums_of s ≡ narrowed (counts_of b.counts)
  unfolding narrowed counts_of sums_of narrow_sums
  counts-narrowed = ap sums_of (es ∙ ap narrow_sums e0)

  counts-are : (k : Counts) → k ≡ counted s → counts_of k ≡ narrowed (counts_of b.counts)
  unfolding counts_of
  counts-are k ek = ap counts_of ek ∙ counts-narrowed

  pub guides : (k : Counts) (path : FieldPath) (name distance : ℕ) (anchor : Anchor) (node : ℕ) → k ≡ counted s → counts_fit b.plain (sums_of s) ≡ true → attachable (level_of T b) (path_of path) ≡ true
      → state_of T (guided_at l k path name distance anchor node) e w p
      ≡ grow (with_guide (record { path = path_of path; term = name; distance = distance; anchor = anchor_of anchor; node = node }) (level_of T b)) (λ plan. plan) (state_of T b e w p)
  unfolding state_of level_of guide_of range_of edges_of fell set_in with_guide attachable
  guides k path name distance anchor node ek h a =
      let g : Guide = record { path = path_of path; term = name; distance = distance; anchor = anchor_of anchor; node = node } in
      let made : InState.Counts → Option Range → State =
      λ c r. state b.over e (record { building = false; plain = b.plain; counts = c; guide = Some g; range = r; edges = edges_of T b }) (target_of b.target) w p in
      ap (λ x. state_of T (guided_at x k path name distance anchor node) e w p) el
      ∙ ap (λ c. made c (range_of T (guided_at (fell b) k path name distance anchor node))) (counts-are k ek)
      ∙ ap (made (narrowed (counts_of b.counts))) (range-stays b.building b.guide.set b.range.set _ (path_of path) (path_of b.path) (encode_prefix (name_at T b.range.name)) b.range.node a)
      ∙ grow-bare (with_guide g (level_of T b)) (state_of T b e w p) (ap (counts_fit b.plain) (sym counts-narrowed) ∙ h)

  pub ranges : (k : Counts) (path : FieldPath) (name node : ℕ) → k ≡ counted s → counts_fit b.plain (sums_of s) ≡ true → b.building ≡ true
      → state_of T (ranged_at l k path name node) e w p ≡ grow (with_range node (path_of path) (encode_prefix (name_at T name)) (level_of T b)) (λ plan. plan) (state_of T b e w p)
  unfolding state_of level_of guide_of range_of edges_of fell set_in with_range
  ranges k path name node ek h on =
      let r : Range = record { path = path_of path; prefix = encode_prefix (name_at T name); node = node } in
      let made : InState.Counts → Option Guide → State =
      λ c g. state b.over e (record { building = false; plain = b.plain; counts = c; guide = g; range = Some r; edges = edges_of T b }) (target_of b.target) w p in
      ap (λ x. state_of T (ranged_at x k path name node) e w p) el
      ∙ ap (λ c. made c (guide_of (ranged_at (fell b) k path name node))) (counts-are k ek)
      ∙ ap (made (narrowed (counts_of b.counts))) (not-kept b.building b.guide.set b.guide.set _ _ on)
      ∙ grow-bare (with_range node (path_of path) (encode_prefix (name_at T name)) (level_of T b)) (state_of T b e w p) (ap (counts_fit b.plain) (sym counts-narrowed) ∙ h)

  -- what does not fit stops the level, whatever it was to become
  pub stops : (l' : Level) (r : SeekBuilder) → l'.plain ≡ b.plain → l'.counts ≡ narrowed (counts_of b.counts) → r ≡ overrun b → counts_fit b.plain (sums_of s) ≡ false → state_of T r e w p ≡ grow l' (λ plan. plan) (state_of T b e w p)
  stops l' r ep ec er h =
      ap (λ x. state_of T x e w p) er ∙ overruns b T e w p ∙ sym (grow-no l' (λ plan. plan) (state_of T b e w p) (ap (λ t. counts_fit t l'.counts) ep ∙ ap (counts_fit b.plain) (ec ∙ sym counts-narrowed) ∙ h))
