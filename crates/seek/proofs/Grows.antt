-- A level that grows: with other counts if they fit, else it stops.
use mathlib.Core.Path.{◌≡◌, refl, sym, ap, ◌∙◌, transport}
use mathlib.Core.Bool.{Bool, true, false}
use mathlib.Core.List.{List}
use Prim.Native.Nat.{ℕ, min}
use Rattle.rules.specs.File.{Tables}
use Rattle.rules.specs.Plan as Plan
use Rattle.rules.proofs.Cases.{true≢false, pick}
use Rattle.state.specs.State as InState
use Rattle.state.specs.State.{Ends, Level, State, state, stop, unless, fits}
use Rattle.state.specs.Ops.{grow, put_made, narrowed, closed}
use Rattle.records.specs.Records.{put, written_at, moved_to}
use Rattle.records.specs.declared.Place.{Place}
use Rattle.seek.specs.Seek.{sums_of, counted, counts_of, guide_of, range_of, edges_of, level_of, state_of, counts_fit, overrun, recounted, grown_by}
use Rattle.seek.specs.declared.Counts.{Counts}
use Rattle.seek.specs.declared.Sums.{Sums}
use Rattle.seek.specs.declared.SeekBuilder.{SeekBuilder}
use Rattle.seek.specs.declared.Placed.{Placed}
use Rattle.seek.proofs.Fits.{fits-counts}

-- unless the plan is too long already
pub unless-over : (f : State → State) (s : State) → s.over ≡ true → s ≡ unless f s
unfolding unless
unless-over f s e = sym (pick s.over true s (f s) e)

pub unless_not : (f : State → State) (s : State) → s.over ≡ false → f s ≡ unless f s
unfolding unless
unless_not f s e = sym (pick s.over false s (f s) e)

-- Equal sizes, or both too long for a plan: a constant's length is known up to a cap alone.
abbrev pub SameUpToLimit : ℕ → ℕ → Type 0
SameUpToLimit m n = min 16385 m ≡ min 16385 n

-- the level with other counts
unfoldable pub resummed : Bool → Sums → Level → Level
resummed plain c l =
    record { building = l.building; plain = plain; counts = sums_of c; guide = l.guide; range = l.range; edges = l.edges }

-- a closer counts as one, any other part as a narrowing
abbrev pub counting : Bool → InState.Counts → InState.Counts
counting true c = closed c
counting false c = narrowed c

module _ (l : Level) (write : List ℕ → List ℕ) (s : State) where
  pub grow-yes : counts_fit l.plain l.counts ≡ true
      → grow l write s ≡ state s.over s.ends l s.target s.work (write s.plan)
  unfolding grow
  grow-yes e = pick (fits l) true _ _ (fits-counts l ∙ e)

  pub grow-no : counts_fit l.plain l.counts ≡ false → grow l write s ≡ stop s
  unfolding grow
  grow-no e = pick (fits l) false _ _ (fits-counts l ∙ e)

-- a node and then a form, where both are written or neither
node-written : (place : Place) (bytes : List ℕ) (node_at node : ℕ) (p : List ℕ)
    → written_at place bytes (written_at (moved_to node_at place) (Plan.u16 node) p) ≡ elim place.write [ true ↦ put_made place.at bytes node_at node p | false ↦ p ]
unfolding written_at put put_made
node-written place bytes node_at node p = go place.write
  where
    laid : Bool → ℕ → List ℕ → List ℕ → List ℕ
    laid t at xs v = elim t [ true ↦ put v at xs | false ↦ v ]

    go : (t : Bool) → laid t place.at bytes (laid t node_at (Plan.u16 node) p) ≡ elim t [ true ↦ put_made place.at bytes node_at node p | false ↦ p ]
    go true = refl
    go false = refl

pub overruns : (b : SeekBuilder) (T : Tables) (e : Ends) (w p : List ℕ) → state_of T (overrun b) e w p ≡ stop (state_of T b e w p)
unfolding overrun state_of level_of guide_of range_of edges_of stop
overruns b T e w p = refl

module _ (b : SeekBuilder) (plain : Bool) (s : Sums) (at : ℕ) where
  abbrev yes : Placed
  yes = record { level = recounted plain (counted s) b; place = record { write = true; joined = b.target.joining; at = at } }

  abbrev no : Placed
  no = record { level = overrun b; place = record { write = false; joined = b.target.joining; at = at } }

  grown-yes : counts_fit plain (sums_of s) ≡ true → grown_by plain s at b ≡ yes
  unfolding grown_by
  grown-yes h = pick (counts_fit plain (sums_of s)) true yes no h

  grown-no : counts_fit plain (sums_of s) ≡ false → grown_by plain s at b ≡ no
  unfolding grown_by
  grown-no h = pick (counts_fit plain (sums_of s)) false yes no h

  pub grown-fit : (k : Counts) → k ≡ counted s → counts_fit plain (sums_of s) ≡ true
      → record { level = recounted plain k b; place = record { write = true; joined = b.target.joining; at = at } } ≡ grown_by plain s at b
  grown-fit k e h = ap (λ (x : Counts). record { level = recounted plain x b; place = yes.place }) e ∙ sym (grown-yes h)

  pub grown-over : (l : SeekBuilder) → l ≡ overrun b → counts_fit plain (sums_of s) ≡ false
      → record { level = l; place = record { write = false; joined = b.target.joining; at = at } } ≡ grown_by plain s at b
  grown-over l e h = ap (λ (x : SeekBuilder). record { level = x; place = no.place }) e ∙ sym (grown-no h)

  -- what follows where it fits and where it does not
  grown-by : (P : Placed → Type 0) → (counts_fit plain (sums_of s) ≡ true → P yes) → (counts_fit plain (sums_of s) ≡ false → P no) → P (grown_by plain s at b)
  grown-by P f g = go (counts_fit plain (sums_of s)) refl
    where
      go : (t : Bool) → counts_fit plain (sums_of s) ≡ t → P (grown_by plain s at b)
      go true h = transport (ap P (sym (grown-yes h))) (f h)
      go false h = transport (ap P (sym (grown-no h))) (g h)

  pub grown-joined : (grown_by plain s at b).place.joined ≡ b.target.joining
  grown-joined = grown-by (λ x. x.place.joined ≡ b.target.joining) (λ h. refl) (λ h. refl)

  pub grown-at : (grown_by plain s at b).place.at ≡ at
  grown-at = grown-by (λ x. x.place.at ≡ at) (λ h. refl) (λ h. refl)

  -- what is written fits
  pub grown-fits : (grown_by plain s at b).place.write ≡ true → counts_fit plain (sums_of s) ≡ true
  grown-fits = grown-by (λ x. x.place.write ≡ true → counts_fit plain (sums_of s) ≡ true) (λ h w. h) (λ h w. absurd (true≢false (sym w)))

  module _ (T : Tables) (e : Ends) (w p bytes : List ℕ) (node_at node : ℕ) where
    -- the plan with the node and the form written where a level says
    abbrev laid : Placed → List ℕ
    laid x = written_at x.place bytes (written_at (moved_to node_at x.place) (Plan.u16 node) p)

    abbrev Grew : Placed → Type 0
    Grew x = state_of T x.level e w (laid x) ≡ grow (resummed plain s (level_of T b)) (put_made at bytes node_at node) (state_of T b e w p)

    grows-yes : counts_fit plain (sums_of s) ≡ true → Grew yes
    unfolding recounted state_of level_of counts_of guide_of range_of edges_of resummed
    grows-yes h =
        ap (state_of T yes.level e w) (node-written yes.place bytes node_at node p)
        ∙ sym (grow-yes (resummed plain s (level_of T b)) (put_made at bytes node_at node) (state_of T b e w p) h)

    grows-no : counts_fit plain (sums_of s) ≡ false → Grew no
    unfolding resummed written_at
    grows-no h = overruns b T e w p ∙ sym (grow-no (resummed plain s (level_of T b)) (put_made at bytes node_at node) (state_of T b e w p) h)

    pub grown-is : Grew (grown_by plain s at b)
    grown-is = grown-by Grew grows-yes grows-no
