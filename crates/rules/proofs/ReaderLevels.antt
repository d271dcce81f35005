-- One level as it stands in a plan: its rules hold, and its numbers are within their fields where its bytes are few.
use mathlib.Core.Bool.{Bool, true, false}
use mathlib.Core.List.{List, [], ◌∷◌, ◌++◌}
use Rattle.std.specs.Prelude.{Option, None, Some}
use mathlib.Core.Path.{◌≡◌, refl, ap, ◌∙◌, subst}
use Prim.Native.Nat.{ℕ, ◌+◌, ◌≤◌, ◌<◌}
use native.Mathlib.Omega.{arith}
use borrow.Author.Tests.{le-leb, eq-eqb}
use lib.Dec.{eqb}
use lib.ListN.{length, length-append}
use Rattle.rules.specs.Base.{Each, done, more, both, concat_map}
use Rattle.rules.specs.Limits.{plan_limit}
use Rattle.rules.specs.File.{Tables, FieldPath}
use Rattle.rules.specs.Lookup.{same_steps, same_path}
use Rattle.rules.specs.Placement.{Part, Guide, Range, RangeEdge, SeekKey, joined, nodes_of, unranged, seek, seek_key}
use Rattle.rules.specs.Levels.{Level}
use Rattle.rules.specs.Plan
use Rattle.rules.specs.Plan.{PlanLevel, plan_level, level_bytes}
use Rattle.rules.specs.Demand3.{number, Kept, seek_range, seek_edges, WellFormed, AddsUp}
use Rattle.rules.specs.Reader
use Rattle.rules.specs.Reader.{level_rules}
use Rattle.rules.proofs.Cases.{by-option, both_true}
use Rattle.rules.proofs.Each.{Perhaps, nothing, just}
use Rattle.rules.proofs.AddsUp.{nodes-count}
use Rattle.rules.proofs.ReaderReads.{PartFits, RangeFits, SeekFits, LevelFits, counts, least-number, least-residual}
use Rattle.rules.proofs.ReaderRules.{number-most}
use Rattle.rules.proofs.ReaderPlaced.{Made}

-- equal paths pass the test
steps-same : (ss : List ℕ) → same_steps ss ss ≡ true
unfolding same_steps
steps-same [] = refl
steps-same (s ∷ ss) = ap (λ (b : Bool). both b (same_steps ss ss)) (eq-eqb s s refl) ∙ steps-same ss

path-same : (p q : FieldPath) → p ≡ q → same_path p q ≡ true
unfolding same_path
path-same p q e =
    subst (λ r. same_path p r ≡ true) e (ap (λ (b : Bool). both b (same_steps p.steps p.steps)) (eq-eqb p.field p.field refl) ∙ steps-same p.steps)

-- The seek that placement chooses.
nodes-fit : {parts : List Part} → Each PartFits parts → Each (λ n. n < 65536) (nodes_of parts)
unfolding nodes_of
nodes-fit done = done
nodes-fit (more h hs) = more h.node (nodes-fit hs)

least-part : (p : Part) → 1 ≤ length (Plan.part p)
unfolding Plan.part
least-part p = omega (arith, length-append (Plan.part_key p.key) (Plan.u16 p.node), least-number p.node)

record Sought (parts : List Part) (s : SeekKey) : Type 0 where
  fits : SeekFits (length parts) s
  -- no more parts than the seek has bytes
  counted : length parts ≤ length (Plan.seek s)

module _ {parts : List Part} (h : Each PartFits parts) where
  -- what follows the seek's byte begins with the parts
  after-parts : (rest : List ℕ) → length parts ≤ length (concat_map Plan.part parts ++ rest)
  after-parts rest = omega (arith, counts Plan.part least-part parts, length-append (concat_map Plan.part parts) rest)

  sought-unranged : Sought parts (unranged parts)
  unfolding unranged Plan.seek
  sought-unranged =
      by-option (Sought parts) (joined parts)
      (λ e. record { fits = (refl, h); counted = omega (arith, counts Plan.part least-part parts) })
      (λ bytes e.
      let nodes = nodes_of parts in
      record {
        fits = (nodes-count parts, nodes-fit h);
        counted = omega (arith, nodes-count parts, counts Plan.u16 least-number nodes, length-append (Plan.text bytes) (concat_map Plan.u16 nodes));
      })

  sought : {range : Option Range} (lo hi : Option RangeEdge) → Perhaps RangeFits range → Sought parts (seek parts range lo hi)
  unfolding seek Plan.seek
  sought (Some lo) hi r =
      record { fits = (refl, h); counted = omega (arith, after-parts (Plan.edge (Some lo)), length-append (concat_map Plan.part parts ++ Plan.edge (Some lo)) (Plan.edge hi)) }
  sought None (Some hi) r =
      record { fits = (refl, h); counted = omega (arith, after-parts (Plan.edge None), length-append (concat_map Plan.part parts ++ Plan.edge None) (Plan.edge (Some hi))) }
  sought None None (just {x = range} r) =
      let front = concat_map Plan.part parts ++ Plan.text range.prefix in
      record {
        fits = (refl, h, r);
        counted = omega (arith, after-parts (Plan.text range.prefix), length-append front (Plan.path range.path), length-append (front ++ Plan.path range.path) (Plan.u16 range.node));
      }
  sought None None nothing = sought-unranged

-- What adds up keeps the reader's rules.
seek-keeps : (s : SeekKey) (g : Option Guide) → WellFormed s → (0 < seek_edges s → (seek_range s ≡ None) × (g ≡ None))
    → ((k : Guide) (r : Range) → g ≡ Some k → seek_range s ≡ Some r → k.path ≡ r.path) → Reader.seek_keeps s g ≡ true
unfolding Reader.seek_keeps seek_range seek_edges number
seek-keeps (SeekKey.Prefix bytes nodes) g w x p = refl
seek-keeps (SeekKey.Composite parts) g w x p = ap (λ (o : Option (List ℕ)). elim o as (λ _. Bool) [ None ↦ true | Some bytes ↦ false ]) w
seek-keeps (SeekKey.PrefixRange parts range) g w x p =
    by-option (λ b. b ≡ true) g (λ _. refl) (λ guide e. path-same guide.path range.path (p guide range e refl))
seek-keeps (SeekKey.Bounded parts lo hi) g w x p = both_true _ _ (le-leb 1 _ w) (ap (λ (o : Option Guide). eqb (number o) 0) (x w).1)

pub level-rules : (l : PlanLevel) → AddsUp l → level_rules l ≡ true
unfolding level_rules Reader.closers_among_parts Reader.narrowings_sum Reader.edges_folded
level-rules l a =
    both_true _ _ (le-leb _ _ a.closers-most)
    (both_true _ _ (eq-eqb _ _ a.sum)
    (both_true _ _ (eq-eqb _ _ a.edges-folded) (seek-keeps l.seek l.guide a.well-formed a.edge-excludes a.guide-path)))

level-length : (l : PlanLevel) → length (Plan.seek l.seek) + length (concat_map Plan.residual l.residuals) ≤ length (level_bytes l)
unfolding level_bytes Plan.counted
level-length l = simp length-append (omega arith)

pub level-fits : (T : Tables) (l : Level) → Kept T l.events l.built → Made l.built → length (level_bytes (plan_level l)) ≤ plan_limit → LevelFits (plan_level l)
unfolding plan_level seek_key
level-fits T l k m few =
    let b = l.built in
    let s = sought m.parts b.edges.lo b.edges.hi m.range in
    let parts : length b.parts + length b.residuals ≤ plan_limit
    = omega (arith, s.counted, counts Plan.residual least-residual b.residuals, level-length (plan_level l)) in
    record {
      narrowings = omega (arith, k.sum, number-most b.range, number-most b.guide);
      closers = omega (arith, k.closers-most);
      parts = omega arith;
      seek = s.fits;
      guide = m.guide;
      residuals = m.residuals;
      folded = m.folded;
    }
