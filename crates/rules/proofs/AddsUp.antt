-- What demand 3 reaches: from the record alone, whatever made the bytes, the plan's own items add up at every level, and each level begins where the one before it
-- ended.
use mathlib.Core.List.{List, [], ◌∷◌}
use Rattle.std.specs.Prelude.{Option, None, Some}
use mathlib.Core.Path.{◌≡◌, refl, sym, ap, ◌∙◌, subst}
use Prim.Native.Nat.{ℕ, suc, ◌+◌, ◌<◌}
use native.Mathlib.Omega.{arith}
use lib.ListN.{length, get_or}
use Rattle.rules.specs.Base.{Each, done, more}
use Rattle.rules.specs.Placement.{Part, Range, RangeEdge, SeekKey, joined, nodes_of, unranged, seek, seek_key}
use Rattle.rules.specs.File.{Tables}
use Rattle.rules.specs.Levels.{Level}
use Rattle.rules.specs.Plan.{plan_level}
use Rattle.rules.specs.Demand3.{number, edges, Kept, level_at, start_of, Demand3, seek_nodes, seek_range, seek_edges, WellFormed, AddsUp}
use Rattle.rules.proofs.Cases.{by-option}
use Rattle.rules.proofs.Each.{each_map}

-- a node for each part
pub nodes-count : (parts : List Part) → length (nodes_of parts) ≡ length parts
unfolding nodes_of
nodes-count [] = refl
nodes-count (part ∷ parts) = ap suc (nodes-count parts)

-- a seek tells the range, the edges and the nodes of the parts that it was made of
record Tells (parts : List Part) (range : Option Range) (n : ℕ) (s : SeekKey) : Type 0 where
  range-is : seek_range s ≡ range
  edges_are : seek_edges s ≡ n
  nodes-are : seek_nodes s ≡ nodes_of parts
  formed : WellFormed s

-- a seek without a range or an edge
plain : (parts : List Part) → Tells parts None 0 (unranged parts)
unfolding unranged seek_range seek_edges seek_nodes
plain parts =
    by-option (Tells parts None 0) (joined parts)
    (λ e. record { range-is = refl; edges_are = refl; nodes-are = refl; formed = e })
    (λ bytes e. record { range-is = refl; edges_are = refl; nodes-are = refl; formed = tt })

tells : (parts : List Part) (range : Option Range) (lo hi : Option RangeEdge) → (0 < number lo + number hi → range ≡ None) → Tells parts range (number lo + number hi) (seek parts range lo hi)
unfolding seek seek_range seek_edges seek_nodes number
tells parts range (Some lo) hi h =
    let edge : 0 < 1 + number hi = omega arith in
    record { range-is = sym (h edge); edges_are = refl; nodes-are = refl; formed = edge }
tells parts range None (Some hi) h =
    let edge : 0 < 0 + 1 = omega arith in
    record { range-is = sym (h edge); edges_are = refl; nodes-are = refl; formed = edge }
tells parts (Some range) None None h = record { range-is = refl; edges_are = refl; nodes-are = refl; formed = tt }
tells parts None None None h = plain parts

module _ (l : Level) where
  -- what one level keeps, said of its items in the plan
  pub adds-up : {T : Tables} → Kept T l.events l.built → AddsUp (plan_level l)
  unfolding plan_level seek_key edges
  adds-up k =
      let b = l.built in
      let t = tells b.parts b.range b.edges.lo b.edges.hi (λ h. (k.edge-excludes h).0) in
      let range : number (seek_range (seek_key b)) ≡ number b.range = ap number t.range-is in
      record {
        closers-most = k.closers-most;
        sum = omega (arith, k.sum, range);
        edges-folded = t.edges_are ∙ k.edges-folded;
        edge-excludes = λ h. let e = k.edge-excludes (omega (arith, h, t.edges_are)) in (t.range-is ∙ e.0, e.1);
        guide-path = λ g r p q. k.guide-path g r p (sym t.range-is ∙ q);
        parts_held = ap length t.nodes-are ∙ nodes-count b.parts;
        well-formed = t.formed;
      }

-- what holds at each number holds of each
each_number : {A : Type 0} {P : A → Type 0} (xs : List A) (d : A) → ((k : ℕ) → k < length xs → P (get_or xs k d)) → Each P xs
each_number [] d h = done
each_number (x ∷ xs) d h = more (h 0 (omega arith)) (each_number xs d (λ k l. h (suc k) (omega (arith, l))))

-- every level of the plan
pub plan-adds-up : {bytes out : List ℕ} (d : Demand3 bytes out) → Each AddsUp d.plan.levels
unfolding level_at
plan-adds-up d =
    subst (Each AddsUp) (sym d.holds.levels)
    (each_map plan_level (λ l k. adds-up l k)
    (each_number {P = λ l. Kept d.tables l.events l.built} d.levels _ (λ k h. (d.kept k (omega (arith, h, d.every-level))).kept)))

-- level k + 1 begins from what level k left
pub begins-where : {bytes out : List ℕ} (d : Demand3 bytes out) (k : ℕ) → suc k < length d.tables.levels → (level_at d.tables d.levels (suc k)).start ≡ (level_at d.tables d.levels k).left
unfolding start_of
begins-where d k h = (d.kept (suc k) h).begins
