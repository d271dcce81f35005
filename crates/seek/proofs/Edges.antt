-- The first edge of each sense is taken, with its comparison's index.
use mathlib.Core.Path.{◌≡◌, refl, sym, ap, ap₂, ◌∙◌}
use mathlib.Core.Bool.{Bool, true, false}
use mathlib.Core.List.{List, [], ◌∷◌, ◌++◌}
use Rattle.std.specs.Prelude.{Option, None, Some}
use Prim.Native.Nat.{ℕ}
use Rattle.rules.specs.File.{Tables}
use Rattle.rules.specs.Placement.{RangeEdge, Edges, take_hi, take_lo, take_edge, edge}
use Rattle.rules.proofs.Cases.{pick}
use Rattle.state.specs.State.{Ends, State, state}
use Rattle.state.specs.Ops.{relevel, with_edges}
use Rattle.views.specs.Views.{op_of}
use Rattle.views.specs.declared.CompareOp.{CompareOp}
use Rattle.seek.specs.Bounds.{of_sense}
use Rattle.seek.specs.Seek.{constant_bytes, edge_of, folded_of, folded_then, edges_of, guide_of, range_of, level_of, target_of, state_of}
use Rattle.seek.specs.declared.Edge.{Edge}
use Rattle.seek.specs.declared.Folded.{Folded}
use Rattle.seek.specs.declared.SeekBuilder.{SeekBuilder}

pub then-other : (other : Bool) (i : ℕ) (f : Folded) → other ≡ true → record { first = f.first; second = i } ≡ folded_then other i f
unfolding folded_then
then-other other i f e = ap (λ t. folded_then t i f) (sym e)

pub then-first : (other : Bool) (i : ℕ) (f : Folded) → other ≡ false → record { first = i; second = f.second } ≡ folded_then other i f
unfolding folded_then
then-first other i f e = ap (λ t. folded_then t i f) (sym e)

-- the index of an edge that is taken stands after the other's
folded-takes : (upper own other : Bool) (i : ℕ) (f : Folded) → own ≡ false
    → folded_of (of_sense upper other true) (of_sense upper true other) (folded_then other i f).first (folded_then other i f).second
    ≡ folded_of (of_sense upper other own) (of_sense upper own other) f.first f.second ++ (i ∷ [])
unfolding folded_of folded_then
folded-takes upper own other i f e = go upper other ∙ ap (λ t. folded_of (of_sense upper other t) (of_sense upper t other) f.first f.second ++ (i ∷ [])) (sym e)
  where
    go : (u o : Bool) → folded_of (of_sense u o true) (of_sense u true o) (folded_then o i f).first (folded_then o i f).second ≡ folded_of (of_sense u o false) (of_sense u false o) f.first f.second ++ (i ∷ [])
    go true true = refl
    go true false = refl
    go false true = refl
    go false false = refl

-- what taking does to edges, by the edge of its sense
take_by : (i : ℕ) (x : RangeEdge) (e : Edges) (upper : Bool) (own : Option RangeEdge) → of_sense upper e.hi e.lo ≡ own
    → of_sense upper take_hi take_lo i x e
    ≡ elim own [ None ↦ record { lo = of_sense upper e.lo (Some x); hi = of_sense upper (Some x) e.hi; folded = e.folded ++ (i ∷ []) } | Some y ↦ e ]
unfolding take_hi take_lo
take_by i x e true own h = ap (λ o. elim o [ None ↦ record { lo = e.lo; hi = Some x; folded = e.folded ++ (i ∷ []) } | Some y ↦ e ]) h
take_by i x e false own h = ap (λ o. elim o [ None ↦ record { lo = Some x; hi = e.hi; folded = e.folded ++ (i ∷ []) } | Some y ↦ e ]) h

abbrev edged : SeekBuilder → Edge → Edge → Folded → SeekBuilder
edged b lo hi f =
    record { over = b.over; building = b.building; plain = b.plain; counts = b.counts; path = b.path; range = b.range; guide = b.guide; lo = lo; hi = hi; folded = f; target = b.target }

module _ (b : SeekBuilder) (T : Tables) (e : Ends) (w p : List ℕ) (i : ℕ) (inclusive : Bool) (node ty : ℕ) where
  abbrev new : RangeEdge
  new = edge (constant_bytes T node ty) inclusive

  edges_are : (r : SeekBuilder) (f : Edges → Edges) → r ≡ edged b r.lo r.hi r.folded → edges_of T r ≡ f (edges_of T b) → state_of T r e w p ≡ relevel (λ l. with_edges (f l.edges) l) (state_of T b e w p)
  unfolding relevel with_edges state_of level_of guide_of range_of edges_of
  edges_are r f er h =
      ap (λ x. state_of T x e w p) er ∙ ap (λ x. state b.over e (with_edges x (level_of T b)) (target_of b.target) w p) h

  abbrev takes : Bool → State
  takes upper = relevel (λ l. with_edges (of_sense upper take_hi take_lo i new l.edges) l) (state_of T b e w p)

  own_is : (upper : Bool) (own : Edge) → own ≡ of_sense upper b.hi b.lo → of_sense upper (edges_of T b).hi (edges_of T b).lo ≡ edge_of T own
  unfolding edges_of
  own_is true own eo = ap (edge_of T) (sym eo)
  own_is false own eo = ap (edge_of T) (sym eo)

  pub keeps : (upper : Bool) (own : Edge) → own ≡ of_sense upper b.hi b.lo → own.set ≡ true → state_of T b e w p ≡ takes upper
  unfolding edge_of
  keeps upper own eo h = edges_are b (of_sense upper take_hi take_lo i new) refl (sym (take_by i new (edges_of T b) upper (Some _) (own_is upper own eo ∙ pick own.set true _ None h)))

  abbrev taken : Edge
  taken = record { set = true; inclusive = inclusive; node = node; ty = ty }

  abbrev gain : Bool → SeekBuilder
  gain upper = edged b (of_sense upper b.lo taken) (of_sense upper taken b.hi) (folded_then (of_sense upper b.lo b.hi).set i b.folded)

  edges-gain : (upper : Bool) → (of_sense upper b.hi b.lo).set ≡ false
      → edges_of T (gain upper) ≡ record { lo = of_sense upper (edges_of T b).lo (Some new); hi = of_sense upper (Some new) (edges_of T b).hi; folded = (edges_of T b).folded ++ (i ∷ []) }
  unfolding edges_of edge_of
  edges-gain true h = ap (λ x. record { lo = edge_of T b.lo; hi = Some new; folded = x }) (folded-takes true b.hi.set b.lo.set i b.folded h)
  edges-gain false h = ap (λ x. record { lo = Some new; hi = edge_of T b.hi; folded = x }) (folded-takes false b.lo.set b.hi.set i b.folded h)

  pub gains : (upper : Bool) (own other hi lo : Edge) (g : Folded) → own ≡ of_sense upper b.hi b.lo → own.set ≡ false → other ≡ of_sense upper b.lo b.hi
      → g ≡ folded_then other.set i b.folded → hi ≡ of_sense upper taken b.hi → lo ≡ of_sense upper b.lo taken → state_of T (edged b lo hi g) e w p ≡ takes upper
  unfolding edge_of
  gains upper own other hi lo g eo h ex eg eh el =
      ap₂ (λ x y. state_of T (edged b x y g) e w p) el eh
      ∙ ap (λ x. state_of T (edged b (of_sense upper b.lo taken) (of_sense upper taken b.hi) x) e w p) (eg ∙ ap (λ x. folded_then x.set i b.folded) ex)
      ∙ edges_are (gain upper) (of_sense upper take_hi take_lo i new) refl
      (edges-gain upper (ap (λ x. x.set) (sym eo) ∙ h) ∙ sym (take_by i new (edges_of T b) upper None (own_is upper own eo ∙ pick own.set false _ None h)))

-- a comparison, by its op
pub by-op : (i : ℕ) (v : List ℕ) (op o : CompareOp) (s r : State) → op ≡ o → r ≡ relevel (λ l. with_edges (take_edge i (op_of o) v l.edges) l) s → r ≡ relevel (λ l. with_edges (take_edge i (op_of op) v l.edges) l) s
by-op i v op o s r e h = h ∙ ap (λ x. relevel (λ l. with_edges (take_edge i (op_of x) v l.edges) l) s) (sym e)
