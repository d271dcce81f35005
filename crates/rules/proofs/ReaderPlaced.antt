-- What placement makes of events whose numbers are within their fields has its numbers within them too, and its seek is of the level's parts.
use mathlib.Core.Bool.{Bool, true, false}
use mathlib.Core.List.{List, [], ◌∷◌}
use Prim.Native.Nat.{ℕ, suc, ◌+◌, ◌≤◌, ◌<◌}
use native.Mathlib.Omega.{arith}
use lib.ListN.{length}
use Rattle.rules.specs.Base.{Each, done, more}
use Rattle.rules.specs.File.{Tables, FieldPath, CompareOp, Comparison}
use Rattle.rules.specs.Events.{Narrowing, Event}
use Rattle.rules.specs.Placement.{SeekKeyPart, Part, Residual, Guide, Range, Edges, SeekBuilder, new, with_part, with_residual, with_guide, with_range, with_edges, with_closer, fall, place_part, place_prefix, attachable, place_fuzzy, place_own, place_narrowing, place_closer, take_hi, take_lo, take_edge, sided, fold_from, place_bound, place, place_all}
use Rattle.rules.proofs.Cases.{by-test, by-option}
use Rattle.rules.proofs.Each.{Perhaps, nothing, just, each_snoc}
use Rattle.rules.proofs.ReaderReads.{PathFits, KeyFits, PartFits, RangeFits, GuideFits, ResidualFits, NarrowingFits}

abbrev pub EventFits : Event → Type 0
EventFits (Event.narrow n p x) = (n < 65536) × PathFits p × NarrowingFits x
EventFits Event.skip = Unit {0}
EventFits (Event.closer n) = n < 65536
EventFits (Event.bound x t) = Unit {0}

pub record Made (b : SeekBuilder) : Type 0 where
  pub parts : Each PartFits b.parts
  pub residuals : Each ResidualFits b.residuals
  pub guide : Perhaps GuideFits b.guide
  pub range : Perhaps RangeFits b.range
  pub folded : Each (λ i. i < 65536) b.edges.folded

pub made-new : Made new
unfolding new
made-new = record { parts = done; residuals = done; guide = nothing; range = nothing; folded = done }

-- One change each.
with_part_lem : (part : Part) (b : SeekBuilder) → PartFits part → Made b → Made (with_part part b)
unfolding with_part
with_part_lem part b h g = record { parts = each_snoc g.parts h; residuals = g.residuals; guide = g.guide; range = g.range; folded = g.folded }

with-residual : (residual : Residual) (b : SeekBuilder) → ResidualFits residual → Made b → Made (with_residual residual b)
unfolding with_residual
with-residual residual b h g = record { parts = g.parts; residuals = each_snoc g.residuals h; guide = g.guide; range = g.range; folded = g.folded }

with-guide : (guide : Guide) (b : SeekBuilder) → GuideFits guide → Made b → Made (with_guide guide b)
unfolding with_guide
with-guide guide b h g = record { parts = g.parts; residuals = g.residuals; guide = just h; range = g.range; folded = g.folded }

with-range : (range : Range) (b : SeekBuilder) → RangeFits range → Made b → Made (with_range range b)
unfolding with_range
with-range range b h g = record { parts = g.parts; residuals = g.residuals; guide = g.guide; range = just h; folded = g.folded }

with-edges : (edges : Edges) (b : SeekBuilder) → Each (λ i. i < 65536) edges.folded → Made b → Made (with_edges edges b)
unfolding with_edges
with-edges edges b h g = record { parts = g.parts; residuals = g.residuals; guide = g.guide; range = g.range; folded = h }

with-closer : (b : SeekBuilder) → Made b → Made (with_closer b)
unfolding with_closer
with-closer b g = record { parts = g.parts; residuals = g.residuals; guide = g.guide; range = g.range; folded = g.folded }

falls : (b : SeekBuilder) → Made b → Made (fall b)
unfolding fall
falls b g = record { parts = g.parts; residuals = g.residuals; guide = g.guide; range = g.range; folded = g.folded }

either : {A : Type 0} (P : A → Type 0) (t : Bool) {x y : A} → P x → P y → P (elim t [ true ↦ x | false ↦ y ])
either P t h k = by-test P t (λ _. h) (λ _. k)

-- Each kind of event.
place-part : (n : ℕ) (key : SeekKeyPart) (path : FieldPath) (op : Narrowing) (b : SeekBuilder) → n < 65536 → KeyFits key → PathFits path → NarrowingFits op → Made b
    → Made (place_part n key path op b)
unfolding place_part
place-part n key path op b l h p k g =
    either Made b.building (with_part_lem _ b (record { key = h; node = l }) g) (with-residual _ b (record { path = p; op = k; node = l }) g)

place-narrowing : (n : ℕ) (path : FieldPath) (x : Narrowing) (b : SeekBuilder) → n < 65536 → PathFits path → NarrowingFits x → Made b → Made (place_narrowing n path x b)
unfolding place_narrowing place_prefix place_fuzzy place_own
place-narrowing n path (Narrowing.Bytes bytes) b l p h g = place-part n (SeekKeyPart.Bytes bytes) path (Narrowing.Bytes bytes) b l tt p tt g
place-narrowing n path (Narrowing.Tag disc) b l p h g = place-part n (SeekKeyPart.Bytes _) path (Narrowing.Tag disc) b l tt p h g
place-narrowing n path (Narrowing.RegisterField address at) b l p h g = place-part n (SeekKeyPart.RegisterField address at) path (Narrowing.RegisterField address at) b l h p h g
place-narrowing n path (Narrowing.FactId address) b l p h g = place-part n (SeekKeyPart.RegisterFactId address) path (Narrowing.FactId address) b l h p h g
place-narrowing n path (Narrowing.Prefix prefix) b l p h g =
    either Made b.building (falls _ (with-range _ b (record { path = p; node = l }) g)) (with-residual _ b (record { path = p; op = tt; node = l }) g)
place-narrowing n path (Narrowing.Fuzzy x distance anchor) b l p h g =
    either Made (attachable b path) (falls _ (with-guide _ b (record { path = p; term = h; node = l }) g)) (with-residual _ b (record { path = p; op = h; node = l }) g)
place-narrowing n path (Narrowing.OwnField at) b l p h g = falls _ (with-residual _ b (record { path = p; op = h; node = l }) g)

place-closer : (n : ℕ) (b : SeekBuilder) → n < 65536 → Made b → Made (place_closer n b)
unfolding place_closer
place-closer n b l g = either Made b.building (with-closer _ (with_part_lem _ b (record { key = tt; node = l }) g)) g

-- the edges: the index of a comparison is below their number
abbrev Folds : Edges → Type 0
Folds e = Each (λ i. i < 65536) e.folded

take-edge : (i : ℕ) (op : CompareOp) (value : List ℕ) (e : Edges) → i < 65536 → Folds e → Folds (take_edge i op value e)
unfolding take_edge take_hi take_lo
take-edge i CompareOp.Lt value e h g = by-option Folds e.hi (λ _. each_snoc g h) (λ _ _. g)
take-edge i CompareOp.Le value e h g = by-option Folds e.hi (λ _. each_snoc g h) (λ _ _. g)
take-edge i CompareOp.Gt value e h g = by-option Folds e.lo (λ _. each_snoc g h) (λ _ _. g)
take-edge i CompareOp.Ge value e h g = by-option Folds e.lo (λ _. each_snoc g h) (λ _ _. g)

module _ (T : Tables) (few : length T.comparisons ≤ 256) where
  fold-from : (x t i : ℕ) (cs : List Comparison) (e : Edges) → i + length cs ≤ 256 → Folds e → Folds (fold_from T x t i cs e)
  unfolding fold_from
  fold-from x t i [] e h g = g
  fold-from x t i (c ∷ cs) e h g =
      fold-from x t (suc i) cs _ (omega arith) (by-option Folds (sided T x t c) (λ _. g) (λ s _. take-edge i s.op s.value e (omega arith) g))

  place-event : (e : Event) (b : SeekBuilder) → EventFits e → Made b → Made (place T e b)
  unfolding place place_bound
  place-event (Event.narrow n path x) b h g = place-narrowing n path x b h.0 h.1 h.2 g
  place-event Event.skip b h g = falls b g
  place-event (Event.closer n) b h g = place-closer n b h g
  place-event (Event.bound x t) b h g = either Made b.building (with-edges _ b (fold-from x t 0 T.comparisons b.edges (omega arith) g.folded) g) g

  pub place-all : {es : List Event} (b : SeekBuilder) → Each EventFits es → Made b → Made (place_all T es b)
  unfolding place_all
  place-all b done g = g
  place-all b (more {x = e} h hs) g = place-all _ hs (place-event e b h g)
