-- The comparisons that a level folds: where they hold of a value, its bytes are within the edges.
use mathlib.Core.Bool.{Bool, true}
use mathlib.Core.List.{List, [], ◌∷◌, ◌++◌}
use Rattle.std.specs.Prelude.{Option, None, Some}
use mathlib.Core.Path.{◌≡◌, refl, sym, ap, ◌∙◌, subst}
use Prim.Native.Nat.{ℕ, suc}
use lib.ListN.{length, drop}
use lib.Seq.{drop-append_seam}
use lib.Dec.{eqb}
use borrow.Author.Tests.{eq-eqb}
use Rattle.rules.specs.Base.{all_from, first}
use Rattle.rules.specs.File.{Tables, Ty, CompareOp, Comparison}
use Rattle.rules.specs.Events.{Event}
use Rattle.rules.specs.Placement.{RangeEdge, Edges, SeekBuilder, with_edges, fall, Sided, sided, take_hi, take_lo, take_edge, fold_from, place_bound}
use Rattle.rules.proofs.Cases.{by-test, by-option, true≢false, some≢none, both_true}
use Rattle.rules.proofs.Lists.{Onwards, onwards-same, onwards-next, onwards-one}
use Rattle.exact.specs.Values.{Value, encode}
use Rattle.exact.specs.Keys.{Engine, stored, ordered}
use Rattle.exact.specs.Passes.{parts_bytes, first_value, above, under, within}
use Rattle.exact.specs.Matcher.{comparison_holds, folded_hold}
use Rattle.exact.specs.Placings.{placement, open_placings}
use Rattle.exact.proofs.Ends.{Apart, Whole, first-value}
use Rattle.exact.proofs.Placing.{Edged, Ready, ready-fall}

-- a number stands in a list
abbrev pub Has : ℕ → List ℕ → Type 0
Has i ns = (j : ℕ) × (first (eqb i) ns ≡ Some j)

has-append : (i : ℕ) (ns ms : List ℕ) → Has i ns → Has i (ns ++ ms)
unfolding first
has-append i [] ms h = absurd (some≢none h.0 (sym h.1))
has-append i (n ∷ ns) ms h =
    by-test (λ (o : Option ℕ). (j : ℕ) × (o ≡ Some j)) (eqb i n) (λ e. (n, refl))
    (λ e. has-append i ns ms (h.0, sym (by-test (λ (o : Option ℕ). o ≡ first (eqb i) ns) (eqb i n) (λ q. absurd (true≢false (sym q ∙ e))) (λ q. refl)) ∙ h.1))

has_last : (i : ℕ) (ns : List ℕ) → Has i (ns ++ (i ∷ []))
unfolding first
has_last i [] = by-test (λ (o : Option ℕ). (j : ℕ) × (o ≡ Some j)) (eqb i i) (λ e. (i, refl)) (λ e. absurd (true≢false (sym (eq-eqb i i refl) ∙ e)))
has_last i (n ∷ ns) = by-test (λ (o : Option ℕ). (j : ℕ) × (o ≡ Some j)) (eqb i n) (λ e. (n, refl)) (λ e. has_last i ns)

has-onwards : (i : ℕ) (ns ms : List ℕ) → Onwards ns ms → Has i ns → Has i ms
has-onwards i ns ms o h = subst (Has i) (sym o.1) (has-append i ns o.0 h)

-- folded only grows
abbrev Grew : Edges → Edges → Type 0
Grew e e' = Onwards e.folded e'.folded

grew-edge : (i : ℕ) (op : CompareOp) (value : List ℕ) (e : Edges) → Grew e (take_edge i op value e)
unfolding take_edge take_hi take_lo
grew-edge i CompareOp.Lt value e = by-option (Grew e) e.hi (λ q. onwards-one e.folded i) (λ hi q. onwards-same e.folded)
grew-edge i CompareOp.Le value e = by-option (Grew e) e.hi (λ q. onwards-one e.folded i) (λ hi q. onwards-same e.folded)
grew-edge i CompareOp.Gt value e = by-option (Grew e) e.lo (λ q. onwards-one e.folded i) (λ lo q. onwards-same e.folded)
grew-edge i CompareOp.Ge value e = by-option (Grew e) e.lo (λ q. onwards-one e.folded i) (λ lo q. onwards-same e.folded)

grew-sided : (T : Tables) (x t i : ℕ) (c : Comparison) (e : Edges) → Grew e (elim (sided T x t c) [ None ↦ e | Some s ↦ take_edge i s.op s.value e ])
grew-sided T x t i c e = by-option (Grew e) (sided T x t c) (λ q. onwards-same e.folded) (λ s q. grew-edge i s.op s.value e)

pub grew-fold : (T : Tables) (x t i : ℕ) (cs : List Comparison) (e : Edges) → Grew e (fold_from T x t i cs e)
unfolding fold_from
grew-fold T x t i [] e = onwards-same e.folded
grew-fold T x t i (c ∷ cs) e = onwards-next e.folded _ _ (grew-sided T x t i c e) (grew-fold T x t (suc i) cs _)

-- a value's bytes are within the edges
record Good (w : List ℕ) (e : Edges) : Type 0 where
  lo : above e.lo w ≡ true
  hi : under e.hi w ≡ true

-- an edge that is taken is of a comparison that holds
good-edge : (w : List ℕ) (i : ℕ) (op : CompareOp) (value : List ℕ) (e : Edges) → Good w e → (Has i (take_edge i op value e).folded → ordered op w value ≡ true) → Good w (take_edge i op value e)
unfolding take_edge take_hi take_lo above under
good-edge w i CompareOp.Lt value e g h =
    by-option (λ e'. (Has i e'.folded → ordered CompareOp.Lt w value ≡ true) → Good w e') e.hi (λ q k. record { lo = g.lo; hi = k (has_last i e.folded) }) (λ x q k. g) h
good-edge w i CompareOp.Le value e g h =
    by-option (λ e'. (Has i e'.folded → ordered CompareOp.Le w value ≡ true) → Good w e') e.hi (λ q k. record { lo = g.lo; hi = k (has_last i e.folded) }) (λ x q k. g) h
good-edge w i CompareOp.Gt value e g h =
    by-option (λ e'. (Has i e'.folded → ordered CompareOp.Gt w value ≡ true) → Good w e') e.lo (λ q k. record { lo = k (has_last i e.folded); hi = g.hi }) (λ x q k. g) h
good-edge w i CompareOp.Ge value e g h =
    by-option (λ e'. (Has i e'.folded → ordered CompareOp.Ge w value ≡ true) → Good w e') e.lo (λ q k. record { lo = k (has_last i e.folded); hi = g.hi }) (λ x q k. g) h

-- what the matcher asks of comparison i
abbrev pub asked : Tables → List ℕ → ℕ → ℕ → Value → ℕ → Comparison → Bool
asked T folded x t v i c = elim (first (eqb i) folded) [ None ↦ true | Some j ↦ comparison_holds T x t v c ]

asked-holds : (T : Tables) (folded : List ℕ) (x t : ℕ) (v : Value) (i : ℕ) (c : Comparison) → Has i folded → asked T folded x t v i c ≡ true → comparison_holds T x t v c ≡ true
asked-holds T folded x t v i c h e = ap (λ (o : Option ℕ). elim o [ None ↦ true | Some j ↦ comparison_holds T x t v c ]) (sym h.1) ∙ e

all_first : (i : ℕ) (p : ℕ → Comparison → Bool) (c : Comparison) (cs : List Comparison) → all_from i p (c ∷ cs) ≡ true → (p i c ≡ true) × (all_from (suc i) p cs ≡ true)
unfolding all_from
all_first i p c cs = by-test (λ r. r ≡ true → (p i c ≡ true) × (all_from (suc i) p cs ≡ true)) (p i c) (λ q r. (q, r)) (λ q r. absurd (true≢false (sym r)))

module _ (T : Tables) (folded : List ℕ) (x t : ℕ) (v : Value) where
  good-sided : (i : ℕ) (c : Comparison) (e : Edges) → Good (encode v) e
      → (Has i (elim (sided T x t c) as (λ _. Edges) [ None ↦ e | Some s ↦ take_edge i s.op s.value e ]).folded → comparison_holds T x t v c ≡ true)
      → Good (encode v) (elim (sided T x t c) [ None ↦ e | Some s ↦ take_edge i s.op s.value e ])
  unfolding comparison_holds
  good-sided i c e g = go (sided T x t c)
    where
      go : (o : Option Sided) → (Has i (elim o as (λ _. Edges) [ None ↦ e | Some s ↦ take_edge i s.op s.value e ]).folded → elim o as (λ _. Bool) [ None ↦ true | Some s ↦ ordered s.op (encode v) s.value ] ≡ true)
          → Good (encode v) (elim o [ None ↦ e | Some s ↦ take_edge i s.op s.value e ])
      go None h = g
      go (Some s) h = good-edge (encode v) i s.op s.value e g h

  good-fold : (i : ℕ) (cs : List Comparison) (e : Edges) → Good (encode v) e → ((j : ℕ) → Has j (fold_from T x t i cs e).folded → Has j folded) → all_from i (asked T folded x t v) cs ≡ true → Good (encode v) (fold_from T x t i cs e)
  unfolding fold_from
  good-fold i [] e g h a = g
  good-fold i (c ∷ cs) e g h a =
      let s = all_first i (asked T folded x t v) c cs a in
      good-fold (suc i) cs _
      (good-sided i c e g (λ k. asked-holds T folded x t v i c (h i (has-onwards i _ _ (grew-fold T x t (suc i) cs _) k)) s.0))
      h s.1

edged-within : (lo hi : Option RangeEdge) (value : Option (List ℕ)) → within lo hi value ≡ true → Edged lo hi value
edged-within None None value e = tt
edged-within None (Some hi) value e = e
edged-within (Some lo) hi value e = e

good_new : (w : List ℕ) (e : Edges) → e.lo ≡ None → e.hi ≡ None → Good w e
unfolding above under
good_new w e p q = record { lo = ap (λ (o : Option RangeEdge). above o w) p; hi = ap (λ (o : Option RangeEdge). under o w) q }

module _ (engine : Engine) (ty : Ty) (key : Value) where
  ready-edges : (T : Tables) (folded : List ℕ) (x t : ℕ) (v : Value) (b : SeekBuilder) (rest y : List ℕ) → Whole v → Apart rest → folded_hold T folded x t v ≡ true
      → b.building ≡ true → (fold_from T x t 0 T.comparisons b.edges).folded ≡ folded → Ready engine ty key b (encode v ++ rest)
      → Ready engine ty key (fall (with_edges (fold_from T x t 0 T.comparisons b.edges) b)) y
  unfolding fall with_edges within folded_hold
  ready-edges T folded x t v b rest y w a h on k r =
      let o = r.alone on in
      let e : Edges = fold_from T x t 0 T.comparisons b.edges in
      let g = good-fold T folded x t v 0 T.comparisons b.edges (good_new (encode v) b.edges o.no-lo o.no-hi) (λ j q. subst (Has j) k q) h in
      let left : drop (length (parts_bytes engine b.parts)) (stored ty key) ≡ encode v ++ rest =
      ap (drop (length (parts_bytes engine b.parts))) (r.ahead on) ∙ drop-append_seam (parts_bytes engine b.parts) (encode v ++ rest) in
      record {
        alone = λ q. absurd (true≢false (sym q));
        passing = record {
          starts = r.passing.starts;
          range = r.passing.range;
          edges = edged-within e.lo e.hi _
              (ap (within e.lo e.hi) (ap first_value left ∙ first-value v rest w a) ∙ both_true (above e.lo (encode v)) (under e.hi (encode v)) g.lo g.hi);
          guide = r.passing.guide;
          residuals = r.passing.residuals;
        };
        ahead = λ q. absurd (true≢false (sym q));
      }

  -- a name without constraints: its bound and the skip after it
  pub ready-bound : (T : Tables) (folded : List ℕ) (x t : ℕ) (v : Value) (b : SeekBuilder) (rest y : List ℕ) → Whole v → Apart rest
      → folded_hold T folded x t v ≡ true → (b.building ≡ true → (placement T Event.skip (placement T (Event.bound x t) b)).edges.folded ≡ folded) → Ready engine ty key b (encode v ++ rest)
      → Ready engine ty key (placement T Event.skip (placement T (Event.bound x t) b)) y
  unfolding open_placings place_bound with_edges fall
  ready-bound T folded x t v b rest y w a h f r =
      by-test (λ (b' : SeekBuilder). (b.building ≡ true → (fall b').edges.folded ≡ folded) → Ready engine ty key (fall b') y) b.building
      (λ on k. ready-edges T folded x t v b rest y w a h on (k on) r)
      (λ off k. ready-fall engine ty key b (encode v ++ rest) y r) f
