-- What a level folds is of the name that it folds for: each folded comparison has that name on one side and a constant on the other.
use mathlib.Core.Bool.{Bool, true, false}
use mathlib.Core.List.{List, [], ◌∷◌, ◌++◌}
use Rattle.std.specs.Prelude.{Option, None, Some, unwrap_or}
use mathlib.Core.Path.{◌≡◌, refl, sym, ap, ◌∙◌, subst}
use Prim.Native.Nat.{ℕ, zero, suc, ◌+◌, ◌<◌, ◌≤◌}
use native.Mathlib.Omega.{arith}
use lib.ListN.{length, get_or}
use lib.Dec.{eqb}
use Rattle.rules.specs.Base.{all_from, first, ◌when_some◌}
use Rattle.rules.specs.File.{Tables, Node, CompareOp, Comparison, Slot, Binding, node_at, var_name, type_at}
use Rattle.rules.specs.Constant.{Const, bytes_only, lookup, const_node, const_of, stands_for, constant_node, constant_below, constant}
use Rattle.rules.specs.Placement.{RangeEdge, Edges, Compared, is_var, flipped, compared, Sided, sided, take_hi, take_lo, take_edge, edge, fold_from}
use Rattle.rules.proofs.Cases.{by-test, by-option, true≢false, some≢none, some-injective, bind-some, eqb-eq}
use Rattle.rules.specs.Constant.{const_bound}
use Rattle.exact.specs.Values.{Value, encode}
use Rattle.exact.specs.Keys.{ordered}
use Rattle.exact.specs.Passes.{above, under}
use Rattle.exact.specs.Matcher.{comparison_holds, folded_hold}
use Rattle.exact.proofs.Folding.{Has, asked}
use Rattle.exact.proofs.Unplaced.{Or, left, right}

-- comparison number i
unfoldable pub comparison_at : Tables → ℕ → Comparison
comparison_at T i = get_or T.comparisons i (record { op = CompareOp.Lt; left = 0; right = 0 })

has-snoc : (j i : ℕ) (ns : List ℕ) → Has j (ns ++ (i ∷ [])) → Or (Has j ns) (j ≡ i)
unfolding first
has-snoc j i [] h = by-test (λ (o : Option ℕ). (k : ℕ) × (o ≡ Some k) → Or (Has j []) (j ≡ i)) (eqb j i) (λ e q. right (eqb-eq j i e)) (λ e q. absurd (some≢none q.0 (sym q.1))) h
has-snoc j i (n ∷ ns) h = go (has-snoc j i ns) (eqb j n) refl h
  where
    go : (Has j (ns ++ (i ∷ [])) → Or (Has j ns) (j ≡ i)) → (t : Bool) → eqb j n ≡ t → (k : ℕ) × (elim t as (λ _. Option ℕ) [ true ↦ Some n | false ↦ first (eqb j) (ns ++ (i ∷ [])) ] ≡ Some k) → Or (Has j (n ∷ ns)) (j ≡ i)
    go ih true e q = left (n, ap (λ (b : Bool). elim b as (λ _. Option ℕ) [ true ↦ Some n | false ↦ first (eqb j) ns ]) e)
    go ih false e q = back (ih q)
      where
        back : Or (Has j ns) (j ≡ i) → Or (Has j (n ∷ ns)) (j ≡ i)
        back (left x) = left (x.0, ap (λ (b : Bool). elim b as (λ _. Option ℕ) [ true ↦ Some n | false ↦ first (eqb j) ns ]) e ∙ x.1)
        back (right x) = right x

-- an edge that is taken, or none
taken : (j i : ℕ) (op : CompareOp) (value : List ℕ) (e : Edges) → Has j (take_edge i op value e).folded → Or (Has j e.folded) (j ≡ i)
unfolding take_edge take_hi take_lo
taken j i CompareOp.Lt value e = by-option (λ (e' : Edges). Has j e'.folded → Or (Has j e.folded) (j ≡ i)) e.hi (λ q h. has-snoc j i e.folded h) (λ x q h. left h)
taken j i CompareOp.Le value e = by-option (λ (e' : Edges). Has j e'.folded → Or (Has j e.folded) (j ≡ i)) e.hi (λ q h. has-snoc j i e.folded h) (λ x q h. left h)
taken j i CompareOp.Gt value e = by-option (λ (e' : Edges). Has j e'.folded → Or (Has j e.folded) (j ≡ i)) e.lo (λ q h. has-snoc j i e.folded h) (λ x q h. left h)
taken j i CompareOp.Ge value e = by-option (λ (e' : Edges). Has j e'.folded → Or (Has j e.folded) (j ≡ i)) e.lo (λ q h. has-snoc j i e.folded h) (λ x q h. left h)

-- after one comparison
pub after : Tables → ℕ → ℕ → ℕ → Comparison → Edges → Edges
after T x t i c e = elim (sided T x t c) [ None ↦ e | Some s ↦ take_edge i s.op s.value e ]

taken-one : (T : Tables) (x t j i : ℕ) (c : Comparison) (e : Edges) → Has j (after T x t i c e).folded → Or (Has j e.folded) ((j ≡ i) × (s : Sided) × (sided T x t c ≡ Some s))
unfolding after
taken-one T x t j i c e h = go (sided T x t c) refl h
  where
    go : (o : Option Sided) → sided T x t c ≡ o → Has j (elim o as (λ _. Edges) [ None ↦ e | Some s ↦ take_edge i s.op s.value e ]).folded → Or (Has j e.folded) ((j ≡ i) × (s : Sided) × (sided T x t c ≡ Some s))
    go None q k = left k
    go (Some s) q k = back (taken j i s.op s.value e k)
      where
        back : Or (Has j e.folded) (j ≡ i) → Or (Has j e.folded) ((j ≡ i) × (s : Sided) × (sided T x t c ≡ Some s))
        back (left y) = left y
        back (right y) = right (y, s, q)

-- what is folded was folded before, or has the name on one side
pub fold-of : (T : Tables) (x t i : ℕ) (cs : List Comparison) (e : Edges) → ((k : ℕ) → k < length cs → comparison_at T (i + k) ≡ get_or cs k (record { op = CompareOp.Lt; left = 0; right = 0 })) → (j : ℕ) → Has j (fold_from T x t i cs e).folded
    → Or (Has j e.folded) ((s : Sided) × (sided T x t (comparison_at T j) ≡ Some s))
unfolding fold_from after
fold-of T x t i [] e at j h = left h
fold-of T x t i (c ∷ cs) e at j h =
    back (fold-of T x t (suc i) cs (after T x t i c e) (λ k l. ap (comparison_at T) (omega arith) ∙ at (suc k) (omega (arith, l))) j h)
  where
    back : Or (Has j (after T x t i c e).folded) ((s : Sided) × (sided T x t (comparison_at T j) ≡ Some s)) → Or (Has j e.folded) ((s : Sided) × (sided T x t (comparison_at T j) ≡ Some s))
    back (right y) = right y
    back (left y) = here (taken-one T x t j i c e y)
      where
        here : Or (Has j e.folded) ((j ≡ i) × (s : Sided) × (sided T x t c ≡ Some s)) → Or (Has j e.folded) ((s : Sided) × (sided T x t (comparison_at T j) ≡ Some s))
        here (left z) = left z
        here (right z) =
            right (z.1, ap (sided T x t) (ap (comparison_at T) (z.0 ∙ first-at) ∙ at 0 (omega arith)) ∙ z.2)
          where
            first-at : i ≡ i + 0
            first-at = omega arith

-- Names on the sides of a comparison.
var-named : (node : Node) (x : ℕ) → var_name node ≡ Some x → node ≡ Node.Var x
unfolding var_name
var-named (Node.Int bytes) x e = absurd (some≢none x (sym e))
var-named (Node.Str y) x e = absurd (some≢none x (sym e))
var-named (Node.Bytes bytes) x e = absurd (some≢none x (sym e))
var-named (Node.Var y) x e = ap Node.Var (some-injective y x e)
var-named Node.Wildcard x e = absurd (some≢none x (sym e))
var-named Node.Never x e = absurd (some≢none x (sym e))
var-named (Node.Prefix y) x e = absurd (some≢none x (sym e))
var-named (Node.Fuzzy y d a) x e = absurd (some≢none x (sym e))
var-named (Node.Record fs) x e = absurd (some≢none x (sym e))
var-named (Node.Access y n) x e = absurd (some≢none x (sym e))
var-named (Node.Value n) x e = absurd (some≢none x (sym e))
var-named (Node.Select y n) x e = absurd (some≢none x (sym e))
var-named Node.Disjunction x e = absurd (some≢none x (sym e))
var-named Node.Subquery x e = absurd (some≢none x (sym e))
var-named (Node.Fact p n) x e = absurd (some≢none x (sym e))
var-named Node.Arith x e = absurd (some≢none x (sym e))
var-named Node.Error x e = absurd (some≢none x (sym e))

is-var : (T : Tables) (x n : ℕ) → is_var T x n ≡ true → node_at T n ≡ Node.Var x
unfolding is_var
is-var T x n h = var-named (node_at T n) x (go (var_name (node_at T n)) h)
  where
    go : (o : Option ℕ) → elim o as (λ _. Bool) [ None ↦ false | Some y ↦ eqb y x ] ≡ true → o ≡ Some x
    go None q = absurd (true≢false (sym q))
    go (Some y) q = ap Some (eqb-eq y x q)

var_of : ℕ → Node → ℕ
var_of d node = unwrap_or (var_name node) d

var-same : (x y : ℕ) → Node.Var x ≡ Node.Var y → x ≡ y
unfolding var_of var_name
var-same x y e = ap (var_of x) e

-- a name that has a constant is bound to one in the file
const-var : (T : Tables) (y n u : ℕ) (k : Const) → node_at T n ≡ Node.Var y → constant T n u ≡ Some k → const_bound T.bindings y ≡ None → ⊥
unfolding constant stands_for const_of var_name ◌when_some◌ constant_node constant_below
const-var T y n u k q e h = go (length T.types) e
  where
    stands : stands_for T n ≡ n
    stands = ap (λ (node : Node). unwrap_or (var_name node when_some λ x. lookup T.bindings x when_some const_node) n) q ∙ ap (λ (o : Option ℕ). unwrap_or o n) h

    go : (l : ℕ) → constant_below T l n u ≡ Some k → ⊥
    go zero p = some≢none k (sym p)
    go (suc l) p = some≢none k (sym p ∙ ap (λ (m : ℕ). constant_node T (constant_below T l) (node_at T m) (type_at T u)) stands ∙ ap (λ (node : Node). constant_node T (constant_below T l) node (type_at T u)) q)

-- a comparison that a level folded for another name says nothing of a new one
module _ (T : Tables) (bound : List Binding) (consts : (x : ℕ) → const_bound bound x ≡ const_bound T.bindings x) (y : ℕ) (fresh : lookup bound y ≡ None) where
  no_const : const_bound T.bindings y ≡ None
  unfolding ◌when_some◌
  no_const = sym (consts y) ∙ ap (λ (o : Option Slot). o when_some const_node) fresh

  unlike : (x : ℕ) (slot : Slot) → lookup bound x ≡ Some slot → x ≡ y → ⊥
  unlike x slot h e = some≢none slot (sym h ∙ ap (lookup bound) e ∙ fresh)

  pub other_name : (x u t : ℕ) (slot : Slot) (c : Comparison) (s : Sided) → lookup bound x ≡ Some slot → sided T x u c ≡ Some s → sided T y t c ≡ None
  unfolding sided compared ◌when_some◌
  other_name x u t slot c s h e = go (is_var T y c.left) refl (is_var T y c.right) refl
    where
      found : (other : Compared) × (compared T x c ≡ Some other) × ((k : Const) × (constant T other.node u ≡ Some k))
      found =
          let a = bind-some (compared T x c) _ s e in
          let b = bind-some (constant T a.0.node u) _ s a.2 in
          (a.0, a.1, (b.0, b.1))

      -- by the side that x is on
      side : (P : Type 0) → (is_var T x c.left ≡ true → found.0.node ≡ c.right → P) → (is_var T x c.right ≡ true → found.0.node ≡ c.left → P) → P
      side P f g = at (is_var T x c.left) refl (is_var T x c.right) refl found.1
        where
          node_of : Compared → ℕ
          node_of z = z.node

          at : (l : Bool) → is_var T x c.left ≡ l → (r : Bool) → is_var T x c.right ≡ r
              → elim l as (λ _. Option Compared) [ true ↦ Some (record { op = c.op; node = c.right }) | false ↦ elim r [ true ↦ Some (record { op = flipped c.op; node = c.left }) | false ↦ None ] ] ≡ Some found.0 → P
          at true p r q z = f p (ap node_of (sym (some-injective (record { op = c.op; node = c.right }) found.0 z)))
          at false p true q z = g q (ap node_of (sym (some-injective (record { op = flipped c.op; node = c.left }) found.0 z)))
          at false p false q z = absurd (some≢none found.0 (sym z))

      not_left : is_var T y c.left ≡ true → ⊥
      not_left p =
          side ⊥
          (λ q z. unlike x slot h (var-same x y (sym (is-var T x c.left q) ∙ is-var T y c.left p)))
          (λ q z. const-var T y c.left u found.2.0 (is-var T y c.left p) (ap (λ (n : ℕ). constant T n u) (sym z) ∙ found.2.1) no_const)

      not_right : is_var T y c.right ≡ true → ⊥
      not_right p =
          side ⊥
          (λ q z. const-var T y c.right u found.2.0 (is-var T y c.right p) (ap (λ (n : ℕ). constant T n u) (sym z) ∙ found.2.1) no_const)
          (λ q z. unlike x slot h (var-same x y (sym (is-var T x c.right q) ∙ is-var T y c.right p)))

      go : (l : Bool) → is_var T y c.left ≡ l → (r : Bool) → is_var T y c.right ≡ r → sided T y t c ≡ None
      go true p r q = absurd (not_left p)
      go false p true q = absurd (not_right q)
      go false p false q =
          ap (λ (o : Option Compared). o when_some λ other. constant T other.node t when_some λ k. bytes_only k when_some λ value. Some (record { op = other.op; value = value }))
          (ap (λ (b : Bool). elim b as (λ _. Option Compared) [ true ↦ Some (record { op = c.op; node = c.right }) | false ↦ elim (is_var T y c.right) [ true ↦ Some (record { op = flipped c.op; node = c.left }) | false ↦ None ] ]) p
          ∙ ap (λ (b : Bool). elim b as (λ _. Option Compared) [ true ↦ Some (record { op = flipped c.op; node = c.left }) | false ↦ None ]) q)

-- The matcher's question about comparisons, answered.
all-from : (i : ℕ) (p : ℕ → Comparison → Bool) (c : Comparison) (cs : List Comparison) → p i c ≡ true → all_from (suc i) p cs ≡ true → all_from i p (c ∷ cs) ≡ true
unfolding all_from
all-from i p c cs e h = ap (λ (b : Bool). elim b as (λ _. Bool) [ true ↦ all_from (suc i) p cs | false ↦ false ]) e ∙ h

asked-unless : (T : Tables) (folded : List ℕ) (x t : ℕ) (v : Value) (i : ℕ) (c : Comparison) → (Has i folded → comparison_holds T x t v c ≡ true) → asked T folded x t v i c ≡ true
asked-unless T folded x t v i c h = by-option (λ (b : Bool). b ≡ true) (first (eqb i) folded) (λ e. refl) (λ j e. h (j, e))

holds-none : (T : Tables) (x t : ℕ) (v : Value) (c : Comparison) → sided T x t c ≡ None → comparison_holds T x t v c ≡ true
unfolding comparison_holds
holds-none T x t v c e = ap (λ (o : Option Sided). elim o as (λ _. Bool) [ None ↦ true | Some s ↦ ordered s.op (encode v) s.value ]) e

holds-some : (T : Tables) (x t : ℕ) (v : Value) (c : Comparison) (s : Sided) → sided T x t c ≡ Some s → ordered s.op (encode v) s.value ≡ true → comparison_holds T x t v c ≡ true
unfolding comparison_holds
holds-some T x t v c s e h = ap (λ (o : Option Sided). elim o as (λ _. Bool) [ None ↦ true | Some s' ↦ ordered s'.op (encode v) s'.value ]) e ∙ h

module _ (T : Tables) (folded : List ℕ) (x t : ℕ) (v : Value) where
  -- none of the folded ones has the name on a side
  all-silent : (i : ℕ) (cs : List Comparison) → ((k : ℕ) → k < length cs → comparison_at T (i + k) ≡ get_or cs k (record { op = CompareOp.Lt; left = 0; right = 0 })) → ((j : ℕ) → Has j folded → sided T x t (comparison_at T j) ≡ None)
      → all_from i (asked T folded x t v) cs ≡ true
  all-silent i [] at h = unfold all_from in refl
  all-silent i (c ∷ cs) at h =
      let here : comparison_at T i ≡ c = ap (comparison_at T) (omega arith) ∙ at 0 (omega arith) in
      all-from i (asked T folded x t v) c cs
      (asked-unless T folded x t v i c (λ k. holds-none T x t v c (ap (sided T x t) (sym here) ∙ h i k)))
      (all-silent (suc i) cs (λ k l. ap (comparison_at T) (omega arith) ∙ at (suc k) (omega (arith, l))) h)

  pub silent : ((j : ℕ) → Has j folded → sided T x t (comparison_at T j) ≡ None) → folded_hold T folded x t v ≡ true
  unfolding folded_hold comparison_at
  silent h = all-silent 0 T.comparisons (λ k l. ap (comparison_at T) (omega arith)) h

  -- the edge that an op and a constant give
  abbrev EdgeOf : CompareOp → List ℕ → Edges → Type 0
  EdgeOf CompareOp.Lt value e = e.hi ≡ Some (edge value false)
  EdgeOf CompareOp.Le value e = e.hi ≡ Some (edge value true)
  EdgeOf CompareOp.Gt value e = e.lo ≡ Some (edge value false)
  EdgeOf CompareOp.Ge value e = e.lo ≡ Some (edge value true)

  edge-says : (op : CompareOp) (value w : List ℕ) (e : Edges) → EdgeOf op value e → above e.lo w ≡ true → under e.hi w ≡ true → ordered op w value ≡ true
  unfolding above under
  edge-says CompareOp.Lt value w e q lo hi = ap (λ (o : Option RangeEdge). under o w) (sym q) ∙ hi
  edge-says CompareOp.Le value w e q lo hi = ap (λ (o : Option RangeEdge). under o w) (sym q) ∙ hi
  edge-says CompareOp.Gt value w e q lo hi = ap (λ (o : Option RangeEdge). above o w) (sym q) ∙ lo
  edge-says CompareOp.Ge value w e q lo hi = ap (λ (o : Option RangeEdge). above o w) (sym q) ∙ lo

  edge-taken : (i : ℕ) (op : CompareOp) (value : List ℕ) (e : Edges) → Has i (take_edge i op value e).folded → (Has i e.folded → ⊥) → EdgeOf op value (take_edge i op value e)
  unfolding take_edge take_hi take_lo
  edge-taken i CompareOp.Lt value e = by-option (λ (e' : Edges). Has i e'.folded → (Has i e.folded → ⊥) → e'.hi ≡ Some (edge value false)) e.hi (λ q h k. refl) (λ y q h k. absurd (k h))
  edge-taken i CompareOp.Le value e = by-option (λ (e' : Edges). Has i e'.folded → (Has i e.folded → ⊥) → e'.hi ≡ Some (edge value true)) e.hi (λ q h k. refl) (λ y q h k. absurd (k h))
  edge-taken i CompareOp.Gt value e = by-option (λ (e' : Edges). Has i e'.folded → (Has i e.folded → ⊥) → e'.lo ≡ Some (edge value false)) e.lo (λ q h k. refl) (λ y q h k. absurd (k h))
  edge-taken i CompareOp.Ge value e = by-option (λ (e' : Edges). Has i e'.folded → (Has i e.folded → ⊥) → e'.lo ≡ Some (edge value true)) e.lo (λ q h k. refl) (λ y q h k. absurd (k h))

  -- an edge that is set stays
  record Stays (e e' : Edges) : Type 0 where
    lo : (z : RangeEdge) → e.lo ≡ Some z → e'.lo ≡ Some z
    hi : (z : RangeEdge) → e.hi ≡ Some z → e'.hi ≡ Some z

  stays-hi : (i : ℕ) (z : RangeEdge) (e : Edges) → Stays e (take_hi i z e)
  unfolding take_hi
  stays-hi i z e = by-option (Stays e) e.hi (λ q. record { lo = λ y h. h; hi = λ y h. absurd (some≢none y (sym h ∙ q)) }) (λ y q. record { lo = λ y' h. h; hi = λ y' h. h })

  stays-lo : (i : ℕ) (z : RangeEdge) (e : Edges) → Stays e (take_lo i z e)
  unfolding take_lo
  stays-lo i z e = by-option (Stays e) e.lo (λ q. record { lo = λ y h. absurd (some≢none y (sym h ∙ q)); hi = λ y h. h }) (λ y q. record { lo = λ y' h. h; hi = λ y' h. h })

  stays-edge : (i : ℕ) (op : CompareOp) (value : List ℕ) (e : Edges) → Stays e (take_edge i op value e)
  unfolding take_edge
  stays-edge i CompareOp.Lt value e = stays-hi i _ e
  stays-edge i CompareOp.Le value e = stays-hi i _ e
  stays-edge i CompareOp.Gt value e = stays-lo i _ e
  stays-edge i CompareOp.Ge value e = stays-lo i _ e

  stays_after : (i : ℕ) (c : Comparison) (e : Edges) → Stays e (after T x t i c e)
  unfolding after
  stays_after i c e = by-option (Stays e) (sided T x t c) (λ q. record { lo = λ y h. h; hi = λ y h. h }) (λ s q. stays-edge i s.op s.value e)

  stays-fold : (i : ℕ) (cs : List Comparison) (e : Edges) → Stays e (fold_from T x t i cs e)
  unfolding fold_from after
  stays-fold i [] e = record { lo = λ y h. h; hi = λ y h. h }
  stays-fold i (c ∷ cs) e =
      let g = stays_after i c e in
      let h = stays-fold (suc i) cs (after T x t i c e) in
      record { lo = λ y q. h.lo y (g.lo y q); hi = λ y q. h.hi y (g.hi y q) }

  edge_stays : (op : CompareOp) (value : List ℕ) (e e' : Edges) → Stays e e' → EdgeOf op value e → EdgeOf op value e'
  edge_stays CompareOp.Lt value e e' s h = s.hi (edge value false) h
  edge_stays CompareOp.Le value e e' s h = s.hi (edge value true) h
  edge_stays CompareOp.Gt value e e' s h = s.lo (edge value false) h
  edge_stays CompareOp.Ge value e e' s h = s.lo (edge value true) h

  -- what is folded later has a higher index
  later : (i : ℕ) (cs : List Comparison) (e : Edges) (j : ℕ) → Has j (fold_from T x t i cs e).folded → Or (Has j e.folded) (i ≤ j)
  unfolding fold_from after
  later i [] e j h = left h
  later i (c ∷ cs) e j h = back (later (suc i) cs (after T x t i c e) j h)
    where
      here : Or (Has j e.folded) ((j ≡ i) × (s : Sided) × (sided T x t c ≡ Some s)) → Or (Has j e.folded) (i ≤ j)
      here (left z) = left z
      here (right z) = right (omega (arith, z.0))

      back : Or (Has j (after T x t i c e).folded) (suc i ≤ j) → Or (Has j e.folded) (i ≤ j)
      back (left y) = here (taken-one T x t j i c e y)
      back (right y) = right (omega (arith, y))

  -- every comparison that gave an edge holds, where the bytes are within the edges
  answered : (i : ℕ) (cs : List Comparison) (e : Edges) → ((j : ℕ) → Has j e.folded → j < i) → (fold_from T x t i cs e).folded ≡ folded
      → above (fold_from T x t i cs e).lo (encode v) ≡ true → under (fold_from T x t i cs e).hi (encode v) ≡ true → all_from i (asked T folded x t v) cs ≡ true
  unfolding fold_from after
  answered i [] e low f lo hi = unfold all_from in refl
  answered i (c ∷ cs) e low f lo hi =
      all-from i (asked T folded x t v) c cs
      (asked-unless T folded x t v i c (λ k. own (sided T x t c) refl (subst (Has i) (sym f) k)))
      (answered (suc i) cs (after T x t i c e) (λ j k. lower j (taken-one T x t j i c e k)) f lo hi)
    where
      lower : (j : ℕ) → Or (Has j e.folded) ((j ≡ i) × (s : Sided) × (sided T x t c ≡ Some s)) → j < suc i
      lower j (left z) = omega (arith, low j z)
      lower j (right z) = omega (arith, z.0)

      not-before : Has i e.folded → ⊥
      not-before k = absurd (omega (arith, low i k))

      was-here : Or (Has i (after T x t i c e).folded) (suc i ≤ i) → Has i (after T x t i c e).folded
      was-here (left z) = z
      was-here (right z) = absurd (omega (arith, z))

      after-some : (s : Sided) → sided T x t c ≡ Some s → after T x t i c e ≡ take_edge i s.op s.value e
      after-some s q = ap (λ (o : Option Sided). elim o as (λ _. Edges) [ None ↦ e | Some s' ↦ take_edge i s'.op s'.value e ]) q

      own : (o : Option Sided) → sided T x t c ≡ o → Has i (fold_from T x t (suc i) cs (after T x t i c e)).folded → comparison_holds T x t v c ≡ true
      own None q k = holds-none T x t v c q
      own (Some s) q k =
          let m = was-here (later (suc i) cs (after T x t i c e) i k) in
          let g = edge-taken i s.op s.value e (subst (λ (e' : Edges). Has i e'.folded) (after-some s q) m) not-before in
          holds-some T x t v c s q
          (edge-says s.op s.value (encode v) (fold_from T x t (suc i) cs (after T x t i c e))
          (edge_stays s.op s.value (after T x t i c e) (fold_from T x t (suc i) cs (after T x t i c e)) (stays-fold (suc i) cs (after T x t i c e)) (subst (EdgeOf s.op s.value) (sym (after-some s q)) g)) lo hi)

  pub within-holds : (e : Edges) → e.folded ≡ [] → (fold_from T x t 0 T.comparisons e).folded ≡ folded
      → above (fold_from T x t 0 T.comparisons e).lo (encode v) ≡ true → under (fold_from T x t 0 T.comparisons e).hi (encode v) ≡ true → folded_hold T folded x t v ≡ true
  unfolding folded_hold
  within-holds e n f lo hi = answered 0 T.comparisons e (λ j k. absurd (empty j (subst (Has j) n k))) f lo hi
    where
      empty : (j : ℕ) → Has j [] → ⊥
      empty j h = unfold first in some≢none h.0 (sym h.1)
