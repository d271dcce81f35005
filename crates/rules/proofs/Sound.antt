-- What the checks 8 to 14 give: numbers in range, children lower and less deep, starting slots that fit.
use mathlib.Core.Bool.{Bool, true}
use mathlib.Core.List.{List, [], ◌∷◌}
use Rattle.std.specs.Prelude.{Option, None, Some}
use mathlib.Core.Path.{◌≡◌, refl, sym, ap, ◌∙◌, subst}
use Prim.Native.Nat.{ℕ, zero, suc, ◌+◌, ◌≤◌, ◌<◌}
use native.Mathlib.Nat.{zero-add, not-suc-le-zero, le_of_suc-le-suc}
use native.Mathlib.Omega.{arith}
use lib.Dec.{leb, ltb}
use lib.ListN.{length, get_or, take}
use lib.Seq.{get_or-take}
use Rattle.rules.specs.Base.{Each, done, more, all, all_from, bottom_up}
use Rattle.rules.specs.Limits.{depth_limit}
use Rattle.rules.specs.File.{Tables, Ty, Slot, Binding, FieldPath, type_at, predicate_at, fact_ty, child_types, deepest, depth_of, depths, depth}
use Rattle.rules.specs.Checks.{Check, checks, fault, is_name, is_type, is_predicate, none_or, type_in, predicate_in, slot_in, binding_in, level_in, numbers_in, children_lower, types_distinct, types_shallow, children_once, consts_constant, slot_fits, paths_fit, node_in, hoisted_in, constraint_in, comparison_in}
use Rattle.rules.proofs.Cases.{true≢false, some≢none, some-injective, by-test, leb-le, ltb-lt, both_left, both_right}
use Rattle.rules.proofs.Each.{each-passes, each-imply, each_both, each_at}
use Rattle.rules.proofs.BottomUp.{extends, at_place}

-- a check that was passed, and the checks after it
pub fault-passed : (c : Check) (cs : List Check) (T : Tables) → fault (c ∷ cs) T ≡ None → (c.passes T ≡ true) × (fault cs T ≡ None)
unfolding fault
fault-passed c cs T =
    by-test (λ r. r ≡ None → (c.passes T ≡ true) × (fault cs T ≡ None)) (c.passes T) (λ q r. (q, r)) (λ q r. absurd (some≢none c.number r))

-- every check of an accepted file
pub record Passed (T : Tables) : Type 0 where
  pub numbers : numbers_in T ≡ true
  pub lower : children_lower T ≡ true
  pub distinct : types_distinct T ≡ true
  pub shallow : types_shallow T ≡ true
  pub once : children_once T ≡ true
  pub consts : consts_constant T ≡ true
  pub paths : paths_fit T ≡ true

pub passed-all : (T : Tables) → fault checks T ≡ None → Passed T
passed-all T e =
    let a = fault-passed _ _ T e in
    let b = fault-passed _ _ T a.1 in
    let c = fault-passed _ _ T b.1 in
    let d = fault-passed _ _ T c.1 in
    let f = fault-passed _ _ T d.1 in
    let g = fault-passed _ _ T f.1 in
    let h = fault-passed _ _ T g.1 in
    record { numbers = a.0; lower = b.0; distinct = c.0; shallow = d.0; once = f.0; consts = g.0; paths = h.0 }

-- a path at a type: the type is the file's, and there is room for every step below it, for any limit of a type's depth
pub record FitsIn (limit : ℕ) (T : Tables) (p : FieldPath) (t : ℕ) : Type 0 where
  pub in-types : t < length T.types
  pub short : length p.steps + depth T t ≤ limit

abbrev pub Fits : Tables → FieldPath → ℕ → Type 0
Fits T p t = FitsIn depth_limit T p t

-- a child of type t
pub record Child (T : Tables) (t c : ℕ) : Type 0 where
  pub lower : c < t
  pub in-types : c < length T.types
  pub less-deep : depth T c + 1 ≤ depth T t

abbrev pub SlotOk : Tables → Slot → Type 0
SlotOk T (Slot.Row a p) = (q : ℕ) → p ≡ Some q → q < length T.predicates
SlotOk T (Slot.Key a t) = t < length T.types
SlotOk T (Slot.Derived a) = Unit {0}
SlotOk T (Slot.Field a p t) = Fits T p t
SlotOk T (Slot.Value a t) = Unit {0}
SlotOk T (Slot.Const n) = Unit {0}

abbrev pub BindingOk : Tables → Binding → Type 0
BindingOk T b = SlotOk T b.slot

pub record Sound (T : Tables) : Type 0 where
  pub children : (t : ℕ) → t < length T.types → Each (Child T t) (child_types (type_at T t))
  pub facts : (t p : ℕ) → t < length T.types → fact_ty (type_at T t) ≡ Some p → p < length T.predicates
  pub keys : (p : ℕ) → p < length T.predicates → (predicate_at T p).key < length T.types
  pub positive : (t : ℕ) → t < length T.types → 1 ≤ depth T t
  pub shallow : (t : ℕ) → t < length T.types → depth T t ≤ depth_limit
  pub bindings : Each (BindingOk T) T.bindings
  pub levels : Each (λ l. l.predicate < length T.predicates) T.levels

-- a list's test with numbers, at each place
pub all_from_at : {A : Type 0} (n : ℕ) (p : ℕ → A → Bool) (xs : List A) (i : ℕ) (d : A) → all_from n p xs ≡ true → i < length xs → p (n + i) (get_or xs i d) ≡ true
unfolding all_from
all_from_at n p [] i d e h = absurd (not-suc-le-zero h)
all_from_at n p (x ∷ xs) zero d e h =
    subst (λ k. p k x ≡ true) (omega arith)
    (by-test (λ r. r ≡ true → p n x ≡ true) (p n x) (λ q r. q) (λ q r. absurd (true≢false (sym r))) e)
all_from_at n p (x ∷ xs) (suc i) d e h =
    subst (λ k. p k (get_or xs i d) ≡ true) (omega arith)
    (by-test (λ r. r ≡ true → p (suc n + i) (get_or xs i d) ≡ true) (p n x) (λ q r. all_from_at (suc n) p xs i d r (le_of_suc-le-suc h)) (λ q r. absurd (true≢false (sym r))) e)

-- the deepest of lower entries is found among them
deepest-take : (ds : List ℕ) (t : ℕ) (cs : List ℕ) → Each (λ c. c < t) cs → deepest (take t ds) cs ≡ deepest ds cs
unfolding deepest
deepest-take ds t [] h = refl
deepest-take ds t (c ∷ cs) (more l h) = rw (get_or-take t ds c 0 l, deepest-take ds t cs h)

deepest-bounds : (ds : List ℕ) (cs : List ℕ) → Each (λ c. get_or ds c 0 ≤ deepest ds cs) cs
unfolding deepest
deepest-bounds ds [] = done
deepest-bounds ds (c ∷ cs) = more {x = c} {xs = cs} (omega arith) (each-imply (λ x h. omega arith) (deepest-bounds ds cs))

-- a type's depth is one above its deepest child's
depth_is : (T : Tables) (t : ℕ) → t < length T.types → Each (λ c. c < t) (child_types (type_at T t)) → depth T t ≡ 1 + deepest (depths T) (child_types (type_at T t))
unfolding depth depths depth_of type_at
depth_is T t h lower =
    rw (zero-add t) at (at_place depth_of [] T.types t 0 Ty.Int h)
    ∙ ap (λ d. 1 + d) (deepest-take (bottom_up depth_of [] T.types) t (child_types (get_or T.types t Ty.Int)) lower)

depths-length : (T : Tables) → length (depths T) ≡ length T.types
unfolding depths
depths-length T = let r = extends depth_of [] T.types in ap length r.1 ∙ r.2

lower-children : (T : Tables) → Passed T → (t : ℕ) → t < length T.types → Each (λ c. c < t) (child_types (type_at T t))
unfolding children_lower type_at
lower-children T k t h =
    each-imply (λ c e. ltb-lt c t e)
    (each-passes (λ c. ltb c t) (child_types (type_at T t))
    (rw (zero-add t) at (all_from_at 0 (λ n ty. all (λ c. ltb c n) (child_types ty)) T.types t Ty.Int (both_left (all_from 0 (λ n ty. all (λ c. ltb c n) (child_types ty)) T.types) _ k.lower) h)))

-- 8, section by section
pub record NumbersIn (T : Tables) : Type 0 where
  pub types : Each (λ ty. type_in T ty ≡ true) T.types
  pub predicates : Each (λ p. predicate_in T p ≡ true) T.predicates
  pub nodes : Each (λ node. node_in T node ≡ true) T.nodes
  pub bindings : Each (λ b. binding_in T b ≡ true) T.bindings
  pub hoisted : Each (λ h. hoisted_in T h ≡ true) T.hoisted
  pub constraints : Each (λ c. constraint_in T c ≡ true) T.constraints
  pub comparisons : Each (λ c. comparison_in T c ≡ true) T.comparisons
  pub levels : Each (λ l. level_in T l ≡ true) T.levels

pub numbers-in : (T : Tables) → Passed T → NumbersIn T
unfolding numbers_in
numbers-in T k =
    let b = both_right (all (type_in T) T.types) _ k.numbers in
    let c = both_right (all (predicate_in T) T.predicates) _ b in
    let d = both_right (all (node_in T) T.nodes) _ c in
    let e = both_right (all (binding_in T) T.bindings) _ d in
    let f = both_right (all (hoisted_in T) T.hoisted) _ e in
    let g = both_right (all (constraint_in T) T.constraints) _ f in
    record {
      types = each-passes (type_in T) T.types (both_left (all (type_in T) T.types) _ k.numbers);
      predicates = each-passes (predicate_in T) T.predicates (both_left (all (predicate_in T) T.predicates) _ b);
      nodes = each-passes (node_in T) T.nodes (both_left (all (node_in T) T.nodes) _ c);
      bindings = each-passes (binding_in T) T.bindings (both_left (all (binding_in T) T.bindings) _ d);
      hoisted = each-passes (hoisted_in T) T.hoisted (both_left (all (hoisted_in T) T.hoisted) _ e);
      constraints = each-passes (constraint_in T) T.constraints (both_left (all (constraint_in T) T.constraints) _ f);
      comparisons = each-passes (comparison_in T) T.comparisons (both_left (all (comparison_in T) T.comparisons) _ g);
      levels = each-passes (level_in T) T.levels (both_right (all (comparison_in T) T.comparisons) _ g);
    }

fact-in : (T : Tables) (ty : Ty) (p : ℕ) → type_in T ty ≡ true → fact_ty ty ≡ Some p → p < length T.predicates
unfolding type_in fact_ty is_predicate
fact-in T Ty.Int p h e = absurd (some≢none p (sym e))
fact-in T Ty.Str p h e = absurd (some≢none p (sym e))
fact-in T Ty.Bytes p h e = absurd (some≢none p (sym e))
fact-in T (Ty.Fact q) p h e = subst (λ x. x < length T.predicates) (some-injective q p e) (ltb-lt _ _ h)
fact-in T (Ty.Record fs) p h e = absurd (some≢none p (sym e))
fact-in T (Ty.Union alts) p h e = absurd (some≢none p (sym e))

row_in : (T : Tables) (p : Option ℕ) (q : ℕ) → none_or (is_predicate T) p ≡ true → p ≡ Some q → q < length T.predicates
unfolding none_or is_predicate
row_in T None q h e = absurd (some≢none q (sym e))
row_in T (Some x) q h e = subst (λ y. y < length T.predicates) (some-injective x q e) (ltb-lt _ _ h)

slot_ok : (T : Tables) (s : Slot) → slot_in T s ≡ true → slot_fits T s ≡ true → SlotOk T s
unfolding slot_in slot_fits is_type
slot_ok T (Slot.Row a p) h f = λ q e. row_in T p q h e
slot_ok T (Slot.Key a t) h f = ltb-lt _ _ h
slot_ok T (Slot.Derived a) h f = tt
slot_ok T (Slot.Field a p t) h f = record { in-types = ltb-lt _ _ h; short = leb-le _ _ f }
slot_ok T (Slot.Value a t) h f = tt
slot_ok T (Slot.Const n) h f = tt

pub sound : (T : Tables) → Passed T → Sound T
unfolding predicate_in binding_in level_in paths_fit types_shallow is_type is_predicate predicate_at type_at depth
sound T k =
    record {
      children = λ t h. each_both (λ c l d. record { lower = l; in-types = omega arith; less-deep = omega (arith, depth_is T t h (lower-children T k t h)) }) (lower-children T k t h) (deepest-bounds (depths T) (child_types (type_at T t)));
      facts = λ t p h e. fact-in T (type_at T t) p (each_at n.types t Ty.Int h) e;
      keys = λ p h. ltb-lt _ _ (both_left (is_type T (predicate_at T p).key) _ (each_at n.predicates p (record { key = 0; value = None }) h));
      positive = λ t h. omega (arith, depth_is T t h (lower-children T k t h));
      shallow = λ t h. leb-le _ _ (each_at (each-passes (λ d. leb d depth_limit) (depths T) k.shallow) t 0 (rw (depths-length T) h));
      bindings = each_both (λ b g f. slot_ok T b.slot (both_right (is_name T b.name) _ g) f) n.bindings (each-passes (λ b. slot_fits T b.slot) T.bindings (both_left (all (λ b. slot_fits T b.slot) T.bindings) _ k.paths));
      levels = each-imply (λ l e. ltb-lt _ _ (both_left (is_predicate T l.predicate) _ e)) n.levels;
    }
  where
    n : NumbersIn T
    n = numbers-in T k
