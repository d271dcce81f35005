-- The filled index, and what the checks 11, 13 and 14 read in it.
use Prim.Native.Nat.{ℕ, ◌+◌, ◌-◌, ◌*◌, ◌≤◌, ◌<◌, max}
use mathlib.Core.Path.{◌≡◌, refl, sym, ap, ap₂, ◌∙◌, subst}
use mathlib.Core.Bool.{Bool, true, false}
use mathlib.Core.List.{List, ◌∷◌}
use native.Mathlib.Omega.{arith}
use native.Mathlib.Nat.{zero-add}
use lib.Dec.{ltb, leb, eqb, lit<}
use lib.ListN.{length, get_or, set, take, drop, get_or-map, length-map}
use lib.Seq.{sets, length-sets, get_or-take, get_or-drop, take_all}
use borrow.Author.Tests.{ltb-true, le-leb, lt-leb, eq-eqb, ne_eqb}
use Rattle.rules.specs.Base.{both, all}
use Rattle.rules.specs.Limits.{depth_limit, step_limit}
use Rattle.rules.specs.File as File
use Rattle.rules.specs.File.{Tables, type_at, node_at, deepest, depth_of, depths, depth, constant_of, constants}
use Rattle.rules.specs.Read.{Reader}
use Rattle.rules.specs.Checks.{is_name, is_type, is_node, type_in, predicate_in, node_in, slot_in, binding_in, numbers_in, children_lower, types_shallow, slot_constant, consts_constant, slot_fits}
use Rattle.file.specs.Steps.{word, base_of, limit_of, depths_base, constants_base, index_length}
use Rattle.file.specs.Tables.{Indexed, Section, Stands, tables_of}
use Rattle.file.proofs.Readers.{down}
use Rattle.file.proofs.Sections.{roomy}
use Rattle.file.proofs.Accepted.{sets_below}
use Rattle.views.specs.Views.{run, long, byte_at, path_at, binding_at, fetched_at, slot_viewed, SlotInside, SeenBinding, SeenFetched}
use Rattle.views.specs.declared.BindingView.{BindingView}
use Rattle.views.specs.declared.FetchedView.{FetchedView}
use Rattle.views.specs.declared.SlotView.{SlotView}
use Rattle.views.specs.declared.SlotView.TheVariants as Sv
use Rattle.views.proofs.Runs.{length_run}
use Rattle.paths.specs.declared.Address.{Address}
use Rattle.record_checks.proofs.Every.{every, if-both, both-inv, every-at, all-every, run-every}
use Rattle.record_checks.proofs.Seen.{bindings-in-every, by-slot}
use Rattle.checks.specs.Checked.{bit_of, flags_at, flags_of, slots_fit, fetched_fit}
use Rattle.checks.proofs.Bottom.{store-next, stored_at, depth-agree, constant-agree, depths-long, constants-long, depths-entry, constants-entry, depth-bound, type-lower, node-lower}

-- stores past the sections' areas leave the index of the records
section-above : {A : Type 0} {f ix jx : List ℕ} {r : Reader A} {xs : List A} (s : ℕ) → s < 10 → ((j : ℕ) → j < 4682 → get_or jx j 0 ≡ get_or ix j 0) → Section f ix s r xs → Section f jx s r xs
section-above {A} {f} {ix} {jx} {r} {xs} s h g x =
    record {
      count = g (base_of s) (omega (arith, roomy s h)) ∙ x.count;
      under = x.under;
      record-at = λ t d k.
          let e : get_or jx (base_of s + 1 + t) 0 ≡ get_or ix (base_of s + 1 + t) 0 = g (base_of s + 1 + t) (omega (arith, roomy s h, x.under)) in
          subst (λ (a : ℕ). Stands f r a (get_or xs t d)) (sym e) (x.record-at t d k);
    }

pub indexed-sets : (f ix vs : List ℕ) (b : ℕ) → 4682 ≤ b → Indexed f ix → Indexed f (sets ix b vs)
indexed-sets f ix vs b h x =
    record {
      small = x.small;
      long = omega (arith, length-sets ix b vs, x.long);
      accepted = x.accepted;
      names = section-above 0 (lit< tt) g x.names;
      types = section-above 1 (lit< tt) g x.types;
      predicates = section-above 2 (lit< tt) g x.predicates;
      nodes = section-above 3 (lit< tt) g x.nodes;
      bindings = section-above 4 (lit< tt) g x.bindings;
      hoisted = section-above 5 (lit< tt) g x.hoisted;
      fetched = section-above 6 (lit< tt) g x.fetched;
      constraints = section-above 7 (lit< tt) g x.constraints;
      comparisons = section-above 8 (lit< tt) g x.comparisons;
      levels = section-above 9 (lit< tt) g x.levels;
    }
  where
    g : (j : ℕ) → j < 4682 → get_or (sets ix b vs) j 0 ≡ get_or ix j 0
    g j k = sets_below vs ix b j 0 (omega arith)

-- how many names, types, nodes and bindings there may be
pub names-few : (f ix : List ℕ) → Indexed f ix → length (tables_of f).names ≤ 512
unfolding limit_of
names-few f ix x = x.names.under

pub bindings-few : (f ix : List ℕ) → Indexed f ix → length (tables_of f).bindings ≤ 256
unfolding limit_of
bindings-few f ix x = x.bindings.under

pub types-few : (f ix : List ℕ) → Indexed f ix → length (tables_of f).types ≤ 512
unfolding limit_of
types-few f ix x = x.types.under

pub nodes-few : (f ix : List ℕ) → Indexed f ix → length (tables_of f).nodes ≤ 2048
unfolding limit_of
nodes-few f ix x = x.nodes.under

-- the children of a run, one after another
module _ (g : ℕ → ℕ) (w n q : ℕ) (h : 0 < n) where
  run_is : run g w n q ≡ g q ∷ run g w (n - 1) (q + w)
  unfolding run
  run_is = ap (λ (k : ℕ). run g w k q) (down n h)

  pub run-low : (t : ℕ) → all (λ c. ltb c t) (run g w n q) ≡ true → (g q < t) × (all (λ c. ltb c t) (run g w (n - 1) (q + w)) ≡ true)
  unfolding all
  run-low t e =
      let b = both-inv (ltb (g q) t) (all (λ c. ltb c t) (run g w (n - 1) (q + w))) (sym (if-both (ltb (g q) t) (all (λ c. ltb c t) (run g w (n - 1) (q + w)))) ∙ ap (all (λ c. ltb c t)) (sym run_is) ∙ e) in
      (ltb-true (g q) t b.0, b.1)

  pub deepest-run : (ds : List ℕ) → deepest ds (run g w n q) ≡ max (get_or ds (g q) 0) (deepest ds (run g w (n - 1) (q + w)))
  unfolding deepest
  deepest-run ds = ap (deepest ds) run_is

pub deepest-turn : (f ix : List ℕ) (w n q c d k m : ℕ) → 0 < n → c ≡ word f q → d ≡ get_or ix (depths_base + c) 0 → m ≡ max k d
    → max k (deepest (drop depths_base ix) (run (word f) w n q)) ≡ max m (deepest (drop depths_base ix) (run (word f) w (n - 1) (q + w)))
deepest-turn f ix w n q c d k m h ec ed em =
    let e : get_or (drop depths_base ix) (word f q) 0 ≡ d = get_or-drop depths_base ix (word f q) 0 ∙ ap (λ (j : ℕ). get_or ix (depths_base + j) 0) (sym ec) ∙ sym ed in
    omega (arith, deepest-run (word f) w n q h (drop depths_base ix), e)

deepest-none : (ds : List ℕ) (g : ℕ → ℕ) (w n q : ℕ) → n ≡ 0 → deepest ds (run g w n q) ≡ 0
unfolding deepest run
deepest-none ds g w n q h = rw h

pub deepest-end : (ds : List ℕ) (g : ℕ → ℕ) (w n q k : ℕ) → n ≡ 0 → max k (deepest ds (run g w n q)) ≡ k
deepest-end ds g w n q k h = omega (arith, deepest-none ds g w n q h)

-- flags
pub flag_at : (ix : List ℕ) (c : ℕ) → get_or (flags_at ix) c false ≡ eqb (get_or ix (constants_base + c) 0) 1
unfolding flags_at
flag_at ix c = get_or-map (λ x. eqb x 1) (drop constants_base ix) c 0 ∙ ap (λ (x : ℕ). eqb x 1) (get_or-drop constants_base ix c 0)

pub flag-yes : (ix : List ℕ) (c k w : ℕ) → c ≡ w → k ≡ get_or ix (constants_base + c) 0 → k ≡ 1 → get_or (flags_at ix) w false ≡ true
flag-yes ix c k w e g h = flag_at ix w ∙ eq-eqb _ _ (ap (λ (j : ℕ). get_or ix (constants_base + j) 0) (sym e) ∙ sym g ∙ h)

pub flag-no : (ix : List ℕ) (c k w : ℕ) → c ≡ w → k ≡ get_or ix (constants_base + c) 0 → (k ≡ 1 → ⊥) → get_or (flags_at ix) w false ≡ false
flag-no ix c k w e g h = flag_at ix w ∙ ne_eqb _ _ (λ z. h (g ∙ ap (λ (j : ℕ). get_or ix (constants_base + j) 0) e ∙ z))

pub bit-true : (b : Bool) → eqb (bit_of b) 1 ≡ b
bit-true true = refl
bit-true false = refl

-- the areas while they are filled
module _ (T : Tables) (ix : List ℕ) (lower : children_lower T ≡ true) where
  pub depth-here : (t : ℕ) → t < length T.types → length T.types ≤ 512 → index_length ≤ length ix → depth_of (drop depths_base (sets ix depths_base (take t (depths T)))) (type_at T t) ≡ get_or (depths T) t 0
  depth-here t h few long =
      let l = depths-long T in
      depth-agree t (drop depths_base (sets ix depths_base (take t (depths T)))) (take t (depths T)) (type_at T t) (λ c k. stored_at (depths T) ix depths_base t c (omega arith) (omega arith) k) (type-lower T lower t h)
      ∙ sym (depths-entry T t h)

  pub flags_long : length (flags_of T) ≡ length T.nodes
  unfolding flags_of
  flags_long = length-map (constants T) bit_of ∙ constants-long T

  pub flags-get : (c : ℕ) → get_or (flags_of T) c 0 ≡ bit_of (get_or (constants T) c false)
  unfolding flags_of
  flags-get c = get_or-map bit_of (constants T) c false

  flag-here : (n c : ℕ) → n ≤ length T.nodes → length T.nodes ≤ 2048 → index_length ≤ length ix → c < n → get_or (flags_at (sets ix constants_base (take n (flags_of T)))) c false ≡ get_or (take n (constants T)) c false
  flag-here n c h few long k =
      let l = flags_long in
      flag_at (sets ix constants_base (take n (flags_of T))) c
      ∙ ap (λ (x : ℕ). eqb x 1) (sym (get_or-drop constants_base (sets ix constants_base (take n (flags_of T))) c 0) ∙ stored_at (flags_of T) ix constants_base n c (omega arith) (omega arith) k ∙ get_or-take n (flags_of T) c 0 k ∙ flags-get c)
      ∙ bit-true (get_or (constants T) c false) ∙ sym (get_or-take n (constants T) c false k)

  pub constant-here : (n : ℕ) → n < length T.nodes → length T.nodes ≤ 2048 → index_length ≤ length ix → constant_of (flags_at (sets ix constants_base (take n (flags_of T)))) (node_at T n) ≡ get_or (constants T) n false
  constant-here n h few long =
      let g : n ≤ length T.nodes = omega arith in
      constant-agree n (flags_at (sets ix constants_base (take n (flags_of T)))) (take n (constants T)) (node_at T n) (λ c k. flag-here n c g few long k) (node-lower T lower n h)
      ∙ sym (constants-entry T n h)

  pub flag-next : (n v : ℕ) (b : Bool) → n < length T.nodes → length T.nodes ≤ 2048 → index_length ≤ length ix → v ≡ bit_of b → b ≡ constant_of (flags_at (sets ix constants_base (take n (flags_of T)))) (node_at T n)
      → set (sets ix constants_base (take n (flags_of T))) (constants_base + n) v ≡ sets ix constants_base (take (n + 1) (flags_of T))
  flag-next n v b h few long ev eb =
      let l = flags_long in
      store-next (flags_of T) ix constants_base n (omega arith) v (ev ∙ ap bit_of (eb ∙ constant-here n h few long) ∙ sym (flags-get n))

  pub depth-next : (t v : ℕ) → t < length T.types → length T.types ≤ 512 → index_length ≤ length ix → v ≡ depth_of (drop depths_base (sets ix depths_base (take t (depths T)))) (type_at T t)
      → set (sets ix depths_base (take t (depths T))) (depths_base + t) v ≡ sets ix depths_base (take (t + 1) (depths T))
  depth-next t v h few long e =
      let l = depths-long T in
      store-next (depths T) ix depths_base t (omega arith) v (e ∙ depth-here t h few long)

  pub depth_small : (t v : ℕ) → t < length T.types → length T.types ≤ 512 → index_length ≤ length ix → v ≡ depth_of (drop depths_base (sets ix depths_base (take t (depths T)))) (type_at T t) → v ≤ 512
  depth_small t v h few long e = omega (arith, e ∙ depth-here t h few long, depth-bound T t h)

  pub depths-done : (t : ℕ) → length T.types ≤ t → sets ix depths_base (take t (depths T)) ≡ sets ix depths_base (depths T)
  depths-done t h = ap (sets ix depths_base) (take_all t (depths T) (omega (arith, depths-long T)))

  pub flags-done : (n : ℕ) → length T.nodes ≤ n → sets ix constants_base (take n (flags_of T)) ≡ sets ix constants_base (flags_of T)
  flags-done n h = ap (sets ix constants_base) (take_all n (flags_of T) (omega (arith, flags_long)))

-- 11, 13 and 14 over all numbers
module _ (T : Tables) where
  pub shallow-every : types_shallow T ≡ every (λ t. leb (depth T t) depth_limit) (length T.types) 0
  unfolding types_shallow depth
  shallow-every = all-every (λ d. leb d depth_limit) (λ t. leb (depth T t) depth_limit) 0 (depths T) (λ k g. refl) ∙ ap (λ (n : ℕ). every (λ t. leb (depth T t) depth_limit) n 0) (depths-long T)

  pub consts-every : consts_constant T ≡ every (λ b. slot_constant T (binding_at T b).slot) (length T.bindings) 0
  unfolding consts_constant binding_at
  consts-every = all-every (λ b. slot_constant T b.slot) _ _ T.bindings (λ k g. refl)

  pub slots-every : slots_fit T ≡ every (λ b. slot_fits T (binding_at T b).slot) (length T.bindings) 0
  unfolding slots_fit binding_at
  slots-every = all-every (λ b. slot_fits T b.slot) _ _ T.bindings (λ k g. refl)

  pub fetched-every : fetched_fit T ≡ every (λ k. leb (length (fetched_at T k).path.steps) step_limit) (length T.fetched) 0
  unfolding fetched_fit fetched_at
  fetched-every = all-every (λ f. leb (length f.path.steps) step_limit) _ _ T.fetched (λ k g. refl)

  -- 8 at one binding
  module _ (e : numbers_in T ≡ true) (b : ℕ) (h : b < length T.bindings) where
    binding-in : both (is_name T (binding_at T b).name) (slot_in T (binding_at T b).slot) ≡ true
    unfolding numbers_in binding_in
    binding-in =
        let p = (both-inv (all (type_in T) T.types) _ e).1 in
        let n = (both-inv (all (predicate_in T) T.predicates) _ p).1 in
        let s = (both-inv (all (node_in T) T.nodes) _ n).1 in
        ap (λ (k : ℕ). binding_in T (binding_at T k)) (sym (zero-add b))
        ∙ every-at (λ k. binding_in T (binding_at T k)) (length T.bindings) 0 b (sym (bindings-in-every T) ∙ (both-inv (all (binding_in T) T.bindings) _ s).0) h

    pub slot-in : slot_in T (binding_at T b).slot ≡ true
    slot-in = (both-inv (is_name T (binding_at T b).name) (slot_in T (binding_at T b).slot) binding-in).1

    pub name_in : (binding_at T b).name < length T.names
    unfolding is_name
    name_in = ltb-true _ _ (both-inv (is_name T (binding_at T b).name) (slot_in T (binding_at T b).slot) binding-in).0

module _ (T : Tables) (f : List ℕ) (b : File.Binding) (v : BindingView) (s : SeenBinding f b v) where
  pub slot-inside : (w : SlotView) → v.slot ≡ w → SlotInside f w
  slot-inside w e = subst (λ (u : SlotView). SlotInside f u) e s.inside

  pub const-node : (n : ℕ) → v.slot ≡ Sv.Const n → slot_in T b.slot ≡ true → n < length T.nodes
  unfolding slot_in is_node
  const-node n e g = ltb-true n (length T.nodes) (by-slot (slot_in T) s e ∙ g)

  pub field-type : (a : Address) (at t : ℕ) → v.slot ≡ Sv.Field a at t → slot_in T b.slot ≡ true → t < length T.types
  unfolding slot_in is_type
  field-type a at t e g = ltb-true t (length T.types) (by-slot (slot_in T) s e ∙ g)

  pub fits-field : (a : Address) (at t x y : ℕ) → v.slot ≡ Sv.Field a at t → x ≡ get_or f (at + 2) 0 → y ≡ depth T t → leb (x + y) depth_limit ≡ slot_fits T b.slot
  unfolding slot_fits path_at byte_at
  fits-field a at t x y e ex ey =
      ap₂ (λ (i j : ℕ). leb (i + j) depth_limit) (ex ∙ sym (length_run (long f) 4 (get_or f (at + 2) 0) (at + 3))) ey ∙ by-slot (slot_fits T) s e

pub depth-few : (f ix : List ℕ) → Indexed f ix → (t d : ℕ) → t < length (tables_of f).types → d ≡ depth (tables_of f) t → d ≤ 512
unfolding depth
depth-few f ix x t d h e = omega (arith, e, depth-bound (tables_of f) t h, types-few f ix x)

pub name-few : (f ix : List ℕ) → Indexed f ix → numbers_in (tables_of f) ≡ true → (b x : ℕ) → b < length (tables_of f).bindings → x ≡ (binding_at (tables_of f) b).name → x < 512
name-few f ix i e b x h q = omega (arith, q, name_in (tables_of f) e b h, names-few f ix i)

pub fetched-steps : (f : List ℕ) (e : File.Fetched) (v : FetchedView) → SeenFetched f e v → length e.path.steps ≡ get_or f (v.path + 2) 0
unfolding path_at byte_at
fetched-steps f e v s = ap (λ (x : File.Fetched). length x.path.steps) (sym s.is) ∙ length_run (long f) 4 (get_or f (v.path + 2) 0) (v.path + 3)

pub steps_low : (k n b : ℕ) → n ≡ k → k ≤ b → leb n b ≡ true
steps_low k n b e h = ap (λ (j : ℕ). leb j b) e ∙ le-leb k b h

pub steps_high : (k n b : ℕ) → n ≡ k → b < k → leb n b ≡ false
steps_high k n b e h = ap (λ (j : ℕ). leb j b) e ∙ lt-leb k b h

-- the same for an index jx that is known to be so far
module _ (T : Tables) (ix jx : List ℕ) (lower : children_lower T ≡ true) (long : index_length ≤ length ix) where
  pub depth-stored : (t v : ℕ) → t < length T.types → length T.types ≤ 512 → jx ≡ sets ix depths_base (take t (depths T)) → v ≡ depth_of (drop depths_base jx) (type_at T t)
      → (set jx (depths_base + t) v ≡ sets ix depths_base (take (t + 1) (depths T))) × (v ≤ 512)
  depth-stored t v h few e g =
      let g' : v ≡ depth_of (drop depths_base (sets ix depths_base (take t (depths T)))) (type_at T t) = g ∙ ap (λ (l : List ℕ). depth_of (drop depths_base l) (type_at T t)) e in
      (ap (λ (l : List ℕ). set l (depths_base + t) v) e ∙ depth-next T ix lower t v h few long g', depth_small T ix lower t v h few long g')

  pub flag-stored : (n v : ℕ) (b : Bool) → n < length T.nodes → length T.nodes ≤ 2048 → jx ≡ sets ix constants_base (take n (flags_of T)) → v ≡ bit_of b → b ≡ constant_of (flags_at jx) (node_at T n)
      → set jx (constants_base + n) v ≡ sets ix constants_base (take (n + 1) (flags_of T))
  flag-stored n v b h few e ev eb =
      ap (λ (l : List ℕ). set l (constants_base + n) v) e ∙ flag-next T ix lower n v b h few long ev (eb ∙ ap (λ (l : List ℕ). constant_of (flags_at l) (node_at T n)) e)

pub indexed-so : (f ix jx vs : List ℕ) (b : ℕ) → 4682 ≤ b → jx ≡ sets ix b vs → Indexed f ix → Indexed f jx
indexed-so f ix jx vs b h e x = subst (Indexed f) (sym e) (indexed-sets f ix vs b h x)

-- each number of a run is low where all are
pub low-at : (g : ℕ → ℕ) (w n q t : ℕ) → all (λ c. ltb c t) (run g w n q) ≡ true → (k : ℕ) → k < n → g (q + w * k) < t
low-at g w n q t e k h =
    ltb-true (g (q + w * k)) t
    (ap (λ (j : ℕ). ltb (g (q + w * j)) t) (sym (zero-add k))
    ∙ every-at (λ j. ltb (g (q + w * j)) t) n 0 k (sym (run-every (λ c. ltb c t) g w n q) ∙ e) h)

-- slots of none of the variants that a check looks at
module _ (T : Tables) (f : List ℕ) where
  pub constant-slots : (v : SlotView) → ((n : ℕ) → v ≡ Sv.Const n → ⊥) → true ≡ slot_constant T (slot_viewed f v)
  unfolding slot_constant
  constant-slots (Sv.Row a p) h = refl
  constant-slots (Sv.Key a t) h = refl
  constant-slots (Sv.Derived a) h = refl
  constant-slots (Sv.Field a at t) h = refl
  constant-slots (Sv.Value a t) h = refl
  constant-slots (Sv.Const n) h = absurd (h n refl)

  pub fit-slots : (v : SlotView) → ((a : Address) (at t : ℕ) → v ≡ Sv.Field a at t → ⊥) → true ≡ slot_fits T (slot_viewed f v)
  unfolding slot_fits
  fit-slots (Sv.Row a p) h = refl
  fit-slots (Sv.Key a t) h = refl
  fit-slots (Sv.Derived a) h = refl
  fit-slots (Sv.Field a at t) h = absurd (h a at t refl)
  fit-slots (Sv.Value a t) h = refl
  fit-slots (Sv.Const n) h = refl
