-- What is computed bottom up: the depths of the types and the constancy of the nodes.
use Prim.Native.Nat.{ℕ, zero, suc, ◌+◌, ◌≤◌, ◌<◌, max}
use mathlib.Core.Path.{◌≡◌, refl, sym, ap, ap₂, ◌∙◌, subst}
use mathlib.Core.Bool.{Bool, true, false}
use mathlib.Core.List.{List, [], ◌∷◌, ◌++◌, map}
use mathlib.Core.Logic.{⊎_elim}
use native.Mathlib.Omega.{arith}
use native.Mathlib.Nat.{add-zero, zero-add}
use native.Mathlib.Numerals.{add-one}
use lib.Dec.{ltb}
use lib.ListN.{length, get_or, set, take, drop, length-append, get_or-eq_default}
use lib.Seq.{sets, get_or-take, get_or-drop, take-suc, take-append_seam, get_or-append_seam, length-take-le, take-take, take_all}
use borrow.Author.Tests.{ltb-true}
use Rattle.rules.specs.Base.{both, all, bottom_up}
use Rattle.rules.specs.File.{Tables, Ty, Node, type_at, node_at, child_types, child_nodes, deepest, depth_of, depths, constant_of, constants}
use Rattle.rules.specs.Checks.{children_lower}
use Rattle.file.proofs.Readers.{lt-or-le}
use Rattle.file.proofs.Accepted.{sets-in}
use Rattle.record_checks.proofs.Every.{if-both, both-inv, every-at}
use Rattle.record_checks.proofs.Seen.{types-lower-every, nodes-lower-every}

module _ {A B : Type 0} (f : List B → A → B) (d : B) (a : A) where
  bottom-length : (l : List A) (done : List B) → length (bottom_up f done l) ≡ length done + length l
  unfolding bottom_up
  bottom-length [] done = sym (add-zero (length done))
  bottom-length (x ∷ l) done = bottom-length l (done ++ (f done x ∷ [])) ∙ ap (λ (k : ℕ). k + length l) (length-append done (f done x ∷ [])) ∙ shift (length done) (length l)
    where
      shift : (m n : ℕ) → m + 1 + n ≡ m + suc n
      shift m n = omega arith

  bottom-take : (l : List A) (done : List B) → take (length done) (bottom_up f done l) ≡ done
  unfolding bottom_up
  bottom-take [] done = take_all (length done) done (le-self (length done))
    where
      le-self : (n : ℕ) → n ≤ n
      le-self n = omega arith
  bottom-take (x ∷ l) done =
      let more : List B = done ++ (f done x ∷ []) in
      let h : length done ≤ length more = omega (arith, length-append done (f done x ∷ [])) in
      sym (take-take (length done) (length more) (bottom_up f more l) h) ∙ ap (take (length done)) (bottom-take l more) ∙ take-append_seam done (f done x ∷ [])

  bottom-at : (l : List A) (done : List B) (k : ℕ) → k < length l → get_or (bottom_up f done l) (length done + k) d ≡ f (take (length done + k) (bottom_up f done l)) (get_or l k a)
  unfolding bottom_up
  bottom-at [] done k h = absurd (omega arith)
  bottom-at (x ∷ l) done zero h =
      let more : List B = done ++ (f done x ∷ []) in
      let g : length done < length more = omega (arith, length-append done (f done x ∷ [])) in
      rw (add-zero (length done))
      (sym (get_or-take (length more) (bottom_up f more l) (length done) d g) ∙ ap (λ (r : List B). get_or r (length done) d) (bottom-take l more) ∙ get_or-append_seam done (f done x) [] d
      ∙ ap (λ (r : List B). f r x) (sym (bottom-take (x ∷ l) done)))
  bottom-at (x ∷ l) done (suc k) h =
      let more : List B = done ++ (f done x ∷ []) in
      let e : length done + suc k ≡ length more + k = omega (arith, length-append done (f done x ∷ [])) in
      rw e (bottom-at l more k (omega arith))

  -- what entry k gives
  pub bottom-entry : (l : List A) (k : ℕ) → k < length l → get_or (bottom_up f [] l) k d ≡ f (take k (bottom_up f [] l)) (get_or l k a)
  bottom-entry l k h = subst (λ (j : ℕ). get_or (bottom_up f [] l) j d ≡ f (take j (bottom_up f [] l)) (get_or l k a)) (zero-add k) (bottom-at l [] k h)

  pub bottom-long : (l : List A) → length (bottom_up f [] l) ≡ length l
  bottom-long l = bottom-length l [] ∙ zero-add (length l)

-- one more store at the end of a run
sets-snoc : (vs l : List ℕ) (b v : ℕ) → sets l b (vs ++ (v ∷ [])) ≡ set (sets l b vs) (b + length vs) v
sets-snoc [] l b v = ap (λ (k : ℕ). set l k v) (sym (add-zero b))
sets-snoc (x ∷ vs) l b v =
    let e : suc b + length vs ≡ b + suc (length vs) = omega arith in
    sets-snoc vs (set l b x) (suc b) v ∙ ap (λ (k : ℕ). set (sets (set l b x) (suc b) vs) k v) e

module _ (D l : List ℕ) (b t : ℕ) (h : t < length D) where
  pub store-next : (v : ℕ) → v ≡ get_or D t 0 → set (sets l b (take t D)) (b + t) v ≡ sets l b (take (t + 1) D)
  store-next v e =
      let g : t ≤ length D = omega arith in
      let m : b + length (take t D) ≡ b + t = ap (λ (k : ℕ). b + k) (length-take-le t D g) in
      ap (λ (k : ℕ). set (sets l b (take t D)) (b + t) k) e ∙ ap (λ (k : ℕ). set (sets l b (take t D)) k (get_or D t 0)) (sym m) ∙ sym (sets-snoc (take t D) l b (get_or D t 0))
      ∙ ap (sets l b) (sym (take-suc D t 0 h)) ∙ ap (λ (k : ℕ). sets l b (take k D)) (sym (add-one t))

pub stored_at : (D l : List ℕ) (b t c : ℕ) → t ≤ length D → b + length D ≤ length l → c < t → get_or (drop b (sets l b (take t D))) c 0 ≡ get_or (take t D) c 0
stored_at D l b t c h g k =
    let m : length (take t D) ≡ t = length-take-le t D h in
    get_or-drop b (sets l b (take t D)) c 0 ∙ sets-in (take t D) l b c 0 (omega arith) (omega arith)

-- the children of a list of numbers below t see only entries below t
module _ (t : ℕ) where
  child-low : (c : ℕ) (cs : List ℕ) → all (λ k. ltb k t) (c ∷ cs) ≡ true → (c < t) × (all (λ k. ltb k t) cs ≡ true)
  unfolding all
  child-low c cs e = let b = both-inv (ltb c t) (all (λ k. ltb k t) cs) (sym (if-both (ltb c t) (all (λ k. ltb k t) cs)) ∙ e) in (ltb-true c t b.0, b.1)

  pub deepest-agree : (ds es cs : List ℕ) → ((c : ℕ) → c < t → get_or ds c 0 ≡ get_or es c 0) → all (λ k. ltb k t) cs ≡ true → deepest ds cs ≡ deepest es cs
  unfolding deepest
  deepest-agree ds es [] h e = refl
  deepest-agree ds es (c ∷ cs) h e = let l = child-low c cs e in ap₂ max (h c l.0) (deepest-agree ds es cs h l.1)

  pub all-agree : (ds es : List Bool) (cs : List ℕ) → ((c : ℕ) → c < t → get_or ds c false ≡ get_or es c false) → all (λ k. ltb k t) cs ≡ true → all (λ c. get_or ds c false) cs ≡ all (λ c. get_or es c false) cs
  unfolding all
  all-agree ds es [] h e = refl
  all-agree ds es (c ∷ cs) h e =
      let l = child-low c cs e in
      if-both (get_or ds c false) (all (λ j. get_or ds j false) cs) ∙ ap₂ both (h c l.0) (all-agree ds es cs h l.1) ∙ sym (if-both (get_or es c false) (all (λ j. get_or es j false) cs))

pub all_map : {A : Type 0} (g : A → ℕ) (p : ℕ → Bool) (l : List A) → all (λ x. p (g x)) l ≡ all p (map g l)
unfolding all
all_map g p [] = refl
all_map g p (x ∷ l) = if-both (p (g x)) (all (λ y. p (g y)) l) ∙ ap (both (p (g x))) (all_map g p l) ∙ sym (if-both (p (g x)) (all p (map g l)))

pub depth-agree : (t : ℕ) (ds es : List ℕ) (ty : Ty) → ((c : ℕ) → c < t → get_or ds c 0 ≡ get_or es c 0) → all (λ k. ltb k t) (child_types ty) ≡ true → depth_of ds ty ≡ depth_of es ty
unfolding depth_of
depth-agree t ds es ty h e = ap (λ (k : ℕ). 1 + k) (deepest-agree t ds es (child_types ty) h e)

pub constant-agree : (t : ℕ) (ds es : List Bool) (nd : Node) → ((c : ℕ) → c < t → get_or ds c false ≡ get_or es c false) → all (λ k. ltb k t) (child_nodes nd) ≡ true → constant_of ds nd ≡ constant_of es nd
unfolding constant_of child_nodes
constant-agree t ds es (Node.Int bytes) h e = refl
constant-agree t ds es (Node.Str x) h e = refl
constant-agree t ds es (Node.Bytes bytes) h e = refl
constant-agree t ds es (Node.Var x) h e = refl
constant-agree t ds es Node.Wildcard h e = refl
constant-agree t ds es Node.Never h e = refl
constant-agree t ds es (Node.Prefix x) h e = refl
constant-agree t ds es (Node.Fuzzy x d a) h e = refl
constant-agree t ds es (Node.Record fs) h e =
    all_map (λ f. f.node) (λ c. get_or ds c false) fs ∙ all-agree t ds es (map (λ f. f.node) fs) h e ∙ sym (all_map (λ f. f.node) (λ c. get_or es c false) fs)
constant-agree t ds es (Node.Access x n) h e = refl
constant-agree t ds es (Node.Value n) h e = refl
constant-agree t ds es (Node.Select x n) h e = refl
constant-agree t ds es Node.Disjunction h e = refl
constant-agree t ds es Node.Subquery h e = refl
constant-agree t ds es (Node.Fact p n) h e = refl
constant-agree t ds es Node.Arith h e = refl
constant-agree t ds es Node.Error h e = refl

module _ (T : Tables) where
  pub depths-long : length (depths T) ≡ length T.types
  unfolding depths
  depths-long = bottom-long depth_of 0 Ty.Int T.types

  pub constants-long : length (constants T) ≡ length T.nodes
  unfolding constants
  constants-long = bottom-long constant_of false Node.Error T.nodes

  pub depths-entry : (t : ℕ) → t < length T.types → get_or (depths T) t 0 ≡ depth_of (take t (depths T)) (type_at T t)
  unfolding depths type_at
  depths-entry t h = bottom-entry depth_of 0 Ty.Int T.types t h

  pub constants-entry : (n : ℕ) → n < length T.nodes → get_or (constants T) n false ≡ constant_of (take n (constants T)) (node_at T n)
  unfolding constants node_at
  constants-entry n h = bottom-entry constant_of false Node.Error T.nodes n h

  -- 9 at one type, at one node
  pub type-lower : children_lower T ≡ true → (t : ℕ) → t < length T.types → all (λ c. ltb c t) (child_types (type_at T t)) ≡ true
  unfolding children_lower
  type-lower e t h =
      ap (λ (k : ℕ). all (λ c. ltb c k) (child_types (type_at T k))) (sym (zero-add t))
      ∙ every-at _ (length T.types) 0 t (sym (types-lower-every T) ∙ (both-inv _ _ e).0) h

  pub node-lower : children_lower T ≡ true → (n : ℕ) → n < length T.nodes → all (λ c. ltb c n) (child_nodes (node_at T n)) ≡ true
  unfolding children_lower
  node-lower e n h =
      ap (λ (k : ℕ). all (λ c. ltb c k) (child_nodes (node_at T k))) (sym (zero-add n))
      ∙ every-at _ (length T.nodes) 0 n (sym (nodes-lower-every T) ∙ (both-inv _ _ e).1) h

  -- no type is deeper than its number allows
  deepest-bound : (ds cs : List ℕ) (b : ℕ) → ((c : ℕ) → get_or ds c 0 ≤ b) → deepest ds cs ≤ b
  unfolding deepest
  deepest-bound ds [] b h = omega arith
  deepest-bound ds (c ∷ cs) b h = omega (arith, h c, deepest-bound ds cs b h)

  depth-bound-below : (n t : ℕ) → t < n → t < length T.types → get_or (depths T) t 0 ≤ t + 1
  unfolding depth_of
  depth-bound-below zero t g h = absurd (omega arith)
  depth-bound-below (suc n) t g h = omega (arith, depths-entry t h, deepest-bound (take t (depths T)) (child_types (type_at T t)) t (λ c. entry c (λ k. depth-bound-below n c (omega arith) (omega arith))))
    where
      entry : (c : ℕ) → (c < t → get_or (depths T) c 0 ≤ c + 1) → get_or (take t (depths T)) c 0 ≤ t
      entry c rec = ⊎_elim (λ k. omega (arith, get_or-take t (depths T) c 0 k, rec k)) (λ k. omega (arith, get_or-eq_default (take t (depths T)) 0 (long c k))) (lt-or-le c t)
        where
          long : (c : ℕ) → t ≤ c → length (take t (depths T)) ≤ c
          long c k = let m : t ≤ length (depths T) = omega (arith, depths-long) in omega (arith, length-take-le t (depths T) m)

  pub depth-bound : (t : ℕ) → t < length T.types → get_or (depths T) t 0 ≤ t + 1
  depth-bound t h = depth-bound-below (suc t) t (omega arith) h
