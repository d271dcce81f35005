-- 12: marks, one after another, tell whether all children differ.
use Prim.Native.Nat.{ℕ, zero, suc, ◌+◌, ◌-◌, ◌≤◌, ◌<◌}
use mathlib.Core.Path.{◌≡◌, refl, sym, ap, ap₂, ◌∙◌}
use mathlib.Core.Bool.{Bool, true, false}
use mathlib.Core.List.{List, [], ◌∷◌, ◌++◌}
use mathlib.Core.Logic.{⊎_elim, ◌⊎◌, inl, inr}
use native.Mathlib.Omega.{arith}
use native.Mathlib.Numerals.{add-one}
use lib.Dec.{ltb, eqb}
use lib.ListN.{length, get_or, set, drop, replicate, length-set, drop_of_length-le, length-replicate}
use lib.Seq.{drop-cons}
use borrow.Author.Tests.{ltb-true, lt-ltb, eq-eqb, ne_eqb, eqb-true, eqb-false}
use Rattle.rules.specs.Base.{both, all, concat_map}
use Rattle.rules.specs.File.{Tables, Node, node_at, child_nodes}
use Rattle.rules.specs.Checks.{children_lower, children_once}
use Rattle.file.proofs.Readers.{down}
use Rattle.views.specs.Views.{run}
use Rattle.record_checks.proofs.Every.{if-both, both-inv}
use Rattle.record_checks.proofs.Marks.{fresh, fresh-none, fresh-more, fresh-stop, fresh-zeros}
use Rattle.checks.specs.Checked.{once, marked}
use Rattle.checks.proofs.Bottom.{node-lower}

zero_or_not : (n : ℕ) → (eqb n 0 ≡ true) ⊎ (eqb n 0 ≡ false)
zero_or_not n = go (eqb n 0)
  where
    go : (b : Bool) → (b ≡ true) ⊎ (b ≡ false)
    go true = inl refl
    go false = inr refl

module _ (m : List ℕ) (c : ℕ) (l : List ℕ) where
  pub first-met : get_or m c 0 ≡ 0 → (once m (c ∷ l) ≡ once (set m c 1) l) × (marked m (c ∷ l) ≡ marked (set m c 1) l)
  unfolding once marked
  first-met e = (simp (once, eq-eqb _ _ e), simp (marked, eq-eqb _ _ e))

  pub met-again : (get_or m c 0 ≡ 0 → ⊥) → (once m (c ∷ l) ≡ false) × (marked m (c ∷ l) ≡ m)
  unfolding once marked
  met-again e = (simp (once, ne_eqb _ _ e), simp (marked, ne_eqb _ _ e))

pub once-none : (m : List ℕ) → once m [] ≡ true
unfolding once
once-none m = refl

pub marked-none : (m : List ℕ) → marked m [] ≡ m
unfolding marked
marked-none m = refl

-- children in two lots
append-yes : (xs ys m : List ℕ) → once m xs ≡ true → (once m (xs ++ ys) ≡ once (marked m xs) ys) × (marked m (xs ++ ys) ≡ marked (marked m xs) ys)
append-yes [] ys m e = (ap (λ (k : List ℕ). once k ys) (sym (marked-none m)), ap (λ (k : List ℕ). marked k ys) (sym (marked-none m)))
append-yes (c ∷ xs) ys m e = ⊎_elim (λ z. yes_of (append-yes xs ys (set m c 1)) z) (λ z. no_of z) (zero_or_not (get_or m c 0))
  where
    yes_of : (once (set m c 1) xs ≡ true → (once (set m c 1) (xs ++ ys) ≡ once (marked (set m c 1) xs) ys) × (marked (set m c 1) (xs ++ ys) ≡ marked (marked (set m c 1) xs) ys)) → eqb (get_or m c 0) 0 ≡ true
        → (once m (c ∷ (xs ++ ys)) ≡ once (marked m (c ∷ xs)) ys) × (marked m (c ∷ (xs ++ ys)) ≡ marked (marked m (c ∷ xs)) ys)
    yes_of rec z =
        let h = eqb-true (get_or m c 0) 0 z in
        let f = first-met m c xs h in
        let g = first-met m c (xs ++ ys) h in
        let r = rec (sym f.0 ∙ e) in
        (g.0 ∙ r.0 ∙ ap (λ (k : List ℕ). once k ys) (sym f.1), g.1 ∙ r.1 ∙ ap (λ (k : List ℕ). marked k ys) (sym f.1))

    no_of : eqb (get_or m c 0) 0 ≡ false → (once m (c ∷ (xs ++ ys)) ≡ once (marked m (c ∷ xs)) ys) × (marked m (c ∷ (xs ++ ys)) ≡ marked (marked m (c ∷ xs)) ys)
    no_of z = let q : false ≡ true = sym (met-again m c xs (eqb-false (get_or m c 0) 0 z)).0 ∙ e in let w : ◌≡◌ {A = ℕ} 0 1 = cc in absurd (omega arith)

append-no : (xs ys m : List ℕ) → once m xs ≡ false → (once m (xs ++ ys) ≡ false) × (marked m (xs ++ ys) ≡ marked m xs)
append-no [] ys m e = let q : true ≡ false = sym (once-none m) ∙ e in let w : ◌≡◌ {A = ℕ} 0 1 = cc in absurd (omega arith)
append-no (c ∷ xs) ys m e = ⊎_elim (λ z. yes_of (append-no xs ys (set m c 1)) z) (λ z. no_of z) (zero_or_not (get_or m c 0))
  where
    yes_of : (once (set m c 1) xs ≡ false → (once (set m c 1) (xs ++ ys) ≡ false) × (marked (set m c 1) (xs ++ ys) ≡ marked (set m c 1) xs)) → eqb (get_or m c 0) 0 ≡ true
        → (once m (c ∷ (xs ++ ys)) ≡ false) × (marked m (c ∷ (xs ++ ys)) ≡ marked m (c ∷ xs))
    yes_of rec z =
        let h = eqb-true (get_or m c 0) 0 z in
        let f = first-met m c xs h in
        let g = first-met m c (xs ++ ys) h in
        let r = rec (sym f.0 ∙ e) in
        (g.0 ∙ r.0, g.1 ∙ r.1 ∙ sym f.1)

    no_of : eqb (get_or m c 0) 0 ≡ false → (once m (c ∷ (xs ++ ys)) ≡ false) × (marked m (c ∷ (xs ++ ys)) ≡ marked m (c ∷ xs))
    no_of z =
        let n = eqb-false (get_or m c 0) 0 z in
        ((met-again m c (xs ++ ys) n).0, (met-again m c (xs ++ ys) n).1 ∙ sym (met-again m c xs n).1)

-- the loop over a run of children
module _ (g : ℕ → ℕ) (w n q : ℕ) (m m' : List ℕ) where
  run_none : n ≡ 0 → run g w n q ≡ []
  unfolding run
  run_none h = rw h

  run_is : 0 < n → run g w n q ≡ (g q ∷ []) ++ run g w (n - 1) (q + w)
  unfolding run
  run_is h = ap (λ (k : ℕ). run g w k q) (down n h)

  pub run_end : n ≡ 0 → (once m (run g w n q) ≡ true) × (marked m (run g w n q) ≡ m)
  run_end h = (ap (once m) (run_none h) ∙ once-none m, ap (marked m) (run_none h) ∙ marked-none m)

  pub run_on : (c : ℕ) → 0 < n → c ≡ g q → once m (c ∷ []) ≡ true → m' ≡ marked m (c ∷ []) → (once m (run g w n q) ≡ once m' (run g w (n - 1) (q + w))) × (marked m (run g w n q) ≡ marked m' (run g w (n - 1) (q + w)))
  run_on c h e o k =
      let l : List ℕ = run g w (n - 1) (q + w) in
      let a = append-yes (g q ∷ []) l m (ap (λ (j : ℕ). once m (j ∷ [])) (sym e) ∙ o) in
      let z : marked m (g q ∷ []) ≡ m' = ap (λ (j : ℕ). marked m (j ∷ [])) (sym e) ∙ sym k in
      (ap (once m) (run_is h) ∙ a.0 ∙ ap (λ (j : List ℕ). once j l) z, ap (marked m) (run_is h) ∙ a.1 ∙ ap (λ (j : List ℕ). marked j l) z)

  pub run-stop : (c : ℕ) → 0 < n → c ≡ g q → once m (c ∷ []) ≡ false → m' ≡ marked m (c ∷ []) → (once m (run g w n q) ≡ false) × (marked m (run g w n q) ≡ m')
  run-stop c h e o k =
      let l : List ℕ = run g w (n - 1) (q + w) in
      let a = append-no (g q ∷ []) l m (ap (λ (j : ℕ). once m (j ∷ [])) (sym e) ∙ o) in
      let z : marked m (g q ∷ []) ≡ m' = ap (λ (j : ℕ). marked m (j ∷ [])) (sym e) ∙ sym k in
      (ap (once m) (run_is h) ∙ a.0, ap (marked m) (run_is h) ∙ a.1 ∙ z)

-- the loop over the nodes
module _ (T : Tables) (m m' : List ℕ) (n : ℕ) where
  abbrev pub later : ℕ → List ℕ
  later k = concat_map child_nodes (drop k T.nodes)

  later-is : n < length T.nodes → later n ≡ child_nodes (node_at T n) ++ later (n + 1)
  unfolding concat_map node_at
  later-is h = ap (concat_map child_nodes) (drop-cons T.nodes n Node.Error h) ∙ ap (λ (k : ℕ). child_nodes (get_or T.nodes n Node.Error) ++ concat_map child_nodes (drop k T.nodes)) (sym (add-one n))

  pub nodes-end : length T.nodes ≤ n → (once m (later n) ≡ true) × (marked m (later n) ≡ m)
  unfolding concat_map
  nodes-end h =
      let e : later n ≡ [] = ap (concat_map child_nodes) (drop_of_length-le T.nodes h) in
      (ap (once m) e ∙ once-none m, ap (marked m) e ∙ marked-none m)

  pub nodes-on : n < length T.nodes → once m (child_nodes (node_at T n)) ≡ true → m' ≡ marked m (child_nodes (node_at T n)) → (once m (later n) ≡ once m' (later (n + 1))) × (marked m (later n) ≡ marked m' (later (n + 1)))
  nodes-on h o k =
      let a = append-yes (child_nodes (node_at T n)) (later (n + 1)) m o in
      (ap (once m) (later-is h) ∙ a.0 ∙ ap (λ (j : List ℕ). once j (later (n + 1))) (sym k), ap (marked m) (later-is h) ∙ a.1 ∙ ap (λ (j : List ℕ). marked j (later (n + 1))) (sym k))

  pub nodes-stop : n < length T.nodes → once m (child_nodes (node_at T n)) ≡ false → m' ≡ marked m (child_nodes (node_at T n)) → (once m (later n) ≡ false) × (marked m (later n) ≡ m')
  nodes-stop h o k =
      let a = append-no (child_nodes (node_at T n)) (later (n + 1)) m o in
      (ap (once m) (later-is h) ∙ a.0, ap (marked m) (later-is h) ∙ a.1 ∙ sym k)

pub length_marked : (l m : List ℕ) → length (marked m l) ≡ length m
length_marked [] m = ap length (marked-none m)
length_marked (c ∷ l) m =
    ⊎_elim (λ z. ap length (first-met m c l (eqb-true (get_or m c 0) 0 z)).1 ∙ length_marked l (set m c 1) ∙ length-set m c 1) (λ z. ap length (met-again m c l (eqb-false (get_or m c 0) 0 z)).1)
    (zero_or_not (get_or m c 0))

-- marks tell what `distinct` tells
once_is : (l m : List ℕ) → all (λ c. ltb c (length m)) l ≡ true → once m l ≡ fresh m l
unfolding all
once_is [] m e = once-none m ∙ sym (fresh-none m)
once_is (c ∷ l) m e =
    let b = both-inv (ltb c (length m)) (all (λ k. ltb k (length m)) l) (sym (if-both (ltb c (length m)) (all (λ k. ltb k (length m)) l)) ∙ e) in
    let h : c < length m = ltb-true c (length m) b.0 in
    let r : all (λ k. ltb k (length (set m c 1))) l ≡ true = ap (λ (n : ℕ). all (λ k. ltb k n) l) (length-set m c 1) ∙ b.1 in
    ⊎_elim (λ z. let k = eqb-true (get_or m c 0) 0 z in (first-met m c l k).0 ∙ once_is l (set m c 1) r ∙ sym (fresh-more m c l h k))
    (λ z. let k = eqb-false (get_or m c 0) 0 z in (met-again m c l k).0 ∙ sym (fresh-stop m c l k)) (zero_or_not (get_or m c 0))

-- 9 keeps all children below the marks
all_append : (p : ℕ → Bool) (xs ys : List ℕ) → all p xs ≡ true → all p ys ≡ true → all p (xs ++ ys) ≡ true
unfolding all
all_append p [] ys e g = g
all_append p (x ∷ xs) ys e g =
    let b = both-inv (p x) (all p xs) (sym (if-both (p x) (all p xs)) ∙ e) in
    if-both (p x) (all p (xs ++ ys)) ∙ ap₂ both b.0 (all_append p xs ys b.1 g)

pub all-below : (n m : ℕ) (xs : List ℕ) → n ≤ m → all (λ c. ltb c n) xs ≡ true → all (λ c. ltb c m) xs ≡ true
unfolding all
all-below n m [] h e = refl
all-below n m (x ∷ xs) h e =
    let b = both-inv (ltb x n) (all (λ c. ltb c n) xs) (sym (if-both (ltb x n) (all (λ c. ltb c n) xs)) ∙ e) in
    let k : x < m = omega (arith, ltb-true x n b.0) in
    if-both (ltb x m) (all (λ c. ltb c m) xs) ∙ ap₂ both (lt-ltb x m k) (all-below n m xs h b.1)

module _ (T : Tables) (lower : children_lower T ≡ true) where
  pub child-marks : (n size : ℕ) → n < length T.nodes → length T.nodes ≤ size → all (λ c. ltb c size) (child_nodes (node_at T n)) ≡ true
  child-marks n size h g = all-below n size (child_nodes (node_at T n)) (omega arith) (node-lower T lower n h)

  all-children : (size k n : ℕ) → n + k ≡ length T.nodes → length T.nodes ≤ size → all (λ c. ltb c size) (concat_map child_nodes (drop n T.nodes)) ≡ true
  unfolding all concat_map
  all-children size zero n h g = let k : length T.nodes ≤ n = omega arith in ap (λ (l : List Node). all (λ c. ltb c size) (concat_map child_nodes l)) (drop_of_length-le T.nodes k)
  all-children size (suc k) n h g =
      let l : n < length T.nodes = omega arith in
      ap (all (λ c. ltb c size)) (later-is T [] [] n l) ∙ all_append (λ c. ltb c size) (child_nodes (node_at T n)) (concat_map child_nodes (drop (n + 1) T.nodes)) (child-marks n size l g) (all-children size k (n + 1) (omega arith) g)

  pub marks-tell : (size : ℕ) → length T.nodes ≤ size → once (replicate {A = ℕ} size 0) (concat_map child_nodes T.nodes) ≡ children_once T
  unfolding children_once
  marks-tell size g =
      let l : List ℕ = concat_map child_nodes T.nodes in
      let e : all (λ c. ltb c (length (replicate {A = ℕ} size 0))) l ≡ true = ap (λ (n : ℕ). all (λ c. ltb c n) l) (length-replicate {A = ℕ} size 0) ∙ all-children size (length T.nodes) 0 (omega arith) g in
      once_is l (replicate {A = ℕ} size 0) e ∙ sym (fresh-zeros size l)
