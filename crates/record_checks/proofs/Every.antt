-- Tests over all elements of a list, one after another: what the loops go by.
use Prim.Native.Nat.{ℕ, zero, suc, ◌+◌, ◌*◌, ◌-◌, ◌≤◌, ◌<◌}
use mathlib.Core.Path.{◌≡◌, refl, sym, ap, ap₂, ◌∙◌}
use mathlib.Core.Bool.{Bool, true, false}
use mathlib.Core.List.{List, [], ◌∷◌, map}
use native.Mathlib.Omega.{arith}
use native.Mathlib.Nat.{add-zero, zero-add}
use native.Mathlib.Numerals.{add-one}
use lib.Dec.{ltb, eqb}
use lib.ListN.{length, get_or}
use borrow.Author.Tests.{lt-ltb, le-ltb, eq-eqb, ne_eqb}
use Rattle.std.specs.Prelude.{Option, None, Some}
use Rattle.std.specs.List.{list_all, range_with_len}
use Rattle.rules.specs.Base.{both, all, all_from, first, distinct}
use Rattle.file.specs.Steps.{word}
use Rattle.views.specs.Views.{run, long}
use Rattle.record_checks.specs.RecordChecks.{Words, pairs_in, number_at, among}

-- n numbers from t on pass
unfoldable pub every : (ℕ → Bool) → ℕ → ℕ → Bool
every q zero t = true
every q (suc n) t = both (q t) (every q n (suc t))

pub if-both : (b c : Bool) → elim b as (λ _. Bool) [ true ↦ c | false ↦ false ] ≡ both b c
if-both true c = refl
if-both false c = refl

pub both-no : (b c : Bool) → c ≡ false → both b c ≡ false
both-no true c e = e
both-no false c e = refl

pub both_false : (b c : Bool) → b ≡ false → both b c ≡ false
both_false b c e = ap (λ (d : Bool). both d c) e

pub both-then : (b c : Bool) → b ≡ true → both b c ≡ c
both-then b c e = ap (λ (d : Bool). both d c) e

-- v is what `a && r` gives: r if a holds, else a itself
pub and-then : (x y : Bool) {v a r : Bool} → a ≡ x → a ≡ true → v ≡ r → r ≡ y → v ≡ both x y
and-then x y e t h g = h ∙ g ∙ sym (both-then x y (sym e ∙ t))

pub and-else : (x y : Bool) {v a : Bool} → a ≡ x → a ≡ false → v ≡ a → v ≡ both x y
and-else x y e t h = h ∙ t ∙ sym (both_false x y (sym e ∙ t))

-- a number that was read is the file's
pub word_low : (k w b : ℕ) → k ≡ w → k < b → ltb w b ≡ true
word_low k w b e h = ap (λ (j : ℕ). ltb j b) (sym e) ∙ lt-ltb k b h

pub word-high : (k w b : ℕ) → k ≡ w → b ≤ k → ltb w b ≡ false
word-high k w b e h = ap (λ (j : ℕ). ltb j b) (sym e) ∙ le-ltb k b h

pub number-long : (f : List ℕ) (b : Bool) (p k : ℕ) → b ≡ true → k ≡ long f p → k ≡ number_at f b p
number-long f b p k e g = g ∙ ap (λ (c : Bool). number_at f c p) (sym e)

pub number_short : (f : List ℕ) (b : Bool) (p k : ℕ) → b ≡ false → k ≡ word f p → k ≡ number_at f b p
number_short f b p k e g = g ∙ ap (λ (c : Bool). number_at f c p) (sym e)

pub among-as : (k x : ℕ) (l : List ℕ) → k ≡ x → among x l ≡ among k l
among-as k x l e = ap (λ (j : ℕ). among j l) (sym e)

pub both-inv : (b c : Bool) → both b c ≡ true → (b ≡ true) × (c ≡ true)
both-inv true c e = (refl, e)
both-inv false c e = let z : ◌≡◌ {A = ℕ} 0 1 = cc in absurd (omega arith)

-- the same of the list of these numbers, as an iterator's `all` has it
pub every-list : (q : ℕ → Bool) (n t : ℕ) → list_all q (range_with_len t n) ≡ every q n t
unfolding every
every-list q zero t = refl
every-list q (suc n) t = grind (arith, every-list q n (suc t))

module _ (q : ℕ → Bool) where
  pub every-none : (n t : ℕ) → n ≡ 0 → every q n t ≡ true
  unfolding every
  every-none n t h = rw h

  every-suc : (n m t : ℕ) → n ≡ m + 1 → every q n t ≡ both (q t) (every q m (t + 1))
  unfolding every
  every-suc n m t h = ap (λ (k : ℕ). every q k t) (h ∙ add-one m) ∙ ap (λ (k : ℕ). both (q t) (every q m k)) (sym (add-one t))

  pub every-yes : (n m t : ℕ) → n ≡ m + 1 → q t ≡ true → every q n t ≡ every q m (t + 1)
  every-yes n m t h e = every-suc n m t h ∙ ap (λ (b : Bool). both b (every q m (t + 1))) e

  pub every-no : (n t : ℕ) → 0 < n → q t ≡ false → every q n t ≡ false
  every-no n t h e = every-suc n (n - 1) t (omega arith) ∙ ap (λ (b : Bool). both b (every q (n - 1) (t + 1))) e

  pub every-at : (n t k : ℕ) → every q n t ≡ true → k < n → q (t + k) ≡ true
  unfolding every
  every-at zero t k e h = absurd (omega arith)
  every-at (suc n) t zero e h = ap q (add-zero t) ∙ (both-inv (q t) (every q n (suc t)) e).0
  every-at (suc n) t (suc k) e h =
      let i : t + suc k ≡ suc t + k = omega arith in
      ap q i ∙ every-at n (suc t) k (both-inv (q t) (every q n (suc t)) e).1 (omega arith)

-- a list's elements by their numbers
module _ {A : Type 0} (p : ℕ → A → Bool) (q : ℕ → Bool) (d : A) where
  from-every : (s : ℕ) (l : List A) → ((k : ℕ) → k < length l → q (s + k) ≡ p (s + k) (get_or l k d)) → all_from s p l ≡ every q (length l) s
  unfolding every all_from
  from-every s [] h = refl
  from-every s (x ∷ l) h =
      let z : q s ≡ p s x = ap q (sym (add-zero s)) ∙ h 0 (omega arith) ∙ ap (λ (k : ℕ). p k x) (add-zero s) in
      if-both (p s x) (all_from (suc s) p l) ∙ ap (λ (b : Bool). both b (all_from (suc s) p l)) (sym z)
      ∙ ap (both (q s)) (from-every (suc s) l (λ k g. let i : suc s + k ≡ s + suc k = omega arith in ap q i ∙ h (suc k) (omega arith) ∙ ap (λ (j : ℕ). p j (get_or l k d)) (sym i)))

  pub all_from-every : (l : List A) → ((k : ℕ) → k < length l → q k ≡ p k (get_or l k d)) → all_from 0 p l ≡ every q (length l) 0
  all_from-every l h = from-every 0 l (λ k g. ap q (zero-add k) ∙ h k g ∙ ap (λ (j : ℕ). p j (get_or l k d)) (sym (zero-add k)))

all-from : {A : Type 0} (p : A → Bool) (s : ℕ) (l : List A) → all p l ≡ all_from s (λ _. p) l
unfolding all all_from
all-from p s [] = refl
all-from p s (x ∷ l) = if-both (p x) (all p l) ∙ ap (both (p x)) (all-from p (suc s) l) ∙ sym (if-both (p x) (all_from (suc s) (λ _. p) l))

pub all-every : {A : Type 0} (p : A → Bool) (q : ℕ → Bool) (d : A) (l : List A) → ((k : ℕ) → k < length l → q k ≡ p (get_or l k d)) → all p l ≡ every q (length l) 0
all-every p q d l h = all-from p 0 l ∙ all_from-every (λ _. p) q d l h

-- over a run
module _ {A : Type 0} (p : A → Bool) (g : ℕ → A) (w : ℕ) where
  all-run : (n q : ℕ) → 0 < n → all p (run g w n q) ≡ both (p (g q)) (all p (run g w (n - 1) (q + w)))
  unfolding all run
  all-run n q h = ap (λ (k : ℕ). all p (run g w k q)) (down n h) ∙ if-both (p (g q)) (all p (run g w (n - 1) (q + w)))
    where
      down : (n : ℕ) → 0 < n → n ≡ suc (n - 1)
      down n h = omega arith

  pub run-done : (n q : ℕ) → n ≡ 0 → all p (run g w n q) ≡ true
  unfolding all run
  run-done n q h = rw h

  pub run-yes : (n q : ℕ) → 0 < n → p (g q) ≡ true → all p (run g w n q) ≡ all p (run g w (n - 1) (q + w))
  run-yes n q h e = all-run n q h ∙ ap (λ (b : Bool). both b (all p (run g w (n - 1) (q + w)))) e

  pub run-no : (n q : ℕ) → 0 < n → p (g q) ≡ false → all p (run g w n q) ≡ false
  run-no n q h e = all-run n q h ∙ ap (λ (b : Bool). both b (all p (run g w (n - 1) (q + w)))) e

-- the numbers of a run lie within the file, one after another
pub product-down : (w n : ℕ) → 0 < n → w * n ≡ w + w * (n - 1)
product-down w n h =
    let e : n ≡ suc (n - 1) = omega arith in
    ap (λ (k : ℕ). w * k) e ∙ times-suc w (n - 1)
  where
    times-suc : (w m : ℕ) → w * suc m ≡ w + w * m
    times-suc w m = omega arith

module _ (f : List ℕ) (b w n p : ℕ) (x : Words f b w n p) where
  pub words-first : 0 < n → p + b ≤ length f
  words-first h = omega (arith, product-down w n h, x.inside)

  pub words-next : 0 < n → Words f b w (n - 1) (p + w)
  words-next h = record { small = x.small; stride = x.stride; inside = omega (arith, product-down w n h, x.inside) }

  -- from number k on
  pub words-from : (k : ℕ) → k ≤ n → Words f b w (n - k) (p + w * k)
  words-from k h =
      let e : n ≡ k + (n - k) = omega arith in
      record { small = x.small; stride = x.stride; inside = omega (arith, ap (λ (m : ℕ). w * m) e ∙ split w k (n - k), x.inside) }
    where
      split : (w k m : ℕ) → w * (k + m) ≡ w * k + w * m
      split w k m = omega arith

module _ {f : List ℕ} {b w n p : ℕ} (x : Words f b w n p) (k : ℕ) (h : k < n) where
  pub words-at : p + w * k + b ≤ length f
  words-at = words-first f b w (n - k) (p + w * k) (words-from f b w n p x k (omega arith)) (omega arith)

  pub words-after : Words f b w (n - k - 1) (p + w * k + w)
  words-after = words-next f b w (n - k) (p + w * k) (words-from f b w n p x k (omega arith)) (omega arith)

-- what a loop over a run has left, at first and after number k
module _ {X : Type 0} (F : ℕ → ℕ → X) (w n p : ℕ) where
  pub left-first : F n p ≡ F (n - 0) (p + w * 0)
  left-first = ap₂ F (omega arith) (omega arith)

  pub left-next : (k : ℕ) → F (n - k - 1) (p + w * k + w) ≡ F (n - (k + 1)) (p + w * (k + 1))
  left-next k = ap₂ F (omega arith) (omega arith)

-- a test of all numbers of a run, as an iterator has it
all-from-list : {A : Type 0} (p : A → Bool) (g : ℕ → A) (w q n t : ℕ) → list_all (λ k. p (g (q + w * k))) (range_with_len t n) ≡ all p (run g w n (q + w * t))
unfolding all run
all-from-list p g w q zero t = refl
all-from-list p g w q (suc n) t =
    let i : q + w * suc t ≡ q + w * t + w = omega arith in
    ap (both (p (g (q + w * t)))) (ap (λ (j : ℕ). list_all (λ k. p (g (q + w * k))) (range_with_len j n)) (add-one t) ∙ all-from-list p g w q n (suc t) ∙ ap (λ (j : ℕ). all p (run g w n j)) i)
    ∙ sym (if-both (p (g (q + w * t))) (all p (run g w n (q + w * t + w))))

pub run-every : {A : Type 0} (p : A → Bool) (g : ℕ → A) (w n q : ℕ) → all p (run g w n q) ≡ every (λ k. p (g (q + w * k))) n 0
run-every p g w n q =
    ap (λ (j : ℕ). all p (run g w n j)) (omega arith) ∙ sym (all-from-list p g w q n 0) ∙ every-list (λ k. p (g (q + w * k))) n 0

-- pairs of a name and a number
pub pairs-law : {A : Type 0} (f : List ℕ) (w behind a b : ℕ) (g : ℕ → A) (name number : A → ℕ) → ((p : ℕ) → name (g p) ≡ word f p) → ((p : ℕ) → number (g p) ≡ word f (p + behind))
    → (n p : ℕ) → all (λ x. both (ltb (name x) a) (ltb (number x) b)) (run g w n p) ≡ pairs_in f w n p a behind b
unfolding pairs_in all run
pairs-law f w behind a b g name number hn hm zero p = refl
pairs-law f w behind a b g name number hn hm (suc n) p =
    let i : p + w + behind ≡ p + behind + w = omega arith in
    if-both (both (ltb (name (g p)) a) (ltb (number (g p)) b)) (all (λ x. both (ltb (name x) a) (ltb (number x) b)) (run g w n (p + w)))
    ∙ ap₂ (λ (j k : ℕ). both (both (ltb j a) (ltb k b)) (all (λ x. both (ltb (name x) a) (ltb (number x) b)) (run g w n (p + w)))) (hn p) (hm p)
    ∙ ap (both (both (ltb (word f p) a) (ltb (word f (p + behind)) b))) (pairs-law f w behind a b g name number hn hm n (p + w))
    ∙ ap (λ (k : ℕ). both (both (ltb (word f p) a) (ltb (word f (p + behind)) b)) (both (all (λ c. ltb c a) (run (word f) w n (p + w))) (all (λ c. ltb c b) (run (word f) w n k)))) i
    ∙ swap (ltb (word f p) a) (ltb (word f (p + behind)) b) (all (λ c. ltb c a) (run (word f) w n (p + w))) (all (λ c. ltb c b) (run (word f) w n (p + behind + w)))
  where
    swap : (x y u v : Bool) → both (both x y) (both u v) ≡ both (elim x as (λ _. Bool) [ true ↦ u | false ↦ false ]) (elim y as (λ _. Bool) [ true ↦ v | false ↦ false ])
    swap true true u v = refl
    swap true false u v = sym (both-no u false refl)
    swap false true u v = refl
    swap false false u v = refl

-- what the numbers of a run's elements are
pub run-map : {A : Type 0} (f : List ℕ) (w behind : ℕ) (g : ℕ → A) (number : A → ℕ) (at : ℕ → ℕ) → ((p : ℕ) → number (g p) ≡ at (p + behind)) → (n p : ℕ) → map number (run g w n p) ≡ run at w n (p + behind)
unfolding run
run-map f w behind g number at h zero p = refl
run-map f w behind g number at h (suc n) p =
    let i : p + w + behind ≡ p + behind + w = omega arith in
    ap (λ (k : ℕ). k ∷ map number (run g w n (p + w))) (h p) ∙ ap (λ (l : List ℕ). at (p + behind) ∷ l) (run-map f w behind g number at h n (p + w) ∙ ap (run at w n) i)

-- a number among others, and numbers that all differ
module _ (g : ℕ → ℕ) (w : ℕ) where
  down' : (n : ℕ) → 0 < n → n ≡ suc (n - 1)
  down' n h = omega arith

  pub among_none : (x n q : ℕ) → n ≡ 0 → among x (run g w n q) ≡ false
  unfolding among first run
  among_none x n q h = rw h

  among-run : (x n q : ℕ) → 0 < n → among x (run g w n q) ≡ elim (eqb x (g q)) as (λ _. Bool) [ true ↦ true | false ↦ among x (run g w (n - 1) (q + w)) ]
  unfolding among first run
  among-run x n q h = ap (λ (k : ℕ). among x (run g w k q)) (down' n h) ∙ go (eqb x (g q))
    where
      go : (b : Bool) → ◌≡◌ {A = Bool} (elim (elim b as (λ _. Option ℕ) [ true ↦ Some (g q) | false ↦ first (eqb x) (run g w (n - 1) (q + w)) ]) as (λ _. Bool) [ None ↦ false | Some y ↦ true ])
          (elim b as (λ _. Bool) [ true ↦ true | false ↦ elim (first (eqb x) (run g w (n - 1) (q + w))) as (λ _. Bool) [ None ↦ false | Some y ↦ true ] ])
      go true = refl
      go false = refl

  pub among-here : (x n q : ℕ) → 0 < n → g q ≡ x → among x (run g w n q) ≡ true
  among-here x n q h e = among-run x n q h ∙ ap (λ (b : Bool). elim b as (λ _. Bool) [ true ↦ true | false ↦ among x (run g w (n - 1) (q + w)) ]) (eq-eqb x (g q) (sym e))

  pub among_later : (x n q : ℕ) → 0 < n → (g q ≡ x → ⊥) → among x (run g w n q) ≡ among x (run g w (n - 1) (q + w))
  among_later x n q h e = among-run x n q h ∙ ap (λ (b : Bool). elim b as (λ _. Bool) [ true ↦ true | false ↦ among x (run g w (n - 1) (q + w)) ]) (ne_eqb x (g q) (λ z. e (sym z)))

  pub distinct_none : (n q : ℕ) → n ≡ 0 → distinct (run g w n q) ≡ true
  unfolding distinct run
  distinct_none n q h = rw h

  distinct-run : (n q : ℕ) → 0 < n → distinct (run g w n q) ≡ elim (among (g q) (run g w (n - 1) (q + w))) as (λ _. Bool) [ true ↦ false | false ↦ distinct (run g w (n - 1) (q + w)) ]
  unfolding distinct among run
  distinct-run n q h = ap (λ (k : ℕ). distinct (run g w k q)) (down' n h) ∙ go (first (eqb (g q)) (run g w (n - 1) (q + w)))
    where
      go : (o : Option ℕ) → ◌≡◌ {A = Bool} (elim o as (λ _. Bool) [ None ↦ distinct (run g w (n - 1) (q + w)) | Some y ↦ false ])
          (elim (elim o as (λ _. Bool) [ None ↦ false | Some y ↦ true ]) as (λ _. Bool) [ true ↦ false | false ↦ distinct (run g w (n - 1) (q + w)) ])
      go None = refl
      go (Some y) = refl

  pub distinct_more : (n q : ℕ) → 0 < n → among (g q) (run g w (n - 1) (q + w)) ≡ false → distinct (run g w n q) ≡ distinct (run g w (n - 1) (q + w))
  distinct_more n q h e = distinct-run n q h ∙ ap (λ (b : Bool). elim b as (λ _. Bool) [ true ↦ false | false ↦ distinct (run g w (n - 1) (q + w)) ]) e

  pub distinct-stop : (n q : ℕ) → 0 < n → among (g q) (run g w (n - 1) (q + w)) ≡ true → distinct (run g w n q) ≡ false
  distinct-stop n q h e = distinct-run n q h ∙ ap (λ (b : Bool). elim b as (λ _. Bool) [ true ↦ false | false ↦ distinct (run g w (n - 1) (q + w)) ]) e
