-- The forms of the plan that have a loop: a path's steps.
use mathlib.Core.Path.{◌≡◌, refl, sym, ap, ◌∙◌}
use mathlib.Core.List.{List, [], ◌∷◌, ◌++◌}
use Prim.Native.Nat.{ℕ, suc, ◌+◌, ◌*◌, ◌-◌, ◌%◌, ◌≤◌, ◌<◌, min}
use native.Mathlib.Nat.{sub-zero}
use native.Mathlib.Numerals.{add-one}
use native.Mathlib.Omega.{arith}
use lib.ListN.{length, get_or, take, drop}
use lib.Seq.{drop-cons, length-take-le, take_all}
use Rattle.rules.specs.Base.{concat_map}
use Rattle.rules.specs.File as File
use Rattle.rules.specs.Limits.{step_limit}
use Rattle.rules.specs.Plan as Plan
use Rattle.rules.specs.Plan.{u16, u32}
use Rattle.rules.proofs.Cases.{by_order}
use Rattle.paths.specs.Paths.{path_of}
use Rattle.paths.specs.declared.FieldPath.{FieldPath}
use Rattle.records.specs.Records.{put, cut}
use Rattle.records.proofs.Stores.{put-none, put-append, next}

-- a count past the steps counts them all
module _ (p : FieldPath) (n : ℕ) (h : n ≡ min p.count step_limit) where
  pub cut_path : length p.steps ≡ step_limit → path_of (record { steps = p.steps; count = n; field = p.field }) ≡ path_of p
  unfolding path_of
  cut_path l =
      ap (λ (s : List ℕ). record { field = p.field; steps = s })
      (by_order step_limit p.count
      (λ g. take_all n p.steps (omega arith) ∙ sym (take_all p.count p.steps (omega arith)))
      (λ g. ap (λ (k : ℕ). take k p.steps) (let e : n ≡ p.count = omega arith in e)))

  pub is_cut : record { steps = p.steps; count = n; field = p.field } ≡ cut p
  unfolding cut
  is_cut = ap (λ (k : ℕ). record { steps = p.steps; count = k; field = p.field }) (let e : n ≡ min step_limit p.count = omega arith in e)

pub steps-size : (s : List ℕ) → length (concat_map u32 s) ≡ 4 * length s
unfolding concat_map u32
steps-size [] = refl
steps-size (x ∷ s) = let h : length (concat_map u32 s) ≡ 4 * length s = steps-size s in omega arith

pub path-length : (p : File.FieldPath) → length (Plan.path p) ≡ 3 + 4 * length p.steps
unfolding Plan.path u16
path-length p = let h : length (concat_map u32 p.steps) ≡ 4 * length p.steps = steps-size p.steps in omega arith

pub path-size : (p : FieldPath) → length p.steps ≡ step_limit → p.count ≤ step_limit → 3 + 4 * p.count ≡ length (Plan.path (path_of p))
unfolding path_of
path-size p l h =
    let g : p.count ≤ length p.steps = omega arith in
    let n : length (take p.count p.steps) ≡ p.count = length-take-le p.count p.steps g in
    let m : length (Plan.path (path_of p)) ≡ 3 + 4 * length (take p.count p.steps) = path-length (path_of p) in
    omega arith

module _ (s : List ℕ) (n a : ℕ) where
  -- what is still to be written of n steps once i of them are
  unfoldable pub steps_left : ℕ → List ℕ → List ℕ
  steps_left i w = put w (a + 4 * i) (concat_map u32 (take (n - i) (drop i s)))

  pub steps_first : (w : List ℕ) → put w a (concat_map u32 (take n s)) ≡ steps_left 0 w
  unfolding steps_left
  steps_first w = ap (λ (k : ℕ). put w k (concat_map u32 (take n s))) (let e : a ≡ a + 4 * 0 = omega arith in e) ∙ ap (λ (k : ℕ). put w (a + 4 * 0) (concat_map u32 (take k s))) (sym (sub-zero n))

  pub steps-more : (i : ℕ) (w w1 : List ℕ) → length s ≡ step_limit → n ≤ step_limit → i < n → w1 ≡ put w (a + 4 * i) (u32 (get_or s i 0)) → steps_left i w ≡ steps_left (i + 1) w1
  unfolding steps_left concat_map u32
  steps-more i w w1 l h g e =
      let k : i < length s = omega arith in
      let m : n - i ≡ suc (n - (i + 1)) = omega arith in
      let x : List ℕ = u32 (get_or s i 0) in
      let xs : List ℕ = concat_map u32 (take (n - (i + 1)) (drop (i + 1) s)) in
      let d : drop i s ≡ get_or s i 0 ∷ drop (i + 1) s = drop-cons s i 0 k ∙ ap (λ (j : ℕ). get_or s i 0 ∷ drop j s) (sym (add-one i)) in
      ap (λ (j : ℕ). put w (a + 4 * i) (concat_map u32 (take j (drop i s)))) m
      ∙ ap (λ (l : List ℕ). put w (a + 4 * i) (concat_map u32 (take (suc (n - (i + 1))) l))) d
      ∙ put-append w (a + 4 * i) x xs
      ∙ ap (λ (l : List ℕ). put l (a + 4 * i + 4) xs) (sym e)
      ∙ ap (λ (j : ℕ). put w1 j xs) (let f : a + 4 * i + 4 ≡ a + 4 * (i + 1) = omega arith in f)

  pub steps-end : (i : ℕ) (w : List ℕ) → n ≤ i → steps_left i w ≡ w
  unfolding steps_left concat_map
  steps-end i w h = let m : n - i ≡ 0 = omega arith in ap (λ (j : ℕ). put w (a + 4 * i) (concat_map u32 (take j (drop i s)))) m ∙ put-none w (a + 4 * i)

-- field, count and steps make a path
pub path-put : (p : FieldPath) (q : File.FieldPath) (at i x : ℕ) (w w1 w2 w3 : List ℕ) → length p.steps ≡ step_limit → p.count ≤ step_limit → path_of p ≡ q
    → x ≡ p.field → w1 ≡ put w at (u16 x) → w2 ≡ put w1 (at + 2) (p.count ∷ []) → p.count ≤ i
    → put w2 (at + 3) (concat_map u32 (take p.count p.steps)) ≡ steps_left p.steps p.count (at + 3) i w3 → w3 ≡ put w at (Plan.path q)
unfolding path_of Plan.path u16
path-put p q at i x w w1 w2 w3 l h e ex e1 e2 g f =
    let k : p.count ≤ length p.steps = omega arith in
    let c : p.count ≡ length (take p.count p.steps) % 256 = omega (arith, length-take-le p.count p.steps k) in
    let s : List ℕ = concat_map u32 (take p.count p.steps) in
    let j : at + 3 ≡ at + length (u16 p.field ++ (p.count ∷ [])) = omega arith in
    let two : w2 ≡ put w at (u16 p.field ++ (p.count ∷ [])) = next _ _ _ _ _ _ _ (e1 ∙ ap (λ (y : ℕ). put w at (u16 y)) ex) e2 refl in
    sym (steps-end p.steps p.count (at + 3) i w3 g) ∙ sym f ∙ next _ _ _ _ _ _ _ two refl j
    ∙ ap (λ (x : ℕ). put w at (u16 p.field ++ (x ∷ s))) c
    ∙ ap (λ r. put w at (Plan.path r)) e
