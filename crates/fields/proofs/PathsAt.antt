-- A path in the file, compared step by step with a path by value.
use Prim.Native.Nat.{ℕ, ◌+◌, ◌*◌, ◌≤◌, ◌<◌}
use mathlib.Core.Path.{◌≡◌, sym, ap, ◌∙◌}
use mathlib.Core.Bool.{Bool, true, false}
use mathlib.Core.List.{List}
use native.Mathlib.Omega.{arith}
use borrow.Author.Tests.{eq-eqb, ne_eqb}
use lib.ListN.{length, get_or, take, drop, drop_of_length-le}
use lib.Seq.{length-take-le, get_or-take}
use Rattle.rules.specs.Lookup.{same_steps, same_path}
use Rattle.file.specs.Steps.{word}
use Rattle.paths.specs.Paths.{path_of}
use Rattle.paths.specs.declared.FieldPath.{FieldPath}
use Rattle.paths.proofs.Laws.{steps-differ}
use Rattle.views.specs.Views.{run, long, byte_at, path_at}
use Rattle.views.proofs.Runs.{length_run, run_at}
use Rattle.fields.proofs.Searches.{at_place}

-- two lists of steps from place i on
module _ (xs ys : List ℕ) (i : ℕ) where
  steps-more : i < length xs → i < length ys → get_or xs i 0 ≡ get_or ys i 0 → same_steps (drop i xs) (drop i ys) ≡ same_steps (drop (i + 1) xs) (drop (i + 1) ys)
  unfolding same_steps
  steps-more g h e = rw (at_place xs 0 i g, at_place ys 0 i h) (simp (eq-eqb _ _ e))

  steps-stop : i < length xs → i < length ys → (get_or xs i 0 ≡ get_or ys i 0 → ⊥) → same_steps (drop i xs) (drop i ys) ≡ false
  unfolding same_steps
  steps-stop g h e = rw (at_place xs 0 i g, at_place ys 0 i h) (simp (ne_eqb _ _ e))

  steps-end : length xs ≤ i → length ys ≤ i → same_steps (drop i xs) (drop i ys) ≡ true
  unfolding same_steps
  steps-end g h = rw (drop_of_length-le xs g, drop_of_length-le ys h)

module _ (f : List ℕ) (at : ℕ) (p : FieldPath) where
  pub fields-differ : (word f at ≡ p.field → ⊥) → false ≡ same_path (path_at f at) (path_of p)
  unfolding same_path path_of path_at
  fields-differ h = sym (simp (ne_eqb _ _ h))

  pub counts-differ : (room : ℕ) → length p.steps ≡ room → p.count ≤ room → word f at ≡ p.field → (get_or f (at + 2) 0 ≡ p.count → ⊥) → false ≡ same_path (path_at f at) (path_of p)
  unfolding same_path path_of path_at byte_at
  counts-differ room r h e d =
      let g : p.count ≤ length p.steps = omega arith in
      let n : same_steps (run (long f) 4 (get_or f (at + 2) 0) (at + 3)) (take p.count p.steps) ≡ false = steps-differ _ _ (λ l. d (sym (length_run (long f) 4 _ _) ∙ l ∙ length-take-le _ _ g)) in
      sym (simp (eq-eqb _ _ e, n))

-- n steps at place q of the file and n steps of a list s, of which i are equal
unfoldable pub same_from : List ℕ → ℕ → ℕ → List ℕ → ℕ → Bool
same_from f q n s j = same_steps (drop j (run (long f) 4 n q)) (drop j (take n s))

module _ (f : List ℕ) (q n : ℕ) (s : List ℕ) (room : ℕ) (r : length s ≡ room) (h : n ≤ room) (i : ℕ) where
  here : i < n → get_or (run (long f) 4 n q) i 0 ≡ long f (q + 4 * i)
  here g = run_at (long f) 4 n q i 0 g

  run-has : length (run (long f) 4 n q) ≡ n
  run-has = length_run (long f) 4 n q

  take-has : length (take n s) ≡ n
  take-has = let g : n ≤ length s = omega arith in length-take-le n s g

  pub same_more : i < n → long f (q + 4 * i) ≡ get_or s i 0 → same_from f q n s i ≡ same_from f q n s (i + 1)
  unfolding same_from
  same_more g e = steps-more _ _ i (omega (arith, run-has)) (omega (arith, take-has)) (here g ∙ e ∙ sym (get_or-take n s i 0 g))

  pub same_stop : i < n → (long f (q + 4 * i) ≡ get_or s i 0 → ⊥) → same_from f q n s i ≡ false
  unfolding same_from
  same_stop g e = steps-stop _ _ i (omega (arith, run-has)) (omega (arith, take-has)) (λ k. e (sym (here g) ∙ k ∙ get_or-take n s i 0 g))

  pub same_end : n ≤ i → same_from f q n s i ≡ true
  unfolding same_from
  same_end g = steps-end _ _ i (omega (arith, run-has)) (omega (arith, take-has))

-- the steps decide
pub steps-decide : (f : List ℕ) (at : ℕ) (p : FieldPath) (b : Bool) → word f at ≡ p.field → get_or f (at + 2) 0 ≡ p.count → same_from f (at + 3) p.count p.steps 0 ≡ b → b ≡ same_path (path_at f at) (path_of p)
unfolding same_path path_of path_at byte_at same_from
steps-decide f at p b e d h = sym (simp (eq-eqb _ _ e) (ap (λ (n : ℕ). same_steps (run (long f) 4 n (at + 3)) (take p.count p.steps)) d ∙ h))
