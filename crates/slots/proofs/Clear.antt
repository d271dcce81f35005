-- A path with zeros past its steps, and one step more.
use Prim.Native.Nat.{ℕ, zero, suc, ◌+◌, ◌≤◌, ◌<◌}
use mathlib.Core.Path.{◌≡◌, refl, sym, ap, ap₂, ◌∙◌}
use mathlib.Core.List.{List, [], ◌∷◌, ◌++◌}
use native.Mathlib.Omega.{arith}
use native.Mathlib.Numerals.{add-one}
use lib.ListN.{length, take, drop, replicate, length-set, take-append-drop}
use lib.Seq.{sets, sets-eq, drop-append_seam, drop-set-lt, length-take-le}
use Rattle.rules.specs.Limits.{step_limit}
use Rattle.rules.specs.File as File
use Rattle.paths.specs.Paths.{path_of, path_for, stepped}
use Rattle.paths.specs.declared.FieldPath.{FieldPath}
use Rattle.slots.specs.Slots.{cleared}

-- a path made from the rules' one
pub for-cleared : (p : FieldPath) (q : File.FieldPath) → path_of p ≡ q → p ≡ path_for q → p ≡ cleared p
for-cleared p q e h = h ∙ ap path_for (sym e)

abbrev zeros : List ℕ
zeros = replicate step_limit 0

drop-one : (n : ℕ) (l : List ℕ) → drop (suc n) l ≡ drop 1 (drop n l)
drop-one zero l = refl
drop-one (suc n) [] = refl
drop-one (suc n) (x ∷ l) = drop-one n l

-- steps over zeros
filled : (v : List ℕ) → length v ≤ step_limit → sets zeros 0 v ≡ v ++ drop (length v) zeros
filled v h =
    let z : length zeros ≡ step_limit = refl in
    let a : 0 + length v ≡ length v = omega arith in
    sets-eq v zeros 0 (omega (arith, z)) ∙ ap (λ (n : ℕ). v ++ drop n zeros) a

-- what stands past the steps
module _ (p : FieldPath) (room : length p.steps ≡ step_limit) (few : p.count ≤ step_limit) where
  counted : length (take p.count p.steps) ≡ p.count
  counted = length-take-le p.count p.steps (omega arith)

  past : p ≡ cleared p → drop p.count p.steps ≡ drop p.count zeros
  unfolding path_of path_for
  past e =
      let v = take p.count p.steps in
      ap (λ (q : FieldPath). drop p.count q.steps) e
      ∙ ap (drop p.count) (filled v (omega (arith, counted)))
      ∙ ap (λ (n : ℕ). drop n (v ++ drop (length v) zeros)) (sym counted)
      ∙ drop-append_seam v (drop (length v) zeros)
      ∙ ap (λ (n : ℕ). drop n zeros) counted

  all-zeros : drop p.count p.steps ≡ drop p.count zeros → p ≡ cleared p
  unfolding path_of path_for
  all-zeros e =
      let v = take p.count p.steps in
      ap₂ (λ (steps : List ℕ) (n : ℕ). record { steps = steps; count = n; field = p.field })
      (sym (take-append-drop p.count p.steps) ∙ ap (λ (l : List ℕ). v ++ l) (e ∙ ap (λ (n : ℕ). drop n zeros) (sym counted)) ∙ sym (filled v (omega (arith, counted))))
      (sym counted)

-- one step more
pub step-cleared : (p : FieldPath) (step : ℕ) → length p.steps ≡ step_limit → p.count < step_limit → p ≡ cleared p → stepped p step ≡ cleared (stepped p step)
unfolding stepped
step-cleared p step room h e =
    let n = p.count in
    all-zeros (stepped p step) (length-set p.steps n step ∙ room) (omega arith)
    (drop-set-lt (n + 1) p.steps n step (omega arith)
    ∙ ap (λ (k : ℕ). drop k p.steps) (add-one n)
    ∙ drop-one n p.steps ∙ ap (drop 1) (past p room (omega arith) e) ∙ sym (drop-one n zeros)
    ∙ ap (λ (k : ℕ). drop k zeros) (sym (add-one n)))
