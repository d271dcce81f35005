-- A path in the file, copied step by step into a path by value.
use Prim.Native.Nat.{ℕ, zero, suc, ◌+◌, ◌*◌, ◌-◌, ◌≤◌, ◌<◌}
use mathlib.Core.Path.{◌≡◌, refl, sym, ap, ◌∙◌}
use mathlib.Core.List.{List, [], ◌∷◌, ◌++◌}
use native.Mathlib.Omega.{arith}
use lib.ListN.{length, get_or, set, take, replicate}
use lib.Seq.{sets}
use Rattle.rules.specs.Limits.{step_limit}
use Rattle.file.specs.Steps.{word}
use Rattle.paths.specs.Paths.{path_of, path_for, Holds}
use Rattle.paths.specs.declared.FieldPath.{FieldPath}
use Rattle.paths.proofs.Laws.{then-steps}
use Rattle.views.specs.Views.{run, long, byte_at, path_at}
use Rattle.views.proofs.Runs.{length_run}

-- a run's last element
run-last : {A : Type 0} (g : ℕ → A) (w n p : ℕ) → run g w (suc n) p ≡ run g w n p ++ (g (p + w * n) ∷ [])
unfolding run
run-last {A} g w zero p = let e : p + w * 0 ≡ p = omega arith in ap (λ (q : ℕ). g q ∷ []) (sym e)
run-last {A} g w (suc n) p =
    let e : p + w + w * n ≡ p + w * suc n = omega arith in
    ap (λ (l : List A). g p ∷ l) (run-last g w n (p + w) ∙ ap (λ (q : ℕ). run g w n (p + w) ++ (g q ∷ [])) e)

-- one step more is copied
pub copied : (f s : List ℕ) (i p v : ℕ) → i < length s → v ≡ long f (p + 4 * i) → take i s ≡ run (long f) 4 i p → take (i + 1) (set s i v) ≡ run (long f) 4 (i + 1) p
copied f s i p v h e g =
    let z : suc i ≡ i + 1 = omega arith in
    then-steps s i v h ∙ ap (λ (l : List ℕ). l ++ (v ∷ [])) g ∙ ap (λ (x : ℕ). run (long f) 4 i p ++ (x ∷ [])) e ∙ sym (run-last (long f) 4 i p) ∙ ap (λ (n : ℕ). run (long f) 4 n p) z

pub none-copied : (f : List ℕ) (p : ℕ) → [] ≡ run (long f) 4 0 p
unfolding run
none-copied f p = refl

-- and what is left to copy
pub all_left : (f s : List ℕ) (n p : ℕ) → sets s 0 (run (long f) 4 n p) ≡ sets s 0 (run (long f) 4 (n - 0) (p + 4 * 0))
all_left f s n p =
    let z : n ≡ n - 0 = omega arith in
    let q : p ≡ p + 4 * 0 = omega arith in
    ap (λ (m : ℕ). sets s 0 (run (long f) 4 m p)) z ∙ ap (λ (x : ℕ). sets s 0 (run (long f) 4 (n - 0) x)) q

pub left : (f s : List ℕ) (i n p v : ℕ) → i < n → v ≡ long f (p + 4 * i) → sets s i (run (long f) 4 (n - i) (p + 4 * i)) ≡ sets (set s i v) (i + 1) (run (long f) 4 (n - (i + 1)) (p + 4 * (i + 1)))
unfolding run
left f s i n p v h e =
    let z : n - i ≡ suc (n - (i + 1)) = omega arith in
    let a : i + 1 ≡ suc i = omega arith in
    let q : p + 4 * i + 4 ≡ p + 4 * (i + 1) = omega arith in
    ap (λ (m : ℕ). sets s i (run (long f) 4 m (p + 4 * i))) z
    ∙ ap (λ (x : ℕ). sets (set s i x) (suc i) (run (long f) 4 (n - (i + 1)) (p + 4 * i + 4))) (sym e)
    ∙ ap (λ (m : ℕ). sets (set s i v) (suc i) (run (long f) 4 (n - (i + 1)) m)) q
    ∙ ap (λ (j : ℕ). sets (set s i v) j (run (long f) 4 (n - (i + 1)) (p + 4 * (i + 1)))) (sym a)

pub none_left : (f s : List ℕ) (i n p : ℕ) → n ≤ i → sets s i (run (long f) 4 (n - i) (p + 4 * i)) ≡ s
unfolding run
none_left f s i n p h = let z : n - i ≡ 0 = omega arith in ap (λ (m : ℕ). sets s i (run (long f) 4 m (p + 4 * i))) z

pub whole : (f : List ℕ) (at : ℕ) (p : FieldPath) → p.field ≡ word f at → p.count ≡ get_or f (at + 2) 0 → p.steps ≡ sets (replicate step_limit 0) 0 (run (long f) 4 p.count (at + 3)) → p ≡ path_for (path_at f at)
unfolding path_for path_at byte_at
whole f at p u v w =
    let n = get_or f (at + 2) 0 in
    ap {B = FieldPath} (λ (l : List ℕ). record { steps = l; count = p.count; field = p.field }) (w ∙ ap (λ (n : ℕ). sets (replicate step_limit 0) 0 (run (long f) 4 n (at + 3))) v)
    ∙ ap {B = FieldPath} (λ (m : ℕ). record { steps = sets (replicate step_limit 0) 0 (run (long f) 4 n (at + 3)); count = m; field = p.field }) (v ∙ sym (length_run (long f) 4 n (at + 3)))
    ∙ ap {B = FieldPath} (λ (x : ℕ). record { steps = sets (replicate step_limit 0) 0 (run (long f) 4 n (at + 3)); count = length (run (long f) 4 n (at + 3)); field = x }) u

pub holds : (f : List ℕ) (at : ℕ) (p : FieldPath) → p.field ≡ word f at → p.count ≡ get_or f (at + 2) 0 → take p.count p.steps ≡ run (long f) 4 p.count (at + 3) → Holds p (path_at f at)
unfolding path_of path_at byte_at
holds f at p u v w =
    record {
      is = ap (λ (l : List ℕ). record { field = p.field; steps = l }) (w ∙ ap (λ (n : ℕ). run (long f) 4 n (at + 3)) v) ∙ ap (λ (x : ℕ). record { field = x; steps = run (long f) 4 (get_or f (at + 2) 0) (at + 3) }) u;
      count = v ∙ sym (length_run (long f) 4 (get_or f (at + 2) 0) (at + 3));
    }
