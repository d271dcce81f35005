-- Where a binding ends, by the kind of its slot; 0 where none is read.
use Prim.Native.Nat.{ℕ, zero, suc, ◌+◌, ◌*◌, ◌≤◌, ◌<◌}
use mathlib.Core.Path.{◌≡◌, refl, sym, ap, ◌∙◌}
use mathlib.Core.List.{List}
use mathlib.Core.Logic.{⊎_elim}
use native.Mathlib.Omega.{arith}
use lib.ListN.{length, get_or}
use Rattle.rules.specs.Read.{u8, many, several, path, fetched, binding}
use Rattle.file.specs.Steps.{step_at}
use Rattle.file.proofs.Readers.{lt-or-le, Needs, needs-bind, needs-first, needs-fixed, fixed-u8, fixed-u16, fixed-bytes, fixed_in, cut_short}
use Rattle.file.proofs.Leaves.{slot_sizes, binding-cut, binding-in, slot-cut, slot-plain, slot-field, slot-bad, path-in, several-fixed, fetched-fault, fetched-in}
use Rattle.lists.specs.Lists.{plain_sizes, end_of}
use Rattle.std.specs.Prelude.{Ok, Err}

-- a size by its kind
pub size_small : (k : ℕ) → get_or plain_sizes k 4 ≤ 4
size_small zero = omega arith
size_small (suc zero) = omega arith
size_small (suc (suc zero)) = omega arith
size_small (suc (suc (suc zero))) = omega arith
size_small (suc (suc (suc (suc zero)))) = omega arith
size_small (suc (suc (suc (suc (suc zero))))) = omega arith
size_small (suc (suc (suc (suc (suc (suc k)))))) = omega arith

size_is : (k : ℕ) → k < 6 → (k ≡ 3 → ⊥) → get_or slot_sizes k 0 ≡ get_or plain_sizes k 4
size_is zero h a = refl
size_is (suc zero) h a = refl
size_is (suc (suc zero)) h a = refl
size_is (suc (suc (suc zero))) h a = absurd (a refl)
size_is (suc (suc (suc (suc zero)))) h a = refl
size_is (suc (suc (suc (suc (suc zero))))) h a = refl
size_is (suc (suc (suc (suc (suc (suc k)))))) h a = absurd (omega arith)

-- a register, a predicate and a count of steps
needs-fetched : Needs 5 fetched
unfolding fetched path several
needs-fetched = needs-bind 2 3 fixed-u16 (λ a. needs-first 3 _ (needs-bind 2 1 fixed-u16 (λ b. needs-first 1 _ (needs-first 1 _ (needs-fixed 1 fixed-u8)))))

module _ (f : List ℕ) (p : ℕ) where
  ends : (q : ℕ) → step_at f binding p ≡ Ok q → q ≡ end_of (step_at f binding p)
  unfolding end_of
  ends q e = sym (ap end_of e)

  none : (x : ℕ) → step_at f binding p ≡ Err x → 0 ≡ end_of (step_at f binding p)
  unfolding end_of
  none x e = sym (ap end_of e)

  pub end-cut : p ≤ length f → length f < p + 3 → 0 ≡ end_of (step_at f binding p)
  end-cut h g =
      ⊎_elim (λ l. none 3 (binding-cut f p h l)) (λ l. none 3 (binding-in f p l ∙ slot-cut f (p + 2) (omega arith)))
      (lt-or-le (length f) (p + 2))

  module _ (k : ℕ) (h : p + 3 ≤ length f) (e : k ≡ get_or f (p + 2) 0) where
    pub end-bad : 5 < k → 0 ≡ end_of (step_at f binding p)
    end-bad g = none 5 (binding-in f p (omega arith) ∙ slot-bad f (p + 2) k (omega arith) e g)

    -- a slot that is no field
    module _ (n : ℕ) (g : k < 6) (a : k ≡ 3 → ⊥) (s : n ≡ get_or plain_sizes k 4) where
      plain : step_at f binding p ≡ step_at f (many n u8) (p + 2 + 1)
      plain =
          binding-in f p (omega arith) ∙ slot-plain f (p + 2) k (omega arith) e g a
          ∙ ap (λ (j : ℕ). step_at f (many j u8) (p + 2 + 1)) (size_is k g a ∙ sym s)

      pub plain_in : (q : ℕ) → q ≡ p + 3 + n → q ≤ length f → q ≡ end_of (step_at f binding p)
      plain_in q m l =
          let t : p + 2 + 1 + n ≡ q = omega arith in
          ends q (plain ∙ fixed_in f n (p + 2 + 1) (fixed-bytes n) (omega arith) ∙ ap Ok t)

      pub plain-cut : length f < p + 3 + n → 0 ≡ end_of (step_at f binding p)
      plain-cut m = none 3 (plain ∙ cut_short f n (p + 2 + 1) (needs-fixed n (fixed-bytes n)) (omega arith) (omega arith))

  -- a field
  module _ (h : p + 3 ≤ length f) (e : get_or f (p + 2) 0 ≡ 3) where
    field : step_at f binding p ≡ step_at f fetched (p + 2 + 1)
    field = binding-in f p (omega arith) ∙ slot-field f (p + 2) 3 (omega arith) (sym e) refl

    pub field-short : length f < p + 8 → 0 ≡ end_of (step_at f binding p)
    field-short m = none 3 (field ∙ cut_short f 5 (p + 2 + 1) needs-fetched (omega arith) (omega arith))

    module _ (n : ℕ) (l : p + 8 ≤ length f) (c : n ≡ get_or f (p + 7) 0) where
      steps : step_at f path (p + 2 + 1 + 2) ≡ step_at f (many (n * 4) u8) (p + 8)
      steps =
          let t : p + 7 ≡ p + 2 + 1 + 2 + 2 = omega arith in
          let u : p + 2 + 1 + 2 + 2 + 1 ≡ p + 8 = omega arith in
          path-in f (p + 2 + 1 + 2) (omega arith)
          ∙ several-fixed f (p + 2 + 1 + 2 + 2) 4 n (fixed-bytes 4) (omega arith) (c ∙ ap (λ (j : ℕ). get_or f j 0) t)
          ∙ ap (λ (j : ℕ). step_at f (many (n * 4) u8) j) u

      whole : p + 8 + n * 4 ≤ length f → step_at f binding p ≡ step_at f (many 2 u8) (p + 8 + n * 4)
      whole m =
          field ∙ fetched-in f (p + 2 + 1) (p + 8 + n * 4) (omega arith) (steps ∙ fixed_in f (n * 4) (p + 8) (fixed-bytes (n * 4)) m)

      pub field_in : (q : ℕ) → q ≡ p + 10 + 4 * n → q ≤ length f → q ≡ end_of (step_at f binding p)
      field_in q m g =
          let t : p + 8 + n * 4 + 2 ≡ q = omega arith in
          ends q (whole (omega arith) ∙ fixed_in f 2 (p + 8 + n * 4) (fixed-bytes 2) (omega arith) ∙ ap Ok t)

      pub field_cut : length f < p + 10 + 4 * n → 0 ≡ end_of (step_at f binding p)
      field_cut m =
          ⊎_elim
          (λ g. none 3 (field ∙ fetched-fault f (p + 2 + 1) 3 (omega arith) (steps ∙ cut_short f (n * 4) (p + 8) (needs-fixed (n * 4) (fixed-bytes (n * 4))) l g)))
          (λ g. none 3 (whole g ∙ cut_short f 2 (p + 8 + n * 4) (needs-fixed 2 (fixed-bytes 2)) g (omega arith)))
          (lt-or-le (length f) (p + 8 + n * 4))
