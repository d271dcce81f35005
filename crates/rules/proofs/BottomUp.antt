-- What `bottom_up` leaves at each place: the entry's own value, of what the entries before it gave.
use mathlib.Core.List.{List, [], ◌∷◌, ◌++◌, append-nil, append_assoc}
use mathlib.Core.Path.{◌≡◌, refl, sym, ap, ◌∙◌, subst}
use Prim.Native.Nat.{ℕ, zero, suc, ◌+◌, ◌<◌}
use native.Mathlib.Nat.{not-suc-le-zero, le_of_suc-le-suc, add-zero}
use native.Mathlib.Omega.{arith}
use lib.ListN.{length, get_or, take, length-append}
use lib.Seq.{take-append_seam, get_or-append_seam}
use Rattle.rules.specs.Base.{bottom_up}

module _ {A B : Type 0} (f : List B → A → B) where
  -- it goes on from what is done
  pub extends : (done : List B) (xs : List A) → (rest : List B) × (bottom_up f done xs ≡ done ++ rest) × (length rest ≡ length xs)
  unfolding bottom_up
  extends done [] = ([], sym (append-nil done), refl)
  extends done (x ∷ xs) =
      let r = extends (done ++ (f done x ∷ [])) xs in
      (f done x ∷ r.0, r.1 ∙ append_assoc done (f done x ∷ []) r.0, ap suc r.2)

  pub at_place : (done : List B) (xs : List A) (k : ℕ) (d : B) (e : A) → k < length xs → get_or (bottom_up f done xs) (length done + k) d ≡ f (take (length done + k) (bottom_up f done xs)) (get_or xs k e)
  unfolding bottom_up
  at_place done [] k d e h = absurd (not-suc-le-zero h)
  at_place done (x ∷ xs) zero d e h = go (bottom_up f (done ++ (f done x ∷ [])) xs) (r.1 ∙ append_assoc done (f done x ∷ []) r.0)
    where
      r : (rest : List B) × (bottom_up f (done ++ (f done x ∷ [])) xs ≡ (done ++ (f done x ∷ [])) ++ rest) × (length rest ≡ length xs)
      r = extends (done ++ (f done x ∷ [])) xs

      go : (l : List B) → l ≡ done ++ (f done x ∷ r.0) → get_or l (length done + 0) d ≡ f (take (length done + 0) l) x
      go l q = rw (q, add-zero) (get_or-append_seam done (f done x) r.0 d ∙ ap (λ t. f t x) (sym (take-append_seam done (f done x ∷ r.0))))
  at_place done (x ∷ xs) (suc k) d e h =
      subst (λ n. get_or (bottom_up f (done ++ (f done x ∷ [])) xs) n d ≡ f (take n (bottom_up f (done ++ (f done x ∷ [])) xs)) (get_or xs k e))
      (ap (λ n. n + k) (length-append done (f done x ∷ [])) ∙ omega arith)
      (at_place (done ++ (f done x ∷ [])) xs k d e (le_of_suc-le-suc h))
