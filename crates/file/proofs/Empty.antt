-- A file of no bytes: ten empty sections, each with the count 0 in the index.
use Prim.Native.Nat.{ℕ, zero, suc, ◌+◌, ◌≤◌, ◌<◌}
use mathlib.Core.Path.{◌≡◌, refl, sym, ap, ◌∙◌}
use mathlib.Core.List.{List, [], ◌∷◌}
use native.Mathlib.Omega.{arith}
use native.Mathlib.Nat.{zero-add, add-zero}
use native.Mathlib.Numerals.{add-one}
use lib.Dec.{lit<}
use lib.ListN.{length, get_or, set, length-set}
use lib.Seq.{get_or-set_same, get_or-set_other}
use Rattle.rules.specs.Read.{Reader}
use Rattle.rules.specs.Read as Read
use Rattle.file.specs.Steps.{step_of, read_at, step_at, base_of, filled, emptied, index_of, index_length}
use Rattle.file.specs.Tables.{Section, Indexed, tables_of}
use Rattle.file.proofs.Sections.{apart, roomy}
use Rattle.std.specs.Prelude.{Ok}

-- the loop over the sections
module _ (n s : ℕ) (ix : List ℕ) where
  pub emptied-none : n ≡ 0 → emptied n s ix ≡ ix
  unfolding emptied
  emptied-none h = rw h

  pub emptied-more : (m b : ℕ) → n ≡ m + 1 → b ≡ base_of s → emptied n s ix ≡ emptied m (s + 1) (set ix b 0)
  unfolding emptied
  emptied-more m b h g = ap (λ (k : ℕ). emptied k s ix) (h ∙ add-one m) ∙ ap (λ (a : ℕ). emptied m (s + 1) (set ix a 0)) (sym g)

length-emptied : (n s : ℕ) (ix : List ℕ) → length (emptied n s ix) ≡ length ix
unfolding emptied
length-emptied zero s ix = refl
length-emptied (suc n) s ix = length-emptied n (s + 1) (set ix (base_of s) 0) ∙ length-set ix (base_of s) 0

-- a later section leaves an earlier one's count
emptied-below : (n s j : ℕ) (ix : List ℕ) → s + n ≤ 10 → j < base_of s → get_or (emptied n s ix) j 0 ≡ get_or ix j 0
unfolding emptied
emptied-below zero s j ix h g = refl
emptied-below (suc n) s j ix h g =
    let ne : j ≡ base_of s → ⊥ = omega arith in
    emptied-below n (s + 1) j (set ix (base_of s) 0) (omega arith) (omega (arith, apart s (omega arith))) ∙ get_or-set_other ix (base_of s) j 0 0 ne

emptied-at : (n s k : ℕ) (ix : List ℕ) → index_length ≤ length ix → s + n ≤ 10 → k < n → get_or (emptied n s ix) (base_of (s + k)) 0 ≡ 0
unfolding emptied
emptied-at zero s k ix l h g = absurd (omega arith)
emptied-at (suc n) s zero ix l h g =
    let o = apart s (omega arith) in
    let r = roomy s (omega arith) in
    rw add-zero (emptied-below n (s + 1) (base_of s) (set ix (base_of s) 0) (omega arith) (omega arith) ∙ get_or-set_same ix (base_of s) 0 0 (omega arith))
emptied-at (suc n) s (suc k) ix l h g =
    let e : s + suc k ≡ s + 1 + k = omega arith in
    rw e (emptied-at n (s + 1) k (set ix (base_of s) 0) (omega (arith, length-set ix (base_of s) 0)) (omega arith) (omega arith))

module _ (ix : List ℕ) (long : index_length ≤ length ix) where
  section-empty : {A : Type 0} (s : ℕ) (r : Reader A) → s < 10 → Section [] (emptied 10 0 ix) s r []
  section-empty s r h =
      record {
        count = simp zero-add at (emptied-at 10 0 s ix long (omega arith) h);
        under = omega arith;
        record-at = λ t d k. absurd (omega arith);
      }

  pub indexed-empty : Indexed [] (emptied 10 0 ix)
  unfolding tables_of Read.file
  indexed-empty =
      record {
        small = omega arith;
        long = omega (arith, length-emptied 10 0 ix);
        accepted = refl;
        names = section-empty 0 _ (lit< tt);
        types = section-empty 1 _ (lit< tt);
        predicates = section-empty 2 _ (lit< tt);
        nodes = section-empty 3 _ (lit< tt);
        bindings = section-empty 4 _ (lit< tt);
        hoisted = section-empty 5 _ (lit< tt);
        fetched = section-empty 6 _ (lit< tt);
        constraints = section-empty 7 _ (lit< tt);
        comparisons = section-empty 8 _ (lit< tt);
        levels = section-empty 9 _ (lit< tt);
      }

-- what is read and indexed, of a file of no bytes and of any other
pub empty-reads : (f : List ℕ) → length f ≡ 0 → Ok 0 ≡ step_at f Read.file 0
unfolding step_at step_of read_at Read.file
empty-reads [] h = refl
empty-reads (b ∷ bytes) h = absurd (omega arith)

pub empty-indexes : (f ix : List ℕ) → length f ≡ 0 → emptied 10 0 ix ≡ index_of f ix
unfolding index_of
empty-indexes [] ix h = refl
empty-indexes (b ∷ bytes) ix h = absurd (omega arith)

pub other-reads : (f : List ℕ) → 0 < length f → step_at f Read.ten_sections 0 ≡ step_at f Read.file 0
unfolding step_at read_at Read.file
other-reads [] h = absurd (omega arith)
other-reads (b ∷ bytes) h = refl

pub other-indexes : (f ix : List ℕ) → 0 < length f → filled f 10 0 0 ix ≡ index_of f ix
unfolding index_of
other-indexes [] ix h = absurd (omega arith)
other-indexes (b ∷ bytes) ix h = refl
