-- Records, counts and sections by cases: the laws that the loops over them go by.
use Prim.Native.Nat.{ℕ, zero, suc, ◌+◌, ◌-◌, ◌≤◌, ◌<◌}
use mathlib.Core.Path.{◌≡◌, refl, sym, ap, ◌∙◌}
use mathlib.Core.Bool.{Bool, true, false}
use mathlib.Core.List.{List, [], ◌∷◌}
use mathlib.Core.Logic.{⊎_elim}
use native.Mathlib.Omega.{arith}
use native.Mathlib.Numerals.{add-one}
use borrow.Author.Tests.{le-leb, lt-leb}
use lib.Dec.{leb, lit≤}
use lib.ListN.{length, set, drop, drop_of_length-le}
use lib.Seq.{sets, drop-cons}
use Rattle.rules.specs.Read.{Read, Reader, follow, ◌>>=◌, pure, refuse, u16, many, section, end, name, type, predicate, node, binding, hoisted, fetched, constraint, comparison, level}
use Rattle.rules.specs.Read.Read.{got, refused}
use Rattle.rules.specs.Read as Read
use Rattle.file.specs.Steps.{word, read_at, step_at, skim, record_of, limit_of, base_of, section_of, count, counted, count_at, starts, entries, sections, filled}
use Rattle.file.proofs.Readers.{lt-or-le, down, refused-next, then-got, then-refused, byte-in, step-got, step-refused, step_same, many-none, many_more, many-fault, fixed-u16, needs-fixed, needs-first, cut_short, SameSteps, alike-step, alike-skim, alike-bind, alike-value, alike-refuse, alike-many}
use Rattle.file.proofs.Suffix.{ended, faulted, suffix-record, suffix-sections}
use Rattle.std.specs.Prelude.{Ok, Err}

-- the areas of the index stand one behind the other
pub apart : (s : ℕ) → s < 10 → base_of s + 1 + limit_of s ≤ base_of (s + 1)
unfolding base_of limit_of
apart zero h = lit≤ tt
apart (suc zero) h = lit≤ tt
apart (suc (suc zero)) h = lit≤ tt
apart (suc (suc (suc zero))) h = lit≤ tt
apart (suc (suc (suc (suc zero)))) h = lit≤ tt
apart (suc (suc (suc (suc (suc zero))))) h = lit≤ tt
apart (suc (suc (suc (suc (suc (suc zero)))))) h = lit≤ tt
apart (suc (suc (suc (suc (suc (suc (suc zero))))))) h = lit≤ tt
apart (suc (suc (suc (suc (suc (suc (suc (suc zero)))))))) h = lit≤ tt
apart (suc (suc (suc (suc (suc (suc (suc (suc (suc zero))))))))) h = lit≤ tt
apart (suc (suc (suc (suc (suc (suc (suc (suc (suc (suc s)))))))))) h = absurd (omega arith)

pub roomy : (s : ℕ) → s < 10 → base_of s + 1 + limit_of s ≤ 4682
unfolding base_of limit_of
roomy zero h = lit≤ tt
roomy (suc zero) h = lit≤ tt
roomy (suc (suc zero)) h = lit≤ tt
roomy (suc (suc (suc zero))) h = lit≤ tt
roomy (suc (suc (suc (suc zero)))) h = lit≤ tt
roomy (suc (suc (suc (suc (suc zero))))) h = lit≤ tt
roomy (suc (suc (suc (suc (suc (suc zero)))))) h = lit≤ tt
roomy (suc (suc (suc (suc (suc (suc (suc zero))))))) h = lit≤ tt
roomy (suc (suc (suc (suc (suc (suc (suc (suc zero)))))))) h = lit≤ tt
roomy (suc (suc (suc (suc (suc (suc (suc (suc (suc zero))))))))) h = lit≤ tt
roomy (suc (suc (suc (suc (suc (suc (suc (suc (suc (suc s)))))))))) h = absurd (omega arith)

-- a two-byte number
pub word_in : (f : List ℕ) (p : ℕ) → p + 2 ≤ length f → read_at f u16 p ≡ got (word f p) (drop (p + 2) f)
unfolding u16 word read_at pure
word_in f p h =
    let e : p + 1 + 1 ≡ p + 2 = omega arith in
    byte-in f p _ (omega arith) ∙ byte-in f (p + 1) _ (omega arith) ∙ ap (λ (j : ℕ). got (word f p) (drop j f)) e

pub word-then : {A : Type 0} (f : List ℕ) (p : ℕ) (k : ℕ → Reader A) → p + 2 ≤ length f → read_at f (u16 >>= k) p ≡ read_at f (k (word f p)) (p + 2)
word-then f p k h = then-got f u16 k p (word f p) (p + 2) (word_in f p h)

module _ (f : List ℕ) (s : ℕ) (h : s < 10) where
  pub record-within : (p q : ℕ) → p ≤ length f → step_at f (record_of s) p ≡ Ok q → q ≤ length f
  record-within p q g e = (ended f (record_of s) p q (suffix-record s h) g e).within

  pub section-within : (p q : ℕ) → p ≤ length f → step_at f (section_of s) p ≡ Ok q → q ≤ length f
  section-within p q g e = (ended f (section_of s) p q (suffix-sections s h) g e).within

  module _ (n p : ℕ) (g : p ≤ length f) where
    pub records-none : n ≡ 0 → step_at f (many n (record_of s)) p ≡ Ok p
    records-none e = many-none f (record_of s) n p e g

    pub records-more : (m q : ℕ) → n ≡ m + 1 → step_at f (record_of s) p ≡ Ok q → step_at f (many n (record_of s)) p ≡ step_at f (many m (record_of s)) q
    records-more m q k e =
        let w = ended f (record_of s) p q (suffix-record s h) g e in
        many_more f (record_of s) n p w.value q (omega arith) w.is
        ∙ ap (λ (j : ℕ). step_at f (many j (record_of s)) q) (omega arith)

    pub records-fault : (x : ℕ) → 0 < n → step_at f (record_of s) p ≡ Err x → step_at f (many n (record_of s)) p ≡ Err x
    records-fault x k e = many-fault f (record_of s) n p x k (faulted f (record_of s) p x e)

-- what the loop over records stores
module _ (f : List ℕ) (s : ℕ) (n p : ℕ) where
  starts_more : (m q : ℕ) → n ≡ m + 1 → step_at f (record_of s) p ≡ Ok q → starts f s n p ≡ p ∷ starts f s m q
  unfolding starts
  starts_more m q h e = ap (λ (k : ℕ). starts f s k p) (h ∙ add-one m) ∙ simp (starts, e)

  pub stored-none : (ix : List ℕ) (i : ℕ) → n ≡ 0 → sets ix i (starts f s n p) ≡ ix
  unfolding starts
  stored-none ix i h = rw h

  pub stored_more : (ix : List ℕ) (i j m q : ℕ) → j ≡ i + 1 → n ≡ m + 1 → step_at f (record_of s) p ≡ Ok q → sets ix i (starts f s n p) ≡ sets (set ix i p) j (starts f s m q)
  stored_more ix i j m q g h e = rw (starts_more m q h e, g, add-one)

  pub stored-fault : (ix : List ℕ) (i x : ℕ) → 0 < n → step_at f (record_of s) p ≡ Err x → sets ix i (starts f s n p) ≡ ix
  unfolding starts
  stored-fault ix i x h e = rw (down n h) (simp (starts, e))

-- a section's count
module _ (f : List ℕ) (s p : ℕ) where
  abbrev judged : ℕ → Reader ℕ
  judged n = elim (leb n (limit_of s)) as (λ _. Reader ℕ) [ true ↦ pure n | false ↦ refuse 4 ]

  count-read : p + 2 ≤ length f → read_at f (count s) p ≡ read_at f (judged (word f p)) (p + 2)
  unfolding count
  count-read h = word-then f p judged h

  pub count-good : p + 2 ≤ length f → word f p ≤ limit_of s → read_at f (count s) p ≡ got (word f p) (drop (p + 2) f)
  unfolding read_at pure
  count-good h g = count-read h ∙ ap (λ (b : Bool). (elim b as (λ _. Reader ℕ) [ true ↦ pure (word f p) | false ↦ refuse 4 ]) (drop (p + 2) f)) (le-leb _ _ g)

  pub count-in : p + 2 ≤ length f → word f p ≤ limit_of s → count_at f s p ≡ Ok (word f p)
  unfolding count_at counted
  count-in h g = ap counted (count-good h g)

  pub count-over : p + 2 ≤ length f → limit_of s < word f p → count_at f s p ≡ Err 4
  unfolding count_at counted read_at refuse
  count-over h g = ap counted (count-read h ∙ ap (λ (b : Bool). (elim b as (λ _. Reader ℕ) [ true ↦ pure (word f p) | false ↦ refuse 4 ]) (drop (p + 2) f)) (lt-leb _ _ g))

  count-short : p ≤ length f → length f < p + 2 → read_at f (count s) p ≡ refused 3
  unfolding count
  count-short h g = faulted f (count s) p 3 (cut_short f 2 p (needs-first 2 judged (needs-fixed 2 fixed-u16)) h g)

  pub count_cut : p ≤ length f → length f < p + 2 → count_at f s p ≡ Err 3
  unfolding count_at counted
  count_cut h g = ap counted (count-short h g)

  pub record Counted (n : ℕ) : Type 0 where
    pub inside : p + 2 ≤ length f
    pub under : n ≤ limit_of s
    pub reads : read_at f (count s) p ≡ got n (drop (p + 2) f)

  pub count_next : (n : ℕ) → p ≤ length f → count_at f s p ≡ Ok n → Counted n
  count_next n h e =
      ⊎_elim (λ g. absurd (refused-next (sym (count_cut h g) ∙ e)))
      (λ g. ⊎_elim (λ k. absurd (refused-next (sym (count-over g k) ∙ e)))
      (λ k. let z : word f p ≡ n = cc (count-in g k) in record { inside = g; under = omega arith; reads = count-good g k ∙ ap (λ (j : ℕ). got j (drop (p + 2) f)) z })
      (lt-or-le (limit_of s) (word f p)))
      (lt-or-le (length f) (p + 2))

  pub count-fault : (x : ℕ) → count_at f s p ≡ Err x → read_at f (count s) p ≡ refused x
  unfolding count_at counted
  count-fault x e = go (read_at f (count s) p) e
    where
      go : (y : Read ℕ) → counted y ≡ Err x → y ≡ refused x
      go (got a rest) g = absurd (refused-next (sym g))
      go (refused n) g = let z : n ≡ x = cc in ap refused z

  -- a section is its count and its records
  section-parts : (l : List ℕ) → section_of s l ≡ (count s >>= λ n. many n (record_of s)) l
  unfolding section_of section count ◌>>=◌ follow pure refuse
  section-parts l = go (u16 l)
    where
      go : (y : Read ℕ) → follow y (λ n. elim (leb n (limit_of s)) as (λ _. Reader (List (Unit {0}))) [ true ↦ many n (record_of s) | false ↦ refuse 4 ]) ≡ follow (follow y judged) (λ n. many n (record_of s))
      go (got n rest) = inner (leb n (limit_of s))
        where
          inner : (b : Bool) → (elim b as (λ _. Reader (List (Unit {0}))) [ true ↦ many n (record_of s) | false ↦ refuse 4 ]) rest ≡ follow ((elim b as (λ _. Reader ℕ) [ true ↦ pure n | false ↦ refuse 4 ]) rest) (λ n. many n (record_of s))
          inner true = refl
          inner false = refl
      go (refused n) = refl

  section-at : read_at f (section_of s) p ≡ read_at f (count s >>= λ n. many n (record_of s)) p
  unfolding read_at
  section-at = section-parts (drop p f)

  pub section-fault : (x : ℕ) → count_at f s p ≡ Err x → step_at f (section_of s) p ≡ Err x
  section-fault x e = step-refused f (section_of s) p x (section-at ∙ then-refused f (count s) (λ n. many n (record_of s)) p x (count-fault x e))

  pub section-on : (n : ℕ) → p ≤ length f → count_at f s p ≡ Ok n → step_at f (section_of s) p ≡ step_at f (many n (record_of s)) (p + 2)
  section-on n h e = step_same f _ _ _ _ (section-at ∙ then-got f (count s) (λ n. many n (record_of s)) p n (p + 2) (count_next n h e).reads)

  -- a section's stores: its count, then its records' starts
  pub entries-on : (n : ℕ) → count_at f s p ≡ Ok n → entries f s p ≡ n ∷ starts f s n (p + 2)
  unfolding entries
  entries-on n e = rw (e, entries)

  pub entries-stored : (ix : List ℕ) (b n : ℕ) → b ≡ base_of s → count_at f s p ≡ Ok n → sets (set ix b n) (b + 1) (starts f s n (p + 2)) ≡ sets ix (base_of s) (entries f s p)
  entries-stored ix b n g e = rw (← g, entries-on n e, add-one)

  pub entries-kept : (ix : List ℕ) (b x : ℕ) → count_at f s p ≡ Err x → ix ≡ sets ix b (entries f s p)
  unfolding entries
  entries-kept ix b x e = rw (e, entries)

-- the whole file: n sections from section s on, and the end
module _ (f : List ℕ) (n s p : ℕ) where
  pub sections-more : (m q : ℕ) → s < 10 → p ≤ length f → n ≡ m + 1 → step_at f (section_of s) p ≡ Ok q → step_at f (sections n s) p ≡ step_at f (sections m (s + 1)) q
  unfolding sections
  sections-more m q h g k e =
      let w = ended f (section_of s) p q (suffix-sections s h) g e in
      ap (λ (j : ℕ). step_at f (sections j s) p) (k ∙ add-one m) ∙ step_same f _ _ _ _ (then-got f (section_of s) (λ a. sections m (s + 1)) p w.value q w.is)

  pub sections-fault : (x : ℕ) → 0 < n → step_at f (section_of s) p ≡ Err x → step_at f (sections n s) p ≡ Err x
  unfolding sections
  sections-fault x h e =
      ap (λ (j : ℕ). step_at f (sections j s) p) (down n h)
      ∙ step-refused f _ p x (then-refused f (section_of s) (λ a. sections (n - 1) (s + 1)) p x (faulted f (section_of s) p x e))

  pub sections-over : n ≡ 0 → p < length f → step_at f (sections n s) p ≡ Err 7
  unfolding sections end read_at
  sections-over h g = ap (λ (j : ℕ). step_at f (sections j s) p) h ∙ step-refused f (end tt) p 7 (ap (end tt) (drop-cons f p 0 g))

  pub sections-whole : n ≡ 0 → p ≤ length f → length f ≤ p → step_at f (sections n s) p ≡ Ok p
  unfolding sections end read_at
  sections-whole h k g =
      let e : drop p f ≡ [] = drop_of_length-le f g in
      ap (λ (j : ℕ). step_at f (sections j s) p) h ∙ step-got f (end tt) p tt p k (ap (end tt) e ∙ ap (got tt) (sym e))

  pub filled_none : (ix : List ℕ) → n ≡ 0 → filled f n s p ix ≡ ix
  unfolding filled
  filled_none ix h = rw h

  pub filled_more : (m q : ℕ) (ix ix' : List ℕ) → n ≡ m + 1 → step_at f (section_of s) p ≡ Ok q → ix' ≡ sets ix (base_of s) (entries f s p) → filled f n s p ix ≡ filled f m (s + 1) q ix'
  unfolding filled
  filled_more m q ix ix' h e g = ap (λ (k : ℕ). filled f k s p ix) (h ∙ add-one m) ∙ simp (filled, e, g)

  pub filled-fault : (x : ℕ) (ix : List ℕ) → 0 < n → step_at f (section_of s) p ≡ Err x → filled f n s p ix ≡ sets ix (base_of s) (entries f s p)
  unfolding filled
  filled-fault x ix h e = rw (down n h) (simp (filled, e))

alike-if : {A B : Type 0} (b : Bool) {r t : Reader A} {s u : Reader B} → SameSteps r s → SameSteps t u → SameSteps {A = A} {B = B} (elim b as (λ _. Reader A) [ true ↦ r | false ↦ t ]) (elim b as (λ _. Reader B) [ true ↦ s | false ↦ u ])
alike-if true x y = x
alike-if false x y = y

pub alike-section : {A : Type 0} (limit : ℕ) (r : Reader A) → SameSteps (section limit r) (section limit (skim r))
unfolding section
alike-section limit r = alike-value u16 (λ n. alike-if (leb n limit) (alike-many (alike-skim r) n) (alike-refuse 4))

alike_end : {A B : Type 0} (a : A) (b : B) → SameSteps (end a) (end b)
unfolding end skim ◌>>=◌ follow pure
alike_end a b = record { ends = go }
  where
    go : (l : List ℕ) → skim (end a) l ≡ skim (end b) l
    go [] = refl
    go (x ∷ l) = refl

-- the written rules' ten sections, by number
pub ten-sections : (f : List ℕ) → step_at f Read.ten_sections 0 ≡ step_at f (sections 10 0) 0
unfolding Read.ten_sections sections section_of record_of limit_of
ten-sections f =
    alike-step f
    (alike-bind (alike-section _ name) (λ ns a.
    alike-bind (alike-section _ type) (λ ts b.
    alike-bind (alike-section _ predicate) (λ ps c.
    alike-bind (alike-section _ node) (λ ms d.
    alike-bind (alike-section _ binding) (λ bs e.
    alike-bind (alike-section _ hoisted) (λ hs g.
    alike-bind (alike-section _ fetched) (λ fs h.
    alike-bind (alike-section _ constraint) (λ ks i.
    alike-bind (alike-section _ comparison) (λ cs j.
    alike-bind (alike-section _ level) (λ ls k.
    alike_end _ _)))))))))))
    0
