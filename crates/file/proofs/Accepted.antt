-- An accepted file: each record of each section is read where the index says.
use Prim.Native.Nat.{ℕ, zero, suc, ◌+◌, ◌≤◌, ◌<◌, zero-le}
use mathlib.Core.Path.{◌≡◌, refl, sym, ap, ◌∙◌, subst}
use mathlib.Core.Bool.{Bool, true, false}
use mathlib.Core.List.{List, [], ◌∷◌}
use mathlib.Core.Logic.{⊎_elim}
use native.Mathlib.Omega.{arith}
use native.Mathlib.Nat.{zero-add, add-zero}
use native.Mathlib.Numerals.{add-one}
use borrow.Author.Tests.{leb-true}
use lib.Dec.{leb, lit<}
use lib.ListN.{length, get_or, set, drop, length-set}
use lib.Seq.{sets, length-sets, get_or-set_same, get_or-set_other}
use Rattle.rules.specs.Limits.{file_limit}
use Rattle.rules.specs.File.{Tables, Ty, Predicate, Node, Binding, Hoisted, Fetched, Constraint, Comparison, LevelEntry}
use Rattle.rules.specs.Read.{Read, Reader, ◌>>=◌, pure, refuse, u16, many, section, end, name, type, predicate, node, binding, hoisted, fetched, constraint, comparison, level}
use Rattle.rules.specs.Read.Read.{got, refused}
use Rattle.rules.specs.Read as Read
use Rattle.file.specs.Steps.{word, step_of, read_at, step_at, skim, record_of, limit_of, base_of, section_of, count_at, starts, entries, sections, filled, index_of, index_length}
use Rattle.file.specs.Tables.{Stands, Section, Indexed, tables_of, got_tables}
use Rattle.file.proofs.Readers.{lt-or-le, refused-got, refused-next, bind_inv, step-got, step-skim, fixed-u16, needs-fixed, needs-first, cut_short, alike-step}
use Rattle.file.proofs.Suffix.{Suffix, end-end, faulted, suffix-many, suffix-section, suffix-name, suffix-type, suffix-predicate, suffix-node, suffix-binding, suffix-hoisted, suffix-fetched, suffix-constraint, suffix-comparison, suffix-level}
use Rattle.file.proofs.Sections.{apart, roomy, word-then, count_next, count-in, section-within, entries-on, sections-more, sections-fault, filled_none, filled_more, ten-sections, alike-section}
use Rattle.file.proofs.Empty.{indexed-empty}
use Rattle.std.specs.Prelude.{Result, Ok, Err, OnOk}
use Rattle.file.specs.Refusals.{numbered}
use Rattle.file.specs.declared.Refusal.{Refusal}

-- a reading in two parts that succeeded, by position
pub record Parts {A B : Type 0} (f : List ℕ) (r : Reader A) (k : A → Reader B) (p : ℕ) (b : B) (rest : List ℕ) : Type 0 where
  pub value : A
  pub next : ℕ
  pub within : next ≤ length f
  pub first : read_at f r p ≡ got value (drop next f)
  pub then : read_at f (k value) next ≡ got b rest

pub parts : {A B : Type 0} (f : List ℕ) (r : Reader A) (k : A → Reader B) (p : ℕ) (b : B) (rest : List ℕ) → Suffix r → p ≤ length f → read_at f (r >>= k) p ≡ got b rest → Parts f r k p b rest
unfolding read_at
parts f r k p b rest x h e =
    let w = bind_inv r k (drop p f) b rest e in
    let t = end-end (record { skipped = p; within = h; is = refl }) (x.left (drop p f) w.value w.after w.first) in
    record {
      value = w.value;
      next = t.skipped;
      within = t.within;
      first = w.first ∙ ap (got w.value) t.is;
      then = ap (k w.value) (sym t.is) ∙ w.then;
    }

-- stores past a place leave it, and a run of stores is found where it was stored
pub sets_below : (vs l : List ℕ) (b j d : ℕ) → j < b → get_or (sets l b vs) j d ≡ get_or l j d
sets_below [] l b j d h = refl
sets_below (v ∷ vs) l b j d h =
    let ne : j ≡ b → ⊥ = omega arith in
    sets_below vs (set l b v) (suc b) j d (omega arith) ∙ get_or-set_other l b j v d ne

pub sets-in : (vs l : List ℕ) (b t d : ℕ) → t < length vs → b + t < length l → get_or (sets l b vs) (b + t) d ≡ get_or vs t d
sets-in [] l b t d h g = absurd (omega arith)
sets-in (v ∷ vs) l b zero d h g =
    let g' : b < length l = omega arith in
    rw add-zero (sets_below vs (set l b v) (suc b) b d (omega arith) ∙ get_or-set_same l b v d g')
sets-in (v ∷ vs) l b (suc t) d h g =
    let g' : suc b + t < length (set l b v) = simp length-set (omega arith) in
    let e : b + suc t ≡ suc b + t = omega arith in
    rw e (sets-in vs (set l b v) (suc b) t d (omega arith) g')

end_of : Result ℕ ℕ → ℕ
end_of (Ok q) = q
end_of (Err x) = 0

-- where section s starts
start : List ℕ → ℕ → ℕ
start f zero = 0
start f (suc s) = end_of (step_at f (section_of s) (start f s))

start-next : (f : List ℕ) (s q : ℕ) → step_at f (section_of s) (start f s) ≡ Ok q → start f (s + 1) ≡ q
unfolding start end_of
start-next f s q e = rw add-one (ap end_of e)

-- n records of section s, each where the starts say
module _ {A : Type 0} (f : List ℕ) (s : ℕ) (r : Reader A) (x : Suffix r) (g : record_of s ≡ skim r) where
  same_step : (p : ℕ) → step_at f (record_of s) p ≡ step_at f r p
  same_step p = ap (λ (t : Reader (Unit {0})). step_at f t p) g ∙ step-skim f r p

  record Listed (n p : ℕ) (xs : List A) : Type 0 where
    long : length xs ≡ n
    starting : length (starts f s n p) ≡ n
    each : (t : ℕ) (d : A) → t < n → Stands f r (get_or (starts f s n p) t 0) (get_or xs t d)

  listed : (n p : ℕ) (xs : List A) (rest : List ℕ) → p ≤ length f → read_at f (many n r) p ≡ got xs rest → Listed n p xs
  unfolding starts many pure read_at
  listed zero p xs rest h e = let z : [] ≡ xs = cc in record { long = ap length (sym z); starting = refl; each = λ t d k. absurd (omega arith) }
  listed (suc n) p xs rest h e =
      let w = parts f r (λ (y : A). many n r >>= λ (ys : List A). pure (y ∷ ys)) p xs rest x h e in
      let v = parts f (many n r) (λ (ys : List A). pure (w.value ∷ ys)) w.next xs rest (suffix-many x n) w.within w.then in
      let l = listed n w.next v.value (drop v.next f) w.within v.first in
      let q : step_at f (record_of s) p ≡ Ok w.next = same_step p ∙ step-got f r p w.value w.next w.within w.first in
      let z : w.value ∷ v.value ≡ xs = cc v.then in
      let u : starts f s (suc n) p ≡ p ∷ starts f s n w.next = simp (starts, q) in
      record {
        long = ap length (sym z) ∙ ap suc l.long;
        starting = ap length u ∙ ap suc l.starting;
        each = λ t d k.
            subst (λ (ys : List A). Stands f r (get_or (starts f s (suc n) p) t 0) (get_or ys t d)) z
            (subst (λ (ps : List ℕ). Stands f r (get_or ps t 0) (get_or (w.value ∷ v.value) t d)) (sym u) (go t d k w.value w.next w.first v.value l));
      }
    where
      go : (t : ℕ) (d : A) → t < suc n → (a : A) (q : ℕ) → read_at f r p ≡ got a (drop q f) → (ys : List A) → Listed n q ys → Stands f r (get_or (p ∷ starts f s n q) t 0) (get_or (a ∷ ys) t d)
      go zero d k a q e ys l = record { rest = drop q f; reads = e }
      go (suc t) d k a q e ys l = l.each t d (omega arith)

-- sections that were read to the file's end
record Went (f : List ℕ) (n s p q : ℕ) : Type 0 where
  next : ℕ
  within : next ≤ length f
  here : step_at f (section_of s) p ≡ Ok next
  later : step_at f (sections n (s + 1)) next ≡ Ok q

went : (f : List ℕ) (n s p q : ℕ) → s < 10 → p ≤ length f → step_at f (sections (suc n) s) p ≡ Ok q → Went f n s p q
went f n s p q h g e = go (step_at f (section_of s) p) refl
  where
    go : (y : Result ℕ ℕ) → step_at f (section_of s) p ≡ y → Went f n s p q
    go (Ok m) k = record { next = m; within = section-within f s h p m g k; here = k; later = sym (sections-more f (suc n) s p n m h g (omega arith) k) ∙ e }
    go (Err x) k = absurd (refused-next (sym (sections-fault f (suc n) s p x (omega arith) k) ∙ e))

module _ (f : List ℕ) where
  starts-short : (s n p : ℕ) → length (starts f s n p) ≤ n
  unfolding starts
  starts-short s zero p = omega arith
  starts-short s (suc n) p = go (step_at f (record_of s) p) (λ q. starts-short s n q)
    where
      go : (y : Result ℕ ℕ) → ((q : ℕ) → length (starts f s n q) ≤ n) → length {A = ℕ} (elim y as (λ _. List ℕ) [ Ok q ↦ p ∷ starts f s n q | Err x ↦ [] ]) ≤ suc n
      go (Ok q) rec = omega (arith, rec q)
      go (Err x) rec = omega arith

  entries-short : (s p : ℕ) → p ≤ length f → length (entries f s p) ≤ 1 + limit_of s
  unfolding entries
  entries-short s p h = go (count_at f s p) refl
    where
      go : (y : Result ℕ ℕ) → count_at f s p ≡ y → length {A = ℕ} (elim y as (λ _. List ℕ) [ Ok n ↦ n ∷ starts f s n (p + 2) | Err x ↦ [] ]) ≤ 1 + limit_of s
      go (Ok n) e = omega (arith, starts-short s n (p + 2), (count_next f s p n h e).under)
      go (Err x) e = omega arith

  pub length-filled : (n s p : ℕ) (ix : List ℕ) → length (filled f n s p ix) ≡ length ix
  unfolding filled
  length-filled zero s p ix = refl
  length-filled (suc n) s p ix = go (step_at f (section_of s) p) (λ q. length-filled n (s + 1) q (sets ix (base_of s) (entries f s p)))
    where
      go : (y : Result ℕ ℕ) → ((q : ℕ) → length (filled f n (s + 1) q (sets ix (base_of s) (entries f s p))) ≡ length (sets ix (base_of s) (entries f s p)))
          → length {A = ℕ} (elim y as (λ _. List ℕ) [ Ok q ↦ filled f n (s + 1) q (sets ix (base_of s) (entries f s p)) | Err x ↦ sets ix (base_of s) (entries f s p) ]) ≡ length ix
      go (Ok q) rec = rec q ∙ length-sets ix (base_of s) (entries f s p)
      go (Err x) rec = length-sets ix (base_of s) (entries f s p)

  -- a later section leaves an earlier one's entries
  filled-below : (n s q j : ℕ) (ix : List ℕ) (p : ℕ) → s + n ≤ 10 → p ≤ length f → step_at f (sections n s) p ≡ Ok q → j < base_of s → get_or (filled f n s p ix) j 0 ≡ get_or ix j 0
  filled-below zero s q j ix p a b e h = ap (λ (l : List ℕ). get_or l j 0) (filled_none f 0 s p ix refl)
  filled-below (suc n) s q j ix p a b e h =
      let w = went f n s p q (omega arith) b e in
      ap (λ (l : List ℕ). get_or l j 0) (filled_more f (suc n) s p n w.next ix _ (omega arith) w.here refl)
      ∙ filled-below n (s + 1) q j (sets ix (base_of s) (entries f s p)) w.next (omega arith) w.within w.later (omega (arith, apart s (omega arith)))
      ∙ sets_below (entries f s p) ix (base_of s) j 0 h

  -- the entries of section s + k, after n sections from section s on
  filled_at : (n s q k t : ℕ) (ix : List ℕ) → index_length ≤ length ix → s + n ≤ 10 → start f s ≤ length f → step_at f (sections n s) (start f s) ≡ Ok q → k < n
      → t < length (entries f (s + k) (start f (s + k)))
      → get_or (filled f n s (start f s) ix) (base_of (s + k) + t) 0 ≡ get_or (entries f (s + k) (start f (s + k))) t 0
  filled_at zero s q k t ix l a b e h g = absurd (omega arith)
  filled_at (suc n) s q zero t ix l a b e h g =
      let w = went f n s (start f s) q (omega arith) b e in
      let z : s + 0 ≡ s = add-zero s in
      let g' : t < length (entries f s (start f s)) = rw z at g in
      let m = entries-short s (start f s) b in
      let o = apart s (omega arith) in
      let r = roomy s (omega arith) in
      rw (z, filled_more f (suc n) s (start f s) n w.next ix (sets ix (base_of s) (entries f s (start f s))) (omega arith) w.here refl)
      (filled-below n (s + 1) q (base_of s + t) (sets ix (base_of s) (entries f s (start f s))) w.next (omega arith) w.within w.later (omega arith)
      ∙ sets-in (entries f s (start f s)) ix (base_of s) t 0 g' (omega arith))
  filled_at (suc n) s q (suc k) t ix l a b e h g =
      let w = went f n s (start f s) q (omega arith) b e in
      let v : start f (s + 1) ≡ w.next = start-next f s w.next w.here in
      let i : s + suc k ≡ s + 1 + k = omega arith in
      let ix' : List ℕ = sets ix (base_of s) (entries f s (start f s)) in
      let c = filled_at n (s + 1) q k t ix' (omega (arith, length-sets ix (base_of s) (entries f s (start f s)))) (omega arith) (rw v w.within) (rw v w.later) (omega arith) (rw i at g) in
      rw (i, filled_more f (suc n) s (start f s) n w.next ix ix' (omega arith) w.here refl) (rw v at c)

-- section s, read by the rules' own reader of its records
record Typed {A : Type 0} (f : List ℕ) (s : ℕ) (r : Reader A) (xs : List A) : Type 0 where
  within : start f s ≤ length f
  rest : List ℕ
  reads : read_at f (section (limit_of s) r) (start f s) ≡ got xs rest

record Peeled {A B : Type 0} (f : List ℕ) (s : ℕ) (r : Reader A) (k : List A → Reader B) (b : B) (rest : List ℕ) : Type 0 where
  value : List A
  typed : Typed f s r value
  within : start f (s + 1) ≤ length f
  then : read_at f (k value) (start f (s + 1)) ≡ got b rest

peel : {A B : Type 0} (f : List ℕ) (s : ℕ) (r : Reader A) (k : List A → Reader B) (b : B) (rest : List ℕ) → Suffix r → record_of s ≡ skim r → start f s ≤ length f → read_at f (section (limit_of s) r >>= k) (start f s) ≡ got b rest → Peeled f s r k b rest
unfolding section_of
peel f s r k b rest x g h e =
    let w = parts f (section (limit_of s) r) k (start f s) b rest (suffix-section (limit_of s) x) h e in
    let q : step_at f (section_of s) (start f s) ≡ Ok w.next =
    ap (λ (t : Reader (Unit {0})). step_at f (section (limit_of s) t) (start f s)) g ∙ sym (alike-step f (alike-section (limit_of s) r) (start f s))
    ∙ step-got f (section (limit_of s) r) (start f s) w.value w.next w.within w.first in
    let z : start f (s + 1) ≡ w.next = start-next f s w.next q in
    record {
      value = w.value;
      typed = record { within = h; rest = drop w.next f; reads = w.first };
      within = rw z w.within;
      then = rw z w.then;
    }

-- the count and the records of a section
record Inside {A : Type 0} (f : List ℕ) (limit : ℕ) (r : Reader A) (p : ℕ) (xs : List A) (rest : List ℕ) : Type 0 where
  counted : p + 2 ≤ length f
  under : word f p ≤ limit
  listed : read_at f (many (word f p) r) (p + 2) ≡ got xs rest

insides : {A : Type 0} (f : List ℕ) (limit : ℕ) (r : Reader A) (p : ℕ) (xs : List A) (rest : List ℕ) → p ≤ length f → read_at f (section limit r) p ≡ got xs rest → Inside f limit r p xs rest
unfolding section read_at refuse
insides {A} f limit r p xs rest h e = ⊎_elim (λ g. absurd (refused-got (sym (short g) ∙ e))) (λ g. go (leb (word f p) limit) refl g (sym (word-then f p judged g) ∙ e)) (lt-or-le (length f) (p + 2))
  where
    judged : ℕ → Reader (List A)
    judged n = elim (leb n limit) as (λ _. Reader (List A)) [ true ↦ many n r | false ↦ refuse 4 ]

    short : length f < p + 2 → read_at f (u16 >>= judged) p ≡ refused 3
    short g = faulted f (u16 >>= judged) p 3 (cut_short f 2 p (needs-first 2 judged (needs-fixed 2 fixed-u16)) h g)

    go : (b : Bool) → leb (word f p) limit ≡ b → p + 2 ≤ length f → (elim b as (λ _. Reader (List A)) [ true ↦ many (word f p) r | false ↦ refuse 4 ]) (drop (p + 2) f) ≡ got xs rest → Inside f limit r p xs rest
    go true k g u = record { counted = g; under = leb-true _ _ k; listed = u }
    go false k g u = absurd (refused-got u)

-- the index finds the records of section s
section-of : {A : Type 0} (f ix : List ℕ) (s : ℕ) (r : Reader A) (xs : List A) → Suffix r → record_of s ≡ skim r
    → ((t : ℕ) → t < length (entries f s (start f s)) → get_or ix (base_of s + t) 0 ≡ get_or (entries f s (start f s)) t 0) → Typed f s r xs → Section f ix s r xs
section-of {A} f ix s r xs x g h y =
    let p : ℕ = start f s in
    let i = insides f (limit_of s) r p xs y.rest y.within y.reads in
    let l = listed f s r x g (word f p) (p + 2) xs y.rest i.counted i.listed in
    let e : entries f s p ≡ word f p ∷ starts f s (word f p) (p + 2) = entries-on f s p (word f p) (count-in f s p i.counted i.under) in
    let n : length (entries f s p) ≡ suc (word f p) = ap length e ∙ ap suc l.starting in
    record {
      count = rw add-zero at (h 0 (omega arith)) ∙ ap (λ (v : List ℕ). get_or v 0 0) e ∙ sym l.long;
      under = omega (arith, l.long, i.under);
      record-at = λ t d k.
          let j : base_of s + 1 + t ≡ base_of s + suc t = omega arith in
          let o : get_or ix (base_of s + 1 + t) 0 ≡ get_or (starts f s (word f p) (p + 2)) t 0 =
          ap (λ (a : ℕ). get_or ix a 0) j ∙ h (suc t) (omega (arith, l.long)) ∙ ap (λ (v : List ℕ). get_or v (suc t) 0) e in
          subst (λ (a : ℕ). Stands f r a (get_or xs t d)) (sym o) (l.each t d (omega (arith, l.long)));
    }

-- a reading that ended got something
step-next : {A : Type 0} (f : List ℕ) (r : Reader A) (p q : ℕ) → step_at f r p ≡ Ok q → (a : A) × (rest : List ℕ) × (read_at f r p ≡ got a rest)
unfolding step_at step_of
step-next {A} f r p q e = go (read_at f r p) refl e
  where
    go : (y : Read A) → read_at f r p ≡ y → step_of f y ≡ Ok q → (a : A) × (rest : List ℕ) × (read_at f r p ≡ got a rest)
    go (got a rest) g k = (a, rest, g)
    go (refused n) g k = absurd (refused-next k)

end-inv : {A : Type 0} (a b : A) (l rest : List ℕ) → end a l ≡ got b rest → (a ≡ b) × (rest ≡ [])
unfolding end
end-inv a b [] rest e = (cc, cc)
end-inv a b (x ∷ l) rest e = absurd (refused-got e)

module _ (f ix : List ℕ) (q : ℕ) (small : length f ≤ file_limit) (long : index_length ≤ length ix) (same : Read.file f ≡ Read.ten_sections f) (e : step_at f Read.ten_sections 0 ≡ Ok q) where
  entry : (s t : ℕ) → s < 10 → t < length (entries f s (start f s)) → get_or (filled f 10 0 0 ix) (base_of s + t) 0 ≡ get_or (entries f s (start f s)) t 0
  unfolding start
  entry s t h g =
      let g' : t < length (entries f (0 + s) (start f (0 + s))) = simp zero-add g in
      simp zero-add at (filled_at f 10 0 q s t ix long (omega arith) (omega arith) (sym (ten-sections f) ∙ e) h g')

  found : {A : Type 0} (s : ℕ) (r : Reader A) (xs ys : List A) → s < 10 → Suffix r → record_of s ≡ skim r → xs ≡ ys → Typed f s r xs → Section f (filled f 10 0 0 ix) s r ys
  found s r xs ys h x g k y = subst (λ zs. Section f (filled f 10 0 0 ix) s r zs) k (section-of f (filled f 10 0 0 ix) s r xs x g (λ t l. entry s t h l) y)

  made : (T : Tables) (rest : List ℕ) → read_at f Read.ten_sections 0 ≡ got T rest → {x0 : List (List ℕ)} {x1 : List Ty} {x2 : List Predicate} {x3 : List Node} {x4 : List Binding} {x5 : List Hoisted} {x6 : List Fetched} {x7 : List Constraint} {x8 : List Comparison} {x9 : List LevelEntry}
      → (◌≡◌ {A = Tables} (record { names = x0; types = x1; predicates = x2; nodes = x3; bindings = x4; hoisted = x5; fetched = x6; constraints = x7; comparisons = x8; levels = x9 }) T) × (rest ≡ [])
      → Typed f 0 name x0 → Typed f 1 type x1 → Typed f 2 predicate x2 → Typed f 3 node x3 → Typed f 4 binding x4 → Typed f 5 hoisted x5 → Typed f 6 fetched x6 → Typed f 7 constraint x7 → Typed f 8 comparison x8 → Typed f 9 level x9
      → Indexed f (filled f 10 0 0 ix)
  unfolding record_of read_at tables_of
  made T rest z l t0 t1 t2 t3 t4 t5 t6 t7 t8 t9 =
      let d : tables_of f ≡ T = ap got_tables (same ∙ z) in
      let t = l.0 ∙ sym d in
      record {
        small = small;
        long = omega (arith, length-filled f 10 0 0 ix);
        accepted = same ∙ z ∙ ap (λ (U : Tables). got U rest) (sym d) ∙ ap (got (tables_of f)) l.1;
        names = found 0 name _ _ (lit< tt) suffix-name refl (ap (λ (U : Tables). U.names) t) t0;
        types = found 1 type _ _ (lit< tt) suffix-type refl (ap (λ (U : Tables). U.types) t) t1;
        predicates = found 2 predicate _ _ (lit< tt) suffix-predicate refl (ap (λ (U : Tables). U.predicates) t) t2;
        nodes = found 3 node _ _ (lit< tt) suffix-node refl (ap (λ (U : Tables). U.nodes) t) t3;
        bindings = found 4 binding _ _ (lit< tt) suffix-binding refl (ap (λ (U : Tables). U.bindings) t) t4;
        hoisted = found 5 hoisted _ _ (lit< tt) suffix-hoisted refl (ap (λ (U : Tables). U.hoisted) t) t5;
        fetched = found 6 fetched _ _ (lit< tt) suffix-fetched refl (ap (λ (U : Tables). U.fetched) t) t6;
        constraints = found 7 constraint _ _ (lit< tt) suffix-constraint refl (ap (λ (U : Tables). U.constraints) t) t7;
        comparisons = found 8 comparison _ _ (lit< tt) suffix-comparison refl (ap (λ (U : Tables). U.comparisons) t) t8;
        levels = found 9 level _ _ (lit< tt) suffix-level refl (ap (λ (U : Tables). U.levels) t) t9;
      }

  -- one section, and what is shown of the sections after it
  section-then : {A B : Type 0} {C : Type 0} (s : ℕ) (r : Reader A) (k : List A → Reader B) (b : B) (rest : List ℕ) → Suffix r → record_of s ≡ skim r → start f s ≤ length f
      → read_at f (section (limit_of s) r >>= k) (start f s) ≡ got b rest
      → ((xs : List A) → Typed f s r xs → start f (s + 1) ≤ length f → read_at f (k xs) (start f (s + 1)) ≡ got b rest → C) → C
  section-then s r k b rest x g h d c = let w = peel f s r k b rest x g h d in c w.value w.typed w.within w.then

  indexed-sections : Indexed f (filled f 10 0 0 ix)
  unfolding Read.ten_sections start limit_of record_of read_at
  indexed-sections = go (step-next f Read.ten_sections 0 q e)
    where
      go : (T : Tables) × (rest : List ℕ) × (read_at f Read.ten_sections 0 ≡ got T rest) → Indexed f (filled f 10 0 0 ix)
      go (T, rest, z) =
          section-then 0 name _ T rest suffix-name refl zero-le z (λ x0 t0 h1 e1.
          section-then 1 type _ T rest suffix-type refl h1 e1 (λ x1 t1 h2 e2.
          section-then 2 predicate _ T rest suffix-predicate refl h2 e2 (λ x2 t2 h3 e3.
          section-then 3 node _ T rest suffix-node refl h3 e3 (λ x3 t3 h4 e4.
          section-then 4 binding _ T rest suffix-binding refl h4 e4 (λ x4 t4 h5 e5.
          section-then 5 hoisted _ T rest suffix-hoisted refl h5 e5 (λ x5 t5 h6 e6.
          section-then 6 fetched _ T rest suffix-fetched refl h6 e6 (λ x6 t6 h7 e7.
          section-then 7 constraint _ T rest suffix-constraint refl h7 e7 (λ x7 t7 h8 e8.
          section-then 8 comparison _ T rest suffix-comparison refl h8 e8 (λ x8 t8 h9 e9.
          section-then 9 level _ T rest suffix-level refl h9 e9 (λ x9 t9 h10 e10.
          made T rest z (end-inv _ T _ rest e10) t0 t1 t2 t3 t4 t5 t6 t7 t8 t9))))))))))

-- whatever file was read to its end
pub indexed : (f ix : List ℕ) (q : ℕ) → length f ≤ file_limit → index_length ≤ length ix → step_at f Read.file 0 ≡ Ok q → Indexed f (index_of f ix)
unfolding index_of step_at read_at Read.file
indexed [] ix q small long e = indexed-empty ix long
indexed (b ∷ bytes) ix q small long e = indexed-sections (b ∷ bytes) ix q small long refl e

-- the same by what the reader gives
pub indexed-if : (f ix jx : List ℕ) (r : Result ℕ Refusal) → length f ≤ file_limit → index_length ≤ length ix → numbered r ≡ step_at f Read.file 0 → jx ≡ index_of f ix → OnOk r (Indexed f jx)
indexed-if f ix jx (Ok q) small long e x = subst (Indexed f) (sym x) (indexed f ix q small long (sym e))
indexed-if f ix jx (Err n) small long e x = tt
