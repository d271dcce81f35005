-- Items by their number: what was read one after another stands at the places that `place_of` says.
use Prim.Native.Nat.{ℕ, zero, suc, ◌+◌, ◌≤◌, ◌<◌}
use mathlib.Core.Path.{◌≡◌, refl, sym, ap, ◌∙◌, subst}
use mathlib.Core.List.{List, [], ◌∷◌}
use mathlib.Core.Logic.{◌⊎◌, inl, inr}
use native.Mathlib.Omega.{arith}
use native.Mathlib.Numerals.{add-one}
use lib.ListN.{length, get_or, drop, length-drop}
use lib.Seq.{drop-drop}
use Rattle.rules.specs.Plan.{Plan}
use Rattle.rules.specs.Read.{Reader, ◌>>=◌, pure, u16, many, end}
use Rattle.rules.specs.Read.Read.{got}
use Rattle.rules.specs.Reader as Reader
use Rattle.file.specs.Steps.{word, read_at, step_at}
use Rattle.file.proofs.Readers.{lt-or-le, refused-got, bind_inv, step-got, fixed-u16}
use Rattle.file.proofs.Suffix.{Suffix, suffix-u16}
use Rattle.file.proofs.Sections.{word_in}
use Rattle.plan_form.specs.Places.{plan_of, Opened, place_of}
use Rattle.plan_form.proofs.Forward.{suffix-binding, suffix-select, suffix-diagnostic, suffix-level}
use Rattle.std.specs.Prelude.{Ok}

-- a is what r reads at p, and it ends inside f
pub record Stands {A : Type 0} (f : List ℕ) (r : Reader A) (p : ℕ) (a : A) (rest : List ℕ) : Type 0 where
  pub stop : ℕ
  pub within : stop ≤ length f
  pub reads : read_at f r p ≡ got a (drop stop f)
  pub steps : step_at f r p ≡ Ok stop
  pub left : rest ≡ drop stop f

pub stands : {A : Type 0} (f : List ℕ) {r : Reader A} → Suffix r → (p : ℕ) (a : A) (rest : List ℕ) → p ≤ length f → read_at f r p ≡ got a rest → Stands f r p a rest
unfolding read_at
stands f {r} x p a rest h e =
    let w = x.left (drop p f) a rest e in
    let z : rest ≡ drop (p + w.skipped) f = w.is ∙ drop-drop w.skipped p f in
    let n : p + w.skipped ≤ length f = omega (arith, w.within, length-drop p f) in
    let g : read_at f r p ≡ got a (drop (p + w.skipped) f) = e ∙ ap (got a) z in
    record { stop = p + w.skipped; within = n; reads = g; steps = step-got f r p a (p + w.skipped) n g; left = z }

place-next : {A : Type 0} (f : List ℕ) (r : Reader A) (p k q : ℕ) → step_at f r p ≡ Ok q → place_of f r p (suc k) ≡ place_of f r q k
unfolding place_of
place-next f r p k q e = simp (place_of, e)

-- the first of several, and the others
record First {A : Type 0} (f : List ℕ) (r : Reader A) (n p : ℕ) (xs : List A) (rest : List ℕ) : Type 0 where
  pub item : A
  pub others : List A
  pub both : xs ≡ item ∷ others
  pub after : List ℕ
  pub here : Stands f r p item after
  pub then : read_at f (many n r) here.stop ≡ got others rest

got-value : {A : Type 0} {a b : A} {l m : List ℕ} → got a l ≡ got b m → a ≡ b
got-value {A} {a} {b} {l} {m} e = cc

got-rest : {A : Type 0} {a b : A} {l m : List ℕ} → got a l ≡ got b m → l ≡ m
got-rest {A} {a} {b} {l} {m} e = cc

first : {A : Type 0} (f : List ℕ) {r : Reader A} → Suffix r → (n p : ℕ) (xs : List A) (rest : List ℕ) → p ≤ length f
    → read_at f (many (suc n) r) p ≡ got xs rest → First f r n p xs rest
unfolding read_at many pure
first {A} f {r} x n p xs rest h e =
    let w = bind_inv r (λ (y : A). many n r >>= λ (ys : List A). pure (y ∷ ys)) (drop p f) xs rest e in
    let v = bind_inv (many n r) (λ (ys : List A). pure (w.value ∷ ys)) w.after xs rest w.then in
    let s = stands f x p w.value w.after h w.first in
    record {
      item = w.value;
      others = v.value;
      both = sym (got-value v.then);
      after = w.after;
      here = s;
      then = ap (many n r) (sym s.left) ∙ v.first ∙ ap (got v.value) (got-rest v.then);
    }

-- item k of those that r reads from p on
pub record ItemAt {A : Type 0} (f : List ℕ) (r : Reader A) (p k : ℕ) (a : A) : Type 0 where
  pub before : place_of f r p k ≤ length f
  pub within : place_of f r p (k + 1) ≤ length f
  pub reads : read_at f r (place_of f r p k) ≡ got a (drop (place_of f r p (k + 1)) f)
  pub steps : step_at f r (place_of f r p k) ≡ Ok (place_of f r p (k + 1))

-- the places before and after it, from a place further on
item_from : {A : Type 0} (f : List ℕ) (r : Reader A) (p q k : ℕ) (a : A) → step_at f r p ≡ Ok q → ItemAt f r q k a → ItemAt f r p (suc k) a
item_from f r p q k a e x =
    let b : place_of f r p (suc k) ≡ place_of f r q k = place-next f r p k q e in
    let c : place_of f r p (suc k + 1) ≡ place_of f r q (k + 1) = ap (place_of f r p) (add-one (suc k)) ∙ place-next f r p (suc k) q e ∙ ap (place_of f r q) (sym (add-one k)) in
    record {
      before = subst (λ (j : ℕ). j ≤ length f) (sym b) x.before;
      within = subst (λ (j : ℕ). j ≤ length f) (sym c) x.within;
      reads = ap (read_at f r) b ∙ x.reads ∙ ap (λ (j : ℕ). got a (drop j f)) (sym c);
      steps = ap (step_at f r) b ∙ x.steps ∙ ap Ok (sym c);
    }

item-here : {A : Type 0} (f : List ℕ) (r : Reader A) (p : ℕ) (a : A) (rest : List ℕ) → p ≤ length f → Stands f r p a rest → ItemAt f r p 0 a
unfolding place_of
item-here f r p a rest h s =
    let c : place_of f r p (0 + 1) ≡ s.stop = place-next f r p 0 s.stop s.steps in
    record {
      before = h;
      within = subst (λ (j : ℕ). j ≤ length f) (sym c) s.within;
      reads = s.reads ∙ ap (λ (j : ℕ). got a (drop j f)) (sym c);
      steps = s.steps ∙ ap Ok (sym c);
    }

module _ {A : Type 0} (f : List ℕ) {r : Reader A} (x : Suffix r) where
  pub item-at : (n p : ℕ) (xs : List A) (rest : List ℕ) → p ≤ length f → read_at f (many n r) p ≡ got xs rest → (k : ℕ) → k < n → (d : A)
      → ItemAt f r p k (get_or xs k d)
  item-at zero p xs rest h e k g d = absurd (omega arith)
  item-at (suc n) p xs rest h e zero g d =
      let w = first f x n p xs rest h e in
      subst (ItemAt f r p 0) (sym (ap (λ (l : List A). get_or l 0 d) w.both)) (item-here f r p w.item w.after h w.here)
  item-at (suc n) p xs rest h e (suc k) g d =
      let w = first f x n p xs rest h e in
      let i = item-at n w.here.stop w.others rest w.here.within w.then k (omega arith) d in
      subst (ItemAt f r p (suc k)) (sym (ap (λ (l : List A). get_or l (suc k) d) w.both)) (item_from f r p w.here.stop k _ w.here.steps i)

  -- how many there are, and where the last ends
  pub record AllRead (n p : ℕ) (xs : List A) (rest : List ℕ) : Type 0 where
    pub many : length xs ≡ n
    pub within : place_of f r p n ≤ length f
    pub left : rest ≡ drop (place_of f r p n) f

  pub all_read : (n p : ℕ) (xs : List A) (rest : List ℕ) → p ≤ length f → read_at f (many n r) p ≡ got xs rest → AllRead n p xs rest
  unfolding read_at many pure place_of
  all_read zero p xs rest h e = record { many = ap length (sym (got-value e)); within = h; left = sym (got-rest e) }
  all_read (suc n) p xs rest h e =
      let w = first f x n p xs rest h e in
      let i = all_read n w.here.stop w.others rest w.here.within w.then in
      let b : place_of f r p (suc n) ≡ place_of f r w.here.stop n = place-next f r p n w.here.stop w.here.steps in
      record {
        many = ap length w.both ∙ ap suc i.many;
        within = subst (λ (j : ℕ). j ≤ length f) (sym b) i.within;
        left = i.left ∙ ap (λ (j : ℕ). drop j f) (sym b);
      }

-- a counted list at p: its count, and where its items stand
pub record ListAt {A : Type 0} (f : List ℕ) (r : Reader A) (p : ℕ) (xs : List A) : Type 0 where
  pub inside : p + 2 ≤ length f
  pub count : length xs ≡ word f p
  pub reads : read_at f (many (word f p) r) (p + 2) ≡ got xs (drop (place_of f r (p + 2) (word f p)) f)
  pub items : (k : ℕ) → k < length xs → (d : A) → ItemAt f r (p + 2) k (get_or xs k d)
  pub within : place_of f r (p + 2) (word f p) ≤ length f
  pub steps : step_at f (Reader.counted r) p ≡ Ok (place_of f r (p + 2) (word f p))

-- a list that was read, and what was left
pub record Listed {A : Type 0} (f : List ℕ) (r : Reader A) (p : ℕ) (xs : List A) (rest : List ℕ) : Type 0 where
  pub list : ListAt f r p xs
  pub left : rest ≡ drop (place_of f r (p + 2) (word f p)) f

u16-inside : (f : List ℕ) (p n : ℕ) (rest : List ℕ) → p ≤ length f → read_at f u16 p ≡ got n rest → p + 2 ≤ length f
unfolding read_at
u16-inside f p n rest h e = go (lt-or-le (length f) (p + 2))
  where
    go : (length f < p + 2) ⊎ (p + 2 ≤ length f) → p + 2 ≤ length f
    go (inl g) = absurd (refused-got (sym (fixed-u16.cut (drop p f) (omega (arith, length-drop p f))) ∙ e))
    go (inr g) = g

pub listed : {A : Type 0} (f : List ℕ) {r : Reader A} → Suffix r → (p : ℕ) (xs : List A) (rest : List ℕ) → p ≤ length f
    → read_at f (Reader.counted r) p ≡ got xs rest → Listed f r p xs rest
unfolding Reader.counted read_at
listed {A} f {r} x p xs rest h e =
    let w = bind_inv u16 (λ (n : ℕ). many n r) (drop p f) xs rest e in
    let i : p + 2 ≤ length f = u16-inside f p w.value w.after h w.first in
    let g : got w.value w.after ≡ got (word f p) (drop (p + 2) f) = sym w.first ∙ word_in f p i in
    let m : read_at f (many (word f p) r) (p + 2) ≡ got xs rest = ap (λ (n : ℕ). many n r (drop (p + 2) f)) (sym (got-value g)) ∙ ap (many w.value r) (sym (got-rest g)) ∙ w.then in
    let a = all_read f x (word f p) (p + 2) xs rest i m in
    let t : read_at f (Reader.counted r) p ≡ got xs (drop (place_of f r (p + 2) (word f p)) f) = e ∙ ap (got xs) a.left in
    record {
      list = record {
        inside = i;
        count = a.many;
        reads = m ∙ ap (got xs) a.left;
        items = λ k j d. item-at f x (word f p) (p + 2) xs rest i m k (omega (arith, a.many)) d;
        within = a.within;
        steps = step-got f (Reader.counted r) p xs _ a.within t;
      };
      left = a.left;
    }

-- the five lists of plan f: where each begins, and that its items stand one after another behind its count
pub record Laid (f : List ℕ) (P : Plan) : Type 0 where
  pub bindings : ℕ
  pub constrained : ℕ
  pub selects : ℕ
  pub diagnostics : ℕ
  pub levels-end : step_at f (Reader.counted Reader.level) 0 ≡ Ok bindings
  pub bindings-end : step_at f (Reader.counted Reader.binding) bindings ≡ Ok constrained
  pub constrained-end : step_at f (Reader.counted u16) constrained ≡ Ok selects
  pub selects-end : step_at f (Reader.counted Reader.select) selects ≡ Ok diagnostics
  pub diagnostics-end : step_at f (Reader.counted Reader.diagnostic) diagnostics ≡ Ok (length f)
  pub levels-at : ListAt f Reader.level 0 P.levels
  pub bindings-at : ListAt f Reader.binding bindings P.bindings
  pub constrained-at : ListAt f u16 constrained P.constrained
  pub selects_at : ListAt f Reader.select selects P.selects
  pub diagnostics-at : ListAt f Reader.diagnostic diagnostics P.diagnostics

-- a list, and what is read behind it
record ListThen {A B : Type 0} (f : List ℕ) (r : Reader A) (k : List A → Reader B) (p : ℕ) (b : B) (rest : List ℕ) : Type 0 where
  pub items : List A
  pub list : ListAt f r p items
  pub then : read_at f (k items) (place_of f r (p + 2) (word f p)) ≡ got b rest

list-then : {A B : Type 0} (f : List ℕ) {r : Reader A} → Suffix r → (k : List A → Reader B) (p : ℕ) (b : B) (rest : List ℕ) → p ≤ length f
    → read_at f (Reader.counted r >>= k) p ≡ got b rest → ListThen f r k p b rest
unfolding read_at
list-then f {r} x k p b rest h e =
    let w = bind_inv (Reader.counted r) k (drop p f) b rest e in
    let l = listed f x p w.value w.after h w.first in
    record { items = w.value; list = l.list; then = ap (k w.value) (sym l.left) ∙ w.then }

end-value : {A : Type 0} (a b : A) (l : List ℕ) → end a l ≡ got b [] → a ≡ b
unfolding end
end-value a b [] e = got-value e
end-value a b (x ∷ l) e = absurd (refused-got e)

end_empty : {A : Type 0} (a b : A) (l : List ℕ) → end a l ≡ got b [] → length l ≡ 0
unfolding end
end_empty a b [] e = refl
end_empty a b (x ∷ l) e = absurd (refused-got e)

at-end : (f : List ℕ) (q : ℕ) → q ≤ length f → length (drop q f) ≡ 0 → q ≡ length f
at-end f q h e = omega (arith, length-drop q f)

pub laid : (f : List ℕ) (P : Plan) → Reader.plan f ≡ got P [] → Laid f P
unfolding Reader.plan read_at
laid f P e =
    let a = list-then f suffix-level _ 0 P [] (omega arith) e in
    let b = list-then f suffix-binding _ _ P [] a.list.within a.then in
    let c = list-then f suffix-u16 _ _ P [] b.list.within b.then in
    let d = list-then f suffix-select _ _ P [] c.list.within c.then in
    let g = list-then f suffix-diagnostic _ _ P [] d.list.within d.then in
    let v = end-value _ P _ g.then in
    record {
      bindings = place_of f Reader.level (0 + 2) (word f 0);
      constrained = place_of f Reader.binding (_ + 2) (word f _);
      selects = place_of f u16 (_ + 2) (word f _);
      diagnostics = place_of f Reader.select (_ + 2) (word f _);
      levels-end = a.list.steps;
      bindings-end = b.list.steps;
      constrained-end = c.list.steps;
      selects-end = d.list.steps;
      diagnostics-end = g.list.steps ∙ ap Ok (at-end f _ g.list.within (end_empty _ P _ g.then));
      levels-at = subst (ListAt f Reader.level 0) (ap (λ (y : Plan). y.levels) v) a.list;
      bindings-at = subst (ListAt f Reader.binding _) (ap (λ (y : Plan). y.bindings) v) b.list;
      constrained-at = subst (ListAt f u16 _) (ap (λ (y : Plan). y.constrained) v) c.list;
      selects_at = subst (ListAt f Reader.select _) (ap (λ (y : Plan). y.selects) v) d.list;
      diagnostics-at = subst (ListAt f Reader.diagnostic _) (ap (λ (y : Plan). y.diagnostics) v) g.list;
    }

-- what the form of a plan gives its readers
pub opened : (f : List ℕ) → Opened f → Laid f (plan_of f)
unfolding Opened
opened f e = laid f (plan_of f) e
