-- Lists of items, levels and the whole plan by cases: the laws that the loops over them go by.
use Prim.Native.Nat.{ℕ, zero, suc, ◌+◌, ◌-◌, ◌≤◌, ◌<◌}
use mathlib.Core.Path.{◌≡◌, refl, sym, ap, ◌∙◌}
use mathlib.Core.List.{List, [], ◌∷◌}
use native.Mathlib.Omega.{arith}
use lib.ListN.{length, get_or, drop, drop_of_length-le}
use lib.Seq.{drop-cons}
use Rattle.rules.specs.Placement.{SeekKey}
use Rattle.rules.specs.Read.{Reader, follow, ◌>>=◌, pure, u8, u16, many, end}
use Rattle.rules.specs.Read.Read.{got}
use Rattle.rules.specs.Reader as Reader
use Rattle.file.specs.Steps.{word, read_at, step_at, skim}
use Rattle.file.proofs.Readers.{step-got, step-refused, step_same, step-skim, many-none, many_more, many-fault, fixed-u16, needs-fixed, needs-first, needs-bind, cut_short, SameSteps, alike_refl, alike-step, alike-skim, alike-bind, alike-value, alike-pure, alike-many, alike-map}
use Rattle.file.proofs.Suffix.{Suffix, suffix-many, suffix-skim, suffix-u16, ended, faulted}
use Rattle.file.proofs.Leaves.{kinded, kind-cut, kind-bad}
use Rattle.file.proofs.Sections.{word-then}
use Rattle.plan_form.specs.Pieces.{then_at, run, item_of, range, edges, after_guide, after_seek}
use Rattle.plan_form.specs.declared.Kind.{Kind}
use Rattle.plan_form.specs.declared.Kind.TheVariants as Kinds
use Rattle.plan_form.proofs.Forward.{suffix-counted, suffix-text, suffix-path, suffix-edge, suffix-guide, suffix-seek, suffix-item, suffix-level, suffix-binding, suffix-select, suffix-diagnostic}
use Rattle.plan_form.proofs.Cases.{seq-next, seq-fault, seq-step, within, alike-number}
use Rattle.std.specs.Prelude.{Result, Ok, Err}

-- n times the same reading, by where each ends
module _ {A : Type 0} (f : List ℕ) {r : Reader A} (x : Suffix r) (n p : ℕ) (h : p ≤ length f) where
  pub each_more : (m q : ℕ) → n ≡ m + 1 → step_at f r p ≡ Ok q → step_at f (many n r) p ≡ step_at f (many m r) q
  each_more m q k e =
      let w = ended f r p q x h e in
      many_more f r n p w.value q (omega arith) w.is ∙ ap (λ (j : ℕ). step_at f (many j r) q) (omega arith)

  pub each-fault : (y : ℕ) → 0 < n → step_at f r p ≡ Err y → step_at f (many n r) p ≡ Err y
  each-fault y k e = many-fault f r n p y k (faulted f r p y e)

-- a run by its first step
module _ (s : ℕ → Result ℕ ℕ) (n p : ℕ) where
  pub run-none : n ≡ 0 → run s n p ≡ Ok p
  unfolding run
  run-none e = rw e refl

  pub run-next : (m q : ℕ) → n ≡ m + 1 → s p ≡ Ok q → run s n p ≡ run s m q
  unfolding run
  run-next m q e h =
      let k : n ≡ suc m = omega arith in
      ap (λ (j : ℕ). run s j p) k ∙ ap (λ (z : Result ℕ ℕ). elim z as (λ _. Result ℕ ℕ) [ Ok q ↦ run s m q | Err x ↦ Err x ]) h

  pub run-fault : (x : ℕ) → 0 < n → s p ≡ Err x → run s n p ≡ Err x
  unfolding run
  run-fault x g h =
      let k : n ≡ suc (n - 1) = omega arith in
      ap (λ (j : ℕ). run s j p) k ∙ ap (λ (z : Result ℕ ℕ). elim z as (λ _. Result ℕ ℕ) [ Ok q ↦ run s (n - 1) q | Err x ↦ Err x ]) h

-- a run of steps that are what r finds is what r finds so many times
module _ {A : Type 0} (f : List ℕ) {r : Reader A} (x : Suffix r) where
  pub run-many : (n p : ℕ) → p ≤ length f → run (λ k. step_at f r k) n p ≡ step_at f (many n r) p
  run-many zero p h = run-none _ 0 p refl ∙ sym (many-none f r 0 p refl h)
  run-many (suc n) p h = go (λ q k. run-many n q k) (step_at f r p) refl
    where
      go : ((q : ℕ) → q ≤ length f → run (λ k. step_at f r k) n q ≡ step_at f (many n r) q)
          → (z : Result ℕ ℕ) → step_at f r p ≡ z → run (λ k. step_at f r k) (suc n) p ≡ step_at f (many (suc n) r) p
      go y (Ok q) e = run-next _ (suc n) p n q (omega arith) e ∙ y q (within f x p q h e) ∙ sym (each_more f x (suc n) p h n q (omega arith) e)
      go y (Err z) e = run-fault _ (suc n) p z (omega arith) e ∙ sym (each-fault f x (suc n) p h z (omega arith) e)

-- an item by its kind
pub alike-part : SameSteps Reader.part (item_of Kinds.Part)
unfolding item_of
alike-part = alike-skim Reader.part

pub alike-residual : SameSteps Reader.residual (item_of Kinds.Residual)
unfolding item_of
alike-residual = alike-skim Reader.residual

pub alike-binding : SameSteps Reader.binding (item_of Kinds.Binding)
unfolding item_of
alike-binding = alike-skim Reader.binding

pub alike_select : SameSteps Reader.select (item_of Kinds.Select)
unfolding item_of
alike_select = alike-skim Reader.select

pub alike-diagnostic : SameSteps Reader.diagnostic (item_of Kinds.Diagnostic)
unfolding item_of
alike-diagnostic = alike-skim Reader.diagnostic

pub alike-counted : {A B : Type 0} {r : Reader A} {s : Reader B} → SameSteps r s → SameSteps (Reader.counted r) (Reader.counted s)
unfolding Reader.counted
alike-counted x = alike-value u16 (λ n. alike-many x n)

module _ (f : List ℕ) (p : ℕ) (k : Kind) where
  item-is : {A : Type 0} (j : Kind) {r : Reader A} → SameSteps r (item_of j) → k ≡ j → step_at f r p ≡ step_at f (item_of k) p
  item-is j x e = alike-step f x p ∙ ap (λ (i : Kind). step_at f (item_of i) p) (sym e)

  pub item-part : k ≡ Kinds.Part → step_at f Reader.part p ≡ step_at f (item_of k) p
  item-part e = item-is Kinds.Part alike-part e

  pub item-residual : k ≡ Kinds.Residual → step_at f Reader.residual p ≡ step_at f (item_of k) p
  item-residual e = item-is Kinds.Residual alike-residual e

  pub item-binding : k ≡ Kinds.Binding → step_at f Reader.binding p ≡ step_at f (item_of k) p
  item-binding e = item-is Kinds.Binding alike-binding e

  pub item-select : k ≡ Kinds.Select → step_at f Reader.select p ≡ step_at f (item_of k) p
  item-select e = item-is Kinds.Select alike_select e

  pub item-diagnostic : k ≡ Kinds.Diagnostic → step_at f Reader.diagnostic p ≡ step_at f (item_of k) p
  item-diagnostic e = item-is Kinds.Diagnostic alike-diagnostic e

-- what a seek holds
module _ (f : List ℕ) (p : ℕ) where
  pub range-next : (q : ℕ) → p ≤ length f → step_at f Reader.text p ≡ Ok q → step_at f range p ≡ then_at f (many 2 u8) (step_at f Reader.path q)
  unfolding range
  range-next q h e =
      seq-next f p Reader.text _ (Reader.path >>= λ t. many 2 u8) q suffix-text (λ t. alike-value Reader.path (λ o. alike-number _)) h e
      ∙ seq-step f q Reader.path _ (many 2 u8) suffix-path (λ o. alike_refl _) (within f suffix-text p q h e)

  pub range-fault : (x : ℕ) → step_at f Reader.text p ≡ Err x → step_at f range p ≡ Err x
  unfolding range
  range-fault x e = seq-fault f p Reader.text _ x e

  pub edges-next : (q : ℕ) → p ≤ length f → step_at f Reader.edge p ≡ Ok q → step_at f edges p ≡ step_at f Reader.edge q
  unfolding edges
  edges-next q h e = seq-next f p Reader.edge _ Reader.edge q suffix-edge (λ t. alike-map _ (alike_refl Reader.edge)) h e

  pub edges-fault : (x : ℕ) → step_at f Reader.edge p ≡ Err x → step_at f edges p ≡ Err x
  unfolding edges
  edges-fault x e = seq-fault f p Reader.edge _ x e

pub suffix-parts : (n : ℕ) → Suffix (many n (item_of Kinds.Part))
suffix-parts n = suffix-many (suffix-item Kinds.Part) n

pub suffix-residuals : Suffix (Reader.counted (item_of Kinds.Residual))
suffix-residuals = suffix-counted (suffix-item Kinds.Residual)

module _ (n : ℕ) where
  alike-composite : SameSteps (Reader.composite_seek n) (many n (item_of Kinds.Part))
  unfolding Reader.composite_seek
  alike-composite = alike-map _ (alike-many alike-part n)

  alike-range_seek : SameSteps (Reader.range_seek n) (many n (item_of Kinds.Part) >>= λ ps. range)
  unfolding Reader.range_seek range
  alike-range_seek = alike-bind (alike-many alike-part n) (λ ps us. alike-value Reader.text (λ t. alike-value Reader.path (λ q. alike-value u16 (λ n. alike-pure _ _))))

  alike-bounded_seek : SameSteps (Reader.bounded_seek n) (many n (item_of Kinds.Part) >>= λ ps. edges)
  unfolding Reader.bounded_seek edges
  alike-bounded_seek = alike-bind (alike-many alike-part n) (λ ps us. alike-value Reader.edge (λ lo. alike-value Reader.edge (λ hi. alike-pure _ _)))

  abbrev seek_readers : List (Reader SeekKey)
  seek_readers = Reader.prefix_seek n ∷ Reader.composite_seek n ∷ Reader.range_seek n ∷ Reader.bounded_seek n ∷ []

module _ (f : List ℕ) (n p : ℕ) where
  pub prefix_seek-next : (q : ℕ) → p ≤ length f → step_at f Reader.text p ≡ Ok q → step_at f (Reader.prefix_seek n) p ≡ step_at f (many n u16) q
  unfolding Reader.prefix_seek
  prefix_seek-next q h e = seq-next f p Reader.text _ (many n u16) q suffix-text (λ t. alike-map _ (alike_refl (many n u16))) h e

  pub prefix_seek-fault : (x : ℕ) → step_at f Reader.text p ≡ Err x → step_at f (Reader.prefix_seek n) p ≡ Err x
  unfolding Reader.prefix_seek
  prefix_seek-fault x e = seq-fault f p Reader.text _ x e

  pub range_seek-next : (q : ℕ) → p ≤ length f → step_at f (many n (item_of Kinds.Part)) p ≡ Ok q → step_at f (Reader.range_seek n) p ≡ step_at f range q
  range_seek-next q h e = alike-step f (alike-range_seek n) p ∙ seq-next f p (many n (item_of Kinds.Part)) _ range q (suffix-parts n) (λ us. alike_refl range) h e

  pub range_seek-fault : (x : ℕ) → step_at f (many n (item_of Kinds.Part)) p ≡ Err x → step_at f (Reader.range_seek n) p ≡ Err x
  range_seek-fault x e = alike-step f (alike-range_seek n) p ∙ seq-fault f p (many n (item_of Kinds.Part)) _ x e

  pub bounded_seek-next : (q : ℕ) → p ≤ length f → step_at f (many n (item_of Kinds.Part)) p ≡ Ok q → step_at f (Reader.bounded_seek n) p ≡ step_at f edges q
  bounded_seek-next q h e = alike-step f (alike-bounded_seek n) p ∙ seq-next f p (many n (item_of Kinds.Part)) _ edges q (suffix-parts n) (λ us. alike_refl edges) h e

  pub bounded_seek-fault : (x : ℕ) → step_at f (many n (item_of Kinds.Part)) p ≡ Err x → step_at f (Reader.bounded_seek n) p ≡ Err x
  bounded_seek-fault x e = alike-step f (alike-bounded_seek n) p ∙ seq-fault f p (many n (item_of Kinds.Part)) _ x e

  pub seek-cut : length f ≤ p → step_at f (Reader.seek n) p ≡ Err 3
  unfolding Reader.seek
  seek-cut h = kind-cut f p (seek_readers n) h

  module _ (h : p < length f) where
    pub seek-prefix : get_or f p 0 ≡ 0 → step_at f (Reader.seek n) p ≡ step_at f (Reader.prefix_seek n) (p + 1)
    unfolding Reader.seek
    seek-prefix e = kinded f p (seek_readers n) 0 h (sym e)

    pub seek-composite : get_or f p 0 ≡ 1 → step_at f (Reader.seek n) p ≡ step_at f (many n (item_of Kinds.Part)) (p + 1)
    unfolding Reader.seek
    seek-composite e = kinded f p (seek_readers n) 1 h (sym e) ∙ alike-step f (alike-composite n) (p + 1)

    pub seek-range : get_or f p 0 ≡ 2 → step_at f (Reader.seek n) p ≡ step_at f (Reader.range_seek n) (p + 1)
    unfolding Reader.seek
    seek-range e = kinded f p (seek_readers n) 2 h (sym e)

    pub seek-bounded : get_or f p 0 ≡ 3 → step_at f (Reader.seek n) p ≡ step_at f (Reader.bounded_seek n) (p + 1)
    unfolding Reader.seek
    seek-bounded e = kinded f p (seek_readers n) 3 h (sym e)

    pub seek-bad : 3 < get_or f p 0 → step_at f (Reader.seek n) p ≡ Err 5
    unfolding Reader.seek
    seek-bad g = kind-bad f p (seek_readers n) (get_or f p 0) h refl g

-- a level
module _ (f : List ℕ) (p : ℕ) where
  alike-after_guide : SameSteps after_guide (Reader.counted (item_of Kinds.Residual) >>= λ rs. Reader.counted u16)
  unfolding after_guide
  alike-after_guide = alike-bind (alike-counted alike-residual) (λ rs us. alike-map _ (alike_refl (Reader.counted u16)))

  pub after_guide-next : (q : ℕ) → p ≤ length f → step_at f (Reader.counted (item_of Kinds.Residual)) p ≡ Ok q → step_at f after_guide p ≡ step_at f (Reader.counted u16) q
  after_guide-next q h e =
      alike-step f alike-after_guide p
      ∙ seq-next f p (Reader.counted (item_of Kinds.Residual)) _ (Reader.counted u16) q suffix-residuals (λ us. alike_refl _) h e

  pub after_guide-fault : (x : ℕ) → step_at f (Reader.counted (item_of Kinds.Residual)) p ≡ Err x → step_at f after_guide p ≡ Err x
  after_guide-fault x e = alike-step f alike-after_guide p ∙ seq-fault f p (Reader.counted (item_of Kinds.Residual)) _ x e

  pub after_seek-next : (q : ℕ) → p ≤ length f → step_at f Reader.guide p ≡ Ok q → step_at f after_seek p ≡ step_at f after_guide q
  unfolding after_seek
  after_seek-next q h e = seq-next f p Reader.guide _ after_guide q suffix-guide (λ g. alike_refl after_guide) h e

  pub after_seek-fault : (x : ℕ) → step_at f Reader.guide p ≡ Err x → step_at f after_seek p ≡ Err x
  unfolding after_seek
  after_seek-fault x e = seq-fault f p Reader.guide _ x e

  pub level-cut : p ≤ length f → length f < p + 6 → step_at f Reader.level p ≡ Err 3
  unfolding Reader.level
  level-cut h g = cut_short f 6 p (needs-bind 2 4 fixed-u16 (λ a. needs-bind 2 2 fixed-u16 (λ b. needs-first 2 _ (needs-fixed 2 fixed-u16)))) h g

  module _ (n : ℕ) (h : p + 6 ≤ length f) (g : n ≡ word f (p + 4)) where
    level-seek : step_at f Reader.level p ≡ step_at f (Reader.seek n >>= λ s. after_seek) (p + 6)
    unfolding Reader.level after_seek after_guide
    level-seek =
        let a : p + 2 + 2 ≡ p + 4 = omega arith in
        let b : p + 4 + 2 ≡ p + 6 = omega arith in
        step_same f _ _ _ _ (word-then f p _ (omega arith) ∙ word-then f (p + 2) _ (omega arith) ∙ word-then f (p + 2 + 2) _ (omega arith))
        ∙ alike-step f
        (alike-value (Reader.seek (word f (p + 2 + 2))) (λ s.
        alike-value Reader.guide (λ g. alike-value (Reader.counted Reader.residual) (λ rs. alike-value (Reader.counted u16) (λ fs. alike-pure _ _)))))
        (p + 2 + 2 + 2)
        ∙ ap (λ (j : ℕ). step_at f (Reader.seek (word f j) >>= λ s. after_seek) (j + 2)) a
        ∙ ap (λ (j : ℕ). step_at f (Reader.seek j >>= λ s. after_seek) (p + 4 + 2)) (sym g)
        ∙ ap (λ (j : ℕ). step_at f (Reader.seek n >>= λ s. after_seek) j) b

    pub level-next : (q : ℕ) → step_at f (Reader.seek n) (p + 6) ≡ Ok q → step_at f Reader.level p ≡ step_at f after_seek q
    level-next q e = level-seek ∙ seq-next f (p + 6) (Reader.seek n) _ after_seek q (suffix-seek n) (λ s. alike_refl after_seek) h e

    pub level-fault : (x : ℕ) → step_at f (Reader.seek n) (p + 6) ≡ Err x → step_at f Reader.level p ≡ Err x
    level-fault x e = level-seek ∙ seq-fault f (p + 6) (Reader.seek n) _ x e

-- what follows in a plan where its lists before p were read
unfoldable pub lists : List (Reader (Unit {0})) → Reader (Unit {0})
lists [] = end tt
lists (r ∷ rs) = r >>= λ a. lists rs

abbrev pub last_list : List (Reader (Unit {0}))
last_list = skim (Reader.counted Reader.diagnostic) ∷ []

abbrev pub last_two : List (Reader (Unit {0}))
last_two = skim (Reader.counted Reader.select) ∷ last_list

abbrev pub last_three : List (Reader (Unit {0}))
last_three = skim (Reader.counted u16) ∷ last_two

abbrev pub last_four : List (Reader (Unit {0}))
last_four = skim (Reader.counted Reader.binding) ∷ last_three

abbrev pub all_lists : List (Reader (Unit {0}))
all_lists = skim (Reader.counted Reader.level) ∷ last_four

pub record ReadTo (f : List ℕ) (rs : List (Reader (Unit {0}))) (p : ℕ) : Type 0 where
  pub whole : step_at f Reader.plan 0 ≡ step_at f (lists rs) p
  pub within : p ≤ length f

alike_end : {A B : Type 0} (a : A) (b : B) → SameSteps (end a) (end b)
unfolding end skim ◌>>=◌ follow pure
alike_end a b = record { ends = go }
  where
    go : (l : List ℕ) → skim (end a) l ≡ skim (end b) l
    go [] = refl
    go (x ∷ l) = refl

-- the written rules' plan is its five lists
pub plan-begun : (f : List ℕ) → ReadTo f all_lists 0
unfolding Reader.plan lists
plan-begun f =
    record {
      whole =
          alike-step f
          (alike-bind (alike-skim (Reader.counted Reader.level)) (λ ls a.
          alike-bind (alike-skim (Reader.counted Reader.binding)) (λ bs b.
          alike-bind (alike-skim (Reader.counted u16)) (λ ks c.
          alike-bind (alike-skim (Reader.counted Reader.select)) (λ ss d.
          alike-bind (alike-skim (Reader.counted Reader.diagnostic)) (λ ds e.
          alike_end _ _))))))
          0;
      within = omega arith;
    }

module _ (f : List ℕ) {A B : Type 0} {r : Reader A} {t : Reader B} (rs : List (Reader (Unit {0}))) (p : ℕ) (x : SameSteps t r) (w : ReadTo f (skim t ∷ rs) p) where
  here : step_at f (skim t) p ≡ step_at f r p
  here = step-skim f t p ∙ alike-step f x p

  pub list-read : Suffix t → (q : ℕ) → step_at f r p ≡ Ok q → ReadTo f rs q
  unfolding lists
  list-read y q e =
      let g = here ∙ e in
      record {
        whole = w.whole ∙ seq-next f p (skim t) _ (lists rs) q (suffix-skim y) (λ a. alike_refl (lists rs)) w.within g;
        within = within f (suffix-skim y) p q w.within g;
      }

  pub list-fault : (n : ℕ) → step_at f r p ≡ Err n → step_at f Reader.plan 0 ≡ Err n
  unfolding lists
  list-fault n e = w.whole ∙ seq-fault f p (skim t) _ n (here ∙ e)

module _ (f : List ℕ) (p : ℕ) (w : ReadTo f [] p) where
  pub plan-over : p < length f → step_at f Reader.plan 0 ≡ Err 7
  unfolding lists end read_at
  plan-over g = w.whole ∙ step-refused f (end tt) p 7 (ap (end tt) (drop-cons f p 0 g))

  pub plan-whole : length f ≤ p → step_at f Reader.plan 0 ≡ Ok p
  unfolding lists end read_at
  plan-whole g =
      let e : drop p f ≡ [] = drop_of_length-le f g in
      w.whole ∙ step-got f (end tt) p tt p w.within (ap (end tt) e ∙ ap (got tt) (sym e))

module _ (f : List ℕ) (p q : ℕ) where
  pub levels-read : step_at f (Reader.counted Reader.level) 0 ≡ Ok q → ReadTo f last_four q
  levels-read e = list-read f last_four 0 (alike_refl _) (plan-begun f) (suffix-counted suffix-level) q e

  pub bindings-read : ReadTo f last_four p → step_at f (Reader.counted (item_of Kinds.Binding)) p ≡ Ok q → ReadTo f last_three q
  bindings-read w e = list-read f last_three p (alike-counted alike-binding) w (suffix-counted suffix-binding) q e

  pub constrained-read : ReadTo f last_three p → step_at f (Reader.counted u16) p ≡ Ok q → ReadTo f last_two q
  constrained-read w e = list-read f last_two p (alike_refl _) w (suffix-counted suffix-u16) q e

  pub selects_read : ReadTo f last_two p → step_at f (Reader.counted (item_of Kinds.Select)) p ≡ Ok q → ReadTo f last_list q
  selects_read w e = list-read f last_list p (alike-counted alike_select) w (suffix-counted suffix-select) q e

  pub diagnostics-read : ReadTo f last_list p → step_at f (Reader.counted (item_of Kinds.Diagnostic)) p ≡ Ok q → ReadTo f [] q
  diagnostics-read w e = list-read f [] p (alike-counted alike-diagnostic) w (suffix-counted suffix-diagnostic) q e

module _ (f : List ℕ) (p n : ℕ) where
  pub levels-fault : step_at f (Reader.counted Reader.level) 0 ≡ Err n → step_at f Reader.plan 0 ≡ Err n
  levels-fault e = list-fault f last_four 0 (alike_refl _) (plan-begun f) n e

  pub bindings-fault : ReadTo f last_four p → step_at f (Reader.counted (item_of Kinds.Binding)) p ≡ Err n → step_at f Reader.plan 0 ≡ Err n
  bindings-fault w e = list-fault f last_three p (alike-counted alike-binding) w n e

  pub constrained-fault : ReadTo f last_three p → step_at f (Reader.counted u16) p ≡ Err n → step_at f Reader.plan 0 ≡ Err n
  constrained-fault w e = list-fault f last_two p (alike_refl _) w n e

  pub selects_fault : ReadTo f last_two p → step_at f (Reader.counted (item_of Kinds.Select)) p ≡ Err n → step_at f Reader.plan 0 ≡ Err n
  selects_fault w e = list-fault f last_list p (alike-counted alike_select) w n e

  pub diagnostics-fault : ReadTo f last_list p → step_at f (Reader.counted (item_of Kinds.Diagnostic)) p ≡ Err n → step_at f Reader.plan 0 ≡ Err n
  diagnostics-fault w e = list-fault f [] p (alike-counted alike-diagnostic) w n e
