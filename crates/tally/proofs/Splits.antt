-- A text's lines, one by one.
use mathlib.Core.Bool.{Bool, true, false, cond, true≢false}
use mathlib.Core.List.{List, [], ◌∷◌, ◌++◌}
use mathlib.Core.Logic.{⊎_elim}
use mathlib.Core.Path.{◌≡◌, refl, sym, ap, ◌∙◌, subst}
use denote.Ref.{Bor}
use Prim.Native.Nat.{ℕ, min, ◌+◌, ◌-◌, ◌≤◌, ◌<◌}
use native.Mathlib.Omega.{arith}
use borrow.Author.Tests.{eq-eqb, ne_eqb, eqb-true}
use lib.Dec.{eqb}
use lib.ListN.{length, take, get_or, length-append}
use Rattle.std.proofs.Common.{Option, Some, fold}
use Rattle.std.proofs.lemmas.Bool.{cases_lt}
use Rattle.std.proofs.lemmas.Fn.{serves_by, always_returns_same}
use Rattle.std.proofs.lemmas.Grind.{common_steps}
use Rattle.std.proofs.lemmas.Iterator.{YieldsList}
use Rattle.std.proofs.lemmas.Iterator.Consumers.{YieldsList-turn, fold_from_yields_List}
use Rattle.std.proofs.lemmas.Iterator.Splits.{YieldsList-from_shown_while}
use Rattle.std.proofs.lemmas.List.{nil_from_length}
use Rattle.std.proofs.lemmas.List.Splits.{slice_split_none, slice_split_at, length-slice_split}
use Rattle.std.specs.Fn.{Mut, Called, CalledAt, ComputesKey}
use Rattle.std.specs.Slice.Iter.{split_inclusive_rest, split_inclusive_callee}
use Rattle.std.specs.declared.slice.SplitInclusive.{SplitInclusive}
use Rattle.std.specs.Iterator.{CallableAtEachTurn, FoldsItems}
use Rattle.std.specs.Option.{MatchOption}
use Rattle.std.specs.List.{slice_split, onto_first, All, IsFirstMatchOrLen, IsLastAndRest}
use Rattle.tally.specs.declared.Tally.{Tally}
use Rattle.tally.specs.Tallies.{content, joined, split, skipped, counted, tallied, none}
use Rattle.tally.proofs.Counts.{counted-skipped}

joined-is : (x : ℕ) (ls : List (List ℕ)) → onto_first x ls ≡ joined x ls
unfolding joined
joined-is x [] = refl
joined-is x (l ∷ ls) = refl

-- the lines are what std's `slice_split` gives
abbrev ends : ℕ → Bool
ends b = eqb b 10

abbrev parts : List ℕ → List (List ℕ)
parts text = slice_split ends text

split-is : (text : List ℕ) → parts text ≡ split text
unfolding split
split-is [] = refl
split-is (x ∷ xs) = go (eqb x 10) (split-is xs)
  where
    go : (b : Bool) → parts xs ≡ split xs → cond b ([] ∷ parts xs) (onto_first x (parts xs)) ≡ elim b [ true ↦ [] ∷ split xs | false ↦ joined x (split xs) ]
    go true e = ap (λ (ls : List (List ℕ)). [] ∷ ls) e
    go false e = ap (onto_first x) e ∙ joined-is x (split xs)

-- they are no more than the bytes and one
joined-most : (x : ℕ) (ls : List (List ℕ)) → length (onto_first x ls) ≤ length ls + 1
joined-most x [] = omega arith
joined-most x (l ∷ ls) = omega arith

pub parts-most : (text : List ℕ) → length (parts text) ≤ length text + 1
parts-most [] = omega arith
parts-most (x ∷ xs) = go (eqb x 10) (parts-most xs)
  where
    go : (b : Bool) → length (parts xs) ≤ length xs + 1 → length (cond b ([] ∷ parts xs) (onto_first x (parts xs))) ≤ length (x ∷ xs) + 1
    go true h = omega arith
    go false h = omega (arith, h, joined-most x (parts xs))

-- The lines but for an empty one at the end, which no tally counts: those that std's `split_inclusive` gives, without their ends.
abbrev last_kept : List ℕ → List (List ℕ)
last_kept [] = []
last_kept (x ∷ l) = (x ∷ l) ∷ []

abbrev kept : List (List ℕ) → List (List ℕ)
kept [] = []
kept (l ∷ []) = last_kept l
kept (l ∷ m ∷ ls) = l ∷ kept (m ∷ ls)

last-most : (l : List ℕ) → length (last_kept l) ≤ 1
last-most [] = omega arith
last-most (x ∷ l) = omega arith

kept-most : (ls : List (List ℕ)) → length (kept ls) ≤ length ls
kept-most [] = omega arith
kept-most (l ∷ []) = last-most l
kept-most (l ∷ m ∷ ls) = omega (arith, kept-most (m ∷ ls))

pub lines-most : (text : List ℕ) → length (kept (parts text)) ≤ length text + 1
lines-most text = omega (arith, kept-most (parts text), parts-most text)

kept-more : (l : List ℕ) (ls : List (List ℕ)) → 0 < length ls → kept (l ∷ ls) ≡ l ∷ kept ls
kept-more l [] h = absurd (omega arith)
kept-more l (m ∷ ls) h = refl

kept-one : (l : List ℕ) → 0 < length l → last_kept l ≡ l ∷ []
kept-one [] h = absurd (omega arith)
kept-one (x ∷ l) h = refl

-- What a line holds besides its end.
pub content-none : (l : List ℕ) → length l ≡ 0 → l ≡ content l
unfolding content
content-none [] e = refl
content-none (x ∷ l) e = absurd (omega (arith, e))

module _ (l front : List ℕ) (x : ℕ) (h : IsLastAndRest l x front) where
  last-is : get_or l (length l - 1) 0 ≡ x
  last-is = let a = h.0 in let b = h.1 in grind (arith, common_steps)

  front-is : take (length l - 1) l ≡ front
  front-is = let a = h.0 in let b = h.1 in grind (arith, common_steps)

  pub content-front : x ≡ 10 → front ≡ content l
  unfolding content
  content-front e = sym (ap (λ t. elim t [ true ↦ take (length l - 1) l | false ↦ l ]) (eq-eqb (get_or l (length l - 1) 0) 10 (last-is ∙ e)) ∙ front-is)

  pub content-whole : (x ≡ 10 → ⊥) → l ≡ content l
  unfolding content
  content-whole n = sym (ap (λ t. elim t [ true ↦ take (length l - 1) l | false ↦ l ]) (ne_eqb (get_or l (length l - 1) 0) 10 (λ q. n (sym last-is ∙ q))))

-- One step of `split_inclusive` takes the first line off: the bytes up to the first line end, with it.
first-line : (xs x rest : List ℕ) (i : ℕ) → xs ≡ x ++ rest → length x ≡ min (i + 1) (length xs) → IsFirstMatchOrLen ends xs i → 0 < length xs
    → kept (parts xs) ≡ content x ∷ kept (parts rest)
first-line xs x rest i e n h some = ⊎_elim ended whole (cases_lt i (length xs))
  where
    ended : i < length xs → kept (parts xs) ≡ content x ∷ kept (parts rest)
    ended l =
        let front : All (λ b. ends b ≡ false) (take i xs) = λ k d m. let a = h.0 k d (omega arith) (grind (arith, common_steps)) in grind (arith, common_steps) in
        let hit : get_or xs i 0 ≡ 10 = eqb-true _ 10 (h.1 l 0) in
        let cut : x ≡ take i xs ++ (10 ∷ []) = grind (arith, common_steps) in
        let back : xs ≡ take i xs ++ (10 ∷ rest) = grind (arith, common_steps) in
        let one : content x ≡ take i xs = sym (content-front x (take i xs) 10 (cut, grind (arith, common_steps)) refl) in
        ap (λ ys. kept (parts ys)) back ∙ ap kept (slice_split_at ends (take i xs) 10 rest front refl)
        ∙ kept-more (take i xs) (parts rest) (omega (arith, length-slice_split ends rest)) ∙ ap (λ l. l ∷ kept (parts rest)) (sym one)

    whole : length xs ≤ i → kept (parts xs) ≡ content x ∷ kept (parts rest)
    whole l =
        let none : rest ≡ [] = nil_from_length rest (omega (arith, n, ap length e, length-append x rest)) in
        let same : xs ≡ x = grind (arith, common_steps) in
        let front : All (λ b. ends b ≡ false) xs = λ k d m. h.0 k d (omega arith) (omega arith) in
        let end = get_or xs (length xs - 1) 0 in
        let not_end : end ≡ 10 → ⊥ = λ q. true≢false (sym (eq-eqb end 10 q) ∙ front (length xs - 1) 0 (omega arith)) in
        let split_at_end : IsLastAndRest xs end (take (length xs - 1) xs) = (grind (arith, common_steps), grind (arith, common_steps)) in
        ap kept (slice_split_none ends xs front) ∙ kept-one xs some ∙ ap (λ l. l ∷ []) (content-whole xs _ end split_at_end not_end ∙ ap content same)
        ∙ ap (λ ls. content x ∷ kept (parts ls)) (sym none)

-- what a step of `split_inclusive` gives (its `next_gives`)
abbrev inclusive_steps : {F : Type 0} → Mut F (Bor ℕ × Unit {0}) Bool → SplitInclusive ℕ F → Option (Bor (List ℕ)) → SplitInclusive ℕ F → Type 0
inclusive_steps g s r t = MatchOption r ((length (split_inclusive_rest s) ≡ 0) × (t ≡ s))
    (λ x. (split_inclusive_rest s ≡ x.now ++ split_inclusive_rest t)
    × ((i : ℕ) × (length x.now ≡ min (i + 1) (length (split_inclusive_rest s)))
    × ((p : ℕ → Bool) → ComputesKey g p (split_inclusive_callee s) → ComputesKey g p (split_inclusive_callee t) × IsFirstMatchOrLen p (split_inclusive_rest s) i))
    × (0 < length (split_inclusive_rest s)))

-- What `split_inclusive` gives of a text, without line ends, are the lines. The facts are the call's clauses `rest` and `closure`.
pub lines-yielded : {F : Type 0} {s : SplitInclusive ℕ F} (g : Mut F (Bor ℕ × Unit {0}) Bool) {f : F} (text : List ℕ) → split_inclusive_rest s ≡ text → split_inclusive_callee s ≡ f
    → ((x : ℕ) (b : Bool) (q : F) → CalledAt g f x b q → (q ≡ f) × (b ≡ ends x)) → YieldsList (inclusive_steps g) (λ l. content l.now) s (kept (parts text))
lines-yielded {s = s} g {f} text rest closure tests =
    let shown = λ (t : _). kept (parts (split_inclusive_rest t)) in
    subst (λ xs. YieldsList (inclusive_steps g) (λ l. content l.now) s (kept (parts xs))) rest
    (YieldsList-from_shown_while (inclusive_steps g) (λ l. content l.now) shown (λ t. ComputesKey g ends (split_inclusive_callee t))
    (λ t u h k. ap (λ xs. length (kept (parts xs))) (nil_from_length _ k.0))
    (λ t x u h k. ((k.1.2 ends h).0, first-line _ x.now _ k.1.0 k.0 k.1.1 (k.1.2 ends h).1 k.2))
    s (subst (ComputesKey g ends) (sym closure) (always_returns_same g (λ a r. r ≡ ends a.0.now) f (λ a r q k. let m = tests a.0.now r q (record { shown = a.0; shows = refl; called = k }) in (m.1, m.0)))))

-- A fold over lines, which adds at most one to each count with a line, has room for one more at each.
module _ {S F A B : Type 0} {steps : S → Option A → S → Type 0} {v : A → B} {s : S} {all : List B} (road : YieldsList steps v s all) where
  pub fold_in_room : {R : F × Tally → A → F × Tally → Type 0} {Q : F × Tally → A → Type 0} {f : F}
      → ((t : Tally) (l : A) (q : F × Tally) → R (f, t) l q → (q.0 ≡ f) × ((q.1.compared ≤ t.compared + 1) × (q.1.different ≤ t.different + 1)))
      → ((t : Tally) (l : A) → t.compared < length all → t.different < length all → Q (f, t) l)
      → CallableAtEachTurn {P = F × Tally} steps R Q s (f, none)
  fold_in_room {R} {Q} {f} grows asks =
      serves_by R (λ ls q. (q.0 ≡ f) × ((q.1.compared ≤ length ls) × (q.1.different ≤ length ls)))
      (λ ls q l w j r.
      let k = grows q.1 l w (subst (λ g. R (g, q.1) l w) j.0 r) in
      (k.0, (omega (arith, k.1.0, j.1.0, length-append ls (l ∷ [])), omega (arith, k.1.1, j.1.1, length-append ls (l ∷ [])))))
      steps Q s (f, none) (refl, (omega arith, omega arith))
      (λ ls t q l u y e j.
      let m = YieldsList-turn road ls t y (Some l) u l refl e in
      subst (λ g. Q (g, q.1) l) (sym j.0) (asks q.1 l (omega (arith, m.0, j.1.0)) (omega (arith, m.0, j.1.1))))

module _ (agrees : List ℕ → Bool) where
  last-tallied : (l : List ℕ) (t : Tally) → tallied agrees (last_kept l) t ≡ tallied agrees (l ∷ []) t
  unfolding tallied skipped
  last-tallied [] t = counted-skipped agrees [] t refl
  last-tallied (x ∷ l) t = refl

  lines-tallied : (ls : List (List ℕ)) (t : Tally) → tallied agrees (kept ls) t ≡ tallied agrees ls t
  unfolding tallied
  lines-tallied [] t = refl
  lines-tallied (l ∷ []) t = last-tallied l t
  lines-tallied (l ∷ m ∷ ls) t = lines-tallied (m ∷ ls) (counted agrees l t)

  fold_is : (ls : List (List ℕ)) (t : Tally) → fold (λ u l. counted agrees l u) t ls ≡ tallied agrees ls t
  unfolding tallied
  fold_is [] t = refl
  fold_is (l ∷ ls) t = fold_is ls (counted agrees l t)

  parts-tallied : (text : List ℕ) (t : Tally) → tallied agrees (parts text) t ≡ tallied agrees (split text) t
  parts-tallied text t = ap (λ (ls : List (List ℕ)). tallied agrees ls t) (split-is text)

  -- a fold that counts each line, from none on, gives the tally of all: over a text's lines, and over those of them that are kept
  module _ {S F A : Type 0} {steps : S → Option A → S → Type 0} {v : A → List ℕ} {s : S} where
    fold_counted : {all : List (List ℕ)} → YieldsList steps v s all
        → (g : Mut F (Tally × (A × Unit {0})) Tally) {f : F} (r : Tally) → FoldsItems steps g s f none r
        → ((t : Tally) (l : A) (u : Tally) (q : F) → Called g f (t, (l, tt)) u q → (q ≡ f) × (u ≡ counted agrees (v l) t)) → r ≡ tallied agrees all none
    fold_counted {all} road g r ran one = fold_from_yields_List g (λ u l. counted agrees l u) none r ran road one ∙ fold_is all none

    pub fold_tallies : (text : List ℕ) → YieldsList steps v s (parts text)
        → (g : Mut F (Tally × (A × Unit {0})) Tally) {f : F} (r : Tally) → FoldsItems steps g s f none r
        → ((t : Tally) (l : A) (u : Tally) (q : F) → Called g f (t, (l, tt)) u q → (q ≡ f) × (u ≡ counted agrees (v l) t)) → r ≡ tallied agrees (split text) none
    fold_tallies text road g r ran one = fold_counted road g r ran one ∙ parts-tallied text none

    pub fold_kept : (text : List ℕ) → YieldsList steps v s (kept (parts text))
        → (g : Mut F (Tally × (A × Unit {0})) Tally) {f : F} (r : Tally) → FoldsItems steps g s f none r
        → ((t : Tally) (l : A) (u : Tally) (q : F) → Called g f (t, (l, tt)) u q → (q ≡ f) × (u ≡ counted agrees (v l) t)) → r ≡ tallied agrees (split text) none
    fold_kept text road g r ran one = fold_counted road g r ran one ∙ lines-tallied (parts text) none ∙ parts-tallied text none
