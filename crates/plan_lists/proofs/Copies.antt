-- A run copied byte by byte, a list that grew down record by record, and the four lists after their counts.
use mathlib.Core.List.{List, [], ◌∷◌, ◌++◌}
use mathlib.Core.Path.{◌≡◌, refl, sym, ap, ap₂, ◌∙◌}
use Prim.Native.Nat.{ℕ, zero, suc, ◌+◌, ◌-◌, ◌*◌, ◌≤◌, ◌<◌, min}
use native.Mathlib.Numerals.{add-one}
use native.Mathlib.Omega.{arith}
use borrow.Author.Tests.{leb-true, leb-false}
use lib.Dec.{leb}
use lib.ListN.{length, get_or, take, drop, length-append, length-take, length-drop, drop_of_length-le}
use lib.Seq.{slice, slice-cons, take_all}
use Rattle.rules.specs.Plan.{u16}
use Rattle.rules.proofs.Cases.{ways}
use Rattle.state.specs.State.{Ends, constrained_at, selects_at, diagnostics_at, backwards}
use Rattle.state.specs.Levels.{constrained_count, diagnostic_count, lists}
use Rattle.state.proofs.Backwards.{backwards-length}
use Rattle.encode.specs.Written.{Wrote}
use Rattle.encode.proofs.Puts.{wrote_one, wrote_then, wrote_as, Going, going_start, going_more, going_end}
use Rattle.records.specs.Records.{put}
use Rattle.plan_lists.specs.PlanLists.{lists_in}

pub run-size : (w : List ℕ) (from to m r : ℕ) → m ≡ min to (length w) → r ≡ m - from → (r ≡ length (slice from to w)) × (r ≤ to)
run-size w from to m r em er = (er ∙ ap (λ (k : ℕ). k - from) (em ∙ sym (length-take to w)) ∙ sym (length-drop from (take to w)), omega arith)

take-least : (w : List ℕ) (to m : ℕ) → m ≡ min to (length w) → take m w ≡ take to w
take-least w to m e =
    ways (leb to (length w)) (take m w ≡ take to w)
    (λ q. ap (λ (k : ℕ). take k w) (let z : m ≡ to = omega (arith, leb-true to (length w) q) in z))
    (λ q. take_all m w (omega (arith, leb-false to (length w) q)) ∙ sym (take_all to w (omega (arith, leb-false to (length w) q))))

-- a copy of the bytes from `from` up to `end` that has come to i, and to p in the plan
module _ (w plan₀ : List ℕ) (from end at : ℕ) where
  pub record Copying (p i : ℕ) (plan : List ℕ) : Type 0 where
    pub place : p + from ≡ at + i
    pub low : from ≤ i
    pub going : Going (slice from end w) at plan₀ (slice i end w) p plan

  pub copy_start : Copying at from plan₀
  copy_start = record { place = refl; low = omega arith; going = going_start _ _ at plan₀ refl }

  pub copy_more : (p i : ℕ) (plan : List ℕ) → Copying p i plan → i < end → end ≤ length w → (plan₁ : List ℕ) → plan₁ ≡ put plan p (get_or w i 0 ∷ []) → length plan₁ ≡ length plan → Copying (p + 1) (i + 1) plan₁
  copy_more p i plan c h g plan₁ e l =
      record {
        place = omega (arith, c.place);
        low = omega (arith, c.low);
        going =
            going_more _ at plan₀ _ p plan c.going (get_or w i 0 ∷ []) (slice (i + 1) end w)
            (slice-cons i end w 0 h g ∙ ap (λ (k : ℕ). get_or w i 0 ∷ slice k end w) (sym (add-one i)))
            (p + 1) plan₁ (wrote_one _ p (p + 1) plan plan₁ refl e) l;
      }

  pub copy-end : (p i : ℕ) (plan : List ℕ) → Copying p i plan → (to : ℕ) → end ≤ i → end ≡ min to (length w) → Wrote (slice from to w) at plan₀ p plan
  copy-end p i plan c to h e =
      wrote_as (slice from end w) (slice from to w) at p plan₀ plan
      (going_end _ at plan₀ _ p plan c.going (drop_of_length-le (take end w) {i = i} (omega (arith, length-take end w))))
      (ap (drop from) (take-least w to end e))

-- the first record of a list that grew down, then those below it
below : (width left end from : ℕ) (w : List ℕ) → 0 < left → from ≡ end - width → backwards width left end w ≡ slice from end w ++ backwards width (left - 1) from w
unfolding backwards
below width zero end from w h e = absurd (omega arith)
below width (suc m) end from w h e =
    let k : m ≡ suc m - 1 = omega arith in
    ap₂ (λ (i j : ℕ). slice i end w ++ backwards width j i w) (sym e) k

-- a copy of such a list after so many of its records, which has come down to `end`, and to p in the plan
module _ (w plan₀ : List ℕ) (width n top at : ℕ) where
  pub record CopyingDown (p end done : ℕ) (plan : List ℕ) : Type 0 where
    pub near : p + end ≤ at + top
    pub going : Going (backwards width n top w) at plan₀ (backwards width (n - done) end w) p plan

  pub down-start : CopyingDown at top 0 plan₀
  down-start =
      let e : n ≡ n - 0 = omega arith in
      record { near = omega arith; going = going_start _ _ at plan₀ (ap (λ (k : ℕ). backwards width k top w) e) }

  pub down-more : (p end done : ℕ) (plan : List ℕ) → CopyingDown p end done plan → done < n → (from : ℕ) → from ≡ end - width
      → (q : ℕ) (plan₁ : List ℕ) → Wrote (slice from end w) p plan q plan₁ → length plan₁ ≡ length plan → CopyingDown q from (done + 1) plan₁
  down-more p end done plan c h from e q plan₁ a l =
      let k : n - done - 1 ≡ n - (done + 1) = omega arith in
      record {
        near = omega (arith, c.near, a.place, length-drop from (take end w), length-take end w);
        going =
            going_more _ at plan₀ _ p plan c.going (slice from end w) (backwards width (n - (done + 1)) from w)
            (below width (n - done) end from w (omega arith) e ∙ ap (λ (k : ℕ). slice from end w ++ backwards width k from w) k) q plan₁ a l;
      }

  pub down-end : (p end done : ℕ) (plan : List ℕ) → CopyingDown p end done plan → n ≤ done → Wrote (backwards width n top w) at plan₀ p plan
  unfolding backwards
  down-end p end done plan c h =
      let e : n - done ≡ 0 = omega arith in
      going_end _ at plan₀ _ p plan c.going (ap (λ (k : ℕ). backwards width k end w) e)

-- a list after its count
put-after : (n at r far : ℕ) (run w w1 w2 : List ℕ) → length run ≤ far → w1 ≡ put w at (u16 n) → Wrote run (at + 2) w1 r w2 → Wrote (u16 n ++ run) at w r w2 × (r ≤ at + far + 2)
unfolding u16
put-after n at r far run w w1 w2 h e a = (wrote_then (record { place = refl; is = e }) a, omega (arith, a.place, h))

pub up-put : (n at r from to : ℕ) (work w w1 w2 : List ℕ) → w1 ≡ put w at (u16 n) → Wrote (slice from to work) (at + 2) w1 r w2 → Wrote (u16 n ++ slice from to work) at w r w2 × (r ≤ at + to + 2)
up-put n at r from to work w w1 w2 e a = put-after n at r to (slice from to work) w w1 w2 (omega (arith, length-drop from (take to work), length-take to work)) e a

pub down-put : (width n at r top : ℕ) (work w w1 w2 : List ℕ) → w1 ≡ put w at (u16 n) → Wrote (backwards width n top work) (at + 2) w1 r w2 → Wrote (u16 n ++ backwards width n top work) at w r w2 × (r ≤ at + top + 2)
down-put width n at r top work w w1 w2 e a = put-after n at r top (backwards width n top work) w w1 w2 (omega (arith, backwards-length width n top work)) e a

-- the same list by another name of its count
pub down-far : (w : List ℕ) (width n n' top from r : ℕ) → r ≡ length (slice from top w) → from ≡ top - width * n → n ≡ n' → r ≡ length (backwards width n' top w)
down-far w width n n' top from r e f q =
    e ∙ length-drop from (take top w) ∙ ap (λ (k : ℕ). k - from) (length-take top w) ∙ ap (λ (k : ℕ). min top (length w) - k) f
    ∙ sym (backwards-length width n top w) ∙ ap (λ (k : ℕ). length (backwards width k top w)) q

pub down-as : (work : List ℕ) (width n n' top at r : ℕ) (w w1 : List ℕ) → Wrote (u16 n ++ backwards width n top work) at w r w1 → n ≡ n' → Wrote (u16 n' ++ backwards width n' top work) at w r w1
down-as work width n n' top at r w w1 a en = wrote_as _ _ at r w w1 a (ap (λ (k : ℕ). u16 k ++ backwards width k top work) en)

run_length : (n a : ℕ) (run : List ℕ) → a ≡ length run → length (u16 n ++ run) ≡ 2 + a
unfolding u16
run_length n a run e = length-append (u16 n) run ∙ ap (λ (k : ℕ). 2 + k) (sym e)

joined : (a b c d : List ℕ) → length (a ++ b ++ c ++ d) ≡ length a + length b + length c + length d
joined a b c d =
    length-append (a ++ b ++ c) d
    ∙ ap (λ (k : ℕ). k + length d) (length-append (a ++ b) c)
    ∙ ap (λ (k : ℕ). k + length c + length d) (length-append a b)

four : (a b c d p q r s : ℕ) → p ≡ 2 + a → q ≡ 2 + b → r ≡ 2 + c → s ≡ 2 + d → 8 + a + b + c + d ≡ p + q + r + s
four a b c d p q r s ep eq er es = omega arith

module _ (e : Ends) (work : List ℕ) where
  abbrev pub first : List ℕ
  first = u16 e.binding_count ++ slice 0 e.bindings work

  abbrev pub second : List ℕ
  second = u16 (constrained_count e) ++ backwards 2 (constrained_count e) constrained_at work

  abbrev pub third : List ℕ
  third = u16 e.select_count ++ slice selects_at e.selects work

  abbrev pub fourth : List ℕ
  fourth = u16 (diagnostic_count e) ++ backwards 3 (diagnostic_count e) diagnostics_at work

  lists-are : first ++ second ++ third ++ fourth ≡ lists_in e work
  unfolding lists
  lists-are = refl

  pub lists-size : (a b c d : ℕ) → a ≡ length (slice 0 e.bindings work) → b ≡ length (backwards 2 (constrained_count e) constrained_at work) → c ≡ length (slice selects_at e.selects work) → d ≡ length (backwards 3 (diagnostic_count e) diagnostics_at work) → 8 + a + b + c + d ≡ length (lists_in e work)
  lists-size a b c d ea eb ec ed =
      four a b c d (length first) (length second) (length third) (length fourth) (run_length e.binding_count a (slice 0 e.bindings work) ea)
      (run_length (constrained_count e) b (backwards 2 (constrained_count e) constrained_at work) eb)
      (run_length e.select_count c (slice selects_at e.selects work) ec)
      (run_length (diagnostic_count e) d (backwards 3 (diagnostic_count e) diagnostics_at work) ed)
      ∙ sym (joined first second third fourth) ∙ ap length lists-are

  pub lists-put : (at p q r s : ℕ) (w w1 w2 w3 w4 : List ℕ) → Wrote first at w p w1 → Wrote second p w1 q w2 → Wrote third q w2 r w3 → Wrote fourth r w3 s w4 → Wrote (lists_in e work) at w s w4
  lists-put at p q r s w w1 w2 w3 w4 a b c d =
      wrote_as (first ++ second ++ third ++ fourth) (lists_in e work) at s w w4 (wrote_then (wrote_then (wrote_then a b) c) d) lists-are
