use Rattle.std.proofs.Common.{rules, sym, ap, ◌∙◌, ◌≡◌, ◌+◌, ◌-◌, ◌≤◌, ℕ, List, take, drop, length, arith}
use borrow.Author.Tests.{tests}
use Rattle.std.proofs.lemmas.Iterator.{YieldsList-from_slice, IsFirst-from_position}
use Rattle.std.proofs.lemmas.Slice.{between_is}
use Rattle.tally.specs.Bytes.{index_of, slice}
use Rattle.tally.proofs.Finds.{index-first, index_within}
use Rattle.tally.proofs.find.Goals as goal

inner : (xs : List ℕ) (i j : ℕ) → take (j - i) (drop i xs) ≡ slice i j xs
unfolding slice
inner xs i j = search (rules, between_is)

pub returns : goal.returns
returns c =
    let a = c.args in
    let part = take (a.to - a.from) (drop a.from a.text.now) in
    let e = index-first a.b part c.position.result
    (IsFirst-from_position _ _ _ (λ x. x ≡ a.b) (λ x. x ≡ a.b → ⊥) c.position.ensures.ran (YieldsList-from_slice part cc)
    (λ x q k. search (rules, tests)) (λ x q k. search (rules, tests))) in
    let n : length part ≤ a.to - a.from = search (rules) in record {
      finds = ap (λ k. a.from + k) (c.unwrap_or.ensures ∙ sym e ∙ ap (index_of a.b) (inner a.text.now a.from a.to));
      bounded = omega (arith, c.unwrap_or.ensures, e, index_within a.b part, n);
    }
