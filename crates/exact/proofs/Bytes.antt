-- Byte strings: the same, and beginning with another.
use mathlib.Core.Bool.{true, false}
use mathlib.Core.List.{List, [], ◌∷◌, ◌++◌, append_assoc}
use mathlib.Core.Path.{◌≡◌, refl, sym, ap, ◌∙◌, subst}
use Prim.Native.Nat.{ℕ}
use borrow.Author.Tests.{eq-eqb}
use lib.Dec.{eqb}
use Rattle.rules.specs.Lookup.{same_steps}
use Rattle.rules.specs.Constant.{escape, encode_prefix, encode_str, term}
use Rattle.rules.proofs.Cases.{true≢false, eqb-eq, both_left, both_right, both_true}
use Rattle.exact.specs.Keys.{same_bytes, begins}

-- one list begins with another
abbrev pub Starts : List ℕ → List ℕ → Type 0
Starts a b = (rest : List ℕ) × (b ≡ a ++ rest)

pub same-eq : (a b : List ℕ) → same_bytes a b ≡ true → a ≡ b
unfolding same_steps
same-eq [] [] e = refl
same-eq [] (y ∷ b) e = absurd (true≢false (sym e))
same-eq (x ∷ a) [] e = absurd (true≢false (sym e))
same-eq (x ∷ a) (y ∷ b) e = λ i. eqb-eq x y (both_left (eqb x y) _ e) i ∷ same-eq a b (both_right (eqb x y) _ e) i

pub same_refl : (a : List ℕ) → same_bytes a a ≡ true
unfolding same_steps
same_refl [] = refl
same_refl (x ∷ a) = both_true (eqb x x) (same_steps a a) (eq-eqb x x refl) (same_refl a)

pub eq-same : (a b : List ℕ) → a ≡ b → same_bytes a b ≡ true
eq-same a b e = subst (λ c. same_bytes a c ≡ true) e (same_refl a)

pub begins-starts : (a b : List ℕ) → begins a b ≡ true → Starts a b
unfolding begins
begins-starts [] b e = (b, refl)
begins-starts (x ∷ a) [] e = absurd (true≢false (sym e))
begins-starts (x ∷ a) (y ∷ b) e =
    let r = begins-starts a b (both_right (eqb x y) _ e) in
    (r.0, λ i. sym (eqb-eq x y (both_left (eqb x y) _ e)) i ∷ r.1 i)

begins-append : (a r : List ℕ) → begins a (a ++ r) ≡ true
unfolding begins
begins-append [] r = refl
begins-append (x ∷ a) r = both_true (eqb x x) _ (eq-eqb x x refl) (begins-append a r)

pub starts-begins : (a b : List ℕ) → Starts a b → begins a b ≡ true
starts-begins a b s = subst (λ c. begins a c ≡ true) (sym s.1) (begins-append a s.0)

-- a beginning of a beginning
pub starts-less : (a b c : List ℕ) → Starts (a ++ b) c → Starts a c
starts-less a b c s = (b ++ s.0, s.1 ∙ append_assoc a b s.0)

pub starts_more : (a b c : List ℕ) → Starts a b → Starts a (b ++ c)
starts_more a b c s = (s.0 ++ c, ap (λ l. l ++ c) s.1 ∙ append_assoc a s.0 c)

-- a text's bytes, each zero byte followed by FF
pub escape-append : (a b : List ℕ) → escape (a ++ b) ≡ escape a ++ escape b
unfolding escape
escape-append [] b = refl
escape-append (x ∷ a) b =
    elim (eqb x 0) as (λ t. elim t [ true ↦ 0 ∷ 255 ∷ escape (a ++ b) | false ↦ x ∷ escape (a ++ b) ] ≡ elim t [ true ↦ 0 ∷ 255 ∷ escape a | false ↦ x ∷ escape a ] ++ escape b) [
      | true ↦ ap (λ (l : List ℕ). 0 ∷ 255 ∷ l) (escape-append a b)
      | false ↦ ap (λ (l : List ℕ). x ∷ l) (escape-append a b)
    ]

-- a text that begins with another: so do its bytes
pub prefix-begins : (x s : List ℕ) → begins x s ≡ true → begins (encode_prefix x) (encode_str s) ≡ true
unfolding encode_prefix encode_str
prefix-begins x s e =
    let r = begins-starts x s e in
    starts-begins _ _
    (escape r.0 ++ term, ap (λ (l : List ℕ). 3 ∷ l) (ap (λ (l : List ℕ). l ++ term) (ap escape r.1 ∙ escape-append x r.0) ∙ append_assoc (escape x) (escape r.0) term))
