-- Proofs by the cases of a test or an option, and what a passed test says.
use mathlib.Core.Bool.{Bool, true, false}
use Rattle.std.specs.Prelude.{Option, None, Some}
use mathlib.Core.Path.{◌≡◌, refl, sym, ap, subst}
use Prim.Native.Nat.{ℕ, ◌≤◌, ◌<◌}
use borrow.Author.Tests.{ltb-true, ltb-false, eqb-true, eqb-false}
use lib.Dec.{T, leb, ltb, eqb, leb→le, ltb→lt, eqb→eq}
use Rattle.rules.specs.Base.{both, ◌when_some◌}

-- what holds of both branches holds of the test
pub by-test : {A : Type 0} (P : A → Type 0) (b : Bool) {x y : A} → (b ≡ true → P x) → (b ≡ false → P y) → P (elim b [ true ↦ x | false ↦ y ])
by-test P true f g = f refl
by-test P false f g = g refl

pub by-option : {A B : Type 0} (P : B → Type 0) (o : Option A) {x : B} {f : A → B} → (o ≡ None → P x) → ((a : A) → o ≡ Some a → P (f a)) → P (elim o [ None ↦ x | Some a ↦ f a ])
by-option P None g h = g refl
by-option P (Some a) g h = h a refl

-- a test's two ways
pub ways : (b : Bool) (P : Type 0) → (b ≡ true → P) → (b ≡ false → P) → P
ways true P f g = f refl
ways false P f g = g refl

-- the two ways of an order, and of an equation
pub by_order : {P : Type 0} (a b : ℕ) → (a < b → P) → (b ≤ a → P) → P
by_order {P} a b f g = ways (ltb a b) P (λ e. f (ltb-true a b e)) (λ e. g (ltb-false a b e))

pub by_equal : {P : Type 0} (a b : ℕ) → (a ≡ b → P) → ((a ≡ b → ⊥) → P) → P
by_equal {P} a b f g = ways (eqb a b) P (λ e. f (eqb-true a b e)) (λ e. g (eqb-false a b e))

-- one test for another
pub pick : {A : Type 0} (b c : Bool) (x y : A) → b ≡ c → ◌≡◌ {A = A} (elim b [ true ↦ x | false ↦ y ]) (elim c [ true ↦ x | false ↦ y ])
pick b c x y e = ap (λ (t : Bool). elim t [ true ↦ x | false ↦ y ]) e

-- true is not false, and something is not nothing
abbrev IsTrue : Bool → Type 0
IsTrue true = Unit {0}
IsTrue false = ⊥

pub true≢false : true ≡ false → ⊥
true≢false e = subst IsTrue e tt

abbrev IsSomething : {A : Type 0} → Option A → Type 0
IsSomething None = ⊥
IsSomething (Some a) = Unit {0}

pub some≢none : {A : Type 0} (a : A) → Some a ≡ None → ⊥
some≢none a e = subst IsSomething e tt

value_or : {A : Type 0} → A → Option A → A
value_or d None = d
value_or d (Some a) = a

pub some-injective : {A : Type 0} (a b : A) → Some a ≡ Some b → a ≡ b
unfolding value_or
some-injective a b e = ap (value_or a) e

-- a test that passed
pub passed : (b : Bool) → b ≡ true → T b
passed b e = subst T (sym e) tt

pub leb-le : (m n : ℕ) → leb m n ≡ true → m ≤ n
leb-le m n e = leb→le m n (passed _ e)

pub ltb-lt : (m n : ℕ) → ltb m n ≡ true → m < n
ltb-lt m n e = ltb→lt m n (passed _ e)

pub eqb-eq : (m n : ℕ) → eqb m n ≡ true → m ≡ n
eqb-eq m n e = eqb→eq m n (passed _ e)

pub both_left : (a b : Bool) → both a b ≡ true → a ≡ true
both_left true b e = refl
both_left false b e = e

pub both_right : (a b : Bool) → both a b ≡ true → b ≡ true
both_right true b e = e
both_right false b e = absurd (true≢false (sym e))

pub both_true : (a b : Bool) → a ≡ true → b ≡ true → both a b ≡ true
both_true true b e f = f
both_true false b e f = e

pub both-unit : (b : Bool) → both b true ≡ b
both-unit true = refl
both-unit false = refl

-- Options in turn: what the whole gives, each step gave.
pub bind-some : {A B : Type 0} (o : Option A) (f : A → Option B) (b : B) → (o when_some f) ≡ Some b → (a : A) × (o ≡ Some a) × (f a ≡ Some b)
unfolding ◌when_some◌
bind-some None f b e = absurd (some≢none b (sym e))
bind-some (Some a) f b e = (a, refl, e)
