-- Laws of `Each`: what holds of every element of the lists that the rules build.
use mathlib.Core.List.{List, [], ◌∷◌, ◌++◌, map}
use Rattle.std.specs.Prelude.{Option, None, Some}
use mathlib.Core.Bool.{Bool, true}
use mathlib.Core.Path.{◌≡◌, sym, subst}
use Prim.Native.Nat.{ℕ, zero, suc, ◌<◌}
use native.Mathlib.Nat.{not-suc-le-zero, le_of_suc-le-suc}
use lib.ListN.{length, get_or}
use Rattle.rules.specs.Base.{Each, done, more, ◌when_some◌, all, first, last_or}
use Rattle.rules.proofs.Cases.{by-test, true≢false, some≢none, some-injective}

-- nothing is said of it
abbrev pub Any : {A : Type 0} → A → Type 0
Any a = Unit {0}

-- what is there has the property
pub data Perhaps {A : Type 0} (P : A → Type 0) : Option A → Type 0 where
  nothing : Perhaps P None
  just : {x : A} → P x → Perhaps P (Some x)

module _ {A : Type 0} {P : A → Type 0} where
  pub each_append : {xs ys : List A} → Each P xs → Each P ys → Each P (xs ++ ys)
  each_append done h = h
  each_append (more p ps) h = more p (each_append ps h)

  -- one element added at the end
  pub each_snoc : {xs : List A} {x : A} → Each P xs → P x → Each P (xs ++ (x ∷ []))
  each_snoc h p = each_append h (more p done)

  pub each-get_or : {xs : List A} (n : ℕ) {d : A} → Each P xs → P d → P (get_or xs n d)
  each-get_or n done h = h
  each-get_or zero (more p ps) h = p
  each-get_or (suc n) (more p ps) h = each-get_or n ps h

  -- what holds of everything holds of each
  pub each_all : (xs : List A) → ((x : A) → P x) → Each P xs
  each_all [] h = done
  each_all (x ∷ xs) h = more (h x) (each_all xs h)

module _ {A B : Type 0} {P : A → Type 0} {Q : B → Type 0} where
  pub each_map : (f : A → B) {xs : List A} → ((x : A) → P x → Q (f x)) → Each P xs → Each Q (map f xs)
  each_map f h done = done
  each_map f h (more p ps) = more (h _ p) (each_map f h ps)

  pub perhaps-bind : {o : Option A} {f : A → Option B} → Perhaps P o → ((x : A) → P x → Perhaps Q (f x)) → Perhaps Q (o when_some f)
  unfolding ◌when_some◌
  perhaps-bind nothing h = nothing
  perhaps-bind (just p) h = h _ p

pub perhaps-any : {A : Type 0} (o : Option A) → Perhaps Any o
perhaps-any None = nothing
perhaps-any (Some x) = just tt

pub perhaps-some : {A : Type 0} {P : A → Type 0} (a : A) {o : Option A} → Perhaps P o → o ≡ Some a → P a
perhaps-some a nothing e = absurd (some≢none a (sym e))
perhaps-some {A} {P} a (just {x} p) e = subst P (some-injective x a e) p

-- what a test over the list says of each element
pub each-passes : {A : Type 0} (p : A → Bool) (xs : List A) → all p xs ≡ true → Each (λ x. p x ≡ true) xs
unfolding all
each-passes p [] e = done
each-passes p (x ∷ xs) e = by-test (λ r. r ≡ true → Each (λ y. p y ≡ true) (x ∷ xs)) (p x) (λ q r. more q (each-passes p xs r)) (λ q r. absurd (true≢false (sym r))) e

module _ {A : Type 0} {P Q : A → Type 0} where
  pub each-imply : ((x : A) → P x → Q x) → {xs : List A} → Each P xs → Each Q xs
  each-imply f done = done
  each-imply f (more {x} p h) = more (f x p) (each-imply f h)

module _ {A : Type 0} {P Q R : A → Type 0} where
  pub each_both : ((x : A) → P x → Q x → R x) → {xs : List A} → Each P xs → Each Q xs → Each R xs
  each_both f done done = done
  each_both f (more {x} p g) (more q h) = more (f x p q) (each_both f g h)

module _ {A : Type 0} {P : A → Type 0} where
  pub each_at : {xs : List A} → Each P xs → (i : ℕ) (d : A) → i < length xs → P (get_or xs i d)
  each_at done i d l = absurd (not-suc-le-zero l)
  each_at (more p h) zero d l = p
  each_at (more p h) (suc i) d l = each_at h i d (le_of_suc-le-suc l)

  pub each_first : (p : A → Bool) {xs : List A} → Each P xs → (a : A) → first p xs ≡ Some a → P a
  unfolding first
  each_first p done a e = absurd (some≢none a (sym e))
  each_first p (more {x} {xs} q h) a e =
      by-test (λ r. r ≡ Some a → P a) (p x) (λ t r. subst P (some-injective x a r) q) (λ t r. each_first p h a r) e

  pub each_last : (p : A → Bool) (found : Option A) → ((b : A) → found ≡ Some b → P b) → {xs : List A} → Each P xs → (a : A) → last_or found p xs ≡ Some a → P a
  unfolding last_or
  each_last p found g done a e = g a e
  each_last p found g (more {x} {xs} q h) a e =
      by-test (λ r. r ≡ Some a → P a) (p x)
      (λ t r. each_last p (Some x) (λ b q'. subst P (some-injective x b q') q) h a r)
      (λ t r. each_last p found g h a r) e

pub each-unmap : {A B : Type 0} (P : B → Type 0) (f : A → B) (xs : List A) → Each P (map f xs) → Each (λ x. P (f x)) xs
each-unmap P f [] h = done
each-unmap P f (x ∷ xs) (more p h) = more p (each-unmap P f xs h)
