-- Every Var of an accepted file has a name of the file, and a file that is read has no more names than the tables have entries for.
use mathlib.Core.Bool.{Bool, true, false}
use mathlib.Core.List.{List, [], ◌∷◌}
use mathlib.Core.Path.{◌≡◌, refl, sym, ap, ◌∙◌, subst}
use Prim.Native.Nat.{ℕ, zero, suc, ◌≤◌, ◌<◌}
use native.Mathlib.Omega.{arith}
use lib.Dec.{leb}
use lib.ListN.{length}
use Rattle.rules.specs.Limits.{name_limit}
use Rattle.rules.specs.File.{Tables, Node, node_at, no_tables}
use Rattle.rules.specs.Read as Read
use Rattle.rules.specs.Read.{Read, got, refused, Reader, ◌>>=◌, follow, pure, refuse, many, section, end, ten_sections, file}
use Rattle.rules.specs.Checks.{node_in, is_name}
use Rattle.rules.proofs.Cases.{leb-le, ltb-lt}
use Rattle.rules.proofs.Each.{Any, each-get_or}
use Rattle.rules.proofs.Numbers.{refused≢got}
use Rattle.rules.proofs.Sound.{Passed, numbers-in}

-- what was read
read_or : {A : Type 0} → A → Read A → A
read_or d (got a rest) = a
read_or d (refused n) = d

got_same : {A : Type 0} (a b : A) (rest rest' : List ℕ) → got a rest ≡ got b rest' → a ≡ b
unfolding read_or
got_same a b rest rest' e = ap (read_or a) e

-- all that a reader gives has the property
record Gives {A : Type 0} (Q : A → Type 0) (r : Reader A) : Type 0 where
  of : (bytes : List ℕ) (a : A) (rest : List ℕ) → r bytes ≡ got a rest → Q a

gives-any : {A : Type 0} (r : Reader A) → Gives Any r
gives-any r = record { of = λ bytes a rest e. tt }

gives-pure : {A : Type 0} {Q : A → Type 0} (a : A) → Q a → Gives Q (pure a)
unfolding pure
gives-pure {A} {Q} a q = record { of = λ bytes b rest e. subst Q (got_same a b bytes rest e) q }

gives-bind : {A C : Type 0} {Q : A → Type 0} {R : C → Type 0} {r : Reader A} {f : A → Reader C} → Gives Q r → ((a : A) → Q a → Gives R (f a)) → Gives R (r >>= f)
unfolding ◌>>=◌ follow
gives-bind {A} {C} {Q} {R} {r} {f} h k = record { of = λ bytes c rest e. go bytes c rest (r bytes) refl e }
  where
    go : (bytes : List ℕ) (c : C) (rest : List ℕ) (x : Read A) → r bytes ≡ x → follow x f ≡ got c rest → R c
    go bytes c rest (got a left) e g = (k a (h.of bytes a left e)).of left c rest g
    go bytes c rest (refused n) e g = absurd (refused≢got n c rest g)

gives-many : {A : Type 0} (n : ℕ) (r : Reader A) → Gives (λ xs. length xs ≡ n) (many n r)
unfolding many
gives-many zero r = gives-pure [] refl
gives-many (suc n) r = gives-bind (gives-any r) λ x _. gives-bind (gives-many n r) λ xs e. gives-pure (x ∷ xs) (ap suc e)

gives-section : {A : Type 0} (limit : ℕ) (r : Reader A) → Gives (λ xs. length xs ≤ limit) (section limit r)
unfolding section refuse
gives-section {A} limit r = gives-bind (gives-any Read.u16) λ n _. go n (leb n limit) refl
  where
    go : (n : ℕ) (b : Bool) → leb n limit ≡ b → Gives (λ (xs : List A). length xs ≤ limit) (elim b [ true ↦ many n r | false ↦ refuse 4 ])
    go n true e = record { of = λ bytes xs rest g. omega (arith, (gives-many n r).of bytes xs rest g, leb-le n limit e) }
    go n false e = record { of = λ bytes xs rest g. absurd (refused≢got 4 xs rest g) }

gives-end : {A : Type 0} {Q : A → Type 0} (a : A) → Q a → Gives Q (end a)
unfolding end
gives-end {A} {Q} a q = record { of = go }
  where
    go : (bytes : List ℕ) (b : A) (rest : List ℕ) → end a bytes ≡ got b rest → Q b
    go [] b rest e = subst Q (got_same a b [] rest e) q
    go (x ∷ bytes) b rest e = absurd (refused≢got 7 b rest e)

abbrev FewNames : Tables → Type 0
FewNames T = length T.names ≤ name_limit

sections-names : Gives FewNames ten_sections
unfolding ten_sections
sections-names =
    gives-bind (gives-section name_limit Read.name) λ ns few.
    gives-bind (gives-any _) λ ts _.
    gives-bind (gives-any _) λ ps _.
    gives-bind (gives-any _) λ ms _.
    gives-bind (gives-any _) λ bs _.
    gives-bind (gives-any _) λ hs _.
    gives-bind (gives-any _) λ fs _.
    gives-bind (gives-any _) λ ks _.
    gives-bind (gives-any _) λ cs _.
    gives-bind (gives-any _) λ ls _.
    gives-end _ few

few-names : (bytes : List ℕ) (T : Tables) (rest : List ℕ) → file bytes ≡ got T rest → FewNames T
unfolding file
few-names [] T rest e = subst FewNames (got_same no_tables T [] rest e) (omega arith)
few-names (b ∷ bytes) T rest e = sections-names.of (b ∷ bytes) T rest e

-- a Var's name
pub var-names : (bytes : List ℕ) (T : Tables) (rest : List ℕ) → file bytes ≡ got T rest → Passed T → (n x : ℕ) → node_at T n ≡ Node.Var x → x < name_limit
unfolding node_at node_in is_name
var-names bytes T rest reads passed n x e =
    let known : node_in T (node_at T n) ≡ true = each-get_or n (numbers-in T passed).nodes refl in
    omega (arith, ltb-lt x (length T.names) (sym (ap (node_in T) e) ∙ known), few-names bytes T rest reads)
