-- A search from its start is the search from where it has come to: a law for each turn, for what is found, and for the end.
use Prim.Native.Nat.{ℕ, suc, ◌+◌, ◌*◌, ◌≤◌, ◌<◌}
use mathlib.Core.Path.{◌≡◌, refl, sym, ap, subst, ◌∙◌}
use mathlib.Core.Bool.{Bool, true, false}
use mathlib.Core.List.{List, ◌∷◌}
use Rattle.std.specs.Prelude.{Option, None, Some}
use native.Mathlib.Omega.{arith}
use native.Mathlib.Numerals.{add-one}
use borrow.Author.Tests.{eq-eqb, ne_eqb}
use lib.Dec.{eqb}
use lib.ListN.{length, get_or, drop, drop_of_length-le}
use lib.Seq.{drop-cons}
use Rattle.rules.specs.Base.{first, ◌when_some◌}
use Rattle.rules.specs.File.{Tables, Ty, record_ty, FieldTy, FieldPath, Hoisted, Fetched}
use Rattle.rules.specs.Lookup.{FieldAt, field_from, field_of, fetched_register}
use Rattle.views.specs.Views.{run, type_of, TypeInside, SeenType, hoisted_at, fetched_at}
use Rattle.views.specs.declared.TypeView.{TypeView}
use Rattle.views.specs.declared.TypeView.TheVariants as Tv
use Rattle.tables.proofs.Firsts.{first_given, where-passes, first-record}
use Rattle.fields.specs.Found.{hoisted_name, fetches}

module _ {A : Type 0} (xs : List A) (d : A) (i : ℕ) where
  pub at_place : i < length xs → drop i xs ≡ get_or xs i d ∷ drop (i + 1) xs
  at_place h = rw add-one (drop-cons xs i d h)

  pub first_more : (p : A → Bool) → i < length xs → p (get_or xs i d) ≡ false → first p (drop i xs) ≡ first p (drop (i + 1) xs)
  unfolding first
  first_more p h e = rw (at_place h) (simp (first, e))

  pub first-here : (p : A → Bool) → i < length xs → p (get_or xs i d) ≡ true → first p (drop i xs) ≡ Some (get_or xs i d)
  unfolding first
  first-here p h e = rw (at_place h) (simp (first, e))

  pub first-end : (p : A → Bool) → length xs ≤ i → first p (drop i xs) ≡ None
  unfolding first
  first-end p h = rw (drop_of_length-le xs h)

-- a record type's fields
abbrev pub called : ℕ → FieldTy → Bool
called x f = eqb f.name x

abbrev pub placed : ℕ → FieldTy → FieldAt
placed i f = record { index = i; type = f.type }

pub first-field : (g : ℕ → FieldTy) (at n x : ℕ) → first_given (where-passes (called x) placed g 4 at) n 0 ≡ field_from 0 (run g 4 n at) x
unfolding field_from
first-field g at n x =
    first-record (called x) placed g 4 at (λ i fs. field_from i fs x) (λ _. refl)
    (λ i f fs. let s : i + 1 ≡ suc i = omega arith in ap (λ (j : ℕ). elim (called x f) as (λ _. Option FieldAt) [ true ↦ Some (placed i f) | false ↦ field_from j fs x ]) s) n

-- a type that was seen as a view
pub field-seen : {f : List ℕ} {ty : Ty} {v : TypeView} (w : TypeView) (x : ℕ) → SeenType f ty v → v ≡ w → field_of (type_of f w) x ≡ field_of ty x
field-seen {f} w x s e = ap (λ (w : TypeView). field_of (type_of f w) x) (sym e) ∙ ap (λ (t : Ty). field_of t x) s.is

pub no-fields : (f : List ℕ) (v : TypeView) (x : ℕ) → ((n at : ℕ) → v ≡ Tv.Record n at → ⊥) → None ≡ field_of (type_of f v) x
unfolding field_of record_ty ◌when_some◌
no-fields f Tv.Int x h = refl
no-fields f Tv.Str x h = refl
no-fields f Tv.Bytes x h = refl
no-fields f (Tv.Fact p) x h = refl
no-fields f (Tv.Record n at) x h = absurd (h n at refl)
no-fields f (Tv.Union n at) x h = refl

pub fields-inside : {f : List ℕ} {ty : Ty} {v : TypeView} (n at : ℕ) → SeenType f ty v → v ≡ Tv.Record n at → at + 4 * n ≤ length f
fields-inside {f} n at s e = subst (TypeInside f) e s.inside

-- the file's hoisted entries from entry j on
unfoldable pub hoisted_from : Tables → ℕ → ℕ → Option ℕ
hoisted_from T n j = first (λ (h : Hoisted). eqb h.node n) (drop j T.hoisted) when_some λ h. Some h.name

module _ (T : Tables) (n i : ℕ) where
  pub hoisted-start : hoisted_name T n ≡ hoisted_from T n 0
  unfolding hoisted_name hoisted_from
  hoisted-start = refl

  pub hoisted-more : (h : Hoisted) → h ≡ hoisted_at T i → i < length T.hoisted → (h.node ≡ n → ⊥) → hoisted_from T n i ≡ hoisted_from T n (i + 1)
  unfolding hoisted_at hoisted_from
  hoisted-more h e l d = ap (λ (o : Option Hoisted). o when_some λ h. Some h.name) (first_more T.hoisted _ i _ l (ap (λ (h : Hoisted). eqb h.node n) (sym e) ∙ ne_eqb _ _ d))

  pub hoisted-here : (h : Hoisted) → h ≡ hoisted_at T i → i < length T.hoisted → h.node ≡ n → hoisted_from T n i ≡ Some h.name
  unfolding hoisted_at hoisted_from ◌when_some◌
  hoisted-here h e l d =
      ap (λ (o : Option Hoisted). o when_some λ h. Some h.name) (first-here T.hoisted _ i _ l (ap (λ (h : Hoisted). eqb h.node n) (sym e) ∙ eq-eqb _ _ d)) ∙ ap (λ (h : Hoisted). Some h.name) (sym e)

  pub hoisted-end : length T.hoisted ≤ i → hoisted_from T n i ≡ None
  unfolding hoisted_from ◌when_some◌
  hoisted-end l = ap (λ (o : Option Hoisted). o when_some λ h. Some h.name) (first-end T.hoisted (record { node = 0; name = 0 }) i _ l)

-- the file's fetched entries from entry j on
unfoldable pub fetched_from : Tables → ℕ → FieldPath → ℕ → Option ℕ
fetched_from T a p j = first (fetches a p) (drop j T.fetched) when_some λ f. Some f.register

module _ (T : Tables) (a : ℕ) (p : FieldPath) (i : ℕ) where
  pub fetched-start : fetched_register T a p ≡ fetched_from T a p 0
  unfolding fetched_register fetched_from
  fetched-start = refl

  pub fetched-more : (f : Fetched) → f ≡ fetched_at T i → i < length T.fetched → fetches a p f ≡ false → fetched_from T a p i ≡ fetched_from T a p (i + 1)
  unfolding fetched_at fetched_from
  fetched-more f e l d = ap (λ (o : Option Fetched). o when_some λ f. Some f.register) (first_more T.fetched _ i (fetches a p) l (ap (fetches a p) (sym e) ∙ d))

  pub fetched-here : (f : Fetched) → f ≡ fetched_at T i → i < length T.fetched → fetches a p f ≡ true → fetched_from T a p i ≡ Some f.register
  unfolding fetched_at fetched_from ◌when_some◌
  fetched-here f e l d =
      ap (λ (o : Option Fetched). o when_some λ f. Some f.register) (first-here T.fetched _ i (fetches a p) l (ap (fetches a p) (sym e) ∙ d)) ∙ ap (λ (f : Fetched). Some f.register) (sym e)

  pub fetched-end : length T.fetched ≤ i → fetched_from T a p i ≡ None
  unfolding fetched_from ◌when_some◌
  fetched-end l = ap (λ (o : Option Fetched). o when_some λ f. Some f.register) (first-end T.fetched (record { address = 0; path = p; register = 0 }) i (fetches a p) l)
