-- Reading back what a plan holds: a binding in plan form, its numbers within their fields, is read as itself.
use mathlib.Core.List.{List, ◌∷◌, ◌++◌, append_assoc}
use Rattle.std.specs.Prelude.{Option, None, Some}
use mathlib.Core.Path.{◌≡◌, refl, sym, ap, ◌∙◌}
use Prim.Native.Nat.{ℕ, suc, ◌/◌, ◌%◌, ◌<◌}
use native.Mathlib.Omega.{arith}
use borrow.Author.Tests.{ne_eqb}
use lib.Dec.{eqb}
use lib.ListN.{length, get_or}
use Rattle.rules.specs.Base.{Each, done, more, concat_map}
use Rattle.rules.specs.File.{FieldPath, Slot, Binding}
use Rattle.rules.specs.Read
use Rattle.rules.specs.Read.{Read, got, Reader, follow, ◌>>=◌, pure, refuse, u8, many, several, kind}
use Rattle.rules.specs.Plan
use Rattle.rules.proofs.Cases.{by-test, true≢false}
use Rattle.rules.proofs.Each.{each-imply}

-- numbers that their fields hold
pub record PathNumbers (p : FieldPath) : Type 0 where
  pub field : p.field < 65536
  pub count : length p.steps < 256
  pub steps : Each (λ n. n < 4294967296) p.steps

-- FFFF stands for none
abbrev pub OptionNumber : Option ℕ → Type 0
OptionNumber None = Unit {0}
OptionNumber (Some n) = n < 65535

abbrev pub SlotNumbers : Slot → Type 0
SlotNumbers (Slot.Row a p) = (a < 65536) × OptionNumber p
SlotNumbers (Slot.Key a t) = (a < 65536) × (t < 65536)
SlotNumbers (Slot.Derived a) = a < 65536
SlotNumbers (Slot.Field a p t) = (a < 65536) × PathNumbers p × (t < 65536)
SlotNumbers (Slot.Value a t) = (a < 65536) × (t < 65536)
SlotNumbers (Slot.Const n) = n < 65536

pub record BindingNumbers (b : Binding) : Type 0 where
  pub name : b.name < 65536
  pub slot : SlotNumbers b.slot

-- a reader takes these bytes for a, whatever follows them
pub record Back {A : Type 0} (r : Reader A) (bytes : List ℕ) (a : A) : Type 0 where
  pub reads : (rest : List ℕ) → r (bytes ++ rest) ≡ got a rest

module _ {A B : Type 0} where
  -- one reader, then what goes on with what it read
  step : {r : Reader A} {bytes : List ℕ} {a : A} → Back r bytes a → (f : A → Reader B) (rest : List ℕ) {out : Read B} → f a rest ≡ out → (r >>= f) (bytes ++ rest) ≡ out
  unfolding ◌>>=◌ follow
  step h f rest e = ap (λ x. follow x f) (h.reads rest) ∙ e

pub back-u16 : (n : ℕ) → n < 65536 → Back Read.u16 (Plan.u16 n) n
unfolding Read.u16 Plan.u16 ◌>>=◌ follow u8 pure
back-u16 n h = record { reads = λ rest. ap (λ m. got m rest) (omega arith) }

pub back-u32 : (n : ℕ) → n < 4294967296 → Back Read.u32 (Plan.u32 n) n
unfolding Read.u32 Read.u16 Plan.u32 ◌>>=◌ follow u8 pure
back-u32 n h =
    let second : n / 256 / 256 ≡ n / 65536 = omega arith in
    let third : n / 65536 / 256 ≡ n / 16777216 = omega arith in
    let last : n / 16777216 % 256 ≡ n / 16777216 = omega arith in
    record { reads = λ rest. ap (λ m. got m rest) (omega arith) }

pub back-optional : (n : Option ℕ) → OptionNumber n → Back Read.optional (Plan.optional n) n
unfolding Read.optional Plan.optional pure
back-optional None h = record { reads = λ rest. step (back-u16 65535 (omega arith)) _ rest refl }
back-optional (Some n) h =
    record {
      reads = λ rest. step (back-u16 n (omega arith)) _ rest
          (ap (λ (o : Option ℕ). got o rest) (by-test (λ (o : Option ℕ). o ≡ Some n) (eqb n 65535) (λ e. absurd (true≢false (sym e ∙ ne_eqb n 65535 (λ q. omega arith)))) (λ e. refl)));
    }

module _ {A : Type 0} (r : Reader A) (encode : A → List ℕ) where
  back-many : {xs : List A} → Each (λ x. Back r (encode x) x) xs → Back (many (length xs) r) (concat_map encode xs) xs
  unfolding many concat_map pure
  back-many done = record { reads = λ rest. refl }
  back-many (more {x} {xs} h hs) =
      record {
        reads = λ rest. ap (many (suc (length xs)) r) (append_assoc (encode x) (concat_map encode xs) rest) ∙ step h _ _ (step (back-many hs) _ rest refl);
      }

  back-several : {xs : List A} → length xs < 256 → Each (λ x. Back r (encode x) x) xs → Back (several r) (length xs % 256 ∷ concat_map encode xs) xs
  unfolding several ◌>>=◌ follow u8
  back-several {xs} l hs = record { reads = λ rest. ap (λ n. many n r (concat_map encode xs ++ rest)) (omega arith) ∙ (back-many hs).reads rest }

back-path : (p : FieldPath) → PathNumbers p → Back Read.path (Plan.path p) p
unfolding Read.path Plan.path pure
back-path p h =
    record {
      reads = λ rest. ap Read.path (append_assoc (Plan.u16 p.field) (length p.steps % 256 ∷ concat_map Plan.u32 p.steps) rest)
          ∙ step (back-u16 p.field h.field) _ _ (step (back-several Read.u32 Plan.u32 h.count (each-imply back-u32 h.steps)) _ rest refl);
    }

-- what a slot of two or three numbers holds after its kind
back-two : {A B C : Type 0} (r : Reader A) (q : Reader B) (make : A → B → C) {x y : List ℕ} {a : A} {b : B} → Back r x a → Back q y b → Back (r >>= λ a'. (q >>= λ b'. pure (make a' b'))) (x ++ y) (make a b)
unfolding pure
back-two r q make {x} {y} g h =
    record { reads = λ rest. ap (r >>= λ a'. (q >>= λ b'. pure (make a' b'))) (append_assoc x y rest) ∙ step g _ _ (step h _ rest refl) }

back-kind : {A : Type 0} (rs : List (Reader A)) (k : ℕ) {bytes : List ℕ} {a : A} → Back (get_or rs k (refuse 5)) bytes a → Back (kind rs) (k ∷ bytes) a
unfolding kind ◌>>=◌ follow u8
back-kind rs k h = record { reads = h.reads }

pub back-slot : (s : Slot) → SlotNumbers s → Back Read.slot (Plan.slot s) s
unfolding Read.slot Plan.slot pure Read.row_slot Read.key_slot Read.derived_slot Read.field_slot Read.value_slot Read.const_slot
back-slot (Slot.Row a p) h = back-kind _ 0 (back-two Read.u16 Read.optional Slot.Row (back-u16 a h.0) (back-optional p h.1))
back-slot (Slot.Key a t) h = back-kind _ 1 (back-two Read.u16 Read.u16 Slot.Key (back-u16 a h.0) (back-u16 t h.1))
back-slot (Slot.Derived a) h = back-kind _ 2 (record { reads = λ rest. step (back-u16 a h) _ rest refl })
back-slot (Slot.Field a p t) h =
    back-kind _ 3
    (record {
      reads = λ rest. ap Read.field_slot (append_assoc (Plan.u16 a ++ Plan.path p) (Plan.u16 t) rest ∙ append_assoc (Plan.u16 a) (Plan.path p) (Plan.u16 t ++ rest))
          ∙ step (back-u16 a h.0) _ _ (step (back-path p h.1) _ _ (step (back-u16 t h.2) _ rest refl));
    })
back-slot (Slot.Value a t) h = back-kind _ 4 (back-two Read.u16 Read.u16 Slot.Value (back-u16 a h.0) (back-u16 t h.1))
back-slot (Slot.Const n) h = back-kind _ 5 (record { reads = λ rest. step (back-u16 n h) _ rest refl })

-- what a plan says of a binding is read as that binding
pub back-binding : (b : Binding) → BindingNumbers b → Back Read.binding (Plan.binding b) b
unfolding Read.binding Plan.binding pure
back-binding b h = back-two Read.u16 Read.slot (λ x s. record { name = x; slot = s }) (back-u16 b.name h.name) (back-slot b.slot h.slot)
