-- Whether a Record that is opened is heard, and what is remembered of a list of bindings, turn by turn.
use Prim.Native.Nat.{ℕ, zero, suc, ◌≤◌, ◌<◌}
use mathlib.Core.Bool.{Bool, true, false}
use mathlib.Core.List.{List, [], ◌∷◌}
use Rattle.std.specs.Prelude.{Option, None, Some, unwrap_or}
use mathlib.Core.Path.{◌≡◌, refl, sym, ap, ◌∙◌}
use native.Mathlib.Omega.{arith}
use lib.ListN.{length}
use Rattle.rules.specs.File.{Tables, FieldTy, FieldPattern, type_at, node_at, record_fields, record_ty}
use Rattle.rules.specs.Literals.{any_field}
use Rattle.rules.specs.Constant.{constant}
use Rattle.rules.specs.Literals.{lacks_bytes, brought_meets, meets}
use Rattle.accepted_file.specs.Fates.{heard_by, heard_below, heard, fate_by, fate}
use Rattle.field_cases.specs.Pieces.{patterns_of, open_fields, fields_for}
use borrow.Author.Tests.{lt-ltb, le-ltb}
use lib.Dec.{ltb}
use Rattle.rules.proofs.Cases.{pick}
use Rattle.fates.specs.Rows.{Heard, fate_or}

-- nothing to open
none-opened : (below : ℕ → ℕ → Bool) (ps : Option (List FieldPattern)) (fs : Option (List FieldTy)) → length (open_fields ps fs) ≡ 0 → true ≡ heard_by below ps fs
unfolding heard_by open_fields
none-opened below None fs h = refl
none-opened below (Some ps) None h = refl
none-opened below (Some ps) (Some []) h = refl
none-opened below (Some ps) (Some (f ∷ fs)) h = absurd (omega arith)

pub heard-none : (T : Tables) (n t : ℕ) → length (fields_for T n t) ≡ 0 → Heard T n t true
unfolding heard_below fields_for
heard-none T n t h = record { is = go }
  where
    go : (limit : ℕ) → t < limit → true ≡ heard_below T limit n t
    go zero l = refl
    go (suc m) l = none-opened (heard_below T m) (record_fields (node_at T n)) (record_ty (type_at T t)) h

-- the pieces of what is opened
pieces-opened : (below : ℕ → ℕ → Bool) (ps : Option (List FieldPattern)) (fs : Option (List FieldTy)) → (length (open_fields ps fs) ≡ 0 → ⊥) → any_field below (unwrap_or ps []) (open_fields ps fs) ≡ heard_by below ps fs
unfolding heard_by open_fields
pieces-opened below None fs h = absurd (h refl)
pieces-opened below (Some ps) None h = absurd (h refl)
pieces-opened below (Some ps) (Some []) h = absurd (h refl)
pieces-opened below (Some ps) (Some (f ∷ fs)) h = refl

pub heard-pieces : (T : Tables) (n t : ℕ) (r : Bool) → (length (fields_for T n t) ≡ 0 → ⊥) → ((limit : ℕ) → t ≤ limit → r ≡ any_field (heard_below T limit) (patterns_of T n) (fields_for T n t)) → Heard T n t r
unfolding heard_below fields_for patterns_of
heard-pieces T n t r h q = record { is = go }
  where
    go : (limit : ℕ) → t < limit → r ≡ heard_below T limit n t
    go zero l = absurd (omega arith)
    go (suc m) l = q m (omega arith) ∙ pieces-opened (heard_below T m) (record_fields (node_at T n)) (record_ty (type_at T t)) h

-- the four fates
module _ (T : Tables) (n t : ℕ) where
  abbrev by : Bool → Bool → Bool → ℕ
  by a b c = fate_by a b c

  pub fate-bytes : lacks_bytes (constant T n t) ≡ false → 3 ≡ fate T n t
  unfolding fate fate_by
  fate-bytes e = sym (ap (λ (a : Bool). by a (brought_meets T (meets T) n t) (heard T n t)) e)

  module _ (e : lacks_bytes (constant T n t) ≡ true) where
    pub fate-met : brought_meets T (meets T) n t ≡ true → 0 ≡ fate T n t
    unfolding fate fate_by
    fate-met m = sym (ap (λ (a : Bool). by a (brought_meets T (meets T) n t) (heard T n t)) e ∙ ap (λ (b : Bool). by true b (heard T n t)) m)

    module _ (m : brought_meets T (meets T) n t ≡ false) (l : t < length T.types) where
      opened-fate : (b : Bool) → Heard T n t b → by true false b ≡ fate T n t
      unfolding fate fate_by heard
      opened-fate b h = ap (by true false) (h.is (length T.types) l) ∙ sym (ap (λ (a : Bool). by a (brought_meets T (meets T) n t) (heard T n t)) e ∙ ap (λ (b : Bool). by true b (heard T n t)) m)

      pub fate-heard : (b : Bool) → Heard T n t b → b ≡ true → 1 ≡ fate T n t
      unfolding fate_by
      fate-heard b h q = sym (ap (by true false) q) ∙ opened-fate b h

      pub fate-quiet : (b : Bool) → Heard T n t b → b ≡ false → 2 ≡ fate T n t
      unfolding fate_by
      fate-quiet b h q = sym (ap (by true false) q) ∙ opened-fate b h

  -- and 0 past the last type
  pub or-in : t < length T.types → fate T n t ≡ fate_or T n t
  unfolding fate_or
  or-in h = sym (pick (ltb t (length T.types)) true _ _ (lt-ltb t (length T.types) h))

  pub or-past : length T.types ≤ t → 0 ≡ fate_or T n t
  unfolding fate_or
  or-past h = sym (pick (ltb t (length T.types)) false _ _ (le-ltb t (length T.types) h))
