-- The fields of a record in turn, of which i are walked: the loop of `partial` and that of a record key, which differ in where a field stands and in what
-- is done for one that no pattern names.
use Prim.Native.Nat.{ℕ, ◌+◌, ◌≤◌, ◌<◌}
use mathlib.Core.Path.{◌≡◌, refl, sym, ap, ◌∙◌}
use mathlib.Core.List.{List}
use Rattle.std.specs.Prelude.{Option, Some, None}
use native.Mathlib.Omega.{arith}
use lib.ListN.{length, get_or, drop}
use Rattle.rules.specs.File as File
use Rattle.rules.specs.File.{Tables}
use Rattle.rules.specs.Walk.{each_field, field_below}
use Rattle.state.specs.State.{State}
use Rattle.state.specs.Ops.{ops}
use Rattle.paths.specs.Paths.{path_of, Holds}
use Rattle.paths.specs.declared.FieldPath.{FieldPath}
use Rattle.field_cases.specs.Pieces.{patterns_of, fields_for, no_field, Pieced}
use Rattle.field_cases.specs.declared.Piece.{Piece}
use Rattle.key.specs.Cycle.{Walks}
use Rattle.key.proofs.Fields.{turn, each_more, each-end}

-- the fields from i, walked by `field` below m
abbrev left : Tables → ℕ → ℕ → ℕ → (State → State) → (ℕ → File.FieldPath) → ℕ → ℕ → State → State
left T a n t missing place m i s = each_field (field_below (ops T) T a m) missing place (patterns_of T n) i (drop i (fields_for T n t)) s

pub record Going (T : Tables) (a n t : ℕ) (missing : State → State) (place : ℕ → File.FieldPath) (i : ℕ) (s₀ s : State) (w₀ p₀ w p : List ℕ) : Type 0 where
  pub low : i ≤ length (fields_for T n t)
  pub work-long : length w ≡ length w₀
  pub plan-long : length p ≡ length p₀
  pub is : (m : ℕ) → t ≤ m → each_field (field_below (ops T) T a m) missing place (patterns_of T n) 0 (fields_for T n t) s₀ ≡ left T a n t missing place m i s

pub going-first : (T : Tables) (a n t : ℕ) (missing : State → State) (place : ℕ → File.FieldPath) (s : State) (w p : List ℕ) → Going T a n t missing place 0 s s w p w p
going-first T a n t missing place s w p = record { low = omega arith; work-long = refl; plan-long = refl; is = λ m h. refl }

module _ (T : Tables) (a n t : ℕ) (missing : State → State) (place : ℕ → File.FieldPath) (i : ℕ) (s₀ s : State) (w₀ p₀ w p : List ℕ) (v : Going T a n t missing place i s₀ s w₀ p₀ w p) where
  module _ (h : i < length (fields_for T n t)) (r : Piece) (k : Pieced T n t i r) where
    abbrev one : ℕ → Option ℕ → ℕ → State
    one m o c = turn (field_below (ops T) T a m) missing place (patterns_of T n) (fields_for T n t) i s o c

    module _ (s' : State) (w' p' : List ℕ) (ew : length w' ≡ length w) (ep : length p' ≡ length p) where
      -- one field more, by what was found of it
      pub going-turn : ((m : ℕ) → t ≤ m → s' ≡ one m (r.pattern) r.ty) → Going T a n t missing place (i + 1) s₀ s' w₀ p₀ w' p'
      going-turn q =
          record {
            low = omega arith;
            work-long = ew ∙ v.work-long;
            plan-long = ep ∙ v.plan-long;
            is = λ m l.
                v.is m l
                ∙ each_more (field_below (ops T) T a m) missing place (patterns_of T n) (fields_for T n t) i s h
                ∙ ap (left T a n t missing place m (i + 1))
                (ap (λ (x : Option ℕ). one m x (get_or (fields_for T n t) i no_field).type) (sym k.found)
                ∙ ap (one m (r.pattern)) (sym k.type)
                ∙ sym (q m l));
          }

      pub going-missing : r.pattern ≡ None → s' ≡ missing s → Going T a n t missing place (i + 1) s₀ s' w₀ p₀ w' p'
      unfolding turn
      going-missing e q = going-turn (λ m l. q ∙ ap (λ (x : Option ℕ). one m (x) r.ty) (sym e))

      pub going-given : (j : ℕ) → r.pattern ≡ Some j → (q : FieldPath) → Holds q (place i) → Walks T a j r.ty (path_of q) s s' → Going T a n t missing place (i + 1) s₀ s' w₀ p₀ w' p'
      unfolding turn
      going-given j e q o x =
          going-turn
          (λ m l.
          x.is m (omega (arith, k.lower.lower))
          ∙ ap (λ (y : File.FieldPath). field_below (ops T) T a m j r.ty y s) o.is
          ∙ ap (λ (x : Option ℕ). one m x r.ty) (sym e))

  pub going_end : length (fields_for T n t) ≤ i → (m : ℕ) → t ≤ m → s ≡ each_field (field_below (ops T) T a m) missing place (patterns_of T n) 0 (fields_for T n t) s₀
  going_end h m l = sym (each-end (field_below (ops T) T a m) missing place (patterns_of T n) (fields_for T n t) i s h) ∙ sym (v.is m l)
