-- What an index that remembers a constant's fate tells of its bytes.
use mathlib.Core.Bool.{Bool, true, false}
use mathlib.Core.List.{List}
use Rattle.std.specs.Prelude.{Option, None, Some}
use mathlib.Core.Path.{◌≡◌, refl, sym, ◌∙◌}
use Prim.Native.Nat.{ℕ, ◌<◌}
use native.Mathlib.Omega.{arith}
use lib.ListN.{length}
use Rattle.rules.specs.Constant.{Const, constant}
use Rattle.rules.specs.Literals.{lacks_bytes, brought_meets, meets}
use Rattle.file.specs.Tables.{tables_of}
use Rattle.accepted_file.specs.AcceptedFile.{AcceptedFile}
use Rattle.accepted_file.specs.Fates.{heard, fate_bytes, fate_by, fate, recalled}

fate-bytes : (lacks met heard : Bool) → fate_by lacks met heard ≡ fate_bytes → lacks ≡ false
unfolding fate_by
fate-bytes false met heard e = refl
fate-bytes true true heard e = absurd (omega arith)
fate-bytes true false true e = absurd (omega arith)
fate-bytes true false false e = absurd (omega arith)

fate-other : (o : Option Const) (met heard : Bool) → (fate_by (lacks_bytes o) met heard ≡ fate_bytes → ⊥) → o ≡ None
unfolding fate_by lacks_bytes
fate-other None met heard h = refl
fate-other (Some c) met heard h = absurd (h refl)

module _ (f ix : List ℕ) (r : AcceptedFile f ix) (n t d : ℕ) (h : n < length (tables_of f).nodes) (g : t < length (tables_of f).types) (e : recalled ix n t ≡ Some d) where
  pub recalled-bytes : d ≡ fate_bytes → lacks_bytes (constant (tables_of f) n t) ≡ false
  unfolding fate
  recalled-bytes q = fate-bytes _ (brought_meets (tables_of f) (meets (tables_of f)) n t) (heard (tables_of f) n t) (sym (r.remembered n t d h g e) ∙ q)

  pub recalled-other : (d ≡ fate_bytes → ⊥) → constant (tables_of f) n t ≡ None
  unfolding fate
  recalled-other q = fate-other (constant (tables_of f) n t) (brought_meets (tables_of f) (meets (tables_of f)) n t) (heard (tables_of f) n t) (λ w. q (r.remembered n t d h g e ∙ w))
