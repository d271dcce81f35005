-- What gives nothing but a skip, as the code reads it.
use Prim.Native.Nat.{ℕ, ◌≤◌, ◌<◌}
use mathlib.Core.Path.{◌≡◌, refl, sym, ap, ◌∙◌, subst}
use mathlib.Core.Bool.{false}
use mathlib.Core.List.{List, [], ◌∷◌}
use Rattle.std.specs.Prelude.{Option, None, Some}
use native.Mathlib.Omega.{arith}
use borrow.Author.Tests.{lt-ltb}
use lib.Dec.{ltb}
use lib.ListN.{length}
use Rattle.rules.specs.File.{Tables, FieldTy, FieldPattern, type_at, node_at, record_fields, record_ty}
use Rattle.views.specs.Views.{run, field_at, pattern_at}
use Rattle.views.proofs.Runs.{length_run}
use Rattle.tables.specs.Tables.{SeenRun}
use Rattle.field_cases.specs.Silent.{empty_by, empty_at}

-- a Record with a pair is not empty, and a type that is no Record opens none
paired : (ps : List FieldPattern) (u : Option (List FieldTy)) → 0 < length ps → false ≡ empty_by (Some ps) u
unfolding empty_by
paired [] u h = absurd (omega arith)
paired (p ∷ ps) u h = refl

untyped : (ps : List FieldPattern) → false ≡ empty_by (Some ps) None
unfolding empty_by
untyped [] = refl
untyped (p ∷ ps) = refl

unpaired : (ps : List FieldPattern) (fs : List FieldTy) → length ps ≤ 0 → ltb 0 (length fs) ≡ empty_by (Some ps) (Some fs)
unfolding empty_by
unpaired [] [] h = refl
unpaired [] (f ∷ fs) h = lt-ltb 0 (length (f ∷ fs)) (omega arith)
unpaired (p ∷ ps) fs h = absurd (omega arith)

-- the pairs and the type's fields, as runs of the file
module _ (f : List ℕ) (T : Tables) (n t : ℕ) (a : Option (ℕ × ℕ)) (pairs : SeenRun f (pattern_at f) 4 (record_fields (node_at T n)) a) where
  pub no_record : a ≡ None → false ≡ empty_at T n t
  unfolding empty_at empty_by
  no_record e = ap (λ (o : Option (List FieldPattern)). empty_by o (record_ty (type_at T t))) (subst (SeenRun f (pattern_at f) 4 (record_fields (node_at T n))) e pairs).is

  module _ (k at : ℕ) (e : a ≡ Some (k, at)) where
    abbrev patterns : List FieldPattern
    patterns = run (pattern_at f) 4 k at

    as_some : (u : Option (List FieldTy)) → empty_by (Some patterns) u ≡ empty_by (record_fields (node_at T n)) u
    as_some u = ap (λ (o : Option (List FieldPattern)). empty_by o u) (subst (SeenRun f (pattern_at f) 4 (record_fields (node_at T n))) e pairs).is

    pub has-pairs : 0 < k → false ≡ empty_at T n t
    unfolding empty_at
    has-pairs h = paired patterns (record_ty (type_at T t)) (omega (arith, length_run (pattern_at f) 4 k at)) ∙ as_some (record_ty (type_at T t))

    module _ (b : Option (ℕ × ℕ)) (fields : SeenRun f (field_at f) 4 (record_ty (type_at T t)) b) where
      pub no-record-type : b ≡ None → false ≡ empty_at T n t
      unfolding empty_at
      no-record-type q = untyped patterns ∙ ap (empty_by (Some patterns)) (subst (SeenRun f (field_at f) 4 (record_ty (type_at T t))) q fields).is ∙ as_some (record_ty (type_at T t))

      pub opened-for-none : (m from : ℕ) → b ≡ Some (m, from) → k ≤ 0 → ltb 0 m ≡ empty_at T n t
      unfolding empty_at
      opened-for-none m from q z =
          ap (ltb 0) (sym (length_run (field_at f) 4 m from))
          ∙ unpaired patterns (run (field_at f) 4 m from) (omega (arith, length_run (pattern_at f) 4 k at))
          ∙ ap (empty_by (Some patterns)) (subst (SeenRun f (field_at f) 4 (record_ty (type_at T t))) q fields).is
          ∙ as_some (record_ty (type_at T t))
