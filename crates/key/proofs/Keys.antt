-- `key`, by its type's and its pattern's kind.
use Prim.Native.Nat.{ℕ, ◌≤◌, ◌<◌}
use mathlib.Core.Path.{◌≡◌, sym, ap, ◌∙◌, subst}
use mathlib.Core.List.{List, []}
use Rattle.std.specs.Prelude.{Option, None, Some, unwrap_or}
use native.Mathlib.Omega.{arith}
use lib.ListN.{length}
use Rattle.rules.specs.File as File
use Rattle.rules.specs.File.{Tables, FieldTy, FieldPattern, type_at, node_at, record_fields, record_ty, field_path}
use Rattle.rules.specs.Walk.{each_field, field, whole_key, record_key, key}
use Rattle.rules.proofs.Sound.{Sound}
use Rattle.state.specs.State.{State}
use Rattle.state.specs.Ops.{ops, skip}
use Rattle.paths.specs.Paths.{path_of, Holds}
use Rattle.paths.specs.declared.FieldPath.{FieldPath}
use Rattle.views.specs.Views.{run, field_at, pattern_at}
use Rattle.tables.specs.Tables.{SeenRun}
use Rattle.field_cases.specs.Pieces.{Fits, patterns_of, open_fields, fields_for}
use Rattle.key.specs.Cycle.{Walks, fields_of}
use Rattle.key.proofs.Going.{Going, going_end}

-- a path of no step has room for every type
pub fits-field : (T : Tables) → Sound T → (t : ℕ) → t < length T.types → (i : ℕ) (q : FieldPath) → Holds q (field_path i) → Fits T q t
unfolding field_path
fits-field T S t h i q k = record { known = h; count = k.count ∙ sym (ap (λ (x : File.FieldPath). length x.steps) k.is); short = omega (arith, k.count, S.shallow t h) }

-- the record loop's end
pub record-end : (T : Tables) (a n t : ℕ) (i : ℕ) (s₀ s : State) (w₀ p₀ w p : List ℕ) → Going T a n t skip field_path i s₀ s w₀ p₀ w p → length (fields_for T n t) ≤ i → t < length T.types → s ≡ each_field (field (ops T) T a) skip field_path (patterns_of T n) 0 (fields_for T n t) s₀
unfolding field
record-end T a n t i s₀ s w₀ p₀ w p v h g = going_end T a n t skip field_path i s₀ s w₀ p₀ w p v h (length T.types) (omega arith)

module _ (f : List ℕ) (T : Tables) (a n t : ℕ) (s₀ : State) (r : Option (ℕ × ℕ)) (k : SeenRun f (field_at f) 4 (record_ty (type_at T t)) r) (s : State) where
  abbrev by : Option (List FieldTy) → Option (List FieldPattern) → State
  by o ps = elim o [ Some fs ↦ record_key (ops T) T a ps n t fs s₀ | None ↦ field (ops T) T a n t (field_path 0) s₀ ]

  pub key-scalar : r ≡ None → t < length T.types → (q : FieldPath) → Holds q (field_path 0) → Walks T a n t (path_of q) s₀ s → s ≡ key (ops T) T a n t s₀
  unfolding key field
  key-scalar e h q p w =
      w.is (length T.types) h
      ∙ ap (λ (x : File.FieldPath). field (ops T) T a n t x s₀) p.is
      ∙ ap (λ o. by o (record_fields (node_at T n))) (subst (SeenRun f (field_at f) 4 (record_ty (type_at T t))) e k).is

  module _ (m from : ℕ) (e : r ≡ Some (m, from)) (pr : Option (ℕ × ℕ)) (l : SeenRun f (pattern_at f) 4 (record_fields (node_at T n)) pr) where
    type-is : Some (run (field_at f) 4 m from) ≡ record_ty (type_at T t)
    type-is = (subst (SeenRun f (field_at f) 4 (record_ty (type_at T t))) e k).is

    pub key-record : (i at : ℕ) → pr ≡ Some (i, at) → s ≡ each_field (field (ops T) T a) skip field_path (patterns_of T n) 0 (fields_for T n t) s₀ → s ≡ key (ops T) T a n t s₀
    unfolding key record_key patterns_of fields_for open_fields
    key-record i at d q =
        let p : Some (run (pattern_at f) 4 i at) ≡ record_fields (node_at T n) = (subst (SeenRun f (pattern_at f) 4 (record_fields (node_at T n))) d l).is in
        q
        ∙ sym (ap (λ o. each_field (field (ops T) T a) skip field_path (unwrap_or o []) 0 (open_fields o (record_ty (type_at T t))) s₀) p)
        ∙ sym (ap (λ o. each_field (field (ops T) T a) skip field_path (run (pattern_at f) 4 i at) 0 (open_fields (Some (run (pattern_at f) 4 i at)) o) s₀) type-is)
        ∙ ap (by (Some (run (field_at f) 4 m from))) p
        ∙ ap (λ o. by o (record_fields (node_at T n))) type-is

    pub key-whole : pr ≡ None → s ≡ whole_key (ops T) T a (node_at T n) n t (fields_of T t) s₀ → s ≡ key (ops T) T a n t s₀
    unfolding key record_key fields_of
    key-whole d q =
        q
        ∙ sym (ap (λ o. whole_key (ops T) T a (node_at T n) n t (unwrap_or o []) s₀) type-is)
        ∙ ap (by (Some (run (field_at f) 4 m from))) (subst (SeenRun f (pattern_at f) 4 (record_fields (node_at T n))) d l).is
        ∙ ap (λ o. by o (record_fields (node_at T n))) type-is

-- a Record against a Record type
pub key-by-record : (T : Tables) (a n t : ℕ) (s₀ s : State) → s ≡ each_field (field (ops T) T a) skip field_path (patterns_of T n) 0 (fields_for T n t) s₀ → (f : List ℕ) (r : Option (ℕ × ℕ)) → SeenRun f (field_at f) 4 (record_ty (type_at T t)) r → (m from : ℕ) → r ≡ Some (m, from) → (pr : Option (ℕ × ℕ)) → SeenRun f (pattern_at f) 4 (record_fields (node_at T n)) pr → (i at : ℕ) → pr ≡ Some (i, at) → s ≡ key (ops T) T a n t s₀
key-by-record T a n t s₀ s q f r k m from e pr l i at d = key-record f T a n t s₀ r k s m from e pr l i at d q
