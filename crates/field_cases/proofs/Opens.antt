-- A record pattern against a record type, as the code reads them: field by field, each at a lower type.
use Prim.Native.Nat.{ℕ, ◌+◌, ◌*◌, ◌≤◌, ◌<◌}
use mathlib.Core.Path.{◌≡◌, refl, sym, ap, ◌∙◌, subst}
use mathlib.Core.List.{List, []}
use Rattle.std.specs.Prelude.{Option, None, Some, unwrap_or}
use native.Mathlib.Omega.{arith}
use lib.ListN.{length, get_or}
use Rattle.rules.specs.File as File
use Rattle.rules.specs.File.{Tables, type_at, node_at, record_fields, record_ty}
use Rattle.rules.specs.Constant.{field_pattern}
use Rattle.rules.proofs.Each.{each_at}
use Rattle.rules.proofs.Sound.{Sound, Child}
use Rattle.rules.proofs.Keeps.{record-children}
use Rattle.views.specs.Views.{run, field_at, pattern_at, field_of}
use Rattle.views.specs.declared.FieldTy.{FieldTy}
use Rattle.views.proofs.Runs.{run_at, length_run}
use Rattle.tables.specs.Tables.{SeenRun}
use Rattle.field_cases.specs.Pieces.{Lower, patterns_of, open_fields, fields_for, no_places, Opened, no_field, Pieced}
use Rattle.field_cases.specs.declared.Places.{Places}

-- a run's records are inside the file
pub run_inside : {A : Type 0} (f : List ℕ) (g : ℕ → A) (w : ℕ) (o : Option (List A)) (r : Option (ℕ × ℕ)) → SeenRun f g w o r → (k from : ℕ) → r ≡ Some (k, from) → from + w * k ≤ length f
run_inside f g w o r s k from e = (subst (SeenRun f g w o) e s).inside

none_open : (o : Option (List File.FieldPattern)) → open_fields o None ≡ []
unfolding open_fields
none_open None = refl
none_open (Some ps) = refl

module _ (f : List ℕ) (T : Tables) (n t : ℕ) (a : Option (ℕ × ℕ)) (pairs : SeenRun f (pattern_at f) 4 (record_fields (node_at T n)) a) where
  pub no_pairs : a ≡ None → fields_for T n t ≡ []
  unfolding fields_for open_fields
  no_pairs e = ap (λ o. open_fields o (record_ty (type_at T t))) (sym (subst (SeenRun f (pattern_at f) 4 (record_fields (node_at T n))) e pairs).is)

  module _ (b : Option (ℕ × ℕ)) (fields : SeenRun f (field_at f) 4 (record_ty (type_at T t)) b) where
    pub no_fields : b ≡ None → fields_for T n t ≡ []
    unfolding fields_for
    no_fields e = ap (open_fields (record_fields (node_at T n))) (sym (subst (SeenRun f (field_at f) 4 (record_ty (type_at T t))) e fields).is) ∙ none_open (record_fields (node_at T n))

    module _ (m at k from : ℕ) (ea : a ≡ Some (m, at)) (eb : b ≡ Some (k, from)) where
      pairs-are : record_fields (node_at T n) ≡ Some (run (pattern_at f) 4 m at)
      pairs-are = sym (subst (SeenRun f (pattern_at f) 4 (record_fields (node_at T n))) ea pairs).is

      type-is : record_ty (type_at T t) ≡ Some (run (field_at f) 4 k from)
      type-is = sym (subst (SeenRun f (field_at f) 4 (record_ty (type_at T t))) eb fields).is

      pub fields-are : fields_for T n t ≡ run (field_at f) 4 k from
      unfolding fields_for open_fields
      fields-are = ap (λ o. open_fields o (record_ty (type_at T t))) pairs-are ∙ ap (open_fields (Some (run (pattern_at f) 4 m at))) type-is

      pub patterns-are : patterns_of T n ≡ run (pattern_at f) 4 m at
      unfolding patterns_of
      patterns-are = ap (λ o. unwrap_or o []) pairs-are

      pub opened_both : Opened f T n t (record { count = k; pairs = m; at = at; from = from })
      opened_both =
          record {
            fields = fields-are;
            type = λ h. type-is;
            patterns = λ h. patterns-are;
            fields_in = run_inside f (field_at f) 4 (record_ty (type_at T t)) b fields k from eb;
            patterns-in = run_inside f (pattern_at f) 4 (record_fields (node_at T n)) a pairs m at ea;
          }

-- nothing is opened
pub opened-none : (f : List ℕ) (T : Tables) (n t : ℕ) (r : Places) → r ≡ no_places → fields_for T n t ≡ [] → Opened f T n t r
unfolding run
opened-none f T n t r d e = subst (Opened f T n t) (sym d) (record { fields = e; type = λ h. absurd (omega arith); patterns = λ h. absurd (omega arith); fields_in = omega arith; patterns-in = omega arith })

module _ (f : List ℕ) (T : Tables) (n t : ℕ) (r : Places) (o : Opened f T n t r) where
  pub count-is : r.count ≡ length (fields_for T n t)
  count-is = sym (ap length o.fields ∙ length_run (field_at f) 4 r.count r.from)

  -- field i
  module _ (S : Sound T) (known : t < length T.types) (i : ℕ) (h : i < r.count) (v : FieldTy) (ev : field_of v ≡ field_at f (r.from + 4 * i)) where
    field_is : get_or (fields_for T n t) i no_field ≡ field_of v
    field_is = ap (λ fs. get_or fs i no_field) o.fields ∙ run_at (field_at f) 4 r.count r.from i no_field h ∙ sym ev

    lower : Lower T t v.ty
    lower =
        let e = each_at (record-children (Child T t) (type_at T t) (run (field_at f) 4 r.count r.from) (S.children t known) (o.type (omega arith))) i no_field (omega (arith, length_run (field_at f) 4 r.count r.from)) in
        let c : Child T t v.ty = subst (λ (x : File.FieldTy). Child T t x.type) (ap (λ fs. get_or fs i no_field) (sym o.fields) ∙ field_is) e in
        record { lower = c.lower; known = c.in-types; less-deep = c.less-deep }

    module _ (q : Option ℕ) (eq : q ≡ field_pattern (run (pattern_at f) 4 r.pairs r.at) v.name) where
      found-is : q ≡ field_pattern (patterns_of T n) (get_or (fields_for T n t) i no_field).name
      found-is = eq ∙ ap (λ ps. field_pattern ps v.name) (sym (o.patterns (omega arith))) ∙ ap (λ (x : File.FieldTy). field_pattern (patterns_of T n) x.name) (sym field_is)

      pub piece_is : Pieced T n t i (record { pattern = q; ty = v.ty })
      piece_is = record { type = ap (λ (x : File.FieldTy). x.type) (sym field_is); found = found-is; lower = lower }
