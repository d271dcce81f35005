-- What `inject` goes on with: the whole constant, a diagnostic, or the alternative that is named.
use Rattle.views.specs.declared.Alternative.{Alternative}
use Prim.Native.Nat.{ℕ, zero, suc, ◌+◌, ◌*◌}
use mathlib.Core.Path.{◌≡◌, refl, sym, ap, ◌∙◌, subst}
use mathlib.Core.Bool.{true, false}
use mathlib.Core.List.{List}
use Rattle.std.specs.Prelude.{Option, None, Some, is_some}
use native.Mathlib.Omega.{arith}
use Rattle.rules.specs.File as File
use Rattle.rules.specs.File.{Tables, FieldPattern, type_at, node_at, record_fields, union_ty}
use Rattle.rules.specs.Constant.{only_field, alternative_of}
use Rattle.rules.specs.Events.{Code}
use Rattle.state.specs.State.{State}
use Rattle.state.specs.Ops.{report, skip}
use Rattle.views.specs.Views.{run, pattern_at, alternative_at, pattern_of}
use Rattle.views.specs.declared.FieldPattern as CodePattern
use Rattle.views.specs.declared.Alternative as Found
use Rattle.tables.specs.Tables.{SeenRun, alternative_option}
use Rattle.walk.specs.Walk.{walk_state}
use Rattle.walk.specs.declared.Walk.{Walk}
use Rattle.constant.specs.declared.Const.{Const}
use Rattle.seek.specs.Narrow.{const_of, narrowed_by}
use Rattle.constrain.specs.Constrain.{Known}
use Rattle.constrain.proofs.Narrowings.{after-constant, after_none}
use Rattle.field_cases.specs.FieldCases.{Choosing, unchosen, choosing_of, named_choice, only_choice, alternative_choice, choosing}
use Rattle.field_cases.specs.declared.Chosen.{Chosen}

-- a walk that goes on with nothing
pub unchosen-is : (T : Tables) (r : Chosen) (w : Walk) (work plan : List ℕ) → r ≡ record { choice = None; walk = w } → choosing_of r (walk_state T r.walk work plan) ≡ unchosen (walk_state T w work plan)
unchosen-is T r w work plan e = ap (λ (x : Chosen). choosing_of x (walk_state T x.walk work plan)) e

module _ (T : Tables) (n t : ℕ) where
  abbrev alternative : State → Choosing
  alternative s = alternative_choice (record_fields (node_at T n)) (union_ty (type_at T t)) n s

  -- the whole union's constant, or its alternative
  module _ (path : File.FieldPath) (s₀ : State) (c : Option Const) (v : Known T n t c) where
    pub whole-constant : is_some c ≡ true → (s : State) → s ≡ narrowed_by T n (const_of T c) path s₀ → unchosen s ≡ choosing T n t path s₀
    unfolding choosing
    whole-constant e s q = after-constant T n n t path s₀ c v unchosen alternative e s q

    pub whole-other : is_some c ≡ false → (x : Choosing) → x ≡ alternative_choice (record_fields (node_at T n)) (union_ty (type_at T t)) n s₀ → x ≡ choosing T n t path s₀
    unfolding choosing
    whole-other e x q = q ∙ after_none T n n t path s₀ c v unchosen alternative e

  module _ (s : State) (f : List ℕ) (pr : Option (ℕ × ℕ)) (pairs : SeenRun f (pattern_at f) 4 (record_fields (node_at T n)) pr) where
    pub no_record_lem : pr ≡ None → unchosen s ≡ alternative s
    unfolding alternative_choice
    no_record_lem e = ap (λ o. alternative_choice o (union_ty (type_at T t)) n s) (subst (SeenRun f (pattern_at f) 4 (record_fields (node_at T n))) e pairs).is

    module _ (ur : Option (ℕ × ℕ)) (union : SeenRun f (alternative_at f) 8 (union_ty (type_at T t)) ur) where
      nothing_left : (o : Option (List FieldPattern)) → unchosen s ≡ alternative_choice o None n s
      unfolding alternative_choice
      nothing_left None = refl
      nothing_left (Some fs) = refl

      pub no-union : ur ≡ None → unchosen s ≡ alternative s
      no-union e = nothing_left (record_fields (node_at T n)) ∙ ap (λ o. alternative_choice (record_fields (node_at T n)) o n s) (subst (SeenRun f (alternative_at f) 8 (union_ty (type_at T t))) e union).is

      module _ (k at m from : ℕ) (ep : pr ≡ Some (k, at)) (eu : ur ≡ Some (m, from)) where
        both-are : only_choice (only_field (run (pattern_at f) 4 k at)) (run (alternative_at f) 8 m from) n s ≡ alternative s
        unfolding alternative_choice
        both-are =
            ap (λ o. alternative_choice o (Some (run (alternative_at f) 8 m from)) n s) (subst (SeenRun f (pattern_at f) 4 (record_fields (node_at T n))) ep pairs).is
            ∙ ap (λ o. alternative_choice (record_fields (node_at T n)) o n s) (subst (SeenRun f (alternative_at f) 8 (union_ty (type_at T t))) eu union).is

        only_none : (i : ℕ) → (i ≡ 1 → ⊥) → only_field (run (pattern_at f) 4 i at) ≡ None
        unfolding only_field run
        only_none zero d = refl
        only_none (suc zero) d = absurd (d refl)
        only_none (suc (suc i)) d = refl

        pub arity : (k ≡ 1 → ⊥) → (s' : State) → s' ≡ report n Code.RejectUnionArity (skip s) → unchosen s' ≡ alternative s
        unfolding only_choice
        arity d s' q = ap unchosen q ∙ ap (λ o. only_choice o (run (alternative_at f) 8 m from) n s) (sym (only_none k d)) ∙ both-are

        module _ (one : k ≡ 1) (p : CodePattern.FieldPattern) (e : pattern_of p ≡ pattern_at f (at + 4 * 0)) (found : Option Alternative) (ef : alternative_option found ≡ alternative_of (run (alternative_at f) 8 m from) p.name) where
          only-is : Some (pattern_of p) ≡ only_field (run (pattern_at f) 4 k at)
          unfolding only_field run
          only-is =
              let z : at + 4 * 0 ≡ at = omega arith in
              ap Some (e ∙ ap (pattern_at f) z) ∙ ap (λ (i : ℕ). only_field (run (pattern_at f) 4 i at)) (sym one)

          named : named_choice (pattern_of p) (alternative_option found) n s ≡ alternative s
          unfolding only_choice
          named =
              ap (λ o. named_choice (pattern_of p) o n s) ef
              ∙ ap (λ o. only_choice o (run (alternative_at f) 8 m from) n s) only-is
              ∙ both-are

          pub unknown : found ≡ None → (s' : State) → s' ≡ report n Code.RejectUnknownAlternative (skip s) → unchosen s' ≡ alternative s
          unfolding named_choice
          unknown d s' q = ap unchosen q ∙ ap (λ (x : Option Alternative). named_choice (pattern_of p) (alternative_option x) n s) (sym d) ∙ named

          pub known : (alt : Found.Alternative) → found ≡ Some alt → record { payload = Some (record { disc = alt.disc; node = p.node; type = alt.ty }); state = s } ≡ alternative s
          unfolding named_choice
          known alt d = ap (λ (x : Option Alternative). named_choice (pattern_of p) (alternative_option x) n s) (sym d) ∙ named
