-- A walk narrowed by a constant, by what the code's constant is; and what follows where there is none.
use Prim.Native.Nat.{ℕ, ◌≤◌, ◌<◌}
use mathlib.Core.Path.{◌≡◌, refl, sym, ap, ◌∙◌}
use mathlib.Core.Bool.{Bool, true, false}
use Rattle.std.specs.Prelude.{Option, None, Some, is_some}
use lib.ListN.{length, get_or-eq_default}
use Rattle.rules.specs.File as File
use Rattle.rules.specs.File.{Tables, Node, type_at, node_at, var_name}
use Rattle.rules.specs.Constant as ConstantRules
use Rattle.rules.specs.Constant.{constant, constant_node}
use Rattle.rules.specs.Events.{Code}
use Rattle.rules.specs.Walk.{FieldWalk, narrowing, narrow_by, ranged}
use Rattle.rules.proofs.Cases.{true≢false}
use Rattle.rules.proofs.Idle.{Idle}
use Rattle.rules.proofs.Sound.{Sound}
use Rattle.state.specs.State.{State}
use Rattle.state.specs.Ops.{ops, report}
use Rattle.state.proofs.Stopped.{stopped}
use Rattle.tables.proofs.Searches.{stands_self}
use Rattle.rules.proofs.Constants.{constant-is}
use Rattle.constant.specs.Sizes.{view_of, const_view}
use Rattle.constant.specs.declared.Const.{Const}
use Rattle.seek.specs.Narrow.{const_of, narrowed_by}
use Rattle.walk.specs.Walk.{diagnosed}
use Rattle.constrain.specs.Constrain.{Known, narrow_or}

-- a number past the nodes is no constant
error-at : (T : Tables) (n : ℕ) → length T.nodes ≤ n → node_at T n ≡ Node.Error
unfolding node_at
error-at T n h = get_or-eq_default T.nodes Node.Error h

past-nodes : (T : Tables) → Sound T → (n t : ℕ) → t < length T.types → length T.nodes ≤ n → constant T n t ≡ None
unfolding constant_node var_name
past-nodes T S n t h g =
    constant-is T S n t h
    ∙ ap (λ (m : ℕ). constant_node T (constant T) (node_at T m) (type_at T t)) (sym (stands_self T n (sym (ap var_name (error-at T n g)))))
    ∙ ap (λ (node : Node). constant_node T (constant T) node (type_at T t)) (error-at T n g)

nothing_is : (r : Option Const) → is_some r ≡ false → r ≡ None
nothing_is None e = refl
nothing_is (Some c) e = absurd (true≢false e)

view-none : (T : Tables) (n t : ℕ) → constant T n t ≡ None → const_view T n t ≡ None
unfolding const_view
view-none T n t e = ap (view_of T n t) e

module _ (T : Tables) (n t : ℕ) where
  some-told : (r : Option Const) → r ≡ const_view T n t → is_some r ≡ true → true ≡ is_some (constant T n t)
  some-told r v h = go (constant T n t) refl
    where
      go : (o : Option ConstantRules.Const) → constant T n t ≡ o → true ≡ is_some o
      go None g = absurd (true≢false (sym h ∙ ap is_some (v ∙ view-none T n t g)))
      go (Some c) g = refl

  pub known_past : Sound T → t < length T.types → length T.nodes ≤ n → Known T n t None
  unfolding const_of
  known_past S h g = record { is = sym (past-nodes T S n t h g); some = λ e. absurd (true≢false (sym e)); made = λ e. absurd (true≢false (sym e)) }

  pub known-here : n < length T.nodes → t < length T.types → (r : Option Const) → r ≡ const_view T n t → const_of T r ≡ constant T n t → Known T n t r
  known-here i h r v e =
      record {
        is = e;
        some = some-told r v;
        made = λ _. record { node = n; type = t; in-nodes = i; in-types = h; is = v };
      }

-- what goes on from a constant of node n that node m brought: f where there is one, k where there is none
module _ {A : Type 0} (T : Tables) (m n t : ℕ) (path : File.FieldPath) (s₀ : State) (c : Option Const) (v : Known T n t c) (f k : State → A) where
  abbrev by : Option ConstantRules.Const → A
  by o = elim o [ Some x ↦ f (narrow_by (ops T) T m x path s₀) | None ↦ k s₀ ]

  pub after-constant : is_some c ≡ true → (s : State) → s ≡ narrowed_by T m (const_of T c) path s₀ → f s ≡ by (constant T n t)
  unfolding narrowed_by
  after-constant e s q = go (constant T n t) (v.some e) (q ∙ ap (λ (o : Option ConstantRules.Const). narrowed_by T m o path s₀) v.is)
    where
      go : (o : Option ConstantRules.Const) → true ≡ is_some o → s ≡ narrowed_by T m o path s₀ → f s ≡ by o
      go None b g = absurd (true≢false b)
      go (Some x) b g = ap f g

  pub after_none : is_some c ≡ false → k s₀ ≡ by (constant T n t)
  unfolding const_of
  after_none e = ap by (sym (ap (const_of T) (nothing_is c e)) ∙ v.is)

module _ (T : Tables) (n t : ℕ) (path : File.FieldPath) (s₀ : State) where
  module _ (c : Option Const) (v : Known T n t c) (falls : Bool) (s : State) where
    pub or_yes : is_some c ≡ true → s ≡ narrowed_by T n (const_of T c) path s₀ → s ≡ narrow_or T n t path falls s₀
    unfolding narrow_or
    or_yes e q = after-constant T n n t path s₀ c v (λ x. x) (diagnosed n Code.RejectTypeMismatch falls) e s q

    pub or_no : is_some c ≡ false → s ≡ diagnosed n Code.RejectTypeMismatch falls s₀ → s ≡ narrow_or T n t path falls s₀
    unfolding narrow_or
    or_no e q = q ∙ after_none T n n t path s₀ c v (λ x. x) (diagnosed n Code.RejectTypeMismatch falls) e

  -- once the plan is too long
  pub or-over : (falls : Bool) → s₀.over ≡ true → s₀ ≡ narrow_or T n t path falls s₀
  unfolding narrow_or narrow_by
  or-over falls h = go (constant T n t) falls
    where
      idle : Idle (ops T) s₀
      idle = stopped T s₀ h

      go : (o : Option ConstantRules.Const) (b : Bool) → s₀ ≡ elim o [ Some x ↦ narrow_by (ops T) T n x path s₀ | None ↦ diagnosed n Code.RejectTypeMismatch b s₀ ]
      go (Some x) b = sym (idle.narrow n path (narrowing x))
      go None true = sym (idle.report n Code.RejectTypeMismatch) ∙ ap (report n Code.RejectTypeMismatch) (sym idle.skip)
      go None false = sym (idle.report n Code.RejectTypeMismatch)

  pub ranged-is : (s : State) → s ≡ narrow_or T n t path false s₀ → (a : ℕ) (below : FieldWalk State) → s ≡ ranged (ops T) T a below n t path s₀
  unfolding ranged narrow_or
  ranged-is s e a below = e
