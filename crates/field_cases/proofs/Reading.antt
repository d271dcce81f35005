-- A read's answer; one that gave nothing is reported unless something told why.
use Prim.Native.Nat.{ℕ}
use mathlib.Core.Path.{◌≡◌, refl, sym, ap, ◌∙◌}
use mathlib.Core.Bool.{Bool, true, false}
use mathlib.Core.List.{List, [], ◌∷◌}
use types.Run.{OneOf, miss}
use denote.Enum.Declared.{tag_of}
use lib.Dec.{eqb}
use borrow.Author.Tests.{eq-eqb, ne_eqb}
use Rattle.rules.specs.File.{Tables, Node, node_at}
use Rattle.rules.specs.Events.{Code}
use Rattle.rules.specs.Resolve as ResolveRules
use Rattle.rules.specs.Walk.{deferred, unresolved}
use Rattle.state.specs.State.{State}
use Rattle.state.specs.Ops.{ops, report, skip}
use Rattle.views.specs.Views.{node_of, SeenNode}
use Rattle.views.specs.declared.NodeView.{NodeView}
use Rattle.views.specs.declared.NodeView.TheVariants as Nv
use Rattle.views.specs.contracts.NodeView as NodeViews
use Rattle.seek.specs.Seek.{state_of}
use Rattle.lists.specs.declared.Lists.{Lists}
use Rattle.resolve.specs.Resolved.{given, Answers}
use Rattle.resolve.specs.declared.Answer.{Answer}
use Rattle.walk.specs.Walk.{walk_state, lists_of, with_lists}
use Rattle.walk.proofs.Parts.{lists-of, lists-are}
use Rattle.walk.specs.declared.Walk.{Walk}

-- the kinds that another phase reports
not-deferred : (f : List ℕ) (v : NodeView) → OneOf (0 ∷ 1 ∷ 2 ∷ 3 ∷ 4 ∷ 6 ∷ 7 ∷ 8 ∷ 9 ∷ 10 ∷ 11 ∷ 14 ∷ 15 ∷ []) (tag_of NodeViews.the_type v) → deferred (node_of f v) ≡ false
unfolding deferred
not-deferred f (Nv.Int at) w = refl
not-deferred f (Nv.Str x) w = refl
not-deferred f (Nv.Bytes n at) w = refl
not-deferred f (Nv.Var x) w = refl
not-deferred f Nv.Wildcard w = refl
not-deferred f Nv.Never w = absurd (miss (0 ∷ 1 ∷ 2 ∷ 3 ∷ 4 ∷ 6 ∷ 7 ∷ 8 ∷ 9 ∷ 10 ∷ 11 ∷ 14 ∷ 15 ∷ []) 5 tt w)
not-deferred f (Nv.Prefix x) w = refl
not-deferred f (Nv.Fuzzy x d a) w = refl
not-deferred f (Nv.Record n at) w = refl
not-deferred f (Nv.Access x n) w = refl
not-deferred f (Nv.Value n) w = refl
not-deferred f (Nv.Select x n) w = refl
not-deferred f Nv.Disjunction w = absurd (miss (0 ∷ 1 ∷ 2 ∷ 3 ∷ 4 ∷ 6 ∷ 7 ∷ 8 ∷ 9 ∷ 10 ∷ 11 ∷ 14 ∷ 15 ∷ []) 12 tt w)
not-deferred f Nv.Subquery w = absurd (miss (0 ∷ 1 ∷ 2 ∷ 3 ∷ 4 ∷ 6 ∷ 7 ∷ 8 ∷ 9 ∷ 10 ∷ 11 ∷ 14 ∷ 15 ∷ []) 13 tt w)
not-deferred f (Nv.Fact p n) w = refl
not-deferred f Nv.Arith w = refl
not-deferred f Nv.Error w = absurd (miss (0 ∷ 1 ∷ 2 ∷ 3 ∷ 4 ∷ 6 ∷ 7 ∷ 8 ∷ 9 ∷ 10 ∷ 11 ∷ 14 ∷ 15 ∷ []) 16 tt w)

module _ (f : List ℕ) (node : Node) (v : NodeView) (s : SeenNode f node v) where
  seen_as : (w : NodeView) → v ≡ w → deferred (node_of f w) ≡ deferred node
  seen_as w e = ap (λ x. deferred (node_of f x)) (sym e) ∙ ap deferred s.is

  pub never-deferred : v ≡ Nv.Never → true ≡ deferred node
  unfolding deferred
  never-deferred e = seen_as Nv.Never e

  pub disjunction-deferred : v ≡ Nv.Disjunction → true ≡ deferred node
  unfolding deferred
  disjunction-deferred e = seen_as Nv.Disjunction e

  pub subquery-deferred : v ≡ Nv.Subquery → true ≡ deferred node
  unfolding deferred
  subquery-deferred e = seen_as Nv.Subquery e

  pub error-deferred : v ≡ Nv.Error → true ≡ deferred node
  unfolding deferred
  error-deferred e = seen_as Nv.Error e

  pub other-not : OneOf (0 ∷ 1 ∷ 2 ∷ 3 ∷ 4 ∷ 6 ∷ 7 ∷ 8 ∷ 9 ∷ 10 ∷ 11 ∷ 14 ∷ 15 ∷ []) (tag_of NodeViews.the_type v) → false ≡ deferred node
  other-not w = sym (not-deferred f v w) ∙ ap deferred s.is

-- a read that gave nothing
module _ (T : Tables) (n : ℕ) (before s : State) (b : Bool) (e : b ≡ deferred (node_at T n)) where
  abbrev by : Bool → Bool → State
  by x y = elim x [ true ↦ skip s | false ↦ elim y [ true ↦ report n Code.RejectUnresolvedAccess (skip s) | false ↦ skip s ] ]

  pub unresolved-deferred : b ≡ true → (s' : State) → s' ≡ skip s → s' ≡ unresolved (ops T) T n before s
  unfolding unresolved
  unresolved-deferred h s' q = q ∙ sym (ap (λ (x : Bool). by x (eqb s.ends.diagnostics before.ends.diagnostics)) (sym e ∙ h))

  module _ (h : b ≡ false) (d m : ℕ) (ed : s.ends.diagnostics ≡ d) (em : before.ends.diagnostics ≡ m) where
    told : unresolved (ops T) T n before s ≡ by false (eqb d m)
    unfolding unresolved
    told =
        ap (λ (x : Bool). by x (eqb s.ends.diagnostics before.ends.diagnostics)) (sym e ∙ h)
        ∙ ap (λ (i : ℕ). by false (eqb i before.ends.diagnostics)) ed
        ∙ ap (λ (i : ℕ). by false (eqb d i)) em

    pub unresolved-quiet : d ≡ m → (s' : State) → s' ≡ report n Code.RejectUnresolvedAccess (skip s) → s' ≡ unresolved (ops T) T n before s
    unresolved-quiet g s' q = q ∙ sym (told ∙ ap (by false) (eq-eqb _ _ g))

    pub unresolved-told : (d ≡ m → ⊥) → (s' : State) → s' ≡ skip s → s' ≡ unresolved (ops T) T n before s
    unresolved-told g s' q = q ∙ sym (told ∙ ap (by false) (ne_eqb _ _ g))

-- where the diagnostics end
pub diagnostics-at : (T : Tables) (w : Walk) (work plan : List ℕ) → (walk_state T w work plan).ends.diagnostics ≡ w.ends.diagnostics
unfolding walk_state state_of
diagnostics-at T w work plan = refl

-- the same of walks: w is the walk behind the read, and it comes to r
module _ (T : Tables) (n : ℕ) (w r : Walk) (work work' plan : List ℕ) (before : State) (m : ℕ) (em : before.ends.diagnostics ≡ m) (b : Bool) (e : b ≡ deferred (node_at T n)) (h : b ≡ false) where
  pub quiet-walks : ((U : Tables) (p : List ℕ) → walk_state U r work' p ≡ report n Code.RejectUnresolvedAccess (skip (walk_state U w work p))) → w.ends.diagnostics ≡ m → walk_state T r work' plan ≡ unresolved (ops T) T n before (walk_state T w work plan)
  quiet-walks q g =
      unresolved-quiet T n before (walk_state T w work plan) b e h w.ends.diagnostics m (diagnostics-at T w work plan) em g (walk_state T r work' plan) (q T plan)

module _ (T : Tables) (n : ℕ) (w r : Walk) (work plan : List ℕ) (before : State) (m : ℕ) (em : before.ends.diagnostics ≡ m) (b : Bool) (e : b ≡ deferred (node_at T n)) (h : b ≡ false) where
  pub told-walks : ((U : Tables) (x p : List ℕ) → walk_state U r x p ≡ skip (walk_state U w x p)) → (w.ends.diagnostics ≡ m → ⊥) → walk_state T r work plan ≡ unresolved (ops T) T n before (walk_state T w work plan)
  told-walks q g =
      unresolved-told T n before (walk_state T w work plan) b e h w.ends.diagnostics m (diagnostics-at T w work plan) em g (walk_state T r work plan) (q T work plan)

-- an answer, with its lists put back into the walk
pub answer-is : (T : Tables) (w r : Walk) (l : Lists) (ans : Answer) (work work' plan : List ℕ) → l ≡ lists_of w → r ≡ with_lists w ans.lists → (g : ResolveRules.Resolver State) → Answers g l work ans work' → record { slot = given ans; walk = walk_state T r work' plan } ≡ g (walk_state T w work plan)
answer-is T w r l ans work work' plan el er g k =
    ap (λ (x : State). record { slot = given ans; walk = x }) (lists-are T w r ans.lists work' plan er)
    ∙ k.is _ _ plan
    ∙ ap g (lists-of T w l work plan el)
