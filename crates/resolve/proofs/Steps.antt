-- `resolve` by one step: a base is lower than its access, so the bound on the depth is never met.
use mathlib.Core.Bool.{Bool, true, false}
use mathlib.Core.List.{[]}
use Rattle.std.specs.Prelude.{None, Some}
use mathlib.Core.Path.{◌≡◌, refl, sym, ap, ◌∙◌}
use mathlib.Core.Logic.{⊎_elim}
use Prim.Native.Nat.{ℕ, zero, suc, ◌≤◌, ◌<◌}
use native.Mathlib.Omega.{arith}
use lib.ListN.{length, get_or-eq_default}
use Rattle.rules.specs.Base.{Each, more}
use Rattle.rules.specs.File.{Tables, Node, Slot, node_at, child_nodes, constant_of, constants, is_constant}
use Rattle.rules.specs.Events.{Ops}
use Rattle.rules.specs.Resolve.{Answer, Resolver, follow, ◌when_found◌, give, dereference, field_slot, value_slot, select_slot, resolve_node, resolve_below, resolve}
use Rattle.rules.proofs.Choices.{by-test₂}
use Rattle.rules.proofs.Each.{each-imply}
use Rattle.rules.proofs.BottomUp.{extends}
use Rattle.file.proofs.Readers.{lt-or-le}

pub constants-length : (T : Tables) → length (constants T) ≡ length T.nodes
unfolding constants
constants-length T = let r = extends constant_of [] T.nodes in ap length r.1 ∙ r.2

-- the nodes that each node names are lower
abbrev pub Lower : Tables → Type 0
Lower T = (n : ℕ) → n < length T.nodes → Each (λ c. c < n) (child_nodes (node_at T n))

module _ {S : Type 0} (o : Ops S) (T : Tables) where
  -- what is asked of the nodes below, is asked of the base alone
  node-same : (f g : ℕ → Resolver S) (n : ℕ) (node : Node) (w : S) → Each (λ c. f c w ≡ g c w) (child_nodes node) → resolve_node o T f n node w ≡ resolve_node o T g n node w
  unfolding resolve_node child_nodes ◌when_found◌
  node-same f g n (Node.Int bytes) w h = refl
  node-same f g n (Node.Str x) w h = refl
  node-same f g n (Node.Bytes bytes) w h = refl
  node-same f g n (Node.Var x) w h = refl
  node-same f g n Node.Wildcard w h = refl
  node-same f g n Node.Never w h = refl
  node-same f g n (Node.Prefix x) w h = refl
  node-same f g n (Node.Fuzzy x d a) w h = refl
  node-same f g n (Node.Record fs) w h = refl
  node-same f g n (Node.Access x base) w (more e h) = ap (λ (a : Answer S). follow a (λ s. dereference o T n s when_found λ p. field_slot o T n p x)) e
  node-same f g n (Node.Value base) w (more e h) = ap (λ (a : Answer S). follow a (λ s. dereference o T n s when_found λ p. value_slot o T p)) e
  node-same f g n (Node.Select x base) w (more e h) = ap (λ (a : Answer S). follow a (λ s. dereference o T n s when_found λ p. select_slot o T n p x)) e
  node-same f g n Node.Disjunction w h = refl
  node-same f g n Node.Subquery w h = refl
  node-same f g n (Node.Fact p key) w h = refl
  node-same f g n Node.Arith w h = refl
  node-same f g n Node.Error w h = refl

  abbrev step_of : Bool → (ℕ → Resolver S) → ℕ → Node → Resolver S
  step_of constant below n node = elim constant [ true ↦ give (Some (Slot.Const n)) | false ↦ resolve_node o T below n node ]

  abbrev pub step : (ℕ → Resolver S) → ℕ → Resolver S
  step below n = step_of (is_constant T n) below n (node_at T n)

  -- past the last node there is nothing
  past : (n : ℕ) → length T.nodes ≤ n → (f : ℕ → Resolver S) (w : S) → step f n w ≡ give None w
  unfolding is_constant node_at resolve_node
  past n h f w =
      let g : length (constants T) ≤ n = omega (arith, constants-length T) in
      let c : is_constant T n ≡ false = get_or-eq_default (constants T) false g in
      let e : node_at T n ≡ Node.Error = get_or-eq_default T.nodes Node.Error h in
      ap (λ (b : Bool). step_of b f n (node_at T n) w) c ∙ ap (λ (x : Node). resolve_node o T f n x w) e

  past-below : (l n : ℕ) → length T.nodes ≤ n → (w : S) → resolve_below o T l n w ≡ give None w
  unfolding resolve_below
  past-below zero n h w = refl
  past-below (suc l) n h w = past n h (resolve_below o T l) w

  module _ (lower : Lower T) where
    enough : (l m n : ℕ) → n < length T.nodes → n < l → n < m → (w : S) → resolve_below o T l n w ≡ resolve_below o T m n w
    unfolding resolve_below
    enough zero m n r h g w = absurd (omega arith)
    enough (suc l) zero n r h g w = absurd (omega arith)
    enough (suc l) (suc m) n r h g w =
        by-test₂ (λ (a b : Resolver S). a w ≡ b w) (is_constant T n) (λ e. refl)
        (λ e. node-same _ _ n (node_at T n) w (each-imply (λ c q. enough l m c (omega arith) (omega arith) (omega arith) w) (lower n r)))

    pub resolve-step : (n : ℕ) (w : S) → resolve o T n w ≡ step (resolve o T) n w
    unfolding resolve resolve_below
    resolve-step n w =
        ⊎_elim (λ h. enough (length T.nodes) (suc (length T.nodes)) n h h (omega arith) w)
        (λ h. past-below (length T.nodes) n h w ∙ sym (past n h (resolve o T) w)) (lt-or-le n (length T.nodes))
