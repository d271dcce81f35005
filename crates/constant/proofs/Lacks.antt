-- A constant node is no Prefix and no Fuzzy: it has bytes, or no constant at all.
use Prim.Native.Nat.{ℕ, ◌<◌}
use mathlib.Core.Path.{◌≡◌, refl, sym, ap, ◌∙◌}
use mathlib.Core.Bool.{Bool, true, not}
use mathlib.Core.List.{List}
use Rattle.std.specs.Prelude.{Option, None, Some}
use lib.ListN.{length}
use Rattle.rules.specs.File.{Tables, Ty, Node, type_at, node_at, constant_of, constants, is_constant}
use Rattle.rules.specs.Constant as ConstantRules
use Rattle.rules.specs.Constant.{constant_node}
use Rattle.rules.specs.Literals.{lacks_bytes}
use Rattle.rules.proofs.Cases.{true≢false}
use Rattle.rules.proofs.Scalars.{same_int, same-str, same_bytes_lem}
use Rattle.rules.proofs.Sound.{Passed, sound}
use Rattle.rules.proofs.Constants.{constant-is}
use Rattle.rules.proofs.Literals.{constant-in}
use Rattle.accepted_file.proofs.Ranges.{constant-of, stands-constant}
use Rattle.constant.specs.Has.{has_bytes}
use Rattle.constant.proofs.Known.{record-bytes}

module _ (T : Tables) (b : ℕ → ℕ → Option ConstantRules.Const) (cs : List Bool) where
  node-bytes : (node : Node) (ty : Ty) (k : ConstantRules.Const) → constant_of cs node ≡ true → constant_node T b node ty ≡ Some k → (bytes : List ℕ) × (ConstantRules.Const.Bytes bytes ≡ k)
  unfolding constant_node constant_of
  node-bytes (Node.Int raw) ty k c e = (_, same_int ty _ k e)
  node-bytes (Node.Str x) ty k c e = (_, same-str ty _ k e)
  node-bytes (Node.Bytes raw) ty k c e = (_, same_bytes_lem ty _ k e)
  node-bytes (Node.Var x) ty k c e = absurd (true≢false (sym c))
  node-bytes Node.Wildcard ty k c e = absurd (true≢false (sym c))
  node-bytes Node.Never ty k c e = absurd (true≢false (sym c))
  node-bytes (Node.Prefix x) ty k c e = absurd (true≢false (sym c))
  node-bytes (Node.Fuzzy x d a) ty k c e = absurd (true≢false (sym c))
  node-bytes (Node.Record fs) ty k c e = record-bytes b fs ty k e
  node-bytes (Node.Access x n) ty k c e = absurd (true≢false (sym c))
  node-bytes (Node.Value n) ty k c e = absurd (true≢false (sym c))
  node-bytes (Node.Select x n) ty k c e = absurd (true≢false (sym c))
  node-bytes Node.Disjunction ty k c e = absurd (true≢false (sym c))
  node-bytes Node.Subquery ty k c e = absurd (true≢false (sym c))
  node-bytes (Node.Fact p n) ty k c e = absurd (true≢false (sym c))
  node-bytes Node.Arith ty k c e = absurd (true≢false (sym c))
  node-bytes Node.Error ty k c e = absurd (true≢false (sym c))

module _ (T : Tables) (p : Passed T) (n t : ℕ) (c : is_constant T n ≡ true) (h : t < length T.types) where
  constant-bytes : (k : ConstantRules.Const) → ConstantRules.constant T n t ≡ Some k → (bytes : List ℕ) × (ConstantRules.Const.Bytes bytes ≡ k)
  constant-bytes k e =
      let i = constant-in T n c in
      node-bytes T (ConstantRules.constant T) (constants T) (node_at T n) (type_at T t) k (sym (constant-of T p n i) ∙ c)
      (ap (λ (m : ℕ). constant_node T (ConstantRules.constant T) (node_at T m) (type_at T t)) (sym (stands-constant T p n i c)) ∙ sym (constant-is T (sound T p) n t h) ∙ e)

  -- it lacks bytes where it has none
  pub lacks-not : (r : Bool) → r ≡ has_bytes (ConstantRules.constant T n t) → not r ≡ lacks_bytes (ConstantRules.constant T n t)
  unfolding lacks_bytes has_bytes
  lacks-not r e = ap not e ∙ go (ConstantRules.constant T n t) refl
    where
      go : (o : Option ConstantRules.Const) → ConstantRules.constant T n t ≡ o → not (has_bytes o) ≡ lacks_bytes o
      go None q = refl
      go (Some k) q = let w = constant-bytes k q in ap (λ (k : ConstantRules.Const). not (has_bytes (Some k))) (sym w.1)
