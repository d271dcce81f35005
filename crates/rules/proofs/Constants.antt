-- `constant` is what its match says of the child patterns: the bound by which the rules' recursion ends does not matter above the type's number.
use mathlib.Core.List.{List, [], ◌∷◌, map}
use Rattle.std.specs.Prelude.{Option, None, Some}
use mathlib.Core.Path.{◌≡◌, refl, ap}
use Prim.Native.Nat.{ℕ, zero, suc, ◌<◌}
use native.Mathlib.Omega.{arith}
use lib.Dec.{eqb}
use lib.ListN.{length}
use Rattle.rules.specs.Base.{Each, more, ◌when_some◌}
use Rattle.rules.specs.File.{Tables, FieldTy, Ty, FieldPattern, Node, type_at, node_at, child_types}
use Rattle.rules.specs.Constant.{Const, bytes_only, field_pattern, alternative_of, only_field, encode_record, encode_union, constant_fields, constant_record, constant_node, constant_below, constant, stands_for}
use Rattle.rules.proofs.Each.{each-imply, each_first, each-unmap}
use Rattle.rules.proofs.Sound.{Sound}

bind-agree : {A B : Type 0} (o : Option A) (f g : A → Option B) → ((a : A) → o ≡ Some a → f a ≡ g a) → (o when_some f) ≡ (o when_some g)
unfolding ◌when_some◌
bind-agree None f g h = refl
bind-agree (Some a) f g h = h a refl

-- two ways of judging child patterns that agree at each type of a list
abbrev Agree : (ℕ → ℕ → Option Const) → (ℕ → ℕ → Option Const) → List ℕ → Type 0
Agree b b' ts = Each (λ t. (n : ℕ) → b n t ≡ b' n t) ts

fields-agree : (b b' : ℕ → ℕ → Option Const) (patterns : List FieldPattern) (fs : List FieldTy) → Agree b b' (map (λ f. f.type) fs) → constant_fields b patterns fs ≡ constant_fields b' patterns fs
unfolding constant_fields
fields-agree b b' patterns [] h = refl
fields-agree b b' patterns (f ∷ fs) (more e h) =
    bind-agree (field_pattern patterns f.name) _ _
    (λ p q. rw (e p, fields-agree b b' patterns fs h))

record-agree : (b b' : ℕ → ℕ → Option Const) (patterns : List FieldPattern) (ty : Ty) → Agree b b' (child_types ty) → constant_record b patterns ty ≡ constant_record b' patterns ty
unfolding constant_record child_types alternative_of
record-agree b b' patterns Ty.Int h = refl
record-agree b b' patterns Ty.Str h = refl
record-agree b b' patterns Ty.Bytes h = refl
record-agree b b' patterns (Ty.Fact p) h = refl
record-agree b b' patterns (Ty.Record fs) h = ap (λ (o : Option (List ℕ)). o when_some λ bytes. Some (Const.Bytes (encode_record bytes))) (fields-agree b b' patterns fs h)
record-agree b b' patterns (Ty.Union alts) h =
    bind-agree (only_field patterns) _ _
    (λ f q. bind-agree (alternative_of alts f.name) _ _
    (λ a r. ap (λ (o : Option Const). o when_some λ c. bytes_only c when_some λ bytes. Some (Const.Bytes (encode_union a.disc bytes)))
    (each_first {P = λ a. (n : ℕ) → b n a.type ≡ b' n a.type} (λ a. eqb a.name f.name) (each-unmap (λ t. (n : ℕ) → b n t ≡ b' n t) (λ a. a.type) alts h) a r f.node)))

node-agree : (T : Tables) (b b' : ℕ → ℕ → Option Const) (node : Node) (ty : Ty) → Agree b b' (child_types ty) → constant_node T b node ty ≡ constant_node T b' node ty
unfolding constant_node
node-agree T b b' (Node.Int bytes) ty h = refl
node-agree T b b' (Node.Str x) ty h = refl
node-agree T b b' (Node.Bytes bytes) ty h = refl
node-agree T b b' (Node.Var x) ty h = refl
node-agree T b b' Node.Wildcard ty h = refl
node-agree T b b' Node.Never ty h = refl
node-agree T b b' (Node.Prefix x) ty h = refl
node-agree T b b' (Node.Fuzzy x d a) ty h = refl
node-agree T b b' (Node.Record fs) ty h = record-agree b b' fs ty h
node-agree T b b' (Node.Access x n) ty h = refl
node-agree T b b' (Node.Value n) ty h = refl
node-agree T b b' (Node.Select x n) ty h = refl
node-agree T b b' Node.Disjunction ty h = refl
node-agree T b b' Node.Subquery ty h = refl
node-agree T b b' (Node.Fact p n) ty h = refl
node-agree T b b' Node.Arith ty h = refl
node-agree T b b' Node.Error ty h = refl

module _ (T : Tables) (S : Sound T) where
  any-bound : (l l' n t : ℕ) → t < l → t < l' → t < length T.types → constant_below T l n t ≡ constant_below T l' n t
  unfolding constant_below
  any-bound zero l' n t h g r = absurd (omega arith)
  any-bound (suc l) zero n t h g r = absurd (omega arith)
  any-bound (suc l) (suc l') n t h g r =
      node-agree T (constant_below T l) (constant_below T l') (node_at T (stands_for T n)) (type_at T t)
      (each-imply (λ c e m. any-bound l l' m c (omega (arith, e.lower)) (omega (arith, e.lower)) e.in-types) (S.children t r))

  pub constant-is : (n t : ℕ) → t < length T.types → constant T n t ≡ constant_node T (constant T) (node_at T (stands_for T n)) (type_at T t)
  unfolding constant constant_below
  constant-is n t r = any-bound (length T.types) (suc (length T.types)) n t r (omega arith) r
