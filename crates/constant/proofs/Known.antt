-- What a caller learns of the rules' constant from the code's.
use Prim.Native.Nat.{ℕ, ◌≤◌, ◌<◌, min}
use mathlib.Core.Path.{◌≡◌, refl, sym, ap, ◌∙◌, subst}
use mathlib.Core.List.{List}
use mathlib.Core.Bool.{true}
use Rattle.std.specs.Prelude.{Option, None, Some}
use native.Mathlib.Omega.{arith}
use lib.ListN.{length}
use Rattle.rules.specs.File.{Tables, Ty, Node, FieldPattern, Anchor, name_at, type_at, node_at}
use Rattle.rules.specs.Checks.{is_name, node_in}
use Rattle.rules.specs.Constant as ConstantRules
use Rattle.rules.specs.Constant.{bytes_only, only_field, alternative_of, encode_prefix, encode_record, encode_union, constant_fields, constant_record, constant_node, stands_for}
use Rattle.rules.specs.Limits.{node_limit}
use Rattle.rules.proofs.Cases.{ltb-lt, some≢none, some-injective, bind-some}
use Rattle.rules.proofs.Scalars.{same_int, same-str, same_bytes_lem}
use Rattle.rules.proofs.Sound.{Passed, sound}
use Rattle.accepted_file.proofs.Ranges.{stands, node_in_lem}
use Rattle.rules.proofs.Constants.{constant-is}
use Rattle.constant.specs.Sizes.{cap, view_of, const_view, prefix_name, anchor_view}
use Rattle.views.specs.Views.{anchor_of}
use Rattle.views.specs.declared.Anchor as CodeAnchor
use Rattle.constant.specs.declared.Const.{Const}
use Rattle.constant.specs.declared.Const.TheVariants as Co

module _ (T : Tables) (n t : ℕ) where
  -- bytes, of a length that says all below the cap
  pub record AsBytes (l : ℕ) : Type 0 where
    pub bytes : List ℕ
    pub is : ConstantRules.constant T n t ≡ Some (ConstantRules.Const.Bytes bytes)
    pub size : l ≡ min cap (length bytes)

  as_bytes_lem : (o : Option ConstantRules.Const) (m s l : ℕ) → ConstantRules.constant T n t ≡ o → view_of T n t o ≡ Some (Co.Bytes m s l) → AsBytes l
  as_bytes_lem None m s l e q = absurd (let z : ◌≡◌ {A = ℕ} 0 1 = cc in omega arith)
  as_bytes_lem (Some (ConstantRules.Const.Bytes bytes)) m s l e q = record { bytes = bytes; is = e; size = cc }
  as_bytes_lem (Some (ConstantRules.Const.Prefix bytes)) m s l e q = absurd (let z : ◌≡◌ {A = ℕ} 0 1 = cc in omega arith)
  as_bytes_lem (Some (ConstantRules.Const.Fuzzy x d a)) m s l e q = absurd (let z : ◌≡◌ {A = ℕ} 0 1 = cc in omega arith)

  pub known_bytes : (m s l : ℕ) → const_view T n t ≡ Some (Co.Bytes m s l) → AsBytes l
  unfolding const_view
  known_bytes m s l q = as_bytes_lem (ConstantRules.constant T n t) m s l refl q

  known_at : (o : Option ConstantRules.Const) (c : Option Const) → ConstantRules.constant T n t ≡ o → const_view T n t ≡ c → view_of T n t o ≡ c
  unfolding const_view
  known_at o c e q = ap (view_of T n t) (sym e) ∙ q

  pub known-nothing : const_view T n t ≡ None → ConstantRules.constant T n t ≡ None
  unfolding const_view
  known-nothing q = go (ConstantRules.constant T n t) refl
    where
      go : (o : Option ConstantRules.Const) → ConstantRules.constant T n t ≡ o → o ≡ None
      go None e = refl
      go (Some (ConstantRules.Const.Bytes bytes)) e = absurd (let h = known_at _ _ e q in let z : ◌≡◌ {A = ℕ} 0 1 = cc in omega arith)
      go (Some (ConstantRules.Const.Prefix bytes)) e = absurd (let h = known_at _ _ e q in let z : ◌≡◌ {A = ℕ} 0 1 = cc in omega arith)
      go (Some (ConstantRules.Const.Fuzzy x d a)) e = absurd (let h = known_at _ _ e q in let z : ◌≡◌ {A = ℕ} 0 1 = cc in omega arith)

-- a Prefix comes of a Prefix node alone
other : (a b : List ℕ) → ConstantRules.Const.Bytes a ≡ ConstantRules.Const.Prefix b → ⊥
other a b e = let z : ◌≡◌ {A = ℕ} 0 1 = cc in omega arith

fuzzy : (x d : ℕ) (a : Anchor) (b : List ℕ) → ConstantRules.Const.Fuzzy x d a ≡ ConstantRules.Const.Prefix b → ⊥
fuzzy x d a b e = let z : ◌≡◌ {A = ℕ} 0 1 = cc in omega arith

pub record-bytes : (b : ℕ → ℕ → Option ConstantRules.Const) (patterns : List FieldPattern) (ty : Ty) (k : ConstantRules.Const) → constant_record b patterns ty ≡ Some k → (bytes : List ℕ) × (ConstantRules.Const.Bytes bytes ≡ k)
unfolding constant_record
record-bytes b patterns Ty.Int k e = absurd (some≢none k (sym e))
record-bytes b patterns Ty.Str k e = absurd (some≢none k (sym e))
record-bytes b patterns Ty.Bytes k e = absurd (some≢none k (sym e))
record-bytes b patterns (Ty.Fact p) k e = absurd (some≢none k (sym e))
record-bytes b patterns (Ty.Record fs) k e =
    let q = bind-some (constant_fields b patterns fs) (λ bytes. Some (ConstantRules.Const.Bytes (encode_record bytes))) k e in
    (encode_record q.0, some-injective _ _ q.2)
record-bytes b patterns (Ty.Union alts) k e =
    let q = bind-some (only_field patterns) _ k e in
    let r = bind-some (alternative_of alts q.0.name) _ k q.2 in
    let s = bind-some (b q.0.node r.0.type) _ k r.2 in
    let u = bind-some (bytes_only s.0) (λ bytes. Some (ConstantRules.Const.Bytes (encode_union r.0.disc bytes))) k s.2 in
    (encode_union r.0.disc u.0, some-injective _ _ u.2)

prefix-injective : (a b : List ℕ) → ConstantRules.Const.Prefix a ≡ ConstantRules.Const.Prefix b → a ≡ b
prefix-injective a b e = cc

module _ (T : Tables) (b : ℕ → ℕ → Option ConstantRules.Const) (bytes : List ℕ) where
  prefix-node : (node : Node) (ty : Ty) → constant_node T b node ty ≡ Some (ConstantRules.Const.Prefix bytes) → node_in T node ≡ true → (bytes ≡ encode_prefix (name_at T (prefix_name node))) × (prefix_name node < length T.names)
  unfolding constant_node prefix_name node_in is_name
  prefix-node (Node.Int raw) ty e h = absurd (other _ _ (same_int ty _ _ e))
  prefix-node (Node.Str x) ty e h = absurd (other _ _ (same-str ty _ _ e))
  prefix-node (Node.Bytes raw) ty e h = absurd (other _ _ (same_bytes_lem ty _ _ e))
  prefix-node (Node.Var x) ty e h = absurd (some≢none (ConstantRules.Const.Prefix bytes) (sym e))
  prefix-node Node.Wildcard ty e h = absurd (some≢none (ConstantRules.Const.Prefix bytes) (sym e))
  prefix-node Node.Never ty e h = absurd (some≢none (ConstantRules.Const.Prefix bytes) (sym e))
  prefix-node (Node.Prefix x) ty e h = (prefix-injective _ _ (sym (same-str ty _ _ e)), ltb-lt _ _ h)
  prefix-node (Node.Fuzzy x d a) ty e h = absurd (fuzzy _ _ _ _ (same-str ty _ _ e))
  prefix-node (Node.Record fs) ty e h = absurd (let q = record-bytes b fs ty _ e in other _ _ q.1)
  prefix-node (Node.Access x n) ty e h = absurd (some≢none (ConstantRules.Const.Prefix bytes) (sym e))
  prefix-node (Node.Value n) ty e h = absurd (some≢none (ConstantRules.Const.Prefix bytes) (sym e))
  prefix-node (Node.Select x n) ty e h = absurd (some≢none (ConstantRules.Const.Prefix bytes) (sym e))
  prefix-node Node.Disjunction ty e h = absurd (some≢none (ConstantRules.Const.Prefix bytes) (sym e))
  prefix-node Node.Subquery ty e h = absurd (some≢none (ConstantRules.Const.Prefix bytes) (sym e))
  prefix-node (Node.Fact p n) ty e h = absurd (some≢none (ConstantRules.Const.Prefix bytes) (sym e))
  prefix-node Node.Arith ty e h = absurd (some≢none (ConstantRules.Const.Prefix bytes) (sym e))
  prefix-node Node.Error ty e h = absurd (some≢none (ConstantRules.Const.Prefix bytes) (sym e))

-- a Prefix: its name
pub record AsPrefix (T : Tables) (n t x : ℕ) : Type 0 where
  pub in-names : x < length T.names
  pub is : ConstantRules.constant T n t ≡ Some (ConstantRules.Const.Prefix (encode_prefix (name_at T x)))

module _ (T : Tables) (k : Passed T) (few : length T.nodes ≤ node_limit) (n t : ℕ) (h : n < length T.nodes) (g : t < length T.types) where
  as-prefix : (o : Option ConstantRules.Const) (x : ℕ) → ConstantRules.constant T n t ≡ o → view_of T n t o ≡ Some (Co.Prefix x) → AsPrefix T n t x
  as-prefix None x e q = absurd (let z : ◌≡◌ {A = ℕ} 0 1 = cc in omega arith)
  as-prefix (Some (ConstantRules.Const.Bytes bytes)) x e q = absurd (let z : ◌≡◌ {A = ℕ} 0 1 = cc in omega arith)
  as-prefix (Some (ConstantRules.Const.Prefix bytes)) x e q =
      let m : ℕ = stands_for T n in
      let p = prefix-node T (ConstantRules.constant T) bytes (node_at T m) (type_at T t) (sym (constant-is T (sound T k) n t g) ∙ e) (node_in_lem T k m (stands T k few n h).in-nodes) in
      let y : prefix_name (node_at T m) ≡ x = name-injective _ _ q in
      record {
        in-names = subst (λ (j : ℕ). j < length T.names) y p.1;
        is = e ∙ ap (λ (l : List ℕ). Some (ConstantRules.Const.Prefix l)) (p.0 ∙ ap (λ (j : ℕ). encode_prefix (name_at T j)) y);
      }
    where
      name-injective : (a b : ℕ) → Some (Co.Prefix a) ≡ Some (Co.Prefix b) → a ≡ b
      name-injective a b e = cc
  as-prefix (Some (ConstantRules.Const.Fuzzy y d a)) x e q = absurd (let z : ◌≡◌ {A = ℕ} 0 1 = cc in omega arith)

  pub known-prefix : (x : ℕ) → const_view T n t ≡ Some (Co.Prefix x) → AsPrefix T n t x
  unfolding const_view
  known-prefix x q = as-prefix (ConstantRules.constant T n t) x refl q

anchor-back : (a : Anchor) → anchor_of (anchor_view a) ≡ a
anchor-back Anchor.Prefix = refl
anchor-back Anchor.Whole = refl

module _ (T : Tables) (n t x d : ℕ) (a : CodeAnchor.Anchor) where
  as-fuzzy : (o : Option ConstantRules.Const) → ConstantRules.constant T n t ≡ o → view_of T n t o ≡ Some (Co.Fuzzy x d a) → ConstantRules.constant T n t ≡ Some (ConstantRules.Const.Fuzzy x d (anchor_of a))
  as-fuzzy None e q = absurd (let z : ◌≡◌ {A = ℕ} 0 1 = cc in omega arith)
  as-fuzzy (Some (ConstantRules.Const.Bytes bytes)) e q = absurd (let z : ◌≡◌ {A = ℕ} 0 1 = cc in omega arith)
  as-fuzzy (Some (ConstantRules.Const.Prefix bytes)) e q = absurd (let z : ◌≡◌ {A = ℕ} 0 1 = cc in omega arith)
  as-fuzzy (Some (ConstantRules.Const.Fuzzy y c b)) e q =
      let ex : y ≡ x = cc in
      let ed : c ≡ d = cc in
      let ea : anchor_view b ≡ a = cc in
      let eb : b ≡ anchor_of a = sym (anchor-back b) ∙ ap anchor_of ea in
      cc

  pub known-fuzzy : const_view T n t ≡ Some (Co.Fuzzy x d a) → ConstantRules.constant T n t ≡ Some (ConstantRules.Const.Fuzzy x d (anchor_of a))
  unfolding const_view
  known-fuzzy q = as-fuzzy (ConstantRules.constant T n t) refl q
