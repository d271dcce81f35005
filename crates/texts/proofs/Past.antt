-- Constants at numbers past the tables' ends.
use mathlib.Core.List.{List, [], ◌∷◌}
use Rattle.std.specs.Prelude.{Option, None, Some, unwrap_or}
use mathlib.Core.Path.{◌≡◌, refl, sym, ap, ◌∙◌}
use Prim.Native.Nat.{ℕ, zero, suc, ◌≤◌, min}
use native.Mathlib.Omega.{arith}
use lib.ListN.{length, get_or-eq_default}
use types.Run.{OneOf, miss}
use denote.Enum.Declared.{tag_of}
use Rattle.rules.specs.Base.{◌when_some◌}
use Rattle.rules.specs.File.{Tables, Ty, Node, var_name, type_at, node_at}
use Rattle.rules.specs.Constant as ConstantRules
use Rattle.rules.specs.Constant.{bytes_only, encode_int, flip_sign, const_of, stands_for, at_int, at_str, at_bytes, constant_record, constant_node, constant_below}
use Rattle.rules.proofs.Cases.{some≢none}
use Rattle.views.specs.Views.{run, byte_at, node_of, SeenNode}
use Rattle.views.specs.declared.NodeView.{NodeView}
use Rattle.views.specs.declared.NodeView.TheVariants as Nv
use Rattle.views.specs.contracts.NodeView as NodeViews
use Rattle.constant.specs.Sizes.{cap, view_of, const_view}
use Rattle.constant.specs.declared.Const.TheVariants as Co
use Rattle.encode.specs.Written.{bytes_of, or_empty, RoomForBytes, Wrote}
use Rattle.encode.proofs.Puts.{wrote_as}
use Rattle.records.proofs.Stores.{put-none}

module _ (T : Tables) (n t : ℕ) where
  no-types : length T.types ≡ 0 → ConstantRules.constant T n t ≡ None
  unfolding ConstantRules.constant constant_below
  no-types e = ap (λ (k : ℕ). constant_below T k n t) e

  -- a node past the last is Error
  stands-itself : length T.nodes ≤ n → node_at T (stands_for T n) ≡ Node.Error
  unfolding stands_for const_of var_name node_at ◌when_some◌
  stands-itself h =
      let e : node_at T n ≡ Node.Error = get_or-eq_default T.nodes Node.Error h in
      ap (λ (v : Node). node_at T (unwrap_or (const_of T.bindings v) n)) e ∙ e

  below_none : (limit : ℕ) → node_at T (stands_for T n) ≡ Node.Error → constant_below T limit n t ≡ None
  unfolding constant_below constant_node
  below_none zero e = refl
  below_none (suc limit) e = ap (λ (v : Node). constant_node T (constant_below T limit) v (type_at T t)) e

  pub node-past : length T.nodes ≤ n → None ≡ const_view T n t
  unfolding const_view ConstantRules.constant
  node-past h = sym (ap (view_of T n t) (below_none (length T.types) (stands-itself h)))

  pub none-typed : (k : ℕ) → k ≡ length T.types → k ≡ 0 → None ≡ const_view T n t
  unfolding const_view
  none-typed k e z = sym (ap (view_of T n t) (no-types (sym e ∙ z)))

-- at Int only an Int node has a constant
int-only : (T : Tables) (b : ℕ → ℕ → Option ConstantRules.Const) (f : List ℕ) (v : NodeView) → OneOf (1 ∷ 2 ∷ 3 ∷ 4 ∷ 5 ∷ 6 ∷ 7 ∷ 8 ∷ 9 ∷ 10 ∷ 11 ∷ 12 ∷ 13 ∷ 14 ∷ 15 ∷ 16 ∷ []) (tag_of NodeViews.the_type v) → constant_node T b (node_of f v) Ty.Int ≡ None
unfolding constant_node at_int at_str at_bytes constant_record
int-only T b f (Nv.Int at) w = absurd (miss (1 ∷ 2 ∷ 3 ∷ 4 ∷ 5 ∷ 6 ∷ 7 ∷ 8 ∷ 9 ∷ 10 ∷ 11 ∷ 12 ∷ 13 ∷ 14 ∷ 15 ∷ 16 ∷ []) 0 tt w)
int-only T b f (Nv.Str x) w = refl
int-only T b f (Nv.Bytes n at) w = refl
int-only T b f (Nv.Var x) w = refl
int-only T b f Nv.Wildcard w = refl
int-only T b f Nv.Never w = refl
int-only T b f (Nv.Prefix x) w = refl
int-only T b f (Nv.Fuzzy x d a) w = refl
int-only T b f (Nv.Record n at) w = refl
int-only T b f (Nv.Access x n) w = refl
int-only T b f (Nv.Value n) w = refl
int-only T b f (Nv.Select x n) w = refl
int-only T b f Nv.Disjunction w = refl
int-only T b f Nv.Subquery w = refl
int-only T b f (Nv.Fact p n) w = refl
int-only T b f Nv.Arith w = refl
int-only T b f Nv.Error w = refl

module _ (f : List ℕ) (T : Tables) (n t m : ℕ) (v : NodeView) (past : length T.types ≤ t) (em : m ≡ stands_for T n) (s : SeenNode f (node_at T m) v) where
  is-int : type_at T t ≡ Ty.Int
  unfolding type_at
  is-int = get_or-eq_default T.types Ty.Int past

  seen : node_at T (stands_for T n) ≡ node_of f v
  seen = sym (s.is ∙ ap (node_at T) em)

  below-is : (limit : ℕ) → constant_below T (suc limit) n t ≡ constant_node T (constant_below T limit) (node_of f v) Ty.Int
  unfolding constant_below
  below-is limit = ap (λ (x : Node). constant_node T (constant_below T limit) x (type_at T t)) seen ∙ ap (constant_node T (constant_below T limit) (node_of f v)) is-int

  below_other : OneOf (1 ∷ 2 ∷ 3 ∷ 4 ∷ 5 ∷ 6 ∷ 7 ∷ 8 ∷ 9 ∷ 10 ∷ 11 ∷ 12 ∷ 13 ∷ 14 ∷ 15 ∷ 16 ∷ []) (tag_of NodeViews.the_type v) → (limit : ℕ) → constant_below T limit n t ≡ None
  unfolding constant_below
  below_other w zero = refl
  below_other w (suc limit) = below-is limit ∙ int-only T (constant_below T limit) f v w

  other : OneOf (1 ∷ 2 ∷ 3 ∷ 4 ∷ 5 ∷ 6 ∷ 7 ∷ 8 ∷ 9 ∷ 10 ∷ 11 ∷ 12 ∷ 13 ∷ 14 ∷ 15 ∷ 16 ∷ []) (tag_of NodeViews.the_type v) → ConstantRules.constant T n t ≡ None
  unfolding ConstantRules.constant
  other w = below_other w (length T.types)

  pub past-other : OneOf (1 ∷ 2 ∷ 3 ∷ 4 ∷ 5 ∷ 6 ∷ 7 ∷ 8 ∷ 9 ∷ 10 ∷ 11 ∷ 12 ∷ 13 ∷ 14 ∷ 15 ∷ 16 ∷ []) (tag_of NodeViews.the_type v) → None ≡ const_view T n t
  unfolding const_view
  past-other w = sym (ap (view_of T n t) (other w))

  pub put_other : (at : ℕ) (w : List ℕ) → OneOf (1 ∷ 2 ∷ 3 ∷ 4 ∷ 5 ∷ 6 ∷ 7 ∷ 8 ∷ 9 ∷ 10 ∷ 11 ∷ 12 ∷ 13 ∷ 14 ∷ 15 ∷ 16 ∷ []) (tag_of NodeViews.the_type v) → Wrote (or_empty (bytes_of T n t)) at w at w
  unfolding bytes_of or_empty ◌when_some◌
  put_other at w o =
      let e : or_empty (bytes_of T n t) ≡ [] = ap (λ (c : Option ConstantRules.Const). or_empty (c when_some bytes_only)) (other o) in
      wrote_as [] (or_empty (bytes_of T n t)) at at w w (record { place = omega arith; is = sym (put-none w at) }) (sym e)

  module _ (p : ℕ) (ev : v ≡ Nv.Int p) where
    abbrev pub int : List ℕ
    int = encode_int (run (byte_at f) 1 8 p)

    int_is : (limit : ℕ) → (limit ≡ 0 → ⊥) → constant_below T limit n t ≡ Some (ConstantRules.Const.Bytes int)
    unfolding constant_node at_int
    int_is zero z = absurd (z refl)
    int_is (suc limit) z = below-is limit ∙ ap (λ (x : NodeView). constant_node T (constant_below T limit) (node_of f x) Ty.Int) ev

    nine : length int ≡ 9
    unfolding encode_int flip_sign run
    nine = refl

    pub past-int : (k : ℕ) → k ≡ length T.types → (k ≡ 0 → ⊥) → Some (Co.Bytes n t 9) ≡ const_view T n t
    unfolding const_view ConstantRules.constant
    past-int k ek z =
        let e : 9 ≡ min cap (length int) = omega (arith, nine) in
        ap (λ (k : ℕ). Some (Co.Bytes n t k)) e ∙ sym (ap (view_of T n t) (int_is (length T.types) (λ q. z (ek ∙ q))))

    some-types : (at : ℕ) → RoomForBytes (bytes_of T n t) at → length T.types ≡ 0 → ⊥
    unfolding bytes_of ◌when_some◌
    some-types at h z = some≢none _ (sym h.is ∙ ap (λ (c : Option ConstantRules.Const). c when_some bytes_only) (no-types T n t z))

    pub put-int : (at r : ℕ) (w w' : List ℕ) → RoomForBytes (bytes_of T n t) at → Wrote int at w r w' → Wrote (or_empty (bytes_of T n t)) at w r w'
    unfolding bytes_of or_empty ◌when_some◌ bytes_only ConstantRules.constant
    put-int at r w w' h a = wrote_as int (or_empty (bytes_of T n t)) at r w w' a (sym (ap (λ (c : Option ConstantRules.Const). or_empty (c when_some bytes_only)) (int_is (length T.types) (some-types at h))))
