-- What `constant` gives for each form of node.
use Prim.Native.Nat.{ℕ, ◌+◌, ◌≤◌, ◌<◌, min}
use mathlib.Core.Path.{◌≡◌, refl, sym, ap, ◌∙◌, subst}
use mathlib.Core.List.{List, [], ◌∷◌}
use Rattle.std.specs.Prelude.{Option, None}
use native.Mathlib.Omega.{arith}
use lib.ListN.{length, length-append}
use types.Run.{OneOf, miss}
use denote.Enum.Declared.{tag_of}
use Rattle.rules.specs.File.{Tables, Ty, Node, name_at, type_at, node_at}
use Rattle.rules.specs.Checks.{is_name, node_in}
use Rattle.rules.specs.Constant as ConstantRules
use Rattle.rules.specs.Constant.{at_int, at_str, at_bytes, escape, flip_sign, encode_int, encode_prefix, encode_str, encode_bytes, constant_record, constant_node, stands_for}
use Rattle.rules.proofs.Cases.{ltb-lt}
use Rattle.rules.proofs.Each.{each-imply}
use Rattle.file.specs.Tables.{tables_of}
use Rattle.views.specs.Views.{run, byte_at, field_at, alternative_at, pattern_at, anchor_of, node_of, SeenNode, SeenType}
use Rattle.views.specs.declared.Anchor.{Anchor}
use Rattle.views.specs.declared.Anchor.TheVariants as An
use Rattle.views.specs.declared.NodeView.{NodeView}
use Rattle.views.specs.declared.NodeView.TheVariants as Nv
use Rattle.views.specs.declared.TypeView.{TypeView}
use Rattle.views.specs.declared.TypeView.TheVariants as Tv
use Rattle.views.specs.contracts.NodeView as NodeViews
use Rattle.accepted_file.specs.AcceptedFile.{AcceptedFile}
use Rattle.accepted_file.proofs.Given.{passed, sound-tables, few-nodes}
use Rattle.accepted_file.proofs.Ranges.{stands, patterns, fields, alternatives, node_in_lem}
use Rattle.rules.proofs.Constants.{constant-is}
use Rattle.constant.specs.Sizes.{cap, view_some, view_of, const_view, prefix_name, anchor_view, int_only, str_only, bytes_alone, Patterns, Fields, Alternatives}
use Rattle.constant.specs.declared.Const.{Const}
use Rattle.constant.specs.declared.Const.TheVariants as Co

-- a constant that fits one type alone, by position
module _ (T : Tables) (n t : ℕ) (k : ConstantRules.Const) where
  at-int : (ty : Ty) → int_only ty (view_some T n t k) ≡ view_of T n t (at_int ty k)
  unfolding at_int
  at-int Ty.Int = refl
  at-int Ty.Str = refl
  at-int Ty.Bytes = refl
  at-int (Ty.Fact p) = refl
  at-int (Ty.Record fs) = refl
  at-int (Ty.Union alts) = refl

  at-str : (ty : Ty) → str_only ty (view_some T n t k) ≡ view_of T n t (at_str ty k)
  unfolding at_str
  at-str Ty.Int = refl
  at-str Ty.Str = refl
  at-str Ty.Bytes = refl
  at-str (Ty.Fact p) = refl
  at-str (Ty.Record fs) = refl
  at-str (Ty.Union alts) = refl

  at-bytes : (ty : Ty) → bytes_alone ty (view_some T n t k) ≡ view_of T n t (at_bytes ty k)
  unfolding at_bytes
  at-bytes Ty.Int = refl
  at-bytes Ty.Str = refl
  at-bytes Ty.Bytes = refl
  at-bytes (Ty.Fact p) = refl
  at-bytes (Ty.Record fs) = refl
  at-bytes (Ty.Union alts) = refl

anchor-same : (a : Anchor) → anchor_view (anchor_of a) ≡ a
anchor-same An.Prefix = refl
anchor-same An.Whole = refl

-- a node that is no constant of its own
no-constant : (T : Tables) (b : ℕ → ℕ → Option ConstantRules.Const) (f : List ℕ) (v : NodeView) (ty : Ty) → OneOf (3 ∷ 4 ∷ 5 ∷ 9 ∷ 10 ∷ 11 ∷ 12 ∷ 13 ∷ 14 ∷ 15 ∷ 16 ∷ []) (tag_of NodeViews.the_type v) → constant_node T b (node_of f v) ty ≡ None
unfolding constant_node
no-constant T b f (Nv.Int at) ty w = absurd (miss (3 ∷ 4 ∷ 5 ∷ 9 ∷ 10 ∷ 11 ∷ 12 ∷ 13 ∷ 14 ∷ 15 ∷ 16 ∷ []) 0 tt w)
no-constant T b f (Nv.Str x) ty w = absurd (miss (3 ∷ 4 ∷ 5 ∷ 9 ∷ 10 ∷ 11 ∷ 12 ∷ 13 ∷ 14 ∷ 15 ∷ 16 ∷ []) 1 tt w)
no-constant T b f (Nv.Bytes n at) ty w = absurd (miss (3 ∷ 4 ∷ 5 ∷ 9 ∷ 10 ∷ 11 ∷ 12 ∷ 13 ∷ 14 ∷ 15 ∷ 16 ∷ []) 2 tt w)
no-constant T b f (Nv.Var x) ty w = refl
no-constant T b f Nv.Wildcard ty w = refl
no-constant T b f Nv.Never ty w = refl
no-constant T b f (Nv.Prefix x) ty w = absurd (miss (3 ∷ 4 ∷ 5 ∷ 9 ∷ 10 ∷ 11 ∷ 12 ∷ 13 ∷ 14 ∷ 15 ∷ 16 ∷ []) 6 tt w)
no-constant T b f (Nv.Fuzzy x d a) ty w = absurd (miss (3 ∷ 4 ∷ 5 ∷ 9 ∷ 10 ∷ 11 ∷ 12 ∷ 13 ∷ 14 ∷ 15 ∷ 16 ∷ []) 7 tt w)
no-constant T b f (Nv.Record n at) ty w = absurd (miss (3 ∷ 4 ∷ 5 ∷ 9 ∷ 10 ∷ 11 ∷ 12 ∷ 13 ∷ 14 ∷ 15 ∷ 16 ∷ []) 8 tt w)
no-constant T b f (Nv.Access x n) ty w = refl
no-constant T b f (Nv.Value n) ty w = refl
no-constant T b f (Nv.Select x n) ty w = refl
no-constant T b f Nv.Disjunction ty w = refl
no-constant T b f Nv.Subquery ty w = refl
no-constant T b f (Nv.Fact p n) ty w = refl
no-constant T b f Nv.Arith ty w = refl
no-constant T b f Nv.Error ty w = refl

-- the view of the node that node n stands for, at type t
pub record ConstantSeen (f : List ℕ) (T : Tables) (n t : ℕ) (v : NodeView) : Type 0 where
  pub node : node_of f v ≡ node_at T (stands_for T n)
  pub is : ConstantRules.constant T n t ≡ constant_node T (ConstantRules.constant T) (node_at T (stands_for T n)) (type_at T t)

pub met : (f ix : List ℕ) → AcceptedFile f ix → (n t m : ℕ) (v : NodeView) → t < length (tables_of f).types → m ≡ stands_for (tables_of f) n → SeenNode f (node_at (tables_of f) m) v → ConstantSeen f (tables_of f) n t v
met f ix r n t m v h e s = record { node = s.is ∙ ap (node_at (tables_of f)) e; is = constant-is (tables_of f) (sound-tables f ix r) n t h }

module _ (f : List ℕ) (T : Tables) (n t : ℕ) (v : NodeView) (k : ConstantSeen f T n t v) where
  view-is : (w : NodeView) → v ≡ w → const_view T n t ≡ view_of T n t (constant_node T (ConstantRules.constant T) (node_of f w) (type_at T t))
  unfolding const_view
  view-is w e = ap (view_of T n t) (k.is ∙ ap (λ (y : Node). constant_node T (ConstantRules.constant T) y (type_at T t)) (sym k.node ∙ ap (node_of f) e))

  pub as_int : (p : ℕ) (r : Option Const) → v ≡ Nv.Int p → r ≡ int_only (type_at T t) (Co.Bytes n t 9) → r ≡ const_view T n t
  unfolding constant_node encode_int flip_sign run
  as_int p r e q = q ∙ at-int T n t (ConstantRules.Const.Bytes (encode_int (run (byte_at f) 1 8 p))) (type_at T t) ∙ sym (view-is (Nv.Int p) e)

  pub as-str : (x l m : ℕ) (r : Option Const) → v ≡ Nv.Str x → l ≡ length (encode_prefix (name_at T x)) → m ≡ min cap (1 + l) → r ≡ str_only (type_at T t) (Co.Bytes n t m) → r ≡ const_view T n t
  unfolding constant_node encode_str
  as-str x l m r e el em q =
      let s : length (encode_str (name_at T x)) ≡ length (encode_prefix (name_at T x)) + 1 = length-append (encode_prefix (name_at T x)) (0 ∷ []) in
      let g : m ≡ min cap (length (encode_str (name_at T x))) = omega arith in
      q ∙ ap (λ (j : ℕ). str_only (type_at T t) (Co.Bytes n t j)) g ∙ at-str T n t (ConstantRules.Const.Bytes (encode_str (name_at T x))) (type_at T t) ∙ sym (view-is (Nv.Str x) e)

  pub as_bytes_lem : (i p l m : ℕ) (r : Option Const) → v ≡ Nv.Bytes i p → l ≡ length (escape (run (byte_at f) 1 i p)) → m ≡ min cap (2 + l) → r ≡ bytes_alone (type_at T t) (Co.Bytes n t m) → r ≡ const_view T n t
  unfolding constant_node encode_bytes
  as_bytes_lem i p l m r e el em q =
      let b : List ℕ = run (byte_at f) 1 i p in
      let g : m ≡ min cap (length (encode_bytes b)) = omega (arith, length-append (escape b) (0 ∷ [])) in
      q ∙ ap (λ (j : ℕ). bytes_alone (type_at T t) (Co.Bytes n t j)) g ∙ at-bytes T n t (ConstantRules.Const.Bytes (encode_bytes b)) (type_at T t) ∙ sym (view-is (Nv.Bytes i p) e)

  pub as-prefix : (x : ℕ) (r : Option Const) → v ≡ Nv.Prefix x → r ≡ str_only (type_at T t) (Co.Prefix x) → r ≡ const_view T n t
  unfolding constant_node prefix_name
  as-prefix x r e q =
      let g : x ≡ prefix_name (node_at T (stands_for T n)) = ap (λ (w : NodeView). prefix_name (node_of f w)) (sym e) ∙ ap prefix_name k.node in
      q ∙ ap (λ (j : ℕ). str_only (type_at T t) (Co.Prefix j)) g ∙ at-str T n t (ConstantRules.Const.Prefix (encode_prefix (name_at T x))) (type_at T t) ∙ sym (view-is (Nv.Prefix x) e)

  pub as-fuzzy : (x d : ℕ) (a : Anchor) (r : Option Const) → v ≡ Nv.Fuzzy x d a → r ≡ str_only (type_at T t) (Co.Fuzzy x d a) → r ≡ const_view T n t
  unfolding constant_node
  as-fuzzy x d a r e q =
      q ∙ ap (λ (b : Anchor). str_only (type_at T t) (Co.Fuzzy x d b)) (sym (anchor-same a)) ∙ at-str T n t (ConstantRules.Const.Fuzzy x d (anchor_of a)) (type_at T t) ∙ sym (view-is (Nv.Fuzzy x d a) e)

  pub as-pairs : (i p : ℕ) (r : Option Const) → v ≡ Nv.Record i p → r ≡ view_of T n t (constant_record (ConstantRules.constant T) (run (pattern_at f) 4 i p) (type_at T t)) → r ≡ const_view T n t
  unfolding constant_node
  as-pairs i p r e q = q ∙ sym (view-is (Nv.Record i p) e)

  pub as-other : OneOf (3 ∷ 4 ∷ 5 ∷ 9 ∷ 10 ∷ 11 ∷ 12 ∷ 13 ∷ 14 ∷ 15 ∷ 16 ∷ []) (tag_of NodeViews.the_type v) → None ≡ const_view T n t
  as-other w = sym (view-is v refl ∙ ap (view_of T n t) (no-constant T (ConstantRules.constant T) f v (type_at T t) w))

-- a Str's and a Prefix's name is in range
pub name_in : (f ix : List ℕ) → AcceptedFile f ix → (n m : ℕ) (v : NodeView) → n < length (tables_of f).nodes → m ≡ stands_for (tables_of f) n → SeenNode f (node_at (tables_of f) m) v → (x : ℕ) → v ≡ Nv.Str x → x < length (tables_of f).names
unfolding node_in is_name
name_in f ix r n m v h e s x q =
    let i = (stands (tables_of f) (passed f ix r) (few-nodes f ix r.indexed) n h).in-nodes in
    ltb-lt _ _ (ap (λ (w : NodeView). node_in (tables_of f) (node_of f w)) (sym q) ∙ ap (node_in (tables_of f)) (s.is ∙ ap (node_at (tables_of f)) e) ∙ node_in_lem (tables_of f) (passed f ix r) (stands_for (tables_of f) n) i)

pub stood-in : (f ix : List ℕ) → AcceptedFile f ix → (n m : ℕ) → n < length (tables_of f).nodes → m ≡ stands_for (tables_of f) n → m < length (tables_of f).nodes
stood-in f ix r n m h e = subst (λ (j : ℕ). j < length (tables_of f).nodes) (sym e) (stands (tables_of f) (passed f ix r) (few-nodes f ix r.indexed) n h).in-nodes

pub pairs-ok : (f ix : List ℕ) → AcceptedFile f ix → (n m : ℕ) (v : NodeView) → n < length (tables_of f).nodes → m ≡ stands_for (tables_of f) n → SeenNode f (node_at (tables_of f) m) v → (i p : ℕ) → v ≡ Nv.Record i p → Patterns f (tables_of f) n i p
pairs-ok f ix r n m v h e s i p q =
    let w = subst (SeenNode f (node_at (tables_of f) m)) q s in
    record { inside = w.inside; each = patterns (tables_of f) (passed f ix r) (few-nodes f ix r.indexed) n (run (pattern_at f) 4 i p) h (sym (w.is ∙ ap (node_at (tables_of f)) e)) }

pub fields-ok : (f ix : List ℕ) → AcceptedFile f ix → (t : ℕ) (v : TypeView) → t < length (tables_of f).types → SeenType f (type_at (tables_of f) t) v → (k from : ℕ) → v ≡ Tv.Record k from → Fields f (tables_of f) k from
fields-ok f ix r t v h s k from q =
    let w = subst (SeenType f (type_at (tables_of f) t)) q s in
    record { inside = w.inside; each = each-imply (λ c o. o.in-types) (fields (tables_of f) (passed f ix r) t (run (field_at f) 4 k from) h (sym w.is)) }

pub alternatives-ok : (f ix : List ℕ) → AcceptedFile f ix → (t : ℕ) (v : TypeView) → t < length (tables_of f).types → SeenType f (type_at (tables_of f) t) v → (k from : ℕ) → v ≡ Tv.Union k from → Alternatives f (tables_of f) k from
alternatives-ok f ix r t v h s k from q =
    let w = subst (SeenType f (type_at (tables_of f) t)) q s in
    record { inside = w.inside; each = each-imply (λ c o. o.in-types) (alternatives (tables_of f) (passed f ix r) t (run (alternative_at f) 8 k from) h (sym w.is)) }

-- a Bytes node's bytes lie within the file
pub bytes_inside : (f : List ℕ) (node : Node) (v : NodeView) (k at : ℕ) → length f ≤ 32768 → SeenNode f node v → v ≡ Nv.Bytes k at → (at + k ≤ length f) × (k ≤ 32768)
bytes_inside f node v k at h s e = let i : at + k ≤ length f = (subst (SeenNode f node) e s).inside in (i, omega arith)

-- and an Int's eight
pub int-inside : (f : List ℕ) (node : Node) (v : NodeView) (p : ℕ) → SeenNode f node v → v ≡ Nv.Int p → p + 8 ≤ length f
int-inside f node v p s e = (subst (SeenNode f node) e s).inside
