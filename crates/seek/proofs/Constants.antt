-- What is known of a constant that the code carries, by its form, and what follows for a level that it narrows.
use Prim.Native.Nat.{ℕ, ◌<◌}
use mathlib.Core.Path.{◌≡◌, sym, ap, ◌∙◌}
use mathlib.Core.List.{List, []}
use Rattle.std.specs.Prelude.{Option, None, Some, unwrap_or}
use native.Mathlib.Omega.{arith}
use lib.ListN.{length}
use Rattle.rules.specs.Base.{◌when_some◌}
use Rattle.rules.specs.File as File
use Rattle.rules.specs.File.{Tables, name_at}
use Rattle.rules.specs.Constant as ConstantRules
use Rattle.rules.specs.Constant.{bytes_only, encode_prefix}
use Rattle.rules.specs.Events.{Narrowing}
use Rattle.rules.specs.Walk.{narrowing, narrow_by}
use Rattle.state.specs.State.{State}
use Rattle.state.specs.Ops.{narrow}
use Rattle.file.specs.Tables.{tables_of}
use Rattle.accepted_file.specs.AcceptedFile.{AcceptedFile}
use Rattle.accepted_file.proofs.Given.{passed, few-nodes}
use Rattle.views.specs.Views.{anchor_of}
use Rattle.views.specs.declared.Anchor.{Anchor}
use Rattle.seek.specs.Seek.{constant_bytes}
use Rattle.constant.specs.Sizes.{view_of, const_view}
use Rattle.constant.specs.declared.Const.{Const}
use Rattle.constant.specs.declared.Const.TheVariants as Co
use Rattle.constant.proofs.Known.{known-nothing, known_bytes, known-prefix, known-fuzzy}
use Rattle.seek.specs.Narrow.{const_of, narrowed_by, IsConstant}

-- bytes stand where the node and the type say
pub record AtPlace (T : Tables) (n t l : ℕ) : Type 0 where
  pub in-nodes : n < length T.nodes
  pub in-types : t < length T.types
  pub is : const_view T n t ≡ Some (Co.Bytes n t l)

same_place : (T : Tables) (m u n t l : ℕ) (o : Option ConstantRules.Const) → view_of T m u o ≡ Some (Co.Bytes n t l) → (m ≡ n) × (u ≡ t)
same_place T m u n t l None e = absurd (let z : ◌≡◌ {A = ℕ} 0 1 = cc in omega arith)
same_place T m u n t l (Some (ConstantRules.Const.Bytes bytes)) e = (cc, cc)
same_place T m u n t l (Some (ConstantRules.Const.Prefix bytes)) e = absurd (let z : ◌≡◌ {A = ℕ} 0 1 = cc in omega arith)
same_place T m u n t l (Some (ConstantRules.Const.Fuzzy x d a)) e = absurd (let z : ◌≡◌ {A = ℕ} 0 1 = cc in omega arith)

view-place : (T : Tables) (m u n t l : ℕ) → const_view T m u ≡ Some (Co.Bytes n t l) → (m ≡ n) × (u ≡ t)
unfolding const_view
view-place T m u n t l e = same_place T m u n t l (ConstantRules.constant T m u) e

module _ (T : Tables) (c : Option Const) (k : IsConstant T c) where
  pub at_place : (n t l : ℕ) → c ≡ Some (Co.Bytes n t l) → AtPlace T n t l
  at_place n t l e =
      let q : const_view T k.node k.type ≡ Some (Co.Bytes n t l) = sym k.is ∙ e in
      let p = view-place T k.node k.type n t l q in
      record {
        in-nodes = omega (arith, p.0, k.in-nodes);
        in-types = omega (arith, p.1, k.in-types);
        is = sym (ap (λ (m : ℕ). const_view T m t) p.0) ∙ sym (ap (const_view T k.node) p.1) ∙ q;
      }

-- the name of a prefix is the file's
pub in-names : (f ix : List ℕ) → AcceptedFile f ix → (c : Option Const) (k : IsConstant (tables_of f) c) (x : ℕ) → c ≡ Some (Co.Prefix x) → x < length (tables_of f).names
in-names f ix r c k x e = (known-prefix (tables_of f) (passed f ix r) (few-nodes f ix r.indexed) k.node k.type k.in-nodes k.in-types x (sym k.is ∙ e)).in-names

-- what the code carries is the rules' constant
pub const-is : (f ix : List ℕ) → AcceptedFile f ix → (n t : ℕ) → n < length (tables_of f).nodes → t < length (tables_of f).types → (c : Option Const) → c ≡ const_view (tables_of f) n t → const_of (tables_of f) c ≡ ConstantRules.constant (tables_of f) n t
unfolding const_of
const-is f ix r n t h g None e = sym (known-nothing (tables_of f) n t (sym e))
const-is f ix r n t h g (Some (Co.Bytes m u l)) e =
    let p = view-place (tables_of f) n t m u l (sym e) in
    ap (λ (k : ℕ). ConstantRules.constant (tables_of f) k u) (sym p.0) ∙ ap (ConstantRules.constant (tables_of f) n) (sym p.1)
const-is f ix r n t h g (Some (Co.Prefix x)) e = sym (known-prefix (tables_of f) (passed f ix r) (few-nodes f ix r.indexed) n t h g x (sym e)).is
const-is f ix r n t h g (Some (Co.Fuzzy x d a)) e = sym (known-fuzzy (tables_of f) n t x d a (sym e))

module _ (T : Tables) (node : ℕ) (path : File.FieldPath) (c : Option Const) (s s₀ : State) where
  by-rules : (o : Option ConstantRules.Const) → const_of T c ≡ o → s ≡ narrowed_by T node o path s₀ → s ≡ narrowed_by T node (const_of T c) path s₀
  by-rules o e q = q ∙ sym (ap (λ (o : Option ConstantRules.Const). narrowed_by T node o path s₀) e)

  pub by-nothing : c ≡ None → s ≡ s₀ → s ≡ narrowed_by T node (const_of T c) path s₀
  unfolding const_of narrowed_by
  by-nothing e q = by-rules None (ap (const_of T) e) q

  pub by_bytes : (n t l : ℕ) → c ≡ Some (Co.Bytes n t l) → const_view T n t ≡ Some (Co.Bytes n t l) → s ≡ narrow node path (Narrowing.Bytes (constant_bytes T n t)) s₀ → s ≡ narrowed_by T node (const_of T c) path s₀
  unfolding const_of narrowed_by narrow_by narrowing constant_bytes ◌when_some◌ bytes_only
  by_bytes n t l e v q =
      let k = known_bytes T n t n t l v in
      by-rules (Some (ConstantRules.Const.Bytes k.bytes)) (ap (const_of T) e ∙ k.is)
      (q ∙ ap (λ (o : Option ConstantRules.Const). narrow node path (Narrowing.Bytes (unwrap_or (o when_some bytes_only) [])) s₀) k.is)

  pub by-prefix : (x : ℕ) → c ≡ Some (Co.Prefix x) → s ≡ narrow node path (Narrowing.Prefix (encode_prefix (name_at T x))) s₀ → s ≡ narrowed_by T node (const_of T c) path s₀
  unfolding const_of narrowed_by narrow_by narrowing
  by-prefix x e q = by-rules (Some (ConstantRules.Const.Prefix (encode_prefix (name_at T x)))) (ap (const_of T) e) q

  pub by-fuzzy : (x d : ℕ) (a : Anchor) → c ≡ Some (Co.Fuzzy x d a) → s ≡ narrow node path (Narrowing.Fuzzy x d (anchor_of a)) s₀ → s ≡ narrowed_by T node (const_of T c) path s₀
  unfolding const_of narrowed_by narrow_by narrowing
  by-fuzzy x d a e q = by-rules (Some (ConstantRules.Const.Fuzzy x d (anchor_of a))) (ap (const_of T) e) q
