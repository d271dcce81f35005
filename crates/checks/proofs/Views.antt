-- What the views of a type and of a node give to depths, constancy and marks.
use Prim.Native.Nat.{ℕ, ◌+◌, ◌<◌}
use mathlib.Core.Path.{◌≡◌, refl, sym, ap, ◌∙◌}
use mathlib.Core.Bool.{Bool, true, false}
use mathlib.Core.List.{List, [], ◌∷◌}
use lib.Dec.{ltb}
use lib.ListN.{get_or}
use borrow.Author.Tests.{ltb-true}
use Rattle.rules.specs.Base.{all}
use Rattle.rules.specs.File.{Ty, Node, child_types, child_nodes, deepest, depth_of, constant_of}
use Rattle.file.specs.Steps.{word}
use Rattle.views.specs.Views.{run, pattern_at, node_of, SeenType, SeenNode}
use Rattle.views.specs.declared.TypeView.{TypeView}
use Rattle.views.specs.declared.TypeView.TheVariants as Tv
use Rattle.views.specs.declared.NodeView.{NodeView}
use Rattle.views.specs.declared.NodeView.TheVariants as Nv
use Rattle.record_checks.proofs.Every.{if-both, both-inv}
use Rattle.record_checks.proofs.Seen.{by-type, by-node, record-children, union-children, pattern-children}
use Rattle.checks.proofs.Bottom.{all_map}

-- where a type's child numbers stand
module _ (f : List ℕ) (ty : Ty) (v : TypeView) (s : SeenType f ty v) (n at : ℕ) where
  pub fields-are : v ≡ Tv.Record n at → run (word f) 4 n (at + 2) ≡ child_types ty
  fields-are e = record-children f n at ∙ by-type child_types s e

  pub alternatives-are : v ≡ Tv.Union n at → run (word f) 8 n (at + 6) ≡ child_types ty
  alternatives-are e = union-children f n at ∙ by-type child_types s e

pub lower-run : (t : ℕ) (l cs : List ℕ) → l ≡ cs → all (λ c. ltb c t) cs ≡ true → all (λ c. ltb c t) l ≡ true
lower-run t l cs e h = ap (all (λ c. ltb c t)) e ∙ h

pub depth_is : (ds l : List ℕ) (ty : Ty) (r : ℕ) → r ≡ deepest ds l → l ≡ child_types ty → 1 + r ≡ depth_of ds ty
unfolding depth_of
depth_is ds l ty r e g = ap (λ (k : ℕ). 1 + k) (e ∙ ap (deepest ds) g)

pub patterns-are : (f : List ℕ) (nd : Node) (v : NodeView) → SeenNode f nd v → (n at : ℕ) → v ≡ Nv.Record n at → run (word f) 4 n (at + 2) ≡ child_nodes nd
patterns-are f nd v s n at e = pattern-children f n at ∙ by-node child_nodes s e

pub constant-record : (f : List ℕ) (nd : Node) (v : NodeView) → SeenNode f nd v → (n at : ℕ) → v ≡ Nv.Record n at → (bs : List Bool) → all (λ c. get_or bs c false) (run (word f) 4 n (at + 2)) ≡ constant_of bs nd
unfolding constant_of child_nodes
constant-record f nd v s n at e bs =
    ap (all (λ c. get_or bs c false)) (pattern-children f n at) ∙ sym (all_map (λ x. x.node) (λ c. get_or bs c false) (run (pattern_at f) 4 n at)) ∙ by-node (constant_of bs) s e

-- a single child
pub single-low : (c t : ℕ) (cs : List ℕ) → c ∷ [] ≡ cs → all (λ k. ltb k t) cs ≡ true → c < t
unfolding all
single-low c t cs e h =
    let g : all (λ k. ltb k t) (c ∷ []) ≡ true = ap (all (λ k. ltb k t)) e ∙ h in
    ltb-true c t (both-inv (ltb c t) true (sym (if-both (ltb c t) true) ∙ g)).0

-- a node of none of the variants that are constant
pub constant-rest : (f : List ℕ) (bs : List Bool) (v : NodeView) → ((at : ℕ) → v ≡ Nv.Int at → ⊥) → ((x : ℕ) → v ≡ Nv.Str x → ⊥)
    → ((n at : ℕ) → v ≡ Nv.Bytes n at → ⊥) → ((n at : ℕ) → v ≡ Nv.Record n at → ⊥) → false ≡ constant_of bs (node_of f v)
unfolding constant_of
constant-rest f bs (Nv.Int at) i s b r = absurd (i at refl)
constant-rest f bs (Nv.Str x) i s b r = absurd (s x refl)
constant-rest f bs (Nv.Bytes n at) i s b r = absurd (b n at refl)
constant-rest f bs (Nv.Var x) i s b r = refl
constant-rest f bs Nv.Wildcard i s b r = refl
constant-rest f bs Nv.Never i s b r = refl
constant-rest f bs (Nv.Prefix x) i s b r = refl
constant-rest f bs (Nv.Fuzzy x d a) i s b r = refl
constant-rest f bs (Nv.Record n at) i s b r = absurd (r n at refl)
constant-rest f bs (Nv.Access x n) i s b r = refl
constant-rest f bs (Nv.Value n) i s b r = refl
constant-rest f bs (Nv.Select x n) i s b r = refl
constant-rest f bs Nv.Disjunction i s b r = refl
constant-rest f bs Nv.Subquery i s b r = refl
constant-rest f bs (Nv.Fact p n) i s b r = refl
constant-rest f bs Nv.Arith i s b r = refl
constant-rest f bs Nv.Error i s b r = refl
