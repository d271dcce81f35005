-- Entries by any number: what the written rules give past a section's count.
use Prim.Native.Nat.{ℕ, ◌≤◌, ◌<◌}
use mathlib.Core.Path.{◌≡◌, sym, ap, ◌∙◌}
use mathlib.Core.Bool.{Bool, true, false}
use mathlib.Core.List.{List}
use Rattle.std.specs.Prelude.{None}
use borrow.Author.Tests.{lt-ltb, le-ltb}
use lib.ListN.{length, get_or-eq_default}
use Rattle.rules.specs.File as File
use Rattle.rules.specs.File.{Tables, type_at, predicate_at, node_at}
use Rattle.file.specs.Sections as Sections
use Rattle.views.specs.declared.TypeView.{TypeView}
use Rattle.views.specs.declared.TypeView.TheVariants as Tv
use Rattle.views.specs.declared.NodeView.{NodeView}
use Rattle.views.specs.declared.NodeView.TheVariants as Nv
use Rattle.views.specs.Views.{start_at, type_view, node_view, type_entry, node_entry, predicate_of, SeenType, SeenNode}

module _ (T : Tables) (f ix : List ℕ) where
  pub known-type : (t : ℕ) (v : TypeView) → t < length T.types → v ≡ type_view f (start_at ix Sections.types t) → v ≡ type_entry T f ix t
  unfolding type_entry
  known-type t v h e =
      e ∙ sym (ap (λ (b : Bool). elim b as (λ _. TypeView) [ true ↦ type_view f (start_at ix Sections.types t) | false ↦ Tv.Int ]) (lt-ltb _ _ h))

  pub past-types : (t : ℕ) → length T.types ≤ t → SeenType f (type_at T t) Tv.Int × (Tv.Int ≡ type_entry T f ix t)
  unfolding type_at type_entry
  past-types t h = (
    record { is = sym (get_or-eq_default T.types File.Ty.Int h); inside = tt },
    sym (ap (λ (b : Bool). elim b as (λ _. TypeView) [ true ↦ type_view f (start_at ix Sections.types t) | false ↦ Tv.Int ]) (le-ltb _ _ h)),
  )

  pub known-node : (n : ℕ) (v : NodeView) → n < length T.nodes → v ≡ node_view f (start_at ix Sections.nodes n) → v ≡ node_entry T f ix n
  unfolding node_entry
  known-node n v h e =
      e ∙ sym (ap (λ (b : Bool). elim b as (λ _. NodeView) [ true ↦ node_view f (start_at ix Sections.nodes n) | false ↦ Nv.Error ]) (lt-ltb _ _ h))

  pub past-nodes : (n : ℕ) → length T.nodes ≤ n → SeenNode f (node_at T n) Nv.Error × (Nv.Error ≡ node_entry T f ix n)
  unfolding node_at node_entry
  past-nodes n h = (
    record { is = sym (get_or-eq_default T.nodes File.Node.Error h); inside = tt },
    sym (ap (λ (b : Bool). elim b as (λ _. NodeView) [ true ↦ node_view f (start_at ix Sections.nodes n) | false ↦ Nv.Error ]) (le-ltb _ _ h)),
  )

pub past-predicates : (T : Tables) (p : ℕ) → length T.predicates ≤ p → predicate_of (record { key = 0; value = None }) ≡ predicate_at T p
unfolding predicate_at
past-predicates T p h = sym (get_or-eq_default T.predicates (record { key = 0; value = None }) h)
