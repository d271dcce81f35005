-- What an answer of a search stands for.
use Rattle.views.specs.declared.SlotView.{SlotView}
use Rattle.views.specs.declared.Alternative.{Alternative}
use Rattle.std.specs.Prelude.{ℕ, zero, suc, ◌+◌, ◌*◌, ◌≤◌, ◌≡◌, List, length, Option, None, Some}
use Rattle.rules.specs.File as File
use Rattle.file.specs.Sections as Sections
use Rattle.views.specs.Views.{run, start_at, binding_view, alternative_of, slot_viewed, SlotInside}
use Rattle.views.specs.declared.TypeView.{TypeView}
use Rattle.views.specs.declared.TypeView.TheVariants as Tv
use Rattle.views.specs.declared.NodeView.{NodeView}
use Rattle.views.specs.declared.NodeView.TheVariants as Nv

abbrev pub run_option : {A : Type 0} → (ℕ → A) → ℕ → Option (ℕ × ℕ) → Option (List A)
run_option at w None = None
run_option at w (Some (n, p)) = Some (run at w n p)

abbrev pub alternative_option : Option Alternative → Option File.Alternative
alternative_option None = None
alternative_option (Some a) = Some (alternative_of a)

abbrev pub slot_option : List ℕ → Option SlotView → Option File.Slot
slot_option f None = None
slot_option f (Some s) = Some (slot_viewed f s)

-- the fields of a view that is a Record type, and the alternatives of one that is a Union
abbrev pub fields_in : TypeView → Option (ℕ × ℕ)
fields_in Tv.Int = None
fields_in Tv.Str = None
fields_in Tv.Bytes = None
fields_in (Tv.Fact p) = None
fields_in (Tv.Record n at) = Some (n, at)
fields_in (Tv.Union n at) = None

abbrev pub alternatives_in : TypeView → Option (ℕ × ℕ)
alternatives_in Tv.Int = None
alternatives_in Tv.Str = None
alternatives_in Tv.Bytes = None
alternatives_in (Tv.Fact p) = None
alternatives_in (Tv.Record n at) = None
alternatives_in (Tv.Union n at) = Some (n, at)

-- the pairs of a view that is a Record node
abbrev pub pairs_in : NodeView → Option (ℕ × ℕ)
pairs_in (Nv.Int at) = None
pairs_in (Nv.Str x) = None
pairs_in (Nv.Bytes n at) = None
pairs_in (Nv.Var x) = None
pairs_in Nv.Wildcard = None
pairs_in Nv.Never = None
pairs_in (Nv.Prefix x) = None
pairs_in (Nv.Fuzzy x d a) = None
pairs_in (Nv.Record n at) = Some (n, at)
pairs_in (Nv.Access x n) = None
pairs_in (Nv.Value n) = None
pairs_in (Nv.Select x n) = None
pairs_in Nv.Disjunction = None
pairs_in Nv.Subquery = None
pairs_in (Nv.Fact p n) = None
pairs_in Nv.Arith = None
pairs_in Nv.Error = None

-- the slot of a name's last binding by what the index has for the name: 0 for none, else the binding's number and one
abbrev pub bound_in : List ℕ → List ℕ → ℕ → Option SlotView
bound_in f ix zero = None
bound_in f ix (suc b) = Some (binding_view f (start_at ix Sections.bindings b)).slot

-- what an answer points at lies within the file
abbrev pub RunInside : List ℕ → ℕ → Option (ℕ × ℕ) → Type 0
RunInside f w None = Unit {0}
RunInside f w (Some (n, p)) = p + w * n ≤ length f

abbrev pub MaybeInside : List ℕ → Option SlotView → Type 0
MaybeInside f None = Unit {0}
MaybeInside f (Some s) = SlotInside f s

-- an answer is what the rules find
pub record SeenRun {A : Type 0} (f : List ℕ) (at : ℕ → A) (w : ℕ) (o : Option (List A)) (r : Option (ℕ × ℕ)) : Type 0 where
  pub is : run_option at w r ≡ o
  pub inside : RunInside f w r

pub record SeenSlot (f : List ℕ) (o : Option File.Slot) (r : Option SlotView) : Type 0 where
  pub is : slot_option f r ≡ o
  pub inside : MaybeInside f r
