-- A name's slot: the one that the walks have bound it to, else the file's own.
use Prim.Native.Nat.{ℕ}
use mathlib.Core.Path.{◌≡◌, ap, ◌∙◌, subst}
use mathlib.Core.List.{List}
use Rattle.std.specs.Prelude.{Option, None, Some}
use Rattle.rules.specs.File.{Tables, Slot}
use Rattle.rules.specs.Constant.{lookup}
use Rattle.state.specs.State.{Level, Target, made_slot}
use Rattle.state.specs.Ops.{checked_slot, or_else, bound_slot, ops}
use Rattle.views.specs.Views.{slot_viewed, SlotInside}
use Rattle.views.specs.declared.SlotView.{SlotView}
use Rattle.tables.specs.Tables.{SeenSlot, MaybeInside}
use Rattle.lists.specs.Lists.{state_with}
use Rattle.lists.specs.declared.Lists.{Lists}

-- an answer that is a view, or nothing
module _ (f : List ℕ) (o : Option Slot) (r : Option SlotView) (s : SeenSlot f o r) where
  pub view-inside : (v : SlotView) → r ≡ Some v → SlotInside f v
  view-inside v e = subst (MaybeInside f) e s.inside

  pub view-is : (v : SlotView) → r ≡ Some v → Some (slot_viewed f v) ≡ o
  view-is v e = (subst (SeenSlot f o) e s).is

  pub nothing_is : r ≡ None → None ≡ o
  nothing_is e = (subst (SeenSlot f o) e s).is

module _ (T : Tables) (l : Lists) (lv : Level) (tg : Target) (w p : List ℕ) (x n : ℕ) (e : n ≡ l.ends.binding_count)
    (r : Option SlotView) (s : SeenSlot w (made_slot w n x) r) where
  found : (o : Option Slot) → o ≡ made_slot w n x → checked_slot T (or_else o (lookup T.bindings x)) ≡ (ops T).lookup (state_with l lv tg w p) x
  unfolding bound_slot
  found o g = ap (λ (q : Option Slot). checked_slot T (or_else q (lookup T.bindings x))) (g ∙ ap (λ (k : ℕ). made_slot w k x) e)

  pub of-made : (v : SlotView) → r ≡ Some v → checked_slot T (Some (slot_viewed w v)) ≡ (ops T).lookup (state_with l lv tg w p) x
  of-made v g = found (Some (slot_viewed w v)) (view-is _ _ r s v g)

  pub of-file : r ≡ None → checked_slot T (lookup T.bindings x) ≡ (ops T).lookup (state_with l lv tg w p) x
  of-file g = found None (nothing_is _ _ r s g)
