-- One read of a variable: `resolve` looks the variable up, and reads the field past a reference.
use Rattle.slots.specs.declared.Slot.{Slot}
use Prim.Native.Nat.{ℕ}
use mathlib.Core.Path.{◌≡◌, refl, sym, ap, ◌∙◌}
use mathlib.Core.Bool.{false}
use mathlib.Core.List.{List, []}
use mathlib.Core.Logic.{⊎_elim}
use Rattle.std.specs.Prelude.{Option, Some}
use lib.ListN.{length}
use Rattle.rules.specs.File as File
use Rattle.rules.specs.File.{Tables, Node, node_at, constant_of, constants, is_constant}
use Rattle.rules.specs.Lookup.{row_field}
use Rattle.rules.specs.Resolve as ResolveRules
use Rattle.rules.specs.Resolve.{follow, ◌when_found◌, give, dereference, field_slot, resolve}
use Rattle.rules.proofs.Sound.{Passed}
use Rattle.file.proofs.Readers.{lt-or-le}
use Rattle.state.specs.State.{Level, Target, State, new_level, no_target}
use Rattle.state.specs.Ops.{ops}
use Rattle.accepted_file.proofs.Ranges.{nodes-lower, constant-of}
use Rattle.lists.specs.Lists.{state_with}
use Rattle.lists.specs.declared.Lists.{Lists}
use Rattle.views.specs.Views.{node_of, SeenNode}
use Rattle.views.specs.declared.NodeView.{NodeView}
use Rattle.slots.specs.Slots.{slot_option, IsSlot, TidyRoom}
use Rattle.slots.proofs.Tidy.{tidy-there}
use Rattle.resolve.specs.Resolved.{answer_with, Answers, Follows, base_of, field_past, leaf_slot}
use Rattle.resolve.specs.declared.Answer.{Answer}
use Rattle.resolve.proofs.Answers.{step_by, resolve-other, past-constant}
use Rattle.resolve.proofs.Rooms.{fitting-room}

-- a row is no reference
pub row-past : (T : Tables) (n x a : ℕ) (p : Option ℕ) (s : State) → give (row_field T a p x) s ≡ field_past T n x (File.Slot.Row a p) s
unfolding dereference ◌when_found◌ follow give field_slot
row-past T n x a p s = refl

-- a node by its view
pub node_seen : {f : List ℕ} {node : Node} {v : NodeView} (w : NodeView) → SeenNode f node v → v ≡ w → node ≡ node_of f w
node_seen {f} w s e = sym s.is ∙ ap (node_of f) e

module _ (T : Tables) (k : Passed T) where
  inconstant : (n : ℕ) (node : Node) → node_at T n ≡ node → constant_of (constants T) node ≡ false → is_constant T n ≡ false
  inconstant n node e c = ⊎_elim (λ h. constant-of T k n h ∙ ap (constant_of (constants T)) e ∙ c) (λ h. sym (past-constant T n h)) (lt-or-le n (length T.nodes))

  abbrev stepped : ℕ → Node → State → ResolveRules.Answer State
  stepped n node s = step_by T (resolve (ops T) T) n node (base_of node) s

  module _ (node x n y : ℕ) (a : node_at T node ≡ Node.Access x n) (v : node_at T n ≡ Node.Var y) where
    looked-up : (s : State) → resolve (ops T) T n s ≡ record { slot = (ops T).lookup s y; walk = s }
    unfolding base_of leaf_slot constant_of
    looked-up s = resolve-other T (nodes-lower T k) n s (inconstant n (Node.Var y) v refl) ∙ ap (λ (node : Node). stepped n node s) v

    one-read : (s : State) → resolve (ops T) T node s ≡ follow (record { slot = (ops T).lookup s y; walk = s }) (field_past T node x)
    unfolding base_of constant_of ◌when_found◌
    one-read s =
        resolve-other T (nodes-lower T k) node s (inconstant node (Node.Access x n) a refl) ∙ ap (λ (m : Node). stepped node m s) a
        ∙ ap (λ (r : ResolveRules.Answer State). follow r (field_past T node x)) (looked-up s)

    module _ {l : Lists} {w : List ℕ} {found : Option Slot} (h : (level : Level) (target : Target) (plan : List ℕ) → IsSlot ((ops T).lookup (state_with l level target w plan) y) found) where
      pub read_is : {r : Answer} {w' : List ℕ} → Follows (field_past T node x) (answer_with found l) w r w' → Answers (resolve (ops T) T node) l w r w'
      read_is {r} {w'} g =
          record {
            is = λ level target plan.
                let s = state_with l level target w plan in
                g.is level target plan ∙ ap (λ (o : Option File.Slot). follow (record { slot = o; walk = s }) (field_past T node x)) (h level target plan).is ∙ sym (one-read s);
            tidy = g.tidy;
          }

-- what a lookup found has room
pub lookup-room : (T : Tables) (y : ℕ) (l : Lists) (w : List ℕ) {found : Option Slot} → ((level : Level) (target : Target) (plan : List ℕ) → IsSlot ((ops T).lookup (state_with l level target w plan) y) found) → {slot : Slot} → found ≡ Some slot → TidyRoom T slot
lookup-room T y l w {found} h e =
    let s = h new_level no_target [] in
    record { room = fitting-room T _ _ (sym s.is ∙ ap slot_option e); tidy = tidy-there s.tidy e }
