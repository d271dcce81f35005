-- What a read of the code stands for in the written rules.
use Rattle.slots.specs.declared.Slot.{Slot}
use Rattle.std.specs.Prelude.{ℕ, ◌≡◌, true, false, List, Option, None, Some}
use Rattle.rules.specs.File as File
use Rattle.rules.specs.File.{Tables, Node, node_at, is_constant}
use Rattle.rules.specs.Lookup.{hoisted_slot}
use Rattle.rules.specs.Resolve as ResolveRules
use Rattle.rules.specs.Resolve.{Resolver, follow, ◌when_found◌}
use Rattle.state.specs.State.{Level, Target, State}
use Rattle.state.specs.Ops.{ops}
use Rattle.slots.specs.Slots.{slot_option, tidied, SlotRoom}
use Rattle.lists.specs.Lists.{state_with}
use Rattle.lists.specs.declared.Lists.{Lists}
use Rattle.resolve.specs.declared.Answer.{Answer}
use Rattle.resolve.specs.declared.Read.{Read}
use Rattle.resolve.specs.declared.Read.TheVariants.{Key, Value, Select}

abbrev pub given : Answer → Option File.Slot
given r = slot_option r.slot

-- an answer's slot, if there is one, and an answer from its parts
abbrev pub found : Answer → Option Slot
found r = r.slot

abbrev pub answer_with : Option Slot → Lists → Answer
answer_with f lists = record { slot = f; lists = lists }

-- an answer, with the work area as the read left it
abbrev pub answer_of : Answer → Level → Target → List ℕ → List ℕ → ResolveRules.Answer State
answer_of r level target work plan = record { slot = given r; walk = state_with r.lists level target work plan }

-- r, with w' in the work area, is what g gives of the lists l with w there, and its slot is tidy
pub record Answers (g : Resolver State) (l : Lists) (w : List ℕ) (r : Answer) (w' : List ℕ) : Type 0 where
  pub is : (level : Level) (target : Target) (plan : List ℕ) → answer_of r level target w' plan ≡ g (state_with l level target w plan)
  pub tidy : found r ≡ tidied (found r)

-- the same of a read that goes on from the answer a
pub record Follows (g : File.Slot → Resolver State) (a : Answer) (w : List ℕ) (r : Answer) (w' : List ℕ) : Type 0 where
  pub is : (level : Level) (target : Target) (plan : List ℕ) → answer_of r level target w' plan ≡ follow (answer_of a level target w plan) g
  pub tidy : found r ≡ tidied (found r)

abbrev pub OnAnswer : Type 0
OnAnswer = ResolveRules.Answer State → ResolveRules.Answer State

-- the same of what f makes of the answer a
pub record Climbs (f : OnAnswer) (a : Answer) (w : List ℕ) (r : Answer) (w' : List ℕ) : Type 0 where
  pub is : (level : Level) (target : Target) (plan : List ℕ) → answer_of r level target w' plan ≡ f (answer_of a level target w plan)
  pub tidy : found r ≡ tidied (found r)

-- a slot that was given has room for the steps below its type
abbrev pub GivenSlotRoom : Tables → Option File.Slot → Type 0
GivenSlotRoom T o = (s : File.Slot) → o ≡ Some s → SlotRoom T s

-- what a node reads of which node below it
unfoldable pub base_of : Node → Option (Read × ℕ)
base_of (Node.Int bytes) = None
base_of (Node.Str x) = None
base_of (Node.Bytes bytes) = None
base_of (Node.Var x) = None
base_of Node.Wildcard = None
base_of Node.Never = None
base_of (Node.Prefix x) = None
base_of (Node.Fuzzy x d a) = None
base_of (Node.Record fs) = None
base_of (Node.Access x n) = Some ((Key x), n)
base_of (Node.Value n) = Some (Value, n)
base_of (Node.Select x n) = Some ((Select x), n)
base_of Node.Disjunction = None
base_of Node.Subquery = None
base_of (Node.Fact p n) = None
base_of Node.Arith = None
base_of Node.Error = None

abbrev pub read_slot : Tables → ℕ → Read → File.Slot → Resolver State
read_slot T n (Key x) s = ResolveRules.field_slot (ops T) T n s x
read_slot T n Value s = ResolveRules.value_slot (ops T) T s
read_slot T n (Select x) s = ResolveRules.select_slot (ops T) T n s x

-- the read, past a reference
abbrev pub read_past : Tables → ℕ → Read → File.Slot → Resolver State
read_past T n read s = ResolveRules.dereference (ops T) T n s when_found read_slot T n read

abbrev pub field_past : Tables → ℕ → ℕ → File.Slot → Resolver State
field_past T n x = read_past T n (Key x)

abbrev pub value_past : Tables → ℕ → File.Slot → Resolver State
value_past T n = read_past T n Value

-- what a node gives that reads of no other
unfoldable pub leaf_slot : Tables → (ℕ → Option File.Slot) → ℕ → Node → Option File.Slot
leaf_slot T lookup n (Node.Int bytes) = None
leaf_slot T lookup n (Node.Str x) = None
leaf_slot T lookup n (Node.Bytes bytes) = None
leaf_slot T lookup n (Node.Var x) = lookup x
leaf_slot T lookup n Node.Wildcard = None
leaf_slot T lookup n Node.Never = None
leaf_slot T lookup n (Node.Prefix x) = None
leaf_slot T lookup n (Node.Fuzzy x d a) = None
leaf_slot T lookup n (Node.Record fs) = None
leaf_slot T lookup n (Node.Access x b) = None
leaf_slot T lookup n (Node.Value b) = None
leaf_slot T lookup n (Node.Select x b) = None
leaf_slot T lookup n Node.Disjunction = None
leaf_slot T lookup n Node.Subquery = None
leaf_slot T lookup n (Node.Fact p b) = hoisted_slot T lookup n
leaf_slot T lookup n Node.Arith = None
leaf_slot T lookup n Node.Error = None

-- a constant is its own slot
unfoldable pub leaf_at : Tables → ℕ → Resolver State
leaf_at T n = λ s.
    record {
      slot = elim (is_constant T n) [ true ↦ Some (File.Slot.Const n) | false ↦ leaf_slot T ((ops T).lookup s) n (node_at T n) ];
      walk = s;
    }
