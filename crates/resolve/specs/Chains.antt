-- A chain of reads: the nodes from one that reads of another down to one that reads of none, and the way up again.
use Rattle.resolve.specs.declared.Read.{Read}
use Rattle.std.specs.Prelude.{ℕ, zero, suc, true, false, List, [], ◌∷◌, None, Option, Some}
use Rattle.rules.specs.File.{Tables, node_at, is_constant}
use Rattle.rules.specs.Resolve as ResolveRules
use Rattle.rules.specs.Resolve.{follow}
use Rattle.state.specs.State.{State}
use Rattle.resolve.specs.Resolved.{base_of, read_past}

-- a constant is its own slot, and reads of no other node
unfoldable pub read_of : Tables → ℕ → Option (Read × ℕ)
read_of T n = elim (is_constant T n) [ true ↦ None | false ↦ base_of (node_at T n) ]

abbrev pub passing : ℕ → (ℕ → List ℕ) → Option (Read × ℕ) → List ℕ
passing n below None = []
passing n below (Some (read, base)) = n ∷ below base

-- the nodes that are passed on the way down from n, at most so many
unfoldable pub chain : Tables → ℕ → ℕ → List ℕ
chain T zero n = []
chain T (suc most) n = passing n (chain T most) (read_of T n)

abbrev pub ending : ℕ → (ℕ → ℕ) → Option (Read × ℕ) → ℕ
ending n below None = n
ending n below (Some (read, base)) = below base

-- the node where that way ends
unfoldable pub bottom : Tables → ℕ → ℕ → ℕ
bottom T zero n = n
bottom T (suc most) n = ending n (bottom T most) (read_of T n)

abbrev pub read_by : Tables → ℕ → Option (Read × ℕ) → ResolveRules.Answer State → ResolveRules.Answer State
read_by T n None below = record { slot = None; walk = below.walk }
read_by T n (Some (read, base)) below = follow below (read_past T n read)

-- what a node reads, of the answer of the node below it
unfoldable pub read_up : Tables → ℕ → ResolveRules.Answer State → ResolveRules.Answer State
read_up T n below = read_by T n (base_of (node_at T n)) below

-- what the nodes passed read, one of the other, from the answer at the end
unfoldable pub climb : Tables → List ℕ → ResolveRules.Answer State → ResolveRules.Answer State
climb T [] end = end
climb T (n ∷ ns) end = read_up T n (climb T ns end)
