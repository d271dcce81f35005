-- The constant that a node stands for, along a chain of reads (crate resolve, specs/Chains.antt).
use Rattle.std.specs.Prelude.{ℕ, true, false, List, [], ◌∷◌, Option, None, Some}
use Rattle.rules.specs.Base.{◌when_some◌}
use Rattle.rules.specs.File.{Tables, Node, node_at, is_constant}
use Rattle.rules.specs.Lookup.{folded_field}
use Rattle.rules.specs.Literals.{folded_node}

-- of a node that reads of no other
unfoldable pub leaf_const : Tables → ℕ → Option ℕ
leaf_const T n = elim (is_constant T n) [ true ↦ Some n | false ↦ folded_node T (λ base. None) n (node_at T n) ]

-- what a node gives of the constant c that the node below it stands for
unfoldable pub up_by : Tables → ℕ → Node → Option ℕ
up_by T c (Node.Int bytes) = None
up_by T c (Node.Str x) = None
up_by T c (Node.Bytes bytes) = None
up_by T c (Node.Var x) = None
up_by T c Node.Wildcard = None
up_by T c Node.Never = None
up_by T c (Node.Prefix x) = None
up_by T c (Node.Fuzzy x d a) = None
up_by T c (Node.Record fs) = None
up_by T c (Node.Access x base) = folded_field T c x
up_by T c (Node.Value base) = None
up_by T c (Node.Select x base) = None
up_by T c Node.Disjunction = None
up_by T c Node.Subquery = None
up_by T c (Node.Fact p key) = None
up_by T c Node.Arith = None
up_by T c Node.Error = None

unfoldable pub const_up : Tables → ℕ → ℕ → Option ℕ
const_up T n c = up_by T c (node_at T n)

-- the nodes passed, one of the other, from the constant at the end
unfoldable pub climb_const : Tables → List ℕ → Option ℕ → Option ℕ
climb_const T [] end = end
climb_const T (n ∷ ns) end = climb_const T ns end when_some const_up T n
