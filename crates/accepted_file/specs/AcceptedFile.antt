-- What the code behind the checks requires: a file that was read and passed every check, with an index that holds the depth of each type,
-- the constancy of each node and the last binding of each name, and what it remembers of constants.
use Rattle.std.specs.Prelude.{ℕ, ◌+◌, ◌<◌, ◌≡◌, Bool, true, false, List, length, get_or, None, Some}
use Rattle.rules.specs.Limits.{node_limit}
use Rattle.rules.specs.File.{Tables, FieldPattern, depth, is_constant}
use Rattle.rules.specs.Checks.{checks, fault}
use Rattle.file.specs.Steps.{depths_base, constants_base, last_bindings_base}
use Rattle.file.specs.Tables.{Indexed, tables_of, last_binding}
use Rattle.accepted_file.specs.Fates.{fate, recalled}

-- how the index says that a node is constant
abbrev pub flag : Bool → ℕ
flag true = 1
flag false = 0

-- f is an accepted file, and ix its filled index
pub record AcceptedFile (f ix : List ℕ) : Type 0 where
  pub indexed : Indexed f ix
  pub accepted : fault checks (tables_of f) ≡ None
  pub depths : (t : ℕ) → t < length (tables_of f).types → get_or ix (depths_base + t) 0 ≡ depth (tables_of f) t
  pub constants : (n : ℕ) → n < length (tables_of f).nodes → get_or ix (constants_base + n) 0 ≡ flag (is_constant (tables_of f) n)
  pub last-bindings : (x : ℕ) → x < length (tables_of f).names → get_or ix (last_bindings_base + x) 0 ≡ last_binding (tables_of f) x
  pub remembered : (n t d : ℕ) → n < length (tables_of f).nodes → t < length (tables_of f).types →
      recalled ix n t ≡ Some d → d ≡ fate (tables_of f) n t

-- "a measure of not-constant and node number falls": a constant stands below every node that is none, so that a Var's Const is lower
unfoldable pub constant_rank : Tables → ℕ → ℕ
constant_rank T n = elim (is_constant T n) [ true ↦ n | false ↦ node_limit + n ]

-- a pattern of a Record, below constant_rank r
pub record PatternOk (T : Tables) (r : ℕ) (f : FieldPattern) : Type 0 where
  pub in-names : f.name < length T.names
  pub in-nodes : f.node < length T.nodes
  pub lower : constant_rank T f.node < r

-- a field or an alternative of type t
pub record ChildOk (T : Tables) (t name type : ℕ) : Type 0 where
  pub in-names : name < length T.names
  pub in-types : type < length T.types
  pub lower : type < t
