-- A constant by position: the node, the type and the length of its bytes, up to a cap.
use Rattle.std.specs.Prelude.{ℕ, ◌+◌, ◌*◌, ◌≤◌, ◌<◌, min, List, length, Option, None, Some}
use Rattle.rules.specs.Base.{Each, ◌when_some◌ as ◌>>=◌}
use Rattle.rules.specs.File as File
use Rattle.rules.specs.File.{Tables, FieldPattern, Ty, Node, node_at}
use Rattle.rules.specs.Constant as ConstantRules
use Rattle.rules.specs.Constant.{bytes_only, field_pattern, alternative_of, only_field, stands_for}
use Rattle.views.specs.Views.{run, field_at, alternative_at, pattern_at}
use Rattle.views.specs.declared.Anchor.{Anchor}
use Rattle.views.specs.declared.Anchor.TheVariants as An
use Rattle.accepted_file.specs.AcceptedFile.{constant_rank, PatternOk}
use Rattle.constant.specs.declared.Const.{Const}
use Rattle.constant.specs.declared.Const.TheVariants as Co

-- above every length that a plan can hold, so that a sum that stops here says all that matters
abbrev pub cap : ℕ
cap = 65536

-- k bytes and those of o, if there are any
unfoldable pub size_with : ℕ → Option (List ℕ) → Option ℕ
size_with k None = None
size_with k (Some bytes) = Some (min cap (k + length bytes))

-- what was measured stops at the cap
abbrev pub Small : Option ℕ → Type 0
Small None = Unit {0}
Small (Some n) = n ≤ cap

-- the code's anchor for the rules'
abbrev pub anchor_view : File.Anchor → Anchor
anchor_view File.Anchor.Prefix = An.Prefix
anchor_view File.Anchor.Whole = An.Whole

-- the name of a Prefix
unfoldable pub prefix_name : Node → ℕ
prefix_name (Node.Int bytes) = 0
prefix_name (Node.Str x) = 0
prefix_name (Node.Bytes bytes) = 0
prefix_name (Node.Var x) = 0
prefix_name Node.Wildcard = 0
prefix_name Node.Never = 0
prefix_name (Node.Prefix x) = x
prefix_name (Node.Fuzzy x d a) = 0
prefix_name (Node.Record fs) = 0
prefix_name (Node.Access x n) = 0
prefix_name (Node.Value n) = 0
prefix_name (Node.Select x n) = 0
prefix_name Node.Disjunction = 0
prefix_name Node.Subquery = 0
prefix_name (Node.Fact p n) = 0
prefix_name Node.Arith = 0
prefix_name Node.Error = 0

-- the code's constant for the rules', of node n at type t
abbrev pub view_some : Tables → ℕ → ℕ → ConstantRules.Const → Const
view_some T n t (ConstantRules.Const.Bytes bytes) = Co.Bytes n t (min cap (length bytes))
view_some T n t (ConstantRules.Const.Prefix bytes) = Co.Prefix (prefix_name (node_at T (stands_for T n)))
view_some T n t (ConstantRules.Const.Fuzzy x d a) = Co.Fuzzy x d (anchor_view a)

abbrev pub view_of : Tables → ℕ → ℕ → Option ConstantRules.Const → Option Const
view_of T n t None = None
view_of T n t (Some c) = Some (view_some T n t c)

-- the constant of node n at type t, as the code has it
unfoldable pub const_view : Tables → ℕ → ℕ → Option Const
const_view T n t = view_of T n t (ConstantRules.constant T n t)

-- a constant that fits one type alone
abbrev pub int_only : Ty → Const → Option Const
int_only Ty.Int c = Some c
int_only Ty.Str c = None
int_only Ty.Bytes c = None
int_only (Ty.Fact p) c = None
int_only (Ty.Record fs) c = None
int_only (Ty.Union alts) c = None

abbrev pub str_only : Ty → Const → Option Const
str_only Ty.Int c = None
str_only Ty.Str c = Some c
str_only Ty.Bytes c = None
str_only (Ty.Fact p) c = None
str_only (Ty.Record fs) c = None
str_only (Ty.Union alts) c = None

abbrev pub bytes_alone : Ty → Const → Option Const
bytes_alone Ty.Int c = None
bytes_alone Ty.Str c = None
bytes_alone Ty.Bytes c = Some c
bytes_alone (Ty.Fact p) c = None
bytes_alone (Ty.Record fs) c = None
bytes_alone (Ty.Union alts) c = None

-- the length that a constant carries, if it is bytes
abbrev pub size_of : Option Const → Option ℕ
size_of None = None
size_of (Some (Co.Bytes n t k)) = Some k
size_of (Some (Co.Prefix x)) = None
size_of (Some (Co.Fuzzy x d a)) = None

-- k bytes around what was measured
abbrev pub wrapped : ℕ → ℕ → ℕ → Option ℕ → Option Const
wrapped n t k None = None
wrapped n t k (Some l) = Some (Co.Bytes n t (min cap (k + l)))

-- a field's bytes: those of the first pattern of its name
unfoldable pub field_bytes : (ℕ → ℕ → Option ConstantRules.Const) → List FieldPattern → ℕ → ℕ → Option (List ℕ)
field_bytes below patterns x t = do
  pattern ← field_pattern patterns x
  constant ← below pattern t
  bytes_only constant

-- the payload's bytes of a union value
unfoldable pub payload_bytes : (ℕ → ℕ → Option ConstantRules.Const) → List FieldPattern → List File.Alternative → Option (List ℕ)
payload_bytes below patterns alts = do
  f ← only_field patterns
  alt ← alternative_of alts f.name
  constant ← below f.node alt.type
  bytes_only constant

-- the pairs of a Record below node, the fields of a Record type and the alternatives of a Union type, where they stand in file f
pub record Patterns (f : List ℕ) (T : Tables) (node n at : ℕ) : Type 0 where
  pub inside : at + 4 * n ≤ length f
  pub each : Each (PatternOk T (constant_rank T node)) (run (pattern_at f) 4 n at)

pub record Fields (f : List ℕ) (T : Tables) (n at : ℕ) : Type 0 where
  pub inside : at + 4 * n ≤ length f
  pub each : Each (λ c. c.type < length T.types) (run (field_at f) 4 n at)

pub record Alternatives (f : List ℕ) (T : Tables) (n at : ℕ) : Type 0 where
  pub inside : at + 8 * n ≤ length f
  pub each : Each (λ c. c.type < length T.types) (run (alternative_at f) 8 n at)
