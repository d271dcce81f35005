-- Whether a pattern has bytes at a type.
use Rattle.std.specs.Prelude.{ℕ, ◌<◌, ◌≡◌, Bool, true, false, List, length, Option, None, Some}
use Rattle.rules.specs.File.{Tables, Node, node_at}
use Rattle.rules.specs.Constant as ConstantRules
use Rattle.views.specs.Views.{run, pattern_at}
use Rattle.constant.specs.Sizes.{Patterns}
use Rattle.constant.specs.declared.Const.{Const}
use Rattle.constant.specs.declared.Const.TheVariants as Co

-- there are bytes
unfoldable pub given : Option (List ℕ) → Bool
given None = false
given (Some bytes) = true

-- a pattern's constant is bytes: a Prefix and a Fuzzy are none
unfoldable pub has_bytes : Option ConstantRules.Const → Bool
has_bytes None = false
has_bytes (Some (ConstantRules.Const.Bytes bytes)) = true
has_bytes (Some (ConstantRules.Const.Prefix bytes)) = false
has_bytes (Some (ConstantRules.Const.Fuzzy x d a)) = false

-- the same of a constant as the code has it
abbrev pub is_bytes : Option Const → Bool
is_bytes None = false
is_bytes (Some (Co.Bytes n t k)) = true
is_bytes (Some (Co.Prefix x)) = false
is_bytes (Some (Co.Fuzzy x d a)) = false

-- node is a Record, and its n pairs stand in file f from `at` on
pub record RecordAt (f : List ℕ) (T : Tables) (node n at : ℕ) : Type 0 where
  pub in-nodes : node < length T.nodes
  pub is : node_at T node ≡ Node.Record (run (pattern_at f) 4 n at)
  pub pairs : Patterns f T node n at
