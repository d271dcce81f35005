-- A level narrowed by a constant that the code carries as positions.
use Rattle.std.specs.Prelude.{ℕ, ◌<◌, ◌≡◌, length, Option, None, Some}
use Rattle.rules.specs.File as File
use Rattle.rules.specs.File.{Tables, name_at}
use Rattle.rules.specs.Constant as ConstantRules
use Rattle.rules.specs.Constant.{encode_prefix}
use Rattle.rules.specs.Walk as Walk
use Rattle.state.specs.State.{State}
use Rattle.state.specs.Ops.{ops}
use Rattle.views.specs.Views.{anchor_of}
use Rattle.constant.specs.Sizes.{const_view}
use Rattle.constant.specs.declared.Const.{Const}
use Rattle.constant.specs.declared.Const.TheVariants as Co

-- the rules' constant for the code's
unfoldable pub const_of : Tables → Option Const → Option ConstantRules.Const
const_of T None = None
const_of T (Some (Co.Bytes n t len)) = ConstantRules.constant T n t
const_of T (Some (Co.Prefix x)) = Some (ConstantRules.Const.Prefix (encode_prefix (name_at T x)))
const_of T (Some (Co.Fuzzy x d a)) = Some (ConstantRules.Const.Fuzzy x d (anchor_of a))

-- Rust `narrow_by`, with the node that made the narrowing; without a constant nothing changes
unfoldable pub narrowed_by : Tables → ℕ → Option ConstantRules.Const → File.FieldPath → State → State
narrowed_by T n o path s = elim o [ Some c ↦ Walk.narrow_by (ops T) T n c path s | None ↦ s ]

-- what `constant` gives for some node and type of the file
pub record IsConstant (T : Tables) (c : Option Const) : Type 0 where
  pub node : ℕ
  pub type : ℕ
  pub in-nodes : node < length T.nodes
  pub in-types : type < length T.types
  pub is : c ≡ const_view T node type
