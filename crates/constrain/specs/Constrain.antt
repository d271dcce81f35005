-- What narrows a walk: a pattern's constant, and the patterns that constrain a variable.
use Rattle.std.specs.Prelude.{ℕ, Bool, true, false, ◌≡◌, eqb, Option, None, Some, is_some}
use Rattle.rules.specs.Base.{first}
use Rattle.rules.specs.File as File
use Rattle.rules.specs.File.{Tables, Constraint, node_at}
use Rattle.rules.specs.Constant.{constant}
use Rattle.rules.specs.Events.{Code}
use Rattle.rules.specs.Walk.{narrow_by, rank}
use Rattle.state.specs.State.{State}
use Rattle.state.specs.Ops.{ops}
use Rattle.seek.specs.Narrow.{IsConstant, const_of}
use Rattle.walk.specs.Walk.{diagnosed}
use Rattle.constant.specs.declared.Const.{Const}

-- c is the constant of node n at type t, if it has one
pub record Known (T : Tables) (n t : ℕ) (c : Option Const) : Type 0 where
  pub is : const_of T c ≡ constant T n t
  pub some : is_some c ≡ true → true ≡ is_some (constant T n t)
  pub made : is_some c ≡ true → IsConstant T c

-- a pattern that is no constant at the type of its field is reported; the flag says whether building falls there
unfoldable pub narrow_or : Tables → ℕ → ℕ → File.FieldPath → Bool → State → State
narrow_or T n t path falls s =
    elim (constant T n t) [
      | Some c ↦ narrow_by (ops T) T n c path s
      | None ↦ diagnosed n Code.RejectTypeMismatch falls s
    ]

-- the pattern of a constraint, if it constrains name x and has rank r
unfoldable pub pattern_for : Tables → ℕ → ℕ → Constraint → Option ℕ
pattern_for T x r k =
    elim (eqb k.name x) [
      | true ↦ elim (eqb (rank (node_at T k.node)) r) [ true ↦ Some k.node | false ↦ None ]
      | false ↦ None
    ]

unfoldable pub is_constrained : Tables → ℕ → Bool
is_constrained T x = elim (first (λ k. eqb k.name x) T.constraints) [ None ↦ false | Some k ↦ true ]
