-- From a constant that was measured to bytes that can be written: a length that a plan can hold stands for the bytes' own.
use Prim.Native.Nat.{ℕ, ◌+◌, ◌≤◌}
use mathlib.Core.Path.{◌≡◌, sym, ap, ◌∙◌}
use mathlib.Core.List.{List}
use Rattle.std.specs.Prelude.{Option, Some}
use native.Mathlib.Omega.{arith}
use lib.ListN.{length}
use Rattle.rules.specs.Base.{◌when_some◌}
use Rattle.rules.specs.File.{Tables}
use Rattle.rules.specs.Limits.{plan_limit}
use Rattle.rules.specs.Constant as ConstantRules
use Rattle.rules.specs.Constant.{bytes_only}
use Rattle.records.specs.Records.{reach}
use Rattle.constant.specs.Sizes.{const_view}
use Rattle.constant.specs.declared.Const.TheVariants as Co
use Rattle.constant.proofs.Known.{known_bytes}
use Rattle.encode.specs.Written.{or_empty, bytes_of, RoomForBytes}

module _ (T : Tables) (n t m s l : ℕ) (e : const_view T n t ≡ Some (Co.Bytes m s l)) (short : l ≤ plan_limit) where
  found : bytes_of T n t ≡ Some (known_bytes T n t m s l e).bytes
  unfolding bytes_of ◌when_some◌ bytes_only
  found = ap (λ (o : Option ConstantRules.Const). o when_some bytes_only) (known_bytes T n t m s l e).is

  same : or_empty (bytes_of T n t) ≡ (known_bytes T n t m s l e).bytes
  unfolding or_empty
  same = ap or_empty found

  pub bytes-are : ConstantRules.constant T n t ≡ Some (ConstantRules.Const.Bytes (or_empty (bytes_of T n t)))
  bytes-are = (known_bytes T n t m s l e).is ∙ ap (λ (x : List ℕ). Some (ConstantRules.Const.Bytes x)) (sym same)

  pub bytes-size : l ≡ length (or_empty (bytes_of T n t))
  bytes-size = omega (arith, (known_bytes T n t m s l e).size, ap length same)

  pub bytes-here : (at : ℕ) → at + l ≤ reach → RoomForBytes (bytes_of T n t) at
  bytes-here at h = record { is = found ∙ ap Some (sym same); room = omega (arith, bytes-size) }
