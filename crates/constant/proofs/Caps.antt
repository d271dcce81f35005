-- Lengths that stop at the cap, and what the code's constants say of the rules'.
use Prim.Native.Nat.{ℕ, ◌+◌}
use mathlib.Core.Path.{◌≡◌, ap, ◌∙◌}
use mathlib.Core.List.{List}
use native.Mathlib.Omega.{arith}
use lib.ListN.{length}
use Rattle.rules.specs.Constant.{escape, encode_prefix}
use Rattle.views.specs.Views.{run, byte_at, SeenText}
use Rattle.views.specs.declared.TextView.{TextView}

-- a name's prefix bytes
pub prefix-length : (f x : List ℕ) (v : TextView) (l : ℕ) → SeenText f x v → l ≡ length (escape (run (byte_at f) 1 v.len v.at)) → 1 + l ≡ length (encode_prefix x)
unfolding encode_prefix
prefix-length f x v l s e = let q : l ≡ length (escape x) = e ∙ ap (λ (y : List ℕ). length (escape y)) s.is in omega arith
