-- A scalar pattern's constant at a type: it is the constant itself, or there is none.
use Rattle.std.specs.Prelude.{Some}
use mathlib.Core.Path.{◌≡◌, refl}
use Rattle.rules.specs.File.{Ty}
use Rattle.rules.specs.Constant.{Const, at_int, at_str, at_bytes}
use Rattle.rules.proofs.Each.{Perhaps, nothing, just, perhaps-some}

-- what holds of the constant holds of what is there
module _ (P : Const → Type 0) where
  pub at-int : (ty : Ty) (c : Const) → P c → Perhaps P (at_int ty c)
  unfolding at_int
  at-int Ty.Int c h = just h
  at-int Ty.Str c h = nothing
  at-int Ty.Bytes c h = nothing
  at-int (Ty.Fact p) c h = nothing
  at-int (Ty.Record fs) c h = nothing
  at-int (Ty.Union alts) c h = nothing

  pub at-str : (ty : Ty) (c : Const) → P c → Perhaps P (at_str ty c)
  unfolding at_str
  at-str Ty.Int c h = nothing
  at-str Ty.Str c h = just h
  at-str Ty.Bytes c h = nothing
  at-str (Ty.Fact p) c h = nothing
  at-str (Ty.Record fs) c h = nothing
  at-str (Ty.Union alts) c h = nothing

  pub at-bytes : (ty : Ty) (c : Const) → P c → Perhaps P (at_bytes ty c)
  unfolding at_bytes
  at-bytes Ty.Int c h = nothing
  at-bytes Ty.Str c h = nothing
  at-bytes Ty.Bytes c h = just h
  at-bytes (Ty.Fact p) c h = nothing
  at-bytes (Ty.Record fs) c h = nothing
  at-bytes (Ty.Union alts) c h = nothing

-- the constant itself
pub same_int : (ty : Ty) (c k : Const) → at_int ty c ≡ Some k → c ≡ k
same_int ty c k e = perhaps-some k (at-int (λ x. c ≡ x) ty c refl) e

pub same-str : (ty : Ty) (c k : Const) → at_str ty c ≡ Some k → c ≡ k
same-str ty c k e = perhaps-some k (at-str (λ x. c ≡ x) ty c refl) e

pub same_bytes_lem : (ty : Ty) (c k : Const) → at_bytes ty c ≡ Some k → c ≡ k
same_bytes_lem ty c k e = perhaps-some k (at-bytes (λ x. c ≡ x) ty c refl) e
