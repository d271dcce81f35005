-- A constant that is bytes: how many, and where they are written.
use mathlib.Core.Path.{◌≡◌, refl, sym, ap, ◌∙◌}
use mathlib.Core.Bool.{Bool, false}
use mathlib.Core.List.{List, []}
use Rattle.std.specs.Prelude.{Option, None, Some, unwrap_or}
use Prim.Native.Nat.{ℕ, ◌≤◌, ◌<◌, min}
use native.Mathlib.Omega.{arith}
use lib.Dec.{eqb}
use lib.ListN.{length}
use Rattle.rules.specs.Base.{◌when_some◌}
use Rattle.rules.specs.File.{Tables, CompareOp, op_number, node_at, var_name}
use Rattle.rules.specs.Constant as ConstantRules
use Rattle.rules.specs.Constant.{bytes_only}
use Rattle.rules.specs.Placement.{is_var}
use Rattle.views.specs.declared.Anchor.{Anchor}
use Rattle.constant.specs.Sizes.{view_of, const_view}
use Rattle.constant.specs.declared.Const.{Const}
use Rattle.constant.specs.declared.Const.TheVariants as Co
use Rattle.records.specs.Records.{written_at}
use Rattle.records.specs.declared.Place.{Place}
use Rattle.encode.specs.Written.{or_empty, bytes_of, RoomForBytes}
use Rattle.seek.specs.Seek.{constant_bytes}
use Rattle.seek.proofs.Grows.{SameUpToLimit}

pub record Known (T : Tables) (n t len : ℕ) : Type 0 where
  pub bytes : bytes_of T n t ≡ Some (constant_bytes T n t)
  pub size : min 65536 (length (constant_bytes T n t)) ≡ len

known_of : (T : Tables) (n t m u len : ℕ) (o : Option ConstantRules.Const) → view_of T n t o ≡ Some (Co.Bytes m u len)
    → ((o when_some bytes_only) ≡ Some (unwrap_or (o when_some bytes_only) [])) × (min 65536 (length (unwrap_or (o when_some bytes_only) [])) ≡ len)
unfolding ◌when_some◌ bytes_only
known_of T n t m u len None h = absurd (let z : ◌≡◌ {A = ℕ} 0 1 = cc in omega arith)
known_of T n t m u len (Some (ConstantRules.Const.Bytes bs)) h = (refl, cc)
known_of T n t m u len (Some (ConstantRules.Const.Prefix bs)) h = absurd (let z : ◌≡◌ {A = ℕ} 0 1 = cc in omega arith)
known_of T n t m u len (Some (ConstantRules.Const.Fuzzy x d a)) h = absurd (let z : ◌≡◌ {A = ℕ} 0 1 = cc in omega arith)

pub known : (T : Tables) (n t m u len : ℕ) → const_view T n t ≡ Some (Co.Bytes m u len) → Known T n t len
unfolding const_view bytes_of constant_bytes
known T n t m u len e = let k = known_of T n t m u len (ConstantRules.constant T n t) e in record { bytes = k.0; size = k.1 }

-- what is no bytes
none_of : (T : Tables) (n t : ℕ) (c : Option Const) (o : Option ConstantRules.Const) → view_of T n t o ≡ c → ((m u len : ℕ) → c ≡ Some (Co.Bytes m u len) → ⊥) → (o when_some bytes_only) ≡ None
unfolding ◌when_some◌ bytes_only
none_of T n t c None h f = refl
none_of T n t c (Some (ConstantRules.Const.Bytes bs)) h f = absurd (f _ _ _ (sym h))
none_of T n t c (Some (ConstantRules.Const.Prefix bs)) h f = refl
none_of T n t c (Some (ConstantRules.Const.Fuzzy x d a)) h f = refl

pub not-bytes : (T : Tables) (n t : ℕ) (c : Option Const) → c ≡ const_view T n t → ((m u len : ℕ) → c ≡ Some (Co.Bytes m u len) → ⊥) → (ConstantRules.constant T n t when_some bytes_only) ≡ None
unfolding const_view
not-bytes T n t c e f = none_of T n t c (ConstantRules.constant T n t) (sym e) f

pub nothing-not : (m u len : ℕ) → None ≡ Some (Co.Bytes m u len) → ⊥
nothing-not m u len h = let z : ◌≡◌ {A = ℕ} 0 1 = cc in omega arith

pub prefix-not : (x m u len : ℕ) → Some (Co.Prefix x) ≡ Some (Co.Bytes m u len) → ⊥
prefix-not x m u len h = let z : ◌≡◌ {A = ℕ} 0 1 = cc in omega arith

pub fuzzy-not : (x d : ℕ) (a : Anchor) (m u len : ℕ) → Some (Co.Fuzzy x d a) ≡ Some (Co.Bytes m u len) → ⊥
fuzzy-not x d a m u len h = let z : ◌≡◌ {A = ℕ} 0 1 = cc in omega arith

module _ (T : Tables) (n t len : ℕ) (k : Known T n t len) where
  pub small : len ≤ 65536
  small = let h : min 65536 (length (constant_bytes T n t)) ≡ len = k.size in omega arith

  pub alike : SameUpToLimit (length (constant_bytes T n t)) len
  alike = let h : min 65536 (length (constant_bytes T n t)) ≡ len = k.size in omega arith

  same : or_empty (bytes_of T n t) ≡ constant_bytes T n t
  unfolding or_empty
  same = ap or_empty k.bytes

  pub here : (at : ℕ) → len ≤ 16384 → at ≤ 34359738368 → RoomForBytes (bytes_of T n t) at
  here at h g =
      let m : min 65536 (length (constant_bytes T n t)) ≡ len = k.size in
      let l : length (or_empty (bytes_of T n t)) ≡ length (constant_bytes T n t) = ap length same in
      record { is = k.bytes ∙ ap Some (sym same); room = omega arith }

  pub wrote : (place : Place) (w w' : List ℕ) → w' ≡ written_at place (or_empty (bytes_of T n t)) w → w' ≡ written_at place (constant_bytes T n t) w
  wrote place w w' h = h ∙ ap (λ (l : List ℕ). written_at place l w) same

module _ (T : Tables) (x n : ℕ) (r : Option ℕ) (e : r ≡ var_name (node_at T n)) where
  abbrev is : Option ℕ → Bool
  is o = elim o [ None ↦ false | Some y ↦ eqb y x ]

  pub var-is : (y : ℕ) → r ≡ Some y → eqb y x ≡ is_var T x n
  unfolding is_var
  var-is y h = ap is ((sym h) ∙ e)

  pub var-none : r ≡ None → false ≡ is_var T x n
  unfolding is_var
  var-none h = ap is ((sym h) ∙ e)

-- an op's number is one of four
pub number-below : (op : CompareOp) → op_number op < 4
unfolding op_number
number-below CompareOp.Lt = omega arith
number-below CompareOp.Le = omega arith
number-below CompareOp.Gt = omega arith
number-below CompareOp.Ge = omega arith
