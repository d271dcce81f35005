-- "A path grown inside an accepted type always fits" (request [6]), for a limit that is a parameter: where no type is deeper than the limit, every path that
-- goes down types, one step for each child, has fewer steps than the limit. At the end the one place where the limit is the rules' own.
use Prim.Native.Nat.{ℕ, suc, ◌+◌, ◌≤◌, ◌<◌}
use mathlib.Core.List.{[], ◌∷◌}
use mathlib.Core.Path.{◌≡◌, refl}
use native.Mathlib.Omega.{arith}
use lib.ListN.{length, length-append}
use Rattle.rules.specs.Limits.{depth_limit, step_limit}
use Rattle.rules.specs.File.{Tables, FieldPath, depth, field_path, then}
use Rattle.rules.proofs.Sound.{FitsIn, Child, Sound}

-- n steps to a type of depth d, with room for the steps below it
module _ (limit n d : ℕ) (room : n + d ≤ limit) where
  -- a type is at least 1 deep
  pub fewer : 1 ≤ d → n < limit
  fewer h = omega arith

  -- a step further to a child of depth c
  pub room-further : (c : ℕ) → c + 1 ≤ d → n + 1 + c ≤ limit
  room-further c h = omega arith

  pub fewer-further : (c : ℕ) → 1 ≤ c → c + 1 ≤ d → n + 1 < limit
  fewer-further c g h = omega arith

-- how deep the types of an accepted file are
pub record DeepTo (limit : ℕ) (T : Tables) : Type 0 where
  pub positive : (t : ℕ) → t < length T.types → 1 ≤ depth T t
  pub shallow : (t : ℕ) → t < length T.types → depth T t ≤ limit

-- a path grown inside types, and the type that it leads to: from a field of a key, or from the path of a Field that 14 let pass, a step into a child
pub data Grown (limit : ℕ) (T : Tables) : FieldPath → ℕ → Type 0 where
  from_key : (i : ℕ) {t c : ℕ} → Child T t c → Grown limit T (field_path i) c
  from-slot : {p : FieldPath} {t : ℕ} → FitsIn limit T p t → Grown limit T p t
  further : {p : FieldPath} (i : ℕ) {t c : ℕ} → Grown limit T p t → Child T t c → Grown limit T (then p i) c

module _ (limit : ℕ) (T : Tables) (deep : DeepTo limit T) where
  pub fits-field : (i t c : ℕ) → Child T t c → FitsIn limit T (field_path i) c
  unfolding field_path
  fits-field i t c h = record { in-types = h.in-types; short = omega (arith, deep.shallow c h.in-types) }

  pub fits-then : (p : FieldPath) (i t c : ℕ) → FitsIn limit T p t → Child T t c → FitsIn limit T (then p i) c
  unfolding then
  fits-then p i t c f h =
      record { in-types = h.in-types; short = omega (arith, length-append p.steps (i ∷ []), room-further limit _ _ f.short _ h.less-deep) }

  pub fits-fewer : (p : FieldPath) (t : ℕ) → FitsIn limit T p t → length p.steps < limit
  fits-fewer p t f = fewer limit _ _ f.short (deep.positive t f.in-types)

  pub grown-fits : {p : FieldPath} {t : ℕ} → Grown limit T p t → FitsIn limit T p t
  grown-fits (Grown.from_key i {t} {c} h) = fits-field i t c h
  grown-fits (Grown.from-slot f) = f
  grown-fits (Grown.further {p} i {t} {c} g h) = fits-then p i t c (grown-fits g) h

  -- the fact: every path grown inside the types has fewer steps than the limit
  pub grown-fewer : {p : FieldPath} {t : ℕ} → Grown limit T p t → length p.steps < limit
  grown-fewer {p} {t} g = fits-fewer p t (grown-fits g)

-- At the rules' limit: a path holds one step less than a type is deep, and so every step that it is asked to take
pub accepted-deep : (T : Tables) → Sound T → DeepTo depth_limit T
accepted-deep T S = record { positive = S.positive; shallow = S.shallow }

pub one-step-less : depth_limit ≡ suc step_limit
one-step-less = refl

module _ (n d : ℕ) (room : n + d ≤ depth_limit) where
  pub holds-steps : 1 ≤ d → n ≤ step_limit
  holds-steps h = omega (arith, fewer depth_limit n d room h, one-step-less)

  pub holds-further : (c : ℕ) → 1 ≤ c → c + 1 ≤ d → n < step_limit
  holds-further c g h = omega (arith, fewer-further depth_limit n d room c g h, one-step-less)

pub grown-held : (T : Tables) → Sound T → {p : FieldPath} {t : ℕ} → Grown depth_limit T p t → length p.steps ≤ step_limit
grown-held T S g = omega (arith, grown-fewer depth_limit T (accepted-deep T S) g, one-step-less)
