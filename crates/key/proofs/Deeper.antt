-- A path one step deeper, at a type below: there is room for the step, and for every step below the new type.
use Prim.Native.Nat.{ℕ, ◌<◌}
use mathlib.Core.Path.{sym, ap, ◌∙◌}
use mathlib.Core.List.{[], ◌∷◌}
use native.Mathlib.Omega.{arith}
use lib.ListN.{length, length-append}
use Rattle.rules.specs.Limits.{step_limit}
use Rattle.rules.specs.File as File
use Rattle.rules.specs.File.{Tables, then, payload}
use Rattle.rules.proofs.Sound.{Sound}
use Rattle.rules.proofs.Grown.{room-further, holds-further}
use Rattle.paths.specs.Paths.{path_of, Holds}
use Rattle.paths.specs.declared.FieldPath.{FieldPath}
use Rattle.field_cases.specs.Pieces.{Fits, Lower}

module _ (T : Tables) (S : Sound T) (p : FieldPath) (t c : ℕ) (f : Fits T p t) (l : Lower T t c) where
  pub has_room : p.count < step_limit
  has_room = holds-further _ _ f.short _ (S.positive c l.known) l.less-deep

  pub fits-then : (i : ℕ) (q : FieldPath) → Holds q (then (path_of p) i) → Fits T q c
  unfolding then
  fits-then i q h =
      record {
        known = l.known;
        count = h.count ∙ sym (ap (λ (x : File.FieldPath). length x.steps) h.is);
        short = omega (arith, h.count, length-append (path_of p).steps (i ∷ []), f.count, room-further _ _ _ f.short _ l.less-deep);
      }

  pub fits-payload : (i : ℕ) (q : FieldPath) → Holds q (payload (path_of p) i) → Fits T q c
  unfolding payload
  fits-payload i q h = fits-then i q h
