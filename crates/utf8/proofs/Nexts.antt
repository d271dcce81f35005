-- One byte more, by what the code keeps: how many bytes are wanted, and the range of the next one.
use mathlib.Core.Bool.{Bool, true, false}
use mathlib.Core.List.{List, [], ◌∷◌}
use Rattle.std.specs.Prelude.{Option, None, Some}
use mathlib.Core.Path.{◌≡◌, refl, sym, ap, ◌∙◌}
use Prim.Native.Nat.{ℕ, zero, suc, ◌-◌, ◌≤◌, ◌<◌}
use native.Mathlib.Omega.{arith}
use lib.Dec.{eqb, eqb-suc-zero}
use lib.ListN.{get_or}
use Rattle.rules.specs.Utf8.{Octets, ◌to◌, has, begins, after, whole, UTF8-tail}
use Rattle.rules.proofs.Utf8.{has_in, has-below, has_above}
use Rattle.utf8.specs.Wants.{ranges, wants}
use Rattle.utf8.specs.declared.Wanted.{Wanted}

abbrev kept : ℕ → Octets → Option (List Octets)
kept more r = get_or (ranges r) more None

kept-fault : (more : ℕ) (r : Octets) → 4 ≤ more → kept more r ≡ None
kept-fault zero r h = absurd (omega arith)
kept-fault (suc zero) r h = absurd (omega arith)
kept-fault (suc (suc zero)) r h = absurd (omega arith)
kept-fault (suc (suc (suc zero))) r h = absurd (omega arith)
kept-fault (suc (suc (suc (suc more)))) r h = refl

kept_out : (more : ℕ) (r : Octets) (b : ℕ) → 0 < more → has r b ≡ false → after (kept more r) b ≡ None
unfolding after
kept_out zero r b h e = absurd (omega arith)
kept_out (suc zero) r b h e = ap (λ (t : Bool). elim t [ true ↦ Some [] | false ↦ None ]) e
kept_out (suc (suc zero)) r b h e = ap (λ (t : Bool). elim t [ true ↦ Some (UTF8-tail ∷ []) | false ↦ None ]) e
kept_out (suc (suc (suc zero))) r b h e = ap (λ (t : Bool). elim t [ true ↦ Some (UTF8-tail ∷ UTF8-tail ∷ []) | false ↦ None ]) e
kept_out (suc (suc (suc (suc more)))) r b h e = refl

kept_in : (more : ℕ) (r : Octets) (b : ℕ) → 0 < more → more < 4 → has r b ≡ true → after (kept more r) b ≡ kept (more - 1) UTF8-tail
unfolding after
kept_in zero r b h g e = absurd (omega arith)
kept_in (suc zero) r b h g e = ap (λ (t : Bool). elim t [ true ↦ Some [] | false ↦ None ]) e
kept_in (suc (suc zero)) r b h g e = ap (λ (t : Bool). elim t [ true ↦ Some (UTF8-tail ∷ []) | false ↦ None ]) e
kept_in (suc (suc (suc zero))) r b h g e = ap (λ (t : Bool). elim t [ true ↦ Some (UTF8-tail ∷ UTF8-tail ∷ []) | false ↦ None ]) e
kept_in (suc (suc (suc (suc more)))) r b h g e = absurd (omega arith)

kept_whole : (more : ℕ) (r : Octets) → whole (kept more r) ≡ eqb more 0
unfolding whole
kept_whole zero r = refl
kept_whole (suc zero) r = refl
kept_whole (suc (suc zero)) r = refl
kept_whole (suc (suc (suc zero))) r = refl
kept_whole (suc (suc (suc (suc more)))) r = sym (eqb-suc-zero (suc (suc (suc more))))

module _ (w : Wanted) where
  abbrev range : Octets
  range = w.low to w.high

  -- nothing is wanted
  pub between : w.more ≡ 0 → wants w ≡ Some []
  unfolding wants
  between e = ap (λ (more : ℕ). kept more range) e

  pub between_next : (b : ℕ) → w.more ≡ 0 → after (wants w) b ≡ begins b
  unfolding after
  between_next b e = ap (λ (o : Option (List Octets)). after o b) (between e)

  pub fault-next : (b : ℕ) → 4 ≤ w.more → wants w ≡ after (wants w) b
  unfolding wants after
  fault-next b h = kept-fault w.more range h ∙ ap (λ (o : Option (List Octets)). after o b) (sym (kept-fault w.more range h))

  pub below_next : (b : ℕ) → 0 < w.more → b < w.low → after (wants w) b ≡ None
  unfolding wants
  below_next b h g = kept_out w.more range b h (has-below range b g)

  pub above-next : (b : ℕ) → 0 < w.more → w.high < b → after (wants w) b ≡ None
  unfolding wants
  above-next b h g = kept_out w.more range b h (has_above range b g)

  pub tail-next : (b : ℕ) → 0 < w.more → w.more < 4 → w.low ≤ b → b ≤ w.high → after (wants w) b ≡ kept (w.more - 1) UTF8-tail
  unfolding wants
  tail-next b h g l m = kept_in w.more range b h g (has_in range b l m)

  pub whole-if : whole (wants w) ≡ eqb w.more 0
  unfolding wants
  whole-if = kept_whole w.more range

-- what a value that was made wants
pub made : (r : Wanted) (more low high : ℕ) → r ≡ record { more = more; low = low; high = high } → wants r ≡ get_or (ranges (low to high)) more None
unfolding wants
made r more low high e = ap wants e
