-- What the call returned and left, as the written rules have it.
use mathlib.Core.List.{List}
use mathlib.Core.Path.{◌≡◌, refl, sym, subst, subst₂}
use Prim.Native.Nat.{ℕ, ◌<◌}
use lib.ListN.{length, take}
use Rattle.rules.specs.Base.{Each}
use Rattle.rules.specs.Compile.{Outcome, compiled}
use Rattle.rules.specs.Demand1.{Byte, Demand1}
use Rattle.rules.specs.Reader as Reader
use Rattle.rules.specs.Reader.{reader_refusals, read_back}
use Rattle.rules.specs.ReadAgain.{ReadAgain}
use Rattle.rules.proofs.ReaderRules.{reader-demand1, reader-again}
use Rattle.endings.proofs.Ends.{Left, carried}

pub called : (f out w : List ℕ) (o : Outcome) (room r : ℕ) (out' w' : List ℕ) → o ≡ Reader.outcome f (length out) → room ≡ length out → Left r out' w' (compiled o room (length w)) → Left r out' w' (read_back f out w)
unfolding read_back
called f out w o room r out' w' is l = carried o (Reader.outcome f (length out)) (length out) room (length w) (length w) r out' w' is l refl

module _ (f out w : List ℕ) (h : Each Byte f) (r : ℕ) (out' w' : List ℕ) (q : Left r out' w' (read_back f out w)) where
  pub demand1-is : Demand1 reader_refusals r out w out' w'
  demand1-is =
      subst (λ (x : ℕ). Demand1 reader_refusals x out w out' w') (sym q.0)
      (subst₂ (λ (x y : List ℕ). Demand1 reader_refusals (read_back f out w).result out w x y) (sym q.1.0) (sym q.1.1) (reader-demand1 f out w h))

  pub again-is : r < 65536 → ReadAgain f (take r out')
  again-is =
      subst₂ (λ (x : ℕ) (y : List ℕ). x < 65536 → ReadAgain f (take x y)) (sym q.0) (sym q.1.0) (reader-again f out w h)
