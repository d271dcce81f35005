-- From how a call ends to what the written rules say of it.
use mathlib.Core.Path.{◌≡◌, refl, sym, ap, ap₂, ◌∙◌, subst}
use mathlib.Core.List.{List, [], ◌∷◌, ◌++◌}
use Prim.Native.Nat.{ℕ, suc, ◌-◌, ◌<◌}
use native.Mathlib.Nat.{sub-zero}
use lib.ListN.{length, take, get_or, replicate}
use lib.Seq.{length-take-le}
use Rattle.rules.specs.Base.{Each, done, more}
use Rattle.rules.specs.Compile.{Compiled, Outcome, returned, buffer, compiled}
use Rattle.rules.specs.Demand1.{Byte}
use Rattle.zeroes.specs.Zeroed.{zeroed}
use Rattle.std.specs.Prelude.{Result, Ok, Err, IsErrAnd, MatchResult}
use Rattle.std.specs.Result.{result_unwrap_or}
use Rattle.endings.specs.Endings.{ending_outcome, answer_of, Within}

zeroed-whole : (w : List ℕ) → zeroed w 0 ≡ replicate (length w) 0
unfolding zeroed
zeroed-whole w = ap (λ (k : ℕ). replicate k 0) (sub-zero (length w))

returned-of : (e : Result ℕ ℕ) (p : List ℕ) → Within e p → answer_of e ≡ returned (ending_outcome e p)
unfolding returned ending_outcome
returned-of (Ok n) p h = sym (length-take-le n p h)
returned-of (Err n) p h = refl

buffer-of : (e : Result ℕ ℕ) (p : List ℕ) → Within e p → zeroed p (result_unwrap_or e 0) ≡ buffer (length p) (ending_outcome e p)
unfolding buffer ending_outcome zeroed
buffer-of (Ok n) p h = ap (λ (k : ℕ). take n p ++ replicate (length p - k) 0) (sym (length-take-le n p h))
buffer-of (Err n) p h = zeroed-whole p

-- what a call returned and left is what it comes to
abbrev pub Left : ℕ → List ℕ → List ℕ → Compiled → Type 0
Left r output work c = (r ≡ c.result) × ((output ≡ c.plan) × (work ≡ c.work))

-- the last step of a call
module _ (e : Result ℕ ℕ) (p w : List ℕ) (h : Within e p) (r n : ℕ) (p' w' : List ℕ) where
  pub finished : r ≡ answer_of e → n ≡ result_unwrap_or e 0 → p' ≡ zeroed p n → w' ≡ zeroed w 0 → Left r p' w' (compiled (ending_outcome e p) (length p) (length w))
  unfolding compiled
  finished rs m ps ws = (rs ∙ returned-of e p h, (ps ∙ ap (zeroed p) m ∙ buffer-of e p h, ws ∙ zeroed-whole w))

-- what `map_err` hands to the last step: the same result with the refusal's number
module _ {E : Type 0} (number : E → ℕ) (numbered : Result ℕ E → Result ℕ ℕ) (ok : (n : ℕ) → Ok n ≡ numbered (Ok n)) (err : (x : E) → Err (number x) ≡ numbered (Err x)) where
  pub told : (r : Result ℕ E) (s : Result ℕ ℕ) → MatchResult r (λ n. s ≡ Ok n) (λ x. IsErrAnd s (λ n. n ≡ number x)) → s ≡ numbered r
  told (Ok n) s h = h ∙ ok n
  told (Err x) (Ok n) h = absurd h
  told (Err x) (Err n) h = ap (λ (k : ℕ). Err k) h ∙ err x

-- what was done before it left the buffers as long as they were
pub carried : (o o' : Outcome) (room room' area area' r : ℕ) (p w : List ℕ) → o ≡ o' → room' ≡ room → area' ≡ area → Left r p w (compiled o room' area') → Left r p w (compiled o' room area)
carried o o' room room' area area' r p w is lp lw =
    subst (Left r p w) (ap₂ (compiled o) lp lw ∙ ap (λ (x : Outcome). compiled x room area) is)

-- the bytes of a slice are bytes
pub bytes : (f : List ℕ) → ((i : ℕ) → get_or f i 0 < 256) → Each Byte f
bytes [] h = done
bytes (x ∷ f) h = more (h 0) (bytes f (λ i. h (suc i)))
