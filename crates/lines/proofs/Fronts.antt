-- What was written at the front of a buffer.
use mathlib.Core.List.{List, [], ◌∷◌}
use mathlib.Core.Path.{◌≡◌, refl, sym, ap, ◌∙◌}
use Prim.Native.Nat.{ℕ, ◌+◌, ◌*◌, ◌/◌, ◌≤◌}
use native.Mathlib.Omega.{arith}
use lib.ListN.{length, take, drop}
use lib.Seq.{sets, sets-eq, take_at}
use lib.Dec.{ltb}
use Rattle.rules.proofs.Cases.{by-test}
use Rattle.lines.specs.Lines.{hex, decimal, refusal, unhex}

pub front : (l vs : List ℕ) (n : ℕ) → n ≡ length vs → length vs ≤ length l → take n (sets l 0 vs) ≡ vs
front l vs n e h =
    ap (take n) (sets-eq vs l 0 (omega (arith, h)))
    ∙ take_at vs (drop (0 + length vs) l) n (sym e)

pub length-hex : (bytes : List ℕ) → length (hex bytes) ≡ length bytes * 2
unfolding hex
length-hex [] = refl
length-hex (b ∷ bs) = omega (arith, length-hex bs)

pub length-refusal : (n : ℕ) → length (refusal n) ≤ 10
unfolding refusal decimal
length-refusal n = by-test (λ (l : List ℕ). length (114 ∷ 101 ∷ 102 ∷ 117 ∷ 115 ∷ 101 ∷ 100 ∷ 32 ∷ l) ≤ 10) (ltb n 10) (λ q. omega arith) (λ q. omega arith)

pub length-unhex : (text : List ℕ) → length (unhex text) ≡ length text / 2
unfolding unhex
length-unhex [] = refl
length-unhex (h ∷ []) = refl
length-unhex (h ∷ l ∷ ds) = omega (arith, length-unhex ds)

-- hex read back at the front of a buffer
pub read_back_lem : (text f f' : List ℕ) → length text ≤ length f * 2 → f' ≡ sets f 0 (unhex text) → take (length text / 2) f' ≡ unhex text
read_back_lem text f f' h q =
    ap (take (length text / 2)) q ∙ front f (unhex text) (length text / 2) (sym (length-unhex text)) (omega (arith, length-unhex text))
