-- Digits, hex byte by byte, and hex read back.
use mathlib.Core.Bool.{true, false}
use mathlib.Core.List.{List, [], ◌∷◌, ◌++◌}
use mathlib.Core.Path.{◌≡◌, refl, sym, ap, ◌∙◌}
use Prim.Native.Nat.{ℕ, suc, ◌+◌, ◌-◌, ◌*◌, ◌/◌, ◌%◌, ◌≤◌, ◌<◌}
use native.Mathlib.Omega.{arith}
use borrow.Author.Tests.{lt-ltb, le-ltb}
use lib.Dec.{ltb}
use native.Mathlib.Nat.{not-suc-le-zero, le_of_suc-le-suc}
use lib.ListN.{length, get_or, set, drop, drop_of_length-le, length-drop}
use lib.Seq.{sets, sets-eq, drop-cons}
use Rattle.rules.proofs.Cases.{pick}
use Rattle.lines.specs.Lines.{digit, hex, decimal, refusal, value, byte, unhex}

pub digit_low : (n : ℕ) → n < 10 → 48 + n ≡ digit n
unfolding digit
digit_low n h = sym (pick (ltb n 10) true (48 + n) (87 + n) (lt-ltb n 10 h))

pub digit-high : (n : ℕ) → 10 ≤ n → 87 + n ≡ digit n
unfolding digit
digit-high n h = sym (pick (ltb n 10) false (48 + n) (87 + n) (le-ltb n 10 h))

pub refusal-one : (n : ℕ) → n < 10 → refusal n ≡ 114 ∷ 101 ∷ 102 ∷ 117 ∷ 115 ∷ 101 ∷ 100 ∷ 32 ∷ (48 + n) ∷ []
unfolding refusal decimal
refusal-one n h =
    ap (λ (l : List ℕ). 114 ∷ 101 ∷ 102 ∷ 117 ∷ 115 ∷ 101 ∷ 100 ∷ 32 ∷ l) (pick (ltb n 10) true ((48 + n) ∷ []) ((48 + n / 10) ∷ (48 + n % 10) ∷ []) (lt-ltb n 10 h))

pub refusal-two : (n : ℕ) → 10 ≤ n → refusal n ≡ 114 ∷ 101 ∷ 102 ∷ 117 ∷ 115 ∷ 101 ∷ 100 ∷ 32 ∷ (48 + n / 10) ∷ (48 + n % 10) ∷ []
unfolding refusal decimal
refusal-two n h =
    ap (λ (l : List ℕ). 114 ∷ 101 ∷ 102 ∷ 117 ∷ 115 ∷ 101 ∷ 100 ∷ 32 ∷ l) (pick (ltb n 10) false ((48 + n) ∷ []) ((48 + n / 10) ∷ (48 + n % 10) ∷ []) (le-ltb n 10 h))

-- the word before the number, copied to the front
pub word-front : (out word : List ℕ) → word ≡ 114 ∷ 101 ∷ 102 ∷ 117 ∷ 115 ∷ 101 ∷ 100 ∷ 32 ∷ [] → 8 ≤ length out
    → word ++ drop 8 out ≡ sets out 0 (114 ∷ 101 ∷ 102 ∷ 117 ∷ 115 ∷ 101 ∷ 100 ∷ 32 ∷ [])
word-front out word e h = ap (λ (l : List ℕ). l ++ drop 8 out) e ∙ sym (sets-eq (114 ∷ 101 ∷ 102 ∷ 117 ∷ 115 ∷ 101 ∷ 100 ∷ 32 ∷ []) out 0 h)

pub value_low : (c : ℕ) → c < 58 → value c ≡ c - 48
unfolding value
value_low c h = pick (ltb c 58) true (c - 48) (c - 87) (lt-ltb c 58 h)

pub value-high : (c : ℕ) → 58 ≤ c → value c ≡ c - 87
unfolding value
value-high c h = pick (ltb c 58) false (c - 48) (c - 87) (le-ltb c 58 h)

-- one byte more
pub hex-more : (bytes out : List ℕ) (i x y : ℕ) → i < length bytes → x ≡ digit (get_or bytes i 0 / 16) → y ≡ digit (get_or bytes i 0 % 16) → sets out (i * 2) (hex (drop i bytes)) ≡ sets (set (set out (i * 2) x) (i * 2 + 1) y) ((i + 1) * 2) (hex (drop (i + 1) bytes))
unfolding hex
hex-more bytes out i x y h p q =
    let one : suc (i * 2) ≡ i * 2 + 1 = omega arith in
    let two : suc (suc (i * 2)) ≡ (i + 1) * 2 = omega arith in
    let next : suc i ≡ i + 1 = omega arith in
    ap (λ (l : List ℕ). sets out (i * 2) (hex l)) (drop-cons bytes i 0 h)
    ∙ ap (λ (a : ℕ). sets (set (set out (i * 2) a) (suc (i * 2)) (digit (get_or bytes i 0 % 16))) (suc (suc (i * 2))) (hex (drop (suc i) bytes))) (sym p)
    ∙ ap (λ (a : ℕ). sets (set (set out (i * 2) x) (suc (i * 2)) a) (suc (suc (i * 2))) (hex (drop (suc i) bytes))) (sym q)
    ∙ ap (λ (a : ℕ). sets (set (set out (i * 2) x) a y) (suc (suc (i * 2))) (hex (drop (suc i) bytes))) one
    ∙ ap (λ (a : ℕ). sets (set (set out (i * 2) x) (i * 2 + 1) y) a (hex (drop (suc i) bytes))) two
    ∙ ap (λ (a : ℕ). sets (set (set out (i * 2) x) (i * 2 + 1) y) ((i + 1) * 2) (hex (drop a bytes))) next

pub hex-end : (bytes out : List ℕ) (i : ℕ) → length bytes ≤ i → sets out (i * 2) (hex (drop i bytes)) ≡ out
unfolding hex
hex-end bytes out i h = ap (λ (l : List ℕ). sets out (i * 2) (hex l)) (drop_of_length-le bytes h)

-- two digits more
pub unhex-more : (text out : List ℕ) (i x : ℕ) → i < length text / 2 → x ≡ byte (get_or text (i * 2) 0) (get_or text (i * 2 + 1) 0) → sets out i (unhex (drop (i * 2) text)) ≡ sets (set out i x) (i + 1) (unhex (drop ((i + 1) * 2) text))
unfolding unhex
unhex-more text out i x h p =
    let one : suc (i * 2) ≡ i * 2 + 1 = omega arith in
    let two : suc (i * 2 + 1) ≡ (i + 1) * 2 = omega arith in
    let next : suc i ≡ i + 1 = omega arith in
    let rest : drop (i * 2) text ≡ get_or text (i * 2) 0 ∷ get_or text (i * 2 + 1) 0 ∷ drop ((i + 1) * 2) text =
    drop-cons text (i * 2) 0 (omega arith) ∙ ap (λ (k : ℕ). get_or text (i * 2) 0 ∷ drop k text) one
    ∙ ap (λ (l : List ℕ). get_or text (i * 2) 0 ∷ l) (drop-cons text (i * 2 + 1) 0 (omega arith) ∙ ap (λ (k : ℕ). get_or text (i * 2 + 1) 0 ∷ drop k text) two) in
    ap (λ (l : List ℕ). sets out i (unhex l)) rest
    ∙ ap (λ (a : ℕ). sets (set out i a) (suc i) (unhex (drop ((i + 1) * 2) text))) (sym p)
    ∙ ap (λ (a : ℕ). sets (set out i x) a (unhex (drop ((i + 1) * 2) text))) next

none_left : (l out : List ℕ) (i : ℕ) → length l ≤ 1 → sets out i (unhex l) ≡ out
unfolding unhex
none_left [] out i h = refl
none_left (x ∷ []) out i h = refl
none_left (x ∷ y ∷ l) out i h = absurd (not-suc-le-zero (le_of_suc-le-suc h))

pub unhex-end : (text out : List ℕ) (i : ℕ) → length text / 2 ≤ i → sets out i (unhex (drop (i * 2) text)) ≡ out
unhex-end text out i h = none_left (drop (i * 2) text) out i (omega (arith, length-drop (i * 2) text))
