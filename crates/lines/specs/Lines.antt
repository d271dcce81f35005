-- "Door table": "prints one line of lower-case hex"; "For a refusal it prints `refused` and the number." And hex read back.
use Rattle.std.specs.Prelude.{true, false, List, [], ◌∷◌, ℕ, ◌+◌, ◌-◌, ◌*◌, ◌/◌, ◌%◌, ◌≤◌, ◌<◌, eqb, ltb, length, take}
use Rattle.rules.specs.Compile.{Outcome}

-- 0 to 9, then a to f, as text
unfoldable pub digit : ℕ → ℕ
digit n = elim (ltb n 10) [ true ↦ 48 + n | false ↦ 87 + n ]

unfoldable pub hex : List ℕ → List ℕ
hex [] = []
hex (b ∷ bs) = digit (b / 16) ∷ digit (b % 16) ∷ hex bs

-- a number below 100
unfoldable pub decimal : ℕ → List ℕ
decimal n = elim (ltb n 10) [ true ↦ (48 + n) ∷ [] | false ↦ (48 + n / 10) ∷ (48 + n % 10) ∷ [] ]

-- "refused " and the number
unfoldable pub refusal : ℕ → List ℕ
refusal n = 114 ∷ 101 ∷ 102 ∷ 117 ∷ 115 ∷ 101 ∷ 100 ∷ 32 ∷ decimal n

unfoldable pub line : Outcome → List ℕ
line (Outcome.planned bytes) = hex bytes
line (Outcome.refused n) = refusal n

-- the line for what an exported call answered, number × 65,536 + length, and left in its output
unfoldable pub line_of : ℕ → List ℕ → List ℕ
line_of answer output = elim (eqb (answer / 65536) 0) [ true ↦ hex (take (answer % 65536) output) | false ↦ refusal (answer / 65536) ]

-- such a line can be written to `out`: the number has two digits at most, and the length is one of the output
pub record Printable (answer : ℕ) (output out : List ℕ) : Type 0 where
  pub number : answer / 65536 < 100
  pub inside : answer % 65536 ≤ length output
  pub fits : answer % 65536 * 2 ≤ length out
  pub refusal-fits : 10 ≤ length out

-- what a digit stands for
unfoldable pub value : ℕ → ℕ
value c = elim (ltb c 58) [ true ↦ c - 48 | false ↦ c - 87 ]

unfoldable pub byte : ℕ → ℕ → ℕ
byte h l = (value h * 16 + value l) % 256

-- two digits are a byte; a lone last one is dropped
unfoldable pub unhex : List ℕ → List ℕ
unhex [] = []
unhex (h ∷ []) = []
unhex (h ∷ l ∷ ds) = byte h l ∷ unhex ds
