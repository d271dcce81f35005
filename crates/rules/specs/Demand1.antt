-- Demand 1: "one plan or one refusal", and what both buffers hold afterwards: said of what a call returned and left, whatever it computes.
use Rattle.std.specs.Prelude.{◌≡◌, List, [], ◌∷◌, ◌++◌, ℕ, ◌-◌, ◌*◌, ◌≤◌, ◌<◌, length, take, replicate}
use Rattle.rules.specs.Limits.{plan_limit}

abbrev pub Byte : ℕ → Type 0
Byte b = b < 256

abbrev pub zeros : ℕ → List ℕ
zeros n = replicate n 0

-- "Refusals, by place": their numbers, and request [7]'s
abbrev pub refusals : List ℕ
refusals = 1 ∷ 2 ∷ 3 ∷ 4 ∷ 5 ∷ 6 ∷ 7 ∷ 8 ∷ 9 ∷ 10 ∷ 11 ∷ 12 ∷ 13 ∷ 14 ∷ 15 ∷ 19 ∷ []

-- n is one of the numbers
pub data Among (n : ℕ) : List ℕ → Type 0 where
  here : {m : ℕ} {ms : List ℕ} → n ≡ m → Among n (m ∷ ms)
  further : {m : ℕ} {ms : List ℕ} → Among n ms → Among n (m ∷ ms)

-- r is the length of what was written to the front of the output buffer; past it the buffer is zero
pub record Accepted (r : ℕ) (output output' : List ℕ) : Type 0 where
  pub short : r ≤ plan_limit
  pub fits : r ≤ length output
  pub rest-zero : output' ≡ take r output' ++ zeros (length output - r)

-- r is the number of one of the call's refusals × 65,536; the whole output buffer is zero
pub record Refused (numbers : List ℕ) (r : ℕ) (output output' : List ℕ) : Type 0 where
  pub number : ℕ
  pub listed : Among number numbers
  pub result : r ≡ number * 65536
  pub all-zero : output' ≡ zeros (length output)

pub data Ending (numbers : List ℕ) (r : ℕ) (output output' : List ℕ) : Type 0 where
  accepted : Accepted r output output' → Ending numbers r output output'
  refused : Refused numbers r output output' → Ending numbers r output output'

-- A call with these refusals that returned r. Output buffer and work area were lent as `output` and `work`, and left as `output'` and
-- `work'`.
pub record Demand1 (numbers : List ℕ) (r : ℕ) (output work output' work' : List ℕ) : Type 0 where
  pub ending : Ending numbers r output output'
  pub work-zero : work' ≡ zeros (length work)
  pub output-length : length output' ≡ length output
  pub work-length : length work' ≡ length work
