-- What an index remembers, asked of any number.
use Rattle.std.specs.Prelude.{Bool, true, false, List, ℕ, ltb, eqb, length, Option, None, Some}
use Rattle.rules.specs.File.{Tables, is_constant}
use Rattle.accepted_file.specs.Fates.{recalled, fate_met, fate_heard, fate_quiet, fate_bytes}
use Rattle.tables.specs.declared.Fate.{Fate}

-- the digit of a row that stands for a fate
abbrev pub fate_digit : Fate → ℕ
fate_digit Fate.Met = fate_met
fate_digit Fate.Heard = fate_heard
fate_digit Fate.Quiet = fate_quiet
fate_digit Fate.Bytes = fate_bytes

abbrev pub fate_option : Option Fate → Option ℕ
fate_option None = None
fate_option (Some fate) = Some (fate_digit fate)

unfoldable pub recalled_any : Tables → List ℕ → ℕ → ℕ → Option ℕ
recalled_any T ix n t = elim (ltb n (length T.nodes)) [ true ↦ recalled ix n t | false ↦ None ]

-- whether it is remembered of a constant that it gives nothing but a skip
unfoldable pub quiet_by : Bool → Option ℕ → Bool
quiet_by constant None = false
quiet_by constant (Some fate) = elim (eqb fate fate_quiet) [ true ↦ constant | false ↦ false ]

unfoldable pub quiet_in : Tables → List ℕ → ℕ → ℕ → Bool
quiet_in T ix n t = quiet_by (is_constant T n) (recalled_any T ix n t)
