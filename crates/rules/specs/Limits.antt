-- The limits of document 01, one definition each; request [6] has the types' depth and the paths' steps.
use Rattle.std.specs.Prelude.{ℕ}

-- "Rule file": "At most 32,768 bytes."
abbrev pub file_limit : ℕ
file_limit = 32768

-- "Refusals": work area below 65,536 bytes
abbrev pub work_limit : ℕ
work_limit = 65536

-- "Refusals": plan longer than 16,384 bytes
abbrev pub plan_limit : ℕ
plan_limit = 16384

-- [6]: "types of depth 32"
abbrev pub depth_limit : ℕ
depth_limit = 32

-- [6]: "a path holds 31 steps everywhere"
abbrev pub step_limit : ℕ
step_limit = 31

-- "Rule file": how many records each section may have
abbrev pub name_limit : ℕ
name_limit = 512

abbrev pub type_limit : ℕ
type_limit = 512

abbrev pub predicate_limit : ℕ
predicate_limit = 256

abbrev pub node_limit : ℕ
node_limit = 2048

abbrev pub binding_limit : ℕ
binding_limit = 256

abbrev pub hoisted_limit : ℕ
hoisted_limit = 256

abbrev pub fetched_limit : ℕ
fetched_limit = 256

abbrev pub constraint_limit : ℕ
constraint_limit = 256

abbrev pub comparison_limit : ℕ
comparison_limit = 256

abbrev pub level_limit : ℕ
level_limit = 64
