-- The checks 11 to 14 in the steps that the code takes, the filled index, and the verdict on a file.
use Rattle.std.specs.Prelude.{ℕ, ◌+◌, ◌<◌, ◌≡◌, Bool, true, false, List, [], ◌∷◌, map, length, get_or, set, drop, replicate, eqb, leb, Result, Ok, Err, Option, None, Some}
use Rattle.std.proofs.lemmas.List.Edits.{sets}
use Rattle.rules.specs.Base.{both, all}
use Rattle.rules.specs.Limits.{step_limit}
use Rattle.rules.specs.File.{Tables, Binding, depths, depth, constants, is_constant}
use Rattle.rules.specs.Checks.{numbers_in, children_lower, types_distinct, types_shallow, children_once, consts_constant, slot_fits, paths_fit, check, checks, fault, Check}
use Rattle.rules.specs.Read.{Read}
use Rattle.rules.specs.Read as Read
use Rattle.file.specs.Steps.{depths_base, constants_base, last_bindings_base, index_of}
use Rattle.file.specs.Tables.{Indexed, tables_of, last_binding}

-- how the index says that a node is constant
abbrev pub bit_of : Bool → ℕ
bit_of true = 1
bit_of false = 0

-- the nodes' constancy as it stands in the index, 1 for constant
unfoldable pub flags_at : List ℕ → List Bool
flags_at ix = map (λ x. eqb x 1) (drop constants_base ix)

unfoldable pub flags_of : Tables → List ℕ
flags_of T = map bit_of (constants T)

-- the area of the last bindings, written binding after binding, the first of these having number k
unfoldable pub bindings_over : List ℕ → ℕ → List Binding → List ℕ
bindings_over ix k [] = ix
bindings_over ix k (b ∷ bs) = bindings_over (set ix (last_bindings_base + b.name) (k + 1)) (k + 1) bs

-- the same over zeros, one for each name
unfoldable pub last_bindings : Tables → List ℕ → List ℕ
last_bindings T ix = bindings_over (sets ix last_bindings_base (replicate (length T.names) 0)) 0 T.bindings

-- 12: each of l is met for the first time, where m marks what was met before; and the marks afterwards, up to the first repeat
unfoldable pub once : List ℕ → List ℕ → Bool
once m [] = true
once m (c ∷ l) = elim (eqb (get_or m c 0) 0) [ true ↦ once (set m c 1) l | false ↦ false ]

unfoldable pub marked : List ℕ → List ℕ → List ℕ
marked m [] = m
marked m (c ∷ l) = elim (eqb (get_or m c 0) 0) [ true ↦ marked (set m c 1) l | false ↦ m ]

-- 14 in its two parts
unfoldable pub slots_fit : Tables → Bool
slots_fit T = all (λ b. slot_fits T b.slot) T.bindings

unfoldable pub fetched_fit : Tables → Bool
fetched_fit T = all (λ f. leb (length f.path.steps) step_limit) T.fetched

-- the index of a file that passes 8 and 9: the depth of each type, the constancy of each node and the last binding of each name stand in it
pub record Filled (f ix : List ℕ) : Type 0 where
  pub indexed : Indexed f ix
  pub depth-at : (t : ℕ) → t < length (tables_of f).types → get_or ix (depths_base + t) 0 ≡ depth (tables_of f) t
  pub constant-at : (n : ℕ) → n < length (tables_of f).nodes → get_or ix (constants_base + n) 0 ≡ bit_of (is_constant (tables_of f) n)
  pub last-at : (x : ℕ) → x < length (tables_of f).names → get_or ix (last_bindings_base + x) 0 ≡ last_binding (tables_of f) x

-- the same, with what 8 and 9 found
pub record Numbered (f ix : List ℕ) : Type 0 where
  pub filled : Filled f ix
  pub numbers : numbers_in (tables_of f) ≡ true
  pub lower : children_lower (tables_of f) ≡ true

-- an accepted file and its index
pub record Checked (f ix : List ℕ) : Type 0 where
  pub numbered : Numbered f ix
  pub distinct : types_distinct (tables_of f) ≡ true
  pub shallow : types_shallow (tables_of f) ≡ true
  pub once : children_once (tables_of f) ≡ true
  pub consts : consts_constant (tables_of f) ≡ true
  pub fit : paths_fit (tables_of f) ≡ true

-- the first of the checks 10 to 14 that fails
abbrev pub later_checks : List Check
later_checks =
    check 10 types_distinct ∷
    check 11 types_shallow ∷
    check 12 children_once ∷
    check 13 consts_constant ∷
    check 14 paths_fit ∷
    []

-- the code's verdict for the rules' fault
abbrev pub verdict_of : Option ℕ → Result (Unit {0}) ℕ
verdict_of None = Ok tt
verdict_of (Some n) = Err n

unfoldable pub later_fault : Tables → Result (Unit {0}) ℕ
later_fault T = verdict_of (fault later_checks T)

unfoldable pub all_fault : Tables → Result (Unit {0}) ℕ
all_fault T = verdict_of (fault checks T)

-- the index with its last three areas filled, and after the checks
abbrev pub filled_index : Tables → List ℕ → List ℕ
filled_index T ix = last_bindings T (sets (sets ix depths_base (depths T)) constants_base (flags_of T))

unfoldable pub checked_index : Tables → List ℕ → List ℕ
checked_index T ix = elim (both (numbers_in T) (children_lower T)) [ true ↦ filled_index T ix | false ↦ ix ]

-- the verdict on a file, reading and checking it, and the index afterwards
unfoldable pub read_verdict : Read Tables → Result (Unit {0}) ℕ
read_verdict (Read.got T rest) = all_fault T
read_verdict (Read.refused n) = Err n

unfoldable pub file_verdict : List ℕ → Result (Unit {0}) ℕ
file_verdict f = read_verdict (Read.file f)

unfoldable pub read_index : Read Tables → List ℕ → List ℕ
read_index (Read.got T rest) ix = checked_index T ix
read_index (Read.refused n) ix = ix

unfoldable pub file_index : List ℕ → List ℕ → List ℕ
file_index f ix = read_index (Read.file f) (index_of f ix)
