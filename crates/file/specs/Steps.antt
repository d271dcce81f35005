-- Reading by position: where a reading of the written rules ends, and what stands in the index afterwards.
use Rattle.std.specs.Prelude.{ℕ, zero, suc, ◌+◌, ◌*◌, ◌-◌, true, false, List, [], ◌∷◌, length, get_or, set, drop, leb, Result, Ok, Err}
use Rattle.std.proofs.lemmas.List.Edits.{sets}
use Rattle.rules.specs.Limits.{name_limit, type_limit, predicate_limit, node_limit, binding_limit, hoisted_limit, fetched_limit, constraint_limit, comparison_limit, level_limit}
use Rattle.rules.specs.Read.{Read, Reader, ◌>>=◌, pure, refuse, u16, section, end, name, type, predicate, node, binding, hoisted, fetched, constraint, comparison, level}
use Rattle.rules.specs.Read.Read.{got, refused}

-- two bytes hold a number below this
abbrev pub word_limit : ℕ
word_limit = 65536

-- the two bytes at p, the lower first
unfoldable pub word : List ℕ → ℕ → ℕ
word f p = get_or f p 0 + 256 * get_or f (p + 1) 0

-- where a reading of f ended, or its refusal
unfoldable pub step_of : {A : Type 0} → List ℕ → Read A → Result ℕ ℕ
step_of f (got a rest) = Ok (length f - length rest)
step_of f (refused n) = Err n

-- what reader r finds at position p of f
unfoldable pub read_at : {A : Type 0} → List ℕ → Reader A → ℕ → Read A
read_at f r p = r (drop p f)

-- and where it ends
unfoldable pub step_at : {A : Type 0} → List ℕ → Reader A → ℕ → Result ℕ ℕ
step_at f r p = step_of f (read_at f r p)

-- the same reading, with nothing kept
unfoldable pub skim : {A : Type 0} → Reader A → Reader (Unit {0})
skim r = r >>= λ a. pure tt

abbrev pub record_readers : List (Reader (Unit {0}))
record_readers =
    skim name ∷
    skim type ∷
    skim predicate ∷
    skim node ∷
    skim binding ∷
    skim hoisted ∷
    skim fetched ∷
    skim constraint ∷
    skim comparison ∷
    skim level ∷
    []

-- a record of section s, the sections counted from 0 in the file's order
unfoldable pub record_of : ℕ → Reader (Unit {0})
record_of s = get_or record_readers s (refuse 0)

-- how many sections there are, and how many records each may have
abbrev pub section_count : ℕ
section_count = 10

abbrev pub limits : List ℕ
limits =
    name_limit ∷
    type_limit ∷
    predicate_limit ∷
    node_limit ∷
    binding_limit ∷
    hoisted_limit ∷
    fetched_limit ∷
    constraint_limit ∷
    comparison_limit ∷
    level_limit ∷
    []

unfoldable pub limit_of : ℕ → ℕ
limit_of s = get_or limits s 0

-- where the area of section s begins in the index: its count, then where each record starts. The last base is the end of the areas.
abbrev pub bases : List ℕ
bases = 0 ∷ 513 ∷ 1026 ∷ 1283 ∷ 3332 ∷ 3589 ∷ 3846 ∷ 4103 ∷ 4360 ∷ 4617 ∷ 4682 ∷ []

unfoldable pub base_of : ℕ → ℕ
base_of s = get_or bases s 0

-- the areas of the types' depths, of the nodes' constancy and of the names' last bindings, and the index's length
abbrev pub depths_base : ℕ
depths_base = 4682

abbrev pub constants_base : ℕ
constants_base = 5194

abbrev pub last_bindings_base : ℕ
last_bindings_base = 7242

abbrev pub index_length : ℕ
index_length = 7754

unfoldable pub section_of : ℕ → Reader (List (Unit {0}))
section_of s = section (limit_of s) (record_of s)

-- the count of section s
unfoldable pub count : ℕ → Reader ℕ
count s = u16 >>= λ n. elim (leb n (limit_of s)) [ true ↦ pure n | false ↦ refuse 4 ]

-- a count that was read, or its refusal
unfoldable pub counted : Read ℕ → Result ℕ ℕ
counted (got n rest) = Ok n
counted (refused x) = Err x

unfoldable pub count_at : List ℕ → ℕ → ℕ → Result ℕ ℕ
count_at f s p = counted (read_at f (count s) p)

-- where each of n records of section s starts, up to the first fault
unfoldable pub starts : List ℕ → ℕ → ℕ → ℕ → List ℕ
starts f s zero p = []
starts f s (suc n) p = elim (step_at f (record_of s) p) [ Ok q ↦ p ∷ starts f s n q | Err x ↦ [] ]

-- what section s leaves in the index
unfoldable pub entries : List ℕ → ℕ → ℕ → List ℕ
entries f s p = elim (count_at f s p) [ Ok n ↦ n ∷ starts f s n (p + 2) | Err x ↦ [] ]

-- n sections from section s on, and the file's end
unfoldable pub sections : ℕ → ℕ → Reader (Unit {0})
sections zero s = end tt
sections (suc n) s = section_of s >>= λ a. sections n (s + 1)

-- the index after them
unfoldable pub filled : List ℕ → ℕ → ℕ → ℕ → List ℕ → List ℕ
filled f zero s p ix = ix
filled f (suc n) s p ix =
    elim (step_at f (section_of s) p) [
      | Ok q ↦ filled f n (s + 1) q (sets ix (base_of s) (entries f s p))
      | Err x ↦ sets ix (base_of s) (entries f s p)
    ]

-- the index with n empty sections from section s on: each count is 0
unfoldable pub emptied : ℕ → ℕ → List ℕ → List ℕ
emptied zero s ix = ix
emptied (suc n) s ix = emptied n (s + 1) (set ix (base_of s) 0)

-- the index after file f was read; one of no bytes has ten empty sections
unfoldable pub index_of : List ℕ → List ℕ → List ℕ
index_of [] ix = emptied section_count 0 ix
index_of (b ∷ bytes) ix = filled (b ∷ bytes) section_count 0 0 ix
