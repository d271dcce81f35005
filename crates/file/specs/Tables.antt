-- The tables of an accepted file, and how the index finds their records.
use Rattle.std.specs.Prelude.{ℕ, ◌+◌, ◌≤◌, ◌<◌, ◌≡◌, true, false, List, [], ◌∷◌, eqb, length, get_or}
use Rattle.rules.specs.Limits.{file_limit}
use Rattle.rules.specs.File.{Tables, Binding, no_tables}
use Rattle.rules.specs.Read.{Read, Reader, name, type, predicate, node, binding, hoisted, fetched, constraint, comparison, level}
use Rattle.rules.specs.Read.Read.{got, refused}
use Rattle.rules.specs.Read as Read
use Rattle.file.specs.Sections as Sections
use Rattle.file.specs.Steps.{read_at, base_of, limit_of, index_length}

abbrev pub got_tables : Read Tables → Tables
got_tables (got T rest) = T
got_tables (refused n) = no_tables

-- what the written rules read in file f
unfoldable pub tables_of : List ℕ → Tables
tables_of f = got_tables (Read.file f)

-- reader r finds a at position p of f
pub record Stands {A : Type 0} (f : List ℕ) (r : Reader A) (p : ℕ) (a : A) : Type 0 where
  pub rest : List ℕ
  pub reads : read_at f r p ≡ got a rest

-- the index finds the records xs of section s of f
pub record Section {A : Type 0} (f ix : List ℕ) (s : ℕ) (r : Reader A) (xs : List A) : Type 0 where
  pub count : get_or ix (base_of s) 0 ≡ length xs
  pub under : length xs ≤ limit_of s
  pub record-at : (t : ℕ) (d : A) → t < length xs → Stands f r (get_or ix (base_of s + 1 + t) 0) (get_or xs t d)

-- f is a file that the reader accepts, and ix its index
pub record Indexed (f ix : List ℕ) : Type 0 where
  pub small : length f ≤ file_limit
  pub long : index_length ≤ length ix
  pub accepted : Read.file f ≡ got (tables_of f) []
  pub names : Section f ix Sections.names name (tables_of f).names
  pub types : Section f ix Sections.types type (tables_of f).types
  pub predicates : Section f ix Sections.predicates predicate (tables_of f).predicates
  pub nodes : Section f ix Sections.nodes node (tables_of f).nodes
  pub bindings : Section f ix Sections.bindings binding (tables_of f).bindings
  pub hoisted : Section f ix Sections.hoisted hoisted (tables_of f).hoisted
  pub fetched : Section f ix Sections.fetched fetched (tables_of f).fetched
  pub constraints : Section f ix Sections.constraints constraint (tables_of f).constraints
  pub comparisons : Section f ix Sections.comparisons comparison (tables_of f).comparisons
  pub levels : Section f ix Sections.levels level (tables_of f).levels

-- the number + 1 of the last of these bindings that has name x, the first of them having number k; what was found before if none has it
unfoldable pub last_from : ℕ → ℕ → List Binding → ℕ → ℕ
last_from found k [] x = found
last_from found k (b ∷ bs) x =
    elim (eqb b.name x) [
      | true ↦ last_from (k + 1) (k + 1) bs x
      | false ↦ last_from found (k + 1) bs x
    ]

-- the number of name x's last binding + 1, or 0 if it has none
unfoldable pub last_binding : Tables → ℕ → ℕ
last_binding T x = last_from 0 0 T.bindings x
