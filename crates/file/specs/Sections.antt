-- The sections by number, in the file's order.
use Rattle.std.specs.Prelude.{ℕ}
use Rattle.file.specs.declared.Section.{Section}

abbrev pub names : ℕ
names = 0

abbrev pub types : ℕ
types = 1

abbrev pub predicates : ℕ
predicates = 2

abbrev pub nodes : ℕ
nodes = 3

abbrev pub bindings : ℕ
bindings = 4

abbrev pub hoisted : ℕ
hoisted = 5

abbrev pub fetched : ℕ
fetched = 6

abbrev pub constraints : ℕ
constraints = 7

abbrev pub comparisons : ℕ
comparisons = 8

abbrev pub levels : ℕ
levels = 9

-- the number of a section
abbrev pub number_of : Section → ℕ
number_of Section.Names = names
number_of Section.Types = types
number_of Section.Predicates = predicates
number_of Section.Nodes = nodes
number_of Section.Bindings = bindings
number_of Section.Hoisted = hoisted
number_of Section.Fetched = fetched
number_of Section.Constraints = constraints
number_of Section.Comparisons = comparisons
number_of Section.Levels = levels
