-- Worked keys: for each kind of part, range, edge, guide and residual a key that passes and one that just misses; and the key with a zero
-- byte that passes and does not match.
use Rattle.std.specs.Prelude.{Bool, true, false, List, [], ◌∷◌, ℕ, Option, None, Some}
use Rattle.rules.specs.Base.{both, open_base}
use Rattle.rules.specs.File.{Tables, Ty, Node, Anchor, Slot, Binding, Constraint, Comparison, CompareOp, FieldPattern, open_file}
use Rattle.rules.specs.Checks.{checks, fault, open_checks}
use Rattle.rules.specs.Constant.{open_constant}
use Rattle.rules.specs.Lookup.{open_lookup}
use Rattle.rules.specs.Events.{open_events}
use Rattle.rules.specs.Resolve.{open_resolve}
use Rattle.rules.specs.Walk.{open_walk}
use Rattle.rules.specs.Placement.{open_placement}
use Rattle.rules.specs.Levels.{levels, starting, any_mistyped, open_levels}
use Rattle.rules.specs.Plan.{plan, open_plan}
use Rattle.rules.specs.Demand3.{entry_at, open_demand3}
use Rattle.exact.specs.Values.{Value, Values, ◌and◌, encode, open_values}
use Rattle.exact.specs.Keys.{Engine, begins, open_keys}
use Rattle.exact.specs.Passes.{passes, open_passes}
use Rattle.exact.specs.Matcher.{matches, open_matcher}
use Rattle.exact.specs.Conditions.{constraints_are_texts, own_nodes, open_conditions}
use Rattle.exact.specs.Placings.{placed_by, level_by, open_placings}
use Rattle.exact.specs.Claims.{planned, key_type_of, bound_before, open_claims}

-- texts: a, b, ab, none, and a zero byte
abbrev pub a : List ℕ
a = 97 ∷ []

abbrev pub b : List ℕ
b = 98 ∷ []

abbrev pub ab : List ℕ
ab = 97 ∷ 98 ∷ []

abbrev pub zero-byte : List ℕ
zero-byte = 0 ∷ []

-- types: Int, Str, a reference to predicate 0, a union of two alternatives over Str, a record of two Strs, a record of the
-- first four, a record of one Str
abbrev pub types : List Ty
types =
    Ty.Int ∷ Ty.Str ∷ Ty.Fact 0 ∷
    Ty.Union (record { name = 0; disc = 7; type = 1 } ∷ record { name = 1; disc = 8; type = 1 } ∷ []) ∷
    Ty.Record (record { name = 0; type = 1 } ∷ record { name = 1; type = 1 } ∷ []) ∷
    Ty.Record
    (record { name = 0; type = 0 } ∷ record { name = 1; type = 1 } ∷ record { name = 2; type = 2 } ∷ record { name = 3; type = 3 } ∷ []) ∷
    Ty.Record (record { name = 0; type = 1 } ∷ []) ∷ []

-- names 0 to 3 are a, b, ab and the empty text; names 4 and 5 are bound to field 0 of register 1 and to the row in register 1
abbrev pub bound : List Binding
bound =
    record { name = 4; slot = Slot.Field 1 (record { field = 0; steps = [] }) 1 } ∷ record { name = 5; slot = Slot.Row 1 (Some 0) } ∷ []

-- a file of one level at address 2: its key type, its nodes, of which the last is its own, its constraints and comparisons
abbrev pub one : ℕ → List Node → ℕ → List Constraint → List Comparison → Tables
one key nodes own constraints comparisons =
    record {
      names = a ∷ b ∷ ab ∷ [] ∷ (99 ∷ []) ∷ (100 ∷ []) ∷ (101 ∷ []) ∷ [];
      types = types;
      predicates = record { key = key; value = None } ∷ [];
      nodes = nodes;
      bindings = bound;
      hoisted = [];
      fetched = [];
      constraints = constraints;
      comparisons = comparisons;
      levels = record { predicate = 0; node = own; address = 2 } ∷ [];
    }

abbrev pub field : ℕ → ℕ → FieldPattern
field name node = record { name = name; node = node }

-- a key of one text, and a pattern for it
abbrev pub single : Node → Tables
single node = one 6 (node ∷ Node.Record (field 0 0 ∷ []) ∷ []) 1 [] []

abbrev pub text : List ℕ → Value
text own = Value.Rec (Value.Str own and Values.no_more)

-- every register holds the text a at every path, and the row of fact 9; a fuzzy text is near if it begins with a
abbrev pub engine : Engine
engine = record { fields = λ address path. encode (Value.Str a); row = λ address. 9; fuzzy = λ x distance anchor text. begins a text }

-- a key, whether it passes, and whether the matcher accepts it
pub record Row : Type 0 where
  pub file : Tables
  pub key : Value
  pub kept : Bool
  pub matched : Bool

unfoldable pub is_some : {A : Type 0} → Option A → Bool
is_some None = false
is_some (Some x) = true

unfoldable pub keeps : Row → Bool
keeps r = passes engine (key_type_of r.file 0) (planned r.file 0) r.key

unfoldable pub accepts : Row → Bool
accepts r =
    is_some (matches r.file engine (entry_at r.file 0) (planned r.file 0).folded (bound_before r.file 0) r.key)

-- what a row claims: the two answers are as written
unfoldable pub same : Bool → Bool → Bool
same true x = x
same false true = false
same false false = true

unfoldable pub holds : Row → Bool
holds r = both (same (keeps r) r.kept) (same (accepts r) r.matched)

-- a key that passes and matches, and one that does neither
abbrev pub hit : Tables → Value → Row
hit file key = record { file = file; key = key; kept = true; matched = true }

abbrev pub miss : Tables → Value → Row
miss file key = record { file = file; key = key; kept = false; matched = false }

-- Parts: bytes; tag, register and closer; fact.
abbrev pub text_file : Tables
text_file = single (Node.Str 0)

abbrev pub union_file : Tables
union_file = one 3 (Node.Var 4 ∷ Node.Record (field 0 0 ∷ []) ∷ []) 1 [] []

abbrev pub fact_file : Tables
fact_file = one 2 (Node.Var 5 ∷ []) 0 [] []

abbrev pub parts : List Row
parts =
    hit text_file (text a) ∷ miss text_file (text ab) ∷
    hit union_file (Value.Uni 7 (Value.Str a)) ∷ miss union_file (Value.Uni 8 (Value.Str a)) ∷ miss union_file (Value.Uni 7 (Value.Str b)) ∷
    hit fact_file (Value.Fact 9) ∷ miss fact_file (Value.Fact 8) ∷ []

-- Range, guide and edges.
abbrev pub prefix_file : Tables
prefix_file = single (Node.Prefix 0)

abbrev pub guide_file : Tables
guide_file = single (Node.Fuzzy 0 1 Anchor.Whole)

-- a name with a prefix and a fuzzy for its constraints: a range with a guide
abbrev pub both_file : Tables
both_file =
    one 1 (Node.Prefix 2 ∷ Node.Fuzzy 0 1 Anchor.Prefix ∷ Node.Var 6 ∷ []) 2
    (record { name = 6; node = 0 } ∷ record { name = 6; node = 1 } ∷ []) []

-- the first field at most the empty text: the edge is compared with the one value behind the parts, not with all that follows
abbrev pub edge_file : Tables
edge_file =
    one 4 (Node.Var 6 ∷ Node.Str 3 ∷ Node.Var 6 ∷ Node.Record (field 0 2 ∷ []) ∷ []) 3 []
    (record { op = CompareOp.Le; left = 0; right = 1 } ∷ [])

abbrev pub ranges : List Row
ranges =
    hit prefix_file (text ab) ∷ miss prefix_file (text b) ∷
    hit guide_file (text ab) ∷ miss guide_file (text b) ∷
    hit both_file (Value.Str ab) ∷ miss both_file (Value.Str a) ∷
    hit edge_file (Value.Rec (Value.Str [] and Value.Str b and Values.no_more)) ∷
    miss edge_file (Value.Rec (Value.Str a and Value.Str b and Values.no_more)) ∷ []

-- Residuals: the first field is not named, so building falls at once. Bytes, prefix, fuzzy, register, fact, tag and own field.
abbrev pub after : Node → ℕ → Tables
after node name = one 5 (node ∷ Node.Record (field name 0 ∷ []) ∷ []) 1 [] []

abbrev pub tagged : Tables
tagged = one 5 (Node.Wildcard ∷ Node.Record (field 0 0 ∷ []) ∷ Node.Record (field 3 1 ∷ []) ∷ []) 2 [] []

abbrev pub twice : Tables
twice = one 4 (Node.Var 6 ∷ Node.Var 6 ∷ Node.Record (field 0 0 ∷ field 1 1 ∷ []) ∷ []) 2 [] []

abbrev pub key : List ℕ → ℕ → ℕ → Value
key text fact disc =
    Value.Rec
    (Value.Int (0 ∷ 0 ∷ 0 ∷ 0 ∷ 0 ∷ 0 ∷ 0 ∷ 0 ∷ []) and Value.Str text and Value.Fact fact and Value.Uni disc (Value.Str b) and
    Values.no_more)

abbrev pub pair : List ℕ → List ℕ → Value
pair x y = Value.Rec (Value.Str x and Value.Str y and Values.no_more)

abbrev pub residuals : List Row
residuals =
    hit (after (Node.Str 0) 1) (key a 9 7) ∷ miss (after (Node.Str 0) 1) (key b 9 7) ∷
    hit (after (Node.Prefix 0) 1) (key ab 9 7) ∷ miss (after (Node.Prefix 0) 1) (key b 9 7) ∷
    hit (after (Node.Fuzzy 0 1 Anchor.Whole) 1) (key ab 9 7) ∷ miss (after (Node.Fuzzy 0 1 Anchor.Whole) 1) (key b 9 7) ∷
    hit (after (Node.Var 4) 1) (key a 9 7) ∷ miss (after (Node.Var 4) 1) (key ab 9 7) ∷
    hit (after (Node.Var 5) 2) (key a 9 7) ∷ miss (after (Node.Var 5) 2) (key a 8 7) ∷
    hit tagged (key a 9 7) ∷ miss tagged (key a 9 8) ∷
    hit twice (pair ab ab) ∷ miss twice (pair ab a) ∷ []

-- Why a key has no zero byte: the part of the empty text is 03 00, and the text of one zero byte is 03 00 ff 00. It passes and does not
-- match.
abbrev pub empty_file : Tables
empty_file = single (Node.Str 3)

abbrev pub zero_bytes : List Row
zero_bytes = hit empty_file (text []) ∷ record { file = empty_file; key = text zero-byte; kept = true; matched = false } ∷ []

-- every file of these rows meets the conditions of the claim
abbrev pub files : List Tables
files =
    text_file ∷ union_file ∷ fact_file ∷ prefix_file ∷ guide_file ∷ both_file ∷ edge_file ∷ after (Node.Str 0) 1 ∷ after (Node.Prefix 0) 1 ∷
    after (Node.Fuzzy 0 1 Anchor.Whole) 1 ∷ after (Node.Var 4) 1 ∷ after (Node.Var 5) 2 ∷ tagged ∷ twice ∷ empty_file ∷ []

unfoldable pub is_empty : {A : Type 0} → List A → Bool
is_empty [] = true
is_empty (x ∷ xs) = false

unfoldable pub is_plain : Tables → Bool
is_plain T =
    both (same (is_some (fault checks T)) false)
    (both (same (any_mistyped (levels T)) false)
    (both (is_empty (plan T).diagnostics)
    (both (constraints_are_texts T) (own_nodes T (starting T) T.levels))))

-- the rules, opened for computing
unfoldable pub open_exact : Unit {0}
unfolding open_base open_file open_checks open_constant open_lookup open_events open_resolve open_walk open_placement open_levels open_plan open_demand3
    open_values open_keys open_passes open_matcher placed_by level_by open_placings open_claims open_conditions is_some keeps accepts same
    holds is_empty is_plain
open_exact = tt
