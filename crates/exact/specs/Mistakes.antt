-- The placements with a mistake: for each a file and a key show that it makes a level keep too much or too little.
use Rattle.std.specs.Prelude.{Bool, true, false, List, [], ◌∷◌, ◌++◌}
use Rattle.rules.specs.Base.{both}
use Rattle.rules.specs.File.{Tables, Ty, Node, CompareOp}
use Rattle.rules.specs.Levels.{levels}
use Rattle.rules.specs.Plan.{plan_level}
use Rattle.rules.specs.Demand3.{entry_at, level_at}
use Rattle.exact.specs.Values.{Value, Values, ◌and◌}
use Rattle.exact.specs.Passes.{passes}
use Rattle.exact.specs.Matcher.{matches}
use Rattle.exact.specs.Placings.{Placing, level_by, part_after_the_fall, closer_forgotten, skip_keeps_building, last_comparison, prefix_as_part}
use Rattle.exact.specs.Claims.{key_type_of, bound_before}
use Rattle.exact.specs.Rows.{a, b, ab, one, field, engine, pair, is_some, same, holds, open_exact}

-- a file and a key, and whether the level keeps the key though it does not match, or loses it though it matches
pub record Shown : Type 0 where
  pub put : Placing
  pub file : Tables
  pub key : Value
  pub kept : Bool
  pub matched : Bool

abbrev pub loses : Placing → Tables → Value → Shown
loses put file key = record { put = put; file = file; key = key; kept = false; matched = true }

abbrev pub adds : Placing → Tables → Value → Shown
adds put file key = record { put = put; file = file; key = key; kept = true; matched = false }

unfoldable pub shows : Shown → Bool
shows s =
    let l = plan_level (level_by s.put s.file (level_at s.file (levels s.file) 0)) in
    both (same (passes engine (key_type_of s.file 0) l s.key) s.kept)
    (same (is_some (matches s.file engine (entry_at s.file 0) l.folded (bound_before s.file 0) s.key)) s.matched)

-- with the claims' placement the level keeps the key exactly if it matches
unfoldable pub agrees : Shown → Bool
agrees s = holds (record { file = s.file; key = s.key; kept = s.matched; matched = s.matched })

-- a record of a union and a text
abbrev pub union_then_text : Tables
union_then_text =
    let file = one 7 (Node.Var 4 ∷ Node.Record (field 0 0 ∷ []) ∷ Node.Str 0 ∷ Node.Record (field 0 1 ∷ field 1 2 ∷ []) ∷ []) 3 [] [] in
    record {
      names = file.names;
      types = file.types ++ (Ty.Record (record { name = 0; type = 3 } ∷ record { name = 1; type = 1 } ∷ []) ∷ []);
      predicates = file.predicates;
      nodes = file.nodes;
      bindings = file.bindings;
      hoisted = [];
      fetched = [];
      constraints = [];
      comparisons = [];
      levels = file.levels;
    }

-- a prefix and then a text
abbrev pub prefix_then_text : Tables
prefix_then_text = one 4 (Node.Prefix 0 ∷ Node.Str 0 ∷ Node.Record (field 0 0 ∷ field 1 1 ∷ []) ∷ []) 2 [] []

-- the first field is passed over, the second is a text
abbrev pub second_text : Tables
second_text = one 4 (Node.Str 0 ∷ Node.Record (field 1 0 ∷ []) ∷ []) 1 [] []

-- a name that is at most a, and at most b
abbrev pub two_comparisons : Tables
two_comparisons =
    one 1 (Node.Var 6 ∷ Node.Str 0 ∷ Node.Var 6 ∷ Node.Str 1 ∷ Node.Var 6 ∷ []) 4 []
    (record { op = CompareOp.Le; left = 0; right = 1 } ∷ record { op = CompareOp.Le; left = 2; right = 3 } ∷ [])

abbrev pub mistakes : List Shown
mistakes =
    loses part_after_the_fall second_text (pair b a) ∷
    loses closer_forgotten union_then_text (Value.Rec (Value.Uni 7 (Value.Str a) and Value.Str a and Values.no_more)) ∷
    loses skip_keeps_building second_text (pair b a) ∷
    adds skip_keeps_building second_text (pair a b) ∷
    adds last_comparison two_comparisons (Value.Str b) ∷
    loses prefix_as_part prefix_then_text (pair ab a) ∷ []

-- these files meet the conditions of the claim
abbrev pub shown_files : List Tables
shown_files = second_text ∷ union_then_text ∷ two_comparisons ∷ prefix_then_text ∷ []

unfoldable pub open_mistakes : Unit {0}
unfolding open_exact shows agrees
open_mistakes = tt
