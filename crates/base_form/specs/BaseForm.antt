-- Request [2]: a plan's bytes in document 01's form, with the nodes left out and nothing else: "Runs beside the Rust leave this number
-- aside." Each definition stands beside the one of rules/specs/Plan.antt that has the node.
use Rattle.std.specs.Prelude.{List, [], ◌∷◌, ◌++◌, ℕ, ◌+◌, length, Option, None, Some}
use Rattle.rules.specs.Base.{concat_map}
use Rattle.rules.specs.Placement.{Part, Residual, Guide, SeekKey}
use Rattle.rules.specs.Plan.{PlanLevel, Plan, u16, counted, text, path, fuzzy, part_key, edge, op, binding, select, diagnostic}
use Rattle.rules.specs.Demand3.{number, seek_range, seek_nodes}

-- "the parts, each u8 0 text, 1 address and path, 2 address"
unfoldable pub base_part : Part → List ℕ
base_part p = part_key p.key

-- "Prefix: text .. Others: the parts ..; then for 2 the prefix text and its path (added), for 3 lo and hi"
unfoldable pub base_seek : SeekKey → List ℕ
base_seek (SeekKey.Prefix bytes nodes) = 0 ∷ text bytes
base_seek (SeekKey.Composite parts) = 1 ∷ concat_map base_part parts
base_seek (SeekKey.PrefixRange parts range) = 2 ∷ concat_map base_part parts ++ text range.prefix ++ path range.path
base_seek (SeekKey.Bounded parts lo hi) = 3 ∷ concat_map base_part parts ++ edge lo ++ edge hi

-- "guide: u8 0, or 1, path, name, distance, anchor"
unfoldable pub base_guide : Option Guide → List ℕ
base_guide None = 0 ∷ []
base_guide (Some g) = 1 ∷ path g.path ++ fuzzy g.term g.distance g.anchor

-- "Residuals, counted: path, u8 op"
unfoldable pub base_residual : Residual → List ℕ
base_residual r = path r.path ++ op r.op

unfoldable pub base_level : PlanLevel → List ℕ
base_level l =
    u16 l.narrowings ++ u16 l.closers ++ u16 l.parts ++ base_seek l.seek ++ base_guide l.guide ++
    counted base_residual l.residuals ++ counted u16 l.folded

unfoldable pub base_plan : Plan → List ℕ
base_plan p =
    counted base_level p.levels ++ counted binding p.bindings ++ counted u16 p.constrained ++ counted select p.selects ++
    counted diagnostic p.diagnostics

-- how many nodes a level has, and all levels of a plan
unfoldable pub level_nodes : PlanLevel → ℕ
level_nodes l = length (seek_nodes l.seek) + number (seek_range l.seek) + number l.guide + length l.residuals

unfoldable pub nodes : List PlanLevel → ℕ
nodes [] = 0
nodes (l ∷ ls) = level_nodes l + nodes ls

unfoldable pub open_base_form : Unit {0}
unfolding base_part base_seek base_guide base_residual base_level base_plan level_nodes nodes
open_base_form = tt
