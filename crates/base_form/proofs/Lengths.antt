-- The base's form is shorter by two bytes for each node, and by nothing else.
use mathlib.Core.List.{List, [], ◌∷◌, ◌++◌}
use Rattle.std.specs.Prelude.{Option, None, Some}
use mathlib.Core.Path.{◌≡◌}
use Prim.Native.Nat.{ℕ, ◌+◌, ◌*◌}
use native.Mathlib.Omega.{arith}
use lib.ListN.{length, length-append}
use Rattle.rules.specs.Base.{concat_map}
use Rattle.rules.specs.Placement.{Part, Residual, Guide, SeekKey}
use Rattle.rules.specs.Plan.{PlanLevel, Plan, plan_bytes}
use Rattle.rules.specs.Plan as Plan
use Rattle.rules.specs.Demand3.{number, seek_range, seek_nodes}
use Rattle.rules.proofs.AddsUp.{nodes-count}
use Rattle.base_form.specs.BaseForm.{base_part, base_seek, base_guide, base_residual, base_level, base_plan, level_nodes, nodes}

two : (n : ℕ) → length (Plan.u16 n) ≡ 2
unfolding Plan.u16
two n = omega arith

-- items that are each longer by a node
each-longer : {A : Type 0} (f g : A → List ℕ) → ((x : A) → length (f x) ≡ length (g x) + 2) → (xs : List A) → length (concat_map f xs) ≡ length (concat_map g xs) + 2 * length xs
unfolding concat_map
each-longer f g h [] = omega arith
each-longer f g h (x ∷ xs) =
    omega (arith, h x, each-longer f g h xs, length-append (f x) (concat_map f xs), length-append (g x) (concat_map g xs))

part-longer : (p : Part) → length (Plan.part p) ≡ length (base_part p) + 2
unfolding Plan.part base_part
part-longer p = omega (arith, length-append (Plan.part_key p.key) (Plan.u16 p.node), two p.node)

parts-longer : (parts : List Part) → length (concat_map Plan.part parts) ≡ length (concat_map base_part parts) + 2 * length parts
parts-longer parts = each-longer Plan.part base_part part-longer parts

residual-longer : (r : Residual) → length (Plan.residual r) ≡ length (base_residual r) + 2
unfolding Plan.residual base_residual
residual-longer r = omega (arith, length-append (Plan.path r.path ++ Plan.op r.op) (Plan.u16 r.node), two r.node)

numbers-length : (ns : List ℕ) → length (concat_map Plan.u16 ns) ≡ 2 * length ns
unfolding concat_map
numbers-length [] = omega arith
numbers-length (n ∷ ns) = omega (arith, two n, numbers-length ns, length-append (Plan.u16 n) (concat_map Plan.u16 ns))

seek-longer : (s : SeekKey) → length (Plan.seek s) ≡ length (base_seek s) + 2 * (length (seek_nodes s) + number (seek_range s))
unfolding Plan.seek base_seek seek_nodes seek_range number
seek-longer (SeekKey.Prefix bytes ns) = omega (arith, numbers-length ns, length-append (Plan.text bytes) (concat_map Plan.u16 ns))
seek-longer (SeekKey.Composite parts) = omega (arith, parts-longer parts, nodes-count parts)
seek-longer (SeekKey.PrefixRange parts range) =
    let long = concat_map Plan.part parts in
    let short = concat_map base_part parts in
    let prefix = Plan.text range.prefix in
    let path = Plan.path range.path in
    let node = Plan.u16 range.node in
    omega (
      arith,
      parts-longer parts,
      nodes-count parts,
      two range.node,
      length-append long prefix,
      length-append (long ++ prefix) path,
      length-append (long ++ prefix ++ path) node,
      length-append short prefix,
      length-append (short ++ prefix) path,
    )
seek-longer (SeekKey.Bounded parts lo hi) =
    let long = concat_map Plan.part parts in
    let short = concat_map base_part parts in
    omega (
      arith,
      parts-longer parts,
      nodes-count parts,
      length-append long (Plan.edge lo),
      length-append (long ++ Plan.edge lo) (Plan.edge hi),
      length-append short (Plan.edge lo),
      length-append (short ++ Plan.edge lo) (Plan.edge hi),
    )

guide-longer : (g : Option Guide) → length (Plan.guide g) ≡ length (base_guide g) + 2 * number g
unfolding Plan.guide base_guide number
guide-longer None = omega arith
guide-longer (Some g) =
    let that = Plan.path g.path ++ Plan.fuzzy g.term g.distance g.anchor in
    omega (arith, two g.node, length-append that (Plan.u16 g.node))

level-longer : (l : PlanLevel) → length (Plan.level_bytes l) ≡ length (base_level l) + 2 * level_nodes l
unfolding Plan.level_bytes base_level level_nodes Plan.counted
level-longer l =
    simp length-append
    (omega (arith, seek-longer l.seek, guide-longer l.guide, each-longer Plan.residual base_residual residual-longer l.residuals))

levels-longer : (ls : List PlanLevel) → length (concat_map Plan.level_bytes ls) ≡ length (concat_map base_level ls) + 2 * nodes ls
unfolding concat_map nodes
levels-longer [] = omega arith
levels-longer (l ∷ ls) =
    omega (arith, level-longer l, levels-longer ls, length-append (Plan.level_bytes l) (concat_map Plan.level_bytes ls), length-append (base_level l) (concat_map base_level ls))

-- of a whole plan
pub plan-longer : (p : Plan) → length (plan_bytes p) ≡ length (base_plan p) + 2 * nodes p.levels
unfolding plan_bytes base_plan Plan.counted
plan-longer p = simp length-append (omega (arith, levels-longer p.levels))
