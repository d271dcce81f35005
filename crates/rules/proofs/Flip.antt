-- Request [5]: the flip by its formula and the flip by a table agree on all four ops, and every plan keeps its bytes.
use mathlib.Core.Bool.{true, false}
use mathlib.Core.List.{List, [], ◌∷◌}
use Rattle.std.specs.Prelude.{Option, None, Some}
use mathlib.Core.Path.{◌≡◌, refl, sym, ap, ap₂, ◌∙◌, fun_ext}
use Prim.Native.Nat.{ℕ, suc}
use lib.Dec.{leb}
use lib.ListN.{length}
use Rattle.rules.specs.Base.{◌when_some◌ as ◌>>=◌}
use Rattle.rules.specs.Limits.{file_limit, work_limit}
use Rattle.rules.specs.File.{Tables, CompareOp, Comparison, LevelEntry, op_of_number, op_number}
use Rattle.rules.specs.Read.{Read, got, file}
use Rattle.rules.specs.Checks.{checks, fault}
use Rattle.rules.specs.Constant.{bytes_only, constant}
use Rattle.rules.specs.Events.{Event, Lists, Walk}
use Rattle.rules.specs.Walk.{walk_level}
use Rattle.rules.specs.Placement
use Rattle.rules.specs.Placement.{Edges, SeekBuilder, new, with_edges, fall, place_narrowing, place_closer, flipped, Compared, is_var, take_edge, Sided}
use Rattle.rules.specs.Levels
use Rattle.rules.specs.Levels.{Level, starting, left_by, any_mistyped}
use Rattle.rules.specs.Plan
use Rattle.rules.specs.Plan.{Plan, plan_of, plan_bytes}
use Rattle.rules.specs.Compile
use Rattle.rules.specs.Compile.{Outcome, written, Compiled, compiled}

-- document 01: "`flipped` is a table of four"
unfoldable pub flipped_by_table : CompareOp → CompareOp
flipped_by_table CompareOp.Lt = CompareOp.Gt
flipped_by_table CompareOp.Le = CompareOp.Ge
flipped_by_table CompareOp.Gt = CompareOp.Lt
flipped_by_table CompareOp.Ge = CompareOp.Le

-- "Show that both agree on all four ops"
pub flips-agree : (op : CompareOp) → flipped op ≡ flipped_by_table op
unfolding flipped flipped_by_table op_of_number op_number
flips-agree CompareOp.Lt = refl
flips-agree CompareOp.Le = refl
flips-agree CompareOp.Gt = refl
flips-agree CompareOp.Ge = refl

-- The rules from a comparison up to the call, line by line as Placement, Levels, Plan and Compile have them, but for `flip` where
-- `compared` has `flipped`.
module _ (flip : CompareOp → CompareOp) where
  unfoldable pub compared : Tables → ℕ → Comparison → Option Compared
  compared T x c =
      elim (is_var T x c.left) [
        | true ↦ Some (record { op = c.op; node = c.right })
        | false ↦ elim (is_var T x c.right) [
          | true ↦ Some (record { op = flip c.op; node = c.left })
          | false ↦ None
        ]
      ]

  unfoldable pub sided : Tables → ℕ → ℕ → Comparison → Option Sided
  sided T x t c = do
    other ← compared T x c
    constant' ← constant T other.node t
    value ← bytes_only constant'
    Some (record { op = other.op; value = value })

  unfoldable pub fold_from : Tables → ℕ → ℕ → ℕ → List Comparison → Edges → Edges
  fold_from T x t i [] e = e
  fold_from T x t i (c ∷ cs) e = fold_from T x t (suc i) cs (elim (sided T x t c) [ None ↦ e | Some s ↦ take_edge i s.op s.value e ])

  unfoldable pub place_bound : Tables → ℕ → ℕ → SeekBuilder → SeekBuilder
  place_bound T x t b = elim b.building [ true ↦ with_edges (fold_from T x t 0 T.comparisons b.edges) b | false ↦ b ]

  unfoldable pub place : Tables → Event → SeekBuilder → SeekBuilder
  place T (Event.narrow n path x) b = place_narrowing n path x b
  place T Event.skip b = fall b
  place T (Event.closer n) b = place_closer n b
  place T (Event.bound x t) b = place_bound T x t b

  unfoldable pub place_all : Tables → List Event → SeekBuilder → SeekBuilder
  place_all T [] b = b
  place_all T (e ∷ es) b = place_all T es (place T e b)

  unfoldable pub level_of : Tables → Lists → Walk → Level
  level_of T start w =
      record { start = start; left = w.lists; events = w.events; built = place_all T w.events new; mistyped = w.mistyped }

  unfoldable pub level : Tables → LevelEntry → Lists → Level
  level T entry start = level_of T start (walk_level T entry start)

  unfoldable pub levels_from : Tables → Lists → List LevelEntry → List Level
  levels_from T start [] = []
  levels_from T start (entry ∷ entries) =
      let l = level T entry start in
      l ∷ levels_from T l.left entries

  unfoldable pub levels : Tables → List Level
  levels T = levels_from T (starting T) T.levels

  unfoldable pub plan : Tables → Plan
  plan T = plan_of T (levels T) (left_by (starting T) (levels T))

  unfoldable pub walked : ℕ → Tables → Outcome
  walked room T = elim (any_mistyped (levels T)) [ true ↦ Outcome.refused 19 | false ↦ written room (plan_bytes (plan T)) ]

  unfoldable pub checked : ℕ → Tables → Option ℕ → Outcome
  checked room T (Some n) = Outcome.refused n
  checked room T None = walked room T

  unfoldable pub reading : ℕ → Read Tables → Outcome
  reading room (Read.refused n) = Outcome.refused n
  reading room (got T rest) = checked room T (fault checks T)

  unfoldable pub outcome : List ℕ → ℕ → ℕ → Outcome
  outcome bytes room area =
      elim (leb (length bytes) file_limit) [
        | false ↦ Outcome.refused 1
        | true ↦ elim (leb work_limit area) [
          | false ↦ Outcome.refused 2
          | true ↦ reading room (file bytes)
        ]
      ]

  unfoldable pub compile : List ℕ → List ℕ → List ℕ → Compiled
  compile bytes plan' work = compiled (outcome bytes (length plan') (length work)) (length plan') (length work)

-- with the formula they are the rules themselves
fold_is : (T : Tables) (x t i : ℕ) (cs : List Comparison) (e : Edges) → fold_from flipped T x t i cs e ≡ Placement.fold_from T x t i cs e
unfolding compared sided fold_from Placement.compared Placement.sided Placement.fold_from
fold_is T x t i [] e = refl
fold_is T x t i (c ∷ cs) e = fold_is T x t (suc i) cs _

place_is : (T : Tables) (e : Event) (b : SeekBuilder) → place flipped T e b ≡ Placement.place T e b
unfolding place_bound place Placement.place_bound Placement.place
place_is T (Event.narrow n path x) b = refl
place_is T Event.skip b = refl
place_is T (Event.closer n) b = refl
place_is T (Event.bound x t) b =
    ap (λ (edges : Edges). elim b.building [ true ↦ with_edges edges b | false ↦ b ]) (fold_is T x t 0 T.comparisons b.edges)

place-all-is : (T : Tables) (es : List Event) (b : SeekBuilder) → place_all flipped T es b ≡ Placement.place_all T es b
unfolding place_all Placement.place_all
place-all-is T [] b = refl
place-all-is T (e ∷ es) b = ap (place_all flipped T es) (place_is T e b) ∙ place-all-is T es (Placement.place T e b)

levels-is : (T : Tables) (start : Lists) (entries : List LevelEntry) → levels_from flipped T start entries ≡ Levels.levels_from T start entries
unfolding level_of level levels_from Levels.level_of Levels.level Levels.levels_from
levels-is T start [] = refl
levels-is T start (entry ∷ entries) =
    let w = walk_level T entry start in
    ap₂ (λ (b : SeekBuilder) (ls : List Level). record { start = start; left = w.lists; events = w.events; built = b; mistyped = w.mistyped } ∷ ls)
    (place-all-is T w.events new) (levels-is T w.lists entries)

walked-is : (room : ℕ) (T : Tables) → walked flipped room T ≡ Compile.walked room T
unfolding levels plan walked Levels.levels Plan.plan Compile.walked
walked-is room T =
    ap (λ (ls : List Level). elim (any_mistyped ls) [ true ↦ Outcome.refused 19 | false ↦ written room (plan_bytes (plan_of T ls (left_by (starting T) ls))) ])
    (levels-is T (starting T) T.levels)

checked-is : (room : ℕ) (T : Tables) (o : Option ℕ) → checked flipped room T o ≡ Compile.checked room T o
unfolding checked Compile.checked
checked-is room T (Some n) = refl
checked-is room T None = walked-is room T

reading-is : (room : ℕ) (r : Read Tables) → reading flipped room r ≡ Compile.reading room r
unfolding reading Compile.reading
reading-is room (Read.refused n) = refl
reading-is room (got T rest) = checked-is room T (fault checks T)

outcome-is : (bytes : List ℕ) (room area : ℕ) → outcome flipped bytes room area ≡ Compile.outcome bytes room area
unfolding outcome Compile.outcome
outcome-is bytes room area =
    ap (λ (o : Outcome). elim (leb (length bytes) file_limit) [ false ↦ Outcome.refused 1 | true ↦ elim (leb work_limit area) [ false ↦ Outcome.refused 2 | true ↦ o ] ])
    (reading-is room (file bytes))

pub compile-is : (bytes plan' work : List ℕ) → compile flipped bytes plan' work ≡ Compile.compile bytes plan' work
unfolding compile Compile.compile
compile-is bytes plan' work =
    ap (λ (o : Outcome). compiled o (length plan') (length work)) (outcome-is bytes (length plan') (length work))

-- "every plan keeps its bytes": for every file and whatever is lent, the call with the table returns and leaves what the rules' own does
pub compile-keeps : (bytes plan' work : List ℕ) → Compile.compile bytes plan' work ≡ compile flipped_by_table bytes plan' work
compile-keeps bytes plan' work =
    sym (compile-is bytes plan' work)
    ∙ ap (λ (flip : CompareOp → CompareOp). compile flip bytes plan' work) (fun_ext flips-agree)
