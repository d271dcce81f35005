-- The bindings as they stand: the Rust's `constant` reads at each call what is bound by then, where this document's reads the file's
-- bindings. Here is the walk with the Rust's reading, each event placed as it is met, so that `bound` too asks for its constants with the
-- bindings of the moment; that both give the same levels is proofs/Consts.antt, `levels-now`.
use Rattle.std.specs.Prelude.{List, [], ◌∷◌, ℕ, length, Option}
use Rattle.rules.specs.File.{Tables, Binding, LevelEntry, predicate_at}
use Rattle.rules.specs.Constant.{Const, constant, lookup}
use Rattle.rules.specs.Events.{Event, Lists, Walk, Ops, bind, constrained, select, report, emit, brings}
use Rattle.rules.specs.Walk.{key, fresh_walk}
use Rattle.rules.specs.Placement.{SeekBuilder, new, place}
use Rattle.rules.specs.Levels.{Level, starting}

-- the tables with other bindings in place of the file's
unfoldable pub with_bindings : Tables → List Binding → Tables
with_bindings T bindings =
    record {
      names = T.names;
      types = T.types;
      predicates = T.predicates;
      nodes = T.nodes;
      bindings = bindings;
      hoisted = T.hoisted;
      fetched = T.fetched;
      constraints = T.constraints;
      comparisons = T.comparisons;
      levels = T.levels;
    }

-- `constant` where a Var stands for what it is bound to now
unfoldable pub constant_now : Tables → List Binding → ℕ → ℕ → Option Const
constant_now T bindings n t = constant (with_bindings T bindings) n t

-- a level's walk, and what placement has made of its events so far
pub record Placing : Type 0 where
  pub walk : Walk
  pub built : SeekBuilder

-- an entry more in one of the lists, or a constant noted: nothing is placed
unfoldable pub on_lists : (Walk → Walk) → Placing → Placing
on_lists f s = record { walk = f s.walk; built = s.built }

-- an event is placed when it is met: a comparison's constant (Rust `bound`) is read with what is bound now
unfoldable pub meet : Tables → Event → Placing → Placing
meet T e s = record { walk = emit e s.walk; built = place (with_bindings T s.walk.lists.bindings) e s.built }

-- the walk's operations: `walk_ops` but for `constant`, in the walk and in placement
abbrev pub now_ops : Tables → Ops Placing
now_ops T =
    record {
      lookup = λ s x. lookup s.walk.lists.bindings x;
      constant = λ s n t. constant_now T s.walk.lists.bindings n t;
      reported = λ s. length s.walk.lists.diagnostics;
      bind = λ x slot s. on_lists (bind x slot) s;
      constrained = λ x s. on_lists (constrained x) s;
      select = λ address path disc s. on_lists (select address path disc) s;
      report = λ n code s. on_lists (report n code) s;
      narrow = λ n path x s. meet T (Event.narrow n path x) s;
      skip = λ s. meet T Event.skip s;
      closer = λ n s. meet T (Event.closer n) s;
      bound = λ x t s. meet T (Event.bound x t) s;
      brings = λ slot ty s. on_lists (brings T slot ty) s;
    }

-- one level's walk and placement, and the list of levels
unfoldable pub walk_now : Tables → LevelEntry → Lists → Placing
walk_now T l lists =
    let start : Placing = record { walk = fresh_walk lists; built = new } in
    key (now_ops T) T l.address l.node (predicate_at T l.predicate).key start

unfoldable pub level_now : Lists → Placing → Level
level_now start s =
    record { start = start; left = s.walk.lists; events = s.walk.events; built = s.built; mistyped = s.walk.mistyped }

unfoldable pub levels_now_from : Tables → Lists → List LevelEntry → List Level
levels_now_from T start [] = []
levels_now_from T start (entry ∷ entries) =
    let l = level_now start (walk_now T entry start) in
    l ∷ levels_now_from T l.left entries

unfoldable pub levels_now : Tables → List Level
levels_now T = levels_now_from T (starting T) T.levels

unfoldable pub open_now : Unit {0}
unfolding with_bindings constant_now on_lists meet walk_now level_now levels_now_from levels_now
open_now = tt
