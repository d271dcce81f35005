-- Request [1]: the readers that the walk over a plan goes by, where the written rules have no name for them.
use Rattle.std.specs.Prelude.{ℕ, zero, suc, List, Result, Ok, Err}
use Rattle.rules.specs.Read.{Reader, ◌>>=◌, pure, u16}
use Rattle.rules.specs.Reader.{counted, text, path, binding, select, diagnostic, part, edge, guide, residual}
use Rattle.file.specs.Steps.{step_at, skim}
use Rattle.plan_form.specs.declared.Kind.{Kind}
use Rattle.plan_form.specs.declared.Kind.TheVariants as Kinds

-- where what reader r reads behind an item ends; a fault of the item stays one
unfoldable pub then_at : {A : Type 0} → List ℕ → Reader A → Result ℕ ℕ → Result ℕ ℕ
then_at f r (Ok q) = step_at f r q
then_at f r (Err x) = Err x

-- where n steps end, each from where the one before it ended; the first fault stays one
unfoldable pub run : (ℕ → Result ℕ ℕ) → ℕ → ℕ → Result ℕ ℕ
run step zero p = Ok p
run step (suc n) p = elim (step p) [ Ok q ↦ run step n q | Err x ↦ Err x ]

-- what is read of an item that holds no list of its own
unfoldable pub item_of : Kind → Reader (Unit {0})
item_of Kinds.Part = skim part
item_of Kinds.Residual = skim residual
item_of Kinds.Binding = skim binding
item_of Kinds.Select = skim select
item_of Kinds.Diagnostic = skim diagnostic

-- after the parts: "for 2 the prefix text and its path" with the range's node, "for 3 lo and hi"
unfoldable pub range : Reader (Unit {0})
range = do
  prefix ← text
  p ← path
  n ← u16
  pure tt

unfoldable pub edges : Reader (Unit {0})
edges = do
  lo ← edge
  hi ← edge
  pure tt

-- a level after its guide: "Residuals, counted", "Folded, counted"; and after its seek
unfoldable pub after_guide : Reader (Unit {0})
after_guide = do
  rs ← counted residual
  fs ← counted u16
  pure tt

unfoldable pub after_seek : Reader (Unit {0})
after_seek = do
  g ← guide
  after_guide
