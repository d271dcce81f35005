use mathlib.Core.Path.{◌≡◌}
use mathlib.Core.List.{List}
use Prim.Native.Nat.{ℕ}
use Rattle.state.specs.State.{Ends}
use Rattle.file.specs.Tables.{tables_of}
use Rattle.seek.specs.Seek.{state_of}
use Rattle.seek.proofs.Folds.{edged, folding}
use Rattle.seek.proofs.SeekBuilder.bound.Given as goal

abbrev pub invariant-loop-i : goal.invariant-loop-i
invariant-loop-i l = (e : Ends) (w p : List ℕ) → edged (folding (tables_of l.file.tables.bytes.now) l.name l.ty 0) (state_of (tables_of l.file.tables.bytes.now) l.initial.l e w p) ≡ edged (folding (tables_of l.file.tables.bytes.now) l.name l.ty l.i) (state_of (tables_of l.file.tables.bytes.now) l.l e w p)
