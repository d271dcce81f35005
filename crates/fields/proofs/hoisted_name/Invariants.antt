use mathlib.Core.Path.{◌≡◌}
use Prim.Native.Nat.{◌≤◌}
use lib.ListN.{length}
use Rattle.file.specs.Tables.{tables_of}
use Rattle.fields.specs.Found.{hoisted_name}
use Rattle.fields.proofs.Searches.{hoisted_from}
use Rattle.fields.proofs.hoisted_name.Given as goal

abbrev pub invariant-loop-k : goal.invariant-loop-k
invariant-loop-k l = (l.n ≡ length (tables_of l.file.bytes.now).hoisted) × (l.k ≤ l.n) × (hoisted_name (tables_of l.file.bytes.now) l.node ≡ hoisted_from (tables_of l.file.bytes.now) l.node l.k)
