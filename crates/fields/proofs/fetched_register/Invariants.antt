use mathlib.Core.Path.{◌≡◌}
use Prim.Native.Nat.{◌≤◌}
use lib.ListN.{length}
use Rattle.file.specs.Tables.{tables_of}
use Rattle.rules.specs.Lookup.{fetched_register}
use Rattle.paths.specs.Paths.{path_of}
use Rattle.fields.proofs.Searches.{fetched_from}
use Rattle.fields.proofs.fetched_register.Given as goal

abbrev pub invariant-loop-i : goal.invariant-loop-i
invariant-loop-i l = (l.n ≡ length (tables_of l.file.bytes.now).fetched) × (l.i ≤ l.n) × (fetched_register (tables_of l.file.bytes.now) l.address.0 (path_of l.path) ≡ fetched_from (tables_of l.file.bytes.now) l.address.0 (path_of l.path) l.i)
