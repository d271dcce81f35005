-- What `AcceptedFile` gives, said once for its users.
use Prim.Native.Nat.{ℕ, ◌≤◌}
use mathlib.Core.List.{List}
use lib.ListN.{length}
use Rattle.rules.specs.Limits.{name_limit, type_limit, node_limit, binding_limit, comparison_limit}
use Rattle.rules.proofs.Sound.{Passed, Sound, passed-all, sound}
use Rattle.file.specs.Steps.{limit_of}
use Rattle.file.specs.Tables.{Indexed, tables_of}
use Rattle.accepted_file.specs.AcceptedFile.{AcceptedFile}

module _ (f ix : List ℕ) (i : Indexed f ix) where
  pub few-names : length (tables_of f).names ≤ name_limit
  unfolding limit_of
  few-names = i.names.under

  pub few-types : length (tables_of f).types ≤ type_limit
  unfolding limit_of
  few-types = i.types.under

  pub few-nodes : length (tables_of f).nodes ≤ node_limit
  unfolding limit_of
  few-nodes = i.nodes.under

  pub few-bindings : length (tables_of f).bindings ≤ binding_limit
  unfolding limit_of
  few-bindings = i.bindings.under

  pub few-comparisons : length (tables_of f).comparisons ≤ comparison_limit
  unfolding limit_of
  few-comparisons = i.comparisons.under

pub passed : (f ix : List ℕ) → AcceptedFile f ix → Passed (tables_of f)
passed f ix r = passed-all (tables_of f) r.accepted

pub sound-tables : (f ix : List ℕ) → AcceptedFile f ix → Sound (tables_of f)
sound-tables f ix r = sound (tables_of f) (passed f ix r)
