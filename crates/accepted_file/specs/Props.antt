-- That a file is accepted is a fact without content: any two proofs of it are equal. A struct may carry it.
use Prim.Native.Nat.{ℕ}
use mathlib.Core.List.{List}
use mathlib.Core.Sum.{⊎_set}
use Rattle.std.proofs.Props.{props}
use Rattle.file.proofs.Props.{Indexed-prop}
use Rattle.accepted_file.specs.AcceptedFile.{AcceptedFile}

pub accepted-prop : (f ix : List ℕ) → IsProp (AcceptedFile f ix)
accepted-prop f ix = Prim.hlevel (Indexed-prop, ⊎_set, props)
