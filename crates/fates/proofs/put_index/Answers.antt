use Prim.Native.Nat.{ℕ}
use mathlib.Core.List.{List, ◌++◌}
use mathlib.Core.Path.{sym, ap, ◌∙◌}
use native.Mathlib.Nat.{zero-add}
use native.Mathlib.Omega.{arith}
use lib.ListN.{length, drop}
use Rattle.std.proofs.lemmas.List.Edits.{sets-eq}
use Rattle.fates.proofs.put_index.Goals as goal

pub returns : goal.returns
returns c =
    let ix = c.args.index.now in
    let long = c.args.long.now in
    ap (λ (l : List ℕ). l ++ drop (length ix) long) c.copy_from_slice.ensures.after
    ∙ ap (λ (k : ℕ). ix ++ drop k long) (sym (zero-add (length ix)))
    ∙ sym (sets-eq ix long 0 (omega (arith, c.requires.0, c.requires.1)))
