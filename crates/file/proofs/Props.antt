-- That the index finds the records of a file is a fact without content: any two proofs of it are equal. A struct may carry it.
use Prim.Native.Nat.{ℕ}
use mathlib.Core.List.{List, []}
use mathlib.Core.Path.{◌≡◌, ap, sym, ◌∙◌}
use mathlib.Core.HLevel.{Σ_prop_path}
use mathlib.Core.Sum.{⊎_set}
use Rattle.std.proofs.Props.{props}
use Rattle.rules.specs.File.{Tables, Ty, Node, Slot, Predicate}
use Rattle.rules.specs.Read.{Read, Reader}
use Rattle.rules.specs.Read.Read.{got, refused}
use Rattle.file.specs.Steps.{read_at}
use Rattle.file.specs.Tables.{Stands, Section, Indexed}

ty-set : IsSet Ty
ty-set = Prim.hlevel (⊎_set, props)

node-set : IsSet Node
node-set = Prim.hlevel (⊎_set, props)

slot-set : IsSet Slot
slot-set = Prim.hlevel (⊎_set, props)

predicate-set : IsSet Predicate
predicate-set = Prim.hlevel (⊎_set, props)

tables-set : IsSet Tables
tables-set = Prim.hlevel (ty-set, node-set, slot-set, predicate-set, ⊎_set, props)

read-set : {A : Type 0} → IsSet A → IsSet (Read A)
read-set s = Prim.hlevel (⊎_set, props, s)

abbrev rest_of : {A : Type 0} → Read A → List ℕ
rest_of (got a rest) = rest
rest_of (refused n) = []

Stands-prop : {A : Type 0} → IsSet A → (f : List ℕ) (r : Reader A) (p : ℕ) (a : A) (x y : Stands f r p a) → x ≡ y
Stands-prop s f r p a x y =
    ap (λ (w : (rest : List ℕ) × (read_at f r p ≡ Read.got a rest)). record { rest = w.0; reads = w.1 })
    (Σ_prop_path {B = λ (rest : List ℕ). read_at f r p ≡ Read.got a rest} (λ rest. read-set s _ _) {u = (x.rest, x.reads)} {v = (y.rest, y.reads)} e)
  where
    e : x.rest ≡ y.rest
    e = ap rest_of (sym x.reads ∙ y.reads)

Section-prop : {A : Type 0} → IsSet A → (f ix : List ℕ) (n : ℕ) (r : Reader A) (xs : List A) → IsProp (Section f ix n r xs)
Section-prop s f ix n r xs = Prim.hlevel (Stands-prop s, props)

pub Indexed-prop : (f ix : List ℕ) → IsProp (Indexed f ix)
Indexed-prop f ix = Prim.hlevel (Section-prop, read-set, tables-set, ty-set, node-set, slot-set, predicate-set, ⊎_set, props)
