-- The verdict by cases: the first check that fails, and the index afterwards.
use Prim.Native.Nat.{ℕ}
use mathlib.Core.Path.{◌≡◌, refl, sym, ap, ap₂, ◌∙◌, subst}
use mathlib.Core.Bool.{Bool, true, false}
use mathlib.Core.List.{List, [], ◌∷◌}
use native.Mathlib.Omega.{arith}
use lib.Seq.{sets}
use Rattle.rules.specs.Base.{both}
use Rattle.rules.specs.File.{Tables, depths}
use Rattle.rules.specs.Checks.{Check, fault, numbers_in, children_lower, types_distinct, types_shallow, children_once, consts_constant, paths_fit}
use Rattle.rules.specs.Read.{Read}
use Rattle.rules.specs.Read as Read
use Rattle.file.specs.Steps.{step_at, read_at, index_of, depths_base, constants_base}
use Rattle.file.specs.Tables.{Indexed, tables_of}
use Rattle.std.specs.Prelude.{Result, Ok, Err, OnOk, Option, None, Some}
use Rattle.file.specs.Refusals.{numbered}
use Rattle.file.specs.declared.Refusal.{Refusal}
use Rattle.file.proofs.Suffix.{faulted}
use Rattle.checks.specs.Checked.{flags_of, last_bindings, filled_index, once, marked, Filled, Numbered, Checked, later_checks, verdict_of, later_fault, all_fault, checked_index, read_verdict, file_verdict, read_index, file_index}
use Rattle.checks.proofs.Last.{filled}
use Rattle.checks.proofs.Marks.{once-none, marked-none}

module _ (c : Check) (cs : List Check) (T : Tables) where
  fault-stop : c.passes T ≡ false → fault (c ∷ cs) T ≡ Some c.number
  unfolding fault
  fault-stop e = ap (λ (b : Bool). elim b as (λ _. Option ℕ) [ true ↦ fault cs T | false ↦ Some c.number ]) e

  fault-on : c.passes T ≡ true → fault (c ∷ cs) T ≡ fault cs T
  unfolding fault
  fault-on e = ap (λ (b : Bool). elim b as (λ _. Option ℕ) [ true ↦ fault cs T | false ↦ Some c.number ]) e

  fault-inv : fault (c ∷ cs) T ≡ None → (c.passes T ≡ true) × (fault cs T ≡ None)
  unfolding fault
  fault-inv e = go (c.passes T) refl e
    where
      go : (b : Bool) → c.passes T ≡ b → ◌≡◌ {A = Option ℕ} (elim b as (λ _. Option ℕ) [ true ↦ fault cs T | false ↦ Some c.number ]) None → (c.passes T ≡ true) × (fault cs T ≡ None)
      go true g h = (g, h)
      go false g h = let z : ◌≡◌ {A = ℕ} 0 1 = cc in absurd (omega arith)

fault-none : (T : Tables) → fault [] T ≡ None
unfolding fault
fault-none T = refl

accepted-none : (o : Option ℕ) → verdict_of o ≡ Ok tt → o ≡ None
accepted-none None e = refl
accepted-none (Some n) e = let z : ◌≡◌ {A = ℕ} 0 1 = cc in absurd (omega arith)

module _ (T : Tables) where
  pub later-10 : types_distinct T ≡ false → Err 10 ≡ later_fault T
  unfolding later_fault
  later-10 a = sym (ap verdict_of (fault-stop _ _ T a))

  pub later-11 : types_distinct T ≡ true → types_shallow T ≡ false → Err 11 ≡ later_fault T
  unfolding later_fault
  later-11 a b = sym (ap verdict_of (fault-on _ _ T a ∙ fault-stop _ _ T b))

  pub later-12 : types_distinct T ≡ true → types_shallow T ≡ true → children_once T ≡ false → Err 12 ≡ later_fault T
  unfolding later_fault
  later-12 a b c = sym (ap verdict_of (fault-on _ _ T a ∙ fault-on _ _ T b ∙ fault-stop _ _ T c))

  pub later-13 : types_distinct T ≡ true → types_shallow T ≡ true → children_once T ≡ true → consts_constant T ≡ false → Err 13 ≡ later_fault T
  unfolding later_fault
  later-13 a b c d = sym (ap verdict_of (fault-on _ _ T a ∙ fault-on _ _ T b ∙ fault-on _ _ T c ∙ fault-stop _ _ T d))

  pub later-14 : types_distinct T ≡ true → types_shallow T ≡ true → children_once T ≡ true → consts_constant T ≡ true → paths_fit T ≡ false → Err 14 ≡ later_fault T
  unfolding later_fault
  later-14 a b c d e = sym (ap verdict_of (fault-on _ _ T a ∙ fault-on _ _ T b ∙ fault-on _ _ T c ∙ fault-on _ _ T d ∙ fault-stop _ _ T e))

  pub later-none : types_distinct T ≡ true → types_shallow T ≡ true → children_once T ≡ true → consts_constant T ≡ true → paths_fit T ≡ true → Ok tt ≡ later_fault T
  unfolding later_fault
  later-none a b c d e = sym (ap verdict_of (fault-on _ _ T a ∙ fault-on _ _ T b ∙ fault-on _ _ T c ∙ fault-on _ _ T d ∙ fault-on _ _ T e ∙ fault-none T))

  pub all-8 : numbers_in T ≡ false → Err 8 ≡ all_fault T
  unfolding all_fault
  all-8 a = sym (ap verdict_of (fault-stop _ _ T a))

  pub all-9 : numbers_in T ≡ true → children_lower T ≡ false → Err 9 ≡ all_fault T
  unfolding all_fault
  all-9 a b = sym (ap verdict_of (fault-on _ _ T a ∙ fault-stop _ _ T b))

  pub all-later : numbers_in T ≡ true → children_lower T ≡ true → later_fault T ≡ all_fault T
  unfolding all_fault later_fault
  all-later a b = sym (ap verdict_of (fault-on _ _ T a ∙ fault-on _ _ T b))

  module _ (ix : List ℕ) where
    index-if : (b : Bool) → both (numbers_in T) (children_lower T) ≡ b → elim b as (λ _. List ℕ) [ true ↦ filled_index T ix | false ↦ ix ] ≡ checked_index T ix
    unfolding checked_index
    index-if b e = ap (λ (d : Bool). elim d as (λ _. List ℕ) [ true ↦ filled_index T ix | false ↦ ix ]) (sym e)

    pub index-8 : numbers_in T ≡ false → ix ≡ checked_index T ix
    index-8 a = index-if false (ap (λ (b : Bool). both b (children_lower T)) a)

    pub index-9 : numbers_in T ≡ true → children_lower T ≡ false → ix ≡ checked_index T ix
    index-9 a b = index-if false (ap₂ both a b)

    pub index-filled : numbers_in T ≡ true → children_lower T ≡ true → filled_index T ix ≡ checked_index T ix
    index-filled a b = index-if true (ap₂ both a b)

-- what acceptance says
pub checked : (f ix : List ℕ) → Numbered f ix → later_fault (tables_of f) ≡ Ok tt → Checked f ix
unfolding later_fault
checked f ix x e =
    let T : Tables = tables_of f in
    let a = fault-inv _ _ T (accepted-none (fault later_checks T) e) in
    let b = fault-inv _ _ T a.1 in
    let c = fault-inv _ _ T b.1 in
    let d = fault-inv _ _ T c.1 in
    let g = fault-inv _ _ T d.1 in
    record { numbered = x; distinct = a.0; shallow = b.0; once = c.0; consts = d.0; fit = g.0 }

module _ (f ix jx kx lx : List ℕ) where
  -- the three areas filled, one after another
  pub areas : jx ≡ sets ix depths_base (depths (tables_of f)) → kx ≡ sets jx constants_base (flags_of (tables_of f)) → lx ≡ last_bindings (tables_of f) kx → lx ≡ filled_index (tables_of f) ix
  areas e g h = h ∙ ap (last_bindings (tables_of f)) (g ∙ ap (λ (l : List ℕ). sets l constants_base (flags_of (tables_of f))) e)

pub numbered-so : (f ix lx : List ℕ) → Indexed f ix → numbers_in (tables_of f) ≡ true → children_lower (tables_of f) ≡ true → lx ≡ filled_index (tables_of f) ix → Numbered f lx
numbered-so f ix lx x a b e = record { filled = subst (Filled f) (sym e) (filled f ix x b); numbers = a; lower = b }

pub checked-if : (f ix : List ℕ) (r : Result (Unit {0}) Refusal) → Numbered f ix → numbered r ≡ later_fault (tables_of f) → OnOk r (Checked f ix)
checked-if f ix (Ok u) x e = checked f ix x (sym e)
checked-if f ix (Err n) x e = tt

-- the whole file
module _ (f ix : List ℕ) where
  pub file-read : (jx : List ℕ) (v : Result (Unit {0}) ℕ) → Indexed f jx → jx ≡ index_of f ix → (kx : List ℕ) → v ≡ all_fault (tables_of f) → kx ≡ checked_index (tables_of f) jx → (v ≡ file_verdict f) × (kx ≡ file_index f ix)
  unfolding file_verdict read_verdict file_index read_index
  file-read jx v x e kx g h =
      (g ∙ sym (ap read_verdict x.accepted), h ∙ ap (checked_index (tables_of f)) e ∙ sym (ap (λ (r : Read Tables). read_index r (index_of f ix)) x.accepted))

  pub file-refused : (jx : List ℕ) (n : ℕ) → step_at f Read.file 0 ≡ Err n → jx ≡ index_of f ix → (Err n ≡ file_verdict f) × (jx ≡ file_index f ix)
  unfolding file_verdict read_verdict file_index read_index read_at
  file-refused jx n e g =
      let r : Read.file f ≡ Read.refused n = faulted f Read.file 0 n e in
      (sym (ap read_verdict r), g ∙ sym (ap (λ (y : Read Tables). read_index y (index_of f ix)) r))

-- children that a view names, marked
pub none-marked : (m cs : List ℕ) → [] ≡ cs → (true ≡ once m cs) × (m ≡ marked m cs)
none-marked m cs e = (sym (once-none m) ∙ ap (once m) e, sym (marked-none m) ∙ ap (marked m) e)

pub marked-as : (m x cs ds : List ℕ) (r : Bool) → cs ≡ ds → r ≡ once m cs → x ≡ marked m cs → (r ≡ once m ds) × (x ≡ marked m ds)
marked-as m x cs ds r e g h = (g ∙ ap (once m) e, h ∙ ap (marked m) e)
