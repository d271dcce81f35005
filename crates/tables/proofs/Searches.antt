-- Searches in a run of records, and what the number of a name's last binding tells.
use Prim.Native.Nat.{ℕ, suc, ◌+◌, ◌-◌, ◌≤◌, ◌<◌}
use mathlib.Core.Path.{◌≡◌, refl, sym, ap, ◌∙◌, subst}
use mathlib.Core.Bool.{Bool, true, false, not}
use mathlib.Core.List.{List, [], ◌∷◌}
use Rattle.std.specs.Prelude.{Option, None, Some, unwrap_or}
use native.Mathlib.Nat.{zero-add}
use native.Mathlib.Omega.{arith}
use lib.Dec.{eqb}
use lib.ListN.{length, get_or}
use borrow.Author.Tests.{ne_eqb}
use Rattle.rules.specs.Base.{Each, more, first, last_or, ◌when_some◌}
use Rattle.rules.specs.File.{Tables, Binding, Slot, node_at, var_name}
use Rattle.rules.specs.File as File
use Rattle.rules.specs.Constant as Constant
use Rattle.rules.specs.Constant.{field_pattern, lookup, const_node, const_bound, const_of, stands_for}
use Rattle.rules.specs.Checks.{is_name, binding_in}
use Rattle.rules.proofs.Cases.{ltb-lt, both_left}
use Rattle.rules.proofs.Choices.{by-test₂}
use Rattle.rules.proofs.Each.{each-imply}
use Rattle.rules.proofs.Sound.{Passed, numbers-in}
use Rattle.file.specs.Tables.{last_from, last_binding}
use Rattle.file.specs.Sections as Sections
use Rattle.views.specs.Views.{run, start_at, binding_view, slot_viewed, binding_at, SeenBinding}
use Rattle.accepted_file.specs.AcceptedFile.{flag}
use Rattle.tables.specs.Tables.{bound_in, SeenSlot}
use Rattle.tables.proofs.Firsts.{first_given, where-passes, first-record}
use Rattle.tables.proofs.Tags.{no_const}
use Rattle.views.specs.declared.BindingView.{BindingView}
use Rattle.views.specs.declared.SlotView.{SlotView}
use Rattle.views.specs.declared.SlotView.TheVariants as Sv
use Rattle.views.specs.contracts.SlotView as SlotViews
use types.Run.{OneOf}
use denote.Enum.Declared.{tag_of}

-- The searches for a name among records, as a list of them is searched.
abbrev pub named : ℕ → File.FieldPattern → Bool
named x f = eqb f.name x

abbrev pub called : ℕ → File.Alternative → Bool
called x a = eqb a.name x

pub first-pattern : (g : ℕ → File.FieldPattern) (at n x : ℕ) → first_given (where-passes (named x) (λ _ f. f.node) g 4 at) n 0 ≡ field_pattern (run g 4 n at) x
unfolding field_pattern first ◌when_some◌
first-pattern g at n x = first-record (named x) (λ _ f. f.node) g 4 at (λ _ fs. field_pattern fs x) (λ _. refl) (λ k f fs. go f fs (named x f)) n
  where
    go : (f : File.FieldPattern) (fs : List File.FieldPattern) (b : Bool)
        → elim b as (λ _. Option ℕ) [ true ↦ Some f.node | false ↦ field_pattern fs x ] ≡ (elim b as (λ _. Option File.FieldPattern) [ true ↦ Some f | false ↦ first (named x) fs ] when_some λ f. Some f.node)
    go f fs true = refl
    go f fs false = refl

pub first-alternative : (g : ℕ → File.Alternative) (at n x : ℕ) → first_given (where-passes (called x) (λ _ a. a) g 8 at) n 0 ≡ Constant.alternative_of (run g 8 n at) x
unfolding Constant.alternative_of first
first-alternative g at n x = first-record (called x) (λ _ a. a) g 8 at (λ _ xs. Constant.alternative_of xs x) (λ _. refl) (λ k a xs. refl) n

-- The last binding of a name, by the number that the index has for it.
abbrev no_binding : Binding
no_binding = record { name = 0; slot = Slot.Const 0 }

-- n is 0 where nothing was found, else 1 + the number of what was found among the bindings bs
abbrev Told : List Binding → ℕ → Option Binding → Type 0
Told bs n None = n ≡ 0
Told bs n (Some b) = (0 < n) × (n - 1 < length bs) × (b ≡ get_or bs (n - 1) no_binding)

-- the bindings from number k on
told-from : (all : List Binding) (x : ℕ) (bs : List Binding) (k n : ℕ) (o : Option Binding) → k + length bs ≤ length all → ((j : ℕ) → j < length bs → get_or all (k + j) no_binding ≡ get_or bs j no_binding) → Told all n o
    → Told all (last_from n k bs x) (last_or o (λ b. eqb b.name x) bs)
unfolding last_from last_or
told-from all x [] k n o h g t = t
told-from all x (b ∷ bs) k n o h g t =
    by-test₂ (Told all) (eqb b.name x)
    (λ q. told-from all x bs (k + 1) (k + 1) (Some b) (omega arith) rest (omega arith, omega arith, here))
    (λ q. told-from all x bs (k + 1) n o (omega arith) rest t)
  where
    rest : (j : ℕ) → j < length bs → get_or all (k + 1 + j) no_binding ≡ get_or bs j no_binding
    rest j l = let e : k + 1 + j ≡ k + suc j = omega arith in ap (λ (i : ℕ). get_or all i no_binding) e ∙ g (suc j) (omega arith)

    here : b ≡ get_or all (k + 1 - 1) no_binding
    here = let e : k + 0 ≡ k + 1 - 1 = omega arith in sym (g 0 (omega arith)) ∙ ap (λ (i : ℕ). get_or all i no_binding) e

none_named : (bs : List Binding) (x : ℕ) → Each (λ b. eqb b.name x ≡ false) bs → last_or None (λ b. eqb b.name x) bs ≡ None
unfolding last_or
none_named [] x h = refl
none_named (b ∷ bs) x (more e h) =
    ap (λ (t : Bool). elim t as (λ _. Option Binding) [ true ↦ last_or (Some b) (λ b. eqb b.name x) bs | false ↦ last_or None (λ b. eqb b.name x) bs ]) e ∙ none_named bs x h

module _ (T : Tables) (x : ℕ) where
  abbrev last : Option Binding
  last = last_or None (λ b. eqb b.name x) T.bindings

  told : (n : ℕ) → n ≡ last_binding T x → Told T.bindings n last
  unfolding last_binding
  told n e =
      subst (λ (i : ℕ). Told T.bindings i last) (sym e)
      (told-from T.bindings x T.bindings 0 0 None (omega arith) (λ j l. ap (λ (i : ℕ). get_or T.bindings i no_binding) (zero-add j)) refl)

  -- a name that is none of the file's
  unnamed : Passed T → length T.names ≤ x → last ≡ None
  unfolding binding_in is_name
  unnamed k h =
      none_named T.bindings x
      (each-imply (λ b e. let l : b.name < length T.names = ltb-lt _ _ (both_left (is_name T b.name) _ e) in ne_eqb b.name x (λ q. omega arith)) (numbers-in T k).bindings)

  pub no_name : Passed T → length T.names ≤ x → None ≡ lookup T.bindings x
  unfolding lookup ◌when_some◌
  no_name k h = sym (ap (λ (o : Option Binding). o when_some λ b. Some b.slot) (unnamed k h))

  pub no_last : Passed T → length T.names ≤ x → last_binding T x ≡ 0
  no_last k h = subst (Told T.bindings (last_binding T x)) (unnamed k h) (told (last_binding T x) refl)

  pub last_none : (n : ℕ) → n ≡ last_binding T x → n ≡ 0 → None ≡ lookup T.bindings x
  unfolding lookup ◌when_some◌
  last_none n e z = go last (told n e)
    where
      go : (o : Option Binding) → Told T.bindings n o → None ≡ (o when_some λ b. Some b.slot)
      go None t = refl
      go (Some b) t = absurd (omega (arith, t.0))

  pub last_some : (n : ℕ) → n ≡ last_binding T x → (n ≡ 0 → ⊥) → (n - 1 < length T.bindings) × (Some (binding_at T (n - 1)).slot ≡ lookup T.bindings x)
  unfolding lookup binding_at ◌when_some◌
  last_some n e z = go last (told n e)
    where
      go : (o : Option Binding) → Told T.bindings n o → (n - 1 < length T.bindings) × (Some (get_or T.bindings (n - 1) no_binding).slot ≡ (o when_some λ b. Some b.slot))
      go None t = absurd (z t)
      go (Some b) t = (t.1, ap (λ (b : Binding). Some b.slot) (sym t.2))

-- the binding that was found, as its view has it
pub last-slot : (f : List ℕ) (o : Option Slot) (b : Binding) (v : BindingView) → SeenBinding f b v → Some b.slot ≡ o → SeenSlot f o (Some v.slot)
last-slot f o b v s e = record { is = ap (λ (b : Binding). Some b.slot) s.is ∙ e; inside = s.inside }

-- the same by the number that the index has
module _ (f ix : List ℕ) (n m : ℕ) (e : n ≡ m) where
  pub bound-none : n ≡ 0 → None ≡ bound_in f ix m
  bound-none z = ap (bound_in f ix) (sym z ∙ e)

  pub bound_some : (v : BindingView) → (n ≡ 0 → ⊥) → v ≡ binding_view f (start_at ix Sections.bindings (n - 1)) → Some v.slot ≡ bound_in f ix m
  bound_some v z g =
      let s : suc (n - 1) ≡ n = omega arith in
      ap (λ (b : BindingView). Some b.slot) g ∙ ap (bound_in f ix) (s ∙ e)

-- the Const of the slot that was found
module _ (f : List ℕ) (o : Option Slot) (r : Option SlotView) (s : SeenSlot f o r) where
  pub const-none : r ≡ None → None ≡ (o when_some const_node)
  unfolding ◌when_some◌
  const-none e = ap (λ (q : Option Slot). q when_some const_node) (subst (SeenSlot f o) e s).is

  pub const-is : (v : SlotView) → r ≡ Some v → (m : ℕ) → v ≡ Sv.Const m → Some m ≡ (o when_some const_node)
  unfolding ◌when_some◌ const_node
  const-is v e m d = ap (λ (w : SlotView). const_node (slot_viewed f w)) (sym d) ∙ ap (λ (q : Option Slot). q when_some const_node) (subst (SeenSlot f o) e s).is

  pub const-not : (v : SlotView) → r ≡ Some v → OneOf (0 ∷ 1 ∷ 2 ∷ 3 ∷ 4 ∷ []) (tag_of SlotViews.the_type v) → None ≡ (o when_some const_node)
  unfolding ◌when_some◌
  const-not v e w = sym (no_const f v w) ∙ ap (λ (q : Option Slot). q when_some const_node) (subst (SeenSlot f o) e s).is

-- what a node stands for
module _ (T : Tables) (n : ℕ) where
  pub stands_self : None ≡ var_name (node_at T n) → n ≡ stands_for T n
  unfolding stands_for const_of ◌when_some◌
  stands_self e = ap (λ (o : Option ℕ). unwrap_or (o when_some λ x. lookup T.bindings x when_some const_node) n) e

  pub stands-bound : (x : ℕ) (o : Option ℕ) → Some x ≡ var_name (node_at T n) → o ≡ const_bound T.bindings x → unwrap_or o n ≡ stands_for T n
  unfolding stands_for const_of ◌when_some◌
  stands-bound x o e b = ap (λ (q : Option ℕ). unwrap_or q n) b ∙ ap (λ (o : Option ℕ). unwrap_or (o when_some λ x. lookup T.bindings x when_some const_node) n) e

-- a flag that was read
pub flag-read : {n : ℕ} (b : Bool) → n ≡ flag b → not (eqb n 0) ≡ b
flag-read true e = ap (λ (k : ℕ). not (eqb k 0)) e
flag-read false e = ap (λ (k : ℕ). not (eqb k 0)) e
