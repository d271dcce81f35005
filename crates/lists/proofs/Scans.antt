-- A binding where the tables lead for a name: that it is read there, that it has the name, and its slot.
use Prim.Native.Nat.{ℕ, ◌+◌, ◌≤◌, ◌<◌}
use mathlib.Core.Path.{◌≡◌, refl, sym, ap, ◌∙◌, subst}
use mathlib.Core.Bool.{true, false}
use mathlib.Core.List.{List, []}
use native.Mathlib.Omega.{arith}
use borrow.Author.Tests.{lt-ltb, le-ltb}
use lib.Dec.{eqb, ltb}
use lib.ListN.{length, drop, length-drop, drop_of_length-le}
use Rattle.rules.specs.Base.{◌when_some◌}
use Rattle.rules.specs.File.{Slot, Binding}
use Rattle.rules.specs.Read as Read
use Rattle.rules.specs.Read.{pure, follow, u16, u8, slot, binding}
use Rattle.rules.specs.Read.Read.{got, refused}
use Rattle.rules.proofs.Cases.{pick, true≢false}
use Rattle.state.specs.State.{number_at, place_at, word_in, slot_named, made_slot}
use Rattle.file.specs.Steps.{word, read_at, step_at}
use Rattle.file.proofs.Readers.{bind_inv, needs-fixed, needs-first, fixed-u16}
use Rattle.file.proofs.Suffix.{Ended, ended, faulted, suffix-binding, suffix-slot, suffix-one}
use Rattle.file.proofs.Sections.{word-then}
use Rattle.views.proofs.Runs.{value_of, needs-room}
use Rattle.views.proofs.Entries.{kind-found}
use Rattle.views.proofs.Slots.{BindingRead}
use Rattle.tables.specs.Tables.{SeenSlot}
use Rattle.views.specs.Views.{slot_view, slot_viewed, SlotInside}
use Rattle.views.specs.declared.SlotView.{SlotView}
use Rattle.lists.specs.Lists.{binding_read, binding_at, slot_at, slot_from, end_of, is_named, named_at, made_place, view_at, Readable, FoundReads, SeenAt, SeenView}
use Rattle.std.specs.Prelude.{Result, Ok, Err, Option, None, Some}

-- a binding that was read at p: its name, then its slot
pub binding-read : (f : List ℕ) (p : ℕ) (b : Binding) (rest : List ℕ) → read_at f binding p ≡ got b rest → BindingRead f p b
unfolding binding read_at pure slot
binding-read f p b rest e =
    let m : p + 2 ≤ length f = needs-room f 2 p (omega arith) (needs-first 2 _ (needs-fixed 2 fixed-u16)) e in
    let v = bind_inv slot _ (drop (p + 2) f) _ rest (sym (word-then f p _ m) ∙ e) in
    record { room = m; value = v.value; rest = v.after; is = value_of refl v.then; kinded = kind-found f _ (p + 2) v.value v.after v.first }

-- the view of a binding's slot
module _ (f : List ℕ) (p : ℕ) (x : Readable f p) where
  abbrev pub there : BindingRead f p x.value
  there = binding-read f p x.value x.rest x.reads

  pub seen-view : (v : SlotView) → slot_viewed f v ≡ there.value → SlotInside f v → SeenView f (slot_from f p) v
  unfolding slot_at binding_at ◌when_some◌
  seen-view v e i =
      record {
        is = ap Some (e ∙ ap (λ (b : Binding). b.slot) there.is) ∙ sym (ap (λ (r : Read.Read Binding). binding_read r when_some λ b. Some b.slot) x.reads);
        inside = i;
      }

-- what was found, as a view
module _ (f : List ℕ) (o : Option Slot) (r : Option ℕ) (s : SeenAt f o r) where
  pub found-reads : (p : ℕ) → r ≡ Some p → Readable f p
  found-reads p e = subst (FoundReads f) e s.reads

  pub found-slot : (p : ℕ) (v : SlotView) → r ≡ Some p → SeenView f (slot_from f p) v → SeenSlot f o (Some v)
  found-slot p v e w = record { is = w.is ∙ ap (slot_at f) (sym e) ∙ s.is; inside = w.inside }

  pub found_none : r ≡ None → SeenSlot f o None
  unfolding slot_at binding_at ◌when_some◌
  found_none e = record { is = ap (slot_at f) (sym e) ∙ s.is; inside = tt }

-- and as the view of its place
module _ (f : List ℕ) (r last : Option ℕ) (e : r ≡ last) where
  pub view-found : (p : ℕ) (v : SlotView) → r ≡ Some p → v ≡ slot_view f (p + 2) → Some v ≡ view_at f last
  unfolding view_at
  view-found p v g h = ap Some h ∙ ap (view_at f) (sym g ∙ e)

  pub view-none : r ≡ None → None ≡ view_at f last
  unfolding view_at
  view-none g = ap (view_at f) (sym g ∙ e)

-- it ends past its name
pub past-name : (f : List ℕ) (p q : ℕ) (b : Binding) → p ≤ length f → q ≤ length f → read_at f binding p ≡ got b (drop q f) → p + 2 ≤ q
unfolding binding read_at
past-name f p q b h k e =
    let m : p + 2 ≤ length f = needs-room f 2 p (omega arith) (needs-first 2 _ (needs-fixed 2 fixed-u16)) e in
    let s = (suffix-one {B = Binding} (λ (s : Slot). record { name = word f p; slot = s }) suffix-slot).left (drop (p + 2) f) b (drop q f) (sym (word-then f p _ m) ∙ e) in
    let l : length (drop q f) ≡ length (drop s.skipped (drop (p + 2) f)) = ap length s.is in
    omega (arith, length-drop q f, length-drop s.skipped (drop (p + 2) f), length-drop (p + 2) f, s.within)

nothing_read : Read.binding [] ≡ refused 3
unfolding binding u16 u8 Read.◌>>=◌ follow
nothing_read = refl

-- Whether a binding of the name x stands at p.
module _ (f : List ℕ) (p x : ℕ) where
  named-as : (r : Read.Read Binding) → read_at f binding p ≡ r → is_named x r ≡ named_at f p x
  unfolding named_at
  named-as r e = sym (ap (is_named x) e)

  -- none past the end
  pub named_past : length f < p → false ≡ named_at f p x
  unfolding is_named read_at
  named_past h = named-as (refused 3) (ap Read.binding (drop_of_length-le f {i = p} (omega arith)) ∙ nothing_read)

  module _ (h : p ≤ length f) (q : ℕ) (e : q ≡ end_of (step_at f binding p)) where
    -- none that is read
    pub named_none : q ≡ 0 → false ≡ named_at f p x
    unfolding is_named read_at end_of
    named_none z = go (step_at f binding p) refl e
      where
        go : (r : Result ℕ ℕ) → step_at f binding p ≡ r → q ≡ end_of r → false ≡ named_at f p x
        go (Ok y) g o =
            let n = ended f binding p y suffix-binding h g in
            absurd (omega (arith, o, z, past-name f p y n.value h n.within n.is))
        go (Err k) g o = named-as (refused k) (faulted f binding p k g)

    module _ (z : q ≡ 0 → ⊥) where
      stands : Ended f binding p q
      unfolding end_of
      stands = go (step_at f binding p) refl e
        where
          go : (r : Result ℕ ℕ) → step_at f binding p ≡ r → q ≡ end_of r → Ended f binding p q
          go (Ok y) g o = ended f binding p q suffix-binding h (g ∙ ap Ok (sym o))
          go (Err k) g o = absurd (z o)

      pub name-inside : p + 2 ≤ length f
      name-inside = omega (arith, stands.within, past-name f p q stands.value h stands.within stands.is)

      -- one: the word there is its name
      pub named-word : eqb (word f p) x ≡ named_at f p x
      unfolding is_named read_at
      named-word = ap (λ (b : Binding). eqb b.name x) (binding-read f p stands.value (drop q f) stands.is).is ∙ named-as (got stands.value (drop q f)) stands.is

-- Where the tables lead for the name x; n and p are what the code finds there.
module _ (f : List ℕ) (count x n : ℕ) (en : n ≡ word_in f (number_at x)) where
  abbrev pub Place : Option ℕ → Type 0
  Place r = SeenAt f (made_slot f count x) r × (r ≡ made_place f count x)

  -- no binding's number
  pub place-past : count ≤ n → Place None
  unfolding made_slot made_place slot_at binding_at ◌when_some◌
  place-past h =
      let no : ltb (word_in f (number_at x)) count ≡ false = le-ltb (word_in f (number_at x)) count (omega arith) in
      (record { is = sym (pick (ltb (word_in f (number_at x)) count) false _ None no); reads = tt }, sym (pick (ltb (word_in f (number_at x)) count) false _ None no))

  module _ (p : ℕ) (ep : p ≡ word_in f (place_at n)) (l : n < count) where
    there-is : word_in f (place_at (word_in f (number_at x))) ≡ p
    there-is = ap (λ (k : ℕ). word_in f (place_at k)) (sym en) ∙ sym ep

    slot_is : made_slot f count x ≡ slot_named x (read_at f Read.binding p)
    unfolding made_slot read_at
    slot_is =
        pick (ltb (word_in f (number_at x)) count) true _ None (lt-ltb (word_in f (number_at x)) count (omega arith))
        ∙ ap (λ (k : ℕ). slot_named x (Read.binding (drop k f))) there-is

    place_is : made_place f count x ≡ (elim (named_at f p x) as (λ _. Option ℕ) [ true ↦ Some p | false ↦ None ])
    unfolding made_place
    place_is =
        pick (ltb (word_in f (number_at x)) count) true _ None (lt-ltb (word_in f (number_at x)) count (omega arith))
        ∙ ap (λ (k : ℕ). elim (named_at f k x) as (λ _. Option ℕ) [ true ↦ Some k | false ↦ None ]) there-is

    -- a binding of the name, and one of another or none
    pub place_here : named_at f p x ≡ true → Place (Some p)
    unfolding named_at is_named slot_named slot_at binding_at ◌when_some◌
    place_here t = (go (read_at f Read.binding p) refl t, sym (place_is ∙ pick (named_at f p x) true (Some p) None t))
      where
        go : (r : Read.Read Binding) → read_at f Read.binding p ≡ r → is_named x r ≡ true → SeenAt f (made_slot f count x) (Some p)
        go (got b rest) e s =
            record {
              is = ap (λ (r : Read.Read Binding). binding_read r when_some λ b. Some b.slot) e ∙ sym (slot_is ∙ ap (slot_named x) e ∙ pick (eqb b.name x) true (Some b.slot) None s);
              reads = record { value = b; rest = rest; reads = e };
            }
        go (refused k) e s = absurd (true≢false (sym s))

    pub place_none : named_at f p x ≡ false → Place None
    unfolding named_at is_named slot_named slot_at binding_at ◌when_some◌
    place_none t = (go (read_at f Read.binding p) refl t, sym (place_is ∙ pick (named_at f p x) false (Some p) None t))
      where
        go : (r : Read.Read Binding) → read_at f Read.binding p ≡ r → is_named x r ≡ false → SeenAt f (made_slot f count x) None
        go (got b rest) e s = record { is = sym (slot_is ∙ ap (slot_named x) e ∙ pick (eqb b.name x) false (Some b.slot) None s); reads = tt }
        go (refused k) e s = record { is = sym (slot_is ∙ ap (slot_named x) e); reads = tt }
