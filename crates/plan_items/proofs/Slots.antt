-- Numbers, slots, new bindings, selects and diagnostics: what was found says how many bytes there are, and what they are read as.
use Rattle.paths.specs.declared.PredicateId.{PredicateId}
use Prim.Native.Nat.{ℕ, zero, suc, ◌+◌, ◌≤◌, ◌<◌}
use mathlib.Core.Path.{◌≡◌, refl, sym, ap, ◌∙◌}
use mathlib.Core.List.{List, [], ◌∷◌}
use Rattle.std.specs.Prelude.{Option}
use native.Mathlib.Omega.{arith}
use lib.ListN.{length, get_or, drop}
use Rattle.rules.specs.File.{Slot}
use Rattle.rules.specs.Read.{Reader, pure, refuse, u16, u32, optional, kind, row_slot, key_slot, derived_slot, value_slot, const_slot}
use Rattle.rules.specs.Read.Read.{got}
use Rattle.rules.specs.Reader as Reader
use Rattle.rules.specs.Events.{Code}
use Rattle.file.specs.Steps.{word, read_at}
use Rattle.file.proofs.Readers.{refused-got, then-got, kind-in, needs-fixed, needs-first, fixed-u16, fixed-u32}
use Rattle.file.proofs.Leaves.{slot-fixed}
use Rattle.file.proofs.Sections.{word_in, word-then}
use Rattle.views.specs.Views.{long, path_at, or_none, predicate_maybe, predicate_option}
use Rattle.views.proofs.Runs.{needs-room, long-in, optional-in, one_in, two_in}
use Rattle.views.proofs.Entries.{predicate-option}
use Rattle.plan_form.specs.Places.{Found}
use Rattle.plan_items.specs.Items.{code_of}
use Rattle.plan_items.proofs.Founds.{found_first, found-then, word-inside, word-found, kind-inside, kind-known, kind-then, kind-reads}

-- a number
module _ (f : List ℕ) (p : ℕ) (x : Found f u16 p) where
  pub number-inside : p + 2 ≤ length f
  number-inside = needs-room f 2 p (omega arith) (needs-fixed 2 fixed-u16) x.reads

  pub number-reads : (n : ℕ) → n ≡ word f p → read_at f u16 p ≡ got n (drop (p + 2) f)
  number-reads n e = rw e (word_in f p number-inside)

-- a Field slot after its kind
module _ (f : List ℕ) (p : ℕ) (x : Found f Reader.field_slot p) where
  pub field-address : p + 2 ≤ length f
  unfolding Reader.field_slot
  field-address = word-inside f _ p x

  pub field-path : Found f Reader.path (p + 2)
  unfolding Reader.field_slot
  field-path = found_first f Reader.path _ (p + 2) (word-found f _ p x)

  module _ (q : ℕ) (g : read_at f Reader.path (p + 2) ≡ got (path_at f (p + 2)) (drop q f)) where
    pub field-type : q + 2 ≤ length f
    unfolding Reader.field_slot
    field-type = word-inside f _ q (found-then f Reader.path _ (p + 2) (word-found f _ p x) (path_at f (p + 2)) q g)

    pub field-reads : (a t : ℕ) → a ≡ word f p → t ≡ word f q → read_at f Reader.field_slot p ≡ got (Slot.Field a (path_at f (p + 2)) t) (drop (q + 2) f)
    unfolding Reader.field_slot
    field-reads a t u v =
        rw (u, v) (word-then f p _ field-address ∙ then-got f Reader.path _ (p + 2) (path_at f (p + 2)) q g ∙ one_in f q (Slot.Field (word f p) (path_at f (p + 2))) field-type)

-- a slot by its kind
abbrev slot_readers : List (Reader Slot)
slot_readers = row_slot ∷ key_slot ∷ derived_slot ∷ Reader.field_slot ∷ value_slot ∷ const_slot ∷ []

module _ (f : List ℕ) (p : ℕ) (x : Found f Reader.slot p) where
  pub slot-inside : p < length f
  unfolding Reader.slot
  slot-inside = kind-inside f slot_readers p x

  pub slot-known : get_or f p 0 < 6
  unfolding Reader.slot
  slot-known = kind-known f slot_readers p x

  pub row_room : get_or f p 0 ≡ 0 → p + 1 + 4 ≤ length f
  unfolding Reader.slot
  row_room e = needs-room f 4 (p + 1) (omega arith) (needs-fixed 4 (slot-fixed 0 (omega arith) (λ z. omega arith))) (kind-then f slot_readers p x 0 e).reads

  pub slot_row : (a : ℕ) (m : Option PredicateId) → get_or f p 0 ≡ 0 → a ≡ word f (p + 1) → m ≡ predicate_maybe (word f (p + 1 + 2)) → read_at f Reader.slot p ≡ got (Slot.Row a (predicate_option m)) (drop (p + 1 + 4) f)
  unfolding Reader.slot row_slot read_at pure
  slot_row a m e u v =
      let h : p + 1 + 2 + 2 ≡ p + 1 + 4 = omega arith in
      kind-reads f slot_readers p x 0 e (Slot.Row a (predicate_option m)) (p + 1 + 4)
      (word-then f (p + 1) _ (omega (arith, row_room e))
      ∙ then-got f optional _ (p + 1 + 2) (or_none (word f (p + 1 + 2))) (p + 1 + 2 + 2) (optional-in f (p + 1 + 2) (omega (arith, row_room e)))
      ∙ ap (λ (j : ℕ). got (Slot.Row (word f (p + 1)) (or_none (word f (p + 1 + 2)))) (drop j f)) h
      ∙ ap (λ (o : Option ℕ). got (Slot.Row (word f (p + 1)) o) (drop (p + 1 + 4) f)) (sym (ap predicate_option v ∙ predicate-option (word f (p + 1 + 2))))
      ∙ ap (λ (j : ℕ). got (Slot.Row j (predicate_option m)) (drop (p + 1 + 4) f)) (sym u))

  pub key-room : get_or f p 0 ≡ 1 → p + 1 + 4 ≤ length f
  unfolding Reader.slot
  key-room e = needs-room f 4 (p + 1) (omega arith) (needs-fixed 4 (slot-fixed 1 (omega arith) (λ z. omega arith))) (kind-then f slot_readers p x 1 e).reads

  pub slot-key : (a t : ℕ) → get_or f p 0 ≡ 1 → a ≡ word f (p + 1) → t ≡ word f (p + 1 + 2) → read_at f Reader.slot p ≡ got (Slot.Key a t) (drop (p + 1 + 4) f)
  unfolding Reader.slot key_slot
  slot-key a t e u v = rw (u, v) (kind-reads f slot_readers p x 1 e _ (p + 1 + 4) (two_in f (p + 1) Slot.Key (key-room e)))

  pub derived-room : get_or f p 0 ≡ 2 → p + 1 + 2 ≤ length f
  unfolding Reader.slot
  derived-room e = needs-room f 2 (p + 1) (omega arith) (needs-fixed 2 (slot-fixed 2 (omega arith) (λ z. omega arith))) (kind-then f slot_readers p x 2 e).reads

  pub slot-derived : (a : ℕ) → get_or f p 0 ≡ 2 → a ≡ word f (p + 1) → read_at f Reader.slot p ≡ got (Slot.Derived a) (drop (p + 1 + 2) f)
  unfolding Reader.slot derived_slot
  slot-derived a e u = rw u (kind-reads f slot_readers p x 2 e _ (p + 1 + 2) (one_in f (p + 1) Slot.Derived (derived-room e)))

  pub field_found : get_or f p 0 ≡ 3 → Found f Reader.field_slot (p + 1)
  unfolding Reader.slot
  field_found e = kind-then f slot_readers p x 3 e

  pub slot-field : (s : Slot) (q : ℕ) → get_or f p 0 ≡ 3 → read_at f Reader.field_slot (p + 1) ≡ got s (drop q f) → read_at f Reader.slot p ≡ got s (drop q f)
  unfolding Reader.slot
  slot-field s q e g = kind-reads f slot_readers p x 3 e s q g

  pub value_room : get_or f p 0 ≡ 4 → p + 1 + 4 ≤ length f
  unfolding Reader.slot
  value_room e = needs-room f 4 (p + 1) (omega arith) (needs-fixed 4 (slot-fixed 4 (omega arith) (λ z. omega arith))) (kind-then f slot_readers p x 4 e).reads

  pub slot-value : (a t : ℕ) → get_or f p 0 ≡ 4 → a ≡ word f (p + 1) → t ≡ word f (p + 1 + 2) → read_at f Reader.slot p ≡ got (Slot.Value a t) (drop (p + 1 + 4) f)
  unfolding Reader.slot value_slot
  slot-value a t e u v = rw (u, v) (kind-reads f slot_readers p x 4 e _ (p + 1 + 4) (two_in f (p + 1) Slot.Value (value_room e)))

  pub const-room : get_or f p 0 ≡ 5 → p + 1 + 2 ≤ length f
  unfolding Reader.slot
  const-room e = needs-room f 2 (p + 1) (omega arith) (needs-fixed 2 (slot-fixed 5 (omega arith) (λ z. omega arith))) (kind-then f slot_readers p x 5 e).reads

  pub slot-const : (n : ℕ) → get_or f p 0 ≡ 5 → n ≡ word f (p + 1) → read_at f Reader.slot p ≡ got (Slot.Const n) (drop (p + 1 + 2) f)
  unfolding Reader.slot const_slot
  slot-const n e u = rw u (kind-reads f slot_readers p x 5 e _ (p + 1 + 2) (one_in f (p + 1) Slot.Const (const-room e)))

-- a new binding
module _ (f : List ℕ) (p : ℕ) (x : Found f Reader.binding p) where
  pub binding-inside : p + 2 ≤ length f
  unfolding Reader.binding
  binding-inside = word-inside f _ p x

  pub binding-slot : Found f Reader.slot (p + 2)
  unfolding Reader.binding
  binding-slot = found_first f Reader.slot _ (p + 2) (word-found f _ p x)

  pub binding-reads : (n : ℕ) (s : Slot) (q : ℕ) → n ≡ word f p → read_at f Reader.slot (p + 2) ≡ got s (drop q f) → read_at f Reader.binding p ≡ got (record { name = n; slot = s }) (drop q f)
  unfolding Reader.binding read_at pure
  binding-reads n s q u g = rw u (word-then f p _ binding-inside ∙ then-got f Reader.slot _ (p + 2) s q g)

-- a select
module _ (f : List ℕ) (p : ℕ) (x : Found f Reader.select p) where
  pub select-address : p + 2 ≤ length f
  unfolding Reader.select
  select-address = word-inside f _ p x

  pub select-path : Found f Reader.path (p + 2)
  unfolding Reader.select
  select-path = found_first f Reader.path _ (p + 2) (word-found f _ p x)

  module _ (q : ℕ) (g : read_at f Reader.path (p + 2) ≡ got (path_at f (p + 2)) (drop q f)) where
    pub select-disc : q + 4 ≤ length f
    unfolding Reader.select
    select-disc = needs-room f 4 q (omega arith) (needs-first 4 _ (needs-fixed 4 fixed-u32)) (found-then f Reader.path _ (p + 2) (word-found f _ p x) (path_at f (p + 2)) q g).reads

    pub select-reads : (a d : ℕ) → a ≡ word f p → d ≡ long f q → read_at f Reader.select p ≡ got (record { address = a; path = path_at f (p + 2); disc = d }) (drop (q + 4) f)
    unfolding Reader.select read_at pure
    select-reads a d u v =
        rw (u, v) (word-then f p _ select-address ∙ then-got f Reader.path _ (p + 2) (path_at f (p + 2)) q g ∙ then-got f u32 _ q (long f q) (q + 4) (long-in f q select-disc))

-- a diagnostic
abbrev code_readers : List (Reader Code)
code_readers =
    refuse 5 ∷ pure Code.NyiDisjunction ∷ pure Code.NyiFactField ∷ pure Code.NyiNever ∷ pure Code.NyiRepeatedVariable ∷
    pure Code.NyiValueField ∷ pure Code.NyiValueMatch ∷ pure Code.NyiWholeKey ∷ pure Code.RejectTypeMismatch ∷
    pure Code.RejectUnionArity ∷ pure Code.RejectUnknownAlternative ∷ pure Code.RejectUnresolvedAccess ∷ []

code-known : (k : ℕ) → 0 < k → k < 12 → get_or code_readers k (refuse 5) ≡ pure (code_of k)
unfolding code_of
code-known zero h g = absurd (omega arith)
code-known (suc zero) h g = refl
code-known (suc (suc zero)) h g = refl
code-known (suc (suc (suc zero))) h g = refl
code-known (suc (suc (suc (suc zero)))) h g = refl
code-known (suc (suc (suc (suc (suc zero))))) h g = refl
code-known (suc (suc (suc (suc (suc (suc zero)))))) h g = refl
code-known (suc (suc (suc (suc (suc (suc (suc zero))))))) h g = refl
code-known (suc (suc (suc (suc (suc (suc (suc (suc zero)))))))) h g = refl
code-known (suc (suc (suc (suc (suc (suc (suc (suc (suc zero))))))))) h g = refl
code-known (suc (suc (suc (suc (suc (suc (suc (suc (suc (suc zero)))))))))) h g = refl
code-known (suc (suc (suc (suc (suc (suc (suc (suc (suc (suc (suc zero))))))))))) h g = refl
code-known (suc (suc (suc (suc (suc (suc (suc (suc (suc (suc (suc (suc k)))))))))))) h g = absurd (omega arith)

module _ (f : List ℕ) (p : ℕ) (x : Found f Reader.diagnostic p) where
  code-found : Found f (kind code_readers) (p + 2)
  unfolding Reader.diagnostic Reader.code
  code-found = found_first f Reader.code _ (p + 2) (word-found f _ p x)

  node-inside : p + 2 ≤ length f
  unfolding Reader.diagnostic
  node-inside = word-inside f _ p x

  pub diagnostic-room : p + 3 ≤ length f
  diagnostic-room = omega (arith, kind-inside f code_readers (p + 2) code-found)

  code-above : 0 < get_or f (p + 2) 0
  unfolding refuse read_at
  code-above = go (get_or f (p + 2) 0) refl
    where
      go : (k : ℕ) → get_or f (p + 2) 0 ≡ k → 0 < k
      go zero e = absurd (refused-got (kind-then f code_readers (p + 2) code-found 0 e).reads)
      go (suc k) e = omega arith

  pub diagnostic-reads : (n : ℕ) → n ≡ word f p → read_at f Reader.diagnostic p ≡ got (record { node = n; code = code_of (get_or f (p + 2) 0) }) (drop (p + 3) f)
  unfolding Reader.diagnostic Reader.code read_at pure
  diagnostic-reads n u =
      let e : p + 2 + 1 ≡ p + 3 = omega arith in
      rw u (word-then f p _ node-inside
      ∙ then-got f (kind code_readers) _ (p + 2) (code_of (get_or f (p + 2) 0)) (p + 2 + 1)
      (kind-in f (p + 2) code_readers (kind-inside f code_readers (p + 2) code-found)
      ∙ ap (λ (r : Reader Code). r (drop (p + 2 + 1) f)) (code-known (get_or f (p + 2) 0) code-above (kind-known f code_readers (p + 2) code-found)))
      ∙ ap (λ (j : ℕ). got (record { node = word f p; code = code_of (get_or f (p + 2) 0) }) (drop j f)) e)
