-- The bindings and fetched entries of an accepted file, and the views that they give.
use Prim.Native.Nat.{ℕ, zero, suc, ◌+◌, ◌*◌, ◌≤◌, ◌<◌}
use mathlib.Core.Path.{◌≡◌, refl, sym, ap, ◌∙◌}
use mathlib.Core.List.{List, []}
use native.Mathlib.Omega.{arith}
use lib.ListN.{length, get_or, drop}
use Rattle.rules.specs.File as File
use Rattle.rules.specs.File.{Slot}
use Rattle.rules.specs.Read.{Reader, ◌>>=◌, pure, refuse, u16, optional, path, slot, row_slot, key_slot, derived_slot, field_slot, value_slot, const_slot, binding, fetched}
use Rattle.rules.specs.Read.Read.{got}
use Rattle.file.specs.Steps.{word, read_at, base_of}
use Rattle.file.specs.Tables.{Indexed, tables_of}
use Rattle.file.proofs.Readers.{bind_inv, then-got, needs-fixed, needs-first, fixed-bind, fixed-pure, fixed-u16, fixed-optional}
use Rattle.file.proofs.Leaves.{slot_readers}
use Rattle.file.proofs.Sections.{word-then}
use Rattle.views.specs.Views.{byte_at, path_at, past_path, or_none, slot_views, slot_view, binding_view, fetched_view, slot_viewed, SlotInside, PathInside, SeenBinding, SeenFetched, binding_at, fetched_at}
use Rattle.views.specs.declared.SlotView.{SlotView}
use Rattle.views.specs.declared.SlotView.TheVariants as Sv
use Rattle.views.specs.declared.BindingView.{BindingView}
use Rattle.views.specs.declared.FetchedView.{FetchedView}
use Rattle.views.proofs.Runs.{value_of, needs-room, one_in, two_in, optional-in, path-then}
use Rattle.views.proofs.Entries.{stands_at, Kinded, kind-found, kind-is}

-- an address, a path and a number that were read
pub record Reached {A : Type 0} (f : List ℕ) (make : ℕ → File.FieldPath → ℕ → A) (p : ℕ) (a : A) : Type 0 where
  pub first : p + 2 ≤ length f
  pub path : PathInside f (p + 2)
  pub last : p + 2 + 3 + 4 * get_or f (p + 2 + 2) 0 + 2 ≤ length f
  pub is : make (word f p) (path_at f (p + 2)) (word f (p + 2 + 3 + 4 * get_or f (p + 2 + 2) 0)) ≡ a

pub reached : {A : Type 0} (f : List ℕ) (make : ℕ → File.FieldPath → ℕ → A) (p : ℕ) (a : A) (rest : List ℕ) → read_at f (u16 >>= λ b. path >>= λ q. u16 >>= λ t. pure (make b q t)) p ≡ got a rest → Reached f make p a
unfolding PathInside
reached f make p a rest e =
    let m : p + 2 ≤ length f = needs-room f 2 p (omega arith) (needs-first 2 _ (needs-fixed 2 fixed-u16)) e in
    let w = path-then f (λ q. u16 >>= λ t. pure (make (word f p) q t)) (p + 2) a rest (sym (word-then f p _ m) ∙ e) in
    let l = needs-room f 2 (p + 2 + 3 + 4 * get_or f (p + 2 + 2) 0) (omega arith) (needs-first 2 _ (needs-fixed 2 fixed-u16)) w.then in
    record { first = m; path = w.room; last = l; is = value_of (one_in f _ (make (word f p) (path_at f (p + 2))) l) w.then }

-- fetched entry t, which starts at p
pub fetched-here : (f ix : List ℕ) (x : Indexed f ix) (t p : ℕ) → t < length (tables_of f).fetched → p ≡ get_or ix (base_of 6 + 1 + t) 0
    → Reached f (λ (a : ℕ) (q : File.FieldPath) (r : ℕ). record { address = a; path = q; register = r }) p (fetched_at (tables_of f) t)
unfolding fetched_at fetched
fetched-here f ix x t p h e =
    let y = stands_at x.fetched t p (record { address = 0; path = record { field = 0; steps = [] }; register = 0 }) h e in
    reached f _ p _ y.rest y.reads

pub seen-fetched : (f : List ℕ) (p : ℕ) (b : File.Fetched) (a r : ℕ) → Reached f (λ (a : ℕ) (q : File.FieldPath) (r : ℕ). record { address = a; path = q; register = r }) p b
    → a ≡ word f p → r ≡ word f (p + 2 + 3 + 4 * get_or f (p + 2 + 2) 0) → SeenFetched f b (record { address = record { 0 = a }; path = p + 2; register = record { 0 = r } })
seen-fetched f p b a r x u v = record { is = rw (u, v) x.is; inside = x.path }

-- and it is the view of that entry
pub shown-fetched : (f : List ℕ) (p q a r : ℕ) → p ≡ q → a ≡ word f p → r ≡ word f (past_path f (p + 2)) → ◌≡◌ {A = FetchedView} (record { address = record { 0 = a }; path = p + 2; register = record { 0 = r } }) (fetched_view f q)
unfolding fetched_view
shown-fetched f p q a r e u v =
    ap (λ (j : ℕ). record { address = record { 0 = j }; path = p + 2; register = record { 0 = r } }) u
    ∙ ap (λ (j : ℕ). record { address = record { 0 = word f p }; path = p + 2; register = record { 0 = j } }) v
    ∙ ap (fetched_view f) e

-- a slot of kind k is the view of that slot
pub shown-slot : (f : List ℕ) (p k : ℕ) (s : SlotView) → get_or f p 0 ≡ k → s ≡ get_or (slot_views f (p + 1)) k (Sv.Const 0) → s ≡ slot_view f p
unfolding slot_view byte_at
shown-slot f p k s g h = h ∙ ap (λ (j : ℕ). get_or (slot_views f (p + 1)) j (Sv.Const 0)) (sym g)

-- and a binding with such a slot the view of that binding
pub shown-binding : (f : List ℕ) (p q k w : ℕ) (s : SlotView) → p ≡ q → get_or f (p + 2) 0 ≡ k → w ≡ word f p → s ≡ get_or (slot_views f (p + 2 + 1)) k (Sv.Const 0) → ◌≡◌ {A = BindingView} (record { name = w; slot = s }) (binding_view f q)
unfolding binding_view
shown-binding f p q k w s e g u h =
    ap (λ (j : ℕ). record { name = j; slot = s }) u
    ∙ ap (λ (y : SlotView). record { name = word f p; slot = y }) (shown-slot f (p + 2) k s g h)
    ∙ ap (binding_view f) e

-- binding t, which starts at p: its name, then its slot
pub record BindingRead (f : List ℕ) (p : ℕ) (b : File.Binding) : Type 0 where
  pub room : p + 2 ≤ length f
  pub value : Slot
  pub rest : List ℕ
  pub is : record { name = word f p; slot = value } ≡ b
  pub kinded : Kinded f slot_readers (p + 2) value rest

pub binding-here : (f ix : List ℕ) (x : Indexed f ix) (t p : ℕ) → t < length (tables_of f).bindings → p ≡ get_or ix (base_of 4 + 1 + t) 0 → BindingRead f p (binding_at (tables_of f) t)
unfolding binding_at binding read_at pure slot
binding-here f ix x t p h e =
    let y = stands_at x.bindings t p (record { name = 0; slot = Slot.Const 0 }) h e in
    let m : p + 2 ≤ length f = needs-room f 2 p (omega arith) (needs-first 2 _ (needs-fixed 2 fixed-u16)) y.reads in
    let v = bind_inv slot _ (drop (p + 2) f) _ y.rest (sym (word-then f p _ m) ∙ y.reads) in
    record { room = m; value = v.value; rest = v.after; is = value_of refl v.then; kinded = kind-found f slot_readers (p + 2) v.value v.after v.first }

module _ (f : List ℕ) (p : ℕ) (b : File.Binding) (x : BindingRead f p b) where
  pub seen-binding : (v : BindingView) → v.name ≡ word f p → slot_viewed f v.slot ≡ x.value → SlotInside f v.slot → SeenBinding f b v
  seen-binding v n s i = record { is = ap (λ (j : ℕ). record { name = j; slot = slot_viewed f v.slot }) n ∙ ap (λ (s : Slot). record { name = word f p; slot = s }) s ∙ x.is; inside = i }

  slot_is : (k : ℕ) → get_or f (p + 2) 0 ≡ k → read_at f (get_or slot_readers k (refuse 5)) (p + 2 + 1) ≡ got x.value x.rest
  slot_is k g = kind-is f slot_readers (p + 2) k x.value x.rest x.kinded g

  pub row_here : get_or f (p + 2) 0 ≡ 0 → (p + 2 + 1 + 4 ≤ length f) × (Slot.Row (word f (p + 2 + 1)) (or_none (word f (p + 2 + 1 + 2))) ≡ x.value)
  unfolding row_slot read_at pure
  row_here g =
      let q : ℕ = p + 2 + 1 in
      let m : q + 4 ≤ length f = needs-room f 4 q (omega arith) (needs-fixed 4 (fixed-bind 2 2 fixed-u16 (λ a. fixed-bind 2 0 fixed-optional (λ o. fixed-pure _)))) (slot_is 0 g) in
      (m, value_of (word-then f q _ (omega arith) ∙ then-got f optional _ (q + 2) _ (q + 2 + 2) (optional-in f (q + 2) (omega arith))) (slot_is 0 g))

  -- an address and a type
  pair-here : (k : ℕ) (make : ℕ → ℕ → Slot) → get_or slot_readers k (refuse 5) ≡ (u16 >>= λ a. u16 >>= λ t. pure (make a t)) → get_or f (p + 2) 0 ≡ k → (p + 2 + 1 + 4 ≤ length f) × (make (word f (p + 2 + 1)) (word f (p + 2 + 1 + 2)) ≡ x.value)
  pair-here k make r g =
      let q : ℕ = p + 2 + 1 in
      let s = ap (λ (s : Reader Slot). read_at f s q) (sym r) ∙ slot_is k g in
      let m : q + 4 ≤ length f = needs-room f 4 q (omega arith) (needs-fixed 4 (fixed-bind 2 2 fixed-u16 (λ a. fixed-bind 2 0 fixed-u16 (λ o. fixed-pure _)))) s in
      (m, value_of (two_in f q make m) s)

  pub key_here : get_or f (p + 2) 0 ≡ 1 → (p + 2 + 1 + 4 ≤ length f) × (Slot.Key (word f (p + 2 + 1)) (word f (p + 2 + 1 + 2)) ≡ x.value)
  unfolding key_slot
  key_here g = pair-here 1 Slot.Key refl g

  pub value-here : get_or f (p + 2) 0 ≡ 4 → (p + 2 + 1 + 4 ≤ length f) × (Slot.Value (word f (p + 2 + 1)) (word f (p + 2 + 1 + 2)) ≡ x.value)
  unfolding value_slot
  value-here g = pair-here 4 Slot.Value refl g

  -- one number
  single-here : (k : ℕ) (make : ℕ → Slot) → get_or slot_readers k (refuse 5) ≡ (u16 >>= λ a. pure (make a)) → get_or f (p + 2) 0 ≡ k → (p + 2 + 1 + 2 ≤ length f) × (make (word f (p + 2 + 1)) ≡ x.value)
  single-here k make r g =
      let q : ℕ = p + 2 + 1 in
      let s = ap (λ (s : Reader Slot). read_at f s q) (sym r) ∙ slot_is k g in
      let m : q + 2 ≤ length f = needs-room f 2 q (omega arith) (needs-first 2 _ (needs-fixed 2 fixed-u16)) s in
      (m, value_of (one_in f q make m) s)

  pub derived-here : get_or f (p + 2) 0 ≡ 2 → (p + 2 + 1 + 2 ≤ length f) × (Slot.Derived (word f (p + 2 + 1)) ≡ x.value)
  unfolding derived_slot
  derived-here g = single-here 2 Slot.Derived refl g

  pub const-here : get_or f (p + 2) 0 ≡ 5 → (p + 2 + 1 + 2 ≤ length f) × (Slot.Const (word f (p + 2 + 1)) ≡ x.value)
  unfolding const_slot
  const-here g = single-here 5 Slot.Const refl g

  pub field-here : get_or f (p + 2) 0 ≡ 3 → Reached f Slot.Field (p + 2 + 1) x.value
  unfolding field_slot
  field-here g = reached f Slot.Field (p + 2 + 1) x.value x.rest (slot_is 3 g)

  -- every kind begins with two bytes: an address, or a Const's node
  pub first-here : p + 2 + 1 + 2 ≤ length f
  first-here = go (get_or f (p + 2) 0) refl x.kinded.known
    where
      go : (k : ℕ) → get_or f (p + 2) 0 ≡ k → k < 6 → p + 2 + 1 + 2 ≤ length f
      go zero g h = omega (arith, (row_here g).0)
      go (suc zero) g h = omega (arith, (key_here g).0)
      go (suc (suc zero)) g h = (derived-here g).0
      go (suc (suc (suc zero))) g h = (field-here g).first
      go (suc (suc (suc (suc zero)))) g h = omega (arith, (value-here g).0)
      go (suc (suc (suc (suc (suc zero))))) g h = (const-here g).0
      go (suc (suc (suc (suc (suc (suc k)))))) g h = absurd (omega arith)

  pub field_is : (a t : ℕ) → get_or f (p + 2) 0 ≡ 3 → a ≡ word f (p + 2 + 1) → t ≡ word f (p + 2 + 1 + 2 + 3 + 4 * get_or f (p + 2 + 1 + 2 + 2) 0) → Slot.Field a (path_at f (p + 2 + 1 + 2)) t ≡ x.value
  field_is a t g u v = rw (u, v) (field-here g).is
