-- Every slot that a read gives has room for the steps below its type.
use mathlib.Core.Bool.{true}
use mathlib.Core.List.{List}
use Rattle.std.specs.Prelude.{Option, None, Some}
use mathlib.Core.Path.{◌≡◌, refl, sym, ap, ◌∙◌, subst}
use mathlib.Core.Logic.{⊎_elim}
use Prim.Native.Nat.{ℕ, zero, suc, ◌<◌}
use lib.ListN.{length, get_or-eq_default}
use Rattle.rules.specs.Base.{◌when_some◌}
use Rattle.rules.specs.Limits.{step_limit}
use Rattle.rules.specs.File.{Tables, Alternative, Ty, Node, FieldPath, Slot, type_at, predicate_at, node_at, is_constant, fact_ty, record_ty, union_ty, field_path, then, payload}
use Rattle.rules.specs.Checks.{is_type}
use Rattle.rules.specs.Constant.{alternative_of}
use Rattle.rules.specs.Lookup.{FieldAt, field_of, slot_at, row_field, row_value, folded_field, folded_slot, hoisted_slot, fetched_register}
use Rattle.rules.specs.Events.{Code, Ops}
use Rattle.rules.specs.Resolve.{Answer, Resolver, follow, ◌when_found◌, give, declined, fetched_row, dereference, field_of_row, field_slot, value_slot, selected, select_slot, resolve_node, resolve_below, resolve}
use Rattle.rules.proofs.Cases.{by-test, by-option, some≢none, some-injective, leb-le, ltb-lt, both_left, both_right, bind-some}
use Rattle.rules.proofs.Each.{each_first}
use Rattle.rules.proofs.Sound.{Child, Sound}
use Rattle.rules.proofs.Grown.{holds-further}
use Rattle.rules.proofs.Keeps.{field-child, union-children, fits-field, fits-then}
use Rattle.file.proofs.Readers.{lt-or-le}
use Rattle.state.specs.State.{State}
use Rattle.state.specs.Ops as State
use Rattle.slots.specs.Slots.{PathRoom, SlotRoom}
use Rattle.resolve.specs.Resolved.{read_slot, read_past}
use Rattle.resolve.specs.declared.Read.{Read}
use Rattle.resolve.specs.declared.Read.TheVariants.{Key, Value, Select}

-- a slot that was tested
tested-room : (T : Tables) (s : Slot) → State.roomy T s ≡ true → SlotRoom T s
unfolding State.roomy is_type
tested-room T (Slot.Row a p) h = tt
tested-room T (Slot.Key a t) h = tt
tested-room T (Slot.Derived a) h = tt
tested-room T (Slot.Field a p t) h = record { known = ltb-lt _ _ (both_left (is_type T t) _ h); short = leb-le _ _ (both_right (is_type T t) _ h) }
tested-room T (Slot.Value a t) h = tt
tested-room T (Slot.Const n) h = tt

pub fitting-room : (T : Tables) (o : Option Slot) (s : Slot) → State.checked_slot T o ≡ Some s → SlotRoom T s
unfolding State.checked_slot
fitting-room T None s e = absurd (some≢none s (sym e))
fitting-room T (Some slot) s e =
    by-test (λ (r : Option Slot). r ≡ Some s → SlotRoom T s) (State.roomy T slot) (λ q r. subst (SlotRoom T) (some-injective slot s r) (tested-room T slot q)) (λ q r. absurd (some≢none s (sym r))) e

module _ {T : Tables} (W : Sound T) where
  -- a type past the last has neither fields nor alternatives
  has-fields : (t x : ℕ) (f : FieldAt) → field_of (type_at T t) x ≡ Some f → t < length T.types
  unfolding type_at field_of record_ty ◌when_some◌
  has-fields t x f e =
      ⊎_elim (λ h. h) (λ h. absurd (some≢none f (sym e ∙ ap (λ (ty : Ty). field_of ty x) (get_or-eq_default T.types Ty.Int h)))) (lt-or-le t (length T.types))

  field-of : (t x : ℕ) (f : FieldAt) → field_of (type_at T t) x ≡ Some f → Child T t f.type
  field-of t x f e = field-child (Child T t) (type_at T t) x f (W.children t (has-fields t x f e)) e

  room-field : (i t c : ℕ) → Child T t c → PathRoom T (field_path i) c
  room-field i t c h = let f = fits-field T W i t c h in record { known = f.in-types; short = f.short }

  room-then : (p : FieldPath) (i t c : ℕ) → PathRoom T p t → Child T t c → PathRoom T (then p i) c
  room-then p i t c r h = let f = fits-then T W p i t c (record { in-types = r.known; short = r.short }) h in record { known = f.in-types; short = f.short }

  pub alternative-child : (t x : ℕ) (alts : List Alternative) (alt : Alternative) → t < length T.types → union_ty (type_at T t) ≡ Some alts → alternative_of alts x ≡ Some alt → Child T t alt.type
  unfolding alternative_of
  alternative-child t x alts alt h e g = each_first _ (union-children (Child T t) (type_at T t) alts (W.children t h) e) alt g

  -- a union with an alternative is at least two deep, so its path has room for a step
  pub union-room : (p : FieldPath) (t x : ℕ) (alts : List Alternative) (alt : Alternative) → PathRoom T p t → union_ty (type_at T t) ≡ Some alts → alternative_of alts x ≡ Some alt → length p.steps < step_limit
  union-room p t x alts alt r e g = let c = alternative-child t x alts alt r.known e g in holds-further _ _ r.short _ (W.positive alt.type c.in-types) c.less-deep

  abbrev Given : Option Slot → Type 0
  Given o = (s : Slot) → o ≡ Some s → SlotRoom T s

  given-none : Given None
  given-none s e = absurd (some≢none s (sym e))

  given-some : (s : Slot) → SlotRoom T s → Given (Some s)
  given-some s r s' e = subst (SlotRoom T) (some-injective s s' e) r

  given-field : (a : ℕ) (place : ℕ → FieldPath) (t x : ℕ) → ((f : FieldAt) → Child T t f.type → PathRoom T (place f.index) f.type) → Given (slot_at a place (field_of (type_at T t) x))
  unfolding slot_at
  given-field a place t x g s e =
      let r = bind-some (field_of (type_at T t) x) _ s e in
      subst (SlotRoom T) (some-injective _ s r.2) (g r.0 (field-of t x r.0 r.1))

  given-row : (a : ℕ) (p : Option ℕ) (x : ℕ) → Given (row_field T a p x)
  unfolding row_field
  given-row a p x s e =
      let r = bind-some p _ s e in
      given-field a field_path (predicate_at T r.0).key x (λ f c. room-field f.index _ f.type c) s r.2

  given-value : (a : ℕ) (p : Option ℕ) → Given (row_value T a p)
  unfolding row_value
  given-value a p s e =
      let r = bind-some p _ s e in
      let q = bind-some (predicate_at T r.0).value _ s r.2 in
      subst (SlotRoom T) (some-injective _ s q.2) tt

  given-folded : (n x : ℕ) → Given (folded_slot T n x)
  unfolding folded_slot
  given-folded n x s e = let r = bind-some (folded_field T n x) _ s e in subst (SlotRoom T) (some-injective _ s r.2) tt

  module _ {S : Type 0} (o : Ops S) where
    abbrev pub Gives : Answer S → Type 0
    Gives a = Given a.slot

    gives : (x : Option Slot) (w : S) → Given x → Gives (give x w)
    unfolding give
    gives x w h = h

    refuses : (n : ℕ) (c : Code) (w : S) → Gives (declined o T n c w)
    unfolding declined
    refuses n c w = given-none

    follows : (a : Answer S) (f : Slot → Resolver S) → Gives a → ((s : Slot) (w : S) → SlotRoom T s → Gives (f s w)) → Gives (follow a f)
    unfolding follow
    follows a f h k = by-option (λ (b : Answer S). Gives b) a.slot (λ e. given-none) (λ s e. k s a.walk (h s e))

    fetched-row : (n p : ℕ) (register : Option ℕ) (w : S) → Gives (fetched_row o T n p register w)
    unfolding fetched_row
    fetched-row n p None w = refuses n Code.NyiFactField w
    fetched-row n p (Some r) w = gives _ w (given-some (Slot.Row r (Some p)) tt)

    dereference-room : (n : ℕ) (s : Slot) (w : S) → SlotRoom T s → Gives (dereference o T n s w)
    unfolding dereference
    dereference-room n (Slot.Row a p) w ok = gives _ w (given-some (Slot.Row a p) ok)
    dereference-room n (Slot.Key a t) w ok = gives _ w (given-some (Slot.Key a t) ok)
    dereference-room n (Slot.Derived a) w ok = gives _ w (given-some (Slot.Derived a) ok)
    dereference-room n (Slot.Field a path t) w ok =
        by-option (λ (r : Resolver S). Gives (r w)) (fact_ty (type_at T t)) (λ e. gives _ w (given-some (Slot.Field a path t) ok)) (λ p e. fetched-row n p (fetched_register T a path) w)
    dereference-room n (Slot.Value a t) w ok =
        by-option (λ (r : Resolver S). Gives (r w)) (fact_ty (type_at T t)) (λ e. gives _ w (given-some (Slot.Value a t) ok)) (λ p e. refuses n Code.NyiFactField w)
    dereference-room n (Slot.Const c) w ok = gives _ w (given-some (Slot.Const c) ok)

    row_room : (x : ℕ) (s : Slot) (w : S) → Gives (field_of_row o T x s w)
    unfolding field_of_row
    row_room x (Slot.Row a p) w = gives _ w (given-row a p x)
    row_room x (Slot.Key a t) w = gives _ w given-none
    row_room x (Slot.Derived a) w = gives _ w given-none
    row_room x (Slot.Field a path t) w = gives _ w given-none
    row_room x (Slot.Value a t) w = gives _ w given-none
    row_room x (Slot.Const c) w = gives _ w given-none

    pub field_room : (n : ℕ) (s : Slot) (x : ℕ) (w : S) → SlotRoom T s → Gives (field_slot o T n s x w)
    unfolding field_slot ◌when_found◌
    field_room n (Slot.Row a p) x w ok = gives _ w (given-row a p x)
    field_room n (Slot.Key a t) x w ok = gives _ w (given-field a field_path t x (λ f c. room-field f.index t f.type c))
    field_room n (Slot.Derived a) x w ok = gives _ w given-none
    field_room n (Slot.Field a path t) x w ok =
        by-option (λ (r : Resolver S). Gives (r w)) (fact_ty (type_at T t))
        (λ e. gives _ w (given-field a (then path) t x (λ f c. room-then path f.index t f.type ok c)))
        (λ p e. follows _ _ (dereference-room n (Slot.Field a path t) w ok) (λ s w' r. row_room x s w'))
    field_room n (Slot.Value a t) x w ok = refuses n Code.NyiValueField w
    field_room n (Slot.Const c) x w ok = gives _ w (given-folded c x)

    value_room : (s : Slot) (w : S) → Gives (value_slot o T s w)
    unfolding value_slot
    value_room (Slot.Row a p) w = gives _ w (given-value a p)
    value_room (Slot.Key a t) w = gives _ w given-none
    value_room (Slot.Derived a) w = gives _ w given-none
    value_room (Slot.Field a path t) w = gives _ w given-none
    value_room (Slot.Value a t) w = gives _ w given-none
    value_room (Slot.Const c) w = gives _ w given-none

    selected-room : (a : ℕ) (path : FieldPath) (t : ℕ) (alt : Option Alternative) (w : S) → PathRoom T path t → ((x : Alternative) → alt ≡ Some x → Child T t x.type) → Gives (selected o T a path alt w)
    unfolding selected payload
    selected-room a path t None w r c = gives _ w given-none
    selected-room a path t (Some alt) w r c = given-some _ (room-then path alt.disc t alt.type r (c alt refl))

    select-room : (n : ℕ) (s : Slot) (x : ℕ) (w : S) → SlotRoom T s → Gives (select_slot o T n s x w)
    unfolding select_slot
    select-room n (Slot.Row a p) x w ok = refuses n Code.NyiFactField w
    select-room n (Slot.Key a t) x w ok = refuses n Code.NyiFactField w
    select-room n (Slot.Derived a) x w ok = refuses n Code.NyiFactField w
    select-room n (Slot.Field a path t) x w ok =
        by-option (λ (r : Resolver S). Gives (r w)) (union_ty (type_at T t)) (λ e. refuses n Code.NyiFactField w)
        (λ alts e. selected-room a path t (alternative_of alts x) w ok (λ alt g. alternative-child t x alts alt ok.known e g))
    select-room n (Slot.Value a t) x w ok = refuses n Code.NyiFactField w
    select-room n (Slot.Const c) x w ok = refuses n Code.NyiFactField w

    module _ (L : (w : S) (x : ℕ) → Given (o.lookup w x)) where
      hoisted-room : (n : ℕ) (w : S) → Given (hoisted_slot T (o.lookup w) n)
      unfolding hoisted_slot
      hoisted-room n w s e = let r = bind-some _ _ s e in L w r.0.name s r.2

      node-room : (below : ℕ → Resolver S) → ((n : ℕ) (w : S) → Gives (below n w)) → (n : ℕ) (node : Node) (w : S) → Gives (resolve_node o T below n node w)
      unfolding resolve_node ◌when_found◌
      node-room below B n (Node.Int bytes) w = gives _ w given-none
      node-room below B n (Node.Str x) w = gives _ w given-none
      node-room below B n (Node.Bytes bytes) w = gives _ w given-none
      node-room below B n (Node.Var x) w = L w x
      node-room below B n Node.Wildcard w = gives _ w given-none
      node-room below B n Node.Never w = gives _ w given-none
      node-room below B n (Node.Prefix x) w = gives _ w given-none
      node-room below B n (Node.Fuzzy x d a) w = gives _ w given-none
      node-room below B n (Node.Record fs) w = gives _ w given-none
      node-room below B n (Node.Access x base) w = follows _ _ (B base w) (λ s w' r. follows _ _ (dereference-room n s w' r) (λ s' w'' r'. field_room n s' x w'' r'))
      node-room below B n (Node.Value base) w = follows _ _ (B base w) (λ s w' r. follows _ _ (dereference-room n s w' r) (λ s' w'' r'. value_room s' w''))
      node-room below B n (Node.Select x base) w = follows _ _ (B base w) (λ s w' r. follows _ _ (dereference-room n s w' r) (λ s' w'' r'. select-room n s' x w'' r'))
      node-room below B n Node.Disjunction w = gives _ w given-none
      node-room below B n Node.Subquery w = gives _ w given-none
      node-room below B n (Node.Fact p key) w = hoisted-room n w
      node-room below B n Node.Arith w = gives _ w given-none
      node-room below B n Node.Error w = gives _ w given-none

      below-room : (limit n : ℕ) (w : S) → Gives (resolve_below o T limit n w)
      unfolding resolve_below
      below-room zero n w = gives _ w given-none
      below-room (suc limit) n w =
          by-test (λ (r : Resolver S). Gives (r w)) (is_constant T n) (λ e. gives _ w (given-some (Slot.Const n) tt)) (λ e. node-room (resolve_below o T limit) (below-room limit) n (node_at T n) w)

      pub resolve-room : (n : ℕ) (w : S) → Gives (resolve o T n w)
      unfolding resolve
      resolve-room n w = below-room (length T.nodes) n w

  -- and so with the lists in the work area
  pub resolved-room : (n : ℕ) (w : State) → Given (resolve (State.ops T) T n w).slot
  resolved-room n w = resolve-room (State.ops T) (λ w x s e. fitting-room T _ s e) n w

  -- a read past a reference keeps the room
  past_room : (n : ℕ) (read : Read) (s : Slot) (w : State) → SlotRoom T s → Gives (State.ops T) (read_slot T n read s w)
  past_room n (Key x) s w h = field_room (State.ops T) n s x w h
  past_room n Value s w h = value_room (State.ops T) s w
  past_room n (Select x) s w h = select-room (State.ops T) n s x w h

  pub read-room : (n : ℕ) (read : Read) (a : Answer State) → Given a.slot → Given (follow a (read_past T n read)).slot
  unfolding ◌when_found◌
  read-room n read a h = follows (State.ops T) a _ h (λ s w r. follows (State.ops T) _ _ (dereference-room (State.ops T) n s w r) (λ s' w' r'. past_room n read s' w' r'))
