-- The bindings that the walks have made, found by their names: what the two tables hold, and that a name's binding is read where they say.
use mathlib.Core.Bool.{Bool, true, false}
use mathlib.Core.List.{List, [], ◌∷◌, ◌++◌, append_assoc}
use mathlib.Core.Logic.{◌⊎◌, inl, inr, ⊎_elim}
use Rattle.std.specs.Prelude.{Option, None, Some}
use mathlib.Core.Path.{◌≡◌, refl, sym, ap, ◌∙◌}
use Prim.Native.Nat.{ℕ, suc, ◌+◌, ◌*◌, ◌/◌, ◌%◌, ◌≤◌, ◌<◌}
use native.Mathlib.Omega.{arith}
use borrow.Author.Tests.{eq-eqb, ne_eqb, lt-ltb, le-ltb}
use lib.Dec.{eqb, ltb}
use lib.ListN.{length, drop, get_or, set, length-append, length-set}
use lib.Seq.{sets, length-sets, get_or-set_same, get_or-set_other, drop-drop, drop-append_seam}
use Rattle.rules.specs.Base.{Each, done, more, concat_map, last_or, ◌when_some◌}
use Rattle.rules.specs.Limits.{name_limit}
use Rattle.rules.specs.File.{Slot, Binding}
use Rattle.rules.specs.Read as Read
use Rattle.rules.specs.Plan as Plan
use Rattle.rules.specs.Constant.{lookup}
use Rattle.rules.proofs.Cases.{some≢none, pick, by_order, by_equal}
use Rattle.rules.proofs.Each.{each_all, each_both}
use Rattle.rules.proofs.RoundTrip.{BindingNumbers, back-binding}
use Rattle.state.specs.State.{names_at, number_at, place_at, word_in, noted, slot_named, made_slot}
use Rattle.state.specs.Ops.{or_else}

-- a binding's plan form: its name, a kind, and a number at least
slot-length : (s : Slot) → 3 ≤ length (Plan.slot s)
unfolding Plan.slot Plan.u16
slot-length (Slot.Row a p) = omega arith
slot-length (Slot.Key a t) = omega arith
slot-length (Slot.Derived a) = omega arith
slot-length (Slot.Field a p t) = omega (arith, length-append (a % 256 ∷ a / 256 % 256 ∷ Plan.path p) (Plan.u16 t))
slot-length (Slot.Value a t) = omega arith
slot-length (Slot.Const n) = omega arith

pub binding-length : (b : Binding) → 5 ≤ length (Plan.binding b)
unfolding Plan.binding Plan.u16
binding-length b = omega (arith, slot-length b.slot)

-- Words: one that is written, and those that a change elsewhere keeps.
module _ (work : List ℕ) where
  get_or_kept : (at : ℕ) (bytes : List ℕ) (k : ℕ) → (k < at) ⊎ (at + length bytes ≤ k) → get_or (sets work at bytes) k 0 ≡ get_or work k 0
  get_or_kept at bytes k h = go work at bytes h
    where
      go : (w : List ℕ) (at : ℕ) (bytes : List ℕ) → (k < at) ⊎ (at + length bytes ≤ k) → get_or (sets w at bytes) k 0 ≡ get_or w k 0
      go w at [] h = refl
      go w at (b ∷ bytes) h =
          go (set w at b) (suc at) bytes (⊎_elim (λ l. inl (omega arith)) (λ l. inr (omega arith)) h)
          ∙ get_or-set_other w at k b 0 (⊎_elim (λ l e. omega arith) (λ l e. omega arith) h)

  pub word_kept : (at : ℕ) (bytes : List ℕ) (k : ℕ) → (k + 1 < at) ⊎ (at + length bytes ≤ k) → word_in (sets work at bytes) k ≡ word_in work k
  unfolding word_in
  word_kept at bytes k h =
      let low = get_or_kept at bytes k (⊎_elim (λ l. inl (omega arith)) (λ l. inr (omega arith)) h) in
      let high = get_or_kept at bytes (k + 1) (⊎_elim (λ l. inl (omega arith)) (λ l. inr (omega arith)) h) in
      omega (arith, low, high)

  pub word-put : (k n : ℕ) → k + 1 < length work → n < 65536 → word_in (sets work k (Plan.u16 n)) k ≡ n
  unfolding word_in Plan.u16
  word-put k n room h =
      let first = set work k (n % 256) in
      let low = get_or-set_other first (suc k) k (n / 256 % 256) 0 (λ e. omega arith) ∙ get_or-set_same work k (n % 256) 0 (omega arith) in
      let high = get_or-set_same first (suc k) (n / 256 % 256) 0 (omega (arith, length-set work k (n % 256))) in
      let next : k + 1 ≡ suc k = omega arith in
      let second = ap (λ (j : ℕ). get_or (set first (suc k) (n / 256 % 256)) j 0) next ∙ high in
      omega (arith, low, second)

-- A name's last entry among two lists, and among one more.
module _ (x : ℕ) where
  last : Option Binding → List Binding → Option Binding
  last o bs = last_or o (λ b. eqb b.name x) bs

  slot_in : Option Binding → Option Slot
  slot_in o = o when_some λ b. Some b.slot

  -- what was found before a list counts where the list has none
  last-from : (o : Option Binding) (bs : List Binding) → slot_in (last o bs) ≡ or_else (slot_in (last None bs)) (slot_in o)
  unfolding last last_or slot_in ◌when_some◌
  last-from o [] = refl
  last-from o (b ∷ bs) =
      elim (eqb b.name x) as (λ (t : Bool). ◌≡◌ {A = Option Slot} (slot_in (elim t [ true ↦ last (Some b) bs | false ↦ last o bs ])) (or_else (slot_in (elim t [ true ↦ last (Some b) bs | false ↦ last None bs ])) (slot_in o))) [
        | true ↦ last-from (Some b) bs ∙ kept (slot_in (last None bs)) b.slot (slot_in o) ∙ ap (λ (q : Option Slot). or_else q (slot_in o)) (sym (last-from (Some b) bs))
        | false ↦ last-from o bs
      ]
    where
      kept : (a : Option Slot) (s : Slot) (c : Option Slot) → or_else a (Some s) ≡ or_else (or_else a (Some s)) c
      kept None s c = refl
      kept (Some t) s c = refl

  last-append : (o : Option Binding) (as' bs : List Binding) → last o (as' ++ bs) ≡ last (last o as') bs
  unfolding last last_or
  last-append o [] bs = refl
  last-append o (a ∷ as') bs =
      elim (eqb a.name x) as (λ (t : Bool). ◌≡◌ {A = Option Binding} (elim t [ true ↦ last (Some a) (as' ++ bs) | false ↦ last o (as' ++ bs) ]) (last (elim t [ true ↦ last (Some a) as' | false ↦ last o as' ]) bs)) [
        | true ↦ last-append (Some a) as' bs
        | false ↦ last-append o as' bs
      ]

  pub lookup-append : (as' bs : List Binding) → lookup (as' ++ bs) x ≡ or_else (lookup bs x) (lookup as' x)
  unfolding lookup last slot_in
  lookup-append as' bs = ap slot_in (last-append None as' bs) ∙ last-from (last None as') bs

  -- one binding
  pub lookup-one : (b : Binding) → lookup (b ∷ []) x ≡ slot_named x (Read.got b [])
  unfolding lookup last last_or slot_in slot_named ◌when_some◌
  lookup-one b =
      elim (eqb b.name x) as (λ (t : Bool). ◌≡◌ {A = Option Slot} (slot_in (elim t [ true ↦ Some b | false ↦ None ])) (elim t [ true ↦ Some b.slot | false ↦ None ])) [
        | true ↦ refl
        | false ↦ refl
      ]

  -- a binding of another name before a list
  lookup-other : (b : Binding) (bs : List Binding) → (b.name ≡ x → ⊥) → lookup (b ∷ bs) x ≡ lookup bs x
  unfolding lookup last last_or slot_in
  lookup-other b bs h = ap slot_in (pick (eqb b.name x) false (last (Some b) bs) (last None bs) (ne_eqb b.name x h))

  -- a binding of the name
  lookup-here : (b : Binding) → b.name ≡ x → lookup (b ∷ []) x ≡ Some b.slot
  unfolding slot_named
  lookup-here b e = lookup-one b ∙ pick (eqb b.name x) true (Some b.slot) None (eq-eqb b.name x e)

  -- a name that two lists do not have
  pub neither : (a c : Option Slot) → or_else a c ≡ None → (a ≡ None) × (c ≡ None)
  neither None c q = (refl, q)
  neither (Some s) c q = absurd (some≢none s q)

  -- a name that is not found is none of theirs
  pub not-among : (bs : List Binding) → lookup bs x ≡ None → Each (λ b. b.name ≡ x → ⊥) bs
  not-among [] e = done
  not-among (b ∷ bs) e =
      let split = neither (lookup bs x) (lookup (b ∷ []) x) (sym (lookup-append (b ∷ []) bs) ∙ e) in
      more {x = b} {xs = bs} (λ q. some≢none b.slot (sym (lookup-here b q) ∙ split.1)) (not-among bs split.0)

-- What the tables hold of bindings one after another: the first is the i-th, and its record begins at p.
abbrev pub Named : List ℕ → ℕ → ℕ → List Binding → Type 0
Named work i p [] = Unit {0}
Named work i p (b ∷ bs) = (word_in work (number_at b.name) ≡ i) × (word_in work (place_at i) ≡ p) × Named work (i + 1) (p + length (Plan.binding b)) bs

-- those of the front
pub named-front : (work : List ℕ) (i p : ℕ) (bs cs : List Binding) → Named work i p (bs ++ cs) → Named work i p bs
named-front work i p [] cs h = tt
named-front work i p (b ∷ bs) cs h = (h.0, h.1, named-front work (i + 1) (p + length (Plan.binding b)) bs cs h.2)

-- one more at the end
named-snoc : (work : List ℕ) (i p : ℕ) (bs : List Binding) (b : Binding) (n at : ℕ) → n ≡ i + length bs → at ≡ p + length (concat_map Plan.binding bs) → Named work i p bs → word_in work (number_at b.name) ≡ n → word_in work (place_at n) ≡ at → Named work i p (bs ++ (b ∷ []))
unfolding concat_map
named-snoc work i p [] b n at en ea h e f =
    let first : n ≡ i = omega arith in
    let start : at ≡ p = omega arith in
    (e ∙ first, ap (λ (k : ℕ). word_in work (place_at k)) (sym first) ∙ f ∙ start, tt)
named-snoc work i p (c ∷ bs) b n at en ea h e f =
    (h.0, h.1, named-snoc work (i + 1) (p + length (Plan.binding c)) bs b n at (omega arith) (omega (arith, length-append (Plan.binding c) (concat_map Plan.binding bs))) h.2 e f)

-- a change that keeps their entries
named-kept : (work work' : List ℕ) (i p : ℕ) {bs : List Binding} → Each (λ b. word_in work' (number_at b.name) ≡ word_in work (number_at b.name)) bs → ((k : ℕ) → k < i + length bs → word_in work' (place_at k) ≡ word_in work (place_at k)) → Named work i p bs → Named work' i p bs
named-kept work work' i p done places h = tt
named-kept work work' i p (more {x = b} {xs = bs} e es) places h =
    (e ∙ h.0, places i (omega arith) ∙ h.1, named-kept work work' (i + 1) (p + length (Plan.binding b)) es (λ k l. places k (omega arith)) h.2)

-- one that comes before the tables
pub named_past : (work : List ℕ) (at : ℕ) (bytes : List ℕ) (bs : List Binding) → at + length bytes ≤ names_at → Named work 0 0 bs → Named (sets work at bytes) 0 0 bs
unfolding number_at place_at
named_past work at bytes bs h =
    named-kept work (sets work at bytes) 0 0 (each_all bs (λ b. word_kept work at bytes (number_at b.name) (inr (omega arith))))
    (λ k _. word_kept work at bytes (place_at k) (inr (omega arith)))

-- the next binding noted, of a name that none of them has
pub named-next : (work : List ℕ) (bs : List Binding) (b : Binding) → Each (λ c. c.name < name_limit) bs → Each (λ c. c.name ≡ b.name → ⊥) bs → b.name < name_limit → length (concat_map Plan.binding bs) < 16384 → 5 * length bs < 16384 → 65536 ≤ length work
    → Named work 0 0 bs → Named (noted b.name (length bs) (length (concat_map Plan.binding bs)) work) 0 0 (bs ++ (b ∷ []))
unfolding noted number_at place_at Plan.u16
named-next work bs b small new h l m room held =
    named-snoc after 0 0 bs b n at (omega arith) (omega arith)
    (named-kept work after 0 0 (each_both (λ c s n. others c s n) small new) (λ k q. word_kept first (place_at n) (Plan.u16 at) (place_at k) (inl (omega arith)) ∙ word_kept work (number_at b.name) (Plan.u16 n) (place_at k) (inr (omega arith))) held)
    (word_kept first (place_at n) (Plan.u16 at) (number_at b.name) (inl (omega arith)) ∙ word-put work (number_at b.name) n (omega arith) (omega arith))
    (word-put first (place_at n) at (omega (arith, length-sets work (number_at b.name) (Plan.u16 n))) (omega arith))
  where
    n : ℕ
    n = length bs

    at : ℕ
    at = length (concat_map Plan.binding bs)

    first : List ℕ
    first = sets work (number_at b.name) (Plan.u16 n)

    after : List ℕ
    after = sets first (place_at n) (Plan.u16 at)

    others : (c : Binding) → c.name < name_limit → (c.name ≡ b.name → ⊥) → word_in after (number_at c.name) ≡ word_in work (number_at c.name)
    others c s q =
        word_kept first (place_at n) (Plan.u16 at) (number_at c.name) (inl (omega arith))
        ∙ by_order c.name b.name
        (λ o. word_kept work (number_at b.name) (Plan.u16 n) (number_at c.name) (inl (omega arith)))
        (λ o. word_kept work (number_at b.name) (Plan.u16 n) (number_at c.name) (inr (omega (arith, o, q))))

-- What the tables lead to.
module _ (work : List ℕ) (x : ℕ) where
  abbrev number : ℕ
  number = word_in work (number_at x)

  abbrev read : Option Slot
  read = slot_named x (Read.binding (drop (word_in work (place_at number)) work))

  -- a binding whose number it is not has another name
  other : (b : Binding) (i : ℕ) → word_in work (number_at b.name) ≡ i → (number ≡ i → ⊥) → b.name ≡ x → ⊥
  other b i h n e = n (ap (λ (y : ℕ). word_in work (number_at y)) (sym e) ∙ h)

  -- a number that is none of theirs: none has the name
  unnamed : (i p : ℕ) (bs : List Binding) → Named work i p bs → (number < i) ⊎ (i + length bs ≤ number) → lookup bs x ≡ None
  unfolding lookup last_or ◌when_some◌
  unnamed i p [] h o = refl
  unnamed i p (b ∷ bs) h o =
      lookup-other x b bs (other b i h.0 (⊎_elim (λ l e. omega arith) (λ l e. omega arith) o))
      ∙ unnamed (i + 1) (p + length (Plan.binding b)) bs h.2 (⊎_elim (λ l. inl (omega arith)) (λ l. inr (omega arith)) o)

  -- the first of them
  named_here : (i p : ℕ) (b : Binding) (bs : List Binding) (rest : List ℕ) → BindingNumbers b → Named work i p (b ∷ bs) → drop p work ≡ Plan.binding b ++ rest → number ≡ i → read ≡ lookup (b ∷ bs) x
  unfolding slot_named
  named_here i p b bs rest q h e o =
      ap (λ (k : ℕ). slot_named x (Read.binding (drop k work))) (ap (λ (k : ℕ). word_in work (place_at k)) o ∙ h.1)
      ∙ ap (λ (bytes : List ℕ). slot_named x (Read.binding bytes)) e
      ∙ ap (slot_named x) ((back-binding b q).reads rest)
      ∙ sym (lookup-one x b)
      ∙ sym (lookup-append x (b ∷ []) bs ∙ ap (λ (s : Option Slot). or_else s (lookup (b ∷ []) x)) (unnamed (i + 1) (p + length (Plan.binding b)) bs h.2 (inl (omega arith))))

  -- one of theirs: the name's binding is read there, or none has the name
  named : (i p : ℕ) {bs : List Binding} (rest : List ℕ) → Each BindingNumbers bs → Named work i p bs → drop p work ≡ concat_map Plan.binding bs ++ rest → i ≤ number → number < i + length bs → read ≡ lookup bs x
  unfolding concat_map
  named i p rest done h e l m = absurd (omega arith)
  named i p rest (more {x = b} {xs = bs} q qs) h e l m =
      let parted = e ∙ append_assoc (Plan.binding b) (concat_map Plan.binding bs) rest in
      by_equal number i (named_here i p b bs (concat_map Plan.binding bs ++ rest) q h parted)
      (λ o. named (i + 1) (p + length (Plan.binding b)) rest qs h.2
      (sym (drop-drop (length (Plan.binding b)) p work) ∙ ap (drop (length (Plan.binding b))) parted ∙ drop-append_seam (Plan.binding b) (concat_map Plan.binding bs ++ rest))
      (omega (arith, l, o)) (omega (arith, m))
      ∙ sym (lookup-other x b bs (other b i h.0 o)))

  pub made-is : {bs : List Binding} (rest : List ℕ) → Each BindingNumbers bs → Named work 0 0 bs → work ≡ concat_map Plan.binding bs ++ rest → made_slot work (length bs) x ≡ lookup bs x
  unfolding made_slot
  made-is {bs} rest q h e =
      by_order number (length bs)
      (λ l. pick (ltb number (length bs)) true read None (lt-ltb number (length bs) l) ∙ named 0 0 rest q h e (omega arith) (omega arith))
      (λ l. pick (ltb number (length bs)) false read None (le-ltb number (length bs) l) ∙ sym (unnamed 0 0 bs h (inr (omega arith))))
