-- A narrowing, by whether the plan is too long and whether the level builds.
use mathlib.Core.Path.{◌≡◌, sym, ap, ◌∙◌}
use mathlib.Core.Bool.{true, false}
use mathlib.Core.List.{List, ◌∷◌, ◌++◌}
use Prim.Native.Nat.{ℕ, ◌+◌, ◌≤◌}
use native.Mathlib.Omega.{arith}
use lib.ListN.{length, length-append}
use Rattle.rules.specs.File.{Tables, FieldPath, Anchor}
use Rattle.rules.specs.Constant.{term}
use Rattle.rules.specs.Events.{Narrowing}
use Rattle.rules.specs.Placement.{SeekKeyPart}
use Rattle.rules.specs.Plan as Plan
use Rattle.rules.proofs.Cases.{pick}
use Rattle.state.specs.State.{Ends, State, unless}
use Rattle.state.specs.Ops.{grow, narrowed, closed, put_part, put_residual, narrow_part, with_range, narrow_prefix, attachable, with_guide, narrow_fuzzy, narrowing, narrow, close, closer}
use Rattle.records.specs.Records.{written_at, behind}
use Rattle.records.specs.declared.Place.{Place}
use Rattle.records.proofs.Places.{follows, text-written, behind-writes}
use Rattle.seek.specs.Seek.{counts_of, level_of, state_of}
use Rattle.seek.specs.declared.SeekBuilder.{SeekBuilder}
use Rattle.seek.proofs.Grows.{unless-over, unless_not, SameUpToLimit}

module _ (b : SeekBuilder) (T : Tables) (e : Ends) (w p : List ℕ) where
  pub stays : (f : State → State) → b.over ≡ true → state_of T b e w p ≡ unless f (state_of T b e w p)
  unfolding state_of
  stays f h = unless-over f (state_of T b e w p) h

  pub goes : (f : State → State) → b.over ≡ false → f (state_of T b e w p) ≡ unless f (state_of T b e w p)
  unfolding state_of
  goes f h = unless_not f (state_of T b e w p) h

  module _ (n : ℕ) (path : FieldPath) (part : SeekKeyPart) (x : Narrowing) (r : State) (kind : (s : State) → narrow_part n part path x s ≡ narrowing n path x s) (live : b.over ≡ false) where
    pub as-part : b.building ≡ true → r ≡ put_part n part (narrowed (counts_of b.counts)) (state_of T b e w p) → r ≡ narrow n path x (state_of T b e w p)
    unfolding narrow narrow_part state_of level_of
    as-part h g = g ∙ sym (pick b.building true _ _ h) ∙ kind (state_of T b e w p) ∙ goes (narrowing n path x) live

    pub as-rest : b.building ≡ false → r ≡ put_residual n path x (state_of T b e w p) → r ≡ narrow n path x (state_of T b e w p)
    unfolding narrow narrow_part state_of level_of
    as-rest h g = g ∙ sym (pick b.building false _ _ h) ∙ kind (state_of T b e w p) ∙ goes (narrowing n path x) live

pub still : (b : SeekBuilder) (T : Tables) (e : Ends) (w p : List ℕ) (n : ℕ) (path : FieldPath) (x : Narrowing) → b.over ≡ true → state_of T b e w p ≡ narrow n path x (state_of T b e w p)
unfolding narrow
still b T e w p n path x h = stays b T e w p (narrowing n path x) h

-- a residual is its path, then its op, then its node
pub residual-size : (path : FieldPath) (op : Narrowing) (m n : ℕ) → m ≡ length (Plan.path path) → n ≡ length (Plan.op op) → length (Plan.path path ++ Plan.op op) ≡ m + n
residual-size path op m n e f = length-append (Plan.path path) (Plan.op op) ∙ (let g : length (Plan.path path) + length (Plan.op op) ≡ m + n = omega arith in g)

pub residual-put : (path : FieldPath) (op : Narrowing) (place at : Place) (p0 p1 q : List ℕ)
    → p1 ≡ written_at place (Plan.path path) p0 → at ≡ behind (length (Plan.path path)) place → q ≡ written_at at (Plan.op op) p1 → q ≡ written_at place (Plan.path path ++ Plan.op op) p0
residual-put path op place at p0 p1 q e1 ea e2 = follows place at (Plan.path path) (Plan.op op) p0 p1 q e1 ea e2

-- the op is a kind and a text
pub residual-text : (path : FieldPath) (op : Narrowing) (kind len : ℕ) (bytes : List ℕ) (place at₁ at₂ : Place) (p0 p1 p2 q : List ℕ) → Plan.op op ≡ kind ∷ Plan.text bytes
    → p1 ≡ written_at place (Plan.path path) p0 → at₁ ≡ behind (length (Plan.path path)) place → p2 ≡ written_at at₁ (kind ∷ Plan.u16 len) p1 → at₂ ≡ behind 3 at₁ → q ≡ written_at at₂ bytes p2
    → (place.write ≡ true → length bytes ≡ len) → q ≡ written_at place (Plan.path path ++ Plan.op op) p0
residual-text path op kind len bytes place at₁ at₂ p0 p1 p2 q eo e1 a1 e2 a2 e3 l =
    residual-put path op place at₁ p0 p1 q e1 a1
    (text-written at₁ at₂ kind len bytes p1 p2 q e2 a2 e3 (λ on. l (sym (behind-writes place at₁ _ a1) ∙ on)) ∙ ap (λ (x : List ℕ). written_at at₁ x p1) (sym eo))

pub register-size : (a : ℕ) (at : FieldPath) (n : ℕ) → n ≡ length (Plan.path at) → length (Plan.part_key (SeekKeyPart.RegisterField a at)) ≡ 0 + (3 + n)
unfolding Plan.part_key Plan.u16
register-size a at n e = omega arith

pub register-op : (a : ℕ) (at : FieldPath) (n : ℕ) → n ≡ length (Plan.path at) → 3 + n ≡ length (Plan.op (Narrowing.RegisterField a at))
unfolding Plan.op Plan.u16
register-op a at n e = omega arith

pub own-op : (at : FieldPath) (n : ℕ) → n ≡ length (Plan.path at) → 1 + n ≡ length (Plan.op (Narrowing.OwnField at))
unfolding Plan.op
own-op at n e = omega arith

pub text-size : (bytes : List ℕ) → length (Plan.part_key (SeekKeyPart.Bytes bytes)) ≡ length bytes + 3
unfolding Plan.part_key Plan.text Plan.u16
text-size bytes = omega arith

-- a text's length counts only where it is written
pub exact : (m n : ℕ) → SameUpToLimit m n → n ≤ 16384 → m ≡ n
exact m n e h = omega arith

pub text-residual : (path : FieldPath) (op : Narrowing) (bytes : List ℕ) (kind len m : ℕ) → Plan.op op ≡ kind ∷ Plan.text bytes → m ≡ length (Plan.path path) → SameUpToLimit (length bytes) len
    → SameUpToLimit (length (Plan.path path ++ Plan.op op)) (m + 3 + len)
unfolding Plan.text Plan.u16
text-residual path op bytes kind len m eo em e =
    let g : length (Plan.op op) ≡ 3 + length bytes = ap length eo ∙ (let f : length (kind ∷ Plan.text bytes) ≡ 3 + length bytes = omega arith in f) in
    omega (arith, length-append (Plan.path path) (Plan.op op))

module _ (b : SeekBuilder) (T : Tables) (e : Ends) (w p : List ℕ) where
  module _ (n : ℕ) (path : FieldPath) (r : State) (live : b.over ≡ false) where
    -- fuzzy, by whether it can guide
    module _ (x distance : ℕ) (anchor : Anchor) where
      pub as-guide : attachable (level_of T b) path ≡ true
          → r ≡ grow (with_guide (record { path = path; term = x; distance = distance; anchor = anchor; node = n }) (level_of T b)) (λ plan. plan) (state_of T b e w p) → r ≡ narrow n path (Narrowing.Fuzzy x distance anchor) (state_of T b e w p)
      unfolding narrow narrowing narrow_fuzzy state_of
      as-guide h g = g ∙ sym (pick (attachable (level_of T b) path) true _ _ h) ∙ goes b T e w p (narrowing n path (Narrowing.Fuzzy x distance anchor)) live

      pub as-fuzzy : attachable (level_of T b) path ≡ false → r ≡ put_residual n path (Narrowing.Fuzzy x distance anchor) (state_of T b e w p) → r ≡ narrow n path (Narrowing.Fuzzy x distance anchor) (state_of T b e w p)
      unfolding narrow narrowing narrow_fuzzy state_of
      as-fuzzy h g = g ∙ sym (pick (attachable (level_of T b) path) false _ _ h) ∙ goes b T e w p (narrowing n path (Narrowing.Fuzzy x distance anchor)) live

    pub as-range : (prefix : List ℕ) → b.building ≡ true → r ≡ grow (with_range n path prefix (level_of T b)) (λ plan. plan) (state_of T b e w p) → r ≡ narrow n path (Narrowing.Prefix prefix) (state_of T b e w p)
    unfolding narrow narrowing narrow_prefix state_of level_of
    as-range prefix h g = g ∙ sym (pick b.building true _ _ h) ∙ goes b T e w p (narrowing n path (Narrowing.Prefix prefix)) live

    pub as-prefix : (prefix : List ℕ) → b.building ≡ false → r ≡ put_residual n path (Narrowing.Prefix prefix) (state_of T b e w p) → r ≡ narrow n path (Narrowing.Prefix prefix) (state_of T b e w p)
    unfolding narrow narrowing narrow_prefix state_of level_of
    as-prefix prefix h g = g ∙ sym (pick b.building false _ _ h) ∙ goes b T e w p (narrowing n path (Narrowing.Prefix prefix)) live

  -- a closer
  module _ (n : ℕ) where
    pub close-over : b.over ≡ true → state_of T b e w p ≡ closer n (state_of T b e w p)
    unfolding closer
    close-over h = stays b T e w p (close n) h

    module _ (live : b.over ≡ false) where
      pub close-none : b.building ≡ false → state_of T b e w p ≡ closer n (state_of T b e w p)
      unfolding closer close state_of level_of
      close-none h = sym (pick b.building false _ _ h) ∙ goes b T e w p (close n) live

      pub close-part : (r : State) → b.building ≡ true → r ≡ put_part n (SeekKeyPart.Bytes term) (closed (counts_of b.counts)) (state_of T b e w p) → r ≡ closer n (state_of T b e w p)
      unfolding closer close state_of level_of
      close-part r h g = g ∙ sym (pick b.building true _ _ h) ∙ goes b T e w p (close n) live
