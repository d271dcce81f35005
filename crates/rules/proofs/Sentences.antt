-- Single sentences of documents 01 and 02, told of one step of the rules. They stand before the inductions, so that a rule that breaks one of them is refused by it.
use mathlib.Core.Bool.{true, false}
use mathlib.Core.List.{List, [], ◌∷◌, ◌++◌}
use Rattle.std.specs.Prelude.{None, Some}
use mathlib.Core.Path.{◌≡◌, refl, sym, ◌∙◌}
use Prim.Native.Nat.{ℕ}
use borrow.Author.Tests.{eq-eqb}
use lib.Dec.{eqb}
use Rattle.rules.specs.File.{Tables, FieldPath, Slot, LevelEntry}
use Rattle.rules.specs.Constant.{term}
use Rattle.rules.specs.Events.{Narrowing, Lists, Ops, walk_ops, emit}
use Rattle.rules.specs.Walk.{FieldWalk, constrain_by, constrain, matched, read, variable, fresh_walk}
use Rattle.rules.specs.Placement.{SeekKeyPart, SeekBuilder, with_part, with_closer, with_range, with_residual, fall, place_prefix, place_own, place_narrowing, place_closer, place, place_all}
use Rattle.rules.specs.Levels.{level_of, level, levels_from}
use Rattle.rules.specs.Demand3.{level_at}
use Rattle.rules.proofs.Cases.{by-test, by-option, true≢false, some≢none}

module _ {S : Type 0} (o : Ops S) (T : Tables) (address : ℕ) (below : FieldWalk S) (x n t : ℕ) (path : FieldPath) (w : S) where
  -- "A Var binds only while new": a bound one is read
  pub bound-is-read : (slot : Slot) → o.lookup w x ≡ Some slot → variable o T address below x n t path w ≡ read o T address below n t path w
  unfolding variable
  bound-is-read slot e =
      by-option (λ after. after ≡ read o T address below n t path w) (o.lookup w x) (λ q. absurd (some≢none slot (sym e ∙ q))) (λ found q. refl)

  -- "a new Var binds before its constraints are read"
  pub new-is-bound : o.lookup w x ≡ None → variable o T address below x n t path w ≡ constrain o T x t path (o.bind x (Slot.Field address path t) w)
  unfolding variable
  new-is-bound e =
      by-option (λ after. after ≡ constrain o T x t path (o.bind x (Slot.Field address path t) w)) (o.lookup w x)
      (λ q. refl) (λ slot q. absurd (some≢none slot (sym q ∙ e)))

-- "Without constraints: bound, then skip": such a Var ends building
pub capture-falls : (T : Tables) (x t : ℕ) (path : FieldPath) (lists : Lists) (b : SeekBuilder)
    → (place_all T (constrain_by (walk_ops T) T [] x t path (fresh_walk lists)).events b).building ≡ false
unfolding constrain_by emit place_all place fall
capture-falls T x t path lists b = refl

-- "while building it becomes the range, and building falls; else a residual"
pub record Fell (b : SeekBuilder) : Type 0 where
  pub building : b.building ≡ false

pub prefix-falls : (n : ℕ) (path : FieldPath) (prefix : List ℕ) (b : SeekBuilder) → Fell (place_prefix n path prefix b)
unfolding place_prefix with_range with_residual fall
prefix-falls n path prefix b = by-test Fell b.building (λ e. record { building = refl }) (λ e. record { building = e })

-- Request [8]: a slot of the level's own row "gives a narrowing that asks for equal bytes at both paths", at the pattern's path with the slot's
pub own-narrows : {S : Type 0} (o : Ops S) (T : Tables) (address : ℕ) (below : FieldWalk S) (n ty t : ℕ) (at path : FieldPath) (w : S)
    → matched o T address below n (Slot.Field address at ty) t path w ≡ o.narrow n path (Narrowing.OwnField at) w
unfolding matched
own-narrows o T address below n ty t at path w =
    by-test (λ after. after ≡ o.narrow n path (Narrowing.OwnField at) w) (eqb address address)
    (λ e. refl) (λ e. absurd (true≢false (sym (eq-eqb address address refl) ∙ e)))

-- "always as a residual, and building falls there": no part, and one residual more
pub record OwnPlaced (n : ℕ) (path at : FieldPath) (b b' : SeekBuilder) : Type 0 where
  pub building : b'.building ≡ false
  pub parts : b'.parts ≡ b.parts
  pub residuals : b'.residuals ≡ b.residuals ++ (record { path = path; op = Narrowing.OwnField at; node = n } ∷ [])

pub own-placed : (n : ℕ) (path at : FieldPath) (b : SeekBuilder) → OwnPlaced n path at b (place_narrowing n path (Narrowing.OwnField at) b)
unfolding place_narrowing place_own with_residual fall
own-placed n path at b = record { building = refl; parts = refl; residuals = refl }

-- "one part of byte 00 if building .. still holds"
pub closer-building : (n : ℕ) (b : SeekBuilder) → b.building ≡ true → place_closer n b ≡ with_closer (with_part (record { key = SeekKeyPart.Bytes term; node = n }) b)
unfolding place_closer
closer-building n b holds =
    by-test (λ after. after ≡ with_closer (with_part (record { key = SeekKeyPart.Bytes term; node = n }) b)) b.building
    (λ e. refl) (λ e. absurd (true≢false (sym holds ∙ e)))

-- "else nothing": a closer after the fall changes nothing
pub closer-fallen : (n : ℕ) (b : SeekBuilder) → b.building ≡ false → place_closer n b ≡ b
unfolding place_closer
closer-fallen n b fell = by-test (λ after. after ≡ b) b.building (λ e. absurd (true≢false (sym e ∙ fell))) (λ e. refl)

-- "the four lists as the walk of the level before left them"
pub later-begins : (T : Tables) (start : Lists) (first second : LevelEntry) (entries : List LevelEntry)
    → (level_at T (levels_from T start (first ∷ second ∷ entries)) 1).start ≡ (level_at T (levels_from T start (first ∷ second ∷ entries)) 0).left
unfolding levels_from level level_of level_at
later-begins T start first second entries = refl
