-- Request [9]: a closer and its tag. "The closer is placed only if building held before the tag and still holds after the payload": that placement stands here,
-- with what it keeps of each tag. On no walk does a closer meet a level that builds and did not build before its tag, and so both placements make the same level.
use mathlib.Core.Bool.{Bool, true, false}
use mathlib.Core.List.{List, [], ◌∷◌, ◌++◌}
use Rattle.std.specs.Prelude.{None}
use mathlib.Core.Path.{◌≡◌, refl, sym, ap, ◌∙◌, subst}
use Prim.Native.Nat.{ℕ}
use Rattle.rules.specs.Base.{Each, both}
use Rattle.rules.specs.File.{Tables, FieldPath}
use Rattle.rules.specs.Checks.{checks, fault}
use Rattle.rules.specs.Constant.{Const, term}
use Rattle.rules.specs.Events.{Narrowing, Event}
use Rattle.rules.specs.Walk.{narrowing}
use Rattle.rules.specs.Placement.{SeekKeyPart, SeekBuilder, new, with_part, with_closer, fall, place_narrowing, place_closer, place_bound, place, place_all}
use Rattle.rules.specs.Levels.{starting, levels}
use Rattle.rules.proofs.Cases.{pick, ways, true≢false}
use Rattle.rules.proofs.Each.{each-imply}
use Rattle.rules.proofs.Sound.{sound, passed-all}
use Rattle.rules.proofs.Emits.{Claim, levels-emit}
use Rattle.rules.proofs.Kept.{fallen-all, place_all-append}

-- opened: for each tag that no closer has ended, the last first, whether building held before it
pub record Tagged : Type 0 where
  pub level : SeekBuilder
  pub opened : List Bool

abbrev pub tagged : SeekBuilder → List Bool → Tagged
tagged b opened = record { level = b; opened = opened }

abbrev opens : Narrowing → Bool → List Bool → List Bool
opens (Narrowing.Bytes bytes) building opened = opened
opens (Narrowing.Tag disc) building opened = building ∷ opened
opens (Narrowing.RegisterField address at) building opened = opened
opens (Narrowing.FactId address) building opened = opened
opens (Narrowing.Prefix prefix) building opened = opened
opens (Narrowing.Fuzzy x distance anchor) building opened = opened
opens (Narrowing.OwnField at) building opened = opened

-- "Closer: one part of byte 00 if building held before its tag and still holds, else nothing."
abbrev closes : ℕ → List Bool → SeekBuilder → Tagged
closes n [] b = tagged b []
closes n (held ∷ outer) b =
    tagged (elim (both held b.building) [ true ↦ with_closer (with_part (record { key = SeekKeyPart.Bytes term; node = n }) b) | false ↦ b ]) outer

-- the placement that keeps what it met at each tag
unfoldable pub place_tagged : Tables → Event → Tagged → Tagged
place_tagged T (Event.narrow n path x) k = tagged (place_narrowing n path x k.level) (opens x k.level.building k.opened)
place_tagged T Event.skip k = tagged (fall k.level) k.opened
place_tagged T (Event.closer n) k = closes n k.opened k.level
place_tagged T (Event.bound x t) k = tagged (place_bound T x t k.level) k.opened

unfoldable pub place_all_tagged : Tables → List Event → Tagged → Tagged
place_all_tagged T [] k = k
place_all_tagged T (e ∷ es) k = place_all_tagged T es (place_tagged T e k)

append-tagged : (T : Tables) (es fs : List Event) (k : Tagged) → place_all_tagged T (es ++ fs) k ≡ place_all_tagged T fs (place_all_tagged T es k)
unfolding place_all_tagged
append-tagged T [] fs k = refl
append-tagged T (e ∷ es) fs k = append-tagged T es fs (place_tagged T e k)

-- of the open tags: building held before the last
abbrev pub HeldBefore : List Bool → Type 0
HeldBefore [] = ⊥
HeldBefore (held ∷ outer) = held ≡ true

-- what a closer meets, where it meets a level that builds: a tag that is open, and building held before it
abbrev Meets : Event → Tagged → Type 0
Meets (Event.narrow n path x) k = Unit {0}
Meets Event.skip k = Unit {0}
Meets (Event.closer n) k = k.level.building ≡ true → HeldBefore k.opened
Meets (Event.bound x t) k = Unit {0}

abbrev AllMeet : Tables → List Event → Tagged → Type 0
AllMeet T [] k = Unit {0}
AllMeet T (e ∷ es) k = Meets e k × AllMeet T es (place_tagged T e k)

all_meet : (T : Tables) (es fs : List Event) (k : Tagged) → AllMeet T es k → AllMeet T fs (place_all_tagged T es k) → AllMeet T (es ++ fs) k
unfolding place_all_tagged
all_meet T [] fs k g h = h
all_meet T (e ∷ es) fs k g h = (g.0, all_meet T es fs (place_tagged T e k) g.1 h)

-- events that leave the open tags as they found them, make the same of the level by both placements, and whose closers meet what they should
record Paired (T : Tables) (es : List Event) : Type 0 where
  same : (k : Tagged) → place_all_tagged T es k ≡ tagged (place_all T es k.level) k.opened
  meet : (k : Tagged) → AllMeet T es k

both-implied : (a b : Bool) → (b ≡ true → a ≡ true) → both a b ≡ b
both-implied true b h = refl
both-implied false true h = h refl
both-implied false false h = refl

module _ (T : Tables) where
  paired-next : (es fs : List Event) → Paired T es → Paired T fs → Paired T (es ++ fs)
  paired-next es fs g h =
      record {
        same = λ k.
            append-tagged T es fs k ∙ ap (place_all_tagged T fs) (g.same k) ∙ h.same (tagged (place_all T es k.level) k.opened)
            ∙ ap (λ (b : SeekBuilder). tagged b k.opened) (sym (place_all-append T es fs k.level));
        meet = λ k. all_meet T es fs k (g.meet k) (h.meet (place_all_tagged T es k));
      }

  paired-constant : (m : ℕ) (path : FieldPath) (c : Const) → Paired T (Event.narrow m path (narrowing c) ∷ [])
  unfolding narrowing place_all place place_all_tagged place_tagged
  paired-constant m path (Const.Bytes bytes) = record { same = λ k. refl; meet = λ k. (tt, tt) }
  paired-constant m path (Const.Prefix bytes) = record { same = λ k. refl; meet = λ k. (tt, tt) }
  paired-constant m path (Const.Fuzzy x d a) = record { same = λ k. refl; meet = λ k. (tt, tt) }

  module _ (m d : ℕ) (path : FieldPath) (es : List Event) (h : Paired T es) where
    -- the level after a tag and its payload
    payload : SeekBuilder → SeekBuilder
    payload b = place_all T es (place_narrowing m path (Narrowing.Tag d) b)

    -- building never returns
    held-before : (b : SeekBuilder) → (payload b).building ≡ true → b.building ≡ true
    unfolding payload place_all place
    held-before b e =
        ways b.building (b.building ≡ true) (λ q. q) (λ q. absurd (true≢false (sym e ∙ (fallen-all T (Event.narrow m path (Narrowing.Tag d) ∷ es) b q).building)))

    after-payload : (k : Tagged) → place_all_tagged T es (place_tagged T (Event.narrow m path (Narrowing.Tag d)) k) ≡ tagged (payload k.level) (k.level.building ∷ k.opened)
    unfolding payload place_tagged
    after-payload k = h.same (place_tagged T (Event.narrow m path (Narrowing.Tag d)) k)

    closes-same : (k : Tagged) → closes m (k.level.building ∷ k.opened) (payload k.level) ≡ tagged (place_closer m (payload k.level)) k.opened
    unfolding place_closer
    closes-same k = ap (λ (b : SeekBuilder). tagged b k.opened) (pick _ _ _ _ (both-implied _ _ (held-before k.level)))

    paired-union : Paired T (Event.narrow m path (Narrowing.Tag d) ∷ (es ++ (Event.closer m ∷ [])))
    unfolding payload place_all place place_all_tagged place_tagged
    paired-union =
        let end : List Event = Event.closer m ∷ [] in
        let tag : Tagged → Tagged = place_tagged T (Event.narrow m path (Narrowing.Tag d)) in
        record {
          same = λ k.
              append-tagged T es end (tag k) ∙ ap (place_tagged T (Event.closer m)) (after-payload k) ∙ closes-same k
              ∙ ap (λ (b : SeekBuilder). tagged b k.opened) (sym (place_all-append T es end (place_narrowing m path (Narrowing.Tag d) k.level)));
          meet = λ k. (tt, all_meet T es end (tag k) (h.meet (tag k)) (subst (Meets (Event.closer m)) (sym (after-payload k)) (held-before k.level), tt));
        }

  paired : Claim (Paired T)
  unfolding place_all place place_all_tagged place_tagged
  paired =
      record {
        nothing = record { same = λ k. refl; meet = λ k. tt };
        next = paired-next;
        skips = record { same = λ k. refl; meet = λ k. (tt, tt) };
        bounds = λ x t. record { same = λ k. refl; meet = λ k. (tt, (tt, tt)) };
        constants = paired-constant;
        registers = λ m a at p. record { same = λ k. refl; meet = λ k. (tt, tt) };
        facts = λ m a p. record { same = λ k. refl; meet = λ k. (tt, tt) };
        own-fields = λ m at p. record { same = λ k. refl; meet = λ k. (tt, tt) };
        unions = paired-union;
      }

-- a level before its first event
abbrev pub untagged : Tagged
untagged = tagged new []

pub record CloserTidied (T : Tables) (events : List Event) : Type 0 where
  -- "the first half of that test can't fail while the second holds": wherever a closer stands among the events, if building holds after those before it, then it
  -- held before the tag that the closer ends
  pub held : (before after : List Event) (n : ℕ) → events ≡ before ++ (Event.closer n ∷ after)
      → (place_all_tagged T before untagged).level.building ≡ true → HeldBefore (place_all_tagged T before untagged).opened
  -- both placements make the same level
  pub same : (place_all_tagged T events untagged).level ≡ place_all T events new

met_at : (T : Tables) (before after : List Event) (n : ℕ) (k : Tagged) → AllMeet T (before ++ (Event.closer n ∷ after)) k
    → (place_all_tagged T before k).level.building ≡ true → HeldBefore (place_all_tagged T before k).opened
unfolding place_all_tagged
met_at T [] after n k h = h.0
met_at T (e ∷ before) after n k h = met_at T before after n (place_tagged T e k) h.1

-- of every level of an accepted file
pub closers-tidied : (T : Tables) → fault checks T ≡ None → Each (λ l. CloserTidied T l.events) (levels T)
unfolding levels starting
closers-tidied T f =
    let S = sound T (passed-all T f) in
    each-imply
    (λ l h. record {
      held = λ before after n e. met_at T before after n untagged (subst (λ es. AllMeet T es untagged) e (h.meet untagged));
      same = ap (λ (k : Tagged). k.level) (h.same untagged);
    })
    (levels-emit (Paired T) (paired T) T S (starting T) S.levels S.bindings)
