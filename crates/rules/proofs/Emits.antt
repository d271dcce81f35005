-- The events that a walk emits: a claim P about them is shown for each primitive of the walk, and then holds of every level of an accepted file.
use mathlib.Core.List.{List, [], ◌∷◌, ◌++◌, append-nil, append_assoc}
use mathlib.Core.Path.{◌≡◌, refl, sym, ap, ◌∙◌, subst}
use Prim.Native.Nat.{ℕ, ◌<◌}
use lib.ListN.{length}
use Rattle.rules.specs.Base.{Each, done, more}
use Rattle.rules.specs.File.{Tables, FieldPath, LevelEntry}
use Rattle.rules.specs.Constant.{Const}
use Rattle.rules.specs.Events.{Narrowing, Event, Lists, Walk, bind, constrained, select, report, emit, brings}
use Rattle.rules.specs.Walk.{narrowing, walk_level}
use Rattle.rules.specs.Levels.{level_of, level, levels_from}
use Rattle.rules.proofs.Sound.{BindingOk, Sound}
use Rattle.rules.proofs.Keeps.{Keeps, narrow, skip}
use Rattle.rules.proofs.Alone.{walk-keeps}

-- what has to be shown of a claim
pub record Claim (P : List Event → Type 0) : Type 0 where
  pub nothing : P []
  pub next : (es fs : List Event) → P es → P fs → P (es ++ fs)
  pub skips : P (Event.skip ∷ [])
  pub bounds : (x t : ℕ) → P (Event.bound x t ∷ Event.skip ∷ [])
  pub constants : (m : ℕ) (p : FieldPath) (c : Const) → P (Event.narrow m p (narrowing c) ∷ [])
  pub registers : (m a : ℕ) (at p : FieldPath) → P (Event.narrow m p (Narrowing.RegisterField a at) ∷ [])
  pub facts : (m a : ℕ) (p : FieldPath) → P (Event.narrow m p (Narrowing.FactId a) ∷ [])
  pub own-fields : (m : ℕ) (at p : FieldPath) → P (Event.narrow m p (Narrowing.OwnField at) ∷ [])
  pub unions : (m d : ℕ) (p : FieldPath) (es : List Event) → P es → P (Event.narrow m p (Narrowing.Tag d) ∷ (es ++ (Event.closer m ∷ [])))

-- from one walk to another
record Emits (P : List Event → Type 0) (w w' : Walk) : Type 0 where
  emitted : List Event
  events-end : w'.events ≡ w.events ++ emitted
  claimed : P emitted

module _ (P : List Event → Type 0) (C : Claim P) where
  emits_none : (w w' : Walk) → w'.events ≡ w.events → Emits P w w'
  emits_none w w' e = record { emitted = []; events-end = e ∙ sym (append-nil w.events); claimed = C.nothing }

  emits-next : (u v w : Walk) → Emits P u v → Emits P v w → Emits P u w
  emits-next u v w a b =
      record {
        emitted = a.emitted ++ b.emitted;
        events-end = b.events-end ∙ ap (λ l. l ++ b.emitted) a.events-end ∙ append_assoc u.events a.emitted b.emitted;
        claimed = C.next a.emitted b.emitted a.claimed b.claimed;
      }

  emits_one : (w : Walk) (e : Event) → P (e ∷ []) → Emits P w (emit e w)
  unfolding emit
  emits_one w e h = record { emitted = e ∷ []; events-end = refl; claimed = h }

  emits-bound : (x t : ℕ) (w : Walk) → Emits P w (skip (emit (Event.bound x t) w))
  unfolding emit
  emits-bound x t w = record { emitted = Event.bound x t ∷ Event.skip ∷ []; events-end = append_assoc w.events (Event.bound x t ∷ []) (Event.skip ∷ []); claimed = C.bounds x t }

  emits-union : (m d : ℕ) (p : FieldPath) (w w' : Walk) → Emits P (narrow m p (Narrowing.Tag d) w) w' → Emits P w (emit (Event.closer m) w')
  unfolding emit
  emits-union m d p w w' a =
      let tag = Event.narrow m p (Narrowing.Tag d) in
      let end = Event.closer m ∷ [] in
      record {
        emitted = tag ∷ (a.emitted ++ end);
        events-end = ap (λ l. l ++ end) a.events-end ∙ append_assoc (w.events ++ (tag ∷ [])) a.emitted end ∙ append_assoc w.events (tag ∷ []) (a.emitted ++ end);
        claimed = C.unions m d p a.emitted a.claimed;
      }

  emits-keeps : (T : Tables) → Keeps T (Emits P)
  unfolding bind constrained select report brings
  emits-keeps T =
      record {
        same = λ w. emits_none w w refl;
        next = emits-next;
        binds = λ x slot w e ok c. emits_none w _ refl;
        constrains = λ x w. emits_none w _ refl;
        selects = λ a p d w s. emits_none w _ refl;
        reports = λ n c h w. emits_none w _ refl;
        skips = λ w. emits_one w Event.skip C.skips;
        bounds = emits-bound;
        constants = λ m n t c p w e s. emits_one w _ (C.constants m p c);
        registers = λ m a at p w s s'. emits_one w _ (C.registers m a at p);
        facts = λ m a p w s. emits_one w _ (C.facts m a p);
        own-fields = λ m at p w s s'. emits_one w _ (C.own-fields m at p);
        brought = λ slot ty w. emits_none w _ refl;
        unions = λ m d p w w' s h. emits-union m d p w w' h;
      }

  module _ (T : Tables) (S : Sound T) where
    -- the events of one level's walk
    pub level-emits : (l : LevelEntry) → l.predicate < length T.predicates → (lists : Lists) → Each (BindingOk T) lists.bindings → P (walk_level T l lists).events
    level-emits l h lists fit =
        let a = (walk-keeps T S (Emits P) (emits-keeps T) l h lists fit).0 in
        subst P (sym a.events-end) a.claimed

    -- of each level of a list
    pub levels-emit : (start : Lists) {entries : List LevelEntry} → Each (λ l. l.predicate < length T.predicates) entries → Each (BindingOk T) start.bindings → Each (λ l. P l.events) (levels_from T start entries)
    unfolding levels_from level level_of
    levels-emit start done fit = done
    levels-emit start (more {x = l} {xs = ls} p ps) fit =
        more (level-emits l p start fit) (levels-emit (walk_level T l start).lists ps (walk-keeps T S (Emits P) (emits-keeps T) l p start fit).1)
