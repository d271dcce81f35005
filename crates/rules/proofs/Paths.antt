-- In an accepted file no path of the walk needs more steps than a path holds: not of an event, not of a select, not of a binding.
use Prim.Native.Nat.{ℕ, ◌<◌}
use lib.ListN.{length}
use Rattle.rules.specs.Base.{Each, done, more}
use Rattle.rules.specs.File.{Tables, FieldPath, Slot, LevelEntry}
use Rattle.rules.specs.Constant.{Const}
use Rattle.rules.specs.Events.{Narrowing, Event, Lists, Walk, bind, constrained, select, report, emit, brings}
use Rattle.rules.specs.Walk.{narrowing, walk_level}
use Rattle.rules.proofs.Each.{each_append, each-imply}
use Rattle.rules.proofs.Sound.{SlotOk, BindingOk, Sound}
use Rattle.rules.proofs.Keeps.{Short, fits-short, Keeps, narrow}
use Rattle.rules.proofs.Alone.{walk-keeps}

abbrev pub NarrowingShort : Narrowing → Type 0
NarrowingShort (Narrowing.Bytes bytes) = Unit {0}
NarrowingShort (Narrowing.Tag d) = Unit {0}
NarrowingShort (Narrowing.RegisterField a at) = Short at
NarrowingShort (Narrowing.FactId a) = Unit {0}
NarrowingShort (Narrowing.Prefix bytes) = Unit {0}
NarrowingShort (Narrowing.Fuzzy x d a) = Unit {0}
NarrowingShort (Narrowing.OwnField at) = Short at

abbrev pub EventShort : Event → Type 0
EventShort (Event.narrow n p x) = Short p × NarrowingShort x
EventShort Event.skip = Unit {0}
EventShort (Event.closer n) = Unit {0}
EventShort (Event.bound x t) = Unit {0}

abbrev pub SlotShort : Slot → Type 0
SlotShort (Slot.Row a p) = Unit {0}
SlotShort (Slot.Key a t) = Unit {0}
SlotShort (Slot.Derived a) = Unit {0}
SlotShort (Slot.Field a p t) = Short p
SlotShort (Slot.Value a t) = Unit {0}
SlotShort (Slot.Const n) = Unit {0}

-- the paths of a walk's events and selects
pub record PathsShort (w : Walk) : Type 0 where
  pub events : Each EventShort w.events
  pub selects : Each (λ s. Short s.path) w.lists.selects

abbrev pub StillShort : Walk → Walk → Type 0
StillShort w w' = PathsShort w → PathsShort w'

emits : (e : Event) (w : Walk) → EventShort e → StillShort w (emit e w)
unfolding emit
emits e w h s = record { events = each_append s.events (more h done); selects = s.selects }

emits_constant : (n : ℕ) (c : Const) (p : FieldPath) (w : Walk) → Short p → StillShort w (narrow n p (narrowing c) w)
unfolding narrowing
emits_constant n (Const.Bytes bytes) p w h = emits _ w (h, tt)
emits_constant n (Const.Prefix bytes) p w h = emits _ w (h, tt)
emits_constant n (Const.Fuzzy x d a) p w h = emits _ w (h, tt)

pub short-keeps : (T : Tables) → Keeps T StillShort
unfolding bind constrained select report brings
short-keeps T =
    record {
      same = λ w s. s;
      next = λ u v w g h s. h (g s);
      binds = λ x slot w e ok c s. record { events = s.events; selects = s.selects };
      constrains = λ x w s. record { events = s.events; selects = s.selects };
      selects = λ a p d w h s. record { events = s.events; selects = each_append s.selects (more h done) };
      reports = λ n c h w s. record { events = s.events; selects = s.selects };
      skips = λ w. emits Event.skip w tt;
      bounds = λ x t w s. emits Event.skip _ tt (emits (Event.bound x t) w tt s);
      constants = λ m n t c p w e h. emits_constant m c p w h;
      registers = λ m a at p w h h'. emits _ w (h', h);
      facts = λ m a p w h. emits _ w (h, tt);
      own-fields = λ m at p w h h'. emits _ w (h', h);
      brought = λ slot ty w s. record { events = s.events; selects = s.selects };
      unions = λ m d p w w' h g s. emits (Event.closer m) w' tt (g (emits _ w (h, tt) s));
    }

slot-short : (T : Tables) → Sound T → (s : Slot) → SlotOk T s → SlotShort s
slot-short T S (Slot.Row a p) h = tt
slot-short T S (Slot.Key a t) h = tt
slot-short T S (Slot.Derived a) h = tt
slot-short T S (Slot.Field a p t) h = fits-short T S p t h
slot-short T S (Slot.Value a t) h = tt
slot-short T S (Slot.Const n) h = tt

-- the file's own bindings
pub starts-short : (T : Tables) → Sound T → Each (λ b. SlotShort b.slot) T.bindings
starts-short T S = each-imply (λ b. slot-short T S b.slot) S.bindings

-- a level whose lists have short paths
pub level-short : (T : Tables) → Sound T → (l : LevelEntry) → l.predicate < length T.predicates → (lists : Lists) → Each (BindingOk T) lists.bindings → Each (λ s. Short s.path) lists.selects → PathsShort (walk_level T l lists) × Each (λ b. SlotShort b.slot) (walk_level T l lists).lists.bindings
level-short T S l h lists fit s =
    let a = walk-keeps T S StillShort (short-keeps T) l h lists fit in
    (a.0 (record { events = done; selects = s }), each-imply (λ b. slot-short T S b.slot) a.1)
