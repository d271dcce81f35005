-- What the compile writes is accepted by the plan reader, and read as the very plan it was made from.
use mathlib.Core.Bool.{Bool, true, false}
use mathlib.Core.List.{List, [], ◌∷◌}
use Rattle.std.specs.Prelude.{None}
use mathlib.Core.Path.{◌≡◌, refl, sym, ap, ◌∙◌, subst}
use Prim.Native.Nat.{ℕ, zero, suc, ◌≤◌, ◌<◌, min}
use native.Mathlib.Omega.{arith}
use borrow.Author.Tests.{le-leb}
use lib.Dec.{leb}
use lib.ListN.{length, take, drop, length-append}
use Rattle.rules.specs.Base.{Each, done, more, all, concat_map}
use Rattle.rules.specs.Limits.{file_limit, work_limit, plan_limit}
use Rattle.rules.specs.File.{Tables, FieldPath, Slot, Binding, LevelEntry}
use Rattle.rules.specs.Read.{got, file}
use Rattle.rules.specs.Checks.{checks, fault}
use Rattle.rules.specs.Events.{Select, Narrowing, Event, Lists}
use Rattle.rules.specs.Placement.{new}
use Rattle.rules.specs.Levels.{Level, starting, level_of, level, levels_from, levels, left_by, any_mistyped}
use Rattle.rules.specs.Plan
use Rattle.rules.specs.Plan.{Plan, plan_level, plan_of, plan, level_bytes, plan_bytes}
use Rattle.rules.specs.Compile.{Outcome, written, walked, checked, reading, outcome, compiled, compile}
use Rattle.rules.specs.Demand1.{Byte}
use Rattle.rules.specs.Demand3.{Kept}
use Rattle.rules.specs.Reader
use Rattle.rules.specs.Reader.{level_rules}
use Rattle.rules.proofs.Cases.{by-test, leb-le}
use Rattle.rules.proofs.Each.{each_both, each_map, each-unmap}
use Rattle.rules.proofs.Sound.{SlotOk, BindingOk, Sound, sound, passed-all}
use Rattle.rules.proofs.Keeps.{Short, fits-short}
use Rattle.rules.proofs.Alone.{walk-keeps}
use Rattle.rules.proofs.Paths.{NarrowingShort, EventShort, StillShort, short-keeps, level-short}
use Rattle.rules.proofs.Demand1.{ended}
use Rattle.rules.proofs.AddsUp.{adds-up}
use Rattle.rules.proofs.Demand3.{one-level, outcome-kept, returned-front}
use Rattle.rules.proofs.ReaderReads.{PathFits, SlotFits, BindingFits, SelectFits, NarrowingFits, LevelFits, PlanFits, takes-plan}
use Rattle.rules.proofs.ReaderTables.{PathWithin, SlotWithin, BindingWithin, EntryWithin, TablesWithin, tables-within}
use Rattle.rules.proofs.ReaderWithin.{SelectWithin, NarrowingWithin, EventWithin, ListsWithin, level-within}
use Rattle.rules.proofs.ReaderPlaced.{EventFits, Made, made-new, place-all}
use Rattle.rules.proofs.ReaderLevels.{level-rules, level-fits}

-- numbers within their fields and no more steps than a path holds
path-fits : (p : FieldPath) → PathWithin p → Short p → PathFits p
path-fits p h s = record { field = h.field; count = s; steps = h.steps }

narrowing-fits : (x : Narrowing) → NarrowingWithin x → NarrowingShort x → NarrowingFits x
narrowing-fits (Narrowing.Bytes bytes) h s = tt
narrowing-fits (Narrowing.Tag d) h s = h
narrowing-fits (Narrowing.RegisterField a p) h s = (h.0, path-fits p h.1 s)
narrowing-fits (Narrowing.FactId a) h s = h
narrowing-fits (Narrowing.Prefix bytes) h s = tt
narrowing-fits (Narrowing.Fuzzy x d a) h s = h
narrowing-fits (Narrowing.OwnField p) h s = path-fits p h s

event-fits : (e : Event) → EventWithin e → EventShort e → EventFits e
event-fits (Event.narrow n p x) h s = (h.0, path-fits p h.1 s.0, narrowing-fits x h.2 s.1)
event-fits Event.skip h s = tt
event-fits (Event.closer n) h s = h
event-fits (Event.bound x t) h s = tt

select-fits : (s : Select) → SelectWithin s → Short s.path → SelectFits s
select-fits s h l = record { address = h.address; path = path-fits s.path h.path l; disc = h.disc }

each-drop : {A : Type 0} {P : A → Type 0} (n : ℕ) {xs : List A} → Each P xs → Each P (drop n xs)
each-drop zero h = h
each-drop (suc n) done = done
each-drop (suc n) (more p h) = each-drop n h

all_pass : {A : Type 0} (p : A → Bool) {xs : List A} → Each (λ x. p x ≡ true) xs → all p xs ≡ true
unfolding all
all_pass p done = refl
all_pass p (more {x} {xs} e h) = ap (λ (b : Bool). elim b as (λ _. Bool) [ true ↦ all p xs | false ↦ false ]) e ∙ all_pass p h

-- each of the runs of bytes is no longer than all of them
few-each : {A : Type 0} (f : A → List ℕ) (most : ℕ) (xs : List A) → length (concat_map f xs) ≤ most → Each (λ x. length (f x) ≤ most) xs
unfolding concat_map
few-each f most [] h = done
few-each f most (x ∷ xs) h =
    let sum = length-append (f x) (concat_map f xs) in
    more {x = x} {xs = xs} (omega arith) (few-each f most xs (omega arith))

levels-bytes : (p : Plan) → length (concat_map level_bytes p.levels) ≤ length (plan_bytes p)
unfolding plan_bytes Plan.counted
levels-bytes p = simp length-append (omega arith)

-- what a level begins from and leaves
record Lent (T : Tables) (l : Lists) : Type 0 where
  fit : Each (BindingOk T) l.bindings
  within : ListsWithin l
  short : Each (λ s. Short s.path) l.selects

record Built (T : Tables) (l : Level) : Type 0 where
  kept : Kept T l.events l.built
  made : Made l.built

module _ (T : Tables) (S : Sound T) (N : TablesWithin T) where
  slot-fits : (s : Slot) → SlotOk T s → SlotWithin s → SlotFits s
  slot-fits (Slot.Row a p) k h = h
  slot-fits (Slot.Key a t) k h = h
  slot-fits (Slot.Derived a) k h = h
  slot-fits (Slot.Field a p t) k h = (h.0, path-fits p h.1 (fits-short T S p t k), h.2)
  slot-fits (Slot.Value a t) k h = h
  slot-fits (Slot.Const n) k h = h

  binding-fits : (b : Binding) → BindingOk T b → BindingWithin b → BindingFits b
  binding-fits b k h = record { name = h.name; slot = slot-fits b.slot k h.slot }

  module _ (e : LevelEntry) (p : e.predicate < length T.predicates) (h : EntryWithin e) (start : Lists) (s : Lent T start) where
    built : Built T (level T e start)
    unfolding level level_of
    built =
        let short = (level-short T S e p start s.fit s.short).0 in
        record {
          kept = (one-level T S e p start s.fit).kept;
          made = place-all T N.comparisons new (each_both event-fits (level-within T N e h start s.within).events short.events) made-new;
        }

    leaves : Lent T (level T e start).left
    unfolding level level_of
    leaves =
        record {
          fit = (walk-keeps T S StillShort (short-keeps T) e p start s.fit).1;
          within = (level-within T N e h start s.within).lists;
          short = (level-short T S e p start s.fit s.short).0.selects;
        }

  record Ran (start : Lists) (entries : List LevelEntry) : Type 0 where
    each : Each (Built T) (levels_from T start entries)
    left : Lent T (left_by start (levels_from T start entries))

  ran : {entries : List LevelEntry} → Each (λ l. l.predicate < length T.predicates) entries → Each EntryWithin entries → (start : Lists) → Lent T start → Ran start entries
  unfolding levels_from left_by
  ran done g start s = record { each = done; left = s }
  ran (more {x = e} p ps) (more h hs) start s =
      let r = ran ps hs (level T e start).left (leaves e p h start s) in
      record { each = more (built e p h start s) r.each; left = r.left }

  starts : Lent T (starting T)
  unfolding starting
  starts = record { fit = S.bindings; within = record { bindings = N.bindings; constrained = done; selects = done; diagnostics = done }; short = done }

  whole : Ran (starting T) T.levels
  whole = ran S.levels N.levels (starting T) starts

  plan-keeps : all level_rules (plan T).levels ≡ true
  unfolding plan plan_of levels
  plan-keeps = all_pass level_rules (each_map plan_level (λ l b. level-rules (plan_level l) (adds-up l b.kept)) whole.each)

  plan-fits : length (plan_bytes (plan T)) ≤ plan_limit → PlanFits (plan T)
  unfolding plan plan_of levels
  plan-fits h =
      let few = each-unmap (λ l. length (level_bytes l) ≤ plan_limit) plan_level (levels T) (few-each level_bytes plan_limit (plan T).levels (omega (arith, levels-bytes (plan T)))) in
      let left = whole.left in
      record {
        levels = each_map {P = λ l. LevelFits (plan_level l)} plan_level (λ l b. b) (each_both (λ l b f. level-fits T l b.kept b.made f) whole.each few);
        bindings = each-drop (length T.bindings) (each_both binding-fits left.fit left.within.bindings);
        constrained = left.within.constrained;
        selects = each_both select-fits left.within.selects left.short;
        diagnostics = left.within.diagnostics;
      }

-- An accepted file's plan.
pub record Origin (bytes out : List ℕ) : Type 0 where
  pub tables : Tables
  pub reads : file bytes ≡ got tables []
  pub accepted : fault checks tables ≡ None
  pub written : plan_bytes (plan tables) ≡ out
  pub short : length out ≤ plan_limit

refused-not : {A : Type 0} (n : ℕ) (out : List ℕ) → Outcome.refused n ≡ Outcome.planned out → A
refused-not n out e = absurd (let z : ◌≡◌ {A = ℕ} 0 1 = cc in omega arith)

outcome-reading : (bytes : List ℕ) (room area : ℕ) (out : List ℕ) → outcome bytes room area ≡ Outcome.planned out → reading room (file bytes) ≡ Outcome.planned out
unfolding outcome
outcome-reading bytes room area out =
    by-test (λ (r : Outcome). r ≡ Outcome.planned out → reading room (file bytes) ≡ Outcome.planned out) (leb (length bytes) file_limit)
    (λ q. by-test (λ (r : Outcome). r ≡ Outcome.planned out → reading room (file bytes) ≡ Outcome.planned out) (leb work_limit area) (λ p e. e) (λ p e. refused-not 2 out e))
    (λ q e. refused-not 1 out e)

written_is : (room : ℕ) (bytes out : List ℕ) → written room bytes ≡ Outcome.planned out → (bytes ≡ out) × (length bytes ≤ plan_limit)
unfolding written
written_is room bytes out =
    by-test (λ (r : Outcome). r ≡ Outcome.planned out → (bytes ≡ out) × (length bytes ≤ plan_limit)) (leb (length bytes) (min plan_limit room))
    (λ q e. let l : length bytes ≤ min plan_limit room = leb-le _ _ q in (cc, omega arith))
    (λ q e. refused-not 15 out e)

pub origin : (bytes : List ℕ) (room area : ℕ) (out : List ℕ) → outcome bytes room area ≡ Outcome.planned out → Origin bytes out
unfolding reading checked walked
origin bytes room area out e =
    let d = outcome-kept bytes room area out e in
    let T = d.tables in
    let r : reading room (got T []) ≡ Outcome.planned out = subst (λ x. reading room x ≡ Outcome.planned out) d.reads (outcome-reading bytes room area out e) in
    let c : checked room T None ≡ Outcome.planned out = subst (λ o. checked room T o ≡ Outcome.planned out) d.accepted r in
    let p : written room (plan_bytes (plan T)) ≡ Outcome.planned out =
    by-test (λ (r : Outcome). r ≡ Outcome.planned out → written room (plan_bytes (plan T)) ≡ Outcome.planned out) (any_mistyped (levels T)) (λ m q. refused-not 19 out q) (λ m q. q) c in
    let w = written_is room (plan_bytes (plan T)) out p in
    record { tables = T; reads = d.reads; accepted = d.accepted; written = w.0; short = omega (arith, w.1, ap length w.0) }

-- Of every file of bytes: the plan that its compile writes is read as the plan of its tables, and every level keeps the rules.
pub record ReadAgain (T : Tables) (out : List ℕ) : Type 0 where
  pub read : Reader.read out ≡ got (plan T) []
  pub kept : all level_rules (plan T).levels ≡ true
  pub accepted : (room : ℕ) → length out ≤ room → Reader.outcome out room ≡ Outcome.planned out

judged-is : (p : Plan) → all level_rules p.levels ≡ true → Reader.judged p ≡ Outcome.planned (plan_bytes p)
unfolding Reader.judged
judged-is p e = ap (λ (b : Bool). elim b as (λ _. Outcome) [ true ↦ Outcome.planned (plan_bytes p) | false ↦ Outcome.refused 18 ]) e

outcome-is : (out : List ℕ) (room : ℕ) → length out ≤ min plan_limit room → Reader.outcome out room ≡ Reader.finished (Reader.read out)
unfolding Reader.outcome
outcome-is out room h = ap (λ (b : Bool). elim b as (λ _. Outcome) [ true ↦ Reader.finished (Reader.read out) | false ↦ Outcome.refused 15 ]) (le-leb _ _ h)

pub read_again : (bytes : List ℕ) → Each Byte bytes → (room area : ℕ) (out : List ℕ) → outcome bytes room area ≡ Outcome.planned out
    → (T : Tables) × (file bytes ≡ got T []) × ReadAgain T out
unfolding Reader.read Reader.numbered Reader.finished
read_again bytes h room area out e =
    let o = origin bytes room area out e in
    let T = o.tables in
    let S = sound T (passed-all T o.accepted) in
    let N = tables-within bytes h T [] o.reads in
    let few : length (plan_bytes (plan T)) ≤ plan_limit = omega (arith, o.short, ap length o.written) in
    let again : Reader.read out ≡ got (plan T) []
    = ap Reader.read (sym o.written) ∙ ap Reader.numbered (takes-plan (plan T) (plan-fits T S N few) (omega arith)) in
    let kept = plan-keeps T S N in (
      T,
      o.reads,
      record {
        read = again;
        kept = kept;
        accepted = λ room' l. outcome-is out room' (omega (arith, o.short)) ∙ ap Reader.finished again ∙ judged-is (plan T) kept ∙ ap Outcome.planned o.written;
      },
    )

-- The same of a call: where it returned a length, this is what stands at the front of the buffer that it left.
pub compiled-again : (bytes plan' work : List ℕ) → Each Byte bytes → (compile bytes plan' work).result < 65536
    → (T : Tables) × (file bytes ≡ got T []) × ReadAgain T (take (compile bytes plan' work).result (compile bytes plan' work).plan)
unfolding compile compiled
compiled-again bytes plan' work h =
    returned-front (λ out. (T : Tables) × (file bytes ≡ got T []) × ReadAgain T out) (length plan') _ (ended (length plan') bytes (length work))
    (read_again bytes h (length plan') (length work))
