-- The memory computes what the written rules say: for every accepted file the same plan, and refusal 15 exactly where the rules' plan is too long.
use mathlib.Core.Bool.{Bool, true, false}
use mathlib.Core.List.{List, [], ◌∷◌, ◌++◌, map, append-nil, append_assoc}
use Rattle.std.specs.Prelude.{None}
use mathlib.Core.Path.{◌≡◌, refl, sym, ap, ◌∙◌, subst}
use Prim.Native.Nat.{ℕ, suc, ◌+◌, ◌≤◌, ◌<◌, min}
use native.Mathlib.Nat.{zero-add}
use native.Mathlib.Omega.{arith}
use borrow.Author.Tests.{leb-true, leb-false, le-leb, lt-leb}
use lib.Dec.{leb}
use lib.ListN.{length, take, drop, length-append, length-map, length-replicate}
use lib.Seq.{sets, length-sets}
use Rattle.rules.specs.Base.{Each, done, more, concat_map}
use Rattle.rules.specs.Limits.{file_limit, work_limit, plan_limit}
use Rattle.rules.specs.File.{Tables, Binding, LevelEntry}
use Rattle.rules.specs.Read as Read
use Rattle.rules.specs.Checks.{checks, fault}
use Rattle.rules.specs.Events.{Lists}
use Rattle.rules.specs.Walk.{walk_level}
use Rattle.rules.specs.Levels as LevelsRules
use Rattle.rules.specs.Plan as Plan
use Rattle.rules.specs.Compile as Compile
use Rattle.rules.specs.Compile.{Outcome}
use Rattle.rules.specs.Demand1.{Byte}
use Rattle.rules.specs.Demand3.{Adds}
use Rattle.rules.proofs.Cases.{by-test, true≢false, pick}
use Rattle.rules.proofs.Each.{each_both}
use Rattle.rules.proofs.Alone.{walk-keeps}
use Rattle.rules.proofs.Lists.{AddsTo, adds-keeps, Onwards}
use Rattle.rules.proofs.Numbers.{bounded as read-bounded}
use Rattle.rules.proofs.Sound.{BindingOk, Sound, Passed, passed-all, sound}
use Rattle.state.specs.State.{State, stop, constrained_at, diagnostics_at, backwards}
use Rattle.state.specs.Levels.{page_length, Written, level, levels, constrained_count, diagnostic_count, lists, finished, started, unpaged, compiled, written_outcome}
use Rattle.state.proofs.Seqs.{sets-append, slice-sets-at, concat_map-append, length-drop-append}
use Rattle.state.proofs.Mem.{Mem, mem-none, down-low, u16-length, diagnostic-length, new_is}
use Rattle.state.proofs.Growth.{list_size}
use Rattle.state.proofs.Names.{var-names}
use Rattle.state.proofs.Sim.{Numbered}
use Rattle.state.proofs.Leveled.{EntryOk, Between, After, ends-level}

-- The plan's bytes after its levels: the four lists.
abbrev list_bytes : Tables → Lists → List ℕ
list_bytes T l =
    Plan.counted Plan.binding (drop (length T.bindings) l.bindings) ++ Plan.counted Plan.u16 l.constrained ++ Plan.counted Plan.select l.selects
    ++ Plan.counted Plan.diagnostic l.diagnostics

-- the levels' bytes, and the lists that they leave
abbrev levels_bytes : Tables → Lists → List LevelEntry → List ℕ
levels_bytes T l entries = concat_map Plan.level_bytes (map Plan.plan_level (LevelsRules.levels_from T l entries))

abbrev left : Tables → Lists → List LevelEntry → Lists
left T l entries = LevelsRules.left_by l (LevelsRules.levels_from T l entries)

list-size : (T : Tables) (l : Lists) → list_size T l ≤ length (list_bytes T l)
unfolding list_size Plan.counted
list-size T l =
    let b = Plan.counted Plan.binding (drop (length T.bindings) l.bindings) in
    let c = Plan.counted Plan.u16 l.constrained in
    let s = Plan.counted Plan.select l.selects in
    let d = Plan.counted Plan.diagnostic l.diagnostics in
    omega (
      arith,
      length-append (b ++ c ++ s) d,
      length-append (b ++ c) s,
      length-append b c,
      length-append (Plan.u16 (length (drop (length T.bindings) l.bindings))) (concat_map Plan.binding (drop (length T.bindings) l.bindings)),
      length-append (Plan.u16 (length l.constrained)) (concat_map Plan.u16 l.constrained),
      length-append (Plan.u16 (length l.selects)) (concat_map Plan.select l.selects),
      length-append (Plan.u16 (length l.diagnostics)) (concat_map Plan.diagnostic l.diagnostics),
    )

-- lists that go on are no shorter
onwards-size : {A : Type 0} (encode : A → List ℕ) (xs ys : List A) → Onwards xs ys → length (concat_map encode xs) ≤ length (concat_map encode ys)
onwards-size encode xs ys o =
    omega (arith, ap (λ (l : List _). length (concat_map encode l)) o.1, ap length (concat_map-append encode xs o.0), length-append (concat_map encode xs) (concat_map encode o.0))

adds-size : (T : Tables) (l l' : Lists) → Adds l l' → list_size T l ≤ list_size T l'
unfolding list_size
adds-size T l l' a =
    omega (
      arith,
      length-drop-append Plan.binding (length T.bindings) l.bindings a.bindings,
      ap (λ (bs : List Binding). length (concat_map Plan.binding (drop (length T.bindings) bs))) a.bindings-end,
      onwards-size Plan.u16 l.constrained l'.constrained a.constrained-end,
      onwards-size Plan.select l.selects l'.selects a.selects-end,
      onwards-size Plan.diagnostic l.diagnostics l'.diagnostics a.diagnostics-end,
    )

-- The lists that the runs hold are the plan's.
lists-are : (T : Tables) (l : Lists) (s : State) → Mem T l s.ends s.work → lists s ≡ list_bytes T l
unfolding lists constrained_count diagnostic_count Plan.counted
lists-are T l s m =
    let bound = new_is T l m.new m.bindings-are in
    let bindings = m.bindings.holds ∙ ap (concat_map Plan.binding) bound in
    let names : constrained_count s.ends ≡ length l.constrained = omega (arith, down-low Plan.u16 2 u16-length constrained_at s.ends.constrained l.constrained s.work m.constrained) in
    let reports : diagnostic_count s.ends ≡ length l.diagnostics = omega (arith, down-low Plan.diagnostic 3 diagnostic-length diagnostics_at s.ends.diagnostics l.diagnostics s.work m.diagnostics) in
    let constrained = ap (λ (n : ℕ). backwards 2 n constrained_at s.work) names ∙ m.constrained.holds in
    let diagnostics = ap (λ (n : ℕ). backwards 3 n diagnostics_at s.work) reports ∙ m.diagnostics.holds in
    λ i.
    Plan.u16 ((m.binding_count ∙ ap length bound) i) ++ bindings i
    ++ (Plan.u16 (names i) ++ constrained i)
    ++ (Plan.u16 (m.select_count i) ++ m.selects.holds i)
    ++ (Plan.u16 (reports i) ++ diagnostics i)

-- The list of levels.
levels-over : (T : Tables) (entries : List LevelEntry) (w : Written) → w.state.over ≡ true → levels T entries w ≡ w
unfolding levels
levels-over T [] w e = refl
levels-over T (entry ∷ entries) w e = by-test (λ (r : Written). r ≡ w) w.state.over (λ q. refl) (λ q. absurd (true≢false (sym e ∙ q)))

levels-live : (T : Tables) (entry : LevelEntry) (entries : List LevelEntry) (w : Written) → w.state.over ≡ false → levels T (entry ∷ entries) w ≡ levels T entries (level T entry w)
unfolding levels
levels-live T entry entries w e = by-test (λ (r : Written). r ≡ levels T entries (level T entry w)) w.state.over (λ q. absurd (true≢false (sym q ∙ e))) (λ q. refl)

-- Refusal 15, or the plan.
written-long : (room : ℕ) (bytes : List ℕ) → min plan_limit room < length bytes → Compile.written room bytes ≡ Outcome.refused 15
unfolding Compile.written
written-long room bytes h = by-test (λ (r : Outcome). r ≡ Outcome.refused 15) (leb (length bytes) (min plan_limit room)) (λ q. absurd (true≢false (sym q ∙ lt-leb (length bytes) (min plan_limit room) h))) (λ q. refl)

written-short : (room : ℕ) (bytes : List ℕ) → length bytes ≤ min plan_limit room → Compile.written room bytes ≡ Outcome.planned bytes
unfolding Compile.written
written-short room bytes h = by-test (λ (r : Outcome). r ≡ Outcome.planned bytes) (leb (length bytes) (min plan_limit room)) (λ q. refl) (λ q. absurd (true≢false (sym (le-leb (length bytes) (min plan_limit room) h) ∙ q)))

module _ (T : Tables) (S : Sound T) (numbered : Numbered T) (base : List ℕ) where
  next-fit : (entry : LevelEntry) → EntryOk T entry → (l : Lists) → Each (BindingOk T) l.bindings → Each (BindingOk T) (walk_level T entry l).lists.bindings
  next-fit entry ok l fit = (walk-keeps T S AddsTo (adds-keeps T) entry ok.predicate l fit).1

  left-size : {entries : List LevelEntry} → Each (EntryOk T) entries → (l : Lists) → Each (BindingOk T) l.bindings → list_size T l ≤ list_size T (left T l entries)
  unfolding LevelsRules.levels_from LevelsRules.left_by LevelsRules.level LevelsRules.level_of
  left-size done l fit = omega arith
  left-size (more {x = entry} ok oks) l fit =
      omega (arith, adds-size T l (walk_level T entry l).lists (walk-keeps T S AddsTo (adds-keeps T) entry ok.predicate l fit).0, left-size oks (walk_level T entry l).lists (next-fit entry ok l fit))

  -- one level, then the rest
  after_next : (l l' : Lists) (front bytes rest : List ℕ) (entries : List LevelEntry) (r : Written) → After T base l (front ++ bytes) (length front + length bytes + list_size T l) r
      → (r.state.over ≡ false → Between T base l (front ++ bytes) r → After T base l' (front ++ bytes ++ rest) (length (front ++ bytes) + length rest + list_size T l') (levels T entries r))
      → list_size T l ≤ list_size T l' → After T base l' (front ++ (bytes ++ rest)) (length front + length (bytes ++ rest) + list_size T l') (levels T entries r)
  after_next l l' front bytes rest entries r a k h = go r.state.over refl
    where
      go : (o : Bool) → r.state.over ≡ o → After T base l' (front ++ (bytes ++ rest)) (length front + length (bytes ++ rest) + list_size T l') (levels T entries r)
      go true e =
          subst (After T base l' (front ++ (bytes ++ rest)) (length front + length (bytes ++ rest) + list_size T l')) (sym (levels-over T entries r e))
          (record { live = λ q. absurd (true≢false (sym e ∙ q)); dead = λ q. omega (arith, a.dead e, length-append bytes rest) })
      go false e =
          let n = k e (a.live e) in
          record {
            live = λ q. subst (λ (f : List ℕ). Between T base l' f (levels T entries r)) (append_assoc front bytes rest) (n.live q);
            dead = λ q. omega (arith, n.dead q, length-append front bytes, length-append bytes rest);
          }

  ends-levels : {entries : List LevelEntry} → Each (EntryOk T) entries → (l : Lists) → Each (BindingOk T) l.bindings → (front : List ℕ) (w : Written) → w.state.over ≡ false → Between T base l front w
      → After T base (left T l entries) (front ++ levels_bytes T l entries) (length front + length (levels_bytes T l entries) + list_size T (left T l entries)) (levels T entries w)
  unfolding LevelsRules.levels_from LevelsRules.left_by LevelsRules.level LevelsRules.level_of Plan.plan_level concat_map levels
  ends-levels done l fit front w o b =
      record { live = λ q. subst (λ (f : List ℕ). Between T base l f w) (sym (append-nil front)) b; dead = λ q. absurd (true≢false (sym q ∙ o)) }
  ends-levels (more {x = entry} {xs = entries} ok oks) l fit front w o b =
      let l' = (walk_level T entry l).lists in
      let fit' = next-fit entry ok l fit in
      subst (After T base (left T l' entries) (front ++ levels_bytes T l (entry ∷ entries)) (length front + length (levels_bytes T l (entry ∷ entries)) + list_size T (left T l' entries))) (sym (levels-live T entry entries w o))
      (after_next l' (left T l' entries) front (Plan.level_bytes (Plan.plan_level (LevelsRules.level T entry l))) (levels_bytes T l' entries) entries (level T entry w)
      (ends-level T S numbered base entry ok l fit front w o b)
      (λ e b'. ends-levels oks l' fit' (front ++ Plan.level_bytes (Plan.plan_level (LevelsRules.level T entry l))) (level T entry w) e b')
      (left-size oks l' fit'))

  -- The end: the lists after the levels, if there is room.
  finish : (l : Lists) (front : List ℕ) (w : Written) → w.state.over ≡ false → Between T base l front w → written_outcome (finished w) ≡ Compile.written (length base) (front ++ list_bytes T l)
  unfolding finished written_outcome stop
  finish l front w o b =
      by-test (λ (r : Written). written_outcome r ≡ Compile.written (length base) all) w.state.over (λ q. absurd (true≢false (sym q ∙ o)))
      (λ _. by-test (λ (r : Written). written_outcome r ≡ Compile.written (length base) all) (leb (w.at + length (lists w.state)) (min plan_limit (length w.state.plan)))
      (λ q. let fits = leb-true (w.at + length (lists w.state)) (min plan_limit (length w.state.plan)) q in ap Outcome.planned (whole fits) ∙ sym (written-short (length base) all (omega (arith, fits, sizes, rooms))))
      (λ q. sym (written-long (length base) all (omega (arith, leb-false (w.at + length (lists w.state)) (min plan_limit (length w.state.plan)) q, sizes, rooms)))))
    where
      all : List ℕ
      all = front ++ list_bytes T l

      listed : lists w.state ≡ list_bytes T l
      listed = lists-are T l w.state b.mem

      sizes : w.at + length (lists w.state) ≡ length all
      sizes = omega (arith, b.at, ap length listed, length-append front (list_bytes T l))

      rooms : length w.state.plan ≡ length base
      rooms = ap length b.plan ∙ length-sets base 0 front

      whole : w.at + length (lists w.state) ≤ min plan_limit (length w.state.plan) → take (w.at + length (lists w.state)) (sets w.state.plan w.at (lists w.state)) ≡ all
      whole h =
          (λ i. take (sizes i) (sets (b.plan i) ((b.at ∙ sym (zero-add (length front))) i) (listed i)))
          ∙ ap (take (length all)) (sym (sets-append base 0 front (list_bytes T l)))
          ∙ ap (λ (k : ℕ). take k (sets base 0 all)) (sym (zero-add (length all)))
          ∙ slice-sets-at 0 0 base all (omega arith) (omega (arith, h, sizes, rooms))

  finish-over : (w : Written) (bytes : List ℕ) → w.state.over ≡ true → min plan_limit (length base) < length bytes → written_outcome (finished w) ≡ Compile.written (length base) bytes
  unfolding finished written_outcome
  finish-over w bytes e h =
      by-test (λ (r : Written). written_outcome r ≡ Compile.written (length base) bytes) w.state.over
      (λ _. by-test (λ (r : Outcome). r ≡ Compile.written (length base) bytes) w.state.over (λ _. sym (written-long (length base) bytes h)) (λ q. absurd (true≢false (sym e ∙ q))))
      (λ q. absurd (true≢false (sym e ∙ q)))

-- The rules' plan: its levels, then the lists that they leave.
levels-length : (T : Tables) (l : Lists) (entries : List LevelEntry) → length (LevelsRules.levels_from T l entries) ≡ length entries
unfolding LevelsRules.levels_from
levels-length T l [] = refl
levels-length T l (entry ∷ entries) = ap suc (levels-length T (LevelsRules.level T entry l).left entries)

after-levels : (v b c s d : List ℕ) → v ++ b ++ c ++ s ++ d ≡ v ++ (b ++ c ++ s ++ d)
after-levels v b c s d = simp append_assoc

plan-is : (T : Tables) → Plan.plan_bytes (Plan.plan T) ≡ Plan.u16 (length T.levels) ++ levels_bytes T (LevelsRules.starting T) T.levels ++ list_bytes T (left T (LevelsRules.starting T) T.levels)
unfolding Plan.plan_bytes Plan.plan Plan.plan_of Plan.counted LevelsRules.levels
plan-is T =
    let ls = LevelsRules.levels_from T (LevelsRules.starting T) T.levels in
    let l = left T (LevelsRules.starting T) T.levels in
    after-levels (Plan.counted Plan.level_bytes (map Plan.plan_level ls)) (Plan.counted Plan.binding (drop (length T.bindings) l.bindings)) (Plan.counted Plan.u16 l.constrained) (Plan.counted Plan.select l.selects) (Plan.counted Plan.diagnostic l.diagnostics)
    ∙ ap (λ (k : ℕ). Plan.u16 k ++ levels_bytes T (LevelsRules.starting T) T.levels ++ list_bytes T l) (length-map ls Plan.plan_level ∙ levels-length T (LevelsRules.starting T) T.levels)

-- before the first level
between_start : (T : Tables) (work plan : List ℕ) → 65536 ≤ length work → Between T plan (LevelsRules.starting T) (Plan.u16 (length T.levels)) (started T work plan)
unfolding started LevelsRules.starting Plan.u16
between_start T work plan h = record { mem = mem-none T work h; at = refl; plan = refl; page = length-replicate {A = ℕ} page_length 0 }

live-start : (T : Tables) (work plan : List ℕ) → (started T work plan).state.over ≡ false
unfolding started
live-start T work plan = refl

fit-start : (T : Tables) → Sound T → Each (BindingOk T) (LevelsRules.starting T).bindings
unfolding LevelsRules.starting
fit-start T S = S.bindings

-- For every accepted file, work area and plan buffer: the rules' plan, or refusal 15 exactly where it is longer than a plan may be or than the buffer.
pub exact : (T : Tables) → Passed T → Numbered T → (work plan : List ℕ) → 65536 ≤ length work → written_outcome (compiled T work plan) ≡ Compile.written (length plan) (Plan.plan_bytes (Plan.plan T))
unfolding compiled unpaged written_outcome
exact T passed numbered work plan room = go ended.state.over refl ∙ ap (Compile.written (length plan)) (sym (plan-is T))
  where
    S : Sound T
    S = sound T passed

    entries : Each (EntryOk T) T.levels
    entries = each_both (λ l p a. record { predicate = p; address = a }) S.levels numbered.within.levels

    start : Lists
    start = LevelsRules.starting T

    front : List ℕ
    front = Plan.u16 (length T.levels)

    ended : Written
    ended = levels T T.levels (started T work plan)

    after : After T plan (left T start T.levels) (front ++ levels_bytes T start T.levels) (length front + length (levels_bytes T start T.levels) + list_size T (left T start T.levels)) ended
    after = ends-levels T S numbered plan entries start (fit-start T S) front (started T work plan) (live-start T work plan) (between_start T work plan room)

    go : (o : Bool) → ended.state.over ≡ o → written_outcome (finished ended) ≡ Compile.written (length plan) (front ++ levels_bytes T start T.levels ++ list_bytes T (left T start T.levels))
    go true e =
        finish-over T S numbered plan ended _ e
        (omega (arith, after.dead e, list-size T (left T start T.levels), length-append front (levels_bytes T start T.levels), length-append (front ++ levels_bytes T start T.levels) (list_bytes T (left T start T.levels))))
    go false e = finish T S numbered plan (left T start T.levels) (front ++ levels_bytes T start T.levels) ended e (after.live e)

-- the call on bytes that are read and accepted, in memory that is large enough
pub accepted-outcome : (bytes : List ℕ) (T : Tables) (rest : List ℕ) → Read.file bytes ≡ Read.got T rest → fault checks T ≡ None → (room area : ℕ) → length bytes ≤ file_limit → work_limit ≤ area → Compile.outcome bytes room area ≡ Compile.walked room T
unfolding Compile.outcome Compile.reading Compile.checked
accepted-outcome bytes T rest reads accepted room area short large =
    by-test (λ (r : Outcome). r ≡ Compile.walked room T) (leb (length bytes) file_limit)
    (λ q. by-test (λ (r : Outcome). r ≡ Compile.walked room T) (leb work_limit area)
    (λ p. ap (Compile.reading room) reads ∙ ap (Compile.checked room T) accepted)
    (λ p. absurd (true≢false (sym (le-leb work_limit area large) ∙ p))))
    (λ q. absurd (true≢false (sym (le-leb (length bytes) file_limit short) ∙ q)))

-- 19, where a level's walk notes a constant
pub mistyped-file : (bytes : List ℕ) (T : Tables) (rest : List ℕ) → Read.file bytes ≡ Read.got T rest → fault checks T ≡ None → (room area : ℕ) → length bytes ≤ file_limit → work_limit ≤ area → LevelsRules.any_mistyped (LevelsRules.levels T) ≡ true → Outcome.refused 19 ≡ Compile.outcome bytes room area
unfolding Compile.walked
mistyped-file bytes T rest reads accepted room area short large m =
    sym (accepted-outcome bytes T rest reads accepted room area short large ∙ pick (LevelsRules.any_mistyped (LevelsRules.levels T)) true _ _ m)

-- else what the memory computes
pub exact-file : (bytes : List ℕ) → Each Byte bytes → (T : Tables) (rest : List ℕ) → Read.file bytes ≡ Read.got T rest → fault checks T ≡ None → (work plan : List ℕ) → length bytes ≤ file_limit → work_limit ≤ length work → LevelsRules.any_mistyped (LevelsRules.levels T) ≡ false → written_outcome (compiled T work plan) ≡ Compile.outcome bytes (length plan) (length work)
unfolding Compile.walked
exact-file bytes b T rest reads accepted work plan short large m =
    exact T (passed-all T accepted) (record { within = read-bounded bytes b T rest reads; names = var-names bytes T rest reads (passed-all T accepted) }) work plan large
    ∙ sym (accepted-outcome bytes T rest reads accepted (length plan) (length work) short large ∙ pick (LevelsRules.any_mistyped (LevelsRules.levels T)) false _ _ m)
