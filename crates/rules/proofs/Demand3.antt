-- Demand 3, of every accepted file.
use mathlib.Core.Bool.{false}
use mathlib.Core.List.{List, [], ◌∷◌, ◌++◌}
use Rattle.std.specs.Prelude.{Option, None, Some}
use mathlib.Core.Path.{◌≡◌, refl, sym, ap, ◌∙◌, subst}
use Prim.Native.Nat.{ℕ, zero, suc, ◌<◌, min}
use native.Mathlib.Nat.{not-suc-le-zero, le_of_suc-le-suc}
use native.Mathlib.Omega.{arith}
use lib.Dec.{leb}
use lib.ListN.{length, get_or, take, drop}
use lib.Seq.{take_at, drop-append_seam}
use Rattle.rules.specs.Base.{Each, done, more}
use Rattle.rules.specs.Limits.{file_limit, work_limit, plan_limit}
use Rattle.rules.specs.File.{Tables, Binding, LevelEntry}
use Rattle.rules.specs.Read.{Read, got, refused, follow, ◌>>=◌, end, ten_sections, file}
use Rattle.rules.specs.Checks.{checks, fault}
use Rattle.rules.specs.Events.{Lists}
use Rattle.rules.specs.Walk.{walk_level}
use Rattle.rules.specs.Levels.{Level, starting, level_of, level, levels_from, levels, left_by, any_mistyped}
use Rattle.rules.specs.Plan.{plan_of, plan, plan_bytes}
use Rattle.rules.specs.Compile.{Outcome, written, walked, checked, reading, outcome, returned, buffer, compiled, compile}
use Rattle.rules.specs.Demand3.{LevelKept, entry_at, level_at, start_of, Holds, Demand3}
use Rattle.rules.proofs.Cases.{by-test}
use Rattle.rules.proofs.Sound.{BindingOk, Sound, sound, passed-all}
use Rattle.rules.proofs.Alone.{walk-keeps}
use Rattle.rules.proofs.Consts.{levels-now}
use Rattle.rules.proofs.Demand1.{Ended, ended, numbered}
use Rattle.rules.proofs.Numbers.{refused≢got}
use Rattle.rules.proofs.Lists.{AddsTo, adds-keeps, Onwards, onwards-same, onwards-next}
use Rattle.rules.proofs.Emits.{level-emits}
use Rattle.rules.proofs.Skipped.{skipped, all-skipped}
use Rattle.rules.proofs.Kept.{kept}

module _ (T : Tables) (S : Sound T) where
  pub one-level : (l : LevelEntry) → l.predicate < length T.predicates → (lists : Lists) → Each (BindingOk T) lists.bindings → LevelKept T l lists (level T l lists)
  unfolding level level_of
  one-level l h lists fit =
      record {
        begins = refl;
        events-walked = refl;
        lists-walked = refl;
        mistyped-walked = refl;
        placed = refl;
        kept = kept T (walk_level T l lists).events (all-skipped (walk_level T l lists).events (level-emits _ skipped T S l h lists fit));
        adds = (walk-keeps T S AddsTo (adds-keeps T) l h lists fit).0;
      }

  -- what level k begins from, in a list that begins from `start`
  from : Lists → List Level → ℕ → Lists
  from start ls zero = start
  from start ls (suc k) = (level_at T ls k).left

  from_next : (start : Lists) (l : Level) (ls : List Level) (k : ℕ) → from start (l ∷ ls) (suc k) ≡ from l.left ls k
  unfolding from level_at
  from_next start l ls zero = refl
  from_next start l ls (suc k) = refl

  next-fit : (l : LevelEntry) → l.predicate < length T.predicates → (lists : Lists) → Each (BindingOk T) lists.bindings → Each (BindingOk T) (level T l lists).left.bindings
  unfolding level level_of
  next-fit l h lists fit = (walk-keeps T S AddsTo (adds-keeps T) l h lists fit).1

  every-level : (start : Lists) {entries : List LevelEntry} → Each (λ l. l.predicate < length T.predicates) entries → Each (BindingOk T) start.bindings → (k : ℕ) → k < length entries → (d : LevelEntry) → LevelKept T (get_or entries k d) (from start (levels_from T start entries) k) (level_at T (levels_from T start entries) k)
  unfolding levels_from from level_at
  every-level start done fit k h d = absurd (not-suc-le-zero h)
  every-level start (more {x = l} {xs = ls} p ps) fit zero h d = one-level l p start fit
  every-level start (more {x = l} {xs = ls} p ps) fit (suc k) h d =
      subst (λ s. LevelKept T (get_or ls k d) s (level_at T (levels_from T (level T l start).left ls) k))
      (sym (from_next start (level T l start) (levels_from T (level T l start).left ls) k))
      (every-level (level T l start).left ps (next-fit l p start fit) k (le_of_suc-le-suc h) d)

  levels-length : (start : Lists) (entries : List LevelEntry) → length (levels_from T start entries) ≡ length entries
  unfolding levels_from
  levels-length start [] = refl
  levels-length start (l ∷ ls) = ap suc (levels-length (level T l start).left ls)

  -- what the last level leaves
  left_is : (start : Lists) (ls : List Level) → left_by start ls ≡ from start ls (length ls)
  unfolding left_by from
  left_is start [] = refl
  left_is start (l ∷ ls) = left_is l.left ls ∙ sym (from_next start l ls (length ls))

  -- the bindings that a level starts from stand first in those that it leaves
  bindings-onwards : (start : Lists) {entries : List LevelEntry} → Each (λ l. l.predicate < length T.predicates) entries → Each (BindingOk T) start.bindings → Onwards start.bindings (left_by start (levels_from T start entries)).bindings
  unfolding levels_from left_by
  bindings-onwards start done fit = onwards-same start.bindings
  bindings-onwards start (more {x = l} {xs = ls} p ps) fit =
      let a = (one-level l p start fit).adds in
      onwards-next start.bindings (level T l start).left.bindings _ (a.bindings, a.bindings-end) (bindings-onwards (level T l start).left ps (next-fit l p start fit))

  start_is : (ls : List Level) (k : ℕ) → from (starting T) ls k ≡ start_of T ls k
  unfolding from start_of
  start_is ls zero = refl
  start_is ls (suc k) = refl

  plan-holds : Holds T (levels T) (start_of T (levels T) (length (levels T))) (plan T)
  unfolding plan plan_of levels starting
  plan-holds =
      let more = bindings-onwards (starting T) S.levels S.bindings in
      subst (λ s. Holds T (levels T) s (plan T)) (left_is (starting T) (levels T) ∙ start_is (levels T) (length (levels T)))
      (record {
        levels = refl;
        bindings = more.1 ∙ ap (λ (l : List Binding). T.bindings ++ l) (sym (ap (drop (length T.bindings)) more.1 ∙ drop-append_seam T.bindings more.0));
        constrained = refl;
        selects = refl;
        diagnostics = refl;
      })

-- an accepted file's bytes are all read
Ends : {A : Type 0} → (List ℕ → Read A) → Type 0
Ends {A} r = (bytes : List ℕ) (a : A) (rest : List ℕ) → r bytes ≡ got a rest → rest ≡ []

rest_of : {A : Type 0} → Read A → List ℕ
rest_of (got a rest) = rest
rest_of (refused n) = []

ends-end : {A : Type 0} (a : A) → Ends (end a)
unfolding Ends end rest_of
ends-end a [] b rest e = sym (ap rest_of e)
ends-end a (x ∷ bytes) b rest e = absurd (refused≢got 7 b rest e)

ends-follow : {A B : Type 0} (r : Read A) (f : A → List ℕ → Read B) → ((a : A) → Ends (f a)) → (b : B) (rest : List ℕ) → follow r f ≡ got b rest → rest ≡ []
unfolding Ends follow
ends-follow (got a onward) f h b rest e = h a onward b rest e
ends-follow (refused n) f h b rest e = absurd (refused≢got n b rest e)

ends-bind : {A B : Type 0} (r : List ℕ → Read A) (f : A → List ℕ → Read B) → ((a : A) → Ends (f a)) → Ends (r >>= f)
unfolding Ends ◌>>=◌
ends-bind r f h bytes b rest e = ends-follow (r bytes) f h b rest e

ends-sections : Ends ten_sections
unfolding ten_sections
ends-sections =
    ends-bind _ _ (λ ns. ends-bind _ _ (λ ts. ends-bind _ _ (λ ps. ends-bind _ _ (λ ms. ends-bind _ _ (λ bs.
    ends-bind _ _ (λ hs. ends-bind _ _ (λ fs. ends-bind _ _ (λ ks. ends-bind _ _ (λ cs. ends-bind _ _ (λ ls. ends-end _))))))))))

ends-file : Ends file
unfolding Ends file rest_of
ends-file [] T rest e = sym (ap rest_of e)
ends-file (b ∷ bytes) T rest e = ends-sections (b ∷ bytes) T rest e

-- Demand 3 of the tables that an accepted file holds.
tables-kept : (bytes : List ℕ) (T : Tables) → file bytes ≡ got T [] → fault checks T ≡ None → any_mistyped (levels T) ≡ false → Demand3 bytes (plan_bytes (plan T))
unfolding levels entry_at starting
tables-kept bytes T e f m =
    let S = sound T (passed-all T f) in
    record {
      tables = T;
      reads = e;
      accepted = f;
      levels = levels T;
      every-level = levels-length T S (starting T) T.levels;
      kept = λ k h. subst (λ s. LevelKept T (entry_at T k) s (level_at T (levels T) k)) (start_is T S (levels T) k) (every-level T S (starting T) S.levels S.bindings k h _);
      none-mistyped = m;
      as-they-stand = sym (levels-now T S);
      plan = plan T;
      holds = plan-holds T S;
      written = refl;
    }

IsPlanned : Outcome → Type 0
IsPlanned (Outcome.planned bytes) = Unit {0}
IsPlanned (Outcome.refused n) = ⊥

refused≢planned : (n : ℕ) (out : List ℕ) → Outcome.refused n ≡ Outcome.planned out → ⊥
unfolding IsPlanned
refused≢planned n out e = subst IsPlanned (sym e) tt

plan_out : Outcome → List ℕ
plan_out (Outcome.planned bytes) = bytes
plan_out (Outcome.refused n) = []

written_out : (room : ℕ) (bytes out : List ℕ) → written room bytes ≡ Outcome.planned out → bytes ≡ out
unfolding written plan_out
written_out room bytes out =
    by-test (λ (r : Outcome). r ≡ Outcome.planned out → bytes ≡ out) (leb (length bytes) (min plan_limit room)) (λ q e. ap plan_out e) (λ q e. absurd (refused≢planned 15 out e))

checked-kept : (bytes : List ℕ) (room : ℕ) (T : Tables) → file bytes ≡ got T [] → (o : Option ℕ) → fault checks T ≡ o → (out : List ℕ) → checked room T o ≡ Outcome.planned out → Demand3 bytes out
unfolding checked walked
checked-kept bytes room T e None f out q =
    by-test (λ (r : Outcome). r ≡ Outcome.planned out → Demand3 bytes out) (any_mistyped (levels T))
    (λ m p. absurd (refused≢planned 19 out p))
    (λ m p. subst (Demand3 bytes) (written_out room _ out p) (tables-kept bytes T e f m)) q
checked-kept bytes room T e (Some n) f out q = absurd (refused≢planned n out q)

reading-kept : (bytes : List ℕ) (room : ℕ) (r : Read Tables) → file bytes ≡ r → (out : List ℕ) → reading room r ≡ Outcome.planned out → Demand3 bytes out
unfolding reading Ends
reading-kept bytes room (got T rest) e out q = checked-kept bytes room T (e ∙ ap (got T) (ends-file bytes T rest e)) (fault checks T) refl out q
reading-kept bytes room (refused n) e out q = absurd (refused≢planned n out q)

-- whatever the file, the buffers' lengths and the plan
pub outcome-kept : (bytes : List ℕ) (room area : ℕ) (out : List ℕ) → outcome bytes room area ≡ Outcome.planned out → Demand3 bytes out
unfolding outcome
outcome-kept bytes room area out =
    by-test (λ (r : Outcome). r ≡ Outcome.planned out → Demand3 bytes out) (leb (length bytes) file_limit)
    (λ q. by-test (λ (r : Outcome). r ≡ Outcome.planned out → Demand3 bytes out) (leb work_limit area) (λ p e. reading-kept bytes room (file bytes) refl out e) (λ p e. absurd (refused≢planned 2 out e)))
    (λ q e. absurd (refused≢planned 1 out e))

-- "For every accepted file": a call that returned a length left a plan of that length, and what holds of the plan holds of the buffer's front
pub returned-front : (P : List ℕ → Type 0) (room : ℕ) (o : Outcome) → Ended room o → ((out : List ℕ) → o ≡ Outcome.planned out → P out)
    → returned o < 65536 → P (take (returned o) (buffer room o))
unfolding returned buffer
returned-front P room _ (Ended.a-plan {bytes = out} s f) h l = subst P (sym (take_at out _ (length out) refl)) (h out refl)
returned-front P room _ (Ended.a-refusal {n} h) k l = absurd (omega (arith, (numbered n h).0, l))

pub demand3 : (bytes plan work : List ℕ) → (compile bytes plan work).result < 65536 → Demand3 bytes (take (compile bytes plan work).result (compile bytes plan work).plan)
unfolding compile compiled
demand3 bytes plan work = returned-front (Demand3 bytes) (length plan) _ (ended (length plan) bytes (length work)) (outcome-kept bytes (length plan) (length work))
