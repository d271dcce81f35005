-- Demand 1, of the written rules' call.
use mathlib.Core.Bool.{Bool, true, false}
use mathlib.Core.List.{List, [], ◌∷◌, ◌++◌}
use Rattle.std.specs.Prelude.{Option, Some}
use mathlib.Core.Path.{◌≡◌, refl, sym, ap}
use Prim.Native.Nat.{ℕ, zero, suc, ◌+◌, ◌-◌, ◌≤◌, ◌<◌, min}
use native.Mathlib.Omega.{arith}
use borrow.Author.Tests.{leb-true, leb-false}
use lib.Dec.{T as Holds, leb, lit≤}
use lib.ListN.{length, take, length-append, length-replicate}
use lib.Seq.{take_at}
use Rattle.rules.specs.Base.{Each, done, more, both, all}
use Rattle.rules.specs.Limits.{file_limit, work_limit, plan_limit}
use Rattle.rules.specs.File.{Tables}
use Rattle.rules.specs.Read.{Read, file}
use Rattle.rules.specs.Checks.{Check, checks, fault}
use Rattle.rules.specs.Levels.{levels, any_mistyped}
use Rattle.rules.specs.Compile.{Outcome, written, walked, checked, reading, outcome, returned, buffer, compiled, compile}
use Rattle.rules.specs.Demand1.{zeros, refusals, Among, Ending, Demand1}
use Rattle.rules.proofs.Cases.{by-test, ways, both_left, both_right}
use Rattle.rules.proofs.Each.{Any, Perhaps, nothing, just, each_all, each-passes}
use Rattle.rules.proofs.Readers.{TablesOf, Answer, gives, refuses, reads-file}

-- The refusals' numbers, from the first on.
unfoldable pub numbers_from : ℕ → ℕ → List ℕ
numbers_from first zero = []
numbers_from first (suc k) = first ∷ numbers_from (suc first) k

pub among-from : (first k n : ℕ) → first ≤ n → n < first + k → Among n (numbers_from first k)
unfolding numbers_from
among-from first zero n l h = absurd (omega arith)
among-from first (suc k) n l h =
    ways (leb n first) (Among n (first ∷ numbers_from (suc first) k))
    (λ e. Among.here (omega (arith, leb-true n first e)))
    (λ e. Among.further (among-from (suc first) k n (leb-false n first e) (omega arith)))

-- a number that is one of the first, or of those behind them
among-front : {n : ℕ} {ms : List ℕ} (ns : List ℕ) → Among n ms → Among n (ms ++ ns)
among-front ns (Among.here e) = Among.here e
among-front ns (Among.further h) = Among.further (among-front ns h)

among-back : {n : ℕ} {ns : List ℕ} (ms : List ℕ) → Among n ns → Among n (ms ++ ns)
among-back [] h = h
among-back (m ∷ ms) h = Among.further (among-back ms h)

listed : (n : ℕ) → 1 ≤ n → n ≤ 15 → Among n refusals
unfolding numbers_from
listed n l m = among-front (19 ∷ []) (among-from 1 15 n l (omega arith))

-- request [7]'s
nineteen : Among 19 refusals
unfolding numbers_from
nineteen = among-back (numbers_from 1 15) (Among.here refl)

-- each of them lies between 1 and 19
abbrev between : ℕ → Bool
between m = both (leb 1 m) (leb m 19)

among-between : {n : ℕ} {ms : List ℕ} → Each (λ m. between m ≡ true) ms → Among n ms → (1 ≤ n) × (n ≤ 19)
among-between done h = elim h [ ]
among-between (more {x = m} b bs) (Among.here e) = (omega (arith, e, leb-true 1 m (both_left (leb 1 m) _ b)), omega (arith, e, leb-true m 19 (both_right (leb 1 m) _ b)))
among-between (more b bs) (Among.further h) = among-between bs h

pub numbered : (n : ℕ) → Among n refusals → (1 ≤ n) × (n ≤ 19)
unfolding all
numbered n h = among-between (each-passes between refusals refl) h

-- A check refuses with a number of the list.
fault-in : {cs : List Check} → Each (λ c. Among c.number refusals) cs → (T : Tables) → Perhaps (λ n. Among n refusals) (fault cs T)
unfolding fault
fault-in done T = nothing
fault-in (more {x = c} {xs = cs} h hs) T = go (c.passes T) (fault-in hs T)
  where
    go : (b : Bool) → Perhaps (λ n. Among n refusals) (fault cs T) → Perhaps (λ n. Among n refusals) (elim b [ true ↦ fault cs T | false ↦ Some c.number ])
    go true r = r
    go false r = just h

checks-in : Each (λ c. Among c.number refusals) checks
checks-in = more (at _ tt tt) (more (at _ tt tt) (more (at _ tt tt) (more (at _ tt tt) (more (at _ tt tt) (more (at _ tt tt) (more (at _ tt tt) done))))))
  where
    at : (n : ℕ) → Holds (leb 1 n) → Holds (leb n 15) → Among n refusals
    at n l m = listed n (lit≤ l) (lit≤ m)

-- A plan that fits, or a refusal of the list.
pub data Ended (room : ℕ) : Outcome → Type 0 where
  a-plan : {bytes : List ℕ} → length bytes ≤ plan_limit → length bytes ≤ room → Ended room (Outcome.planned bytes)
  a-refusal : {n : ℕ} → Among n refusals → Ended room (Outcome.refused n)

in_both : (n limit room : ℕ) → leb n (min limit room) ≡ true → (n ≤ limit) × (n ≤ room)
in_both n limit room e = (omega (arith, leb-true n (min limit room) e), omega (arith, leb-true n (min limit room) e))

module _ (room : ℕ) where
  ended-written : (bytes : List ℕ) → Ended room (written room bytes)
  unfolding written
  ended-written bytes =
      by-test (Ended room) _
      (λ e. let fits = in_both (length bytes) plan_limit room e in Ended.a-plan fits.0 fits.1)
      (λ e. Ended.a-refusal (listed 15 (omega arith) (omega arith)))

  ended-walked : (T : Tables) → Ended room (walked room T)
  unfolding walked
  ended-walked T = by-test (Ended room) (any_mistyped (levels T)) (λ e. Ended.a-refusal nineteen) (λ e. ended-written _)

  ended-checked : (T : Tables) {o : Option ℕ} → Perhaps (λ n. Among n refusals) o → Ended room (checked room T o)
  unfolding checked
  ended-checked T nothing = ended-walked T
  ended-checked T (just h) = Ended.a-refusal h

  ended-reading : {r : Read Tables} → Answer Any (TablesOf Any) r → Ended room (reading room r)
  unfolding reading
  ended-reading (gives {a = T} g rest) = ended-checked T (fault-in checks-in T)
  ended-reading (refuses {n} l m) = Ended.a-refusal (listed n (omega arith) (omega arith))

  pub ended : (bytes : List ℕ) (area : ℕ) → Ended room (outcome bytes room area)
  unfolding outcome
  ended bytes area =
      by-test (Ended room) (leb (length bytes) file_limit)
      (λ q. by-test (Ended room) (leb work_limit area)
      (λ p. ended-reading (reads-file.answer bytes (each_all bytes (λ b. tt))))
      (λ p. Ended.a-refusal (listed 2 (omega arith) (omega arith))))
      (λ q. Ended.a-refusal (listed 1 (omega arith) (omega arith)))

-- What a call with these refusals returns and leaves, by its outcome.
abbrev pub Ends : List ℕ → List ℕ → List ℕ → Outcome → Type 0
Ends numbers output work o =
    let c = compiled o (length output) (length work) in
    Demand1 numbers c.result output work c.plan c.work

module _ (numbers output work : List ℕ) where
  pub demand1-planned : (bytes : List ℕ) → length bytes ≤ plan_limit → length bytes ≤ length output → Ends numbers output work (Outcome.planned bytes)
  unfolding compiled returned buffer
  demand1-planned bytes s f =
      let rest = zeros (length output - length bytes) in
      let front : take (length bytes) (bytes ++ rest) ≡ bytes = take_at bytes rest (length bytes) refl in
      record {
        ending = Ending.accepted (record { short = s; fits = f; rest-zero = ap (λ (l : List ℕ). l ++ rest) (sym front) });
        work-zero = refl;
        output-length = omega (arith, length-append bytes rest, length-replicate {A = ℕ} (length output - length bytes) 0);
        work-length = length-replicate (length work) 0;
      }

  pub demand1-refused : (n : ℕ) → Among n numbers → Ends numbers output work (Outcome.refused n)
  unfolding compiled returned buffer
  demand1-refused n h =
      record {
        ending = Ending.refused (record { number = n; listed = h; result = refl; all-zero = refl });
        work-zero = refl;
        output-length = length-replicate (length output) 0;
        work-length = length-replicate (length work) 0;
      }

ends : (output work : List ℕ) (o : Outcome) → Ended (length output) o → Ends refusals output work o
ends output work _ (Ended.a-plan {bytes} s f) = demand1-planned refusals output work bytes s f
ends output work _ (Ended.a-refusal {n} h) = demand1-refused refusals output work n h

pub demand1 : (file plan work : List ℕ) → Demand1 refusals (compile file plan work).result plan work (compile file plan work).plan (compile file plan work).work
unfolding compile
demand1 file plan work = ends plan work _ (ended (length plan) file (length work))
