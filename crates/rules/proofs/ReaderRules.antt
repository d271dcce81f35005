-- What the plan reader's call comes to, for every list of bytes; what is accepted keeps the rules, in demand 3's words.
use mathlib.Core.Bool.{Bool, true, false}
use mathlib.Core.List.{List, [], ◌++◌}
use Rattle.std.specs.Prelude.{Option, None, Some}
use mathlib.Core.Path.{◌≡◌, refl, sym, ap, ◌∙◌, subst}
use Prim.Native.Nat.{ℕ, ◌+◌, ◌-◌, ◌*◌, ◌/◌, ◌%◌, ◌≤◌, ◌<◌, min}
use native.Mathlib.Omega.{arith}
use borrow.Author.Tests.{lt-leb}
use lib.Dec.{leb}
use lib.ListN.{length, take}
use lib.Seq.{take_at}
use Rattle.rules.specs.Base.{Each, all}
use Rattle.rules.specs.Limits.{plan_limit}
use Rattle.rules.specs.Read.{Read, got}
use Rattle.rules.specs.Placement.{Guide, SeekKey, joined}
use Rattle.rules.specs.Plan.{PlanLevel, Plan, plan_bytes}
use Rattle.rules.specs.Compile.{Outcome, Compiled, returned, buffer, compiled}
use Rattle.rules.specs.Demand1.{Byte, zeros, Among, Demand1}
use Rattle.rules.specs.Demand3.{number, seek_edges}
use Rattle.rules.specs.Reader
use Rattle.rules.specs.Reader.{level_rules, reader_refusals}
use Rattle.rules.specs.ReadAgain.{SeekKept, RulesKept, ReadAgain}
use Rattle.rules.proofs.Cases.{by-test, by-option, true≢false, some≢none, some-injective, leb-le, eqb-eq, both_left, both_right}
use Rattle.rules.proofs.Each.{each-imply, each-passes}
use Rattle.rules.proofs.Kept.{same-path}
use Rattle.rules.proofs.Demand1.{numbers_from, among-from, Ends, demand1-planned, demand1-refused}
use Rattle.rules.proofs.ReaderCuts.{not-got}
use Rattle.rules.proofs.ReaderWrites.{Reading, whole, ends-or-unknown, reading}

pub number-most : {A : Type 0} (o : Option A) → number o ≤ 1
unfolding number
number-most None = omega arith
number-most (Some a) = omega arith

edges_most : (s : SeekKey) → seek_edges s ≤ 2
unfolding seek_edges
edges_most (SeekKey.Prefix bytes nodes) = omega arith
edges_most (SeekKey.Composite parts) = omega arith
edges_most (SeekKey.PrefixRange parts range) = omega arith
edges_most (SeekKey.Bounded parts lo hi) = omega (arith, number-most lo, number-most hi)

number-none : {A : Type 0} (o : Option A) → number o ≡ 0 → o ≡ None
unfolding number
number-none None e = refl
number-none (Some a) e = absurd (omega arith)

seek-kept : (s : SeekKey) (g : Option Guide) → Reader.seek_keeps s g ≡ true → SeekKept s g
unfolding Reader.seek_keeps
seek-kept (SeekKey.Prefix bytes nodes) g e = tt
seek-kept (SeekKey.Composite parts) g e =
    by-option (λ r. r ≡ true → joined parts ≡ None) (joined parts) (λ q _. q) (λ bytes q r. absurd (true≢false (sym r))) e
seek-kept (SeekKey.PrefixRange parts range) None e = λ h q. absurd (some≢none h (sym q))
seek-kept (SeekKey.PrefixRange parts range) (Some g) e = λ h q. ap (λ k. k.path) (sym (some-injective g h q)) ∙ same-path g.path range.path e
seek-kept (SeekKey.Bounded parts lo hi) g e =
    (leb-le 1 _ (both_left (leb 1 (number lo + number hi)) _ e), number-none g (eqb-eq _ 0 (both_right (leb 1 (number lo + number hi)) _ e)))

pub rules-kept : (l : PlanLevel) → level_rules l ≡ true → RulesKept l
unfolding level_rules Reader.closers_among_parts Reader.narrowings_sum Reader.edges_folded
rules-kept l e =
    let f = both_right (Reader.closers_among_parts l) _ e in
    let g = both_right (Reader.narrowings_sum l) _ f in
    record {
      closers-most = leb-le _ _ (both_left (Reader.closers_among_parts l) _ e);
      sum = eqb-eq _ _ (both_left (Reader.narrowings_sum l) _ f);
      edges-folded = eqb-eq _ _ (both_left (Reader.edges_folded l) _ g);
      edges_most = edges_most l.seek;
      seek-keeps = seek-kept l.seek l.guide (both_right (Reader.edges_folded l) _ g);
    }

-- 16 and 17 apart, `read` is `plan`
plan-read : (bytes : List ℕ) (p : Plan) → Reader.read bytes ≡ got p [] → Reader.plan bytes ≡ got p []
unfolding Reader.read Reader.numbered
plan-read bytes p e = go (Reader.plan bytes) e
  where
    go : (x : Read Plan) → Reader.numbered x ≡ got p [] → x ≡ got p []
    go (got q rest) r = r
    go (Read.refused n) r = not-got n p [] r

-- an accepted plan: it is the one plan of these bytes, they fit, and its levels keep the rules
pub record Accepted (bytes : List ℕ) (room : ℕ) (p : Plan) : Type 0 where
  pub read : Reader.read bytes ≡ got p []
  pub written_back : plan_bytes p ≡ bytes
  pub short : length bytes ≤ plan_limit
  pub fits : length bytes ≤ room
  pub kept : Each RulesKept p.levels

-- what the call comes to: the bytes themselves, or one of 15 to 18
pub data Shape (bytes : List ℕ) (room : ℕ) : Outcome → Type 0 where
  accepted : (p : Plan) → Accepted bytes room p → Shape bytes room (Outcome.planned bytes)
  refused : {n : ℕ} → 15 ≤ n → n ≤ 18 → Shape bytes room (Outcome.refused n)

module _ (bytes : List ℕ) (room : ℕ) (short : length bytes ≤ plan_limit) (fits : length bytes ≤ room) where
  shape-judged : (p : Plan) → Reader.read bytes ≡ got p [] → plan_bytes p ≡ bytes → Shape bytes room (Reader.judged p)
  unfolding Reader.judged
  shape-judged p e w =
      by-test (Shape bytes room) (all level_rules p.levels)
      (λ t. subst (λ b. Shape bytes room (Outcome.planned b)) (sym w)
      (accepted p (record { read = e; written_back = w; short = short; fits = fits; kept = each-imply rules-kept (each-passes level_rules p.levels t) })))
      (λ t. Shape.refused {n = 18} (omega arith) (omega arith))

  shape-finished : {x : Read Plan} → Reader.read bytes ≡ x → Reading bytes x → Shape bytes room (Reader.finished x)
  unfolding Reader.finished
  shape-finished e (whole {p} w) = shape-judged p e w
  shape-finished e (ends-or-unknown {n} l m) = Shape.refused {n = n} (omega arith) (omega arith)

-- "15 comes first": by the lengths alone, whatever the bytes are
pub too_long : (bytes : List ℕ) (room : ℕ) → min plan_limit room < length bytes → Reader.outcome bytes room ≡ Outcome.refused 15
unfolding Reader.outcome
too_long bytes room h =
    ap (λ (t : Bool). elim t as (λ _. Outcome) [ true ↦ Reader.finished (Reader.read bytes) | false ↦ Outcome.refused 15 ]) (lt-leb _ _ h)

-- for every list of bytes and every room
pub shape : (bytes : List ℕ) → Each Byte bytes → (room : ℕ) → Shape bytes room (Reader.outcome bytes room)
unfolding Reader.outcome
shape bytes h room =
    by-test (Shape bytes room) (leb (length bytes) (min plan_limit room))
    (λ e. let fits : length bytes ≤ min plan_limit room = leb-le _ _ e in shape-finished bytes room (omega arith) (omega arith) refl (reading bytes h))
    (λ e. Shape.refused {n = 15} (omega arith) (omega arith))

-- The call on three slices of bytes, of any length: what it returns and what it leaves.
pub record Took (bytes out : List ℕ) (area : ℕ) (c : Compiled) : Type 0 where
  pub result : c.result ≡ length bytes
  pub number : c.result / 65536 ≡ 0
  pub plan_length : c.result % 65536 ≡ length bytes
  pub output : c.plan ≡ bytes ++ zeros (length out - length bytes)
  pub work : c.work ≡ zeros area

pub record Refused (n : ℕ) (out : List ℕ) (area : ℕ) (c : Compiled) : Type 0 where
  pub least : 15 ≤ n
  pub most : n ≤ 18
  pub result : c.result ≡ n * 65536
  pub number : c.result / 65536 ≡ n
  pub plan_length : c.result % 65536 ≡ 0
  pub output : c.plan ≡ zeros (length out)
  pub work : c.work ≡ zeros area

pub data Called (bytes out : List ℕ) (area : ℕ) (c : Compiled) : Type 0 where
  took : (p : Plan) → Accepted bytes (length out) p → Took bytes out area c → Called bytes out area c
  refused : (n : ℕ) → Refused n out area c → Called bytes out area c

called_of : (bytes out : List ℕ) (area : ℕ) {o : Outcome} → Shape bytes (length out) o → Called bytes out area (compiled o (length out) area)
unfolding compiled returned buffer
called_of bytes out area (Shape.accepted p a) =
    Called.took p a (record { result = refl; number = omega (arith, a.short); plan_length = omega (arith, a.short); output = refl; work = refl })
called_of bytes out area (Shape.refused {n} l m) =
    Called.refused n (record { least = l; most = m; result = refl; number = omega arith; plan_length = omega arith; output = refl; work = refl })

pub called : (bytes out work : List ℕ) → Each Byte bytes → Called bytes out (length work) (Reader.read_back bytes out work)
unfolding Reader.read_back
called bytes out work h = called_of bytes out (length work) (shape bytes h (length out))

-- Demand 1 of the call: a plan that fits or one of its refusals, and both buffers afterwards.
reader-listed : (n : ℕ) → 15 ≤ n → n ≤ 18 → Among n reader_refusals
unfolding numbers_from
reader-listed n l m = among-from 15 4 n l (omega arith)

ends : (bytes out work : List ℕ) {o : Outcome} → Shape bytes (length out) o → Ends reader_refusals out work o
ends bytes out work (Shape.accepted p a) = demand1-planned reader_refusals out work bytes a.short a.fits
ends bytes out work (Shape.refused {n} l m) = demand1-refused reader_refusals out work n (reader-listed n l m)

pub reader-demand1 : (bytes out work : List ℕ) → Each Byte bytes
    → Demand1 reader_refusals (Reader.read_back bytes out work).result out work (Reader.read_back bytes out work).plan (Reader.read_back bytes out work).work
unfolding Reader.read_back
reader-demand1 bytes out work h = ends bytes out work (shape bytes h (length out))

-- What an accepted plan is, said of what the call returned and left.
read_again : (bytes out work : List ℕ) {o : Outcome} → Shape bytes (length out) o → let c = compiled o (length out) (length work) in c.result < 65536 → ReadAgain bytes (take c.result c.plan)
unfolding compiled returned buffer
read_again bytes out work (Shape.accepted p a) h =
    let front : take (length bytes) (bytes ++ zeros (length out - length bytes)) ≡ bytes = take_at bytes _ (length bytes) refl in
    record {
      same = front;
      is = p;
      read = ap Reader.plan front ∙ plan-read bytes p a.read;
      written_back = a.written_back ∙ sym front;
      kept = a.kept;
    }
read_again bytes out work (Shape.refused {n} l m) h = absurd (omega arith)

pub reader-again : (bytes out work : List ℕ) → Each Byte bytes → let c = Reader.read_back bytes out work in c.result < 65536 → ReadAgain bytes (take c.result c.plan)
unfolding Reader.read_back
reader-again bytes out work h = read_again bytes out work (shape bytes h (length out))
