-- A plan read again and compared.
use mathlib.Core.Bool.{Bool, true, false}
use mathlib.Core.List.{List, [], ◌∷◌}
use mathlib.Core.Path.{◌≡◌, refl, sym, ap, ap₂, ◌∙◌, subst₂}
use Prim.Native.Nat.{ℕ, ◌+◌, ◌-◌, ◌*◌, ◌/◌, ◌≤◌, ◌<◌}
use native.Mathlib.Omega.{arith}
use borrow.Author.Tests.{le-leb, lt-leb}
use lib.Dec.{leb}
use lib.ListN.{length, take, drop, get_or, replicate, length-replicate}
use lib.Seq.{sets, length-sets, take_all, take-length, length-take-le}
use Rattle.rules.specs.Base.{Each}
use Rattle.rules.specs.Limits.{plan_limit}
use Rattle.rules.specs.Compile.{Outcome, returned, buffer, compiled}
use Rattle.rules.specs.Demand1.{Byte}
use Rattle.rules.specs.Reader as Reader
use Rattle.rules.specs.Reader.{read_back}
use Rattle.rules.proofs.Cases.{pick}
use Rattle.rules.proofs.ReaderRules.{Shape, shape}
use Rattle.tally.specs.Bytes.{index_of, slice}
use Rattle.lines.specs.Lines.{line, unhex}
use Rattle.lines.proofs.Fronts.{front, length-unhex, read_back_lem}
use Rattle.lines.proofs.Calls.{Said, said-planned, said-refused}
use Rattle.tally.specs.Tallies.{same}
use Rattle.tally.proofs.Counts.{same-is, to_end}
use Rattle.reread.specs.Plans.{output_of, room_of, comes_to, agrees_at, agrees}

-- what the call answers is the outcome's line
said_of : (f : List ℕ) (room : ℕ) {o : Outcome} → Shape f room o → Said (returned o) (buffer room o) o
said_of f room (Shape.accepted p a) = said-planned room f a.short a.fits
said_of f room (Shape.refused {n} l m) = said-refused room n (omega arith) (omega arith)

module _ (f out w : List ℕ) (r : ℕ) (out' : List ℕ) (rs : r ≡ (read_back f out w).result) (ps : out' ≡ (read_back f out w).plan) where
  pub said : Each Byte f → Said r out' (Reader.outcome f (length out))
  unfolding read_back compiled
  said h =
      subst₂ (λ (k : ℕ) (q : List ℕ). Said k q (Reader.outcome f (length out))) (sym rs) (sym ps)
      (said_of f (length out) (shape f h (length out)))

  pub output-is : out' ≡ output_of f (length out)
  unfolding read_back compiled
  output-is = ps

-- a room that is too large, and one that is not
module _ (plan said : List ℕ) (room : ℕ) where
  pub too_large : plan_limit < room → comes_to plan room said ≡ false
  unfolding comes_to
  too_large h = pick (leb room plan_limit) false _ _ (lt-leb room plan_limit h)

  pub comes-here : room ≤ plan_limit → comes_to plan room said ≡ same (line (Reader.outcome plan room)) said
  unfolding comes_to
  comes-here h = pick (leb room plan_limit) true _ _ (le-leb room plan_limit h)

module _ (hex said : List ℕ) (room : ℕ) (h : room ≤ plan_limit) (l : length hex ≤ 32770) where
  pub compared : (f f' t t' : List ℕ) (n m : ℕ) (b : Bool) → length f ≡ 16385 → f' ≡ sets f 0 (unhex hex) → length t ≡ 32768 → m ≡ length (line (Reader.outcome (take (length hex / 2) f') n)) → t' ≡ sets t 0 (line (Reader.outcome (take (length hex / 2) f') n)) → m ≤ 32768 → (b ≡ true → take m t' ≡ said) → (take m t' ≡ said → b ≡ true) → n ≡ room → b ≡ comes_to (unhex hex) room said
  compared f f' t t' n m b lf q lt r s k to from ln =
      same-is (take m t') said b to from
      ∙ ap (λ (x : List ℕ). same x said) (ap (take m) s ∙ front t (line (Reader.outcome (take (length hex / 2) f') n)) m r (omega (arith, r, lt)))
      ∙ ap₂ (λ (x : List ℕ) (i : ℕ). same (line (Reader.outcome x i)) said) (read_back_lem hex f f' (omega (arith, lf)) q) ln
      ∙ sym (comes-here (unhex hex) said room h)

-- the buffers as they are lent
pub plan-length : length (replicate {A = ℕ} 16385 0) ≡ 16385
plan-length = length-replicate {A = ℕ} 16385 0

pub text-length : length (replicate {A = ℕ} 32768 0) ≡ 32768
text-length = length-replicate {A = ℕ} 32768 0

pub two-length : length (replicate {A = ℕ} 2 0) ≡ 2
two-length = length-replicate {A = ℕ} 2 0

pub output-length : (room : ℕ) → room ≤ 16384 → length (take room (replicate {A = ℕ} 16384 165)) ≡ room
output-length room h = length-take-le room (replicate {A = ℕ} 16384 165) (omega (arith, length-replicate {A = ℕ} 16384 165))

pub hex-short : (entry : List ℕ) (e : ℕ) → e ≤ length entry → e ≤ 32770 → length (take e entry) ≤ 32770
hex-short entry e h l = omega (arith, length-take-le e entry h)

-- two bytes read back
two_bytes : (l : List ℕ) → length l ≡ 2 → get_or l 0 0 * 256 + get_or l 1 0 ≡ room_of l
unfolding room_of
two_bytes [] e = absurd (omega arith)
two_bytes (x ∷ []) e = absurd (omega arith)
two_bytes (x ∷ y ∷ l) e = refl

module _ (hex t t' : List ℕ) (h : length hex ≡ 4) (lt : length t ≡ 2) (q : t' ≡ sets t 0 (unhex hex)) where
  two-long : length (unhex hex) ≡ 2
  two-long = omega (arith, length-unhex hex)

  whole : t' ≡ unhex hex
  whole =
      let all : length t' ≡ 2 = omega (arith, ap (λ (l : List ℕ). length l) q, length-sets t 0 (unhex hex), lt) in
      sym (take_all 2 t' (omega (arith, all))) ∙ ap (take 2) q ∙ front t (unhex hex) 2 (sym two-long) (omega (arith, two-long, lt))

  pub room-is : (x y : ℕ) → x ≡ get_or t' 0 0 → y ≡ get_or t' 1 0 → x * 256 + y ≡ room_of (unhex hex)
  room-is x y xs ys = ap₂ (λ (i j : ℕ). i * 256 + j) xs ys ∙ ap (λ (l : List ℕ). get_or l 0 0 * 256 + get_or l 1 0) whole ∙ two_bytes (unhex hex) two-long

-- the first space
pub at-space : (entry : List ℕ) (e : ℕ) → e ≡ 0 + index_of 32 (slice 0 (length entry) entry) → agrees entry ≡ agrees_at e entry
unfolding agrees slice
at-space entry e h = ap (λ (k : ℕ). agrees_at k entry) (ap (index_of 32) (sym (take-length entry)) ∙ omega (arith, h))

module _ (entry : List ℕ) (e : ℕ) where
  pub agrees-short : length entry < e + 6 → agrees_at e entry ≡ false
  unfolding agrees_at
  agrees-short h = pick (leb (e + 6) (length entry)) false _ _ (lt-leb (e + 6) (length entry) h)

  agrees-room : e + 6 ≤ length entry → agrees_at e entry ≡ elim (leb e 32770) [ true ↦ comes_to (unhex (take e entry)) (room_of (unhex (take 4 (drop (e + 1) entry)))) (drop (e + 6) entry) | false ↦ false ]
  unfolding agrees_at
  agrees-room h = pick (leb (e + 6) (length entry)) true _ _ (le-leb (e + 6) (length entry) h)

  pub agrees-long : e + 6 ≤ length entry → 32770 < e → agrees_at e entry ≡ false
  agrees-long h l = agrees-room h ∙ pick (leb e 32770) false _ _ (lt-leb e 32770 l)

  pub agrees-here : e + 6 ≤ length entry → e ≤ 32770 → (room : ℕ) → room ≡ room_of (unhex (take (e + 5 - (e + 1)) (drop (e + 1) entry))) → (b : Bool) → b ≡ comes_to (unhex (take e entry)) room (take (length entry - (e + 6)) (drop (e + 6) entry)) → b ≡ agrees_at e entry
  agrees-here h l room r b q =
      let four : e + 5 - (e + 1) ≡ 4 = omega arith in
      let is = r ∙ ap (λ (k : ℕ). room_of (unhex (take k (drop (e + 1) entry)))) four in
      q ∙ ap₂ (comes_to (unhex (take e entry))) is (to_end entry (e + 6)) ∙ sym (agrees-room h ∙ pick (leb e 32770) true _ _ (le-leb e 32770 l))
