-- RFC 3629's grammar (specs/Utf8.antt) accepts exactly the concatenations of the shortest encodings of 0 to D7FF and E000 to 10FFFF.
use mathlib.Core.Bool.{Bool, true, false}
use mathlib.Core.List.{List, [], ◌∷◌, ◌++◌}
use Rattle.std.specs.Prelude.{Option, None, Some}
use mathlib.Core.Path.{◌≡◌, refl, sym, ap, ◌∙◌, subst}
use Prim.Native.Nat.{ℕ, zero, suc, ◌+◌, ◌-◌, ◌*◌, ◌/◌, ◌≤◌, ◌<◌}
use native.Mathlib.Omega.{arith}
use borrow.Author.Tests.{lt-ltb, le-ltb, le-leb, lt-leb}
use lib.Dec.{leb, ltb}
use lib.ListN.{length, take, drop, length-append}
use Rattle.rules.specs.Base.{Each, done, more, both, ◌when_some◌, all, first, concat_map}
use Rattle.rules.specs.Utf8.{Octets, ◌to◌, has, Row, UTF8-tail, UTF8-char, begins, after, after_all, whole, UTF8-octets, six_bits, shortest, Scalar, lower, upper, Encodes}
use Rattle.rules.specs.Read.{Read, got, refused, follow, ◌>>=◌, pure, u8, many, several, well_formed, name}
use Rattle.rules.proofs.Cases.{by-test, by_order, by_equal, leb-le, ltb-lt, both_left, both_right, true≢false}

-- an octet in a range, below it and above it
pub has_in : (r : Octets) (b : ℕ) → r.least ≤ b → b ≤ r.most → has r b ≡ true
unfolding has
has_in r b h g = simp (le-leb r.least b h, le-leb b r.most g)

pub has-below : (r : Octets) (b : ℕ) → b < r.least → has r b ≡ false
unfolding has
has-below r b h = simp (lt-leb r.least b h)

pub has_above : (r : Octets) (b : ℕ) → r.most < b → has r b ≡ false
unfolding has
has_above r b h = go (leb r.least b)
  where
    go : (t : Bool) → both t (leb b r.most) ≡ false
    go true = lt-leb b r.most h
    go false = refl

-- Which row an octet begins: those whose first octets lie below it are passed over.
abbrev begun : ℕ → List Row → Option (List Octets)
begun b rows = first (λ r. has r.lead b) rows when_some λ r. Some r.rest

passed : (k b bound : ℕ) (rows : List Row) → all (λ r. ltb r.lead.most bound) (take k rows) ≡ true → bound ≤ b → begun b rows ≡ begun b (drop k rows)
unfolding all first
passed zero b bound rows e h = refl
passed (suc k) b bound [] e h = refl
passed (suc k) b bound (r ∷ rows) e h =
    by-test (λ t. t ≡ true → begun b (r ∷ rows) ≡ begun b (drop k rows)) (ltb r.lead.most bound)
    (λ q g. below q ∙ passed k b bound rows g h)
    (λ q g. absurd (true≢false (sym g)))
    e
  where
    below : ltb r.lead.most bound ≡ true → begun b (r ∷ rows) ≡ begun b rows
    below q =
        let k : r.lead.most < b = omega (arith, ltb-lt r.lead.most bound q) in
        simp (first, has_above r.lead b k)

-- and an octet below all of them begins none
beneath : (b bound : ℕ) (rows : List Row) → all (λ r. ltb bound r.lead.least) rows ≡ true → b ≤ bound → begun b rows ≡ None
unfolding all first ◌when_some◌
beneath b bound [] e h = refl
beneath b bound (r ∷ rows) e h =
    by-test (λ t. t ≡ true → begun b (r ∷ rows) ≡ None) (ltb bound r.lead.least)
    (λ q g. above q ∙ beneath b bound rows g h)
    (λ q g. absurd (true≢false (sym g)))
    e
  where
    above : ltb bound r.lead.least ≡ true → begun b (r ∷ rows) ≡ begun b rows
    above q =
        let k : b < r.lead.least = omega (arith, ltb-lt bound r.lead.least q) in
        simp (first, has-below r.lead b k)

-- row k of the grammar, the rows counted from 0
row-begins : (k b : ℕ) (r : Row) (later : List Row) → drop k UTF8-char ≡ r ∷ later → all (λ p. ltb p.lead.most r.lead.least) (take k UTF8-char) ≡ true → r.lead.least ≤ b → b ≤ r.lead.most → begins b ≡ Some r.rest
unfolding begins first ◌when_some◌
row-begins k b r later d e h g = passed k b r.lead.least UTF8-char e h ∙ ap (begun b) d ∙ simp (first, has_in r.lead b h g)

-- the octets as first ones, in ascending order
pub begins-one : (b : ℕ) → b ≤ 0x7F → begins b ≡ Some []
unfolding all
begins-one b g = row-begins 0 b _ _ refl refl (omega arith) g

pub begins-tail : (b : ℕ) → 0x80 ≤ b → b ≤ 0xC1 → begins b ≡ None
unfolding all begins
begins-tail b h g = passed 1 b 0x80 UTF8-char refl h ∙ beneath b 0xC1 (drop 1 UTF8-char) refl g

pub begins-two : (b : ℕ) → 0xC2 ≤ b → b ≤ 0xDF → begins b ≡ Some (UTF8-tail ∷ [])
unfolding all
begins-two b h g = row-begins 1 b _ _ refl refl h g

pub begins-E0 : (b : ℕ) → b ≡ 0xE0 → begins b ≡ Some ((0xA0 to 0xBF) ∷ UTF8-tail ∷ [])
unfolding all
begins-E0 b h = row-begins 2 b _ _ refl refl (omega arith) (omega arith)

pub begins-E1 : (b : ℕ) → 0xE1 ≤ b → b ≤ 0xEC → begins b ≡ Some (UTF8-tail ∷ UTF8-tail ∷ [])
unfolding all
begins-E1 b h g = row-begins 3 b _ _ refl refl h g

pub begins-ED : (b : ℕ) → b ≡ 0xED → begins b ≡ Some ((0x80 to 0x9F) ∷ UTF8-tail ∷ [])
unfolding all
begins-ED b h = row-begins 4 b _ _ refl refl (omega arith) (omega arith)

pub begins-EE : (b : ℕ) → 0xEE ≤ b → b ≤ 0xEF → begins b ≡ Some (UTF8-tail ∷ UTF8-tail ∷ [])
unfolding all
begins-EE b h g = row-begins 5 b _ _ refl refl h g

pub begins-F0 : (b : ℕ) → b ≡ 0xF0 → begins b ≡ Some ((0x90 to 0xBF) ∷ UTF8-tail ∷ UTF8-tail ∷ [])
unfolding all
begins-F0 b h = row-begins 6 b _ _ refl refl (omega arith) (omega arith)

pub begins-F1 : (b : ℕ) → 0xF1 ≤ b → b ≤ 0xF3 → begins b ≡ Some (UTF8-tail ∷ UTF8-tail ∷ UTF8-tail ∷ [])
unfolding all
begins-F1 b h g = row-begins 7 b _ _ refl refl h g

pub begins-F4 : (b : ℕ) → b ≡ 0xF4 → begins b ≡ Some ((0x80 to 0x8F) ∷ UTF8-tail ∷ UTF8-tail ∷ [])
unfolding all
begins-F4 b h = row-begins 8 b _ _ refl refl (omega arith) (omega arith)

pub begins-above : (b : ℕ) → 0xF5 ≤ b → begins b ≡ None
unfolding all begins first ◌when_some◌
begins-above b h = passed 9 b 0xF5 UTF8-char refl h

-- Octets that lie in the ranges, one in each.
pub data Fit : List Octets → List ℕ → Type 0 where
  nothing : Fit [] []
  next : {r : Octets} {rs : List Octets} {b : ℕ} {bytes : List ℕ} → r.least ≤ b → b ≤ r.most → Fit rs bytes → Fit (r ∷ rs) (b ∷ bytes)

pub fit-after : {rs : List Octets} {bytes : List ℕ} (rest : List ℕ) → Fit rs bytes → after_all (Some rs) (bytes ++ rest) ≡ after_all (Some []) rest
unfolding after_all after
fit-after rest nothing = refl
fit-after rest (next {r} {rs} {b} {bytes} h g f) =
    ap (λ (t : Bool). after_all (elim t [ true ↦ Some rs | false ↦ None ]) (bytes ++ rest)) (has_in r b h g) ∙ fit-after rest f

none_after : (bytes : List ℕ) → after_all None bytes ≡ None
unfolding after_all after
none_after [] = refl
none_after (b ∷ bytes) = none_after bytes

-- what begins where ranges are wanted, and ends between two characters
record Taken (rs : List Octets) (bytes : List ℕ) : Type 0 where
  octets : List ℕ
  rest : List ℕ
  is : bytes ≡ octets ++ rest
  fit : Fit rs octets
  goes_on : UTF8-octets rest ≡ true

taken : (rs : List Octets) (bytes : List ℕ) → whole (after_all (Some rs) bytes) ≡ true → Taken rs bytes
unfolding after_all after whole UTF8-octets has
taken [] bytes e = record { octets = []; rest = bytes; is = refl; fit = nothing; goes_on = e }
taken (r ∷ rs) [] e = absurd (true≢false (sym e))
taken (r ∷ rs) (b ∷ bytes) e = go (has r b) refl e (λ g. taken rs bytes g)
  where
    go : (t : Bool) → has r b ≡ t → whole (after_all (elim t [ true ↦ Some rs | false ↦ None ]) bytes) ≡ true → (whole (after_all (Some rs) bytes) ≡ true → Taken rs bytes) → Taken (r ∷ rs) (b ∷ bytes)
    go true h g rec =
        let x = rec g in
        let low : r.least ≤ b = leb-le r.least b (both_left (leb r.least b) (leb b r.most) h) in
        let high : b ≤ r.most = leb-le b r.most (both_right (leb r.least b) (leb b r.most) h) in
        record {
          octets = b ∷ x.octets;
          rest = x.rest;
          is = ap (λ (l : List ℕ). b ∷ l) x.is;
          fit = next low high x.fit;
          goes_on = x.goes_on;
        }
    go false h g rec = absurd (true≢false (sym g ∙ ap whole (none_after bytes)))

-- The shortest encodings by their lengths.
pub shortest-one : (n : ℕ) → n < 0x80 → shortest n ≡ n ∷ []
unfolding shortest
shortest-one n h = simp (shortest, lt-ltb n 0x80 h)

pub shortest-two : (n : ℕ) → 0x80 ≤ n → n < 0x800 → shortest n ≡ (0xC0 + n / 64) ∷ six_bits n ∷ []
unfolding shortest
shortest-two n h g = simp (shortest, le-ltb n 0x80 h, lt-ltb n 0x800 g)

pub shortest-three : (n : ℕ) → 0x800 ≤ n → n < 0x10000 → shortest n ≡ (0xE0 + n / 4096) ∷ six_bits (n / 64) ∷ six_bits n ∷ []
unfolding shortest
shortest-three n h g =
    let k : 0x80 ≤ n = omega arith in
    simp (shortest, le-ltb n 0x80 k, le-ltb n 0x800 h, lt-ltb n 0x10000 g)

pub shortest-four : (n : ℕ) → 0x10000 ≤ n → shortest n ≡ (0xF0 + n / 262144) ∷ six_bits (n / 4096) ∷ six_bits (n / 64) ∷ six_bits n ∷ []
unfolding shortest
shortest-four n h =
    let k : 0x80 ≤ n = omega arith in
    let j : 0x800 ≤ n = omega arith in
    simp (shortest, le-ltb n 0x80 k, le-ltb n 0x800 j, le-ltb n 0x10000 h)

-- From octets to a number.
record Coded (bytes : List ℕ) : Type 0 where
  number : ℕ
  scalar : Scalar number
  is : bytes ≡ shortest number

coded-one : (b : ℕ) → b ≤ 0x7F → Coded (b ∷ [])
coded-one b h = record { number = b; scalar = lower (omega arith); is = sym (shortest-one b (omega arith)) }

coded-two : (b c : ℕ) → 0xC2 ≤ b → b ≤ 0xDF → 0x80 ≤ c → c ≤ 0xBF → Coded (b ∷ c ∷ [])
coded-two b c hb gb hc gc = go ((b - 0xC0) * 64 + (c - 0x80)) refl
  where
    go : (n : ℕ) → n ≡ (b - 0xC0) * 64 + (c - 0x80) → Coded (b ∷ c ∷ [])
    go n e =
        let first : b ≡ 0xC0 + n / 64 = omega arith in
        let second : c ≡ six_bits n = omega arith in
        record {
          number = n;
          scalar = lower (omega arith);
          is = ap (λ (x : ℕ). x ∷ c ∷ []) first ∙ ap (λ (x : ℕ). (0xC0 + n / 64) ∷ x ∷ []) second ∙ sym (shortest-two n (omega arith) (omega arith));
        }

module _ (b c d n : ℕ) (hb : 0xE0 ≤ b) (gb : b ≤ 0xEF) (hc : 0x80 ≤ c) (gc : c ≤ 0xBF) (hd : 0x80 ≤ d) (gd : d ≤ 0xBF) where
  coded-three : n ≡ (b - 0xE0) * 4096 + (c - 0x80) * 64 + (d - 0x80) → 0x800 ≤ n → Scalar n → Coded (b ∷ c ∷ d ∷ [])
  coded-three e h s =
      let x : b ≡ 0xE0 + n / 4096 = omega arith in
      let y : c ≡ six_bits (n / 64) = omega arith in
      let z : d ≡ six_bits n = omega arith in
      let under : n < 0x10000 = omega arith in
      record {
        number = n;
        scalar = s;
        is = ap (λ (k : ℕ). k ∷ c ∷ d ∷ []) x ∙ ap (λ (k : ℕ). (0xE0 + n / 4096) ∷ k ∷ d ∷ []) y
            ∙ ap (λ (k : ℕ). (0xE0 + n / 4096) ∷ six_bits (n / 64) ∷ k ∷ []) z ∙ sym (shortest-three n h under);
      }

module _ (b c d e n : ℕ) (hb : 0xF0 ≤ b) (gb : b ≤ 0xF4) (hc : 0x80 ≤ c) (gc : c ≤ 0xBF) (hd : 0x80 ≤ d) (gd : d ≤ 0xBF) (he : 0x80 ≤ e) (ge : e ≤ 0xBF) where
  coded-four : n ≡ (b - 0xF0) * 262144 + (c - 0x80) * 4096 + (d - 0x80) * 64 + (e - 0x80) → 0x10000 ≤ n → n ≤ 0x10FFFF → Coded (b ∷ c ∷ d ∷ e ∷ [])
  coded-four q h g =
      let w : b ≡ 0xF0 + n / 262144 = omega arith in
      let x : c ≡ six_bits (n / 4096) = omega arith in
      let y : d ≡ six_bits (n / 64) = omega arith in
      let z : e ≡ six_bits n = omega arith in
      record {
        number = n;
        scalar = upper (omega arith) g;
        is = ap (λ (k : ℕ). k ∷ c ∷ d ∷ e ∷ []) w ∙ ap (λ (k : ℕ). (0xF0 + n / 262144) ∷ k ∷ d ∷ e ∷ []) x
            ∙ ap (λ (k : ℕ). (0xF0 + n / 262144) ∷ six_bits (n / 4096) ∷ k ∷ e ∷ []) y
            ∙ ap (λ (k : ℕ). (0xF0 + n / 262144) ∷ six_bits (n / 4096) ∷ six_bits (n / 64) ∷ k ∷ []) z ∙ sym (shortest-four n h);
      }

-- The rows of three octets and of four, by the second octet's range.
row-three : (b : ℕ) {lo hi : ℕ} {octets : List ℕ} → 0xE0 ≤ b → b ≤ 0xEF → 0x80 ≤ lo → hi ≤ 0xBF → (b ≡ 0xE0 → 0xA0 ≤ lo) → (b ≡ 0xED → hi ≤ 0x9F)
    → Fit ((lo to hi) ∷ UTF8-tail ∷ []) octets → Coded (b ∷ octets)
row-three b {lo} {hi} hb gb l m overlong surrogate (next {b = c} hc gc (next {b = d} hd gd nothing)) = go ((b - 0xE0) * 4096 + (c - 0x80) * 64 + (d - 0x80)) refl
  where
    go : (n : ℕ) → n ≡ (b - 0xE0) * 4096 + (c - 0x80) * 64 + (d - 0x80) → Coded (b ∷ c ∷ d ∷ [])
    go n e =
        coded-three b c d n hb gb (omega arith) (omega arith) hd gd e
        (by_equal b 0xE0 (λ q. omega (arith, overlong q)) (λ q. omega arith))
        (by_order b 0xED (λ q. lower (omega arith)) (λ q. by_equal b 0xED (λ p. lower (omega (arith, surrogate p))) (λ p. upper (omega arith) (omega arith))))

row-four : (b : ℕ) {lo hi : ℕ} {octets : List ℕ} → 0xF0 ≤ b → b ≤ 0xF4 → 0x80 ≤ lo → hi ≤ 0xBF → (b ≡ 0xF0 → 0x90 ≤ lo) → (b ≡ 0xF4 → hi ≤ 0x8F)
    → Fit ((lo to hi) ∷ UTF8-tail ∷ UTF8-tail ∷ []) octets → Coded (b ∷ octets)
row-four b {lo} {hi} hb gb l m overlong above (next {b = c} hc gc (next {b = d} hd gd (next {b = e} he ge nothing))) =
    go ((b - 0xF0) * 262144 + (c - 0x80) * 4096 + (d - 0x80) * 64 + (e - 0x80)) refl
  where
    go : (n : ℕ) → n ≡ (b - 0xF0) * 262144 + (c - 0x80) * 4096 + (d - 0x80) * 64 + (e - 0x80) → Coded (b ∷ c ∷ d ∷ e ∷ [])
    go n q =
        coded-four b c d e n hb gb (omega arith) (omega arith) hd gd he ge q
        (by_equal b 0xF0 (λ p. omega (arith, overlong p)) (λ p. omega arith))
        (by_equal b 0xF4 (λ p. omega (arith, above p)) (λ p. omega arith))

-- the row that an octet begins, with what makes a number of it
record Begun (b : ℕ) (rs : List Octets) : Type 0 where
  is : begins b ≡ Some rs
  coded : {octets : List ℕ} → Fit rs octets → Coded (b ∷ octets)

data Lead (b : ℕ) : Type 0 where
  leads : (rs : List Octets) → Begun b rs → Lead b
  cannot : begins b ≡ None → Lead b

lead-two : (b : ℕ) → 0xC2 ≤ b → b ≤ 0xDF → {octets : List ℕ} → Fit (UTF8-tail ∷ []) octets → Coded (b ∷ octets)
lead-two b h g (next {b = c} hc gc nothing) = coded-two b c h g hc gc

lead-one : (b : ℕ) → b ≤ 0x7F → {octets : List ℕ} → Fit [] octets → Coded (b ∷ octets)
lead-one b h nothing = coded-one b h

lead-three : (b : ℕ) → 0xE0 ≤ b → b ≤ 0xEF → Lead b
lead-three b h g =
    by_order b 0xE1 (λ k. leads _ (record { is = begins-E0 b (omega arith); coded = λ f. row-three b h g (omega arith) (omega arith) (λ p. omega arith) (λ p. omega arith) f }))
    (λ h1. by_order b 0xED (λ k. leads _ (record { is = begins-E1 b h1 (omega arith); coded = λ f. row-three b h g (omega arith) (omega arith) (λ p. omega arith) (λ p. omega arith) f }))
    (λ h2. by_order b 0xEE (λ k. leads _ (record { is = begins-ED b (omega arith); coded = λ f. row-three b h g (omega arith) (omega arith) (λ p. omega arith) (λ p. omega arith) f }))
    (λ h3. leads _ (record { is = begins-EE b h3 g; coded = λ f. row-three b h g (omega arith) (omega arith) (λ p. omega arith) (λ p. omega arith) f }))))

lead-four : (b : ℕ) → 0xF0 ≤ b → b ≤ 0xF4 → Lead b
lead-four b h g =
    by_order b 0xF1 (λ k. leads _ (record { is = begins-F0 b (omega arith); coded = λ f. row-four b h g (omega arith) (omega arith) (λ p. omega arith) (λ p. omega arith) f }))
    (λ h1. by_order b 0xF4 (λ k. leads _ (record { is = begins-F1 b h1 (omega arith); coded = λ f. row-four b h g (omega arith) (omega arith) (λ p. omega arith) (λ p. omega arith) f }))
    (λ h2. leads _ (record { is = begins-F4 b (omega arith); coded = λ f. row-four b h g (omega arith) (omega arith) (λ p. omega arith) (λ p. omega arith) f })))

lead-of : (b : ℕ) → Lead b
lead-of b =
    by_order b 0x80 (λ k. leads _ (record { is = begins-one b (omega arith); coded = λ f. lead-one b (omega arith) f }))
    (λ h0. by_order b 0xC2 (λ k. cannot (begins-tail b h0 (omega arith)))
    (λ h1. by_order b 0xE0 (λ k. leads _ (record { is = begins-two b h1 (omega arith); coded = λ f. lead-two b h1 (omega arith) f }))
    (λ h2. by_order b 0xF0 (λ k. lead-three b h2 (omega arith))
    (λ h3. by_order b 0xF5 (λ k. lead-four b h3 (omega arith)) (λ h4. cannot (begins-above b h4))))))

-- What the grammar accepts is encoded: character by character, in a list of at most `size` octets.
abbrev Decodes : ℕ → Type 0
Decodes size = (bytes : List ℕ) → length bytes ≤ size → UTF8-octets bytes ≡ true → Encodes bytes

no-characters : Encodes []
unfolding concat_map
no-characters = record { numbers = []; scalars = done; is = refl }

decodes-none : Decodes 0
decodes-none [] h e = no-characters
decodes-none (b ∷ bytes) h e = absurd (omega arith)

decodes-more : (size : ℕ) → Decodes size → Decodes (suc size)
unfolding UTF8-octets after_all after whole concat_map
decodes-more size rec [] h e = no-characters
decodes-more size rec (b ∷ bytes) h e = go (lead-of b)
  where
    go : Lead b → Encodes (b ∷ bytes)
    go (leads rs x) =
        let t = taken rs bytes (ap (λ (w : Option (List Octets)). whole (after_all w bytes)) (sym x.is) ∙ e) in
        let one = x.coded t.fit in
        let others = rec t.rest (omega (arith, ap length t.is, length-append t.octets t.rest)) t.goes_on in
        record {
          numbers = one.number ∷ others.numbers;
          scalars = more one.scalar others.scalars;
          is = ap (λ (l : List ℕ). b ∷ l) t.is ∙ ap (λ (l : List ℕ). l ++ t.rest) one.is ∙ ap (λ (l : List ℕ). shortest one.number ++ l) others.is;
        }
    go (cannot x) = absurd (true≢false (sym e ∙ ap (λ (w : Option (List Octets)). whole (after_all w bytes)) x ∙ ap whole (none_after bytes)))

decodes : (size : ℕ) → Decodes size
decodes zero = decodes-none
decodes (suc size) = decodes-more size (decodes size)

-- A character's octets, whatever stands behind them, lead from between two characters to between two.
crossed : (b : ℕ) {rs : List Octets} {octets : List ℕ} (rest : List ℕ) → begins b ≡ Some rs → Fit rs octets → after_all (Some []) ((b ∷ octets) ++ rest) ≡ after_all (Some []) rest
unfolding after_all after
crossed b {rs} {octets} rest e f = ap (λ (w : Option (List Octets)). after_all w (octets ++ rest)) e ∙ fit-after rest f

-- an octet of an encoding
fits : (r : Octets) (b : ℕ) {rs : List Octets} {octets : List ℕ} → r.least ≤ b → b ≤ r.most → Fit rs octets → Fit (r ∷ rs) (b ∷ octets)
fits r b h g f = next h g f

six-bits : (n : ℕ) {rs : List Octets} {octets : List ℕ} → Fit rs octets → Fit (UTF8-tail ∷ rs) (six_bits n ∷ octets)
six-bits n f = fits UTF8-tail (six_bits n) (omega arith) (omega arith) f

module _ (n : ℕ) (rest : List ℕ) where
  abbrev Crosses : List ℕ → Type 0
  Crosses octets = after_all (Some []) (octets ++ rest) ≡ after_all (Some []) rest

  crosses-three : 0x800 ≤ n → n < 0x10000 → Scalar n → Crosses ((0xE0 + n / 4096) ∷ six_bits (n / 64) ∷ six_bits n ∷ [])
  crosses-three h g s =
      by_order n 0x1000 (λ k. crossed _ rest (begins-E0 _ (omega arith)) (fits (0xA0 to 0xBF) (six_bits (n / 64)) (omega arith) (omega arith) (six-bits n nothing)))
      (λ h1. by_order n 0xD000 (λ k. crossed _ rest (begins-E1 _ (omega arith) (omega arith)) (six-bits (n / 64) (six-bits n nothing)))
      (λ h2. by_order n 0xE000 (λ k. crossed _ rest (begins-ED _ (omega arith)) (fits (0x80 to 0x9F) (six_bits (n / 64)) (omega arith) (omega (arith, under s k)) (six-bits n nothing)))
      (λ h3. crossed _ rest (begins-EE _ (omega arith) (omega arith)) (six-bits (n / 64) (six-bits n nothing)))))
    where
      under : Scalar n → n < 0xE000 → n ≤ 0xD7FF
      under (lower k) g = k
      under (upper k j) g = absurd (omega arith)

  crosses-four : 0x10000 ≤ n → n ≤ 0x10FFFF → Crosses ((0xF0 + n / 262144) ∷ six_bits (n / 4096) ∷ six_bits (n / 64) ∷ six_bits n ∷ [])
  crosses-four h g =
      by_order n 0x40000 (λ k. crossed _ rest (begins-F0 _ (omega arith)) (fits (0x90 to 0xBF) (six_bits (n / 4096)) (omega arith) (omega arith) (six-bits (n / 64) (six-bits n nothing))))
      (λ h1. by_order n 0x100000 (λ k. crossed _ rest (begins-F1 _ (omega arith) (omega arith)) (six-bits (n / 4096) (six-bits (n / 64) (six-bits n nothing))))
      (λ h2. crossed _ rest (begins-F4 _ (omega arith)) (fits (0x80 to 0x8F) (six_bits (n / 4096)) (omega arith) (omega arith) (six-bits (n / 64) (six-bits n nothing)))))

  crosses : Scalar n → Crosses (shortest n)
  crosses s =
      by_order n 0x80 (λ k. from (shortest-one n k) (crossed n rest (begins-one n (omega arith)) nothing))
      (λ h1. by_order n 0x800 (λ k. from (shortest-two n h1 k) (crossed _ rest (begins-two _ (omega arith) (omega arith)) (six-bits n nothing)))
      (λ h2. by_order n 0x10000 (λ k. from (shortest-three n h2 k) (crosses-three h2 k s))
      (λ h3. from (shortest-four n h3) (crosses-four h3 (most s)))))
    where
      from : {octets : List ℕ} → shortest n ≡ octets → Crosses octets → Crosses (shortest n)
      from e x = subst Crosses (sym e) x

      most : Scalar n → n ≤ 0x10FFFF
      most (lower k) = omega arith
      most (upper k j) = j

encodings-cross : (numbers : List ℕ) → Each Scalar numbers → after_all (Some []) (concat_map shortest numbers) ≡ Some []
unfolding concat_map after_all
encodings-cross [] done = refl
encodings-cross (n ∷ numbers) (more s h) = crosses n (concat_map shortest numbers) s ∙ encodings-cross numbers h

-- The grammar accepts exactly the concatenations of the shortest encodings of scalar values.
pub accepts-encodings : (bytes : List ℕ) → Encodes bytes → UTF8-octets bytes ≡ true
unfolding UTF8-octets whole
accepts-encodings bytes x = ap UTF8-octets x.is ∙ ap whole (encodings-cross x.numbers x.scalars)

pub accepts-nothing-else : (bytes : List ℕ) → UTF8-octets bytes ≡ true → Encodes bytes
accepts-nothing-else bytes e = decodes (length bytes) bytes (omega arith) e

pub record Accepts (bytes : List ℕ) : Type 0 where
  pub encoded : UTF8-octets bytes ≡ true → Encodes bytes
  pub accepted : Encodes bytes → UTF8-octets bytes ≡ true

pub accepts-exactly : (bytes : List ℕ) → Accepts bytes
accepts-exactly bytes = record { encoded = accepts-nothing-else bytes; accepted = accepts-encodings bytes }

-- A name is read whole first: bytes that end inside it are refused by 3, whatever they are.
bytes_cut : (n : ℕ) (bytes : List ℕ) → length bytes < n → many n u8 bytes ≡ refused 3
unfolding many ◌>>=◌ follow u8
bytes_cut zero bytes h = absurd (omega arith)
bytes_cut (suc n) [] h = refl
bytes_cut (suc n) (b ∷ bytes) h = ap (λ (r : Read (List ℕ)). follow r (λ (bs : List ℕ). pure (b ∷ bs))) (bytes_cut n bytes (omega arith))

pub cut-name : (n : ℕ) (bytes : List ℕ) → length bytes < n → name (n ∷ bytes) ≡ refused 3
unfolding name several ◌>>=◌ follow u8
cut-name n bytes h = ap (λ (r : Read (List ℕ)). follow r well_formed) (bytes_cut n bytes h)

pub bytes_whole : (bytes rest : List ℕ) → many (length bytes) u8 (bytes ++ rest) ≡ got bytes rest
unfolding many ◌>>=◌ follow u8 pure
bytes_whole [] rest = refl
bytes_whole (b ∷ bytes) rest = ap (λ (r : Read (List ℕ)). follow r (λ (bs : List ℕ). pure (b ∷ bs))) (bytes_whole bytes rest)

-- and a whole one is judged
pub whole-name : (bytes rest : List ℕ) → name (length bytes ∷ bytes ++ rest) ≡ well_formed bytes rest
unfolding name several ◌>>=◌ follow u8
whole-name bytes rest = ap (λ (r : Read (List ℕ)). follow r well_formed) (bytes_whole bytes rest)
