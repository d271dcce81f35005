-- Bytes written one run after another.
use Prim.Native.Nat.{ℕ, zero, suc, ◌+◌, ◌*◌, ◌-◌, ◌%◌, ◌≤◌, ◌<◌}
use mathlib.Core.Path.{◌≡◌, refl, sym, ap, ap₂, ◌∙◌, subst}
use mathlib.Core.Bool.{true}
use mathlib.Core.List.{List, [], ◌∷◌, ◌++◌, reverse, reverse-cons}
use native.Mathlib.Nat.{add-zero}
use native.Mathlib.Omega.{arith}
use native.Mathlib.Numerals.{add-one}
use lib.ListN.{length, get_or, take, drop, length-append}
use Rattle.std.proofs.lemmas.List.{drop-drop}
use Rattle.std.proofs.lemmas.List.Edits.{sets-eq}
use lib.Seq.{drop-cons}
use Rattle.std.proofs.Common.{append_assoc}
use borrow.Rule.Slice.PartMut.{put_mid}
use Rattle.rules.specs.Constant.{escape, flip_sign, encode_int, encode_prefix, encode_str, encode_bytes}
use Rattle.views.specs.Views.{run, byte_at, SeenText}
use Rattle.views.specs.declared.TextView.{TextView}
use Rattle.views.proofs.Runs.{length_run}
use Rattle.records.specs.Records.{put}
use Rattle.records.proofs.Stores.{put-none, put-sets, put-append, next}
use Rattle.constant.specs.Plain.{plain}
use Rattle.constant.proofs.Plain.{plain-same}
use Rattle.constant.proofs.Escapes.{escape-cons, escape-zero, escape-other, escaped_from, escaped-start, escaped-more, escaped-end, width-most}
use Rattle.encode.specs.Written.{Wrote, down}

-- nothing, one byte, and one run after another
pub wrote_one : (b at end : ℕ) (w w' : List ℕ) → end ≡ at + 1 → w' ≡ put w at (b ∷ []) → Wrote (b ∷ []) at w end w'
wrote_one b at end w w' e q = record { place = e; is = q }

module _ {xs ys : List ℕ} {at mid end : ℕ} {w w1 w2 : List ℕ} where
  pub wrote_then : Wrote xs at w mid w1 → Wrote ys mid w1 end w2 → Wrote (xs ++ ys) at w end w2
  wrote_then a b =
      record {
        place = omega (arith, a.place, b.place, length-append xs ys);
        is = next w w1 w2 at mid xs ys a.is b.is a.place;
      }

pub wrote_as : (xs ys : List ℕ) (at end : ℕ) (w w' : List ℕ) → Wrote xs at w end w' → xs ≡ ys → Wrote ys at w end w'
wrote_as xs ys at end w w' a e = subst (λ (l : List ℕ). Wrote l at w end w') e a

-- a byte and its escape
pub wrote-zero : (b at : ℕ) (w w1 w2 : List ℕ) → b ≡ 0 → w1 ≡ put w at (b ∷ []) → w2 ≡ put w1 (at + 1) (255 ∷ []) → Wrote (escape (b ∷ [])) at w (at + 2) w2
wrote-zero b at w w1 w2 z e q =
    wrote_as ((b ∷ []) ++ (255 ∷ [])) (escape (b ∷ [])) at (at + 2) w w2
    (wrote_then (wrote_one b at (at + 1) w w1 refl e) (wrote_one 255 (at + 1) (at + 2) w1 w2 (omega arith) q))
    (ap (λ (x : ℕ). x ∷ 255 ∷ []) z ∙ sym (escape-zero b z))

pub wrote-other : (b at : ℕ) (w w1 : List ℕ) → (b ≡ 0 → ⊥) → w1 ≡ put w at (b ∷ []) → Wrote (escape (b ∷ [])) at w (at + 1) w1
wrote-other b at w w1 d e = wrote_as (b ∷ []) (escape (b ∷ [])) at (at + 1) w w1 (wrote_one b at (at + 1) w w1 refl e) (sym (escape-other b d))

-- A list that is written from the front: what is left of it, at the place where it goes on.
pub record Going (all : List ℕ) (at : ℕ) (w : List ℕ) (left : List ℕ) (p : ℕ) (v : List ℕ) : Type 0 where
  pub size : length v ≡ length w
  pub place : at + length all ≡ p + length left
  pub is : put w at all ≡ put v p left

pub going_start : (all left : List ℕ) (at : ℕ) (w : List ℕ) → all ≡ left → Going all at w left at w
going_start all left at w e = record { size = refl; place = ap (λ (l : List ℕ). at + length l) e; is = ap (put w at) e }

pub going_more : (all : List ℕ) (at : ℕ) (w left : List ℕ) (p : ℕ) (v : List ℕ) → Going all at w left p v → (xs rest : List ℕ) → left ≡ xs ++ rest → (q : ℕ) (u : List ℕ) → Wrote xs p v q u → length u ≡ length v → Going all at w rest q u
going_more all at w left p v g xs rest e q u a l =
    let n : length left ≡ length xs + length rest = ap length e ∙ length-append xs rest in
    record {
      size = l ∙ g.size;
      place = omega (arith, g.place, a.place);
      is = g.is ∙ ap (put v p) e ∙ put-append v p xs rest ∙ ap (λ (k : ℕ). put (put v p xs) k rest) (sym a.place) ∙ ap (λ (l : List ℕ). put l q rest) (sym a.is);
    }

pub going_end : (all : List ℕ) (at : ℕ) (w left : List ℕ) (p : ℕ) (v : List ℕ) → Going all at w left p v → left ≡ [] → Wrote all at w p v
going_end all at w left p v g e =
    let n : length left ≡ 0 = ap length e in
    record { place = omega (arith, g.place); is = sym (g.is ∙ ap (put v p) e ∙ put-none v p) }

-- Text.
escape-most : (xs : List ℕ) → length (escape xs) ≤ 2 * length xs
unfolding escape
escape-most [] = omega arith
escape-most (x ∷ xs) =
    let h : length (escape xs) ≤ 2 * length xs = escape-most xs in
    let e : length (escape (x ∷ xs)) ≡ length (escape (x ∷ [])) + length (escape xs) = ap length (escape-cons x xs) ∙ length-append (escape (x ∷ [])) (escape xs) in
    omega (arith, width-most x)

module _ (f : List ℕ) (n from at : ℕ) (w : List ℕ) where
  pub record Texting (i p : ℕ) (v : List ℕ) : Type 0 where
    pub within : i ≤ n
    pub near : p ≤ at + 2 * i
    pub going : Going (escape (run (byte_at f) 1 n from)) at w (escaped_from f n from i) p v

  pub text-start : Texting 0 at w
  text-start = record { within = omega arith; near = omega arith; going = going_start _ _ at w (escaped-start f n from) }

  pub text-more : (i p : ℕ) (v : List ℕ) → Texting i p v → i < n → (q : ℕ) (u : List ℕ) → Wrote (escape (get_or f (from + i) 0 ∷ [])) p v q u → length u ≡ length v → Texting (i + 1) q u
  text-more i p v t h q u a l =
      record {
        within = omega arith;
        near = omega (arith, t.near, a.place, width-most (get_or f (from + i) 0));
        going = going_more _ at w _ p v t.going (escape (get_or f (from + i) 0 ∷ [])) (escaped_from f n from (i + 1)) (escaped-more f n from i h) q u a l;
      }

  pub text-end : (i p : ℕ) (v : List ℕ) → Texting i p v → n ≤ i → Wrote (escape (run (byte_at f) 1 n from)) at w p v
  text-end i p v t h = going_end _ at w _ p v t.going (escaped-end f n from i h)

  pub text-far : (end : ℕ) (v : List ℕ) → n ≤ 32768 → Wrote (escape (run (byte_at f) 1 n from)) at w end v → end ≤ at + 65536
  text-far end v h a = omega (arith, a.place, escape-most (run (byte_at f) 1 n from), length_run (byte_at f) 1 n from)

-- Bytes as they are, where there is room for them: a part of the file over a part of the buffer.
part-is : (f : List ℕ) (n from : ℕ) → from + n ≤ length f → take n (drop from f) ≡ run (byte_at f) 1 n from
unfolding run byte_at
part-is f zero from h = refl
part-is f (suc n) from h =
    ap (take (suc n)) (drop-cons f from 0 (omega arith))
    ∙ ap (λ (k : ℕ). get_or f from 0 ∷ take n (drop k f)) (sym (add-one from))
    ∙ ap (λ (l : List ℕ). get_or f from 0 ∷ l) (part-is f n (from + 1) (omega arith))

module _ (f : List ℕ) (n from at : ℕ) (w : List ℕ) where
  pub copied : from + n ≤ length f → at + n ≤ length w → (j k : ℕ) → j ≡ n → k ≡ n → (ys : List ℕ) → ys ≡ take j (drop from f)
      → Wrote (run (byte_at f) 1 n from) at w (at + n) (put_mid at k w ys)
  copied h g j k e d ys q =
      let xs : List ℕ = run (byte_at f) 1 n from in
      let l : length xs ≡ n = length_run (byte_at f) 1 n from in
      let m : at + k ≡ at + length xs = omega (arith, l, d) in
      let r : List ℕ = drop (at + length xs) w in
      let a : take at w ++ (xs ++ r) ≡ (take at w ++ xs) ++ r = simp append_assoc in
      record {
        place = omega (arith, l);
        is =
            ap₂ (λ (y r : List ℕ). take at w ++ (y ++ r)) (q ∙ ap (λ (i : ℕ). take i (drop from f)) e ∙ part-is f n from h)
            (drop-drop k at w ∙ ap (λ (i : ℕ). drop i w) m)
            ∙ a ∙ sym (sets-eq xs w at (omega (arith, l))) ∙ sym (put-sets w at xs);
      }

  -- plain bytes are their own escaped form
  pub text-plain : (end : ℕ) (v : List ℕ) → plain (run (byte_at f) 1 n from) ≡ true → Wrote (run (byte_at f) 1 n from) at w end v → Wrote (escape (run (byte_at f) 1 n from)) at w end v
  text-plain end v e a = wrote_as _ _ at end w v a (sym (plain-same (run (byte_at f) 1 n from) e))

-- A number's bytes, the highest first.
module _ (g : ℕ → ℕ) where
  down-snoc : (n p : ℕ) → down g (suc n) p ≡ down g n (p + 1) ++ (g p ∷ [])
  unfolding down
  down-snoc zero p = ap (λ (k : ℕ). g k ∷ []) (add-zero p)
  down-snoc (suc n) p =
      let e : p + suc n ≡ p + 1 + n = omega arith in
      ap (λ (k : ℕ). g k ∷ down g (suc n) p) e ∙ ap (λ (l : List ℕ). g (p + 1 + n) ∷ l) (down-snoc n p)

  pub reverse-run : (n p : ℕ) → reverse (run g 1 n p) ≡ down g n p
  unfolding run down
  reverse-run zero p = refl
  reverse-run (suc n) p = reverse-cons (g p) (run g 1 n (p + 1)) ∙ ap (λ (l : List ℕ). l ++ (g p ∷ [])) (reverse-run n (p + 1)) ∙ sym (down-snoc n p)

  pub down-more : (n : ℕ) (p : ℕ) → 0 < n → down g n p ≡ g (p + (n - 1)) ∷ down g (n - 1) p
  unfolding down
  down-more n p h = let e : n ≡ suc (n - 1) = omega arith in ap (λ (k : ℕ). down g k p) e

  pub down-none : (n : ℕ) (p : ℕ) → n ≤ 0 → down g n p ≡ []
  unfolding down
  down-none n p h = let e : n ≡ 0 = omega arith in ap (λ (k : ℕ). down g k p) e

module _ (f : List ℕ) (n from at : ℕ) (w : List ℕ) where
  pub record Falling (left p : ℕ) (v : List ℕ) : Type 0 where
    pub within : left ≤ n
    pub near : p + left ≡ at + n
    pub going : Going (down (byte_at f) n from) at w (down (byte_at f) left from) p v

  pub fall-start : Falling n at w
  fall-start = record { within = omega arith; near = refl; going = going_start _ _ at w refl }

  pub fall-more : (left p : ℕ) (v : List ℕ) → Falling left p v → 0 < left → (u : List ℕ) → u ≡ put v p (get_or f (from + (left - 1)) 0 ∷ []) → length u ≡ length v → Falling (left - 1) (p + 1) u
  unfolding byte_at
  fall-more left p v t h u e l =
      record {
        within = omega (arith, t.within);
        near = omega (arith, t.near);
        going = going_more _ at w _ p v t.going (get_or f (from + (left - 1)) 0 ∷ []) (down (byte_at f) (left - 1) from) (down-more (byte_at f) left from h) (p + 1) u (wrote_one _ p (p + 1) v u refl e) l;
      }

  pub fall-end : (left p : ℕ) (v : List ℕ) → Falling left p v → left ≤ 0 → Wrote (down (byte_at f) n from) at w p v
  fall-end left p v t h = going_end _ at w _ p v t.going (down-none (byte_at f) left from h)

pub int_is : (f : List ℕ) (from : ℕ) → 2 ∷ (get_or f (from + 7) 0 + 128) % 256 ∷ down (byte_at f) 7 from ≡ encode_int (run (byte_at f) 1 8 from)
unfolding encode_int flip_sign down byte_at
int_is f from = sym (ap (λ (l : List ℕ). 2 ∷ flip_sign l) (reverse-run (byte_at f) 8 from))

pub wrote-int : (f : List ℕ) (from at high end : ℕ) (w w1 w2 w3 : List ℕ) → w1 ≡ put w at (2 ∷ []) → high ≡ (get_or f (from + 7) 0 + 128) % 256 → w2 ≡ put w1 (at + 1) (high ∷ []) → Wrote (down (byte_at f) 7 from) (at + 2) w2 end w3 → Wrote (encode_int (run (byte_at f) 1 8 from)) at w end w3
wrote-int f from at high end w w1 w2 w3 e1 eh e2 a =
    wrote_as ((2 ∷ high ∷ []) ++ down (byte_at f) 7 from) (encode_int (run (byte_at f) 1 8 from)) at end w w3
    (wrote_then (wrote_then (wrote_one 2 at (at + 1) w w1 refl e1) (wrote_one high (at + 1) (at + 2) w1 w2 (omega arith) e2)) a)
    (ap (λ (x : ℕ). 2 ∷ x ∷ down (byte_at f) 7 from) eh ∙ int_is f from)

-- 03 and the text; with 00; and 04, bytes and 00
pub wrote-prefix : (f x : List ℕ) (v : TextView) (at end : ℕ) (w w1 w2 : List ℕ) → SeenText f x v → w1 ≡ put w at (3 ∷ []) → Wrote (escape (run (byte_at f) 1 v.len v.at)) (at + 1) w1 end w2 → Wrote (encode_prefix x) at w end w2
unfolding encode_prefix
wrote-prefix f x v at end w w1 w2 s e a =
    wrote_as ((3 ∷ []) ++ escape (run (byte_at f) 1 v.len v.at)) (encode_prefix x) at end w w2 (wrote_then (wrote_one 3 at (at + 1) w w1 refl e) a)
    (ap (λ (y : List ℕ). 3 ∷ escape y) s.is)

-- 00 after what was written
pub wrote-end : (xs : List ℕ) (at mid : ℕ) (w w1 w2 : List ℕ) → Wrote xs at w mid w1 → w2 ≡ put w1 mid (0 ∷ []) → Wrote (xs ++ (0 ∷ [])) at w (mid + 1) w2
wrote-end xs at mid w w1 w2 a e = wrote_then a (wrote_one 0 mid (mid + 1) w1 w2 refl e)

pub wrote-str : (x : List ℕ) (at mid : ℕ) (w w1 w2 : List ℕ) → Wrote (encode_prefix x) at w mid w1 → w2 ≡ put w1 mid (0 ∷ []) → Wrote (encode_str x) at w (mid + 1) w2
unfolding encode_str
wrote-str x at mid w w1 w2 a e = wrote-end (encode_prefix x) at mid w w1 w2 a e

pub wrote-bytes : (x : List ℕ) (at mid : ℕ) (w w1 w2 w3 : List ℕ) → w1 ≡ put w at (4 ∷ []) → Wrote (escape x) (at + 1) w1 mid w2 → w3 ≡ put w2 mid (0 ∷ []) → Wrote (encode_bytes x) at w (mid + 1) w3
unfolding encode_bytes
wrote-bytes x at mid w w1 w2 w3 e a q = wrote-end ((4 ∷ []) ++ escape x) at mid w w2 w3 (wrote_then (wrote_one 4 at (at + 1) w w1 refl e) a) q
