-- Bytes from a place on: one by one, and block by block.
use mathlib.Core.Bool.{Bool, true}
use mathlib.Core.List.{List, [], ◌∷◌, ◌++◌}
use Rattle.std.specs.Prelude.{Option, Some}
use mathlib.Core.Path.{◌≡◌, refl, sym, ap, ◌∙◌}
use Prim.Native.Nat.{ℕ, ◌+◌, ◌≤◌, ◌<◌, max}
use native.Mathlib.Omega.{arith}
use native.Mathlib.Numerals.{add-one}
use borrow.Author.Tests.{lt-ltb, le-ltb, ltb-true}
use lib.Dec.{eqb, ltb}
use lib.ListN.{length, get_or, drop, drop_of_length-le}
use lib.Seq.{drop-cons}
use Rattle.std.proofs.Common.{fold, ◌&&◌}
use Rattle.std.specs.List.{list_all}
use Rattle.rules.specs.Utf8.{Octets, after, after_all, whole, UTF8-octets}
use Rattle.rules.proofs.Cases.{by_order}
use Rattle.rules.proofs.Utf8.{begins-one}
use Rattle.utf8.specs.Wants.{wants, is_low}
use Rattle.utf8.specs.declared.Wanted.{Wanted}
use Rattle.utf8.proofs.Nexts.{between, whole-if}

module _ (o : Option (List Octets)) (bytes : List ℕ) (i : ℕ) where
  pub after_more : (o' : Option (List Octets)) → i < length bytes → o' ≡ after o (get_or bytes i 0) → after_all o (drop i bytes) ≡ after_all o' (drop (i + 1) bytes)
  unfolding after_all
  after_more o' h e =
      ap (after_all o) (drop-cons bytes i 0 h) ∙ ap (λ (k : ℕ). after_all (after o (get_or bytes i 0)) (drop k bytes)) (sym (add-one i))
      ∙ ap (λ (x : Option (List Octets)). after_all x (drop (i + 1) bytes)) (sym e)

  pub after-end : length bytes ≤ i → after_all o (drop i bytes) ≡ o
  unfolding after_all
  after-end h = ap (after_all o) (drop_of_length-le bytes h)

-- what was greatest before is not above the greatest
greatest-over : (high : ℕ) (bytes : List ℕ) → high ≤ fold max high bytes
greatest-over high [] = omega arith
greatest-over high (b ∷ bytes) = omega (arith, greatest-over (max high b) bytes)

-- bytes below 80 hex are characters of their own
low_run : (high : ℕ) (bytes : List ℕ) → fold max high bytes < 0x80 → after_all (Some []) bytes ≡ Some []
unfolding after_all after
low_run high [] h = refl
low_run high (b ∷ bytes) h =
    let k : b ≤ 0x7F = omega (arith, greatest-over (max high b) bytes) in
    ap (λ (o : Option (List Octets)). after_all o bytes) (begins-one b k) ∙ low_run (max high b) bytes h

after-append : (o : Option (List Octets)) (xs ys : List ℕ) → after_all o (xs ++ ys) ≡ after_all (after_all o xs) ys
unfolding after_all
after-append o [] ys = refl
after-append o (x ∷ xs) ys = after-append (after o x) xs ys

-- a block more
pub block_more : (o o' : Option (List Octets)) (block rest : List ℕ) → o' ≡ after_all o block → after_all o (block ++ rest) ≡ after_all o' rest
block_more o o' block rest e = after-append o block rest ∙ ap (λ (x : Option (List Octets)). after_all x rest) (sym e)

-- and one below 80 hex, between two characters
pub low-block : (w : Wanted) (block : List ℕ) → w.more ≡ 0 → fold max 0 block < 0x80 → wants w ≡ after_all (wants w) block
low-block w block e h = between w e ∙ sym (low_run 0 block h) ∙ ap (λ (o : Option (List Octets)). after_all o block) (sym (between w e))

-- where no byte is left
pub after_none : (o : Option (List Octets)) (bytes : List ℕ) → length bytes ≡ 0 → after_all o bytes ≡ o
after_none o bytes h = after-end o bytes 0 (omega arith)

-- The verdict: by what is wanted at the end, or at once where every byte is below 80 hex.
pub ended : (w : Wanted) (bytes : List ℕ) → wants w ≡ after_all (Some []) bytes → eqb w.more 0 ≡ UTF8-octets bytes
unfolding UTF8-octets
ended w bytes e = sym (whole-if w) ∙ ap whole e

-- each of them by the greatest
low-all : (high : ℕ) (bytes : List ℕ) → high < 0x80 → list_all is_low bytes ≡ ltb (fold max high bytes) 0x80
unfolding is_low
low-all high [] h = sym (lt-ltb high 0x80 h)
low-all high (b ∷ bytes) h =
    by_order b 0x80
    (λ g.
    let k : max high b < 0x80 = omega arith in
    ap (λ (t : Bool). t && list_all is_low bytes) (lt-ltb b 0x80 g) ∙ low-all (max high b) bytes k)
    (λ g.
    let k : 0x80 ≤ fold max (max high b) bytes = omega (arith, greatest-over (max high b) bytes) in
    ap (λ (t : Bool). t && list_all is_low bytes) (le-ltb b 0x80 g) ∙ sym (le-ltb (fold max (max high b) bytes) 0x80 k))

pub low-greatest : (high : ℕ) (bytes : List ℕ) → high ≡ fold max 0 bytes → ltb high 0x80 ≡ list_all is_low bytes
low-greatest high bytes e = ap (λ (k : ℕ). ltb k 0x80) e ∙ sym (low-all 0 bytes (omega arith))

-- texts of such bytes are well-formed
pub low-text : (bytes : List ℕ) → list_all is_low bytes ≡ true → true ≡ UTF8-octets bytes
unfolding UTF8-octets whole
low-text bytes e = sym (ap whole (low_run 0 bytes (ltb-true (fold max 0 bytes) 0x80 (sym (low-all 0 bytes (omega arith)) ∙ e))))
