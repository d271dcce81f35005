-- A buffer zeroed block by block.
use mathlib.Core.Path.{◌≡◌, refl, sym, ap, ap₂, ◌∙◌}
use mathlib.Core.List.{List, [], ◌∷◌, ◌++◌, append-nil, append_assoc}
use Prim.Native.Nat.{ℕ, ◌+◌, ◌-◌, ◌≤◌}
use native.Mathlib.Omega.{arith}
use lib.Bits.{bit_or, or_add_and, and_le_l, and_le_r}
use lib.ListN.{length, take, replicate, length-append, length-replicate, replicate-append-replicate}
use Rattle.std.proofs.Common.{fold}
use lib.Seq.{take_all, length-take-le, take_at}
use borrow.Rule.Slice.PartMut.{mid_of, post_of, put_mid, same_len_mid, mid_len}
use Rattle.zeroes.specs.Zeroed.{zeroed}

pub zero-end : (w : List ℕ) (i : ℕ) → length w ≤ i → zeroed w i ≡ w
unfolding zeroed
zero-end w i h =
    let n : length w - i ≡ 0 = omega arith in
    ap (λ (k : ℕ). take i w ++ replicate k 0) n ∙ append-nil (take i w) ∙ take_all i w h

-- bytes with no bit set
or-none : (a b : ℕ) → bit_or a b ≡ 0 → (a ≡ 0) × (b ≡ 0)
or-none a b h = (omega (arith, h, or_add_and a b, and_le_r a b), omega (arith, h, or_add_and a b, and_le_l a b))

bits_none : (s : ℕ) (bs : List ℕ) → fold bit_or s bs ≡ 0 → (s ≡ 0) × (bs ≡ replicate (length bs) 0)
bits_none s [] h = (h, refl)
bits_none s (b ∷ bs) h =
    let rest = bits_none (bit_or s b) bs h in
    let both = or-none s b rest.0 in
    (both.0, ap₂ (λ (x : ℕ) (l : List ℕ). x ∷ l) both.1 rest.1)

-- a block with no bit set is zero already
pub clean : (block : List ℕ) → fold bit_or 0 block ≡ 0 → block ≡ zeroed block 0
unfolding zeroed
clean block h =
    let n : length block ≡ length block - 0 = omega arith in
    (bits_none 0 block h).1 ∙ ap (λ (k : ℕ). replicate k 0) n

-- a block of a buffer, zeroed in its place
module _ (w block : List ℕ) (at end : ℕ) (h : at ≤ end) (g : end ≤ length w) (e : block ≡ zeroed (mid_of at (end - at) w) 0) where
  zeroes : block ≡ replicate (end - at) 0
  unfolding zeroed
  zeroes =
      let n : length (mid_of at (end - at) w) - 0 ≡ end - at = omega (arith, mid_len at end w g) in
      e ∙ ap (λ (k : ℕ). replicate k 0) n

  block-length : length block ≡ end - at
  block-length = ap length zeroes ∙ length-replicate (end - at) 0

  pub block_same : length (put_mid at (end - at) w block) ≡ length w
  block_same = same_len_mid at (end - at) w block (block-length ∙ sym (mid_len at end w g))

  pub block_more : zeroed w at ≡ zeroed (put_mid at (end - at) w block) end
  unfolding zeroed
  block_more =
      let front : length (take at w ++ block) ≡ end = omega (arith, length-append (take at w) block, length-take-le at w (omega arith), block-length) in
      let n : length w - at ≡ (end - at) + (length (put_mid at (end - at) w block) - end) = omega (arith, block_same) in
      let left : ℕ = length (put_mid at (end - at) w block) - end in
      ap (λ (k : ℕ). take at w ++ replicate k 0) n
      ∙ ap (λ (l : List ℕ). take at w ++ l) (sym (replicate-append-replicate (end - at) left 0))
      ∙ sym (append_assoc (take at w) (replicate (end - at) 0) (replicate left 0))
      ∙ ap (λ (l : List ℕ). (take at w ++ l) ++ replicate left 0) (sym zeroes)
      ∙ ap (λ (l : List ℕ). l ++ replicate left 0) (sym (take_at (take at w ++ block) (post_of at (end - at) w) end front))
      ∙ ap (λ (l : List ℕ). take end l ++ replicate left 0) (append_assoc (take at w) block (post_of at (end - at) w))
