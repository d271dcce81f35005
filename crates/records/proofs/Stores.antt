-- Bytes put one run after another, and past the end.
use mathlib.Core.Path.{◌≡◌, refl, sym, ap, ◌∙◌}
use mathlib.Core.List.{List, [], ◌∷◌, ◌++◌}
use Prim.Native.Nat.{ℕ, suc, ◌+◌, ◌≤◌}
use native.Mathlib.Nat.{add-zero, add-suc, suc-add}
use lib.ListN.{length, set}
use lib.Seq.{sets, set_out, length-sets}
use Rattle.rules.specs.Plan.{u16}
use Rattle.records.specs.Records.{put}

pub put-sets : (w : List ℕ) (at : ℕ) (xs : List ℕ) → put w at xs ≡ sets w at xs
unfolding put
put-sets w at xs = refl

pub put-none : (w : List ℕ) (at : ℕ) → put w at [] ≡ w
unfolding put
put-none w at = refl

pub put-length : (w : List ℕ) (at : ℕ) (xs : List ℕ) → length (put w at xs) ≡ length w
unfolding put
put-length w at xs = length-sets w at xs

pub put_byte : (w : List ℕ) (at b : ℕ) → set w at b ≡ put w at (b ∷ [])
unfolding put
put_byte w at b = refl

pub put-out : (w : List ℕ) (at b : ℕ) → length w ≤ at → w ≡ put w at (b ∷ [])
unfolding put
put-out w at b h = sym (set_out w at b h)

pub put-append : (w : List ℕ) (at : ℕ) (xs ys : List ℕ) → put w at (xs ++ ys) ≡ put (put w at xs) (at + length xs) ys
unfolding put
put-append w at [] ys = ap (λ (k : ℕ). sets w k ys) (sym (add-zero at))
put-append w at (x ∷ xs) ys = put-append (set w at x) (suc at) xs ys ∙ ap (λ (k : ℕ). sets (sets (set w at x) (suc at) xs) k ys) (suc-add at (length xs) ∙ sym (add-suc at (length xs)))

-- xs were put at a place, then ys after them
pub next : (w w1 w2 : List ℕ) (at a : ℕ) (xs ys : List ℕ) → w1 ≡ put w at xs → w2 ≡ put w1 a ys → a ≡ at + length xs → w2 ≡ put w at (xs ++ ys)
next w w1 w2 at a xs ys e f ea = f ∙ ap (λ (k : ℕ). put w1 k ys) ea ∙ ap (λ (l : List ℕ). put l (at + length xs) ys) e ∙ sym (put-append w at xs ys)

-- the same number
pub word-is : (w w' : List ℕ) (at m n : ℕ) → w' ≡ put w at (u16 m) → m ≡ n → w' ≡ put w at (u16 n)
word-is w w' at m n h e = h ∙ ap (λ (k : ℕ). put w at (u16 k)) e

pub byte-is : (w w' : List ℕ) (at m n : ℕ) → w' ≡ put w at (m ∷ []) → m ≡ n → w' ≡ put w at (n ∷ [])
byte-is w w' at m n h e = h ∙ ap (λ (k : ℕ). put w at (k ∷ [])) e
