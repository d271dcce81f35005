-- When a level fits a plan, test by test.
use mathlib.Core.Path.{◌≡◌, refl, sym, ap, ◌∙◌}
use mathlib.Core.Bool.{Bool, true, false}
use Prim.Native.Nat.{ℕ, ◌+◌, ◌*◌, ◌≤◌, ◌<◌}
use native.Mathlib.Omega.{arith}
use lib.Dec.{leb}
use borrow.Author.Tests.{le-leb, lt-leb}
use Rattle.rules.specs.Base.{both}
use Rattle.rules.proofs.Cases.{leb-le, both_left, both_right}
use Rattle.state.specs.State.{Level, fits, joined_bytes, part_bytes}
use Rattle.seek.specs.Seek.{Below, sums_of, parts_size, counts_fit}
use Rattle.seek.specs.declared.Sums.{Sums}

all-five : (a b c d e : Bool) → both a (both b (both c (both d e))) ≡ true → (a ≡ true) × (b ≡ true) × (c ≡ true) × (d ≡ true) × (e ≡ true)
all-five a b c d e h =
    let hb = both_right a _ h in
    let hc = both_right b _ hb in
    let hd = both_right c _ hc in
    (both_left a _ h, both_left b _ hb, both_left c _ hc, both_left d e hd, both_right d e hd)

-- a level fits by its counts alone
pub fits-counts : (l : Level) → fits l ≡ counts_fit l.plain l.counts
unfolding fits counts_fit part_bytes joined_bytes
fits-counts l = refl

pub size-plain : (plain : Bool) (s : Sums) → plain ≡ true → s.joined + 2 * (s.closers + s.others) ≡ parts_size plain s
unfolding parts_size
size-plain plain s e = ap (λ b. parts_size b s) (sym e)

pub size-parted : (plain : Bool) (s : Sums) → plain ≡ false → s.joined + s.framed ≡ parts_size plain s
unfolding parts_size
size-parted plain s e = ap (λ b. parts_size b s) (sym e)

module _ (plain : Bool) (s : Sums) where
  tests : counts_fit plain (sums_of s)
      ≡ both (leb (parts_size plain s + s.rest) 16384)
      (both (leb (s.joined + s.framed) 65536) (both (leb s.narrowings 65535) (both (leb (s.closers + s.others) 65535) (leb s.residuals 65535))))
  unfolding counts_fit fits part_bytes joined_bytes sums_of parts_size
  tests = refl

  pub too_long : (n : ℕ) → n ≡ parts_size plain s → 16384 < n + s.rest → false ≡ counts_fit plain (sums_of s)
  too_long n e h = sym (tests ∙ simp (← e, lt-leb _ _ h))

  module _ (n : ℕ) (e : n ≡ parts_size plain s) (h1 : n + s.rest ≤ 16384) where
    first : counts_fit plain (sums_of s) ≡ both (leb (s.joined + s.framed) 65536) (both (leb s.narrowings 65535) (both (leb (s.closers + s.others) 65535) (leb s.residuals 65535)))
    first = tests ∙ simp (← e, le-leb _ _ h1)

    pub too-parted : 65536 < s.joined + s.framed → false ≡ counts_fit plain (sums_of s)
    too-parted h = sym (first ∙ simp (lt-leb _ _ h))

    pub too-narrowed : s.joined + s.framed ≤ 65536 → 65535 < s.narrowings → false ≡ counts_fit plain (sums_of s)
    too-narrowed h2 h = sym (first ∙ simp (le-leb _ _ h2, lt-leb _ _ h))

    pub too_many : s.joined + s.framed ≤ 65536 → s.narrowings ≤ 65535 → 65535 < s.closers + s.others → false ≡ counts_fit plain (sums_of s)
    too_many h2 h3 h = sym (first ∙ simp (le-leb _ _ h2, le-leb _ _ h3, lt-leb _ _ h))

    pub last-test : s.joined + s.framed ≤ 65536 → s.narrowings ≤ 65535 → s.closers + s.others ≤ 65535 → leb s.residuals 65535 ≡ counts_fit plain (sums_of s)
    last-test h2 h3 h4 = sym (first ∙ simp (le-leb _ _ h2, le-leb _ _ h3, le-leb _ _ h4))

  pub fits_below : counts_fit plain (sums_of s) ≡ true → Below 65537 s
  fits_below h =
      let t = all-five (leb (parts_size plain s + s.rest) 16384) (leb (s.joined + s.framed) 65536) (leb s.narrowings 65535) (leb (s.closers + s.others) 65535) (leb s.residuals 65535) (sym tests ∙ h) in
      let r : parts_size plain s + s.rest ≤ 16384 = leb-le _ _ t.0 in
      let q : s.joined + s.framed ≤ 65536 = leb-le _ _ t.1 in
      let n : s.narrowings ≤ 65535 = leb-le _ _ t.2 in
      let p : s.closers + s.others ≤ 65535 = leb-le _ _ t.3 in
      let u : s.residuals ≤ 65535 = leb-le _ _ t.4 in
      omega arith
