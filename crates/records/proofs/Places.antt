-- Bytes at a place, written or not.
use mathlib.Core.Path.{◌≡◌, refl, sym, ap, ◌∙◌}
use mathlib.Core.Bool.{Bool, true, false}
use mathlib.Core.List.{List, [], ◌∷◌, ◌++◌}
use Prim.Native.Nat.{ℕ, ◌+◌}
use native.Mathlib.Nat.{add-zero}
use lib.ListN.{length}
use Rattle.rules.specs.Placement.{SeekKeyPart}
use Rattle.rules.specs.Plan as Plan
use Rattle.rules.specs.Plan.{u16}
use Rattle.state.specs.Ops.{part_text}
use Rattle.records.specs.Records.{put, written_at, form_of, behind, head_of, apart_of}
use Rattle.views.specs.declared.Anchor.{Anchor}
use Rattle.views.specs.declared.Anchor.TheVariants as An
use Rattle.views.specs.Views.{anchor_of}
use Rattle.records.specs.declared.Place.{Place}
use Rattle.records.proofs.Stores.{put-none, put-append}

abbrev pub place : Bool → Bool → ℕ → Place
place write joined at = record { write = write; joined = joined; at = at }

module _ (p : Place) (bytes w : List ℕ) where
  pub off : p.write ≡ false → w ≡ written_at p bytes w
  unfolding written_at
  off e = sym (ap (λ t. elim t [ true ↦ put w p.at bytes | false ↦ w ]) e)

  pub on : (w' : List ℕ) → p.write ≡ true → w' ≡ put w p.at bytes → w' ≡ written_at p bytes w
  unfolding written_at
  on w' e h = h ∙ sym (ap (λ t. elim t [ true ↦ put w p.at bytes | false ↦ w ]) e)

  -- where nothing is written, the bytes do not matter
  pub off-both : (bytes' : List ℕ) → p.write ≡ false → written_at p bytes w ≡ written_at p bytes' w
  unfolding written_at
  off-both bytes' e = ap (λ t. elim t [ true ↦ put w p.at bytes | false ↦ w ]) e ∙ sym (ap (λ t. elim t [ true ↦ put w p.at bytes' | false ↦ w ]) e)

-- bytes that are alike where they are written
pub same-on : (p : Place) (xs ys w : List ℕ) → (p.write ≡ true → xs ≡ ys) → written_at p xs w ≡ written_at p ys w
same-on p xs ys w e = go p.write refl
  where
    go : (t : Bool) → p.write ≡ t → written_at p xs w ≡ written_at p ys w
    go true h = ap (λ (l : List ℕ). written_at p l w) (e h)
    go false h = off-both p xs w ys h

pub nothing_written : (p : Place) (w : List ℕ) → w ≡ written_at p [] w
unfolding written_at
nothing_written p w = go p.write
  where
    go : (t : Bool) → w ≡ (elim t [ true ↦ put w p.at [] | false ↦ w ])
    go true = sym (put-none w p.at)
    go false = refl

-- xs at a place and ys behind them are one run
then-written : (p : Place) (xs ys w : List ℕ) → written_at (behind (length xs) p) ys (written_at p xs w) ≡ written_at p (xs ++ ys) w
unfolding written_at behind
then-written p xs ys w = go p.write
  where
    laid : Bool → ℕ → List ℕ → List ℕ → List ℕ
    laid t at bytes v = elim t [ true ↦ put v at bytes | false ↦ v ]

    go : (t : Bool) → laid t (p.at + length xs) ys (laid t p.at xs w) ≡ laid t p.at (xs ++ ys) w
    go true = sym (put-append w p.at xs ys)
    go false = refl

module _ (p at : Place) (xs bytes w w1 w2 : List ℕ) (e1 : w1 ≡ written_at p xs w) (ea : at ≡ behind (length xs) p) (e2 : w2 ≡ written_at at bytes w1) where
  pub follows : w2 ≡ written_at p (xs ++ bytes) w
  follows = e2 ∙ ap (λ q. written_at q bytes w1) ea ∙ ap (written_at (behind (length xs) p) bytes) e1 ∙ then-written p xs bytes w

pub behind-writes : (p at : Place) (n : ℕ) → at ≡ behind n p → at.write ≡ p.write
unfolding behind
behind-writes p at n e = ap (λ (q : Place). q.write) e

pub behind-is : (p : Place) (t : Bool) (at n : ℕ) → p.write ≡ t → at ≡ p.at + n → place t p.joined at ≡ behind n p
unfolding behind
behind-is p t at n et ea = ap (λ (x : Bool). place x p.joined at) (sym et) ∙ ap (λ (k : ℕ). place p.write p.joined k) ea

pub behind-none : (p : Place) → p ≡ behind 0 p
unfolding behind
behind-none p = ap (λ (n : ℕ). record { write = p.write; joined = p.joined; at = n }) (sym (add-zero p.at))

-- a kind, a length and a text
pub text-written : (p at : Place) (kind len : ℕ) (bytes w w1 w2 : List ℕ) → w1 ≡ written_at p (kind ∷ u16 len) w → at ≡ behind 3 p → w2 ≡ written_at at bytes w1 → (p.write ≡ true → length bytes ≡ len)
    → w2 ≡ written_at p (kind ∷ Plan.text bytes) w
unfolding Plan.text u16
text-written p at kind len bytes w w1 w2 e1 ea e2 l =
    follows p at (kind ∷ u16 len) bytes w w1 w2 e1 ea e2
    ∙ same-on p ((kind ∷ u16 len) ++ bytes) (kind ∷ Plan.text bytes) w (λ on. ap (λ (n : ℕ). (kind ∷ u16 n) ++ bytes) (sym (l on)))

-- what stands before a part's bytes, by whether they are joined
module _ (p : Place) (len : ℕ) where
  pub place-joined : p.joined ≡ true → p ≡ behind (length (head_of p.joined len)) p
  unfolding head_of
  place-joined e = behind-none p ∙ ap (λ t. behind (length (head_of t len)) p) (sym e)

  pub place-framed : (at : Place) → p.joined ≡ false → at ≡ behind 3 p → at ≡ behind (length (head_of p.joined len)) p
  unfolding head_of u16
  place-framed at e h = h ∙ ap (λ t. behind (length (head_of t len)) p) (sym e)

  pub head-joined : (w : List ℕ) → p.joined ≡ true → w ≡ written_at p (head_of p.joined len) w
  unfolding head_of
  head-joined w e = nothing_written p w ∙ ap (λ t. written_at p (head_of t len) w) (sym e)

  pub head-framed : (w w1 : List ℕ) → p.joined ≡ false → w1 ≡ written_at p (0 ∷ u16 len) w → w1 ≡ written_at p (head_of p.joined len) w
  unfolding head_of
  head-framed w w1 e h = h ∙ ap (λ t. written_at p (head_of t len) w) (sym e)

head-form : (joined : Bool) (bytes : List ℕ) → head_of joined (length bytes) ++ bytes ≡ form_of joined (SeekKeyPart.Bytes bytes)
unfolding head_of form_of part_text Plan.part_key Plan.text u16
head-form true bytes = refl
head-form false bytes = refl

-- a part that is bytes
pub part-written : (p at : Place) (len : ℕ) (bytes w w1 w2 : List ℕ) → w1 ≡ written_at p (head_of p.joined len) w → at ≡ behind (length (head_of p.joined len)) p → w2 ≡ written_at at bytes w1
    → (p.write ≡ true → length bytes ≡ len) → w2 ≡ written_at p (form_of p.joined (SeekKeyPart.Bytes bytes)) w
part-written p at len bytes w w1 w2 e1 ea e2 l =
    follows p at (head_of p.joined len) bytes w w1 w2 e1 ea e2
    ∙ same-on p (head_of p.joined len ++ bytes) (form_of p.joined (SeekKeyPart.Bytes bytes)) w
    (λ on. ap (λ (n : ℕ). head_of p.joined n ++ bytes) (sym (l on)) ∙ head-form p.joined bytes)

-- a part that is no bytes
module _ (p : Place) where
  pub apart-joined : p.joined ≡ true → record { write = false; joined = true; at = p.at } ≡ apart_of p
  unfolding apart_of
  apart-joined e = sym (ap (λ t. elim t [ true ↦ record { write = false; joined = true; at = p.at } | false ↦ p ]) e)

  pub apart-not : p.joined ≡ false → p ≡ apart_of p
  unfolding apart_of
  apart-not e = sym (ap (λ t. elim t [ true ↦ record { write = false; joined = true; at = p.at } | false ↦ p ]) e)

  apart-form : (bytes w : List ℕ) → written_at (apart_of p) bytes w ≡ written_at p (elim p.joined [ true ↦ [] | false ↦ bytes ]) w
  unfolding apart_of written_at
  apart-form bytes w = go p.joined refl
    where
      go : (t : Bool) → p.joined ≡ t → written_at (apart_of p) bytes w ≡ written_at p (elim p.joined [ true ↦ [] | false ↦ bytes ]) w
      go true h = ap (λ q. written_at q bytes w) (sym (apart-joined h)) ∙ nothing_written p w ∙ ap (λ t. written_at p (elim t [ true ↦ [] | false ↦ bytes ]) w) (sym h)
      go false h = ap (λ q. written_at q bytes w) (sym (apart-not h)) ∙ ap (λ t. written_at p (elim t [ true ↦ [] | false ↦ bytes ]) w) (sym h)

  pub apart-written : (at : Place) (bytes w w1 : List ℕ) → at ≡ apart_of p → w1 ≡ written_at at bytes w → w1 ≡ written_at p (elim p.joined [ true ↦ [] | false ↦ bytes ]) w
  apart-written at bytes w w1 ea e1 = e1 ∙ ap (λ q. written_at q bytes w) ea ∙ apart-form bytes w

pub prefix-byte : (a : Anchor) → a ≡ An.Prefix → 0 ≡ Plan.anchor (anchor_of a)
unfolding Plan.anchor
prefix-byte a e = ap (λ x. Plan.anchor (anchor_of x)) (sym e)

pub whole-byte : (a : Anchor) → a ≡ An.Whole → 1 ≡ Plan.anchor (anchor_of a)
unfolding Plan.anchor
whole-byte a e = ap (λ x. Plan.anchor (anchor_of x)) (sym e)
