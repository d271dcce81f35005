-- Which seek a level is, by what is set in it.
use mathlib.Core.Bool.{Bool, true, false}
use mathlib.Core.Path.{◌≡◌, refl, sym, ap, ◌∙◌}
use Prim.Native.Nat.{ℕ}
use lib.Dec.{eqb}
use denote.Enum.Declared.{tag_of}
use denote.Enum.Bare.{sameb}
use Rattle.std.specs.Prelude.{None, Some, ◌||◌, Option}
use Rattle.rules.specs.File.{Tables, name_at}
use Rattle.rules.specs.Constant.{encode_prefix}
use Rattle.rules.specs.Placement.{Range, RangeEdge}
use Rattle.rules.proofs.Cases.{true≢false}
use Rattle.state.specs.Levels.{seek_number, seek_of, joins, joining}
use Rattle.paths.specs.Paths.{path_of}
use Rattle.seek.specs.Seek.{set_in, kept, range_of, edge_of, edges_of, level_of}
use Rattle.seek.specs.declared.SeekBuilder.{SeekBuilder}
use Rattle.level_frame.specs.LevelFrame.{number_of}
use Rattle.level_frame.specs.contracts.SeekKind as Kinds
use Rattle.level_frame.specs.declared.SeekKind.{SeekKind}
use Rattle.level_frame.specs.declared.SeekKind.TheVariants as Kind

-- a kind as its byte, and whether it is a Prefix
pub number-is : (k : SeekKind) → tag_of Kinds.the_type k ≡ number_of k
number-is Kind.Prefix = refl
number-is Kind.Composite = refl
number-is Kind.PrefixRange = refl
number-is Kind.Bounded = refl

pub prefix_is : (k : SeekKind) → sameb Kinds.the_type k Kind.Prefix ≡ eqb (number_of k) 0
prefix_is Kind.Prefix = refl
prefix_is Kind.Composite = refl
prefix_is Kind.PrefixRange = refl
prefix_is Kind.Bounded = refl

module _ {A : Type 0} where
  -- what is set, by whether it is
  abbrev pub held : Bool → A → Option A
  held b x = elim b [ true ↦ Some x | false ↦ None ]

  pub set-held : (b s : Bool) (x : A) → set_in b s x ≡ held (kept b s) x
  unfolding set_in kept
  set-held true s x = refl
  set-held false s x = refl

-- a level's range, whether it is kept or not
abbrev pub range_in : Tables → SeekBuilder → Range
range_in T l = record { path = path_of l.path; prefix = encode_prefix (name_at T l.range.name); node = l.range.node }

module _ (p : Bool) (r : Option Range) (e f : RangeEdge) where
  edge-bounds : (lo hi : Bool) → (lo || hi) ≡ true → 3 ≡ seek_number p r (held lo e) (held hi f)
  unfolding seek_number
  edge-bounds true hi h = refl
  edge-bounds false true h = refl
  edge-bounds false false h = absurd (true≢false (sym h))

  edgeless : (lo hi : Bool) → (lo || hi) ≡ false → seek_number p r (held lo e) (held hi f) ≡ seek_number p r None None
  edgeless true hi h = absurd (true≢false h)
  edgeless false true h = absurd (true≢false h)
  edgeless false false h = refl

joins-is : (p : Bool) (r : Option Range) (lo hi : Option RangeEdge) → joins p r lo hi ≡ eqb (seek_number p r lo hi) 0
unfolding joins seek_number
joins-is p r (Some x) hi = refl
joins-is p r None (Some y) = refl
joins-is p (Some x) None None = refl
joins-is true None None None = refl
joins-is false None None None = refl

module _ (l : SeekBuilder) (T : Tables) where
  -- "Prefix (parts joined)"
  pub joining-is : joining (level_of T l) ≡ eqb (seek_of (level_of T l)) 0
  unfolding joining seek_of
  joining-is = joins-is _ _ _ _

  pub bounded : (l.lo.set || l.hi.set) ≡ true → 3 ≡ seek_of (level_of T l)
  unfolding seek_of level_of edges_of edge_of
  bounded h = edge-bounds l.plain (range_of T l) _ _ l.lo.set l.hi.set h

  module _ (h : (l.lo.set || l.hi.set) ≡ false) (r : Bool) (er : r ≡ kept l.building l.range.set) where
    abbrev ranged : Bool → ℕ
    ranged b = seek_number l.plain (held b (range_in T l)) None None

    bare : seek_of (level_of T l) ≡ ranged r
    unfolding seek_of level_of edges_of edge_of range_of
    bare =
        edgeless l.plain (range_of T l) _ _ l.lo.set l.hi.set h
        ∙ ap (λ (o : Option Range). seek_number l.plain o None None) (set-held l.building l.range.set (range_in T l)) ∙ ap ranged (sym er)

    pub with-range : r ≡ true → 2 ≡ seek_of (level_of T l)
    unfolding seek_number
    with-range e = sym (bare ∙ ap ranged e)

    pub plain-parts : r ≡ false → l.plain ≡ true → 0 ≡ seek_of (level_of T l)
    unfolding seek_number
    plain-parts e f = sym (bare ∙ ap ranged e ∙ ap (λ (x : Bool). seek_number x None None None) f)

    pub other-parts : r ≡ false → l.plain ≡ false → 1 ≡ seek_of (level_of T l)
    unfolding seek_number
    other-parts e f = sym (bare ∙ ap ranged e ∙ ap (λ (x : Bool). seek_number x None None None) f)
