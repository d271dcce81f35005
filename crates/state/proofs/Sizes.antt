-- What a level's parts and residuals come to in bytes, the level that the memory keeps of them, and when it fits.
use mathlib.Core.Bool.{Bool, true, false}
use mathlib.Core.List.{List, [], ◌∷◌, ◌++◌}
use Rattle.std.specs.Prelude.{None}
use mathlib.Core.Path.{◌≡◌, refl, sym, ◌∙◌}
use Prim.Native.Nat.{ℕ, ◌+◌, ◌*◌, ◌≤◌, ◌<◌}
use native.Mathlib.Omega.{arith}
use borrow.Author.Tests.{le-leb, leb-false}
use lib.Dec.{leb}
use lib.ListN.{length, length-append}
use Rattle.rules.specs.Base.{both, all, concat_map}
use Rattle.rules.specs.Limits.{plan_limit}
use Rattle.rules.specs.Placement.{SeekKeyPart, Part, Residual, SeekBuilder}
use Rattle.rules.specs.Plan as Plan
use Rattle.rules.specs.Demand3.{number}
use Rattle.rules.proofs.Cases.{by-test, true≢false, leb-le, both_left, both_right, both_true}
use Rattle.rules.proofs.Kept.{most-one}
use Rattle.rules.proofs.Each.{each_all}
use Rattle.state.specs.State.{counts, Level, joined_bytes, part_bytes, fits}
use Rattle.state.specs.Ops.{part_text, is_bytes}
use Rattle.state.proofs.Seqs.{length-least, length-snoc}

-- a part's text, and whether it is bytes
abbrev pub text_of : Part → List ℕ
text_of p = part_text p.key

abbrev pub plain_part : Part → Bool
plain_part p = is_bytes p.key

-- the level that the memory keeps of n narrowings and what placement made of them
unfoldable pub summary : ℕ → SeekBuilder → Level
summary n b =
    record {
      building = b.building;
      plain = all plain_part b.parts;
      counts = counts n b.closers (length b.parts) (length b.residuals) (length (concat_map text_of b.parts)) (length (concat_map Plan.part b.parts)) (length (concat_map Plan.residual b.residuals));
      guide = b.guide;
      range = b.range;
      edges = b.edges;
    }

-- parts as they count towards a plan: joined while all are bytes
unfoldable pub part_size : List Part → ℕ
part_size parts = elim (all plain_part parts) [ true ↦ length (concat_map text_of parts) + 2 * length parts | false ↦ length (concat_map Plan.part parts) ]

unfoldable pub weight : SeekBuilder → ℕ
weight b = part_size b.parts + length (concat_map Plan.residual b.residuals)

-- a part in plan form: its node is two bytes, and where it is bytes all but its text are five
pub part_length : (p : Part) → length (Plan.part p) ≡ length (Plan.part_key p.key) + 2
unfolding Plan.part Plan.u16
part_length p = length-append (Plan.part_key p.key) (Plan.u16 p.node)

key-longer : (key : SeekKeyPart) → 3 + length (part_text key) ≤ length (Plan.part_key key)
unfolding part_text Plan.part_key Plan.text Plan.u16
key-longer (SeekKeyPart.Bytes bytes) = omega arith
key-longer (SeekKeyPart.RegisterField address path) = omega arith
key-longer (SeekKeyPart.RegisterFactId address) = omega arith

key-plain : (key : SeekKeyPart) → is_bytes key ≡ true → length (Plan.part_key key) ≡ length (part_text key) + 3
unfolding part_text is_bytes Plan.part_key Plan.text Plan.u16
key-plain (SeekKeyPart.Bytes bytes) e = omega arith
key-plain (SeekKeyPart.RegisterField address path) e = absurd (true≢false (sym e))
key-plain (SeekKeyPart.RegisterFactId address) e = absurd (true≢false (sym e))

-- a residual without its node, and its plan form
abbrev pub rest_form : Residual → List ℕ
rest_form r = Plan.path r.path ++ Plan.op r.op

pub residual-length : (r : Residual) → length (Plan.residual r) ≡ length (rest_form r) + 2
unfolding Plan.residual Plan.u16
residual-length r = length-append (rest_form r) (Plan.u16 r.node)

pub all_snoc : (parts : List Part) (p : Part) → all plain_part (parts ++ (p ∷ [])) ≡ both (all plain_part parts) (plain_part p)
unfolding all
all_snoc [] p = by-test (λ r. r ≡ plain_part p) (plain_part p) (λ e. sym e) (λ e. sym e)
all_snoc (q ∷ parts) p = go (plain_part q) (all_snoc parts p)
  where
    go : (b : Bool) → all plain_part (parts ++ (p ∷ [])) ≡ both (all plain_part parts) (plain_part p) → (elim b as (λ _. Bool) [ true ↦ all plain_part (parts ++ (p ∷ [])) | false ↦ false ]) ≡ both (elim b [ true ↦ all plain_part parts | false ↦ false ]) (plain_part p)
    go true h = h
    go false h = refl

pub all_both : (p : Part) (parts : List Part) → all plain_part (p ∷ parts) ≡ both (plain_part p) (all plain_part parts)
unfolding all
all_both p parts = go (plain_part p)
  where
    go : (b : Bool) → (elim b as (λ _. Bool) [ true ↦ all plain_part parts | false ↦ false ]) ≡ both b (all plain_part parts)
    go true = refl
    go false = refl

-- all parts, in plan form and as text
pub parts-longer : (parts : List Part) → 5 * length parts + length (concat_map text_of parts) ≤ length (concat_map Plan.part parts)
unfolding concat_map
parts-longer [] = omega arith
parts-longer (p ∷ parts) =
    omega (arith, part_length p, key-longer p.key, parts-longer parts, length-append (text_of p) (concat_map text_of parts), length-append (Plan.part p) (concat_map Plan.part parts))

parts-plain : (parts : List Part) → all plain_part parts ≡ true → length (concat_map Plan.part parts) ≡ length (concat_map text_of parts) + 5 * length parts
unfolding concat_map
parts-plain [] e = refl
parts-plain (p ∷ parts) e =
    let f = sym (all_both p parts) ∙ e in
    omega (arith, part_length p, key-plain p.key (both_left (plain_part p) _ f), parts-plain parts (both_right (plain_part p) _ f), length-append (text_of p) (concat_map text_of parts), length-append (Plan.part p) (concat_map Plan.part parts))

-- one part more never makes a level smaller
pub part_size-snoc : (parts : List Part) (p : Part) → part_size parts ≤ part_size (parts ++ (p ∷ []))
unfolding part_size
part_size-snoc parts p = go (all plain_part parts) (plain_part p) (all plain_part (parts ++ (p ∷ []))) (all_snoc parts p)
  where
    go : (b d e : Bool) → e ≡ both b d → (elim b [ true ↦ length (concat_map text_of parts) + 2 * length parts | false ↦ length (concat_map Plan.part parts) ]) ≤ (elim e [ true ↦ length (concat_map text_of (parts ++ (p ∷ []))) + 2 * length (parts ++ (p ∷ [])) | false ↦ length (concat_map Plan.part (parts ++ (p ∷ []))) ])
    go true d true q = omega (arith, length-snoc text_of parts p, length-append parts (p ∷ []))
    go true d false q = omega (arith, length-snoc Plan.part parts p, parts-longer parts)
    go false d true q = absurd (true≢false q)
    go false d false q = omega (arith, length-snoc Plan.part parts p)

-- what holds of every level of an accepted file: enough that where it has no room the plan is too long
pub record Sane (n : ℕ) (b : SeekBuilder) : Type 0 where
  pub clean : b.building ≡ true → b.residuals ≡ []
  pub no-range : b.building ≡ true → b.range ≡ None
  pub no-guide : b.building ≡ true → b.guide ≡ None
  pub counted : n ≤ length b.parts + length b.residuals + number b.range + number b.guide

-- parts that are not too many bytes are not too many
record Few (parts : List Part) : Type 0 where
  few : length parts ≤ plan_limit
  small : length (concat_map Plan.part parts) ≤ 65536

parts-few : (parts : List Part) → part_size parts ≤ plan_limit → Few parts
unfolding part_size
parts-few parts =
    by-test (λ r. r ≤ plan_limit → Few parts) (all plain_part parts)
    (λ e h. record { few = omega arith; small = omega (arith, parts-plain parts e) })
    (λ e h. record { few = omega (arith, parts-longer parts); small = omega arith })

-- the one test that decides: the others follow from it
pub summary-fits : (n : ℕ) (b : SeekBuilder) → Sane n b → weight b ≤ plan_limit → fits (summary n b) ≡ true
unfolding fits joined_bytes part_bytes summary weight part_size
summary-fits n b s h =
    let f = parts-few b.parts (omega arith) in
    let r = length-least Plan.residual 1 (each_all b.residuals (λ x. omega (arith, residual-length x))) in
    both_true (leb (weight b) plan_limit) _ (le-leb _ _ h)
    (both_true (leb (length (concat_map Plan.part b.parts)) 65536) _ (le-leb _ _ f.small)
    (both_true (leb n 65535) _ (le-leb n 65535 (omega (arith, s.counted, f.few, r, most-one b.range, most-one b.guide)))
    (both_true (leb (length b.parts) 65535) _ (le-leb (length b.parts) 65535 (omega (arith, f.few))) (le-leb (length b.residuals) 65535 (omega (arith, r, h))))))

-- where it does not fit, its bytes are too many
pub summary-long : (n : ℕ) (b : SeekBuilder) → Sane n b → fits (summary n b) ≡ false → plan_limit < weight b
summary-long n b s e = go (leb (weight b) plan_limit) refl
  where
    go : (t : Bool) → leb (weight b) plan_limit ≡ t → plan_limit < weight b
    go true q = absurd (true≢false (sym (summary-fits n b s (leb-le (weight b) plan_limit q)) ∙ e))
    go false q = leb-false (weight b) plan_limit q
