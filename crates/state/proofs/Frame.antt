-- A level's bytes in the plan: its frame, its parts and its residuals, each written at its place, are the level as the written rules have it.
use mathlib.Core.Bool.{Bool, true, false}
use mathlib.Core.List.{List, [], ◌∷◌, ◌++◌, append-nil, append_assoc}
use Rattle.std.specs.Prelude.{Option, None, Some}
use mathlib.Core.Path.{◌≡◌, refl, sym, ap, ◌∙◌}
use Prim.Native.Nat.{ℕ, ◌+◌, ◌*◌, ◌≤◌}
use native.Mathlib.Nat.{add-zero}
use native.Mathlib.Omega.{arith}
use lib.ListN.{length, length-append}
use lib.Seq.{sets}
use Rattle.rules.specs.Base.{◌when_some◌, all, concat_map}
use Rattle.rules.specs.Placement.{SeekKeyPart, Part, Range, RangeEdge, SeekBuilder, SeekKey, as_bytes, joined, nodes_of, unranged, seek, seek_key}
use Rattle.rules.specs.Plan as Plan
use Rattle.rules.proofs.Cases.{by-test, true≢false}
use Rattle.state.specs.State.{Target, joined_bytes}
use Rattle.state.specs.Ops.{part_text, is_bytes, put_made, part_at, part_form, node_at, part_put}
use Rattle.state.specs.Levels.{seek_number, seek_of, joins, joining, head, range_or_edges, middle, tail, parts_at, nodes_at, middle_at, rest_at, tail_at, level_end, frame, writing_at}
use Rattle.state.proofs.Seqs.{sets-append, sets_then, sets-comm, sets-before, length-snoc}
use Rattle.state.proofs.Sizes.{text_of, plain_part, summary, part_size, weight, parts-longer}
use Rattle.state.proofs.Rel.{counts_of, parts_put, plan_as}

module _ {A : Type 0} where
  -- five runs one after another, the second and the fourth written last
  five : (l : List A) (at : ℕ) (a b c d e : List A) → sets (sets (sets (sets (sets l at a) (at + length a + length b) c) (at + length a + length b + length c + length d) e) (at + length a) b) (at + length a + length b + length c) d ≡ sets l at (a ++ b ++ c ++ d ++ e)
  five l at a b c d e =
      let i₁ = at + length a in
      let i₂ = i₁ + length b in
      let i₃ = i₂ + length c in
      let i₄ = i₃ + length d in
      ap (λ (k : List A). sets k i₃ d) (sym (sets-comm (sets (sets l at a) i₂ c) i₁ b i₄ e (omega arith)))
      ∙ sym (sets-comm (sets (sets (sets l at a) i₂ c) i₁ b) i₃ d i₄ e (omega arith))
      ∙ ap (λ (k : List A). sets (sets k i₃ d) i₄ e) (sym (sets-comm (sets l at a) i₁ b i₂ c (omega arith)))
      ∙ ap (λ (k : List A). sets (sets (sets k i₂ c) i₃ d) i₄ e) (sym (sets-append l at a b))
      ∙ ap (λ (k : List A). sets (sets k i₃ d) i₄ e) (sets_then l at (a ++ b) c i₂ (omega (arith, length-append a b)))
      ∙ ap (λ (k : List A). sets k i₄ e) (sets_then l at (a ++ b ++ c) d i₃ (omega (arith, length-append a b, length-append (a ++ b) c)))
      ∙ sets_then l at (a ++ b ++ c ++ d) e i₄ (omega (arith, length-append a b, length-append (a ++ b) c, length-append (a ++ b ++ c) d))

-- Parts as the plan holds them: joined, their texts and then their nodes, or each by itself.
abbrev nodes_in : List Part → List ℕ
nodes_in parts = concat_map Plan.u16 (nodes_of parts)

unfoldable parts_as : Bool → List Part → List ℕ
parts_as joining parts = elim joining [ true ↦ concat_map text_of parts ++ nodes_in parts | false ↦ concat_map Plan.part parts ]

nodes-length : (parts : List Part) → length (nodes_in parts) ≡ 2 * length parts
unfolding nodes_of concat_map Plan.u16
nodes-length [] = refl
nodes-length (p ∷ parts) = omega (arith, nodes-length parts)

-- how long they are
parts-size : (joining : Bool) (parts : List Part) → length (parts_as joining parts) ≡ elim joining [ true ↦ length (concat_map text_of parts) + 2 * length parts | false ↦ length (concat_map Plan.part parts) ]
unfolding parts_as
parts-size true parts = omega (arith, length-append (concat_map text_of parts) (nodes_in parts), nodes-length parts)
parts-size false parts = refl

-- one part, written in the two ways
pub joined-one : (t : Target) (before : List Part) (p : Part) (plan : List ℕ) → t.joining ≡ true
    → part_put t (counts_of before) p plan ≡ sets (sets plan (t.nodes_at + 2 * length before) (Plan.u16 p.node)) (t.parts_at + length (concat_map text_of before)) (text_of p)
unfolding part_put put_made part_at part_form node_at
joined-one t before p plan e = rw e refl

apart-one : (t : Target) (before : List Part) (p : Part) (plan : List ℕ) → t.joining ≡ false → part_put t (counts_of before) p plan ≡ sets plan (t.parts_at + length (concat_map Plan.part before)) (Plan.part p)
unfolding part_put put_made part_at part_form node_at Plan.part
apart-one t before p plan e = rw e (sets-before plan (t.parts_at + length (concat_map Plan.part before)) (Plan.part_key p.key) (Plan.u16 p.node))

-- joined parts written one after another, where their texts end before their nodes
joined-put : (t : Target) (before parts : List Part) (plan : List ℕ) → t.joining ≡ true → t.parts_at + length (concat_map text_of before) + length (concat_map text_of parts) ≤ t.nodes_at
    → parts_put t before parts plan ≡ sets (sets plan (t.parts_at + length (concat_map text_of before)) (concat_map text_of parts)) (t.nodes_at + 2 * length before) (nodes_in parts)
unfolding parts_put nodes_of concat_map Plan.u16
joined-put t before [] plan e h = refl
joined-put t before (p ∷ parts) plan e h =
    let at = t.parts_at + length (concat_map text_of before) in
    let to = t.nodes_at + 2 * length before in
    let texts = concat_map text_of parts in
    let node = Plan.u16 p.node in
    let at' = t.parts_at + length (concat_map text_of (before ++ (p ∷ []))) in
    let to' = t.nodes_at + 2 * length (before ++ (p ∷ [])) in
    joined-put t (before ++ (p ∷ [])) parts _ e (omega (arith, h, length-snoc text_of before p, length-append (text_of p) texts))
    ∙ ap (λ (l : List ℕ). sets (sets l at' texts) to' (nodes_in parts)) (joined-one t before p plan e)
    ∙ ap (λ (l : List ℕ). sets l to' (nodes_in parts)) (sets_then (sets plan to node) at (text_of p) texts at' (omega (arith, length-snoc text_of before p)) ∙ sym (sets-comm plan at (text_of p ++ texts) to node (omega (arith, h))))
    ∙ sets_then (sets plan at (text_of p ++ texts)) to node (nodes_in parts) to' (omega (arith, length-append before (p ∷ [])))

-- parts that stand by themselves
pub apart-put : (t : Target) (before parts : List Part) (plan : List ℕ) → t.joining ≡ false → parts_put t before parts plan ≡ sets plan (t.parts_at + length (concat_map Plan.part before)) (concat_map Plan.part parts)
unfolding parts_put concat_map
apart-put t before [] plan e = refl
apart-put t before (p ∷ parts) plan e =
    let at = t.parts_at + length (concat_map Plan.part before) in
    let at' = t.parts_at + length (concat_map Plan.part (before ++ (p ∷ []))) in
    apart-put t (before ++ (p ∷ [])) parts _ e
    ∙ ap (λ (l : List ℕ). sets l at' (concat_map Plan.part parts)) (apart-one t before p plan e)
    ∙ sets_then plan at (Plan.part p) (concat_map Plan.part parts) at' (omega (arith, length-snoc Plan.part before p))

-- all parts of a level, at their place
parts-put : (t : Target) (parts : List Part) (plan : List ℕ) → t.nodes_at ≡ t.parts_at + length (concat_map text_of parts) → parts_put t [] parts plan ≡ sets plan t.parts_at (parts_as t.joining parts)
unfolding parts_as concat_map
parts-put t parts plan h =
    let texts = concat_map text_of parts in
    by-test (λ (l : List ℕ). parts_put t [] parts plan ≡ sets plan t.parts_at l) t.joining
    (λ e. joined-put t [] parts plan e (omega (arith, h)) ∙ sets_then plan (t.parts_at + 0) texts (nodes_in parts) (t.nodes_at + 0) (omega (arith, h)) ∙ ap (λ (k : ℕ). sets plan k (texts ++ nodes_in parts)) (add-zero t.parts_at))
    (λ e. apart-put t [] parts plan e ∙ ap (λ (k : ℕ). sets plan k (concat_map Plan.part parts)) (add-zero t.parts_at))

-- All parts are bytes just where they join. A text, there or not:
abbrev there : Bool → List ℕ → Option (List ℕ)
there b x = elim b [ true ↦ Some x | false ↦ None ]

as_bytes_lem : (key : SeekKeyPart) → as_bytes key ≡ there (is_bytes key) (part_text key)
unfolding as_bytes is_bytes part_text
as_bytes_lem (SeekKeyPart.Bytes bytes) = refl
as_bytes_lem (SeekKeyPart.RegisterField address path) = refl
as_bytes_lem (SeekKeyPart.RegisterFactId address) = refl

both-there : (b d : Bool) (x y : List ℕ) → (there b x when_some λ bytes. there d y when_some λ rest. Some (bytes ++ rest)) ≡ there (elim b [ true ↦ d | false ↦ false ]) (x ++ y)
unfolding ◌when_some◌
both-there true true x y = refl
both-there true false x y = refl
both-there false d x y = refl

joined_is : (parts : List Part) → joined parts ≡ there (all plain_part parts) (concat_map text_of parts)
unfolding joined concat_map all
joined_is [] = refl
joined_is (p ∷ parts) =
    (λ i. as_bytes_lem p.key i when_some λ bytes. joined_is parts i when_some λ rest. Some (bytes ++ rest))
    ∙ both-there (plain_part p) (all plain_part parts) (text_of p) (concat_map text_of parts)

beyond : (p x y z : List ℕ) → p ++ x ++ y ++ z ≡ p ++ (x ++ y ++ z)
beyond p x y z = simp append_assoc

text-first : (n x y : List ℕ) → n ++ x ++ y ≡ n ++ (x ++ y) ++ []
text-first n x y = append_assoc n x y ∙ sym (append-nil (n ++ (x ++ y)))

joins-as : (parts : List Part) (plain : Bool) → all plain_part parts ≡ plain → joined parts ≡ there plain (concat_map text_of parts)
joins-as parts plain e = joined_is parts ∙ ap (λ (q : Bool). there q (concat_map text_of parts)) e

abbrev unranged_form : List Part → Option (List ℕ) → List ℕ
unranged_form parts o = Plan.seek (elim o [ None ↦ SeekKey.Composite parts | Some bytes ↦ SeekKey.Prefix bytes (nodes_of parts) ])

-- a seek's number and text length, its parts, and what stands after them
seek-form : (parts : List Part) (plain : Bool) → all plain_part parts ≡ plain → (range : Option Range) (lo hi : Option RangeEdge)
    → Plan.seek (seek parts range lo hi) ≡ (seek_number plain range lo hi ∷ (elim (joins plain range lo hi) [ true ↦ Plan.u16 (length (concat_map text_of parts)) | false ↦ [] ])) ++ parts_as (joins plain range lo hi) parts ++ range_or_edges range lo hi
unfolding seek Plan.seek Plan.text seek_number joins parts_as range_or_edges unranged
seek-form parts plain e range (Some lo) hi = ap (λ (l : List ℕ). 3 ∷ l) (append_assoc (concat_map Plan.part parts) (Plan.edge (Some lo)) (Plan.edge hi))
seek-form parts plain e range None (Some hi) = ap (λ (l : List ℕ). 3 ∷ l) (append_assoc (concat_map Plan.part parts) (Plan.edge None) (Plan.edge (Some hi)))
seek-form parts plain e (Some range) None None = ap (λ (l : List ℕ). 2 ∷ l) (beyond (concat_map Plan.part parts) (Plan.text range.prefix) (Plan.path range.path) (Plan.u16 range.node))
seek-form parts true e None None None =
    ap (unranged_form parts) (joins-as parts true e) ∙ ap (λ (l : List ℕ). 0 ∷ l) (text-first (Plan.u16 (length (concat_map text_of parts))) (concat_map text_of parts) (nodes_in parts))
seek-form parts false e None None None = ap (unranged_form parts) (joins-as parts false e) ∙ ap (λ (l : List ℕ). 1 ∷ l) (sym (append-nil (concat_map Plan.part parts)))

-- The level of n narrowings and what placement made of them.
abbrev pub leveled : ℕ → SeekBuilder → Plan.PlanLevel
leveled n b = record { narrowings = n; closers = b.closers; parts = length b.parts; seek = seek_key b; guide = b.guide; residuals = b.residuals; folded = b.edges.folded }

abbrev parts_in : ℕ → SeekBuilder → List ℕ
parts_in n b = parts_as (joining (summary n b)) b.parts

abbrev rest_in : SeekBuilder → List ℕ
rest_in b = concat_map Plan.residual b.residuals

regroup : (u s p b g c r t : List ℕ) → u ++ s ++ p ++ (b ++ g ++ c) ++ r ++ t ≡ u ++ (s ++ p ++ b) ++ g ++ (c ++ r) ++ t
regroup u s p b g c r t = simp append_assoc

level-bytes : (n : ℕ) (b : SeekBuilder) → head (summary n b) ++ parts_in n b ++ middle (summary n b) ++ rest_in b ++ tail (summary n b) ≡ Plan.level_bytes (leveled n b)
unfolding Plan.level_bytes Plan.counted head middle tail seek_of joining summary seek_key
level-bytes n b =
    regroup (Plan.u16 n ++ Plan.u16 b.closers ++ Plan.u16 (length b.parts))
    (seek_of (summary n b) ∷ (elim (joining (summary n b)) [ true ↦ Plan.u16 (length (concat_map text_of b.parts)) | false ↦ [] ]))
    (parts_in n b) (range_or_edges b.range b.edges.lo b.edges.hi) (Plan.guide b.guide) (Plan.u16 (length b.residuals)) (rest_in b) (tail (summary n b))
    ∙ ap (λ (s : List ℕ). Plan.u16 n ++ Plan.u16 b.closers ++ Plan.u16 (length b.parts) ++ s ++ Plan.guide b.guide ++ (Plan.u16 (length b.residuals) ++ rest_in b) ++ tail (summary n b))
    (sym (seek-form b.parts (all plain_part b.parts) refl b.range b.edges.lo b.edges.hi))

-- written whole, it stands at its place
pub level-written : (plan : List ℕ) (at n : ℕ) (b : SeekBuilder) → plan_as (writing_at at (summary n b)) (frame at (summary n b) plan) b ≡ sets plan at (Plan.level_bytes (leveled n b))
unfolding plan_as frame parts_at nodes_at middle_at rest_at tail_at summary joined_bytes writing_at
level-written plan at n b =
    let l = summary n b in
    ap (λ (p : List ℕ). sets p (rest_at at l) (rest_in b)) (parts-put (writing_at at l) b.parts (frame at l plan) refl)
    ∙ ap (λ (k : ℕ). sets (sets (sets (sets (sets plan at (head l)) (at + length (head l) + k) (middle l)) (at + length (head l) + k + length (middle l) + length (rest_in b)) (tail l)) (at + length (head l)) (parts_in n b)) (at + length (head l) + k + length (middle l)) (rest_in b))
    (sym (parts-size (joining l) b.parts))
    ∙ five plan at (head l) (parts_in n b) (middle l) (rest_in b) (tail l)
    ∙ ap (sets plan at) (level-bytes n b)

-- and it ends where its bytes end
pub level-end : (at n : ℕ) (b : SeekBuilder) → level_end at (summary n b) ≡ at + length (Plan.level_bytes (leveled n b))
unfolding level_end tail_at rest_at middle_at parts_at summary joined_bytes
level-end at n b =
    let l = summary n b in
    omega (arith, parts-size (joining l) b.parts, ap length (sym (level-bytes n b)), length-append (head l) (parts_in n b), length-append (head l ++ parts_in n b) (middle l), length-append (head l ++ parts_in n b ++ middle l) (rest_in b), length-append (head l ++ parts_in n b ++ middle l ++ rest_in b) (tail l))

-- what a level counts for is no more than its bytes
pub joins-plain : (plain : Bool) (range : Option Range) (lo hi : Option RangeEdge) → joins plain range lo hi ≡ true → plain ≡ true
unfolding joins
joins-plain plain range (Some lo) hi e = absurd (true≢false (sym e))
joins-plain plain range None (Some hi) e = absurd (true≢false (sym e))
joins-plain plain (Some range) None None e = absurd (true≢false (sym e))
joins-plain plain None None None e = e

parts-least : (joining : Bool) (parts : List Part) → (joining ≡ true → all plain_part parts ≡ true) → part_size parts ≤ length (parts_as joining parts)
unfolding part_size
parts-least true parts h = by-test (λ (n : ℕ). n ≤ length (parts_as true parts)) (all plain_part parts) (λ e. omega (arith, parts-size true parts)) (λ e. absurd (true≢false (sym (h refl) ∙ e)))
parts-least false parts h = by-test (λ (n : ℕ). n ≤ length (parts_as false parts)) (all plain_part parts) (λ e. omega (arith, parts-size false parts, parts-longer parts)) (λ e. omega (arith, parts-size false parts))

pub level-weight : (n : ℕ) (b : SeekBuilder) → weight b ≤ length (Plan.level_bytes (leveled n b))
unfolding weight joining summary
level-weight n b =
    let l = summary n b in
    omega (arith, parts-least (joining l) b.parts (joins-plain (all plain_part b.parts) b.range b.edges.lo b.edges.hi), ap length (sym (level-bytes n b)), length-append (head l) (parts_in n b), length-append (head l ++ parts_in n b) (middle l), length-append (head l ++ parts_in n b ++ middle l) (rest_in b), length-append (head l ++ parts_in n b ++ middle l ++ rest_in b) (tail l))
