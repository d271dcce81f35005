-- A level from the page: what its walk wrote there, copied to its place in the plan, is what a walk writes at that place.
use mathlib.Core.Bool.{Bool, true, false}
use mathlib.Core.List.{List, [], ◌∷◌, ◌++◌, append_assoc}
use mathlib.Core.Path.{◌≡◌, refl, sym, ap, ◌∙◌}
use Prim.Native.Nat.{ℕ, ◌+◌, ◌-◌, ◌*◌, ◌/◌, ◌%◌, ◌≤◌, ◌<◌}
use native.Mathlib.Nat.{zero-add, add-zero}
use native.Mathlib.Omega.{arith}
use lib.Dec.{leb}
use lib.ListN.{length, drop, get_or, length-append, take-append-drop}
use lib.Seq.{sets, slice, slice_empty, length-sets, get_or-append-add}
use Rattle.rules.specs.Base.{all, concat_map}
use Rattle.rules.specs.Placement.{SeekKeyPart, Part, SeekBuilder}
use Rattle.rules.specs.Plan as Plan
use Rattle.rules.proofs.Cases.{by-test, true≢false, both_left, both_right, leb-le}
use Rattle.state.specs.State.{Target, Level, word_in}
use Rattle.state.specs.Ops.{part_text, is_bytes, part_put}
use Rattle.state.specs.Levels.{joining, parts_at, nodes_at, rest_at, page_rest, page_length, paging, paged, join_parts, parts_from, from_page, writing_at}
use Rattle.state.proofs.Seqs.{slice-sets-past, slice-sets-at, length-snoc, slice-middle}
use Rattle.state.proofs.Sizes.{text_of, plain_part, summary}
use Rattle.state.proofs.Rel.{counts_of, parts_put, plan_as}
use Rattle.state.proofs.Frame.{joined-one, apart-put, joins-plain}

-- The page holds parts at a place: what stands before them, and after them.
record Holds (page : List ℕ) (p : ℕ) (parts : List Part) : Type 0 where
  front : List ℕ
  back : List ℕ
  begins : length front ≡ p
  is : page ≡ front ++ (concat_map Plan.part parts ++ back)

-- A part that is bytes, as the page has it: its length, its text and its node.
module _ (page front bytes node rest : List ℕ) (size : length bytes < 65536) (two : length node ≡ 2) (is : page ≡ front ++ (0 ∷ length bytes % 256 ∷ length bytes / 256 % 256 ∷ (bytes ++ (node ++ rest)))) where
  abbrev form : List ℕ
  form = 0 ∷ length bytes % 256 ∷ length bytes / 256 % 256 ∷ (bytes ++ (node ++ rest))

  byte_at : (k n : ℕ) → k ≡ length front + n → get_or page k 0 ≡ get_or form n 0
  byte_at k n e = (λ i. get_or (is i) (e i) 0) ∙ get_or-append-add front form n 0

  size_is : word_in page (length front + 1) ≡ length bytes
  unfolding word_in
  size_is = omega (arith, byte_at (length front + 1) 1 refl, byte_at (length front + 1 + 1) 2 (omega arith), size)

  head-off : (x y : List ℕ) → front ++ (0 ∷ length bytes % 256 ∷ length bytes / 256 % 256 ∷ (x ++ y)) ≡ (front ++ (0 ∷ length bytes % 256 ∷ length bytes / 256 % 256 ∷ x)) ++ y
  head-off x y = sym (append_assoc front (0 ∷ length bytes % 256 ∷ length bytes / 256 % 256 ∷ x) y)

  text-is : slice (length front + 3) (length front + 3 + length bytes) page ≡ bytes
  text-is =
      ap (slice (length front + 3) (length front + 3 + length bytes)) (is ∙ head-off [] (bytes ++ (node ++ rest)))
      ∙ slice-middle (front ++ (0 ∷ length bytes % 256 ∷ length bytes / 256 % 256 ∷ [])) bytes (node ++ rest) (length front + 3) (length front + 3 + length bytes) (omega (arith, length-append front (0 ∷ length bytes % 256 ∷ length bytes / 256 % 256 ∷ []))) (omega (arith, length-append front (0 ∷ length bytes % 256 ∷ length bytes / 256 % 256 ∷ [])))

  node-is : slice (length front + 3 + length bytes) (length front + 3 + length bytes + 2) page ≡ node
  node-is =
      ap (slice (length front + 3 + length bytes) (length front + 3 + length bytes + 2)) (is ∙ head-off bytes (node ++ rest))
      ∙ slice-middle (front ++ (0 ∷ length bytes % 256 ∷ length bytes / 256 % 256 ∷ bytes)) node rest (length front + 3 + length bytes) (length front + 3 + length bytes + 2) (omega (arith, length-append front (0 ∷ length bytes % 256 ∷ length bytes / 256 % 256 ∷ bytes))) (omega (arith, two, length-append front (0 ∷ length bytes % 256 ∷ length bytes / 256 % 256 ∷ bytes)))

-- a part that is bytes, in plan form
form_of : (key : SeekKeyPart) (node : List ℕ) → is_bytes key ≡ true → Plan.part_key key ++ node ≡ 0 ∷ length (part_text key) % 256 ∷ length (part_text key) / 256 % 256 ∷ (part_text key ++ node)
unfolding is_bytes part_text Plan.part_key Plan.text Plan.u16
form_of (SeekKeyPart.Bytes bytes) node e = refl
form_of (SeekKeyPart.RegisterField address path) node e = absurd (true≢false (sym e))
form_of (SeekKeyPart.RegisterFactId address) node e = absurd (true≢false (sym e))

regroup : (x n c b : List ℕ) → x ++ n ++ c ++ b ≡ x ++ (n ++ (c ++ b))
regroup x n c b = simp append_assoc

all_head : (p : Part) (parts : List Part) → all plain_part (p ∷ parts) ≡ true → plain_part p ≡ true
unfolding all
all_head p parts = by-test (λ (b : Bool). b ≡ true → plain_part p ≡ true) (plain_part p) (λ e _. e) (λ _ q. absurd (true≢false (sym q)))

all_tail : (p : Part) (parts : List Part) → all plain_part (p ∷ parts) ≡ true → all plain_part parts ≡ true
unfolding all
all_tail p parts = by-test (λ (b : Bool). b ≡ true → all plain_part parts ≡ true) (plain_part p) (λ _ q. q) (λ _ q. absurd (true≢false (sym q)))

-- The first of the parts that the page holds.
module _ (page : List ℕ) (before : List Part) (p : Part) (parts : List Part) (plain : all plain_part (p ∷ parts) ≡ true) (h : length (concat_map Plan.part (p ∷ parts)) < 65536) (holds : Holds page (length (concat_map Plan.part before)) (p ∷ parts)) where
  abbrev at : ℕ
  at = length (concat_map Plan.part before)

  abbrev size : ℕ
  size = length (text_of p)

  abbrev rest : List ℕ
  rest = concat_map Plan.part parts ++ holds.back

  -- all but its text are five bytes
  part-size : length (Plan.part p) ≡ size + 5
  unfolding Plan.part Plan.u16
  part-size = omega (arith, ap length (form_of p.key (Plan.u16 p.node) (all_head p parts plain)), length-append (text_of p) (Plan.u16 p.node))

  short : size < 65536
  unfolding concat_map
  short = omega (arith, h, part-size, length-append (Plan.part p) (concat_map Plan.part parts))

  two : length (Plan.u16 p.node) ≡ 2
  unfolding Plan.u16
  two = refl

  is-form : page ≡ holds.front ++ (0 ∷ size % 256 ∷ size / 256 % 256 ∷ (text_of p ++ (Plan.u16 p.node ++ rest)))
  unfolding Plan.part concat_map
  is-form =
      holds.is
      ∙ ap (λ (l : List ℕ). holds.front ++ (l ++ concat_map Plan.part parts ++ holds.back)) (form_of p.key (Plan.u16 p.node) (all_head p parts plain))
      ∙ ap (λ (l : List ℕ). holds.front ++ (0 ∷ size % 256 ∷ size / 256 % 256 ∷ l)) (regroup (text_of p) (Plan.u16 p.node) (concat_map Plan.part parts) holds.back)

  first-size : word_in page (at + 1) ≡ size
  first-size = ap (λ (k : ℕ). word_in page (k + 1)) (sym holds.begins) ∙ size_is page holds.front (text_of p) (Plan.u16 p.node) rest short two is-form

  first-text : slice (at + 3) (at + 3 + size) page ≡ text_of p
  first-text = ap (λ (k : ℕ). slice (k + 3) (k + 3 + size) page) (sym holds.begins) ∙ text-is page holds.front (text_of p) (Plan.u16 p.node) rest short two is-form

  first-node : slice (at + 3 + size) (at + 3 + size + 2) page ≡ Plan.u16 p.node
  first-node = ap (λ (k : ℕ). slice (k + 3 + size) (k + 3 + size + 2) page) (sym holds.begins) ∙ node-is page holds.front (text_of p) (Plan.u16 p.node) rest short two is-form

  past_first : at + 3 + size + 2 ≡ length (concat_map Plan.part (before ++ (p ∷ [])))
  past_first = omega (arith, length-snoc Plan.part before p, part-size)

  fewer : length (concat_map Plan.part parts) < 65536
  unfolding concat_map
  fewer = omega (arith, h, length-append (Plan.part p) (concat_map Plan.part parts))

  holds-next : Holds page (length (concat_map Plan.part (before ++ (p ∷ [])))) parts
  unfolding concat_map
  holds-next =
      record {
        front = holds.front ++ Plan.part p;
        back = holds.back;
        begins = omega (arith, length-append holds.front (Plan.part p), holds.begins, length-snoc Plan.part before p);
        is = holds.is ∙ ap (λ (l : List ℕ). holds.front ++ l) (append_assoc (Plan.part p) (concat_map Plan.part parts) holds.back) ∙ sym (append_assoc holds.front (Plan.part p) rest);
      }

-- Parts joined one after another are what the walk writes that joins them.
join-parts : (t : Target) (page : List ℕ) → t.joining ≡ true → (before parts : List Part) (plan : List ℕ) → all plain_part parts ≡ true → length (concat_map Plan.part parts) < 65536 → Holds page (length (concat_map Plan.part before)) parts
    → join_parts (length parts) page (length (concat_map Plan.part before)) (t.parts_at + length (concat_map text_of before)) (t.nodes_at + 2 * length before) plan ≡ parts_put t before parts plan
unfolding join_parts parts_put
join-parts t page e before [] plan plain h holds = refl
join-parts t page e before (p ∷ parts) plan plain h holds =
    let at = length (concat_map Plan.part before) in
    let text = t.parts_at + length (concat_map text_of before) in
    let node = t.nodes_at + 2 * length before in
    let L = length (text_of p) in
    let more = join_parts (length parts) page in
    let past = past_first page before p parts plain h holds in
    let texts : text + L ≡ t.parts_at + length (concat_map text_of (before ++ (p ∷ []))) = omega (arith, length-snoc text_of before p) in
    let nodes : node + 2 ≡ t.nodes_at + 2 * length (before ++ (p ∷ [])) = omega (arith, length-append before (p ∷ [])) in
    ap (λ (k : ℕ). more (at + 3 + k + 2) (text + k) (node + 2) (sets (sets plan node (slice (at + 3 + k) (at + 3 + k + 2) page)) text (slice (at + 3) (at + 3 + k) page))) (first-size page before p parts plain h holds)
    ∙ (λ i. more (past i) (texts i) (nodes i) (sets (sets plan node (first-node page before p parts plain h holds i)) text (first-text page before p parts plain h holds i)))
    ∙ ap (more (length (concat_map Plan.part (before ++ (p ∷ [])))) (t.parts_at + length (concat_map text_of (before ++ (p ∷ [])))) (t.nodes_at + 2 * length (before ++ (p ∷ [])))) (sym (joined-one t before p plan e))
    ∙ join-parts t page e (before ++ (p ∷ [])) parts (part_put t (counts_of before) p plan) (all_tail p parts plain) (fewer page before p parts plain h holds) (holds-next page before p parts plain h holds)

-- What a level's walk leaves on the page.
module _ (page : List ℕ) (b : SeekBuilder) where
  abbrev parts : List ℕ
  parts = concat_map Plan.part b.parts

  abbrev rests : List ℕ
  rests = concat_map Plan.residual b.residuals

  abbrev left : List ℕ
  left = plan_as paging page b

  left_is : left ≡ sets (sets page 0 parts) page_rest rests
  unfolding plan_as paging concat_map
  left_is = ap (λ (p : List ℕ). sets p page_rest rests) (apart-put paging [] b.parts page refl)

  -- the page stays as long
  pub page-length : length left ≡ length page
  page-length = ap length left_is ∙ length-sets (sets page 0 parts) page_rest rests ∙ length-sets page 0 parts

  module _ (room : length page ≡ page_length) (n : ℕ) (fits : paged (summary n b).counts ≡ true) where
    parts-fit : length parts ≤ page_rest
    unfolding paged summary
    parts-fit = leb-le (length parts) page_rest (both_left (leb (length parts) page_rest) (leb (length rests) (page_length - page_rest)) fits)

    rests-fit : length rests ≤ page_length - page_rest
    unfolding paged summary
    rests-fit = leb-le (length rests) (page_length - page_rest) (both_right (leb (length parts) page_rest) (leb (length rests) (page_length - page_rest)) fits)

    parts-there : slice 0 (length parts) left ≡ parts
    parts-there =
        ap (slice 0 (length parts)) left_is
        ∙ slice-sets-past 0 (length parts) (sets page 0 parts) page_rest rests parts-fit
        ∙ ap (λ (k : ℕ). slice 0 k (sets page 0 parts)) (sym (zero-add (length parts)))
        ∙ slice-sets-at 0 0 page parts (omega arith) (omega (arith, room, parts-fit))

    rests-there : slice page_rest (page_rest + length rests) left ≡ rests
    rests-there =
        ap (slice page_rest (page_rest + length rests)) left_is
        ∙ slice-sets-at page_rest page_rest (sets page 0 parts) rests (omega arith) (omega (arith, room, rests-fit, length-sets page 0 parts))
        ∙ ap (λ (l : List ℕ). l ++ rests) (slice_empty page_rest (sets page 0 parts))

    parts_held : Holds left 0 b.parts
    parts_held =
        record {
          front = [];
          back = drop (length parts) left;
          begins = refl;
          is = sym (take-append-drop (length parts) left) ∙ ap (λ (l : List ℕ). l ++ drop (length parts) left) parts-there;
        }

    -- copied to their place they are what a walk writes there
    module _ (at : ℕ) (plan : List ℕ) where
      abbrev l : Level
      l = summary n b

      abbrev t : Target
      t = writing_at at l

      joined-from : joining l ≡ true → join_parts (length b.parts) left 0 (parts_at at l) (nodes_at at l) plan ≡ parts_put t [] b.parts plan
      unfolding writing_at summary joining concat_map
      joined-from e =
          sym (λ i. join_parts (length b.parts) left 0 (add-zero (parts_at at l) i) (add-zero (nodes_at at l) i) plan)
          ∙ join-parts t left e [] b.parts plan (joins-plain (all plain_part b.parts) b.range b.edges.lo b.edges.hi e) (omega (arith, parts-fit)) parts_held

      apart_from : joining l ≡ false → sets plan (parts_at at l) (slice 0 (length parts) left) ≡ parts_put t [] b.parts plan
      unfolding writing_at concat_map
      apart_from e =
          ap (sets plan (parts_at at l)) parts-there
          ∙ sym (apart-put t [] b.parts plan e ∙ ap (λ (k : ℕ). sets plan k parts) (add-zero (parts_at at l)))

      parts_from_lem : parts_from t l.counts left plan ≡ parts_put t [] b.parts plan
      unfolding parts_from summary writing_at
      parts_from_lem = by-test (λ (r : List ℕ). r ≡ parts_put t [] b.parts plan) (joining l) joined-from apart_from

      pub from-page : from_page t l.counts left plan ≡ plan_as t plan b
      unfolding from_page plan_as writing_at summary
      from-page = λ i. sets (parts_from_lem i) (rest_at at l) (rests-there i)
