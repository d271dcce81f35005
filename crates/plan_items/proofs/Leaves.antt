-- Texts, paths, parts, edges, guides, ops and residuals: what was found says how many bytes there are, and what they are read as.
use Prim.Native.Nat.{ℕ, zero, suc, ◌+◌, ◌*◌, ◌≤◌, ◌<◌}
use mathlib.Core.Path.{◌≡◌, refl, sym, ap, ◌∙◌}
use mathlib.Core.Bool.{Bool, true, false}
use mathlib.Core.Logic.{⊎_elim}
use mathlib.Core.List.{List, [], ◌∷◌}
use Rattle.std.specs.Prelude.{Option, None, Some}
use native.Mathlib.Omega.{arith}
use borrow.Author.Tests.{leb-true, le-leb}
use lib.Dec.{leb}
use lib.ListN.{length, get_or, drop}
use Rattle.rules.specs.Limits.{step_limit}
use Rattle.rules.specs.File as File
use Rattle.rules.specs.Read.{Reader, ◌>>=◌, pure, refuse, u8, u16, u32, many, kind, anchor}
use Rattle.rules.specs.Read.Read.{got}
use Rattle.rules.specs.Reader as Reader
use Rattle.rules.specs.Events.{Narrowing}
use Rattle.rules.specs.Placement.{SeekKeyPart, Part, Residual, Guide, RangeEdge}
use Rattle.file.specs.Steps.{word, read_at}
use Rattle.file.proofs.Readers.{lt-or-le, refused-got, then-got, byte-in, kind-in, needs-fixed, needs-first, fixed-bytes, fixed-many, fixed-u32}
use Rattle.file.proofs.Sections.{word-then}
use Rattle.paths.specs.Paths.{path_of, Holds}
use Rattle.paths.specs.declared.FieldPath.{FieldPath}
use Rattle.views.specs.Views.{run, long, byte_at, path_at, past_path, text_of, anchor_at, anchor_of, PathInside}
use Rattle.views.specs.declared.TextView.{TextView}
use Rattle.views.specs.declared.Anchor.{Anchor}
use Rattle.views.proofs.Runs.{length_run, needs-room, long-in, one_in, finds-byte, finds-long, many-run}
use Rattle.plan_form.specs.Places.{Found}
use Rattle.plan_items.proofs.Founds.{found_first, found-then, word-inside, word-found, byte_inside, byte-found, kind-inside, kind-known, kind-then, kind-reads, fixed-room}

-- a text
module _ (f : List ℕ) (p : ℕ) (x : Found f Reader.text p) where
  pub text-inside : p + 2 ≤ length f
  unfolding Reader.text Reader.counted
  text-inside = word-inside f _ p x

  pub text-room : p + 2 + word f p ≤ length f
  unfolding Reader.text Reader.counted
  text-room = fixed-room f (word f p) (p + 2) (many (word f p) u8) (fixed-bytes (word f p)) text-inside (word-found f _ p x)

  pub text-reads : (n : ℕ) → n ≡ word f p → read_at f Reader.text p ≡ got (run (byte_at f) 1 n (p + 2)) (drop (p + 2 + n) f)
  unfolding Reader.text Reader.counted
  text-reads n e =
      let g : p + 2 + 1 * word f p ≡ p + 2 + word f p = omega arith in
      rw e (word-then f p _ text-inside ∙ many-run f 1 (finds-byte f) (word f p) (p + 2) (omega (arith, text-room))
      ∙ ap (λ (j : ℕ). got (run (byte_at f) 1 (word f p) (p + 2)) (drop j f)) g)

-- the steps of a path
module _ (f : List ℕ) (n q : ℕ) where
  steps-short : Found f (Reader.steps n) q → n ≤ step_limit
  unfolding Reader.steps read_at refuse
  steps-short x = go (leb n step_limit) refl x.reads
    where
      go : (t : Bool) → leb n step_limit ≡ t → (elim t as (λ _. Reader (List ℕ)) [ true ↦ many n u32 | false ↦ refuse 5 ]) (drop q f) ≡ got x.item x.rest → n ≤ step_limit
      go true e g = leb-true n step_limit e
      go false e g = absurd (refused-got g)

  steps-are : n ≤ step_limit → read_at f (Reader.steps n) q ≡ read_at f (many n u32) q
  unfolding Reader.steps read_at
  steps-are h = ap (λ (t : Bool). (elim t as (λ _. Reader (List ℕ)) [ true ↦ many n u32 | false ↦ refuse 5 ]) (drop q f)) (le-leb n step_limit h)

  steps-room : q ≤ length f → Found f (Reader.steps n) q → q + 4 * n ≤ length f
  steps-room h x =
      let y : Found f (many n u32) q = record { item = x.item; rest = x.rest; reads = sym (steps-are (steps-short x)) ∙ x.reads } in
      omega (arith, fixed-room f (n * 4) q (many n u32) (fixed-many 4 fixed-u32 n) h y)

-- a path
module _ (f : List ℕ) (p : ℕ) (x : Found f Reader.path p) where
  field-inside : p + 2 ≤ length f
  unfolding Reader.path
  field-inside = word-inside f _ p x

  pub path-within : p ≤ length f
  path-within = omega (arith, field-inside)

  count-inside : p + 2 < length f
  unfolding Reader.path
  count-inside = byte_inside f _ (p + 2) (word-found f _ p x)

  steps-found : Found f (Reader.steps (get_or f (p + 2) 0)) (p + 2 + 1)
  unfolding Reader.path
  steps-found = found_first f (Reader.steps (get_or f (p + 2) 0)) _ (p + 2 + 1) (byte-found f _ (p + 2) (word-found f _ p x))

  pub path-short : get_or f (p + 2) 0 ≤ step_limit
  path-short = steps-short f (get_or f (p + 2) 0) (p + 2 + 1) steps-found

  pub path_inside : PathInside f p
  unfolding PathInside
  path_inside = omega (arith, count-inside, steps-room f (get_or f (p + 2) 0) (p + 2 + 1) (omega (arith, count-inside)) steps-found)

  pub path-reads : read_at f Reader.path p ≡ got (path_at f p) (drop (past_path f p) f)
  unfolding Reader.path PathInside path_at byte_at read_at pure
  path-reads =
      let n : ℕ = get_or f (p + 2) 0 in
      let e : p + 2 + 1 ≡ p + 3 = omega arith in
      word-then f p _ field-inside ∙ byte-in f (p + 2) _ count-inside
      ∙ then-got f (Reader.steps n) _ (p + 2 + 1) (run (long f) 4 n (p + 2 + 1)) (p + 2 + 1 + 4 * n)
      (steps-are f n (p + 2 + 1) path-short ∙ many-run f 4 (finds-long f) n (p + 2 + 1) (omega (arith, path_inside)))
      ∙ ap (λ (j : ℕ). got (record { field = word f p; steps = run (long f) 4 n j }) (drop (j + 4 * n) f)) e

  path-count : (r : FieldPath) → Holds r (path_at f p) → r.count ≡ get_or f (p + 2) 0
  unfolding path_at byte_at
  path-count r h = h.count ∙ length_run (long f) 4 (get_or f (p + 2) 0) (p + 3)

  -- by value
  pub path-value : (r : FieldPath) → Holds r (path_at f p) → (read_at f Reader.path p ≡ got (path_of r) (drop (p + 3 + 4 * r.count) f)) × (r.count ≤ step_limit)
  path-value r h = (
    path-reads ∙ ap (λ (q : File.FieldPath). got q (drop (past_path f p) f)) (sym h.is) ∙ ap (λ (n : ℕ). got (path_of r) (drop (p + 3 + 4 * n) f)) (sym (path-count r h)),
    omega (arith, path-count r h, path-short),
  )

-- a name, a distance and an anchor, and what is made of them
abbrev anchor_readers : List (Reader File.Anchor)
anchor_readers = pure File.Anchor.Prefix ∷ pure File.Anchor.Whole ∷ []

anchor-known : (k : ℕ) → k < 2 → get_or anchor_readers k (refuse 5) ≡ pure (anchor_of (anchor_at k))
unfolding anchor_at
anchor-known zero h = refl
anchor-known (suc zero) h = refl
anchor-known (suc (suc k)) h = absurd (omega arith)

anchor-reads : (f : List ℕ) (o : ℕ) → o < length f → get_or f o 0 < 2 → read_at f anchor o ≡ got (anchor_of (anchor_at (get_or f o 0))) (drop (o + 1) f)
unfolding anchor read_at pure
anchor-reads f o h g = kind-in f o anchor_readers h ∙ ap (λ (r : Reader File.Anchor). r (drop (o + 1) f)) (anchor-known (get_or f o 0) g)

module _ {A : Type 0} (f : List ℕ) (k : ℕ → ℕ → File.Anchor → Reader A) (q : ℕ) (x : Found f (u16 >>= λ n. u8 >>= λ d. anchor >>= λ a. k n d a) q) where
  distance-found : Found f (u8 >>= λ d. anchor >>= λ a. k (word f q) d a) (q + 2)
  distance-found = word-found f _ q x

  anchor-found : Found f (kind anchor_readers) (q + 2 + 1)
  unfolding anchor
  anchor-found = found_first f anchor _ (q + 2 + 1) (byte-found f _ (q + 2) distance-found)

  pub fuzzy-room : q + 4 ≤ length f
  fuzzy-room = omega (arith, kind-inside f anchor_readers (q + 2 + 1) anchor-found)

  pub fuzzy-known : get_or f (q + 3) 0 < 2
  fuzzy-known =
      let e : q + 2 + 1 ≡ q + 3 = omega arith in
      rw e at (kind-known f anchor_readers (q + 2 + 1) anchor-found)

  pub fuzzy-reads : (n d : ℕ) (a : Anchor) → n ≡ word f q → d ≡ get_or f (q + 2) 0 → a ≡ anchor_at (get_or f (q + 3) 0)
      → read_at f (u16 >>= λ n. u8 >>= λ d. anchor >>= λ a. k n d a) q ≡ read_at f (k n d (anchor_of a)) (q + 4)
  fuzzy-reads n d a u v w =
      let e : q + 2 + 1 ≡ q + 3 = omega arith in
      let g : q + 3 + 1 ≡ q + 4 = omega arith in
      rw (u, v, w) (word-then f q _ (omega (arith, fuzzy-room)) ∙ byte-in f (q + 2) _ (omega (arith, fuzzy-room))
      ∙ ap (λ (j : ℕ). read_at f (anchor >>= λ a. k (word f q) (get_or f (q + 2) 0) a) j) e
      ∙ then-got f anchor _ (q + 3) _ (q + 3 + 1) (anchor-reads f (q + 3) (omega (arith, fuzzy-room)) fuzzy-known)
      ∙ ap (λ (j : ℕ). read_at f (k (word f q) (get_or f (q + 2) 0) (anchor_of (anchor_at (get_or f (q + 3) 0)))) j) g)

  pub fuzzy-then : (n d : ℕ) (a : Anchor) → n ≡ word f q → d ≡ get_or f (q + 2) 0 → a ≡ anchor_at (get_or f (q + 3) 0) → Found f (k n d (anchor_of a)) (q + 4)
  fuzzy-then n d a u v w = record { item = x.item; rest = x.rest; reads = sym (fuzzy-reads n d a u v w) ∙ x.reads }

-- a node, and what is made with it
pub node-reads : {A : Type 0} (f : List ℕ) (make : ℕ → A) (e n : ℕ) → Found f (u16 >>= λ m. pure (make m)) e → n ≡ word f e
    → read_at f (u16 >>= λ m. pure (make m)) e ≡ got (make n) (drop (e + 2) f)
node-reads f make e n x u = rw u (one_in f e make (word-inside f _ e x))

-- a part's key
abbrev key_readers : List (Reader SeekKeyPart)
key_readers = Reader.bytes_part ∷ Reader.register_part ∷ Reader.fact_part ∷ []

module _ (f : List ℕ) (p : ℕ) (x : Found f Reader.part_key p) where
  pub key-inside : p < length f
  unfolding Reader.part_key
  key-inside = kind-inside f key_readers p x

  pub key-known : get_or f p 0 < 3
  unfolding Reader.part_key
  key-known = kind-known f key_readers p x

  pub key-text : get_or f p 0 ≡ 0 → Found f Reader.text (p + 1)
  unfolding Reader.part_key Reader.bytes_part
  key-text e = found_first f Reader.text _ (p + 1) (kind-then f key_readers p x 0 e)

  pub key-bytes : (t : TextView) → get_or f p 0 ≡ 0 → read_at f Reader.text (p + 1) ≡ got (text_of f t) (drop (t.at + t.len) f) → read_at f Reader.part_key p ≡ got (SeekKeyPart.Bytes (text_of f t)) (drop (t.at + t.len) f)
  unfolding Reader.part_key Reader.bytes_part read_at pure
  key-bytes t e g = kind-reads f key_readers p x 0 e _ (t.at + t.len) (then-got f Reader.text _ (p + 1) (text_of f t) (t.at + t.len) g)

  pub key-address : get_or f p 0 ≡ 1 → p + 1 + 2 ≤ length f
  unfolding Reader.part_key Reader.register_part
  key-address e = word-inside f _ (p + 1) (kind-then f key_readers p x 1 e)

  pub key-path : get_or f p 0 ≡ 1 → Found f Reader.path (p + 1 + 2)
  unfolding Reader.part_key Reader.register_part
  key-path e = found_first f Reader.path _ (p + 1 + 2) (word-found f _ (p + 1) (kind-then f key_readers p x 1 e))

  pub key-register : (a q : ℕ) → get_or f p 0 ≡ 1 → a ≡ word f (p + 1) → read_at f Reader.path (p + 1 + 2) ≡ got (path_at f (p + 1 + 2)) (drop q f) → read_at f Reader.part_key p ≡ got (SeekKeyPart.RegisterField a (path_at f (p + 1 + 2))) (drop q f)
  unfolding Reader.part_key Reader.register_part read_at pure
  key-register a q e u g = rw u (kind-reads f key_readers p x 1 e _ q (word-then f (p + 1) _ (key-address e) ∙ then-got f Reader.path _ (p + 1 + 2) _ q g))

  pub key-fact-inside : get_or f p 0 ≡ 2 → p + 1 + 2 ≤ length f
  unfolding Reader.part_key Reader.fact_part
  key-fact-inside e = word-inside f _ (p + 1) (kind-then f key_readers p x 2 e)

  pub key-fact : (a : ℕ) → get_or f p 0 ≡ 2 → a ≡ word f (p + 1) → read_at f Reader.part_key p ≡ got (SeekKeyPart.RegisterFactId a) (drop (p + 1 + 2) f)
  unfolding Reader.part_key Reader.fact_part
  key-fact a e u = rw u (kind-reads f key_readers p x 2 e _ (p + 1 + 2) (one_in f (p + 1) SeekKeyPart.RegisterFactId (key-fact-inside e)))

-- a part
abbrev part_made : SeekKeyPart → ℕ → Part
part_made k n = record { key = k; node = n }

module _ (f : List ℕ) (p : ℕ) (x : Found f Reader.part p) where
  pub part-key : Found f Reader.part_key p
  unfolding Reader.part
  part-key = found_first f Reader.part_key _ p x

  pub part-inside : p < length f
  part-inside = key-inside f p part-key

  module _ (k : SeekKeyPart) (e : ℕ) (g : read_at f Reader.part_key p ≡ got k (drop e f)) where
    part-node : Found f (u16 >>= λ n. pure (part_made k n)) e
    unfolding Reader.part
    part-node = found-then f Reader.part_key _ p x k e g

    pub part_room : e + 2 ≤ length f
    part_room = word-inside f _ e part-node

    pub part-reads : (n : ℕ) → n ≡ word f e → read_at f Reader.part p ≡ got (record { key = k; node = n }) (drop (e + 2) f)
    unfolding Reader.part
    part-reads n u = then-got f Reader.part_key _ p k e g ∙ node-reads f (part_made k) e n part-node u

-- an edge
abbrev edge_readers : List (Reader (Option RangeEdge))
edge_readers = pure None ∷ Reader.edge_that false ∷ Reader.edge_that true ∷ []

module _ (f : List ℕ) (p : ℕ) (x : Found f Reader.edge p) where
  pub edge-inside : p < length f
  unfolding Reader.edge
  edge-inside = kind-inside f edge_readers p x

  pub edge-known : get_or f p 0 < 3
  unfolding Reader.edge
  edge-known = kind-known f edge_readers p x

  pub edge_none : get_or f p 0 ≡ 0 → read_at f Reader.edge p ≡ got None (drop (p + 1) f)
  unfolding Reader.edge read_at pure
  edge_none e = kind-reads f edge_readers p x 0 e None (p + 1) refl

  pub exclusive-text : get_or f p 0 ≡ 1 → Found f Reader.text (p + 1)
  unfolding Reader.edge Reader.edge_that
  exclusive-text e = found_first f Reader.text _ (p + 1) (kind-then f edge_readers p x 1 e)

  pub inclusive-text : get_or f p 0 ≡ 2 → Found f Reader.text (p + 1)
  unfolding Reader.edge Reader.edge_that
  inclusive-text e = found_first f Reader.text _ (p + 1) (kind-then f edge_readers p x 2 e)

  pub edge-text : 0 < get_or f p 0 → Found f Reader.text (p + 1)
  edge-text h = ⊎_elim (λ g. exclusive-text (omega arith)) (λ g. inclusive-text (omega (arith, edge-known))) (lt-or-le (get_or f p 0) 2)

  pub edge-exclusive : (t : TextView) → get_or f p 0 ≡ 1 → read_at f Reader.text (p + 1) ≡ got (text_of f t) (drop (t.at + t.len) f) → read_at f Reader.edge p ≡ got (Some (record { value = text_of f t; inclusive = false })) (drop (t.at + t.len) f)
  unfolding Reader.edge Reader.edge_that read_at pure
  edge-exclusive t e g = kind-reads f edge_readers p x 1 e _ (t.at + t.len) (then-got f Reader.text _ (p + 1) (text_of f t) (t.at + t.len) g)

  pub edge-inclusive : (t : TextView) → get_or f p 0 ≡ 2 → read_at f Reader.text (p + 1) ≡ got (text_of f t) (drop (t.at + t.len) f) → read_at f Reader.edge p ≡ got (Some (record { value = text_of f t; inclusive = true })) (drop (t.at + t.len) f)
  unfolding Reader.edge Reader.edge_that read_at pure
  edge-inclusive t e g = kind-reads f edge_readers p x 2 e _ (t.at + t.len) (then-got f Reader.text _ (p + 1) (text_of f t) (t.at + t.len) g)

-- a guide
abbrev guide_readers : List (Reader (Option Guide))
guide_readers = pure None ∷ Reader.guide_that ∷ []

abbrev guide_made : File.FieldPath → ℕ → ℕ → File.Anchor → ℕ → Option Guide
guide_made path n d a m = Some (record { path = path; term = n; distance = d; anchor = a; node = m })

abbrev guide_node : File.FieldPath → ℕ → ℕ → File.Anchor → Reader (Option Guide)
guide_node path n d a = u16 >>= λ m. pure (guide_made path n d a m)

module _ (f : List ℕ) (p : ℕ) (x : Found f Reader.guide p) where
  pub guide-inside : p < length f
  unfolding Reader.guide
  guide-inside = kind-inside f guide_readers p x

  pub guide-known : get_or f p 0 < 2
  unfolding Reader.guide
  guide-known = kind-known f guide_readers p x

  pub guide-none : get_or f p 0 ≡ 0 → read_at f Reader.guide p ≡ got None (drop (p + 1) f)
  unfolding Reader.guide read_at pure
  guide-none e = kind-reads f guide_readers p x 0 e None (p + 1) refl

  pub guide-path : get_or f p 0 ≡ 1 → Found f Reader.path (p + 1)
  unfolding Reader.guide Reader.guide_that
  guide-path e = found_first f Reader.path _ (p + 1) (kind-then f guide_readers p x 1 e)

  module _ (q : ℕ) (e : get_or f p 0 ≡ 1) (g : read_at f Reader.path (p + 1) ≡ got (path_at f (p + 1)) (drop q f)) where
    guide-tail : Found f (u16 >>= λ n. u8 >>= λ d. anchor >>= λ a. guide_node (path_at f (p + 1)) n d a) q
    unfolding Reader.guide Reader.guide_that
    guide-tail = found-then f Reader.path _ (p + 1) (kind-then f guide_readers p x 1 e) (path_at f (p + 1)) q g

    guide-node : (n d : ℕ) (a : Anchor) → n ≡ word f q → d ≡ get_or f (q + 2) 0 → a ≡ anchor_at (get_or f (q + 3) 0) → Found f (guide_node (path_at f (p + 1)) n d (anchor_of a)) (q + 4)
    guide-node n d a u v w = fuzzy-then f (guide_node (path_at f (p + 1))) q guide-tail n d a u v w

    pub guide-room : q + 6 ≤ length f
    guide-room = omega (arith, word-inside f _ (q + 4) (guide-node _ _ _ refl refl refl))

    pub guide-anchor : get_or f (q + 3) 0 < 2
    guide-anchor = fuzzy-known f (guide_node (path_at f (p + 1))) q guide-tail

    pub guide-some : (n d : ℕ) (a : Anchor) (m : ℕ) → n ≡ word f q → d ≡ get_or f (q + 2) 0 → a ≡ anchor_at (get_or f (q + 3) 0) → m ≡ word f (q + 4)
        → read_at f Reader.guide p ≡ got (Some (record { path = path_at f (p + 1); term = n; distance = d; anchor = anchor_of a; node = m })) (drop (q + 6) f)
    unfolding Reader.guide Reader.guide_that
    guide-some n d a m u v w y =
        let o : q + 4 + 2 ≡ q + 6 = omega arith in
        let path = path_at f (p + 1) in
        kind-reads f guide_readers p x 1 e _ (q + 6) (then-got f Reader.path _ (p + 1) path q g ∙ fuzzy-reads f (guide_node path) q guide-tail n d a u v w
        ∙ node-reads f (guide_made path n d (anchor_of a)) (q + 4) m (guide-node n d a u v w) y
        ∙ ap (λ (j : ℕ). got (guide_made path n d (anchor_of a) m) (drop j f)) o)

-- an op
abbrev op_readers : List (Reader Narrowing)
op_readers = Reader.bytes_op ∷ Reader.prefix_op ∷ Reader.register_op ∷ Reader.fact_op ∷ Reader.tag_op ∷ Reader.fuzzy_op ∷ Reader.own_op ∷ []

abbrev fuzzy_made : ℕ → ℕ → File.Anchor → Reader Narrowing
fuzzy_made n d a = pure (Narrowing.Fuzzy n d a)

module _ (f : List ℕ) (p : ℕ) (x : Found f Reader.op p) where
  pub op-inside : p < length f
  unfolding Reader.op
  op-inside = kind-inside f op_readers p x

  pub op-known : get_or f p 0 < 7
  unfolding Reader.op
  op-known = kind-known f op_readers p x

  bytes-text : get_or f p 0 ≡ 0 → Found f Reader.text (p + 1)
  unfolding Reader.op Reader.bytes_op
  bytes-text e = found_first f Reader.text _ (p + 1) (kind-then f op_readers p x 0 e)

  prefix-text : get_or f p 0 ≡ 1 → Found f Reader.text (p + 1)
  unfolding Reader.op Reader.prefix_op
  prefix-text e = found_first f Reader.text _ (p + 1) (kind-then f op_readers p x 1 e)

  pub op-text : get_or f p 0 < 2 → Found f Reader.text (p + 1)
  op-text h = ⊎_elim (λ g. bytes-text (omega arith)) (λ g. prefix-text (omega arith)) (lt-or-le (get_or f p 0) 1)

  pub op_bytes : (t : TextView) → get_or f p 0 ≡ 0 → read_at f Reader.text (p + 1) ≡ got (text_of f t) (drop (t.at + t.len) f) → read_at f Reader.op p ≡ got (Narrowing.Bytes (text_of f t)) (drop (t.at + t.len) f)
  unfolding Reader.op Reader.bytes_op read_at pure
  op_bytes t e g = kind-reads f op_readers p x 0 e _ (t.at + t.len) (then-got f Reader.text _ (p + 1) (text_of f t) (t.at + t.len) g)

  pub op-prefix : (t : TextView) → get_or f p 0 ≡ 1 → read_at f Reader.text (p + 1) ≡ got (text_of f t) (drop (t.at + t.len) f) → read_at f Reader.op p ≡ got (Narrowing.Prefix (text_of f t)) (drop (t.at + t.len) f)
  unfolding Reader.op Reader.prefix_op read_at pure
  op-prefix t e g = kind-reads f op_readers p x 1 e _ (t.at + t.len) (then-got f Reader.text _ (p + 1) (text_of f t) (t.at + t.len) g)

  pub op-address : get_or f p 0 ≡ 2 → p + 1 + 2 ≤ length f
  unfolding Reader.op Reader.register_op
  op-address e = word-inside f _ (p + 1) (kind-then f op_readers p x 2 e)

  pub op-path : get_or f p 0 ≡ 2 → Found f Reader.path (p + 1 + 2)
  unfolding Reader.op Reader.register_op
  op-path e = found_first f Reader.path _ (p + 1 + 2) (word-found f _ (p + 1) (kind-then f op_readers p x 2 e))

  pub op-register : (a q : ℕ) → get_or f p 0 ≡ 2 → a ≡ word f (p + 1) → read_at f Reader.path (p + 1 + 2) ≡ got (path_at f (p + 1 + 2)) (drop q f) → read_at f Reader.op p ≡ got (Narrowing.RegisterField a (path_at f (p + 1 + 2))) (drop q f)
  unfolding Reader.op Reader.register_op read_at pure
  op-register a q e u g = rw u (kind-reads f op_readers p x 2 e _ q (word-then f (p + 1) _ (op-address e) ∙ then-got f Reader.path _ (p + 1 + 2) _ q g))

  pub op-fact-inside : get_or f p 0 ≡ 3 → p + 1 + 2 ≤ length f
  unfolding Reader.op Reader.fact_op
  op-fact-inside e = word-inside f _ (p + 1) (kind-then f op_readers p x 3 e)

  pub op-fact : (a : ℕ) → get_or f p 0 ≡ 3 → a ≡ word f (p + 1) → read_at f Reader.op p ≡ got (Narrowing.FactId a) (drop (p + 1 + 2) f)
  unfolding Reader.op Reader.fact_op
  op-fact a e u = rw u (kind-reads f op_readers p x 3 e _ (p + 1 + 2) (one_in f (p + 1) Narrowing.FactId (op-fact-inside e)))

  pub op-tag-inside : get_or f p 0 ≡ 4 → p + 1 + 4 ≤ length f
  unfolding Reader.op Reader.tag_op
  op-tag-inside e = needs-room f 4 (p + 1) (omega arith) (needs-first 4 _ (needs-fixed 4 fixed-u32)) (kind-then f op_readers p x 4 e).reads

  pub op-tag : (d : ℕ) → get_or f p 0 ≡ 4 → d ≡ long f (p + 1) → read_at f Reader.op p ≡ got (Narrowing.Tag d) (drop (p + 1 + 4) f)
  unfolding Reader.op Reader.tag_op read_at pure
  op-tag d e u = rw u (kind-reads f op_readers p x 4 e _ (p + 1 + 4) (then-got f u32 _ (p + 1) (long f (p + 1)) (p + 1 + 4) (long-in f (p + 1) (op-tag-inside e))))

  fuzzy-found : get_or f p 0 ≡ 5 → Found f (u16 >>= λ n. u8 >>= λ d. anchor >>= λ a. fuzzy_made n d a) (p + 1)
  unfolding Reader.op Reader.fuzzy_op
  fuzzy-found e = kind-then f op_readers p x 5 e

  pub op-fuzzy-room : get_or f p 0 ≡ 5 → p + 1 + 4 ≤ length f
  op-fuzzy-room e = fuzzy-room f fuzzy_made (p + 1) (fuzzy-found e)

  pub op-fuzzy-anchor : get_or f p 0 ≡ 5 → get_or f (p + 1 + 3) 0 < 2
  op-fuzzy-anchor e = fuzzy-known f fuzzy_made (p + 1) (fuzzy-found e)

  pub op-fuzzy : (n d : ℕ) (a : Anchor) → get_or f p 0 ≡ 5 → n ≡ word f (p + 1) → d ≡ get_or f (p + 1 + 2) 0 → a ≡ anchor_at (get_or f (p + 1 + 3) 0)
      → read_at f Reader.op p ≡ got (Narrowing.Fuzzy n d (anchor_of a)) (drop (p + 1 + 4) f)
  unfolding Reader.op Reader.fuzzy_op read_at pure
  op-fuzzy n d a e u v w = kind-reads f op_readers p x 5 e _ (p + 1 + 4) (fuzzy-reads f fuzzy_made (p + 1) (fuzzy-found e) n d a u v w)

  pub op-own-path : get_or f p 0 ≡ 6 → Found f Reader.path (p + 1)
  unfolding Reader.op Reader.own_op
  op-own-path e = found_first f Reader.path _ (p + 1) (kind-then f op_readers p x 6 e)

  pub op-own : (q : ℕ) → get_or f p 0 ≡ 6 → read_at f Reader.path (p + 1) ≡ got (path_at f (p + 1)) (drop q f) → read_at f Reader.op p ≡ got (Narrowing.OwnField (path_at f (p + 1))) (drop q f)
  unfolding Reader.op Reader.own_op read_at pure
  op-own q e g = kind-reads f op_readers p x 6 e _ q (then-got f Reader.path _ (p + 1) _ q g)

-- a residual
abbrev residual_made : File.FieldPath → Narrowing → ℕ → Residual
residual_made path o n = record { path = path; op = o; node = n }

module _ (f : List ℕ) (p : ℕ) (x : Found f Reader.residual p) where
  pub residual-path : Found f Reader.path p
  unfolding Reader.residual
  residual-path = found_first f Reader.path _ p x

  module _ (q : ℕ) (g : read_at f Reader.path p ≡ got (path_at f p) (drop q f)) where
    op-left : Found f (Reader.op >>= λ o. u16 >>= λ n. pure (residual_made (path_at f p) o n)) q
    unfolding Reader.residual
    op-left = found-then f Reader.path _ p x (path_at f p) q g

    pub residual-op : Found f Reader.op q
    residual-op = found_first f Reader.op _ q op-left

    module _ (o : Narrowing) (e : ℕ) (h : read_at f Reader.op q ≡ got o (drop e f)) where
      residual-node : Found f (u16 >>= λ n. pure (residual_made (path_at f p) o n)) e
      residual-node = found-then f Reader.op _ q op-left o e h

      pub residual-room : e + 2 ≤ length f
      residual-room = word-inside f _ e residual-node

      pub residual-reads : (n : ℕ) → n ≡ word f e → read_at f Reader.residual p ≡ got (record { path = path_at f p; op = o; node = n }) (drop (e + 2) f)
      unfolding Reader.residual
      residual-reads n u =
          then-got f Reader.path _ p (path_at f p) q g ∙ then-got f Reader.op _ q o e h ∙ node-reads f (residual_made (path_at f p) o) e n residual-node u
