-- The nodes, bindings and fetched entries of an accepted file, and the views that they give.
use Prim.Native.Nat.{ℕ, zero, suc, ◌+◌, ◌*◌, ◌≤◌, ◌<◌}
use mathlib.Core.Path.{◌≡◌, refl, sym, ap, ◌∙◌}
use mathlib.Core.List.{List, [], ◌∷◌}
use native.Mathlib.Omega.{arith}
use lib.ListN.{length, get_or, drop}
use Rattle.rules.specs.File as File
use Rattle.rules.specs.File.{Node, node_at}
use Rattle.rules.specs.Read.{Reader, ◌>>=◌, pure, refuse, u8, many, anchor, node, one, two, int_node, bytes_node, fuzzy_node, record_node}
use Rattle.rules.specs.Read.Read.{got}
use Rattle.file.specs.Steps.{word, read_at, base_of}
use Rattle.file.specs.Tables.{Stands, Indexed, tables_of}
use Rattle.file.proofs.Readers.{then-got, byte-in, needs-fixed, needs-first, needs-bind, needs-kind, fixed-bind, fixed-pure, fixed-u8, fixed-u16, fixed-bytes}
use Rattle.file.proofs.Leaves.{node_readers, fixed-field_pattern}
use Rattle.file.proofs.Sections.{word-then}
use Rattle.views.specs.Views.{start_at, byte_at, anchor_kind, anchor_at, anchor_of, node_views, node_view, node_of, NodeInside, SeenNode}
use Rattle.views.specs.declared.NodeView.{NodeView}
use Rattle.views.specs.declared.NodeView.TheVariants as Nv
use Rattle.views.specs.declared.Anchor.{Anchor}
use Rattle.views.proofs.Runs.{value_of, needs-room, one_in, two_in, finds-byte, finds-pattern, many-run, Made, several-made}
use Rattle.views.proofs.Entries.{stands_at, Kinded, kind-found, kind-is, chosen}

abbrev anchor_readers : List (Reader File.Anchor)
anchor_readers = pure File.Anchor.Prefix ∷ pure File.Anchor.Whole ∷ []

anchor-known : (j : ℕ) → j < 2 → get_or anchor_readers j (refuse 5) ≡ pure (anchor_kind j)
unfolding anchor_kind
anchor-known zero h = refl
anchor-known (suc zero) h = refl
anchor-known (suc (suc j)) h = absurd (omega arith)

-- the rules' anchor and the code's
pub anchor-kind : (b : ℕ) → b < 2 → anchor_of (anchor_at b) ≡ anchor_kind b
unfolding anchor_at anchor_kind
anchor-kind zero h = refl
anchor-kind (suc zero) h = refl
anchor-kind (suc (suc b)) h = absurd (omega arith)

-- node t, which starts at p
module _ (f ix : List ℕ) (x : Indexed f ix) (t p : ℕ) (h : t < length (tables_of f).nodes) (e : p ≡ get_or ix (base_of 3 + 1 + t) 0) where
  abbrev pub nd : Node
  nd = node_at (tables_of f) t

  pub node-reads : Stands f node p nd
  unfolding node_at
  node-reads = stands_at x.nodes t p Node.Error h e

  pub node-here : Kinded f node_readers p nd node-reads.rest
  unfolding node
  node-here = kind-found f node_readers p nd node-reads.rest node-reads.reads

  node-is : (k : ℕ) → get_or f p 0 ≡ k → read_at f (get_or node_readers k (refuse 5)) (p + 1) ≡ got nd node-reads.rest
  node-is k g = kind-is f node_readers p k nd node-reads.rest node-here g

  -- v shows node t, and is its view
  abbrev Shown : NodeView → Type 0
  Shown v = SeenNode f nd v × (v ≡ node_view f (start_at ix 3 t))

  -- the view of kind k
  abbrev pub kind_view : ℕ → NodeView
  kind_view k = get_or (node_views f (p + 1)) k Nv.Error

  shown : (k : ℕ) (v : NodeView) → get_or f p 0 ≡ k → v ≡ kind_view k → v ≡ node_view f (start_at ix 3 t)
  unfolding node_view byte_at
  shown k v g q = q ∙ ap kind_view (sym g) ∙ ap (node_view f) e

  -- kinds that carry nothing
  pub seen_none : (k : ℕ) (v : NodeView) → get_or node_readers k (refuse 5) ≡ pure (node_of f v) → NodeInside f v → v ≡ kind_view k → get_or f p 0 ≡ k → Shown v
  unfolding read_at pure
  seen_none k v r i q g = (record { is = value_of (ap (λ (s : Reader Node). s (drop (p + 1) f)) r) (node-is k g); inside = i }, shown k v g q)

  -- one number
  pub one-room : (k : ℕ) (make : ℕ → Node) → get_or node_readers k (refuse 5) ≡ one make → get_or f p 0 ≡ k → p + 1 + 2 ≤ length f
  unfolding one
  one-room k make r g = needs-room f 2 (p + 1) (omega arith) (needs-first 2 _ (needs-fixed 2 fixed-u16)) (ap (λ (s : Reader Node). read_at f s (p + 1)) (sym r) ∙ node-is k g)

  pub seen_one : (k w : ℕ) (make : ℕ → Node) (view : ℕ → NodeView) → get_or node_readers k (refuse 5) ≡ one make → node_of f (view w) ≡ make w → NodeInside f (view w) → view (word f (p + 1)) ≡ kind_view k → get_or f p 0 ≡ k → w ≡ word f (p + 1) → Shown (view w)
  unfolding one
  seen_one k w make view r q i y g u = (
    record { is = q ∙ ap make u ∙ value_of (one_in f (p + 1) make (one-room k make r g)) (ap (λ (s : Reader Node). read_at f s (p + 1)) (sym r) ∙ node-is k g); inside = i },
    shown k (view w) g (ap view u ∙ y),
  )

  -- two numbers
  pub two-room : (k : ℕ) (make : ℕ → ℕ → Node) → get_or node_readers k (refuse 5) ≡ two make → get_or f p 0 ≡ k → p + 1 + 4 ≤ length f
  unfolding two
  two-room k make r g =
      needs-room f 4 (p + 1) (omega arith) (needs-fixed 4 (fixed-bind 2 2 fixed-u16 (λ a. fixed-bind 2 0 fixed-u16 (λ b. fixed-pure _)))) (ap (λ (s : Reader Node). read_at f s (p + 1)) (sym r) ∙ node-is k g)

  pub seen-two : (k w u : ℕ) (make : ℕ → ℕ → Node) (view : ℕ → ℕ → NodeView) → get_or node_readers k (refuse 5) ≡ two make → node_of f (view w u) ≡ make w u → NodeInside f (view w u) → view (word f (p + 1)) (word f (p + 1 + 2)) ≡ kind_view k → get_or f p 0 ≡ k → w ≡ word f (p + 1) → u ≡ word f (p + 1 + 2) → Shown (view w u)
  unfolding two
  seen-two k w u make view r q i y g a b = (
    record { is = q ∙ ap (λ (j : ℕ). make j u) a ∙ ap (make (word f (p + 1))) b ∙ value_of (two_in f (p + 1) make (two-room k make r g)) (ap (λ (s : Reader Node). read_at f s (p + 1)) (sym r) ∙ node-is k g); inside = i },
    shown k (view w u) g (ap (λ (j : ℕ). view j u) a ∙ ap (view (word f (p + 1))) b ∙ y),
  )

  pub seen-int : get_or f p 0 ≡ 0 → Shown (Nv.Int (p + 1))
  unfolding int_node read_at pure
  seen-int g =
      let m : p + 1 + 8 ≤ length f = needs-room f 8 (p + 1) (omega arith) (needs-first 8 _ (needs-fixed 8 (fixed-bytes 8))) (node-is 0 g) in
      (record { is = value_of (then-got f (many 8 u8) _ (p + 1) _ (p + 1 + 1 * 8) (many-run f 1 (finds-byte f) 8 (p + 1) (omega arith))) (node-is 0 g); inside = m }, shown 0 _ g refl)

  pub bytes-here : get_or f p 0 ≡ 2 → Made f 1 (finds-byte f) Node.Bytes (p + 1) nd node-reads.rest
  unfolding bytes_node
  bytes-here g = several-made f 1 (finds-byte f) Node.Bytes (p + 1) nd node-reads.rest fixed-u8 (node-is 2 g)

  pub patterns-here : get_or f p 0 ≡ 8 → Made f 4 (finds-pattern f) Node.Record (p + 1) nd node-reads.rest
  unfolding record_node
  patterns-here g = several-made f 4 (finds-pattern f) Node.Record (p + 1) nd node-reads.rest fixed-field_pattern (node-is 8 g)

  pub seen_bytes : (n : ℕ) → get_or f p 0 ≡ 2 → n ≡ get_or f (p + 1) 0 → Shown (Nv.Bytes n (p + 1 + 1))
  unfolding byte_at
  seen_bytes n g k =
      let m = bytes-here g in
      (record { is = rw k m.is; inside = omega (arith, m.room, k) }, shown 2 _ g (ap (λ (j : ℕ). Nv.Bytes j (p + 1 + 1)) k))

  pub seen-record : (n : ℕ) → get_or f p 0 ≡ 8 → n ≡ get_or f (p + 1) 0 → Shown (Nv.Record n (p + 1 + 1))
  unfolding byte_at
  seen-record n g k =
      let m = patterns-here g in
      (record { is = rw k m.is; inside = omega (arith, m.room, ap (λ (j : ℕ). 4 * j) k) }, shown 8 _ g (ap (λ (j : ℕ). Nv.Record j (p + 1 + 1)) k))

  pub record FuzzyRead : Type 0 where
    pub room : p + 1 + 4 ≤ length f
    pub known : get_or f (p + 1 + 3) 0 < 2
    pub is : Node.Fuzzy (word f (p + 1)) (get_or f (p + 1 + 2) 0) (anchor_kind (get_or f (p + 1 + 3) 0)) ≡ nd

  pub fuzzy-here : get_or f p 0 ≡ 7 → FuzzyRead
  unfolding fuzzy_node anchor read_at pure
  fuzzy-here g =
      let m : p + 1 + 4 ≤ length f = needs-room f 4 (p + 1) (omega arith) (needs-bind 2 2 fixed-u16 (λ w. needs-bind 1 1 fixed-u8 (λ d. needs-first 1 _ (needs-kind anchor_readers)))) (node-is 7 g) in
      let z : p + 1 + 2 + 1 ≡ p + 1 + 3 = omega arith in
      let c = chosen f anchor_readers anchor_kind (λ a. pure (Node.Fuzzy (word f (p + 1)) (get_or f (p + 1 + 2) 0) a)) (p + 1 + 3) nd node-reads.rest anchor-known
      (sym (word-then f (p + 1) _ (omega arith) ∙ byte-in f (p + 1 + 2) _ (omega arith) ∙ ap (λ (j : ℕ). read_at f (anchor >>= λ a. pure (Node.Fuzzy (word f (p + 1)) (get_or f (p + 1 + 2) 0) a)) j) z) ∙ node-is 7 g) in
      record { room = m; known = c.known; is = value_of refl c.then }

  pub seen-fuzzy : (w d : ℕ) (a : Anchor) → get_or f p 0 ≡ 7 → w ≡ word f (p + 1) → d ≡ get_or f (p + 1 + 2) 0 → a ≡ anchor_at (get_or f (p + 1 + 3) 0) → Shown (Nv.Fuzzy w d a)
  unfolding byte_at
  seen-fuzzy w d a g u v k =
      let y = fuzzy-here g in
      let h = ap anchor_of k ∙ anchor-kind _ y.known in (
        record { is = ap (λ (j : ℕ). Node.Fuzzy j d (anchor_of a)) u ∙ ap (λ (j : ℕ). Node.Fuzzy (word f (p + 1)) j (anchor_of a)) v ∙ ap (Node.Fuzzy (word f (p + 1)) (get_or f (p + 1 + 2) 0)) h ∙ y.is; inside = tt },
        shown 7 _ g (ap (λ (j : ℕ). Nv.Fuzzy j d a) u ∙ ap (λ (j : ℕ). Nv.Fuzzy (word f (p + 1)) j a) v ∙ ap (Nv.Fuzzy (word f (p + 1)) (get_or f (p + 1 + 2) 0)) k),
      )
