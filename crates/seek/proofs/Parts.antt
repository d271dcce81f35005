-- One part or one residual more, and where it is written.
use mathlib.Core.Path.{◌≡◌, refl, sym, ap, ◌∙◌}
use mathlib.Core.Bool.{Bool, true, false}
use mathlib.Core.List.{List, ◌++◌}
use Prim.Native.Nat.{ℕ, ◌+◌, ◌*◌, ◌<◌, ◌≤◌}
use native.Mathlib.Omega.{arith}
use lib.ListN.{length}
use lib.Dec.{leb}
use borrow.Author.Tests.{leb-true, leb-false}
use Rattle.rules.proofs.Cases.{true≢false, pick}
use Rattle.rules.specs.Base.{both}
use Rattle.rules.specs.File.{Tables, FieldPath}
use Rattle.rules.specs.Events.{Narrowing}
use Rattle.rules.specs.Placement.{SeekKeyPart}
use Rattle.rules.specs.Plan as Plan
use Rattle.state.specs.State as InState
use Rattle.state.specs.State.{Ends, Level, State, counts}
use Rattle.state.specs.Ops.{grow, put_made, narrowed, closed, recount, is_bytes, part_text, with_part, part_at, part_form, node_at, part_put, put_part, put_residual}
use Rattle.records.specs.Records.{written_at, moved_to, form_of}
use Rattle.records.specs.declared.Place.{Place}
use Rattle.seek.specs.Seek.{parts_size, counts_fit, sums_of, summed, counts_of, level_of, target_of, state_of, part_sums, rest_sums, grown_by, part_place, node_place, rest_place, part_by, residual_by}
use Rattle.seek.specs.declared.Counts.{Counts}
use Rattle.seek.specs.declared.Sums.{Sums}
use Rattle.seek.specs.declared.SeekBuilder.{SeekBuilder}
use Rattle.seek.specs.declared.Placed.{Placed}
use Rattle.seek.proofs.Fits.{too_long}
use Rattle.seek.proofs.Grows.{grow-no, grown-joined, grown-at, grown-fits, grown-is, SameUpToLimit, resummed, counting}

pub sums_same : (c : Counts) (n l o r j f x : ℕ) → n ≡ c.narrowings → l ≡ c.closers → o ≡ c.others → r ≡ c.residuals → j ≡ c.joined → f ≡ c.framed → x ≡ c.rest
    → record { narrowings = n; closers = l; others = o; residuals = r; joined = j; framed = f; rest = x } ≡ summed c
sums_same c n l o r j f x e1 e2 e3 e4 e5 e6 e7 = cc

pub sums-closer : (closer : Bool) (text frame : ℕ) (s : Sums) → closer ≡ true
    → record { narrowings = s.narrowings; closers = s.closers + 1; others = s.others; residuals = s.residuals; joined = s.joined + text; framed = s.framed + frame; rest = s.rest } ≡ part_sums closer text frame s
unfolding part_sums
sums-closer closer text frame s e = ap (λ t. part_sums t text frame s) (sym e)

pub sums-other : (closer : Bool) (text frame : ℕ) (s : Sums) → closer ≡ false
    → record { narrowings = s.narrowings + 1; closers = s.closers; others = s.others + 1; residuals = s.residuals; joined = s.joined + text; framed = s.framed + frame; rest = s.rest } ≡ part_sums closer text frame s
unfolding part_sums
sums-other closer text frame s e = ap (λ t. part_sums t text frame s) (sym e)

-- the counts of the written state
more-counts : (closer : Bool) (c : Counts) (text frame : ℕ) (k : InState.Counts) → k ≡ counting closer (counts_of c)
    → sums_of (part_sums closer text frame (summed c)) ≡ counts k.narrowings k.closers (k.parts + 1) k.residuals (k.joined + text) (k.parted + (text + frame)) k.rest
unfolding sums_of part_sums counts_of narrowed closed
more-counts true c text frame k e =
    let n : ℕ = c.closers + c.others in
    let e1 : c.closers + 1 + c.others ≡ c.closers + c.others + 1 = omega arith in
    let e2 : c.joined + text + (c.framed + frame) ≡ c.joined + c.framed + (text + frame) = omega arith in
    ap (λ (i : ℕ). counts c.narrowings (c.closers + 1) i c.residuals (c.joined + text) (c.joined + text + (c.framed + frame)) c.rest) e1
    ∙ ap (λ (i : ℕ). counts c.narrowings (c.closers + 1) (n + 1) c.residuals (c.joined + text) i c.rest) e2
    ∙ ap (λ (x : InState.Counts). counts x.narrowings x.closers (x.parts + 1) x.residuals (x.joined + text) (x.parted + (text + frame)) x.rest) (sym e)
more-counts false c text frame k e =
    let n : ℕ = c.closers + c.others in
    let e1 : c.closers + (c.others + 1) ≡ c.closers + c.others + 1 = omega arith in
    let e2 : c.joined + text + (c.framed + frame) ≡ c.joined + c.framed + (text + frame) = omega arith in
    ap (λ (i : ℕ). counts (c.narrowings + 1) c.closers i c.residuals (c.joined + text) (c.joined + text + (c.framed + frame)) c.rest) e1
    ∙ ap (λ (i : ℕ). counts (c.narrowings + 1) c.closers (n + 1) c.residuals (c.joined + text) i c.rest) e2
    ∙ ap (λ (x : InState.Counts). counts x.narrowings x.closers (x.parts + 1) x.residuals (x.joined + text) (x.parted + (text + frame)) x.rest) (sym e)

more-level : (closer bytes : Bool) (c : Counts) (text frame : ℕ) (part : SeekKeyPart) (l : Level) → is_bytes part ≡ bytes → length (part_text part) ≡ text → length (Plan.part_key part) ≡ text + frame
    → resummed (both l.plain bytes) (part_sums closer text (frame + 2) (summed c)) l ≡ with_part part (counting closer (counts_of c)) l
unfolding resummed with_part
more-level closer bytes c text frame part l eb et ef =
    let k : InState.Counts = counting closer (counts_of c) in
    let size : text + (frame + 2) ≡ length (Plan.part_key part) + 2 = omega arith in
    let made : Bool → InState.Counts → Level = λ p n. record { building = l.building; plain = both l.plain p; counts = n; guide = l.guide; range = l.range; edges = l.edges } in
    ap (λ p. made p (sums_of (part_sums closer text (frame + 2) (summed c)))) (sym eb)
    ∙ ap (made (is_bytes part)) (more-counts closer c text (frame + 2) k refl
    ∙ ap (λ (i : ℕ). counts k.narrowings k.closers (k.parts + 1) k.residuals (k.joined + i) (k.parted + (text + (frame + 2))) k.rest) (sym et)
    ∙ ap (λ (i : ℕ). counts k.narrowings k.closers (k.parts + 1) k.residuals (k.joined + length (part_text part)) (k.parted + i) k.rest) size)

under : (n : ℕ) → (16384 < n → ⊥) → n ≤ 16384
under n f = go (leb n 16384) refl
  where
    go : (t : Bool) → leb n 16384 ≡ t → n ≤ 16384
    go true h = leb-true n 16384 h
    go false h = absurd (f (leb-false n 16384 h))

-- what is longer than a plan does not fit one
big-part : (plain closer : Bool) (n frame : ℕ) (s : Sums) → 16384 < n → false ≡ counts_fit plain (sums_of (part_sums closer n frame s))
unfolding part_sums parts_size
big-part plain closer n frame s h = too_long plain (part_sums closer n frame s) _ refl (long plain closer)
  where
    long : (p c : Bool) → 16384 < parts_size p (part_sums c n frame s) + (part_sums c n frame s).rest
    long true true = omega arith
    long true false = omega arith
    long false true = omega arith
    long false false = omega arith

big-residual : (plain : Bool) (n : ℕ) (s : Sums) → 16384 < n → false ≡ counts_fit plain (sums_of (rest_sums n s))
unfolding rest_sums
big-residual plain n s h = too_long plain (rest_sums n s) _ refl (omega arith)

module _ (plain : Bool) (s : Sums) where
  part-fits : (closer : Bool) (n frame : ℕ) (s0 : Sums) → s ≡ part_sums closer n frame s0 → counts_fit plain (sums_of s) ≡ true → n ≤ 16384
  part-fits closer n frame s0 e h =
      under n (λ g. true≢false (sym h ∙ ap (λ x. counts_fit plain (sums_of x)) e ∙ sym (big-part plain closer n frame s0 g)))

  residual-fits : (n : ℕ) (s0 : Sums) → s ≡ rest_sums n s0 → counts_fit plain (sums_of s) ≡ true → n ≤ 16384
  residual-fits n s0 e h = under n (λ g. true≢false (sym h ∙ ap (λ x. counts_fit plain (sums_of x)) e ∙ sym (big-residual plain n s0 g)))

-- a level and what it writes by a size: where two sizes are alike it grows alike
alike-grow : (l : ℕ → Level) (write : ℕ → List ℕ → List ℕ) (s : State) (m n : ℕ) → ((k : ℕ) → 16384 < k → counts_fit (l k).plain (l k).counts ≡ false) → SameUpToLimit m n → grow (l m) (write m) s ≡ grow (l n) (write n) s
alike-grow l write s m n big e = go (leb m 16384) refl
  where
    go : (t : Bool) → leb m 16384 ≡ t → grow (l m) (write m) s ≡ grow (l n) (write n) s
    go true h =
        let g : m ≤ 16384 = leb-true m 16384 h in
        let f : m ≡ n = omega arith in
        ap (λ (k : ℕ). grow (l k) (write k) s) f
    go false h =
        let g : 16384 < m = leb-false m 16384 h in
        let f : 16384 < n = omega arith in
        grow-no (l m) (write m) s (big m g) ∙ sym (grow-no (l n) (write n) s (big n f))

module _ (b : SeekBuilder) where
  pub at_joined : (x y : ℕ) → b.target.joining ≡ true → x ≡ b.target.parts → y ≡ b.counts.joined → x + y ≡ part_place b
  unfolding part_place
  at_joined x y j ex ey =
      let f : x + y ≡ b.target.parts + b.counts.joined = omega arith in
      f ∙ ap (λ (i : ℕ). b.target.parts + i) (sym (pick b.target.joining true b.counts.joined (b.counts.joined + b.counts.framed) j))

  pub at_parted : (x y z : ℕ) → b.target.joining ≡ false → x ≡ b.target.parts → y ≡ b.counts.joined → z ≡ b.counts.framed → x + y + z ≡ part_place b
  unfolding part_place
  at_parted x y z j ex ey ez =
      let f : x + y + z ≡ b.target.parts + (b.counts.joined + b.counts.framed) = omega arith in
      f ∙ ap (λ (i : ℕ). b.target.parts + i) (sym (pick b.target.joining false b.counts.joined (b.counts.joined + b.counts.framed) j))

  -- the node of a part
  pub node-joined : (x y z end : ℕ) → b.target.joining ≡ true → x ≡ b.target.nodes → y ≡ b.counts.closers → z ≡ b.counts.others → x + 2 * (y + z) ≡ node_place end b
  unfolding node_place
  node-joined x y z end j ex ey ez =
      let f : x + 2 * (y + z) ≡ b.target.nodes + 2 * (b.counts.closers + b.counts.others) = omega arith in
      f ∙ sym (pick b.target.joining true (b.target.nodes + 2 * (b.counts.closers + b.counts.others)) end j)

  pub node-behind : (end : ℕ) → b.target.joining ≡ false → end ≡ node_place end b
  unfolding node_place
  node-behind end j = sym (pick b.target.joining false (b.target.nodes + 2 * (b.counts.closers + b.counts.others)) end j)

  pub at_rest : (x y : ℕ) → x ≡ b.target.rest → y ≡ b.counts.rest → x + y ≡ rest_place b
  unfolding rest_place
  at_rest x y ex ey = omega arith

  -- what is asked of `grown`, put together
  pub part_by_lem : (closer bytes : Bool) (text frame : ℕ) (r : Placed) (plain : Bool) (s s0 : Sums) (at : ℕ)
      → r ≡ grown_by plain s at b → plain ≡ both b.plain bytes → s ≡ part_sums closer text (frame + 2) s0 → s0 ≡ summed b.counts → at ≡ part_place b → r ≡ part_by closer bytes text frame b
  unfolding part_by
  part_by_lem closer bytes text frame r plain s s0 at er ep es e0 ea =
      er ∙ ap (λ t. grown_by t s at b) ep ∙ ap (λ t. grown_by (both b.plain bytes) t at b) (es ∙ ap (part_sums closer text (frame + 2)) e0)
      ∙ ap (λ (i : ℕ). grown_by (both b.plain bytes) (part_sums closer text (frame + 2) (summed b.counts)) i b) ea

  pub residual-by : (size : ℕ) (r : Placed) (s s0 : Sums) (at : ℕ) → r ≡ grown_by b.plain s at b → s ≡ rest_sums (size + 2) s0 → s0 ≡ summed b.counts → at ≡ rest_place b → r ≡ residual_by size b
  unfolding residual_by
  residual-by size r s s0 at er es e0 ea =
      er ∙ ap (λ t. grown_by b.plain t at b) (es ∙ ap (rest_sums (size + 2)) e0) ∙ ap (λ (i : ℕ). grown_by b.plain (rest_sums (size + 2) (summed b.counts)) i b) ea

  pub grown-place : (plain : Bool) (s : Sums) (at : ℕ) (r : Placed) → r ≡ grown_by plain s at b → r.place.at ≡ at
  grown-place plain s at r e = ap (λ (x : Placed). x.place.at) e ∙ grown-at b plain s at

  -- the node is written behind the form, or with the others' nodes
  pub part-node : (end size at node_at node : ℕ) (r : Placed) (p q : List ℕ) → q ≡ written_at (moved_to node_at r.place) (Plan.u16 node) p → node_at ≡ node_place end b → end ≡ at + size → at ≡ part_place b
      → q ≡ written_at (moved_to (node_place (part_place b + size) b) r.place) (Plan.u16 node) p
  part-node end size at node_at node r p q eq en ee ea =
      let f : end ≡ part_place b + size = omega arith in
      eq ∙ ap (λ (i : ℕ). written_at (moved_to i r.place) (Plan.u16 node) p) (en ∙ ap (λ (i : ℕ). node_place i b) f)

  pub residual-node : (size at node : ℕ) (r : Placed) (p q : List ℕ) → q ≡ written_at (moved_to (at + size) r.place) (Plan.u16 node) p → at ≡ rest_place b
      → q ≡ written_at (moved_to (rest_place b + size) r.place) (Plan.u16 node) p
  residual-node size at node r p q eq ea = eq ∙ ap (λ (i : ℕ). written_at (moved_to (i + size) r.place) (Plan.u16 node) p) ea

  -- what is written is no longer than a plan
  pub part_room : (closer bytes : Bool) (text frame : ℕ) (r : Placed) → r ≡ part_by closer bytes text frame b → r.place.write ≡ true → text ≤ 16384
  unfolding part_by
  part_room closer bytes text frame r e on =
      let s : Sums = part_sums closer text (frame + 2) (summed b.counts) in
      part-fits (both b.plain bytes) s closer text (frame + 2) (summed b.counts) refl (grown-fits b (both b.plain bytes) s (part_place b) (sym (ap (λ (x : Placed). x.place.write) e) ∙ on))

  pub residual-room : (size : ℕ) (r : Placed) → r ≡ residual_by size b → r.place.write ≡ true → size ≤ 16384
  unfolding residual_by
  residual-room size r e on =
      let s : Sums = rest_sums (size + 2) (summed b.counts) in
      let room : size + 2 ≤ 16384 = residual-fits b.plain s (size + 2) (summed b.counts) refl (grown-fits b b.plain s (rest_place b) (sym (ap (λ (x : Placed). x.place.write) e) ∙ on)) in
      omega arith

  -- where the compiler's state has a part and its node
  part-at : part_place b ≡ part_at (target_of b.target) (counts_of b.counts)
  unfolding part_place part_at counts_of sums_of
  part-at = refl

  node_at_lem : (part : SeekKeyPart) (size : ℕ) → size ≡ length (Plan.part_key part) → node_place (part_place b + size) b ≡ node_at (target_of b.target) (counts_of b.counts) part
  unfolding node_place part_place node_at counts_of sums_of
  node_at_lem part size e = ap (λ (i : ℕ). node_place (part_place b + i) b) e ∙ go b.target.joining
    where
      c : Counts
      c = b.counts

      sel : Bool → ℕ → ℕ → ℕ
      sel t x y = elim t [ true ↦ x | false ↦ y ]

      go : (t : Bool) → sel t (b.target.nodes + 2 * (c.closers + c.others)) (b.target.parts + sel t c.joined (c.joined + c.framed) + length (Plan.part_key part))
          ≡ sel t (b.target.nodes + 2 * (c.closers + c.others)) (b.target.parts + (c.joined + c.framed) + length (Plan.part_key part))
      go true = refl
      go false = refl

  module _ (T : Tables) (e : Ends) (w p : List ℕ) (node : ℕ) where
    part-state : (closer bytes : Bool) (text frame : ℕ) (part : SeekKeyPart) → is_bytes part ≡ bytes → SameUpToLimit (length (part_text part)) text → length (Plan.part_key part) ≡ length (part_text part) + frame
        → grow (resummed (both b.plain bytes) (part_sums closer text (frame + 2) (summed b.counts)) (level_of T b))
        (put_made (part_place b) (form_of b.target.joining part) (node_place (part_place b + (text + frame)) b) node) (state_of T b e w p)
        ≡ put_part node part (counting closer (counts_of b.counts)) (state_of T b e w p)
    unfolding put_part part_put state_of level_of part_form form_of resummed
    part-state closer bytes text frame part eb et ef =
        let st : State = state_of T b e w p in
        let n : ℕ = length (part_text part) in
        let c : Sums = summed b.counts in
        let plain : Bool = both b.plain bytes in
        let form : List ℕ = form_of b.target.joining part in
        let here : ℕ → ℕ = λ k. node_place (part_place b + (k + frame)) b in
        let there : ℕ = node_at (target_of b.target) (counts_of b.counts) part in
        alike-grow (λ k. resummed plain (part_sums closer k (frame + 2) c) (level_of T b)) (λ k. put_made (part_place b) form (here k) node) st text n (λ k g. sym (big-part plain closer k (frame + 2) c g)) (sym et)
        ∙ ap (λ (i : ℕ). grow (resummed plain (part_sums closer n (frame + 2) c) (level_of T b)) (put_made (part_place b) form i node) st) (node_at_lem part (n + frame) (sym ef))
        ∙ ap (λ (i : ℕ). grow (resummed plain (part_sums closer n (frame + 2) c) (level_of T b)) (put_made i form there node) st) part-at
        ∙ ap (λ l. grow l (part_put (target_of b.target) (counts_of b.counts) (record { key = part; node = node })) st) (more-level closer bytes b.counts n frame part (level_of T b) eb refl ef)

    -- a level with one part more, its node and then its form written, is the compiler's
    pub part-is : (closer bytes : Bool) (text frame : ℕ) (part : SeekKeyPart) (r : Placed) (p' q : List ℕ) → r ≡ part_by closer bytes text frame b
        → p' ≡ written_at (moved_to (node_place (part_place b + (text + frame)) b) r.place) (Plan.u16 node) p
        → is_bytes part ≡ bytes → SameUpToLimit (length (part_text part)) text → length (Plan.part_key part) ≡ length (part_text part) + frame
        → q ≡ written_at r.place (form_of r.place.joined part) p'
        → state_of T r.level e w q ≡ put_part node part (counting closer (counts_of b.counts)) (state_of T b e w p)
    unfolding part_by
    part-is closer bytes text frame part r p' q er en eb et ef eq =
        let plain : Bool = both b.plain bytes in
        let s : Sums = part_sums closer text (frame + 2) (summed b.counts) in
        let g : Placed = grown_by plain s (part_place b) b in
        let to : ℕ = node_place (part_place b + (text + frame)) b in
        let made : Place → List ℕ = λ x. written_at (moved_to to x) (Plan.u16 node) p in
        ap (state_of T r.level e w) (eq ∙ ap (written_at r.place (form_of r.place.joined part)) en)
        ∙ ap (λ (x : Placed). state_of T x.level e w (written_at x.place (form_of x.place.joined part) (made x.place))) er
        ∙ ap (λ t. state_of T g.level e w (written_at g.place (form_of t part) (made g.place))) (grown-joined b plain s (part_place b))
        ∙ grown-is b plain s (part_place b) T e w p (form_of b.target.joining part) to node
        ∙ part-state closer bytes text frame part eb et ef

    residual-state : (size : ℕ) (path : FieldPath) (op : Narrowing) → SameUpToLimit (length (Plan.path path ++ Plan.op op)) size
        → grow (resummed b.plain (rest_sums (size + 2) (summed b.counts)) (level_of T b)) (put_made (rest_place b) (Plan.path path ++ Plan.op op) (rest_place b + size) node) (state_of T b e w p)
        ≡ put_residual node path op (state_of T b e w p)
    unfolding put_residual rest_place state_of level_of recount resummed rest_sums counts_of sums_of
    residual-state size path op el =
        let st : State = state_of T b e w p in
        let form : List ℕ = Plan.path path ++ Plan.op op in
        let c : Sums = summed b.counts in
        alike-grow (λ k. resummed b.plain (rest_sums (k + 2) c) (level_of T b)) (λ k. put_made (rest_place b) form (rest_place b + k) node) st size (length form)
        (λ k g. sym (big-residual b.plain (k + 2) c (let h : 16384 < k + 2 = omega arith in h))) (sym el)

    pub residual-is : (size : ℕ) (path : FieldPath) (op : Narrowing) (r : Placed) (p' q : List ℕ) → r ≡ residual_by size b
        → p' ≡ written_at (moved_to (rest_place b + size) r.place) (Plan.u16 node) p
        → SameUpToLimit (length (Plan.path path ++ Plan.op op)) size → q ≡ written_at r.place (Plan.path path ++ Plan.op op) p'
        → state_of T r.level e w q ≡ put_residual node path op (state_of T b e w p)
    unfolding residual_by
    residual-is size path op r p' q er en el eq =
        let s : Sums = rest_sums (size + 2) (summed b.counts) in
        let form : List ℕ = Plan.path path ++ Plan.op op in
        let made : Place → List ℕ = λ x. written_at (moved_to (rest_place b + size) x) (Plan.u16 node) p in
        ap (state_of T r.level e w) (eq ∙ ap (written_at r.place form) en)
        ∙ ap (λ (x : Placed). state_of T x.level e w (written_at x.place form (made x.place))) er
        ∙ grown-is b b.plain s (rest_place b) T e w p form (rest_place b + size) node
        ∙ residual-state size path op el
