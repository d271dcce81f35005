-- The whole view of each item is the one that specs/Views.antt names.
use Rattle.paths.specs.declared.PredicateId.{PredicateId}
use Prim.Native.Nat.{ℕ, ◌+◌, ◌*◌, ◌≤◌}
use mathlib.Core.Path.{◌≡◌, sym, ap, ◌∙◌}
use mathlib.Core.List.{List}
use Rattle.std.specs.Prelude.{None, Some}
use lib.ListN.{length, get_or, drop}
use Rattle.rules.specs.Read.{u16, many}
use Rattle.rules.specs.Read.Read.{got}
use Rattle.rules.specs.Reader as Reader
use Rattle.file.specs.Steps.{word, read_at, step_at}
use Rattle.file.proofs.Readers.{alike-step, alike-many}
use Rattle.file.proofs.Suffix.{suffix-many}
use Rattle.views.specs.Views.{byte_at, long, past_path, anchor_at, predicate_maybe, slot_views, slot_view}
use Rattle.views.specs.declared.Anchor.{Anchor}
use Rattle.views.specs.declared.SlotView.{SlotView}
use Rattle.views.specs.declared.SlotView.TheVariants as Sv
use Rattle.views.specs.declared.TextView.{TextView}
use Rattle.plan_form.specs.Pieces.{item_of}
use Rattle.plan_form.specs.declared.Kind.TheVariants as Kinds
use Rattle.plan_form.specs.Places.{Found}
use Rattle.plan_form.proofs.Forward.{suffix-part, suffix-residual}
use Rattle.plan_form.proofs.Lists.{alike-part, alike-residual, alike-binding, alike_select, alike-counted}
use Rattle.plan_items.specs.Items.{items_at, list_view, past_of}
use Rattle.plan_items.proofs.Founds.{unwrapped, found-past, items-read}
use Rattle.plan_items.specs.Views.{text_view, past_text, key_items, no_key, key_item, part_item, edge_items}
use Rattle.plan_items.specs.Views.{no_edge, edge_item, guide_that, guide_items, no_guide, guide_item}
use Rattle.plan_items.specs.Views.{narrowing_items, no_narrowing, narrowing_item, residual_view, parts_past, residuals_past}
use Rattle.plan_items.specs.Views.{prefix_item, composite_item, range_item, bounded_item, seek_items}
use Rattle.plan_items.specs.Views.{no_seek, seek_item, residuals_view, words_view, level_view}
use Rattle.plan_items.specs.Views.{field_item, slot_ends, slot_item, binding_item, select_view, diagnostic_view, plan_view}
use Rattle.plan_items.specs.declared.Item.{Item}
use Rattle.plan_items.specs.declared.PartView.{PartView}
use Rattle.plan_items.specs.declared.PartView.TheVariants as Pv
use Rattle.plan_items.specs.declared.PartItem.{PartItem}
use Rattle.plan_items.specs.declared.EdgeView.{EdgeView}
use Rattle.plan_items.specs.declared.EdgeView.TheVariants as Ev
use Rattle.plan_items.specs.declared.GuideView.{GuideView}
use Rattle.plan_items.specs.declared.NarrowingView.{NarrowingView}
use Rattle.plan_items.specs.declared.NarrowingView.TheVariants as Nv
use Rattle.plan_items.specs.declared.ResidualView.{ResidualView}
use Rattle.plan_items.specs.declared.SeekView.{SeekView}
use Rattle.plan_items.specs.declared.SeekView.TheVariants as Kv
use Rattle.plan_items.specs.declared.ListView.{ListView}
use Rattle.plan_items.specs.declared.LevelView.{LevelView}
use Rattle.plan_items.specs.declared.BindingItem.{BindingItem}
use Rattle.plan_items.specs.declared.SelectView.{SelectView}
use Rattle.plan_items.specs.declared.DiagnosticView.{DiagnosticView}
use Rattle.plan_items.specs.declared.PlanView.{PlanView}
use Rattle.std.specs.Prelude.{Result, Option}
use Rattle.std.specs.Result.{result_unwrap_or}
use Rattle.file.specs.Refusals.{numbered}
use Rattle.file.specs.declared.Refusal.{Refusal}

-- a text, and an item that ends with it
pub text-view : (f : List ℕ) (p n : ℕ) → n ≡ word f p → ◌≡◌ {A = TextView} (record { at = p + 2; len = n }) (text_view f p)
unfolding text_view
text-view f p n e = ap {B = TextView} (λ (j : ℕ). record { at = p + 2; len = j }) e

text-item : {A : Type 0} (f : List ℕ) (q : ℕ) (make : TextView → ℕ → A) (t : TextView) → t ≡ text_view f q
    → make t (t.at + t.len) ≡ make (text_view f q) (past_text f q)
unfolding text_view
text-item f q make t h = ap (λ (u : TextView). make u (u.at + u.len)) h

-- the item of kind n
chosen : {A : Type 0} (f : List ℕ) (p n : ℕ) → get_or f p 0 ≡ n → (xs : List A) (d : A) → get_or xs n d ≡ get_or xs (byte_at f p) d
unfolding byte_at
chosen f p n e xs d = ap (λ (k : ℕ). get_or xs k d) (sym e)

module _ (f : List ℕ) (p : ℕ) where
  -- a part's key
  pub key-bytes-view : (t : TextView) → get_or f p 0 ≡ 0 → t ≡ text_view f (p + 1)
      → ◌≡◌ {A = Item PartView} (record { view = Pv.Bytes t; end = t.at + t.len }) (key_item f p)
  unfolding key_item
  key-bytes-view t e h =
      text-item {A = Item PartView} f (p + 1) (λ (u : TextView) (o : ℕ). record { view = Pv.Bytes u; end = o }) t h
      ∙ chosen f p 0 e (key_items f (p + 1)) no_key

  pub key-register-view : (a o : ℕ) → get_or f p 0 ≡ 1 → a ≡ word f (p + 1) → o ≡ past_path f (p + 1 + 2)
      → ◌≡◌ {A = Item PartView} (record { view = Pv.RegisterField (record { 0 = a }) (p + 1 + 2); end = o }) (key_item f p)
  unfolding key_item
  key-register-view a o e u v = rw (u, v) (chosen f p 1 e (key_items f (p + 1)) no_key)

  pub key-fact-view : (a : ℕ) → get_or f p 0 ≡ 2 → a ≡ word f (p + 1)
      → ◌≡◌ {A = Item PartView} (record { view = Pv.RegisterFactId (record { 0 = a }); end = p + 1 + 2 }) (key_item f p)
  unfolding key_item
  key-fact-view a e u = rw u (chosen f p 2 e (key_items f (p + 1)) no_key)

  -- a part
  pub part-view : (k : Item PartView) (n : ℕ) → k ≡ key_item f p → n ≡ word f k.end
      → ◌≡◌ {A = PartItem} (record { part = k.view; node = n; end = k.end + 2 }) (part_item f p)
  unfolding part_item
  part-view k n h e =
      ap {B = PartItem} (λ (j : ℕ). record { part = k.view; node = j; end = k.end + 2 }) e
      ∙ ap {B = PartItem} (λ (w : Item PartView). record { part = w.view; node = word f w.end; end = w.end + 2 }) h

  -- an edge
  pub edge-none-view : get_or f p 0 ≡ 0 → ◌≡◌ {A = Item (Option EdgeView)} (record { view = None; end = p + 1 }) (edge_item f p)
  unfolding edge_item
  edge-none-view e = chosen f p 0 e (edge_items f (p + 1)) no_edge

  pub exclusive-view : (t : TextView) → get_or f p 0 ≡ 1 → t ≡ text_view f (p + 1)
      → ◌≡◌ {A = Item (Option EdgeView)} (record { view = Some (Ev.Exclusive t); end = t.at + t.len }) (edge_item f p)
  unfolding edge_item
  exclusive-view t e h =
      text-item {A = Item (Option EdgeView)} f (p + 1) (λ (u : TextView) (o : ℕ). record { view = Some (Ev.Exclusive u); end = o }) t h
      ∙ chosen f p 1 e (edge_items f (p + 1)) no_edge

  pub inclusive-view : (t : TextView) → get_or f p 0 ≡ 2 → t ≡ text_view f (p + 1)
      → ◌≡◌ {A = Item (Option EdgeView)} (record { view = Some (Ev.Inclusive t); end = t.at + t.len }) (edge_item f p)
  unfolding edge_item
  inclusive-view t e h =
      text-item {A = Item (Option EdgeView)} f (p + 1) (λ (u : TextView) (o : ℕ). record { view = Some (Ev.Inclusive u); end = o }) t h
      ∙ chosen f p 2 e (edge_items f (p + 1)) no_edge

  -- a guide
  pub guide-none-view : get_or f p 0 ≡ 0 → ◌≡◌ {A = Item (Option GuideView)} (record { view = None; end = p + 1 }) (guide_item f p)
  unfolding guide_item
  guide-none-view e = chosen f p 0 e (guide_items f (p + 1)) no_guide

  pub guide-some-view : (q n d : ℕ) (a : Anchor) (m : ℕ) → get_or f p 0 ≡ 1 → q ≡ past_path f (p + 1)
      → n ≡ word f q → d ≡ get_or f (q + 2) 0 → a ≡ anchor_at (get_or f (q + 3) 0) → m ≡ word f (q + 4)
      → ◌≡◌ {A = Item (Option GuideView)} (record { view = Some (record { path = p + 1; term = n; distance = d; anchor = a; node = m }); end = q + 6 }) (guide_item f p)
  unfolding guide_item byte_at
  guide-some-view q n d a m e g u v w y = rw (u, v, w, y) (ap (guide_that f (p + 1)) g ∙ chosen f p 1 e (guide_items f (p + 1)) no_guide)

  -- an op
  pub op-bytes-view : (t : TextView) → get_or f p 0 ≡ 0 → t ≡ text_view f (p + 1)
      → ◌≡◌ {A = Item NarrowingView} (record { view = Nv.Bytes t; end = t.at + t.len }) (narrowing_item f p)
  unfolding narrowing_item
  op-bytes-view t e h =
      text-item {A = Item NarrowingView} f (p + 1) (λ (u : TextView) (o : ℕ). record { view = Nv.Bytes u; end = o }) t h
      ∙ chosen f p 0 e (narrowing_items f (p + 1)) no_narrowing

  pub op-prefix-view : (t : TextView) → get_or f p 0 ≡ 1 → t ≡ text_view f (p + 1)
      → ◌≡◌ {A = Item NarrowingView} (record { view = Nv.Prefix t; end = t.at + t.len }) (narrowing_item f p)
  unfolding narrowing_item
  op-prefix-view t e h =
      text-item {A = Item NarrowingView} f (p + 1) (λ (u : TextView) (o : ℕ). record { view = Nv.Prefix u; end = o }) t h
      ∙ chosen f p 1 e (narrowing_items f (p + 1)) no_narrowing

  pub op-register-view : (a o : ℕ) → get_or f p 0 ≡ 2 → a ≡ word f (p + 1) → o ≡ past_path f (p + 1 + 2)
      → ◌≡◌ {A = Item NarrowingView} (record { view = Nv.RegisterField (record { 0 = a }) (p + 1 + 2); end = o }) (narrowing_item f p)
  unfolding narrowing_item
  op-register-view a o e u v = rw (u, v) (chosen f p 2 e (narrowing_items f (p + 1)) no_narrowing)

  pub op-fact-view : (a : ℕ) → get_or f p 0 ≡ 3 → a ≡ word f (p + 1)
      → ◌≡◌ {A = Item NarrowingView} (record { view = Nv.FactId (record { 0 = a }); end = p + 1 + 2 }) (narrowing_item f p)
  unfolding narrowing_item
  op-fact-view a e u = rw u (chosen f p 3 e (narrowing_items f (p + 1)) no_narrowing)

  pub op-tag-view : (d : ℕ) → get_or f p 0 ≡ 4 → d ≡ long f (p + 1)
      → ◌≡◌ {A = Item NarrowingView} (record { view = Nv.Tag d; end = p + 1 + 4 }) (narrowing_item f p)
  unfolding narrowing_item
  op-tag-view d e u = rw u (chosen f p 4 e (narrowing_items f (p + 1)) no_narrowing)

  pub op-fuzzy-view : (n d : ℕ) (a : Anchor) → get_or f p 0 ≡ 5
      → n ≡ word f (p + 1) → d ≡ get_or f (p + 1 + 2) 0 → a ≡ anchor_at (get_or f (p + 1 + 3) 0)
      → ◌≡◌ {A = Item NarrowingView} (record { view = Nv.Fuzzy n d a; end = p + 1 + 4 }) (narrowing_item f p)
  unfolding narrowing_item byte_at
  op-fuzzy-view n d a e u v w = rw (u, v, w) (chosen f p 5 e (narrowing_items f (p + 1)) no_narrowing)

  pub op-own-view : (o : ℕ) → get_or f p 0 ≡ 6 → o ≡ past_path f (p + 1)
      → ◌≡◌ {A = Item NarrowingView} (record { view = Nv.OwnField (p + 1); end = o }) (narrowing_item f p)
  unfolding narrowing_item
  op-own-view o e u = rw u (chosen f p 6 e (narrowing_items f (p + 1)) no_narrowing)

  -- a residual
  pub residual-view : (q : ℕ) (o : Item NarrowingView) (n : ℕ) → q ≡ past_path f p → o ≡ narrowing_item f q → n ≡ word f o.end
      → ◌≡◌ {A = ResidualView} (record { path = p; op = o.view; node = n; end = o.end + 2 }) (residual_view f p)
  unfolding residual_view
  residual-view q o n g h e =
      ap {B = ResidualView} (λ (j : ℕ). record { path = p; op = o.view; node = j; end = o.end + 2 }) e
      ∙ ap {B = ResidualView} (λ (w : Item NarrowingView). record { path = p; op = w.view; node = word f w.end; end = w.end + 2 }) (h
      ∙ ap (narrowing_item f) g)

-- one item after another
module _ (f : List ℕ) (n p : ℕ) (s : Result ℕ Refusal) (q : ℕ) (g : q ≡ result_unwrap_or s 0) where
  pub parts-past : numbered s ≡ step_at f (many n (item_of Kinds.Part)) p → q ≡ parts_past f n p
  unfolding parts_past
  parts-past e = g ∙ unwrapped s ∙ ap past_of (e ∙ sym (alike-step f (alike-many alike-part n) p))

  pub residuals-past : numbered s ≡ step_at f (many n (item_of Kinds.Residual)) p → q ≡ residuals_past f n p
  unfolding residuals_past
  residuals-past e = g ∙ unwrapped s ∙ ap past_of (e ∙ sym (alike-step f (alike-many alike-residual n) p))

-- and what is read there
module _ (f : List ℕ) (n p q : ℕ) (h : p ≤ length f) where
  pub parts-read : Found f (many n Reader.part) p → q ≡ parts_past f n p → read_at f (many n Reader.part) p ≡ got (items_at f Reader.part n p) (drop q f)
  unfolding parts_past
  parts-read x e = items-read f Reader.part n p _ q (found-past f (many n Reader.part) (suffix-many suffix-part n) p q h x e)

  pub residuals-read : Found f (many n Reader.residual) p → q ≡ residuals_past f n p → read_at f (many n Reader.residual) p ≡ got (items_at f Reader.residual n p) (drop q f)
  unfolding residuals_past
  residuals-read x e = items-read f Reader.residual n p _ q (found-past f (many n Reader.residual) (suffix-many suffix-residual n) p q h x e)

-- a seek
pub prefix-view : (f : List ℕ) (n p : ℕ) (t : TextView) → t ≡ text_view f p
    → ◌≡◌ {A = Item SeekView} (record { view = Kv.Prefix t (t.at + t.len); end = t.at + t.len + 2 * n }) (prefix_item f n p)
unfolding prefix_item
prefix-view f n p t h = text-item {A = Item SeekView} f p (λ (u : TextView) (o : ℕ). record { view = Kv.Prefix u o; end = o + 2 * n }) t h

module _ (f : List ℕ) (n p q : ℕ) (g : q ≡ parts_past f n p) where
  pub range-view : (t : TextView) (e m : ℕ) → t ≡ text_view f q → e ≡ past_path f (t.at + t.len) → m ≡ word f e
      → ◌≡◌ {A = Item SeekView} (record { view = Kv.PrefixRange p t (t.at + t.len) m; end = e + 2 }) (range_item f n p)
  unfolding range_item text_view
  range-view t e m h k u =
      ap {B = Item SeekView} (λ (j : ℕ). record { view = Kv.PrefixRange p t (t.at + t.len) j; end = e + 2 }) u
      ∙ ap {B = Item SeekView} (λ (j : ℕ). record { view = Kv.PrefixRange p t (t.at + t.len) (word f j); end = j + 2 }) k
      ∙ ap {B = Item SeekView} (λ (u : TextView).
      let o = past_path f (u.at + u.len) in
      record { view = Kv.PrefixRange p u (u.at + u.len) (word f o); end = o + 2 })
      (h ∙ ap (text_view f) g)

  abbrev from_low : Item (Option EdgeView) → Item SeekView
  from_low low = let high = edge_item f low.end in record { view = Kv.Bounded p low.view high.view; end = high.end }

  pub bounded-view : (low high : Item (Option EdgeView)) → low ≡ edge_item f q → high ≡ edge_item f low.end
      → ◌≡◌ {A = Item SeekView} (record { view = Kv.Bounded p low.view high.view; end = high.end }) (bounded_item f n p)
  unfolding bounded_item
  bounded-view low high h k =
      ap {B = Item SeekView} (λ (x : Item (Option EdgeView)). record { view = Kv.Bounded p low.view x.view; end = x.end }) k
      ∙ ap from_low (h ∙ ap (edge_item f) g)

module _ (f : List ℕ) (n p : ℕ) where
  pub seek-prefix-view : (s : Item SeekView) → get_or f p 0 ≡ 0 → s ≡ prefix_item f n (p + 1) → s ≡ seek_item f n p
  unfolding seek_item
  seek-prefix-view s e h = h ∙ chosen f p 0 e (seek_items f n (p + 1)) no_seek

  pub seek-composite-view : (o : ℕ) → get_or f p 0 ≡ 1 → o ≡ parts_past f n (p + 1)
      → ◌≡◌ {A = Item SeekView} (record { view = Kv.Composite (p + 1); end = o }) (seek_item f n p)
  unfolding seek_item composite_item
  seek-composite-view o e h =
      ap {B = Item SeekView} (λ (j : ℕ). record { view = Kv.Composite (p + 1); end = j }) h
      ∙ chosen f p 1 e (seek_items f n (p + 1)) no_seek

  pub seek-range-view : (s : Item SeekView) → get_or f p 0 ≡ 2 → s ≡ range_item f n (p + 1) → s ≡ seek_item f n p
  unfolding seek_item
  seek-range-view s e h = h ∙ chosen f p 2 e (seek_items f n (p + 1)) no_seek

  pub seek-bounded-view : (s : Item SeekView) → get_or f p 0 ≡ 3 → s ≡ bounded_item f n (p + 1) → s ≡ seek_item f n p
  unfolding seek_item
  seek-bounded-view s e h = h ∙ chosen f p 3 e (seek_items f n (p + 1)) no_seek

-- a level's lists, and a level
module _ (f : List ℕ) (p : ℕ) where
  pub residuals-view : (n q : ℕ) → n ≡ word f p → q ≡ residuals_past f n (p + 2)
      → ◌≡◌ {A = ListView} (record { count = n; at = p + 2; end = q }) (residuals_view f p)
  unfolding residuals_view
  residuals-view n q e h =
      ap {B = ListView} (λ (j : ℕ). record { count = n; at = p + 2; end = j }) h
      ∙ ap {B = ListView} (λ (m : ℕ). record { count = m; at = p + 2; end = residuals_past f m (p + 2) }) e

  pub words-view : (n : ℕ) → n ≡ word f p → ◌≡◌ {A = ListView} (record { count = n; at = p + 2; end = p + 2 + 2 * n }) (words_view f p)
  unfolding words_view
  words-view n e = ap {B = ListView} (λ (m : ℕ). record { count = m; at = p + 2; end = p + 2 + 2 * m }) e

  abbrev level_made : ℕ → ℕ → ℕ → Item SeekView → Item (Option GuideView) → ListView → ListView → LevelView
  level_made n c m s g rs fs =
      record { narrowings = n; closers = c; parts = m; seek = s.view; guide = g.view; residuals = rs; folded = fs; end = fs.end }

  abbrev from_residuals : ℕ → ℕ → ℕ → Item SeekView → Item (Option GuideView) → ListView → LevelView
  from_residuals n c m s g rs = level_made n c m s g rs (words_view f rs.end)

  abbrev from_guide : ℕ → ℕ → ℕ → Item SeekView → Item (Option GuideView) → LevelView
  from_guide n c m s g = from_residuals n c m s g (residuals_view f g.end)

  abbrev from_seek : ℕ → ℕ → ℕ → Item SeekView → LevelView
  from_seek n c m s = from_guide n c m s (guide_item f s.end)

  abbrev from_counts : ℕ → ℕ → ℕ → LevelView
  from_counts n c m = from_seek n c m (seek_item f m (p + 6))

  pub level-view : (n c m : ℕ) (s : Item SeekView) (g : Item (Option GuideView)) (rs fs : ListView) → n ≡ word f p → c ≡ word f (p + 2) → m ≡ word f (p + 4)
      → s ≡ seek_item f m (p + 6) → g ≡ guide_item f s.end → rs ≡ residuals_view f g.end → fs ≡ words_view f rs.end
      → level_made n c m s g rs fs ≡ level_view f p
  unfolding level_view
  level-view n c m s g rs fs e1 e2 e3 e4 e5 e6 e7 =
      ap (level_made n c m s g rs) e7 ∙ ap (from_residuals n c m s g) e6 ∙ ap (from_guide n c m s) e5 ∙ ap (from_seek n c m) e4
      ∙ ap (from_counts n c) e3 ∙ ap (λ (j : ℕ). from_counts n j (word f (p + 4))) e2
      ∙ ap (λ (j : ℕ). from_counts j (word f (p + 2)) (word f (p + 4))) e1

-- slots
pub field-view : (f : List ℕ) (p a q t : ℕ) → a ≡ word f p → q ≡ past_path f (p + 2) → t ≡ word f q
    → ◌≡◌ {A = Item SlotView} (record { view = Sv.Field (record { 0 = a }) (p + 2) t; end = q + 2 }) (field_item f p)
unfolding field_item
field-view f p a q t u g v =
    rw (u, v) (ap {B = Item SlotView} (λ (o : ℕ). record { view = Sv.Field (record { 0 = word f p }) (p + 2) (word f o); end = o + 2 }) g)

module _ (f : List ℕ) (p : ℕ) where
  slot-chosen : (n : ℕ) → get_or f p 0 ≡ n
      → ◌≡◌ {A = Item SlotView} (record { view = get_or (slot_views f (p + 1)) n (Sv.Const 0); end = get_or (slot_ends f (p + 1)) n 0 }) (slot_item f p)
  unfolding slot_item slot_view byte_at
  slot-chosen n e =
      ap {B = Item SlotView} (λ (k : ℕ). record { view = get_or (slot_views f (p + 1)) k (Sv.Const 0); end = get_or (slot_ends f (p + 1)) k 0 })
      (sym e)

  pub row-view : (a : ℕ) (m : Option PredicateId) → get_or f p 0 ≡ 0 → a ≡ word f (p + 1) → m ≡ predicate_maybe (word f (p + 1 + 2))
      → ◌≡◌ {A = Item SlotView} (record { view = Sv.Row (record { 0 = a }) m; end = p + 1 + 4 }) (slot_item f p)
  row-view a m e u v = rw (u, v) (slot-chosen 0 e)

  pub key-view : (a t : ℕ) → get_or f p 0 ≡ 1 → a ≡ word f (p + 1) → t ≡ word f (p + 1 + 2)
      → ◌≡◌ {A = Item SlotView} (record { view = Sv.Key (record { 0 = a }) t; end = p + 1 + 4 }) (slot_item f p)
  key-view a t e u v = rw (u, v) (slot-chosen 1 e)

  pub derived-view : (a : ℕ) → get_or f p 0 ≡ 2 → a ≡ word f (p + 1)
      → ◌≡◌ {A = Item SlotView} (record { view = Sv.Derived (record { 0 = a }); end = p + 1 + 2 }) (slot_item f p)
  derived-view a e u = rw u (slot-chosen 2 e)

  pub slot-field-view : (s : Item SlotView) → get_or f p 0 ≡ 3 → s ≡ field_item f (p + 1) → s ≡ slot_item f p
  unfolding field_item
  slot-field-view s e h = h ∙ slot-chosen 3 e

  pub value-view : (a t : ℕ) → get_or f p 0 ≡ 4 → a ≡ word f (p + 1) → t ≡ word f (p + 1 + 2)
      → ◌≡◌ {A = Item SlotView} (record { view = Sv.Value (record { 0 = a }) t; end = p + 1 + 4 }) (slot_item f p)
  value-view a t e u v = rw (u, v) (slot-chosen 4 e)

  pub const-view : (n : ℕ) → get_or f p 0 ≡ 5 → n ≡ word f (p + 1)
      → ◌≡◌ {A = Item SlotView} (record { view = Sv.Const n; end = p + 1 + 2 }) (slot_item f p)
  const-view n e u = rw u (slot-chosen 5 e)

  -- bindings, selects, diagnostics
  pub binding-view : (n : ℕ) (s : Item SlotView) → n ≡ word f p → s ≡ slot_item f (p + 2)
      → ◌≡◌ {A = BindingItem} (record { name = n; slot = s.view; end = s.end }) (binding_item f p)
  unfolding binding_item
  binding-view n s e h =
      ap {B = BindingItem} (λ (j : ℕ). record { name = j; slot = s.view; end = s.end }) e
      ∙ ap {B = BindingItem} (λ (x : Item SlotView). record { name = word f p; slot = x.view; end = x.end }) h

  pub select-view : (a q d : ℕ) → a ≡ word f p → q ≡ past_path f (p + 2) → d ≡ long f q
      → ◌≡◌ {A = SelectView} (record { address = record { 0 = a }; path = p + 2; disc = d; end = q + 4 }) (select_view f p)
  unfolding select_view
  select-view a q d u g v =
      rw (u, v) (ap {B = SelectView} (λ (o : ℕ). record { address = record { 0 = word f p }; path = p + 2; disc = long f o; end = o + 4 })
      g)

  pub diagnostic-view : (n : ℕ) → n ≡ word f p
      → ◌≡◌ {A = DiagnosticView} (record { node = n; code = get_or f (p + 2) 0; end = p + 3 }) (diagnostic_view f p)
  unfolding diagnostic_view byte_at
  diagnostic-view n e = ap {B = DiagnosticView} (λ (j : ℕ). record { node = j; code = get_or f (p + 2) 0; end = p + 3 }) e

-- where the walk over the five lists comes by, by the readers' own names
module _ (f : List ℕ) (p : ℕ) (s : Result ℕ Refusal) (q : ℕ) (g : q ≡ result_unwrap_or s 0) where
  pub levels-past : numbered s ≡ step_at f (Reader.counted Reader.level) p → q ≡ past_of (step_at f (Reader.counted Reader.level) p)
  levels-past e = g ∙ unwrapped s ∙ ap past_of e

  pub bindings-past : numbered s ≡ step_at f (Reader.counted (item_of Kinds.Binding)) p → q ≡ past_of (step_at f (Reader.counted Reader.binding) p)
  bindings-past e = g ∙ unwrapped s ∙ ap past_of (e ∙ sym (alike-step f (alike-counted alike-binding) p))

  pub constrained-past : numbered s ≡ step_at f (Reader.counted u16) p → q ≡ past_of (step_at f (Reader.counted u16) p)
  constrained-past e = g ∙ unwrapped s ∙ ap past_of e

  pub selects-past : numbered s ≡ step_at f (Reader.counted (item_of Kinds.Select)) p → q ≡ past_of (step_at f (Reader.counted Reader.select) p)
  selects-past e = g ∙ unwrapped s ∙ ap past_of (e ∙ sym (alike-step f (alike-counted alike_select) p))

module _ (f : List ℕ) where
  abbrev plan_made : ListView → ListView → ListView → ListView → ListView → PlanView
  plan_made lv bv kv sv dv = record { levels = lv; bindings = bv; constrained = kv; selects = sv; diagnostics = dv }

  abbrev from_all : ℕ → ℕ → ℕ → ℕ → PlanView
  from_all b k s d = plan_made (list_view f 0 b) (list_view f b k) (list_view f k s) (list_view f s d) (list_view f d (length f))

  abbrev from_three : ℕ → ℕ → ℕ → PlanView
  from_three b k s = from_all b k s (past_of (step_at f (Reader.counted Reader.select) s))

  abbrev from_two : ℕ → ℕ → PlanView
  from_two b k = from_three b k (past_of (step_at f (Reader.counted u16) k))

  abbrev from_one : ℕ → PlanView
  from_one b = from_two b (past_of (step_at f (Reader.counted Reader.binding) b))

  pub plan-view : (b k s d : ℕ)
      → b ≡ past_of (step_at f (Reader.counted Reader.level) 0) → k ≡ past_of (step_at f (Reader.counted Reader.binding) b)
      → s ≡ past_of (step_at f (Reader.counted u16) k) → d ≡ past_of (step_at f (Reader.counted Reader.select) s)
      → (lv bv kv sv dv : ListView)
      → lv ≡ list_view f 0 b → bv ≡ list_view f b k → kv ≡ list_view f k s → sv ≡ list_view f s d → dv ≡ list_view f d (length f)
      → plan_made lv bv kv sv dv ≡ plan_view f
  unfolding plan_view
  plan-view b k s d B K S D lv bv kv sv dv l1 l2 l3 l4 l5 =
      ap (λ (l : ListView). plan_made l bv kv sv dv) l1 ∙ ap (λ (l : ListView). plan_made (list_view f 0 b) l kv sv dv) l2
      ∙ ap (λ (l : ListView). plan_made (list_view f 0 b) (list_view f b k) l sv dv) l3
      ∙ ap (λ (l : ListView). plan_made (list_view f 0 b) (list_view f b k) (list_view f k s) l dv) l4
      ∙ ap (plan_made (list_view f 0 b) (list_view f b k) (list_view f k s) (list_view f s d)) l5
      ∙ ap (from_all b k s) D ∙ ap (from_three b k) S ∙ ap (from_two b) K ∙ ap from_one B
