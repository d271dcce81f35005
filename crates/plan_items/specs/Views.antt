-- Request [1]: the whole view of an item, from the bytes f of the plan and the item's position p. An item of several kinds begins with the
-- byte of its kind, which chooses from the list of the kinds' views; `get_or`'s last argument is never met where the item was found.
use Rattle.std.specs.Prelude.{ℕ, ◌+◌, ◌*◌, List, [], ◌∷◌, length, get_or, Option, None, Some}
use Rattle.rules.specs.Read.{u16, many}
use Rattle.rules.specs.Reader as Reader
use Rattle.file.specs.Steps.{word, step_at}
use Rattle.paths.specs.declared.Address.{Address}
use Rattle.views.specs.Views.{byte_at, long, past_path, anchor_at, slot_view}
use Rattle.views.specs.declared.SlotView.{SlotView}
use Rattle.views.specs.declared.SlotView.TheVariants as Sv
use Rattle.views.specs.declared.TextView.{TextView}
use Rattle.plan_items.specs.Items.{list_view, past_of}
use Rattle.plan_items.specs.declared.Item.{Item}
use Rattle.plan_items.specs.declared.PartView.{PartView}
use Rattle.plan_items.specs.declared.PartView.TheVariants as Pv
use Rattle.plan_items.specs.declared.PartItem.{PartItem}
use Rattle.plan_items.specs.declared.EdgeView.{EdgeView}
use Rattle.plan_items.specs.declared.EdgeView.TheVariants as Ev
use Rattle.plan_items.specs.declared.GuideView.{GuideView}
use Rattle.plan_items.specs.declared.NarrowingView.{NarrowingView}
use Rattle.plan_items.specs.declared.NarrowingView.TheVariants as Nv
use Rattle.plan_items.specs.declared.ResidualView.{ResidualView}
use Rattle.plan_items.specs.declared.SeekView.{SeekView}
use Rattle.plan_items.specs.declared.SeekView.TheVariants as Kv
use Rattle.plan_items.specs.declared.ListView.{ListView}
use Rattle.plan_items.specs.declared.LevelView.{LevelView}
use Rattle.plan_items.specs.declared.BindingItem.{BindingItem}
use Rattle.plan_items.specs.declared.SelectView.{SelectView}
use Rattle.plan_items.specs.declared.DiagnosticView.{DiagnosticView}
use Rattle.plan_items.specs.declared.PlanView.{PlanView}

-- a text: two bytes with its length, then its bytes; and where it ends
unfoldable pub text_view : List ℕ → ℕ → TextView
text_view f p = record { at = p + 2; len = word f p }

abbrev pub past_text : List ℕ → ℕ → ℕ
past_text f p = p + 2 + word f p

abbrev pub address_at : List ℕ → ℕ → Address
address_at f p = record { 0 = word f p }

-- a part's key by its kind, and of what follows the kind at q
abbrev pub key_items : List ℕ → ℕ → List (Item PartView)
key_items f q =
    record { view = Pv.Bytes (text_view f q); end = past_text f q } ∷
    record { view = Pv.RegisterField (address_at f q) (q + 2); end = past_path f (q + 2) } ∷
    record { view = Pv.RegisterFactId (address_at f q); end = q + 2 } ∷
    []

abbrev pub no_key : Item PartView
no_key = record { view = Pv.RegisterFactId (record { 0 = 0 }); end = 0 }

unfoldable pub key_item : List ℕ → ℕ → Item PartView
key_item f p = get_or (key_items f (p + 1)) (byte_at f p) no_key

-- a part: a key, then its node
unfoldable pub part_item : List ℕ → ℕ → PartItem
part_item f p = let k = key_item f p in record { part = k.view; node = word f k.end; end = k.end + 2 }

-- an edge
abbrev pub edge_items : List ℕ → ℕ → List (Item (Option EdgeView))
edge_items f q =
    record { view = None; end = q } ∷
    record { view = Some (Ev.Exclusive (text_view f q)); end = past_text f q } ∷
    record { view = Some (Ev.Inclusive (text_view f q)); end = past_text f q } ∷
    []

abbrev pub no_edge : Item (Option EdgeView)
no_edge = record { view = None; end = 0 }

unfoldable pub edge_item : List ℕ → ℕ → Item (Option EdgeView)
edge_item f p = get_or (edge_items f (p + 1)) (byte_at f p) no_edge

-- a guide: a path, then at o a name, a distance, an anchor and a node
abbrev pub guide_that : List ℕ → ℕ → ℕ → Item (Option GuideView)
guide_that f q o =
    record {
      view =
          Some (record {
            path = q;
            term = word f o;
            distance = byte_at f (o + 2);
            anchor = anchor_at (byte_at f (o + 3));
            node = word f (o + 4);
          });
      end = o + 6;
    }

abbrev pub guide_items : List ℕ → ℕ → List (Item (Option GuideView))
guide_items f q = record { view = None; end = q } ∷ guide_that f q (past_path f q) ∷ []

abbrev pub no_guide : Item (Option GuideView)
no_guide = record { view = None; end = 0 }

unfoldable pub guide_item : List ℕ → ℕ → Item (Option GuideView)
guide_item f p = get_or (guide_items f (p + 1)) (byte_at f p) no_guide

-- an op
abbrev pub narrowing_items : List ℕ → ℕ → List (Item NarrowingView)
narrowing_items f q =
    record { view = Nv.Bytes (text_view f q); end = past_text f q } ∷
    record { view = Nv.Prefix (text_view f q); end = past_text f q } ∷
    record { view = Nv.RegisterField (address_at f q) (q + 2); end = past_path f (q + 2) } ∷
    record { view = Nv.FactId (address_at f q); end = q + 2 } ∷
    record { view = Nv.Tag (long f q); end = q + 4 } ∷
    record { view = Nv.Fuzzy (word f q) (byte_at f (q + 2)) (anchor_at (byte_at f (q + 3))); end = q + 4 } ∷
    record { view = Nv.OwnField q; end = past_path f q } ∷
    []

abbrev pub no_narrowing : Item NarrowingView
no_narrowing = record { view = Nv.Tag 0; end = 0 }

unfoldable pub narrowing_item : List ℕ → ℕ → Item NarrowingView
narrowing_item f p = get_or (narrowing_items f (p + 1)) (byte_at f p) no_narrowing

-- a residual: a path, then an op, then its node
unfoldable pub residual_view : List ℕ → ℕ → ResidualView
residual_view f p =
    let o = narrowing_item f (past_path f p) in
    record { path = p; op = o.view; node = word f o.end; end = o.end + 2 }

-- where n parts end, and n residuals, that stand one after another from p on
unfoldable pub parts_past : List ℕ → ℕ → ℕ → ℕ
parts_past f n p = past_of (step_at f (many n Reader.part) p)

unfoldable pub residuals_past : List ℕ → ℕ → ℕ → ℕ
residuals_past f n p = past_of (step_at f (many n Reader.residual) p)

-- what a seek of each kind holds, from p on; n is the level's number of parts
unfoldable pub prefix_item : List ℕ → ℕ → ℕ → Item SeekView
prefix_item f n p = let nodes = past_text f p in record { view = Kv.Prefix (text_view f p) nodes; end = nodes + 2 * n }

unfoldable pub composite_item : List ℕ → ℕ → ℕ → Item SeekView
composite_item f n p = record { view = Kv.Composite p; end = parts_past f n p }

unfoldable pub range_item : List ℕ → ℕ → ℕ → Item SeekView
range_item f n p =
    let q = parts_past f n p in
    let path = past_text f q in
    let o = past_path f path in
    record { view = Kv.PrefixRange p (text_view f q) path (word f o); end = o + 2 }

unfoldable pub bounded_item : List ℕ → ℕ → ℕ → Item SeekView
bounded_item f n p =
    let low = edge_item f (parts_past f n p) in
    let high = edge_item f low.end in
    record { view = Kv.Bounded p low.view high.view; end = high.end }

abbrev pub no_seek : Item SeekView
no_seek = record { view = Kv.Composite 0; end = 0 }

abbrev pub seek_items : List ℕ → ℕ → ℕ → List (Item SeekView)
seek_items f n q = prefix_item f n q ∷ composite_item f n q ∷ range_item f n q ∷ bounded_item f n q ∷ []

unfoldable pub seek_item : List ℕ → ℕ → ℕ → Item SeekView
seek_item f n p = get_or (seek_items f n (p + 1)) (byte_at f p) no_seek

-- a level's two lists, counted at p
unfoldable pub residuals_view : List ℕ → ℕ → ListView
residuals_view f p = list_view f p (residuals_past f (word f p) (p + 2))

unfoldable pub words_view : List ℕ → ℕ → ListView
words_view f p = list_view f p (p + 2 + 2 * word f p)

-- a level: three counts, seek, guide, residuals, folded
unfoldable pub level_view : List ℕ → ℕ → LevelView
level_view f p =
    let s = seek_item f (word f (p + 4)) (p + 6) in
    let g = guide_item f s.end in
    let rs = residuals_view f g.end in
    let fs = words_view f rs.end in
    record {
      narrowings = word f p;
      closers = word f (p + 2);
      parts = word f (p + 4);
      seek = s.view;
      guide = g.view;
      residuals = rs;
      folded = fs;
      end = fs.end;
    }

-- what a Field slot holds, from p on; and where a slot ends, by its kind
unfoldable pub field_item : List ℕ → ℕ → Item SlotView
field_item f p =
    let q = past_path f (p + 2) in
    record { view = Sv.Field (address_at f p) (p + 2) (word f q); end = q + 2 }

abbrev pub slot_ends : List ℕ → ℕ → List ℕ
slot_ends f q = (q + 4) ∷ (q + 4) ∷ (q + 2) ∷ (past_path f (q + 2) + 2) ∷ (q + 4) ∷ (q + 2) ∷ []

unfoldable pub slot_item : List ℕ → ℕ → Item SlotView
slot_item f p = record { view = slot_view f p; end = get_or (slot_ends f (p + 1)) (byte_at f p) 0 }

-- the lists after all levels
unfoldable pub binding_item : List ℕ → ℕ → BindingItem
binding_item f p = let s = slot_item f (p + 2) in record { name = word f p; slot = s.view; end = s.end }

unfoldable pub select_view : List ℕ → ℕ → SelectView
select_view f p =
    let q = past_path f (p + 2) in
    record { address = address_at f p; path = p + 2; disc = long f q; end = q + 4 }

unfoldable pub diagnostic_view : List ℕ → ℕ → DiagnosticView
diagnostic_view f p = record { node = word f p; code = byte_at f (p + 2); end = p + 3 }

-- the five lists, each of which begins where the one before it ends
unfoldable pub plan_view : List ℕ → PlanView
plan_view f =
    let b = past_of (step_at f (Reader.counted Reader.level) 0) in
    let k = past_of (step_at f (Reader.counted Reader.binding) b) in
    let s = past_of (step_at f (Reader.counted u16) k) in
    let d = past_of (step_at f (Reader.counted Reader.select) s) in
    record {
      levels = list_view f 0 b;
      bindings = list_view f b k;
      constrained = list_view f k s;
      selects = list_view f s d;
      diagnostics = list_view f d (length f);
    }
