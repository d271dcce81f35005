-- Request [1]: what an item by value stands for in the plan f that it was found in, from the bytes where it points.
use Rattle.std.specs.Prelude.{ℕ, ◌+◌, ◌-◌, ◌≤◌, ◌<◌, true, false, List, [], ◌∷◌, length, get_or, Result, Ok, Err, Option, None, Some}
use Rattle.rules.specs.Read.{Read, Reader, u16, many}
use Rattle.rules.specs.Read.Read.{got, refused}
use Rattle.rules.specs.Reader as Reader
use Rattle.rules.specs.File.{Binding}
use Rattle.rules.specs.Events.{Code, Select, Diagnostic, Narrowing}
use Rattle.rules.specs.Placement.{SeekKeyPart, Part, Residual, Guide, RangeEdge, SeekKey}
use Rattle.rules.specs.Plan.{PlanLevel, Plan}
use Rattle.file.specs.Steps.{word_limit, word, read_at}
use Rattle.views.specs.Views.{path_at, text_of, anchor_of, slot_viewed}
use Rattle.views.specs.declared.SlotView.{SlotView}
use Rattle.views.specs.declared.SlotView.TheVariants as Sv
use Rattle.views.specs.declared.TextView.{TextView}
use Rattle.plan_form.specs.Places.{Found}
use Rattle.plan_items.specs.declared.PartView.{PartView}
use Rattle.plan_items.specs.declared.PartView.TheVariants as Pv
use Rattle.plan_items.specs.declared.PartItem.{PartItem}
use Rattle.plan_items.specs.declared.EdgeView.{EdgeView}
use Rattle.plan_items.specs.declared.EdgeView.TheVariants as Ev
use Rattle.plan_items.specs.declared.GuideView.{GuideView}
use Rattle.plan_items.specs.declared.NarrowingView.{NarrowingView}
use Rattle.plan_items.specs.declared.NarrowingView.TheVariants as Nv
use Rattle.plan_items.specs.declared.ResidualView.{ResidualView}
use Rattle.plan_items.specs.declared.SeekView.{SeekView}
use Rattle.plan_items.specs.declared.SeekView.TheVariants as Kv
use Rattle.plan_items.specs.declared.ListView.{ListView}
use Rattle.plan_items.specs.declared.LevelView.{LevelView}
use Rattle.plan_items.specs.declared.BindingItem.{BindingItem}
use Rattle.plan_items.specs.declared.SelectView.{SelectView}
use Rattle.plan_items.specs.declared.DiagnosticView.{DiagnosticView}
use Rattle.plan_items.specs.declared.PlanView.{PlanView}

abbrev pub got_items : {A : Type 0} → Read (List A) → List A
got_items (got xs rest) = xs
got_items (refused n) = []

-- the n items that reader r reads from p on
unfoldable pub items_at : {A : Type 0} → List ℕ → Reader A → ℕ → ℕ → List A
items_at f r n p = got_items (read_at f (many n r) p)

abbrev pub list_of : {A : Type 0} → List ℕ → Reader A → ListView → List A
list_of f r v = items_at f r v.count v.at

-- the list whose count stands at p and that ends at stop
abbrev pub list_view : List ℕ → ℕ → ℕ → ListView
list_view f p stop = record { count = word f p; at = p + 2; end = stop }

-- where a walk ended that met no fault
abbrev pub past_of : Result ℕ ℕ → ℕ
past_of (Ok q) = q
past_of (Err x) = 0

abbrev pub key_of : List ℕ → PartView → SeekKeyPart
key_of f (Pv.Bytes text) = SeekKeyPart.Bytes (text_of f text)
key_of f (Pv.RegisterField a path) = SeekKeyPart.RegisterField a.0 (path_at f path)
key_of f (Pv.RegisterFactId a) = SeekKeyPart.RegisterFactId a.0

abbrev pub part_of : List ℕ → PartItem → Part
part_of f v = record { key = key_of f v.part; node = v.node }

abbrev pub edge_of : List ℕ → Option EdgeView → Option RangeEdge
edge_of f None = None
edge_of f (Some (Ev.Exclusive text)) = Some (record { value = text_of f text; inclusive = false })
edge_of f (Some (Ev.Inclusive text)) = Some (record { value = text_of f text; inclusive = true })

abbrev pub guide_of : List ℕ → Option GuideView → Option Guide
guide_of f None = None
guide_of f (Some v) =
    Some (record { path = path_at f v.path; term = v.term; distance = v.distance; anchor = anchor_of v.anchor; node = v.node })

abbrev pub narrowing_of : List ℕ → NarrowingView → Narrowing
narrowing_of f (Nv.Bytes text) = Narrowing.Bytes (text_of f text)
narrowing_of f (Nv.Prefix text) = Narrowing.Prefix (text_of f text)
narrowing_of f (Nv.RegisterField a path) = Narrowing.RegisterField a.0 (path_at f path)
narrowing_of f (Nv.FactId a) = Narrowing.FactId a.0
narrowing_of f (Nv.Tag disc) = Narrowing.Tag disc
narrowing_of f (Nv.Fuzzy x distance a) = Narrowing.Fuzzy x distance (anchor_of a)
narrowing_of f (Nv.OwnField path) = Narrowing.OwnField (path_at f path)

abbrev pub residual_of : List ℕ → ResidualView → Residual
residual_of f v = record { path = path_at f v.path; op = narrowing_of f v.op; node = v.node }

-- n is the level's number of parts
abbrev pub seek_of : List ℕ → ℕ → SeekView → SeekKey
seek_of f n (Kv.Prefix text nodes) = SeekKey.Prefix (text_of f text) (items_at f u16 n nodes)
seek_of f n (Kv.Composite parts) = SeekKey.Composite (items_at f Reader.part n parts)
seek_of f n (Kv.PrefixRange parts text path node) =
    SeekKey.PrefixRange (items_at f Reader.part n parts) (record { path = path_at f path; prefix = text_of f text; node = node })
seek_of f n (Kv.Bounded parts lo hi) = SeekKey.Bounded (items_at f Reader.part n parts) (edge_of f lo) (edge_of f hi)

abbrev pub level_of : List ℕ → LevelView → PlanLevel
level_of f v =
    record {
      narrowings = v.narrowings;
      closers = v.closers;
      parts = v.parts;
      seek = seek_of f v.parts v.seek;
      guide = guide_of f v.guide;
      residuals = list_of f Reader.residual v.residuals;
      folded = list_of f u16 v.folded;
    }

-- the lists after all levels
abbrev pub binding_of : List ℕ → BindingItem → Binding
binding_of f v = record { name = v.name; slot = slot_viewed f v.slot }

abbrev pub select_of : List ℕ → SelectView → Select
select_of f v = record { address = v.address.0; path = path_at f v.path; disc = v.disc }

-- the codes by number, from 1 on
abbrev pub codes : List Code
codes =
    Code.NyiDisjunction ∷ Code.NyiFactField ∷ Code.NyiNever ∷ Code.NyiRepeatedVariable ∷ Code.NyiValueField ∷ Code.NyiValueMatch ∷
    Code.NyiWholeKey ∷ Code.RejectTypeMismatch ∷ Code.RejectUnionArity ∷ Code.RejectUnknownAlternative ∷ Code.RejectUnresolvedAccess ∷ []

unfoldable pub code_of : ℕ → Code
code_of n = get_or codes (n - 1) Code.NyiDisjunction

abbrev pub diagnostic_of : DiagnosticView → Diagnostic
diagnostic_of v = record { node = v.node; code = code_of v.code }

abbrev pub plan_viewed : List ℕ → PlanView → Plan
plan_viewed f v =
    record {
      levels = list_of f Reader.level v.levels;
      bindings = list_of f Reader.binding v.bindings;
      constrained = list_of f u16 v.constrained;
      selects = list_of f Reader.select v.selects;
      diagnostics = list_of f Reader.diagnostic v.diagnostics;
    }

-- What an item by value points at stands in the plan.
abbrev pub TextInside : List ℕ → TextView → Type 0
TextInside f text = text.at + text.len ≤ length f

abbrev pub PartInside : List ℕ → PartView → Type 0
PartInside f (Pv.Bytes text) = TextInside f text
PartInside f (Pv.RegisterField a path) = Found f Reader.path path
PartInside f (Pv.RegisterFactId a) = Unit {0}

abbrev pub EdgeInside : List ℕ → Option EdgeView → Type 0
EdgeInside f None = Unit {0}
EdgeInside f (Some (Ev.Exclusive text)) = TextInside f text
EdgeInside f (Some (Ev.Inclusive text)) = TextInside f text

abbrev pub GuideInside : List ℕ → Option GuideView → Type 0
GuideInside f None = Unit {0}
GuideInside f (Some v) = Found f Reader.path v.path

abbrev pub NarrowingInside : List ℕ → NarrowingView → Type 0
NarrowingInside f (Nv.Bytes text) = TextInside f text
NarrowingInside f (Nv.Prefix text) = TextInside f text
NarrowingInside f (Nv.RegisterField a path) = Found f Reader.path path
NarrowingInside f (Nv.FactId a) = Unit {0}
NarrowingInside f (Nv.Tag disc) = Unit {0}
NarrowingInside f (Nv.Fuzzy x distance a) = Unit {0}
NarrowingInside f (Nv.OwnField path) = Found f Reader.path path

pub record ResidualInside (f : List ℕ) (v : ResidualView) : Type 0 where
  pub path : Found f Reader.path v.path
  pub op : NarrowingInside f v.op

abbrev pub SeekInside : List ℕ → ℕ → SeekView → Type 0
SeekInside f n (Kv.Prefix text nodes) = TextInside f text × Found f (many n u16) nodes
SeekInside f n (Kv.Composite parts) = Found f (many n Reader.part) parts
SeekInside f n (Kv.PrefixRange parts text path node) = Found f (many n Reader.part) parts × TextInside f text × Found f Reader.path path
SeekInside f n (Kv.Bounded parts lo hi) = Found f (many n Reader.part) parts × EdgeInside f lo × EdgeInside f hi

pub record ListInside {A : Type 0} (f : List ℕ) (r : Reader A) (v : ListView) : Type 0 where
  pub found : Found f (many v.count r) v.at
  pub few : v.count < word_limit

pub record LevelInside (f : List ℕ) (v : LevelView) : Type 0 where
  pub seek : SeekInside f v.parts v.seek
  pub guide : GuideInside f v.guide
  pub residuals : ListInside f Reader.residual v.residuals
  pub folded : ListInside f u16 v.folded
  pub few : v.parts < word_limit

abbrev pub SlotInside : List ℕ → SlotView → Type 0
SlotInside f (Sv.Row a p) = Unit {0}
SlotInside f (Sv.Key a t) = Unit {0}
SlotInside f (Sv.Derived a) = Unit {0}
SlotInside f (Sv.Field a path t) = Found f Reader.path path
SlotInside f (Sv.Value a t) = Unit {0}
SlotInside f (Sv.Const n) = Unit {0}

pub record PlanInside (f : List ℕ) (v : PlanView) : Type 0 where
  pub levels : ListInside f Reader.level v.levels
  pub bindings : ListInside f Reader.binding v.bindings
  pub constrained : ListInside f u16 v.constrained
  pub selects : ListInside f Reader.select v.selects
  pub diagnostics : ListInside f Reader.diagnostic v.diagnostics
