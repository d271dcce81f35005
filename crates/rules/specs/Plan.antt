-- "Plan": a plan as data, and its bytes.
use Rattle.std.specs.Prelude.{Bool, true, false, List, [], ◌∷◌, ◌++◌, map, ℕ, ◌/◌, ◌%◌, length, drop, Option, None, Some, unwrap_or}
use Rattle.rules.specs.Base.{concat_map}
use Rattle.rules.specs.File.{Tables, Anchor, FieldPath, Slot, Binding}
use Rattle.rules.specs.Events.{code_number, Select, Diagnostic, Narrowing, Lists}
use Rattle.rules.specs.Placement.{SeekKeyPart, Part, Residual, Guide, RangeEdge, SeekKey, seek_key}
use Rattle.rules.specs.Levels.{Level, starting, levels, left_by, narrowings}

-- A level's counts, seek, guide, residuals and folded comparisons.
pub record PlanLevel : Type 0 where
  pub narrowings : ℕ
  pub closers : ℕ
  pub parts : ℕ
  pub seek : SeekKey
  pub guide : Option Guide
  pub residuals : List Residual
  pub folded : List ℕ

pub record Plan : Type 0 where
  pub levels : List PlanLevel
  pub bindings : List Binding
  pub constrained : List ℕ
  pub selects : List Select
  pub diagnostics : List Diagnostic

unfoldable pub plan_level : Level → PlanLevel
plan_level l =
    record {
      narrowings = narrowings l.events;
      closers = l.built.closers;
      parts = length l.built.parts;
      seek = seek_key l.built;
      guide = l.built.guide;
      residuals = l.built.residuals;
      folded = l.built.edges.folded;
    }

-- new bindings are those past the file's own
unfoldable pub plan_of : Tables → List Level → Lists → Plan
plan_of T ls left =
    record {
      levels = map plan_level ls;
      bindings = drop (length T.bindings) left.bindings;
      constrained = left.constrained;
      selects = left.selects;
      diagnostics = left.diagnostics;
    }

unfoldable pub plan : Tables → Plan
plan T = plan_of T (levels T) (left_by (starting T) (levels T))

-- "Items keep the rule file's form; counts and folded indices are u16."
unfoldable pub u16 : ℕ → List ℕ
u16 n = n % 256 ∷ n / 256 % 256 ∷ []

unfoldable pub u32 : ℕ → List ℕ
u32 n = n % 256 ∷ n / 256 % 256 ∷ n / 65536 % 256 ∷ n / 16777216 % 256 ∷ []

unfoldable pub counted : {A : Type 0} → (A → List ℕ) → List A → List ℕ
counted encode xs = u16 (length xs) ++ concat_map encode xs

-- "text (u16 length, bytes)"
unfoldable pub text : List ℕ → List ℕ
text bytes = u16 (length bytes) ++ bytes

unfoldable pub path : FieldPath → List ℕ
path p = u16 p.field ++ (length p.steps % 256 ∷ concat_map u32 p.steps)

unfoldable pub anchor : Anchor → ℕ
anchor Anchor.Prefix = 0
anchor Anchor.Whole = 1

unfoldable pub fuzzy : ℕ → ℕ → Anchor → List ℕ
fuzzy x distance a = u16 x ++ (distance ∷ anchor a ∷ [])

unfoldable pub optional : Option ℕ → List ℕ
optional n = u16 (unwrap_or n 65535)

unfoldable pub slot : Slot → List ℕ
slot (Slot.Row a p) = 0 ∷ u16 a ++ optional p
slot (Slot.Key a t) = 1 ∷ u16 a ++ u16 t
slot (Slot.Derived a) = 2 ∷ u16 a
slot (Slot.Field a p t) = 3 ∷ u16 a ++ path p ++ u16 t
slot (Slot.Value a t) = 4 ∷ u16 a ++ u16 t
slot (Slot.Const n) = 5 ∷ u16 n

unfoldable pub binding : Binding → List ℕ
binding b = u16 b.name ++ slot b.slot

unfoldable pub select : Select → List ℕ
select s = u16 s.address ++ path s.path ++ u32 s.disc

unfoldable pub diagnostic : Diagnostic → List ℕ
diagnostic d = u16 d.node ++ (code_number d.code ∷ [])

-- "the parts, each u8 0 text, 1 address and path, 2 address"
unfoldable pub part_key : SeekKeyPart → List ℕ
part_key (SeekKeyPart.Bytes bytes) = 0 ∷ text bytes
part_key (SeekKeyPart.RegisterField address at) = 1 ∷ u16 address ++ path at
part_key (SeekKeyPart.RegisterFactId address) = 2 ∷ u16 address

-- request [2]: "The node is a u16 after each such entry"
unfoldable pub part : Part → List ℕ
part p = part_key p.key ++ u16 p.node

-- "each u8 0 none, 1 exclusive, 2 inclusive, then its text unless none"
unfoldable pub inclusive : Bool → ℕ
inclusive false = 1
inclusive true = 2

unfoldable pub edge : Option RangeEdge → List ℕ
edge None = 0 ∷ []
edge (Some e) = inclusive e.inclusive ∷ text e.value

-- "u8 seek (0 Prefix, 1 Composite, 2 PrefixRange, 3 Bounded)", then what each holds
unfoldable pub seek : SeekKey → List ℕ
seek (SeekKey.Prefix bytes nodes) = 0 ∷ text bytes ++ concat_map u16 nodes
seek (SeekKey.Composite parts) = 1 ∷ concat_map part parts
seek (SeekKey.PrefixRange parts range) = 2 ∷ concat_map part parts ++ text range.prefix ++ path range.path ++ u16 range.node
seek (SeekKey.Bounded parts lo hi) = 3 ∷ concat_map part parts ++ edge lo ++ edge hi

-- "guide: u8 0, or 1, path, name, distance, anchor", then its node
unfoldable pub guide : Option Guide → List ℕ
guide None = 0 ∷ []
guide (Some g) = 1 ∷ path g.path ++ fuzzy g.term g.distance g.anchor ++ u16 g.node

-- "u8 op: 0 bytes, 1 prefix, 2 address and path, 3 address, 4 u32 disc, 5 name, distance, anchor"; request [8]: "Its op is 6, followed by
-- the other path"
unfoldable pub op : Narrowing → List ℕ
op (Narrowing.Bytes bytes) = 0 ∷ text bytes
op (Narrowing.Prefix bytes) = 1 ∷ text bytes
op (Narrowing.RegisterField address at) = 2 ∷ u16 address ++ path at
op (Narrowing.FactId address) = 3 ∷ u16 address
op (Narrowing.Tag disc) = 4 ∷ u32 disc
op (Narrowing.Fuzzy x distance a) = 5 ∷ fuzzy x distance a
op (Narrowing.OwnField at) = 6 ∷ path at

unfoldable pub residual : Residual → List ℕ
residual r = path r.path ++ op r.op ++ u16 r.node

unfoldable pub level_bytes : PlanLevel → List ℕ
level_bytes l =
    u16 l.narrowings ++ u16 l.closers ++ u16 l.parts ++ seek l.seek ++ guide l.guide ++ counted residual l.residuals ++
    counted u16 l.folded

unfoldable pub plan_bytes : Plan → List ℕ
plan_bytes p =
    counted level_bytes p.levels ++ counted binding p.bindings ++ counted u16 p.constrained ++ counted select p.selects ++
    counted diagnostic p.diagnostics

unfoldable pub open_plan : Unit {0}
unfolding plan_level plan_of plan u16 u32 counted text path anchor fuzzy optional slot binding select diagnostic part_key part inclusive edge
    seek guide op residual level_bytes plan_bytes
open_plan = tt
