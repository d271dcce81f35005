-- Request [1], the plan reader: a plan's bytes, front to back, as the `Plan` that `plan_bytes` writes; the rules of every level; the call.
-- The readers of Read.antt serve here as they are, and so do their numbers: 3 where a byte is wanted and none is left, 5 for a byte outside
-- its list, 7 for bytes left over. `numbered` turns these into a plan's: 16 for the first, 17 for the others.
use Rattle.std.specs.Prelude.{Bool, true, false, List, [], ◌∷◌, ℕ, ◌+◌, ◌-◌, min, leb, eqb, length, Option, None, Some}
use Rattle.rules.specs.Base.{both, all}
use Rattle.rules.specs.Limits.{plan_limit, step_limit}
use Rattle.rules.specs.File.{FieldPath, Slot, Binding}
use Rattle.rules.specs.Read.{Read, got, Reader, ◌>>=◌, pure, refuse, u8, u16, u32, many, kind, end}
use Rattle.rules.specs.Read.{anchor, row_slot, key_slot, derived_slot, value_slot, const_slot}
use Rattle.rules.specs.Lookup.{same_path}
use Rattle.rules.specs.Events.{Code, Select, Diagnostic, Narrowing}
use Rattle.rules.specs.Placement.{SeekKeyPart, Part, Residual, Guide, RangeEdge, SeekKey, joined}
use Rattle.rules.specs.Plan.{PlanLevel, Plan, plan_bytes}
use Rattle.rules.specs.Compile.{Outcome, Compiled, compiled}
use Rattle.rules.specs.Demand3.{number, seek_range, seek_edges}

-- "counts and folded indices are u16": a count, then as many
unfoldable pub counted : {A : Type 0} → Reader A → Reader (List A)
counted r = do
  n ← u16
  many n r

-- "text (u16 length, bytes)"
unfoldable pub text : Reader (List ℕ)
text = counted u8

-- 17: "a path has more steps than a path holds", met at the count, before its steps are read
unfoldable pub steps : ℕ → Reader (List ℕ)
steps n = elim (leb n step_limit) [ true ↦ many n u32 | false ↦ refuse 5 ]

-- "A path is u16 field, u8 step count, u32 steps."
unfoldable pub path : Reader FieldPath
path = do
  f ← u16
  n ← u8
  ss ← steps n
  pure (record { field = f; steps = ss })

-- "slots 0 to 5, as in the rule file"; a Field slot's path is a plan's
unfoldable pub field_slot : Reader Slot
field_slot = do
  a ← u16
  p ← path
  t ← u16
  pure (Slot.Field a p t)

unfoldable pub slot : Reader Slot
slot = kind (row_slot ∷ key_slot ∷ derived_slot ∷ field_slot ∷ value_slot ∷ const_slot ∷ [])

unfoldable pub binding : Reader Binding
binding = do
  x ← u16
  s ← slot
  pure (record { name = x; slot = s })

-- "selects (address, path, u32 disc)"
unfoldable pub select : Reader Select
select = do
  a ← u16
  p ← path
  d ← u32
  pure (record { address = a; path = p; disc = d })

-- 17: "a diagnostic's code 0 or above the last one"
unfoldable pub code : Reader Code
code =
    kind
    (refuse 5 ∷ pure Code.NyiDisjunction ∷ pure Code.NyiFactField ∷ pure Code.NyiNever ∷ pure Code.NyiRepeatedVariable ∷
    pure Code.NyiValueField ∷ pure Code.NyiValueMatch ∷ pure Code.NyiWholeKey ∷ pure Code.RejectTypeMismatch ∷
    pure Code.RejectUnionArity ∷ pure Code.RejectUnknownAlternative ∷ pure Code.RejectUnresolvedAccess ∷ [])

-- "diagnostics (node, u8 code)"
unfoldable pub diagnostic : Reader Diagnostic
diagnostic = do
  n ← u16
  c ← code
  pure (record { node = n; code = c })

-- "the parts, each u8 0 text, 1 address and path, 2 address"
unfoldable pub bytes_part : Reader SeekKeyPart
bytes_part = do
  bytes ← text
  pure (SeekKeyPart.Bytes bytes)

unfoldable pub register_part : Reader SeekKeyPart
register_part = do
  a ← u16
  p ← path
  pure (SeekKeyPart.RegisterField a p)

unfoldable pub fact_part : Reader SeekKeyPart
fact_part = do
  a ← u16
  pure (SeekKeyPart.RegisterFactId a)

unfoldable pub part_key : Reader SeekKeyPart
part_key = kind (bytes_part ∷ register_part ∷ fact_part ∷ [])

-- request [2]: "The node is a u16 after each such entry, and the plan reader of [1] reads it."
unfoldable pub part : Reader Part
part = do
  k ← part_key
  n ← u16
  pure (record { key = k; node = n })

-- "lo and hi, each u8 0 none, 1 exclusive, 2 inclusive, then its text unless none"
unfoldable pub edge_that : Bool → Reader (Option RangeEdge)
edge_that inclusive = do
  value ← text
  pure (Some (record { value = value; inclusive = inclusive }))

unfoldable pub edge : Reader (Option RangeEdge)
edge = kind (pure None ∷ edge_that false ∷ edge_that true ∷ [])

-- "u8 seek (0 Prefix, 1 Composite, 2 PrefixRange, 3 Bounded)", then what each holds. The parts have no second count: n is the level's.
-- "A Prefix seek has its parts' nodes after the joined text, one for each part, in order."
unfoldable pub prefix_seek : ℕ → Reader SeekKey
prefix_seek n = do
  bytes ← text
  nodes ← many n u16
  pure (SeekKey.Prefix bytes nodes)

unfoldable pub composite_seek : ℕ → Reader SeekKey
composite_seek n = do
  parts ← many n part
  pure (SeekKey.Composite parts)

unfoldable pub range_seek : ℕ → Reader SeekKey
range_seek n = do
  parts ← many n part
  prefix ← text
  p ← path
  node ← u16
  pure (SeekKey.PrefixRange parts (record { path = p; prefix = prefix; node = node }))

unfoldable pub bounded_seek : ℕ → Reader SeekKey
bounded_seek n = do
  parts ← many n part
  lo ← edge
  hi ← edge
  pure (SeekKey.Bounded parts lo hi)

unfoldable pub seek : ℕ → Reader SeekKey
seek n = kind (prefix_seek n ∷ composite_seek n ∷ range_seek n ∷ bounded_seek n ∷ [])

-- "guide: u8 0, or 1, path, name, distance, anchor", then its node
unfoldable pub guide_that : Reader (Option Guide)
guide_that = do
  p ← path
  x ← u16
  distance ← u8
  a ← anchor
  n ← u16
  pure (Some (record { path = p; term = x; distance = distance; anchor = a; node = n }))

unfoldable pub guide : Reader (Option Guide)
guide = kind (pure None ∷ guide_that ∷ [])

-- "u8 op: 0 bytes, 1 prefix, 2 address and path, 3 address, 4 u32 disc, 5 name, distance, anchor", and request [8]'s 6, a path
unfoldable pub bytes_op : Reader Narrowing
bytes_op = do
  bytes ← text
  pure (Narrowing.Bytes bytes)

unfoldable pub prefix_op : Reader Narrowing
prefix_op = do
  bytes ← text
  pure (Narrowing.Prefix bytes)

unfoldable pub register_op : Reader Narrowing
register_op = do
  a ← u16
  p ← path
  pure (Narrowing.RegisterField a p)

unfoldable pub fact_op : Reader Narrowing
fact_op = do
  a ← u16
  pure (Narrowing.FactId a)

unfoldable pub tag_op : Reader Narrowing
tag_op = do
  d ← u32
  pure (Narrowing.Tag d)

unfoldable pub fuzzy_op : Reader Narrowing
fuzzy_op = do
  x ← u16
  distance ← u8
  a ← anchor
  pure (Narrowing.Fuzzy x distance a)

unfoldable pub own_op : Reader Narrowing
own_op = do
  p ← path
  pure (Narrowing.OwnField p)

unfoldable pub op : Reader Narrowing
op = kind (bytes_op ∷ prefix_op ∷ register_op ∷ fact_op ∷ tag_op ∷ fuzzy_op ∷ own_op ∷ [])

-- "Residuals, counted: path, u8 op"
unfoldable pub residual : Reader Residual
residual = do
  p ← path
  o ← op
  n ← u16
  pure (record { path = p; op = o; node = n })

-- "each: narrowings, closers that became parts, parts, u8 seek .. Then guide .. Residuals, counted .. Folded, counted."
unfoldable pub level : Reader PlanLevel
level = do
  ns ← u16
  cs ← u16
  ps ← u16
  s ← seek ps
  g ← guide
  rs ← counted residual
  fs ← counted u16
  pure (record { narrowings = ns; closers = cs; parts = ps; seek = s; guide = g; residuals = rs; folded = fs })

-- "After all levels, counted: new bindings, constrained names, selects .., diagnostics"; then the plan's bytes end
unfoldable pub plan : Reader Plan
plan = do
  ls ← counted level
  bs ← counted binding
  ks ← counted u16
  ss ← counted select
  ds ← counted diagnostic
  end (record { levels = ls; bindings = bs; constrained = ks; selects = ss; diagnostics = ds })

-- 16 "when the plan ends early"; 17 "when a byte has no meaning, a path has more steps than a path holds, or bytes are left over"
unfoldable pub numbered : {A : Type 0} → Read A → Read A
numbered (got a rest) = got a rest
numbered (Read.refused n) = elim (eqb n 3) [ true ↦ Read.refused 16 | false ↦ Read.refused 17 ]

-- "whichever of 16 and 17 is met first"
unfoldable pub read : Reader Plan
read bytes = numbered (plan bytes)

-- The rules of 18, each a test of one level.

-- "closers at most parts"
unfoldable pub closers_among_parts : PlanLevel → Bool
closers_among_parts l = leb l.closers l.parts

-- "demand 3's sum": narrowings = parts - closers + residuals + ranges + guides
unfoldable pub narrowings_sum : PlanLevel → Bool
narrowings_sum l = eqb l.narrowings (l.parts - l.closers + length l.residuals + number (seek_range l.seek) + number l.guide)

-- edges = folded, by number
unfoldable pub edges_folded : PlanLevel → Bool
edges_folded l = eqb (seek_edges l.seek) (length l.folded)

-- What a seek of each kind asks besides. Composite: "only where some part isn't bytes". PrefixRange: a guide has the range's path.
-- Bounded: "has an edge if Bounded", and an edge excludes a guide.
unfoldable pub seek_keeps : SeekKey → Option Guide → Bool
seek_keeps (SeekKey.Prefix bytes nodes) g = true
seek_keeps (SeekKey.Composite parts) g = elim (joined parts) [ None ↦ true | Some bytes ↦ false ]
seek_keeps (SeekKey.PrefixRange parts range) g = elim g [ None ↦ true | Some guide' ↦ same_path guide'.path range.path ]
seek_keeps (SeekKey.Bounded parts lo hi) g = both (leb 1 (number lo + number hi)) (eqb (number g) 0)

unfoldable pub level_rules : PlanLevel → Bool
level_rules l = both (closers_among_parts l) (both (narrowings_sum l) (both (edges_folded l) (seek_keeps l.seek l.guide)))

-- The call.

-- "15 comes first", 16, 17 and 18: the numbers of its refusals
abbrev pub reader_refusals : List ℕ
reader_refusals = 15 ∷ 16 ∷ 17 ∷ 18 ∷ []

-- 18: "when a level breaks one of those rules, checked last"; what is accepted is written back
unfoldable pub judged : Plan → Outcome
judged p = elim (all level_rules p.levels) [ true ↦ Outcome.planned (plan_bytes p) | false ↦ Outcome.refused 18 ]

unfoldable pub finished : Read Plan → Outcome
finished (got p rest) = judged p
finished (Read.refused n) = Outcome.refused n

-- "15 comes first", by the lengths alone: "a plan above 16,384 bytes or, written back, longer than its buffer"
unfoldable pub outcome : List ℕ → ℕ → Outcome
outcome bytes room = elim (leb (length bytes) (min plan_limit room)) [ true ↦ finished (read bytes) | false ↦ Outcome.refused 15 ]

-- the call on three slices: plan, output, work area; it "returns number and length, and zeroes work area and output, as the engine's does"
unfoldable pub read_back : List ℕ → List ℕ → List ℕ → Compiled
read_back bytes out work = compiled (outcome bytes (length out)) (length out) (length work)

unfoldable pub open_reader : Unit {0}
unfolding
    counted text steps path field_slot slot binding select code diagnostic bytes_part register_part fact_part part_key part edge_that edge
    prefix_seek composite_seek range_seek bounded_seek seek guide_that guide bytes_op prefix_op register_op fact_op tag_op fuzzy_op own_op op
    residual level plan numbered read closers_among_parts narrowings_sum edges_folded seek_keeps level_rules judged
    finished outcome read_back
open_reader = tt
