-- The walk's operations on that memory: each appends to a run, changes the level, or writes a part or residual at its place in the plan.
use Rattle.std.specs.Prelude.{Bool, true, false, List, [], ◌++◌, ℕ, ◌+◌, ◌-◌, ◌*◌, length, leb, Option, None, Some}
use Rattle.std.proofs.lemmas.List.Edits.{sets}
use Rattle.rules.specs.Base.{both}
use Rattle.rules.specs.File.{Tables, FieldPath, Slot, Anchor, depth}
use Rattle.rules.specs.Limits.{depth_limit}
use Rattle.rules.specs.Checks.{is_type, is_predicate, none_or}
use Rattle.rules.specs.Constant.{lookup, constant, union_tag, term}
use Rattle.rules.specs.Events.{Code, Narrowing, Ops}
use Rattle.rules.specs.Placement.{SeekKeyPart, Part, Guide, Edges, range_at, fold_from}
use Rattle.rules.specs.Plan as Plan
use Rattle.state.specs.State.{Ends, ends, Counts, counts, Level, Target, State, state, stop, unless, noted, made_slot, fits}

-- A record at a place of the work area, if there is room for it, with what else is noted there, and the ends with its list's moved.
unfoldable pub stored : Bool → ℕ → List ℕ → (List ℕ → List ℕ) → Ends → State → State
stored room at bytes also moved s =
    elim room [
      | true ↦ state s.over moved s.level s.target (also (sets s.work at bytes)) s.plan
      | false ↦ stop s
    ]

-- At the end of a list that grows up: where the list ends, how far the run's other list has come down, the record, what else is noted.
unfoldable pub append : ℕ → ℕ → List ℕ → (List ℕ → List ℕ) → (ℕ → Ends) → State → State
append at limit bytes also move s = stored (leb (at + length bytes) limit) at bytes also (move (at + length bytes)) s

-- Before the newest record of a list that grows down: where that begins, where the run's other list ends, the record.
unfoldable pub append_down : ℕ → ℕ → List ℕ → (ℕ → Ends) → State → State
append_down at limit bytes move s =
    stored (leb (limit + length bytes) at) (at - length bytes) bytes (λ work. work) (move (at - length bytes)) s

-- a record of a list that is counted; its count stays below what its field holds, as it does in every run that has room
unfoldable pub append_counted : ℕ → ℕ → ℕ → List ℕ → (List ℕ → List ℕ) → (ℕ → Ends) → State → State
append_counted count at limit bytes also move s =
    elim (leb count 65534) [ true ↦ append at limit bytes also move s | false ↦ stop s ]

unfoldable pub bind : ℕ → Slot → State → State
bind x slot s =
    let e = s.ends in
    unless (append_counted e.binding_count e.bindings e.constrained (Plan.binding (record { name = x; slot = slot }))
    (noted x e.binding_count e.bindings)
    (λ end. ends end (e.binding_count + 1) e.constrained e.selects e.select_count e.diagnostics)) s

unfoldable pub constrained : ℕ → State → State
constrained x s =
    let e = s.ends in
    unless (append_down e.constrained e.bindings (Plan.u16 x)
    (λ end. ends e.bindings e.binding_count end e.selects e.select_count e.diagnostics)) s

unfoldable pub select : ℕ → FieldPath → ℕ → State → State
select address path disc s =
    let e = s.ends in
    let form = Plan.select (record { address = address; path = path; disc = disc }) in
    unless (append_counted e.select_count e.selects e.diagnostics form (λ work. work)
    (λ end. ends e.bindings e.binding_count e.constrained end (e.select_count + 1) e.diagnostics)) s

unfoldable pub report : ℕ → Code → State → State
report n code s =
    let e = s.ends in
    unless (append_down e.diagnostics e.selects (Plan.diagnostic (record { node = n; code = code }))
    (λ end. ends e.bindings e.binding_count e.constrained e.selects e.select_count end)) s

-- The level with other counts, or without building.
unfoldable pub recount : Counts → Level → Level
recount c l = record { building = l.building; plain = l.plain; counts = c; guide = l.guide; range = l.range; edges = l.edges }

unfoldable pub fall : Level → Level
fall l = record { building = false; plain = l.plain; counts = l.counts; guide = l.guide; range = l.range; edges = l.edges }

-- the level another, nothing written
unfoldable pub relevel : (Level → Level) → State → State
relevel f s = state s.over s.ends (f s.level) s.target s.work s.plan

-- one narrowing more
unfoldable pub narrowed : Counts → Counts
narrowed c = counts (c.narrowings + 1) c.closers c.parts c.residuals c.joined c.parted c.rest

-- the level changed, and the plan with it; unless the level has grown too long
unfoldable pub grow : Level → (List ℕ → List ℕ) → State → State
grow l write s =
    elim (fits l) [
      | true ↦ state s.over s.ends l s.target s.work (write s.plan)
      | false ↦ stop s
    ]

-- an entry without its node at one place of the plan, its node at another
unfoldable pub put_made : ℕ → List ℕ → ℕ → ℕ → List ℕ → List ℕ
put_made at form node_at node plan = sets (sets plan node_at (Plan.u16 node)) at form

-- A part: what it joins to the others, whether it is bytes, and its plan form.
unfoldable pub part_text : SeekKeyPart → List ℕ
part_text (SeekKeyPart.Bytes bytes) = bytes
part_text (SeekKeyPart.RegisterField address path) = []
part_text (SeekKeyPart.RegisterFactId address) = []

unfoldable pub is_bytes : SeekKeyPart → Bool
is_bytes (SeekKeyPart.Bytes bytes) = true
is_bytes (SeekKeyPart.RegisterField address path) = false
is_bytes (SeekKeyPart.RegisterFactId address) = false

unfoldable pub with_part : SeekKeyPart → Counts → Level → Level
with_part key c l =
    record {
      building = l.building;
      plain = both l.plain (is_bytes key);
      counts = counts c.narrowings c.closers (c.parts + 1) c.residuals
          (c.joined + length (part_text key)) (c.parted + (length (Plan.part_key key) + 2)) c.rest;
      guide = l.guide;
      range = l.range;
      edges = l.edges;
    }

-- where the next part is written, as what, and where its node: behind it, or with the others' behind the joined text
unfoldable pub part_at : Target → Counts → ℕ
part_at t c = t.parts_at + (elim t.joining [ true ↦ c.joined | false ↦ c.parted ])

unfoldable pub part_form : Target → SeekKeyPart → List ℕ
part_form t key = elim t.joining [ true ↦ part_text key | false ↦ Plan.part_key key ]

unfoldable pub node_at : Target → Counts → SeekKeyPart → ℕ
node_at t c key = elim t.joining [ true ↦ t.nodes_at + 2 * c.parts | false ↦ t.parts_at + c.parted + length (Plan.part_key key) ]

-- the plan with a part more, of a level with these counts
unfoldable pub part_put : Target → Counts → Part → List ℕ → List ℕ
part_put t c p plan = put_made (part_at t c) (part_form t p.key) (node_at t c p.key) p.node plan

-- a part that n made; c are the counts that it is added to
unfoldable pub put_part : ℕ → SeekKeyPart → Counts → State → State
put_part n key c s = grow (with_part key c s.level) (part_put s.target s.level.counts (record { key = key; node = n })) s

-- A residual, at its place.
unfoldable pub put_residual : ℕ → FieldPath → Narrowing → State → State
put_residual n path op s =
    let form = Plan.path path ++ Plan.op op in
    let c = s.level.counts in
    let at = s.target.rest_at + c.rest in
    let rest = c.rest + (length form + 2) in
    let after = counts (c.narrowings + 1) c.closers c.parts (c.residuals + 1) c.joined c.parted rest in
    grow (recount after s.level) (put_made at form (at + length form) n) s

-- "The first four: a part while building .., else a residual."
unfoldable pub narrow_part : ℕ → SeekKeyPart → FieldPath → Narrowing → State → State
narrow_part n key path op s =
    elim s.level.building [ true ↦ put_part n key (narrowed s.level.counts) s | false ↦ put_residual n path op s ]

-- "Prefix: while building it becomes the range, and building falls; else a residual."
unfoldable pub with_range : ℕ → FieldPath → List ℕ → Level → Level
with_range n path prefix l =
    record {
      building = false;
      plain = l.plain;
      counts = narrowed l.counts;
      guide = l.guide;
      range = Some (record { path = path; prefix = prefix; node = n });
      edges = l.edges;
    }

unfoldable pub narrow_prefix : ℕ → FieldPath → List ℕ → State → State
narrow_prefix n path prefix s =
    elim s.level.building [
      | true ↦ grow (with_range n path prefix s.level) (λ plan. plan) s
      | false ↦ put_residual n path (Narrowing.Prefix prefix) s
    ]

-- "Fuzzy: the guide, if none is set and either building holds or a range has the equal path; building falls. Else a residual."
unfoldable pub attachable : Level → FieldPath → Bool
attachable l path = elim l.guide [ Some guide ↦ false | None ↦ elim l.building [ true ↦ true | false ↦ range_at l.range path ] ]

unfoldable pub with_guide : Guide → Level → Level
with_guide guide l =
    record {
      building = false;
      plain = l.plain;
      counts = narrowed l.counts;
      guide = Some guide;
      range = l.range;
      edges = l.edges;
    }

unfoldable pub narrow_fuzzy : ℕ → FieldPath → ℕ → ℕ → Anchor → State → State
narrow_fuzzy n path x distance anchor s =
    let guide : Guide = record { path = path; term = x; distance = distance; anchor = anchor; node = n } in
    elim (attachable s.level path) [
      | true ↦ grow (with_guide guide s.level) (λ plan. plan) s
      | false ↦ put_residual n path (Narrowing.Fuzzy x distance anchor) s
    ]

-- Request [8]: a field of the level's own row is "always .. a residual, and building falls there". It falls first: a level that builds has
-- no residual.
unfoldable pub narrow_own : ℕ → FieldPath → FieldPath → State → State
narrow_own n path at s = put_residual n path (Narrowing.OwnField at) (relevel fall s)

unfoldable pub narrowing : ℕ → FieldPath → Narrowing → State → State
narrowing n path (Narrowing.Bytes bytes) s = narrow_part n (SeekKeyPart.Bytes bytes) path (Narrowing.Bytes bytes) s
narrowing n path (Narrowing.Tag disc) s = narrow_part n (SeekKeyPart.Bytes (union_tag disc)) path (Narrowing.Tag disc) s
narrowing n path (Narrowing.RegisterField address at) s =
    narrow_part n (SeekKeyPart.RegisterField address at) path (Narrowing.RegisterField address at) s
narrowing n path (Narrowing.FactId address) s = narrow_part n (SeekKeyPart.RegisterFactId address) path (Narrowing.FactId address) s
narrowing n path (Narrowing.Prefix prefix) s = narrow_prefix n path prefix s
narrowing n path (Narrowing.Fuzzy x distance anchor) s = narrow_fuzzy n path x distance anchor s
narrowing n path (Narrowing.OwnField at) s = narrow_own n path at s

unfoldable pub narrow : ℕ → FieldPath → Narrowing → State → State
narrow n path x s = unless (narrowing n path x) s

unfoldable pub skip : State → State
skip s = unless (relevel fall) s

-- Closer: one part of byte 00 while building, else nothing.
unfoldable pub closed : Counts → Counts
closed c = counts c.narrowings (c.closers + 1) c.parts c.residuals c.joined c.parted c.rest

unfoldable pub close : ℕ → State → State
close n s = elim s.level.building [ true ↦ put_part n (SeekKeyPart.Bytes term) (closed s.level.counts) s | false ↦ s ]

unfoldable pub closer : ℕ → State → State
closer n s = unless (close n) s

-- "Bound: while building, the comparisons .."
unfoldable pub with_edges : Edges → Level → Level
with_edges edges l =
    record {
      building = l.building;
      plain = l.plain;
      counts = l.counts;
      guide = l.guide;
      range = l.range;
      edges = edges;
    }

unfoldable pub bound_level : Tables → ℕ → ℕ → Level → Level
bound_level T x t l = elim l.building [ true ↦ with_edges (fold_from T x t 0 T.comparisons l.edges) l | false ↦ l ]

unfoldable pub bound : Tables → ℕ → ℕ → State → State
bound T x t s = unless (relevel (bound_level T x t)) s

-- A slot that the tables have room for: its predicate and its type are the file's, and its path goes on below the step limit. Every slot
-- that a walk binds is one, so nothing is ever dropped here; the test spares a claim about the work area's content.
unfoldable pub roomy : Tables → Slot → Bool
roomy T (Slot.Row a p) = none_or (is_predicate T) p
roomy T (Slot.Key a t) = is_type T t
roomy T (Slot.Derived a) = true
roomy T (Slot.Field a p t) = both (is_type T t) (leb (length p.steps + depth T t) depth_limit)
roomy T (Slot.Value a t) = true
roomy T (Slot.Const n) = true

unfoldable pub checked_slot : Tables → Option Slot → Option Slot
checked_slot T None = None
checked_slot T (Some slot) = elim (roomy T slot) [ true ↦ Some slot | false ↦ None ]

-- what is there, or else another
abbrev pub or_else : Option Slot → Option Slot → Option Slot
or_else None other = other
or_else (Some slot) other = Some slot

-- a name's slot: the walks' own, or else the file's
unfoldable pub bound_slot : Tables → State → ℕ → Option Slot
bound_slot T s x = or_else (made_slot s.work s.ends.binding_count x) (lookup T.bindings x)

-- `constant` needs the file's bindings alone (rules, proofs/Consts.antt). `brings` notes nothing: what it would note hangs on the tables
-- alone, and is decided before any level is walked (rules, proofs/Literals.antt).
abbrev pub ops : Tables → Ops State
ops T =
    record {
      lookup = λ s x. checked_slot T (bound_slot T s x);
      constant = λ s n t. constant T n t;
      reported = λ s. s.ends.diagnostics;
      bind = bind;
      constrained = constrained;
      select = select;
      report = report;
      narrow = narrow;
      skip = skip;
      closer = closer;
      bound = bound T;
      brings = λ slot ty s. s;
    }

unfoldable pub open_ops : Unit {0}
unfolding stored append append_down append_counted bind constrained select report recount fall relevel narrowed grow put_made part_text
    is_bytes with_part part_at part_form node_at part_put put_part put_residual narrow_part with_range narrow_prefix attachable with_guide
    narrow_fuzzy narrow_own narrowing narrow skip closed close closer with_edges bound_level bound roomy checked_slot bound_slot
open_ops = tt
