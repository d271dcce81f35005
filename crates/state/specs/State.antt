-- What the compiler keeps while it walks: the four lists as records in the work area, a level as counts and sizes, and where its bytes go
-- in the plan.
use Rattle.std.specs.Prelude.{Bool, true, false, List, [], ◌++◌, ℕ, zero, suc, ◌+◌, ◌-◌, ◌*◌, ◌%◌, get_or, drop, eqb, ltb, leb, Option, None, Some}
use Rattle.std.proofs.lemmas.List.Edits.{sets}
use Rattle.std.proofs.Math.Seq.{slice}
use Rattle.rules.specs.Base.{both}
use Rattle.rules.specs.Limits.{plan_limit, name_limit}
use Rattle.rules.specs.File.{Slot, Binding}
use Rattle.rules.specs.Read as Read
use Rattle.rules.specs.Plan as Plan
use Rattle.rules.specs.Placement.{Guide, Range, Edges}

-- Where the four lists begin in the work area. Two runs hold them, each as long as a plan may be, and the two lists of a run grow towards
-- each other: bindings up and constrained names down in the first, selects up and diagnostics down in the second. Where two lists would
-- meet, they do not fit a plan.
abbrev pub bindings_at : ℕ
bindings_at = 0

abbrev pub constrained_at : ℕ
constrained_at = 16384

abbrev pub selects_at : ℕ
selects_at = 16384

abbrev pub diagnostics_at : ℕ
diagnostics_at = 32768

-- Past the runs two tables of two-byte words tell where a name was bound: for each name the number of its binding among those that the
-- walks have made, and for each of these where its record begins. An entry counts only if it is the number of a binding, and the record
-- that it leads to has the name. So the tables may hold anything at first, and nothing is cleared where lists go back to what they were.
abbrev pub names_at : ℕ
names_at = 32768

abbrev pub places_at : ℕ
places_at = 33792

-- where the tables have a name's entry, and the n-th binding's
unfoldable pub number_at : ℕ → ℕ
number_at x = names_at + 2 * (x % name_limit)

unfoldable pub place_at : ℕ → ℕ
place_at n = places_at + 2 * n

-- the word at p, its lower byte first; past the end bytes are 0
unfoldable pub word_in : List ℕ → ℕ → ℕ
word_in bytes p = get_or bytes p 0 + 256 * get_or bytes (p + 1) 0

-- the work area after the n-th binding was noted: of the name x, with its record at `at`
unfoldable pub noted : ℕ → ℕ → ℕ → List ℕ → List ℕ
noted x n at work = sets (sets work (number_at x) (Plan.u16 n)) (place_at n) (Plan.u16 at)

-- How far each list has come in the work area: where one that grows up ends, where the newest record of one that grows down begins; of the
-- two lists whose records differ in length also how many there are.
pub record Ends : Type 0 where
  pub bindings : ℕ
  pub binding_count : ℕ
  pub constrained : ℕ
  pub selects : ℕ
  pub select_count : ℕ
  pub diagnostics : ℕ

abbrev pub ends : ℕ → ℕ → ℕ → ℕ → ℕ → ℕ → Ends
ends b bs c s ss d = record { bindings = b; binding_count = bs; constrained = c; selects = s; select_count = ss; diagnostics = d }

-- no record in any list
unfoldable pub no_ends : Ends
no_ends = ends bindings_at 0 constrained_at selects_at 0 diagnostics_at

-- Counts of a level's narrowings, closers that became parts, parts and residuals; the bytes of its parts' texts joined, of its parts in
-- plan form, and of its residuals in plan form.
pub record Counts : Type 0 where
  pub narrowings : ℕ
  pub closers : ℕ
  pub parts : ℕ
  pub residuals : ℕ
  pub joined : ℕ
  pub parted : ℕ
  pub rest : ℕ

abbrev pub counts : ℕ → ℕ → ℕ → ℕ → ℕ → ℕ → ℕ → Counts
counts n c p r j q s = record { narrowings = n; closers = c; parts = p; residuals = r; joined = j; parted = q; rest = s }

-- plain: all parts are bytes
pub record Level : Type 0 where
  pub building : Bool
  pub plain : Bool
  pub counts : Counts
  pub guide : Option Guide
  pub range : Option Range
  pub edges : Edges

-- "A level starts building, with nothing set."
unfoldable pub new_level : Level
new_level =
    record {
      building = true;
      plain = true;
      counts = counts 0 0 0 0 0 0 0;
      guide = None;
      range = None;
      edges = record { lo = None; hi = None; folded = [] };
    }

-- Whether a level's parts are joined; where in what its walk writes to its parts, their nodes if the parts are joined, and its residuals
-- begin.
pub record Target : Type 0 where
  pub joining : Bool
  pub parts_at : ℕ
  pub nodes_at : ℕ
  pub rest_at : ℕ

-- between levels
unfoldable pub no_target : Target
no_target = record { joining = false; parts_at = 0; nodes_at = 0; rest_at = 0 }

-- over: the plan is too long, and nothing changes any more
pub record State : Type 0 where
  pub over : Bool
  pub ends : Ends
  pub level : Level
  pub target : Target
  pub work : List ℕ
  pub plan : List ℕ

abbrev pub state : Bool → Ends → Level → Target → List ℕ → List ℕ → State
state o e l t w p = record { over = o; ends = e; level = l; target = t; work = w; plan = p }

unfoldable pub stop : State → State
stop s = state true s.ends s.level s.target s.work s.plan

-- a change, unless the plan is too long already
unfoldable pub unless : (State → State) → State → State
unless f s = elim s.over [ true ↦ s | false ↦ f s ]

-- the slot of a binding that was read, if it has the name
unfoldable pub slot_named : ℕ → Read.Read Binding → Option Slot
slot_named x (Read.got b rest) = elim (eqb b.name x) [ true ↦ Some b.slot | false ↦ None ]
slot_named x (Read.refused k) = None

-- the slot that the walks have bound a name to, by the tables; `count` is how many bindings they have made
unfoldable pub made_slot : List ℕ → ℕ → ℕ → Option Slot
made_slot work count x =
    let n = word_in work (number_at x) in
    elim (ltb n count) [ true ↦ slot_named x (Read.binding (drop (word_in work (place_at n)) work)) | false ↦ None ]

-- The first n records of a list that grew down from `top`, each of `width` bytes.
unfoldable pub backwards : ℕ → ℕ → ℕ → List ℕ → List ℕ
backwards width zero top work = []
backwards width (suc n) top work = slice (top - width) top work ++ backwards width n (top - width) work

-- how long parts are that are joined: their text, and a node of two bytes for each
unfoldable pub joined_bytes : Counts → ℕ
joined_bytes c = c.joined + 2 * c.parts

-- Sizes: a level is too long where its parts, joined while all are bytes, and its residuals are longer than a plan. The other numbers are
-- kept below what their fields hold; past that the plan is too long too, since each of what they count has a byte of its own.
unfoldable pub part_bytes : Level → ℕ
part_bytes l = elim l.plain [ true ↦ joined_bytes l.counts | false ↦ l.counts.parted ]

unfoldable pub fits : Level → Bool
fits l =
    both (leb (part_bytes l + l.counts.rest) plan_limit)
    (both (leb l.counts.parted 65536)
    (both (leb l.counts.narrowings 65535)
    (both (leb l.counts.parts 65535) (leb l.counts.residuals 65535))))

unfoldable pub open_state : Unit {0}
unfolding number_at place_at word_in noted no_ends new_level no_target stop unless slot_named made_slot backwards joined_bytes part_bytes fits
open_state = tt
