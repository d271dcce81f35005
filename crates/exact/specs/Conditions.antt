-- Request [10]'s conditions on a file, on a key and on what the engine holds.
use Rattle.std.specs.Prelude.{Bool, true, false, List, [], ◌∷◌, ◌≡◌, ℕ, get_or, Option, None, Some}
use Rattle.rules.specs.Base.{Each, both, all}
use Rattle.rules.specs.File.{Tables, FieldTy, Ty, Node, Binding, LevelEntry, node_at, record_ty}
use Rattle.rules.specs.Checks.{checks, fault}
use Rattle.rules.specs.Constant.{lookup}
use Rattle.rules.specs.Events.{Lists}
use Rattle.rules.specs.Levels.{level, levels, starting, any_mistyped}
use Rattle.rules.specs.Placement.{SeekKeyPart, Part, SeekKey}
use Rattle.rules.specs.Plan.{PlanLevel, Plan, plan}
use Rattle.rules.specs.Demand3.{Demand3}
use Rattle.exact.specs.Values.{Value, encode, OfType}
use Rattle.exact.specs.Keys.{Engine}
use Rattle.exact.specs.Matcher.{key_type}

-- "whose constraints are all prefixes or fuzzies"
unfoldable pub is_text : Node → Bool
is_text (Node.Int bytes) = false
is_text (Node.Str x) = false
is_text (Node.Bytes bytes) = false
is_text (Node.Var x) = false
is_text Node.Wildcard = false
is_text Node.Never = false
is_text (Node.Prefix x) = true
is_text (Node.Fuzzy x d a) = true
is_text (Node.Record fs) = false
is_text (Node.Access x n) = false
is_text (Node.Value n) = false
is_text (Node.Select x n) = false
is_text Node.Disjunction = false
is_text Node.Subquery = false
is_text (Node.Fact p n) = false
is_text Node.Arith = false
is_text Node.Error = false

unfoldable pub constraints_are_texts : Tables → Bool
constraints_are_texts T = all (λ k. is_text (node_at T k.node)) T.constraints

-- "whose levels' own nodes are records, wildcards or names (new ones where the key is a record)"
unfoldable pub is_new : Option (List FieldTy) → List Binding → ℕ → Bool
is_new None bound x = true
is_new (Some fs) bound x = elim (lookup bound x) [ None ↦ true | Some slot ↦ false ]

unfoldable pub is_own : Node → Ty → List Binding → Bool
is_own (Node.Int bytes) ty bound = false
is_own (Node.Str x) ty bound = false
is_own (Node.Bytes bytes) ty bound = false
is_own (Node.Var x) ty bound = is_new (record_ty ty) bound x
is_own Node.Wildcard ty bound = true
is_own Node.Never ty bound = false
is_own (Node.Prefix x) ty bound = false
is_own (Node.Fuzzy x d a) ty bound = false
is_own (Node.Record fs) ty bound = true
is_own (Node.Access x n) ty bound = false
is_own (Node.Value n) ty bound = false
is_own (Node.Select x n) ty bound = false
is_own Node.Disjunction ty bound = false
is_own Node.Subquery ty bound = false
is_own (Node.Fact p n) ty bound = false
is_own Node.Arith ty bound = false
is_own Node.Error ty bound = false

-- of each level, with the bindings that it starts from
unfoldable pub own_nodes : Tables → Lists → List LevelEntry → Bool
own_nodes T start [] = true
own_nodes T start (l ∷ ls) = both (is_own (node_at T l.node) (key_type T l) start.bindings) (own_nodes T (level T l start).left ls)

-- "an accepted file without diagnostics": it passed the checks 8 to 14, and no level's walk brings a constant to a type that gives it no
-- bytes, which is refusal 19. 02 asks for no selects too; nothing here needs that.
pub record Plain (T : Tables) : Type 0 where
  pub accepted : fault checks T ≡ None
  pub typed : any_mistyped (levels T) ≡ false
  pub no-diagnostics : (plan T).diagnostics ≡ []
  pub texts : constraints_are_texts T ≡ true
  pub own : own_nodes T (starting T) T.levels ≡ true

-- The same of a call that wrote a plan: `Demand3` is what the exported function's contract gives of the file's bytes and the plan's, and
-- it says that the file was accepted.
pub record PlainPlan (bytes out : List ℕ) (d : Demand3 bytes out) : Type 0 where
  pub no-diagnostics : d.plan.diagnostics ≡ []
  pub texts : constraints_are_texts d.tables ≡ true
  pub own : own_nodes d.tables (starting d.tables) d.tables.levels ≡ true

-- level k of a plan; the last argument of `get_or` is never met
unfoldable pub plan_level_at : Plan → ℕ → PlanLevel
plan_level_at p k =
    get_or p.levels k
    (record { narrowings = 0; closers = 0; parts = 0; seek = SeekKey.Prefix [] []; guide = None; residuals = []; folded = [] })

-- "for registers that hold an encoded value at every path read": of the parts that are read from registers, the encoding of a value of some
-- type. Registers that residuals read may hold anything.
abbrev pub HoldsValue : Tables → Engine → SeekKeyPart → Type 0
HoldsValue T engine (SeekKeyPart.Bytes bytes) = Unit {0}
HoldsValue T engine (SeekKeyPart.RegisterField address at) =
    (v : Value) × (ty : Ty) × OfType T v ty × (engine.fields address at ≡ encode v)
HoldsValue T engine (SeekKeyPart.RegisterFactId address) = Unit {0}

abbrev pub HoldsValues : Tables → Engine → SeekKey → Type 0
HoldsValues T engine (SeekKey.Prefix bytes nodes) = Unit {0}
HoldsValues T engine (SeekKey.Composite parts) = Each (λ (p : Part). HoldsValue T engine p.key) parts
HoldsValues T engine (SeekKey.PrefixRange parts range) = Each (λ (p : Part). HoldsValue T engine p.key) parts
HoldsValues T engine (SeekKey.Bounded parts lo hi) = Each (λ (p : Part). HoldsValue T engine p.key) parts

unfoldable pub open_conditions : Unit {0}
unfolding is_text constraints_are_texts is_new is_own own_nodes plan_level_at
open_conditions = tt
