-- "No fact is skipped", of every level of an accepted file that meets the conditions.
use mathlib.Core.Bool.{true, false}
use mathlib.Core.List.{List, [], ◌∷◌}
use Rattle.std.specs.Prelude.{Some}
use mathlib.Core.Path.{◌≡◌, refl, sym, ◌∙◌, subst}
use Prim.Native.Nat.{ℕ, zero, suc, ◌<◌}
use native.Mathlib.Nat.{not-suc-le-zero, le_of_suc-le-suc}
use lib.ListN.{length, get_or}
use Rattle.rules.specs.Base.{Each, done, more}
use Rattle.rules.specs.File.{Tables, Ty, Node, FieldTy, Binding, Constraint, LevelEntry, type_at, node_at, predicate_at}
use Rattle.rules.specs.Events.{Lists}
use Rattle.rules.specs.Walk.{fresh_walk, walk_level}
use Rattle.rules.specs.Levels.{Level, starting, level_of, level, levels_from, levels, left_by, any_mistyped}
use Rattle.rules.specs.Plan.{plan_level, plan_of, plan}
use Rattle.rules.specs.Demand3.{entry_at, level_at, start_of}
use Rattle.rules.proofs.Cases.{true≢false, both_left, both_right}
use Rattle.rules.proofs.Each.{each-passes, each-imply}
use Rattle.rules.specs.Constant.{const_bound}
use Rattle.exact.specs.Values.{Value, Values, ◌and◌, OfType, OfTypes}
use Rattle.exact.specs.Keys.{Engine}
use Rattle.exact.specs.Passes.{passes}
use Rattle.exact.specs.Matcher.{key_type, matches}
use Rattle.exact.specs.Conditions.{is_text, constraints_are_texts, is_own, own_nodes, Plain}
use Rattle.exact.specs.Placings.{placed_by, level_by, placement}
use Rattle.exact.specs.Claims.{planned, key_type_of, bound_before, Matches, Passes, NoFactSkipped}
use Rattle.exact.proofs.Ends.{Whole, WholeAll}
use Rattle.exact.proofs.Placing.{ready-new}
use Rattle.exact.proofs.Quiet.{Clean}
use Rattle.exact.proofs.Grows.{Grows, either_left, either-right}
use Rattle.exact.proofs.Names.{IsText}
use Rattle.exact.proofs.Level.{GoesKey, goes-key}
use Rattle.exact.proofs.Planned.{level-passes}

-- a value of a type has Ints of eight bytes
mutual
  pub whole : (T : Tables) (v : Value) (ty : Ty) → OfType T v ty → Whole v
  whole T (Value.Int bytes) ty h = h.1
  whole T (Value.Str text) ty h = tt
  whole T (Value.Bytes bytes) ty h = tt
  whole T (Value.Fact id) ty h = tt
  whole T (Value.Rec fields) ty h = whole-all T fields h.0 h.2
  whole T (Value.Uni disc v) ty h = whole T v (type_at T h.1.type) h.4

  pub whole-all : (T : Tables) (vs : Values) (fs : List FieldTy) → OfTypes T vs fs → WholeAll vs
  whole-all T Values.no_more [] h = tt
  whole-all T Values.no_more (f ∷ fs) h = tt
  whole-all T (v and vs) [] h = absurd h
  whole-all T (v and vs) (f ∷ fs) h = (whole T v (type_at T f.type) h.0, whole-all T vs fs h.1)

-- a text by its test
pub text-is : (node : Node) → is_text node ≡ true → IsText node
unfolding is_text
text-is (Node.Int bytes) e = absurd (true≢false (sym e))
text-is (Node.Str x) e = absurd (true≢false (sym e))
text-is (Node.Bytes bytes) e = absurd (true≢false (sym e))
text-is (Node.Var x) e = absurd (true≢false (sym e))
text-is Node.Wildcard e = absurd (true≢false (sym e))
text-is Node.Never e = absurd (true≢false (sym e))
text-is (Node.Prefix x) e = tt
text-is (Node.Fuzzy x d a) e = tt
text-is (Node.Record fs) e = absurd (true≢false (sym e))
text-is (Node.Access x n) e = absurd (true≢false (sym e))
text-is (Node.Value n) e = absurd (true≢false (sym e))
text-is (Node.Select x n) e = absurd (true≢false (sym e))
text-is Node.Disjunction e = absurd (true≢false (sym e))
text-is Node.Subquery e = absurd (true≢false (sym e))
text-is (Node.Fact p n) e = absurd (true≢false (sym e))
text-is Node.Arith e = absurd (true≢false (sym e))
text-is Node.Error e = absurd (true≢false (sym e))

-- no diagnostics so far
pub record CleanLists (l : Lists) : Type 0 where
  pub diagnostics : l.diagnostics ≡ []

module _ (T : Tables) (texts : Each (λ (k : Constraint). IsText (node_at T k.node)) T.constraints) where
  -- the bindings hold the file's Consts
  abbrev pub SameBound : List Binding → Type 0
  SameBound bound = (x : ℕ) → const_bound bound x ≡ const_bound T.bindings x

  -- the walk of one level
  pub goes-level : (l : LevelEntry) (start : Lists) → is_own (node_at T l.node) (key_type T l) start.bindings ≡ true → (engine : Engine) (key' : Value) (folded : List ℕ)
      → GoesKey T engine l.address (predicate_at T l.predicate).key key' folded texts (fresh_walk start) (walk_level T l start) (matches T engine l folded start.bindings key')
  unfolding walk_level matches key_type
  goes-level l start h engine key' folded = goes-key T engine l.address (predicate_at T l.predicate).key key' folded texts l.node (fresh_walk start) h

  -- what a level's walk leaves is clean
  pub clean-walk : (l : LevelEntry) (start : Lists) → CleanLists (level T l start).left → (level T l start).mistyped ≡ false → Clean (walk_level T l start)
  unfolding level level_of
  clean-walk l start c m = record { diagnostics = c.diagnostics; typed = m }

  pub one-level : (l : LevelEntry) (start : Lists) → is_own (node_at T l.node) (key_type T l) start.bindings ≡ true → SameBound start.bindings → CleanLists (level T l start).left → (level T l start).mistyped ≡ false
      → (engine : Engine) (key' : Value) → OfType T key' (key_type T l) → (after : List Binding) → matches T engine l (plan_level (level_by placement T (level T l start))).folded start.bindings key' ≡ Some after
      → (passes engine (key_type T l) (plan_level (level_by placement T (level T l start))) key' ≡ true) × ((level T l start).left.bindings ≡ after)
  unfolding key_type plan_level level level_of level_by placed_by
  one-level l start own same clean typed engine key' of after m =
      let ty : Ty = type_at T (predicate_at T l.predicate).key in
      let g = goes-level l start own engine key' (plan_level (level_by placement T (level T l start))).folded in
      let r = g.live (whole T key' ty of) (clean-walk l start clean typed) (λ q. refl) same (ready-new engine ty key') after m in
      (level-passes engine ty key' (level_by placement T (level T l start)) r.ready.passing, r.bound)

  -- any engine and key will do for what does not hang on them
  some-engine : Engine
  some-engine = record { fields = λ a p. []; row = λ a. 0; fuzzy = λ x d a text. false }

  grows-level : (l : LevelEntry) (start : Lists) → is_own (node_at T l.node) (key_type T l) start.bindings ≡ true
      → Grows T some-engine (type_at T (predicate_at T l.predicate).key) (Value.Fact 0) (fresh_walk start) (walk_level T l start)
  grows-level l start own = (goes-level l start own some-engine (Value.Fact 0) []).grows

  pub next-same : (l : LevelEntry) (start : Lists) → is_own (node_at T l.node) (key_type T l) start.bindings ≡ true → SameBound start.bindings → SameBound (level T l start).left.bindings
  unfolding level level_of
  next-same l start own same x = (grows-level l start own).consts x ∙ same x

  -- what is clean at the end was clean before
  pub clean-before : (start : Lists) (entries : List LevelEntry) → own_nodes T start entries ≡ true → Each (λ (l : Level). l.mistyped ≡ false) (levels_from T start entries)
      → CleanLists (left_by start (levels_from T start entries)) → CleanLists start
  unfolding own_nodes levels_from left_by
  clean-before start [] own typed clean = clean
  clean-before start (l ∷ ls) own (more t typed) clean =
      let o = both_left (is_own (node_at T l.node) (key_type T l) start.bindings) (own_nodes T (level T l start).left ls) own in
      let c = (grows-level l start o).clean (clean-walk l start (clean-before (level T l start).left ls (both_right (is_own (node_at T l.node) (key_type T l) start.bindings) _ own) typed clean) t) in
      record { diagnostics = c.diagnostics }

  -- level k of a list that begins from `start`
  unfoldable pub begins : Lists → List Level → ℕ → Lists
  begins start ls zero = start
  begins start ls (suc k) = (level_at T ls k).left

  pub begins-next : (start : Lists) (l : Level) (ls : List Level) (k : ℕ) → begins start (l ∷ ls) (suc k) ≡ begins l.left ls k
  unfolding begins level_at
  begins-next start l ls zero = refl
  begins-next start l ls (suc k) = refl

  abbrev Claim : LevelEntry → Lists → Level → Type 0
  Claim l start lv =
      (engine : Engine) (key' : Value) → OfType T key' (key_type T l) → (after : List Binding) → matches T engine l (plan_level (level_by placement T lv)).folded start.bindings key' ≡ Some after
      → (passes engine (key_type T l) (plan_level (level_by placement T lv)) key' ≡ true) × (lv.left.bindings ≡ after)

  every-level : (start : Lists) (entries : List LevelEntry) → SameBound start.bindings → own_nodes T start entries ≡ true → Each (λ (l : Level). l.mistyped ≡ false) (levels_from T start entries)
      → CleanLists (left_by start (levels_from T start entries)) → (k : ℕ) → k < length entries → (d : LevelEntry)
      → Claim (get_or entries k d) (begins start (levels_from T start entries) k) (level_at T (levels_from T start entries) k)
  unfolding own_nodes levels_from left_by begins level_at
  every-level start [] same own typed clean k h d = absurd (not-suc-le-zero h)
  every-level start (l ∷ ls) same own (more t typed) clean zero h d =
      let o = both_left (is_own (node_at T l.node) (key_type T l) start.bindings) (own_nodes T (level T l start).left ls) own in
      let rest = both_right (is_own (node_at T l.node) (key_type T l) start.bindings) (own_nodes T (level T l start).left ls) own in
      one-level l start o same (clean-before (level T l start).left ls rest typed clean) t
  every-level start (l ∷ ls) same own (more t typed) clean (suc k) h d =
      let o = both_left (is_own (node_at T l.node) (key_type T l) start.bindings) (own_nodes T (level T l start).left ls) own in
      let rest = both_right (is_own (node_at T l.node) (key_type T l) start.bindings) (own_nodes T (level T l start).left ls) own in
      subst (λ (s : Lists). Claim (get_or ls k d) s (level_at T (levels_from T (level T l start).left ls) k))
      (sym (begins-next start (level T l start) (levels_from T (level T l start).left ls) k))
      (every-level (level T l start).left ls (next-same l start o same) rest typed clean k (le_of_suc-le-suc h) d)

  pub begins-is : (ls : List Level) (k : ℕ) → begins (starting T) ls k ≡ start_of T ls k
  unfolding begins start_of
  begins-is ls zero = refl
  begins-is ls (suc k) = refl

-- none of the levels was mistyped
pub none-mistyped : (ls : List Level) → any_mistyped ls ≡ false → Each (λ (l : Level). l.mistyped ≡ false) ls
unfolding any_mistyped
none-mistyped [] e = done
none-mistyped (l ∷ ls) e = more (either_left l.mistyped (any_mistyped ls) e) (none-mistyped ls (either-right l.mistyped (any_mistyped ls) e))

-- of every level of the whole list, every engine and every key of the level's type: a key that the matcher accepts passes, and the names are bound as the level's
-- walk binds them
pub skips-none : (T : Tables) → Plain T → (k : ℕ) → k < length T.levels → (engine : Engine) (key' : Value) → OfType T key' (key_type_of T k) → (after : List Binding) → Matches T (entry_at T k) (bound_before T k) (planned T k) engine key' after
    → Passes T (entry_at T k) (bound_before T k) (planned T k) engine key' × ((level_at T (levels T) k).left.bindings ≡ after)
unfolding constraints_are_texts key_type_of bound_before planned entry_at starting levels plan plan_of
skips-none T p k h engine key' of after m =
    let texts = each-imply (λ (c : Constraint) e. text-is (node_at T c.node) e) (each-passes (λ (c : Constraint). is_text (node_at T c.node)) T.constraints p.texts) in
    let clean : CleanLists (left_by (starting T) (levels T)) = record { diagnostics = p.no-diagnostics } in
    let claim = every-level T texts (starting T) T.levels (λ x. refl) p.own (none-mistyped (levels T) p.typed) clean k h (record { predicate = 0; node = 0; address = 0 }) in
    subst (λ (s : Lists). Claim T texts (entry_at T k) s (level_at T (levels T) k)) (begins-is T texts (levels T) k) claim engine key' of after m

pub no-fact-skipped : (T : Tables) → Plain T → (k : ℕ) → k < length T.levels → (engine : Engine) (key' : Value) → OfType T key' (key_type_of T k) → NoFactSkipped T (entry_at T k) (bound_before T k) (planned T k) engine key'
no-fact-skipped T p k h engine key' of = record { kept = λ after m. (skips-none T p k h engine key' of after m).0 }
