-- "The level keeps exactly the keys that match", of every level of an accepted file that meets the conditions.
use mathlib.Core.Bool.{true, false}
use mathlib.Core.List.{List, []}
use mathlib.Core.Path.{◌≡◌, refl, sym, subst}
use Prim.Native.Nat.{ℕ, zero, suc, ◌<◌}
use native.Mathlib.Nat.{not-suc-le-zero, le_of_suc-le-suc}
use lib.ListN.{length, get_or}
use Rattle.rules.specs.Base.{Each, done, more, first}
use Rattle.rules.specs.File.{Tables, Binding, Constraint, LevelEntry, type_at, node_at, predicate_at}
use Rattle.rules.specs.Read.{got, file}
use Rattle.rules.specs.Events.{Lists}
use Rattle.rules.specs.Walk.{fresh_walk, walk_level}
use Rattle.rules.specs.Placement.{SeekKeyPart, Part, SeekBuilder, new, seek_key}
use Rattle.rules.specs.Levels.{Level, starting, level_of, level, levels_from, levels, left_by}
use Rattle.rules.specs.Plan.{plan_level, plan_of, plan}
use Rattle.rules.specs.Demand1.{Byte}
use Rattle.rules.specs.Demand3.{entry_at, level_at}
use Rattle.rules.proofs.Cases.{some≢none, both_left, both_right}
use Rattle.rules.proofs.Each.{each-passes, each-imply}
use Rattle.rules.proofs.Sound.{Sound, sound, passed-all}
use Rattle.exact.specs.Values.{Value, zero_free, OfType}
use Rattle.exact.specs.Keys.{Engine}
use Rattle.exact.specs.Passes.{passes}
use Rattle.exact.specs.Matcher.{key_type, matches}
use Rattle.exact.specs.Conditions.{is_text, constraints_are_texts, is_own, own_nodes, HoldsValue, HoldsValues, Plain}
use Rattle.exact.specs.Placings.{placed_by, level_by, placement}
use Rattle.exact.specs.Claims.{planned, key_type_of, bound_before, Matches, Passes, KeepsExactly}
use Rattle.exact.proofs.Placing.{ready-new}
use Rattle.exact.proofs.Steps.{Excludes}
use Rattle.exact.proofs.Grows.{Known}
use Rattle.exact.proofs.Names.{IsText}
use Rattle.exact.proofs.Planned.{held-parts, level-passed}
use Rattle.exact.proofs.NoFactSkipped.{whole, text-is, CleanLists, SameBound, goes-level, clean-walk, next-same, clean-before, begins, begins-next, begins-is, none-mistyped, no-fact-skipped}
use Rattle.exact.proofs.Accepts.{Facts}
use Rattle.exact.proofs.FileFacts.{file-facts}
use Rattle.exact.proofs.Backward.{PartHeld, Something}
use Rattle.exact.proofs.LevelBack.{comes-key}

part_held : (T : Tables) (engine : Engine) (k : SeekKeyPart) → HoldsValue T engine k → PartHeld engine k
part_held T engine (SeekKeyPart.Bytes bytes) h = tt
part_held T engine (SeekKeyPart.RegisterField a p) h = (h.0, whole T h.0 h.1 h.2, h.3)
part_held T engine (SeekKeyPart.RegisterFactId a) h = tt

excludes-new : Excludes new
unfolding new
excludes-new r e = absurd (some≢none r (sym e))

nothing_known : (T : Tables) (start : Lists) → Known T (fresh_walk start)
unfolding placed_by new first
nothing_known T start i h = absurd (some≢none h.0 (sym h.1))

module _ (T : Tables) (facts : Facts T) (S : Sound T) (texts : Each (λ (k : Constraint). IsText (node_at T k.node)) T.constraints) where
  one-back : (l : LevelEntry) (start : Lists) → l.predicate < length T.predicates → is_own (node_at T l.node) (key_type T l) start.bindings ≡ true → SameBound T texts start.bindings → CleanLists (level T l start).left → (level T l start).mistyped ≡ false
      → (engine : Engine) (key' : Value) → HoldsValues T engine (plan_level (level_by placement T (level T l start))).seek → OfType T key' (key_type T l) → zero_free key' ≡ true → passes engine (key_type T l) (plan_level (level_by placement T (level T l start))) key' ≡ true
      → Something (matches T engine l (plan_level (level_by placement T (level T l start))).folded start.bindings key')
  unfolding key_type plan_level level level_of level_by placed_by matches walk_level seek_key
  one-back l start h own same clean typed engine key' held of z p =
      let t : ℕ = (predicate_at T l.predicate).key in
      let b : SeekBuilder = placed_by placement T (walk_level T l start).events new in
      let grown = (goes-level T texts l start own engine key' (plan_level (level_by placement T (level T l start))).folded).grows in
      (comes-key T facts engine l.address (predicate_at T l.predicate).key key' (plan_level (level_by placement T (level T l start))).folded texts (S.keys l.predicate h) l.node (fresh_walk start) own).back of z
      (ready-new engine (type_at T (predicate_at T l.predicate).key) key')
      (record {
        clean = clean-walk T texts l start clean typed;
        final = λ q. refl;
        consts = same;
        known = nothing_known T start;
        held = each-imply (λ (x : Part) k. part_held T engine x.key k) (held-parts T engine b.parts b.range b.edges.lo b.edges.hi held);
        passing = level-passed engine (type_at T (predicate_at T l.predicate).key) key' (level_by placement T (level T l start))
            (grown.steps.excludes (ready-new engine (type_at T (predicate_at T l.predicate).key) key').alone excludes-new) p;
      })

  abbrev Claim : LevelEntry → Lists → Level → Type 0
  Claim l start lv =
      (engine : Engine) (key' : Value) → HoldsValues T engine (plan_level (level_by placement T lv)).seek → OfType T key' (key_type T l) → zero_free key' ≡ true → passes engine (key_type T l) (plan_level (level_by placement T lv)) key' ≡ true
      → Something (matches T engine l (plan_level (level_by placement T lv)).folded start.bindings key')

  every_back : (start : Lists) {entries : List LevelEntry} → Each (λ (l : LevelEntry). l.predicate < length T.predicates) entries → SameBound T texts start.bindings → own_nodes T start entries ≡ true
      → Each (λ (l : Level). l.mistyped ≡ false) (levels_from T start entries) → CleanLists (left_by start (levels_from T start entries)) → (k : ℕ) → k < length entries → (d : LevelEntry)
      → Claim (get_or entries k d) (begins T texts start (levels_from T start entries) k) (level_at T (levels_from T start entries) k)
  unfolding own_nodes levels_from left_by begins level_at
  every_back start done same own typed clean k h d = absurd (not-suc-le-zero h)
  every_back start (more {x = l} {xs = ls} p ps) same own (more t typed) clean zero h d =
      let o = both_left (is_own (node_at T l.node) (key_type T l) start.bindings) (own_nodes T (level T l start).left ls) own in
      let rest = both_right (is_own (node_at T l.node) (key_type T l) start.bindings) (own_nodes T (level T l start).left ls) own in
      one-back l start p o same (clean-before T texts (level T l start).left ls rest typed clean) t
  every_back start (more {x = l} {xs = ls} p ps) same own (more t typed) clean (suc k) h d =
      let o = both_left (is_own (node_at T l.node) (key_type T l) start.bindings) (own_nodes T (level T l start).left ls) own in
      let rest = both_right (is_own (node_at T l.node) (key_type T l) start.bindings) (own_nodes T (level T l start).left ls) own in
      subst (λ (s : Lists). Claim (get_or ls k d) s (level_at T (levels_from T (level T l start).left ls) k))
      (sym (begins-next T texts start (level T l start) (levels_from T (level T l start).left ls) k))
      (every_back (level T l start).left ps (next-same T texts l start o same) rest typed clean k (le_of_suc-le-suc h) d)

adds_none : (T : Tables) → Facts T → Plain T → (k : ℕ) → k < length T.levels → (engine : Engine) (key' : Value) → HoldsValues T engine (planned T k).seek → OfType T key' (key_type_of T k) → zero_free key' ≡ true
    → Passes T (entry_at T k) (bound_before T k) (planned T k) engine key' → (after : List Binding) × Matches T (entry_at T k) (bound_before T k) (planned T k) engine key' after
unfolding constraints_are_texts key_type_of bound_before planned entry_at starting levels plan plan_of
adds_none T facts p k h engine key' held of z q =
    let S = sound T (passed-all T p.accepted) in
    let texts = each-imply (λ (c : Constraint) e. text-is (node_at T c.node) e) (each-passes (λ (c : Constraint). is_text (node_at T c.node)) T.constraints p.texts) in
    let clean : CleanLists (left_by (starting T) (levels T)) = record { diagnostics = p.no-diagnostics } in
    let claim = every_back T facts S texts (starting T) S.levels (λ x. refl) p.own (none-mistyped (levels T) p.typed) clean k h (record { predicate = 0; node = 0; address = 0 }) in
    subst (λ (s : Lists). Claim T facts S texts (entry_at T k) s (level_at T (levels T) k)) (begins-is T texts (levels T) k) claim engine key' held of z q

-- of every accepted file of bytes, every level of its whole list, every key, and whatever the engine holds
pub keeps-exactly : (bytes : List ℕ) → Each Byte bytes → (T : Tables) → file bytes ≡ got T [] → Plain T → (k : ℕ) → k < length T.levels → (engine : Engine) → HoldsValues T engine (planned T k).seek
    → (key' : Value) → OfType T key' (key_type_of T k) → zero_free key' ≡ true → KeepsExactly T (entry_at T k) (bound_before T k) (planned T k) engine key'
keeps-exactly bytes b T e p k h engine held key' of z =
    record {
      no-fact-skipped = (no-fact-skipped T p k h engine key' of).kept;
      no-fact-added = adds_none T (file-facts bytes b T e p.accepted) p k h engine key' held of z;
    }
