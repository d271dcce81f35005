-- A level's walk: begun, walked by the file's entry, and where a measured level goes.
use mathlib.Core.Bool.{Bool, true, false}
use mathlib.Core.List.{List}
use mathlib.Core.Path.{◌≡◌, refl, sym, ap, ◌∙◌}
use Prim.Native.Nat.{ℕ, ◌≤◌, ◌<◌}
use lib.ListN.{length}
use Rattle.rules.specs.Limits.{plan_limit}
use Rattle.rules.specs.File.{Tables, predicate_at}
use Rattle.rules.specs.File as File
use Rattle.rules.specs.Walk as WalkRules
use Rattle.rules.proofs.Cases.{by-test, true≢false}
use Rattle.rules.proofs.Each.{each_at}
use Rattle.rules.proofs.Sound.{Sound}
use Rattle.state.specs.State.{State, Level, state, new_level, no_target}
use Rattle.state.specs.State as Memory
use Rattle.state.specs.Ops.{ops}
use Rattle.state.specs.Levels as StateLevels
use Rattle.file.specs.Tables.{tables_of}
use Rattle.views.specs.Views.{level_entry_at, predicate_of}
use Rattle.views.specs.Views as Views
use Rattle.views.specs.declared.LevelEntry.{LevelEntry}
use Rattle.views.specs.declared.Predicate.{Predicate}
use Rattle.accepted_file.specs.AcceptedFile.{AcceptedFile}
use Rattle.accepted_file.proofs.Given.{sound-tables}
use Rattle.seek.specs.Seek.{level_of, state_of}
use Rattle.seek.specs.declared.SeekBuilder.{SeekBuilder}
use Rattle.lists.specs.Lists.{ends_of, state_with}
use Rattle.lists.specs.declared.Ends.{Ends}
use Rattle.lists.specs.declared.Lists.{Lists}
use Rattle.walk.specs.Walk.{walk_state, lists_of, with_lists}
use Rattle.walk.proofs.Parts.{lists-are}
use Rattle.walk.specs.declared.Walk.{Walk}
use Rattle.level_frame.specs.LevelFrame.{frame_of}
use Rattle.level_frame.specs.declared.Frame.{Frame}
use Rattle.level_frame.proofs.Places.{parts_is, nodes-is, rest-is}
use Rattle.levels.specs.Written.{unleveled}

abbrev place : Bool → ℕ → ℕ → ℕ → Memory.Target
place j p n r = record { joining = j; parts_at = p; nodes_at = n; rest_at = r }

-- the key type of a level's predicate is the file's
key-sound : (T : Tables) → Sound T → (k : ℕ) → k < length T.levels → (predicate_at T (level_entry_at T k).predicate).key < length T.types
unfolding level_entry_at
key-sound T s k h = s.keys _ (each_at s.levels k _ h)

module _ (T : Tables) (v : LevelEntry) (l : File.LevelEntry) (p : Predicate) (el : Views.level_of v ≡ l) (ep : predicate_of p ≡ predicate_at T v.predicate.0) where
  key-is : p.key ≡ (predicate_at T l.predicate).key
  key-is = ap (λ (q : File.Predicate). q.key) ep ∙ ap (λ (m : File.LevelEntry). (predicate_at T m.predicate).key) el

  pub walked-is : (s r : State) → r ≡ WalkRules.key (ops T) T v.address.0 v.node p.key s → r ≡ StateLevels.walked T l s
  unfolding StateLevels.walked
  walked-is s r e =
      e ∙ ap (λ (k : ℕ). WalkRules.key (ops T) T v.address.0 v.node k s) key-is
      ∙ ap (λ (m : File.LevelEntry). WalkRules.key (ops T) T m.address m.node (predicate_at T l.predicate).key s) el

pub key_in : (f ix : List ℕ) → AcceptedFile f ix → (k : ℕ) → k < length (tables_of f).levels → (v : LevelEntry) (p : Predicate) → Views.level_of v ≡ level_entry_at (tables_of f) k → predicate_of p ≡ predicate_at (tables_of f) v.predicate.0 → p.key < length (tables_of f).types
key_in f ix r k h v p el ep = rw (key-is (tables_of f) v (level_entry_at (tables_of f) k) p el ep) (key-sound (tables_of f) (sound-tables f ix r) k h)

-- a new level, with the lists as they were
pub begun-is : (T : Tables) (o : Bool) (e : Ends) (b : SeekBuilder) (t : Memory.Target) (w p : List ℕ) → state_of T b (ends_of e) w p ≡ state false (ends_of e) new_level t w p → walk_state T (with_lists (record { ends = e; level = b }) (record { over = o; ends = e })) w p ≡ state o (ends_of e) new_level t w p
unfolding state_of
begun-is T o e b t w p q =
    lists-are T (record { ends = e; level = b }) (with_lists (record { ends = e; level = b }) (record { over = o; ends = e })) (record { over = o; ends = e }) w p refl
    ∙ ap (λ (s : State). state o (ends_of e) s.level s.target w p) q

-- no level is kept of a walk that is done
pub lists-left : (T : Tables) (r : Walk) (l : Lists) (work plan : List ℕ) → l ≡ lists_of r → state_with l new_level no_target work plan ≡ unleveled (walk_state T r work plan)
unfolding unleveled walk_state state_of
lists-left T r l work plan e = ap (λ (x : Lists). state_with x new_level no_target work plan) e

-- The level in the plan: its frame, then what its walk wrote to the page.
module _ (T : Tables) (at : ℕ) (m : Walk) (f : Frame) (ef : f ≡ frame_of at (level_of T m.level)) (h : f.end ≤ plan_limit) where
  abbrev l : Level
  l = level_of T m.level

  target_at : (t : Memory.Target) → t ≡ place (StateLevels.joining l) f.parts f.nodes f.rest → t ≡ StateLevels.writing_at at l
  unfolding StateLevels.writing_at
  target_at t et = et ∙ (λ i. place (StateLevels.joining l) (parts_is at l f ef i) (nodes-is at l f ef i) (rest-is at l f ef h i))

  module _ (v : File.LevelEntry) (e : Memory.Ends) (work plan page plan₁ : List ℕ) (ep : plan₁ ≡ StateLevels.frame at l plan) (t : Memory.Target) (et : t ≡ place (StateLevels.joining l) f.parts f.nodes f.rest) where
    abbrev seen : State
    seen = walk_state T m work page

    pub paged-is : (x : Lists) (plan₂ : List ℕ) → x ≡ lists_of m → StateLevels.paged l.counts ≡ true → plan₂ ≡ StateLevels.from_page t l.counts page plan₁ → state_with x new_level no_target work plan₂ ≡ unleveled (StateLevels.placed T v e at plan seen)
    unfolding StateLevels.placed StateLevels.with_plan walk_state state_of unleveled
    paged-is x plan₂ ex q e₂ =
        (λ i. state_with (ex i) new_level no_target work ((e₂ ∙ (λ j. StateLevels.from_page (target_at t et j) l.counts page (ep j))) i))
        ∙ by-test (λ (r : State). state_with (lists_of m) new_level no_target work (StateLevels.from_page (StateLevels.writing_at at l) l.counts page (StateLevels.frame at l plan)) ≡ unleveled r) (StateLevels.paged l.counts) (λ _. refl) (λ p. absurd (true≢false (sym q ∙ p)))

    -- walked once more
    pub again-is : StateLevels.paged l.counts ≡ false → (b r : State) → b ≡ state m.level.over e new_level t work plan₁ → r ≡ StateLevels.walked T v b → unleveled r ≡ unleveled (StateLevels.placed T v e at plan seen)
    unfolding StateLevels.placed StateLevels.begin walk_state state_of
    again-is q b r eb er =
        ap unleveled (er ∙ ap (StateLevels.walked T v) (eb ∙ (λ i. state m.level.over e new_level (target_at t et i) work (ep i)))
        ∙ by-test (λ (x : State). StateLevels.walked T v (state m.level.over e new_level (StateLevels.writing_at at l) work (StateLevels.frame at l plan)) ≡ x) (StateLevels.paged l.counts) (λ p. absurd (true≢false (sym p ∙ q))) (λ _. refl))
