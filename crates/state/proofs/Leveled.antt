-- One level in the memory, walked onto the page and copied from there: it stands in the plan as the written rules have it, or the rules'
-- plan is really too long.
use mathlib.Core.Bool.{true, false}
use mathlib.Core.List.{List, ◌++◌}
use mathlib.Core.Path.{◌≡◌, refl, sym, ap, ◌∙◌}
use Prim.Native.Nat.{ℕ, ◌+◌, ◌<◌, min}
use native.Mathlib.Nat.{zero-add}
use native.Mathlib.Omega.{arith}
use borrow.Author.Tests.{leb-false}
use lib.Dec.{leb}
use lib.ListN.{length, length-append}
use lib.Seq.{sets, length-sets}
use Rattle.rules.specs.Base.{Each, all, concat_map}
use Rattle.rules.specs.Limits.{plan_limit}
use Rattle.rules.specs.File.{Tables, LevelEntry, predicate_at}
use Rattle.rules.specs.Events.{Lists, Walk}
use Rattle.rules.specs.Walk.{fresh_walk, walk_level}
use Rattle.rules.specs.Placement.{new, place_all}
use Rattle.rules.specs.Levels as LevelsRules
use Rattle.rules.specs.Plan as Plan
use Rattle.rules.specs.Demand3.{Adds, number}
use Rattle.rules.proofs.Cases.{by-test, true≢false}
use Rattle.rules.proofs.Alone.{walk-keeps}
use Rattle.rules.proofs.Lists.{AddsTo, adds-keeps}
use Rattle.rules.proofs.Runs.{goes-key}
use Rattle.rules.proofs.Sound.{BindingOk, Sound}
use Rattle.rules.proofs.ReaderTables.{PathWithin}
use Rattle.state.specs.State.{Ends, Level, Target, State, new_level, stop}
use Rattle.state.specs.Ops.{ops}
use Rattle.state.specs.Levels.{level_end, frame, page_length, paging, paged, from_page, Written, written_to, begin, walked, with_plan, writing_at, placed, ended, level}
use Rattle.state.proofs.Seqs.{sets-append}
use Rattle.state.proofs.Mem.{Mem, mem-back}
use Rattle.state.proofs.Sizes.{summary, weight, Sane}
use Rattle.state.proofs.Growth.{built, met, list_size, Grew, grew-keeps}
use Rattle.state.proofs.Rel.{parts_put, plan_as, Good, Rel, of-good}
use Rattle.state.proofs.Sim.{Name, Numbered, numbers, simulates}
use Rattle.state.proofs.Frame.{leveled, level-written, level-end, level-weight}
use Rattle.state.proofs.Paged.{page-length, from-page}

-- an entry that an accepted file may have
pub record EntryOk (T : Tables) (l : LevelEntry) : Type 0 where
  pub predicate : l.predicate < length T.predicates
  pub address : l.address < 65536

-- a level begins
sane-new : Sane 0 new
unfolding new number
sane-new = record { clean = λ e. refl; no-range = λ e. refl; no-guide = λ e. refl; counted = omega arith }

level-new : new_level ≡ summary 0 new
unfolding new_level summary new all concat_map
level-new = refl

plan_new : (t : Target) (base : List ℕ) → base ≡ plan_as t base new
unfolding plan_as parts_put new concat_map
plan_new t base = refl

rel-begin : (T : Tables) (t : Target) (plan : List ℕ) (l : Lists) (e : Ends) (s : State) → s.over ≡ false → Mem T l e s.work → Rel T t plan (fresh_walk l) (begin e t plan s)
unfolding begin place_all LevelsRules.narrowings
rel-begin T t plan l e s o m = of-good T t plan l 0 new (begin e t plan s) o sane-new (record { mem = m; level = level-new; target = refl; plan = plan_new t plan })

-- Between levels: the lists in the work area, the plan written up to `front`, and a whole page.
pub record Between (T : Tables) (base : List ℕ) (l : Lists) (front : List ℕ) (w : Written) : Type 0 where
  pub mem : Mem T l w.state.ends w.state.work
  pub at : w.at ≡ length front
  pub plan : w.state.plan ≡ sets base 0 front
  pub page : length w.page ≡ page_length

-- After a level: so far written, or too long. `long` is what the plan would be at least.
pub record After (T : Tables) (base : List ℕ) (l : Lists) (front : List ℕ) (long : ℕ) (w : Written) : Type 0 where
  pub live : w.state.over ≡ false → Between T base l front w
  pub dead : w.state.over ≡ true → min plan_limit (length base) < long

module _ (T : Tables) (S : Sound T) (numbered : Numbered T) where
  -- two runs of an entry's walk
  walk-related : (entry : LevelEntry) → EntryOk T entry → (t : Target) (base : List ℕ) (l : Lists) → Each (BindingOk T) l.bindings → (c : State) → Rel T t base (fresh_walk l) c → Rel T t base (walk_level T entry l) (walked T entry c)
  unfolding walk_level walked
  walk-related entry ok t base l fit c r =
      (goes-key T S PathWithin Name (numbers T numbered) (ops T) (λ s. s.over) entry.address (Grew T) (Rel T t base) (grew-keeps T) (simulates T t base S numbered entry.address ok.address)
      entry.node (predicate_at T entry.predicate).key (fresh_walk l) c (S.keys entry.predicate ok.predicate) fit r).rel

  module _ (base : List ℕ) (entry : LevelEntry) (ok : EntryOk T entry) (l : Lists) (fit : Each (BindingOk T) l.bindings) (front : List ℕ) where
    -- the rules' level, and its bytes
    abbrev W : Walk
    W = walk_level T entry l

    abbrev bytes : List ℕ
    bytes = Plan.level_bytes (leveled (met W) (built T W))

    abbrev Ends' : Written → Type 0
    Ends' w = After T base W.lists (front ++ bytes) (length front + length bytes + list_size T W.lists) w

    -- lists and level that are longer than a plan
    too_long : plan_limit < list_size T W.lists + weight (built T W) → min plan_limit (length base) < length front + length bytes + list_size T W.lists
    too_long h = omega (arith, h, level-weight (met W) (built T W))

    ends-over : (at : ℕ) (c : State) (page : List ℕ) → c.over ≡ true → min plan_limit (length base) < length front + length bytes + list_size T W.lists → Ends' (written_to at c page)
    ends-over at c page e h = record { live = λ q. absurd (true≢false (sym e ∙ q)); dead = λ q. h }

    adds : Adds l W.lists
    adds = (walk-keeps T S AddsTo (adds-keeps T) entry ok.predicate l fit).0

    -- walked onto the page, and then in the plan
    module _ (e : Ends) (at : ℕ) (work plan page : List ℕ) (m : State) (eat : at ≡ length front) (mem : Mem T l e work) (here : plan ≡ sets base 0 front) (room : length page ≡ page_length) where
      module _ (o : m.over ≡ false) (g : Good T paging page W.lists (met W) (built T W) m) where
        ends_at : level_end at m.level ≡ length (front ++ bytes)
        ends_at = omega (arith, eat, ap (level_end at) g.level, level-end at (met W) (built T W), length-append front bytes)

        abbrev framed : List ℕ
        framed = frame at m.level plan

        whole-plan : plan_as (writing_at at m.level) framed (built T W) ≡ sets base 0 (front ++ bytes)
        whole-plan =
            (λ i. plan_as (writing_at at (g.level i)) (frame at (g.level i) (here i)) (built T W))
            ∙ level-written (sets base 0 front) at (met W) (built T W)
            ∙ ap (λ (k : ℕ). sets (sets base 0 front) k bytes) (eat ∙ sym (zero-add (length front)))
            ∙ sym (sets-append base 0 front bytes)

        still-whole : length m.plan ≡ page_length
        still-whole = ap length g.plan ∙ page-length page (built T W) ∙ room

        copied : paged m.level.counts ≡ true → from_page (writing_at at m.level) m.level.counts m.plan framed ≡ plan_as (writing_at at m.level) framed (built T W)
        copied q =
            (λ i. from_page (writing_at at (g.level i)) (g.level i).counts (g.plan i) framed)
            ∙ from-page page (built T W) room (met W) (ap (λ (x : Level). paged x.counts) (sym g.level) ∙ q) at framed
            ∙ sym (λ i. plan_as (writing_at at (g.level i)) framed (built T W))

        -- the lists stand, and the plan has the level
        ends-paged : paged m.level.counts ≡ true → Ends' (written_to (level_end at m.level) (with_plan (from_page (writing_at at m.level) m.level.counts m.plan framed) m) m.plan)
        unfolding with_plan
        ends-paged q =
            record {
              live = λ _. record { mem = g.mem; at = ends_at; plan = copied q ∙ whole-plan; page = still-whole };
              dead = λ p. absurd (true≢false (sym p ∙ o));
            }

        again : Rel T (writing_at at m.level) framed W (walked T entry (begin e (writing_at at m.level) framed m))
        again =
            walk-related entry ok (writing_at at m.level) framed l fit (begin e (writing_at at m.level) framed m)
            (rel-begin T (writing_at at m.level) framed l e m o (mem-back T l W.lists e m.ends work m.work mem g.mem adds))

        ends-placed : Ends' (written_to (level_end at m.level) (placed T entry e at plan m) m.plan)
        unfolding placed
        ends-placed =
            by-test (λ (s : State). Ends' (written_to (level_end at m.level) s m.plan)) (paged m.level.counts) ends-paged
            (λ _. record { live = λ q. record { mem = (again.live q).mem; at = ends_at; plan = (again.live q).plan ∙ whole-plan; page = still-whole }; dead = λ q. too_long (again.dead q) })

      ends-ended : Rel T paging page W m → Ends' (ended T entry e at plan m)
      unfolding ended stop with_plan
      ends-ended r =
          by-test Ends' m.over
          (λ o. ends-over at (with_plan plan m) m.plan o (too_long (r.dead o)))
          (λ o. by-test Ends' (leb (level_end at m.level) (min plan_limit (length plan)))
          (λ q. ends-placed o (r.live o))
          (λ q. ends-over at (stop (with_plan plan m)) m.plan refl
          (omega (arith, leb-false (level_end at m.level) (min plan_limit (length plan)) q, eat, ap (level_end at) (r.live o).level, level-end at (met W) (built T W), ap length here, length-sets base 0 front))))

    -- from one level to the next
    pub ends-level : (w : Written) → w.state.over ≡ false → Between T base l front w → Ends' (level T entry w)
    unfolding level
    ends-level w o b =
        ends-ended w.state.ends w.at w.state.work w.state.plan w.page _ b.at b.mem b.plan b.page
        (walk-related entry ok paging w.page l fit (begin w.state.ends paging w.page w.state) (rel-begin T paging w.page l w.state.ends w.state o b.mem))
