-- The four lists as the work area's two runs hold them: what an append to one list makes of it, and that the other three keep theirs.
use mathlib.Core.Bool.{Bool, true, false}
use mathlib.Core.List.{List, [], ◌∷◌, ◌++◌, append-nil, append_assoc}
use mathlib.Core.Path.{◌≡◌, refl, sym, ap, ap₂, ◌∙◌, subst}
use Prim.Native.Nat.{ℕ, ◌+◌, ◌-◌, ◌*◌, ◌≤◌, ◌<◌}
use native.Mathlib.Omega.{arith}
use borrow.Author.Tests.{eqb-true, eqb-false, eq-eqb, ne_eqb}
use lib.Dec.{eqb}
use lib.ListN.{length, take, drop, length-append, take-append-drop}
use lib.Seq.{sets, slice, length-sets, slice_empty, take_at, take-append_seam, drop-append_seam}
use Rattle.rules.specs.Base.{Each, done, concat_map}
use Rattle.rules.specs.File.{Tables, Binding}
use Rattle.std.specs.Prelude.{Option, None}
use Rattle.rules.specs.Limits.{name_limit}
use Rattle.rules.specs.File.{Slot}
use Rattle.rules.specs.Constant.{lookup}
use Rattle.rules.specs.Events.{Select, Diagnostic, Lists}
use Rattle.rules.specs.Plan as Plan
use Rattle.rules.specs.Demand3.{Adds}
use Rattle.rules.proofs.Each.{each_all, each_snoc}
use Rattle.rules.proofs.RoundTrip.{BindingNumbers}
use Rattle.state.specs.State.{Ends, ends, no_ends, bindings_at, constrained_at, selects_at, diagnostics_at, number_at, place_at, noted, made_slot, backwards}
use Rattle.state.specs.Ops.{or_else}
use Rattle.state.proofs.Seqs.{concat_map-append, concat_map-snoc, length-snoc, slice_front, length-stride, length-least, slice-sets-at, slice-sets-past, slice-sets-before}
use Rattle.state.proofs.Backwards.{backwards-append, backwards-one, backwards-below, backwards-above, backwards-length}
use Rattle.state.proofs.Made.{Named, binding-length, lookup-append, neither, not-among, named-front, named_past, named-next, made-is}

-- a list that grows up from `start` and ends at `end` has the records xs
pub record Up {A : Type 0} (encode : A → List ℕ) (start end : ℕ) (xs : List A) (work : List ℕ) : Type 0 where
  pub ends : end ≡ start + length (concat_map encode xs)
  pub holds : slice start end work ≡ concat_map encode xs

module _ {A : Type 0} (encode : A → List ℕ) (start : ℕ) where
  up_none : (work : List ℕ) → Up encode start start [] work
  unfolding concat_map
  up_none work = record { ends = omega arith; holds = slice_empty start work }

  -- a record at its end
  up_more : (end : ℕ) (xs : List A) (x : A) (work : List ℕ) → Up encode start end xs work → end + length (encode x) ≤ length work → Up encode start (end + length (encode x)) (xs ++ (x ∷ [])) (sets work end (encode x))
  up_more end xs x work r room =
      record {
        ends = omega (arith, r.ends, length-snoc encode xs x);
        holds = slice-sets-at start end work (encode x) (omega (arith, r.ends)) room ∙ ap (λ l. l ++ encode x) r.holds ∙ sym (concat_map-snoc encode xs x);
      }

  -- a change past its end, and one before its start
  up-past : (end : ℕ) (xs : List A) (work : List ℕ) (at : ℕ) (bytes : List ℕ) → Up encode start end xs work → end ≤ at → Up encode start end xs (sets work at bytes)
  up-past end xs work at bytes r h = record { ends = r.ends; holds = slice-sets-past start end work at bytes h ∙ r.holds }

  up-before : (end : ℕ) (xs : List A) (work : List ℕ) (at : ℕ) (bytes : List ℕ) → Up encode start end xs work → at + length bytes ≤ start → Up encode start end xs (sets work at bytes)
  up-before end xs work at bytes r h = record { ends = r.ends; holds = slice-sets-before start end work at bytes (omega (arith, r.ends)) h ∙ r.holds }

  -- what stood there before more was appended
  up-back : (end end' : ℕ) (xs ys : List A) (work work' : List ℕ) → Up encode start end xs work → Up encode start end' (xs ++ ys) work' → Up encode start end xs work'
  up-back end end' xs ys work work' r r' =
      let whole = concat_map-append encode xs ys in
      record {
        ends = r.ends;
        holds = ap (λ (k : ℕ). slice start k work') r.ends
            ∙ slice_front start (length (concat_map encode xs)) end' work' (omega (arith, r'.ends, ap length whole, length-append (concat_map encode xs) (concat_map encode ys)))
            ∙ ap (take (length (concat_map encode xs))) (r'.holds ∙ whole)
            ∙ take-append_seam (concat_map encode xs) (concat_map encode ys);
      }

-- a list that grows down from `top`, and whose newest record begins at `low`, has the records xs
pub record Down {A : Type 0} (encode : A → List ℕ) (width top low : ℕ) (xs : List A) (work : List ℕ) : Type 0 where
  pub ends : low + length (concat_map encode xs) ≡ top
  pub holds : backwards width (length xs) top work ≡ concat_map encode xs

module _ {A : Type 0} (encode : A → List ℕ) (width : ℕ) (each : (x : A) → length (encode x) ≡ width) (top : ℕ) where
  down-none : (work : List ℕ) → Down encode width top top [] work
  unfolding concat_map backwards
  down-none work = record { ends = omega arith; holds = refl }

  -- how far it has come down, by its records
  pub down-low : (low : ℕ) (xs : List A) (work : List ℕ) → Down encode width top low xs work → low + width * length xs ≡ top
  down-low low xs work r = omega (arith, r.ends, length-stride encode width each xs)

  -- a record before its newest
  down-more : (low : ℕ) (xs : List A) (x : A) (work : List ℕ) → Down encode width top low xs work → length (encode x) ≤ low → low ≤ length work → Down encode width top (low - length (encode x)) (xs ++ (x ∷ [])) (sets work (low - length (encode x)) (encode x))
  down-more low xs x work r h room =
      record {
        ends = omega (arith, r.ends, h, length-snoc encode xs x);
        holds = ap (λ (n : ℕ). backwards width n top after) (length-append xs (x ∷ []))
            ∙ backwards-append width (length xs) 1 top after
            ∙ ap₂ ◌++◌ (backwards-below width (length xs) top work at (encode x) (omega (arith, down-low low xs work r, h)) ∙ r.holds) newest
            ∙ sym (concat_map-snoc encode xs x);
      }
    where
      at : ℕ
      at = low - length (encode x)

      after : List ℕ
      after = sets work at (encode x)

      newest : backwards width 1 (top - width * length xs) after ≡ encode x
      newest =
          let here : top - width * length xs - width ≡ at = omega (arith, down-low low xs work r, each x) in
          let there : top - width * length xs ≡ at + length (encode x) = omega (arith, down-low low xs work r, h) in
          backwards-one width (top - width * length xs) after
          ∙ ap₂ (λ (i j : ℕ). slice i j after) here there
          ∙ slice-sets-at at at work (encode x) (omega arith) (omega (arith, h, room))
          ∙ ap (λ (l : List ℕ). l ++ encode x) (slice_empty at work)

  -- a change below its newest record, and one above it
  down-below : (low : ℕ) (xs : List A) (work : List ℕ) (at : ℕ) (bytes : List ℕ) → Down encode width top low xs work → at + length bytes ≤ low → Down encode width top low xs (sets work at bytes)
  down-below low xs work at bytes r h = record { ends = r.ends; holds = backwards-below width (length xs) top work at bytes (omega (arith, down-low low xs work r, h)) ∙ r.holds }

  down-above : (low : ℕ) (xs : List A) (work : List ℕ) (at : ℕ) (bytes : List ℕ) → Down encode width top low xs work → top ≤ at → Down encode width top low xs (sets work at bytes)
  down-above low xs work at bytes r h = record { ends = r.ends; holds = backwards-above width (length xs) top work at bytes h ∙ r.holds }

  -- what stood there before more was put below it
  down-back : (low low' : ℕ) (xs ys : List A) (work work' : List ℕ) → top ≤ length work' → Down encode width top low xs work → Down encode width top low' (xs ++ ys) work' → Down encode width top low xs work'
  down-back low low' xs ys work work' room r r' =
      record {
        ends = r.ends;
        holds = sym (take_at first _ (length (concat_map encode xs)) size)
            ∙ ap (take (length (concat_map encode xs))) (sym split ∙ r'.holds ∙ concat_map-append encode xs ys)
            ∙ take-append_seam (concat_map encode xs) (concat_map encode ys);
      }
    where
      first : List ℕ
      first = backwards width (length xs) top work'

      split : backwards width (length (xs ++ ys)) top work' ≡ first ++ backwards width (length ys) (top - width * length xs) work'
      split = ap (λ (n : ℕ). backwards width n top work') (length-append xs ys) ∙ backwards-append width (length xs) (length ys) top work'

      size : length first ≡ length (concat_map encode xs)
      size = omega (arith, backwards-length width (length xs) top work', down-low low xs work r, r.ends, room)

-- every constrained name takes two bytes, every diagnostic three
pub u16-length : (x : ℕ) → length (Plan.u16 x) ≡ 2
unfolding Plan.u16
u16-length x = refl

pub diagnostic-length : (d : Diagnostic) → length (Plan.diagnostic d) ≡ 3
unfolding Plan.diagnostic Plan.u16
diagnostic-length d = refl

-- the lists of a walk, beyond the file's own bindings; the two lists of a run do not meet, and the tables lead to the new bindings
pub record Mem (T : Tables) (l : Lists) (e : Ends) (work : List ℕ) : Type 0 where
  pub new : List Binding
  pub bindings-are : l.bindings ≡ T.bindings ++ new
  pub numbers : Each BindingNumbers new
  pub bindings : Up Plan.binding bindings_at e.bindings new work
  pub binding_count : e.binding_count ≡ length new
  pub constrained : Down Plan.u16 2 constrained_at e.constrained l.constrained work
  pub selects : Up Plan.select selects_at e.selects l.selects work
  pub select_count : e.select_count ≡ length l.selects
  pub diagnostics : Down Plan.diagnostic 3 diagnostics_at e.diagnostics l.diagnostics work
  pub first : e.bindings ≤ e.constrained
  pub second : e.selects ≤ e.diagnostics
  pub room : 65536 ≤ length work
  pub names : Each (λ b. b.name < name_limit) new
  pub tables : Named work 0 0 new

-- past the file's own bindings
pub new_is : (T : Tables) (l : Lists) (new : List Binding) → l.bindings ≡ T.bindings ++ new → new ≡ drop (length T.bindings) l.bindings
new_is T l new e = sym (ap (drop (length T.bindings)) e ∙ drop-append_seam T.bindings new)

abbrev pub lists : List Binding → List ℕ → List Select → List Diagnostic → Lists
lists b c s d = record { bindings = b; constrained = c; selects = s; diagnostics = d }

-- no record yet
pub mem-none : (T : Tables) (work : List ℕ) → 65536 ≤ length work → Mem T (lists T.bindings [] [] []) no_ends work
unfolding no_ends
mem-none T work h =
    record {
      new = [];
      bindings-are = sym (append-nil T.bindings);
      numbers = done;
      bindings = up_none Plan.binding bindings_at work;
      binding_count = refl;
      constrained = down-none Plan.u16 2 u16-length constrained_at work;
      selects = up_none Plan.select selects_at work;
      select_count = refl;
      diagnostics = down-none Plan.diagnostic 3 diagnostic-length diagnostics_at work;
      first = omega arith;
      second = omega arith;
      room = h;
      names = done;
      tables = tt;
    }

module _ (T : Tables) (l : Lists) (e : Ends) (work : List ℕ) (m : Mem T l e work) where
  still-room : (at : ℕ) (bytes : List ℕ) → 65536 ≤ length (sets work at bytes)
  still-room at bytes = omega (arith, length-sets work at bytes, m.room)

  -- the lists of the other run, after a change between the two of one
  first-kept : (at : ℕ) (bytes : List ℕ) → selects_at ≤ at → Up Plan.binding bindings_at e.bindings m.new (sets work at bytes) × Down Plan.u16 2 constrained_at e.constrained l.constrained (sets work at bytes)
  first-kept at bytes h = (
    up-past Plan.binding bindings_at e.bindings m.new work at bytes m.bindings (omega (arith, m.first, m.constrained.ends)),
    down-above Plan.u16 2 u16-length constrained_at e.constrained l.constrained work at bytes m.constrained h,
  )

  second-kept : (at : ℕ) (bytes : List ℕ) → at + length bytes ≤ selects_at → Up Plan.select selects_at e.selects l.selects (sets work at bytes) × Down Plan.diagnostic 3 diagnostics_at e.diagnostics l.diagnostics (sets work at bytes)
  second-kept at bytes h = (
    up-before Plan.select selects_at e.selects l.selects work at bytes m.selects h,
    down-below Plan.diagnostic 3 diagnostic-length diagnostics_at e.diagnostics l.diagnostics work at bytes m.diagnostics (omega (arith, h, m.selects.ends, m.second)),
  )

  -- a list of the runs, after a binding was noted
  up-noted : {A : Type 0} (encode : A → List ℕ) (start end : ℕ) (xs : List A) (w : List ℕ) (x n at : ℕ) → end ≤ diagnostics_at → Up encode start end xs w → Up encode start end xs (noted x n at w)
  unfolding noted number_at place_at
  up-noted encode start end xs w x n at h r =
      up-past encode start end xs (sets w (number_at x) (Plan.u16 n)) (place_at n) (Plan.u16 at) (up-past encode start end xs w (number_at x) (Plan.u16 n) r (omega arith)) (omega arith)

  down-noted : {A : Type 0} (encode : A → List ℕ) (width : ℕ) (each : (y : A) → length (encode y) ≡ width) (top low : ℕ) (xs : List A) (w : List ℕ) (x n at : ℕ) → top ≤ diagnostics_at → Down encode width top low xs w → Down encode width top low xs (noted x n at w)
  unfolding noted number_at place_at
  down-noted encode width each top low xs w x n at h r =
      down-above encode width each top low xs (sets w (number_at x) (Plan.u16 n)) (place_at n) (Plan.u16 at) (down-above encode width each top low xs w (number_at x) (Plan.u16 n) r (omega arith)) (omega arith)

  noted-room : (w : List ℕ) (x n at : ℕ) → 65536 ≤ length w → 65536 ≤ length (noted x n at w)
  unfolding noted
  noted-room w x n at h = omega (arith, h, length-sets (sets w (number_at x) (Plan.u16 n)) (place_at n) (Plan.u16 at), length-sets w (number_at x) (Plan.u16 n))

  -- the binding's number and its place, as the memory has them
  noted-as : (b : Binding) (w : List ℕ) → noted b.name (length m.new) (length (concat_map Plan.binding m.new)) w ≡ noted b.name e.binding_count e.bindings w
  noted-as b w =
      let at : length (concat_map Plan.binding m.new) ≡ e.bindings = omega (arith, m.bindings.ends) in
      λ i. noted b.name (sym m.binding_count i) (at i) w

  pub mem-bind : (b : Binding) → BindingNumbers b → b.name < name_limit → lookup l.bindings b.name ≡ None → e.bindings + length (Plan.binding b) ≤ e.constrained → Mem T (lists (l.bindings ++ (b ∷ [])) l.constrained l.selects l.diagnostics) (ends (e.bindings + length (Plan.binding b)) (e.binding_count + 1) e.constrained e.selects e.select_count e.diagnostics) (noted b.name e.binding_count e.bindings (sets work e.bindings (Plan.binding b)))
  mem-bind b n small unbound h =
      let w = sets work e.bindings (Plan.binding b) in
      let other = second-kept e.bindings (Plan.binding b) (omega (arith, h, m.constrained.ends)) in
      record {
        new = m.new ++ (b ∷ []);
        bindings-are = ap (λ x. x ++ (b ∷ [])) m.bindings-are ∙ append_assoc T.bindings m.new (b ∷ []);
        numbers = each_snoc m.numbers n;
        bindings = up-noted Plan.binding bindings_at _ _ w b.name _ _ (omega (arith, h, m.constrained.ends)) (up_more Plan.binding bindings_at e.bindings m.new b work m.bindings (omega (arith, h, m.constrained.ends, m.room)));
        binding_count = omega (arith, m.binding_count, length-append m.new (b ∷ []));
        constrained = down-noted Plan.u16 2 u16-length constrained_at _ _ w b.name _ _ (omega arith) (down-below Plan.u16 2 u16-length constrained_at e.constrained l.constrained work e.bindings (Plan.binding b) m.constrained h);
        selects = up-noted Plan.select selects_at _ _ w b.name _ _ (omega (arith, m.second, m.diagnostics.ends)) other.0;
        select_count = m.select_count;
        diagnostics = down-noted Plan.diagnostic 3 diagnostic-length diagnostics_at _ _ w b.name _ _ (omega arith) other.1;
        first = h;
        second = m.second;
        room = noted-room w b.name e.binding_count e.bindings (still-room e.bindings (Plan.binding b));
        names = each_snoc m.names small;
        tables = subst (λ (k : List ℕ). Named k 0 0 (m.new ++ (b ∷ []))) (noted-as b w)
            (named-next w m.new b m.names (not-among b.name m.new unbound-new) small (omega (arith, h, m.bindings.ends, m.constrained.ends, binding-length b)) (omega (arith, h, m.bindings.ends, m.constrained.ends, binding-length b, length-least Plan.binding 5 (each_all m.new binding-length))) (still-room e.bindings (Plan.binding b))
            (named_past work e.bindings (Plan.binding b) m.new (omega (arith, h, m.constrained.ends)) m.tables));
      }
    where
      unbound-new : lookup m.new b.name ≡ None
      unbound-new = (neither b.name _ _ (sym (lookup-append b.name T.bindings m.new) ∙ ap (λ (bs : List Binding). lookup bs b.name) (sym m.bindings-are) ∙ unbound)).0

  pub mem-constrain : (x : ℕ) → e.bindings + length (Plan.u16 x) ≤ e.constrained → Mem T (lists l.bindings (l.constrained ++ (x ∷ [])) l.selects l.diagnostics) (ends e.bindings e.binding_count (e.constrained - length (Plan.u16 x)) e.selects e.select_count e.diagnostics) (sets work (e.constrained - length (Plan.u16 x)) (Plan.u16 x))
  mem-constrain x h =
      let at = e.constrained - length (Plan.u16 x) in
      let other = second-kept at (Plan.u16 x) (omega (arith, h, m.constrained.ends)) in
      record {
        new = m.new;
        bindings-are = m.bindings-are;
        numbers = m.numbers;
        bindings = up-past Plan.binding bindings_at e.bindings m.new work at (Plan.u16 x) m.bindings (omega (arith, h));
        binding_count = m.binding_count;
        constrained = down-more Plan.u16 2 u16-length constrained_at e.constrained l.constrained x work m.constrained (omega (arith, h)) (omega (arith, m.constrained.ends, m.room));
        selects = other.0;
        select_count = m.select_count;
        diagnostics = other.1;
        first = omega (arith, h);
        second = m.second;
        room = still-room at (Plan.u16 x);
        names = m.names;
        tables = named_past work at (Plan.u16 x) m.new (omega (arith, h, m.constrained.ends)) m.tables;
      }

  pub mem-select : (s : Select) → e.selects + length (Plan.select s) ≤ e.diagnostics → Mem T (lists l.bindings l.constrained (l.selects ++ (s ∷ [])) l.diagnostics) (ends e.bindings e.binding_count e.constrained (e.selects + length (Plan.select s)) (e.select_count + 1) e.diagnostics) (sets work e.selects (Plan.select s))
  mem-select s h =
      let other = first-kept e.selects (Plan.select s) (omega (arith, m.selects.ends)) in
      record {
        new = m.new;
        bindings-are = m.bindings-are;
        numbers = m.numbers;
        bindings = other.0;
        binding_count = m.binding_count;
        constrained = other.1;
        selects = up_more Plan.select selects_at e.selects l.selects s work m.selects (omega (arith, h, m.diagnostics.ends, m.room));
        select_count = omega (arith, m.select_count, length-append l.selects (s ∷ []));
        diagnostics = down-below Plan.diagnostic 3 diagnostic-length diagnostics_at e.diagnostics l.diagnostics work e.selects (Plan.select s) m.diagnostics h;
        first = m.first;
        second = h;
        room = still-room e.selects (Plan.select s);
        names = m.names;
        tables = named_past work e.selects (Plan.select s) m.new (omega (arith, h, m.diagnostics.ends)) m.tables;
      }

  pub mem-report : (d : Diagnostic) → e.selects + length (Plan.diagnostic d) ≤ e.diagnostics → Mem T (lists l.bindings l.constrained l.selects (l.diagnostics ++ (d ∷ []))) (ends e.bindings e.binding_count e.constrained e.selects e.select_count (e.diagnostics - length (Plan.diagnostic d))) (sets work (e.diagnostics - length (Plan.diagnostic d)) (Plan.diagnostic d))
  mem-report d h =
      let at = e.diagnostics - length (Plan.diagnostic d) in
      let other = first-kept at (Plan.diagnostic d) (omega (arith, h, m.selects.ends)) in
      record {
        new = m.new;
        bindings-are = m.bindings-are;
        numbers = m.numbers;
        bindings = other.0;
        binding_count = m.binding_count;
        constrained = other.1;
        selects = up-past Plan.select selects_at e.selects l.selects work at (Plan.diagnostic d) m.selects (omega (arith, h));
        select_count = m.select_count;
        diagnostics = down-more Plan.diagnostic 3 diagnostic-length diagnostics_at e.diagnostics l.diagnostics d work m.diagnostics (omega (arith, h)) (omega (arith, m.diagnostics.ends, m.room));
        first = m.first;
        second = omega (arith, h);
        room = still-room at (Plan.diagnostic d);
        names = m.names;
        tables = named_past work at (Plan.diagnostic d) m.new (omega (arith, h, m.diagnostics.ends)) m.tables;
      }

  -- what the tables lead to
  pub mem-lookup : (x : ℕ) → or_else (made_slot work e.binding_count x) (lookup T.bindings x) ≡ lookup l.bindings x
  mem-lookup x =
      ap (λ (o : Option Slot). or_else o (lookup T.bindings x)) (ap (λ (n : ℕ). made_slot work n x) m.binding_count ∙ made-is work x (drop e.bindings work) m.numbers m.tables (sym (take-append-drop e.bindings work) ∙ ap (λ (bytes : List ℕ). bytes ++ drop e.bindings work) m.bindings.holds))
      ∙ sym (lookup-append x T.bindings m.new)
      ∙ ap (λ (bs : List Binding). lookup bs x) (sym m.bindings-are)

-- how far the diagnostics have come down tells how many there are
pub same-reported : (T : Tables) (l l' : Lists) (e e' : Ends) (work work' : List ℕ) → Mem T l e work → Mem T l' e' work' → eqb e.diagnostics e'.diagnostics ≡ eqb (length l.diagnostics) (length l'.diagnostics)
same-reported T l l' e e' work work' m m' = go (eqb (length l.diagnostics) (length l'.diagnostics)) refl
  where
    here : e.diagnostics + 3 * length l.diagnostics ≡ diagnostics_at
    here = down-low Plan.diagnostic 3 diagnostic-length diagnostics_at e.diagnostics l.diagnostics work m.diagnostics

    there : e'.diagnostics + 3 * length l'.diagnostics ≡ diagnostics_at
    there = down-low Plan.diagnostic 3 diagnostic-length diagnostics_at e'.diagnostics l'.diagnostics work' m'.diagnostics

    go : (b : Bool) → eqb (length l.diagnostics) (length l'.diagnostics) ≡ b → eqb e.diagnostics e'.diagnostics ≡ b
    go true q = eq-eqb e.diagnostics e'.diagnostics (omega (arith, here, there, eqb-true (length l.diagnostics) (length l'.diagnostics) q))
    go false q = ne_eqb e.diagnostics e'.diagnostics (λ s. eqb-false (length l.diagnostics) (length l'.diagnostics) q (omega (arith, here, there, s)))

-- The lists as they were before a walk still stand in the work area after it.
pub mem-back : (T : Tables) (l l' : Lists) (e e' : Ends) (work work' : List ℕ) → Mem T l e work → Mem T l' e' work' → Adds l l' → Mem T l e work'
mem-back T l l' e e' work work' m m' a =
    record {
      new = m.new;
      bindings-are = m.bindings-are;
      numbers = m.numbers;
      bindings = up-back Plan.binding bindings_at e.bindings e'.bindings m.new a.bindings work work' m.bindings (subst (λ bs. Up Plan.binding bindings_at e'.bindings bs work') added m'.bindings);
      binding_count = m.binding_count;
      constrained = down-back Plan.u16 2 u16-length constrained_at e.constrained e'.constrained l.constrained a.constrained-end.0 work work' (omega (arith, m'.room)) m.constrained (subst (λ xs. Down Plan.u16 2 constrained_at e'.constrained xs work') a.constrained-end.1 m'.constrained);
      selects = up-back Plan.select selects_at e.selects e'.selects l.selects a.selects-end.0 work work' m.selects (subst (λ xs. Up Plan.select selects_at e'.selects xs work') a.selects-end.1 m'.selects);
      select_count = m.select_count;
      diagnostics = down-back Plan.diagnostic 3 diagnostic-length diagnostics_at e.diagnostics e'.diagnostics l.diagnostics a.diagnostics-end.0 work work' (omega (arith, m'.room)) m.diagnostics (subst (λ xs. Down Plan.diagnostic 3 diagnostics_at e'.diagnostics xs work') a.diagnostics-end.1 m'.diagnostics);
      first = m.first;
      second = m.second;
      room = m'.room;
      names = m.names;
      tables = named-front work' 0 0 m.new a.bindings (subst (Named work' 0 0) added m'.tables);
    }
  where
    -- what the walk has bound
    added : m'.new ≡ m.new ++ a.bindings
    added =
        new_is T l' m'.new m'.bindings-are
        ∙ ap (drop (length T.bindings)) (a.bindings-end ∙ ap (λ bs. bs ++ a.bindings) m.bindings-are ∙ append_assoc T.bindings m.new a.bindings)
        ∙ drop-append_seam T.bindings (m.new ++ a.bindings)
