-- A chain of reads: the way down, step by step, and the way up to what `resolve` gives.
use Rattle.std.specs.Prelude.{Option, None, Some}
use Rattle.slots.specs.declared.Slot.{Slot}
use Prim.Native.Nat.{ℕ, zero, suc, ◌+◌, ◌-◌, ◌≤◌, ◌<◌}
use mathlib.Core.Path.{◌≡◌, refl, sym, ap, ◌∙◌, subst}
use mathlib.Core.Bool.{Bool, true, false}
use mathlib.Core.List.{List, [], ◌∷◌, ◌++◌}
use mathlib.Core.Logic.{⊎_elim}
use native.Mathlib.Omega.{arith}
use native.Mathlib.Numerals.{add-one}
use lib.ListN.{length, get_or, set, take, length-set, get_or-eq_default}
use lib.Seq.{sets, sets-eq, length-sets, take-suc, take-append_seam}
use Rattle.rules.specs.File.{Tables, Node, node_at, is_constant}
use Rattle.rules.specs.Resolve as ResolveRules
use Rattle.rules.specs.Resolve.{◌when_found◌, give, resolve}
use Rattle.rules.proofs.Cases.{by-test, some≢none}
use Rattle.rules.proofs.Sound.{Sound}
use Rattle.file.proofs.Readers.{lt-or-le}
use Rattle.state.specs.State.{Level, Target, State, new_level, no_target}
use Rattle.state.specs.Ops.{ops}
use Rattle.lists.specs.declared.Lists.{Lists}
use Rattle.slots.specs.Slots.{tidied}
use Rattle.slots.proofs.Tidy.{no-slot}
use Rattle.resolve.specs.Resolved.{given, found, answer_with, answer_of, Answers, Follows, Climbs, GivenSlotRoom, base_of, read_past, leaf_at}
use Rattle.resolve.specs.Chains.{read_of, passing, chain, ending, bottom, read_by, read_up, climb}
use Rattle.resolve.specs.declared.Answer.{Answer}
use Rattle.resolve.specs.declared.Chain.{Chain}
use Rattle.resolve.specs.declared.Read.{Read}
use Rattle.resolve.proofs.Steps.{Lower}
use Rattle.resolve.proofs.Rooms.{read-room, resolved-room}
use Rattle.resolve.proofs.Answers.{no-base, base-lower, resolve-constant, resolve-other, step_by, constant-leaf, other-leaf, answers-as, rooms-from, gives-is}

module _ (T : Tables) where
  -- what a node reads of, by its constancy
  abbrev reads : ℕ → Bool → Option (Read × ℕ)
  reads n b = elim b [ true ↦ None | false ↦ base_of (node_at T n) ]

  pub constant-reads : (n : ℕ) → is_constant T n ≡ true → None ≡ read_of T n
  unfolding read_of
  constant-reads n e = ap (reads n) (sym e)

  pub other-reads : (n : ℕ) (b : Option (Read × ℕ)) → is_constant T n ≡ false → b ≡ base_of (node_at T n) → b ≡ read_of T n
  unfolding read_of
  other-reads n b e g = g ∙ ap (reads n) (sym e)

  -- a node that reads of another is no constant, and one of the file's
  reader : (n : ℕ) (read : Read) (b : ℕ) → read_of T n ≡ Some (read, b) → (is_constant T n ≡ false) × (base_of (node_at T n) ≡ Some (read, b))
  unfolding read_of
  reader n read b =
      by-test (λ (x : Option (Read × ℕ)). x ≡ Some (read, b) → (is_constant T n ≡ false) × (base_of (node_at T n) ≡ Some (read, b))) (is_constant T n) (λ e g. absurd (no-base (sym g)))
      (λ e g. (e, g))

  pub reader-in : (n : ℕ) (read : Read) (b : ℕ) → read_of T n ≡ Some (read, b) → n < length T.nodes
  unfolding node_at base_of
  reader-in n read b e =
      ⊎_elim (λ h. h) (λ h. absurd (no-base (sym (reader n read b e).1 ∙ ap base_of (get_or-eq_default T.nodes Node.Error h)))) (lt-or-le n (length T.nodes))

  -- the way down
  chain_more : (most m n : ℕ) (read : Read) (b : ℕ) → most ≡ m + 1 → read_of T n ≡ Some (read, b) → chain T most n ≡ n ∷ chain T m b
  unfolding chain
  chain_more most m n read b h e = ap (λ (k : ℕ). chain T k n) (h ∙ add-one m) ∙ ap (passing n (chain T m)) e

  bottom-more : (most m n : ℕ) (read : Read) (b : ℕ) → most ≡ m + 1 → read_of T n ≡ Some (read, b) → bottom T most n ≡ bottom T m b
  unfolding bottom
  bottom-more most m n read b h e = ap (λ (k : ℕ). bottom T k n) (h ∙ add-one m) ∙ ap (ending n (bottom T m)) e

  chain-end : (most n : ℕ) → read_of T n ≡ None → chain T most n ≡ []
  unfolding chain
  chain-end zero n e = refl
  chain-end (suc m) n e = ap (passing n (chain T m)) e

  bottom-end : (most n : ℕ) → read_of T n ≡ None → bottom T most n ≡ n
  unfolding bottom
  bottom-end zero n e = refl
  bottom-end (suc m) n e = ap (ending n (bottom T m)) e

  chain-full : (most n : ℕ) → most ≡ 0 → chain T most n ≡ []
  unfolding chain
  chain-full most n e = ap (λ (k : ℕ). chain T k n) e

  bottom-full : (most n : ℕ) → most ≡ 0 → bottom T most n ≡ n
  unfolding bottom
  bottom-full most n e = ap (λ (k : ℕ). bottom T k n) e

  -- after k nodes: the whole way is what was written, and the way that is left
  pub record Down (before : List ℕ) (node : ℕ) (trail : List ℕ) (n k : ℕ) : Type 0 where
    pub written : sets before 0 (chain T (length before) node) ≡ sets trail k (chain T (length before - k) n)
    pub passed : length (chain T (length before) node) ≡ k + length (chain T (length before - k) n)
    pub ends : bottom T (length before) node ≡ bottom T (length before - k) n
    pub within : k ≤ length before
    pub long : length trail ≡ length before

  pub down-first : (before : List ℕ) (node : ℕ) → Down before node before node 0
  down-first before node =
      let e : length before ≡ length before - 0 = omega arith in
      record {
        written = ap (λ (k : ℕ). sets before 0 (chain T k node)) e;
        passed = let l = ap (λ (k : ℕ). length (chain T k node)) e in omega (arith, l);
        ends = ap (λ (k : ℕ). bottom T k node) e;
        within = omega arith;
        long = refl;
      }

  module _ {before : List ℕ} {node : ℕ} {trail : List ℕ} {n k : ℕ} (d : Down before node trail n k) where
    pub down-more : (read : Read) (b : ℕ) → read_of T n ≡ Some (read, b) → k < length before → Down before node (set trail k n) b (k + 1)
    down-more read b e h =
        let m : length before - k ≡ (length before - (k + 1)) + 1 = omega arith in
        let c = chain_more (length before - k) (length before - (k + 1)) n read b m e in
        record {
          written = d.written ∙ ap (sets trail k) c ∙ ap (λ (j : ℕ). sets (set trail k n) j (chain T (length before - (k + 1)) b)) (sym (add-one k));
          passed = let l = ap length c in omega (arith, l, d.passed);
          ends = d.ends ∙ bottom-more (length before - k) (length before - (k + 1)) n read b m e;
          within = omega arith;
          long = length-set trail k n ∙ d.long;
        }

    -- where nothing is left
    down-over : chain T (length before - k) n ≡ [] → bottom T (length before - k) n ≡ n
        → (◌≡◌ {A = Chain} (record { passed = k; node = n }) (record { passed = length (chain T (length before) node); node = bottom T (length before) node })) × (trail ≡ sets before 0 (chain T (length before) node))
    down-over c b =
        let p : k ≡ length (chain T (length before) node) = let l = ap length c in omega (arith, l, d.passed) in
        let e : n ≡ bottom T (length before) node = sym (d.ends ∙ b) in
        (ap {B = Chain} (λ (k : ℕ). record { passed = k; node = n }) p ∙ ap {B = Chain} (λ (n : ℕ). record { passed = length (chain T (length before) node); node = n }) e, sym (d.written ∙ ap (sets trail k) c))

    pub down-end : read_of T n ≡ None
        → (◌≡◌ {A = Chain} (record { passed = k; node = n }) (record { passed = length (chain T (length before) node); node = bottom T (length before) node })) × (trail ≡ sets before 0 (chain T (length before) node))
    down-end e = down-over (chain-end _ n e) (bottom-end _ n e)

    pub down-full : length before ≤ k
        → (◌≡◌ {A = Chain} (record { passed = length trail; node = n }) (record { passed = length (chain T (length before) node); node = bottom T (length before) node })) × (trail ≡ sets before 0 (chain T (length before) node))
    down-full h =
        let e : length before - k ≡ 0 = omega arith in
        let p : length trail ≡ k = omega (arith, d.long, d.within) in
        let r = down-over (chain-full _ n e) (bottom-full _ n e) in
        (ap {B = Chain} (λ (k : ℕ). record { passed = k; node = n }) p ∙ r.0, r.1)

  pub chain-most : (most n : ℕ) → length (chain T most n) ≤ most
  unfolding chain
  chain-most zero n = omega arith
  chain-most (suc m) n = go (chain-most m) (read_of T n)
    where
      go : ((b : ℕ) → length (chain T m b) ≤ m) → (x : Option (Read × ℕ)) → length (passing n (chain T m) x) ≤ suc m
      go rec None = omega arith
      go rec (Some (read, b)) = omega (arith, rec b)

  -- a trail that was not filled
  pub not-filled : (before : List ℕ) (node : ℕ) {trail : List ℕ} {c : Chain} → (c ≡ record { passed = length (chain T (length before) node); node = bottom T (length before) node }) × (trail ≡ sets before 0 (chain T (length before) node))
      → (c.passed ≡ length before → ⊥) → length (chain T (length before) node) < length before
  not-filled before node {trail} {c} d h =
      let p = ap (λ (c : Chain). c.passed) d.0 in
      ⊎_elim (λ g. g) (λ g. absurd (h (omega (arith, p, g, chain-most (length before) node)))) (lt-or-le (length (chain T (length before) node)) (length before))

  -- a way that is shorter than it might be ends at a node that reads of no other
  pub bottom-stops : (most n : ℕ) → length (chain T most n) < most → read_of T (bottom T most n) ≡ None
  unfolding chain bottom
  bottom-stops zero n h = absurd (omega arith)
  bottom-stops (suc m) n h = go (bottom-stops m) (read_of T n) refl h
    where
      go : ((b : ℕ) → length (chain T m b) < m → read_of T (bottom T m b) ≡ None) → (x : Option (Read × ℕ)) → read_of T n ≡ x → length (passing n (chain T m) x) < suc m → read_of T (ending n (bottom T m) x) ≡ None
      go rec None e h = e
      go rec (Some (read, b)) e h = rec b (omega arith)

  -- what was written, and only that, is the chain
  pub chain-kept : (before trail : List ℕ) (node : ℕ) → trail ≡ sets before 0 (chain T (length before) node) → length (chain T (length before) node) ≤ length before
      → take (length (chain T (length before) node)) trail ≡ chain T (length before) node
  chain-kept before trail node e h =
      let c = chain T (length before) node in
      ap (take (length c)) (e ∙ sets-eq c before 0 (omega arith)) ∙ take-append_seam c _

  -- the way up
  climb-last : (ns : List ℕ) (n : ℕ) (a : ResolveRules.Answer State) → climb T (ns ++ (n ∷ [])) a ≡ climb T ns (read_up T n a)
  unfolding climb
  climb-last [] n a = refl
  climb-last (m ∷ ms) n a = ap (read_up T m) (climb-last ms n a)

  climb-more : (trail : List ℕ) (k j : ℕ) (a : ResolveRules.Answer State) → k ≡ j + 1 → j < length trail → climb T (take k trail) a ≡ climb T (take j trail) (read_up T (get_or trail j 0) a)
  climb-more trail k j a e h = ap (λ (ns : List ℕ). climb T ns a) (ap (λ (k : ℕ). take k trail) (e ∙ add-one j) ∙ take-suc trail j 0 h) ∙ climb-last (take j trail) (get_or trail j 0) a

  up-rooms : (S : Sound T) (n : ℕ) (a : ResolveRules.Answer State) → GivenSlotRoom T a.slot → GivenSlotRoom T (read_up T n a).slot
  unfolding read_up
  up-rooms S n a = go (base_of (node_at T n))
    where
      go : (x : Option (Read × ℕ)) → GivenSlotRoom T a.slot → GivenSlotRoom T (read_by T n x a).slot
      go None h = λ s e. absurd (some≢none s (sym e))
      go (Some (read, b)) h = read-room S n read a h

  -- with k nodes left: the whole climb is the climb that is left
  pub record Up (trail : List ℕ) (passed : ℕ) (end : Answer) (w : List ℕ) (below : Answer) (w' : List ℕ) (k : ℕ) : Type 0 where
    pub is : (level : Level) (target : Target) (plan : List ℕ) → climb T (take passed trail) (answer_of end level target w plan) ≡ climb T (take k trail) (answer_of below level target w' plan)
    pub rooms : GivenSlotRoom T (given below)
    pub tidy : found below ≡ tidied (found below)
    pub within : k ≤ passed

  pub up_first : (trail : List ℕ) (passed : ℕ) (end : Answer) (w : List ℕ) → GivenSlotRoom T (given end) → found end ≡ tidied (found end) → Up trail passed end w end w passed
  up_first trail passed end w h t = record { is = λ level target plan. refl; rooms = h; tidy = t; within = omega arith }

  module _ {trail : List ℕ} {passed : ℕ} {end : Answer} {w : List ℕ} {below : Answer} {w' : List ℕ} {k : ℕ} (u : Up trail passed end w below w' k) where
    pub up_more : (S : Sound T) {j n : ℕ} {r : Answer} {w'' : List ℕ} → k ≡ j + 1 → j < length trail → n ≡ get_or trail j 0 → Climbs (read_up T n) below w' r w'' → Up trail passed end w r w'' j
    up_more S {j} {n} {r} {w''} e h g c =
        record {
          is = λ level target plan.
              u.is level target plan ∙ climb-more trail k j _ e h ∙ ap (λ (n : ℕ). climb T (take j trail) (read_up T n (answer_of below level target w' plan))) (sym g)
              ∙ ap (climb T (take j trail)) (sym (c.is level target plan));
          rooms = subst (GivenSlotRoom T) (sym (ap (λ (a : ResolveRules.Answer State). a.slot) (c.is new_level no_target []))) (up-rooms S n _ u.rooms);
          tidy = c.tidy;
          within = omega (arith, u.within);
        }

    pub up-end : k ≡ 0 → Climbs (climb T (take passed trail)) end w below w'
    unfolding climb
    up-end e = record { is = λ level target plan. sym (u.is level target plan ∙ ap (λ (k : ℕ). climb T (take k trail) (answer_of below level target w' plan)) e); tidy = u.tidy }

  -- a read of the answer below, by what the node reads of
  module _ (n : ℕ) {a : Answer} {w : List ℕ} where
    pub up-nothing : {r : Answer} {f : Option Slot} → None ≡ base_of (node_at T n) → f ≡ None → r ≡ answer_with f a.lists → Climbs (read_up T n) a w r w
    unfolding read_up give
    up-nothing {r} {f} e u h =
        let b = gives-is {w = w} h (no-slot u) in
        record { is = λ level target plan. b.is level target plan ∙ ap (λ (x : Option (Read × ℕ)). read_by T n x (answer_of a level target w plan)) e; tidy = b.tidy }

    pub up-read : {r : Answer} {w' : List ℕ} (read : Read) (b : ℕ) → Some (read, b) ≡ base_of (node_at T n) → Follows (read_past T n read) a w r w' → Climbs (read_up T n) a w r w'
    unfolding read_up
    up-read {r} {w'} read b e h = record { is = λ level target plan. h.is level target plan ∙ ap (λ (x : Option (Read × ℕ)). read_by T n x (answer_of a level target w plan)) e; tidy = h.tidy }

  -- up from the answer at the end
  pub up-from : (ns : List ℕ) (n : ℕ) {l : Lists} {w : List ℕ} (end : Answer) {v : List ℕ} {r : Answer} {w' : List ℕ} → Answers (leaf_at T n) l w end v → Climbs (climb T ns) end v r w'
      → Answers (λ s. climb T ns (leaf_at T n s)) l w r w'
  up-from ns n end a k = record { is = λ level target plan. k.is level target plan ∙ ap (climb T ns) (a.is level target plan); tidy = k.tidy }

  module _ (lower : Lower T) where
    -- a chain has fewer nodes than its first one's number, and so than the file may have
    chain-below : (most n : ℕ) → length (chain T most n) ≤ n
    unfolding chain
    chain-below zero n = omega arith
    chain-below (suc m) n = go (chain-below m) (read_of T n) refl
      where
        go : ((b : ℕ) → length (chain T m b) ≤ b) → (x : Option (Read × ℕ)) → read_of T n ≡ x → length (passing n (chain T m) x) ≤ n
        go rec None e = omega arith
        go rec (Some (read, b)) e = omega (arith, rec b, base-lower T lower n read b (sym (reader n read b e).1))

    pub chain-few : (limit most n : ℕ) → 0 < limit → length T.nodes ≤ limit → length (chain T most n) < limit
    chain-few limit most n h l = go (read_of T n) refl
      where
        go : (x : Option (Read × ℕ)) → read_of T n ≡ x → length (chain T most n) < limit
        go None e = let c = ap length (chain-end most n e) in omega (arith, c)
        go (Some (read, b)) e = omega (arith, reader-in n read b e, chain-below most n)

    -- a node reads of the node below it what `resolve` gives there; one that reads of no other is a leaf
    up_step : (n : ℕ) (read : Read) (b : ℕ) (s : State) → read_of T n ≡ Some (read, b) → read_up T n (resolve (ops T) T b s) ≡ resolve (ops T) T n s
    unfolding read_up ◌when_found◌
    up_step n read b s e =
        let r = reader n read b e in
        ap (λ (x : Option (Read × ℕ)). read_by T n x (resolve (ops T) T b s)) r.1 ∙ ap (λ (x : Option (Read × ℕ)). step_by T (resolve (ops T) T) n (node_at T n) x s) (sym r.1)
        ∙ sym (resolve-other T lower n s r.0)

    pub leaf-step : (n : ℕ) → read_of T n ≡ None → (s : State) → leaf_at T n s ≡ resolve (ops T) T n s
    unfolding read_of
    leaf-step n e s =
        by-test (λ (x : Option (Read × ℕ)). x ≡ None → leaf_at T n s ≡ resolve (ops T) T n s) (is_constant T n) (λ h g. constant-leaf T n h s ∙ sym (resolve-constant T lower n s h))
        (λ h g. other-leaf T n h s ∙ ap (λ (x : Option (Read × ℕ)). step_by T (resolve (ops T) T) n (node_at T n) x s) (sym g) ∙ sym (resolve-other T lower n s h)) e

    -- the end's slot has room
    pub end-rooms : (S : Sound T) (n : ℕ) → read_of T n ≡ None → {l : Lists} {w : List ℕ} {r : Answer} {w' : List ℕ} → Answers (leaf_at T n) l w r w' → GivenSlotRoom T (given r)
    end-rooms S n e a = rooms-from T (answers-as (leaf-step n e) a) (λ s. resolved-room S n s)

    climb-all : (most n : ℕ) (s : State) → climb T (chain T most n) (resolve (ops T) T (bottom T most n) s) ≡ resolve (ops T) T n s
    unfolding chain bottom climb
    climb-all zero n s = refl
    climb-all (suc m) n s = go (λ b. climb-all m b s) (read_of T n) refl
      where
        go : ((b : ℕ) → climb T (chain T m b) (resolve (ops T) T (bottom T m b) s) ≡ resolve (ops T) T b s) → (x : Option (Read × ℕ)) → read_of T n ≡ x → climb T (passing n (chain T m) x) (resolve (ops T) T (ending n (bottom T m) x) s) ≡ resolve (ops T) T n s
        go rec None e = refl
        go rec (Some (read, b)) e = ap (read_up T n) (rec b) ∙ up_step n read b s e

    -- down and up again is `resolve`
    module _ (before : List ℕ) (node : ℕ) {trail : List ℕ} {c : Chain} (d : (c ≡ record { passed = length (chain T (length before) node); node = bottom T (length before) node }) × (trail ≡ sets before 0 (chain T (length before) node)))
        (h : length (chain T (length before) node) < length before) where
      pub end-reads : read_of T c.node ≡ None
      end-reads = ap (λ (c : Chain). read_of T c.node) d.0 ∙ bottom-stops (length before) node h

      pub chain-is : {l : Lists} {w : List ℕ} {r : Answer} {w' : List ℕ} → Answers (λ s. climb T (take c.passed trail) (leaf_at T c.node s)) l w r w' → Answers (resolve (ops T) T node) l w r w'
      chain-is {l} {w} {r} {w'} a =
          answers-as
          (λ s.
          ap (climb T (take c.passed trail)) (leaf-step c.node end-reads s)
          ∙ ap (λ (c : Chain). climb T (take c.passed trail) (resolve (ops T) T c.node s)) d.0
          ∙ ap (λ (ns : List ℕ). climb T ns (resolve (ops T) T (bottom T (length before) node) s)) (chain-kept before trail node d.1 (omega arith))
          ∙ climb-all (length before) node s)
          a

      -- the trail holds the way
      pub passed-within : c.passed ≤ length trail
      passed-within = let p = ap (λ (c : Chain). c.passed) d.0 in let t = ap length d.1 in omega (arith, p, t, length-sets before 0 (chain T (length before) node), h)
