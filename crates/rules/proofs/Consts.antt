-- A Var's Const is the file's: "a Const is only ever a starting binding and no bound name is bound anew", so what the walk binds changes no answer of
-- `constant`, and reading the file's bindings there is reading the current ones, in the walk and where a comparison is placed.
use mathlib.Core.Bool.{Bool, true, false}
use mathlib.Core.List.{List, [], ◌∷◌, ◌++◌}
use Rattle.std.specs.Prelude.{Option, None, Some, unwrap_or}
use mathlib.Core.Path.{◌≡◌, refl, sym, ap, ap₂, ◌∙◌, fun_ext}
use Prim.Native.Nat.{ℕ, zero, suc, ◌<◌}
use lib.Dec.{eqb}
use lib.ListN.{length}
use Rattle.rules.specs.Base.{Each, done, more, last_or, ◌when_some◌}
use Rattle.rules.specs.File.{Tables, Ty, Slot, Binding, Comparison, Node, LevelEntry, var_name, name_at, type_at, node_at, predicate_at}
use Rattle.rules.specs.Constant.{Const, bytes_only, lookup, const_node, const_bound, const_of, stands_for, constant_node, constant_below, constant}
use Rattle.rules.specs.Events.{Narrowing, Event, Lists, Walk, bind, constrained, select, report, emit, brings}
use Rattle.rules.specs.Walk.{narrowing, fresh_walk, walk_level}
use Rattle.rules.specs.Placement.{Edges, SeekBuilder, new, with_edges, Compared, is_var, compared, Sided, sided, take_edge, fold_from, place_bound, place, place_all}
use Rattle.rules.specs.Levels.{Level, starting, level_of, level, levels_from, levels}
use Rattle.rules.specs.Now.{with_bindings, constant_now, Placing, on_lists, meet, now_ops, walk_now, level_now, levels_now_from, levels_now}
use Rattle.rules.proofs.Cases.{by-test, eqb-eq, true≢false}
use Rattle.rules.proofs.Each.{Any}
use Rattle.rules.proofs.Sound.{BindingOk, Sound}
use Rattle.rules.proofs.Keeps.{Keeps}
use Rattle.rules.proofs.Runs.{Sim, goes-key}
use Rattle.rules.proofs.Alone.{any-numbers}
use Rattle.rules.proofs.Kept.{place_all-append}

abbrev pub SameConsts : Walk → Walk → Type 0
SameConsts w w' = (x : ℕ) → const_bound w'.lists.bindings x ≡ const_bound w.lists.bindings x

-- the last of a list that goes on
last-append : (found : Option Binding) (p : Binding → Bool) (bs cs : List Binding) → last_or found p (bs ++ cs) ≡ last_or (last_or found p bs) p cs
unfolding last_or
last-append found p [] cs = refl
last-append found p (b ∷ bs) cs =
    elim (p b) as (λ t. elim t [ true ↦ last_or (Some b) p (bs ++ cs) | false ↦ last_or found p (bs ++ cs) ] ≡ last_or (elim t [ true ↦ last_or (Some b) p bs | false ↦ last_or found p bs ]) p cs) [
      | true ↦ last-append (Some b) p bs cs
      | false ↦ last-append found p bs cs
    ]

-- one binding more: it is the last of its name, and of no other
pub const-snoc : (bs : List Binding) (b : Binding) (x : ℕ) → lookup bs b.name ≡ None → const_node b.slot ≡ None → const_bound (bs ++ (b ∷ [])) x ≡ const_bound bs x
unfolding lookup ◌when_some◌ last_or
const-snoc bs b x e c =
    ap (λ (o : Option Binding). (o when_some λ b'. Some b'.slot) when_some const_node) (last-append None (λ b'. eqb b'.name x) bs (b ∷ []))
    ∙ by-test (λ (o : Option Binding). ((o when_some λ b'. Some b'.slot) when_some const_node) ≡ const_bound bs x) (eqb b.name x)
    (λ q. c ∙ sym (ap (λ (o : Option Slot). o when_some const_node) (ap (lookup bs) (sym (eqb-eq b.name x q)) ∙ e)))
    (λ q. refl)

pub consts-keeps : (T : Tables) → Keeps T SameConsts
unfolding bind constrained select report emit brings
consts-keeps T =
    record {
      same = λ w x. refl;
      next = λ u v w g h x. h x ∙ g x;
      binds = λ y slot w e ok c x. const-snoc w.lists.bindings (record { name = y; slot = slot }) x e c;
      constrains = λ y w x. refl;
      selects = λ a p d w h x. refl;
      reports = λ n c h w x. refl;
      skips = λ w x. refl;
      bounds = λ y t w x. refl;
      constants = λ m n t c p w e h x. refl;
      registers = λ m a at p w h h' x. refl;
      facts = λ m a p w h x. refl;
      own-fields = λ m at p w h h' x. refl;
      brought = λ slot ty w x. refl;
      unions = λ m d p w w' h g. g;
    }

-- What `constant` reads of the bindings is which Const each name has.
module _ (T : Tables) (bs : List Binding) (same : (x : ℕ) → const_bound bs x ≡ const_bound T.bindings x) where
  stands-now : (n : ℕ) → stands_for (with_bindings T bs) n ≡ stands_for T n
  unfolding stands_for const_of with_bindings node_at
  stands-now n = ap (λ (f : ℕ → Option ℕ). unwrap_or (var_name (node_at T n) when_some f) n) (fun_ext same)

  node-now : (below : ℕ → ℕ → Option Const) (node : Node) (ty : Ty) → constant_node (with_bindings T bs) below node ty ≡ constant_node T below node ty
  unfolding constant_node with_bindings name_at
  node-now below (Node.Int bytes) ty = refl
  node-now below (Node.Str x) ty = refl
  node-now below (Node.Bytes bytes) ty = refl
  node-now below (Node.Var x) ty = refl
  node-now below Node.Wildcard ty = refl
  node-now below Node.Never ty = refl
  node-now below (Node.Prefix x) ty = refl
  node-now below (Node.Fuzzy x d a) ty = refl
  node-now below (Node.Record fs) ty = refl
  node-now below (Node.Access x n) ty = refl
  node-now below (Node.Value n) ty = refl
  node-now below (Node.Select x n) ty = refl
  node-now below Node.Disjunction ty = refl
  node-now below Node.Subquery ty = refl
  node-now below (Node.Fact p n) ty = refl
  node-now below Node.Arith ty = refl
  node-now below Node.Error ty = refl

  below-now : (limit n t : ℕ) → constant_below (with_bindings T bs) limit n t ≡ constant_below T limit n t
  unfolding constant_below with_bindings node_at type_at
  below-now zero n t = refl
  below-now (suc limit) n t =
      node-now (constant_below (with_bindings T bs) limit) (node_at T (stands_for (with_bindings T bs) n)) (type_at T t)
      ∙ ap₂ (λ (below : ℕ → ℕ → Option Const) (m : ℕ). constant_node T below (node_at T m) (type_at T t))
      (fun_ext (λ m. fun_ext (λ u. below-now limit m u))) (stands-now n)

  constant-now : (n t : ℕ) → constant_now T bs n t ≡ constant T n t
  unfolding constant_now constant with_bindings
  constant-now n t = below-now (length T.types) n t

  -- so a comparison's constant is the same, and with it what placement makes of an event
  sided-now : (x t : ℕ) (c : Comparison) → sided (with_bindings T bs) x t c ≡ sided T x t c
  unfolding sided compared is_var node_at with_bindings constant_now
  sided-now x t c =
      ap (λ (f : Compared → Option Sided). compared T x c when_some f)
      (fun_ext (λ other. ap (λ (found : Option Const). found when_some λ k. bytes_only k when_some λ value. Some (record { op = other.op; value = value })) (constant-now other.node t)))

  fold-now : (x t i : ℕ) (cs : List Comparison) (e : Edges) → fold_from (with_bindings T bs) x t i cs e ≡ fold_from T x t i cs e
  unfolding fold_from
  fold-now x t i [] e = refl
  fold-now x t i (c ∷ cs) e =
      fold-now x t (suc i) cs _
      ∙ ap (λ (s : Option Sided). fold_from T x t (suc i) cs (elim s [ None ↦ e | Some s' ↦ take_edge i s'.op s'.value e ])) (sided-now x t c)

  place-now : (e : Event) (b : SeekBuilder) → place (with_bindings T bs) e b ≡ place T e b
  unfolding place place_bound with_bindings
  place-now (Event.narrow n path x) b = refl
  place-now Event.skip b = refl
  place-now (Event.closer n) b = refl
  place-now (Event.bound x t) b =
      ap (λ (edges : Edges). elim b.building [ true ↦ with_edges edges b | false ↦ b ]) (fold-now x t 0 T.comparisons b.edges)

-- the written walk with its events placed
placed : Tables → Walk → Placing
placed T a = record { walk = a; built = place_all T a.events new }

-- the two readings side by side: the same lists, events and placements, and in them the file's Consts
record Now (T : Tables) (a : Walk) (c : Placing) : Type 0 where
  same : c ≡ placed T a
  consts : (x : ℕ) → const_bound a.lists.bindings x ≡ const_bound T.bindings x

now-meet : (T : Tables) (e : Event) (a : Walk) (c : Placing) → Now T a c → Now T (emit e a) (meet T e c)
unfolding emit meet placed place_all
now-meet T e a c r =
    record {
      same =
          ap (meet T e) r.same
          ∙ ap (λ (b : SeekBuilder). record { walk = emit e a; built = b })
          (place-now T a.lists.bindings r.consts e (place_all T a.events new) ∙ sym (place_all-append T a.events (e ∷ []) new));
      consts = r.consts;
    }

now-bind : (T : Tables) (x : ℕ) (slot : Slot) (a : Walk) (c : Placing) → lookup a.lists.bindings x ≡ None → const_node slot ≡ None → Now T a c
    → Now T (bind x slot a) (on_lists (bind x slot) c)
unfolding bind on_lists placed
now-bind T x slot a c e k r =
    record {
      same = ap (on_lists (bind x slot)) r.same;
      consts = λ y. const-snoc a.lists.bindings (record { name = x; slot = slot }) y e k ∙ r.consts y;
    }

now-runs : (T : Tables) (address : ℕ) → Sim T Any Any (now_ops T) (λ c. false) address SameConsts (Now T)
unfolding const_node constrained select report brings on_lists placed
now-runs T address =
    record {
      idle = λ c e. absurd (true≢false (sym e));
      stays = λ a a' c e m r. absurd (true≢false (sym e));
      lookups = λ a c f e r x. ap (λ (s : Placing). lookup s.walk.lists.bindings x) r.same;
      reported = λ a b c d e e' r r'.
          ap₂ (λ (v w : Placing). eqb (length v.walk.lists.diagnostics) (length w.walk.lists.diagnostics)) r.same r'.same;
      constant-is = λ a c r n t.
          ap (λ (s : Placing). constant_now T s.walk.lists.bindings n t) r.same ∙ constant-now T a.lists.bindings r.consts n t;
      fields = λ x t p a c e n s r. now-bind T x (Slot.Field address p t) a c e refl r;
      keys = λ x t a c e n l r. now-bind T x (Slot.Key address t) a c e refl r;
      constrains = λ x a c r. record { same = ap (on_lists (constrained x)) r.same; consts = r.consts };
      selects = λ n p d a c s r. record { same = ap (on_lists (select n p d)) r.same; consts = r.consts };
      reports = λ n code a c r. record { same = ap (on_lists (report n code)) r.same; consts = r.consts };
      skips = λ a c r. now-meet T Event.skip a c r;
      bounds = λ x t a c r. now-meet T Event.skip _ _ (now-meet T (Event.bound x t) a c r);
      constants = λ m n t k p a c e s r. now-meet T (Event.narrow m p (narrowing k)) a c r;
      registers = λ m n at p a c s s' r. now-meet T (Event.narrow m p (Narrowing.RegisterField n at)) a c r;
      facts = λ m n p a c s r. now-meet T (Event.narrow m p (Narrowing.FactId n)) a c r;
      own-fields = λ m at p a c s s' r. now-meet T (Event.narrow m p (Narrowing.OwnField at)) a c r;
      tags = λ m d p a c s r. now-meet T (Event.narrow m p (Narrowing.Tag d)) a c r;
      closers = λ m a c r. now-meet T (Event.closer m) a c r;
      brought = λ slot ty a c r. record { same = ap (on_lists (brings T slot ty)) r.same; consts = r.consts };
    }

module _ (T : Tables) (S : Sound T) where
  -- one level, from any lists that hold the file's Consts
  level-now : (l : LevelEntry) → l.predicate < length T.predicates → (lists : Lists) → Each (BindingOk T) lists.bindings
      → ((x : ℕ) → const_bound lists.bindings x ≡ const_bound T.bindings x)
      → Now T (walk_level T l lists) (walk_now T l lists) × Each (BindingOk T) (walk_level T l lists).lists.bindings
  unfolding walk_level walk_now placed place_all
  level-now l h lists fit same =
      let start = fresh_walk lists in
      let b = goes-key T S Any Any (any-numbers T) (now_ops T) (λ c. false) l.address SameConsts (Now T) (consts-keeps T) (now-runs T l.address) l.node (predicate_at T l.predicate).key start (record { walk = start; built = new }) (S.keys l.predicate h) fit (record { same = refl; consts = same }) in
      (b.rel, b.fit)

  levels-now-from : (start : Lists) {entries : List LevelEntry} → Each (λ l. l.predicate < length T.predicates) entries → Each (BindingOk T) start.bindings
      → ((x : ℕ) → const_bound start.bindings x ≡ const_bound T.bindings x)
      → levels_now_from T start entries ≡ levels_from T start entries
  unfolding levels_now_from levels_from level level_of level_now placed
  levels-now-from start done fit same = refl
  levels-now-from start (more {x = entry} {xs = entries} h hs) fit same =
      let n = level-now entry h start fit same in
      ap (λ (s : Placing). level_now start s ∷ levels_now_from T s.walk.lists entries) n.0.same
      ∙ ap (λ (ls : List Level). level T entry start ∷ ls) (levels-now-from (walk_level T entry start).lists hs n.1 n.0.consts)

  -- A file's whole list of levels: where `constant` reads the bindings as they stand at each call, in the walk and in placement, the levels have the same
  -- events, the same four lists and the same placements.
  pub levels-now : levels_now T ≡ levels T
  unfolding levels_now levels starting
  levels-now = levels-now-from (starting T) S.levels S.bindings (λ x. refl)
