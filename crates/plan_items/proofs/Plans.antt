-- What a plan that was read holds: the view of its five lists, and which item of each stands where. `opened` of plan_form's Places has the items of
-- the five lists by their number; here stand those of a level.
use Prim.Native.Nat.{ℕ, ◌+◌, ◌≤◌, ◌<◌}
use mathlib.Core.Path.{◌≡◌, refl, sym, ap, ◌∙◌, subst}
use mathlib.Core.List.{List}
use native.Mathlib.Omega.{arith}
use lib.ListN.{length, get_or}
use Rattle.rules.specs.Read.{Reader, u16, many}
use Rattle.rules.specs.Reader as Reader
use Rattle.rules.specs.File.{Binding}
use Rattle.rules.specs.Events.{Select, Diagnostic}
use Rattle.rules.specs.Placement.{Part, Residual}
use Rattle.rules.specs.Plan.{PlanLevel, Plan}
use Rattle.file.specs.Steps.{word_limit, word, step_at}
use Rattle.file.proofs.Readers.{alike-step}
use Rattle.file.proofs.Suffix.{Suffix, suffix-u16}
use Rattle.plan_form.specs.Places.{plan_of, Opened, Found}
use Rattle.plan_form.specs.Pieces.{item_of}
use Rattle.plan_form.specs.declared.Kind.TheVariants as Kinds
use Rattle.plan_form.proofs.Forward.{suffix-part, suffix-residual}
use Rattle.plan_form.proofs.Lists.{alike-binding, alike_select, alike-counted}
use Rattle.plan_form.proofs.Places.{ItemAt, ListAt, item-at, opened}
use Rattle.plan_items.specs.Items.{items_at, list_of, list_view, past_of, plan_viewed, ListInside, PlanInside}
use Rattle.plan_items.specs.declared.ListView.{ListView}
use Rattle.plan_items.specs.declared.PlanView.{PlanView}
use Rattle.plan_items.proofs.Founds.{unwrapped, found-one, items-are}
use Rattle.plan_items.proofs.Leaves.{part-inside, residual-path, path-within}
use Rattle.plan_items.proofs.Slots.{number-inside}
use Rattle.std.specs.Prelude.{Result}
use Rattle.std.specs.Result.{result_unwrap_or}
use Rattle.file.specs.Refusals.{numbered}
use Rattle.file.specs.declared.Refusal.{Refusal}

-- the levels, from position 2 on
module _ (f : List ℕ) (x : Opened f) where
  pub levels-inside : 2 ≤ length f
  levels-inside = (opened f x).levels-at.inside

  pub levels-found : (n : ℕ) → n ≡ word f 0 → Found f (many n Reader.level) 2
  levels-found n e = rw e (record { item = (plan_of f).levels; rest = _; reads = (opened f x).levels-at.reads })

  pub opened-levels : (n : ℕ) → n ≡ word f 0 → items_at f Reader.level n 2 ≡ (plan_of f).levels
  opened-levels n e = rw e (items-are f Reader.level (word f 0) 2 (plan_of f).levels _ (opened f x).levels-at.reads)

-- each list's count is there
module _ (f : List ℕ) (x : Opened f) (p : ℕ) where
  pub at-bindings : p ≡ (opened f x).bindings → p + 2 ≤ length f
  at-bindings h = omega (arith, (opened f x).bindings-at.inside)

  pub at-constrained : p ≡ (opened f x).constrained → p + 2 ≤ length f
  at-constrained h = omega (arith, (opened f x).constrained-at.inside)

  pub at-selects : p ≡ (opened f x).selects → p + 2 ≤ length f
  at-selects h = omega (arith, (opened f x).selects_at.inside)

  pub at-diagnostics : p ≡ (opened f x).diagnostics → p + 2 ≤ length f
  at-diagnostics h = omega (arith, (opened f x).diagnostics-at.inside)

-- where the walk over the lists comes by
module _ (f : List ℕ) (x : Opened f) (p : ℕ) (s : Result ℕ Refusal) (q : ℕ) (g : q ≡ result_unwrap_or s 0) where
  pub past-levels : p ≡ 0 → numbered s ≡ step_at f (Reader.counted Reader.level) p → q ≡ (opened f x).bindings
  past-levels h e = g ∙ unwrapped s ∙ ap past_of (e ∙ ap (step_at f (Reader.counted Reader.level)) h ∙ (opened f x).levels-end)

  pub past-bindings : p ≡ (opened f x).bindings → numbered s ≡ step_at f (Reader.counted (item_of Kinds.Binding)) p → q ≡ (opened f x).constrained
  past-bindings h e =
      g ∙ unwrapped s ∙ ap past_of (e ∙ sym (alike-step f (alike-counted alike-binding) p) ∙ ap (step_at f (Reader.counted Reader.binding)) h ∙ (opened f x).bindings-end)

  pub past-constrained : p ≡ (opened f x).constrained → numbered s ≡ step_at f (Reader.counted u16) p → q ≡ (opened f x).selects
  past-constrained h e = g ∙ unwrapped s ∙ ap past_of (e ∙ ap (step_at f (Reader.counted u16)) h ∙ (opened f x).constrained-end)

  pub past-selects : p ≡ (opened f x).selects → numbered s ≡ step_at f (Reader.counted (item_of Kinds.Select)) p → q ≡ (opened f x).diagnostics
  past-selects h e =
      g ∙ unwrapped s ∙ ap past_of (e ∙ sym (alike-step f (alike-counted alike_select) p) ∙ ap (step_at f (Reader.counted Reader.select)) h ∙ (opened f x).selects-end)

-- a list by its view
module _ {A : Type 0} (f : List ℕ) (r : Reader A) (q : ℕ) (xs : List A) (l : ListAt f r q xs) (p stop : ℕ) (h : p ≡ q) where
  module _ (v : ListView) (e : v ≡ list_view f p stop) where
    here : list_view f q stop ≡ v
    here = sym (e ∙ ap (λ (j : ℕ). list_view f j stop) h)

    list-is : xs ≡ list_of f r v
    list-is = sym (items-are f r (word f q) (q + 2) xs _ l.reads) ∙ ap (λ (w : ListView). list_of f r w) here

    list_inside : v.count < word_limit → ListInside f r v
    list_inside k = record { found = subst (λ (w : ListView). Found f (many w.count r) w.at) here (record { item = xs; rest = _; reads = l.reads }); few = k }

pub list-made : (f : List ℕ) (p stop n : ℕ) → n ≡ word f p → ◌≡◌ {A = ListView} (record { count = n; at = p + 2; end = stop }) (list_view f p stop)
list-made f p stop n e = ap {B = ListView} (λ (j : ℕ). record { count = j; at = p + 2; end = stop }) e

-- the whole plan
plan-is : (f : List ℕ) (P : Plan) (v : PlanView) → P.levels ≡ list_of f Reader.level v.levels → P.bindings ≡ list_of f Reader.binding v.bindings
    → P.constrained ≡ list_of f u16 v.constrained → P.selects ≡ list_of f Reader.select v.selects → P.diagnostics ≡ list_of f Reader.diagnostic v.diagnostics → P ≡ plan_viewed f v
plan-is f P v a b c d e =
    ap {B = Plan} (λ (l : List PlanLevel). record { levels = l; bindings = P.bindings; constrained = P.constrained; selects = P.selects; diagnostics = P.diagnostics }) a
    ∙ ap {B = Plan} (λ (l : List Binding). record { levels = (plan_viewed f v).levels; bindings = l; constrained = P.constrained; selects = P.selects; diagnostics = P.diagnostics }) b
    ∙ ap {B = Plan} (λ (l : List ℕ). record { levels = (plan_viewed f v).levels; bindings = (plan_viewed f v).bindings; constrained = l; selects = P.selects; diagnostics = P.diagnostics }) c
    ∙ ap {B = Plan} (λ (l : List Select). record { levels = (plan_viewed f v).levels; bindings = (plan_viewed f v).bindings; constrained = (plan_viewed f v).constrained; selects = l; diagnostics = P.diagnostics }) d
    ∙ ap {B = Plan} (λ (l : List Diagnostic). record { levels = (plan_viewed f v).levels; bindings = (plan_viewed f v).bindings; constrained = (plan_viewed f v).constrained; selects = (plan_viewed f v).selects; diagnostics = l }) e

module _ (f : List ℕ) (x : Opened f) (b k s d : ℕ) (B : b ≡ (opened f x).bindings) (K : k ≡ (opened f x).constrained) (S : s ≡ (opened f x).selects) (D : d ≡ (opened f x).diagnostics) where
  -- which items they are does not depend on where a list ends
  pub plan-opened : (e1 e2 e3 e4 e5 : ℕ) (lv bv kv sv dv : ListView)
      → lv ≡ list_view f 0 e1 → bv ≡ list_view f b e2 → kv ≡ list_view f k e3 → sv ≡ list_view f s e4 → dv ≡ list_view f d e5
      → lv.count < word_limit → bv.count < word_limit → kv.count < word_limit → sv.count < word_limit → dv.count < word_limit
      → (let v : PlanView = record { levels = lv; bindings = bv; constrained = kv; selects = sv; diagnostics = dv } in (plan_of f ≡ plan_viewed f v) × PlanInside f v)
  plan-opened e1 e2 e3 e4 e5 lv bv kv sv dv l1 l2 l3 l4 l5 h1 h2 h3 h4 h5 =
      let L = opened f x in
      let v : PlanView = record { levels = lv; bindings = bv; constrained = kv; selects = sv; diagnostics = dv } in (
        plan-is f (plan_of f) v
            (list-is f Reader.level 0 _ L.levels-at 0 e1 refl lv l1)
            (list-is f Reader.binding _ _ L.bindings-at b e2 B bv l2)
            (list-is f u16 _ _ L.constrained-at k e3 K kv l3)
            (list-is f Reader.select _ _ L.selects_at s e4 S sv l4)
            (list-is f Reader.diagnostic _ _ L.diagnostics-at d e5 D dv l5),
        record {
          levels = list_inside f Reader.level 0 _ L.levels-at 0 e1 refl lv l1 h1;
          bindings = list_inside f Reader.binding _ _ L.bindings-at b e2 B bv l2 h2;
          constrained = list_inside f u16 _ _ L.constrained-at k e3 K kv l3 h3;
          selects = list_inside f Reader.select _ _ L.selects_at s e4 S sv l4 h4;
          diagnostics = list_inside f Reader.diagnostic _ _ L.diagnostics-at d e5 D dv l5 h5;
        },
      )

-- Item k of a level's own lists: a part, a residual, a folded comparison.
items-by-number : {A : Type 0} (f : List ℕ) {r : Reader A} → Suffix r → (n p : ℕ) → p ≤ length f → Found f (many n r) p → (k : ℕ) → k < n → (d : A) → ItemAt f r p k (get_or (items_at f r n p) k d)
items-by-number {A} f {r} y n p h x k g d =
    subst (λ (l : List A). ItemAt f r p k (get_or l k d)) (sym (items-are f r n p x.item x.rest x.reads)) (item-at f y n p x.item x.rest h x.reads k g d)

module _ (f : List ℕ) (n p k : ℕ) (g : k < n) where
  pub part-by-number : Found f (many n Reader.part) p → (d : Part) → ItemAt f Reader.part p k (get_or (items_at f Reader.part n p) k d)
  part-by-number x d = items-by-number f suffix-part n p (omega (arith, part-inside f p (found-one f Reader.part n p (omega arith) x))) x k g d

  pub residual-by-number : Found f (many n Reader.residual) p → (d : Residual) → ItemAt f Reader.residual p k (get_or (items_at f Reader.residual n p) k d)
  residual-by-number x d = items-by-number f suffix-residual n p (path-within f p (residual-path f p (found-one f Reader.residual n p (omega arith) x))) x k g d

  pub word-by-number : Found f (many n u16) p → (d : ℕ) → ItemAt f u16 p k (get_or (items_at f u16 n p) k d)
  word-by-number x d = items-by-number f suffix-u16 n p (omega (arith, number-inside f p (found-one f u16 n p (omega arith) x))) x k g d
