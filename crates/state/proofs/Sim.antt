-- The memory's run of a level's walk and the written rules' run of it, side by side: related states end in related states.
use mathlib.Core.Bool.{false}
use mathlib.Core.List.{List, [], ◌∷◌, ◌++◌, append_assoc}
use Rattle.std.specs.Prelude.{None, Some}
use mathlib.Core.Path.{◌≡◌, refl, sym, ap, ◌∙◌, subst, subst₂}
use Prim.Native.Nat.{ℕ, ◌+◌, ◌≤◌, ◌<◌}
use native.Mathlib.Nat.{add-zero}
use native.Mathlib.Omega.{arith}
use lib.ListN.{length, drop}
use lib.Seq.{drop-append_seam}
use Rattle.rules.specs.Base.{Each, concat_map}
use Rattle.rules.specs.File.{Tables, FieldTy, Alternative, Ty, Node, FieldPath, Slot, Binding, type_at, node_at, record_ty, union_ty, payload}
use Rattle.rules.specs.Limits.{name_limit}
use Rattle.rules.specs.Constant.{lookup}
use Rattle.rules.specs.Events.{Code, Select, Diagnostic, Narrowing, Event, Lists, Walk, bind, constrained, select, report, emit, brings}
use Rattle.rules.specs.Walk.{narrowing}
use Rattle.rules.specs.Placement.{SeekBuilder, place}
use Rattle.rules.specs.Levels.{narrowings}
use Rattle.rules.specs.Plan as Plan
use Rattle.rules.proofs.Cases.{some≢none, some-injective}
use Rattle.rules.proofs.Each.{each-imply, each-get_or, each_all}
use Rattle.rules.proofs.Keeps.{narrow, skip}
use Rattle.rules.proofs.Numbers.{TypeNumbers, Bounded}
use Rattle.rules.proofs.RoundTrip.{PathNumbers, BindingNumbers}
use Rattle.rules.proofs.Runs.{Numbers, Stands, Sim}
use Rattle.state.specs.State.{Target, State, unless}
use Rattle.rules.proofs.Sound.{Sound}
use Rattle.rules.proofs.ReaderTables.{PathWithin, first-within, then-within}
use Rattle.state.specs.Ops as Ops
use Rattle.state.specs.Ops.{ops}
use Rattle.state.proofs.Seqs.{length-snoc, length-least}
use Rattle.state.proofs.Stopped.{stopped}
use Rattle.state.proofs.Fitting.{all-fitting}
use Rattle.state.proofs.Made.{binding-length}
use Rattle.state.proofs.Mem.{new_is, mem-bind, mem-constrain, mem-select, mem-report, mem-lookup, same-reported}
use Rattle.state.proofs.Sizes.{Sane}
use Rattle.state.proofs.Growth.{built, met, built-emit, met-emit, list_size, Grew, grew-bind, grew-constrained, grew-select, grew-report, grew-skip, grew-bound, grew-constant, grew-register, grew-fact, grew-own, grew-tag, grew-closer}
use Rattle.state.proofs.Rel.{Good, RelAt, Rel, rel-stays, rel-unless, rel-append, rel-down, rel-counted, rel-fall, rel-bound, rel-close, rel-narrowing}

abbrev pub Name : ℕ → Type 0
Name x = x < name_limit

-- the numbers of an accepted file: within their fields, and every Var's a name
pub record Numbered (T : Tables) : Type 0 where
  pub within : Bounded T
  pub names : (n x : ℕ) → node_at T n ≡ Node.Var x → Name x

type-numbers : (T : Tables) → Bounded T → (t : ℕ) → TypeNumbers (type_at T t)
unfolding type_at
type-numbers T b t = each-get_or t b.types tt

record-few : (ty : Ty) (fs : List FieldTy) → TypeNumbers ty → record_ty ty ≡ Some fs → length fs < 256
unfolding record_ty
record-few Ty.Int fs h e = absurd (some≢none fs (sym e))
record-few Ty.Str fs h e = absurd (some≢none fs (sym e))
record-few Ty.Bytes fs h e = absurd (some≢none fs (sym e))
record-few (Ty.Fact p) fs h e = absurd (some≢none fs (sym e))
record-few (Ty.Record gs) fs h e = subst (λ (x : List FieldTy). length x < 256) (some-injective gs fs e) h
record-few (Ty.Union alts) fs h e = absurd (some≢none fs (sym e))

union-discs : (ty : Ty) (alts : List Alternative) → TypeNumbers ty → union_ty ty ≡ Some alts → Each (λ a. a.disc < 4294967296) alts
unfolding union_ty
union-discs Ty.Int alts h e = absurd (some≢none alts (sym e))
union-discs Ty.Str alts h e = absurd (some≢none alts (sym e))
union-discs Ty.Bytes alts h e = absurd (some≢none alts (sym e))
union-discs (Ty.Fact p) alts h e = absurd (some≢none alts (sym e))
union-discs (Ty.Record fs) alts h e = absurd (some≢none alts (sym e))
union-discs (Ty.Union as') alts h e = subst (λ (x : List Alternative). Each (λ a. a.disc < 4294967296) x) (some-injective as' alts e) h

pub numbers : (T : Tables) → Numbered T → Numbers T PathWithin Name
unfolding payload
numbers T numbered =
    let b = numbered.within in
    record {
      scalar = first-within 0 (omega arith);
      first = λ t i fs e l. first-within i (omega (arith, record-few (type_at T t) fs (type-numbers T b t) e));
      next = λ p t i fs h e l. then-within p i h (omega (arith, record-few (type_at T t) fs (type-numbers T b t) e));
      tag = λ p t alts h e. each-imply (λ a d. then-within p a.disc h d) (union-discs (type_at T t) alts (type-numbers T b t) e);
      names = numbered.names;
    }

-- what a list would take with one entry more, where it has no room
new-after : (T : Tables) (l : Lists) (new more' : List Binding) → l.bindings ≡ T.bindings ++ new → drop (length T.bindings) (l.bindings ++ more') ≡ new ++ more'
new-after T l new more' e =
    ap (λ (bs : List Binding). drop (length T.bindings) (bs ++ more')) e ∙ ap (drop (length T.bindings)) (append_assoc T.bindings new more') ∙ drop-append_seam T.bindings (new ++ more')

select-length : (s : Select) → 1 ≤ length (Plan.select s)
unfolding Plan.select Plan.u16
select-length s = omega arith

module _ (T : Tables) (t : Target) (base : List ℕ) where
  -- The four lists.
  rel_bind : (x : ℕ) (slot : Slot) (w : Walk) (c : State) → BindingNumbers (record { name = x; slot = slot }) → Name x → lookup w.lists.bindings x ≡ None → Rel T t base w c → Rel T t base (bind x slot w) (Ops.bind x slot c)
  unfolding bind Ops.bind list_size
  rel_bind x slot w c numbers small unbound r =
      rel-unless T t base w (bind x slot w) c _ (grew-bind T x slot w) r λ e g s.
      let b : Binding = record { name = x; slot = slot } in
      let m = g.mem in
      rel-counted T t base (bind x slot w).lists (met w) (built T w) c _ c.ends.bindings c.ends.constrained (Plan.binding b) _ _
      (omega (arith, m.binding_count, length-least Plan.binding 5 (each_all m.new binding-length), m.bindings.ends, m.first, m.constrained.ends))
      (rel-append T t base (bind x slot w).lists (met w) (built T w) c c.ends.bindings c.ends.constrained (Plan.binding b) _ _ e s
      (λ h. record { mem = mem-bind T w.lists c.ends c.work m b numbers small unbound h; level = g.level; target = g.target; plan = g.plan })
      (λ h. omega (arith, h, m.bindings.ends, m.constrained.ends, length-snoc Plan.binding m.new b, ap (λ (bs : List Binding). length (concat_map Plan.binding bs)) (new-after T w.lists m.new (b ∷ []) m.bindings-are))))

  rel-constrained : (x : ℕ) (w : Walk) (c : State) → Rel T t base w c → Rel T t base (constrained x w) (Ops.constrained x c)
  unfolding constrained Ops.constrained list_size
  rel-constrained x w c r =
      rel-unless T t base w (constrained x w) c _ (grew-constrained T x w) r λ e g s.
      rel-down T t base (constrained x w).lists (met w) (built T w) c c.ends.constrained c.ends.bindings (Plan.u16 x) _ e s
      (λ h. record { mem = mem-constrain T w.lists c.ends c.work g.mem x h; level = g.level; target = g.target; plan = g.plan })
      (λ h. omega (arith, h, g.mem.bindings.ends, g.mem.constrained.ends, length-snoc Plan.u16 w.lists.constrained x, ap (λ (bs : List Binding). length (concat_map Plan.binding bs)) (new_is T w.lists g.mem.new g.mem.bindings-are)))

  rel-select : (a : ℕ) (p : FieldPath) (d : ℕ) (w : Walk) (c : State) → Rel T t base w c → Rel T t base (select a p d w) (Ops.select a p d c)
  unfolding select Ops.select list_size
  rel-select a p d w c r =
      rel-unless T t base w (select a p d w) c _ (grew-select T a p d w) r λ e g s.
      let k : Select = record { address = a; path = p; disc = d } in
      let m = g.mem in
      rel-counted T t base (select a p d w).lists (met w) (built T w) c _ c.ends.selects c.ends.diagnostics (Plan.select k) _ _
      (omega (arith, m.select_count, length-least Plan.select 1 (each_all w.lists.selects select-length), m.selects.ends, m.second, m.diagnostics.ends))
      (rel-append T t base (select a p d w).lists (met w) (built T w) c c.ends.selects c.ends.diagnostics (Plan.select k) _ _ e s
      (λ h. record { mem = mem-select T w.lists c.ends c.work m k h; level = g.level; target = g.target; plan = g.plan })
      (λ h. omega (arith, h, m.selects.ends, m.diagnostics.ends, length-snoc Plan.select w.lists.selects k)))

  rel-report : (n : ℕ) (code : Code) (w : Walk) (c : State) → Rel T t base w c → Rel T t base (report n code w) (Ops.report n code c)
  unfolding report Ops.report list_size
  rel-report n code w c r =
      rel-unless T t base w (report n code w) c _ (grew-report T n code w) r λ e g s.
      let d : Diagnostic = record { node = n; code = code } in
      rel-down T t base (report n code w).lists (met w) (built T w) c c.ends.diagnostics c.ends.selects (Plan.diagnostic d) _ e s
      (λ h. record { mem = mem-report T w.lists c.ends c.work g.mem d h; level = g.level; target = g.target; plan = g.plan })
      (λ h. omega (arith, h, g.mem.selects.ends, g.mem.diagnostics.ends, length-snoc Plan.diagnostic w.lists.diagnostics d))

  -- A constant noted: the memory keeps nothing of it.
  rel-brings : (slot : Slot) (ty : Ty) (w : Walk) (c : State) → Rel T t base w c → Rel T t base (brings T slot ty w) c
  unfolding brings
  rel-brings slot ty w c r = r

  -- The level's events.
  rel-emit : (ev : Event) (w : Walk) (c : State) (f : State → State) → Grew T w (emit ev w) → Rel T t base w c
      → (c.over ≡ false → Good T t base w.lists (met w) (built T w) c → Sane (met w + narrowings (ev ∷ [])) (place T ev (built T w)) → RelAt T t base w.lists (met w + narrowings (ev ∷ [])) (place T ev (built T w)) (f c))
      → Rel T t base (emit ev w) (unless f c)
  unfolding emit
  rel-emit ev w c f g r k =
      rel-unless T t base w (emit ev w) c f g r λ e good s.
      subst₂ (λ (n : ℕ) (b : SeekBuilder). RelAt T t base w.lists n b (f c)) (sym (met-emit ev w)) (sym (built-emit T ev w)) (k e good (subst₂ Sane (met-emit ev w) (built-emit T ev w) s))

  -- one that does not narrow
  rel-quiet : (ev : Event) (w : Walk) (c : State) (f : State → State) → narrowings (ev ∷ []) ≡ 0 → Grew T w (emit ev w) → Rel T t base w c
      → (c.over ≡ false → Good T t base w.lists (met w) (built T w) c → Sane (met w) (place T ev (built T w)) → RelAt T t base w.lists (met w) (place T ev (built T w)) (f c))
      → Rel T t base (emit ev w) (unless f c)
  rel-quiet ev w c f none-met g r k =
      let n = ap (λ (m : ℕ). met w + m) none-met ∙ add-zero (met w) in
      rel-emit ev w c f g r λ e good s.
      subst (λ (m : ℕ). RelAt T t base w.lists m (place T ev (built T w)) (f c)) (sym n) (k e good (subst (λ (m : ℕ). Sane m (place T ev (built T w))) n s))

  rel-skip : (w : Walk) (c : State) → Rel T t base w c → Rel T t base (skip w) (Ops.skip c)
  unfolding place narrowings Ops.skip
  rel-skip w c r =
      rel-quiet Event.skip w c (Ops.relevel Ops.fall) refl (grew-skip T w) r λ e g s.
      rel-fall T t base w.lists (met w) (built T w) c e g s

  rel-bounds : (x ty : ℕ) (w : Walk) (c : State) → Rel T t base w c → Rel T t base (emit (Event.bound x ty) w) (Ops.bound T x ty c)
  unfolding place narrowings Ops.bound
  rel-bounds x ty w c r =
      rel-quiet (Event.bound x ty) w c (Ops.relevel (Ops.bound_level T x ty)) refl (grew-bound T x ty w) r λ e g s.
      rel-bound T t base w.lists (met w) (built T w) c e g x ty s

  rel-narrow : (m : ℕ) (p : FieldPath) (x : Narrowing) (w : Walk) (c : State) → Grew T w (narrow m p x w) → Rel T t base w c → Rel T t base (narrow m p x w) (Ops.narrow m p x c)
  unfolding place narrowings Ops.narrow
  rel-narrow m p x w c g r =
      rel-emit (Event.narrow m p x) w c (Ops.narrowing m p x) g r λ e good s.
      rel-narrowing T t base w.lists (met w) (built T w) c e good r.sane m p x s

  rel-closer : (m : ℕ) (w : Walk) (c : State) → Rel T t base w c → Rel T t base (emit (Event.closer m) w) (Ops.closer m c)
  unfolding place narrowings Ops.closer
  rel-closer m w c r =
      rel-quiet (Event.closer m) w c (Ops.close m) refl (grew-closer T m w) r λ e g s.
      rel-close T t base w.lists (met w) (built T w) c e g m r.sane.clean s

  -- All of it, for a level whose address is within its field.
  pub simulates : Sound T → Numbered T → (address : ℕ) → address < 65536 → Sim T PathWithin Name (ops T) (λ c. c.over) address (Grew T) (Rel T t base)
  unfolding Ops.bound_slot
  simulates S numbered address h =
      record {
        idle = stopped T;
        stays = λ w w' c e g r. rel-stays T t base w w' c e (g) r;
        lookups = λ w c f e r x. ap (Ops.checked_slot T) (mem-lookup T w.lists c.ends c.work (r.live e).mem x) ∙ all-fitting T S w.lists.bindings f x;
        reported = λ w w' c c' e e' r r'. same-reported T w.lists w'.lists c.ends c'.ends c.work c'.work (r.live e).mem (r'.live e').mem;
        constant-is = λ w c r n ty. refl;
        fields = λ x ty p w c e n s r. rel_bind x (Slot.Field address p ty) w c (record { name = omega (arith, n); slot = (h, path-numbers p ty s, omega (arith, numbered.within.few-types, s.fits.in-types)) }) n e r;
        keys = λ x ty w c e n l r. rel_bind x (Slot.Key address ty) w c (record { name = omega (arith, n); slot = (h, omega (arith, numbered.within.few-types)) }) n e r;
        constrains = rel-constrained;
        selects = λ n p d w c s r. rel-select n p d w c r;
        reports = rel-report;
        skips = rel-skip;
        bounds = λ x ty w c r. rel-skip _ _ (rel-bounds x ty w c r);
        constants = λ m n ty k p w c e s r. rel-narrow m p (narrowing k) w c (grew-constant T m k p w) r;
        registers = λ m n at p w c s s' r. rel-narrow m p (Narrowing.RegisterField n at) w c (grew-register T m n at p w) r;
        facts = λ m n p w c s r. rel-narrow m p (Narrowing.FactId n) w c (grew-fact T m n p w) r;
        own-fields = λ m at p w c s s' r. rel-narrow m p (Narrowing.OwnField at) w c (grew-own T m at p w) r;
        tags = λ m d p w c s r. rel-narrow m p (Narrowing.Tag d) w c (grew-tag T m d p w) r;
        closers = rel-closer;
        brought = rel-brings;
      }
    where
      path-numbers : (p : FieldPath) (ty : ℕ) → Stands T PathWithin p ty → PathNumbers p
      path-numbers p ty s = record { field = s.within.field; count = omega (arith, s.fits.short); steps = s.within.steps }
