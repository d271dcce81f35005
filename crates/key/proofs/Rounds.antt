-- What each member of the cycle ends in, from what it began with and what the member that it called gives.
use Prim.Native.Nat.{ℕ, zero, suc, ◌≤◌, ◌<◌}
use mathlib.Core.Path.{◌≡◌, refl, sym, ap, ◌∙◌, subst}
use mathlib.Core.Bool.{true, false}
use mathlib.Core.List.{List, [], ◌∷◌}
use types.Run.{OneOf, miss}
use denote.Enum.Declared.{tag_of}
use Rattle.std.specs.Prelude.{Option, None, Some, is_some}
use native.Mathlib.Omega.{arith}
use lib.ListN.{length}
use Rattle.rules.specs.File as File
use Rattle.rules.specs.File.{Tables, FieldPattern, node_at, record_fields, then, payload}
use Rattle.rules.specs.Events.{Narrowing}
use Rattle.rules.specs.Resolve as ResolveRules
use Rattle.rules.specs.Resolve.{resolve}
use Rattle.rules.specs.Walk.{FieldWalk, each_field, constrain, unresolved, matched, partial, ranged, read_answer, read, field_below}
use Rattle.state.specs.State.{Level, Target, State}
use Rattle.state.specs.Ops.{ops, bind, report, narrow, skip, closer}
use Rattle.paths.specs.Paths.{path_of, Holds}
use Rattle.paths.specs.declared.FieldPath.{FieldPath}
use Rattle.views.specs.Views.{pattern_at}
use Rattle.slots.specs.Slots.{slot_of, slot_with, slot_option, IsSlot}
use Rattle.slots.specs.declared.Slot.{Slot}
use Rattle.slots.specs.declared.SlotKind.{SlotKind}
use Rattle.slots.specs.declared.SlotKind.TheVariants as Sk
use Rattle.slots.specs.contracts.SlotKind as SlotKinds
use Rattle.tables.specs.Tables.{SeenRun}
use Rattle.constant.specs.declared.Const.{Const}
use Rattle.lists.specs.Lists.{code_of, state_with}
use Rattle.lists.specs.declared.Code.{Code}
use Rattle.lists.specs.declared.Lists.{Lists}
use Rattle.resolve.specs.Resolved.{Answers}
use Rattle.resolve.specs.declared.Answer.{Answer}
use Rattle.resolve.proofs.Steps as Resolved
use Rattle.seek.specs.Seek.{state_of}
use Rattle.seek.specs.Narrow.{const_of, narrowed_by}
use Rattle.walk.specs.Walk.{walk_state, lists_of, with_lists}
use Rattle.walk.specs.declared.Walk.{Walk}
use Rattle.field_cases.specs.Pieces.{Lower, patterns_of, fields_for}
use Rattle.rules.proofs.Sound.{Sound}
use Rattle.rules.proofs.Idle.{idle-field_below}
use Rattle.state.proofs.Stopped.{stopped}
use Rattle.constrain.specs.Constrain.{Known}
use Rattle.constrain.proofs.Narrowings.{after-constant, after_none}
use Rattle.field_cases.specs.FieldCases.{way_at, meeting, inject_at, Choosing, payload_of, choosing_of, choosing}
use Rattle.field_cases.proofs.Reading.{answer-is, diagnostics-at}
use Rattle.field_cases.proofs.Starts.{looked-up}
use Rattle.field_cases.proofs.Finishes.{by_way, way-finished, const_node, meeting-finished, injected, choosing-finished, choosing-lower}
use Rattle.field_cases.specs.declared.Way.{Way}
use Rattle.field_cases.specs.declared.Way.TheVariants as Wy
use Rattle.field_cases.specs.declared.Choice.{Choice}
use Rattle.field_cases.specs.declared.Chosen.{Chosen}
use Rattle.key.specs.Cycle.{Walks, Gives}
use Rattle.key.proofs.Fields.{partial-opens}
use Rattle.key.proofs.Going.{Going, going_end}

abbrev below : Tables → ℕ → ℕ → FieldWalk State
below T a m = field_below (ops T) T a m

-- `field`, once the plan is too long
pub field-over : (T : Tables) (a n t : ℕ) (path : File.FieldPath) (w : Walk) (work plan : List ℕ) → w.level.over ≡ true → Walks T a n t path (walk_state T w work plan) (walk_state T w work plan)
unfolding walk_state state_of
field-over T a n t path w work plan e =
    let s = walk_state T w work plan in
    record { is = λ limit h. sym (idle-field_below (ops T) T s (stopped T s e) a limit n t path) }

-- `matched` of a constant: its bytes, or else its pieces
module _ (T : Tables) (a n k t : ℕ) (path : File.FieldPath) (s₀ : State) (c : Option Const) (v : Known T k t c) (s : State) where
  const-bytes : (g : FieldWalk State) → is_some c ≡ true → s ≡ narrowed_by T n (const_of T c) path s₀ → s ≡ matched (ops T) T a g n (File.Slot.Const k) t path s₀
  unfolding matched
  const-bytes g e q = after-constant T n k t path s₀ c v (λ x. x) (partial (ops T) T a g k t path) e s q

  const-pieces : (g : FieldWalk State) → is_some c ≡ false → s ≡ partial (ops T) T a g k t path s₀ → s ≡ matched (ops T) T a g n (File.Slot.Const k) t path s₀
  unfolding matched
  const-pieces g e q = q ∙ after_none T n k t path s₀ c v (λ x. x) (partial (ops T) T a g k t path) e

  module _ (slot : Slot) (es : slot.kind ≡ Sk.Const k) where
    abbrev by_kind : ℕ → SlotKind → State
    by_kind m x = matched (ops T) T a (below T a m) n (slot_with x slot.path) t path s₀

    pub matched-bytes : is_some c ≡ true → s ≡ narrowed_by T n (const_of T c) path s₀ → Gives T a t (λ g. matched (ops T) T a g n (slot_of slot) t path s₀) s
    matched-bytes e q = record { is = λ m h. const-bytes (below T a m) e q ∙ ap (by_kind m) (sym es) }

    pub matched-pieces : is_some c ≡ false → Gives T a t (λ g. partial (ops T) T a g k t path s₀) s → Gives T a t (λ g. matched (ops T) T a g n (slot_of slot) t path s₀) s
    matched-pieces e p = record { is = λ m h. const-pieces (below T a m) e (p.is m h) ∙ ap (by_kind m) (sym es) }

-- `matched` of any other slot
no_const : (kind : SlotKind) (at : FieldPath) → OneOf (0 ∷ 1 ∷ 2 ∷ 3 ∷ 4 ∷ []) (tag_of SlotKinds.the_type kind) → const_node (slot_with kind at) ≡ None
no_const (Sk.Row from p) at w = refl
no_const (Sk.Key from u) at w = refl
no_const (Sk.Derived from) at w = refl
no_const (Sk.Field from u) at w = refl
no_const (Sk.Value from u) at w = refl
no_const (Sk.Const k) at w = absurd (miss (0 ∷ 1 ∷ 2 ∷ 3 ∷ 4 ∷ []) 5 tt w)

pub matched-met : (T : Tables) (a n t : ℕ) (path : File.FieldPath) (s₀ s : State) (slot : Slot) → OneOf (0 ∷ 1 ∷ 2 ∷ 3 ∷ 4 ∷ []) (tag_of SlotKinds.the_type slot.kind) → s ≡ meeting T a n (slot_of slot) t path s₀ → Gives T a t (λ g. matched (ops T) T a g n (slot_of slot) t path s₀) s
matched-met T a n t path s₀ s slot w q = record { is = λ m h. q ∙ meeting-finished T a (below T a m) n (slot_of slot) t path s₀ (no_const slot.kind slot.path w) }

-- `field`, by its way
module _ (T : Tables) (a n t : ℕ) (path : File.FieldPath) (s₀ : State) (way : Way) (k : way ≡ way_at T n t) (low : Resolved.Lower T) where
  goes : (u : Way) → way ≡ u → (s : State) → ((m : ℕ) → t ≤ m → s ≡ by_way T a (below T a m) u n t path s₀) → Walks T a n t path s₀ s
  unfolding field_below
  goes u e s q = record { is = go }
    where
      go : (limit : ℕ) → t < limit → s ≡ field_below (ops T) T a limit n t path s₀
      go zero h = absurd (omega arith)
      go (suc m) h = q m (omega arith) ∙ ap (λ (x : Way). by_way T a (below T a m) x n t path s₀) (sym e ∙ k) ∙ way-finished T a (below T a m) low n t path s₀

  pub field-inject : way ≡ Wy.Union → (s : State) → Gives T a t (λ g. inject_at T a g n t path s₀) s → Walks T a n t path s₀ s
  unfolding by_way
  field-inject e s g = goes Wy.Union e s g.is

  pub field_skip : way ≡ Wy.Skip → (s : State) → s ≡ skip s₀ → Walks T a n t path s₀ s
  unfolding by_way
  field_skip e s q = goes Wy.Skip e s (λ m h. q)

  pub field-report : (code : Code) → way ≡ Wy.Report code → (s : State) → s ≡ report n (code_of code) (skip s₀) → Walks T a n t path s₀ s
  unfolding by_way
  field-report code e s q = goes (Wy.Report code) e s (λ m h. q)

  pub field-range : way ≡ Wy.Range → (s : State) → ((b : ℕ) (g : FieldWalk State) → s ≡ ranged (ops T) T b g n t path s₀) → Walks T a n t path s₀ s
  unfolding by_way
  field-range e s q = goes Wy.Range e s (λ m h. q a (below T a m))

  module _ (e : way ≡ Wy.Constant) (c : Option Const) (v : Known T n t c) (s : State) where
    pub field-bytes : is_some c ≡ true → s ≡ narrowed_by T n (const_of T c) path s₀ → Walks T a n t path s₀ s
    unfolding by_way
    field-bytes b q = goes Wy.Constant e s (λ m h. const-bytes T a n n t path s₀ c v s (below T a m) b q)

    pub field-pieces : is_some c ≡ false → Gives T a t (λ g. partial (ops T) T a g n t path s₀) s → Walks T a n t path s₀ s
    unfolding by_way
    field-pieces b p = goes Wy.Constant e s (λ m h. const-pieces T a n n t path s₀ c v s (below T a m) b (p.is m h))

  module _ (x : ℕ) (e : way ≡ Wy.Variable x) (found : Option Slot) (f : slot_option found ≡ (ops T).lookup s₀ x) (s : State) where
    abbrev by-slot : ℕ → Option File.Slot → State
    by-slot m o = elim o [ None ↦ constrain (ops T) T x t path (bind x (File.Slot.Field a path t) s₀) | Some slot ↦ matched (ops T) T a (below T a m) n slot t path s₀ ]

    looked : (m : ℕ) (o : Option Slot) → found ≡ o → by-slot m (slot_option o) ≡ by-slot m ((ops T).lookup s₀ x)
    looked m o h = ap (by-slot m) (ap slot_option (sym h) ∙ f)

    pub field_bound : {slot : Slot} → found ≡ Some slot → Gives T a t (λ g. matched (ops T) T a g n (slot_of slot) t path s₀) s → Walks T a n t path s₀ s
    unfolding by_way
    field_bound {slot} h g = goes (Wy.Variable x) e s (λ m l. g.is m l ∙ looked m (Some slot) h)

    pub field-new : found ≡ None → s ≡ constrain (ops T) T x t path (bind x (File.Slot.Field a path t) s₀) → Walks T a n t path s₀ s
    unfolding by_way
    field-new h q = goes (Wy.Variable x) e s (λ m l. q ∙ looked m None h)

-- `field` of a name, by what is found under it: l are the lists of the walk w
module _ (T : Tables) (a n t : ℕ) (path : File.FieldPath) (w : Walk) (work plan : List ℕ) (s : State) (x : ℕ) where
  abbrev by-found : ℕ → Option File.Slot → State
  by-found m o =
      elim o [
        | None ↦ constrain (ops T) T x t path (bind x (File.Slot.Field a path t) (walk_state T w work plan))
        | Some slot ↦ matched (ops T) T a (below T a m) n slot t path (walk_state T w work plan)
      ]

  module _ (found : Option Slot) (l : Lists) (el : l ≡ lists_of w) (f : (level : Level) (g : Target) (p : List ℕ) → IsSlot ((ops T).lookup (state_with l level g work p) x) found) (way : Way) (k : way ≡ way_at T n t) (low : Resolved.Lower T) (e : way ≡ Wy.Variable x) where
    found-goes : (o : Option Slot) → found ≡ o → ((m : ℕ) → t ≤ m → s ≡ by-found m (slot_option o)) → Walks T a n t path (walk_state T w work plan) s
    unfolding by_way
    found-goes o h q =
        goes T a n t path (walk_state T w work plan) way k low (Wy.Variable x) e s
        (λ m j. q m j ∙ ap (by-found m) (ap slot_option (sym h) ∙ looked-up T x found w l work plan el f))

    pub found-bound : {slot : Slot} → found ≡ Some slot → Gives T a t (λ g. matched (ops T) T a g n (slot_of slot) t path (walk_state T w work plan)) s → Walks T a n t path (walk_state T w work plan) s
    found-bound {slot} h g = found-goes (Some slot) h g.is

  pub found-new : s ≡ constrain (ops T) T x t path (bind x (File.Slot.Field a path t) (walk_state T w work plan)) → (found : Option Slot) (l : Lists) → l ≡ lists_of w → ((level : Level) (g : Target) (p : List ℕ) → IsSlot ((ops T).lookup (state_with l level g work p) x) found) → (way : Way) → way ≡ way_at T n t → Resolved.Lower T → way ≡ Wy.Variable x → found ≡ None → Walks T a n t path (walk_state T w work plan) s
  found-new q found l el f way k low e h = found-goes found l el f way k low e None h (λ m j. q)

-- `field` of a read, by its answer: r is the walk w with the lists of the answer
module _ (T : Tables) (a n t : ℕ) (path : File.FieldPath) (w r : Walk) (ans : Answer) (work work' plan : List ℕ) (l : Lists) (el : l ≡ lists_of w) (er : r ≡ with_lists w ans.lists) (q : Answers (resolve (ops T) T n) l work ans work') (way : Way) (k : way ≡ way_at T n t) (low : Resolved.Lower T) (e : way ≡ Wy.Read) (s : State) where
  abbrev s₁ : State
  s₁ = walk_state T r work' plan

  abbrev answered : ℕ → Option File.Slot → State → State
  answered m o x = read_answer (ops T) T a (below T a m) n o t path (walk_state T w work plan) x

  reads : (o : Option Slot) → ans.slot ≡ o → ((m : ℕ) → t ≤ m → s ≡ answered m (slot_option o) s₁) → Walks T a n t path (walk_state T w work plan) s
  unfolding by_way read
  reads o h g =
      goes T a n t path (walk_state T w work plan) way k low Wy.Read e s
      (λ m i. g m i ∙ ap (λ (x : Option Slot). answered m (slot_option x) s₁) (sym h)
      ∙ ap (λ (x : ResolveRules.Answer State). answered m x.slot x.walk) (answer-is T w r l ans work work' plan el er (resolve (ops T) T n) q))

  pub field-read : {slot : Slot} → ans.slot ≡ Some slot → Gives T a t (λ g. matched (ops T) T a g n (slot_of slot) t path s₁) s → Walks T a n t path (walk_state T w work plan) s
  unfolding read_answer
  field-read {slot} h g = reads (Some slot) h g.is

  module _ (h : ans.slot ≡ None) (f : List ℕ) (pairs : Option (ℕ × ℕ)) (seen : SeenRun f (pattern_at f) 4 (record_fields (node_at T n)) pairs) where
    abbrev by-fields : ℕ → Option (List FieldPattern) → State
    by-fields m o = elim o [ Some fields ↦ partial (ops T) T a (below T a m) n t path s₁ | None ↦ unresolved (ops T) T n (walk_state T w work plan) s₁ ]

    pub field-opened : (i at : ℕ) → pairs ≡ Some (i, at) → Gives T a t (λ g. partial (ops T) T a g n t path s₁) s → Walks T a n t path (walk_state T w work plan) s
    unfolding read_answer
    field-opened i at ep g = reads None h (λ m j. g.is m j ∙ ap (by-fields m) (subst (SeenRun f (pattern_at f) 4 (record_fields (node_at T n))) ep seen).is)

    pub field-unresolved : pairs ≡ None → s ≡ unresolved (ops T) T n (walk_state T w work plan) s₁ → Walks T a n t path (walk_state T w work plan) s
    unfolding read_answer
    field-unresolved ep g = reads None h (λ m j. g ∙ ap (by-fields m) (subst (SeenRun f (pattern_at f) 4 (record_fields (node_at T n))) ep seen).is)

-- a read that gave nothing: v is the walk that it ends with
pub unresolved-walks : (T : Tables) (a n t : ℕ) (path : File.FieldPath) (w r v : Walk) (work work' work'' plan : List ℕ) → ((p : List ℕ) (earlier : State) → earlier.ends.diagnostics ≡ w.ends.diagnostics → walk_state T v work'' p ≡ unresolved (ops T) T n earlier (walk_state T r work' p)) → (ans : Answer) (l : Lists) → l ≡ lists_of w → r ≡ with_lists w ans.lists → Answers (resolve (ops T) T n) l work ans work' → (way : Way) → way ≡ way_at T n t → Resolved.Lower T → way ≡ Wy.Read → ans.slot ≡ None → (f : List ℕ) (pairs : Option (ℕ × ℕ)) → SeenRun f (pattern_at f) 4 (record_fields (node_at T n)) pairs → pairs ≡ None → Walks T a n t path (walk_state T w work plan) (walk_state T v work'' plan)
unresolved-walks T a n t path w r v work work' work'' plan g ans l el er q way k low e h f pairs seen ep =
    field-unresolved T a n t path w r ans work work' plan l el er q way k low e (walk_state T v work'' plan) h f pairs seen ep
    (g plan (walk_state T w work plan) (diagnostics-at T w work plan))

-- `inject`
module _ (T : Tables) (a n t : ℕ) (path : File.FieldPath) (s₀ s₁ : State) (r : Chosen) (b : choosing_of r s₁ ≡ choosing T n t path s₀) where
  abbrev by-choice : ℕ → Option Choice → State
  by-choice m x = injected T a (below T a m) n (record { payload = payload_of x; state = s₁ }) path

  inject-is : (m : ℕ) (x : Option Choice) → r.choice ≡ x → by-choice m x ≡ inject_at T a (below T a m) n t path s₀
  inject-is m x e = sym (ap (by-choice m) e) ∙ ap (λ (y : Choosing). injected T a (below T a m) n y path) b ∙ choosing-finished T a (below T a m) n path s₀ t

  pub inject-done : r.choice ≡ None → Gives T a t (λ g. inject_at T a g n t path s₀) s₁
  unfolding injected
  inject-done e = record { is = λ m h. inject-is m None e }

  module _ {ch : Choice} (e : r.choice ≡ Some ch) where
    pub inject-lower : Sound T → t < length T.types → Lower T t ch.ty
    inject-lower S h = choosing-lower T t n s₀ (record { disc = ch.disc; node = ch.node; type = ch.ty }) path S h (ap (λ (x : Choosing). x.payload) (sym b) ∙ ap payload_of e)

    pub inject-goes : Lower T t ch.ty → (q : FieldPath) → Holds q (payload path ch.disc) → (s₂ s₃ s₄ : State) → s₂ ≡ narrow n path (Narrowing.Tag ch.disc) s₁ → Walks T a ch.node ch.ty (path_of q) s₂ s₃ → s₄ ≡ closer n s₃ → Gives T a t (λ g. inject_at T a g n t path s₀) s₄
    unfolding injected
    inject-goes l q o s₂ s₃ s₄ tag w close =
        record {
          is = λ m h.
              close
              ∙ ap (closer n)
              (w.is m (omega (arith, l.lower))
              ∙ ap (λ (p : File.FieldPath). field_below (ops T) T a m ch.node ch.ty p s₂) o.is
              ∙ ap (field_below (ops T) T a m ch.node ch.ty (payload path ch.disc)) tag)
              ∙ inject-is m (Some ch) e;
        }

-- `inject`, by its walks: w₂ has the tag, w₃ the payload, w₄ the closer
pub injects-walks : (T : Tables) (a n t : ℕ) (path : File.FieldPath) (s₀ : State) (r : Chosen) (work plan : List ℕ) → choosing_of r (walk_state T r.walk work plan) ≡ choosing T n t path s₀ → {ch : Choice} → r.choice ≡ Some ch → Lower T t ch.ty → (q : FieldPath) → Holds q (payload path ch.disc) → (w₂ w₃ w₄ : Walk) (plan₂ work₃ plan₃ plan₄ : List ℕ) → ((U : Tables) (x : List ℕ) → walk_state U w₂ x plan₂ ≡ narrow n path (Narrowing.Tag ch.disc) (walk_state U r.walk x plan)) → Walks T a ch.node ch.ty (path_of q) (walk_state T w₂ work plan₂) (walk_state T w₃ work₃ plan₃) → ((U : Tables) (x : List ℕ) → walk_state U w₄ x plan₄ ≡ closer n (walk_state U w₃ x plan₃)) → Gives T a t (λ g. inject_at T a g n t path s₀) (walk_state T w₄ work₃ plan₄)
injects-walks T a n t path s₀ r work plan b e l q o w₂ w₃ w₄ plan₂ work₃ plan₃ plan₄ tag walks close =
    inject-goes T a n t path s₀ (walk_state T r.walk work plan) r b e l q o (walk_state T w₂ work plan₂) (walk_state T w₃ work₃ plan₃)
    (walk_state T w₄ work₃ plan₄) (tag T work) walks (close T work₃)

-- `partial`
pub partial-end : (T : Tables) (a n t : ℕ) (path : File.FieldPath) (i : ℕ) (s₀ s : State) (w₀ p₀ w p : List ℕ) → Going T a n t (λ x. x) (then path) i s₀ s w₀ p₀ w p → length (fields_for T n t) ≤ i → (s'' : State) → s₀ ≡ skip s'' → Gives T a t (λ g. partial (ops T) T a g n t path s'') s
partial-end T a n t path i s₀ s w₀ p₀ w p v h s'' e =
    record {
      is = λ m l.
          going_end T a n t (λ x. x) (then path) i s₀ s w₀ p₀ w p v h m l
          ∙ ap (each_field (below T a m) (λ x. x) (then path) (patterns_of T n) 0 (fields_for T n t)) e
          ∙ sym (partial-opens (ops T) T a (below T a m) n t path s'');
    }
