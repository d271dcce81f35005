-- A constant that is not heard at a type gives nothing but a skip there, however deep it goes.
use Prim.Native.Nat.{ℕ, zero, suc, ◌≤◌, ◌<◌}
use mathlib.Core.Path.{◌≡◌, refl, sym, ap, ap₂, ◌∙◌, subst}
use mathlib.Core.Bool.{Bool, true, false}
use mathlib.Core.List.{List, [], ◌∷◌}
use Rattle.std.specs.Prelude.{Option, None, Some}
use native.Mathlib.Omega.{arith}
use lib.ListN.{length}
use Rattle.rules.specs.Base.{Each, done, more, either, ◌when_some◌}
use Rattle.rules.specs.File as File
use Rattle.rules.specs.File.{Tables, Ty, Node, FieldTy, FieldPattern, Alternative, type_at, node_at, is_constant, record_fields, record_ty, union_ty, then}
use Rattle.rules.specs.Constant.{Const, field_pattern, constant_fields, constant_record, constant_node, constant}
use Rattle.rules.specs.Literals.{any_field}
use Rattle.rules.specs.Walk.{FieldWalk, each_field, narrow_by, partial_fields, partial, matched, field_below}
use Rattle.rules.proofs.Cases.{true≢false, some≢none, some-injective, bind-some}
use Rattle.rules.proofs.Each.{each_first}
use Rattle.rules.proofs.Constants.{constant-is}
use Rattle.rules.proofs.Literals.{record-node, constant-in}
use Rattle.rules.proofs.Sound.{Passed, Child, Sound}
use Rattle.rules.proofs.Keeps.{record-children}
use Rattle.state.specs.State.{State, Ends, Level, Target, state, unless}
use Rattle.state.specs.Ops.{ops, skip, relevel, fall}
use Rattle.file.specs.Tables.{tables_of}
use Rattle.accepted_file.specs.AcceptedFile.{AcceptedFile}
use Rattle.accepted_file.specs.Fates.{heard_by, heard_below, heard, fate_by, fate, fate_quiet}
use Rattle.accepted_file.proofs.Given.{passed, sound-tables}
use Rattle.accepted_file.proofs.Ranges.{nodes-lower, stands-constant, record-constant}
use Rattle.tables.specs.Recalled.{quiet_in}
use Rattle.tables.proofs.Recalls.{quiet_is}
use Rattle.resolve.proofs.Steps as Resolved
use Rattle.field_cases.specs.FieldCases.{is_injection, literal_way, node_way, way_at}
use Rattle.field_cases.specs.declared.Way.{Way}
use Rattle.field_cases.specs.declared.Way.TheVariants as Wy
use Rattle.field_cases.proofs.Finishes.{by_way, way-finished}
use Rattle.key.specs.Cycle.{Gives}

-- a second skip changes nothing
skip_at : (o : Bool) (e : Ends) (l : Level) (g : Target) (w p : List ℕ) → skip (skip (state o e l g w p)) ≡ skip (state o e l g w p)
unfolding skip unless relevel fall
skip_at true e l g w p = refl
skip_at false e l g w p = refl

skip-again : (s : State) → skip (skip s) ≡ skip s
skip-again s = skip_at s.over s.ends s.level s.target s.work s.plan

record-type : (u : Ty) (fs : List FieldTy) → record_ty u ≡ Some fs → u ≡ Ty.Record fs
unfolding record_ty
record-type Ty.Int fs e = absurd (some≢none fs (sym e))
record-type Ty.Str fs e = absurd (some≢none fs (sym e))
record-type Ty.Bytes fs e = absurd (some≢none fs (sym e))
record-type (Ty.Fact p) fs e = absurd (some≢none fs (sym e))
record-type (Ty.Record gs) fs e = ap Ty.Record (some-injective gs fs e)
record-type (Ty.Union alts) fs e = absurd (some≢none fs (sym e))

either_left : (a b : Bool) → either a b ≡ false → a ≡ false
either_left true b e = e
either_left false b e = refl

either-right : (a b : Bool) → either a b ≡ false → b ≡ false
either-right true b e = absurd (true≢false e)
either-right false b e = e

-- what is not heard is a Record that is opened at a Record type with a field, and none of its pieces is heard
record Opens (T : Tables) (m n t : ℕ) : Type 0 where
  fields : List FieldPattern
  front : FieldTy
  rest : List FieldTy
  node-is : record_fields (node_at T n) ≡ Some fields
  type-is : record_ty (type_at T t) ≡ Some (front ∷ rest)
  silent : any_field (heard_below T m) fields (front ∷ rest) ≡ false

opens : (T : Tables) (m n t : ℕ) → heard_below T (suc m) n t ≡ false → Opens T m n t
unfolding heard_below heard_by
opens T m n t h = go (record_fields (node_at T n)) (record_ty (type_at T t)) refl refl h
  where
    go : (ps : Option (List FieldPattern)) (fs : Option (List FieldTy)) → record_fields (node_at T n) ≡ ps → record_ty (type_at T t) ≡ fs → heard_by (heard_below T m) ps fs ≡ false → Opens T m n t
    go None fs p q e = absurd (true≢false e)
    go (Some fields) None p q e = absurd (true≢false e)
    go (Some fields) (Some []) p q e = absurd (true≢false e)
    go (Some fields) (Some (f ∷ fs)) p q e = record { fields = fields; front = f; rest = fs; node-is = p; type-is = q; silent = e }

-- a field's pattern, if there is one, is not heard
abbrev piece : (ℕ → ℕ → Bool) → ℕ → Option ℕ → Bool
piece below t o = elim o [ None ↦ false | Some pattern ↦ below pattern t ]

-- options
when-none : {A B : Type 0} (o : Option A) (k : A → Option B) → o ≡ None → (o when_some k) ≡ None
unfolding ◌when_some◌
when-none {A} {B} o k e = ap (λ (x : Option A). x when_some k) e

when-some : {A B : Type 0} (o : Option A) (k : A → Option B) (a : A) → o ≡ Some a → (o when_some k) ≡ k a
unfolding ◌when_some◌
when-some {A} {B} o k a e = ap (λ (x : Option A). x when_some k) e

-- the pattern of a name among constants is a constant
pattern-constant : (T : Tables) (fields : List FieldPattern) (x p : ℕ) → Each (λ g. is_constant T g.node ≡ true) fields → field_pattern fields x ≡ Some p → is_constant T p ≡ true
unfolding field_pattern
pattern-constant T fields x p k e =
    let a = bind-some _ _ p e in
    subst (λ (y : ℕ). is_constant T y ≡ true) (some-injective a.0.node p a.2) (each_first _ k a.0 a.1)

module _ (T : Tables) (P : Passed T) (S : Sound T) where
  abbrev Lacks : ℕ → Type 0
  Lacks m = (n t : ℕ) → is_constant T n ≡ true → t < length T.types → heard_below T m n t ≡ false → constant T n t ≡ None

  -- a Record whose first field has no bytes has none
  first-lacks : (m : ℕ) → Lacks m → (fields : List FieldPattern) (f : FieldTy) (fs : List FieldTy) → Each (λ g. is_constant T g.node ≡ true) fields → f.type < length T.types → piece (heard_below T m) f.type (field_pattern fields f.name) ≡ false → constant_fields (constant T) fields (f ∷ fs) ≡ None
  unfolding constant_fields
  first-lacks m ih fields f fs k q h = go (field_pattern fields f.name) refl h
    where
      go : (o : Option ℕ) → field_pattern fields f.name ≡ o → piece (heard_below T m) f.type o ≡ false → constant_fields (constant T) fields (f ∷ fs) ≡ None
      go None e g = when-none _ _ e
      go (Some p) e g = when-some _ _ p e ∙ when-none _ _ (ih p f.type (pattern-constant T fields f.name p k e) q g)

  record-lacks : (fields : List FieldPattern) (fs : List FieldTy) → constant_fields (constant T) fields fs ≡ None → constant_node T (constant T) (Node.Record fields) (Ty.Record fs) ≡ None
  unfolding constant_node constant_record
  record-lacks fields fs e = when-none _ _ e

  first-type : {t : ℕ} {f : FieldTy} {fs : List FieldTy} → Each (λ g. Child T t g.type) (f ∷ fs) → f.type < length T.types
  first-type (more q qs) = q.in-types

  -- what is not heard has no bytes: its first field has none
  pub quiet-lacks : (m : ℕ) → Lacks m
  unfolding heard_below any_field
  quiet-lacks zero n t c l h = absurd (true≢false h)
  quiet-lacks (suc m) n t c l h =
      let o = opens T m n t h in
      let e = record-node (node_at T n) o.fields o.node-is in
      let k = record-constant T P n o.fields (constant-in T n c) e c in
      let u = record-children (Child T t) (type_at T t) (o.front ∷ o.rest) (S.children t l) o.type-is in
      constant-is T S n t l
      ∙ ap (λ (x : ℕ). constant_node T (constant T) (node_at T x) (type_at T t)) (stands-constant T P n (constant-in T n c) c)
      ∙ ap₂ (constant_node T (constant T)) e (record-type (type_at T t) (o.front ∷ o.rest) o.type-is)
      ∙ record-lacks o.fields (o.front ∷ o.rest) (first-lacks m (quiet-lacks m) o.fields o.front o.rest k (first-type u) (either_left _ _ o.silent))

  -- `field` of a constant that is not heard, and what is opened on the way
  module _ (low : Resolved.Lower T) (a : ℕ) where
    abbrev walks : ℕ → FieldWalk State
    walks limit = field_below (ops T) T a limit

    abbrev Quiet : ℕ → ℕ → Type 0
    Quiet limit m = (n t : ℕ) (path : File.FieldPath) (s : State) → is_constant T n ≡ true → t < length T.types → t < limit → heard_below T m n t ≡ false → walks limit n t path s ≡ skip s

    module _ (limit m : ℕ) (ih : Quiet limit m) where
      quiet_each : (fields : List FieldPattern) (t : ℕ) {fs : List FieldTy} (i : ℕ) (path : File.FieldPath) (s : State) → t ≤ limit → Each (λ g. is_constant T g.node ≡ true) fields → Each (λ g. Child T t g.type) fs → any_field (heard_below T m) fields fs ≡ false → each_field (walks limit) (λ w. w) (then path) fields i fs (skip s) ≡ skip s
      unfolding each_field any_field
      quiet_each fields t i path s l k done h = refl
      quiet_each fields t i path s l k (more {x = f} {xs = fs} q qs) h =
          ap (each_field (walks limit) (λ w. w) (then path) fields (suc i) fs) (turn (field_pattern fields f.name) refl (either_left (piece (heard_below T m) f.type (field_pattern fields f.name)) (any_field (heard_below T m) fields fs) h))
          ∙ quiet_each fields t (suc i) path s l k qs (either-right (piece (heard_below T m) f.type (field_pattern fields f.name)) (any_field (heard_below T m) fields fs) h)
        where
          turn : (o : Option ℕ) → field_pattern fields f.name ≡ o → piece (heard_below T m) f.type o ≡ false → ◌≡◌ {A = State} (elim o [ None ↦ skip s | Some p ↦ walks limit p f.type (then path i) (skip s) ]) (skip s)
          turn None e g = refl
          turn (Some p) e g = ih p f.type (then path i) (skip s) (pattern-constant T fields f.name p k e) q.in-types (omega (arith, q.lower)) g ∙ skip-again s

      quiet-pieces : (n t : ℕ) (path : File.FieldPath) (s : State) → is_constant T n ≡ true → t < length T.types → t ≤ limit → heard_below T (suc m) n t ≡ false → partial (ops T) T a (walks limit) n t path s ≡ skip s
      unfolding partial partial_fields
      quiet-pieces n t path s c l g h =
          let o = opens T m n t h in
          let e = record-node (node_at T n) o.fields o.node-is in
          let ks = record-constant T P n o.fields (constant-in T n c) e c in
          let us = record-children (Child T t) (type_at T t) (o.front ∷ o.rest) (S.children t l) o.type-is in
          ap₂ (λ (ps : Option (List FieldPattern)) (fs : Option (List FieldTy)). partial_fields (ops T) T a (walks limit) ps fs path (skip s)) o.node-is o.type-is
          ∙ quiet_each o.fields t 0 path s g ks us o.silent

      quiet-const : (k n t : ℕ) (path : File.FieldPath) (s : State) → is_constant T n ≡ true → t < length T.types → t ≤ limit → heard_below T (suc m) n t ≡ false → matched (ops T) T a (walks limit) k (File.Slot.Const n) t path s ≡ skip s
      unfolding matched
      quiet-const k n t path s c l g h =
          let by : Option Const → State = λ x. elim x [ Some v ↦ narrow_by (ops T) T k v path s | None ↦ partial (ops T) T a (walks limit) n t path s ] in
          ap by (quiet-lacks (suc m) n t c l h) ∙ quiet-pieces n t path s c l g h

    quiet-way : (m n t : ℕ) → is_constant T n ≡ true → heard_below T (suc m) n t ≡ false → way_at T n t ≡ Wy.Constant
    unfolding way_at is_injection node_way literal_way union_ty
    quiet-way m n t c h =
        let o = opens T m n t h in
        let e = record-node (node_at T n) o.fields o.node-is in
        let u = ap union_ty (record-type (type_at T t) (o.front ∷ o.rest) o.type-is) in
        let by : Option (List FieldPattern) → Option (List Alternative) → Bool → Node → Way = λ ps alts b x. elim (is_injection ps alts) [ true ↦ Wy.Union | false ↦ node_way b x ] in
        ap₂ (λ (ps : Option (List FieldPattern)) (alts : Option (List Alternative)). by ps alts (is_constant T n) (node_at T n)) o.node-is u
        ∙ ap₂ node_way c e

    quiet-field : (limit m : ℕ) → Quiet limit m
    unfolding field_below heard_below by_way
    quiet-field zero m n t path s c l g h = absurd (omega arith)
    quiet-field (suc limit) zero n t path s c l g h = absurd (true≢false h)
    quiet-field (suc limit) (suc m) n t path s c l g h =
        sym (way-finished T a (walks limit) low n t path s)
        ∙ ap (λ (w : Way). by_way T a (walks limit) w n t path s) (quiet-way m n t c h)
        ∙ by-constant
        ∙ quiet-const limit m (quiet-field limit m) n n t path s c l (omega arith) h
      where
        by-constant : by_way T a (walks limit) Wy.Constant n t path s ≡ matched (ops T) T a (walks limit) n (File.Slot.Const n) t path s
        by-constant = refl

    -- `partial` of a constant that is not heard
    pub quiet-partial : (n t : ℕ) (path : File.FieldPath) (s : State) → is_constant T n ≡ true → t < length T.types → heard T n t ≡ false → (limit : ℕ) → t ≤ limit → partial (ops T) T a (walks limit) n t path s ≡ skip s
    unfolding heard heard_below
    quiet-partial n t path s c l h limit g = go (length T.types) h
      where
        go : (m : ℕ) → heard_below T m n t ≡ false → partial (ops T) T a (walks limit) n t path s ≡ skip s
        go zero e = absurd (true≢false e)
        go (suc m) e = quiet-pieces limit m (quiet-field limit m) n t path s c l g e

-- what is remembered as quiet is not heard
quiet-fate : (b c d : Bool) → fate_quiet ≡ fate_by b c d → d ≡ false
unfolding fate_by
quiet-fate false c d e = absurd (omega arith)
quiet-fate true true d e = absurd (omega arith)
quiet-fate true false true e = absurd (omega arith)
quiet-fate true false false e = refl

-- `partial` of a constant that is remembered as quiet
pub partial-quiet : (f ix : List ℕ) → AcceptedFile f ix → (a n t : ℕ) (path : File.FieldPath) (s₀ s : State) → t < length (tables_of f).types → quiet_in (tables_of f) ix n t ≡ true → s ≡ skip s₀ → Gives (tables_of f) a t (λ g. partial (ops (tables_of f)) (tables_of f) a g n t path s₀) s
unfolding fate
partial-quiet f ix A a n t path s₀ s l e q =
    let T : Tables = tables_of f in
    let r = quiet_is T ix n t e in
    let h = quiet-fate _ _ (heard T n t) (A.remembered n t fate_quiet (constant-in T n r.1) l r.0) in
    record { is = λ m g. q ∙ sym (quiet-partial T (passed f ix A) (sound-tables f ix A) (nodes-lower T (passed f ix A)) a n t path s₀ r.1 l h m g) }
