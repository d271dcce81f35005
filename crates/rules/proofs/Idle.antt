-- Where every operation leaves a state as it is, so does the whole walk: a program that finds its memory full may return at once.
use mathlib.Core.List.{List, [], ◌∷◌}
use Rattle.std.specs.Prelude.{Option, None, Some}
use mathlib.Core.Path.{◌≡◌, refl, sym, ap, ◌∙◌, subst}
use Prim.Native.Nat.{ℕ, zero, suc}
use lib.Dec.{eqb}
use lib.ListN.{length}
use Rattle.rules.specs.File.{Tables, FieldTy, Alternative, Ty, FieldPattern, Node, FieldPath, Slot, Constraint, type_at, node_at, fact_ty, record_ty, union_ty, record_fields, field_path, then, payload, is_constant}
use Rattle.rules.specs.Constant.{Const, field_pattern, alternative_of, only_field}
use Rattle.rules.specs.Lookup.{fetched_register}
use Rattle.rules.specs.Events.{Code, Narrowing, Ops}
use Rattle.rules.specs.Resolve.{Answer, Resolver, follow, ◌when_found◌, give, declined, fetched_row, dereference, field_of_row, field_slot, value_slot, selected, select_slot, resolve_node, resolve_below, resolve}
use Rattle.rules.specs.Walk.{whole_node, narrow_by, FieldWalk, each_field, constrain_each, constrain_by, constrain, ranked, refers_to, deferred, unresolved, partial_fields, partial, matched, inject_alternative, inject_only, inject, read_answer, read, ranged, variable, field_node, field_below, field, whole_fields, whole_read, whole_variable, whole_key, record_key, key}
use Rattle.rules.proofs.Cases.{by-test, by-option}
use Rattle.rules.proofs.Sentences.{new-is-bound, bound-is-read}

-- every operation leaves s as it is
pub record Idle {S : Type 0} (o : Ops S) (s : S) : Type 0 where
  pub bind : (x : ℕ) (slot : Slot) → o.bind x slot s ≡ s
  pub constrained : (x : ℕ) → o.constrained x s ≡ s
  pub select : (a : ℕ) (path : FieldPath) (disc : ℕ) → o.select a path disc s ≡ s
  pub report : (n : ℕ) (code : Code) → o.report n code s ≡ s
  pub narrow : (n : ℕ) (path : FieldPath) (x : Narrowing) → o.narrow n path x s ≡ s
  pub skip : o.skip s ≡ s
  pub closer : (n : ℕ) → o.closer n s ≡ s
  pub bound : (x t : ℕ) → o.bound x t s ≡ s
  pub brings : (slot : Slot) (ty : Ty) → o.brings slot ty s ≡ s

module _ {S : Type 0} (o : Ops S) (T : Tables) (s : S) (I : Idle o s) where
  -- Reads.
  abbrev pub Rests : Resolver S → Type 0
  Rests r = (r s).walk ≡ s

  pub idle-next : (r : Resolver S) (g : Slot → Resolver S) → Rests r → ((slot : Slot) → Rests (g slot)) → Rests (r when_found g)
  unfolding ◌when_found◌ follow
  idle-next r g h k = by-option (λ (a : Answer S). a.walk ≡ s) (r s).slot (λ e. h) (λ slot e. subst (λ w. (g slot w).walk ≡ s) (sym h) (k slot))

  pub idle-give : (slot : Option Slot) → Rests (give slot)
  unfolding give
  idle-give slot = refl

  pub idle-declined : (n : ℕ) (code : Code) → Rests (declined o T n code)
  unfolding declined
  idle-declined n code = I.report n code

  pub idle-fetched : (n p : ℕ) (register : Option ℕ) → Rests (fetched_row o T n p register)
  unfolding fetched_row
  idle-fetched n p None = idle-declined n Code.NyiFactField
  idle-fetched n p (Some register) = idle-give _

  pub idle-dereference : (n : ℕ) (slot : Slot) → Rests (dereference o T n slot)
  unfolding dereference
  idle-dereference n (Slot.Row a p) = idle-give _
  idle-dereference n (Slot.Key a t) = idle-give _
  idle-dereference n (Slot.Derived a) = idle-give _
  idle-dereference n (Slot.Field a path t) = by-option Rests (fact_ty (type_at T t)) (λ e. idle-give _) (λ p e. idle-fetched n p (fetched_register T a path))
  idle-dereference n (Slot.Value a t) = by-option Rests (fact_ty (type_at T t)) (λ e. idle-give _) (λ p e. idle-declined n Code.NyiFactField)
  idle-dereference n (Slot.Const c) = idle-give _

  pub idle-row : (x : ℕ) (slot : Slot) → Rests (field_of_row o T x slot)
  unfolding field_of_row
  idle-row x (Slot.Row a p) = idle-give _
  idle-row x (Slot.Key a t) = idle-give _
  idle-row x (Slot.Derived a) = idle-give _
  idle-row x (Slot.Field a path t) = idle-give _
  idle-row x (Slot.Value a t) = idle-give _
  idle-row x (Slot.Const c) = idle-give _

  pub idle-field_slot : (n : ℕ) (slot : Slot) (x : ℕ) → Rests (field_slot o T n slot x)
  unfolding field_slot
  idle-field_slot n (Slot.Row a p) x = idle-give _
  idle-field_slot n (Slot.Key a t) x = idle-give _
  idle-field_slot n (Slot.Derived a) x = idle-give _
  idle-field_slot n (Slot.Field a path t) x =
      by-option Rests (fact_ty (type_at T t)) (λ e. idle-give _) (λ p e. idle-next _ _ (idle-dereference n (Slot.Field a path t)) (λ row. idle-row x row))
  idle-field_slot n (Slot.Value a t) x = idle-declined n Code.NyiValueField
  idle-field_slot n (Slot.Const c) x = idle-give _

  pub idle-value : (slot : Slot) → Rests (value_slot o T slot)
  unfolding value_slot
  idle-value (Slot.Row a p) = idle-give _
  idle-value (Slot.Key a t) = idle-give _
  idle-value (Slot.Derived a) = idle-give _
  idle-value (Slot.Field a path t) = idle-give _
  idle-value (Slot.Value a t) = idle-give _
  idle-value (Slot.Const c) = idle-give _

  pub idle-selected : (a : ℕ) (path : FieldPath) (alt : Option Alternative) → Rests (selected o T a path alt)
  unfolding selected
  idle-selected a path None = idle-give _
  idle-selected a path (Some alt) = I.select a path alt.disc

  pub idle-select_slot : (n : ℕ) (slot : Slot) (x : ℕ) → Rests (select_slot o T n slot x)
  unfolding select_slot
  idle-select_slot n (Slot.Row a p) x = idle-declined n Code.NyiFactField
  idle-select_slot n (Slot.Key a t) x = idle-declined n Code.NyiFactField
  idle-select_slot n (Slot.Derived a) x = idle-declined n Code.NyiFactField
  idle-select_slot n (Slot.Field a path t) x =
      by-option Rests (union_ty (type_at T t)) (λ e. idle-declined n Code.NyiFactField) (λ alts e. idle-selected a path (alternative_of alts x))
  idle-select_slot n (Slot.Value a t) x = idle-declined n Code.NyiFactField
  idle-select_slot n (Slot.Const c) x = idle-declined n Code.NyiFactField

  -- a base read and dereferenced
  pub idle-base : (below : ℕ → Resolver S) → ((m : ℕ) → Rests (below m)) → (n base : ℕ) (g : Slot → Resolver S) → ((slot : Slot) → Rests (g slot)) → Rests (below base when_found λ slot. (dereference o T n slot when_found g))
  idle-base below h n base g k = idle-next (below base) _ (h base) (λ slot. idle-next (dereference o T n slot) g (idle-dereference n slot) k)

  pub idle-resolve_node : (below : ℕ → Resolver S) → ((m : ℕ) → Rests (below m)) → (n : ℕ) (node : Node) → Rests (resolve_node o T below n node)
  unfolding resolve_node
  idle-resolve_node below h n (Node.Int bytes) = idle-give _
  idle-resolve_node below h n (Node.Str x) = idle-give _
  idle-resolve_node below h n (Node.Bytes bytes) = idle-give _
  idle-resolve_node below h n (Node.Var x) = refl
  idle-resolve_node below h n Node.Wildcard = idle-give _
  idle-resolve_node below h n Node.Never = idle-give _
  idle-resolve_node below h n (Node.Prefix x) = idle-give _
  idle-resolve_node below h n (Node.Fuzzy x d a) = idle-give _
  idle-resolve_node below h n (Node.Record fs) = idle-give _
  idle-resolve_node below h n (Node.Access x base) = idle-base below h n base (λ place. field_slot o T n place x) (λ place. idle-field_slot n place x)
  idle-resolve_node below h n (Node.Value base) = idle-base below h n base (value_slot o T) idle-value
  idle-resolve_node below h n (Node.Select x base) = idle-base below h n base (λ place. select_slot o T n place x) (λ place. idle-select_slot n place x)
  idle-resolve_node below h n Node.Disjunction = idle-give _
  idle-resolve_node below h n Node.Subquery = idle-give _
  idle-resolve_node below h n (Node.Fact p key') = refl
  idle-resolve_node below h n Node.Arith = idle-give _
  idle-resolve_node below h n Node.Error = idle-give _

  pub idle-resolve_below : (limit n : ℕ) → Rests (resolve_below o T limit n)
  unfolding resolve_below
  idle-resolve_below zero n = idle-give _
  idle-resolve_below (suc limit) n =
      by-test Rests (is_constant T n) (λ e. idle-give _) (λ e. idle-resolve_node (resolve_below o T limit) (idle-resolve_below limit) n (node_at T n))

  pub idle-resolve : (n : ℕ) → Rests (resolve o T n)
  unfolding resolve
  idle-resolve n = idle-resolve_below (length T.nodes) n

  -- Walks of a pattern.
  abbrev pub Stays : FieldWalk S → Type 0
  Stays g = (n t : ℕ) (path : FieldPath) → g n t path s ≡ s

  reported : (n : ℕ) (code : Code) → o.report n code (o.skip s) ≡ s
  reported n code = ap (o.report n code) I.skip ∙ I.report n code

  pub idle-each : (g : FieldWalk S) (missing : S → S) (place : ℕ → FieldPath) (fields : List FieldPattern) → Stays g → missing s ≡ s → (i : ℕ) (fs : List FieldTy) → each_field g missing place fields i fs s ≡ s
  unfolding each_field
  idle-each g missing place fields h m i [] = refl
  idle-each g missing place fields h m i (f ∷ fs) =
      ap (each_field g missing place fields (suc i) fs) (by-option (λ w. w ≡ s) (field_pattern fields f.name) (λ e. m) (λ pattern e. h pattern f.type (place i)))
      ∙ idle-each g missing place fields h m (suc i) fs

  pub idle-narrow_by : (n : ℕ) (c : Const) (path : FieldPath) → narrow_by o T n c path s ≡ s
  unfolding narrow_by
  idle-narrow_by n c path = I.narrow n path _

  pub idle-constrain_each : (ks : List Constraint) (t : ℕ) (path : FieldPath) → constrain_each o T ks t path s ≡ s
  unfolding constrain_each
  idle-constrain_each [] t path = refl
  idle-constrain_each (k ∷ ks) t path =
      ap (constrain_each o T ks t path) (by-option (λ w. w ≡ s) (o.constant s k.node t) (λ e. reported k.node Code.RejectTypeMismatch) (λ c e. idle-narrow_by k.node c path))
      ∙ idle-constrain_each ks t path

  pub idle-constrain_by : (ks : List Constraint) (x t : ℕ) (path : FieldPath) → constrain_by o T ks x t path s ≡ s
  unfolding constrain_by
  idle-constrain_by [] x t path = ap o.skip (I.bound x t) ∙ I.skip
  idle-constrain_by (k ∷ ks) x t path = ap (constrain_each o T (k ∷ ks) t path) (I.constrained x) ∙ idle-constrain_each (k ∷ ks) t path

  pub idle-constrain : (x t : ℕ) (path : FieldPath) → constrain o T x t path s ≡ s
  unfolding constrain
  idle-constrain x t path = idle-constrain_by (ranked T x) x t path

  pub idle-unresolved : (n : ℕ) (before : S) → unresolved o T n before s ≡ s
  unfolding unresolved
  idle-unresolved n before =
      by-test (λ w. w ≡ s) (deferred (node_at T n))
      (λ e. I.skip)
      (λ e. by-test (λ w. w ≡ s) (eqb (o.reported s) (o.reported before)) (λ q. reported n Code.RejectUnresolvedAccess) (λ q. I.skip))

  module _ (address : ℕ) (below : FieldWalk S) (B : Stays below) where
    pub idle-partial_fields : (fields : Option (List FieldPattern)) (fs : Option (List FieldTy)) (path : FieldPath) → partial_fields o T address below fields fs path s ≡ s
    unfolding partial_fields
    idle-partial_fields None fs path = refl
    idle-partial_fields (Some fields) None path = refl
    idle-partial_fields (Some fields) (Some fs) path = idle-each below (λ w. w) (then path) fields B refl 0 fs

    pub idle-partial : Stays (partial o T address below)
    unfolding partial
    idle-partial n t path =
        ap (partial_fields o T address below (record_fields (node_at T n)) (record_ty (type_at T t)) path) I.skip
        ∙ idle-partial_fields (record_fields (node_at T n)) (record_ty (type_at T t)) path

    pub idle-matched : (n : ℕ) (slot : Slot) (t : ℕ) (path : FieldPath) → matched o T address below n slot t path s ≡ s
    unfolding matched
    idle-matched n (Slot.Row from p) t path = by-test (λ w. w ≡ s) (refers_to p (fact_ty (type_at T t))) (λ e. I.narrow n path _) (λ e. I.report n _)
    idle-matched n (Slot.Key from ty) t path = reported n Code.NyiWholeKey
    idle-matched n (Slot.Derived from) t path = reported n Code.NyiValueMatch
    idle-matched n (Slot.Field from at ty) t path = by-test (λ w. w ≡ s) (eqb from address) (λ e. I.narrow n path _) (λ e. I.narrow n path _)
    idle-matched n (Slot.Value from ty) t path = I.report n _
    idle-matched n (Slot.Const folded) t path = by-option (λ w. w ≡ s) (o.constant s folded t)
        (λ e. ap (partial o T address below folded t path) (I.brings (Slot.Const folded) (type_at T t)) ∙ idle-partial folded t path)
        (λ c e. idle-narrow_by n c path)

    pub idle-inject_alternative : (n : ℕ) (f : FieldPattern) (alt : Option Alternative) (path : FieldPath) → inject_alternative o T address below n f alt path s ≡ s
    unfolding inject_alternative
    idle-inject_alternative n f None path = reported n Code.RejectUnknownAlternative
    idle-inject_alternative n f (Some alt) path =
        ap (λ w. o.closer n (below f.node alt.type (payload path alt.disc) w)) (I.narrow n path _)
        ∙ ap (o.closer n) (B f.node alt.type (payload path alt.disc))
        ∙ I.closer n

    pub idle-inject_only : (n : ℕ) (f : Option FieldPattern) (alts : List Alternative) (path : FieldPath) → inject_only o T address below n f alts path s ≡ s
    unfolding inject_only
    idle-inject_only n None alts path = reported n Code.RejectUnionArity
    idle-inject_only n (Some f) alts path = idle-inject_alternative n f (alternative_of alts f.name) path

    pub idle-inject : (fields : List FieldPattern) (alts : List Alternative) → Stays (inject o T address below fields alts)
    unfolding inject
    idle-inject fields alts n t path =
        by-option (λ w. w ≡ s) (o.constant s n t) (λ e. idle-inject_only n (only_field fields) alts path) (λ c e. idle-narrow_by n c path)

    pub idle-read_answer : (n : ℕ) (slot : Option Slot) (t : ℕ) (path : FieldPath) (before : S) → read_answer o T address below n slot t path before s ≡ s
    unfolding read_answer
    idle-read_answer n (Some slot) t path before = idle-matched n slot t path
    idle-read_answer n None t path before = by-option (λ w. w ≡ s) (record_fields (node_at T n)) (λ e. idle-unresolved n before) (λ fields e. idle-partial n t path)

    pub idle-read : Stays (read o T address below)
    unfolding read
    idle-read n t path =
        ap (read_answer o T address below n (resolve o T n s).slot t path s) (idle-resolve n) ∙ idle-read_answer n (resolve o T n s).slot t path s

    pub idle-ranged : Stays (ranged o T address below)
    unfolding ranged
    idle-ranged n t path = by-option (λ w. w ≡ s) (o.constant s n t) (λ e. I.report n _) (λ c e. idle-narrow_by n c path)

    pub idle-variable : (x : ℕ) → Stays (variable o T address below x)
    idle-variable x n t path = go (o.lookup s x) refl
      where
        go : (found : Option Slot) → o.lookup s x ≡ found → variable o T address below x n t path s ≡ s
        go None e = new-is-bound o T address below x n t path s e ∙ ap (constrain o T x t path) (I.bind x _) ∙ idle-constrain x t path
        go (Some slot) e = bound-is-read o T address below x n t path s slot e ∙ idle-read n t path

    pub idle-field_node : (node : Node) → Stays (field_node o T address below node)
    unfolding field_node
    idle-field_node (Node.Int bytes) n t path = idle-read n t path
    idle-field_node (Node.Str x) n t path = idle-read n t path
    idle-field_node (Node.Bytes bytes) n t path = idle-read n t path
    idle-field_node (Node.Var x) n t path = idle-variable x n t path
    idle-field_node Node.Wildcard n t path = I.skip
    idle-field_node Node.Never n t path = reported n Code.NyiNever
    idle-field_node (Node.Prefix x) n t path = idle-ranged n t path
    idle-field_node (Node.Fuzzy x d a) n t path = idle-ranged n t path
    idle-field_node (Node.Record fs) n t path = by-option (λ w. w ≡ s) (union_ty (type_at T t)) (λ e. idle-read n t path) (λ alts e. idle-inject fs alts n t path)
    idle-field_node (Node.Access x base) n t path = idle-read n t path
    idle-field_node (Node.Value base) n t path = idle-read n t path
    idle-field_node (Node.Select x base) n t path = idle-read n t path
    idle-field_node Node.Disjunction n t path = reported n Code.NyiDisjunction
    idle-field_node Node.Subquery n t path = idle-read n t path
    idle-field_node (Node.Fact p key') n t path = idle-read n t path
    idle-field_node Node.Arith n t path = idle-read n t path
    idle-field_node Node.Error n t path = idle-read n t path

  module _ (address : ℕ) where
    pub idle-field_below : (limit : ℕ) → Stays (field_below o T address limit)
    unfolding field_below
    idle-field_below zero n t path = refl
    idle-field_below (suc limit) n t path = idle-field_node address (field_below o T address limit) (idle-field_below limit) (node_at T n) n t path

    pub idle-field : Stays (field o T address)
    unfolding field
    idle-field n t path = idle-field_below (length T.types) n t path

    -- The whole key.
    pub idle-whole_fields : (n : ℕ) (slot : Slot) (i : ℕ) (fs : List FieldTy) → whole_fields o T address n slot i fs s ≡ s
    unfolding whole_fields
    idle-whole_fields n slot i [] = refl
    idle-whole_fields n slot i (f ∷ fs) =
        ap (whole_fields o T address n slot (suc i) fs)
        (by-option (λ w. w ≡ s) (field_slot o T n slot f.name s).slot
        (λ e. ap o.skip (idle-field_slot n slot f.name) ∙ I.skip)
        (λ found e. ap (matched o T address (field o T address) (whole_node n found) found f.type (field_path i)) (idle-field_slot n slot f.name) ∙ idle-matched address (field o T address) idle-field (whole_node n found) found f.type (field_path i)))
        ∙ idle-whole_fields n slot (suc i) fs

    pub idle-whole_read : (n : ℕ) (fs : List FieldTy) → whole_read o T address n fs s ≡ s
    unfolding whole_read
    idle-whole_read n fs =
        by-option (λ w. w ≡ s) (resolve o T n s).slot
        (λ e. ap o.skip (idle-resolve n) ∙ I.skip)
        (λ slot e.
        ap (λ w. whole_fields o T address n slot 0 fs (o.brings slot (Ty.Record fs) w)) (idle-resolve n)
        ∙ ap (whole_fields o T address n slot 0 fs) (I.brings slot (Ty.Record fs))
        ∙ idle-whole_fields n slot 0 fs)

    pub idle-whole_variable : (x n t : ℕ) (fs : List FieldTy) → whole_variable o T address x n t fs s ≡ s
    unfolding whole_variable
    idle-whole_variable x n t fs =
        by-option (λ w. w ≡ s) (o.lookup s x) (λ e. ap (o.bind x (Slot.Key address t)) I.skip ∙ I.bind x _) (λ slot e. idle-whole_read n fs)

    pub idle-whole_key : (node : Node) (n t : ℕ) (fs : List FieldTy) → whole_key o T address node n t fs s ≡ s
    unfolding whole_key
    idle-whole_key (Node.Int bytes) n t fs = idle-whole_read n fs
    idle-whole_key (Node.Str x) n t fs = idle-whole_read n fs
    idle-whole_key (Node.Bytes bytes) n t fs = idle-whole_read n fs
    idle-whole_key (Node.Var x) n t fs = idle-whole_variable x n t fs
    idle-whole_key Node.Wildcard n t fs = I.skip
    idle-whole_key Node.Never n t fs = idle-whole_read n fs
    idle-whole_key (Node.Prefix x) n t fs = idle-whole_read n fs
    idle-whole_key (Node.Fuzzy x d a) n t fs = idle-whole_read n fs
    idle-whole_key (Node.Record gs) n t fs = idle-whole_read n fs
    idle-whole_key (Node.Access x base) n t fs = idle-whole_read n fs
    idle-whole_key (Node.Value base) n t fs = idle-whole_read n fs
    idle-whole_key (Node.Select x base) n t fs = idle-whole_read n fs
    idle-whole_key Node.Disjunction n t fs = idle-whole_read n fs
    idle-whole_key Node.Subquery n t fs = idle-whole_read n fs
    idle-whole_key (Node.Fact p key') n t fs = idle-whole_read n fs
    idle-whole_key Node.Arith n t fs = idle-whole_read n fs
    idle-whole_key Node.Error n t fs = idle-whole_read n fs

    pub idle-record_key : (fields : Option (List FieldPattern)) (n t : ℕ) (fs : List FieldTy) → record_key o T address fields n t fs s ≡ s
    unfolding record_key
    idle-record_key (Some fields) n t fs = idle-each (field o T address) o.skip field_path fields idle-field I.skip 0 fs
    idle-record_key None n t fs = idle-whole_key (node_at T n) n t fs

    pub idle-key : (n t : ℕ) → key o T address n t s ≡ s
    unfolding key
    idle-key n t =
        by-option (λ w. w ≡ s) (record_ty (type_at T t)) (λ e. idle-field n t (field_path 0)) (λ fs e. idle-record_key (record_fields (node_at T n)) n t fs)
