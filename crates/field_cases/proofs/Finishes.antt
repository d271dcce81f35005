-- What is begun, finished over whatever walks the types below: the written walk.
use Prim.Native.Nat.{ℕ, zero, suc, ◌+◌, ◌≤◌, ◌<◌}
use mathlib.Core.Path.{◌≡◌, refl, sym, ap, ◌∙◌, subst}
use mathlib.Core.Bool.{Bool, true, false}
use mathlib.Core.List.{List, []}
use Rattle.std.specs.Prelude.{Option, None, Some}
use mathlib.Core.Logic.{⊎_elim}
use native.Mathlib.Omega.{arith}
use native.Mathlib.Nat.{zero-add}
use lib.Dec.{eqb}
use lib.ListN.{length, take, get_or-eq_default}
use Rattle.rules.specs.File as File
use Rattle.rules.specs.File.{Tables, Node, FieldPattern, Alternative, type_at, node_at, var_name, record_fields, union_ty, constant_of, constants, is_constant}
use Rattle.rules.specs.Constant.{Const, constant, only_field, alternative_of}
use Rattle.rules.specs.Events.{Narrowing}
use Rattle.rules.specs.Resolve.{Answer, Resolver, give, resolve_node, resolve_below, resolve}
use Rattle.rules.specs.Walk.{FieldWalk, narrow_by, constrain, matched, inject_alternative, inject_only, inject, read_answer, read, ranged, variable, field_node}
use Rattle.rules.proofs.Cases.{some≢none}
use Rattle.rules.proofs.BottomUp.{at_place}
use Rattle.rules.proofs.Each.{each_first}
use Rattle.rules.proofs.Keeps.{union-children}
use Rattle.rules.proofs.Sound.{Sound, Child}
use Rattle.state.specs.State.{State}
use Rattle.state.specs.Ops.{ops, bind, report, skip, narrow, closer}
use Rattle.lists.specs.Lists.{code_of}
use Rattle.resolve.proofs.Steps as Resolved
use Rattle.resolve.proofs.Answers.{resolve-constant}
use Rattle.file.proofs.Readers.{lt-or-le}
use Rattle.field_cases.specs.Pieces.{Lower}
use Rattle.field_cases.specs.FieldCases as Begin
use Rattle.field_cases.specs.declared.Way.{Way}
use Rattle.field_cases.specs.declared.Way.TheVariants as Wy
use Rattle.field_cases.specs.FieldCases.{is_injection, literal_way, node_way, way_at, meeting, Payload, Choosing, named_choice, only_choice, alternative_choice, choosing, inject_fields, inject_at}

-- a Var is resolved by its name
module _ (T : Tables) (n x : ℕ) (v : node_at T n ≡ Node.Var x) where
  var-inside : n < length T.nodes
  unfolding node_at var_name
  var-inside = ⊎_elim (λ h. h) (λ h. absurd (some≢none x (sym (ap var_name (sym (get_or-eq_default T.nodes Node.Error h) ∙ v))))) (lt-or-le n (length T.nodes))

  var-inconstant : is_constant T n ≡ false
  unfolding is_constant constants constant_of node_at
  var-inconstant = rw (zero-add n) at (at_place constant_of [] T.nodes n false Node.Error var-inside) ∙ ap (constant_of (take n (constants T))) v

  abbrev step_of : ℕ → Bool → Resolver State
  step_of l b = elim b [ true ↦ give (Some (File.Slot.Const n)) | false ↦ resolve_node (ops T) T (resolve_below (ops T) T l) n (node_at T n) ]

  var-below : (l : ℕ) → n < l → (s : State) → resolve_below (ops T) T l n s ≡ record { slot = (ops T).lookup s x; walk = s }
  unfolding resolve_below resolve_node
  var-below zero h s = absurd (omega arith)
  var-below (suc l) h s =
      ap (λ (b : Bool). step_of l b s) var-inconstant
      ∙ ap (λ (y : Node). resolve_node (ops T) T (resolve_below (ops T) T l) n y s) v

  var-resolved : (s : State) → resolve (ops T) T n s ≡ record { slot = (ops T).lookup s x; walk = s }
  unfolding resolve
  var-resolved s = var-below (length T.nodes) var-inside s

-- the node of a constant
abbrev pub const_node : File.Slot → Option ℕ
const_node (File.Slot.Row from p) = None
const_node (File.Slot.Key from u) = None
const_node (File.Slot.Derived from) = None
const_node (File.Slot.Field from at u) = None
const_node (File.Slot.Value from u) = None
const_node (File.Slot.Const folded) = Some folded

module _ (T : Tables) (a : ℕ) (below : FieldWalk State) where
  -- `field` by its way
  unfoldable pub by_way : Way → ℕ → ℕ → File.FieldPath → State → State
  by_way Wy.Union n t path s = inject_at T a below n t path s
  by_way Wy.Skip n t path s = skip s
  by_way (Wy.Report code) n t path s = report n (code_of code) (skip s)
  by_way Wy.Range n t path s = ranged (ops T) T a below n t path s
  by_way Wy.Constant n t path s = matched (ops T) T a below n (File.Slot.Const n) t path s
  by_way (Wy.Variable x) n t path s =
      elim ((ops T).lookup s x) [
        | None ↦ constrain (ops T) T x t path (bind x (File.Slot.Field a path t) s)
        | Some slot ↦ matched (ops T) T a below n slot t path s
      ]
  by_way Wy.Read n t path s = read (ops T) T a below n t path s

  module _ (low : Resolved.Lower T) (n t : ℕ) (path : File.FieldPath) (s : State) where
    abbrev done : Way → State
    done x = by_way x n t path s

    abbrev answered : Answer State → State
    answered r = read_answer (ops T) T a below n r.slot t path s r.walk

    -- a constant is its own location
    literal-finished : (b : Bool) → is_constant T n ≡ b → done (literal_way b) ≡ read (ops T) T a below n t path s
    unfolding by_way literal_way read read_answer give
    literal-finished false e = refl
    literal-finished true e = ap answered (sym (resolve-constant T low n s e))

    variable-finished : (x : ℕ) → node_at T n ≡ Node.Var x → done (Wy.Variable x) ≡ variable (ops T) T a below x n t path s
    unfolding by_way variable read read_answer
    variable-finished x v = go ((ops T).lookup s x) refl
      where
        go : (o : Option File.Slot) → (ops T).lookup s x ≡ o → ◌≡◌ {A = State} (elim o [ None ↦ constrain (ops T) T x t path (bind x (File.Slot.Field a path t) s) | Some slot ↦ matched (ops T) T a below n slot t path s ]) (elim o [ None ↦ constrain (ops T) T x t path (bind x (File.Slot.Field a path t) s) | Some slot ↦ read (ops T) T a below n t path s ])
        go None e = refl
        go (Some slot) e =
            ap (λ (o : Option File.Slot). read_answer (ops T) T a below n o t path s s) (sym e) ∙ ap answered (sym (var-resolved T n x v s))

    -- `inject_at` is `inject` of a record against a union
    module _ (fs : List FieldPattern) (e : record_fields (node_at T n) ≡ Some fs) where
      inject-is : (alts : List Alternative) → union_ty (type_at T t) ≡ Some alts → inject_at T a below n t path s ≡ inject (ops T) T a below fs alts n t path s
      unfolding inject_at inject_fields inject
      inject-is alts g =
          ap (λ (x : State). elim (constant T n t) [ Some c ↦ narrow_by (ops T) T n c path s | None ↦ x ])
          (ap (λ (o : Option (List FieldPattern)). inject_fields T a below o (union_ty (type_at T t)) n path s) e ∙ ap (λ (o : Option (List Alternative)). inject_fields T a below (Some fs) o n path s) g)

      abbrev opens_as : Option (List Alternative) → State
      opens_as o = elim o [ Some alts ↦ inject (ops T) T a below fs alts n t path s | None ↦ read (ops T) T a below n t path s ]

      record-finished : (o : Option (List Alternative)) → union_ty (type_at T t) ≡ o → done (elim (is_injection (Some fs) o) [ true ↦ Wy.Union | false ↦ literal_way (is_constant T n) ]) ≡ opens_as o
      unfolding is_injection by_way
      record-finished None g = literal-finished (is_constant T n) refl
      record-finished (Some alts) g = inject-is alts g

    node-finished : (node : Node) → node_at T n ≡ node → done (elim (is_injection (record_fields node) (union_ty (type_at T t))) [ true ↦ Wy.Union | false ↦ node_way (is_constant T n) node ]) ≡ field_node (ops T) T a below node n t path s
    unfolding node_way field_node by_way record_fields is_injection
    node-finished (Node.Int bytes) e = literal-finished (is_constant T n) refl
    node-finished (Node.Str x) e = literal-finished (is_constant T n) refl
    node-finished (Node.Bytes bytes) e = literal-finished (is_constant T n) refl
    node-finished (Node.Var x) e = variable-finished x e
    node-finished Node.Wildcard e = refl
    node-finished Node.Never e = refl
    node-finished (Node.Prefix x) e = refl
    node-finished (Node.Fuzzy x d y) e = refl
    node-finished (Node.Record fs) e = record-finished fs (ap record_fields e) (union_ty (type_at T t)) refl
    node-finished (Node.Access x i) e = literal-finished (is_constant T n) refl
    node-finished (Node.Value i) e = literal-finished (is_constant T n) refl
    node-finished (Node.Select x i) e = literal-finished (is_constant T n) refl
    node-finished Node.Disjunction e = refl
    node-finished Node.Subquery e = literal-finished (is_constant T n) refl
    node-finished (Node.Fact p i) e = literal-finished (is_constant T n) refl
    node-finished Node.Arith e = literal-finished (is_constant T n) refl
    node-finished Node.Error e = literal-finished (is_constant T n) refl

    pub way-finished : done (way_at T n t) ≡ field_node (ops T) T a below (node_at T n) n t path s
    unfolding way_at
    way-finished = node-finished (node_at T n) refl

  -- `matched` of a slot that is no constant
  pub meeting-finished : (n : ℕ) (slot : File.Slot) (t : ℕ) (path : File.FieldPath) (s : State) → const_node slot ≡ None → meeting T a n slot t path s ≡ matched (ops T) T a below n slot t path s
  unfolding meeting matched
  meeting-finished n (File.Slot.Row from p) t path s e = refl
  meeting-finished n (File.Slot.Key from u) t path s e = refl
  meeting-finished n (File.Slot.Derived from) t path s e = refl
  meeting-finished n (File.Slot.Field from at u) t path s e = refl
  meeting-finished n (File.Slot.Value from u) t path s e = refl
  meeting-finished n (File.Slot.Const folded) t path s e = absurd (some≢none folded e)

  -- `inject`, with an alternative: tag, payload, closer
  unfoldable pub injected : ℕ → Choosing → File.FieldPath → State
  injected n c path =
      elim c.payload [
        | None ↦ c.state
        | Some p ↦ closer n (below p.node p.type (File.payload path p.disc) (narrow n path (Narrowing.Tag p.disc) c.state))
      ]

  module _ (n : ℕ) (path : File.FieldPath) (s : State) where
    named-finished : (f : FieldPattern) (o : Option Alternative) → injected n (named_choice f o n s) path ≡ inject_alternative (ops T) T a below n f o path s
    unfolding injected named_choice inject_alternative
    named-finished f None = refl
    named-finished f (Some alt) = refl

    only-finished : (o : Option FieldPattern) (alts : List Alternative) → injected n (only_choice o alts n s) path ≡ inject_only (ops T) T a below n o alts path s
    unfolding only_choice inject_only injected
    only-finished None alts = refl
    only-finished (Some f) alts = named-finished f (alternative_of alts f.name)

    alternative-finished : (o : Option (List FieldPattern)) (u : Option (List Alternative)) → injected n (alternative_choice o u n s) path ≡ inject_fields T a below o u n path s
    unfolding alternative_choice inject_fields injected
    alternative-finished None u = refl
    alternative-finished (Some fields) None = refl
    alternative-finished (Some fields) (Some alts) = only-finished (only_field fields) alts

    pub choosing-finished : (t : ℕ) → injected n (choosing T n t path s) path ≡ inject_at T a below n t path s
    unfolding choosing inject_at injected
    choosing-finished t = go (constant T n t)
      where
        go : (o : Option Const) → injected n (elim o [ Some c ↦ Begin.unchosen (narrow_by (ops T) T n c path s) | None ↦ alternative_choice (record_fields (node_at T n)) (union_ty (type_at T t)) n s ]) path ≡ elim o [ Some c ↦ narrow_by (ops T) T n c path s | None ↦ inject_fields T a below (record_fields (node_at T n)) (union_ty (type_at T t)) n path s ]
        go None = alternative-finished (record_fields (node_at T n)) (union_ty (type_at T t))
        go (Some c) = refl

-- the payload's type is below the union's
module _ (T : Tables) (t n : ℕ) (s : State) (p : Payload) where
  named-lower : (alts : List Alternative) → union_ty (type_at T t) ≡ Some alts → Sound T → t < length T.types → (f : FieldPattern) (o : Option Alternative) → alternative_of alts f.name ≡ o → (named_choice f o n s).payload ≡ Some p → Lower T t p.type
  unfolding named_choice alternative_of
  named-lower alts u S h f None e q = absurd (some≢none p (sym q))
  named-lower alts u S h f (Some alt) e q =
      let c : Child T t alt.type = each_first (λ (x : Alternative). eqb x.name f.name) (union-children (Child T t) (type_at T t) alts (S.children t h) u) alt e in
      let ty : alt.type ≡ p.type = ap (λ (x : Option Payload). elim x [ None ↦ 0 | Some y ↦ y.type ]) q in
      record { lower = subst (λ (i : ℕ). i < t) ty c.lower; known = subst (λ (i : ℕ). i < length T.types) ty c.in-types; less-deep = subst (λ (i : ℕ). File.depth T i + 1 ≤ File.depth T t) ty c.less-deep }

  only-lower : (alts : List Alternative) → union_ty (type_at T t) ≡ Some alts → Sound T → t < length T.types → (o : Option FieldPattern) → (only_choice o alts n s).payload ≡ Some p → Lower T t p.type
  unfolding only_choice
  only-lower alts u S h None q = absurd (some≢none p (sym q))
  only-lower alts u S h (Some f) q = named-lower alts u S h f (alternative_of alts f.name) refl q

  alternative-lower : (o : Option (List FieldPattern)) (v : Option (List Alternative)) → union_ty (type_at T t) ≡ v → Sound T → t < length T.types → (alternative_choice o v n s).payload ≡ Some p → Lower T t p.type
  unfolding alternative_choice
  alternative-lower None v u S h q = absurd (some≢none p (sym q))
  alternative-lower (Some fields) None u S h q = absurd (some≢none p (sym q))
  alternative-lower (Some fields) (Some alts) u S h q = only-lower alts u S h (only_field fields) q

  abbrev chosen : File.FieldPath → Option Const → Choosing
  chosen path o = elim o [ Some c ↦ Begin.unchosen (narrow_by (ops T) T n c path s) | None ↦ alternative_choice (record_fields (node_at T n)) (union_ty (type_at T t)) n s ]

  pub choosing-lower : (path : File.FieldPath) → Sound T → t < length T.types → (choosing T n t path s).payload ≡ Some p → Lower T t p.type
  unfolding choosing
  choosing-lower path S h = go (constant T n t)
    where
      go : (o : Option Const) → (chosen path o).payload ≡ Some p → Lower T t p.type
      go None q = alternative-lower (record_fields (node_at T n)) (union_ty (type_at T t)) refl S h q
      go (Some c) q = absurd (some≢none p (sym q))
