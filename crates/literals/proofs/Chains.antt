-- The constant that a pattern stands for: down a chain of reads and up again, and that it is a constant of the file.
use Prim.Native.Nat.{ℕ, zero, suc, ◌+◌, ◌≤◌, ◌<◌}
use mathlib.Core.Path.{◌≡◌, refl, sym, ap, ◌∙◌, subst}
use mathlib.Core.Bool.{Bool, true, false}
use mathlib.Core.List.{List, [], ◌∷◌, ◌++◌}
use mathlib.Core.Logic.{⊎_elim}
use Rattle.std.proofs.lemmas.Option.{some_pair_parts}
use Rattle.std.specs.Prelude.{Option, None, Some}
use native.Mathlib.Omega.{arith}
use native.Mathlib.Numerals.{add-one}
use lib.ListN.{length, get_or, take, get_or-eq_default}
use lib.Seq.{sets, take-suc}
use lib.Dec.{eqb}
use Rattle.rules.specs.Base.{Each, more, first, ◌when_some◌}
use Rattle.rules.specs.File.{Tables, FieldPattern, Node, Slot, node_at, child_nodes, record_fields, constants, is_constant}
use Rattle.rules.specs.Constant.{const_bound, const_node, lookup, field_pattern}
use Rattle.rules.specs.Lookup.{folded_field}
use Rattle.rules.specs.Literals.{hoisted_const, folded_node, folded_below, folded}
use Rattle.rules.proofs.Cases.{by-test, some≢none, some-injective, bind-some}
use Rattle.rules.proofs.Choices.{by-test₂}
use Rattle.rules.proofs.Each.{each-imply, each_first}
use Rattle.rules.proofs.Sound.{Passed}
use Rattle.rules.proofs.Literals.{record-node, constant-in}
use Rattle.file.proofs.Readers.{lt-or-le}
use Rattle.accepted_file.proofs.Ranges.{ConstOk, lookup-const, record-constant}
use Rattle.resolve.specs.Resolved.{base_of}
use Rattle.resolve.specs.Chains.{read_of, passing, chain, ending, bottom}
use Rattle.resolve.specs.declared.Chain.{Chain}
use Rattle.resolve.specs.declared.Read.{Read}
use Rattle.resolve.proofs.Steps.{Lower, constants-length}
use Rattle.resolve.proofs.Chains.{bottom-stops, chain-kept}
use Rattle.literals.specs.Chains.{leaf_const, up_by, const_up, climb_const}

nothing-after : (o : Option ℕ) → ◌≡◌ {A = Option ℕ} (o when_some λ c. None) None
unfolding ◌when_some◌
nothing-after None = refl
nothing-after (Some c) = refl

-- `folded` by one step: a base is lower than its access, so the bound on the depth is never met.
module _ (T : Tables) where
  abbrev step_of : Bool → (ℕ → Option ℕ) → ℕ → Node → Option ℕ
  step_of constant below n node = elim constant [ true ↦ Some n | false ↦ folded_node T below n node ]

  abbrev step : (ℕ → Option ℕ) → ℕ → Option ℕ
  step below n = step_of (is_constant T n) below n (node_at T n)

  node-same : (f g : ℕ → Option ℕ) (n : ℕ) (node : Node) → Each (λ c. f c ≡ g c) (child_nodes node) → folded_node T f n node ≡ folded_node T g n node
  unfolding folded_node child_nodes
  node-same f g n (Node.Int bytes) h = refl
  node-same f g n (Node.Str x) h = refl
  node-same f g n (Node.Bytes bytes) h = refl
  node-same f g n (Node.Var x) h = refl
  node-same f g n Node.Wildcard h = refl
  node-same f g n Node.Never h = refl
  node-same f g n (Node.Prefix x) h = refl
  node-same f g n (Node.Fuzzy x d a) h = refl
  node-same f g n (Node.Record fs) h = refl
  node-same f g n (Node.Access x base) (more e h) = ap (λ (o : Option ℕ). o when_some λ c. folded_field T c x) e
  node-same f g n (Node.Value base) h = refl
  node-same f g n (Node.Select x base) h = refl
  node-same f g n Node.Disjunction h = refl
  node-same f g n Node.Subquery h = refl
  node-same f g n (Node.Fact p key) h = refl
  node-same f g n Node.Arith h = refl
  node-same f g n Node.Error h = refl

  past : (n : ℕ) → length T.nodes ≤ n → (f : ℕ → Option ℕ) → step f n ≡ None
  unfolding is_constant node_at folded_node
  past n h f =
      let g : length (constants T) ≤ n = omega (arith, constants-length T) in
      let c : is_constant T n ≡ false = get_or-eq_default (constants T) false g in
      let e : node_at T n ≡ Node.Error = get_or-eq_default T.nodes Node.Error h in
      ap (λ (b : Bool). step_of b f n (node_at T n)) c ∙ ap (folded_node T f n) e

  past-below : (l n : ℕ) → length T.nodes ≤ n → folded_below T l n ≡ None
  unfolding folded_below
  past-below zero n h = refl
  past-below (suc l) n h = past n h (folded_below T l)

  module _ (lower : Lower T) where
    enough : (l m n : ℕ) → n < length T.nodes → n < l → n < m → folded_below T l n ≡ folded_below T m n
    unfolding folded_below
    enough zero m n r h g = absurd (omega arith)
    enough (suc l) zero n r h g = absurd (omega arith)
    enough (suc l) (suc m) n r h g =
        by-test₂ (λ (a b : Option ℕ). a ≡ b) (is_constant T n) (λ e. refl)
        (λ e. node-same _ _ n (node_at T n) (each-imply (λ c q. enough l m c (omega arith) (omega arith) (omega arith)) (lower n r)))

    folded-step : (n : ℕ) → folded T n ≡ step (folded T) n
    unfolding folded folded_below
    folded-step n =
        ⊎_elim (λ h. enough (length T.nodes) (suc (length T.nodes)) n h h (omega arith))
        (λ h. past-below (length T.nodes) n h ∙ sym (past n h (folded T))) (lt-or-le n (length T.nodes))

    -- a node that reads of no other is a leaf; one that reads of another goes up from it
    leaf-same : (node : Node) (n : ℕ) (f : ℕ → Option ℕ) → base_of node ≡ None → folded_node T f n node ≡ folded_node T (λ base. None) n node
    unfolding base_of folded_node
    leaf-same (Node.Int bytes) n f e = refl
    leaf-same (Node.Str x) n f e = refl
    leaf-same (Node.Bytes bytes) n f e = refl
    leaf-same (Node.Var x) n f e = refl
    leaf-same Node.Wildcard n f e = refl
    leaf-same Node.Never n f e = refl
    leaf-same (Node.Prefix x) n f e = refl
    leaf-same (Node.Fuzzy x d a) n f e = refl
    leaf-same (Node.Record fs) n f e = refl
    leaf-same (Node.Access x base) n f e = absurd (let z : ◌≡◌ {A = ℕ} 0 1 = cc in omega arith)
    leaf-same (Node.Value base) n f e = refl
    leaf-same (Node.Select x base) n f e = refl
    leaf-same Node.Disjunction n f e = refl
    leaf-same Node.Subquery n f e = refl
    leaf-same (Node.Fact p key) n f e = refl
    leaf-same Node.Arith n f e = refl
    leaf-same Node.Error n f e = refl

    leaf-is : (n : ℕ) → read_of T n ≡ None → folded T n ≡ leaf_const T n
    unfolding read_of leaf_const
    leaf-is n e =
        folded-step n
        ∙ by-test₂ (λ (a b : Option ℕ). a ≡ b) (is_constant T n) (λ c. refl)
        (λ c. leaf-same (node_at T n) n (folded T) (sym (ap (λ (b : Bool). elim b [ true ↦ None | false ↦ base_of (node_at T n) ]) c) ∙ e))

    -- and so is one for which the nodes below it do not count
    pub other-is : (n : ℕ) → ((f : ℕ → Option ℕ) → folded_node T (λ base. None) n (node_at T n) ≡ folded_node T f n (node_at T n)) → leaf_const T n ≡ folded T n
    unfolding leaf_const
    other-is n h = by-test₂ (λ (a b : Option ℕ). a ≡ b) (is_constant T n) (λ c. refl) (λ c. h (folded T)) ∙ sym (folded-step n)

    up_same : (node : Node) (n : ℕ) (f : ℕ → Option ℕ) (read : Read) (b : ℕ) → base_of node ≡ Some (read, b) → (f b when_some λ c. up_by T c node) ≡ folded_node T f n node
    unfolding base_of up_by folded_node
    up_same (Node.Int bytes) n f read b e = absurd (let z : ◌≡◌ {A = ℕ} 0 1 = cc in omega arith)
    up_same (Node.Str x) n f read b e = absurd (let z : ◌≡◌ {A = ℕ} 0 1 = cc in omega arith)
    up_same (Node.Bytes bytes) n f read b e = absurd (let z : ◌≡◌ {A = ℕ} 0 1 = cc in omega arith)
    up_same (Node.Var x) n f read b e = absurd (let z : ◌≡◌ {A = ℕ} 0 1 = cc in omega arith)
    up_same Node.Wildcard n f read b e = absurd (let z : ◌≡◌ {A = ℕ} 0 1 = cc in omega arith)
    up_same Node.Never n f read b e = absurd (let z : ◌≡◌ {A = ℕ} 0 1 = cc in omega arith)
    up_same (Node.Prefix x) n f read b e = absurd (let z : ◌≡◌ {A = ℕ} 0 1 = cc in omega arith)
    up_same (Node.Fuzzy x d a) n f read b e = absurd (let z : ◌≡◌ {A = ℕ} 0 1 = cc in omega arith)
    up_same (Node.Record fs) n f read b e = absurd (let z : ◌≡◌ {A = ℕ} 0 1 = cc in omega arith)
    up_same (Node.Access x base) n f read b e = ap (λ (y : ℕ). f y when_some λ c. folded_field T c x) (sym (some_pair_parts _ _ _ _ e).1)
    up_same (Node.Value base) n f read b e = nothing-after (f b)
    up_same (Node.Select x base) n f read b e = nothing-after (f b)
    up_same Node.Disjunction n f read b e = absurd (let z : ◌≡◌ {A = ℕ} 0 1 = cc in omega arith)
    up_same Node.Subquery n f read b e = absurd (let z : ◌≡◌ {A = ℕ} 0 1 = cc in omega arith)
    up_same (Node.Fact p key) n f read b e = absurd (let z : ◌≡◌ {A = ℕ} 0 1 = cc in omega arith)
    up_same Node.Arith n f read b e = absurd (let z : ◌≡◌ {A = ℕ} 0 1 = cc in omega arith)
    up_same Node.Error n f read b e = absurd (let z : ◌≡◌ {A = ℕ} 0 1 = cc in omega arith)

    reader : (n : ℕ) (read : Read) (b : ℕ) → read_of T n ≡ Some (read, b) → (is_constant T n ≡ false) × (base_of (node_at T n) ≡ Some (read, b))
    unfolding read_of
    reader n read b =
        by-test (λ (x : Option (Read × ℕ)). x ≡ Some (read, b) → (is_constant T n ≡ false) × (base_of (node_at T n) ≡ Some (read, b))) (is_constant T n)
        (λ e g. absurd (let z : ◌≡◌ {A = ℕ} 0 1 = cc in omega arith)) (λ e g. (e, g))

    up_is : (n : ℕ) (read : Read) (b : ℕ) → read_of T n ≡ Some (read, b) → (folded T b when_some const_up T n) ≡ folded T n
    unfolding const_up
    up_is n read b e =
        let r = reader n read b e in
        up_same (node_at T n) n (folded T) read b r.1 ∙ sym (folded-step n ∙ ap (λ (c : Bool). step_of c (folded T) n (node_at T n)) r.0)

    climb-all : (most n : ℕ) → climb_const T (chain T most n) (folded T (bottom T most n)) ≡ folded T n
    unfolding chain bottom climb_const
    climb-all zero n = refl
    climb-all (suc m) n = go (climb-all m) (read_of T n) refl
      where
        go : ((b : ℕ) → climb_const T (chain T m b) (folded T (bottom T m b)) ≡ folded T b) → (x : Option (Read × ℕ)) → read_of T n ≡ x → climb_const T (passing n (chain T m) x) (folded T (ending n (bottom T m) x)) ≡ folded T n
        go rec None e = refl
        go rec (Some (read, b)) e = ap (λ (o : Option ℕ). o when_some const_up T n) (rec b) ∙ up_is n read b e

    -- down and up again
    module _ (before : List ℕ) (node : ℕ) {trail : List ℕ} {c : Chain} (d : (c ≡ record { passed = length (chain T (length before) node); node = bottom T (length before) node }) × (trail ≡ sets before 0 (chain T (length before) node)))
        (h : length (chain T (length before) node) < length before) where
      pub chain-is : {r : Option ℕ} → r ≡ climb_const T (take c.passed trail) (leaf_const T c.node) → r ≡ folded T node
      chain-is q =
          q ∙ ap (climb_const T (take c.passed trail)) (sym (leaf-is c.node (ap (λ (c : Chain). read_of T c.node) d.0 ∙ bottom-stops T (length before) node h)))
          ∙ ap (λ (c : Chain). climb_const T (take c.passed trail) (folded T c.node)) d.0
          ∙ ap (λ (ns : List ℕ). climb_const T ns (folded T (bottom T (length before) node))) (chain-kept T before trail node d.1 (omega arith))
          ∙ climb-all (length before) node

  -- the way up, with k nodes left
  climb-last : (ns : List ℕ) (n : ℕ) (end : Option ℕ) → climb_const T (ns ++ (n ∷ [])) end ≡ climb_const T ns (end when_some const_up T n)
  unfolding climb_const
  climb-last [] n end = refl
  climb-last (m ∷ ms) n end = ap (λ (o : Option ℕ). o when_some const_up T m) (climb-last ms n end)

  climb-none : (ns : List ℕ) → climb_const T ns None ≡ None
  unfolding climb_const ◌when_some◌
  climb-none [] = refl
  climb-none (n ∷ ns) = ap (λ (o : Option ℕ). o when_some const_up T n) (climb-none ns)

  pub record Up (trail : List ℕ) (passed : ℕ) (end below : Option ℕ) (k : ℕ) : Type 0 where
    pub is : climb_const T (take passed trail) end ≡ climb_const T (take k trail) below
    pub within : k ≤ passed

  pub up_first : (trail : List ℕ) (passed : ℕ) (end : Option ℕ) → Up trail passed end end passed
  up_first trail passed end = record { is = refl; within = omega arith }

  module _ {trail : List ℕ} {passed : ℕ} {end below : Option ℕ} {k : ℕ} (u : Up trail passed end below k) where
    pub up_more : {j n c : ℕ} {r : Option ℕ} → k ≡ j + 1 → j < length trail → n ≡ get_or trail j 0 → below ≡ Some c → r ≡ const_up T n c → Up trail passed end r j
    unfolding ◌when_some◌
    up_more {j} {n} {c} {r} e h g b q =
        record {
          is = u.is ∙ ap (λ (ns : List ℕ). climb_const T ns below) (ap (λ (k : ℕ). take k trail) (e ∙ add-one j) ∙ take-suc trail j 0 h) ∙ climb-last (take j trail) (get_or trail j 0) below
              ∙ ap (λ (o : Option ℕ). climb_const T (take j trail) (o when_some const_up T (get_or trail j 0))) b
              ∙ ap (λ (n : ℕ). climb_const T (take j trail) (const_up T n c)) (sym g) ∙ ap (climb_const T (take j trail)) (sym q);
          within = omega (arith, u.within);
        }

    pub up_none : below ≡ None → None ≡ climb_const T (take passed trail) end
    up_none b = sym (u.is ∙ ap (climb_const T (take k trail)) b ∙ climb-none (take k trail))

    pub up-end : k ≡ 0 → below ≡ climb_const T (take passed trail) end
    unfolding climb_const
    up-end e = sym (u.is ∙ ap (λ (k : ℕ). climb_const T (take k trail) below) e)

  -- a leaf: a constant, or by its form
  pub leaf-constant : (n : ℕ) → is_constant T n ≡ true → Some n ≡ leaf_const T n
  unfolding leaf_const
  leaf-constant n e = ap (λ (b : Bool). step_of b (λ base. None) n (node_at T n)) (sym e)

  pub leaf-other : (n : ℕ) → is_constant T n ≡ false → (r : Option ℕ) (node : Node) → node ≡ node_at T n → r ≡ folded_node T (λ base. None) n node → r ≡ leaf_const T n
  unfolding leaf_const
  leaf-other n e r node q g = g ∙ ap (folded_node T (λ base. None) n) q ∙ ap (λ (b : Bool). step_of b (λ base. None) n (node_at T n)) (sym e)

  -- What a pattern stands for is a constant.
  module _ (k : Passed T) where
    bound-constant : (x c : ℕ) → const_bound T.bindings x ≡ Some c → is_constant T c ≡ true
    unfolding const_node
    bound-constant x c e = let r = bind-some (lookup T.bindings x) const_node c e in go r.0 (lookup-const T k x r.0 r.1) r.2
      where
        go : (s : Slot) → ConstOk T s → const_node s ≡ Some c → is_constant T c ≡ true
        go (Slot.Row a p) o q = absurd (some≢none c (sym q))
        go (Slot.Key a t) o q = absurd (some≢none c (sym q))
        go (Slot.Derived a) o q = absurd (some≢none c (sym q))
        go (Slot.Field a p t) o q = absurd (some≢none c (sym q))
        go (Slot.Value a t) o q = absurd (some≢none c (sym q))
        go (Slot.Const m) o q = subst (λ (y : ℕ). is_constant T y ≡ true) (some-injective m c q) o.1

    pub pattern-constant : (n : ℕ) (fields : List FieldPattern) (x c : ℕ) → is_constant T n ≡ true → record_fields (node_at T n) ≡ Some fields → field_pattern fields x ≡ Some c → is_constant T c ≡ true
    unfolding field_pattern
    pattern-constant n fields x c h e q =
        let r = bind-some (first (λ f. eqb f.name x) fields) _ c q in
        subst (λ (y : ℕ). is_constant T y ≡ true) (some-injective _ c r.2)
        (each_first _ (record-constant T k n fields (constant-in T n h) (record-node (node_at T n) fields e) h) r.0 r.1)

    constant-node : (below : ℕ → Option ℕ) → ((m c : ℕ) → below m ≡ Some c → is_constant T c ≡ true) → (n : ℕ) (node : Node) (c : ℕ) → folded_node T below n node ≡ Some c → is_constant T c ≡ true
    unfolding folded_node hoisted_const folded_field
    constant-node below B n (Node.Int bytes) c e = absurd (some≢none c (sym e))
    constant-node below B n (Node.Str x) c e = absurd (some≢none c (sym e))
    constant-node below B n (Node.Bytes bytes) c e = absurd (some≢none c (sym e))
    constant-node below B n (Node.Var x) c e = bound-constant x c e
    constant-node below B n Node.Wildcard c e = absurd (some≢none c (sym e))
    constant-node below B n Node.Never c e = absurd (some≢none c (sym e))
    constant-node below B n (Node.Prefix x) c e = absurd (some≢none c (sym e))
    constant-node below B n (Node.Fuzzy x d a) c e = absurd (some≢none c (sym e))
    constant-node below B n (Node.Record fs) c e = absurd (some≢none c (sym e))
    constant-node below B n (Node.Access x base) c e =
        let r = bind-some (below base) _ c e in
        let f = bind-some (record_fields (node_at T r.0)) _ c r.2 in
        pattern-constant r.0 f.0 x c (B base r.0 r.1) f.1 f.2
    constant-node below B n (Node.Value base) c e = absurd (some≢none c (sym e))
    constant-node below B n (Node.Select x base) c e = absurd (some≢none c (sym e))
    constant-node below B n Node.Disjunction c e = absurd (some≢none c (sym e))
    constant-node below B n Node.Subquery c e = absurd (some≢none c (sym e))
    constant-node below B n (Node.Fact p key) c e =
        let r = bind-some (first (λ h. eqb h.node n) T.hoisted) _ c e in
        bound-constant r.0.name c r.2
    constant-node below B n Node.Arith c e = absurd (some≢none c (sym e))
    constant-node below B n Node.Error c e = absurd (some≢none c (sym e))

    constant-below : (limit n c : ℕ) → folded_below T limit n ≡ Some c → is_constant T c ≡ true
    unfolding folded_below
    constant-below zero n c e = absurd (some≢none c (sym e))
    constant-below (suc limit) n c r =
        by-test (λ (o : Option ℕ). o ≡ Some c → is_constant T c ≡ true) (is_constant T n)
        (λ q e. subst (λ (y : ℕ). is_constant T y ≡ true) (some-injective n c e) q)
        (λ q e. constant-node (folded_below T limit) (constant-below limit) n (node_at T n) c e) r

    pub folded-is-constant : (n c : ℕ) → folded T n ≡ Some c → is_constant T c ≡ true
    unfolding folded
    folded-is-constant n c e = constant-below (length T.nodes) n c e
