-- Whether a pattern has bytes at a type: the fields of a record, the payload of a union, each form of node, and what the index remembers.
use Prim.Native.Nat.{ℕ, ◌+◌, ◌*◌, ◌≤◌, ◌<◌}
use mathlib.Core.Path.{◌≡◌, refl, sym, ap, ◌∙◌, subst}
use mathlib.Core.Bool.{Bool, true, false}
use mathlib.Core.List.{List, [], ◌∷◌, ◌++◌}
use Rattle.std.specs.Prelude.{Option, None, Some, unwrap_or}
use native.Mathlib.Omega.{arith}
use lib.Dec.{eqb}
use borrow.Author.Tests.{eqb-true, eqb-false}
use lib.ListN.{length}
use types.Run.{OneOf, miss}
use denote.Enum.Declared.{tag_of}
use Rattle.rules.specs.Base.{both, either, ◌when_some◌}
use Rattle.rules.specs.Limits.{node_limit, type_limit}
use Rattle.rules.specs.File as File
use Rattle.rules.specs.File.{Tables, Ty, Node, type_at, node_at, var_name}
use Rattle.rules.specs.Constant as ConstantRules
use Rattle.rules.specs.Constant.{bytes_only, only_field, at_int, at_str, at_bytes, encode_record, encode_union, constant_fields, constant_record, constant_node, const_of, stands_for}
use Rattle.rules.specs.Literals.{lacks_bytes}
use Rattle.rules.proofs.Cases.{ways, true≢false}
use Rattle.rules.proofs.Constants.{constant-is}
use Rattle.file.specs.Tables.{tables_of}
use Rattle.views.specs.Views.{run, field_at, alternative_at, pattern_at, field_of, node_of, SeenNode, SeenType}
use Rattle.views.specs.declared.FieldTy.{FieldTy}
use Rattle.views.specs.declared.TypeView.{TypeView}
use Rattle.views.specs.declared.TypeView.TheVariants as Tv
use Rattle.views.specs.declared.NodeView.{NodeView}
use Rattle.views.specs.declared.NodeView.TheVariants as Nv
use Rattle.views.specs.contracts.TypeView as TypeViews
use Rattle.views.specs.contracts.NodeView as NodeViews
use Rattle.accepted_file.specs.AcceptedFile.{AcceptedFile, constant_rank}
use Rattle.accepted_file.specs.Fates.{fate_bytes, recalled}
use Rattle.accepted_file.proofs.Fates.{recalled-bytes, recalled-other}
use Rattle.accepted_file.proofs.Given.{passed, sound-tables, few-nodes, few-types}
use Rattle.accepted_file.proofs.Ranges.{stands, patterns}
use Rattle.constant.specs.Has.{given, has_bytes, is_bytes, RecordAt}
use Rattle.constant.specs.Sizes.{int_only, str_only, bytes_alone, view_of, field_bytes, payload_bytes}
use Rattle.constant.specs.declared.Const.{Const}
use Rattle.constant.specs.declared.Const.TheVariants as Co
use Rattle.constant.proofs.Measured.{fields_from, fields-start, fields-more, fields-end, neither}
use Rattle.constant.proofs.Arms.{ConstantSeen, pairs-ok}
use Rattle.constant.proofs.Known.{record-bytes}

only-has : (o : Option ConstantRules.Const) → has_bytes o ≡ given (o when_some bytes_only)
unfolding has_bytes given ◌when_some◌ bytes_only
only-has None = refl
only-has (Some (ConstantRules.Const.Bytes bytes)) = refl
only-has (Some (ConstantRules.Const.Prefix bytes)) = refl
only-has (Some (ConstantRules.Const.Fuzzy x d a)) = refl

-- a field or a payload has bytes where its pattern has them, and none where it has no pattern
pub has_some : (o : Option ConstantRules.Const) (x : Option (List ℕ)) (r : Bool) → (o when_some bytes_only) ≡ x → r ≡ has_bytes o → r ≡ given x
has_some o x r e q = q ∙ only-has o ∙ ap given e

pub has-none : (x : Option (List ℕ)) → None ≡ x → false ≡ given x
unfolding given
has-none x e = ap given e

-- The fields of a type, of which i have bytes.
module _ (b : ℕ → ℕ → Option ConstantRules.Const) (patterns : List File.FieldPattern) (f : List ℕ) (k from : ℕ) where
  pub record Having (i : ℕ) : Type 0 where
    pub within : i ≤ k
    pub same : given (constant_fields b patterns (run (field_at f) 4 k from)) ≡ given (fields_from b patterns f k from i)

  pub have-start : Having 0
  have-start = record { within = omega arith; same = ap given (fields-start b patterns f k from) }

  with-more : (o rest : Option (List ℕ)) → given (o when_some λ bytes. rest when_some λ more. Some (bytes ++ more)) ≡ both (given o) (given rest)
  unfolding given ◌when_some◌
  with-more None rest = refl
  with-more (Some bytes) None = refl
  with-more (Some bytes) (Some more) = refl

  module _ (i : ℕ) (a : Having i) (v : FieldTy) (h : i < k) (e : field_of v ≡ field_at f (from + 4 * i)) (s : Bool) (q : s ≡ given (field_bytes b patterns v.name v.ty)) where
    next : given (constant_fields b patterns (run (field_at f) 4 k from)) ≡ both s (given (fields_from b patterns f k from (i + 1)))
    next =
        a.same ∙ ap given (fields-more b patterns f k from i v h e) ∙ with-more (field_bytes b patterns v.name v.ty) (fields_from b patterns f k from (i + 1))
        ∙ ap (λ (x : Bool). both x (given (fields_from b patterns f k from (i + 1)))) (sym q)

    pub have-none : s ≡ false → false ≡ given (constant_fields b patterns (run (field_at f) 4 k from))
    have-none d = sym (next ∙ ap (λ (x : Bool). both x (given (fields_from b patterns f k from (i + 1)))) d)

    pub have-more : s ≡ true → Having (i + 1)
    have-more d = record { within = omega arith; same = next ∙ ap (λ (x : Bool). both x (given (fields_from b patterns f k from (i + 1)))) d }

  pub have-end : (i : ℕ) → Having i → k ≤ i → true ≡ given (constant_fields b patterns (run (field_at f) 4 k from))
  unfolding given
  have-end i a h = sym (a.same ∙ ap given (fields-end b patterns f k from i h))

-- A record or a union around its bytes.
module _ (b : ℕ → ℕ → Option ConstantRules.Const) (patterns : List File.FieldPattern) where
  around : (enc : List ℕ → List ℕ) (o : Option (List ℕ)) → given o ≡ has_bytes (o when_some λ bytes. Some (ConstantRules.Const.Bytes (enc bytes)))
  unfolding given has_bytes ◌when_some◌
  around enc None = refl
  around enc (Some bytes) = refl

  record-has : (fs : List File.FieldTy) → given (constant_fields b patterns fs) ≡ has_bytes (constant_record b patterns (Ty.Record fs))
  unfolding constant_record
  record-has fs = around encode_record (constant_fields b patterns fs)

  union-has : (alts : List File.Alternative) → given (payload_bytes b patterns alts) ≡ has_bytes (constant_record b patterns (Ty.Union alts))
  unfolding constant_record payload_bytes ◌when_some◌ given has_bytes
  union-has alts = go (only_field patterns)
    where
      last : (d : ℕ) (o : Option ConstantRules.Const) → given (o when_some bytes_only) ≡ has_bytes (o when_some λ c. bytes_only c when_some λ bytes. Some (ConstantRules.Const.Bytes (encode_union d bytes)))
      last d None = refl
      last d (Some c) = around (encode_union d) (bytes_only c)

      among : (g : File.FieldPattern) (o : Option File.Alternative) → given (o when_some λ a. b g.node a.type when_some bytes_only) ≡ has_bytes (o when_some λ a. b g.node a.type when_some λ c. bytes_only c when_some λ bytes. Some (ConstantRules.Const.Bytes (encode_union a.disc bytes)))
      among g None = refl
      among g (Some a) = last a.disc (b g.node a.type)

      go : (o : Option File.FieldPattern) → given (o when_some λ g. ConstantRules.alternative_of alts g.name when_some λ a. b g.node a.type when_some bytes_only) ≡ has_bytes (o when_some λ g. ConstantRules.alternative_of alts g.name when_some λ a. b g.node a.type when_some λ c. bytes_only c when_some λ bytes. Some (ConstantRules.Const.Bytes (encode_union a.disc bytes)))
      go None = refl
      go (Some g) = among g (ConstantRules.alternative_of alts g.name)

  module _ (f : List ℕ) (ty : Ty) (v : TypeView) (s : SeenType f ty v) where
    pub at-record : (k from : ℕ) (r : Bool) → v ≡ Tv.Record k from → r ≡ given (constant_fields b patterns (run (field_at f) 4 k from)) → r ≡ has_bytes (constant_record b patterns ty)
    at-record k from r e q = q ∙ record-has (run (field_at f) 4 k from) ∙ ap (λ (y : Ty). has_bytes (constant_record b patterns y)) (subst (SeenType f ty) e s).is

    pub at-union : (k from : ℕ) (r : Bool) → v ≡ Tv.Union k from → r ≡ given (payload_bytes b patterns (run (alternative_at f) 8 k from)) → r ≡ has_bytes (constant_record b patterns ty)
    at-union k from r e q = q ∙ union-has (run (alternative_at f) 8 k from) ∙ ap (λ (y : Ty). has_bytes (constant_record b patterns y)) (subst (SeenType f ty) e s).is

    pub at-neither : OneOf (0 ∷ 1 ∷ 2 ∷ 3 ∷ []) (tag_of TypeViews.the_type v) → false ≡ has_bytes (constant_record b patterns ty)
    unfolding has_bytes
    at-neither w = sym (ap has_bytes (sym (ap (constant_record b patterns) s.is) ∙ neither b patterns f v w))

  -- a Record's constant is bytes, if it is any
  record-some : (ty : Ty) (o : Option ConstantRules.Const) → constant_record b patterns ty ≡ o → lacks_bytes o ≡ false → has_bytes o ≡ true
  unfolding lacks_bytes has_bytes
  record-some ty None e q = absurd (true≢false q)
  record-some ty (Some c) e q = let k = record-bytes b patterns ty c e in ap (λ (c : ConstantRules.Const). has_bytes (Some c)) (sym k.1)

  pub record-none : (ty : Ty) → has_bytes (constant_record b patterns ty) ≡ false → constant_record b patterns ty ≡ None
  unfolding lacks_bytes
  record-none ty q = go (constant_record b patterns ty) refl q
    where
      go : (o : Option ConstantRules.Const) → constant_record b patterns ty ≡ o → has_bytes o ≡ false → o ≡ None
      go None e q = refl
      go (Some c) e q = absurd (true≢false (sym (record-some ty (Some c) e refl) ∙ q))

  record-lacks : (ty : Ty) → lacks_bytes (constant_record b patterns ty) ≡ false → true ≡ has_bytes (constant_record b patterns ty)
  record-lacks ty q = sym (record-some ty (constant_record b patterns ty) refl q)

-- A Record by its own number.
module _ (f ix : List ℕ) (r : AcceptedFile f ix) (n t i p : ℕ) (h : RecordAt f (tables_of f) n i p) (g : t < length (tables_of f).types) where
  its-constant : ConstantRules.constant (tables_of f) n t ≡ constant_record (ConstantRules.constant (tables_of f)) (run (pattern_at f) 4 i p) (type_at (tables_of f) t)
  unfolding constant_node stands_for const_of var_name ◌when_some◌
  its-constant =
      let s : stands_for (tables_of f) n ≡ n = ap (λ (y : Node). unwrap_or (const_of (tables_of f).bindings y) n) h.is in
      constant-is (tables_of f) (sound-tables f ix r) n t g
      ∙ ap (λ (m : ℕ). constant_node (tables_of f) (ConstantRules.constant (tables_of f)) (node_at (tables_of f) m) (type_at (tables_of f) t)) s
      ∙ ap (λ (y : Node). constant_node (tables_of f) (ConstantRules.constant (tables_of f)) y (type_at (tables_of f) t)) h.is

  -- as the index remembers it
  pub has-recalled : (x : Option ℕ) (d : ℕ) → x ≡ recalled ix n t → x ≡ Some d → eqb d fate_bytes ≡ has_bytes (constant_record (ConstantRules.constant (tables_of f)) (run (pattern_at f) 4 i p) (type_at (tables_of f) t))
  unfolding has_bytes
  has-recalled x d e q =
      let k : recalled ix n t ≡ Some d = sym e ∙ q in
      ways (eqb d fate_bytes) _
      (λ w. w ∙ record-lacks _ _ _ (ap lacks_bytes (sym its-constant) ∙ recalled-bytes f ix r n t d h.in-nodes g k (eqb-true d fate_bytes w)))
      (λ w. w ∙ sym (ap has_bytes (sym its-constant ∙ recalled-other f ix r n t d h.in-nodes g k (eqb-false d fate_bytes w))))

  pub few : (n ≤ node_limit) × (t ≤ type_limit)
  few =
      let a : n < length (tables_of f).nodes = h.in-nodes in
      (omega (arith, few-nodes f ix r.indexed), omega (arith, few-types f ix r.indexed))

-- the Record that node n stands for, by its own number, and no higher than n
pub record-at : (f ix : List ℕ) → AcceptedFile f ix → (n m : ℕ) (v : NodeView) → n < length (tables_of f).nodes → m ≡ stands_for (tables_of f) n → SeenNode f (node_at (tables_of f) m) v → (i p : ℕ) → v ≡ Nv.Record i p → RecordAt f (tables_of f) m i p × (constant_rank (tables_of f) m ≤ constant_rank (tables_of f) n)
unfolding stands_for const_of var_name ◌when_some◌
record-at f ix r n m v h e s i p q =
    let o = stands (tables_of f) (passed f ix r) (few-nodes f ix r.indexed) n h in
    let l : m < length (tables_of f).nodes = subst (λ (j : ℕ). j < length (tables_of f).nodes) (sym e) o.in-nodes in
    let k : node_at (tables_of f) m ≡ Node.Record (run (pattern_at f) 4 i p) = sym (subst (SeenNode f (node_at (tables_of f) m)) q s).is in
    let itself : m ≡ stands_for (tables_of f) m = sym (ap (λ (y : Node). unwrap_or (const_of (tables_of f).bindings y) m) k) in (
      record { in-nodes = l; is = k; pairs = pairs-ok f ix r m m v l itself s i p q },
      subst (λ (j : ℕ). constant_rank (tables_of f) j ≤ constant_rank (tables_of f) n) (sym e) o.no-higher,
    )

-- a literal at the one type that it fits
module _ (n t l : ℕ) (bytes : List ℕ) where
  int-has : (ty : Ty) → is_bytes (int_only ty (Co.Bytes n t l)) ≡ has_bytes (at_int ty (ConstantRules.Const.Bytes bytes))
  unfolding at_int has_bytes
  int-has Ty.Int = refl
  int-has Ty.Str = refl
  int-has Ty.Bytes = refl
  int-has (Ty.Fact p) = refl
  int-has (Ty.Record fs) = refl
  int-has (Ty.Union alts) = refl

  str-has : (ty : Ty) → is_bytes (str_only ty (Co.Bytes n t l)) ≡ has_bytes (at_str ty (ConstantRules.Const.Bytes bytes))
  unfolding at_str has_bytes
  str-has Ty.Int = refl
  str-has Ty.Str = refl
  str-has Ty.Bytes = refl
  str-has (Ty.Fact p) = refl
  str-has (Ty.Record fs) = refl
  str-has (Ty.Union alts) = refl

  bytes-has : (ty : Ty) → is_bytes (bytes_alone ty (Co.Bytes n t l)) ≡ has_bytes (at_bytes ty (ConstantRules.Const.Bytes bytes))
  unfolding at_bytes has_bytes
  bytes-has Ty.Int = refl
  bytes-has Ty.Str = refl
  bytes-has Ty.Bytes = refl
  bytes-has (Ty.Fact p) = refl
  bytes-has (Ty.Record fs) = refl
  bytes-has (Ty.Union alts) = refl

-- a Prefix or a Fuzzy at any type
str-lacks : (k : ConstantRules.Const) → has_bytes (Some k) ≡ false → (ty : Ty) → has_bytes (at_str ty k) ≡ false
unfolding at_str has_bytes
str-lacks k e Ty.Int = refl
str-lacks k e Ty.Str = e
str-lacks k e Ty.Bytes = refl
str-lacks k e (Ty.Fact p) = refl
str-lacks k e (Ty.Record fs) = refl
str-lacks k e (Ty.Union alts) = refl

-- a node that has no bytes at any type
no_bytes : (T : Tables) (b : ℕ → ℕ → Option ConstantRules.Const) (f : List ℕ) (v : NodeView) (ty : Ty) → OneOf (3 ∷ 4 ∷ 5 ∷ 6 ∷ 7 ∷ 9 ∷ 10 ∷ 11 ∷ 12 ∷ 13 ∷ 14 ∷ 15 ∷ 16 ∷ []) (tag_of NodeViews.the_type v) → has_bytes (constant_node T b (node_of f v) ty) ≡ false
unfolding constant_node has_bytes
no_bytes T b f (Nv.Int at) ty w = absurd (miss (3 ∷ 4 ∷ 5 ∷ 6 ∷ 7 ∷ 9 ∷ 10 ∷ 11 ∷ 12 ∷ 13 ∷ 14 ∷ 15 ∷ 16 ∷ []) 0 tt w)
no_bytes T b f (Nv.Str x) ty w = absurd (miss (3 ∷ 4 ∷ 5 ∷ 6 ∷ 7 ∷ 9 ∷ 10 ∷ 11 ∷ 12 ∷ 13 ∷ 14 ∷ 15 ∷ 16 ∷ []) 1 tt w)
no_bytes T b f (Nv.Bytes n at) ty w = absurd (miss (3 ∷ 4 ∷ 5 ∷ 6 ∷ 7 ∷ 9 ∷ 10 ∷ 11 ∷ 12 ∷ 13 ∷ 14 ∷ 15 ∷ 16 ∷ []) 2 tt w)
no_bytes T b f (Nv.Var x) ty w = refl
no_bytes T b f Nv.Wildcard ty w = refl
no_bytes T b f Nv.Never ty w = refl
no_bytes T b f (Nv.Prefix x) ty w = str-lacks _ refl ty
no_bytes T b f (Nv.Fuzzy x d a) ty w = str-lacks _ refl ty
no_bytes T b f (Nv.Record n at) ty w = absurd (miss (3 ∷ 4 ∷ 5 ∷ 6 ∷ 7 ∷ 9 ∷ 10 ∷ 11 ∷ 12 ∷ 13 ∷ 14 ∷ 15 ∷ 16 ∷ []) 8 tt w)
no_bytes T b f (Nv.Access x n) ty w = refl
no_bytes T b f (Nv.Value n) ty w = refl
no_bytes T b f (Nv.Select x n) ty w = refl
no_bytes T b f Nv.Disjunction ty w = refl
no_bytes T b f Nv.Subquery ty w = refl
no_bytes T b f (Nv.Fact p n) ty w = refl
no_bytes T b f Nv.Arith ty w = refl
no_bytes T b f Nv.Error ty w = refl

-- What `has_bytes` gives for each form of node.
module _ (f : List ℕ) (T : Tables) (n t : ℕ) (v : NodeView) (k : ConstantSeen f T n t v) where
  seen_as : (w : NodeView) → v ≡ w → has_bytes (constant_node T (ConstantRules.constant T) (node_of f w) (type_at T t)) ≡ has_bytes (ConstantRules.constant T n t)
  seen_as w e = sym (ap has_bytes (k.is ∙ ap (λ (y : Node). constant_node T (ConstantRules.constant T) y (type_at T t)) (sym k.node ∙ ap (node_of f) e)))

  pub has-int : (p l : ℕ) (c : Option Const) (r : Bool) → v ≡ Nv.Int p → c ≡ int_only (type_at T t) (Co.Bytes n t l) → r ≡ is_bytes c → r ≡ has_bytes (ConstantRules.constant T n t)
  unfolding constant_node
  has-int p l c r e q g = g ∙ ap is_bytes q ∙ int-has n t l _ (type_at T t) ∙ seen_as (Nv.Int p) e

  pub has-str : (x l : ℕ) (c : Option Const) (r : Bool) → v ≡ Nv.Str x → c ≡ str_only (type_at T t) (Co.Bytes n t l) → r ≡ is_bytes c → r ≡ has_bytes (ConstantRules.constant T n t)
  unfolding constant_node
  has-str x l c r e q g = g ∙ ap is_bytes q ∙ str-has n t l _ (type_at T t) ∙ seen_as (Nv.Str x) e

  pub has-raw : (i p l : ℕ) (c : Option Const) (r : Bool) → v ≡ Nv.Bytes i p → c ≡ bytes_alone (type_at T t) (Co.Bytes n t l) → r ≡ is_bytes c → r ≡ has_bytes (ConstantRules.constant T n t)
  unfolding constant_node
  has-raw i p l c r e q g = g ∙ ap is_bytes q ∙ bytes-has n t l _ (type_at T t) ∙ seen_as (Nv.Bytes i p) e

  pub has-pairs : (i p : ℕ) (r : Bool) → v ≡ Nv.Record i p → r ≡ has_bytes (constant_record (ConstantRules.constant T) (run (pattern_at f) 4 i p) (type_at T t)) → r ≡ has_bytes (ConstantRules.constant T n t)
  unfolding constant_node
  has-pairs i p r e q = q ∙ seen_as (Nv.Record i p) e

  pub has_other : OneOf (3 ∷ 4 ∷ 5 ∷ 6 ∷ 7 ∷ 9 ∷ 10 ∷ 11 ∷ 12 ∷ 13 ∷ 14 ∷ 15 ∷ 16 ∷ []) (tag_of NodeViews.the_type v) → false ≡ has_bytes (ConstantRules.constant T n t)
  has_other w = sym (no_bytes T (ConstantRules.constant T) f v (type_at T t) w) ∙ seen_as v refl

-- a Record that is not sure to have bytes, and was asked
pub asked : (sure r x : Bool) → sure ≡ false → r ≡ x → r ≡ either sure x
asked true r x e q = absurd (true≢false e)
asked false r x e q = q

either-false : (a b : Bool) → either a b ≡ false → b ≡ false
either-false true b e = absurd (true≢false e)
either-false false b e = e

pub lacks-pairs : (T : Tables) (n t : ℕ) (b : ℕ → ℕ → Option ConstantRules.Const) (patterns : List File.FieldPattern) (ty : Ty) (sure r : Bool) → r ≡ either sure (has_bytes (constant_record b patterns ty)) → r ≡ false → None ≡ view_of T n t (constant_record b patterns ty)
lacks-pairs T n t b patterns ty sure r e q = sym (ap (view_of T n t) (record-none b patterns ty (either-false sure _ (sym e ∙ q))))
