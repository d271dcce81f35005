-- A logic of readers. Over bytes that have a property B a reader refuses with 3 to 7, or what it gives has the property Q and B still holds of the
-- bytes that are left. With B that holds of everything this says how any file is refused; with `Byte` it says that what is read is bytes.
use mathlib.Core.Bool.{Bool, true, false}
use mathlib.Core.List.{List, [], ◌∷◌}
use Prim.Native.Nat.{ℕ, zero, suc, ◌≤◌}
use native.Mathlib.Omega.{arith}
use lib.Dec.{leb}
use Rattle.rules.specs.Base.{Each, done, more}
use Rattle.rules.specs.Limits
use Rattle.rules.specs.File.{Tables, Node, no_tables}
use Rattle.rules.specs.Utf8.{UTF8-octets}
use Rattle.rules.specs.Read
use Rattle.rules.specs.Read.{Read, got, refused, Reader, follow, ◌>>=◌, pure, refuse, u8, u16, u32, optional, many, several, kind, section, end}
use Rattle.rules.proofs.Each.{Any, each-get_or}

-- the bytes of a node
abbrev pub NodeOf : (ℕ → Type 0) → Node → Type 0
NodeOf B (Node.Int bytes) = Each B bytes
NodeOf B (Node.Str x) = Unit {0}
NodeOf B (Node.Bytes bytes) = Each B bytes
NodeOf B (Node.Var x) = Unit {0}
NodeOf B Node.Wildcard = Unit {0}
NodeOf B Node.Never = Unit {0}
NodeOf B (Node.Prefix x) = Unit {0}
NodeOf B (Node.Fuzzy x distance a) = B distance
NodeOf B (Node.Record fs) = Unit {0}
NodeOf B (Node.Access x n) = Unit {0}
NodeOf B (Node.Value n) = Unit {0}
NodeOf B (Node.Select x n) = Unit {0}
NodeOf B Node.Disjunction = Unit {0}
NodeOf B Node.Subquery = Unit {0}
NodeOf B (Node.Fact p n) = Unit {0}
NodeOf B Node.Arith = Unit {0}
NodeOf B Node.Error = Unit {0}

-- the bytes of the tables: those of names and nodes
pub record TablesOf (B : ℕ → Type 0) (T : Tables) : Type 0 where
  pub names : Each (Each B) T.names
  pub nodes : Each (NodeOf B) T.nodes

module _ (B : ℕ → Type 0) where
  pub data Answer {A : Type 0} (Q : A → Type 0) : Read A → Type 0 where
    gives : {a : A} {rest : List ℕ} → Q a → Each B rest → Answer Q (got a rest)
    refuses : {n : ℕ} → 3 ≤ n → n ≤ 7 → Answer Q (refused n)

  pub record Reads {A : Type 0} (Q : A → Type 0) (r : Reader A) : Type 0 where
    pub answer : (bytes : List ℕ) → Each B bytes → Answer Q (r bytes)

module _ {B : ℕ → Type 0} where
  -- The combinators.
  pub reads-pure : {A : Type 0} {Q : A → Type 0} (a : A) → Q a → Reads B Q (pure a)
  unfolding pure
  reads-pure a q = record { answer = λ bytes h. gives q h }

  pub reads-refuse : {A : Type 0} {Q : A → Type 0} (n : ℕ) → 3 ≤ n → n ≤ 7 → Reads B Q (refuse n)
  unfolding refuse
  reads-refuse n h g = record { answer = λ bytes _. refuses h g }

  answer-follow : {A C : Type 0} {Q : A → Type 0} {R : C → Type 0} {x : Read A} {f : A → Reader C} → Answer B Q x → ((a : A) → Q a → Reads B R (f a)) → Answer B R (follow x f)
  unfolding follow
  answer-follow (gives q h) k = (k _ q).answer _ h
  answer-follow (refuses h g) k = refuses h g

  pub reads-bind : {A C : Type 0} {Q : A → Type 0} {R : C → Type 0} {r : Reader A} {f : A → Reader C} → Reads B Q r → ((a : A) → Q a → Reads B R (f a)) → Reads B R (r >>= f)
  unfolding ◌>>=◌
  reads-bind h k = record { answer = λ bytes b. answer-follow (h.answer bytes b) k }

  pub reads-u8 : Reads B B u8
  unfolding u8
  reads-u8 = record { answer = go }
    where
      go : (bytes : List ℕ) → Each B bytes → Answer B B (u8 bytes)
      go [] h = refuses {n = 3} (omega arith) (omega arith)
      go (b ∷ bytes) (more p ps) = gives p ps

  pub reads-u16 : Reads B Any u16
  unfolding u16
  reads-u16 = reads-bind reads-u8 λ lo _. reads-bind reads-u8 λ hi _. reads-pure _ tt

  pub reads-u32 : Reads B Any u32
  unfolding u32
  reads-u32 = reads-bind reads-u16 λ lo _. reads-bind reads-u16 λ hi _. reads-pure _ tt

  pub reads-optional : Reads B Any optional
  unfolding optional
  reads-optional = reads-bind reads-u16 λ n _. reads-pure _ tt

  pub reads-many : {A : Type 0} {Q : A → Type 0} (n : ℕ) {r : Reader A} → Reads B Q r → Reads B (Each Q) (many n r)
  unfolding many
  reads-many zero h = reads-pure _ done
  reads-many (suc n) h = reads-bind h λ x q. reads-bind (reads-many n h) λ xs qs. reads-pure _ (more q qs)

  pub reads-several : {A : Type 0} {Q : A → Type 0} {r : Reader A} → Reads B Q r → Reads B (Each Q) (several r)
  unfolding several
  reads-several h = reads-bind reads-u8 λ n _. reads-many n h

  pub reads-kind : {A : Type 0} {Q : A → Type 0} {rs : List (Reader A)} → Each (Reads B Q) rs → Reads B Q (kind rs)
  unfolding kind
  reads-kind h = reads-bind reads-u8 λ k _. each-get_or k h (reads-refuse 5 (omega arith) (omega arith))

  pub reads_section : {A : Type 0} {Q : A → Type 0} (limit : ℕ) {r : Reader A} → Reads B Q r → Reads B (Each Q) (section limit r)
  unfolding section
  reads_section {A} {Q} limit {r} h = reads-bind reads-u16 λ n _. go n (leb n limit)
    where
      go : (n : ℕ) (b : Bool) → Reads B (Each Q) (elim b [ true ↦ many n r | false ↦ refuse 4 ])
      go n true = reads-many n h
      go n false = reads-refuse 4 (omega arith) (omega arith)

  pub reads_end : {A : Type 0} {Q : A → Type 0} (a : A) → Q a → Reads B Q (end a)
  unfolding end
  reads_end {A} {Q} a q = record { answer = go }
    where
      go : (bytes : List ℕ) → Each B bytes → Answer B Q (end a bytes)
      go [] h = gives q done
      go (b ∷ bytes) h = refuses {n = 7} (omega arith) (omega arith)

  -- The readers of document 01.
  pub reads-name : Reads B (Each B) Read.name
  unfolding Read.name Read.well_formed
  reads-name = reads-bind (reads-several reads-u8) λ bytes h. go bytes h (UTF8-octets bytes)
    where
      go : (bytes : List ℕ) → Each B bytes → (t : Bool) → Reads B (Each B) (elim t [ true ↦ pure bytes | false ↦ refuse 6 ])
      go bytes h true = reads-pure _ h
      go bytes h false = reads-refuse 6 (omega arith) (omega arith)

  reads-field_ty : Reads B Any Read.field_ty
  unfolding Read.field_ty
  reads-field_ty = reads-bind reads-u16 λ n _. reads-bind reads-u16 λ t _. reads-pure _ tt

  reads-alternative : Reads B Any Read.alternative
  unfolding Read.alternative
  reads-alternative = reads-bind reads-u16 λ n _. reads-bind reads-u32 λ d _. reads-bind reads-u16 λ t _. reads-pure _ tt

  reads_type : Reads B Any Read.type
  unfolding Read.type Read.fact_ty Read.record_ty Read.union_ty
  reads_type =
      reads-kind
      (more (reads-pure _ tt)
      (more (reads-pure _ tt)
      (more (reads-pure _ tt)
      (more (reads-bind reads-u16 λ p _. reads-pure _ tt)
      (more (reads-bind (reads-several reads-field_ty) λ fs _. reads-pure _ tt)
      (more (reads-bind (reads-several reads-alternative) λ alts _. reads-pure _ tt) done))))))

  pub reads-predicate : Reads B Any Read.predicate
  unfolding Read.predicate
  reads-predicate = reads-bind reads-u16 λ k _. reads-bind reads-optional λ v _. reads-pure _ tt

  pub reads-anchor : Reads B Any Read.anchor
  unfolding Read.anchor
  reads-anchor = reads-kind (more (reads-pure _ tt) (more (reads-pure _ tt) done))

  pub reads-field_pattern : Reads B Any Read.field_pattern
  unfolding Read.field_pattern
  reads-field_pattern = reads-bind reads-u16 λ x _. reads-bind reads-u16 λ n _. reads-pure _ tt

  -- a node of one number or two has no bytes
  reads-one : (make : ℕ → Node) → ((a : ℕ) → NodeOf B (make a)) → Reads B (NodeOf B) (Read.one make)
  unfolding Read.one
  reads-one make h = reads-bind reads-u16 λ a _. reads-pure _ (h a)

  reads_two : (make : ℕ → ℕ → Node) → ((a b : ℕ) → NodeOf B (make a b)) → Reads B (NodeOf B) (Read.two make)
  unfolding Read.two
  reads_two make h = reads-bind reads-u16 λ a _. reads-bind reads-u16 λ b _. reads-pure _ (h a b)

  reads_int : Reads B (NodeOf B) Read.int_node
  unfolding Read.int_node
  reads_int = reads-bind (reads-many 8 reads-u8) λ bytes h. reads-pure _ h

  reads_bytes : Reads B (NodeOf B) Read.bytes_node
  unfolding Read.bytes_node
  reads_bytes = reads-bind (reads-several reads-u8) λ bytes h. reads-pure _ h

  reads-fuzzy : Reads B (NodeOf B) Read.fuzzy_node
  unfolding Read.fuzzy_node
  reads-fuzzy = reads-bind reads-u16 λ x _. reads-bind reads-u8 λ distance h. reads-bind reads-anchor λ a _. reads-pure _ h

  reads-record : Reads B (NodeOf B) Read.record_node
  unfolding Read.record_node
  reads-record = reads-bind (reads-several reads-field_pattern) λ fs _. reads-pure _ tt

  reads-node : Reads B (NodeOf B) Read.node
  unfolding Read.node
  reads-node =
      reads-kind
      (more reads_int
      (more (reads-one _ λ a. tt)
      (more reads_bytes
      (more (reads-one _ λ a. tt)
      (more (reads-pure _ tt)
      (more (reads-pure _ tt)
      (more (reads-one _ λ a. tt)
      (more reads-fuzzy
      (more reads-record
      (more (reads_two _ λ a b. tt)
      (more (reads-one _ λ a. tt)
      (more (reads_two _ λ a b. tt)
      (more (reads-pure _ tt)
      (more (reads-pure _ tt)
      (more (reads_two _ λ a b. tt)
      (more (reads-pure _ tt)
      (more (reads-pure _ tt) done)))))))))))))))))

  reads-path : Reads B Any Read.path
  unfolding Read.path
  reads-path = reads-bind reads-u16 λ f _. reads-bind (reads-several reads-u32) λ ss _. reads-pure _ tt

  reads-slot : Reads B Any Read.slot
  unfolding Read.slot Read.row_slot Read.key_slot Read.derived_slot Read.field_slot Read.value_slot Read.const_slot
  reads-slot =
      reads-kind
      (more (reads-bind reads-u16 λ a _. reads-bind reads-optional λ p _. reads-pure _ tt)
      (more (reads-bind reads-u16 λ a _. reads-bind reads-u16 λ t _. reads-pure _ tt)
      (more (reads-bind reads-u16 λ a _. reads-pure _ tt)
      (more (reads-bind reads-u16 λ a _. reads-bind reads-path λ p _. reads-bind reads-u16 λ t _. reads-pure _ tt)
      (more (reads-bind reads-u16 λ a _. reads-bind reads-u16 λ t _. reads-pure _ tt)
      (more (reads-bind reads-u16 λ n _. reads-pure _ tt) done))))))

  pub reads-binding : Reads B Any Read.binding
  unfolding Read.binding
  reads-binding = reads-bind reads-u16 λ x _. reads-bind reads-slot λ s _. reads-pure _ tt

  pub reads-hoisted : Reads B Any Read.hoisted
  unfolding Read.hoisted
  reads-hoisted = reads-bind reads-u16 λ n _. reads-bind reads-u16 λ x _. reads-pure _ tt

  pub reads_fetched : Reads B Any Read.fetched
  unfolding Read.fetched
  reads_fetched = reads-bind reads-u16 λ a _. reads-bind reads-path λ p _. reads-bind reads-u16 λ r _. reads-pure _ tt

  pub reads-constraint : Reads B Any Read.constraint
  unfolding Read.constraint
  reads-constraint = reads-bind reads-u16 λ x _. reads-bind reads-u16 λ n _. reads-pure _ tt

  reads-op : Reads B Any Read.op
  unfolding Read.op
  reads-op = reads-kind (more (reads-pure _ tt) (more (reads-pure _ tt) (more (reads-pure _ tt) (more (reads-pure _ tt) done))))

  pub reads-comparison : Reads B Any Read.comparison
  unfolding Read.comparison
  reads-comparison = reads-bind reads-op λ o _. reads-bind reads-u16 λ l _. reads-bind reads-u16 λ r _. reads-pure _ tt

  reads-level : Reads B Any Read.level
  unfolding Read.level
  reads-level = reads-bind reads-u16 λ p _. reads-bind reads-u16 λ n _. reads-bind reads-u16 λ a _. reads-pure _ tt

  -- a file is its ten sections, or it has no bytes
  pub reads_whole : {Q : Tables → Type 0} → Q no_tables → Reads B Q Read.ten_sections → Reads B Q Read.file
  unfolding Read.file
  reads_whole {Q} none h = record { answer = go }
    where
      go : (bytes : List ℕ) → Each B bytes → Answer B Q (Read.file bytes)
      go [] b = gives none done
      go (x ∷ bytes) b = h.answer (x ∷ bytes) b

  reads-ten : Reads B (TablesOf B) Read.ten_sections
  unfolding Read.ten_sections
  reads-ten =
      reads-bind (reads_section Limits.name_limit reads-name) λ ns names.
      reads-bind (reads_section Limits.type_limit reads_type) λ ts _.
      reads-bind (reads_section Limits.predicate_limit reads-predicate) λ ps _.
      reads-bind (reads_section Limits.node_limit reads-node) λ ms nodes.
      reads-bind (reads_section Limits.binding_limit reads-binding) λ bs _.
      reads-bind (reads_section Limits.hoisted_limit reads-hoisted) λ hs _.
      reads-bind (reads_section Limits.fetched_limit reads_fetched) λ fs _.
      reads-bind (reads_section Limits.constraint_limit reads-constraint) λ ks _.
      reads-bind (reads_section Limits.comparison_limit reads-comparison) λ cs _.
      reads-bind (reads_section Limits.level_limit reads-level) λ ls _.
      reads_end _ (record { names = names; nodes = nodes })

  pub reads-file : Reads B (TablesOf B) Read.file
  reads-file = reads_whole (record { names = done; nodes = done }) reads-ten
