-- The numbers of a file that was read are within their fields: those that a plan can come to hold.
use mathlib.Core.List.{List}
use mathlib.Core.Path.{◌≡◌}
use Prim.Native.Nat.{ℕ, ◌≤◌, ◌<◌}
use native.Mathlib.Omega.{arith}
use borrow.Author.Tests.{eqb-false}
use lib.Dec.{eqb}
use lib.ListN.{length}
use Rattle.rules.specs.Base.{Each, done, more}
use Rattle.rules.specs.Limits
use Rattle.rules.specs.File.{Tables, FieldTy, Alternative, Ty, Node, FieldPath, Slot, Binding, LevelEntry, field_path, then, payload}
use Rattle.rules.specs.Read
use Rattle.rules.specs.Read.{Read, got, Reader, several}
use Rattle.rules.specs.Demand1.{Byte}
use Rattle.rules.proofs.Cases.{by-test}
use Rattle.rules.proofs.Each.{each_snoc}
use Rattle.rules.proofs.RoundTrip.{OptionNumber}
use Rattle.rules.proofs.Readers.{Answer, gives, refuses, Reads, reads-pure, reads-bind, reads-u8, reads-u16, reads-many, reads-several, reads-kind, reads_section, reads_end, reads-name, reads-anchor, reads-hoisted, reads-comparison, reads_whole}
use Rattle.rules.proofs.Numbers.{Many, many-bound, section-bound, u16-bound, u32-bound, of-answer}

-- a path's field and steps
pub record PathWithin (p : FieldPath) : Type 0 where
  pub field : p.field < 65536
  pub steps : Each (λ n. n < 4294967296) p.steps

pub first-within : (i : ℕ) → i < 65536 → PathWithin (field_path i)
unfolding field_path
first-within i h = record { field = h; steps = done }

pub then-within : (p : FieldPath) (i : ℕ) → PathWithin p → i < 4294967296 → PathWithin (then p i)
unfolding then
then-within p i h l = record { field = h.field; steps = each_snoc h.steps l }

pub payload-within : (p : FieldPath) (d : ℕ) → PathWithin p → d < 4294967296 → PathWithin (payload p d)
unfolding payload
payload-within p d h l = then-within p d h l

abbrev pub SlotWithin : Slot → Type 0
SlotWithin (Slot.Row a p) = (a < 65536) × OptionNumber p
SlotWithin (Slot.Key a t) = (a < 65536) × (t < 65536)
SlotWithin (Slot.Derived a) = a < 65536
SlotWithin (Slot.Field a p t) = (a < 65536) × PathWithin p × (t < 65536)
SlotWithin (Slot.Value a t) = (a < 65536) × (t < 65536)
SlotWithin (Slot.Const n) = n < 65536

pub record BindingWithin (b : Binding) : Type 0 where
  pub name : b.name < 65536
  pub slot : SlotWithin b.slot

-- fewer fields than a byte counts
pub record FieldsWithin (fs : List FieldTy) : Type 0 where
  pub types : Each (λ f. f.type < 65536) fs
  pub few : length fs < 256

pub record AlternativeWithin (a : Alternative) : Type 0 where
  pub disc : a.disc < 4294967296
  pub type : a.type < 65536

abbrev pub TypeWithin : Ty → Type 0
TypeWithin Ty.Int = Unit {0}
TypeWithin Ty.Str = Unit {0}
TypeWithin Ty.Bytes = Unit {0}
TypeWithin (Ty.Fact p) = Unit {0}
TypeWithin (Ty.Record fs) = FieldsWithin fs
TypeWithin (Ty.Union alts) = Each AlternativeWithin alts

-- names that are bound or fuzzy, and the nodes below
abbrev pub NodeWithin : Node → Type 0
NodeWithin (Node.Int bytes) = Unit {0}
NodeWithin (Node.Str x) = Unit {0}
NodeWithin (Node.Bytes bytes) = Unit {0}
NodeWithin (Node.Var x) = x < 65536
NodeWithin Node.Wildcard = Unit {0}
NodeWithin Node.Never = Unit {0}
NodeWithin (Node.Prefix x) = Unit {0}
NodeWithin (Node.Fuzzy x d a) = x < 65536
NodeWithin (Node.Record fs) = Each (λ f. f.node < 65536) fs
NodeWithin (Node.Access x n) = n < 65536
NodeWithin (Node.Value n) = n < 65536
NodeWithin (Node.Select x n) = n < 65536
NodeWithin Node.Disjunction = Unit {0}
NodeWithin Node.Subquery = Unit {0}
NodeWithin (Node.Fact p n) = Unit {0}
NodeWithin Node.Arith = Unit {0}
NodeWithin Node.Error = Unit {0}

pub record EntryWithin (l : LevelEntry) : Type 0 where
  pub node : l.node < 65536
  pub address : l.address < 65536

pub record TablesWithin (T : Tables) : Type 0 where
  pub types : Each TypeWithin T.types
  pub predicates : Each (λ p. p.key < 65536) T.predicates
  pub nodes : Each NodeWithin T.nodes
  pub bindings : Each BindingWithin T.bindings
  pub fetched : Each (λ f. f.register < 65536) T.fetched
  pub constraints : Each (λ k. k.node < 65536) T.constraints
  pub comparisons : length T.comparisons ≤ 256
  pub levels : Each EntryWithin T.levels

-- as many as a byte counts
several-within : {A : Type 0} {Q : A → Type 0} {r : Reader A} → Reads Byte Q r → Reads Byte (λ xs. Each Q xs × (length xs < 256)) (several r)
unfolding several
several-within {A} {Q} {r} h = reads-bind reads-u8 λ n b. record { answer = λ bytes g. few n b ((many-bound n h).answer bytes g) }
  where
    few : (n : ℕ) → n < 256 → {x : Read (List A)} → Answer Byte (Many Q n) x → Answer Byte (λ xs. Each Q xs × (length xs < 256)) x
    few n b (gives {a = xs} q rest) = gives {a = xs} (q.each, omega (arith, q.count)) rest
    few n b (refuses l m) = refuses l m

optional-within : Reads Byte OptionNumber Read.optional
unfolding Read.optional
optional-within = reads-bind u16-bound λ n h. reads-pure _ (by-test OptionNumber (eqb n 65535) (λ e. tt) (λ e. let d = eqb-false n 65535 e in omega arith))

path-within : Reads Byte PathWithin Read.path
unfolding Read.path
path-within = reads-bind u16-bound λ f h. reads-bind (reads-several u32-bound) λ ss g. reads-pure _ (record { field = h; steps = g })

slot-within : Reads Byte SlotWithin Read.slot
unfolding Read.slot Read.row_slot Read.key_slot Read.derived_slot Read.field_slot Read.value_slot Read.const_slot
slot-within =
    reads-kind
    (more (reads-bind u16-bound λ a h. reads-bind optional-within λ p g. reads-pure _ (h, g))
    (more (reads-bind u16-bound λ a h. reads-bind u16-bound λ t g. reads-pure _ (h, g))
    (more (reads-bind u16-bound λ a h. reads-pure _ h)
    (more (reads-bind u16-bound λ a h. reads-bind path-within λ p g. reads-bind u16-bound λ t k. reads-pure _ (h, g, k))
    (more (reads-bind u16-bound λ a h. reads-bind u16-bound λ t g. reads-pure _ (h, g))
    (more (reads-bind u16-bound λ n h. reads-pure _ h) done))))))

binding-within : Reads Byte BindingWithin Read.binding
unfolding Read.binding
binding-within = reads-bind u16-bound λ x h. reads-bind slot-within λ s g. reads-pure _ (record { name = h; slot = g })

field_ty-within : Reads Byte (λ f. f.type < 65536) Read.field_ty
unfolding Read.field_ty
field_ty-within = reads-bind reads-u16 λ n _. reads-bind u16-bound λ t h. reads-pure _ h

alternative-within : Reads Byte AlternativeWithin Read.alternative
unfolding Read.alternative
alternative-within = reads-bind reads-u16 λ n _. reads-bind u32-bound λ d h. reads-bind u16-bound λ t g. reads-pure _ (record { disc = h; type = g })

type-within : Reads Byte TypeWithin Read.type
unfolding Read.type Read.fact_ty Read.record_ty Read.union_ty
type-within =
    reads-kind
    (more (reads-pure _ tt)
    (more (reads-pure _ tt)
    (more (reads-pure _ tt)
    (more (reads-bind reads-u16 λ p _. reads-pure _ tt)
    (more (reads-bind (several-within field_ty-within) λ fs h. reads-pure _ (record { types = h.0; few = h.1 }))
    (more (reads-bind (reads-several alternative-within) λ alts h. reads-pure _ h) done))))))

predicate-within : Reads Byte (λ p. p.key < 65536) Read.predicate
unfolding Read.predicate
predicate-within = reads-bind u16-bound λ k h. reads-bind optional-within λ v _. reads-pure _ h

field_pattern-within : Reads Byte (λ f. f.node < 65536) Read.field_pattern
unfolding Read.field_pattern
field_pattern-within = reads-bind reads-u16 λ x _. reads-bind u16-bound λ n h. reads-pure _ h

-- a node of one number or two
one-within : (make : ℕ → Node) → ((a : ℕ) → a < 65536 → NodeWithin (make a)) → Reads Byte NodeWithin (Read.one make)
unfolding Read.one
one-within make h = reads-bind u16-bound λ a b. reads-pure _ (h a b)

two-within : (make : ℕ → ℕ → Node) → ((a b : ℕ) → b < 65536 → NodeWithin (make a b)) → Reads Byte NodeWithin (Read.two make)
unfolding Read.two
two-within make h = reads-bind reads-u16 λ a _. reads-bind u16-bound λ b g. reads-pure _ (h a b g)

node-within : Reads Byte NodeWithin Read.node
unfolding Read.node Read.int_node Read.bytes_node Read.fuzzy_node Read.record_node
node-within =
    reads-kind
    (more (reads-bind (reads-many 8 reads-u8) λ bytes _. reads-pure _ tt)
    (more (one-within _ λ a _. tt)
    (more (reads-bind (reads-several reads-u8) λ bytes _. reads-pure _ tt)
    (more (one-within _ λ a h. h)
    (more (reads-pure _ tt)
    (more (reads-pure _ tt)
    (more (one-within _ λ a _. tt)
    (more (reads-bind u16-bound λ x h. reads-bind reads-u8 λ d _. reads-bind reads-anchor λ a _. reads-pure _ h)
    (more (reads-bind (reads-several field_pattern-within) λ fs h. reads-pure _ h)
    (more (two-within _ λ a b h. h)
    (more (one-within _ λ a h. h)
    (more (two-within _ λ a b h. h)
    (more (reads-pure _ tt)
    (more (reads-pure _ tt)
    (more (two-within _ λ a b h. tt)
    (more (reads-pure _ tt)
    (more (reads-pure _ tt) done)))))))))))))))))

fetched-within : Reads Byte (λ f. f.register < 65536) Read.fetched
unfolding Read.fetched
fetched-within = reads-bind reads-u16 λ a _. reads-bind path-within λ p _. reads-bind u16-bound λ r h. reads-pure _ h

constraint-within : Reads Byte (λ k. k.node < 65536) Read.constraint
unfolding Read.constraint
constraint-within = reads-bind reads-u16 λ x _. reads-bind u16-bound λ n h. reads-pure _ h

level-within : Reads Byte EntryWithin Read.level
unfolding Read.level
level-within = reads-bind reads-u16 λ p _. reads-bind u16-bound λ n h. reads-bind u16-bound λ a g. reads-pure _ (record { node = h; address = g })

sections-within : Reads Byte TablesWithin Read.ten_sections
unfolding Read.ten_sections
sections-within =
    reads-bind (reads_section Limits.name_limit reads-name) λ ns _.
    reads-bind (reads_section Limits.type_limit type-within) λ ts types.
    reads-bind (reads_section Limits.predicate_limit predicate-within) λ ps predicates.
    reads-bind (reads_section Limits.node_limit node-within) λ ms nodes.
    reads-bind (reads_section Limits.binding_limit binding-within) λ bs bindings.
    reads-bind (reads_section Limits.hoisted_limit reads-hoisted) λ hs _.
    reads-bind (reads_section Limits.fetched_limit fetched-within) λ fs fetched.
    reads-bind (reads_section Limits.constraint_limit constraint-within) λ ks constraints.
    reads-bind (section-bound Limits.comparison_limit reads-comparison) λ cs comparisons.
    reads-bind (reads_section Limits.level_limit level-within) λ ls levels.
    reads_end _
    (record {
      types = types;
      predicates = predicates;
      nodes = nodes;
      bindings = bindings;
      fetched = fetched;
      constraints = constraints;
      comparisons = comparisons.count;
      levels = levels;
    })

file-within : Reads Byte TablesWithin Read.file
file-within =
    reads_whole
    (record {
      types = done;
      predicates = done;
      nodes = done;
      bindings = done;
      fetched = done;
      constraints = done;
      comparisons = omega arith;
      levels = done;
    })
    sections-within

-- the tables of a file of bytes
pub tables-within : (bytes : List ℕ) → Each Byte bytes → (T : Tables) (rest : List ℕ) → Read.file bytes ≡ got T rest → TablesWithin T
tables-within bytes h T rest e = of-answer T rest (file-within.answer bytes h) e
