-- The numbers of a file that was read are within their fields.
use mathlib.Core.Bool.{Bool, true, false}
use mathlib.Core.List.{List}
use mathlib.Core.Path.{◌≡◌, refl, sym, ap, subst}
use Prim.Native.Nat.{ℕ, zero, suc, ◌≤◌, ◌<◌}
use native.Mathlib.Omega.{arith}
use lib.Dec.{leb}
use lib.ListN.{length}
use Rattle.rules.specs.Base.{Each, done, more}
use Rattle.rules.specs.Limits
use Rattle.rules.specs.File.{Tables, Ty, Node}
use Rattle.rules.specs.Read
use Rattle.rules.specs.Read.{Read, got, refused, Reader, many, several, section, refuse}
use Rattle.rules.specs.Demand1.{Byte}
use Rattle.rules.proofs.Cases.{leb-le}
use Rattle.rules.proofs.Each.{Any}
use Rattle.rules.proofs.Readers.{Answer, gives, refuses, Reads, reads-pure, reads-refuse, reads-bind, reads-u8, reads-u16, reads-several, reads-kind, reads_section, reads_end, reads-name, reads-predicate, reads-anchor, reads-field_pattern, reads-binding, reads-hoisted, reads_fetched, reads-constraint, reads-comparison, reads_whole}

-- fewer fields than a byte counts, discs of four bytes
abbrev pub TypeNumbers : Ty → Type 0
TypeNumbers Ty.Int = Unit {0}
TypeNumbers Ty.Str = Unit {0}
TypeNumbers Ty.Bytes = Unit {0}
TypeNumbers (Ty.Fact p) = Unit {0}
TypeNumbers (Ty.Record fs) = length fs < 256
TypeNumbers (Ty.Union alts) = Each (λ a. a.disc < 4294967296) alts

-- as many as were asked for
pub record Many {A : Type 0} (Q : A → Type 0) (n : ℕ) (xs : List A) : Type 0 where
  pub each : Each Q xs
  pub count : length xs ≡ n

-- an Int's eight bytes, a Var's name
abbrev pub NodeNumbers : Node → Type 0
NodeNumbers (Node.Int bytes) = Many Byte 8 bytes
NodeNumbers (Node.Str x) = Unit {0}
NodeNumbers (Node.Bytes bytes) = Unit {0}
NodeNumbers (Node.Var x) = x < 65536
NodeNumbers Node.Wildcard = Unit {0}
NodeNumbers Node.Never = Unit {0}
NodeNumbers (Node.Prefix x) = Unit {0}
NodeNumbers (Node.Fuzzy x d a) = Unit {0}
NodeNumbers (Node.Record fs) = Unit {0}
NodeNumbers (Node.Access x n) = Unit {0}
NodeNumbers (Node.Value n) = Unit {0}
NodeNumbers (Node.Select x n) = Unit {0}
NodeNumbers Node.Disjunction = Unit {0}
NodeNumbers Node.Subquery = Unit {0}
NodeNumbers (Node.Fact p n) = Unit {0}
NodeNumbers Node.Arith = Unit {0}
NodeNumbers Node.Error = Unit {0}

pub record Bounded (T : Tables) : Type 0 where
  pub few-types : length T.types ≤ 65536
  pub types : Each TypeNumbers T.types
  pub nodes : Each NodeNumbers T.nodes
  pub levels : Each (λ l. l.address < 65536) T.levels

pub u16-bound : Reads Byte (λ n. n < 65536) Read.u16
unfolding Read.u16
u16-bound = reads-bind reads-u8 λ lo l. reads-bind reads-u8 λ hi h. reads-pure _ (omega arith)

pub u32-bound : Reads Byte (λ n. n < 4294967296) Read.u32
unfolding Read.u32
u32-bound = reads-bind u16-bound λ lo l. reads-bind u16-bound λ hi h. reads-pure _ (omega arith)

pub many-bound : {A : Type 0} {Q : A → Type 0} (n : ℕ) {r : Reader A} → Reads Byte Q r → Reads Byte (Many Q n) (many n r)
unfolding many
many-bound zero h = reads-pure _ (record { each = done; count = refl })
many-bound (suc n) h = reads-bind h λ x q. reads-bind (many-bound n h) λ xs qs. reads-pure _ (record { each = more q qs.each; count = ap suc qs.count })

several-bound : {A : Type 0} {Q : A → Type 0} {r : Reader A} → Reads Byte Q r → Reads Byte (λ xs. length xs < 256) (several r)
unfolding several
several-bound {A} {Q} {r} h = reads-bind reads-u8 λ n b. record { answer = λ bytes g. few n b ((many-bound n h).answer bytes g) }
  where
    few : (n : ℕ) → n < 256 → {x : Read (List A)} → Answer Byte (Many Q n) x → Answer Byte (λ xs. length xs < 256) x
    few n b (gives {a = xs} q rest) = gives {a = xs} (omega (arith, q.count)) rest
    few n b (refuses l m) = refuses l m

-- a section's records and how many there may be
pub record Counted {A : Type 0} (Q : A → Type 0) (limit : ℕ) (xs : List A) : Type 0 where
  pub each : Each Q xs
  pub count : length xs ≤ limit

pub section-bound : {A : Type 0} {Q : A → Type 0} (limit : ℕ) {r : Reader A} → Reads Byte Q r → Reads Byte (Counted Q limit) (section limit r)
unfolding section
section-bound {A} {Q} limit {r} h = reads-bind reads-u16 λ n _. go n (leb n limit) refl
  where
    few : (n : ℕ) → n ≤ limit → {x : Read (List A)} → Answer Byte (Many Q n) x → Answer Byte (Counted Q limit) x
    few n b (gives q rest) = gives (record { each = q.each; count = omega (arith, q.count) }) rest
    few n b (refuses l m) = refuses l m

    go : (n : ℕ) (b : Bool) → leb n limit ≡ b → Reads Byte (Counted Q limit) (elim b [ true ↦ many n r | false ↦ refuse 4 ])
    go n true e = record { answer = λ bytes g. few n (leb-le n limit e) ((many-bound n h).answer bytes g) }
    go n false e = reads-refuse 4 (omega arith) (omega arith)

reads-field_ty : Reads Byte Any Read.field_ty
unfolding Read.field_ty
reads-field_ty = reads-bind reads-u16 λ n _. reads-bind reads-u16 λ t _. reads-pure _ tt

alternative-bound : Reads Byte (λ a. a.disc < 4294967296) Read.alternative
unfolding Read.alternative
alternative-bound = reads-bind reads-u16 λ n _. reads-bind u32-bound λ d h. reads-bind reads-u16 λ t _. reads-pure _ h

type-bound : Reads Byte TypeNumbers Read.type
unfolding Read.type Read.fact_ty Read.record_ty Read.union_ty
type-bound =
    reads-kind
    (more (reads-pure _ tt)
    (more (reads-pure _ tt)
    (more (reads-pure _ tt)
    (more (reads-bind reads-u16 λ p _. reads-pure _ tt)
    (more (reads-bind (several-bound reads-field_ty) λ fs h. reads-pure _ h)
    (more (reads-bind (reads-several alternative-bound) λ alts h. reads-pure _ h) done))))))

-- a node of one number or two
one-bound : (make : ℕ → Node) → ((a : ℕ) → a < 65536 → NodeNumbers (make a)) → Reads Byte NodeNumbers (Read.one make)
unfolding Read.one
one-bound make h = reads-bind u16-bound λ a b. reads-pure _ (h a b)

two-bound : (make : ℕ → ℕ → Node) → ((a b : ℕ) → NodeNumbers (make a b)) → Reads Byte NodeNumbers (Read.two make)
unfolding Read.two
two-bound make h = reads-bind reads-u16 λ a _. reads-bind reads-u16 λ b _. reads-pure _ (h a b)

node-bound : Reads Byte NodeNumbers Read.node
unfolding Read.node Read.int_node Read.bytes_node Read.fuzzy_node Read.record_node
node-bound =
    reads-kind
    (more (reads-bind (many-bound 8 reads-u8) λ bytes h. reads-pure _ h)
    (more (one-bound _ λ a _. tt)
    (more (reads-bind (reads-several reads-u8) λ bytes _. reads-pure _ tt)
    (more (one-bound _ λ a h. h)
    (more (reads-pure _ tt)
    (more (reads-pure _ tt)
    (more (one-bound _ λ a _. tt)
    (more (reads-bind reads-u16 λ x _. reads-bind reads-u8 λ d _. reads-bind reads-anchor λ a _. reads-pure _ tt)
    (more (reads-bind (reads-several reads-field_pattern) λ fs _. reads-pure _ tt)
    (more (two-bound _ λ a b. tt)
    (more (one-bound _ λ a _. tt)
    (more (two-bound _ λ a b. tt)
    (more (reads-pure _ tt)
    (more (reads-pure _ tt)
    (more (two-bound _ λ a b. tt)
    (more (reads-pure _ tt)
    (more (reads-pure _ tt) done)))))))))))))))))

level-bound : Reads Byte (λ l. l.address < 65536) Read.level
unfolding Read.level
level-bound = reads-bind reads-u16 λ p _. reads-bind reads-u16 λ n _. reads-bind u16-bound λ a h. reads-pure _ h

sections-bound : Reads Byte Bounded Read.ten_sections
unfolding Read.ten_sections
sections-bound =
    reads-bind (reads_section Limits.name_limit reads-name) λ ns _.
    reads-bind (section-bound Limits.type_limit type-bound) λ ts types.
    reads-bind (reads_section Limits.predicate_limit reads-predicate) λ ps _.
    reads-bind (reads_section Limits.node_limit node-bound) λ ms nodes.
    reads-bind (reads_section Limits.binding_limit reads-binding) λ bs _.
    reads-bind (reads_section Limits.hoisted_limit reads-hoisted) λ hs _.
    reads-bind (reads_section Limits.fetched_limit reads_fetched) λ fs _.
    reads-bind (reads_section Limits.constraint_limit reads-constraint) λ ks _.
    reads-bind (reads_section Limits.comparison_limit reads-comparison) λ cs _.
    reads-bind (reads_section Limits.level_limit level-bound) λ ls levels.
    reads_end _ (record { few-types = omega (arith, types.count); types = types.each; nodes = nodes; levels = levels })

file-bound : Reads Byte Bounded Read.file
file-bound = reads_whole (record { few-types = omega arith; types = done; nodes = done; levels = done }) sections-bound

-- what was read, of an answer that says so
read_or : {A : Type 0} → A → Read A → A
read_or d (got a rest) = a
read_or d (refused n) = d

abbrev IsGot : {A : Type 0} → Read A → Type 0
IsGot (got a rest) = Unit {0}
IsGot (refused n) = ⊥

pub refused≢got : {A : Type 0} (n : ℕ) (a : A) (rest : List ℕ) → refused n ≡ got a rest → ⊥
refused≢got n a rest e = subst IsGot (sym e) tt

pub of-answer : {A : Type 0} {Q : A → Type 0} {x : Read A} (a : A) (rest : List ℕ) → Answer Byte Q x → x ≡ got a rest → Q a
unfolding read_or
of-answer {A} {Q} a rest (gives q h) e = subst Q (ap (read_or a) e) q
of-answer a rest (refuses l m) e = absurd (refused≢got _ a rest e)

-- the tables of a file of bytes
pub bounded : (bytes : List ℕ) → Each Byte bytes → (T : Tables) (rest : List ℕ) → Read.file bytes ≡ got T rest → Bounded T
bounded bytes h T rest e = of-answer T rest (file-bound.answer bytes h) e
