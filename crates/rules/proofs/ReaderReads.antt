-- A plan whose numbers are within their fields is read back from its bytes as itself.
use mathlib.Core.Bool.{Bool, true, false}
use mathlib.Core.List.{List, [], ◌∷◌, ◌++◌, append_assoc, append-nil}
use Rattle.std.specs.Prelude.{Option, None, Some}
use mathlib.Core.Path.{◌≡◌, refl, sym, ap, ◌∙◌, subst}
use Prim.Native.Nat.{ℕ, ◌+◌, ◌%◌, ◌≤◌, ◌<◌}
use native.Mathlib.Omega.{arith}
use borrow.Author.Tests.{le-leb, lt-leb}
use lib.ListN.{length, get_or, length-append}
use Rattle.rules.specs.Base.{Each, done, more, concat_map}
use Rattle.rules.specs.Limits.{step_limit}
use Rattle.rules.specs.File.{Anchor, FieldPath, Slot, Binding}
use Rattle.rules.specs.Read
use Rattle.rules.specs.Read.{Read, got, refused, Reader, follow, ◌>>=◌, pure, refuse, u8, many, kind, end}
use Rattle.rules.specs.Events.{Code, code_number, Select, Diagnostic, Narrowing}
use Rattle.rules.specs.Placement.{SeekKeyPart, Part, Residual, Guide, Range, RangeEdge, SeekKey}
use Rattle.rules.specs.Plan
use Rattle.rules.specs.Plan.{PlanLevel, Plan, plan_bytes}
use Rattle.rules.specs.Reader
use Rattle.rules.proofs.Each.{Perhaps, nothing, just, each_all, each-imply}
use Rattle.rules.proofs.RoundTrip.{OptionNumber, Back, back-u16, back-u32, back-optional}

-- Numbers that their fields hold, and paths that a path holds.
pub record PathFits (p : FieldPath) : Type 0 where
  pub field : p.field < 65536
  pub count : length p.steps ≤ step_limit
  pub steps : Each (λ n. n < 4294967296) p.steps

abbrev pub SlotFits : Slot → Type 0
SlotFits (Slot.Row a p) = (a < 65536) × OptionNumber p
SlotFits (Slot.Key a t) = (a < 65536) × (t < 65536)
SlotFits (Slot.Derived a) = a < 65536
SlotFits (Slot.Field a p t) = (a < 65536) × PathFits p × (t < 65536)
SlotFits (Slot.Value a t) = (a < 65536) × (t < 65536)
SlotFits (Slot.Const n) = n < 65536

pub record BindingFits (b : Binding) : Type 0 where
  pub name : b.name < 65536
  pub slot : SlotFits b.slot

pub record SelectFits (s : Select) : Type 0 where
  pub address : s.address < 65536
  pub path : PathFits s.path
  pub disc : s.disc < 4294967296

abbrev pub DiagnosticFits : Diagnostic → Type 0
DiagnosticFits d = d.node < 65536

abbrev pub KeyFits : SeekKeyPart → Type 0
KeyFits (SeekKeyPart.Bytes bytes) = Unit {0}
KeyFits (SeekKeyPart.RegisterField a p) = (a < 65536) × PathFits p
KeyFits (SeekKeyPart.RegisterFactId a) = a < 65536

pub record PartFits (p : Part) : Type 0 where
  pub key : KeyFits p.key
  pub node : p.node < 65536

pub record RangeFits (r : Range) : Type 0 where
  pub path : PathFits r.path
  pub node : r.node < 65536

-- n is the level's number of parts
abbrev pub SeekFits : ℕ → SeekKey → Type 0
SeekFits n (SeekKey.Prefix bytes nodes) = (length nodes ≡ n) × Each (λ k. k < 65536) nodes
SeekFits n (SeekKey.Composite parts) = (length parts ≡ n) × Each PartFits parts
SeekFits n (SeekKey.PrefixRange parts range) = (length parts ≡ n) × Each PartFits parts × RangeFits range
SeekFits n (SeekKey.Bounded parts lo hi) = (length parts ≡ n) × Each PartFits parts

pub record GuideFits (g : Guide) : Type 0 where
  pub path : PathFits g.path
  pub term : g.term < 65536
  pub node : g.node < 65536

abbrev pub NarrowingFits : Narrowing → Type 0
NarrowingFits (Narrowing.Bytes bytes) = Unit {0}
NarrowingFits (Narrowing.Tag d) = d < 4294967296
NarrowingFits (Narrowing.RegisterField a p) = (a < 65536) × PathFits p
NarrowingFits (Narrowing.FactId a) = a < 65536
NarrowingFits (Narrowing.Prefix bytes) = Unit {0}
NarrowingFits (Narrowing.Fuzzy x distance a) = x < 65536
NarrowingFits (Narrowing.OwnField p) = PathFits p

pub record ResidualFits (r : Residual) : Type 0 where
  pub path : PathFits r.path
  pub op : NarrowingFits r.op
  pub node : r.node < 65536

pub record LevelFits (l : PlanLevel) : Type 0 where
  pub narrowings : l.narrowings < 65536
  pub closers : l.closers < 65536
  pub parts : l.parts < 65536
  pub seek : SeekFits l.parts l.seek
  pub guide : Perhaps GuideFits l.guide
  pub residuals : Each ResidualFits l.residuals
  pub folded : Each (λ n. n < 65536) l.folded

pub record PlanFits (p : Plan) : Type 0 where
  pub levels : Each LevelFits p.levels
  pub bindings : Each BindingFits p.bindings
  pub constrained : Each (λ n. n < 65536) p.constrained
  pub selects : Each SelectFits p.selects
  pub diagnostics : Each DiagnosticFits p.diagnostics

-- A reader takes these bytes for a, whatever follows them. They are fewer than a u16 counts, so that none of their own counts is cut.
record Takes {A : Type 0} (r : Reader A) (bytes : List ℕ) (a : A) : Type 0 where
  reads : length bytes < 65536 → (rest : List ℕ) → r (bytes ++ rest) ≡ got a rest

takes : {A : Type 0} {r : Reader A} {bytes : List ℕ} {a : A} → Back r bytes a → Takes r bytes a
takes h = record { reads = λ l rest. h.reads rest }

same : {A : Type 0} {r : Reader A} {x y : List ℕ} {a : A} → x ≡ y → Takes r y a → Takes r x a
same {A} {r} {a = a} e h = subst (λ b. Takes r b a) (sym e) h

module _ {A B : Type 0} {r : Reader A} (f : A → Reader B) {x : List ℕ} {a : A} {b : B} where
  -- one item, then what goes on with it
  step : {y : List ℕ} → Takes r x a → Takes (f a) y b → Takes (r >>= f) (x ++ y) b
  unfolding ◌>>=◌ follow
  step {y} g h =
      record {
        reads = λ l rest. ap (r >>= f) (append_assoc x y rest)
            ∙ ap (λ z. follow z f) (g.reads (omega (arith, length-append x y)) (y ++ rest))
            ∙ h.reads (omega (arith, length-append x y)) rest;
      }

  -- the last item
  last : Takes r x a → ((rest : List ℕ) → f a rest ≡ got b rest) → Takes (r >>= f) x b
  unfolding ◌>>=◌ follow
  last g h = record { reads = λ l rest. ap (λ z. follow z f) (g.reads l rest) ∙ h rest }

-- Numbers, lists, texts and paths.
takes-u8 : (b : ℕ) → Takes u8 (b ∷ []) b
unfolding u8
takes-u8 b = record { reads = λ l rest. refl }

takes-u16 : (n : ℕ) → n < 65536 → Takes Read.u16 (Plan.u16 n) n
takes-u16 n h = takes (back-u16 n h)

takes-u32 : (n : ℕ) → n < 4294967296 → Takes Read.u32 (Plan.u32 n) n
takes-u32 n h = takes (back-u32 n h)

-- as many bytes as items, at least
pub counts : {A : Type 0} (encode : A → List ℕ) → ((x : A) → 1 ≤ length (encode x)) → (xs : List A) → length xs ≤ length (concat_map encode xs)
unfolding concat_map
counts encode h [] = omega arith
counts encode h (x ∷ xs) = omega (arith, h x, counts encode h xs, length-append (encode x) (concat_map encode xs))

module _ {A : Type 0} (r : Reader A) (encode : A → List ℕ) where
  takes-many : {xs : List A} → Each (λ x. Takes r (encode x) x) xs → Takes (many (length xs) r) (concat_map encode xs) xs
  unfolding many concat_map pure
  takes-many done = record { reads = λ l rest. refl }
  takes-many (more {x} {xs} h hs) = step _ h (last _ (takes-many hs) (λ rest. refl))

  -- as many as a number that was read before says
  takes-exactly : (n : ℕ) {xs : List A} → length xs ≡ n → Each (λ x. Takes r (encode x) x) xs → Takes (many n r) (concat_map encode xs) xs
  takes-exactly n {xs} e h = subst (λ k. Takes (many k r) (concat_map encode xs) xs) e (takes-many h)

  takes-counted : ((x : A) → 1 ≤ length (encode x)) → {xs : List A} → Each (λ x. Takes r (encode x) x) xs → Takes (Reader.counted r) (Plan.counted encode xs) xs
  unfolding Reader.counted Plan.counted
  takes-counted least {xs} h =
      record {
        reads = λ l rest.
            (step _ (takes-u16 (length xs) (omega (arith, counts encode least xs, length-append (Plan.u16 (length xs)) (concat_map encode xs)))) (takes-many h)).reads l rest;
      }

-- a byte each
pub singles : (bytes : List ℕ) → concat_map (λ b. b ∷ []) bytes ≡ bytes
unfolding concat_map
singles [] = refl
singles (b ∷ bytes) = ap (λ bs. b ∷ bs) (singles bytes)

takes-text : (bytes : List ℕ) → Takes Reader.text (Plan.text bytes) bytes
unfolding Reader.text Plan.text Plan.counted
takes-text bytes =
    same (ap (λ bs. Plan.u16 (length bytes) ++ bs) (sym (singles bytes)))
    (takes-counted u8 (λ b. b ∷ []) (λ b. omega arith) (each_all bytes takes-u8))

-- a count above what a path holds is refused before a step is read
pub too_many : (n : ℕ) → step_limit < n → (bytes : List ℕ) → Reader.steps n bytes ≡ refused 5
unfolding Reader.steps refuse
too_many n h bytes = ap (λ (t : Bool). elim t as (λ _. Reader (List ℕ)) [ true ↦ many n Read.u32 | false ↦ refuse 5 ] bytes) (lt-leb _ _ h)

takes-steps : (ss : List ℕ) → length ss ≤ step_limit → Each (λ n. n < 4294967296) ss → Takes (Reader.steps (length ss)) (concat_map Plan.u32 ss) ss
unfolding Reader.steps
takes-steps ss l h =
    subst (λ (t : Bool). Takes (elim t [ true ↦ many (length ss) Read.u32 | false ↦ refuse 5 ]) (concat_map Plan.u32 ss) ss) (sym (le-leb _ _ l))
    (takes-many Read.u32 Plan.u32 (each-imply takes-u32 h))

counts-steps : (n : ℕ) → n ≤ step_limit → n % 256 ≡ n
counts-steps n h = omega arith

takes-path : (p : FieldPath) → PathFits p → Takes Reader.path (Plan.path p) p
unfolding Reader.path Plan.path pure
takes-path p h =
    same (ap (λ n. Plan.u16 p.field ++ (n ∷ concat_map Plan.u32 p.steps)) (counts-steps _ h.count))
    (step _ (takes-u16 _ h.field) (step _ (takes-u8 (length p.steps)) (last _ (takes-steps p.steps h.count h.steps) (λ rest. refl))))

-- a kind's byte, then what its number has
takes-kind : {A : Type 0} (rs : List (Reader A)) (k : ℕ) {bytes : List ℕ} {a : A} → Takes (get_or rs k (refuse 5)) bytes a → Takes (kind rs) (k ∷ bytes) a
unfolding kind
takes-kind rs k h = step _ (takes-u8 k) h

takes-pure : {A : Type 0} (a : A) → Takes (pure a) [] a
unfolding pure
takes-pure a = record { reads = λ l rest. refl }

takes-anchor : (a : Anchor) → Takes Read.anchor (Plan.anchor a ∷ []) a
unfolding Read.anchor Plan.anchor
takes-anchor Anchor.Prefix = takes-kind _ 0 (takes-pure _)
takes-anchor Anchor.Whole = takes-kind _ 1 (takes-pure _)

-- The four lists.
takes-slot : (s : Slot) → SlotFits s → Takes Reader.slot (Plan.slot s) s
unfolding Reader.slot Plan.slot Read.row_slot Read.key_slot Read.derived_slot Reader.field_slot Read.value_slot Read.const_slot pure
takes-slot (Slot.Row a p) h = takes-kind _ 0 (step _ (takes-u16 a h.0) (last _ (takes (back-optional p h.1)) (λ rest. refl)))
takes-slot (Slot.Key a t) h = takes-kind _ 1 (step _ (takes-u16 a h.0) (last _ (takes-u16 t h.1) (λ rest. refl)))
takes-slot (Slot.Derived a) h = takes-kind _ 2 (last _ (takes-u16 a h) (λ rest. refl))
takes-slot (Slot.Field a p t) h =
    takes-kind _ 3
    (same (append_assoc (Plan.u16 a) (Plan.path p) (Plan.u16 t))
    (step _ (takes-u16 a h.0) (step _ (takes-path p h.1) (last _ (takes-u16 t h.2) (λ rest. refl)))))
takes-slot (Slot.Value a t) h = takes-kind _ 4 (step _ (takes-u16 a h.0) (last _ (takes-u16 t h.1) (λ rest. refl)))
takes-slot (Slot.Const n) h = takes-kind _ 5 (last _ (takes-u16 n h) (λ rest. refl))

takes-binding : (b : Binding) → BindingFits b → Takes Reader.binding (Plan.binding b) b
unfolding Reader.binding Plan.binding pure
takes-binding b h = step _ (takes-u16 _ h.name) (last _ (takes-slot _ h.slot) (λ rest. refl))

takes-select : (s : Select) → SelectFits s → Takes Reader.select (Plan.select s) s
unfolding Reader.select Plan.select pure
takes-select s h =
    same (append_assoc (Plan.u16 s.address) (Plan.path s.path) (Plan.u32 s.disc))
    (step _ (takes-u16 _ h.address) (step _ (takes-path _ h.path) (last _ (takes-u32 _ h.disc) (λ rest. refl))))

takes-code : (c : Code) → Takes Reader.code (code_number c ∷ []) c
unfolding Reader.code code_number
takes-code Code.NyiDisjunction = takes-kind _ 1 (takes-pure _)
takes-code Code.NyiFactField = takes-kind _ 2 (takes-pure _)
takes-code Code.NyiNever = takes-kind _ 3 (takes-pure _)
takes-code Code.NyiRepeatedVariable = takes-kind _ 4 (takes-pure _)
takes-code Code.NyiValueField = takes-kind _ 5 (takes-pure _)
takes-code Code.NyiValueMatch = takes-kind _ 6 (takes-pure _)
takes-code Code.NyiWholeKey = takes-kind _ 7 (takes-pure _)
takes-code Code.RejectTypeMismatch = takes-kind _ 8 (takes-pure _)
takes-code Code.RejectUnionArity = takes-kind _ 9 (takes-pure _)
takes-code Code.RejectUnknownAlternative = takes-kind _ 10 (takes-pure _)
takes-code Code.RejectUnresolvedAccess = takes-kind _ 11 (takes-pure _)

takes-diagnostic : (d : Diagnostic) → DiagnosticFits d → Takes Reader.diagnostic (Plan.diagnostic d) d
unfolding Reader.diagnostic Plan.diagnostic pure
takes-diagnostic d h = step _ (takes-u16 _ h) (last _ (takes-code d.code) (λ rest. refl))

-- A level.
takes_key : (k : SeekKeyPart) → KeyFits k → Takes Reader.part_key (Plan.part_key k) k
unfolding Reader.part_key Plan.part_key Reader.bytes_part Reader.register_part Reader.fact_part pure
takes_key (SeekKeyPart.Bytes bytes) h = takes-kind _ 0 (last _ (takes-text bytes) (λ rest. refl))
takes_key (SeekKeyPart.RegisterField a p) h = takes-kind _ 1 (step _ (takes-u16 a h.0) (last _ (takes-path p h.1) (λ rest. refl)))
takes_key (SeekKeyPart.RegisterFactId a) h = takes-kind _ 2 (last _ (takes-u16 a h) (λ rest. refl))

takes_part : (p : Part) → PartFits p → Takes Reader.part (Plan.part p) p
unfolding Reader.part Plan.part pure
takes_part p h = step _ (takes_key p.key h.key) (last _ (takes-u16 p.node h.node) (λ rest. refl))

takes-edge : (e : Option RangeEdge) → Takes Reader.edge (Plan.edge e) e
unfolding Reader.edge Plan.edge Reader.edge_that Plan.inclusive pure
takes-edge None = takes-kind _ 0 (takes-pure None)
takes-edge (Some e) = go e e.inclusive refl
  where
    go : (e : RangeEdge) (b : Bool) → e.inclusive ≡ b → Takes Reader.edge (Plan.inclusive b ∷ Plan.text e.value) (Some (record { value = e.value; inclusive = b }))
    go e false q = takes-kind _ 1 (last _ (takes-text e.value) (λ rest. refl))
    go e true q = takes-kind _ 2 (last _ (takes-text e.value) (λ rest. refl))

takes-parts : (n : ℕ) (parts : List Part) → length parts ≡ n → Each PartFits parts → Takes (many n Reader.part) (concat_map Plan.part parts) parts
takes-parts n parts e h = takes-exactly Reader.part Plan.part n e (each-imply takes_part h)

takes-seek : (n : ℕ) (s : SeekKey) → SeekFits n s → Takes (Reader.seek n) (Plan.seek s) s
unfolding Reader.seek Plan.seek Reader.prefix_seek Reader.composite_seek Reader.range_seek Reader.bounded_seek pure
takes-seek n (SeekKey.Prefix bytes nodes) h =
    takes-kind _ 0 (step _ (takes-text bytes) (last _ (takes-exactly Read.u16 Plan.u16 n h.0 (each-imply takes-u16 h.1)) (λ rest. refl)))
takes-seek n (SeekKey.Composite parts) h = takes-kind _ 1 (last _ (takes-parts n parts h.0 h.1) (λ rest. refl))
takes-seek n (SeekKey.PrefixRange parts range) h =
    takes-kind _ 2
    (same (append_assoc (concat_map Plan.part parts ++ Plan.text range.prefix) (Plan.path range.path) (Plan.u16 range.node)
    ∙ append_assoc (concat_map Plan.part parts) (Plan.text range.prefix) (Plan.path range.path ++ Plan.u16 range.node))
    (step _ (takes-parts n parts h.0 h.1)
    (step _ (takes-text range.prefix)
    (step _ (takes-path range.path h.2.path)
    (last _ (takes-u16 range.node h.2.node) (λ rest. refl))))))
takes-seek n (SeekKey.Bounded parts lo hi) h =
    takes-kind _ 3
    (same (append_assoc (concat_map Plan.part parts) (Plan.edge lo) (Plan.edge hi))
    (step _ (takes-parts n parts h.0 h.1) (step _ (takes-edge lo) (last _ (takes-edge hi) (λ rest. refl)))))

takes-guide : {g : Option Guide} → Perhaps GuideFits g → Takes Reader.guide (Plan.guide g) g
unfolding Reader.guide Plan.guide Reader.guide_that Plan.fuzzy Plan.u16 pure
takes-guide nothing = takes-kind _ 0 (takes-pure None)
takes-guide (just {x = g} h) =
    takes-kind _ 1
    (same (append_assoc (Plan.path g.path) (Plan.fuzzy g.term g.distance g.anchor) (Plan.u16 g.node))
    (step _ (takes-path g.path h.path)
    (step _ (takes-u16 g.term h.term)
    (step _ (takes-u8 g.distance)
    (step _ (takes-anchor g.anchor)
    (last _ (takes-u16 g.node h.node) (λ rest. refl)))))))

takes-op : (x : Narrowing) → NarrowingFits x → Takes Reader.op (Plan.op x) x
unfolding Reader.op Plan.op Reader.bytes_op Reader.prefix_op Reader.register_op Reader.fact_op Reader.tag_op Reader.fuzzy_op Reader.own_op Plan.fuzzy pure
takes-op (Narrowing.Bytes bytes) h = takes-kind _ 0 (last _ (takes-text bytes) (λ rest. refl))
takes-op (Narrowing.Tag d) h = takes-kind _ 4 (last _ (takes-u32 d h) (λ rest. refl))
takes-op (Narrowing.RegisterField a p) h = takes-kind _ 2 (step _ (takes-u16 a h.0) (last _ (takes-path p h.1) (λ rest. refl)))
takes-op (Narrowing.FactId a) h = takes-kind _ 3 (last _ (takes-u16 a h) (λ rest. refl))
takes-op (Narrowing.Prefix bytes) h = takes-kind _ 1 (last _ (takes-text bytes) (λ rest. refl))
takes-op (Narrowing.Fuzzy x distance a) h =
    takes-kind _ 5 (step _ (takes-u16 x h) (step _ (takes-u8 distance) (last _ (takes-anchor a) (λ rest. refl))))
takes-op (Narrowing.OwnField p) h = takes-kind _ 6 (last _ (takes-path p h) (λ rest. refl))

takes-residual : (r : Residual) → ResidualFits r → Takes Reader.residual (Plan.residual r) r
unfolding Reader.residual Plan.residual pure
takes-residual r h =
    same (append_assoc (Plan.path r.path) (Plan.op r.op) (Plan.u16 r.node))
    (step _ (takes-path r.path h.path) (step _ (takes-op r.op h.op) (last _ (takes-u16 r.node h.node) (λ rest. refl))))

-- each item has a byte at least
least-u16 : (n : ℕ) (more' : List ℕ) → 1 ≤ length (Plan.u16 n ++ more')
unfolding Plan.u16
least-u16 n more' = omega arith

pub least-number : (n : ℕ) → 1 ≤ length (Plan.u16 n)
unfolding Plan.u16
least-number n = omega arith

pub least-residual : (r : Residual) → 1 ≤ length (Plan.residual r)
unfolding Plan.residual Plan.path Plan.u16
least-residual r = omega arith

takes_level : (l : PlanLevel) → LevelFits l → Takes Reader.level (Plan.level_bytes l) l
unfolding Reader.level Plan.level_bytes pure
takes_level l h =
    same (simp append_assoc)
    (step _ (takes-u16 _ h.narrowings)
    (step _ (takes-u16 _ h.closers)
    (step _ (takes-u16 _ h.parts)
    (step _ (takes-seek l.parts l.seek h.seek)
    (step _ (takes-guide h.guide)
    (step _ (takes-counted Reader.residual Plan.residual least-residual (each-imply takes-residual h.residuals))
    (last _ (takes-counted Read.u16 Plan.u16 least-number (each-imply takes-u16 h.folded)) (λ rest. refl))))))))

least-level : (l : PlanLevel) → 1 ≤ length (Plan.level_bytes l)
unfolding Plan.level_bytes Plan.u16
least-level l = omega arith

least-binding : (b : Binding) → 1 ≤ length (Plan.binding b)
unfolding Plan.binding Plan.u16
least-binding b = omega arith

least-select : (s : Select) → 1 ≤ length (Plan.select s)
unfolding Plan.select Plan.u16
least-select s = omega arith

least-diagnostic : (d : Diagnostic) → 1 ≤ length (Plan.diagnostic d)
unfolding Plan.diagnostic Plan.u16
least-diagnostic d = omega arith

module _ {A B : Type 0} {r : Reader A} (f : A → Reader B) {x y : List ℕ} {a : A} {out : Read B} where
  -- one item of the whole plan
  whole : length x < 65536 → Takes r x a → f a y ≡ out → (r >>= f) (x ++ y) ≡ out
  unfolding ◌>>=◌ follow
  whole l h e = ap (λ z. follow z f) (h.reads l y) ∙ e

-- the five lists of a plan
module _ (p : Plan) where
  abbrev ls : List ℕ
  ls = Plan.counted Plan.level_bytes p.levels

  abbrev bs : List ℕ
  bs = Plan.counted Plan.binding p.bindings

  abbrev ks : List ℕ
  ks = Plan.counted Plan.u16 p.constrained

  abbrev ss : List ℕ
  ss = Plan.counted Plan.select p.selects

  abbrev ds : List ℕ
  ds = Plan.counted Plan.diagnostic p.diagnostics

  in-turn : (after : List ℕ) → plan_bytes p ++ after ≡ ls ++ (bs ++ (ks ++ (ss ++ (ds ++ after))))
  unfolding plan_bytes
  in-turn after = simp append_assoc

  lengths : length (plan_bytes p) ≡ length ls + length bs + length ks + length ss + length ds
  unfolding plan_bytes
  lengths = simp length-append

  -- the plan's bytes are read, and what follows them is left to its end
  then-ends : PlanFits p → length (plan_bytes p) < 65536 → (after : List ℕ) → Reader.plan (plan_bytes p ++ after) ≡ end p after
  unfolding Reader.plan
  then-ends h l after =
      ap Reader.plan (in-turn after)
      ∙ whole _ (omega (arith, lengths)) (takes-counted Reader.level Plan.level_bytes least-level (each-imply takes_level h.levels))
      (whole _ (omega (arith, lengths)) (takes-counted Reader.binding Plan.binding least-binding (each-imply takes-binding h.bindings))
      (whole _ (omega (arith, lengths)) (takes-counted Read.u16 Plan.u16 least-number (each-imply takes-u16 h.constrained))
      (whole _ (omega (arith, lengths)) (takes-counted Reader.select Plan.select least-select (each-imply takes-select h.selects))
      (whole _ (omega (arith, lengths)) (takes-counted Reader.diagnostic Plan.diagnostic least-diagnostic (each-imply takes-diagnostic h.diagnostics))
      refl))))

  pub takes-plan : PlanFits p → length (plan_bytes p) < 65536 → Reader.plan (plan_bytes p) ≡ got p []
  unfolding end
  takes-plan h l = ap Reader.plan (sym (append-nil (plan_bytes p))) ∙ then-ends h l []
