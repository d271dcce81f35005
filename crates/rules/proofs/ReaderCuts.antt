-- 16 and 17 told apart for every list of bytes: a plan that is accepted is refused by 16 wherever it is cut short, and a refusal by 17 stays whatever follows.
use mathlib.Core.List.{List, [], ◌∷◌, ◌++◌}
use mathlib.Core.Path.{◌≡◌, refl}
use Prim.Native.Nat.{ℕ, zero, suc}
use native.Mathlib.Omega.{arith}
use lib.Dec.{eqb, leb}
use Rattle.rules.specs.Base.{Each, done, more}
use Rattle.rules.specs.Limits.{step_limit}
use Rattle.rules.specs.Read.{Read, got, refused, Reader, follow, ◌>>=◌, pure, refuse, u8, many, kind, end}
use Rattle.rules.specs.Read
use Rattle.rules.specs.Plan.{Plan}
use Rattle.rules.specs.Reader
use Rattle.rules.proofs.Cases.{by-test}
use Rattle.rules.proofs.Each.{each-get_or}

-- What a reading comes to where more bytes follow: the same with these left, the same refusal, or, where the bytes ended, anything.
data Extends {A : Type 0} (after : List ℕ) : Read A → Read A → Type 0 where
  reads_on : {a : A} {rest : List ℕ} → Extends after (got a rest) (got a (rest ++ after))
  stays : {n : ℕ} → Extends after (refused n) (refused n)
  ended : {y : Read A} → Extends after (refused 3) y

record Steady {A : Type 0} (r : Reader A) : Type 0 where
  extends : (bytes after : List ℕ) → Extends after (r bytes) (r (bytes ++ after))

follows : {A B : Type 0} {after : List ℕ} {x y : Read A} (f : A → Reader B) → Extends after x y → ((a : A) → Steady (f a)) → Extends after (follow x f) (follow y f)
unfolding follow
follows {after} f (reads_on {a} {rest}) h = (h a).extends rest after
follows f stays h = stays
follows f ended h = ended

steady-bind : {A B : Type 0} {r : Reader A} (f : A → Reader B) → Steady r → ((a : A) → Steady (f a)) → Steady (r >>= f)
unfolding ◌>>=◌
steady-bind f g h = record { extends = λ bytes after. follows f (g.extends bytes after) h }

steady-pure : {A : Type 0} (a : A) → Steady (pure a)
unfolding pure
steady-pure a = record { extends = λ bytes after. reads_on }

steady-refuse : {A : Type 0} (n : ℕ) → Steady {A = A} (refuse n)
unfolding refuse
steady-refuse n = record { extends = λ bytes after. stays }

steady-u8 : Steady u8
unfolding u8
steady-u8 = record { extends = go }
  where
    go : (bytes after : List ℕ) → Extends after (u8 bytes) (u8 (bytes ++ after))
    go [] after = ended
    go (b ∷ bytes) after = reads_on

steady-u16 : Steady Read.u16
unfolding Read.u16
steady-u16 = steady-bind _ steady-u8 λ lo. steady-bind _ steady-u8 λ hi. steady-pure _

steady-u32 : Steady Read.u32
unfolding Read.u32
steady-u32 = steady-bind _ steady-u16 λ lo. steady-bind _ steady-u16 λ hi. steady-pure _

steady-optional : Steady Read.optional
unfolding Read.optional
steady-optional = steady-bind _ steady-u16 λ n. steady-pure _

steady-many : {A : Type 0} (n : ℕ) {r : Reader A} → Steady r → Steady (many n r)
unfolding many
steady-many zero h = steady-pure _
steady-many (suc n) h = steady-bind _ h λ x. steady-bind _ (steady-many n h) λ xs. steady-pure _

steady-kind : {A : Type 0} {rs : List (Reader A)} → Each Steady rs → Steady (kind rs)
unfolding kind
steady-kind h = steady-bind _ steady-u8 λ k. each-get_or k h (steady-refuse 5)

steady-counted : {A : Type 0} {r : Reader A} → Steady r → Steady (Reader.counted r)
unfolding Reader.counted
steady-counted h = steady-bind _ steady-u16 λ n. steady-many n h

steady-text : Steady Reader.text
unfolding Reader.text
steady-text = steady-counted steady-u8

steady-steps : (n : ℕ) → Steady (Reader.steps n)
unfolding Reader.steps
steady-steps n = by-test Steady (leb n step_limit) (λ e. steady-many n steady-u32) (λ e. steady-refuse 5)

steady-path : Steady Reader.path
unfolding Reader.path
steady-path = steady-bind _ steady-u16 λ f. steady-bind _ steady-u8 λ n. steady-bind _ (steady-steps n) λ ss. steady-pure _

steady-anchor : Steady Read.anchor
unfolding Read.anchor
steady-anchor = steady-kind (more (steady-pure _) (more (steady-pure _) done))

steady-slot : Steady Reader.slot
unfolding Reader.slot Read.row_slot Read.key_slot Read.derived_slot Reader.field_slot Read.value_slot Read.const_slot
steady-slot =
    steady-kind
    (more (steady-bind _ steady-u16 λ a. steady-bind _ steady-optional λ p. steady-pure _)
    (more (steady-bind _ steady-u16 λ a. steady-bind _ steady-u16 λ t. steady-pure _)
    (more (steady-bind _ steady-u16 λ a. steady-pure _)
    (more (steady-bind _ steady-u16 λ a. steady-bind _ steady-path λ p. steady-bind _ steady-u16 λ t. steady-pure _)
    (more (steady-bind _ steady-u16 λ a. steady-bind _ steady-u16 λ t. steady-pure _)
    (more (steady-bind _ steady-u16 λ n. steady-pure _) done))))))

steady-binding : Steady Reader.binding
unfolding Reader.binding
steady-binding = steady-bind _ steady-u16 λ x. steady-bind _ steady-slot λ s. steady-pure _

steady-select : Steady Reader.select
unfolding Reader.select
steady-select = steady-bind _ steady-u16 λ a. steady-bind _ steady-path λ p. steady-bind _ steady-u32 λ d. steady-pure _

steady-code : Steady Reader.code
unfolding Reader.code
steady-code =
    steady-kind
    (more (steady-refuse 5)
    (more (steady-pure _)
    (more (steady-pure _)
    (more (steady-pure _)
    (more (steady-pure _)
    (more (steady-pure _)
    (more (steady-pure _)
    (more (steady-pure _)
    (more (steady-pure _)
    (more (steady-pure _)
    (more (steady-pure _)
    (more (steady-pure _) done))))))))))))

steady-diagnostic : Steady Reader.diagnostic
unfolding Reader.diagnostic
steady-diagnostic = steady-bind _ steady-u16 λ n. steady-bind _ steady-code λ c. steady-pure _

steady-key : Steady Reader.part_key
unfolding Reader.part_key Reader.bytes_part Reader.register_part Reader.fact_part
steady-key =
    steady-kind
    (more (steady-bind _ steady-text λ bytes. steady-pure _)
    (more (steady-bind _ steady-u16 λ a. steady-bind _ steady-path λ p. steady-pure _)
    (more (steady-bind _ steady-u16 λ a. steady-pure _) done)))

steady-part : Steady Reader.part
unfolding Reader.part
steady-part = steady-bind _ steady-key λ k. steady-bind _ steady-u16 λ n. steady-pure _

steady-edge : Steady Reader.edge
unfolding Reader.edge Reader.edge_that
steady-edge =
    steady-kind
    (more (steady-pure _)
    (more (steady-bind _ steady-text λ value. steady-pure _)
    (more (steady-bind _ steady-text λ value. steady-pure _) done)))

steady-seek : (n : ℕ) → Steady (Reader.seek n)
unfolding Reader.seek Reader.prefix_seek Reader.composite_seek Reader.range_seek Reader.bounded_seek
steady-seek n =
    steady-kind
    (more (steady-bind _ steady-text λ bytes. steady-bind _ (steady-many n steady-u16) λ nodes. steady-pure _)
    (more (steady-bind _ parts λ ps. steady-pure _)
    (more (steady-bind _ parts λ ps. steady-bind _ steady-text λ prefix. steady-bind _ steady-path λ p. steady-bind _ steady-u16 λ node. steady-pure _)
    (more (steady-bind _ parts λ ps. steady-bind _ steady-edge λ lo. steady-bind _ steady-edge λ hi. steady-pure _) done))))
  where
    parts : Steady (many n Reader.part)
    parts = steady-many n steady-part

steady-guide : Steady Reader.guide
unfolding Reader.guide Reader.guide_that
steady-guide =
    steady-kind
    (more (steady-pure _)
    (more
    (steady-bind _ steady-path λ p.
    steady-bind _ steady-u16 λ x.
    steady-bind _ steady-u8 λ d.
    steady-bind _ steady-anchor λ a.
    steady-bind _ steady-u16 λ n.
    steady-pure _) done))

steady-op : Steady Reader.op
unfolding Reader.op Reader.bytes_op Reader.prefix_op Reader.register_op Reader.fact_op Reader.tag_op Reader.fuzzy_op Reader.own_op
steady-op =
    steady-kind
    (more (steady-bind _ steady-text λ bytes. steady-pure _)
    (more (steady-bind _ steady-text λ bytes. steady-pure _)
    (more (steady-bind _ steady-u16 λ a. steady-bind _ steady-path λ p. steady-pure _)
    (more (steady-bind _ steady-u16 λ a. steady-pure _)
    (more (steady-bind _ steady-u32 λ d. steady-pure _)
    (more (steady-bind _ steady-u16 λ x. steady-bind _ steady-u8 λ d. steady-bind _ steady-anchor λ a. steady-pure _)
    (more (steady-bind _ steady-path λ p. steady-pure _) done)))))))

steady-residual : Steady Reader.residual
unfolding Reader.residual
steady-residual = steady-bind _ steady-path λ p. steady-bind _ steady-op λ o. steady-bind _ steady-u16 λ n. steady-pure _

steady-level : Steady Reader.level
unfolding Reader.level
steady-level =
    steady-bind _ steady-u16 λ ns.
    steady-bind _ steady-u16 λ cs.
    steady-bind _ steady-u16 λ ps.
    steady-bind _ (steady-seek ps) λ s.
    steady-bind _ steady-guide λ g.
    steady-bind _ (steady-counted steady-residual) λ rs.
    steady-bind _ (steady-counted steady-u16) λ fs.
    steady-pure _

-- The whole plan, where a byte or more follows: what was read whole has bytes left over then.
data Follows {A : Type 0} : Read A → Read A → Type 0 where
  left_over : {a : A} → Follows (got a []) (refused 7)
  still : {n : ℕ} → Follows (refused n) (refused n)
  cut : {y : Read A} → Follows (refused 3) y

record Whole {A : Type 0} (r : Reader A) : Type 0 where
  follows_on : (bytes : List ℕ) (b : ℕ) (after : List ℕ) → Follows (r bytes) (r (bytes ++ (b ∷ after)))

whole-follow : {A B : Type 0} (b : ℕ) (after : List ℕ) {x y : Read A} (f : A → Reader B) → Extends (b ∷ after) x y → ((a : A) → Whole (f a)) → Follows (follow x f) (follow y f)
unfolding follow
whole-follow b after f (reads_on {a} {rest}) h = (h a).follows_on rest b after
whole-follow b after f stays h = still
whole-follow b after f ended h = cut

whole-bind : {A B : Type 0} {r : Reader A} (f : A → Reader B) → Steady r → ((a : A) → Whole (f a)) → Whole (r >>= f)
unfolding ◌>>=◌
whole-bind f g h = record { follows_on = λ bytes b after. whole-follow b after f (g.extends bytes (b ∷ after)) h }

whole-end : {A : Type 0} (a : A) → Whole (end a)
unfolding end
whole-end a = record { follows_on = go }
  where
    go : (bytes : List ℕ) (b : ℕ) (after : List ℕ) → Follows (end a bytes) (end a (bytes ++ (b ∷ after)))
    go [] b after = left_over
    go (x ∷ bytes) b after = still

whole-plan : Whole Reader.plan
unfolding Reader.plan
whole-plan =
    whole-bind _ (steady-counted steady-level) λ ls.
    whole-bind _ (steady-counted steady-binding) λ bs.
    whole-bind _ (steady-counted steady-u16) λ ks.
    whole-bind _ (steady-counted steady-select) λ ss.
    whole-bind _ (steady-counted steady-diagnostic) λ ds.
    whole-end _

-- a refusal is nothing that was read
pub not-got : {A B : Type 0} (n : ℕ) (a : A) (rest : List ℕ) → Reader.numbered (refused n) ≡ got a rest → B
unfolding Reader.numbered
not-got {A} {B} n a rest = by-test (λ r. r ≡ got a rest → B) (eqb n 3) (λ q e. absurd (let z : ◌≡◌ {A = ℕ} 0 1 = cc in omega arith)) (λ q e. absurd (let z : ◌≡◌ {A = ℕ} 0 1 = cc in omega arith))

cut_of : {x y : Read Plan} → Follows x y → (p : Plan) (rest : List ℕ) → Reader.numbered y ≡ got p rest → Reader.numbered x ≡ refused 16
unfolding Reader.numbered
cut_of left_over p rest e = not-got 7 p rest e
cut_of (still {n}) p rest e = not-got n p rest e
cut_of cut p rest e = refl

-- a plan that is read is refused by 16 wherever it is cut short
pub cut_short : (bytes : List ℕ) (b : ℕ) (after : List ℕ) (p : Plan) (rest : List ℕ) → Reader.read (bytes ++ (b ∷ after)) ≡ got p rest → Reader.read bytes ≡ refused 16
unfolding Reader.read
cut_short bytes b after p rest e = cut_of (whole-plan.follows_on bytes b after) p rest e

unknown-of : {x y : Read Plan} → Follows x y → Reader.numbered x ≡ refused 17 → Reader.numbered y ≡ refused 17
unfolding Reader.numbered
unknown-of (left_over {a}) e = absurd (let z : ◌≡◌ {A = ℕ} 0 1 = cc in omega arith)
unknown-of still e = e
unknown-of cut e = absurd (let z : ◌≡◌ {A = ℕ} 16 17 = cc in omega arith)

-- a refusal by 17 stays, whatever follows
pub unknown-stays : (bytes : List ℕ) (b : ℕ) (after : List ℕ) → Reader.read bytes ≡ refused 17 → Reader.read (bytes ++ (b ∷ after)) ≡ refused 17
unfolding Reader.read
unknown-stays bytes b after e = unknown-of (whole-plan.follows_on bytes b after) e
