-- The records of an accepted file: what stands at each one's start, and the view that it gives.
use Rattle.paths.specs.declared.PredicateId.{PredicateId}
use Prim.Native.Nat.{ℕ, zero, suc, ◌+◌, ◌*◌, ◌≤◌, ◌<◌}
use mathlib.Core.Path.{◌≡◌, refl, sym, ap, ◌∙◌, subst}
use mathlib.Core.Bool.{Bool, true, false}
use mathlib.Core.List.{List, []}
use Rattle.std.specs.Prelude.{Option, None, Some}
use mathlib.Core.Logic.{⊎_elim}
use native.Mathlib.Omega.{arith}
use lib.ListN.{length, get_or, drop, get_or-eq_default}
use lib.Dec.{eqb}
use borrow.Author.Tests.{eq-eqb, ne_eqb}
use Rattle.rules.specs.File as File
use Rattle.rules.specs.File.{Ty, op_of_number, name_at, type_at, predicate_at}
use Rattle.rules.specs.Utf8.{UTF8-octets}
use Rattle.rules.specs.Read.{Reader, ◌>>=◌, pure, refuse, u8, optional, several, kind, well_formed, name, type, fact_ty, record_ty, union_ty, predicate, hoisted, constraint, op, comparison, level}
use Rattle.rules.specs.Read.Read.{got}
use Rattle.file.specs.Steps.{word, read_at, base_of}
use Rattle.file.specs.Tables.{Stands, Section, Indexed, tables_of}
use Rattle.file.proofs.Readers.{lt-or-le, refused-got, bind_inv, then-got, then-refused, kind-in, kind-out, needs-fixed, needs-first, fixed-bind, fixed-pure, fixed-u8, fixed-u16}
use Rattle.file.proofs.Leaves.{type_readers, op_readers, op-known, fixed-field_ty, fixed-alternative, fixed-predicate, fixed-hoisted, fixed-constraint, fixed-level}
use Rattle.file.proofs.Sections.{word-then}
use Rattle.views.specs.Views.{size_of, start_at, run, byte_at, or_none, text_view, type_views, type_view, predicate_maybe, predicate_option, SeenType, SeenText, hoisted_at, constraint_at, comparison_at, level_entry_at}
use Rattle.views.specs.declared.TextView.{TextView}
use Rattle.views.specs.declared.TypeView.{TypeView}
use Rattle.views.specs.declared.TypeView.TheVariants as Tv
use Rattle.views.proofs.Runs.{value_of, needs-room, first_byte, one_in, two_in, three-in, optional-in, finds-byte, finds-field, finds-alternative, Counts, counts, Made, several-made}

-- a kind at p that was read: its byte, and what its reader found
pub record Kinded {A : Type 0} (f : List ℕ) (rs : List (Reader A)) (p : ℕ) (a : A) (rest : List ℕ) : Type 0 where
  pub inside : p < length f
  pub known : get_or f p 0 < length rs
  pub then : read_at f (get_or rs (get_or f p 0) (refuse 5)) (p + 1) ≡ got a rest

pub kind-found : {A : Type 0} (f : List ℕ) (rs : List (Reader A)) (p : ℕ) (a : A) (rest : List ℕ) → read_at f (kind rs) p ≡ got a rest → Kinded f rs p a rest
unfolding kind refuse read_at
kind-found {A} f rs p a rest e =
    let b = first_byte f (λ k. get_or rs k (refuse 5)) p a rest e in
    record {
      inside = b.inside;
      known = ⊎_elim (λ h. h) (λ h. absurd (refused-got (sym (ap (λ (r : Reader A). r (drop (p + 1) f)) (get_or-eq_default rs (refuse 5) h)) ∙ b.then))) (lt-or-le (get_or f p 0) (length rs));
      then = b.then;
    }

-- what reader k of the list found
pub kind-is : {A : Type 0} (f : List ℕ) (rs : List (Reader A)) (p k : ℕ) (a : A) (rest : List ℕ) → Kinded f rs p a rest → get_or f p 0 ≡ k → read_at f (get_or rs k (refuse 5)) (p + 1) ≡ got a rest
kind-is {A} f rs p k a rest x e = ap (λ (j : ℕ). read_at f (get_or rs j (refuse 5)) (p + 1)) (sym e) ∙ x.then

-- a kind that only chooses a value
pub record Chosen {A B : Type 0} (f : List ℕ) (n : ℕ) (v : ℕ → A) (k : A → Reader B) (p : ℕ) (b : B) (rest : List ℕ) : Type 0 where
  pub inside : p < length f
  pub known : get_or f p 0 < n
  pub then : read_at f (k (v (get_or f p 0))) (p + 1) ≡ got b rest

pub chosen : {A B : Type 0} (f : List ℕ) (rs : List (Reader A)) (v : ℕ → A) (k : A → Reader B) (p : ℕ) (b : B) (rest : List ℕ) → ((j : ℕ) → j < length rs → get_or rs j (refuse 5) ≡ pure (v j))
    → read_at f (kind rs >>= k) p ≡ got b rest → Chosen f (length rs) v k p b rest
unfolding refuse read_at pure
chosen {A} {B} f rs v k p b rest x e =
    ⊎_elim (λ h. ⊎_elim (λ g. record { inside = h; known = g; then = sym (then-got f (kind rs) k p (v (get_or f p 0)) (p + 1) (kind-in f p rs h ∙ ap (λ (r : Reader A). r (drop (p + 1) f)) (x (get_or f p 0) g))) ∙ e })
    (λ g. absurd (refused-got (sym (then-refused f (kind rs) k p 5 (kind-in f p rs h ∙ ap (λ (r : Reader A). r (drop (p + 1) f)) (get_or-eq_default rs (refuse 5) g))) ∙ e)))
    (lt-or-le (get_or f p 0) (length rs)))
    (λ h. absurd (refused-got (sym (then-refused f (kind rs) k p 3 (kind-out f p rs h)) ∙ e)))
    (lt-or-le p (length f))

-- a name that was read: its bytes, as they stand
name-bytes : (f : List ℕ) (p : ℕ) (xs rest : List ℕ) → read_at f name p ≡ got xs rest → Counts f 1 (finds-byte f) p xs rest
unfolding name well_formed read_at pure refuse
name-bytes f p xs rest e =
    let w = bind_inv (several u8) well_formed (drop p f) xs rest e in
    go w.value w.after w.first (UTF8-octets w.value) w.then
  where
    go : (bytes after : List ℕ) → read_at f (several u8) p ≡ got bytes after → (t : Bool)
        → (elim t as (λ _. Reader (List ℕ)) [ true ↦ pure bytes | false ↦ refuse 6 ]) after ≡ got xs rest → Counts f 1 (finds-byte f) p xs rest
    go bytes after h true g = counts f 1 (finds-byte f) p xs rest fixed-u8 (h ∙ g)
    go bytes after h false g = absurd (refused-got g)

module _ (f ix : List ℕ) (x : Indexed f ix) where
  pub size-found : (s : ℕ) → s < 10 → get_or ix (base_of s) 0 ≡ size_of (tables_of f) s
  size-found zero h = x.names.count
  size-found (suc zero) h = x.types.count
  size-found (suc (suc zero)) h = x.predicates.count
  size-found (suc (suc (suc zero))) h = x.nodes.count
  size-found (suc (suc (suc (suc zero)))) h = x.bindings.count
  size-found (suc (suc (suc (suc (suc zero))))) h = x.hoisted.count
  size-found (suc (suc (suc (suc (suc (suc zero)))))) h = x.fetched.count
  size-found (suc (suc (suc (suc (suc (suc (suc zero))))))) h = x.constraints.count
  size-found (suc (suc (suc (suc (suc (suc (suc (suc zero)))))))) h = x.comparisons.count
  size-found (suc (suc (suc (suc (suc (suc (suc (suc (suc zero))))))))) h = x.levels.count
  size-found (suc (suc (suc (suc (suc (suc (suc (suc (suc (suc s)))))))))) h = absurd (omega arith)

-- record t of a section, which starts at p
pub stands_at : {A : Type 0} {f ix : List ℕ} {s : ℕ} {r : Reader A} {xs : List A} → Section f ix s r xs → (t p : ℕ) (d : A) → t < length xs → p ≡ get_or ix (base_of s + 1 + t) 0 → Stands f r p (get_or xs t d)
stands_at {A} {f} {ix} {s} {r} {xs} y t p d h e = subst (λ (q : ℕ). Stands f r q (get_or xs t d)) (sym e) (y.record-at t d h)

module _ (f ix : List ℕ) (x : Indexed f ix) (t p : ℕ) where
  -- names
  pub name-seen : (n : ℕ) → t < length (tables_of f).names → p ≡ get_or ix (base_of 0 + 1 + t) 0 → n ≡ get_or f p 0 → (p < length f) × SeenText f (name_at (tables_of f) t) (record { at = p + 1; len = n })
  unfolding name_at
  name-seen n h e k =
      let y = stands_at x.names t p [] h e in
      let c = name-bytes f p _ y.rest y.reads in
      (c.inside, record { is = ap (λ (j : ℕ). run (byte_at f) 1 j (p + 1)) k ∙ c.is; inside = omega (arith, c.room) })

  -- records of two numbers
  pub hoisted-here : t < length (tables_of f).hoisted → p ≡ get_or ix (base_of 5 + 1 + t) 0 → (p + 4 ≤ length f) × (◌≡◌ {A = File.Hoisted} (record { node = word f p; name = word f (p + 2) }) (hoisted_at (tables_of f) t))
  unfolding hoisted_at hoisted
  hoisted-here h e =
      let y = stands_at x.hoisted t p (record { node = 0; name = 0 }) h e in
      let m : p + 4 ≤ length f = needs-room f 4 p (omega arith) (needs-fixed 4 fixed-hoisted) y.reads in
      (m, value_of (two_in f p _ m) y.reads)

  pub constraint-here : t < length (tables_of f).constraints → p ≡ get_or ix (base_of 7 + 1 + t) 0 → (p + 4 ≤ length f) × (◌≡◌ {A = File.Constraint} (record { name = word f p; node = word f (p + 2) }) (constraint_at (tables_of f) t))
  unfolding constraint_at constraint
  constraint-here h e =
      let y = stands_at x.constraints t p (record { name = 0; node = 0 }) h e in
      let m : p + 4 ≤ length f = needs-room f 4 p (omega arith) (needs-fixed 4 fixed-constraint) y.reads in
      (m, value_of (two_in f p _ m) y.reads)

  pub level-here : t < length (tables_of f).levels → p ≡ get_or ix (base_of 9 + 1 + t) 0 → (p + 6 ≤ length f) × (◌≡◌ {A = File.LevelEntry} (record { predicate = word f p; node = word f (p + 2); address = word f (p + 4) }) (level_entry_at (tables_of f) t))
  unfolding level_entry_at level
  level-here h e =
      let y = stands_at x.levels t p (record { predicate = 0; node = 0; address = 0 }) h e in
      let m : p + 6 ≤ length f = needs-room f 6 p (omega arith) (needs-fixed 6 fixed-level) y.reads in
      (m, value_of (three-in f p _ m) y.reads)

  pub predicate-here : t < length (tables_of f).predicates → p ≡ get_or ix (base_of 2 + 1 + t) 0 → (p + 4 ≤ length f) × (◌≡◌ {A = File.Predicate} (record { key = word f p; value = or_none (word f (p + 2)) }) (predicate_at (tables_of f) t))
  unfolding predicate_at predicate read_at pure
  predicate-here h e =
      let y = stands_at x.predicates t p (record { key = 0; value = None }) h e in
      let m : p + 4 ≤ length f = needs-room f 4 p (omega arith) (needs-fixed 4 fixed-predicate) y.reads in
      (m, value_of (word-then f p _ (omega arith) ∙ then-got f optional _ (p + 2) _ (p + 2 + 2) (optional-in f (p + 2) (omega arith))) y.reads)

  -- a comparison: its op, then two numbers
  pub comparison-here : t < length (tables_of f).comparisons → p ≡ get_or ix (base_of 8 + 1 + t) 0
      → (p + 5 ≤ length f) × (get_or f p 0 < 4) × (◌≡◌ {A = File.Comparison} (record { op = op_of_number (get_or f p 0); left = word f (p + 1); right = word f (p + 3) }) (comparison_at (tables_of f) t))
  unfolding comparison_at comparison op
  comparison-here h e =
      let y = stands_at x.comparisons t p (record { op = File.CompareOp.Lt; left = 0; right = 0 }) h e in
      let c = chosen f op_readers op_of_number _ p _ y.rest op-known y.reads in
      let m : p + 1 + 4 ≤ length f = needs-room f 4 (p + 1) (omega arith) (needs-fixed 4 (fixed-bind 2 2 fixed-u16 (λ l. fixed-bind 2 0 fixed-u16 (λ r. fixed-pure _)))) c.then in
      let z : p + 1 + 2 ≡ p + 3 = omega arith in
      (omega arith, c.known, ap (λ (j : ℕ). record { op = op_of_number (get_or f p 0); left = word f (p + 1); right = word f j }) (sym z) ∙ value_of (two_in f (p + 1) _ m) c.then)

-- types
module _ (f ix : List ℕ) (x : Indexed f ix) (t p : ℕ) (h : t < length (tables_of f).types) (e : p ≡ get_or ix (base_of 1 + 1 + t) 0) where
  abbrev pub ty : Ty
  ty = type_at (tables_of f) t

  pub type_reads : Stands f type p ty
  unfolding type_at
  type_reads = stands_at x.types t p Ty.Int h e

  pub type-here : Kinded f type_readers p ty type_reads.rest
  unfolding type
  type-here = kind-found f type_readers p ty type_reads.rest type_reads.reads

  type-is : (k : ℕ) → get_or f p 0 ≡ k → read_at f (get_or type_readers k (refuse 5)) (p + 1) ≡ got ty type_reads.rest
  type-is k g = kind-is f type_readers p k ty type_reads.rest type-here g

  -- v shows type t, and is its view
  abbrev Shown : TypeView → Type 0
  Shown v = SeenType f ty v × (v ≡ type_view f (start_at ix 1 t))

  shown : (k : ℕ) (v : TypeView) → get_or f p 0 ≡ k → v ≡ get_or (type_views f p) k Tv.Int → v ≡ type_view f (start_at ix 1 t)
  unfolding type_view byte_at
  shown k v g q = q ∙ ap (λ (j : ℕ). get_or (type_views f p) j Tv.Int) (sym g) ∙ ap (type_view f) e

  pub seen-int : get_or f p 0 ≡ 0 → Shown Tv.Int
  unfolding read_at pure
  seen-int g = (record { is = value_of refl (type-is 0 g); inside = tt }, shown 0 _ g refl)

  pub seen-str : get_or f p 0 ≡ 1 → Shown Tv.Str
  unfolding read_at pure
  seen-str g = (record { is = value_of refl (type-is 1 g); inside = tt }, shown 1 _ g refl)

  pub seen_bytes : get_or f p 0 ≡ 2 → Shown Tv.Bytes
  unfolding read_at pure
  seen_bytes g = (record { is = value_of refl (type-is 2 g); inside = tt }, shown 2 _ g refl)

  pub fact-room : get_or f p 0 ≡ 3 → p + 1 + 2 ≤ length f
  unfolding fact_ty
  fact-room g = needs-room f 2 (p + 1) (omega arith) (needs-first 2 _ (needs-fixed 2 fixed-u16)) (type-is 3 g)

  pub seen-fact : (w : ℕ) → get_or f p 0 ≡ 3 → w ≡ word f (p + 1) → Shown (Tv.Fact (record { 0 = w }))
  unfolding fact_ty
  seen-fact w g k = (
    record { is = ap Ty.Fact k ∙ value_of (one_in f (p + 1) Ty.Fact (fact-room g)) (type-is 3 g); inside = tt },
    shown 3 _ g (ap (λ (j : ℕ). Tv.Fact (record { 0 = j })) k),
  )

  pub fields-here : get_or f p 0 ≡ 4 → Made f 4 (finds-field f) Ty.Record (p + 1) ty type_reads.rest
  unfolding record_ty
  fields-here g = several-made f 4 (finds-field f) Ty.Record (p + 1) ty type_reads.rest fixed-field_ty (type-is 4 g)

  pub alternatives-here : get_or f p 0 ≡ 5 → Made f 8 (finds-alternative f) Ty.Union (p + 1) ty type_reads.rest
  unfolding union_ty
  alternatives-here g = several-made f 8 (finds-alternative f) Ty.Union (p + 1) ty type_reads.rest fixed-alternative (type-is 5 g)

  pub seen-record : (n : ℕ) → get_or f p 0 ≡ 4 → n ≡ get_or f (p + 1) 0 → Shown (Tv.Record n (p + 2))
  unfolding byte_at
  seen-record n g k =
      let m = fields-here g in
      let z : p + 1 + 1 ≡ p + 2 = omega arith in
      (record { is = rw (k, ← z) m.is; inside = omega (arith, m.room, ap (λ (j : ℕ). 4 * j) k) }, shown 4 _ g (ap (λ (j : ℕ). Tv.Record j (p + 2)) k))

  pub seen-union : (n : ℕ) → get_or f p 0 ≡ 5 → n ≡ get_or f (p + 1) 0 → Shown (Tv.Union n (p + 2))
  unfolding byte_at
  seen-union n g k =
      let m = alternatives-here g in
      let z : p + 1 + 1 ≡ p + 2 = omega arith in
      (record { is = rw (k, ← z) m.is; inside = omega (arith, m.room, ap (λ (j : ℕ). 8 * j) k) }, shown 5 _ g (ap (λ (j : ℕ). Tv.Union j (p + 2)) k))

pub none_is : (n : ℕ) → n ≡ 65535 → None ≡ or_none n
unfolding or_none
none_is n h = sym (ap (λ (b : Bool). elim b as (λ _. Option ℕ) [ true ↦ None | false ↦ Some n ]) (eq-eqb _ _ h))

pub some_is : (n : ℕ) → (n ≡ 65535 → ⊥) → Some n ≡ or_none n
unfolding or_none
some_is n h = sym (ap (λ (b : Bool). elim b as (λ _. Option ℕ) [ true ↦ None | false ↦ Some n ]) (ne_eqb _ _ h))

-- the code's predicate by its number
pub no-predicate : (n : ℕ) → n ≡ 65535 → None ≡ predicate_maybe n
unfolding predicate_maybe
no-predicate n h = sym (ap (λ (b : Bool). elim b as (λ _. Option PredicateId) [ true ↦ None | false ↦ Some (record { 0 = n }) ]) (eq-eqb _ _ h))

pub a-predicate : (n : ℕ) → (n ≡ 65535 → ⊥) → Some (record { 0 = n }) ≡ predicate_maybe n
unfolding predicate_maybe
a-predicate n h = sym (ap (λ (b : Bool). elim b as (λ _. Option PredicateId) [ true ↦ None | false ↦ Some (record { 0 = n }) ]) (ne_eqb _ _ h))

pub predicate-option : (n : ℕ) → predicate_option (predicate_maybe n) ≡ or_none n
unfolding predicate_maybe or_none
predicate-option n = by (eqb n 65535)
  where
    by : (b : Bool) → predicate_option (elim b as (λ _. Option PredicateId) [ true ↦ None | false ↦ Some (record { 0 = n }) ]) ≡ (elim b as (λ _. Option ℕ) [ true ↦ None | false ↦ Some n ])
    by true = refl
    by false = refl

-- the view of a name
pub text-shown : (f : List ℕ) (p q n : ℕ) → p ≡ q → n ≡ get_or f p 0 → ◌≡◌ {A = TextView} (record { at = p + 1; len = n }) (text_view f q)
unfolding text_view byte_at
text-shown f p q n e k = ap (λ (j : ℕ). record { at = p + 1; len = j }) k ∙ ap (text_view f) e
