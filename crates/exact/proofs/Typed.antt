-- Values by their type, and Ints by their bytes.
use mathlib.Core.List.{List, [], ◌∷◌, reverse, reverse-cons, reverse-reverse}
use Rattle.std.specs.Prelude.{Some}
use mathlib.Core.Path.{◌≡◌, refl, sym, ap, ◌∙◌, subst}
use Prim.Native.Nat.{ℕ, ◌+◌, ◌%◌}
use native.Mathlib.Omega.{arith}
use lib.ListN.{length}
use lib.Dec.{eqb}
use Rattle.rules.specs.Base.{Each, done, more, first}
use Rattle.rules.specs.File.{Tables, FieldTy, Alternative, Ty, type_at}
use Rattle.rules.specs.Constant.{Const, at_int, at_str, at_bytes, flip_sign, encode_int}
use Rattle.rules.specs.Demand1.{Byte}
use Rattle.rules.proofs.Cases.{some≢none}
use Rattle.rules.proofs.Each.{each_snoc}
use Rattle.exact.specs.Values.{Value, Values, OfType, OfTypes}
use Rattle.exact.proofs.Unique.{heads, tails}

-- types of one kind each
kind : Ty → ℕ
kind Ty.Int = 0
kind Ty.Str = 1
kind Ty.Bytes = 2
kind (Ty.Fact p) = 3
kind (Ty.Record fs) = 4
kind (Ty.Union alts) = 5

-- a constant fits its own type
pub int-type : (ty : Ty) (c d : Const) → at_int ty c ≡ Some d → ty ≡ Ty.Int
unfolding at_int
int-type Ty.Int c d e = refl
int-type Ty.Str c d e = absurd (some≢none d (sym e))
int-type Ty.Bytes c d e = absurd (some≢none d (sym e))
int-type (Ty.Fact p) c d e = absurd (some≢none d (sym e))
int-type (Ty.Record fs) c d e = absurd (some≢none d (sym e))
int-type (Ty.Union alts) c d e = absurd (some≢none d (sym e))

pub str-type : (ty : Ty) (c d : Const) → at_str ty c ≡ Some d → ty ≡ Ty.Str
unfolding at_str
str-type Ty.Int c d e = absurd (some≢none d (sym e))
str-type Ty.Str c d e = refl
str-type Ty.Bytes c d e = absurd (some≢none d (sym e))
str-type (Ty.Fact p) c d e = absurd (some≢none d (sym e))
str-type (Ty.Record fs) c d e = absurd (some≢none d (sym e))
str-type (Ty.Union alts) c d e = absurd (some≢none d (sym e))

pub bytes-type : (ty : Ty) (c d : Const) → at_bytes ty c ≡ Some d → ty ≡ Ty.Bytes
unfolding at_bytes
bytes-type Ty.Int c d e = absurd (some≢none d (sym e))
bytes-type Ty.Str c d e = absurd (some≢none d (sym e))
bytes-type Ty.Bytes c d e = refl
bytes-type (Ty.Fact p) c d e = absurd (some≢none d (sym e))
bytes-type (Ty.Record fs) c d e = absurd (some≢none d (sym e))
bytes-type (Ty.Union alts) c d e = absurd (some≢none d (sym e))

module _ (T : Tables) where
  pub of-int : (v : Value) (ty : Ty) → OfType T v ty → ty ≡ Ty.Int → (own : List ℕ) × (v ≡ Value.Int own) × (length own ≡ 8) × Each Byte own
  unfolding kind
  of-int (Value.Int bytes) ty h e = (bytes, refl, h.1, h.2)
  of-int (Value.Str text) ty h e = absurd (omega (arith, ap kind (sym h.0 ∙ e)))
  of-int (Value.Bytes bytes) ty h e = absurd (omega (arith, ap kind (sym h.0 ∙ e)))
  of-int (Value.Fact id) ty h e = absurd (omega (arith, ap kind (sym h.1 ∙ e)))
  of-int (Value.Rec fields) ty h e = absurd (omega (arith, ap kind (sym h.1 ∙ e)))
  of-int (Value.Uni disc v) ty h e = absurd (omega (arith, ap kind (sym h.2 ∙ e)))

  pub of-str : (v : Value) (ty : Ty) → OfType T v ty → ty ≡ Ty.Str → (own : List ℕ) × (v ≡ Value.Str own)
  unfolding kind
  of-str (Value.Int bytes) ty h e = absurd (omega (arith, ap kind (sym h.0 ∙ e)))
  of-str (Value.Str text) ty h e = (text, refl)
  of-str (Value.Bytes bytes) ty h e = absurd (omega (arith, ap kind (sym h.0 ∙ e)))
  of-str (Value.Fact id) ty h e = absurd (omega (arith, ap kind (sym h.1 ∙ e)))
  of-str (Value.Rec fields) ty h e = absurd (omega (arith, ap kind (sym h.1 ∙ e)))
  of-str (Value.Uni disc v) ty h e = absurd (omega (arith, ap kind (sym h.2 ∙ e)))

  pub of-bytes : (v : Value) (ty : Ty) → OfType T v ty → ty ≡ Ty.Bytes → (own : List ℕ) × (v ≡ Value.Bytes own)
  unfolding kind
  of-bytes (Value.Int bytes) ty h e = absurd (omega (arith, ap kind (sym h.0 ∙ e)))
  of-bytes (Value.Str text) ty h e = absurd (omega (arith, ap kind (sym h.0 ∙ e)))
  of-bytes (Value.Bytes bytes) ty h e = (bytes, refl)
  of-bytes (Value.Fact id) ty h e = absurd (omega (arith, ap kind (sym h.1 ∙ e)))
  of-bytes (Value.Rec fields) ty h e = absurd (omega (arith, ap kind (sym h.1 ∙ e)))
  of-bytes (Value.Uni disc v) ty h e = absurd (omega (arith, ap kind (sym h.2 ∙ e)))

  pub of-fact : (v : Value) (ty : Ty) (p : ℕ) → OfType T v ty → ty ≡ Ty.Fact p → (id : ℕ) × (v ≡ Value.Fact id)
  unfolding kind
  of-fact (Value.Int bytes) ty p h e = absurd (omega (arith, ap kind (sym h.0 ∙ e)))
  of-fact (Value.Str text) ty p h e = absurd (omega (arith, ap kind (sym h.0 ∙ e)))
  of-fact (Value.Bytes bytes) ty p h e = absurd (omega (arith, ap kind (sym h.0 ∙ e)))
  of-fact (Value.Fact id) ty p h e = (id, refl)
  of-fact (Value.Rec fields) ty p h e = absurd (omega (arith, ap kind (sym h.1 ∙ e)))
  of-fact (Value.Uni disc v) ty p h e = absurd (omega (arith, ap kind (sym h.2 ∙ e)))

  fields_in : Ty → List FieldTy
  fields_in Ty.Int = []
  fields_in Ty.Str = []
  fields_in Ty.Bytes = []
  fields_in (Ty.Fact p) = []
  fields_in (Ty.Record fs) = fs
  fields_in (Ty.Union alts) = []

  alts_in : Ty → List Alternative
  alts_in Ty.Int = []
  alts_in Ty.Str = []
  alts_in Ty.Bytes = []
  alts_in (Ty.Fact p) = []
  alts_in (Ty.Record fs) = []
  alts_in (Ty.Union alts) = alts

  pub of-record : (v : Value) (ty : Ty) (fs : List FieldTy) → OfType T v ty → ty ≡ Ty.Record fs → (vs : Values) × (v ≡ Value.Rec vs) × OfTypes T vs fs
  unfolding kind fields_in
  of-record (Value.Int bytes) ty fs h e = absurd (omega (arith, ap kind (sym h.0 ∙ e)))
  of-record (Value.Str text) ty fs h e = absurd (omega (arith, ap kind (sym h.0 ∙ e)))
  of-record (Value.Bytes bytes) ty fs h e = absurd (omega (arith, ap kind (sym h.0 ∙ e)))
  of-record (Value.Fact id) ty fs h e = absurd (omega (arith, ap kind (sym h.1 ∙ e)))
  of-record (Value.Rec fields) ty fs h e = (fields, refl, subst (OfTypes T fields) (ap fields_in (sym h.1 ∙ e)) h.2)
  of-record (Value.Uni disc v) ty fs h e = absurd (omega (arith, ap kind (sym h.2 ∙ e)))

  pub of-union : (v : Value) (ty : Ty) (alts : List Alternative) → OfType T v ty → ty ≡ Ty.Union alts
      → (disc : ℕ) × (w : Value) × (alt : Alternative) × (v ≡ Value.Uni disc w) × (first (λ a. eqb a.disc disc) alts ≡ Some alt) × OfType T w (type_at T alt.type)
  unfolding kind alts_in
  of-union (Value.Int bytes) ty alts h e = absurd (omega (arith, ap kind (sym h.0 ∙ e)))
  of-union (Value.Str text) ty alts h e = absurd (omega (arith, ap kind (sym h.0 ∙ e)))
  of-union (Value.Bytes bytes) ty alts h e = absurd (omega (arith, ap kind (sym h.0 ∙ e)))
  of-union (Value.Fact id) ty alts h e = absurd (omega (arith, ap kind (sym h.1 ∙ e)))
  of-union (Value.Rec fields) ty alts h e = absurd (omega (arith, ap kind (sym h.1 ∙ e)))
  of-union (Value.Uni disc v) ty alts h e = (disc, v, h.1, refl, ap (λ (as' : List Alternative). first (λ a. eqb a.disc disc) as') (sym (ap alts_in (sym h.2 ∙ e))) ∙ h.3, h.4)

-- an Int's bytes by its encoding
pub each-reverse : (bytes : List ℕ) → Each Byte bytes → Each Byte (reverse bytes)
each-reverse [] done = done
each-reverse (b ∷ bs) (more h hs) = subst (Each Byte) (sym (reverse-cons b bs)) (each_snoc (each-reverse bs hs) h)

flips-same : (a b : List ℕ) → Each Byte a → Each Byte b → flip_sign a ≡ flip_sign b → a ≡ b
unfolding flip_sign
flips-same [] [] h k e = refl
flips-same [] (y ∷ b) h k e = absurd (omega (arith, ap length e))
flips-same (x ∷ a) [] h k e = absurd (omega (arith, ap length e))
flips-same (x ∷ a) (y ∷ b) (more h hs) (more k ks) e =
    let same : x ≡ y = omega (arith, h, k, heads ((x + 128) % 256) ((y + 128) % 256) a b e) in
    λ i. same i ∷ tails ((x + 128) % 256) ((y + 128) % 256) a b e i

pub int_same : (a b : List ℕ) → Each Byte a → Each Byte b → encode_int a ≡ encode_int b → a ≡ b
unfolding encode_int
int_same a b h k e =
    sym (reverse-reverse a) ∙ ap reverse (flips-same (reverse a) (reverse b) (each-reverse a h) (each-reverse b k) (tails 2 2 (flip_sign (reverse a)) (flip_sign (reverse b)) e)) ∙ reverse-reverse b
