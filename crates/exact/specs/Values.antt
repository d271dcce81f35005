-- The values of keys, and their bytes.
use Rattle.std.specs.Prelude.{Bool, true, false, List, [], ◌∷◌, ◌++◌, ◌≡◌, ℕ, ◌/◌, ◌%◌, ◌<◌, length, eqb, Some}
use Rattle.rules.specs.Base.{Each, both, all, first}
use Rattle.rules.specs.File.{Tables, FieldTy, Alternative, Ty, type_at}
use Rattle.rules.specs.Constant.{encode_int, encode_str, encode_bytes, encode_record, encode_union}
use Rattle.rules.specs.Demand1.{Byte}

-- An Int is its eight bytes, the lowest first, as in a rule file; a text or byte string is its bytes; a Fact is the number of the fact it
-- refers to; a record is its fields in type order; a union is a disc and the value under it.
mutual
  pub data Value : Type 0 where
    Int : List ℕ → Value
    Str : List ℕ → Value
    Bytes : List ℕ → Value
    Fact : ℕ → Value
    Rec : Values → Value
    Uni : ℕ → Value → Value

  pub data Values : Type 0 where
    no_more : Values
    ◌and◌ : Value → Values → Values

infixr 5 ◌and◌
-- a number's eight bytes, the highest first
unfoldable pub big_endian64 : ℕ → List ℕ
big_endian64 n =
    n / 72057594037927936 % 256 ∷ n / 281474976710656 % 256 ∷ n / 1099511627776 % 256 ∷ n / 4294967296 % 256 ∷
    n / 16777216 % 256 ∷ n / 65536 % 256 ∷ n / 256 % 256 ∷ n % 256 ∷ []

-- "A fact reference in a key is written here as 01 hex and eight bytes big-endian, this ticket's own choice"
unfoldable pub encode_fact : ℕ → List ℕ
encode_fact id = 0x01 ∷ big_endian64 id

-- a value's bytes: 01's encoding, as `constant` writes it
unfoldable mutual
  pub encode : Value → List ℕ
  encode (Value.Int bytes) = encode_int bytes
  encode (Value.Str text) = encode_str text
  encode (Value.Bytes bytes) = encode_bytes bytes
  encode (Value.Fact id) = encode_fact id
  encode (Value.Rec fields) = encode_record (encode_all fields)
  encode (Value.Uni disc v) = encode_union disc (encode v)

  pub encode_all : Values → List ℕ
  encode_all Values.no_more = []
  encode_all (v and vs) = encode v ++ encode_all vs

-- "no zero byte in its texts and byte strings"
unfoldable pub no_zero : List ℕ → Bool
no_zero bytes = all (λ b. elim (eqb b 0) [ true ↦ false | false ↦ true ]) bytes

unfoldable mutual
  pub zero_free : Value → Bool
  zero_free (Value.Int bytes) = true
  zero_free (Value.Str text) = no_zero text
  zero_free (Value.Bytes bytes) = no_zero bytes
  zero_free (Value.Fact id) = true
  zero_free (Value.Rec fields) = all_zero_free fields
  zero_free (Value.Uni disc v) = zero_free v

  pub all_zero_free : Values → Bool
  all_zero_free Values.no_more = true
  all_zero_free (v and vs) = both (zero_free v) (all_zero_free vs)

-- Values of a type. A union's value has the disc of one of its alternatives, and under it a value of that alternative's type; refusal 10
-- lets no disc stand twice.
abbrev mutual
  pub OfType : Tables → Value → Ty → Type 0
  OfType T (Value.Int bytes) ty = (ty ≡ Ty.Int) × (length bytes ≡ 8) × Each Byte bytes
  OfType T (Value.Str text) ty = (ty ≡ Ty.Str) × Each Byte text
  OfType T (Value.Bytes bytes) ty = (ty ≡ Ty.Bytes) × Each Byte bytes
  OfType T (Value.Fact id) ty = (p : ℕ) × (ty ≡ Ty.Fact p) × (id < 18446744073709551616)
  OfType T (Value.Rec fields) ty = (fs : List FieldTy) × (ty ≡ Ty.Record fs) × OfTypes T fields fs
  OfType T (Value.Uni disc v) ty =
      (alts : List Alternative) × (alt : Alternative) × (ty ≡ Ty.Union alts) × (first (λ a. eqb a.disc disc) alts ≡ Some alt) ×
      OfType T v (type_at T alt.type)

  pub OfTypes : Tables → Values → List FieldTy → Type 0
  OfTypes T Values.no_more [] = Unit {0}
  OfTypes T Values.no_more (f ∷ fs) = ⊥
  OfTypes T (v and vs) [] = ⊥
  OfTypes T (v and vs) (f ∷ fs) = OfType T v (type_at T f.type) × OfTypes T vs fs

unfoldable pub open_values : Unit {0}
unfolding big_endian64 encode_fact encode no_zero zero_free
open_values = tt
