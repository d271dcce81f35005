-- Where a value's bytes end: `first_value` finds the value that stands first, whatever follows it but FF.
use mathlib.Core.Bool.{Bool, true, false}
use mathlib.Core.List.{List, [], ◌∷◌, ◌++◌, append_assoc, reverse}
use Rattle.std.specs.Prelude.{Option, Some}
use mathlib.Core.Path.{◌≡◌, refl, sym, ap, ◌∙◌, subst}
use Prim.Native.Nat.{ℕ, suc, ◌+◌, ◌-◌, ◌≤◌}
use native.Mathlib.Omega.{arith}
use lib.ListN.{length, take, drop, length-append, length-reverse}
use lib.Seq.{take-append_seam, drop-append_seam}
use lib.Dec.{eqb}
use Rattle.rules.specs.Base.{◌when_some◌}
use Rattle.rules.specs.Constant.{big_endian32, flip_sign, encode_int, escape, term, encode_prefix, encode_str, encode_bytes, encode_record, union_tag, encode_union}
use Rattle.rules.proofs.Cases.{by-test}
use Rattle.exact.specs.Values.{Value, Values, ◌and◌, big_endian64, encode_fact, encode, encode_all}
use Rattle.exact.specs.Passes.{text_end, ended, closed, marked, value_end, first_value}

-- what may follow a value: nothing, or a byte other than FF
abbrev pub Apart : List ℕ → Type 0
Apart [] = Unit {0}
Apart (b ∷ bs) = eqb b 255 ≡ false

-- every Int has eight bytes
abbrev mutual
  pub Whole : Value → Type 0
  Whole (Value.Int bytes) = length bytes ≡ 8
  Whole (Value.Str text) = Unit {0}
  Whole (Value.Bytes bytes) = Unit {0}
  Whole (Value.Fact id) = Unit {0}
  Whole (Value.Rec fields) = WholeAll fields
  Whole (Value.Uni disc v) = Whole v

  pub WholeAll : Values → Type 0
  WholeAll Values.no_more = Unit {0}
  WholeAll (v and vs) = Whole v × WholeAll vs

-- a value begins with its mark, which is not FF
pub apart-value : (v : Value) (r : List ℕ) → Apart (encode v ++ r)
unfolding encode encode_int encode_str encode_prefix encode_bytes encode_fact encode_record encode_union union_tag
apart-value (Value.Int bytes) r = refl
apart-value (Value.Str text) r = refl
apart-value (Value.Bytes bytes) r = refl
apart-value (Value.Fact id) r = refl
apart-value (Value.Rec fields) r = refl
apart-value (Value.Uni disc v) r = refl

pub apart-all : (vs : Values) (r : List ℕ) → Apart r → Apart (encode_all vs ++ r)
unfolding encode
apart-all Values.no_more r h = h
apart-all (v and vs) r h = subst Apart (sym (append_assoc (encode v) (encode_all vs) r)) (apart-value v (encode_all vs ++ r))

after-zero : (r : List ℕ) → Apart r → text_end true r ≡ Some r
unfolding text_end
after-zero [] h = refl
after-zero (b ∷ bs) h = ap (λ (t : Bool). elim t [ true ↦ text_end false bs | false ↦ Some (b ∷ bs) ]) h

text-ends : (s r : List ℕ) → Apart r → text_end false ((escape s ++ term) ++ r) ≡ Some r
unfolding text_end escape
text-ends [] r h = after-zero r h
text-ends (x ∷ s) r h =
    by-test (λ (l : List ℕ). text_end false ((l ++ term) ++ r) ≡ Some r) (eqb x 0)
    (λ e. text-ends s r h)
    (λ e. ap (λ t. text_end t ((escape s ++ term) ++ r)) e ∙ text-ends s r h)

pub flip-length : (bytes : List ℕ) → length (flip_sign bytes) ≡ length bytes
unfolding flip_sign
flip-length [] = refl
flip-length (b ∷ bs) = refl

int-drops : (bytes r : List ℕ) → length bytes ≡ 8 → drop 8 (flip_sign (reverse bytes) ++ r) ≡ r
int-drops bytes r h =
    subst (λ n. drop n (flip_sign (reverse bytes) ++ r) ≡ r) (flip-length (reverse bytes) ∙ length-reverse bytes ∙ h) (drop-append_seam (flip_sign (reverse bytes)) r)

-- how many marks a value has, the ends of records and unions among them
mutual
  marks : Value → ℕ
  marks (Value.Int bytes) = 1
  marks (Value.Str text) = 1
  marks (Value.Bytes bytes) = 1
  marks (Value.Fact id) = 1
  marks (Value.Rec fields) = suc (suc (marks_all fields))
  marks (Value.Uni disc v) = suc (suc (marks v))

  marks_all : Values → ℕ
  marks_all Values.no_more = 0
  marks_all (v and vs) = marks_all vs + marks v

-- each kind, of what stands in it
abbrev Ends : (marks : ℕ) (bytes : List ℕ) → Type 0
Ends marks bytes = (g f o : ℕ) (r : List ℕ) → g ≡ f + marks → Apart r → value_end g o (bytes ++ r) ≡ ended (value_end f) o r

-- one mark
once : (bytes : List ℕ) → ((f o : ℕ) (r : List ℕ) → Apart r → value_end (suc f) o (bytes ++ r) ≡ ended (value_end f) o r) → Ends 1 bytes
once bytes h g f o r e a = ap (λ n. value_end n o (bytes ++ r)) (omega arith) ∙ h f o r a

int-ends : (bytes : List ℕ) → length bytes ≡ 8 → Ends 1 (encode_int bytes)
unfolding value_end marked encode_int
int-ends bytes w = once (2 ∷ flip_sign (reverse bytes)) (λ f o r h. ap (ended (value_end f) o) (int-drops bytes r w))

str-ends : (text : List ℕ) → Ends 1 (encode_str text)
unfolding value_end marked encode_str encode_prefix ◌when_some◌
str-ends text = once (3 ∷ (escape text ++ term)) (λ f o r h. ap (λ (x : Option (List ℕ)). x when_some ended (value_end f) o) (text-ends text r h))

bytes-ends : (bytes : List ℕ) → Ends 1 (encode_bytes bytes)
unfolding value_end marked encode_bytes ◌when_some◌
bytes-ends bytes = once (4 ∷ (escape bytes ++ term)) (λ f o r h. ap (λ (x : Option (List ℕ)). x when_some ended (value_end f) o) (text-ends bytes r h))

fact-ends : (id : ℕ) → Ends 1 (encode_fact id)
unfolding value_end marked encode_fact big_endian64
fact-ends id = once (1 ∷ big_endian64 id) (λ f o r h. refl)

-- values up to the 00 behind them
abbrev AllEnd : (marks : ℕ) (bytes : List ℕ) → Type 0
AllEnd marks bytes = (g f o : ℕ) (r : List ℕ) → g ≡ f + marks → value_end g (suc o) (bytes ++ (0 ∷ r)) ≡ value_end f (suc o) (0 ∷ r)

record-ends : (m : ℕ) (bytes : List ℕ) → AllEnd m bytes → Ends (suc (suc m)) (encode_record bytes)
unfolding value_end marked closed encode_record
record-ends m bytes a g f o r e h =
    let again : g ≡ suc (suc f + m) = omega arith in
    ap (λ n. value_end n o (6 ∷ ((bytes ++ term) ++ r))) again
    ∙ ap (value_end (suc f + m) (suc o)) (append_assoc bytes term r)
    ∙ a (suc f + m) (suc f) o r refl

union-ends : (m disc : ℕ) (bytes : List ℕ) → Ends m bytes → Ends (suc (suc m)) (encode_union disc bytes)
unfolding value_end marked closed ended encode_union union_tag big_endian32
union-ends m disc bytes a g f o r e h =
    let again : g ≡ suc (suc f + m) = omega arith in
    ap (λ n. value_end n o (encode_union disc bytes ++ r)) again
    ∙ ap (value_end (suc f + m) (suc o)) (append_assoc bytes term r)
    ∙ a (suc f + m) (suc f) (suc o) (0 ∷ r) refl refl

none_end : AllEnd 0 []
none_end g f o r e = ap (λ n. value_end n (suc o) (0 ∷ r)) (omega arith)

more-end : (m k : ℕ) (bytes rest : List ℕ) → Ends m bytes → AllEnd k rest → ((r : List ℕ) → Apart (rest ++ (0 ∷ r))) → AllEnd (k + m) (bytes ++ rest)
unfolding ended
more-end m k bytes rest a b h g f o r e =
    ap (value_end g (suc o)) (append_assoc bytes rest (0 ∷ r))
    ∙ a g (f + k) (suc o) (rest ++ (0 ∷ r)) (omega arith) (h r)
    ∙ b (f + k) f o r refl

mutual
  unfolding marks encode

  value-ends : (v : Value) → Whole v → Ends (marks v) (encode v)
  value-ends (Value.Int bytes) w = int-ends bytes w
  value-ends (Value.Str text) w = str-ends text
  value-ends (Value.Bytes bytes) w = bytes-ends bytes
  value-ends (Value.Fact id) w = fact-ends id
  value-ends (Value.Rec fields) w = record-ends (marks_all fields) (encode_all fields) (values-end fields w)
  value-ends (Value.Uni disc v) w = union-ends (marks v) disc (encode v) (value-ends v w)

  values-end : (vs : Values) → WholeAll vs → AllEnd (marks_all vs) (encode_all vs)
  values-end Values.no_more w = none_end
  values-end (v and vs) w =
      more-end (marks v) (marks_all vs) (encode v) (encode_all vs) (value-ends v w.0) (values-end vs w.1) (λ r. apart-all vs (0 ∷ r) refl)

-- a mark is a byte
union-marks : (m disc : ℕ) (bytes : List ℕ) → m ≤ length bytes → suc (suc m) ≤ length (encode_union disc bytes)
unfolding encode_union union_tag big_endian32
union-marks m disc bytes h = omega (arith, h, length-append bytes term)

record-marks : (m : ℕ) (bytes : List ℕ) → m ≤ length bytes → suc (suc m) ≤ length (encode_record bytes)
unfolding encode_record
record-marks m bytes h = omega (arith, h, length-append bytes term)

leaf-marks : (mark : ℕ) (bytes : List ℕ) → 1 ≤ length (mark ∷ bytes)
leaf-marks mark bytes = omega arith

more-marks : (m k : ℕ) (bytes rest : List ℕ) → m ≤ length bytes → k ≤ length rest → k + m ≤ length (bytes ++ rest)
more-marks m k bytes rest g h = omega (arith, g, h, length-append bytes rest)

mutual
  unfolding marks encode encode_int encode_str encode_prefix encode_bytes encode_fact

  value-marks : (v : Value) → marks v ≤ length (encode v)
  value-marks (Value.Int bytes) = leaf-marks 2 (flip_sign (reverse bytes))
  value-marks (Value.Str text) = leaf-marks 3 (escape text ++ term)
  value-marks (Value.Bytes bytes) = leaf-marks 4 (escape bytes ++ term)
  value-marks (Value.Fact id) = leaf-marks 1 (big_endian64 id)
  value-marks (Value.Rec fields) = record-marks (marks_all fields) (encode_all fields) (values-marks fields)
  value-marks (Value.Uni disc v) = union-marks (marks v) disc (encode v) (value-marks v)

  values-marks : (vs : Values) → marks_all vs ≤ length (encode_all vs)
  values-marks Values.no_more = omega arith
  values-marks (v and vs) = more-marks (marks v) (marks_all vs) (encode v) (encode_all vs) (value-marks v) (values-marks vs)

pub first-value : (v : Value) (r : List ℕ) → Whole v → Apart r → first_value (encode v ++ r) ≡ Some (encode v)
unfolding first_value ◌when_some◌ ended
first-value v r w h =
    let n : ℕ = length (encode v ++ r) in
    let l = length-append (encode v) r in
    let enough : length (encode v ++ r) ≡ length (encode v ++ r) - marks v + marks v = omega (arith, l, value-marks v) in
    let left : length (encode v ++ r) - length r ≡ length (encode v) = omega (arith, l) in
    ap (λ (e : Option (List ℕ)). e when_some λ rest. Some (take (length (encode v ++ r) - length rest) (encode v ++ r)))
    (value-ends v w (length (encode v ++ r)) (length (encode v ++ r) - marks v) 0 r enough h)
    ∙ ap (λ k. Some (take k (encode v ++ r))) left
    ∙ ap Some (take-append_seam (encode v) r)
