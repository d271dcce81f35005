-- A stored key, the value at a path of it, and what a narrowing says of it.
use Rattle.std.specs.Prelude.{Bool, true, false, List, [], ◌∷◌, ℕ, zero, suc, eqb, ltb, Option, None, Some}
use Rattle.rules.specs.Base.{both, either, ◌when_some◌ as ◌>>=◌}
use Rattle.rules.specs.File.{Anchor, CompareOp, Ty, FieldPath, record_ty}
use Rattle.rules.specs.Lookup.{same_steps}
use Rattle.rules.specs.Events.{Narrowing}
use Rattle.exact.specs.Values.{Value, Values, ◌and◌, encode, encode_all, encode_fact}

-- What the engine holds when it tries a key: "register contents and any fixed yes-or-no rule for fuzzy texts". A register has an address;
-- of the row in it, `fields` gives the bytes at a path and `row` the number of its fact. `fuzzy` is asked with the number of a name, a
-- distance, an anchor and a text.
pub record Engine : Type 0 where
  pub fields : ℕ → FieldPath → List ℕ
  pub row : ℕ → ℕ
  pub fuzzy : ℕ → ℕ → Anchor → List ℕ → Bool

-- the bytes of a key of that type, as they are stored: a record's fields stand one after another, with no mark before or after them
unfoldable pub stored : Ty → Value → List ℕ
stored ty (Value.Int bytes) = encode (Value.Int bytes)
stored ty (Value.Str text) = encode (Value.Str text)
stored ty (Value.Bytes bytes) = encode (Value.Bytes bytes)
stored ty (Value.Fact id) = encode (Value.Fact id)
stored ty (Value.Rec fields) = elim (record_ty ty) [ Some fs ↦ encode_all fields | None ↦ encode (Value.Rec fields) ]
stored ty (Value.Uni disc v) = encode (Value.Uni disc v)

-- field number i
unfoldable pub nth : Values → ℕ → Option Value
nth Values.no_more i = None
nth (v and vs) zero = Some v
nth (v and vs) (suc i) = nth vs i

-- one step of a path: a record's field, or what a union holds if it has that disc
unfoldable pub step : ℕ → Value → Option Value
step i (Value.Int bytes) = None
step i (Value.Str text) = None
step i (Value.Bytes bytes) = None
step i (Value.Fact id) = None
step i (Value.Rec fields) = nth fields i
step i (Value.Uni disc v) = elim (eqb disc i) [ true ↦ Some v | false ↦ None ]

unfoldable pub follow : List ℕ → Option Value → Option Value
follow [] found = found
follow (i ∷ steps) found = follow steps (found >>= step i)

-- where a path of a key starts: "at the field's index, or at 0 for a scalar or union key"
unfoldable pub start : Ty → Value → ℕ → Option Value
start ty key i = elim (record_ty ty) [ Some fs ↦ step i key | None ↦ elim (eqb i 0) [ true ↦ Some key | false ↦ None ] ]

-- the value at a path of a key of that type, if the key has the path
unfoldable pub value_at : Ty → Value → FieldPath → Option Value
value_at ty key path = follow path.steps (start ty key path.field)

-- two byte strings are the same; the first is the beginning of the second
abbrev pub same_bytes : List ℕ → List ℕ → Bool
same_bytes a b = same_steps a b

unfoldable pub begins : List ℕ → List ℕ → Bool
begins [] bytes = true
begins (a ∷ as') [] = false
begins (a ∷ as') (b ∷ bs) = both (eqb a b) (begins as' bs)

unfoldable pub has_disc : ℕ → Value → Bool
has_disc disc (Value.Int bytes) = false
has_disc disc (Value.Str text) = false
has_disc disc (Value.Bytes bytes) = false
has_disc disc (Value.Fact id) = false
has_disc disc (Value.Rec fields) = false
has_disc disc (Value.Uni d v) = eqb d disc

-- the text of a Str
unfoldable pub text_of : Value → Option (List ℕ)
text_of (Value.Int bytes) = None
text_of (Value.Str text) = Some text
text_of (Value.Bytes bytes) = None
text_of (Value.Fact id) = None
text_of (Value.Rec fields) = None
text_of (Value.Uni disc v) = None

-- a Str whose text passes
unfoldable pub text_passes : (List ℕ → Bool) → Value → Bool
text_passes p v = elim (text_of v) [ Some text ↦ p text | None ↦ false ]

-- the fuzzy rule
unfoldable pub near : Engine → ℕ → ℕ → Anchor → Value → Bool
near engine x distance anchor v = text_passes (engine.fuzzy x distance anchor) v

-- a value's bytes
unfoldable pub has_bytes : List ℕ → Value → Bool
has_bytes bytes v = same_bytes (encode v) bytes

-- the same bytes at another path of the key; "A residual at a path that the key lacks fails."
unfoldable pub same_as : Ty → Value → FieldPath → Value → Bool
same_as ty key path v = elim (value_at ty key path) [ Some w ↦ has_bytes (encode w) v | None ↦ false ]

-- what a narrowing says of the value at its path, in a key of that type
unfoldable pub says : Engine → Ty → Value → Narrowing → Value → Bool
says engine ty key (Narrowing.Bytes bytes) v = has_bytes bytes v
says engine ty key (Narrowing.Tag disc) v = has_disc disc v
says engine ty key (Narrowing.RegisterField address at) v = has_bytes (engine.fields address at) v
says engine ty key (Narrowing.FactId address) v = has_bytes (encode_fact (engine.row address)) v
says engine ty key (Narrowing.Prefix bytes) v = begins bytes (encode v)
says engine ty key (Narrowing.Fuzzy x distance anchor) v = near engine x distance anchor v
says engine ty key (Narrowing.OwnField at) v = same_as ty key at v

unfoldable pub holds : Engine → Ty → Value → FieldPath → Narrowing → Bool
holds engine ty key path op = elim (value_at ty key path) [ Some v ↦ says engine ty key op v | None ↦ false ]

-- byte strings in order: the first comes before the second
unfoldable pub less : List ℕ → List ℕ → Bool
less [] [] = false
less [] (b ∷ bs) = true
less (a ∷ as') [] = false
less (a ∷ as') (b ∷ bs) = elim (ltb a b) [ true ↦ true | false ↦ both (eqb a b) (less as' bs) ]

-- a comparison of byte strings
unfoldable pub ordered : CompareOp → List ℕ → List ℕ → Bool
ordered CompareOp.Lt a b = less a b
ordered CompareOp.Le a b = either (less a b) (same_bytes a b)
ordered CompareOp.Gt a b = less b a
ordered CompareOp.Ge a b = either (less b a) (same_bytes a b)

unfoldable pub open_keys : Unit {0}
unfolding stored nth step follow start value_at begins has_disc text_of text_passes near has_bytes same_as says holds less ordered
open_keys = tt
