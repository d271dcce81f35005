-- What a level of a plan asks of a key: "parts, range, edges, guide and residuals".
use Rattle.std.specs.Prelude.{Bool, true, false, List, [], ◌∷◌, ◌++◌, ℕ, zero, suc, ◌-◌, length, take, drop, eqb, leb, Option, None, Some}
use Rattle.rules.specs.Base.{both, ◌when_some◌ as ◌>>=◌, all, concat_map}
use Rattle.rules.specs.File.{CompareOp, Ty}
use Rattle.rules.specs.Events.{Narrowing}
use Rattle.rules.specs.Placement.{SeekKeyPart, Part, Guide, RangeEdge, SeekKey}
use Rattle.rules.specs.Plan.{PlanLevel}
use Rattle.exact.specs.Values.{Value, encode_fact}
use Rattle.exact.specs.Keys.{Engine, stored, begins, holds, ordered}

-- the bytes of the parts, one after another
unfoldable pub part_bytes : Engine → SeekKeyPart → List ℕ
part_bytes engine (SeekKeyPart.Bytes bytes) = bytes
part_bytes engine (SeekKeyPart.RegisterField address at) = engine.fields address at
part_bytes engine (SeekKeyPart.RegisterFactId address) = encode_fact (engine.row address)

unfoldable pub parts_bytes : Engine → List Part → List ℕ
parts_bytes engine parts = concat_map (λ p. part_bytes engine p.key) parts

-- "the one value that follows the parts": where a value's bytes end.

-- what stands after a text: past its first 00 that no FF follows. The first argument tells whether the byte before was such a 00.
unfoldable pub text_end : Bool → List ℕ → Option (List ℕ)
text_end false [] = None
text_end true [] = Some []
text_end false (b ∷ bs) = text_end (eqb b 0) bs
text_end true (b ∷ bs) = elim (eqb b 255) [ true ↦ text_end false bs | false ↦ Some (b ∷ bs) ]

-- a value ended, `open` records and unions around it have not: the whole value ends here, or others go on
unfoldable pub ended : (ℕ → List ℕ → Option (List ℕ)) → ℕ → List ℕ → Option (List ℕ)
ended onward zero rest = Some rest
ended onward (suc around) rest = onward (suc around) rest

-- a 00 ends the innermost record or union
unfoldable pub closed : (ℕ → List ℕ → Option (List ℕ)) → ℕ → List ℕ → Option (List ℕ)
closed onward zero rest = None
closed onward (suc around) rest = ended onward around rest

-- by a value's first byte: 00 ends a record or union, 01 is a fact, 02 an Int, 03 a text, 04 a byte string, 05 a union, 06 a record
unfoldable pub marked : (ℕ → List ℕ → Option (List ℕ)) → ℕ → ℕ → List ℕ → Option (List ℕ)
marked onward around mark rest =
    elim (eqb mark 0) [
      | true ↦ closed onward around rest
      | false ↦ elim (leb mark 2) [
        | true ↦ ended onward around (drop 8 rest)
        | false ↦ elim (leb mark 4) [
          | true ↦ text_end false rest >>= ended onward around
          | false ↦ elim (leb mark 5) [
            | true ↦ onward (suc around) (drop 4 rest)
            | false ↦ onward (suc around) rest
          ]
        ]
      ]
    ]

-- what stands after one value; the first argument is how many marks may be met, the second how many records and unions are open
unfoldable pub value_end : ℕ → ℕ → List ℕ → Option (List ℕ)
value_end zero around bytes = None
value_end (suc limit) around [] = None
value_end (suc limit) around (mark ∷ rest) = marked (value_end limit) around mark rest

-- the bytes of the value that stands first
unfoldable pub first_value : List ℕ → Option (List ℕ)
first_value bytes = do
  rest ← value_end (length bytes) 0 bytes
  Some (take (length bytes - length rest) bytes)

-- "an edge compares with the encoded bytes of the one value that follows the parts"
unfoldable pub above : Option RangeEdge → List ℕ → Bool
above None value = true
above (Some lo) value = ordered (elim lo.inclusive [ true ↦ CompareOp.Ge | false ↦ CompareOp.Gt ]) value lo.value

unfoldable pub under : Option RangeEdge → List ℕ → Bool
under None value = true
under (Some hi) value = ordered (elim hi.inclusive [ true ↦ CompareOp.Le | false ↦ CompareOp.Lt ]) value hi.value

unfoldable pub within : Option RangeEdge → Option RangeEdge → Option (List ℕ) → Bool
within lo hi None = false
within lo hi (Some value) = both (above lo value) (under hi value)

-- what a seek asks of the stored bytes: they begin with the parts, and with what follows them
unfoldable pub seeks : Engine → SeekKey → List ℕ → Bool
seeks engine (SeekKey.Prefix bytes nodes) key = begins bytes key
seeks engine (SeekKey.Composite parts) key = begins (parts_bytes engine parts) key
seeks engine (SeekKey.PrefixRange parts range) key = begins (parts_bytes engine parts ++ range.prefix) key
seeks engine (SeekKey.Bounded parts lo hi) key =
    both (begins (parts_bytes engine parts) key) (within lo hi (first_value (drop (length (parts_bytes engine parts)) key)))

unfoldable pub guides : Engine → Ty → Value → Option Guide → Bool
guides engine ty key None = true
guides engine ty key (Some g) = holds engine ty key g.path (Narrowing.Fuzzy g.term g.distance g.anchor)

-- a level of a plan, and a key of the level's key type
unfoldable pub passes : Engine → Ty → PlanLevel → Value → Bool
passes engine ty l key =
    both (seeks engine l.seek (stored ty key))
    (both (guides engine ty key l.guide) (all (λ r. holds engine ty key r.path r.op) l.residuals))

unfoldable pub open_passes : Unit {0}
unfolding part_bytes parts_bytes text_end ended closed marked value_end first_value above under within seeks guides passes
open_passes = tt
