-- A stored list of answers (docs/ORACLE.md): a text's lines, of which those that are empty or begin with `#` are comments. What it is for
-- a line to agree is a list's own.
use Rattle.std.specs.Prelude.{Bool, true, false, List, [], ◌∷◌, ◌++◌, length, take, slice_index, ℕ, ◌+◌, ◌-◌, eqb, codes}
use Rattle.std.specs.Fmt.{decimal}
use Rattle.rules.specs.Base.{both}
use Rattle.tally.specs.declared.Tally.{Tally}

-- characters that tell lines and their parts apart
abbrev pub newline : ℕ
newline = 10

abbrev pub space : ℕ
space = 32

abbrev pub hash : ℕ
hash = 35

-- the largest number that the code's counts hold
abbrev pub count_limit : ℕ
count_limit = 18446744073709551615

unfoldable pub same : List ℕ → List ℕ → Bool
same [] [] = true
same [] (y ∷ ys) = false
same (x ∷ xs) [] = false
same (x ∷ xs) (y ∷ ys) = both (eqb x y) (same xs ys)

-- a line without the newline at its end, where it has one
unfoldable pub content : List ℕ → List ℕ
content l = elim (eqb (slice_index l (length l - 1)) newline) [ true ↦ take (length l - 1) l | false ↦ l ]

-- an empty line, or one that begins with `#`
unfoldable pub skipped : List ℕ → Bool
skipped [] = true
skipped (x ∷ xs) = eqb x hash

-- one answer more, which agrees or not
unfoldable pub added : Bool → Tally → Tally
added true t = record { compared = t.compared + 1; different = t.different }
added false t = record { compared = t.compared + 1; different = t.different + 1 }

unfoldable pub counted : (List ℕ → Bool) → List ℕ → Tally → Tally
counted agrees l t = elim (skipped l) [ true ↦ t | false ↦ added (agrees l) t ]

unfoldable pub joined : ℕ → List (List ℕ) → List (List ℕ)
joined x [] = (x ∷ []) ∷ []
joined x (l ∷ ls) = (x ∷ l) ∷ ls

-- the text's lines
unfoldable pub split : List ℕ → List (List ℕ)
split [] = [] ∷ []
split (x ∷ xs) = elim (eqb x newline) [ true ↦ [] ∷ split xs | false ↦ joined x (split xs) ]

unfoldable pub tallied : (List ℕ → Bool) → List (List ℕ) → Tally → Tally
tallied agrees [] t = t
tallied agrees (l ∷ ls) t = tallied agrees ls (counted agrees l t)

-- nothing compared yet
abbrev pub none : Tally
none = record { compared = 0; different = 0 }

-- what a program prints of a tally
abbrev pub words : Tally → List ℕ
words t = decimal t.compared ++ codes " compared, " ++ decimal t.different ++ codes " different"
