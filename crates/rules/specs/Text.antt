-- Text as bytes: the parts between two occurrences of a byte, and decimal numbers of any length (01, "The call").
-- Assumes nothing.
use Rattle.std.specs.Prelude.{Bool, false, cond, ◌&&◌, List, [], ◌∷◌, ℕ, zero, suc, ◌+◌, ◌-◌, ◌*◌, eqb, leb, ℤ, pos, negsuc}
use Rattle.std.proofs.Math.Option.{Option, none, some}
use Prim.Native.Char.{code}
use Prim.Native.String.{String, [] as []ˢ, ◌∷◌ as ◌∷ˢ◌}

-- the bytes of an ASCII text
abbrev pub bytes : String → List ℕ
bytes []ˢ = []
bytes (c ∷ˢ s) = code c ∷ bytes s

-- The parts of a text between the occurrences of a byte: one more than these.

abbrev pub grown : ℕ → List (List ℕ) → List (List ℕ)
grown x [] = []
grown x (part ∷ parts) = (x ∷ part) ∷ parts

unfoldable pub split : ℕ → List ℕ → List (List ℕ)
split b [] = [] ∷ []
split b (x ∷ l) = let rest = split b l in cond (eqb x b) ([] ∷ rest) (grown x rest)

-- Decimal numbers: `0`, or a digit other than 0 and digits; with `-` before a negative one.

abbrev pub digit : ℕ → Bool
digit c = leb 48 c && leb c 57

-- the number of the digits `l`, written behind those of `n`
unfoldable pub decimal : ℕ → List ℕ → Option ℕ
decimal n [] = some n
decimal n (c ∷ l) = let rest = decimal (n * 10 + (c - 48)) l in cond (digit c) rest none

-- whether a number is written with a needless zero in front: its digits are `c ∷ l`
abbrev pub padded : ℕ → List ℕ → Bool
padded c [] = false
padded c (d ∷ l) = eqb c 48

unfoldable pub natural : List ℕ → Option ℕ
natural [] = none
natural (c ∷ l) = cond (padded c l) none (decimal 0 (c ∷ l))

-- a number as it stands, and behind `-`

abbrev pub plain : Option ℕ → Option ℤ
plain none = none
plain (some n) = some (pos n)

abbrev pub negative : Option ℕ → Option ℤ
negative none = none
negative (some zero) = none
negative (some (suc n)) = some (negsuc n)

unfoldable pub number : List ℕ → Option ℤ
number [] = none
number (c ∷ l) = cond (eqb c 45) (negative (natural l)) (plain (natural (c ∷ l)))
