-- An answer as four words for callers in C and Rust: its kind (0 exact, 1 none, 2 spent, 3 refused; 4 is for opening, specs/Sessions); the move, or the refusal's number; the bits of the value, or the line; the count.
-- Assumes nothing.
use Rattle.std.specs.Prelude.{Bool, true, false, List, [], ◌∷◌, ◌++◌, ℕ, ltb, length, drop}
pub use Rattle.whole.specs.Bits.{value_bits}
use Rattle.rules.specs.declared.Answer.{Answer}
use Rattle.rules.specs.declared.Answer.TheVariants.{Exact, None, Spent, Refused}
use Rattle.rules.specs.Answer.{refusal_number}
use Rattle.rules.specs.Call.{Request, call}

abbrev pub encoded : Answer → List ℕ
encoded (Exact t v n) = 0 ∷ t ∷ value_bits v ∷ n ∷ []
encoded None = 1 ∷ 0 ∷ 0 ∷ 0 ∷ []
encoded (Spent n) = 2 ∷ 0 ∷ 0 ∷ n ∷ []
encoded (Refused x l n) = 3 ∷ refusal_number x ∷ l ∷ n ∷ []

-- What the entry leaves: the words for the answer, the memo's words and the tags. With fewer than four words for the answer it leaves all as it was.

pub data Served : Type 0 where
  served : List ℕ → List ℕ → List ℕ → Served

abbrev pub serve : Request → List ℕ → Bool → Served
serve r out true = served out r.words r.tags
serve r out false = served (encoded (call r).answer ++ drop 4 out) (call r).words (call r).tags

abbrev pub entry_of : Request → List ℕ → Served
entry_of r out = serve r out (ltb (length out) 4)
