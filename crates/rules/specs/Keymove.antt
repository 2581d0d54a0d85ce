-- Program `keymove` (01, "Positions with known keys"): its settings, and what it prints of a sheet.
-- Assumes nothing.
use Rattle.std.specs.Prelude.{List, [], ◌∷◌, ℕ, replicate}
use Rattle.rules.specs.Answer.{report}
use Rattle.rules.specs.Call.{Request, asked, call}

-- budget 1,000, memo 1,024, scout, must-win, chain 0 1 2; memory enough for every net
abbrev pub keymove_request : List ℕ → Request
keymove_request sheet = asked sheet 1000 1024 1 1 (0 ∷ 1 ∷ 2 ∷ []) (replicate 7168 0) (replicate 1024 0)

abbrev pub keymove : List ℕ → List ℕ
keymove sheet = report (call (keymove_request sheet)).answer
