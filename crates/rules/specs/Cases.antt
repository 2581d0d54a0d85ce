-- The cases that 01 marks with † as inputs (01, "Positions with known keys"): its two sheets, sheets with one arc each, and what a call prints of them.
-- Assumes nothing.
use Rattle.std.specs.Prelude.{Bool, true, false, ◌&&◌, List, [], ◌∷◌, ◌++◌, ℕ, replicate}
use Rattle.std.proofs.Math.Option.{Option, none, some}
use Prim.Native.String.{String}
use Rattle.rules.specs.Text.{bytes}
use Rattle.rules.specs.Sheet.{Reading, accepted, unread}
use Rattle.rules.specs.Play.{Marking, enabled, fire, start}
use Rattle.rules.specs.Answer.{report}
use Rattle.rules.specs.Call.{asked, call}

abbrev pub first_sheet : List ℕ
first_sheet =
    bytes
    "row at place n cap\nsize 2 3 - -\nmark - 0 1 -\npay - 1 1 -\npay - 2 -1 -\nturn 0 - 1 -\nturn 1 - 1 -\nin 0 0 1 -\nout 0 1 1 -\nin 1 0 1 -\nout 1 2 1 -\n"

abbrev pub two_plies : List ℕ
two_plies =
    bytes "row at place n cap\nsize 2 3 - -\nmark - 0 1 -\npay - 2 1 -\nturn 0 - 1 -\nturn 1 - -1 -\nin 0 0 1 -\nout 0 1 1 -\nin 1 1 1 -\nout 1 2 1 -\n"

-- A call with chain 0 1 2 and memory enough for 1,024 entries of these nets, and the second line that it prints.
pub record Case : Type 0 where
  pub sheet : List ℕ
  pub budget : ℕ
  pub entries : ℕ
  pub driver : ℕ
  pub filters : ℕ
  pub line : String

abbrev pub case : List ℕ → ℕ → ℕ → ℕ → ℕ → String → Case
case s b e d f l = record { sheet = s; budget = b; entries = e; driver = d; filters = f; line = l }

abbrev pub printed : Case → List ℕ
printed c =
    report
    (call
    (asked c.sheet c.budget c.entries c.driver c.filters (0 ∷ 1 ∷ 2 ∷ []) (replicate 3072 0) (replicate 1024 0))
    ).answer

abbrev pub expected : Case → List ℕ
expected c = bytes "answer move value nodes\n" ++ bytes c.line ++ bytes "\n"

-- That sheet: budget 2, 1 and 0; no filter; single with must-win; MTD. Two plies: single, must-win; budget 3; a memo of one entry.
abbrev pub key_cases : List Case
key_cases =
    case first_sheet 2 1024 1 1 "exact 0 1 2"
    ∷ case first_sheet 1 1024 1 1 "spent - - 2"
    ∷ case first_sheet 0 1024 1 1 "spent - - 1"
    ∷ case first_sheet 1000 1024 1 0 "exact 0 1 3"
    ∷ case first_sheet 1000 1024 0 1 "exact 0 1 1"
    ∷ case first_sheet 1000 1024 2 1 "exact 0 1 1"
    ∷ case two_plies 1000 1024 0 1 "exact 0 1 4"
    ∷ case two_plies 3 1024 0 1 "spent - - 4"
    ∷ case two_plies 1000 1 0 1 "exact 0 1 5"
    ∷ []

-- A sheet of one transition and one place with so many tokens and one row: whether the transition is enabled there, and whether it spills.
pub record Arc : Type 0 where
  pub tokens : String
  pub row : String
  pub enabled : Bool
  pub spills : Bool

abbrev pub arc : String → String → Bool → Bool → Arc
arc t r e s = record { tokens = t; row = r; enabled = e; spills = s }

abbrev pub arc_sheet : Arc → List ℕ
arc_sheet a = bytes "row at place n cap\nsize 1 1 - -\nmark - 0 " ++ bytes a.tokens ++ bytes " -\nturn 0 - 1 -\n" ++ bytes a.row ++ bytes "\n"

abbrev pub refused_firing : Option Marking → Bool
refused_firing none = true
refused_firing (some m) = false

abbrev pub behaves : Reading → Option (Bool × Bool)
behaves (accepted net) = some (enabled net (start net) 0, enabled net (start net) 0 && refused_firing (fire net (start net) 0))
behaves (unread r n) = none

-- `in` 0 is always enabled, 2 never; `stop` 0 never, 1 only at 0, 2 always; `cap` 1 1 only at 0; `out` 2 spills
abbrev pub arc_cases : List Arc
arc_cases =
    arc "0" "in 0 0 0 -" true false
    ∷ arc "1" "in 0 0 0 -" true false
    ∷ arc "0" "in 0 0 2 -" false false
    ∷ arc "1" "in 0 0 2 -" false false
    ∷ arc "0" "stop 0 0 0 -" false false
    ∷ arc "1" "stop 0 0 0 -" false false
    ∷ arc "0" "stop 0 0 1 -" true false
    ∷ arc "1" "stop 0 0 1 -" false false
    ∷ arc "0" "stop 0 0 2 -" true false
    ∷ arc "1" "stop 0 0 2 -" true false
    ∷ arc "0" "cap 0 0 1 1" true false
    ∷ arc "1" "cap 0 0 1 1" false false
    ∷ arc "0" "out 0 0 2 -" true true
    ∷ arc "1" "out 0 0 2 -" true true
    ∷ []
