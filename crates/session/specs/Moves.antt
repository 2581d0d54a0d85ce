-- The marking that a sheet gives, and what a move comes to. Assumes nothing.
use Rattle.std.specs.Prelude.{◌≡◌, cond, List, ℕ, Result, Ok, Err}
use Rattle.std.proofs.Math.Option.{Option, none, some}
use Rattle.words.specs.Lists.{contains}
use Rattle.words.specs.Sets.{words}
use Rattle.rules.specs.Net.{Net}
use Rattle.rules.specs.Game.{Played, to, stopped}
use Rattle.rules.specs.Play.{Marking, start, moves, play}
use Rattle.rules.specs.Sheet.{read_sheet, accepted, unread}
use Rattle.words.specs.declared.Bitset.{Bitset}
use Rattle.sheet.specs.declared.Fault.{Fault}
use Rattle.session.specs.declared.stand.Moved.{Moved}
use Rattle.session.specs.declared.stand.Moved.TheVariants.{To, Illegal, Refused}

-- the marking of a sheet that is read, or its refusal
abbrev pub FirstMarking : List ℕ → Result Bitset Fault → Type 0
FirstMarking sheet (Ok m) = (net : Net) × (read_sheet sheet ≡ accepted net) × (words m ≡ start net)
FirstMarking sheet (Err f) = read_sheet sheet ≡ unread f.refusal f.line

-- A move, by the rules: nothing where `t` is no move, else what its play gives
abbrev pub move_of : Net → Marking → ℕ → Option (Played Marking)
move_of net m t = cond (contains (moves net m) t) (some (play net m t)) none

-- in code
abbrev pub moved_of : Moved → Option (Played Marking)
moved_of (To m) = some (to (words m))
moved_of Illegal = none
moved_of (Refused r) = some (stopped r)
