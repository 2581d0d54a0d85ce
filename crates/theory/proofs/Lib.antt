-- What is proved of the definitions of crate rules. `Promised` is to be read first: the public contract holds of the call as it is defined. `Demand3`: demand 3 and the meaning
-- of each answer, from any marking and sound state, and for every accepted input.
-- `Theorems` has the results for the call over any game, memo, order and scale that meets `Laws`.
-- Theorem 1, `Sound`: fail-soft alpha-beta is sound. Theorem 2, `Budget` and `Runs`: the budget is exact. Theorem 3, `Drivers`: a run gives the exact
-- value. Theorem 4, `Choose` and `Call`: the key's child has the root's value, under the premises on play the minimax value.
-- `Causes`: a refusal from the state has a cause in play. `Memo`: the memo meets `Laws`. `Counting`: a count for each run, as 01 has it, is the same as one throughout. `Simulation`, `InStep`, `Floats`: f64 in step with integers.
-- `NetCall`: the game, the settings and the drivers of a net within the limits meet all that `Theorems` asks; `SheetLimits`: an accepted sheet gives such a net.
-- `Sessions`: what opening a session and a choice in it promise, of `Generation` and `Picks`; `SessionDictionary`: its dictionary never fills.
-- Assumes nothing.
pub mod Promised
pub mod Demand3
pub mod Answers
pub mod KnuthMoore
pub mod MemoSize
-- tests, order, and what the sides can force
pub mod Tests
pub mod Laws
pub mod Order
pub mod Forces
pub mod Minimax
pub mod Integers
-- the order of moves and the filters
pub mod Filter
pub mod Sort
-- the memo
pub mod Answer
pub mod Flat
pub mod Words
pub mod Dictionary
pub mod Locate
pub mod Memo
pub mod Marking
-- the search, the drivers and the choice of the key
pub mod Row
pub mod Children
pub mod Sound
pub mod Budget
pub mod Causes
pub mod Regular
pub mod Scale
pub mod Drivers
pub mod Choose
pub mod Runs
pub mod Call
-- two searches in step, and the call
pub mod Simulation
pub mod InStep
pub mod Counting
pub mod MemoInStep
pub mod Floats
pub mod Theorems
pub mod RootRun
pub mod MemoWide
pub mod Generation
-- play on a net
pub mod Settling
pub mod Fits
-- the sheet: what an accepted one gives, and which input is accepted
pub mod NetLimits
pub mod SheetLines
pub mod SheetRows
pub mod SheetLimits
pub mod Inputs
pub mod Refusals
-- the game of a net: scores and values, markings, premises, order and filters, f64
pub mod Sums
pub mod Values
pub mod NetRules
pub mod NetMarking
pub mod NetRegular
pub mod NetCauses
pub mod NetPolicy
pub mod NetOrder
pub mod NetFloats
-- the call on a net
pub mod NetCall
pub mod Sheets
-- sessions
pub mod Picks
pub mod Sessions
pub mod SessionDictionary
