-- What can be undone. Assumes nothing.
use Rattle.std.specs.Prelude.{List, take}
use Rattle.words.specs.declared.Bitset.{Bitset}
use Rattle.session.specs.declared.stand.Stand.{Stand}

-- where each `play` and `at` that `back` undoes set out from, the first at the front
abbrev pub past_of : Stand → List Bitset
past_of s = take s.n s.past
