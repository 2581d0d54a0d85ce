-- With room for all of them, the bytes so far and those of what is left are the whole. Assumes nothing.
use Rattle.std.proofs.Common.{◌≡◌, ◌++◌, length}
use Rattle.test_cases.specs.Sheet.{text_of, HasRoom, hex_bytes}
use Rattle.test_cases.proofs.sheet.Sheet.add_hex.Given as goal

abbrev pub invariant-loop-pair : goal.invariant-loop-pair
invariant-loop-pair l = record {
  size : l.pair-iterator.size ≡ 2;
  fits : HasRoom l.initial.self (length (hex_bytes l.text)) → HasRoom l.self (length (hex_bytes l.pair-iterator.rest.now));
  text : HasRoom l.initial.self (length (hex_bytes l.text)) → text_of l.self ++ hex_bytes l.pair-iterator.rest.now ≡ text_of l.initial.self ++ hex_bytes l.text;
}
