-- With room for all of them, the bytes so far and the lines that are left are the whole. Assumes nothing.
use Rattle.std.proofs.Common.{◌≡◌, ◌++◌, ◌-◌, ◌≤◌, length}
use Rattle.test_cases.specs.Sheet.{text_of, HasRoom, lines}
use Rattle.test_cases.proofs.sheet.Sheet.add_lines.Given as goal

abbrev pub invariant-loop : goal.invariant-loop
invariant-loop l = record {
  counter : l.counter ≤ l.times;
  fits : HasRoom l.initial.self (length (lines l.times l.text)) → HasRoom l.self (length (lines (l.times - l.counter) l.text));
  text : HasRoom l.initial.self (length (lines l.times l.text)) → text_of l.self ++ lines (l.times - l.counter) l.text ≡ text_of l.initial.self ++ lines l.times l.text;
}
