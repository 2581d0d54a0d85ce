-- Assumes nothing.
use Rattle.std.proofs.Common.{◌∷◌, ◌++◌, ◌+◌, ◌-◌, [], length, sym, ◌∙◌, ap, arith}
use Rattle.std.proofs.lemmas.List.{append-nil, append_assoc, length-append}
use Rattle.test_cases.specs.Sheet.{text_of, lines}
use Rattle.test_cases.proofs.Builds.{lines_next, lines_end}
use Rattle.test_cases.proofs.sheet.Sheet.add_lines.Goals as goal

pub loop-preserved : goal.loop-preserved
loop-preserved c =
    let text = c.args.text.now in
    let left = lines (c.args.times - (c.loop.counter + 1)) text in
    let next = lines_next c.args.times c.loop.counter text c.loop-test.true in
    let long = ap length next ∙ length-append text (10 ∷ left) in
    record {
      counter = omega (arith, c.loop-test.true);
      fits = λ room. omega (arith, c.loop.invariant.fits room, long, c.add_line.ensures.len (omega (arith, c.loop.invariant.fits room, long)), c.add_line.ensures.room);
      text = λ room.
          ap (λ l. l ++ left) (c.add_line.ensures.text (omega (arith, c.loop.invariant.fits room, long)))
          ∙ append_assoc (text_of c.loop.self ++ text) (10 ∷ []) left
          ∙ append_assoc (text_of c.loop.self) text (10 ∷ left)
          ∙ ap (λ l. text_of c.loop.self ++ l) (sym next)
          ∙ c.loop.invariant.text room;
    }

pub returns : goal.returns
returns c = λ room.
    sym (append-nil (text_of c.loop.self))
    ∙ ap (λ l. text_of c.loop.self ++ l) (sym (lines_end c.args.times c.loop.counter c.args.text.now c.loop-test.false))
    ∙ c.loop.invariant.text room
