-- Assumes nothing.
use Rattle.std.proofs.Common.{◌≡◌, ◌∷◌, ◌++◌, [], length, sym, ◌∙◌, ap, arith}
use Rattle.std.proofs.lemmas.List.{append-nil, append_assoc}
use Rattle.test_cases.specs.Sheet.{text_of, hex_bytes}
use Rattle.test_cases.proofs.Builds.{hex_next, hex_end}
use Rattle.test_cases.proofs.sheet.Sheet.add_hex.Goals as goal

pub loop-pair-preserved : goal.loop-pair-preserved
loop-pair-preserved c =
    let step = c.in-Some.ensures.steps in
    let left = c.next.new.self.rest.now in
    let next : hex_bytes c.loop-pair.pair-iterator.rest.now ≡ c.byte.result ∷ hex_bytes left =
    ap hex_bytes step.1.0 ∙ hex_next c.in-Some.pair.now left (step.1.1 ∙ c.loop-pair.invariant.size) ∙ ap (λ b. b ∷ hex_bytes left) (sym c.byte.ensures) in
    let long = ap length next in
    record {
      size = step.0 ∙ c.loop-pair.invariant.size;
      fits = λ room. omega (arith, c.loop-pair.invariant.fits room, long, c.push.ensures.len (omega (arith, c.loop-pair.invariant.fits room, long)), c.push.ensures.room);
      text = λ room.
          ap (λ l. l ++ hex_bytes left) (c.push.ensures.text (omega (arith, c.loop-pair.invariant.fits room, long)))
          ∙ append_assoc (text_of c.loop-pair.self) (c.byte.result ∷ []) (hex_bytes left)
          ∙ ap (λ l. text_of c.loop-pair.self ++ l) (sym next)
          ∙ c.loop-pair.invariant.text room;
    }

pub returns : goal.returns
returns c = λ room.
    let none = hex_end c.loop-pair.pair-iterator.rest.now (omega (arith, c.in-None.ensures.steps.1.0, c.loop-pair.invariant.size)) in
    sym (append-nil (text_of c.loop-pair.self)) ∙ ap (λ l. text_of c.loop-pair.self ++ l) (sym none) ∙ c.loop-pair.invariant.text room
