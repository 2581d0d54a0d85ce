-- By whether there is room for the answer. Assumes nothing.
use Rattle.rules.specs.Call.{options_by}
use Rattle.keymove_c.proofs.Opens.{open_nothing, open_full}
use Rattle.keymove_c.proofs.entries.keymove_open.Goals as goal

pub returns-then-out-lt4 : goal.returns-then-out-lt4
returns-then-out-lt4 c = let a = c.args in open_nothing a.sheet.now (options_by a.entries a.driver a.filters a.chain.now) a.session.now a.words.now a.tags.now a.out.now c.if-out-lt4.true

pub returns : goal.returns
returns c =
    let a = c.args in
    let p = c.open-four in
    open_full a.sheet.now (options_by a.entries a.driver a.filters a.chain.now) a.session.now a.words.now a.tags.now a.out.now p.result p.new.session p.new.words p.new.tags c.put_answer.new.out c.if-out-lt4.false c.put_answer.ensures p.ensures
