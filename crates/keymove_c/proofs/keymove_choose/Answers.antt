-- The entry, by the call and its encoding. Assumes nothing.
use Rattle.rules.specs.Call.{asked}
use Rattle.keymove_c.proofs.Entry.{entry_short, entry_full}
use Rattle.keymove_c.proofs.keymove_choose.Goals as goal

pub returns-then-out-lt4 : goal.returns-then-out-lt4
returns-then-out-lt4 c = entry_short (asked c.args.sheet.now c.args.budget c.args.entries c.args.driver c.args.filters c.args.chain.now c.args.words.now c.args.tags.now) c.args.out.now c.if-out-lt4.true

pub returns : goal.returns
returns c = entry_full (asked c.args.sheet.now c.args.budget c.args.entries c.args.driver c.args.filters c.args.chain.now c.args.words.now c.args.tags.now) c.args.out.now _ _ _ _ c.if-out-lt4.false (rw c.words_of.ensures at c.put_answer.ensures) c.choose-answer.ensures.is_call
