-- By the call with no lent memory. Assumes nothing.
use mathlib.Core.Path.{sym, ap, ◌∙◌}
use Rattle.rules.specs.declared.Answer.{Answer}
use Rattle.rules.specs.Call.{Result, options_by}
use Rattle.keymove_c.specs.Encoding.{encoded}
use Rattle.keymove_c.proofs.Opens.{short_answer}
use Rattle.keymove_c.proofs.session.open_short.Goals as goal

pub returns : goal.returns
returns c =
    let a = c.args in
    c.words_of.ensures ∙ ap (λ (z : Result Answer). encoded z.answer) (sym c.choose.ensures.is_call) ∙ short_answer a.sheet.now (options_by a.entries a.driver a.filters a.chain.now)
