-- By the length. Assumes nothing.
use native.Mathlib.Omega.{arith}
use Rattle.rules.specs.Call.{options_by}
use Rattle.keymove_c.proofs.Picks.{whole_session}
use Rattle.keymove_c.proofs.Opens.{opened_short}
use Rattle.keymove_c.proofs.session.open.Goals as goal

pub returns-in_default : goal.returns-in_default
returns-in_default c =
    let a = c.args in
    opened_short a.sheet.now (options_by a.entries a.driver a.filters a.chain.now) a.words.now a.tags.now _ a.session.now (omega (arith, c.in_default.ensures.cases)) c.open_short.ensures

pub returns : goal.returns
returns c = let k = c.in-Some.ensures.cases in rw (whole_session 75264 c.args.session.now c.in-Some.opened_net.now c.in-Some.rest.now k.0 k.1) c.open_behind.ensures
