-- By the length. Assumes nothing.
use native.Mathlib.Omega.{arith}
use Rattle.words.specs.Sets.{words}
use Rattle.keymove_c.proofs.Picks.{picked_short, whole_session}
use Rattle.keymove_c.proofs.session.pick.Goals as goal

pub returns-in_default : goal.returns-in_default
returns-in_default c = let a = c.args in picked_short a.words.now a.tags.now a.budget (words a.marking) _ a.session.now (omega (arith, c.in_default.ensures.cases)) c.too_short.ensures

pub returns : goal.returns
returns c = let k = c.in-Some.ensures.cases in rw (whole_session 75264 c.args.session.now c.in-Some.opened_net.now c.in-Some.rest.now k.0 k.1) c.pick_behind.ensures
