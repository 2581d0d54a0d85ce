-- By whether the words are left alone. Assumes nothing.
use mathlib.Core.Path.{sym, ◌∙◌}
use Rattle.words.specs.Sets.{words}
use Rattle.game.specs.Sessions.{session_of}
use Rattle.keymove_c.proofs.Picks.{left_alone, state_written}
use Rattle.keymove_c.proofs.session.pick_in.Goals as goal

pub returns-then-leaves_session-clause-is : goal.returns-then-leaves_session-clause-is
returns-then-leaves_session-clause-is c = λ net opened_net.
    let a = c.args in
    let s = c.unpack-session.result in
    let p = c.pick-answer in
    left_alone net a.state.now a.words.now a.tags.now a.budget (words a.marking) (session_of net s) (c.unpack-session.ensures net) p.result (session_of net p.new.self) p.new.words p.new.tags (p.ensures net opened_net) (sym c.leaves_session.ensures ∙ c.if-leaves_session.true)

pub returns-clause-is : goal.returns-clause-is
returns-clause-is c = λ net opened_net.
    let a = c.args in
    let s = c.unpack-session.result in
    let p = c.pick-answer in
    state_written net a.state.now a.words.now a.tags.now a.budget (words a.marking) (session_of net s) (c.unpack-session.ensures net) p.result (session_of net p.new.self) p.new.words p.new.tags (p.ensures net opened_net) c.pack.new.state (sym c.leaves_session.ensures ∙ c.if-leaves_session.false)
    (c.pack.ensures.is net) (c.pack.ensures.back net)
