-- By what opening gives. Assumes nothing.
use mathlib.Core.Path.{refl}
use Rattle.rules.specs.Session.{opened_as, refused_at}
use Rattle.game.specs.Sessions.{session_of}
use Rattle.keymove_c.proofs.session.open_in.Goals as goal

pub returns-in-Ok-clause-is : goal.returns-in-Ok-clause-is
returns-in-Ok-clause-is c =
    let q = c.in-Ok.ensures in
    record {
      answer = opened_as (session_of q.0 c.in-Ok.opened);
      opens = q.2.is_opening;
      four_are = refl;
      leaves = (q.1, c.pack.ensures.is q.0, c.pack.ensures.back q.0);
    }

pub returns-in-Err-clause-is : goal.returns-in-Err-clause-is
returns-in-Err-clause-is c =
    let q = c.in-Err.ensures in
    let f = c.in-Err.fault in
    record {
      answer = refused_at f.refusal f.line;
      opens = q.1.is_opening;
      four_are = c.refused.ensures;
      leaves = (q.0, refl);
    }
