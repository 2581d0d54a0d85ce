-- No net has a move past 255. Assumes nothing.
use Rattle.std.proofs.Common.{refl, arith}
use Rattle.words.specs.Lists.{contains}
use Rattle.words.proofs.Lists.{contains_in, by_test}
use Rattle.rules.specs.Play.{moves}
use Rattle.bits.specs.Position.{words}
use Rattle.theory.proofs.NetMarking.{move_below}
use Rattle.session.proofs.stand.played.Goals as goal

pub returns-then-t-gt255 : goal.returns-then-t-gt255
returns-then-t-gt255 c = λ g w v.
    let t = c.args.t in
    let m = words c.args.m in
    by_test (contains (moves g m) t)
    (λ e. let l = move_below g m t (contains_in (moves g m) t e) in absurd (omega (arith, w.formed.transitions_fit, c.if-t-gt255.true)))
    (λ e. rw e refl)
