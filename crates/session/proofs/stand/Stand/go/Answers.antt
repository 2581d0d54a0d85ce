-- A move with a full list. Assumes nothing.
use Rattle.std.proofs.Common.{ap, ◌∙◌, take, slice_set}
use Rattle.session.proofs.Undoing.{moved_up}
use Rattle.session.proofs.stand.Stand.go.Goals as goal

pub returns-clause-past : goal.returns-clause-past
returns-clause-past c =
    ap (λ l. take c.args.self.now.n (slice_set l 1023 c.args.self.now.marking)) (c.rotate_left.ensures.after)
    ∙ moved_up c.args.self.now.past c.args.self.now.n c.args.self.now.marking (search) c.if-self-lt-PAST.false
