-- The last entry. Assumes nothing.
use Rattle.session.proofs.Undoing.{undone}
use Rattle.session.proofs.stand.Stand.back.Goals as goal

pub returns-clause-undone : goal.returns-clause-undone
returns-clause-undone c = λ l m e. undone c.args.self.now.past l c.args.self.now.n c.min-n.result m (record { a = 0; b = 0; c = 0; d = 0 }) (search) c.min-n.ensures e
