-- The list is as long as its array; what is read of it lies within it. Written out, since no search may count up to its length.
use Rattle.std.proofs.Common.{sym, ℕ, length-take-le}
use Rattle.std.proofs.lemmas.List.{length-replicate}
use Rattle.walk_check.proofs.main.Goals as goal

pub slice_bounds-read_full-end : goal.slice_bounds-read_full-end
slice_bounds-read_full-end c = sym (length-replicate {A = ℕ} 524288 0)

pub slice_bounds-list-end : goal.slice_bounds-list-end
slice_bounds-list-end c = c.in_ok-n.ensures.bound

pub slice_bounds-run-end : goal.slice_bounds-run-end
slice_bounds-run-end c = sym (length-take-le _ _ c.in_ok-n.ensures.bound)
