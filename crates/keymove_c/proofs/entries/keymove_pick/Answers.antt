-- By whether there is room for the answer. Assumes nothing.
use mathlib.Core.List.{[], ◌∷◌}
use Rattle.keymove_c.proofs.Picks.{pick_nothing, pick_full}
use Rattle.keymove_c.proofs.entries.keymove_pick.Goals as goal

pub returns-then-out-lt4 : goal.returns-then-out-lt4
returns-then-out-lt4 c = let a = c.args in pick_nothing a.session.now a.budget (a.m0 ∷ a.m1 ∷ a.m2 ∷ a.m3 ∷ []) a.words.now a.tags.now a.out.now c.if-out-lt4.true

pub returns : goal.returns
returns c =
    let a = c.args in
    let p = c.pick-answer in
    pick_full a.session.now a.budget (a.m0 ∷ a.m1 ∷ a.m2 ∷ a.m3 ∷ []) a.words.now a.tags.now a.out.now p.result p.new.session p.new.words p.new.tags c.put_answer.new.out c.if-out-lt4.false (rw c.words_of.ensures at c.put_answer.ensures) p.ensures
