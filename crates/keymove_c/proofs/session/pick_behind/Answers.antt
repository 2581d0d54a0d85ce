-- By the length. Assumes nothing.
use mathlib.Core.Path.{◌≡◌, ap, ◌∙◌}
use Prim.Native.Nat.{ℕ, ◌≤◌}
use native.Mathlib.Omega.{arith}
use lib.ListN.{length}
use Rattle.std.proofs.lemmas.List.{length-append, length-take-le}
use Rattle.words.specs.Sets.{words}
use Rattle.keymove_c.proofs.Picks.{picked_short, picked_long, whole_session}
use Rattle.keymove_c.proofs.session.pick_behind.Goals as goal

pub returns-in_default : goal.returns-in_default
returns-in_default c =
    let a = c.args in
    picked_short a.words.now a.tags.now a.budget (words a.marking) _ _ (omega (arith, c.told-opened_net, length-append a.opened_net.now a.rest.now, c.in_default.ensures.cases)) c.too_short.ensures

pub returns : goal.returns
returns c =
    let a = c.args in
    let k = c.in-Some.ensures.cases in
    let few : 525 ≤ length a.rest.now = omega (arith, k.2) in
    let ls : length c.in-Some.state.now ≡ 525 = ap (length {A = ℕ}) k.0 ∙ length-take-le 525 a.rest.now few in
    rw (whole_session 525 a.rest.now c.in-Some.state.now c.in-Some._behind.now k.0 k.1)
    (picked_long a.words.now a.tags.now a.budget (words a.marking) _ a.opened_net.now c.in-Some.state.now c.in-Some._behind.now c.pick_in.new.state c.pick_in.new.words c.pick_in.new.tags c.told-opened_net ls c.pick_in.ensures.long c.pick_in.ensures.is)
