-- By the length. Assumes nothing.
use mathlib.Core.Path.{◌≡◌, ap, ◌∙◌}
use Prim.Native.Nat.{ℕ, ◌≤◌}
use native.Mathlib.Omega.{arith}
use lib.ListN.{length}
use Rattle.std.proofs.lemmas.List.{length-append, length-take-le}
use Rattle.rules.specs.Call.{options_by}
use Rattle.keymove_c.proofs.Picks.{whole_session}
use Rattle.keymove_c.proofs.Opens.{opened_short, opened_long}
use Rattle.keymove_c.proofs.session.open_behind.Goals as goal

pub returns-in_default : goal.returns-in_default
returns-in_default c =
    let a = c.args in
    opened_short a.sheet.now (options_by a.entries a.driver a.filters a.chain.now) a.words.now a.tags.now _ _ (omega (arith, c.told-opened_net, length-append a.opened_net.now a.rest.now, c.in_default.ensures.cases)) c.open_short.ensures

pub returns : goal.returns
returns c =
    let a = c.args in
    let k = c.in-Some.ensures.cases in
    let r = c.open_in in
    let few : 525 ≤ length a.rest.now = omega (arith, k.2) in
    let ls : length c.in-Some.state.now ≡ 525 = ap (length {A = ℕ}) k.0 ∙ length-take-le 525 a.rest.now few in
    rw (whole_session 525 a.rest.now c.in-Some.state.now c.in-Some._behind.now k.0 k.1)
    (opened_long a.sheet.now (options_by a.entries a.driver a.filters a.chain.now) a.words.now a.tags.now _ a.opened_net.now c.in-Some.state.now c.in-Some._behind.now r.new.opened_net r.new.state r.new.words r.new.tags c.told-opened_net ls r.ensures.long.0 r.ensures.long.1 r.ensures.is)
