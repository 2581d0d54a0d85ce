-- All are done. Assumes nothing.
use mathlib.Core.Path.{sym, ap, ◌∙◌}
use mathlib.Core.List.{List}
use Prim.Native.Nat.{ℕ, ◌%◌, ◌^◌}
use native.Mathlib.Omega.{arith}
use Rattle.std.specs.Prelude.{map}
use Rattle.std.proofs.lemmas.List.{take_all}
use Rattle.keymove_c.proofs.state.take_counters.Goals as goal

pub returns : goal.returns
returns c =
    let i = c.loop-i in
    sym (take_all i.i i.to (omega (arith, i.invariant.0, c.loop-i-test.false))) ∙ i.invariant.1
    ∙ ap (λ (l : List ℕ). map (λ (w : ℕ). w % 2 ^ 32) l) (take_all i.i c.args.from.now (omega (arith, c.requires, c.loop-i-test.false)))
