-- The answer of the call, as its two lines. Assumes nothing.
use mathlib.Core.Path.{sym, ap, ap₂, ◌∙◌}
use mathlib.Core.List.{List, [], ◌∷◌}
use Prim.Native.Nat.{ℕ}
use Rattle.rules.specs.declared.Answer.{Answer}
use Rattle.rules.specs.Answer.{report}
use Rattle.rules.specs.Call.{Result, call, asked}
use Rattle.keymove.proofs.answer.Goals as goal

pub returns : goal.returns
returns c =
    ap (λ (d : Result Answer). report d.answer) (sym c.choose.ensures.is_call)
    ∙ ap₂ (λ (x y : List ℕ). report (call (asked c.args.sheet.now 1000 1024 1 1 (0 ∷ 1 ∷ 2 ∷ []) x y)).answer) c.requires.0 c.requires.1
