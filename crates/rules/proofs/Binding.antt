-- What is known of a value that was read in two steps. Assumes nothing.
use mathlib.Core.Path.{◌≡◌, refl}
use mathlib.Core.Bool.{true≢false}
use mathlib.Core.Option.{Option, none, some}
use Rattle.rules.specs.Sheet.{bind}

pub bind_some : {A B : Type 0} (o : Option A) (k : A → Option B) (b : B) → bind o k ≡ some b → (a : A) × (o ≡ some a) × (k a ≡ some b)
bind_some none k b e = absurd (true≢false (cc))
bind_some (some a) k b e = (a, refl, e)
