-- What the entry leaves, by whether there is room for the answer.
-- Assumes nothing.
use mathlib.Core.Path.{◌≡◌, sym, ap, ◌∙◌}
use mathlib.Core.List.{List, ◌++◌}
use Prim.Native.Nat.{ℕ, ◌<◌, ◌≤◌}
use lib.ListN.{length, drop}
use borrow.Author.Tests.{lt-ltb, le-ltb}
use Rattle.rules.specs.declared.Answer.{Answer}
use Rattle.rules.specs.Call.{Request, Result, call}
use Rattle.keymove_c.specs.Encoding.{encoded, served, serve, entry_of}

pub entry_short : (r : Request) (out : List ℕ) → length out < 4 → served out r.words r.tags ≡ entry_of r out
entry_short r out lt = sym (ap (serve r out) (lt-ltb (length out) 4 lt))

pub entry_full : (r : Request) (out out' : List ℕ) (a : Answer) (ws ts : List ℕ) → 4 ≤ length out → out' ≡ encoded a ++ drop 4 out → call r ≡ record { answer = a; words = ws; tags = ts } → served out' ws ts ≡ entry_of r out
entry_full r out out' a ws ts le eo e =
    ap (λ (z : List ℕ). served z ws ts) eo
    ∙ sym (ap (λ (z : Result Answer). served (encoded z.answer ++ drop 4 out) z.words z.tags) e)
    ∙ sym (ap (serve r out) (le-ltb (length out) 4 le))
