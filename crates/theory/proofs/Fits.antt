-- The premises on play by a test that computes: they hold exactly where the marking that play starts from passes it.
-- Assumes nothing.
use mathlib.Core.Path.{◌≡◌, refl}
use mathlib.Core.Bool.{Bool, true, false, true≢false, ◌&&◌}
use mathlib.Core.Option.{Option, none, some}
use mathlib.Core.List.Memᴰ
use mathlib.Core.List.{List, [], ◌∷◌, ◌++◌}
use Prim.Native.Nat.{ℕ, zero, suc, ◌+◌, ◌≤◌, ◌<◌}
use native.Mathlib.Omega.{arith}
use lib.Dec.{leb}
use lib.ListN.{length, length-append}
use borrow.Author.Tests.{leb-true, le-leb}
use Rattle.words.specs.Lists.{all}
use Rattle.rules.specs.Limits.{max_firings, max_moves, max_depth}
use Rattle.rules.specs.Net.{Net, side_of}
use Rattle.rules.specs.Game.{Side, max, side_number, Played, to, stopped, ◌∈◌}
use Rattle.rules.specs.Play.{Marking, play, moves, mover}
use Rattle.rules.specs.Premises.{Settles, Line, here, by, Premises}
use Rattle.words.proofs.Lists.{and_true, all_in, in_all}
use Rattle.theory.proofs.Settling.{play_settles, settles_play, settles_fires, settles_unique, mover_side, side_mover}

-- there is no move, or one side to move
abbrev pub sided : List ℕ → Option Side → Bool
sided [] s = true
sided (t ∷ l) none = false
sided (t ∷ l) (some s) = true

-- a move plays, and leads to a position that passes
abbrev leads : (Marking → Bool) → Played Marking → Bool
leads test (to q) = test q
leads test (stopped r) = false

leads_to : (test : Marking → Bool) (x : Played Marking) → leads test x ≡ true → (q : Marking) × (x ≡ to q) × (test q ≡ true)
leads_to test (to q) e = (q, refl, e)
leads_to test (stopped r) e = absurd (true≢false (cc))

module _ (net : Net) where
  -- every line from `m` has fewer than `d` moves, and each position on the way is as the premises ask
  unfoldable pub fits : ℕ → Marking → Bool
  fits zero m = false
  fits (suc d) m = leb (length (moves net m)) max_moves && sided (moves net m) (mover net m) && all (λ t. leads (fits d) (play net m t)) (moves net m)

  -- what the test says of one position

  pub record Playable (d : ℕ) (m : Marking) : Type 0 where
    pub narrow : length (moves net m) ≤ max_moves
    pub side : sided (moves net m) (mover net m) ≡ true
    pub next : (t : ℕ) → t ∈ moves net m → (q : Marking) × (play net m t ≡ to q) × (fits d q ≡ true)

  pub fit : (d : ℕ) (m : Marking) → fits (suc d) m ≡ true → Playable d m
  unfolding fits
  fit d m e =
      let (a, c) = and_true _ (all (λ t. leads (fits d) (play net m t)) (moves net m)) e in
      let (n, s) = and_true (leb (length (moves net m)) max_moves) (sided (moves net m) (mover net m)) a in
      record {
        narrow = leb-true _ _ n;
        side = s;
        next = λ t i. leads_to (fits d) (play net m t) (all_in (λ t. leads (fits d) (play net m t)) (moves net m) c i);
      }

  -- its moves belong to one side
  fit_side : (m : Marking) → sided (moves net m) (mover net m) ≡ true → (s : Side) × ((t : ℕ) → t ∈ moves net m → side_of net t ≡ side_number s)
  fit_side m = go (moves net m) refl (mover net m) refl
    where
      go : (l : List ℕ) → moves net m ≡ l → (o : Option Side) → mover net m ≡ o → sided l o ≡ true
          → (s : Side) × ((t : ℕ) → t ∈ moves net m → side_of net t ≡ side_number s)
      go [] k o h e = (max, λ t i. absurd (Memᴰ.not-nil (rw k at i)))
      go (t ∷ l) k none h e = absurd (true≢false (cc))
      go (t ∷ l) k (some s) h e = (s, mover_side net m s h)

  -- the end of a line from a position that fits does too, at the depth that is left
  line_fits : {p q : Marking} {l : List ℕ} → Line net p l q → (d : ℕ) → fits d p ≡ true → (e : ℕ) × (length l + suc e ≡ d) × Playable e q
  unfolding fits
  line_fits here zero h = absurd (true≢false (cc))
  line_fits {p} here (suc d) h = (d, omega arith, fit d p h)
  line_fits (by i s l) zero h = absurd (true≢false (cc))
  line_fits {p} (by {q} {t} i s l) (suc d) h =
      let (r, e, f) = (fit d p h).next t i in
      let (k, le, z) = play_settles net p t r e in
      let (n, same) = settles_unique net z s in
      let (b, left, g) = line_fits l d (rw same at f) in
      (b, omega arith, g)

  -- if a marking fits a depth within the limit, the premises hold from it
  pub fits_premises : (m : Marking) (d : ℕ) → d ≤ suc max_depth → fits d m ≡ true → Premises net m
  fits_premises m d small h = record {
    moves_fire = λ l p t line i. let (k, q, le, s) = quiet l p t line i in (s.between, s.moved);
    autos_fire = λ l p t q k r u line i e f a. let (j, z, le, s) = quiet l p t line i in settles_fires net s e f a;
    settles = quiet;
    one_side = λ l p line. let (e, left, f) = line_fits line d h in fit_side p f.side;
    narrow = λ l p line. let (e, left, f) = line_fits line d h in f.narrow;
    short = λ l p line. let (e, left, f) = line_fits line d h in omega arith;
  }
    where
      quiet : (l : List ℕ) (p : Marking) (t : ℕ) → Line net m l p → t ∈ moves net p → (k : ℕ) × (q : Marking) × (k ≤ max_firings) × Settles net p t k q
      quiet l p t line i =
          let (e, left, f) = line_fits line d h in
          let (q, plays, g) = f.next t i in
          let (k, le, s) = play_settles net p t q plays in
          (k, q, le, s)

  -- The converse: where the premises hold, the marking fits.

  -- a line, and a move more
  line_then : {p q r : Marking} {l : List ℕ} {t k : ℕ} → Line net p l q → t ∈ moves net q → Settles net q t k r → Line net p (l ++ (t ∷ [])) r
  line_then here i s = by i s here
  line_then (by j z l) i s = by j z (line_then l i s)

  side_sided : (m : Marking) (s : Side) → ((t : ℕ) → t ∈ moves net m → side_of net t ≡ side_number s) → sided (moves net m) (mover net m) ≡ true
  side_sided m s h = go (moves net m) refl
    where
      go : (l : List ℕ) → moves net m ≡ l → sided l (mover net m) ≡ true
      go [] e = refl
      go (t ∷ l) e = rw (side_mover net m s {k = t} (rw e (Memᴰ.head refl)) h) refl

  module _ (m : Marking) (P : Premises net m) where
    reached_fits : (d : ℕ) {p : Marking} {l : List ℕ} → Line net m l p → length l + d ≡ suc max_depth → fits d p ≡ true
    unfolding fits
    reached_fits zero {p} {l} line e = absurd (omega (arith, P.short l p line))
    reached_fits (suc d) {p} {l} line e =
        let (s, h) = P.one_side l p line in
        rw (le-leb _ _ (P.narrow l p line), side_sided p s h)
        (in_all (λ t. leads (fits d) (play net p t)) (moves net p)
        (λ t i.
        let (k, q, le, z) = P.settles l p t line i in
        rw (settles_play net le z) (reached_fits d (line_then line i z) (omega (arith, length-append l (t ∷ []))))))

    pub premises_fits : fits (suc max_depth) m ≡ true
    premises_fits = reached_fits (suc max_depth) here (omega arith)
