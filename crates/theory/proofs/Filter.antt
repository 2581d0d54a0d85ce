-- The filters' tests: a win is a final position at the best bound, and a child that `lost` drops is one from which the other side
-- forces the worst. What `lost` refuses has a cause.
-- Assumes nothing.
use mathlib.Core.Path.{◌≡◌, refl, sym, ◌∙◌}
use mathlib.Core.Bool.{Bool, true, false, true≢false}
use mathlib.Core.Option.{Option, none, some}
use mathlib.Core.List.Memᴰ
use mathlib.Core.List.{List, [], ◌∷◌}
use Prim.Native.Nat.{ℕ}
use lib.Dec.{ltb}
use lib.ListN.{length}
use borrow.Author.Tests.{ltb-true}
use Rattle.rules.specs.declared.Refusal.{Refusal}
use Rattle.rules.specs.Limits.{max_moves}
use Rattle.rules.specs.Game.{Game, Side, max, min, opp, Played, to, stopped, ◌∈◌, Le, worst, eqv}
use Rattle.rules.specs.Filter.{Verdict, keep, drop, refuse, over, wins, replied, reply_played, reply_wins, replies, replier, lost_listed, lost}
use Rattle.rules.specs.Search.{Child, Policy}
use Rattle.rules.specs.Forces.{Forces, final, own}
use Rattle.theory.specs.Causes.{Cause, here, mixed, wide, stops}
use Rattle.theory.proofs.Order.{le_refl, le_antisym}
use Rattle.theory.proofs.Laws.{Rules, Orderly}
use Rattle.words.proofs.Lists.{and_true}

module _ (G : Game) (R : Rules G) where
  open G use {leb, Pos, moves, mover, play, score}

  over_final : (l : List ℕ) → over l ≡ true → l ≡ []
  unfolding over
  over_final [] e = refl
  over_final (t ∷ l) e = cc

  pub wins_final : (s : Side) (q : Pos) → wins G s q ≡ true → (moves q ≡ []) × (score q ≡ worst G (opp s))
  unfolding wins
  wins_final s q w =
      let (o, v) = and_true (over (moves q)) (eqv G (score q) (worst G (opp s))) w in
      let (a, b) = and_true (leb (score q) (worst G (opp s))) (leb (worst G (opp s)) (score q)) v in
      (over_final (moves q) o, le_antisym G R {s = max} (record { holds = a }) (record { holds = b }))

  module _ (candidates : Side → Pos → List ℕ) (are_moves : (s : Side) (q : Pos) (u : ℕ) → u ∈ candidates s q → u ∈ moves q) where
    -- what a verdict on `q` says
    abbrev Says : Side → Pos → Verdict → Type 0
    Says s q keep = Unit {0}
    Says s q drop = Forces G (opp s) (worst G s) q
    Says s q (refuse r) = Unit {0}

    reply_wins_says : (s : Side) (q : Pos) (l : List ℕ) → mover q ≡ some (opp s) → ((u : ℕ) → u ∈ l → u ∈ moves q) → Says s q (reply_wins G candidates s q l)
    unfolding reply_wins reply_played replied
    reply_wins_says s q [] m h = tt
    reply_wins_says s q (u ∷ l) m h = go (play q u) refl (reply_wins G candidates s q l) (reply_wins_says s q l m (λ t i. h t (Memᴰ.tail i)))
      where
        test : (x : Pos) → play q u ≡ to x → (v : Verdict) → Says s q v → (b : Bool) → wins G (opp s) x ≡ b → Says s q (replied G candidates b v)
        test x e v k false w = k
        test x e v k true w = let (f, z) = wins_final (opp s) x w in own m (h u (Memᴰ.head refl)) e (final f (worst_is s x z))
          where
            worst_is : (s : Side) (x : Pos) → score x ≡ worst G (opp (opp s)) → Le G (opp s) (worst G s) (score x)
            worst_is max x z = rw z (le_refl G R)
            worst_is min x z = rw z (le_refl G R)

        go : (x : Played Pos) → play q u ≡ x → (v : Verdict) → Says s q v → Says s q (reply_played G candidates s x v)
        go (stopped r) e v k = tt
        go (to x) e v k = test x e v k (wins G (opp s) x) refl

    replies_says : (s o : Side) (q : Pos) → mover q ≡ some o → Says s q (replies G candidates s o q)
    unfolding replies
    replies_says max max q m = tt
    replies_says max min q m = reply_wins_says max q (candidates max q) m (are_moves max q)
    replies_says min max q m = reply_wins_says min q (candidates min q) m (are_moves min q)
    replies_says min min q m = tt

    lost_says : (s : Side) (q : Pos) → Says s q (lost G candidates s q)
    unfolding lost lost_listed replier
    lost_says s q = go (ltb max_moves (length (moves q))) (moves q)
      where
        side : (o : Option Side) → mover q ≡ o → Says s q (replier G candidates s q o)
        side none m = tt
        side (some o) m = replies_says s o q m

        go : (b : Bool) (l : List ℕ) → Says s q (lost_listed G candidates s q b l)
        go true l = tt
        go false [] = tt
        go false (u ∷ l) = side (mover q) refl

    -- `lost` meets the first law that `Orderly` asks of it
    lost_forces : (s : Side) (q : Pos) → lost G candidates s q ≡ drop → Forces G (opp s) (worst G s) q
    lost_forces s q e = rw e at (lost_says s q)

    -- and the second
    module _ (d : ℕ) where
      abbrev Decides : Pos → Verdict → Type 0
      Decides q keep = Unit {0}
      Decides q drop = Unit {0}
      Decides q (refuse r) = Cause G d q r

      reply_wins_decides : (s : Side) (q : Pos) (l : List ℕ) → ((u : ℕ) → u ∈ l → u ∈ moves q) → Decides q (reply_wins G candidates s q l)
      unfolding reply_wins reply_played replied
      reply_wins_decides s q [] h = tt
      reply_wins_decides s q (u ∷ l) h = go (play q u) refl (reply_wins G candidates s q l) (reply_wins_decides s q l (λ t i. h t (Memᴰ.tail i)))
        where
          test : (b : Bool) (v : Verdict) → Decides q v → Decides q (replied G candidates b v)
          test true v k = tt
          test false v k = k

          go : (x : Played Pos) → play q u ≡ x → (v : Verdict) → Decides q v → Decides q (reply_played G candidates s x v)
          go (stopped r) e v k = stops here (h u (Memᴰ.head refl)) e
          go (to x) e v k = test (wins G (opp s) x) v k

      replies_decides : (s o : Side) (q : Pos) → Decides q (replies G candidates s o q)
      unfolding replies
      replies_decides max max q = tt
      replies_decides max min q = reply_wins_decides max q (candidates max q) (are_moves max q)
      replies_decides min max q = reply_wins_decides min q (candidates min q) (are_moves min q)
      replies_decides min min q = tt

      lost_decides : (s : Side) (q : Pos) → Decides q (lost G candidates s q)
      unfolding lost lost_listed replier
      lost_decides s q = go (ltb max_moves (length (moves q))) refl (moves q) refl
        where
          side : (moves q ≡ [] → ⊥) → (o : Option Side) → mover q ≡ o → Decides q (replier G candidates s q o)
          side ne none m = mixed here ne m
          side ne (some o) m = replies_decides s o q

          go : (b : Bool) → ltb max_moves (length (moves q)) ≡ b → (l : List ℕ) → moves q ≡ l → Decides q (lost_listed G candidates s q b l)
          go true e l k = wide here (ltb-true max_moves (length (moves q)) e)
          go false e [] k = tt
          go false e (u ∷ l) k = side (λ x. true≢false (cc)) (mover q) refl

      lost_cause : (s : Side) (q : Pos) (r : Refusal) → lost G candidates s q ≡ refuse r → Cause G d q r
      lost_cause s q r e = rw e at (lost_decides s q)

    -- So an order that rearranges, with a filter that is `lost`, is orderly.
    pub orderly : (π : Policy Pos) → ((h : π.History) (b : Option ℕ) (s : Side) (l : List (Child Pos)) (c : Child Pos) → (c ∈ l → c ∈ π.arrange h b s l) × (c ∈ π.arrange h b s l → c ∈ l)) →
        ((s : Side) (q : Pos) → π.lost s q ≡ lost G candidates s q) → Orderly G π
    orderly π rearranges same = record {
      arranged = rearranges;
      lost_forces = λ s q e. lost_forces s q (sym (same s q) ∙ e);
      lost_cause = λ d s q r e. lost_cause d s q r (sym (same s q) ∙ e);
    }
