-- The order and the filters of a net are orderly, whatever the filters and the chain: the order rearranges, and `lost` plays moves of the position only,
-- also where it goes by the feeders of goals.
-- Assumes nothing.
use mathlib.Core.Path.{◌≡◌, refl}
use mathlib.Core.Bool.{Bool, true, false, cond, ◌&&◌}
use mathlib.Core.Option.{Option, none, some}
use mathlib.Core.List.Memᴰ
use mathlib.Core.List.{List, [], ◌∷◌, map, flat_map}
use mathlib.Core.Logic.{⊎_elim}
use Prim.Native.Nat.{ℕ}
use lib.Dec.{leb, ltb}
use Rattle.words.specs.Lists.{range, empty, filter}
use Rattle.words.proofs.Lists.{and_true, and_both, filter_in, filter_passes, in_filter}
use Rattle.whole.specs.Int.{eq_z}
use Rattle.rules.specs.Net.{Net, turn, has_role, side_of}
use Rattle.rules.specs.Game.{Side, opp, side_number, ◌∈◌}
use Rattle.rules.specs.Play.{Marking, enabled, enabled_of, moves}
use Rattle.rules.specs.Goals.{goals, goals_of, deficit, touch, feeders, reach, close, replies_of}
use Rattle.rules.specs.Order.{piece, keys, larger, arrange}
use Rattle.rules.specs.NetGame.{int_game, policy}
use Rattle.theory.proofs.Laws.{Orderly}
use Rattle.theory.proofs.Filter.{orderly}
use Rattle.theory.proofs.Sort.{sort_in}
use Rattle.theory.proofs.NetRules.{net_rules}

flat_in : {u : ℕ} (f : ℕ → List ℕ) (l : List ℕ) → u ∈ flat_map f l → (g : ℕ) × (u ∈ f g)
unfolding flat_map
flat_in f [] i = absurd (Memᴰ.not-nil i)
flat_in f (g ∷ l) i = ⊎_elim (λ j. (g, j)) (flat_in f l) (Memᴰ.append_cases (f g) i)

module _ (net : Net) where
  -- what can complete a goal is a move
  close_moves : (s : Side) (m : Marking) (g : ℕ) (d : Option ℕ) (u : ℕ) → u ∈ close net s m g d → u ∈ moves net m
  unfolding close feeders moves enabled_of
  close_moves s m g none u i = absurd (Memᴰ.not-nil i)
  close_moves s m g (some d) u i = go (leb d (reach net s g)) i
    where
      is_move : u ∈ feeders net s g → leb d (touch net g u) && enabled net m u ≡ true → u ∈ moves net m
      is_move j e =
          let f = filter_passes _ (range net.transitions) j in
          let (a, b) = and_true (has_role net turn u && eq_z (side_of net u) (side_number s)) (ltb 0 (touch net g u)) f in
          let (c, x) = and_true (has_role net turn u) (eq_z (side_of net u) (side_number s)) a in
          let (y, k) = and_true (leb d (touch net g u)) (enabled net m u) e in
          in_filter (λ t. has_role net turn t && enabled net m t) (range net.transitions) (filter_in _ (range net.transitions) j) (and_both (has_role net turn u) (enabled net m u) c k)

      go : (b : Bool) → u ∈ cond b (filter (λ u. leb d (touch net g u) && enabled net m u) (feeders net s g)) [] → u ∈ moves net m
      go true i = is_move (filter_in _ (feeders net s g) i) (filter_passes (λ u. leb d (touch net g u) && enabled net m u) (feeders net s g) i)
      go false i = absurd (Memᴰ.not-nil i)

  pub replies_moves : (s : Side) (m : Marking) (u : ℕ) → u ∈ replies_of net s m → u ∈ moves net m
  unfolding replies_of
  replies_moves s m u i = go (empty (goals net)) i
    where
      go : (b : Bool) → u ∈ cond b (moves net m) (flat_map (λ g. close net s m g (deficit net m g)) (goals_of net s)) → u ∈ moves net m
      go true i = i
      go false i =
          let (g, j) = flat_in (λ g. close net s m g (deficit net m g)) (goals_of net s) i in
          close_moves s m g (deficit net m g) u j

  pub net_orderly : (filters : ℕ) (chain : List ℕ) → Orderly (int_game net) (policy net filters chain)
  unfolding arrange
  net_orderly filters chain =
      orderly (int_game net) (net_rules net) (λ s m. replies_of net (opp s) m) (λ s m u i. replies_moves (opp s) m u i) (policy net filters chain)
      (λ h first s l c. sort_in (λ y x. larger (keys net h first s (map piece chain) y) (keys net h first s (map piece chain) x)) l c) (λ s m. refl)
