-- The order of moves by a chain (01, "A node"): a permutation of the children, larger keys first, and children with the same keys as they stood before.
-- Assumes nothing.
use mathlib.Core.Path.{◌≡◌, refl, sym, ap, ◌∙◌}
use mathlib.Core.Bool.{Bool, true, false, true≢false, not, ◌&&◌, ◌||◌}
use mathlib.Core.Option.{Option}
use mathlib.Core.List.{List, [], ◌∷◌, Permᴰ}
use mathlib.Core.Logic.{◌⊎◌, inl, inr, ⊎_elim}
use Prim.Native.Nat.{ℕ, suc}
use native.Mathlib.Omega.{arith}
use lib.Dec.{eqb, ltb}
use lib.ListN.{length, length-replicate}
use borrow.Author.Tests.{ltb-true, ltb-false, le-ltb, eqb-true, eqb-false}
use Rattle.words.specs.Lists.{eq_list, filter}
use Rattle.words.proofs.Lists.{and_true, or_true, by_test, not_both}
use Rattle.rules.specs.Net.{Net}
use Rattle.rules.specs.Game.{Side}
use Rattle.rules.specs.Play.{Marking}
use Rattle.rules.specs.Search.{Child}
use Rattle.rules.specs.Order.{Piece, decisive, piece_key, keys, larger, arrange}
use Rattle.theory.proofs.Locate.{words_equal}
use Rattle.theory.proofs.Sort.{Sorted, sort_permutes, sort_sorted, sort_stable}

-- ---- keys, by the first that differ

larger_cases : (a b : ℕ) (k l : List ℕ) → larger (a ∷ k) (b ∷ l) ≡ true → (ltb b a ≡ true) ⊎ ((a ≡ b) × (larger k l ≡ true))
unfolding larger
larger_cases a b k l e = ⊎_elim inl (λ f. let (x, y) = and_true (eqb a b) (larger k l) f in inr (eqb-true a b x, y)) (or_true (ltb b a) (eqb a b && larger k l) e)

not_larger : (a b : ℕ) (k l : List ℕ) → larger (a ∷ k) (b ∷ l) ≡ false → (ltb b a ≡ false) × (a ≡ b → larger k l ≡ false)
unfolding larger
not_larger a b k l e = go (ltb b a) (eqb a b) (larger k l) refl refl e
  where
    go : (x y z : Bool) → eqb a b ≡ y → larger k l ≡ z → x || (y && z) ≡ false → (x ≡ false) × (a ≡ b → larger k l ≡ false)
    go true y z f g e = absurd (true≢false e)
    go false true z f g e = (refl, λ q. g ∙ e)
    go false false z f g e = (refl, λ q. absurd (eqb-false a b f q))

larger_self : (k : List ℕ) → larger k k ≡ false
unfolding larger
larger_self [] = refl
larger_self (a ∷ k) = rw (le-ltb a a (omega arith), larger_self k) (by_test (eqb a a) (λ e. rw e) (λ e. rw e))

larger_both : (k l : List ℕ) → larger k l ≡ true → larger l k ≡ true → ⊥
unfolding larger
larger_both [] l e f = true≢false (sym e)
larger_both (a ∷ k) [] e f = true≢false (sym e)
larger_both (a ∷ k) (b ∷ l) e f = go (larger_cases a b k l e) (larger_cases b a l k f) (larger_both k l)
  where
    go : (ltb b a ≡ true) ⊎ ((a ≡ b) × (larger k l ≡ true)) → (ltb a b ≡ true) ⊎ ((b ≡ a) × (larger l k ≡ true)) → (larger k l ≡ true → larger l k ≡ true → ⊥) → ⊥
    go (inl x) (inl y) h = omega (arith, ltb-true)
    go (inl x) (inr y) h = omega (arith, ltb-true)
    go (inr x) (inl y) h = omega (arith, ltb-true)
    go (inr x) (inr y) h = h x.1 y.1

larger_one_way : (k l : List ℕ) → larger k l ≡ true → larger l k ≡ false
larger_one_way k l e = by_test (larger l k) (λ f. absurd (larger_both k l e f)) (λ f. f)

larger_through : (k l m : List ℕ) → length k ≡ length l → length l ≡ length m → larger m l ≡ false → larger l k ≡ false → larger m k ≡ false
unfolding larger
larger_through [] l [] p q e f = refl
larger_through [] l (c ∷ m) p q e f = refl
larger_through (a ∷ k) l [] p q e f = refl
larger_through (a ∷ k) [] (c ∷ m) p q e f = absurd (omega arith)
larger_through (a ∷ k) (b ∷ l) (c ∷ m) p q e f =
    by_test (larger (c ∷ m) (a ∷ k)) (λ g. absurd (go (larger_cases c a m k g) (not_larger c b m l e) (not_larger b a l k f) (larger_through k l m (omega arith) (omega arith)))) (λ g. g)
  where
    go : (ltb a c ≡ true) ⊎ ((c ≡ a) × (larger m k ≡ true)) → (ltb b c ≡ false) × (c ≡ b → larger m l ≡ false) → (ltb a b ≡ false) × (b ≡ a → larger l k ≡ false)
        → (larger m l ≡ false → larger l k ≡ false → larger m k ≡ false) → ⊥
    go (inl x) (y, u) (z, v) h = omega (arith, ltb-true, ltb-false)
    go (inr (x, t)) (y, u) (z, v) h = not_both (larger m k) t (h (u (omega (arith, ltb-false))) (v (omega (arith, ltb-false))))

-- ---- the chain

-- a key for each piece
keys_length : (net : Net) (h : List ℕ) (first : Option ℕ) (s : Side) (chain : List Piece) (c : Child Marking) → length (keys net h first s chain c) ≡ length chain
unfolding keys
keys_length net h first s [] c = refl
keys_length net h first s (x ∷ l) c =
    by_test (decisive x && not (eqb (piece_key net h first s x c) 0))
    (λ e. rw e (ap suc (length-replicate (length l) 0))) (λ e. rw e (ap suc (keys_length net h first s l c)))

module _ (net : Net) (h : List ℕ) (first : Option ℕ) (s : Side) (chain : List Piece) where
  abbrev keys_of : Child Marking → List ℕ
  keys_of = keys net h first s chain

  -- `y` has the larger keys
  abbrev pub sooner : Child Marking → Child Marking → Bool
  sooner y x = larger (keys_of y) (keys_of x)

  pub arrange_permutes : (l : List (Child Marking)) → Permᴰ (arrange net h first s chain l) l
  unfolding arrange
  arrange_permutes l = sort_permutes sooner l

  pub arrange_sorted : (l : List (Child Marking)) → Sorted sooner (arrange net h first s chain l)
  unfolding arrange
  arrange_sorted l =
      sort_sorted sooner (λ x y. larger_one_way (keys_of x) (keys_of y))
      (λ x y z. larger_through (keys_of x) (keys_of y) (keys_of z) (same_length x y) (same_length y z)) l
    where
      same_length : (x y : Child Marking) → length (keys_of x) ≡ length (keys_of y)
      same_length x y = keys_length net h first s chain x ∙ sym (keys_length net h first s chain y)

  -- the children with the keys `k` stand as they stood
  pub arrange_stable : (k : List ℕ) (l : List (Child Marking)) → filter (λ c. eq_list (keys_of c) k) (arrange net h first s chain l) ≡ filter (λ c. eq_list (keys_of c) k) l
  unfolding arrange
  arrange_stable k l =
      sort_stable sooner (λ c. eq_list (keys_of c) k)
      (λ x y a b. rw (words_equal (keys_of x) k a, words_equal (keys_of y) k b) (larger_self k)) l
