-- Under the premises on play nothing gives cause for a refusal; so a run with no budget, which refuses only with a cause, ends in a value.
-- Assumes nothing.
use mathlib.Core.Path.{◌≡◌}
use mathlib.Core.Bool.{true≢false}
use mathlib.Core.List.Memᴰ
use mathlib.Core.List.{[]}
use mathlib.Core.Logic.{◌⊎◌, inl, inr}
use Prim.Native.Nat.{ℕ, zero, suc, ◌+◌}
use native.Mathlib.Omega.{arith}
use Rattle.rules.specs.declared.Refusal.{Refusal}
use Rattle.rules.specs.Game.{Game, ◌∈◌}
use Rattle.rules.specs.Search.{Outcome, value, spent, refused}
use Rattle.theory.specs.Regular.{Turn, Regular}
use Rattle.theory.specs.Causes.{Below, here, by, Cause, mixed, wide, stops, deep}
use Rattle.theory.proofs.Budget.{Unspent}
use Rattle.theory.proofs.Causes.{Blames}

-- A run that ends in a value.
abbrev pub Valued : {A : Type 0} → Outcome A → Type 0
Valued (value a) = Unit {0}
Valued spent = ⊥
Valued (refused r) = ⊥

pub valued : {A : Type 0} (P : Refusal → Type 0) (o : Outcome A) → Unspent o → Blames P o → ((r : Refusal) → P r → ⊥) → Valued o
valued P (value a) u b f = tt
valued P spent u b f = u
valued P (refused r) u b f = f r b

module _ (G : Game) where
  open G use {Pos, moves, play}

  -- a move of a regular position
  move_turn : (d t : ℕ) (p : Pos) → Regular G (suc d) p → t ∈ moves p → Turn G (Regular G d) p
  move_turn d t p h i = go h.turn
    where
      go : (moves p ≡ []) ⊎ Turn G (Regular G d) p → Turn G (Regular G d) p
      go (inl e) = absurd (Memᴰ.not-nil (rw e at i))
      go (inr k) = k

  -- a line from a regular position ends in one, at the depth that is left
  below_regular : {p q : Pos} {n : ℕ} (d : ℕ) → Below G p n q → Regular G d p → (e : ℕ) × (n + suc e ≡ d) × Regular G (suc e) q
  below_regular zero here h = absurd h
  below_regular (suc d) here h = (d, omega arith, h)
  below_regular zero (by i e b) h = absurd h
  below_regular {p} (suc d) (by {q} {t} i e b) h =
      let (x, f, r) = (move_turn d t p h i).next t i in
      let same : x ≡ q = cc in
      let (c, left, k) = below_regular {p = q} d b (rw same at r) in
      (c, omega arith, k)

  pub regular_uncaused : {p : Pos} {r : Refusal} (d : ℕ) → Regular G d p → Cause G d p r → ⊥
  regular_uncaused d h (mixed {q} b ne m) = let (e, left, k) = below_regular d b h in go e k.turn
    where
      go : (e : ℕ) → (moves q ≡ []) ⊎ Turn G (Regular G e) q → ⊥
      go e (inl x) = ne x
      go e (inr t) = let s = t.moves_of in true≢false (cc)
  regular_uncaused d h (wide b w) = let (e, left, k) = below_regular d b h in let n = k.narrow in omega arith
  regular_uncaused d h (stops {q} {t} b i s) =
      let (e, left, k) = below_regular d b h in
      let (x, f, r) = (move_turn e t q k i).next t i in
      true≢false (cc)
  regular_uncaused d h (deep b n) = let (e, left, k) = below_regular d b h in omega arith
