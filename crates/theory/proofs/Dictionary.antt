-- The dictionary of bounds: a word that has a place is found there, entering one moves no other and makes no repeat, so there are no more
-- entries than words that were ever entered.
-- Assumes nothing.
use mathlib.Core.Path.{◌≡◌, refl, sym, ◌∙◌}
use mathlib.Core.Bool.{Bool, true, false, cond}
use mathlib.Core.Option.{some}
use mathlib.Core.List.Memᴰ
use mathlib.Core.List.{List, [], ◌∷◌, ◌++◌}
use mathlib.Core.Logic.{◌⊎◌, inl, inr}
use Prim.Native.Nat.{ℕ, suc, ◌≤◌, ◌<◌}
use native.Mathlib.Omega.{arith}
use lib.Dec.{ltb, eqb}
use lib.ListN.{length, get_elem?, length-append}
use borrow.Author.Tests.{ltb-true, ltb-false, eqb-true, eqb-false}
use Rattle.rules.specs.Limits.{max_dictionary}
use Rattle.rules.specs.Game.{◌∈◌}
use Rattle.rules.specs.Memo.{place, enter}
use Rattle.theory.proofs.Flat.{get_elem_append}

pub place_found : (l : List ℕ) (w : ℕ) → place l w < length l → get_elem? l (place l w) ≡ some w
unfolding place
place_found [] w h = absurd (omega arith)
place_found (d ∷ l) w h = go (place_found l w) (eqb d w) refl h
  where
    go : (place l w < length l → get_elem? l (place l w) ≡ some w) → (x : Bool) → eqb d w ≡ x → cond x 0 (suc (place l w)) < suc (length l) → get_elem? (d ∷ l) (cond x 0 (suc (place l w))) ≡ some w
    go below true e h = rw (eqb-true d w e) refl
    go below false e h = below (omega arith)

place_in : (l : List ℕ) (w : ℕ) → w ∈ l → place l w < length l
unfolding place
place_in [] w i = absurd (Memᴰ.not-nil i)
place_in (d ∷ l) w i = go (place_in l w) (Memᴰ.cases_cons i) (eqb d w) refl
  where
    go : (w ∈ l → place l w < length l) → (w ≡ d) ⊎ (w ∈ l) → (x : Bool) → eqb d w ≡ x → cond x 0 (suc (place l w)) < suc (length l)
    go below i true e = omega arith
    go below (inl k) false e = absurd (eqb-false d w e (sym k))
    go below (inr k) false e = omega (arith, below k)

abbrev pub Distinct : List ℕ → Type 0
Distinct [] = Unit {0}
Distinct (d ∷ l) = (d ∈ l → ⊥) × Distinct l

distinct_snoc : (l : List ℕ) (w : ℕ) → (w ∈ l → ⊥) → Distinct l → Distinct (l ++ w ∷ [])
distinct_snoc [] w h d = (λ i. Memᴰ.not-nil i, tt)
distinct_snoc (x ∷ l) w h d = (λ i. go (Memᴰ.append_cases l i), distinct_snoc l w (λ i. h (Memᴰ.tail i)) d.1)
  where
    go : (x ∈ l) ⊎ (x ∈ w ∷ []) → ⊥
    go (inl i) = d.0 i
    go (inr i) = h (Memᴰ.head (sym (Memᴰ.eq_of_singleton i)))

-- what entering a word does
pub record Entered (l l' : List ℕ) (w : ℕ) : Type 0 where
  pub keeps : (i d : ℕ) → get_elem? l i ≡ some d → get_elem? l' i ≡ some d
  pub from : (d : ℕ) → d ∈ l' → (d ∈ l) ⊎ (d ≡ w)
  pub distinct : Distinct l → Distinct l'
  pub size : length l ≤ max_dictionary → length l' ≤ max_dictionary

pub enter_spec : (l : List ℕ) (w : ℕ) → Entered l (enter l w) w
unfolding enter
enter_spec l w = go (ltb (place l w) (length l)) refl (ltb (length l) max_dictionary) refl
  where
    same : Entered l l w
    same = record { keeps = λ i d h. h; from = λ d i. inl i; distinct = λ h. h; size = λ h. h }

    last : (d : ℕ) → (d ∈ l) ⊎ (d ∈ w ∷ []) → (d ∈ l) ⊎ (d ≡ w)
    last d (inl i) = inl i
    last d (inr i) = inr (Memᴰ.eq_of_singleton i)

    go : (x : Bool) → ltb (place l w) (length l) ≡ x → (y : Bool) → ltb (length l) max_dictionary ≡ y → Entered l (cond x l (cond y (l ++ w ∷ []) l)) w
    go true e y f = same
    go false e false f = same
    go false e true f = record {
      keeps = λ i d h. get_elem_append l (w ∷ []) i d h;
      from = λ d i. last d (Memᴰ.append_cases l i);
      distinct = distinct_snoc l w (λ i. let a = place_in l w i in let b = ltb-false (place l w) (length l) e in omega arith);
      size = λ h. let a = ltb-true (length l) max_dictionary f in omega (arith, length-append l (w ∷ []));
    }

-- Counting: distinct words, all of a list, are no more than the list.

without : (d : ℕ) (l : List ℕ) → d ∈ l → (k : List ℕ) × (length l ≡ suc (length k)) × ((x : ℕ) → x ∈ l → (x ≡ d → ⊥) → x ∈ k)
without d [] i = absurd (Memᴰ.not-nil i)
without d (y ∷ l) i = go (without d l) (Memᴰ.cases_cons i)
  where
    WithoutOne : List ℕ → Type 0
    WithoutOne z = (k : List ℕ) × (length z ≡ suc (length k)) × ((x : ℕ) → x ∈ z → (x ≡ d → ⊥) → x ∈ k)

    here : d ≡ y → (x : ℕ) → (x ≡ y) ⊎ (x ∈ l) → (x ≡ d → ⊥) → x ∈ l
    here e x (inl k) ne = absurd (ne (k ∙ sym e))
    here e x (inr k) ne = k

    there : (k : List ℕ) → ((x : ℕ) → x ∈ l → (x ≡ d → ⊥) → x ∈ k) → (x : ℕ) → (x ≡ y) ⊎ (x ∈ l) → (x ≡ d → ⊥) → x ∈ y ∷ k
    there k f x (inl e) ne = Memᴰ.head e
    there k f x (inr j) ne = Memᴰ.tail (f x j ne)

    go : (d ∈ l → WithoutOne l) → (d ≡ y) ⊎ (d ∈ l) → WithoutOne (y ∷ l)
    go below (inl e) = (l, refl, λ x j ne. here e x (Memᴰ.cases_cons j) ne)
    go below (inr j) = let (k, n, f) = below j in (y ∷ k, omega arith, λ x j ne. there k f x (Memᴰ.cases_cons j) ne)

pub distinct_count : (l k : List ℕ) → Distinct l → ((d : ℕ) → d ∈ l → d ∈ k) → length l ≤ length k
distinct_count [] k h f = omega arith
distinct_count (d ∷ l) k h f =
    let (k', n, g) = without d k (f d (Memᴰ.head refl)) in
    let b = distinct_count l k' h.1 (λ x i. g x (f x (Memᴰ.tail i)) (λ e. h.0 (rw e at i))) in
    omega arith
