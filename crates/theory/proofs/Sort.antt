-- Sorting by insertion: the result is a permutation, it is sorted, and ties keep their order.
-- Assumes nothing.
use mathlib.Core.Path.{◌≡◌, refl, sym, ap, ◌∙◌}
use mathlib.Core.Bool.{Bool, true, false}
use mathlib.Core.List.Memᴰ
use mathlib.Core.List.Permᴰ
use mathlib.Core.List.{List, [], ◌∷◌, Permᴰ}
use mathlib.Core.Logic.{◌⊎◌, inl, inr, ⊎_elim}
use Rattle.words.specs.Lists.{filter}
use Rattle.words.proofs.Lists.{not_both, by_test, filter_yes, filter_no}
use Rattle.rules.specs.Game.{◌∈◌}
use Rattle.rules.specs.Sort.{placed, insert, sort}

-- what a test leaves of two lists is the same behind one more
same_behind : {A : Type 0} (test : A → Bool) (y : A) (k l : List A) → filter test k ≡ filter test l → filter test (y ∷ k) ≡ filter test (y ∷ l)
unfolding filter
same_behind test y k l e = rw e

module _ {A : Type 0} (sooner : A → A → Bool) where
  insert_in : (x : A) (l : List A) (a : A) → a ∈ insert sooner x l → (a ≡ x) ⊎ (a ∈ l)
  unfolding insert placed
  insert_in x [] a i = Memᴰ.cases_cons i
  insert_in x (y ∷ l) a i = go (insert_in x l a) (sooner y x) i
    where
      later : (a ≡ x) ⊎ (a ∈ l) → (a ≡ x) ⊎ (a ∈ y ∷ l)
      later (inl e) = inl e
      later (inr j) = inr (Memᴰ.tail j)

      first : (a ∈ insert sooner x l → (a ≡ x) ⊎ (a ∈ l)) → (a ≡ y) ⊎ (a ∈ insert sooner x l) → (a ≡ x) ⊎ (a ∈ y ∷ l)
      first below (inl e) = inr (Memᴰ.head e)
      first below (inr j) = later (below j)

      go : (a ∈ insert sooner x l → (a ≡ x) ⊎ (a ∈ l)) → (b : Bool) → a ∈ placed sooner b x y l (insert sooner x l) → (a ≡ x) ⊎ (a ∈ y ∷ l)
      go below true j = first below (Memᴰ.cases_cons j)
      go below false j = Memᴰ.cases_cons j

  in_insert : (x : A) (l : List A) (a : A) → (a ≡ x) ⊎ (a ∈ l) → a ∈ insert sooner x l
  unfolding insert placed
  in_insert x [] a (inl e) = Memᴰ.head e
  in_insert x [] a (inr i) = Memᴰ.tail i
  in_insert x (y ∷ l) a i = go (in_insert x l a) (sooner y x) i
    where
      rest : ((a ≡ x) ⊎ (a ∈ l) → a ∈ insert sooner x l) → (a ≡ y) ⊎ (a ∈ l) → a ∈ y ∷ insert sooner x l
      rest below (inl e) = Memᴰ.head e
      rest below (inr j) = Memᴰ.tail (below (inr j))

      go : ((a ≡ x) ⊎ (a ∈ l) → a ∈ insert sooner x l) → (b : Bool) → (a ≡ x) ⊎ (a ∈ y ∷ l) → a ∈ placed sooner b x y l (insert sooner x l)
      go below true (inl e) = Memᴰ.tail (below (inl e))
      go below true (inr j) = rest below (Memᴰ.cases_cons j)
      go below false (inl e) = Memᴰ.head e
      go below false (inr j) = Memᴰ.tail j

  pub sort_in : (l : List A) (a : A) → (a ∈ l → a ∈ sort sooner l) × (a ∈ sort sooner l → a ∈ l)
  unfolding sort
  sort_in [] a = (λ i. i, λ i. i)
  sort_in (x ∷ l) a = let (f, g) = sort_in l a in (λ i. in_insert x (sort sooner l) a (there f (Memᴰ.cases_cons i)), λ i. back g (insert_in x (sort sooner l) a i))
    where
      there : (a ∈ l → a ∈ sort sooner l) → (a ≡ x) ⊎ (a ∈ l) → (a ≡ x) ⊎ (a ∈ sort sooner l)
      there f (inl e) = inl e
      there f (inr i) = inr (f i)

      back : (a ∈ sort sooner l → a ∈ l) → (a ≡ x) ⊎ (a ∈ sort sooner l) → a ∈ x ∷ l
      back g (inl e) = Memᴰ.head e
      back g (inr i) = Memᴰ.tail (g i)

  -- A permutation: each stands in the result as often as before.

  insert_permutes : (x : A) (l : List A) → Permᴰ (insert sooner x l) (x ∷ l)
  unfolding insert placed
  insert_permutes x [] = Permᴰ.refl (x ∷ [])
  insert_permutes x (y ∷ l) = go (sooner y x) (insert_permutes x l)
    where
      go : (b : Bool) → Permᴰ (insert sooner x l) (x ∷ l) → Permᴰ (placed sooner b x y l (insert sooner x l)) (x ∷ y ∷ l)
      go true p = Permᴰ.trans (Permᴰ.cons refl p) (Permᴰ.swap refl refl)
      go false p = Permᴰ.refl (x ∷ y ∷ l)

  pub sort_permutes : (l : List A) → Permᴰ (sort sooner l) l
  unfolding sort
  sort_permutes [] = Permᴰ.nil
  sort_permutes (x ∷ l) = Permᴰ.trans (insert_permutes x (sort sooner l)) (Permᴰ.cons refl (sort_permutes l))

  -- Sorted: nobody stands before one that goes sooner.

  abbrev pub Sorted : List A → Type 0
  Sorted [] = Unit {0}
  Sorted (x ∷ l) = ((y : A) → y ∈ l → sooner y x ≡ false) × Sorted l

  -- where not both go sooner than each other, and what does not go sooner than one that does not go sooner than a third, does not go sooner than that
  module _ (one_way : (x y : A) → sooner x y ≡ true → sooner y x ≡ false) (through : (x y z : A) → sooner z y ≡ false → sooner y x ≡ false → sooner z x ≡ false) where
    insert_sorted : (x : A) (l : List A) → Sorted l → Sorted (insert sooner x l)
    unfolding insert placed
    insert_sorted x [] h = (λ y i. absurd (Memᴰ.not-nil i), tt)
    insert_sorted x (y ∷ l) h = go (sooner y x) refl (insert_sorted x l h.1)
      where
        go : (b : Bool) → sooner y x ≡ b → Sorted (insert sooner x l) → Sorted (placed sooner b x y l (insert sooner x l))
        go true e r = (λ z i. ⊎_elim (λ k. ap (λ (w : A). sooner w y) k ∙ one_way y x e) (h.0 z) (insert_in x l z i), r)
        go false e r = (λ z i. ⊎_elim (λ k. ap (λ (w : A). sooner w x) k ∙ e) (λ j. through x y z (h.0 z j) e) (Memᴰ.cases_cons i), h)

    pub sort_sorted : (l : List A) → Sorted (sort sooner l)
    unfolding sort
    sort_sorted [] = tt
    sort_sorted (x ∷ l) = insert_sorted x (sort sooner l) (sort_sorted l)

  -- Stable: those of which none goes sooner than another stand as they stood before.
  module _ (tied : A → Bool) (ties : (x y : A) → tied x ≡ true → tied y ≡ true → sooner x y ≡ false) where
    insert_stable : (x : A) (l : List A) → filter tied (insert sooner x l) ≡ filter tied (x ∷ l)
    unfolding insert placed
    insert_stable x [] = refl
    insert_stable x (y ∷ l) = go (sooner y x) refl (insert_stable x l)
      where
        apart : sooner y x ≡ true → tied x ≡ true → tied y ≡ false
        apart e a = by_test (tied y) (λ b. absurd (not_both (sooner y x) e (ties y x b a))) (λ b. b)

        behind : (a : Bool) → tied x ≡ a → sooner y x ≡ true → filter tied (y ∷ x ∷ l) ≡ filter tied (x ∷ y ∷ l)
        behind true a e = filter_no tied y (x ∷ l) (apart e a) ∙ filter_yes tied x l a ∙ sym (filter_yes tied x (y ∷ l) a ∙ ap (λ (k : List A). x ∷ k) (filter_no tied y l (apart e a)))
        behind false a e = same_behind tied y (x ∷ l) l (filter_no tied x l a) ∙ sym (filter_no tied x (y ∷ l) a)

        go : (b : Bool) → sooner y x ≡ b → filter tied (insert sooner x l) ≡ filter tied (x ∷ l) → filter tied (placed sooner b x y l (insert sooner x l)) ≡ filter tied (x ∷ y ∷ l)
        go true e r = same_behind tied y (insert sooner x l) (x ∷ l) r ∙ behind (tied x) refl e
        go false e r = refl

    pub sort_stable : (l : List A) → filter tied (sort sooner l) ≡ filter tied l
    unfolding sort
    sort_stable [] = refl
    sort_stable (x ∷ l) = insert_stable x (sort sooner l) ∙ same_behind tied x (sort sooner l) l (sort_stable l)
