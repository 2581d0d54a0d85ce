-- The children that a node searches: they are the moves' children, but for some that lose at once.
-- Assumes nothing.
use mathlib.Core.Path.{◌≡◌, refl}
use mathlib.Core.Bool.{Bool, true, false, ◌&&◌}
use mathlib.Core.List.Memᴰ
use mathlib.Core.List.{List, [], ◌∷◌}
use mathlib.Core.Logic.{◌⊎◌, inl, inr}
use mathlib.Core.Option.{some}
use Prim.Native.Nat.{ℕ}
use Rattle.rules.specs.Game.{Game, Side, opp, Played, to, stopped, ◌∈◌, Le, worst}
use Rattle.rules.specs.Filter.{Verdict, keep, drop, refuse, wins}
use Rattle.rules.specs.Search.{Child, Settings, Expanded, halted, won, children, add, expanded, played, expand, sifted, sift, filtered}
use Rattle.rules.specs.Forces.{Forces}
use Rattle.theory.proofs.Filter.{wins_final}
use Rattle.theory.proofs.Order.{flip_le}
use Rattle.theory.proofs.Forces.{reply, weaken}
use Rattle.theory.proofs.Laws.{Lawful}
use Rattle.words.proofs.Lists.{and_true}

-- `l` are moves of `p`, which is side `s`'s.
module _ (G : Game) (S : Settings G) (M : Lawful G S) (s : Side) (p : G.Pos) where
  open G use {Value, Pos, moves, mover, play, score}
  open S.policy use {must_win, lost}
  open M use {rules as R}
  open M.order use {lost_forces}

  -- `t` ends the game at the best bound
  pub record Won (l : List ℕ) (t : ℕ) : Type 0 where
    pub here : t ∈ l
    pub next : Pos
    pub plays : play p t ≡ to next
    pub ends : moves next ≡ []
    pub best : score next ≡ worst G (opp s)

  -- `q` is among the children `c`, or loses at once
  abbrev pub KeptOrLoses : List (Child Pos) → Pos → Type 0
  KeptOrLoses c q = ((k : Child Pos) × (k ∈ c) × (q ≡ k.pos)) ⊎ Forces G (opp s) (worst G s) q

  kept_more : (k : Child Pos) (c : List (Child Pos)) (q : Pos) → KeptOrLoses c q → KeptOrLoses (k ∷ c) q
  kept_more k c q (inl x) = inl (x.0, Memᴰ.tail x.1, x.2)
  kept_more k c q (inr f) = inr f

  -- `c` are the children by the moves `l`, but for some that lose at once
  pub record Children (l : List ℕ) (c : List (Child Pos)) : Type 0 where
    pub real : (k : Child Pos) → k ∈ c → (k.move ∈ l) × (play p k.move ≡ to k.pos)
    pub covers : (t : ℕ) → t ∈ l → (q : Pos) × (play p t ≡ to q) × KeptOrLoses c q

  abbrev pub Prepared : List ℕ → Expanded Pos → Type 0
  Prepared l (halted r) = Unit {0}
  Prepared l (won t) = Won l t
  Prepared l (children c) = Children l c

  prepared_add : (t : ℕ) (q : Pos) (l : List ℕ) (x : Expanded Pos) → play p t ≡ to q → Prepared l x → Prepared (t ∷ l) (add (record { move = t; pos = q }) x)
  unfolding add
  prepared_add t q l (halted r) e h = tt
  prepared_add t q l (won u) e h = record { here = Memᴰ.tail h.here; next = h.next; plays = h.plays; ends = h.ends; best = h.best }
  prepared_add t q l (children c) e h = record { real = λ k i. real k (Memᴰ.cases_cons i); covers = λ u i. covers u (Memᴰ.cases_cons i) }
    where
      new : Child Pos
      new = record { move = t; pos = q }

      real : (k : Child Pos) → (k ≡ new) ⊎ (k ∈ c) → (k.move ∈ t ∷ l) × (play p k.move ≡ to k.pos)
      real k (inl y) = rw y (Memᴰ.head refl, e)
      real k (inr y) = let (i, f) = h.real k y in (Memᴰ.tail i, f)

      covers : (u : ℕ) → (u ≡ t) ⊎ (u ∈ l) → (r : Pos) × (play p u ≡ to r) × KeptOrLoses (new ∷ c) r
      covers u (inl y) = rw y (q, e, inl (new, Memᴰ.head refl, refl))
      covers u (inr y) = let (r, f, z) = h.covers u y in (r, f, kept_more new c r z)

  pub expand_prepared : (l : List ℕ) → Prepared l (expand G S s p l)
  unfolding expand played expanded
  expand_prepared [] = record { real = λ k i. absurd (Memᴰ.not-nil i); covers = λ t i. absurd (Memᴰ.not-nil i) }
  expand_prepared (t ∷ l) = go (play p t) refl (expand G S s p l) (expand_prepared l)
    where
      test : (q : Pos) (y : Expanded Pos) → play p t ≡ to q → Prepared l y → (b : Bool) → (must_win && wins G s q) ≡ b → Prepared (t ∷ l) (expanded b t q y)
      test q y e h false w = prepared_add t q l y e h
      test q y e h true w =
          let (o, v) = wins_final G R s q (and_true must_win (wins G s q) w).1 in
          record { here = Memᴰ.head refl; next = q; plays = e; ends = o; best = v }

      go : (x : Played Pos) → play p t ≡ x → (y : Expanded Pos) → Prepared l y → Prepared (t ∷ l) (played G S s t x y)
      go (stopped r) e y h = tt
      go (to q) e y h = test q y e h (must_win && wins G s q) refl

  -- what the filter leaves of the children `c`
  record Sifted (c d : List (Child Pos)) : Type 0 where
    from : (k : Child Pos) → k ∈ d → k ∈ c
    kept : (k : Child Pos) → k ∈ c → KeptOrLoses d k.pos

  abbrev SiftedTo : List (Child Pos) → Expanded Pos → Type 0
  SiftedTo c (halted r) = Unit {0}
  SiftedTo c (won t) = ⊥
  SiftedTo c (children d) = Sifted c d

  sift_keep : (k : Child Pos) (c : List (Child Pos)) (x : Expanded Pos) → SiftedTo c x → SiftedTo (k ∷ c) (add k x)
  unfolding add
  sift_keep k c (halted r) h = tt
  sift_keep k c (won t) h = h
  sift_keep k c (children d) h = record { from = λ j i. from j (Memᴰ.cases_cons i); kept = λ j i. kept j (Memᴰ.cases_cons i) }
    where
      from : (j : Child Pos) → (j ≡ k) ⊎ (j ∈ d) → j ∈ k ∷ c
      from j (inl e) = Memᴰ.head e
      from j (inr i) = Memᴰ.tail (h.from j i)

      kept : (j : Child Pos) → (j ≡ k) ⊎ (j ∈ c) → KeptOrLoses (k ∷ d) j.pos
      kept j (inl e) = inl (j, Memᴰ.head e, refl)
      kept j (inr i) = kept_more k d j.pos (h.kept j i)

  sift_drop : (k : Child Pos) (c : List (Child Pos)) (x : Expanded Pos) → Forces G (opp s) (worst G s) k.pos → SiftedTo c x → SiftedTo (k ∷ c) x
  sift_drop k c (halted r) f h = tt
  sift_drop k c (won t) f h = h
  sift_drop k c (children d) f h = record { from = λ j i. Memᴰ.tail (h.from j i); kept = λ j i. kept j (Memᴰ.cases_cons i) }
    where
      kept : (j : Child Pos) → (j ≡ k) ⊎ (j ∈ c) → KeptOrLoses d j.pos
      kept j (inl e) = rw e (inr f)
      kept j (inr i) = h.kept j i

  sift_sound : (c : List (Child Pos)) → SiftedTo c (sift G S s c)
  unfolding sift sifted
  sift_sound [] = record { from = λ k i. i; kept = λ k i. inl (k, i, refl) }
  sift_sound (k ∷ c) = go (lost s k.pos) refl (sift G S s c) (sift_sound c)
    where
      go : (v : Verdict) → lost s k.pos ≡ v → (x : Expanded Pos) → SiftedTo c x → SiftedTo (k ∷ c) (sifted v k x)
      go keep e x h = sift_keep k c x h
      go drop e x h = sift_drop k c x (lost_forces s k.pos e) h
      go (refuse r) e x h = tt

  sift_prepared : (l : List ℕ) (c : List (Child Pos)) (x : Expanded Pos) → Children l c → SiftedTo c x → Prepared l x
  sift_prepared l c (halted r) h k = tt
  sift_prepared l c (won t) h k = absurd k
  sift_prepared l c (children d) h k = record { real = λ j i. h.real j (k.from j i); covers = λ t i. let (q, e, z) = h.covers t i in (q, e, go q z) }
    where
      go : (q : Pos) → KeptOrLoses c q → KeptOrLoses d q
      go q (inl x) = rw x.2 (k.kept x.0 x.1)
      go q (inr f) = inr f

  pub filtered_prepared : (b : Bool) (l : List ℕ) (x : Expanded Pos) → Prepared l x → Prepared l (filtered G S b s x)
  unfolding filtered
  filtered_prepared b l (halted r) h = tt
  filtered_prepared b l (won t) h = h
  filtered_prepared true l (children c) h = sift_prepared l c (sift G S s c) h (sift_sound c)
  filtered_prepared false l (children c) h = h

  -- if no child passes `v`, the position does not
  pub children_cap : (c : List (Child Pos)) (v : Value) → mover p ≡ some s → Children (moves p) c → Le G s (worst G s) v → ((k : Child Pos) → k ∈ c → Forces G (opp s) v k.pos) → Forces G (opp s) v p
  children_cap c v m h l f = reply G R m (λ t i. let (q, e, z) = h.covers t i in (q, e)) go
    where
      kept : (q : Pos) → KeptOrLoses c q → Forces G (opp s) v q
      kept q (inl x) = rw x.2 (f x.0 x.1)
      kept q (inr g) = weaken G R (flip_le G R l) g

      go : (t : ℕ) (q : Pos) → t ∈ moves p → play p t ≡ to q → Forces G (opp s) v q
      go t q i e =
          let (r, e', z) = h.covers t i in
          let same : q ≡ r = cc in
          rw same (kept r z)
