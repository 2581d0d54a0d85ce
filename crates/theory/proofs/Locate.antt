-- Where the memo looks: every row that it comes to is one of its rows, a row that it finds has the key, and a key whose first bucket has a free row stays in that bucket.
-- Assumes nothing.
use mathlib.Core.Path.{◌≡◌, refl, sym}
use mathlib.Core.Bool.{Bool, true, false, true≢false, cond, ◌&&◌}
use mathlib.Core.List.Memᴰ
use mathlib.Core.List.{List, [], ◌∷◌}
use mathlib.Core.Logic.{◌⊎◌, inl, inr}
use Prim.Native.Nat.{ℕ, zero, suc, ◌+◌, ◌*◌, ◌/◌, ◌^◌, ◌≤◌, ◌<◌}
use native.Mathlib.Omega.{arith}
use native.Mathlib.Nat.{mul_comm, suc-mul, mul-le-mul_right}
use native.Mathlib.Decide.{ℕ_discrete}
use lib.Dec.{ltb, eqb}
use lib.ListN.{get_or, take}
use borrow.Author.Tests.{eqb-true}
use Rattle.words.specs.Lists.{eq_list, range_from}
use Rattle.rules.specs.Game.{◌∈◌}
use Rattle.rules.specs.Memo.{mix, remix, Shape, rows, Memo, Look, hit, free, full, seen, or_look, row_key, row_meta, bucket, tag, holds, scan, locate, rank, weakest, slot}
use Rattle.theory.proofs.Words.{mix_lt, remix_lt, share_lt}
use Rattle.words.proofs.Lists.{and_true}

pub words_equal : (k l : List ℕ) → eq_list k l ≡ true → k ≡ l
unfolding eq_list
words_equal [] [] e = refl
words_equal [] (y ∷ l) e = cc
words_equal (x ∷ k) [] e = cc
words_equal (x ∷ k) (y ∷ l) e = let (a, b) = and_true (eqb x y) (eq_list k l) e in rw (eqb-true x y a, words_equal k l b) refl

range_in : (i n j : ℕ) → j ∈ range_from i n → (i ≤ j) × (j < i + n)
unfolding range_from
range_in i zero j h = absurd (Memᴰ.not-nil h)
range_in i (suc n) j h = go (range_in (suc i) n j) (Memᴰ.cases_cons h)
  where
    go : (j ∈ range_from (suc i) n → (suc i ≤ j) × (j < suc i + n)) → (j ≡ i) ⊎ (j ∈ range_from (suc i) n) → (i ≤ j) × (j < i + suc n)
    go below (inl e) = (omega arith, omega arith)
    go below (inr k) = let (a, b) = below k in (omega arith, omega arith)

module _ (s : Shape) (ways : 0 < s.ways) (buckets : 0 < s.buckets) (m : Memo) where
  -- a bucket's rows are rows
  bucket_row : (h i : ℕ) → h < 2 ^ 64 → i < bucket s h + s.ways → i < rows s
  bucket_row h i l k =
      let b = h * s.buckets / 2 ^ 64 in
      let c = mul-le-mul_right s.ways (share_lt h s.buckets l buckets) in
      let e = suc-mul b s.ways in
      let f = mul_comm s.ways s.buckets in
      omega arith

  module _ (k : List ℕ) where
    -- a row that has the key
    pub record Match (t i : ℕ) : Type 0 where
      pub tagged : get_or m.tags i 0 ≡ t
      pub keyed : row_key s m i ≡ take s.key_words k

    holds_match : (t i : ℕ) → holds s m k t i ≡ true → Match t i
    unfolding holds
    holds_match t i e =
        let (a, b) = and_true (eqb (get_or m.tags i 0) t && eq_list (row_key s m i) (take s.key_words k)) (ltb (row_meta s m i) (2 ^ 63)) e in
        let (c, d) = and_true (eqb (get_or m.tags i 0) t) (eq_list (row_key s m i) (take s.key_words k)) a in
        record { tagged = eqb-true _ t c; keyed = words_equal _ _ d }

    -- what a look at the rows from `b` to `e` finds
    abbrev LookWithin : ℕ → ℕ → ℕ → Look → Type 0
    LookWithin t b e (hit i) = (b ≤ i) × (i < e) × Match t i
    LookWithin t b e (free i) = (b ≤ i) × (i < e)
    LookWithin t b e full = Unit {0}

    scan_within : (t n b : ℕ) → LookWithin t b (b + n) (scan s m k t n b)
    unfolding scan seen
    scan_within t zero b = tt
    scan_within t (suc n) b = go (scan s m k t n (suc b)) (scan_within t n (suc b)) (holds s m k t b) refl (eqb (get_or m.tags b 0) 0)
      where
        wider : (x : Look) → LookWithin t (suc b) (suc b + n) x → LookWithin t b (b + suc n) x
        wider (hit i) (l, h, d) = (omega arith, omega arith, d)
        wider (free i) (l, h) = (omega arith, omega arith)
        wider full h = tt

        here : (x : Look) → LookWithin t (suc b) (suc b + n) x → LookWithin t b (b + suc n) (seen false true b x)
        here (hit i) h = wider (hit i) h
        here (free i) h = (omega arith, omega arith)
        here full h = (omega arith, omega arith)

        go : (x : Look) → LookWithin t (suc b) (suc b + n) x → (y : Bool) → holds s m k t b ≡ y → (z : Bool) → LookWithin t b (b + suc n) (seen y z b x)
        go x h true e z = (omega arith, omega arith, holds_match t b e)
        go x h false e true = here x h
        go x h false e false = wider x h

    -- a look that ends at a row
    abbrev AtRow : Look → Type 0
    AtRow (hit i) = Unit {0}
    AtRow (free i) = Unit {0}
    AtRow full = ⊥

    seen_ends : (x y : Bool) (b : ℕ) (r : Look) → (y ≡ true) ⊎ AtRow r → AtRow (seen x y b r)
    unfolding seen
    seen_ends true y b r h = tt
    seen_ends false true b (hit i) h = tt
    seen_ends false true b (free i) h = tt
    seen_ends false true b full h = tt
    seen_ends false false b r (inl e) = absurd (true≢false (sym e))
    seen_ends false false b r (inr h) = h

    -- rows of which one is free
    scan_ends : (t n b j : ℕ) → b ≤ j → j < b + n → get_or m.tags j 0 ≡ 0 → AtRow (scan s m k t n b)
    unfolding scan
    scan_ends t zero b j l h e = absurd (omega arith)
    scan_ends t (suc n) b j l h e = seen_ends (holds s m k t b) (eqb (get_or m.tags b 0) 0) b (scan s m k t n (suc b)) (go (ℕ_discrete b j) (λ (g : suc b ≤ j). scan_ends t n (suc b) j g (omega arith) e))
      where
        go : Dec (b ≡ j) → (suc b ≤ j → AtRow (scan s m k t n (suc b))) → (eqb (get_or m.tags b 0) 0 ≡ true) ⊎ AtRow (scan s m k t n (suc b))
        go (yes z) f = inl (rw (z, e) refl)
        go (no ne) f = inr (f (omega arith))

    -- a row of the first bucket
    abbrev pub InFirst : Look → Type 0
    InFirst (hit i) = (bucket s (mix k) ≤ i) × (i < bucket s (mix k) + s.ways)
    InFirst (free i) = (bucket s (mix k) ≤ i) × (i < bucket s (mix k) + s.ways)
    InFirst full = ⊥

    -- Where the first bucket has a free row, the memo looks no further (01's mark: storing in the second bucket when the first has a free way).
    pub locate_first : (j : ℕ) → bucket s (mix k) ≤ j → j < bucket s (mix k) + s.ways → get_or m.tags j 0 ≡ 0 → InFirst (locate s m k)
    unfolding locate or_look
    locate_first j l h e =
        go (scan s m k t s.ways (bucket s (mix k))) (scan_within t s.ways (bucket s (mix k))) (scan_ends t s.ways (bucket s (mix k)) j l h e)
      where
        t : ℕ
        t = tag s (mix k)

        go : (x : Look) → LookWithin t (bucket s (mix k)) (bucket s (mix k) + s.ways) x → AtRow x → InFirst (or_look x (scan s m k t s.ways (bucket s (remix (mix k)))))
        go (hit i) (a, b, d) o = (a, b)
        go (free i) w o = w
        go full w o = absurd o

    -- What the memo finds: a row with the key, a free row, or neither.
    abbrev pub LookFound : Look → Type 0
    LookFound (hit i) = (i < rows s) × Match (tag s (mix k)) i
    LookFound (free i) = i < rows s
    LookFound full = Unit {0}

    pub locate_found : LookFound (locate s m k)
    unfolding locate or_look
    locate_found = go (scan s m k t s.ways (bucket s h)) (scan_within t s.ways (bucket s h))
      where
        h : ℕ
        h = mix k

        t : ℕ
        t = tag s h

        found : (g : ℕ) → g < 2 ^ 64 → (x : Look) → LookWithin t (bucket s g) (bucket s g + s.ways) x → LookFound x
        found g l (hit i) (a, b, d) = (bucket_row g i l b, d)
        found g l (free i) (a, b) = bucket_row g i l b
        found g l full w = tt

        go : (x : Look) → LookWithin t (bucket s h) (bucket s h + s.ways) x → LookFound (or_look x (scan s m k t s.ways (bucket s (remix h))))
        go (hit i) w = found h (mix_lt k) (hit i) w
        go (free i) w = found h (mix_lt k) (free i) w
        go full w = found (remix h) (remix_lt h) (scan s m k t s.ways (bucket s (remix h))) (scan_within t s.ways (bucket s (remix h)))

    weakest_row : (i : ℕ) (l : List ℕ) → i < rows s → ((j : ℕ) → j ∈ l → j < rows s) → weakest s m i l < rows s
    unfolding weakest
    weakest_row i [] h f = h
    weakest_row i (j ∷ l) h f = weakest_row (cond (ltb (rank s m j) (rank s m i)) j i) l (go (ltb (rank s m j) (rank s m i))) (λ x k. f x (Memᴰ.tail k))
      where
        go : (x : Bool) → cond x j i < rows s
        go true = f j (Memᴰ.head refl)
        go false = h

    pub slot_row : (x : Look) → LookFound x → slot s m k x < rows s
    unfolding slot
    slot_row (hit i) w = w.0
    slot_row (free i) w = w
    slot_row full w = weakest_row _ _ (bucket_row h (bucket s h) (mix_lt k) (omega arith)) (λ j i. go j (Memᴰ.append_cases (range_from (bucket s h) s.ways) i))
      where
        h : ℕ
        h = mix k

        go : (j : ℕ) → (j ∈ range_from (bucket s h) s.ways) ⊎ (j ∈ range_from (bucket s (remix h)) s.ways) → j < rows s
        go j (inl i) = bucket_row h j (mix_lt k) (range_in _ _ j i).1
        go j (inr i) = bucket_row (remix h) j (remix_lt h) (range_in _ _ j i).1
