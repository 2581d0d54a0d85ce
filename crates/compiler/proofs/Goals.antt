-- What places and transitions pay, row by row. Assumes nothing.
use mathlib.Core.Path.{◌≡◌, refl, sym, ap, subst, ◌∙◌}
use mathlib.Core.Bool.{Bool, true, false, cond, ◌&&◌}
use mathlib.Core.List.Memᴰ
use mathlib.Core.List.{List, [], ◌∷◌, ◌++◌, map, map-append, Memᴰ}
use Prim.Native.Nat.{ℕ, ◌+◌, ◌*◌, ◌^◌, ◌≤◌, ◌<◌, zero-le}
use native.Mathlib.Nat.{mul-suc, mul-le-mul, mul-le-mul_left, le_trans, le_of_eq}
use native.Mathlib.Omega.{arith}
use lib.Dec.{eqb}
use lib.IntN.{ℤ, pos, nat_abs, ◌+ℤ◌, ◌*ℤ◌, +ℤ_idr, +ℤ_idl}
use lib.Ieee.{Float, binary64, add, mul, of_bits}
use lib.ListN.{length, get_or, take, drop, length-append}
use lib.Seq.{length-take-le, get_or-take}
use Rattle.words.specs.Lists.{filter}
use Rattle.words.proofs.Lists.{mem_get_d, filter-append, filter_in, filter-length}
use Rattle.whole.specs.Int.{sum_z}
use Rattle.whole.specs.Whole.{whole_f, Small, Whole}
use Rattle.whole.proofs.Ints.{nat_abs_add, nat_abs_mul, sum-append}
use Rattle.whole.proofs.Wholes.{zero_whole, add_small, add-mul_whole}
use Rattle.rules.specs.Limits.{max_number, max_rows}
use Rattle.rules.specs.Net.{Row, Net, pay, output, is, rows_of, arcs}
use Rattle.rules.specs.Goals.{reward_at, paid}
use Rattle.rows.specs.Packed.{unpack, net_in}
use Rattle.indexed.specs.Limited.{Limited}
use Rattle.compiler.specs.Goals.{reward_part, paid_part}
use Rattle.indexed.proofs.More.{net_more, rows_split}

-- ---- sums over rows that pass two tests

module _ (f : Row → ℤ) (a b : Row → Bool) where
  -- the sum of `f` over the rows of `l` that pass both
  abbrev pub picked : List Row → ℤ
  picked l = sum_z (map f (filter b (filter a l)))

  picked_append : (l m : List Row) → picked (l ++ m) ≡ picked l +ℤ picked m
  picked_append l m =
      ap (λ (z : List Row). sum_z (map f z)) (ap (filter b) (filter-append a l m) ∙ filter-append b (filter a l) (filter a m))
      ∙ ap sum_z (map-append f (filter b (filter a l)) (filter b (filter a m))) ∙ sum-append (map f (filter b (filter a l))) (map f (filter b (filter a m)))

  picked_one : (r : Row) → picked (r ∷ []) ≡ cond (a r && b r) (f r) (pos 0)
  unfolding filter sum_z
  picked_one r = go (a r) refl (b r) refl
    where
      go : (x : Bool) → a r ≡ x → (y : Bool) → b r ≡ y → picked (r ∷ []) ≡ cond (x && y) (f r) (pos 0)
      go true e true h = rw (e, h) (+ℤ_idr (f r))
      go true e false h = rw (e, h) refl
      go false e y h = rw e refl

  pub picked_more : (l : List Row) (r : Row) → picked (l ++ r ∷ []) ≡ picked l +ℤ cond (a r && b r) (f r) (pos 0)
  picked_more l r = picked_append l (r ∷ []) ∙ ap (λ (z : ℤ). picked l +ℤ z) (picked_one r)

  sum_size : (m : ℕ) (l : List Row) → ((r : Row) → Memᴰ r l → nat_abs (f r) ≤ m) → nat_abs (sum_z (map f l)) ≤ m * length l
  unfolding sum_z
  sum_size m [] h = zero-le
  sum_size m (r ∷ l) h =
      omega (arith, nat_abs_add (f r) (sum_z (map f l)), mul-suc m (length l), h r (Memᴰ.head refl), sum_size m l (λ q i. h q (Memᴰ.tail i)))

  -- it is small where each is, and few pass
  pub picked_size : (m : ℕ) (l : List Row) → ((r : Row) → Memᴰ r l → nat_abs (f r) ≤ m) → nat_abs (picked l) ≤ m * length (filter b (filter a l))
  picked_size m l h = sum_size m (filter b (filter a l)) (λ r i. h r (filter_in a l (filter_in b (filter a l) i)))

-- ---- the words' next row

mem_left : {r : Row} (l m : List Row) → Memᴰ r l → Memᴰ r (l ++ m)
mem_left {r = r} [] m x' = elim x' [ ]
mem_left (x ∷ l) m (Memᴰ.head e) = Memᴰ.head e
mem_left (x ∷ l) m (Memᴰ.tail i) = Memᴰ.tail (mem_left l m i)

module _ (f : Row → ℤ) (a b : Row → Bool) (i n : ℕ) (ws : List ℕ) (h : i ≤ n) where
  part_count : length (filter b (filter a (map unpack (take i ws)))) ≤ length (filter b (filter a (map unpack (take n ws))))
  part_count =
      let l : List Row = map unpack (take i ws) in
      let m : List Row = map unpack (drop i (take n ws)) in
      let e : length (filter b (filter a (map unpack (take n ws)))) ≡ length (filter b (filter a l)) + length (filter b (filter a m)) = ap (λ (z : List Row). length (filter b (filter a z))) (rows_split i n ws h) ∙ ap (λ (z : List Row). length (filter b z)) (filter-append a l m) ∙ ap length (filter-append b (filter a l) (filter a m)) ∙ length-append (filter b (filter a l)) (filter b (filter a m)) in
      omega arith

  -- the sum over the first rows is small
  pub picked_small : (m : ℕ) → ((r : Row) → Memᴰ r (map unpack (take n ws)) → nat_abs (f r) ≤ m) → length (filter b (filter a (map unpack (take n ws)))) ≤ max_rows → m * 64 < 2 ^ 52 → Small (picked f a b (map unpack (take i ws)))
  picked_small m each few fits =
      let l : List Row = map unpack (take i ws) in
      let s : nat_abs (picked f a b l) ≤ m * length (filter b (filter a l)) = picked_size f a b m l (λ r j. each r (subst (Memᴰ r) (sym (rows_split i n ws h)) (mem_left l (map unpack (drop i (take n ws))) j))) in
      let t : m * length (filter b (filter a l)) ≤ m * 64 = mul-le-mul_left m (le_trans part_count few) in
      record { size = omega arith }

module _ (f : Row → ℤ) (a b : Row → Bool) (i n m : ℕ) (ws : List ℕ) where
  pub picked_next : (x y : Float) → i < length ws → i + 1 ≤ n → ((r : Row) → Memᴰ r (map unpack (take n ws)) → nat_abs (f r) ≤ m) → length (filter b (filter a (map unpack (take n ws)))) ≤ max_rows → m * 64 < 2 ^ 52 →
      Whole x (picked f a b (map unpack (take i ws))) → Whole y (cond (a (unpack (get_or ws i 0)) && b (unpack (get_or ws i 0))) (f (unpack (get_or ws i 0))) (pos 0)) → Whole (add binary64 x y) (picked f a b (map unpack (take (i + 1) ws)))
  picked_next x y h l each few fits v w =
      let r : Row = unpack (get_or ws i 0) in
      let e : picked f a b (map unpack (take (i + 1) ws)) ≡ picked f a b (map unpack (take i ws)) +ℤ cond (a r && b r) (f r) (pos 0) = ap (λ (net : Net). picked f a b net.rows) (net_more 0 0 i ws h) ∙ picked_more f a b (map unpack (take i ws)) r in
      subst (Whole (add binary64 x y)) (sym e) (add_small v w (subst Small e (picked_small f a b (i + 1) n ws l m each few fits)))

-- ---- what a token on a place pays

module _ (ts ps n : ℕ) (ws : List ℕ) (limits : Limited (net_in ts ps n ws)) (p : ℕ) where
  reward_few : length (filter (λ (r : Row). eqb r.place p) (filter (is pay) (map unpack (take n ws)))) ≤ max_rows
  unfolding rows_of
  reward_few = le_trans (filter-length (λ (r : Row). eqb r.place p) (filter (is pay) (map unpack (take n ws)))) limits.pays_fit

  pub reward_none : Whole (of_bits binary64 0) (reward_at (net_in ts ps 0 ws) p)
  unfolding reward_at rows_of filter sum_z
  reward_none = zero_whole

  pub reward_next : (i : ℕ) (x y : Float) → i < length ws → i + 1 ≤ n → Whole x (reward_at (net_in ts ps i ws) p) → Whole y (reward_part p (unpack (get_or ws i 0))) → Whole (add binary64 x y) (reward_at (net_in ts ps (i + 1) ws) p)
  unfolding reward_at rows_of reward_part
  reward_next i x y h l v w =
      picked_next (λ (r : Row). r.n) (is pay) (λ (r : Row). eqb r.place p) i n max_number ws x y h l limits.row_numbers reward_few (omega arith) v w

  reward_size : nat_abs (reward_at (net_in ts ps n ws) p) ≤ max_number * max_rows
  unfolding reward_at rows_of
  reward_size =
      let s : nat_abs (picked (λ (r : Row). r.n) (is pay) (λ (r : Row). eqb r.place p) (map unpack (take n ws))) ≤ max_number * length (filter (λ (r : Row). eqb r.place p) (filter (is pay) (map unpack (take n ws)))) = picked_size (λ (r : Row). r.n) (is pay) (λ (r : Row). eqb r.place p) max_number (map unpack (take n ws)) limits.row_numbers in
      omega (arith, reward_few)

-- ---- what a transition pays

module _ (ts ps n : ℕ) (ws : List ℕ) (limits : Limited (net_in ts ps n ws)) (t : ℕ) where
  abbrev worth : Row → ℤ
  worth r = reward_at (net_in ts ps n ws) r.place *ℤ r.n

  -- what the first rows of a transition pay
  abbrev pub paid_in : ℕ → ℤ
  paid_in i = picked worth (is output) (λ (r : Row). eqb r.at t) (map unpack (take i ws))

  pub paid_all : paid_in n ≡ paid (net_in ts ps n ws) t
  unfolding paid arcs rows_of
  paid_all = refl

  worth_size : (r : Row) → Memᴰ r (map unpack (take n ws)) → nat_abs (worth r) ≤ max_number * max_rows * max_number
  worth_size r i =
      let e : nat_abs (worth r) ≡ nat_abs (reward_at (net_in ts ps n ws) r.place) * nat_abs r.n = nat_abs_mul (reward_at (net_in ts ps n ws) r.place) r.n in
      le_trans (le_of_eq e) (mul-le-mul (reward_size ts ps n ws limits r.place) (limits.row_numbers r i))

  pub paid_none : Whole (of_bits binary64 0) (paid_in 0)
  unfolding filter sum_z
  paid_none = zero_whole

  pub paid_next : (i : ℕ) (x y : Float) → i < length ws → i + 1 ≤ n → Whole x (paid_in i) → Whole y (paid_part (net_in ts ps n ws) t (unpack (get_or ws i 0))) → Whole (add binary64 x y) (paid_in (i + 1))
  unfolding paid_part arcs rows_of
  paid_next i x y h l v w =
      picked_next worth (is output) (λ (r : Row). eqb r.at t) i n (max_number * max_rows * max_number) ws x y h l worth_size (limits.outputs_fit t) (omega arith) v w

  -- a row of the transition, and any other
  module _ (w : ℕ) where
    pub paid_other : is output (unpack w) && eqb (unpack w).at t ≡ false → Whole (of_bits binary64 0) (paid_part (net_in ts ps n ws) t (unpack w))
    unfolding paid_part
    paid_other e = rw e zero_whole

    pub paid_here : (x y : Float) → is output (unpack w) && eqb (unpack w).at t ≡ true → Memᴰ (unpack w) (map unpack (take n ws)) →
        Whole x (reward_at (net_in ts ps n ws) (unpack w).place) → Whole y (unpack w).n → Whole (add binary64 (of_bits binary64 0) (mul binary64 x y)) (paid_part (net_in ts ps n ws) t (unpack w))
    unfolding paid_part
    paid_here x y e i v u =
        let s : Small (worth (unpack w)) = record { size = omega (arith, worth_size (unpack w) i) } in
        rw e (record { is = add-mul_whole zero_whole v u s ∙ ap whole_f (+ℤ_idl (worth (unpack w))); small = s })

-- ---- one row

module _ (p w : ℕ) where
  pub reward_not : is pay (unpack w) && eqb (unpack w).place p ≡ false → Whole (of_bits binary64 0) (reward_part p (unpack w))
  unfolding reward_part
  reward_not e = rw e zero_whole

  pub reward_here : (x : Float) → is pay (unpack w) && eqb (unpack w).place p ≡ true → Whole x (unpack w).n → Whole x (reward_part p (unpack w))
  unfolding reward_part
  reward_here x e v = rw e v

-- a row of the words is a row of the net
pub row_in : (i n : ℕ) (ws : List ℕ) → i < n → n ≤ length ws → Memᴰ (unpack (get_or ws i 0)) (map unpack (take n ws))
row_in i n ws h l =
    let b : i < length (take n ws) = omega (arith, length-take-le n ws l) in
    Memᴰ.map unpack (Memᴰ.cast (sym (get_or-take n ws i 0 h)) (mem_get_d (take n ws) i 0 b))
