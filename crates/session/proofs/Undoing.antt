-- The list of what can be undone, in an array. Assumes nothing.
use Rattle.std.proofs.Common.{◌≡◌, ℕ, ◌+◌, ◌-◌, ◌≤◌, min, List, [], ◌∷◌, ◌++◌, length, take, drop, slice_set, slice_index_or, ap, sym, ◌∙◌, arith, append_assoc, length-append}
use Rattle.std.proofs.lemmas.List.{take-append-drop, take_all, length-take}
use Rattle.std.proofs.Math.Seq.{set-append_seam, get_or-append_seam, take-append_seam}

-- the last entry goes, and those before it stay
pub undone : {A : Type 0} (xs l : List A) (n k : ℕ) (m d : A) → length xs ≡ 1024 → k ≡ min n 1024 → take n xs ≡ l ++ (m ∷ [])
    → (slice_index_or xs (k - 1) d ≡ m) × (take (k - 1) xs ≡ l)
undone xs l n k m d long q e =
    let whole : xs ≡ l ++ (m ∷ drop n xs) = sym (take-append-drop n xs) ∙ ap (λ z. z ++ drop n xs) e ∙ append_assoc l (m ∷ []) (drop n xs) in
    let last : k - 1 ≡ length l = omega (arith, long, q, length-take n xs, ap length e, length-append l (m ∷ [])) in (
      ap (λ z. slice_index_or z (k - 1) d) whole ∙ ap (λ i. slice_index_or (l ++ (m ∷ drop n xs)) i d) last ∙ get_or-append_seam l m (drop n xs) d,
      ap (take (k - 1)) whole ∙ ap (λ i. take i (l ++ (m ∷ drop n xs))) last ∙ take-append_seam l (m ∷ drop n xs),
    )

-- in a full array the first entry goes, for one behind the last
pub moved_up : {A : Type 0} (xs : List A) (n : ℕ) (x : A) → length xs ≡ 1024 → 1024 ≤ n
    → take n (slice_set (drop 1 xs ++ take 1 xs) 1023 x) ≡ drop (length (take n xs) + 1 - 1024) (take n xs ++ (x ∷ []))
moved_up [] n x e h = absurd (omega (arith, e))
moved_up (y ∷ ys) n x e h =
    let size : 1023 ≡ length ys = omega (arith, e) in
    let all : take n (y ∷ ys) ≡ y ∷ ys = take_all n (y ∷ ys) (omega (arith, e)) in
    let put : slice_set (ys ++ (y ∷ [])) 1023 x ≡ ys ++ (x ∷ []) = ap (λ i. slice_set (ys ++ (y ∷ [])) i x) size ∙ set-append_seam ys y [] x in
    let one : length (take n (y ∷ ys)) + 1 - 1024 ≡ 1 = omega (arith, ap length all, e) in
    ap (take n) put ∙ take_all n (ys ++ (x ∷ [])) (omega (arith, size, length-append ys (x ∷ [])))
    ∙ sym (ap (λ z. drop (length (take n (y ∷ ys)) + 1 - 1024) (z ++ (x ∷ []))) all ∙ ap (λ i. drop i ((y ∷ ys) ++ (x ∷ []))) one)
