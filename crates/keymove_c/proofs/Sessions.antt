-- Words that say a session are read as it.
-- Assumes nothing.
use mathlib.Core.Path.{ap₂, ◌≡◌, refl, sym, ap, ◌∙◌}
use mathlib.Core.List.{List, [], ◌∷◌, ◌++◌}
use Prim.Native.Nat.{suc, ◌+◌, ◌-◌, ◌<◌, ◌≤◌, ℕ, ◌%◌, ◌^◌, min}
use lib.ListN.{length, take, drop, replicate, get_or}
use Rattle.std.specs.Prelude.{map}
use Rattle.std.proofs.lemmas.List.{take_min, length-take}
use Rattle.std.proofs.lemmas.List.{take_at, drop_at, append_assoc, length-append, length-replicate, get_or-drop, take-map, take_all}
use native.Mathlib.Omega.{arith}
use native.Mathlib.Nat.{mod-eq_of_lt, min-le_right}
use Rattle.rules.specs.Net.{Net}
use Rattle.game.specs.declared.session.Session.{Session}
use Rattle.game.specs.Sessions.{session_of}
use Rattle.rules.specs.Session.{Session as Described}
use Rattle.keymove_c.specs.Sessions.{zero_padded, state_words, session_at}

-- how many numbers a part at the front has
few : (n k m : ℕ) (l : List ℕ) → length l ≡ m → k ≡ min n m → k ≡ length (take n l)
few n k m l e ek = ek ∙ ap (min n) (sym e) ∙ sym (length-take n l)

front : (n k m : ℕ) (l : List ℕ) → length l ≡ m → k ≡ min n m → take k l ≡ take n l
front n k m l e ek = ap (λ (i : ℕ). take i l) (ek ∙ ap (min n) (sym e)) ∙ take_min n l

-- what is written of a session
pub packed : (net : Net) (s : Session) (n k : ℕ) (dict history numbers chain : List ℕ) → length s.dict ≡ 255 → length s.chain ≡ 8 → n ≡ min s.entered 255 → k ≡ min s.pieces 8
    → dict ≡ zero_padded 255 (take n s.dict) → history ≡ s.history → numbers ≡ n ∷ s.generation ∷ s.entries ∷ s.driver ∷ s.filters ∷ k ∷ [] → chain ≡ zero_padded 8 (take k s.chain)
    → dict ++ (history ++ (numbers ++ chain)) ≡ state_words (session_of net s)
unfolding state_words
packed net s n k dict history numbers chain ld lc en ek ed eh em ec =
    rw (ed, eh, em, ec, front s.entered n 255 s.dict ld en, front s.pieces k 8 s.chain lc ek, few s.entered n 255 s.dict ld en, few s.pieces k 8 s.chain lc ek) refl

-- what is read of any words
pub unpacked : (net : Net) (w dict history chain : List ℕ) → dict ≡ take 255 w → history ≡ map (λ n. n % 2 ^ 32) (take 256 (drop 255 w)) → chain ≡ map (λ b. b % 2 ^ 8) (take 8 (drop 517 w)) →
    session_of net
    (record { entries = get_or w 513 0; driver = get_or w 514 0; filters = get_or w 515 0; chain = chain; pieces = get_or w 516 0; dict = dict; entered = get_or w 511 0; history = history; generation = get_or w 512 0 })
    ≡ session_at net w
unfolding session_at
unpacked net w dict history chain ed eh ec = rw (ed, eh, ec) refl

-- numbers that are small enough are their own rest
pub rests : (m : ℕ) (l : List ℕ) → ((i : ℕ) → get_or l i 0 < m) → map (λ w. w % m) l ≡ l
rests m [] h = refl
rests m (x ∷ l) h = ap₂ ◌∷◌ (mod-eq_of_lt (h 0)) (rests m l (λ i. h (suc i)))

padded_length : (n : ℕ) (l : List ℕ) → length l ≤ n → length (zero_padded n l) ≡ n
padded_length n l h = let e = length-append l (replicate (n - length l) 0) in let r = length-replicate {A = ℕ} (n - length l) 0 in omega (arith, e, r, h)

-- The parts of the words of a state.
module _ (dict history numbers chain : List ℕ) (ld : length dict ≡ 255) (lh : length history ≡ 256) (ln : length numbers ≡ 6) (lc : length chain ≡ 8) where
  abbrev parts : List ℕ
  parts = dict ++ (history ++ (numbers ++ chain))

  behind_dict : drop 255 parts ≡ history ++ (numbers ++ chain)
  behind_dict = drop_at dict _ 255 ld

  history_part : take 256 (drop 255 parts) ≡ history
  history_part = ap (take 256) behind_dict ∙ take_at history _ 256 lh

  behind_history : drop 256 (drop 255 parts) ≡ numbers ++ chain
  behind_history = ap (drop 256) behind_dict ∙ drop_at history _ 256 lh

  number : (i : ℕ) → get_or parts (511 + i) 0 ≡ get_or (numbers ++ chain) i 0
  number i =
      let e : 511 + i ≡ 255 + (256 + i) = omega arith in
      ap (λ (k : ℕ). get_or parts k 0) e ∙ sym (get_or-drop 255 parts (256 + i) 0) ∙ sym (get_or-drop 256 (drop 255 parts) i 0) ∙ ap (λ (l : List ℕ). get_or l i 0) behind_history

  front_length : length (dict ++ (history ++ numbers)) ≡ 517
  front_length = length-append dict (history ++ numbers) ∙ omega (arith, ld, length-append history numbers, lh, ln)

  chain_part : take 8 (drop 517 parts) ≡ chain
  chain_part =
      ap (λ (l : List ℕ). take 8 (drop 517 l)) (ap (λ (l : List ℕ). dict ++ l) (sym (append_assoc history numbers chain)) ∙ sym (append_assoc dict (history ++ numbers) chain))
      ∙ ap (take 8) (drop_at (dict ++ (history ++ numbers)) chain 517 front_length) ∙ take_all 8 chain (omega (arith, lc))

-- What words say that were written of a session is the session.
module _ (s : Described) (ld : length s.dict ≤ 255) (lh : length s.history ≡ 256) (lc : length s.options.chain ≤ 8) where
  abbrev numbers_of : List ℕ
  numbers_of = length s.dict ∷ s.generation ∷ s.options.entries ∷ s.options.driver ∷ s.options.filters ∷ length s.options.chain ∷ []

  abbrev dict_of : List ℕ
  dict_of = zero_padded 255 s.dict

  abbrev chain_of : List ℕ
  chain_of = zero_padded 8 s.options.chain

  dict_long : length dict_of ≡ 255
  dict_long = padded_length 255 s.dict ld

  chain_long : length chain_of ≡ 8
  chain_long = padded_length 8 s.options.chain lc

  its : (i : ℕ) → get_or (state_words s) (511 + i) 0 ≡ get_or (numbers_of ++ chain_of) i 0
  unfolding state_words
  its = number dict_of s.history numbers_of chain_of dict_long lh refl chain_long

  chain_again : map (λ w. w % 2 ^ 8) s.options.chain ≡ s.options.chain → take (length s.options.chain) (map (λ w. w % 2 ^ 8) chain_of) ≡ s.options.chain
  chain_again ec =
      take-map (λ w. w % 2 ^ 8) (length s.options.chain) chain_of
      ∙ ap (λ (l : List ℕ). map (λ w. w % 2 ^ 8) l) (take_at s.options.chain (replicate (8 - length s.options.chain) 0) (length s.options.chain) refl) ∙ ec

  pub state_read : map (λ w. w % 2 ^ 32) s.history ≡ s.history → map (λ w. w % 2 ^ 8) s.options.chain ≡ s.options.chain → session_at s.net (state_words s) ≡ s
  unfolding state_words session_at
  state_read eh ec =
      let h = history_part dict_of s.history numbers_of chain_of dict_long lh refl chain_long in
      let k = chain_part dict_of s.history numbers_of chain_of dict_long lh refl chain_long in
      rw
      (its 0, its 1, its 2, its 3, its 4, its 5, take_at dict_of (s.history ++ (numbers_of ++ chain_of)) 255 dict_long, h, k, eh, take_at s.dict (replicate (255 - length s.dict) 0) (length s.dict) refl, chain_again ec)
      refl

-- the same of a session in code
pub code_read : (net : Net) (s : Session) → length s.dict ≡ 255 → length s.history ≡ 256 → length s.chain ≡ 8 → map (λ w. w % 2 ^ 32) s.history ≡ s.history → map (λ w. w % 2 ^ 8) s.chain ≡ s.chain →
    session_at net (state_words (session_of net s)) ≡ session_of net s
code_read net s ld lh lc eh ec =
    let dict_few : length (take s.entered s.dict) ≤ 255 = rw (length-take s.entered s.dict, ld) (min-le_right s.entered 255) in
    let chain_few : length (take s.pieces s.chain) ≤ 8 = rw (length-take s.pieces s.chain, lc) (min-le_right s.pieces 8) in
    state_read (session_of net s) dict_few lh chain_few eh (sym (take-map (λ w. w % 2 ^ 8) s.pieces s.chain) ∙ ap (take s.pieces) ec)
