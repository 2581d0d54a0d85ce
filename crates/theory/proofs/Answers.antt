-- Each refusal by its number: 1 to 3 exactly where reading refuses, 4 to 7 exactly where its condition is the first that holds, 8 to 12 only where its condition
-- is met in play; and what each answer leaves of the lent memory (01, "Refused from the input", "Refused from the state").
-- Assumes nothing.
use mathlib.Core.Path.{◌≡◌, refl, sym, ap, ◌∙◌}
use mathlib.Core.Bool.{true, false}
use mathlib.Core.Option.{some}
use mathlib.Core.Logic.{◌⊎◌, inl, inr}
use mathlib.Core.List.{List}
use Prim.Native.Nat.{ℕ, ◌≤◌}
use native.Mathlib.Omega.{arith}
use lib.Ieee.{Float}
use Rattle.words.proofs.Lists.{not_both}
use Rattle.rules.specs.declared.Refusal.{Refusal}
use Rattle.rules.specs.declared.Answer.{Answer}
use Rattle.rules.specs.declared.Answer.TheVariants.{Refused}
use Rattle.rules.specs.Net.{Net}
use Rattle.rules.specs.Sheet.{accepted, unread, read_sheet}
use Rattle.rules.specs.Play.{Marking}
use Rattle.rules.specs.Search.{Outcome, value, spent, refused}
use Rattle.rules.specs.Choose.{Choice, no_move, no_child, key}
use Rattle.rules.specs.Answer.{refusal_number, early}
use Rattle.rules.specs.Call.{Request, Accepted, first_state, Searched, choice, answer_of, Result, untouched, leaving, ended, call}
use Rattle.rules.specs.Conditions.{Condition, mixed, move_spills, auto_spills, endless, wide, deep}
use Rattle.theory.proofs.Inputs.{FirstRefusal}
use Rattle.theory.proofs.Refusals.{unread_as, first_number, Because, by_sheet, by_input, by_state, call_searched, accepted_or_refused, refused_because, because_refused}
use Rattle.rules.specs.Promise.{Means, Either, Leaves}
use Rattle.theory.proofs.Demand3.{answer_means}

-- the numbers of the conditions met in play
pub condition_number : {net : Net} {m : Marking} {x : Refusal} → Condition net m x → (8 ≤ refusal_number x) × (refusal_number x ≤ 12)
condition_number (mixed l i n) = (omega arith, omega arith)
condition_number (move_spills l i e) = (omega arith, omega arith)
condition_number (auto_spills l i e f k a s) = (omega arith, omega arith)
condition_number (endless l i e f a) = (omega arith, omega arith)
condition_number (wide l w) = (omega arith, omega arith)
condition_number (deep l d) = (omega arith, omega arith)

-- none of them is a refusal that leaves memory alone
pub condition_late : {net : Net} {m : Marking} {x : Refusal} → Condition net m x → early x ≡ false
condition_late (mixed l i n) = refl
condition_late (move_spills l i e) = refl
condition_late (auto_spills l i e f k a s) = refl
condition_late (endless l i e f a) = refl
condition_late (wide l w) = refl
condition_late (deep l d) = refl

module _ (r : Request) where
  -- the condition of a refusal from the state is met in play from where the search starts
  pub state_condition : {net : Net} {q : Marking} {x : Refusal} {l n : ℕ} → Accepted r net q → (call r).answer ≡ Refused x l n → Condition net q x
  state_condition {net} {q} {x} {l} {n} A e = let means : Means net r.options q (first_state net r.options) r.budget (Refused x l n) = rw e at (answer_means A) in means.3

  -- 1 TO 3, with its line: exactly where reading gives it.
  pub refused_reading : (x : Refusal) (l n : ℕ) → refusal_number x ≤ 3 → (call r).answer ≡ Refused x l n → (read_sheet r.sheet ≡ unread x l) × (n ≡ 0)
  refused_reading x l n h e = go (refused_because r x l n e)
    where
      go : Because r x l n → (read_sheet r.sheet ≡ unread x l) × (n ≡ 0)
      go (by_sheet k c) = (k, c)
      go (by_input net k f a c) = absurd (omega (arith, (first_number f).0))
      go (by_state net q A o a c) = absurd (omega (arith, (condition_number (state_condition A e)).0))

  pub reading_refused : (x : Refusal) (l : ℕ) → read_sheet r.sheet ≡ unread x l → ((call r).answer ≡ Refused x l 0) × (refusal_number x ≤ 3)
  reading_refused x l e = (because_refused r x l 0 (by_sheet e refl), (unread_as r.sheet x l e).0)

  -- 4 TO 7: exactly where the sheet is read and its condition is the first that holds.
  pub refused_input : (x : Refusal) (l n : ℕ) → 4 ≤ refusal_number x → refusal_number x ≤ 7 → (call r).answer ≡ Refused x l n
      → (net : Net) × (read_sheet r.sheet ≡ accepted net) × FirstRefusal net r x × (l ≡ 0) × (n ≡ 0)
  refused_input x l n h k e = go (refused_because r x l n e)
    where
      go : Because r x l n → (net : Net) × (read_sheet r.sheet ≡ accepted net) × FirstRefusal net r x × (l ≡ 0) × (n ≡ 0)
      go (by_sheet a c) = absurd (omega (arith, (unread_as r.sheet x l a).0))
      go (by_input net a f b c) = (net, a, f, b, c)
      go (by_state net q A o a c) = absurd (omega (arith, (condition_number (state_condition A e)).0))

  pub input_refused : (net : Net) (x : Refusal) → read_sheet r.sheet ≡ accepted net → FirstRefusal net r x → (call r).answer ≡ Refused x 0 0
  input_refused net x e f = because_refused r x 0 0 (by_input net e f refl refl)

  -- 8 TO 12: only where the input is accepted and the condition is met in play from the start.
  pub refused_state : (x : Refusal) (l n : ℕ) → 8 ≤ refusal_number x → (call r).answer ≡ Refused x l n → (net : Net) × (q : Marking) × Accepted r net q × Condition net q x
  refused_state x l n h e = go (refused_because r x l n e)
    where
      go : Because r x l n → (net : Net) × (q : Marking) × Accepted r net q × Condition net q x
      go (by_sheet a c) = absurd (omega (arith, (unread_as r.sheet x l a).0))
      go (by_input net a f b c) = absurd (omega (arith, (first_number f).1))
      go (by_state net q A o a c) = (net, q, A, state_condition A e)

  -- Memory. After a refusal that leaves it alone it is untouched.
  pub early_untouched : (x : Refusal) (l n : ℕ) → early x ≡ true → (call r).answer ≡ Refused x l n → ((call r).words ≡ r.words) × ((call r).tags ≡ r.tags)
  early_untouched x l n h e = go (accepted_or_refused r)
    where
      go : ((net : Net) × (q : Marking) × Accepted r net q) ⊎ ((y : Refusal) × (line : ℕ) × (early y ≡ true) × (call r ≡ untouched r.words r.tags (Refused y line 0))) → ((call r).words ≡ r.words) × ((call r).tags ≡ r.tags)
      go (inl (net, q, A)) = absurd (not_both _ h (condition_late (state_condition A e)))
      go (inr (y, line, k, c)) = (ap (λ (z : Result Answer). z.words) c, ap (λ (z : Result Answer). z.tags) c)

-- After any other answer the memo's part is zero, or holds what was stored last, and what lies behind it is as it was.
pub memory_left : (r : Request) (net : Net) (q : Marking) → Accepted r net q → Leaves r.words r.tags net r.options q (first_state net r.options) r.budget (call r).answer (call r).words (call r).tags
unfolding ended leaving answer_of
memory_left r net q A = rw (call_searched r net q A) (go end.0)
  where
    end : Searched net r.options
    end = choice net r.options (some r.budget) q (first_state net r.options)

    go : (o : Outcome (Choice Float)) → Leaves r.words r.tags net r.options q (first_state net r.options) r.budget (ended net r o end.1).answer (ended net r o end.1).words (ended net r o end.1).tags
    go (value no_move) = record { words_left = refl; tags_left = refl }
    go (value no_child) = record { words_left = refl; tags_left = refl }
    go (value (key t v)) = record { words_left = refl; tags_left = refl }
    go spent = record { words_left = refl; tags_left = refl }
    go (refused x) = record { words_left = refl; tags_left = refl }

-- The input is accepted, or refused with all lent memory as it was.
pub either_way : (r : Request) (a : Answer) (words tags : List ℕ) → call r ≡ record { answer = a; words = words; tags = tags } → Either r a words tags
either_way r a words tags e = go (accepted_or_refused r)
  where
    go : ((net : Net) × (q : Marking) × Accepted r net q) ⊎ ((y : Refusal) × (line : ℕ) × (early y ≡ true) × (call r ≡ untouched r.words r.tags (Refused y line 0))) → Either r a words tags
    go (inl (net, q, A)) = inl (net, q, A)
    go (inr (x, line, h, k)) = inr (record {
      refusal = x;
      line = line;
      is_early = h;
      answers = ap (λ (z : Result Answer). z.answer) (sym e ∙ k);
      words_kept = ap (λ (z : Result Answer). z.words) (sym e ∙ k);
      tags_kept = ap (λ (z : Result Answer). z.tags) (sym e ∙ k);
    })
