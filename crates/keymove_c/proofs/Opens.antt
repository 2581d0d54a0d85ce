-- Opening on the words of a session.
-- Assumes nothing.
use mathlib.Core.Path.{◌≡◌, refl, sym, ap, subst, ◌∙◌}
use mathlib.Core.Bool.{true≢false}
use mathlib.Core.List.{List, [], ◌++◌}
use Prim.Native.Nat.{ℕ, ◌+◌, ◌*◌, ◌/◌, ◌%◌, ◌≤◌, ◌<◌, min as minℕ}
use native.Mathlib.Omega.{arith}
use native.Mathlib.Decide.{dec_lt}
use native.Mathlib.Nat.{mod-lt, div-add-mod}
use lib.ListN.{length, drop}
use borrow.Author.Tests.{lt-ltb, le-ltb}
use Rattle.rules.specs.declared.Answer.TheVariants.{Refused}
use Rattle.rules.specs.Net.{Net}
use Rattle.rules.specs.Call.{Options, Request, Result, memo_tags, input_refusal, chosen_from, call}
use Rattle.rules.specs.Session.{Session, Opening, opened_as, refused_at, opening_request, opened_by, opening, open_session}
use Rattle.theory.proofs.Inputs.{found_fitting}
use Rattle.theory.proofs.Picks.{open_cases}
use Rattle.theory.proofs.Refusals.{Went, unread_sheet, bad_input, bad_start, was_accepted, went, call_unread, called_input}
use Rattle.bits.specs.Compiled.{net_words}
use Rattle.game.specs.Sessions.{OpenedNet}
use Rattle.keymove_c.specs.Encoding.{encoded}
use Rattle.keymove_c.specs.Sessions.{session_words, state_length, net_part, state_part, session_at, Written, written, encoded_opening, opened_session, open_left, open_entry, OpenEntry, OpenedAs, StateOpened, SessionOpened}
use Rattle.keymove_c.proofs.Picks.{together, net_of_parts, state_of_parts, behind_of_parts, long_of_parts}

-- A memo of at least one entry does not fit into no tags at all.
some_rows : (e : ℕ) → 1 ≤ e → minℕ 4 e * (e / minℕ 4 e) ≤ 0 → ⊥
some_rows e h z =
    let m = minℕ 4 e in
    let some : 0 < m = omega arith in
    let few : m ≤ e = omega arith in
    go (m * (e / m)) (e % m) m (div-add-mod e m) (mod-lt e some) few z
  where
    go : (p r m : ℕ) → p + r ≡ e → r < m → m ≤ e → p ≤ 0 → ⊥
    go p r m is less few z = omega (arith, is, less, few, z)

-- With no lent memory at all a call is refused, and by what opening is refused by.
module _ (sheet : List ℕ) (o : Options) where
  abbrev asks : Request
  asks = opening_request sheet o [] []

  no_tags : (net : Net) → 1 ≤ o.entries → memo_tags net o ≤ 0 → ⊥
  no_tags net = some_rows o.entries

  pub short_answer : encoded (call asks).answer ≡ encoded_opening (open_session sheet o [] []).answer
  unfolding open_session opening opened_by call
  short_answer = go (went asks)
    where
      go : Went asks → encoded (call asks).answer ≡ encoded_opening (open_session sheet o [] []).answer
      go (unread_sheet x n e) = rw (call_unread asks x n e, e) refl
      go (bad_input net x e k) = rw (called_input Refused input_refusal chosen_from asks net e x k, e, k) refl
      go (bad_start net x e k s) = let f = found_fitting net asks k in absurd (no_tags net f.within.entries_some f.enough.1)
      go (was_accepted net q a) = absurd (no_tags net a.entries_some a.tags_fit)

  pub never_short : (s : Session) → (open_session sheet o [] []).answer ≡ opened_as s → ⊥
  never_short s = open_cases sheet o [] [] (λ (z : Result Opening). z.answer ≡ opened_as s → ⊥) (λ x line few e. absurd (true≢false (cc)))
      (λ net e k same. let f = found_fitting net asks k in no_tags net f.within.entries_some f.enough.1)

module _ (sheet : List ℕ) (o : Options) (words tags four : List ℕ) where
  -- words that are too few
  pub opened_short : (session : List ℕ) → length session < session_words → four ≡ encoded_opening (open_session sheet o [] []).answer → SessionOpened sheet o session words tags four session words tags
  opened_short session l e = record {
    behind_kept = refl;
    short = λ k. (e, refl, refl, refl);
    opened = λ k. absurd (omega (arith, l, k));
  }

  -- words that are enough
  pub opened_long : (opened_net state behind opened_net' state' words' tags' : List ℕ) → length opened_net ≡ net_words → length state ≡ state_length → length opened_net' ≡ net_words → length state' ≡ state_length
      → StateOpened sheet o opened_net state words tags four opened_net' state' words' tags' → SessionOpened sheet o (opened_net ++ (state ++ behind)) words tags four (opened_net' ++ (state' ++ behind)) words' tags'
  opened_long opened_net state behind opened_net' state' words' tags' lb ls lb' ls' S = record {
    behind_kept = behind_of_parts opened_net' state' behind lb' ls' ∙ sym (behind_of_parts opened_net state behind lb ls);
    short = λ k. absurd (omega (arith, long_of_parts opened_net state behind lb ls, k));
    opened = λ k.
        rw (net_of_parts opened_net state behind lb ls, net_of_parts opened_net' state' behind lb' ls', state_of_parts opened_net state behind lb ls, state_of_parts opened_net' state' behind lb' ls') S;
  }

module _ (sheet : List ℕ) (o : Options) (session words tags out : List ℕ) where
  -- With too little room for the answer nothing is done.
  pub open_nothing : length out < 4 → OpenEntry sheet o session words tags out session words tags out
  open_nothing l = record {
    is_open = rw (lt-ltb (length out) 4 l) refl;
    short_refused = never_short sheet o;
    readable = λ s k. absurd (omega (arith, l, k));
  }

  module _ (four session' words' tags' out' : List ℕ) (room : 4 ≤ length out) (eo : out' ≡ four ++ drop 4 out) (P : SessionOpened sheet o session words tags four session' words' tags') where
    abbrev its : Written
    its = written session' words' tags' out'

    session_by : (a : Opening) → OpenedAs (net_part session) (state_part session) (net_part session') (state_part session') a → session' ≡ opened_session session (net_part session') a
    session_by (opened_as s) h = sym (together session') ∙ rw (h.1, P.behind_kept) refl
    session_by (refused_at x line) h = sym (together session') ∙ rw (h.0, h.1, P.behind_kept) (together session)

    open_long : session_words ≤ length session → its ≡ open_left sheet o session words tags out (net_part session') (open_session sheet o words tags)
    open_long l =
        let S = P.opened l in
        ap (λ (z : List ℕ). written z words' tags' out') (session_by S.answer S.leaves)
        ∙ ap (λ (z : List ℕ). written (opened_session session (net_part session') S.answer) words' tags' z) (eo ∙ ap (λ (z : List ℕ). z ++ drop 4 out) S.four_are)
        ∙ sym (ap (open_left sheet o session words tags out (net_part session')) S.opens)

    open_short : length session < session_words → its ≡ written session words tags (encoded_opening (open_session sheet o [] []).answer ++ drop 4 out)
    open_short l = let k = P.short l in rw (eo, k.0, k.1, k.2, k.3) refl

    its_entry : Dec (length session < session_words) → its ≡ open_entry sheet o session words tags out (net_part session')
    its_entry (yes l) = rw (le-ltb (length out) 4 room, lt-ltb (length session) session_words l) (open_short l)
    its_entry (no n) = let l : session_words ≤ length session = omega (arith, n) in rw (le-ltb (length out) 4 room, le-ltb (length session) session_words l) (open_long l)

    its_board : (s : Session) (a : Opening) → a ≡ opened_as s → OpenedAs (net_part session) (state_part session) (net_part session') (state_part session') a → OpenedNet s.net (net_part session') × (session_at s.net (state_part session') ≡ s)
    its_board s a e h =
        let k : OpenedAs (net_part session) (state_part session) (net_part session') (state_part session') (opened_as s) = subst (OpenedAs (net_part session) (state_part session) (net_part session') (state_part session')) e h in
        (k.0, k.2)

    pub open_full : OpenEntry sheet o session words tags out session' words' tags' out'
    open_full = record {
      is_open = its_entry (dec_lt (length session) session_words);
      short_refused = never_short sheet o;
      readable = λ s k l e. let S = P.opened l in its_board s S.answer (sym (ap (λ (z : Result Opening). z.answer) S.opens) ∙ e) S.leaves;
    }
