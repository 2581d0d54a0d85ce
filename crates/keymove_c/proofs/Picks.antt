-- A choice on the words of a session.
-- Assumes nothing.
use mathlib.Core.Path.{◌≡◌, refl, sym, ap, subst, ◌∙◌}
use mathlib.Core.Bool.{Bool, true, false, true≢false}
use mathlib.Core.List.{List, ◌++◌}
use mathlib.Core.Logic.{◌⊎◌, inl, inr}
use Prim.Native.Nat.{ℕ, ◌≤◌, ◌<◌}
use native.Mathlib.Omega.{arith}
use lib.ListN.{length, take, drop}
use Rattle.std.proofs.lemmas.List.{take_at, drop_at, append_assoc, length-append, take-append-drop, drop-drop}
use Rattle.rules.specs.declared.Answer.{Answer}
use Rattle.rules.specs.declared.Answer.TheVariants.{Exact, None, Spent, Refused}
use Rattle.rules.specs.Net.{Net}
use Rattle.rules.specs.Play.{Marking}
use Rattle.rules.specs.Search.{State}
use Rattle.rules.specs.Call.{Options, settings_of}
use Rattle.rules.specs.Promise.{Means}
use Rattle.rules.specs.Session.{Session, Chosen, carried}
use Rattle.rules.specs.SessionPromise.{Unaltered, Choosable, Unchanged, PickPromised}
use Rattle.theory.proofs.Answers.{condition_late}
use Rattle.bits.specs.Compiled.{net_words}
use Rattle.game.specs.Sessions.{OpenedNet}
use Rattle.keymove_c.specs.Sessions.{session_words, state_length, net_part, state_part, leaves_session, too_short, state_words, session_at, StatePicked, SessionPicked, PickEntry, written, with_session, pick_left, picked_in, pick_entry}
use Rattle.keymove_c.specs.Encoding.{encoded}
use Rattle.rules.specs.Call.{Result}
use native.Mathlib.Decide.{dec_lt}
use Rattle.std.specs.Prelude.{cond}
use borrow.Author.Tests.{lt-ltb, le-ltb}

-- what a search ends in is no refusal that leaves the session alone
module _ (net : Net) (o : Options) (q : Marking) (st : State (settings_of net o)) (b : ℕ) where
  meant_late : (a : Answer) → Means net o q st b a → leaves_session a ≡ false
  meant_late (Exact t v n) h = refl
  meant_late None h = refl
  meant_late (Spent n) h = refl
  meant_late (Refused x l n) h = condition_late h.3

module _ (s : Session) (words tags : List ℕ) (b : ℕ) (m : Marking) (a : Answer) (next : Session) (words' tags' : List ℕ) (P : PickPromised s words tags b m a next words' tags') where
  -- a refusal that leaves it alone leaves it as it was
  same_session : leaves_session a ≡ true → Unaltered s words tags → next ≡ s
  same_session e k = go P.either
    where
      go : ((q : Marking) × Choosable s words tags b m q) ⊎ Unchanged s words tags b m a next words' tags' → next ≡ s
      go (inl (q, C)) = absurd (true≢false (sym e ∙ meant_late s.net s.options q (carried s words tags) b a (P.means k q C)))
      go (inr u) = u.session_kept

module _ (net : Net) (state words tags : List ℕ) (b : ℕ) (m : Marking) (s : Session) (is : s ≡ session_at net state) (a : Answer) (next : Session) (words' tags' : List ℕ) (P : PickPromised s words tags b m a next words' tags') where
  promised : PickPromised (session_at net state) words tags b m a next words' tags'
  promised = subst (λ (s : Session). PickPromised s words tags b m a next words' tags') is P

  pub left_alone : leaves_session a ≡ true → StatePicked net state words tags b m a state words' tags'
  left_alone e = record {
    next = next;
    picks = promised.is_pick;
    state_is = rw e refl;
    readable = λ k. sym (same_session (session_at net state) words tags b m a next words' tags' promised e k);
  }

  pub state_written : (state' : List ℕ) → leaves_session a ≡ false → state' ≡ state_words next → session_at net state' ≡ next → StatePicked net state words tags b m a state' words' tags'
  state_written state' e is read = record {
    next = next;
    picks = promised.is_pick;
    state_is = rw e is;
    readable = λ k. read;
  }

-- a list that is taken apart
pub whole_session : (n : ℕ) (session front behind : List ℕ) → front ≡ take n session → behind ≡ drop n session → session ≡ front ++ behind
whole_session n session front behind ef eb = rw (ef, eb) (sym (take-append-drop n session))

-- The words of a session by their three parts.
module _ (opened_net state behind : List ℕ) (lb : length opened_net ≡ net_words) (ls : length state ≡ state_length) where
  abbrev session_of_parts : List ℕ
  session_of_parts = opened_net ++ (state ++ behind)

  pub net_of_parts : net_part session_of_parts ≡ opened_net
  net_of_parts = take_at opened_net (state ++ behind) net_words lb

  pub state_of_parts : state_part session_of_parts ≡ state
  state_of_parts = ap (take state_length) (drop_at opened_net (state ++ behind) net_words lb) ∙ take_at state behind state_length ls

  pub behind_of_parts : drop session_words session_of_parts ≡ behind
  behind_of_parts = ap (drop session_words) (sym (append_assoc opened_net state behind)) ∙ drop_at (opened_net ++ state) behind session_words (length-append opened_net state ∙ omega (arith, lb, ls))

  pub long_of_parts : session_words ≤ length session_of_parts
  long_of_parts = omega (arith, lb, ls, length-append opened_net (state ++ behind), length-append state behind)

module _ (words tags : List ℕ) (b : ℕ) (m : Marking) (a : Answer) where
  -- words that are too few
  pub picked_short : (session : List ℕ) → length session < session_words → a ≡ too_short b → SessionPicked session words tags b m a session words tags
  picked_short session l e = record {
    net_kept = refl;
    behind_kept = refl;
    short = λ k. (e, refl, refl, refl);
    picked = λ k. absurd (omega (arith, l, k));
  }

  -- words that are enough
  pub picked_long : (opened_net state behind state' words' tags' : List ℕ) → length opened_net ≡ net_words → length state ≡ state_length → length state' ≡ state_length
      → ((net : Net) → OpenedNet net opened_net → StatePicked net state words tags b m a state' words' tags') → SessionPicked (opened_net ++ (state ++ behind)) words tags b m a (opened_net ++ (state' ++ behind)) words' tags'
  picked_long opened_net state behind state' words' tags' lb ls ls' p = record {
    net_kept = net_of_parts opened_net state' behind lb ls' ∙ sym (net_of_parts opened_net state behind lb ls);
    behind_kept = behind_of_parts opened_net state' behind lb ls' ∙ sym (behind_of_parts opened_net state behind lb ls);
    short = λ k. absurd (omega (arith, long_of_parts opened_net state behind lb ls, k));
    picked = λ k net h.
        rw (state_of_parts opened_net state behind lb ls, state_of_parts opened_net state' behind lb ls')
        (p net (subst (OpenedNet net) (net_of_parts opened_net state behind lb ls) h));
  }

-- any words by their parts
pub together : (session : List ℕ) → net_part session ++ (state_part session ++ drop session_words session) ≡ session
together session =
    rw (← drop-drop state_length net_words session, take-append-drop state_length (drop net_words session)) (take-append-drop net_words session)

pub encoded_length : (a : Answer) → length (encoded a) ≡ 4
encoded_length (Exact t v n) = refl
encoded_length None = refl
encoded_length (Spent n) = refl
encoded_length (Refused x l n) = refl

module _ (session : List ℕ) (b : ℕ) (m : Marking) (words tags out : List ℕ) where
  -- With too little room for the answer nothing is done.
  pub pick_nothing : length out < 4 → PickEntry session b m words tags out session words tags out
  pick_nothing l = record {
    is_pick = λ net h. rw (lt-ltb (length out) 4 l) refl;
    readable = λ net h k. absurd (omega (arith, l, k));
    net_kept = refl;
    behind_kept = refl;
    out_kept = refl;
    nothing = λ k. refl;
    short = λ k. absurd (omega (arith, l, k));
  }

  module _ (a : Answer) (session' words' tags' out' : List ℕ) (room : 4 ≤ length out) (eo : out' ≡ encoded a ++ drop 4 out) (P : SessionPicked session words tags b m a session' words' tags') where
    pick_short : length session < session_words → written session' words' tags' out' ≡ written session words tags (encoded (too_short b) ++ drop 4 out)
    pick_short l = let k = P.short l in rw (eo, k.0, k.1, k.2, k.3) refl

    session_left : (state : List ℕ) → state_part session' ≡ state → session' ≡ net_part session ++ (state ++ drop session_words session)
    session_left state e = sym (together session') ∙ rw (P.net_kept, e, P.behind_kept) refl

    session_by : (e : Bool) (next : Session) → state_part session' ≡ cond e (state_part session) (state_words next) → session' ≡ cond e session (with_session (net_part session) next session)
    session_by true next h = session_left (state_part session) h ∙ together session
    session_by false next h = session_left (state_words next) h

    pick_long : session_words ≤ length session → (net : Net) → OpenedNet net (net_part session) → written session' words' tags' out' ≡ pick_left session b m words tags out (picked_in session b m words tags out net)
    pick_long l net h =
        let S = P.picked l net h in
        ap (λ (z : List ℕ). written z words' tags' out') (session_by (leaves_session a) S.next S.state_is)
        ∙ ap (λ (z : List ℕ). written (cond (leaves_session a) session (with_session (net_part session) S.next session)) words' tags' z) eo
        ∙ sym (ap (pick_left session b m words tags out) S.picks)

    its_entry : (net : Net) → OpenedNet net (net_part session) → written session' words' tags' out' ≡ pick_entry session b m words tags out net
    its_entry net h = go (dec_lt (length session) session_words)
      where
        go : Dec (length session < session_words) → written session' words' tags' out' ≡ pick_entry session b m words tags out net
        go (yes l) = rw (le-ltb (length out) 4 room, lt-ltb (length session) session_words l) (pick_short l)
        go (no n) = let l : session_words ≤ length session = omega (arith, n) in rw (le-ltb (length out) 4 room, le-ltb (length session) session_words l) (pick_long l net h)

    pub pick_full : PickEntry session b m words tags out session' words' tags' out'
    pick_full = record {
      is_pick = λ net h. its_entry net h;
      readable = λ net h k l r. let S = P.picked l net h in S.readable r ∙ sym (ap (λ (z : Result Chosen). z.answer.next) S.picks);
      net_kept = P.net_kept;
      behind_kept = P.behind_kept;
      out_kept = ap (drop 4) eo ∙ drop_at (encoded a) (drop 4 out) 4 (encoded_length a);
      nothing = λ k. absurd (omega (arith, room, k));
      short = λ k. pick_short;
    }
