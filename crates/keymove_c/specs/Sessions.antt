-- A session as words, and what the entries for sessions leave: the words of the session, the memo's words, the tags, and the words for the answer.
-- Assumes nothing.
use Rattle.std.specs.Prelude.{◌≡◌, Bool, false, cond, List, [], ◌∷◌, ◌++◌, ℕ, ◌+◌, ◌-◌, ◌%◌, ◌^◌, ◌≤◌, ◌<◌, ltb, leb, length, take, drop, map, replicate, get_or}
use Rattle.rules.specs.declared.Refusal.TheVariants.{Settings as BadSettings, Memory as NoMemory}
use Rattle.rules.specs.declared.Answer.{Answer}
use Rattle.rules.specs.declared.Answer.TheVariants.{Exact, None, Spent, Refused}
use Rattle.rules.specs.Answer.{early}
use Rattle.rules.specs.Limits.{max_size, max_dictionary, max_pieces, max_budget}
use Rattle.rules.specs.Net.{Net}
use Rattle.rules.specs.Play.{Marking}
use Rattle.rules.specs.Call.{Options, options_by, Result}
use Rattle.rules.specs.Session.{Session, Opening, opened_as, refused_at, open_session, Chosen, pick_key}
use Rattle.rules.specs.SessionPromise.{Unaltered}
use Rattle.bits.specs.Compiled.{net_words}
use Rattle.game.specs.Sessions.{OpenedNet}
use Rattle.keymove_c.specs.Encoding.{encoded}

-- The words of a session: those of its net, 525 of the rest of it, and any number of words that are none of its.

abbrev pub state_length : ℕ
state_length = 525

abbrev pub session_words : ℕ
session_words = net_words + state_length

abbrev pub net_part : List ℕ → List ℕ
net_part session = take net_words session

abbrev pub state_part : List ℕ → List ℕ
state_part session = take state_length (drop net_words session)

-- a list with zeros behind it, `n` numbers in all
abbrev pub zero_padded : ℕ → List ℕ → List ℕ
zero_padded n l = l ++ replicate (n - length l) 0

-- What is written behind the words of the net: the dictionary, the history; how many words the dictionary has, the generation, the settings, how many pieces the chain has; the chain.
unfoldable pub state_words : Session → List ℕ
state_words s =
    zero_padded max_dictionary s.dict ++ (s.history
    ++ ((length s.dict ∷ s.generation ∷ s.options.entries ∷ s.options.driver ∷ s.options.filters ∷ length s.options.chain ∷ []) ++ zero_padded max_pieces s.options.chain))

-- The session that any words there are read as.
unfoldable pub session_at : Net → List ℕ → Session
session_at net w = record {
  net = net;
  options = options_by (get_or w 513 0) (get_or w 514 0) (get_or w 515 0) (take (get_or w 516 0) (map (λ b. b % 2 ^ 8) (take max_pieces (drop 517 w))));
  dict = take (get_or w 511 0) (take max_dictionary w);
  history = map (λ n. n % 2 ^ 32) (take max_size (drop max_dictionary w));
  generation = get_or w 512 0;
}

-- a session with another net or state
abbrev pub with_session : List ℕ → Session → List ℕ → List ℕ
with_session net s session = net ++ (state_words s ++ drop session_words session)

-- What an entry leaves: the words of the session, the memo's words, the tags, and the words for the answer.
pub data Written : Type 0 where
  written : List ℕ → List ℕ → List ℕ → List ℕ → Written

-- OPENING

-- the four words of what opening gives: kind 4, or a refusal as a call's
abbrev pub encoded_opening : Opening → List ℕ
encoded_opening (opened_as s) = 4 ∷ 0 ∷ 0 ∷ 0 ∷ []
encoded_opening (refused_at x line) = encoded (Refused x line 0)

-- a session that is opened has `opened_net` as the words of its net
abbrev pub opened_session : List ℕ → List ℕ → Opening → List ℕ
opened_session session opened_net (opened_as s) = with_session opened_net s session
opened_session session opened_net (refused_at x line) = session

module _ (sheet : List ℕ) (o : Options) (session words tags out : List ℕ) where
  abbrev pub open_left : List ℕ → Result Opening → Written
  open_left opened_net z = written (opened_session session opened_net z.answer) z.words z.tags (encoded_opening z.answer ++ drop 4 out)

  -- With fewer than four words for the answer all is left as it was. With fewer words than a session takes opening is refused as it is with no lent memory at all, by 6 where none
  -- of 1 to 5 holds (`short_refused`).
  abbrev pub open_entry : List ℕ → Written
  open_entry opened_net =
      cond (ltb (length out) 4) (written session words tags out)
      (cond (ltb (length session) session_words) (written session words tags (encoded_opening (open_session sheet o [] []).answer ++ drop 4 out))
      (open_left opened_net (open_session sheet o words tags)))

  -- WHAT THE ENTRY FOR OPENING PROMISES. That opening is what a session promises (rules/specs/SessionPromise, `OpenPromised`) is a theorem on `open_session` (theory, `open_promised`).
  pub record OpenEntry (session' words' tags' out' : List ℕ) : Type 0 where
    pub is_open : written session' words' tags' out' ≡ open_entry (net_part session')
    pub short_refused : (s : Session) → (open_session sheet o [] []).answer ≡ opened_as s → ⊥
    -- where it is opened, the words of the net are such, and the others are read as the session
    pub readable : (s : Session) → 4 ≤ length out → session_words ≤ length session → (open_session sheet o words tags).answer ≡ opened_as s → OpenedNet s.net (net_part session') × (session_at s.net (state_part session') ≡ s)

-- A CHOICE

-- a refusal that leaves the words of the session as they are, bit for bit
abbrev pub leaves_session : Answer → Bool
leaves_session (Exact t v n) = false
leaves_session None = false
leaves_session (Spent n) = false
leaves_session (Refused x line n) = early x

-- the answer where a session is too short: 4, then 6
abbrev pub too_short : ℕ → Answer
too_short budget = cond (leb budget max_budget) (Refused NoMemory 0 0) (Refused BadSettings 0 0)

module _ (session : List ℕ) (budget : ℕ) (m : Marking) (words tags out : List ℕ) where
  abbrev pub pick_left : Result Chosen → Written
  pick_left z =
      written (cond (leaves_session z.answer.answer) session (with_session (net_part session) z.answer.next session)) z.words z.tags (encoded z.answer.answer ++ drop 4 out)

  -- the choice in the session that its words are read as, of a net
  abbrev pub picked_in : Net → Result Chosen
  picked_in net = pick_key (session_at net (state_part session)) words tags budget m

  -- With fewer than four words for the answer all is left as it was.
  abbrev pub pick_entry : Net → Written
  pick_entry net =
      cond (ltb (length out) 4) (written session words tags out)
      (cond (ltb (length session) session_words) (written session words tags (encoded (too_short budget) ++ drop 4 out))
      (pick_left (picked_in net)))

  -- WHAT THE ENTRY FOR A CHOICE PROMISES. That the choice is what a session promises (rules/specs/SessionPromise, `PickPromised`) is a theorem on `pick_key` (theory, `pick_promised`).
  pub record PickEntry (session' words' tags' out' : List ℕ) : Type 0 where
    -- of the words that opening gives for a net
    pub is_pick : (net : Net) → OpenedNet net (net_part session) → written session' words' tags' out' ≡ pick_entry net
    -- As long as nobody else writes, the words are read as the session that the choice leaves.
    pub readable : (net : Net) → OpenedNet net (net_part session) → 4 ≤ length out → session_words ≤ length session → Unaltered (session_at net (state_part session)) words tags →
        session_at net (state_part session') ≡ (picked_in net).answer.next
    -- With no word on the net: what is never written, and what is left where out or the session is too short.
    pub net_kept : net_part session' ≡ net_part session
    pub behind_kept : drop session_words session' ≡ drop session_words session
    pub out_kept : drop 4 out' ≡ drop 4 out
    pub nothing : length out < 4 → written session' words' tags' out' ≡ written session words tags out
    pub short : 4 ≤ length out → length session < session_words → written session' words' tags' out' ≡ written session words tags (encoded (too_short budget) ++ drop 4 out)

-- WHAT A CHOICE LEAVES of the words of a session that is long enough, with `a` as its answer: `state` are those behind the words of the net.
pub record StatePicked (net : Net) (state words tags : List ℕ) (budget : ℕ) (m : Marking) (a : Answer) (state' words' tags' : List ℕ) : Type 0 where
  pub next : Session
  pub picks : pick_key (session_at net state) words tags budget m ≡ record { answer = record { answer = a; next = next }; words = words'; tags = tags' }
  pub state_is : state' ≡ cond (leaves_session a) state (state_words next)
  pub readable : Unaltered (session_at net state) words tags → session_at net state' ≡ next

-- ..and of any session's words
pub record SessionPicked (session words tags : List ℕ) (budget : ℕ) (m : Marking) (a : Answer) (session' words' tags' : List ℕ) : Type 0 where
  pub net_kept : net_part session' ≡ net_part session
  pub behind_kept : drop session_words session' ≡ drop session_words session
  pub short : length session < session_words → (a ≡ too_short budget) × (session' ≡ session) × (words' ≡ words) × (tags' ≡ tags)
  pub picked : session_words ≤ length session → (net : Net) → OpenedNet net (net_part session) → StatePicked net (state_part session) words tags budget m a (state_part session') words' tags'

-- WHAT OPENING LEAVES of the words of a session that is long enough: `opened_net` those of the net, `state` those behind them.
module _ (opened_net state opened_net' state' : List ℕ) where
  abbrev pub OpenedAs : Opening → Type 0
  OpenedAs (opened_as s) = OpenedNet s.net opened_net' × (state' ≡ state_words s) × (session_at s.net state' ≡ s)
  OpenedAs (refused_at x line) = (opened_net' ≡ opened_net) × (state' ≡ state)

pub record StateOpened (sheet : List ℕ) (o : Options) (opened_net state words tags four opened_net' state' words' tags' : List ℕ) : Type 0 where
  pub answer : Opening
  pub opens : open_session sheet o words tags ≡ record { answer = answer; words = words'; tags = tags' }
  pub four_are : four ≡ encoded_opening answer
  pub leaves : OpenedAs opened_net state opened_net' state' answer

-- ..and of any session's words
pub record SessionOpened (sheet : List ℕ) (o : Options) (session words tags four session' words' tags' : List ℕ) : Type 0 where
  pub behind_kept : drop session_words session' ≡ drop session_words session
  pub short : length session < session_words → (four ≡ encoded_opening (open_session sheet o [] []).answer) × (session' ≡ session) × (words' ≡ words) × (tags' ≡ tags)
  pub opened : session_words ≤ length session → StateOpened sheet o (net_part session) (state_part session) words tags four (net_part session') (state_part session') words' tags'
