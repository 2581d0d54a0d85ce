-- The two sheets of 01, "Positions with known keys": each reads as a net that meets the premises on play, and its start and the position
-- after move 0 are worth 1. With the settings of program `keymove` they are accepted; so demand 3 speaks of them.
-- Assumes nothing.
use mathlib.Core.Path.{◌≡◌, refl, ap}
use mathlib.Core.Bool.{Bool, true, false, true≢false, cond}
use mathlib.Core.Option.{Option, none, some}
use mathlib.Core.List.Memᴰ
use mathlib.Core.List.{List, [], ◌∷◌, head?}
use Prim.Native.Nat.{ℕ}
use native.Mathlib.Omega.{arith}
use lib.IntN.{ℤ, pos}
use lib.ListN.{replicate}
use Rattle.words.specs.Lists.{range_from, sum, eq_list, filter, all, any}
use Rattle.whole.specs.Int.{sum_z}
use Rattle.rules.specs.declared.Refusal.{Refusal}
use Rattle.rules.specs.declared.Refusal.TheVariants.{Unsettled}
use Rattle.rules.specs.Text.{split, decimal, natural, number}
use Rattle.rules.specs.Net.{Net, rows_of, arcs, total, has_role, side_of}
use Rattle.rules.specs.Sheet.{Reading, accepted, unread, forms, form_of, read_fields, read_line, in_range, full, repeated, complete, check, read_lines, read_size, read_parts, read_sheet}
use Rattle.rules.specs.Game.{to, stopped, ◌∈◌}
use Rattle.rules.specs.Play.{Marking, binary, pack, condition, common, start, rows_at, enabled, stays, after, fire, enabled_of, next_auto, settle, play, moves, mover, score}
use Rattle.rules.specs.Minimax.{Worth, pick, both, value_after, best, level, minimax}
use Rattle.rules.specs.Premises.{Premises}
use Rattle.rules.specs.NetGame.{int_game, levels}
use Rattle.rules.specs.Rewards.{entered, with_reward, subset_sums, values}
use Rattle.rules.specs.Call.{Request, asked, first_state, settings_fit, goals_missing, memory_fits, unsettled, ready, input_refusal, Accepted, call}
use Rattle.rules.specs.Cases.{first_sheet, two_plies}
use Rattle.theory.proofs.Fits.{fits, fits_premises}
use Rattle.theory.proofs.Minimax.{played_worth, worth_unique, minimax_worth}
use Rattle.theory.proofs.Inputs.{none_accepted, ready_quiet}
use Rattle.theory.proofs.NetRules.{net_rules}
use Rattle.rules.specs.Promise.{MinimaxAnswer, Demand3}
use Rattle.theory.proofs.Demand3.{demand_3}

-- What is claimed of a net.
pub record Solved (net : Net) : Type 0 where
  pub premises : Premises net (start net)
  pub start_worth : Worth (int_game net) (start net) (pos 1)
  -- the position after the key
  pub child : Marking
  pub key : 0 ∈ moves net (start net)
  pub plays : play net (start net) 0 ≡ to child
  pub child_worth : Worth (int_game net) child (pos 1)

-- the settings of `keymove`, with memory enough for 1,024 entries of these nets
abbrev pub request : List ℕ → Request
request sheet = asked sheet 1000 1024 1 1 (0 ∷ 1 ∷ 2 ∷ []) (replicate 3072 0) (replicate 1024 0)

pub record Known (sheet : List ℕ) : Type 0 where
  pub taken : (net : Net) × (q : Marking) × Accepted (request sheet) net q
  pub solved : (net : Net) → read_sheet sheet ≡ accepted net → Solved net

-- What is computed: the refusal of the input, whether the start is unsettled, the test of the premises, the first move, and the values of the start and of the position after move 0.
data Tested : Type 0 where
  found : Option Refusal → Bool → Bool → Option ℕ → Option ℤ → Option ℤ → Tested
  failed : Tested

abbrev tested : List ℕ → Reading → Tested
tested sheet (accepted net) =
    found (input_refusal net (request sheet)) (unsettled net (start net)) (fits net levels (start net)) (head? (moves net (start net))) (minimax (int_game net) levels (start net))
    (value_after (int_game net) (minimax (int_game net) levels) (play net (start net) 0))
tested sheet (unread r n) = failed

abbrev passed : Tested
passed = found none false true (some 0) (some (pos 1)) (some (pos 1))

first_in : (l : List ℕ) (t : ℕ) → head? l ≡ some t → t ∈ l
first_in [] t e = absurd (true≢false (cc))
first_in (u ∷ l) t e = Memᴰ.head {x = u} (cc)

tested_solved : (sheet : List ℕ) (net : Net) → tested sheet (accepted net) ≡ passed → Solved net
tested_solved sheet net e =
    let worth = minimax_worth (int_game net) (net_rules net) levels in
    let (q, p, w) = played_worth (int_game net) (net_rules net) (minimax (int_game net) levels) worth (start net) 0 (pos 1) (cc e) in
    record {
      premises = fits_premises net (start net) levels (omega arith) (cc e);
      start_worth = worth (start net) (pos 1) (cc e);
      child = q;
      key = first_in (moves net (start net)) 0 (cc e);
      plays = p;
      child_worth = w;
    }

known : (sheet : List ℕ) → tested sheet (read_sheet sheet) ≡ passed → Known sheet
unfolding ready
known sheet e = record { taken = go (read_sheet sheet) refl e; solved = λ net k. tested_solved sheet net (rw k at e) }
  where
    starts : (net : Net) → unsettled net (start net) ≡ false → ready net (start net) ≡ to (start net)
    starts net e = ap (λ (b : Bool). cond b (stopped Unsettled) (to (start net))) e

    go : (x : Reading) → read_sheet sheet ≡ x → tested sheet x ≡ passed → (net : Net) × (q : Marking) × Accepted (request sheet) net q
    go (accepted net) k e = (net, start net, none_accepted net (request sheet) (start net) k (cc e) (starts net (cc e)))
    go (unread r n) k e = absurd (true≢false (cc))

computed : (tested first_sheet (read_sheet first_sheet) ≡ passed) × (tested two_plies (read_sheet two_plies) ≡ passed)
unfolding range_from sum eq_list filter all any sum_z split decimal natural number rows_of arcs total has_role side_of forms form_of read_fields read_line in_range full repeated complete check read_lines read_size read_parts read_sheet binary pack condition common start rows_at enabled stays after fire enabled_of next_auto settle play moves mover score pick both value_after best level minimax fits values subset_sums with_reward entered settings_fit goals_missing memory_fits unsettled input_refusal
computed = (refl, refl)

pub first_known : Known first_sheet
first_known = known first_sheet computed.0

pub two_plies_known : Known two_plies
two_plies_known = known two_plies computed.1

-- Demand 3 for every accepted call on them, whatever its settings: the value is 1.
pub known_demand_3 : {sheet : List ℕ} → Known sheet → (r : Request) (net : Net) (q : Marking) → r.sheet ≡ sheet → Accepted r net q →
    Demand3 net r.options q (first_state net r.options) r.budget (call r).answer × ((a : MinimaxAnswer net r.options q (first_state net r.options) (call r).answer) → a.number ≡ pos 1)
known_demand_3 k r net q e A =
    let s = k.solved net (rw e at A.readable) in
    let same = (ready_quiet net (start net) q A.starts).0 in (
      demand_3 A (rw same at s.premises) (λ none_there. Memᴰ.not-nil (rw (same, none_there) at s.key)),
      λ a. worth_unique (int_game net) (net_rules net) a.start_worth (rw same at s.start_worth),
    )
