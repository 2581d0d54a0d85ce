-- The cases that 01 marks with †, computed from the definitions through the whole call on the sheet's own text.
-- Assumes nothing.
use mathlib.Core.Path.{◌≡◌, refl}
use mathlib.Core.Option.{some}
use mathlib.Core.List.{map}
use lib.Ieee.{le, of_int, neg, of_bits, to_bits, add as sum_of, div, lt, to_signed}
use Rattle.whole.specs.Int.{sum_z}
use Rattle.rules.specs.Cases.{key_cases, printed, expected, arc_cases, arc_sheet, behaves, first_sheet}
use Rattle.rules.specs.Keymove.{keymove}
use Rattle.rules.specs.Text.{bytes}
use Rattle.rules.specs.Answer.{digits, shown, answer_line, report}
use Rattle.rules.specs.Call.{settings_fit, goals_missing, memory_fits, unsettled, ready, input_refusal, choice, nodes_needed, answer_of, leaving, began, opened, called, ended, chosen_from, call}
use Rattle.rules.specs.Choose.{if_in, known_move, remembered, matched, child_run, played_value, check, root, started, chosen, choose}
use Rattle.rules.specs.Codes.{float_number, int_bits, int_number}
use Rattle.rules.specs.Drivers.{rung, onward, point, below, upto, sided, begun, stepped, mtd_next, scout_from, mtd_test, mtd_from, mtd_begin, run}
use Rattle.rules.specs.Filter.{over, wins, replied, reply_played, reply_wins, replies, replier, lost_listed, lost}
use Rattle.rules.specs.Goals.{reward_at, paid, goals, goals_of, holds_at, never, deficit, uses, shared, fed, centrality, threats, change, touch, feeders, reach, close, replies_of}
use Rattle.rules.specs.Memo.{seen, or_look, blend, fold, mix, remix, place, enter, best_code, meta_word, if_move, or_else, row_words, bound_word, holds, scan, locate, rank, weakest, slot, old_work, put, number_at, read, found, memo_get, kept, memo_store}
use Rattle.rules.specs.Minimax.{pick}
use Rattle.rules.specs.Net.{rows_of, arcs, total, has_role, side_of}
use Rattle.rules.specs.NetGame.{driver_of}
use Rattle.rules.specs.Order.{cutoff, larger, piece_key, keys, arrange}
use Rattle.rules.specs.Play.{binary, pack, condition, common, start, rows_at, enabled, stays, after, fire, next_auto, enabled_of, settle, play, moves, mover, score}
use Rattle.rules.specs.Rewards.{lowest, highest, entered, with_reward, subset_sums, values}
use Rattle.rules.specs.Search.{add, expanded, sifted, meet, merge, follow, then, recalled, recall, played, expand, sift, filtered, improve, ended as search_ended, row, proved, finish, searched, turned, listed, opened as search_opened, node, passes, budgeted, ticked, counted, too_deep, alpha_beta}
use Rattle.rules.specs.Sheet.{forms, form_of, read_fields, read_line, in_range, full, repeated, complete, check as sheet_check, read_lines, read_size, read_parts, read_sheet}
use Rattle.rules.specs.Sort.{placed, insert, sort}
use Rattle.rules.specs.Text.{split, decimal, natural, number}
use Rattle.words.specs.Lists.{range_from, sum, contains, eq_list, filter, all, any}
use Rattle.words.specs.Words.{bit_length, members}

pub computed :
    (map printed key_cases ≡ map expected key_cases)
    × (map (λ a. behaves (read_sheet (arc_sheet a))) arc_cases ≡ map (λ a. some (a.enabled, a.spills)) arc_cases)
    × (keymove first_sheet ≡ bytes "answer move value nodes\nexact 0 1 2\n")
unfolding digits shown answer_line report settings_fit goals_missing memory_fits unsettled ready input_refusal choice nodes_needed answer_of leaving began opened called ended chosen_from call if_in known_move remembered matched child_run played_value check root started chosen choose float_number int_bits int_number rung onward point below upto sided begun stepped mtd_next scout_from mtd_test mtd_from mtd_begin run over wins replied reply_played reply_wins replies replier lost_listed lost reward_at paid goals goals_of holds_at never deficit uses shared fed centrality threats change touch feeders reach close replies_of seen or_look blend fold mix remix place enter best_code meta_word if_move or_else row_words bound_word holds scan locate rank weakest slot old_work put number_at read found memo_get kept memo_store pick rows_of arcs total has_role side_of driver_of cutoff larger piece_key keys arrange binary pack condition common start rows_at enabled stays after fire next_auto enabled_of settle play moves mover score lowest highest entered with_reward subset_sums values add expanded sifted meet merge follow then recalled recall played expand sift filtered improve search_ended row proved finish searched turned listed search_opened node passes budgeted ticked counted too_deep alpha_beta forms form_of read_fields read_line in_range full repeated complete sheet_check read_lines read_size read_parts read_sheet placed insert sort split decimal natural number range_from sum contains eq_list filter all any bit_length members le of_int neg of_bits to_bits sum_of div lt to_signed sum_z
computed = (refl, refl, refl)
