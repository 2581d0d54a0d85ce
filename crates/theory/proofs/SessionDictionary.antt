-- The dictionary never fills in a session that nobody altered, however many choices there were: it has at most 16 entries, and none where there is no list of values.
-- Assumes nothing.
use mathlib.Core.Path.{◌≡◌, refl, sym, ap, subst}
use mathlib.Core.Option.{some}
use mathlib.Core.List.{List, []}
use mathlib.Core.Logic.{inl, inr}
use Prim.Native.Nat.{ℕ, ◌≤◌}
use native.Mathlib.Omega.{arith}
use lib.Dec.{lit<}
use lib.Ieee.{Float}
use lib.ListN.{length}
use Rattle.rules.specs.Limits.{max_values}
use Rattle.rules.specs.Net.{rewards}
use Rattle.rules.specs.Play.{Marking}
use Rattle.rules.specs.Rewards.{values}
use Rattle.rules.specs.Search.{Outcome, value, spent, refused, State}
use Rattle.rules.specs.Choose.{Choice}
use Rattle.rules.specs.Call.{settings_of, Result}
use Rattle.rules.specs.Session.{Session, opened_as, Chosen, carried, pick_ended, pick_key}
use Rattle.rules.specs.SessionPromise.{words_part, tags_part, Reached, by_opening, by_choice}
use Rattle.theory.proofs.NetCall.{Few, few_none, few_room, choice_few}
use Rattle.theory.proofs.Values.{values_few}
use Rattle.theory.proofs.Picks.{choosable_picked, Either, pick_either}
use Rattle.theory.proofs.Sessions.{SessionTrusted, chosen_real, carried_trusted, reached_sound, opening_promised}

-- What is known of the dictionary of the session that a choice leaves.
abbrev FewNext : Result Chosen → Type 0
FewNext z = Few z.answer.next.net z.answer.next.dict

module _ (s : Session) (words tags : List ℕ) where
  ended_few : (o : Outcome (Choice Float)) (st : State (settings_of s.net s.options)) → Few s.net st.memo.dict → FewNext (pick_ended s words tags o st)
  unfolding pick_ended
  ended_few (value c) st h = h
  ended_few spent st h = h
  ended_few (refused x) st h = few_none s.net

  pick_few : SessionTrusted s (words_part s words) (tags_part s tags) → Few s.net s.dict → (b : ℕ) (m : Marking) → length m ≡ 4 → FewNext (pick_key s words tags b m)
  pick_few T few b m four = go (pick_either s words tags b m)
    where
      go : Either s words tags b m → FewNext (pick_key s words tags b m)
      go (inr (x, h, e)) = subst FewNext (sym e) few
      go (inl (q, C)) = subst FewNext (sym (choosable_picked s words tags b m C))
          (ended_few _ _ (choice_few s.net T.limits s.options T.entries_some q (carried s words tags) (chosen_real s words tags four C) (carried_trusted s words tags T) few (some b)))

reached_few : {s : Session} {words tags : List ℕ} → Reached s words tags → Few s.net s.dict
reached_few (by_opening sheet o words₀ tags₀ s words tags e) =
    subst (Few s.net) (sym (ap (λ (x : Session). x.dict) ((opening_promised sheet o words₀ tags₀ (opened_as s) words tags e).cleared s refl).0)) (few_none s.net)
reached_few (by_choice s words₀ tags₀ b m four r a next words tags e) = subst FewNext e (pick_few s words₀ tags₀ (reached_sound r) (reached_few r) b m four)

-- At most as many entries as there are values,
reached_values : {s : Session} {words tags : List ℕ} → Reached s words tags → length s.dict ≤ length (values (rewards s.net))
reached_values {s} {words} {tags} r =
    let T = reached_sound r in
    few_room s.net T.limits s.options T.entries_some (record { words = words; tags = tags; dict = s.dict; generation = 0 }) (T.sound 0 (lit< tt)) (reached_few r)

-- so at most 16, with any budget: so at every node of a choice too, since the same choice with the budget that this node passes leaves the dictionary as it is there,
pub reached_room : {s : Session} {words tags : List ℕ} → Reached s words tags → length s.dict ≤ max_values
reached_room {s} r = omega (arith, reached_values r, values_few (rewards s.net))

-- and none where there is no list of them.
pub reached_empty : {s : Session} {words tags : List ℕ} → Reached s words tags → values (rewards s.net) ≡ [] → length s.dict ≡ 0
reached_empty {s} r e = omega (arith, reached_values r, ap length e)
