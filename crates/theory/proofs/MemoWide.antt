-- A memo that keeps bounds in its rows enters nothing into its dictionary: where it is empty before a choice it is empty after it.
-- Assumes nothing.
use mathlib.Core.Path.{◌≡◌, refl, ◌∙◌}
use mathlib.Core.Bool.{Bool, true, false, true≢false}
use mathlib.Core.Option.{Option}
use mathlib.Core.List.{List, []}
use Prim.Native.Nat.{ℕ, max as maxℕ}
use Rattle.words.specs.Words.{bit_length}
use Rattle.rules.specs.Game.{Game, to}
use Rattle.rules.specs.Search.{Entry, merge, Policy, Settings, State}
use Rattle.rules.specs.Memo.{Shape, Memo, Code, memory, locate, slot, old_work, put, found, kept, memo_store}
use Rattle.rules.specs.Drivers.{Driver}
use Rattle.rules.specs.Choose.{choose}
use Rattle.theory.proofs.Answer.{Sound}
use Rattle.theory.proofs.Memo.{Fitted, Telling, memo_tabled}
use Rattle.theory.proofs.Choose.{choose_sound}
use Rattle.theory.proofs.Laws.{Rules, Tabled, Orderly, Lawful, Driven}

module _ (s : Shape) (G : Game) (C : Code G.Value) (key : G.Pos → List ℕ) (Ok : G.Value → Type 0) (Real : G.Pos → Type 0) (F : Fitted s G C key Ok Real) (K : Telling s G key Real) (R : Rules G)
    (keeps : (p : G.Pos) (t : ℕ) (q : G.Pos) → Real p → G.play p t ≡ to q → Real q) (wide : s.compact ≡ false) where
  store_dict : (m : Memo) (k legal : List ℕ) (e : Entry G.Value) (nodes : ℕ) → (memo_store s G C m k legal e nodes).dict ≡ m.dict
  unfolding memo_store kept put
  store_dict m k legal e nodes = go s.compact wide
    where
      go : (b : Bool) → b ≡ false →
          (kept s G C b m k (slot s m k (locate s m k)) (maxℕ (bit_length 64 nodes) (old_work s m (locate s m k))) (merge G (found s G C m legal (locate s m k)) e)).dict ≡ m.dict
      go true h = absurd (true≢false h)
      go false h = refl

  abbrev tabled : Tabled G (memory s G C key)
  tabled = memo_tabled s G C key Ok Real F K R keeps

  -- the same table, of which is known that the dictionary is empty
  abbrev wide_tabled : Tabled G (memory s G C key)
  wide_tabled = record {
    Real = tabled.Real;
    play_real = tabled.play_real;
    Well = λ m. tabled.Well m × (m.dict ≡ []);
    Holds = tabled.Holds;
    get_holds = λ m p e w. tabled.get_holds m p e w.0;
    store_well = λ m p e work w r h. (tabled.store_well m p e work w.0 r h, store_dict m (key p) (G.moves p) e work ∙ w.1);
    store_holds = λ m p e work w. tabled.store_holds m p e work w.0;
  }

  module _ (π : Policy G.Pos) (o : Orderly G π) where
    abbrev settings : Settings G
    settings = record { memory = memory s G C key; policy = π }

    abbrev law : Lawful G (record { memory = memory s G C key; policy = π })
    law = record { rules = R; table = wide_tabled; order = o }

    pub choose_no_dict : (δ : Driver G) → Driven G δ → (b : Option ℕ) (d : ℕ) (p : G.Pos) (st : State settings) → Real p →
        Sound G settings (record { rules = R; table = tabled; order = o }) st.memo → st.memo.dict ≡ [] → (choose G settings δ b d p st).1.memo.dict ≡ []
    choose_no_dict δ t b d p st r h e = (choose_sound G settings law δ t b d p st r (record { well = (h.well, e); rows = h.rows })).sound.well.1
