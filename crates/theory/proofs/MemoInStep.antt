-- The memo at two types of values: with codes that agree on bits, two searches keep the very same words, tags and dictionary.
-- Assumes nothing.
use mathlib.Core.Path.{◌≡◌, refl, ap, ◌∙◌}
use mathlib.Core.Bool.{Bool, true, false}
use mathlib.Core.Option.{Option, none, some}
use mathlib.Core.List.{List}
use Prim.Native.Nat.{ℕ}
use Rattle.rules.specs.Game.{Game, Values, valued}
use Rattle.rules.specs.Search.{Entry, merge}
use Rattle.rules.specs.Memo.{or_else, Shape, Memo, Code, Look, hit, free, full, bound_word, locate, number_at, read, found, memo_get, kept, memo_store, memory}
use Rattle.theory.proofs.Locate.{LookFound, locate_found}
use Rattle.theory.proofs.Memo.{Fitted, Well, Reads, matched_taken, store_well}
use Rattle.theory.proofs.Simulation.{Both, Entries, Related, meet_rel, InStep}
use Rattle.theory.proofs.Laws.{Rules}

-- The same memo on both sides, which keeps its invariant.
abbrev pub SameMemo : (s : Shape) (G : Game) (C : Code G.Value) (key : G.Pos → List ℕ) (Ok : G.Value → Type 0) → Memo → Memo → Type 0
SameMemo s G C key Ok m n = (m ≡ n) × Well s G C key Ok m

module _ (s : Shape) (G : Game) (W : Values G.Pos) (C : Code G.Value) (D : Code W.Value) (key : G.Pos → List ℕ) (Ok : G.Value → Type 0) where
  -- related values have the same bits; a value to keep is read as a related one
  pub record Codes (Rel : G.Value → W.Value → Type 0) : Type 0 where
    pub rel_ok : (v : G.Value) (x : W.Value) → Rel v x → Ok v
    pub bits_same : (v : G.Value) (x : W.Value) → Rel v x → C.bits v ≡ D.bits x
    pub number_rel : (v : G.Value) → Ok v → (x : W.Value) × (D.number (C.bits v) ≡ some x) × Rel v x

  module _ (Rel : G.Value → W.Value → Type 0) (related : Related G W Rel) (codes : Codes Rel) (Real : G.Pos → Type 0) (F : Fitted s G C key Ok Real) (R : Rules G) where
    open codes use {rel_ok, bits_same, number_rel}
    open F use {some_way, some_bucket, number_bits}

    abbrev H : Game
    H = valued G W

    -- a coded bound
    bound_rel : (m : Memo) (i shift at : ℕ) (a : G.Value) (x : W.Value) → Reads s G C key Ok m i shift at →
        Rel (or_else a (number_at s G C (bound_word s s.compact m i shift at))) (or_else x (number_at s H D (bound_word s s.compact m i shift at)))
    unfolding or_else number_at
    bound_rel m i shift at a x (v, e, h) = let (y, k, r) = number_rel v e in rw (h, number_bits v e, k) r

    module _ (m : Memo) (w : Well s G C key Ok m) (p : G.Pos) (real : Real p) where
      found_rel : (l : Look) → LookFound s some_way some_bucket m (key p) l → Both (Entries Rel) (found s G C m (G.moves p) l) (found s H D m (H.moves p) l)
      unfolding found read
      found_rel (hit i) (l, f) =
          let (a, b) = w.row_reads i l (matched_taken s G C key Ok Real F R m w p i f) in
          record { bounds_rel = record { lo_rel = bound_rel m i 32 1 G.low W.low a; hi_rel = bound_rel m i 40 2 G.high W.high b }; best_same = refl }
      found_rel (free i) f = tt
      found_rel full f = tt

      get_related : Both (Entries Rel) (memo_get s G C m (key p) (G.moves p)) (memo_get s H D m (key p) (H.moves p))
      unfolding memo_get
      get_related = found_rel (locate s m (key p)) (locate_found s some_way some_bucket m (key p))

      merge_rel : (o : Option (Entry G.Value)) (q : Option (Entry W.Value)) (e : Entry G.Value) (f : Entry W.Value) → Both (Entries Rel) o q → Entries Rel e f → Entries Rel (merge G o e) (merge H q f)
      unfolding merge
      merge_rel none none e f h k = k
      merge_rel none (some q) e f h k = absurd h
      merge_rel (some o) none e f h k = absurd h
      merge_rel (some o) (some q) e f h k = record { bounds_rel = meet_rel G W Rel related _ _ _ _ k.bounds_rel h.bounds_rel; best_same = k.best_same }

      kept_same : (c : Bool) (i work : ℕ) (e : Entry G.Value) (f : Entry W.Value) → C.bits e.bounds.lo ≡ D.bits f.bounds.lo → C.bits e.bounds.hi ≡ D.bits f.bounds.hi → e.best ≡ f.best →
          kept s G C c m (key p) i work e ≡ kept s H D c m (key p) i work f
      unfolding kept
      kept_same true i work e f a b d = rw (a, b, d) refl
      kept_same false i work e f a b d = rw (a, b, d) refl

      store_same : (e : Entry G.Value) (f : Entry W.Value) (nodes : ℕ) → Entries Rel e f → memo_store s G C m (key p) (G.moves p) e nodes ≡ memo_store s H D m (key p) (H.moves p) f nodes
      unfolding memo_store
      store_same e f nodes h =
          let r = merge_rel _ _ e f (found_rel (locate s m (key p)) (locate_found s some_way some_bucket m (key p))) h in
          kept_same s.compact _ _ _ _ (bits_same _ _ r.bounds_rel.lo_rel) (bits_same _ _ r.bounds_rel.hi_rel) r.best_same

      stored_well : (e : Entry G.Value) (f : Entry W.Value) (nodes : ℕ) → Entries Rel e f → Well s G C key Ok (memo_store s G C m (key p) (G.moves p) e nodes)
      stored_well e f nodes h = store_well s G C key Ok Real F R m w p e nodes (rel_ok _ _ h.bounds_rel.lo_rel) (rel_ok _ _ h.bounds_rel.hi_rel) real

    pub memo_in_step : InStep G W (memory s G C key) (memory s (valued G W) D key) Rel (SameMemo s G C key Ok) Real
    memo_in_step = record {
      values = related;
      get_rel = λ m n p r (e, w). rw (← e) (get_related m w p r);
      store_alike = λ m n p e f nodes r (k, w) h. (store_same m w p r e f nodes h ∙ ap (λ (x : Memo). memo_store s H D x (key p) (H.moves p) f nodes) k, stored_well m w p r e f nodes h);
    }
