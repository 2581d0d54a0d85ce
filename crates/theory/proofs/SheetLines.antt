-- What a line that is read holds: its form is one of the table's, and its transition, its place and its number are 0 where `-` stands for them.
-- Assumes nothing.
use mathlib.Core.Path.{◌≡◌, refl, ◌∙◌}
use mathlib.Core.Bool.{Bool, true, false, true≢false, cond}
use mathlib.Core.Option.{Option, none, some}
use mathlib.Core.List.Memᴰ
use mathlib.Core.List.{List, [], ◌∷◌}
use Prim.Native.Nat.{ℕ}
use lib.Dec.{eqb}
use lib.IntN.{ℤ, pos}
use lib.ListN.{length, get_or}
use Rattle.words.specs.Lists.{eq_list}
use Rattle.rules.specs.Text.{bytes, split}
use Rattle.rules.specs.Game.{◌∈◌}
use Rattle.rules.specs.Sheet.{Field, dash, Form, forms, form_of, Fields, read_field, read_fields, read_line}
use Rattle.rules.proofs.Binding.{bind_some}

pub record LineShaped (l : Fields) : Type 0 where
  pub form_in : l.of ∈ forms
  pub no_at : l.of.at_field ≡ dash → l.at ≡ pos 0
  pub no_place : l.of.place_field ≡ dash → l.place ≡ pos 0
  pub no_n : l.of.n_field ≡ dash → l.n ≡ pos 0

form_of_in : (w : List ℕ) (l : List Form) (f : Form) → form_of w l ≡ some f → f ∈ l
unfolding form_of
form_of_in w [] f e = absurd (true≢false (cc))
form_of_in w (x ∷ l) f e = go (eq_list w x.word) e (form_of_in w l f)
  where
    go : (b : Bool) → cond b (some x) (form_of w l) ≡ some f → (form_of w l ≡ some f → f ∈ l) → f ∈ x ∷ l
    go true e h = Memᴰ.head {x = x} (cc)
    go false e h = Memᴰ.tail (h e)

dash_zero : (f : Field) (text : List ℕ) (z : ℤ) → f ≡ dash → read_field f text ≡ some z → z ≡ pos 0
dash_zero f text z d e = go (eq_list text (bytes "-")) (rw d at e)
  where
    go : (b : Bool) → cond b (some (pos 0)) none ≡ some z → z ≡ pos 0
    go true e = cc
    go false e = absurd (true≢false (cc))

fields_shaped : (w a p m c : List ℕ) (l : Fields) → read_fields w a p m c ≡ some l → LineShaped l
unfolding read_fields
fields_shaped w a p m c l e =
    let (f, ef, e1) = bind_some (form_of w forms) _ l e in
    let (x, ex, e2) = bind_some (read_field f.at_field a) _ l e1 in
    let (y, ey, e3) = bind_some (read_field f.place_field p) _ l e2 in
    let (z, ez, e4) = bind_some (read_field f.n_field m) _ l e3 in
    let (b, eb, e5) = bind_some (read_field f.cap_field c) _ l e4 in
    go f x y z b ef ex ey ez (cc)
  where
    go : (f : Form) (x y z b : ℤ) → form_of w forms ≡ some f → read_field f.at_field a ≡ some x → read_field f.place_field p ≡ some y → read_field f.n_field m ≡ some z → l ≡ record { of = f; at = x; place = y; n = z; bound = b } → LineShaped l
    go f x y z b ef ex ey ez same = rw same (record {
      form_in = form_of_in w forms f ef;
      no_at = λ d. dash_zero f.at_field a x d ex;
      no_place = λ d. dash_zero f.place_field p y d ey;
      no_n = λ d. dash_zero f.n_field m z d ez;
    })

pub line_shaped : (text : List ℕ) (l : Fields) → read_line text ≡ some l → LineShaped l
unfolding read_line
line_shaped text l e =
    let parts = split 32 text in
    go (eqb (length parts) 5) (read_fields (get_or parts 0 []) (get_or parts 1 []) (get_or parts 2 []) (get_or parts 3 []) (get_or parts 4 [])) refl e
  where
    go : (b : Bool) (o : Option Fields) → read_fields (get_or (split 32 text) 0 []) (get_or (split 32 text) 1 []) (get_or (split 32 text) 2 []) (get_or (split 32 text) 3 []) (get_or (split 32 text) 4 []) ≡ o →
        cond b o none ≡ some l → LineShaped l
    go true o h e = fields_shaped _ _ _ _ _ l (h ∙ e)
    go false o h e = absurd (true≢false (cc))
