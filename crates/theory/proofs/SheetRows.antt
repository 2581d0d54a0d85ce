-- A line that is in range gives a row within the limits of its kind.
-- Assumes nothing.
use mathlib.Core.Path.{◌≡◌, refl, sym, ap}
use mathlib.Core.Bool.{true, false, true≢false, ◌&&◌}
use mathlib.Core.List.Memᴰ
use mathlib.Core.List.{List, [], ◌∷◌}
use mathlib.Core.Logic.{⊎_elim}
use Prim.Native.Nat.{ℕ, ◌<◌}
use lib.Dec.{eqb}
use lib.IntN.{ℤ, pos, nat_abs}
use lib.Signed.{le_z, lt_z}
use Rattle.words.proofs.Lists.{and_true}
use Rattle.whole.proofs.Ints.{ints, parts}
use Rattle.rules.specs.Limits.{max_size, max_number}
use Rattle.rules.specs.Net.{Kind, size, code, Net, is}
use Rattle.rules.specs.Game.{◌∈◌}
use Rattle.rules.specs.Sheet.{dash, transition, place, Form, form, unsigned, forms, Fields, in_field, in_range, row_of}
use Rattle.theory.proofs.NetLimits.{IntBetween, KindLimits, RowLimits, limited_kind}
use Rattle.theory.proofs.SheetLines.{LineShaped}

-- what holds of each of a list
abbrev Each : (Form → Type 0) → List Form → Type 0
Each P [] = Unit {0}
Each P (f ∷ l) = P f × Each P l

each_in : (P : Form → Type 0) (f : Form) (l : List Form) → Each P l → f ∈ l → P f
each_in P f [] h i = absurd (Memᴰ.not-nil i)
each_in P f (x ∷ l) h i = ⊎_elim (λ e. rw e h.0) (each_in P f l h.1) (Memᴰ.cases_cons i)

index : (n : ℕ) (z : ℤ) → le_z (pos 0) z && lt_z z (pos n) ≡ true → nat_abs z < n
index n z e = let (a, b) = and_true (le_z (pos 0) z) (lt_z z (pos n)) e in omega (ints, parts z)

between : (a b z : ℤ) → le_z a z && le_z z b ≡ true → IntBetween a b z
between a b z e = let (x, y) = and_true (le_z a z) (le_z z b) e in (omega ints, omega ints)

module _ (net : Net) (x y z b : ℤ) where
  -- numbers that fit the fields of a form
  record InFields (f : Form) : Type 0 where
    at_fits : in_field net f.at_field x ≡ true
    place_fits : in_field net f.place_field y ≡ true
    n_fits : in_field net f.n_field z ≡ true
    bound_fits : in_field net f.cap_field b ≡ true
    at_dash : f.at_field ≡ dash → x ≡ pos 0
    place_dash : f.place_field ≡ dash → y ≡ pos 0
    n_dash : f.n_field ≡ dash → z ≡ pos 0

  abbrev Limits : Form → Type 0
  Limits f = (eqb (code f.kind) (code size) ≡ false) → InFields f → KindLimits net.transitions net.places f.kind (nat_abs x) (nat_abs y) z b

  each_limits : Each Limits forms
  unfolding forms
  each_limits = (
    (λ n h. absurd (true≢false n)),
    (
      (λ n h. (ap nat_abs (h.at_dash refl), index net.places y h.place_fits, between (pos 0) (pos 1) z h.n_fits)),
      (
        (λ n h. (ap nat_abs (h.at_dash refl), index net.places y h.place_fits, between _ _ z h.n_fits)),
        (
          (λ n h. (index net.transitions x h.at_fits, ap nat_abs (h.place_dash refl), between _ _ z h.n_fits)),
          (
            (λ n h. (index net.transitions x h.at_fits, ap nat_abs (h.place_dash refl), between _ _ z h.n_fits)),
            (
              arc,
              (
                arc,
                (
                  arc,
                  (
                    arc,
                    (
                      (λ n h. (index net.transitions x h.at_fits, index net.places y h.place_fits, between _ _ z h.n_fits, between _ _ b h.bound_fits)),
                      ((λ n h. (index net.transitions x h.at_fits, ap nat_abs (h.place_dash refl), h.n_dash refl)), tt),
                    ),
                  ),
                ),
              ),
            ),
          ),
        ),
      ),
    ),
  )
    where
      arc : {A : Type 0} {k : Kind} {w : List ℕ} → A → InFields (form k w transition place unsigned dash true) → (nat_abs x < net.transitions) × (nat_abs y < net.places) × IntBetween (pos 0) (pos max_number) z
      arc n h = (index net.transitions x h.at_fits, index net.places y h.place_fits, between (pos 0) (pos max_number) z h.n_fits)

  -- a line `size`
  abbrev Sizes : Form → Type 0
  Sizes f = (eqb (code f.kind) (code size) ≡ true) → InFields f → IntBetween (pos 1) (pos max_size) x × IntBetween (pos 1) (pos max_size) y

  each_sizes : Each Sizes forms
  unfolding forms
  each_sizes = ((λ e h. (between _ _ x h.at_fits, between _ _ y h.place_fits)), (no, (no, (no, (no, (no, (no, (no, (no, (no, (no, tt)))))))))))
    where
      no : {A : Type 0} → false ≡ true → A
      no e = absurd (true≢false (sym e))

line_fields : (net : Net) (l : Fields) → LineShaped l → in_range net l ≡ true → InFields net l.at l.place l.n l.bound l.of
unfolding in_range
line_fields net l s e =
    let (abc, d) = and_true _ (in_field net l.of.cap_field l.bound) e in
    let (ab, c) = and_true _ (in_field net l.of.n_field l.n) abc in
    let (a, b) = and_true (in_field net l.of.at_field l.at) (in_field net l.of.place_field l.place) ab in
    record { at_fits = a; place_fits = b; n_fits = c; bound_fits = d; at_dash = s.no_at; place_dash = s.no_place; n_dash = s.no_n }

pub sizes_within : (net : Net) (l : Fields) → LineShaped l → in_range net l ≡ true → is size (row_of l) ≡ true → IntBetween (pos 1) (pos max_size) l.at × IntBetween (pos 1) (pos max_size) l.place
sizes_within net l s e n =
    each_in (Sizes net l.at l.place l.n l.bound) l.of forms (each_sizes net l.at l.place l.n l.bound) s.form_in n (line_fields net l s e)

pub row_within : (net : Net) (l : Fields) → LineShaped l → in_range net l ≡ true → is size (row_of l) ≡ false → RowLimits net (row_of l)
row_within net l s e n =
    each_in (Limits net l.at l.place l.n l.bound) l.of forms (each_limits net l.at l.place l.n l.bound) s.form_in n (line_fields net l s e)

-- the kinds of limited number, by the table
pub limited_is : (l : Fields) → LineShaped l → l.of.limited ≡ limited_kind l.of.kind
unfolding forms
limited_is l s = each_in (λ f. f.limited ≡ limited_kind f.kind) l.of forms (refl, (refl, (refl, (refl, (refl, (refl, (refl, (refl, (refl, (refl, (refl, tt))))))))))) s.form_in
