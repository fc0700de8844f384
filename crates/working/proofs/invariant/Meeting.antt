-- MEET alters heading and met alone: every clause that reads neither stays, and the two vehicles, OPEN or THROUGH, stay well made.
-- Assumes nothing.
use Prim.Native.Nat.{suc, zero, ℕ, ◌+◌}
use Rattle.working.proofs.invariant.Made.{Well}
use Rattle.working.proofs.laws.Clauses.{DeskMade, Numbered, Shape}
use Rattle.working.proofs.laws.Every.{Every}
use Rattle.working.proofs.laws.Vehicles.{every_redirect}
use Rattle.working.specs.Sections.{number_at, other_at, unused}
use Rattle.working.specs.Steps.{redirect_at, redirected}
use Rattle.working.specs.WellMade.{all, differ, is_from, is_open_or_through, one_if, ordered, same_form, sum_over}
use Rattle.working.specs.declared.Desk.{Desk}
use Rattle.working.specs.declared.Station.TheVariants.{A, B}
use Rattle.working.specs.declared.Station.{Station}
use Rattle.working.specs.declared.Vehicle.{Vehicle}
use lib.Dec.{eqb}
use lib.ListN.{get_or, length, set}
use mathlib.Core.Bool.{Bool, cond, not, true, ◌&&◌, ◌||◌}
use mathlib.Core.List.{List, [], ◌∷◌}
use mathlib.Core.Path.{ap, ap₂, refl, ◌∙◌, ◌≡◌}
use native.Mathlib.Omega.{arith}

module _ (z : Station) where
  pub redirect_all : (p : Vehicle → Bool) → ((v : Vehicle) → p (redirected z v) ≡ p v) → (i : ℕ) (l : List Vehicle) → all p (redirect_at z i l) ≡ all p l
  redirect_all p e i [] = refl
  redirect_all p e zero (v ∷ l) = ap (◌&& all p l) (e v)
  redirect_all p e (suc i) (v ∷ l) = ap (p v &&◌) (redirect_all p e i l)

  pub redirect_sum : (f : Vehicle → ℕ) → ((v : Vehicle) → f (redirected z v) ≡ f v) → (i : ℕ) (l : List Vehicle) → sum_over f (redirect_at z i l) ≡ sum_over f l
  redirect_sum f e i [] = refl
  redirect_sum f e zero (v ∷ l) = ap (λ (k : ℕ). k + sum_over f l) (e v)
  redirect_sum f e (suc i) (v ∷ l) = ap (λ (k : ℕ). f v + k) (redirect_sum f e i l)

  pub redirect_length : (i : ℕ) (l : List Vehicle) → length (redirect_at z i l) ≡ length l
  redirect_length i [] = refl
  redirect_length zero (v ∷ l) = refl
  redirect_length (suc i) (v ∷ l) = ap suc (redirect_length i l)

  -- the same by a store, as code writes it
  pub redirect_set : (i : ℕ) (l : List Vehicle) → redirect_at z i l ≡ set l i (redirected z (get_or l i unused))
  redirect_set i [] = refl
  redirect_set zero (v ∷ l) = refl
  redirect_set (suc i) (v ∷ l) = ap (v ∷◌) (redirect_set i l)

  redirect_ordered : (i : ℕ) (l : List Vehicle) → ordered (redirect_at z i l) ≡ ordered l
  redirect_ordered i [] = refl
  redirect_ordered zero (v ∷ l) = refl
  redirect_ordered (suc i) (v ∷ l) = ap₂ (cond (is_from 1 v)) (redirect_ordered i l) (ap (is_from 2 v &&◌) (redirect_all (is_from 2) (λ u. refl) i l))

  redirect_differ : (i : ℕ) (l : List Vehicle) → differ (redirect_at z i l) ≡ differ l
  redirect_differ i [] = refl
  redirect_differ zero (v ∷ l) = refl
  redirect_differ (suc i) (v ∷ l) = ap₂ ◌&&◌ (redirect_all (λ w. not (same_form v w)) (λ u. refl) i l) (redirect_differ i l)

  redirected_shape : (v : Vehicle) → Shape v → is_open_or_through v.movement ≡ true → Shape (redirected z v)
  redirected_shape v h o = record { sender = h.sender; heading = heads z; away = refl; unmet = rw o; moves = h.moves }
    where
      heads : (z : Station) → (eqb (number_at z) 1 || eqb (number_at z) 2) ≡ true
      heads A = refl
      heads B = refl

  redirect_shape : (i : ℕ) (l : List Vehicle) → Every Shape l → is_open_or_through (get_or l i unused).movement ≡ true → Every Shape (redirect_at z i l)
  redirect_shape i [] h o = tt
  redirect_shape zero (v ∷ l) h o = (redirected_shape v h.0 o, h.1)
  redirect_shape (suc i) (v ∷ l) h o = (h.0, redirect_shape i l h.1 o)

  pub redirect_left_on : (i j : ℕ) (l : List Vehicle) → (get_or (redirect_at z i l) j unused).movement ≡ (get_or l j unused).movement
  redirect_left_on i j [] = refl
  redirect_left_on zero zero (v ∷ l) = refl
  redirect_left_on zero (suc j) (v ∷ l) = refl
  redirect_left_on (suc i) zero (v ∷ l) = refl
  redirect_left_on (suc i) (suc j) (v ∷ l) = redirect_left_on i j l

  redirect_made : (n : ℕ) (d : Desk) (i : ℕ) (l : List Vehicle) → DeskMade n d l → DeskMade n d (redirect_at z i l)
  redirect_made n d i l m = record {
    last = m.last;
    sent = m.sent;
    present = omega (arith, redirect_sum (λ v. one_if (is_from n v)) (λ v. refl) i l, m.present);
    bounds = m.bounds;
    interval = m.interval;
    number = every_redirect (Numbered n d.last) z (λ v number. number) i l m.number;
  }

  pub well_redirect : (x : Station) (d o : Desk) (i : ℕ) (l : List Vehicle) → Well x d o l → is_open_or_through (get_or l i unused).movement ≡ true
      → Well x d o (redirect_at z i l)
  well_redirect x d o i l w h = record {
    fits = omega (arith, redirect_length i l, w.fits);
    shape = redirect_shape i l w.shape h;
    order = redirect_ordered i l ∙ w.order;
    distinct = redirect_differ i l ∙ w.distinct;
    own = redirect_made (number_at x) d i l w.own;
    far = redirect_made (number_at (other_at x)) o i l w.far;
  }
