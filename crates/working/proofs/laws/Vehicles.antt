-- The vehicles present and their two ends. Every law is stated of `insert_at x v l`, so that it serves both stations, a departure forwards and a receipt backwards.
-- By cases on the station, A at the front of the list and B at its back.
-- Assumes nothing.
use Prim.Native.Nat.{suc, zero, ℕ, ◌+◌, ◌-◌, ◌<◌, ◌≤◌}
use Rattle.working.proofs.laws.Every.{Every, all-every, every-before, every_add}
use Rattle.working.proofs.laws.Tests.{both, clash}
use Rattle.working.specs.Sections.{insert_at, nearest_at, number_at, other_at, remove_at, unused}
use Rattle.working.specs.Steps.{redirect_at, redirected}
use Rattle.working.specs.WellMade.{all, differ, is_from, ordered, same_form, sum_over}
use Rattle.working.specs.declared.Station.TheVariants.{A, B}
use Rattle.working.specs.declared.Station.{Station}
use Rattle.working.specs.declared.Vehicle.{Vehicle}
use borrow.Author.Tests.{eq-eqb, eqb-false, eqb-true, ne_eqb}
use lib.Dec.{eqb}
use lib.ListN.{length, length-append, length-drop, length-take}
use lib.Seq.{get_or-append_seam, take-append_seam}
use mathlib.Core.Bool.{Bool, cond, false, not, true, ◌&&◌}
use mathlib.Core.List.{List, [], ◌++◌, ◌∷◌}
use mathlib.Core.Path.{ap, ap₂, refl, sym, ◌∙◌, ◌≡◌}
use native.Mathlib.Omega.{arith}

-- ---- the stations' numbers

pub number_same : (x : Station) → eqb (number_at x) (number_at x) ≡ true
number_same A = refl
number_same B = refl

pub number_other : (x : Station) → eqb (number_at x) (number_at (other_at x)) ≡ false
number_other A = refl
number_other B = refl

pub other_number : (x : Station) → eqb (number_at (other_at x)) (number_at x) ≡ false
other_number A = refl
other_number B = refl

pub other_differs : (x : Station) → x ≡ other_at x → ⊥
other_differs A e = omega (arith, ap number_at e)
other_differs B e = omega (arith, ap number_at e)

-- v is station x's, and is not
abbrev pub From : Station → Vehicle → Type 0
From x v = is_from (number_at x) v ≡ true

abbrev pub NotFrom : Station → Vehicle → Type 0
NotFrom x v = is_from (number_at x) v ≡ false

-- it is one's or the other's
pub not_other : (x : Station) (v : Vehicle) → From x v → NotFrom (other_at x) v
not_other x v e = rw (eqb-true v.sender (number_at x) e) (number_other x)

pub not_own : (x : Station) (v : Vehicle) → From (other_at x) v → NotFrom x v
not_own x v e = rw (eqb-true v.sender (number_at (other_at x)) e) (other_number x)

pub other_other : (x : Station) → other_at (other_at x) ≡ x
other_other A = refl
other_other B = refl

-- ---- a vehicle at an end

pub insert-length : (x : Station) (v : Vehicle) (l : List Vehicle) → length (insert_at x v l) ≡ suc (length l)
insert-length A v l = refl
insert-length B v l = omega (arith, length-append l (v ∷ []))

-- the last place of a list with one more at its end
last-place : (l : List Vehicle) (v : Vehicle) → length (l ++ v ∷ []) - 1 ≡ length l
last-place l v = omega (arith, length-append l (v ∷ []))

pub nearest_insert : (x : Station) (v : Vehicle) (l : List Vehicle) → nearest_at x (insert_at x v l) ≡ v
nearest_insert A v l = refl
nearest_insert B v l = rw (last-place l v) (get_or-append_seam l v [] unused)

pub remove-insert : (x : Station) (v : Vehicle) (l : List Vehicle) → remove_at x (insert_at x v l) ≡ l
remove-insert A v l = refl
remove-insert B v l = rw (last-place l v) (take-append_seam l (v ∷ []))

-- vehicles, at least one, taken apart at a station's end
pub record Nearest (x : Station) (l : List Vehicle) : Type 0 where
  pub vehicle : Vehicle
  pub others : List Vehicle
  pub whole : l ≡ insert_at x vehicle others
  pub near : nearest_at x l ≡ vehicle
  pub rest : remove_at x l ≡ others
  pub size : length l ≡ suc (length others)

pub nearest : (x : Station) (l : List Vehicle) → 0 < length l → Nearest x l
nearest x l h =
    let (v, t, is) = split x l h in
    record {
      vehicle = v;
      others = t;
      whole = is;
      near = ap (nearest_at x) is ∙ nearest_insert x v t;
      rest = ap (remove_at x) is ∙ remove-insert x v t;
      size = ap length is ∙ insert-length x v t;
    }
  where
    last : (v : Vehicle) (l : List Vehicle) → (w : Vehicle) × (t : List Vehicle) × (v ∷ l ≡ t ++ w ∷ [])
    last v [] = (v, [], refl)
    last v (u ∷ l) = let (w, t, is) = last u l in (w, v ∷ t, ap (v ∷◌) is)

    split : (x : Station) (l : List Vehicle) → 0 < length l → (w : Vehicle) × (t : List Vehicle) × (l ≡ insert_at x w t)
    split x [] h = absurd (omega arith)
    split A (v ∷ l) h = (v, l, refl)
    split B (v ∷ l) h = last v l

pub remove-short : (x : Station) (l : List Vehicle) → length (remove_at x l) ≤ length l
remove-short A l = omega (arith, length-drop 1 l)
remove-short B l = omega (arith, length-take (length l - 1) l)

-- ---- predicates on the vehicles

pub all_insert : (p : Vehicle → Bool) (x : Station) (v : Vehicle) (l : List Vehicle) → all p (insert_at x v l) ≡ (p v && all p l)
all_insert p A v l = refl
all_insert p B v [] = refl
all_insert p B v (u ∷ l) = rw (all_insert p B v l) (turn (p u) (p v) (all p l))
  where
    turn : (a b c : Bool) → (a && (b && c)) ≡ (b && (a && c))
    turn true b c = refl
    turn false true c = refl
    turn false false c = refl

pub sum-insert : (f : Vehicle → ℕ) (x : Station) (v : Vehicle) (l : List Vehicle) → sum_over f (insert_at x v l) ≡ f v + sum_over f l
sum-insert f A v l = refl
sum-insert f B v [] = refl
sum-insert f B v (u ∷ l) = omega (arith, sum-insert f B v l)

pub eqb_sym : (m n : ℕ) → eqb m n ≡ eqb n m
eqb_sym m n = go (eqb n m) refl
  where
    go : (b : Bool) → eqb n m ≡ b → eqb m n ≡ b
    go true e = eq-eqb m n (sym (eqb-true n m e))
    go false e = ne_eqb m n (λ q. eqb-false n m e (sym q))

same_sym : (v w : Vehicle) → same_form v w ≡ same_form w v
same_sym v w = rw (eqb_sym v.sender w.sender, eqb_sym v.form w.form)

pub differ-insert : (x : Station) (v : Vehicle) (l : List Vehicle) → differ (insert_at x v l) ≡ (all (λ w. not (same_form v w)) l && differ l)
differ-insert A v l = refl
differ-insert B v [] = refl
differ-insert B v (u ∷ l) =
    ap₂ ◌&&◌ (all_insert (λ w. not (same_form u w)) B v l ∙ ap (λ (b : Bool). not b && all (λ w. not (same_form u w)) l) (same_sym u v)) (differ-insert B v l)
    ∙ shuffle (not (same_form v u)) (all (λ w. not (same_form u w)) l) (all (λ w. not (same_form v w)) l) (differ l)
  where
    shuffle : (a b c d : Bool) → ((a && b) && (c && d)) ≡ ((a && c) && (b && d))
    shuffle true true c d = refl
    shuffle true false true d = refl
    shuffle true false false d = refl
    shuffle false b c d = refl

pub ordered-own : (x : Station) (v : Vehicle) (l : List Vehicle) → v.sender ≡ number_at x → ordered (insert_at x v l) ≡ ordered l
ordered-own A v l e = rw (eq-eqb v.sender 1 e)
ordered-own B v [] e = rw e
ordered-own B v (u ∷ l) e =
    ap₂ (cond (is_from 1 u)) (ordered-own B v l e)
    (ap (is_from 2 u &&◌) (all_insert (is_from 2) B v l ∙ rw (eq-eqb v.sender 2 e)))

from_two_ordered : (l : List Vehicle) → all (is_from 2) l ≡ true → ordered l ≡ true
from_two_ordered [] e = refl
from_two_ordered (v ∷ l) e =
    let p = both (is_from 2 v) (all (is_from 2) l) e in
    let q : is_from 1 v ≡ false = rw (eqb-true v.sender 2 p.0) in
    rw (q, e)

-- behind a vehicle of the other station there is only the other station's
pub ordered_far : (x : Station) (v : Vehicle) (l : List Vehicle) → NotFrom x v → ordered (insert_at x v l) ≡ true
    → (ordered l ≡ true) × Every (From (other_at x)) l
ordered_far A v l e h =
    let q : (is_from 2 v && all (is_from 2) l) ≡ true = rw e at h in
    let r = (both (is_from 2 v) (all (is_from 2) l) q).1 in
    (from_two_ordered l r, all-every (is_from 2) (From B) (λ u from. from) l r)
ordered_far B v [] e h = (refl, tt)
ordered_far B v (u ∷ l) e h = by (ordered_far B v l e) (is_from 1 u) refl
  where
    by : (ordered (l ++ v ∷ []) ≡ true → (ordered l ≡ true) × Every (From A) l) → (b : Bool) → is_from 1 u ≡ b
        → (ordered (u ∷ l) ≡ true) × Every (From A) (u ∷ l)
    by more true p = let r = more (rw p at h) in (rw p r.0, (p, r.1))
    by more false p =
        let q : (is_from 2 u && all (is_from 2) (l ++ v ∷ [])) ≡ true = rw p at h in
        let r : (is_from 2 v && all (is_from 2) l) ≡ true = rw (all_insert (is_from 2) B v l) at (both (is_from 2 u) (all (is_from 2) (l ++ v ∷ [])) q).1 in
        absurd (clash (both (is_from 2 v) (all (is_from 2) l) r).0 e)

-- ---- a statement about every vehicle present

module _ (P : Vehicle → Type 0) where
  pub every-insert : (x : Station) (v : Vehicle) (l : List Vehicle) → P v → Every P l → Every P (insert_at x v l)
  every-insert A v l p h = (p, h)
  every-insert B v l p h = every_add P l v h p

  -- the one at x's end, and the rest
  pub every-end : (x : Station) (v : Vehicle) (l : List Vehicle) → Every P (insert_at x v l) → Every P l × P v
  every-end A v l h = (h.1, h.0)
  every-end B v l h = every-before P l v h

  pub every_redirect : (z : Station) → ((v : Vehicle) → P v → P (redirected z v)) → (i : ℕ) (l : List Vehicle) → Every P l → Every P (redirect_at z i l)
  every_redirect z f i [] h = tt
  every_redirect z f zero (v ∷ l) h = (f v h.0, h.1)
  every_redirect z f (suc i) (v ∷ l) h = (h.0, every_redirect z f i l h.1)
