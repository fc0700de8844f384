-- Two vehicles that head towards one another are both OPEN or THROUGH.
-- A fast vehicle (RETURN or train) is unmet, so it heads away from its sender; by FRONT everything ahead of it is fast and of the same sender, so nothing ahead heads
-- towards it. The same argument, seen from A and from B, serves the two vehicles.
-- Assumes nothing.
use Prim.Native.Nat.{suc, zero, ℕ, ◌-◌, ◌<◌}
use Rattle.working.proofs.invariant.Changes.{well_at}
use Rattle.working.proofs.invariant.Invariant.{Ahead, Clear, InRow, OpenOrThrough, all_slow, cons_nil, no_far}
use Rattle.working.proofs.invariant.Made.{other_sender}
use Rattle.working.proofs.invariant.Preserved.{Good, kept_at}
use Rattle.working.proofs.invariant.Sides.{every-seen, get_d_reverse, length_seen, moves_of, own_moves, seen_from}
use Rattle.working.proofs.laws.Clauses.{Shape}
use Rattle.working.proofs.laws.Every.{Every, every_at}
use Rattle.working.proofs.laws.Tests.{clash, or_second}
use Rattle.working.proofs.laws.Vehicles.{From, NotFrom, other_other}
use Rattle.working.specs.Sections.{number_at, other_at, unused, vehicles_of}
use Rattle.working.specs.WellMade.{all, is_from, is_open_or_through}
use Rattle.working.specs.declared.Movement.{Movement}
use Rattle.working.specs.declared.Section.{Section}
use Rattle.working.specs.declared.Station.TheVariants.{A, B}
use Rattle.working.specs.declared.Station.{Station}
use Rattle.working.specs.declared.Vehicle.{Vehicle}
use borrow.Author.Tests.{eqb-false, ne_eqb, not-true}
use lib.Dec.{eqb}
use lib.ListN.{get_or, length}
use mathlib.Core.Bool.{Bool, cond, false, not, true}
use mathlib.Core.List.{List, [], ◌∷◌}
use mathlib.Core.Path.{refl, sym, ◌∙◌, ◌≡◌}
use native.Mathlib.Omega.{arith}

-- ---- the vehicles of station x in a list

-- what holds of its movements holds of its vehicles
moves_have : (P : Movement → Type 0) (x : Station) (l : List Vehicle) → Every P (own_moves (number_at x) l) → (i : ℕ) → i < length l
    → From x (get_or l i unused) → P (get_or l i unused).movement
moves_have P x [] h i k f = absurd (omega arith)
moves_have P x (v ∷ l) h zero k f = (rw f at h).0
moves_have P x (v ∷ l) h (suc i) k f = moves_have P x l (by (is_from (number_at x) v) h) i (omega arith) f
  where
    by : (b : Bool) → Every P (cond b (v.movement ∷ own_moves (number_at x) l) (own_moves (number_at x) l)) → Every P (own_moves (number_at x) l)
    by true h = h.1
    by false h = h

-- a list without its vehicles is all the other's
all_others : (x : Station) (l : List Vehicle) → Every Shape l → own_moves (number_at x) l ≡ [] → Every (From (other_at x)) l
all_others x [] h e = tt
all_others x (v ∷ l) h e = by (all_others x l h.1) (is_from (number_at x) v) refl e
  where
    by : (own_moves (number_at x) l ≡ [] → Every (From (other_at x)) l) → (b : Bool) → is_from (number_at x) v ≡ b
        → cond b (v.movement ∷ own_moves (number_at x) l) (own_moves (number_at x) l) ≡ [] → From (other_at x) v × Every (From (other_at x)) l
    by more true from nil = cons_nil nil
    by more false from nil = (other_sender x v h.0 from, more nil)

-- ahead of a fast one, where there are no others, all are fast
front : (x : Station) (l : List Vehicle) → Every (From x) l → InRow (own_moves (number_at x) l) → (i j : ℕ) → i < j → j < length l
    → is_open_or_through (get_or l i unused).movement ≡ false → is_open_or_through (get_or l j unused).movement ≡ false
front x [] h r i j k there e = absurd (omega arith)
front x (v ∷ l) h r i zero k there e = absurd (omega arith)
front x (v ∷ l) h r zero (suc j) k there e =
    (moves_have (Ahead v.movement) x l (rw h.0 at r).0 j (omega arith) (every_at (From x) unused l h.1 j (omega arith))).fast e
front x (v ∷ l) h r (suc i) (suc j) k there e = front x l h.1 (rw h.0 at r).1 i j (omega arith) (omega arith) e

-- a fast one heads away from its sender
fast_away : (x : Station) (v : Vehicle) → Shape v → is_open_or_through v.movement ≡ false → v.heading ≡ number_at x → NotFrom x v
fast_away x v h e to =
    let unmet = not-true v.met (or_second (is_open_or_through v.movement) (not v.met) h.unmet e) in
    let away = not-true (eqb v.heading v.sender) (or_second v.met (not (eqb v.heading v.sender)) h.away unmet) in
    ne_eqb v.sender (number_at x) (λ own. eqb-false v.heading v.sender away (to ∙ sym own))

-- ---- seen from x

-- of two vehicles, the one nearer x heading away and the other heading to x, the nearer is OPEN or THROUGH
nearer_slow : (s : Section) → Good s → (x : Station) (i j : ℕ) → i < j → j < length (vehicles_of s)
    → (get_or (seen_from x (vehicles_of s)) i unused).heading ≡ number_at (other_at x) → (get_or (seen_from x (vehicles_of s)) j unused).heading ≡ number_at x
    → is_open_or_through (get_or (seen_from x (vehicles_of s)) i unused).movement ≡ true
nearer_slow s g x i j less there away to = by (is_open_or_through (get_or l i unused).movement) refl
  where
    l : List Vehicle
    l = seen_from x (vehicles_of s)

    len : length l ≡ length (vehicles_of s)
    len = length_seen x (vehicles_of s)

    shapes : (y : Station) → Every Shape (seen_from y (vehicles_of s))
    shapes y = every-seen Shape A y (vehicles_of s) (well_at s x g.sound).shape

    shape : (k : ℕ) → k < length l → Shape (get_or l k unused)
    shape = every_at Shape unused l (shapes x)

    by : (b : Bool) → is_open_or_through (get_or l i unused).movement ≡ b → is_open_or_through (get_or l i unused).movement ≡ true
    by true e = e
    by false e = by_clear (kept_at x s g).own.clear
      where
        near : Shape (get_or l i unused)
        near = shape i (omega (arith, len))

        from : From x (get_or l i unused)
        from = rw (other_other x) at (other_sender (other_at x) (get_or l i unused) near (fast_away (other_at x) (get_or l i unused) near e away))

        by_clear : Clear (moves_of x (vehicles_of s)) (moves_of (other_at x) (vehicles_of s)) → is_open_or_through (get_or l i unused).movement ≡ true
        by_clear (all_slow all) = moves_have OpenOrThrough x l all i (omega (arith, len)) from
        by_clear (no_far nil) =
            let far = all_others (other_at x) (seen_from (other_at x) (vehicles_of s)) (shapes (other_at x)) nil in
            let all_x : Every (From x) l = every-seen (From x) (other_at x) x (vehicles_of s) (rw (other_other x) at far) in
            let fast-j = front x l all_x (kept_at x s g).own.row i j less (omega (arith, len)) e in
            absurd (clash (every_at (From x) unused l all_x j (omega (arith, len))) (fast_away x (get_or l j unused) (shape j (omega (arith, len))) fast-j to))

pub opposed_slow : (s : Section) → Good s → (i j : ℕ) → i < j → j < length (vehicles_of s)
    → (get_or (vehicles_of s) i unused).heading ≡ number_at B → (get_or (vehicles_of s) j unused).heading ≡ number_at A
    → (is_open_or_through (get_or (vehicles_of s) i unused).movement ≡ true) × (is_open_or_through (get_or (vehicles_of s) j unused).movement ≡ true)
opposed_slow s g i j less there to-B to-A =
    let at_i = get_d_reverse (vehicles_of s) i (omega arith) in
    let at_j = get_d_reverse (vehicles_of s) j there in
    let far = nearer_slow s g B (length (vehicles_of s) - suc j) (length (vehicles_of s) - suc i) (omega arith) (omega arith) (rw at_j to-A) (rw at_i to-B) in
    (nearer_slow s g A i j less there to-B to-A, rw at_j at far)
