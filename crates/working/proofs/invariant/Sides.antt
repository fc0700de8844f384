-- What each station's vehicles left on, nearest their sender first: the lists that the invariant is stated over.
-- The vehicles are seen from a station: as they stand from A, the other way round from B. Only the laws of `seen_from` split on the station.
-- Assumes nothing.
use Prim.Native.Nat.{suc, zero, ℕ, ◌+◌, ◌-◌, ◌<◌}
use Rattle.working.proofs.invariant.Invariant.{weigh, weigh_snoc}
use Rattle.working.proofs.laws.Every.{Every, every_add}
use Rattle.working.proofs.laws.Vehicles.{From, NotFrom, not_own}
use Rattle.working.specs.Sections.{insert_at, number_at, other_at, unused}
use Rattle.working.specs.Steps.{met_at, redirect_at}
use Rattle.working.specs.Terms.{of_station}
use Rattle.working.specs.WellMade.{is_from, sum_over}
use Rattle.working.specs.declared.Movement.{Movement}
use Rattle.working.specs.declared.Station.TheVariants.{A, B}
use Rattle.working.specs.declared.Station.{Station}
use Rattle.working.specs.declared.Vehicle.{Vehicle}
use lib.ListN.{get_or, get_or-append, length, length-reverse}
use lib.Seq.{get_or_at}
use mathlib.Core.Bool.{Bool, cond, false, true}
use mathlib.Core.List.{List, [], append-nil, reverse, reverse-append, reverse-cons, reverse-reverse, ◌++◌, ◌∷◌}
use mathlib.Core.Path.{ap, refl, subst, sym, ◌∙◌, ◌≡◌}
use native.Mathlib.Omega.{arith}

abbrev pub seen_from : {T : Type 0} → Station → List T → List T
seen_from A l = l
seen_from B l = reverse l

-- what station number n's vehicles of a list left on
abbrev pub own_moves : ℕ → List Vehicle → List Movement
own_moves n [] = []
own_moves n (v ∷ l) = cond (is_from n v) (v.movement ∷ own_moves n l) (own_moves n l)

abbrev pub moves_of : Station → List Vehicle → List Movement
moves_of x l = own_moves (number_at x) (seen_from x l)

-- ---- the vehicles seen from a station

-- a vehicle that enters at x's end is the first from x, and the last from the other
seen-own : (x : Station) (v : Vehicle) (l : List Vehicle) → seen_from x (insert_at x v l) ≡ v ∷ seen_from x l
seen-own A v l = refl
seen-own B v l = reverse-append l (v ∷ [])

seen_far : (x : Station) (v : Vehicle) (l : List Vehicle) → seen_from (other_at x) (insert_at x v l) ≡ seen_from (other_at x) l ++ v ∷ []
seen_far A v l = reverse-cons v l
seen_far B v l = refl

every-reverse : (P : Vehicle → Type 0) (l : List Vehicle) → Every P l → Every P (reverse l)
every-reverse P [] h = tt
every-reverse P (v ∷ l) h = subst (Every P) (sym (reverse-cons v l)) (every_add P (reverse l) v (every-reverse P l h.1) h.0)

pub every-seen : (P : Vehicle → Type 0) (x y : Station) (l : List Vehicle) → Every P (seen_from x l) → Every P (seen_from y l)
every-seen P A A l h = h
every-seen P A B l h = every-reverse P l h
every-seen P B A l h = subst (Every P) (reverse-reverse l) (every-reverse P (reverse l) h)
every-seen P B B l h = h

pub length_seen : (x : Station) (l : List Vehicle) → length (seen_from x l) ≡ length l
length_seen A l = refl
length_seen B l = length-reverse l

-- the place of a vehicle from the other end
pub get_d_reverse : (l : List Vehicle) (i : ℕ) → i < length l → get_or (reverse l) (length l - suc i) unused ≡ get_or l i unused
get_d_reverse [] i h = absurd (omega arith)
get_d_reverse (v ∷ l) zero h =
    let last : length (reverse l) ≡ suc (length l) - 1 = omega (arith, length-reverse l) in
    ap (λ (k : List Vehicle). get_or k (suc (length l) - 1) unused) (reverse-cons v l) ∙ get_or_at (reverse l) v [] unused (suc (length l) - 1) last
get_d_reverse (v ∷ l) (suc i) h =
    let place : suc (length l) - suc (suc i) ≡ length l - suc i = omega arith in
    rw place
    (ap (λ (k : List Vehicle). get_or k (length l - suc i) unused) (reverse-cons v l)
    ∙ get_or-append (reverse l) (v ∷ []) unused (length l - suc i) (omega (arith, length-reverse l)) ∙ get_d_reverse l i (omega arith))

-- ---- one station's movements

own_snoc : (n : ℕ) (l : List Vehicle) (v : Vehicle) → own_moves n (l ++ v ∷ []) ≡ own_moves n l ++ cond (is_from n v) (v.movement ∷ []) []
own_snoc n [] v = go (is_from n v)
  where
    go : (b : Bool) → cond b (v.movement ∷ []) [] ≡ [] ++ cond b (v.movement ∷ []) []
    go true = refl
    go false = refl
own_snoc n (u ∷ l) v = rw (own_snoc n l v) (go (is_from n u))
  where
    more : List Movement
    more = cond (is_from n v) (v.movement ∷ []) []

    go : (b : Bool)
        → cond b (u.movement ∷ (own_moves n l ++ more)) (own_moves n l ++ more) ≡ cond b (u.movement ∷ own_moves n l) (own_moves n l) ++ more
    go true = refl
    go false = refl

own_none : (x : Station) (l : List Vehicle) → Every (From (other_at x)) l → own_moves (number_at x) l ≡ []
own_none x [] h = refl
own_none x (v ∷ l) h = rw (not_own x v h.0) (own_none x l h.1)

own-redirected : (n : ℕ) (z : Station) (i : ℕ) (l : List Vehicle) → own_moves n (redirect_at z i l) ≡ own_moves n l
own-redirected n z i [] = refl
own-redirected n z zero (v ∷ l) = refl
own-redirected n z (suc i) (v ∷ l) = rw (own-redirected n z i l)

own-reverse : (n : ℕ) (l : List Vehicle) → own_moves n (reverse l) ≡ reverse (own_moves n l)
own-reverse n [] = refl
own-reverse n (v ∷ l) = ap (own_moves n) (reverse-cons v l) ∙ own_snoc n (reverse l) v ∙ rw (own-reverse n l) (go (is_from n v))
  where
    go : (b : Bool) → reverse (own_moves n l) ++ cond b (v.movement ∷ []) [] ≡ reverse (cond b (v.movement ∷ own_moves n l) (own_moves n l))
    go true = sym (reverse-cons v.movement (own_moves n l))
    go false = append-nil (reverse (own_moves n l))

own-seen : (n : ℕ) (x : Station) (l : List Vehicle) → own_moves n (seen_from x l) ≡ seen_from x (own_moves n l)
own-seen n A l = refl
own-seen n B l = own-reverse n l

-- ---- laws for a vehicle at x's end

module _ (x : Station) (v : Vehicle) (l : List Vehicle) where
  pub moves_own : From x v → moves_of x (insert_at x v l) ≡ v.movement ∷ moves_of x l
  moves_own e = ap (own_moves (number_at x)) (seen-own x v l) ∙ rw e

  pub moves_skip : NotFrom x v → moves_of x (insert_at x v l) ≡ moves_of x l
  moves_skip e = ap (own_moves (number_at x)) (seen-own x v l) ∙ rw e

  pub moves_far : From (other_at x) v → moves_of (other_at x) (insert_at x v l) ≡ moves_of (other_at x) l ++ v.movement ∷ []
  moves_far e = ap (own_moves (number_at (other_at x))) (seen_far x v l) ∙ own_snoc (number_at (other_at x)) (seen_from (other_at x) l) v ∙ rw e

  pub moves_past : NotFrom (other_at x) v → moves_of (other_at x) (insert_at x v l) ≡ moves_of (other_at x) l
  moves_past e =
      ap (own_moves (number_at (other_at x))) (seen_far x v l) ∙ own_snoc (number_at (other_at x)) (seen_from (other_at x) l) v
      ∙ rw e (append-nil (moves_of (other_at x) l))

pub moves_none : (x : Station) (l : List Vehicle) → Every (From (other_at x)) l → moves_of x l ≡ []
moves_none x l h = own_none x (seen_from x l) (every-seen (From (other_at x)) A x l h)

moves_redirected : (x z : Station) (i : ℕ) (l : List Vehicle) → moves_of x (redirect_at z i l) ≡ moves_of x l
moves_redirected x z i l = own-seen (number_at x) x (redirect_at z i l) ∙ ap (seen_from x) (own-redirected (number_at x) z i l) ∙ sym (own-seen (number_at x) x l)

-- a MEET redirects two
pub moves_met : (x z : Station) (i : ℕ) (l : List Vehicle) → moves_of x (met_at z i l) ≡ moves_of x l
moves_met x z i l = moves_redirected x z (suc i) (redirect_at z i l) ∙ moves_redirected x z i l

-- ---- figures of what a station's vehicles left on

own_weight : (y : Station) (f : Vehicle → ℕ) (g : Movement → ℕ) (l : List Vehicle) → Every (λ v. f v ≡ g v.movement) l
    → sum_over (of_station y f) l ≡ weigh g (own_moves (number_at y) l)
own_weight y f g [] a = refl
own_weight y f g (v ∷ l) a = go (is_from (number_at y) v) (own_weight y f g l a.1)
  where
    go : (b : Bool) → sum_over (of_station y f) l ≡ weigh g (own_moves (number_at y) l)
        → cond b (f v) 0 + sum_over (of_station y f) l ≡ weigh g (cond b (v.movement ∷ own_moves (number_at y) l) (own_moves (number_at y) l))
    go true e = omega (arith, a.0)
    go false e = omega arith

weigh_reverse : (g : Movement → ℕ) (l : List Movement) → weigh g (reverse l) ≡ weigh g l
weigh_reverse g [] = refl
weigh_reverse g (m ∷ l) = ap (weigh g) (reverse-cons m l) ∙ omega (arith, weigh_snoc g (reverse l) m, weigh_reverse g l)

weigh_seen : (x : Station) (g : Movement → ℕ) (l : List Movement) → weigh g (seen_from x l) ≡ weigh g l
weigh_seen A g l = refl
weigh_seen B g l = weigh_reverse g l

-- a figure that each vehicle has from what it left on, added up over one station's vehicles
pub moves_weight : (y : Station) (f : Vehicle → ℕ) (g : Movement → ℕ) (l : List Vehicle) → Every (λ v. f v ≡ g v.movement) l
    → sum_over (of_station y f) l ≡ weigh g (moves_of y l)
moves_weight y f g l a = own_weight y f g l a ∙ sym (ap (weigh g) (own-seen (number_at y) y l) ∙ weigh_seen y g (own_moves (number_at y) l))
