-- Every step keeps the invariant: what it says of both stations' desks and of the vehicles between them.
-- Each case of a step is one law of the invariant, over the station's own desk and the other's.
-- Assumes nothing.
use Prim.Native.Nat.{ℕ}
use Rattle.working.proofs.invariant.Changes.{Change, Sound, arrival, change, departure, emptying, meeting, refusal, sound_emptied, sound_step, well_at}
use Rattle.working.proofs.invariant.Invariant.{Half, Halves, all_slow, quiet}
use Rattle.working.proofs.invariant.Made.{Well, other_sender, vehicles_with}
use Rattle.working.proofs.invariant.Plans.{Departs}
use Rattle.working.proofs.invariant.Receipts.{Receipt, keeps-own, keeps_far, of_other, of_own, receipt}
use Rattle.working.proofs.invariant.Sides.{moves_far, moves_met, moves_none, moves_of, moves_own, moves_past, moves_skip}
use Rattle.working.proofs.laws.Clauses.{Shape}
use Rattle.working.proofs.laws.Vehicles.{From, every-end, not_other, number_same, ordered_far}
use Rattle.working.specs.Acts.{Act}
use Rattle.working.specs.Effects.{Departing, arrive_desk}
use Rattle.working.specs.Events.{Decoded, decode}
use Rattle.working.specs.Reasons.{may_enter}
use Rattle.working.specs.Sections.{desk_of, emptied, fresh_desk, insert_at, other_at, vehicles_of, with_desk, with_vehicles}
use Rattle.working.specs.Steps.{met_at, step_of}
use Rattle.working.specs.declared.Counts.{Counts}
use Rattle.working.specs.declared.Desk.{Desk}
use Rattle.working.specs.declared.Section.{Section}
use Rattle.working.specs.declared.Station.TheVariants.{A, B}
use Rattle.working.specs.declared.Station.{Station}
use Rattle.working.specs.declared.Stepped.{Stepped}
use Rattle.working.specs.declared.Vehicle.{Vehicle}
use mathlib.Core.Bool.{Bool, true}
use mathlib.Core.List.{List, []}
use mathlib.Core.Path.{refl, ◌≡◌}

-- the invariant seen from station x, whose desk is d, the other's o
abbrev pub Between : Station → Desk → Desk → List Vehicle → Type 0
Between x d o l = Halves d o (moves_of x l) (moves_of (other_at x) l)

pub record Good (s : Section) : Type 0 where
  pub sound : Sound s
  pub kept : Between A s.a s.b (vehicles_of s)

pub kept_at : (x : Station) (s : Section) → Good s → Between x (desk_of s x) (desk_of s (other_at x)) (vehicles_of s)
kept_at A s g = g.kept
kept_at B s g = record { own = g.kept.far; far = g.kept.own }

-- the section with the vehicles l and x's desk e
kept_with : (s : Section) (x : Station) (e : Desk) (l : List Vehicle) → Well x e (desk_of s (other_at x)) l → Between x e (desk_of s (other_at x)) l
    → Between A (with_desk (with_vehicles s l) x e).a (with_desk (with_vehicles s l) x e).b (vehicles_of (with_desk (with_vehicles s l) x e))
kept_with s A e l w h = rw (vehicles_with 24 l w.fits) h
kept_with s B e l w h = rw (vehicles_with 24 l w.fits) (record { own = h.far; far = h.own })

kept_depart : (s : Section) (act : Act) (x : Station) (p : Departing) → Good s → Departs act x (desk_of s x) p
    → Between x p.desk (desk_of s (other_at x)) (insert_at x p.vehicle (vehicles_of s))
kept_depart s act x p g q =
    let own : From x p.vehicle = rw q.sender (number_same x) in
    rw (moves_own x p.vehicle (vehicles_of s) own, moves_past x p.vehicle (vehicles_of s) (not_other x p.vehicle own))
    (q.keeps (desk_of s (other_at x)) (moves_of x (vehicles_of s)) (moves_of (other_at x) (vehicles_of s)) (kept_at x s g))

kept_arrive : (x : Station) (d o : Desk) (time : ℕ) (v : Vehicle) (l : List Vehicle) → Well x d o (insert_at x v l) → Between x d o (insert_at x v l)
    → may_enter x v ≡ true → Between x (arrive_desk x d time v) o l
kept_arrive x d o time v l w h may = by (receipt x d time v may)
  where
    by : {e : Desk} → Receipt x d time v e → Between x e o l
    by (of_own is slow) =
        keeps-own d o time v.movement (moves_of x l) (moves_of (other_at x) l) slow (rw (moves_own x v l is, moves_past x v l (not_other x v is)) at h)
    by (of_other is) =
        let shape = (every-end Shape x v l w.shape).1 in
        let none_own = moves_none x l (ordered_far x v l is w.order).1 in
        rw none_own
        (keeps_far d o time v.class v.movement (moves_of (other_at x) l) shape.moves
        (rw (moves_skip x v l is, none_own, moves_far x v l (other_sender x v shape is)) at h))

-- nothing in the section, and nothing on the desks
kept-emptied : Between A fresh_desk fresh_desk []
kept-emptied = record { own = half; far = half }
  where
    half : Half fresh_desk fresh_desk [] []
    half = quiet refl refl refl refl refl tt (all_slow tt)

kept_change : (s : Section) (e : Decoded) (r : Stepped Section) → Good s → Change s e r → Between A r.section.a r.section.b (vehicles_of r.section)
kept_change s e r g (refusal k why) = g.kept
kept_change s e r g (emptying k force) = kept-emptied
kept_change s e r g (departure x time act {p} f leaves w) = kept_with s x p.desk (insert_at x p.vehicle (vehicles_of s)) w (kept_depart s act x p g leaves)
kept_change s e r g (arrival x time y n k f may w) =
    let before = rw k.whole at (well_at s x g.sound) in
    kept_with s x (arrive_desk x (desk_of s x) time k.vehicle) k.others w
    (kept_arrive x (desk_of s x) (desk_of s (other_at x)) time k.vehicle k.others before (rw k.whole at (kept_at x s g)) may)
kept_change s e r g (meeting x y n i f w) =
    rw (vehicles_with 24 (met_at x i (vehicles_of s)) w.fits, moves_met A x i (vehicles_of s), moves_met B x i (vehicles_of s)) g.kept

pub good_emptied : (force : Bool) (counts : Counts) → Good (emptied force counts)
good_emptied force counts = record { sound = sound_emptied force counts; kept = kept-emptied }

pub good_step : (s : Section) (bytes : List ℕ) → Good s → Good (step_of s bytes).section
good_step s bytes g = record {
  sound = sound_step s bytes g.sound;
  kept = kept_change s (decode bytes) (step_of s bytes) g (change s bytes g.sound);
}
