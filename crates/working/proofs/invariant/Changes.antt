-- What a step comes to, by cases, and that it leaves a well-made section well made, whatever the bytes.
-- A refusal counts; BEGIN and RESUME empty the section; a departure puts a vehicle in at the station's end; a receipt takes one out there; MEET turns two.
-- Assumes nothing.
use Prim.Native.Nat.{suc, ℕ, ◌<◌}
use Rattle.working.proofs.invariant.Made.{Well, length-pad_to, made_of, well-insert, well_arrive, well_of}
use Rattle.working.proofs.invariant.Meeting.{redirect_left_on, well_redirect}
use Rattle.working.proofs.invariant.Plans.{Departs, Fate, arrives, departs, fate, refuses}
use Rattle.working.proofs.laws.Ranges.{Ranged, ranged_of}
use Rattle.working.proofs.laws.Reasons.{meet_passes, meets}
use Rattle.working.proofs.laws.Scans.{scanned}
use Rattle.working.proofs.laws.Vehicles.{Nearest, nearest}
use Rattle.working.specs.Acts as acts
use Rattle.working.specs.Acts.{Act}
use Rattle.working.specs.Effects.{Depart, Departing, Plan, arrive_desk}
use Rattle.working.specs.Events.{At, Bad, Begin, Decoded, Event, Meet, Resume, Says, decode}
use Rattle.working.specs.Reasons.{begin_tests, find_of, is_named, may_enter, may_meet, meet_tests, resume_tests}
use Rattle.working.specs.Sections.{desk_of, emptied, insert_at, nearest_at, other_at, pad_with, vehicles_of, with_desk, with_vehicles}
use Rattle.working.specs.Steps.{accepted, done_by, entered, met_at, on_decoded, plan_of, redirect_at, refused, settled, step_of}
use Rattle.working.specs.WellMade.{well_made}
use Rattle.working.specs.declared.Counts.{Counts}
use Rattle.working.specs.declared.Desk.{Desk}
use Rattle.working.specs.declared.Refusal.{Refusal}
use Rattle.working.specs.declared.Section.{Section}
use Rattle.working.specs.declared.Station.TheVariants.{A, B}
use Rattle.working.specs.declared.Station.{Station}
use Rattle.working.specs.declared.Stepped.{Stepped}
use Rattle.working.specs.declared.Vehicle.{Vehicle}
use lib.ListN.{length}
use mathlib.Core.Bool.{Bool, false, false≢true, true}
use mathlib.Core.List.{List, [], ◌∷◌}
use mathlib.Core.Path.{refl, ◌≡◌}
use native.Mathlib.Omega.{arith}

-- a section of 24 places that is well made; the places are what the array's type says
pub record Sound (s : Section) : Type 0 where
  pub places : length s.vehicles ≡ 24
  pub well : well_made s ≡ true

pub well_at : (s : Section) (x : Station) → Sound s → Well x (desk_of s x) (desk_of s (other_at x)) (vehicles_of s)
well_at s x g = well_of s x g.places g.well

-- ---- what each act leaves, seen from its station

-- the vehicle that a RECEIVE names is there
pub named_there : (y : Station) (n : ℕ) (x : Station) (l : List Vehicle) → is_named y n (nearest_at x l) ≡ true → 0 < length l
named_there y n x (v ∷ l) h = omega arith
named_there A n A [] h = absurd (false≢true h)
named_there B n A [] h = absurd (false≢true h)
named_there A n B [] h = absurd (false≢true h)
named_there B n B [] h = absurd (false≢true h)

well_meet : (s : Section) (x : Station) (i : ℕ) → Sound s → may_meet (vehicles_of s) i ≡ true → Well A s.a s.b (met_at x i (vehicles_of s))
well_meet s x i g may =
    let m = meets (vehicles_of s) i may in
    let first = well_redirect x A s.a s.b i (vehicles_of s) (well_at s A g) m.first in
    well_redirect x A s.a s.b (suc i) (redirect_at x i (vehicles_of s)) first (rw (redirect_left_on x i (suc i) (vehicles_of s)) m.second)

-- ---- the cases

pub data Change (s : Section) : Decoded → Stepped Section → Type 0 where
  refusal : (e : Decoded) (why : Refusal) → Change s e (refused s e why)
  emptying : (e : Decoded) (force : Bool) → Change s e (accepted (emptied force s.refused))
  departure : (x : Station) (time : ℕ) (act : Act) {p : Departing} → s.force ≡ true → Departs act x (desk_of s x) p
      → Well x p.desk (desk_of s (other_at x)) (insert_at x p.vehicle (vehicles_of s)) → Change s (Says (At x time act)) (done_by s (Says (At x time act)) x (Depart p))
  arrival : (x : Station) (time : ℕ) (y : Station) (n : ℕ) (k : Nearest x (vehicles_of s)) → s.force ≡ true → may_enter x k.vehicle ≡ true
      → Well x (arrive_desk x (desk_of s x) time k.vehicle) (desk_of s (other_at x)) k.others
      → Change s (Says (At x time (acts.Receive y n))) (accepted (with_desk (with_vehicles s k.others) x (arrive_desk x (desk_of s x) time k.vehicle)))
  meeting : (x y : Station) (n i : ℕ) → s.force ≡ true → Well A s.a s.b (met_at x i (vehicles_of s))
      → Change s (Says (Meet x y n)) (accepted (with_vehicles s (met_at x i (vehicles_of s))))

fated : (s : Section) (x : Station) (time : ℕ) (act : Act) (p : Plan) → Sound s → Fate act x s.force (desk_of s x) time (nearest_at x (vehicles_of s)) p
    → Change s (Says (At x time act)) (done_by s (Says (At x time act)) x p)
fated s x time act p g (refuses why) = refusal (Says (At x time act)) why
fated s x time act p g (departs {p = q} f leaves) =
    departure x time act f leaves (well-insert act x (desk_of s x) (desk_of s (other_at x)) q (vehicles_of s) (well_at s x g) leaves)
fated s x time act p g (arrives y n is f named may) =
    let k = nearest x (vehicles_of s) (named_there y n x (vehicles_of s) named) in
    let enters : may_enter x k.vehicle ≡ true = rw k.near at may in
    let before = rw k.whole at (well_at s x g) in
    let after = well_arrive x (desk_of s x) (desk_of s (other_at x)) time k.vehicle k.others before enters in
    rw (is, k.near, k.rest) (arrival x time y n k f enters after)

changed : (s : Section) (e : Event) → Sound s → Ranged e → Change s (Says e) (entered s e)
unfolding entered
changed s Begin g r =
    scanned (λ v. Change s (Says Begin) (settled s (Says Begin) v (emptied true s.refused))) (begin_tests s.force) (refusal (Says Begin))
    (λ n. emptying (Says Begin) true)
changed s (At x time act) g r =
    fated s x time act (plan_of act x s.force (desk_of s x) time (nearest_at x (vehicles_of s))) g
    (fate act x s.force (desk_of s x) time (nearest_at x (vehicles_of s)) r (well_at s x g).own.bounds)
changed s (Meet x y n) g r =
    let i = find_of y n (vehicles_of s) in
    let e = Says (Meet x y n) in
    scanned (λ v. Change s e (settled s e v (with_vehicles s (met_at x i (vehicles_of s))))) (meet_tests s.force (vehicles_of s) i) (refusal e)
    (λ none. let p = meet_passes s.force (vehicles_of s) i none in meeting x y n i p.begun (well_meet s x i g p.may))
changed s Resume g r =
    scanned (λ v. Change s (Says Resume) (settled s (Says Resume) v (emptied false s.refused))) (resume_tests s.force s.len) (refusal (Says Resume))
    (λ n. emptying (Says Resume) false)

pub step_is : (s : Section) (bytes : List ℕ) → well_made s ≡ true → step_of s bytes ≡ on_decoded s (decode bytes)
unfolding step_of
step_is s bytes h = rw h

pub change : (s : Section) (bytes : List ℕ) → Sound s → Change s (decode bytes) (step_of s bytes)
change s bytes g = rw (step_is s bytes g.well) (by (decode bytes) refl)
  where
    by : (e : Decoded) → decode bytes ≡ e → Change s e (on_decoded s e)
    by (Bad why) h = refusal (Bad why) why
    by (Says e) h = changed s e g (ranged_of bytes e h)

-- ---- each case leaves the section well made

-- the section with the vehicles l and x's desk e
sound_with : (s : Section) (x : Station) (e : Desk) (l : List Vehicle) → s.force ≡ true → Well x e (desk_of s (other_at x)) l
    → Sound (with_desk (with_vehicles s l) x e)
sound_with s x e l f w = record { places = places x; well = made_of s x e l f w }
  where
    places : (x : Station) → length (with_desk (with_vehicles s l) x e).vehicles ≡ 24
    places A = length-pad_to 24 l
    places B = length-pad_to 24 l

pub sound_emptied : (force : Bool) (counts : Counts) → Sound (emptied force counts)
unfolding well_made pad_with
sound_emptied true counts = record { places = refl; well = refl }
sound_emptied false counts = record { places = refl; well = refl }

sound_change : (s : Section) (e : Decoded) (r : Stepped Section) → Sound s → Change s e r → Sound r.section
unfolding well_made
sound_change s e r g (refusal k why) = record { places = g.places; well = g.well }
sound_change s e r g (emptying k force) = sound_emptied force s.refused
sound_change s e r g (departure x time act {p} f leaves w) = sound_with s x p.desk (insert_at x p.vehicle (vehicles_of s)) f w
sound_change s e r g (arrival x time y n k f may w) = sound_with s x (arrive_desk x (desk_of s x) time k.vehicle) k.others f w
sound_change s e r g (meeting x y n i f w) = sound_with s A s.a (met_at x i (vehicles_of s)) f w

-- ---- the theorem: a step, accepted or refused, leaves a well-made section well made

pub sound_step : (s : Section) (bytes : List ℕ) → Sound s → Sound (step_of s bytes).section
sound_step s bytes g = sound_change s (decode bytes) (step_of s bytes) g (change s bytes g)
