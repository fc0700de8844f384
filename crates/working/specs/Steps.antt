-- The step on a section and bytes: a station decides by its own desk and the vehicle nearest it, and acts on that desk and at its own end of the section.
use Rattle.std.specs.Prelude.{Bool, Err, List, None, Ok, Option, Some, [], false, suc, true, zero, ℕ, ◌∷◌}
use Rattle.working.specs.Acts.{Act}
use Rattle.working.specs.Answers.{accept}
use Rattle.working.specs.Effects.{Arrive, Depart, Plan, Refuse, effect_of}
use Rattle.working.specs.Events.{At, Bad, Begin, Decoded, Event, Meet, Resume, Says, decode}
use Rattle.working.specs.Reasons.{begin_tests, find_of, meet_tests, resume_tests, tests_of}
use Rattle.working.specs.Refusals.{Verdict, first_of}
use Rattle.working.specs.Sections.{count_refusal, desk_of, emptied, insert_at, nearest_at, number_at, remove_at, vehicles_of, with_desk, with_vehicles}
use Rattle.working.specs.WellMade.{well_made}
use Rattle.working.specs.declared.Desk.{Desk}
use Rattle.working.specs.declared.Refusal.TheVariants.{IllMade}
use Rattle.working.specs.declared.Refusal.{Refusal}
use Rattle.working.specs.declared.Section.{Section}
use Rattle.working.specs.declared.Speed.TheVariants.{NoSpeed}
use Rattle.working.specs.declared.Station.{Station}
use Rattle.working.specs.declared.Stepped.{Stepped}
use Rattle.working.specs.declared.Vehicle.{Vehicle}

-- ---- a station decides

abbrev pub unless_refused : Verdict → Plan → Plan
unless_refused (Err why) plan = Refuse why
unless_refused (Ok _) plan = plan

-- what an act of station x, whose desk is d and whose nearest vehicle is v, comes to
abbrev pub plan_of : Act → Station → Bool → Desk → ℕ → Vehicle → Plan
plan_of act x force d time v = unless_refused (first_of (tests_of act x force d time v)) (effect_of act x d time v)

-- ---- whose a refused step is

-- "those of no station (refusals 1 to 4, BEGIN, RESUME and MEET)"; every other is its entry's station's
abbrev pub whose_is : Decoded → Option Station
whose_is (Bad why) = None
whose_is (Says Begin) = None
whose_is (Says (At x time act)) = Some x
whose_is (Says (Meet x sender form)) = None
whose_is (Says Resume) = None

-- "A refusal adds 1 to the count and alters nothing else": to the count that the step belongs to
abbrev pub refused : Section → Decoded → Refusal → Stepped Section
refused s step why = record { answer = Err why; section = count_refusal (whose_is step) s }

-- ---- a station acts at its own end

-- accepted with no form, no forms and no speed
abbrev pub accepted : Section → Stepped Section
accepted s = record { answer = accept 0 0 NoSpeed; section = s }

abbrev pub done_by : Section → Decoded → Station → Plan → Stepped Section
done_by s step x (Refuse why) = refused s step why
done_by s step x (Depart p) = record {
  answer = accept p.vehicle.form p.order.forms p.order.speed;
  section = with_desk (with_vehicles s (insert_at x p.vehicle (vehicles_of s))) x p.desk;
}
done_by s step x (Arrive d) = accepted (with_desk (with_vehicles s (remove_at x (vehicles_of s))) x d)

-- ---- BEGIN, MEET and RESUME stand apart

abbrev pub settled : Section → Decoded → Verdict → Section → Stepped Section
settled s step (Err why) t = refused s step why
settled s step (Ok _) t = accepted t

-- "both then head to the station given and are met": one of them, and the one at place i
abbrev pub redirected : Station → Vehicle → Vehicle
redirected x v = record { movement = v.movement; sender = v.sender; form = v.form; heading = number_at x; met = true; class = v.class }

abbrev pub redirect_at : Station → ℕ → List Vehicle → List Vehicle
redirect_at x i [] = []
redirect_at x zero (v ∷ l) = redirected x v ∷ l
redirect_at x (suc i) (v ∷ l) = v ∷ redirect_at x i l

-- "MEET: names the one of the pair nearer A"
abbrev pub met_at : Station → ℕ → List Vehicle → List Vehicle
met_at x i l = redirect_at x (suc i) (redirect_at x i l)

-- ---- the step

unfoldable pub entered : Section → Event → Stepped Section
entered s Begin = settled s (Says Begin) (first_of (begin_tests s.force)) (emptied true s.refused)
entered s (At x time act) = done_by s (Says (At x time act)) x (plan_of act x s.force (desk_of s x) time (nearest_at x (vehicles_of s)))
entered s (Meet x sender form) =
    settled s (Says (Meet x sender form)) (first_of (meet_tests s.force (vehicles_of s) (find_of sender form (vehicles_of s))))
    (with_vehicles s (met_at x (find_of sender form (vehicles_of s)) (vehicles_of s)))
entered s Resume = settled s (Says Resume) (first_of (resume_tests s.force s.len)) (emptied false s.refused)

abbrev pub on_decoded : Section → Decoded → Stepped Section
on_decoded s (Bad why) = refused s (Bad why) why
on_decoded s (Says event) = entered s event

-- "5 is tested first, then rising numbers"; it alters nothing
abbrev pub if_made : Bool → Section → Stepped Section → Stepped Section
if_made true s after = after
if_made false s after = record { answer = Err IllMade; section = s }

unfoldable pub step_of : Section → List ℕ → Stepped Section
step_of s bytes = if_made (well_made s) s (on_decoded s (decode bytes))
