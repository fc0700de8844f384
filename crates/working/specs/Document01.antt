-- Document 01's own step, as it stood before the requests that alter what a step answers, with the counts of T-01. Today's step is in Steps; this one stays for the
-- sentence of T-02, "Lists from fresh once accepted throughout are answered as before", which is stated at the end. Only what the requests altered is written out: T-02
-- refusal 16 on a TRAIN, and what a receipt makes of holds; T-03 kind 9, which was refusal 2; T-07 a follower's speed, which had one figure; T-08 refusal 11, which a RETURN
-- could read. What a later request alters is first written out here as it was. The sections are today's. The step makes nothing wait, moves nothing that waits and sends no
-- vehicle of kind 9, so that from fresh there is none of these; and where there is none `well_made` asks what document 01 asks.
use Rattle.std.specs.Prelude.{Bool, Err, List, Ok, [], cond, eqb, false, ltb, not, true, ℕ, ◌&&◌, ◌<◌, ◌||◌, ◌∷◌, ◌≡◌}
use Rattle.working.specs.Acts as acts
use Rattle.working.specs.Acts.{Act}
use Rattle.working.specs.Answers.{Answer, accept}
use Rattle.working.specs.Effects.{Arrive, Depart, Plan, Refuse, effect_of, other_desk, own_desk}
use Rattle.working.specs.Entries.{entry_in, is_cut}
use Rattle.working.specs.Events.{At, Bad, Begin, Decoded, Event, Meet, Resume, Says, decode}
use Rattle.working.specs.Reasons.{depart_tests, tests_of}
use Rattle.working.specs.Refusals.{Test, first_of}
use Rattle.working.specs.Runs.{Done, Run, accepts_by, end_by, results, results_by}
use Rattle.working.specs.Sections.{desk_of, fresh, nearest_at, number_at, vehicles_of, with_holds}
use Rattle.working.specs.Speeds.{follow_figure_01, follows, view_number}
use Rattle.working.specs.Steps.{done_by, entered, if_made, refused, unless_refused}
use Rattle.working.specs.Terms.{LAST-TRAIN, kind_in, vehicle_at}
use Rattle.working.specs.WellMade.{well_made}
use Rattle.working.specs.declared.Desk.{Desk}
use Rattle.working.specs.declared.Movement.TheVariants.{LastTrain, Open, Return, Through, Train}
use Rattle.working.specs.declared.Movement.{Movement}
use Rattle.working.specs.declared.Refusal.TheVariants.{GrantNotAllowed, HoldsLineClear, NoGuest, NoLineClear, UnknownKind}
use Rattle.working.specs.declared.Section.{Section}
use Rattle.working.specs.declared.Speed.TheVariants.{Booked, Both, Kmh, NoSpeed, Walking}
use Rattle.working.specs.declared.Speed.{Speed}
use Rattle.working.specs.declared.Station.{Station}
use Rattle.working.specs.declared.Stepped.{Stepped}
use Rattle.working.specs.declared.Vehicle.{Vehicle}
use Rattle.working.specs.declared.View.{View}

-- ---- what T-02 altered

-- 16: "granted above asked at S, or on a TRAIN that leaves holds above 0"
abbrev pub train_tests_01 : Desk → ℕ → List Test
train_tests_01 d granted =
    (eqb d.clears.holds 0, NoLineClear)  -- 15
    ∷ (ltb d.clears.asked granted || (ltb 0 granted && ltb 1 d.clears.holds), GrantNotAllowed)  -- 16
    ∷ []

-- "RETURN and TRAIN set holds to granted"
abbrev pub holds_after_01 : Movement → ℕ → ℕ
holds_after_01 (Open asked) before = before
holds_after_01 Through before = before
holds_after_01 (Return asked granted) before = granted
holds_after_01 (Train asked granted) before = granted
holds_after_01 (LastTrain asked granted given_up) before = granted

abbrev pub arrive_desk_01 : Station → Desk → ℕ → Vehicle → Desk
arrive_desk_01 x d time v =
    cond (eqb v.sender (number_at x)) (own_desk d time v.movement)
    (with_holds (holds_after_01 v.movement d.clears.holds) (other_desk d time v.class v.movement))

-- ---- what T-03 altered

-- a whole entry of kind 9, "which was refusal 2", whatever else is right or wrong with it; so no TRAIN that comes to tests and effects is endorsed
abbrev pub is_kind_nine : List ℕ → Bool
is_kind_nine bytes = not (is_cut bytes) && eqb (entry_in bytes).kind 9

unfoldable pub decode01 : List ℕ → Decoded
decode01 bytes = cond (is_kind_nine bytes) (Bad UnknownKind) (decode bytes)

-- ---- what T-07 altered

-- "TRAIN booked if sent was 0, else 25 in view 1 and 10 otherwise"
abbrev pub train_speed_01 : Bool → View → Speed
train_speed_01 true view = Booked
train_speed_01 false view = Kmh (follow_figure_01 (view_number view))

-- a departure, at another speed
abbrev pub at_speed : Speed → Plan → Plan
at_speed speed (Refuse why) = Refuse why
at_speed speed (Depart p) = Depart (record { desk = p.desk; vehicle = p.vehicle; order = record { forms = p.order.forms; speed = speed } })
at_speed speed (Arrive d) = Arrive d

-- ---- what T-08 altered

-- "RETURN: 11 as before; 14 no guest. .. 16 granted above asked at S"
abbrev pub return_tests_01 : Desk → ℕ → List Test
return_tests_01 d granted =
    (ltb 0 d.clears.holds, HoldsLineClear)  -- 11
    ∷ (eqb d.guest 0, NoGuest)  -- 14
    ∷ (ltb d.clears.asked granted, GrantNotAllowed)  -- 16
    ∷ []

-- ---- a step like today's

-- the tests of an act, where a RETURN's own and a TRAIN's own are these
abbrev pub tests_by : (Desk → ℕ → List Test) → (Desk → ℕ → List Test) → Act → Station → Bool → Desk → ℕ → Vehicle → List Test
tests_by ofReturn ofTrain (acts.Open view class asked) x force d time v = tests_of (acts.Open view class asked) x force d time v
tests_by ofReturn ofTrain (acts.Through view) x force d time v = tests_of (acts.Through view) x force d time v
tests_by ofReturn ofTrain (acts.Return asked granted) x force d time v = depart_tests force d time (ofReturn d granted)
tests_by ofReturn ofTrain (acts.Train endorsed view asked granted) x force d time v = depart_tests force d time (ofTrain d granted)
tests_by ofReturn ofTrain (acts.Receive sender form) x force d time v = tests_of (acts.Receive sender form) x force d time v

-- a step by which the act of a station comes to this plan; whoever declares, and a MEET, as today
abbrev pub entered_by : (Act → Station → Bool → Desk → ℕ → Vehicle → Plan) → Section → Event → Stepped Section
entered_by plan s Begin = entered s Begin
entered_by plan s (At x time act) = done_by s (Says (At x time act)) x (plan act x s.force (desk_of s x) time (nearest_at x (vehicles_of s)))
entered_by plan s (Meet x sender form) = entered s (Meet x sender form)
entered_by plan s Resume = entered s Resume

abbrev pub on_decoded_by : (Act → Station → Bool → Desk → ℕ → Vehicle → Plan) → Section → Decoded → Stepped Section
on_decoded_by plan s (Bad why) = refused s (Bad why) why
on_decoded_by plan s (Says event) = entered_by plan s event

-- what a step comes to, with its answer altered by `alter` where `so` holds
abbrev pub altered : Bool → (Answer → Answer) → Stepped Section → Stepped Section
altered so alter r = record { answer = cond so (alter r.answer) r.answer; section = r.section }

-- ---- document 01's step

abbrev pub effect_of_01 : Act → Station → Desk → ℕ → Vehicle → Plan
effect_of_01 (acts.Open view class asked) x d time v = effect_of (acts.Open view class asked) x d time v
effect_of_01 (acts.Through view) x d time v = effect_of (acts.Through view) x d time v
effect_of_01 (acts.Return asked granted) x d time v = effect_of (acts.Return asked granted) x d time v
effect_of_01 (acts.Train endorsed view asked granted) x d time v =
    at_speed (train_speed_01 (eqb d.sent 0) view) (effect_of (acts.Train endorsed view asked granted) x d time v)
effect_of_01 (acts.Receive sender form) x d time v = Arrive (arrive_desk_01 x d time v)

abbrev pub plan_of_01 : Act → Station → Bool → Desk → ℕ → Vehicle → Plan
plan_of_01 act x force d time v = unless_refused (first_of (tests_by return_tests_01 train_tests_01 act x force d time v)) (effect_of_01 act x d time v)

unfoldable pub step_of_01 : Section → List ℕ → Stepped Section
step_of_01 s bytes = if_made (well_made s) s (on_decoded_by plan_of_01 s (decode01 bytes))

-- ---- "Lists from fresh once accepted throughout are answered as before"

-- T-07, "and 10 for elsewhere": beside the one figure of a speed
abbrev pub with_elsewhere : Speed → Speed
with_elsewhere NoSpeed = NoSpeed
with_elsewhere Walking = Walking
with_elsewhere (Kmh k) = Both k 10
with_elsewhere Booked = Booked
with_elsewhere (Both straight elsewhere) = Both straight elsewhere

abbrev pub with_second_figure : Answer → Answer
with_second_figure (Err why) = Err why
with_second_figure (Ok given) = accept given.form given.forms (with_elsewhere given.speed)

-- a follower's step
abbrev pub is_follower : Section → Decoded → Bool
is_follower s (Bad why) = false
is_follower s (Says Begin) = false
is_follower s (Says (At x time act)) = follows act (desk_of s x)
is_follower s (Says (Meet x sender form)) = false
is_follower s (Says Resume) = false

-- a step that gives a follower a second figure, and does all else as another
abbrev pub followers_two : (Section → List ℕ → Stepped Section) → Section → List ℕ → Stepped Section
followers_two step s bytes = altered (is_follower s (decode bytes)) with_second_figure (step s bytes)

-- today's step gave each step of a list the answer and the section of document 01's, but that a follower's speed has its second figure beside document 01's; the section at
-- the end is the same, nothing waits in it, and no vehicle in it left on kind 9
pub record AsBefore {l : List Done} {s : Section} (run : Run fresh l s) : Type 0 where
  pub each : results run ≡ results_by (followers_two step_of_01) fresh l
  pub end : s ≡ end_by step_of_01 fresh l
  pub waiting : (x : Station) → (desk_of s x).waiting ≡ 0
  pub unendorsed : (i : ℕ) → i < s.len → kind_in (vehicle_at s i).movement ≡ LAST-TRAIN → ⊥

abbrev pub AnsweredAsBefore : Type 0
AnsweredAsBefore = (l : List Done) (s : Section) (run : Run fresh l s) → accepts_by step_of_01 fresh l ≡ true → AsBefore run
