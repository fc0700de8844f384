-- What a function on a section in lent words answers and leaves, by the step that it takes; and where the ring then starts.
use Rattle.std.specs.Prelude.{Bool, Err, List, None, Ok, Option, false, true, ℕ, ◌≡◌}
use Rattle.words.specs.Words.{Becomes, DeskBecomes, OwnWords, RingKept, VehiclesBecome, section_in, start_in, start_on, with_departure}
use Rattle.working.specs.Answers.{Answer, accept}
use Rattle.working.specs.Effects.{Arrive, Depart, Plan, Refuse}
use Rattle.working.specs.Events.{At, Bad, Begin, Decoded, Event, Meet, Resume, Says}
use Rattle.working.specs.Reasons.{begin_tests, resume_tests}
use Rattle.working.specs.Refusals.{Verdict, first_of}
use Rattle.working.specs.Sections.{count_refusal, desk_of, emptied, insert_at, nearest_at, vehicles_of}
use Rattle.working.specs.Steps.{done_by, entered, on_decoded, plan_of}
use Rattle.working.specs.declared.Refusal.{Refusal}
use Rattle.working.specs.declared.Section.{Section}
use Rattle.working.specs.declared.Speed.TheVariants.{NoSpeed}
use Rattle.working.specs.declared.Station.{Station}
use Rattle.working.specs.declared.Vehicle.{Vehicle}

-- ---- where the ring starts after an act

-- a vehicle that enters at A's end stands in the slot before the start, and one that leaves there frees the start
abbrev pub start_by : Station → Plan → ℕ → ℕ
start_by x (Refuse why) start = start
start_by x (Depart p) start = start_on x start 31
start_by x (Arrive d) start = start_on x start 1

-- BEGIN and RESUME make all words anew
abbrev pub start_if_anew : Verdict → ℕ → ℕ
start_if_anew (Err why) start = start
start_if_anew (Ok _) start = 0

abbrev pub start_after : Section → Event → ℕ → ℕ
start_after s Begin start = start_if_anew (first_of (begin_tests s.force)) start
start_after s (At x time act) start = start_by x (plan_of act x s.force (desk_of s x) time (nearest_at x (vehicles_of s))) start
start_after s (Meet x sender form) start = start
start_after s Resume start = start_if_anew (first_of (resume_tests s.force s.len)) start

abbrev pub start_answered : Section → Decoded → ℕ → ℕ
start_answered s (Bad why) start = start
start_answered s (Says event) start = start_after s event start

-- ---- what is answered, and what the words become

pub record Refuses (before : List ℕ) (whose : Option Station) (why : Refusal) (given : Answer) (after : List ℕ) : Type 0 where
  pub answer : given ≡ Err why
  pub words : Becomes before after (count_refusal whose (section_in before)) (start_in before)
  pub ring : RingKept before after

-- BEGIN or RESUME, by what its tests come to: refused as of no station, or accepted with all made anew, in force or not
abbrev pub Declares : List ℕ → Verdict → Bool → Answer → List ℕ → Type 0
Declares before (Err why) force given after = Refuses before None why given after
Declares before (Ok _) force given after = (given ≡ accept 0 0 NoSpeed) × OwnWords after (emptied force (section_in before).refused)

-- what the words stand for before a refusal is counted: by the answer the section as it was, or the one after it
abbrev pub Puts : Answer → List ℕ → Section → ℕ → List ℕ → Type 0
Puts (Err why) before s start after = Becomes before after (section_in before) (start_in before)
Puts (Ok order) before s start after = Becomes before after s start

-- a station's act that comes to a plan, before a refusal is counted
pub record Does (before : List ℕ) (event : Event) (x : Station) (plan : Plan) (given : Answer) (after : List ℕ) : Type 0 where
  pub answer : given ≡ (done_by (section_in before) (Says event) x plan).answer
  pub words : let t = done_by (section_in before) (Says event) x plan in Puts t.answer before t.section (start_by x plan (start_in before)) after

-- an entry that is taken, before a refusal is counted
pub record Tries (before : List ℕ) (event : Event) (given : Answer) (after : List ℕ) : Type 0 where
  pub answer : given ≡ (entered (section_in before) event).answer
  pub words : let t = entered (section_in before) event in Puts t.answer before t.section (start_after (section_in before) event (start_in before)) after

pub record Enters (before : List ℕ) (event : Event) (given : Answer) (after : List ℕ) : Type 0 where
  pub answer : given ≡ (entered (section_in before) event).answer
  pub words : Becomes before after (entered (section_in before) event).section (start_after (section_in before) event (start_in before))

-- which events declare, and have their refusal counted with it
abbrev pub is_declared : Event → Bool
is_declared Begin = true
is_declared (At x time act) = false
is_declared (Meet x sender form) = false
is_declared Resume = true

-- an entry that is taken, where BEGIN and RESUME have counted what they refuse
abbrev pub Comes : List ℕ → Event → Answer → List ℕ → Type 0
Comes before Begin given after = Enters before Begin given after
Comes before (At x time act) given after = Tries before (At x time act) given after
Comes before (Meet x sender form) given after = Tries before (Meet x sender form) given after
Comes before Resume given after = Enters before Resume given after

pub record Answers (before : List ℕ) (decoded : Decoded) (given : Answer) (after : List ℕ) : Type 0 where
  pub answer : given ≡ (on_decoded (section_in before) decoded).answer
  pub words : Becomes before after (on_decoded (section_in before) decoded).section (start_answered (section_in before) decoded (start_in before))

-- what every departure does to the words: a vehicle is put in, and then the figures that all kinds change on x's desk, which counts `sent` after it
pub record Leaves (before : List ℕ) (x : Station) (time sent : ℕ) (v : Vehicle) (after : List ℕ) : Type 0 where
  pub between : List ℕ
  pub vehicle : VehiclesBecome before between (insert_at x v) (λ start. start_on x start 31)
  pub figures : DeskBecomes between after x (with_departure time v.form sent)
