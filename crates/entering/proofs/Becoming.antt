-- How the words of a section become those of the section after an entry: what its tests come to decides whether it is refused or carried out, and the changes of the
-- vehicles present and of a desk, one after another, are those of the definition.
-- Assumes nothing.
use Prim.Native.Nat.{ℕ, ◌+◌, ◌<◌}
use Rattle.entering.specs.Entering.{Comes, Declares, Does, Enters, Leaves, Puts, Refuses, Tries, is_declared, start_after, start_by, start_if_anew}
use Rattle.std.proofs.lemmas.Result.{err_from_is_err_and}
use Rattle.std.specs.Prelude.{Err, IsErrAnd, None, Ok, Option, Result, Some, is_ok}
use Rattle.words.proofs.Becoming.{becomes_as, becomes_then, desk-length, desk_then}
use Rattle.words.specs.Words.{Becomes, DeskBecomes, Met, VehiclesBecome, section_in, start_in, start_on, with_departure}
use Rattle.working.proofs.laws.Reasons.{last_passes}
use Rattle.working.proofs.laws.Scans.{first_passes, first_refuses}
use Rattle.working.proofs.laws.Tests.{none_holds, none_of_both}
use Rattle.working.specs.Acts as acts
use Rattle.working.specs.Acts.{Act}
use Rattle.working.specs.Answers.{Answer, accept}
use Rattle.working.specs.Effects.{Arrive, Depart, Plan, Refuse, effect_of, next_form, vehicle_for}
use Rattle.working.specs.Events.{At, Begin, Event, Meet, Resume, Says, station_of}
use Rattle.working.specs.Reasons.{begin_tests, find_of, last_tests, may_meet, meet_tests, open_tests, receive_tests, resume_tests, return_tests, station_tests, tests_of, train_tests}
use Rattle.working.specs.Refusals.{Test, Verdict, first_of}
use Rattle.working.specs.Sections.{count_refusal, desk_of, emptied, insert_at, nearest_at, vehicles_of, with_desk, with_vehicles}
use Rattle.working.specs.Steps.{done_by, entered, met_at, plan_of, settled, unless_refused, whose_is}
use Rattle.working.specs.declared.Accepted.{Accepted}
use Rattle.working.specs.declared.Desk.{Desk}
use Rattle.working.specs.declared.Entry.{Entry}
use Rattle.working.specs.declared.Movement.{Movement}
use Rattle.working.specs.declared.Refusal.TheVariants.{MayNotMeet, NotInForce}
use Rattle.working.specs.declared.Refusal.{Refusal}
use Rattle.working.specs.declared.Section.{Section}
use Rattle.working.specs.declared.Speed.TheVariants.{NoSpeed}
use Rattle.working.specs.declared.Station.TheVariants.{A, B}
use Rattle.working.specs.declared.Station.{Station}
use Rattle.working.specs.declared.Vehicle.{Vehicle}
use mathlib.Core.Bool.{Bool, false, not, true, true≢false}
use mathlib.Core.List.{List, [], ◌++◌, ◌∷◌}
use mathlib.Core.Path.{ap, ap₂, refl, subst, sym, ◌∙◌, ◌≡◌}
use native.Mathlib.Omega.{arith}

-- ---- a desk, and the vehicles before it

-- a desk that became d, by another name
pub desk_is : {w w₁ : List ℕ} (x : Station) {d e : Desk} → d ≡ e → Becomes w w₁ (with_desk (section_in w) x d) (start_in w) → Becomes w w₁ (with_desk (section_in w) x e) (start_in w)
desk_is {w} x same b = becomes_as b (ap (with_desk (section_in w) x) same) refl

vehicles_desk : (s : Section) (l : List Vehicle) (x : Station) → desk_of (with_vehicles s l) x ≡ desk_of s x
vehicles_desk s l A = refl
vehicles_desk s l B = refl

pub desk-behind : {w w₁ : List ℕ} (x : Station) (f : List Vehicle → List Vehicle) (start : ℕ → ℕ) → VehiclesBecome w w₁ f start → desk_of (section_in w₁) x ≡ desk_of (section_in w) x
desk-behind {w} x f start present = ap (λ (t : Section). desk_of t x) present.section ∙ vehicles_desk (section_in w) (f (vehicles_of (section_in w))) x

-- the vehicles are changed, and then a desk, which was d
pub vehicles_and_desk : {w w₁ w₂ : List ℕ} (x : Station) (f : List Vehicle → List Vehicle) (start : ℕ → ℕ) (g : Desk → Desk) {d : Desk} → d ≡ desk_of (section_in w) x
    → VehiclesBecome w w₁ f start → DeskBecomes w₁ w₂ x g → Becomes w w₂ (with_desk (with_vehicles (section_in w) (f (vehicles_of (section_in w)))) x (g d)) (start (start_in w))
vehicles_and_desk {w} {w₁} x f start g {d} was present desk =
    let t = with_vehicles (section_in w) (f (vehicles_of (section_in w))) in
    let whole : with_desk (section_in w₁) x (g (desk_of (section_in w₁) x)) ≡ with_desk t x (g d) =
    ap₂ (λ (u : Section) (e : Desk). with_desk u x (g e)) present.section (desk-behind x f start present ∙ sym was) in
    becomes_as (becomes_then present (becomes_as desk whole refl) (λ few. omega (arith, desk-length t x (g d)))) refl present.start

-- ---- a station's act

-- an act's own tests, behind 7 and 9
abbrev pub own_tests : Act → Station → Desk → ℕ → Vehicle → List Test
own_tests (acts.Open view class asked) x d time v = open_tests d ++ last_tests d.sent d.last d.interval time
own_tests (acts.Through view) x d time v = open_tests d ++ last_tests d.sent d.last d.interval time
own_tests (acts.Return asked granted) x d time v = return_tests d granted ++ last_tests d.sent d.last d.interval time
own_tests (acts.Train endorsed view asked granted) x d time v = train_tests d granted ++ last_tests d.sent d.last d.interval time
own_tests (acts.Receive sender form) x d time v = receive_tests x sender form v

tests_are : (act : Act) (x : Station) (force : Bool) (d : Desk) (time : ℕ) (v : Vehicle) → tests_of act x force d time v ≡ station_tests force d.clock time ++ own_tests act x d time v
tests_are (acts.Open view class asked) x force d time v = refl
tests_are (acts.Through view) x force d time v = refl
tests_are (acts.Return asked granted) x force d time v = refl
tests_are (acts.Train endorsed view asked granted) x force d time v = refl
tests_are (acts.Receive sender form) x force d time v = refl

-- what the code looks at first, by its own names: the station, its desk, whether the working is in force, and what 7 and 9 come to
pub record Looked (w : List ℕ) (e : Entry) : Type 0 where
  pub at : Station
  pub desk : Desk
  pub force : Bool
  pub verdict : Verdict
  pub at_is : at ≡ station_of e.station
  pub desk_is : desk ≡ desk_of (section_in w) at
  pub force_is : force ≡ (section_in w).force
  pub verdict_is : verdict ≡ first_of (station_tests force desk.clock e.time)

abbrev pub look : {w : List ℕ} (e : Entry) {x : Station} {d : Desk} {f : Bool} {v : Verdict} → x ≡ station_of e.station → d ≡ desk_of (section_in w) x
    → f ≡ (section_in w).force → v ≡ first_of (station_tests f d.clock e.time) → Looked w e
look e at desk force verdict = record { at = _; desk = _; force = _; verdict = _; at_is = at; desk_is = desk; force_is = force; verdict_is = verdict }

-- 7 and 9, an act's own tests and its effect, of what was looked at
module _ {w : List ℕ} {e : Entry} where
  abbrev pub station_by : Looked w e → List Test
  station_by l = station_tests l.force l.desk.clock e.time

  abbrev pub own_by : Looked w e → Act → List Test
  own_by l act = own_tests act l.at l.desk e.time (nearest_at l.at (vehicles_of (section_in w)))

  abbrev pub effect_by : Looked w e → Act → Plan
  effect_by l act = effect_of act l.at l.desk e.time (nearest_at l.at (vehicles_of (section_in w)))

-- where 7 and 9 let the act pass: what its own tests come to
pub record Passed (w : List ℕ) (e : Entry) (act : Act) : Type 0 where
  pub looked : Looked w e
  pub allowed : looked.verdict ≡ Ok tt
  pub own : Verdict
  pub own_is : own ≡ first_of (own_by looked act)

abbrev pub pass : {w : List ℕ} {e : Entry} {act : Act} (l : Looked w e) {v : Verdict} → l.verdict ≡ Ok tt → v ≡ first_of (own_by l act) → Passed w e act
pass l allowed own = record { looked = l; allowed = allowed; own = _; own_is = own }

-- 7 and 9 pass, so its own tests decide
decides : {w : List ℕ} {e : Entry} {act : Act} (p : Passed w e act) → first_of (station_by p.looked ++ own_by p.looked act) ≡ p.own
decides {act = act} p = first_passes (station_by p.looked) (own_by p.looked act) (sym p.looked.verdict_is ∙ p.allowed) ∙ sym p.own_is

abbrev event_by : Entry → Act → Event
event_by e act = At (station_of e.station) e.time act

-- what a `?` returns
pub passed_on : {X : Type 0} {r : Result X Refusal} {why : Refusal} → IsErrAnd r (λ e. e ≡ why) → r ≡ Err why
passed_on {r = r} is = let p = err_from_is_err_and r is in p.1 ∙ ap Err p.2

-- words that are not altered
pub unaltered : (w : List ℕ) → Becomes w w (section_in w) (start_in w)
unaltered w = record { section = refl; start = refl; own = λ few own. own }

module _ {w w₁ : List ℕ} {e : Entry} {act : Act} {given : Answer} where
  -- the act comes to a plan by what all its tests come to, and the code's names are the definition's
  tries_by : (l : Looked w e) (v : Verdict) → first_of (station_by l ++ own_by l act) ≡ v
      → Does w (event_by e act) l.at (unless_refused v (effect_by l act)) given w₁ → Tries w (event_by e act) given w₁
  unfolding entered
  tries_by l v is does =
      let s = section_in w in
      let x = l.at in
      let plan : Station → Bool → Desk → Plan = λ z force d. plan_of act z force d e.time (nearest_at z (vehicles_of s)) in
      let done : Station → Plan → Type 0 = λ z p. Does w (event_by e act) z p given w₁ in
      let code : done x (plan x l.force l.desk) = rw (tests_are, is) does in
      let forced : done x (plan x s.force l.desk) = subst (λ (f : Bool). done x (plan x f l.desk)) l.force_is code in
      let desked : done x (plan x s.force (desk_of s x)) = subst (λ (d : Desk). done x (plan x s.force d)) l.desk_is forced in
      let named = subst (λ (z : Station). done z (plan z s.force (desk_of s z))) l.at_is desked in
      record { answer = named.answer; words = named.words }

  refused_by : (l : Looked w e) {why : Refusal} → first_of (station_by l ++ own_by l act) ≡ Err why → given ≡ Err why → Becomes w w₁ (section_in w) (start_in w)
      → Tries w (event_by e act) given w₁
  refused_by l {why} is answer kept = tries_by l (Err why) is (record { answer = answer; words = kept })

  -- refused with 7 or 9
  pub first_refused : (l : Looked w e) {why : Refusal} → l.verdict ≡ Err why → given ≡ Err why → Becomes w w₁ (section_in w) (start_in w) → Tries w (event_by e act) given w₁
  first_refused l is = refused_by l (first_refuses (station_by l) (own_by l act) (sym l.verdict_is ∙ is))

  -- or by its own tests, or carried out
  pub own-refused : (p : Passed w e act) {why : Refusal} → p.own ≡ Err why → given ≡ Err why → Becomes w w₁ (section_in w) (start_in w) → Tries w (event_by e act) given w₁
  own-refused p is = refused_by p.looked (decides p ∙ is)

  pub act_done : (p : Passed w e act) → p.own ≡ Ok tt → Does w (event_by e act) p.looked.at (effect_by p.looked act) given w₁
      → Tries w (event_by e act) given w₁
  act_done p is = tries_by p.looked (Ok tt) (decides p ∙ is)

-- a departure that no test refuses has a form number left, and room for one more sent
pub may_leave : {own : Verdict} (tests : List Test) (d : Desk) (time : ℕ) → own ≡ first_of (tests ++ last_tests d.sent d.last d.interval time) → own ≡ Ok tt
    → (d.last < 9999) × (d.sent < 12)
may_leave tests d time is allowed =
    let last = last_tests d.sent d.last d.interval time in
    let none = none_holds (tests ++ last) (sym is ∙ allowed) in
    let passes = last_passes d.sent d.last d.interval time (none_of_both tests last none).1 in
    (passes.unused, passes.room)

-- it has left, and then the kind changes figures of its own
module _ {w w₁ : List ℕ} {e : Entry} (l : Looked w e) {movement : Movement} {class : ℕ} {v : Vehicle} (is : v ≡ vehicle_for l.at (next_form l.desk) movement class)
    (left : Leaves w l.at e.time (l.desk.sent + 1) v w₁) where
  abbrev inserted : List Vehicle → List Vehicle
  inserted = insert_at l.at (vehicle_for l.at (next_form l.desk) movement class)

  abbrev figures : Desk → Desk
  figures = with_departure e.time (next_form l.desk) (l.desk.sent + 1)

  abbrev leaves_named : Leaves w l.at e.time (l.desk.sent + 1) (vehicle_for l.at (next_form l.desk) movement class) w₁
  leaves_named = subst (λ (u : Vehicle). Leaves w l.at e.time (l.desk.sent + 1) u w₁) is left

  pub has_left : Becomes w w₁ (with_desk (with_vehicles (section_in w) (inserted (vehicles_of (section_in w)))) l.at (figures l.desk)) (start_on l.at (start_in w) 31)
  has_left = vehicles_and_desk l.at inserted (λ start. start_on l.at start 31) figures l.desk_is leaves_named.vehicle leaves_named.figures

  pub left_with : {w₂ : List ℕ} (g : Desk → Desk) → DeskBecomes w₁ w₂ l.at g
      → Becomes w w₂ (with_desk (with_vehicles (section_in w) (inserted (vehicles_of (section_in w)))) l.at (g (figures l.desk))) (start_on l.at (start_in w) 31)
  left_with g desk =
      vehicles_and_desk l.at inserted (λ start. start_on l.at start 31) (λ d. g (figures d)) l.desk_is leaves_named.vehicle
      (desk_then l.at figures g leaves_named.figures desk)

-- ---- BEGIN and RESUME: refused by the first of their tests that holds, or all is made anew, in force or not

abbrev pub declared_tests : Bool → Section → List Test
declared_tests true s = begin_tests s.force
declared_tests false s = resume_tests s.force s.len

abbrev pub declaring : Bool → Event
declaring true = Begin
declaring false = Resume

of_no_station : (force : Bool) → whose_is (Says (declaring force)) ≡ None
of_no_station true = refl
of_no_station false = refl

module _ {w w₁ : List ℕ} {given : Answer} where
  declares_by : (force : Bool) (v : Verdict) → let s = section_in w in let t = settled s (Says (declaring force)) v (emptied force s.refused) in
      first_of (declared_tests force s) ≡ v → given ≡ t.answer → Becomes w w₁ t.section (start_if_anew v (start_in w)) → Enters w (declaring force) given w₁
  unfolding entered
  declares_by true v is answer words = record { answer = rw is answer; words = rw is words }
  declares_by false v is answer words = record { answer = rw is answer; words = rw is words }

  -- by what the declaration came to
  pub declared : (force : Bool) (v : Verdict) → first_of (declared_tests force (section_in w)) ≡ v → Declares w v force given w₁ → Enters w (declaring force) given w₁
  declared force (Err why) is refuses =
      let nobodys = subst (λ (z : Option Station). Becomes w w₁ (count_refusal z (section_in w)) (start_in w)) (sym (of_no_station force)) refuses.words in
      declares_by force (Err why) is refuses.answer nobodys
  declared force (Ok _) is (answer, own) =
      declares_by force (Ok _) is answer (record { section = own.section; start = own.start; own = λ few e. own.words })

-- ---- MEET: 7, then 22, or the two have met

abbrev meet_verdict : Bool → Bool → Verdict
meet_verdict force may = first_of ((not force, NotInForce) ∷ (not may, MayNotMeet) ∷ [])

module _ (w : List ℕ) (x sender : Station) (form : ℕ) where
  abbrev place : ℕ
  place = find_of sender form (vehicles_of (section_in w))

  meet_by : {w₁ : List ℕ} {given : Answer} (v : Verdict) → meet_verdict (section_in w).force (may_meet (vehicles_of (section_in w)) place) ≡ v
      → let t = settled (section_in w) (Says (Meet x sender form)) v (with_vehicles (section_in w) (met_at x place (vehicles_of (section_in w)))) in
      given ≡ t.answer → Puts t.answer w t.section (start_in w) w₁ → Tries w (Meet x sender form) given w₁
  unfolding entered
  meet_by {w₁} {given} v is answer words =
      let s = section_in w in
      let t = with_vehicles s (met_at x place (vehicles_of s)) in
      record {
        answer = answer ∙ ap (λ (u : Verdict). (settled s (Says (Meet x sender form)) u t).answer) (sym is);
        words = subst (λ (u : Verdict). let z = settled s (Says (Meet x sender form)) u t in Puts z.answer w z.section (start_in w) w₁) (sym is) words;
      }

  pub meet_out_of_force : (section_in w).force ≡ false → Tries w (Meet x sender form) (Err NotInForce) w
  meet_out_of_force off =
      meet_by (Err NotInForce) (ap (λ (b : Bool). meet_verdict b (may_meet (vehicles_of (section_in w)) place)) off) refl (unaltered w)

  pub meet_refused : {w₁ : List ℕ} → (section_in w).force ≡ true → Met w w₁ x sender form false → Tries w (Meet x sender form) (Err MayNotMeet) w₁
  meet_refused on met = meet_by (Err MayNotMeet) (ap₂ meet_verdict on (sym met.may)) refl met.words

  pub meet_allowed : {w₁ : List ℕ} {given : Answer} → (section_in w).force ≡ true → Met w w₁ x sender form true → given ≡ accept 0 0 NoSpeed
      → Tries w (Meet x sender form) given w₁
  meet_allowed on met answer = meet_by (Ok tt) (ap₂ meet_verdict on (sym met.may)) answer met.words

-- whether the two met, where the code has the stations and the answer by other names
pub met_by : {w w₁ : List ℕ} {x y sender z : Station} {form : ℕ} {b c : Bool} → y ≡ x → z ≡ sender → b ≡ c → Met w w₁ y z form b → Met w w₁ x sender form c
met_by {w} {w₁} {x} {sender = sender} {z} {form} {b} to from is met =
    subst (λ (d : Bool). Met w w₁ x sender form d) is (subst (λ (q : Station). Met w w₁ x q form b) from (subst (λ (q : Station). Met w w₁ q z form b) to met))

-- ---- what is refused is counted

-- a refused step leaves the section but for its count, and the ring's start
spared_plan : (s : Section) (x : Station) (time : ℕ) (act : Act) (p : Plan) {why : Refusal} → (done_by s (Says (At x time act)) x p).answer ≡ Err why
    → ((done_by s (Says (At x time act)) x p).section ≡ count_refusal (Some x) s) × ((start : ℕ) → start_by x p start ≡ start)
spared_plan s x time act (Refuse why) is = (refl, λ start. refl)
spared_plan s x time act (Depart p) is = absurd (true≢false (ap is_ok is))
spared_plan s x time act (Arrive d) is = absurd (true≢false (ap is_ok is))

spared_by : (s t : Section) (event : Event) (v : Verdict) {why : Refusal} → (settled s (Says event) v t).answer ≡ Err why
    → ((settled s (Says event) v t).section ≡ count_refusal (whose_is (Says event)) s) × ((start : ℕ) → start_if_anew v start ≡ start)
spared_by s t event (Err why) is = (refl, λ start. refl)
spared_by s t event (Ok _) is = absurd (true≢false (ap is_ok is))

spared : (s : Section) (event : Event) {why : Refusal} → (entered s event).answer ≡ Err why
    → ((entered s event).section ≡ count_refusal (whose_is (Says event)) s) × ((start : ℕ) → start_after s event start ≡ start)
unfolding entered
spared s Begin is = spared_by s (emptied true s.refused) Begin (first_of (begin_tests s.force)) is
spared s (At x time act) is = spared_plan s x time act (plan_of act x s.force (desk_of s x) time (nearest_at x (vehicles_of s))) is
spared s (Meet x sender form) is =
    let i = find_of sender form (vehicles_of s) in
    let v = first_of (meet_tests s.force (vehicles_of s) i) in
    ((spared_by s (with_vehicles s (met_at x i (vehicles_of s))) (Meet x sender form) v is).0, λ start. refl)
spared s Resume is = spared_by s (emptied false s.refused) Resume (first_of (resume_tests s.force s.len)) is

module _ {w w₁ : List ℕ} {event : Event} {tried : Answer} (tries : Tries w event tried w₁) where
  pub counted : {w₂ : List ℕ} {given : Answer} {whose : Option Station} {why : Refusal} → tried ≡ Err why → whose ≡ whose_is (Says event)
      → Refuses w₁ whose why given w₂ → Enters w event given w₂
  counted {w₂} {given} {whose} {why} is whose_is refuses =
      let s = section_in w in
      let t = entered s event in
      let kept : Becomes w w₁ s (start_in w) = subst (λ (g : Answer). Puts g w t.section (start_after s event (start_in w)) w₁) (sym tries.answer ∙ is) tries.words in
      let spares = spared s event (sym tries.answer ∙ is) in
      let more : Becomes w₁ w₂ (count_refusal whose s) (start_in w) = becomes_as refuses.words (ap (count_refusal whose) kept.section) kept.start in
      record {
        answer = refuses.answer ∙ sym is ∙ tries.answer;
        words = becomes_as (becomes_then kept more (λ less. less)) (ap (λ (z : Option Station). count_refusal z s) whose_is ∙ sym spares.0) (sym (spares.1 (start_in w)));
      }

  pub not_counted : {order : Accepted} → tried ≡ Ok order → Enters w event tried w₁
  not_counted is =
      let s = section_in w in
      record { answer = tries.answer; words = subst (λ (g : Answer). Puts g w (entered s event).section (start_after s event (start_in w)) w₁) (sym tries.answer ∙ is) tries.words }

-- by what an entry came to: what was accepted, what was counted with it, and what is still to be counted
pub not_refused : {w w₁ : List ℕ} (event : Event) {tried : Answer} {order : Accepted} → Comes w event tried w₁ → tried ≡ Ok order → Enters w event tried w₁
not_refused Begin comes is = comes
not_refused (At x time act) comes is = not_counted comes is
not_refused (Meet x sender form) comes is = not_counted comes is
not_refused Resume comes is = comes

pub has_counted : {w w₁ : List ℕ} (event : Event) {tried given : Answer} → Comes w event tried w₁ → is_declared event ≡ true → tried ≡ given → Enters w event given w₁
has_counted {w} {w₁} Begin comes is same = subst (λ (g : Answer). Enters w Begin g w₁) same comes
has_counted (At x time act) comes is same = absurd (true≢false (sym is))
has_counted (Meet x sender form) comes is same = absurd (true≢false (sym is))
has_counted {w} {w₁} Resume comes is same = subst (λ (g : Answer). Enters w Resume g w₁) same comes

pub to_count : {w w₁ : List ℕ} (event : Event) {tried : Answer} → Comes w event tried w₁ → is_declared event ≡ false → Tries w event tried w₁
to_count Begin comes is = absurd (true≢false is)
to_count (At x time act) comes is = comes
to_count (Meet x sender form) comes is = comes
to_count Resume comes is = absurd (true≢false is)
