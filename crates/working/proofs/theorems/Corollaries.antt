-- Of every list of steps from a fresh section: no step is refused with 5, since every section on the way is well made and no other test gives 5;
-- where a train of the other station is the nearest, the station owes a line clear, so that "not below 0" never acts;
-- where that train is endorsed as the last, it and what it gives up are all that the station owes, so that "becomes 0" takes off nothing else;
-- and a station that holds line clears and owes some is asked for none, so that a TRAIN's grant while it owes is above what is asked: that half of 16 never decides alone.
-- Assumes nothing.
use Prim.Native.Nat.{ℕ, ◌+◌, ◌<◌}
use Rattle.std.specs.Prelude.{Err, Ok}
use Rattle.working.proofs.invariant.Changes.{step_is, well_at}
use Rattle.working.proofs.invariant.Invariant.{Halves, all-owed, is_last, owed_for, owed_over, train_one, weigh_snoc}
use Rattle.working.proofs.invariant.Preserved.{kept_at}
use Rattle.working.proofs.invariant.Sides.{moves_far, moves_none, moves_of, moves_skip}
use Rattle.working.proofs.laws.Found.{Found, cut, found, the_end, whole}
use Rattle.working.proofs.laws.Lists.{split_run, step_did}
use Rattle.working.proofs.laws.Tests.{IsNot, first_is_not, is_not, none_is}
use Rattle.working.proofs.laws.Vehicles.{From, nearest, not_own, ordered_far}
use Rattle.working.proofs.theorems.Demand3.{kept}
use Rattle.working.specs.Acts as acts
use Rattle.working.specs.Acts.{Act}
use Rattle.working.specs.Answers.{Answer}
use Rattle.working.specs.Effects.{Plan}
use Rattle.working.specs.Entries.{entry_in, entry_tests, judge, length_of, map_in, read_as, read_at}
use Rattle.working.specs.Events.{At, Bad, Begin, Decoded, Event, Meet, Resume, Said, Says, decode, event_of, said_as}
use Rattle.working.specs.Reasons.{begin_tests, find_of, meet_tests, resume_tests, tests_of}
use Rattle.working.specs.Refusals.{Test, Verdict, first_of}
use Rattle.working.specs.Runs.{Done, Run, StepBy, next}
use Rattle.working.specs.Sections.{desk_of, fresh, nearest_at, number_at, other_at, vehicles_of}
use Rattle.working.specs.Steps.{done_by, entered, on_decoded, plan_of, settled, unless_refused}
use Rattle.working.specs.Terms.{given_up_in, is_train, kind_in}
use Rattle.working.specs.WellMade.{is_from}
use Rattle.working.specs.declared.Desk.{Desk}
use Rattle.working.specs.declared.Entry.{Entry}
use Rattle.working.specs.declared.Movement.TheVariants.{LastTrain, Open, Return, Through, Train}
use Rattle.working.specs.declared.Movement.{Movement}
use Rattle.working.specs.declared.Section.{Section}
use Rattle.working.specs.declared.Station.{Station}
use Rattle.working.specs.declared.Table.TheVariants.{SingleLine}
use Rattle.working.specs.declared.Table.{Table}
use Rattle.working.specs.declared.Vehicle.{Vehicle}
use lib.ListN.{length}
use mathlib.Core.Bool.{Bool, false≢true, true}
use mathlib.Core.List.{List, [], ◌++◌, ◌∷◌}
use mathlib.Core.Path.{ap, refl, ◌∙◌, ◌≡◌}
use native.Mathlib.Omega.{arith}

-- ---- no step is refused with 5

-- an answer that is no 5
abbrev pub Fine : Answer → Type 0
Fine (Err why) = is_not 5 why ≡ true
Fine (Ok _) = Unit {0}

module _ (s : Section) where
  fine_settled : (e : Decoded) (ts : List Test) (t : Section) → none_is 5 ts ≡ true → Fine (settled s e (first_of ts) t).answer
  fine_settled e ts t h = by (first_of ts) (first_is_not 5 ts h)
    where
      by : (v : Verdict) → IsNot 5 v → Fine (settled s e v t).answer
      by (Err why) h = h
      by (Ok _) h = tt

  fine_done : (e : Decoded) (x : Station) (ts : List Test) (p : Plan) → none_is 5 ts ≡ true → Fine (done_by s e x p).answer
      → Fine (done_by s e x (unless_refused (first_of ts) p)).answer
  fine_done e x ts p h ok = by (first_of ts) (first_is_not 5 ts h)
    where
      by : (v : Verdict) → IsNot 5 v → Fine (done_by s e x (unless_refused v p)).answer
      by (Err why) h = h
      by (Ok _) h = ok

  fine_act : (e : Decoded) (x : Station) (act : Act) (force : Bool) (d : Desk) (time : ℕ) (v : Vehicle) → Fine (done_by s e x (plan_of act x force d time v)).answer
  fine_act e x (acts.Open view class asked) force d time v = fine_done e x (tests_of (acts.Open view class asked) x force d time v) _ refl tt
  fine_act e x (acts.Through view) force d time v = fine_done e x (tests_of (acts.Through view) x force d time v) _ refl tt
  fine_act e x (acts.Return asked granted) force d time v = fine_done e x (tests_of (acts.Return asked granted) x force d time v) _ refl tt
  fine_act e x (acts.Train endorsed view asked granted) force d time v = fine_done e x (tests_of (acts.Train endorsed view asked granted) x force d time v) _ refl tt
  fine_act e x (acts.Receive sender form) force d time v = fine_done e x (tests_of (acts.Receive sender form) x force d time v) _ refl tt

  fine_entered : (e : Event) → Fine (entered s e).answer
  unfolding entered
  fine_entered Begin = fine_settled (Says Begin) (begin_tests s.force) _ refl
  fine_entered (At x time act) = fine_act (Says (At x time act)) x act s.force (desk_of s x) time (nearest_at x (vehicles_of s))
  fine_entered (Meet x sender form) = fine_settled (Says (Meet x sender form)) (meet_tests s.force (vehicles_of s) (find_of sender form (vehicles_of s))) _ refl
  fine_entered Resume = fine_settled (Says Resume) (resume_tests s.force s.len) _ refl

-- what bytes come to is no 5 either, by either table
abbrev pub FineSaid : {E : Type 0} → Said E → Type 0
FineSaid (Bad why) = is_not 5 why ≡ true
FineSaid (Says e) = Unit {0}

pub fine_said : (table : Table) {E : Type 0} (event : Entry → E) (bytes : List ℕ) → FineSaid (said_as event (read_at table bytes 0))
unfolding judge
fine_said table event bytes = by_found (found table bytes 0)
  where
    by_verdict : (v : Verdict) → IsNot 5 v → FineSaid (said_as event (read_as v (entry_in bytes) (0 + length_of (map_in bytes))))
    by_verdict (Err why) h = h
    by_verdict (Ok _) h = tt

    by_found : Found table bytes 0 → FineSaid (said_as event (read_at table bytes 0))
    by_found (the_end r) = rw r refl
    by_found (cut r) = rw r refl
    by_found (whole fits r) = rw r (by_verdict (judge table (entry_in bytes)) (first_is_not 5 (entry_tests table (entry_in bytes)) refl))

fine_decoded : (s : Section) (e : Decoded) → FineSaid e → Fine (on_decoded s e).answer
fine_decoded s (Bad why) h = h
fine_decoded s (Says e) h = fine_entered s e

pub never_five : {l : List Done} {s : Section} → Run fresh l s → (before : List Done) (d : Done) (after : List Done)
    → l ≡ before ++ d ∷ after → Fine d.answer
unfolding decode
never_five {s = s} run before d after is = let (t, first, later) = split_run StepBy before (rw is at run) in by t first later
  where
    by : (t : Section) → Run fresh before t → Run t (d ∷ after) s → Fine d.answer
    by t r (next {t = u} h more) =
        let did = step_did d t u h in
        rw (did.answered, step_is t d.bytes (kept r).good.sound.well) (fine_decoded t (decode d.bytes) (fine_said SingleLine event_of d.bytes))

-- ---- a train that comes is owed

pub train_owed : {l : List Done} {s : Section} → Run fresh l s → (x : Station) → 0 < length (vehicles_of s)
    → is_from (number_at (other_at x)) (nearest_at x (vehicles_of s)) ≡ true → is_train (kind_in (nearest_at x (vehicles_of s)).movement) ≡ true
    → 0 < (desk_of s x).clears.owes
train_owed {s = s} run x there from train =
    let k = nearest x (vehicles_of s) there in
    let v = k.vehicle in
    let far = other_at x in
    let one : train_one v.movement ≡ 1 = rw (rw k.near at train) in
    let theirs = ap (moves_of far) k.whole ∙ moves_far x v k.others (rw k.near at from) in
    omega (arith, (kept_at x s (kept run).good).own.sum, ap owed_over theirs, weigh_snoc owed_for (moves_of far k.others) v.movement)

-- ---- of a TRAIN endorsed as the last that comes, all that is owed is that train and what it gives up

one_train : (m : Movement) → is_last m ≡ true → train_one m ≡ 1
one_train (Open a) last = absurd (false≢true last)
one_train Through last = absurd (false≢true last)
one_train (Return a g) last = absurd (false≢true last)
one_train (Train a g) last = absurd (false≢true last)
one_train (LastTrain a g u) last = refl

pub last_train_owed : {l : List Done} {s : Section} → Run fresh l s → (x : Station) → 0 < length (vehicles_of s)
    → is_from (number_at (other_at x)) (nearest_at x (vehicles_of s)) ≡ true → is_last (nearest_at x (vehicles_of s)).movement ≡ true
    → (desk_of s x).clears.owes ≡ 1 + given_up_in (nearest_at x (vehicles_of s)).movement
last_train_owed {s = s} run x there from last =
    let k = nearest x (vehicles_of s) there in
    let v = k.vehicle in
    let good = (kept run).good in
    let its : From (other_at x) v = rw k.near at from in
    let skip = moves_skip x v k.others (not_own x v its) in
    let none = moves_none x k.others (ordered_far x v k.others (not_own x v its) (rw k.whole at (well_at s x good.sound).order)).1 in
    let both : Halves (desk_of s x) (desk_of s (other_at x)) [] (moves_of (other_at x) k.others ++ v.movement ∷ []) =
    rw (k.whole, skip, none, moves_far x v k.others its) at (kept_at x s good) in
    let is : is_last v.movement ≡ true = rw k.near at last in
    rw k.near (omega (arith, all-owed (desk_of s x) (desk_of s (other_at x)) v.movement (moves_of (other_at x) k.others) both is, one_train v.movement is))

-- ---- a TRAIN's grant while its station owes

pub owing_above_asked : {l : List Done} {s : Section} → Run fresh l s → (x : Station) (granted : ℕ) → 0 < (desk_of s x).clears.holds → 0 < (desk_of s x).clears.owes
    → 0 < granted → (desk_of s x).clears.asked < granted
owing_above_asked {s = s} run x granted holds owes some = omega (arith, ((kept_at x s (kept run).good).own.holding holds).asked owes)
