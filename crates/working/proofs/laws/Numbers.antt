-- The number that a step on a well-made section answers is 0, 1 to 4 or 6 to 22: none of those that leave a history as it was. A refusal is that of the first test that
-- holds, and the lists of tests name no other.
-- Assumes nothing.
use Prim.Native.Nat.{ℕ}
use Rattle.std.specs.Prelude.{Err, Ok}
use Rattle.working.proofs.invariant.Changes.{step_is}
use Rattle.working.proofs.laws.Found.{Found, cut, found, the_end, whole}
use Rattle.working.proofs.laws.Tests.{both}
use Rattle.working.specs.Acts as acts
use Rattle.working.specs.Acts.{Act}
use Rattle.working.specs.Calls.{leaves_all}
use Rattle.working.specs.Effects.{effect_of}
use Rattle.working.specs.Entries.{entry_in, entry_tests, judge, read_as, read_at}
use Rattle.working.specs.Events.{At, Bad, Begin, Decoded, Event, Meet, Resume, Says, decode, decoded_as}
use Rattle.working.specs.Reasons.{begin_tests, find_of, meet_tests, resume_tests, tests_of}
use Rattle.working.specs.Refusals.{Test, Verdict, first_of, number_of, or_else, refusal_in}
use Rattle.working.specs.Sections.{desk_of, nearest_at, vehicles_of}
use Rattle.working.specs.Steps.{done_by, entered, on_decoded, settled, step_of, unless_refused}
use Rattle.working.specs.WellMade.{well_made}
use Rattle.working.specs.declared.Desk.{Desk}
use Rattle.working.specs.declared.Entry.{Entry}
use Rattle.working.specs.declared.Section.{Section}
use Rattle.working.specs.declared.Station.{Station}
use Rattle.working.specs.declared.Table.TheVariants.{SingleLine}
use Rattle.working.specs.declared.Vehicle.{Vehicle}
use borrow.Author.Tests.{not-true}
use lib.ListN.{drop}
use mathlib.Core.Bool.{Bool, false, not, true, ◌&&◌}
use mathlib.Core.List.{List, [], ◌∷◌}
use mathlib.Core.Path.{refl, ◌≡◌}

-- ---- a list of tests

-- every refusal that a list of tests names is counted
abbrev all_counted : List Test → Bool
all_counted [] = true
all_counted (t ∷ tests) = not (leaves_all (number_of t.1)) && all_counted tests

scan_counted : (tests : List Test) → all_counted tests ≡ true → leaves_all (refusal_in (first_of tests)) ≡ false
scan_counted [] h = refl
scan_counted (t ∷ tests) h =
    let (first, later) = both (not (leaves_all (number_of t.1))) (all_counted tests) h in
    by t.0 (not-true (leaves_all (number_of t.1)) first) (scan_counted tests later)
  where
    by : (holds : Bool) → leaves_all (number_of t.1) ≡ false → leaves_all (refusal_in (first_of tests)) ≡ false
        → leaves_all (refusal_in (or_else holds t.1 (first_of tests))) ≡ false
    by true first later = first
    by false first later = later

-- ---- bytes

abbrev number_said : Decoded → ℕ
number_said (Bad why) = number_of why
number_said (Says event) = 0

said_counted : (bytes : List ℕ) → leaves_all (number_said (decode bytes)) ≡ false
unfolding decode judge
said_counted bytes = by (found SingleLine bytes 0)
  where
    read : (v : Verdict) (e : Entry) (next : ℕ) → number_said (decoded_as (read_as v e next)) ≡ refusal_in v
    read (Ok _) e next = refl
    read (Err why) e next = refl

    by : Found SingleLine bytes 0 → leaves_all (number_said (decoded_as (read_at SingleLine bytes 0))) ≡ false
    by (the_end r) = rw r
    by (cut r) = rw r
    by (whole fits r) = let e = entry_in (drop 0 bytes) in rw (r, read (judge SingleLine e) e) (scan_counted (entry_tests SingleLine e) refl)

-- ---- what an entry says

tests_counted : (act : Act) (x : Station) (force : Bool) (d : Desk) (time : ℕ) (v : Vehicle) → all_counted (tests_of act x force d time v) ≡ true
tests_counted (acts.Open view class asked) x force d time v = refl
tests_counted (acts.Through view) x force d time v = refl
tests_counted (acts.Return asked granted) x force d time v = refl
tests_counted (acts.Train endorsed view asked granted) x force d time v = refl
tests_counted (acts.Receive sender form) x force d time v = refl

settled-number : (s : Section) (e : Decoded) (v : Verdict) (t : Section) → refusal_in (settled s e v t).answer ≡ refusal_in v
settled-number s e (Err why) t = refl
settled-number s e (Ok _) t = refl

done_number : (s : Section) (e : Decoded) (r : Verdict) (act : Act) (x : Station) (d : Desk) (time : ℕ) (v : Vehicle)
    → refusal_in (done_by s e x (unless_refused r (effect_of act x d time v))).answer ≡ refusal_in r
done_number s e (Err why) act x d time v = refl
done_number s e (Ok _) (acts.Open view class asked) x d time v = refl
done_number s e (Ok _) (acts.Through view) x d time v = refl
done_number s e (Ok _) (acts.Return asked granted) x d time v = refl
done_number s e (Ok _) (acts.Train endorsed view asked granted) x d time v = refl
done_number s e (Ok _) (acts.Receive sender form) x d time v = refl

entered-counted : (s : Section) (e : Event) → leaves_all (refusal_in (entered s e).answer) ≡ false
unfolding entered
entered-counted s Begin = rw settled-number (scan_counted (begin_tests s.force) refl)
entered-counted s (At x time act) =
    let v = nearest_at x (vehicles_of s) in
    let tests = tests_of act x s.force (desk_of s x) time v in
    rw (done_number s (Says (At x time act)) (first_of tests) act x (desk_of s x) time v) (scan_counted tests (tests_counted act x s.force (desk_of s x) time v))
entered-counted s (Meet x y n) = rw settled-number (scan_counted (meet_tests s.force (vehicles_of s) (find_of y n (vehicles_of s))) refl)
entered-counted s Resume = rw settled-number (scan_counted (resume_tests s.force s.len) refl)

-- ---- the step

pub step_counted : (s : Section) (bytes : List ℕ) → well_made s ≡ true → leaves_all (refusal_in (step_of s bytes).answer) ≡ false
step_counted s bytes h = rw (step_is s bytes h) (by (decode bytes) (said_counted bytes))
  where
    by : (e : Decoded) → leaves_all (number_said e) ≡ false → leaves_all (refusal_in (on_decoded s e).answer) ≡ false
    by (Bad why) said = said
    by (Says e) said = entered-counted s e
