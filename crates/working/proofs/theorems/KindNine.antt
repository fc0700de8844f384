-- Document 01's own step and kind 9, which it refuses with 2: no step that it accepts is handed an entry of kind 9 (`kind_nine_refused`), so that a list of which it
-- refuses none has no such entry (`none_endorsed`), and no vehicle present after it left on one (`none_last`).
-- An entry says that a TRAIN is endorsed only where its kind is 9; and a vehicle's departure, which is in the list, has the kind that its record says (demand 3).
-- Assumes nothing.
use Prim.Native.Nat.{ℕ, ◌+◌, ◌<◌}
use Rattle.std.specs.Prelude.{Err, None, Ok, Option, Some}
use Rattle.working.proofs.laws.Every.{Every}
use Rattle.working.proofs.laws.Found.{Found, cut, found, the_end, whole}
use Rattle.working.proofs.laws.Tests.{both, clash}
use Rattle.working.proofs.theorems.Demand3.{demand3}
use Rattle.working.specs.Acts as acts
use Rattle.working.specs.Acts.{Act}
use Rattle.working.specs.Answers.{Answer}
use Rattle.working.specs.Document01.{decode01, is_kind_nine, on_decoded_by, plan_of_01, step_of_01}
use Rattle.working.specs.Entries.{entry_in, judge, length_of, map_in, read_as, read_at}
use Rattle.working.specs.Events.{At, Bad, Begin, Decoded, Event, Meet, Resume, Says, decode, decoded_as, event_of, station_of, view_of}
use Rattle.working.specs.Refusals.{Verdict}
use Rattle.working.specs.Runs.{Done, Run, accepts_by}
use Rattle.working.specs.Sections.{fresh, number_at}
use Rattle.working.specs.Steps.{if_made}
use Rattle.working.specs.Terms.{Departure, Kind, LAST-TRAIN, OPEN, RETURN, THROUGH, TRAIN, departure_by, departure_of, departure_with, if_of, kind_in, kind_of, later_or, vehicle_at}
use Rattle.working.specs.Turns.{is_accepted}
use Rattle.working.specs.WellMade.{well_made}
use Rattle.working.specs.declared.Entry.{Entry}
use Rattle.working.specs.declared.Refusal.TheVariants.{UnknownKind}
use Rattle.working.specs.declared.Section.{Section}
use Rattle.working.specs.declared.Table.TheVariants.{SingleLine}
use Rattle.working.specs.declared.Vehicle.{Vehicle}
use borrow.Author.Tests.{le-ltb}
use lib.Dec.{eqb}
use mathlib.Core.Bool.{Bool, cond, false, false≢true, true, ◌&&◌}
use mathlib.Core.List.{List, [], ◌∷◌}
use mathlib.Core.Path.{ap, refl, sym, ◌∙◌, ◌≡◌}

-- ---- an entry of kind 9

abbrev is_endorsed : Act → Bool
is_endorsed (acts.Open view class asked) = false
is_endorsed (acts.Through view) = false
is_endorsed (acts.Return asked granted) = false
is_endorsed (acts.Train endorsed view asked granted) = endorsed
is_endorsed (acts.Receive sender form) = false

-- the bytes say that a TRAIN is endorsed as the last
abbrev pub says_last : Decoded → Bool
says_last (Bad why) = false
says_last (Says Begin) = false
says_last (Says (At x time act)) = is_endorsed act
says_last (Says (Meet x sender form)) = false
says_last (Says Resume) = false

nine : (e : Entry) → says_last (Says (event_of e)) ≡ true → eqb e.kind 9 ≡ true
nine e =
    by (eqb e.kind 1) (eqb e.kind 2) (eqb e.kind 3) (eqb e.kind 4) (eqb e.kind 5) (eqb e.kind 6) (eqb e.kind 7) (eqb e.kind 9)
  where
    at : Act → Event
    at act = At (station_of e.station) e.time act

    by : (k1 k2 k3 k4 k5 k6 k7 k9 : Bool)
        → says_last (Says
        (cond k1 Begin
        (cond k2 (at (acts.Open (view_of e.view) e.class e.asked))
        (cond k3 (at (acts.Through (view_of e.view)))
        (cond k4 (at (acts.Return e.asked e.granted))
        (cond k5 (at (acts.Train false (view_of e.view) e.asked e.granted))
        (cond k6 (at (acts.Receive (station_of e.sender) e.number))
        (cond k7 (Meet (station_of e.station) (station_of e.sender) e.number)
        (cond k9 (at (acts.Train true (view_of e.view) e.asked e.granted)) Resume)))))))))
        ≡ true → k9 ≡ true
    by true k2 k3 k4 k5 k6 k7 k9 h = absurd (false≢true h)
    by false true k3 k4 k5 k6 k7 k9 h = absurd (false≢true h)
    by false false true k4 k5 k6 k7 k9 h = absurd (false≢true h)
    by false false false true k5 k6 k7 k9 h = absurd (false≢true h)
    by false false false false true k6 k7 k9 h = absurd (false≢true h)
    by false false false false false true k7 k9 h = absurd (false≢true h)
    by false false false false false false true k9 h = absurd (false≢true h)
    by false false false false false false false true h = refl
    by false false false false false false false false h = absurd (false≢true h)

said_nine : (bytes : List ℕ) → says_last (decode bytes) ≡ true → is_kind_nine bytes ≡ true
unfolding decode
said_nine bytes = by_found (found SingleLine bytes 0)
  where
    by_verdict : (v : Verdict) → says_last (decoded_as (read_as v (entry_in bytes) (0 + length_of (map_in bytes)))) ≡ true → eqb (entry_in bytes).kind 9 ≡ true
    by_verdict (Err why) h = absurd (false≢true h)
    by_verdict (Ok _) h = nine (entry_in bytes) h

    by_found : Found SingleLine bytes 0 → says_last (decoded_as (read_at SingleLine bytes 0)) ≡ true → is_kind_nine bytes ≡ true
    by_found (the_end r) h = absurd (false≢true (rw r at h))
    by_found (cut r) h = absurd (false≢true (rw r at h))
    by_found (whole fits r) h = rw (le-ltb _ _ fits, by_verdict (judge SingleLine (entry_in bytes)) (rw r at h))

-- ---- what document 01's step makes of it

-- bytes that document 01's step accepts are no entry of kind 9
pub no_kind_nine : (s : Section) (bytes : List ℕ) → is_accepted (step_of_01 s bytes).answer ≡ true → is_kind_nine bytes ≡ false
unfolding decode01 step_of_01
no_kind_nine s bytes = by (well_made s) (is_kind_nine bytes)
  where
    by : (made ninth : Bool) → is_accepted (if_made made s (on_decoded_by plan_of_01 s (cond ninth (Bad UnknownKind) (decode bytes)))).answer ≡ true → ninth ≡ false
    by true true accepted = absurd (false≢true accepted)
    by false true accepted = absurd (false≢true accepted)
    by made false accepted = refl

pub kind_nine_refused : (s : Section) (bytes : List ℕ) → says_last (decode bytes) ≡ true → is_accepted (step_of_01 s bytes).answer ≡ false
kind_nine_refused s bytes says = by (is_accepted (step_of_01 s bytes).answer) refl
  where
    by : (b : Bool) → is_accepted (step_of_01 s bytes).answer ≡ b → b ≡ false
    by true accepted = absurd (clash (said_nine bytes says) (no_kind_nine s bytes accepted))
    by false refused = refl

-- ---- a list that it accepts throughout

abbrev pub NotLast : Done → Type 0
NotLast d = says_last (decode d.bytes) ≡ false

pub none_endorsed : (s : Section) (l : List Done) → accepts_by step_of_01 s l ≡ true → Every NotLast l
none_endorsed s [] accepted = tt
none_endorsed s (d ∷ l) accepted =
    let (first, others) = both (is_accepted (step_of_01 s d.bytes).answer) (accepts_by step_of_01 (step_of_01 s d.bytes).section l) accepted in
    (by (says_last (decode d.bytes)) refl first, none_endorsed (step_of_01 s d.bytes).section l others)
  where
    by : (b : Bool) → says_last (decode d.bytes) ≡ b → is_accepted (step_of_01 s d.bytes).answer ≡ true → b ≡ false
    by true says accepted = absurd (clash accepted (kind_nine_refused s d.bytes says))
    by false says accepted = refl

-- ---- and the vehicles after it

abbrev is_last : Kind → Bool
is_last OPEN = false
is_last THROUGH = false
is_last RETURN = false
is_last TRAIN = false
is_last LAST-TRAIN = true

abbrev left_last : Option Departure → Bool
left_last None = false
left_last (Some p) = is_last p.kind

left_by_lem : (e : Decoded) (a : Answer) → says_last e ≡ false → left_last (departure_by e a) ≡ false
left_by_lem (Bad why) a h = refl
left_by_lem (Says Begin) a h = refl
left_by_lem (Says (At x time act)) a h = by act a h
  where
    by : (act : Act) (a : Answer) → is_endorsed act ≡ false → left_last (departure_with x (kind_of act) a) ≡ false
    by (acts.Open view class asked) (Err why) h = refl
    by (acts.Open view class asked) (Ok _) h = refl
    by (acts.Through view) (Err why) h = refl
    by (acts.Through view) (Ok _) h = refl
    by (acts.Return asked granted) (Err why) h = refl
    by (acts.Return asked granted) (Ok _) h = refl
    by (acts.Train endorsed view asked granted) (Err why) h = refl
    by (acts.Train endorsed view asked granted) (Ok _) h = rw h
    by (acts.Receive sender form) a h = refl
left_by_lem (Says (Meet x sender form)) a h = refl
left_by_lem (Says Resume) a h = refl

if_of_lem : (v : Vehicle) (q : Option Departure) → left_last q ≡ false → left_last (if_of v q) ≡ false
if_of_lem v None h = refl
if_of_lem v (Some p) h = by (eqb (number_at p.station) v.sender && eqb p.number v.form)
  where
    by : (b : Bool) → left_last (cond b (Some p) None) ≡ false
    by true = h
    by false = refl

later_or_lem : (q r : Option Departure) → left_last q ≡ false → left_last r ≡ false → left_last (later_or q r) ≡ false
later_or_lem None r h k = k
later_or_lem (Some p) r h k = h

left_none : (l : List Done) (v : Vehicle) → Every NotLast l → left_last (departure_of l v) ≡ false
left_none [] v h = refl
left_none (d ∷ l) v h =
    let its = departure_by (decode d.bytes) d.answer in
    later_or_lem (departure_of l v) (if_of v its) (left_none l v h.1) (if_of_lem v its (left_by_lem (decode d.bytes) d.answer h.0))

pub none_last : {l : List Done} {s : Section} → Run fresh l s → accepts_by step_of_01 fresh l ≡ true
    → (i : ℕ) → i < s.len → kind_in (vehicle_at s i).movement ≡ LAST-TRAIN → ⊥
none_last {l = l} {s = s} run accepted i there last =
    let (p, its, kind) = (demand3 run).departed i there in
    let told : left_last (Some p) ≡ true = ap is_last (kind ∙ last) in
    clash told (sym (ap left_last its) ∙ left_none l (vehicle_at s i) (none_endorsed fresh l accepted))
