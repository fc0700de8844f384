-- Document 02, T-05: "In every list from fresh a station's accepted receipts since the last accepted BEGIN name the other's first departures since, in order, and its line
-- holds the rest; this stands there in place of demand 3." Departures and receipts go by the bytes of the list and its answers, not by the section.
use Rattle.double.specs.Runs.{Run, results, results_of}
use Rattle.double.specs.Sections.{fresh, line_of, side_of}
use Rattle.double.specs.Steps.{Begin, Decoded, Depart, Event, Receive, Resume, decode, same_station}
use Rattle.double.specs.declared.Section.{Section}
use Rattle.std.specs.Prelude.{Err, List, Ok, [], cond, ℕ, ◌++◌, ◌∷◌, ◌≡◌}
use Rattle.working.specs.Answers.{Answer}
use Rattle.working.specs.Events.{Bad, Says}
use Rattle.working.specs.Runs.{Done}
use Rattle.working.specs.Sections.{other_at}
use Rattle.working.specs.declared.Station.{Station}

-- what an accepted entry makes of the form numbers l of x's departures since BEGIN, its answer's form being n
abbrev pub departing : Station → ℕ → Event → List ℕ → List ℕ
departing x n Begin l = []
departing x n (Depart y time) l = cond (same_station x y) (l ++ n ∷ []) l
departing x n (Receive y time sender form) l = l
departing x n Resume l = l

-- the same of the form numbers that x's receipts since BEGIN name
abbrev pub receiving : Station → Event → List ℕ → List ℕ
receiving x Begin l = []
receiving x (Depart y time) l = l
receiving x (Receive y time sender form) l = cond (same_station x y) (l ++ form ∷ []) l
receiving x Resume l = l

-- a refused entry leaves both
abbrev pub departed_by : Station → Decoded → Answer → List ℕ → List ℕ
departed_by x (Bad why) answer l = l
departed_by x (Says event) (Err why) l = l
departed_by x (Says event) (Ok given) l = departing x given.form event l

abbrev pub received_by : Station → Decoded → Answer → List ℕ → List ℕ
received_by x (Bad why) answer l = l
received_by x (Says event) (Err why) l = l
received_by x (Says event) (Ok _) l = receiving x event l

-- behind the numbers before, those of a list of steps
abbrev pub departures : Station → List ℕ → List Done → List ℕ
departures x before [] = before
departures x before (d ∷ l) = departures x (departed_by x (decode d.bytes) d.answer before) l

abbrev pub receipts : Station → List ℕ → List Done → List ℕ
receipts x before [] = before
receipts x before (d ∷ l) = receipts x (received_by x (decode d.bytes) d.answer before) l

pub record InOrder {l : List Done} {s : Section} (run : Run fresh l s) : Type 0 where
  -- each step, accepted or refused, has the answer and the section that the definitions fix for it
  pub each : results run ≡ results_of fresh l
  -- for each station x: the form numbers of the other's departures are those that x received, in order, and then those on the other's line
  pub order : (x : Station) → departures (other_at x) [] l ≡ receipts x [] l ++ line_of (side_of s (other_at x))
