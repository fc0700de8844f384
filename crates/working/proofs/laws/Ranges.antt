-- What the ranges of an entry that a single line's table takes say of its act: the class and what is asked and granted lie where document 01 has them; and how its kind and
-- its station tell whose it is, the station of an entry that either table takes.
-- The kind fixes which bits stand, and a field that is there lies in its range, while one that is absent is 0.
-- Assumes nothing.
use Prim.Native.Nat.{ℕ, ◌+◌, ◌≤◌}
use Rattle.std.specs.Prelude.{None, Ok, Option, Some}
use Rattle.working.proofs.laws.Clauses.{Carried, Few}
use Rattle.working.proofs.laws.Found.{read_by}
use Rattle.working.proofs.laws.Judged.{taken}
use Rattle.working.proofs.laws.Tests.{both}
use Rattle.working.specs.Acts as acts
use Rattle.working.specs.Acts.{Act}
use Rattle.working.specs.Entries.{Row, bit_fits, in_range, is_in, judge, map_fits, read_at, row_fits, row_of, stands}
use Rattle.working.specs.Events.{At, Bad, Begin, Decoded, Event, Meet, Resume, Says, decode, decoded_as, event_of, station_of}
use Rattle.working.specs.Sections.{number_at}
use Rattle.working.specs.Steps.{whose_is}
use Rattle.working.specs.Turns.{kind_read, station_read}
use Rattle.working.specs.declared.Entry.{Entry}
use Rattle.working.specs.declared.Refusal.{Refusal}
use Rattle.working.specs.declared.Station.TheVariants.{A, B}
use Rattle.working.specs.declared.Station.{Station}
use Rattle.working.specs.declared.Table.TheVariants.{SingleLine}
use Rattle.working.specs.declared.Table.{Table}
use borrow.Author.Tests.{eqb-false, eqb-true, leb-true, not-true}
use lib.Dec.{eqb, leb}
use mathlib.Core.Bool.{Bool, cond, false, false≢true, not, true, ◌&&◌, ◌||◌}
use mathlib.Core.List.{List, [], ◌∷◌}
use mathlib.Core.Path.{refl, subst, ◌≡◌}
use native.Mathlib.Omega.{arith}

-- ---- the act by name

abbrev pub ActMade : Act → Type 0
ActMade (acts.Open view class asked) = Carried 1 5 1 class asked 0
ActMade (acts.Through view) = Unit {0}
ActMade (acts.Return asked granted) = Few asked granted
ActMade (acts.Train endorsed view asked granted) = Few asked granted
ActMade (acts.Receive sender form) = Unit {0}

abbrev pub Ranged : Event → Type 0
Ranged Begin = Unit {0}
Ranged (At x time act) = ActMade act
Ranged (Meet x sender form) = Unit {0}
Ranged Resume = Unit {0}

-- ---- the kind and the station that a listing prints, and whose the entry is

-- it shows no station, or is a MEET, and is of no station; or it is that of the station shown
pub data Placed (kind station : ℕ) : Option Station → Type 0 where
  nowhere : station ≡ 0 → Placed kind station None
  met : kind ≡ 7 → Placed kind station None
  own : (x : Station) → station ≡ number_at x → (kind ≡ 7 → ⊥) → Placed kind station (Some x)

-- ---- a field

-- one that is there lies between the ends of its range, and one that may be absent is at most the larger
between : (there : Bool) (least most n : ℕ) → there ≡ true → in_range there least most n ≡ true → (least ≤ n) × (n ≤ most)
between true least most n is h = let p = both (leb least n) (leb n most) h in omega (arith, leb-true)
between false least most n is h = absurd (false≢true is)

at_most : (there : Bool) (least most n : ℕ) → in_range there least most n ≡ true → n ≤ most
at_most true least most n h = (between true least most n refl h).1
at_most false least most n h = omega (arith, eqb-true n 0 h)

-- a bit of a row's map
bit_fits_lem : (row : Row) (map : ℕ) (is : List ℕ) (i : ℕ) → row_fits row map is ≡ true → is_in i is ≡ true → bit_fits row map i ≡ true
bit_fits_lem row map [] i h there = absurd (false≢true there)
bit_fits_lem row map (j ∷ is) i h there = let p = both (bit_fits row map j) (row_fits row map is) h in by (eqb i j) refl p.0 (bit_fits_lem row map is i p.1) there
  where
    by : (b : Bool) → eqb i j ≡ b → bit_fits row map j ≡ true → (is_in i is ≡ true → bit_fits row map i ≡ true) → (b || is_in i is) ≡ true
        → bit_fits row map i ≡ true
    by true is-j here later there = rw (eqb-true i j is-j) here
    by false is-j here later there = later there

either : (P : Event → Type 0) (b : Bool) {x y : Event} → (b ≡ true → P x) → (b ≡ false → P y) → P (cond b x y)
either P true holds fails = holds refl
either P false holds fails = fails refl

-- a refusal is no event
abbrev is_bad : Decoded → Type 0
is_bad (Bad why) = Unit {0}
is_bad (Says event) = ⊥

bad_says : {why : Refusal} {event : Event} → Bad why ≡ Says event → ⊥
bad_says e = subst is_bad e tt

-- ---- the station of an entry that either table takes

module _ (table : Table) (e : Entry) (allowed : judge table e ≡ Ok tt) where
  -- bit 1, the station's, stands where the kind has it
  pub station_bit : (kind : ℕ) → e.kind ≡ kind → bit_fits (row_of table kind) e.map 1 ≡ true
  unfolding map_fits
  station_bit kind is = bit_fits_lem (row_of table kind) e.map (0 ∷ 1 ∷ 2 ∷ 3 ∷ 4 ∷ 5 ∷ 6 ∷ 7 ∷ []) 1 (rw is at (taken table e allowed).fits) refl

  pub no_station : not (stands 1 e.map) ≡ true → Placed e.kind e.station None
  no_station absent = nowhere (eqb-true e.station 0 (rw (not-true (stands 1 e.map) absent) at (taken table e allowed).ranges.station))

  pub its_station : (e.kind ≡ 7 → ⊥) → stands 1 e.map ≡ true → Placed e.kind e.station (Some (station_of e.station))
  its_station no-meet there =
      own (station_of e.station) (by (between (stands 1 e.map) 1 2 e.station there (taken table e allowed).ranges.station) (eqb e.station 1) refl) no-meet
    where
      by : (1 ≤ e.station) × (e.station ≤ 2) → (b : Bool) → eqb e.station 1 ≡ b → e.station ≡ number_at (cond b A B)
      by range true is = eqb-true e.station 1 is
      by range false is = omega (arith, eqb-false e.station 1 is)

-- ---- an entry that a single line's table takes

module _ (e : Entry) (allowed : judge SingleLine e ≡ Ok tt) where
  known : (1 ≤ e.kind) × (e.kind ≤ 9)
  known =
      let range = both (leb 1 e.kind) (leb e.kind 9) (both (stands 0 e.map) (leb 1 e.kind && leb e.kind 9) (taken SingleLine e allowed).known).1 in
      (leb-true 1 e.kind range.0, leb-true e.kind 9 range.1)

  few : Few e.asked e.granted
  few =
      let r = (taken SingleLine e allowed).ranges in
      omega (arith, at_most (stands 5 e.map) 1 8 e.asked r.asked, at_most (stands 6 e.map) 1 8 e.granted r.granted)

  -- OPEN has a class and asks: bits 4 and 5 of its map stand
  opens : e.kind ≡ 2 → Carried 1 5 1 e.class e.asked 0
  unfolding map_fits
  opens is =
      let r = (taken SingleLine e allowed).ranges in
      let fits : map_fits SingleLine 2 e.map ≡ true = rw is at (taken SingleLine e allowed).fits in
      let bit = bit_fits_lem (row_of SingleLine 2) e.map (0 ∷ 1 ∷ 2 ∷ 3 ∷ 4 ∷ 5 ∷ 6 ∷ 7 ∷ []) in
      let class = between (stands 4 e.map) 1 5 e.class (bit 4 fits refl) (rw is at r.class) in
      let asked = between (stands 5 e.map) 1 8 e.asked (bit 5 fits refl) r.asked in
      omega arith

  pub ranged : Ranged (event_of e)
  ranged =
      either Ranged (eqb e.kind 1) (λ k. tt)
      (λ k. either Ranged (eqb e.kind 2) (λ k. opens (eqb-true e.kind 2 k))
      (λ k. either Ranged (eqb e.kind 3) (λ k. tt)
      (λ k. either Ranged (eqb e.kind 4) (λ k. few)
      (λ k. either Ranged (eqb e.kind 5) (λ k. few)
      (λ k. either Ranged (eqb e.kind 6) (λ k. tt)
      (λ k. either Ranged (eqb e.kind 7) (λ k. tt)
      (λ k. either Ranged (eqb e.kind 9) (λ k. few) (λ k. tt))))))))

  -- ---- whose it is

  -- of this kind, or of a higher one
  from : (P : Event → Type 0) (kind : ℕ) {x y : Event} → kind ≤ e.kind → (e.kind ≡ kind → P x) → (kind + 1 ≤ e.kind → P y) → P (cond (eqb e.kind kind) x y)
  from P kind h its higher =
      either P (eqb e.kind kind) (λ is. its (eqb-true e.kind kind is)) (λ other. higher (omega (arith, eqb-false e.kind kind other)))

  placed : Placed e.kind e.station (whose_is (Says (event_of e)))
  placed =
      let P : Event → Type 0 = λ (event : Event). Placed e.kind e.station (whose_is (Says event)) in
      let bit = station_bit SingleLine e allowed in
      let none = no_station SingleLine e allowed in
      let its = its_station SingleLine e allowed in
      from P 1 known.0 (λ is. none (bit 1 is))
      (λ h. from P 2 h (λ is. its (λ seven. omega arith) (bit 2 is))
      (λ h. from P 3 h (λ is. its (λ seven. omega arith) (bit 3 is))
      (λ h. from P 4 h (λ is. its (λ seven. omega arith) (bit 4 is))
      (λ h. from P 5 h (λ is. its (λ seven. omega arith) (bit 5 is))
      (λ h. from P 6 h (λ is. its (λ seven. omega arith) (bit 6 is))
      (λ h. from P 7 h (λ is. met is)
      (λ h. either P (eqb e.kind 9) (λ is. its (λ seven. omega (arith, eqb-true e.kind 9 is)) (bit 9 (eqb-true e.kind 9 is)))
      (λ other. none (bit 8 (omega (arith, known.1, eqb-false e.kind 9 other)))))))))))

-- ---- what is read

-- bytes that come to an event
pub ranged_of : (bytes : List ℕ) (event : Event) → decode bytes ≡ Says event → Ranged event
unfolding decode
ranged_of bytes event =
    read_by SingleLine (λ read. decoded_as read ≡ Says event → Ranged event) (λ h. absurd (bad_says h)) (λ why next h. absurd (bad_says h))
    (λ e next allowed h. let same : event_of e ≡ event = cc in rw same at (ranged e allowed))
    bytes 0

-- the kind of the entry at an offset of a log, and whose it is
pub kind_at : (log : List ℕ) (at : ℕ) → kind_read (read_at SingleLine log at) ≤ 9
kind_at = read_by SingleLine (λ read. kind_read read ≤ 9) (omega arith) (λ why next. omega arith) (λ e next allowed. (known e allowed).1)

pub placed_at : (log : List ℕ) (at : ℕ) → Placed (kind_read (read_at SingleLine log at)) (station_read (read_at SingleLine log at)) (whose_is (decoded_as (read_at SingleLine log at)))
placed_at =
    read_by SingleLine (λ read. Placed (kind_read read) (station_read read) (whose_is (decoded_as read))) (nowhere refl) (λ why next. nowhere refl) (λ e next allowed. placed e allowed)
