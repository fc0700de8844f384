-- A section written as a position and read is the same section, and bytes that are a position are their section's, written: so no section has two writings, and bytes are a
-- position just where some well-made section is written so. Each figure is put at the front of what follows, so that reading it back is a computation; a number in two or
-- four bytes is its quotients and remainders put together again.
-- Assumes nothing.
use Prim.Native.Nat.{suc, zero, ℕ, ◌%◌, ◌*◌, ◌+◌, ◌/◌, ◌≤◌}
use Rattle.std.specs.Prelude.{None, Option, Some}
use Rattle.working.proofs.invariant.Made.{length-pad_to, length_vehicles}
use Rattle.working.proofs.laws.Clauses.{section-made}
use Rattle.working.proofs.laws.OwnPlaces.{own_vehicles}
use Rattle.working.proofs.laws.Tests.{both}
use Rattle.working.specs.Positions.{ReadThenWritten, SpeedsTold, StepWritten, WrittenThenRead, byte_at, counts_bytes, counts_in, desk_bytes, desk_in}
use Rattle.working.specs.Positions.{interval_of, is_figures, is_position, minute_of, movement_bytes, movement_of, places_bytes, position_of, running_of, same_bytes}
use Rattle.working.specs.Positions.{section_at, speed_number, vehicle_bytes, vehicle_in, vehicles_in}
use Rattle.working.specs.Sections.{fresh, vehicles_of, with_vehicles}
use Rattle.working.specs.WellMade.{one_if, well_made}
use Rattle.working.specs.declared.Counts.{Counts}
use Rattle.working.specs.declared.Desk.{Desk}
use Rattle.working.specs.declared.Movement.TheVariants.{LastTrain, Open, Return, Through, Train}
use Rattle.working.specs.declared.Movement.{Movement}
use Rattle.working.specs.declared.Section.{Section}
use Rattle.working.specs.declared.Speed.TheVariants.{Booked, Both, Kmh, NoSpeed, Walking}
use Rattle.working.specs.declared.Speed.{Speed}
use Rattle.working.specs.declared.Vehicle.{Vehicle}
use borrow.Author.Tests.{eq-eqb, eqb-true, le-ltb, ltb-true}
use lib.Dec.{eqb, ltb}
use lib.ListN.{drop, length, length-append, length-take, replicate, take}
use lib.Seq.{drop-append-add, get_or-append-add}
use mathlib.Core.Bool.{Bool, false, true}
use mathlib.Core.List.{List, [], append_assoc, ◌++◌, ◌∷◌}
use mathlib.Core.Path.{ap, ap₂, refl, sym, ◌∙◌, ◌≡◌}
use native.Mathlib.Nat.{div-add-mod'}
use native.Mathlib.Omega.{arith}

-- ---- the same bytes

pub same_bytes_lem : (a b : List ℕ) → same_bytes a b ≡ true → a ≡ b
unfolding same_bytes
same_bytes_lem [] [] h = refl
same_bytes_lem [] (c ∷ b) h = absurd (omega (arith, ap one_if h))
same_bytes_lem (c ∷ a) [] h = absurd (omega (arith, ap one_if h))
same_bytes_lem (c ∷ a) (d ∷ b) h = let p = both (eqb c d) (same_bytes a b) h in ap₂ ◌∷◌ (eqb-true c d p.0) (same_bytes_lem a b p.1)

pub bytes_same : (a : List ℕ) → same_bytes a a ≡ true
unfolding same_bytes
bytes_same [] = refl
bytes_same (b ∷ a) = rw (eq-eqb b b refl) (bytes_same a)

-- ---- numbers and flags

two_again : (n : ℕ) → n / 256 * 256 + n % 256 ≡ n
two_again n = div-add-mod' n 256

four_again : (n : ℕ) → (n / 16777216 * 256 + n / 65536 % 256) * 65536 + (n / 256 % 256 * 256 + n % 256) ≡ n
four_again n = omega arith

flag_again : (flag : Bool) → eqb (one_if flag) 1 ≡ flag
flag_again true = refl
flag_again false = refl

-- ---- a vehicle

module _ (l : List ℕ) where
  movement_again : (m : Movement) → let b = movement_bytes m in movement_of (byte_at b 0) (byte_at b 1) (byte_at b 2) (byte_at b 3) ≡ m
  movement_again (Open asked) = refl
  movement_again Through = refl
  movement_again (Return asked granted) = refl
  movement_again (Train asked granted) = refl
  movement_again (LastTrain asked granted given_up) = refl

  vehicle_again : (v : Vehicle) → vehicle_in (take 10 (vehicle_bytes v ++ l)) ≡ v
  unfolding vehicle_bytes vehicle_in
  vehicle_again v = rw (movement_again v.movement, two_again v.form, flag_again v.met)

  is_kind : (v : Vehicle) → eqb (byte_at (vehicle_bytes v ++ l) 0) 0 ≡ false
  unfolding vehicle_bytes
  is_kind v = by v.movement
    where
      by : (m : Movement) → eqb (byte_at (movement_bytes m) 0) 0 ≡ false
      by (Open asked) = refl
      by Through = refl
      by (Return asked granted) = refl
      by (Train asked granted) = refl
      by (LastTrain asked granted given_up) = refl

  -- ---- the counts, and a desk

  counts_again : (c : Counts) → counts_in (take 12 (counts_bytes c ++ l)) ≡ c
  unfolding counts_bytes counts_in
  counts_again c = rw (four_again c.a, four_again c.b, four_again c.none)

  interval_again : (i : Option ℕ) → interval_of (running_of i) (minute_of i) ≡ i
  interval_again None = refl
  interval_again (Some minute) = refl

  desk_again : (d : Desk) → desk_in (take 14 (desk_bytes d ++ l)) ≡ d
  unfolding desk_bytes desk_in
  desk_again d = rw (two_again d.clock, two_again d.last, two_again (minute_of d.interval), interval_again d.interval, flag_again d.out)

-- ---- the places

pub length-places : (n : ℕ) (l : List Vehicle) → length l ≤ n → length (places_bytes n l) ≡ 10 * n
unfolding places_bytes vehicle_bytes
length-places zero [] h = refl
length-places zero (v ∷ l) h = absurd (omega arith)
length-places (suc n) [] h = omega (arith, length-places n [] (omega arith))
length-places (suc n) (v ∷ l) h = omega (arith, length-places n l (omega arith))

drop-vehicle : (v : Vehicle) (l : List ℕ) → drop 10 (vehicle_bytes v ++ l) ≡ l
unfolding vehicle_bytes
drop-vehicle v l = refl

places_again : (n : ℕ) (vehicles : List Vehicle) (l : List ℕ) → length vehicles ≤ n → vehicles_in n (places_bytes n vehicles ++ l) ≡ vehicles
unfolding places_bytes vehicles_in
places_again zero [] l h = refl
places_again zero (v ∷ vehicles) l h = absurd (omega arith)
places_again (suc n) [] l h = refl
places_again (suc n) (v ∷ vehicles) l h =
    let behind = places_bytes n vehicles ++ l in
    rw (append_assoc (vehicle_bytes v) (places_bytes n vehicles) l, is_kind behind v, vehicle_again behind v, drop-vehicle v behind)
    (ap (v ∷◌) (places_again n vehicles l (omega arith)))

-- ---- the section

-- behind the places
abbrev rest : Section → List ℕ
rest s = one_if s.force ∷ (counts_bytes s.refused ++ (desk_bytes s.a ++ desk_bytes s.b))

length_rest : (s : Section) → length (rest s) ≡ 41
unfolding counts_bytes desk_bytes
length_rest s = refl

-- the figures behind the places of some bytes are those of a section that has others for vehicles
behind_again : (s : Section) (places : List ℕ) → length places ≡ 240
    → section_at (places ++ rest s)
    ≡ with_vehicles s (vehicles_in 24 (places ++ rest s))
unfolding counts_bytes desk_bytes section_at
behind_again s places long =
    let from : (k : ℕ) → drop (240 + k) (places ++ rest s) ≡ drop k (rest s) = λ k. rw long at (drop-append-add places (rest s) k) in
    let force : byte_at (places ++ rest s) 240 ≡ one_if s.force = rw long at (get_or-append-add places (rest s) 0 0) in
    rw (force, flag_again s.force, from 1, from 13, from 27, counts_again (desk_bytes s.a ++ desk_bytes s.b) s.refused, desk_again (desk_bytes s.b) s.a, desk_again [] s.b)

pub length_position : (s : Section) → length (vehicles_of s) ≤ 24 → length (position_of s) ≡ 281
unfolding position_of
length_position s fits = length-append (places_bytes 24 (vehicles_of s)) (rest s) ∙ omega (arith, length-places 24 (vehicles_of s) fits, length_rest s)

module _ (s : Section) (long : length s.vehicles ≡ 24) (well : well_made s ≡ true) where
  fits : length (vehicles_of s) ≤ 24
  fits = omega (arith, length_vehicles s long well, (section-made s well).fits)

  pub section_again : section_at (position_of s) ≡ s
  unfolding position_of
  section_again =
      behind_again s (places_bytes 24 (vehicles_of s)) (length-places 24 (vehicles_of s) fits)
      ∙ ap (with_vehicles s) (places_again 24 (vehicles_of s) (rest s) fits)
      ∙ own_vehicles s long well

  pub position_of_lem : is_position (position_of s) ≡ true
  unfolding is_position
  position_of_lem = rw (section_again, bytes_same (position_of s)) well

-- bytes that are a position are the writing of the section that they say, which is well made
pub record Written (bytes : List ℕ) : Type 0 where
  pub again : position_of (section_at bytes) ≡ bytes
  pub well : well_made (section_at bytes) ≡ true

pub position_is : (bytes : List ℕ) → is_position bytes ≡ true → Written bytes
unfolding is_position
position_is bytes h =
    let p = both (same_bytes bytes (position_of (section_at bytes))) (well_made (section_at bytes)) h in
    record { again = sym (same_bytes_lem bytes (position_of (section_at bytes)) p.0); well = p.1 }

pub places-read : (bytes : List ℕ) → length (section_at bytes).vehicles ≡ 24
unfolding section_at
places-read bytes = length-pad_to 24 (vehicles_in 24 bytes)

fits_read : (bytes : List ℕ) → length (vehicles_of (section_at bytes)) ≤ 24
fits_read bytes = omega (arith, places-read bytes, length-take (section_at bytes).len (section_at bytes).vehicles)

pub read_then_written : ReadThenWritten
read_then_written bytes h =
    let w = position_is bytes h in
    (ap length (sym w.again) ∙ length_position (section_at bytes) (fits_read bytes), w.again)

pub written_then_read : WrittenThenRead
written_then_read s long well = (position_of_lem s long well, section_again s long well)

pub step_written : StepWritten
step_written s long well entry numbers room =
    let is = position_of_lem s long well in
    let fits = le-ltb (length numbers) 3 room in
    let same = section_again s long well in
    record { answered = rw (is, fits, same); left = rw (is, fits, same); put = rw (is, fits, same) }

-- ---- a speed's number: its case is what stands above 65,536, and its figures stand below

abbrev speed_of : ℕ → ℕ → Speed
speed_of zero figures = NoSpeed
speed_of (suc zero) figures = Walking
speed_of (suc (suc zero)) figures = Kmh figures
speed_of (suc (suc (suc zero))) figures = Booked
speed_of (suc (suc (suc (suc n)))) figures = Both (figures / 256) (figures % 256)

speed_again : (x : Speed) → is_figures x ≡ true → speed_of (speed_number x / 65536) (speed_number x % 65536) ≡ x
speed_again NoSpeed h = refl
speed_again Walking h = refl
speed_again (Kmh n) h =
    let byte = ltb-true n 256 h in
    let kind : (131072 + n) / 65536 ≡ 2 = omega arith in
    let figures : (131072 + n) % 65536 ≡ n = omega arith in
    rw (kind, figures)
speed_again Booked h = refl
speed_again (Both straight elsewhere) h =
    let p = both (ltb straight 256) (ltb elsewhere 256) h in
    let first = ltb-true straight 256 p.0 in
    let second = ltb-true elsewhere 256 p.1 in
    let kind : (262144 + 256 * straight + elsewhere) / 65536 ≡ 4 = omega arith in
    let high : (262144 + 256 * straight + elsewhere) % 65536 / 256 ≡ straight = omega arith in
    let low : (262144 + 256 * straight + elsewhere) % 65536 % 256 ≡ elsewhere = omega arith in
    rw (kind, high, low)

pub speeds_told : SpeedsTold
speeds_told x y p q is = sym (speed_again x p) ∙ ap (λ n. speed_of (n / 65536) (n % 65536)) is ∙ speed_again y q

-- "The fresh section is 281 zeros."
pub position_fresh : position_of fresh ≡ replicate 281 0
unfolding position_of places_bytes counts_bytes desk_bytes
position_fresh = refl
