-- A vehicle enters or leaves at a station's end, or has met another: the words stored are those of the vehicles after it.
-- Assumes nothing.
use Prim.Native.Nat.{ℕ, ◌%◌, ◌*◌, ◌+◌, ◌-◌, ◌<◌, ◌≤◌}
use Rattle.words.proofs.Becoming.{becomes_as, vehicles_then}
use Rattle.words.proofs.Packing.{vehicle_back}
use Rattle.words.proofs.Round.{Moves, enters_moves, leaves_moves, meets_moves, remove-length}
use Rattle.words.proofs.Slots.{slot_second}
use Rattle.words.proofs.VehiclesIn.{Stored, pad_any, present_length, slot_at, vehicles_at, vehicles_become, vehicles_fit, vehicles_of_lem}
use Rattle.words.specs.Stores.{StartMoved, VehiclePut, end_slot, in_slot, start_word}
use Rattle.words.specs.Words.{Becomes, Own, VehiclesBecome, one_back, section_in, start_in, start_on, start_place, vehicles_in, word_count, words_of}
use Rattle.words.specs.Words.{by_slot, first_word, movement_in, ring_from, ring_in, second_word, slots, vehicle_at}
use Rattle.working.proofs.invariant.Made.{vehicles_with}
use Rattle.working.proofs.invariant.Meeting.{redirect_length}
use Rattle.working.proofs.laws.Vehicles.{insert-length}
use Rattle.working.specs.Sections.{insert_at, number_at, pad_to, remove_at, unused, vehicles_of, with_vehicles}
use Rattle.working.specs.Steps.{met_at, redirect_at, redirected}
use Rattle.working.specs.declared.Station.TheVariants.{A, B}
use Rattle.working.specs.declared.Station.{Station}
use Rattle.working.specs.declared.Vehicle.{Vehicle}
use lib.ListN.{get_or, length, length-set, set}
use lib.Seq.{get_or-drop, get_or-set_other, set-get_or}
use mathlib.Core.List.{List}
use mathlib.Core.Path.{ap, ap₂, refl, subst, sym, ◌∙◌, ◌≡◌}
use native.Mathlib.Numerals.{add-one}
use native.Mathlib.Omega.{arith}

-- ---- the ring's start, with the length stored before it

module _ (w : List ℕ) (n : ℕ) where
  start_word_lem : get_or (set w 0 n) start_place 0 ≡ get_or w start_place 0
  start_word_lem = get_or-set_other w 0 start_place n 0 (λ e. omega arith)

  start-kept : start_in (set w 0 n) ≡ start_in w
  start-kept = ap (λ k. k % slots) start_word_lem

  moved_start : (x : Station) (m : ℕ) → start_word x m (set w 0 n) % slots ≡ start_on x (start_in w) m
  moved_start A m = ap (λ k. (k + m) % slots % slots) start-kept ∙ omega arith
  moved_start B m = start-kept

  own-start : (x : Station) (m : ℕ) → Own w → start_word x m (set w 0 n) ≡ start_on x (start_in w) m
  unfolding words_of
  own-start A m e = ap (λ k. (k + m) % slots) start-kept
  own-start B m e = start_word_lem ∙ ap (λ u. get_or u start_place 0) e

start_less : (x : Station) (w : List ℕ) (m : ℕ) → start_on x (start_in w) m < slots
start_less A w m = omega arith
start_less B w m = omega arith

-- what is stored at an end
end-stored : (x : Station) (m : ℕ) (w : List ℕ) {n slot first : ℕ} {moved after : List ℕ} {v : Vehicle}
    → StartMoved (set w 0 n) moved x m first → VehiclePut moved after slot v → Stored w after slot v n (start_on x (start_in w) m)
end-stored x m w {n} {slot} {first} {moved} {after} {v} start put = record {
  first = first_word v;
  second = second_word v;
  word = start_word x m (set w 0 n);
  long = sym (length-set w 0 n) ∙ sym (length-set (set w 0 n) start_place (start_word x m (set w 0 n))) ∙ ap length (sym start.stored) ∙ put.long;
  stored = put.stored ∙ ap (λ u. in_slot u slot (first_word v) (second_word v)) start.stored;
  vehicle = put.back;
  begins = moved_start w n x m;
  own_first = λ e. refl;
  own_second = λ e. refl;
  own_word = own-start w n x m;
}

-- ---- the acts

-- the vehicles of the section are those in the words
as_vehicles : (w : List ℕ) {after : List ℕ} (f : List Vehicle → List Vehicle) (start : ℕ → ℕ)
    → Becomes w after (with_vehicles (section_in w) (f (vehicles_in w))) (start (start_in w)) → VehiclesBecome w after f start
as_vehicles w f start b = becomes_as b (ap (λ l. with_vehicles (section_in w) (f l)) (sym (vehicles_of_lem w))) refl

pub insert_becomes : (x : Station) (v : Vehicle) (w : List ℕ) {n slot first : ℕ} {moved after : List ℕ} → n ≡ length (vehicles_of (section_in w))
    → StartMoved (set w 0 (n + 1)) moved x one_back first → slot ≡ end_slot x first n → slot < slots → VehiclePut moved after slot v
    → VehiclesBecome w after (insert_at x v) (λ start. start_on x start one_back)
insert_becomes x v w {n} {slot} size start end inside put =
    let l = vehicles_in w in
    let here : end_slot x (start_on x (start_in w) one_back) (length l) ≡ slot =
    sym (end ∙ ap₂ (end_slot x) (start.at ∙ ap (λ k. start_on x k one_back) (start-kept w (n + 1))) (size ∙ ap length (vehicles_of_lem w))) in
    let moves = subst (λ i. Moves (start_in w) l i v (start_on x (start_in w) one_back) (insert_at x v l)) here (enters_moves (start_in w) l (omega arith) (vehicles_fit w) x v) in
    let count : n + 1 ≡ length (insert_at x v l) = omega (arith, insert-length x v l, ap length (vehicles_of_lem w)) in
    as_vehicles w (insert_at x v) (λ k. start_on x k one_back)
    (vehicles_become slot v (start_on x (start_in w) one_back) (insert_at x v l) inside (start_less x w one_back) w (end-stored x one_back w start put) count moves)

-- at B's end the start stays
pub last_becomes : (v : Vehicle) (w : List ℕ) {n slot : ℕ} {after : List ℕ} → n ≡ length (vehicles_of (section_in w)) → slot ≡ (start_in w + n) % slots → slot < slots
    → VehiclePut (set w 0 (n + 1)) after slot v → VehiclesBecome w after (insert_at B v) (λ start. start_on B start one_back)
last_becomes v w {n} size end inside put =
    let start : StartMoved (set w 0 (n + 1)) (set w 0 (n + 1)) B one_back (start_in (set w 0 (n + 1))) =
    record { stored = sym (set-get_or (set w 0 (n + 1)) start_place 0); at = refl } in
    insert_becomes B v w size start (end ∙ ap (λ k. (k + n) % slots) (sym (start-kept w (n + 1)))) inside put

pub remove_becomes : (x : Station) (w : List ℕ) {n slot next : ℕ} {moved after : List ℕ} → n ≡ length (vehicles_of (section_in w)) - 1
    → StartMoved (set w 0 n) moved x 1 next → slot ≡ end_slot x (start_in (set w 0 n)) n → slot < slots → VehiclePut moved after slot unused
    → VehiclesBecome w after (remove_at x) (λ start. start_on x start 1)
remove_becomes x w {n} {slot} size start end inside put =
    let l = vehicles_in w in
    let count : n ≡ length l - 1 = omega (arith, ap length (vehicles_of_lem w)) in
    let here : end_slot x (start_in w) (length l - 1) ≡ slot = sym (end ∙ ap₂ (end_slot x) (start-kept w n) count) in
    let moves = subst (λ i. Moves (start_in w) l i unused (start_on x (start_in w) 1) (remove_at x l)) here (leaves_moves (start_in w) l (omega arith) (vehicles_fit w) x) in
    as_vehicles w (remove_at x) (λ k. start_on x k 1)
    (vehicles_become slot unused (start_on x (start_in w) 1) (remove_at x l) inside (start_less x w 1) w (end-stored x 1 w start put) (omega (arith, remove-length x l)) moves)

-- ---- one has met another: its first word alone is stored

number_most : (x : Station) → number_at x ≤ 2
number_most A = omega arith
number_most B = omega arith

module _ (x : Station) (i : ℕ) (w : List ℕ) {n slot : ℕ} (size : n ≡ length (vehicles_of (section_in w))) (here : i < length (vehicles_of (section_in w))) (at : slot ≡ (start_in w + i) % slots) where
  -- the words of the start and of what the vehicle left on are as they were
  first_stored : (first : ℕ) → set (set w 0 n) (ring_from + 2 * slot) first ≡ in_slot (set (set w 0 n) start_place (get_or w start_place 0)) slot first (get_or w (ring_from + (2 * slot + 1)) 0)
  first_stored first =
      let u : List ℕ = set w 0 n in
      let p : ℕ = ring_from + 2 * slot in
      let q : ℕ = ring_from + (2 * slot + 1) in
      let start : set u start_place (get_or w start_place 0) ≡ u = ap (set u start_place) (sym (start_word_lem w n)) ∙ set-get_or u start_place 0 in
      let word : get_or (set u p first) q 0 ≡ get_or w q 0 = get_or-set_other u p q first 0 (λ e. omega arith) ∙ get_or-set_other w 0 q n 0 (λ e. omega arith) in
      sym (ap (λ t. set (set t p first) q (get_or w q 0)) start ∙ ap (set (set u p first) q) (sym word) ∙ set-get_or (set u p first) q 0)

  second_word_lem : get_or w (ring_from + (2 * slot + 1)) 0 ≡ get_or (ring_in w) (2 * slot + 1) 0
  second_word_lem = sym (get_or-drop ring_from w (2 * slot + 1) 0)

  in_vehicles : get_or (vehicles_in w) i unused ≡ vehicle_at (ring_in w) slot
  in_vehicles = vehicles_at w i (omega (arith, present_length w)) ∙ ap (vehicle_at (ring_in w)) (sym at)

  -- in a section's own words it is the vehicle's own
  left_word : Own w → get_or (ring_in w) (2 * slot + 1) 0 ≡ second_word (vehicle_at (ring_in w) slot)
  unfolding words_of section_in
  left_word e =
      let place : (slots - start_in w + slot) % slots ≡ i = omega (arith, present_length w) in
      ap (λ u. get_or (ring_in u) (2 * slot + 1) 0) e ∙ slot_second (by_slot (pad_to 24 (vehicles_in w)) (start_in w)) slot
      ∙ ap second_word
      (slot_at (pad_to 24 (vehicles_in w)) (start_in w) slot (omega arith) ∙ pad_any 24 (vehicles_in w) _ (vehicles_fit w) ∙ ap (λ k. get_or (vehicles_in w) k unused) place ∙ in_vehicles)

  module _ (long : length w ≡ word_count) {after : List ℕ} (store : after ≡ set (set w 0 n) (ring_from + 2 * slot) (first_word (redirected x (vehicle_at (ring_in w) slot)))) where
    met_stored : Stored w after slot (redirected x (vehicle_at (ring_in w) slot)) n (start_in w)
    unfolding words_of
    met_stored =
        let v = redirected x (vehicle_at (ring_in w) slot) in
        let heads : number_at x < 256 = omega (arith, number_most x) in
        record {
          first = first_word v;
          second = get_or w (ring_from + (2 * slot + 1)) 0;
          word = get_or w start_place 0;
          long = long;
          stored = store ∙ first_stored (first_word v);
          vehicle = vehicle_back v (get_or w (ring_from + (2 * slot + 1)) 0) (ap movement_in second_word_lem) (omega arith) (omega arith) heads (omega arith);
          begins = refl;
          own_first = λ e. refl;
          own_second = λ e. second_word_lem ∙ left_word e;
          own_word = λ e. ap (λ u. get_or u start_place 0) e;
        }

    pub met_becomes : VehiclesBecome w after (redirect_at x i) (λ start. start)
    met_becomes =
        let l = vehicles_in w in
        let v = redirected x (vehicle_at (ring_in w) slot) in
        let count : n ≡ length (redirect_at x i l) = omega (arith, redirect_length x i l, ap length (vehicles_of_lem w)) in
        let moves : Moves (start_in w) l slot v (start_in w) (redirect_at x i l) =
        subst (λ u. Moves (start_in w) l slot (redirected x u) (start_in w) (redirect_at x i l)) in_vehicles
        (rw at (meets_moves (start_in w) l (omega arith) (vehicles_fit w) x i (omega (arith, ap length (vehicles_of_lem w))))) in
        as_vehicles w (redirect_at x i) (λ k. k) (vehicles_become slot v (start_in w) (redirect_at x i l) (omega arith) (omega arith) w met_stored count moves)

-- ---- and then the other: as many are present as before

module _ (x : Station) (i : ℕ) {w u : List ℕ} (one : VehiclesBecome w u (redirect_at x i) (λ start. start)) where
  met_fits : length (redirect_at x i (vehicles_of (section_in w))) ≤ 24
  met_fits = omega (arith, redirect_length x i (vehicles_of (section_in w)), present_length w)

  pub met_length : length (vehicles_of (section_in u)) ≡ length (vehicles_of (section_in w))
  met_length =
      let l = redirect_at x i (vehicles_of (section_in w)) in
      ap (λ s. length (vehicles_of s)) one.section ∙ ap length (vehicles_with 24 l met_fits) ∙ redirect_length x i (vehicles_of (section_in w))

  pub both_met : {after : List ℕ} → VehiclesBecome u after (redirect_at x (i + 1)) (λ start. start) → VehiclesBecome w after (met_at x i) (λ start. start)
  both_met two =
      becomes_as (vehicles_then (redirect_at x i) (redirect_at x (i + 1)) (λ k. k) (λ k. k) met_fits one two)
      (ap (λ k. with_vehicles (section_in w) (redirect_at x k (redirect_at x i (vehicles_of (section_in w))))) (add-one i)) refl
