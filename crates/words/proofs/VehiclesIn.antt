-- The vehicles in words: what is stored in a slot, with their number and the ring's start, makes the words stand for the section with those after it;
-- and a section's own words become the words of that section.
-- Assumes nothing.
use Prim.Native.Nat.{min, suc, zero, ℕ, ◌%◌, ◌*◌, ◌+◌, ◌-◌, ◌<◌, ◌≤◌}
use Rattle.section.proofs.Passes.{take_present}
use Rattle.std.proofs.lemmas.List.FromFn.{length-range_with_len}
use Rattle.std.specs.List.{position, position_or_len, range_with_len}
use Rattle.std.specs.Option.{MatchOption}
use Rattle.std.specs.Prelude.{None, Some}
use Rattle.words.proofs.Round.{Moves, Stands, round-length, round_at}
use Rattle.words.proofs.Slots.{in_ring, list_altered, slot_altered, slot_words_lem}
use Rattle.words.proofs.Written.{as_written, set_past}
use Rattle.words.specs.Stores.{in_slot}
use Rattle.words.specs.Words.{Becomes, Own, present_in, section_in, start_in, start_place, vehicles_in, word_count, words_from, words_of}
use Rattle.words.specs.Words.{by_slot, first_word, ring_from, ring_in, round, second_word, slot_words, slots, vehicle_at, vehicle_in}
use Rattle.working.proofs.invariant.Made.{length-pad_to, vehicles_with}
use Rattle.working.proofs.laws.Tests.{each_holds}
use Rattle.working.specs.Reasons.{find_of, is_named, may_meet, meeting_tests}
use Rattle.working.specs.Sections.{nearest_at, pad_to, pad_with, unused, vehicles_of, with_vehicles}
use Rattle.working.specs.declared.Section.{Section}
use Rattle.working.specs.declared.Station.TheVariants.{A, B}
use Rattle.working.specs.declared.Station.{Station}
use Rattle.working.specs.declared.Vehicle.{Vehicle}
use borrow.Author.Tests.{ltb-false, ltb-true}
use lib.Dec.{ltb}
use lib.ListN.{get_or, get_or-eq_default, length, length-drop, length-set, set, take}
use lib.Seq.{ext_get_or}
use mathlib.Core.Bool.{Bool, cond, false, not, true}
use mathlib.Core.List.{List, [], ◌++◌, ◌∷◌}
use mathlib.Core.Path.{ap, ap₂, refl, sym, ◌∙◌, ◌≡◌}
use native.Mathlib.Decide.{dec_le}
use native.Mathlib.Omega.{arith}

-- ---- the vehicles present

pub vehicles_length : (w : List ℕ) → length (vehicles_in w) ≡ present_in w
vehicles_length w = round-length (vehicle_at (ring_in w)) (start_in w) (present_in w)

pub vehicles_fit : (w : List ℕ) → length (vehicles_in w) ≤ 24
vehicles_fit w = omega (arith, vehicles_length w)

pub vehicles_of_lem : (w : List ℕ) → vehicles_of (section_in w) ≡ vehicles_in w
unfolding section_in
vehicles_of_lem w =
    sym (take_present (pad_to 24 (vehicles_in w)) (get_or w 0 0) 24 (length-pad_to 24 (vehicles_in w)))
    ∙ ap (λ n. take n (pad_to 24 (vehicles_in w))) (sym (vehicles_length w)) ∙ vehicles_with 24 (vehicles_in w) (vehicles_fit w)

pub present_length : (w : List ℕ) → length (vehicles_of (section_in w)) ≡ present_in w
present_length w = ap length (vehicles_of_lem w) ∙ vehicles_length w

pub places_of : (w : List ℕ) → pad_to 24 (vehicles_of (section_in w)) ≡ (section_in w).vehicles
unfolding section_in
places_of w = ap (pad_to 24) (vehicles_of_lem w)

-- of the places with vehicles in them, one that is read, and any one if the vehicles are no more than they
pad_at : (n : ℕ) (l : List Vehicle) (i : ℕ) → i < n → get_or (pad_to n l) i unused ≡ get_or l i unused
unfolding pad_with
pad_at zero l i h = absurd (omega arith)
pad_at (suc n) [] zero h = refl
pad_at (suc n) [] (suc i) h = pad_at n [] i (omega arith)
pad_at (suc n) (v ∷ l) zero h = refl
pad_at (suc n) (v ∷ l) (suc i) h = pad_at n l i (omega arith)

pub pad_any : (n : ℕ) (l : List Vehicle) (i : ℕ) → length l ≤ n → get_or (pad_to n l) i unused ≡ get_or l i unused
pad_any n l i fits = by (dec_le n i)
  where
    by : Dec (n ≤ i) → get_or (pad_to n l) i unused ≡ get_or l i unused
    by (no inside) = pad_at n l i (omega arith)
    by (yes past) = get_or-eq_default (pad_to n l) unused (omega (arith, length-pad_to n l)) ∙ sym (get_or-eq_default l unused (omega arith))

pub vehicles_at : (w : List ℕ) (i : ℕ) → i < present_in w → get_or (vehicles_in w) i unused ≡ vehicle_at (ring_in w) ((start_in w + i) % slots)
vehicles_at w i h = round_at (vehicle_at (ring_in w)) (start_in w) (present_in w) i h

vehicles_stand : (w : List ℕ) → Stands (vehicle_at (ring_in w)) (start_in w) (vehicles_in w) (length (vehicles_in w))
vehicles_stand w i h = sym (vehicles_at w i (omega (arith, vehicles_length w)))

-- what stands in the ring, as far as there are places
round_pads : (at : ℕ → Vehicle) (start : ℕ) (l : List Vehicle) {n : ℕ} → n ≡ min (length l) 24 → Stands at start l n → pad_to 24 (round at start n) ≡ pad_to 24 l
round_pads at start l {n} size stands =
    ext_get_or unused (pad_to 24 (round at start n)) (pad_to 24 l) (length-pad_to 24 (round at start n) ∙ sym (length-pad_to 24 l))
    (λ i h.
    let less : i < 24 = omega (arith, length-pad_to 24 (round at start n)) in
    pad_at 24 (round at start n) i less ∙ by i less (dec_le (length l) i) ∙ sym (pad_at 24 l i less))
  where
    by : (i : ℕ) → i < 24 → Dec (length l ≤ i) → get_or (round at start n) i unused ≡ get_or l i unused
    by i h (yes past) = get_or-eq_default (round at start n) unused (omega (arith, round-length at start n)) ∙ sym (get_or-eq_default l unused past)
    by i h (no inside) = round_at at start n i (omega arith) ∙ stands i (omega arith)

pub near_none : (x : Station) (l : List Vehicle) → length l ≡ 0 → nearest_at x l ≡ unused
near_none A [] e = refl
near_none B [] e = refl
near_none x (v ∷ l) e = absurd (omega arith)

-- the place found is at most how many there are, and it is the first, place by place
pub find_most : (sender : Station) (form : ℕ) (l : List Vehicle) → find_of sender form l ≤ length l
find_most sender form [] = omega arith
find_most sender form (v ∷ l) = by (is_named sender form v) (find_most sender form l)
  where
    by : (named : Bool) {n m : ℕ} → n ≤ m → cond named 0 (suc n) ≤ suc m
    by true less = omega arith
    by false less = omega arith

find_from : (sender : Station) (form : ℕ) (l m : List Vehicle) (i : ℕ) → ((k : ℕ) → get_or l (i + k) unused ≡ get_or m k unused)
    → position_or_len (λ j. is_named sender form (get_or l j unused)) (range_with_len i (length m)) ≡ find_of sender form m
find_from sender form l [] i same = refl
find_from sender form l (v ∷ m) i same =
    let here : get_or l i unused ≡ v = ap (λ k. get_or l k unused) (omega arith) ∙ same 0 in
    rw here (by (is_named sender form v) (find_from sender form l m (i + 1) (λ k. ap (λ j. get_or l j unused) (omega arith) ∙ same (suc k))))
  where
    by : (named : Bool) {n k : ℕ} → n ≡ k → cond (not named) (1 + n) 0 ≡ cond named 0 (suc k)
    by true e = refl
    by false e = omega arith

pub find_first : (sender : Station) (form : ℕ) (l : List Vehicle) {n : ℕ} → n ≡ length l
    → MatchOption (position (λ i. is_named sender form (get_or l i unused)) (range_with_len 0 n)) (find_of sender form l ≡ length l) (λ i. (find_of sender form l ≡ i) × (i < length l))
find_first sender form l {n} size =
    let first : position_or_len (λ j. is_named sender form (get_or l j unused)) (range_with_len 0 (length l)) ≡ find_of sender form l =
    find_from sender form l l 0 (λ k. ap (λ j. get_or l j unused) (omega arith)) in
    rw (size, first, length-range_with_len 0 (length l)) (by (ltb (find_of sender form l) (length l)) refl (find_most sender form l))
  where
    by : (inside : Bool) {f m : ℕ} → ltb f m ≡ inside → f ≤ m → MatchOption (cond inside (Some f) None) (f ≡ m) (λ i. (f ≡ i) × (i < m))
    by true {f} {m} e most = (refl, ltb-true f m e)
    by false {f} {m} e most = omega (arith, ltb-false f m e)

-- two that may meet are both present
pub may_meet_in : (l : List Vehicle) (i : ℕ) → may_meet l i ≡ true → i + 1 < length l
may_meet_in l i e = ltb-true (i + 1) (length l) (each_holds (meeting_tests l i) e).0

-- ---- a section's places slot by slot

slot_count : (places : List Vehicle) (start : ℕ) → length (by_slot places start) ≡ slots
unfolding by_slot
slot_count places start = round-length (λ i. get_or places i unused) (slots - start) slots

pub slot_at : (places : List Vehicle) (start k : ℕ) → k < slots → get_or (by_slot places start) k unused ≡ get_or places ((slots - start + k) % slots) unused
unfolding by_slot
slot_at places start k h = round_at (λ i. get_or places i unused) (slots - start) slots k h

-- ---- two words are stored in a slot

slot_past : (p r : List ℕ) (slot first second : ℕ) → length p ≡ ring_from → in_slot (p ++ r) slot first second ≡ p ++ in_ring r slot first second
slot_past p r slot first second e =
    ap₂ (λ i j. set (set (p ++ r) i first) j second) (ap (λ k. k + 2 * slot) (sym e)) (ap (λ k. k + (2 * slot + 1)) (sym e))
    ∙ ap (λ t. set t (length p + (2 * slot + 1)) second) (set_past p r (2 * slot) first)
    ∙ set_past p (set r (2 * slot) first) (2 * slot + 1) second

-- A vehicle's words, the number n of vehicles and the word of the ring's start. In own words they are those that the definition names.
pub record Stored (w after : List ℕ) (slot : ℕ) (v : Vehicle) (n start : ℕ) : Type 0 where
  pub first : ℕ
  pub second : ℕ
  pub word : ℕ
  pub long : length w ≡ word_count
  pub stored : after ≡ in_slot (set (set w 0 n) start_place word) slot first second
  pub vehicle : vehicle_in first second ≡ v
  pub begins : word % slots ≡ start
  pub own_first : Own w → first ≡ first_word v
  pub own_second : Own w → second ≡ second_word v
  pub own_word : Own w → word ≡ start

module _ (slot : ℕ) (v : Vehicle) (start : ℕ) (l : List Vehicle) (inside : slot < slots) (less : start < slots) where
  -- in a section's own words: `before` are its vehicles, from slot a on
  module _ (s : Section) (a : ℕ) (before : List Vehicle) (from : a < slots) (fits : length before ≤ 24) (places : s.vehicles ≡ pad_to 24 before)
      (moves : Moves a before slot v start l) (few : length l ≤ 24) where
    slots_stand : Stands (λ k. get_or (by_slot s.vehicles a) k unused) a before slots
    slots_stand i h = slot_at s.vehicles a ((a + i) % slots) (omega arith) ∙ ap₂ (λ t k. get_or t k unused) places (omega arith) ∙ pad_any 24 before i fits

    slots-after : set (by_slot s.vehicles a) slot v ≡ by_slot (pad_to 24 l) start
    slots-after =
        let ring : List Vehicle = by_slot s.vehicles a in
        let size : length ring ≡ slots = slot_count s.vehicles a in
        let size-set : length (set ring slot v) ≡ slots = length-set ring slot v ∙ size in
        ext_get_or unused (set ring slot v) (by_slot (pad_to 24 l) start) (size-set ∙ sym (slot_count (pad_to 24 l) start))
        (λ k h.
        let i : ℕ = (slots - start + k) % slots in
        let there : k ≡ (start + i) % slots = omega arith in
        ap (λ j. get_or (set ring slot v) j unused) there
        ∙ moves.alone few (list_altered ring slot v (omega arith)) slots_stand i (omega arith)
        ∙ sym (slot_at (pad_to 24 l) start k (omega arith) ∙ pad_any 24 l i few))

    own-after : in_slot (set (set (words_of s a) 0 (length l)) start_place start) slot (first_word v) (second_word v) ≡ words_of (with_vehicles s l) start
    unfolding words_of
    own-after =
        let figures : List ℕ = set (set (words_from 0 ring_from (words_of s a)) 0 (length l)) start_place start in
        slot_past figures (slot_words (by_slot s.vehicles a)) slot (first_word v) (second_word v) refl
        ∙ ap (figures ++◌) (slot_words_lem (by_slot s.vehicles a) slot v ∙ ap slot_words slots-after)

  -- in any words
  pub vehicles_become : (w : List ℕ) {after : List ℕ} {n : ℕ} → Stored w after slot v n start → n ≡ length l → Moves (start_in w) (vehicles_in w) slot v start l
      → Becomes w after (with_vehicles (section_in w) l) start
  unfolding section_in
  vehicles_become w {after} {n} r size moves =
      let first = r.first in
      let second = r.second in
      let word = r.word in
      let figures : List ℕ = set (set (words_from 0 ring_from w) 0 n) start_place word in
      let shown : after ≡ figures ++ in_ring (ring_in w) slot first second =
      r.stored ∙ ap (λ u. in_slot (set (set u 0 n) start_place word) slot first second) (as_written w r.long) ∙ slot_past figures (ring_in w) slot first second refl in
      let altered = slot_altered (ring_in w) slot first second (omega (arith, length-drop ring_from w, r.long)) r.vehicle in
      let stands = moves.present altered (vehicles_stand w) in
      let places : pad_to 24 (round (vehicle_at (in_ring (ring_in w) slot first second)) start (min n 24)) ≡ pad_to 24 l =
      round_pads (vehicle_at (in_ring (ring_in w) slot first second)) start l (ap (λ k. min k 24) size) (λ i h. stands i (omega arith)) in
      record {
        section = ap section_in shown ∙ rw (r.begins, places, size);
        start = ap start_in shown ∙ r.begins;
        own = λ few e.
            r.stored
            ∙ rw (size, r.own_first e, r.own_second e, r.own_word e)
            (ap (λ u. in_slot (set (set u 0 (length l)) start_place start) slot (first_word v) (second_word v)) e
            ∙ own-after (section_in w) (start_in w) (vehicles_in w) (omega arith) (vehicles_fit w) refl moves few);
      }
