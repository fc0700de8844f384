-- What a store within this crate alters, as its functions tell one another.
use Rattle.std.specs.Prelude.{List, drop, get_or, length, set, take, ℕ, ◌%◌, ◌*◌, ◌+◌, ◌≡◌}
use Rattle.words.specs.Words.{desk_from, desk_words_in, first_word, ring_from, second_word, slots, start_in, start_on, start_place, vehicle_in, word_count}
use Rattle.working.specs.WellMade.{desk_length}
use Rattle.working.specs.declared.Station.TheVariants.{A, B}
use Rattle.working.specs.declared.Station.{Station}
use Rattle.working.specs.declared.Vehicle.{Vehicle}

-- the words of a station's desk, and no other
pub record DeskPut (before after : List ℕ) (x : Station) (put : List ℕ → List ℕ) : Type 0 where
  pub long : length before ≡ word_count
  pub same : length after ≡ length before
  pub desk : desk_words_in after x ≡ put (desk_words_in before x)
  pub ahead : take (desk_from x) after ≡ take (desk_from x) before
  pub behind : drop (desk_from x + desk_length) after ≡ drop (desk_from x + desk_length) before

-- the two words of a slot; a vehicle comes back from its own
abbrev pub in_slot : List ℕ → ℕ → ℕ → ℕ → List ℕ
in_slot w slot first second = set (set w (ring_from + 2 * slot) first) (ring_from + (2 * slot + 1)) second

pub record VehiclePut (before after : List ℕ) (slot : ℕ) (v : Vehicle) : Type 0 where
  pub long : length before ≡ word_count
  pub stored : after ≡ in_slot before slot (first_word v) (second_word v)
  pub back : vehicle_in (first_word v) (second_word v) ≡ v

-- the word of the ring's start, moved n slots on at A's end and as it was at B's
abbrev pub start_word : Station → ℕ → List ℕ → ℕ
start_word A n w = (start_in w + n) % slots
start_word B n w = get_or w start_place 0

-- the slot at a station's end, from the start on, with so many others in the ring
abbrev pub end_slot : Station → ℕ → ℕ → ℕ
end_slot A start others = start
end_slot B start others = (start + others) % slots

-- the ring's start is moved n slots on at A's end
pub record StartMoved (before after : List ℕ) (x : Station) (n start : ℕ) : Type 0 where
  pub stored : after ≡ set before start_place (start_word x n before)
  pub at : start ≡ start_on x (start_in before) n
