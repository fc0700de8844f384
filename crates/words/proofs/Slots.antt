-- The ring's words, two to a slot. Two words stored in a slot alter the vehicle of that slot alone, and so in the words of any list of vehicles.
-- Assumes nothing.
use Prim.Native.Nat.{suc, zero, ℕ, ◌*◌, ◌+◌, ◌<◌}
use Rattle.words.proofs.Round.{Alters}
use Rattle.words.specs.Words.{first_word, second_word, slot_words, vehicle_at, vehicle_in}
use Rattle.working.specs.Sections.{unused}
use Rattle.working.specs.declared.Vehicle.{Vehicle}
use lib.ListN.{get_or, length, length-set, set}
use lib.Seq.{get_or-set_other, get_or-set_same}
use mathlib.Core.List.{List, [], ◌∷◌}
use mathlib.Core.Path.{ap, ap₂, refl, ◌∙◌, ◌≡◌}
use native.Mathlib.Omega.{arith}

-- two words in a slot of the ring
abbrev pub in_ring : List ℕ → ℕ → ℕ → ℕ → List ℕ
in_ring ring slot first second = set (set ring (2 * slot) first) (2 * slot + 1) second

pub slot_altered : (ring : List ℕ) (slot first second : ℕ) {v : Vehicle} → 2 * slot + 1 < length ring → vehicle_in first second ≡ v
    → Alters (vehicle_at ring) (vehicle_at (in_ring ring slot first second)) slot v
slot_altered ring slot first second room back = record {
  here = λ k e. ap (vehicle_at (in_ring ring slot first second)) e ∙ ap₂ vehicle_in one two ∙ back;
  elsewhere = λ k ne. ap₂ vehicle_in (other (2 * k) (λ e. ne (omega arith)) (λ e. omega arith)) (other (2 * k + 1) (λ e. omega arith) (λ e. ne (omega arith)));
}
  where
    one : get_or (in_ring ring slot first second) (2 * slot) 0 ≡ first
    one = get_or-set_other (set ring (2 * slot) first) (2 * slot + 1) (2 * slot) second 0 (λ e. omega arith) ∙ get_or-set_same ring (2 * slot) first 0 (omega arith)

    two : get_or (in_ring ring slot first second) (2 * slot + 1) 0 ≡ second
    two = get_or-set_same (set ring (2 * slot) first) (2 * slot + 1) second 0 (omega (arith, length-set ring (2 * slot) first))

    other : (i : ℕ) → (i ≡ 2 * slot → ⊥) → (i ≡ 2 * slot + 1 → ⊥) → get_or (in_ring ring slot first second) i 0 ≡ get_or ring i 0
    other i p q = get_or-set_other (set ring (2 * slot) first) (2 * slot + 1) i second 0 q ∙ get_or-set_other ring (2 * slot) i first 0 p

pub list_altered : (l : List Vehicle) (slot : ℕ) (v : Vehicle) → slot < length l → Alters (λ k. get_or l k unused) (λ k. get_or (set l slot v) k unused) slot v
list_altered l slot v less = record {
  here = λ k e. ap (λ i. get_or (set l slot v) i unused) e ∙ get_or-set_same l slot v unused less;
  elsewhere = λ k ne. get_or-set_other l slot k v unused ne;
}

pub slot_words_lem : (l : List Vehicle) (slot : ℕ) (v : Vehicle) → in_ring (slot_words l) slot (first_word v) (second_word v) ≡ slot_words (set l slot v)
unfolding slot_words
slot_words_lem [] slot v = refl
slot_words_lem (u ∷ l) zero v = refl
slot_words_lem (u ∷ l) (suc slot) v =
    let one : 2 * suc slot ≡ suc (suc (2 * slot)) = omega arith in
    let two : 2 * suc slot + 1 ≡ suc (suc (2 * slot + 1)) = omega arith in
    ap₂ (λ i j. set (set (slot_words (u ∷ l)) i (first_word v)) j (second_word v)) one two ∙ ap (λ t. first_word u ∷ second_word u ∷ t) (slot_words_lem l slot v)

pub slot_second : (l : List Vehicle) (slot : ℕ) → get_or (slot_words l) (2 * slot + 1) 0 ≡ second_word (get_or l slot unused)
unfolding slot_words
slot_second [] slot = refl
slot_second (v ∷ l) zero = refl
slot_second (v ∷ l) (suc slot) =
    let two : 2 * suc slot + 1 ≡ suc (suc (2 * slot + 1)) = omega arith in
    ap (λ i. get_or (slot_words (v ∷ l)) i 0) two ∙ slot_second l slot
