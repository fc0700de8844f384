-- A section put into words: the words of an empty one, then each vehicle present entered at B's end, then the desks; at each step they are the own words of
-- the section so far. And the places read off them, one after another.
-- Assumes nothing.
use Prim.Native.Nat.{ℕ, ◌%◌, ◌+◌, ◌<◌, ◌≤◌}
use Rattle.words.proofs.Becoming.{becomes_as, desk-length, own_then}
use Rattle.words.proofs.Ends.{last_becomes}
use Rattle.words.proofs.Packing.{one_back_lem}
use Rattle.words.specs.Stores.{VehiclePut}
use Rattle.words.specs.Words.{DeskBecomes, OwnWords, by_slot, section_in, slot_words, slots, start_in, word_count, words_of}
use Rattle.working.proofs.invariant.Made.{vehicles_with}
use Rattle.working.specs.Sections.{emptied, insert_at, pad_with, unused, vehicles_of, with_desk, with_vehicles}
use Rattle.working.specs.WellMade.{one_if}
use Rattle.working.specs.declared.Counts.{Counts}
use Rattle.working.specs.declared.Desk.{Desk}
use Rattle.working.specs.declared.Section.{Section}
use Rattle.working.specs.declared.Station.TheVariants.{B}
use Rattle.working.specs.declared.Station.{Station}
use Rattle.working.specs.declared.Vehicle.{Vehicle}
use lib.ListN.{get_or, length, length-append, replicate, set, take}
use lib.Seq.{length-take-le, take-suc}
use mathlib.Core.Bool.{Bool}
use mathlib.Core.List.{List, [], ◌∷◌}
use mathlib.Core.Path.{ap, refl, sym, ◌∙◌, ◌≡◌}
use native.Mathlib.Nat.{mod-eq_of_lt}
use native.Mathlib.Numerals.{add-one}
use native.Mathlib.Omega.{arith}

pub own-emptied : (force : Bool) (counts : Counts) → counts.a < 4294967296 → counts.b < 4294967296 → counts.none < 4294967296
    → OwnWords (set (set (set (set (replicate word_count 0) 1 (one_if force)) 2 counts.a) 3 counts.b) 4 counts.none) (emptied force counts)
unfolding section_in words_of slot_words by_slot pad_with
own-emptied force counts a b none =
    record { section = rw (one_back_lem force, mod-eq_of_lt a, mod-eq_of_lt b, mod-eq_of_lt none); start = refl; words = refl; fits = omega arith }

-- one more vehicle
pub own_next : {w after : List ℕ} (s : Section) (places : List Vehicle) (i : ℕ) → OwnWords w (with_vehicles s (take i places)) → i < 24 → length places ≡ 24
    → {slot : ℕ} → slot ≡ (start_in w + i) % slots → slot < slots → VehiclePut (set w 0 (i + 1)) after slot (get_or places i unused)
    → OwnWords after (with_vehicles s (take (i + 1) places))
own_next {w} {after} s places i own less long at inside put =
    let l = take i places in
    let v = get_or places i unused in
    let size : length l ≡ i = length-take-le i places (omega arith) in
    let fits : length l ≤ 24 = omega arith in
    let present : vehicles_of (section_in w) ≡ l = ap (λ z. vehicles_of z) own.section ∙ vehicles_with 24 l fits in
    let b = last_becomes v w (sym (ap length present ∙ size)) at inside put in
    let entered : OwnWords after (with_vehicles s (insert_at B v l)) =
    own_then own
    (becomes_as b (ap (λ z. with_vehicles z (insert_at B v (vehicles_of z))) own.section ∙ ap (λ t. with_vehicles s (insert_at B v t)) (vehicles_with 24 l fits)) refl)
    (omega (arith, length-append l (v ∷ []))) in
    rw (add-one i, take-suc places i unused (omega arith)) entered

-- a desk
pub own-desk : {w after : List ℕ} {s : Section} (x : Station) (d : Desk) → OwnWords w s → DeskBecomes w after x (λ z. d) → OwnWords after (with_desk s x d)
own-desk {w} {after} {s} x d own b = own_then own (becomes_as b (ap (λ z. with_desk z x d) own.section) refl) (omega (arith, desk-length s x d, own.fits))
