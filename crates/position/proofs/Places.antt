-- The places of a position: how many begin with a kind, which vehicle each says, and a vehicle put behind those that are there.
-- Assumes nothing.
use Prim.Native.Nat.{min, suc, zero, ℕ, ◌*◌, ◌+◌, ◌-◌, ◌/◌, ◌<◌, ◌≤◌}
use Rattle.position.proofs.Copies.{paste_behind}
use Rattle.position.specs.Reading.{vehicles_from}
use Rattle.std.proofs.Common.{None, Option, Some}
use Rattle.std.specs.Option.{MatchOption, unwrap_or}
use Rattle.working.proofs.invariant.Made.{vehicles_with}
use Rattle.working.specs.Entries.{pasted}
use Rattle.working.specs.Positions.{byte_at, counts_bytes, desk_bytes, places_bytes, section_at, vehicle_bytes, vehicle_in, vehicles_in}
use Rattle.working.specs.Sections.{unused, vehicles_of, with_vehicles}
use Rattle.working.specs.declared.Counts.{Counts}
use Rattle.working.specs.declared.Desk.{Desk}
use Rattle.working.specs.declared.Vehicle.{Vehicle}
use borrow.Author.Tests.{eq-eqb, ne_eqb}
use lib.Dec.{eqb}
use lib.ListN.{drop, get_or, length, replicate, set, take}
use lib.Seq.{drop-drop, get_or-drop, length-take-le, set_at, take-suc}
use mathlib.Core.Bool.{Bool, cond, false, true}
use mathlib.Core.List.{List, [], append_assoc, ◌++◌, ◌∷◌}
use mathlib.Core.Path.{ap, refl, sym, ◌∙◌, ◌≡◌}
use native.Mathlib.Nat.{add-zero, zero-add}
use native.Mathlib.Numerals.{add-one}
use native.Mathlib.Omega.{arith}

-- ---- the vehicles present

-- a place that begins with a kind is one more, and one that begins with a zero is the end
pub one_more_lem : (n : ℕ) (p : List ℕ) → eqb (byte_at p 0) 0 ≡ false → length (vehicles_in (suc n) p) ≡ suc (length (vehicles_in n (drop 10 p)))
unfolding vehicles_in
one_more_lem n p h = rw h

pub no_more : (n : ℕ) (p : List ℕ) → eqb (byte_at p 0) 0 ≡ true → length (vehicles_in n p) ≡ 0
unfolding vehicles_in
no_more zero p h = refl
no_more (suc n) p h = rw h

pub first : (p : List ℕ) (at : ℕ) → byte_at (drop at p) 0 ≡ byte_at p at
first p at = get_or-drop at p 0 0 ∙ ap (byte_at p) (add-zero at)

few_vehicles : (n : ℕ) (p : List ℕ) → length (vehicles_in n p) ≤ n
unfolding vehicles_in
few_vehicles zero p = omega arith
few_vehicles (suc n) p = by (eqb (byte_at p 0) 0) (few_vehicles n (drop 10 p))
  where
    by : (none : Bool) → length (vehicles_in n (drop 10 p)) ≤ n → length (cond none [] (vehicle_in (take 10 p) ∷ vehicles_in n (drop 10 p))) ≤ suc n
    by true h = omega arith
    by false h = omega arith

pub few_read : (bytes : List ℕ) → (section_at bytes).len ≤ 24
unfolding section_at
few_read bytes = few_vehicles 24 bytes

-- behind the vehicles read the places are unused
pub own_read : (bytes : List ℕ) → with_vehicles (section_at bytes) (vehicles_of (section_at bytes)) ≡ section_at bytes
unfolding section_at
own_read bytes = rw (vehicles_with 24 (vehicles_in 24 bytes) (few_vehicles 24 bytes))

-- of the vehicles, with i places passed
pub record Passed (p : List ℕ) (i : ℕ) : Type 0 where
  pub within : i ≤ 24
  pub so_far : length (vehicles_in 24 p) ≡ i + length (vehicles_in (24 - i) (drop (10 * i) p))

pub passed_none : (p : List ℕ) → Passed p 0
passed_none p = record { within = omega arith; so_far = sym (zero-add (length (vehicles_in 24 p))) }

pub passed_more : (p : List ℕ) (i : ℕ) → i < 24 → (byte_at p (10 * i) ≡ 0 → ⊥) → Passed p i → Passed p (i + 1)
passed_more p i less kind h =
    let left : 24 - i ≡ suc (24 - (i + 1)) = omega arith in
    let on : 10 * i + 10 ≡ 10 * (i + 1) = omega arith in
    let here : eqb (byte_at (drop (10 * i) p) 0) 0 ≡ false = ne_eqb _ 0 (λ e. kind (sym (first p (10 * i)) ∙ e)) in
    let next = one_more_lem (24 - (i + 1)) (drop (10 * i) p) here in
    let there : length (vehicles_in (24 - (i + 1)) (drop 10 (drop (10 * i) p))) ≡ length (vehicles_in (24 - (i + 1)) (drop (10 * (i + 1)) p)) =
    ap (λ l. length (vehicles_in (24 - (i + 1)) l)) (drop-drop 10 (10 * i) p ∙ ap (λ k. drop k p) on) in
    record { within = omega arith; so_far = omega (arith, h.so_far, ap (λ n. length (vehicles_in n (drop (10 * i) p))) left, next, there) }

pub passed_end : (p : List ℕ) (i : ℕ) → byte_at p (10 * i) ≡ 0 → Passed p i → i ≡ length (vehicles_in 24 p)
passed_end p i ended h =
    let here : eqb (byte_at (drop (10 * i) p) 0) 0 ≡ true = eq-eqb _ 0 (first p (10 * i) ∙ ended) in
    omega (arith, h.so_far, no_more (24 - i) (drop (10 * i) p) here)

pub passed_all : (p : List ℕ) (i : ℕ) → 24 ≤ i → Passed p i → i ≡ length (vehicles_in 24 p)
unfolding vehicles_in
passed_all p i full h =
    let none : 24 - i ≡ 0 = omega arith in
    let left : length (vehicles_in (24 - i) (drop (10 * i) p)) ≡ 0 = ap (λ n. length (vehicles_in n (drop (10 * i) p))) none in
    sym (h.so_far ∙ ap (λ n. i + n) left ∙ add-zero i)

-- up to a place before which none begins with a zero
passed_to : (p : List ℕ) (i : ℕ) → i ≤ 24 → ((k : ℕ) → k < i → byte_at p (10 * k) ≡ 0 → ⊥) → Passed p i
passed_to p zero within kinds = passed_none p
passed_to p (suc i) within kinds =
    let on : i + 1 ≡ suc i = omega arith in
    rw on at (passed_more p i (omega arith) (kinds i (omega arith)) (passed_to p i (omega arith) (λ k h. kinds k (omega arith))))

-- the first place that begins with a zero, else 24
pub first_ended : (p : List ℕ) (r : Option ℕ) (n : ℕ)
    → MatchOption r ((k : ℕ) → 0 ≤ k → k < 24 → byte_at p (10 * k) ≡ 0 → ⊥)
    (λ i. (0 ≤ i) × (i < 24) × (byte_at p (10 * i) ≡ 0) × ((k : ℕ) → 0 ≤ k → k < i → byte_at p (10 * k) ≡ 0 → ⊥))
    → n ≡ unwrap_or r 24 → (n ≡ length (vehicles_in 24 p)) × (n ≤ 24)
first_ended p None n kinds is =
    (is ∙ passed_all p 24 (omega arith) (passed_to p 24 (omega arith) (λ k h. kinds k (omega arith) h)), omega (arith, is))
first_ended p (Some i) n met is =
    (is ∙ passed_end p i met.2 (passed_to p i (omega arith) (λ k h. met.3 k (omega arith) h)), omega (arith, is, met.1))

pub vehicle_there : (n i : ℕ) (p : List ℕ) → i < n → get_or (vehicles_from n p) i unused ≡ vehicle_in (take 10 (drop (10 * i) p))
unfolding vehicles_from
vehicle_there zero i p h = absurd (omega arith)
vehicle_there (suc n) zero p h = refl
vehicle_there (suc n) (suc i) p h =
    let on : 10 + 10 * i ≡ 10 * suc i = omega arith in
    vehicle_there n i (drop 10 p) (omega arith) ∙ ap (λ l. vehicle_in (take 10 l)) (drop-drop (10 * i) 10 p ∙ ap (λ k. drop k p) on)

pub length-vehicles_from : (n : ℕ) (p : List ℕ) → length (vehicles_from n p) ≡ n
unfolding vehicles_from
length-vehicles_from zero p = refl
length-vehicles_from (suc n) p = ap suc (length-vehicles_from n (drop 10 p))

-- the vehicles present are those that as many places say
present_from : (n : ℕ) (p : List ℕ) → vehicles_from (length (vehicles_in n p)) p ≡ vehicles_in n p
unfolding vehicles_in vehicles_from
present_from zero p = refl
present_from (suc n) p = by (eqb (byte_at p 0) 0) (present_from n (drop 10 p))
  where
    rest : List Vehicle
    rest = vehicles_in n (drop 10 p)

    by : (none : Bool) → vehicles_from (length rest) (drop 10 p) ≡ rest
        → vehicles_from (length (cond none [] (vehicle_in (take 10 p) ∷ rest))) p ≡ cond none [] (vehicle_in (take 10 p) ∷ rest)
    by true h = refl
    by false h = ap (vehicle_in (take 10 p) ∷◌) h

-- of them there are places and bytes enough in a position
pub all_present : (p : List ℕ) → length p ≡ 281 → vehicles_from (min (min (length (vehicles_in 24 p)) 24) (length p / 10)) p ≡ vehicles_in 24 p
all_present p long =
    let all : min (min (length (vehicles_in 24 p)) 24) (length p / 10) ≡ length (vehicles_in 24 p) = omega (arith, long, few_vehicles 24 p) in
    rw all (present_from 24 p)

-- ---- a vehicle put

length-vehicle : (v : Vehicle) → length (vehicle_bytes v) ≡ 10
unfolding vehicle_bytes
length-vehicle v = refl

-- behind those that are there
pub put-place : (n : ℕ) (l : List Vehicle) (v : Vehicle) (rest : List ℕ) → length l < n
    → pasted (places_bytes n l ++ rest) (10 * length l) (vehicle_bytes v) ≡ places_bytes n (l ++ v ∷ []) ++ rest
unfolding places_bytes
put-place zero l v rest less = absurd (omega arith)
put-place (suc n) [] v rest less = rw (length-vehicle v) (sym (append_assoc (vehicle_bytes v) (places_bytes n []) rest))
put-place (suc n) (u ∷ l) v rest less =
    let on : 10 * suc (length l) ≡ 10 + 10 * length l = omega arith in
    rw (on, append_assoc (vehicle_bytes u) (places_bytes n l) rest)
    (paste_behind (vehicle_bytes u) (places_bytes n l ++ rest) 10 (10 * length l) (vehicle_bytes v) (length-vehicle u)
    ∙ ap (λ t. vehicle_bytes u ++ t) (put-place n l v rest (omega arith))
    ∙ sym (append_assoc (vehicle_bytes u) (places_bytes n (l ++ v ∷ [])) rest))

-- the first i vehicles of a list, and one more of them put
pub put_next : (l : List Vehicle) (i : ℕ) (rest : List ℕ) → i < length l → i < 24
    → pasted (places_bytes 24 (take i l) ++ rest) (10 * i) (vehicle_bytes (get_or l i unused)) ≡ places_bytes 24 (take (i + 1) l) ++ rest
put_next l i rest less room =
    let long : length (take i l) ≡ i = length-take-le i l (omega arith) in
    rw (add-one i, take-suc l i unused less)
    (ap (λ k. pasted (places_bytes 24 (take i l) ++ rest) (10 * k) (vehicle_bytes (get_or l i unused))) (sym long)
    ∙ put-place 24 (take i l) (get_or l i unused) rest (omega arith))

-- ---- the figures behind the places

pub rest_put : (places : List ℕ) (force : ℕ) (counts : Counts) (a b : Desk) → length places ≡ 240
    → pasted (pasted (pasted (set (places ++ replicate 41 0) 240 force) 241 (counts_bytes counts)) 253 (desk_bytes a)) 267 (desk_bytes b)
    ≡ places ++ (force ∷ (counts_bytes counts ++ (desk_bytes a ++ desk_bytes b)))
unfolding counts_bytes desk_bytes
rest_put places force counts a b long =
    let behind : (l : List ℕ) (k : ℕ) (bytes : List ℕ) → pasted (places ++ l) (240 + k) bytes ≡ places ++ pasted l k bytes = λ l k bytes. paste_behind places l 240 k bytes long in
    let zeros : List ℕ = replicate 40 0 in
    let first : set (places ++ replicate 41 0) 240 force ≡ places ++ force ∷ zeros = set_at places 0 zeros force 240 long in
    rw (first, behind (force ∷ zeros) 1 (counts_bytes counts))
    (ap (λ t. pasted t 267 (desk_bytes b)) (behind _ 13 (desk_bytes a)) ∙ behind _ 27 (desk_bytes b))
