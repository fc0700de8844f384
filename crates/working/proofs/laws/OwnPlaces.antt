-- A well-made section is its own vehicles padded: the places past those in use are blank, and a blank place is the unused one. And vehicles stored one behind another are
-- those places.
-- Assumes nothing.
use Prim.Native.Nat.{suc, zero, ℕ, ◌+◌, ◌<◌}
use Rattle.working.proofs.invariant.Made.{length_vehicles}
use Rattle.working.proofs.laws.Clauses.{blank-made, section-made}
use Rattle.working.proofs.laws.Tests.{both}
use Rattle.working.specs.Sections.{pad_to, pad_with, unused, vehicles_of, with_vehicles}
use Rattle.working.specs.WellMade.{all, is_blank, well_made}
use Rattle.working.specs.declared.Section.{Section}
use Rattle.working.specs.declared.Vehicle.{Vehicle}
use lib.ListN.{drop, get_or, length, set, take}
use lib.Seq.{length-take-le, take-suc}
use mathlib.Core.Bool.{true}
use mathlib.Core.List.{List, [], ◌++◌, ◌∷◌}
use mathlib.Core.Path.{ap, ap₂, refl, sym, ◌∙◌, ◌≡◌}
use native.Mathlib.Numerals.{add-one}
use native.Mathlib.Omega.{arith}

-- each is this one
abbrev pub Each : {T : Type 0} → T → List T → Type 0
Each blank [] = Unit {0}
Each blank (v ∷ l) = (v ≡ blank) × Each blank l

-- n places of which all past the first k are blank
pub padded : {T : Type 0} (blank : T) (n k : ℕ) (l : List T) → length l ≡ n → Each blank (drop k l) → pad_with blank n (take k l) ≡ l
unfolding pad_with
padded blank zero k [] long rest = refl
padded blank zero k (v ∷ l) long rest = absurd (omega arith)
padded blank (suc n) k [] long rest = absurd (omega arith)
padded blank (suc n) zero (v ∷ l) long rest = ap₂ ◌∷◌ (sym rest.0) (padded blank n zero l (omega arith) rest.1)
padded blank (suc n) (suc k) (v ∷ l) long rest = ap (v ∷◌) (padded blank n k l (omega arith) rest)

each-unused : (l : List Vehicle) → all is_blank l ≡ true → Each unused l
each-unused [] h = tt
each-unused (v ∷ l) h =
    let p = both (is_blank v) (all is_blank l) h in
    let b = blank-made v p.0 in
    (rw (b.movement, b.sender, b.form, b.heading, b.met, b.class), each-unused l p.1)

pub own_vehicles : (s : Section) → length s.vehicles ≡ 24 → well_made s ≡ true → with_vehicles s (vehicles_of s) ≡ s
own_vehicles s long well =
    rw (padded unused 24 s.len s.vehicles long (each-unused (drop s.len s.vehicles) (section-made s well).blank), length_vehicles s long well)

-- the places of a list of vehicles, read one by one: with the next one stored, one more of them is there
pad_snoc : (n : ℕ) (l : List Vehicle) (v : Vehicle) → set (pad_to n l) (length l) v ≡ pad_to n (l ++ v ∷ [])
unfolding pad_with
pad_snoc zero l v = refl
pad_snoc (suc n) [] v = refl
pad_snoc (suc n) (u ∷ l) v = ap (λ (t : List Vehicle). u ∷ t) (pad_snoc n l v)

pub place_next : (l : List Vehicle) (i : ℕ) → i < length l → set (pad_to 24 (take i l)) i (get_or l i unused) ≡ pad_to 24 (take (i + 1) l)
place_next l i less =
    rw (add-one i, take-suc l i unused less)
    (ap (λ k. set (pad_to 24 (take i l)) k (get_or l i unused)) (sym (length-take-le i l (omega arith))) ∙ pad_snoc 24 (take i l) (get_or l i unused))
