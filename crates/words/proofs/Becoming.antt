-- One change of the words after another: what the second makes of the words that the first left, it makes of them before the first.
-- Assumes nothing.
use Prim.Native.Nat.{ℕ, ◌≤◌}
use Rattle.words.specs.Words.{Becomes, DeskBecomes, OwnWords, VehiclesBecome, section_in, start_in, words_of}
use Rattle.working.proofs.invariant.Made.{vehicles_with}
use Rattle.working.specs.Sections.{desk_of, vehicles_of, with_desk, with_vehicles}
use Rattle.working.specs.declared.Desk.{Desk}
use Rattle.working.specs.declared.Section.{Section}
use Rattle.working.specs.declared.Station.TheVariants.{A, B}
use Rattle.working.specs.declared.Station.{Station}
use Rattle.working.specs.declared.Vehicle.{Vehicle}
use lib.ListN.{length}
use mathlib.Core.List.{List}
use mathlib.Core.Path.{ap, ap₂, refl, subst, sym, ◌∙◌, ◌≡◌}
use native.Mathlib.Omega.{arith}

pub becomes_then : {w u after : List ℕ} {s t : Section} {i j : ℕ} → Becomes w u s i → Becomes u after t j → (t.len ≤ 24 → s.len ≤ 24) → Becomes w after t j
becomes_then one two fits =
    record { section = two.section; start = two.start; own = λ few e. two.own few (one.own (fits few) e ∙ sym (ap₂ words_of one.section one.start)) }

-- the section and the start may be said otherwise
pub becomes_as : {w after : List ℕ} {s t : Section} {i j : ℕ} → Becomes w after s i → s ≡ t → i ≡ j → Becomes w after t j
becomes_as {w} {after} {s} {t} {i} {j} b e f = subst (λ k. Becomes w after t k) f (subst (λ z. Becomes w after z i) e b)

-- a desk twice
desk_twice : (s : Section) (x : Station) (d : Desk) (g : Desk → Desk) → with_desk (with_desk s x d) x (g (desk_of (with_desk s x d) x)) ≡ with_desk s x (g d)
desk_twice s A d g = refl
desk_twice s B d g = refl

pub desk-length : (s : Section) (x : Station) (d : Desk) → (with_desk s x d).len ≡ s.len
desk-length s A d = refl
desk-length s B d = refl

pub desk_then : {w u after : List ℕ} (x : Station) (f g : Desk → Desk) → DeskBecomes w u x f → DeskBecomes u after x g → DeskBecomes w after x (λ d. g (f d))
desk_then {w} {u} {after} x f g one two =
    let s = section_in w in
    let t = section_in u in
    let same : (with_desk t x (g (desk_of t x))).len ≡ (with_desk s x (f (desk_of s x))).len = desk-length t x (g (desk_of t x)) ∙ ap (λ z. z.len) one.section in
    becomes_as (becomes_then one two (λ few. omega arith)) (ap (λ z. with_desk z x (g (desk_of z x))) one.section ∙ desk_twice s x (f (desk_of s x)) g) one.start

-- the vehicles twice, as long as they fit
pub vehicles_then : {w u after : List ℕ} (f g : List Vehicle → List Vehicle) (i j : ℕ → ℕ) → length (f (vehicles_of (section_in w))) ≤ 24
    → VehiclesBecome w u f i → VehiclesBecome u after g j → VehiclesBecome w after (λ l. g (f l)) (λ start. j (i start))
vehicles_then {w} {u} {after} f g i j fits one two =
    let s = section_in w in
    let l = f (vehicles_of s) in
    becomes_as (becomes_then one two (λ few. fits))
    (ap (λ z. with_vehicles z (g (vehicles_of z))) one.section ∙ ap (λ t. with_vehicles s (g t)) (vehicles_with 24 l fits)) (ap j one.start)

-- and to words that are a section's own
pub own_then : {w after : List ℕ} {s t : Section} → OwnWords w s → Becomes w after t (start_in w) → t.len ≤ 24 → OwnWords after t
own_then {w} {after} {s} {t} own b few = record {
  section = b.section;
  start = b.start ∙ own.start;
  words = b.own few (own.words ∙ sym (ap₂ words_of own.section own.start)) ∙ ap (words_of t) own.start;
  fits = few;
}
