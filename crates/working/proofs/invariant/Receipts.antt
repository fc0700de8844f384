-- What a receipt does to the desk, by what the vehicle left on: the figures stay in range, and the invariant is kept.
-- Assumes nothing.
use Prim.Native.Nat.{ℕ, ◌-◌, ◌≤◌}
use Rattle.std.specs.Prelude.{None}
use Rattle.working.proofs.invariant.Invariant.{Halves, kept-own, kept_far, kept_guest}
use Rattle.working.proofs.laws.Clauses.{Bounds, MovementMade}
use Rattle.working.proofs.laws.Tests.{both, either_most}
use Rattle.working.specs.Effects.{arrive_desk, granted_in, if_any, other_desk, own_desk, replied}
use Rattle.working.specs.Reasons.{may_enter}
use Rattle.working.specs.Sections.{number_at, with_figures}
use Rattle.working.specs.WellMade.{is_from, is_open_or_through, not_later}
use Rattle.working.specs.declared.Clears.{Clears}
use Rattle.working.specs.declared.Desk.{Desk}
use Rattle.working.specs.declared.Movement.TheVariants.{LastTrain, Open, Return, Through, Train}
use Rattle.working.specs.declared.Movement.{Movement}
use Rattle.working.specs.declared.Station.{Station}
use Rattle.working.specs.declared.Vehicle.{Vehicle}
use lib.Dec.{eqb, ltb}
use mathlib.Core.Bool.{Bool, cond, false, false≢true, not, true, ◌&&◌, ◌||◌}
use mathlib.Core.List.{List, [], ◌++◌, ◌∷◌}
use mathlib.Core.Path.{refl, ◌≡◌}
use native.Mathlib.Omega.{arith}

-- ---- the desk's figures

-- the desk d becomes e and sent becomes n
pub record Arrives (d e : Desk) (n : ℕ) : Type 0 where
  pub last : e.last ≡ d.last
  pub sent : e.sent ≡ n
  pub bounds : Bounds e
  pub interval : not_later e.interval e.clock ≡ true

-- the desk after a receipt, with what tells the kinds apart
abbrev arrival : Desk → ℕ → ℕ → Bool → ℕ → Clears → Desk
arrival d t sent out guest clears = with_figures t d.last sent None out guest clears d

arrived : (d : Desk) (t n : ℕ) (out : Bool) (guest : ℕ) (clears : Clears) → Bounds (arrival d t n out guest clears) → Arrives d (arrival d t n out guest clears) n
arrived d t n out guest clears b = record { last = refl; sent = refl; bounds = b; interval = refl }

pub arrives_own : (d : Desk) (t : ℕ) (m : Movement) → is_open_or_through m ≡ true → Bounds d → Arrives d (own_desk d t m) (d.sent - 1)
arrives_own d t (Open a) is b = arrived d t (d.sent - 1) _ _ _ (omega arith)
arrives_own d t Through is b = arrived d t (d.sent - 1) _ _ _ (omega arith)
arrives_own d t (Return a g) is b = absurd (false≢true is)
arrives_own d t (Train a g) is b = absurd (false≢true is)
arrives_own d t (LastTrain a g u) is b = absurd (false≢true is)

-- an enquiry takes the place of an older one where there is one
asked_most : (d : Desk) (a : ℕ) → Bounds d → a ≤ 8 → if_any a d.clears.asked ≤ 8
asked_most d a b few = let enquired : d.clears.asked ≤ 8 = omega arith in either_most (ltb 0 a) few enquired

pub arrives_far : (d : Desk) (t class : ℕ) (m : Movement) → MovementMade m class → Bounds d → Arrives d (other_desk d t class m) 0
arrives_far d t class (Open a) made b = arrived d t 0 _ _ _ (omega arith)
arrives_far d t class Through made b = arrived d t 0 _ _ _ (omega arith)
arrives_far d t class (Return a g) made b = arrived d t 0 _ _ _ (omega (arith, asked_most d a b made.asked))
arrives_far d t class (Train a g) made b = arrived d t 0 _ _ _ (omega (arith, asked_most d a b made.asked))
arrives_far d t class (LastTrain a g u) made b = arrived d t 0 _ _ _ (omega (arith, asked_most d a b made.0.asked))

-- the reply that the vehicle brings, and what waits
granted_most : (m : Movement) (class : ℕ) → MovementMade m class → granted_in m ≤ 8
granted_most (Open a) class made = made.granted
granted_most Through class made = made.granted
granted_most (Return a g) class made = made.granted
granted_most (Train a g) class made = made.granted
granted_most (LastTrain a g u) class made = made.0.granted

pub arrives_replied : (d e : Desk) (n : ℕ) (m : Movement) (class : ℕ) → MovementMade m class → Arrives d e n → Arrives d (replied (granted_in m) e) n
arrives_replied d e n m class made a =
    let b = a.bounds in
    let owes = eqb e.clears.owes 0 in
    let holds : e.clears.holds ≤ 8 = omega arith in
    let waiting : if_any (granted_in m) e.waiting ≤ 8 = either_most (ltb 0 (granted_in m)) (granted_most m class made) (omega arith) in
    let held = either_most (ltb 0 (if_any (granted_in m) e.waiting)) waiting holds in
    let none : 0 ≤ 8 = omega arith in
    record { last = a.last; sent = a.sent; bounds = omega (arith, either_most owes held holds, either_most owes none waiting); interval = a.interval }

-- where it brings none and nothing waits, a receipt has nothing more to do
pub nothing_replied : (granted : ℕ) (d : Desk) → granted ≡ 0 → d.waiting ≡ 0 → replied granted d ≡ d
nothing_replied granted d none empty = by (eqb d.clears.owes 0) refl
  where
    waits : if_any granted d.waiting ≡ 0
    waits = rw (none, empty)

    by : (b : Bool) → eqb d.clears.owes 0 ≡ b → replied granted d ≡ d
    by true is = rw (is, waits, ← empty)
    by false is = rw (is, waits, ← empty)

-- ---- the invariant

pub keeps-own : (d o : Desk) (t : ℕ) (m : Movement) (mine theirs : List Movement) → is_open_or_through m ≡ true → Halves d o (m ∷ mine) theirs
    → Halves (replied (granted_in m) (own_desk d t m)) o mine theirs
keeps-own d o t (Open a) mine theirs is h = kept-own d o t (d.sent - 1) (Open a) mine theirs h is
keeps-own d o t Through mine theirs is h = kept-own d o t (d.sent - 1) Through mine theirs h is
keeps-own d o t (Return a g) mine theirs is h = absurd (false≢true is)
keeps-own d o t (Train a g) mine theirs is h = absurd (false≢true is)
keeps-own d o t (LastTrain a g u) mine theirs is h = absurd (false≢true is)

pub keeps_far : (d o : Desk) (t class : ℕ) (m : Movement) (l : List Movement) → MovementMade m class → Halves d o [] (l ++ m ∷ [])
    → Halves (replied (granted_in m) (other_desk d t class m)) o [] l
keeps_far d o t class (Open a) l made h = kept_guest d o t class a l h made.least
keeps_far d o t class Through l made h = kept_far d o t class Through l h refl
keeps_far d o t class (Return a g) l made h = kept_far d o t class (Return a g) l h refl
keeps_far d o t class (Train a g) l made h = kept_far d o t class (Train a g) l h refl
keeps_far d o t class (LastTrain a g u) l made h = kept_far d o t class (LastTrain a g u) l h refl

-- ---- whose it is

-- a vehicle v that enters at x is x's own OPEN or THROUGH, or the other's
pub data Receipt (x : Station) (d : Desk) (t : ℕ) (v : Vehicle) : Desk → Type 0 where
  of_own : is_from (number_at x) v ≡ true → is_open_or_through v.movement ≡ true → Receipt x d t v (replied (granted_in v.movement) (own_desk d t v.movement))
  of_other : is_from (number_at x) v ≡ false → Receipt x d t v (replied (granted_in v.movement) (other_desk d t v.class v.movement))

pub receipt : (x : Station) (d : Desk) (t : ℕ) (v : Vehicle) → may_enter x v ≡ true → Receipt x d t v (arrive_desk x d t v)
unfolding arrive_desk
receipt x d t v = by (is_from (number_at x) v) refl
  where
    back : Bool
    back = not v.met || eqb v.heading (number_at x)

    by : (b : Bool) → is_from (number_at x) v ≡ b → cond b (is_open_or_through v.movement && back) (eqb v.heading (number_at x)) ≡ true
        → Receipt x d t v (replied (granted_in v.movement) (cond b (own_desk d t v.movement) (other_desk d t v.class v.movement)))
    by true is may = of_own is (both (is_open_or_through v.movement) back may).0
    by false is may = of_other is
