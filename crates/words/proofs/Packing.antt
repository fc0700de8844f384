-- A vehicle's two words, each figure in bytes of its own: a figure that fits its bytes comes back.
-- Assumes nothing.
use Prim.Native.Nat.{ℕ, ◌%◌, ◌*◌, ◌+◌, ◌/◌, ◌<◌, ◌≤◌}
use Rattle.words.specs.Words.{first_word, movement_in, vehicle_in}
use Rattle.working.specs.WellMade.{one_if}
use Rattle.working.specs.declared.Vehicle.{Vehicle}
use lib.Dec.{eqb}
use mathlib.Core.Bool.{Bool, false, true}
use mathlib.Core.Path.{refl, ◌≡◌}
use native.Mathlib.Nat.{mod-eq_of_lt}
use native.Mathlib.Omega.{arith}

pub one_back_lem : (b : Bool) → eqb (one_if b) 1 ≡ b
one_back_lem true = refl
one_back_lem false = refl

one_most : (b : Bool) → one_if b ≤ 1
one_most true = omega arith
one_most false = omega arith

-- a figure over those above it, counted by 256
low : (n above : ℕ) → n < 256 → (n + above * 256) % 256 ≡ n
low n above h = omega arith

pub vehicle_back : (v : Vehicle) (second : ℕ) → movement_in second ≡ v.movement → v.form < 65536 → v.sender < 256 → v.heading < 256 → v.class < 256
    → vehicle_in (first_word v) second ≡ v
vehicle_back v second moved f s h k =
    let one = one_most v.met in
    let form : first_word v % 65536 ≡ v.form = omega arith in
    let sender : first_word v / 65536 ≡ v.sender + (v.heading + one_if v.met * 256 + v.class * 65536) * 256 = omega arith in
    let heading : first_word v / 16777216 ≡ v.heading + (one_if v.met + v.class * 256) * 256 = omega arith in
    let met : first_word v / 4294967296 ≡ one_if v.met + v.class * 256 = omega arith in
    let class : first_word v / 1099511627776 ≡ v.class = omega arith in
    rw (form, sender, heading, met, class, low v.sender _ s, low v.heading _ h, low (one_if v.met) _ (omega arith), mod-eq_of_lt k, one_back_lem v.met, moved)
