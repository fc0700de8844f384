-- A number in so many bytes, high byte first, and back: each is the other's inverse, at every width.
-- The last byte is the remainder by 256, and the bytes before it are those of the quotient.
-- Assumes nothing.
use Prim.Native.Nat.{suc, zero, ℕ, ◌%◌, ◌*◌, ◌+◌, ◌/◌, ◌<◌, ◌^◌, ◌≤◌}
use Rattle.working.specs.Entries.{AreBytes, high_first, onward, value_of}
use lib.ListN.{drop, get_or, length, length-append, take}
use lib.Seq.{get_or-drop, take-suc}
use mathlib.Core.List.{List, [], ◌++◌, ◌∷◌}
use mathlib.Core.Path.{ap, refl, ◌∙◌, ◌≡◌}
use native.Mathlib.Omega.{arith}

pub onward-append : (n : ℕ) (a b : List ℕ) → onward n (a ++ b) ≡ onward (onward n a) b
onward-append n [] b = refl
onward-append n (x ∷ a) b = onward-append (n * 256 + x) a b

pub length_high : (width n : ℕ) → length (high_first width n) ≡ width
length_high zero n = refl
length_high (suc width) n = simp (length-append, length_high width (n / 256)) (omega arith)

pub value_high : (width n : ℕ) → n < 256 ^ width → value_of (high_first width n) ≡ n
value_high zero n h = omega arith
value_high (suc width) n h =
    let e = value_high width (n / 256) (omega arith) in
    simp (onward-append 0 (high_first width (n / 256)) (n % 256 ∷ []), e) (omega arith)

pub high_value : (bytes : List ℕ) → AreBytes bytes → (width : ℕ) → width ≤ length bytes
    → high_first width (value_of (take width bytes)) ≡ take width bytes
high_value bytes are zero h = refl
high_value bytes are (suc width) h =
    let before : ℕ = value_of (take width bytes) in
    let last : ℕ = get_or bytes width 0 in
    let small : last < 256 = are width in
    let split : take (suc width) bytes ≡ take width bytes ++ last ∷ [] = take-suc bytes width 0 h in
    let value : value_of (take (suc width) bytes) ≡ before * 256 + last = ap value_of split ∙ onward-append 0 (take width bytes) (last ∷ []) in
    let quotient : value_of (take (suc width) bytes) / 256 ≡ before = omega arith in
    let remainder : value_of (take (suc width) bytes) % 256 ≡ last = omega arith in
    rw (quotient, remainder, high_value bytes are width (omega arith), ← split)

-- the bytes behind a place are bytes
pub are_dropped : (n : ℕ) (bytes : List ℕ) → AreBytes bytes → AreBytes (drop n bytes)
are_dropped n bytes are i = rw (get_or-drop n bytes i 0) (are (n + i))
