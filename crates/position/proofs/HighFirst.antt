-- Numbers in bytes, high byte first: what std reads and writes is what the definitions say.
-- Assumes nothing.
use Prim.Native.Nat.{ℕ, ◌+◌, ◌<◌, ◌≤◌}
use Rattle.std.proofs.Common.{Option, Some}
use Rattle.std.specs.Array.{IsFirstChunk}
use Rattle.std.specs.Int.{from_be_bytes, from_bool, to_be_bytes, w16, w32}
use Rattle.std.specs.Option.{MatchOption}
use Rattle.working.specs.Positions.{byte_at, four_at, in_four, in_two, two_at}
use Rattle.working.specs.WellMade.{one_if}
use denote.Ref.{Bor}
use lib.ListN.{drop, get_or, length, take}
use lib.Seq.{get_or-drop, get_or-take, take-take}
use mathlib.Core.Bool.{Bool, false, true}
use mathlib.Core.List.{List}
use mathlib.Core.Path.{ap, refl, ◌∙◌, ◌≡◌}
use native.Mathlib.Nat.{add-zero, add_assoc}
use native.Mathlib.Omega.{arith}

-- ---- read where they stand

-- byte i of n bytes, the first of them at a place
part : (bytes : List ℕ) (at n i : ℕ) → i < n → get_or (take n (drop at bytes)) i 0 ≡ byte_at bytes (at + i)
part bytes at n i less = get_or-take n (drop at bytes) i 0 less ∙ get_or-drop at bytes i 0

pub two_there : (bytes : List ℕ) (at : ℕ) → from_be_bytes w16 (take 2 (drop at bytes)) ≡ two_at bytes at
two_there bytes at = rw (part bytes at 2 0 (omega arith), part bytes at 2 1 (omega arith), add-zero at) refl

pub four_there : (bytes : List ℕ) (at : ℕ) → from_be_bytes w32 (take 4 (drop at bytes)) ≡ four_at bytes at
four_there bytes at =
    let last : byte_at bytes (at + 2 + 1) ≡ byte_at bytes (at + 3) = ap (byte_at bytes) (add_assoc at 2 1) in
    rw (part bytes at 4 0 (omega arith), part bytes at 4 1 (omega arith), part bytes at 4 2 (omega arith), part bytes at 4 3 (omega arith), add-zero at)
    (omega (arith, last))

-- what std's `first_chunk` finds: the first n of the k bytes from a place on
pub chunk_there : (bytes : List ℕ) (at k n : ℕ) (chunk : Option (Bor (List ℕ))) (there : Bor (List ℕ)) → n ≤ k
    → MatchOption chunk (length (take k (drop at bytes)) < n) (λ y. IsFirstChunk (take k (drop at bytes)) y.now n) → chunk ≡ Some there → there.now ≡ take n (drop at bytes)
chunk_there bytes at k n chunk there within h is =
    let front : IsFirstChunk (take k (drop at bytes)) there.now n = rw is at h in
    front.same ∙ take-take n k (drop at bytes) within

-- ---- written

pub two_bytes : (n : ℕ) → n < 65536 → to_be_bytes w16 n ≡ in_two n
two_bytes n fits = search arith

pub four_bytes : (n : ℕ) → n < 4294967296 → to_be_bytes w32 n ≡ in_four n
four_bytes n fits = search arith

pub flag_byte : (b : Bool) → from_bool b ≡ one_if b
flag_byte true = refl
flag_byte false = refl
