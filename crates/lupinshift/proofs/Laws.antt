-- A buffer with the room of a listing, filled once from the start, holds the listing: `lists`.
-- Assumes nothing.
use Prim.Native.Nat.{ℕ, ◌<◌, ◌≤◌}
use Rattle.lupinshift.specs.Answers.{Gives, Lists}
use Rattle.step.proofs.Room.{listing-fits}
use Rattle.step.proofs.Whole.{room_for_all}
use Rattle.step.specs.ListingLines.{FillsIn, Listing, begun, largest_count}
use Rattle.step.specs.Listings.{listing_room}
use Rattle.working.specs.Entries.{pasted}
use Rattle.working.specs.declared.Section.{Section}
use Rattle.working.specs.declared.Table.TheVariants.{SingleLine}
use borrow.Author.Tests.{le-ltb}
use lib.ListN.{length}
use mathlib.Core.Bool.{Bool, false}
use mathlib.Core.List.{List}
use mathlib.Core.Path.{ap, ◌∙◌, ◌≡◌}
use native.Mathlib.Omega.{arith}

-- a call that is not refused
pub gives : {refused : Bool} {given buffer after : List ℕ} {r : ℕ} → refused ≡ false → r ≡ length given → after ≡ pasted buffer 0 given → Gives refused given buffer r after
gives e count left = record { count = rw e count; left = rw e left }

-- a buffer that was filled once, from the start, and has the room
pub lists : {log out after : List ℕ} {count : ℕ} {l : Listing Section} → length log < largest_count → listing_room (length log) ≤ length out
    → FillsIn SingleLine log (begun SingleLine log) out count l after → Lists log out count after
lists {log} {out} short room f =
    let whole = (room_for_all SingleLine log (length out) short (omega (arith, listing-fits log))).0 in
    gives (le-ltb _ _ room) (f.counted ∙ ap length whole) (f.left ∙ ap (pasted out 0) whole)
