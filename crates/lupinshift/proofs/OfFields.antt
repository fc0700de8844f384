-- What the contracts of specs/Fields.antt say of entries that are written out, in the bytes and numbers of docs/FORMAT.md: whoever is handed the contract of such a call knows
-- its answer, and every number or byte that it leaves.
-- Assumes nothing.
use Prim.Native.Nat.{ℕ, ◌+◌}
use Rattle.lupinshift.specs.Fields.{ReadsEntry, WritesEntry, entry_from, fields_read, number_read}
use Rattle.std.specs.Prelude.{Result}
use Rattle.working.proofs.examples.Computing.{reading_computes}
use Rattle.working.specs.Entries.{bytes_of, judge, length_of, log_after, log_as, pasted, read_at, written_as, written_at}
use Rattle.working.specs.Refusals.{refusal_in}
use Rattle.working.specs.declared.Refusal.{Refusal}
use Rattle.working.specs.declared.Table.TheVariants.{SingleLine}
use lib.Dec.{leb, ltb}
use lib.ListN.{drop, length}
use mathlib.Core.Bool.{cond}
use mathlib.Core.List.{List, [], ◌++◌, ◌∷◌}
use mathlib.Core.Path.{refl, ◌∙◌, ◌≡◌}

-- ---- reading

-- some bytes read where so many numbers are lent: the answer, and the numbers in front of those that keep their values
record Reads (bytes : List ℕ) (lent number : ℕ) (given : List ℕ) : Type 0 where
  reads : (fields after : List ℕ) (answer : ℕ) → length fields ≡ lent → ReadsEntry bytes fields answer after → (answer ≡ number) × (after ≡ given ++ drop (length given) fields)

read : {bytes given : List ℕ} {lent number : ℕ} → cond (ltb lent 10) 23 (number_read (read_at SingleLine bytes 0)) ≡ number
    → ((fields : List ℕ) → cond (ltb lent 10) fields (fields_read (read_at SingleLine bytes 0) fields) ≡ given ++ drop (length given) fields) → Reads bytes lent number given
read answers leaves = record { reads = λ fields after answer size r. (rw size at r.answered ∙ answers, rw size at r.left ∙ leaves fields) }

-- an OPEN with a byte behind it, a RETURN that asks and grants, a RECEIVE
entries-read : Reads (0x3F ∷ 0x02 ∷ 0x01 ∷ 0x00 ∷ 0x0A ∷ 0x03 ∷ 0x05 ∷ 0x02 ∷ 0xFF ∷ []) 12 0 (63 ∷ 2 ∷ 1 ∷ 10 ∷ 3 ∷ 5 ∷ 2 ∷ 0 ∷ 0 ∷ 0 ∷ [])
    × Reads (0x67 ∷ 0x04 ∷ 0x02 ∷ 0x01 ∷ 0x02 ∷ 0x03 ∷ 0x04 ∷ []) 10 0 (103 ∷ 4 ∷ 2 ∷ 258 ∷ 0 ∷ 0 ∷ 3 ∷ 4 ∷ 0 ∷ 0 ∷ [])
    × Reads (0x87 ∷ 0x06 ∷ 0x01 ∷ 0x00 ∷ 0x5F ∷ 0x02 ∷ 0x01 ∷ 0x03 ∷ []) 10 0 (135 ∷ 6 ∷ 1 ∷ 95 ∷ 0 ∷ 0 ∷ 0 ∷ 0 ∷ 2 ∷ 259 ∷ [])
unfolding reading_computes
entries-read = (read refl (λ fields. refl), read refl (λ fields. refl), read refl (λ fields. refl))

-- no bytes, an OPEN that is cut, kind 10, BEGIN with a station, an OPEN in view 4; nine numbers, whatever the bytes
none_read : Reads [] 10 1 []
    × Reads (0x3F ∷ 0x02 ∷ 0x01 ∷ []) 10 1 []
    × Reads (0x01 ∷ 0x0A ∷ []) 10 2 []
    × Reads (0x03 ∷ 0x01 ∷ 0x01 ∷ []) 10 3 []
    × Reads (0x3F ∷ 0x02 ∷ 0x01 ∷ 0x00 ∷ 0x0A ∷ 0x04 ∷ 0x05 ∷ 0x02 ∷ []) 10 4 []
    × ((bytes : List ℕ) → Reads bytes 9 23 [])
unfolding reading_computes
none_read = (
  read refl (λ fields. refl),
  read refl (λ fields. refl),
  read refl (λ fields. refl),
  read refl (λ fields. refl),
  read refl (λ fields. refl),
  λ bytes. read refl (λ fields. refl),
)

-- ---- writing

-- some numbers written where so many bytes are lent: the answer, and the bytes in front of those that keep their values
record Writes (fields : List ℕ) (lent number : ℕ) (given : List ℕ) : Type 0 where
  writes : (bytes after : List ℕ) (answer : ℕ) → length bytes ≡ lent → WritesEntry fields bytes answer after → (answer ≡ number) × (after ≡ given ++ drop (length given) bytes)

abbrev written_in : List ℕ → ℕ → Result ℕ Refusal
written_in fields lent = let e = entry_from fields in written_as (judge SingleLine e) (leb (0 + length_of e.map) lent) (0 + length_of e.map)

write : {fields given : List ℕ} {lent number : ℕ} → cond (ltb (length fields) 10) 23 (refusal_in (written_in fields lent)) ≡ number
    → ((bytes : List ℕ) → cond (ltb (length fields) 10) bytes (log_as (written_in fields lent) bytes (pasted bytes 0 (bytes_of (entry_from fields)))) ≡ given ++ drop (length given) bytes)
    → Writes fields lent number given
unfolding log_after written_at
write answers leaves = record { writes = λ bytes after answer size w. (rw size at w.answered ∙ answers, rw size at w.left ∙ leaves bytes) }

-- an OPEN, with a number behind the ten, in just its bytes; a RETURN with two bytes behind it, and a RECEIVE with one
entries_written : Writes (63 ∷ 2 ∷ 1 ∷ 10 ∷ 3 ∷ 5 ∷ 2 ∷ 0 ∷ 0 ∷ 0 ∷ 777 ∷ []) 8 0 (0x3F ∷ 0x02 ∷ 0x01 ∷ 0x00 ∷ 0x0A ∷ 0x03 ∷ 0x05 ∷ 0x02 ∷ [])
    × Writes (103 ∷ 4 ∷ 2 ∷ 258 ∷ 0 ∷ 0 ∷ 3 ∷ 4 ∷ 0 ∷ 0 ∷ []) 9 0 (0x67 ∷ 0x04 ∷ 0x02 ∷ 0x01 ∷ 0x02 ∷ 0x03 ∷ 0x04 ∷ [])
    × Writes (135 ∷ 6 ∷ 1 ∷ 95 ∷ 0 ∷ 0 ∷ 0 ∷ 0 ∷ 2 ∷ 259 ∷ []) 9 0 (0x87 ∷ 0x06 ∷ 0x01 ∷ 0x00 ∷ 0x5F ∷ 0x02 ∷ 0x01 ∷ 0x03 ∷ [])
unfolding bytes_of entry_from reading_computes
entries_written = (write refl (λ bytes. refl), write refl (λ bytes. refl), write refl (λ bytes. refl))

-- an OPEN in a byte too few; kind 10; BEGIN with the map of a station; an OPEN in view 4; BEGIN with a time that its map has not; nine numbers
none_written : Writes (63 ∷ 2 ∷ 1 ∷ 10 ∷ 3 ∷ 5 ∷ 2 ∷ 0 ∷ 0 ∷ 0 ∷ []) 7 23 []
    × Writes (1 ∷ 10 ∷ 0 ∷ 0 ∷ 0 ∷ 0 ∷ 0 ∷ 0 ∷ 0 ∷ 0 ∷ []) 8 2 []
    × Writes (3 ∷ 1 ∷ 1 ∷ 0 ∷ 0 ∷ 0 ∷ 0 ∷ 0 ∷ 0 ∷ 0 ∷ []) 8 3 []
    × Writes (63 ∷ 2 ∷ 1 ∷ 10 ∷ 4 ∷ 5 ∷ 2 ∷ 0 ∷ 0 ∷ 0 ∷ []) 8 4 []
    × Writes (1 ∷ 1 ∷ 0 ∷ 10 ∷ 0 ∷ 0 ∷ 0 ∷ 0 ∷ 0 ∷ 0 ∷ []) 8 4 []
    × Writes (63 ∷ 2 ∷ 1 ∷ 10 ∷ 3 ∷ 5 ∷ 2 ∷ 0 ∷ 0 ∷ []) 8 23 []
unfolding bytes_of entry_from reading_computes
none_written = (
  write refl (λ bytes. refl),
  write refl (λ bytes. refl),
  write refl (λ bytes. refl),
  write refl (λ bytes. refl),
  write refl (λ bytes. refl),
  write refl (λ bytes. refl),
)

-- a number of 256 more than the field is to be, in each field of one byte: map, kind, station, view, class, asked, granted, sender
above_a_byte : Writes (319 ∷ 2 ∷ 1 ∷ 10 ∷ 3 ∷ 5 ∷ 2 ∷ 0 ∷ 0 ∷ 0 ∷ []) 8 3 []
    × Writes (63 ∷ 258 ∷ 1 ∷ 10 ∷ 3 ∷ 5 ∷ 2 ∷ 0 ∷ 0 ∷ 0 ∷ []) 8 2 []
    × Writes (63 ∷ 2 ∷ 257 ∷ 10 ∷ 3 ∷ 5 ∷ 2 ∷ 0 ∷ 0 ∷ 0 ∷ []) 8 4 []
    × Writes (63 ∷ 2 ∷ 1 ∷ 10 ∷ 259 ∷ 5 ∷ 2 ∷ 0 ∷ 0 ∷ 0 ∷ []) 8 4 []
    × Writes (63 ∷ 2 ∷ 1 ∷ 10 ∷ 3 ∷ 261 ∷ 2 ∷ 0 ∷ 0 ∷ 0 ∷ []) 8 4 []
    × Writes (63 ∷ 2 ∷ 1 ∷ 10 ∷ 3 ∷ 5 ∷ 258 ∷ 0 ∷ 0 ∷ 0 ∷ []) 8 4 []
    × Writes (103 ∷ 4 ∷ 2 ∷ 258 ∷ 0 ∷ 0 ∷ 3 ∷ 260 ∷ 0 ∷ 0 ∷ []) 8 4 []
    × Writes (135 ∷ 6 ∷ 1 ∷ 95 ∷ 0 ∷ 0 ∷ 0 ∷ 0 ∷ 258 ∷ 259 ∷ []) 8 4 []
unfolding bytes_of entry_from reading_computes
above_a_byte = (
  write refl (λ bytes. refl),
  write refl (λ bytes. refl),
  write refl (λ bytes. refl),
  write refl (λ bytes. refl),
  write refl (λ bytes. refl),
  write refl (λ bytes. refl),
  write refl (λ bytes. refl),
  write refl (λ bytes. refl),
)
