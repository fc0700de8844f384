-- T-06: an entry written from its fields into lent bytes, and one read into fields. The map and the fields of an entry as ten numbers of 16 bits, in the order map, kind,
-- station, time, view, class, asked, granted, sender, number.
use Rattle.std.specs.Prelude.{List, cond, get_or, length, ltb, min, ℕ, ◌∷◌, ◌≡◌}
use Rattle.working.specs.Entries.{log_after, pasted, read_at, values_of, written_at}
use Rattle.working.specs.Refusals.{number_of, refusal_in}
use Rattle.working.specs.declared.Entry.{Entry}
use Rattle.working.specs.declared.Read.TheVariants.{End, Refused, Whole}
use Rattle.working.specs.declared.Read.{Read}
use Rattle.working.specs.declared.Refusal.TheVariants.{BufferTooShort, EndsInside}
use Rattle.working.specs.declared.Table.TheVariants.{SingleLine}

abbrev pub field_count : ℕ
field_count = 10

abbrev pub fields_of : Entry → List ℕ
fields_of e = e.map ∷ values_of e

-- a field of one byte; a number that is none is taken for 255, which no field of one byte allows
abbrev pub byte_field : List ℕ → ℕ → ℕ
byte_field fields i = min (get_or fields i 0) 255

-- the entry that ten numbers say
unfoldable pub entry_from : List ℕ → Entry
entry_from fields = record {
  map = byte_field fields 0;
  kind = byte_field fields 1;
  station = byte_field fields 2;
  time = get_or fields 3 0;
  view = byte_field fields 4;
  class = byte_field fields 5;
  asked = byte_field fields 6;
  granted = byte_field fields 7;
  sender = byte_field fields 8;
  number = get_or fields 9 0;
}

-- ---- reading

-- 1 to 4, no bytes being 1, and 0 for an entry
abbrev pub number_read : Read → ℕ
number_read End = number_of EndsInside
number_read (Whole e next) = 0
number_read (Refused why next) = number_of why

-- the ten fields, absent ones as 0; where no entry is read they keep their values
abbrev pub fields_read : Read → List ℕ → List ℕ
fields_read End fields = fields
fields_read (Whole e next) fields = pasted fields 0 (fields_of e)
fields_read (Refused why next) fields = fields

-- 23 where fewer than ten numbers are lent, before any byte is read
pub record ReadsEntry (bytes fields : List ℕ) (answer : ℕ) (after : List ℕ) : Type 0 where
  pub answered : answer ≡ cond (ltb (length fields) field_count) (number_of BufferTooShort) (number_read (read_at SingleLine bytes 0))
  pub left : after ≡ cond (ltb (length fields) field_count) fields (fields_read (read_at SingleLine bytes 0) fields)

-- ---- writing

-- 23 where fewer than ten numbers are given; then 2, 3, 4 and 23 as the writer gives them
pub record WritesEntry (fields bytes : List ℕ) (answer : ℕ) (after : List ℕ) : Type 0 where
  pub answered : answer ≡ cond (ltb (length fields) field_count) (number_of BufferTooShort) (refusal_in (written_at SingleLine bytes 0 (entry_from fields)))
  pub left : after ≡ cond (ltb (length fields) field_count) bytes (log_after SingleLine bytes 0 (entry_from fields))
