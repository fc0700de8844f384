-- The counts of refused entries behind the turns of a log, of either line: each of the three is the number of refused turns that are theirs. A step on a section that is as
-- it should be leaves a count as it is, or adds 1 where it refuses and the step is theirs; a log has no more entries than bytes, so that no count would go past its largest
-- value.
-- Assumes nothing.
use Prim.Native.Nat.{ℕ, ◌+◌, ◌≤◌}
use Rattle.std.specs.Prelude.{None, Option, Some}
use Rattle.working.proofs.laws.Turns.{entries_by, refused_by, turns_by, turns_few}
use Rattle.working.specs.Answers.{Answer}
use Rattle.working.specs.Entries.{read_at}
use Rattle.working.specs.Sections.{count_of, is_same, none_refused, one_more, one_more_of}
use Rattle.working.specs.Turns.{Turn, Working, entries_in, is_accepted, section_after, turn_in, turns_from, turns_of}
use Rattle.working.specs.WellMade.{one_if}
use Rattle.working.specs.declared.Counts.{Counts}
use Rattle.working.specs.declared.Read.{Read}
use Rattle.working.specs.declared.Station.TheVariants.{A, B}
use Rattle.working.specs.declared.Station.{Station}
use borrow.Author.Tests.{lt-ltb}
use lib.ListN.{length}
use mathlib.Core.Bool.{Bool, cond, false, not, true, ◌&&◌}
use mathlib.Core.List.{List}
use mathlib.Core.Path.{ap, refl, ◌∙◌, ◌≡◌}
use native.Mathlib.Omega.{arith}

-- ---- the three counts

-- what a step makes of them: one more is refused, or none
abbrev pub counted_for : Answer → Option Station → Counts → Counts
counted_for a is c = cond (is_accepted a) c (one_more_of is c)

-- of the three, the one counted has one more
one_of : (c : Counts) (whose is : Option Station) → count_of (one_more_of is c) whose ≡ cond (is_same whose is) (one_more (count_of c whose)) (count_of c whose)
one_of c (Some A) (Some A) = refl
one_of c (Some A) (Some B) = refl
one_of c (Some A) None = refl
one_of c (Some B) (Some A) = refl
one_of c (Some B) (Some B) = refl
one_of c (Some B) None = refl
one_of c None (Some A) = refl
one_of c None (Some B) = refl
one_of c None None = refl

none_yet : (whose : Option Station) → count_of none_refused whose ≡ 0
none_yet (Some A) = refl
none_yet (Some B) = refl
none_yet None = refl

-- one more where the step is refused and theirs, and the count is not at its largest value
one_more_lem : (a : Answer) (is whose : Option Station) (c : Counts) → count_of c whose + one_if (not (is_accepted a) && is_same whose is) ≤ 4294967295
    → count_of (counted_for a is c) whose ≡ count_of c whose + one_if (not (is_accepted a) && is_same whose is)
one_more_lem a is whose c = by (is_accepted a) (is_same whose is) (one_of c whose is)
  where
    by : (accepted same : Bool) → count_of (one_more_of is c) whose ≡ cond same (one_more (count_of c whose)) (count_of c whose)
        → count_of c whose + one_if (not accepted && same) ≤ 4294967295
        → count_of (cond accepted c (one_more_of is c)) whose ≡ count_of c whose + one_if (not accepted && same)
    by true same one h = omega arith
    by false true one h = one ∙ rw (lt-ltb (count_of c whose) 4294967295 (omega arith))
    by false false one h = omega arith

-- ---- a log

-- no count is above the number of entries
refused_few : {S : Type 0} (whose_read : Read → Option Station) (whose : Option Station) (l : List (Turn S)) → refused_by whose_read whose l ≤ entries_in l
refused_few whose_read (Some A) l = omega (arith, entries_by whose_read l)
refused_few whose_read (Some B) l = omega (arith, entries_by whose_read l)
refused_few whose_read None l = omega (arith, entries_by whose_read l)

-- what is worked, whose an entry that was read is, a section's counts, and what every turn keeps of the section and makes of its counts
module _ {S : Type 0} (W : Working S) (whose_read : Read → Option Station) (counts_in : S → Counts) (Good : S → Type 0)
    (kept : (s : S) (log : List ℕ) (at : ℕ) → Good s → Good (turn_in W s log at).after)
    (counts : (s : S) (log : List ℕ) (at : ℕ) → Good s
    → counts_in (turn_in W s log at).after ≡ counted_for (turn_in W s log at).answer (whose_read (read_at W.table log at)) (counts_in s))
    (whose : Option Station) (log : List ℕ) where
  count_turn : (s : S) (at : ℕ) → Good s
      → count_of (counts_in s) whose + one_if (not (is_accepted (turn_in W s log at).answer) && is_same whose (whose_read (read_at W.table log at))) ≤ 4294967295
      → count_of (counts_in (turn_in W s log at).after) whose
      ≡ count_of (counts_in s) whose + one_if (not (is_accepted (turn_in W s log at).answer) && is_same whose (whose_read (read_at W.table log at)))
  count_turn s at g few =
      ap (λ (c : Counts). count_of c whose) (counts s log at g)
      ∙ one_more_lem (turn_in W s log at).answer (whose_read (read_at W.table log at)) whose (counts_in s) few

  -- the turns refused add to the count, where the sum is not past its largest value
  count-turns : (n : ℕ) (s : S) (at : ℕ) → Good s → count_of (counts_in s) whose + refused_by whose_read whose (turns_from W n s log at) ≤ 4294967295
      → count_of (counts_in (section_after s (turns_from W n s log at))) whose ≡ count_of (counts_in s) whose + refused_by whose_read whose (turns_from W n s log at)
  count-turns =
      turns_by W log
      (λ n s at l. Good s → count_of (counts_in s) whose + refused_by whose_read whose l ≤ 4294967295
      → count_of (counts_in (section_after s l)) whose ≡ count_of (counts_in s) whose + refused_by whose_read whose l)
      (λ s at g few. omega arith)
      (λ n s at r g few. omega arith)
      (λ n s at e c g few. omega (arith, count_turn s at g (omega arith)))
      (λ n s at on l c more g few.
      let one = count_turn s at g (omega arith) in
      let rest = more (kept s log at g) (omega arith) in
      omega arith)

  -- from a section that has none refused
  pub counted_from : (s : S) → Good s → counts_in s ≡ none_refused → length log ≤ 4294967295
      → count_of (counts_in (section_after s (turns_of W s log))) whose ≡ refused_by whose_read whose (turns_of W s log)
  counted_from s g none short =
      let few = turns_few W (length log) s log 0 in
      let zero : count_of (counts_in s) whose ≡ 0 = rw none (none_yet whose) in
      let all = count-turns (length log) s 0 g (omega (arith, refused_few whose_read whose (turns_of W s log))) in
      omega arith
