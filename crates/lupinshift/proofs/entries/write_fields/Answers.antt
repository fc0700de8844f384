-- `entries::write_fields` meets its contract: the first ten of the numbers lent say the same entry as all of them.
-- Assumes nothing.
use Rattle.lupinshift.proofs.Keeping.{entry_front}
use Rattle.lupinshift.proofs.entries.write_fields.Goals as goal
use Rattle.lupinshift.specs.Fields.{entry_from}
use Rattle.std.proofs.Common.{ap, length, take, ◌∙◌, ◌≡◌}
use Rattle.working.specs.Refusals.{refusal_in}
use borrow.Author.Tests.{le-ltb}

pub returns : goal.returns
returns c =
    let fields = c.args.fields.now in
    let front : c.in-Some.fields.now ≡ take 10 fields = c.in-Some.ensures.cases.same in
    let e = c.entry_from.ensures ∙ ap entry_from front ∙ entry_front fields in
    let enough = le-ltb (length fields) 10 c.in-Some.ensures.cases.enough in
    let written = c.write_entry.ensures in
    record { answered = rw (enough, ← e) (ap refusal_in written.0); left = rw (enough, ← e) written.1 }
