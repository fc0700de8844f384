-- What each function for hosts promises, drawn from its contract as the code has it: it asks nothing of a caller, and tells the records and equations of specs/, whole, of what
-- is lent as it is at the call and at the exit, each in its place. What these say of calls in figures: OfAnswers, OfFields and OfState; of positions and the shelf, `working`.
-- Assumes nothing.
use Rattle.lupinshift.proofs.entries.lupin_entry_length.Reads as entryLength
use Rattle.lupinshift.proofs.entries.lupin_read_entry.Reads as read_entry
use Rattle.lupinshift.proofs.entries.lupin_write_entry.Reads as writeEntry
use Rattle.lupinshift.proofs.lupin_answer.Reads as answer
use Rattle.lupinshift.proofs.lupin_begin.Reads as begin
use Rattle.lupinshift.proofs.lupin_end.Reads as end
use Rattle.lupinshift.proofs.lupin_figures.Reads as figures
use Rattle.lupinshift.proofs.lupin_fill.Reads as fill
use Rattle.lupinshift.proofs.lupin_list.Reads as list
use Rattle.lupinshift.proofs.lupin_taken.Reads as taken
use Rattle.lupinshift.proofs.positions.lupin_fetch.Reads as fetch
use Rattle.lupinshift.proofs.positions.lupin_step.Reads as step
use Rattle.lupinshift.proofs.positions.lupin_store.Reads as store
use Rattle.lupinshift.specs.Answers.{Ends, Figures, Lists, last_answer_of}
use Rattle.lupinshift.specs.Fields.{ReadsEntry, WritesEntry}
use Rattle.lupinshift.specs.State.{Begins, FillsOn}
use Rattle.working.specs.Entries.{length_of}
use Rattle.working.specs.Positions.{StepsPosition}
use Rattle.working.specs.Sections.{fresh}
use Rattle.working.specs.Shelves.{Fetches, Stores}
use Rattle.working.specs.Turns.{single, taken_in, turns_of}
use mathlib.Core.Path.{◌≡◌}

-- ---- on a log

list_promise : (κs : _) (call : _) (r : _) (exit : _) → list.Asked κs call × (list.Learnt κs call r exit → Lists call.0.now call.1.0.now r exit.1.0.now)
list_promise κs call r exit = (tt, λ told. told)

begin_promise : (κs : _) (call : _) (r : _) (exit : _) → begin.Asked κs call × (begin.Learnt κs call r exit → Begins call.0.now call.1.0.now r exit.1.0.now)
begin_promise κs call r exit = (tt, λ told. told)

fill_promise : (κs : _) (call : _) (r : _) (exit : _)
    → fill.Asked κs call × (fill.Learnt κs call r exit → FillsOn call.0.now call.1.0.now call.1.1.0.now r exit.0.now exit.1.1.0.now)
fill_promise κs call r exit = (tt, λ told. told)

end_promise : (κs : _) (call : _) (r : _) (exit : _) → end.Asked κs call × (end.Learnt κs call r exit → Ends call.0.now call.1.0.now r exit.1.0.now)
end_promise κs call r exit = (tt, λ told. told)

figures_promise : (κs : _) (call : _) (r : _) (exit : _)
    → figures.Asked κs call × (figures.Learnt κs call r exit → Figures call.0.now call.1.0.now r exit.1.0.now)
figures_promise κs call r exit = (tt, λ told. told)

answer_promise : (κs : _) (call : _) (r : _) (exit : _) → answer.Asked κs call × (answer.Learnt κs call r exit → r ≡ last_answer_of call.0.now)
answer_promise κs call r exit = (tt, λ told. told)

taken_promise : (κs : _) (call : _) (r : _) (exit : _) → taken.Asked κs call × (taken.Learnt κs call r exit → r ≡ taken_in (turns_of single fresh call.0.now))
taken_promise κs call r exit = (tt, λ told. told)

-- ---- on a position and the shelf

step_promise : (κs : _) (call : _) (r : _) (exit : _)
    → step.Asked κs call × (step.Learnt κs call r exit → StepsPosition call.0.now call.1.0.now call.1.1.0.now r exit.0.now exit.1.1.0.now)
step_promise κs call r exit = (tt, λ told. told)

store_promise : (κs : _) (call : _) (r : _) (exit : _)
    → store.Asked κs call × (store.Learnt κs call r exit → Stores call.0.now call.1.0.now call.1.1.0.now r exit.0.now)
store_promise κs call r exit = (tt, λ told. told)

fetch_promise : (κs : _) (call : _) (r : _) (exit : _)
    → fetch.Asked κs call × (fetch.Learnt κs call r exit → Fetches call.0.now call.1.0.now call.1.1.0.now r exit.1.1.0.now)
fetch_promise κs call r exit = (tt, λ told. told)

-- ---- on an entry as numbers

read_entry_promise : (κs : _) (call : _) (r : _) (exit : _)
    → read_entry.Asked κs call × (read_entry.Learnt κs call r exit → ReadsEntry call.0.now call.1.0.now r exit.1.0.now)
read_entry_promise κs call r exit = (tt, λ told. told)

write_entry_promise : (κs : _) (call : _) (r : _) (exit : _)
    → writeEntry.Asked κs call × (writeEntry.Learnt κs call r exit → WritesEntry call.0.now call.1.0.now r exit.1.0.now)
write_entry_promise κs call r exit = (tt, λ told. told)

entry_length_promise : (κs : _) (call : _) (r : _) (exit : _) → entryLength.Asked κs call × (entryLength.Learnt κs call r exit → r ≡ length_of call.0)
entry_length_promise κs call r exit = (tt, λ told. told)
