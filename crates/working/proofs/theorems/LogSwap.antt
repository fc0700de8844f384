-- The swap for a log: two neighbouring entries as demand 3 asks, their bytes changed about in the log, are read each with the answer it had, as is every
-- other entry, and the section at the end is the same.
-- Demand 3 swaps the two steps in the list of the log. The bytes of the list so changed are still whole entries, so that reading them gives this list again.
-- Assumes nothing.
use Prim.Native.Nat.{ℕ}
use Rattle.std.specs.Prelude.{None}
use Rattle.working.proofs.laws.ReadAgain.{Readable, log_readable, one_more_lem, read_again}
use Rattle.working.proofs.theorems.FirstEntry.{IsEntry}
use Rattle.working.proofs.theorems.OwnBytes.{Follow, Own, Part, and_then, cut_short, follow_joined, joined, log_follows, own-demand3, whole-entry}
use Rattle.working.specs.Acts.{Act}
use Rattle.working.specs.Entries.{goes_on, read_at}
use Rattle.working.specs.Events.{At, Event, Says, decode, decoded_as}
use Rattle.working.specs.Runs.{Done, StepForm, by_value, step_for, steps_of}
use Rattle.working.specs.Sections.{fresh}
use Rattle.working.specs.Terms.{ReceivesIt}
use Rattle.working.specs.Turns.{AcceptedIn, Turn, answers_in, behind, changed_about, own_bytes, section_after, single, turns_of}
use Rattle.working.specs.declared.Read.TheVariants.{End, Refused, Whole}
use Rattle.working.specs.declared.Read.{Read}
use Rattle.working.specs.declared.Section.{Section}
use Rattle.working.specs.declared.Station.{Station}
use Rattle.working.specs.declared.Table.TheVariants.{SingleLine}
use lib.ListN.{drop, length, take, take-append-drop}
use lib.Seq.{take_at}
use mathlib.Core.List.{List, [], append_assoc, append_cancel_left, append_cancel_right, map, map-append, map-map, ◌++◌, ◌∷◌}
use mathlib.Core.Path.{ap, ap₂, refl, subst, sym, ◌∙◌, ◌≡◌}
use native.Mathlib.Omega.{arith}

-- ---- two steps changed about

-- an entry that says something is no cut one
says-whole : (own : List ℕ) (event : Event) (l : List Done) → decode own ≡ Says event → Part own l → IsEntry own
unfolding decode
says-whole own event l says (whole-entry is) = is
says-whole own event l says (cut_short cut no_more) = by (read_at SingleLine own 0) says cut.1
  where
    by : (read : Read) → decoded_as read ≡ Says event → goes_on read ≡ None → IsEntry own
    by End e g = cc
    by (Whole e on) p g = cc
    by (Refused why on) e g = cc

not_last : (before : List Done) (d : Done) (l : List Done) → before ++ d ∷ l ≡ [] → ⊥
not_last [] d l h = let z : ◌≡◌ {A = ℕ} 0 1 = cc in omega arith
not_last (b ∷ before) d l h = let z : ◌≡◌ {A = ℕ} 0 1 = cc in omega arith

module _ (f : StepForm) (d e : Done) (first second : Event) (after : List Done) (p : decode d.bytes ≡ Says first) (q : decode e.bytes ≡ Says second) where
  swap_readable : (before : List Done) → Readable f (before ++ d ∷ e ∷ after) → Readable f (before ++ e ∷ d ∷ after)
  swap_readable [] (one_more_lem form part (one_more_lem form₁ part₁ later)) =
      one_more_lem form₁ (whole-entry (says-whole e.bytes second after q part₁)) (one_more_lem form (whole-entry (says-whole d.bytes first (e ∷ after) p part)) later)
  swap_readable (b ∷ before) (one_more_lem form part later) = one_more_lem form (by_part part) (swap_readable before later)
    where
      by_part : Part b.bytes (before ++ d ∷ e ∷ after) → Part b.bytes (before ++ e ∷ d ∷ after)
      by_part (whole-entry is) = whole-entry is
      by_part (cut_short cut no_more) = absurd (not_last before d (e ∷ after) no_more)

joined-append : (before l : List Done) → joined (before ++ l) ≡ joined before ++ joined l
joined-append [] l = refl
joined-append (b ∷ before) l = ap (b.bytes ++◌) (joined-append before l) ∙ sym (append_assoc b.bytes (joined before) (joined l))

-- ---- where two neighbours stand in the log

-- the turns up to t and u, these two, and those behind them
record Neighbours (f : StepForm) (log : List ℕ) (at : ℕ) (before : List (Turn Section)) (t u : Turn Section) (after : List (Turn Section)) : Type 0 where
  from : Section
  first : Own log from t.at t
  second : Own log t.after (behind log t) u
  later : Follow log u.after (behind log u) after
  bytes : joined (map (step_for f log) before) ++ drop t.at log ≡ drop at log

neighbours_in : (f : StepForm) (log : List ℕ) (before : List (Turn Section)) {t u : Turn Section} {after : List (Turn Section)} {s : Section} {at : ℕ}
    → Follow log s at (before ++ t ∷ u ∷ after)
    → Neighbours f log at before t u after
neighbours_in f log [] {t} {s = s} (and_then own part (and_then own₁ part₁ later)) = record {
  from = s;
  first = subst (λ (n : ℕ). Own log s n t) (sym own.here) own;
  second = own₁;
  later = later;
  bytes = ap (λ (n : ℕ). drop n log) own.here;
}
neighbours_in f log (b ∷ before) {t} (and_then own part later) =
    let k = neighbours_in f log before later in
    record {
      from = k.from;
      first = k.first;
      second = k.second;
      later = k.later;
      bytes = append_assoc (own_bytes log b) (joined (map (step_for f log) before)) (drop t.at log) ∙ ap (own_bytes log b ++◌) k.bytes ∙ sym own.parts;
    }

module _ (f : StepForm) (log : List ℕ) (before : List (Turn Section)) (t u : Turn Section) (after : List (Turn Section)) (is : turns_of single fresh log ≡ before ++ t ∷ u ∷ after) where
  abbrev head : List Done
  head = map (step_for f log) before

  abbrev tail : List Done
  tail = map (step_for f log) after

  there : Neighbours f log 0 before t u after
  there = neighbours_in f log before (subst (Follow log fresh 0) is (log_follows fresh log))

  -- the two stand side by side
  pub neighbours : log ≡ take t.at log ++ (own_bytes log t ++ (own_bytes log u ++ drop (behind log u) log))
  neighbours = sym (take-append-drop t.at log) ∙ ap (take t.at log ++◌) (there.first.parts ∙ ap (own_bytes log t ++◌) there.second.parts)

  changed_joined : joined (head ++ step_for f log u ∷ step_for f log t ∷ tail) ≡ changed_about log t u
  changed_joined =
      let first : joined head ≡ take t.at log =
      append_cancel_right (joined head) (take t.at log) (drop t.at log) (there.bytes ∙ sym (take-append-drop t.at log)) in
      joined-append head (step_for f log u ∷ step_for f log t ∷ tail)
      ∙ ap₂ (λ (k l : List ℕ). k ++ (own_bytes log u ++ (own_bytes log t ++ l))) first (follow_joined f log there.later)

-- ---- the theorem

-- two neighbouring entries of a log as demand 3 asks: the log with their bytes changed about is read, in either form, as the same entries with these two
-- the other way round, each with its own bytes and the answer it had, and ends in the same section
abbrev pub LogSwap : Type 0
LogSwap =
    (f : StepForm) (log : List ℕ) (before : List (Turn Section)) (t u : Turn Section) (after : List (Turn Section)) (x y : Station) (first second : Act)
    → turns_of single fresh log ≡ before ++ t ∷ u ∷ after
    → AcceptedIn t x first → AcceptedIn u y second → (x ≡ y → ⊥) → (ReceivesIt first x t.answer second → ⊥)
    → (steps_of f fresh (changed_about log t u) ≡ map (step_for f log) before ++ step_for f log u ∷ step_for f log t ∷ map (step_for f log) after)
    × (section_after fresh (turns_of single fresh (changed_about log t u)) ≡ section_after fresh (turns_of single fresh log))

pub log_swap : LogSwap
log_swap f log before t u after x y first second is p q other apart =
    let d : Done = step_for f log t in
    let e : Done = step_for f log u in
    let front = map (step_for f log) before in
    let back = map (step_for f log) after in
    let k = there f log before t u after is in
    let says_t : decode (own_bytes log t) ≡ Says (At x p.time first) = k.first.said ∙ p.entry in
    let says_u : decode (own_bytes log u) ≡ Says (At y q.time second) = k.second.said ∙ q.entry in
    let listed : steps_of f fresh log ≡ front ++ d ∷ e ∷ back = ap (map (step_for f log)) is ∙ map-append (step_for f log) before (t ∷ u ∷ after) in
    let run = (own-demand3 f log).swap front d e back x y first second listed
    (record { time = p.time; entry = says_t; accepted = p.accepted }) (record { time = q.time; entry = says_u; accepted = q.accepted }) other apart in
    let readable = swap_readable f d e (At x p.time first) (At y q.time second) back says_t says_u front (subst (Readable f) listed (log_readable f fresh log)) in
    rw (changed_joined f log before t u after is) at (read_again f readable run)

-- ---- the same, said of the parts of a log

-- two parts of a log that are neighbouring entries' own bytes change places: the same answers with those two changed about, and the same section
abbrev pub PartsSwap : Type 0
PartsSwap =
    (p a b q : List ℕ) (before : List (Turn Section)) (t u : Turn Section) (after : List (Turn Section)) (x y : Station) (first second : Act)
    → turns_of single fresh (p ++ (a ++ (b ++ q))) ≡ before ++ t ∷ u ∷ after
    → t.at ≡ length p → own_bytes (p ++ (a ++ (b ++ q))) t ≡ a → own_bytes (p ++ (a ++ (b ++ q))) u ≡ b
    → AcceptedIn t x first → AcceptedIn u y second → (x ≡ y → ⊥) → (ReceivesIt first x t.answer second → ⊥)
    → (answers_in (turns_of single fresh (p ++ (b ++ (a ++ q)))) ≡ answers_in before ++ u.answer ∷ t.answer ∷ answers_in after)
    × (section_after fresh (turns_of single fresh (p ++ (b ++ (a ++ q)))) ≡ section_after fresh (turns_of single fresh (p ++ (a ++ (b ++ q)))))

pub parts_swap : PartsSwap
parts_swap p a b q before t u after x y first second is at own-t own-u ok-t ok-u other apart =
    let log : List ℕ = p ++ (a ++ (b ++ q)) in
    let behind_u : List ℕ = drop (behind log u) log in
    let head : take t.at log ≡ p = take_at p (a ++ (b ++ q)) t.at (sym at) in
    let stand : log ≡ p ++ (a ++ (b ++ behind_u)) = rw (head, own-t, own-u) at (neighbours by_value log before t u after is) in
    let behind-p = append_cancel_left p (a ++ (b ++ q)) (a ++ (b ++ behind_u)) stand in
    let tail : q ≡ behind_u = append_cancel_left b q behind_u (append_cancel_left a (b ++ q) (b ++ behind_u) behind-p) in
    let changed : changed_about log t u ≡ p ++ (b ++ (a ++ q)) = rw (head, own-u, own-t, ← tail) in
    let swapped = rw changed at (log_swap by_value log before t u after x y first second is ok-t ok-u other apart) in
    (simp (map-append, map-map) at (ap (map (λ (d : Done). d.answer)) swapped.0), swapped.1)
