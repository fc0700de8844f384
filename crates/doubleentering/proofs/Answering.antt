-- What an entry is answered, and the section that the words then stand for: by what its tests come to it is refused, which leaves the words, or has its effect; and what
-- is refused is counted.
-- Assumes nothing.
use Prim.Native.Nat.{ℕ, ◌+◌}
use Rattle.double.specs.Sections.{count_refusal, emptied, line_of, side, side_of, with_clock, with_side}
use Rattle.double.specs.Steps.{Begin, Depart, Event, Receive, Resume, accepted, cleared, effect_of, is_first, on_decoded, same_station, settled, tests_of, whose_is}
use Rattle.double.specs.declared.Section as double
use Rattle.double.specs.declared.Side.{Side}
use Rattle.doubleentering.proofs.Sides.{clock_put, counts_are, force_is, made_anew, refusal_counted, side_is}
use Rattle.doubleentering.specs.DoubleWords.{Comes, Enters, Puts, SideBecomes, Tries, double_in, is_declared, places_in, side_by}
use Rattle.entering.proofs.Becoming.{Looked, station_by}
use Rattle.entering.specs.Entering.{Declares, Refuses}
use Rattle.std.specs.Prelude.{Err, None, Ok, Option, Some, is_ok}
use Rattle.words.specs.Words as words
use Rattle.words.specs.Words.{DeskBecomes, OwnWords, RingKept, ring_in, section_in}
use Rattle.working.proofs.laws.Reasons.{LastPasses, last_passes}
use Rattle.working.proofs.laws.Scans.{first_passes, first_refuses}
use Rattle.working.proofs.laws.Tests.{none_holds, none_of_both}
use Rattle.working.specs.Answers.{Answer, accept}
use Rattle.working.specs.Events.{Says, station_of}
use Rattle.working.specs.Reasons.{last_tests, station_tests}
use Rattle.working.specs.Refusals.{Test, Verdict, first_of}
use Rattle.working.specs.Sections.{other_at}
use Rattle.working.specs.declared.Accepted.{Accepted}
use Rattle.working.specs.declared.Desk.{Desk}
use Rattle.working.specs.declared.Entry.{Entry}
use Rattle.working.specs.declared.Refusal.TheVariants.{NotNearest}
use Rattle.working.specs.declared.Refusal.{Refusal}
use Rattle.working.specs.declared.Speed.TheVariants.{Both, NoSpeed}
use Rattle.working.specs.declared.Station.TheVariants.{A, B}
use Rattle.working.specs.declared.Station.{Station}
use mathlib.Core.Bool.{Bool, false, not, true, true≢false, ◌&&◌}
use mathlib.Core.List.{List, [], ◌++◌, ◌∷◌}
use mathlib.Core.Path.{ap, ap₂, refl, subst, sym, ◌∙◌, ◌≡◌}

-- ---- by what the tests come to

-- every effect is accepted, so that the words stand for the section after it
effect_puts : (w u : List ℕ) (event : Event) → let t = effect_of (double_in w) event in double_in u ≡ t.section → Puts t.answer w t.section u
effect_puts w u Begin is = is
effect_puts w u (Depart x time) is = is
effect_puts w u (Receive x time sender form) is = is
effect_puts w u Resume is = is

module _ {w u : List ℕ} {given : Answer} (event : Event) where
  enters_by : (v : Verdict) → first_of (tests_of (double_in w) event) ≡ v → let t = settled (double_in w) (Says event) v (effect_of (double_in w) event) in
      given ≡ t.answer → double_in u ≡ t.section → Enters w event given u
  enters_by v is answer section = record { answer = rw is answer; section = rw is section }

  tries_by : (v : Verdict) → first_of (tests_of (double_in w) event) ≡ v → let t = settled (double_in w) (Says event) v (effect_of (double_in w) event) in
      given ≡ t.answer → Puts t.answer w t.section u → Tries w event given u
  tries_by v is answer words = record { answer = rw is answer; words = rw is words }

  -- a refusal leaves the words as they were
  pub refused : {why : Refusal} → first_of (tests_of (double_in w) event) ≡ Err why → given ≡ Err why → u ≡ w → Tries w event given u
  refused {why} is answer kept = tries_by (Err why) is answer kept

  done : first_of (tests_of (double_in w) event) ≡ Ok tt → given ≡ (effect_of (double_in w) event).answer → double_in u ≡ (effect_of (double_in w) event).section
      → Tries w event given u
  done is answer section = tries_by (Ok tt) is answer (effect_puts w u event section)

  -- BEGIN and RESUME
  pub declared : (force : Bool) (v : Verdict) → first_of (tests_of (double_in w) event) ≡ v → whose_is (Says event) ≡ None
      → effect_of (double_in w) event ≡ accepted (emptied force (double_in w).refused) → Declares w v force given u → Enters w event given u
  declared force (Err why) is none anew refuses =
      enters_by (Err why) is refuses.answer (refusal_counted refuses ∙ ap (λ (z : Option Station). count_refusal z (double_in w)) (sym none))
  declared force (Ok _) is none anew (answer, own) =
      enters_by (Ok _) is (rw anew answer) (rw anew (made_anew own ∙ ap (emptied force) (sym (counts_are w))))

-- ---- a station's entry, by what the code looks at first: the station, its desk, whether the working is in force, and what 7 and 9 come to

other_side : (s : double.Section) (x : Station) (d : Side) → side_of (with_side s x d) (other_at x) ≡ side_of s (other_at x)
other_side s A d = refl
other_side s B d = refl

-- what a TRAIN and a RECEIVE say
abbrev train_of : Entry → Event
train_of e = Depart (station_of e.station) e.time

abbrev receipt_of : Entry → Event
receipt_of e = Receive (station_of e.station) e.time (station_of e.sender) e.number

module _ {w : List ℕ} {e : Entry} (l : Looked w e) where
  figures : side_of (double_in w) l.at ≡ side_by l.desk (places_in (ring_in w) l.at)
  figures = side_is w l.at ∙ ap (λ (d : Desk). side_by d (places_in (ring_in w) l.at)) (sym l.desk_is)

  in_force_lem : (double_in w).force ≡ l.force
  in_force_lem = force_is w ∙ sym l.force_is

  -- the station by the entry's own name
  named : {u : List ℕ} {given : Answer} (event : Station → Event) → Tries w (event l.at) given u → Tries w (event (station_of e.station)) given u
  named {u} {given} event tries = subst (λ (x : Station). Tries w (event x) given u) l.at_is tries

  -- TRAIN
  abbrev pub train_tests : List Test
  train_tests = station_by l ++ last_tests l.desk.sent l.desk.last l.desk.interval e.time

  train_are : tests_of (double_in w) (Depart l.at e.time) ≡ train_tests
  train_are =
      ap₂ (λ (f : Bool) (d : Side). station_tests f d.clock e.time ++ last_tests d.len d.last d.interval e.time) in_force_lem figures

  module _ {v : Verdict} (verdict : v ≡ first_of train_tests) where
    pub may_not_leave : {given : Answer} {why : Refusal} → v ≡ Err why → given ≡ Err why → Tries w (train_of e) given w
    may_not_leave is answer = named (λ x. Depart x e.time) (refused (Depart l.at e.time) (ap first_of train_are ∙ sym verdict ∙ is) answer refl)

    -- there is room on the line, and a form number
    pub may_leave : v ≡ Ok tt → LastPasses l.desk.sent l.desk.last
    may_leave is =
        let d = l.desk in
        let last = last_tests d.sent d.last d.interval e.time in
        last_passes d.sent d.last d.interval e.time (none_of_both (station_by l) last (none_holds train_tests (sym verdict ∙ is))).1

    pub has_left : {u : List ℕ} {given : Answer} → v ≡ Ok tt → let form = l.desk.last + 1 in given ≡ accept form 256 (Both 25 10)
        → SideBecomes w u l.at (λ d. side e.time form (Some e.time) (line_of d ++ form ∷ [])) → Tries w (train_of e) given u
    has_left is answer left =
        let s = double_in w in
        let x = l.at in
        let time = e.time in
        let last : l.desk.last ≡ (side_of s x).last = ap (λ (d : Side). d.last) (sym figures) in
        named (λ y. Depart y time) (done (Depart x time) (ap first_of train_are ∙ sym verdict ∙ is) (answer ∙ ap (λ n. accept (n + 1) 256 (Both 25 10)) last)
        (left ∙ ap (λ n. with_side s x (side time (n + 1) (Some time) (line_of (side_of s x) ++ (n + 1) ∷ []))) last))

  -- RECEIVE
  module _ {sender : Station} (from : sender ≡ station_of e.sender) where
    abbrev is_next : Bool
    is_next = same_station sender (other_at l.at) && is_first e.number (line_of (side_of (double_in w) (other_at l.at)))

    abbrev next_tests : Bool → List Test
    next_tests b = (not b, NotNearest) ∷ []

    abbrev event : Event
    event = Receive l.at e.time sender e.number

    receive_are : tests_of (double_in w) event ≡ station_by l ++ next_tests is_next
    receive_are = ap₂ (λ (f : Bool) (d : Side). station_tests f d.clock e.time ++ next_tests is_next) in_force_lem figures

    -- the stations by the entry's own names
    both_named : {u : List ℕ} {given : Answer} → Tries w event given u → Tries w (receipt_of e) given u
    both_named {u} {given} tries =
        named (λ x. Receive x e.time (station_of e.sender) e.number) (subst (λ (z : Station). Tries w (Receive l.at e.time z e.number) given u) from tries)

    pub not_taken : {given : Answer} {why : Refusal} → l.verdict ≡ Err why → given ≡ Err why → Tries w (receipt_of e) given w
    not_taken is answer =
        both_named (refused event (ap first_of receive_are ∙ first_refuses (station_by l) (next_tests is_next) (sym l.verdict_is ∙ is)) answer refl)

    -- 7 and 9 pass, so that it is by whether the first on the other's line is named
    by_next : {b c : Bool} → l.verdict ≡ Ok tt → b ≡ is_next → b ≡ c → first_of (tests_of (double_in w) event) ≡ first_of (next_tests c)
    by_next is next named =
        ap first_of receive_are ∙ first_passes (station_by l) (next_tests is_next) (sym l.verdict_is ∙ is) ∙ ap (λ (b : Bool). first_of (next_tests b)) (sym next ∙ named)

    pub not_next : {b : Bool} → l.verdict ≡ Ok tt → b ≡ is_next → b ≡ false → Tries w (receipt_of e) (Err NotNearest) w
    not_next is next other = both_named (refused event (by_next is next other) refl refl)

    pub taken_in_lem : {u t : List ℕ} {given : Answer} {other : Station} {b : Bool} → l.verdict ≡ Ok tt → b ≡ is_next → b ≡ true
        → given ≡ accept 0 0 NoSpeed → other ≡ other_at l.at → DeskBecomes w u l.at (words.with_clock e.time) → RingKept w u → SideBecomes u t other cleared
        → Tries w (receipt_of e) given t
    taken_in_lem {u} {t} is next first answer is-other clock ring left =
        let s = double_in w in
        let x = l.at in
        let d = with_clock (side_of s x) e.time in
        let put : double_in u ≡ with_side s x d = clock_put x e.time clock ring in
        let cleared-is = subst (λ (z : Station). SideBecomes u t z cleared) is-other left in
        both_named (done event (by_next is next first) answer
        (cleared-is ∙ ap (λ (r : double.Section). with_side r (other_at x) (cleared (side_of r (other_at x)))) put
        ∙ ap (λ (r : Side). with_side (with_side s x d) (other_at x) (cleared r)) (other_side s x d)))

-- ---- what is refused is counted

-- a refused step leaves the section but for its count
spared : (s : double.Section) (event : Event) (v : Verdict) {why : Refusal} → let t = settled s (Says event) v (effect_of s event) in t.answer ≡ Err why
    → t.section ≡ count_refusal (whose_is (Says event)) s
spared s _ (Err why) is = refl
spared s Begin (Ok _) is = absurd (true≢false (ap is_ok is))
spared s (Depart x time) (Ok _) is = absurd (true≢false (ap is_ok is))
spared s (Receive x time sender form) (Ok _) is = absurd (true≢false (ap is_ok is))
spared s Resume (Ok _) is = absurd (true≢false (ap is_ok is))

-- whatever words an entry left, as long as they stand for the section before it
pub counted_alike : {w w₁ w₂ : List ℕ} {event : Event} {tried given : Answer} {whose : Option Station} {why : Refusal}
    → tried ≡ (on_decoded (double_in w) (Says event)).answer → double_in w₁ ≡ double_in w → tried ≡ Err why → whose ≡ whose_is (Says event)
    → Refuses w₁ whose why given w₂ → Enters w event given w₂
counted_alike {w} {event = event} answer alike is whose_is refuses =
    let s = double_in w in
    record {
      answer = refuses.answer ∙ sym is ∙ answer;
      section = refusal_counted refuses ∙ ap₂ count_refusal whose_is alike ∙ sym (spared s event (first_of (tests_of s event)) (sym answer ∙ is));
    }

module _ {w w₁ : List ℕ} {event : Event} {tried : Answer} (tries : Tries w event tried w₁) where
  pub counted : {w₂ : List ℕ} {given : Answer} {whose : Option Station} {why : Refusal} → tried ≡ Err why → whose ≡ whose_is (Says event)
      → Refuses w₁ whose why given w₂ → Enters w event given w₂
  counted is whose_is refuses =
      let t = on_decoded (double_in w) (Says event) in
      let kept : w₁ ≡ w = subst (λ (g : Answer). Puts g w t.section w₁) (sym tries.answer ∙ is) tries.words in
      counted_alike tries.answer (ap double_in kept) is whose_is refuses

  pub not_counted : {order : Accepted} → tried ≡ Ok order → Enters w event tried w₁
  not_counted is =
      let t = on_decoded (double_in w) (Says event) in
      record { answer = tries.answer; section = subst (λ (g : Answer). Puts g w t.section w₁) (sym tries.answer ∙ is) tries.words }

-- by what an entry came to: what was accepted, what was counted with it, and what is still to be counted
pub not_refused : {w w₁ : List ℕ} (event : Event) {tried : Answer} {order : Accepted} → Comes w event tried w₁ → tried ≡ Ok order → Enters w event tried w₁
not_refused Begin comes is = comes
not_refused (Depart x time) comes is = not_counted comes is
not_refused (Receive x time sender form) comes is = not_counted comes is
not_refused Resume comes is = comes

pub has_counted : {w w₁ : List ℕ} (event : Event) {tried given : Answer} → Comes w event tried w₁ → is_declared event ≡ true → tried ≡ given → Enters w event given w₁
has_counted {w} {w₁} Begin comes is same = subst (λ (g : Answer). Enters w Begin g w₁) same comes
has_counted (Depart x time) comes is same = absurd (true≢false (sym is))
has_counted (Receive x time sender form) comes is same = absurd (true≢false (sym is))
has_counted {w} {w₁} Resume comes is same = subst (λ (g : Answer). Enters w Resume g w₁) same comes

pub to_count : {w w₁ : List ℕ} (event : Event) {tried : Answer} → Comes w event tried w₁ → is_declared event ≡ false → Tries w event tried w₁
to_count Begin comes is = absurd (true≢false is)
to_count (Depart x time) comes is = comes
to_count (Receive x time sender form) comes is = comes
to_count Resume comes is = absurd (true≢false is)
