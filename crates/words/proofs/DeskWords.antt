-- A station's desk is put: all other words are as they were, so that they stand for the section with that desk; and a section's own words become those of
-- the section with it. And one of the counts is put, likewise.
-- Assumes nothing.
use Prim.Native.Nat.{min, suc, zero, ℕ, ◌%◌, ◌+◌, ◌-◌, ◌<◌, ◌≤◌}
use Rattle.std.proofs.lemmas.Bool.Decides.{nat_tests}
use Rattle.std.proofs.lemmas.Slice.{between-put_mid, drop-put_mid, take-put_mid_below}
use Rattle.std.specs.Prelude.{None, Option, Some}
use Rattle.words.proofs.Packing.{one_back_lem}
use Rattle.words.proofs.Written.{as_written, first_words, set_past, taken, written}
use Rattle.words.specs.Stores.{DeskPut}
use Rattle.words.specs.Words.{Becomes, DeskBecomes, RingKept, count_in, count_place, section_in, start_in, word_count, words_from, words_of}
use Rattle.words.specs.Words.{desk_from, desk_in, desk_read, desk_words, desk_words_in, interval_in, ring_from}
use Rattle.working.specs.Sections.{count_of, count_refusal, desk_of, one_more, with_desk, with_figures}
use Rattle.working.specs.WellMade.{desk_length, interval_number}
use Rattle.working.specs.declared.Clears.{Clears}
use Rattle.working.specs.declared.Desk.{Desk}
use Rattle.working.specs.declared.Section.{Section}
use Rattle.working.specs.declared.Station.TheVariants.{A, B}
use Rattle.working.specs.declared.Station.{Station}
use borrow.Rule.Slice.PartMut.{put_mid}
use lib.ListN.{drop, drop_of_length-le, get_or, length, length-append, length-drop, length-take, set, take, take-append-drop}
use lib.Seq.{drop-cons, drop-drop, drop-set-lt, length-take-le, take-suc, take_all}
use mathlib.Core.List.{List, [], append-nil, append_assoc, ◌++◌, ◌∷◌}
use mathlib.Core.Path.{ap, ap₂, refl, sym, ◌∙◌, ◌≡◌}
use native.Mathlib.Nat.{mod-eq_of_lt}
use native.Mathlib.Numerals.{add-one}
use native.Mathlib.Omega.{arith}

-- ---- the interval

pub interval_since : (word : ℕ) → (word ≡ 0 → ⊥) → Some ((word - 1) % 65536) ≡ interval_in word
interval_since zero some = absurd (some refl)
interval_since (suc minute) some =
    let same : suc minute - 1 ≡ minute = omega arith in
    rw same

pub interval_back : (i : Option ℕ) → interval_number i ≤ 65536 → interval_in (interval_number i) ≡ i
interval_back None less = refl
interval_back (Some minute) less =
    let small : minute < 65536 = omega arith in
    rw (add-one minute, mod-eq_of_lt small)

-- ---- a desk from its own words

-- the same numbers, one by one
abbrev pub Same : List ℕ → List ℕ → Type 0
Same [] [] = Unit {0}
Same [] (b ∷ l) = ⊥
Same (a ∷ k) [] = ⊥
Same (a ∷ k) (b ∷ l) = (a ≡ b) × Same k l

pub desk_back : (d : Desk) → interval_number d.interval ≤ 65536 → Same (desk_words (desk_read (desk_words d))) (desk_words d) → desk_read (desk_words d) ≡ d
desk_back d less same =
    let since = interval_back d.interval less in
    let out = one_back_lem d.out in
    let clears : Clears = record { asked = d.clears.asked; holds = d.clears.holds; owes = d.clears.owes } in
    let e : desk_read (desk_words d) ≡ with_figures d.clock d.last d.sent d.interval d.out d.guest clears d = cc in
    e

-- it is read off the first of any words
pub desk_first : (w : List ℕ) (i n : ℕ) → i + desk_length ≤ length w → length w ≤ i + n → desk_read (take n (drop i w)) ≡ desk_read (words_from i desk_length w)
desk_first w i n fits all = ap desk_read (take_all n (drop i w) (simp length-drop (omega arith)) ∙ first_words i desk_length w fits)

-- ---- with other words at a station

abbrev with_words : List ℕ → Station → List ℕ → List ℕ
with_words w x t = take (desk_from x) w ++ (t ++ drop (desk_from x + desk_length) w)

section_with_lem : (w t : List ℕ) (x : Station) → section_in (with_words (written w) x (words_from 0 desk_length t)) ≡ with_desk (section_in w) x (desk_read t)
unfolding section_in
section_with_lem w t A = refl
section_with_lem w t B = refl

start_with : (w t : List ℕ) (x : Station) → start_in (with_words (written w) x t) ≡ start_in w
start_with w t A = refl
start_with w t B = refl

own_with : (s : Section) (start : ℕ) (d : Desk) (x : Station) → with_words (words_of s start) x (desk_words d) ≡ words_of (with_desk s x d) start
unfolding words_of
own_with s start d A = refl
own_with s start d B = refl

own-desk : (s : Section) (start : ℕ) (x : Station) → desk_words_in (words_of s start) x ≡ desk_words (desk_of s x)
unfolding words_of
own-desk s start A = refl
own-desk s start B = refl

pub desk_at_lem : (w : List ℕ) (x : Station) → desk_of (section_in w) x ≡ desk_in w x
unfolding section_in
desk_at_lem w A = refl
desk_at_lem w B = refl

pub desk-fits : (x : Station) → desk_from x + desk_length ≤ word_count
desk-fits A = omega arith
desk-fits B = omega arith

-- ---- and all others as they were

-- the ring's words with them
pub ring-kept : {w after : List ℕ} {x : Station} {put : List ℕ → List ℕ} → DeskPut w after x put → RingKept w after
ring-kept {w} {after} {x = A} p = sym (drop-drop desk_length (desk_from A + desk_length) after) ∙ ap (drop desk_length) p.behind ∙ drop-drop desk_length (desk_from A + desk_length) w
ring-kept {w} {after} {x = B} p = p.behind

pub put_next : {w u after : List ℕ} {x : Station} {p q : List ℕ → List ℕ} → DeskPut w u x p → DeskPut u after x q → DeskPut w after x (λ t. q (p t))
put_next {w} {u} {after} {x} {p} {q} one two = record {
  long = one.long;
  same = two.same ∙ one.same;
  desk = two.desk ∙ ap q one.desk;
  ahead = two.ahead ∙ one.ahead;
  behind = two.behind ∙ one.behind;
}

-- the same by another name for what is put
pub put_as : {w after : List ℕ} {x : Station} {p : List ℕ → List ℕ} (q : List ℕ → List ℕ) → DeskPut w after x p
    → p (desk_words_in w x) ≡ q (desk_words_in w x) → DeskPut w after x q
put_as q one e = record { long = one.long; same = one.same; desk = one.desk ∙ e; ahead = one.ahead; behind = one.behind }

-- all of them at once, where a desk's words begin
pub put-all : {x : Station} (w f : List ℕ) (a k : ℕ) → length w ≡ word_count → length f ≡ desk_length → a ≡ desk_from x → k ≡ desk_length → DeskPut w (put_mid a k w f) x (λ t. f)
put-all {x} w f a k long all at size =
    let fits : desk_from x + desk_length ≤ length w = omega (arith, desk-fits x) in
    let same : length (put_mid a k w f) ≡ length w = simp (length-append, length-take, length-drop) (omega arith) in
    record {
      long = long;
      same = same;
      desk =
          taken (desk_from x) desk_length (put_mid a k w f) (omega arith) ∙ ap₂ (λ n i. take n (drop i (put_mid a k w f))) {x = desk_length} {y = a + desk_length - a} (omega arith) (sym at)
          ∙ between-put_mid a k w f (a + desk_length) (omega arith) (omega arith);
      ahead = take-put_mid_below a k w f (desk_from x) (omega arith) (omega arith);
      behind = drop-put_mid a k w f (desk_from x + desk_length) (omega arith) (omega arith) (omega arith);
    }

-- one more of the numbers f is put in its place
pub figure_next : (f t : List ℕ) (i : ℕ) → i < length f → i < length t → set (take i f ++ drop i t) i (get_or f i 0) ≡ take (i + 1) f ++ drop (i + 1) t
figure_next f t i less fits =
    let v = get_or f i 0 in
    let size : length (take i f) + 0 ≡ i = omega (arith, length-take-le i f (omega arith)) in
    let past = ap (λ k. set (take i f ++ (get_or t i 0 ∷ drop (suc i) t)) k v) (sym size) ∙ set_past (take i f) (get_or t i 0 ∷ drop (suc i) t) 0 v in
    rw (drop-cons t i 0 fits, add-one i, take-suc f i 0 less) (past ∙ sym (append_assoc (take i f) (v ∷ []) (drop (suc i) t)))

-- all of them
pub figures-all : (f t : List ℕ) (i : ℕ) → length f ≤ i → length t ≤ i → take i f ++ drop i t ≡ f
figures-all f t i few fits = rw (take_all i f few, drop_of_length-le t fits) (append-nil f)

pub desk_becomes : {x : Station} {w after : List ℕ} {put : List ℕ → List ℕ} (f : Desk → Desk) → DeskPut w after x put
    → desk_read (put (desk_words_in w x)) ≡ f (desk_in w x) → ((d : Desk) → put (desk_words d) ≡ desk_words (f d)) → DeskBecomes w after x f
desk_becomes {x} {w} {after} {put} f p read words =
    let s : Section = section_in w in
    let parts : after ≡ with_words w x (desk_words_in after x) =
    sym (take-append-drop (desk_from x) after)
    ∙ ap₂ ◌++◌ p.ahead (first_words (desk_from x) desk_length after (omega (arith, desk-fits x, p.same, p.long)) ∙ ap (desk_words_in after x ++◌) p.behind) in
    let shown = parts ∙ ap (λ u. with_words u x (desk_words_in after x)) (as_written w p.long) in
    record {
      section = ap section_in shown ∙ section_with_lem w (desk_words_in after x) x ∙ ap (with_desk s x) (ap desk_read p.desk ∙ read ∙ ap f (sym (desk_at_lem w x)));
      start = ap start_in shown ∙ start_with w (desk_words_in after x) x;
      own = λ few e.
          let put-own : desk_words_in after x ≡ desk_words (f (desk_of s x)) =
          p.desk ∙ ap put (ap (λ u. desk_words_in u x) e ∙ own-desk s (start_in w) x) ∙ words (desk_of s x) in
          parts ∙ ap₂ (λ u t. with_words u x t) e put-own ∙ own_with s (start_in w) (f (desk_of s x)) x;
    }

-- ---- the counts of refusals

pub more_counted : (n : ℕ) → n < 4294967296 → min (n + 1) 4294967295 ≡ one_more n
more_counted n fits = grind (arith, nat_tests)

-- one of them is put, and the two others are as they were
put_count : (whose : Option Station) (w : List ℕ) (n : ℕ) → n < 4294967296 → n ≡ one_more (count_in w whose)
    → section_in (set (written w) (count_place whose) n) ≡ count_refusal whose (section_in w)
unfolding section_in
put_count (Some A) w n fits e = rw (mod-eq_of_lt fits, e)
put_count (Some B) w n fits e = rw (mod-eq_of_lt fits, e)
put_count None w n fits e = rw (mod-eq_of_lt fits, e)

own-count : (whose : Option Station) (s : Section) (start : ℕ) → set (words_of s start) (count_place whose) (one_more (count_of s.refused whose)) ≡ words_of (count_refusal whose s) start
unfolding words_of
own-count (Some A) s start = refl
own-count (Some B) s start = refl
own-count None s start = refl

start-count : (whose : Option Station) (w : List ℕ) (n : ℕ) → start_in (set (written w) (count_place whose) n) ≡ start_in w
start-count (Some A) w n = refl
start-count (Some B) w n = refl
start-count None w n = refl

count_at : (whose : Option Station) (w : List ℕ) → count_of (section_in w).refused whose ≡ count_in w whose
unfolding section_in
count_at (Some A) w = refl
count_at (Some B) w = refl
count_at None w = refl

pub count_becomes : (whose : Option Station) (w : List ℕ) {n : ℕ} → length w ≡ word_count → n < 4294967296 → n ≡ one_more (count_in w whose)
    → Becomes w (set w (count_place whose) n) (count_refusal whose (section_in w)) (start_in w) × RingKept w (set w (count_place whose) n)
count_becomes whose w {n} long fits e =
    let shown = ap (λ u. set u (count_place whose) n) (as_written w long) in (
      record {
        section = ap section_in shown ∙ put_count whose w n fits e;
        start = ap start_in shown ∙ start-count whose w n;
        own = λ few h.
            ap₂ (λ u k. set u (count_place whose) k) h (e ∙ ap one_more (sym (count_at whose w))) ∙ own-count whose (section_in w) (start_in w);
      },
      drop-set-lt ring_from w (count_place whose) n (low whose),
    )
  where
    low : (whose : Option Station) → count_place whose < ring_from
    low (Some A) = omega arith
    low (Some B) = omega arith
    low None = omega arith
