-- What words stand for is told by the figures that they share with a single line's section, and by the numbers in the places of the two stations. So a change of a
-- station's desk, of its places, or of the one and then the other, is a change of its side alone.
-- Assumes nothing.
use Prim.Native.Nat.{min, ℕ, ◌+◌, ◌-◌, ◌<◌}
use Rattle.double.specs.Sections.{count_refusal, emptied, line_of, side, side_of, with_clock, with_side}
use Rattle.double.specs.Steps.{cleared}
use Rattle.double.specs.declared.Section as double
use Rattle.double.specs.declared.Side.{Side}
use Rattle.doubleentering.proofs.Numbers.{line_kept, line_next, line_rest, places_count}
use Rattle.doubleentering.specs.DoubleWords.{PlacesBecome, SideBecomes, double_in, moved_up, places_in, side_by}
use Rattle.entering.specs.Entering.{Refuses}
use Rattle.std.specs.Prelude.{Option, Some}
use Rattle.words.proofs.Written.{as_written, written}
use Rattle.words.specs.Words as words
use Rattle.words.specs.Words.{DeskBecomes, OwnWords, RingKept, ring_from, ring_in, section_in, with_departure, with_sent, word_count}
use Rattle.working.specs.Answers.{Answer}
use Rattle.working.specs.Sections as single
use Rattle.working.specs.Sections.{desk_of, other_at, with_desk}
use Rattle.working.specs.declared.Counts.{Counts}
use Rattle.working.specs.declared.Desk.{Desk}
use Rattle.working.specs.declared.Refusal.{Refusal}
use Rattle.working.specs.declared.Section.{Section}
use Rattle.working.specs.declared.Station.TheVariants.{A, B}
use Rattle.working.specs.declared.Station.{Station}
use lib.ListN.{drop, length, length-append, length-drop, length-take, set, take, take-append-drop}
use lib.Seq.{length-take-le}
use mathlib.Core.Bool.{Bool}
use mathlib.Core.List.{List, [], ◌++◌, ◌∷◌}
use mathlib.Core.Path.{ap, ap₂, refl, sym, ◌∙◌, ◌≡◌}
use native.Mathlib.Omega.{arith}

-- ---- by the figures and the places

abbrev double_by : Section → (Station → List ℕ) → double.Section
double_by s places = record { force = s.force; refused = s.refused; a = side_by s.a (places A); b = side_by s.b (places B) }

pub double_is : (w : List ℕ) → double_in w ≡ double_by (section_in w) (places_in (ring_in w))
unfolding double_in section_in
double_is w = refl

with_ring : (w ring : List ℕ) → double_in (take ring_from (written w) ++ ring) ≡ double_by (section_in w) (places_in ring)
unfolding double_in section_in
with_ring w ring = refl

pub force_is : (w : List ℕ) → (double_in w).force ≡ (section_in w).force
unfolding double_in section_in
force_is w = refl

pub counts_are : (w : List ℕ) → (double_in w).refused ≡ (section_in w).refused
unfolding double_in section_in
counts_are w = refl

pub side_is : (w : List ℕ) (x : Station) → side_of (double_in w) x ≡ side_by (desk_of (section_in w) x) (places_in (ring_in w) x)
unfolding double_in section_in
side_is w A = refl
side_is w B = refl

pub line_is : (w : List ℕ) → length w ≡ word_count → (x : Station) → line_of (side_of (double_in w) x) ≡ take (desk_of (section_in w) x).sent (places_in (ring_in w) x)
line_is w long x = ap line_of (side_is w x) ∙ line_kept (desk_of (section_in w) x).sent 12 (places_in (ring_in w) x) (places_count w long x)

-- by the section that the figures are of, the ring being as it was
by_figures : (w u : List ℕ) {s : Section} → section_in u ≡ s → RingKept w u → double_in u ≡ double_by s (places_in (ring_in w))
by_figures w u section ring = double_is u ∙ ap₂ (λ (s : Section) (r : List ℕ). double_by s (places_in r)) section ring

-- ---- a side is put

side_twice : (s : double.Section) (x : Station) (d e : Side) → with_side (with_side s x d) x e ≡ with_side s x e
side_twice s A d e = refl
side_twice s B d e = refl

put-desk : (s : Section) (p : Station → List ℕ) (x : Station) (d : Desk) → double_by (with_desk s x d) p ≡ with_side (double_by s p) x (side_by d (p x))
put-desk s p A d = refl
put-desk s p B d = refl

put-places : (s : Section) (p q : Station → List ℕ) (x : Station) → q (other_at x) ≡ p (other_at x) → double_by s q ≡ with_side (double_by s p) x (side_by (desk_of s x) (q x))
put-places s p q A same = rw same
put-places s p q B same = rw same

desk-put : (s : Section) (x : Station) (d : Desk) → desk_of (with_desk s x d) x ≡ d
desk-put s A d = refl
desk-put s B d = refl

-- by a desk
pub desk-side : {w u : List ℕ} (x : Station) (f : Desk → Desk) → DeskBecomes w u x f → RingKept w u
    → double_in u ≡ with_side (double_in w) x (side_by (f (desk_of (section_in w) x)) (places_in (ring_in w) x))
desk-side {w} {u} x f desk ring =
    let d = f (desk_of (section_in w) x) in
    by_figures w u desk.section ring ∙ put-desk (section_in w) (places_in (ring_in w)) x d
    ∙ ap (λ (s : double.Section). with_side s x (side_by d (places_in (ring_in w) x))) (sym (double_is w))

-- by its places
pub places-side : {w u : List ℕ} (x : Station) (g : List ℕ → List ℕ) → PlacesBecome w u x g
    → double_in u ≡ with_side (double_in w) x (side_by (desk_of (section_in w) x) (g (places_in (ring_in w) x)))
places-side {w} {u} x g put =
    let shown : u ≡ take ring_from (written w) ++ ring_in u =
    sym (take-append-drop ring_from u) ∙ ap (◌++ ring_in u) (put.figures ∙ ap (take ring_from) (as_written w put.long)) in
    ap double_in shown ∙ with_ring w (ring_in u) ∙ put-places (section_in w) (places_in (ring_in w)) (places_in (ring_in u)) x put.others
    ∙ ap₂ (λ (s : double.Section) (l : List ℕ). with_side s x (side_by (desk_of (section_in w) x) l)) (sym (double_is w)) put.places

-- by a desk and then its places
pub desk_places_side : {w u v : List ℕ} (x : Station) (f : Desk → Desk) (g : List ℕ → List ℕ) → DeskBecomes w u x f → RingKept w u → PlacesBecome u v x g
    → double_in v ≡ with_side (double_in w) x (side_by (f (desk_of (section_in w) x)) (g (places_in (ring_in w) x)))
desk_places_side {w} {u} x f g desk ring put =
    let d = f (desk_of (section_in w) x) in
    let is : desk_of (section_in u) x ≡ d = ap (λ (s : Section). desk_of s x) desk.section ∙ desk-put (section_in w) x d in
    places-side x g put
    ∙ ap₂ (λ (e : Desk) (r : List ℕ). with_side (double_in u) x (side_by e (g (places_in r x)))) is ring
    ∙ ap (λ (s : double.Section). with_side s x (side_by d (g (places_in (ring_in w) x)))) (desk-side x f desk ring)
    ∙ side_twice (double_in w) x (side_by d (places_in (ring_in w) x)) (side_by d (g (places_in (ring_in w) x)))

-- ---- a line

-- the words are as many as they were
long-before : (w u : List ℕ) → RingKept w u → length u ≡ word_count → length w ≡ word_count
long-before w u ring long = omega (arith, simp length-drop at (ap length ring))

-- a side whose places hold a line
side_as : (d : Desk) (places l : List ℕ) → take d.sent places ≡ l → d.sent ≡ length l → side_by d places ≡ side d.clock d.last d.interval l
side_as d places l e f = rw (e, f)

-- with one more behind it
pub train_put : {w u v : List ℕ} (x : Station) (time form sent : ℕ) → sent ≡ (desk_of (section_in w) x).sent → sent < 12
    → DeskBecomes w u x (with_departure time form (sent + 1)) → RingKept w u → PlacesBecome u v x (λ t. set t sent form)
    → SideBecomes w v x (λ d. side time form (Some time) (line_of d ++ form ∷ []))
train_put {w} {u} x time form sent is room desk ring put =
    let figures = with_departure time form (sent + 1) in
    let p = places_in (ring_in w) x in
    let long = long-before w u ring put.long in
    let count = places_count w long x in
    let l = take sent p ++ form ∷ [] in
    let size : sent + 1 ≡ length l = omega (arith, length-append (take sent p) (form ∷ []), length-take-le sent p (omega arith)) in
    let lined = side_as (figures (desk_of (section_in w) x)) (set p sent form) l (line_next p sent form (omega arith)) size in
    let was = ap (λ n. take n p) is ∙ sym (line_is w long x) in
    desk_places_side x figures (λ t. set t sent form) desk ring put
    ∙ ap (with_side (double_in w) x) (lined ∙ ap (λ (k : List ℕ). side time form (Some time) (k ++ form ∷ [])) was)

-- without its first
pub first_taken_lem : {w u v : List ℕ} (x : Station) (n : ℕ) → n ≡ min (desk_of (section_in w) x).sent 12 - 1
    → DeskBecomes w u x (with_sent n) → RingKept w u → PlacesBecome u v x moved_up → SideBecomes w v x cleared
first_taken_lem {w} {u} x n is desk ring put =
    let d = desk_of (section_in w) x in
    let p = places_in (ring_in w) x in
    let count = places_count w (long-before w u ring put.long) x in
    let l = drop 1 (take d.sent p) in
    let size : n ≡ length l = simp (length-drop, length-take) (omega arith) in
    let lined = side_as (with_sent n d) (moved_up p) l (ap (λ k. take k (moved_up p)) is ∙ line_rest d.sent p count) size in
    let was = ap (λ (k : List ℕ). side d.clock d.last d.interval (drop 1 k)) (sym (line_kept d.sent 12 p count)) in
    desk_places_side x (with_sent n) moved_up desk ring put ∙ ap (with_side (double_in w) x) (lined ∙ was ∙ ap cleared (sym (side_is w x)))

-- ---- the others

-- one more entry refused
pub refusal_counted : {w u : List ℕ} {whose : Option Station} {why : Refusal} {given : Answer} → Refuses w whose why given u → double_in u ≡ count_refusal whose (double_in w)
refusal_counted {w} {u} {whose = whose} refuses = by_figures w u refuses.words.section refuses.ring ∙ ap (count_refusal whose) (sym (double_is w))

-- all made anew
pub made_anew : {w : List ℕ} {force : Bool} {counts : Counts} → OwnWords w (single.emptied force counts) → double_in w ≡ emptied force counts
made_anew {w} own = by_figures w w own.section refl

-- the clock alone
pub clock_put : {w u : List ℕ} (x : Station) (time : ℕ) → DeskBecomes w u x (words.with_clock time) → RingKept w u → SideBecomes w u x (λ d. with_clock d time)
clock_put {w} x time desk ring =
    desk-side x (words.with_clock time) desk ring ∙ ap (λ (d : Side). with_side (double_in w) x (with_clock d time)) (sym (side_is w x))
