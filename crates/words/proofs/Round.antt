-- Vehicles in a ring of slots: place i stands in slot (start + i) % 32. With one slot altered the ring holds those after an act at either end,
-- and, where every other slot was unused, still nothing else: one law of each act serves both, with the number m of places that are known.
-- Assumes nothing.
use Prim.Native.Nat.{min, suc, zero, ℕ, ◌%◌, ◌+◌, ◌-◌, ◌<◌, ◌≤◌}
use Rattle.words.specs.Stores.{end_slot}
use Rattle.words.specs.Words.{one_back, round, slots, start_on}
use Rattle.working.proofs.invariant.Meeting.{redirect_length, redirect_set}
use Rattle.working.proofs.laws.Vehicles.{insert-length}
use Rattle.working.specs.Sections.{insert_at, remove_at, unused}
use Rattle.working.specs.Steps.{redirect_at, redirected}
use Rattle.working.specs.declared.Station.TheVariants.{A, B}
use Rattle.working.specs.declared.Station.{Station}
use Rattle.working.specs.declared.Vehicle.{Vehicle}
use lib.ListN.{get_or, get_or-eq_default, length, length-drop, length-take, set}
use lib.Seq.{get_or-append_seam, get_or-drop, get_or-set_other, get_or-set_same, get_or-take, length-take-le}
use mathlib.Core.List.{List, [], ◌++◌, ◌∷◌}
use mathlib.Core.Path.{ap, refl, sym, ◌∙◌, ◌≡◌}
use native.Mathlib.Decide.{dec_le, ℕ_discrete}
use native.Mathlib.Omega.{arith}

-- ---- round the ring

module _ (at : ℕ → Vehicle) where
  pub round-length : (i n : ℕ) → length (round at i n) ≡ n
  round-length i zero = refl
  round-length i (suc n) = ap suc (round-length (i + 1) n)

  pub round_at : (i n k : ℕ) → k < n → get_or (round at i n) k unused ≡ at ((i + k) % slots)
  round_at i zero k h = absurd (omega arith)
  round_at i (suc n) zero h = ap at (omega arith)
  round_at i (suc n) (suc k) h = round_at (i + 1) n k (omega arith) ∙ ap at (omega arith)

  -- the first m places from a slot on are those of l
  abbrev pub Stands : ℕ → List Vehicle → ℕ → Type 0
  Stands start l m = (i : ℕ) → i < m → at ((start + i) % slots) ≡ get_or l i unused

-- ---- one slot is altered

pub record Alters (at after : ℕ → Vehicle) (slot : ℕ) (v : Vehicle) : Type 0 where
  pub here : (k : ℕ) → k ≡ slot → after k ≡ v
  pub elsewhere : (k : ℕ) → (k ≡ slot → ⊥) → after k ≡ at k

snoc_at : (l : List Vehicle) (v : Vehicle) (i : ℕ) → (i ≡ length l → ⊥) → get_or (l ++ v ∷ []) i unused ≡ get_or l i unused
snoc_at [] v zero h = absurd (h refl)
snoc_at [] v (suc i) h = refl
snoc_at (u ∷ l) v zero h = refl
snoc_at (u ∷ l) v (suc i) h = snoc_at l v i (λ e. h (ap suc e))

init_at : (l : List Vehicle) (i : ℕ) → (i + 1 ≡ length l → ⊥) → get_or (remove_at B l) i unused ≡ get_or l i unused
init_at l i apart = by (dec_le (length l) i)
  where
    by : Dec (length l ≤ i) → get_or (remove_at B l) i unused ≡ get_or l i unused
    by (yes past) = get_or-eq_default (remove_at B l) unused (omega (arith, length-take (length l - 1) l)) ∙ sym (get_or-eq_default l unused past)
    by (no inside) = get_or-take (length l - 1) l i unused (omega arith)

pub remove-length : (x : Station) (l : List Vehicle) → length (remove_at x l) ≡ length l - 1
remove-length A l = length-drop 1 l
remove-length B l = length-take-le (length l - 1) l (omega arith)

module _ {at after : ℕ → Vehicle} (start : ℕ) (l : List Vehicle) (less : start < slots) (fits : length l ≤ 24) (m m' : ℕ) (whole : m' ≤ slots) (stands : Stands at start l m) where
  pub enters : (x : Station) (v : Vehicle) → Alters at after (end_slot x (start_on x start one_back) (length l)) v
      → m' ≤ m + 1 → ((i : ℕ) → i < m' → (i ≡ length l → ⊥) → i < m) → Stands after (start_on x start one_back) (insert_at x v l) m'
  enters A v a up reach zero h = a.here _ (omega arith)
  enters A v a up reach (suc i) h =
      a.elsewhere _ (λ e. omega arith) ∙ ap at (omega arith) ∙ stands i (omega arith)
  enters B v a up reach i h = by (ℕ_discrete i (length l))
    where
      by : Dec (i ≡ length l) → after ((start + i) % slots) ≡ get_or (l ++ v ∷ []) i unused
      by (yes e) = a.here _ (omega arith) ∙ sym (ap (λ k. get_or (l ++ v ∷ []) k unused) e ∙ get_or-append_seam l v [] unused)
      by (no ne) = a.elsewhere _ (λ e. ne (omega arith)) ∙ stands i (reach i h ne) ∙ sym (snoc_at l v i ne)

  pub leaves : (x : Station) → Alters at after (end_slot x start (length l - 1)) unused
      → ((i : ℕ) → i < m' → i < one_back → i + 1 < m) → ((i : ℕ) → i < m' → (i + 1 ≡ length l → ⊥) → i < m) → Stands after (start_on x start 1) (remove_at x l) m'
  leaves A a next reach i h = by (dec_le one_back i)
    where
      by : Dec (one_back ≤ i) → after ((start_on A start 1 + i) % slots) ≡ get_or (remove_at A l) i unused
      by (yes last) = a.here _ (omega arith) ∙ sym (get_or-drop 1 l i unused ∙ get_or-eq_default l unused (omega arith))
      by (no inside) =
          a.elsewhere _ (λ e. omega arith) ∙ ap at (omega arith) ∙ stands (i + 1) (next i h (omega arith))
          ∙ sym (get_or-drop 1 l i unused ∙ ap (λ k. get_or l k unused) (omega arith))
  leaves B a next reach i h = by (ℕ_discrete ((start + i) % slots) (end_slot B start (length l - 1)))
    where
      by : Dec ((start + i) % slots ≡ end_slot B start (length l - 1)) → after ((start + i) % slots) ≡ get_or (remove_at B l) i unused
      by (yes e) = a.here _ e ∙ sym (get_or-eq_default (remove_at B l) unused (omega (arith, length-take (length l - 1) l)))
      by (no ne) = let apart : i + 1 ≡ length l → ⊥ = λ e. ne (omega arith) in a.elsewhere _ ne ∙ stands i (reach i h apart) ∙ sym (init_at l i apart)

  pub meets : (x : Station) (j : ℕ) → j < length l → m' ≤ m → Alters at after ((start + j) % slots) (redirected x (get_or l j unused)) → Stands after start (redirect_at x j l) m'
  meets x j inside few a i h = by (ℕ_discrete i j) ∙ sym (ap (λ t. get_or t i unused) (redirect_set x j l))
    where
      by : Dec (i ≡ j) → after ((start + i) % slots) ≡ get_or (set l j (redirected x (get_or l j unused))) i unused
      by (yes e) = a.here _ (omega arith) ∙ sym (ap (λ k. get_or (set l j (redirected x (get_or l j unused))) k unused) e ∙ get_or-set_same l j _ unused inside)
      by (no ne) = a.elsewhere _ (λ e. ne (omega arith)) ∙ stands i (omega arith) ∙ sym (get_or-set_other l j i _ unused ne)

-- ---- an act on the vehicles: with v put into a slot, the ring from one start on holds those after it, and nothing else if it held nothing else before

pub record Moves (start : ℕ) (l : List Vehicle) (slot : ℕ) (v : Vehicle) (start' : ℕ) (l' : List Vehicle) : Type 0 where
  pub present : {at after : ℕ → Vehicle} → Alters at after slot v → Stands at start l (length l) → Stands after start' l' (min (length l') 24)
  pub alone : length l' ≤ 24 → {at after : ℕ → Vehicle} → Alters at after slot v → Stands at start l slots → Stands after start' l' slots

module _ (start : ℕ) (l : List Vehicle) (less : start < slots) (fits : length l ≤ 24) (x : Station) where
  pub enters_moves : (v : Vehicle) → Moves start l (end_slot x (start_on x start one_back) (length l)) v (start_on x start one_back) (insert_at x v l)
  enters_moves v = record {
    present = λ a st. enters start l less fits (length l) _ (omega arith) st x v a (omega (arith, insert-length x v l)) (λ i h ne. omega (arith, insert-length x v l));
    alone = λ few a st. enters start l less fits slots slots (omega arith) st x v a (omega arith) (λ i h ne. omega arith);
  }

  pub leaves_moves : Moves start l (end_slot x start (length l - 1)) unused (start_on x start 1) (remove_at x l)
  leaves_moves = record {
    present = λ a st. leaves start l less fits (length l) _ (omega arith) st x a (λ i h ne. omega (arith, remove-length x l)) (λ i h ne. omega (arith, remove-length x l));
    alone = λ few a st. leaves start l less fits slots slots (omega arith) st x a (λ i h ne. omega arith) (λ i h ne. omega arith);
  }

  pub meets_moves : (j : ℕ) → j < length l → Moves start l ((start + j) % slots) (redirected x (get_or l j unused)) start (redirect_at x j l)
  meets_moves j inside = record {
    present = λ a st. meets start l less fits (length l) _ (omega arith) st x j inside (omega (arith, redirect_length x j l)) a;
    alone = λ few a st. meets start l less fits slots slots (omega arith) st x j inside (omega arith) a;
  }
