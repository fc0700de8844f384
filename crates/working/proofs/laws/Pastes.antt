-- Two pastes, the second behind the first, are one.
-- Assumes nothing.
use Prim.Native.Nat.{ℕ, ◌+◌, ◌≤◌}
use Rattle.working.specs.Entries.{pasted}
use lib.ListN.{drop, length, length-append, take}
use lib.Seq.{drop-drop, drop_at, length-take-le, take_at}
use mathlib.Core.List.{List, append_assoc, ◌++◌}
use mathlib.Core.Path.{sym, ◌∙◌, ◌≡◌}
use native.Mathlib.Nat.{add_assoc}
use native.Mathlib.Omega.{arith}

pub paste_twice : (log : List ℕ) (at : ℕ) (a b : List ℕ) → at + length a ≤ length log → pasted (pasted log at a) (at + length a) b ≡ pasted log at (a ++ b)
paste_twice log at a b h =
    let first : List ℕ = take at log ++ a in
    let rest : List ℕ = drop (at + length a) log in
    let head : length (take at log) ≡ at = length-take-le at log (omega arith) in
    let size : length first ≡ at + length a = simp (length-append, head) in
    let shape : pasted log at a ≡ first ++ rest = sym (append_assoc (take at log) a rest) in
    let kept : take (at + length a) (pasted log at a) ≡ first = rw shape (take_at first rest (at + length a) size) in
    let left : drop (at + length a) (pasted log at a) ≡ rest = rw shape (drop_at first rest (at + length a) size) in
    let behind : drop (at + length a + length b) (pasted log at a) ≡ drop (at + length (a ++ b)) log =
    sym (drop-drop (length b) (at + length a) (pasted log at a)) ∙ rw left (drop-drop (length b) (at + length a) log ∙ rw (length-append, add_assoc)) in
    rw (kept, behind) (append_assoc (take at log) a (b ++ drop (at + length (a ++ b)) log) ∙ rw append_assoc)
