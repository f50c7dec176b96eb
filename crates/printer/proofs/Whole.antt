-- A line that was printed from the buffer's start on; and the words of soft values. For the callers. Assumes nothing.
use mathlib.Core.Path.{◌≡◌, refl, sym, ap, ap₂, ◌∙◌}
use mathlib.Core.Bool.{Bool, true, false}
use mathlib.Core.List.{List, [], ◌∷◌, map}
use Prim.Native.Nat.{ℕ, suc, ◌+◌, ◌≤◌, ◌<◌, min}
use native.Mathlib.Omega.{arith}
use lib.Dec.{leb}
use lib.ListN.{length, take, drop, take-append-drop}
use lib.Seq.{sets, length-sets, take_at, take_all, length-take-le}
use borrow.Author.Tests.{leb-true, leb-false}
use Rattle.model.specs.Lists.{over}
use Rattle.model.specs.Soft.{Soft, ◌at◌, word_of, soft_of}
use Rattle.model.specs.Bounds.{Under, limit}
use Rattle.fields.proofs.Stores.{sets_over}
use Rattle.printer.specs.Put.{Put, Printed}
use Rattle.words.proofs.Laws.{soft-word}
use Rattle.printer.proofs.Puts.{sets_append, sets-out}

-- text from the start on, as far as there is room
sets-front : (t o : List ℕ) → sets o 0 t ≡ over (take (length o) t) o
sets-front t o = go (leb (length t) (length o)) refl
  where
    go : (b : Bool) → leb (length t) (length o) ≡ b → sets o 0 t ≡ over (take (length o) t) o
    go true e =
        let h : length t ≤ length o = leb-true (length t) (length o) e in
        sets_over t o h ∙ ap (λ (r : List ℕ). over r o) (sym (take_all (length o) t h))
    go false e =
        let m : length (take (length o) t) ≡ length o = length-take-le (length o) t (omega (arith, leb-false (length t) (length o) e)) in
        ap (sets o 0) (sym (take-append-drop (length o) t))
        ∙ sets_append (take (length o) t) (drop (length o) t) o 0
        ∙ sets-out (drop (length o) t) (sets o 0 (take (length o) t)) (0 + length (take (length o) t))
        (omega (arith, length-sets o 0 (take (length o) t)))
        ∙ sets_over (take (length o) t) o (omega arith)

pub printed : {t o o₁ : List ℕ} {j : ℕ} (most : ℕ) → length t ≤ most → Put t o 0 o₁ j → Printed t most o o₁ j
printed {t} {o} {o₁} {j} most h p = record {
  bytes = p.bytes ∙ sets-front t o;
  ends = p.ends ∙ (omega arith);
  size = h;
}

-- with room the whole text stands there
module _ {t o o₁ : List ℕ} {j most : ℕ} (p : Printed t most o o₁ j) (h : most ≤ length o) where
  pub whole_length : j ≡ length t
  whole_length = omega (arith, p.ends, p.size)

  pub whole_text : take j o₁ ≡ t
  unfolding over
  whole_text =
      let n : length t ≤ length o = omega (arith, p.size) in
      rw (whole_length, p.bytes, take_all (length o) t n) (take_at t (drop (length t) o) (length t) refl)

-- ---- soft values within the limit come back from their words
pub softs-back : (ss : List Soft) → ((k : ℕ) → k < length ss → Under true limit (ss at k)) → map soft_of (map word_of ss) ≡ ss
softs-back [] h = refl
softs-back (s ∷ ss) h =
    ap₂ (λ (x : Soft) (l : List Soft). x ∷ l) (soft-word true limit s (omega arith) (h 0 (omega arith))) (softs-back ss (λ k l. h (suc k) (omega arith)))

-- the same text, with more room
pub reprinted : {t t' o o₁ : List ℕ} {j most most' : ℕ} → t ≡ t' → most ≤ most' → Printed t most o o₁ j → Printed t' most' o o₁ j
reprinted {t} {t'} {o} e h p = record {
  bytes = p.bytes ∙ ap (λ (x : List ℕ). over (take (length o) x) o) e;
  ends = p.ends ∙ ap (λ (x : List ℕ). min (length x) (length o)) e;
  size = omega (arith, p.size, ap length e);
}
