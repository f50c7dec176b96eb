-- The answer to a line, from its number and from what reading it leaves in the buffers. Assumes nothing.
use mathlib.Core.Path.{◌≡◌, sym, ap, ◌∙◌}
use mathlib.Core.List.{List}
use Prim.Native.Nat.{ℕ, ◌≤◌}
use native.Mathlib.Omega.{arith}
use borrow.Author.Tests.{eq-eqb, ne_eqb}
use lib.IntN.{ℤ}
use lib.ListN.{length, take, length-take}
use Rattle.fields.specs.Grammar.{Reading, read_line}
use Rattle.reader.specs.Answers.{mask_of, sweeps_of, llrs_of, line_number, line_size, line_sweeps, line_mask, line_llrs}
use Rattle.reader.specs.Steps.{Fit}
use Rattle.reader.proofs.Accepted.{line-accepted, size_is, sweeps_are, mask-front, llrs-front}
use Rattle.printer.specs.Text.{no_text}
use Rattle.line.specs.Program.{planned_text, reply_text, answer_text}

-- a refused line
pub refused_text : (bytes : List ℕ) (number : ℕ) → number ≡ line_number (read_line bytes) → (number ≡ 0 → ⊥) → no_text number ≡ answer_text bytes
unfolding answer_text reply_text
refused_text bytes number e h = rw (ne_eqb (line_number (read_line bytes)) 0 (λ z. h (e ∙ z))) (ap no_text e)

-- n values that can be taken from a list
pub long-enough : {A : Type 0} (n : ℕ) (l : List A) → n ≡ length (take n l) → n ≤ length l
long-enough n l e = omega (arith, length-take n l)

-- what reading an accepted line left: its mask and its LLRs at the fronts of two buffers, N and the sweeps
pub record Accepted (bytes mask : List ℕ) (llrs : List ℤ) (n k : ℕ) : Type 0 where
  pub zero_is : line_number (read_line bytes) ≡ 0
  pub mask_is : take n mask ≡ mask_of (read_line bytes)
  pub llrs_are : take n llrs ≡ llrs_of (read_line bytes)
  pub size_is : n ≡ length (mask_of (read_line bytes))
  pub sweeps_are : k ≡ sweeps_of (read_line bytes)

pub accept : {bytes mask : List ℕ} (mask₀ : List ℕ) {llrs : List ℤ} (llrs₀ : List ℤ) {n k : ℕ} → let line : Reading = read_line bytes in
    0 ≡ line_number line → n ≡ line_size line → k ≡ line_sweeps line → mask ≡ line_mask line mask₀ → llrs ≡ line_llrs line llrs₀ → Accepted bytes mask llrs n k
accept {bytes} mask₀ llrs₀ z en ek em el =
    let line : Reading = read_line bytes in
    record {
      zero_is = sym z;
      mask_is = rw (en, em) (mask-front line (sym z) mask₀);
      llrs_are = rw (en, el) (llrs-front line (sym z) llrs₀);
      size_is = en ∙ size_is line (sym z);
      sweeps_are = ek ∙ sweeps_are line (sym z);
    }

module _ {bytes mask : List ℕ} {llrs : List ℤ} {n k : ℕ} (a : Accepted bytes mask llrs n k) where
  pub mask-count : n ≡ length (take n mask)
  mask-count = rw a.mask_is a.size_is

  pub llrs-count : n ≡ length (take n llrs)
  llrs-count = rw a.llrs_are (a.size_is ∙ sym (line-accepted (read_line bytes) a.zero_is).same)

  pub line-fit : Fit (take n mask) k (take n llrs)
  line-fit = rw (a.mask_is, a.llrs_are, a.sweeps_are) (line-accepted (read_line bytes) a.zero_is)

  pub accepted_text : planned_text (take n mask) k (take n llrs) ≡ answer_text bytes
  unfolding answer_text reply_text
  accepted_text = rw (a.mask_is, a.llrs_are, a.sweeps_are, eq-eqb (line_number (read_line bytes)) 0 a.zero_is)
