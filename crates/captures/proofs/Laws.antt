-- What a capture that is accepted keeps to, and the number of one that is not. Assumes nothing.
use mathlib.Core.Path.{◌≡◌, refl, sym, ◌∙◌}
use mathlib.Core.Bool.{Bool, true, false, cond}
use mathlib.Core.List.{List, []}
use Prim.Native.Nat.{ℕ, ◌+◌, ◌*◌, ◌≤◌}
use native.Mathlib.Omega.{arith}
use lib.ListN.{length}
use Rattle.model.specs.Lists.{part}
use Rattle.model.specs.Refusals.{refusal}
use Rattle.model.specs.Captures.{is_capture, mask_in, frames_to, frames_in, max_capture, frame_size, capture_number}
use Rattle.model.proofs.Captures.{capture_tests, capture_whole, layout_refused}
use Rattle.model.proofs.Refusals.{passes}
use Rattle.captures.specs.Layouts.{LaidOut}

-- what `read_layout` finds keeps to what the tests of a capture say
module _ (bytes : List ℕ) {number at size count : ℕ} (l : LaidOut bytes number at size count) (accepted : number ≡ 0) where
  pub laid_capture : is_capture bytes ≡ true
  unfolding refusal
  laid_capture = (passes 14 (is_capture bytes) [] (λ z. omega arith) (sym l.number_is ∙ accepted)).0

  pub laid-whole : at + size + 16 ≡ length bytes
  laid-whole = rw (l.mask_is accepted, l.size_is accepted) (capture_whole bytes laid_capture)

  pub laid-frames : count * frame_size size ≡ at
  laid-frames = rw (l.mask_is accepted, l.size_is accepted, l.count-is accepted) (capture_tests bytes laid_capture).filled

  pub laid-small : length bytes ≤ max_capture
  laid-small = (capture_tests bytes laid_capture).small

  -- the mask and the frames, by the numbers that the code has
  pub laid-mask : part bytes at size ≡ mask_in bytes
  laid-mask = rw (l.mask_is accepted, l.size_is accepted)

  pub laid-frames_in : frames_in bytes ≡ frames_to bytes size count
  unfolding frames_in
  laid-frames_in = rw (l.size_is accepted, l.count-is accepted)

-- a number other than 0 is the capture's
pub laid-refused : (bytes : List ℕ) {number at size count : ℕ} → LaidOut bytes number at size count → (number ≡ 0 → ⊥) → number ≡ capture_number bytes
laid-refused bytes {number} l h = go (is_capture bytes) refl l.number_is
  where
    go : (b : Bool) → is_capture bytes ≡ b → number ≡ cond b 0 14 → number ≡ capture_number bytes
    go true q e = absurd (h e)
    go false q e = e ∙ sym (layout_refused bytes q)
