-- The tests of a capture's trailer, from the numbers that the code reads. Assumes nothing.
use Rattle.std.proofs.Common.{◌≡◌, ℕ, ◌-◌, ◌≤◌, ◌<◌, Bool, true, false, List, refl, arith, length, leb, add-zero, le-leb}
use Rattle.std.proofs.Math.Bool.{and-false}
use borrow.Author.Tests.{lt-leb}
use Rattle.model.specs.Lists.{same, part}
use Rattle.model.specs.Captures.{is_capture, max_capture, trailer_size, signature, trailer_at, first_frame_at, mask_at, frame_count}
use Rattle.captures.specs.Layouts.{Placed, fits}

-- what is refused: 14, and nothing else
pub not_placed : (passed : Bool) (end mask count : ℕ) → passed ≡ false → Placed passed end mask count 14 0 0 0
not_placed passed end mask count h = record { number_is = rw h; mask_is = λ z. absurd (omega arith); size_is = λ z. absurd (omega arith); count-is = λ z. absurd (omega arith); nothing = λ n. (refl, refl, refl) }

pub placed : (passed : Bool) (end mask count : ℕ) → passed ≡ true → Placed passed end mask count 0 mask (end - mask) count
placed passed end mask count h = record { number_is = rw h; mask_is = λ z. refl; size_is = λ z. refl; count-is = λ z. refl; nothing = λ n. absurd (n refl) }

-- a length that is no capture's
pub too_short : (bytes : List ℕ) → length bytes < trailer_size → is_capture bytes ≡ false
unfolding is_capture
too_short bytes h = rw (lt-leb trailer_size (length bytes) h)

pub too_long : (bytes : List ℕ) → max_capture < length bytes → is_capture bytes ≡ false
unfolding is_capture
too_long bytes h = rw (lt-leb (length bytes) max_capture h, and-false (leb trailer_size (length bytes)))

-- the tests of a capture of a right length are those on its trailer's numbers
pub laid : (bytes : List ℕ) → trailer_size ≤ length bytes → length bytes ≤ max_capture
    → is_capture bytes ≡ fits (same (part bytes (trailer_at bytes) 4) signature) (trailer_at bytes) (mask_at bytes) (first_frame_at bytes) (frame_count bytes)
unfolding fits is_capture
laid bytes l h = rw (le-leb trailer_size (length bytes) l, le-leb (length bytes) max_capture h, add-zero (trailer_at bytes))
