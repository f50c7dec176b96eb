-- What the contracts of `captures` say of a trailer. Assumes nothing.
use Rattle.std.specs.Prelude.{◌≡◌, Bool, cond, ◌&&◌, List, ℕ, ◌-◌, ◌*◌, eqb, leb}
use Rattle.model.specs.Captures.{is_capture, trailer_at, mask_at, frame_count, frame_size}

-- the trailer's tests on numbers: `end` bytes stand before it, the mask is at `mask`, the first frame at `first`
unfoldable pub fits : Bool → ℕ → ℕ → ℕ → ℕ → Bool
fits trailer end mask first count = trailer && (eqb first 0 && (leb mask end && eqb (count * frame_size (end - mask)) mask))

-- what the trailer's numbers say: the number, and where that is 0 the mask's offset and size and the number of frames; every other result is 0
pub record Placed (passed : Bool) (end mask frames number at size count : ℕ) : Type 0 where
  pub number_is : number ≡ cond passed 0 14
  pub mask_is : number ≡ 0 → at ≡ mask
  pub size_is : number ≡ 0 → size ≡ end - mask
  pub count-is : number ≡ 0 → count ≡ frames
  pub nothing : (number ≡ 0 → ⊥) → (at ≡ 0) × (size ≡ 0) × (count ≡ 0)

-- what the trailer of these bytes says
abbrev pub LaidOut : List ℕ → ℕ → ℕ → ℕ → ℕ → Type 0
LaidOut bytes = Placed (is_capture bytes) (trailer_at bytes) (mask_at bytes) (frame_count bytes)
