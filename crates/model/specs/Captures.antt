-- Captures, which request No. 5 replays: their layout, their frames, the first refusal, and the totals of a drain. Assumes nothing.
use Rattle.std.specs.Prelude.{Bool, cond, not, ◌&&◌, List, [], ◌∷◌, ℕ, ◌+◌, ◌-◌, ◌*◌, eqb, leb, ltb, ℤ, pos, neg_ℤ, length}
use Rattle.model.specs.Lists.{tabulate, same, bit, part}
use Rattle.model.specs.Soft.{negative}
use Rattle.model.specs.Encoding.{unfrozen}
use Rattle.model.specs.Plans.{planner_plan}
use Rattle.model.specs.Refusals.{Test, test, refusal, exponent, accepted, row_1, row_2, row_4, row_7, DecodeCall, decode_answer, decode_check, decode_cycles}

-- ---- bytes as numbers

-- the number of some bytes, the low byte first
unfoldable pub number_of : List ℕ → ℕ
number_of [] = 0
number_of (b ∷ bytes) = b + 256 * number_of bytes

-- the 16-bit number at offset o
abbrev pub number16_at : List ℕ → ℕ → ℕ
number16_at bytes o = number_of (part bytes o 2)

-- a 16-bit number with a sign: from 32768 on it is negative
unfoldable pub signed16 : ℕ → ℤ
signed16 n = cond (ltb n 32768) (pos n) (neg_ℤ (pos (65536 - n)))

-- ---- the layout: frames, then the mask, then the trailer

abbrev pub max_capture : ℕ
max_capture = 65536

abbrev pub trailer_size : ℕ
trailer_size = 16

-- the trailer's first four bytes: 44 52 4E 31, hexadecimal
abbrev pub signature : List ℕ
signature = 68 ∷ 82 ∷ 78 ∷ 49 ∷ []

abbrev pub trailer_at : List ℕ → ℕ
trailer_at bytes = length bytes - trailer_size

-- four bytes of the trailer, from its byte i on
abbrev pub in_trailer : List ℕ → ℕ → List ℕ
in_trailer bytes i = part bytes (trailer_at bytes + i) 4

-- the offset of the mask, that of the first frame, and the number of frames
abbrev pub mask_at : List ℕ → ℕ
mask_at bytes = number_of (in_trailer bytes 4)

abbrev pub first_frame_at : List ℕ → ℕ
first_frame_at bytes = number_of (in_trailer bytes 8)

abbrev pub frame_count : List ℕ → ℕ
frame_count bytes = number_of (in_trailer bytes 12)

-- N: the mask fills the capture up to the trailer
abbrev pub mask_size : List ℕ → ℕ
mask_size bytes = trailer_at bytes - mask_at bytes

abbrev pub mask_in : List ℕ → List ℕ
mask_in bytes = part bytes (mask_at bytes) (mask_size bytes)

-- a frame: drain number, sweep count and N LLRs, each of 16 bits
abbrev pub frame_size : ℕ → ℕ
frame_size N = 2 + 2 + 2 * N

-- lengths and trailer fit: frames fill the capture exactly up to the mask
unfoldable pub is_capture : List ℕ → Bool
is_capture bytes =
    (leb trailer_size (length bytes) && leb (length bytes) max_capture)
    && (same (in_trailer bytes 0) signature && (eqb (first_frame_at bytes) 0
    && (leb (mask_at bytes) (trailer_at bytes) && eqb (frame_count bytes * frame_size (mask_size bytes)) (mask_at bytes))))

abbrev pub row_14 : List ℕ → Test
row_14 bytes = test 14 (is_capture bytes)

-- ---- frames

pub record CaptureFrame : Type 0 where
  pub drain : ℕ
  pub sweeps : ℕ
  pub llrs : List ℤ

-- the frame at offset o, with N LLRs
unfoldable pub frame_at : List ℕ → ℕ → ℕ → CaptureFrame
frame_at bytes N o = record { drain = number16_at bytes o; sweeps = number16_at bytes (o + 2); llrs = tabulate N (λ k. signed16 (number16_at bytes (o + 4 + 2 * k))) }

-- the first frames, in their order, of N LLRs each
abbrev pub frames_to : List ℕ → ℕ → ℕ → List CaptureFrame
frames_to bytes N count = tabulate count (λ j. frame_at bytes N (j * frame_size N))

-- all frames
unfoldable pub frames_in : List ℕ → List CaptureFrame
frames_in bytes = frames_to bytes (mask_size bytes) (frame_count bytes)

-- drain numbers are below 64
abbrev pub max_drain : ℕ
max_drain = 63

abbrev pub drains : ℕ
drains = max_drain + 1

abbrev pub row_15 : ℕ → Test
row_15 drain = test 15 (leb drain max_drain)

-- a frame's number
unfoldable pub frame_number : CaptureFrame → ℕ
frame_number f = refusal (row_15 f.drain ∷ row_4 f.sweeps ∷ row_7 f.llrs ∷ [])

-- the first refusal, frame by frame
unfoldable pub frames_number : List CaptureFrame → ℕ
frames_number [] = 0
frames_number (f ∷ fs) = accepted (frame_number f) (frames_number fs) (frame_number f)

-- the capture's own tests, the mask's among them
unfoldable pub number_before_frames : List ℕ → ℕ
number_before_frames bytes = refusal (row_14 bytes ∷ row_1 (mask_size bytes) ∷ row_2 (mask_in bytes) ∷ [])

-- the first refusal of a capture
unfoldable pub capture_number : List ℕ → ℕ
capture_number bytes = accepted (number_before_frames bytes) (frames_number (frames_in bytes)) (number_before_frames bytes)

-- ---- totals

-- a frame decoded by itself: a decode's call with the planner's plan and buffers that are just long enough
unfoldable pub frame_call : List ℕ → CaptureFrame → DecodeCall
frame_call mask f =
    let N : ℕ = length mask in
    record {
      mask = mask;
      plan = planner_plan (exponent N) mask;
      sweeps = f.sweeps;
      llrs = f.llrs;
      soft_room = N;
      hard_room = N;
      payload_room = unfrozen mask;
      words = N * (exponent N + 3);
    }

-- hard bits that differ from the LLR's sign; an LLR of 0 counts as bit 0, and an undecided bit, 2, always differs. There are as many hard bits as LLRs.
unfoldable pub differing : List ℤ → List ℕ → ℕ
differing [] hard = 0
differing (z ∷ llrs) [] = 0
differing (z ∷ llrs) (h ∷ hard) = bit (not (eqb h (bit (negative z)))) + differing llrs hard

-- frames, frames whose frozen check is 1, hard bits that differ, cycles
pub record Totals : Type 0 where
  pub frames : ℕ
  pub checks : ℕ
  pub differ : ℕ
  pub cycles : ℕ

abbrev pub no_totals : Totals
no_totals = record { frames = 0; checks = 0; differ = 0; cycles = 0 }

-- the totals with one frame more
unfoldable pub with_frame : List ℕ → Totals → CaptureFrame → Totals
with_frame mask t f =
    let c : DecodeCall = frame_call mask f in
    record {
      frames = t.frames + 1;
      checks = t.checks + decode_check c;
      differ = t.differ + differing f.llrs (decode_answer c).hard;
      cycles = t.cycles + decode_cycles c;
    }

-- the totals of a drain, from frame to frame
unfoldable pub totals_from : List ℕ → ℕ → Totals → List CaptureFrame → Totals
totals_from mask drain t [] = t
totals_from mask drain t (f ∷ fs) = totals_from mask drain (cond (eqb f.drain drain) (with_frame mask t f) t) fs

abbrev pub totals_of : List ℕ → ℕ → List CaptureFrame → Totals
totals_of mask drain fs = totals_from mask drain no_totals fs

-- a number that each frame has, added up over the frames of a drain
unfoldable pub sum_over : (CaptureFrame → ℕ) → ℕ → List CaptureFrame → ℕ
sum_over f drain [] = 0
sum_over f drain (x ∷ xs) = cond (eqb x.drain drain) (f x) 0 + sum_over f drain xs
