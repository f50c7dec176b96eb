-- `captures::read_layout` meets its contract: its tests are those of a capture. Assumes nothing.
use Rattle.std.proofs.Common.{inl, inr, sym}
use Rattle.model.specs.Captures.{is_capture, trailer_at, mask_at, frame_count}
use Rattle.captures.proofs.Trailer.{not_placed, too_short, too_long, laid}
use Rattle.captures.proofs.read_layout.Goals as goal

pub returns-then-bytes-lt-TRAILER_SIZE : goal.returns-then-bytes-lt-TRAILER_SIZE
returns-then-bytes-lt-TRAILER_SIZE c =
    let bytes = c.args.bytes.now in
    not_placed (is_capture bytes) (trailer_at bytes) (mask_at bytes) (frame_count bytes)
    (elim c.then-bytes-lt-TRAILER_SIZE.either [ inl short ↦ too_short bytes short | inr long ↦ too_long bytes long.1 ])

pub returns : goal.returns
returns c =
    let bytes = c.args.bytes.now in
    rw (laid bytes c.if-bytes-lt-TRAILER_SIZE.false c.if-bytes-gt-MAX_CAPTURE.false, sym c.has_signature-trailer.ensures, sym c.number32_at-mask.ensures, sym c.number32_at-first.ensures, sym c.number32_at-count.ensures)
    c.layout_of.ensures
