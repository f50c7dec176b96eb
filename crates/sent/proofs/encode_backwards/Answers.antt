-- `sent::encode_backwards` meets its contract: the first N bytes of an accepted call are reordered. Assumes nothing.
use Rattle.std.proofs.Common.{refl, sym, ◌∙◌, ap, ℕ, ◌^◌, ◌≤◌, arith, length, take}
use Rattle.std.proofs.lemmas.Result.{err_from_is_err_and}
use lib.Seq.{length-take-le}
use Rattle.inputs.proofs.Rows.{refusal_not_zero}
use Rattle.model.specs.Sent.{reordered}
use Rattle.sent.proofs.Words.{word_number, mask-sized, word_room, word-stays, word_moved}
use Rattle.sent.proofs.encode_backwards.Goals as goal

pub returns-in_err-encode : goal.returns-in_err-encode
returns-in_err-encode c =
    let p = err_from_is_err_and c.from_residual.result c.from_residual.ensures.1 in
    let a = c.args in
    let e = c.in_err-encode in
    record {
      value = rw (p.1, p.2) (e.ensures.value ∙ word_number 1 a.mask.now a.payload.now a.word.now refl);
      word_after = e.ensures.word_after ∙ word-stays 1 a.mask.now a.payload.now a.word.now refl (λ z. absurd (refusal_not_zero e.field-0.0 (e.ensures.value ∙ z)));
    }

pub slice_bounds-reorder_bytes-end : goal.slice_bounds-reorder_bytes-end
slice_bounds-reorder_bytes-end c =
    let a = c.args in
    omega (arith, word_room 1 a.mask.now a.payload.now a.word.now refl (sym c.in_ok-encode.ensures.value), c.encode.auto.word)

pub slice_bounds-reorder_bytes-end-2 : goal.slice_bounds-reorder_bytes-end-2
slice_bounds-reorder_bytes-end-2 c =
    let a = c.args in
    sym (length-take-le _ c.encode.new.word (omega (arith, word_room 1 a.mask.now a.payload.now a.word.now refl (sym c.in_ok-encode.ensures.value), c.encode.auto.word)))

pub reorder_bytes-requires : goal.reorder_bytes-requires
reorder_bytes-requires c =
    let a = c.args in
    let accepted = sym c.in_ok-encode.ensures.value in
    let m = mask-sized 1 a.mask.now a.payload.now a.word.now refl accepted in
    let roomy : length a.mask.now ≤ length c.encode.new.word = omega (arith, word_room 1 a.mask.now a.payload.now a.word.now refl accepted, c.encode.auto.word) in
    (c.requires.0, omega (arith, c.requires.1, m.1), length-take-le _ c.encode.new.word roomy ∙ m.0 ∙ ap (λ (k : ℕ). 2 ^ k) (sym c.requires.1))

pub returns : goal.returns
returns c =
    let a = c.args in
    let accepted = sym c.in_ok-encode.ensures.value in
    record {
      value = c.in_ok-encode.ensures.value ∙ word_number 1 a.mask.now a.payload.now a.word.now refl;
      word_after = word_moved 1 a.mask.now a.payload.now a.word.now refl accepted c.encode.new.word c.reorder_bytes.new.bytes c.in_ok-encode.ensures.word_after
          (c.reorder_bytes.ensures ∙ ap (λ (k : ℕ). reordered 0 k (take (length a.mask.now) c.encode.new.word)) c.requires.1);
    }
