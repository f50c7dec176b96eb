-- `sent::encode_in` meets its contract: a call that fails one of the first tests is refused, and where no place moves the encoder's word is the order's. Assumes nothing.
use Rattle.std.proofs.Common.{◌≡◌, sym, ◌∙◌, ap, true, ◌&&◌, ℕ, eqb, leb, length}
use Rattle.std.proofs.lemmas.Result.{err_from_is_err_and}
use Rattle.model.specs.Sent.{is_order}
use Rattle.sent.proofs.Words.{first-refused-word, word_number, word-stays}
use Rattle.sent.proofs.Orders.{first-pass}
use Rattle.sent.proofs.encode_in.Goals as goal

pub returns-in_err-first_tests : goal.returns-in_err-first_tests
returns-in_err-first_tests c =
    let p = err_from_is_err_and c.from_residual.result c.from_residual.ensures.1 in
    let a = c.args in
    let r = first-refused-word a.order a.mask.now a.payload.now a.word.now c.in_err-first_tests.field-0.0 c.in_err-first_tests.ensures in
    record { value = rw (p.1, p.2) r.0; word_after = r.1 }

pub returns-else-is_moved : goal.returns-else-is_moved
returns-else-is_moved c =
    let a = c.args in
    let ordered : is_order a.order ≡ true = first-pass a.order (length a.mask.now) (sym c.in_ok-first_tests.ensures) in
    let still = sym (c.is_moved.ensures ∙ ap (λ (n : ℕ). eqb a.order 1 && leb 2 n) c.exponent_of-stage.ensures) ∙ c.if-is_moved.false in
    record {
      value = c.encode.ensures.value ∙ word_number a.order a.mask.now a.payload.now a.word.now ordered;
      word_after = c.encode.ensures.word_after ∙ word-stays a.order a.mask.now a.payload.now a.word.now ordered (λ z. still);
    }
