-- `captures::llr_at` meets its contract. Assumes nothing.
use Rattle.std.proofs.Common.{◌≡◌, ◌∙◌, ap, sym, rules}
use mir.Syntax.{w16}
use mir.Val.{to_z, of_z}
use Rattle.model.specs.Captures.{signed16}
use Rattle.captures.proofs.Numbers.{word-is, signed_is}
use Rattle.captures.proofs.llr_at.Goals as goal

pub returns : goal.returns
returns c =
    let back : to_z w16 (of_z w16 c.cast_signed.result) ≡ c.cast_signed.result = search rules in
    back ∙ c.cast_signed.ensures ∙ signed_is c.from_le_bytes.result c.from_le_bytes.type_inv
    ∙ ap signed16 (c.from_le_bytes.ensures ∙ sym (word-is c.args.bytes.now c.args.at c.requires))
