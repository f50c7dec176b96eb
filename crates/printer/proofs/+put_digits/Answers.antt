use mathlib.Core.Path.{ap, ◌∙◌}
use mathlib.Core.List.{[], ◌∷◌, ◌++◌}
use Prim.Native.Nat.{ℕ, ◌/◌}
use Rattle.printer.specs.Text.{nat_text}
use Rattle.printer.proofs.Puts.{put_then, put_as}
use Rattle.printer.proofs.Texts.{nat_small, nat_large}
use Rattle.printer.proofs.+put_digits.Goals as goal

pub returns-then-n-lt10 : goal.returns-then-n-lt10
returns-then-n-lt10 t c =
    put_as (ap (λ (x : ℕ). x ∷ []) c.glyph.ensures ∙ nat_small c.args.n c.if-n-lt10.true) c.put_byte.ensures

pub returns : goal.returns
returns t c =
    let n = c.args.n in
    put_as (ap (λ (x : ℕ). nat_text (n / 10) ++ (x ∷ [])) c.glyph-2.ensures ∙ nat_large n c.if-n-lt10.false)
    (put_then c.put_digits-e.ensures c.put_byte-2.ensures)
