-- The measure of `printer::put_digits` is the number. Assumes nothing.
use Rattle.printer.proofs.+put_digits.Given as goal

abbrev pub decreases-put_digits : goal.decreases-put_digits
decreases-put_digits l = l.n
