-- Each call writes the digits of a smaller number first.
use Rattle.telling.proofs.text.Text.+add_digits.Given as goal

abbrev pub decreases-add_digits : goal.decreases-add_digits
decreases-add_digits l = l.n
