use Rattle.number_texts.proofs.digits.+push_digits.Given as goal

abbrev pub decreases-push_digits : goal.decreases-push_digits
decreases-push_digits a = a.places
