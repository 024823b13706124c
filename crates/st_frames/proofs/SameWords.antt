-- Words of SmallIntegers, of the page, and words that are the same.
use Rattle.st_model.proofs.Runs.{run-integer, run-no_integer}

pub ruleset integers = (run-integer, run-no_integer)
