use Rattle.st_print.proofs.Printing.{prints_back}
use Rattle.st_print.proofs.laws.print_back.Goals as goal

pub returns : goal.returns
returns c = prints_back
