use Rattle.st_parts.proofs.OneName.{one_name}
use Rattle.st_parts.proofs.laws.literals_have_one_name.Goals as goal

pub returns : goal.returns
returns c = λ names t vs. one_name t names vs
