use Rattle.st_plain.proofs.Counting.{used_is}
use Rattle.st_plain.proofs.objects.Objects.used.Goals as goal

pub returns : goal.returns
returns c = used_is c.args.self.now
