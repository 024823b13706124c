use Rattle.st_scan.proofs.Spans.{whole}
use Rattle.st_scan.proofs.laws.joined_pieces.Goals as goal

pub returns : goal.returns
returns c text ts s = whole text ts s
