use Rattle.st_scan.proofs.Spans.{spans, are_tokens}
use Rattle.st_scan.proofs.laws.token_spans.Goals as goal

pub returns-clause-spans : goal.returns-clause-spans
returns-clause-spans c text ts e s = spans text ts e s

pub returns-clause-texts : goal.returns-clause-texts
returns-clause-texts c text ts e s = are_tokens text ts e s
