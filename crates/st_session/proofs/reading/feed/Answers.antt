use Rattle.st_session.proofs.Served.{served_asked}
use Rattle.st_session.proofs.reading.feed.Goals as goal

pub returns-clause-serves : goal.returns-clause-serves
returns-clause-serves g c = served_asked (λ i. (c.feed-request.ensures.read i, c.feed-request.ensures.told i)) c.follow.ensures
