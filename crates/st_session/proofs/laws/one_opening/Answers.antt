use Rattle.st_session.proofs.OneOpening.{one_answer, opens_gives, refused_is, followed_is, stays_is}
use Rattle.st_session.proofs.laws.one_opening.Goals as goal

pub returns : goal.returns
returns g c = record {
  one = one_answer;
  gives = opens_gives;
  refused = refused_is g.H.Host;
  followed = followed_is g.H.Host;
  stays = stays_is g.H.Host;
}
