use Rattle.st_recover.proofs.Determined.{kept_opening}
use Rattle.st_recover.proofs.laws.opening_keeps.Goals as goal

pub returns : goal.returns
returns g c name commits old told among f is = kept_opening g.H.Host name commits old (λ n. g.met.H.Host.read_counts old n told) among f is
