use Rattle.st_meaning.specs.inside.Meanings.{most}
use Rattle.st_meaning.proofs.Coursing.{assign_goes}
use Rattle.st_meaning.proofs.course.Course.assign.Goals as goal

pub returns-clause-went : goal.returns-clause-went
returns-clause-went c = assign_goes most c.args.self.now c.did.new.self c.change.new.self c.args.variable c.args.value c.in_ok-did.ensures.few c.in_ok-did.ensures.went c.did.ensures.held c.change.ensures.held
