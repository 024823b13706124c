use Rattle.st_install.proofs.Arities.{special-messages}
use Rattle.st_install.proofs.definition_laws.special_messages.Goals as goal

pub returns : goal.returns
returns c text t means = special-messages text t means
