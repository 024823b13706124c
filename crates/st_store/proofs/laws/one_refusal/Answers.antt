use Rattle.st_store.proofs.Determined.{one_place, none_missing, none_opens, opens_there}
use Rattle.st_store.proofs.laws.one_refusal.Goals as goal

pub returns-clause-place : goal.returns-clause-place
returns-clause-place c name f at other x y = one_place name f at other x y

pub returns-clause-missing : goal.returns-clause-missing
returns-clause-missing c name f at none x = none_missing name f at none x

pub returns-clause-opens : goal.returns-clause-opens
returns-clause-opens c name f at d opens x = none_opens name f at d opens x

pub returns-clause-absent : goal.returns-clause-absent
returns-clause-absent c name f d opens none = opens_there name f d opens none
