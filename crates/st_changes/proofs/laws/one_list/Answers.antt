use Rattle.st_changes.proofs.Determined.{same_list, lists_back, more_listed}
use Rattle.st_changes.proofs.laws.one_list.Goals as goal

pub returns-clause-lists : goal.returns-clause-lists
returns-clause-lists c ds base good stands = lists_back ds base good stands

pub returns-clause-one : goal.returns-clause-one
returns-clause-one c bytes base ds es x y = same_list bytes base ds es x y

pub returns-clause-lists_more : goal.returns-clause-lists_more
returns-clause-lists_more c bytes base ds d l good = more_listed bytes base ds d l good
