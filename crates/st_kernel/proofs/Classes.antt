-- A value that isn't the same as another.
use Rattle.std.proofs.Common.{◌≡◌, ◌≢◌}
use Rattle.st_model.proofs.SameValues.{other_value}

pub ruleset classes = (other_value)
