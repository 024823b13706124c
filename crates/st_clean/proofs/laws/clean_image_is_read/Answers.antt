use Rattle.st_clean.proofs.Closed.{reach_closed}
use Rattle.st_clean.proofs.Readable.{cleaned_formed, starts_only}
use Rattle.st_clean.proofs.laws.clean_image_is_read.Goals as goal

pub returns-clause-formed : goal.returns-clause-formed
returns-clause-formed c = cleaned_formed

pub returns-clause-starts : goal.returns-clause-starts
returns-clause-starts c v set whole can reach = starts_only v set (reach_closed v.objects v.head set reach) can
