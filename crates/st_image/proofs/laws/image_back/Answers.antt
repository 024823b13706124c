use Rattle.st_image.proofs.Back.{formed, objects_same, head_same}
use Rattle.st_image.proofs.laws.image_back.Goals as goal

pub returns : goal.returns
returns c = record { formed = formed; objects = objects_same; head = head_same }
