-- Which images are read, and which are refused.
use Rattle.std.specs.Prelude.{◌≤◌, ℕ, List, length}
use Rattle.st_model.specs.Limits.{longest_image}
use Rattle.st_model.specs.declared.fault.ImageFault.{ImageFault}
use Rattle.st_model.specs.Image.{image_head}
use Rattle.st_model.specs.Faults.{IsImageFault, IsWellFormed}

-- an image that is read: it has at most 2^27 bytes, and is well-formed
pub record IsReadable (image : List ℕ) : Type 0 where
  pub short : length image ≤ longest_image
  pub formed : IsWellFormed (image_head image) image

-- one that is refused for its fault
pub record IsFaulty (image : List ℕ) (f : ImageFault) : Type 0 where
  pub short : length image ≤ longest_image
  pub fault : IsImageFault (image_head image) image f
