-- The image of a memory is that of its objects and its head, and can be read where the memory can start.
use Rattle.std.proofs.Common.{◌≡◌, ◌≤◌, length, refl, arith}
use Rattle.st_model.specs.Limits.{longest_image}
use Rattle.st_model.specs.View.{View, IsWhole}
use Rattle.st_writer.specs.Written.{image_of}
use Rattle.st_writer.proofs.Rows.{image_small}
use Rattle.st_image.specs.inside.Back.{CanStart}
use Rattle.st_image.proofs.Back.{formed}
use Rattle.st_recover.specs.Images.{IsReadable}
use Rattle.st_recover.specs.Commits.{image_with}
use Rattle.st_recover.proofs.Started.{readable}

pub image_is : (v : View) → image_of v ≡ image_with v.objects v.head
unfolding image_of
image_is v = refl

pub image_readable : (v : View) → IsWhole v → CanStart v → IsReadable (image_with v.objects v.head)
image_readable v whole can =
    let small = image_small v whole in
    let short : length (image_of v) ≤ longest_image = omega arith in
    readable (image_of v) (image_with v.objects v.head) (image_is v) short (formed v whole can)
