-- What is read of an image under the values of its own head.
use Rattle.std.proofs.Common.{◌≡◌, ℕ, ◌≤◌, List, length, subst}
use Rattle.st_model.specs.Limits.{longest_image}
use Rattle.st_model.specs.Image.{image_head}
use Rattle.st_model.specs.Faults.{IsWellFormed, IsImageFault}
use Rattle.st_model.specs.declared.fault.ImageFault.{ImageFault}
use Rattle.st_model.specs.View.{View}
use Rattle.st_frames.specs.declared.frame.Frame.{Frame}
use Rattle.st_image.specs.HeadValues.{no_values, head_over}
use Rattle.st_image.specs.inside.Reading.{IsStart}
use Rattle.st_recover.specs.Openings.{IsReadable, IsFaulty}
use Rattle.st_image.proofs.Back.{own_head}

pub readable : (read bytes : List ℕ) → read ≡ bytes → length read ≤ longest_image → IsWellFormed (head_over no_values read) read → IsReadable bytes
readable read bytes same short formed =
    subst IsReadable same (record { short = short; formed = subst (λ h. IsWellFormed h read) (own_head read) formed })

pub started : (read bytes : List ℕ) (v : View) (f : Frame) → read ≡ bytes → IsStart (head_over no_values read) read v f → IsStart (image_head bytes) bytes v f
started read bytes v f same start =
    subst (λ b. IsStart (image_head b) b v f) same (subst (λ h. IsStart h read v f) (own_head read) start)

pub faulty : (read bytes : List ℕ) (fault : ImageFault) → read ≡ bytes → length read ≤ longest_image → IsImageFault (head_over no_values read) read fault → IsFaulty bytes fault
faulty read bytes fault same short is =
    subst (λ b. IsFaulty b fault) same (record { short = short; fault = subst (λ h. IsImageFault h read fault) (own_head read) is })
