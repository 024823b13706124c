-- What is read of an image's file, and why it isn't.
use Rattle.std.proofs.Common.{◌≡◌, ℕ, ◌≤◌, List, length, sym, subst}
use Rattle.std.specs.Prelude.{Result, Ok, Err, IfErr, IsErrAnd}
use Rattle.st_host.specs.declared.host.Host.{Ghosts}
use Rattle.st_model.specs.Limits.{longest_image}
use Rattle.st_model.specs.Faults.{IsWellFormed, IsImageFault}
use Rattle.st_model.specs.declared.fault.ImageFault.{ImageFault}
use Rattle.st_model.specs.View.{View}
use Rattle.st_frames.specs.declared.frame.Frame.{Frame}
use Rattle.st_image.specs.declared.head.HeadValues.{HeadValues}
use Rattle.st_image.specs.HeadValues.{head_over}
use Rattle.st_image.specs.inside.Reading.{IsStart}
use Rattle.st_call.specs.declared.file.FileRefusal.{FileRefusal}
use Rattle.st_call.specs.declared.file.FileRefusal.TheVariants as file
use Rattle.st_call.specs.declared.image_refusal.ImageRefusal.{ImageRefusal}
use Rattle.st_call.specs.Refusals.{by_file, IsFileRefusal, IsImageRefusal, FileHasCause, RefusalHasCause, IsReadableOver, IsFaultyOver}

module _ (over : HeadValues) (read bytes : List ℕ) (same : read ≡ bytes) where
  pub readable : length read ≤ longest_image → IsWellFormed (head_over over read) read → IsReadableOver over bytes
  readable short formed = subst (IsReadableOver over) same (record { short = short; formed = formed })

  pub started : (v : View) (f : Frame) → IsStart (head_over over read) read v f → IsStart (head_over over bytes) bytes v f
  started v f start = subst (λ b. IsStart (head_over over b) b v f) same start

  pub faulty : (fault : ImageFault) → length read ≤ longest_image → IsImageFault (head_over over read) read fault → IsFaultyOver over bytes fault
  faulty fault short is = subst (λ b. IsFaultyOver over b fault) same (record { short = short; fault = is })

-- a file that isn't read, whatever the faults of images
unread : (faulty : List ℕ → ImageFault → Type 0) (bytes : List ℕ) (e : FileRefusal) → IsFileRefusal longest_image bytes e → IsImageRefusal faulty bytes (by_file e)
unread faulty bytes file.TooLarge why = why
unread faulty bytes file.DiskFault why = tt
unread faulty bytes file.OutOfMemory why = tt

pub unread_in : {R : Type 0} (told : Type 0) (faulty : List ℕ → ImageFault → Type 0) (bytes : List ℕ) (e : FileRefusal) (r : Result R ImageRefusal) → IsErrAnd r (λ x. x ≡ by_file e) → (told → IsFileRefusal longest_image bytes e)
    → IfErr r (λ x. told → IsImageRefusal faulty bytes x)
unread_in told faulty bytes e (Ok v) is why = absurd is
unread_in told faulty bytes e (Err x) is why = λ t. subst (IsImageRefusal faulty bytes) (sym is) (unread faulty bytes e (why t))

unread_cause : {D : Type 0} (host : Ghosts D) (old new : D) (e : FileRefusal) → FileHasCause host old new e → RefusalHasCause host old new (by_file e)
unread_cause host old new file.TooLarge cause = tt
unread_cause host old new file.DiskFault cause = cause
unread_cause host old new file.OutOfMemory cause = tt

pub cause_in : {D R : Type 0} (host : Ghosts D) (old new : D) (e : FileRefusal) (r : Result R ImageRefusal) → IsErrAnd r (λ x. x ≡ by_file e) → FileHasCause host old new e → IfErr r (RefusalHasCause host old new)
cause_in host old new e (Ok v) is cause = absurd is
cause_in host old new e (Err x) is cause = subst (RefusalHasCause host old new) (sym is) (unread_cause host old new e cause)
