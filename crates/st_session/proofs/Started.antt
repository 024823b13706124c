-- What the reading of an image says of the file that its bytes come from.
use Rattle.std.proofs.Common.{◌≡◌, ℕ, List, sym, subst, ◌∙◌, arith}
use Rattle.std.specs.Prelude.{Result, Ok, Err, IfErr, IsErrAnd}
use Rattle.st_host.specs.declared.host.Host.{Ghosts}
use Rattle.st_model.specs.Image.{image_head}
use Rattle.st_model.specs.Start.{start_view}
use Rattle.st_model.specs.Faults.{IsWellFormed, IsImageFault}
use Rattle.st_model.specs.View.{View}
use Rattle.st_frames.specs.declared.frame.Frame.{Frame}
use Rattle.st_image.specs.declared.head.HeadValues.{HeadValues}
use Rattle.st_image.specs.HeadValues.{no_values, head_over}
use Rattle.st_image.specs.inside.Reading.{IsStart}
use Rattle.st_protocol.specs.declared.status.Status.{Status}
use Rattle.st_protocol.specs.declared.status.Status.TheVariants as status
use Rattle.st_protocol.specs.Statuses.{StatusHasCause}
use Rattle.st_recover.specs.Openings.{IsReadable, IsFaulty}
use Rattle.st_call.specs.declared.image_refusal.ImageRefusal.{ImageRefusal}
use Rattle.st_call.specs.declared.image_refusal.ImageRefusal.TheVariants as refusal
use Rattle.st_call.specs.Refusals.{status_of, IsImageRefusal, RefusalHasCause, IsReadableOver, IsFaultyOver}
use Rattle.st_session.specs.Imports.{ReadsAs, IsWrongImage}
use Rattle.st_session.specs.Makings.{Contents, contents_in, IsUnread}
use Rattle.st_image.proofs.Back.{own_head}

-- FOR AN IMPORT

pub read_as : (over : HeadValues) (bytes : List ℕ) (v : View) (x : Contents) → IsReadableOver over bytes → v.objects ≡ (start_view (head_over over bytes) bytes).objects → v.head ≡ (start_view (head_over over bytes) bytes).head → x ≡ contents_in v → ReadsAs over bytes x
read_as over bytes v x readable objects head is = record { readable = readable; is = is ∙ (λ i. record { objects = objects i; head = head i }) }

pub read_is : (over : HeadValues) (bytes : List ℕ) (v : View) (x : Contents) → v.objects ≡ (start_view (head_over over bytes) bytes).objects → v.head ≡ (start_view (head_over over bytes) bytes).head → ReadsAs over bytes x → x ≡ contents_in v
read_is over bytes v x objects head read = read.is ∙ sym (λ i. record { objects = objects i; head = head i })

pub image_unread : (told : Type 0) (over : HeadValues) (bytes : List ℕ) (r : ImageRefusal) (e : Status) → e ≡ status_of r → (told → IsImageRefusal (IsFaultyOver over) bytes r) → IsUnread (IsWrongImage told over bytes) e
image_unread told over bytes r e is why = subst (IsUnread (IsWrongImage told over bytes)) (sym is) (each r why)
  where
    each : (r : ImageRefusal) → (told → IsImageRefusal (IsFaultyOver over) bytes r) → IsUnread (IsWrongImage told over bytes) (status_of r)
    each (refusal.Image f) why = why
    each refusal.TooLarge why = why
    each refusal.DiskFault why = tt
    each refusal.OutOfMemory why = tt

pub image_cause : {D : Type 0} (host : Ghosts D) (old new : D) (r : ImageRefusal) (e : Status) → e ≡ status_of r → RefusalHasCause host old new r → StatusHasCause host ⊥ old new e
image_cause host old new r e is cause = subst (StatusHasCause host ⊥ old new) (sym is) (each r cause)
  where
    each : (r : ImageRefusal) → RefusalHasCause host old new r → StatusHasCause host ⊥ old new (status_of r)
    each (refusal.Image f) cause = tt
    each refusal.TooLarge cause = tt
    each refusal.DiskFault cause = cause
    each refusal.OutOfMemory cause = tt

-- an image that can be read isn't wrong
pub image_clash : (told : Type 0) (over : HeadValues) (bytes : List ℕ) (c : Contents) (e : Status) → told → ReadsAs over bytes c → IsWrongImage told over bytes e → ⊥
image_clash told over bytes c (status.Image f) t is why = is.readable.formed f (why t).fault.fails
image_clash told over bytes c status.TooLarge t is why = let short = is.readable.short in let long = why t in omega (arith, short, long)
image_clash told over bytes c status.Done t is why = why
image_clash told over bytes c status.Usage t is why = why
image_clash told over bytes c (status.Script n) t is why = why
image_clash told over bytes c status.ReadFault t is why = why
image_clash told over bytes c status.SayFault t is why = why
image_clash told over bytes c status.DiskFault t is why = why
image_clash told over bytes c (status.Store f) t is why = why
image_clash told over bytes c (status.Kernel chunk cause) t is why = why
image_clash told over bytes c status.OutOfMemory t is why = why

-- WITH ITS OWN HEAD

pub own_readable : (bytes : List ℕ) → IsReadableOver no_values bytes → IsReadable bytes
own_readable bytes is = record { short = is.short; formed = subst (λ h. IsWellFormed h bytes) (own_head bytes) is.formed }

pub own_start : (bytes : List ℕ) (v : View) (f : Frame) → IsStart (head_over no_values bytes) bytes v f → IsStart (image_head bytes) bytes v f
own_start bytes v f start = subst (λ h. IsStart h bytes v f) (own_head bytes) start

own_refusal : (bytes : List ℕ) (e : ImageRefusal) → IsImageRefusal (IsFaultyOver no_values) bytes e → IsImageRefusal IsFaulty bytes e
own_refusal bytes (refusal.Image f) why = record { short = why.short; fault = subst (λ h. IsImageFault h bytes f) (own_head bytes) why.fault }
own_refusal bytes refusal.TooLarge why = why
own_refusal bytes refusal.DiskFault why = tt
own_refusal bytes refusal.OutOfMemory why = tt

pub own_refused : {R : Type 0} (told : Type 0) (bytes : List ℕ) (e : ImageRefusal) (r : Result R ImageRefusal) → IsErrAnd r (λ x. x ≡ e) → (told → IsImageRefusal (IsFaultyOver no_values) bytes e)
    → IfErr r (λ x. told → IsImageRefusal IsFaulty bytes x)
own_refused told bytes e (Ok v) is why = absurd is
own_refused told bytes e (Err x) is why = λ t. own_refusal bytes x (subst (IsImageRefusal (IsFaultyOver no_values) bytes) (sym is) (why t))
