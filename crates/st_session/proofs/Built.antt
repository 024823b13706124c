-- What the building of a kernel text says of the file that its bytes come from.
use Rattle.std.proofs.Common.{◌≡◌, ◌≤◌, ℕ, ◌^◌, List, length, ◌∙◌, sym, ap, subst, arith}
use Rattle.std.specs.Prelude.{Result, Ok, Err}
use Rattle.st_host.specs.declared.host.Host.{Ghosts}
use Rattle.st_protocol.specs.declared.status.Status.{Status}
use Rattle.st_protocol.specs.declared.status.Status.TheVariants as status
use Rattle.st_protocol.specs.Statuses.{StatusHasCause}
use Rattle.st_install.specs.Defining.{installed}
use Rattle.st_kernel.specs.declared.fault.KernelFault.{KernelFault}
use Rattle.st_kernel.specs.declared.fault.KernelFault.TheVariants as kernel
use Rattle.st_kernel.specs.Built.{Built, Fault, built}
use Rattle.st_kernel.specs.inside.Answered.{IsFaultOf}
use Rattle.st_call.specs.declared.file.FileRefusal.{FileRefusal}
use Rattle.st_call.specs.declared.file.FileRefusal.TheVariants as file
use Rattle.st_session.specs.Builds.{Builds, IsWrongAt, IsWrongKernel, kernel_status}
use Rattle.st_call.specs.Refusals.{file_status, IsFileRefusal, FileHasCause}
use Rattle.st_session.specs.Makings.{Contents, IsUnread}

-- one text builds one thing
contents_of : Contents → Result Built Fault → Contents
contents_of c (Ok b) = record { objects = b.objects; head = b.head }
contents_of c (Err fault) = c

pub built_as : (text : List ℕ) (c x : Contents) → Builds text c → x ≡ c → Builds text x
built_as text c x is same = subst (Builds text) (sym same) is

pub one_built : (text : List ℕ) (x c : Contents) → Builds text x → Builds text c → x ≡ c
unfolding contents_of
one_built text x c one two = ap (contents_of c) (sym one.is ∙ two.is)

-- a text that is right isn't wrong
pub kernel_clash : (told : Type 0) (text : List ℕ) (c : Contents) (e : Status) → told → Builds text c → IsWrongKernel told text e → ⊥
kernel_clash told text c (status.Kernel chunk cause) t is why = let clash = sym is.is ∙ (why t).is in cc
kernel_clash told text c status.TooLarge t is why = let short = is.short in let long = why t in omega (arith, short, long)
kernel_clash told text c status.Done t is why = why
kernel_clash told text c status.Usage t is why = why
kernel_clash told text c (status.Image f) t is why = why
kernel_clash told text c (status.Script n) t is why = why
kernel_clash told text c status.ReadFault t is why = why
kernel_clash told text c status.SayFault t is why = why
kernel_clash told text c status.DiskFault t is why = why
kernel_clash told text c (status.Store f) t is why = why
kernel_clash told text c status.OutOfMemory t is why = why

-- it builds nothing, whatever the bytes of the file are called
pub kernel_wrong : (told : Type 0) (text bytes : List ℕ) (fault : KernelFault) (e : Status) → e ≡ kernel_status fault → (told → bytes ≡ text) → length bytes ≤ 2 ^ 23 → IsFaultOf (built installed bytes) fault
    → IsUnread (IsWrongKernel told text) e
kernel_wrong told text bytes fault e is same short wrong = subst (IsUnread (IsWrongKernel told text)) (sym is) (each fault wrong)
  where
    each : (fault : KernelFault) → IsFaultOf (built installed bytes) fault → IsUnread (IsWrongKernel told text) (kernel_status fault)
    each (kernel.At chunk cause) wrong = λ t. subst (λ (x : List ℕ). IsWrongAt x (record { chunk = chunk; cause = cause })) (same t) (record { short = short; is = wrong })
    each kernel.OutOfMemory wrong = tt

pub wrong_cause : {D : Type 0} (host : Ghosts D) (old new : D) (fault : KernelFault) (e : Status) → e ≡ kernel_status fault → StatusHasCause host ⊥ old new e
wrong_cause host old new fault e is = subst (StatusHasCause host ⊥ old new) (sym is) (each fault)
  where
    each : (fault : KernelFault) → StatusHasCause host ⊥ old new (kernel_status fault)
    each (kernel.At chunk cause) = tt
    each kernel.OutOfMemory = tt

-- THE FILE ISN'T READ

pub kernel_unread : (told : Type 0) (text : List ℕ) (r : FileRefusal) → (told → IsFileRefusal (2 ^ 23) text r) → IsUnread (IsWrongKernel told text) (file_status r)
kernel_unread told text file.TooLarge why = why
kernel_unread told text file.DiskFault why = tt
kernel_unread told text file.OutOfMemory why = tt

pub kernel_cause : {D : Type 0} (host : Ghosts D) (old new : D) (r : FileRefusal) → FileHasCause host old new r → StatusHasCause host ⊥ old new (file_status r)
kernel_cause host old new file.TooLarge cause = tt
kernel_cause host old new file.DiskFault cause = cause
kernel_cause host old new file.OutOfMemory cause = tt
