-- Why nothing is installed, by the fault of a call.
use Rattle.st_scan.specs.declared.fault.SyntaxFault.{SyntaxFault}
use Rattle.st_scan.specs.declared.fault.SyntaxFault.TheVariants as syntax
use Rattle.st_code.specs.declared.fault.CodeFault.{CodeFault}
use Rattle.st_code.specs.declared.fault.CodeFault.TheVariants as code
use Rattle.st_scope.specs.declared.fault.InstallFault.{InstallFault}
use Rattle.st_scope.specs.declared.fault.InstallFault.TheVariants as fault
use Rattle.st_protocol.specs.declared.refusal.Refusal.TheVariants as refusal
use Rattle.st_install.specs.declared.unprepared.Unprepared.{Unprepared}
use Rattle.st_install.specs.declared.unprepared.Unprepared.TheVariants.{Refused, OutOfMemory}

abbrev pub by_syntax : SyntaxFault → Unprepared
by_syntax (syntax.At place cause) = Refused (refusal.Syntax place cause)
by_syntax syntax.OutOfMemory = OutOfMemory

abbrev pub by_code : CodeFault → Unprepared
by_code (code.At place cause) = Refused (refusal.Code place cause)
by_code code.OutOfMemory = OutOfMemory

abbrev pub by_install : InstallFault → Unprepared
by_install fault.NoClass = Refused refusal.NoClass
by_install fault.NoGlobals = Refused refusal.NoGlobals
by_install (fault.NoRoom demand) = Refused (refusal.NoRoom demand)
by_install fault.Shape = Refused refusal.Shape
by_install fault.OutOfMemory = OutOfMemory
