-- How faults are reported.
use Rattle.std.specs.Prelude.{ℕ, List, ◌++◌, codes}
use Rattle.std.specs.Fmt.{decimal}
use Rattle.st_scan.specs.declared.fault.SyntaxFault.{SyntaxFault}
use Rattle.st_scan.specs.declared.fault.SyntaxFault.TheVariants.{At, OutOfMemory}
use Rattle.st_scan.specs.declared.fault.Cause.{Cause}
use Rattle.st_scan.specs.declared.fault.Cause.TheVariants.{Character, Unclosed, Expected, Number, Float, Deep, Trailing}

-- the number of a cause
abbrev pub cause_number : Cause → ℕ
cause_number Character = 1
cause_number Unclosed = 2
cause_number Expected = 3
cause_number Number = 4
cause_number Float = 5
cause_number Deep = 6
cause_number Trailing = 7

-- the place and the number in words
abbrev pub fault_text : SyntaxFault → List ℕ
fault_text (At place cause) = codes "syntax " ++ (decimal place ++ (codes " " ++ decimal cause))
fault_text OutOfMemory = codes "out of memory"
