-- What the compiler answers.
use Rattle.std.specs.Prelude.{◌≡◌, ℕ, List, ◌++◌, codes, Option, Some, None, Result, Ok, Err, option_map}
use Rattle.std.specs.Fmt.{decimal}
use Rattle.st_code.specs.declared.fault.CodeFault.{CodeFault}
use Rattle.st_code.specs.declared.fault.CodeFault.TheVariants.{At, OutOfMemory}
use Rattle.st_code.specs.declared.fault.Fault.{Fault}
use Rattle.st_code.specs.declared.fault.Cause.{Cause}
use Rattle.st_code.specs.declared.fault.Cause.TheVariants.{Unknown, Twice, Store, Literals, Temporaries, Depth, Jump, Primitive, Number, Symbols, Size}

-- the number of a cause
abbrev pub cause_number : Cause → ℕ
cause_number Unknown = 1
cause_number Twice = 2
cause_number Store = 3
cause_number Literals = 4
cause_number Temporaries = 5
cause_number Depth = 6
cause_number Jump = 7
cause_number Primitive = 8
cause_number Number = 9
cause_number Symbols = 10
cause_number Size = 11

abbrev pub reported : Fault → CodeFault
reported f = At f.place (cause_number f.cause)

-- the place and the number in words
abbrev pub fault_text : CodeFault → List ℕ
fault_text (At place cause) = codes "code " ++ (decimal place ++ (codes " " ++ decimal cause))
fault_text OutOfMemory = codes "out of memory"

-- this fault is reported, or want of memory
abbrev pub IsFault : Option Fault → CodeFault → Type 0
IsFault f OutOfMemory = Unit {0}
IsFault f (At place cause) = option_map reported f ≡ Some (At place cause)

-- there is no fault, or the fault is reported
abbrev pub Reports : {A : Type 0} → Option Fault → Result A CodeFault → Type 0
Reports f (Ok x) = f ≡ None
Reports f (Err e) = IsFault f e
