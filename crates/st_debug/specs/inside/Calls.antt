-- A context of the stack as the code has it.
use Rattle.st_model.specs.Values.{value}
use Rattle.st_debug.specs.declared.context.Call as declared
use Rattle.st_debug.specs.Stack.{Call}

abbrev pub call_of : declared.Call → Call
call_of c = record { context = value c.context; method = value c.method; sender = value c.sender }
