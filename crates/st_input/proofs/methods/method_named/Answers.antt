use Rattle.std.proofs.Common.{arith}
use Rattle.st_input.proofs.Done.{named_objects}
use Rattle.st_input.proofs.methods.method_named.Goals as goal

pub returns-in_err-object-clause-named : goal.returns-in_err-object-clause-named
returns-in_err-object-clause-named g c = grind (arith, named_objects)

pub returns-then-is_method-clause-named : goal.returns-then-is_method-clause-named
returns-then-is_method-clause-named g c = grind (arith, named_objects)

pub returns-then-is_method-clause-header : goal.returns-then-is_method-clause-header
returns-then-is_method-clause-header g c = grind (arith, named_objects)

pub returns-else-is_method-clause-named : goal.returns-else-is_method-clause-named
returns-else-is_method-clause-named g c = grind (arith, named_objects)
