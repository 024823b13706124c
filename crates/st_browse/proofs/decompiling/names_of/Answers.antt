use Rattle.st_scope.specs.declared.fault.InstallFault.TheVariants as fault
use Rattle.st_parts.specs.inside.Places.{place_of}
use Rattle.st_browse.proofs.Making.{names_found, none_found}
use Rattle.st_browse.proofs.decompiling.names_of.Goals as goal

pub returns-in-Ok : goal.returns-in-Ok
returns-in-Ok g c = names_found (g.M.Memory.view c.args.m.now) (place_of c.args.of) c.in-Ok.names c.in-Ok.ensures

pub returns-in-Err-NoClass : goal.returns-in-Err-NoClass
returns-in-Err-NoClass g c =
    none_found (g.M.Memory.view c.args.m.now) (place_of c.args.of) c.in-Err-NoClass.field-0 fault.NoClass c.in-Err-NoClass.field-0-is tt c.in-Err-NoClass.ensures

pub returns-in-Err-NoGlobals : goal.returns-in-Err-NoGlobals
returns-in-Err-NoGlobals g c =
    none_found (g.M.Memory.view c.args.m.now) (place_of c.args.of) c.in-Err-NoGlobals.field-0 fault.NoGlobals c.in-Err-NoGlobals.field-0-is tt c.in-Err-NoGlobals.ensures

pub returns-in-Err-NoRoom : goal.returns-in-Err-NoRoom
returns-in-Err-NoRoom g c =
    none_found (g.M.Memory.view c.args.m.now) (place_of c.args.of) c.in-Err-NoRoom.field-0 (fault.NoRoom _) c.in-Err-NoRoom.field-0-is tt c.in-Err-NoRoom.ensures

pub returns-in-Err-Shape : goal.returns-in-Err-Shape
returns-in-Err-Shape g c =
    none_found (g.M.Memory.view c.args.m.now) (place_of c.args.of) c.in-Err-Shape.field-0 fault.Shape c.in-Err-Shape.field-0-is tt c.in-Err-Shape.ensures
