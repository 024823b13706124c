use Rattle.std.proofs.Common.{refl}
use Rattle.st_call.proofs.Pushing.{push_none}
use Rattle.st_session.proofs.watching.push_look.Goals as goal

pub returns-in-Nothing : goal.returns-in-Nothing
returns-in-Nothing g c = rw c.in-Nothing.is (record { pushes = push_none g.H.Host c.args.host.now (g.met.H.Host.only_now c.args.host.now); stops = refl })

pub returns-in-Bytecodes : goal.returns-in-Bytecodes
returns-in-Bytecodes g c = rw c.in-Bytecodes.is c.push_bytecode.ensures

pub returns-in-Entry : goal.returns-in-Entry
returns-in-Entry g c = rw c.in-Entry.is c.push_entry.ensures
