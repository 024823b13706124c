use Rattle.std.proofs.Common.{Err, refl, subst}
use Rattle.st_frames.specs.inside.Shown.{shown}
use Rattle.st_chunk.specs.inside.ScriptDefinitions.{definition_of}
use Rattle.st_install.specs.Defining.{installed}
use Rattle.st_install.specs.inside.Prepareds.{PreparesAs}
use Rattle.st_install.proofs.Compiling.{refused_as}
use Rattle.st_install.proofs.defining.define.Goals as goal

pub returns-in-Err-Refused-clause-installs : goal.returns-in-Err-Refused-clause-installs
returns-in-Err-Refused-clause-installs g c = λ f w s ready shows.
    let v = g.M.Memory.view c.args.m.now in
    let d = definition_of c.args.definition.now in
    let refuses = subst (λ u. PreparesAs v d (Err u)) c.in-Err-Refused.field-0-is c.in-Err-Refused.ensures in
    refused_as (installed d s) c.in-Err-Refused.why (shown v f w) (refuses (shown v f w) s (record { objects = refl; head = refl }) shows)
