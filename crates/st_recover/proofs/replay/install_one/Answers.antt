use Rattle.std.proofs.Common.{◌≡◌, ◌∙◌, Err, refl, sym, subst}
use Rattle.st_frames.specs.inside.Shown.{shown}
use Rattle.st_chunk.specs.Definitions.{Definition}
use Rattle.st_chunk.specs.inside.ScriptDefinitions.{definition_of}
use Rattle.st_protocol.specs.inside.Installations.{InstallsAs}
use Rattle.st_protocol.specs.declared.installation.Installation.TheVariants as installation
use Rattle.st_install.specs.Defining.{installed}
use Rattle.st_install.specs.inside.Prepareds.{IsPrepared, PreparesAs}
use Rattle.st_install.proofs.Compiling.{refused_as}
use Rattle.st_changes.specs.inside.Views.{definition_of as kept_definition}
use Rattle.st_changes.specs.Last.{HasSelector}
use Rattle.st_recover.proofs.Selectors.{prepared_selector}
use Rattle.st_recover.proofs.replay.install_one.Goals as goal

pub returns-in_ok-selector-in-Ok-clause-installs : goal.returns-in_ok-selector-in-Ok-clause-installs
returns-in_ok-selector-in-Ok-clause-installs g c = λ f w s ready shows.
    let v = g.M.Memory.view c.args.m.now in
    let d = kept_definition c.args.definition.now in
    let prepared : IsPrepared v d c.in-Ok.prepared = subst (λ (x : Definition). IsPrepared v x c.in-Ok.prepared) c.lend.ensures c.in-Ok.ensures in
    c.carry_out.ensures.installs d f w s prepared ready shows

pub returns-in_ok-selector-in-Ok-clause-finds : goal.returns-in_ok-selector-in-Ok-clause-finds
returns-in_ok-selector-in-Ok-clause-finds g c =
    let v = g.M.Memory.view c.args.m.now in
    let d = kept_definition c.args.definition.now in
    let prepared : IsPrepared v d c.in-Ok.prepared = subst (λ (x : Definition). IsPrepared v x c.in-Ok.prepared) c.lend.ensures c.in-Ok.ensures in
    let is : c.in_ok-selector-in-Ok.selector.items ≡ c.in-Ok.prepared.selector.items = c.in_ok-selector-in-Ok.ensures.items_if_clones_equal (λ x y h. h) ∙ c.deref.ensures.value in
    subst (HasSelector d.text) (sym is) (prepared_selector v d c.in-Ok.prepared prepared)

pub returns-in_ok-find_selector-in-Err-Refused-clause-installs : goal.returns-in_ok-find_selector-in-Err-Refused-clause-installs
returns-in_ok-find_selector-in-Err-Refused-clause-installs g c = λ f w s ready shows.
    let v = g.M.Memory.view c.args.m.now in
    let d = definition_of c.lend.result in
    let refuses = subst (λ u. PreparesAs v d (Err u)) c.in-Err-Refused.field-0-is c.in-Err-Refused.ensures in
    subst (λ (x : Definition). InstallsAs (installed x s) (installation.Refused c.in-Err-Refused.why) (shown v f w)) c.lend.ensures
    (refused_as (installed d s) c.in-Err-Refused.why (shown v f w) (refuses (shown v f w) s (record { objects = refl; head = refl }) shows))
