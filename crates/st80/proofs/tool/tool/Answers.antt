use Rattle.std.proofs.Common.{◌∙◌, sym, ap, refl, map}
use Rattle.std.specs.Prelude.{Some}
use Rattle.std.specs.String.{string_bytes}
use Rattle.st_host.specs.Counts.{Rose}
use Rattle.st_call.specs.declared.words.Command as declared
use Rattle.st_call.specs.inside.CommandViews.{command_view}
use Rattle.st_call.specs.Words.{Once, Import, Export, Clean, Condense, Session, Build, Drill}
use Rattle.st_session.proofs.Called.{caused_by_none, command_ends, usage_ends}
use Rattle.st80.proofs.tool.tool.Goals as goal

pub returns-in-Some-Once : goal.returns-in-Some-Once
returns-in-Some-Once g c =
    let arm = c.in-Some-Once in
    let host = g.H.Host in
    let old = c.args.host.now in
    let new = c.once.new.host in
    let script = c.args.script.now in
    let reads = Rose (g.S.Source.read_faults script) (g.S.Source.read_faults script) in
    record {
      ends = command_ends host (map string_bytes c.args.words.now) _ reads (g.S.Source.remaining script) (g.S.Source.remaining script) old new c.once.result (Once arm.image.now arm.cycles)
          (sym arm.ensures ∙ ap (λ (x : declared.Command). Some (command_view x)) arm.field-0-is) c.once.ensures.ends (caused_by_none host reads old new c.once.result c.once.ensures.cause) (λ only. c.once.ensures.reads);
    }

pub returns-in-Some-Import : goal.returns-in-Some-Import
returns-in-Some-Import g c =
    let arm = c.in-Some-Import in
    let host = g.H.Host in
    let old = c.args.host.now in
    let new = c.import.new.host in
    let script = c.args.script.now in
    let reads = Rose (g.S.Source.read_faults script) (g.S.Source.read_faults script) in
    record {
      ends = command_ends host (map string_bytes c.args.words.now) _ reads (g.S.Source.remaining script) (g.S.Source.remaining script) old new c.import.result (Import arm.image.now arm.store.now arm.over)
          (sym arm.ensures ∙ ap (λ (x : declared.Command). Some (command_view x)) arm.field-0-is) c.import.ensures.ends (caused_by_none host reads old new c.import.result c.import.ensures.cause) (λ only. absurd only);
    }

pub returns-in-Some-Export : goal.returns-in-Some-Export
returns-in-Some-Export g c =
    let arm = c.in-Some-Export in
    let host = g.H.Host in
    let old = c.args.host.now in
    let new = c.export.new.host in
    let script = c.args.script.now in
    let reads = Rose (g.S.Source.read_faults script) (g.S.Source.read_faults script) in
    record {
      ends = command_ends host (map string_bytes c.args.words.now) _ reads (g.S.Source.remaining script) (g.S.Source.remaining script) old new c.export.result (Export arm.store.now arm.image.now)
          (sym arm.ensures ∙ ap (λ (x : declared.Command). Some (command_view x)) arm.field-0-is) c.export.ensures.ends (caused_by_none host reads old new c.export.result c.export.ensures.cause) (λ only. absurd only);
    }

pub returns-in-Some-Clean : goal.returns-in-Some-Clean
returns-in-Some-Clean g c =
    let arm = c.in-Some-Clean in
    let host = g.H.Host in
    let old = c.args.host.now in
    let new = c.export-in-Some-Clean.new.host in
    let script = c.args.script.now in
    let reads = Rose (g.S.Source.read_faults script) (g.S.Source.read_faults script) in
    record {
      ends = command_ends host (map string_bytes c.args.words.now) _ reads (g.S.Source.remaining script) (g.S.Source.remaining script) old new c.export-in-Some-Clean.result (Clean arm.store.now arm.image.now)
          (sym arm.ensures ∙ ap (λ (x : declared.Command). Some (command_view x)) arm.field-0-is) c.export-in-Some-Clean.ensures.ends (caused_by_none host reads old new c.export-in-Some-Clean.result c.export-in-Some-Clean.ensures.cause) (λ only. absurd only);
    }

pub returns-in-Some-Condense : goal.returns-in-Some-Condense
returns-in-Some-Condense g c =
    let arm = c.in-Some-Condense in
    let host = g.H.Host in
    let old = c.args.host.now in
    let new = c.condense.new.host in
    let script = c.args.script.now in
    let reads = Rose (g.S.Source.read_faults script) (g.S.Source.read_faults script) in
    record {
      ends = command_ends host (map string_bytes c.args.words.now) _ reads (g.S.Source.remaining script) (g.S.Source.remaining script) old new c.condense.result (Condense arm.store.now)
          (sym arm.ensures ∙ ap (λ (x : declared.Command). Some (command_view x)) arm.field-0-is) c.condense.ensures.ends (caused_by_none host reads old new c.condense.result c.condense.ensures.cause) (λ only. absurd only);
    }

pub returns-in-Some-Build : goal.returns-in-Some-Build
returns-in-Some-Build g c =
    let arm = c.in-Some-Build in
    let host = g.H.Host in
    let old = c.args.host.now in
    let new = c.build.new.host in
    let script = c.args.script.now in
    let reads = Rose (g.S.Source.read_faults script) (g.S.Source.read_faults script) in
    record {
      ends = command_ends host (map string_bytes c.args.words.now) _ reads (g.S.Source.remaining script) (g.S.Source.remaining script) old new c.build.result (Build arm.kernel.now arm.store.now)
          (sym arm.ensures ∙ ap (λ (x : declared.Command). Some (command_view x)) arm.field-0-is) c.build.ensures.ends (caused_by_none host reads old new c.build.result c.build.ensures.cause) (λ only. absurd only);
    }

pub returns-in-Some-Drill : goal.returns-in-Some-Drill
returns-in-Some-Drill g c =
    let arm = c.in-Some-Drill in
    let host = g.H.Host in
    let old = c.args.host.now in
    let new = c.drill.new.host in
    let script = c.args.script.now in
    let reads = Rose (g.S.Source.read_faults script) (g.S.Source.read_faults script) in
    record {
      ends = command_ends host (map string_bytes c.args.words.now) _ reads (g.S.Source.remaining script) (g.S.Source.remaining script) old new c.drill.result (Drill arm.number)
          (sym arm.ensures ∙ ap (λ (x : declared.Command). Some (command_view x)) arm.field-0-is) c.drill.ensures.ends (caused_by_none host reads old new c.drill.result c.drill.ensures.cause) (λ only. c.drill.ensures.says);
    }

pub returns-in-Some-Session : goal.returns-in-Some-Session
returns-in-Some-Session g c =
    let arm = c.in-Some-Session in
    let host = g.H.Host in
    let was = c.args.script.now in
    let is = c.session.new.script in
    record {
      ends = command_ends host (map string_bytes c.args.words.now) _ (Rose (g.S.Source.read_faults was) (g.S.Source.read_faults is)) (g.S.Source.remaining was) (g.S.Source.remaining is) c.args.host.now c.session.new.host c.session.result (Session arm.store.now)
          (sym arm.ensures ∙ ap (λ (x : declared.Command). Some (command_view x)) arm.field-0-is) c.session.ensures.ends c.session.ensures.cause (λ only. absurd only);
    }

pub returns-in-None : goal.returns-in-None
returns-in-None g c =
    let script = c.args.script.now in
    record {
      ends = usage_ends g.H.Host (map string_bytes c.args.words.now) _ (Rose (g.S.Source.read_faults script) (g.S.Source.read_faults script)) (g.S.Source.remaining script) (g.S.Source.remaining script) c.args.host.now c.report_status.new.host _
          (sym c.in-None.ensures) refl c.report_status.ensures.line c.report_status.ensures.reads;
    }
