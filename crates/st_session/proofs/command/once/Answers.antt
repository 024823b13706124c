use Rattle.std.proofs.Common.{◌≡◌, List, ℕ, ◌++◌, ◌∙◌, refl, sym, ap, subst}
use Rattle.st_host.specs.declared.host.Host.{Ghosts}
use Rattle.st_host.proofs.Joining.{reads_first}
use Rattle.st_model.specs.Objects.{nil}
use Rattle.st_model.specs.Machine.{World, empty_world}
use Rattle.st_model.specs.Image.{image_head}
use Rattle.st_model.specs.Show.{Shows}
use Rattle.st_model.specs.Text.{state_text}
use Rattle.st_model.specs.View.{View}
use Rattle.st_frames.specs.declared.frame.Frame.{Frame}
use Rattle.st_frames.specs.inside.Shown.{shown}
use Rattle.st_image.specs.inside.Reading.{IsStart}
use Rattle.st_session.specs.Commands.{IsReport}
use Rattle.st_session.specs.Reports.{run_text}
use Rattle.st_session.proofs.Points.{shown_births}
use Rattle.st_session.proofs.command.once.Goals as goal

-- what is said of the births with which the book's machine begins is the report
report_of : (bytes : List ℕ) (v : View) (f : Frame) (n : ℕ) (s : IsStart (image_head bytes) bytes v f) → IsReport bytes n (run_text state_text n s.births)
report_of bytes v f n s = record { births = s.births; begins = s.begins; is = refl }

begun : (bytes : List ℕ) (v : View) (f : Frame) (w : World) (s : IsStart (image_head bytes) bytes v f) → w ≡ empty_world nil → Shows (shown v f w) s.births
begun bytes v f w s e = subst (λ (x : World). Shows (shown v f x) s.births) (sym e) s.shows

said_behind : {D : Type 0} (host : Ghosts D) (text : List ℕ) (old mid new : D) → host.said mid ≡ host.said old → host.said new ≡ host.said mid ++ text → host.said new ≡ host.said old ++ text
said_behind host text old mid new quiet says = says ∙ ap (λ x. x ++ text) quiet

pub returns-in-Ok-run_and_report-clause-ends : goal.returns-in-Ok-run_and_report-clause-ends
returns-in-Ok-run_and_report-clause-ends g c = λ told.
    let m = c.in-Ok.machine in
    let v = g.L.Done.Memory.view m.memory in
    let start = c.in-Ok.ensures.start told in
    let all = c.in-Ok-run_and_report.ensures.all start.births (begun _ v m.frame m.world start c.in-Ok.ensures.world) in
    (_, c.in-Ok.ensures.readable told, report_of _ v m.frame c.args.cycles start, said_behind g.H.Host _ c.args.host.now c.start.new.host c.run_and_report.new.host (c.start.ensures.reads.quiet told) (all.is told))

pub returns-in-Ok-clause-ends : goal.returns-in-Ok-clause-ends
returns-in-Ok-clause-ends g c = λ told.
    let m = c.in-Ok.machine in
    let v = g.L.Done.Memory.view m.memory in
    let start = c.in-Ok.ensures.start told in
    let says = c.run_and_report.ensures.says start.births (begun _ v m.frame m.world start c.in-Ok.ensures.world) in
    (_, c.in-Ok.ensures.readable told, report_of _ v m.frame c.args.cycles start, (reads_first g.H.Host _ _ _ _ c.start.ensures.reads says.part).part told)

pub returns-in-Ok-run_and_report-clause-reads : goal.returns-in-Ok-run_and_report-clause-reads
returns-in-Ok-run_and_report-clause-reads g c =
    let m = c.in-Ok.machine in
    let some = shown_births g.L.Done.Memory.view m (g.met.L.Done.Memory.whole m.memory) c.in-Ok.ensures.ready in
    (_, reads_first g.H.Host _ _ _ _ c.start.ensures.reads (c.run_and_report.ensures.says some.0 some.1).part)

pub returns-in-Ok-clause-reads : goal.returns-in-Ok-clause-reads
returns-in-Ok-clause-reads g c =
    let m = c.in-Ok.machine in
    let some = shown_births g.L.Done.Memory.view m (g.met.L.Done.Memory.whole m.memory) c.in-Ok.ensures.ready in
    (_, reads_first g.H.Host _ _ _ _ c.start.ensures.reads (c.run_and_report.ensures.says some.0 some.1).part)

pub returns-clause-reads : goal.returns-clause-reads
returns-clause-reads g c = (_, reads_first g.H.Host _ _ _ _ c.start.ensures.reads c.report_status.ensures.reads)
