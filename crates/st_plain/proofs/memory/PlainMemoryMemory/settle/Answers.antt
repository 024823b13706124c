use Rattle.std.proofs.Common.{sym, ◌∙◌, subst, arith}
use Rattle.st_model.specs.Table.{Table}
use Rattle.st_model.specs.View.{view_roots}
use Rattle.st_model.proofs.Settling.{DropsTo}
use Rattle.st_model.proofs.Rounds.{KeepsNeeded, drops_all, whole_settled, moved_roots}
use Rattle.st_plain.specs.inside.Plain.{plain_view, is_needed}
use Rattle.st_plain.proofs.Needing.{keeps_needed, settles_to}
use Rattle.st_plain.proofs.memory.PlainMemoryMemory.settle.Goals as goal

pub invariant_of-self : goal.invariant_of-self
invariant_of-self c =
    let m = c.loop.self in
    let v = plain_view m.contents in
    let w = plain_view c.drop_unneeded.new.self in
    let e = c.drop_unneeded.ensures in
    record { whole = whole_settled v w (is_needed v) m.whole (keeps_needed v) e.objects e.held e.head; long = e.long m.long }

pub loop-preserved : goal.loop-preserved
loop-preserved c =
    let first = plain_view c.args.self.now.contents in
    let v = plain_view c.loop.self.contents in
    let w = plain_view c.drop_unneeded.new.self in
    let i = c.loop.invariant in
    let e = c.drop_unneeded.ensures in
    record {
      drops = subst (λ (t : Table). DropsTo first.objects t (view_roots first)) (sym e.objects)
          (drops_all first.objects v.objects (view_roots first) (is_needed v) i.drops
          (subst (λ (xs : _). KeepsNeeded v.objects xs (is_needed v)) (moved_roots first v i.held i.head) (keeps_needed v)));
      held = e.held ∙ i.held;
      head = e.head ∙ i.head;
    }

pub returns-then-drop_unneeded-eq0-clause-settles : goal.returns-then-drop_unneeded-eq0-clause-settles
returns-then-drop_unneeded-eq0-clause-settles c =
    let i = c.loop.invariant in
    let e = c.drop_unneeded.ensures in
    let none = c.if-drop_unneeded-eq0.true in
    let gone = e.gone in
    settles_to (plain_view c.args.self.now.contents) (plain_view c.loop.self.contents) (plain_view c.drop_unneeded.new.self) i.drops i.held i.head e.objects e.held e.head (omega (arith, none, gone))
