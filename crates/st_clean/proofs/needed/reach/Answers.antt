use Rattle.std.proofs.Common.{◌≡◌, length, Some, true, subst, sym, arith, refl}
use Rattle.std.specs.Prelude.{slice_get}
use Rattle.std.proofs.lemmas.Grind.{common_steps}
use Rattle.std.proofs.lemmas.Option.{slice_get_read}
use Rattle.st_model.specs.View.{is_live}
use Rattle.st_model.proofs.WholeLemmas.{used_live}
use Rattle.st_clean.proofs.Closed.{finding_begins, finding_goes, finding_ends}
use Rattle.st_clean.proofs.needed.reach.Goals as goal

pub found-init : goal.found-init
found-init g c = finding_begins (g.M.Memory.view c.args.m.now) (g.met.M.Memory.whole c.args.m.now) c.in_ok-found.found c.note_first.new.self c.in_ok-found.ensures.marks c.in_ok-found.ensures.list c.in_ok-note_first.ensures

pub note_references-requires : goal.note_references-requires
note_references-requires g c =
    let v = g.M.Memory.view c.args.m.now in
    let at : slice_get c.found.found.list.items c.found.next ≡ Some c.index-o.result.now = slice_get_read c.found.found.list.items (length c.found.found.list.items) c.found.next c.index-o.result.now refl (grind (arith, c.found-test.true, c.len.ensures)) c.index-o.ensures in
    let k = c.found.invariant.each c.found.next c.index-o.result.now at in
    record { live = subst (λ x. is_live v.objects x ≡ true) (sym k.is) (used_live v.objects k.name (k.object, k.there)) }

pub found-preserved : goal.found-preserved
found-preserved g c =
    let at : slice_get c.found.found.list.items c.found.next ≡ Some c.index-o.result.now = slice_get_read c.found.found.list.items (length c.found.found.list.items) c.found.next c.index-o.result.now refl (grind (arith, c.found-test.true, c.len.ensures)) c.index-o.ensures in
    finding_goes (g.M.Memory.view c.args.m.now) (g.met.M.Memory.whole c.args.m.now) c.found.found c.note_references.new.self c.index-o.result.now c.found.next c.found.invariant at c.in_ok-note_references.ensures

pub returns-clause-reach : goal.returns-clause-reach
returns-clause-reach g c = finding_ends (g.M.Memory.view c.args.m.now) c.found.found c.found.next c.found.invariant (grind (arith, common_steps))
