use Rattle.std.proofs.Common.{◌≡◌, ap, sym, ◌∙◌, map, take, drop, arith}
use Rattle.std.specs.Prelude.{Some, None}
use Rattle.std.proofs.lemmas.Grind.{common_steps}
use Rattle.st_model.specs.Values.{value}
use Rattle.st_model.specs.Settled.{or, names, any_names, is_marked}
use Rattle.st_plain.specs.inside.Lists.{slot}
use Rattle.st_plain.proofs.Marking.{or_step}
use Rattle.st_plain.proofs.Referring.{object_names-some, object_names-none}
use Rattle.st_plain.proofs.objects.Objects.mark_from.Goals as goal

pub returns-in-Some : goal.returns-in-Some
returns-in-Some c = λ n.
    let o = c.args.self.now in
    let e = c.in-Some.e in
    let old = is_marked c.args.marks.now.names.items n in
    let h : slot o.entries.items c.args.k ≡ Some e = grind (arith, common_steps) in
    let fields = any_names (map value (take e.fields (drop e.fields_at o.pointers.items))) n in
    let marked : is_marked c.mark_all.new.self.names.items n ≡ or fields old = grind (arith, common_steps, c.mark_all.ensures n) in
    c.mark.ensures n
    ∙ ap (or (names (value e.class) n)) marked
    ∙ or_step (names (value e.class) n) fields old
    ∙ ap (λ b. or b old) (sym (object_names-some o.pointers.items o.units.items o.entries.items c.args.k n e h c.in-Some.ensures.placed.class))

pub returns-in_default : goal.returns-in_default
returns-in_default c = λ n.
    let o = c.args.self.now in
    let h : slot o.entries.items c.args.k ≡ None = grind (arith, common_steps) in
    ap (λ b. or b (is_marked c.args.marks.now.names.items n)) (sym (object_names-none o.pointers.items o.units.items o.entries.items c.args.k n h))
