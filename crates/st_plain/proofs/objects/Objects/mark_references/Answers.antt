use Rattle.std.proofs.Common.{◌≡◌, ℕ, ◌≤◌, length, ap, ◌∙◌, sym, arith}
use Rattle.st_model.specs.Table.{entry}
use Rattle.st_model.specs.Settled.{or, any_below, object_names, is_marked}
use Rattle.st_plain.specs.inside.ListsPlain.{objects_of}
use Rattle.st_plain.proofs.Referring.{is_referred-end, any_below-more}
use Rattle.st_plain.proofs.objects.Objects.mark_references.Goals as goal

pub loop-k-preserved : goal.loop-k-preserved
loop-k-preserved c = λ n.
    let k = c.loop-k.k in
    let f = λ (j : ℕ). object_names (entry (objects_of c.args.self.now) j) n in
    c.mark_from.ensures n ∙ ap (or (f k)) (c.loop-k.invariant n) ∙ any_below-more k f (is_marked c.args.marks.now.names.items n)

pub returns : goal.returns
returns c = λ n.
    let o = c.args.self.now in
    let f = λ (j : ℕ). object_names (entry (objects_of o) j) n in
    let end : c.loop-k.k ≡ o.table_end = omega arith in
    let within : o.table_end ≤ length o.entries.items = let a = o.laid_out.places in let b = o.laid_out.within in omega arith in
    c.loop-k.invariant n
    ∙ ap (λ m. or (any_below m f) (is_marked c.args.marks.now.names.items n)) end
    ∙ ap (λ b. or b (is_marked c.args.marks.now.names.items n)) (sym (is_referred-end o.pointers.items o.units.items o.entries.items o.table_end n within o.laid_out.empty))
