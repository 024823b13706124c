use Rattle.std.proofs.Common.{◌≡◌, ap, ◌∙◌, sym, map, take, arith}
use Rattle.std.specs.Prelude.{slice_index_or}
use Rattle.std.proofs.lemmas.Grind.{common_steps}
use Rattle.st_model.specs.Values.{value}
use Rattle.st_model.specs.Settled.{or, names, any_names, is_marked}
use Rattle.st_plain.proofs.Marking.{any_names-more, or_turn}
use Rattle.st_plain.proofs.marks.Marks.mark_all.Goals as goal

pub loop-o-preserved : goal.loop-o-preserved
loop-o-preserved c = λ n.
    let words = c.args.words.now in
    let k = c.loop-o.o-index in
    let first = c.args.self.now.names.items in
    let x = slice_index_or words k (record { 0 = 2 }) in
    let marked : is_marked c.mark.new.self.names.items n ≡ or (names (value x) n) (is_marked c.loop-o.self.names.items n) = grind (arith, common_steps, c.mark.ensures n) in
    let more = any_names-more words k n (record { 0 = 2 }) (omega arith) in
    marked
    ∙ ap (or (names (value x) n)) (c.loop-o.invariant n)
    ∙ or_turn (names (value x) n) (any_names (map value (take k words)) n) (is_marked first n)
    ∙ ap (λ b. or b (is_marked first n)) (sym more)
