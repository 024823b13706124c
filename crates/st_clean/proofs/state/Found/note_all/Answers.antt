use Rattle.std.proofs.Common.{[], ◌∷◌, take, map, take_all, subst, arith, sym, get_or}
use Rattle.std.proofs.lemmas.Grind.{common_steps}
use Rattle.std.proofs.lemmas.List.{map_more}
use Rattle.st_model.specs.Values.{value}
use Rattle.st_clean.specs.inside.Found.{Notes}
use Rattle.st_clean.proofs.Steps.{notes_none, notes_join}
use Rattle.st_clean.proofs.state.Found.note_all.Goals as goal

pub loop-o-init : goal.loop-o-init
loop-o-init c = notes_none c.args.self.now

pub loop-o-preserved : goal.loop-o-preserved
loop-o-preserved c =
    let words = c.args.words.now in
    let k = c.loop-o.o-index in
    let x = get_or words k (record { 0 = 2 }) in
    let one : Notes (value x ∷ []) c.loop-o.self c.note.new.self = grind (arith, common_steps, c.in_ok-note.ensures) in
    subst (λ vs. Notes vs c.args.self.now c.note.new.self) (sym (map_more value words k (record { 0 = 2 }) (omega arith)))
    (notes_join (map value (take k words)) (value x ∷ []) c.args.self.now c.loop-o.self c.note.new.self c.loop-o.invariant one)

pub returns : goal.returns
returns c = subst (λ vs. Notes (map value vs) c.args.self.now c.loop-o.self) (take_all c.loop-o.o-index c.args.words.now (omega arith)) c.loop-o.invariant
