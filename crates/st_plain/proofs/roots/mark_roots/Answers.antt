use Rattle.std.proofs.Common.{◌≡◌, ◌∷◌, [], ap, ◌∙◌, sym, map, take, arith}
use Rattle.std.specs.Prelude.{◌==◌}
use Rattle.std.proofs.lemmas.Grind.{common_steps}
use Rattle.st_model.specs.Values.{value, value_of}
use Rattle.st_model.specs.Machine.{device_roots}
use Rattle.st_model.specs.Settled.{or, any_names, is_marked}
use Rattle.st_counted.specs.inside.Held.{held_of}
use Rattle.st_plain.specs.inside.Held.{register_roots}
use Rattle.st_plain.proofs.Marking.{any_names-append, or_step}
use Rattle.st_plain.proofs.Holding.{any_names-end}
use Rattle.st_plain.proofs.roots.mark_roots.Goals as goal

pub returns : goal.returns
unfolding value_of
returns c = λ n.
    let r = c.args.roots.now in
    let p = r.places in
    let old = or (n == 1) (is_marked c.args.marks.now.names.items n) in
    let devices = value p.new_process ∷ value p.display ∷ value p.cursor ∷ value p.input_semaphore ∷ value p.timer ∷ value p.low_space ∷ [] in
    let pending = map value r.pending.items in
    let first : is_marked c.mark_all.new.self.names.items n ≡ or (any_names (map value (take r.pending_end r.pending.items)) n) (is_marked c.mark.new.self.names.items n) = grind (arith, common_steps, c.mark_all.ensures n) in
    let signals = first ∙ ap (or (any_names (map value (take r.pending_end r.pending.items)) n)) (c.mark.ensures n) ∙ any_names-end r.pending.items r.pending_end n (is_marked c.args.marks.now.names.items n) r.none in
    let registers = any_names (register_roots (held_of r)) n in
    let all_devices = any_names (device_roots (held_of r).devices) n in
    c.mark_all-3.ensures n
    ∙ ap (or registers) (c.mark_all-2.ensures n
    ∙ ap (or (any_names devices n)) signals
    ∙ or_step (any_names devices n) (any_names pending n) old
    ∙ ap (λ b. or b old) (sym (any_names-append devices pending n))
    ∙ or_step all_devices (n == 1) (is_marked c.args.marks.now.names.items n))
    ∙ or_step registers (or all_devices (n == 1)) (is_marked c.args.marks.now.names.items n)
