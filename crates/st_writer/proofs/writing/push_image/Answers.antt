use Rattle.std.proofs.Common.{◌≡◌, ◌++◌, ℕ, Ok, Err, subst, refl, arith}
use Rattle.st_host.specs.declared.host.HostFault.{HostFault}
use Rattle.st_model.specs.Objects.{words_of}
use Rattle.st_model.specs.Table.{total_used}
use Rattle.st_host.specs.inside.Pieces.{Pushes}
use Rattle.st_host.proofs.Pushing.{push_then, push_cut}
use Rattle.st_writer.specs.Written.{head_bytes, zeros, padding, space_below, entries_below}
use Rattle.st_writer.proofs.Placing.{length-zeros}
use Rattle.st_writer.proofs.Rows.{image_parts, space_small}
use Rattle.st_writer.proofs.writing.push_image.Goals as goal

pub returns-in_err-push_zeros : goal.returns-in_err-push_zeros
returns-in_err-push_zeros g c =
    let v = g.M.Memory.view c.args.m.now in
    let head = head_bytes c.used-words.result.words c.count_entries-entries.result v.head in
    push_cut g.H.Host c.args.name.now _ head (zeros 480) _ _ _ _ _ _ _ _ c.from_residual-in_err-push_zeros.ensures.0 c.in_ok-push_head.ensures c.in_err-push_zeros.ensures

pub push_objects-requires-clause-end : goal.push_objects-requires-clause-end
push_objects-requires-clause-end g c = omega (arith, c.requires, c.in_ok-push_head.ensures.adds.end, c.in_ok-push_zeros.ensures.adds.end, length-zeros 480)

pub returns-in_err-push_objects : goal.returns-in_err-push_objects
returns-in_err-push_objects g c =
    let v = g.M.Memory.view c.args.m.now in
    let name = c.args.name.now in
    let n = c.count_entries-entries.result in
    let head = head_bytes c.used-words.result.words n v.head in
    push_cut g.H.Host name _ (head ++ zeros 480) (space_below v.objects n) _ _ _ _ _ _ _ _ c.from_residual-in_err-push_objects.ensures.0
    (push_then g.H.Host name _ head (zeros 480) _ _ _ _ _ _ _ c.in_ok-push_head.ensures c.in_ok-push_zeros.ensures refl)
    c.in_err-push_objects.ensures

pub push_zeros-requires-2-clause-end : goal.push_zeros-requires-2-clause-end
push_zeros-requires-2-clause-end g c =
    omega (
      arith,
      c.requires,
      c.in_ok-push_head.ensures.adds.end,
      c.in_ok-push_zeros.ensures.adds.end,
      c.in_ok-push_objects.ensures.adds.end,
      length-zeros 480,
      space_small (g.M.Memory.view c.args.m.now) (g.met.M.Memory.whole c.args.m.now) c.count_entries-entries.result c.count_entries-entries.ensures.count,
    )

pub returns-in_err-push_zeros-2 : goal.returns-in_err-push_zeros-2
returns-in_err-push_zeros-2 g c =
    let v = g.M.Memory.view c.args.m.now in
    let name = c.args.name.now in
    let n = c.count_entries-entries.result in
    let words = c.used-words.result.words in
    let head = head_bytes words n v.head in
    push_cut g.H.Host name _ ((head ++ zeros 480) ++ space_below v.objects n) (zeros (padding words)) _ _ _ _ _ _ _ _ c.from_residual-in_err-push_zeros-2.ensures.0
    (push_then g.H.Host name _ (head ++ zeros 480) (space_below v.objects n) _ _ _ _ _ _ _
    (push_then g.H.Host name _ head (zeros 480) _ _ _ _ _ _ _ c.in_ok-push_head.ensures c.in_ok-push_zeros.ensures refl)
    c.in_ok-push_objects.ensures refl)
    (subst (λ (m : ℕ). Pushes {E = HostFault} g.H.Host name (zeros m) c.push_objects.new.host c.push_zeros-2.new.host c.push_objects.new.piece c.push_zeros-2.new.piece (Err c.in_err-push_zeros-2.field-0.0)) c.padding.ensures.padding c.in_err-push_zeros-2.ensures)

pub push_entries-requires-clause-end : goal.push_entries-requires-clause-end
push_entries-requires-clause-end g c =
    omega (
      arith,
      c.requires,
      c.in_ok-push_head.ensures.adds.end,
      c.in_ok-push_zeros.ensures.adds.end,
      c.in_ok-push_objects.ensures.adds.end,
      c.in_ok-push_zeros-2.ensures.adds.end,
      length-zeros 480,
      length-zeros c.padding.result,
      c.padding.ensures.few,
      space_small (g.M.Memory.view c.args.m.now) (g.met.M.Memory.whole c.args.m.now) c.count_entries-entries.result c.count_entries-entries.ensures.count,
    )

pub returns : goal.returns
returns g c =
    let v = g.M.Memory.view c.args.m.now in
    let name = c.args.name.now in
    let n = c.count_entries-entries.result in
    let words = c.used-words.result.words in
    let head = head_bytes words n v.head in
    let total : words ≡ total_used words_of v.objects = λ k. (c.used-words.ensures k).words in
    push_then g.H.Host name _ (((head ++ zeros 480) ++ space_below v.objects n) ++ zeros (padding words)) (entries_below v.objects n) _ _ _ _ _ _ _
    (push_then g.H.Host name _ ((head ++ zeros 480) ++ space_below v.objects n) (zeros (padding words)) _ _ _ _ _ _ _
    (push_then g.H.Host name _ (head ++ zeros 480) (space_below v.objects n) _ _ _ _ _ _ _
    (push_then g.H.Host name _ head (zeros 480) _ _ _ _ _ _ _ c.in_ok-push_head.ensures c.in_ok-push_zeros.ensures refl)
    c.in_ok-push_objects.ensures refl)
    (subst (λ (m : ℕ). Pushes {E = HostFault} g.H.Host name (zeros m) c.push_objects.new.host c.push_zeros-2.new.host c.push_objects.new.piece c.push_zeros-2.new.piece (Ok tt)) c.padding.ensures.padding c.in_ok-push_zeros-2.ensures) refl)
    c.push_entries.ensures (image_parts v (g.met.M.Memory.whole c.args.m.now) n words c.count_entries-entries.ensures.count total)
