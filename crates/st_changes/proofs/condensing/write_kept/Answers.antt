use Rattle.std.proofs.Common.{◌≡◌, ℕ, List, [], ◌++◌, length, Some, refl, sym, ap, ◌∙◌, subst, arith, length-append}
use Rattle.st_host.specs.inside.Pieces.{Held, end_of, Holds}
use Rattle.st_host.proofs.Pushing.{from_adds, adds_join}
use Rattle.st_host.proofs.Touching.{above_join, cut_above}
use Rattle.st_chunk.specs.Definitions.{entries}
use Rattle.st_changes.specs.inside.Views.{definitions_of}
use Rattle.st_changes.specs.Condensing.{kept_by}
use Rattle.st_changes.proofs.ListTexts.{entries_append}
use Rattle.st_changes.proofs.Superseding.{kept_short, many_bytes}
use Rattle.st_changes.proofs.condensing.write_kept.Goals as goal

pub returns-in_err-cut_file-clause-writes : goal.returns-in_err-cut_file-clause-writes
returns-in_err-cut_file-clause-writes g c = cut_above g.H.Host c.args.name.now 0 0 c.args.host.now c.cut_file.new.host (omega arith) (λ told. omega arith) c.cut_file.ensures.cuts

pub returns-in_err-first-clause-writes : goal.returns-in_err-first-clause-writes
returns-in_err-first-clause-writes g c =
    let H = g.H.Host in
    let name = c.args.name.now in
    let start : c.new-piece.result.at ≡ 0 = ap (λ (p : Held). p.at) c.new-piece.ensures in
    above_join H name 0 c.args.host.now c.cut_file.new.host c.push_kept.new.host
    (cut_above H name 0 0 c.args.host.now c.cut_file.new.host (omega arith) (λ told. omega arith) c.cut_file.ensures.cuts)
    (c.push_kept.ensures.pushes.writes.above 0 (omega arith) (λ told. omega (arith, start)))

pub push_kept-requires-2 : goal.push_kept-requires-2
push_kept-requires-2 g c =
    let start : end_of c.new-piece.result ≡ 0 = ap end_of c.new-piece.ensures in
    omega (arith, start, c.requires, c.in_ok-first.ensures.pushes.adds.end, kept_short c.args.marks.now (definitions_of c.args.front.now))

pub returns-in_err-second-clause-writes : goal.returns-in_err-second-clause-writes
returns-in_err-second-clause-writes g c =
    let H = g.H.Host in
    let name = c.args.name.now in
    let start : c.new-piece.result.at ≡ 0 = ap (λ (p : Held). p.at) c.new-piece.ensures in
    let K = entries (kept_by c.args.marks.now (definitions_of c.args.front.now)) in
    let both = from_adds H name K c.cut_file.new.host c.push_kept.new.host c.push_kept-2.new.host c.new-piece.result c.push_kept.new.piece c.in_ok-first.ensures.pushes.writes c.in_ok-first.ensures.pushes.adds c.push_kept-2.ensures.pushes.writes in
    above_join H name 0 c.args.host.now c.cut_file.new.host c.push_kept-2.new.host
    (cut_above H name 0 0 c.args.host.now c.cut_file.new.host (omega arith) (λ told. omega arith) c.cut_file.ensures.cuts)
    (both.above 0 (omega arith) (λ told. omega (arith, start)))

pub finish-requires : goal.finish-requires
finish-requires g c =
    let start : end_of c.new-piece.result ≡ 0 = ap end_of c.new-piece.ensures in
    omega (arith, start, c.requires, c.in_ok-first.ensures.pushes.adds.end, c.in_ok-second.ensures.pushes.adds.end, kept_short c.args.marks.now (definitions_of c.args.front.now))

pub returns-in_err-length-clause-writes : goal.returns-in_err-length-clause-writes
returns-in_err-length-clause-writes g c =
    let H = g.H.Host in
    let name = c.args.name.now in
    let start : c.new-piece.result.at ≡ 0 = ap (λ (p : Held). p.at) c.new-piece.ensures in
    let K = entries (kept_by c.args.marks.now (definitions_of c.args.front.now)) in
    let B = entries (definitions_of c.args.behind.now) in
    let b = c.cut_file.new.host in
    let p = c.new-piece.result in
    let both = from_adds H name K b c.push_kept.new.host c.push_kept-2.new.host p c.push_kept.new.piece c.in_ok-first.ensures.pushes.writes c.in_ok-first.ensures.pushes.adds c.push_kept-2.ensures.pushes.writes in
    let adds = adds_join H name K B b c.push_kept.new.host c.push_kept-2.new.host p c.push_kept.new.piece c.push_kept-2.new.piece c.in_ok-first.ensures.pushes.adds c.in_ok-second.ensures.pushes.adds in
    let all = from_adds H name (K ++ B) b c.push_kept-2.new.host c.finish.new.host p c.push_kept-2.new.piece both adds c.finish.ensures.writes in
    above_join H name 0 c.args.host.now b c.finish.new.host
    (cut_above H name 0 0 c.args.host.now b (omega arith) (λ told. omega arith) c.cut_file.ensures.cuts)
    (all.above 0 (omega arith) (λ told. omega (arith, start)))

pub overflow_add-result : goal.overflow_add-result
overflow_add-result g c =
    let K = kept_by c.args.marks.now (definitions_of c.args.front.now) in
    let B = definitions_of c.args.behind.now in
    omega (arith, c.requires, kept_short c.args.marks.now (definitions_of c.args.front.now), many_bytes K, many_bytes B, c.in_ok-first.ensures.count, c.in_ok-second.ensures.count)

pub returns-clause-length : goal.returns-clause-length
returns-clause-length g c =
    let start : end_of c.new-piece.result ≡ 0 = ap end_of c.new-piece.ensures in
    let K = kept_by c.args.marks.now (definitions_of c.args.front.now) in
    let B = definitions_of c.args.behind.now in
    let l = ap length (entries_append K B) ∙ length-append (entries K) (entries B) in
    omega (arith, start, c.in_ok-first.ensures.pushes.adds.end, c.in_ok-second.ensures.pushes.adds.end, c.in_ok-length.ensures.length, l)

pub returns-clause-file : goal.returns-clause-file
returns-clause-file g c told =
    let file = g.H.Host.files c.cut_file.new.host c.args.name.now in
    let K = kept_by c.args.marks.now (definitions_of c.args.front.now) in
    let B = definitions_of c.args.behind.now in
    let first : Holds file (record { at = 0; bytes = [] }) [] = record { there = omega arith; is = refl } in
    let begun : Holds file c.new-piece.result [] = subst (λ (p : Held). Holds file p []) (sym c.new-piece.ensures) first in
    let text = c.in_ok-second.ensures.pushes.adds.text told (entries K) (c.in_ok-first.ensures.pushes.adds.text told [] begun) in
    c.in_ok-length.ensures.file told (entries K ++ entries B) text ∙ ap (λ (t : List ℕ). Some t) (sym (entries_append K B))

pub returns-clause-writes : goal.returns-clause-writes
returns-clause-writes g c =
    let H = g.H.Host in
    let name = c.args.name.now in
    let start : c.new-piece.result.at ≡ 0 = ap (λ (p : Held). p.at) c.new-piece.ensures in
    let K = entries (kept_by c.args.marks.now (definitions_of c.args.front.now)) in
    let B = entries (definitions_of c.args.behind.now) in
    let b = c.cut_file.new.host in
    let p = c.new-piece.result in
    let both = from_adds H name K b c.push_kept.new.host c.push_kept-2.new.host p c.push_kept.new.piece c.in_ok-first.ensures.pushes.writes c.in_ok-first.ensures.pushes.adds c.push_kept-2.ensures.pushes.writes in
    let adds = adds_join H name K B b c.push_kept.new.host c.push_kept-2.new.host p c.push_kept.new.piece c.push_kept-2.new.piece c.in_ok-first.ensures.pushes.adds c.in_ok-second.ensures.pushes.adds in
    let all = from_adds H name (K ++ B) b c.push_kept-2.new.host c.finish.new.host p c.push_kept-2.new.piece both adds c.finish.ensures.writes in
    above_join H name 0 c.args.host.now b c.finish.new.host
    (cut_above H name 0 0 c.args.host.now b (omega arith) (λ told. omega arith) c.cut_file.ensures.cuts)
    (all.above 0 (omega arith) (λ told. omega (arith, start)))
