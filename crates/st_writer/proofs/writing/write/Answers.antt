use Rattle.std.proofs.Common.{◌≡◌, [], refl, sym, ap, subst, arith}
use Rattle.st_host.proofs.Pushing.{from_adds}
use Rattle.st_host.specs.inside.Pieces.{Held, end_of, Holds}
use Rattle.st_writer.specs.Written.{image_of}
use Rattle.st_writer.proofs.Rows.{image_small}
use Rattle.st_writer.proofs.writing.write.Goals as goal

pub finish-requires : goal.finish-requires
finish-requires g c =
    let start : end_of c.new-piece.result ≡ 0 = ap end_of c.new-piece.ensures in
    omega (arith, start, c.in_ok-push_image.ensures.adds.end, image_small (g.M.Memory.view c.args.m.now) (g.met.M.Memory.whole c.args.m.now))

pub returns-in_err-length-clause-writes : goal.returns-in_err-length-clause-writes
returns-in_err-length-clause-writes g c =
    let start : c.new-piece.result.at ≡ 0 = ap (λ (p : Held). p.at) c.new-piece.ensures in
    (from_adds g.H.Host c.args.name.now (image_of (g.M.Memory.view c.args.m.now)) c.args.host.now c.push_image.new.host c.finish.new.host c.new-piece.result c.push_image.new.piece
    c.in_ok-push_image.ensures.writes c.in_ok-push_image.ensures.adds c.finish.ensures.writes).above 0 (omega arith) (λ told. omega (arith, start))

pub returns-clause-writes : goal.returns-clause-writes
returns-clause-writes g c =
    let start : c.new-piece.result.at ≡ 0 = ap (λ (p : Held). p.at) c.new-piece.ensures in
    (from_adds g.H.Host c.args.name.now (image_of (g.M.Memory.view c.args.m.now)) c.args.host.now c.push_image.new.host c.finish.new.host c.new-piece.result c.push_image.new.piece
    c.in_ok-push_image.ensures.writes c.in_ok-push_image.ensures.adds c.finish.ensures.writes).above 0 (omega arith) (λ told. omega (arith, start))

-- the piece begins with the text of no bytes
pub returns-clause-file : goal.returns-clause-file
returns-clause-file g c told =
    let file = g.H.Host.files c.args.host.now c.args.name.now in
    let first : Holds file (record { at = 0; bytes = [] }) [] = record { there = omega arith; is = refl } in
    let begun : Holds file c.new-piece.result [] = subst (λ (p : Held). Holds file p []) (sym c.new-piece.ensures) first in
    c.in_ok-length.ensures.file told (image_of (g.M.Memory.view c.args.m.now)) (c.in_ok-push_image.ensures.adds.text told [] begun)

pub returns-in_err-push_image-clause-writes : goal.returns-in_err-push_image-clause-writes
returns-in_err-push_image-clause-writes g c =
    let start : c.new-piece.result.at ≡ 0 = ap (λ (p : Held). p.at) c.new-piece.ensures in
    c.in_err-push_image.ensures.writes.above 0 (omega arith) (λ told. omega (arith, start))
