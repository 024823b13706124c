use Rattle.std.proofs.Common.{refl, ◌∷◌, [], ◌∙◌, ◌+◌, take, get_or, sym, ap, subst, Ok}
use Rattle.std.proofs.lemmas.List.{take_all, take_more}
use Rattle.st_chunk.specs.Reading.{read}
use Rattle.st_chunk.specs.Scripts.{told_from, read_through}
use Rattle.st_session.proofs.Following.{read_both}
use Rattle.st_session.proofs.Requests.{Answers_all, none_asked, byte_asked, bytes_behind}
use Rattle.st_session.proofs.reading.feed_all.Goals as goal

pub loop-byte-init : goal.loop-byte-init
loop-byte-init g c = record { reader = refl; serves = none_asked g.M.Memory.view g.H.Host c.args.kept.now c.args.host.now c.requires.go_on (g.met.H.Host.only_now c.args.host.now) }

pub feed-requires : goal.feed-requires
feed-requires g c = record { go_on = c.loop-byte.invariant.serves.go_on }

pub loop-byte-preserved : goal.loop-byte-preserved
loop-byte-preserved g c =
    let bytes = c.args.bytes.now in
    let i = c.loop-byte.byte-index in
    let r = c.args.reader.now in
    let b = get_or bytes i 0 in
    let inv = c.loop-byte.invariant in
    record {
      reader = c.feed.ensures.reader ∙ (ap (λ x. (read x b).0) inv.reader ∙ (sym (read_both r (take i bytes) (b ∷ [])) ∙ ap (read_through r) (sym (take_more bytes i 0 c.loop-byte-test.true))));
      serves = byte_asked r c.loop-byte.reader bytes i c.loop-byte-test.true inv.reader inv.serves c.in-Ok.ensures.serves;
    }

pub returns-in-Err-clause-serves : goal.returns-in-Err-clause-serves
returns-in-Err-clause-serves g c =
    let bytes = c.args.bytes.now in
    let i = c.loop-byte.byte-index in
    let r = c.args.reader.now in
    let inv = c.loop-byte.invariant in
    bytes_behind r bytes (i + 1) (byte_asked r c.loop-byte.reader bytes i c.loop-byte-test.true inv.reader inv.serves c.in-Err.ensures.serves)

pub returns-clause-serves : goal.returns-clause-serves
returns-clause-serves g c =
    subst (λ bytes. Answers_all g.M.Memory.view g.H.Host (told_from c.args.reader.now bytes) c.args.kept.now c.args.host.now (Ok tt) c.loop-byte.kept c.loop-byte.host) (take_all c.loop-byte.byte-index c.args.bytes.now c.loop-byte-test.false) c.loop-byte.invariant.serves
