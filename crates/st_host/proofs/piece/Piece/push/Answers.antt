use Rattle.std.proofs.Common.{◌≡◌, ◌++◌, sym, ap, subst, arith, length-append}
use Rattle.st_host.specs.inside.Pieces.{Held, end_of, Holds}
use Rattle.st_host.proofs.Texts.{held_more}
use Rattle.st_host.proofs.piece.Piece.push.Goals as goal

pub returns : goal.returns
returns g c =
    let made = c.make_room.new.self in
    let file = g.H.Host.files c.make_room.new.host c.args.name.now in
    let held = c.hold.ensures in
    let end : end_of c.hold.new.self ≡ end_of (record made { bytes = made.bytes ++ c.args.bytes.now }) = ap end_of held in
    let at : c.hold.new.self.at ≡ made.at = ap (λ (p : Held). p.at) held in
    record {
      adds = record {
        on = omega (arith, at, c.in_ok-make_room.ensures.on);
        end = omega (arith, end, c.in_ok-make_room.ensures.end, length-append made.bytes c.args.bytes.now);
        text = λ told t holds. subst (λ (p : Held). Holds file p (t ++ c.args.bytes.now)) (sym held) (held_more made.at made.bytes c.args.bytes.now file t (c.in_ok-make_room.ensures.text told t holds));
      };
      writes = c.make_room.ensures.writes;
      cause = record { later = c.make_room.ensures.cause.later; rose = λ err. cc };
    }
