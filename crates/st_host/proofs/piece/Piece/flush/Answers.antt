use Rattle.std.proofs.Common.{◌≡◌, ℕ, ◌+◌, [], length, take, sym, subst, ap, arith}
use Rattle.std.proofs.lemmas.List.{length-take-le}
use Rattle.st_host.specs.inside.Pieces.{Held, Holds}
use Rattle.st_host.proofs.Pushing.{written_from}
use Rattle.st_host.proofs.Texts.{flushed}
use Rattle.st_host.proofs.piece.Piece.flush.Goals as goal

pub returns-in_err-write_bytes-clause-writes : goal.returns-in_err-write_bytes-clause-writes
returns-in_err-write_bytes-clause-writes g c = written_from g.H.Host c.args.name.now _ c.args.self.now c.self.inside.at c.args.host.now c.write_bytes.new.host (ap (λ (p : Held). p.at) c.self.view_is) c.write_bytes.ensures.writes

pub returns-clause-writes : goal.returns-clause-writes
returns-clause-writes g c = written_from g.H.Host c.args.name.now _ c.args.self.now c.self.inside.at c.args.host.now c.write_bytes.new.host (ap (λ (p : Held). p.at) c.self.view_is) c.write_bytes.ensures.writes

pub returns-clause-text : goal.returns-clause-text
returns-clause-text g c told t holds =
    let file = g.H.Host.files c.args.host.now c.args.name.now in
    let new = g.H.Host.files c.write_bytes.new.host c.args.name.now in
    let at = c.self.inside.at in
    let piece = take c.self.inside.used c.self.inside.bytes in
    let before : Holds file (record { at = at; bytes = piece }) t = subst (λ (p : Held). Holds file p t) (sym c.self.view_is) holds in
    let long : length piece ≡ c.self.inside.used = length-take-le c.self.inside.used c.self.inside.bytes (omega (arith, c.self.invariant)) in
    subst (λ (n : ℕ). Holds new (record { at = at + n; bytes = [] }) t) long (flushed at piece file new t (c.in_ok-write_bytes.ensures.written told) before)
