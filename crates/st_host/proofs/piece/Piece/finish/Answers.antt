use Rattle.std.proofs.Common.{◌≡◌, ℕ, List, [], take, sym, ap, subst, ◌∙◌}
use Rattle.st_host.specs.inside.Pieces.{Held, Holds}
use Rattle.st_host.proofs.Pushing.{cut_behind}
use Rattle.st_host.proofs.Texts.{cut_whole}
use Rattle.st_host.proofs.piece.Piece.finish.Goals as goal

pub returns-in_err-cut_synced-clause-writes : goal.returns-in_err-cut_synced-clause-writes
returns-in_err-cut_synced-clause-writes g c =
    let flushed = c.in_ok-flush.ensures in
    cut_behind g.H.Host c.args.name.now _ _ _ _ _ _ c.flush.ensures.writes flushed.done (ap (λ (p : Held). p.at) (c.piece.view_is ∙ flushed.done)) flushed.text c.cut_synced.ensures.cuts

pub returns-clause-writes : goal.returns-clause-writes
returns-clause-writes g c =
    let flushed = c.in_ok-flush.ensures in
    cut_behind g.H.Host c.args.name.now _ _ _ _ _ _ c.flush.ensures.writes flushed.done (ap (λ (p : Held). p.at) (c.piece.view_is ∙ flushed.done)) flushed.text c.cut_synced.ensures.cuts

pub returns-clause-file : goal.returns-clause-file
returns-clause-file g c told t holds =
    let file = g.H.Host.files c.flush.new.host c.args.name.now in
    let at = c.piece.inside.at in
    let empty : take c.piece.inside.used c.piece.inside.bytes ≡ [] = ap (λ (p : Held). p.bytes) (c.piece.view_is ∙ c.in_ok-flush.ensures.done) in
    let seen : Holds file (record { at = at; bytes = take c.piece.inside.used c.piece.inside.bytes }) t =
    subst (λ (p : Held). Holds file p t) (sym c.piece.view_is) (c.in_ok-flush.ensures.text told t holds) in
    let whole : Holds file (record { at = at; bytes = [] }) t = subst (λ (b : List ℕ). Holds file (record { at = at; bytes = b }) t) empty seen in
    cut_whole at file _ t (c.in_ok-cut_synced.ensures.cut told) whole
