use Rattle.std.proofs.Common.{◌≡◌, ◌≤◌, ℕ, List, take, replicate, subst}
use Rattle.std.proofs.lemmas.List.{take-replicate}
use Rattle.st_host.specs.inside.Pieces.{Pushes}
use Rattle.st_writer.specs.Written.{zeros}
use Rattle.st_writer.proofs.numbers.push_zeros.Goals as goal

zeros_first : (n : ℕ) → n ≤ 512 → take n (replicate 512 0) ≡ zeros n
unfolding zeros
zeros_first n few = take-replicate n 512 0 few

pub returns : goal.returns
returns g c =
    subst (λ (text : List ℕ). Pushes g.H.Host c.args.name.now text c.args.host.now c.push.new.host c.args.piece.now c.push.new.self c.push.result)
    (zeros_first c.args.count c.requires.few) c.push.ensures
