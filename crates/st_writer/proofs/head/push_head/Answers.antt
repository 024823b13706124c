use Rattle.std.proofs.Common.{◌≡◌, ◌*◌, ℕ, List, [], ◌∷◌, subst, ◌∙◌}
use Rattle.std.specs.List.{flat_map}
use Rattle.st_host.specs.inside.Pieces.{Pushes}
use Rattle.st_writer.specs.Written.{long_bytes, root_word}
use Rattle.st_writer.proofs.Places.{root_back}
use Rattle.st_writer.proofs.head.push_head.Goals as goal

pub returns : goal.returns
returns g c =
    let h = (g.M.Memory.view c.args.m.now).head in
    let globals : c.from.result ≡ root_word h.globals = c.from.ensures ∙ root_back c.globals.result.0 h.globals c.globals.ensures in
    let symbols : c.from-2.result ≡ root_word h.symbols = c.from-2.ensures ∙ root_back c.symbols.result.0 h.symbols c.symbols.ensures in
    let entries : c.capacity-capacity.result.entries ≡ h.entries = λ k. (c.capacity-capacity.ensures k).entries in
    let words : c.capacity-capacity.result.words ≡ h.words = λ k. (c.capacity-capacity.ensures k).words in
    subst (λ (text : List ℕ). Pushes g.H.Host c.args.name.now text c.args.host.now c.push_longs.new.host c.args.piece.now c.push_longs.new.piece c.push_longs.result)
    (λ k. flat_map long_bytes (c.args.words ∷ 3 * c.args.entries ∷ 1398028336 ∷ 2 ∷ entries k ∷ words k ∷ globals k ∷ symbols k ∷ [])) c.push_longs.ensures
