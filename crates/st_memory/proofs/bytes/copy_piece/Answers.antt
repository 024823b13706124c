use Rattle.std.proofs.Common.{◌≡◌, ℕ, ◌-◌, List, length, take, ap, ◌∙◌, arith}
use Rattle.std.specs.Prelude.{replicate}
use Rattle.std.proofs.lemmas.List.{length-take-le}
use Rattle.st_model.specs.Values.{value}
use Rattle.st_memory.specs.inside.Copied.{units_from, with_run}
use Rattle.st_memory.proofs.Laying.{first_is_none, above_first}
use Rattle.st_memory.proofs.bytes.copy_piece.Goals as goal

pub read_bytes-requires-clause-above : goal.read_bytes-requires-clause-above
read_bytes-requires-clause-above g c = above_first (g.met.M.Memory.whole c.args.m.now) c.requires.source

pub write_bytes-requires-clause-above : goal.write_bytes-requires-clause-above
write_bytes-requires-clause-above g c = above_first (g.met.M.Memory.whole c.args.m.now) c.requires.target

pub returns-clause-objects : goal.returns-clause-objects
returns-clause-objects g c =
    let t = (g.M.Memory.view c.args.m.now).objects in
    let s = value c.args.source in
    let v = value c.args.target in
    let a = first_is_none (g.met.M.Memory.whole c.args.m.now) c.requires.source in
    let b = first_is_none (g.met.M.Memory.whole c.args.m.now) c.requires.target in
    let from : c.args.from - 0 ≡ c.args.from = omega arith in
    let to : c.args.to - 0 ≡ c.args.to = omega arith in
    let zeros : List ℕ = replicate 256 0 in
    let room : length (take c.args.n zeros) ≡ c.args.n = length-take-le c.args.n zeros c.requires.few in
    let read : c.read_bytes.new.into ≡ units_from t s c.args.from c.args.n =
    c.read_bytes.ensures ∙ ap (λ i. units_from t s (c.args.from - i) (length (take c.args.n zeros))) a ∙ (λ i. units_from t s (from i) (room i)) in
    c.write_bytes.ensures.objects
    ∙ ap (λ i. with_run t v (c.args.to - i) c.read_bytes.new.into) b ∙ (λ i. with_run t v (to i) (read i))
