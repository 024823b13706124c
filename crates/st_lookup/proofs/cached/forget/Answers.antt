use Rattle.st_lookup.proofs.Staying.{nothing_remembered}
use Rattle.st_lookup.proofs.cached.forget.Goals as goal

pub returns-clause-none : goal.returns-clause-none
returns-clause-none c t = nothing_remembered c.clear.new.self.words.items t c.fill.new.self.items _ (c.fill.ensures.items (λ y e. e))
