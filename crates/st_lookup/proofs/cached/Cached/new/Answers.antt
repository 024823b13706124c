use Rattle.std.proofs.Common.{◌∙◌, ap, length, List}
use Rattle.std.proofs.lemmas.List.{length-replicate}
use Rattle.st_lookup.specs.declared.entry.CachedLookup.{CachedLookup}
use Rattle.st_lookup.specs.declared.entry.TheConstants.CachedLookup.{NONE}
use Rattle.st_lookup.proofs.Staying.{nothing_remembered}
use Rattle.st_lookup.proofs.cached.Cached.new.Goals as goal

pub invariant_of-result : goal.invariant_of-result
invariant_of-result g c = record {
  size = ap (λ (es : List CachedLookup). length es) c.requires ∙ length-replicate 512 NONE;
  remembered = nothing_remembered c.args.watch.words.items (g.M.Memory.view c.args.memory).objects c.args.entries.items 512 c.requires;
}
