use Rattle.std.proofs.Common.{◌≡◌, sym, subst, rules}
use Rattle.std.specs.Prelude.{slice_get, Some, true}
use Rattle.std.proofs.lemmas.Option.{slice_get_read}
use Rattle.st_model.specs.Values.{value}
use Rattle.st_model.specs.View.{is_live}
use Rattle.st_memory.specs.inside.Searched.{Finds}
use Rattle.st_lookup.specs.declared.entry.CachedLookup.{CachedLookup}
use Rattle.st_lookup.proofs.Staying.{finds_all}
use Rattle.st_lookup.proofs.cached.CachedMemory.remembered.Goals as goal

pub returns-then-eq-2 : goal.returns-then-eq-2
returns-then-eq-2 g c =
    let a = c.args.self.now in
    let t = (g.M.Memory.view a.memory).objects in
    let e : CachedLookup = c.index.result.now in
    let there : slice_get a.entries.items c.slot.result ≡ Some e = slice_get_read a.entries.items 512 c.slot.result e (sym a.size) c.slot.ensures c.index.ensures in
    let p : e.class ≡ c.args.class = search rules in
    let q : e.selector ≡ c.args.selector = search rules in
    let found = finds_all a.watch.words.items t e (a.remembered c.slot.result e there)
    (subst (λ x. is_live t (value x) ≡ true) (sym p) c.requires) in
    subst (λ x. Finds t (value x) (value c.args.selector) (value e.method)) p (subst (λ x. Finds t (value e.class) (value x) (value e.method)) q found)
