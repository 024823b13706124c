use Rattle.std.proofs.Common.{◌∙◌, List, ℕ, length-set}
use Rattle.st_model.specs.Values.{value}
use Rattle.st_model.specs.Table.{Table}
use Rattle.st_lookup.specs.declared.entry.CachedLookup.{CachedLookup}
use Rattle.st_lookup.specs.inside.Remembered.{AllRemembered, Grows}
use Rattle.st_lookup.proofs.Staying.{all_grown, on_grown}
use Rattle.st_lookup.proofs.Looked.{grows_then, all_set}
use Rattle.st_lookup.proofs.cached.CachedMemory.remember.Goals as goal

-- three times more is watched
still : (old one two bits : List ℕ) (t : Table) (es : List CachedLookup) → Grows old one → Grows one two → Grows two bits → AllRemembered old t es → AllRemembered bits t es
still old one two bits t es f g h = all_grown old bits t es (grows_then old one bits f (grows_then one two bits g h))

pub invariant_of-self : goal.invariant_of-self
invariant_of-self g c =
    let a = c.args.self.now in
    let t = (g.M.Memory.view a.memory).objects in
    let one = c.add.new.self.words.items in
    let two = c.add-2.new.self.words.items in
    let bits = c.mark.new.watch.words.items in
    let entry : CachedLookup = record { class = c.args.class; selector = c.args.selector; method = c.args.method } in
    record {
      size = length-set a.entries.items c.slot.result entry ∙ a.size;
      remembered = all_set bits t a.entries.items c.slot.result entry
          (still _ one two bits t a.entries.items c.add.ensures.grows c.add-2.ensures.grows c.mark.ensures a.remembered)
          (record {
            class = on_grown one bits (value c.args.class) (grows_then one two bits c.add-2.ensures.grows c.mark.ensures) c.add.ensures.on;
            selector = on_grown two bits (value c.args.selector) c.mark.ensures c.add-2.ensures.on;
            finds = λ live. c.is_seen.ensures c.if-is_seen.true;
          });
    }

pub invariant_of-self-else-is_seen-clause-remembered : goal.invariant_of-self-else-is_seen-clause-remembered
invariant_of-self-else-is_seen-clause-remembered g c =
    let a = c.args.self.now in
    still _ c.add.new.self.words.items c.add-2.new.self.words.items _ _ _ c.add.ensures.grows c.add-2.ensures.grows c.mark.ensures a.remembered
