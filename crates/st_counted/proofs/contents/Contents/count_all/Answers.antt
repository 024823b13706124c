use Rattle.std.proofs.Common.{◌≡◌, [], sym, ap, ◌∙◌, subst}
use Rattle.st_model.specs.View.{IsWhole, held_at}
use Rattle.st_heap.specs.inside.Tables.{objects_of}
use Rattle.st_counted.specs.declared.contents.Contents.{Contents}
use Rattle.st_counted.specs.inside.References.{all_roots, uses, IsTallied, IsCounted}
use Rattle.st_counted.specs.inside.Counted.{counted_view, numbers_of}
use Rattle.st_counted.proofs.Moved.{moved_whole, same_counts, same_twice}
use Rattle.st_counted.proofs.contents.Contents.count_all.Goals as goal

pub raise_objects-requires-clause-whole : goal.raise_objects-requires-clause-whole
raise_objects-requires-clause-whole c = subst (λ (m : Contents). IsWhole (counted_view m)) (sym c.enter_all.ensures.rest) c.requires.whole

pub raise_objects-requires-clause-tallied : goal.raise_objects-requires-clause-tallied
raise_objects-requires-clause-tallied c = subst (λ (m : Contents). IsTallied (objects_of m.objects) (λ k. 0) (numbers_of c.enter_all.new.self)) (sym c.enter_all.ensures.rest) c.enter_all.ensures.tallied

pub raise_roots-requires-clause-whole : goal.raise_roots-requires-clause-whole
raise_roots-requires-clause-whole c =
    subst (λ (m : Contents). IsWhole (counted_view m)) (sym c.raise_objects.ensures.rest) (subst (λ (m : Contents). IsWhole (counted_view m)) (sym c.enter_all.ensures.rest) c.requires.whole)

pub raise_roots-requires-clause-held : goal.raise_roots-requires-clause-held
raise_roots-requires-clause-held c = λ p.
    ap (λ (m : Contents). held_at (counted_view m).held p) c.raise_objects.ensures.rest ∙ ap (λ (m : Contents). held_at (counted_view m).held p) c.enter_all.ensures.rest ∙ c.requires.held p

pub raise_roots-requires-clause-tallied : goal.raise_roots-requires-clause-tallied
raise_roots-requires-clause-tallied c =
    subst (λ (m : Contents). IsTallied (objects_of m.objects) (λ k. uses k (objects_of m.objects)) (numbers_of c.raise_objects.new.self)) (sym c.raise_objects.ensures.rest) c.raise_objects.ensures.tallied

-- what was changed before the list is made are the counts
counts_only : (m n l o : Contents) → n ≡ record m { counts = n.counts } → l ≡ record n { counts = l.counts } → o ≡ record l { counts = o.counts } → o ≡ record m { counts = o.counts }
counts_only m n l o a b d = d ∙ ap (λ (y : Contents). record y { counts = o.counts }) b ∙ ap (λ (y : Contents). record y { counts = o.counts }) a

pub returns-clause-rest : goal.returns-clause-rest
returns-clause-rest c =
    let m = c.args.self.now in
    let o = c.raise_roots.new.self in
    let same = same_counts m o (counts_only m c.enter_all.new.self c.raise_objects.new.self o c.enter_all.ensures.rest c.raise_objects.ensures.rest c.raise_roots.ensures.rest) in
    same_twice m o c.list_unused.new.self same c.list_unused.ensures.rest

pub returns-clause-counted : goal.returns-clause-counted
returns-clause-counted c =
    let l = c.list_unused.new.self in
    subst (λ ns. IsCounted (counted_view l).objects (all_roots (counted_view l)) [] ns) (sym c.list_unused.ensures.numbers)
    (moved_whole c.raise_roots.new.self l [] (numbers_of c.raise_roots.new.self) c.list_unused.ensures.rest c.raise_roots.ensures.counted)
