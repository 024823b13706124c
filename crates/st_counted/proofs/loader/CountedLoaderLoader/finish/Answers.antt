use Rattle.std.proofs.Common.{sym, ap, ◌∙◌, subst}
use Rattle.st_model.specs.View.{IsWhole}
use Rattle.st_model.proofs.LoadingLemmas.{whole_loaded}
use Rattle.st_counted.specs.declared.contents.Head.{Head}
use Rattle.st_counted.specs.inside.Counted.{counted_view}
use Rattle.st_counted.proofs.Moved.{same_view}
use Rattle.st_counted.proofs.loader.CountedLoaderLoader.finish.Goals as goal

pub count_all-requires-clause-whole : goal.count_all-requires-clause-whole
count_all-requires-clause-whole c = whole_loaded (counted_view c.args.self.contents) c.args.self.loading c.requires

pub count_all-requires-clause-held : goal.count_all-requires-clause-held
count_all-requires-clause-held c = c.args.self.loading.held

pub new-requires-clause-whole : goal.new-requires-clause-whole
new-requires-clause-whole c =
    let m = c.args.self.contents in subst IsWhole (sym (same_view m c.count_all.new.self c.count_all.ensures.rest)) (whole_loaded (counted_view m) c.args.self.loading c.requires)

pub new-requires-clause-room : goal.new-requires-clause-room
new-requires-clause-room c =
    let rest = c.count_all.ensures.rest in rest.room ∙ c.args.self.room ∙ sym (ap (λ (h : Head). h.capacity.words) rest.head)

pub returns : goal.returns
returns c = ap counted_view c.new.ensures ∙ same_view c.args.self.contents c.count_all.new.self c.count_all.ensures.rest
