use Rattle.std.proofs.Common.{sym, subst}
use Rattle.st_model.specs.View.{head_of}
use Rattle.st_model.specs.inside.Loading.{IsLoading}
use Rattle.st_model.proofs.LoadingLemmas.{loading_empty}
use Rattle.st_counted.proofs.loader.CountedLoaderLoader.begin.Goals as goal

pub invariant_of-result : goal.invariant_of-result
invariant_of-result c =
    let e = c.in_ok-contents.ensures in
    record {
      loading = subst IsLoading (sym e.empty) (loading_empty (head_of c.args.capacity c.args.globals c.args.symbols) c.requires.entries c.requires.words);
      room = e.room;
      uncounted = e.counts;
    }
