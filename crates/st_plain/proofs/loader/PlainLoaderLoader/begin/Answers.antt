use Rattle.std.proofs.Common.{◌≡◌, ap, sym, subst}
use Rattle.st_model.specs.View.{head_of}
use Rattle.st_model.specs.inside.Loading.{IsLoading}
use Rattle.st_model.proofs.LoadingLemmas.{loading_empty}
use Rattle.st_counted.specs.declared.contents.Head.{Head}
use Rattle.st_model.specs.Objects.{words_of}
use Rattle.st_model.specs.Table.{total_used}
use Rattle.st_plain.specs.inside.ListsPlain.{extent_of}
use Rattle.st_plain.specs.inside.Plain.{plain_view}
use Rattle.st_plain.proofs.Room.{room_start, long_start}
use Rattle.st_plain.proofs.loader.PlainLoaderLoader.begin.Goals as goal

pub invariant_of-result : goal.invariant_of-result
invariant_of-result c =
    let e = c.in_ok-contents.ensures in
    let contents = c.in_ok-contents.contents in
    let words : contents.head.capacity.words ≡ c.args.capacity.words = ap (λ (h : Head). h.capacity.words) e.head in
    record {
      loading = subst IsLoading (sym e.empty) (loading_empty (head_of c.args.capacity c.args.globals c.args.symbols) c.requires.entries c.requires.words);
      room = room_start (extent_of contents.objects) (total_used words_of (plain_view contents).objects) c.args.capacity.words contents.head.capacity.words e.extent words;
      spare = long_start (extent_of contents.spare) c.args.capacity.words contents.head.capacity.words e.spare words;
    }
