use Rattle.std.proofs.Common.{◌≤◌, ap, sym, subst, ◌∙◌, arith}
use Rattle.st_model.specs.Image.{entries_of}
use Rattle.st_model.specs.Start.{machine_head}
use Rattle.st_model.specs.View.{View}
use Rattle.st_image.specs.inside.Loads.{IsEmpty}
use Rattle.st_image.proofs.Clean.{clean_globals, clean_symbols, clean_capacity}
use Rattle.st_image.proofs.Complete.{pointer_small, empty_is_empty, empty-head, entries_at, complete, is_start}
use Rattle.st_image.proofs.loading.load.Goals as goal

pub overflow_cast-globals : goal.overflow_cast-globals
overflow_cast-globals g c =
    let a = pointer_small c.args.image.now.head c.args.image.now.bytes.now c.args.image.now.head.globals c.args.image.now.sized.few (clean_globals c.args.image.now.head c.args.image.now.bytes.now c.requires) in omega arith

pub overflow_cast-symbols : goal.overflow_cast-symbols
overflow_cast-symbols g c =
    let a = pointer_small c.args.image.now.head c.args.image.now.bytes.now c.args.image.now.head.symbols c.args.image.now.sized.few (clean_symbols c.args.image.now.head c.args.image.now.bytes.now c.requires) in omega arith

pub begin-requires-clause-entries : goal.begin-requires-clause-entries
begin-requires-clause-entries g c = (clean_capacity c.args.image.now.head c.args.image.now.bytes.now c.requires).most_entries

pub begin-requires-clause-words : goal.begin-requires-clause-words
begin-requires-clause-words g c = (clean_capacity c.args.image.now.head c.args.image.now.bytes.now c.requires).most_words

pub load_all-requires-clause-empty : goal.load_all-requires-clause-empty
load_all-requires-clause-empty g c = subst (λ (v : View). IsEmpty v.objects) (sym c.in_ok-loader.ensures) (empty_is_empty (machine_head c.args.image.now.head))

pub load_all-requires-clause-head : goal.load_all-requires-clause-head
load_all-requires-clause-head g c = ap (λ (v : View). v.head) c.in_ok-loader.ensures ∙ empty-head (machine_head c.args.image.now.head)

pub finish-requires : goal.finish-requires
finish-requires g c =
    let few : entries_of c.args.image.now.head ≤ 32768 = c.args.image.now.sized.few in
    complete c.args.image.now.head c.args.image.now.bytes.now (g.L.Loader.loaded c.load_all.new.loader) c.requires (entries_at c.args.image.now.head c.args.image.now.bytes.now (g.L.Loader.loaded c.load_all.new.loader).objects few c.load_all.ensures.objects)
    (c.load_all.ensures.head ∙ (ap (λ (v : View). v.head) c.in_ok-loader.ensures ∙ empty-head (machine_head c.args.image.now.head)))

pub returns : goal.returns
returns g c = c.finish.ensures ∙ is_start c.args.image.now.head c.args.image.now.bytes.now (g.L.Loader.loaded c.load_all.new.loader) (g.L.Loader.loaded c.in_ok-loader.loader) c.in_ok-loader.ensures c.load_all.ensures.objects c.load_all.ensures.held c.load_all.ensures.head
