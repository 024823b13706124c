use Rattle.std.proofs.Common.{◌≡◌, [], ◌∷◌, ◌++◌, refl, ap, ◌∙◌, rules}
use Rattle.std.specs.Vec.{with_item}
use Rattle.std.proofs.lemmas.List.{map-append}
use Rattle.st_install.specs.inside.Readies.{part_of, store_of, stores_of}
use Rattle.st_install.proofs.SymbolsOf.{becomes_stored}
use Rattle.st_install.proofs.symbol_plan.put_in_field.Goals as goal

pub returns : goal.returns
returns c =
    let old = c.args.plan.now in
    let number : c.in-Ok.field ≡ c.args.vacant = search (rules, c.in-Ok.ensures) in
    let stored : stores_of c.push.new.self.items ≡ stores_of old.stores.items ++ record { object = part_of old.table; field = c.args.vacant; value = part_of c.args.symbol } ∷ [] =
    ap stores_of c.in_ok-push.ensures.items ∙ map-append store_of old.stores.items (record { object = old.table; field = c.in-Ok.field; value = c.args.symbol } ∷ [])
    ∙ ap (λ k. stores_of old.stores.items ++ record { object = part_of old.table; field = k; value = part_of c.args.symbol } ∷ []) number in
    becomes_stored old (record { table = old.table; fields = with_item old.fields c.args.vacant c.args.symbol; objects = old.objects; stores = c.push.new.self; named = old.named }) c.args.vacant c.args.symbol refl refl refl stored refl
