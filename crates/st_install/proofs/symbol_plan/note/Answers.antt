use Rattle.std.proofs.Common.{◌≡◌, refl, ap, ◌∙◌, subst, rules}
use Rattle.st_install.specs.Symbols.{symbol_part}
use Rattle.st_install.specs.inside.Told.{named_of}
use Rattle.st_install.specs.inside.Readies.{part_of}
use Rattle.st_install.specs.inside.Naming.{Becomes, with_named}
use Rattle.st_install.proofs.SymbolsOf.{becomes_named}
use Rattle.st_install.proofs.symbol_plan.note.Goals as goal

pub returns : goal.returns
returns c =
    let old = c.args.plan.now in
    let key = c.in_ok-to_vec.field-0 in
    let same : key.items ≡ c.args.text.now = search rules in
    subst (λ t. Becomes (with_named t (part_of c.args.symbol)) old (record { table = old.table; fields = old.fields; objects = old.objects; stores = old.stores; named = c.insert.new.self })) same
    (becomes_named old (record { table = old.table; fields = old.fields; objects = old.objects; stores = old.stores; named = c.insert.new.self }) key c.args.symbol refl refl refl refl
    c.in_ok-insert.ensures.updates (ap (λ t. symbol_part (named_of old.named.entries) t) same ∙ c.requires))
