use Rattle.std.proofs.Common.{◌≡◌, ◌∙◌, rules, arith}
use Rattle.st_install.proofs.SymbolsOf.{on_ok, made_in_field, made_in_array}
use Rattle.st_install.proofs.symbol_plan.make_symbol.Goals as goal

pub returns-then-vacant-len : goal.returns-then-vacant-len
returns-then-vacant-len c =
    let text : c.in_ok-bytes.bytes.items ≡ c.args.text.now = search rules in
    on_ok c.put_in_field.result (made_in_field c.args.plan.now c.note.new.plan c.put_in_field.new.plan c.args.association c.args.text.now c.in_ok-symbol.symbol c.in_ok-symbol.ensures.part c.put_object.new.objects c.bytes_object.result c.in_ok-symbol.ensures.objects c.in_ok-bytes.bytes.items c.bytes_object.ensures text c.in_ok-note.ensures c.vacant_field-vacant.result _ c.vacant_field-vacant.ensures c.deref.ensures.value c.len.result (c.len.ensures ∙ c.note.new.plan.fields.ok.0) (let l = c.if-vacant-len.true in omega (arith, l))) c.put_in_field.ensures

pub returns-else-vacant-len : goal.returns-else-vacant-len
returns-else-vacant-len c =
    let text : c.in_ok-bytes.bytes.items ≡ c.args.text.now = search rules in
    on_ok c.put_in_array.result (made_in_array c.args.plan.now c.note.new.plan c.put_in_array.new.plan c.args.association c.args.text.now c.in_ok-symbol.symbol c.in_ok-symbol.ensures.part c.put_object.new.objects c.bytes_object.result c.in_ok-symbol.ensures.objects c.in_ok-bytes.bytes.items c.bytes_object.ensures text c.in_ok-note.ensures c.vacant_field-vacant.result _ c.vacant_field-vacant.ensures c.deref.ensures.value c.len.result (c.len.ensures ∙ c.note.new.plan.fields.ok.0) (let l = c.if-vacant-len.false in omega (arith, l))) c.put_in_array.ensures
