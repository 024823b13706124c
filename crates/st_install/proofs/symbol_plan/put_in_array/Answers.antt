use Rattle.std.proofs.Common.{◌≡◌, ◌-◌, List, [], ◌∷◌, ◌++◌, length, take, refl, ap, ◌∙◌, rules, arith}
use Rattle.std.specs.Prelude.{replicate}
use Rattle.st_install.specs.declared.plan.PlannedValue.{PlannedValue}
use Rattle.st_install.specs.declared.plan.PlannedValue.TheVariants as part
use Rattle.st_install.proofs.SymbolsOf.{becomes_grown}
use Rattle.st_install.proofs.symbol_plan.put_in_array.Goals as goal

pub returns : goal.returns
returns c =
    let old = c.args.plan.now in
    let size = c.max-size.result in
    let p = c.args.symbol in
    let filled : c.resize.new.self.items ≡ take size (old.fields.items ++ p ∷ []) ++ replicate (size - length (old.fields.items ++ p ∷ [])) (part.There (record { 0 = 2 })) =
    c.in_ok-resize.ensures.items ∙ ap (λ k. take size c.push.new.self.items ++ replicate (size - k) (part.There (record { 0 = 2 }))) c.push.new.self.ok.0 ∙ ap (λ (xs : List PlannedValue). take size xs ++ replicate (size - length xs) (part.There (record { 0 = 2 }))) c.in_ok-push.ensures.items in
    let copied : c.in_ok-fields.fields.items ≡ c.resize.new.self.items = search rules in
    becomes_grown old (record { table = c.in_ok-array.array; fields = c.resize.new.self; objects = c.put_object.new.objects; stores = c.push-2.new.self; named = old.named }) c.args.association p size c.pointers_object.result
    c.in_ok-array.ensures.part (let n = c.max-size.ensures in let m = c.len.ensures in let k = old.fields.ok.0 in omega (arith, n, m, k)) filled c.in_ok-array.ensures.objects (c.pointers_object.ensures ∙ rw copied refl) c.in_ok-push-2.ensures.items refl
