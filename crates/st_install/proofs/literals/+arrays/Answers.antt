use Rattle.std.proofs.Common.{◌≡◌, ◌+◌, List, Err, length, get_or, set, sym, ap, ◌∙◌, subst, rules}
use Rattle.st_model.specs.Machine.{Step}
use Rattle.st_model.specs.Table.{Table}
use Rattle.st_install.specs.declared.plan.PlannedValue.{PlannedValue}
use Rattle.st_install.specs.declared.plan.NewObject.{NewObject}
use Rattle.st_scope.specs.declared.unread.Unread.TheVariants.{Dies}
use Rattle.st_install.specs.Literals.{Placed}
use Rattle.st_install.specs.inside.Told.{Places}
use Rattle.st_install.proofs.Placing.{LeftLiterals, left_begins, left_ends, left_fails, left_placed, elements_fail, placed_array, empty_array, character_placed, character_dies, symbol_placed, symbol_dies, pointer_placed, pointer_dies, number_placed, string_placed, owner_placed, owner_fails, array_is}
use Rattle.st_install.proofs.literals.+arrays.Goals as goal

-- ARRAYS

pub place_array-returns-in_err-fields : goal.place_array-returns-in_err-fields
place_array-returns-in_err-fields g t c =
    let e : c.from_residual-in_err-fields.result ≡ Err c.in_err-fields.field-0.0 = search rules in
    rw e (elements_fail c.args.named.now.entries c.args.of (g.M.Memory.view c.args.m.now).objects c.args.members.now c.args.objects.now.items c.put_object.new.objects.items c.pointers_object.result c.in_ok-part.ensures.objects
    c.in_err-fields.field-0.0 c.place_literals.new.objects.items c.place_literals.new.objects.items c.in_err-fields.ensures)

pub place_array-returns : goal.place_array-returns
place_array-returns g t c =
    let old = c.args.objects.now.items in
    let two = c.place_literals.new.objects.items in
    let y = c.index_mut.result.now in
    let number : c.len-number.result ≡ length old = c.len-number.ensures ∙ c.args.objects.now.ok.0 in
    let full : NewObject = record { class = y.class; kind = y.kind; fields = c.in_ok-fields.fields; bytes = y.bytes } in
    placed_array c.args.named.now.entries c.args.of (g.M.Memory.view c.args.m.now).objects c.args.members.now old c.put_object.new.objects.items c.pointers_object.result c.in_ok-part.ensures.objects
    two (set two c.len-number.result full) y c.in_ok-fields.fields c.in_ok-part.part (empty_array c.pointers_object.result c.new.result.items c.pointers_object.ensures c.new.ensures.items) c.in_ok-fields.ensures
    (ap (λ k. set two k full) number) (c.index_mut.ensures.value ∙ ap (λ k. get_or two k y) number) c.in_ok-part.ensures.part

-- LITERALS

pub place_literal-returns-in_err-place_character-in-Character : goal.place_literal-returns-in_err-place_character-in-Character
place_literal-returns-in_err-place_character-in-Character g t c =
    let e : c.from_residual-in_err-place_character-in-Character.result ≡ Err (Dies c.in_err-place_character-in-Character.field-0.0) = search rules in
    rw e (character_dies c.args.named.now.entries c.args.of (g.M.Memory.view c.args.m.now).objects c.args.literal.now c.args.objects.now.items c.in-Character.byte c.in_err-place_character-in-Character.field-0.0
    c.in-Character.is c.in_err-place_character-in-Character.ensures)

pub place_literal-returns-in_ok-place_character-in-Character : goal.place_literal-returns-in_ok-place_character-in-Character
place_literal-returns-in_ok-place_character-in-Character g t c =
    character_placed c.args.named.now.entries c.args.of (g.M.Memory.view c.args.m.now).objects c.args.literal.now c.args.objects.now.items c.in-Character.byte c.in_ok-place_character-in-Character.field-0
    c.in-Character.is c.in_ok-place_character-in-Character.ensures

pub place_literal-returns-in_err-place_symbol-in-Symbol : goal.place_literal-returns-in_err-place_symbol-in-Symbol
place_literal-returns-in_err-place_symbol-in-Symbol g t c =
    let u = (g.M.Memory.view c.args.m.now).objects in
    let e : c.from_residual-in_err-place_symbol-in-Symbol.result ≡ Err (Dies c.in_err-place_symbol-in-Symbol.field-0.0) = search rules in
    rw e (symbol_dies c.args.named.now.entries c.args.of u c.args.literal.now c.args.objects.now.items c.in-Symbol.text c.deref-in-Symbol.result.now c.in_err-place_symbol-in-Symbol.field-0.0
    c.in-Symbol.is c.deref-in-Symbol.ensures.value (c.in_err-place_symbol-in-Symbol.ensures u))

pub place_literal-returns-in_ok-place_symbol-in-Symbol : goal.place_literal-returns-in_ok-place_symbol-in-Symbol
place_literal-returns-in_ok-place_symbol-in-Symbol g t c =
    let u = (g.M.Memory.view c.args.m.now).objects in
    symbol_placed c.args.named.now.entries c.args.of u c.args.literal.now c.args.objects.now.items c.in-Symbol.text c.deref-in-Symbol.result.now c.in_ok-place_symbol-in-Symbol.field-0
    c.in-Symbol.is c.deref-in-Symbol.ensures.value (c.in_ok-place_symbol-in-Symbol.ensures u)

pub place_literal-returns-in_err-place_pointer-in-Named : goal.place_literal-returns-in_err-place_pointer-in-Named
place_literal-returns-in_err-place_pointer-in-Named g t c =
    let e : c.from_residual-in_err-place_pointer-in-Named.result ≡ Err (Dies c.in_err-place_pointer-in-Named.field-0.0) = search rules in
    rw e (pointer_dies c.args.named.now.entries c.args.of (g.M.Memory.view c.args.m.now).objects c.args.literal.now c.args.objects.now.items c.in-Named.pointer c.in_err-place_pointer-in-Named.field-0.0
    c.in-Named.is c.in_err-place_pointer-in-Named.ensures)

pub place_literal-returns-in_ok-place_pointer-in-Named : goal.place_literal-returns-in_ok-place_pointer-in-Named
place_literal-returns-in_ok-place_pointer-in-Named g t c =
    pointer_placed c.args.named.now.entries c.args.of (g.M.Memory.view c.args.m.now).objects c.args.literal.now c.args.objects.now.items c.in-Named.pointer c.in_ok-place_pointer-in-Named.field-0
    c.in-Named.is c.in_ok-place_pointer-in-Named.ensures

pub place_literal-returns-in_ok-put-in-Number : goal.place_literal-returns-in_ok-put-in-Number
place_literal-returns-in_ok-put-in-Number g t c =
    let u = (g.M.Memory.view c.args.m.now).objects in
    number_placed c.args.named.now.entries c.args.of u c.args.literal.now c.args.objects.now.items c.put.new.objects.items c.in_ok-number-in-Number.number c.in_ok-put-in-Number.field-0
    c.in_ok-put-in-Number.ensures.part c.in_ok-put-in-Number.ensures.objects c.in-Number.minus c.in-Number.size c.in-Number.is (c.in_ok-number-in-Number.ensures u)

pub place_literal-returns-in_ok-put-in-Bytes : goal.place_literal-returns-in_ok-put-in-Bytes
place_literal-returns-in_ok-put-in-Bytes g t c =
    let u = (g.M.Memory.view c.args.m.now).objects in
    string_placed c.args.named.now.entries c.args.of u c.args.literal.now c.args.objects.now.items c.put-in-Bytes.new.objects.items c.in_ok-string-in-Bytes.string c.in_ok-put-in-Bytes.field-0
    c.in_ok-put-in-Bytes.ensures.part c.in_ok-put-in-Bytes.ensures.objects c.in-Bytes.text c.deref.result.now c.in-Bytes.is c.deref.ensures.value (c.in_ok-string-in-Bytes.ensures u)

pub place_literal-returns-in_ok-put-in-Owner : goal.place_literal-returns-in_ok-put-in-Owner
place_literal-returns-in_ok-put-in-Owner g t c =
    owner_placed c.args.named.now.entries c.args.of (g.M.Memory.view c.args.m.now).objects c.args.literal.now c.args.objects.now.items c.put-in-Owner.new.objects.items c.in_ok-owner-in-Owner.owner c.in_ok-put-in-Owner.field-0
    c.in_ok-put-in-Owner.ensures.part c.in_ok-put-in-Owner.ensures.objects c.in-Owner.is c.in_ok-owner-in-Owner.ensures

pub place_literal-returns-in_err-owner-in-Owner : goal.place_literal-returns-in_err-owner-in-Owner
place_literal-returns-in_err-owner-in-Owner g t c =
    let e : c.from_residual-in_err-owner-in-Owner.result ≡ Err c.in_err-owner-in-Owner.field-0.0 = search rules in
    rw e (owner_fails c.args.named.now.entries c.args.of (g.M.Memory.view c.args.m.now).objects c.args.literal.now c.args.objects.now.items c.in_err-owner-in-Owner.field-0.0 c.in-Owner.is c.in_err-owner-in-Owner.ensures)

pub place_literal-returns-in-Array : goal.place_literal-returns-in-Array
place_literal-returns-in-Array g t c =
    let u = (g.M.Memory.view c.args.m.now).objects in
    let old = c.args.objects.now.items in
    subst (λ (m : Step Table Placed). Places m u old c.place_array.new.objects.items c.place_array.result) (array_is c.args.named.now.entries c.args.of u c.args.literal.now old c.in-Array.members c.deref-in-Array.result.now c.in-Array.is c.deref-in-Array.ensures.value) c.place_array.ensures

-- ONE AFTER THE OTHER

pub place_literals-loop-literal-init : goal.place_literals-loop-literal-init
place_literals-loop-literal-init g t c =
    left_begins c.args.named.now.entries c.args.of (g.M.Memory.view c.args.m.now).objects c.args.literals.now c.args.objects.now.items c.new-parts.result.items c.new-parts.ensures.items

pub place_literals-returns-in_err-part : goal.place_literals-returns-in_err-part
place_literals-returns-in_err-part g t c =
    let e : c.from_residual.result ≡ Err c.in_err-part.field-0.0 = search rules in
    rw e (left_fails c.args.named.now.entries c.args.of (g.M.Memory.view c.args.m.now).objects c.args.literals.now c.args.objects.now.items
    c.loop-literal.objects.items c.loop-literal.literal-index c.loop-literal.parts.items c.loop-literal.invariant c.literal-item.result c.loop-literal-test.true c.literal-item.is
    c.in_err-part.field-0.0 c.place_literal.new.objects.items c.place_literal.new.objects.items c.in_err-part.ensures)

pub place_literals-loop-literal-preserved : goal.place_literals-loop-literal-preserved
place_literals-loop-literal-preserved g t c =
    let u = (g.M.Memory.view c.args.m.now).objects in
    subst (λ (ps : List PlannedValue). LeftLiterals c.args.named.now.entries c.args.of u c.args.literals.now c.args.objects.now.items c.place_literal.new.objects.items (c.loop-literal.literal-index + 1) ps) (sym c.in_ok-push.ensures.items)
    (left_placed c.args.named.now.entries c.args.of u c.args.literals.now c.args.objects.now.items
    c.loop-literal.objects.items c.loop-literal.literal-index c.loop-literal.parts.items c.loop-literal.invariant c.literal-item.result c.loop-literal-test.true c.literal-item.is
    c.place_literal.new.objects.items c.in_ok-part.part c.in_ok-part.ensures)

pub place_literals-returns : goal.place_literals-returns
place_literals-returns g t c =
    left_ends c.args.named.now.entries c.args.of (g.M.Memory.view c.args.m.now).objects c.args.literals.now c.args.objects.now.items
    c.loop-literal.objects.items c.loop-literal.literal-index c.loop-literal.parts.items c.loop-literal.invariant c.loop-literal-test.false
