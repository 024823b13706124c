use Rattle.std.proofs.Common.{List, Some, sym, ap, ◌∙◌, arith}
use Rattle.st_model.specs.Values.{Value, value}
use Rattle.st_model.specs.Objects.{is_pointers}
use Rattle.st_model.specs.View.{object_of}
use Rattle.st_parts.specs.Contents.{number_among, character_by}
use Rattle.st_parts.proofs.Turns.{none_among, here_among, later_among, characters_place, characters_gone, characters_other, characters_are}
use Rattle.st_parts.proofs.contents.character_at.Goals as goal

pub returns-then-not-live : goal.returns-then-not-live
returns-then-not-live g c =
    ap (λ (vs : List Value). character_by (number_among 0 vs (value c.args.v)))
    (characters_gone (g.M.Memory.view c.args.m.now).objects (value (record { 0 = 50 })) characters_place (sym c.live.ensures ∙ c.if-not-live.true))

pub returns-then-not-is_pointers : goal.returns-then-not-is_pointers
returns-then-not-is_pointers g c =
    ap (λ (vs : List Value). character_by (number_among 0 vs (value c.args.v)))
    (characters_other (g.M.Memory.view c.args.m.now).objects (value (record { 0 = 50 })) characters_place (sym c.live.ensures ∙ c.if-not-live.false)
    (ap is_pointers (sym c.kind.ensures.kind) ∙ (sym c.is_pointers.ensures ∙ c.if-not-is_pointers.true)))

pub pointer-requires-clause-range : goal.pointer-requires-clause-range
pointer-requires-clause-range g c =
    let many = c.count_fields.ensures in
    let n = c.count_characters-n-end.ensures in
    let l = c.loop-n-test.true in
    omega (arith, many, n, l)

pub character-requires : goal.character-requires
character-requires g c =
    let n = c.count_characters-n-end.ensures in
    let l = c.loop-n-test.true in
    omega (arith, n, l)

pub returns-then-same : goal.returns-then-same
returns-then-same g c =
    let t = (g.M.Memory.view c.args.m.now).objects in
    let o = value (record { 0 = 50 }) in
    let n = c.count_characters-n-end.ensures in
    let l = c.loop-n-test.true in
    ap Some c.character.ensures
    ∙ here_among (object_of t o).fields (value c.args.v) c.loop-n.n (value c.pointer.result) c.pointer.ensures.field c.loop-n.invariant (omega (arith, n, l)) (sym c.if-same.true ∙ c.same.ensures)
    ∙ ap (λ (vs : List Value). character_by (number_among 0 vs (value c.args.v))) (characters_are t o characters_place (sym c.live.ensures ∙ c.if-not-live.false)
    (ap is_pointers (sym c.kind.ensures.kind) ∙ (sym c.is_pointers.ensures ∙ c.if-not-is_pointers.false)))

pub loop-n-preserved : goal.loop-n-preserved
loop-n-preserved g c =
    let t = (g.M.Memory.view c.args.m.now).objects in
    later_among (object_of t (value (record { 0 = 50 }))).fields (value c.args.v) c.loop-n.n (value c.pointer.result) c.pointer.ensures.field c.loop-n.invariant (sym c.if-same.false ∙ c.same.ensures)

pub returns : goal.returns
returns g c =
    let t = (g.M.Memory.view c.args.m.now).objects in
    let o = value (record { 0 = 50 }) in
    let many = c.count_fields.ensures in
    let n = c.count_characters-n-end.ensures in
    let l = c.loop-n-test.false in
    none_among (object_of t o).fields (value c.args.v) c.loop-n.n (omega (arith, many, n, l)) c.loop-n.invariant
    ∙ ap (λ (vs : List Value). character_by (number_among 0 vs (value c.args.v))) (characters_are t o characters_place (sym c.live.ensures ∙ c.if-not-live.false)
    (ap is_pointers (sym c.kind.ensures.kind) ∙ (sym c.is_pointers.ensures ∙ c.if-not-is_pointers.false)))
