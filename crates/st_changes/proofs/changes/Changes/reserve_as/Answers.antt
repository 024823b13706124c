use Rattle.std.proofs.Common.{◌≡◌, List, sym, ap, subst, arith, Some}
use Rattle.std.specs.Prelude.{All, Option, unwrap_or}
use Rattle.std.specs.Option.{option_map}
use Rattle.st_chunk.specs.Definitions.{Definition, IsDefinition}
use Rattle.st_changes.specs.inside.IndexStates.{found}
use Rattle.st_changes.specs.inside.Views.{definition_of, definitions_of}
use Rattle.st_changes.specs.inside.States.{IsTotal}
use Rattle.st_changes.specs.Last.{Answers}
use Rattle.st_changes.specs.inside.Prepared.{IsReady}
use Rattle.st_changes.specs.declared.changes.ReservedEntry.{ReservedEntry}
use Rattle.st_changes.proofs.Lasts.{answers_same, ready_on, ready_of}
use Rattle.st_changes.proofs.changes.Changes.reserve_as.Goals as goal

some_same : {x y : ReservedEntry} → Some x ≡ Some y → x ≡ y
some_same {x} e = ap (λ (o : Option ReservedEntry). unwrap_or o x) e

pub invariant_of-self-in_err-prepare : goal.invariant_of-self-in_err-prepare
invariant_of-self-in_err-prepare c =
    let inv = c.self.invariant in
    let old = c.self.inside in
    let e : definitions_of c.reserve.new.self.items ≡ definitions_of old.listed.items = ap definitions_of c.in_ok-reserve.ensures.items in
    let p = c.prepare.ensures in (
      subst (IsTotal old.length) (sym e) inv.0,
      λ r is. omega (arith, c.in_ok-reserve.ensures.ok, c.in_ok-reserve.ensures.len),
      subst (λ (ds : List Definition). Answers ds (found c.prepare.new.index)) (sym e) (answers_same (definitions_of old.listed.items) (found old.index) (found c.prepare.new.index) p.same inv.2),
      λ r is. ready_on old.index c.prepare.new.index r.entry.items (option_map (λ v. v.items) r.selector) p.keeps p.room (inv.3 r is),
      subst (λ (ds : List Definition). All IsDefinition ds) (sym e) inv.4,
    )

pub invariant_of-self-2 : goal.invariant_of-self-2
invariant_of-self-2 c =
    let inv = c.self.invariant in
    let old = c.self.inside in
    let e : definitions_of c.reserve.new.self.items ≡ definitions_of old.listed.items = ap definitions_of c.in_ok-reserve.ensures.items in
    let p = c.in_ok-prepare.ensures in (
      subst (IsTotal old.length) (sym e) inv.0,
      λ r is. omega (arith, c.in_ok-reserve.ensures.ok, c.in_ok-reserve.ensures.len),
      subst (λ (ds : List Definition). Answers ds (found c.prepare.new.index)) (sym e) (answers_same (definitions_of old.listed.items) (found old.index) (found c.prepare.new.index) p.same inv.2),
      λ r is. subst (λ (q : ReservedEntry). IsReady c.prepare.new.index q.entry.items (option_map (λ v. v.items) q.selector)) (some_same is)
          (ready_of c.prepare.new.index (definition_of c.args.definition.now) c.in_ok-entry.entry.items (option_map (λ v. v.items) c.args.selector) c.requires.good c.in_ok-entry.ensures p.prepared),
      subst (λ (ds : List Definition). All IsDefinition ds) (sym e) inv.4,
    )
