use Rattle.std.proofs.Common.{◌≡◌, ◌≤◌, ◌-◌, ◌+◌, inl, true, false, ℕ, List, [], ◌∷◌, ◌++◌, length, take, drop, sym, ap, ◌∙◌, subst, arith, length-drop, length-append}
use Rattle.std.proofs.lemmas.List.{map-append}
use Rattle.st_chunk.specs.Definitions.{entries, Definition, IsDefinition}
use Rattle.std.specs.Prelude.{All}
use Rattle.st_changes.specs.Lists.{StandsAt}
use Rattle.st_changes.specs.inside.Views.{definition_of, definitions_of}
use Rattle.st_changes.specs.inside.FoundEntries.{FindsEntry, IsFound}
use Rattle.st_changes.specs.Entries.{BeginsWith}
use Rattle.st_changes.proofs.Fronts.{tail_is}
use Rattle.st_changes.proofs.ListTexts.{all_more, read_more, still_stands, stands_now}
use Rattle.st_changes.proofs.listing.list.Goals as goal
use Rattle.st_changes.proofs.listing.list.Goals.{then-has_base, else-has_base}

pub returns-in_default : goal.returns-in_default
returns-in_default c =
    let bytes = c.args.bytes.now in
    let at = c.loop-at.at in
    let inv = c.loop-at.invariant in
    let none = subst (FindsEntry (take (length bytes - at) (drop at bytes))) c.in_default.is c.in_ok-found.ensures in
    inl (record {
      before = definitions_of c.loop-at.listed.items;
      good = inv.good;
      behind = drop at bytes;
      is = inv.so_far;
      place = inv.place;
      there = omega (arith, length-drop at bytes, c.loop-at-test.true);
      wrong = λ d more begins. none d more (subst (λ (x : List ℕ). BeginsWith d x more) (sym (tail_is bytes at)) begins);
    })

pub loop-at-preserved : goal.loop-at-preserved
loop-at-preserved c =
    let bytes = c.args.bytes.now in
    let at = c.loop-at.at in
    let inv = c.loop-at.invariant in
    let ds = definitions_of c.loop-at.listed.items in
    let found = c.in-Some.found in
    let d = definition_of found.definition in
    let is : IsFound (drop at bytes) found = subst (λ (x : List ℕ). IsFound x found) (tail_is bytes at) (subst (FindsEntry (take (length bytes - at) (drop at bytes))) c.in-Some.is c.in_ok-found.ensures) in
    let e : definitions_of c.add.new.listed.items ≡ ds ++ d ∷ [] = ap definitions_of c.in_ok-add.ensures ∙ map-append definition_of c.loop-at.listed.items (found.definition ∷ []) in
    let on = read_more bytes ds d at found.length inv.so_far is.is in
    let within : at + found.length ≤ length bytes = omega (arith, is.within, length-drop at bytes, inv.within) in
    let place : at + found.length ≡ length (entries (ds ++ d ∷ [])) = omega (arith, ap length on, length-append (entries (ds ++ d ∷ [])) (drop (at + found.length) bytes), length-drop (at + found.length) bytes, within) in
    let stands : (c.if-has_base.has_base ≡ true → StandsAt (ds ++ d ∷ []) c.args.base) × (c.if-has_base.has_base ≡ false → StandsAt (ds ++ d ∷ []) c.args.base → ⊥) =
    elim c.if-has_base.branch [
      | then-has_base w ↦ still_stands ds d c.args.base c.loop-at.has_base c.if-has_base.has_base inv.stands w.if-has_base.true (w.has_base-is ∙ w.if-has_base.true)
      | else-has_base w ↦ stands_now ds d c.args.base (at + found.length) c.loop-at.has_base c.if-has_base.has_base inv.apart w.if-has_base.false place w.has_base-is
    ] in
    record {
      within = within;
      so_far = on ∙ ap (λ (x : List Definition). entries x ++ drop (at + found.length) bytes) (sym e);
      place = place ∙ ap (λ (x : List Definition). length (entries x)) (sym e);
      good = subst (All IsDefinition) (sym e) (all_more ds d inv.good is.is.good);
      stands = subst (λ (x : List Definition). c.if-has_base.has_base ≡ true → StandsAt x c.args.base) (sym e) stands.0;
      apart = subst (λ (x : List Definition). c.if-has_base.has_base ≡ false → StandsAt x c.args.base → ⊥) (sym e) stands.1;
    }
