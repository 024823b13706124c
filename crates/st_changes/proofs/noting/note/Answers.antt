use Rattle.std.proofs.Common.{ℕ, List, [], ◌∷◌, ◌++◌, sym, ap, ◌∙◌, subst}
use Rattle.std.specs.Option.{option_map}
use Rattle.st_changes.specs.inside.IndexStates.{found, HasName, updated}
use Rattle.st_changes.specs.inside.Views.{definition_of}
use Rattle.st_changes.specs.Last.{FindsSelector, HasSelector}
use Rattle.st_changes.proofs.Lasts.{without, with_selector, answers_same}
use Rattle.st_changes.proofs.noting.note.Goals as goal

pub note-requires-clause-class : goal.note-requires-clause-class
note-requires-clause-class c =
    let place = c.requires.place c.in-Some.selector.items (ap (option_map (λ v. v.items)) c.in-Some.is) in
    subst (λ (n : List ℕ). HasName c.args.index.now n) (sym c.deref.ensures.value) place.class_named

pub note-requires-clause-ready : goal.note-requires-clause-ready
note-requires-clause-ready c = (c.requires.place c.in-Some.selector.items (ap (option_map (λ v. v.items)) c.in-Some.is)).room

pub returns-in-Some : goal.returns-in-Some
returns-in-Some c ds answers place =
    let d = definition_of c.args.definition.now in
    let f = found c.args.index.now in
    let name = c.in-Some.selector.items in
    let has : HasSelector d.text name = subst (FindsSelector d.text) (ap (option_map (λ v. v.items)) c.in-Some.is) c.requires.finds in
    answers_same (ds ++ d ∷ []) (updated f d.class d.meta name c.args.number) (found c.note.new.self)
    (λ k m s. c.note.ensures k m s ∙ (λ t. updated f (c.deref.ensures.value t) d.meta (c.deref-in-Some.ensures.value t) c.args.number k m s))
    (with_selector ds d f answers name has c.args.number place)

pub returns-in_default : goal.returns-in_default
returns-in_default c ds answers place =
    let d = definition_of c.args.definition.now in
    without ds d (found c.args.index.now) answers (subst (FindsSelector d.text) (ap (option_map (λ v. v.items)) c.in_default.is) c.requires.finds)
