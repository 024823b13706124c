use Rattle.std.proofs.Common.{◌≡◌, List, ℕ, ◌∷◌, ◌++◌, sym, ap, ◌∙◌, subst}
use Rattle.std.specs.Prelude.{Option, Some, None, MatchOption}
use Rattle.std.specs.Option.{option_map}
use Rattle.st_changes.specs.inside.IndexStates.{found}
use Rattle.st_changes.specs.inside.Views.{definition_of}
use Rattle.st_changes.specs.Last.{HasSelector, FindsSelector, IsNowhere, IsLast}
use Rattle.st_changes.proofs.Superseding.{tested, not_nowhere, apart_by, same_by}
use Rattle.st_changes.proofs.condensing.is_superseded.Goals as goal

found_by : (a b : List ℕ) (o p : Option (List ℕ)) → a ≡ b → o ≡ p → FindsSelector a o → FindsSelector b p
found_by a b o p same is h = subst (λ x. FindsSelector x p) same (subst (FindsSelector a) is h)

pub returns-in_default : goal.returns-in_default
returns-in_default c before behind answers place selector named =
    let d = definition_of c.args.definition.now in
    let none : FindsSelector d.text None = found_by c.deref.result.now d.text _ _ c.deref.ensures.value (ap (option_map (λ v. v.items)) c.in_default.is) c.in_ok-selector.ensures in
    absurd (none selector named)

pub returns-in-Some-find : goal.returns-in-Some-find
returns-in-Some-find c before behind answers place =
    let d = definition_of c.args.definition.now in
    let s = c.in-Some.selector.items in
    let n = c.in-Some-find.last in
    let has : HasSelector d.text s = found_by c.deref.result.now d.text _ _ c.deref.ensures.value (ap (option_map (λ v. v.items)) c.in-Some.is) c.in_ok-selector.ensures in
    let e : found c.args.index.now d.class d.meta s ≡ Some n = (λ t. found c.args.index.now (sym c.deref-2.ensures.value t) d.meta (sym c.deref-3.ensures.value t)) ∙ (sym c.find.ensures ∙ c.in-Some-find.is) in
    let l : IsLast (before ++ d ∷ behind) d.class d.meta s n = subst (λ o. MatchOption o (IsNowhere (before ++ d ∷ behind) d.class d.meta s) (IsLast (before ++ d ∷ behind) d.class d.meta s)) e (answers d.class d.meta s) in
    tested before behind d s has n l _ (apart_by n c.args.number _ place) (same_by n c.args.number _ place)

pub returns : goal.returns
returns c before behind answers place selector named =
    let d = definition_of c.args.definition.now in
    let s = c.in-Some.selector.items in
    let has : HasSelector d.text s = found_by c.deref.result.now d.text _ _ c.deref.ensures.value (ap (option_map (λ v. v.items)) c.in-Some.is) c.in_ok-selector.ensures in
    let e : found c.args.index.now d.class d.meta s ≡ None = (λ t. found c.args.index.now (sym c.deref-2.ensures.value t) d.meta (sym c.deref-3.ensures.value t)) ∙ (sym c.find.ensures ∙ c.in-None.is) in
    let none : IsNowhere (before ++ d ∷ behind) d.class d.meta s = subst (λ o. MatchOption o (IsNowhere (before ++ d ∷ behind) d.class d.meta s) (IsLast (before ++ d ∷ behind) d.class d.meta s)) e (answers d.class d.meta s) in
    absurd (not_nowhere before behind d s has none)
