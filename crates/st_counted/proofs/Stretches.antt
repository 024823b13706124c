-- Stretches of words and bytes that are written.
use Rattle.std.proofs.Common.{◌≡◌, ℕ, zero, suc, ◌+◌, ◌*◌, ◌/◌, ◌<◌, ◌≤◌, Bool, true, false, List, [], ◌∷◌, length, get_or, refl, sym, ap, ◌∙◌, subst, arith}
use Rattle.std.specs.Prelude.{Option, Some, if◌then◌else◌}
use Rattle.st_model.specs.declared.oop.Oop.{Oop}
use Rattle.st_model.specs.Values.{Value, Ref, value}
use Rattle.st_model.specs.Objects.{Object, is_pointers, first_unit, size_of, with_units, object_with_unit, words_of}
use Rattle.st_model.specs.Formed.{IsFormed, unit_limit}
use Rattle.st_model.specs.Table.{Table, entry, changed}
use Rattle.st_model.specs.View.{View, IsWhole, is_live, object_of}
use Rattle.st_model.proofs.FormedLemmas.{formed_unit, words_of-object_with_unit}
use Rattle.st_model.proofs.Pointers.{value_of-even}
use Rattle.st_model.proofs.WholeLemmas.{named, whole_as, whole_changed}
use Rattle.st_memory.specs.inside.Copied.{laid, with_units_in}
use Rattle.st_memory.proofs.Bodies.{live_small}
use Rattle.st_cells.specs.inside.Words.{with_run}
use Rattle.st_cells.proofs.Written.{run_behind}
use Rattle.st_counted.specs.inside.References.{IsCounted}
use Rattle.st_counted.proofs.Referring.{live_changed, uses_changed}
use Rattle.st_counted.proofs.Tallying.{counted_alike}

none_run : (at : ℕ) (ws : List ℕ) → with_run [] at ws ≡ []
none_run at [] = refl
none_run at (w ∷ ws) = none_run (suc at) ws

pub laid_is : (at : ℕ) (ws us : List ℕ) → with_run us at ws ≡ laid at ws us
laid_is zero [] us = refl
laid_is zero (w ∷ ws) [] = none_run 0 (w ∷ ws)
laid_is zero (w ∷ ws) (u ∷ us) = run_behind w us 0 ws ∙ ap (λ q. w ∷ q) (laid_is zero ws us)
laid_is (suc at) ws [] = none_run (suc at) ws
laid_is (suc at) ws (u ∷ us) = run_behind u us at ws ∙ ap (λ q. u ∷ q) (laid_is at ws us)

pub changed_is : (t : Table) (o : Oop) (us : List ℕ) → is_live t (value o) ≡ true → changed t (o.0 / 2) (with_units (object_of t (value o)) us) ≡ with_units_in t (value o) us
unfolding with_units_in
changed_is t o us live =
    let e : value o ≡ Ref (o.0 / 2) = value_of-even o.0 (live_small t (value o) live) in
    ap (λ v. changed t (o.0 / 2) (with_units (object_of t v) us)) e ∙ sym (ap (λ v. with_units_in t v us) e)

-- the same as a stretch that is laid there
pub written_is : (t now : Table) (o : Oop) (at : ℕ) (us : List ℕ) → is_live t (value o) ≡ true → now ≡ changed t (o.0 / 2) (with_units (object_of t (value o)) (with_run (object_of t (value o)).units at us))
    → now ≡ with_units_in t (value o) (laid at us (object_of t (value o)).units)
written_is t now o at us live written =
    let units = (object_of t (value o)).units in
    written ∙ changed_is t o (with_run units at us) live ∙ ap (with_units_in t (value o)) (laid_is at us units)

at_most : (b : Bool) (f u n : ℕ) → n ≤ (if b then f else 2 * f + u) → n ≤ 2 * f + u
at_most true f u n l = omega (arith, l)
at_most false f u n l = l

-- the units end where the size says, or behind
pub units_end : (o : Object) (n : ℕ) → n ≤ size_of o → n ≤ first_unit o + length o.units
units_end o n l = at_most (is_pointers o.kind) (length o.fields) (length o.units) n l

formed_run : (o : Object) (at : ℕ) (ws : List ℕ) → IsFormed o → ((j : ℕ) → get_or ws j 0 < unit_limit o.kind) → IsFormed (with_units o (with_run o.units at ws))
formed_run o at [] f small = f
formed_run o at (w ∷ ws) f small = formed_run (object_with_unit o at w) (suc at) ws (formed_unit o at w f (small 0)) (λ j. small (suc j))

words_run : (o : Object) (at : ℕ) (ws : List ℕ) → words_of (with_units o (with_run o.units at ws)) ≡ words_of o
words_run o at [] = refl
words_run o at (w ∷ ws) = words_run (object_with_unit o at w) (suc at) ws ∙ words_of-object_with_unit o at w

pub whole_run : (v w : View) (o : Value) (at : ℕ) (ws : List ℕ) → IsWhole v → is_live v.objects o ≡ true → ((j : ℕ) → get_or ws j 0 < unit_limit (object_of v.objects o).kind)
    → w.objects ≡ with_units_in v.objects o (with_run (object_of v.objects o).units at ws) → w.held ≡ v.held → w.head ≡ v.head → IsWhole w
unfolding with_units_in
whole_run v w o at ws whole live small objects held head =
    let r = named v.objects o live in
    let a = r.1 in
    let is : object_of v.objects (Ref r.0) ≡ a = subst (λ y. object_of v.objects y ≡ a) r.2 r.4 in
    let t : with_units_in v.objects o (with_run (object_of v.objects o).units at ws) ≡ changed v.objects r.0 (with_units a (with_run a.units at ws)) =
    ap (λ (b : Object). with_units_in v.objects o (with_run b.units at ws)) r.4 ∙ ap (λ y. with_units_in v.objects y (with_run a.units at ws)) r.2 ∙ ap (λ b. changed v.objects r.0 (with_units b (with_run a.units at ws))) is in
    let was = whole.complete.objects r.0 a r.3 in
    whole_as (record { objects = changed v.objects r.0 (with_units a (with_run a.units at ws)); held = v.held; head = v.head }) w (objects ∙ t) held head
    (whole_changed v whole r.0 a (with_units a (with_run a.units at ws)) r.3
    (formed_run a at ws (whole.formed r.0 a r.3) (λ j. subst (λ (b : Object). get_or ws j 0 < unit_limit b.kind) r.4 (small j)))
    (record { class = was.class; fields = was.fields })
    (words_run a at ws))

-- words and bytes are no references
pub counted_run : (t : Table) (roots hand : List Value) (cs : List (Option ℕ)) (o : Value) (us : List ℕ) → IsCounted t roots hand cs → is_live t o ≡ true → IsCounted (with_units_in t o us) roots hand cs
unfolding with_units_in
counted_run t roots hand cs o us h live = by_name (named t o live)
  where
    by_name : ((n : ℕ) × (p : Object) × (o ≡ Ref n) × (entry t n ≡ Some p) × (object_of t o ≡ p)) → IsCounted (with_units_in t o us) roots hand cs
    by_name (n, p, is, at, object) =
        let q : Object = object_of t (Ref n) in
        let same : q ≡ p = ap (object_of t) (sym is) ∙ object in
        let at' : entry t n ≡ Some q = at ∙ ap (λ y. Some y) (sym same) in
        subst (λ y. IsCounted (with_units_in t y us) roots hand cs) (sym is)
        (counted_alike t (changed t n (with_units q us)) roots roots hand hand cs h (λ k. live_changed t n k (with_units q us))
        (λ k. let a = uses_changed k t n (with_units q us) q at' in omega (arith, a)))
