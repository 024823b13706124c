-- Definitions and their selectors.
use Rattle.std.proofs.Common.{◌≡◌, ◌<◌, ◌+◌, ℕ, zero, suc, List, [], ◌∷◌, ◌++◌, length, take, get_or, sym, ap, ◌∙◌, subst, arith, length-append, length-take}
use Rattle.std.specs.Prelude.{All, Option, Vec}
use Rattle.std.specs.Global.{Global}
use Rattle.std.specs.Option.{option_map}
use Rattle.std.proofs.Math.ListN.{get_or-map, length-map}
use Rattle.std.proofs.lemmas.List.{get_or-take, get_or-append-add, take-map}
use Rattle.st_chunk.specs.Definitions.{Definition, IsDefinition}
use Rattle.st_changes.specs.declared.definition.Definition as declared
use Rattle.st_changes.specs.inside.Views.{definition_of, definitions_of}
use Rattle.st_changes.specs.Last.{FindsSelector, FindsEach, FindsLast}

-- the selector of a text, where it has one
abbrev pub Selector : Type 0
Selector = Option (Vec ℕ Global)

-- it is that of the definition's text
abbrev pub Finds : Definition → Selector → Type 0
Finds d s = FindsSelector d.text (option_map (λ v. v.items) s)

each_many : (ds : List Definition) (ss : List Selector) → FindsEach ds ss → length ss ≡ length ds
each_many [] [] each = omega arith
each_many [] (s ∷ ss) each = absurd each
each_many (d ∷ ds) [] each = absurd each
each_many (d ∷ ds) (s ∷ ss) each = let l = each_many ds ss each.1 in omega (arith, l)

each_at : (ds : List Definition) (ss : List Selector) (i : ℕ) (d : Definition) (s : Selector) → FindsEach ds ss → i < length ss → Finds (get_or ds i d) (get_or ss i s)
each_at [] [] i d s each less = absurd (omega (arith, less))
each_at [] (t ∷ ss) i d s each less = absurd each
each_at (e ∷ ds) [] i d s each less = absurd each
each_at (e ∷ ds) (t ∷ ss) zero d s each less = each.0
each_at (e ∷ ds) (t ∷ ss) (suc i) d s each less = each_at ds ss i d s each.1 (omega (arith, less))

pub each_more : (ds : List Definition) (ss : List Selector) (d : Definition) (s : Selector) → FindsEach ds ss → Finds d s → FindsEach (ds ++ d ∷ []) (ss ++ s ∷ [])
each_more [] [] d s each finds = (finds, tt)
each_more [] (t ∷ ss) d s each finds = absurd each
each_more (e ∷ ds) [] d s each finds = absurd each
each_more (e ∷ ds) (t ∷ ss) d s each finds = (each.0, each_more ds ss d s each.1 finds)

module _ (listed : List declared.Definition) (ss : List Selector) (last : FindsLast (definitions_of listed) ss) where
  -- behind the others there are as many definitions as selectors
  pub last_many : length last.front + length ss ≡ length listed
  last_many = omega (arith, ap length last.is, length-append last.front last.behind, length-map listed definition_of, each_many last.behind ss last.finds)

  -- each of them has its own
  pub last_at : (k i : ℕ) (x : declared.Definition) (s : Selector) → k + length ss ≡ length listed → i < length ss → x ≡ get_or listed (k + i) x → s ≡ get_or ss i s → Finds (definition_of x) s
  last_at k i x s many less is own =
      let d = definition_of x in
      let at : get_or (definitions_of listed) (length last.front + i) d ≡ get_or last.behind i d =
      ap (λ (ds : List Definition). get_or ds (length last.front + i) d) last.is ∙ get_or-append-add last.front last.behind i d in
      let place : length last.front ≡ k = omega (arith, many, last_many) in
      let here : d ≡ get_or last.behind i d =
      ap definition_of is ∙ sym (get_or-map definition_of listed (k + i) x) ∙ ap (λ n. get_or (definitions_of listed) (n + i) d) (sym place) ∙ at in
      subst (Finds d) (sym own) (subst (λ (e : Definition). Finds e (get_or ss i s)) (sym here) (each_at last.behind ss i d s last.finds less))

-- the first ones are definitions too
pub front_good : (listed : List declared.Definition) (n : ℕ) → All IsDefinition (definitions_of listed) → All IsDefinition (definitions_of (take n listed))
front_good listed n all = subst (All IsDefinition) (take-map definition_of n listed) (λ k d less.
    let short = length-take n (definitions_of listed) in
    subst IsDefinition (sym (get_or-take n (definitions_of listed) k d (omega (arith, less, short)))) (all k d (omega (arith, less, short))))
