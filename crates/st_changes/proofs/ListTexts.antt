-- A list of definitions, one entry more at a time.
use Rattle.std.proofs.Common.{◌≡◌, ◌≢◌, ⊎_elim, ℕ, ◌+◌, ◌-◌, ◌<◌, ◌≤◌, Bool, true, false, true≢false, List, [], ◌∷◌, ◌++◌, length, take, drop, get_or, refl, sym, ap, ◌∙◌, subst, append_assoc, arith, length-append}
use Rattle.std.specs.Prelude.{◌==◌, All}
use Rattle.std.proofs.Math.ListN.{get_or-map, length-map}
use Rattle.std.proofs.lemmas.List.{append-nil, map-append, take_more, take-append-drop, take-append-le, take_all, drop-drop, drop_all, get_or_append_left, get_or-append_right}
use Rattle.std.proofs.lemmas.Bool.{cases_lt, eqb-true, eq-eqb}
use Rattle.st_chunk.specs.Definitions.{Definition, IsDefinition, entry, entries}
use Rattle.st_changes.specs.declared.definition.Definition as declared
use Rattle.st_changes.specs.inside.Views.{definition_of, definitions_of}
use Rattle.st_changes.specs.Entries.{BeginsWith}
use Rattle.st_changes.specs.Lists.{StandsAt}

pub entries_more : (ds : List Definition) (d : Definition) → entries (ds ++ d ∷ []) ≡ entries ds ++ entry d
entries_more [] d = append-nil (entry d)
entries_more (x ∷ ds) d = ap (λ (y : List ℕ). entry x ++ y) (entries_more ds d) ∙ sym (append_assoc (entry x) (entries ds) (entry d))

pub more_of : (P : Definition → Type 0) (ds : List Definition) (d : Definition) → All P ds → P d → All P (ds ++ d ∷ [])
more_of P ds d all good k x less = ⊎_elim
    (λ before. subst P (sym (get_or_append_left ds (d ∷ []) x k before)) (all k x before))
    (λ behind. subst P (sym (get_or-append_right ds (d ∷ []) (length ds) k x refl behind ∙ last k behind less)) good)
    (cases_lt k (length ds))
  where
    last : (k : ℕ) → length ds ≤ k → k < length (ds ++ d ∷ []) → get_or (d ∷ []) (k - length ds) x ≡ d
    last k behind less = ap (λ n. get_or (d ∷ []) n x) zero_is
      where
        zero_is : k - length ds ≡ 0
        zero_is = omega (arith, length-append ds (d ∷ []))

pub all_more : (ds : List Definition) (d : Definition) → All IsDefinition ds → IsDefinition d → All IsDefinition (ds ++ d ∷ [])
all_more ds d all good = more_of IsDefinition ds d all good

pub entries_append : (ds es : List Definition) → entries (ds ++ es) ≡ entries ds ++ entries es
entries_append [] es = refl
entries_append (d ∷ ds) es = ap (λ (y : List ℕ). entry d ++ y) (entries_append ds es) ∙ sym (append_assoc (entry d) (entries ds) (entries es))

-- THE ITEMS OF A LIST

-- the first ones have no more bytes than all
pub front_within : (listed : List declared.Definition) (n : ℕ) → length (entries (definitions_of (take n listed))) ≤ length (entries (definitions_of listed))
front_within listed n =
    let front : List Definition = definitions_of (take n listed) in
    let back : List Definition = definitions_of (drop n listed) in
    let e : front ++ back ≡ definitions_of listed = sym (map-append definition_of (take n listed) (drop n listed)) ∙ ap definitions_of (take-append-drop n listed) in
    let all = ap (λ (ds : List Definition). length (entries ds)) e in
    let both = ap length (entries_append front back) ∙ length-append (entries front) (entries back) in
    omega (arith, all, both)

module _ (listed : List declared.Definition) (i : ℕ) (x : declared.Definition) (less : i < length listed) (is : x ≡ get_or listed i x) where
  pub item_more : definitions_of (take (i + 1) listed) ≡ definitions_of (take i listed) ++ definition_of x ∷ []
  item_more = ap definitions_of (take_more listed i x less ∙ ap (λ (y : declared.Definition). take i listed ++ y ∷ []) (sym is)) ∙ map-append definition_of (take i listed) (x ∷ [])

  pub item_good : All IsDefinition (definitions_of listed) → IsDefinition (definition_of x)
  item_good all =
      subst IsDefinition (get_or-map definition_of listed i x ∙ ap definition_of (sym is)) (all i (definition_of x) (subst (λ n. i < n) (sym (length-map listed definition_of)) less))

  pub item_within : length (entries (definitions_of (take i listed))) + length (entry (definition_of x)) ≤ length (entries (definitions_of listed))
  item_within =
      let more = ap (λ (ds : List Definition). length (entries ds)) item_more in
      let last = ap length (entries_more (definitions_of (take i listed)) (definition_of x)) ∙ length-append (entries (definitions_of (take i listed))) (entry (definition_of x)) in
      omega (arith, front_within listed (i + 1), more, last)

-- WHERE A BASE STANDS

pub stands_none : (base : ℕ) → StandsAt [] base → base ≡ 0
stands_none base stands = stands.is ∙ ap (λ (x : List Definition). length (entries x)) (take_all stands.count [] (omega arith))

pub stands_first : (base : ℕ) → base ≡ 0 → StandsAt [] base
stands_first base is = record { count = 0; within = omega arith; is = is }

pub stands_more : (ds : List Definition) (d : Definition) (base : ℕ) → StandsAt ds base → StandsAt (ds ++ d ∷ []) base
stands_more ds d base stands = record {
  count = stands.count;
  within = omega (arith, stands.within, length-append ds (d ∷ []));
  is = stands.is ∙ ap (λ (x : List Definition). length (entries x)) (sym (take-append-le stands.count ds (d ∷ []) stands.within));
}

pub stands_end : (ds : List Definition) (base : ℕ) → base ≡ length (entries ds) → StandsAt ds base
stands_end ds base is = record {
  count = length ds;
  within = omega arith;
  is = is ∙ ap (λ (x : List Definition). length (entries x)) (sym (take_all (length ds) ds (omega arith)));
}

pub stands_before : (ds : List Definition) (d : Definition) (base : ℕ) → base ≢ length (entries (ds ++ d ∷ [])) → StandsAt (ds ++ d ∷ []) base → StandsAt ds base
stands_before ds d base other stands = ⊎_elim
    (λ low. let within : stands.count ≤ length ds = omega arith in
    record { count = stands.count; within = within; is = stands.is ∙ ap (λ (x : List Definition). length (entries x)) (take-append-le stands.count ds (d ∷ []) within) })
    (λ high. absurd (other (stands.is ∙ ap (λ (x : List Definition). length (entries x)) (take_all stands.count (ds ++ d ∷ []) (omega (arith, length-append ds (d ∷ [])))))))
    (cases_lt stands.count (length ds + 1))

-- whether it stands at one so far, one entry more
pub still_stands : (ds : List Definition) (d : Definition) (base : ℕ) (was now : Bool) → (was ≡ true → StandsAt ds base) → was ≡ true → now ≡ true
    → (now ≡ true → StandsAt (ds ++ d ∷ []) base) × (now ≡ false → StandsAt (ds ++ d ∷ []) base → ⊥)
still_stands ds d base was now stands is e = (λ yes. stands_more ds d base (stands is), λ no. absurd (true≢false (sym e ∙ no)))

pub stands_now : (ds : List Definition) (d : Definition) (base place : ℕ) (was now : Bool) → (was ≡ false → StandsAt ds base → ⊥) → was ≡ false
    → place ≡ length (entries (ds ++ d ∷ [])) → now ≡ (base == place)
    → (now ≡ true → StandsAt (ds ++ d ∷ []) base) × (now ≡ false → StandsAt (ds ++ d ∷ []) base → ⊥)
stands_now ds d base place was now apart not at e = (
  λ yes. stands_end (ds ++ d ∷ []) base (eqb-true base place (sym e ∙ yes) ∙ at),
  λ no stands. apart not (stands_before ds d base (λ same. true≢false (sym (eq-eqb base place (same ∙ sym at)) ∙ sym e ∙ no)) stands),
)

-- READING ON

-- one entry more
pub read_more : (bytes : List ℕ) (ds : List Definition) (d : Definition) (at n : ℕ) → bytes ≡ entries ds ++ drop at bytes → BeginsWith d (drop at bytes) (drop n (drop at bytes))
    → bytes ≡ entries (ds ++ d ∷ []) ++ drop (at + n) bytes
read_more bytes ds d at n so_far begins =
    so_far
    ∙ ap (λ (x : List ℕ). entries ds ++ x) (begins.is ∙ ap (λ (x : List ℕ). entry d ++ x) (drop-drop n at bytes))
    ∙ sym (append_assoc (entries ds) (entry d) (drop (at + n) bytes))
    ∙ ap (λ (x : List ℕ). x ++ drop (at + n) bytes) (sym (entries_more ds d))

-- all were read
pub read_all : (bytes : List ℕ) (ds : List Definition) (at : ℕ) → bytes ≡ entries ds ++ drop at bytes → length bytes ≤ at → bytes ≡ entries ds
read_all bytes ds at so_far past = so_far ∙ ap (λ (x : List ℕ). entries ds ++ x) (drop_all at bytes past) ∙ append-nil (entries ds)
