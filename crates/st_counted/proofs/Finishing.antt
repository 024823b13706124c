-- All references are counted, one after the other.
use Rattle.std.proofs.Common.{◌≡◌, ◌≢◌, ℕ, zero, suc, ◌+◌, ◌/◌, ◌<◌, ◌≤◌, Bool, true, false, cond, List, [], ◌∷◌, ◌++◌, length, take, map, get_or, refl, sym, ap, ◌∙◌, subst, is_some, arith, inl, inr}
use Rattle.std.specs.Prelude.{◌==◌, Option, Some, None, slice_get, if◌then◌else◌}
use Rattle.std.proofs.lemmas.List.{take_more}
use Rattle.std.proofs.lemmas.Option.{get_or_from_slice_get}
use Rattle.st_model.specs.declared.place.RootPlace.{RootPlace}
use Rattle.st_model.specs.declared.place.RootPlace.TheVariants as place
use Rattle.st_model.specs.declared.kind.Kind.{Kind}
use Rattle.st_model.specs.declared.kind.Kind.TheVariants as kind
use Rattle.st_model.specs.declared.page.PageObject.TheVariants as page_object
use Rattle.st_model.specs.declared.oop.Oop.{Oop}
use Rattle.st_model.specs.Values.{Value, Small, Ref, value, AllLive, IsLive}
use Rattle.st_model.specs.declared.page.PageObject.{PageObject}
use Rattle.st_model.specs.Objects.{Object, page, place_of, nil, is_words, holds_fields}
use Rattle.st_model.specs.Formed.{IsFormed}
use Rattle.st_model.specs.Machine.{table_root}
use Rattle.st_model.specs.Table.{Table, table, entry}
use Rattle.st_model.specs.Settled.{IsRefTo, AnyRefTo, IsRoot, held_root, page_root, is_root, names}
use Rattle.st_model.specs.Show.{IsUsed}
use Rattle.st_model.specs.View.{View, Held, held_at, is_live, IsKnown, IsWhole}
use Rattle.st_model.proofs.SettledIs.{root_is}
use Rattle.st_model.proofs.WholeLemmas.{used_live}
use Rattle.st_counted.specs.inside.Counts.{count_at, number_at}
use Rattle.st_counted.specs.inside.References.{times, object_uses, uses, uses_below, page_values, all_roots, references, IsTallied, IsEntered, IsCounted, raised_by}
use Rattle.st_counted.proofs.Tallying.{one_if, known_other, tally_same, tally_number, tally_entered, tally_most, entered_tally, tally_raised}
use Rattle.st_counted.proofs.Referring.{number_cases, times_append}
use Rattle.st_counted.proofs.Rooting.{held_times, roots_parts}
use Rattle.st_counted.proofs.Dropping.{some_uses, some_page}

-- the same numbers of what is there
pub tally_live : (t : Table) (f g : ℕ → ℕ) (cs : List (Option ℕ)) → IsTallied t f cs → ((j : ℕ) → is_some (entry t j) ≡ true → g j ≡ f j) → IsTallied t g cs
tally_live t f g cs h same = λ j. h j ∙ by_case j (is_some (entry t j)) refl
  where
    by_case : (j : ℕ) (b : Bool) → is_some (entry t j) ≡ b → cond (is_some (entry t j)) (Some (f j)) None ≡ cond (is_some (entry t j)) (Some (g j)) None
    by_case j true e = ap (λ n. cond (is_some (entry t j)) (Some n) None) (sym (same j e))
    by_case j false e = ap (λ b. cond b (Some (f j)) None) e ∙ ap (λ b. cond b (Some (g j)) None) (sym e)

-- the objects below a place, by the objects behind the first

below_step : (n : ℕ) (e : Option Object) (t : Table) (k : ℕ) → uses_below n (e ∷ t) (suc k) ≡ object_uses n e + uses_below n t k
below_step n e t zero = omega arith
below_step n e t (suc k) = let s = below_step n e t k in omega (arith, s)

below_nothing : (n k : ℕ) → uses_below n [] k ≡ 0
below_nothing n zero = refl
below_nothing n (suc k) = let s = below_nothing n k in omega (arith, s)

pub below_all : (n : ℕ) (t : Table) → uses_below n t (length t) ≡ uses n t
below_all n [] = refl
below_all n (e ∷ t) = let a = below_step n e t (length t) in let s = below_all n t in omega (arith, a, s)

pub below_few : (n : ℕ) (t : Table) (k : ℕ) → uses_below n t k ≤ uses n t
below_few n [] k = let s = below_nothing n k in omega (arith, s)
below_few n (e ∷ t) zero = omega arith
below_few n (e ∷ t) (suc k) = let a = below_step n e t k in let s = below_few n t k in omega (arith, a, s)

pub below_more : (n : ℕ) (t : Table) (k : ℕ) → uses_below n t (k + 1) ≡ object_uses n (entry t k) + uses_below n t k
below_more n t k = let e : suc k ≡ k + 1 = omega arith in ap (uses_below n t) (sym e)

-- one object more is counted
pub tallied_more : (t : Table) (k : ℕ) (cs cs1 : List (Option ℕ)) → IsTallied t (λ j. uses_below j t k) cs → IsTallied t (λ j. object_uses j (entry t k) + number_at cs j) cs1 → IsTallied t (λ j. uses_below j t (k + 1)) cs1
tallied_more t k cs cs1 so_far now = tally_live t (λ j. object_uses j (entry t k) + number_at cs j) (λ j. uses_below j t (k + 1)) cs1 now (λ j live.
    let a = below_more j t k in let b = tally_number t (λ j. uses_below j t k) cs j so_far live in omega (arith, a, b))

-- one field more
pub times_more : (k : ℕ) (xs : List Value) (i : ℕ) (x : Value) → i < length xs → slice_get xs i ≡ Some x → times k (take (i + 1) xs) ≡ cond (names x k) 1 0 + times k (take i xs)
times_more k xs i x l is =
    let a = times_append k (take i xs) (get_or xs i nil ∷ []) in
    let b : times k (get_or xs i nil ∷ []) ≡ times k (x ∷ []) = ap (λ v. times k (v ∷ [])) (get_or_from_slice_get xs i x nil is) in
    let c : times k (take (i + 1) xs) ≡ times k (take i xs ++ (get_or xs i nil ∷ [])) = ap (times k) (take_more xs i nil l) in omega (arith, a, b, c)

pub few_fields : (o : Object) → IsFormed o → length o.fields ≤ 65533
few_fields o formed = by_kind o.kind (λ h. ap length (formed.fieldless h)) formed.size
  where
    by_kind : (kd : Kind) → (holds_fields kd ≡ false → length o.fields ≡ 0) → (if is_words kd then 2 + length o.units else 2 + length o.fields + (length o.units + 1) / 2) ≤ 65535 → length o.fields ≤ 65533
    by_kind kind.Pointers none size = omega (arith, size)
    by_kind kind.Words none size = let z = none refl in omega (arith, z)
    by_kind kind.Bytes none size = omega (arith, size)
    by_kind kind.Method none size = omega (arith, size)

-- one object more is entered
pub entered_more : (t : Table) (cs cs1 : List (Option ℕ)) (k j : ℕ) → j < k + 1 → count_at cs1 k ≡ cond (is_some (entry t k)) (Some 0) None → ((i : ℕ) → i ≢ k → count_at cs1 i ≡ count_at cs i)
    → ((i : ℕ) → i < k → count_at cs i ≡ cond (is_some (entry t i)) (Some 0) None) → count_at cs1 j ≡ cond (is_some (entry t j)) (Some 0) None
entered_more t cs cs1 k j below here others h = elim (number_cases j k) [
  | inl e ↦ subst (λ y. count_at cs1 y ≡ cond (is_some (entry t y)) (Some 0) None) (sym e) here
  | inr ne ↦ others j ne ∙ h j (omega (arith, below, ne))
]

-- where each of the values names k, or none does
all_name : (k : ℕ) (xs : List Value) → ((i : ℕ) → times k (get_or xs i nil ∷ []) ≡ 1) → times k xs ≡ length xs
all_name k [] h = refl
all_name k (x ∷ xs) h = let s = all_name k xs (λ i. h (suc i)) in let a = h 0 in omega (arith, s, a)

none_name : (k : ℕ) (xs : List Value) → ((i : ℕ) → times k (get_or xs i nil ∷ []) ≡ 0) → times k xs ≡ 0
none_name k [] h = refl
none_name k (x ∷ xs) h = let s = none_name k xs (λ i. h (suc i)) in let a = h 0 in omega (arith, s, a)

all_hold : (h : Held) (k : ℕ) → ((p : RootPlace) → times k (held_at h p ∷ []) ≡ 1) → length h.devices.pending ≡ 4096 → held_times k h ≡ 4106
all_hold h k one long =
    let a = one place.Active in let b = one place.Home in let c = one place.Method in let e = one place.Receiver in
    let f = one place.NewProcess in let g = one place.Display in let i = one place.Cursor in let j = one place.InputSemaphore in let l = one place.Timer in let m = one place.LowSpace in
    let p = all_name k h.devices.pending (λ i. one (place.Pending i)) in omega (arith, a, b, c, e, f, g, i, j, l, m, p, long)

none_holds : (h : Held) (k : ℕ) → ((p : RootPlace) → times k (held_at h p ∷ []) ≡ 0) → held_times k h ≡ 0
none_holds h k one =
    let a = one place.Active in let b = one place.Home in let c = one place.Method in let e = one place.Receiver in
    let f = one place.NewProcess in let g = one place.Display in let i = one place.Cursor in let j = one place.InputSemaphore in let l = one place.Timer in let m = one place.LowSpace in
    let p = none_name k h.devices.pending (λ i. one (place.Pending i)) in omega (arith, a, b, c, e, f, g, i, j, l, m, p)

-- where nothing is held, each place names nil
pub nothing_times : (h : Held) (k : ℕ) → ((p : RootPlace) → held_at h p ≡ nil) → length h.devices.pending ≡ 4096 → held_times k h ≡ cond (names nil k) 4106 0
nothing_times h k nothing long = by_test (names nil k) refl
  where
    by_test : (b : Bool) → names nil k ≡ b → held_times k h ≡ cond (names nil k) 4106 0
    by_test true q = all_hold h k (λ p. ap (λ v. times k (v ∷ [])) (nothing p) ∙ ap (λ (b : Bool). cond b 1 0 + 0) q) long ∙ ap (λ (b : Bool). cond b 4106 0) (sym q)
    by_test false q = none_holds h k (λ p. ap (λ v. times k (v ∷ [])) (nothing p) ∙ ap (λ (b : Bool). cond b 1 0 + 0) q) ∙ ap (λ (b : Bool). cond b 4106 0) (sym q)

-- nothing refers to what is not there

named_live : (t : Table) (k : ℕ) (xs : List Value) → AllLive (IsUsed t) xs → AnyRefTo k xs → is_live t (Ref k) ≡ true
named_live t k [] h r = absurd r
named_live t k (x ∷ xs) h r = elim r [
  | inl a ↦ first x h.0 a
  | inr b ↦ named_live t k xs h.1 b
]
  where
    first : (v : Value) → IsLive (IsUsed t) v → IsRefTo k v → is_live t (Ref k) ≡ true
    first (Small n) live a = absurd a
    first (Ref n) live a = subst (λ y. is_live t (Ref y) ≡ true) (sym a) (used_live t n live)

table_none : (t : Table) (k : ℕ) (x : Option Value) → ((v : Value) → x ≡ Some v → is_live t v ≡ true) → is_some (entry t k) ≡ false → times k (table_root x) ≡ 0
table_none t k None live dead = refl
table_none t k (Some v) live dead = let z : one_if (names v k) ≡ 0 = ap one_if (known_other t v k (λ s. live v refl) dead) in omega (arith, z)

module _ (v : View) (whole : IsWhole v) (k : ℕ) (dead : is_some (entry v.objects k) ≡ false) where
  not_there : is_live v.objects (Ref k) ≡ true → ⊥
  unfolding is_live
  not_there live = let z : true ≡ false = sym live ∙ dead in cc

  no_page : (n : ℕ) → times k (page_values page) ≡ n → n ≡ 0
  unfolding is_root
  no_page zero e = refl
  no_page (suc n) e = absurd (by_root (root_is table v.objects [] k (some_page k page (omega (arith, e)))))
    where
      by_root : IsRoot table v.objects [] k → ⊥
      by_root (held_root r) = absurd r
      by_root (page_root q is) = not_there (subst (λ y. is_live v.objects (Ref y) ≡ true) (sym is) (whole.complete.page q))

  no_uses : (n : ℕ) → uses k v.objects ≡ n → n ≡ 0
  no_uses zero e = refl
  no_uses (suc n) e =
      let r = some_uses k v.objects (omega (arith, e)) in
      let live = whole.complete.objects r.0 r.1 r.2 in
      absurd (not_there (elim r.3 [
        | inl a ↦ subst (λ y. is_live v.objects (Ref y) ≡ true) (sym a) (used_live v.objects r.1.class live.class)
        | inr b ↦ named_live v.objects k r.1.fields live.fields b
      ]))

  pub none_refers : ((p : RootPlace) → held_at v.held p ≡ nil) → references v.objects (all_roots v) [] k ≡ 0
  none_refers nothing =
      let a = no_page (times k (page_values page)) refl in
      let b = no_uses (uses k v.objects) refl in
      let c = table_none v.objects k v.head.globals whole.complete.globals dead in
      let d = table_none v.objects k v.head.symbols whole.complete.symbols dead in
      let e = times_append k (table_root v.head.globals) (table_root v.head.symbols) in
      let f = nothing_times v.held k nothing whole.pending in
      let f' = f ∙ ap (λ t. cond t 4106 0) (known_other v.objects nil k (λ s. whole.complete.page page_object.NilObject) dead) in
      let h = roots_parts v k in omega (arith, a, b, c, d, e, f', h)

-- the references of page, nil, tables and objects are all that there are
pub all_counted : (v : View) (cs : List (Option ℕ)) → IsWhole v → ((p : RootPlace) → held_at v.held p ≡ nil)
    → IsTallied v.objects (λ k. times k (table_root v.head.symbols) + (times k (table_root v.head.globals) + (cond (names nil k) 4106 0 + (times k (page_values page) + uses k v.objects)))) cs → IsCounted v.objects (all_roots v) [] cs
all_counted v cs whole nothing h = record {
  tallied = tally_same v.objects _ _ cs h (λ k.
      let e = times_append k (table_root v.head.globals) (table_root v.head.symbols) in
      let f = nothing_times v.held k nothing whole.pending in
      let g = roots_parts v k in omega (arith, e, f, g));
  closed = λ k dead. none_refers v whole k dead nothing;
}

-- one word more is counted
pub raised_tally : (t : Table) (cs cs1 : List (Option ℕ)) (v : Value) (n : ℕ) → IsEntered t cs → IsKnown t v → cs1 ≡ raised_by cs v n → IsTallied t (λ j. cond (names v j) n 0 + number_at cs j) cs1
raised_tally t cs cs1 v n entered known e = subst (IsTallied t (λ j. cond (names v j) n 0 + number_at cs j)) (sym e) (tally_raised t (number_at cs) cs v n (entered_tally t cs entered) known)

pub raised_few : (t : Table) (cs cs1 : List (Option ℕ)) (v : Value) (n j : ℕ) → IsEntered t cs → IsKnown t v → cs1 ≡ raised_by cs v n → number_at cs1 j ≤ number_at cs j + n
raised_few t cs cs1 v n j entered known e = let a = tally_most t (λ j. cond (names v j) n 0 + number_at cs j) cs1 j (raised_tally t cs cs1 v n entered known e) in let b = at_most (names v j) in omega (arith, a, b)
  where
    at_most : (b : Bool) → cond b n 0 ≤ n
    at_most true = omega arith
    at_most false = omega arith

-- the references of some values and of one more
pub adds_more : (t : Table) (cs cs1 cs2 : List (Option ℕ)) (vs ws : List Value) (v : Value) → IsEntered t cs → IsTallied t (λ j. times j vs + number_at cs j) cs1 → IsKnown t v → cs2 ≡ raised_by cs1 v 1
    → ((j : ℕ) → times j ws ≡ cond (names v j) 1 0 + times j vs) → IsTallied t (λ j. times j ws + number_at cs j) cs2
adds_more t cs cs1 cs2 vs ws v entered h known e more =
    let r = raised_tally t cs1 cs2 v 1 (tally_entered t (λ j. times j vs + number_at cs j) cs1 h) known e in
    tally_live t (λ j. cond (names v j) 1 0 + number_at cs1 j) (λ j. times j ws + number_at cs j) cs2 r
    (λ j live. let a = tally_number t (λ j. times j vs + number_at cs j) cs1 j h live in let b = more j in omega (arith, a, b))

-- an object's class and fields are its references
pub adds_object : (t : Table) (cs cs1 cs2 : List (Option ℕ)) (k : ℕ) (o : Object) (v : Value) → IsEntered t cs → IsKnown t v → v ≡ Ref o.class → entry t k ≡ Some o → cs1 ≡ raised_by cs v 1
    → IsTallied t (λ j. times j o.fields + number_at cs1 j) cs2 → IsTallied t (λ j. object_uses j (entry t k) + number_at cs j) cs2
adds_object t cs cs1 cs2 k o v entered known class there e h =
    let r = raised_tally t cs cs1 v 1 entered known e in
    tally_live t (λ j. times j o.fields + number_at cs1 j) (λ j. object_uses j (entry t k) + number_at cs j) cs2 h
    (λ j live.
    let a = tally_number t (λ j. cond (names v j) 1 0 + number_at cs j) cs1 j r live in
    let b : object_uses j (entry t k) ≡ object_uses j (Some o) = ap (object_uses j) there in
    let d : one_if (names v j) ≡ one_if (j == o.class) = ap (λ y. one_if (names y j)) class in omega (arith, a, b, d))

-- the class of an object is there
pub class_known : (v : View) (k : ℕ) (o : Object) (x : Value) → IsWhole v → entry v.objects k ≡ Some o → x ≡ Ref o.class → IsKnown v.objects x
class_known v k o x whole there class = λ small. subst (λ y. is_live v.objects y ≡ true) (sym class) (used_live v.objects o.class (whole.complete.objects k o there).class)

-- one word more
pub times_words : (k : ℕ) (words : List Oop) (i : ℕ) (d : Oop) → i < length words → times k (map value (take (i + 1) words)) ≡ cond (names (value (get_or words i d)) k) 1 0 + times k (map value (take i words))
times_words k words i d l =
    let a = map-append value (take i words) (get_or words i d ∷ []) in
    let b = times_append k (map value (take i words)) (value (get_or words i d) ∷ []) in
    let e : times k (map value (take (i + 1) words)) ≡ times k (map value (take i words) ++ (value (get_or words i d) ∷ [])) = ap (λ ws. times k (map value ws)) (take_more words i d l) ∙ ap (times k) a in omega (arith, b, e)
  where
    map-append : {A B : Type 0} (f : A → B) (xs ys : List A) → map f (xs ++ ys) ≡ map f xs ++ map f ys
    map-append f [] ys = refl
    map-append f (x ∷ xs) ys = ap (λ zs. f x ∷ zs) (map-append f xs ys)

-- the references of some values were counted
pub adds_to : (t : Table) (f : ℕ → ℕ) (cs cs1 : List (Option ℕ)) (vs : List Value) → IsTallied t f cs → IsTallied t (λ j. times j vs + number_at cs j) cs1 → IsTallied t (λ j. times j vs + f j) cs1
adds_to t f cs cs1 vs h adds = tally_live t (λ j. times j vs + number_at cs j) (λ j. times j vs + f j) cs1 adds (λ j live. let a = tally_number t f cs j h live in omega (arith, a))

-- what the page names is there
pub page_known : (v : View) (x : Value) (i : ℕ) → IsWhole v → slice_get (page_values page) i ≡ Some x → IsKnown v.objects x
page_known v x i whole h = λ s. by_list page i h
  where
    by_list : (qs : List PageObject) (j : ℕ) → slice_get (page_values qs) j ≡ Some x → is_live v.objects x ≡ true
    by_list [] j q = cc
    by_list (o ∷ qs) zero q = subst (λ y. is_live v.objects y ≡ true) (first q) (whole.complete.page o)
      where
        value_in : Option Value → Value
        value_in None = nil
        value_in (Some y) = y

        first : Some (Ref (place_of o)) ≡ Some x → Ref (place_of o) ≡ x
        first e = ap value_in e
    by_list (o ∷ qs) (suc j) q = by_list qs j q

-- no references were counted yet
pub adds_none : (t : Table) (cs : List (Option ℕ)) → IsEntered t cs → IsTallied t (λ j. times j [] + number_at cs j) cs
adds_none t cs entered = tally_same t (number_at cs) (λ j. times j [] + number_at cs j) cs (entered_tally t cs entered) (λ j. omega arith)
