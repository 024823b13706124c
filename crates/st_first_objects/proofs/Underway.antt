-- The placing of the first objects goes on.
use Rattle.std.proofs.Common.{◌≡◌, ◌≢◌, ℕ, suc, ◌+◌, ◌*◌, ◌/◌, ◌<◌, ◌≤◌, ◌⊎◌, Bool, true, false, ◌∷◌, List, length, get_or, drop, Option, Some, None, is_some, refl, sym, subst, ap, ◌∙◌, inl, inr, arith}
use Rattle.std.specs.Prelude.{slice_set, slice_get, nat_le, ◌&&◌, codes}
use Rattle.std.specs.List.{position}
use Rattle.std.proofs.lemmas.Bool.{cases_lt, cases_eq, le-leb, both_ways}
use Rattle.std.proofs.lemmas.List.Quantifiers.{position-Some}
use Rattle.std.proofs.lemmas.Option.{unwrap_or-slice_get, slice_get_within}
use Rattle.std.specs.Prelude.{unwrap_or}
use Rattle.std.proofs.lemmas.List.{length-replicate}
use Rattle.std.proofs.Math.ListN.{length-set}
use Rattle.st_kernel_text.specs.declared.shape.Shape.{Shape}
use Rattle.st_kernel_text.specs.declared.shape.Shape.TheVariants as shape
use Rattle.st_model.specs.Limits.{most_words}
use Rattle.st_model.specs.Values.{Ref, value_of}
use Rattle.st_model.specs.Objects.{Object, one, words_of}
use Rattle.st_model.specs.Table.{entry, total_used}
use Rattle.st_model.specs.View.{View, with_object}
use Rattle.st_model.specs.declared.oop.Oop.{Oop}
use Rattle.st_first_objects.specs.declared.thing.What.{What}
use Rattle.st_first_objects.specs.declared.thing.What.TheVariants as what
use Rattle.st_first_objects.specs.Things.{Thing, same, class}
use Rattle.st_first_objects.specs.Plans.{FirstObjects}
use Rattle.st_first_objects.specs.Contents.{Content, Body, Fields, Bytes, NoWords, content_of, content, instance}
use Rattle.st_first_objects.specs.Pointers.{place, place_at, place_in, object, object_by, object_in}
use Rattle.st_first_objects.specs.First.{with_things, fit_beside}
use Rattle.st_first_objects.specs.inside.Placing.{Puts, CanPlace, Underway, IsBegun, HasWords, PlacesAll}
use Rattle.std.specs.Prelude.{Err}
use Rattle.st_first_objects.specs.declared.unmade.Unmade.{Unmade}
use Rattle.st_first_objects.specs.declared.unmade.Unmade.TheVariants.{NoRoom, OutOfMemory}
use Rattle.st_first_objects.proofs.Lists.{drop_got}
use Rattle.st_first_objects.proofs.Places.{same_turn, place_within, value_of_half}
use Rattle.st_model.proofs.Entries.{entry-set_same, entry-set_other, total_used-set}
use Rattle.st_model.proofs.LoadingLemmas.{entry-none, total_used-none}

-- NO CLASS IS THAT OF METHODS

abbrev methods : Thing
methods = class (codes "CompiledMethod")

instance_class : (name : List ℕ) (s : Shape) (fields : ℕ) → (instance name s fields).class ≡ class name
instance_class name shape.Fixed fields = refl
instance_class name shape.Indexed fields = refl
instance_class name shape.Words fields = refl
instance_class name shape.Bytes fields = refl

no_methods : (p : FirstObjects) (w : What) (name : List ℕ) (number : ℕ) → same (content_of p w name number).class methods ≡ false
no_methods p what.Nil name number = ap (λ c. same c methods) (instance_class (codes "UndefinedObject") _ _)
no_methods p what.False name number = ap (λ c. same c methods) (instance_class (codes "False") _ _)
no_methods p what.True name number = ap (λ c. same c methods) (instance_class (codes "True") _ _)
no_methods p what.SchedulerAssociation name number = refl
no_methods p what.Selectors name number = refl
no_methods p what.Characters name number = refl
no_methods p what.Character name number = refl
no_methods p what.Symbols name number = refl
no_methods p what.SymbolTable name number = refl
no_methods p what.Globals name number = refl
no_methods p what.Class name number = refl
no_methods p what.Metaclass name number = refl
no_methods p what.Dictionary name number = refl
no_methods p what.Methods name number = refl
no_methods p what.MetaDictionary name number = refl
no_methods p what.MetaMethods name number = refl
no_methods p what.Symbol name number = refl
no_methods p what.Names name number = refl
no_methods p what.Variable name number = refl
no_methods p what.Pool name number = refl
no_methods p what.Shared name number = refl
no_methods p what.Global name number = refl
no_methods p what.Scheduler name number = refl
no_methods p what.Lists name number = refl
no_methods p what.List name number = refl

place_12 : place 12 ≡ 17
unfolding place
place_12 = refl

pub other_class : (p : FirstObjects) (x : Thing) → slice_get p.order.things 12 ≡ Some methods → place_in p.order.things (content p x).class ≢ 17
unfolding place_in
other_class p x is e = by (position (same (content p x).class) p.order.things) (λ i found. (position-Some (same (content p x).class) p.order.things i methods found).1) e
  where
    at_12 : (things : List Thing) → slice_get things 12 ≡ Some methods → get_or things 12 methods ≡ methods
    at_12 things is = sym (unwrap_or-slice_get things 12 methods) ∙ ap (λ o. unwrap_or o methods) is

    by : (o : Option ℕ) → ((i : ℕ) → o ≡ Some i → same (content p x).class (get_or p.order.things i methods) ≡ true) → place_at o ≡ 17 → ⊥
    by None found e = omega arith
    by (Some i) found e =
        let i_is : i ≡ 12 = same_turn i 12 (e ∙ sym place_12) in
        let t = found i refl in
        both_ways _ (ap (λ k. same (content p x).class (get_or p.order.things k methods)) i_is ∙ ap (same (content p x).class) (at_12 p.order.things is) ∙ no_methods p x.what x.name x.number) t

-- ONE OBJECT MORE

class_by : (things : List Thing) (c : ℕ) (b : Body) → c ≡ (object_by things c b).class
class_by things c (Fields fs) = refl
class_by things c (Bytes bs) = refl
class_by things c NoWords = refl

fit_more : (p : FirstObjects) (used : ℕ) (x : Thing) (xs : List Thing) → words_of (object p x) ≤ 65535 → used + words_of (object p x) ≤ most_words
    → fit_beside p used (x ∷ xs) ≡ fit_beside p (used + words_of (object p x)) xs
fit_more p used x xs size fits =
    let a = le-leb (words_of (object p x)) 65535 size in
    let b = le-leb (used + words_of (object p x)) most_words fits in
    rw (a, b) refl

module _ (p : FirstObjects) (begun v : View) (used i : ℕ) (is : IsBegun p begun) (u : Underway p begun v used i) (x : Thing) (got : slice_get p.order.things i ≡ Some x) where
  within : i < 32767
  within = let l = slice_get_within p.order.things i x got in let f = is.few in omega arith

  pub can_place : words_of (object p x) ≤ 65535 → used + words_of (object p x) ≤ most_words
      → (at : Oop) → value_of at.0 ≡ Ref (place i) → at.0 ≡ 2 * place i → (c : Oop) × CanPlace v at c (at.0 / 2) (object p x)
  unfolding object
  can_place size fits at here half =
      let b = place_within i within in
      let least = b.0 in
      let most = b.1 in
      let k : at.0 / 2 ≡ place i = omega arith in
      let entries = u.entries in
      let words = u.words in
      let head_entries = ap (λ h. h.entries) u.head ∙ is.entries in
      let head_words = ap (λ h. h.words) u.head ∙ is.words in
      let inside = u.places in
      let w = within in (
        record { 0 = 2 * place_in p.order.things (content p x).class },
        record {
          here = here ∙ ap Ref (sym k);
          borne = λ e. absurd (omega arith);
          free = ap (entry v.objects) k ∙ u.free i (omega arith) within;
          inside = omega arith;
          pointer = value_of_half (place_in p.order.things (content p x).class) ∙ ap Ref (class_by p.order.things (place_in p.order.things (content p x).class) (content p x).body);
          half = (let h : 2 * place_in p.order.things (content p x).class / 2 ≡ place_in p.order.things (content p x).class = omega arith in h ∙ class_by p.order.things (place_in p.order.things (content p x).class) (content p x).body);
          other = (λ e. other_class p x is.methods (class_by p.order.things (place_in p.order.things (content p x).class) (content p x).body ∙ e));
          size = size;
          entries = omega arith;
          words = omega arith;
        },
      )

  pub goes_on : (w : View) (used' : ℕ) → Puts v w (place i) (object p x) → used' ≡ used + words_of (object p x)
      → words_of (object p x) ≤ 65535 → used + words_of (object p x) ≤ most_words → Underway p begun w used' (i + 1)
  unfolding with_object
  goes_on w used' puts more size fits =
      let b = place_within i within in
      let most = b.1 in
      let placed = u.places in
      let inside : place i < length v.objects = omega arith in
      let free = u.free i (omega arith) within in
      let put_in : w.objects ≡ slice_set v.objects (place i) (Some (object p x)) = puts.objects in
      let left = drop_got p.order.things i x got in
      let s : suc i ≡ i + 1 = omega arith in
      record {
        rest = u.rest ∙ ap (λ xs. with_things p i xs v.objects) left
            ∙ ap (λ t. with_things p (suc i) (drop (i + 1) p.order.things) t) (sym put_in)
            ∙ ap (λ k. with_things p k (drop (i + 1) p.order.things) w.objects) s;
        fits = u.fits ∙ ap (fit_beside p used) left ∙ fit_more p used x (drop (i + 1) p.order.things) size fits
            ∙ ap (λ n. fit_beside p n (drop (i + 1) p.order.things)) (sym more);
        held = puts.held ∙ u.held;
        head = puts.head ∙ u.head;
        places = ap length put_in ∙ length-set v.objects (place i) (Some (object p x)) ∙ u.places;
        entries = (let t = ap (total_used one) put_in ∙ total_used-set one v.objects (place i) (object p x) inside free in let e = u.entries in omega arith);
        words = (let t = ap (total_used words_of) put_in ∙ total_used-set words_of v.objects (place i) (object p x) inside free in let e = u.words in omega arith);
        most = omega arith;
        free = (λ j le lt. ap (λ t. entry t (place j)) put_in
            ∙ entry-set_other v.objects (place i) (place j) (Some (object p x)) (λ e. let q = same_turn j i e in absurd (omega arith)) ∙ u.free j (omega arith) lt);
        live = (λ j lt. by_turn j (cases_lt j i) lt put_in inside);
        objects = (λ k o e. by_place k o (cases_eq k (place i)) (sym (ap (λ t. entry t k) put_in) ∙ e) inside);
      }
    where
      by_turn : (j : ℕ) → ((j < i) ⊎ (i ≤ j)) → j < i + 1 → w.objects ≡ slice_set v.objects (place i) (Some (object p x)) → place i < length v.objects → is_some (entry w.objects (place j)) ≡ true
      by_turn j (inl less) lt put_in inside =
          ap (λ t. is_some (entry t (place j))) put_in
          ∙ ap is_some (entry-set_other v.objects (place i) (place j) (Some (object p x)) (λ e. let q = same_turn j i e in absurd (omega arith))) ∙ u.live j less
      by_turn j (inr ge) lt put_in inside =
          let same : i ≡ j = omega arith in
          subst (λ n. is_some (entry w.objects (place n)) ≡ true) same (ap (λ t. is_some (entry t (place i))) put_in ∙ ap is_some (entry-set_same v.objects (place i) (Some (object p x)) inside))

      by_place : (k : ℕ) (o : Object) → ((k ≡ place i) ⊎ (k ≢ place i)) → entry (slice_set v.objects (place i) (Some (object p x))) k ≡ Some o → place i < length v.objects → (y : Thing) × (o ≡ object p y)
      by_place k o (inl same) e inside =
          let there : entry (slice_set v.objects (place i) (Some (object p x))) k ≡ Some (object p x) = ap (entry (slice_set v.objects (place i) (Some (object p x)))) same ∙ entry-set_same v.objects (place i) (Some (object p x)) inside in
          (x, (let s : o ≡ object p x = cc in s))
      by_place k o (inr other) e inside = u.objects k o (sym (entry-set_other v.objects (place i) k (Some (object p x)) other) ∙ e)

-- FROM THE FIRST TO THE LAST

pub begins : (p : FirstObjects) (v : View) → IsBegun p v → Underway p v v 0 0
begins p v is =
    let nothing : Option Object = None in
    record {
      rest = refl;
      fits = refl;
      held = refl;
      head = refl;
      places = ap length is.objects ∙ length-replicate 32768 nothing;
      entries = ap (total_used one) is.objects ∙ total_used-none one 32768;
      words = ap (total_used words_of) is.objects ∙ total_used-none words_of 32768;
      most = omega arith;
      free = (λ j le lt. ap (λ t. entry t (place j)) is.objects ∙ entry-none 32768 (place j));
      live = (λ j lt. absurd (omega arith));
      objects = (λ k o e. let n = sym (ap (λ t. entry t k) is.objects ∙ entry-none 32768 k) ∙ e in absurd cc);
    }

pub object_is : (p : FirstObjects) (x : Thing) (c : Content) → c ≡ content p x → object_in p.order.things c ≡ object p x
unfolding object
object_is p x c e = ap (object_in p.order.things) e

no_more : (a b c : Bool) → (a && b) ≡ false → (a && (b && c)) ≡ false
no_more true b c e = ap (λ x. x && c) e
no_more false b c e = refl

pub refused : (p : FirstObjects) (begun v now : View) (used i words : ℕ) (x : Thing) (u : Unmade) → Underway p begun v used i → slice_get p.order.things i ≡ Some x
    → words ≡ words_of (object p x) → HasWords used words (Err u) → PlacesAll p begun now (Err u)
refused p begun v now used i words x NoRoom under got is e =
    under.fits ∙ ap (fit_beside p used) (drop_got p.order.things i x got)
    ∙ no_more (nat_le (words_of (object p x)) 65535) (nat_le (used + words_of (object p x)) most_words) _ (ap (λ w. nat_le w 65535 && nat_le (used + w) most_words) (sym is) ∙ e)
refused p begun v now used i words x OutOfMemory under got is e = tt

pub puts_there : (v w : View) (k j : ℕ) (o q : Object) → k ≡ j → o ≡ q → Puts v w k o → Puts v w j q
puts_there v w k j o q at same puts = subst (λ n. Puts v w n q) at (subst (Puts v w k) same puts)
