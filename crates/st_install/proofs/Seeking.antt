-- The search through a dictionary, place by place.
use Rattle.std.proofs.Common.{◌≡◌, ◌≢◌, ℕ, ◌+◌, ◌-◌, suc, ◌<◌, ◌≤◌, Bool, true, false, Option, Some, None, Result, Ok, Err, refl, sym, ◌∙◌, ap, arith, subst}
use Rattle.std.specs.Prelude.{◌==◌, ◌/◌, ◌%◌, if◌then◌else◌, is_some}
use Rattle.std.proofs.lemmas.Bool.Decides.{nat_tests}
use Rattle.st_model.specs.declared.dead.Dead.{Dead}
use Rattle.st_model.specs.declared.oop.Oop.{Oop}
use Rattle.st_model.specs.declared.page.PageObject.TheVariants.{NilObject}
use Rattle.st_model.specs.Values.{Value, Small, Ref, value, value_of, is_small}
use Rattle.st_model.specs.Objects.{Object}
use Rattle.st_model.specs.Machine.{State, Went, Step, answer}
use Rattle.st_model.specs.Steps.{fetch_field, same_value}
use Rattle.st_model.specs.Lookup.{half_word, pointer_if}
use Rattle.st_model.specs.Table.{Table, table, entry}
use Rattle.st_model.specs.inside.Calls.{Reads, itself}
use Rattle.st_model.specs.View.{is_live}
use Rattle.st_model.proofs.Runs.{run-then, run-of_page, after-went, after-died}
use Rattle.st_model.proofs.Words.{same_words, value_of-nil}
use Rattle.st_install.specs.declared.places.DictionaryPlace.{DictionaryPlace}
use Rattle.st_install.specs.declared.places.DictionaryPlace.TheVariants as place
use Rattle.st_install.specs.Dictionaries.{Ending, Nowhere, ends_at, seek_at, seek_among, seek_from}
use Rattle.st_install.specs.inside.Endings.{ending_of, seek_of, SeeksAt, SeeksFrom}

-- ONE PLACE

module _ (d x : Oop) (k : ℕ) (t : Table) where
  pub look-died : (cause : Dead) → Reads (fetch_field table (value d) (2 + k)) value t (Err cause) → SeeksAt (value d) (value x) k t (Err cause)
  unfolding seek_at
  look-died cause e rest s f = simp (run-then, e s f, after-died) refl

  module _ (p : Oop) (e : Reads (fetch_field table (value d) (2 + k)) value t (Ok p)) where
    says : (rest : Step Table Ending) (s : State Table) → s.memory ≡ t
        → (seek_at table (value d) (value x) k rest).run s ≡ (ends_at k (p.0 == x.0) (p.0 == 2) rest).run s
    unfolding seek_at
    says rest s f =
        let a = sym (same_words p.0 x.0) in
        let b = ap (same_value (value p)) (sym value_of-nil) ∙ sym (same_words p.0 2) in
        simp (run-then, e s f, after-went, run-of_page NilObject s, a, b) refl

    ends_held : (b c : Bool) (rest : Step Table Ending) (s : State Table) → b ≡ true → (ends_at k b c rest).run s ≡ Went (ending_of (Some (place.Holds k))) s
    unfolding ends_at answer
    ends_held true c rest s h = refl
    ends_held false c rest s h = cc

    ends_vacant : (b c : Bool) (rest : Step Table Ending) (s : State Table) → b ≡ false → c ≡ true → (ends_at k b c rest).run s ≡ Went (ending_of (Some (place.Vacant k))) s
    unfolding ends_at answer
    ends_vacant true c rest s h g = cc
    ends_vacant false true rest s h g = refl
    ends_vacant false false rest s h g = cc

    ends_not : (b c : Bool) (rest : Step Table Ending) (s : State Table) → b ≡ false → c ≡ false → (ends_at k b c rest).run s ≡ rest.run s
    unfolding ends_at
    ends_not true c rest s h g = cc
    ends_not false true rest s h g = cc
    ends_not false false rest s h g = refl

    pub look-held : p.0 ≡ x.0 → SeeksAt (value d) (value x) k t (Ok (Some (place.Holds k)))
    look-held h rest s f = says rest s f ∙ ends_held _ _ rest s (grind (arith, nat_tests))

    pub look-vacant : p.0 ≢ x.0 → p.0 ≡ 2 → SeeksAt (value d) (value x) k t (Ok (Some (place.Vacant k)))
    look-vacant h g rest s f = says rest s f ∙ ends_vacant _ _ rest s (grind (arith, nat_tests)) (grind (arith, nat_tests))

    pub look-on : p.0 ≢ x.0 → p.0 ≢ 2 → SeeksAt (value d) (value x) k t (Ok None)
    look-on h g rest s f = says rest s f ∙ ends_not _ _ rest s (grind (arith, nat_tests)) (grind (arith, nat_tests))

pub ruleset looks = (look-died, look-held, look-vacant, look-on)

-- PLACES ONE AFTER THE OTHER

module _ (d x : Value) where
  none_left : (k : ℕ) (rest : Step Table Ending) (s : State Table) → (seek_among table d x k 0 rest).run s ≡ rest.run s
  unfolding seek_among
  none_left k rest s = refl

  one_more : (k left : ℕ) (rest : Step Table Ending) → seek_among table d x k (suc left) rest ≡ seek_at table d x k (seek_among table d x (suc k) left rest)
  unfolding seek_among
  one_more k left rest = refl

  next_place : (k to : ℕ) (rest : Step Table Ending) (s : State Table) → k < to
      → (seek_among table d x k (to - k) rest).run s ≡ (seek_at table d x k (seek_among table d x (k + 1) (to - (k + 1)) rest)).run s
  next_place k to rest s l =
      let e : to - k ≡ suc (to - (k + 1)) = omega (arith, l) in
      let f : k + 1 ≡ suc k = omega arith in
      rw (e, one_more k (to - (k + 1)) rest, f) refl

-- what is left from place k on gives what the places from one on give
pub record LeftPlaces (d x : Value) (from to k : ℕ) (t : Table) : Type 0 where
  pub same : (rest : Step Table Ending) (s : State Table) → s.memory ≡ t → (seek_among table d x from (to - from) rest).run s ≡ (seek_among table d x k (to - k) rest).run s

module _ (d x : Value) (from to : ℕ) (t : Table) where
  pub all_left : LeftPlaces d x from to from t
  all_left = record { same = λ rest s e. refl }

  module _ (k : ℕ) (l : k < to) (h : LeftPlaces d x from to k t) where
    at_place : (r : Result (Option DictionaryPlace) Dead) → SeeksAt d x k t r → (rest : Step Table Ending) (s : State Table) → s.memory ≡ t
        → (seek_among table d x from (to - from) rest).run s ≡ seek_of r (seek_among table d x (k + 1) (to - (k + 1)) rest) s
    at_place r e rest s f = h.same rest s f ∙ (next_place d x k to rest s l ∙ e _ s f)

    pub ends_left : (p : DictionaryPlace) → SeeksAt d x k t (Ok (Some p)) → SeeksFrom d x from (to - from) t (Ok (Some p))
    ends_left p e rest s f = at_place (Ok (Some p)) e rest s f

    pub dies_left : (cause : Dead) → SeeksAt d x k t (Err cause) → SeeksFrom d x from (to - from) t (Err cause)
    dies_left cause e rest s f = at_place (Err cause) e rest s f

    pub goes_on_left : SeeksAt d x k t (Ok None) → LeftPlaces d x from to (k + 1) t
    goes_on_left e = record { same = λ rest s f. at_place (Ok None) e rest s f }

  pub no_left : (k : ℕ) → to ≤ k → LeftPlaces d x from to k t → SeeksFrom d x from (to - from) t (Ok None)
  no_left k l h rest s f = let e : to - k ≡ 0 = omega (arith, l) in h.same rest s f ∙ (ap (λ n. (seek_among table d x k n rest).run s) e ∙ none_left d x k rest s)

-- FROM A START

module _ (d x : Oop) (places start : ℕ) (t : Table) where
  pub ends_first : (p : DictionaryPlace) → SeeksFrom (value d) (value x) start (places - start) t (Ok (Some p)) → Reads (seek_from table (value d) (value x) places start) ending_of t (Ok (Some p))
  unfolding seek_from
  ends_first p e s f = e _ s f

  pub dies_first : (cause : Dead) → SeeksFrom (value d) (value x) start (places - start) t (Err cause) → Reads (seek_from table (value d) (value x) places start) ending_of t (Err cause)
  unfolding seek_from
  dies_first cause e s f = e _ s f

  second : (r : Result (Option DictionaryPlace) Dead) (s : State Table) → seek_of r (answer Nowhere) s ≡ seek_of r (answer (ending_of None)) s
  second r s = refl

  answered : (r : Result (Option DictionaryPlace) Dead) (s : State Table) → SeeksFrom (value d) (value x) 0 (start - 0) t r → s.memory ≡ t → (n : ℕ) → n ≡ start
      → (seek_among table (value d) (value x) 0 n (answer Nowhere)).run s ≡ seek_of r (answer Nowhere) s
  answered r s e f n z = let q : n ≡ start - 0 = omega (arith, z) in rw q (e (answer Nowhere) s f)

  pub ends_second : (r : Result (Option DictionaryPlace) Dead) → SeeksFrom (value d) (value x) start (places - start) t (Ok None) → SeeksFrom (value d) (value x) 0 (start - 0) t r → Reads (seek_from table (value d) (value x) places start) ending_of t r
  unfolding seek_from answer
  ends_second (Ok (Some p)) e g s f = e _ s f ∙ answered (Ok (Some p)) s g f start refl
  ends_second (Ok None) e g s f = e _ s f ∙ answered (Ok None) s g f start refl
  ends_second (Err cause) e g s f = e _ s f ∙ answered (Err cause) s g f start refl

-- HALVES

half_if : (b : Bool) (n : ℕ) (s : State Table) → is_small (if b then Small n else Ref n) ≡ true → (half_word table (if b then Small n else Ref n)).run s ≡ Went n s
unfolding half_word answer
half_if true n s e = refl
half_if false n s e = cc

pub half-small : (o : Oop) (t : Table) → is_small (value o) ≡ true → Reads (half_word table (value o)) itself t (Ok (o.0 / 2))
unfolding value_of
half-small o t e s f = half_if (o.0 % 2 == 1) (o.0 / 2) s e

half_some : (n : ℕ) (s : State Table) (a : Option Object) → is_some a ≡ true → pointer_if table s.memory n a ≡ n
half_some n s None e = cc
half_some n s (Some o) e = refl

live_if : (b : Bool) (n : ℕ) (s : State Table) → is_live s.memory (if b then Small n else Ref n) ≡ true → (half_word table (if b then Small n else Ref n)).run s ≡ Went n s
unfolding half_word is_live
live_if true n s e = cc
live_if false n s e = ap (λ k. Went k s) (half_some n s (entry s.memory n) e)

pub half-live : (o : Oop) (t : Table) → is_live t (value o) ≡ true → Reads (half_word table (value o)) itself t (Ok (o.0 / 2))
unfolding value_of
half-live o t e s f = live_if (o.0 % 2 == 1) (o.0 / 2) s (subst (λ (u : Table). is_live u (value o) ≡ true) (sym f) e)

half_none : (n : ℕ) (s : State Table) (a : Option Object) → is_some a ≡ false → pointer_if table s.memory n a ≡ 0
half_none n s None e = refl
half_none n s (Some o) e = cc

gone_at : (v : Value) (s : State Table) → is_small v ≡ false → is_live s.memory v ≡ false → (half_word table v).run s ≡ Went 0 s
unfolding half_word is_live
gone_at (Small n) s small e = cc
gone_at (Ref n) s small e = ap (λ k. Went k s) (half_none n s (entry s.memory n) e)

pub half-gone : (o : Oop) (t : Table) → is_small (value o) ≡ false → is_live t (value o) ≡ false → Reads (half_word table (value o)) itself t (Ok 0)
half-gone o t small e s f = gone_at (value o) s small (subst (λ (u : Table). is_live u (value o) ≡ false) (sym f) e)

pub ruleset halves = (half-small, half-live, half-gone)
