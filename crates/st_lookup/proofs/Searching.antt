-- The search through a dictionary, place by place.
use Rattle.std.proofs.Common.{◌≡◌, ℕ, ◌+◌, ◌-◌, zero, suc, ◌<◌, ◌≤◌, Bool, true, false, Option, None, Result, Ok, Err, refl, sym, ◌∙◌, ap, arith}
use Rattle.st_model.specs.declared.dead.Dead.{Dead}
use Rattle.st_model.specs.declared.word.Word.{Word}
use Rattle.st_model.specs.declared.page.PageObject.TheVariants.{NilObject}
use Rattle.st_model.specs.Values.{Value, Ref, word}
use Rattle.st_model.specs.Objects.{place_of}
use Rattle.st_model.specs.Machine.{ObjectMemory, State, Went, Step, answer}
use Rattle.st_model.specs.Steps.{fetch_field, of_page, same_value}
use Rattle.st_model.specs.Lookup.{method_at, place_says, look_at_place, look_at_places, search_from}
use Rattle.st_model.specs.Table.{Table, IsTabular}
use Rattle.st_model.specs.inside.Calls.{Reads}
use Rattle.st_model.proofs.Runs.{run-then, after-went, after-died}
use Rattle.st_lookup.specs.declared.places.Search.{Search}
use Rattle.st_lookup.specs.declared.places.Search.TheVariants.{Ends, GoesOn}
use Rattle.st_lookup.specs.inside.Places.{found_word, search_of, LooksAt, LooksFrom}

module _ {m : ObjectMemory Table} (h : IsTabular m) (d x : Value) (k : ℕ) (t : Table) where
  nil_run : (s : State Table) → (of_page m NilObject).run s ≡ Went (Ref (place_of NilObject)) s
  unfolding of_page
  nil_run s = rw h.named refl

  pub look_died : (cause : Dead) → Reads (fetch_field m d (2 + k)) word t (Err cause) → LooksAt m d x k t (Err cause)
  unfolding look_at_place
  look_died cause e rest s f = simp (run-then, e s f, after-died) refl

  says : (p : Word) (rest : Step Table (Option Value)) (s : State Table) → Reads (fetch_field m d (2 + k)) word t (Ok p) → s.memory ≡ t
      → (look_at_place m d x k rest).run s ≡ (place_says m d k (same_value (word p) x) (same_value (word p) (Ref (place_of NilObject))) rest).run s
  unfolding look_at_place
  says p rest s e f = simp (run-then, e s f, after-went, nil_run s) refl

  at_selector : (b c : Bool) (rest : Step Table (Option Value)) (s : State Table) → b ≡ true → (place_says m d k b c rest).run s ≡ (method_at m d k).run s
  unfolding place_says
  at_selector true c rest s e = refl
  at_selector false c rest s e = cc

  at_nil : (b c : Bool) (rest : Step Table (Option Value)) (s : State Table) → b ≡ false → c ≡ true → (place_says m d k b c rest).run s ≡ Went None s
  unfolding place_says answer
  at_nil true c rest s e f = cc
  at_nil false true rest s e f = refl
  at_nil false false rest s e f = cc

  at_other : (b c : Bool) (rest : Step Table (Option Value)) (s : State Table) → b ≡ false → c ≡ false → (place_says m d k b c rest).run s ≡ rest.run s
  unfolding place_says
  at_other true c rest s e f = cc
  at_other false true rest s e f = cc
  at_other false false rest s e f = refl

  pub look_found : (p : Word) (o : Option Word) → Reads (fetch_field m d (2 + k)) word t (Ok p) → same_value (word p) x ≡ true → Reads (method_at m d k) found_word t (Ok o)
      → LooksAt m d x k t (Ok (Ends o))
  look_found p o e f g rest s q = says p rest s e q ∙ (at_selector _ _ rest s f ∙ g s q)

  pub look_found_died : (p : Word) (cause : Dead) → Reads (fetch_field m d (2 + k)) word t (Ok p) → same_value (word p) x ≡ true → Reads (method_at m d k) found_word t (Err cause)
      → LooksAt m d x k t (Err cause)
  look_found_died p cause e f g rest s q = says p rest s e q ∙ (at_selector _ _ rest s f ∙ g s q)

  pub look_nil : (p : Word) → Reads (fetch_field m d (2 + k)) word t (Ok p) → same_value (word p) x ≡ false → same_value (word p) (Ref (place_of NilObject)) ≡ true
      → LooksAt m d x k t (Ok (Ends None))
  look_nil p e f g rest s q = says p rest s e q ∙ at_nil _ _ rest s f g

  pub look_on : (p : Word) → Reads (fetch_field m d (2 + k)) word t (Ok p) → same_value (word p) x ≡ false → same_value (word p) (Ref (place_of NilObject)) ≡ false
      → LooksAt m d x k t (Ok GoesOn)
  look_on p e f g rest s q = says p rest s e q ∙ at_other _ _ rest s f g

module _ (m : ObjectMemory Table) (d x : Value) where
  pub none_left : (k : ℕ) (t : Table) (rest : Step Table (Option Value)) (s : State Table) → (look_at_places m d x k 0 rest).run s ≡ rest.run s
  unfolding look_at_places
  none_left k t rest s = refl

  one_more : (k left : ℕ) (rest : Step Table (Option Value)) → look_at_places m d x k (suc left) rest ≡ look_at_place m d x k (look_at_places m d x (suc k) left rest)
  unfolding look_at_places
  one_more k left rest = refl

  pub next_place : (k to : ℕ) (t : Table) (rest : Step Table (Option Value)) (s : State Table) → k < to
      → (look_at_places m d x k (to - k) rest).run s ≡ (look_at_place m d x k (look_at_places m d x (k + 1) (to - (k + 1)) rest)).run s
  next_place k to t rest s l =
      let e : to - k ≡ suc (to - (k + 1)) = omega arith in
      let f : k + 1 ≡ suc k = omega arith in
      rw (e, one_more k (to - (k + 1)) rest, f) refl

  no_place : (k : ℕ) (rest : Step Table (Option Value)) → look_at_places m d x k 0 rest ≡ rest
  unfolding look_at_places
  no_place k rest = refl

  -- places one after the other
  split_places : (a k b : ℕ) (rest : Step Table (Option Value)) → look_at_places m d x k (a + b) rest ≡ look_at_places m d x k a (look_at_places m d x (k + a) b rest)
  split_places zero k b rest =
      let e : k + 0 ≡ k = omega arith in let f : 0 + b ≡ b = omega arith in rw (e, f) (sym (no_place k (look_at_places m d x k b rest)))
  split_places (suc a) k b rest =
      let e : suc a + b ≡ suc (a + b) = omega arith in
      let f : k + suc a ≡ suc k + a = omega arith in
      rw (e, f, one_more k (a + b) rest, one_more k a (look_at_places m d x (suc k + a) b rest)) (ap (look_at_place m d x k) (split_places a (suc k) b rest))

  module _ (places start : ℕ) (l : start < places) (t : Table) where
    pub ends_first : (o : Option Word) → LooksFrom m d x start (places - start) t (Ok (Ends o)) → Reads (search_from m d x places start) found_word t (Ok o)
    unfolding search_from
    ends_first o e s f = e _ s f

    pub dies_first : (cause : Dead) → LooksFrom m d x start (places - start) t (Err cause) → Reads (search_from m d x places start) found_word t (Err cause)
    unfolding search_from
    dies_first cause e s f = e _ s f

    -- the places from the start on hold neither, so that looking at them again changes nothing
    again : (r : Result Search Dead) → LooksFrom m d x start (places - start) t (Ok GoesOn) → LooksFrom m d x 0 (start - 0) t r → (s : State Table) → s.memory ≡ t
        → (search_from m d x places start).run s ≡ search_of r (look_at_places m d x start (places - start) (answer None)) s
    unfolding search_from
    again r e g s f =
        let a : places ≡ (start - 0) + (places - start) = omega arith in
        let b : 0 + (start - 0) ≡ start = omega arith in
        e _ s f ∙ (ap (λ n. (look_at_places m d x 0 n (answer None)).run s) a ∙ (ap (λ (y : Step Table (Option Value)). y.run s) (split_places (start - 0) 0 (places - start) (answer None)) ∙ rw b (g _ s f)))

    pub ends_second : (o : Option Word) → LooksFrom m d x start (places - start) t (Ok GoesOn) → LooksFrom m d x 0 (start - 0) t (Ok (Ends o)) → Reads (search_from m d x places start) found_word t (Ok o)
    ends_second o e g s f = again (Ok (Ends o)) e g s f

    pub dies_second : (cause : Dead) → LooksFrom m d x start (places - start) t (Ok GoesOn) → LooksFrom m d x 0 (start - 0) t (Err cause) → Reads (search_from m d x places start) found_word t (Err cause)
    dies_second cause e g s f = again (Err cause) e g s f

    pub ends_never : LooksFrom m d x start (places - start) t (Ok GoesOn) → LooksFrom m d x 0 (start - 0) t (Ok GoesOn) → Reads (search_from m d x places start) found_word t (Ok None)
    unfolding answer
    ends_never e g s f = again (Ok GoesOn) e g s f ∙ e (answer None) s f

-- in a loop up to a place: what is left from place k on gives what the whole gives
pub record Left (m : ObjectMemory Table) (d x : Value) (from to k : ℕ) (t : Table) : Type 0 where
  pub above : from ≤ k
  pub below : k ≤ to
  pub same : (rest : Step Table (Option Value)) (s : State Table) → s.memory ≡ t → (look_at_places m d x from (to - from) rest).run s ≡ (look_at_places m d x k (to - k) rest).run s

module _ (m : ObjectMemory Table) (d x : Value) (from to : ℕ) (t : Table) where
  pub all_left : from ≤ to → Left m d x from to from t
  all_left l = record { above = omega arith; below = l; same = λ rest s e. refl }

  at_place : (k : ℕ) → k < to → Left m d x from to k t → (r : Result Search Dead) → LooksAt m d x k t r → (rest : Step Table (Option Value)) (s : State Table) → s.memory ≡ t
      → (look_at_places m d x from (to - from) rest).run s ≡ search_of r (look_at_places m d x (k + 1) (to - (k + 1)) rest) s
  at_place k l h r e rest s f = h.same rest s f ∙ (next_place m d x k to t rest s l ∙ e _ s f)

  pub ends_left : (k : ℕ) (o : Option Word) → k < to → Left m d x from to k t → LooksAt m d x k t (Ok (Ends o)) → LooksFrom m d x from (to - from) t (Ok (Ends o))
  ends_left k o l h e rest s f = at_place k l h (Ok (Ends o)) e rest s f

  pub dies_left : (k : ℕ) (cause : Dead) → k < to → Left m d x from to k t → LooksAt m d x k t (Err cause) → LooksFrom m d x from (to - from) t (Err cause)
  dies_left k cause l h e rest s f = at_place k l h (Err cause) e rest s f

  pub goes_on_left : (k : ℕ) → k < to → Left m d x from to k t → LooksAt m d x k t (Ok GoesOn) → Left m d x from to (k + 1) t
  goes_on_left k l h e = let a = h.above in record { above = omega arith; below = omega arith; same = λ rest s f. at_place k l h (Ok GoesOn) e rest s f }

  pub no_left : (k : ℕ) → to ≤ k → Left m d x from to k t → LooksFrom m d x from (to - from) t (Ok GoesOn)
  no_left k l h rest s f = let e : to - k ≡ 0 = omega arith in h.same rest s f ∙ (ap (λ n. (look_at_places m d x k n rest).run s) e ∙ none_left m d x k t rest s)
