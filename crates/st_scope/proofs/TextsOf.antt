-- Names xs texts: a list of them, and those of a chain.
use Rattle.std.proofs.Common.{◌≡◌, ℕ, ◌+◌, ◌<◌, ◌≤◌, zero, suc, true, false, List, [], ◌∷◌, ◌++◌, length, drop, Result, Ok, Err, refl, sym, ap, ◌∙◌, subst, arith}
use Rattle.std.specs.Prelude.{slice_index_or}
use Rattle.std.specs.Global.{Vec}
use Rattle.std.proofs.lemmas.List.{at_drop_more, drop_all}
use Rattle.st_model.specs.declared.dead.Dead.{Dead}
use Rattle.st_model.specs.declared.oop.Oop.{Oop}
use Rattle.st_model.specs.Values.{Value, value}
use Rattle.st_model.specs.declared.dead.Dead.TheVariants as dead
use Rattle.st_model.specs.Objects.{is_bytes}
use Rattle.st_model.specs.Machine.{State, Went, Died, answer, ◌>>=◌}
use Rattle.st_model.specs.Steps.{object}
use Rattle.st_model.specs.View.{object_of}
use Rattle.st_model.specs.Table.{Table, table}
use Rattle.st_model.specs.inside.Calls.{Reads}
use Rattle.st_model.proofs.Runs.{run-then, run-next, run-passed, run-failed, after-went, after-died, run-answer}
use Rattle.st_emit.specs.inside.NameViews.{texts_view}
use Rattle.st_scope.specs.Tables.{bytes_of}
use Rattle.st_scope.specs.Variables.{name_of, names_of, own_names, field_names}
use Rattle.st_scope.specs.inside.Meanings.{values}
use Rattle.st_scope.specs.declared.unread.Unread.{Unread}
use Rattle.st_scope.specs.declared.unread.Unread.TheVariants.{Dies, OutOfMemory}
use Rattle.st_scope.specs.inside.Findings.{Finds, text_of, texts_of}
use Rattle.st_scope.proofs.Finding.{finds_death, finds_nothing}
use Rattle.st_scope.proofs.Passing.{Left, all_left, none_left, left_dies, passed_more}

pub texts_view-append : (xs bs : List (Vec ℕ)) → texts_view (xs ++ bs) ≡ texts_view xs ++ texts_view bs
texts_view-append [] bs = refl
texts_view-append (a ∷ xs) bs = ap (λ ts. a.items ∷ ts) (texts_view-append xs bs)

-- BYTES

module _ (v : Value) (t : Table) (u : Unit {0}) (there : Reads (object table v) (λ (u : Unit {0}). object_of t v) t (Ok u)) where
  pub no_bytes : is_bytes (object_of t v).kind ≡ false → (s : State Table) → s.memory ≡ t → (bytes_of table v).run s ≡ Died dead.Kind
  unfolding bytes_of
  no_bytes k s e = simp (run-then, there s e, after-went, run-next, run-failed dead.Kind _ s k, after-died) refl

  pub its_bytes : is_bytes (object_of t v).kind ≡ true → (s : State Table) → s.memory ≡ t → (bytes_of table v).run s ≡ Went (object_of t v).units s
  unfolding bytes_of
  its_bytes k s e = simp (run-then, there s e, after-went, run-next, run-passed dead.Kind _ s k, run-answer) refl

-- A LIST OF NAMES

module _ (list : List Oop) (t : Table) where
  -- the texts of the names up to one, and the step that gives those from there on
  abbrev pub LeftNames : ℕ → List (Vec ℕ) → Type 0
  LeftNames i texts = Left (names_of table (values list)) (names_of table (values (drop i list))) (texts_view texts) t

  pub names_begin : LeftNames 0 []
  names_begin = all_left (names_of table (values list)) t

  module _ (i : ℕ) (texts : List (Vec ℕ)) (so_far : LeftNames i texts) where
    pub names_end : length list ≤ i → (s : State Table) → s.memory ≡ t → (names_of table (values list)).run s ≡ Went (texts_view texts) s
    unfolding names_of answer
    names_end l = none_left (names_of table (values list)) (names_of table (values (drop i list))) (texts_view texts) t so_far (λ s e. ap (λ xs. (names_of table (values xs)).run s) (drop_all i list l))

    module _ (d : Oop) (l : i < length list) where
      turn : (s : State Table) → s.memory ≡ t → (names_of table (values (drop i list))).run s
          ≡ (name_of table (value (slice_index_or list i d)) >>= (λ name. names_of table (values (drop (i + 1) list)) >>= (λ names. answer (name ∷ names)))).run s
      unfolding names_of
      turn s f = at_drop_more (λ xs. (names_of table (values xs)).run s) list i d l

      pub name_fails : (u : Unread) (r : Result (Vec (Vec ℕ)) Unread) → r ≡ Err u → Finds (name_of table (value (slice_index_or list i d))) text_of t (Err u) → Finds (names_of table (values list)) texts_of t r
      name_fails (Dies k) r e h =
          finds_death (names_of table (values list)) texts_of t r k e
          (left_dies (names_of table (values list)) (names_of table (values (drop i list))) (texts_view texts) t so_far (name_of table (value (slice_index_or list i d))) text_of _ turn k h)
      name_fails OutOfMemory r e h = finds_nothing (names_of table (values list)) texts_of t r e

      pub name_passed : (text : Vec ℕ) → Reads (name_of table (value (slice_index_or list i d))) text_of t (Ok text) → LeftNames (i + 1) (texts ++ text ∷ [])
      name_passed text r =
          subst (λ ts. Left (names_of table (values list)) (names_of table (values (drop (i + 1) list))) ts t) (sym (texts_view-append texts (text ∷ [])))
          (passed_more (names_of table (values list)) (names_of table (values (drop i list))) (texts_view texts) t so_far (name_of table (value (slice_index_or list i d))) text_of (λ name. name ∷ []) (names_of table (values (drop (i + 1) list))) turn text r)

-- THE NAMES OF A CHAIN

above_dies : (v : Value) (vs : List Value) (k : Dead) (s : State Table) → (field_names table vs).run s ≡ Died k → (field_names table (v ∷ vs)).run s ≡ Died k
unfolding field_names
above_dies v vs k s e = simp (run-then, e, after-died) refl

dies_above : (classes : List Oop) (i : ℕ) (k : Dead) (s : State Table) → (field_names table (values (drop i classes))).run s ≡ Died k → (field_names table (values classes)).run s ≡ Died k
dies_above classes zero k s e = e
dies_above [] (suc i) k s e = e
dies_above (c ∷ cs) (suc i) k s e = above_dies (value c) (values cs) k s (dies_above cs i k s e)

module _ (classes : List Oop) (t : Table) where
  -- the names of the classes from one on
  pub record LastNames (i : ℕ) (texts : List (Vec ℕ)) : Type 0 where
    pub same : (s : State Table) → s.memory ≡ t → (field_names table (values (drop i classes))).run s ≡ Went (texts_view texts) s
    pub within : i ≤ length classes

  pub last_begin : (left : ℕ) → left ≡ length classes → LastNames left []
  unfolding field_names answer
  last_begin left e = record {
    same = λ s f. let l : length classes ≤ left = omega (arith, e) in ap (λ xs. (field_names table (values xs)).run s) (drop_all left classes l);
    within = omega (arith, e);
  }

  pub last_end : (left : ℕ) (texts : List (Vec ℕ)) → LastNames left texts → left ≤ 0 → (s : State Table) → s.memory ≡ t → (field_names table (values classes)).run s ≡ Went (texts_view texts) s
  last_end zero texts h l = h.same
  last_end (suc left) texts h l = absurd (omega (arith, l))

  module _ (i left : ℕ) (one : i + 1 ≡ left) (d : Oop) (texts : List (Vec ℕ)) (h : LastNames left texts) where
    l : i < length classes
    l = let w = h.within in omega (arith, w, one)

    last : (s : State Table) → s.memory ≡ t → (field_names table (values (drop (i + 1) classes))).run s ≡ Went (texts_view texts) s
    last = subst (λ k. (s : State Table) → s.memory ≡ t → (field_names table (values (drop k classes))).run s ≡ Went (texts_view texts) s) (sym one) h.same

    turn_back : (s : State Table) → (field_names table (values (drop i classes))).run s
        ≡ (field_names table (values (drop (i + 1) classes)) >>= (λ above. own_names table (value (slice_index_or classes i d)) >>= (λ own. answer (above ++ own)))).run s
    unfolding field_names
    turn_back s = at_drop_more (λ xs. (field_names table (values xs)).run s) classes i d l

    pub last_more : (own : Vec (Vec ℕ)) → Reads (own_names table (value (slice_index_or classes i d))) texts_of t (Ok own) → LastNames i (texts ++ own.items)
    last_more own r = record {
      same = λ s f. turn_back s ∙ (simp (run-then, last s f, after-went, r s f, run-answer) refl ∙ ap (λ ts. Went ts s) (sym (texts_view-append texts own.items)));
      within = let w = l in omega (arith, w);
    }

    last_dies : (k : Dead) → Reads (own_names table (value (slice_index_or classes i d))) texts_of t (Err k) → (s : State Table) → s.memory ≡ t → (field_names table (values classes)).run s ≡ Died k
    last_dies k r s f = dies_above classes i k s (turn_back s ∙ simp (run-then, last s f, after-went, r s f, after-died) refl)

    pub last_fails : (u : Unread) (r : Result (Vec (Vec ℕ)) Unread) → r ≡ Err u → Finds (own_names table (value (slice_index_or classes i d))) texts_of t (Err u) → Finds (field_names table (values classes)) texts_of t r
    last_fails (Dies k) r e q = finds_death (field_names table (values classes)) texts_of t r k e (last_dies k q)
    last_fails OutOfMemory r e q = finds_nothing (field_names table (values classes)) texts_of t r e
