-- The pools of a chain, class after class.
use Rattle.std.proofs.Common.{◌≡◌, ℕ, ◌+◌, ◌<◌, ◌≤◌, List, [], ◌∷◌, ◌++◌, true, false, length, drop, Result, Ok, Err, refl, sym, ap, ◌∙◌, subst}
use Rattle.std.specs.Prelude.{slice_index_or}
use Rattle.std.specs.Global.{Vec}
use Rattle.std.proofs.lemmas.List.{at_drop_more, drop_all, map-append}
use Rattle.st_model.specs.declared.dead.Dead.{Dead}
use Rattle.st_model.specs.declared.oop.Oop.{Oop}
use Rattle.st_model.specs.Values.{Value, value}
use Rattle.st_model.specs.Machine.{State, Went, Died, answer, ◌>>=◌}
use Rattle.st_model.specs.Table.{Table, table}
use Rattle.st_model.specs.Steps.{fetch_field, count_fields}
use Rattle.st_model.specs.inside.Calls.{Reads, itself}
use Rattle.st_model.proofs.Runs.{run-then, after-went, after-died, run-answer}
use Rattle.st_scope.specs.Variables.{fields_or_none, pool_unless, pool_or_none, own_pools, pools}
use Rattle.st_scope.specs.inside.Meanings.{values, values_of}
use Rattle.st_scope.specs.declared.unread.Unread.{Unread}
use Rattle.st_scope.specs.declared.unread.Unread.TheVariants.{Dies, OutOfMemory}
use Rattle.st_scope.specs.inside.Findings.{Finds}
use Rattle.st_scope.proofs.Finding.{finds_death, finds_nothing}
use Rattle.st_scope.proofs.Lineages.{is_nil, is_other}
use Rattle.st_scope.proofs.FieldsOf.{pool_by}
use Rattle.st_scope.proofs.Passing.{Left, all_left, none_left, left_dies, passed_more}

pub no_pool : (o : Oop) (s : State Table) → o.0 ≡ 2 → (pool_or_none table (value o)).run s ≡ Went [] s
unfolding pool_unless answer
no_pool o s q = pool_by o s true (is_nil o q)

module _ (o : Oop) (t : Table) (other : o.0 ≡ 2 → ⊥) where
  pub pool_uncounted : (k : Dead) → Reads (count_fields table (value o)) itself t (Err k) → (s : State Table) → s.memory ≡ t → (pool_or_none table (value o)).run s ≡ Died k
  unfolding pool_unless
  pool_uncounted k r s e = pool_by o s false (is_other o other) ∙ simp (run-then, r s e, after-died) refl

  pub pool_counted : (n : ℕ) → Reads (count_fields table (value o)) itself t (Ok n) → (s : State Table) → s.memory ≡ t → (pool_or_none table (value o)).run s ≡ Went (value o ∷ []) s
  unfolding pool_unless
  pool_counted n r s e = pool_by o s false (is_other o other) ∙ simp (run-then, r s e, after-went, run-answer) refl

-- a class's own pools
pub own_and_shared : (class : Value) (t : Table) (pool : Oop) → Reads (fetch_field table class 7) value t (Ok pool) → (own : Vec Oop) → Reads (pool_or_none table (value pool)) values_of t (Ok own)
    → (array : Oop) → Reads (fetch_field table class 8) value t (Ok array) → (shared : Vec Oop) → Reads (fields_or_none table (value array)) values_of t (Ok shared)
    → (all : List Oop) → all ≡ own.items ++ shared.items → (s : State Table) → s.memory ≡ t → (own_pools table class).run s ≡ Went (values all) s
unfolding own_pools
own_and_shared class t pool a own b array c shared d all e s f =
    simp (run-then, a s f, after-went, b s f, c s f, d s f, run-answer) refl ∙ ap (λ vs. Went vs s) (sym (map-append value own.items shared.items) ∙ ap values (sym e))

module _ (classes : List Oop) (t : Table) where
  -- the pools of the classes up to one, and the step that gives those from there on
  abbrev pub LeftPools : ℕ → List Oop → Type 0
  LeftPools i tables = Left (pools table (values classes)) (pools table (values (drop i classes))) (values tables) t

  pub pools_begin : LeftPools 0 []
  pools_begin = all_left (pools table (values classes)) t

  module _ (i : ℕ) (tables : List Oop) (so_far : LeftPools i tables) where
    pub pools_end : length classes ≤ i → (s : State Table) → s.memory ≡ t → (pools table (values classes)).run s ≡ Went (values tables) s
    unfolding pools answer
    pools_end l = none_left (pools table (values classes)) (pools table (values (drop i classes))) (values tables) t so_far (λ s e. ap (λ xs. (pools table (values xs)).run s) (drop_all i classes l))

    module _ (d : Oop) (l : i < length classes) where
      turn : (s : State Table) → s.memory ≡ t → (pools table (values (drop i classes))).run s
          ≡ (own_pools table (value (slice_index_or classes i d)) >>= (λ own. pools table (values (drop (i + 1) classes)) >>= (λ above. answer (own ++ above)))).run s
      unfolding pools
      turn s f = at_drop_more (λ xs. (pools table (values xs)).run s) classes i d l

      pub pool_fails : (u : Unread) (r : Result (Vec Oop) Unread) → r ≡ Err u → Finds (own_pools table (value (slice_index_or classes i d))) values_of t (Err u) → Finds (pools table (values classes)) values_of t r
      pool_fails (Dies k) r e h =
          finds_death (pools table (values classes)) values_of t r k e
          (left_dies (pools table (values classes)) (pools table (values (drop i classes))) (values tables) t so_far (own_pools table (value (slice_index_or classes i d))) values_of _ turn k h)
      pool_fails OutOfMemory r e h = finds_nothing (pools table (values classes)) values_of t r e

      pub pool_passed : (own : Vec Oop) → Reads (own_pools table (value (slice_index_or classes i d))) values_of t (Ok own) → LeftPools (i + 1) (tables ++ own.items)
      pool_passed own r =
          subst (λ vs. Left (pools table (values classes)) (pools table (values (drop (i + 1) classes))) vs t) (sym (map-append value tables own.items))
          (passed_more (pools table (values classes)) (pools table (values (drop i classes))) (values tables) t so_far (own_pools table (value (slice_index_or classes i d))) values_of (λ vs. vs) (pools table (values (drop (i + 1) classes))) turn own r)
