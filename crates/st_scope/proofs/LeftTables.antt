-- The first of several tables that has a member of a name.
use Rattle.std.proofs.Common.{◌≡◌, ℕ, ◌+◌, ◌<◌, ◌≤◌, List, length, drop, Option, Some, None, Ok, Err, refl, ap, ◌∙◌}
use Rattle.std.specs.Prelude.{slice_index_or}
use Rattle.std.proofs.lemmas.List.{at_drop_more, drop_all}
use Rattle.st_model.specs.declared.dead.Dead.{Dead}
use Rattle.st_model.specs.declared.oop.Oop.{Oop}
use Rattle.st_model.specs.Values.{value}
use Rattle.st_model.specs.Machine.{State, answer, tried, ◌>>=◌}
use Rattle.st_model.specs.Table.{Table, table}
use Rattle.st_model.specs.inside.Calls.{Reads}
use Rattle.st_model.proofs.Runs.{run-then, after-went}
use Rattle.st_scope.specs.Tables.{member_named}
use Rattle.st_scope.specs.Variables.{member_if_any, or_later, association_in}
use Rattle.st_scope.specs.inside.Meanings.{values}
use Rattle.st_scope.specs.Texts.{found}

module _ (names : Oop) (text : List ℕ) (t : Table) where
  pub member-some : (a : Oop) → Reads (member_named table (value names) text) found t (Ok (Some a)) → Reads (member_if_any table (value names) text) found t (Ok (Some a))
  unfolding member_if_any tried answer
  member-some a e s f = simp (run-then, e s f, after-went) refl

  pub member-none : Reads (member_named table (value names) text) found t (Ok None) → Reads (member_if_any table (value names) text) found t (Ok None)
  unfolding member_if_any tried answer
  member-none e s f = simp (run-then, e s f, after-went) refl

  pub member-any : (x : Option Oop) → Reads (member_named table (value names) text) found t (Ok x) → Reads (member_if_any table (value names) text) found t (Ok x)
  member-any None e = member-none e
  member-any (Some a) e = member-some a e

  pub member-died : (k : Dead) → Reads (member_named table (value names) text) found t (Err k) → Reads (member_if_any table (value names) text) found t (Ok None)
  unfolding member_if_any tried answer
  member-died k e s f = simp (run-then, e s f, after-went) refl

pub ruleset members = (member-any, member-died)

-- what the tables from one on give is what all of them give
pub record LeftTables (tables : List Oop) (text : List ℕ) (i : ℕ) (t : Table) : Type 0 where
  pub same : (s : State Table) → s.memory ≡ t → (association_in table (values tables) text).run s ≡ (association_in table (values (drop i tables)) text).run s

module _ (tables : List Oop) (text : List ℕ) (t : Table) where
  pub every_table : LeftTables tables text 0 t
  every_table = record { same = λ s f. refl }

  pub no_table : (i : ℕ) → length tables ≤ i → LeftTables tables text i t → Reads (association_in table (values tables) text) found t (Ok None)
  unfolding association_in answer
  no_table i l h s f = h.same s f ∙ ap (λ xs. (association_in table (values xs) text).run s) (drop_all i tables l)

  module _ (i : ℕ) (d : Oop) (l : i < length tables) (h : LeftTables tables text i t) where
    turn : (s : State Table) → s.memory ≡ t → (association_in table (values tables) text).run s
        ≡ (member_if_any table (value (slice_index_or tables i d)) text >>= (λ x. or_later x (association_in table (values (drop (i + 1) tables)) text))).run s
    unfolding association_in
    turn s f = h.same s f ∙ at_drop_more (λ xs. (association_in table (values xs) text).run s) tables i d l

    module _ (x : Option Oop) (r : Reads (member_if_any table (value (slice_index_or tables i d)) text) found t (Ok x)) where
      pub table_has : (a : Oop) → x ≡ Some a → Reads (association_in table (values tables) text) found t (Ok (Some a))
      unfolding or_later answer
      table_has a q s f = turn s f ∙ simp (run-then, r s f, after-went, q) refl

      pub table_passed : x ≡ None → LeftTables tables text (i + 1) t
      unfolding or_later
      table_passed q = record { same = λ s f. turn s f ∙ simp (run-then, r s f, after-went, q) refl }
