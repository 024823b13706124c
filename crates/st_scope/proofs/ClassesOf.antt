-- Classes of objects, and classes by their names.
use Rattle.std.proofs.Common.{◌≡◌, ℕ, List, Bool, true, false, Option, Some, None, Ok, Err, refl, sym, ◌∙◌}
use Rattle.std.specs.Prelude.{◌==◌, if◌then◌else◌}
use Rattle.st_model.specs.declared.dead.Dead.{Dead}
use Rattle.st_model.specs.declared.oop.Oop.{Oop}
use Rattle.st_model.specs.declared.page.PageObject.TheVariants.{SmallIntegerClass}
use Rattle.st_model.specs.Values.{Value, Small, Ref, value_of, value, is_small}
use Rattle.st_model.specs.Machine.{Head, State, Went, answer, tried, ◌>>=◌, ◌>>◌}
use Rattle.st_model.specs.Steps.{object, of_page, class_of, or_die, fetch_field}
use Rattle.st_model.specs.Table.{Table, table}
use Rattle.st_model.specs.inside.Calls.{Reads, itself}
use Rattle.st_model.specs.View.{View, IsWhole, table_of, is_live}
use Rattle.st_model.proofs.Runs.{run-then, after-went, after-died}
use Rattle.st_scope.specs.declared.fault.InstallFault.TheVariants.{NoClass, NoGlobals}
use Rattle.st_scope.specs.Classes.{class_named, class_association}
use Rattle.st_scope.specs.Tables.{member_named, check_fields}
use Rattle.st_scope.specs.Texts.{found}
use Rattle.st_scope.specs.Calls.{class_among, class_of_name}
use Rattle.st_scope.specs.inside.Meanings.{class_found}

-- CLASSES OF OBJECTS

pub small-class : (v : Value) (s : State Table) → is_small v ≡ true → (class_of table v).run s ≡ Went (value (record { 0 = 12 })) s
unfolding class_of of_page value_of
small-class (Small n) s e = refl
small-class (Ref n) s e = cc

pub object-class : (v : Value) (s : State Table) → is_small v ≡ false → (class_of table v).run s ≡ (object table v >>= (λ o. answer (Ref o.class))).run s
unfolding class_of object
object-class (Small n) s e = cc
object-class (Ref n) s e = refl

pub ruleset classes = (small-class, object-class)

-- CLASSES BY NAME

globals_if : (w : ℕ) (b : Bool) (o : Option Value) → (if b then None else Some (value_of w)) ≡ o → b ≡ false → o ≡ Some (value_of w)
globals_if w true o e f = cc
globals_if w false o e f = sym e

none_if : (w : ℕ) (b : Bool) (o : Option Value) → (if b then None else Some (value_of w)) ≡ o → b ≡ true → o ≡ None
none_if w true o e f = sym e
none_if w false o e f = cc

module _ (head : Head) (name : List ℕ) (meta : Bool) (t : Table) where
  among_none : (g : Option Value) → g ≡ None → (s : State Table) → (class_among table g name meta).run s ≡ Went (Err NoGlobals) s
  unfolding class_among answer
  among_none None e s = refl
  among_none (Some v) e s = cc

  pub named-nowhere : (w : ℕ) → table_of w ≡ head.globals → (w == 0) ≡ true → Reads (class_of_name table head name meta) class_found t (Ok (Err NoGlobals))
  unfolding class_of_name
  named-nowhere w e z s f = among_none head.globals (none_if w (w == 0) head.globals e z) s

  module _ (w : ℕ) (e : table_of w ≡ head.globals) (z : (w == 0) ≡ false) where
    among_some : (g : Option Value) → g ≡ Some (value_of w) → (s : State Table) → (class_among table g name meta).run s ≡ (class_among table (Some (value_of w)) name meta).run s
    among_some None q s = cc
    among_some (Some v) q s = rw q refl

    pub named-died : (k : Dead) → Reads (class_named table (value_of w) name meta) value t (Err k) → Reads (class_of_name table head name meta) class_found t (Ok (Err NoClass))
    unfolding class_of_name class_among tried answer
    named-died k r s f = among_some head.globals (globals_if w (w == 0) head.globals e z) s ∙ simp (run-then, r s f, after-went) refl

    pub named-found : (class : Oop) → Reads (class_named table (value_of w) name meta) value t (Ok class) → Reads (class_of_name table head name meta) class_found t (Ok (Ok class))
    unfolding class_of_name class_among tried answer
    named-found class r s f = among_some head.globals (globals_if w (w == 0) head.globals e z) s ∙ simp (run-then, r s f, after-went) refl

pub ruleset named = (named-nowhere, named-died, named-found)

-- the class of SmallIntegers is there
pub small_class_known : (v : View) → IsWhole v → is_live v.objects (value (record { 0 = 12 })) ≡ true
unfolding value_of
small_class_known v whole = whole.complete.page SmallIntegerClass

-- ASSOCIATIONS

module _ (globals : Oop) (name : List ℕ) (t : Table) (a : Oop) (e : Reads (member_named table (value globals) name) found t (Ok (Some a))) where
  pub value_dies : (k : Dead) → Reads (fetch_field table (value a) 1) value t (Err k) → Reads (class_association table (value globals) name) value t (Err k)
  unfolding class_association or_die answer
  value_dies k r s f = simp (run-then, e s f, after-went, r s f, after-died) refl

  pub no_class : (class : Oop) (k : Dead) → Reads (fetch_field table (value a) 1) value t (Ok class) → Reads (check_fields table (value class) 9) itself t (Err k)
      → Reads (class_association table (value globals) name) value t (Err k)
  unfolding class_association or_die answer ◌>>◌
  no_class class k r h s f = simp (run-then, e s f, r s f, h s f, after-died) refl

  pub is_class : (class : Oop) (u : Unit {0}) → Reads (fetch_field table (value a) 1) value t (Ok class) → Reads (check_fields table (value class) 9) itself t (Ok u)
      → Reads (class_association table (value globals) name) value t (Ok a)
  unfolding class_association or_die answer ◌>>◌
  is_class class u r h s f = simp (run-then, e s f, after-went, r s f, h s f) refl
