-- Whether a value is the association of a method's class, over a table.
use Rattle.std.proofs.Common.{◌≡◌, ℕ, List, Bool, true, false, Option, Some, None, Ok, Err, refl, sym, ap, ◌∙◌}
use Rattle.std.specs.Prelude.{◌==◌, if◌then◌else◌}
use Rattle.st_model.specs.declared.dead.Dead.{Dead}
use Rattle.st_model.specs.Values.{Value, value_of}
use Rattle.st_model.specs.Table.{Table, table}
use Rattle.st_model.specs.Deeds.{over_table}
use Rattle.st_model.specs.inside.Calls.{Reads, itself}
use Rattle.st_model.specs.View.{table_of}
use Rattle.st_parts.specs.Owners.{owns, was_true, is_owner_among}

module _ (t : Table) (w : ℕ) (head : Option Value) (e : table_of w ≡ head) (name : List ℕ) (class v : Value) (meta : Bool) where
  none_if : (b : Bool) (o : Option Value) → (if b then None else Some (value_of w)) ≡ o → b ≡ true → o ≡ None
  none_if true o h f = sym h
  none_if false o h f = cc

  some_if : (b : Bool) (o : Option Value) → (if b then None else Some (value_of w)) ≡ o → b ≡ false → o ≡ Some (value_of w)
  some_if true o h f = cc
  some_if false o h f = sym h

  pub owner-nowhere : (w == 0) ≡ true → false ≡ is_owner_among t head name class meta v
  unfolding is_owner_among
  owner-nowhere z = sym (ap (λ (o : Option Value). is_owner_among t o name class meta v) (none_if (w == 0) head e z))

  module _ (z : (w == 0) ≡ false) where
    among : is_owner_among t head name class meta v ≡ was_true ((owns table (value_of w) name class v meta).run (over_table t))
    unfolding is_owner_among
    among = ap (λ (o : Option Value). is_owner_among t o name class meta v) (some_if (w == 0) head e z)

    pub owner-told : (b : Bool) → Reads (owns table (value_of w) name class v meta) itself t (Ok b) → b ≡ is_owner_among t head name class meta v
    owner-told b r = sym (among ∙ ap was_true (r (over_table t) refl))

    pub owner-died : (k : Dead) → Reads (owns table (value_of w) name class v meta) (itself {A = Bool}) t (Err k) → false ≡ is_owner_among t head name class meta v
    owner-died k r = sym (among ∙ ap was_true (r (over_table t) refl))

pub ruleset owners = (owner-nowhere, owner-told, owner-died)
