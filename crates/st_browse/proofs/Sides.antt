-- Classes are there.
use Rattle.std.proofs.Common.{◌≡◌, length, Bool, true, false, refl, sym, ◌∙◌}
use Rattle.std.specs.Prelude.{◌&&◌, nat_le, if◌then◌else◌}
use Rattle.st_model.specs.Objects.{is_pointers}
use Rattle.st_model.specs.Table.{Table}
use Rattle.st_model.specs.View.{is_live, object_of}
use Rattle.st_scope.specs.Tables.{is_text}
use Rattle.st_browse.specs.Naming.{Named}
use Rattle.st_browse.specs.Fields.{fields_in}
use Rattle.st_browse.specs.Classes.{is_class, text_in}

pub class_lives : (t : Table) (n : Named) → is_class t n ≡ true → is_live t n.value ≡ true
unfolding is_class fields_in
class_lives t n e = by (is_live t n.value) refl e
  where
    by : (l : Bool) → is_live t n.value ≡ l
        → (nat_le 9 (if is_live t n.value && is_pointers (object_of t n.value).kind then length (object_of t n.value).fields else 0) && is_text n.name (text_in t n.value 6)) ≡ true
        → is_live t n.value ≡ true
    by true l h = l
    by false l h = let z : false ≡ true = sym (rw l refl) ∙ h in cc

pub class_tested : (t : Table) (n : Named) (b : Bool) → b ≡ is_class t n → b ≡ true → is_live t n.value ≡ true
class_tested t n b e f = class_lives t n (sym e ∙ f)

pub ruleset sides = (class_tested)
