-- The object that a value names, by its kind and after a change.
use Rattle.std.specs.Prelude.{◌≡◌, Bool, true, false, Option, IfSome, IfNone}
use Rattle.st_model.specs.declared.kind.Kind.{Kind}
use Rattle.st_model.specs.declared.oop.Oop.{Oop}
use Rattle.st_model.specs.Values.{Value, value}
use Rattle.st_model.specs.Objects.{Object}
use Rattle.st_model.specs.Deeds.{changed_by}
use Rattle.st_model.specs.Table.{Table}
use Rattle.st_model.specs.View.{View, is_live, object_of}

-- it is answered where one is there and its kind answers this test
pub record NamesKind (test : Kind → Bool) (t : Table) (v : Value) (r : Option Oop) : Type 0 where
  pub same : IfSome r (λ o. value o ≡ v)
  pub live : IfSome r (λ o. is_live t (value o) ≡ true)
  pub kind : IfSome r (λ o. test (object_of t (value o)).kind ≡ true)
  pub none : IfNone r (is_live t v ≡ true → test (object_of t v).kind ≡ false)

-- it became this of what it was, where there is one, and nothing else is changed
pub record ChangesOne (old new : View) (f : Object → Object) (v : Value) : Type 0 where
  pub objects : new.objects ≡ changed_by f old.objects v
  pub held : new.held ≡ old.held
  pub head : new.head ≡ old.head
