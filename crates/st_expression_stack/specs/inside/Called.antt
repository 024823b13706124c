-- What contracts see of what variables are called.
use Rattle.std.specs.Prelude.{◌≡◌, ℕ, ◌||◌, Bool, List, Option, Some, None, slice_get, length, bytes_eq}
use Rattle.std.specs.Borrow.{Bor}
use Rattle.std.specs.Global.{Vec}
use Rattle.std.specs.List.{list_any}
use Rattle.st_emit.specs.inside.NameViews.{texts_view}
use Rattle.st_expression_stack.specs.declared.own.Taken.{Taken}
use Rattle.st_expression_stack.specs.declared.naming.Calling.{Calling}
use Rattle.st_expression_stack.specs.Names.{CallingView, is_among, own_name}

-- a text is kept in a set
abbrev pub is_kept : List (Vec ℕ) → List ℕ → Bool
is_kept keys text = list_any (λ k. bytes_eq text k.items) keys

-- these texts are kept too
abbrev pub Keeps : List (List ℕ) → (old new : List (Vec ℕ)) → Type 0
Keeps texts old new = (t : List ℕ) → is_kept new t ≡ (is_among texts t || is_kept old t)

-- a text, if there is one, or else this one
abbrev pub or_text : Option (List ℕ) → List ℕ → List ℕ
or_text None text = text
or_text (Some t) text = t

-- the text of a list at a place, or past its end this one
abbrev pub listed_or : List (List ℕ) → ℕ → List ℕ → List ℕ
listed_or ts k text = or_text (slice_get ts k) text

abbrev pub own_by : Taken → ℕ → List ℕ
own_by t k = own_name (is_kept t.names.keys) t.count k

-- these texts are the names
pub record IsTaken (texts : List (List ℕ)) (t : Taken) : Type 0 where
  pub names : (text : List ℕ) → is_kept t.names.keys text ≡ is_among texts text
  pub count : t.count ≡ length texts

-- what the first of a method's own variables are called
abbrev pub AreFirst : Taken → List (Vec ℕ) → Type 0
AreFirst t texts = (k : ℕ) → listed_or (texts_view texts) k (own_by t k) ≡ own_by t k

abbrev pub calling_view : Calling → CallingView
calling_view c = record {
  fields = texts_view c.fields.items;
  shared = texts_view c.shared.items;
  own = λ k. listed_or (texts_view c.own.items) k (own_by c.taken k);
}

abbrev pub items_now : Bor (Vec ℕ) → List ℕ
items_now t = t.now.items
