-- How often what is kept is referred to (counting in chapter 30).
use Rattle.std.specs.Prelude.{◌≡◌, ℕ, zero, suc, ◌+◌, ◌==◌, false, List, [], ◌∷◌, ◌++◌, Option, Some, None, is_some, if◌then◌else◌}
use Rattle.st_model.specs.Values.{Value, Small, Ref}
use Rattle.st_model.specs.declared.page.PageObject.{PageObject}
use Rattle.st_model.specs.Objects.{Object, page, place_of}
use Rattle.st_model.specs.Table.{Table, entry}
use Rattle.st_model.specs.Settled.{names}
use Rattle.st_model.specs.View.{View, view_roots}
use Rattle.st_model.specs.declared.kind.Kind.{Kind}
use Rattle.st_model.specs.declared.kind.Kind.TheVariants as kind
use Rattle.st_counted.specs.inside.Counts.{count_at, is_counted, number_at, raised, lowered}

-- how many of the values name n
abbrev pub times : ℕ → List Value → ℕ
times n [] = 0
times n (v ∷ vs) = (if names v n then 1 else 0) + times n vs

-- how often an object refers to n, by its class and its fields or literals
abbrev pub object_uses : ℕ → Option Object → ℕ
object_uses n None = 0
object_uses n (Some o) = (if n == o.class then 1 else 0) + times n o.fields

-- how often the objects do
abbrev pub uses : ℕ → Table → ℕ
uses n [] = 0
uses n (e ∷ t) = object_uses n e + uses n t

-- how often the objects below a place do
abbrev pub uses_below : ℕ → Table → ℕ → ℕ
uses_below n t zero = 0
uses_below n t (suc k) = object_uses n (entry t k) + uses_below n t k

abbrev pub page_values : List PageObject → List Value
page_values [] = []
page_values (q ∷ qs) = Ref (place_of q) ∷ page_values qs

-- the roots with those of the page
abbrev pub all_roots : View → List Value
all_roots v = page_values page ++ view_roots v

-- each object is counted, with this number, and nothing else is
abbrev pub IsTallied : Table → (ℕ → ℕ) → List (Option ℕ) → Type 0
IsTallied t f numbers = (k : ℕ) → count_at numbers k ≡ (if is_some (entry t k) then Some (f k) else None)

-- the number of roots, of class words and fields of the objects, and of references in hand that name k
abbrev pub references : Table → List Value → List Value → ℕ → ℕ
references t roots hand k = times k roots + (uses k t + times k hand)

-- The count of each object is the number of references to it, and there is none to anything else. In hand are those
-- references that are counted for what is about to be stored, or was taken out.
pub record IsCounted (t : Table) (roots hand : List Value) (numbers : List (Option ℕ)) : Type 0 where
  pub tallied : IsTallied t (references t roots hand) numbers
  pub closed : (k : ℕ) → is_some (entry t k) ≡ false → references t roots hand k ≡ 0

-- so many references more to what a value names
abbrev pub raised_by : List (Option ℕ) → Value → ℕ → List (Option ℕ)
raised_by numbers (Small n) by = numbers
raised_by numbers (Ref k) by = raised numbers k by

-- one reference less to what a value names
abbrev pub lowered_by : List (Option ℕ) → Value → List (Option ℕ)
lowered_by numbers (Small n) = numbers
lowered_by numbers (Ref k) = lowered numbers k 1

-- each object is counted, and nothing else is
abbrev pub IsEntered : Table → List (Option ℕ) → Type 0
IsEntered t numbers = (k : ℕ) → is_counted numbers k ≡ is_some (entry t k)

-- the references of these values were counted
abbrev pub AddsReferences : Table → List (Option ℕ) → List (Option ℕ) → List Value → Type 0
AddsReferences t old new vs = IsTallied t (λ k. times k vs + number_at old k) new

-- how many fields of a new object are nil
abbrev pub nils_of : Kind → ℕ → ℕ → ℕ
nils_of kind.Pointers size literals = size
nils_of kind.Words size literals = 0
nils_of kind.Bytes size literals = 0
nils_of kind.Method size literals = literals
