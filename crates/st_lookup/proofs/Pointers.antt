-- What a search over words comes to is what the search over pointers comes to.
use Rattle.std.proofs.Common.{◌≡◌, Option, Some, None, Result, Ok, Err, true, false, refl, sym, ◌∙◌, ap, subst}
use Rattle.std.specs.Prelude.{IfSome, IfNone}
use Rattle.st_model.specs.declared.dead.Dead.{Dead}
use Rattle.st_model.specs.declared.oop.Oop.{Oop}
use Rattle.st_model.specs.declared.word.Word.{Word}
use Rattle.st_model.specs.Values.{value, word}
use Rattle.st_model.specs.Machine.{Went, is_there}
use Rattle.st_model.specs.Lookup.{find}
use Rattle.st_model.specs.Table.{Table, table, bounded_table}
use Rattle.st_model.specs.inside.Calls.{Reads}
use Rattle.st_model.specs.View.{is_live}
use Rattle.st_lookup.specs.inside.Places.{found_word, found}
use Rattle.st_memory.proofs.Unbounded.{search_bounded}
use Rattle.st_lookup.proofs.Live.{found_live}
use Rattle.st_memory.proofs.Wide.{there_live}
use Rattle.st_memory.proofs.Looking.{some_state}

module _ (t : Table) (class selector : Oop) (c s : Word) (e : word c ≡ value class) (f : word s ≡ value selector) where
  over_table : (r : Result (Option Word) Dead) → Reads (find bounded_table (word c) (word s)) found_word t r → Reads (find table (value class) (value selector)) found_word t r
  over_table r h = rw (e, f, search_bounded (value class) (value selector)) at h

  pub dies : (cause : Dead) → Reads (find bounded_table (word c) (word s)) found_word t (Err cause) → Reads (find table (value class) (value selector)) found t (Err cause)
  dies cause h = over_table (Err cause) h

  pub finds_none : Reads (find bounded_table (word c) (word s)) found_word t (Ok None) → Reads (find table (value class) (value selector)) found t (Ok None)
  finds_none h = over_table (Ok None) h

  module _ (method : Word) (h : Reads (find bounded_table (word c) (word s)) found_word t (Ok (Some method))) where
    live : is_live t (word method) ≡ true
    live = found_live (value class) (value selector) (word method) (some_state t) (some_state t) (over_table (Ok (Some method)) h (some_state t) refl)

    -- the pointer of what was found, where that is there
    pub finds : (o : Option Oop) → IfSome o (λ p. value p ≡ word method) → IfNone o (is_there table t (word method) ≡ false) → Reads (find table (value class) (value selector)) found t (Ok o)
    finds (Some p) same gone = λ a b. over_table (Ok (Some method)) h a b ∙ ap (λ v. Went (Some v) a) (sym same)
    finds None same gone = let there : is_there table t (word method) ≡ true = there_live t (word method) live in cc

    pub finds_live : (o : Option Oop) → IfSome o (λ p. value p ≡ word method) → IfSome o (λ p. is_live t (value p) ≡ true)
    finds_live (Some p) same = subst (λ v. is_live t v ≡ true) (sym same) live
    finds_live None same = tt
