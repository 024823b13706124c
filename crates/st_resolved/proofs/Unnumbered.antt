-- A fault of names doesn't look at the numbers of what is declared.
use Rattle.std.proofs.Common.{◌≡◌, ℕ, ◌+◌, Bool, true, false, cond, List, [], ◌∷◌, ◌++◌, Option, Some, None, refl, sym, ap, ap₂, ◌∙◌}
use Rattle.std.specs.Prelude.{if◌then◌else◌, is_some, bytes_eq, option_map}
use Rattle.st_scan.specs.Views.{NameView}
use Rattle.st_emit.specs.Names.{NamesView, Scope, Declared, Variable, temporary, field, shared, constant_named, declared_as, field_named, shared_named, variable_named, own_variable, or_else, numbered}
use Rattle.st_code.specs.declared.fault.Fault.{Fault}
use Rattle.st_code.specs.declared.fault.Cause.TheVariants.{Unknown, Store}
use Rattle.st_code.specs.Faults.{fault_at, read_fault, store_fault, stored_fault}
use Rattle.st_resolved.specs.inside.Seen.{unnumbered}

-- SCOPES

pub unnumbered-append : (a b : Scope) → unnumbered (a ++ b) ≡ unnumbered a ++ unnumbered b
unnumbered-append [] b = refl
unnumbered-append (x ∷ a) b = ap (λ (s : Scope). record x { number = 0 } ∷ s) (unnumbered-append a b)

unnumbered-numbered : (ns : List NameView) (i j : ℕ) → unnumbered (numbered false i ns) ≡ unnumbered (numbered false j ns)
unnumbered-numbered [] i j = refl
unnumbered-numbered (x ∷ ns) i j = ap (λ (s : Scope). record { text = x.text; number = 0; assignable = false } ∷ s) (unnumbered-numbered ns (i + 1) (j + 1))

pub more_names : (f s : Scope) (ns : List NameView) (i j : ℕ) → unnumbered f ≡ unnumbered s → unnumbered (f ++ numbered false i ns) ≡ unnumbered (s ++ numbered false j ns)
more_names f s ns i j h = unnumbered-append f (numbered false i ns) ∙ ap₂ (λ (a b : Scope). a ++ b) h (unnumbered-numbered ns i j) ∙ sym (unnumbered-append s (numbered false j ns))

pub unnumbered-any : (a : Bool) (ns : List NameView) (i j : ℕ) → unnumbered (numbered a i ns) ≡ unnumbered (numbered a j ns)
unnumbered-any a [] i j = refl
unnumbered-any a (x ∷ ns) i j = ap (λ (s : Scope). record { text = x.text; number = 0; assignable = a } ∷ s) (unnumbered-any a ns (i + 1) (j + 1))

-- FAULTS

pub or_none : (a b : Option Fault) → or_else a b ≡ None → (a ≡ None) × (b ≡ None)
or_none None b h = (refl, h)
or_none (Some x) b h = absurd cc

-- a fault of names doesn't look at numbers
pub unnumbered_as : (s : Scope) (text : List ℕ) → declared_as (unnumbered s) text ≡ option_map (λ (d : Declared). record d { number = 0 }) (declared_as s text)
unnumbered_as [] text = refl
unnumbered_as (x ∷ xs) text = by_test (bytes_eq x.text text) (unnumbered_as xs text)
  where
    by_test : (b : Bool) → declared_as (unnumbered xs) text ≡ option_map (λ (d : Declared). record d { number = 0 }) (declared_as xs text)
        → cond b (Some (record x { number = 0 })) (declared_as (unnumbered xs) text) ≡ option_map (λ (d : Declared). record d { number = 0 }) (cond b (Some x) (declared_as xs text))
    by_test true h = refl
    by_test false h = h

module _ (names : NamesView) where
  some_variable : (s : Scope) (text : List ℕ) → is_some (variable_named names (unnumbered s) text) ≡ is_some (variable_named names s text)
  some_variable s text = ap (λ (o : Option Declared). is_some (or_else (own_variable o) class_variable)) (unnumbered_as s text) ∙ by_own (declared_as s text)
    where
      class_variable : Option Variable
      class_variable = or_else (option_map field (field_named names text)) (option_map shared (shared_named names text))

      by_own : (o : Option Declared) → is_some (or_else (own_variable (option_map (λ (d : Declared). record d { number = 0 }) o)) class_variable) ≡ is_some (or_else (own_variable o) class_variable)
      by_own None = refl
      by_own (Some d) = refl

  pub read_unnumbered : (s : Scope) (n : NameView) → read_fault names (unnumbered s) n ≡ read_fault names s n
  read_unnumbered s n = ap (λ (b : Bool). if is_some (constant_named n.text) then None else (if b then None else fault_at n.place Unknown)) (some_variable s n.text)

  pub read_alike : (f s : Scope) (n : NameView) → unnumbered f ≡ unnumbered s → read_fault names f n ≡ None → read_fault names s n ≡ None
  read_alike f s n e h = sym (read_unnumbered s n) ∙ sym (ap (λ (x : Scope). read_fault names x n) e) ∙ read_unnumbered f n ∙ h

  pub stored_unnumbered : (s : Scope) (n : NameView) → stored_fault n.place (variable_named names (unnumbered s) n.text) ≡ stored_fault n.place (variable_named names s n.text)
  stored_unnumbered s n = ap (λ (o : Option Declared). stored_fault n.place (or_else (own_variable o) class_variable)) (unnumbered_as s n.text) ∙ by_own (declared_as s n.text)
    where
      class_variable : Option Variable
      class_variable = or_else (option_map field (field_named names n.text)) (option_map shared (shared_named names n.text))

      by_own : (o : Option Declared) → stored_fault n.place (or_else (own_variable (option_map (λ (d : Declared). record d { number = 0 }) o)) class_variable) ≡ stored_fault n.place (or_else (own_variable o) class_variable)
      by_own None = refl
      by_own (Some d) = by_flag d.assignable
        where
          by_flag : (b : Bool) → stored_fault n.place (Some (temporary 0 b)) ≡ stored_fault n.place (Some (temporary d.number b))
          by_flag true = refl
          by_flag false = refl

  pub store_alike : (f s : Scope) (n : NameView) → unnumbered f ≡ unnumbered s → store_fault names f n ≡ None → store_fault names s n ≡ None
  store_alike f s n e h =
      let whole : (x : Scope) → store_fault names (unnumbered x) n ≡ store_fault names x n = λ x. ap (λ (o : Option Fault). if is_some (constant_named n.text) then fault_at n.place Store else o) (stored_unnumbered x n) in
      sym (whole s) ∙ sym (ap (λ (x : Scope). store_fault names x n) e) ∙ whole f ∙ h
