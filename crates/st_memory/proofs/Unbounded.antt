-- A search over what reads, changes and names objects as the table does is the search over a table, where half of the
-- selector's word is the same.
use Rattle.std.proofs.Common.{◌≡◌, ◌<◌, take, arith, ℕ, ◌+◌, ◌-◌, zero, suc, Option, Some, None, Bool, true, false, refl, Ok, ap, sym, ◌∙◌}
use mathlib.Core.Path.{fun_ext}
use Rattle.std.proofs.lemmas.Bool.Decides.{nat_tests}
use Rattle.std.specs.Prelude.{⊤, IfSome, ◌/◌, ◌%◌, ◌==◌, bit_and, nat_lt, if◌then◌else◌}
use Rattle.st_model.specs.declared.dead.Dead.TheVariants as dead
use Rattle.st_model.specs.declared.page.PageObject.TheVariants.{NilObject}
use Rattle.st_model.specs.Values.{Value, Small, Ref, word, value_of}
use Rattle.st_model.specs.Objects.{Object}
use Rattle.st_model.specs.Machine.{ObjectMemory, Step, Went, answer, die, ◌>>=◌, ◌>>◌}
use Rattle.st_model.specs.Steps.{check, same_value}
use Rattle.st_model.specs.Lookup.{pointer_if, half_word, checked_method, method_at, place_says, look_at_place, look_at_places, search_from, search_dictionary, or_above, method_in_class, look_in_class, end_at_nil, find_within, find}
use Rattle.st_model.specs.Table.{Table, table, bounded_table, apart, entry, pointer_apart, free_place, without_first, IsTabular}
use Rattle.st_model.proofs.Tabular.{of_page-as, fetch_field-as, count_fields-as, method_header-as}
use Rattle.st_model.specs.inside.Calls.{Reads, itself}
use Rattle.st_memory.specs.inside.Searched.{Finds}
use Rattle.st_model.specs.declared.word.Word.{Word}
use Rattle.st_memory.specs.inside.Tabular.{bounded_tabular, apart_tabular}

module _ {m : ObjectMemory Table} (h : IsTabular m) where
  checked_method-same : (v : Value) → checked_method m v ≡ checked_method table v
  unfolding checked_method
  checked_method-same v = rw (method_header-as h v) refl

  method_at-same : (d : Value) (k : ℕ) → method_at m d k ≡ method_at table d k
  unfolding method_at
  method_at-same d k = λ i. do
    methods ← fetch_field-as h d 1 i
    method ← fetch_field-as h methods k i
    checked_method-same method i

  place_says-same : (d : Value) (k : ℕ) (a b : Bool) (rest : Step Table (Option Value)) → place_says m d k a b rest ≡ place_says table d k a b rest
  unfolding place_says
  place_says-same d k true b rest = method_at-same d k
  place_says-same d k false true rest = refl
  place_says-same d k false false rest = refl

  look_at_place-same : (d x : Value) (k : ℕ) (rest : Step Table (Option Value)) → look_at_place m d x k rest ≡ look_at_place table d x k rest
  unfolding look_at_place
  look_at_place-same d x k rest = λ i. do
    s ← fetch_field-as h d (2 + k) i
    nil ← of_page-as h NilObject i
    place_says-same d k (same_value s x) (same_value s nil) rest i

  look_at_places-same : (d x : Value) (k left : ℕ) (rest : Step Table (Option Value)) → look_at_places m d x k left rest ≡ look_at_places table d x k left rest
  unfolding look_at_places
  look_at_places-same d x k zero rest = refl
  look_at_places-same d x k (suc left) rest = rw (look_at_places-same d x (suc k) left rest) (look_at_place-same d x k _)

  search_from-same : (d x : Value) (places start : ℕ) → search_from m d x places start ≡ search_from table d x places start
  unfolding search_from
  search_from-same d x places start = rw (look_at_places-same d x 0 places (answer None)) (look_at_places-same d x start (places - start) _)

  or_above-same : (class : Value) (found : Option Value) (f : Value → Step Table (Option Value)) → or_above m class found f ≡ or_above table class found f
  unfolding or_above
  or_above-same class (Some method) f = refl
  or_above-same class None f = rw (fetch_field-as h class 0) refl

  end_at_nil-same : (class : Value) (rest : Step Table (Option Value)) → end_at_nil m class rest ≡ end_at_nil table class rest
  unfolding end_at_nil
  end_at_nil-same class rest = rw (of_page-as h NilObject) refl

  module _ (x : Value) (same : half_word m x ≡ half_word table x) where
    search_dictionary-same : (d : Value) (places : ℕ) → search_dictionary m d x places ≡ search_dictionary table d x places
    unfolding search_dictionary
    search_dictionary-same d places = λ i. same i >>= (λ half. search_from-same d x places (bit_and half (places - 1)) i)

    method_in_class-same : (class : Value) → method_in_class m class x ≡ method_in_class table class x
    unfolding method_in_class
    method_in_class-same class = λ i. do
      dictionary ← fetch_field-as h class 1 i
      fields ← count_fields-as h dictionary i
      check dead.Places (nat_lt 2 fields)
      search_dictionary-same dictionary (fields - 2) i

    look_in_class-same : (class : Value) (f : Value → Step Table (Option Value)) → look_in_class m class x f ≡ look_in_class table class x f
    unfolding look_in_class
    look_in_class-same class f = λ i. method_in_class-same class i >>= (λ method. or_above-same class method f i)

    find_within-same : (left : ℕ) (class : Value) → find_within m x left class ≡ find_within table x left class
    unfolding find_within
    find_within-same zero class = end_at_nil-same class (die dead.Chain)
    find_within-same (suc left) class = rw (fun_ext (find_within-same left), look_in_class-same class (find_within table x left)) (end_at_nil-same class _)

    find-same : (class : Value) → find m class x ≡ find table class x
    unfolding find
    find-same class = find_within-same 32767 class

pub half_bounded : (v : Value) → half_word bounded_table v ≡ half_word table v
unfolding half_word
half_bounded (Small n) = refl
half_bounded (Ref n) = refl

-- a value that is no object behind the 32768 places
abbrev pub IsBefore : Value → Type 0
IsBefore (Small n) = ⊤
IsBefore (Ref n) = n < 32768

low_half : (t : Table) (n : ℕ) → n < 32768 → pointer_apart t n ≡ n
low_half t n l =
    let low : nat_lt n 32768 ≡ true = grind (arith, nat_tests, l) in
    ap (λ b. if b then n else free_place (without_first (take 32768 t)) 1 (n - 32768)) low

half_apart : (v : Value) → IsBefore v → half_word apart v ≡ half_word table v
unfolding half_word
half_apart (Small n) b = refl
half_apart (Ref n) b = ap (λ (f : Table → ℕ). record { run = λ s. Went (f s.memory) s }) (fun_ext (λ t. by_entry t (entry t n)))
  where
    by_entry : (s : Table) (o : Option Object) → pointer_if apart s n o ≡ pointer_if table s n o
    by_entry s None = refl
    by_entry s (Some o) = low_half s n b

-- a search over a bounded table is the search over a table
pub search_bounded : (class x : Value) → find bounded_table class x ≡ find table class x
search_bounded class x = find-same bounded_tabular x (half_bounded x) class

-- what is found over one is found over the other
pub finds_bounded : (t : Table) (class x m : Value) → Finds t class x m → Reads (find bounded_table class x) itself t (Ok (Some m))
finds_bounded t class x m h s e = ap (λ (q : Step Table (Option Value)). q.run s) (search_bounded class x) ∙ h s e

pub bounded_finds : (t : Table) (class x m : Value) → Reads (find bounded_table class x) itself t (Ok (Some m)) → Finds t class x m
bounded_finds t class x m h s e = ap (λ (q : Step Table (Option Value)). q.run s) (sym (search_bounded class x)) ∙ h s e

pub finds_apart : (t : Table) (class x m : Value) → IsBefore x → Finds t class x m → Reads (find apart class x) itself t (Ok (Some m))
finds_apart t class x m b h s e = ap (λ (q : Step Table (Option Value)). q.run s) (find-same apart_tabular x (half_apart x b) class) ∙ h s e

before_if : (b : Bool) (n : ℕ) → n < 32768 → IsBefore (if b then Small n else Ref n)
before_if true n l = tt
before_if false n l = l

before_half : (w : ℕ) → w < 65536 → IsBefore (value_of w)
unfolding value_of
before_half w l = let half : w / 2 < 32768 = omega (arith, l) in before_if (w % 2 == 1) (w / 2) half

-- what a word below 65536 is remembered with over a bounded table is found over the table with new objects apart
pub found_apart : (t : Table) (class : Value) (x : Word) (o : Option Word) → x.0 < 65536
    → IfSome o (λ m. Reads (find bounded_table class (word x)) itself t (Ok (Some (word m))))
    → IfSome o (λ m. Reads (find apart class (word x)) itself t (Ok (Some (word m))))
found_apart t class x None l h = tt
found_apart t class x (Some m) l h =
    finds_apart t class (word x) (word m) (before_half x.0 l) (bounded_finds t class (word x) (word m) h)

pub ruleset bounded = (finds_bounded, bounded_finds)
