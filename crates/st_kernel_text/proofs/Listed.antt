-- What is found in lists of names.
use Rattle.std.proofs.Common.{◌≡◌, ℕ, suc, length, Bool, true, false, cond, List, [], ◌∷◌, ◌++◌, Some, is_some, Vec, Global, refl, sym, ap, ◌∙◌}
use Rattle.std.specs.Prelude.{◌&&◌, ◌||◌, not, nat_eq, Ok, Err, bytes_eq}
use Rattle.std.specs.List.{list_any}
use Rattle.std.specs.Map.{lookup}
use Rattle.st_chunk.proofs.Cases.{by_test}
use Rattle.indexmap.specs.IndexMap.{insert_entry}
use Rattle.indexmap.specs.IndexSet.{insert_key}
use Rattle.st_kernel_text.specs.declared.cause.Cause.TheVariants.{Name}
use Rattle.st_kernel_text.specs.declared.named.Named.{Named}
use Rattle.st_kernel_text.specs.inside.Lists.{names_of, variables_of, texts_of}
use Rattle.st_kernel_text.specs.Known.{Names, with_named, is_variable, with_variable}

pub lookup_names : (name : List ℕ) (es : List (Vec ℕ Global × Named)) → lookup (λ k. bytes_eq name k.items) es ≡ lookup (λ other. bytes_eq name other) (names_of es)
lookup_names name [] = refl
lookup_names name (e ∷ es) = ap (cond (bytes_eq name e.0.items) (Some e.1)) (lookup_names name es)

abbrev same_text : Vec ℕ Global → Vec ℕ Global → Bool
same_text x y = bytes_eq x.items y.items

pub name_set : (key : Vec ℕ Global) (n : Named) (es : List (Vec ℕ Global × Named)) → names_of (insert_entry same_text es key n) ≡ with_named (names_of es) key.items n
name_set key n [] = refl
name_set key n (x ∷ es) = by_test (bytes_eq key.items x.0.items)
    (λ is. rw is refl)
    (λ is. rw is (ap (λ (names : Names). (x.0.items, x.1) ∷ names) (name_set key n es)))

-- VARIABLES

abbrev same_pair : ℕ × Vec ℕ Global → ℕ × Vec ℕ Global → Bool
same_pair x y = nat_eq x.0 y.0 && bytes_eq x.1.items y.1.items

variable_there : (number : ℕ) (key : Vec ℕ Global) (keys : List (ℕ × Vec ℕ Global)) → list_any (same_pair (number, key)) keys ≡ is_variable number key.items (variables_of keys)
variable_there number key [] = refl
variable_there number key (k ∷ keys) = ap (λ t. same_pair (number, key) k || t) (variable_there number key keys)

variable_last : (keys : List (ℕ × Vec ℕ Global)) (k : ℕ × Vec ℕ Global) → variables_of (keys ++ k ∷ []) ≡ variables_of keys ++ (k.0, k.1.items) ∷ []
variable_last [] k = refl
variable_last (x ∷ keys) k = ap (λ (xs : List (ℕ × List ℕ)). (x.0, x.1.items) ∷ xs) (variable_last keys k)

module _ (keys : List (ℕ × Vec ℕ Global)) (number : ℕ) (key : Vec ℕ Global) (name : List ℕ) (added : Bool) (is : key.items ≡ name)
    (says : added ≡ not (list_any (same_pair (number, key)) keys)) where
  there : list_any (same_pair (number, key)) keys ≡ is_variable number name (variables_of keys)
  there = variable_there number key keys ∙ ap (λ (x : List ℕ). is_variable number x (variables_of keys)) is

  pub variable_refused : added ≡ false → with_variable number name (variables_of keys) ≡ Err Name
  variable_refused failed = by_test (list_any (same_pair (number, key)) keys)
      (λ e. let t = sym there ∙ e in rw t refl)
      (λ e. let t = sym failed ∙ says ∙ ap not e in absurd cc)

  pub variable_put : (new : List (ℕ × Vec ℕ Global)) → added ≡ true → new ≡ insert_key same_pair keys (number, key) → with_variable number name (variables_of keys) ≡ Ok (variables_of new)
  variable_put new passed put = by_test (list_any (same_pair (number, key)) keys)
      (λ e. let t = sym passed ∙ says ∙ ap not e in absurd cc)
      (λ e. let t = sym there ∙ e in
      let last : insert_key same_pair keys (number, key) ≡ keys ++ (number, key) ∷ [] = rw e refl in
      let all : variables_of new ≡ variables_of keys ++ (number, name) ∷ [] =
      ap variables_of (put ∙ last) ∙ variable_last keys (number, key) ∙ ap (λ (x : List ℕ). variables_of keys ++ (number, x) ∷ []) is in
      rw (t, all) refl)

-- TEXTS

pub texts_long : (ts : List (Vec ℕ Global)) → length (texts_of ts) ≡ length ts
texts_long [] = refl
texts_long (t ∷ ts) = ap suc (texts_long ts)
