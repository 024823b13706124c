-- Under names that tell no text apart a method is made of the same parts.
use Rattle.std.proofs.Common.{◌≡◌, ℕ, ◌-◌, Bool, List, [], ◌∷◌, ◌++◌, take, length, Option, refl, ap, ap₂, ◌∙◌}
use Rattle.std.specs.Prelude.{Some, None, option_and_then, option_map, if◌then◌else◌}
use Rattle.st_model.specs.Values.{Value}
use Rattle.st_model.specs.Table.{Table}
use Rattle.st_model.specs.View.{View, object_of}
use Rattle.st_emit.specs.Names.{NamesView}
use Rattle.st_emit.specs.Literals.{LiteralView, named, owner}
use Rattle.st_code.specs.Methods.{PartsView}
use Rattle.st_scope.specs.inside.Alike.{SeesAlike}
use Rattle.st_parts.specs.declared.ending.Ending.{Ending}
use Rattle.st_parts.specs.declared.ending.Ending.TheVariants.{Plain, Owned, Extended}
use Rattle.st_parts.specs.Keys.{word_of, key_in}
use Rattle.st_parts.specs.Contents.{contents, most_deep}
use Rattle.st_parts.specs.Numbers.{small_number}
use Rattle.st_parts.specs.Parts.{Place, literal_read, literals_read, ending_of, ends_owned, ends_extended, from_end, read_before, all_read, parts_by, parts_at}
use Rattle.st_parts.proofs.KeysIn.{same_named}

module _ (a b : NamesView) (alike : SeesAlike a b) where
  same_literal : (t : Table) (v : Value) → literal_read a t v ≡ literal_read b t v
  same_literal t v = ap (λ (c : Bool). if c then Some (named (word_of v)) else contents most_deep t v) (same_named a b alike (key_in t v) (word_of v))

  same_literals : (t : Table) (vs : List Value) → literals_read a t vs ≡ literals_read b t vs
  same_literals t [] = refl
  same_literals t (v ∷ vs) = ap₂ (λ (x : Option LiteralView) (xs : Option (List LiteralView)). option_and_then (λ l. option_map (λ ls. l ∷ ls) xs) x) (same_literal t v) (same_literals t vs)

  module _ (v : View) (at : Place) where
    same_before : (n : ℕ) (last : List LiteralView) (vs : List Value) → read_before a v at n last vs ≡ read_before b v at n last vs
    same_before n last vs = ap (option_map (λ ls. ls ++ last)) (same_literals v.objects (take (length vs - n) vs))

    same_all : (e : Ending) (vs : List Value) → all_read a v at e vs ≡ all_read b v at e vs
    same_all Plain vs = same_literals v.objects vs
    same_all Owned vs = ap (λ (x : Option (List LiteralView)). if ends_owned v at vs then x else None) (same_before 1 (owner ∷ []) vs)
    same_all Extended vs =
        ap (λ (x : Option (List LiteralView)). if ends_extended v at vs then x else None)
        (same_before 2 (small_number (from_end 2 vs) ∷ owner ∷ []) vs)

    same_by : (vs : List Value) (bytes : List ℕ) → parts_by a v at vs bytes ≡ parts_by b v at vs bytes
    same_by [] bytes = refl
    same_by (header ∷ literals) bytes =
        ap (option_map (λ (ls : List LiteralView). record { selector = at.selector; header = word_of header; literals = ls; bytes = bytes })) (same_all (ending_of (word_of header) bytes) literals)

    pub parts_alike : parts_at a v at ≡ parts_at b v at
    unfolding parts_at
    parts_alike = same_by (object_of v.objects at.method).fields (object_of v.objects at.method).units
