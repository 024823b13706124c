-- What is planned for literals is sound.
use Rattle.std.proofs.Common.{ap, ◌≡◌, ℕ, ◌+◌, ◌≤◌, zero, suc, List, [], ◌∷◌, ◌++◌, length, Bool, true, false, refl, sym, subst, arith, length-append}
use Rattle.std.specs.Prelude.{◌/◌, nat_lt}
use Rattle.std.proofs.lemmas.Bool.Decides.{nat_tests}
use Rattle.st_model.specs.declared.dead.Dead.TheVariants as dead
use Rattle.st_model.specs.declared.kind.Kind.TheVariants as kind
use Rattle.st_model.specs.declared.page.PageObject.TheVariants.{NilObject, StringClass, ArrayClass, LargeClass, Characters}
use Rattle.st_model.specs.Values.{Value, Small}
use Rattle.st_model.specs.Machine.{State, Step, is_there}
use Rattle.st_model.specs.Table.{Table, table, bounded_table}
use Rattle.st_scan.specs.declared.token.Signed.{Signed}
use Rattle.st_emit.specs.Literals.{LiteralView, LiteralsView}
use Rattle.st_emit.specs.Literals as literals
use Rattle.st_install.specs.Plans.{PlannedValue, There, Made, pointers_object, bytes_object}
use Rattle.st_install.specs.Symbols.{NamedSymbol, symbol_part}
use Rattle.st_install.specs.Literals.{Placed, PlacedAll, as_it_is, made_as, negated, large_bytes, place_size, place_signed, place_number, place_character, place_string, place_symbol, place_pointer, place_array, place_owner, then_placed, none_placed, place_literal, place_members, place_literals}
use Rattle.st_install.proofs.GoesMaking.{IsClassFor, CanMake}
use Rattle.st_install.proofs.GoesStoring.{HasFields, there_at}
use Rattle.st_install.proofs.GoesInstalling.{IsSoundPart, AreSoundParts, AreSoundObjects}
use Rattle.st_install.proofs.GoesReading.{Gives, gives_both, gives_answer, gives_then, gives_or_die, gives_page, gives_field, IsSoundTable, field_there, page_class, gives_class_of, gives_bearing}
use Rattle.st_install.proofs.GoesPlans.{part_more, parts_more, objects_more, objects_append, can_make_append}
use Rattle.st_install.proofs.GoesSymbols.{AreNamed, named_part}

module _ (t : Table) where
  -- what is made is numbered from next on, and refers to nothing behind it
  pub record IsSoundPlaced (next : ℕ) (p : Placed) : Type 0 where
    pub made : CanMake t p.objects
    pub objects : AreSoundObjects t (next + length p.objects) p.objects
    pub part : IsSoundPart t (next + length p.objects) p.part

  pub record AreSoundPlaced (next : ℕ) (p : PlacedAll) : Type 0 where
    pub made : CanMake t p.objects
    pub objects : AreSoundObjects t (next + length p.objects) p.objects
    pub parts : AreSoundParts t (next + length p.objects) p.parts

  pub as_it_is_sound : (next : ℕ) (p : PlannedValue) → IsSoundPart t next p → IsSoundPlaced next (as_it_is p)
  as_it_is_sound next p h = record { made = tt; objects = tt; part = part_more t next (next + 0) p (omega arith) h }

  bytes_sound : (next : ℕ) (class : Value) (text : List ℕ) → IsClassFor t kind.Bytes class → IsSoundPlaced next (made_as next (bytes_object class text))
  bytes_sound next class text h = record { made = (h, refl, tt); objects = (tt, tt); part = omega arith }

  none_sound : (next : ℕ) → AreSoundPlaced next none_placed
  none_sound next = record { made = tt; objects = tt; parts = tt }

  then_sound : (next : ℕ) (p : Placed) (ps : PlacedAll) → IsSoundPlaced next p → AreSoundPlaced (next + length p.objects) ps → AreSoundPlaced next (then_placed p ps)
  then_sound next p ps h k =
      let n = length-append p.objects ps.objects in
      let more : next + length p.objects ≤ next + length (p.objects ++ ps.objects) = omega (arith, n) in
      let same : next + length p.objects + length ps.objects ≤ next + length (p.objects ++ ps.objects) = omega (arith, n) in
      record {
        made = can_make_append t p.objects ps.objects h.made k.made;
        objects = objects_append t _ p.objects ps.objects (objects_more t _ _ p.objects more h.objects) (objects_more t _ _ ps.objects same k.objects);
        parts = (part_more t _ _ p.part more h.part, parts_more t _ _ ps.parts same k.parts);
      }

  array_sound : (next : ℕ) (class : Value) (ps : PlacedAll) → IsClassFor t kind.Pointers class → AreSoundPlaced (next + 1) ps
      → IsSoundPlaced next (record { part = Made next; objects = pointers_object class ps.parts ∷ ps.objects })
  array_sound next class ps h k =
      let same : next + 1 + length ps.objects ≤ next + suc (length ps.objects) = omega arith in
      record {
        made = (h, refl, k.made);
        objects = (parts_more t _ _ ps.parts same k.parts, objects_more t _ _ ps.objects same k.objects);
        part = omega arith;
      }

module _ (s : State Table) (sound : IsSoundTable s.memory) where
  abbrev pub GivesPlaced : ℕ → Step Table Placed → Type 0
  GivesPlaced next m = Gives s m (λ p. IsSoundPlaced s.memory next p)

  abbrev pub GivesAllPlaced : ℕ → Step Table PlacedAll → Type 0
  GivesAllPlaced next m = Gives s m (λ p. AreSoundPlaced s.memory next p)

  negated_there : (n : ℕ) → is_there bounded_table s.memory (negated n) ≡ true
  negated_there zero = refl
  negated_there (suc k) = grind (arith, nat_tests)

  size_gives : (next n : ℕ) (b : Bool) → nat_lt n 16384 ≡ b → GivesPlaced next (place_size table next n b)
  unfolding place_size
  size_gives next n true e = gives_answer s _ _ (as_it_is_sound s.memory next (There (Small n)) (grind (arith, nat_tests)))
  size_gives next n false e =
      gives_then s _ _ _ _ (gives_page s LargeClass)
      (λ class f. gives_answer s _ _ (bytes_sound s.memory next class (large_bytes n) (page_class s sound LargeClass kind.Bytes refl class f)))

  signed_gives : (next n : ℕ) (b : Bool) → GivesPlaced next (place_signed table next n b)
  unfolding place_signed
  signed_gives next n true = gives_answer s _ _ (as_it_is_sound s.memory next (There (negated n)) (negated_there n))
  signed_gives next n false = size_gives next n (nat_lt n 16384) refl

  number_gives : (next : ℕ) (n : Signed) → GivesPlaced next (place_number table next n)
  unfolding place_number
  number_gives next n = signed_gives next n.size n.minus

  character_gives : (next byte : ℕ) → GivesPlaced next (place_character table byte)
  unfolding place_character
  character_gives next byte =
      gives_then s _ _ _ _ (gives_page s Characters)
      (λ characters e. gives_then s _ _ _ _ (gives_field s characters byte)
      (λ v f. gives_answer s _ _ (as_it_is_sound s.memory next (There v) (field_there s sound characters byte v f))))

  string_gives : (next : ℕ) (text : List ℕ) → GivesPlaced next (place_string table next text)
  unfolding place_string
  string_gives next text =
      gives_then s _ _ _ _ (gives_page s StringClass)
      (λ class f. gives_answer s _ _ (bytes_sound s.memory next class text (page_class s sound StringClass kind.Bytes refl class f)))

  pointer_gives : (next pointer : ℕ) → GivesPlaced next (place_pointer table pointer)
  unfolding place_pointer
  pointer_gives next pointer =
      gives_then s _ _ _ _ (gives_bearing s sound (pointer / 2))
      (λ found h. gives_then s _ _ _ _ (gives_or_die s dead.Kind found)
      (λ v e. gives_answer s _ _ (as_it_is_sound s.memory next (There v) (h v e))))

  array_gives : (next : ℕ) (ps : PlacedAll) → AreSoundPlaced s.memory (next + 1) ps → GivesPlaced next (place_array table next ps)
  unfolding place_array
  array_gives next ps h =
      gives_then s _ _ _ _ (gives_page s ArrayClass)
      (λ class f. gives_answer s _ _ (array_sound s.memory next class ps (page_class s sound ArrayClass kind.Pointers refl class f) h))

  pub owner_gives : (association class : Value) (meta : Bool) (next : ℕ) → HasFields s.memory association 2 → is_there bounded_table s.memory class ≡ true
      → GivesPlaced next (place_owner table association class meta next)
  unfolding place_owner
  owner_gives association class false next a c = gives_answer s _ _ (as_it_is_sound s.memory next (There association) (there_at s.memory association a.object a.is))
  owner_gives association class true next a c =
      gives_then s _ _ _ _ (gives_class_of s sound association a.object a.is a.pointers)
      (λ k h. gives_then s _ _ _ _ (gives_page s NilObject)
      (λ nil e. gives_answer s _ _ (record {
        made = (h, refl, tt);
        objects = ((subst (λ v. is_there bounded_table s.memory v ≡ true) (sym e) (sound.page NilObject), (c, tt)), tt);
        part = omega arith;
      })))

  module _ (symbols : List NamedSymbol) (owner : ℕ → Step Table Placed) (base : ℕ) (named : AreNamed s.memory base symbols) (owns : (next : ℕ) → GivesPlaced next (owner next)) where
    symbol_gives : (next : ℕ) (text : List ℕ) → base ≤ next → GivesPlaced next (place_symbol symbols text)
    unfolding place_symbol
    symbol_gives next text l =
        gives_then s _ _ _ _ (gives_or_die s dead.Field (symbol_part symbols text))
        (λ p e. gives_answer s _ _ (as_it_is_sound s.memory next p (part_more s.memory base next p l (named_part s.memory base symbols text p named e))))

    mutual
      unfolding place_literal place_members

      literal_gives : (next : ℕ) (l : LiteralView) → base ≤ next → GivesPlaced next (place_literal table symbols owner next l)
      literal_gives next (literals.number n) b = number_gives next n
      literal_gives next (literals.character c) b = character_gives next c
      literal_gives next (literals.bytes text) b = string_gives next text
      literal_gives next (literals.symbol text) b = symbol_gives next text b
      literal_gives next (literals.array ls) b =
          gives_then s _ _ _ _ (members_give (next + 1) ls (omega (arith, b))) (λ elements h. array_gives next elements h)
      literal_gives next (literals.named pointer) b = pointer_gives next pointer
      literal_gives next literals.owner b = owns next

      members_give : (next : ℕ) (ls : LiteralsView) → base ≤ next → GivesAllPlaced next (place_members table symbols owner next ls)
      members_give next literals.no_literals b = gives_answer s _ _ (none_sound s.memory next)
      members_give next (literals.literal l ls) b =
          gives_then s _ _ _ _ (literal_gives next l b)
          (λ p h. gives_then s _ _ _ _ (members_give (next + length p.objects) ls (omega (arith, b)))
          (λ ps k. gives_answer s _ _ (then_sound s.memory next p ps h k)))

    literals_give : (next : ℕ) (ls : List LiteralView) → base ≤ next → GivesAllPlaced next (place_literals table symbols owner next ls)
    unfolding place_literals
    literals_give next [] b = gives_answer s _ _ (none_sound s.memory next)
    literals_give next (l ∷ ls) b =
        gives_then s _ _ _ _ (literal_gives next l b)
        (λ p h. gives_then s _ _ _ _ (literals_give (next + length p.objects) ls (omega (arith, b)))
        (λ ps k. gives_answer s _ _ (then_sound s.memory next p ps h k)))

    -- each in its place
    count_gives : (next : ℕ) (ls : List LiteralView) → base ≤ next → Gives s (place_literals table symbols owner next ls) (λ ps. length ps.parts ≡ length ls)
    unfolding place_literals
    count_gives next [] b = gives_answer s _ _ refl
    count_gives next (l ∷ ls) b =
        gives_then s _ _ _ _ (literal_gives next l b)
        (λ p h. gives_then s _ _ _ _ (count_gives (next + length p.objects) ls (omega (arith, b)))
        (λ ps e. gives_answer s _ _ (ap (λ n. suc n) e)))

    pub all_literals_give : (next : ℕ) (ls : List LiteralView) → base ≤ next
        → Gives s (place_literals table symbols owner next ls) (λ ps. AreSoundPlaced s.memory next ps × (length ps.parts ≡ length ls))
    all_literals_give next ls b = gives_both s _ _ _ (literals_give next ls b) (count_gives next ls b)
