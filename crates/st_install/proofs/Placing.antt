-- Literals that are placed behind objects, one after the other.
use Rattle.std.proofs.Common.{◌≡◌, ℕ, ◌+◌, ◌<◌, ◌≤◌, Bool, List, [], ◌∷◌, ◌++◌, length, get_or, drop, refl, sym, ap, ◌∙◌, subst}
use Rattle.std.specs.Prelude.{slice_set, Ok, Err}
use Rattle.std.specs.Global.{Vec}
use Rattle.std.proofs.lemmas.List.{append_assoc, append-nil, map-append, map-set, length-map, length-append, at_drop_more, drop_all}
use Rattle.std.proofs.Math.Seq.{set-append_seam, get_or-append_seam}
use Rattle.std.proofs.Math.ListN.{get_or-map}
use Rattle.st_model.specs.declared.dead.Dead.{Dead}
use Rattle.st_model.specs.declared.page.PageObject.TheVariants.{ArrayClass}
use Rattle.st_model.specs.Values.{Ref, value}
use Rattle.st_model.specs.Objects.{place_of}
use Rattle.st_model.specs.Machine.{State, Transition, Died, Went, Step, after, answer, ◌>>=◌}
use Rattle.st_model.specs.Table.{Table, table}
use Rattle.st_model.proofs.Runs.{run-then, after-went, after-died, run-of_page}
use Rattle.st_emit.specs.declared.literal.Literal.{Literal}
use Rattle.st_emit.specs.declared.literal.Literal.TheVariants.{Number, Character, Bytes, Symbol, Array, Named, Owner as OwnerLiteral}
use Rattle.st_emit.specs.Literals.{array}
use Rattle.st_emit.proofs.Members.{array_view}
use Rattle.st_model.specs.declared.oop.Oop.{Oop}
use Rattle.st_model.specs.inside.Calls.{Reads}
use Rattle.st_emit.specs.inside.Views.{literal_view, literals_view, members_view}
use Rattle.st_install.specs.declared.plan.PlannedValue.{PlannedValue as CodePart}
use Rattle.st_install.specs.declared.plan.NewObject.{NewObject as CodeObject}
use Rattle.st_install.specs.declared.plan.Owner.{Owner}
use Rattle.st_scope.specs.declared.unread.Unread.{Unread}
use Rattle.st_scope.specs.declared.unread.Unread.TheVariants.{Dies, OutOfMemory}
use Rattle.st_install.specs.Plans.{PlannedValue, Made, NewObject, pointers_object}
use Rattle.st_install.specs.Symbols.{NamedSymbol}
use Rattle.st_install.specs.Literals.{Placed, PlacedAll, then_placed, none_placed, place_number, place_character, place_string, place_symbol, place_pointer, place_array, place_literal, place_members, place_literals}
use Rattle.st_install.specs.inside.Readies.{part_of, parts_of, object_of, objects_of}
use Rattle.st_install.specs.inside.Told.{TellsSingle, Places, PlacesAll, single_placed, IsSingle, part_placed, owner_step, named_of, IsPlaced, ArePlaced, literal_step, literals_step, array_step}
use Rattle.st_install.specs.declared.single.Single.{Single}
use Rattle.st_install.proofs.Growth.{array_class}

-- ONE LITERAL

-- a value
pub placed_part : (m : Step Table Placed) (t : Table) (old : List CodeObject) (p : CodePart) → ((s : State Table) → s.memory ≡ t → m.run s ≡ Went (part_placed p) s) → IsPlaced m t old old p
placed_part m t old p e = record { added = []; behind = sym (append-nil (objects_of old)); tells = e }

-- a value or one object
pub placed_single : (m : ℕ → Step Table Placed) (t : Table) (old new : List CodeObject) (x : Single) (p : CodePart) → IsSingle m t x → part_of p ≡ (single_placed (length old) x).part
    → objects_of new ≡ objects_of old ++ (single_placed (length old) x).objects → IsPlaced (m (length old)) t old new p
placed_single m t old new x p e q o = record {
  added = (single_placed (length old) x).objects;
  behind = o;
  tells = λ s f. e (length old) s f ∙ ap (λ a. Went (record { part = a; objects = (single_placed (length old) x).objects }) s) (sym q);
}

-- LITERALS, ONE AFTER THE OTHER

-- what follows parts that are placed already
abbrev pub behind : List PlannedValue → List NewObject → Transition (State Table) PlacedAll → Transition (State Table) PlacedAll
behind parts added x = after x (λ ps s. Went (record { parts = parts ++ ps.parts; objects = added ++ ps.objects }) s)

behind_none : (x : Transition (State Table) PlacedAll) → x ≡ behind [] [] x
unfolding after
behind_none (Died k) = refl
behind_none (Went ps s) = refl

behind_placed : (parts : List PlannedValue) (added : List NewObject) (p : Placed) (x : Transition (State Table) PlacedAll)
    → behind parts added (after x (λ ps s. (answer (then_placed p ps)).run s)) ≡ behind (parts ++ p.part ∷ []) (added ++ p.objects) x
unfolding after answer
behind_placed parts added p (Died k) = refl
behind_placed parts added p (Went ps s) =
    rw (append_assoc parts (p.part ∷ []) ps.parts, append_assoc added p.objects ps.objects) refl

module _ (named : List (Vec ℕ × CodePart)) (o : Owner) (t : Table) (ls : List Literal) (old : List CodeObject) where
  -- all literals are the parts so far, and those from one on, behind the objects so far
  pub record LeftLiterals (now : List CodeObject) (i : ℕ) (parts : List CodePart) : Type 0 where
    pub added : List NewObject
    pub objects : objects_of now ≡ objects_of old ++ added
    pub same : (s : State Table) → s.memory ≡ t
        → (literals_step named o (length old) ls).run s ≡ behind (parts_of parts) added ((literals_step named o (length now) (drop i ls)).run s)

  pub left_begins : (parts : List CodePart) → parts ≡ [] → LeftLiterals old 0 parts
  left_begins parts q = record {
    added = [];
    objects = sym (append-nil (objects_of old));
    same = λ s f.
        behind_none ((literals_step named o (length old) ls).run s) ∙ ap (λ ps. behind (parts_of ps) [] ((literals_step named o (length old) ls).run s)) (sym q);
  }

  module _ (now : List CodeObject) (i : ℕ) (parts : List CodePart) (h : LeftLiterals now i parts) where
    none_left : (rest : List Literal) (s : State Table) → rest ≡ [] → (literals_step named o (length now) rest).run s ≡ Went none_placed s
    unfolding place_literals answer
    none_left [] s e = refl
    none_left (l ∷ rest) s e = cc

    pub left_ends : length ls ≤ i → ArePlaced (literals_step named o (length old) ls) t old now parts
    unfolding after
    left_ends l = record {
      added = h.added;
      behind = h.objects;
      tells = λ s f.
          h.same s f ∙ (ap (behind (parts_of parts) h.added) (none_left (drop i ls) s (drop_all i ls l)) ∙ rw (append-nil (parts_of parts), append-nil h.added) refl);
    }

    module _ (y : Literal) (l : i < length ls) (is : y ≡ get_or ls i y) where
      turn : (s : State Table) → s.memory ≡ t → (literals_step named o (length old) ls).run s
          ≡ behind (parts_of parts) h.added ((literal_step named o (length now) y >>= (λ p. literals_step named o (length now + length p.objects) (drop (i + 1) ls) >>= (λ ps. answer (then_placed p ps)))).run s)
      unfolding place_literals
      turn s f =
          h.same s f ∙ (at_drop_more (λ rest. behind (parts_of parts) h.added ((literals_step named o (length now) rest).run s)) ls i y l
          ∙ ap (λ z. behind (parts_of parts) h.added ((literals_step named o (length now) (z ∷ drop (i + 1) ls)).run s)) (sym is))

      pub left_dies : (k : Dead) → ((s : State Table) → s.memory ≡ t → (literal_step named o (length now) y).run s ≡ Died k)
          → (s : State Table) → s.memory ≡ t → (literals_step named o (length old) ls).run s ≡ Died k
      unfolding after
      left_dies k e s f = turn s f ∙ simp (run-then, e s f, after-died) refl

      pub left_fails : (x : Unread) (new last : List CodeObject) → Places (literal_step named o (length now) y) t now new (Err x) → PlacesAll (literals_step named o (length old) ls) t old last (Err x)
      left_fails (Dies k) new last e = left_dies k e
      left_fails OutOfMemory new last e = tt

      pub left_placed : (new : List CodeObject) (p : CodePart) → IsPlaced (literal_step named o (length now) y) t now new p → LeftLiterals new (i + 1) (parts ++ p ∷ [])
      left_placed new p e =
          let q : Placed = record { part = part_of p; objects = e.added } in
          let n : length new ≡ length now + length e.added =
          sym (length-map new object_of) ∙ ap length e.behind ∙ length-append (objects_of now) e.added ∙ ap (λ k. k + length e.added) (length-map now object_of) in
          record {
            added = h.added ++ e.added;
            objects = e.behind ∙ ap (λ xs. xs ++ e.added) h.objects ∙ append_assoc (objects_of old) h.added e.added;
            same = λ s f.
                turn s f ∙ (ap (behind (parts_of parts) h.added) (simp (run-then, e.tells s f, after-went) refl)
                ∙ (behind_placed (parts_of parts) h.added q ((literals_step named o (length now + length e.added) (drop (i + 1) ls)).run s)
                ∙ (ap (λ k. behind (parts_of parts ++ part_of p ∷ []) (h.added ++ e.added) ((literals_step named o k (drop (i + 1) ls)).run s)) (sym n)
                ∙ ap (λ ps. behind ps (h.added ++ e.added) ((literals_step named o (length new) (drop (i + 1) ls)).run s)) (sym (map-append part_of parts (p ∷ []))))));
          }

-- MEMBERS OF AN ARRAY

after_same : {A B : Type 0} (x : Transition (State Table) A) (f g : A → State Table → Transition (State Table) B) → ((a : A) (s : State Table) → f a s ≡ g a s) → after x f ≡ after x g
unfolding after
after_same (Died k) f g e = refl
after_same (Went a s) f g e = e a s

module _ (symbols : List NamedSymbol) (owner : ℕ → Step Table Placed) where
  -- they are placed as literals are
  pub members_same : (ls : List Literal) (next : ℕ) (s : State Table) → (place_members table symbols owner next (members_view ls)).run s ≡ (place_literals table symbols owner next (literals_view ls)).run s
  unfolding place_members place_literals ◌>>=◌
  members_same [] next s = refl
  members_same (l ∷ ls) next s =
      after_same ((place_literal table symbols owner next (literal_view l)).run s) _ _ (λ p u. ap (λ x. after x (λ ps v. (answer (then_placed p ps)).run v)) (members_same ls (next + length p.objects) u))

-- ARRAYS

array_run : (symbols : List NamedSymbol) (owner : ℕ → Step Table Placed) (ls : List Literal) (next : ℕ) (ps : PlacedAll) (s : State Table) → (place_literals table symbols owner (next + 1) (literals_view ls)).run s ≡ Went ps s
    → (place_literal table symbols owner next (array (members_view ls))).run s ≡ Went (record { part = Made next; objects = pointers_object (Ref (place_of ArrayClass)) ps.parts ∷ ps.objects }) s
unfolding place_literal place_array answer
array_run symbols owner ls next ps s e =
    simp (run-then, members_same symbols owner ls (next + 1) s ∙ e, after-went, run-of_page) refl

pub array_dies : (symbols : List NamedSymbol) (owner : ℕ → Step Table Placed) (ls : List Literal) (next : ℕ) (k : Dead) (s : State Table) → (place_literals table symbols owner (next + 1) (literals_view ls)).run s ≡ Died k
    → (place_literal table symbols owner next (array (members_view ls))).run s ≡ Died k
unfolding place_literal
array_dies symbols owner ls next k s e = simp (run-then, members_same symbols owner ls (next + 1) s ∙ e, after-died) refl

module _ (named : List (Vec ℕ × CodePart)) (o : Owner) (t : Table) (ls : List Literal) (old one : List CodeObject) (x : CodeObject) (put : one ≡ old ++ x ∷ []) where
  next_is : length one ≡ length old + 1
  next_is = ap length put ∙ length-append old (x ∷ [])

  -- where its elements die, the array does
  pub elements_die : (k : Dead) → ((s : State Table) → s.memory ≡ t → (literals_step named o (length one) ls).run s ≡ Died k)
      → (s : State Table) → s.memory ≡ t → (array_step named o (length old) ls).run s ≡ Died k
  elements_die k e s f =
      array_dies (named_of named) (owner_step o) ls (length old) k s (ap (λ n. (literals_step named o n ls).run s) (sym next_is) ∙ e s f)

  pub elements_fail : (x : Unread) (two last : List CodeObject) → PlacesAll (literals_step named o (length one) ls) t one two (Err x) → Places (array_step named o (length old) ls) t old last (Err x)
  elements_fail (Dies k) two last e = elements_die k e
  elements_fail OutOfMemory two last e = tt

  -- an array that was put before its elements gets them as fields
  pub placed_array : (two three : List CodeObject) (y : CodeObject) (fields : Vec CodePart) (p : CodePart) → object_of x ≡ pointers_object (Ref (place_of ArrayClass)) []
      → ArePlaced (literals_step named o (length one) ls) t one two fields.items → three ≡ slice_set two (length old) (record y { fields = fields }) → y ≡ get_or two (length old) y
      → part_of p ≡ Made (length old) → IsPlaced (array_step named o (length old) ls) t old three p
  placed_array two three y fields p empty e stored is made =
      let n : length (objects_of old) ≡ length old = length-map old object_of in
      let inside : objects_of two ≡ objects_of old ++ object_of x ∷ e.added =
      e.behind ∙ ap (λ os. objects_of os ++ e.added) put ∙ ap (λ os. os ++ e.added) (map-append object_of old (x ∷ [])) ∙ append_assoc (objects_of old) (object_of x ∷ []) e.added in
      let seen : object_of y ≡ object_of x =
      ap object_of is ∙ sym (get_or-map object_of two (length old) y) ∙ ap (λ os. get_or os (length old) (object_of y)) inside
      ∙ ap (λ k. get_or (objects_of old ++ object_of x ∷ e.added) k (object_of y)) (sym n) ∙ get_or-append_seam (objects_of old) (object_of x) e.added (object_of y) in
      let full : object_of (record y { fields = fields }) ≡ pointers_object (Ref (place_of ArrayClass)) (parts_of fields.items) =
      ap (λ (z : NewObject). record z { fields = parts_of fields.items }) (seen ∙ empty) in
      record {
        added = pointers_object (Ref (place_of ArrayClass)) (parts_of fields.items) ∷ e.added;
        behind =
            ap objects_of stored ∙ map-set object_of two (length old) (record y { fields = fields }) ∙ ap (λ os. slice_set os (length old) (object_of (record y { fields = fields }))) inside
            ∙ ap (λ k. slice_set (objects_of old ++ object_of x ∷ e.added) k (object_of (record y { fields = fields }))) (sym n)
            ∙ set-append_seam (objects_of old) (object_of x) e.added (object_of (record y { fields = fields })) ∙ ap (λ z. objects_of old ++ z ∷ e.added) full;
        tells = λ s f.
            array_run (named_of named) (owner_step o) ls (length old) (record { parts = parts_of fields.items; objects = e.added }) s (ap (λ k. (literals_step named o k ls).run s) (sym next_is) ∙ e.tells s f)
            ∙ ap (λ q. Went (record { part = q; objects = pointers_object (Ref (place_of ArrayClass)) (parts_of fields.items) ∷ e.added }) s) (sym made);
      }

pub empty_array : (x : CodeObject) (fs : List CodePart) → object_of x ≡ pointers_object (value (record { 0 = 16 })) (parts_of fs) → fs ≡ [] → object_of x ≡ pointers_object (Ref (place_of ArrayClass)) []
empty_array x fs e q = e ∙ ap (λ v. pointers_object v (parts_of fs)) array_class ∙ ap (λ ps. pointers_object (Ref (place_of ArrayClass)) (parts_of ps)) q

-- EACH KIND OF LITERAL

module _ (named : List (Vec ℕ × CodePart)) (o : Owner) (t : Table) (l : Literal) (old : List CodeObject) where
  abbrev this : Step Table Placed
  this = literal_step named o (length old) l

  abbrev of : Literal → Step Table Placed
  of z = literal_step named o (length old) z

  pub character_placed : (b : ℕ) (p : CodePart) → l ≡ Character b → Reads (place_character table b) part_placed t (Ok p) → IsPlaced this t old old p
  unfolding place_literal
  character_placed b p q e = subst (λ z. IsPlaced (of z) t old old p) (sym q) (placed_part (place_character table b) t old p e)

  pub character_dies : (b : ℕ) (k : Dead) → l ≡ Character b → Reads (place_character table b) part_placed t (Err k) → (s : State Table) → s.memory ≡ t → this.run s ≡ Died k
  unfolding place_literal
  character_dies b k q e s f = ap (λ z. (of z).run s) q ∙ e s f

  pub symbol_placed : (text : Vec ℕ) (xs : List ℕ) (p : CodePart) → l ≡ Symbol text → xs ≡ text.items → Reads (place_symbol (named_of named) xs) part_placed t (Ok p) → IsPlaced this t old old p
  unfolding place_literal
  symbol_placed text xs p q i e =
      subst (λ z. IsPlaced (of z) t old old p) (sym q) (subst (λ ys. IsPlaced (place_symbol (named_of named) ys) t old old p) i (placed_part (place_symbol (named_of named) xs) t old p e))

  pub symbol_dies : (text : Vec ℕ) (xs : List ℕ) (k : Dead) → l ≡ Symbol text → xs ≡ text.items → Reads (place_symbol (named_of named) xs) part_placed t (Err k) → (s : State Table) → s.memory ≡ t → this.run s ≡ Died k
  unfolding place_literal
  symbol_dies text xs k q i e s f = ap (λ z. (of z).run s) q ∙ ap (λ ys. (place_symbol (named_of named) ys).run s) (sym i) ∙ e s f

  pub pointer_placed : (x : Oop) (p : CodePart) → l ≡ Named x → Reads (place_pointer table x.0) part_placed t (Ok p) → IsPlaced this t old old p
  unfolding place_literal
  pointer_placed x p q e = subst (λ z. IsPlaced (of z) t old old p) (sym q) (placed_part (place_pointer table x.0) t old p e)

  pub pointer_dies : (x : Oop) (k : Dead) → l ≡ Named x → Reads (place_pointer table x.0) part_placed t (Err k) → (s : State Table) → s.memory ≡ t → this.run s ≡ Died k
  unfolding place_literal
  pointer_dies x k q e s f = ap (λ z. (of z).run s) q ∙ e s f

  module _ (new : List CodeObject) (x : Single) (p : CodePart) (part : part_of p ≡ (single_placed (length old) x).part) (objects : objects_of new ≡ objects_of old ++ (single_placed (length old) x).objects) where
    pub number_placed : (minus : Bool) (size : ℕ) → l ≡ Number minus size → IsSingle (λ next. place_number table next (record { minus = minus; size = size })) t x → IsPlaced this t old new p
    unfolding place_literal
    number_placed minus size q e = subst (λ z. IsPlaced (of z) t old new p) (sym q) (placed_single (λ next. place_number table next (record { minus = minus; size = size })) t old new x p e part objects)

    pub string_placed : (text : Vec ℕ) (xs : List ℕ) → l ≡ Bytes text → xs ≡ text.items → IsSingle (λ next. place_string table next xs) t x → IsPlaced this t old new p
    unfolding place_literal
    string_placed text xs q i e =
        subst (λ z. IsPlaced (of z) t old new p) (sym q) (subst (λ ys. IsPlaced (place_string table (length old) ys) t old new p) i (placed_single (λ next. place_string table next xs) t old new x p e part objects))

    pub owner_placed : l ≡ OwnerLiteral → IsSingle (owner_step o) t x → IsPlaced this t old new p
    unfolding place_literal
    owner_placed q e = subst (λ z. IsPlaced (of z) t old new p) (sym q) (placed_single (owner_step o) t old new x p e part objects)

  pub owner_fails : (e : Unread) → l ≡ OwnerLiteral → TellsSingle (owner_step o) t (Err e) → Places this t old old (Err e)
  unfolding place_literal
  owner_fails (Dies k) q h = λ s f. ap (λ z. (of z).run s) q ∙ h (length old) s f
  owner_fails OutOfMemory q h = tt

  pub array_is : (ls : Vec Literal) (xs : List Literal) → l ≡ Array ls → xs ≡ ls.items → array_step named o (length old) xs ≡ this
  array_is ls xs q i =
      ap (λ ys. array_step named o (length old) ys) i ∙ ap (λ v. place_literal table (named_of named) (owner_step o) (length old) v) (sym (array_view ls)) ∙ ap of (sym q)
