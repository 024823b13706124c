-- The literals of a method, and what is made for them: over births the same as over a table that shows them.
use Rattle.std.proofs.Common.{◌≡◌, ℕ, List, [], ◌∷◌, zero, suc, Option, Some, None, Bool, true, false, refl, length}
use Rattle.std.specs.Prelude.{◌+◌, nat_lt}
use Rattle.st_model.specs.declared.dead.Dead.{Dead}
use Rattle.st_model.specs.Values.{Value}
use Rattle.st_model.specs.Machine.{Step, answer, ◌>>=◌}
use Rattle.st_model.specs.Births.{Births, births}
use Rattle.st_model.specs.Table.{Table, table}
use Rattle.st_model.specs.Steps.{or_die}
use Rattle.st_scan.specs.declared.token.Signed.{Signed}
use Rattle.st_emit.specs.Literals.{LiteralView, LiteralsView}
use Rattle.st_emit.specs.Literals as literals
use Rattle.st_install.specs.Plans.{PlannedValue, NewObject}
use Rattle.st_install.specs.Symbols.{NamedSymbol}
use Rattle.st_install.specs.Literals.{Placed, PlacedAll, as_it_is, made_as, negated, place_size, place_signed, place_number, place_character, place_string, place_symbol, place_pointer, place_array, place_owner, then_placed, none_placed, place_literal, place_members, place_literals}
use Rattle.st_install.specs.inside.SamePlans.{renamed_part, renamed_parts, renamed_objects, IsLivePart, AllLiveParts, AllLiveObjects}
use Rattle.st_install.proofs.SameReads.{Shown, lives, name, Alike, ValueAlike, IsLiveAny, any_renamed, then-alike, then_value-alike, answer-alike, die-alike}
use Rattle.st_install.proofs.SameSteps.{reads_alike}
use Rattle.st_install.proofs.SameParts.{AllFormed, PartNamed, PartsNamed, NewNamed, ObjectsNamed, length-objects, parts_named}
use Rattle.st_install.proofs.SameSymbols.{renamed_known, AllKnown, symbol_part-renamed, symbol_part-live}

pub record IsLivePlaced (live : ℕ → Type 0) (p : Placed) : Type 0 where
  pub part : IsLivePart live p.part
  pub objects : AllLiveObjects live p.objects
  pub formed : AllFormed p.objects

abbrev pub renamed_placed : (ℕ → ℕ) → Placed → Placed
renamed_placed f p = record { part = renamed_part f p.part; objects = renamed_objects f p.objects }

pub record PlacedNamed (live : ℕ → Type 0) (f : ℕ → ℕ) (p q : Placed) : Type 0 where
  pub part : PartNamed live f p.part q.part
  pub objects : ObjectsNamed live f p.objects q.objects

pub record IsLivePlacedAll (live : ℕ → Type 0) (p : PlacedAll) : Type 0 where
  pub parts : AllLiveParts live p.parts
  pub objects : AllLiveObjects live p.objects
  pub formed : AllFormed p.objects

abbrev pub renamed_placed_all : (ℕ → ℕ) → PlacedAll → PlacedAll
renamed_placed_all f p = record { parts = renamed_parts f p.parts; objects = renamed_objects f p.objects }

pub record PlacedAllNamed (live : ℕ → Type 0) (f : ℕ → ℕ) (p q : PlacedAll) : Type 0 where
  pub parts : PartsNamed live f p.parts q.parts
  pub objects : ObjectsNamed live f p.objects q.objects

module _ (live : ℕ → Type 0) (f : ℕ → ℕ) where
  placed-itself : (p : Placed) → IsLivePlaced live p → PlacedNamed live f p (renamed_placed f p)
  placed-itself p h = record { part = record { live = h.part; is = refl }; objects = record { live = h.objects; formed = h.formed; is = refl } }

  pub all-itself : (p : PlacedAll) → IsLivePlacedAll live p → PlacedAllNamed live f p (renamed_placed_all f p)
  all-itself p h = record { parts = record { live = h.parts; is = refl }; objects = record { live = h.objects; formed = h.formed; is = refl } }

  as_it_is-named : (p q : PlannedValue) → PartNamed live f p q → PlacedNamed live f (as_it_is p) (as_it_is q)
  as_it_is-named p q h = record { part = h; objects = search parts_named }

  made_as-named : (next : ℕ) (o q : NewObject) → NewNamed live f o q → PlacedNamed live f (made_as next o) (made_as next q)
  made_as-named next o q h = record { part = search parts_named; objects = search parts_named }

  none_placed-named : PlacedAllNamed live f none_placed none_placed
  none_placed-named = record { parts = search parts_named; objects = search parts_named }

  then_placed-named : (p q : Placed) (ps qs : PlacedAll) → PlacedNamed live f p q → PlacedAllNamed live f ps qs → PlacedAllNamed live f (then_placed p ps) (then_placed q qs)
  then_placed-named p q ps qs h k =
      let a = h.part in
      let b = h.objects in
      let c = k.parts in
      let d = k.objects in
      record { parts = search parts_named; objects = search parts_named }

module _ (z : Shown) where
  abbrev pub AlikePlaced : Step Births Placed → Step Table Placed → Type 0
  AlikePlaced m n = Alike z (IsLivePlaced (lives z)) (renamed_placed (name z)) m n

  abbrev pub AlikePlacedAll : Step Births PlacedAll → Step Table PlacedAll → Type 0
  AlikePlacedAll m n = Alike z (IsLivePlacedAll (lives z)) (renamed_placed_all (name z)) m n

  answer_placed-alike : (p q : Placed) → PlacedNamed (lives z) (name z) p q → AlikePlaced (answer p) (answer q)
  answer_placed-alike p q h = answer-alike z _ _ p q (record { part = h.part.live; objects = h.objects.live; formed = h.objects.formed }) (λ i. record { part = h.part.is i; objects = h.objects.is i })

  answer_all-alike : (p q : PlacedAll) → PlacedAllNamed (lives z) (name z) p q → AlikePlacedAll (answer p) (answer q)
  answer_all-alike p q h = answer-alike z _ _ p q (record { parts = h.parts.live; objects = h.objects.live; formed = h.objects.formed }) (λ i. record { parts = h.parts.is i; objects = h.objects.is i })

  pub part_or_die-alike : (cause : Dead) (x y : Option PlannedValue) → IsLiveAny (IsLivePart (lives z)) x → y ≡ any_renamed (renamed_part (name z)) x
      → Alike z (IsLivePart (lives z)) (renamed_part (name z)) (or_die cause x) (or_die cause y)
  unfolding or_die
  part_or_die-alike cause None y h e = rw e (die-alike z _ _ cause)
  part_or_die-alike cause (Some p) y h e = rw e (answer-alike z _ _ p _ h refl)

  ruleset placed_alike = (reads_alike, parts_named, answer_placed-alike, answer_all-alike, as_it_is-named, made_as-named, none_placed-named, then_placed-named)

  -- numbers

  negated-alike : (size : ℕ) → ValueAlike z (negated size) (negated size)
  negated-alike zero = record { live = tt; is = refl }
  negated-alike (suc k) = record { live = tt; is = refl }

  place_size-alike : (next size : ℕ) (b : Bool) → AlikePlaced (place_size births next size b) (place_size table next size b)
  unfolding place_size
  place_size-alike next size true = search placed_alike depth 16 fits 4000
  place_size-alike next size false = search placed_alike depth 16 fits 4000

  place_signed-alike : (next size : ℕ) (b : Bool) → AlikePlaced (place_signed births next size b) (place_signed table next size b)
  unfolding place_signed
  place_signed-alike next size true = search (placed_alike, negated-alike) depth 16 fits 4000
  place_signed-alike next size false = place_size-alike next size (nat_lt size 16384)

  place_number-alike : (next : ℕ) (n : Signed) → AlikePlaced (place_number births next n) (place_number table next n)
  unfolding place_number
  place_number-alike next n = place_signed-alike next n.size n.minus

  -- others

  place_character-alike : (byte : ℕ) → AlikePlaced (place_character births byte) (place_character table byte)
  unfolding place_character
  place_character-alike byte = search placed_alike depth 20 fits 4000

  place_string-alike : (next : ℕ) (text : List ℕ) → AlikePlaced (place_string births next text) (place_string table next text)
  unfolding place_string
  place_string-alike next text = search placed_alike depth 16 fits 4000

  place_pointer-alike : (pointer : ℕ) → AlikePlaced (place_pointer births pointer) (place_pointer table pointer)
  unfolding place_pointer
  place_pointer-alike pointer = search placed_alike depth 20 fits 4000

  place_symbol-alike : (ss : List NamedSymbol) (text : List ℕ) → AllKnown (lives z) ss → AlikePlaced (place_symbol ss text) (place_symbol (renamed_known (name z) ss) text)
  unfolding place_symbol
  place_symbol-alike ss text h =
      then-alike z _ _ _ _ _ _ _ _ (part_or_die-alike _ _ _ (symbol_part-live (lives z) (name z) ss text h) (symbol_part-renamed (lives z) (name z) ss text))
      (λ p l. answer_placed-alike _ _ (as_it_is-named (lives z) (name z) p _ (record { live = l; is = refl })))

  place_array-alike : (next : ℕ) (p : PlacedAll) → IsLivePlacedAll (lives z) p → AlikePlaced (place_array births next p) (place_array table next (renamed_placed_all (name z) p))
  unfolding place_array
  place_array-alike next p h =
      let k = all-itself (lives z) (name z) p h in
      let a = k.parts in
      let b = k.objects in
      then_value-alike z _ _ _ _ _ _ (search reads_alike) (λ v w l. answer_placed-alike _ _ (record { part = search parts_named; objects = search parts_named }))

  pub place_owner-alike : (v w x y : Value) (meta : Bool) (next : ℕ) → ValueAlike z v w → ValueAlike z x y → AlikePlaced (place_owner births v x meta next) (place_owner table w y meta next)
  unfolding place_owner
  place_owner-alike v w x y false next h k = search placed_alike depth 16 fits 4000
  place_owner-alike v w x y true next h k = search placed_alike depth 24 fits 4000

  -- literals

  module _ (ss : List NamedSymbol) (known : AllKnown (lives z) ss) (own : ℕ → Step Births Placed) (own' : ℕ → Step Table Placed)
      (owner : (next : ℕ) → AlikePlaced (own next) (own' next)) where
    after_placed : (next : ℕ) (p : Placed) (m : ℕ → Step Births PlacedAll) (n : ℕ → Step Table PlacedAll) → IsLivePlaced (lives z) p → ((k : ℕ) → AlikePlacedAll (m k) (n k))
        → AlikePlacedAll (m (next + length p.objects) >>= (λ ps. answer (then_placed p ps)))
        (n (next + length (renamed_placed (name z) p).objects) >>= (λ ps. answer (then_placed (renamed_placed (name z) p) ps)))
    after_placed next p m n h f =
        rw (length-objects (name z) p.objects)
        (then-alike z _ _ _ _ _ _ _ _ (f (next + length p.objects))
        (λ ps l. answer_all-alike _ _ (then_placed-named (lives z) (name z) p _ ps _ (placed-itself (lives z) (name z) p h) (all-itself (lives z) (name z) ps l))))

    mutual
      unfolding place_literal place_members

      place_literal-alike : (next : ℕ) (l : LiteralView) → AlikePlaced (place_literal births ss own next l) (place_literal table (renamed_known (name z) ss) own' next l)
      place_literal-alike next (literals.number n) = place_number-alike next n
      place_literal-alike next (literals.character b) = place_character-alike b
      place_literal-alike next (literals.bytes text) = place_string-alike next text
      place_literal-alike next (literals.symbol text) = place_symbol-alike ss text known
      place_literal-alike next (literals.array ls) = then-alike z _ _ _ _ _ _ _ _ (place_members-alike (next + 1) ls) (λ ps l. place_array-alike next ps l)
      place_literal-alike next (literals.named pointer) = place_pointer-alike pointer
      place_literal-alike next literals.owner = owner next

      place_members-alike : (next : ℕ) (ls : LiteralsView) → AlikePlacedAll (place_members births ss own next ls) (place_members table (renamed_known (name z) ss) own' next ls)
      place_members-alike next literals.no_literals = answer_all-alike _ _ (none_placed-named (lives z) (name z))
      place_members-alike next (literals.literal l ls) =
          then-alike z _ _ _ _ _ _ _ _ (place_literal-alike next l) (λ p h. after_placed next p _ _ h (λ k. place_members-alike k ls))

    pub place_literals-alike : (next : ℕ) (ls : List LiteralView) → AlikePlacedAll (place_literals births ss own next ls) (place_literals table (renamed_known (name z) ss) own' next ls)
    unfolding place_literals
    place_literals-alike next [] = answer_all-alike _ _ (none_placed-named (lives z) (name z))
    place_literals-alike next (l ∷ ls) =
        then-alike z _ _ _ _ _ _ _ _ (place_literal-alike next l) (λ p h. after_placed next p _ _ h (λ k. place_literals-alike k ls))
