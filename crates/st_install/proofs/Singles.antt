-- Literals that are values of the memory or of a map, and owners.
use Rattle.std.proofs.Common.{◌≡◌, ℕ, ◌*◌, List, [], ◌∷◌, Bool, true, false, cond, Option, Some, None, Err, refl, sym, subst}
use Rattle.std.specs.Prelude.{◌/◌, is_some, find, option_map, bytes_eq, if◌then◌else◌}
use Rattle.std.specs.Global.{Vec}
use Rattle.std.specs.Ordering.{is_eq, nat_cmp}
use Rattle.std.specs.Map.{lookup}
use Rattle.std.specs.Cmp.Lexicographic.{slice_cmp}
use Rattle.std.proofs.lemmas.Map.Text.{is_eq-slice_cmp}
use Rattle.st_model.specs.declared.dead.Dead.{Dead}
use Rattle.st_model.specs.declared.dead.Dead.TheVariants as dead
use Rattle.st_model.specs.Values.{Value, Ref, value, value_of}
use Rattle.st_model.specs.Machine.{State, Died, Went, answer, die, after, ◌>>=◌}
use Rattle.st_model.specs.Steps.{object_at, named_or_not, or_die, class_of}
use Rattle.st_model.specs.Table.{Table, table, entry}
use Rattle.st_model.specs.inside.Calls.{Reads}
use Rattle.st_model.specs.View.{is_live}
use Rattle.st_model.proofs.Runs.{run-then, after-died}
use Rattle.st_install.specs.declared.plan.PlannedValue.{PlannedValue as CodePart}
use Rattle.st_install.specs.Plans.{There}
use Rattle.st_install.specs.Symbols.{NamedSymbol, symbol_part}
use Rattle.st_install.specs.Literals.{as_it_is, place_pointer, place_owner}
use Rattle.st_install.specs.inside.Readies.{part_of}
use Rattle.st_install.specs.inside.Told.{named_of}
use Rattle.st_install.proofs.Numbers.{even_value}
use Rattle.st_emit.proofs.NamePlaces.{same_text}

-- POINTERS

there_if : (n : ℕ) (b : Bool) (s : State Table) → b ≡ true → (or_die dead.Kind (named_or_not (if b then Some n else None)) >>= (λ v. answer (as_it_is (There v)))).run s ≡ Went (as_it_is (There (Ref n))) s
unfolding or_die answer named_or_not ◌>>=◌ after
there_if n true s e = refl
there_if n false s e = cc

gone_if : (n : ℕ) (b : Bool) (s : State Table) → b ≡ false → (or_die dead.Kind (named_or_not (if b then Some n else None)) >>= (λ v. answer (as_it_is (There v)))).run s ≡ Died dead.Kind
unfolding or_die answer die named_or_not ◌>>=◌ after
gone_if n true s e = cc
gone_if n false s e = refl

live_as : (p : ℕ) (t u : Table) (b : Bool) → is_live t (value_of (p / 2 * 2)) ≡ b → u ≡ t → is_some (entry u (p / 2)) ≡ b
unfolding is_live
live_as p t u b live f =
    let l : is_live t (Ref (p / 2)) ≡ b = subst (λ x. is_live t x ≡ b) (even_value (p / 2) (p / 2 * 2) refl) live in
    subst (λ w. is_some (entry w (p / 2)) ≡ b) (sym f) l

pub pointer_there : (p : ℕ) (t : Table) → is_live t (value_of (p / 2 * 2)) ≡ true → (s : State Table) → s.memory ≡ t → (place_pointer table p).run s ≡ Went (as_it_is (There (value_of (p / 2 * 2)))) s
unfolding place_pointer object_at ◌>>=◌ after
pointer_there p t live s f =
    rw (even_value (p / 2) (p / 2 * 2) refl) (there_if (p / 2) (is_some (entry s.memory (p / 2))) s (live_as p t s.memory true live f))

pub pointer_gone : (p : ℕ) (t : Table) → is_live t (value_of (p / 2 * 2)) ≡ false → (s : State Table) → s.memory ≡ t → (place_pointer table p).run s ≡ Died dead.Kind
unfolding place_pointer object_at ◌>>=◌ after
pointer_gone p t gone s f = gone_if (p / 2) (is_some (entry s.memory (p / 2))) s (live_as p t s.memory false gone f)

-- OWNERS

pub owner_dies : (association class : Value) (meta : Bool) (t : Table) (k : Dead) → meta ≡ true → Reads (class_of table association) value t (Err k)
    → (next : ℕ) (s : State Table) → s.memory ≡ t → (place_owner table association class meta next).run s ≡ Died k
unfolding place_owner
owner_dies association class true t k e r next s f = simp (run-then, r s f, after-died) refl
owner_dies association class false t k e r next s f = cc

-- SYMBOLS OF A MAP

-- what is noted of a text
abbrev pub noted : List (Vec ℕ × CodePart) → List ℕ → Option CodePart
noted entries text = lookup (λ k. bytes_eq text k.items) entries

pub noted_text : (entries : List (Vec ℕ × CodePart)) (text : List ℕ) → lookup (λ q. is_eq (slice_cmp nat_cmp text q.items)) entries ≡ noted entries text
noted_text entries text = λ t. lookup (λ q. is_eq-slice_cmp text q.items t) entries

turned : (a b : List ℕ) → bytes_eq a b ≡ true → bytes_eq b a ≡ true
turned a b h = let e = same_text a b h in subst (λ x. bytes_eq x a ≡ true) e (subst (λ x. bytes_eq a x ≡ true) (sym e) h)

both : (x y : Bool) → (x ≡ true → y ≡ true) → (y ≡ true → x ≡ true) → x ≡ y
both true true f g = refl
both true false f g = sym (f refl)
both false true f g = g refl
both false false f g = refl

pub turned_text : (a b : List ℕ) → bytes_eq a b ≡ bytes_eq b a
turned_text a b = both (bytes_eq a b) (bytes_eq b a) (turned a b) (turned b a)

module _ (p : CodePart) (text : List ℕ) where
  noted_by : (x y : Bool) (a : Option CodePart) (b : Option NamedSymbol) → x ≡ y → option_map part_of a ≡ option_map (λ s. s.part) b
      → option_map part_of (cond x (Some p) a) ≡ option_map (λ s. s.part) (cond y (Some (record { text = text; part = part_of p })) b)
  noted_by true true a b e h = refl
  noted_by false false a b e h = h
  noted_by true false a b e h = cc
  noted_by false true a b e h = cc

-- a map gives a Symbol as the list of its entries does
pub symbol_noted : (entries : List (Vec ℕ × CodePart)) (text : List ℕ) → option_map part_of (noted entries text) ≡ symbol_part (named_of entries) text
symbol_noted [] text = refl
symbol_noted (e ∷ es) text =
    noted_by e.1 e.0.items (bytes_eq text e.0.items) (bytes_eq e.0.items text) (noted es text) (find (λ s. bytes_eq s.text text) (named_of es)) (turned_text text e.0.items) (symbol_noted es text)
