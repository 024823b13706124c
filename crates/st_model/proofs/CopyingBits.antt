-- What copying bits does to a table: where the BitBlt and its Forms are as they should be, the words of the destination's bits
-- become those that are painted, and nothing else changes; else nothing does.
use Rattle.std.proofs.Common.{◌≡◌, ℕ, List, length, Some, Bool, true, false, refl, sym, ◌∙◌, ap, subst, arith}
use Rattle.std.specs.Prelude.{Result, Ok, Err, ◌==◌}
use Rattle.std.proofs.lemmas.Bool.Decides.{nat_tests}
use Rattle.st_model.specs.declared.dead.Dead.{Dead}
use Rattle.st_model.specs.Values.{Value, Ref}
use Rattle.st_model.specs.Objects.{Object, is_words, with_units}
use Rattle.st_model.specs.Machine.{State, Transition, Went, after, ◌>>=◌}
use Rattle.st_model.specs.Table.{Table, table, entry, changed}
use Rattle.st_model.specs.inside.Calls.{Reads, transition_of, itself}
use Rattle.st_model.specs.Steps.{object, check, fetch_field, units_set, set_units_at, set_units}
use Rattle.st_model.specs.Deeds.{over, over_table, table_after}
use Rattle.st_model.specs.BitBlt.{Form, Copy, painted, fetch_words, fetch_positive, read_form, read_unless, read_form_if_any, fetch_form, fetch_destination, fetch_halftone, fetch_rule, fetch_axis, read_copy, store_painted, copy_bits}
use Rattle.st_model.proofs.Made.{length-made}
use Rattle.st_model.proofs.Looking.{Looks, looking, fetch_field-looks, fetch_integer-looks, positive_small-looks, object-looks, comes_to, then-went, next-went, passed, answered, object-went}

-- what is read of a BitBlt

fetch_words-looks : (v : Value) → Looks (fetch_words table v)
unfolding fetch_words
fetch_words-looks v = search looking depth 16 fits 4000

fetch_positive-looks : (v : Value) (i : ℕ) → Looks (fetch_positive table v i)
unfolding fetch_positive
fetch_positive-looks v i = search (looking, fetch_field-looks, positive_small-looks) depth 16 fits 4000

read_form-looks : (v : Value) → Looks (read_form table v)
unfolding read_form
read_form-looks v = search (looking, fetch_field-looks, fetch_positive-looks, fetch_words-looks) depth 24 fits 4000

read_unless-looks : (v : Value) (b : Bool) → Looks (read_unless table v b)
unfolding read_unless
read_unless-looks v true = search looking depth 16 fits 4000
read_unless-looks v false = search (looking, read_form-looks) depth 16 fits 4000

fetch_form-looks : (v : Value) (i : ℕ) → Looks (fetch_form table v i)
unfolding fetch_form read_form_if_any
fetch_form-looks v i = search (looking, fetch_field-looks, read_unless-looks) depth 16 fits 4000

fetch_destination-looks : (v : Value) → Looks (fetch_destination table v)
unfolding fetch_destination
fetch_destination-looks v = search (looking, fetch_field-looks, read_form-looks) depth 16 fits 4000

fetch_halftone-looks : (v : Value) → Looks (fetch_halftone table v)
unfolding fetch_halftone
fetch_halftone-looks v = search (looking, fetch_form-looks) depth 16 fits 4000

fetch_rule-looks : (v : Value) → Looks (fetch_rule table v)
unfolding fetch_rule
fetch_rule-looks v = search (looking, fetch_positive-looks) depth 16 fits 4000

fetch_axis-looks : (v : Value) (i : ℕ) → Looks (fetch_axis table v i)
unfolding fetch_axis
fetch_axis-looks v i = search (looking, fetch_integer-looks) depth 24 fits 4000

pub read_copy-looks : (v : Value) → Looks (read_copy table v)
unfolding read_copy
read_copy-looks v = search (looking, fetch_destination-looks, fetch_form-looks, fetch_halftone-looks, fetch_rule-looks, fetch_axis-looks) depth 24 fits 4000

-- where a Form was read, its words are those of its bits

record WordsOf (s : State Table) (v : Value) (us : List ℕ) : Type 0 where
  place : ℕ
  object : Object
  is : v ≡ Ref place
  found : entry s.memory place ≡ Some object
  kind : is_words object.kind ≡ true
  words : us ≡ object.units

words_went : (v : Value) (s u : State Table) (us : List ℕ) → (fetch_words table v).run s ≡ Went us u → WordsOf s v us
unfolding fetch_words
words_went v s u us e =
    let a = then-went (object table v) _ (object-looks v) s u us e in
    let b = next-went (check _ (is_words a.0.kind)) _ (search looking depth 16 fits 4000) s u us a.2 in
    let c = object-went v s s a.0 a.1 in
    record { place = c.0; object = a.0; is = c.1; found = c.2; kind = passed _ _ s s b.1; words = answered _ _ s u b.2 }

record FormRead (s : State Table) (v : Value) (f : Form) : Type 0 where
  bits : Value
  field : (fetch_field table v 0).run s ≡ Went bits s
  words : WordsOf s bits f.words

form_went : (v : Value) (s u : State Table) (f : Form) → (read_form table v).run s ≡ Went f u → FormRead s v f
unfolding read_form
form_went v s u f e =
    let a = then-went (fetch_field table v 0) _ (fetch_field-looks v 0) s u f e in
    let b = then-went (fetch_positive table v 1) _ (fetch_positive-looks v 1) s u f a.2 in
    let c = then-went (fetch_positive table v 2) _ (fetch_positive-looks v 2) s u f b.2 in
    let d = then-went (fetch_words table a.0) _ (fetch_words-looks a.0) s u f c.2 in
    let g = next-went _ _ (search looking depth 16 fits 4000) s u f d.2 in
    let q = answered _ f s u g.2 in
    record { bits = a.0; field = a.1; words = subst (λ us. WordsOf s a.0 us) (sym (ap (λ (f : Form). f.words) q)) (words_went a.0 s s d.0 d.1) }

destination_went : (v : Value) (s u : State Table) (f : Form) → (fetch_destination table v).run s ≡ Went f u → (d : Value) × ((fetch_field table v 0).run s ≡ Went d s) × FormRead s d f
unfolding fetch_destination
destination_went v s u f e =
    let a = then-went (fetch_field table v 0) _ (fetch_field-looks v 0) s u f e in
    (a.0, a.1, form_went a.0 s u f a.2)

copy_went : (v : Value) (s u : State Table) (c : Copy) → (read_copy table v).run s ≡ Went c u → (fetch_destination table v).run s ≡ Went c.destination s
unfolding read_copy
copy_went v s u c e =
    let a = then-went (fetch_destination table v) _ (fetch_destination-looks v) s u c e in
    let b = then-went (fetch_form table v 1) _ (fetch_form-looks v 1) s u c a.2 in
    let d = then-went (fetch_halftone table v) _ (fetch_halftone-looks v) s u c b.2 in
    let g = then-went (fetch_rule table v) _ (fetch_rule-looks v) s u c d.2 in
    let h = then-went (fetch_axis table v 0) _ (fetch_axis-looks v 0) s u c g.2 in
    let k = then-went (fetch_axis table v 1) _ (fetch_axis-looks v 1) s u c h.2 in
    let q = answered _ c s u k.2 in
    subst (λ f. (fetch_destination table v).run s ≡ Went f s) (sym (ap (λ (c : Copy). c.destination) q)) a.1

-- Where a copy was read, the words that are painted are stored in an object of kind Words that has as many.
pub record Target (t : Table) (v : Value) (c : Copy) : Type 0 where
  pub form : Value
  pub place : ℕ
  pub object : Object
  pub destination : Reads (fetch_field table v 0) itself t (Ok form)
  pub bits : Reads (fetch_field table form 0) itself t (Ok (Ref place))
  pub found : entry t place ≡ Some object
  pub kind : is_words object.kind ≡ true
  pub words : c.destination.words ≡ object.units
  pub size : length (painted c) ≡ length object.units

painted_size : (c : Copy) → length (painted c) ≡ length c.destination.words
unfolding painted
painted_size c = length-made _ _

-- what a step that looks comes to from one state over a table, it comes to from each
pub from_each : {A : Type 0} {m : _} → Looks m → (s : State Table) (a : A) → m.run s ≡ Went a s → Reads m itself s.memory (Ok a)
from_each h s a e = λ u q. went_too (h.comes s.memory) s u a (sym (h.does s) ∙ e) (h.does u ∙ ap (λ t. transition_of itself (h.comes t) u) q)
  where
    went_too : {A : Type 0} {x : Transition (State Table) A} (r : Result A Dead) (s u : State Table) (a : A) → transition_of itself r s ≡ Went a s → x ≡ transition_of itself r u → x ≡ Went a u
    went_too (Ok b) s u a e f = let q : b ≡ a = cc in f ∙ ap (λ c. Went c u) q
    went_too (Err cause) s u a e f = cc

pub target : (t : Table) (v : Value) (c : Copy) → Reads (read_copy table v) itself t (Ok c) → Target t v c
target t v c e =
    let s : State Table = over_table t in
    let a = destination_went v s s c.destination (copy_went v s s c (e s refl)) in
    let w = a.2.words in
    record {
      form = a.0;
      place = w.place;
      object = w.object;
      destination = from_each (fetch_field-looks v 0) s a.0 a.1;
      bits = from_each (fetch_field-looks a.0 0) s (Ref w.place) (a.2.field ∙ ap (λ b. Went b s) w.is);
      found = w.found;
      kind = w.kind;
      words = w.words;
      size = painted_size c ∙ ap (λ (us : List ℕ). length us) w.words;
    }

pub set_units-does : (n : ℕ) (us : List ℕ) (s : State Table) (o : Object) → entry s.memory n ≡ Some o → length us ≡ length o.units
    → (set_units table (Ref n) us).run s ≡ Went tt (over (λ t. changed t n (with_units o us)) s)
unfolding set_units set_units_at units_set
set_units-does n us s o e l = let b : (length us == length o.units) ≡ true = grind (arith, nat_tests) in rw (e, b) refl

module _ (t : Table) (v : Value) (c : Copy) (g : Target t v c) where
  abbrev pub words_painted : Table → Table
  words_painted u = changed u g.place (with_units g.object (painted c))

  pub store_painted-does : (s : State Table) → s.memory ≡ t → (store_painted table v c).run s ≡ Went tt (over words_painted s)
  unfolding store_painted ◌>>=◌ after
  store_painted-does s e = rw (g.destination s e, g.bits s e) (set_units-does g.place (painted c) s g.object (ap (λ u. entry u g.place) e ∙ g.found) g.size)

  -- the words of the destination's bits become those that are painted
  pub table-painted : Reads (read_copy table v) itself t (Ok c) → table_after (copy_bits table v) t ≡ words_painted t
  unfolding table_after copy_bits ◌>>=◌ after
  table-painted e = rw (e (over_table t) refl, store_painted-does (over_table t) refl) refl

-- where the copy can't be read, nothing changes
pub table-refused : (t : Table) (v : Value) (cause : Dead) → Reads (read_copy table v) itself t (Err cause) → table_after (copy_bits table v) t ≡ t
unfolding table_after copy_bits ◌>>=◌ after
table-refused t v cause e = rw (e (over_table t) refl) refl

-- whether the copy can be read is told by the table alone
pub copy_read : (v : Value) (t : Table) → (r : Result Copy Dead) × Reads (read_copy table v) itself t r
copy_read v t = comes_to (read_copy-looks v) t
