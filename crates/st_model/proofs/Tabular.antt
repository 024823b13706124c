-- What steps come to over a memory that reads, changes and names objects as the table does.
use Rattle.std.proofs.Common.{◌≡◌, ℕ, List, [], ◌∷◌, zero, suc, refl}
use mathlib.Core.Path.{fun_ext}
use Rattle.std.specs.Prelude.{ℤ, ◌+◌, ◌-◌, ◌*◌, Bool, true, false, length, nat_lt, nat_le}
use Rattle.st_model.specs.declared.dead.Dead.TheVariants as dead
use Rattle.st_model.specs.Values.{Value, Small, Ref}
use Rattle.st_model.specs.Objects.{PageObject, NilObject, SmallIntegerClass}
use Rattle.st_model.specs.Machine.{ObjectMemory, answer, ◌>>=◌, ◌>>◌}
use Rattle.st_model.specs.Steps.{of_page, object_named, object, store_at, stored_at, set_field, exchanged_there, exchange_named, exchange, units_set, set_units_at, set_units, fetch_word, fetch_byte, store_word, store_byte, class_of, fetch_field, store_field, count_fields, fetch_fields, store_fields, transfer, literal, fetch_method_field, store_method_field, byte_at, get_active, get_sp, set_sp, check, same_value, fetch_integer, put, push, top, pop}
use Rattle.st_model.specs.Methods.{method_header, literal_from_last}
use Rattle.st_model.specs.Pixels.{row_words}
use Rattle.st_model.specs.BitBlt.{Copy, painted, fetch_words, fetch_positive, read_form, read_unless, read_form_if_any, fetch_form, fetch_destination, fetch_halftone, fetch_rule, fetch_axis, read_copy, store_painted}
use Rattle.st_model.specs.Table.{Table, table, IsTabular}

module _ {m : ObjectMemory Table} (h : IsTabular m) where
  pub of_page-as : (q : PageObject) → of_page m q ≡ of_page table q
  unfolding of_page
  of_page-as q = rw h.named refl

  pub object_named-as : (n : ℕ) → object_named m n ≡ object_named table n
  unfolding object_named
  object_named-as n = rw h.read refl

  pub object-as : (v : Value) → object m v ≡ object table v
  unfolding object
  object-as (Small n) = refl
  object-as (Ref n) = object_named-as n

  pub fetch_field-as : (v : Value) (i : ℕ) → fetch_field m v i ≡ fetch_field table v i
  unfolding fetch_field
  fetch_field-as v i = rw (object-as v) refl

  pub count_fields-as : (v : Value) → count_fields m v ≡ count_fields table v
  unfolding count_fields
  count_fields-as v = rw (object-as v) refl

  pub class_of-as : (v : Value) → class_of m v ≡ class_of table v
  unfolding class_of
  class_of-as (Small n) = of_page-as SmallIntegerClass
  class_of-as (Ref n) = rw (object_named-as n) refl

  set_field-as : (v : Value) (i : ℕ) (x : Value) → set_field m v i x ≡ set_field table v i x
  unfolding set_field store_at stored_at
  set_field-as (Small n) i x = refl
  set_field-as (Ref n) i (Small y) = rw (h.read, h.replace) refl
  set_field-as (Ref n) i (Ref y) = rw (h.read, h.replace) refl

  pub store_field-as : (v : Value) (i : ℕ) (x : Value) → store_field m v i x ≡ store_field table v i x
  unfolding store_field
  store_field-as v i x = rw (object-as v, set_field-as v i x) refl

  pub exchange-as : (v w : Value) → exchange m v w ≡ exchange table v w
  unfolding exchange exchange_named exchanged_there
  exchange-as (Small a) w = refl
  exchange-as (Ref a) (Small b) = refl
  exchange-as (Ref a) (Ref b) = rw (h.read, h.exchange) refl

  pub set_units-as : (v : Value) (us : List ℕ) → set_units m v us ≡ set_units table v us
  unfolding set_units set_units_at units_set
  set_units-as (Small n) us = refl
  set_units-as (Ref n) us = rw (h.read, h.replace) refl

  pub fetch_word-as : (v : Value) (i : ℕ) → fetch_word m v i ≡ fetch_word table v i
  unfolding fetch_word
  fetch_word-as v i = rw (object-as v) refl

  pub fetch_byte-as : (v : Value) (i : ℕ) → fetch_byte m v i ≡ fetch_byte table v i
  unfolding fetch_byte
  fetch_byte-as v i = rw (object-as v) refl

  pub store_word-as : (v : Value) (i x : ℕ) → store_word m v i x ≡ store_word table v i x
  unfolding store_word
  store_word-as v i x = rw (object-as v, fun_ext (set_units-as v)) refl

  pub store_byte-as : (v : Value) (i x : ℕ) → store_byte m v i x ≡ store_byte table v i x
  unfolding store_byte
  store_byte-as v i x = rw (object-as v, fun_ext (set_units-as v)) refl

  fetch_fields-as : (v : Value) (from n : ℕ) → fetch_fields m v from n ≡ fetch_fields table v from n
  unfolding fetch_fields
  fetch_fields-as v from zero = refl
  fetch_fields-as v from (suc n) = rw (fetch_field-as v from, fetch_fields-as v (suc from) n) refl

  store_fields-as : (v : Value) (to : ℕ) (xs : List Value) → store_fields m v to xs ≡ store_fields table v to xs
  unfolding store_fields
  store_fields-as v to [] = refl
  store_fields-as v to (x ∷ xs) = rw (store_field-as v to x, store_fields-as v (suc to) xs) refl

  pub transfer-as : (n : ℕ) (source : Value) (from : ℕ) (target : Value) (to : ℕ) → transfer m n source from target to ≡ transfer table n source from target to
  unfolding transfer
  transfer-as n source from target to = rw (fetch_fields-as source from n, fun_ext (λ xs. store_fields-as target to xs)) refl

  pub literal-as : (v : Value) (i : ℕ) → literal m v i ≡ literal table v i
  unfolding literal
  literal-as v i = rw (object-as v) refl

  pub fetch_method_field-as : (v : Value) (i : ℕ) → fetch_method_field m v i ≡ fetch_method_field table v i
  unfolding fetch_method_field
  fetch_method_field-as v i = rw (object-as v) refl

  pub store_method_field-as : (v : Value) (i : ℕ) (x : Value) → store_method_field m v i x ≡ store_method_field table v i x
  unfolding store_method_field
  store_method_field-as v i x = rw (object-as v, set_field-as v i x) refl

  pub byte_at-as : (v : Value) (ip : ℤ) → byte_at m v ip ≡ byte_at table v ip
  unfolding byte_at
  byte_at-as v ip = rw (object-as v) refl

  pub method_header-as : (v : Value) → method_header m v ≡ method_header table v
  unfolding method_header
  method_header-as v = rw (object-as v) refl

  pub literal_from_last-as : (v : Value) (k : ℕ) → literal_from_last m v k ≡ literal_from_last table v k
  unfolding literal_from_last
  literal_from_last-as v k = rw (object-as v) refl

  fetch_integer-as : (v : Value) (i : ℕ) → fetch_integer m v i ≡ fetch_integer table v i
  unfolding fetch_integer
  fetch_integer-as v i = rw (fetch_field-as v i) refl

  -- the stack

  pub top-as : top m ≡ top table
  unfolding top
  top-as = λ j. get_sp >>= (λ sp. check dead.Sp (nat_lt 5 sp) >> (get_active >>= (λ c. fetch_field-as c sp j)))

  pub pop-as : pop m ≡ pop table
  unfolding pop
  pop-as = λ j. top-as j >>= (λ v. get_sp >>= (λ sp. set_sp (sp - 1) >> answer v))

  put-as : (c : Value) (at : ℕ) (x : Value) → put m c at x ≡ put table c at x
  unfolding put
  put-as c at x = λ j. count_fields-as c j >>= (λ n. check dead.Sp (nat_lt at n) >> (check dead.Sp (nat_le at 16388) >> store_field-as c at x j))

  pub push-as : (x : Value) → push m x ≡ push table x
  unfolding push
  push-as x = λ j. get_active >>= (λ c. get_sp >>= (λ sp. put-as c (sp + 1) x j >> set_sp (sp + 1)))

  -- what is read of a BitBlt, and what is stored

  pub fetch_words-as : (v : Value) → fetch_words m v ≡ fetch_words table v
  unfolding fetch_words
  fetch_words-as v = rw (object-as v) refl

  pub fetch_positive-as : (v : Value) (i : ℕ) → fetch_positive m v i ≡ fetch_positive table v i
  unfolding fetch_positive
  fetch_positive-as v i = rw (fetch_field-as v i) refl

  pub read_form-as : (v : Value) → read_form m v ≡ read_form table v
  unfolding read_form
  read_form-as v = λ j. fetch_field-as v 0 j >>= (λ bits. fetch_positive-as v 1 j >>= (λ width. fetch_positive-as v 2 j >>= (λ height. fetch_words-as bits j >>= (λ words.
      check dead.Field (nat_le (height * row_words width) (length words)) >> answer (record { words = words; width = width; height = height })))))

  read_unless-as : (v : Value) (b : Bool) → read_unless m v b ≡ read_unless table v b
  unfolding read_unless
  read_unless-as v true = refl
  read_unless-as v false = rw (read_form-as v) refl

  pub read_form_if_any-as : (v : Value) → read_form_if_any m v ≡ read_form_if_any table v
  unfolding read_form_if_any
  read_form_if_any-as v = λ j. of_page-as NilObject j >>= (λ nil. read_unless-as v (same_value v nil) j)

  pub fetch_form-as : (v : Value) (i : ℕ) → fetch_form m v i ≡ fetch_form table v i
  unfolding fetch_form
  fetch_form-as v i = λ j. fetch_field-as v i j >>= (λ f. read_form_if_any-as f j)

  pub fetch_destination-as : (v : Value) → fetch_destination m v ≡ fetch_destination table v
  unfolding fetch_destination
  fetch_destination-as v = λ j. fetch_field-as v 0 j >>= (λ f. read_form-as f j)

  pub fetch_halftone-as : (v : Value) → fetch_halftone m v ≡ fetch_halftone table v
  unfolding fetch_halftone
  fetch_halftone-as v = rw (fetch_form-as v 2) refl

  pub fetch_rule-as : (v : Value) → fetch_rule m v ≡ fetch_rule table v
  unfolding fetch_rule
  fetch_rule-as v = rw (fetch_positive-as v 3) refl

  pub fetch_axis-as : (v : Value) (i : ℕ) → fetch_axis m v i ≡ fetch_axis table v i
  unfolding fetch_axis
  fetch_axis-as v i = rw (fetch_integer-as v (4 + i), fetch_integer-as v (6 + i), fetch_integer-as v (8 + i), fetch_integer-as v (10 + i), fetch_integer-as v (12 + i)) refl

  pub read_copy-as : (v : Value) → read_copy m v ≡ read_copy table v
  unfolding read_copy
  read_copy-as v = rw (fetch_destination-as v, fetch_form-as v 1, fetch_halftone-as v, fetch_rule-as v, fetch_axis-as v 0, fetch_axis-as v 1) refl

  pub store_painted-as : (v : Value) (c : Copy) → store_painted m v c ≡ store_painted table v c
  unfolding store_painted
  store_painted-as v c = λ j. fetch_field-as v 0 j >>= (λ f. fetch_field-as f 0 j >>= (λ bits. set_units-as bits (painted c) j))
