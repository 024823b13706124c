-- The primitives that read and store objects, make, exchange, find and count them (chapter 29: array and stream, storage
-- management and system primitives), and 128, which is this machine's own. Each names what it succeeds by, its conditions in their order, and its effect, which gives its answer.
use Rattle.std.specs.Prelude.{ℕ, ◌+◌, ◌-◌, ◌*◌, ◌/◌, ◌==◌, ◌||◌, not, Bool, true, false, nat_lt, nat_le, if◌then◌else◌, ℤ, pos, nat_abs, ◌-ℤ◌, int_lt, int_le}
use Rattle.st_model.specs.declared.dead.Dead.TheVariants as dead
use Rattle.st_model.specs.declared.kind.Kind.{Kind}
use Rattle.st_model.specs.declared.kind.Kind.TheVariants as kind
use Rattle.st_model.specs.declared.primitive.StoragePrimitive.{StoragePrimitive}
use Rattle.st_model.specs.declared.primitive.StoragePrimitive.TheVariants as named
use Rattle.st_model.specs.Values.{Value, Small}
use Rattle.st_model.specs.Objects.{ArrayClass, StringClass, CharacterClass, MethodClass, Characters, is_method}
use Rattle.st_model.specs.Machine.{ObjectMemory, Step, answer, die, ◌>>=◌, ◌>>◌}
use Rattle.st_model.specs.Steps.{of_page, class_of, same_value, check, or_die, fetch_kind, fetch_size, fetch_field, store_field, fetch_integer, fetch_word, store_word, fetch_byte, store_byte, fetch_bytes, store_bytes, fetch_method_field, store_method_field, exchange, make, object_at, next_instance, get_free, top, under}
use Rattle.st_model.specs.Methods.{literal_count, method_header}
use Rattle.st_model.specs.Lookup.{half_word}
use Rattle.st_model.specs.BitBlt.{primitive_copy_bits}
use Rattle.st_model.specs.Primitives.{primitive, of_receiver, of_one, of_two, truth, check_class, check_bytes, bits_or_die, positive_small, byte_or_die, positive_value, number, number_of, has_pointers, has_words, is_indexable, fixed_count, specification, fixed_fields}

-- where an element is stored, and the word or byte
pub record Storing : Type 0 where
  pub place : ℕ
  pub unit : ℕ

-- the elements of a stream's collection: objects of an Array, or Characters of a String
unfoldable pub characters_or_not : {H : Type 0} → Bool → Bool → Step H Bool
characters_or_not true string = answer false
characters_or_not false true = answer true
characters_or_not false false = die dead.Kind

-- where a stream stands: its position, the place of the next element, and whether that is a Character
pub record Standing : Type 0 where
  pub position : ℕ
  pub place : ℕ
  pub characters : Bool

-- where a stream stands, and the word or byte that is stored there
pub record Putting : Type 0 where
  pub standing : Standing
  pub unit : ℕ

abbrev pub kind_of_fixed : ℕ → Kind
kind_of_fixed specification = if has_pointers specification then kind.Pointers else kind.Words

abbrev pub kind_of_indexed : ℕ → Kind
kind_of_indexed specification = if has_pointers specification then kind.Pointers else if has_words specification then kind.Words else kind.Bytes

-- how many words a body of so many fields, words or bytes has; no new object here is a Method
abbrev pub body_words : Kind → ℕ → ℕ
body_words kind.Pointers n = n
body_words kind.Words n = n
body_words k n = (n + 1) / 2

-- the kind and the size of a new object
pub record Shape : Type 0 where
  pub kind : Kind
  pub size : ℕ

unfoldable pub checked_shape : {H : Type 0} → Kind → ℕ → Step H Shape
checked_shape k n = do
  check dead.Field (nat_le (body_words k n) 65533)
  answer (record { kind = k; size = n })

-- the header of a new Method, and how many bytes it has
pub record MethodShape : Type 0 where
  pub header : ℕ
  pub bytes : ℕ

abbrev pub method_words : ℕ → ℕ → ℕ
method_words literals bytes = 1 + literals + (bytes + 1) / 2

-- bytes from a to b, counted from 1, become those of an object from d on
pub record Replacing : Type 0 where
  pub first : ℕ
  pub last : ℕ
  pub from : ℕ

module _ {H : Type 0} (m : ObjectMemory H) where
  -- Elements. An index counts from 1, behind the fixed fields, and a place from 0 over all of an object.

  -- how many literals a method has, as its header counts them
  unfoldable pub count_literals : Value → Step H ℕ
  count_literals v = do
    header ← method_header m v
    bits ← bits_or_die header
    answer (literal_count (Small bits))

  unfoldable pub first_by : Value → Bool → Step H ℕ
  first_by v false = answer 0
  first_by v true = do
    n ← count_literals v
    answer (2 * n + 2)

  -- the first place that has an element: in a Method that of its first bytecode
  unfoldable pub first_place : Value → Step H ℕ
  first_place v = do
    k ← fetch_kind m v
    first_by v (is_method k)

  -- the place of element number i behind so many fixed fields
  unfoldable pub place_of_element : Value → ℕ → ℕ → Step H ℕ
  place_of_element v fixed i = do
    n ← fetch_size m v
    check dead.Field (nat_le 1 i)
    check dead.Field (nat_le (fixed + i) n)
    first ← first_place v
    check dead.Field (nat_le first (fixed + i - 1))
    answer (fixed + i - 1)

  -- the place that an index names, a SmallInteger
  unfoldable pub place_at : Value → ℕ → Value → Step H ℕ
  place_at v fixed index = positive_small index >>= place_of_element v fixed

  -- the same behind the fixed fields that the class gives
  unfoldable pub place_behind_fixed : Value → Value → Step H ℕ
  place_behind_fixed v index = do
    fixed ← fixed_fields m v
    place_at v fixed index

  unfoldable pub word_number : Value → ℕ → Step H Value
  word_number v i = fetch_word m v i >>= number m

  unfoldable pub byte_number : Value → ℕ → Step H Value
  byte_number v i = do
    b ← fetch_byte m v i
    answer (Small b)

  unfoldable pub element_by : Value → ℕ → Kind → Step H Value
  element_by v i kind.Pointers = fetch_field m v i
  element_by v i kind.Words = word_number v i
  element_by v i k = byte_number v i

  -- the element at a place: a field, or the number of a word or byte
  unfoldable pub fetch_element : Value → ℕ → Step H Value
  fetch_element v i = fetch_kind m v >>= element_by v i

  -- a number that fits a word
  unfoldable pub word_of_value : Value → Step H ℕ
  word_of_value x = do
    n ← positive_value m 4 x
    check dead.Field (nat_lt n 65536)
    answer n

  -- the word or byte that x is as an element of an object of this kind; any x can be a field
  unfoldable pub unit_by : Value → Kind → Step H ℕ
  unit_by x kind.Pointers = answer 0
  unit_by x kind.Words = word_of_value x
  unit_by x k = byte_or_die x

  unfoldable pub unit_of_element : Value → Value → Step H ℕ
  unit_of_element v x = fetch_kind m v >>= unit_by x

  unfoldable pub store_by : Value → ℕ → Value → ℕ → Kind → Step H Unit
  store_by v i x unit kind.Pointers = store_field m v i x
  store_by v i x unit kind.Words = store_word m v i unit
  store_by v i x unit k = store_byte m v i unit

  -- x, or the word or byte that it is, at a place
  unfoldable pub store_element : Value → ℕ → Value → ℕ → Step H Unit
  store_element v i x unit = fetch_kind m v >>= store_by v i x unit

  unfoldable pub storing_at : Value → Value → ℕ → Step H Storing
  storing_at v x i = do
    unit ← unit_of_element v x
    answer (record { place = i; unit = unit })

  unfoldable pub store_and_answer : Value → Value → Storing → Step H Value
  store_and_answer v x s = store_element v s.place x s.unit >> answer x

  -- 60: element a of r
  unfoldable pub primitive_at : Step H Bool
  primitive_at = of_one m place_behind_fixed (λ r a i. fetch_element r i)

  unfoldable pub storing_behind_fixed : Value → Value → Value → Step H Storing
  storing_behind_fixed r a b = place_behind_fixed r a >>= storing_at r b

  -- 61: b becomes element a of r
  unfoldable pub primitive_at_put : Step H Bool
  primitive_at_put = of_two m storing_behind_fixed (λ r a b s. store_and_answer r b s)

  unfoldable pub count_elements : Value → Step H ℤ
  count_elements r = do
    fixed ← fixed_fields m r
    n ← fetch_size m r
    answer (pos n -ℤ pos fixed)

  -- 62: how many elements r has; below 0 where it has fewer fields than its class says
  unfoldable pub primitive_size : Step H Bool
  primitive_size = of_receiver m count_elements (λ r n. number_of m n)

  -- Strings, whose elements are Characters: each is the field of the character table that its byte numbers.

  unfoldable pub fetch_character : Value → ℕ → Step H Value
  fetch_character v i = do
    b ← fetch_byte m v i
    characters ← of_page m Characters
    fetch_field m characters b

  -- the place that an index names in an object of kind Bytes
  unfoldable pub place_in_bytes : Value → Value → Step H ℕ
  place_in_bytes v index = check_bytes m v >> place_at v 0 index

  unfoldable pub character_at : Value → Value → Step H Value
  character_at r a = place_in_bytes r a >>= fetch_character r

  -- 63: character a of r
  unfoldable pub primitive_string_at : Step H Bool
  primitive_string_at = of_one m character_at (λ r a. answer)

  -- the byte of a Character, from 0 to 255, which is its field 0
  unfoldable pub character_byte : Value → Step H ℕ
  character_byte x = do
    check_class m x CharacterClass
    code ← fetch_field m x 0
    byte_or_die code

  unfoldable pub character_storing_at : Value → ℕ → Step H Storing
  character_storing_at x i = do
    b ← character_byte x
    answer (record { place = i; unit = b })

  unfoldable pub storing_character : Value → Value → Value → Step H Storing
  storing_character r a b = place_in_bytes r a >>= character_storing_at b

  -- 64: the Character b becomes character a of r
  unfoldable pub primitive_string_at_put : Step H Bool
  primitive_string_at_put = of_two m storing_character (λ r a b s. store_and_answer r b s)

  -- Streams. Field 0 is the collection, an Array or a String, field 1 the position, the number of elements that were passed, and
  -- field 2 the limit of reading, field 3 that of writing.

  -- whether the elements of a collection are Characters, those of a String; else it is an Array
  unfoldable pub has_characters : Value → Step H Bool
  has_characters v = do
    class ← class_of m v
    array ← of_page m ArrayClass
    string ← of_page m StringClass
    characters_or_not (same_value class array) (same_value class string)

  -- the place of element number i of an Array
  unfoldable pub place_of_object : Value → ℕ → Step H ℕ
  place_of_object v i = do
    fixed ← fixed_fields m v
    place_of_element v fixed i

  -- the place of element number i of a String, whose Character the table has
  unfoldable pub place_of_character : Value → ℕ → Step H ℕ
  place_of_character v i = do
    check_bytes m v
    place ← place_of_element v 0 i
    character ← fetch_character v place
    answer place

  unfoldable pub stream_place : Value → ℕ → Bool → Step H ℕ
  stream_place v i true = place_of_character v i
  stream_place v i false = place_of_object v i

  -- the position, which is at least 0 and below the limit in field i
  unfoldable pub position_below : Value → ℕ → Step H ℕ
  position_below r i = do
    position ← fetch_integer m r 1
    limit ← fetch_integer m r i
    check dead.Field (int_lt position limit)
    check dead.Field (int_le (pos 0) position)
    answer (nat_abs position)

  unfoldable pub standing_at : Value → Bool → ℕ → Step H Standing
  standing_at v characters position = do
    place ← stream_place v (position + 1) characters
    answer (record { position = position; place = place; characters = characters })

  -- with its limit in field i
  unfoldable pub stream_standing : Value → ℕ → Step H Standing
  stream_standing r i = do
    v ← fetch_field m r 0
    characters ← has_characters v
    position ← position_below r i
    standing_at v characters position

  unfoldable pub stream_element : Value → ℕ → Bool → Step H Value
  stream_element v i true = fetch_character v i
  stream_element v i false = fetch_element v i

  -- the element is taken before the position rises
  unfoldable pub take_next : Value → Standing → Step H Value
  take_next r s = do
    v ← fetch_field m r 0
    x ← stream_element v s.place s.characters
    store_field m r 1 (Small (s.position + 1))
    answer x

  -- 65: the next element of the stream r, whose position rises by 1
  unfoldable pub primitive_next : Step H Bool
  primitive_next = of_receiver m (λ r. stream_standing r 2) take_next

  unfoldable pub stream_unit : Value → Value → Bool → Step H ℕ
  stream_unit v x true = character_byte x
  stream_unit v x false = unit_of_element v x

  unfoldable pub putting_at : Value → Value → Standing → Step H Putting
  putting_at r a s = do
    v ← fetch_field m r 0
    unit ← stream_unit v a s.characters
    answer (record { standing = s; unit = unit })

  unfoldable pub stream_putting : Value → Value → Step H Putting
  stream_putting r a = stream_standing r 3 >>= putting_at r a

  -- the position rises from what it was, also where the element was just stored into it
  unfoldable pub put_next : Value → Value → Putting → Step H Value
  put_next r a p = do
    v ← fetch_field m r 0
    store_element v p.standing.place a p.unit
    store_field m r 1 (Small (p.standing.position + 1))
    answer a

  -- 66: a becomes the next element of the stream r, whose position rises by 1
  unfoldable pub primitive_next_put : Step H Bool
  primitive_next_put = of_one m stream_putting put_next

  unfoldable pub is_at_end : Value → Step H Bool
  is_at_end r = do
    v ← fetch_field m r 0
    characters ← has_characters v
    position ← fetch_integer m r 1
    limit ← fetch_integer m r 2
    n ← fetch_size m v
    answer (int_le limit position || int_le (pos n) position)

  -- 67: whether the stream r is at its limit, or at the end of its collection
  unfoldable pub primitive_at_end : Step H Bool
  primitive_at_end = of_receiver m is_at_end (λ r b. truth m b)

  -- Methods. Index 1 is the header, and index 2 the first literal.

  -- the field that an index names
  unfoldable pub method_place : Value → ℕ → Step H ℕ
  method_place r i = do
    n ← count_literals r
    check dead.Field (nat_le 1 i)
    check dead.Field (nat_le i (n + 1))
    answer (i - 1)

  unfoldable pub place_in_method : Value → Value → Step H ℕ
  place_in_method r a = positive_small a >>= method_place r

  unfoldable pub header_or_literal : Value → Value → Step H Value
  header_or_literal r a = place_in_method r a >>= fetch_method_field m r

  -- 68: the header of the Method r, or the literal that the index a names
  unfoldable pub primitive_object_at : Step H Bool
  primitive_object_at = of_one m header_or_literal (λ r a. answer)

  -- a header, which counts as many literals as the one before
  unfoldable pub check_header : Value → Value → Step H Unit
  check_header r b = do
    n ← count_literals r
    bits ← bits_or_die b
    check dead.Field (literal_count (Small bits) == n)

  -- into a place after the first anything may be stored
  unfoldable pub check_method_field : Value → Value → Bool → Step H Unit
  check_method_field r b true = check_header r b
  check_method_field r b false = answer tt

  unfoldable pub place_to_store : Value → Value → Value → Step H ℕ
  place_to_store r a b = do
    i ← place_in_method r a
    check_method_field r b (i == 0)
    answer i

  unfoldable pub store_in_method : Value → Value → ℕ → Step H Value
  store_in_method r b i = store_method_field m r i b >> answer b

  -- 69: b becomes the header of the Method r, or the literal that the index a names
  unfoldable pub primitive_object_at_put : Step H Bool
  primitive_object_at_put = of_two m place_to_store (λ r a b i. store_in_method r b i)

  -- New objects. No instance of CompiledMethod is made by its class's specification.

  unfoldable pub check_not_method_class : Value → Step H Unit
  check_not_method_class r = do
    methods ← of_page m MethodClass
    check dead.Kind (not (same_value r methods))

  unfoldable pub fixed_specification : Value → Step H ℕ
  fixed_specification r = do
    s ← specification m r
    check_not_method_class r
    check dead.Kind (not (is_indexable s))
    answer s

  -- 70: a new instance of the class r, whose instances have no indexed fields
  unfoldable pub primitive_new : Step H Bool
  primitive_new = of_receiver m fixed_specification (λ r s. make m r (kind_of_fixed s) (fixed_count s) 0)

  unfoldable pub indexed_shape : Value → Value → Step H Shape
  indexed_shape r a = do
    s ← specification m r
    check_not_method_class r
    check dead.Kind (is_indexable s)
    n ← positive_value m 4 a
    checked_shape (kind_of_indexed s) (n + fixed_count s)

  -- 71: a new instance of the class r with its fixed fields and a indexed ones
  unfoldable pub primitive_new_with : Step H Bool
  primitive_new_with = of_one m indexed_shape (λ r a s. make m r s.kind s.size 0)

  -- an object, and no SmallInteger
  unfoldable pub check_object : Value → Step H Unit
  check_object v = do
    k ← fetch_kind m v
    answer tt

  unfoldable pub check_objects : Value → Value → Step H Unit
  check_objects v w = check_object v >> check_object w

  unfoldable pub exchange_and_answer : Value → Value → Step H Value
  exchange_and_answer r a = exchange m r a >> answer r

  -- 72: what the pointers r and a name is exchanged
  unfoldable pub primitive_become : Step H Bool
  primitive_become = of_one m check_objects (λ r a u. exchange_and_answer r a)

  -- 73: as 60, and fixed fields count
  unfoldable pub primitive_instance_variable_at : Step H Bool
  primitive_instance_variable_at = of_one m (λ r a. place_at r 0 a) (λ r a i. fetch_element r i)

  unfoldable pub storing_by_index : Value → Value → Value → Step H Storing
  storing_by_index r a b = place_at r 0 a >>= storing_at r b

  -- 74: as 61, and fixed fields count
  unfoldable pub primitive_instance_variable_at_put : Step H Bool
  primitive_instance_variable_at_put = of_two m storing_by_index (λ r a b s. store_and_answer r b s)

  -- Pointers.

  -- half of the pointer of an object
  unfoldable pub half_pointer : Value → Step H ℕ
  half_pointer r = check_object r >> half_word m r

  -- 75: the pointer of r with its lowest bit set, a SmallInteger
  unfoldable pub primitive_as_oop : Step H Bool
  primitive_as_oop = of_receiver m half_pointer (λ r n. answer (Small n))

  unfoldable pub kept_object_at : Value → Step H Value
  kept_object_at r = do
    n ← bits_or_die r
    v ← object_at m n
    or_die dead.Kind v

  -- 76: the kept object whose pointer is the word of the SmallInteger r less 1
  unfoldable pub primitive_as_object : Step H Bool
  primitive_as_object = of_receiver m kept_object_at (λ r. answer)

  unfoldable pub first_kept_instance : Value → Step H Value
  first_kept_instance r = next_instance m r 0 >>= or_die dead.Kind

  -- 77: of the kept instances of the class r the one with the least pointer
  unfoldable pub primitive_some_instance : Step H Bool
  primitive_some_instance = of_receiver m first_kept_instance (λ r. answer)

  unfoldable pub instance_after : Value → Step H Value
  instance_after r = do
    n ← half_pointer r
    class ← class_of m r
    v ← next_instance m class n
    or_die dead.Kind v

  -- 78: of the kept instances of r's class with greater pointers than r the one with the least
  unfoldable pub primitive_next_instance : Step H Bool
  primitive_next_instance = of_receiver m instance_after (λ r. answer)

  unfoldable pub method_shape : Value → Value → Value → Step H MethodShape
  method_shape r a b = do
    methods ← of_page m MethodClass
    check dead.Kind (same_value r methods)
    bytes ← positive_small a
    header ← bits_or_die b
    check dead.Field (nat_le (method_words (literal_count (Small header)) bytes) 65533)
    answer (record { header = header; bytes = bytes })

  -- Its bytes are 0, and its literals nil. Its header counts as many literals as the new one, which is asked since a bounded
  -- memory without room answers nil: an image may have any object there.
  unfoldable pub new_method : Value → MethodShape → Step H Value
  new_method r s = do
    method ← make m r kind.Method (2 * literal_count (Small s.header) + 2 + s.bytes) (literal_count (Small s.header))
    check_header method (Small s.header)
    store_method_field m method 0 (Small s.header)
    answer method

  -- 79: a new Method with the header b and a bytes
  unfoldable pub primitive_new_method : Step H Bool
  primitive_new_method = of_two m method_shape (λ r a b s. new_method r s)

  unfoldable pub checked_replacing : Value → Value → Replacing → Step H Replacing
  checked_replacing r c p = do
    check dead.Field (nat_le 1 p.first)
    check dead.Field (nat_le 1 p.from)
    check dead.Field (nat_le p.first (p.last + 1))
    n ← fetch_size m r
    check dead.Field (nat_le p.last n)
    k ← fetch_size m c
    check dead.Field (nat_le (p.from + p.last) (k + p.first))
    answer p

  unfoldable pub replacing : Value → Value → Value → Value → Value → Step H Replacing
  replacing r a b c d = do
    check_bytes m r
    check_bytes m c
    first ← positive_small a
    last ← positive_small b
    from ← positive_small d
    checked_replacing r c (record { first = first; last = last; from = from })

  -- the bytes are as they were before any is stored
  unfoldable pub replace_and_answer : Value → Value → Replacing → Step H Value
  replace_and_answer r c p = do
    bytes ← fetch_bytes m c (p.from - 1) (p.last + 1 - p.first)
    store_bytes m r (p.first - 1) bytes
    answer r

  -- 105: bytes a to b of r become those of c from d on
  unfoldable pub primitive_replace : Step H Bool
  primitive_replace = do
    r ← under m 4
    a ← under m 3
    b ← under m 2
    c ← under m 1
    d ← top m
    primitive m 4 (replacing r a b c d) (λ p. replace_and_answer r c p)

  -- 112: how many words are free before the number is made, which are those that are free as the bytecode begins
  unfoldable pub primitive_core_left : Step H Bool
  primitive_core_left = primitive m 0 (get_free m) (λ free. number m free.words)

  -- 115: how many entries are free then
  unfoldable pub primitive_oops_left : Step H Bool
  primitive_oops_left = primitive m 0 (get_free m) (λ free. number m free.entries)

  -- 128: the bytes of r are to be said
  unfoldable pub primitive_say : Value → Step H Bool
  primitive_say r = primitive m 0 (check_bytes m r) (λ u. answer r)

  -- the primitives of this file that only go on
  unfoldable pub storage : StoragePrimitive → Step H Bool
  storage named.At = primitive_at
  storage named.AtPut = primitive_at_put
  storage named.Size = primitive_size
  storage named.StringAt = primitive_string_at
  storage named.StringAtPut = primitive_string_at_put
  storage named.Next = primitive_next
  storage named.NextPut = primitive_next_put
  storage named.AtEnd = primitive_at_end
  storage named.ObjectAt = primitive_object_at
  storage named.ObjectAtPut = primitive_object_at_put
  storage named.New = primitive_new
  storage named.NewWith = primitive_new_with
  storage named.Become = primitive_become
  storage named.InstanceVariableAt = primitive_instance_variable_at
  storage named.InstanceVariableAtPut = primitive_instance_variable_at_put
  storage named.AsOop = primitive_as_oop
  storage named.AsObject = primitive_as_object
  storage named.SomeInstance = primitive_some_instance
  storage named.NextInstance = primitive_next_instance
  storage named.NewMethod = primitive_new_method
  storage named.CopyBits = primitive_copy_bits m
  storage named.Replace = primitive_replace
  storage named.CoreLeft = primitive_core_left
  storage named.OopsLeft = primitive_oops_left
