-- Of the parts of every method without faults a method is read that has these parts.
use Rattle.std.proofs.Common.{◌≡◌, ℕ, zero, suc, ◌+◌, ◌-◌, ◌*◌, ◌/◌, ◌%◌, ◌<◌, ◌≤◌, ◌==◌, Bool, true, false, not, ◌&&◌, ◌||◌, List, [], ◌∷◌, ◌++◌, length, Option, Some, None, refl, sym, ap, ap₂, ◌∙◌, arith, ne_eqb}
use Rattle.std.proofs.lemmas.Bool.Decides.{nat_tests}
use Rattle.std.specs.Prelude.{if◌then◌else◌, nat_lt, nat_le, is_some, Ok, slice_get}
use Rattle.st_scan.specs.declared.token.Signed.{Signed}
use Rattle.st_scan.specs.Views.{MethodView}
use Rattle.st_emit.specs.Bounds.{most_literals, small_room}
use Rattle.st_emit.specs.declared.instruction.InstructionOperand.{InstructionOperand}
use Rattle.st_emit.specs.declared.instruction.Instruction.{Instruction}
use Rattle.st_emit.specs.Names.{NamesView}
use Rattle.st_emit.specs.Literals.{LiteralView, number, owner}
use Rattle.st_emit.specs.Nodes.{Body}
use Rattle.st_emit.specs.Steps.{all_bytes, sends_super}
use Rattle.st_emit.specs.Resolving.{names_in_statements}
use Rattle.st_code.specs.declared.fault.Cause.TheVariants.{Literals}
use Rattle.st_code.specs.declared.simple.Simple.{Simple}
use Rattle.st_code.specs.declared.simple.Simple.TheVariants.{Itself, ItsField}
use Rattle.st_code.specs.Faults.{method_fault}
use Rattle.st_code.specs.Methods.{simple, simple_flag, flag, returned_field, own_variables, variables, body, steps, depth, literals, header, header_count, room_bit, passes, parts, fault, whole_fault, code, symbols_fault, primitive_fault, primitive_number, is_primitive, fault_if}
use Rattle.st_resolved.specs.Instructions.{on_some, steps_of, AllFit}
use Rattle.st_resolved.proofs.Decoding.{steps_back, below}
use Rattle.st_resolved.proofs.Unnumbered.{or_none}
use Rattle.st_emit.specs.Selectors.{arity}
use Rattle.st_resolved.specs.inside.Right.{RightStatements}
use Rattle.st_resolved.proofs.Wholes.{placed, fit, not_more}
use Rattle.st_expression_stack.specs.Items.{Item, no_arguments, most_high, statements_of}
use Rattle.st_decompile.specs.Reading.{region}
use Rattle.st_decompile.specs.Back.{body_high, method_least}
use Rattle.st_decompile.specs.inside.Calling.{AreNames, least_in}
use Rattle.st_decompile.specs.Whole.{size_in, variables_in, own_in, extension_in, primitive_by, primitive_in, variables_called, method_of, candidate}
use Rattle.st_decompile.proofs.Pieces.{method_items, method_taken}
use Rattle.st_decompile.proofs.Nodes.{method_read}
use Rattle.st_decompile.proofs.Alike.{region_same}
use Rattle.st_decompile.proofs.Wholes.{tree_again, few, back, no_fault_if}
use Rattle.st_decompile.proofs.Final.{same_code}
use Rattle.std.proofs.lemmas.Bool.{and_parts}

-- HEADERS

abbrev six : ℕ
six = 6

abbrev seven : ℕ
seven = 7

header_parts : (f c r n h : ℕ) → h ≡ f * 8192 + c * 256 + r + n * 2 + 1 → c ≤ 31 → r ≤ 128 → n ≤ 63 → (h / 8192 ≡ f) × (h / 256 % 32 ≡ c)
header_parts f c r n h e i j k =
    let q : h / 8192 ≡ f = omega (arith, e, i, j, k) in
    let t : h / 256 ≡ f * 32 + c = omega (arith, e, i, j, k) in
    let u : h / 256 % 32 ≡ c = omega (arith, t, i) in
    (q, u)

room_few : (b : Bool) → (if b then 128 else 0) ≤ 128
room_few true = omega arith
room_few false = omega arith

equal : (a b : ℕ) → (a == b) ≡ true → a ≡ b
equal a b e = grind (arith, nat_tests)

-- with flag 6 a field's number stands in place of the variables
field_few : (s : Option Simple) → simple_flag s ≡ six → returned_field s ≤ 31
field_few None e = omega arith
field_few (Some Itself) e = omega arith
field_few (Some (ItsField n)) e = by_test (nat_lt n 32) refl e
  where
    by_test : (b : Bool) → nat_lt n 32 ≡ b → (if b then 6 else 0) ≡ six → n ≤ 31
    by_test true t h = let low = below n 32 t in omega (arith, low)
    by_test false t h = absurd (omega (arith, h))

-- and there are no variables
record IsSix (a t : ℕ) (s : Option Simple) : Type 0 where
  no_arguments' : a ≡ 0
  no_temporaries : t ≡ 0
  simple' : simple_flag s ≡ six

six_is : (p : Bool) (a t : ℕ) (s : Option Simple) → (if p || nat_lt 4 a then 7 else (if not (a == 0 && t == 0) then a else simple_flag s)) ≡ six → IsSix a t s
six_is true a t s e = absurd (omega (arith, e))
six_is false a t s e = by_many (nat_lt 4 a) refl e
  where
    by_none : (x y : Bool) → (a == 0) ≡ x → (t == 0) ≡ y → nat_lt 4 a ≡ false → (if not (x && y) then a else simple_flag s) ≡ six → IsSix a t s
    by_none true true i j m h = record { no_arguments' = equal a 0 i; no_temporaries = equal t 0 j; simple' = h }
    by_none true false i j m h = absurd (let z = equal a 0 i in omega (arith, z, h))
    by_none false y i j m h = absurd (let few : a ≤ 4 = grind (arith, nat_tests, m) in omega (arith, few, h))

    by_many : (b : Bool) → nat_lt 4 a ≡ b → (if b then 7 else (if not (a == 0 && t == 0) then a else simple_flag s)) ≡ six → IsSix a t s
    by_many true m h = absurd (omega (arith, h))
    by_many false m h = by_none (a == 0) (t == 0) refl refl m h

seven_not : (p : Bool) (a t : ℕ) (s : Option Simple) → (if p || nat_lt 4 a then 7 else (if not (a == 0 && t == 0) then a else simple_flag s)) == 7 ≡ false → p ≡ false
seven_not true a t s e = absurd cc
seven_not false a t s e = refl

-- PRIMITIVES

get_behind : (ls : List LiteralView) (x : LiteralView) (more : List LiteralView) → slice_get (ls ++ x ∷ more) (length ls) ≡ Some x
get_behind [] x more = refl
get_behind (l ∷ ls) x more = get_behind ls x more

length_behind : (ls : List LiteralView) (x y : LiteralView) → length (ls ++ x ∷ y ∷ []) ≡ length ls + 2
length_behind [] x y = refl
length_behind (l ∷ ls) x y = omega (arith, length_behind ls x y)

extension_behind : (ls : List LiteralView) (n : Signed) → extension_in (ls ++ number n ∷ owner ∷ []) ≡ n.size
extension_behind ls n =
    let less : length (ls ++ number n ∷ owner ∷ []) - 2 ≡ length ls = omega (arith, length_behind ls (number n) owner) in
    ap (λ (k : ℕ). size_in (slice_get (ls ++ number n ∷ owner ∷ []) k)) less ∙ ap size_in (get_behind ls (number n) (owner ∷ []))

primitive_back : (p : Option Signed) (a : ℕ) → is_primitive p ≡ true → primitive_by ((a * 256 + primitive_number p) % 256) ≡ p
primitive_back None a h = let none : (a * 256 + 0) % 256 ≡ 0 = omega arith in ap primitive_by none
primitive_back (Some n) a h = by_parts n.minus refl h
  where
    by_parts : (m : Bool) → n.minus ≡ m → ((not m && nat_le 1 n.size) && nat_le n.size 255) ≡ true → primitive_by ((a * 256 + n.size) % 256) ≡ Some n
    by_parts true e i = absurd cc
    by_parts false e i =
        let parts = and_parts (nat_le 1 n.size) (nat_le n.size 255) i in
        let low : 1 ≤ n.size = grind (arith, nat_tests, parts.0) in
        let high : n.size ≤ 255 = grind (arith, nat_tests, parts.1) in
        let rest : (a * 256 + n.size) % 256 ≡ n.size = omega (arith, high) in
        let some : n.size == 0 ≡ false = ne_eqb n.size 0 (λ z. absurd (omega (arith, z, low))) in
        ap primitive_by rest ∙ ap (λ (b : Bool). if b then None else Some (record { minus = false; size = n.size })) some
        ∙ ap (λ (m : Bool). Some (record { minus = m; size = n.size })) (sym e)

-- METHODS

-- the variables of the method itself
own_back : (variables own count least six' : ℕ) (b : Bool) → (six' == 6) ≡ b → (b ≡ true → own ≡ 0) → variables ≡ own + count → own ≤ 31 → least ≡ least_in count own
    → own_in (if six' == 6 then 0 else variables) least ≡ own
own_back variables own zero least k true e z v h l =
    ap (λ (x : ℕ). own_in (if k == 6 then 0 else variables) x) l ∙ ap (λ (b : Bool). if b then 0 else variables) e ∙ sym (z refl)
own_back variables own zero least k false e z v h l =
    let same : variables ≡ own = omega (arith, v) in
    ap (λ (x : ℕ). own_in (if k == 6 then 0 else variables) x) l ∙ ap (λ (b : Bool). if b then 0 else variables) e ∙ same
own_back variables own (suc count) least k b e z v h l =
    let other : own == 64 ≡ false = ne_eqb own 64 (λ i. absurd (omega (arith, i, h))) in
    ap (λ (x : ℕ). own_in (if k == 6 then 0 else variables) x) l ∙ ap (λ (c : Bool). if c then (if k == 6 then 0 else variables) else own) other

module _ (name_of : InstructionOperand → List ℕ) (names : NamesView) (tree : MethodView) (are : AreNames name_of names (literals tree names)) (sound : fault tree names ≡ None)
    (right : RightStatements tree.body) (counted : arity tree.selector ≡ length tree.arguments) (low : body_high (body tree names).part 0 ≤ most_high) where
  abbrev b : Body
  b = (body tree names).part

  faults : whole_fault tree names ≡ None
  faults = (or_none (method_fault names tree) (whole_fault tree names) sound).1

  bounds : (primitive_fault tree.primitive ≡ None) × (length (literals tree names) ≤ 63)
  bounds =
      let f1 = (or_none (symbols_fault names.symbols) _ faults).1 in
      let f2 = or_none (primitive_fault tree.primitive) _ f1 in
      let f3 = or_none (fault_if (nat_lt most_literals (length (literals tree names))) Literals) _ f2.1 in
      (f2.0, not_more most_literals (length (literals tree names)) (no_fault_if (nat_lt most_literals (length (literals tree names))) Literals f3.0))

  abbrev own_count : ℕ
  own_count = own_variables tree names

  few_own : own_count ≤ 31
  few_own = omega (arith, few name_of names tree are sound)

  -- its instructions
  fits : AllFit (steps tree names)
  fits = fit names tree sound right

  -- what they are read as
  read : on_some (steps_of (all_bytes (steps tree names))) (λ ss. region name_of (literals tree names) (suc most_high) 0 ss) ≡ Some (method_items name_of b 0 [])
  read =
      ap (λ (o : Option (List Instruction)). on_some o (λ ss. region name_of (literals tree names) (suc most_high) 0 ss)) (steps_back (steps tree names) fits)
      ∙ region_same name_of (literals tree names) (suc most_high) 0 (steps tree names)
      ∙ method_read name_of (literals tree names) b most_high (placed names tree sound right) (low, omega arith)

  -- HEADER

  flag_few : flag tree names ≤ 7
  flag_few = by_parts (is_some tree.primitive) (nat_lt 4 (length tree.arguments)) refl (not (length tree.arguments == 0 && length tree.temporaries == 0)) (simple b)
    where
      simple_few : (s : Option Simple) → simple_flag s ≤ 7
      simple_few None = omega arith
      simple_few (Some Itself) = omega arith
      simple_few (Some (ItsField n)) = by_test (nat_lt n 32)
        where
          by_test : (t : Bool) → (if t then 6 else 0) ≤ 7
          by_test true = omega arith
          by_test false = omega arith

      by_parts : (p m : Bool) → nat_lt 4 (length tree.arguments) ≡ m → (v : Bool) (s : Option Simple) → (if p || m then 7 else (if v then length tree.arguments else simple_flag s)) ≤ 7
      by_parts true m e v s = omega arith
      by_parts false true e v s = omega arith
      by_parts false false e true s = let few : length tree.arguments ≤ 4 = grind (arith, nat_tests, e) in omega (arith, few)
      by_parts false false e false s = simple_few s

  count_few : header_count tree names ≤ 31
  count_few = by_six (flag tree names == 6) refl
    where
      by_six : (t : Bool) → (flag tree names == 6) ≡ t → (if t then returned_field (simple b) else variables tree names) ≤ 31
      by_six true e = field_few (simple b) (six_is (is_some tree.primitive) (length tree.arguments) (length tree.temporaries) (simple b) (equal (flag tree names) 6 e)).simple'
      by_six false e = few name_of names tree are sound

  header_read : (header tree names / 8192 ≡ flag tree names) × (header tree names / 256 % 32 ≡ header_count tree names)
  header_read =
      header_parts (flag tree names) (header_count tree names) (room_bit (variables tree names) (depth tree names)) (length (literals tree names)) (header tree names) refl count_few
      (room_few (passes small_room (variables tree names) (depth tree names))) bounds.1

  no_own : (flag tree names == 6) ≡ true → own_count ≡ 0
  no_own e =
      let z = six_is (is_some tree.primitive) (length tree.arguments) (length tree.temporaries) (simple b) (equal (flag tree names) 6 e) in
      omega (arith, z.no_arguments', z.no_temporaries)

  -- with another flag the count is that of all variables
  variables_read : variables_in (header tree names) ≡ (if flag tree names == 6 then 0 else variables tree names)
  variables_read =
      ap₂ (λ (f c : ℕ). if f == 6 then 0 else c) header_read.0 header_read.1 ∙ by_six (flag tree names == 6)
    where
      by_six : (t : Bool) → (if t then 0 else (if t then returned_field (simple b) else variables tree names)) ≡ (if t then 0 else variables tree names)
      by_six true = refl
      by_six false = refl

  own_read : own_in (variables_in (header tree names)) (method_least b no_arguments) ≡ own_count
  own_read =
      ap (λ (v : ℕ). own_in v (method_least b no_arguments)) variables_read
      ∙ own_back (variables tree names) own_count (names_in_statements tree.body) (method_least b no_arguments) (flag tree names) (flag tree names == 6) refl no_own refl few_own (back name_of names tree are sound).lowest

  primitive_read : primitive_in (parts tree names) ≡ tree.primitive
  primitive_read = ap (λ (f : ℕ). if f == 7 then primitive_by (extension_in (literals tree names) % 256) else None) header_read.0 ∙ by_seven (flag tree names == 7) refl
    where
      sure : is_primitive tree.primitive ≡ true
      sure = not_false (is_primitive tree.primitive) (no_fault_if (not (is_primitive tree.primitive)) _ bounds.0)
        where
          not_false : (a : Bool) → not a ≡ false → a ≡ true
          not_false true h = refl
          not_false false h = absurd cc

      none_of : (p : Option Signed) → is_some p ≡ false → None ≡ p
      none_of None h = refl
      none_of (Some n) h = absurd cc

      by_seven : (t : Bool) → (flag tree names == 7) ≡ t → (if t then primitive_by (extension_in (literals tree names) % 256) else None) ≡ tree.primitive
      by_seven true e =
          let same : literals tree names ≡ (body tree names).literals ++ number (record { minus = false; size = length tree.arguments * 256 + primitive_number tree.primitive }) ∷ owner ∷ [] =
          ap (λ (t : Bool). (body tree names).literals ++ (if t then number (record { minus = false; size = length tree.arguments * 256 + primitive_number tree.primitive }) ∷ owner ∷ [] else (if sends_super (steps tree names) then owner ∷ [] else []))) e in
          ap (λ (ls : List LiteralView). primitive_by (extension_in ls % 256)) same
          ∙ ap (λ (k : ℕ). primitive_by (k % 256)) (extension_behind (body tree names).literals (record { minus = false; size = length tree.arguments * 256 + primitive_number tree.primitive }))
          ∙ primitive_back tree.primitive (length tree.arguments) sure
      by_seven false e = none_of tree.primitive (seven_not (is_some tree.primitive) (length tree.arguments) (length tree.temporaries) (simple b) e)

  -- THE CANDIDATE

  method_read_is : method_of name_of (parts tree names) (statements_of (method_items name_of b 0 [])) ≡ tree_again name_of names tree are
  method_read_is =
      ap (method_of name_of (parts tree names)) (method_taken name_of b)
      ∙ ap (λ (n : ℕ). record { selector = tree.selector; arguments = variables_called name_of 0 n; temporaries = variables_called name_of n (own_in (variables_in (header tree names)) (method_least b no_arguments) - n); primitive = primitive_in (parts tree names); body = (tree_again name_of names tree are).body }) counted
      ∙ ap₂ (λ (v : ℕ) (p : Option Signed). record { selector = tree.selector; arguments = variables_called name_of 0 (length tree.arguments); temporaries = variables_called name_of (length tree.arguments) (v - length tree.arguments); primitive = p; body = (tree_again name_of names tree are).body }) own_read primitive_read
      ∙ ap (λ (m : ℕ). record { selector = tree.selector; arguments = variables_called name_of 0 (length tree.arguments); temporaries = variables_called name_of (length tree.arguments) m; primitive = tree.primitive; body = (tree_again name_of names tree are).body }) rest
    where
      rest : own_count - length tree.arguments ≡ length tree.temporaries
      rest = omega arith

  -- a method is read of the parts
  pub candidate_is : candidate name_of (parts tree names) ≡ Some (tree_again name_of names tree are)
  candidate_is = split (steps_of (all_bytes (steps tree names))) read
    where
      split : (o : Option (List Instruction)) → on_some o (λ ss. region name_of (literals tree names) (suc most_high) 0 ss) ≡ Some (method_items name_of b 0 [])
          → on_some o (λ ss. on_some (region name_of (literals tree names) (suc most_high) 0 ss) (λ items. Some (method_of name_of (parts tree names) (statements_of items)))) ≡ Some (tree_again name_of names tree are)
      split None h = absurd cc
      split (Some ss) h =
          ap (λ (o : Option (List Item)). on_some o (λ items. Some (method_of name_of (parts tree names) (statements_of items)))) h ∙ ap (λ (m : MethodView). Some m) method_read_is

  -- and its code is these parts
  pub candidate_code : code (tree_again name_of names tree are) names ≡ Ok (parts tree names)
  candidate_code = same_code name_of names tree are sound
