-- The header of a compiled method is a word, and counts its literals.
use Rattle.std.proofs.Common.{◌≡◌, ◌∙◌, ℕ, ◌+◌, ◌*◌, ◌/◌, ◌%◌, ◌<◌, ◌≤◌, length, Bool, true, false, Option, Some, None, Ok, refl, subst, arith}
use Rattle.std.specs.Prelude.{◌==◌, nat_lt, ◌||◌, is_some, if◌then◌else◌}
use Rattle.std.proofs.lemmas.Bool.Decides.{nat_tests}
use Rattle.st_model.specs.Values.{value_of}
use Rattle.st_model.specs.Formed.{literals_of}
use Rattle.st_model.proofs.Words.{literals_of-value_of}
use Rattle.st_scan.specs.Views.{MethodView}
use Rattle.st_emit.specs.Bounds.{small_room, most_bytes}
use Rattle.st_emit.specs.Steps.{size}
use Rattle.st_emit.specs.Names.{NamesView, or_else}
use Rattle.st_code.specs.declared.fault.Fault.{Fault}
use Rattle.st_code.specs.declared.fault.Cause.{Cause}
use Rattle.st_code.specs.declared.simple.Simple.{Simple}
use Rattle.st_code.specs.declared.simple.Simple.TheVariants.{Itself, ItsField}
use Rattle.st_code.specs.Methods.{PartsView, passes, simple, simple_flag, has_variables, flag_of, returned_field, count_of, fault_if, symbols_fault, primitive_fault, bounds_fault, variables, depth, steps, body, flag, header_count, literals, header, parts, parts_or, whole_fault, fault, code}
use Rattle.st_code.specs.Faults.{method_fault}
use Rattle.st_install.specs.inside.Goes.{IsHeaded}
use Rattle.st_install.proofs.SameHeaders.{code_header}
use Rattle.st_grammar.proofs.Readers.{or_right}

-- NO FAULT

none_of : (x y : Option Fault) → or_else x y ≡ None → (x ≡ None) × (y ≡ None)
none_of None y e = (refl, e)
none_of (Some f) y e = cc

not_wrong : (wrong : Bool) (cause : Cause) → fault_if wrong cause ≡ None → wrong ≡ false
not_wrong true cause e = cc
not_wrong false cause e = refl

at_most : (n m : ℕ) → nat_lt n m ≡ false → m ≤ n
at_most n m e = grind (arith, nat_tests)

-- FLAG

-- a flag has three bits, and one of 6 stands beside a field's number of five
record IsFlag (f : ℕ) (s : Option Simple) : Type 0 where
  most : f ≤ 7
  field : f ≡ 6 → returned_field s ≤ 31

field_by : (b : Bool) (n : ℕ) → (b ≡ true → n ≤ 31) → IsFlag (if b then 6 else 0) (Some (ItsField n))
field_by true n h = record { most = omega arith; field = λ e. h refl }
field_by false n h = record { most = omega arith; field = λ e. absurd (omega (arith, e)) }

below : (n m : ℕ) → nat_lt n m ≡ true → n < m
below n m e = grind (arith, nat_tests)

simple_by : (s : Option Simple) → IsFlag (simple_flag s) s
simple_by None = record { most = omega arith; field = λ e. absurd (omega (arith, e)) }
simple_by (Some Itself) = record { most = omega arith; field = λ e. absurd (omega (arith, e)) }
simple_by (Some (ItsField n)) = field_by (nat_lt n 32) n (λ e. let h = below n 32 e in omega (arith, h))

flag_by : (b has : Bool) (k : ℕ) (s : Option Simple) → (b ≡ false → k ≤ 4) → IsFlag (if b then 7 else (if has then k else simple_flag s)) s
flag_by true has k s h = record { most = omega arith; field = λ e. absurd (omega (arith, e)) }
flag_by false true k s h = let few = h refl in record { most = omega (arith, few); field = λ e. absurd (omega (arith, few, e)) }
flag_by false false k s h = simple_by s

flag_is : (m : MethodView) (s : Option Simple) → IsFlag (flag_of m s) s
flag_is m s = flag_by (is_some m.primitive || nat_lt 4 (length m.arguments)) (has_variables m) (length m.arguments) s (λ e. at_most 4 (length m.arguments) (or_right (is_some m.primitive) (nat_lt 4 (length m.arguments)) e))

-- COUNT

count_by : (b : Bool) (r v : ℕ) → (b ≡ true → r ≤ 31) → v ≤ 31 → (if b then r else v) ≤ 31
count_by true r v h few = h refl
count_by false r v h few = few

six : (f : ℕ) → (f == 6) ≡ true → f ≡ 6
six f e = grind (arith, nat_tests)

count_is : (f : ℕ) (s : Option Simple) (v : ℕ) → IsFlag f s → v ≤ 31 → count_of f s v ≤ 31
count_is f s v h few = count_by (f == 6) (returned_field s) v (λ e. h.field (six f e)) few

-- HEADER

-- with the bit for a large context, or without it
word_by : (b : Bool) (f c l : ℕ) → f ≤ 7 → c ≤ 31 → l ≤ 63 → f * 8192 + c * 256 + (if b then 128 else 0) + l * 2 + 1 < 65536
word_by true f c l x y z = omega (arith, x, y, z)
word_by false f c l x y z = omega (arith, x, y, z)

count_in : (b : Bool) (f c l : ℕ) → l ≤ 63 → (f * 8192 + c * 256 + (if b then 128 else 0) + l * 2 + 1) / 2 % 64 ≡ l
count_in true f c l few = omega (arith, few)
count_in false f c l few = omega (arith, few)

module _ (tree : MethodView) (names : NamesView) where
  pub record IsBounded : Type 0 where
    pub literals_few : length (literals tree names) ≤ 63
    pub variables_few : variables tree names ≤ 31
    pub bytes_few : length (literals tree names) * 2 + 2 + size (steps tree names) ≤ most_bytes

  bounded : fault tree names ≡ None → IsBounded
  bounded none =
      let whole = (none_of (method_fault names tree) (whole_fault tree names) none).1 in
      let more = (none_of (symbols_fault names.symbols) (or_else (primitive_fault tree.primitive) (bounds_fault (length (literals tree names)) (variables tree names) (depth tree names) (steps tree names))) whole).1 in
      let bounds = (none_of (primitive_fault tree.primitive) (bounds_fault (length (literals tree names)) (variables tree names) (depth tree names) (steps tree names)) more).1 in
      let first = none_of _ _ bounds in
      let second = none_of _ _ first.1 in
      let last = none_of _ _ (none_of _ _ second.1).1 in
      record {
        literals_few = at_most 63 (length (literals tree names)) (not_wrong _ _ first.0);
        variables_few = at_most 31 (variables tree names) (not_wrong _ _ second.0);
        bytes_few = at_most most_bytes (length (literals tree names) * 2 + 2 + size (steps tree names)) (not_wrong _ _ last.1);
      }

  headed : (p : PartsView) → code tree names ≡ Ok p → IsBounded → parts tree names ≡ p → IsHeaded p
  headed p coded h same =
      let s = simple (body tree names).part in
      let flags = flag_is tree s in
      let room = passes small_room (variables tree names) (depth tree names) in
      let counts = count_is (flag tree names) s (variables tree names) flags h.variables_few in
      record {
        small = code_header tree names p coded;
        word = subst (λ (q : PartsView). q.header < 65536) same (word_by room (flag tree names) (header_count tree names) (length (literals tree names)) flags.most counts h.literals_few);
        count = subst (λ (q : PartsView). literals_of (value_of q.header) ≡ length q.literals) same
            (literals_of-value_of (header tree names) ∙ count_in room (flag tree names) (header_count tree names) (length (literals tree names)) h.literals_few);
      }

  by_fault : (p : PartsView) (f : Option Fault) → fault tree names ≡ f → parts_or tree names f ≡ Ok p → IsBounded × (parts tree names ≡ p)
  by_fault p None none e = (bounded none, cc)
  by_fault p (Some g) none e = cc

  -- the code has the parts, in their bounds
  pub code_bounded : (p : PartsView) → code tree names ≡ Ok p → IsBounded × (parts tree names ≡ p)
  code_bounded p coded = by_fault p (fault tree names) refl coded

  pub code_headed : (p : PartsView) → code tree names ≡ Ok p → IsHeaded p
  code_headed p coded = let b = code_bounded p coded in headed p coded b.0 b.1
