-- The method that is read of a method's code has the same parts.
use Rattle.std.proofs.Common.{◌≡◌, ℕ, ◌+◌, ◌*◌, ◌≤◌, ◌==◌, Bool, true, false, not, ◌&&◌, ◌||◌, List, [], ◌∷◌, ◌++◌, length, Option, None, refl, sym, ap, ap₂, ◌∙◌, arith}
use Rattle.std.specs.Prelude.{if◌then◌else◌, nat_lt, is_some, Ok}
use Rattle.st_scan.specs.Views.{NameView, MethodView}
use Rattle.st_emit.specs.Bounds.{most_literals, most_variables, most_flagged, most_bytes, small_room, large_room}
use Rattle.st_emit.specs.declared.instruction.InstructionOperand.{InstructionOperand}
use Rattle.st_emit.specs.declared.instruction.Instruction.{Instruction}
use Rattle.st_emit.specs.Names.{NamesView, Scope, numbered, declared, or_else}
use Rattle.st_emit.specs.Literals.{LiteralView, Named, number, owner}
use Rattle.st_emit.specs.Nodes.{Body}
use Rattle.st_emit.specs.Steps.{all_bytes, all_reach, sends_super, size}
use Rattle.st_emit.specs.Emitting.{method_code}
use Rattle.st_emit.specs.Depths.{empty, method_level}
use Rattle.st_emit.specs.Resolving.{Context, names_in_statements, statements_body}
use Rattle.st_code.specs.declared.fault.Fault.{Fault}
use Rattle.st_code.specs.declared.fault.Cause.TheVariants.{Literals, Temporaries, Depth, Jump, Size}
use Rattle.st_code.specs.declared.simple.Simple.{Simple}
use Rattle.st_code.specs.Faults.{method_fault}
use Rattle.st_code.specs.Methods.{PartsView, simple, scope_from, own_variables, variables, context, body, steps, depth, flag, flag_of, last_of, literals, header, parts, whole_fault, fault, room_bit, count_of, code, parts_or, symbols_fault, primitive_fault, fault_if, simple_flag, primitive_number, passes, header_count}
use Rattle.st_code.specs.inside.Simple.{simple_by}
use Rattle.st_code.proofs.ShortCode.{simple_by_nodes}
use Rattle.st_resolved.proofs.Unnumbered.{or_none}
use Rattle.st_resolved.proofs.Wholes.{few_variables, body_fault, same_scopes}
use Rattle.st_decompile.specs.inside.Calling.{renamed, AreNames}
use Rattle.st_decompile.proofs.Renamed.{renamed-append}
use Rattle.st_decompile.proofs.Backs.{again_at}
use Rattle.st_decompile.proofs.Blocks.{names_of, names_length, names_numbered}
use Rattle.st_decompile.proofs.Bodies.{method_is, method_back, MethodBack}

pub no_fault_if : (b : Bool) (x : _) → fault_if b x ≡ None → b ≡ false
no_fault_if true x e = absurd cc
no_fault_if false x e = refl

module _ (name_of : InstructionOperand → List ℕ) (names : NamesView) (tree : MethodView) (are : AreNames name_of names (literals tree names)) where
  abbrev was : Named Body
  was = body tree names

  abbrev called_names : ℕ → ℕ → List NameView
  called_names = names_of name_of names (literals tree names) are

  -- what is read of the method's code
  abbrev pub tree_again : MethodView
  tree_again = record {
    selector = tree.selector;
    arguments = called_names 0 (length tree.arguments);
    temporaries = called_names (length tree.arguments) (length tree.temporaries);
    primitive = tree.primitive;
    body = method_back name_of names (literals tree names) are was.part;
  }

  pub arguments_length : length tree_again.arguments ≡ length tree.arguments
  arguments_length = names_length name_of names (literals tree names) are 0 (length tree.arguments)

  pub temporaries_length : length tree_again.temporaries ≡ length tree.temporaries
  temporaries_length = names_length name_of names (literals tree names) are (length tree.arguments) (length tree.temporaries)

  pub scope_again : scope_from (length tree.arguments) tree_again ≡ renamed name_of (scope_from (length tree.arguments) tree)
  scope_again =
      ap₂ (λ (a b : Scope). a ++ b) (names_numbered name_of names (literals tree names) are false 0 tree.arguments) (names_numbered name_of names (literals tree names) are true (length tree.arguments) tree.temporaries)
      ∙ sym (renamed-append name_of names (literals tree names) are (numbered false 0 tree.arguments) (numbered true (length tree.arguments) tree.temporaries))

  context_again : context tree_again names ≡ again_at name_of names (literals tree names) (scope_from (length tree.arguments) tree) (own_variables tree names)
  context_again =
      ap₂ (λ (a t : ℕ). record { names = names; scope = scope_from a tree_again; next = a + t }) arguments_length temporaries_length
      ∙ ap (λ (s : Scope). record { names = names; scope = s; next = length tree.arguments + length tree.temporaries }) scope_again

  module _ (sound : fault tree names ≡ None) where
    faults : (method_fault names tree ≡ None) × (whole_fault tree names ≡ None)
    faults = or_none (method_fault names tree) (whole_fault tree names) sound

    pub few : variables tree names ≤ 31
    few = few_variables names tree sound

    pub back : MethodBack name_of names (literals tree names) are was (names_in_statements tree.body) (own_variables tree names) (again_at name_of names (literals tree names) (scope_from (length tree.arguments) tree) (own_variables tree names)) []
    back =
        method_is name_of names (literals tree names) are tree.body (declared true 0 tree.temporaries (declared false 0 tree.arguments [])) (scope_from (length tree.arguments) tree) (own_variables tree names) []
        (same_scopes names tree sound) (body_fault names tree sound) (omega (arith, few)) (record { more = last_of tree (flag tree names) (steps tree names); is = refl })

    body_again : body tree_again names ≡ statements_body tree_again.body (again_at name_of names (literals tree names) (scope_from (length tree.arguments) tree) (own_variables tree names)) []
    body_again = ap (λ (c : Context). statements_body tree_again.body c []) context_again

    pub steps_again : steps tree_again names ≡ steps tree names
    steps_again = ap (λ (b : Named Body). method_code b.part) body_again ∙ back.same.code

    body_literals : (body tree_again names).literals ≡ was.literals
    body_literals = ap (λ (b : Named Body). b.literals) body_again ∙ back.ends

    simple_again : simple (body tree_again names).part ≡ simple was.part
    simple_again = sym (simple_by_nodes (body tree_again names).part) ∙ ap simple_by steps_again ∙ simple_by_nodes was.part

    flag_again : flag tree_again names ≡ flag tree names
    flag_again =
        ap₂ (λ (a t : ℕ). if is_some tree.primitive || nat_lt most_flagged a then 7 else (if not (a == 0 && t == 0) then a else simple_flag (simple (body tree_again names).part))) arguments_length temporaries_length
        ∙ ap (flag_of tree) simple_again

    variables_again : variables tree_again names ≡ variables tree names
    variables_again = omega (arith, arguments_length, temporaries_length, back.counted)

    last_again : last_of tree_again (flag tree_again names) (steps tree_again names) ≡ last_of tree (flag tree names) (steps tree names)
    last_again =
        ap₂ (λ (f : ℕ) (ss : List Instruction). last_of tree_again f ss) flag_again steps_again
        ∙ ap (λ (a : ℕ). if flag tree names == 7 then number (record { minus = false; size = a * 256 + primitive_number tree.primitive }) ∷ owner ∷ [] else (if sends_super (steps tree names) then owner ∷ [] else [])) arguments_length

    pub literals_again : literals tree_again names ≡ literals tree names
    literals_again = ap₂ (λ (a b : List LiteralView). a ++ b) body_literals last_again

    greatest_again : (depth tree_again names).greatest ≡ (depth tree names).greatest
    greatest_again = ap (λ (b : Named Body). (method_level b.part empty).greatest) body_again ∙ back.same.greatest empty

    blocks_again : (depth tree_again names).blocks ≡ (depth tree names).blocks
    blocks_again = ap (λ (b : Named Body). (method_level b.part empty).blocks) body_again ∙ back.same.blocks empty

    -- of a depth only these count
    passes_again : (room : ℕ) → passes room (variables tree_again names) (depth tree_again names) ≡ passes room (variables tree names) (depth tree names)
    passes_again room =
        ap₂ (λ (v g : ℕ). nat_lt room (v + g) || nat_lt room (depth tree_again names).blocks) variables_again greatest_again
        ∙ ap (λ (b : ℕ). nat_lt room (variables tree names + (depth tree names).greatest) || nat_lt room b) blocks_again

    header_again : header tree_again names ≡ header tree names
    header_again =
        let f = flag tree_again names in
        let s = simple (body tree_again names).part in
        let v = variables tree_again names in
        let n = length (literals tree_again names) in
        let r = room_bit v (depth tree_again names) in
        ap (λ (x : ℕ). x * 8192 + count_of x s v * 256 + r + n * 2 + 1) flag_again
        ∙ ap (λ (x : Option Simple). flag tree names * 8192 + count_of (flag tree names) x v * 256 + r + n * 2 + 1) simple_again
        ∙ ap (λ (x : ℕ). flag tree names * 8192 + count_of (flag tree names) (simple was.part) x * 256 + r + n * 2 + 1) variables_again
        ∙ ap (λ (b : Bool). flag tree names * 8192 + header_count tree names * 256 + (if b then 128 else 0) + n * 2 + 1) (passes_again small_room)
        ∙ ap (λ (ls : List LiteralView). flag tree names * 8192 + header_count tree names * 256 + room_bit (variables tree names) (depth tree names) + length ls * 2 + 1) literals_again

    -- THE SAME PARTS
    pub parts_again : parts tree_again names ≡ parts tree names
    parts_again =
        ap (λ (h : ℕ). record { selector = tree.selector; header = h; literals = literals tree_again names; bytes = all_bytes (steps tree_again names) }) header_again
        ∙ ap₂ (λ (ls : List LiteralView) (ss : List Instruction). record { selector = tree.selector; header = header tree names; literals = ls; bytes = all_bytes ss }) literals_again steps_again

    pub whole_again : whole_fault tree_again names ≡ whole_fault tree names
    whole_again =
        let bounds : ℕ → ℕ → Bool → List Instruction → Option Fault = λ n v p ss.
        or_else (symbols_fault names.symbols) (or_else (primitive_fault tree.primitive)
        (or_else (fault_if (nat_lt most_literals n) Literals) (or_else (fault_if (nat_lt most_variables v) Temporaries) (or_else (fault_if p Depth)
        (or_else (fault_if (not (all_reach ss)) Jump) (fault_if (nat_lt most_bytes (n * 2 + 2 + size ss)) Size)))))) in
        ap₂ (λ (n v : ℕ). bounds n v (passes large_room (variables tree_again names) (depth tree_again names)) (steps tree_again names)) (ap (λ (ls : List LiteralView). length ls) literals_again) variables_again
        ∙ ap₂ (λ (p : Bool) (ss : List Instruction). bounds (length (literals tree names)) (variables tree names) p ss) (passes_again large_room) steps_again

    -- and the same code, where no name of the tree has a fault
    pub code_again : method_fault names tree_again ≡ None → code tree_again names ≡ Ok (parts tree names)
    code_again h =
        ap₂ (λ (f g : Option Fault). parts_or tree_again names (or_else f g)) h (whole_again ∙ faults.1) ∙ ap (λ (p : PartsView). Ok p) parts_again
