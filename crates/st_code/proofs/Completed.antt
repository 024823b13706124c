-- The parts that are made of a method's code are those of its tree.
use Rattle.std.proofs.Common.{◌≡◌, ℕ, ◌+◌, ◌*◌, List, length, Option, sym, ap, ◌∙◌}
use Rattle.std.proofs.lemmas.List.{length-map}
use Rattle.st_scan.specs.Views.{MethodView}
use Rattle.st_emit.specs.declared.instruction.Instruction.{Instruction}
use Rattle.st_emit.specs.declared.level.Level.{Level}
use Rattle.st_emit.specs.Names.{NamesView}
use Rattle.st_emit.specs.Literals.{LiteralView}
use Rattle.st_emit.specs.Steps.{all_bytes}
use Rattle.st_emit.specs.inside.Views.{literal_view, literals_view}
use Rattle.st_code.specs.declared.simple.Simple.{Simple}
use Rattle.st_code.specs.declared.method.MethodDraft.{MethodDraft}
use Rattle.st_code.specs.Methods.{PartsView, body, steps, literals, variables, depth, simple, flag_of, count_of, room_bit, header, parts}
use Rattle.st_code.specs.inside.Simple.{simple_by}
use Rattle.st_code.specs.inside.MethodDrafts.{IsWhole, header_of}
use Rattle.st_code.proofs.ShortCode.{simple_by_nodes}

-- what a method's instructions say of it
pub simple_steps : (tree : MethodView) (names : NamesView) (ss : List Instruction) → ss ≡ steps tree names → simple_by ss ≡ simple (body tree names).part
simple_steps tree names ss e = ap simple_by e ∙ simple_by_nodes (body tree names).part

abbrev head : MethodView → Option Simple → ℕ → Level → ℕ → ℕ
head m s v d n = flag_of m s * 8192 + count_of (flag_of m s) s v * 256 + room_bit v d + n * 2 + 1

header_same : (tree : MethodView) (names : NamesView) (made : MethodDraft) → IsWhole tree names made → header_of tree made ≡ header tree names
header_same tree names made w =
    let n : length made.draft.literals.items ≡ length (literals tree names) = sym (length-map made.draft.literals.items literal_view) ∙ ap (λ (ls : List LiteralView). length ls) w.literals in
    ap (λ (s : Option Simple). head tree s made.variables made.draft.level (length made.draft.literals.items)) (simple_steps tree names made.draft.steps.items w.steps)
    ∙ ap (λ (v : ℕ). head tree (simple (body tree names).part) v made.draft.level (length made.draft.literals.items)) w.variables
    ∙ ap (λ (d : Level). head tree (simple (body tree names).part) (variables tree names) d (length made.draft.literals.items)) w.level
    ∙ ap (λ (k : ℕ). head tree (simple (body tree names).part) (variables tree names) (depth tree names) k) n

pub parts_same : (tree : MethodView) (names : NamesView) (made : MethodDraft) (selector : List ℕ) (h : ℕ) (bytes : List ℕ) → IsWhole tree names made → selector ≡ tree.selector → h ≡ header_of tree made → bytes ≡ all_bytes made.draft.steps.items
    → parts tree names ≡ record { selector = selector; header = h; literals = literals_view made.draft.literals.items; bytes = bytes }
parts_same tree names made selector h bytes w s e b =
    sym (ap (λ (x : List ℕ). part x h (literals_view made.draft.literals.items) bytes) s
    ∙ ap (λ (x : ℕ). part tree.selector x (literals_view made.draft.literals.items) bytes) (e ∙ header_same tree names made w)
    ∙ ap (λ (x : List LiteralView). part tree.selector (header tree names) x bytes) w.literals
    ∙ ap (λ (x : List ℕ). part tree.selector (header tree names) (literals tree names) x) (b ∙ ap all_bytes w.steps))
  where
    part : List ℕ → ℕ → List LiteralView → List ℕ → PartsView
    part x y z u = record { selector = x; header = y; literals = z; bytes = u }
