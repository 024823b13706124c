-- The walk of a method's code is the trace of its tree, and so it is with each of its blocks.
use Rattle.std.proofs.Common.{◌≡◌, ℕ, ◌+◌, ◌≤◌, ◌||◌, List, [], ◌∷◌, ◌++◌, length, None, refl, ap, ◌∙◌, subst, arith}
use Rattle.std.specs.Prelude.{nat_lt}
use Rattle.std.proofs.Common.{append_assoc, drop_at, length-append}
use Rattle.st_scan.specs.Views.{MethodView}
use Rattle.st_emit.specs.Bounds.{large_room}
use Rattle.st_emit.specs.declared.instruction.Instruction.{Instruction}
use Rattle.st_emit.specs.Names.{NamesView}
use Rattle.st_emit.specs.Literals.{LiteralView}
use Rattle.st_emit.specs.Steps.{size_of, bytes_of, all_bytes}
use Rattle.st_emit.specs.Nodes.{Body}
use Rattle.st_emit.proofs.Sizes.{size-bytes}
use Rattle.st_code.specs.Methods.{body, steps, depth, variables, literals, fault}
use Rattle.st_resolved.specs.Instructions.{instruction, AllFit}
use Rattle.st_resolved.specs.inside.Placed.{BodyPlaced}
use Rattle.st_resolved.specs.inside.Right.{RightStatements}
use Rattle.st_resolved.proofs.Decoding.{reads_back}
use Rattle.st_resolved.proofs.Wholes.{few_words, placed, fit, not_more}
use Rattle.st_meaning.specs.declared.deed.Value.TheVariants.{First}
use Rattle.st_meaning.specs.inside.Values.{AnswerView}
use Rattle.st_meaning.specs.inside.Blocks.{OfBlock, EachOfBody, arguments_on, block_trace, block_walk}
use Rattle.st_meaning.specs.inside.Meanings.{start_of, before_all, enough_turns, enough_steps, trace_of, walk_of}
use Rattle.st_meaning.proofs.Living.{BodyFew}
use Rattle.st_meaning.proofs.Leads as leads
use Rattle.st_meaning.proofs.Longer.{ended_done, one_end}
use Rattle.st_meaning.proofs.Bounded.{walk_bounded}
use Rattle.st_meaning.proofs.Enough.{has_trace, block_has_trace}
use Rattle.st_meaning.proofs.EachBlock.{Stands, each_of_method}
use Rattle.st_meaning.proofs.Room.{method_few, method_each}
use Rattle.st_meaning.proofs.Methods.{method_comes, block_comes}
use Rattle.st_scan.proofs.Classes.{neither}

-- the instructions stand in their bytes
all_stand : (most : ℕ) (literals : List LiteralView) (xs : List Instruction) (before : List ℕ) → AllFit xs → leads.Stand most literals (before ++ all_bytes xs) (length before) xs
all_stand most literals [] before h = tt
all_stand most literals (x ∷ xs) before h =
    let bytes = before ++ all_bytes (x ∷ xs) in
    let here = ap instruction (drop_at before (all_bytes (x ∷ xs)) (length before) refl) ∙ reads_back x (all_bytes xs) h.0 in
    let n : length (before ++ bytes_of x) ≡ length before + size_of x = omega (arith, length-append before (bytes_of x), size-bytes x) in
    let rest = all_stand most literals xs (before ++ bytes_of x) h.1 in
    let moved = subst (λ b. leads.Stand most literals b (length (before ++ bytes_of x)) xs) (append_assoc before (bytes_of x) (all_bytes xs)) rest in
    (here, subst (λ i. leads.Stand most literals bytes i xs) n moved)

module _ (most : ℕ) (tree : MethodView) (names : NamesView) (right : RightStatements tree.body) (sound : fault tree names ≡ None) where
  abbrev b : Body
  b = (body tree names).part

  abbrev bytes : List ℕ
  bytes = all_bytes (steps tree names)

  stand : leads.Stand most (literals tree names) bytes 0 (steps tree names)
  stand = all_stand most (literals tree names) (steps tree names) [] (fit names tree sound right)

  words : ((depth tree names).greatest ≤ 255) × ((depth tree names).blocks ≤ 255)
  words =
      let no = neither (nat_lt large_room (variables tree names + (depth tree names).greatest)) (nat_lt large_room (depth tree names).blocks) (few_words names tree sound) in
      (omega (arith, not_more large_room (variables tree names + (depth tree names).greatest) no.0), omega (arith, not_more large_room (depth tree names).blocks no.1))

  pub walk_is : (answers : List AnswerView) → walk_of most (length tree.arguments) (literals tree names) bytes answers ≡ trace_of most (length tree.arguments) b answers
  walk_is answers =
      let g = before_all (start_of (length tree.arguments)) answers in
      let ended = has_trace most (length tree.arguments) answers b in
      let comes = method_comes most (literals tree names) bytes b (enough_turns most) g (placed names tree sound right) (method_few b words.0 words.1) stand ended in
      one_end most (literals tree names) bytes (enough_steps most bytes) comes.0 0 [] g (walk_of most (length tree.arguments) (literals tree names) bytes answers) (trace_of most (length tree.arguments) b answers)
      (walk_bounded most (literals tree names) bytes 0 [] g refl) (ended_done (trace_of most (length tree.arguments) b answers) ended) refl comes.1

  -- a block's walk is its trace
  abbrev pub IsMeant : List AnswerView → OfBlock
  IsMeant answers at first arguments a = block_walk most (literals tree names) bytes at first arguments answers ≡ block_trace most first arguments a answers

  block_is : (answers : List AnswerView) (at first i : ℕ) (a : Body) → BodyPlaced (literals tree names) a → BodyFew a → Stands most (literals tree names) bytes (IsMeant answers) at first i a → IsMeant answers at first i a
  block_is answers at first i a p few has =
      let g = before_all First answers in
      let ended = block_has_trace most first i answers a in
      let comes = block_comes most (literals tree names) bytes first i a (enough_turns most) at g p few has ended in
      one_end most (literals tree names) bytes (enough_steps most bytes) comes.0 at (arguments_on first i) g (block_walk most (literals tree names) bytes at first i answers) (block_trace most first i a answers)
      (walk_bounded most (literals tree names) bytes at (arguments_on first i) g refl) (ended_done (block_trace most first i a answers) ended) refl comes.1

  pub blocks_are : (answers : List AnswerView) → EachOfBody (IsMeant answers) 0 b
  blocks_are answers = each_of_method most (literals tree names) bytes (IsMeant answers) (block_is answers) b 0 (placed names tree sound right) (method_each b words.0 words.1) stand
