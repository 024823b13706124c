-- Compiled code means its source.
use Rattle.std.specs.Prelude.{◌≡◌, List}
use Rattle.st_scan.specs.Views.{MethodView}
use Rattle.st_emit.specs.Names.{NamesView}
use Rattle.st_code.specs.Methods.{body, parts}
use Rattle.st_meaning.specs.inside.Values.{AnswerView}
use Rattle.st_meaning.specs.inside.Blocks.{OfBlock, EachOfBody, block_trace, block_walk}
use Rattle.st_meaning.specs.inside.Meanings.{most, Trace, Walk}

-- The walk of a method's code ends as the trace of its tree, whatever its messages answer: with the same deeds, and as often back.
abbrev pub MeansItsSource : MethodView → NamesView → Type 0
MeansItsSource tree names = (answers : List AnswerView) → Walk (parts tree names) answers ≡ Trace tree names answers

-- a block's walk, from its place in these bytes on, is its trace
abbrev pub IsMeantIn : MethodView → NamesView → List AnswerView → OfBlock
IsMeantIn tree names answers at first arguments b =
    block_walk most (parts tree names).literals (parts tree names).bytes at first arguments answers ≡ block_trace most first arguments b answers

-- and so it is with each of its blocks
abbrev pub BlocksMeanTheirs : MethodView → NamesView → Type 0
BlocksMeanTheirs tree names = (answers : List AnswerView) → EachOfBody (IsMeantIn tree names answers) 0 (body tree names).part
