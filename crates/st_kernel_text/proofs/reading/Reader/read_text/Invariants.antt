use Rattle.std.proofs.Common.{◌≡◌, ◌≤◌, length, drop}
use Rattle.st_chunk.specs.Texts.{most}
use Rattle.st_kernel_text.specs.Texts.{account}
use Rattle.st_kernel_text.specs.inside.Reading.{account_left, cut_from}
use Rattle.st_kernel_text.specs.inside.States.{state_of}
use Rattle.st_kernel_text.proofs.Cutting.{IsOpen}
use Rattle.st_kernel_text.proofs.reading.Reader.read_text.Given as goal

-- what is left of the text tells the account of the whole
abbrev pub invariant-loop-at : goal.invariant-loop-at
invariant-loop-at l = record {
  still : IsOpen l.chunk.phase;
  short : length l.chunk.bytes ≤ most;
  left : account_left (state_of l.self) (cut_from l.chunk.phase l.chunk.bytes (drop l.at l.text)) ≡ account l.text;
}
