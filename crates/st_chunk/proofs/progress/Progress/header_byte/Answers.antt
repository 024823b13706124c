use Rattle.std.proofs.Common.{◌∙◌}
use Rattle.st_chunk.specs.inside.Progress.{reading_of}
use Rattle.st_chunk.proofs.Told.{header_chunk}
use Rattle.st_chunk.proofs.progress.Progress.header_byte.Goals as goal

pub returns-in-Chunk-clause-tells : goal.returns-in-Chunk-clause-tells
returns-in-Chunk-clause-tells c =
    header_chunk (reading_of c.args.self.now) c.args.here c.args.self.now.chunk c.args.byte c.feed.new.self c.feed.ensures.read c.in-Chunk.ensures.told
    ∙ c.end_header.ensures.tells
