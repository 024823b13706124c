-- What the code keeps of a script that is read.
use Rattle.std.specs.Prelude.{◌≡◌, ◌≤◌, length, Option}
use Rattle.st_chunk.specs.declared.cutting.Phase.TheVariants.{Within, Marked}
use Rattle.st_chunk.specs.Texts.{most}
use Rattle.st_chunk.specs.Feeding.{MayGoOn, IsTold}
use Rattle.st_chunk.specs.Groups.{GroupHeader}
use Rattle.st_chunk.specs.declared.request.Request.{Request}
use Rattle.st_chunk.specs.declared.progress.Mode.{Mode}
use Rattle.st_chunk.specs.declared.progress.Mode.TheVariants as modes
use Rattle.st_chunk.specs.declared.progress.Progress.{Progress}
use Rattle.st_chunk.specs.inside.Headings.{heading_in}
use Rattle.st_chunk.specs.Lines.{line_ask}
use Rattle.st_chunk.specs.Reading.{Place, InLine, behind_line, Opened, InHeader, InMethods, Defined, CutOff, InBlanks, BehindBlanks, Over, Reading, Told}

-- the header of the open group
abbrev pub heading_of : Progress → GroupHeader
heading_of p = heading_in p.text p.class_length p.meta

abbrev pub place_in : Mode → Progress → Place
place_in modes.Line p = InLine p.text
place_in modes.Behind p = behind_line (line_ask p.text)
place_in modes.Opened p = Opened
place_in modes.Header p = InHeader p.chunk
place_in modes.Methods p = InMethods (heading_of p) p.chunk
place_in modes.Defined p = Defined (heading_of p) p.chunk
place_in modes.CutOff p = CutOff (heading_of p) p.chunk
place_in modes.Blanks p = InBlanks
place_in modes.BehindBlanks p = BehindBlanks
place_in modes.Over p = Over

abbrev pub reading_of : Progress → Reading
reading_of p = record { place = place_in p.mode p; line = p.line; start = p.start }

-- the call left this, and answered what is asked for, as the definition tells
abbrev pub Tells : Told → Progress → Option Request → Type 0
Tells told new result = told ≡ (reading_of new, result)

-- how far the chunk is read, that a header isn't too long, and that the class is a part of what is held
abbrev pub KeptIn : Mode → Progress → Type 0
KeptIn modes.Line p = p.chunk.phase ≡ Within
KeptIn modes.Behind p = p.chunk.phase ≡ Within
KeptIn modes.Opened p = p.chunk.phase ≡ Marked
KeptIn modes.Header p = MayGoOn p.chunk.phase × (length p.chunk.bytes ≤ most)
KeptIn modes.Methods p = MayGoOn p.chunk.phase × (p.class_length ≤ length p.text)
KeptIn modes.Defined p = IsTold p.chunk.phase × (p.class_length ≤ length p.text)
KeptIn modes.CutOff p = p.class_length ≤ length p.text
KeptIn _ p = Unit {0}

abbrev pub IsKept : Progress → Type 0
IsKept p = KeptIn p.mode p
