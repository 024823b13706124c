-- A reader without where its parts lie in memory.
use Rattle.st_kernel_text.specs.declared.reading.Reader.{Reader}
use Rattle.st_kernel_text.specs.inside.Reading.{State}
use Rattle.st_kernel_text.specs.inside.Views.{parts_of}

abbrev pub state_of : Reader → State
state_of r = record { place = r.place; known = r.known; parts = parts_of r.parts.items }
