-- What is asked of an image, without where its words lie in memory.
use Rattle.st_chunk.specs.Asks.{Side, Ask, Object, Display, Classes, Methods, Source, Bytecodes, Senders}
use Rattle.st_browse.specs.declared.ask.Side.{Side as OwnSide}
use Rattle.st_browse.specs.declared.ask.Ask.{Ask as OwnAsk}
use Rattle.st_browse.specs.declared.ask.Ask.TheVariants as own

abbrev pub side_meant : OwnSide → Side
side_meant side = record { class = side.class.items; meta = side.meta }

abbrev pub question : OwnAsk → Ask
question (own.Object o) = Object o.0
question own.Display = Display
question own.Classes = Classes
question (own.Methods side) = Methods (side_meant side)
question (own.Source side selector) = Source (side_meant side) selector.items
question (own.Bytecodes side selector) = Bytecodes (side_meant side) selector.items
question (own.Senders selector) = Senders selector.items
