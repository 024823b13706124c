-- Parts and accounts without where they lie in memory.
use Rattle.std.specs.Prelude.{List, map}
use Rattle.st_kernel_text.specs.declared.part.Class as declared_class
use Rattle.st_kernel_text.specs.declared.part.Pool as declared_pool
use Rattle.st_kernel_text.specs.declared.part.Side as declared_side
use Rattle.st_kernel_text.specs.declared.part.Start as declared_start
use Rattle.st_kernel_text.specs.declared.part.Part as declared_part
use Rattle.st_kernel_text.specs.declared.part.Part.TheVariants as parts
use Rattle.st_kernel_text.specs.declared.reading.Kernel as declared_kernel
use Rattle.st_kernel_text.specs.Parts.{Class, Pool, Side, Start, Part, class, pool, global, opening, header, method, closing, start}
use Rattle.st_kernel_text.specs.inside.Lists.{texts_of}
use Rattle.st_kernel_text.specs.Texts.{Account}

abbrev pub class_of : declared_class.Class → Class
class_of c = record { name = c.name.items; above = c.above.items; shape = c.shape; variables = texts_of c.variables.items }

abbrev pub pool_of : declared_pool.Pool → Pool
pool_of p = record { class = p.class.items; variables = texts_of p.variables.items }

abbrev pub side_of : declared_side.Side → Side
side_of s = record { class = s.class.items; meta = s.meta }

abbrev pub start_of : declared_start.Start → Start
start_of s = record { receiver = s.receiver.items; selector = s.selector.items }

abbrev pub part_of : declared_part.Part → Part
part_of (parts.Class c) = class (class_of c)
part_of (parts.Pool p) = pool (pool_of p)
part_of (parts.Global name) = global name.items
part_of parts.Opening = opening
part_of (parts.Header side) = header (side_of side)
part_of (parts.Method text) = method text.items
part_of parts.Closing = closing
part_of (parts.Start s) = start (start_of s)

abbrev pub parts_of : List declared_part.Part → List Part
parts_of ps = map part_of ps

abbrev pub account_of : declared_kernel.Kernel → Account
account_of k = record { parts = parts_of k.parts.items; names = k.names; cause = k.cause }
