-- Names one after the other, without a list of them.
use Rattle.std.specs.Prelude.{ℕ, List, [], ◌∷◌, Option, Some, None, Bool, true, bytes_eq, codes, if◌then◌else◌}
use Rattle.std.specs.List.{filter, flat_map}
use Rattle.std.specs.declared.cmp.Ordering.{Ordering}
use Rattle.std.specs.declared.cmp.Ordering.TheVariants.{Less, Equal, Greater}
use Rattle.st_model.specs.Table.{Table}
use Rattle.st_browse.specs.declared.choice.Choice.{Choice}
use Rattle.st_browse.specs.declared.choice.Choice.TheVariants.{Every, Classes, Senders}
use Rattle.st_browse.specs.declared.names.Names.{Names}
use Rattle.st_browse.specs.declared.line.Line.{Line}
use Rattle.st_browse.specs.declared.line.Line.TheVariants as line
use Rattle.st_browse.specs.Naming.{Named, compared, in_order, is_behind}
use Rattle.st_browse.specs.Classes.{is_class}
use Rattle.st_browse.specs.Senders.{sends}
use Rattle.st_browse.specs.Replies.{name_line, sender_line}
use Rattle.st_browse.specs.inside.Entries.{name_of, names_in}

abbrev pub behind : List ℕ → Named → Bool
behind a n = is_behind a n.name

-- behind a text, or anywhere where there is none
abbrev pub is_left : Option (List ℕ) → Named → Bool
is_left None n = true
is_left (Some a) n = behind a n

abbrev pub those_left : Option (List ℕ) → List Named → List Named
those_left None xs = xs
those_left (Some a) xs = filter (behind a) xs

abbrev pub first : List Named → Option Named
first [] = None
first (x ∷ xs) = Some x

-- those that come next, in order
abbrev pub next_in_order : Option (List ℕ) → List Named → List Named
next_in_order after xs = in_order (those_left after xs)

abbrev pub lesser_by : Ordering → Named → Named → Named
lesser_by Less x y = x
lesser_by Equal x y = x
lesser_by Greater x y = y

-- the lesser of two names, if there are two, and the first of two that are the same
abbrev pub lesser : Named → Option Named → Named
lesser x None = x
lesser x (Some y) = lesser_by (compared x.name y.name) x y

-- the lesser of a name that is left and of another
abbrev pub taken : Option (List ℕ) → Option Named → Option Named → Option Named
taken after None best = best
taken after (Some n) best = if is_left after n then Some (lesser n best) else best

-- a name, where it is this text
abbrev pub if_named : List ℕ → Option Named → Option Named
if_named text None = None
if_named text (Some n) = if bytes_eq n.name text then Some n else None

-- CHOICES

abbrev pub is_chosen : Table → Choice → Named → Bool
is_chosen t Every n = true
is_chosen t Classes n = is_class t n
is_chosen t (Senders selector) n = sends t selector.now n.value

-- the names that are chosen, in order
abbrev pub listed : Table → Names → Choice → List Named
listed t names choice = filter (is_chosen t choice) (in_order (names_in t names))

-- LINES

abbrev pub line_text : Table → Line → List ℕ → List ℕ
line_text t line.Class name = name_line (codes "class ") name
line_text t line.Method name = name_line (codes "method ") name
line_text t (line.Sender class meta) name = sender_line (name_of t class) meta name

abbrev pub lines_text : Table → Line → List Named → List ℕ
lines_text t line ns = flat_map (λ n. line_text t line n.name) ns
