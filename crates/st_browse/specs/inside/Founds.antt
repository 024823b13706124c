-- What was found of what is asked for, and what is said of it.
use Rattle.std.specs.Prelude.{◌≡◌, ℕ, ◌≤◌, ◌++◌, ◌/◌, List, true, codes, length}
use Rattle.std.specs.List.{filter}
use Rattle.st_model.specs.Values.{value}
use Rattle.st_model.specs.Table.{Table}
use Rattle.st_model.specs.Text.{object_text}
use Rattle.st_model.specs.View.{is_live, object_of}
use Rattle.st_browse.specs.declared.choice.Choice.{Choice}
use Rattle.st_browse.specs.declared.choice.Choice.TheVariants.{Every, Classes}
use Rattle.st_browse.specs.declared.line.Line.{Line}
use Rattle.st_browse.specs.declared.line.Line.TheVariants.{Class, Method}
use Rattle.st_browse.specs.declared.names.Names.{Names}
use Rattle.st_browse.specs.declared.sought.Sought.{Sought}
use Rattle.st_browse.specs.declared.sought.Sought.TheVariants as sought
use Rattle.st_browse.specs.Naming.{in_order}
use Rattle.st_browse.specs.Classes.{is_class}
use Rattle.st_browse.specs.inside.Listing.{listed, lines_text}
use Rattle.st_browse.specs.Replies.{count_text, senders_text}
use Rattle.st_browse.specs.Asked.{code_text}
use Rattle.st_browse.specs.Display.{form_text}
use Rattle.st_browse.specs.Sources.{source_text}
use Rattle.st_browse.specs.inside.Shown.{IsForm, form_in}
use Rattle.st_browse.specs.inside.Entries.{IsBody, count_of, names_in}

-- how many names are chosen, and their lines
abbrev pub listed_text : Table → List ℕ → Names → Choice → Line → List ℕ
listed_text t word names choice line = count_text word (length (listed t names choice)) ++ lines_text t line (listed t names choice)

abbrev pub sought_text : Table → Sought → List ℕ
sought_text t (sought.Object o) = object_text (o.0 / 2) (object_of t (value o))
sought_text t (sought.Display form) = form_text (form_in t form)
sought_text t (sought.Classes names) = listed_text t (codes "classes") names Classes Class
sought_text t (sought.Methods names) = listed_text t (codes "methods") names Every Method
sought_text t (sought.Source text) = source_text text.now
sought_text t (sought.Bytecodes body) = code_text t (value body.method)
sought_text t (sought.Senders globals selector) = senders_text t selector.now (filter (is_class t) (in_order (names_in t globals)))

-- it is there
abbrev pub IsSought : Table → Sought → Type 0
IsSought t (sought.Object o) = is_live t (value o) ≡ true
IsSought t (sought.Display form) = IsForm t form
IsSought t (sought.Classes names) = count_of names ≤ 131066
IsSought t (sought.Methods names) = count_of names ≤ 131066
IsSought t (sought.Source text) = Unit {0}
IsSought t (sought.Bytecodes body) = IsBody t body
IsSought t (sought.Senders globals selector) = count_of globals ≤ 131066
