-- What is asked for, as it was found.
use Rattle.std.proofs.Common.{◌≡◌, ℕ, ◌/◌, List, Option, Some, None, Bool, true, false, refl, ap, ◌∙◌}
use Rattle.std.specs.Prelude.{codes, option_map, is_some, unwrap_or, if◌then◌else◌, ◌%◌, ◌==◌}
use Rattle.std.specs.List.{filter}
use Rattle.st_model.specs.Values.{Value, Small, Ref, value_of}
use Rattle.st_model.specs.Objects.{Object}
use Rattle.st_model.specs.Table.{Table, entry}
use Rattle.st_model.specs.Text.{object_text}
use Rattle.st_model.specs.View.{is_live, object_of, nothing}
use Rattle.st_browse.specs.declared.names.Names.{Names}
use Rattle.st_browse.specs.declared.choice.Choice.TheVariants.{Every, Classes}
use Rattle.st_browse.specs.declared.line.Line.TheVariants.{Class, Method}
use Rattle.st_browse.specs.Naming.{in_order}
use Rattle.st_browse.specs.Classes.{is_class, classes, globals_in}
use Rattle.st_browse.specs.Methods.{dictionary_of, methods, methods_in}
use Rattle.st_browse.specs.Senders.{sends, senders}
use Rattle.st_browse.specs.Replies.{object_reply, classes_text, methods_text, names_text, senders_text}
use Rattle.st_browse.specs.inside.Entries.{names_in}
use Rattle.st_browse.specs.inside.Founds.{listed_text}
use Rattle.st_browse.proofs.Going.{all_chosen}

-- OBJECTS

entry_there : (n : ℕ) (e : Option Object) → is_some e ≡ true → Some (object_text n (unwrap_or e nothing)) ≡ option_map (object_text n) e
entry_there n None live = cc
entry_there n (Some o) live = refl

there_by : (t : Table) (w : ℕ) (b : Bool) → is_live t (if b then Small (w / 2) else Ref (w / 2)) ≡ true
    → Some (object_text (w / 2) (object_of t (if b then Small (w / 2) else Ref (w / 2)))) ≡ object_reply t (if b then Small (w / 2) else Ref (w / 2))
unfolding is_live object_of
there_by t w true live = cc
there_by t w false live = entry_there (w / 2) (entry t (w / 2)) live

pub object_there : (t : Table) (w : ℕ) → is_live t (value_of w) ≡ true → Some (object_text (w / 2) (object_of t (value_of w))) ≡ object_reply t (value_of w)
unfolding value_of
object_there t w live = there_by t w (w % 2 == 1) live

entry_missing : (n : ℕ) (e : Option Object) → is_some e ≡ false → None ≡ option_map (object_text n) e
entry_missing n None gone = refl
entry_missing n (Some o) gone = cc

pub object_missing : (t : Table) (v : Value) → is_live t v ≡ false → None ≡ object_reply t v
unfolding is_live
object_missing t (Small n) gone = refl
object_missing t (Ref n) gone = entry_missing n (entry t n) gone

-- NAMES

pub methods_listed : (t : Table) (names : Names) (class : Value) → names_in t names ≡ methods_in t (dictionary_of t class)
    → listed_text t (codes "methods") names Every Method ≡ methods_text t class
unfolding methods
methods_listed t names class e =
    ap (names_text (codes "methods") (codes "method ")) (all_chosen (in_order (names_in t names)) ∙ ap in_order e)

pub classes_listed : (t : Table) (names : Names) (globals : Option Value) → names_in t names ≡ globals_in t globals
    → listed_text t (codes "classes") names Classes Class ≡ classes_text t globals
unfolding classes
classes_listed t names globals e =
    ap (λ ns. names_text (codes "classes") (codes "class ") (filter (is_class t) (in_order ns))) e

pub senders_listed : (t : Table) (selector : List ℕ) (names : Names) (class side : Value) → names_in t names ≡ methods_in t (dictionary_of t class) → class ≡ side
    → filter (λ n. sends t selector n.value) (in_order (names_in t names)) ≡ senders t selector side
unfolding senders methods
senders_listed t selector names class side e same =
    ap (λ ns. filter (λ n. sends t selector n.value) (in_order ns)) (e ∙ ap (λ v. methods_in t (dictionary_of t v)) same)

pub classes_asked : (t : Table) (selector asked : List ℕ) (names : Names) (globals : Option Value) → names_in t names ≡ globals_in t globals → selector ≡ asked
    → senders_text t selector (filter (is_class t) (in_order (names_in t names))) ≡ senders_text t asked (classes t globals)
unfolding classes
classes_asked t selector asked names globals e same =
    ap (λ ns. senders_text t selector (filter (is_class t) (in_order ns))) e ∙ ap (λ s. senders_text t s (filter (is_class t) (in_order (globals_in t globals)))) same
