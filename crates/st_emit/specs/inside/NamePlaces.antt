-- Where names stand first, and what an index notes of it.
use Rattle.std.specs.Prelude.{◌≡◌, ℕ, List, Option, Some, None, if◌then◌else◌, bytes_eq, position}
use Rattle.std.specs.Global.{Vec}
use Rattle.std.specs.Map.{lookup}
use Rattle.st_scan.specs.declared.tree.Name.{Name}
use Rattle.st_emit.specs.Names.{or_else}

-- the place of the first name with a text
abbrev pub name_place : List Name → List ℕ → Option ℕ
name_place names text = position (λ n. bytes_eq n.text.items text) names

-- the place that is noted of a text
abbrev pub text_noted : List (Vec ℕ × ℕ) → List ℕ → Option ℕ
text_noted entries text = lookup (λ k. bytes_eq text k.items) entries

-- of each text the place of the first name with it is noted
abbrev pub IsNameIndex : List Name → List (Vec ℕ × ℕ) → Type 0
IsNameIndex names entries = (text : List ℕ) → text_noted entries text ≡ name_place names text

-- this place is noted of a text, where none was noted of it
abbrev pub NotesFirst : List ℕ → ℕ → (old new : List (Vec ℕ × ℕ)) → Type 0
NotesFirst text place old new = (t : List ℕ) → text_noted new t ≡ or_else (text_noted old t) (if bytes_eq text t then Some place else None)
