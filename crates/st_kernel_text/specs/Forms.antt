-- The form of a kernel text: declarations, then groups, then the start.
use Rattle.std.specs.Prelude.{ℕ, ◌&&◌, nat_le, List, [], ◌∷◌, length, codes, Option, Some, None, option_map, if◌then◌else◌}
use Rattle.std.specs.Option.{option_zip}
use Rattle.std.specs.Map.{lookup}
use Rattle.st_chunk.specs.Texts.{most, is_empty}
use Rattle.st_chunk.specs.Groups.{is_name, trimmed, header_of, GroupHeader}
use Rattle.st_kernel_text.specs.declared.shape.Shape.{Shape}
use Rattle.st_kernel_text.specs.declared.shape.Shape.TheVariants.{Fixed, Indexed, Words, Bytes}
use Rattle.st_kernel_text.specs.declared.keyword.Keyword.{Keyword}
use Rattle.st_kernel_text.specs.declared.keyword.Keyword.TheVariants.{Class, Pool, Global, Start}
use Rattle.st_kernel_text.specs.declared.place.ChunkPlace.{ChunkPlace}
use Rattle.st_kernel_text.specs.declared.place.ChunkPlace.TheVariants.{Declarations, Header as InHeader, Methods, Groups, End}
use Rattle.st_kernel_text.specs.Words.{words, is_word, names_in}
use Rattle.st_kernel_text.specs.Parts.{Side, Part, class, pool, global, opening, header, method, closing, start}

-- WORDS

abbrev pub shape_named : List ℕ → Option Shape
shape_named word =
    lookup (is_word word) ((codes "fixed", Fixed) ∷ (codes "indexed", Indexed) ∷ (codes "words", Words) ∷ (codes "bytes", Bytes) ∷ [])

-- with which word a declaration, or the start, begins
abbrev pub keyword_named : List ℕ → Option Keyword
keyword_named word =
    lookup (is_word word) ((codes "class", Class) ∷ (codes "pool", Pool) ∷ (codes "global", Global) ∷ (codes "start", Start) ∷ [])

-- NAME super NAME KIND names
abbrev pub class_by : (name link above kind : List ℕ) → List (List ℕ) → Option Part
class_by name link above kind names =
    if (is_name name && is_word (codes "super") link) && is_name above
    then option_map (λ of. class (record { name = name; above = above; shape = of.0; variables = of.1 })) (option_zip (shape_named kind) (names_in names))
    else None

abbrev pub class_in : List (List ℕ) → Option Part
class_in (name ∷ link ∷ above ∷ kind ∷ names) = class_by name link above kind names
class_in _ = None

-- NAME names
abbrev pub pool_in : List (List ℕ) → Option Part
pool_in (name ∷ names) = if is_name name then option_map (λ variables. pool (record { class = name; variables = variables })) (names_in names) else None
pool_in _ = None

-- NAME
abbrev pub global_in : List (List ℕ) → Option Part
global_in (name ∷ []) = if is_name name then Some (global name) else None
global_in _ = None

-- NAME SELECTOR
abbrev pub start_in : List (List ℕ) → Option Part
start_in (name ∷ selector ∷ []) = if is_name name then Some (start (record { receiver = name; selector = selector })) else None
start_in _ = None

-- behind a group only the start may stand
abbrev pub start_by : Option Keyword → List (List ℕ) → Option Part
start_by (Some Start) words = start_in words
start_by _ words = None

abbrev pub declaration_by : Option Keyword → List (List ℕ) → Option Part
declaration_by (Some Class) words = class_in words
declaration_by (Some Pool) words = pool_in words
declaration_by (Some Global) words = global_in words
declaration_by (Some Start) words = start_in words
declaration_by None words = None

abbrev pub by_words : (Option Keyword → List (List ℕ) → Option Part) → List (List ℕ) → Option Part
by_words says (word ∷ words) = says (keyword_named word) words
by_words says [] = None

-- CHUNKS

abbrev pub side_of : GroupHeader → Side
side_of h = record { class = h.class; meta = h.meta }

-- what a chunk says by where it stands, if it has the form that is asked there
abbrev pub part_at : ChunkPlace → List ℕ → Option Part
part_at Declarations chunk = if is_empty chunk then Some opening else by_words declaration_by (words chunk)
part_at Groups chunk = if is_empty chunk then Some opening else by_words start_by (words chunk)
part_at InHeader chunk = option_map (λ h. header (side_of h)) (header_of chunk)
part_at Methods chunk = if is_empty chunk then Some closing else Some (method (trimmed chunk))
part_at End chunk = None

-- it has at most 65,536 bytes
abbrev pub formed_at : ChunkPlace → List ℕ → Option Part
formed_at place chunk = if nat_le (length chunk) most then part_at place chunk else None

-- where the chunk behind it stands
abbrev pub behind_part : Part → ChunkPlace
behind_part (class c) = Declarations
behind_part (pool p) = Declarations
behind_part (global name) = Declarations
behind_part opening = InHeader
behind_part (header side) = Methods
behind_part (method text) = Methods
behind_part closing = Groups
behind_part (start s) = End
