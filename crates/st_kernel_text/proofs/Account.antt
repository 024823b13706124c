-- The account of a text: it has no more parts than bytes, and its methods have the form of definitions.
use Rattle.std.proofs.Common.{◌≡◌, ◌≤◌, ◌+◌, ℕ, suc, List, [], ◌∷◌, ◌++◌, length, refl, sym, ap, subst, arith, length-append}
use Rattle.std.specs.Prelude.{Bool, true, false, ◌&&◌, ◌==◌, nat_le, Option, Some, None, option_map, Result, Ok, Err, if◌then◌else◌, codes}
use Rattle.std.specs.Option.{option_zip}
use Rattle.std.proofs.lemmas.Bool.Decides.{leb_tells}
use Rattle.st_chunk.specs.Texts.{mark, most, cut_behind, behind_mark, cut, is_empty}
use Rattle.st_chunk.specs.Feeding.{start as fed_none}
use Rattle.st_chunk.specs.Groups.{GroupHeader, header_of, header_text, side_text, quoted, quotes_doubled, trimmed, is_name}
use Rattle.st_chunk.specs.Definitions.{IsDefinition}
use Rattle.st_chunk.proofs.Cases.{by_test}
use Rattle.st_chunk.specs.Scripts.{IsHeading}
use Rattle.st_chunk.proofs.Sound.{heading_sound, method_sound}
use Rattle.st_kernel_text.specs.declared.place.ChunkPlace.{ChunkPlace}
use Rattle.st_kernel_text.specs.declared.place.ChunkPlace.TheVariants.{Declarations, Header as InHeader, Methods, Groups, End}
use Rattle.st_kernel_text.specs.declared.shape.Shape.{Shape}
use Rattle.st_kernel_text.specs.declared.keyword.Keyword.{Keyword}
use Rattle.st_kernel_text.specs.declared.keyword.Keyword.TheVariants.{Class, Pool, Global, Start}
use Rattle.st_kernel_text.specs.declared.cause.Cause.{Cause}
use Rattle.st_kernel_text.specs.Words.{words, is_word, names_in}
use Rattle.st_kernel_text.specs.Parts.{Side, Part, class, pool, global, opening, header, method, closing, start}
use Rattle.st_kernel_text.specs.Forms.{keyword_named, shape_named, class_in, pool_in, global_in, start_in, start_by, declaration_by, by_words, side_of, part_at, formed_at, behind_part}
use Rattle.st_kernel_text.specs.Known.{Names, Known, nothing, known_behind}
use Rattle.st_kernel_text.specs.Texts.{Account, read_part, behind, account_from, account}
use Rattle.st_kernel_text.specs.Definitions.{definition_by, AreDefinitions}

-- HOW MANY PARTS

mutual
  cut_few : (before text : List ℕ) → length (cut_behind before text).chunks ≤ length text
  cut_few before [] = omega arith
  cut_few before (b ∷ text) = by_test (b == mark)
      (λ e. rw e (omega (arith, mark_few before text)))
      (λ e. rw e (omega (arith, cut_few (before ++ b ∷ []) text)))

  mark_few : (before text : List ℕ) → length (behind_mark before text).chunks ≤ length text + 1
  mark_few before [] = omega arith
  mark_few before (b ∷ text) = by_test (b == mark)
      (λ e. rw e (omega (arith, cut_few (before ++ b ∷ []) text)))
      (λ e. rw e (omega (arith, cut_few (b ∷ []) text)))

behind_few : (n : ℕ) (names : Names) (goes_on : ChunkPlace → Known → Account) → ((p : ChunkPlace) (k : Known) → length (goes_on p k).parts ≤ n) → (r : Result (Part × Known) Cause)
    → length (behind names goes_on r).parts ≤ n + 1
behind_few n names goes_on few (Ok read) = omega (arith, few (behind_part read.0) read.1)
behind_few n names goes_on few (Err cause) = omega arith

account_few : (place : ChunkPlace) (k : Known) (number : ℕ) (chunks : List (List ℕ)) (rest : List ℕ) → length (account_from place k number chunks rest).parts ≤ length chunks
account_few place k number [] rest = omega arith
account_few place k number (c ∷ cs) rest =
    let few = behind_few (length cs) k.names (λ next after. account_from next after (suc number) cs rest) (λ next after. account_few next after (suc number) cs rest)
    (read_part place k number (formed_at place c)) in
    omega (arith, few)

pub few_parts : (text : List ℕ) → length (account text).parts ≤ length text
few_parts text =
    let a = account_few Declarations nothing 0 (cut text).chunks (cut text).rest in
    let b = cut_few [] text in
    omega (arith, a, b)

-- HEADERS AND METHODS

abbrev header_by : Side → GroupHeader
header_by side = record { class = side.class; meta = side.meta; category = [] }

-- what is known of the side that a group names
abbrev IsNamed : ChunkPlace → Side → Type 0
IsNamed Methods side = IsHeading (header_by side)
IsNamed _ side = Unit {0}

abbrev side_behind : Side → Part → Side
side_behind side (header named) = named
side_behind side _ = side

abbrev IsGoodPart : Side → Part → Type 0
IsGoodPart side (header named) = IsHeading (header_by named)
IsGoodPart side (method text) = IsDefinition (definition_by side text) × IsHeading (header_by side)
IsGoodPart side _ = Unit {0}

names_behind : (side : Side) (p : Part) → IsGoodPart side p → IsNamed (behind_part p) (side_behind side p)
names_behind side (class c) good = tt
names_behind side (pool p) good = tt
names_behind side (global name) good = tt
names_behind side opening good = tt
names_behind side (header named) good = good
names_behind side (method text) good = good.1
names_behind side closing good = tt
names_behind side (start s) good = tt

with_others : (side : Side) (p : Part) (ps : List Part) → IsGoodPart side p → AreDefinitions (side_behind side p) ps → AreDefinitions side (p ∷ ps)
with_others side (class c) ps good others = others
with_others side (pool p) ps good others = others
with_others side (global name) ps good others = others
with_others side opening ps good others = others
with_others side (header named) ps good others = others
with_others side (method text) ps good others = (good.0, others)
with_others side closing ps good others = others
with_others side (start s) ps good others = others

-- neither a header nor a method
abbrev IsOther : Option Part → Type 0
IsOther None = Unit {0}
IsOther (Some (header named)) = ⊥
IsOther (Some (method text)) = ⊥
IsOther (Some _) = Unit {0}

other_good : (side : Side) (p : Part) → IsOther (Some p) → IsGoodPart side p
other_good side (class c) other = tt
other_good side (pool p) other = tt
other_good side (global name) other = tt
other_good side opening other = tt
other_good side (header named) other = absurd other
other_good side (method text) other = absurd other
other_good side closing other = tt
other_good side (start s) other = tt

other_if : (b : Bool) (x : Option Part) → IsOther x → IsOther (if b then x else None)
other_if true x other = other
other_if false x other = tt

map_other : {A : Type 0} (f : A → Part) → ((a : A) → IsOther (Some (f a))) → (x : Option A) → IsOther (option_map f x)
map_other f other None = tt
map_other f other (Some a) = other a

abbrev class_of : (name above : List ℕ) → Shape × List (List ℕ) → Part
class_of name above of = class (record { name = name; above = above; shape = of.0; variables = of.1 })

abbrev pool_of : (name : List ℕ) → List (List ℕ) → Part
pool_of name variables = pool (record { class = name; variables = variables })

class_in_other : (ws : List (List ℕ)) → IsOther (class_in ws)
class_in_other [] = tt
class_in_other (a ∷ []) = tt
class_in_other (a ∷ b ∷ []) = tt
class_in_other (a ∷ b ∷ c ∷ []) = tt
class_in_other (name ∷ link ∷ above ∷ kind ∷ names) =
    other_if ((is_name name && is_word (codes "super") link) && is_name above)
    (option_map (class_of name above) (option_zip (shape_named kind) (names_in names)))
    (map_other (class_of name above) (λ of. tt) (option_zip (shape_named kind) (names_in names)))

pool_in_other : (ws : List (List ℕ)) → IsOther (pool_in ws)
pool_in_other [] = tt
pool_in_other (name ∷ names) = other_if (is_name name) (option_map (pool_of name) (names_in names)) (map_other (pool_of name) (λ variables. tt) (names_in names))

global_in_other : (ws : List (List ℕ)) → IsOther (global_in ws)
global_in_other [] = tt
global_in_other (name ∷ []) = other_if (is_name name) (Some (global name)) tt
global_in_other (name ∷ more ∷ others) = tt

start_in_other : (ws : List (List ℕ)) → IsOther (start_in ws)
start_in_other [] = tt
start_in_other (name ∷ []) = tt
start_in_other (name ∷ selector ∷ []) = other_if (is_name name) (Some (start (record { receiver = name; selector = selector }))) tt
start_in_other (name ∷ selector ∷ more ∷ others) = tt

declaration_other : (word : Option Keyword) (ws : List (List ℕ)) → IsOther (declaration_by word ws)
declaration_other (Some Class) ws = class_in_other ws
declaration_other (Some Pool) ws = pool_in_other ws
declaration_other (Some Global) ws = global_in_other ws
declaration_other (Some Start) ws = start_in_other ws
declaration_other None ws = tt

start_other : (word : Option Keyword) (ws : List (List ℕ)) → IsOther (start_by word ws)
start_other (Some Class) ws = tt
start_other (Some Pool) ws = tt
start_other (Some Global) ws = tt
start_other (Some Start) ws = start_in_other ws
start_other None ws = tt

words_other : (says : Option Keyword → List (List ℕ) → Option Part) → ((word : Option Keyword) (ws : List (List ℕ)) → IsOther (says word ws)) → (ws : List (List ℕ)) → IsOther (by_words says ws)
words_other says other [] = tt
words_other says other (w ∷ ws) = other (keyword_named w) ws

opening_or : (b : Bool) (x : Option Part) → IsOther x → IsOther (if b then Some opening else x)
opening_or true x other = tt
opening_or false x other = other

-- without its category a header is no longer
short_header : (h : GroupHeader) → length (header_text (header_by (side_of h))) ≤ length (header_text h)
short_header h =
    let all = length-append h.class (side_text h.meta ++ (codes " methodsFor: " ++ quoted h.category)) in
    let side = length-append (side_text h.meta) (codes " methodsFor: " ++ quoted h.category) in
    let none = length-append h.class (side_text h.meta ++ (codes " methodsFor: " ++ quoted [])) in
    let none_side = length-append (side_text h.meta) (codes " methodsFor: " ++ quoted []) in
    let category = length-append (quotes_doubled h.category) (39 ∷ []) in
    omega (arith, all, side, none, none_side, category)

plain_heading : (h : GroupHeader) → IsHeading h → IsHeading (header_by (side_of h))
plain_heading h heading = record { named = heading.named; short = omega (arith, heading.short, short_header h) }

header_good : (side : Side) (chunk : List ℕ) (o : Option GroupHeader) (p : Part) → header_of chunk ≡ o → length chunk ≤ most → option_map (λ h. header (side_of h)) o ≡ Some p → IsGoodPart side p
header_good side chunk (Some h) p e short is =
    let q : header (side_of h) ≡ p = cc in
    subst (IsGoodPart side) q (plain_heading h (heading_sound chunk h short e))
header_good side chunk None p e short is = absurd cc

method_good : (side : Side) (chunk : List ℕ) (b : Bool) (p : Part) → is_empty chunk ≡ b → length chunk ≤ most → IsHeading (header_by side)
    → (if b then Some closing else Some (method (trimmed chunk))) ≡ Some p → IsGoodPart side p
method_good side chunk true p e short heading is = let q : closing ≡ p = cc in subst (IsGoodPart side) q tt
method_good side chunk false p e short heading is =
    let q : method (trimmed chunk) ≡ p = cc in
    subst (IsGoodPart side) q (method_sound (header_by side) (record fed_none { bytes = chunk }) heading short e, heading)

some_other : (side : Side) (x : Option Part) (p : Part) → IsOther x → x ≡ Some p → IsGoodPart side p
some_other side x p other is = other_good side p (subst IsOther is other)

part_good : (place : ChunkPlace) (side : Side) (chunk : List ℕ) (p : Part) → IsNamed place side → length chunk ≤ most → part_at place chunk ≡ Some p → IsGoodPart side p
part_good Declarations side chunk p names short is =
    some_other side (part_at Declarations chunk) p (opening_or (is_empty chunk) (by_words declaration_by (words chunk)) (words_other declaration_by declaration_other (words chunk))) is
part_good Groups side chunk p names short is =
    some_other side (part_at Groups chunk) p (opening_or (is_empty chunk) (by_words start_by (words chunk)) (words_other start_by start_other (words chunk))) is
part_good InHeader side chunk p names short is = header_good side chunk (header_of chunk) p refl short is
part_good Methods side chunk p names short is = method_good side chunk (is_empty chunk) p refl short names is
part_good End side chunk p names short is = absurd cc

formed_good : (place : ChunkPlace) (side : Side) (chunk : List ℕ) (p : Part) → IsNamed place side → formed_at place chunk ≡ Some p → IsGoodPart side p
formed_good place side chunk p names is = by_test (nat_le (length chunk) most)
    (λ e. part_good place side chunk p names (grind (arith, leb_tells (length chunk) most)) (rw e at is))
    (λ e. absurd (let none = rw e at is in cc))

-- THE TEXT

read_known : (place : ChunkPlace) (k : Known) (n : ℕ) (p : Part) (r : Result Known Cause) (read : Part × Known) → known_behind place k n p ≡ r → read_part place k n (Some p) ≡ Ok read → read.0 ≡ p
read_known place k n p (Ok after) read e is = let ok = rw e at is in cc
read_known place k n p (Err cause) read e is = let no = rw e at is in absurd cc

read_some : (place : ChunkPlace) (k : Known) (n : ℕ) (x : Option Part) (read : Part × Known) → read_part place k n x ≡ Ok read → x ≡ Some read.0
read_some place k n None read is = absurd cc
read_some place k n (Some p) read is = ap (λ q. Some q) (sym (read_known place k n p (known_behind place k n p) read refl is))

behind_good : (side : Side) (names : Names) (goes_on : ChunkPlace → Known → Account) (r : Result (Part × Known) Cause) → ((read : Part × Known) → r ≡ Ok read → IsGoodPart side read.0)
    → ((place : ChunkPlace) (k : Known) (next : Side) → IsNamed place next → AreDefinitions next (goes_on place k).parts) → AreDefinitions side (behind names goes_on r).parts
behind_good side names goes_on (Ok read) good others =
    let first = good read refl in
    with_others side read.0 (goes_on (behind_part read.0) read.1).parts first (others (behind_part read.0) read.1 (side_behind side read.0) (names_behind side read.0 first))
behind_good side names goes_on (Err cause) good others = tt

account_good : (place : ChunkPlace) (k : Known) (n : ℕ) (chunks : List (List ℕ)) (rest : List ℕ) (side : Side) → IsNamed place side → AreDefinitions side (account_from place k n chunks rest).parts
account_good place k n [] rest side named = tt
account_good place k n (c ∷ cs) rest side named =
    behind_good side k.names (λ next after. account_from next after (suc n) cs rest) (read_part place k n (formed_at place c))
    (λ read is. formed_good place side c read.0 named (read_some place k n (formed_at place c) read is))
    (λ next after other known. account_good next after (suc n) cs rest other known)

pub good_parts : (text : List ℕ) (side : Side) → AreDefinitions side (account text).parts
good_parts text side = account_good Declarations nothing 0 (cut text).chunks (cut text).rest side tt
