-- What was asked for last is held: behind a line that asks to look at something its bytes, and behind a method what is
-- defined.
use Rattle.std.proofs.Common.{◌≡◌, ℕ, ◌-◌, Bool, true, List, length, take, drop, refl, sym, ap, ◌∙◌, subst}
use Rattle.std.specs.Prelude.{Option, Some, None}
use Rattle.std.specs.Option.{is_some}
use Rattle.st_chunk.specs.Groups.{trimmed}
use Rattle.st_chunk.specs.Definitions.{Definition, IsDefinition}
use Rattle.st_chunk.specs.declared.progress.Mode.{Mode}
use Rattle.st_chunk.specs.declared.progress.Mode.TheVariants as modes
use Rattle.st_chunk.specs.declared.progress.Progress.{Progress}
use Rattle.st_chunk.specs.Asks.{Ask}
use Rattle.st_chunk.specs.Lines.{line_ask}
use Rattle.st_chunk.specs.Reading.{behind_line}
use Rattle.st_chunk.specs.inside.Progress.{heading_of, place_in}
use Rattle.st_chunk.specs.Scripts.{method_of, IsBrowsed, HasAsk, IsDefined, IsSound}
use Rattle.st_chunk.proofs.Blanks.{tail_whole}

-- WHAT IS TO BE LOOKED AT

behind : (o : Option Ask) → IsBrowsed (behind_line o) → is_some o ≡ true
behind None there = absurd there
behind (Some ask) there = refl

told : (o : Option Ask) (a : Ask) → o ≡ Some a → HasAsk (behind_line o) a
told None a e = cc
told (Some ask) a e = cc

pub is_asked : (mode : Mode) (p : Progress) → IsBrowsed (place_in mode p) → is_some (line_ask p.text) ≡ true
is_asked modes.Behind p there = behind (line_ask p.text) there
is_asked modes.Line p there = absurd there
is_asked modes.Opened p there = absurd there
is_asked modes.Header p there = absurd there
is_asked modes.Methods p there = absurd there
is_asked modes.Defined p there = absurd there
is_asked modes.CutOff p there = absurd there
is_asked modes.Blanks p there = absurd there
is_asked modes.BehindBlanks p there = absurd there
is_asked modes.Over p there = absurd there

pub has_ask : (mode : Mode) (p : Progress) (a : Ask) → IsBrowsed (place_in mode p) → line_ask p.text ≡ Some a → HasAsk (place_in mode p) a
has_ask modes.Behind p a there e = told (line_ask p.text) a e
has_ask modes.Line p a there e = absurd there
has_ask modes.Opened p a there e = absurd there
has_ask modes.Header p a there e = absurd there
has_ask modes.Methods p a there e = absurd there
has_ask modes.Defined p a there e = absurd there
has_ask modes.CutOff p a there e = absurd there
has_ask modes.Blanks p a there e = absurd there
has_ask modes.BehindBlanks p a there e = absurd there
has_ask modes.Over p a there e = absurd there

pub ruleset held = (is_asked, has_ask)

-- A DEFINITION

abbrev parts : List ℕ → Bool → List ℕ → List ℕ → Definition
parts class meta category text = record { class = class; meta = meta; category = category; text = text }

no_definition : (o : Option Ask) → IsDefined (behind_line o) → ⊥
no_definition None there = there
no_definition (Some ask) there = there

pub good : (mode : Mode) (p : Progress) (d : Definition) → IsDefined (place_in mode p) → IsSound (place_in mode p) → d ≡ method_of (heading_of p) p.chunk → IsDefinition d
good modes.Defined p d there sound is = subst IsDefinition (sym is) sound.1
good modes.CutOff p d there sound is = subst IsDefinition (sym is) sound.1
good modes.Behind p d there sound is = absurd (no_definition (line_ask p.text) there)
good modes.Line p d there sound is = absurd there
good modes.Opened p d there sound is = absurd there
good modes.Header p d there sound is = absurd there
good modes.Methods p d there sound is = absurd there
good modes.Blanks p d there sound is = absurd there
good modes.BehindBlanks p d there sound is = absurd there
good modes.Over p d there sound is = absurd there

-- its class and category are those held, and its text is the chunk's
pub lent : (p : Progress) (held text : List ℕ) → held ≡ p.text → text ≡ trimmed p.chunk.bytes
    → parts (take p.class_length held) p.meta (take (length held - p.class_length) (drop p.class_length held)) text ≡ method_of (heading_of p) p.chunk
lent p held text e f =
    let k = p.class_length in
    ap (λ (h : List ℕ). parts (take k h) p.meta (take (length h - k) (drop k h)) text) e
    ∙ ap (λ (c : List ℕ). parts (take k p.text) p.meta c text) (tail_whole p.text k)
    ∙ ap (λ (t : List ℕ). parts (take k p.text) p.meta (drop k p.text) t) f
