-- Words of 16 bits where they are SmallIntegers.
use Rattle.std.specs.Prelude.{◌≡◌, ◌≤◌, true}
use Rattle.st_model.specs.declared.word.Word.{Word}
use Rattle.st_model.specs.Values.{word, is_small}

abbrev pub IsNarrow : Word → Type 0
IsNarrow w = is_small (word w) ≡ true → w.0 ≤ 65535
