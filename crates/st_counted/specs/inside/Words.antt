-- The word of nil.
use Rattle.st_model.specs.declared.oop.Oop.{Oop}

abbrev pub nil_word : Oop
nil_word = record { 0 = 2 }
