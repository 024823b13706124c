-- What a loader says at all times of what it has placed.
use Rattle.std.specs.Prelude.{◌≡◌, ℕ, ◌≤◌, length, Some, None}
use Rattle.st_model.specs.declared.place.RootPlace.{RootPlace}
use Rattle.st_model.specs.Objects.{Object, nil, one, words_of}
use Rattle.st_model.specs.Formed.{IsFormed}
use Rattle.st_model.specs.Table.{entry, total_used}
use Rattle.st_model.specs.Limits.{most_words}
use Rattle.st_model.specs.View.{View, held_at}

-- All that a whole memory says, but that what the objects refer to need not be there yet; and nothing is held.
pub record IsLoading (v : View) : Type 0 where
  pub places : length v.objects ≡ 32768
  pub unused : entry v.objects 0 ≡ None
  pub formed : (k : ℕ) (o : Object) → entry v.objects k ≡ Some o → IsFormed o
  pub held : (p : RootPlace) → held_at v.held p ≡ nil
  pub pending : length v.held.devices.pending ≡ 4096
  pub entries : total_used one v.objects ≤ v.head.entries
  pub words : total_used words_of v.objects ≤ v.head.words
  pub most_entries : v.head.entries ≤ 32767
  pub most_words : v.head.words ≤ most_words
