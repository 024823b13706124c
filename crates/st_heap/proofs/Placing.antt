-- The places of a store.
use Rattle.std.proofs.Common.{◌≡◌, ℕ, ◌/◌, ◌<◌, false, length, is_some, ap, ◌∙◌, arith}
use Rattle.std.specs.Option.{option_map}
use Rattle.std.proofs.lemmas.List.{length-map}
use Rattle.st_model.specs.Values.{Ref}
use Rattle.st_model.specs.Table.{Table, first_free}
use Rattle.st_model.specs.View.{is_live}
use Rattle.st_model.proofs.TableLemmas.{first_free-none}
use Rattle.st_heap.specs.inside.Heaps.{words_of, blocks_of}
use Rattle.st_heap.specs.declared.store.BlockStore.{BlockStore}
use Rattle.st_heap.specs.inside.Stores.{stored_of}
use Rattle.st_heap.specs.inside.Forms.{object_from, objects_in}
use Rattle.st_heap.proofs.Storing.{length-all}

pub length-stored : (s : BlockStore) → length (stored_of s) ≡ 32768
length-stored s = length-all (words_of s.heap) (blocks_of s.heap) s.table ∙ s.places

pub length-objects : (s : BlockStore) → length (objects_in (stored_of s)) ≡ 32768
length-objects s = length-map (stored_of s) (option_map object_from) ∙ length-stored s

-- each pointer has its place
pub place_within : (s : BlockStore) (w : ℕ) → w < 65536 → w / 2 < length (stored_of s)
place_within s w small = let long = length-stored s in omega (arith, small, long)

-- the first free name is that of no object
pub free_dead : (t : Table) → is_live t (Ref (first_free t)) ≡ false
unfolding is_live
free_dead t = ap is_some (first_free-none t)
