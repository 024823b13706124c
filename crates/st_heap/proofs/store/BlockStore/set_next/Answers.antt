use Rattle.std.proofs.Common.{◌/◌, None, get_or, ◌∙◌}
use Rattle.st_table.specs.inside.Entries.{with_next}
use Rattle.st_heap.specs.inside.Heaps.{words_of, blocks_of}
use Rattle.st_heap.specs.inside.Links.{next_in, before_in}
use Rattle.st_heap.proofs.Linking.{next_relinks, next_here, before_beside, stored_entered, has_entry, relinked_stored, relinked_stays, relinked_here, relinked_other, relinked_beside, relinked_places}
use Rattle.st_heap.proofs.store.BlockStore.set_next.Goals as goal

pub set_next-requires : goal.set_next-requires
set_next-requires c =
    let s = c.args.self.now in stored_entered (words_of s.heap) (blocks_of s.heap) s.table (c.args.o.0 / 2) c.requires

pub invariant_of-self : goal.invariant_of-self
invariant_of-self c =
    let stays = relinked_stays (λ x. with_next x c.args.next) (next_relinks c.args.next) c.args.self.now (c.args.o.0 / 2) c.set_next.new.self c.set_next.ensures c.requires in
    record { tied = stays.tied; places = stays.places; counted = stays.counted; held = c.args.self.now.held }

pub returns-clause-stored : goal.returns-clause-stored
returns-clause-stored c = relinked_stored (λ x. with_next x c.args.next) (next_relinks c.args.next) c.args.self.now (c.args.o.0 / 2) c.set_next.new.self c.set_next.ensures c.requires

pub returns-clause-links : goal.returns-clause-links
returns-clause-links c = record {
  here = relinked_here (λ x. with_next x c.args.next) (next_relinks c.args.next) c.args.self.now (c.args.o.0 / 2) c.set_next.new.self c.set_next.ensures c.requires next_in ∙ next_here (get_or c.args.self.now.table (c.args.o.0 / 2) None) c.args.next (has_entry (λ x. with_next x c.args.next) (next_relinks c.args.next) c.args.self.now (c.args.o.0 / 2) c.set_next.new.self c.set_next.ensures c.requires);
  others = relinked_other (λ x. with_next x c.args.next) (next_relinks c.args.next) c.args.self.now (c.args.o.0 / 2) c.set_next.new.self c.set_next.ensures c.requires next_in;
  before = relinked_beside (λ x. with_next x c.args.next) (next_relinks c.args.next) c.args.self.now (c.args.o.0 / 2) c.set_next.new.self c.set_next.ensures c.requires before_in (λ x. before_beside x c.args.next);
}

pub returns-clause-places : goal.returns-clause-places
returns-clause-places c = relinked_places (λ x. with_next x c.args.next) (next_relinks c.args.next) c.args.self.now (c.args.o.0 / 2) c.set_next.new.self c.set_next.ensures c.requires
