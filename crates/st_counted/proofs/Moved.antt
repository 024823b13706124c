-- Counts of a memory of which counts and links change.
use Rattle.std.proofs.Common.{◌≡◌, ℕ, List, sym, ap, ◌∙◌, subst}
use Rattle.std.specs.Prelude.{Option, None, slice_set}
use Rattle.st_model.specs.Values.{Value}
use Rattle.st_model.specs.Table.{Table}
use Rattle.st_model.specs.View.{View, head_of}
use Rattle.st_heap.specs.inside.Tables.{objects_of, room_of}
use Rattle.st_counted.specs.declared.contents.Contents.{Contents}
use Rattle.st_counted.specs.declared.contents.Head.{Head}
use Rattle.st_counted.specs.declared.roots.Roots.{Roots}
use Rattle.st_counted.specs.inside.Held.{held_of}
use Rattle.st_counted.specs.inside.References.{all_roots, IsCounted}
use Rattle.st_counted.specs.inside.Counted.{counted_view, SameButLinks}

abbrev view_with : Table → Roots → Head → View
view_with t r h = record { objects = t; held = held_of r; head = head_of h.capacity h.globals h.symbols }

-- it contains the same
pub same_view : (m l : Contents) → SameButLinks m l → counted_view l ≡ counted_view m
same_view m l r = ap (λ (t : Table). view_with t l.roots l.head) r.objects ∙ ap (λ (x : Roots). view_with (objects_of m.objects) x l.head) r.roots ∙ ap (λ (h : Head). view_with (objects_of m.objects) m.roots h) r.head

pub moved : (m l : Contents) (k : ℕ) (hand : List Value) (cs : List (Option ℕ)) → SameButLinks m l → IsCounted (slice_set (counted_view m).objects k None) (all_roots (counted_view m)) hand cs → IsCounted (slice_set (counted_view l).objects k None) (all_roots (counted_view l)) hand cs
moved m l k hand cs r h = subst (λ (v : View). IsCounted (slice_set v.objects k None) (all_roots v) hand cs) (sym (same_view m l r)) h

pub moved_whole : (m l : Contents) (hand : List Value) (cs : List (Option ℕ)) → SameButLinks m l → IsCounted (counted_view m).objects (all_roots (counted_view m)) hand cs → IsCounted (counted_view l).objects (all_roots (counted_view l)) hand cs
moved_whole m l hand cs r h = subst (λ (v : View). IsCounted v.objects (all_roots v) hand cs) (sym (same_view m l r)) h

-- where only its counts did
pub same_counts : (m l : Contents) → l ≡ record m { counts = l.counts } → SameButLinks m l
same_counts m l e = record {
  objects = ap (λ (y : Contents). objects_of y.objects) e;
  room = ap (λ (y : Contents). room_of y.objects) e;
  roots = ap (λ (y : Contents). y.roots) e;
  head = ap (λ (y : Contents). y.head) e;
}

pub same_twice : (m n l : Contents) → SameButLinks m n → SameButLinks n l → SameButLinks m l
same_twice m n l a b = record { objects = b.objects ∙ a.objects; room = b.room ∙ a.room; roots = b.roots ∙ a.roots; head = b.head ∙ a.head }
