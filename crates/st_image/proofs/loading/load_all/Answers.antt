use Rattle.std.proofs.Common.{◌≡◌, ◌<◌, ◌≤◌, sym, ap, ◌∙◌, arith, add-one}
use Rattle.st_model.specs.Values.{Ref}
use Rattle.st_model.specs.Table.{Table}
use Rattle.st_model.specs.View.{with_object}
use Rattle.st_model.specs.Start.{object_in}
use Rattle.st_model.specs.Image.{entries_of}
use Rattle.st_model.specs.Machine.{Head}
use Rattle.st_image.specs.inside.Loads.{loaded_below}
use Rattle.st_image.proofs.Clean.{clean_sound}
use Rattle.st_image.proofs.Entries.{room, all_loaded, entry_used, entry_free}
use Rattle.st_image.proofs.loading.load_all.Goals as goal
use Rattle.st_image.proofs.loading.load_all.Goals.{then-is_used, else-is_used}

pub load_object-requires-clause-sound : goal.load_object-requires-clause-sound
load_object-requires-clause-sound g c =
    let k_in : c.loop-k.k < entries_of c.args.image.now.head = omega arith in
    clean_sound c.args.image.now.head c.args.image.now.bytes.now c.requires.clean c.loop-k.k k_in (sym c.is_used.ensures ∙ c.if-is_used.true)

pub load_object-requires-clause-room : goal.load_object-requires-clause-room
load_object-requires-clause-room g c =
    let few : entries_of c.args.image.now.head ≤ 32768 = c.args.image.now.sized.few in
    let k_in : c.loop-k.k < entries_of c.args.image.now.head = omega arith in
    let head = c.loop-k.invariant.head ∙ c.requires.head in
    room c.args.image.now.head c.args.image.now.bytes.now (g.L.Loader.loaded c.loop-k.loader) (g.L.Loader.loaded c.args.loader.now).objects c.loop-k.k k_in few c.requires.clean c.requires.empty c.loop-k.invariant.objects
    (ap (λ (x : Head). x.entries) head) (ap (λ (x : Head). x.words) head) (sym c.is_used.ensures ∙ c.if-is_used.true)

pub loop-k-preserved : goal.loop-k-preserved
loop-k-preserved g c =
    let k_in : c.loop-k.k < entries_of c.args.image.now.head = omega arith in
    elim c.if-is_used.branch [
      | then-is_used w ↦
          let e = entry_used c.args.image.now.head c.args.image.now.bytes.now c.loop-k.k (sym c.is_used.ensures ∙ w.if-is_used.true) in
          record {
            objects = rw (w.loader-is, add-one, e) (w.load_object.ensures.objects ∙ ap (λ (t : Table). with_object t (Ref c.loop-k.k) (object_in c.args.image.now.head c.args.image.now.bytes.now c.loop-k.k)) c.loop-k.invariant.objects);
            held = rw w.loader-is (w.load_object.ensures.held ∙ c.loop-k.invariant.held);
            head = rw w.loader-is (w.load_object.ensures.head ∙ c.loop-k.invariant.head);
          }
      | else-is_used w ↦
          let e = entry_free c.args.image.now.head c.args.image.now.bytes.now c.loop-k.k (sym c.is_used.ensures ∙ w.if-is_used.false) in
          record {
            objects = rw (w.loader-is, add-one, e) c.loop-k.invariant.objects;
            held = rw w.loader-is c.loop-k.invariant.held;
            head = rw w.loader-is c.loop-k.invariant.head;
          }
    ]

pub returns-clause-objects : goal.returns-clause-objects
returns-clause-objects g c =
    let few : entries_of c.args.image.now.head ≤ 32768 = c.args.image.now.sized.few in
    let e : c.loop-k.k ≡ entries_of c.args.image.now.head = omega arith in
    c.loop-k.invariant.objects ∙ (ap (λ n. loaded_below c.args.image.now.head c.args.image.now.bytes.now (g.L.Loader.loaded c.args.loader.now).objects n) e ∙ all_loaded c.args.image.now.head c.args.image.now.bytes.now (g.L.Loader.loaded c.args.loader.now).objects few c.requires.clean c.requires.empty)
