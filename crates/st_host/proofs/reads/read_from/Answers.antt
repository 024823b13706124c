use Rattle.std.proofs.Common.{◌≡◌, ℕ, ◌+◌, ◌-◌, ◌≤◌, List, ◌++◌, length, take, drop, IsTrue, sym, subst, ap, ◌∙◌, arith, length-take, length-drop, length-append}
use Rattle.std.proofs.lemmas.List.{take-append-le, drop-drop, length-take-le}
use Rattle.std.proofs.Math.Seq.{take-add, take-append-add}
use Rattle.st_host.specs.Files.{bytes_of, Reads}
use Rattle.st_host.proofs.Joining.{reads_join, alike_join}
use Rattle.st_host.proofs.Touching.{changes_join}
use Rattle.st_host.proofs.reads.read_from.Goals as goal

-- what stands in the slice after one read more
more : (at done k : ℕ) (file into part tail : List ℕ) → done ≤ length into → k ≤ length part
    → take done into ≡ take done (drop at file) → take k part ≡ take k (drop (at + done) file)
    → take (done + k) (take done into ++ (part ++ tail)) ≡ take (done + k) (drop at file)
more at done k file into part tail in_slice in_part so_far now =
    let long : length (take done into) ≡ done = length-take-le done into in_slice in
    ap (λ n. take (n + k) (take done into ++ (part ++ tail))) (sym long)
    ∙ take-append-add (take done into) (part ++ tail) k
    ∙ ap (λ x. take done into ++ x) (take-append-le k part tail in_part ∙ now ∙ ap (take k) (sym (drop-drop done at file)))
    ∙ ap (λ x. x ++ take k (drop done (drop at file))) so_far
    ∙ sym (take-add done k (drop at file))

pub loop-done-preserved : goal.loop-done-preserved
loop-done-preserved g c =
    let inv = c.loop-done.invariant in
    let w = c.in_ok-count.ensures in
    let k = c.in_ok-count.count in
    let done = c.loop-done.done in
    let into = c.loop-done.into in
    let part = c.read_some.new.into in
    let tail = drop (length into - done) (drop done into) in
    let file = bytes_of (g.H.Host.files c.args.host.now c.args.name.now) in
    let known_long = simp (length-take, length-drop) at c.read_some.auto.into in
    let long : length part ≡ length into - done = omega (arith, known_long) in
    let known_room = simp (length-take, length-drop) at w.within in
    let room : k ≤ length into - done = omega (arith, known_room) in
    let reads : IsTrue g.H.Host.is_told → Reads file (c.args.at + done) k part = λ told.
    subst (λ x. Reads (bytes_of x) (c.args.at + done) k part) (inv.alike.same told c.args.name.now) (w.some told) in
    record {
      bound = omega (arith, room, long, inv.bound, length-append (take done into) (part ++ tail), length-append part tail, length-take done into);
      within = λ told. omega (arith, (reads told).within, inv.within told);
      bytes = λ told. more c.args.at done k file into part tail inv.bound (omega (arith, room, long)) (inv.bytes told) (reads told).bytes;
      alike = alike_join g.H.Host c.args.host.now c.loop-done.host c.read_some.new.host inv.alike w.alike;
      reads = reads_join g.H.Host c.args.host.now c.loop-done.host c.read_some.new.host inv.reads c.read_some.ensures.reads;
      changes = changes_join g.H.Host c.args.name.now c.args.host.now c.loop-done.host c.read_some.new.host inv.changes c.read_some.ensures.changes;
    }
