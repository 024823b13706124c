use Rattle.std.proofs.Common.{◌≡◌, ◌∙◌, inl, ℕ, List, true, IsTrue, length, refl, subst, ap, arith}
use Rattle.std.proofs.lemmas.Result.{err_from_is_err_and}
use Rattle.std.specs.Prelude.{Some, Err}
use Rattle.st_host.specs.Runs.{ChangesOneFile}
use Rattle.st_host.proofs.Rising.{rose_second}
use Rattle.st_host.proofs.Touching.{above_changes}
use Rattle.st_store.specs.Names.{image_file}
use Rattle.st_store.specs.declared.fault.StoreFault.TheVariants.{Disk}
use Rattle.st_recover.specs.Commits.{image_with}
use Rattle.st_recover.proofs.Images.{image_is, image_readable}
use Rattle.st_recover.proofs.Making.{cleared_rest, empty_rest, founds_broken, clearing, imaging, still_empty, founding, behind, image_stands, found_makes, found_kept, found_files, found_store, roots_spared, image_spared, found_spared}
use Rattle.st_recover.proofs.creating.create.Goals as goal

pub returns-in_err-new_store : goal.returns-in_err-new_store
returns-in_err-new_store g c =
    let H = g.H.Host in
    let v = g.M.Memory.view c.args.m.now in
    let name = c.args.name.now in
    let image = image_with v.objects v.head in
    let a = c.args.host.now in
    let b = c.clear.new.host in
    let cleared = c.clear.ensures.only in
    let first = λ (told : IsTrue H.is_told). clearing H name image a b (c.clear.ensures.moments told) in
    let failed = c.in_err-new_store.ensures in
    let p = err_from_is_err_and c.from_residual.result c.from_residual.ensures.1 in
    rw (p.1, p.2) (record {
      store = tt;
      kept = tt;
      files = tt;
      none = tt;
      refused = failed.refused;
      kind = failed.kind;
      writes_nothing = failed.writes_nothing;
      moments = first;
      left = λ f told can. behind H name image a b told (λ g2 s here. g.met.H.Host.counts_now b (H.moment a) g2 s told (first told).later here) (first told) f can;
      broken = λ told. inl (cleared_rest H name a b (λ g2 s here. g.met.H.Host.counts_now b (H.moment a) g2 s told (first told).later here) (c.clear.ensures.moments told));
      quiet = cleared.quiet;
      spares = roots_spared H name a b b cleared;
      say_count = cleared.say;
      cause = record { later = failed.cause.later; rose = λ disk. let same : c.in_err-new_store.field-0.0 ≡ Disk = cc in failed.cause.rose (ap Err same) };
    })

pub returns-in_err-image_length : goal.returns-in_err-image_length
returns-in_err-image_length g c =
    let H = g.H.Host in
    let v = g.M.Memory.view c.args.m.now in
    let name = c.args.name.now in
    let image = image_with v.objects v.head in
    let a = c.args.host.now in
    let b = c.clear.new.host in
    let cleared = c.clear.ensures.only in
    let first = λ (told : IsTrue H.is_told). clearing H name image a b (c.clear.ensures.moments told) in
    let d = c.write.new.host in
    let is : c.image_name.result.now ≡ image_file name 0 = c.image_name.ensures ∙ ap (λ (n : List ℕ). image_file n 0) c.in_ok-new_store.ensures.named in
    let wrote = subst (λ (n : List ℕ). ChangesOneFile H n b d) is (above_changes H c.image_name.result.now 0 b d c.write.ensures.writes) in
    let none = c.in_ok-new_store.ensures.none in
    let empty = c.in_ok-new_store.ensures.empty in
    let second = λ (told : IsTrue H.is_told). imaging H name image a b told (none told) (empty told) (cleared.quiet told) d (first told) wrote in
    let p = err_from_is_err_and c.from_residual-in_err-image_length.result c.from_residual-in_err-image_length.ensures.1 in
    rw (p.1, p.2) (record {
      store = tt;
      kept = tt;
      files = tt;
      none = tt;
      refused = λ told. tt;
      kind = tt;
      writes_nothing = λ other. absurd (other refl);
      moments = second;
      broken = λ told. inl (empty_rest H name a d (none told) (still_empty H name image a b told (none told) (empty told) (cleared.quiet told) d wrote));
      left = λ f told can. behind H name image a d told (λ g2 s here. g.met.H.Host.counts_now d (H.moment a) g2 s told (second told).later here) (second told) f can;
      quiet = λ told. wrote.quiet told ∙ cleared.quiet told;
      spares = image_spared H name a b d cleared wrote;
      say_count = wrote.say ∙ cleared.say;
      cause = record { later = omega (arith, cleared.disk, wrote.disk); rose = λ disk. rose_second (H.disk_faults a) (H.disk_faults b) (H.disk_faults d) cleared.disk (c.in_err-image_length.ensures.cause.rose (refl {a = true})) };
    })

pub returns-in_err-store : goal.returns-in_err-store
returns-in_err-store g c =
    let H = g.H.Host in
    let v = g.M.Memory.view c.args.m.now in
    let name = c.args.name.now in
    let image = image_with v.objects v.head in
    let a = c.args.host.now in
    let b = c.clear.new.host in
    let cleared = c.clear.ensures.only in
    let first = λ (told : IsTrue H.is_told). clearing H name image a b (c.clear.ensures.moments told) in
    let d = c.write.new.host in
    let is : c.image_name.result.now ≡ image_file name 0 = c.image_name.ensures ∙ ap (λ (n : List ℕ). image_file n 0) c.in_ok-new_store.ensures.named in
    let wrote = subst (λ (n : List ℕ). ChangesOneFile H n b d) is (above_changes H c.image_name.result.now 0 b d c.write.ensures.writes) in
    let none = c.in_ok-new_store.ensures.none in
    let empty = c.in_ok-new_store.ensures.empty in
    let second = λ (told : IsTrue H.is_told). imaging H name image a b told (none told) (empty told) (cleared.quiet told) d (first told) wrote in
    let e = c.found.new.host in
    let l = c.in_ok-image_length.image_length in
    let long : l ≡ length image = c.in_ok-image_length.ensures.length ∙ ap length (image_is v) in
    let named = c.in_ok-new_store.ensures.named in
    let reads = λ (told : IsTrue H.is_told). c.in_ok-image_length.ensures.file told ∙ ap Some (image_is v) in
    let firm = λ (told : IsTrue H.is_told). image_stands H name image c.image_name.result.now d told is (reads told) c.in_ok-image_length.ensures.synced in
    let still = λ (told : IsTrue H.is_told). still_empty H name image a b told (none told) (empty told) (cleared.quiet told) d wrote in
    let makes = λ (told : IsTrue H.is_told). found_makes H name image d e c.in_ok-new_store.new_store l named long (still told) (firm told) c.found.result (λ im x y. c.found.ensures.makes im told x y) in
    let third = λ (told : IsTrue H.is_told). founding H name image a b told (none told) (empty told) (cleared.quiet told) d e c.found.result
    (image_readable v (g.met.M.Memory.whole c.args.m.now) c.requires.starts) (second told) (wrote.quiet told) (makes told) in
    let founds = c.found.ensures.changes in
    let p = err_from_is_err_and c.from_residual-in_err-store.result c.from_residual-in_err-store.ensures.1 in
    rw (p.1, p.2) (record {
      store = tt;
      kept = tt;
      files = tt;
      none = tt;
      refused = λ told. tt;
      kind = tt;
      writes_nothing = λ other. absurd (other refl);
      moments = third;
      broken = λ told. founds_broken H name a d (none told) e c.in_ok-new_store.new_store named (still told) (λ x. c.in_err-store.ensures.broken told x);
      left = λ f told can. behind H name image a e told (λ g2 s here. g.met.H.Host.counts_now e (H.moment a) g2 s told (third told).later here) (third told) f can;
      quiet = λ told. founds.quiet told ∙ wrote.quiet told ∙ cleared.quiet told;
      spares = found_spared H name a b d e c.in_ok-new_store.new_store named cleared wrote founds;
      say_count = founds.say ∙ wrote.say ∙ cleared.say;
      cause = record {
        later = omega (arith, cleared.disk, wrote.disk, founds.disk);
        rose = λ disk. rose_second (H.disk_faults a) (H.disk_faults d) (H.disk_faults e) (omega (arith, cleared.disk, wrote.disk)) (c.in_err-store.ensures.cause.rose (refl {a = true}));
      };
    })

pub returns : goal.returns
returns g c =
    let H = g.H.Host in
    let v = g.M.Memory.view c.args.m.now in
    let name = c.args.name.now in
    let image = image_with v.objects v.head in
    let a = c.args.host.now in
    let b = c.clear.new.host in
    let cleared = c.clear.ensures.only in
    let first = λ (told : IsTrue H.is_told). clearing H name image a b (c.clear.ensures.moments told) in
    let d = c.write.new.host in
    let is : c.image_name.result.now ≡ image_file name 0 = c.image_name.ensures ∙ ap (λ (n : List ℕ). image_file n 0) c.in_ok-new_store.ensures.named in
    let wrote = subst (λ (n : List ℕ). ChangesOneFile H n b d) is (above_changes H c.image_name.result.now 0 b d c.write.ensures.writes) in
    let none = c.in_ok-new_store.ensures.none in
    let empty = c.in_ok-new_store.ensures.empty in
    let second = λ (told : IsTrue H.is_told). imaging H name image a b told (none told) (empty told) (cleared.quiet told) d (first told) wrote in
    let e = c.found.new.host in
    let l = c.in_ok-image_length.image_length in
    let long : l ≡ length image = c.in_ok-image_length.ensures.length ∙ ap length (image_is v) in
    let named = c.in_ok-new_store.ensures.named in
    let reads = λ (told : IsTrue H.is_told). c.in_ok-image_length.ensures.file told ∙ ap Some (image_is v) in
    let firm = λ (told : IsTrue H.is_told). image_stands H name image c.image_name.result.now d told is (reads told) c.in_ok-image_length.ensures.synced in
    let still = λ (told : IsTrue H.is_told). still_empty H name image a b told (none told) (empty told) (cleared.quiet told) d wrote in
    let makes = λ (told : IsTrue H.is_told). found_makes H name image d e c.in_ok-new_store.new_store l named long (still told) (firm told) c.found.result (λ im x y. c.found.ensures.makes im told x y) in
    let third = λ (told : IsTrue H.is_told). founding H name image a b told (none told) (empty told) (cleared.quiet told) d e c.found.result
    (image_readable v (g.met.M.Memory.whole c.args.m.now) c.requires.starts) (second told) (wrote.quiet told) (makes told) in
    let founds = c.found.ensures.changes in
    let made = c.in_ok-store.ensures in
    record {
      store = found_store name image c.in_ok-new_store.new_store l c.in_ok-store.store named long made.store;
      kept = λ told. found_kept H name image d e c.in_ok-new_store.new_store l named long (still told) (firm told) c.in_ok-store.store (λ im x y. made.kept im told x y);
      files = λ told. found_files H name image d e c.in_ok-new_store.new_store l named long (still told) (firm told) told
          (subst (λ (n : List ℕ). H.files d n ≡ Some image) is (reads told)) founds (λ x. made.bytes told x) (made.emptied told);
      none = none;
      refused = tt;
      kind = tt;
      writes_nothing = tt;
      moments = third;
      broken = tt;
      left = λ f told can. behind H name image a e told (λ g2 s here. g.met.H.Host.counts_now e (H.moment a) g2 s told (third told).later here) (third told) f can;
      quiet = λ told. founds.quiet told ∙ wrote.quiet told ∙ cleared.quiet told;
      spares = found_spared H name a b d e c.in_ok-new_store.new_store named cleared wrote founds;
      say_count = founds.say ∙ wrote.say ∙ cleared.say;
      cause = record { later = omega (arith, cleared.disk, wrote.disk, founds.disk); rose = λ disk. cc };
    }
