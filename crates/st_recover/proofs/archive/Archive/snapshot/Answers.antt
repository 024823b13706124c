use Rattle.std.proofs.Common.{◌≡◌, List, ℕ, length, IsTrue, Some, refl, sym, ap, ◌∙◌, subst}
use Rattle.std.specs.Prelude.{Ok}
use Rattle.st_host.specs.Runs.{Spares}
use Rattle.st_host.proofs.Joining.{makes_of}
use Rattle.st_host.proofs.Touching.{above_changes, changes_spare, spares_join}
use Rattle.st_store.specs.Names.{roots_file, image_file, IsNoFileOf}
use Rattle.st_store.specs.Stored.{StoreState, Opens}
use Rattle.st_store.proofs.Others.{image_roots}
use Rattle.st_store.specs.declared.root.Root.{Root}
use Rattle.st_recover.specs.inside.Archives.{ArchiveState, IsStoreOf, IsBesideImage}
use Rattle.st_recover.specs.Commits.{image_with, other_image}
use Rattle.st_recover.proofs.Images.{image_is, image_readable}
use Rattle.st_recover.proofs.Holding.{some_same, for_store, store_imaged, unwritten_makes, unwritten_broken, snapshot_makes, snapshot_broken, snapshot_holds}
use Rattle.st_store.proofs.Settling.{when_err}
use Rattle.st_recover.proofs.archive.Archive.snapshot.Goals as goal

pub returns-in_err-image_length-clause-makes : goal.returns-in_err-image_length-clause-makes
returns-in_err-image_length-clause-makes g c x told holds =
    let H = g.H.Host in
    let v = g.M.Memory.view c.args.m.now in
    let image = image_with v.objects v.head in
    let a = c.args.host.now in
    let b = c.write.new.host in
    let old = c.args.self.now in
    let st = c.in-Some.store in
    let there = ap (λ (s : ArchiveState). s.store) (sym c.self.view_is) ∙ sym c.take.ensures.value ∙ c.in-Some.is in
    let at = c.other_image-other.result in
    let at_is : at ≡ other_image st.root.slot = c.other_image-other.ensures ∙ ap (λ (r : Root). other_image r.slot) c.root-slot.ensures in
    let file = c.image_name.result.now in
    unwritten_makes H a old st x holds there b image file (image_readable v (g.met.M.Memory.whole c.args.m.now) c.requires.starts) st.root at at_is c.image_name.ensures c.write.ensures.writes c.write.result c.from_residual.result c.from_residual.ensures.0 told

pub returns-in_err-commit-clause-makes : goal.returns-in_err-commit-clause-makes
returns-in_err-commit-clause-makes g c x told holds =
    let H = g.H.Host in
    let v = g.M.Memory.view c.args.m.now in
    let image = image_with v.objects v.head in
    let a = c.args.host.now in
    let b = c.write.new.host in
    let old = c.args.self.now in
    let st = c.in-Some.store in
    let there = ap (λ (s : ArchiveState). s.store) (sym c.self.view_is) ∙ sym c.take.ensures.value ∙ c.in-Some.is in
    let at = c.other_image-other.result in
    let at_is : at ≡ other_image st.root.slot = c.other_image-other.ensures ∙ ap (λ (r : Root). other_image r.slot) c.root-slot.ensures in
    let file = c.image_name.result.now in
    let l = c.in_ok-image_length.image_length in
    let n = c.root-slot.result.length in
    let root : Root = record { slot = at; image_length = l; base = n; length = n } in
    let long : l ≡ length image = c.in_ok-image_length.ensures.length ∙ ap length (image_is v) in
    let n_is = ap (λ (r : Root). r.length) c.root-slot.ensures in
    let e = c.commit.new.host in
    snapshot_makes H a old st x holds there b image file (image_readable v (g.met.M.Memory.whole c.args.m.now) c.requires.starts) root at at_is c.image_name.ensures c.write.ensures.writes (λ told. c.in_ok-image_length.ensures.file told ∙ ap Some (image_is v)) c.in_ok-image_length.ensures.synced refl long n_is n_is
    e c.write.result c.commit.result c.from_residual-in_err-commit.result (λ y z told kept firm is. c.commit.ensures.makes y z told kept firm is)
    (λ y z makes. makes_of H (Opens st.name) y z b e c.commit.result c.from_residual-in_err-commit.result c.from_residual-in_err-commit.ensures.0 makes) told

pub returns-clause-length : goal.returns-clause-length
returns-clause-length g c =
    let v = g.M.Memory.view c.args.m.now in
    c.in_ok-image_length.ensures.length ∙ ap length (image_is v)

pub returns-clause-makes : goal.returns-clause-makes
returns-clause-makes g c x told holds =
    let H = g.H.Host in
    let v = g.M.Memory.view c.args.m.now in
    let image = image_with v.objects v.head in
    let a = c.args.host.now in
    let b = c.write.new.host in
    let old = c.args.self.now in
    let st = c.in-Some.store in
    let there = ap (λ (s : ArchiveState). s.store) (sym c.self.view_is) ∙ sym c.take.ensures.value ∙ c.in-Some.is in
    let at = c.other_image-other.result in
    let at_is : at ≡ other_image st.root.slot = c.other_image-other.ensures ∙ ap (λ (r : Root). other_image r.slot) c.root-slot.ensures in
    let file = c.image_name.result.now in
    let l = c.in_ok-image_length.image_length in
    let n = c.root-slot.result.length in
    let root : Root = record { slot = at; image_length = l; base = n; length = n } in
    let long : l ≡ length image = c.in_ok-image_length.ensures.length ∙ ap length (image_is v) in
    let n_is = ap (λ (r : Root). r.length) c.root-slot.ensures in
    let e = c.commit.new.host in
    snapshot_makes H a old st x holds there b image file (image_readable v (g.met.M.Memory.whole c.args.m.now) c.requires.starts) root at at_is c.image_name.ensures c.write.ensures.writes (λ told. c.in_ok-image_length.ensures.file told ∙ ap Some (image_is v)) c.in_ok-image_length.ensures.synced refl long n_is n_is
    e c.write.result (Ok c.in_ok-commit.field-0) _ (λ y z told kept firm is. c.in_ok-commit.ensures.makes y z told kept firm is)
    (λ y z makes. record { rest = makes.rest; either = makes.either; quiet = makes.quiet; moments = makes.moments }) told

pub returns-clause-holds : goal.returns-clause-holds
returns-clause-holds g c x holds =
    let H = g.H.Host in
    let v = g.M.Memory.view c.args.m.now in
    let image = image_with v.objects v.head in
    let a = c.args.host.now in
    let b = c.write.new.host in
    let old = c.args.self.now in
    let st = c.in-Some.store in
    let there = ap (λ (s : ArchiveState). s.store) (sym c.self.view_is) ∙ sym c.take.ensures.value ∙ c.in-Some.is in
    let at = c.other_image-other.result in
    let at_is : at ≡ other_image st.root.slot = c.other_image-other.ensures ∙ ap (λ (r : Root). other_image r.slot) c.root-slot.ensures in
    let file = c.image_name.result.now in
    let l = c.in_ok-image_length.image_length in
    let n = c.root-slot.result.length in
    let root : Root = record { slot = at; image_length = l; base = n; length = n } in
    let long : l ≡ length image = c.in_ok-image_length.ensures.length ∙ ap length (image_is v) in
    let n_is = ap (λ (r : Root). r.length) c.root-slot.ensures in
    let e = c.commit.new.host in
    snapshot_holds H a old st x holds there b image file (image_readable v (g.met.M.Memory.whole c.args.m.now) c.requires.starts) root at at_is c.image_name.ensures c.write.ensures.writes (λ told. c.in_ok-image_length.ensures.file told ∙ ap Some (image_is v)) c.in_ok-image_length.ensures.synced refl long n_is n_is
    e _ c.in_ok-commit.field-0 (ap (λ (s : ArchiveState). s.name) c.self.view_is) refl (ap (λ (s : ArchiveState). s.listed) c.self.view_is) c.in_ok-commit.ensures.store
    (λ y z told kept firm is. c.in_ok-commit.ensures.kept y z told kept firm is)

pub returns-in_err-image_length-clause-broken : goal.returns-in_err-image_length-clause-broken
returns-in_err-image_length-clause-broken g c = when_err c.from_residual.result _ (λ x told holds.
    let H = g.H.Host in
    let v = g.M.Memory.view c.args.m.now in
    let image = image_with v.objects v.head in
    let a = c.args.host.now in
    let b = c.write.new.host in
    let old = c.args.self.now in
    let st = c.in-Some.store in
    let there = ap (λ (s : ArchiveState). s.store) (sym c.self.view_is) ∙ sym c.take.ensures.value ∙ c.in-Some.is in
    let at = c.other_image-other.result in
    let at_is : at ≡ other_image st.root.slot = c.other_image-other.ensures ∙ ap (λ (r : Root). other_image r.slot) c.root-slot.ensures in
    let file = c.image_name.result.now in
    unwritten_broken H a old st x holds there b image file (image_readable v (g.met.M.Memory.whole c.args.m.now) c.requires.starts) st.root at at_is c.image_name.ensures c.write.ensures.writes c.write.result told)

pub returns-in_err-commit-clause-broken : goal.returns-in_err-commit-clause-broken
returns-in_err-commit-clause-broken g c = when_err c.from_residual-in_err-commit.result _ (λ x told holds.
    let H = g.H.Host in
    let v = g.M.Memory.view c.args.m.now in
    let image = image_with v.objects v.head in
    let a = c.args.host.now in
    let b = c.write.new.host in
    let old = c.args.self.now in
    let st = c.in-Some.store in
    let there = ap (λ (s : ArchiveState). s.store) (sym c.self.view_is) ∙ sym c.take.ensures.value ∙ c.in-Some.is in
    let at = c.other_image-other.result in
    let at_is : at ≡ other_image st.root.slot = c.other_image-other.ensures ∙ ap (λ (r : Root). other_image r.slot) c.root-slot.ensures in
    let file = c.image_name.result.now in
    let l = c.in_ok-image_length.image_length in
    let n = c.root-slot.result.length in
    let root : Root = record { slot = at; image_length = l; base = n; length = n } in
    let long : l ≡ length image = c.in_ok-image_length.ensures.length ∙ ap length (image_is v) in
    let n_is = ap (λ (r : Root). r.length) c.root-slot.ensures in
    snapshot_broken H a old st x holds there b image file (image_readable v (g.met.M.Memory.whole c.args.m.now) c.requires.starts) root at at_is c.image_name.ensures c.write.ensures.writes (λ told. c.in_ok-image_length.ensures.file told ∙ ap Some (image_is v)) c.in_ok-image_length.ensures.synced refl long n_is n_is
    c.commit.new.host (λ y z told kept firm is. c.in_err-commit.ensures.broken y z told kept firm is) told)

pub invariant_of-self-2 : goal.invariant_of-self-2
invariant_of-self-2 g c =
    let inside = c.self.inside.changes in
    let st = c.in-Some.store in
    let was : IsStoreOf inside.name inside.second inside.listed st = c.self.invariant st (sym c.take.ensures.value ∙ c.in-Some.is) in
    let is = c.in_ok-commit.ensures.store in
    let next = store_imaged inside.name inside.second inside.listed st c.in_ok-commit.field-0 was (ap (λ (s : StoreState). s.name) is)
    (ap (λ (s : StoreState). s.root.slot) is ∙ c.other_image-other.ensures ∙ ap (λ (r : Root). other_image r.slot) c.root-slot.ensures)
    (ap (λ (s : StoreState). s.root.length) is ∙ ap (λ (r : Root). r.length) c.root-slot.ensures) in
    λ y e. subst (λ (s : StoreState). IsStoreOf inside.name inside.second inside.listed s) (some_same e) next

pub returns-in_err-image_length-clause-spares : goal.returns-in_err-image_length-clause-spares
returns-in_err-image_length-clause-spares g c =
    let H = g.H.Host in
    let a = c.args.host.now in
    let b = c.write.new.host in
    let old = c.args.self.now in
    let inside = c.self.inside.changes in
    let st = c.in-Some.store in
    let was : IsStoreOf inside.name inside.second inside.listed st = c.self.invariant st (sym c.take.ensures.value ∙ c.in-Some.is) in
    let named : st.name ≡ old.name = was.named ∙ ap (λ (s : ArchiveState). s.name) c.self.view_is in
    let at = c.other_image-other.result in
    let file = c.image_name.result.now in
    changes_spare H file (IsNoFileOf old.name) a b (λ n no e. no.image at (e ∙ c.image_name.ensures ∙ ap (λ (x : List ℕ). image_file x at) named)) (above_changes H file 0 a b c.write.ensures.writes)

pub returns-in_err-commit-clause-spares : goal.returns-in_err-commit-clause-spares
returns-in_err-commit-clause-spares g c =
    let H = g.H.Host in
    let a = c.args.host.now in
    let b = c.write.new.host in
    let e = c.commit.new.host in
    let old = c.args.self.now in
    let inside = c.self.inside.changes in
    let st = c.in-Some.store in
    let was : IsStoreOf inside.name inside.second inside.listed st = c.self.invariant st (sym c.take.ensures.value ∙ c.in-Some.is) in
    let named : st.name ≡ old.name = was.named ∙ ap (λ (s : ArchiveState). s.name) c.self.view_is in
    let at = c.other_image-other.result in
    let file = c.image_name.result.now in
    spares_join H (IsNoFileOf old.name) a b e
    (changes_spare H file (IsNoFileOf old.name) a b (λ n no is. no.image at (is ∙ c.image_name.ensures ∙ ap (λ (x : List ℕ). image_file x at) named)) (above_changes H file 0 a b c.write.ensures.writes))
    (changes_spare H (roots_file st.name) (IsNoFileOf old.name) b e (λ n no is. no.roots (is ∙ ap roots_file named)) c.commit.ensures.changes)

pub returns-clause-spares : goal.returns-clause-spares
returns-clause-spares g c =
    let H = g.H.Host in
    let a = c.args.host.now in
    let b = c.write.new.host in
    let e = c.commit.new.host in
    let old = c.args.self.now in
    let inside = c.self.inside.changes in
    let st = c.in-Some.store in
    let was : IsStoreOf inside.name inside.second inside.listed st = c.self.invariant st (sym c.take.ensures.value ∙ c.in-Some.is) in
    let named : st.name ≡ old.name = was.named ∙ ap (λ (s : ArchiveState). s.name) c.self.view_is in
    let at = c.other_image-other.result in
    let file = c.image_name.result.now in
    spares_join H (IsNoFileOf old.name) a b e
    (changes_spare H file (IsNoFileOf old.name) a b (λ n no is. no.image at (is ∙ c.image_name.ensures ∙ ap (λ (x : List ℕ). image_file x at) named)) (above_changes H file 0 a b c.write.ensures.writes))
    (changes_spare H (roots_file st.name) (IsNoFileOf old.name) b e (λ n no is. no.roots (is ∙ ap roots_file named)) c.commit.ensures.changes)

pub returns-in_err-image_length-clause-alone : goal.returns-in_err-image_length-clause-alone
returns-in_err-image_length-clause-alone g c =
    let H = g.H.Host in
    let a = c.args.host.now in
    let b = c.write.new.host in
    let st = c.in-Some.store in
    let there = ap (λ (s : ArchiveState). s.store) (sym c.self.view_is) ∙ sym c.take.ensures.value ∙ c.in-Some.is in
    let file = c.image_name.result.now in
    let file_is : file ≡ image_file st.name (other_image st.root.slot) =
    c.image_name.ensures ∙ ap (image_file st.name) (c.other_image-other.ensures ∙ ap (λ (r : Root). other_image r.slot) c.root-slot.ensures) in
    for_store c.args.self.now.store st (λ s. Spares H (IsBesideImage s) a b) there
    (changes_spare H file (IsBesideImage st) a b (λ n no is. no.1 (is ∙ file_is)) (above_changes H file 0 a b c.write.ensures.writes))

pub returns-in_err-commit-clause-alone : goal.returns-in_err-commit-clause-alone
returns-in_err-commit-clause-alone g c =
    let H = g.H.Host in
    let a = c.args.host.now in
    let b = c.write.new.host in
    let st = c.in-Some.store in
    let there = ap (λ (s : ArchiveState). s.store) (sym c.self.view_is) ∙ sym c.take.ensures.value ∙ c.in-Some.is in
    let file = c.image_name.result.now in
    let file_is : file ≡ image_file st.name (other_image st.root.slot) =
    c.image_name.ensures ∙ ap (image_file st.name) (c.other_image-other.ensures ∙ ap (λ (r : Root). other_image r.slot) c.root-slot.ensures) in
    let e = c.commit.new.host in
    for_store c.args.self.now.store st (λ s. Spares H (IsBesideImage s) a e) there
    (spares_join H (IsBesideImage st) a b e
    (changes_spare H file (IsBesideImage st) a b (λ n no is. no.1 (is ∙ file_is)) (above_changes H file 0 a b c.write.ensures.writes))
    (changes_spare H (roots_file st.name) (IsBesideImage st) b e (λ n no is. no.0 is) c.commit.ensures.changes))

pub returns-clause-alone : goal.returns-clause-alone
returns-clause-alone g c =
    let H = g.H.Host in
    let a = c.args.host.now in
    let b = c.write.new.host in
    let st = c.in-Some.store in
    let there = ap (λ (s : ArchiveState). s.store) (sym c.self.view_is) ∙ sym c.take.ensures.value ∙ c.in-Some.is in
    let file = c.image_name.result.now in
    let file_is : file ≡ image_file st.name (other_image st.root.slot) =
    c.image_name.ensures ∙ ap (image_file st.name) (c.other_image-other.ensures ∙ ap (λ (r : Root). other_image r.slot) c.root-slot.ensures) in
    let e = c.commit.new.host in
    for_store c.args.self.now.store st (λ s. Spares H (IsBesideImage s) a e) there
    (spares_join H (IsBesideImage st) a b e
    (changes_spare H file (IsBesideImage st) a b (λ n no is. no.1 (is ∙ file_is)) (above_changes H file 0 a b c.write.ensures.writes))
    (changes_spare H (roots_file st.name) (IsBesideImage st) b e (λ n no is. no.0 is) c.commit.ensures.changes))

pub returns-clause-file : goal.returns-clause-file
returns-clause-file g c =
    let v = g.M.Memory.view c.args.m.now in
    let image = image_with v.objects v.head in
    let H = g.H.Host in
    let a = c.args.host.now in
    let b = c.write.new.host in
    let st = c.in-Some.store in
    let there = ap (λ (s : ArchiveState). s.store) (sym c.self.view_is) ∙ sym c.take.ensures.value ∙ c.in-Some.is in
    let file = c.image_name.result.now in
    let file_is : file ≡ image_file st.name (other_image st.root.slot) =
    c.image_name.ensures ∙ ap (image_file st.name) (c.other_image-other.ensures ∙ ap (λ (r : Root). other_image r.slot) c.root-slot.ensures) in
    let e = c.commit.new.host in
    for_store c.args.self.now.store st (λ s. IsTrue H.is_told → H.files e (image_file s.name (other_image s.root.slot)) ≡ Some image) there
    (λ told. subst (λ (n : List ℕ). H.files e n ≡ Some image) file_is
    ((c.commit.ensures.changes.others told).files file (λ same. image_roots st.name c.other_image-other.result (sym c.image_name.ensures ∙ same))
    ∙ (c.in_ok-image_length.ensures.file told ∙ ap Some (image_is v))))
