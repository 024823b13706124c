use Rattle.std.proofs.Common.{◌≡◌, inl, inr, ◌<◌, ℕ, List, [], ◌++◌, length, take, drop, refl, sym, ap, ◌∙◌, subst, arith, length-append}
use Rattle.std.proofs.Math.ListN.{length-map}
use Rattle.std.proofs.lemmas.Grind.{common_steps}
use Rattle.st_host.specs.Runs.{WritesAbove, ChangesOneFile}
use Rattle.st_host.proofs.Joining.{makes_then, makes_failed}
use Rattle.st_host.proofs.Pushing.{from_none}
use Rattle.st_host.proofs.Touching.{above_changes, both_join}
use Rattle.st_store.specs.Names.{roots_file, changes_file}
use Rattle.st_store.specs.Stored.{Opens}
use Rattle.st_store.proofs.Settling.{when_err}
use Rattle.st_store.specs.declared.root.Root.{Root}
use Rattle.st_chunk.specs.Definitions.{Definition, entries}
use Rattle.st_changes.specs.inside.Views.{definition_of, definitions_of}
use Rattle.st_changes.specs.Condensing.{Stays, kept_by, condensed, turned}
use Rattle.st_changes.proofs.ListTexts.{entries_append}
use Rattle.st_changes.proofs.OtherFile.{still_kept, written_makes, condensed_firm, condensed_root, kept_is, all_are, rest_taken, parts_are, taken_of, makes_err, makes_rest, condenses_by, fewer_stay}
use Rattle.st_changes.proofs.Superseding.{kept_short, many_bytes}
use Rattle.st_changes.proofs.condensing.condense.Goals as goal

pub returns-in_err-marks-clause-makes : goal.returns-in_err-marks-clause-makes
returns-in_err-marks-clause-makes g c x z told kept =
    let H = g.H.Host in
    let a = c.args.host.now in
    let st = c.args.store in
    let file = changes_file st.name (turned st.root.slot) in
    let none : WritesAbove H 0 file a a = (from_none H file a (record { at = 0; bytes = [] }) (λ told f s left. g.met.H.Host.only_now a f s told left)).above 0 (omega arith) (λ told. omega arith) in
    makes_failed H (Opens st.name) x (condensed x z) a a a c.from_residual.result c.from_residual.result c.from_residual.ensures.0
    (written_makes H st x a a told kept file refl none c.from_residual.result)

pub write_kept-requires : goal.write_kept-requires
write_kept-requires g c =
    let L = c.definitions-listed.result.now in
    let n = c.count_before-count.result in
    let F = definitions_of (take n L) in
    let B = definitions_of (drop n L) in
    let r = ap (λ ds. length (entries (definitions_of ds))) (rest_taken n L) in
    let p = ap (λ ds. length (entries ds)) (parts_are L n) ∙ (ap length (entries_append F B) ∙ length-append (entries F) (entries B)) in
    let l = ap (λ ds. length (entries ds)) c.definitions-listed.ensures in
    let s = c.requires.place in
    let o = ap (λ (x : Root). x.length) c.root-root.ensures in
    let f : length (entries (definitions_of L)) < 18446744073709551616 = grind (arith, common_steps, s, o, l) in
    omega (arith, r, p, f)

pub returns-in_err-written-clause-makes : goal.returns-in_err-written-clause-makes
returns-in_err-written-clause-makes g c x z told kept =
    let H = g.H.Host in
    let a = c.args.host.now in
    let b = c.write_kept.new.host in
    let st = c.args.store in
    let is = c.changes_name_of.ensures ∙ ap (changes_file st.name) (c.turned-slot.ensures ∙ ap (λ (r : Root). turned r.slot) c.root-root.ensures) in
    makes_failed H (Opens st.name) x (condensed x z) a b b c.write_kept.result c.from_residual-in_err-written.result c.from_residual-in_err-written.ensures.0
    (written_makes H st x a b told kept c.changes_name_of.result.now is c.write_kept.ensures.writes c.write_kept.result)

pub returns-in_err-store-clause-makes : goal.returns-in_err-store-clause-makes
returns-in_err-store-clause-makes g c x z told kept =
    let H = g.H.Host in
    let a = c.args.host.now in
    let b = c.write_kept.new.host in
    let e = c.commit.new.host in
    let st = c.args.store in
    let ds = c.args.changes.now.listed in
    let L = c.definitions-listed.result.now in
    let LL = c.definitions-listed.ensures in
    let n = c.count_before-count.result in
    let F = definitions_of (take n L) in
    let B = definitions_of (drop n L) in
    let K = kept_by c.in_ok-marks.marks.items F in
    let Kis = ap (λ m. kept_by m F) c.deref.ensures.value in
    let Bis = ap definitions_of (rest_taken n L) in
    let split : ds ≡ F ++ B = sym LL ∙ parts_are L n in
    let place : st.root.base ≡ length (entries F) = sym (ap (λ (r : Root). r.base) c.root-root.ensures) ∙ (c.count_before-count.ensures.before ∙ (ap (λ x. length (entries (take n x))) (sym LL) ∙ ap (λ x. length (entries x)) (taken_of L n))) in
    let stays : Stays B F K = c.in_ok-marks.ensures.stays in
    let file = c.changes_name_of.result.now in
    let writes = c.write_kept.ensures.writes in
    let is = c.changes_name_of.ensures ∙ ap (changes_file st.name) (c.turned-slot.ensures ∙ ap (λ (r : Root). turned r.slot) c.root-root.ensures) in
    let lists = (λ i. Kis i ++ Bis i) ∙ all_are ds F B K st.root.base split place stays z in
    let still = still_kept H st x a b told kept file is writes in
    let firm = condensed_firm H st x a b told kept file is writes ds st.root.base z c.requires.place _ (ap entries lists) (c.in_ok-written.ensures.file told) c.in_ok-written.ensures.synced in
    let root = condensed_root H st x a b told kept file is writes ds st.root.base z _ (c.turned-slot.ensures ∙ ap (λ (r : Root). turned r.slot) c.root-root.ensures) (ap (λ (r : Root). r.image_length) c.root-root.ensures)
    (c.in_ok-written.ensures.base ∙ ap (λ ks. length (entries ks)) (Kis ∙ kept_is ds F B K st.root.base split place stays z)) (c.in_ok-written.ensures.length ∙ ap (λ x. length (entries x)) lists) in
    makes_then H (Opens st.name) x (condensed x z) a b e c.write_kept.result c.from_residual-in_err-store.result (written_makes H st x a b told kept file is writes c.write_kept.result)
    (makes_err H (Opens st.name) x (condensed x z) b e c.commit.result c.from_residual-in_err-store.result c.from_residual-in_err-store.ensures.0 (c.commit.ensures.makes x (condensed x z) told still firm root))

pub returns-in_err-store-clause-files : goal.returns-in_err-store-clause-files
returns-in_err-store-clause-files g c =
    let H = g.H.Host in
    let st = c.args.store in
    let is = c.changes_name_of.ensures ∙ ap (changes_file st.name) (c.turned-slot.ensures ∙ ap (λ (r : Root). turned r.slot) c.root-root.ensures) in
    both_join H (changes_file st.name (turned st.root.slot)) (roots_file st.name) c.args.host.now c.write_kept.new.host c.commit.new.host
    (subst (λ (n : List ℕ). ChangesOneFile H n c.args.host.now c.write_kept.new.host) is (above_changes H c.changes_name_of.result.now 0 c.args.host.now c.write_kept.new.host c.write_kept.ensures.writes)) c.commit.ensures.changes

pub returns-clause-makes : goal.returns-clause-makes
returns-clause-makes g c x z told kept =
    let H = g.H.Host in
    let a = c.args.host.now in
    let b = c.write_kept.new.host in
    let e = c.commit.new.host in
    let st = c.args.store in
    let ds = c.args.changes.now.listed in
    let L = c.definitions-listed.result.now in
    let LL = c.definitions-listed.ensures in
    let n = c.count_before-count.result in
    let F = definitions_of (take n L) in
    let B = definitions_of (drop n L) in
    let K = kept_by c.in_ok-marks.marks.items F in
    let Kis = ap (λ m. kept_by m F) c.deref.ensures.value in
    let Bis = ap definitions_of (rest_taken n L) in
    let split : ds ≡ F ++ B = sym LL ∙ parts_are L n in
    let place : st.root.base ≡ length (entries F) = sym (ap (λ (r : Root). r.base) c.root-root.ensures) ∙ (c.count_before-count.ensures.before ∙ (ap (λ x. length (entries (take n x))) (sym LL) ∙ ap (λ x. length (entries x)) (taken_of L n))) in
    let stays : Stays B F K = c.in_ok-marks.ensures.stays in
    let file = c.changes_name_of.result.now in
    let writes = c.write_kept.ensures.writes in
    let is = c.changes_name_of.ensures ∙ ap (changes_file st.name) (c.turned-slot.ensures ∙ ap (λ (r : Root). turned r.slot) c.root-root.ensures) in
    let lists = (λ i. Kis i ++ Bis i) ∙ all_are ds F B K st.root.base split place stays z in
    let still = still_kept H st x a b told kept file is writes in
    let firm = condensed_firm H st x a b told kept file is writes ds st.root.base z c.requires.place _ (ap entries lists) (c.in_ok-written.ensures.file told) c.in_ok-written.ensures.synced in
    let root = condensed_root H st x a b told kept file is writes ds st.root.base z _ (c.turned-slot.ensures ∙ ap (λ (r : Root). turned r.slot) c.root-root.ensures) (ap (λ (r : Root). r.image_length) c.root-root.ensures)
    (c.in_ok-written.ensures.base ∙ ap (λ ks. length (entries ks)) (Kis ∙ kept_is ds F B K st.root.base split place stays z)) (c.in_ok-written.ensures.length ∙ ap (λ x. length (entries x)) lists) in
    let makes = c.in_ok-store.ensures.makes x (condensed x z) told still firm root in
    makes_then H (Opens st.name) x (condensed x z) a b e c.write_kept.result _ (written_makes H st x a b told kept file is writes c.write_kept.result)
    (record { rest = makes.rest; either = makes.either; quiet = makes.quiet; moments = makes.moments })

pub returns-clause-kept : goal.returns-clause-kept
returns-clause-kept g c x z told kept =
    let H = g.H.Host in
    let a = c.args.host.now in
    let b = c.write_kept.new.host in
    let e = c.commit.new.host in
    let st = c.args.store in
    let ds = c.args.changes.now.listed in
    let L = c.definitions-listed.result.now in
    let LL = c.definitions-listed.ensures in
    let n = c.count_before-count.result in
    let F = definitions_of (take n L) in
    let B = definitions_of (drop n L) in
    let K = kept_by c.in_ok-marks.marks.items F in
    let Kis = ap (λ m. kept_by m F) c.deref.ensures.value in
    let Bis = ap definitions_of (rest_taken n L) in
    let split : ds ≡ F ++ B = sym LL ∙ parts_are L n in
    let place : st.root.base ≡ length (entries F) = sym (ap (λ (r : Root). r.base) c.root-root.ensures) ∙ (c.count_before-count.ensures.before ∙ (ap (λ x. length (entries (take n x))) (sym LL) ∙ ap (λ x. length (entries x)) (taken_of L n))) in
    let stays : Stays B F K = c.in_ok-marks.ensures.stays in
    let file = c.changes_name_of.result.now in
    let writes = c.write_kept.ensures.writes in
    let is = c.changes_name_of.ensures ∙ ap (changes_file st.name) (c.turned-slot.ensures ∙ ap (λ (r : Root). turned r.slot) c.root-root.ensures) in
    let lists = (λ i. Kis i ++ Bis i) ∙ all_are ds F B K st.root.base split place stays z in
    let still = still_kept H st x a b told kept file is writes in
    let firm = condensed_firm H st x a b told kept file is writes ds st.root.base z c.requires.place _ (ap entries lists) (c.in_ok-written.ensures.file told) c.in_ok-written.ensures.synced in
    let root = condensed_root H st x a b told kept file is writes ds st.root.base z _ (c.turned-slot.ensures ∙ ap (λ (r : Root). turned r.slot) c.root-root.ensures) (ap (λ (r : Root). r.image_length) c.root-root.ensures)
    (c.in_ok-written.ensures.base ∙ ap (λ ks. length (entries ks)) (Kis ∙ kept_is ds F B K st.root.base split place stays z)) (c.in_ok-written.ensures.length ∙ ap (λ x. length (entries x)) lists) in
    c.in_ok-store.ensures.kept x (condensed x z) told still firm root

pub returns-clause-after : goal.returns-clause-after
returns-clause-after g c z =
    let H = g.H.Host in
    let a = c.args.host.now in
    let b = c.write_kept.new.host in
    let e = c.commit.new.host in
    let st = c.args.store in
    let ds = c.args.changes.now.listed in
    let L = c.definitions-listed.result.now in
    let LL = c.definitions-listed.ensures in
    let n = c.count_before-count.result in
    let F = definitions_of (take n L) in
    let B = definitions_of (drop n L) in
    let K = kept_by c.in_ok-marks.marks.items F in
    let Kis = ap (λ m. kept_by m F) c.deref.ensures.value in
    let Bis = ap definitions_of (rest_taken n L) in
    let split : ds ≡ F ++ B = sym LL ∙ parts_are L n in
    let place : st.root.base ≡ length (entries F) = sym (ap (λ (r : Root). r.base) c.root-root.ensures) ∙ (c.count_before-count.ensures.before ∙ (ap (λ x. length (entries (take n x))) (sym LL) ∙ ap (λ x. length (entries x)) (taken_of L n))) in
    let stays : Stays B F K = c.in_ok-marks.ensures.stays in
    let lists = (λ i. Kis i ++ Bis i) ∙ all_are ds F B K st.root.base split place stays z in
    c.in_ok-written.ensures.count ∙ ap (λ x. length x) lists

pub returns-clause-files : goal.returns-clause-files
returns-clause-files g c =
    let H = g.H.Host in
    let st = c.args.store in
    let is = c.changes_name_of.ensures ∙ ap (changes_file st.name) (c.turned-slot.ensures ∙ ap (λ (r : Root). turned r.slot) c.root-root.ensures) in
    both_join H (changes_file st.name (turned st.root.slot)) (roots_file st.name) c.args.host.now c.write_kept.new.host c.commit.new.host
    (subst (λ (n : List ℕ). ChangesOneFile H n c.args.host.now c.write_kept.new.host) is (above_changes H c.changes_name_of.result.now 0 c.args.host.now c.write_kept.new.host c.write_kept.ensures.writes)) c.commit.ensures.changes

pub returns-in_err-marks-clause-either : goal.returns-in_err-marks-clause-either
returns-in_err-marks-clause-either g c x told kept =
    let H = g.H.Host in
    let a = c.args.host.now in
    let st = c.args.store in
    let file = changes_file st.name (turned st.root.slot) in
    let none : WritesAbove H 0 file a a = (from_none H file a (record { at = 0; bytes = [] }) (λ told f s left. g.met.H.Host.only_now a f s told left)).above 0 (omega arith) (λ told. omega arith) in
    inl (c.from_residual.ensures.0, written_makes H st x a a told kept file refl none c.from_residual.result)

pub returns-in_err-written-clause-either : goal.returns-in_err-written-clause-either
returns-in_err-written-clause-either g c x told kept =
    let st = c.args.store in
    let ds = c.args.changes.now.listed in
    let L = c.definitions-listed.result.now in
    let LL = c.definitions-listed.ensures in
    let n = c.count_before-count.result in
    let F = definitions_of (take n L) in
    let B = definitions_of (drop n L) in
    let split : ds ≡ F ++ B = sym LL ∙ parts_are L n in
    let place : st.root.base ≡ length (entries F) = sym (ap (λ (r : Root). r.base) c.root-root.ensures) ∙ (c.count_before-count.ensures.before ∙ (ap (λ x. length (entries (take n x))) (sym LL) ∙ ap (λ x. length (entries x)) (taken_of L n))) in
    inr (condenses_by ds F B (kept_by c.in_ok-marks.marks.items F) st.root.base split place c.in_ok-marks.ensures.stays)

pub returns-in_err-store-clause-either : goal.returns-in_err-store-clause-either
returns-in_err-store-clause-either g c x told kept =
    let st = c.args.store in
    let ds = c.args.changes.now.listed in
    let L = c.definitions-listed.result.now in
    let LL = c.definitions-listed.ensures in
    let n = c.count_before-count.result in
    let F = definitions_of (take n L) in
    let B = definitions_of (drop n L) in
    let split : ds ≡ F ++ B = sym LL ∙ parts_are L n in
    let place : st.root.base ≡ length (entries F) = sym (ap (λ (r : Root). r.base) c.root-root.ensures) ∙ (c.count_before-count.ensures.before ∙ (ap (λ x. length (entries (take n x))) (sym LL) ∙ ap (λ x. length (entries x)) (taken_of L n))) in
    inr (condenses_by ds F B (kept_by c.in_ok-marks.marks.items F) st.root.base split place c.in_ok-marks.ensures.stays)

pub returns-clause-either : goal.returns-clause-either
returns-clause-either g c x told kept =
    let st = c.args.store in
    let ds = c.args.changes.now.listed in
    let L = c.definitions-listed.result.now in
    let LL = c.definitions-listed.ensures in
    let n = c.count_before-count.result in
    let F = definitions_of (take n L) in
    let B = definitions_of (drop n L) in
    let split : ds ≡ F ++ B = sym LL ∙ parts_are L n in
    let place : st.root.base ≡ length (entries F) = sym (ap (λ (r : Root). r.base) c.root-root.ensures) ∙ (c.count_before-count.ensures.before ∙ (ap (λ x. length (entries (take n x))) (sym LL) ∙ ap (λ x. length (entries x)) (taken_of L n))) in
    inr (condenses_by ds F B (kept_by c.in_ok-marks.marks.items F) st.root.base split place c.in_ok-marks.ensures.stays)

pub returns-in_err-marks-clause-starved : goal.returns-in_err-marks-clause-starved
returns-in_err-marks-clause-starved g c x told kept none =
    let H = g.H.Host in
    let a = c.args.host.now in
    let st = c.args.store in
    let file = changes_file st.name (turned st.root.slot) in
    let unwritten : WritesAbove H 0 file a a = (from_none H file a (record { at = 0; bytes = [] }) (λ told f s left. g.met.H.Host.only_now a f s told left)).above 0 (omega arith) (λ told. omega arith) in
    makes_rest H (Opens st.name) x a a c.from_residual.result (written_makes H st x a a told kept file refl unwritten c.from_residual.result)

pub returns-in_err-written-clause-starved : goal.returns-in_err-written-clause-starved
returns-in_err-written-clause-starved g c x told kept none =
    let H = g.H.Host in
    let a = c.args.host.now in
    let b = c.write_kept.new.host in
    let st = c.args.store in
    let is = c.changes_name_of.ensures ∙ ap (changes_file st.name) (c.turned-slot.ensures ∙ ap (λ (r : Root). turned r.slot) c.root-root.ensures) in
    makes_rest H (Opens st.name) x a b c.write_kept.result (written_makes H st x a b told kept c.changes_name_of.result.now is c.write_kept.ensures.writes c.write_kept.result)

pub returns-in_err-marks-clause-broken : goal.returns-in_err-marks-clause-broken
returns-in_err-marks-clause-broken g c = when_err c.from_residual.result _ (λ x told kept.
    let H = g.H.Host in
    let a = c.args.host.now in
    let st = c.args.store in
    let file = changes_file st.name (turned st.root.slot) in
    let unwritten : WritesAbove H 0 file a a = (from_none H file a (record { at = 0; bytes = [] }) (λ told f s left. g.met.H.Host.only_now a f s told left)).above 0 (omega arith) (λ told. omega arith) in
    inl (makes_rest H (Opens st.name) x a a c.from_residual.result (written_makes H st x a a told kept file refl unwritten c.from_residual.result)))

pub returns-in_err-written-clause-broken : goal.returns-in_err-written-clause-broken
returns-in_err-written-clause-broken g c = when_err c.from_residual-in_err-written.result _ (λ x told kept.
    let H = g.H.Host in
    let a = c.args.host.now in
    let b = c.write_kept.new.host in
    let st = c.args.store in
    let is = c.changes_name_of.ensures ∙ ap (changes_file st.name) (c.turned-slot.ensures ∙ ap (λ (r : Root). turned r.slot) c.root-root.ensures) in
    inl (makes_rest H (Opens st.name) x a b c.write_kept.result (written_makes H st x a b told kept c.changes_name_of.result.now is c.write_kept.ensures.writes c.write_kept.result)))

pub returns-in_err-store-clause-broken : goal.returns-in_err-store-clause-broken
returns-in_err-store-clause-broken g c = when_err c.from_residual-in_err-store.result _ (λ x told kept.
    let H = g.H.Host in
    let a = c.args.host.now in
    let b = c.write_kept.new.host in
    let st = c.args.store in
    let ds = c.args.changes.now.listed in
    let L = c.definitions-listed.result.now in
    let LL = c.definitions-listed.ensures in
    let n = c.count_before-count.result in
    let F = definitions_of (take n L) in
    let B = definitions_of (drop n L) in
    let K = kept_by c.in_ok-marks.marks.items F in
    let Kis = ap (λ m. kept_by m F) c.deref.ensures.value in
    let Bis = ap definitions_of (rest_taken n L) in
    let split : ds ≡ F ++ B = sym LL ∙ parts_are L n in
    let place : st.root.base ≡ length (entries F) = sym (ap (λ (r : Root). r.base) c.root-root.ensures) ∙ (c.count_before-count.ensures.before ∙ (ap (λ x. length (entries (take n x))) (sym LL) ∙ ap (λ x. length (entries x)) (taken_of L n))) in
    let stays : Stays B F K = c.in_ok-marks.ensures.stays in
    let z = condenses_by ds F B K st.root.base split place stays in
    let file = c.changes_name_of.result.now in
    let writes = c.write_kept.ensures.writes in
    let is = c.changes_name_of.ensures ∙ ap (changes_file st.name) (c.turned-slot.ensures ∙ ap (λ (r : Root). turned r.slot) c.root-root.ensures) in
    let lists = (λ i. Kis i ++ Bis i) ∙ all_are ds F B K st.root.base split place stays z in
    let still = still_kept H st x a b told kept file is writes in
    let firm = condensed_firm H st x a b told kept file is writes ds st.root.base z c.requires.place _ (ap entries lists) (c.in_ok-written.ensures.file told) c.in_ok-written.ensures.synced in
    let root = condensed_root H st x a b told kept file is writes ds st.root.base z _ (c.turned-slot.ensures ∙ ap (λ (r : Root). turned r.slot) c.root-root.ensures) (ap (λ (r : Root). r.image_length) c.root-root.ensures)
    (c.in_ok-written.ensures.base ∙ ap (λ ks. length (entries ks)) (Kis ∙ kept_is ds F B K st.root.base split place stays z)) (c.in_ok-written.ensures.length ∙ ap (λ x. length (entries x)) lists) in
    c.in_err-store.ensures.broken x (condensed x z) told still firm root)

pub overflow_cast-result : goal.overflow_cast-result
overflow_cast-result g c =
    let L = c.definitions-listed.result.now in
    let ds = c.args.changes.now.listed in
    let same = ap (λ (x : List Definition). length x) c.definitions-listed.ensures in
    omega (arith, same, length-map L definition_of, many_bytes ds, c.requires.place, c.requires.limit)

same_length : {a b c d : List Definition} → a ≡ b → c ≡ d → length (a ++ c) ≡ length (b ++ d)
same_length p q = λ i. length (p i ++ q i)

pub overflow_cast-result-2 : goal.overflow_cast-result-2
overflow_cast-result-2 g c =
    let ds = c.args.changes.now.listed in
    let L = c.definitions-listed.result.now in
    let n = c.count_before-count.result in
    let F = definitions_of (take n L) in
    let B = definitions_of (drop n L) in
    let Kis = ap (λ m. kept_by m F) c.deref.ensures.value in
    let Bis = ap definitions_of (rest_taken n L) in
    let split : ds ≡ F ++ B = sym c.definitions-listed.ensures ∙ parts_are L n in
    let lists = same_length Kis Bis in
    let few = fewer_stay ds F B (kept_by c.in_ok-marks.marks.items F) split (kept_short c.in_ok-marks.marks.items F) in
    omega (arith, c.in_ok-written.ensures.count, lists, few, c.requires.place, c.requires.limit)
