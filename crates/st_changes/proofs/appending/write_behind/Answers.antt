use Rattle.std.proofs.Common.{ℕ, List, length, sym, ap, ◌∙◌, subst}
use Rattle.st_host.specs.Runs.{IsSynced}
use Rattle.st_store.specs.Names.{changes_file}
use Rattle.st_store.specs.declared.root.Root.{Root}
use Rattle.st_changes.proofs.Growing.{behind_makes, kept_on, behind_firm, writes_to, written_to}
use Rattle.st_changes.proofs.appending.write_behind.Goals as goal

pub returns-in_err-write_synced-clause-makes : goal.returns-in_err-write_synced-clause-makes
returns-in_err-write_synced-clause-makes g c x told kept =
    let H = g.H.Host in
    let a = c.args.host.now in
    let b = c.write_synced.new.host in
    let store = c.args.store.now in
    let n = length c.args.bytes.now in
    let place = ap (λ (r : Root). r.length) (c.root-root.ensures ∙ sym kept.root) in
    let file = c.changes_name.ensures ∙ sym (ap (λ (r : Root). changes_file store.name r.slot) kept.root) in
    let writes = writes_to H c.changes_name.result.now (changes_file store.name x.root.slot) c.root-root.result.length x.root.length n a b file place c.write_synced.ensures.writes in
    let reads = g.met.H.Host.read_counts a (changes_file store.name x.root.slot) told in
    behind_makes H store.name x store.chosen a b told kept.is n reads writes c.from_residual.result

pub returns-clause-makes : goal.returns-clause-makes
returns-clause-makes g c x told kept =
    let H = g.H.Host in
    let a = c.args.host.now in
    let b = c.write_synced.new.host in
    let store = c.args.store.now in
    let n = length c.args.bytes.now in
    let place = ap (λ (r : Root). r.length) (c.root-root.ensures ∙ sym kept.root) in
    let file = c.changes_name.ensures ∙ sym (ap (λ (r : Root). changes_file store.name r.slot) kept.root) in
    let writes = writes_to H c.changes_name.result.now (changes_file store.name x.root.slot) c.root-root.result.length x.root.length n a b file place c.write_synced.ensures.writes in
    let reads = g.met.H.Host.read_counts a (changes_file store.name x.root.slot) told in
    behind_makes H store.name x store.chosen a b told kept.is n reads writes _

pub returns-clause-kept : goal.returns-clause-kept
returns-clause-kept g c x told kept =
    let H = g.H.Host in
    let a = c.args.host.now in
    let b = c.write_synced.new.host in
    let store = c.args.store.now in
    let n = length c.args.bytes.now in
    let place = ap (λ (r : Root). r.length) (c.root-root.ensures ∙ sym kept.root) in
    let file = c.changes_name.ensures ∙ sym (ap (λ (r : Root). changes_file store.name r.slot) kept.root) in
    let writes = writes_to H c.changes_name.result.now (changes_file store.name x.root.slot) c.root-root.result.length x.root.length n a b file place c.write_synced.ensures.writes in
    let reads = g.met.H.Host.read_counts a (changes_file store.name x.root.slot) told in
    record { root = kept.root; is = kept_on H store.name x store.chosen a b told kept.is n reads writes }

pub returns-clause-firm : goal.returns-clause-firm
returns-clause-firm g c x told kept fits =
    let H = g.H.Host in
    let a = c.args.host.now in
    let b = c.write_synced.new.host in
    let store = c.args.store.now in
    let n = length c.args.bytes.now in
    let place = ap (λ (r : Root). r.length) (c.root-root.ensures ∙ sym kept.root) in
    let file = c.changes_name.ensures ∙ sym (ap (λ (r : Root). changes_file store.name r.slot) kept.root) in
    let writes = writes_to H c.changes_name.result.now (changes_file store.name x.root.slot) c.root-root.result.length x.root.length n a b file place c.write_synced.ensures.writes in
    let reads = g.met.H.Host.read_counts a (changes_file store.name x.root.slot) told in
    let written = written_to c.args.bytes.now c.changes_name.result.now (changes_file store.name x.root.slot) c.root-root.result.length x.root.length (H.files a) (H.files b) file place (c.in_ok-write_synced.ensures.written told) in
    let synced = subst (λ (y : List ℕ). IsSynced H y b) file c.in_ok-write_synced.ensures.synced in
    behind_firm H store.name x store.chosen a b told kept.is n reads writes c.args.bytes.now written (synced.is told) fits
