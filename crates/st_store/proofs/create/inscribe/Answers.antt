use Rattle.std.proofs.Common.{inl, inr, codes, Option, List, ℕ, string_bytes, length, refl, sym, subst, ap, arith}
use Rattle.std.specs.Prelude.{Some, None}
use Rattle.st_host.proofs.Joining.{on_err, makes_failed}
use Rattle.st_store.specs.Names.{roots_file}
use Rattle.st_store.specs.Roots.{Chooses}
use Rattle.st_store.specs.Founding.{OpensMaybe, first_bytes}
use Rattle.st_store.proofs.Turning.{firm_on, writes_as, written_as, synced_as, rests}
use Rattle.st_store.proofs.Founding.{inscribed_none, letters_written, whole_written, rest_makes, behind, first_makes}
use Rattle.st_store.proofs.Settling.{when_err, kept_rest}
use Rattle.st_store.proofs.create.inscribe.Goals as goal

pub returns-in_err-write_synced-clause-makes : goal.returns-in_err-write_synced-clause-makes
returns-in_err-write_synced-clause-makes g c x told blank is firm =
    let H = g.H.Host in
    let name = string_bytes c.args.names.now.name in
    let writes = writes_as H name _ 8 _ 72 _ _ c.roots.ensures (ap length c.first_bytes-bytes.ensures.bytes) c.write_synced.ensures.writes in
    makes_failed H (OpensMaybe name) None (Some x) _ _ c.write_synced.new.host c.from_residual.result _ c.from_residual.ensures.0
    (rest_makes H name _ _ c.from_residual.result told (g.met.H.Host.read_counts c.args.host.now (roots_file name) told) x.root writes blank (on_err _ _ c.from_residual.ensures.0))

pub returns-in_err-write_synced-2-clause-makes : goal.returns-in_err-write_synced-2-clause-makes
returns-in_err-write_synced-2-clause-makes g c x told blank is firm =
    let H = g.H.Host in
    let name = string_bytes c.args.names.now.name in
    let w = behind H name _ _ told (g.met.H.Host.read_counts c.args.host.now (roots_file name) told) blank c.roots.result.now c.first_bytes-bytes.result c.args.root.now x.root c.roots.ensures c.first_bytes-bytes.ensures.bytes c.first_bytes-bytes.ensures.fits is c.write_synced.ensures.writes (c.in_ok-write_synced.ensures.written told) c.in_ok-write_synced.ensures.synced in
    first_makes H name _ _ told (g.met.H.Host.read_counts _ _ told) blank x _ _ w firm (g.met.H.Host.read_counts _ _ told) (writes_as H name _ 0 8 8 _ _ c.roots-2.ensures refl c.write_synced-2.ensures.writes) (on_err _ _ c.from_residual-in_err-write_synced-2.ensures.0)

pub returns-clause-chosen : goal.returns-clause-chosen
returns-clause-chosen g c x told blank is firm =
    let H = g.H.Host in
    let name = string_bytes c.args.names.now.name in
    let w = behind H name _ _ told (g.met.H.Host.read_counts c.args.host.now (roots_file name) told) blank c.roots.result.now c.first_bytes-bytes.result c.args.root.now x.root c.roots.ensures c.first_bytes-bytes.ensures.bytes c.first_bytes-bytes.ensures.fits is c.write_synced.ensures.writes (c.in_ok-write_synced.ensures.written told) c.in_ok-write_synced.ensures.synced in
    let letters = c.in_ok-write_synced-2.ensures in
    let now = letters_written x.root _ _ (w.inscribed _ (g.met.H.Host.read_counts c.write_synced.new.host (roots_file name) told)) (written_as H name _ 0 (codes "ST80ROOT") (codes "ST80ROOT") _ _ c.roots-2.ensures refl (letters.written told)) in
    let writes = writes_as H name _ 0 8 8 _ _ c.roots-2.ensures refl c.write_synced-2.ensures.writes in
    record {
      which = omega arith;
      roots = λ y can. subst (λ (z : Option (List ℕ)). Chooses 0 x.root z) (sym (synced_as H name _ _ c.roots-2.ensures told letters.synced y can)) now;
      firm = firm_on H name _ _ x (firm_on H name _ _ x firm (w.writes.run.others told).fewer) (writes.run.others told).fewer;
    }

pub returns-clause-makes : goal.returns-clause-makes
returns-clause-makes g c x told blank is firm =
    let H = g.H.Host in
    let name = string_bytes c.args.names.now.name in
    let w = behind H name _ _ told (g.met.H.Host.read_counts c.args.host.now (roots_file name) told) blank c.roots.result.now c.first_bytes-bytes.result c.args.root.now x.root c.roots.ensures c.first_bytes-bytes.ensures.bytes c.first_bytes-bytes.ensures.fits is c.write_synced.ensures.writes (c.in_ok-write_synced.ensures.written told) c.in_ok-write_synced.ensures.synced in
    first_makes H name _ _ told (g.met.H.Host.read_counts _ _ told) blank x _ _ w firm (g.met.H.Host.read_counts _ _ told) (writes_as H name _ 0 8 8 _ _ c.roots-2.ensures refl c.write_synced-2.ensures.writes)
    (record { opens_as = λ f can. rests H name _ 0 x f (returns-clause-chosen g c x told blank is firm) can })

pub returns-clause-bytes : goal.returns-clause-bytes
returns-clause-bytes g c told blank =
    let H = g.H.Host in
    let name = string_bytes c.args.names.now.name in
    let body = written_as H name _ 8 c.first_bytes-bytes.result (first_bytes c.args.root.now) _ _ c.roots.ensures c.first_bytes-bytes.ensures.bytes (c.in_ok-write_synced.ensures.written told) in
    let head = written_as H name _ 0 (codes "ST80ROOT") (codes "ST80ROOT") _ _ c.roots-2.ensures refl (c.in_ok-write_synced-2.ensures.written told) in
    whole_written c.args.root.now _ _ _ (blank _ (g.met.H.Host.read_counts c.args.host.now (roots_file name) told)) body head

pub returns-in_err-write_synced-clause-broken : goal.returns-in_err-write_synced-clause-broken
returns-in_err-write_synced-clause-broken g c = when_err c.from_residual.result _ (λ told blank.
    let H = g.H.Host in
    let name = string_bytes c.args.names.now.name in
    let writes = writes_as H name _ 8 _ 72 _ _ c.roots.ensures (ap length c.first_bytes-bytes.ensures.bytes) c.write_synced.ensures.writes in
    inl (kept_rest H (OpensMaybe name) None _ _ c.from_residual.result
    (rest_makes H name _ _ c.from_residual.result told (g.met.H.Host.read_counts _ _ told) c.args.root.now writes blank (on_err _ _ c.from_residual.ensures.0))))

pub returns-in_err-write_synced-2-clause-broken : goal.returns-in_err-write_synced-2-clause-broken
returns-in_err-write_synced-2-clause-broken g c = when_err c.from_residual-in_err-write_synced-2.result _ (λ told blank.
    let H = g.H.Host in
    let name = string_bytes c.args.names.now.name in
    let w = behind H name _ _ told (g.met.H.Host.read_counts c.args.host.now (roots_file name) told) blank c.roots.result.now c.first_bytes-bytes.result c.args.root.now c.args.root.now c.roots.ensures c.first_bytes-bytes.ensures.bytes c.first_bytes-bytes.ensures.fits refl c.write_synced.ensures.writes (c.in_ok-write_synced.ensures.written told) c.in_ok-write_synced.ensures.synced in
    inr (record {
      before = c.write_synced.new.host;
      rest = record { opens_as = λ f can. inscribed_none c.args.root.now (f (roots_file name)) (w.inscribed (f (roots_file name)) (can (roots_file name))) };
      writes = writes_as H name _ 0 8 8 _ _ c.roots-2.ensures refl c.write_synced-2.ensures.writes;
      fault = c.in_err-write_synced-2.ensures.cause.rose refl;
    }))
