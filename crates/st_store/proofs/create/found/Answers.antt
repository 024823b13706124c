use Rattle.std.proofs.Common.{◌≡◌, inl, ℕ, List, [], string_bytes, refl, sym, subst, ◌∙◌}
use Rattle.std.specs.Prelude.{Option, Some, None}
use Rattle.st_host.specs.Files.{bytes_of}
use Rattle.st_host.specs.Runs.{ChangesBoth, IsSynced}
use Rattle.st_host.proofs.Joining.{makes_then, makes_failed, makes_of}
use Rattle.st_host.proofs.Touching.{both_more}
use Rattle.st_store.specs.Names.{roots_file, changes_file}
use Rattle.st_store.specs.Stored.{Stored, Leaves}
use Rattle.st_store.specs.Faults.{RestsUnlessLetters}
use Rattle.st_store.specs.Founding.{OpensMaybe, first_root, first_stored, first_file}
use Rattle.st_store.proofs.Others.{changes_roots}
use Rattle.st_store.proofs.Founding.{first_firm, maybe_as, before_as}
use Rattle.st_store.proofs.Turning.{synced_beside}
use Rattle.st_store.proofs.Settling.{when_err, kept_rest}
use Rattle.st_store.proofs.create.found.Goals as goal

pub returns-in_err-prepare-clause-makes : goal.returns-in_err-prepare-clause-makes
returns-in_err-prepare-clause-makes g c image told empty firm =
    let H = g.H.Host in
    let n = string_bytes c.new_store.inside.names.name in
    let ready = before_as H n _ c.args.host.now c.args.image_length image c.new_store.view_is empty firm in
    maybe_as H n _ (first_stored c.args.image_length image) _ _ _ c.new_store.view_is
    (makes_failed H (OpensMaybe n) None (Some (first_stored c.args.image_length image)) c.args.host.now c.prepare.new.host c.prepare.new.host c.prepare.result _ c.from_residual.ensures.0 (c.prepare.ensures.makes told ready.0))

pub returns-in_err-inscribe-clause-makes : goal.returns-in_err-inscribe-clause-makes
returns-in_err-inscribe-clause-makes g c image told empty firm =
    let H = g.H.Host in
    let n = string_bytes c.new_store.inside.names.name in
    let x = first_stored c.args.image_length image in
    let ready = before_as H n _ c.args.host.now c.args.image_length image c.new_store.view_is empty firm in
    let is = first_firm H n _ c.prepare.new.host c.args.image_length image told c.prepare.ensures.changes ready.1 in
    maybe_as H n _ x _ _ _ c.new_store.view_is
    (makes_then H (OpensMaybe n) None (Some x) _ _ _ c.prepare.result _ (c.prepare.ensures.makes told ready.0)
    (makes_of H (OpensMaybe n) None (Some x) _ _ c.inscribe.result _ c.from_residual-in_err-inscribe.ensures.0 (c.inscribe.ensures.makes x told (c.in_ok-prepare.ensures.blank told ready.0) refl is)))

pub returns-clause-makes : goal.returns-clause-makes
returns-clause-makes g c image told empty firm =
    let H = g.H.Host in
    let n = string_bytes c.new_store.inside.names.name in
    let ready = before_as H n _ c.args.host.now c.args.image_length image c.new_store.view_is empty firm in
    let is = first_firm H n _ c.prepare.new.host c.args.image_length image told c.prepare.ensures.changes ready.1 in
    let made = c.in_ok-inscribe.ensures.makes (first_stored c.args.image_length image) told (c.in_ok-prepare.ensures.blank told ready.0) refl is in
    maybe_as H n _ _ _ _ _ c.new_store.view_is
    (makes_then H (OpensMaybe n) None _ _ _ _ c.prepare.result _ (c.prepare.ensures.makes told ready.0)
    (record { rest = made.rest; either = made.either; quiet = made.quiet; moments = made.moments }))

pub returns-clause-kept : goal.returns-clause-kept
returns-clause-kept g c image told empty firm =
    let H = g.H.Host in
    let ready = before_as H (string_bytes c.new_store.inside.names.name) _ c.args.host.now c.args.image_length image c.new_store.view_is empty firm in
    let is = first_firm H _ _ c.prepare.new.host c.args.image_length image told c.prepare.ensures.changes ready.1 in
    record { root = refl; is = c.in_ok-inscribe.ensures.chosen (first_stored c.args.image_length image) told (c.in_ok-prepare.ensures.blank told ready.0) refl is }

pub returns-in_err-prepare-clause-changes : goal.returns-in_err-prepare-clause-changes
returns-in_err-prepare-clause-changes g c =
    subst (λ (y : List ℕ). ChangesBoth g.H.Host (changes_file y 0) (roots_file y) c.args.host.now c.prepare.new.host) c.new_store.view_is c.prepare.ensures.changes

pub returns-in_err-inscribe-clause-changes : goal.returns-in_err-inscribe-clause-changes
returns-in_err-inscribe-clause-changes g c =
    subst (λ (y : List ℕ). ChangesBoth g.H.Host (changes_file y 0) (roots_file y) c.args.host.now c.inscribe.new.host) c.new_store.view_is
    (both_more g.H.Host _ _ _ _ _ c.prepare.ensures.changes c.inscribe.ensures.changes)

pub returns-clause-changes : goal.returns-clause-changes
returns-clause-changes g c =
    subst (λ (y : List ℕ). ChangesBoth g.H.Host (changes_file y 0) (roots_file y) c.args.host.now c.inscribe.new.host) c.new_store.view_is
    (both_more g.H.Host _ _ _ _ _ c.prepare.ensures.changes c.inscribe.ensures.changes)

pub returns-clause-bytes : goal.returns-clause-bytes
returns-clause-bytes g c told empty =
    let H = g.H.Host in
    let named = c.new_store.view_is in
    let none = subst (λ (y : List ℕ). Leaves H c.args.host.now (roots_file y) (λ file. bytes_of file ≡ [])) (sym named) empty in
    subst (λ (y : List ℕ). H.files c.inscribe.new.host (roots_file y) ≡ Some (first_file (first_root c.args.image_length))) named
    (c.in_ok-inscribe.ensures.bytes told (c.in_ok-prepare.ensures.blank told none))

pub returns-clause-emptied : goal.returns-clause-emptied
returns-clause-emptied g c told =
    let H = g.H.Host in
    let n = string_bytes c.new_store.inside.names.name in
    subst (λ (y : List ℕ). H.files c.inscribe.new.host (changes_file y 0) ≡ Some []) c.new_store.view_is
    ((c.inscribe.ensures.changes.others told).files (changes_file n 0) (changes_roots n 0) ∙ c.in_ok-prepare.ensures.emptied told)

pub returns-in_err-prepare-clause-broken : goal.returns-in_err-prepare-clause-broken
returns-in_err-prepare-clause-broken g c = when_err c.from_residual.result _ (λ told empty.
    let H = g.H.Host in
    let n = string_bytes c.new_store.inside.names.name in
    let none = subst (λ (y : List ℕ). Leaves H c.args.host.now (roots_file y) (λ file. bytes_of file ≡ [])) (sym c.new_store.view_is) empty in
    subst (λ (y : List ℕ). RestsUnlessLetters H {C = Option Stored} (OpensMaybe y) y None c.prepare.new.host) c.new_store.view_is
    (inl (kept_rest H (OpensMaybe n) None _ _ c.prepare.result (c.prepare.ensures.makes told none))))

pub returns-in_err-inscribe-clause-broken : goal.returns-in_err-inscribe-clause-broken
returns-in_err-inscribe-clause-broken g c = when_err c.from_residual-in_err-inscribe.result _ (λ told empty.
    let H = g.H.Host in
    let none = subst (λ (y : List ℕ). Leaves H c.args.host.now (roots_file y) (λ file. bytes_of file ≡ [])) (sym c.new_store.view_is) empty in
    subst (λ (y : List ℕ). RestsUnlessLetters H {C = Option Stored} (OpensMaybe y) y None c.inscribe.new.host) c.new_store.view_is
    (c.in_err-inscribe.ensures.broken told (c.in_ok-prepare.ensures.blank told none)))

pub returns-clause-synced : goal.returns-clause-synced
returns-clause-synced g c =
    let H = g.H.Host in
    let n = string_bytes c.new_store.inside.names.name in
    subst (λ (y : List ℕ). IsSynced H (changes_file y 0) c.inscribe.new.host) c.new_store.view_is
    (synced_beside H n (changes_file n 0) c.prepare.new.host c.inscribe.new.host (changes_roots n 0) c.inscribe.ensures.changes.others c.in_ok-prepare.ensures.synced)
