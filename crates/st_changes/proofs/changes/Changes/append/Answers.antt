use Rattle.std.proofs.Common.{◌≡◌, inl, ◌≤◌, ◌+◌, ◌^◌, length-append, ℕ, List, [], ◌∷◌, ◌++◌, length, sym, ap, ◌∙◌, subst, arith}
use Rattle.std.specs.Prelude.{All, Option, Some, unwrap_or}
use Rattle.std.proofs.Math.ListN.{length-map}
use Rattle.std.proofs.lemmas.List.{map-append}
use Rattle.st_store.specs.declared.root.Root.{Root}
use Rattle.st_host.proofs.Joining.{makes_then, makes_failed, makes_of}
use Rattle.st_store.specs.Stored.{Opens, IsFirm}
use Rattle.st_store.proofs.Settling.{when_err, kept_rest}
use Rattle.st_chunk.specs.Definitions.{Definition, IsDefinition, entry, entries}
use Rattle.st_changes.specs.inside.Views.{definition_of, definitions_of}
use Rattle.st_changes.specs.inside.States.{ChangesState, grown}
use Rattle.st_changes.specs.inside.Readying.{reserved_of}
use Rattle.st_changes.specs.inside.IndexStates.{found}
use Rattle.st_changes.specs.Last.{Answers}
use Rattle.st_changes.specs.declared.changes.ReservedEntry.{ReservedEntry}
use Rattle.st_changes.proofs.ListTexts.{entries_more, all_more}
use Rattle.st_changes.proofs.Growing.{grown_root}
use Rattle.st_changes.proofs.changes.Changes.append.Goals as goal

some_same : {x y : List ℕ} → Some x ≡ Some y → x ≡ y
some_same e = ap (λ (o : Option (List ℕ)). unwrap_or o []) e

pub returns-in_err-write_behind-clause-makes : goal.returns-in_err-write_behind-clause-makes
returns-in_err-write_behind-clause-makes g c x told kept =
    let H = g.H.Host in
    let b = c.write_behind.new.host in
    makes_failed H (Opens c.args.store.name) x (grown x (entry (definition_of c.args.definition))) c.args.host.now b b c.write_behind.result _ c.from_residual.ensures.0
    (c.write_behind.ensures.makes x told kept)

pub returns-in_err-store-clause-makes : goal.returns-in_err-store-clause-makes
returns-in_err-store-clause-makes g c x told kept =
    let H = g.H.Host in
    let d = entry (definition_of c.args.definition) in
    let is : c.in-Some.field-0.entry.items ≡ d = some_same (ap reserved_of (sym c.in-Some.is ∙ c.take.ensures.value) ∙ ap (λ (s : ChangesState). s.reserved) c.self.view_is ∙ c.requires.reserved) in
    let a = c.args.host.now in
    let b = c.write_behind.new.host in
    let bytes : c.deref.result.now ≡ d = c.deref.ensures.value ∙ is in
    let n : length d ≡ c.len.result = omega (arith, ap length is, c.len.ensures, c.in-Some.field-0.entry.ok) in
    let fits : x.root.length + length c.deref.result.now ≤ 2 ^ 30 = omega (arith, c.requires.fits, c.requires.place, ap (λ (r : Root). r.length) kept.root, ap length bytes) in
    let still = c.in_ok-write_behind.ensures.kept x told kept in
    let firm = subst (λ (y : List ℕ). IsFirm H b c.args.store.name (grown x y)) bytes (c.in_ok-write_behind.ensures.firm x told kept fits) in
    let root = grown_root x c.root-root.result d c.len.result (kept.root ∙ sym c.root-root.ensures) n in
    let e = c.commit.new.host in
    makes_then H (Opens c.args.store.name) x (grown x d) a b e c.write_behind.result _ (c.write_behind.ensures.makes x told kept)
    (makes_of H (Opens c.args.store.name) x (grown x d) b e c.commit.result _ c.from_residual-in_err-store.ensures.0 (c.commit.ensures.makes x (grown x d) told still firm root))

pub returns-in_err-write_behind-clause-broken : goal.returns-in_err-write_behind-clause-broken
returns-in_err-write_behind-clause-broken g c = when_err c.from_residual.result _ (λ x told kept.
    inl (kept_rest g.H.Host (Opens c.args.store.name) x c.args.host.now c.write_behind.new.host c.write_behind.result (c.write_behind.ensures.makes x told kept)))

pub returns-in_err-store-clause-broken : goal.returns-in_err-store-clause-broken
returns-in_err-store-clause-broken g c = when_err c.from_residual-in_err-store.result _ (λ x told kept.
    let H = g.H.Host in
    let d = entry (definition_of c.args.definition) in
    let is : c.in-Some.field-0.entry.items ≡ d = some_same (ap reserved_of (sym c.in-Some.is ∙ c.take.ensures.value) ∙ ap (λ (s : ChangesState). s.reserved) c.self.view_is ∙ c.requires.reserved) in
    let b = c.write_behind.new.host in
    let bytes : c.deref.result.now ≡ d = c.deref.ensures.value ∙ is in
    let n : length d ≡ c.len.result = omega (arith, ap length is, c.len.ensures, c.in-Some.field-0.entry.ok) in
    let fits : x.root.length + length c.deref.result.now ≤ 2 ^ 30 = omega (arith, c.requires.fits, c.requires.place, ap (λ (r : Root). r.length) kept.root, ap length bytes) in
    let still = c.in_ok-write_behind.ensures.kept x told kept in
    let firm = subst (λ (y : List ℕ). IsFirm H b c.args.store.name (grown x y)) bytes (c.in_ok-write_behind.ensures.firm x told kept fits) in
    let root = grown_root x c.root-root.result d c.len.result (kept.root ∙ sym c.root-root.ensures) n in
    c.in_err-store.ensures.broken x (grown x d) told still firm root)

pub invariant_of-self-2 : goal.invariant_of-self-2
invariant_of-self-2 g c =
    let d = entry (definition_of c.args.definition) in
    let is : c.in-Some.field-0.entry.items ≡ d = some_same (ap reserved_of (sym c.in-Some.is ∙ c.take.ensures.value) ∙ ap (λ (s : ChangesState). s.reserved) c.self.view_is ∙ c.requires.reserved) in
    let ds = definitions_of c.self.inside.listed.items in
    let more : definitions_of c.push_reserved.new.self.items ≡ ds ++ definition_of c.args.definition ∷ [] =
    ap definitions_of c.push_reserved.ensures.items ∙ map-append definition_of c.self.inside.listed.items (c.args.definition ∷ []) in
    let total = ap (λ (y : List Definition). length (entries y)) more ∙ ap length (entries_more ds (definition_of c.args.definition)) ∙ length-append (entries ds) d in
    let place = ap (λ (s : ChangesState). length (entries s.listed)) c.self.view_is in
    let many : c.len-2.result ≡ length ds = omega (arith, c.len-2.ensures, c.self.inside.listed.ok, length-map c.self.inside.listed.items definition_of) in
    let answers = c.note.ensures ds c.self.invariant.2 many in
    let none : (x : ReservedEntry) → c.take.new.self ≡ Some x → ⊥ = λ x e. let not = sym c.take.ensures.after ∙ e in absurd cc in (
      omega (arith, total, place, c.requires.place, ap (λ (r : Root). r.length) c.root-root.ensures, c.len.ensures, ap length is, c.in-Some.field-0.entry.ok),
      λ y e. absurd (none y e),
      subst (λ (es : List Definition). Answers es (found c.note.new.index)) (sym more) answers,
      λ y e. absurd (none y e),
      subst (λ (es : List Definition). All IsDefinition es) (sym more) (all_more ds (definition_of c.args.definition) c.self.invariant.4 c.requires.good),
    )

pub returns-clause-makes : goal.returns-clause-makes
returns-clause-makes g c x told kept =
    let H = g.H.Host in
    let d = entry (definition_of c.args.definition) in
    let is : c.in-Some.field-0.entry.items ≡ d = some_same (ap reserved_of (sym c.in-Some.is ∙ c.take.ensures.value) ∙ ap (λ (s : ChangesState). s.reserved) c.self.view_is ∙ c.requires.reserved) in
    let a = c.args.host.now in
    let b = c.write_behind.new.host in
    let bytes : c.deref.result.now ≡ d = c.deref.ensures.value ∙ is in
    let n : length d ≡ c.len.result = omega (arith, ap length is, c.len.ensures, c.in-Some.field-0.entry.ok) in
    let fits : x.root.length + length c.deref.result.now ≤ 2 ^ 30 = omega (arith, c.requires.fits, c.requires.place, ap (λ (r : Root). r.length) kept.root, ap length bytes) in
    let still = c.in_ok-write_behind.ensures.kept x told kept in
    let firm = subst (λ (y : List ℕ). IsFirm H b c.args.store.name (grown x y)) bytes (c.in_ok-write_behind.ensures.firm x told kept fits) in
    let root = grown_root x c.root-root.result d c.len.result (kept.root ∙ sym c.root-root.ensures) n in
    let e = c.commit.new.host in
    let rest = c.in_ok-store.ensures.makes x (grown x d) told still firm root in
    makes_then H (Opens c.args.store.name) x (grown x d) a b e c.write_behind.result _ (c.write_behind.ensures.makes x told kept)
    (record { rest = rest.rest; either = rest.either; quiet = rest.quiet; moments = rest.moments })

pub returns-clause-kept : goal.returns-clause-kept
returns-clause-kept g c x told kept =
    let H = g.H.Host in
    let d = entry (definition_of c.args.definition) in
    let is : c.in-Some.field-0.entry.items ≡ d = some_same (ap reserved_of (sym c.in-Some.is ∙ c.take.ensures.value) ∙ ap (λ (s : ChangesState). s.reserved) c.self.view_is ∙ c.requires.reserved) in
    let a = c.args.host.now in
    let b = c.write_behind.new.host in
    let bytes : c.deref.result.now ≡ d = c.deref.ensures.value ∙ is in
    let n : length d ≡ c.len.result = omega (arith, ap length is, c.len.ensures, c.in-Some.field-0.entry.ok) in
    let fits : x.root.length + length c.deref.result.now ≤ 2 ^ 30 = omega (arith, c.requires.fits, c.requires.place, ap (λ (r : Root). r.length) kept.root, ap length bytes) in
    let still = c.in_ok-write_behind.ensures.kept x told kept in
    let firm = subst (λ (y : List ℕ). IsFirm H b c.args.store.name (grown x y)) bytes (c.in_ok-write_behind.ensures.firm x told kept fits) in
    let root = grown_root x c.root-root.result d c.len.result (kept.root ∙ sym c.root-root.ensures) n in
    c.in_ok-store.ensures.kept x (grown x d) told still firm root

pub note-requires : goal.note-requires
note-requires g c =
    let d = definition_of c.args.definition in
    let is : c.in-Some.field-0.entry.items ≡ entry d = some_same (ap reserved_of (sym c.in-Some.is ∙ c.take.ensures.value) ∙ ap (λ (s : ChangesState). s.reserved) c.self.view_is ∙ c.requires.reserved) in
    c.self.invariant.3 c.in-Some.field-0 (sym c.take.ensures.value ∙ c.in-Some.is) d c.requires.good is
