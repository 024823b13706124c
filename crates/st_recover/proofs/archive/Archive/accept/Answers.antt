use Rattle.std.proofs.Common.{◌≡◌, ℕ, List, [], ◌∷◌, ◌++◌, length, refl, sym, subst, ap, ◌∙◌, true≢false}
use Rattle.std.specs.Prelude.{Ok, Err}
use Rattle.st_host.specs.Runs.{ChangesBoth, Spares}
use Rattle.st_host.proofs.Touching.{spares_none}
use Rattle.st_chunk.specs.Definitions.{Definition, IsDefinition, entries}
use Rattle.st_chunk.specs.inside.ScriptDefinitions.{definition_of}
use Rattle.st_store.specs.Names.{changes_file, roots_file, IsNoFileOf}
use Rattle.st_store.specs.Stored.{StoreState}
use Rattle.st_changes.specs.Last.{HasSelector}
use Rattle.st_changes.specs.inside.Views.{definition_of as kept_definition}
use Rattle.st_protocol.specs.declared.status.Status.TheVariants.{DiskFault, TooLarge}
use Rattle.st_protocol.proofs.Joins.{obeys_as}
use Rattle.st_recover.specs.inside.Archives.{ArchiveState, IsStoreOf, IsBesideChanges}
use Rattle.st_recover.specs.Commits.{OpensAs, accepting}
use Rattle.st_recover.proofs.Commits.{holds_rest}
use Rattle.st_recover.proofs.Making.{both_spare}
use Rattle.st_recover.proofs.Holding.{some_same, for_store, store_grown, named, accept_makes, accept_broken, accept_holds}
use Rattle.st_recover.proofs.Obeying.{it_fits, it_is_too_long, accept_kept, accept_failed, accept_refused, accept_starved}
use Rattle.st_recover.proofs.archive.Archive.accept.Goals as goal

pub returns-in_default-clause-obeys : goal.returns-in_default-clause-obeys
returns-in_default-clause-obeys g c x holds =
    let H = g.H.Host in
    let a = c.args.host.now in
    let old = c.args.self.now in
    accept_starved H (OpensAs old.name) (IsNoFileOf old.name) _ x (definition_of c.args.definition.now) a (λ f s told left. g.met.H.Host.only_now a f s told left) (holds_rest H a old x holds)

pub returns-in_default-reserve_as-clause-obeys : goal.returns-in_default-reserve_as-clause-obeys
returns-in_default-reserve_as-clause-obeys g c x holds =
    let H = g.H.Host in
    let a = c.args.host.now in
    let old = c.args.self.now in
    accept_starved H (OpensAs old.name) (IsNoFileOf old.name) _ x (definition_of c.args.definition.now) a (λ f s told left. g.met.H.Host.only_now a f s told left) (holds_rest H a old x holds)

pub returns-then-not-fits-clause-obeys : goal.returns-then-not-fits-clause-obeys
returns-then-not-fits-clause-obeys g c x holds =
    let H = g.H.Host in
    let a = c.args.host.now in
    let old = c.args.self.now in
    let kept = kept_definition c.in-Ok.definition in
    let is : kept ≡ definition_of c.args.definition.now = c.in-Ok.ensures.definition in
    let listed = ap (λ (s : ArchiveState). s.listed) c.self.view_is ∙ holds.listed in
    let long = it_is_too_long x kept c.self.inside.changes.listed listed (λ low. true≢false (sym (c.fits.ensures.1 low) ∙ c.if-not-fits.true)) in
    obeys_as H (OpensAs old.name) (IsNoFileOf old.name) _ (λ d. d) x (accepting x kept) (accepting x (definition_of c.args.definition.now)) (Err TooLarge) a a (ap (accepting x) is)
    (accept_refused H (OpensAs old.name) (IsNoFileOf old.name) _ x kept a (λ f s told left. g.met.H.Host.only_now a f s told left) (holds_rest H a old x holds) long)

pub returns-in_default-append-clause-obeys : goal.returns-in_default-append-clause-obeys
returns-in_default-append-clause-obeys g c x holds =
    let H = g.H.Host in
    let a = c.args.host.now in
    let old = c.args.self.now in
    let kept = kept_definition c.in-Ok.definition in
    let is : kept ≡ definition_of c.args.definition.now = c.in-Ok.ensures.definition in
    let listed = ap (λ (s : ArchiveState). s.listed) c.self.view_is ∙ holds.listed in
    let b = c.append.new.host in
    let st = c.in-Some.store in
    let there = ap (λ (s : ArchiveState). s.store) (sym c.self.view_is) ∙ sym c.take.ensures.value ∙ c.in-Some.is in
    let fits = it_fits x kept c.self.inside.changes.listed listed (c.fits.ensures.0 c.if-not-fits.false) in
    let name_is = named H a old st x holds there in
    let slot = st.root.slot in
    let both = subst (λ (n : List ℕ). ChangesBoth H (changes_file n slot) (roots_file n) a b) name_is c.append.ensures.changes in
    let spares = both_spare H (changes_file old.name slot) (roots_file old.name) (IsNoFileOf old.name) a b (λ n no. no.changes slot) (λ n no. no.roots) both in
    let makes = accept_makes H a old st x holds there kept b c.append.result (subst IsDefinition (sym is) c.requires.good) (λ y told keeps. c.append.ensures.makes y told keeps) in
    obeys_as H (OpensAs old.name) (IsNoFileOf old.name) _ (λ d. d) x (accepting x kept) (accepting x (definition_of c.args.definition.now)) (Err DiskFault) a b (ap (accepting x) is)
    (accept_failed H (OpensAs old.name) (IsNoFileOf old.name) _ x kept old.name a b c.append.result fits makes
    (accept_broken H a old st x holds there b (λ y told keeps. c.in_default-append.ensures.broken y told keeps)) spares)

pub returns-in_default-append-clause-broken : goal.returns-in_default-append-clause-broken
returns-in_default-append-clause-broken g c disk x told holds =
    let st = c.in-Some.store in
    let there = ap (λ (s : ArchiveState). s.store) (sym c.self.view_is) ∙ sym c.take.ensures.value ∙ c.in-Some.is in
    accept_broken g.H.Host c.args.host.now c.args.self.now st x holds there c.append.new.host (λ y told keeps. c.in_default-append.ensures.broken y told keeps) told

pub invariant_of-self-2 : goal.invariant_of-self-2
invariant_of-self-2 g c =
    let kept = kept_definition c.in-Ok.definition in
    let inside = c.self.inside.changes in
    let was : IsStoreOf inside.name inside.second inside.listed c.in-Some.store = c.self.invariant c.in-Some.store (sym c.take.ensures.value ∙ c.in-Some.is) in
    let more : c.append.new.self.listed ≡ inside.listed ++ kept ∷ [] = c.in-Ok-append.ensures.listed ∙ ap (λ (ds : List Definition). ds ++ kept ∷ []) c.reserve_as.ensures.listed in
    let next = store_grown inside.name c.append.new.self.name inside.second c.append.new.self.second inside.listed c.append.new.self.listed kept c.in-Some.store c.in-Ok-append.store was c.in-Ok-append.ensures.store
    (c.append.ensures.named ∙ c.reserve_as.ensures.named) (c.append.ensures.second ∙ c.reserve_as.ensures.second) more in
    λ y e. subst (λ (s : StoreState). IsStoreOf c.append.new.self.name c.append.new.self.second c.append.new.self.listed s) (some_same e) next

pub returns-clause-obeys : goal.returns-clause-obeys
returns-clause-obeys g c x holds =
    let H = g.H.Host in
    let a = c.args.host.now in
    let old = c.args.self.now in
    let kept = kept_definition c.in-Ok.definition in
    let is : kept ≡ definition_of c.args.definition.now = c.in-Ok.ensures.definition in
    let listed = ap (λ (s : ArchiveState). s.listed) c.self.view_is ∙ holds.listed in
    let b = c.append.new.host in
    let st = c.in-Some.store in
    let there = ap (λ (s : ArchiveState). s.store) (sym c.self.view_is) ∙ sym c.take.ensures.value ∙ c.in-Some.is in
    let fits = it_fits x kept c.self.inside.changes.listed listed (c.fits.ensures.0 c.if-not-fits.false) in
    let name_is = named H a old st x holds there in
    let slot = st.root.slot in
    let both = subst (λ (n : List ℕ). ChangesBoth H (changes_file n slot) (roots_file n) a b) name_is c.append.ensures.changes in
    let spares = both_spare H (changes_file old.name slot) (roots_file old.name) (IsNoFileOf old.name) a b (λ n no. no.changes slot) (λ n no. no.roots) both in
    let good = subst IsDefinition (sym is) c.requires.good in
    let makes = accept_makes H a old st x holds there kept b (Ok c.in-Ok-append.store) good (λ y told keeps. c.in-Ok-append.ensures.makes y told keeps) in
    let more = c.in-Ok-append.ensures.listed ∙ ap (λ (ds : List Definition). ds ++ kept ∷ []) (c.reserve_as.ensures.listed ∙ ap (λ (s : ArchiveState). s.listed) c.self.view_is) in
    let held = accept_holds H a old st x holds there kept b _ c.in-Ok-append.store good (c.append.ensures.named ∙ c.reserve_as.ensures.named ∙ ap (λ (s : ArchiveState). s.name) c.self.view_is) refl more
    c.in-Ok-append.ensures.store (λ y told keeps. c.in-Ok-append.ensures.kept y told keeps) in
    obeys_as H (OpensAs old.name) (IsNoFileOf old.name) _ (λ d. d) x (accepting x kept) (accepting x (definition_of c.args.definition.now)) (Ok tt) a b (ap (accepting x) is)
    (accept_kept H (OpensAs old.name) (IsNoFileOf old.name) _ x kept a b c.in-Ok-append.store fits held makes spares)

pub invariant_of-self : goal.invariant_of-self
invariant_of-self g c x is =
    let was = c.self.invariant x is in
    let reserved = c.reserve_as.ensures in
    record {
      named = was.named ∙ sym reserved.named;
      file = reserved.second ∙ was.file;
      whole = was.whole ∙ ap (λ (ds : List Definition). length (entries ds)) (sym reserved.listed);
    }

pub append-requires-clause-place : goal.append-requires-clause-place
append-requires-clause-place g c =
    let was = c.self.invariant c.in-Some.store (sym c.take.ensures.value ∙ c.in-Some.is) in
    was.whole ∙ ap (λ (ds : List Definition). length (entries ds)) (sym c.reserve_as.ensures.listed)

pub reserve_as-requires-clause-finds : goal.reserve_as-requires-clause-finds
reserve_as-requires-clause-finds g c =
    let own = c.in-Ok.ensures in
    let text = ap (λ (d : Definition). d.text) own.definition in
    subst (λ (t : List ℕ). HasSelector t c.in-Ok.selector.items) (sym text) (subst (HasSelector (definition_of c.args.definition.now).text) (sym own.selector) c.requires.selector)

pub returns-in_default-clause-alone : goal.returns-in_default-clause-alone
returns-in_default-clause-alone g c x is = spares_none g.H.Host (IsBesideChanges x) c.args.host.now

pub returns-in_default-reserve_as-clause-alone : goal.returns-in_default-reserve_as-clause-alone
returns-in_default-reserve_as-clause-alone g c x is = spares_none g.H.Host (IsBesideChanges x) c.args.host.now

pub returns-then-not-fits-clause-alone : goal.returns-then-not-fits-clause-alone
returns-then-not-fits-clause-alone g c x is = spares_none g.H.Host (IsBesideChanges x) c.args.host.now

pub returns-in_default-append-clause-alone : goal.returns-in_default-append-clause-alone
returns-in_default-append-clause-alone g c =
    let H = g.H.Host in
    let a = c.args.host.now in
    let b = c.append.new.host in
    let st = c.in-Some.store in
    let there = ap (λ (s : ArchiveState). s.store) (sym c.self.view_is) ∙ sym c.take.ensures.value ∙ c.in-Some.is in
    for_store c.args.self.now.store st (λ s. Spares H (IsBesideChanges s) a b) there
    (both_spare H (changes_file st.name st.root.slot) (roots_file st.name) (IsBesideChanges st) a b (λ n no. no.1) (λ n no. no.0) c.append.ensures.changes)

pub returns-clause-alone : goal.returns-clause-alone
returns-clause-alone g c =
    let H = g.H.Host in
    let a = c.args.host.now in
    let b = c.append.new.host in
    let st = c.in-Some.store in
    let there = ap (λ (s : ArchiveState). s.store) (sym c.self.view_is) ∙ sym c.take.ensures.value ∙ c.in-Some.is in
    for_store c.args.self.now.store st (λ s. Spares H (IsBesideChanges s) a b) there
    (both_spare H (changes_file st.name st.root.slot) (roots_file st.name) (IsBesideChanges st) a b (λ n no. no.1) (λ n no. no.0) c.append.ensures.changes)
