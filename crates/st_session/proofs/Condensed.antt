-- How condensing ends, from its parts: the store is opened, its changes are condensed, and a line is said.
use Rattle.std.proofs.Common.{◌≡◌, ◌⊎◌, inl, inr, ⊎_elim, ℕ, ◌≤◌, List, ◌++◌, ◌∙◌, length, IsTrue, refl, sym, ap, subst, true≢false}
use Rattle.std.specs.Prelude.{Result, Ok, Err, IfErr, IsErr, OnOk, All}
use Rattle.st_host.specs.Files.{Files}
use Rattle.st_host.specs.Runs.{LeavesOnly, ReadsAndSays, IsAtRest, Makes}
use Rattle.st_host.specs.Stops.{SaidPart, WhileSaying}
use Rattle.st_host.specs.declared.host.Host.{Ghosts}
use Rattle.st_host.proofs.Joining.{weaker, moments_join}
use Rattle.st_chunk.specs.Definitions.{Definition, IsDefinition, entries}
use Rattle.st_store.specs.Faults.{RestsUnlessGate}
use Rattle.st_store.specs.Stored.{StoreState, Opens, IsOpening}
use Rattle.st_store.specs.declared.root.Root.{Root}
use Rattle.st_protocol.specs.declared.status.Status.{Status}
use Rattle.st_protocol.specs.declared.status.Status.TheVariants as status
use Rattle.st_protocol.proofs.Underways.{nothing_of}
use Rattle.st_changes.specs.Condensing.{Condenses, condensed}
use Rattle.st_recover.specs.Commits.{Commit, OpensAs, all_of, stored_of}
use Rattle.st_recover.specs.Condensed.{IsCondensed, OpensCondensed}
use Rattle.st_recover.proofs.Commits.{IsOpenable, broken_commit}
use Rattle.st_recover.proofs.Condensing.{condensed_commit, is_condensed, makes_condensed}
use Rattle.st_call.specs.LastLines.{last_line, SaysLastLine}
use Rattle.st_call.specs.Replies.{condensed_text}
use Rattle.st_call.specs.inside.Telling.{Tells}
use Rattle.st_session.specs.Ends.{status_in}
use Rattle.st_session.specs.Exports.{IsOfExporting}
use Rattle.st_session.specs.Condensings.{IsKeptAs, ResultHas, DoesCondense, CondenseHas}
use Rattle.st_session.proofs.Commanded.{opens_still, opened_so}
use Rattle.st_session.proofs.Exported.{none_more, line_behind}

-- what an answer gives
pub where_ok : {R E P Z : Type 0} (result : Result R E) (r : R) → result ≡ Ok r → (IsErr result × P) ⊎ Z → Z
where_ok result r is (inl p) = absurd (true≢false (sym (subst IsErr is p.0)))
where_ok result r is (inr z) = z

-- what is so of one that is
pub on_this : {R E : Type 0} (P : Type 0) (result : Result R E) (r : R) → result ≡ Ok r → OnOk result P → P
on_this P result r is h = subst (λ y. OnOk y P) is h

-- what makes nothing of a commit leaves it at rest
pub both_same : {A : Type 0} → A ⊎ A → A
both_same (inl x) = x
both_same (inr x) = x

module _ {D : Type 0} (host : Ghosts D) (old : D) (store : StoreState) (listed : List Definition) (c : Commit) (kept : IsKeptAs host old store listed c) (good : All IsDefinition listed) where
  able : IsOpenable c
  able = record { readable = kept.readable; good = subst (λ (ds : List Definition). All IsDefinition ds) kept.listed_is good }

  base_is : store.root.base ≡ length (entries c.before)
  base_is = sym (ap (λ (r : Root). r.base) kept.kept.root)

  abbrev At : Files → List ℕ → Type 0
  At f s = OpensCondensed store.name c f ⊎ (OpensAs store.name c f × (s ≡ host.said old))

  -- as what makes nothing of the commit
  as_same : {R E : Type 0} (mid : D) (result : Result R E) → Makes host (Opens store.name) (stored_of store.root.slot c) (stored_of store.root.slot c) old mid result → LeavesOnly host old mid At
  as_same mid result makes =
      weaker host old mid At (λ f s. (s ≡ host.said old) × (Opens store.name (stored_of store.root.slot c) f ⊎ Opens store.name (stored_of store.root.slot c) f)) makes.moments
      (λ f s so. inr (as_commit f (both_same so.1), so.0))
    where
      as_commit : (f : Files) → Opens store.name (stored_of store.root.slot c) f → OpensAs store.name c f
      as_commit f opens = record { slot = store.root.slot; opens = opens; readable = able.readable; good = able.good }

  pub rests_same : (new : D) → IsAtRest host (Opens store.name) (stored_of store.root.slot c) new → IsAtRest host (OpensAs store.name) c new
  rests_same new rest = record { opens_as = λ f can. record { slot = store.root.slot; opens = rest.opens_as f can; readable = able.readable; good = able.good } }

  pub unless_gate : (new : D) → RestsUnlessGate host (Opens store.name) store.name (stored_of store.root.slot c) new → RestsUnlessGate host (OpensAs store.name) store.name c new
  unless_gate new broken = broken_commit host store.name store.name store.root.slot c new able refl broken

  module _ {R E : Type 0} (mid : D) (result : Result R E) (z : Condenses listed store.root.base)
      (makes : Makes host (Opens store.name) (stored_of store.root.slot c) (condensed (stored_of store.root.slot c) z) old mid result) where
    abbrev d : Commit
    d = condensed_commit c listed store.root.base kept.listed_is base_is z

    as_commits : Makes host (OpensAs store.name) c d old mid result
    as_commits = makes_condensed c listed store.root.base kept.listed_is base_is z host store.name store.root.slot old mid result able makes

    its : IsCondensed c d
    its = is_condensed c listed store.root.base kept.listed_is base_is z

    as_condensed : LeavesOnly host old mid At
    as_condensed = weaker host old mid At (λ f s. (s ≡ host.said old) × (OpensAs store.name c f ⊎ OpensAs store.name d f)) as_commits.moments
        (λ f s so. ⊎_elim (λ was. inr (was, so.0)) (λ is. inl (record { commit = d; condenses = its; opens_as = is })) so.1)

    -- and then the reply is said
    pub condensed_told : (r : R) (before after : ℕ) (new : D) (reply : Result Unit Status) → IsTrue host.is_told → result ≡ Ok r → before ≡ length listed → after ≡ length (z.kept ++ z.behind)
        → Tells host (condensed_text before after) mid new reply → DoesCondense host store.name c old new reply
    condensed_told r before after new reply told is many left tells =
        let rest = on_this (IsAtRest host (OpensAs store.name) d mid) result r is as_commits.rest in
        let text_is : condensed_text before after ≡ condensed_text (length (all_of c)) (length (all_of d)) = λ i. condensed_text ((many ∙ ap length kept.listed_is) i) (left i) in
        let still : IsAtRest host (OpensAs store.name) d new = record { opens_as = λ f can. rest.opens_as f (λ n. (tells.says.part.stops told).fewer n (f n) (can n)) } in
        record {
          moments = moments_join host old mid new At (WhileSaying (host.may_leave mid) (host.said mid) (condensed_text before after)) as_condensed (tells.says.part.moments told)
              (λ f s w. inl (record { commit = d; condenses = its; opens_as = rest.opens_as f w.0 }));
          has = by reply tells text_is still;
        }
      where
        by : (y : Result Unit Status) → Tells host (condensed_text before after) mid new y → condensed_text before after ≡ condensed_text (length (all_of c)) (length (all_of d))
            → IsAtRest host (OpensAs store.name) d new → ResultHas host store.name c old new y
        by (Ok u) t same rest = record {
          commit = d;
          condenses = its;
          said = t.all.is told ∙ (λ i. as_commits.quiet i ++ same i);
          rests = rest;
        }
        by (Err e) t same rest = subst (λ (x : Status). ResultHas host store.name c old new (Err x)) (sym t.fault) (record {
          commit = d;
          condenses = its;
          said = subst (λ (b : List ℕ). SaidPart b (condensed_text (length (all_of c)) (length (all_of d))) (host.said new)) as_commits.quiet
              (subst (λ (b : List ℕ). SaidPart (host.said mid) b (host.said new)) same (t.says.part.part told));
          rests = rest;
        })

  -- a fault came while it was condensed, or there was no memory
  unmade : {R E : Type 0} (mid : D) (result : Result R E)
      → (IsErr result × Makes host (Opens store.name) (stored_of store.root.slot c) (stored_of store.root.slot c) old mid result) ⊎ Condenses listed store.root.base
      → ((z : Condenses listed store.root.base) → Makes host (Opens store.name) (stored_of store.root.slot c) (condensed (stored_of store.root.slot c) z) old mid result)
      → LeavesOnly host old mid At × (host.said mid ≡ host.said old)
  unmade mid result (inl p) makes = (as_same mid result p.1, p.1.quiet)
  unmade mid result (inr z) makes = let m = makes z in (as_condensed mid result z m, m.quiet)

  -- which ends in this status
  pub does_unmade : {R E : Type 0} (mid : D) (result : Result R E) (e : Status)
      → (IsErr result × Makes host (Opens store.name) (stored_of store.root.slot c) (stored_of store.root.slot c) old mid result) ⊎ Condenses listed store.root.base
      → ((z : Condenses listed store.root.base) → Makes host (Opens store.name) (stored_of store.root.slot c) (condensed (stored_of store.root.slot c) z) old mid result)
      → (host.said mid ≡ host.said old → ResultHas host store.name c old mid (Err e)) → DoesCondense host store.name c old mid (Err e)
  does_unmade mid result e either makes has = let un = unmade mid result either makes in record { moments = un.0; has = has un.1 }

-- WITH THE LAST LINE BEHIND IT

module _ {D : Type 0} (host : Ghosts D) (store : List ℕ) where
  -- as the commit condensed, or as it was and nothing was said
  abbrev Unsaid : Commit → D → Files → List ℕ → Type 0
  Unsaid k mid f s = OpensCondensed store k f ⊎ (OpensAs store k f × (s ≡ host.said mid))

  -- or no more than of the last line of a fault
  abbrev Whole : Commit → Status → D → Files → List ℕ → Type 0
  Whole c e old f s = OpensCondensed store c f ⊎ (OpensAs store c f × SaidPart (host.said old) (last_line e) s)

  -- behind the opening it is at each moment whole or not done
  pub condensing_since : (c : Commit) (e : Status) (old mid closed new : D) → IsTrue host.is_told → host.said mid ≡ host.said old
      → LeavesOnly host mid closed (λ f s. OpensCondensed store c f ⊎ (OpensAs store c f × (s ≡ host.said mid)))
      → ((f : Files) → ((n : List ℕ) → host.may_leave closed n (f n)) → host.left_since closed (host.moment mid) f (host.said closed))
      → ReadsAndSays host (last_line e) closed new
      → LeavesOnly host mid new (λ f s. OpensCondensed store c f ⊎ (OpensAs store c f × SaidPart (host.said old) (last_line e) s))
  condensing_since c e old mid closed new told quiet moments now line =
      moments_join host mid closed new (Whole c e old) (WhileSaying (host.may_leave closed) (host.said closed) (last_line e))
      (weaker host mid closed (Whole c e old) (Unsaid c mid) moments (λ f s so. first f s so))
      (line.moments told) (λ f s w. last f s w.1 (moments.each f (host.said closed) (now f w.0)))
    where
      first : (f : Files) (s : List ℕ) → Unsaid c mid f s → Whole c e old f s
      first f s (inl is) = inl is
      first f s (inr was) = inr (was.0, nothing_of (host.said old) (last_line e) s (was.1 ∙ quiet))

      last : (f : Files) (s : List ℕ) → SaidPart (host.said closed) (last_line e) s → Unsaid c mid f (host.said closed) → Whole c e old f s
      last f s said (inl is) = inl is
      last f s said (inr was) = inr (was.0, subst (λ (t : List ℕ). SaidPart t (last_line e) s) (was.1 ∙ quiet) said)

  -- so it is from the beginning on, where each state that a stop could leave opened as one commit
  pub condensing_whole : (k c : Commit) (e : Status) (old mid new : D) → k ≡ c → IsAtRest host (OpensAs store) c old → ((n : List ℕ) → host.may_leave old n (host.files old n))
      → LeavesOnly host old mid (λ f s. (s ≡ host.said old) × IsOpening host old store f)
      → LeavesOnly host mid new (λ f s. OpensCondensed store k f ⊎ (OpensAs store k f × SaidPart (host.said old) (last_line e) s))
      → LeavesOnly host old new (λ f s. OpensCondensed store c f ⊎ (OpensAs store c f × SaidPart (host.said old) (last_line e) s))
  condensing_whole k c e old mid new same rest reads opening since =
      moments_join host old mid new (Whole c e old) (Whole k e old)
      (weaker host old mid (Whole c e old) (λ f s. (s ≡ host.said old) × IsOpening host old store f) opening (λ f s so. inr (opens_still host store old c rest reads f so.1, nothing_of (host.said old) (last_line e) s so.0)))
      since (λ f s so. subst (λ (x : Commit). Whole x e old f s) same so)

  -- what an opening leaves
  pub opening_so : (c : Commit) (old mid : D) → OpensAs store c (host.files old) → LeavesOnly host old mid (λ f s. (s ≡ host.said old) × IsOpening host old store f)
      → LeavesOnly host old mid (λ f s. (s ≡ host.said old) × (((n : List ℕ) → host.may_leave old n (f n)) ⊎ OpensAs store c f))
  opening_so c old mid opened moments =
      weaker host old mid (λ f s. (s ≡ host.said old) × (((n : List ℕ) → host.may_leave old n (f n)) ⊎ OpensAs store c f)) (λ f s. (s ≡ host.said old) × IsOpening host old store f) moments
      (λ f s so. (so.0, opened_so host store old c opened f so.1))

  -- a refused opening leaves it as it was
  pub refused_whole_moments : (c : Commit) (e : Status) (old new : D) → IsAtRest host (OpensAs store) c old → ((n : List ℕ) → host.may_leave old n (host.files old n))
      → LeavesOnly host old new (λ f s. SaidPart (host.said old) (last_line e) s × IsOpening host old store f)
      → LeavesOnly host old new (λ f s. OpensCondensed store c f ⊎ (OpensAs store c f × SaidPart (host.said old) (last_line e) s))
  refused_whole_moments c e old new rest reads moments =
      weaker host old new (λ f s. OpensCondensed store c f ⊎ (OpensAs store c f × SaidPart (host.said old) (last_line e) s)) (λ f s. SaidPart (host.said old) (last_line e) s × IsOpening host old store f) moments
      (λ f s so. inr (opens_still host store old c rest reads f so.1, so.0))

  pub condense_has : (c : Commit) (r : Result Unit Status) (old mid closed new : D) → IsTrue host.is_told → IfErr r IsOfExporting → ResultHas host store c mid closed r
      → host.said mid ≡ host.said old → host.say_faults old ≤ host.say_faults closed → ReadsAndSays host (last_line (status_in r)) closed new → SaysLastLine host (status_in r) closed new
      → CondenseHas host store c old new (status_in r)
  condense_has c (Ok u) old mid closed new told kind has quiet low line last = record {
    commit = has.commit;
    condenses = has.condenses;
    said = none_more (host.said closed) (host.said new) (last.part told) ∙ has.said ∙ ap (λ (t : List ℕ). t ++ condensed_text (length (all_of c)) (length (all_of has.commit))) quiet;
    rests = record { opens_as = λ f can. has.rests.opens_as f (λ n. (line.stops told).fewer n (f n) (can n)) };
  }
  condense_has c (Err status.SayFault) old mid closed new told kind has quiet low line last = record {
    commit = has.commit;
    condenses = has.condenses;
    said = subst (SaidPart (host.said old) (condensed_text (length (all_of c)) (length (all_of has.commit)))) (sym (none_more (host.said closed) (host.said new) (last.part told)))
        (subst (λ (t : List ℕ). SaidPart t (condensed_text (length (all_of c)) (length (all_of has.commit))) (host.said closed)) quiet has.said);
    rests = record { opens_as = λ f can. has.rests.opens_as f (λ n. (line.stops told).fewer n (f n) (can n)) };
  }
  condense_has c (Err status.DiskFault) old mid closed new told kind has quiet low line last = (
    line_behind host store store status.DiskFault old closed new (has.0 ∙ quiet) low last,
    ⊎_elim
        (λ rest. inl (record { opens_as = λ f can. rest.opens_as f (λ n. (line.stops told).fewer n (f n) (can n)) }))
        (λ gate. inr (record { failed = closed; fails = gate; behind = line.stops told }))
        has.1,
  )
  condense_has c (Err status.OutOfMemory) old mid closed new told kind has quiet low line last = (
    line_behind host store store status.OutOfMemory old closed new (has.0 ∙ quiet) low last,
    record { opens_as = λ f can. has.1.opens_as f (λ n. (line.stops told).fewer n (f n) (can n)) },
  )
  condense_has c (Err status.Done) old mid closed new told kind has quiet low line last = absurd kind
  condense_has c (Err status.Usage) old mid closed new told kind has quiet low line last = absurd kind
  condense_has c (Err (status.Image f)) old mid closed new told kind has quiet low line last = absurd kind
  condense_has c (Err (status.Script n)) old mid closed new told kind has quiet low line last = absurd kind
  condense_has c (Err status.ReadFault) old mid closed new told kind has quiet low line last = absurd kind
  condense_has c (Err (status.Store f)) old mid closed new told kind has quiet low line last = absurd kind
  condense_has c (Err (status.Kernel chunk cause)) old mid closed new told kind has quiet low line last = absurd kind
  condense_has c (Err status.TooLarge) old mid closed new told kind has quiet low line last = absurd kind
