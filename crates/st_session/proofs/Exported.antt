-- How an export ends, from its parts: the store is opened, what it opens as is saved, its image is written, and a line is said.
use Rattle.std.proofs.Common.{◌≡◌, ◌≢◌, ◌⊎◌, inl, inr, ℕ, ◌≤◌, List, [], ◌∷◌, ◌++◌, ◌∙◌, IsTrue, Option, refl, sym, ap, subst, arith, append-nil}
use Rattle.std.specs.Prelude.{Some, None, Result, Ok, Err, IfErr}
use Rattle.std.specs.Option.{option_or}
use Rattle.st_host.specs.Files.{Files}
use Rattle.st_host.specs.Runs.{LeavesOnly, NarrowsBut, ReadsAlike, ReadsAndSays, ChangesOneFile, WritesAbove, Spares, IsAtRest}
use Rattle.st_host.specs.Stops.{SaidPart, WhileSaying}
use Rattle.st_host.specs.inside.Telling.{Says}
use Rattle.st_host.specs.declared.host.Host.{Ghosts}
use Rattle.st_host.proofs.Joining.{weaker, moments_join}
use Rattle.st_host.proofs.Rising.{rose_second}
use Rattle.st_host.proofs.Telling.{OnlyNow, says_none}
use Rattle.st_host.proofs.Touching.{above_changes, changes_spare}
use Rattle.st_model.specs.declared.dead.Dead.{Dead}
use Rattle.st_model.specs.Machine.{State, Transition, Died, Went}
use Rattle.st_model.specs.Births.{Births}
use Rattle.st_model.specs.Table.{Table}
use Rattle.st_model.specs.Show.{Shows, show}
use Rattle.st_model.specs.Text.{dead_text}
use Rattle.st_machine.specs.inside.Asked.{SavedAs}
use Rattle.st_store.specs.Names.{roots_file, changes_file, image_file, IsNoFileOf}
use Rattle.st_store.specs.Stored.{StoreState, IsKept, IsOpening}
use Rattle.st_store.specs.declared.fault.StoreFault.TheVariants as unmade
use Rattle.st_protocol.specs.declared.status.Status.{Status}
use Rattle.st_protocol.specs.declared.status.Status.TheVariants as status
use Rattle.st_protocol.specs.Statuses.{StatusHasCause, EndHasCause, Counts}
use Rattle.st_protocol.proofs.Counting.{front_of}
use Rattle.st_recover.specs.Commits.{Commit, OpensAs, stored_of}
use Rattle.st_recover.specs.Openings.{RefusesOpening, IsOfReopening}
use Rattle.st_recover.specs.declared.fault.OpenFault.{OpenFault}
use Rattle.st_recover.specs.declared.fault.OpenFault.TheVariants as opening
use Rattle.st_recover.proofs.Determined.{same_commit}
use Rattle.st_call.specs.LastLines.{last_line, SaysLastLine}
use Rattle.st_session.specs.Commands.{opening_status}
use Rattle.st_session.specs.Ends.{IsCalm, status_in}
use Rattle.st_call.specs.inside.Telling.{Tells}
use Rattle.st_session.specs.Exports.{Export, ExportsImage, ExportsSaved, IsOfExporting, IsOfExport, LeavesOthers, HasExported, HasImage, ExportHas, Stays, DoesExport}
use Rattle.st_session.specs.declared.extent.Extent.{Extent}
use Rattle.st_session.specs.Resting.{OpensFrom}
use Rattle.st_session.proofs.Commanded.{cause_between, opens_still, opened_so}

-- WHAT SAVING COMES TO

pub saved_export : (extent : Extent) (c : State Table) (x : Transition (State Births) Unit) → SavedAs (Ok tt) c x → ((s : State Births) → Shows c s → show s ≡ c) → (y : Export) → ExportsImage extent c.memory c.head y → ExportsSaved extent x y
saved_export extent c (Died k) w shown y is = absurd w
saved_export extent c (Went u s) w shown y is = subst (λ (d : State Table). ExportsImage extent d.memory d.head y) (sym (shown s w)) is

pub died_export : (extent : Extent) (cause : Dead) (c : State Table) (x : Transition (State Births) Unit) → SavedAs (Err cause) c x → ExportsSaved extent x (record { image = None; text = dead_text 0 cause })
died_export extent cause c (Died k) w = λ i. record { image = None; text = dead_text 0 (sym w i) }
died_export extent cause c (Went u s) w = absurd w

-- nothing more was said
pub none_more : (before now : List ℕ) → SaidPart before [] now → now ≡ before
none_more before now part =
    let front = front_of before [] now part in
    front.1 ∙ ap (λ (t : List ℕ). before ++ t) (none_in front.0 (front.2).0 (front.2).1) ∙ append-nil before
  where
    none_in : (a b : List ℕ) → a ++ b ≡ [] → a ≡ []
    none_in [] b e = refl
    none_in (x ∷ a) b e = cc

module _ {D : Type 0} (host : Ghosts D) (name : List ℕ) where
  -- WHAT IS LEFT ALONE

  abbrev Others : D → Files → List ℕ → Type 0
  Others old f s = (n : List ℕ) → n ≢ name → host.may_leave old n (f n)

  others_changed : (old new : D) → ChangesOneFile host name old new → LeavesOthers host name old new
  others_changed old new run = record {
    spares = changes_spare host name (λ n. n ≢ name) old new (λ n is. is) run;
    moments = λ told. weaker host old new (Others old) _ (run.moments told) (λ f s so. so.1);
  }

  -- a run that writes this file leaves the others
  pub others_above : (old new : D) → WritesAbove host 0 name old new → LeavesOthers host name old new
  others_above old new writes = others_changed old new (above_changes host name 0 old new writes)

  pub others_said : (text : List ℕ) (old mid new : D) → LeavesOthers host name old mid → Says host text mid new → LeavesOthers host name old new
  others_said text old mid new before says = record {
    spares = record {
      files = λ told n is. says.alike.same told n ∙ before.spares.files told n is;
      fewer = λ told n c is can. before.spares.fewer told n c is ((says.part.stops told).fewer n c can);
      more = λ told n c is could. (says.part.stops told).more n c (before.spares.more told n c is could);
    };
    moments = λ told. moments_join host old mid new (Others old) (WhileSaying (host.may_leave mid) (host.said mid) text) (before.moments told) (says.part.moments told)
        (λ f s w n is. before.spares.fewer told n (f n) is (w.0 n));
  }

  pub others_none : (old : D) → OnlyNow host old → LeavesOthers host name old old
  others_none old only = record {
    spares = record { files = λ told n is. refl; fewer = λ told n c is can. can; more = λ told n c is could. could };
    moments = λ told. weaker host old old (Others old) (WhileSaying (host.may_leave old) (host.said old) []) ((says_none {host = host} only).part.moments told) (λ f s w n is. w.0 n);
  }

  -- WHAT IS DONE

  module _ (old mid new : D) (result : Result Unit Status) where
    pub counts_behind : host.disk_faults old ≤ host.disk_faults mid → host.say_faults mid ≡ host.say_faults old → Counts host ⊥ mid new result → Counts host ⊥ old new result
    counts_behind disk say counts = record {
      disk = omega (arith, disk, counts.disk);
      say = omega (arith, say, counts.say);
      cause = over result counts.cause;
    }
      where
        over : (r : Result Unit Status) → EndHasCause host ⊥ mid new r → EndHasCause host ⊥ old new r
        over (Ok u) h = tt
        over (Err e) h = cause_between host ⊥ old mid new new e disk say counts.say (omega arith) refl h

  pub told_kind : (text : List ℕ) (mid new : D) (result : Result Unit Status) → Tells host text mid new result → IfErr result IsOfExporting
  told_kind text mid new (Ok u) tells = tt
  told_kind text mid new (Err e) tells = subst IsOfExporting (sym tells.fault) tt

  -- the file has been written, and the text is said
  pub has_told : (exports : Export → Type 0) (x : Export) (old mid new : D) (result : Result Unit Status) → exports x → IsTrue host.is_told → host.files mid name ≡ option_or x.image (host.files old name) → host.said mid ≡ host.said old
      → Tells host x.text mid new result → HasExported host name exports old new result
  has_told exports x old mid new (Ok u) is told file quiet tells = record {
    export = x;
    is = is;
    file = tells.says.alike.same told name ∙ file;
    said = tells.all.is told ∙ ap (λ (t : List ℕ). t ++ x.text) quiet;
  }
  has_told exports x old mid new (Err e) is told file quiet tells =
      subst (λ (d : Status). HasExported host name exports old new (Err d)) (sym tells.fault) (record {
        export = x;
        is = is;
        file = tells.says.alike.same told name ∙ file;
        said = subst (λ (t : List ℕ). SaidPart t x.text (host.said new)) quiet (tells.says.part.part told);
      })

  -- so it is exported
  pub export_told : (exports : Export → Type 0) (x : Export) (old mid new : D) (result : Result Unit Status) → exports x → (IsTrue host.is_told → host.files mid name ≡ option_or x.image (host.files old name)) → WritesAbove host 0 name old mid
      → host.disk_faults old ≤ host.disk_faults mid → Tells host x.text mid new result → DoesExport host name exports old new result
  export_told exports x old mid new result is file writes disk tells = record {
    has = λ told. has_told exports x old mid new result is told (file told) (writes.run.quiet told) tells;
    others = others_said x.text old mid new (others_above old mid writes) tells.says;
    counts = counts_behind old mid new result disk writes.run.say tells.counts;
    kind = told_kind x.text mid new result tells;
  }

  -- or it isn't written whole
  pub export_failed : (exports : Export → Type 0) (old new : D) (e : Status) → IsOfExporting e → (IsTrue host.is_told → HasExported host name exports old new (Err e)) → WritesAbove host 0 name old new
      → host.disk_faults old ≤ host.disk_faults new → StatusHasCause host ⊥ old new e → DoesExport host name exports old new (Err e)
  export_failed exports old new e kind has writes disk cause = record {
    has = has;
    others = others_above old new writes;
    counts = record { disk = disk; say = omega (arith, writes.run.say); cause = cause };
    kind = kind;
  }

  -- an export of some is one of others
  pub exported_as : (some others : Export → Type 0) (old new : D) (result : Result Unit Status) → ((x : Export) → some x → others x) → HasExported host name some old new result → HasExported host name others old new result
  exported_as some others old new (Ok u) are h = record { export = h.export; is = are h.export h.is; file = h.file; said = h.said }
  exported_as some others old new (Err status.SayFault) are h = record { export = h.export; is = are h.export h.is; file = h.file; said = h.said }
  exported_as some others old new (Err status.DiskFault) are h = h
  exported_as some others old new (Err status.OutOfMemory) are h = h
  exported_as some others old new (Err status.Done) are h = h
  exported_as some others old new (Err status.Usage) are h = h
  exported_as some others old new (Err (status.Image f)) are h = h
  exported_as some others old new (Err (status.Script n)) are h = h
  exported_as some others old new (Err status.ReadFault) are h = h
  exported_as some others old new (Err (status.Store f)) are h = h
  exported_as some others old new (Err (status.Kernel chunk cause)) are h = h
  exported_as some others old new (Err status.TooLarge) are h = h

-- BEHIND THE OPENING

pub caused_in : {D : Type 0} (host : Ghosts D) (old new : D) (r : Result Unit Status) → EndHasCause host ⊥ old new r → StatusHasCause host ⊥ old new (status_in r)
caused_in host old new (Ok u) h = tt
caused_in host old new (Err e) h = h

-- the cause of what is done between an opening and a last line
pub cause_done : {D : Type 0} (host : Ghosts D) (name text : List ℕ) (old mid closed new : D) (r : Result Unit Status) (e : Status) → e ≡ status_in r → NarrowsBut host (roots_file name) old mid → Counts host ⊥ mid closed r
    → ReadsAndSays host text closed new → host.disk_faults new ≡ host.disk_faults closed → StatusHasCause host ⊥ old new e
cause_done host name text old mid closed new r e is opening did line disk =
    subst (StatusHasCause host ⊥ old new) (sym is) (cause_between host ⊥ old mid closed new (status_in r) opening.disk opening.say did.say line.say disk (caused_in host mid closed r did.cause))

pub kind_in : (told : Type 0) (store : List ℕ) (f : Files) (r : Result Unit Status) → IfErr r IsOfExporting → IsOfExport told store f (status_in r)
kind_in told store f (Ok u) kind = tt
kind_in told store f (Err status.SayFault) kind = tt
kind_in told store f (Err status.DiskFault) kind = tt
kind_in told store f (Err status.OutOfMemory) kind = tt
kind_in told store f (Err status.Done) kind = absurd kind
kind_in told store f (Err status.Usage) kind = absurd kind
kind_in told store f (Err (status.Image x)) kind = absurd kind
kind_in told store f (Err (status.Script n)) kind = absurd kind
kind_in told store f (Err status.ReadFault) kind = absurd kind
kind_in told store f (Err (status.Store x)) kind = absurd kind
kind_in told store f (Err (status.Kernel chunk cause)) kind = absurd kind
kind_in told store f (Err status.TooLarge) kind = absurd kind

pub kind_unopened : (told : Type 0) (store : List ℕ) (f : Files) (fault : OpenFault) → IsOfReopening fault → (told → RefusesOpening store f fault) → IsOfExport told store f (opening_status fault)
kind_unopened told store f (opening.Store unmade.Missing) h why = why
kind_unopened told store f (opening.Store unmade.Exists) h why = absurd h
kind_unopened told store f (opening.Store (unmade.NotAStore place)) h why = why
kind_unopened told store f (opening.Store unmade.Disk) h why = absurd h
kind_unopened told store f (opening.Store unmade.OutOfMemory) h why = absurd h
kind_unopened told store f (opening.Image x) h why = why
kind_unopened told store f opening.TooLarge h why = tt
kind_unopened told store f opening.Disk h why = tt
kind_unopened told store f opening.OutOfMemory h why = tt

-- where no count rose all was done
pub done_or_full : {D : Type 0} (host : Ghosts D) (old new : D) (r : Result Unit Status) → IfErr r IsOfExporting → StatusHasCause host ⊥ old new (status_in r) → IsCalm host ⊥ old new
    → (status_in r ≡ status.Done) ⊎ (status_in r ≡ status.OutOfMemory)
done_or_full host old new (Ok u) kind h calm = inl refl
done_or_full host old new (Err status.SayFault) kind h calm = absurd (calm.say h)
done_or_full host old new (Err status.DiskFault) kind h calm = absurd (calm.disk h)
done_or_full host old new (Err status.OutOfMemory) kind h calm = inr refl
done_or_full host old new (Err status.Done) kind h calm = absurd kind
done_or_full host old new (Err status.Usage) kind h calm = absurd kind
done_or_full host old new (Err (status.Image x)) kind h calm = absurd kind
done_or_full host old new (Err (status.Script n)) kind h calm = absurd kind
done_or_full host old new (Err status.ReadFault) kind h calm = absurd kind
done_or_full host old new (Err (status.Store x)) kind h calm = absurd kind
done_or_full host old new (Err (status.Kernel chunk cause)) kind h calm = absurd kind
done_or_full host old new (Err status.TooLarge) kind h calm = absurd kind

module _ {D : Type 0} (host : Ghosts D) (store image : List ℕ) where
  -- a last line behind them
  pub line_behind : (e : Status) (old closed new : D) → host.said closed ≡ host.said old → host.say_faults old ≤ host.say_faults closed → SaysLastLine host e closed new → SaysLastLine host e old new
  line_behind e old closed new quiet low line = record {
    part = λ told. subst (λ (t : List ℕ). SaidPart t (last_line e) (host.said new)) quiet (line.part told);
    whole = λ calm told. line.whole (λ rose. calm (rose_second (host.say_faults old) (host.say_faults closed) (host.say_faults new) low rose)) told ∙ ap (λ (t : List ℕ). t ++ last_line e) quiet;
  }

  has_image : (i : Option (List ℕ)) (old mid new : D) → host.files new image ≡ option_or i (host.files mid image) → (IsNoFileOf store image → host.files mid image ≡ host.files old image) → HasImage host store image i old new
  has_image None old mid new is same = λ apart. is ∙ same apart
  has_image (Some bytes) old mid new is same = is

  -- what is so of what was done, with the last line behind it
  pub export_has : (exports : Export → Type 0) (r : Result Unit Status) (old mid closed new : D) → IsTrue host.is_told → IfErr r IsOfExporting → HasExported host image exports mid closed r
      → (IsNoFileOf store image → host.files mid image ≡ host.files old image) → host.said mid ≡ host.said old → host.say_faults old ≤ host.say_faults closed
      → ReadsAlike host closed new → SaysLastLine host (status_in r) closed new → ExportHas host store image exports old new (status_in r)
  export_has exports (Ok u) old mid closed new told kind has same quiet low alike line = record {
    export = has.export;
    is = has.is;
    in_file = has_image has.export.image old mid new (alike.same told image ∙ has.file) same;
    said = none_more (host.said closed) (host.said new) (line.part told) ∙ has.said ∙ ap (λ (t : List ℕ). t ++ has.export.text) quiet;
  }
  export_has exports (Err status.SayFault) old mid closed new told kind has same quiet low alike line = record {
    export = has.export;
    is = has.is;
    in_file = has_image has.export.image old mid new (alike.same told image ∙ has.file) same;
    said = subst (SaidPart (host.said old) has.export.text) (sym (none_more (host.said closed) (host.said new) (line.part told))) (subst (λ (t : List ℕ). SaidPart t has.export.text (host.said closed)) quiet has.said);
  }
  export_has exports (Err status.DiskFault) old mid closed new told kind has same quiet low alike line = line_behind status.DiskFault old closed new (has ∙ quiet) low line
  export_has exports (Err status.OutOfMemory) old mid closed new told kind has same quiet low alike line =
      (has_image None old mid new (alike.same told image ∙ has.file) same, line_behind status.OutOfMemory old closed new (has.quiet ∙ quiet) low line)
  export_has exports (Err status.Done) old mid closed new told kind has same quiet low alike line = absurd kind
  export_has exports (Err status.Usage) old mid closed new told kind has same quiet low alike line = absurd kind
  export_has exports (Err (status.Image f)) old mid closed new told kind has same quiet low alike line = absurd kind
  export_has exports (Err (status.Script n)) old mid closed new told kind has same quiet low alike line = absurd kind
  export_has exports (Err status.ReadFault) old mid closed new told kind has same quiet low alike line = absurd kind
  export_has exports (Err (status.Store f)) old mid closed new told kind has same quiet low alike line = absurd kind
  export_has exports (Err (status.Kernel chunk cause)) old mid closed new told kind has same quiet low alike line = absurd kind
  export_has exports (Err status.TooLarge) old mid closed new told kind has same quiet low alike line = absurd kind

  -- THE STORE STAYS

  -- a kept store opens from files of which its own are as a stop may leave them
  kept_opens : {g : Files} (h : D) (s : StoreState) (slot : ℕ) (c : Commit) → s.name ≡ store → OpensAs store c g → IsKept host h s (stored_of slot c) → IsNoFileOf store image → (f : Files) → ((n : List ℕ) → n ≢ image → host.may_leave h n (f n)) → OpensAs store c f
  kept_opens h s slot c named opened kept apart f can = subst (λ (n : List ℕ). OpensAs n c f) named (record {
    slot = slot;
    opens = record {
      number = s.chosen;
      chosen = kept.is.roots (f (roots_file s.name)) (can (roots_file s.name) (λ e. apart.roots (sym e ∙ ap roots_file named)));
      sound = kept.is.firm.sound;
      image = kept.is.firm.image (f _) (can _ (λ e. apart.image slot (sym e ∙ ap (λ (n : List ℕ). image_file n slot) named)));
      changes = kept.is.firm.changes (f _) (can _ (λ e. apart.changes slot (sym e ∙ ap (λ (n : List ℕ). changes_file n slot) named)));
    };
    readable = opened.readable;
    good = opened.good;
  })

  module _ (d : Commit) (s : StoreState) (slot : ℕ) (text : List ℕ) (old mid closed new : D) (apart : IsNoFileOf store image) (opened : OpensAs store d (host.files old)) (named : s.name ≡ store)
      (kept : IsKept host mid s (stored_of slot d)) (told : IsTrue host.is_told) (others : LeavesOthers host image mid closed) (line : ReadsAndSays host text closed new) where
    still : (f : Files) → ((n : List ℕ) → n ≢ image → host.may_leave mid n (f n)) → OpensAs store d f
    still f can = kept_opens mid s slot d named opened kept apart f can

    -- what holds until the image is written, and of all that opens as the commit, holds at each moment
    moments_on : (P : Files → List ℕ → Type 0) (start : D) → LeavesOnly host start mid P → ((f : Files) (t : List ℕ) → OpensAs store d f → P f t) → LeavesOnly host start new P
    moments_on P start first holds =
        moments_join host start closed new P (WhileSaying (host.may_leave closed) (host.said closed) text)
        (moments_join host start mid closed P (Others host image mid) first (others.moments told) (λ f t so. holds f t (still f so)))
        (line.moments told) (λ f t w. holds f t (still f (λ n is. others.spares.fewer told n (f n) is (w.0 n))))

    pub exported_rests : IsAtRest host (OpensAs store) d new
    exported_rests = record { opens_as = λ f can. still f (λ n is. others.spares.fewer told n (f n) is ((line.stops told).fewer n (f n) (can n))) }

    pub exported_meanwhile : LeavesOnly host old mid (λ f t. (t ≡ host.said old) × IsOpening host old store f) → LeavesOnly host old new (λ f t. ((n : List ℕ) → host.may_leave old n (f n)) ⊎ OpensAs store d f)
    exported_meanwhile moments =
        let P : Files → List ℕ → Type 0 = λ f t. ((n : List ℕ) → host.may_leave old n (f n)) ⊎ OpensAs store d f in
        moments_on P old (weaker host old mid P (λ f t. (t ≡ host.said old) × IsOpening host old store f) moments (λ f t so. opened_so host store old d opened f so.1)) (λ f t opens. inr opens)

    pub exported_settled : OpensFrom host (OpensAs store) store d old mid → OpensFrom host (OpensAs store) store d old new
    exported_settled since = record {
      synced = since.synced;
      first = since.first;
      moments = moments_on (λ f t. OpensAs store d f) since.synced since.moments (λ f t opens. opens);
    }

  pub exported_stays : (c d : Commit) (s : StoreState) (slot : ℕ) (text : List ℕ) (old mid closed new : D) → IsNoFileOf store image → IsAtRest host (OpensAs store) c old
      → ((n : List ℕ) → host.may_leave old n (host.files old n)) → OpensAs store d (host.files old) → s.name ≡ store → IsKept host mid s (stored_of slot d)
      → IsTrue host.is_told → LeavesOnly host old mid (λ f t. (t ≡ host.said old) × IsOpening host old store f) → LeavesOthers host image mid closed → ReadsAndSays host text closed new → Stays host store c old new
  exported_stays c d s slot text old mid closed new apart rest reads opened named kept told moments others line =
      let one = same_commit store d c (host.files old) opened (rest.opens_as (host.files old) reads) in
      record {
        moments = moments_on d s slot text old mid closed new apart opened named kept told others line (λ f t. OpensAs store c f) old
            (weaker host old mid (λ f t. OpensAs store c f) (λ f t. (t ≡ host.said old) × IsOpening host old store f) moments (λ f t so. opens_still host store old c rest reads f so.1))
            (λ f t opens. subst (λ (x : Commit). OpensAs store x f) one opens);
        rest = subst (λ (x : Commit). IsAtRest host (OpensAs store) x new) one (exported_rests d s slot text old mid closed new apart opened named kept told others line);
      }

  pub refused_stays : (c : Commit) (text : List ℕ) (old closed new : D) → IsAtRest host (OpensAs store) c old → ((n : List ℕ) → host.may_leave old n (host.files old n))
      → LeavesOnly host old closed (λ f t. (t ≡ host.said old) × IsOpening host old store f) → ((f : Files) → ((n : List ℕ) → host.may_leave closed n (f n)) → IsOpening host old store f)
      → IsTrue host.is_told → ReadsAndSays host text closed new → Stays host store c old new
  refused_stays c text old closed new rest reads moments leaves told line = record {
    moments = moments_join host old closed new (λ f t. OpensAs store c f) (WhileSaying (host.may_leave closed) (host.said closed) text)
        (weaker host old closed (λ f t. OpensAs store c f) (λ f t. (t ≡ host.said old) × IsOpening host old store f) moments (λ f t so. opens_still host store old c rest reads f so.1))
        (line.moments told)
        (λ f t w. opens_still host store old c rest reads f (leaves f w.0));
    rest = record { opens_as = λ f can. opens_still host store old c rest reads f (leaves f (λ n. (line.stops told).fewer n (f n) (can n))) };
  }

  -- WHAT IS TOUCHED

  pub names_said : (names : List ℕ → Type 0) (text : List ℕ) (old closed new : D) → Spares host names old closed → ReadsAlike host closed new → ReadsAndSays host text closed new → Spares host names old new
  names_said names text old closed new spares alike line = record {
    files = λ told n is. alike.same told n ∙ spares.files told n is;
    fewer = λ told n c is can. spares.fewer told n c is ((line.stops told).fewer n c can);
    more = λ told n c is could. (line.stops told).more n c (spares.more told n c is could);
  }
