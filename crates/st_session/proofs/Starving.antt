-- What stands where there was no memory: some first ones of the requests were answered, and nothing else was done.
use Rattle.std.proofs.Common.{◌≡◌, ◌∙◌, ◌≤◌, ◌<◌, ◌+◌, ◌-◌, ℕ, suc, List, [], ◌∷◌, ◌++◌, length, take, Bool, true, false, IsTrue, refl, sym, ap, subst, arith, append_assoc, append-nil, length-append}
use Rattle.std.specs.Prelude.{nat_le, Result, Ok, Err, IsErrOf, slice_get, Some}
use Rattle.std.proofs.lemmas.Bool.Decides.{nat_tests}
use Rattle.std.proofs.lemmas.List.{take-append-le}
use Rattle.st_host.specs.Files.{Files}
use Rattle.st_host.specs.Runs.{IsAtRest}
use Rattle.st_host.specs.declared.host.Host.{Ghosts}
use Rattle.st_store.specs.Names.{IsNoFileOf}
use Rattle.st_chunk.specs.Reading.{line_from}
use Rattle.st_chunk.specs.Scripts.{Asked, asked_from, asked_at_end, told_from, read_through}
use Rattle.st_chunk.proofs.Asking.{AreGood, asked_good, told_good}
use Rattle.st_protocol.specs.declared.status.Status.{Status}
use Rattle.st_protocol.specs.declared.status.Status.TheVariants as status
use Rattle.st_protocol.specs.Acknowledged.{acknowledged, acknowledged_from, AcknowledgesEach}
use Rattle.st_protocol.specs.Courses.{Deed, Reply, Keep, Course, Goes, Ends, deeds_of, said_of, commits_of, last_of, and_then, ended}
use Rattle.st_protocol.specs.Done.{Did}
use Rattle.st_protocol.specs.inside.Obeying.{Obeys}
use Rattle.st_protocol.proofs.Counting.{acknowledged_both}
use Rattle.st_protocol.proofs.Courses.{deeds_preceded}
use Rattle.st_protocol.proofs.Joins.{did_join, obeys_did}
use Rattle.st_protocol.specs.Installing.{Install}
use Rattle.st_call.specs.inside.Telling.{IsSayFault}
use Rattle.st_install.specs.Defining.{installed}
use Rattle.st_recover.specs.Commits.{Commit, OpensAs}
use Rattle.st_recover.specs.Replays.{Loss}
use Rattle.st_session.specs.Ends.{DidSome}
use Rattle.st_session.specs.FirstLines.{opening_text}
use Rattle.st_session.specs.Keeping.{Keeping, in_a_store}
use Rattle.st_session.specs.Points.{Point}
use Rattle.st_session.specs.Resting.{RestsAcknowledged}
use Rattle.st_session.specs.Sessions.{asked_in, asked_where, follow_rest, follow_script, longest, session, session_of}
use Rattle.st_session.proofs.Lawful.{session_of_law}
use Rattle.st_session.proofs.Following.{follows, follow_both, told_both, asked_both, take_behind}

-- a call that only says takes no memory
never : (r : Result Unit Status) → IsSayFault r → IsErrOf r status.OutOfMemory → ⊥
never (Ok u) fault e = cc
never (Err s) fault e = cc

pub never_starved : {A : Type 0} (r : Result Unit Status) → IsSayFault r → IsErrOf r status.OutOfMemory → A
never_starved r fault e = absurd (never r fault e)

-- REQUESTS

-- what a script asks for begins with what its first bytes tell
pub asked_behind : (a b : List ℕ) → length a ≤ longest → (tail : List Asked) × (asked_in (a ++ b) ≡ told_from (line_from 1) a ++ tail)
asked_behind a b few = over (nat_le (length (a ++ b)) longest)
  where
    over : (t : Bool) → (tail : List Asked) × (asked_where (a ++ b) t ≡ told_from (line_from 1) a ++ tail)
    over true = (asked_from (read_through (line_from 1) a) b, asked_both (line_from 1) a b)
    over false = (
      told_from (read_through (line_from 1) a) (take (longest - length a) b),
      ap (told_from (line_from 1)) (take_behind a b longest few) ∙ told_both (line_from 1) a (take (longest - length a) b),
    )

-- all of it was told
pub asked_whole : (a : List ℕ) → length a ≤ longest → asked_in a ≡ told_from (line_from 1) a ++ asked_at_end (read_through (line_from 1) a)
asked_whole a few =
    let low : nat_le (length a) longest ≡ true = grind (arith, nat_tests, few) in
    ap (asked_where a) low ∙ (ap (asked_from (line_from 1)) (sym (append-nil a)) ∙ asked_both (line_from 1) a [])

-- more came than may
pub asked_over : (a b rest : List ℕ) (left : ℕ) → length a + left ≡ longest → left < length b → asked_in (a ++ (b ++ rest)) ≡ told_from (line_from 1) a ++ told_from (read_through (line_from 1) a) (take left b)
asked_over a b rest left sum more =
    let one = length-append a (b ++ rest) in
    let two = length-append b rest in
    let few : length a ≤ longest = omega (arith, sum) in
    let high : nat_le (length (a ++ (b ++ rest))) longest ≡ false = grind (arith, nat_tests, one, two, sum, more) in
    let same : longest - length a ≡ left = omega (arith, sum) in
    ap (asked_where (a ++ (b ++ rest))) high
    ∙ (ap (told_from (line_from 1)) (take_behind a (b ++ rest) longest few)
    ∙ (told_both (line_from 1) a (take (longest - length a) (b ++ rest))
    ∙ ap (λ t. told_from (line_from 1) a ++ told_from (read_through (line_from 1) a) t) (ap (λ n. take n (b ++ rest)) same ∙ take-append-le left b rest (omega (arith, more)))))

good_first : (a b : List Asked) → AreGood (a ++ b) → AreGood a
good_first [] b good = tt
good_first (x ∷ a) b good = (good.0, good_first a b good.1)

good_where : (script : List ℕ) (t : Bool) → AreGood (asked_where script t)
good_where script true = asked_good (line_from 1) script tt
good_where script false = told_good (line_from 1) (take longest script) tt

-- what a script asks for is good, and so are the first requests
pub first_good : (script : List ℕ) (first rest : List Asked) → asked_in script ≡ first ++ rest → AreGood first
first_good script first rest all = good_first first rest (subst AreGood all (good_where script (nat_le (length script) longest)))

-- DEEDS

module _ {C : Type 0} (keeping : Keeping C) (install : Install) where
  -- the deeds of the first requests come first
  deeds_first : (p : Point C) (a b : List Asked) → (more : List (Deed C)) × (deeds_of (follows keeping install p (a ++ b)) ≡ deeds_of (follows keeping install p a) ++ more)
  deeds_first p a b = let r = over (follows keeping install p a) in (r.0, ap deeds_of (follow_both keeping install p a b) ∙ r.1)
    where
      over : (x : Course C (Point C)) → (more : List (Deed C)) × (deeds_of (and_then x (λ q. follows keeping install q b)) ≡ deeds_of x ++ more)
      over (Goes ds q) = (deeds_of (follows keeping install q b), deeds_preceded ds (follows keeping install q b))
      over (Ends ds e) = ([], sym (append-nil ds))

  ended_deeds : (x : Course C (Point C)) (e : Status) → deeds_of (ended x e) ≡ deeds_of x
  ended_deeds (Goes ds q) e = append-nil ds
  ended_deeds (Ends ds d) e = refl

  script_deeds : (p : Point C) (script : List ℕ) → deeds_of (follow_script keeping install p script) ≡ deeds_of (follows keeping install p (asked_in script))
  script_deeds p script = over (nat_le (length script) longest)
    where
      over : (t : Bool) → deeds_of (follow_rest keeping install (line_from 1) longest p script t) ≡ deeds_of (follows keeping install p (asked_where script t))
      over true = ended_deeds (follows keeping install p (asked_from (line_from 1) script)) status.Done
      over false = ended_deeds (follows keeping install p (told_from (line_from 1) (take longest script))) status.TooLarge

  -- the deeds of a session begin with those of its first requests
  pub session_begins : (replayed : ℕ) (lost : List Loss) (p : Point C) (script : List ℕ) (first rest : List Asked) → asked_in script ≡ first ++ rest
      → (more : List (Deed C)) × (deeds_of (session keeping install replayed lost p script) ≡ deeds_of (session_of keeping install replayed lost p first) ++ more)
  unfolding session
  session_begins replayed lost p script first rest all =
      let text = opening_text replayed lost in
      let r = deeds_first p first rest in (
        r.0,
        deeds_preceded (Reply text ∷ []) (follow_script keeping install p script)
            ∙ (ap (λ (ds : List (Deed C)). Reply text ∷ ds) (script_deeds p script ∙ (ap (λ (l : List Asked). deeds_of (follows keeping install p l)) all ∙ r.1))
            ∙ ap (λ (ds : List (Deed C)). ds ++ r.0) (sym (deeds_preceded (Reply text ∷ []) (follows keeping install p first)))),
      )

  module _ {D : Type 0} (host : Ghosts D) (opens : C → Files → Type 0) (spared : List ℕ → Type 0) where
    abbrev pub SomeAnswered : Point C → List Asked → D → D → Type 0
    SomeAnswered p asked old new = DidSome host opens spared p.kept (follows keeping install p) asked old new

    -- the call that had no memory did nothing, behind these requests
    pub some_all : (at : Point C → Type 0) (p : Point C) (done rest asked : List Asked) (old mid new : D) → new ≡ mid → asked ≡ done ++ rest → Obeys host opens spared at (λ (q : Point C). q.kept) p.kept (follows keeping install p done) (Ok tt) old mid
        → SomeAnswered p asked old new
    some_all at p done rest asked old mid new same all did = record {
      first = done;
      rest = rest;
      all = all;
      did = subst (λ (h : D). Did host opens spared p.kept (deeds_of (follows keeping install p done)) old h) (sym same) (obeys_did host opens spared at (λ (q : Point C). q.kept) p.kept (follows keeping install p done) old mid did);
    }

    -- some behind these
    pub some_then : (at : Point C → Type 0) (p : Point C) (done asked tail whole : List Asked) (old mid new : D) → whole ≡ (done ++ asked) ++ tail → Obeys host opens spared at (λ (q : Point C). q.kept) p.kept (follows keeping install p done) (Ok tt) old mid
        → ((q : Point C) → at q → SomeAnswered q asked mid new) → SomeAnswered p whole old new
    some_then at p done asked tail whole old mid new is did next = over (follows keeping install p done) refl did
      where
        over : (x : Course C (Point C)) → follows keeping install p done ≡ x → Obeys host opens spared at (λ (q : Point C). q.kept) p.kept x (Ok tt) old mid → SomeAnswered p whole old new
        over (Ends ds e) same h = absurd h
        over (Goes ds q) same h =
            let s = next q h.0 in
            let deeds : ds ++ deeds_of (follows keeping install q s.first) ≡ deeds_of (follows keeping install p (done ++ s.first)) =
            sym (ap deeds_of (follow_both keeping install p done s.first ∙ ap (λ (y : Course C (Point C)). and_then y (λ o. follows keeping install o s.first)) same) ∙ deeds_preceded ds (follows keeping install q s.first)) in
            record {
              first = done ++ s.first;
              rest = s.rest ++ tail;
              all = is ∙ (ap (λ (l : List Asked). (done ++ l) ++ tail) s.all ∙ (ap (λ (l : List Asked). l ++ tail) (sym (append_assoc done s.first s.rest)) ∙ append_assoc (done ++ s.first) s.rest tail));
              did = subst (λ (l : List (Deed C)). Did host opens spared p.kept l old new) deeds
                  (did_join host opens spared p.kept ds (deeds_of (follows keeping install q s.first)) old mid new h.2 (subst (λ (k : C). Did host opens spared k (deeds_of (follows keeping install q s.first)) mid new) h.1 s.did));
            }

    -- some, behind what is said first
    pub some_behind : (p : Point C) (replayed : ℕ) (lost : List Loss) (asked : List Asked) (old mid new : D) → Did host opens spared p.kept (Reply (opening_text replayed lost) ∷ []) old mid → SomeAnswered p asked mid new
        → DidSome host opens spared p.kept (session_of keeping install replayed lost p) asked old new
    some_behind p replayed lost asked old mid new said s =
        let first = Reply (opening_text replayed lost) ∷ [] in
        record {
          first = s.first;
          rest = s.rest;
          all = s.all;
          did = subst (λ (l : List (Deed C)). Did host opens spared p.kept l old new) (sym (deeds_preceded first (follows keeping install p s.first)))
              (did_join host opens spared p.kept first (deeds_of (follows keeping install p s.first)) old mid new said s.did);
        }

-- WHAT IS ACKNOWLEDGED

-- the last commit of lawful deeds is the one whose number is that of those they acknowledge
counted : {C : Type 0} (c : C) (ds more : List (Deed C)) → AcknowledgesEach ds → slice_get (c ∷ commits_of (ds ++ more)) (acknowledged (said_of ds)) ≡ Some (last_of c ds)
counted c [] more law = refl
counted c (Reply text ∷ ds) more law =
    let e : acknowledged (text ++ said_of ds) ≡ acknowledged (said_of ds) = acknowledged_both [] text (said_of ds) ∙ (λ i. (law.0).count i + acknowledged_from ((law.0).whole i) (said_of ds)) ∙ omega arith in
    ap (slice_get (c ∷ commits_of (ds ++ more))) e ∙ counted c ds more law.1
counted c (Keep d ∷ []) more law = absurd law
counted c (Keep d ∷ Keep e ∷ ds) more law = absurd law
counted c (Keep d ∷ Reply text ∷ ds) more law =
    let e : acknowledged (text ++ said_of ds) ≡ suc (acknowledged (said_of ds)) = acknowledged_both [] text (said_of ds) ∙ (λ i. (law.0).count i + acknowledged_from ((law.0).whole i) (said_of ds)) ∙ omega arith in
    ap (slice_get (c ∷ d ∷ commits_of (ds ++ more))) e ∙ counted d ds more law.1

module _ {D : Type 0} (host : Ghosts D) {C : Type 0} (opens : C → Files → Type 0) (spared : List ℕ → Type 0) (c : C) where
  -- where just some first deeds were done, the store is at the commit that they acknowledge
  pub rests_acknowledged : (ds first more : List (Deed C)) (old new : D) → ds ≡ first ++ more → AcknowledgesEach first → IsTrue host.is_told → Did host opens spared c first old new → RestsAcknowledged host opens (c ∷ commits_of ds) (host.said old) new
  rests_acknowledged ds first more old new all law told did = record {
    words = said_of first;
    said_is = did.all.is told;
    commit = last_of c first;
    is_of = ap (λ (l : List (Deed C)). slice_get (c ∷ commits_of l) (acknowledged (said_of first))) all ∙ counted c first more law;
    at = did.rest told;
  }

module _ {D : Type 0} (host : Ghosts D) (name : List ℕ) (p : Point Commit) (replayed : ℕ) (lost : List Loss) (script : List ℕ) (old new : D) where
  abbrev AcknowledgedOnly : Type 0
  AcknowledgedOnly = RestsAcknowledged host (OpensAs name) (p.kept ∷ commits_of (deeds_of (session in_a_store installed replayed lost p script))) (host.said old) new

  -- nothing was done
  pub none_acknowledged : new ≡ old → (IsTrue host.is_told → IsAtRest host (OpensAs name) p.kept old) → IsTrue host.is_told → AcknowledgedOnly
  none_acknowledged same rest told = record {
    words = [];
    said_is = ap host.said same ∙ sym (append-nil (host.said old));
    commit = p.kept;
    is_of = refl;
    at = subst (IsAtRest host (OpensAs name) p.kept) (sym same) (rest told);
  }

  -- some first ones of the requests were answered
  pub some_acknowledged : DidSome host (OpensAs name) (IsNoFileOf name) p.kept (session_of in_a_store installed replayed lost p) (asked_in script) old new → IsTrue host.is_told → AcknowledgedOnly
  some_acknowledged s told =
      let begins = session_begins in_a_store installed replayed lost p script s.first s.rest s.all in
      rests_acknowledged host (OpensAs name) (IsNoFileOf name) p.kept (deeds_of (session in_a_store installed replayed lost p script)) (deeds_of (session_of in_a_store installed replayed lost p s.first)) begins.0 old new begins.1
      (session_of_law replayed lost p s.first (first_good script s.first s.rest s.all)) told s.did
