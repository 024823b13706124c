-- Requests that are answered one after the other, and the end of a session behind them.
use Rattle.std.proofs.Common.{◌≡◌, ◌∙◌, ◌<◌, ◌+◌, ℕ, List, [], ◌∷◌, ◌++◌, take, drop, get_or, length, refl, sym, ap, subst, append-nil, append_assoc, Ok, Err}
use Rattle.std.specs.Prelude.{Result}
use Rattle.std.proofs.lemmas.List.{take_more, take-append-drop}
use Rattle.st_model.specs.View.{View}
use Rattle.st_host.specs.declared.host.Host.{Ghosts}
use Rattle.st_host.proofs.Telling.{OnlyNow}
use Rattle.st_chunk.specs.Reading.{Reading, read, end_read}
use Rattle.st_chunk.specs.Scripts.{Asked, asked_by, asked_at_end, told_from, read_through}
use Rattle.st_store.specs.Names.{IsNoFileOf}
use Rattle.st_protocol.specs.declared.status.Status.{Status}
use Rattle.st_protocol.specs.Courses.{Course, and_then, ended}
use Rattle.st_protocol.specs.Statuses.{StatusHasCause}
use Rattle.st_protocol.proofs.Joins.{obeys_as, obeys_then, obeys_err, counts_behind}
use Rattle.st_install.specs.Defining.{installed}
use Rattle.st_recover.specs.Commits.{Commit, OpensAs}
use Rattle.st_call.specs.inside.Telling.{IsOfServing}
use Rattle.st_session.specs.declared.kept.SessionState.{SessionState}
use Rattle.st_session.specs.Keeping.{in_a_store}
use Rattle.st_session.specs.Points.{Point}
use Rattle.st_session.specs.Sessions.{follow}
use Rattle.st_session.specs.inside.Standing.{MayGoOn, IsAt, FollowsSome, Serves}
use Rattle.st_session.proofs.Following.{follow_both, told_both, ends_then, ends_err}
use Rattle.st_session.proofs.Points.{named_so, at_rest}
use Rattle.st_session.proofs.Responding.{stays_now}
use Rattle.st_session.proofs.Served.{IsAmple, ample, served_none}
use Rattle.st_session.proofs.Starving.{some_all}

module _ {M D : Type 0} (view : M → View) (host : Ghosts D) where
  -- what is told to be asked for is answered; a want of memory is one of the last request
  abbrev pub Answers_one : List Asked → SessionState M → D → Result Unit Status → SessionState M → D → Type 0
  Answers_one asked s old result t new = Serves view host (λ p. follow in_a_store installed p asked) (new ≡ old) s old result t new

  -- these requests are answered one after the other; where there was no memory, some first ones of them
  abbrev pub Answers_all : List Asked → SessionState M → D → Result Unit Status → SessionState M → D → Type 0
  Answers_all asked s old result t new =
      Serves view host (λ p. follow in_a_store installed p asked) (FollowsSome view host (follow in_a_store installed) asked s old new) s old result t new

  -- nothing is asked for yet
  pub none_asked : (s : SessionState M) (old : D) → MayGoOn view s → OnlyNow host old → Answers_all [] s old (Ok tt) s old
  none_asked s old on only = served_none on (λ p at. stays_now view host s.machine s.archive p.kept p old only at.holds at.stands refl)

module _ {M D : Type 0} {view : M → View} {host : Ghosts D} {s : SessionState M} {old : D} where
  -- these are answered, and then more are
  pub then_asked : {A : Type 0} (a b : List Asked) {t u : SessionState M} {mid new : D} {result : Result Unit Status} → Serves view host (λ p. follow in_a_store installed p a) A s old (Ok tt) t mid
      → Answers_one view host b t mid result u new → Answers_all view host (a ++ b) s old result u new
  then_asked a b {t = t} {u = u} {mid = mid} {new = new} {result = result} first second =
      let name = s.archive.name in
      let here = IsAt view host t.machine t.archive mid in
      let on = IsAt view host u.machine u.archive new in
      record {
        go_on = second.go_on;
        named = second.named ∙ first.named;
        follows = λ p at.
            obeys_as host (OpensAs name) (IsNoFileOf name) on (λ (q : Point Commit). q.kept) p.kept (and_then (follow in_a_store installed p a) (λ q. follow in_a_store installed q b)) (follow in_a_store installed p (a ++ b)) result old new (sym (follow_both in_a_store installed p a b))
            (obeys_then host (OpensAs name) (IsNoFileOf name) here (λ (q : Point Commit). q.kept) on (λ (q : Point Commit). q.kept) p.kept (follow in_a_store installed p a) (λ q. follow in_a_store installed q b) result old mid new (first.follows p at)
            (λ q there. named_so view host t.archive.name name u.machine u.archive mid new q.kept (follow in_a_store installed q b) result first.named (second.follows q there)));
        counts = counts_behind host ⊥ old mid new result first.counts.disk first.counts.say second.counts;
        served = second.served;
        -- the last request did nothing, behind those before it
        starved = λ none p at. some_all in_a_store installed host (OpensAs name) (IsNoFileOf name) here p a b (a ++ b) old mid new (second.starved none) refl (first.follows p at);
      }

  -- where that ends the session, nothing more is answered
  pub none_behind : {a : List Asked} (b : List Asked) {t : SessionState M} {new : D} {e : Status} → Answers_all view host a s old (Err e) t new → Answers_all view host (a ++ b) s old (Err e) t new
  none_behind {a = a} b {t = t} {new = new} {e = e} h =
      let name = s.archive.name in
      let on = IsAt view host t.machine t.archive new in
      record {
        go_on = tt;
        named = h.named;
        follows = λ p at.
            obeys_as host (OpensAs name) (IsNoFileOf name) on (λ (q : Point Commit). q.kept) p.kept (and_then (follow in_a_store installed p a) (λ q. follow in_a_store installed q b)) (follow in_a_store installed p (a ++ b)) (Err e) old new (sym (follow_both in_a_store installed p a b))
            (obeys_err host (OpensAs name) (IsNoFileOf name) on (λ (q : Point Commit). q.kept) on (λ (q : Point Commit). q.kept) p.kept (follow in_a_store installed p a) (λ q. follow in_a_store installed q b) e old new (h.follows p at));
        counts = h.counts;
        served = h.served;
        starved = λ none p at.
            let some = h.starved none p at in
            record { first = some.first; rest = some.rest ++ b; all = ap (λ (l : List Asked). l ++ b) some.all ∙ append_assoc some.first some.rest b; did = some.did };
      }

  -- a byte more is read
  pub byte_asked : (r x : Reading) (bytes : List ℕ) (i : ℕ) {t u : SessionState M} {mid new : D} {result : Result Unit Status} → i < length bytes → x ≡ read_through r (take i bytes)
      → Answers_all view host (told_from r (take i bytes)) s old (Ok tt) t mid → Answers_one view host (asked_by (read x (get_or bytes i 0))) t mid result u new
      → Answers_all view host (told_from r (take (i + 1) bytes)) s old result u new
  byte_asked r x bytes i {t = t} {u = u} {mid = mid} {new = new} {result = result} less is first second =
      let b = get_or bytes i 0 in
      let last = asked_by (read (read_through r (take i bytes)) b) in
      let told : told_from r (take (i + 1) bytes) ≡ told_from r (take i bytes) ++ last =
      ap (told_from r) (take_more bytes i 0 less) ∙ (told_both r (take i bytes) (b ∷ []) ∙ ap (λ (l : List Asked). told_from r (take i bytes) ++ l) (append-nil last)) in
      subst (λ l. Answers_all view host l s old result u new) (sym told)
      (then_asked (told_from r (take i bytes)) last first (subst (λ y. Answers_one view host (asked_by (read y b)) t mid result u new) is second))

  -- it ends the session, whatever bytes come behind it
  pub bytes_behind : (r : Reading) (bytes : List ℕ) (i : ℕ) {t : SessionState M} {new : D} {e : Status} → Answers_all view host (told_from r (take i bytes)) s old (Err e) t new → Answers_all view host (told_from r bytes) s old (Err e) t new
  bytes_behind r bytes i {t = t} {new = new} {e = e} h =
      let told = sym (told_both r (take i bytes) (drop i bytes)) ∙ ap (told_from r) (take-append-drop i bytes) in
      subst (λ l. Answers_all view host l s old (Err e) t new) told (none_behind (told_from (read_through r (take i bytes)) (drop i bytes)) h)

  -- the end of the script comes once, and once more
  pub end_asked : (r x : Reading) {t u : SessionState M} {mid new : D} {result : Result Unit Status} → x ≡ (end_read r).0
      → Answers_one view host (asked_by (end_read r)) s old (Ok tt) t mid → Answers_one view host (asked_by (end_read x)) t mid result u new → Answers_all view host (asked_at_end r) s old result u new
  end_asked r x {t = t} {u = u} {mid = mid} {new = new} {result = result} is first second =
      then_asked (asked_by (end_read r)) (asked_by (end_read (end_read r).0)) first (subst (λ y. Answers_one view host (asked_by (end_read y)) t mid result u new) is second)

  -- or it ends the session when it comes first
  pub end_behind : (r : Reading) {t : SessionState M} {new : D} {e : Status} → MayGoOn view s → Answers_one view host (asked_by (end_read r)) s old (Err e) t new → OnlyNow host old → Answers_all view host (asked_at_end r) s old (Err e) t new
  end_behind r on h only = none_behind (asked_by (end_read (end_read r).0)) (then_asked [] (asked_by (end_read r)) (none_asked view host s old on only) h)

  -- behind what is done the session ends
  pub over_then : {A B : Type 0} {course : Point Commit → Course Commit (Point Commit)} {t : SessionState M} {new : D} (e : Status) → StatusHasCause host ⊥ old new e → IsOfServing e → IsAmple (Err e)
      → Serves view host course A s old (Ok tt) t new → OnlyNow host new → Serves view host (λ p. ended (course p) e) B s old (Err e) t new
  over_then {course = course} {t = t} {new = new} e cause serves enough h only =
      let name = s.archive.name in
      let on = IsAt view host t.machine t.archive new in
      record {
        go_on = tt;
        named = h.named;
        follows = λ p at. ends_then in_a_store installed host (OpensAs name) (IsNoFileOf name) on on p.kept (course p) e old new only (λ q so. at_rest view host name t.machine t.archive new q h.named so) (h.follows p at);
        counts = record { disk = h.counts.disk; say = h.counts.say; cause = cause };
        served = serves;
        starved = ample (Err e) enough;
      }

  -- or it has ended before
  pub over_err : {A : Type 0} {course : Point Commit → Course Commit (Point Commit)} {t : SessionState M} {new : D} {e : Status} (end : Status) → Serves view host course A s old (Err e) t new
      → Serves view host (λ p. ended (course p) end) A s old (Err e) t new
  over_err {course = course} {t = t} {new = new} {e = e} end h =
      let name = s.archive.name in
      let on = IsAt view host t.machine t.archive new in
      record {
        go_on = tt;
        named = h.named;
        follows = λ p at. ends_err in_a_store installed host (OpensAs name) (IsNoFileOf name) on on p.kept (course p) end e old new (h.follows p at);
        counts = h.counts;
        served = h.served;
        starved = h.starved;
      }
