use Rattle.std.proofs.Common.{◌≡◌, ◌≤◌, ◌<◌, ⊎_elim, ℕ, List, [], ◌++◌, ◌∙◌, take, length, refl, sym, ap, subst, arith, append-nil, append_assoc, length-append, Ok, Err}
use Rattle.std.specs.Prelude.{Result}
use Rattle.std.proofs.lemmas.List.{length-take-le}
use Rattle.st_host.proofs.Rising.{rose_second}
use Rattle.st_chunk.specs.Reading.{line_from}
use Rattle.st_chunk.specs.Scripts.{Asked, told_from, read_through, asked_at_end}
use Rattle.st_store.specs.Names.{IsNoFileOf}
use Rattle.st_protocol.specs.declared.status.Status.{Status}
use Rattle.st_protocol.specs.declared.status.Status.TheVariants as status
use Rattle.st_protocol.specs.Courses.{ended}
use Rattle.st_protocol.proofs.Joins.{obeys_did, counts_behind, counts_wider, no_read}
use Rattle.st_install.specs.Defining.{installed}
use Rattle.st_recover.specs.Commits.{Commit, OpensAs}
use Rattle.st_session.specs.Keeping.{in_a_store}
use Rattle.st_session.specs.Points.{Point}
use Rattle.st_session.specs.Sessions.{follow, longest, asked_in}
use Rattle.st_session.specs.inside.Standing.{IsAt}
use Rattle.st_session.proofs.Following.{follows, rest_of, told_both, told_more, read_both, rest_then, rest_err, rest_none, rest_over}
use Rattle.st_session.proofs.Points.{GoesAs, named_so}
use Rattle.st_session.proofs.Responding.{stays_now, fails_now}
use Rattle.st_session.proofs.Starving.{SomeAnswered, asked_behind, asked_whole, asked_over, some_then}
use Rattle.st_session.proofs.reading.follow_script.Goals as goal

pub pieces-init : goal.pieces-init
pieces-init g c = record {
  size = refl;
  go_on = c.requires.go_on;
  named = refl;
  disk = omega arith;
  say = omega arith;
  reads = omega arith;
  far = (
    [],
    (λ told. refl),
    omega arith,
    c.requires.begins,
    λ p at. stays_now g.M.Memory.view g.H.Host c.args.kept.now.machine c.args.kept.now.archive p.kept p c.args.host.now (g.met.H.Host.only_now c.args.host.now) at.holds at.stands refl,
  );
}

-- THE SOURCE FAILS

pub returns-in-Err-clause-follows : goal.returns-in-Err-clause-follows
returns-in-Err-clause-follows g c = λ told p at.
    let view = g.M.Memory.view in
    let name = c.args.kept.now.archive.name in
    let inv = c.pieces.invariant in
    let far = inv.far in
    let m = c.pieces.kept.machine in
    let a = c.pieces.kept.archive in
    let now = c.pieces.host in
    let rest = g.S.Source.remaining c.pieces.script in
    let here = IsAt view g.H.Host m a now in
    subst (λ t. GoesAs view g.H.Host name m a c.args.host.now now p.kept (rest_of in_a_store installed (line_from 1) longest p t) (Err status.ReadFault)) (sym (far.1 told))
    (rest_then in_a_store installed g.H.Host (OpensAs name) (IsNoFileOf name) here here (line_from 1) longest c.pieces.left p far.0 rest (Err status.ReadFault) c.args.host.now now now far.2 (far.4 p at)
    (λ q there. named_so view g.H.Host a.name name m a now now q.kept (rest_of in_a_store installed (read_through (line_from 1) far.0) c.pieces.left q rest) (Err status.ReadFault) inv.named
    (fails_now view g.H.Host m a q.kept (rest_of in_a_store installed (read_through (line_from 1) far.0) c.pieces.left q rest) status.ReadFault now tt (g.met.H.Host.only_now now) there.holds)))

pub returns-in-Err-clause-told : goal.returns-in-Err-clause-told
returns-in-Err-clause-told g c = λ fault told p at.
    let view = g.M.Memory.view in
    let name = c.args.kept.now.archive.name in
    let far = c.pieces.invariant.far in
    record {
      told = far.0;
      all = far.1 told ∙ ap (λ (x : List ℕ). far.0 ++ x) (sym (c.in-Err.ensures.keeps told));
      did = obeys_did g.H.Host (OpensAs name) (IsNoFileOf name) (IsAt view g.H.Host c.pieces.kept.machine c.pieces.kept.archive c.pieces.host) (λ (q : Point Commit). q.kept) p.kept (follows in_a_store installed p (told_from (line_from 1) far.0)) c.args.host.now c.pieces.host (far.4 p at);
    }

pub returns-in-Err-clause-counts : goal.returns-in-Err-clause-counts
returns-in-Err-clause-counts g c = record {
  disk = c.pieces.invariant.disk;
  say = c.pieces.invariant.say;
  cause = rose_second (g.S.Source.read_faults c.args.script.now) (g.S.Source.read_faults c.pieces.script) (g.S.Source.read_faults c.take.new.self) c.pieces.invariant.reads (c.in-Err.ensures.cause.rose refl);
}

-- THE SCRIPT HAS ENDED

pub returns-then-count-eq0 : goal.returns-then-count-eq0
returns-then-count-eq0 g c =
    let view = g.M.Memory.view in
    let name = c.args.kept.now.archive.name in
    let inv = c.pieces.invariant in
    let far = inv.far in
    let here = IsAt view g.H.Host c.pieces.kept.machine c.pieces.kept.archive c.pieces.host in
    let new = c.finish.new in
    let on = IsAt view g.H.Host new.kept.machine new.kept.archive new.host in
    let r = read_through (line_from 1) far.0 in
    let result : Result Unit Status = Err c.finish.result in
    record {
      follows = λ told p at.
          let none : g.S.Source.remaining c.pieces.script ≡ [] = ⊎_elim (λ z. absurd (omega (arith, z, inv.size))) (λ e. e) (c.in-Ok.ensures.end told c.if-count-eq0.true) in
          subst (λ t. GoesAs view g.H.Host name new.kept.machine new.kept.archive c.args.host.now new.host p.kept (rest_of in_a_store installed (line_from 1) longest p t) result) (sym (far.1 told ∙ ap (λ (x : List ℕ). far.0 ++ x) none))
          (rest_then in_a_store installed g.H.Host (OpensAs name) (IsNoFileOf name) here on (line_from 1) longest c.pieces.left p far.0 [] result c.args.host.now c.pieces.host new.host far.2 (far.4 p at)
          (λ q there. subst (λ x. GoesAs view g.H.Host name new.kept.machine new.kept.archive c.pieces.host new.host q.kept x result) (sym (rest_none in_a_store installed r c.pieces.left q))
          (subst (λ x. GoesAs view g.H.Host name new.kept.machine new.kept.archive c.pieces.host new.host q.kept (ended (follows in_a_store installed q (asked_at_end x)) status.Done) result) far.3
          (named_so view g.H.Host c.pieces.kept.archive.name name new.kept.machine new.kept.archive c.pieces.host new.host q.kept (ended (follows in_a_store installed q (asked_at_end c.pieces.reader)) status.Done) result inv.named (c.finish.ensures.follows q there)))));
      told = λ fault told p at. absurd (no_read g.H.Host c.pieces.host new.host result c.finish.ensures.counts (ap Err fault));
      counts = counts_wider g.H.Host _ c.args.host.now new.host result (counts_behind g.H.Host ⊥ c.args.host.now c.pieces.host new.host result inv.disk inv.say c.finish.ensures.counts);
      served = c.finish.ensures.served;
      starved = λ none told p at.
          let none_left : g.S.Source.remaining c.pieces.script ≡ [] = ⊎_elim (λ z. absurd (omega (arith, z, inv.size))) (λ e. e) (c.in-Ok.ensures.end told c.if-count-eq0.true) in
          let script : g.S.Source.remaining c.args.script.now ≡ far.0 = far.1 told ∙ (ap (λ (x : List ℕ). far.0 ++ x) none_left ∙ append-nil far.0) in
          some_then in_a_store installed g.H.Host (OpensAs name) (IsNoFileOf name) here p (told_from (line_from 1) far.0) (asked_at_end r) [] (asked_in (g.S.Source.remaining c.args.script.now)) c.args.host.now c.pieces.host new.host
          (ap asked_in script ∙ (asked_whole far.0 (let sum = far.2 in omega (arith, sum)) ∙ sym (append-nil (told_from (line_from 1) far.0 ++ asked_at_end r)))) (far.4 p at)
          (λ q there. subst (λ x. SomeAnswered in_a_store installed g.H.Host (OpensAs name) (IsNoFileOf name) q (asked_at_end x) c.pieces.host new.host) far.3
          (subst (λ n. SomeAnswered in_a_store installed g.H.Host (OpensAs n) (IsNoFileOf n) q (asked_at_end c.pieces.reader) c.pieces.host new.host) inv.named (c.finish.ensures.starved (ap Err none) q there)));
    }

-- MORE BYTES CAME THAN MAY

pub returns-then-count-left : goal.returns-then-count-left
returns-then-count-left g c =
    let view = g.M.Memory.view in
    let name = c.args.kept.now.archive.name in
    let inv = c.pieces.invariant in
    let far = inv.far in
    let here = IsAt view g.H.Host c.pieces.kept.machine c.pieces.kept.archive c.pieces.host in
    let new = c.feed_last.new in
    let on = IsAt view g.H.Host new.kept.machine new.kept.archive new.host in
    let r = read_through (line_from 1) far.0 in
    let result : Result Unit Status = Err c.feed_last.result in
    let bytes = take c.in-Ok.count c.take.new.into in
    let rest = g.S.Source.remaining c.take.new.self in
    let last = take c.pieces.left bytes in
    let within : c.in-Ok.count ≤ length c.take.new.into = omega (arith, c.in-Ok.ensures.within, inv.size, c.if-count-eq0.array_long) in
    let size : length bytes ≡ c.in-Ok.count = length-take-le c.in-Ok.count c.take.new.into within in
    let more : c.pieces.left < length bytes = omega (arith, size, c.if-count-left.true) in
    record {
      follows = λ told p at.
          subst (λ t. GoesAs view g.H.Host name new.kept.machine new.kept.archive c.args.host.now new.host p.kept (rest_of in_a_store installed (line_from 1) longest p t) result) (sym (far.1 told ∙ ap (λ (x : List ℕ). far.0 ++ x) (c.in-Ok.ensures.takes told)))
          (rest_then in_a_store installed g.H.Host (OpensAs name) (IsNoFileOf name) here on (line_from 1) longest c.pieces.left p far.0 (bytes ++ rest) result c.args.host.now c.pieces.host new.host far.2 (far.4 p at)
          (λ q there. subst (λ x. GoesAs view g.H.Host name new.kept.machine new.kept.archive c.pieces.host new.host q.kept x result) (sym (rest_over in_a_store installed r c.pieces.left q bytes rest more))
          (subst (λ x. GoesAs view g.H.Host name new.kept.machine new.kept.archive c.pieces.host new.host q.kept (ended (follows in_a_store installed q (told_from x last)) status.TooLarge) result) far.3
          (named_so view g.H.Host c.pieces.kept.archive.name name new.kept.machine new.kept.archive c.pieces.host new.host q.kept (ended (follows in_a_store installed q (told_from c.pieces.reader last)) status.TooLarge) result inv.named (c.feed_last.ensures.follows q there)))));
      told = λ fault told p at. absurd (no_read g.H.Host c.pieces.host new.host result c.feed_last.ensures.counts (ap Err fault));
      counts = counts_wider g.H.Host _ c.args.host.now new.host result (counts_behind g.H.Host ⊥ c.args.host.now c.pieces.host new.host result inv.disk inv.say c.feed_last.ensures.counts);
      served = c.feed_last.ensures.served;
      starved = λ none told p at.
          let script : g.S.Source.remaining c.args.script.now ≡ far.0 ++ (bytes ++ rest) = far.1 told ∙ ap (λ (x : List ℕ). far.0 ++ x) (c.in-Ok.ensures.takes told) in
          some_then in_a_store installed g.H.Host (OpensAs name) (IsNoFileOf name) here p (told_from (line_from 1) far.0) (told_from r last) [] (asked_in (g.S.Source.remaining c.args.script.now)) c.args.host.now c.pieces.host new.host
          (ap asked_in script ∙ (asked_over far.0 bytes rest c.pieces.left far.2 more ∙ sym (append-nil (told_from (line_from 1) far.0 ++ told_from r last)))) (far.4 p at)
          (λ q there. subst (λ x. SomeAnswered in_a_store installed g.H.Host (OpensAs name) (IsNoFileOf name) q (told_from x last) c.pieces.host new.host) far.3
          (subst (λ n. SomeAnswered in_a_store installed g.H.Host (OpensAs n) (IsNoFileOf n) q (told_from c.pieces.reader last) c.pieces.host new.host) inv.named (c.feed_last.ensures.starved (ap Err none) q there)));
    }

-- A PIECE

pub returns-in-Err-feed_all : goal.returns-in-Err-feed_all
returns-in-Err-feed_all g c =
    let view = g.M.Memory.view in
    let name = c.args.kept.now.archive.name in
    let inv = c.pieces.invariant in
    let far = inv.far in
    let here = IsAt view g.H.Host c.pieces.kept.machine c.pieces.kept.archive c.pieces.host in
    let new = c.feed_all.new in
    let on = IsAt view g.H.Host new.kept.machine new.kept.archive new.host in
    let r = read_through (line_from 1) far.0 in
    let e = c.in-Err-feed_all.status in
    let bytes = take c.in-Ok.count c.take.new.into in
    let rest = g.S.Source.remaining c.take.new.self in
    let within : c.in-Ok.count ≤ length c.take.new.into = omega (arith, c.in-Ok.ensures.within, inv.size, c.if-count-eq0.array_long) in
    let size : length bytes ≡ c.in-Ok.count = length-take-le c.in-Ok.count c.take.new.into within in
    let few : length bytes ≤ c.pieces.left = omega (arith, size, c.if-count-left.false) in
    record {
      follows = λ told p at.
          subst (λ t. GoesAs view g.H.Host name new.kept.machine new.kept.archive c.args.host.now new.host p.kept (rest_of in_a_store installed (line_from 1) longest p t) (Err e)) (sym (far.1 told ∙ ap (λ (x : List ℕ). far.0 ++ x) (c.in-Ok.ensures.takes told)))
          (rest_then in_a_store installed g.H.Host (OpensAs name) (IsNoFileOf name) here on (line_from 1) longest c.pieces.left p far.0 (bytes ++ rest) (Err e) c.args.host.now c.pieces.host new.host far.2 (far.4 p at)
          (λ q there. rest_err in_a_store installed g.H.Host (OpensAs name) (IsNoFileOf name) on on r c.pieces.left q bytes rest e c.pieces.host new.host few
          (subst (λ x. GoesAs view g.H.Host name new.kept.machine new.kept.archive c.pieces.host new.host q.kept (follow in_a_store installed q (told_from x bytes)) (Err e)) far.3
          (named_so view g.H.Host c.pieces.kept.archive.name name new.kept.machine new.kept.archive c.pieces.host new.host q.kept (follow in_a_store installed q (told_from c.pieces.reader bytes)) (Err e) inv.named (c.in-Err-feed_all.ensures.serves.follows q there)))));
      told = λ fault told p at. absurd (no_read g.H.Host c.pieces.host new.host (Err e) c.in-Err-feed_all.ensures.serves.counts (ap Err fault));
      counts = counts_wider g.H.Host _ c.args.host.now new.host (Err e) (counts_behind g.H.Host ⊥ c.args.host.now c.pieces.host new.host (Err e) inv.disk inv.say c.in-Err-feed_all.ensures.serves.counts);
      served = c.in-Err-feed_all.ensures.serves.served;
      starved = λ none told p at.
          let script : g.S.Source.remaining c.args.script.now ≡ (far.0 ++ bytes) ++ rest = far.1 told ∙ (ap (λ (x : List ℕ). far.0 ++ x) (c.in-Ok.ensures.takes told) ∙ sym (append_assoc far.0 bytes rest)) in
          let both = length-append far.0 bytes in
          let behind = asked_behind (far.0 ++ bytes) rest (let sum = far.2 in omega (arith, both, sum, few)) in
          some_then in_a_store installed g.H.Host (OpensAs name) (IsNoFileOf name) here p (told_from (line_from 1) far.0) (told_from r bytes) behind.0 (asked_in (g.S.Source.remaining c.args.script.now)) c.args.host.now c.pieces.host new.host
          (ap asked_in script ∙ (behind.1 ∙ ap (λ (l : List Asked). l ++ behind.0) (told_both (line_from 1) far.0 bytes))) (far.4 p at)
          (λ q there. subst (λ x. SomeAnswered in_a_store installed g.H.Host (OpensAs name) (IsNoFileOf name) q (told_from x bytes) c.pieces.host new.host) far.3
          (subst (λ n. SomeAnswered in_a_store installed g.H.Host (OpensAs n) (IsNoFileOf n) q (told_from c.pieces.reader bytes) c.pieces.host new.host) inv.named (c.in-Err-feed_all.ensures.serves.starved (ap Err none) q there)));
    }

pub pieces-preserved : goal.pieces-preserved
pieces-preserved g c =
    let view = g.M.Memory.view in
    let name = c.args.kept.now.archive.name in
    let inv = c.pieces.invariant in
    let far = inv.far in
    let here = IsAt view g.H.Host c.pieces.kept.machine c.pieces.kept.archive c.pieces.host in
    let new = c.feed_all.new in
    let on = IsAt view g.H.Host new.kept.machine new.kept.archive new.host in
    let bytes = take c.in-Ok.count c.take.new.into in
    let rest = g.S.Source.remaining c.take.new.self in
    let within : c.in-Ok.count ≤ length c.take.new.into = omega (arith, c.in-Ok.ensures.within, inv.size, c.if-count-eq0.array_long) in
    let size : length bytes ≡ c.in-Ok.count = length-take-le c.in-Ok.count c.take.new.into within in
    let few : c.in-Ok.count ≤ c.pieces.left = c.if-count-left.false in
    record {
      size = c.take.auto.into ∙ inv.size;
      go_on = c.in-Ok-feed_all.ensures.serves.go_on;
      named = c.feed_all.ensures.serves.named ∙ inv.named;
      disk = omega (arith, inv.disk, c.in-Ok-feed_all.ensures.serves.counts.disk);
      say = omega (arith, inv.say, c.in-Ok-feed_all.ensures.serves.counts.say);
      reads = omega (arith, inv.reads, c.in-Ok.ensures.cause.later);
      far = (
        far.0 ++ bytes,
        (λ told. far.1 told ∙ (ap (λ (x : List ℕ). far.0 ++ x) (c.in-Ok.ensures.takes told) ∙ sym (append_assoc far.0 bytes rest))),
        (let both = length-append far.0 bytes in let sum = far.2 in omega (arith, both, sum, size, few)),
        c.in-Ok-feed_all.ensures.reader ∙ (ap (λ x. read_through x bytes) far.3 ∙ sym (read_both (line_from 1) far.0 bytes)),
        λ p at. told_more in_a_store installed g.H.Host (OpensAs name) (IsNoFileOf name) here on (line_from 1) p far.0 bytes (Ok tt) c.args.host.now c.pieces.host new.host (far.4 p at)
            (λ q there. subst (λ x. GoesAs view g.H.Host name new.kept.machine new.kept.archive c.pieces.host new.host q.kept (follow in_a_store installed q (told_from x bytes)) (Ok tt)) far.3
            (named_so view g.H.Host c.pieces.kept.archive.name name new.kept.machine new.kept.archive c.pieces.host new.host q.kept (follow in_a_store installed q (told_from c.pieces.reader bytes)) (Ok tt) inv.named (c.in-Ok-feed_all.ensures.serves.follows q there))),
      );
    }
