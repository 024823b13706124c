use Rattle.std.proofs.Common.{◌≡◌, [], sym, ap, ◌∙◌, append-nil}
use Rattle.st_model.specs.Values.{value}
use Rattle.st_call.proofs.Pushing.{push_none, push_as}
use Rattle.st_session.specs.inside.Standing.{shown_by}
use Rattle.st_session.specs.inside.Stretches.{words_of}
use Rattle.st_session.specs.inside.Watched.{texts_seen, is_stop}
use Rattle.st_session.specs.Watching.{Says, Stops, entry_seen, stopped_text}
use Rattle.st_session.proofs.Seen.{unentered, enters}
use Rattle.st_session.proofs.watching.push_entry.Goals as goal

pub returns-then-not-has_entered : goal.returns-then-not-has_entered
returns-then-not-has_entered g c =
    let d = shown_by g.M.Memory.view c.args.machine.now in
    let n = c.args.finished in
    let seen : Says [] ≡ entry_seen (value c.args.method) n d = unentered (value c.args.method) n d (sym c.has_entered.ensures ∙ c.if-not-has_entered.true) in
    record {
      pushes = push_as (push_none g.H.Host c.args.host.now (g.met.H.Host.only_now c.args.host.now)) (ap (λ l. words_of (texts_seen n l)) seen);
      stops = ap is_stop seen;
    }

pub returns-in-Ok : goal.returns-in-Ok
returns-in-Ok g c =
    let d = shown_by g.M.Memory.view c.args.machine.now in
    let n = c.args.finished in
    let seen : Stops ≡ entry_seen (value c.args.method) n d = enters (value c.args.method) n d (sym c.has_entered.ensures ∙ c.if-not-has_entered.false) in
    record { pushes = push_as c.in-Ok.ensures (sym (append-nil (stopped_text n)) ∙ ap (λ l. words_of (texts_seen n l)) seen); stops = ap is_stop seen }

pub returns-in-Err : goal.returns-in-Err
returns-in-Err g c =
    let d = shown_by g.M.Memory.view c.args.machine.now in
    let n = c.args.finished in
    let seen : Stops ≡ entry_seen (value c.args.method) n d = enters (value c.args.method) n d (sym c.has_entered.ensures ∙ c.if-not-has_entered.false) in
    record { pushes = push_as c.in-Err.ensures (sym (append-nil (stopped_text n)) ∙ ap (λ l. words_of (texts_seen n l)) seen); stops = tt }
