use Rattle.std.proofs.Common.{◌≡◌, ◌∙◌, ◌-◌, sym, rules, Err, arith}
use Rattle.st_model.specs.Values.{word}
use Rattle.st_bitblt.proofs.Readings.{checked-gone, checked-other, checked-none, checked-words, checked-short, words-none, words-read}
use Rattle.st_bitblt.proofs.numbers.check_words.Goals as goal

pub returns-in_err-kind-clause-does : goal.returns-in_err-kind-clause-does
returns-in_err-kind-clause-does g c =
    let e : c.from_residual.result ≡ Err c.in_err-kind.field-0.0 = search rules in
    rw e (checked-gone g.met.O.Objects.tabular (word c.args.o) (g.O.Objects.table c.args.m.now) c.args.n c.in_err-kind.field-0.0 c.in_err-kind.ensures)

pub returns-then-not-is_words-clause-does : goal.returns-then-not-is_words-clause-does
returns-then-not-is_words-clause-does g c =
    checked-other g.met.O.Objects.tabular (word c.args.o) (g.O.Objects.table c.args.m.now) c.args.n c.in_ok-kind.kind c.in_ok-kind.ensures (sym c.is_words.ensures ∙ c.if-not-is_words.true)

pub returns-in_err-fetch_word-clause-does : goal.returns-in_err-fetch_word-clause-does
returns-in_err-fetch_word-clause-does g c =
    let e : c.from_residual-in_err-fetch_word.result ≡ Err c.in_err-fetch_word.field-0.0 = search rules in
    rw e (checked-short g.met.O.Objects.tabular (word c.args.o) (g.O.Objects.table c.args.m.now) c.args.n c.in_ok-kind.kind c.in_err-fetch_word.field-0.0 (c.args.n - 1) c.in_ok-kind.ensures (sym c.is_words.ensures ∙ c.if-not-is_words.false) (omega arith) c.in_err-fetch_word.ensures)

pub returns-in_ok-fetch_word-clause-does : goal.returns-in_ok-fetch_word-clause-does
returns-in_ok-fetch_word-clause-does g c =
    checked-words g.met.O.Objects.tabular (word c.args.o) (g.O.Objects.table c.args.m.now) c.args.n c.in_ok-kind.kind c.in_ok-fetch_word.field-0 (c.args.n - 1) c.in_ok-kind.ensures (sym c.is_words.ensures ∙ c.if-not-is_words.false) (omega arith) c.in_ok-fetch_word.ensures

pub returns-in_ok-fetch_word-clause-words : goal.returns-in_ok-fetch_word-clause-words
returns-in_ok-fetch_word-clause-words g c =
    words-read g.met.O.Objects.tabular (word c.args.o) (g.O.Objects.table c.args.m.now) c.args.n c.in_ok-kind.kind c.in_ok-fetch_word.field-0 (c.args.n - 1) c.in_ok-kind.ensures (sym c.is_words.ensures ∙ c.if-not-is_words.false) (omega arith) c.in_ok-fetch_word.ensures

pub returns-else-n-gt0-clause-does : goal.returns-else-n-gt0-clause-does
returns-else-n-gt0-clause-does g c =
    checked-none g.met.O.Objects.tabular (word c.args.o) (g.O.Objects.table c.args.m.now) c.args.n c.in_ok-kind.kind c.in_ok-kind.ensures (sym c.is_words.ensures ∙ c.if-not-is_words.false) (omega arith)

pub returns-else-n-gt0-clause-words : goal.returns-else-n-gt0-clause-words
returns-else-n-gt0-clause-words g c =
    words-none g.met.O.Objects.tabular (word c.args.o) (g.O.Objects.table c.args.m.now) c.args.n c.in_ok-kind.kind c.in_ok-kind.ensures (sym c.is_words.ensures ∙ c.if-not-is_words.false) (omega arith)
