use Rattle.std.proofs.Common.{◌≡◌, true, false, ap, sym, ◌∙◌, ⊎_elim, arith}
use Rattle.std.specs.Ordering.{is_eq}
use Rattle.st_model.specs.Values.{value}
use Rattle.st_browse.specs.inside.Entries.{name_of}
use Rattle.st_browse.proofs.Bytewise.{equal_text, same_bytes}
use Rattle.st_browse.proofs.comparing.is_same.Goals as goal

pub returns-in-Equal : goal.returns-in-Equal
returns-in-Equal g c =
    let t = (g.M.Memory.view c.args.m.now).objects in
    let there : c.is_name.result ≡ true = c.if-not-is_name.false in
    sym (ap is_eq c.in-Equal.is) ∙ equal_text t (value c.args.o) (name_of t c.args.o) (name_of t c.args.name) c.compare.result (c.is_name.ensures.text there) c.compare.ensures

pub returns-in-Less : goal.returns-in-Less
returns-in-Less g c =
    let t = (g.M.Memory.view c.args.m.now).objects in
    let there : c.is_name.result ≡ true = c.if-not-is_name.false in
    let other : is_eq c.compare.result ≡ false = ⊎_elim (λ e. ap is_eq e) (λ e. ap is_eq e) c.in-Less.is in
    sym other ∙ equal_text t (value c.args.o) (name_of t c.args.o) (name_of t c.args.name) c.compare.result (c.is_name.ensures.text there) c.compare.ensures

pub returns-then-not-is_name : goal.returns-then-not-is_name
returns-then-not-is_name g c = grind (arith, same_bytes)
