-- Worked rows of the syntax of texts, computed from the definitions.
use Rattle.std.proofs.Common.{◌≡◌, ℕ, List, [], Ok, Err, refl, true, None}
use Rattle.std.specs.Prelude.{codes}
use Rattle.st_scan.specs.Views.{MethodView, variable, statement, no_statements}
use Rattle.st_scan.specs.declared.fault.Cause.TheVariants.{Expected, Trailing, Unclosed}
use Rattle.st_grammar.specs.Syntax.{syntax}
use Rattle.st_install.proofs.DefinitionOpened.{opened}

-- a method that returns a variable
abbrev pub returning : List ℕ → List ℕ → MethodView
returning selector name = record {
  selector = selector;
  arguments = [];
  temporaries = [];
  primitive = None;
  body = statement true (variable (record { text = name; place = 4 })) no_statements;
}

x_means : syntax (codes "x ^x") ≡ Ok (returning (codes "x") (codes "x"))
unfolding opened
x_means = refl

-- a bracket that closes nothing stands behind a method
trailing : syntax (codes "foo ^a )") ≡ Err (record { place = 8; cause = Trailing })
unfolding opened
trailing = refl

-- the end of a text that goes on
expected : syntax (codes "foo ^") ≡ Err (record { place = 6; cause = Expected })
unfolding opened
expected = refl

-- of the scanner's fault and the grammar's the first
unclosed : syntax (codes "foo ^'a") ≡ Err (record { place = 6; cause = Unclosed })
unfolding opened
unclosed = refl
