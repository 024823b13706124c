-- What comes of a definition: it is tested in the order NoGlobals, NoClass, the text's syntax, the shape of class and symbol table,
-- the method's code, the table of characters and the size of what is replaced, and room; and then it is installed.
use Rattle.std.specs.Prelude.{ℕ, List, Result, Ok, Err}
use Rattle.st_model.specs.Machine.{ObjectMemory, Head, State, Transition, Died, Went, Step, answer, ◌>>=◌, ◌>>◌}
use Rattle.st_model.specs.Births.{Births, births}
use Rattle.st_model.specs.Settled.{reclaim}
use Rattle.st_scan.specs.declared.fault.Fault as syntax_fault
use Rattle.st_scan.specs.TreeFaults as syntax_faults
use Rattle.st_code.specs.declared.fault.Fault as code_fault
use Rattle.st_code.specs.Reported as code_faults
use Rattle.st_code.specs.Methods.{code}
use Rattle.st_scope.specs.declared.fault.InstallFault.{InstallFault}
use Rattle.st_scope.specs.declared.fault.InstallFault.TheVariants as fault
use Rattle.st_install.specs.Plans.{Plan}
use Rattle.st_scope.specs.Calls.{class_of_name, names}
use Rattle.st_install.specs.Calls.{ready}
use Rattle.st_install.specs.Installing.{install}
use Rattle.st_chunk.specs.Definitions.{Definition}
use Rattle.st_protocol.specs.declared.refusal.Refusal.{Refusal}
use Rattle.st_protocol.specs.declared.refusal.Refusal.TheVariants.{Syntax, Code, NoClass, NoGlobals, NoRoom, Shape}
use Rattle.st_protocol.specs.Installing.{Installed, Refused, Accepted}
use Rattle.st_grammar.specs.Syntax.{syntax}

-- REFUSALS

abbrev pub of_syntax : syntax_fault.Fault → Refusal
of_syntax f = Syntax f.place (syntax_faults.cause_number f.cause)

abbrev pub of_code : code_fault.Fault → Refusal
of_code f = Code f.place (code_faults.cause_number f.cause)

-- no definition is refused for want of memory
abbrev pub of_install : InstallFault → Refusal
of_install fault.NoClass = NoClass
of_install fault.NoGlobals = NoGlobals
of_install (fault.NoRoom demand) = NoRoom demand
of_install _ = Shape

-- STEPS

-- a method that may be installed: its selector, and what is to be made and stored
pub record Prepared : Type 0 where
  pub selector : List ℕ
  pub plan : Plan

module _ {H : Type 0} where
  -- a fault ends it as a refusal, which `says` gives, or it goes on with what came
  abbrev pub on_ok_by : {A B E : Type 0} → (E → Refusal) → (A → Step H (Result B Refusal)) → Result A E → Step H (Result B Refusal)
  on_ok_by says f (Err fault) = answer (Err (says fault))
  on_ok_by says f (Ok a) = f a

  unfoldable pub on_ok : {A B E : Type 0} → (E → Refusal) → Step H (Result A E) → (A → Step H (Result B Refusal)) → Step H (Result B Refusal)
  on_ok says m f = m >>= on_ok_by says f

module _ {H : Type 0} (m : ObjectMemory H) where
  -- a refusal, or what is to be installed; nothing changes
  unfoldable pub prepare : Head → Definition → Step H (Result Prepared Refusal)
  prepare head d =
      on_ok of_install (class_of_name m head d.class d.meta) λ class.
      on_ok of_syntax (answer (syntax d.text)) λ tree.
      on_ok of_install (names m head class d.meta tree) λ seen.
      on_ok of_code (answer (code tree seen)) λ parts.
      on_ok of_install (ready m head class d.class d.meta parts) λ plan.
      answer (Ok (record { selector = parts.selector; plan = plan }))

  -- what is prepared is installed; the method's selector
  unfoldable pub carry_out : Result Prepared Refusal → Step H (Result (List ℕ) Refusal)
  carry_out (Err why) = answer (Err why)
  carry_out (Ok p) = install m p.plan >> answer (Ok p.selector)

  -- a definition, before anything is reclaimed
  unfoldable pub define : Head → Definition → Step H (Result (List ℕ) Refusal)
  define head d = prepare head d >>= carry_out

-- OVER BIRTHS

-- what is no longer supported is reclaimed; no definition dies
abbrev pub outcome_of : Transition (State Births) (Result (List ℕ) Refusal) → Installed
outcome_of (Died cause) = Refused Shape
outcome_of (Went (Err why) s) = Refused why
outcome_of (Went (Ok selector) s) = Accepted selector (reclaim births s)

unfoldable pub installed : Definition → State Births → Installed
installed d s = outcome_of ((define births s.head d).run s)
