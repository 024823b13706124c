-- What is prepared of a definition, and why it is refused, from what the calls answer.
use Rattle.std.proofs.Common.{◌≡◌, ◌∙◌, ℕ, Option, Some, None, Result, Ok, Err, refl, sym, ap, subst}
use Rattle.std.specs.Prelude.{option_map}
use Rattle.st_model.specs.Values.{Value}
use Rattle.st_model.specs.Machine.{State, Went}
use Rattle.st_model.specs.Births.{Births}
use Rattle.st_model.specs.Table.{Table, table}
use Rattle.st_model.specs.Show.{Shows}
use Rattle.st_model.specs.View.{View}
use Rattle.st_model.specs.inside.Calls.{Reads}
use Rattle.st_scan.specs.declared.fault.SyntaxFault.{SyntaxFault}
use Rattle.st_scan.specs.declared.fault.SyntaxFault.TheVariants as syntax_at
use Rattle.st_scan.specs.Views.{MethodView}
use Rattle.st_grammar.specs.inside.Meant.{IsFaultOf}
use Rattle.st_emit.specs.Names.{NamesView}
use Rattle.st_code.specs.declared.fault.Fault.{Fault}
use Rattle.st_code.specs.declared.fault.CodeFault.{CodeFault}
use Rattle.st_code.specs.declared.fault.CodeFault.TheVariants as code_at
use Rattle.st_code.specs.Methods.{PartsView, code, fault, parts_or}
use Rattle.st_code.specs.Reported.{IsFault, reported}
use Rattle.st_scope.specs.declared.fault.InstallFault.{InstallFault}
use Rattle.st_scope.specs.declared.fault.InstallFault.TheVariants as fault_of
use Rattle.st_scope.specs.Calls.{class_of_name, names}
use Rattle.st_install.specs.Calls.{ready}
use Rattle.st_scope.specs.inside.Meanings.{class_found}
use Rattle.st_install.specs.inside.Rooms.{TellsReady}
use Rattle.st_scope.specs.inside.Seen.{AnswersNames}
use Rattle.st_scope.specs.inside.Alike.{SeesAlike}
use Rattle.st_parts.proofs.CodeAlike.{code_alike}
use Rattle.st_chunk.specs.Definitions.{Definition}
use Rattle.st_protocol.specs.declared.refusal.Refusal.{Refusal}
use Rattle.st_protocol.specs.declared.refusal.Refusal.TheVariants.{Syntax, Code}
use Rattle.st_protocol.specs.Installing.{Refused}
use Rattle.st_grammar.specs.inside.SyntaxMeant.{IsSyntax}
use Rattle.st_grammar.specs.Syntax.{syntax}
use Rattle.st_install.specs.Defining.{of_install, of_code, installed}
use Rattle.st_install.specs.inside.Unprepareds.{by_install, by_syntax, by_code}
use Rattle.st_install.specs.inside.Prepareds.{IsOver, PreparesAs}
use Rattle.st_grammar.proofs.Syntaxes.{only}
use Rattle.st_install.proofs.Joining.{refused_class, refused_syntax, refused_names, refused_code, refused_ready}

-- the names that are listed give the same code as those that the code looks up
pub code_seen : (tree : MethodView) (listed seen : NamesView) → SeesAlike listed seen → (r : Result PartsView Fault) → code tree seen ≡ r → code tree listed ≡ r
code_seen tree listed seen alike r e = code_alike tree listed seen alike ∙ e

module _ (v : View) (d : Definition) where
  -- refused for this over all births that are shown
  abbrev Refuses : Refusal → Type 0
  Refuses why = (c : State Table) (s : State Births) → IsOver v c → Shows c s → installed d s ≡ Refused why

  refuses_by : (f : InstallFault) → ((f ≡ fault_of.OutOfMemory → ⊥) → Refuses (of_install f)) → PreparesAs v d (Err (by_install f))
  refuses_by fault_of.NoClass h = h (λ e. cc)
  refuses_by fault_of.NoGlobals h = h (λ e. cc)
  refuses_by (fault_of.NoRoom demand) h = h (λ e. cc)
  refuses_by fault_of.Shape h = h (λ e. cc)
  refuses_by fault_of.OutOfMemory h = tt

  -- CLASS

  pub class_refuses : (f : InstallFault) → Reads (class_of_name table v.head d.class d.meta) class_found v.objects (Ok (Err f)) → PreparesAs v d (Err (by_install f))
  class_refuses f reads = refuses_by f (λ some c s over shows. refused_class c s shows d f (subst (λ h. (class_of_name table h d.class d.meta).run c ≡ Went (Err f) c) (sym over.head) (reads c over.objects)))

  module _ (w : Value) (class : Reads (class_of_name table v.head d.class d.meta) (λ x. x) v.objects (Ok (Ok w))) where
    found : (c : State Table) → IsOver v c → (class_of_name table c.head d.class d.meta).run c ≡ Went (Ok w) c
    found c over = subst (λ h. (class_of_name table h d.class d.meta).run c ≡ Went (Ok w) c) (sym over.head) (class c over.objects)

    -- SYNTAX

    pub syntax_refuses : (f : SyntaxFault) → IsFaultOf d.text f → PreparesAs v d (Err (by_syntax f))
    syntax_refuses (syntax_at.At place cause) h = λ c s over shows.
        refused_syntax c s shows d w (found c over) h.0 (sym (only d.text (Err h.0) h.1)) ∙ (λ i. Refused (Syntax (h.2 i) (h.3 i)))
    syntax_refuses syntax_at.OutOfMemory h = tt

    module _ (tree : MethodView) (means : IsSyntax d.text (Ok tree)) where
      reads : syntax d.text ≡ Ok tree
      reads = sym (only d.text (Ok tree) means)

      -- NAMES

      names_refuse_all : (f : InstallFault) → Reads (names table v.head w d.meta tree) (λ x. x) v.objects (Ok (Err f)) → Refuses (of_install f)
      names_refuse_all f h c s over shows = refused_names c s shows d w (found c over) tree reads f (subst (λ a. (names table a w d.meta tree).run c ≡ Went (Err f) c) (sym over.head) (h c over.objects))

      pub names_refuse : (f : InstallFault) → AnswersNames (names table v.head w d.meta tree) v.objects (Err f) → PreparesAs v d (Err (by_install f))
      names_refuse fault_of.NoClass h = names_refuse_all fault_of.NoClass h
      names_refuse fault_of.NoGlobals h = names_refuse_all fault_of.NoGlobals h
      names_refuse (fault_of.NoRoom demand) h = names_refuse_all (fault_of.NoRoom demand) h
      names_refuse fault_of.Shape h = names_refuse_all fault_of.Shape h
      names_refuse fault_of.OutOfMemory h = tt

      module _ (seen : NamesView) (listed : Reads (names table v.head w d.meta tree) Ok v.objects (Ok seen)) where
        sees : (c : State Table) → IsOver v c → (names table c.head w d.meta tree).run c ≡ Went (Ok seen) c
        sees c over = subst (λ a. (names table a w d.meta tree).run c ≡ Went (Ok seen) c) (sym over.head) (listed c over.objects)

        -- CODE

        coded_by : (g : Option Fault) (place cause : ℕ) → option_map reported g ≡ Some (code_at.At place cause) → (f : Fault) × (g ≡ Some f) × (reported f ≡ code_at.At place cause)
        coded_by None place cause e = cc
        coded_by (Some f) place cause e = (f, refl, cc)

        same_code : (f : Fault) (place cause : ℕ) → reported f ≡ code_at.At place cause → of_code f ≡ Code place cause
        same_code f place cause e = cc

        module _ (looked_up : NamesView) (alike : SeesAlike seen looked_up) where
          pub code_refuses : (f : CodeFault) → IsFault (fault tree looked_up) f → PreparesAs v d (Err (by_code f))
          code_refuses (code_at.At place cause) h = λ c s over shows.
              let k = coded_by (fault tree looked_up) place cause h in
              let coded : code tree seen ≡ Err k.0 = code_alike tree seen looked_up alike ∙ ap (parts_or tree looked_up) k.1 in
              refused_code c s shows d w (found c over) tree reads seen (sees c over) k.0 coded ∙ ap Refused (same_code k.0 place cause k.2)
          code_refuses code_at.OutOfMemory h = tt

          module _ (parts : PartsView) (compiled : code tree looked_up ≡ Ok parts) where
            coded : code tree seen ≡ Ok parts
            coded = code_seen tree seen looked_up alike (Ok parts) compiled

            -- READY

            ready_refuses_all : (f : InstallFault) → ((c : State Table) → c.memory ≡ v.objects → (ready table v.head w d.class d.meta parts).run c ≡ Went (Err f) c) → Refuses (of_install f)
            ready_refuses_all f h c s over shows = refused_ready c s shows d w (found c over) tree reads seen (sees c over) parts coded f (subst (λ a. (ready table a w d.class d.meta parts).run c ≡ Went (Err f) c) (sym over.head) (h c over.objects))

            pub ready_refuses : (f : InstallFault) → TellsReady (ready table v.head w d.class d.meta parts) v.objects (Err f) → PreparesAs v d (Err (by_install f))
            ready_refuses fault_of.NoClass h = ready_refuses_all fault_of.NoClass h
            ready_refuses fault_of.NoGlobals h = ready_refuses_all fault_of.NoGlobals h
            ready_refuses (fault_of.NoRoom demand) h = ready_refuses_all (fault_of.NoRoom demand) h
            ready_refuses fault_of.Shape h = ready_refuses_all fault_of.Shape h
            ready_refuses fault_of.OutOfMemory h = tt
