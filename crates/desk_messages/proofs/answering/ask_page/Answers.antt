use Rattle.std.proofs.Common.{Bool, inl, inr, sym, ap, subst, ◌∙◌, arith, if◌then◌else◌}
use Rattle.std.specs.Prelude.{Ok}
use Rattle.octets.specs.Causes.{one_more}
use Rattle.desk_messages.specs.Asking.{page_asked, verify_asked}
use Rattle.desk_messages.specs.Behind.{Behind}
use Rattle.desk_messages.specs.Reading.{body_len}
use Rattle.desk_messages.specs.declared.routes.Page.{Page}
use Rattle.desk_messages.specs.declared.routes.Page.TheVariants as a_page
use Rattle.desk_messages.proofs.HeadAnswers.{at_once}
use Rattle.desk_messages.proofs.answering.ask_page.Goals as goal

pub returns-in-Verify-clause-asked : goal.returns-in-Verify-clause-asked
returns-in-Verify-clause-asked g c =
    let told = g.S.Source.left c.args.source.now in
    let begun = c.args.begun.now in
    let target = c.args.target.now in
    let result = c.ask_verdict.result in
    elim c.ask_verdict.ensures.asked [
      | inl memory ↦ inl (inl memory)
      | inr is ↦ inr (subst (λ (p : Page). Behind (page_asked p target c.args.said) (body_len (Ok p) c.args.said) begun told told result) (sym c.in-Verify.is)
          (at_once (page_asked a_page.Verify target c.args.said) begun told result (λ rest. is ∙ ap verify_asked c.name_of.ensures)))
    ]

pub returns-in-Verify-clause-cause : goal.returns-in-Verify-clause-cause
returns-in-Verify-clause-cause g c =
    let count = g.S.Source.faults c.args.source.now in
    record {
      later = omega arith;
      is = sym (ap (λ (b : Bool). if b then one_more count else count) c.ask_verdict.ensures.quiet);
    }
