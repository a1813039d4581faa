use Rattle.std.proofs.Common.{inl, inr}
use Rattle.std.specs.Prelude.{Ok, Err}
use Rattle.desk_messages.proofs.HeadAnswers.{allowed_here, bad_reads, no_page, page_reads, says_here, says_there}
use Rattle.desk_messages.proofs.answering.ask.Goals as goal

pub returns-in-Is-clause-asked : goal.returns-in-Is-clause-asked
returns-in-Is-clause-asked g c =
    let bytes = c.args.bytes.now in
    let fields = c.args.fields.now in
    let spans = c.args.spans in
    let at = c.requires in
    let says = says_here bytes fields spans at c.split_at.result.0.now c.in-Ok.said c.split_at.ensures.front c.in-Ok.ensures.ok in
    let page = c.in-Is.page in
    let is = allowed_here bytes fields spans at c.part_at-method.result.now c.part_at-target.result.now (Ok page) c.part_at-method.ensures c.part_at-target.ensures c.in-Is.ensures in
    elim c.ask_page.ensures.asked [
      | inl unread ↦ inl unread
      | inr behind ↦ inr (page_reads bytes fields spans at c.in-Ok.said says page is c.part_at-target.result.now c.split_at-2.result.1.now c.part_at-target.ensures c.split_at-2.ensures.back
          (g.S.Source.left c.args.source.now) (g.S.Source.left c.ask_page.new.source) c.ask_page.result behind)
    ]

pub returns-in-No-clause-asked : goal.returns-in-No-clause-asked
returns-in-No-clause-asked g c =
    let bytes = c.args.bytes.now in
    let fields = c.args.fields.now in
    let spans = c.args.spans in
    let at = c.requires in
    let says = says_here bytes fields spans at c.split_at.result.0.now c.in-Ok.said c.split_at.ensures.front c.in-Ok.ensures.ok in
    let is = allowed_here bytes fields spans at c.part_at-method.result.now c.part_at-target.result.now (Err c.in-No.why) c.part_at-method.ensures c.part_at-target.ensures c.in-No.ensures in
    inr (no_page bytes fields spans at c.in-Ok.said says c.in-No.why is (g.S.Source.left c.args.source.now))

pub returns-in-Err-clause-asked : goal.returns-in-Err-clause-asked
returns-in-Err-clause-asked g c =
    let bytes = c.args.bytes.now in
    let fields = c.args.fields.now in
    let spans = c.args.spans in
    inr (bad_reads bytes fields spans c.requires
    (λ said says. c.in-Err.ensures.bad said (says_there bytes fields spans c.requires c.split_at.result.0.now said c.split_at.ensures.front says))
    (g.S.Source.left c.args.source.now))
