use Rattle.std.proofs.Common.{◌≡◌, ◌+◌, ℕ, List, length, sym, subst}
use Rattle.std.specs.Prelude.{Option}
use Rattle.rsl_chain.specs.declared.entries.EntryBody.{EntryBody}
use Rattle.rsl_chain.specs.Chain.{last_of}
use Rattle.rsl_chain.specs.Drafts.{IsDraft}
use Rattle.rsl_chain.specs.declared.drafts.Draft.{Draft}
use Rattle.log_appending.proofs.Written.{draft_valid}
use Rattle.log_appending.specs.Entries.{author_of, draft_after}
use Rattle.log_appending.proofs.drafting.draft_entry.Goals as goal

draft_is : (ids : List (List ℕ)) (seconds : ℕ) (body : EntryBody) (parent : Option (List ℕ)) (author : List ℕ) (number : ℕ) → parent ≡ last_of ids → author ≡ author_of seconds → number ≡ length ids
    → ◌≡◌ {A = Draft} (record { parent = parent; author = author; number = number + 1; body = body }) (draft_after ids seconds body)
unfolding draft_after
draft_is ids seconds body parent author number tip by long = cc

pub returns-clause-draft : goal.returns-clause-draft
returns-clause-draft g c = (
  c.in-Ok.seconds,
  c.in-Ok.ensures.moment,
  draft_is c.args.log.now.ids c.in-Ok.seconds c.args.body c.tip_of.result c.in-Ok-author_text.author c.len.result c.tip_of.ensures c.in-Ok-author_text.ensures.text c.len.ensures,
)

pub returns-clause-valid : goal.returns-clause-valid
returns-clause-valid g c =
    subst IsDraft (sym (draft_is c.args.log.now.ids c.in-Ok.seconds c.args.body c.tip_of.result c.in-Ok-author_text.author c.len.result c.tip_of.ensures c.in-Ok-author_text.ensures.text c.len.ensures))
    (draft_valid c.args.log.now.ids c.in-Ok.seconds c.args.body c.requires.short c.in-Ok-author_text.ensures.plain c.requires.body)
