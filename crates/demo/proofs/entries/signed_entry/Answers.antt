use Rattle.std.proofs.Common.{◌≡◌, ◌∙◌, ap, List, ℕ}
use Rattle.git_object.specs.Objects.{Pair}
use Rattle.git_object.specs.declared.kinds.Kind.TheVariants as kind
use Rattle.rsl_chain.specs.Drafts.{signed_text_of, unsigned_text}
use Rattle.demo.specs.Journals.{uses_of}
use Rattle.demo.specs.Keys.{demo_key, key_id, signed_by}
use Rattle.demo.proofs.entries.signed_entry.Goals as goal

of_body : List ℕ → Pair
of_body body = record { kind = kind.Commit; body = body }

pub returns-clause-entry : goal.returns-clause-entry
unfolding of_body
returns-clause-entry c =
    let text : c.as_slice-2.result.now ≡ unsigned_text c.args.draft.now = c.as_slice-2.ensures ∙ c.in_ok-text.ensures.text in
    let signed : c.as_slice-3.result.now ≡ signed_by (demo_key c.args.key) (uses_of c.args.key c.args.keys.now) (unsigned_text c.args.draft.now) =
    c.as_slice-3.ensures ∙ c.in_ok-signature.ensures.signed
    ∙ ap (signed_by (demo_key c.args.key) (uses_of c.args.key c.args.keys.now)) (c.as_slice.ensures ∙ c.in_ok-text.ensures.text) in
    let id : c.id_of-id.result ≡ key_id c.args.key = c.id_of-id.ensures in
    c.in_ok-entry.ensures ∙ ap of_body (c.in_ok-body.ensures.text ∙ (λ j. signed_text_of (text j) (record { signer = id j; signature = signed j })))
