use Rattle.std.proofs.Common.{◌≡◌, ◌∙◌, ◌<◌, ℕ, List, length, Err, ap, arith, subst, sym}
use Rattle.std.specs.Prelude.{Option, Some}
use Rattle.std.proofs.lemmas.List.{take_at}
use Rattle.edge_io.specs.Recorded.{seen_after}
use Rattle.lms_keys.specs.HssSecret.{signature_by}
use Rattle.lms_keys.specs.declared.below.Below.{Below}
use Rattle.demo.specs.Journals.{Journaled}
use Rattle.demo.specs.Keys.{signed_by}
use Rattle.demo.proofs.FirstLeaves.{least_is, next_journal, not_all}
use Rattle.demo.proofs.journals.Journal.sign.Goals as goal

pub unreachable-requires : goal.unreachable-requires
unreachable-requires c =
    let left : c.self.inside.used < 1024 = subst (λ (v : Journaled). v.used < 1024) (sym c.self.view_is) c.requires in
    let seen : Option (List ℕ) = Some (seen_after c.self.inside.disk.start c.self.inside.disk.steps) in
    not_all c.self.inside.signer seen c.self.inside.used c.self.invariant left (c.in-Err-Exhausted.ensures.exhausted.0 (ap Err c.in-Err-Exhausted.field-0-is))

pub invariant_of-self : goal.invariant_of-self
invariant_of-self c =
    let left : c.self.inside.used < 1024 = subst (λ (v : Journaled). v.used < 1024) (sym c.self.view_is) c.requires in
    let seen : Option (List ℕ) = Some (seen_after c.self.inside.disk.start c.self.inside.disk.steps) in
    let now : Option (List ℕ) = Some (seen_after c.sign.new.disk.start c.sign.new.disk.steps) in
    let failed = c.in-Err-Disk.ensures.failed (ap Err c.in-Err-Disk.field-0-is) in
    next_journal c.self.inside.signer seen c.self.inside.used c.self.invariant left failed.0 now c.sign.new.self failed.1 failed.2 c.sign.ensures.covers

pub invariant_of-self-2 : goal.invariant_of-self-2
invariant_of-self-2 c =
    let left : c.self.inside.used < 1024 = subst (λ (v : Journaled). v.used < 1024) (sym c.self.view_is) c.requires in
    let seen : Option (List ℕ) = Some (seen_after c.self.inside.disk.start c.self.inside.disk.steps) in
    let now : Option (List ℕ) = Some (seen_after c.sign.new.disk.start c.sign.new.disk.steps) in
    next_journal c.self.inside.signer seen c.self.inside.used c.self.invariant left c.in-Ok.field-0 now c.sign.new.self c.in-Ok.ensures.least.0 c.in-Ok.ensures.least.1 c.sign.ensures.covers

pub returns-clause-signed : goal.returns-clause-signed
unfolding signed_by
returns-clause-signed c =
    let left : c.self.inside.used < 1024 = subst (λ (v : Journaled). v.used < 1024) (sym c.self.view_is) c.requires in
    let seen : Option (List ℕ) = Some (seen_after c.self.inside.disk.start c.self.inside.disk.steps) in
    let leaf : c.in-Ok.field-0 ≡ c.self.inside.used = least_is c.self.inside.signer seen c.self.inside.used c.self.invariant left c.in-Ok.field-0 c.in-Ok.ensures.least.0 in
    let long : length c.sign.new.out ≡ length c.as_mut_slice.result.now = c.sign.auto.out in
    let size : length c.sign.new.out ≡ c.in_ok-signed.signed.len = omega (arith, long, c.as_mut_slice.ensures.len) in
    c.from_vec.ensures ∙ take_at c.sign.new.out _ c.in_ok-signed.signed.len size
    ∙ c.in-Ok.ensures.signed.is
    ∙ ap (λ (below : Option Below). signature_by c.self.inside.signer.secret.top below c.in-Ok.field-0 c.args.message.now) c.self.invariant.one_level
    ∙ ap (λ (q : ℕ). signed_by c.self.inside.signer.secret.top q c.args.message.now) leaf
    ∙ ap (λ (v : Journaled). signed_by v.secret v.used c.args.message.now) c.self.view_is
