use Rattle.std.proofs.Common.{◌≡◌, ◌-◌, ℕ, suc, List, drop, take, sym, ap, subst, ◌∙◌, arith}
use Rattle.lms_keys.specs.SigOk.{AreSignedKeys}
use Rattle.lms_keys.proofs.Levels.{is_key, one_more}
use Rattle.evidence.specs.Uses.{len_by, next_key}
use Rattle.evidence.proofs.Walking.{last_use, len_of, more_uses}
use Rattle.evidence.proofs.uses.split_use.Goals as goal

pub returns-then-signed-eq0-clause-uses : goal.returns-then-signed-eq0-clause-uses
returns-then-signed-eq0-clause-uses c =
    let it = c.args.signed in
    last_use it.below it.key.now it.message.now it.signature.now c.number_at-leaf.result c.if-signed-eq0.true c.number_at-leaf.ensures

pub returns-in_default-clause-uses : goal.returns-in_default-clause-uses
returns-in_default-clause-uses c =
    let it = c.args.signed in
    absurd (is_key it.below it.key.now it.message.now it.signature.now c.read.result c.in_default.field-0 c.in_default.is c.read.ensures.length c.read.ensures.code c.requires)

pub split_at-requires : goal.split_at-requires
split_at-requires c =
    let it = c.args.signed in
    let key = it.key.now in
    let message = it.message.now in
    let s = it.signature.now in
    let some : it.below ≡ suc (it.below - 1) = omega (arith, c.if-signed-eq0.false) in
    let more = one_more (it.below - 1) c.in-Ok.key key message s c.signature_len.result (omega arith) (omega arith) c.in-Ok.ensures.key c.signature_len.ensures in
    let room = (more.0 (subst (λ (n : ℕ). AreSignedKeys n key message s) some c.requires)).0 in
    omega (arith, room)

pub split_at-requires-2 : goal.split_at-requires-2
split_at-requires-2 c =
    let it = c.args.signed in
    let key = it.key.now in
    let message = it.message.now in
    let s = it.signature.now in
    let some : it.below ≡ suc (it.below - 1) = omega (arith, c.if-signed-eq0.false) in
    let more = one_more (it.below - 1) c.in-Ok.key key message s c.signature_len.result (omega arith) (omega arith) c.in-Ok.ensures.key c.signature_len.ensures in
    let room = (more.0 (subst (λ (n : ℕ). AreSignedKeys n key message s) some c.requires)).0 in
    let back = c.split_at.ensures.back_len in
    omega (arith, room, back)

pub returns-clause-uses : goal.returns-clause-uses
returns-clause-uses c =
    let it = c.args.signed in
    let key = it.key.now in
    let s = it.signature.now in
    let some : it.below ≡ suc (it.below - 1) = omega (arith, c.if-signed-eq0.false) in
    let long = len_of c.in-Ok.key key c.signature_len.result c.in-Ok.ensures.key c.signature_len.ensures in
    let behind : c.split_at.result.1.now ≡ drop (len_by key) s = c.split_at.ensures.back ∙ ap (λ (n : ℕ). drop n s) long in
    let next : c.split_at-2.result.0.now ≡ next_key key s = c.split_at-2.ensures.front ∙ ap (take 56) behind in
    let rest : c.split_at-2.result.1.now ≡ drop 56 (drop (len_by key) s) = c.split_at-2.ensures.back ∙ ap (drop 56) behind in
    more_uses it.below (it.below - 1) key it.message.now s c.number_at-leaf.result c.split_at-2.result.0.now c.split_at-2.result.1.now some c.number_at-leaf.ensures next rest

pub returns-clause-good : goal.returns-clause-good
returns-clause-good c =
    let it = c.args.signed in
    let key = it.key.now in
    let message = it.message.now in
    let s = it.signature.now in
    let n : ℕ = it.below - 1 in
    let len = c.signature_len.result in
    let some : it.below ≡ suc n = omega (arith, c.if-signed-eq0.false) in
    let more = one_more n c.in-Ok.key key message s len (omega arith) (omega arith) c.in-Ok.ensures.key c.signature_len.ensures in
    let rest = (more.0 (subst (λ (k : ℕ). AreSignedKeys k key message s) some c.requires)).1.1 in
    let next : c.split_at-2.result.0.now ≡ take 56 (drop len s) = c.split_at-2.ensures.front ∙ ap (take 56) c.split_at.ensures.back in
    let below : c.split_at-2.result.1.now ≡ drop 56 (drop len s) = c.split_at-2.ensures.back ∙ ap (drop 56) c.split_at.ensures.back in
    subst (λ (p : List ℕ). AreSignedKeys n p message c.split_at-2.result.1.now) (sym next)
    (subst (λ (l : List ℕ). AreSignedKeys n (take 56 (drop len s)) message l) (sym below) rest)
