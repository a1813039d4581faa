use Rattle.std.proofs.Common.{◌≡◌, ◌∙◌, List, ℕ, Err, ap, length, sym, subst, arith}
use Rattle.std.proofs.lemmas.List.{take_at}
use Rattle.leaf_journal.proofs.Leaves.{loaded_covers}
use Rattle.leaf_journal.specs.Signing.{Signs}
use Rattle.leaf_journal.proofs.KeyReading.{loaded_least, loaded_used_up}
use Rattle.leaf_journal.proofs.open_keys.use_leaf.Goals as goal

pub sign-requires-clause-covers : goal.sign-requires-clause-covers
sign-requires-clause-covers g c = λ file told. loaded_covers _ file (c.requires.loaded file told)

pub returns-in-Ok-clause-ends : goal.returns-in-Ok-clause-ends
returns-in-Ok-clause-ends g c =
    let long : length c.sign.new.out ≡ length c.as_mut_slice.result.now = c.sign.auto.out in
    let size : length c.sign.new.out ≡ c.args.key.room.len = omega (arith, long, c.as_mut_slice.ensures.len) in
    let whole = c.from_vec.ensures ∙ take_at c.sign.new.out _ c.args.key.room.len size in
    record {
      leaf = c.in-Ok.field-0;
      file = λ now told. (let was = c.in-Ok.ensures.written now told in
          (was.0, was.1, loaded_least was.0 c.args.key.signer c.in-Ok.field-0 (c.requires.loaded was.0 was.1) c.in-Ok.ensures.least.0, was.2));
      used = c.in-Ok.ensures.used;
      signs = subst (λ (s : List ℕ). Signs c.args.key.signer.secret c.args.message.now c.in-Ok.field-0 s) (sym whole) c.in-Ok.ensures.signed;
    }

pub returns-in-Err-Exhausted-clause-ends : goal.returns-in-Err-Exhausted-clause-ends
returns-in-Err-Exhausted-clause-ends g c =
    let is = ap Err c.in-Err-Exhausted.field-0-is in
    record {
      used_up = λ file told. loaded_used_up file c.args.key.signer (c.requires.loaded file told) (c.in-Err-Exhausted.ensures.exhausted.0 is);
      same = (c.in-Err-Exhausted.ensures.untouched is).1;
    }

pub returns-clause-ends : goal.returns-clause-ends
returns-clause-ends g c = λ now told.
    let failed = c.in-Err-Disk.ensures.failed (ap Err c.in-Err-Disk.field-0-is) in
    let was = failed.3 now told in
    (was.0, failed.0, was.1, loaded_least was.0 c.args.key.signer failed.0 (c.requires.loaded was.0 was.1) failed.1, was.2)
