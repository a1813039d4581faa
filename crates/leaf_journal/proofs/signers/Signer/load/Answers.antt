use Rattle.std.proofs.Common.{◌≡◌, ◌∙◌, ℕ, ap, drop, sym, subst}
use Rattle.lms_keys.specs.HssSecret.{Secret}
use Rattle.leaf_journal.specs.KeyFile.{IsKeyFile, start_of}
use Rattle.leaf_journal.proofs.Leaves.{loaded_covers, opens}
use Rattle.leaf_journal.proofs.Moving.{kept_on}
use Rattle.leaf_journal.proofs.signers.Signer.load.Goals as goal

pub returns-in-Ok-make_key-clause-loaded : goal.returns-in-Ok-make_key-clause-loaded
returns-in-Ok-make_key-clause-loaded g c = λ file told.
    let begins : c.start-start.result ≡ start_of c.in-Ok-make_key.key.below = c.start-start.ensures.begins ∙ sym (ap (λ (s : Secret). start_of s.below) c.in-Ok-make_key.ensures) in
    record {
      is = subst (λ (secret : Secret). IsKeyFile file secret) (sym c.in-Ok-make_key.ensures) (c.in-Ok.ensures.head file (c.in-Ok-read_marks.ensures.kept.same file told));
      marked = c.in-Ok-read_marks.ensures.marks file told ∙ ap (λ (n : ℕ). drop n file) begins;
    }

pub returns-in-Ok-make_key-clause-covers : goal.returns-in-Ok-make_key-clause-covers
returns-in-Ok-make_key-clause-covers g c = λ file told. loaded_covers _ file (returns-in-Ok-make_key-clause-loaded g c file told)

pub returns-in-Ok-make_key-clause-any_moment : goal.returns-in-Ok-make_key-clause-any_moment
returns-in-Ok-make_key-clause-any_moment g c =
    kept_on g.D.Disk.moment g.D.Disk.left_since g.D.Disk.may_leave c.args.disk.now c.read_head.new.disk c.read_marks.new.disk
    c.in-Ok.ensures.any_moment c.in-Ok.ensures.kept.no_more c.in-Ok-read_marks.ensures.any_moment

pub returns-in-Ok-make_key-clause-opened : goal.returns-in-Ok-make_key-clause-opened
returns-in-Ok-make_key-clause-opened g c = λ file told.
    opens g.D.Disk.may_leave c.args.disk.now c.read_marks.new.disk file _
    (λ image may. c.in-Ok.ensures.kept.no_more image (c.in-Ok-read_marks.ensures.kept.no_more image may))
    (g.met.D.Disk.seen_may_stay c.read_marks.new.disk file told) (returns-in-Ok-make_key-clause-loaded g c file told)

pub returns-in-Err-read_marks-clause-memory : goal.returns-in-Err-read_marks-clause-memory
returns-in-Err-read_marks-clause-memory g c = λ is file told. (_, c.in-Ok.ensures.head file (c.in-Err-read_marks.ensures.kept.same file told))

pub returns-in-Err-make_key-clause-memory : goal.returns-in-Err-make_key-clause-memory
returns-in-Err-make_key-clause-memory g c = λ is file told. (_, c.in-Ok.ensures.head file (c.in-Ok-read_marks.ensures.kept.same file told))

pub returns-in-Ok-make_key-clause-kept : goal.returns-in-Ok-make_key-clause-kept
returns-in-Ok-make_key-clause-kept g c = record {
  same = λ file told. c.in-Ok.ensures.kept.same file (c.in-Ok-read_marks.ensures.kept.same file told);
  no_more = λ image may. c.in-Ok.ensures.kept.no_more image (c.in-Ok-read_marks.ensures.kept.no_more image may);
}
