use Rattle.commands_mirror.proofs.SameMirror.{same_check, same_make, same_mirror}
use Rattle.commands_mirror.proofs.laws.one_of_mirror.Goals as goal

pub returns : goal.returns
returns c = record {
  mirror = same_mirror c.one_spelling.ensures c.one_refusal.ensures c.one_making.ensures c.logs.ensures.one_break c.logs.ensures.never_both;
  make = same_make;
  check = same_check c.one_dossier.ensures;
}
