use Rattle.std.proofs.Common.{◌≡◌, ℕ, List, length, sym}
use Rattle.std.specs.Prelude.{Some}
use Rattle.leaf_journal.specs.KeyFile.{IsKeyFile}
use Rattle.leaf_journal.specs.Loading.{Begins, secret_with}
use Rattle.leaf_journal.specs.declared.headers.Header.{Header}
use Rattle.leaf_journal.proofs.Reading.{if_ok}
use Rattle.leaf_journal.proofs.loading.read_head.Goals as goal

pub returns-clause-head : goal.returns-clause-head
returns-clause-head g c =
    if_ok c.read_header.result
    (λ (header : Header). (file : List ℕ) → length file ≡ c.in_ok-len.len → Begins c.read_front.new.head file → IsKeyFile file (secret_with header c.read_header.new.i c.read_header.new.seed))
    (λ (header : Header). (file : List ℕ) → g.D.Disk.seen c.read_front.new.disk ≡ Some file → IsKeyFile file (secret_with header c.read_header.new.i c.read_header.new.seed))
    (λ header found file told. found file (sym (c.in_ok-len.ensures.answer file (c.in-Ok.ensures.kept.same file told))) (c.in-Ok.ensures.front file told))
    c.read_header.ensures.found
