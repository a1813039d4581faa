use Rattle.std.proofs.Common.{◌+◌, ◌++◌, cond, [], ◌∷◌, Some, length, ap, ◌∙◌}
use Rattle.std.specs.BTreeMap as tree
use Rattle.std.specs.Str.{bytes_eq}
use Rattle.octets.specs.BytesMap.{by_bytes}
use Rattle.recovery.specs.Lanes.{lane_of}
use Rattle.judging.specs.Books.{Kept, kept_fault, next_number, place_of}
use Rattle.judging.proofs.Places.{same_test}
use Rattle.judging.proofs.book.Book.add_note.Goals as goal

pub returns-clause-added : goal.returns-clause-added
returns-clause-added g c =
    let v = c.self.view_is in
    record {
      lanes = λ name. ap (λ k. lane_of k.marks name) v;
      target = c.in_ok-remember.ensures.target ∙ ap (λ k. k.targets ++ c.zeros.result ∷ []) v ∙ ap (λ z. c.args.self.now.targets ++ z ∷ []) c.zeros.ensures;
      place = λ q. c.in_ok-remember.ensures.put q ∙ ap (λ b. cond b (Some (length c.self.inside.targets.items + 1)) (tree.get by_bytes c.self.inside.places q)) (same_test c.args.id.now q) ∙ ap (λ (k : Kept g.row.F.Denot). cond (bytes_eq c.args.id.now q) (Some (next_number k)) (place_of k q)) v;
      fault = λ number. ap (λ k. kept_fault k number) v;
    }
