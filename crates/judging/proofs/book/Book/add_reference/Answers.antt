use Rattle.std.proofs.Common.{◌≡◌, ◌+◌, ◌-◌, ◌++◌, cond, [], ◌∷◌, Some, is_some, length, take, ap, sym, ◌∙◌, arith}
use Rattle.std.specs.BTreeMap as tree
use Rattle.std.specs.Ordering.{nat_cmp}
use Rattle.std.specs.Str.{bytes_eq}
use Rattle.octets.specs.BytesMap.{by_bytes}
use Rattle.recovery.specs.Lanes.{lane_of, with_number}
use Rattle.judging.specs.Books.{Kept, kept_fault, next_number, place_of}
use Rattle.judging.proofs.Places.{front_of, same_test, taken_back}
use Rattle.judging.proofs.book.Book.add_reference.Goals as goal

pub returns-in-Ok-clause-added : goal.returns-in-Ok-clause-added
returns-in-Ok-clause-added g c =
    let v = c.self.view_is in
    let name = c.args.name.now in
    let n : c.len.result ≡ length c.self.inside.targets.items = omega arith in
    record {
      lanes = λ other. c.in-Ok.ensures.pushed other
          ∙ ap (λ m. cond (bytes_eq name other) (with_number (m + 1) c.is_some-refused.result (lane_of c.self.inside.marks other)) (lane_of c.self.inside.marks other)) n
          ∙ ap (λ r. cond (bytes_eq name other) (with_number (length c.self.inside.targets.items + 1) r (lane_of c.self.inside.marks other)) (lane_of c.self.inside.marks other)) c.is_some-refused.ensures
          ∙ ap (λ (k : Kept g.row.F.Denot). cond (bytes_eq name other) (with_number (next_number k) (is_some c.args.fault) (lane_of k.marks other)) (lane_of k.marks other)) v;
      targets_now = c.in_ok-remember.ensures.target ∙ ap (λ k. k.targets ++ c.args.target.now ∷ []) v;
      place = λ q. c.in_ok-remember.ensures.put q ∙ ap (λ b. cond b (Some (length c.self.inside.targets.items + 1)) (tree.get by_bytes c.self.inside.places q)) (same_test c.args.id.now q) ∙ ap (λ (k : Kept g.row.F.Denot). cond (bytes_eq c.args.id.now q) (Some (next_number k)) (place_of k q)) v;
      new_fault = λ f is. ap (tree.get nat_cmp c.add_fault.new.faults) (sym (ap (λ m. m + 1) n ∙ ap next_number v)) ∙ c.in_ok-add_fault.ensures.put f is;
      old_fault = λ number apart. c.in_ok-add_fault.ensures.others number (λ e. apart (e ∙ ap (λ m. m + 1) n ∙ ap next_number v)) ∙ ap (λ k. kept_fault k number) v;
    }

pub returns-in-Err-clause-same : goal.returns-in-Err-clause-same
returns-in-Err-clause-same g c =
    let v = c.self.view_is in
    let n : c.len.result ≡ length c.self.inside.targets.items = omega arith in
    record {
      lanes = λ other. c.in-Err.ensures.same other ∙ ap (λ k. lane_of k.marks other) v;
      target = c.forget.ensures.target ∙ ap (λ xs. take (length xs - 1) xs) c.in_ok-remember.ensures.target ∙ front_of c.self.inside.targets.items c.args.target.now ∙ ap (λ k. k.targets) v;
      place = λ q.
          taken_back c.args.id.now q (tree.get by_bytes c.self.inside.places) (tree.get by_bytes c.remember.new.places) (tree.get by_bytes c.forget.new.places) (Some (length c.self.inside.targets.items + 1)) (ap (λ (k : Kept g.row.F.Denot). place_of k c.args.id.now) v ∙ c.requires) (c.in_ok-remember.ensures.put q) (c.forget.ensures.place q)
          ∙ ap (λ k. place_of k q) v;
      fault = λ number apart. c.in_ok-add_fault.ensures.others number (λ e. apart (e ∙ ap (λ m. m + 1) n ∙ ap next_number v)) ∙ ap (λ k. kept_fault k number) v;
    }
