use Rattle.std.proofs.Common.{◌≡◌, ◌<◌, ℕ, List, length, ap, sym, subst, ◌∙◌}
use Rattle.octets.specs.BytesMap.{by_bytes}
use Rattle.std.specs.BTreeMap as tree
use Rattle.std.specs.List.{All}
use Rattle.std.proofs.lemmas.Bool.{true≢false}
use Rattle.recovery.specs.Lanes.{is_skipped_in, lane_of}
use Rattle.recovery.specs.Rows.{row_at}
use Rattle.recovery.specs.declared.rows.Row.{Row}
use Rattle.recovery.proofs.LaneLemmas.{lane_for, lanes_are}
use Rattle.recovery.proofs.RowReads.{no_lane_skips, row_read, skipped_where}
use Rattle.recovery.proofs.marks.Marks.is_skipped.Goals as goal

pub returns-in-Some : goal.returns-in-Some
returns-in-Some c =
    let rows = c.self.inside.rows.items in
    let slots = c.self.inside.slots.items in
    let names = c.self.inside.names in
    let at = c.in-Some.at in
    let found = c.in-Some.ensures.found in
    let within : at < length rows = subst (λ xs. at < length xs) c.as_slice.ensures.value found.0 in
    let number : (row_at rows at).number ≡ c.args.number = ap (λ xs. (row_at xs at).number) (sym c.as_slice.ensures.value) ∙ found.1 in
    let is : c.index.result.now.skipped ≡ (row_at rows at).skipped = row_read (λ r. r.skipped) rows at c.index.result.now within c.index.ensures in
    let lane : (name : List ℕ) → lane_of c.args.self.now name ≡ lane_for rows slots (tree.get by_bytes names name) = λ name. ap (λ m. lane_of m name) (sym c.self.view_is) ∙ lanes_are rows slots names name in
    let both = skipped_where rows slots names at c.self.invariant within in (
      λ yes.
          let w = both.0 (sym is ∙ yes) in
          (w.0, ap (λ n. is_skipped_in n (lane_of c.args.self.now w.0)) (sym number) ∙ ap (is_skipped_in (row_at rows at).number) (lane w.0) ∙ w.1),
      λ w. is ∙ both.1 (w.0, sym (ap (λ n. is_skipped_in n (lane_of c.args.self.now w.0)) (sym number) ∙ ap (is_skipped_in (row_at rows at).number) (lane w.0)) ∙ w.1),
    )

pub returns-in-None : goal.returns-in-None
returns-in-None c =
    let rows = c.self.inside.rows.items in
    let slots = c.self.inside.slots.items in
    let names = c.self.inside.names in
    let none = subst (λ xs. All (λ (r : Row). r.number ≡ c.args.number → ⊥) xs) c.as_slice.ensures.value c.in-None.ensures.none in (
      λ yes. absurd (true≢false (sym yes)),
      λ w. sym (ap (λ m. is_skipped_in c.args.number (lane_of m w.0)) (sym c.self.view_is) ∙ ap (is_skipped_in c.args.number) (lanes_are rows slots names w.0) ∙ no_lane_skips c.args.number rows slots none (tree.get by_bytes names w.0)) ∙ w.1,
    )
