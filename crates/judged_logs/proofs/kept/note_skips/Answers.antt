use Rattle.std.proofs.Common.{◌&&◌, ◌||◌, ◌+◌, List, ℕ, false, take, refl, sym, ap, subst, ◌∙◌, arith}
use Rattle.std.specs.List.{list_any}
use Rattle.std.proofs.lemmas.List.{take_all}
use Rattle.judging.specs.Logs.{entry_at, has_id, skipped}
use Rattle.judging.proofs.HitLemmas.{hit_more}
use Rattle.judged_logs.specs.Keeping.{IsNoted, is_skipped_among}
use Rattle.judged_logs.proofs.Takes.{noted_as, noted_nothing, noted_then, or_and}
use Rattle.judged_logs.proofs.kept.note_skips.Goals as goal

pub ids-init : goal.ids-init
ids-init g c = λ rules log stands. noted_nothing (λ q. false) c.args.by c.args.skippers.now (λ q some. refl)

pub ids-preserved : goal.ids-preserved
ids-preserved g c = λ rules log stands.
    let ids = c.args.ids.now in
    let k = c.ids.id-index in
    let one = is_skipped_among rules log (take k ids) in
    let two : ℕ → _ = λ q. has_id (entry_at log q) c.id-item.result && skipped rules log q in
    noted_as (λ q. one q || two q) (is_skipped_among rules log (take (k + 1) ids)) c.args.by c.args.skippers.now c.note_skip.new.skippers
    (noted_then one two c.args.by c.args.skippers.now c.ids.skippers c.note_skip.new.skippers (c.ids.invariant rules log stands) (c.in_ok-note_skip.ensures rules log stands))
    (λ q some.
    or_and (list_any (λ id. has_id (entry_at log q) id) (take k ids)) (has_id (entry_at log q) c.id-item.result) (skipped rules log q)
    ∙ ap (λ b. b && skipped rules log q) (hit_more (λ id n. has_id (entry_at log n) id) ids k c.id-item.result q c.ids-test.true (sym c.id-item.is)))

pub returns : goal.returns
returns g c = λ rules log stands.
    subst (λ (xs : List (List ℕ)). IsNoted (is_skipped_among rules log xs) c.args.by c.args.skippers.now c.ids.skippers) (take_all c.ids.id-index c.args.ids.now c.ids-test.false) (c.ids.invariant rules log stands)
