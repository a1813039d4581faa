use Rattle.std.proofs.Common.{◌≡◌, ◌+◌, ◌-◌, ◌++◌, ◌∷◌, [], List, None, inr, length, take, refl, ap, ◌∙◌, rules}
use Rattle.pushes.specs.Steps.{change_of}
use Rattle.pushes.specs.declared.rows.Row.{Row}
use Rattle.desk_turns.proofs.Taking.{done_by, doubted_by, without_last}
use Rattle.desk_turns.proofs.desk_log.DeskLog.take.Goals as goal

pub returns-in-Ok-commit_change-clause-steps : goal.returns-in-Ok-commit_change-clause-steps
returns-in-Ok-commit_change-clause-steps g c =
    let change_is : c.in-Ok.change ≡ change_of c.args.self.now.log c.args.push.now = search rules in
    let rows_are : c.push.new.self ≡ c.args.self.now.log ++ record { id = c.args.push.now.entry.id; seat = c.args.seat } ∷ [] = search rules in
    let clear : c.self.inside.doubt ≡ None = search rules in
    let count : c.len-len.result + 1 ≡ length c.args.self.now.log + 1 = search rules in
    done_by g.R.Keeper c.args.keeper.now c.commit_change.new.keeper c.args.self.now _ c.args.push.now c.requires.fits c.push.new.self c.self.inside.doubt c.in-Ok.change c.args.seat (c.len-len.result + 1) change_is rows_are clear count refl c.in-Ok-commit_change.ensures.ends

pub returns-in-Err-Failed-clause-steps : goal.returns-in-Err-Failed-clause-steps
returns-in-Err-Failed-clause-steps g c =
    let change_is : c.in-Ok.change ≡ change_of c.args.self.now.log c.args.push.now = search rules in
    let pushed : c.push.new.self ≡ c.args.self.now.log ++ record { id = c.args.push.now.entry.id; seat = c.args.seat } ∷ [] = search rules in
    let rows_are : c.pop.new.self ≡ c.args.self.now.log =
    c.pop.ensures ∙ ap (λ (log : List Row). take (length log - 1) log) pushed ∙ without_last c.args.self.now.log (record { id = c.args.push.now.entry.id; seat = c.args.seat }) in
    inr (doubted_by g.R.Keeper c.args.keeper.now c.commit_change.new.keeper c.args.self.now _ c.args.push.now c.requires.fits c.pop.new.self c.in-Ok.change change_is rows_are refl (rw c.in-Err-Failed.field-0-is at c.in-Err-Failed.ensures.ends))
