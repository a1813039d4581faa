use Rattle.std.proofs.Common.{refl}
use Rattle.verify_ref.proofs.next_entry.look_in.Goals as goal

pub returns-in-Ok-clause-same_store : goal.returns-in-Ok-clause-same_store
returns-in-Ok-clause-same_store g c = (c.look.ensures.same.comes c.args.store.now (record { same = refl; same_lesson = refl; comes = λ first came. came; lesson = λ r told taught. taught })).same

pub returns-in-Ok-clause-same_lesson : goal.returns-in-Ok-clause-same_lesson
returns-in-Ok-clause-same_lesson g c = (c.look.ensures.same.comes c.args.store.now (record { same = refl; same_lesson = refl; comes = λ first came. came; lesson = λ r told taught. taught })).same_lesson

pub returns-in-Ok-clause-same : goal.returns-in-Ok-clause-same
returns-in-Ok-clause-same g c = record {
  content = c.look.ensures.same.content;
  tells = c.look.ensures.same.tells;
  left = c.look.ensures.same.left;
  comes = (c.look.ensures.same.comes c.args.store.now (record { same = refl; same_lesson = refl; comes = λ first came. came; lesson = λ r told taught. taught })).comes;
}

pub returns-in-Err-Failed-clause-same_store : goal.returns-in-Err-Failed-clause-same_store
returns-in-Err-Failed-clause-same_store g c = (c.look.ensures.same.comes c.args.store.now (record { same = refl; same_lesson = refl; comes = λ first came. came; lesson = λ r told taught. taught })).same

pub returns-in-Err-Failed-clause-same_lesson : goal.returns-in-Err-Failed-clause-same_lesson
returns-in-Err-Failed-clause-same_lesson g c = (c.look.ensures.same.comes c.args.store.now (record { same = refl; same_lesson = refl; comes = λ first came. came; lesson = λ r told taught. taught })).same_lesson

pub returns-in-Err-Failed-clause-same : goal.returns-in-Err-Failed-clause-same
returns-in-Err-Failed-clause-same g c = record {
  content = c.look.ensures.same.content;
  tells = c.look.ensures.same.tells;
  left = c.look.ensures.same.left;
  comes = (c.look.ensures.same.comes c.args.store.now (record { same = refl; same_lesson = refl; comes = λ first came. came; lesson = λ r told taught. taught })).comes;
}

pub returns-in-Err-Memory-clause-same_store : goal.returns-in-Err-Memory-clause-same_store
returns-in-Err-Memory-clause-same_store g c = (c.look.ensures.same.comes c.args.store.now (record { same = refl; same_lesson = refl; comes = λ first came. came; lesson = λ r told taught. taught })).same

pub returns-in-Err-Memory-clause-same_lesson : goal.returns-in-Err-Memory-clause-same_lesson
returns-in-Err-Memory-clause-same_lesson g c = (c.look.ensures.same.comes c.args.store.now (record { same = refl; same_lesson = refl; comes = λ first came. came; lesson = λ r told taught. taught })).same_lesson

pub returns-in-Err-Memory-clause-same : goal.returns-in-Err-Memory-clause-same
returns-in-Err-Memory-clause-same g c = record {
  content = c.look.ensures.same.content;
  tells = c.look.ensures.same.tells;
  left = c.look.ensures.same.left;
  comes = (c.look.ensures.same.comes c.args.store.now (record { same = refl; same_lesson = refl; comes = λ first came. came; lesson = λ r told taught. taught })).comes;
}
