use Rattle.program_stores.proofs.any.AnyKeeperKeeper.next_object_after.Goals as goal

pub returns-clause-same : goal.returns-clause-same
returns-clause-same c =
    let same = c.next_object_after.ensures.same in
    record { content = same.content; tells = λ told. told; left = λ told r now. now; comes = λ first came. same.comes first.kind came }
