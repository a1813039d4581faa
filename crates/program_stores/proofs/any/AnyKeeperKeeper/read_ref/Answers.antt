use Rattle.program_stores.proofs.any.AnyKeeperKeeper.read_ref.Goals as goal

pub returns-clause-same : goal.returns-clause-same
returns-clause-same c =
    let same = c.read_ref.ensures.same in
    record { content = same.content; tells = λ told. told; left = λ told r now. now; comes = λ first came. same.comes first.kind came }
