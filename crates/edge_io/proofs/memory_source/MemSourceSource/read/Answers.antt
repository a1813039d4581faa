use Rattle.std.proofs.Common.{◌≡◌, ◌+◌, ℕ, List, ◌++◌, take, drop, sym, ap, ◌∙◌}
use Rattle.edge_io.specs.Told.{Giving}
use Rattle.edge_io.proofs.Parts.{rejoined}
use Rattle.edge_io.proofs.memory_source.MemSourceSource.read.Goals as goal

pub returns-clause-bytes : goal.returns-clause-bytes
returns-clause-bytes c =
    let left : drop c.self.inside.at c.self.inside.content ≡ c.args.self.now.left = ap (λ (s : Giving). s.left) c.self.view_is in
    let front : take c.copy_front-count.result c.copy_front-count.new.to ≡ take c.copy_front-count.result (drop c.self.inside.at c.self.inside.content) =
    c.copy_front-count.ensures.bytes ∙ ap (take c.copy_front-count.result) (c.split_at.ensures.back ∙ ap (drop c.self.inside.at) c.as_slice.ensures) in
    sym left ∙ rejoined c.self.inside.content c.self.inside.at c.copy_front-count.result ∙ ap (λ (a : List ℕ). a ++ drop (c.self.inside.at + c.copy_front-count.result) c.self.inside.content) (sym front)
